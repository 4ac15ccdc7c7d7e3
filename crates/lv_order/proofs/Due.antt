-- What a schedule holds: no release, workers that there are, and marks of names.
use Rattle.std.proofs.Common.{◌≡◌, ℕ, zero, suc, true, List, [], ◌∷◌, ◌++◌, length, map, replicate, sym, subst, arith}
use Rattle.std.specs.List.{All, AllByRecursion, flat_map, range_with_len}
use Rattle.lv_values.specs.Names.{is_lower_name}
use Rattle.lv_schema.proofs.Apart.{all_append, all_flat_map, all_map, all_true}
use Rattle.lv_plain.specs.declared.program.OrderItem.{OrderItem}
use Rattle.lv_plain.specs.declared.program.OrderItem.TheVariants as item
use Rattle.lv_plain.specs.declared.program.Program.{Program}
use Rattle.lv_plain.specs.declared.event.Event.{Event}
use Rattle.lv_plain.specs.declared.event.Event.TheVariants.{Turn as turn_of, Fetch as fetch_of, Install as install_of, Release as release_of, Mark as mark_of, Clean as clean_up}
use Rattle.lv_plain.specs.Events.{item_events, left_over, round, rounds, schedule, greatest}
use Rattle.lv_plain.specs.Following.{IsItem, IsFollowable}
use Rattle.lv_plain.specs.Legal.{IsWorker}

-- what is asked of an event, whatever the state
abbrev pub IsDue : Event → Type 0
IsDue (turn_of session) = Unit {0}
IsDue (fetch_of worker) = IsWorker worker
IsDue (install_of worker) = IsWorker worker
IsDue (release_of worker) = ⊥
IsDue (mark_of name) = is_lower_name name ≡ true
IsDue clean_up = Unit {0}

abbrev AreDue : List Event → Type 0
AreDue events = AllByRecursion IsDue events

setup_due : (n : ℕ) → AreDue (replicate n (turn_of 0))
setup_due zero = tt
setup_due (suc n) = (tt, setup_due n)

item_due : (it : OrderItem) → IsItem it → AreDue (item_events it)
item_due (item.Turn session) is = (tt, tt)
item_due (item.Fetch worker) is = (is, tt)
item_due (item.Install worker) is = (is, tt)
item_due (item.Work worker) is = (is, (is, tt))
item_due (item.Mark view) is = (is, tt)
item_due (item.Clean) is = (tt, tt)

items_due : (order : List OrderItem) → All IsItem order → AllByRecursion (λ it. AreDue (item_events it)) order
items_due [] all = tt
items_due (it ∷ order) all = (item_due it (all 0 it (omega arith)), items_due order (λ k d lt. all (suc k) d (omega arith)))

turns_due : (sessions : List ℕ) → AreDue (map turn_of sessions)
turns_due sessions = all_map turn_of IsDue sessions (all_true (λ s. IsDue (turn_of s)) (λ s. tt) sessions)

rounds_due : (sessions : List ℕ) (left : ℕ → ℕ) → AreDue (rounds sessions left)
rounds_due sessions left =
    all_flat_map (round sessions left) IsDue (range_with_len 0 (greatest (map left sessions)))
    (all_true (λ k. AreDue (round sessions left k)) (λ k. turns_due _) (range_with_len 0 (greatest (map left sessions))))

schedule_due : (p : Program) → IsFollowable p → AreDue (schedule p)
schedule_due p followable =
    let setup = replicate (length p.setup) (turn_of 0) in
    let order = flat_map item_events p.order in
    let rest = rounds (range_with_len 1 (length p.sessions)) (left_over p) in
    all_append IsDue (setup ++ order) rest
    (all_append IsDue setup order (setup_due (length p.setup)) (all_flat_map item_events IsDue p.order (items_due p.order followable.items)))
    (rounds_due (range_with_len 1 (length p.sessions)) (left_over p))

one_due : (before : List Event) (event : Event) (behind : List Event) → AreDue (before ++ event ∷ behind) → IsDue event
one_due [] event behind all = all.0
one_due (b ∷ before) event behind all = one_due before event behind all.1

pub event_due : (p : Program) → IsFollowable p → (before : List Event) (event : Event) (behind : List Event) → before ++ event ∷ behind ≡ schedule p → IsDue event
event_due p followable before event behind all = one_due before event behind (subst AreDue (sym all) (schedule_due p followable))
