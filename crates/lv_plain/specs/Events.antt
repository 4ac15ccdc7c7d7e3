-- Events, and the order in which a program asks for them.
use Rattle.std.specs.Prelude.{ℕ, ◌-◌, ◌==◌, nat_lt, max, Bool, false, List, [], ◌∷◌, ◌++◌, length, map, filter, replicate}
use Rattle.std.specs.List.{flat_map, range_with_len, count_by}
use Rattle.lv_plain.specs.declared.event.Event.{Event}
use Rattle.lv_plain.specs.declared.event.Event.TheVariants.{Turn as turn_of, Fetch as fetch_of, Install as install_of, Mark as mark_of, Clean as clean_up}
use Rattle.lv_plain.specs.declared.program.OrderItem.{OrderItem}
use Rattle.lv_plain.specs.declared.program.OrderItem.TheVariants as item
use Rattle.lv_plain.specs.declared.program.Program.{Program}
use Rattle.lv_plain.specs.Programs.{lines_of}

-- the events of an item of the order
abbrev pub item_events : OrderItem → List Event
item_events (item.Turn session) = turn_of session ∷ []
item_events (item.Fetch worker) = fetch_of worker ∷ []
item_events (item.Install worker) = install_of worker ∷ []
item_events (item.Work worker) = fetch_of worker ∷ install_of worker ∷ []
item_events (item.Mark view) = mark_of view ∷ []
item_events (item.Clean) = clean_up ∷ []

-- whether an item is the session's turn
abbrev pub is_turn_of : ℕ → OrderItem → Bool
is_turn_of session (item.Turn other) = other == session
is_turn_of session other = false

-- how many statements of a session the order leaves
abbrev pub left_over : Program → ℕ → ℕ
left_over p session = length (lines_of p session) - count_by (is_turn_of session) p.order

abbrev pub greatest : List ℕ → ℕ
greatest [] = 0
greatest (n ∷ ns) = max n (greatest ns)

-- rounds over the sessions as declared: in each, one turn for each that has a statement left
abbrev pub round : List ℕ → (ℕ → ℕ) → ℕ → List Event
round sessions left k = map turn_of (filter (λ session. nat_lt k (left session)) sessions)

abbrev pub rounds : List ℕ → (ℕ → ℕ) → List Event
rounds sessions left = flat_map (round sessions left) (range_with_len 0 (greatest (map left sessions)))

-- the setup; the order; and what the order leaves, in rounds
abbrev pub schedule : Program → List Event
schedule p =
    replicate (length p.setup) (turn_of 0)
    ++ flat_map item_events p.order
    ++ rounds (range_with_len 1 (length p.sessions)) (left_over p)
