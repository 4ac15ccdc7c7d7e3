use Rattle.std.proofs.Common.{◌≤◌, ◌-◌, ◌++◌, ◌∙◌, length, drop, take, refl, sym, ap, subst, arith}
use Rattle.lv_stands.specs.Moves.{BaseCleaned}
use Rattle.lv_base.specs.Bases.{BaseRoom, base_of, indexes_in, versions_in}
use Rattle.lv_base.proofs.Places.{counted_is, whole}
use Rattle.lv_base.proofs.Prepared.{cleaned_base, cleaned_kept, written}
use Rattle.lv_base.proofs.base.Base.clean.Goals as goal

pub count_all-requires : goal.count_all-requires
count_all-requires c =
    let s = c.self.inside in
    let before : BaseRoom = record { tables = s.tables.items; deltas = s.deltas; number = s.number; pruned = s.pruned; free = s.tables.cap - s.tables.len } in
    let after : BaseRoom = record { tables = c.prune_each.new.tables; deltas = c.prune.new.self; number = s.number; pruned = c.args.floor; free = s.tables.cap - s.tables.len } in
    let old = c.deref_mut.ensures.value in
    let high : c.args.floor ≤ s.number = omega (arith, c.requires.high, ap (λ (b : BaseRoom). b.number) c.self.view_is) in
    let base = cleaned_base before after c.self.invariant high c.deref_mut.result.now old s.tables.len (omega (arith, c.deref_mut.ensures.len, ap length old)) c.prune_each.ensures.all c.prune_each.ensures.each refl
    c.prune.ensures.last c.prune.ensures.floor in
    omega (arith, base.counted, ap versions_in c.deref.ensures.value)

pub returns-clause-cleaned : goal.returns-clause-cleaned
returns-clause-cleaned c =
    let s = c.self.inside in
    let before : BaseRoom = record { tables = s.tables.items; deltas = s.deltas; number = s.number; pruned = s.pruned; free = s.tables.cap - s.tables.len } in
    let after : BaseRoom = record { tables = c.prune_each.new.tables; deltas = c.prune.new.self; number = s.number; pruned = c.args.floor; free = s.tables.cap - s.tables.len } in
    let old = c.deref_mut.ensures.value in
    let high : c.args.floor ≤ s.number = omega (arith, c.requires.high, ap (λ (b : BaseRoom). b.number) c.self.view_is) in
    subst (λ (b : BaseRoom). BaseCleaned c.args.floor (base_of b) (base_of (written s.tables.len s.tables.items after))) c.self.view_is
    (cleaned_kept before after c.self.invariant high c.deref_mut.result.now old s.tables.len (omega (arith, c.deref_mut.ensures.len, ap length old)) c.prune_each.ensures.all c.prune_each.ensures.each refl c.prune.ensures.entries)

pub returns-clause-versions : goal.returns-clause-versions
returns-clause-versions c =
    let s = c.self.inside in
    let new = c.prune_each.new.tables in
    c.count_all.ensures ∙ ap versions_in c.deref.ensures.value ∙ sym (counted_is (take s.tables.len (new ++ drop (length new) s.tables.items)))

pub returns-clause-indexes : goal.returns-clause-indexes
returns-clause-indexes c =
    let s = c.self.inside in
    let new = c.prune_each.new.tables in
    let old = c.deref_mut.ensures.value in
    ap indexes_in (whole s.tables.len new s.tables.items (c.prune_each.ensures.all ∙ ap length old) (omega (arith, c.deref_mut.ensures.len, ap length old)))
    ∙ c.prune_each.ensures.indexes
    ∙ ap indexes_in old
    ∙ ap (λ (b : BaseRoom). indexes_in b.tables) c.self.view_is
