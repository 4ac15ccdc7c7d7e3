use Rattle.std.proofs.Common.{◌≡◌, ◌+◌, ◌-◌, ◌^◌, ◌<◌, ◌∙◌, ℕ, length, map, sym, ap, subst, arith}
use Rattle.lv_schema.specs.Condensed.{condensed}
use Rattle.lv_versions.specs.Versions.{Kept}
use Rattle.lv_base.specs.Bases.{BaseRoom, CanCommit, brought_in, defs_of, net_in, versions_in}
use Rattle.lv_base.proofs.Prepared.{roomier_base, roomier_ready}
use Rattle.lv_base.proofs.base.Base.prepare_moved.Goals as goal

pub invariant_of-self : goal.invariant_of-self
invariant_of-self c =
    let s = c.self.inside in
    let before : BaseRoom = record { tables = s.tables.items; deltas = s.deltas; number = s.number; pruned = s.pruned; free = s.tables.cap - s.tables.len } in
    let old = c.deref_mut.ensures.value in
    roomier_base before c.reserve_all.new.tables c.reserve_all.new.deltas c.deref_mut.result.now old s.tables.len (omega (arith, c.deref_mut.ensures.len, ap length old)) c.reserve_all.ensures.same c.reserve_all.ensures.entries c.self.invariant

pub invariant_of-self-2 : goal.invariant_of-self-2
invariant_of-self-2 c =
    let s = c.self.inside in
    let before : BaseRoom = record { tables = s.tables.items; deltas = s.deltas; number = s.number; pruned = s.pruned; free = s.tables.cap - s.tables.len } in
    let old = c.deref_mut.ensures.value in
    roomier_base before c.reserve_all.new.tables c.reserve_all.new.deltas c.deref_mut.result.now old s.tables.len (omega (arith, c.deref_mut.ensures.len, ap length old)) c.reserve_all.ensures.same c.reserve_all.ensures.entries c.self.invariant

pub returns-clause-ready : goal.returns-clause-ready
returns-clause-ready c =
    let s = c.self.inside in
    let actions = c.in_ok-ready.ready.actions in
    let nets = c.in_ok-ready.ready.nets in
    let before : BaseRoom = record { tables = s.tables.items; deltas = s.deltas; number = s.number; pruned = s.pruned; free = s.tables.cap - s.tables.len } in
    let old = c.deref_mut.ensures.value in
    let read = c.deref.ensures.value in
    let copied = c.in_ok-ready.ensures.actions in
    let can : CanCommit before actions = subst (CanCommit before) (sym copied) (subst (λ (b : BaseRoom). CanCommit b c.args.actions) (sym c.self.view_is) c.requires) in
    let each : (t : ℕ) → t < length s.tables.items → net_in nets t ≡ condensed (defs_of before) actions t =
    λ t lt. c.in_ok-ready.ensures.each t (omega (arith, lt, ap length read)) ∙ (λ i. condensed (map (λ (k : Kept). k.def) (read i)) (sym copied i) t) in
    let counted : versions_in s.tables.items + brought_in nets < 2 ^ 64 = omega (arith, c.in_ok-ready.ensures.counted, ap versions_in read) in
    roomier_ready before c.reserve_all.new.tables c.reserve_all.new.deltas c.deref_mut.result.now old s.tables.len (omega (arith, c.deref_mut.ensures.len, ap length old)) c.reserve_all.ensures.same c.reserve_all.ensures.entries
    actions nets can (c.in_ok-ready.ensures.all ∙ ap length read) each c.in_ok-reserve_all.ensures.room c.in_ok-reserve_all.ensures.entries_room counted
