use Rattle.std.proofs.Common.{◌+◌, ◌-◌, ◌∙◌, List, length, refl, sym, ap, subst, arith}
use Rattle.lv_stands.specs.Moves.{BaseCommits}
use Rattle.lv_versions.specs.Versions.{Kept}
use Rattle.lv_base.specs.Bases.{BaseRoom, CanTakeNet, IsReady, base_of, defs_of, indexes_in, net_in, table_in}
use Rattle.lv_base.proofs.Places.{whole}
use Rattle.lv_base.proofs.Prepared.{committed_base, committed_kept, takes_each, written}
use Rattle.lv_base.proofs.base.Base.commit.Goals as goal

pub commit_each-requires-clause-each : goal.commit_each-requires-clause-each
commit_each-requires-clause-each c =
    let s = c.self.inside in
    let actions = c.args.ready.actions in
    let nets = c.args.ready.nets in
    let before : BaseRoom = record { tables = s.tables.items; deltas = s.deltas; number = s.number; pruned = s.pruned; free = s.tables.cap - s.tables.len } in
    let ready : IsReady before actions nets = subst (λ (b : BaseRoom). IsReady b actions nets) (sym c.self.view_is) c.requires.ready in
    let old = c.deref_mut.ensures.value in
    λ t lt. subst (λ (ts : List Kept). CanTakeNet s.number (net_in nets t) (table_in ts t)) (sym old) (takes_each before actions nets c.self.invariant ready t (omega (arith, lt, ap length old)))

pub invariant_of-self : goal.invariant_of-self
invariant_of-self c =
    let s = c.self.inside in
    let actions = c.args.ready.actions in
    let nets = c.args.ready.nets in
    let before : BaseRoom = record { tables = s.tables.items; deltas = s.deltas; number = s.number; pruned = s.pruned; free = s.tables.cap - s.tables.len } in
    let after : BaseRoom = record { tables = c.commit_each.new.tables; deltas = c.append.new.self; number = s.number + 1; pruned = s.pruned; free = s.tables.cap - s.tables.len } in
    let ready : IsReady before actions nets = subst (λ (b : BaseRoom). IsReady b actions nets) (sym c.self.view_is) c.requires.ready in
    let old = c.deref_mut.ensures.value in
    committed_base before after actions nets c.self.invariant ready c.deref_mut.result.now old s.tables.len (omega (arith, c.deref_mut.ensures.len, ap length old)) c.commit_each.ensures.all c.commit_each.ensures.each refl refl
    c.append.ensures.last c.append.ensures.floor

pub returns-clause-commits : goal.returns-clause-commits
returns-clause-commits c =
    let s = c.self.inside in
    let actions = c.args.ready.actions in
    let nets = c.args.ready.nets in
    let before : BaseRoom = record { tables = s.tables.items; deltas = s.deltas; number = s.number; pruned = s.pruned; free = s.tables.cap - s.tables.len } in
    let after : BaseRoom = record { tables = c.commit_each.new.tables; deltas = c.append.new.self; number = s.number + 1; pruned = s.pruned; free = s.tables.cap - s.tables.len } in
    let ready : IsReady before actions nets = subst (λ (b : BaseRoom). IsReady b actions nets) (sym c.self.view_is) c.requires.ready in
    let old = c.deref_mut.ensures.value in
    subst (λ (b : BaseRoom). BaseCommits (defs_of b) actions (base_of b) (base_of (written s.tables.len s.tables.items after))) c.self.view_is
    (committed_kept before after actions nets c.self.invariant ready c.deref_mut.result.now old s.tables.len (omega (arith, c.deref_mut.ensures.len, ap length old)) c.commit_each.ensures.all c.commit_each.ensures.each refl refl
    c.append.ensures.entries)

pub returns-clause-indexes : goal.returns-clause-indexes
returns-clause-indexes c =
    let s = c.self.inside in
    let new = c.commit_each.new.tables in
    let old = c.deref_mut.ensures.value in
    ap indexes_in (whole s.tables.len new s.tables.items (c.commit_each.ensures.all ∙ ap length old) (omega (arith, c.deref_mut.ensures.len, ap length old)))
    ∙ c.commit_each.ensures.indexes
    ∙ ap indexes_in old
    ∙ ap (λ (b : BaseRoom). indexes_in b.tables) c.self.view_is
