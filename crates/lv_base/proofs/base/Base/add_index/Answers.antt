use Rattle.std.proofs.Common.{◌-◌, ◌<◌, ◌∙◌, length, sym, ap, subst}
use Rattle.std.specs.Prelude.{OnErr, OnOk, Result, Ok, Err, slice_set}
use Rattle.lv_versions.specs.Versions.{Kept, with_index}
use Rattle.lv_base.specs.Bases.{BaseRoom, indexes_in, table_in, unindexed, without_indexes}
use Rattle.lv_base.proofs.Reindexed.{replaced_added, replaced_kept, replaced_same, same_base}
use Rattle.lv_base.proofs.base.Base.add_index.Goals as goal

on_ok : {X E P Q : Type 0} (r : Result X E) → (P → Q) → OnOk r P → OnOk r Q
on_ok (Ok x) f h = f h
on_ok (Err e) f h = h

on_err : {X E P Q : Type 0} (r : Result X E) → (P → Q) → OnErr r P → OnErr r Q
on_err (Ok x) f h = h
on_err (Err e) f h = f h

pub invariant_of-self : goal.invariant_of-self
invariant_of-self c =
    let s = c.self.inside in
    let before : BaseRoom = record { tables = s.tables.items; deltas = s.deltas; number = s.number; pruned = s.pruned; free = s.tables.cap - s.tables.len } in
    let there : c.args.table < length s.tables.items = subst (λ (b : BaseRoom). c.args.table < length b.tables) (sym c.self.view_is) c.requires in
    let same = c.add_index.ensures.same ∙ ap unindexed c.index_mut.ensures.value in
    let after : BaseRoom = record before { tables = slice_set s.tables.items c.args.table c.add_index.new.self } in
    same_base before after (replaced_same before c.args.table there c.index_mut.result.now c.add_index.new.self same) c.self.invariant

pub returns-clause-added : goal.returns-clause-added
returns-clause-added c =
    let s = c.self.inside in
    let columns = c.args.columns.now in
    let before : BaseRoom = record { tables = s.tables.items; deltas = s.deltas; number = s.number; pruned = s.pruned; free = s.tables.cap - s.tables.len } in
    let there : c.args.table < length s.tables.items = subst (λ (b : BaseRoom). c.args.table < length b.tables) (sym c.self.view_is) c.requires in
    let same = c.add_index.ensures.same ∙ ap unindexed c.index_mut.ensures.value in
    on_ok c.add_index.result
    (λ added.
    replaced_added before c.args.table there c.index_mut.result.now c.add_index.new.self same columns (added ∙ ap (λ (k : Kept). with_index columns k.indexes) c.index_mut.ensures.value)
    ∙ ap (λ (b : BaseRoom). slice_set (indexes_in b.tables) c.args.table (with_index columns (table_in b.tables c.args.table).indexes)) c.self.view_is)
    c.add_index.ensures.added

pub returns-clause-refused : goal.returns-clause-refused
returns-clause-refused c =
    let s = c.self.inside in
    let before : BaseRoom = record { tables = s.tables.items; deltas = s.deltas; number = s.number; pruned = s.pruned; free = s.tables.cap - s.tables.len } in
    let there : c.args.table < length s.tables.items = subst (λ (b : BaseRoom). c.args.table < length b.tables) (sym c.self.view_is) c.requires in
    let same = c.add_index.ensures.same ∙ ap unindexed c.index_mut.ensures.value in
    on_err c.add_index.result
    (λ kept. replaced_kept before c.args.table there c.index_mut.result.now c.add_index.new.self same (kept ∙ ap (λ (k : Kept). k.indexes) c.index_mut.ensures.value) ∙ ap (λ (b : BaseRoom). indexes_in b.tables) c.self.view_is)
    c.add_index.ensures.refused

pub returns-clause-same : goal.returns-clause-same
returns-clause-same c =
    let s = c.self.inside in
    let before : BaseRoom = record { tables = s.tables.items; deltas = s.deltas; number = s.number; pruned = s.pruned; free = s.tables.cap - s.tables.len } in
    let there : c.args.table < length s.tables.items = subst (λ (b : BaseRoom). c.args.table < length b.tables) (sym c.self.view_is) c.requires in
    replaced_same before c.args.table there c.index_mut.result.now c.add_index.new.self (c.add_index.ensures.same ∙ ap unindexed c.index_mut.ensures.value) ∙ ap without_indexes c.self.view_is
