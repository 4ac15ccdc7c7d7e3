use Rattle.std.proofs.Common.{◌∙◌, sym, ap, subst, ◌-◌, List, length}
use Rattle.std.specs.Vec.{vec_capacity, vec_len}
use Rattle.lv_schema.specs.declared.table.TableDef.{TableDef}
use Rattle.lv_versions.specs.Versions.{Kept}
use Rattle.lv_base.specs.Bases.{BaseRoom, IsBase}
use Rattle.lv_base.proofs.Added.{added_base}
use Rattle.lv_base.proofs.base.Base.add_table.Goals as goal

pub invariant_of-self : goal.invariant_of-self
invariant_of-self c =
    let old = c.self.inside in
    let new = c.push_reserved.new.self in
    let b : BaseRoom = record { tables = old.tables.items; deltas = old.deltas; number = old.number; pruned = old.pruned; free = vec_capacity old.tables - vec_len old.tables } in
    let free = vec_capacity new - vec_len new in
    subst (λ (ts : List Kept). IsBase (record b { tables = ts; free = free })) (sym c.push_reserved.ensures.items)
    (added_base b c.new.result free (ap (λ (d : TableDef). d.no) c.new.ensures.def ∙ c.requires.next ∙ ap (λ (r : BaseRoom). length r.tables) (sym c.self.view_is)) c.new.ensures.none c.new.ensures.last c.new.ensures.floor c.self.invariant)
