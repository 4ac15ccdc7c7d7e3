use Rattle.std.proofs.Common.{◌≡◌, ◌∙◌, refl, Result, Ok, Err}
use Rattle.std.specs.Prelude.{IfOk, OnOk}
use Rattle.lv_schema.specs.declared.bound.Bound.{Bound}
use Rattle.lv_bind.specs.declared.at_once.Stop.{Stop}
use Rattle.lv_bind.specs.Seen.{aliases, tables_of, views_of}
use Rattle.lv_bind.proofs.FaultlessLemmas.{update_has_none, delete_has_none, select_has_none}
use Rattle.lv_bind.proofs.SourceLemmas.{select_bound}
use Rattle.lv_bind.proofs.at_once.bound_in_few.Goals as goal

-- what is known of a bound statement, and what follows from it
on_bound : {P Q : Type 0} → (P → Q) → (r : Result Bound Stop) → OnOk r P → OnOk r Q
on_bound f (Ok b) h = f h
on_bound f (Err e) h = tt

bound_as : {x y : Bound} → x ≡ y → (r : Result Bound Stop) → IfOk r (λ b. b ≡ x) → IfOk r (λ b. b ≡ y)
bound_as same (Ok b) h = h ∙ same
bound_as same (Err e) h = tt

pub returns-in-Update-clause-readable : goal.returns-in-Update-clause-readable
returns-in-Update-clause-readable c =
    on_bound
    (update_has_none (tables_of c.args.scope.now) (views_of c.args.scope.now) c.args.stmt.now (aliases c.args.scope.now) c.args.scope.now.target
    c.in-Update.table c.in-Update.sets c.in-Update.cond c.in-Update.is c.requires.sources c.requires.target) c.sound_update.result c.sound_update.ensures.sound

pub returns-in-Delete-clause-readable : goal.returns-in-Delete-clause-readable
returns-in-Delete-clause-readable c =
    on_bound
    (delete_has_none (tables_of c.args.scope.now) (views_of c.args.scope.now) c.args.stmt.now (aliases c.args.scope.now) c.args.scope.now.target
    c.in-Delete.table c.in-Delete.cond c.in-Delete.is c.requires.sources c.requires.target) c.sound_delete.result c.sound_delete.ensures.sound

pub returns-in-Select-clause-readable : goal.returns-in-Select-clause-readable
returns-in-Select-clause-readable c =
    on_bound
    (select_has_none (tables_of c.args.scope.now) (views_of c.args.scope.now) c.args.stmt.now (aliases c.args.scope.now) _
    c.in-Select.list c.in-Select.refs c.in-Select.cond c.in-Select.order c.in-Select.is c.requires.sources c.requires.rels) c.sound_query.result c.sound_query.ensures.sound

pub returns-in-Select-clause-bound : goal.returns-in-Select-clause-bound
returns-in-Select-clause-bound c =
    bound_as
    (select_bound (tables_of c.args.scope.now) (views_of c.args.scope.now) c.args.stmt.now (aliases c.args.scope.now) c.args.scope.now.sources.now
    c.in-Select.list c.in-Select.refs c.in-Select.cond c.in-Select.order _ c.in-Select.is c.requires.rels refl) c.sound_query.result c.sound_query.ensures.bound
