use Rattle.lv_record.proofs.Made.{made_table, made_view, made_actions}
use Rattle.lv_record.proofs.laws.what_is_made_can_be_kept.Goals as goal

pub returns-clause-tables : goal.returns-clause-tables
returns-clause-tables c = λ tables views def b. made_table tables views def b

pub returns-clause-views : goal.returns-clause-views
returns-clause-views c = λ tables views def s sound b. made_view tables views def s sound b

pub returns-clause-commits : goal.returns-clause-commits
returns-clause-commits c = λ tables views db o s sound can. made_actions tables views db o.actions sound can
