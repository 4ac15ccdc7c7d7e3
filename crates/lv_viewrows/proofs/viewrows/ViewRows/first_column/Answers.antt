use Rattle.std.proofs.Common.{Option, ℕ, sym, ap, subst, ◌∙◌}
use Rattle.std.specs.Prelude.{MatchOption}
use Rattle.lv_viewrows.specs.Beginning.{IsFirst, first_column}
use Rattle.lv_viewrows.specs.Kept.{ViewKept}
use Rattle.lv_viewrows.proofs.FirstValue.{first_begins}
use Rattle.lv_viewrows.proofs.viewrows.ViewRows.first_column.Goals as goal

pub returns-clause-first : goal.returns-clause-first
returns-clause-first c =
    let exact = c.first_column.ensures ∙ ap (λ (k : ViewKept). first_column k.def) c.self.view_is in
    subst (λ (o : Option ℕ). MatchOption o (Unit {0}) (IsFirst c.args.self.now.def)) (sym exact) (first_begins c.args.self.now.def)
