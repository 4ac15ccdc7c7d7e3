use Rattle.std.proofs.Common.{◌≡◌, map}
use Rattle.lv_schema.specs.Answers.{sorted_row}
use Rattle.lv_schema.specs.Effects.{matching}
use Rattle.lv_query.specs.Whole.{alone}
use Rattle.lv_query.proofs.alone.found_among.Given as goal

abbrev pub invariant-loop-row : goal.invariant-loop-row
invariant-loop-row l = l.found ≡ map (sorted_row l.query) (map alone (matching l.query.cond l.yielded))
