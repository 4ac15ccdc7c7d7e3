use Rattle.std.proofs.Common.{◌≡◌, ◌+◌, ◌-◌, ◌*◌, []}
use Rattle.lv_reading.specs.Reading.{times_from}
use Rattle.lv_record.specs.Spelling as form
use Rattle.lv_record.proofs.conds.+read_cond.Given as goal

abbrev pub decreases-read_cond : goal.decreases-read_cond
decreases-read_cond l = 4 * l.layers

abbrev pub decreases-read_conds : goal.decreases-read_conds
decreases-read_conds l = 4 * l.layers + 1

abbrev pub decreases-read_parts : goal.decreases-read_parts
decreases-read_parts l = 4 * l.layers + 2

abbrev pub decreases-read_layer : goal.decreases-read_layer
decreases-read_layer l = 4 * l.layers + 3

abbrev pub invariant-read_conds-each : goal.invariant-read_conds-each
invariant-read_conds-each l = times_from (form.layers l.layers).read (l.count - l.counter) l.found l.cursor ≡ times_from (form.layers l.layers).read l.count [] l.fn.cursor
