use Rattle.std.proofs.Common.{◌≡◌, ◌+◌, ◌++◌, true, length, map, drop, slice_index_or}
use Rattle.lv_reach.specs.Cost.{whole_from}
use Rattle.lv_reach.specs.Found.{with_found}
use Rattle.lv_reach.specs.Reach.{cut, cut_from, kept_by, with_old, with_old_from}
use Rattle.lv_near.specs.Small.{needed_of, with_lost}
use Rattle.lv_near.proofs.input.small_parts.Given as goal

abbrev pub invariant-loop-part : goal.invariant-loop-part
invariant-loop-part g l =
    let rows = needed_of l.at.base.now l.at.tables.now l.at.lo l.at.changing l.fn.changes in
    record {
      all : l.yielded ++ l.part-iterator.rest.items ≡ with_found 0 (map with_lost l.fn.changes) (drop l.fn.reach.changed l.fn.reach.near);
      alias : l.alias ≡ length l.yielded;
      within : l.alias + length l.part-iterator.rest.items ≡ length l.at.tables.now;
      small : l.small ++ cut_from (kept_by l.fn.reach.near l.fn.reach.far) l.alias (with_old_from rows l.alias (drop l.alias l.fn.changes)) ≡ cut (kept_by l.fn.reach.near l.fn.reach.far) (with_old rows l.fn.changes);
      cost : l.steps + whole_from (λ j. slice_index_or l.fn.reach.far j true) l.alias (with_old_from rows l.alias (drop l.alias l.fn.changes)) ≡ l.initial.steps + whole_from (λ j. slice_index_or l.fn.reach.far j true) 0 (with_old rows l.fn.changes);
    }
