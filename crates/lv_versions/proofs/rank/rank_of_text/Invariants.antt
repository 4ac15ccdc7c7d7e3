use Rattle.std.proofs.Common.{◌≡◌, ◌^◌, ◌<◌, ◌≤◌}
use Rattle.lv_versions.specs.Ranks.{first_bytes}
use Rattle.lv_versions.proofs.rank.rank_of_text.Given as goal

abbrev pub invariant-loop-i : goal.invariant-loop-i
invariant-loop-i l = record {
  is : l.rank ≡ first_bytes l.i l.bytes;
  fits : l.rank < 256 ^ l.i;
  within : l.i ≤ 8;
}
