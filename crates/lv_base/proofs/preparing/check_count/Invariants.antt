use Rattle.std.proofs.Common.{◌≡◌, ◌+◌, ◌<◌, ◌^◌, length, take}
use Rattle.std.specs.List.{sum_by}
use Rattle.lv_schema.specs.declared.net.Net.{Net}
use Rattle.lv_base.specs.Bases.{versions_in}
use Rattle.lv_base.proofs.preparing.check_count.Given as goal

abbrev pub invariant-loop-net : goal.invariant-loop-net
invariant-loop-net l = record {
  counted : l.count ≡ versions_in l.tables + sum_by (λ (net : Net). length net.plus) (take l.net-index l.nets);
  fits : l.count < 2 ^ 64;
}
