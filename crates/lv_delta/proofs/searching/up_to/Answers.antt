use Rattle.std.proofs.Common.{rules, ◌≡◌, true, false}
use Rattle.std.specs.Prelude.{nat_le}
use Rattle.std.specs.List.Sorted.{IsPartitionPoint}
use Rattle.std.proofs.lemmas.Fn.{always_returns_same}
use Rattle.lv_schema.specs.declared.action.DeltaEntry.{DeltaEntry}
use Rattle.lv_delta.proofs.Searched.{partitioned, front_up_to, rest_above}
use Rattle.lv_delta.proofs.searching.up_to.Goals as goal

parted : (c : goal.After-partition_point) → IsPartitionPoint (λ (e : DeltaEntry). nat_le e.number c.args.n ≡ true) (λ (e : DeltaEntry). nat_le e.number c.args.n ≡ false) c.args.entries.now c.partition_point.result
parted c = c.partition_point.ensures.partitioned (λ (e : DeltaEntry). nat_le e.number c.args.n) (always_returns_same _ _ _ (λ a r f k. search rules)) (partitioned c.args.n c.args.entries.now c.requires)

pub returns-clause-front : goal.returns-clause-front
returns-clause-front c = front_up_to c.args.n c.partition_point.result c.args.entries.now c.partition_point.ensures.bound (parted c)

pub returns-clause-rest : goal.returns-clause-rest
returns-clause-rest c = rest_above c.args.n c.partition_point.result c.args.entries.now c.partition_point.ensures.bound (parted c)
