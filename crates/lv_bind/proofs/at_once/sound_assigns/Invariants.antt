use Rattle.std.proofs.Common.{◌≡◌, map, drop, take}
use Rattle.std.specs.List.{list_all}
use Rattle.lv_bind.specs.Binding.{bound_set}
use Rattle.lv_bind.specs.Faultless.{assign_is_sound}
use Rattle.lv_bind.specs.Seen.{aliases}
use Rattle.lv_bind.proofs.at_once.sound_assigns.Given as goal

abbrev pub invariant-loop-assign : goal.invariant-loop-assign
invariant-loop-assign l = record {
  bound : l.out ≡ map (bound_set (aliases l.scope)) (take l.assign-index l.sets);
  sound : list_all (assign_is_sound (aliases l.scope)) (drop l.assign-index l.sets) ≡ list_all (assign_is_sound (aliases l.scope)) l.sets;
}
