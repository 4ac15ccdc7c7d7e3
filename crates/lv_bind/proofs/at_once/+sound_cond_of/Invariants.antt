use Rattle.std.proofs.Common.{◌≡◌, ◌+◌, map, drop, take, length}
use Rattle.std.specs.List.{list_all}
use Rattle.lv_bind.specs.Binding.{bound_cond}
use Rattle.lv_bind.specs.Faultless.{sides_are_sound}
use Rattle.lv_bind.specs.Pieces.{sides_of, joined}
use Rattle.lv_bind.specs.Seen.{aliases}
use Rattle.lv_bind.proofs.at_once.+sound_cond_of.Given as goal

abbrev pub invariant-sound_conds-loop-cond : goal.invariant-sound_conds-loop-cond
invariant-sound_conds-loop-cond l = record {
  bound : l.out ≡ map (bound_cond (aliases l.scope)) (take l.cond-index l.conds);
  sound : list_all (sides_are_sound (aliases l.scope)) (joined (map sides_of (drop l.cond-index l.conds)))
      ≡ list_all (sides_are_sound (aliases l.scope)) (joined (map sides_of l.conds));
  count : l.left + length (joined (map sides_of l.conds)) ≡ l.most + length (joined (map sides_of (drop l.cond-index l.conds)));
}
