-- Runs whose output is written at the end.
use Rattle.std.proofs.Common.{◌≡◌, ◌∙◌, true, false, is_err}
use Rattle.std.specs.Prelude.{OnErr, OnOk, Result, Ok, Err}
use Rattle.lv_core.specs.Run.{CoreView, HasGrown}
use Rattle.lv_runner.specs.Following.{GoesOn}

pub from_err : {A E P : Type 0} (r : Result A E) → is_err r ≡ true → OnErr r P → P
from_err (Ok a) e h = absurd cc
from_err (Err x) e h = h

pub from_ok : {A E P : Type 0} (r : Result A E) → is_err r ≡ false → OnOk r P → P
from_ok (Ok a) e h = h
from_ok (Err x) e h = absurd cc

-- what goes on from a later core, or has grown from it, goes on from an earlier one
pub on_and_on : {D : Type 0} (old mid new : CoreView D) → GoesOn old mid → GoesOn mid new → GoesOn old new
on_and_on old mid new first second = record {
  program = second.program ∙ first.program;
  settings = second.settings ∙ first.settings;
  opened = second.opened ∙ first.opened;
}

pub grown_on : {D : Type 0} (old mid new : CoreView D) → GoesOn old mid → HasGrown mid new → GoesOn old new
grown_on old mid new first grown = on_and_on old mid new first (record { program = grown.program; settings = grown.settings; opened = grown.opened })
