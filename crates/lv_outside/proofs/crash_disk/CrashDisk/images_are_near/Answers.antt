use Rattle.std.proofs.Common.{List, subst}
use Rattle.lv_outside.specs.Crashes.{images}
use Rattle.lv_outside.specs.declared.crash_disk.Call.{Call}
use Rattle.lv_outside.proofs.Crashes.{near}
use Rattle.lv_outside.proofs.crash_disk.CrashDisk.images_are_near.Goals as goal

pub returns : goal.returns
returns c calls bytes writes d is are left = near calls bytes writes d are (subst (λ (l : List Call). images l d) is left)
