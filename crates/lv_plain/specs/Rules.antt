-- What a plain machine is run with.
use Rattle.lv_schema.specs.World.{Settings}
use Rattle.lv_plain.specs.declared.program.Program.{Program}
use Rattle.lv_plain.specs.Turns.{Reading}

-- the settings of its store, how a line is read and bound, and the program
pub record Rules : Type 0 where
  pub settings : Settings
  pub reading : Reading
  pub program : Program
