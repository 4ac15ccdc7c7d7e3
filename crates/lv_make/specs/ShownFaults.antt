-- The numbers of faults in summaries and in transcripts.
use Rattle.std.specs.Prelude.{◌≡◌, ℕ, List, ◌++◌, codes, decimal}
use Rattle.lv_schema.specs.declared.fault.Fault.{Fault}
use Rattle.lv_lines.specs.declared.names.Names.{Names}
use Rattle.lv_lines.specs.Transcript.{fault_text}
use Rattle.lv_make.specs.Summary.{fault_number}

-- A fault's text begins with its number and a space.
abbrev pub FaultNumbersAreShown : Type 0
FaultNumbersAreShown = (names : Names) (fault : Fault) → (rest : List ℕ) × (fault_text names fault ≡ decimal (fault_number fault) ++ codes " " ++ rest)
