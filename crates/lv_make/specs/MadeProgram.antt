-- The program that a made script says.
use Rattle.std.specs.Prelude.{◌≡◌, ℕ, ◌≤◌, ◌%◌, ◌==◌, if◌then◌else◌, List, [], ◌∷◌, ◌++◌, map, codes, Ok}
use Rattle.std.specs.List.{flat_map, range_with_len}
use Rattle.lv_plain.specs.declared.program.OrderItem.{OrderItem}
use Rattle.lv_plain.specs.declared.program.OrderItem.TheVariants.{Turn, Work, Clean}
use Rattle.lv_plain.specs.declared.program.Script.{Script}
use Rattle.lv_plain.specs.declared.program.Program.{Program}
use Rattle.lv_lines.specs.Script.{script_of}
use Rattle.lv_make.specs.ScriptText.{setup, sale_row, sales, insert_lines, insert_count, edits, reads, made_script}

-- the sessions in the order of their numbers, 1 to 3
abbrev pub sessions : ℕ → List Script
sessions n =
    record { name = codes "load"; lines = insert_lines n }
    ∷ record { name = codes "edit"; lines = edits }
    ∷ record { name = codes "read"; lines = reads }
    ∷ []

-- this item, where this divides the number
abbrev pub each : ℕ → ℕ → OrderItem → List OrderItem
each step number item = if number % step == 0 then item ∷ [] else []

-- the items at INSERT k, from 1 on
abbrev pub order_at : ℕ → List OrderItem
order_at k = Turn 1 ∷ each 4 k (Work 1) ++ each 8 k Clean

unfoldable pub made_program : ℕ → Program
made_program n = record { setup = setup; sessions = sessions n; order = flat_map order_at (range_with_len 1 (insert_count n)) }

-- A made script has no fault, and says this program.
abbrev pub MadeScriptsAreRead : Type 0
MadeScriptsAreRead = (n : ℕ) → 1 ≤ n → n ≤ 65536 → script_of (made_script n) ≡ Ok (made_program n)

-- The rows of its INSERTs, one after another, are the sales 1 to n.
abbrev pub SalesAreInOrder : Type 0
SalesAreInOrder = (n : ℕ) → flat_map (sales n) (range_with_len 0 (insert_count n)) ≡ map sale_row (range_with_len 1 n)
