-- The summary of a run of a made script.
use Rattle.std.specs.Prelude.{ℕ, ℤ, Bool, true, false, ◌==◌, if◌then◌else◌, is_some, List, [], ◌++◌, length, codes, decimal}
use Rattle.std.specs.Fmt.{signed_decimal}
use Rattle.std.specs.Int.{int_wrap, w128}
use Rattle.std.specs.List.{flat_map, count_by}
use Rattle.lv_values.specs.declared.value.Value.{Value}
use Rattle.lv_values.specs.Order.{number_of}
use Rattle.lv_schema.specs.Groups.{total}
use Rattle.lv_schema.specs.declared.fault.Fault.{Fault}
use Rattle.lv_schema.specs.declared.fault.Fault.TheVariants as fault
use Rattle.lv_plain.specs.declared.entry.Entry.{Entry}
use Rattle.lv_plain.specs.declared.entry.Entry.TheVariants.{Session}
use Rattle.lv_plain.specs.declared.entry.Reply.{Reply}
use Rattle.lv_plain.specs.declared.entry.Reply.TheVariants.{Alone, Committed, Rows, Refused}
use Rattle.lv_plain.specs.declared.program.Program.{Program}
use Rattle.lv_plain.specs.Limits.{statement_count}

-- ---- what is counted

abbrev pub is_refused : Reply → Bool
is_refused (Refused f) = true
is_refused reply = false

-- whether it shows the number of a new commit
abbrev pub is_commit : Reply → Bool
is_commit (Alone count number) = is_some number
is_commit (Committed number) = is_some number
is_commit reply = false

-- whether an entry is a statement's, with a reply that passes
abbrev pub replies : (Reply → Bool) → Entry → Bool
replies passes (Session session place forced reply) = passes reply
replies passes entry = false

unfoldable pub shows_fault : Entry → Bool
shows_fault entry = replies is_refused entry

unfoldable pub shows_commit : Entry → Bool
shows_commit entry = replies is_commit entry

-- ---- the lines

abbrev pub made_line : ℕ → Program → List ℕ
made_line n program = codes "made " ++ decimal n ++ codes " statements " ++ decimal (statement_count program) ++ codes "\n"

abbrev pub counts_line : List Entry → List ℕ
counts_line entries = codes "faults " ++ decimal (count_by shows_fault entries) ++ codes " commits " ++ decimal (count_by shows_commit entries) ++ codes "\n"

-- the sum of the numbers of a row, and of all numbers in rows, wrapped to signed 128 bits
abbrev pub row_sum : List Value → ℤ
row_sum row = total number_of row

abbrev pub sum_of : List (List Value) → ℤ
sum_of rows = int_wrap w128 (total row_sum rows)

-- the number under which a fault is shown
abbrev pub fault_number : Fault → ℕ
fault_number (fault.Syntax byte) = 1
fault_number (fault.Unknown name) = 2
fault_number (fault.Ambiguous name) = 3
fault_number (fault.InUse name) = 4
fault_number (fault.Kinds byte) = 5
fault_number (fault.Limit which most) = 6
fault_number (fault.Profile rule) = 7
fault_number fault.NotSetup = 8
fault_number fault.InTransaction = 9
fault_number fault.NoTransaction = 10
fault_number (fault.KeyAssigned name) = 11
fault_number (fault.Range number) = 12
fault_number (fault.Duplicate table key) = 13
fault_number (fault.TableFull table) = 14
fault_number (fault.Conflict table key commit) = 15
fault_number (fault.MergedFull table) = 16
fault_number fault.Store = 17
fault_number (fault.JournalFull need limit) = 18

-- what a query was answered: rows and their sum, or a fault; nothing of another reply
abbrev pub read_text : ℕ → Reply → List ℕ
read_text place (Rows rows) = codes "read " ++ decimal place ++ codes " rows " ++ decimal (length rows) ++ codes " sum " ++ signed_decimal (sum_of rows) ++ codes "\n"
read_text place (Refused f) = codes "read " ++ decimal place ++ codes " fault " ++ decimal (fault_number f) ++ codes "\n"
read_text place reply = []

-- the number of the session that reads, the third of a made script
abbrev pub reader : ℕ
reader = 3

-- the line of an entry of the session that reads
abbrev pub read_line : Entry → List ℕ
read_line (Session session place forced reply) = if session == reader then read_text place reply else []
read_line entry = []

-- The summary: how many sales were asked for and how many statements the program has; how many replies are faults and
-- how many show a new commit; and a line for each statement of the session that reads.
unfoldable pub summary_of : ℕ → Program → List Entry → List ℕ
summary_of n program entries = made_line n program ++ counts_line entries ++ flat_map read_line entries
