-- The text of a transcript, one equation for each form of line.
use Rattle.std.specs.Prelude.{ℕ, List, [], ◌++◌, codes, length, decimal, Option, Some, None, slice_index_or}
use Rattle.std.specs.Fmt.{signed_decimal}
use Rattle.std.specs.List.{flat_map}
use Rattle.lv_values.specs.declared.value.Value.{Value}
use Rattle.lv_values.specs.Print.{values_text, row_line}
use Rattle.lv_schema.specs.declared.fault.Fault.{Fault}
use Rattle.lv_schema.specs.declared.fault.Fault.TheVariants.{Syntax, Unknown, Ambiguous, InUse, Kinds, Limit, Profile, NotSetup, InTransaction, NoTransaction, KeyAssigned, Range, Duplicate, TableFull, Conflict, MergedFull, Store, JournalFull}
use Rattle.lv_schema.specs.declared.fault.LimitKind.{LimitKind}
use Rattle.lv_schema.specs.declared.fault.LimitKind.TheVariants as limit
use Rattle.lv_schema.specs.declared.fault.ProfileRule.{ProfileRule}
use Rattle.lv_schema.specs.declared.fault.ProfileRule.TheVariants as rule
use Rattle.lv_schema.specs.declared.forced.Forced.{Forced}
use Rattle.lv_plain.specs.declared.entry.Reply.{Reply}
use Rattle.lv_plain.specs.declared.entry.Reply.TheVariants.{Made, Changed, Alone, Began, Committed, RolledBack, Rows, Tasks, Refused}
use Rattle.lv_plain.specs.declared.entry.MarkOutcome.{MarkOutcome}
use Rattle.lv_plain.specs.declared.entry.MarkOutcome.TheVariants as mark
use Rattle.lv_plain.specs.declared.entry.Entry.{Entry}
use Rattle.lv_plain.specs.declared.entry.Entry.TheVariants.{Session, Fetched, Idle, Busy, Installed, Moved, Empty, Released, Marked, MarkUnknown, Cleaned}
use Rattle.lv_lines.specs.declared.names.Names.{Names}

-- the name at a place, from 0
abbrev pub name_of : List (List ℕ) → ℕ → List ℕ
name_of names number = slice_index_or names number []

-- ---- faults

-- a key: its values in parentheses
abbrev pub key_text : List Value → List ℕ
key_text key = codes "(" ++ values_text (codes ", ") key ++ codes ")"

abbrev pub limit_word : LimitKind → List ℕ
limit_word limit.Name = codes "name"
limit_word limit.Tables = codes "tables"
limit_word limit.Views = codes "views"
limit_word limit.Columns = codes "columns"
limit_word limit.Aliases = codes "aliases"
limit_word limit.Comparisons = codes "comparisons"
limit_word limit.Text = codes "text"
limit_word limit.Tuples = codes "tuples"
limit_word limit.List = codes "list"
limit_word limit.Order = codes "order"

abbrev pub rule_word : ProfileRule → List ℕ
rule_word rule.Base = codes "base"
rule_word rule.Group = codes "group"
rule_word rule.Count = codes "count"
rule_word rule.Key = codes "key"

-- the fault's number, and what it says
abbrev pub fault_text : Names → Fault → List ℕ
fault_text names (Syntax byte) = codes "1 syntax at byte " ++ decimal byte
fault_text names (Unknown name) = codes "2 unknown name " ++ name
fault_text names (Ambiguous name) = codes "3 ambiguous name " ++ name
fault_text names (InUse name) = codes "4 name in use " ++ name
fault_text names (Kinds byte) = codes "5 kinds differ at byte " ++ decimal byte
fault_text names (Limit which most) = codes "6 limit " ++ limit_word which ++ codes " " ++ decimal most
fault_text names (Profile which) = codes "7 view profile " ++ rule_word which
fault_text names NotSetup = codes "8 create outside setup"
fault_text names InTransaction = codes "9 already in a transaction"
fault_text names NoTransaction = codes "10 no transaction"
fault_text names (KeyAssigned name) = codes "11 key column assigned " ++ name
fault_text names (Range number) = codes "12 number out of range " ++ signed_decimal number
fault_text names (Duplicate table key) = codes "13 duplicate key " ++ name_of names.tables table ++ codes " " ++ key_text key
fault_text names (TableFull table) = codes "14 table full " ++ name_of names.tables table
fault_text names (Conflict table key commit) = codes "15 write conflict " ++ name_of names.tables table ++ codes " " ++ key_text key ++ codes " commit " ++ decimal commit
fault_text names (MergedFull table) = codes "16 table full at commit " ++ name_of names.tables table
fault_text names Store = codes "17 store fault"
fault_text names (JournalFull need limit) = codes "18 journal full need " ++ decimal need ++ codes " limit " ++ decimal limit

-- ---- replies

-- a commit's number behind a space, where there is a commit
abbrev pub commit_text : Option ℕ → List ℕ
commit_text (Some number) = codes " " ++ decimal number
commit_text None = []

abbrev pub task_line : Names → ℕ × ℕ → List ℕ
task_line names task = codes "| " ++ name_of names.views task.0 ++ codes " | " ++ decimal task.1 ++ codes "\n"

-- what stands behind the session's name and the statement's place
abbrev pub reply_text : Names → Reply → List ℕ
reply_text names Made = codes "ok\n"
reply_text names (Changed count) = codes "ok " ++ decimal count ++ codes "\n"
reply_text names (Alone count number) = codes "ok " ++ decimal count ++ codes " commit" ++ commit_text number ++ codes "\n"
reply_text names (Began snapshot) = codes "begin " ++ decimal snapshot ++ codes "\n"
reply_text names (Committed number) = codes "commit" ++ commit_text number ++ codes "\n"
reply_text names RolledBack = codes "rollback\n"
reply_text names (Rows rows) = codes "rows " ++ decimal (length rows) ++ codes "\n" ++ flat_map row_line rows
reply_text names (Tasks tasks) = codes "tasks " ++ decimal (length tasks) ++ codes "\n" ++ flat_map (task_line names) tasks
reply_text names (Refused fault) = codes "fault " ++ fault_text names fault ++ codes "\n"

-- ---- entries

-- a step of maintenance: the view, from which commit and to which
abbrev pub step_text : Names → ℕ → ℕ → ℕ → List ℕ
step_text names view lo hi = name_of names.views view ++ codes " " ++ decimal lo ++ codes " " ++ decimal hi

abbrev pub forced_line : Names → Forced → List ℕ
forced_line names f = codes "force " ++ step_text names f.view f.lo f.hi ++ codes "\n"

abbrev pub worker_text : ℕ → List ℕ
worker_text worker = codes "w" ++ decimal worker

abbrev pub outcome_text : Names → MarkOutcome → List ℕ
outcome_text names (mark.Upto number) = decimal number
outcome_text names mark.Already = codes "none"
outcome_text names (mark.Refused fault) = codes "fault " ++ fault_text names fault

abbrev pub entry_text : Names → Entry → List ℕ
entry_text names (Session session place forced reply) =
    flat_map (forced_line names) forced ++ name_of names.sessions session ++ codes " " ++ decimal place ++ codes " " ++ reply_text names reply
entry_text names (Fetched worker view lo hi) = worker_text worker ++ codes " fetch " ++ step_text names view lo hi ++ codes "\n"
entry_text names (Idle worker) = worker_text worker ++ codes " idle\n"
entry_text names (Busy worker) = worker_text worker ++ codes " busy\n"
entry_text names (Installed worker view lo hi) = worker_text worker ++ codes " install " ++ step_text names view lo hi ++ codes "\n"
entry_text names (Moved worker view lo hi point) =
    worker_text worker ++ codes " moved " ++ step_text names view lo hi ++ codes " at " ++ decimal point ++ codes "\n"
entry_text names (Empty worker) = worker_text worker ++ codes " empty\n"
entry_text names (Released worker) = worker_text worker ++ codes " release\n"
entry_text names (Marked view outcome) = codes "mark " ++ name_of names.views view ++ codes " " ++ outcome_text names outcome ++ codes "\n"
entry_text names (MarkUnknown name) = codes "mark " ++ name ++ codes " unknown\n"
entry_text names (Cleaned floor versions deltas) =
    codes "clean " ++ decimal floor ++ codes " versions " ++ decimal versions ++ codes " deltas " ++ decimal deltas ++ codes "\n"

abbrev pub text_of : Names → List Entry → List ℕ
text_of names entries = flat_map (entry_text names) entries
