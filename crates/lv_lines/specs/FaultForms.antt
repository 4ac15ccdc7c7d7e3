-- The forms of faults.
use Rattle.std.specs.Prelude.{ℕ, List, [], ◌∷◌, codes}
use Rattle.lv_values.specs.declared.value.Value.{Value}
use Rattle.lv_schema.specs.declared.fault.Fault.{Fault}
use Rattle.lv_schema.specs.declared.fault.Fault.TheVariants.{Syntax, Unknown, Ambiguous, InUse, Kinds, Limit, Profile, NotSetup, InTransaction, NoTransaction, KeyAssigned, Range, Duplicate, TableFull, Conflict, MergedFull, Store, JournalFull}
use Rattle.lv_schema.specs.declared.fault.LimitKind.{LimitKind}
use Rattle.lv_schema.specs.declared.fault.LimitKind.TheVariants as limit
use Rattle.lv_schema.specs.declared.fault.ProfileRule.{ProfileRule}
use Rattle.lv_schema.specs.declared.fault.ProfileRule.TheVariants as rule
use Rattle.lv_forms.specs.Forms.{Form, nothing, small, count, wide, pair}
use Rattle.lv_forms.specs.Tables.{Kind, kind, Fields, at, table}
use Rattle.lv_lines.specs.declared.names.Names.{Names}
use Rattle.lv_lines.specs.ValueForms.{name, own, key}

abbrev pub limit_kinds : List (Kind LimitKind)
limit_kinds =
    kind (codes "name") nothing (λ _. limit.Name)
    ∷ kind (codes "tables") nothing (λ _. limit.Tables)
    ∷ kind (codes "views") nothing (λ _. limit.Views)
    ∷ kind (codes "columns") nothing (λ _. limit.Columns)
    ∷ kind (codes "aliases") nothing (λ _. limit.Aliases)
    ∷ kind (codes "comparisons") nothing (λ _. limit.Comparisons)
    ∷ kind (codes "text") nothing (λ _. limit.Text)
    ∷ kind (codes "tuples") nothing (λ _. limit.Tuples)
    ∷ kind (codes "list") nothing (λ _. limit.List)
    ∷ kind (codes "order") nothing (λ _. limit.Order)
    ∷ []

abbrev pub limit_fields : LimitKind → Fields limit_kinds
limit_fields limit.Name = at limit_kinds 0 tt
limit_fields limit.Tables = at limit_kinds 1 tt
limit_fields limit.Views = at limit_kinds 2 tt
limit_fields limit.Columns = at limit_kinds 3 tt
limit_fields limit.Aliases = at limit_kinds 4 tt
limit_fields limit.Comparisons = at limit_kinds 5 tt
limit_fields limit.Text = at limit_kinds 6 tt
limit_fields limit.Tuples = at limit_kinds 7 tt
limit_fields limit.List = at limit_kinds 8 tt
limit_fields limit.Order = at limit_kinds 9 tt

abbrev pub any_limit : Form LimitKind
any_limit = table limit_kinds limit_fields

abbrev pub rule_kinds : List (Kind ProfileRule)
rule_kinds =
    kind (codes "base") nothing (λ _. rule.Base)
    ∷ kind (codes "group") nothing (λ _. rule.Group)
    ∷ kind (codes "count") nothing (λ _. rule.Count)
    ∷ kind (codes "key") nothing (λ _. rule.Key)
    ∷ []

abbrev pub rule_fields : ProfileRule → Fields rule_kinds
rule_fields rule.Base = at rule_kinds 0 tt
rule_fields rule.Group = at rule_kinds 1 tt
rule_fields rule.Count = at rule_kinds 2 tt
rule_fields rule.Key = at rule_kinds 3 tt

abbrev pub any_rule : Form ProfileRule
any_rule = table rule_kinds rule_fields

-- a table's name and a key
abbrev pub table_key : Names → Form (ℕ × List Value)
table_key names = pair (name names.tables) (codes " ") key

-- a fault: its number, and what it says
abbrev pub fault_kinds : Names → List (Kind Fault)
fault_kinds names =
    kind (codes "1 syntax at byte ") small Syntax
    ∷ kind (codes "2 unknown name ") own Unknown
    ∷ kind (codes "3 ambiguous name ") own Ambiguous
    ∷ kind (codes "4 name in use ") own InUse
    ∷ kind (codes "5 kinds differ at byte ") small Kinds
    ∷ kind (codes "6 limit ") (pair any_limit (codes " ") small) (λ p. Limit p.0 p.1)
    ∷ kind (codes "7 view profile ") any_rule Profile
    ∷ kind (codes "8 create outside setup") nothing (λ _. NotSetup)
    ∷ kind (codes "9 already in a transaction") nothing (λ _. InTransaction)
    ∷ kind (codes "10 no transaction") nothing (λ _. NoTransaction)
    ∷ kind (codes "11 key column assigned ") own KeyAssigned
    ∷ kind (codes "12 number out of range ") wide Range
    ∷ kind (codes "13 duplicate key ") (table_key names) (λ p. Duplicate p.0 p.1)
    ∷ kind (codes "14 table full ") (name names.tables) TableFull
    ∷ kind (codes "15 write conflict ") (pair (name names.tables) (codes " ") (pair key (codes " commit ") count)) (λ p. Conflict p.0 p.1.0 p.1.1)
    ∷ kind (codes "16 table full at commit ") (name names.tables) MergedFull
    ∷ kind (codes "17 store fault") nothing (λ _. Store)
    ∷ kind (codes "18 journal full need ") (pair count (codes " limit ") count) (λ p. JournalFull p.0 p.1)
    ∷ []

abbrev pub fault_fields : (names : Names) → Fault → Fields (fault_kinds names)
fault_fields names (Syntax byte) = at (fault_kinds names) 0 byte
fault_fields names (Unknown name) = at (fault_kinds names) 1 name
fault_fields names (Ambiguous name) = at (fault_kinds names) 2 name
fault_fields names (InUse name) = at (fault_kinds names) 3 name
fault_fields names (Kinds byte) = at (fault_kinds names) 4 byte
fault_fields names (Limit which most) = at (fault_kinds names) 5 (which, most)
fault_fields names (Profile which) = at (fault_kinds names) 6 which
fault_fields names NotSetup = at (fault_kinds names) 7 tt
fault_fields names InTransaction = at (fault_kinds names) 8 tt
fault_fields names NoTransaction = at (fault_kinds names) 9 tt
fault_fields names (KeyAssigned name) = at (fault_kinds names) 10 name
fault_fields names (Range number) = at (fault_kinds names) 11 number
fault_fields names (Duplicate table key) = at (fault_kinds names) 12 (table, key)
fault_fields names (TableFull table) = at (fault_kinds names) 13 table
fault_fields names (Conflict table key commit) = at (fault_kinds names) 14 (table, (key, commit))
fault_fields names (MergedFull table) = at (fault_kinds names) 15 table
fault_fields names Store = at (fault_kinds names) 16 tt
fault_fields names (JournalFull need limit) = at (fault_kinds names) 17 (need, limit)

abbrev pub any_fault : Names → Form Fault
any_fault names = table (fault_kinds names) (fault_fields names)
