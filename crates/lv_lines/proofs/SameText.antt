-- The text of each line, as its equation says it, is the text of its form.
use Rattle.std.proofs.Common.{◌≡◌, ℕ, List, [], ◌∷◌, ◌++◌, length, Some, None, refl, sym, ap, ap₂, ◌∙◌, append_assoc}
use Rattle.std.specs.Prelude.{codes, decimal}
use Rattle.std.specs.List.{flat_map, join_by}
use Rattle.lv_values.specs.declared.value.Value.{Value}
use Rattle.lv_values.specs.Print.{value_text, values_behind, values_text, row_line}
use Rattle.lv_schema.specs.declared.fault.Fault.{Fault}
use Rattle.lv_schema.specs.declared.fault.Fault.TheVariants.{Limit, Profile, Duplicate, Conflict, JournalFull}
use Rattle.lv_schema.specs.declared.fault.LimitKind.{LimitKind}
use Rattle.lv_schema.specs.declared.fault.LimitKind.TheVariants as limit
use Rattle.lv_schema.specs.declared.fault.ProfileRule.{ProfileRule}
use Rattle.lv_schema.specs.declared.fault.ProfileRule.TheVariants as rule
use Rattle.lv_schema.specs.declared.forced.Forced.{Forced}
use Rattle.lv_plain.specs.declared.entry.Reply.{Reply}
use Rattle.lv_plain.specs.declared.entry.Reply.TheVariants.{Alone, Committed, Rows, Tasks, Refused}
use Rattle.lv_plain.specs.declared.entry.MarkOutcome.{MarkOutcome}
use Rattle.lv_plain.specs.declared.entry.MarkOutcome.TheVariants as mark
use Rattle.lv_plain.specs.declared.entry.Entry.{Entry}
use Rattle.lv_plain.specs.declared.entry.Entry.TheVariants.{Session, Fetched, Installed, Moved, Marked, Cleaned}
use Rattle.lv_lines.specs.declared.names.Names.{Names}
use Rattle.lv_lines.specs.Words.{name_of}
use Rattle.lv_lines.specs.ValueForms.{row, key}
use Rattle.lv_lines.specs.FaultForms.{any_limit, any_rule, any_fault}
use Rattle.lv_lines.specs.ReplyForms.{task, any_reply, step, forced_line as forced_form}
use Rattle.lv_lines.specs.EntryForms.{outcome, any_entry, entries}
use Rattle.lv_lines.specs.Transcript.{commit_text, entry_text, fault_text, forced_line, key_text, limit_word, outcome_text, reply_text, rule_word, step_text, task_line, text_of}

-- ---- pieces, put together from the left and from the right
four : (a b c d : List ℕ) → a ++ b ++ c ++ d ≡ a ++ (b ++ (c ++ d))
four a b c d = simp append_assoc

five : (a b c d e : List ℕ) → a ++ b ++ c ++ d ++ e ≡ a ++ (b ++ (c ++ (d ++ e)))
five a b c d e = simp append_assoc

line : (a b c d e : List ℕ) → a ++ b ++ c ++ d ++ e ≡ a ++ ((b ++ (c ++ d)) ++ e)
line a b c d e = simp append_assoc

six : (a b c d e f : List ℕ) → a ++ b ++ c ++ d ++ e ++ f ≡ a ++ (b ++ (c ++ (d ++ (e ++ f))))
six a b c d e f = simp append_assoc

seven : (a b c d e f g : List ℕ) → a ++ b ++ c ++ d ++ e ++ f ++ g ≡ a ++ (b ++ (c ++ (d ++ (e ++ (f ++ g)))))
seven a b c d e f g = simp append_assoc

worker_line : (w k a b e : List ℕ) → (w ++ k) ++ a ++ b ++ e ≡ w ++ (k ++ (a ++ (b ++ e)))
worker_line w k a b e = simp append_assoc

moved_line : (w k a b c d e : List ℕ) → (w ++ k) ++ a ++ b ++ c ++ d ++ e ≡ w ++ (k ++ (a ++ (b ++ (c ++ (d ++ e)))))
moved_line w k a b c d e = simp append_assoc

-- ---- values
behind_is : (between : List ℕ) (vs : List Value) → flat_map (λ v. between ++ value_text v) vs ≡ values_behind between vs
behind_is between [] = refl
behind_is between (v ∷ vs) = ap (λ (t : List ℕ). between ++ value_text v ++ t) (behind_is between vs)

values_is : (between : List ℕ) (vs : List Value) → values_text between vs ≡ join_by value_text between vs
values_is between [] = refl
values_is between (v ∷ vs) = ap (λ (t : List ℕ). value_text v ++ t) (sym (behind_is between vs))

row_same : (vs : List Value) → row_line vs ≡ row.text vs
row_same vs = ap (λ (t : List ℕ). codes "| " ++ t ++ codes "\n") (values_is (codes " | ") vs)

key_same : (vs : List Value) → key_text vs ≡ key.text vs
key_same vs = ap (λ (t : List ℕ). codes "(" ++ t ++ codes ")") (values_is (codes ", ") vs)

-- ---- faults
limit_same : (which : LimitKind) → limit_word which ≡ any_limit.text which
limit_same limit.Name = refl
limit_same _ = refl

rule_same : (which : ProfileRule) → rule_word which ≡ any_rule.text which
rule_same rule.Base = refl
rule_same _ = refl

fault_same : (names : Names) (f : Fault) → fault_text names f ≡ (any_fault names).text f
fault_same names (Limit which most) = four (codes "6 limit ") (limit_word which) (codes " ") (decimal most) ∙ ap (λ (t : List ℕ). codes "6 limit " ++ (t ++ (codes " " ++ decimal most))) (limit_same which)
fault_same names (Profile which) = ap (λ (t : List ℕ). codes "7 view profile " ++ t) (rule_same which)
fault_same names (Duplicate table k) =
    four (codes "13 duplicate key ") (name_of names.tables table) (codes " ") (key_text k)
    ∙ ap (λ (t : List ℕ). codes "13 duplicate key " ++ (name_of names.tables table ++ (codes " " ++ t))) (key_same k)
fault_same names (Conflict table k commit) =
    six (codes "15 write conflict ") (name_of names.tables table) (codes " ") (key_text k) (codes " commit ") (decimal commit)
    ∙ ap (λ (t : List ℕ). codes "15 write conflict " ++ (name_of names.tables table ++ (codes " " ++ (t ++ (codes " commit " ++ decimal commit))))) (key_same k)
fault_same names (JournalFull need limit) = four (codes "18 journal full need ") (decimal need) (codes " limit ") (decimal limit)
fault_same names _ = refl

-- ---- replies
all_same : {A : Type 0} (f g : A → List ℕ) → ((a : A) → f a ≡ g a) → (xs : List A) → flat_map f xs ≡ flat_map g xs
all_same f g same [] = refl
all_same f g same (x ∷ xs) = ap (λ (t : List ℕ). t ++ flat_map f xs) (same x) ∙ ap (λ (t : List ℕ). g x ++ t) (all_same f g same xs)

task_same : (names : Names) (t : ℕ × ℕ) → task_line names t ≡ (task names).text t
task_same names t = line (codes "| ") (name_of names.views t.0) (codes " | ") (decimal t.1) (codes "\n")

reply_same : (names : Names) (r : Reply) → reply_text names r ≡ (any_reply names).text r
reply_same names (Alone count (Some number)) = five (codes "ok ") (decimal count) (codes " commit") (commit_text (Some number)) (codes "\n")
reply_same names (Alone count None) = five (codes "ok ") (decimal count) (codes " commit") [] (codes "\n")
reply_same names (Committed (Some number)) = refl
reply_same names (Committed None) = refl
reply_same names (Rows rows) =
    four (codes "rows ") (decimal (length rows)) (codes "\n") (flat_map row_line rows)
    ∙ ap (λ (t : List ℕ). codes "rows " ++ (decimal (length rows) ++ (codes "\n" ++ t))) (all_same row_line row.text row_same rows)
reply_same names (Tasks tasks) =
    four (codes "tasks ") (decimal (length tasks)) (codes "\n") (flat_map (task_line names) tasks)
    ∙ ap (λ (t : List ℕ). codes "tasks " ++ (decimal (length tasks) ++ (codes "\n" ++ t))) (all_same (task_line names) (task names).text (task_same names) tasks)
reply_same names (Refused f) = ap (λ (t : List ℕ). codes "fault " ++ t ++ codes "\n") (fault_same names f)
reply_same names _ = refl

-- ---- entries
step_same : (names : Names) (view lo hi : ℕ) → step_text names view lo hi ≡ (step names).text (record { view = view; lo = lo; hi = hi })
step_same names view lo hi = five (name_of names.views view) (codes " ") (decimal lo) (codes " ") (decimal hi)

forced_same : (names : Names) (f : Forced) → forced_line names f ≡ (forced_form names).text f
forced_same names f = ap (λ (t : List ℕ). codes "force " ++ t ++ codes "\n") (step_same names f.view f.lo f.hi)

outcome_same : (names : Names) (o : MarkOutcome) → outcome_text names o ≡ (outcome names).text o
outcome_same names (mark.Refused f) = ap (λ (t : List ℕ). codes "fault " ++ t) (fault_same names f)
outcome_same names _ = refl

pub entry_same : (names : Names) (e : Entry) → entry_text names e ≡ (any_entry names).text e
entry_same names (Session session place forced r) =
    six (flat_map (forced_line names) forced) (name_of names.sessions session) (codes " ") (decimal place) (codes " ") (reply_text names r)
    ∙ ap₂ (λ (s t : List ℕ). s ++ (name_of names.sessions session ++ (codes " " ++ (decimal place ++ (codes " " ++ t))))) (all_same (forced_line names) (forced_form names).text (forced_same names) forced) (reply_same names r)
entry_same names (Fetched worker view lo hi) =
    worker_line (codes "w") (decimal worker) (codes " fetch ") (step_text names view lo hi) (codes "\n")
    ∙ ap (λ (t : List ℕ). codes "w" ++ (decimal worker ++ (codes " fetch " ++ (t ++ codes "\n")))) (step_same names view lo hi)
entry_same names (Installed worker view lo hi) =
    worker_line (codes "w") (decimal worker) (codes " install ") (step_text names view lo hi) (codes "\n")
    ∙ ap (λ (t : List ℕ). codes "w" ++ (decimal worker ++ (codes " install " ++ (t ++ codes "\n")))) (step_same names view lo hi)
entry_same names (Moved worker view lo hi point) =
    moved_line (codes "w") (decimal worker) (codes " moved ") (step_text names view lo hi) (codes " at ") (decimal point) (codes "\n")
    ∙ ap (λ (t : List ℕ). codes "w" ++ (decimal worker ++ (codes " moved " ++ (t ++ (codes " at " ++ (decimal point ++ codes "\n")))))) (step_same names view lo hi)
entry_same names (Marked view o) =
    five (codes "mark ") (name_of names.views view) (codes " ") (outcome_text names o) (codes "\n")
    ∙ ap (λ (t : List ℕ). codes "mark " ++ (name_of names.views view ++ (codes " " ++ (t ++ codes "\n")))) (outcome_same names o)
entry_same names (Cleaned floor versions deltas) = seven (codes "clean ") (decimal floor) (codes " versions ") (decimal versions) (codes " deltas ") (decimal deltas) (codes "\n")
entry_same names _ = refl

pub text_same : (names : Names) (es : List Entry) → text_of names es ≡ (entries names).text es
text_same names es = all_same (entry_text names) (any_entry names).text (entry_same names) es
