-- The text of an entry that has its names stays the same where tables and views are added.
use Rattle.std.proofs.Common.{◌≡◌, ℕ, ◌<◌, List, [], ◌∷◌, ◌++◌, length, refl, sym, ap, ◌∙◌}
use Rattle.std.specs.Prelude.{codes, decimal}
use Rattle.std.specs.List.{AllByRecursion, flat_map}
use Rattle.std.proofs.lemmas.List.{append-nil, get_or_append_left}
use Rattle.std.proofs.lemmas.Grind.{flat_map-append}
use Rattle.lv_schema.specs.declared.fault.Fault.{Fault}
use Rattle.lv_schema.specs.declared.fault.Fault.TheVariants.{Duplicate, TableFull, Conflict, MergedFull}
use Rattle.lv_schema.specs.declared.forced.Forced.{Forced}
use Rattle.lv_plain.specs.declared.entry.Entry.{Entry}
use Rattle.lv_plain.specs.declared.entry.Entry.TheVariants.{Session, Fetched, Installed, Moved, Marked}
use Rattle.lv_plain.specs.declared.entry.MarkOutcome.{MarkOutcome}
use Rattle.lv_plain.specs.declared.entry.MarkOutcome.TheVariants as mark
use Rattle.lv_plain.specs.declared.entry.Reply.{Reply}
use Rattle.lv_plain.specs.declared.entry.Reply.TheVariants.{Tasks, Refused}
use Rattle.lv_plain.specs.Named.{AreNamed, IsNamedEntry, IsNamedFault, IsNamedOutcome, IsNamedReply}
use Rattle.lv_lines.specs.declared.names.Names.{Names}
use Rattle.lv_lines.specs.Entries.{numbers_in_use}
use Rattle.lv_lines.specs.Transcript.{entry_text, fault_text, forced_line, key_text, name_of, outcome_text, reply_text, step_text, task_line, text_of, worker_text}
use Rattle.lv_namelaw.specs.MoreNames.{IsFront}

-- ---- names and lists of lines

name_kept : (xs ys : List (List ℕ)) (i : ℕ) → i < length xs → IsFront xs ys → name_of xs i ≡ name_of ys i
name_kept xs ys i lt front = sym (ap (λ (l : List (List ℕ)). name_of l i) front.1 ∙ get_or_append_left xs front.0 [] i lt)

lines_kept : {A : Type 0} (f g : A → List ℕ) (P : A → Type 0) → ((a : A) → P a → f a ≡ g a) → (xs : List A) → AllByRecursion P xs → flat_map f xs ≡ flat_map g xs
lines_kept f g P same [] h = refl
lines_kept f g P same (x ∷ xs) h =
    let first = same x h.0 in
    let others = lines_kept f g P same xs h.1 in
    λ i. first i ++ others i

-- ---- parts of a line

fault_kept : (names more : Names) (f : Fault) → IsNamedFault (numbers_in_use names) f → IsFront names.tables more.tables → fault_text names f ≡ fault_text more f
fault_kept names more (Duplicate table key) named tables =
    ap (λ (t : List ℕ). codes "13 duplicate key " ++ t ++ codes " " ++ key_text key) (name_kept names.tables more.tables table named tables)
fault_kept names more (TableFull table) named tables = ap (λ (t : List ℕ). codes "14 table full " ++ t) (name_kept names.tables more.tables table named tables)
fault_kept names more (Conflict table key commit) named tables =
    ap (λ (t : List ℕ). codes "15 write conflict " ++ t ++ codes " " ++ key_text key ++ codes " commit " ++ decimal commit) (name_kept names.tables more.tables table named tables)
fault_kept names more (MergedFull table) named tables = ap (λ (t : List ℕ). codes "16 table full at commit " ++ t) (name_kept names.tables more.tables table named tables)
fault_kept names more _ named tables = refl

task_kept : (names more : Names) (task : ℕ × ℕ) → task.0 < length names.views → IsFront names.views more.views → task_line names task ≡ task_line more task
task_kept names more task named views =
    ap (λ (t : List ℕ). codes "| " ++ t ++ codes " | " ++ decimal task.1 ++ codes "\n") (name_kept names.views more.views task.0 named views)

step_kept : (names more : Names) (view lo hi : ℕ) → view < length names.views → IsFront names.views more.views → step_text names view lo hi ≡ step_text more view lo hi
step_kept names more view lo hi named views =
    ap (λ (t : List ℕ). t ++ codes " " ++ decimal lo ++ codes " " ++ decimal hi) (name_kept names.views more.views view named views)

forced_kept : (names more : Names) (f : Forced) → f.view < length names.views → IsFront names.views more.views → forced_line names f ≡ forced_line more f
forced_kept names more f named views = ap (λ (t : List ℕ). codes "force " ++ t ++ codes "\n") (step_kept names more f.view f.lo f.hi named views)

reply_kept : (names more : Names) (r : Reply) → IsNamedReply (numbers_in_use names) r → IsFront names.tables more.tables → IsFront names.views more.views → reply_text names r ≡ reply_text more r
reply_kept names more (Tasks tasks) named tables views =
    ap (λ (t : List ℕ). codes "tasks " ++ decimal (length tasks) ++ codes "\n" ++ t)
    (lines_kept (task_line names) (task_line more) (λ task. task.0 < length names.views) (λ task lt. task_kept names more task lt views) tasks named)
reply_kept names more (Refused fault) named tables views = ap (λ (t : List ℕ). codes "fault " ++ t ++ codes "\n") (fault_kept names more fault named tables)
reply_kept names more _ named tables views = refl

outcome_kept : (names more : Names) (o : MarkOutcome) → IsNamedOutcome (numbers_in_use names) o → IsFront names.tables more.tables → outcome_text names o ≡ outcome_text more o
outcome_kept names more (mark.Refused fault) named tables = ap (λ (t : List ℕ). codes "fault " ++ t) (fault_kept names more fault named tables)
outcome_kept names more _ named tables = refl

-- ---- entries

pub entry_kept : (names more : Names) (e : Entry) → IsNamedEntry (numbers_in_use names) e → names.sessions ≡ more.sessions
    → IsFront names.tables more.tables → IsFront names.views more.views → entry_text names e ≡ entry_text more e
entry_kept names more (Session session place forced reply) named sessions tables views =
    let steps = lines_kept (forced_line names) (forced_line more) (λ f. f.view < length names.views) (λ f lt. forced_kept names more f lt views) forced named.1 in
    let answer = reply_kept names more reply named.2 tables views in
    λ i. steps i ++ name_of (sessions i) session ++ codes " " ++ decimal place ++ codes " " ++ answer i
entry_kept names more (Fetched worker view lo hi) named sessions tables views =
    ap (λ (t : List ℕ). worker_text worker ++ codes " fetch " ++ t ++ codes "\n") (step_kept names more view lo hi named views)
entry_kept names more (Installed worker view lo hi) named sessions tables views =
    ap (λ (t : List ℕ). worker_text worker ++ codes " install " ++ t ++ codes "\n") (step_kept names more view lo hi named views)
entry_kept names more (Moved worker view lo hi point) named sessions tables views =
    ap (λ (t : List ℕ). worker_text worker ++ codes " moved " ++ t ++ codes " at " ++ decimal point ++ codes "\n") (step_kept names more view lo hi named views)
entry_kept names more (Marked view outcome) named sessions tables views =
    let name = name_kept names.views more.views view named.0 views in
    let shown = outcome_kept names more outcome named.1 tables in
    λ i. codes "mark " ++ name i ++ codes " " ++ shown i ++ codes "\n"
entry_kept names more _ named sessions tables views = refl

pub entries_kept : (names more : Names) (es : List Entry) → AreNamed (numbers_in_use names) es → names.sessions ≡ more.sessions
    → IsFront names.tables more.tables → IsFront names.views more.views → text_of names es ≡ text_of more es
entries_kept names more es named sessions tables views =
    lines_kept (entry_text names) (entry_text more) (IsNamedEntry (numbers_in_use names)) (λ e each. entry_kept names more e each sessions tables views) es named

pub text_joined : (names : Names) (es fs : List Entry) → text_of names (es ++ fs) ≡ text_of names es ++ text_of names fs
text_joined names es fs = flat_map-append (entry_text names) es fs

pub text_of_one : (names : Names) (e : Entry) → text_of names (e ∷ []) ≡ entry_text names e
text_of_one names e = append-nil (entry_text names e)
