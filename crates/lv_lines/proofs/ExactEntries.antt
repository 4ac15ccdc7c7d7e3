-- The forms of a transcript's entries are exact.
use Rattle.std.proofs.Common.{◌≡◌, ℕ, ◌+◌, ◌^◌, ◌<◌, ◌≤◌, Bool, true, false, not, ◌&&◌, ◌||◌, ◌⊎◌, inl, inr, nat_le, eqb, List, [], ◌∷◌, ◌++◌, codes, length, drop, Some, refl, sym, ap, ◌∙◌, append_assoc, length-append, arith}
use Rattle.std.specs.Prelude.{decimal}
use Rattle.std.specs.Char.{is_ascii_digit}
use Rattle.std.specs.List.{flat_map, list_all, prefix_len}
use Rattle.std.proofs.lemmas.Fmt.{decimal_digit}
use Rattle.std.proofs.lemmas.List.{append-nil, drop_at}
use Rattle.lv_reading.specs.Reading.{begins}
use Rattle.lv_reading.proofs.Again.{prefix_len_again}
use Rattle.lv_reading.proofs.Decimals.{decimal_digits, decimal_some}
use Rattle.lv_schema.specs.declared.forced.Forced.{Forced}
use Rattle.lv_plain.specs.declared.entry.Reply.{Reply}
use Rattle.lv_plain.specs.declared.entry.Reply.TheVariants as reply
use Rattle.lv_plain.specs.declared.entry.MarkOutcome.{MarkOutcome}
use Rattle.lv_plain.specs.declared.entry.MarkOutcome.TheVariants.{Upto, Already, Refused}
use Rattle.lv_plain.specs.declared.entry.Entry.{Entry}
use Rattle.lv_plain.specs.declared.entry.Entry.TheVariants as entry
use Rattle.lv_lines.specs.declared.names.Names.{Names}
use Rattle.lv_values.specs.Names.{continues_name}
use Rattle.lv_lines.specs.Entries.{IsWord, IsNames}
use Rattle.lv_lines.specs.Words.{name_of, word_len, is_numbered}
use Rattle.lv_lines.proofs.TakesWords.{and_parts}
use Rattle.lv_lines.proofs.AgainWords.{word_all, name_is_word}
use Rattle.lv_forms.specs.Forms.{IsExact, count, ended, pair}
use Rattle.lv_forms.specs.Tables.{Fields, text_of, FitsOf, at}
use Rattle.lv_forms.proofs.Exact.{nothing_exact, ended_exact, pair_exact, both_exact, mapped_exact, only_exact, either_exact, repeated_exact}
use Rattle.lv_forms.proofs.ExactTables.{sum_exact}
use Rattle.lv_forms.proofs.Wholes.{whole_same}
use Rattle.lv_lines.specs.declared.worker.Action.{Action}
use Rattle.lv_lines.specs.declared.worker.Action.TheVariants as action
use Rattle.lv_lines.specs.ReplyForms.{any_reply, forced_line}
use Rattle.lv_lines.specs.WorkerForms.{any_action}
use Rattle.lv_lines.specs.EntryForms.{is_forced, is_cleaned, goes_on, statement_line, Statement, statement, is_statement, is_store_fault, outcome_kinds, outcome_of, outcome_parts, starts_number, outcome, is_unknown, mark, action_entry, entry_kinds, entry_of, entry_parts, any_entry, entries, AreEntries}
use Rattle.lv_lines.specs.Transcript.{text_of as all_text}
use Rattle.lv_lines.proofs.SecondWords.{number_first, behind_word, numbered, not_numbered, seen_text}
use Rattle.lv_lines.proofs.ExactLines.{name_exact, own_exact, small_exact, big_exact, fault_exact, reply_exact, forced_exact}
use Rattle.lv_lines.proofs.ExactWorkers.{any_action_exact}
use Rattle.lv_lines.proofs.SameText.{text_same}

-- ---- outcomes of a mark

digits_known : (ds rest : List ℕ) → list_all is_ascii_digit ds ≡ true → 0 < length ds → begins (codes " unknown") (32 ∷ (ds ++ rest)) ≡ false
unfolding begins
digits_known [] rest h some = absurd (omega arith)
digits_known (d ∷ ds) rest h some =
    let digit : is_ascii_digit d ≡ true = (and_parts (is_ascii_digit d) (list_all is_ascii_digit ds) h).0 in
    let u : eqb 117 d ≡ false = grind arith in
    rw u refl

module _ (names : Names) where
  outcome_made : (o : MarkOutcome) → outcome_of names (outcome_parts names o) ≡ o
  outcome_made (Upto n) = refl
  outcome_made _ = refl

  outcome_parted : (a : ℕ ⊎ Fields (outcome_kinds names)) → outcome_parts names (outcome_of names a) ≡ a
  outcome_parted (inl n) = refl
  outcome_parted (inr (inl u)) = refl
  outcome_parted (inr (inr (inl f))) = refl
  outcome_parted (inr (inr (inr e))) = absurd e

  no_number : (x : Fields (outcome_kinds names)) (rest : List ℕ) → FitsOf (outcome_kinds names) x → starts_number (text_of (outcome_kinds names) x ++ rest) ≡ false
  no_number (inl u) rest fits = refl
  no_number (inr (inl f)) rest fits = refl
  no_number (inr (inr e)) rest fits = absurd e

  outcome_exact : IsNames names → IsExact (outcome names)
  outcome_exact is =
      mapped_exact (outcome_of names) (outcome_parts names)
      (either_exact starts_number big_exact
      (sum_exact (outcome_kinds names) refl (nothing_exact, (only_exact is_store_fault (fault_exact names is), tt)))
      (λ n rest fits. number_first n rest (omega arith)) no_number)
      outcome_made outcome_parted

  outcome_known : (o : MarkOutcome) (rest : List ℕ) → (outcome names).Fits o → begins (codes " unknown") (32 ∷ ((outcome names).text o ++ rest)) ≡ false
  unfolding begins
  outcome_known (Upto n) rest fits = let wider : n < 2 ^ 128 = omega arith in digits_known (decimal n) rest (decimal_digits n wider) (decimal_some n wider)
  outcome_known Already rest fits = refl
  outcome_known (Refused f) rest fits = refl

-- ---- second words

line_shape : (a p r rest : List ℕ) → (a ++ (codes " " ++ (p ++ (codes " " ++ r)))) ++ rest ≡ a ++ (32 ∷ (p ++ (32 ∷ (r ++ rest))))
line_shape a p r rest = simp append_assoc

step_shape : (a s n rest : List ℕ) → ((a ++ s) ++ n) ++ rest ≡ a ++ (s ++ (n ++ rest))
step_shape a s n rest = simp append_assoc

not_then : (t u : Bool) → t ≡ true → (not t && u) ≡ false
not_then true u e = refl
not_then false u e = absurd cc

or_true : (t : Bool) → (t || true) ≡ true
or_true true = refl
or_true false = refl

abbrev IsWorker : ℕ → Type 0
IsWorker k = (1 ≤ k) × (k ≤ 8)

-- behind a worker comes a word
worker_not_numbered : (k b : ℕ) (rest : List ℕ) → IsWorker k → is_ascii_digit b ≡ false → is_numbered (119 ∷ (decimal k ++ (32 ∷ b ∷ rest))) ≡ false
worker_not_numbered k b rest is other =
    let digit : continues_name (48 + k) ≡ true = grind (arith, is) in
    let word : IsWord (119 ∷ (48 + k) ∷ []) = rw digit refl in
    ap (λ (t : List ℕ). is_numbered (119 ∷ (t ++ (32 ∷ b ∷ rest)))) (decimal_digit k (omega (arith, is.1))) ∙ behind_word (119 ∷ (48 + k) ∷ []) (b ∷ rest) word ∙ other

worker_is : (k : ℕ) → (nat_le 1 k && nat_le k 8) ≡ true → IsWorker k
worker_is k h = grind arith

clean_is : (floor : ℕ) (rest : List ℕ) → floor < 2 ^ 64 → is_cleaned (codes "clean " ++ (decimal floor ++ (codes " versions " ++ rest))) ≡ true
unfolding begins
clean_is floor rest fits =
    let digits : prefix_len is_ascii_digit (decimal floor ++ (codes " versions " ++ rest)) ≡ length (decimal floor) = prefix_len_again is_ascii_digit (decimal floor) (codes " versions " ++ rest) (decimal_digits floor (omega arith)) refl in
    let left : drop (length (decimal floor)) (decimal floor ++ (codes " versions " ++ rest)) ≡ codes " versions " ++ rest = drop_at (decimal floor) (codes " versions " ++ rest) (length (decimal floor)) refl in
    rw (digits, left) refl

module _ (names : Names) (is : IsNames names) where
  -- ---- marks

  mark_known : (w rest : List ℕ) → IsWord w → is_unknown (w ++ (codes " unknown\n" ++ rest)) ≡ true
  unfolding begins
  mark_known w rest iw = rw (prefix_len_again continues_name w (codes " unknown\n" ++ rest) (word_all w iw) refl, drop_at w (codes " unknown\n" ++ rest) (length w) refl) refl

  mark_other : (w : List ℕ) (o : MarkOutcome) (rest : List ℕ) → IsWord w → (outcome names).Fits o → is_unknown (w ++ (32 ∷ ((outcome names).text o ++ rest))) ≡ false
  mark_other w o rest iw fits = rw (prefix_len_again continues_name w (32 ∷ ((outcome names).text o ++ rest)) (word_all w iw) refl, drop_at w (32 ∷ ((outcome names).text o ++ rest)) (length w) refl) (outcome_known names o rest fits)

  view_is_word : (view : ℕ) → view < length names.views → IsWord (name_of names.views view)
  view_is_word view named = name_is_word names.views view is.views.0 named

  mark_exact : IsExact (mark names)
  unfolding begins
  mark_exact =
      either_exact is_unknown
      (ended_exact (codes " unknown\n") own_exact (λ rest. refl))
      (pair_exact (codes " ") (name_exact names.views is.views) (λ rest. refl) (ended_exact (codes "\n") (outcome_exact names is) (λ rest. refl)))
      (λ w rest fits. ap is_unknown (append_assoc w (codes " unknown\n") rest) ∙ mark_known w rest fits)
      (λ p rest fits. ap is_unknown (mark_shape (name_of names.views p.0) ((outcome names).text p.1) rest) ∙ mark_other (name_of names.views p.0) p.1 (codes "\n" ++ rest) (view_is_word p.0 fits.0.0) fits.1)
    where
      mark_shape : (a o rest : List ℕ) → (a ++ (codes " " ++ (o ++ codes "\n"))) ++ rest ≡ a ++ (32 ∷ (o ++ (codes "\n" ++ rest)))
      mark_shape a o rest = simp append_assoc

  -- ---- statements

  no_versions : (r : Reply) (rest : List ℕ) → begins (codes " versions ") (32 ∷ ((any_reply names).text r ++ rest)) ≡ false
  unfolding begins
  no_versions reply.Made rest = refl
  no_versions _ rest = refl

  statement_not_cleaned : (w : List ℕ) (n : ℕ) (r : Reply) (rest : List ℕ) → IsWord w → n < 2 ^ 32 → is_cleaned (w ++ (32 ∷ (decimal n ++ (32 ∷ ((any_reply names).text r ++ rest))))) ≡ false
  statement_not_cleaned w n r rest iw fits = here (begins (codes "clean ") whole) refl where
    behind : List ℕ
    behind = decimal n ++ (32 ∷ ((any_reply names).text r ++ rest))

    whole : List ℕ
    whole = w ++ (32 ∷ behind)

    here : (t : Bool) → begins (codes "clean ") whole ≡ t → is_cleaned whole ≡ false
    here false e = rw e refl
    here true e =
        let seen : whole ≡ codes "clean " ++ drop 6 whole = seen_text (codes "clean ") whole e in
        let five : word_len whole ≡ 5 = ap word_len seen in
        let len : length w ≡ 5 = sym (prefix_len_again continues_name w (32 ∷ behind) (word_all w iw) refl) ∙ five in
        let after : drop 6 whole ≡ behind = ap (drop 6) (sym (append_assoc w (32 ∷ []) behind)) ∙ drop_at (w ++ 32 ∷ []) behind 6 (omega (arith, len, length-append w (32 ∷ []))) in
        let digits : prefix_len is_ascii_digit behind ≡ length (decimal n) = prefix_len_again is_ascii_digit (decimal n) (32 ∷ ((any_reply names).text r ++ rest)) (decimal_digits n (omega arith)) refl in
        let left : drop (length (decimal n)) behind ≡ 32 ∷ ((any_reply names).text r ++ rest) = drop_at (decimal n) (32 ∷ ((any_reply names).text r ++ rest)) (length (decimal n)) refl in
        rw (e, after, digits, left) (no_versions r rest)

  session_is_word : (session : ℕ) → session < length names.sessions → IsWord (name_of names.sessions session)
  session_is_word session named = name_is_word names.sessions session is.sessions.0 named

  line_numbered : (l : ℕ × (ℕ × Reply)) (rest : List ℕ) → (statement_line names).Fits l → is_numbered ((statement_line names).text l ++ rest) ≡ true
  line_numbered l rest fits =
      ap is_numbered (line_shape (name_of names.sessions l.0) (decimal l.1.0) ((any_reply names).text l.1.1) rest)
      ∙ numbered (name_of names.sessions l.0) l.1.0 (32 ∷ ((any_reply names).text l.1.1 ++ rest)) (session_is_word l.0 fits.0.0) fits.1.0

  line_not_cleaned : (l : ℕ × (ℕ × Reply)) (rest : List ℕ) → (statement_line names).Fits l → is_cleaned ((statement_line names).text l ++ rest) ≡ false
  line_not_cleaned l rest fits =
      ap is_cleaned (line_shape (name_of names.sessions l.0) (decimal l.1.0) ((any_reply names).text l.1.1) rest)
      ∙ statement_not_cleaned (name_of names.sessions l.0) l.1.0 l.1.1 rest (session_is_word l.0 fits.0.0) fits.1.0

  forced_seen : (f : Forced) (rest : List ℕ) → (forced_line names).Fits f → is_forced ((forced_line names).text f ++ rest) ≡ true
  forced_seen f rest fits =
      let after : List ℕ = codes " " ++ (decimal f.lo ++ (codes " " ++ decimal f.hi)) in
      ap (λ (t : List ℕ). not (is_numbered (codes "force " ++ t))) (step_shape (name_of names.views f.view) after (codes "\n") rest)
      ∙ ap not (not_numbered (codes "force") (name_of names.views f.view) (after ++ (codes "\n" ++ rest)) refl (view_is_word f.view fits.0.0))

  line_exact : IsExact (statement_line names)
  line_exact = pair_exact (codes " ") (name_exact names.sessions is.sessions) (λ rest. refl) (pair_exact (codes " ") small_exact (λ rest. refl) (reply_exact names is))

  statement_exact : IsExact (statement names)
  statement_exact =
      both_exact (repeated_exact is_forced (forced_exact names is) (λ rest. refl) forced_seen (λ f fits. omega arith))
      (λ l rest fits. ap (λ (t : Bool). not (not t)) (line_numbered l rest fits)) line_exact

  statement_seen : (fs : List Forced) (l : ℕ × (ℕ × Reply)) (rest : List ℕ) → (statement_line names).Fits l → is_statement ((flat_map (forced_line names).text fs ++ (statement_line names).text l) ++ rest) ≡ true
  unfolding begins
  statement_seen [] l rest fits = rw (line_not_cleaned l rest fits, line_numbered l rest fits) (or_true _)
  statement_seen (f ∷ fs) l rest fits = refl

  -- ---- other lines

  action_other : (k : ℕ) (a : Action) (rest : List ℕ) → IsWorker k → is_numbered (119 ∷ (decimal k ++ ((any_action names).text a ++ rest))) ≡ false
  action_other k action.Idle rest iw = worker_not_numbered k _ _ iw refl
  action_other k _ rest iw = worker_not_numbered k _ _ iw refl

  other_seen : (x : Fields (entry_kinds names)) (rest : List ℕ) → FitsOf (entry_kinds names) x → is_statement (text_of (entry_kinds names) x ++ rest) ≡ false
  unfolding begins
  other_seen (inl (inl w)) rest fits = ap (λ (t : List ℕ). is_numbered (codes "mark " ++ t)) (append_assoc w (codes " unknown\n") rest) ∙ not_numbered (codes "mark") w (codes " unknown\n" ++ rest) refl fits
  other_seen (inl (inr p)) rest fits =
      let after : List ℕ = codes " " ++ ((outcome names).text p.1 ++ codes "\n") in
      ap (λ (t : List ℕ). is_numbered (codes "mark " ++ t)) (append_assoc (name_of names.views p.0) after rest) ∙ not_numbered (codes "mark") (name_of names.views p.0) (after ++ rest) refl (view_is_word p.0 fits.0.0)
  other_seen (inr (inl p)) rest fits =
      ap (λ (t : List ℕ). is_numbered (119 ∷ t)) (append_assoc (decimal p.0) ((any_action names).text p.1) rest) ∙ action_other p.0 p.1 rest (worker_is p.0 fits.0.1)
  other_seen (inr (inr (inl p))) rest fits =
      let after : List ℕ = decimal p.1.0 ++ (codes " deltas " ++ (decimal p.1.1 ++ codes "\n")) in
      let cleaned : is_cleaned (codes "clean " ++ ((decimal p.0 ++ (codes " versions " ++ after)) ++ rest)) ≡ true =
      ap (λ (t : List ℕ). is_cleaned (codes "clean " ++ t)) (append_assoc (decimal p.0) (codes " versions " ++ after) rest) ∙ clean_is p.0 (after ++ rest) fits.0 in
      not_then _ _ cleaned
  other_seen (inr (inr (inr e))) rest fits = absurd e

  clean_exact : IsExact (pair count (codes " versions ") (pair count (codes " deltas ") (ended count (codes "\n"))))
  clean_exact = pair_exact (codes " versions ") big_exact (λ rest. refl) (pair_exact (codes " deltas ") big_exact (λ rest. refl) (ended_exact (codes "\n") big_exact (λ rest. refl)))

  -- ---- entries

  entry_made : (e : Entry) → entry_of names (entry_parts names e) ≡ e
  entry_made (entry.Idle k) = refl
  entry_made _ = refl

  action_parted : (k : ℕ) (a : Action) → entry_parts names (action_entry k a) ≡ inr (at (entry_kinds names) 1 (k, a))
  action_parted k action.Idle = refl
  action_parted k _ = refl

  entry_parted : (x : Statement ⊎ Fields (entry_kinds names)) → entry_parts names (entry_of names x) ≡ x
  entry_parted (inl s) = refl
  entry_parted (inr (inl (inl w))) = refl
  entry_parted (inr (inl (inr p))) = refl
  entry_parted (inr (inr (inl p))) = action_parted p.0 p.1
  entry_parted (inr (inr (inr (inl p)))) = refl
  entry_parted (inr (inr (inr (inr e)))) = absurd e

  pub entry_exact : IsExact (any_entry names)
  entry_exact =
      mapped_exact (entry_of names) (entry_parts names)
      (either_exact is_statement statement_exact (sum_exact (entry_kinds names) refl (mark_exact, (any_action_exact names is, (clean_exact, tt)))) (λ s rest fits. statement_seen s.0 s.1 rest fits.1) other_seen)
      entry_made entry_parted

  -- ---- transcripts

  entry_long : (e : Entry) → 0 < length ((any_entry names).text e)
  entry_long (entry.Session session place fs r) =
      let after : List ℕ = codes " " ++ (decimal place ++ (codes " " ++ (any_reply names).text r)) in
      omega (arith, length-append (flat_map (forced_line names).text fs) (name_of names.sessions session ++ after), length-append (name_of names.sessions session) after)
  entry_long _ = omega arith

  long_goes_on : (xs rest : List ℕ) → 0 < length xs → goes_on (xs ++ rest) ≡ true
  long_goes_on [] rest h = absurd (omega arith)
  long_goes_on (x ∷ xs) rest h = refl

  pub entries_exact : IsExact (entries names)
  entries_exact = repeated_exact goes_on entry_exact (λ rest. refl) (λ e rest fits. long_goes_on ((any_entry names).text e) rest (entry_long e)) (λ e fits. entry_long e)

  -- the text determines the entries
  pub text_tells : (a b : List Entry) → AreEntries names a → AreEntries names b → all_text names a ≡ all_text names b → a ≡ b
  text_tells a b fits others e =
      let written : (entries names).text a ≡ (entries names).text b = sym (text_same names a) ∙ e ∙ text_same names b in
      let read : (entries names).read ((entries names).text a) ≡ Some (a, []) = ap (entries names).read (sym (append-nil ((entries names).text a))) ∙ entries_exact.again a [] fits refl in
      (whole_same (entries names) ((entries names).text a) b a [] entries_exact refl read others written).0
