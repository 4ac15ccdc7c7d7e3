-- What becomes of the records of a journal by an event: the one that it writes comes to them. And what a crash meanwhile
-- may leave.
use Rattle.std.proofs.Common.{inl, inr, ◌≡◌, ℕ, Bool, true, false, cond, List, [], ◌∷◌, ◌++◌, length, Option, Some, None, refl, sym, subst, ◌∙◌}
use Rattle.std.specs.Prelude.{◌⊎◌, ◌+◌, ◌==◌, nat_lt, if◌then◌else◌, slice_index, Result, Ok, Err}
use Rattle.std.specs.List.{cons_option}
use Rattle.std.proofs.lemmas.List.{append-nil}
use Rattle.lv_schema.specs.declared.bound.Bound.{Bound}
use Rattle.lv_schema.specs.declared.bound.Bound.TheVariants as bound
use Rattle.lv_schema.specs.declared.change.Change.{Change}
use Rattle.lv_schema.specs.declared.fault.Fault.{Fault}
use Rattle.lv_schema.specs.declared.open.Open.{Open}
use Rattle.lv_schema.specs.declared.rec.Rec.{Rec}
use Rattle.lv_schema.specs.Cases.{Case, Outcome, good, failed, full, alone, alone_committed, answered, began, changed, closed, committed, committed_unless, if_written, with_commit, with_count, with_table, with_view}
use Rattle.lv_schema.specs.Commits.{conflict_of, merged_full}
use Rattle.lv_schema.specs.Effects.{first_fault}
use Rattle.lv_schema.specs.Records.{commit_record, table_record, view_record}
use Rattle.lv_schema.specs.UpkeepCases.{Marking, mark_record, marked_by, marking, need, outcome_of}
use Rattle.lv_schema.specs.World.{Settings, Upkeep, Visible, last, point, transaction}
use Rattle.lv_journal.specs.declared.writer.Writer.{Writer}
use Rattle.lv_plain.specs.declared.entry.Reply.TheVariants as reply
use Rattle.lv_plain.specs.Turns.{Turn, bound_turn, is_open, read_turn, turn_by}
use Rattle.lv_replay.specs.Runs.{mark_written}
use Rattle.lv_crash.proofs.Follows.{Follows}
use Rattle.lv_engine.specs.Records.{HasRecords, IsDoubt, IsLeftBy, LeavesMore, Logs}
use Rattle.lv_engine.proofs.Logged.{unchanged_logs}
use Rattle.lv_core.proofs.CaseAnswers.{unattempted, unwritten}

abbrev CaseFollows : {A : Type 0} → Case A → Type 0
CaseFollows c = Follows c.attempted c.written

writes_follow : {A : Type 0} (out : Outcome) (rec : Rec) (a : A) (next s : Visible) → CaseFollows (if_written out rec a next s)
writes_follow good rec a next s = inr refl
writes_follow failed rec a next s = inl refl
writes_follow (full need limit) rec a next s = inl refl

commit_follows : (outcome : Rec → Outcome) (session : ℕ) (s : Visible) → CaseFollows (committed outcome session s)
commit_follows outcome session s = by (length o.actions == 0)
  where
    o : Open
    o = transaction session s

    unless : (f : Option Fault) → CaseFollows (committed_unless f outcome session o s)
    unless (Some f) = inl refl
    unless None = writes_follow (outcome (commit_record o s)) (commit_record o s) (Some (last s + 1)) (with_commit session o s) s

    by : (b : Bool) → CaseFollows (cond {A = Case (Option ℕ)} b (answered None (closed session s)) (committed_unless (first_fault (conflict_of s o) (merged_full s o)) outcome session o s))
    by true = inl refl
    by false = unless (first_fault (conflict_of s o) (merged_full s o))

alone_follows : (outcome : Rec → Outcome) (session : ℕ) (s begun : Visible) (answer : Result ℕ Fault) → CaseFollows (alone_committed answer outcome session begun s)
alone_follows outcome session s begun (Err f) = inl refl
alone_follows outcome session s begun (Ok count) = by (committed outcome session begun).answer
  where
    by : (answer : Result (Option ℕ) Fault) → CaseFollows (with_count count answer (committed outcome session begun) s)
    by (Ok number) = commit_follows outcome session begun
    by (Err f) = inl refl

bound_follows : (outcome : Rec → Outcome) (tasks : List (ℕ × ℕ)) (session : ℕ) (statement : Bound) (s : Visible) → let t = bound_turn outcome tasks session statement s in Follows t.attempted t.written
bound_follows outcome tasks session (bound.Table def) s = writes_follow {A = Unit {0}} (outcome (table_record def)) (table_record def) tt (with_table def s) s
bound_follows outcome tasks session (bound.View def) s = writes_follow {A = Unit {0}} (outcome (view_record def s)) (view_record def s) tt (with_view def s) s
bound_follows outcome tasks session (bound.Change change) s = by (is_open session s)
  where
    first : Case ℕ
    first = changed session change (began session s).next

    by : (b : Bool) → let t = if b then turn_by reply.Changed (changed session change s) else turn_by (λ done. reply.Alone done.0 done.1) (alone outcome session change s) in Follows t.attempted t.written
    by true = inl (unwritten session change s)
    by false = alone_follows outcome session s first.next first.answer
bound_follows outcome tasks session (bound.Query query) s = inl refl
bound_follows outcome tasks session (bound.Begin) s = inl refl
bound_follows outcome tasks session (bound.Commit) s = commit_follows outcome session s
bound_follows outcome tasks session (bound.Rollback) s = inl refl
bound_follows outcome tasks session (bound.Tasks) s = inl refl

pub turn_follows : (outcome : Rec → Outcome) (tasks : List (ℕ × ℕ)) (session : ℕ) (line : Result Bound Fault) (s : Visible) → let t = read_turn outcome tasks session line s in Follows t.attempted t.written
turn_follows outcome tasks session (Ok b) s = bound_follows outcome tasks session b s
turn_follows outcome tasks session (Err f) s = inl refl

-- ---- what is asked does not depend on whether the disk fails, and is what is written where it does not
module _ (settings : Settings) (u : Upkeep) (fails : Bool) where
  abbrev out_if : Bool → Rec → Outcome
  out_if b = outcome_of settings b u

  -- what becomes of a record that fits
  abbrev fitting : Bool → Outcome
  fitting b = if b then failed else good

  asks : {A : Type 0} (rec : Rec) (a : A) (next s : Visible) → (if_written (out_if fails rec) rec a next s).attempted ≡ (if_written (out_if false rec) rec a next s).written
  asks {A} rec a next s = by (nat_lt settings.limit (need u rec))
    where
      kept : (b : Bool) → (if_written {A = A} (fitting b) rec a next s).attempted ≡ Some rec
      kept true = refl
      kept false = refl

      by : (b : Bool) → (if_written {A = A} (if b then full (need u rec) settings.limit else fitting fails) rec a next s).attempted ≡ (if_written {A = A} (if b then full (need u rec) settings.limit else good) rec a next s).written
      by true = refl
      by false = kept fails

  commit_asks : (session : ℕ) (s : Visible) → (committed (out_if fails) session s).attempted ≡ (committed (out_if false) session s).written
  commit_asks session s = by (length o.actions == 0)
    where
      o : Open
      o = transaction session s

      unless : (f : Option Fault) → (committed_unless f (out_if fails) session o s).attempted ≡ (committed_unless f (out_if false) session o s).written
      unless (Some f) = refl
      unless None = asks (commit_record o s) (Some (last s + 1)) (with_commit session o s) s

      by : (b : Bool) → (cond {A = Case (Option ℕ)} b (answered None (closed session s)) (committed_unless (first_fault (conflict_of s o) (merged_full s o)) (out_if fails) session o s)).attempted
          ≡ (cond {A = Case (Option ℕ)} b (answered None (closed session s)) (committed_unless (first_fault (conflict_of s o) (merged_full s o)) (out_if false) session o s)).written
      by true = refl
      by false = unless (first_fault (conflict_of s o) (merged_full s o))

  -- a commit that is not answered as done writes nothing
  abbrev quiet : Result (Option ℕ) Fault → Option Rec → Option Rec
  quiet (Ok number) written = written
  quiet (Err f) written = None

  written_quiet : (out : Outcome) (rec : Rec) (a : Option ℕ) (next s : Visible) → let c = if_written out rec a next s in quiet c.answer c.written ≡ c.written
  written_quiet good rec a next s = refl
  written_quiet failed rec a next s = refl
  written_quiet (full need limit) rec a next s = refl

  abbrev IsQuiet : Case (Option ℕ) → Type 0
  IsQuiet c = quiet c.answer c.written ≡ c.written

  commit_quiet : (session : ℕ) (s : Visible) → let c = committed (out_if false) session s in quiet c.answer c.written ≡ c.written
  commit_quiet session s = by (length o.actions == 0)
    where
      o : Open
      o = transaction session s

      unless : (f : Option Fault) → IsQuiet (committed_unless f (out_if false) session o s)
      unless (Some f) = refl
      unless None = written_quiet (out_if false (commit_record o s)) (commit_record o s) (Some (last s + 1)) (with_commit session o s) s

      by : (b : Bool) → IsQuiet (cond {A = Case (Option ℕ)} b (answered None (closed session s)) (committed_unless (first_fault (conflict_of s o) (merged_full s o)) (out_if false) session o s))
      by true = refl
      by false = unless (first_fault (conflict_of s o) (merged_full s o))

  counted : (count : ℕ) (answer : Result (Option ℕ) Fault) (c : Case (Option ℕ)) (s : Visible) → ((with_count count answer c s).attempted ≡ c.attempted) × ((with_count count answer c s).written ≡ quiet answer c.written)
  counted count (Ok number) c s = (refl, refl)
  counted count (Err f) c s = (refl, refl)

  alone_asks : (session : ℕ) (s begun : Visible) (answer : Result ℕ Fault) → (alone_committed answer (out_if fails) session begun s).attempted ≡ (alone_committed answer (out_if false) session begun s).written
  alone_asks session s begun (Err f) = refl
  alone_asks session s begun (Ok count) =
      let c = committed (out_if fails) session begun in
      let d = committed (out_if false) session begun in
      (counted count c.answer c s).0 ∙ commit_asks session begun ∙ sym (commit_quiet session begun) ∙ sym (counted count d.answer d s).1

  abbrev changed_turn : ℕ → Change → Visible → (Rec → Outcome) → Bool → Turn
  changed_turn session change s out b = if b then turn_by reply.Changed (changed session change s) else turn_by (λ done. reply.Alone done.0 done.1) (alone out session change s)

  bound_asks : (tasks : List (ℕ × ℕ)) (session : ℕ) (statement : Bound) (s : Visible) → (bound_turn (out_if fails) tasks session statement s).attempted ≡ (bound_turn (out_if false) tasks session statement s).written
  bound_asks tasks session (bound.Table def) s = asks {A = Unit {0}} (table_record def) tt (with_table def s) s
  bound_asks tasks session (bound.View def) s = asks {A = Unit {0}} (view_record def s) tt (with_view def s) s
  bound_asks tasks session (bound.Change change) s = by (is_open session s)
    where
      first : Case ℕ
      first = changed session change (began session s).next

      by : (b : Bool) → (changed_turn session change s (out_if fails) b).attempted ≡ (changed_turn session change s (out_if false) b).written
      by true = unattempted session change s ∙ sym (unwritten session change s)
      by false = alone_asks session s first.next first.answer
  bound_asks tasks session (bound.Query query) s = refl
  bound_asks tasks session (bound.Begin) s = refl
  bound_asks tasks session (bound.Commit) s = commit_asks session s
  bound_asks tasks session (bound.Rollback) s = refl
  bound_asks tasks session (bound.Tasks) s = refl

  pub turn_asks : (tasks : List (ℕ × ℕ)) (session : ℕ) (line : Result Bound Fault) (s : Visible) → (read_turn (out_if fails) tasks session line s).attempted ≡ (read_turn (out_if false) tasks session line s).written
  turn_asks tasks session (Ok b) s = bound_asks tasks session b s
  turn_asks tasks session (Err f) s = refl

  abbrev marking_by : ℕ → Bool → (Rec → Outcome) → Marking
  marking_by v b out = cond {A = Marking} b (record { answer = Ok None; next = u; attempted = None }) (marked_by (out (mark_record v u)) v u)

  -- a mark asks for what it writes
  pub mark_asks : (v : ℕ) → (marking (out_if fails) v u).attempted ≡ mark_written (marking (out_if false) v u)
  mark_asks v = by (slice_index u.marks v == point u v)
    where
      kept : (b : Bool) → (marked_by (fitting b) v u).attempted ≡ mark_written (marked_by good v u)
      kept true = refl
      kept false = refl

      written : (b : Bool) → (marked_by (if b then full (need u (mark_record v u)) settings.limit else fitting fails) v u).attempted ≡ mark_written (marked_by (if b then full (need u (mark_record v u)) settings.limit else good) v u)
      written true = refl
      written false = kept fails

      by : (b : Bool) → (marking_by v b (out_if fails)).attempted ≡ mark_written (marking_by v b (out_if false))
      by true = refl
      by false = written (nat_lt settings.limit (need u (mark_record v u)))

-- ---- what becomes of a journal
some_is : (a b : Rec) → ◌≡◌ {A = Option Rec} (Some a) (Some b) → a ≡ b
some_is a b e = cc

module _ {D : Type 0} (seen : D → Option (List ℕ)) (may_leave : D → List ℕ → Type 0) (moment : D → ℕ) (left_since : D → ℕ → List ℕ → Type 0) where
  -- what may be in doubt once a record was asked for: nothing; or, where none was written, what was in doubt before or the
  -- record that was asked for
  abbrev pub IsAfter : Option Rec → Option Rec → Option Rec → Option Rec → Type 0
  IsAfter doubt asked written after = (after ≡ None) ⊎ ((written ≡ None) × ((after ≡ doubt) ⊎ (after ≡ asked)))

  -- a journal has a record more, where one was written; and what a crash meanwhile may leave
  pub record GoesOn (recs : List Rec) (doubt asked written : Option Rec) (old new : Writer D) : Type 0 where
    pub after : Option Rec
    pub doubted : IsAfter doubt asked written after
    pub has : HasRecords seen may_leave (recs ++ cons_option written []) after new
    pub left : LeavesMore moment left_since old.disk new.disk (IsLeftBy recs doubt asked)

  abbrev pub Goes : Option Rec → Option Rec → Writer D → Writer D → Type 0
  Goes asked written old new = (recs : List Rec) (doubt : Option Rec) → HasRecords seen may_leave recs doubt old → GoesOn recs doubt asked written old new

  no_more : (recs : List Rec) (doubt : Option Rec) (j : Writer D) → HasRecords seen may_leave recs doubt j → HasRecords seen may_leave (recs ++ []) doubt j
  no_more recs doubt j has = subst (λ (rs : List Rec). HasRecords seen may_leave rs doubt j) (sym (append-nil recs)) has

  unasked : (old new : Writer D) → Logs seen may_leave moment left_since None None old new → Goes None None old new
  unasked old new logs = λ recs doubt has. let done = logs recs doubt has in record { after = doubt; doubted = inr (refl, inl refl); has = no_more recs doubt new done.has; left = done.left }

  pub goes_same : (old new : Writer D) → new ≡ old → Goes None None old new
  goes_same old new same = unasked old new (unchanged_logs seen may_leave moment left_since old new same)

  none_written : (written : Option Rec) (old new : Writer D) → written ≡ None → Logs seen may_leave moment left_since None written old new → Goes None written old new
  none_written written old new is logs = subst (λ (o : Option Rec). Goes None o old new) (sym is) (unasked old new logs)

  pub goes : (asked written : Option Rec) (old new : Writer D) → Follows asked written → Logs seen may_leave moment left_since asked written old new → Goes asked written old new
  goes None written old new (inl is) logs = none_written written old new is logs
  goes None written old new (inr is) logs = none_written written old new is logs
  goes (Some rec) None old new follows logs = λ recs doubt has.
      let done = logs recs doubt has in
      record { after = done.0; doubted = after_is doubt done.0 done.1; has = no_more recs done.0 new done.2.has; left = done.2.left }
    where
      after_is : (doubt after : Option Rec) → IsDoubt doubt rec after → IsAfter doubt (Some rec) None after
      after_is doubt after (inl e) = inr (refl, inl e)
      after_is doubt after (inr (inl e)) = inl e
      after_is doubt after (inr (inr e)) = inr (refl, inr e)
  goes (Some rec) (Some wrote) old new (inl is) logs = absurd cc
  goes (Some rec) (Some wrote) old new (inr is) logs = λ recs doubt has.
      let done = logs recs doubt has in
      record {
        after = None;
        doubted = inl refl;
        has = subst (λ (r : Rec). HasRecords seen may_leave (recs ++ r ∷ []) None new) (sym (some_is wrote rec is)) done.has;
        left = done.left;
      }
