-- What has become of the journal of a run, after one entry more or none.
use Rattle.std.proofs.Common.{inl, inr, ⊎_elim, ◌≡◌, ◌≤◌, ℕ, false, List, [], ◌∷◌, ◌++◌, Option, Some, None, refl, sym, ap, ◌∙◌, subst, arith}
use Rattle.std.specs.Prelude.{Bool, IfSome, IsSomeAnd, is_some}
use Rattle.std.specs.List.{cons_option}
use Rattle.std.proofs.lemmas.List.{append-nil, append_assoc}
use Rattle.lv_schema.specs.declared.rec.Rec.{Rec}
use Rattle.lv_plain.specs.declared.event.Event.{Event}
use Rattle.lv_plain.specs.Legal.{event_of}
use Rattle.lv_plain.specs.Machine.{State, give}
use Rattle.lv_plain.specs.Rules.{Rules}
use Rattle.lv_plain.specs.WrittenRecords.{entry_record, written_by}
use Rattle.lv_plain.proofs.GivenEntries.{its_event}
use Rattle.lv_plain.proofs.WrittenEntries.{given_record}
use Rattle.lv_crash.specs.Attempts.{Attempt, MayStay, as_attempt, asked_by, attempts_of, kept_of}
use Rattle.lv_crash.proofs.Follows.{Follows}
use Rattle.lv_crash.proofs.Staying.{all_stay, kept_written, last_stays, stays_on}
use Rattle.lv_engine.specs.Kept.{EngineView}
use Rattle.lv_engine.specs.Records.{HasRecords, IsJournalWith, IsLeftBy, Logs}
use Rattle.lv_core.specs.Run.{CoreView, IsLeftOf, IsLogged, asked_of, first_state, rules_of, written_of}
use Rattle.lv_core.proofs.RecordsGo.{Goes, GoesOn, IsAfter}

-- the attempt of the entry that an event gives
pub given_attempt : (rules : Rules) (fails : Bool) (event : Event) (s : State) → attempts_of rules s ((give rules fails event s).entry ∷ []) ≡ as_attempt (written_by rules false event s) (written_by rules fails event s)
given_attempt rules fails event s =
    append-nil (as_attempt (asked_by rules (event_of s (give rules fails event s).entry) s) (entry_record rules s (give rules fails event s).entry))
    ∙ λ i. as_attempt (asked_by rules (its_event rules fails event s i) s) (given_record rules fails event s i)

-- ---- what may stay
-- what was kept, and a record that was asked for behind it
asked_stays : (asked written : Option Rec) (a : List Attempt) (rec : Rec) → asked ≡ Some rec → MayStay (a ++ as_attempt asked written) (kept_of a ++ rec ∷ [])
asked_stays None written a rec e = absurd cc
asked_stays (Some r) written a rec e = subst (λ (x : Rec). MayStay (a ++ record { rec = r; kept = is_some written } ∷ []) (kept_of a ++ x ∷ [])) (some_is r rec e) (last_stays a (record { rec = r; kept = is_some written }))
  where
    some_is : (x y : Rec) → ◌≡◌ {A = Option Rec} (Some x) (Some y) → x ≡ y
    some_is x y e = cc

module _ {D : Type 0} (seen : D → Option (List ℕ)) (may_leave : D → List ℕ → Type 0) (moment : D → ℕ) (left_since : D → ℕ → List ℕ → Type 0) (failures : D → ℕ) where
  kept_is : (c : CoreView D) → kept_of (asked_of c) ≡ written_of c
  kept_is c = kept_written (rules_of c.settings c.program) (first_state c) c.entries

  -- what a crash in a call may leave is what may stay of what the entries asked for, with what the call asked for
  by_call : (c : CoreView D) (recs : List Rec) (asked written : Option Rec) (h : IsLogged seen may_leave moment left_since failures recs c) (bytes : List ℕ) → IsLeftBy (recs ++ written_of c) h.doubt asked bytes
      → IsLeftOf recs (asked_of c ++ as_attempt asked written) bytes
  by_call c recs asked written h bytes (inl journal) = record {
    more = written_of c;
    stay = subst (λ (l : List Rec). MayStay (asked_of c ++ as_attempt asked written) l) (kept_is c) (stays_on (asked_of c) (as_attempt asked written) (kept_of (asked_of c)) (all_stay (asked_of c)));
    journal = journal;
  }
  by_call c recs asked written h bytes (inr (inl doubted)) = by h.doubt h.doubted doubted
    where
      by : (doubt : Option Rec) → IfSome doubt (λ rec. MayStay (asked_of c) (written_of c ++ rec ∷ [])) → IsSomeAnd doubt (λ rec. IsJournalWith ((recs ++ written_of c) ++ rec ∷ []) bytes) → IsLeftOf recs (asked_of c ++ as_attempt asked written) bytes
      by None stays journal = absurd journal
      by (Some rec) stays journal = record {
        more = written_of c ++ rec ∷ [];
        stay = stays_on (asked_of c) (as_attempt asked written) (written_of c ++ rec ∷ []) stays;
        journal = subst (λ (l : List Rec). IsJournalWith l bytes) (append_assoc recs (written_of c) (rec ∷ [])) journal;
      }
  by_call c recs asked written h bytes (inr (inr put)) = by asked refl put
    where
      by : (o : Option Rec) → asked ≡ o → IsSomeAnd o (λ rec. IsJournalWith ((recs ++ written_of c) ++ rec ∷ []) bytes) → IsLeftOf recs (asked_of c ++ as_attempt asked written) bytes
      by None is journal = absurd journal
      by (Some rec) is journal = record {
        more = written_of c ++ rec ∷ [];
        stay = subst (λ (l : List Rec). MayStay (asked_of c ++ as_attempt asked written) (l ++ rec ∷ [])) (kept_is c) (asked_stays asked written (asked_of c) rec is);
        journal = subst (λ (l : List Rec). IsJournalWith l bytes) (append_assoc recs (written_of c) (rec ∷ [])) journal;
      }

  longer : (recs : List Rec) (a b : List Attempt) (bytes : List ℕ) → IsLeftOf recs a bytes → IsLeftOf recs (a ++ b) bytes
  longer recs a b bytes h = record { more = h.more; stay = stays_on a b h.more h.stay; journal = h.journal }

  -- ---- an entry more
  pub logged_on : (c d : CoreView D) (recs : List Rec) (asked written : Option Rec) (h : IsLogged seen may_leave moment left_since failures recs c) → d.opened ≡ c.opened → written_of c ++ cons_option written [] ≡ written_of d
      → asked_of c ++ as_attempt asked written ≡ asked_of d → Follows asked written → Goes seen may_leave moment left_since asked written c.engine.journal d.engine.journal → IsLogged seen may_leave moment left_since failures recs d
  logged_on c d recs asked written h opened written_is asked_is follows goes = record {
    doubt = now.after;
    has = subst (λ (rs : List Rec). HasRecords seen may_leave rs now.after d.engine.journal) (append_assoc recs (written_of c) (cons_option written []) ∙ ap (λ (rs : List Rec). recs ++ rs) written_is) now.has;
    doubted = doubted_now now.after now.doubted;
    later = subst (λ (e : EngineView D). moment e.journal.disk ≤ moment d.engine.journal.disk) (sym opened) (omega (arith, h.later, now.left.later));
    left = λ bytes left.
        let since : left_since d.engine.journal.disk (moment c.opened.journal.disk) bytes = subst (λ (e : EngineView D). left_since d.engine.journal.disk (moment e.journal.disk) bytes) opened left in
        subst (λ (l : List Attempt). IsLeftOf recs l bytes) asked_is
        (⊎_elim (λ past. longer recs (asked_of c) (as_attempt asked written) bytes (h.left bytes past)) (λ by. by_call c recs asked written h bytes by) (now.left.since (moment c.opened.journal.disk) bytes h.later since));
  }
    where
      now : GoesOn seen may_leave moment left_since (recs ++ written_of c) h.doubt asked written c.engine.journal d.engine.journal
      now = goes (recs ++ written_of c) h.doubt h.has

      same_written : written ≡ None → written_of c ≡ written_of d
      same_written is = sym (append-nil (written_of c)) ∙ ap (λ (o : Option Rec). written_of c ++ cons_option o []) (sym is) ∙ written_is

      stays : (rec : Rec) → written ≡ None → MayStay (asked_of c ++ as_attempt asked written) (written_of c ++ rec ∷ []) → MayStay (asked_of d) (written_of d ++ rec ∷ [])
      stays rec is h = subst (λ (l : List Rec). MayStay (asked_of d) (l ++ rec ∷ [])) (same_written is) (subst (λ (l : List Attempt). MayStay l (written_of c ++ rec ∷ [])) asked_is h)

      old_doubt : (doubt : Option Rec) → IfSome doubt (λ rec. MayStay (asked_of c) (written_of c ++ rec ∷ [])) → written ≡ None → (after : Option Rec) → after ≡ doubt → IfSome after (λ rec. MayStay (asked_of d) (written_of d ++ rec ∷ []))
      old_doubt doubt h is None e = tt
      old_doubt None h is (Some rec) e = absurd cc
      old_doubt (Some q) h is (Some rec) e = stays rec is (stays_on (asked_of c) (as_attempt asked written) (written_of c ++ rec ∷ []) (subst (λ (r : Rec). MayStay (asked_of c) (written_of c ++ r ∷ [])) (some_is q rec (sym e)) h))
        where
          some_is : (x y : Rec) → ◌≡◌ {A = Option Rec} (Some x) (Some y) → x ≡ y
          some_is x y e = cc

      new_doubt : written ≡ None → (after : Option Rec) → after ≡ asked → IfSome after (λ rec. MayStay (asked_of d) (written_of d ++ rec ∷ []))
      new_doubt is None e = tt
      new_doubt is (Some rec) e = stays rec is (subst (λ (l : List Rec). MayStay (asked_of c ++ as_attempt asked written) (l ++ rec ∷ [])) (kept_is c) (asked_stays asked written (asked_of c) rec (sym e)))

      none_left : (after : Option Rec) → after ≡ None → IfSome after (λ rec. MayStay (asked_of d) (written_of d ++ rec ∷ []))
      none_left None e = tt
      none_left (Some rec) e = absurd cc

      doubted_now : (after : Option Rec) → IsAfter seen may_leave moment left_since h.doubt asked written after → IfSome after (λ rec. MayStay (asked_of d) (written_of d ++ rec ∷ []))
      doubted_now after (inl e) = none_left after e
      doubted_now after (inr (is, inl e)) = old_doubt h.doubt h.doubted is after e
      doubted_now after (inr (is, inr e)) = new_doubt is after e

  -- ---- want of memory
  pub logged_undone : (c : CoreView D) (new : EngineView D) (recs : List Rec) → IsLogged seen may_leave moment left_since failures recs c → Logs seen may_leave moment left_since None None c.engine.journal new.journal
      → IsLogged seen may_leave moment left_since failures recs (record c { engine = new })
  logged_undone c new recs h logs =
      let now = logs (recs ++ written_of c) h.doubt h.has in
      record {
        doubt = h.doubt;
        has = now.has;
        doubted = h.doubted;
        later = omega (arith, h.later, now.left.later);
        left = λ bytes left.
            ⊎_elim (λ past. h.left bytes past) (λ by. subst (λ (l : List Attempt). IsLeftOf recs l bytes) (append-nil (asked_of c)) (by_call c recs None None h bytes by)) (now.left.since (moment c.opened.journal.disk) bytes h.later left);
      }

  -- ---- the beginning
  pub logged_first : (c : CoreView D) (recs : List Rec) → asked_of c ≡ [] → written_of c ≡ [] → c.engine ≡ c.opened → HasRecords seen may_leave recs None c.opened.journal
      → ((bytes : List ℕ) → left_since c.opened.journal.disk (moment c.opened.journal.disk) bytes → IsJournalWith recs bytes) → IsLogged seen may_leave moment left_since failures recs c
  logged_first c recs none_asked none_written same has here = record {
    doubt = None;
    has = subst (λ (rs : List Rec). HasRecords seen may_leave rs None c.engine.journal) (sym (append-nil recs) ∙ ap (λ (l : List Rec). recs ++ l) (sym none_written)) (subst (λ (e : EngineView D). HasRecords seen may_leave recs None e.journal) (sym same) has);
    doubted = tt;
    later = subst (λ (e : EngineView D). moment c.opened.journal.disk ≤ moment e.journal.disk) (sym same) (omega arith);
    left = λ bytes left. subst (λ (l : List Attempt). IsLeftOf recs l bytes) (sym none_asked) (record {
      more = [];
      stay = all_stay [];
      journal = subst (λ (l : List Rec). IsJournalWith l bytes) (sym (append-nil recs)) (here bytes (subst (λ (e : EngineView D). left_since e.journal.disk (moment c.opened.journal.disk) bytes) same left));
    });
  }
