-- What the journal has once a record was asked for, and what a crash meanwhile may leave.
use Rattle.std.proofs.Common.{◌≡◌, ℕ, List, [], ◌∷◌, ◌++◌, Option, Some, None, inl, inr, ⊎_elim, refl, sym, ◌∙◌, ap, subst, arith}
use Rattle.std.specs.Prelude.{◌⊎◌, IfSome, map, option_map}
use Rattle.std.specs.List.{AllByRecursion}
use Rattle.std.proofs.lemmas.List.{map-append}
use Rattle.lv_outside.specs.Images.{Elapses, LeavesOnly, NoMore}
use Rattle.lv_schema.specs.declared.rec.Rec.{Rec}
use Rattle.lv_journal.specs.Bytes.{IsJournal}
use Rattle.lv_journal.specs.Standing as journal
use Rattle.lv_journal.specs.Standing.{RecordsIn, RecordsOr}
use Rattle.lv_journal.specs.declared.writer.Writer.{Writer}
use Rattle.lv_journal.proofs.Meaning.{keeps_in}
use Rattle.lv_record.specs.Spelling.{Spells, spelling}
use Rattle.lv_engine.specs.Records.{HasRecords, IsDoubt, IsJournalWith, IsLeftBy, IsSpelled, LeavesMore, Logged, Logs}

-- ---- what a crash may leave
pub spelled_more : (recs : List Rec) (rec : Rec) → AllByRecursion IsSpelled recs → IsSpelled rec → AllByRecursion IsSpelled (recs ++ rec ∷ [])
spelled_more [] rec all is = (is, tt)
spelled_more (r ∷ recs) rec all is = (all.0, spelled_more recs rec all.1 is)

with_one : (recs : List Rec) (rec : Rec) (payload bytes : List ℕ) → AllByRecursion IsSpelled recs → Spells payload rec → IsJournal (map spelling recs ++ payload ∷ []) bytes → IsJournalWith (recs ++ rec ∷ []) bytes
with_one recs rec payload bytes all here h = record {
  spelled = spelled_more recs rec all (subst (λ (p : List ℕ). Spells p rec) here.1 here);
  journal = subst (λ (ps : List (List ℕ)). IsJournal ps bytes) (ap (λ (p : List ℕ). map spelling recs ++ p ∷ []) here.1 ∙ sym (map-append spelling recs (rec ∷ []))) h;
}

left_or : (recs : List Rec) (doubt : Option Rec) (rec : Rec) (payload bytes : List ℕ) → AllByRecursion IsSpelled recs → IfSome doubt IsSpelled → Spells payload rec → RecordsOr (map spelling recs) (option_map spelling doubt) payload bytes
    → IsLeftBy recs doubt (Some rec) bytes
left_or recs doubt rec payload bytes all doubtful here (inl h) = inl (record { spelled = all; journal = h })
left_or recs None rec payload bytes all doubtful here (inr (inl h)) = absurd h
left_or recs (Some q) rec payload bytes all doubtful here (inr (inl h)) = inr (inl (with_one recs q (spelling q) bytes all doubtful h))
left_or recs doubt rec payload bytes all doubtful here (inr (inr h)) = inr (inr (with_one recs rec payload bytes all here h))

left_in : (recs : List Rec) (doubt attempted : Option Rec) (bytes : List ℕ) → AllByRecursion IsSpelled recs → IfSome doubt IsSpelled → RecordsIn (map spelling recs) (option_map spelling doubt) bytes → IsLeftBy recs doubt attempted bytes
left_in recs None attempted bytes all doubtful h = inl (record { spelled = all; journal = h })
left_in recs (Some q) attempted bytes all doubtful (inl h) = inl (record { spelled = all; journal = h })
left_in recs (Some q) attempted bytes all doubtful (inr h) = inr (inl (with_one recs q (spelling q) bytes all doubtful h))

module _ {D : Type 0} (moment : D → ℕ) (left_since : D → ℕ → List ℕ → Type 0) where
  pub no_time : (d : D) (P : List ℕ → Type 0) → LeavesMore moment left_since d d P
  no_time d P = record { later = omega arith; since = λ t c le left. inl left }

  time_passes : (old new : D) (images P : List ℕ → Type 0) → Elapses (moment old) (moment new) (left_since old) (left_since new) images → ((c : List ℕ) → images c → P c) → LeavesMore moment left_since old new P
  time_passes old new images P passes here = record { later = passes.later; since = λ t c le left. ⊎_elim (λ past. inl past) (λ now. inr (here c now)) (passes.nothing_else t c le left) }

  weaker : (old new : D) (P Q : List ℕ → Type 0) → ((c : List ℕ) → Q c → P c) → LeavesOnly moment left_since old new Q → LeavesMore moment left_since old new P
  weaker old new P Q f leaves = record { later = leaves.later; since = λ t c le left. ⊎_elim (λ past. inl past) (λ q. inr (f c q)) (leaves.before t c le left) }

  goes_on : (old mid new : D) (P : List ℕ → Type 0) → LeavesMore moment left_since old mid P → LeavesMore moment left_since mid new P → LeavesMore moment left_since old new P
  goes_on old mid new P first second = record {
    later = omega (arith, first.later, second.later);
    since = λ t c le left. ⊎_elim (λ past. first.since t c le past) (λ p. inr p) (second.since t c (omega (arith, le, first.later)) left);
  }

-- ---- the calls of a journal
module _ {D : Type 0} (seen : D → Option (List ℕ)) (may_leave : D → List ℕ → Type 0) (moment : D → ℕ) (left_since : D → ℕ → List ℕ → Type 0) where
  -- none
  pub unchanged_logs : (j k : Writer D) → k ≡ j → Logs seen may_leave moment left_since None None j k
  unchanged_logs j k same = λ recs doubt has.
      subst (λ (w : Writer D). Logged seen may_leave moment left_since recs doubt None recs doubt j w) (sym same) (record { has = has; left = no_time moment left_since j.disk (IsLeftBy recs doubt None) })

  -- room was asked for
  module _ (recs : List Rec) (doubt attempted : Option Rec) (j k : Writer D) (has : HasRecords seen may_leave recs doubt j)
      (same : (ps : List (List ℕ)) (q : Option (List ℕ)) → journal.Stands seen may_leave j ps q → journal.Stands seen may_leave k ps q)
      (time : Elapses (moment j.disk) (moment k.disk) (left_since j.disk) (left_since k.disk) (may_leave k.disk)) (crash : NoMore (may_leave j.disk) (may_leave k.disk)) where
    pub has_yet : HasRecords seen may_leave recs doubt k
    has_yet = record { spelled = has.spelled; doubtful = has.doubtful; stands = same (map spelling recs) (option_map spelling doubt) has.stands }

    pub leaves_yet : LeavesMore moment left_since j.disk k.disk (IsLeftBy recs doubt attempted)
    leaves_yet = time_passes moment left_since j.disk k.disk (may_leave k.disk) (IsLeftBy recs doubt attempted) time
        (λ c left. left_in recs doubt attempted c has.spelled has.doubtful (keeps_in (map spelling recs) (option_map spelling doubt) c has.stands.payloads has.stands.doubtful (has.stands.images c (crash c left))))

  -- a record was put, once room was there
  module _ (recs : List Rec) (doubt : Option Rec) (rec : Rec) (payload : List ℕ) (here : Spells payload rec) (j mid k : Writer D) (has : HasRecords seen may_leave recs doubt mid)
      (before : LeavesMore moment left_since j.disk mid.disk (IsLeftBy recs doubt (Some rec))) (images : LeavesOnly moment left_since mid.disk k.disk (RecordsOr (map spelling recs) (option_map spelling doubt) payload)) where
    leaves : LeavesMore moment left_since j.disk k.disk (IsLeftBy recs doubt (Some rec))
    leaves = goes_on moment left_since j.disk mid.disk k.disk (IsLeftBy recs doubt (Some rec)) before
        (weaker moment left_since mid.disk k.disk (IsLeftBy recs doubt (Some rec)) (RecordsOr (map spelling recs) (option_map spelling doubt) payload) (λ c h. left_or recs doubt rec payload c has.spelled has.doubtful here h) images)

    -- and is there
    pub put_logs : journal.Stands seen may_leave k (map spelling recs ++ payload ∷ []) None → Logged seen may_leave moment left_since recs doubt (Some rec) (recs ++ rec ∷ []) None j k
    put_logs stands = record {
      has = record {
        spelled = spelled_more recs rec has.spelled (subst (λ (bytes : List ℕ). Spells bytes rec) here.1 here);
        doubtful = tt;
        stands = subst (λ (ps : List (List ℕ)). journal.Stands seen may_leave k ps None) (ap (λ (p : List ℕ). map spelling recs ++ p ∷ []) here.1 ∙ sym (map-append spelling recs (rec ∷ []))) stands;
      };
      left = leaves;
    }

    -- the disk failed
    pub failed_logs : journal.Stands seen may_leave k (map spelling recs) (option_map spelling doubt) ⊎ journal.Stands seen may_leave k (map spelling recs) None ⊎ journal.Stands seen may_leave k (map spelling recs) (Some payload)
        → (x : Option Rec) × IsDoubt doubt rec x × Logged seen may_leave moment left_since recs doubt (Some rec) recs x j k
    failed_logs (inl s) = (doubt, inl refl, record { has = record { spelled = has.spelled; doubtful = has.doubtful; stands = s }; left = leaves })
    failed_logs (inr (inl s)) = (None, inr (inl refl), record { has = record { spelled = has.spelled; doubtful = tt; stands = s }; left = leaves })
    failed_logs (inr (inr s)) = (
      Some rec,
      inr (inr refl),
      record {
        has = record {
          spelled = has.spelled;
          doubtful = subst (λ (bytes : List ℕ). Spells bytes rec) here.1 here;
          stands = subst (λ (bytes : List ℕ). journal.Stands seen may_leave k (map spelling recs) (Some bytes)) here.1 s;
        };
        left = leaves;
      },
    )
