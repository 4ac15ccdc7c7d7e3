-- What was read of a disk, told of what the disk told at first.
use Rattle.std.proofs.Common.{◌≡◌, ◌∙◌, ◌≢◌, ⊎_elim, inl, inr, ℕ, ◌+◌, ◌<◌, true, List, [], ◌∷◌, ◌++◌, map, length, take, Option, Some, None, refl, ap, subst, arith}
use Rattle.std.specs.Prelude.{IfSome}
use Rattle.std.specs.List.{AllByRecursion, sum_by}
use Rattle.std.proofs.lemmas.List.Sums.{sum_by-cons}
use Rattle.lv_schema.specs.declared.rec.Rec.{Rec}
use Rattle.lv_schema.specs.Records.{record_size}
use Rattle.lv_journal.specs.Bytes.{magic, length_with}
use Rattle.lv_record.specs.Spelling.{Spells, spelling}
use Rattle.lv_replay.specs.Applies.{all_apply}
use Rattle.lv_engine.specs.Kept.{EngineView}
use Rattle.lv_engine.specs.Records.{IsSpelled}
use Rattle.lv_recover.specs.Opening.{BadAt, IsBadBehind, IsCut, IsRefused, OpensAs}
use Rattle.lv_recover.specs.Reading.{EndsBehind}
use Rattle.lv_recover.specs.Reopened.{IsMadeOf, IsReopened}

-- a journal of records is as long as they say
long_as : ((bytes : List ℕ) (r : Rec) → Spells bytes r → length bytes ≡ record_size r) → (recs : List Rec) → AllByRecursion IsSpelled recs
    → sum_by (λ (p : List ℕ). length p + 5) (map spelling recs) ≡ sum_by (λ (r : Rec). record_size r + 5) recs
long_as long [] all = refl
long_as long (r ∷ recs) all =
    omega (arith, long (spelling r) r all.0, long_as long recs all.1, sum_by-cons (λ (p : List ℕ). length p + 5) (spelling r) (map spelling recs), sum_by-cons (λ (x : Rec). record_size x + 5) r recs)

pub long_with : ((bytes : List ℕ) (r : Rec) → Spells bytes r → length bytes ≡ record_size r) → (recs : List Rec) → AllByRecursion IsSpelled recs
    → length_with (map spelling recs) ≡ 9 + sum_by (λ (r : Rec). record_size r + 5) recs
long_with long recs all = ap (λ (n : ℕ). 9 + n) (long_as long recs all)

-- ---- a new journal has no record, and is nowhere bad
abbrev new_bytes : List ℕ
new_bytes = magic ++ 0 ∷ []

none_of : (recs : List Rec) → [] ≡ map spelling recs → recs ≡ []
none_of [] is = refl
none_of (r ∷ recs) is = absurd (cc is)

new_opens : (recs : List Rec) → EndsBehind recs new_bytes → recs ≡ []
new_opens recs ends = none_of recs ends.all

new_good : (recs : List Rec) (offset : ℕ) → IsBadBehind new_bytes recs offset → ⊥
new_good recs offset bad =
    ⊎_elim
    (λ (out : IsRefused new_bytes recs offset). cc out.next)
    (λ (end : IsCut new_bytes recs offset). cc end.at)
    bad.why

-- ---- a disk as it was told, and as it is told once it is prepared: an empty one has a new journal, any other stays
pub opens_told : (told now : Option (List ℕ)) → (told ≡ Some [] → now ≡ Some new_bytes) → IfSome told (λ f. 0 < length f → now ≡ Some f)
    → (recs : List Rec) → AllByRecursion IsSpelled recs → all_apply recs ≡ true → IfSome now (EndsBehind recs) → IfSome told (λ bytes. OpensAs bytes recs)
opens_told None now new same recs all apply ends = tt
opens_told (Some []) now new same recs all apply ends = new_opens recs (subst (λ (v : Option (List ℕ)). IfSome v (EndsBehind recs)) (new refl) ends)
opens_told (Some (byte ∷ bytes)) now new same recs all apply ends =
    let told : EndsBehind recs (byte ∷ bytes) = subst (λ (v : Option (List ℕ)). IfSome v (EndsBehind recs)) (same (omega arith)) ends in
    record { good = told.good; spelled = record { spelled = all; payloads_are = told.all; apply = apply } }

pub bad_told : (told now : Option (List ℕ)) → (told ≡ Some [] → now ≡ Some new_bytes) → IfSome told (λ f. 0 < length f → now ≡ Some f)
    → (offset : ℕ) → IfSome now (λ bytes. (recs : List Rec) × IsBadBehind bytes recs offset) → IfSome told (λ bytes. BadAt bytes offset)
bad_told None now new same offset bad = tt
bad_told (Some []) now new same offset bad =
    let there = subst (λ (v : Option (List ℕ)). IfSome v (λ bytes. (recs : List Rec) × IsBadBehind bytes recs offset)) (new refl) bad in
    absurd (new_good there.0 offset there.1)
bad_told (Some (byte ∷ bytes)) now new same offset bad =
    inr (subst (λ (v : Option (List ℕ)). IfSome v (λ f. (recs : List Rec) × IsBadBehind f recs offset)) (same (omega arith)) bad)

-- then it was not empty, and what it tells has stayed
pub stays_told : (told now : Option (List ℕ)) → (told ≡ Some [] → now ≡ Some new_bytes) → IfSome told (λ f. 0 < length f → now ≡ Some f)
    → (offset : ℕ) (after : Option (List ℕ)) → after ≡ now → IfSome now (λ bytes. (recs : List Rec) × IsBadBehind bytes recs offset) → IfSome told (λ bytes. after ≡ Some bytes)
stays_told None now new same offset after is bad = tt
stays_told (Some []) now new same offset after is bad =
    let there = subst (λ (v : Option (List ℕ)). IfSome v (λ bytes. (recs : List Rec) × IsBadBehind bytes recs offset)) (new refl) bad in
    absurd (new_good there.0 offset there.1)
stays_told (Some (byte ∷ bytes)) now new same offset after is bad = is ∙ same (omega arith)

-- bytes that do not begin as a journal
pub foreign_told : (told : Option (List ℕ)) (offset : ℕ) → offset ≡ 0 → IfSome told (λ f. (0 < length f) × (take 8 f ≢ magic)) → IfSome told (λ bytes. BadAt bytes offset)
foreign_told None offset at is = tt
foreign_told (Some bytes) offset at is = inl (record { some = is.0; begins = is.1; at = at })

-- an engine that is made of what a prepared disk tells
pub reopened_of : {D : Type 0} (seen : D → Option (List ℕ)) (may_leave : D → List ℕ → Type 0) (told now : Option (List ℕ)) → (told ≡ Some [] → now ≡ Some new_bytes)
    → IfSome told (λ f. 0 < length f → now ≡ Some f) → (recs : List Rec) (e : EngineView D) → IsMadeOf seen may_leave now recs e → IsReopened seen may_leave told recs e
reopened_of seen may_leave told now new same recs e made = record {
  opens = opens_told told now new same recs made.records.spelled made.apply made.ends;
  apply = made.apply;
  stands = made.stands;
  records = made.records;
}
