-- Bytes open as one list of records, or are bad at one place.
use Rattle.std.proofs.Common.{◌≡◌, ◌⊎◌, ⊎_elim, inl, inr, ℕ, zero, suc, ◌≤◌, Bool, true, false, List, [], ◌∷◌, ◌++◌, map, length, take, drop, Some, None, refl, sym, ◌∙◌, ap, subst, arith, append_assoc}
use Rattle.std.specs.Prelude.{slice_get, if◌then◌else◌}
use Rattle.std.specs.List.{AllByRecursion}
use Rattle.std.specs.Str.{bytes_eq}
use Rattle.std.proofs.lemmas.List.{append-nil, length-map, length-take}
use Rattle.std.proofs.lemmas.Slice.Eq.{bytes_eq-Decides}
use Rattle.std.proofs.lemmas.Option.{slice_get_past}
use Rattle.std.proofs.Math.Seq.{take-length}
use Rattle.lv_schema.specs.declared.rec.Rec.{Rec}
use Rattle.lv_schema.specs.World.{empty_world}
use Rattle.lv_journal.specs.Bytes.{magic, bad_from, bad_place, records_of}
use Rattle.lv_record.specs.Spelling.{Spells, spelling}
use Rattle.lv_replay.specs.Applies.{all_apply}
use Rattle.lv_engine.specs.Records.{IsSpelled}
use Rattle.lv_recover.specs.Opening.{AreSpelled, IsJournalOf, OpensAs, IsForeign, IsRefused, IsCut, IsBadBehind, BadAt}
use Rattle.lv_recover.proofs.Places.{next_spelled, front_applies, same_records, is_front}

either : (a b : ℕ) → (a ≤ b) ⊎ (b ≤ a)
either zero b = inl (omega arith)
either (suc a) zero = inr (omega arith)
either (suc a) (suc b) = ⊎_elim (λ (le : a ≤ b). inl (omega (arith, le))) (λ (le : b ≤ a). inr (omega (arith, le))) (either a b)

-- the payloads behind records: none where they spell all
none_behind : (ps : List (List ℕ)) (recs : List Rec) → ps ≡ map spelling recs → slice_get ps (length recs) ≡ None
none_behind ps recs are =
    let long : length ps ≡ length recs = ap length are ∙ length-map recs spelling in
    slice_get_past ps (length recs) (omega (arith, long))

spelled_at : (recs : List Rec) (r : Rec) (rest : List Rec) → AllByRecursion IsSpelled (recs ++ r ∷ rest) → IsSpelled r
spelled_at [] r rest all = all.0
spelled_at (x ∷ recs) r rest all = spelled_at recs r rest all.1

-- whatever goes on behind records, they are neither refused nor cut there
goes_on : (bytes : List ℕ) (recs : List Rec) (r : Rec) (rest : List Rec) (offset : ℕ) → AreSpelled (take (length (recs ++ r ∷ rest)) (records_of bytes)) (recs ++ r ∷ rest)
    → IsRefused bytes recs offset ⊎ IsCut bytes recs offset → ⊥
goes_on bytes recs r rest offset more why =
    let next : slice_get (records_of bytes) (length recs) ≡ Some (spelling r) = next_spelled (records_of bytes) recs r rest more.payloads_are in
    ⊎_elim
    (λ (out : IsRefused bytes recs offset).
    let same : out.payload ≡ spelling r = cc (out.next, next) in
    let is : IsSpelled r = spelled_at recs r rest more.spelled in
    let front : all_apply ((recs ++ r ∷ []) ++ rest) ≡ true = ap all_apply (append_assoc recs (r ∷ []) rest) ∙ more.apply in
    cc (front_applies empty_world (recs ++ r ∷ []) rest front, out.refused r (is.0, same ∙ is.1)))
    (λ (end : IsCut bytes recs offset). cc (next, none_behind (records_of bytes) recs end.all))
    why

-- a refusal is behind a payload, and a cut is behind the last one
not_both : (bytes : List ℕ) (recs : List Rec) (a b : ℕ) → IsRefused bytes recs a → IsCut bytes recs b → ⊥
not_both bytes recs a b out end = cc (out.next, none_behind (records_of bytes) recs end.all)

-- behind the same records there is one place
one_behind : (bytes : List ℕ) (recs : List Rec) (a b : ℕ) → IsRefused bytes recs a ⊎ IsCut bytes recs a → IsRefused bytes recs b ⊎ IsCut bytes recs b → a ≡ b
one_behind bytes recs a b why other =
    ⊎_elim
    (λ (out : IsRefused bytes recs a). ⊎_elim (λ (also : IsRefused bytes recs b). out.at ∙ sym also.at) (λ (end : IsCut bytes recs b). absurd (not_both bytes recs a b out end)) other)
    (λ (end : IsCut bytes recs a). ⊎_elim (λ (out : IsRefused bytes recs b). absurd (not_both bytes recs b a out end)) (λ (also : IsCut bytes recs b). cc (end.at, also.at)) other)
    why

-- all payloads are the first ones
pub all_are_front : (ps : List (List ℕ)) (recs : List Rec) → AreSpelled ps recs → AreSpelled (take (length recs) ps) recs
all_are_front ps recs all =
    let long : length ps ≡ length recs = ap length all.payloads_are ∙ length-map recs spelling in
    let whole : take (length recs) ps ≡ map spelling recs = ap (λ (n : ℕ). take n ps) (sym long) ∙ take-length ps ∙ all.payloads_are in
    record { spelled = all.spelled; payloads_are = whole; apply = all.apply }

-- the bytes of a journal that opens begin as one
begins_whole : (bytes : List ℕ) → bad_place bytes ≡ None → take 8 bytes ≡ magic
begins_whole bytes good = by (bytes_eq (take 8 bytes) magic) refl good
  where
    by : (t : Bool) → bytes_eq (take 8 bytes) magic ≡ t → (if t then bad_from (length bytes) 8 (drop 8 bytes) else Some 0) ≡ None → take 8 bytes ≡ magic
    by true begins is = (bytes_eq-Decides (take 8 bytes) magic).0 begins
    by false begins is = absurd (cc is)

module _ (one : (bytes : List ℕ) (a b : Rec) → Spells bytes a → Spells bytes b → a ≡ b) where
  -- of two lists of records with which bytes begin, the one behind which they are bad is no shorter
  no_longer : (bytes : List ℕ) (xs ys : List Rec) (offset : ℕ) → IsBadBehind bytes xs offset → AreSpelled (take (length ys) (records_of bytes)) ys → length xs ≤ length ys → ys ≡ xs
  no_longer bytes xs ys offset bad more le =
      let front = is_front one (records_of bytes) xs ys bad.spelled.spelled more.spelled bad.spelled.payloads_are more.payloads_are le in
      by front.0 front.1
    where
      by : (rest : List Rec) → ys ≡ xs ++ rest → ys ≡ xs
      by [] is = is ∙ append-nil xs
      by (r ∷ rest) is = absurd (goes_on bytes xs r rest offset (subst (λ (rs : List Rec). AreSpelled (take (length rs) (records_of bytes)) rs) is more) bad.why)

  behind_one : (bytes : List ℕ) (xs ys : List Rec) (a b : ℕ) → IsBadBehind bytes xs a → IsBadBehind bytes ys b → length xs ≤ length ys → a ≡ b
  behind_one bytes xs ys a b bad other le =
      let same : ys ≡ xs = no_longer bytes xs ys a bad other.spelled le in
      one_behind bytes xs a b bad.why (subst (λ (rs : List Rec). IsRefused bytes rs b ⊎ IsCut bytes rs b) same other.why)

  pub bad_at_one : (bytes : List ℕ) (a b : ℕ) → BadAt bytes a → BadAt bytes b → a ≡ b
  bad_at_one bytes a b bad other =
      ⊎_elim
      (λ (x : IsForeign bytes a). ⊎_elim
      (λ (y : IsForeign bytes b). x.at ∙ sym y.at)
      (λ (y : (recs : List Rec) × IsBadBehind bytes recs b). absurd (x.begins y.1.begins))
      other)
      (λ (x : (recs : List Rec) × IsBadBehind bytes recs a). ⊎_elim
      (λ (y : IsForeign bytes b). absurd (y.begins x.1.begins))
      (λ (y : (recs : List Rec) × IsBadBehind bytes recs b). ⊎_elim
      (λ (le : length x.0 ≤ length y.0). behind_one bytes x.0 y.0 a b x.1 y.1 le)
      (λ (le : length y.0 ≤ length x.0). sym (behind_one bytes y.0 x.0 b a y.1 x.1 le))
      (either (length x.0) (length y.0)))
      other)
      bad

  pub opens_as_one : (bytes : List ℕ) (xs ys : List Rec) → OpensAs bytes xs → OpensAs bytes ys → xs ≡ ys
  opens_as_one [] xs ys is other = is ∙ sym other
  opens_as_one (byte ∷ bytes) xs ys is other = same_records one xs ys is.spelled.spelled other.spelled.spelled (sym is.spelled.payloads_are ∙ other.spelled.payloads_are)

  -- a journal that opens is bad behind none of its records
  not_behind : (bytes : List ℕ) (xs ys : List Rec) (offset : ℕ) → IsJournalOf bytes xs → IsBadBehind bytes ys offset → ⊥
  not_behind bytes xs ys offset is bad =
      let long : length (records_of bytes) ≡ length xs = ap length is.spelled.payloads_are ∙ length-map xs spelling in
      let within : length ys ≤ length xs = omega (arith, ap length bad.spelled.payloads_are, length-map ys spelling, length-take (length ys) (records_of bytes), long) in
      let same : xs ≡ ys = no_longer bytes ys xs offset bad (all_are_front (records_of bytes) xs is.spelled) within in
      ⊎_elim
      (λ (out : IsRefused bytes ys offset). cc (out.next, none_behind (records_of bytes) ys (is.spelled.payloads_are ∙ ap (map spelling) same)))
      (λ (end : IsCut bytes ys offset). cc (end.at, is.good))
      bad.why

  pub never_both : (bytes : List ℕ) (recs : List Rec) (offset : ℕ) → OpensAs bytes recs → BadAt bytes offset → ⊥
  never_both [] recs offset is bad =
      ⊎_elim
      (λ (x : IsForeign [] offset). absurd (omega (arith, x.some)))
      (λ (x : (rs : List Rec) × IsBadBehind [] rs offset). cc x.1.begins)
      bad
  never_both (byte ∷ bytes) recs offset is bad =
      ⊎_elim
      (λ (x : IsForeign (byte ∷ bytes) offset). x.begins (begins_whole (byte ∷ bytes) is.good))
      (λ (x : (rs : List Rec) × IsBadBehind (byte ∷ bytes) rs offset). not_behind (byte ∷ bytes) recs x.0 offset is x.1)
      bad
