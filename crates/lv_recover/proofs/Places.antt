-- Records that payloads spell, told of two lists of records.
use Rattle.std.proofs.Common.{◌≡◌, ℕ, ◌≤◌, Bool, true, ◌&&◌, List, [], ◌∷◌, ◌++◌, map, length, take, Some, refl, ◌∙◌, ap, arith}
use Rattle.std.specs.Prelude.{slice_get}
use Rattle.std.specs.List.{AllByRecursion}
use Rattle.lv_schema.specs.declared.rec.Rec.{Rec}
use Rattle.lv_schema.specs.World.{World}
use Rattle.lv_record.specs.Spelling.{Spells, spelling}
use Rattle.lv_replay.specs.Applies.{applies, all_apply_to}
use Rattle.lv_replay.specs.Replayed.{replayed}
use Rattle.lv_replay.proofs.Tests.{and_left, and_right}
use Rattle.lv_engine.specs.Records.{IsSpelled}

-- payloads that begin with the spellings of records and one more give that one's next
pub next_spelled : (ps : List (List ℕ)) (recs : List Rec) (r : Rec) (rest : List Rec) → take (length (recs ++ r ∷ rest)) ps ≡ map spelling (recs ++ r ∷ rest) → slice_get ps (length recs) ≡ Some (spelling r)
next_spelled [] [] r rest are = cc
next_spelled (p ∷ ps) [] r rest are = cc
next_spelled [] (x ∷ recs) r rest are = cc
next_spelled (p ∷ ps) (x ∷ recs) r rest are = next_spelled ps recs r rest (cc)

-- what applies in a longer list applies in its front
pub front_applies : (w : World) (recs rest : List Rec) → all_apply_to w (recs ++ rest) ≡ true → all_apply_to w recs ≡ true
front_applies w [] rest is = refl
front_applies w (r ∷ recs) rest is =
    let later : all_apply_to (replayed r w) recs ≡ true = front_applies (replayed r w) recs rest (and_right (applies r w) _ is) in
    ap (λ (b : Bool). b && all_apply_to (replayed r w) recs) (and_left _ _ is) ∙ later

-- of each spelling there is one record
module _ (one : (bytes : List ℕ) (a b : Rec) → Spells bytes a → Spells bytes b → a ≡ b) where
  same_record : (a b : Rec) → IsSpelled a → IsSpelled b → spelling a ≡ spelling b → a ≡ b
  same_record a b is other same = one (spelling a) a b is (other.0, same ∙ other.1)

  pub same_records : (xs ys : List Rec) → AllByRecursion IsSpelled xs → AllByRecursion IsSpelled ys → map spelling xs ≡ map spelling ys → xs ≡ ys
  same_records [] [] is other same = refl
  same_records [] (y ∷ ys) is other same = absurd (cc same)
  same_records (x ∷ xs) [] is other same = absurd (cc same)
  same_records (x ∷ xs) (y ∷ ys) is other same =
      let first : x ≡ y = same_record x y is.0 other.0 (cc same) in
      let later : xs ≡ ys = same_records xs ys is.1 other.1 (cc same) in
      cc (first, later)

  -- of two lists of records that payloads begin with, the one that is no longer is a front of the other
  pub is_front : (ps : List (List ℕ)) (xs ys : List Rec) → AllByRecursion IsSpelled xs → AllByRecursion IsSpelled ys → take (length xs) ps ≡ map spelling xs → take (length ys) ps ≡ map spelling ys
      → length xs ≤ length ys → (rest : List Rec) × (ys ≡ xs ++ rest)
  is_front ps [] ys is other xs_are ys_are le = (ys, refl)
  is_front ps (x ∷ xs) [] is other xs_are ys_are le = absurd (omega (arith, le))
  is_front [] (x ∷ xs) (y ∷ ys) is other xs_are ys_are le = absurd (cc xs_are)
  is_front (p ∷ ps) (x ∷ xs) (y ∷ ys) is other xs_are ys_are le =
      let first : x ≡ y = same_record x y is.0 other.0 (cc (xs_are, ys_are)) in
      let later = is_front ps xs ys is.1 other.1 (cc xs_are) (cc ys_are) (omega (arith, le)) in
      let whole : y ∷ ys ≡ x ∷ (xs ++ later.0) = cc (first, later.1) in
      (later.0, whole)
