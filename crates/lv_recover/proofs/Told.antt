-- Records that are read, and where reading stops.
use Rattle.std.proofs.Common.{◌≡◌, inl, inr, ℕ, ◌+◌, Bool, true, false, ◌&&◌, List, [], ◌∷◌, ◌++◌, map, length, take, Option, Some, refl, sym, ◌∙◌, ap, subst, append_assoc}
use Rattle.std.specs.Prelude.{IfErr, IfOk, IfSome, Result, Ok, Err, slice_get}
use Rattle.std.specs.List.{AllByRecursion, fold}
use Rattle.std.proofs.lemmas.List.{length-map, map-append, take_at}
use Rattle.lv_schema.specs.declared.rec.Rec.{Rec}
use Rattle.lv_schema.specs.World.{World, empty_world}
use Rattle.lv_journal.specs.Bytes.{magic, opened, found_at, records_of, bad_place, IsPayload, Begins}
use Rattle.lv_journal.specs.Reading.{IsRead}
use Rattle.lv_journal.specs.declared.scan.Scan.{Scan}
use Rattle.lv_journal.proofs.Meaning.{taken, records_begin, length_counts}
use Rattle.lv_journal.proofs.Reading.{some_meets}
use Rattle.lv_loading.specs.Loads.{LoadingKept, Loads}
use Rattle.lv_record.specs.Spelling.{Spells, spelling}
use Rattle.lv_replay.specs.Applies.{applies, all_apply_to}
use Rattle.lv_replay.specs.Replayed.{replayed, state_of}
use Rattle.lv_engine.specs.Records.{IsSpelled}
use Rattle.lv_recover.specs.Opening.{AreSpelled, IsBadBehind}
use Rattle.lv_recover.specs.Reading.{HasRead}

-- what is said of an answer that is there
pub ok_some : {A E : Type 0} (P : A → Type 0) (r : Result (Option A) E) (a : A) → r ≡ Ok (Some a) → IfOk r (λ o. IfSome o P) → P a
ok_some P r a is h = subst (λ x. IfOk x (λ o. IfSome o P)) is h

pub ok_is : {A E : Type 0} (P : A → Type 0) (r : Result A E) (a : A) → r ≡ Ok a → IfOk r P → P a
ok_is P r a is h = subst (λ x. IfOk x P) is h

pub ok_goes : {A E : Type 0} (P Q : A → Type 0) (r : Result A E) → ((a : A) → P a → Q a) → IfOk r P → IfOk r Q
ok_goes P Q (Ok a) go h = go a h
ok_goes P Q (Err e) go h = tt

pub err_goes : {A E : Type 0} (P Q : E → Type 0) (r : Result A E) → ((e : E) → P e → Q e) → IfErr r P → IfErr r Q
err_goes P Q (Ok a) go h = tt
err_goes P Q (Err e) go h = go e h

pub err_meets : {A E : Type 0} (P Q R : E → Type 0) (r : Result A E) → ((e : E) → P e → Q e → R e) → IfErr r P → IfErr r Q → IfErr r R
err_meets P Q R (Ok a) go h k = tt
err_meets P Q R (Err e) go h k = go e h k

-- one record more
all_push : (recs : List Rec) (r : Rec) → AllByRecursion IsSpelled recs → IsSpelled r → AllByRecursion IsSpelled (recs ++ r ∷ [])
all_push [] r all is = (is, tt)
all_push (x ∷ recs) r all is = (all.0, all_push recs r all.1 is)

-- a record that does not apply behind others
refused_behind : (w : World) (recs : List Rec) (r : Rec) → applies r (fold (λ x rec. replayed rec x) w recs) ≡ false → all_apply_to w (recs ++ r ∷ []) ≡ false
refused_behind w [] r is = ap (λ (b : Bool). b && true) is
refused_behind w (x ∷ recs) r is = by (applies x w) (refused_behind (replayed x w) recs r is)
  where
    by : (b : Bool) → all_apply_to (replayed x w) (recs ++ r ∷ []) ≡ false → (b && all_apply_to (replayed x w) (recs ++ r ∷ [])) ≡ false
    by true later = later
    by false later = refl

-- ---- bytes that begin with records
begins_journal : (ps : List (List ℕ)) (bytes : List ℕ) → Begins ps bytes → take 8 bytes ≡ magic
begins_journal ps bytes b =
    ap (λ (l : List ℕ). take 8 l) (b.is ∙ append_assoc magic (opened ps) b.rest) ∙ take_at magic (opened ps ++ b.rest) 8 refl

first_payloads : (recs : List Rec) (bytes : List ℕ) → AllByRecursion IsPayload (map spelling recs) → Begins (map spelling recs) bytes → take (length recs) (records_of bytes) ≡ map spelling recs
first_payloads recs bytes all b =
    let are = records_begin (map spelling recs) bytes b.rest (found_at b.rest) all b.is refl in
    ap (λ (l : List (List ℕ)). take (length recs) l) are.1 ∙ take_at (map spelling recs) (taken are.0 b.rest (found_at b.rest)) (length recs) (length-map recs spelling)

module _ {D : Type 0} (seen : D → Option (List ℕ)) (may_leave : D → List ℕ → Type 0) where
  front_told : (recs : List Rec) (bytes : List ℕ) (j : Scan D) (k : LoadingKept) → HasRead seen may_leave recs j k → Begins (map spelling recs) bytes → AreSpelled (take (length recs) (records_of bytes)) recs
  front_told recs bytes j k h b = record { spelled = h.spelled; payloads_are = first_payloads recs bytes h.read.payloads b; apply = h.loads.apply }

  -- no payload is left, and the bytes are bad there
  pub cut_told : (recs : List Rec) (offset : ℕ) (j : Scan D) (k : LoadingKept) → HasRead seen may_leave recs j k
      → IfSome (seen j.disk) (λ bytes. (records_of bytes ≡ map spelling recs) × (bad_place bytes ≡ Some offset)) → IfSome (seen j.disk) (λ bytes. IsBadBehind bytes recs offset)
  cut_told recs offset j k h cut =
      some_meets (Begins (map spelling recs)) (λ bytes. (records_of bytes ≡ map spelling recs) × (bad_place bytes ≡ Some offset)) (λ bytes. IsBadBehind bytes recs offset) (seen j.disk)
      (λ bytes b here. record { begins = begins_journal (map spelling recs) bytes b; spelled = front_told recs bytes j k h b; why = inr (record { all = here.0; at = here.1 }) })
      h.read.told cut

  -- the next payload spells no record that applies
  pub refused_told : (recs : List Rec) (p : List ℕ) (offset : ℕ) (j : Scan D) (k : LoadingKept) → HasRead seen may_leave recs j k
      → IfSome (seen j.disk) (λ bytes. slice_get (records_of bytes) (length (map spelling recs)) ≡ Some p) → ((r : Rec) → Spells p r → applies r (state_of recs) ≡ false) → offset ≡ j.gate + 1
      → IfSome (seen j.disk) (λ bytes. IsBadBehind bytes recs offset)
  refused_told recs p offset j k h next out place =
      some_meets (Begins (map spelling recs)) (λ bytes. slice_get (records_of bytes) (length (map spelling recs)) ≡ Some p) (λ bytes. IsBadBehind bytes recs offset) (seen j.disk)
      (λ bytes b here. record {
        begins = begins_journal (map spelling recs) bytes b;
        spelled = front_told recs bytes j k h b;
        why = inl (record {
          payload = p;
          next = ap (λ (n : ℕ). slice_get (records_of bytes) n) (sym (length-map recs spelling)) ∙ here;
          refused = λ r is. refused_behind empty_world recs r (out r is);
          at = place ∙ length_counts (map spelling recs) j.gate h.read.place;
        });
      })
      h.read.told next

  -- the next payload spells a record that was taken
  pub read_more : (recs : List Rec) (r : Rec) (p : List ℕ) (j : Scan D) (k : LoadingKept) → AllByRecursion IsSpelled recs → IsRead seen may_leave j (map spelling recs ++ p ∷ []) → Spells p r → Loads (recs ++ r ∷ []) k
      → HasRead seen may_leave (recs ++ r ∷ []) j k
  read_more recs r p j k all read is loads =
      let one_more : map spelling recs ++ p ∷ [] ≡ map spelling (recs ++ r ∷ []) = ap (λ (x : List ℕ). map spelling recs ++ x ∷ []) is.1 ∙ sym (map-append spelling recs (r ∷ [])) in
      record {
        spelled = all_push recs r all (is.0, refl);
        read = subst (λ (ps : List (List ℕ)). IsRead seen may_leave j ps) one_more read;
        loads = loads;
      }
