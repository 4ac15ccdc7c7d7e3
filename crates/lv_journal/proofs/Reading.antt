-- What a reader finds at a gate, in the whole of a journal's bytes.
use Rattle.std.proofs.Common.{◌≡◌, ◌≢◌, ◌≤◌, ◌<◌, ◌+◌, ◌-◌, ◌^◌, ℕ, List, [], ◌∷◌, ◌++◌, length, take, drop, min, Option, Some, None, Bool, true, false, refl, sym, ◌∙◌, ap, subst, arith, length-append, append_assoc, take-append-drop, length-drop, w32}
use Rattle.std.specs.Prelude.{IfSome, if◌then◌else◌, slice_get}
use Rattle.std.specs.Int.{to_le_bytes}
use Rattle.std.specs.List.{AllByRecursion}
use Rattle.std.proofs.Math.Seq.{drop-append-add, get_or-append_seam}
use Rattle.std.proofs.lemmas.List.{drop_at, append-nil, take_min}
use Rattle.std.proofs.lemmas.Option.{slice_get-get_or}
use Rattle.lv_outside.specs.Images.{NoMore, OnlyTold}
use Rattle.lv_journal.specs.declared.found.Found.{Found}
use Rattle.lv_journal.specs.declared.found.Found.TheVariants.{Shut, Broken, Open}
use Rattle.lv_journal.specs.declared.scan.Scan.{Scan}
use Rattle.lv_journal.specs.Bytes.{spelled, length_of, begins_frame, found_at, records_of, bad_place, IsPayload, Closed, Begins}
use Rattle.lv_journal.specs.Reading.{IsRead, IsReady, OpensAt}
use Rattle.lv_journal.proofs.Bytes.{spelled-push, length-spelled-push}
use Rattle.lv_journal.proofs.Meaning.{taken, bad_by, records_begin, bad_begins}
use Rattle.lv_journal.proofs.Standing.{all_push}

abbrev Bytes : Type 0
Bytes = List ℕ

pub some_goes : (A B : Bytes → Type 0) (seen : Option Bytes) → ((f : Bytes) → A f → B f) → IfSome seen A → IfSome seen B
some_goes A B None go is = tt
some_goes A B (Some f) go is = go f is

pub some_meets : (A B C : Bytes → Type 0) (seen : Option Bytes) → ((f : Bytes) → A f → B f → C f) → IfSome seen A → IfSome seen B → IfSome seen C
some_meets A B C None go a b = tt
some_meets A B C (Some f) go a b = go f a b

-- as many bytes as are there and fit into five are the first five
pub head_told : (f buf : Bytes) (at n : ℕ) → take n buf ≡ take n (drop at f) → n ≡ min (length f - at) 5 → take n buf ≡ take 5 (drop at f)
head_told f buf at n given is =
    let size : n ≡ min 5 (length (drop at f)) = grind (arith, is, length-drop at f) in
    given ∙ ap (λ (k : ℕ). take k (drop at f)) size ∙ take_min 5 (drop at f)

rest_is : (ps : List Bytes) (f : Bytes) (gate : ℕ) (b : Begins ps f) → gate ≡ length (spelled ps) → drop gate f ≡ b.rest
rest_is ps f gate b is = ap (λ (l : Bytes). drop gate l) b.is ∙ drop_at (spelled ps) b.rest gate (sym is)

-- where no frame follows, the records end, and they are bad where nothing is right
pub ends_here : (ps : List Bytes) (f : Bytes) (gate : ℕ) (found : Found) (place : Option ℕ) → AllByRecursion IsPayload ps → Begins ps f → gate ≡ length (spelled ps) → found_at (drop gate f) ≡ found
    → ((k : ℕ) (r : Bytes) → taken k r found ≡ []) → ((k : ℕ) (r : Bytes) → bad_by k gate r found ≡ place) → (records_of f ≡ ps) × (bad_place f ≡ place)
ends_here ps f gate found place all b is at nothing placed =
    let here : found_at b.rest ≡ found = ap found_at (sym (rest_is ps f gate b is)) ∙ at in
    let are = records_begin ps f b.rest found all b.is here in
    let bad = bad_begins ps f b.rest found all b.is here in (
      are.1 ∙ ap (λ (l : List Bytes). ps ++ l) (nothing are.0 b.rest) ∙ append-nil ps,
      bad.1 ∙ ap (λ (n : ℕ). bad_by bad.0 n b.rest found) (sym is) ∙ placed bad.0 b.rest,
    )

get_seam : (xs : List Bytes) (y : Bytes) (ys : List Bytes) → slice_get (xs ++ y ∷ ys) (length xs) ≡ Some y
get_seam xs y ys =
    let within : length xs < length (xs ++ y ∷ ys) = omega (arith, length-append xs (y ∷ ys)) in
    slice_get-get_or (xs ++ y ∷ ys) (length xs) [] within ∙ ap Some (get_or-append_seam xs y ys [])

behind_gate : (ps : List Bytes) (f : Bytes) (gate : ℕ) (b : Begins ps f) → gate ≡ length (spelled ps) → drop (gate + 5) f ≡ drop 5 b.rest
behind_gate ps f gate b is =
    ap (λ (n : ℕ). drop (n + 5) f) is ∙ ap (λ (l : Bytes). drop (length (spelled ps) + 5) l) b.is ∙ drop-append-add (spelled ps) b.rest 5

-- a whole frame behind an open gate is the next record
pub next_here : (ps : List Bytes) (p f : Bytes) (gate count : ℕ) → AllByRecursion IsPayload ps → Begins ps f → gate ≡ length (spelled ps) → OpensAt gate count f → p ≡ take count (drop (gate + 5) f) → slice_get (records_of f) (length ps) ≡ Some p
next_here ps p f gate count all b is opens given =
    let here : found_at b.rest ≡ Open count = ap found_at (sym (rest_is ps f gate b is)) ∙ opens.found in
    let are = records_begin ps f b.rest (Open count) all b.is here in
    ap (λ (l : List Bytes). slice_get l (length ps)) are.1
    ∙ get_seam ps (take count (drop 5 b.rest)) _
    ∙ ap (λ (l : Bytes). Some (take count l)) (sym (behind_gate ps f gate b is))
    ∙ ap Some (sym given)

-- then the bytes begin with it too
pub begins_more : (ps : List Bytes) (p f : Bytes) (gate count : ℕ) → Begins ps f → gate ≡ length (spelled ps) → OpensAt gate count f → length p ≡ count → p ≡ take count (drop (gate + 5) f) → Begins (ps ++ p ∷ []) f
begins_more ps p f gate count b is opens size given =
    let rest = drop count (drop 5 b.rest) in
    let head : take 5 b.rest ≡ 1 ∷ to_le_bytes w32 (length p) = ap (λ (l : Bytes). take 5 l) (sym (rest_is ps f gate b is)) ∙ opens.head ∙ ap (λ (n : ℕ). 1 ∷ to_le_bytes w32 n) (sym size) in
    let payload : p ≡ take count (drop 5 b.rest) = given ∙ ap (λ (l : Bytes). take count l) (behind_gate ps f gate b is) in
    let behind : drop 5 b.rest ≡ p ++ rest = sym (take-append-drop count (drop 5 b.rest)) ∙ ap (λ (l : Bytes). l ++ rest) (sym payload) in
    let split : b.rest ≡ (1 ∷ to_le_bytes w32 (length p)) ++ (p ++ rest) = sym (take-append-drop 5 b.rest) ∙ ap (λ (l : Bytes). l ++ drop 5 b.rest) head ∙ ap (λ (l : Bytes). (1 ∷ to_le_bytes w32 (length p)) ++ l) behind in
    record { rest = rest; is = b.is ∙ ap (λ (l : Bytes). spelled ps ++ l) (split ∙ sym (append_assoc (1 ∷ to_le_bytes w32 (length p)) p rest)) ∙ sym (spelled-push ps p rest) }

not_shut : (b : Bool) (n : ℕ) → (if b then Open n else Broken) ≡ Shut → ⊥
not_shut true n is = cc is
not_shut false n is = cc is

shut_is : (rest : Bytes) → found_at rest ≡ Shut → (gate : ℕ) × (behind : Bytes) × (gate ≢ 1) × (rest ≡ gate ∷ behind)
shut_is [] is = absurd (cc is)
shut_is (gate ∷ behind) is = (gate, behind, λ one. not_shut (begins_frame behind) (length_of behind) (subst (λ (g : ℕ). found_at (g ∷ behind) ≡ Shut) one is), refl)

-- the records, and then a closed gate
pub closed_here : (ps : List Bytes) (f : Bytes) (gate : ℕ) → Begins ps f → gate ≡ length (spelled ps) → found_at (drop gate f) ≡ Shut → Closed ps f
closed_here ps f gate b is at =
    let shut = shut_is b.rest (ap found_at (sym (rest_is ps f gate b is)) ∙ at) in
    record { gate = shut.0; behind = shut.1; shut = shut.2; is = b.is ∙ ap (λ (l : Bytes). spelled ps ++ l) shut.3 }

-- bytes that begin with the magic begin with no records
pub begins_none : (n : ℕ) (f : Bytes) → IsReady n f → Begins [] f
begins_none n f ready = record { rest = drop 8 f; is = sym (take-append-drop 8 f) ∙ ap (λ (l : Bytes). l ++ drop 8 f) ready.begins }

-- what look answers, told of a journal of this size
pub looked : (seen : Option Bytes) (gate left size : ℕ) (a found : Found) → left ≡ size - gate → a ≡ found → IfSome seen (λ f. length f ≡ size)
    → IfSome seen (λ f. left ≡ length f - gate → a ≡ found_at (drop gate f)) → IfSome seen (λ f. found_at (drop gate f) ≡ found)
looked None gate left size a found is at long told = tt
looked (Some f) gate left size a found is at long told = sym (told (is ∙ ap (λ (n : ℕ). n - gate) (sym long))) ∙ at

module _ {D : Type 0} (seen : D → Option Bytes) (may_leave : D → Bytes → Type 0) where
  only_same : (old new : D) → seen new ≡ seen old → NoMore (may_leave old) (may_leave new) → OnlyTold (seen old) (may_leave old) → OnlyTold (seen new) (may_leave new)
  only_same old new same none only c left = same ∙ only c (none c left)

  -- a frame was read
  pub frame_read : (j k : Scan D) (ps : List Bytes) (p : Bytes) (count : ℕ) → IsRead seen may_leave j ps → 0 < count → count < 2 ^ 32 → count + 5 ≤ j.size - j.gate
      → IfSome (seen j.disk) (OpensAt j.gate count) → length p ≡ count → IfSome (seen j.disk) (λ f. p ≡ take count (drop (j.gate + 5) f))
      → seen k.disk ≡ seen j.disk → NoMore (may_leave j.disk) (may_leave k.disk) → k.size ≡ j.size → k.gate ≡ j.gate + (count + 5) → k.ended ≡ false → IsRead seen may_leave k (ps ++ p ∷ [])
  frame_read j k ps p count s some short fits opens size given same none is_size is_gate is_ended =
      let payload : IsPayload p = record { some = omega (arith, some, size); fits = omega (arith, short, size) } in
      let told : IfSome (seen j.disk) (Begins (ps ++ p ∷ [])) =
      some_meets (Begins ps) (λ f. OpensAt j.gate count f × (p ≡ take count (drop (j.gate + 5) f))) (Begins (ps ++ p ∷ [])) (seen j.disk) (λ f b both. begins_more ps p f j.gate count b s.place both.0 size both.1) s.told
      (some_meets (OpensAt j.gate count) (λ f. p ≡ take count (drop (j.gate + 5) f)) (λ f. OpensAt j.gate count f × (p ≡ take count (drop (j.gate + 5) f))) (seen j.disk) (λ f o g. (o, g)) opens given) in
      record {
        payloads = all_push ps p s.payloads payload;
        place = is_gate ∙ ap (λ (n : ℕ). n + (count + 5)) s.place ∙ ap (λ (n : ℕ). length (spelled ps) + (n + 5)) (sym size) ∙ sym (length-spelled-push ps p);
        within = omega (arith, is_gate, is_size, fits, some);
        size = subst (λ (v : Option Bytes). IfSome v (λ f. length f ≡ k.size)) (sym same) (some_goes (λ f. length f ≡ j.size) (λ f. length f ≡ k.size) (seen j.disk) (λ f is. is ∙ sym is_size) s.size);
        told = subst (λ (v : Option Bytes). IfSome v (Begins (ps ++ p ∷ []))) (sym same) told;
        images = only_same j.disk k.disk same none s.images;
        ended = λ is. absurd (cc (is, is_ended));
      }

  -- the gate is closed
  pub shut_read : (j k : Scan D) (ps : List Bytes) → IsRead seen may_leave j ps → IfSome (seen j.disk) (λ f. found_at (drop j.gate f) ≡ Shut)
      → seen k.disk ≡ seen j.disk → NoMore (may_leave j.disk) (may_leave k.disk) → k.size ≡ j.size → k.gate ≡ j.gate → IsRead seen may_leave k ps
  shut_read j k ps s shut same none is_size is_gate = record {
    payloads = s.payloads;
    place = is_gate ∙ s.place;
    within = omega (arith, is_gate, is_size, s.within);
    size = subst (λ (v : Option Bytes). IfSome v (λ f. length f ≡ k.size)) (sym same) (some_goes (λ f. length f ≡ j.size) (λ f. length f ≡ k.size) (seen j.disk) (λ f is. is ∙ sym is_size) s.size);
    told = subst (λ (v : Option Bytes). IfSome v (Begins ps)) (sym same) s.told;
    images = only_same j.disk k.disk same none s.images;
    ended = λ _. subst (λ (v : Option Bytes). IfSome v (Closed ps)) (sym same) (some_meets (Begins ps) (λ f. found_at (drop j.gate f) ≡ Shut) (Closed ps) (seen j.disk) (λ f b at. closed_here ps f j.gate b s.place at) s.told shut);
  }
