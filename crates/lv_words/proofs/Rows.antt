-- The rows that clap keeps, and the values that are given.
use Rattle.std.proofs.Common.{◌≡◌, ◌∙◌, ap, sym, refl, Bool, true, false, cond, ◌||◌, List, [], ◌∷◌, Option, Some, None, inl, inr, true≢false, is_some}
use Rattle.std.specs.List.{find}
use Rattle.std.specs.Str.{bytes_eq}
use Rattle.std.specs.Prelude.{option_and_then, slice_get}
use Rattle.std.proofs.lemmas.Bool.{cases_Bool, or_parts}
use Rattle.std.proofs.lemmas.Slice.Eq.{bytes_eq-Decides}
use Rattle.clap.specs.Walk.{Row, first_of, has_row, with_values, without}
use Rattle.clap.specs.declared.builder.value_parser.Reading.{Reading}
use Rattle.clap.specs.declared.parser.matches.ValueSource.{ValueSource}
use Rattle.lv_words.specs.Values.{Text}
use Rattle.lv_words.specs.Words.{Given}

-- the rows have the values that are given
pub record Tells (rows : List Row) (given : Given) : Type 0 where
  pub value : (name : Text) → first_of name rows ≡ given name
  pub has : (name : Text) → has_row name rows ≡ is_some (given name)

-- the same values, with one more
abbrev pub more : Text → Text → Given → Given
more id value given = λ name. cond (bytes_eq id name) (Some value) (given name)

pub same_text : (a b : Text) → bytes_eq a b ≡ true → a ≡ b
same_text a b e = (bytes_eq-Decides a b).0 e

pub text_is : (a : Text) → bytes_eq a a ≡ true
text_is a = (bytes_eq-Decides a a).1 refl

-- where a is not b, what is a is not b
apart : (a b name : Text) → bytes_eq a b ≡ false → bytes_eq a name ≡ true → bytes_eq b name ≡ false
apart a b name other same = elim (cases_Bool (bytes_eq b name)) [
  | inl e ↦ absurd (true≢false (sym ((bytes_eq-Decides a b).1 (same_text a name same ∙ sym (same_text b name e))) ∙ other))
  | inr e ↦ e
]

no_row_goes : (id : Text) (rows : List Row) → has_row id rows ≡ false → without id rows ≡ rows
no_row_goes id [] none = refl
no_row_goes id (r ∷ rows) none =
    let parts = or_parts (bytes_eq r.id id) (has_row id rows) none in
    rw parts.0 (ap (λ rs. r ∷ rs) (no_row_goes id rows parts.1))

abbrev first : Option Row → Option Text
first = option_and_then (λ (x : Row). slice_get x.values 0)

module _ (id : Text) (how : Reading) (source : ValueSource) (value : Text) where
  abbrev pub added : List Row → List Row
  added rows = with_values id how source (value ∷ []) rows

  pub added_value : (name : Text) (rows : List Row) → has_row id rows ≡ false → first_of name (added rows) ≡ cond (bytes_eq id name) (Some value) (first_of name rows)
  added_value name [] none = at (bytes_eq id name)
    where
      at : (b : Bool) → option_and_then (λ (r : Row). slice_get r.values 0) (cond b (Some (record { id = id; values = value ∷ []; count = None; source = Some source; reading = how })) None) ≡ cond b (Some value) None
      at true = refl
      at false = refl
  added_value name (r ∷ rows) none =
      let parts = or_parts (bytes_eq r.id id) (has_row id rows) none in
      rw parts.0 (at (bytes_eq r.id name) refl (added_value name rows parts.1) (apart r.id id name parts.0))
    where
      at : (b : Bool) → bytes_eq r.id name ≡ b
          → first (find (λ x. bytes_eq x.id name) (added rows)) ≡ cond (bytes_eq id name) (Some value) (first (find (λ x. bytes_eq x.id name) rows))
          → (bytes_eq r.id name ≡ true → bytes_eq id name ≡ false)
          → first (cond b (Some r) (find (λ x. bytes_eq x.id name) (added rows)))
          ≡ cond (bytes_eq id name) (Some value) (first (cond b (Some r) (find (λ x. bytes_eq x.id name) rows)))
      at true e later other = rw (other e) refl
      at false e later other = later

  added_has : (name : Text) (rows : List Row) → has_row id rows ≡ false → has_row name (added rows) ≡ (bytes_eq id name || has_row name rows)
  added_has name [] none = refl
  added_has name (r ∷ rows) none =
      let parts = or_parts (bytes_eq r.id id) (has_row id rows) none in
      rw parts.0 (ap (λ b. bytes_eq r.id name || b) (added_has name rows parts.1) ∙ swapped (bytes_eq r.id name) (bytes_eq id name) (has_row name rows))
    where
      swapped : (a b c : Bool) → (a || (b || c)) ≡ (b || (a || c))
      swapped true true c = refl
      swapped true false c = refl
      swapped false b c = refl

  some_more : (b : Bool) (o : Option Text) → (b || is_some o) ≡ is_some (cond b (Some value) o)
  some_more true o = refl
  some_more false o = refl

  pub used_tells : (rows : List Row) (given : Given) → Tells rows given → is_some (given id) ≡ false → Tells (added (without id rows)) (more id value given)
  used_tells rows given told free =
      let none : has_row id rows ≡ false = told.has id ∙ free in
      let same = no_row_goes id rows none in record {
        value = λ name. ap (λ rs. first_of name (added rs)) same ∙ (added_value name rows none ∙ ap (λ o. cond (bytes_eq id name) (Some value) o) (told.value name));
        has = λ name. ap (λ rs. has_row name (added rs)) same ∙ (added_has name rows none ∙ (ap (λ b. bytes_eq id name || b) (told.has name) ∙ some_more (bytes_eq id name) (given name)));
      }
