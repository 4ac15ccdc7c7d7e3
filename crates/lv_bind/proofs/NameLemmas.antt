-- Lists in which nothing stands twice, names that fit, and the places of names.
use Rattle.std.proofs.Common.{◌≡◌, ◌<◌, ◌≤◌, ℕ, Bool, true, false, not, cond, List, [], ◌∷◌, ◌++◌, map, length, Option, Some, None, refl, sym, ap, ◌∙◌, arith}
use Rattle.std.specs.Prelude.{nat_le, position, is_none}
use Rattle.std.specs.List.{AllByRecursion, list_all, list_any, position_or_len}
use Rattle.std.specs.Option.{option_map, option_or}
use Rattle.std.specs.Str.{bytes_eq}
use Rattle.std.proofs.lemmas.Bool.{and_from, and_parts, not-true, not_from_false, or_parts, or_from, lt-ltb, le-leb, both_ways}
use Rattle.std.proofs.lemmas.Bool.Decides.{same_from_decides, Decides-like}
use Rattle.std.proofs.lemmas.List.{length-map}
use Rattle.std.proofs.lemmas.List.Folds.{list_any-append}
use Rattle.std.proofs.lemmas.List.Quantifiers.{position-Some}
use Rattle.std.proofs.lemmas.Slice.Eq.{bytes_eq-Decides}
use Rattle.lv_schema.specs.declared.query.Rel.TheVariants.{Table, View}
use Rattle.lv_schema.specs.declared.table.TableDef.{TableDef}
use Rattle.lv_schema.specs.declared.view.ViewDef.{ViewDef}
use Rattle.lv_schema.specs.Catalog.{table_named, view_named, rel_named}
use Rattle.lv_values.specs.Names.{is_word, is_name, has_name, keywords}
use Rattle.lv_schema.specs.Names.{is_free}
use Rattle.lv_schema.specs.Once.{are_apart}
use Rattle.lv_bind.specs.Binding.{table_number}
use Rattle.lv_bind.specs.InUse.{repeated_after, repeated}
use Rattle.lv_bind.specs.Sources.{shown_unless}
use Rattle.lv_bind.specs.Spoken.{is_spoken_name}
use Rattle.lv_bind.specs.Unknown.{is_table}
use Rattle.lv_bind.proofs.FoundFaults.{append_parts, shown_well, each_of}

pub bytes_eq_comm : (a b : List ℕ) → bytes_eq a b ≡ bytes_eq b a
bytes_eq_comm a b = same_from_decides (bytes_eq a b) (bytes_eq b a) (bytes_eq-Decides a b) (Decides-like (bytes_eq b a) sym sym (bytes_eq-Decides b a))

-- ---- nothing twice

-- each is none of those before
abbrev pub AreFresh : {K : Type 0} → (K → K → Bool) → List K → List K → Type 0
AreFresh same before [] = Unit {0}
AreFresh same before (k ∷ ks) = (list_any (same k) before ≡ false) × AreFresh same (before ++ k ∷ []) ks

none_same : {K : Type 0} (same : K → K → Bool) → ((a b : K) → same a b ≡ same b a) → (k : K) (ks : List K)
    → AllByRecursion (λ n. same n k ≡ false) ks → list_any (same k) ks ≡ false
none_same same comm k [] h = refl
none_same same comm k (n ∷ ks) h = or_from (same k n) (list_any (same k) ks) (comm k n ∙ h.0) (none_same same comm k ks h.1)

before_last : {K : Type 0} (same : K → K → Bool) (before : List K) (k n : K) → list_any (same n) (before ++ k ∷ []) ≡ false → (list_any (same n) before ≡ false) × (same n k ≡ false)
before_last same before k n e =
    let parts : (list_any (same n) before ≡ false) × (list_any (same n) (k ∷ []) ≡ false) =
    or_parts (list_any (same n) before) (list_any (same n) (k ∷ [])) (sym (list_any-append (same n) before (k ∷ [])) ∙ e) in
    (parts.0, (or_parts (same n k) false parts.1).0)

pub fresh_apart : {K : Type 0} (same : K → K → Bool) → ((a b : K) → same a b ≡ same b a) → (before ks : List K) → AreFresh same before ks
    → (are_apart same ks ≡ true) × AllByRecursion (λ k. list_any (same k) before ≡ false) ks
fresh_apart same comm before [] h = (refl, tt)
fresh_apart same comm before (k ∷ ks) h = by (fresh_apart same comm (before ++ k ∷ []) ks h.1)
  where
    by : (are_apart same ks ≡ true) × AllByRecursion (λ n. list_any (same n) (before ++ k ∷ []) ≡ false) ks
        → (are_apart same (k ∷ ks) ≡ true) × AllByRecursion (λ n. list_any (same n) before ≡ false) (k ∷ ks)
    by more =
        let none : list_any (same k) ks ≡ false = none_same same comm k ks (each_of (λ n e. (before_last same before k n e).1) ks more.1) in
        (and_from (not (list_any (same k) ks)) (are_apart same ks) (not_from_false (list_any (same k) ks) none) more.0, (h.0, each_of (λ n e. (before_last same before k n e).0) ks more.1))

repeated_fresh : (before names : List (List ℕ)) → repeated_after before names ≡ [] → AreFresh bytes_eq before names
repeated_fresh before [] e = tt
repeated_fresh before (name ∷ names) e =
    let parts : (shown_unless (not (list_any (bytes_eq name) before)) name ≡ []) × (repeated_after (before ++ name ∷ []) names ≡ []) = append_parts _ _ e in
    (not-true (list_any (bytes_eq name) before) (shown_well _ name parts.0), repeated_fresh (before ++ name ∷ []) names parts.1)

pub repeated_apart : (names : List (List ℕ)) → repeated names ≡ [] → are_apart bytes_eq names ≡ true
repeated_apart names e = (fresh_apart bytes_eq bytes_eq_comm [] names (repeated_fresh [] names e)).0

-- ---- what is apart under one name is apart under another that tells as much

module _ {X K B : Type 0} (g : X → K) (f : X → B) (sameK : K → K → Bool) (sameB : B → B → Bool) (P : X → Type 0)
    (tells : (x y : X) → P x → P y → sameB (f x) (f y) ≡ true → sameK (g x) (g y) ≡ true) where
  differs : (x y : X) → P x → P y → sameK (g x) (g y) ≡ false → sameB (f x) (f y) ≡ false
  differs x y p q e = by (sameB (f x) (f y)) refl
    where
      by : (b : Bool) → sameB (f x) (f y) ≡ b → b ≡ false
      by true is = absurd (both_ways (sameK (g x) (g y)) e (tells x y p q is))
      by false is = refl

  none_mapped : (x : X) (xs : List X) → P x → AllByRecursion P xs → list_any (sameK (g x)) (map g xs) ≡ false → list_any (sameB (f x)) (map f xs) ≡ false
  none_mapped x [] p h e = refl
  none_mapped x (y ∷ xs) p h e =
      let parts : (sameK (g x) (g y) ≡ false) × (list_any (sameK (g x)) (map g xs) ≡ false) = or_parts (sameK (g x) (g y)) (list_any (sameK (g x)) (map g xs)) e in
      or_from (sameB (f x) (f y)) (list_any (sameB (f x)) (map f xs)) (differs x y p h.0 parts.0) (none_mapped x xs p h.1 parts.1)

  pub apart_mapped : (xs : List X) → AllByRecursion P xs → are_apart sameK (map g xs) ≡ true → are_apart sameB (map f xs) ≡ true
  apart_mapped [] h e = refl
  apart_mapped (x ∷ xs) h e =
      let parts : (not (list_any (sameK (g x)) (map g xs)) ≡ true) × (are_apart sameK (map g xs) ≡ true) = and_parts (not (list_any (sameK (g x)) (map g xs))) (are_apart sameK (map g xs)) e in
      and_from (not (list_any (sameB (f x)) (map f xs))) (are_apart sameB (map f xs))
      (not_from_false _ (none_mapped x xs h.0 h.1 (not-true (list_any (sameK (g x)) (map g xs)) parts.0)))
      (apart_mapped xs h.1 parts.1)

-- ---- names

pub name_fits : (name : List ℕ) → is_spoken_name name ≡ true → length name ≤ 32 → is_name name ≡ true
name_fits name e le =
    let parts : (is_word name ≡ true) × (not (has_name name keywords) ≡ true) = and_parts (is_word name) (not (has_name name keywords)) e in
    let short : nat_le (length name) 32 ≡ true = le-leb (length name) 32 le in
    rw (parts.0, short, parts.1) refl

pub names_fit : (names : List (List ℕ)) → list_all is_spoken_name names ≡ true → AllByRecursion (λ n. n ≤ 32) (map length names) → list_all is_name names ≡ true
names_fit [] e le = refl
names_fit (name ∷ names) e le =
    let parts : (is_spoken_name name ≡ true) × (list_all is_spoken_name names ≡ true) = and_parts (is_spoken_name name) (list_all is_spoken_name names) e in
    and_from (is_name name) (list_all is_name names) (name_fits name parts.0 le.0) (names_fit names parts.1 le.1)

-- ---- places

found_below : {X : Type 0} (p : X → Bool) (xs : List X) → list_any p xs ≡ true → position_or_len p xs < length xs
found_below p [] e = cc
found_below p (x ∷ xs) e = by (p x) refl (λ later. found_below p xs later)
  where
    by : (b : Bool) → p x ≡ b → (list_any p xs ≡ true → position_or_len p xs < length xs) → position_or_len p (x ∷ xs) < length (x ∷ xs)
    by true is more = rw is (omega arith)
    by false is more = rw is (omega (arith, more (rw is at e)))

pub position_found : {X : Type 0} (p : X → Bool) (xs : List X) → list_any p xs ≡ true → position p xs ≡ Some (position_or_len p xs)
position_found p xs e = ap (λ b. cond b (Some (position_or_len p xs)) None) (lt-ltb (position_or_len p xs) (length xs) (found_below p xs e))

pub position_none : {X : Type 0} (p : X → Bool) (xs : List X) → position p xs ≡ None → list_any p xs ≡ false
position_none p xs e = by (list_any p xs) refl
  where
    by : (b : Bool) → list_any p xs ≡ b → b ≡ false
    by false is = refl
    by true is = let found : position p xs ≡ Some (position_or_len p xs) = position_found p xs is in cc

-- ---- what a name stands for

pub taken_free : (tables : List TableDef) (views : List ViewDef) (name : List ℕ) → is_none (rel_named tables views name) ≡ true → is_free tables views name ≡ true
taken_free tables views name e = by (table_named tables name) (view_named views name) refl refl e
  where
    by : (a b : Option ℕ) → table_named tables name ≡ a → view_named views name ≡ b → is_none (option_or (option_map Table a) (option_map View b)) ≡ true → is_free tables views name ≡ true
    by (Some t) b is_a is_b none = cc
    by None (Some v) is_a is_b none = cc
    by None None is_a is_b none =
        and_from _ _
        (not_from_false _ (position_none (bytes_eq name) (map (λ t. t.name) tables) is_a))
        (not_from_false _ (position_none (bytes_eq name) (map (λ v. v.name) views) is_b))

-- a table's number is in use
pub table_in_use : (tables : List TableDef) (views : List ViewDef) (name : List ℕ) → is_table (rel_named tables views name) ≡ true
    → (rel_named tables views name ≡ Some (Table (table_number (rel_named tables views name)))) × (table_number (rel_named tables views name) < length tables)
table_in_use tables views name e = by (table_named tables name) (view_named views name) refl e
  where
    by : (a b : Option ℕ) → table_named tables name ≡ a → is_table (option_or (option_map Table a) (option_map View b)) ≡ true
        → (option_or (option_map Table a) (option_map View b) ≡ Some (Table (table_number (option_or (option_map Table a) (option_map View b)))))
        × (table_number (option_or (option_map Table a) (option_map View b)) < length tables)
    by (Some t) b is_a table =
        (refl, rw length-map at (position-Some (bytes_eq name) (map (λ t. t.name) tables) t [] is_a).0)
    by None (Some v) is_a table = (cc, absurd cc)
    by None None is_a table = (cc, absurd cc)
