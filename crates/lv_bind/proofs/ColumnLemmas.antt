-- A known column is in range, and has the kind that its place tells.
use Rattle.std.proofs.Common.{◌≡◌, ◌<◌, ◌≤◌, ◌+◌, ℕ, zero, suc, Bool, true, false, not, cond, List, [], ◌∷◌, ◌++◌, map, length, get_or, Option, Some, None, IfSome, refl, ap, ap₂, subst, ◌∙◌, arith}
use Rattle.std.specs.Prelude.{unwrap_or}
use Rattle.std.specs.List.{AllByRecursion, cons_option, list_all}
use Rattle.std.specs.Option.{option_map}
use Rattle.std.specs.Str.{bytes_eq}
use Rattle.std.proofs.lemmas.Bool.{and_from, and_parts, le-leb, not-true}
use Rattle.std.proofs.lemmas.List.Quantifiers.{position-Some}
use Rattle.std.proofs.lemmas.Option.{slice_get-get_or}
use Rattle.lv_values.specs.declared.value.Value.{Value}
use Rattle.lv_values.specs.declared.value.Value.TheVariants as v
use Rattle.lv_parser.specs.declared.tree.ColName.{ColName}
use Rattle.lv_parser.specs.declared.tree.OperandTree.{OperandTree}
use Rattle.lv_parser.specs.declared.tree.OperandTree.TheVariants as side
use Rattle.lv_schema.specs.declared.table.Column.{Column}
use Rattle.lv_schema.specs.Bound.{both_are, is_table_kind, is_text, operand_text}
use Rattle.lv_schema.specs.Bound as b
use Rattle.lv_schema.specs.Databases.{is_line}
use Rattle.lv_bind.specs.declared.sources.Place.{Place}
use Rattle.lv_bind.specs.Binding.{bound_col, bound_literal, bound_side}
use Rattle.lv_bind.specs.Kinds.{both_or_none, compared_kinds, kind_of, side_byte, side_is_text, value_is_text}
use Rattle.lv_bind.specs.Limits.{compared_texts, lengths, side_texts, value_texts}
use Rattle.lv_bind.specs.Pieces.{Sides, compared_columns, side_columns}
use Rattle.lv_bind.specs.Sources.{Alias, column_named, first, goes_by, no_alias, no_column, place_at, place_in, place_of, places, places_from, shown_unless}
use Rattle.lv_bind.specs.Spoken.{is_in_line, side_in_line, value_in_line}
use Rattle.lv_bind.specs.Unknown.{is_nil, unknown_columns, unknown_in, unknown_qualifier}
use Rattle.lv_bind.proofs.FoundFaults.{append_parts, each_empty, each_of, none_shown, shown_well}
use Rattle.lv_bind.proofs.CondLemmas.{pair_fits, pair_in_line}

-- ---- lists

pub all_append : {X : Type 0} (P : X → Type 0) (xs ys : List X) → AllByRecursion P (xs ++ ys) → AllByRecursion P xs × AllByRecursion P ys
all_append P [] ys h = (tt, h)
all_append P (x ∷ xs) ys h =
    let more : AllByRecursion P xs × AllByRecursion P ys = all_append P xs ys h.1 in
    ((h.0, more.0), more.1)

pub all_mapped : {X Y : Type 0} (P : Y → Type 0) (f : X → Y) (xs : List X) → AllByRecursion P (map f xs) → AllByRecursion (λ x. P (f x)) xs
all_mapped P f [] h = tt
all_mapped P f (x ∷ xs) h = (h.0, all_mapped P f xs h.1)

pub all_at : {X : Type 0} (P : X → Type 0) (xs : List X) (i : ℕ) (d : X) → AllByRecursion P xs → P d → P (get_or xs i d)
all_at P [] i d h e = e
all_at P (x ∷ xs) zero d h e = h.0
all_at P (x ∷ xs) (suc i) d h e = all_at P xs i d h.1 e

pub test_at : {X : Type 0} (p : X → Bool) (xs : List X) (i : ℕ) (d : X) → list_all p xs ≡ true → i < length xs → p (get_or xs i d) ≡ true
test_at p [] i d e lt = absurd (omega arith)
test_at p (x ∷ xs) zero d e lt = (and_parts (p x) (list_all p xs) e).0
test_at p (x ∷ xs) (suc i) d e lt = test_at p xs i d (and_parts (p x) (list_all p xs) e).1 (omega arith)

-- ---- places

abbrev pub all_columns : List Alias → List (List Column)
all_columns sources = map (λ s. s.columns) sources

columns_at : (sources : List Alias) (i : ℕ) → get_or (all_columns sources) i [] ≡ (get_or sources i no_alias).columns
columns_at [] i = refl
columns_at (s ∷ sources) zero = refl
columns_at (s ∷ sources) (suc i) = columns_at sources i

-- a place of aliases that are numbered from n
abbrev IsPlace : ℕ → List Alias → Place → Type 0
IsPlace n sources p = (i : ℕ) × (p.alias ≡ n + i) × (p.column < length (get_or (all_columns sources) i []))

in_alias : (n : ℕ) (s : Alias) (col : ColName) → IfSome (place_in n s col) (λ p. (p.alias ≡ n) × (p.column < length s.columns))
in_alias n s col = by (goes_by col.qualifier s.name) (column_named col.name.name s.columns) refl
  where
    by : (b : Bool) (at : Option ℕ) → column_named col.name.name s.columns ≡ at → IfSome (cond b (option_map (place_at n) at) None) (λ p. (p.alias ≡ n) × (p.column < length s.columns))
    by false at e = tt
    by true None e = tt
    by true (Some k) e = (refl, (position-Some (λ c. bytes_eq col.name.name c.name) s.columns k no_column e).0)

first_place : (n : ℕ) (sources : List Alias) (col : ColName) → IfSome (first (places_from n sources col)) (IsPlace n sources)
first_place n [] col = tt
first_place n (s ∷ more) col = by (place_in n s col) (first (places_from (suc n) more col)) refl (in_alias n s col) (first_place (suc n) more col)
  where
    by : (p q : Option Place) → first (places_from (suc n) more col) ≡ q → IfSome p (λ p. (p.alias ≡ n) × (p.column < length s.columns)) → IfSome q (IsPlace (suc n) more)
        → IfSome (first (cons_option p (places_from (suc n) more col))) (IsPlace n (s ∷ more))
    by (Some x) q e a b = (0, omega (arith, a.0), a.1)
    by None None e a b = rw e tt
    by None (Some x) e a b = rw e (suc b.0, omega (arith, b.1), b.2)

abbrev pub IsKnown : List Alias → ColName → Type 0
IsKnown sources col = is_nil (places sources col) ≡ false

known_place : (sources : List Alias) (col : ColName) → IsKnown sources col → (place_of sources col).column < length (get_or (all_columns sources) (place_of sources col).alias [])
known_place sources col known = by (places sources col) refl known
  where
    by : (ps : List Place) → places sources col ≡ ps → is_nil ps ≡ false → (place_of sources col).column < length (get_or (all_columns sources) (place_of sources col).alias [])
    by [] e none = absurd cc
    by (p ∷ ps) e some =
        let at : IsPlace 0 sources p = subst (λ qs. IfSome (first qs) (IsPlace 0 sources)) e (first_place 0 sources col) in
        let is : place_of sources col ≡ p = ap (λ qs. unwrap_or (first qs) (place_at 0 0)) e in
        let alias : p.alias ≡ at.0 = omega (arith, at.1) in
        rw (is, alias) at.2

-- the kind of a known column
pub kind_known : (sources : List Alias) (col : ColName) → IsKnown sources col → b.kind_at (all_columns sources) (bound_col sources col) ≡ Some (kind_of sources col)
kind_known sources col known =
    ap (option_map (λ (c : Column). c.kind)) (slice_get-get_or (get_or (all_columns sources) (place_of sources col).alias []) (place_of sources col).column no_column (known_place sources col known))
    ∙ ap (λ cs. Some (get_or cs (place_of sources col).column no_column).kind) (columns_at sources (place_of sources col).alias)

-- a known column of tables has a table's kind
pub table_kind : (sources : List Alias) (col : ColName) → AllByRecursion (λ s. list_all (λ c. is_table_kind c.kind) s.columns ≡ true) sources → IsKnown sources col
    → is_table_kind (kind_of sources col) ≡ true
table_kind sources col kinds known =
    test_at (λ c. is_table_kind c.kind) (get_or sources (place_of sources col).alias no_alias).columns (place_of sources col).column no_column
    (all_at (λ s. list_all (λ c. is_table_kind c.kind) s.columns ≡ true) sources (place_of sources col).alias no_alias kinds refl)
    (rw (← columns_at sources (place_of sources col).alias) (known_place sources col known))

each_known_in : (sources : List Alias) (col : ColName) → unknown_in sources col ≡ [] → IsKnown sources col
each_known_in sources col e =
    let parts : (unknown_qualifier sources col.qualifier ≡ []) × (shown_unless (not (is_nil (places sources col))) col.name.name ≡ []) =
    append_parts (unknown_qualifier sources col.qualifier) (shown_unless (not (is_nil (places sources col))) col.name.name) e in
    not-true (is_nil (places sources col)) (shown_well (not (is_nil (places sources col))) col.name.name parts.1)

pub all_known : (sources : List Alias) (cols : List ColName) → unknown_columns sources cols ≡ [] → AllByRecursion (IsKnown sources) cols
all_known sources cols e = each_of (each_known_in sources) cols (each_empty (unknown_in sources) cols e)

-- ---- comparisons

pub line_fits : (t : List ℕ) → is_in_line t ≡ true → length t ≤ 256 → is_line t ≡ true
line_fits t e le = and_from _ (is_in_line t) (le-leb (length t) 256 le) e

literal_text : (aliases : List (List Column)) (l : Value) → value_in_line l ≡ true → AllByRecursion (λ t. length t ≤ 256) (value_texts l)
    → operand_text aliases (bound_literal l) ≡ Some (value_is_text l)
literal_text aliases (v.Num n) e short = refl
literal_text aliases (v.Text t) e short = rw (line_fits t e short.0) refl

side_text : (sources : List Alias) (s : OperandTree) → AllByRecursion (IsKnown sources) (side_columns s) → side_in_line s ≡ true → AllByRecursion (λ t. length t ≤ 256) (side_texts s)
    → operand_text (all_columns sources) (bound_side sources s) ≡ Some (side_is_text sources s)
side_text sources (side.Column col) known e short = ap (option_map is_text) (kind_known sources col known.0)
side_text sources (side.Literal l) known e short = literal_text (all_columns sources) l.value e short

both_some : (x y : Bool) → both_are (Some x) (Some y) ≡ both_or_none x y
both_some true y = refl
both_some false y = refl

pairs_so : (sources : List Alias) (pairs : List Sides) → AllByRecursion (IsKnown sources) (compared_columns pairs) → list_all pair_in_line pairs ≡ true
    → AllByRecursion (λ t. length t ≤ 256) (compared_texts pairs) → list_all (λ sides. both_or_none (side_is_text sources sides.0) (side_is_text sources sides.1)) pairs ≡ true
    → list_all (pair_fits (all_columns sources) sources) pairs ≡ true
pairs_so sources [] known line short kinds = refl
pairs_so sources (p ∷ pairs) known line short kinds =
    let k : AllByRecursion (IsKnown sources) (side_columns p.0 ++ side_columns p.1) × AllByRecursion (IsKnown sources) (compared_columns pairs) = all_append (IsKnown sources) (side_columns p.0 ++ side_columns p.1) (compared_columns pairs) known in
    let ks : AllByRecursion (IsKnown sources) (side_columns p.0) × AllByRecursion (IsKnown sources) (side_columns p.1) = all_append (IsKnown sources) (side_columns p.0) (side_columns p.1) k.0 in
    let l : (pair_in_line p ≡ true) × (list_all pair_in_line pairs ≡ true) = and_parts (pair_in_line p) (list_all pair_in_line pairs) line in
    let ls : (side_in_line p.0 ≡ true) × (side_in_line p.1 ≡ true) = and_parts (side_in_line p.0) (side_in_line p.1) l.0 in
    let s : AllByRecursion (λ t. length t ≤ 256) (side_texts p.0 ++ side_texts p.1) × AllByRecursion (λ t. length t ≤ 256) (compared_texts pairs) = all_append (λ t. length t ≤ 256) (side_texts p.0 ++ side_texts p.1) (compared_texts pairs) short in
    let ss : AllByRecursion (λ t. length t ≤ 256) (side_texts p.0) × AllByRecursion (λ t. length t ≤ 256) (side_texts p.1) = all_append (λ t. length t ≤ 256) (side_texts p.0) (side_texts p.1) s.0 in
    let g : (both_or_none (side_is_text sources p.0) (side_is_text sources p.1) ≡ true) × (list_all (λ sides. both_or_none (side_is_text sources sides.0) (side_is_text sources sides.1)) pairs ≡ true) = and_parts _ _ kinds in
    let here : pair_fits (all_columns sources) sources p ≡ true =
    ap₂ both_are (side_text sources p.0 ks.0 ls.0 ss.0) (side_text sources p.1 ks.1 ls.1 ss.1) ∙ both_some (side_is_text sources p.0) (side_is_text sources p.1) ∙ g.0 in
    and_from (pair_fits (all_columns sources) sources p) _ here (pairs_so sources pairs k.1 l.1 s.1 g.1)

pub pairs_fit : (sources : List Alias) (pairs : List Sides) → AllByRecursion (IsKnown sources) (compared_columns pairs) → list_all pair_in_line pairs ≡ true
    → AllByRecursion (λ n. n ≤ 256) (lengths (compared_texts pairs)) → compared_kinds sources pairs ≡ [] → list_all (pair_fits (all_columns sources) sources) pairs ≡ true
pairs_fit sources pairs known line short kinds =
    pairs_so sources pairs known line (all_mapped (λ n. n ≤ 256) length (compared_texts pairs) short)
    (none_shown (λ sides. both_or_none (side_is_text sources sides.0) (side_is_text sources sides.1)) (λ sides. side_byte sides.1) pairs kinds)
