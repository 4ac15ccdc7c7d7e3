-- What statements make can be kept: bound tables and views, and the actions of a transaction.
use Rattle.std.proofs.Common.{◌≡◌, ◌≤◌, ◌<◌, ℕ, suc, Bool, true, false, not, cond, nat_eq, nat_lt, eqb, List, [], ◌∷◌, map, length, take, Option, Some, None, refl, sym, ap, subst, subst₂, arith, ⊎_elim}
use Rattle.std.specs.Prelude.{is_some}
use Rattle.std.specs.List.{list_all, list_any, AllByRecursion, IsDistinct}
use Rattle.std.proofs.lemmas.Bool.{and_from, and_parts, lt-ltb, ltb-true, le-leb, not-true, or_cases, or_parts}
use Rattle.std.proofs.lemmas.List.{length-take-le}
use Rattle.std.proofs.lemmas.Map.Steps.{length-le_from_distinct_below}
use Rattle.lv_values.specs.declared.value.Value.{Value}
use Rattle.lv_values.specs.declared.value.Value.TheVariants.{Num, Text as Word}
use Rattle.lv_schema.specs.Bound.{both_are, compares, compares_step, is_table_kind, operand_text, IsBoundTable, IsBoundView}
use Rattle.lv_schema.specs.Databases.{Db, is_line, row_fits, value_fits}
use Rattle.lv_schema.specs.Effects.{acted}
use Rattle.lv_schema.specs.Once.{are_apart}
use Rattle.lv_schema.specs.Records.{table_record, view_record}
use Rattle.lv_schema.specs.Sound.{IsSchema}
use Rattle.lv_schema.specs.SoundWorld.{CanAct, CanTake}
use Rattle.lv_schema.specs.World.{Visible, table_at}
use Rattle.lv_schema.specs.declared.action.Action.{Action}
use Rattle.lv_schema.specs.declared.cond.Cond.{Cond}
use Rattle.lv_schema.specs.declared.cond.Cond.TheFolds.{fold-roll-Cond, ind-Cond, map-Cond}
use Rattle.lv_schema.specs.declared.cond.Cond.TheOpen.{Cond-F, True, Cmp, And, Or, Not}
use Rattle.lv_schema.specs.declared.cond.Operand.{Operand}
use Rattle.lv_schema.specs.declared.cond.Operand.TheVariants as operand
use Rattle.lv_schema.specs.declared.table.Column.{Column}
use Rattle.lv_schema.specs.declared.table.Kind.{Kind}
use Rattle.lv_schema.specs.declared.table.Kind.TheVariants.{Int, Text, Big}
use Rattle.lv_schema.specs.declared.table.TableDef.{TableDef}
use Rattle.lv_schema.specs.declared.view.ViewDef.{ViewDef}
use Rattle.lv_record.specs.Kept as kept

-- what holds of each element by a test, by a test that asks for less
weaker : {A : Type 0} (p q : A → Bool) → ((a : A) → p a ≡ true → q a ≡ true) → (xs : List A) → list_all p xs ≡ true → list_all q xs ≡ true
weaker p q less [] e = refl
weaker p q less (x ∷ xs) e = let s = and_parts (p x) (list_all p xs) e in and_from (q x) (list_all q xs) (less x s.0) (weaker p q less xs s.1)

-- ---- positions of a key are few, since none stands twice

none_of : (k : ℕ) (ks : List ℕ) → list_any (nat_eq k) ks ≡ false → AllByRecursion (λ j. eqb k j ≡ false) ks
none_of k [] e = tt
none_of k (j ∷ ks) e = let s = or_parts (nat_eq k j) (list_any (nat_eq k) ks) e in (s.0, none_of k ks s.1)

distinct : (ks : List ℕ) → are_apart nat_eq ks ≡ true → IsDistinct eqb ks
unfolding IsDistinct
distinct [] e = tt
distinct (k ∷ ks) e =
    let s = and_parts (not (list_any (nat_eq k) ks)) (are_apart nat_eq ks) e in
    (none_of k ks (not-true (list_any (nat_eq k) ks) s.0), distinct ks s.1)

below : (n : ℕ) (ks : List ℕ) → list_all (λ k. nat_lt k n) ks ≡ true → (q : ℕ) → list_any (eqb q) ks ≡ true → q < n
below n [] e q is = absurd cc
below n (k ∷ ks) e q is =
    let s = and_parts (nat_lt k n) (list_all (λ j. nat_lt j n) ks) e in
    ⊎_elim (λ same. (let less = ltb-true k n s.0 in grind (arith, same, less))) (λ more. below n ks s.1 q more) (or_cases (eqb q k) (list_any (eqb q) ks) is)

pub made_table : (tables : List TableDef) (views : List ViewDef) (def : TableDef) → IsBoundTable tables views def → kept.IsKept (table_record def)
made_table tables views def b =
    let few : length def.key ≤ length def.columns = length-le_from_distinct_below def.key (length def.columns) (distinct def.key b.key_apart) (below (length def.columns) def.key b.key_in_range) in
    record { no_number = refl; named = b.named; few_columns = b.few_columns; columns_named = b.columns_named; kinds = b.kinds; few_keys = omega (arith, few, b.few_columns) }

-- ---- texts that may be compared are inside the limit

both_known : (a b : Option Bool) → both_are a b ≡ true → (is_some a ≡ true) × (is_some b ≡ true)
both_known None b e = absurd cc
both_known (Some a) None e = absurd cc
both_known (Some a) (Some b) e = (refl, refl)

known_line : (aliases : List (List Column)) (o : Operand) → is_some (operand_text aliases o) ≡ true → kept.is_kept_side o ≡ true
known_line aliases (operand.Column c) e = refl
known_line aliases (operand.Number z) e = refl
known_line aliases (operand.Text t) e = at (is_line t) e where
  at : (b : Bool) → is_some (cond b (Some true) None) ≡ true → b ≡ true
  at true e = refl
  at false e = absurd cc

module _ (aliases : List (List Column)) where
  abbrev Lined : Cond → Type 0
  Lined c = compares aliases c ≡ true → kept.has_lines c ≡ true

  all_lined : (ys : List ((q : Cond) × Lined q)) → list_all (λ part. part) (map (compares aliases) (map (λ e. e.0) ys)) ≡ true → list_all (λ part. part) (map kept.has_lines (map (λ e. e.0) ys)) ≡ true
  all_lined [] e = refl
  all_lined (y ∷ ys) e = let s = and_parts (compares aliases y.0) _ e in and_from (kept.has_lines y.0) _ (y.1 s.0) (all_lined ys s.1)

  lined_layer : (y : Cond-F ((q : Cond) × Lined q))
      → compares_step aliases (map-Cond Cond Bool (compares aliases) (map-Cond ((q : Cond) × Lined q) Cond (λ e. e.0) y)) ≡ true
      → kept.lines_step (map-Cond Cond Bool kept.has_lines (map-Cond ((q : Cond) × Lined q) Cond (λ e. e.0) y)) ≡ true
  lined_layer True e = refl
  lined_layer (Cmp op l r) e = let s = both_known (operand_text aliases l) (operand_text aliases r) e in and_from _ _ (known_line aliases l s.0) (known_line aliases r s.1)
  lined_layer (And ys) e = all_lined ys e
  lined_layer (Or ys) e = all_lined ys e
  lined_layer (Not y) e = y.1 e

  compared_lines : (c : Cond) → Lined c
  compared_lines = ind-Cond Lined (λ x y is.
      subst₂ (λ (a b : Bool). a ≡ true → b ≡ true) (sym (fold-roll-Cond Bool (compares_step aliases) x)) (sym (fold-roll-Cond Bool kept.lines_step x))
      (subst (λ z. compares_step aliases (map-Cond Cond Bool (compares aliases) z) ≡ true → kept.lines_step (map-Cond Cond Bool kept.has_lines z) ≡ true) is (lined_layer y)))

-- ---- views

few_tables : (tables : List TableDef) (views : List ViewDef) → IsSchema tables views → length tables ≤ 32
few_tables [] views s = omega arith
few_tables (t ∷ ts) views s =
    let room = (s.each_table (length ts) (omega arith)).room in
    let long : length (take (length ts) (t ∷ ts)) ≡ length ts = length-take-le (length ts) (t ∷ ts) (omega arith) in
    omega (arith, room, long)

in_a_byte : (n : ℕ) → n ≤ 32 → (k : ℕ) → nat_lt k n ≡ true → nat_lt k 256 ≡ true
in_a_byte n few k e = lt-ltb k 256 (omega (arith, few, ltb-true k n e))

pub made_view : (tables : List TableDef) (views : List ViewDef) (def : ViewDef) (s : Visible) → IsSchema tables views → IsBoundView tables views def → kept.IsKept (view_record def s)
made_view tables views def s sound b =
    record {
      no_number = refl;
      named = b.named;
      few_aliases = b.few_aliases;
      tables = weaker (λ t. nat_lt t (length tables)) (λ t. nat_lt t 256) (in_a_byte (length tables) (few_tables tables views sound)) def.tables b.in_use;
      kept_cond = b.kept_cond;
      few_comparisons = b.bound_cond.few;
      lines = compared_lines _ def.cond b.bound_cond.compares_well;
      few_items = b.few_items;
      items_named = b.items_named;
      few_groups = b.few_groups;
    }

-- ---- commits

value_kept : (k : Kind) (v : Value) → is_table_kind k ≡ true → value_fits k v ≡ true → kept.is_kept_value v ≡ true
value_kept Int (Num n) e f = f
value_kept Int (Word t) e f = absurd cc
value_kept Text (Num n) e f = absurd cc
value_kept Text (Word t) e f = f
value_kept Big v e f = absurd cc

row_kept : (columns : List Column) (row : List Value) → list_all (λ c. is_table_kind c.kind) columns ≡ true → row_fits columns row ≡ true → (length row ≡ length columns) × (list_all kept.is_kept_value row ≡ true)
row_kept [] [] e f = (refl, refl)
row_kept [] (v ∷ vs) e f = absurd cc
row_kept (c ∷ cs) [] e f = absurd cc
row_kept (c ∷ cs) (v ∷ vs) e f =
    let kinds = and_parts (is_table_kind c.kind) (list_all (λ c. is_table_kind c.kind) cs) e in
    let fits = and_parts (value_fits c.kind v) (row_fits cs vs) f in
    let more = row_kept cs vs kinds.1 fits.1 in
    (ap suc more.0, and_from (kept.is_kept_value v) _ (value_kept c.kind v kinds.0 fits.0) more.1)

action_kept : (tables : List TableDef) (views : List ViewDef) (db : Db) (a : Action) → IsSchema tables views → CanTake tables db a → kept.is_kept_action a ≡ true
action_kept tables views db a sound can =
    let bound = sound.each_table a.table can.in_use in
    let row = row_kept (table_at tables a.table).columns a.row bound.kinds can.fits in
    and_from _ _ (lt-ltb a.table 256 (omega (arith, few_tables tables views sound, can.in_use))) (and_from _ _ (le-leb (length a.row) 16 (omega (arith, row.0, bound.few_columns))) row.1)

pub made_actions : (tables : List TableDef) (views : List ViewDef) (db : Db) (actions : List Action) → IsSchema tables views → CanAct tables db actions → list_all kept.is_kept_action actions ≡ true
made_actions tables views db [] sound can = refl
made_actions tables views db (a ∷ actions) sound can = and_from _ _ (action_kept tables views db a sound can.0) (made_actions tables views (acted tables db a) actions sound can.1)
