-- The records that statements and marks write are ones that the journal can keep.
use Rattle.std.proofs.Common.{◌≡◌, ℕ, zero, suc, ◌+◌, ◌<◌, ◌≤◌, Bool, true, false, not, ◌||◌, List, [], ◌∷◌, map, take, length, Option, Some, None, refl, sym, ap, ◌∙◌, subst, arith}
use Rattle.std.specs.Prelude.{◌⊎◌, is_some, if◌then◌else◌, nat_eq, nat_lt}
use Rattle.std.specs.List.{list_all, list_any, IsDistinct, AllByRecursion}
use Rattle.std.proofs.lemmas.Bool.Decides.{nat_tests}
use Rattle.std.proofs.lemmas.List.{length-take-le}
use Rattle.std.proofs.lemmas.Map.Steps.{length-le_from_distinct_below}
use mathlib.Core.Logic.{inl, inr}
use Rattle.lv_values.specs.declared.value.Value.{Value}
use Rattle.lv_values.specs.declared.value.Value.TheVariants.{Num, Text as Word}
use Rattle.lv_schema.specs.declared.action.Action.{Action}
use Rattle.lv_schema.specs.declared.cond.Cond.{Cond}
use Rattle.lv_schema.specs.declared.cond.Cond.TheFolds.{fold-roll-Cond, map-Cond}
use Rattle.lv_schema.specs.declared.cond.Cond.TheOpen.{Cond-F, True, Cmp, And, Or, Not}
use Rattle.lv_schema.specs.declared.cond.Cond.TheViews.{roll-Cond, out-Cond, roll-out-Cond}
use Rattle.lv_schema.specs.declared.cond.Operand.{Operand}
use Rattle.lv_schema.specs.declared.cond.Operand.TheVariants as operand
use Rattle.lv_schema.specs.declared.table.Column.{Column}
use Rattle.lv_schema.specs.declared.table.Kind.{Kind}
use Rattle.lv_schema.specs.declared.table.Kind.TheVariants.{Int, Text, Big}
use Rattle.lv_schema.specs.declared.table.TableDef.{TableDef}
use Rattle.lv_schema.specs.declared.view.ViewDef.{ViewDef}
use Rattle.lv_schema.specs.Bound.{IsBoundTable, IsBoundView, alias_columns, both_are, compares, compares_step, deepest, depth, depth_step, operand_text, is_table_kind}
use Rattle.lv_schema.specs.Databases.{Db, is_line, value_fits, row_fits}
use Rattle.lv_schema.specs.Effects.{acted}
use Rattle.lv_schema.specs.Once.{are_apart}
use Rattle.lv_schema.specs.Sound.{IsSchema}
use Rattle.lv_schema.specs.SoundWorld.{CanAct, IsSound}
use Rattle.lv_schema.specs.World.{Visible, last, snap, table_at, transaction}
use Rattle.lv_schema.proofs.SoundSteps.{transaction_live}
use Rattle.lv_record.specs.Kept.{is_kept_value, is_kept_action, is_kept_side, has_lines, lines_step, IsKeptTable, IsKeptView}
use Rattle.lv_replay.proofs.Tests.{both, and_left, and_right, lt_test, le_test, lt_of}

-- ---- a table: a key of distinct columns has no more than the columns
none_same : (k : ℕ) (ks : List ℕ) → not (list_any (nat_eq k) ks) ≡ true → AllByRecursion (λ j. nat_eq k j ≡ false) ks
none_same k [] h = tt
none_same k (j ∷ ks) h = by (nat_eq k j) refl h (none_same k ks)
  where
    by : (t : Bool) → nat_eq k j ≡ t → not (t || list_any (nat_eq k) ks) ≡ true → (not (list_any (nat_eq k) ks) ≡ true → AllByRecursion (λ i. nat_eq k i ≡ false) ks) → (nat_eq k j ≡ false) × AllByRecursion (λ i. nat_eq k i ≡ false) ks
    by true e g more = cc
    by false e g more = (e, more g)

distinct : (ks : List ℕ) → are_apart nat_eq ks ≡ true → IsDistinct nat_eq ks
unfolding IsDistinct
distinct [] h = tt
distinct (k ∷ ks) h = (none_same k ks (and_left _ _ h), distinct ks (and_right (not (list_any (nat_eq k) ks)) _ h))

eq_of : (a b : ℕ) → nat_eq a b ≡ true → a ≡ b
eq_of a b h = grind (arith, nat_tests)

each_below : (n : ℕ) (ks : List ℕ) → list_all (λ k. nat_lt k n) ks ≡ true → (q : ℕ) → list_any (nat_eq q) ks ≡ true → q < n
each_below n [] h q e = cc
each_below n (k ∷ ks) h q e = by (nat_eq q k) refl e (each_below n ks (and_right (nat_lt k n) _ h) q)
  where
    by : (t : Bool) → nat_eq q k ≡ t → (t || list_any (nat_eq q) ks) ≡ true → (list_any (nat_eq q) ks ≡ true → q < n) → q < n
    by true f g more = let same : q ≡ k = eq_of q k f in let low : k < n = lt_of k n (and_left _ _ h) in omega arith
    by false f g more = more g

pub table_kept : (tables : List TableDef) (views : List ViewDef) (def : TableDef) → IsBoundTable tables views def → IsKeptTable (record def { no = 0 })
table_kept tables views def is = record {
  no_number = refl;
  named = is.named;
  few_columns = is.few_columns;
  columns_named = is.columns_named;
  kinds = is.kinds;
  few_keys = omega (arith, is.few_columns, length-le_from_distinct_below def.key (length def.columns) (distinct def.key is.key_apart) (each_below (length def.columns) def.key is.key_in_range));
}

-- ---- a condition whose comparisons may be made has texts inside the limit
both_some : (x y : Option Bool) → both_are x y ≡ true → (is_some x ≡ true) × (is_some y ≡ true)
both_some None y e = cc
both_some (Some a) None e = cc
both_some (Some a) (Some b) e = (refl, refl)

side_kept : (aliases : List (List Column)) (o : Operand) → is_some (operand_text aliases o) ≡ true → is_kept_side o ≡ true
side_kept aliases (operand.Column c) e = refl
side_kept aliases (operand.Number z) e = refl
side_kept aliases (operand.Text t) e = by (is_line t) e
  where
    by : (b : Bool) → is_some (if b then Some true else None) ≡ true → b ≡ true
    by true e = refl
    by false e = cc

module _ (aliases : List (List Column)) where
  depth_of : (e : Cond-F Cond) → depth (roll-Cond e) ≡ depth_step (map-Cond Cond ℕ depth e)
  depth_of e = fold-roll-Cond ℕ depth_step e

  lines_of : (e : Cond-F Cond) → has_lines (roll-Cond e) ≡ lines_step (map-Cond Cond Bool has_lines e)
  lines_of e = fold-roll-Cond Bool lines_step e

  compares_of : (e : Cond-F Cond) → compares aliases (roll-Cond e) ≡ compares_step aliases (map-Cond Cond Bool (compares aliases) e)
  compares_of e = fold-roll-Cond Bool (compares_step aliases) e

  module _ (n : ℕ) (one : (c : Cond) → depth c < n → compares aliases c ≡ true → has_lines c ≡ true) where
    parts_lines : (parts : List Cond) → 1 + deepest (map depth parts) < suc n → list_all (λ part. part) (map (compares aliases) parts) ≡ true → list_all (λ part. part) (map has_lines parts) ≡ true
    parts_lines [] d h = refl
    parts_lines (c ∷ cs) d h = both (has_lines c) _ (one c (omega arith) (and_left _ _ h)) (parts_lines cs (omega arith) (and_right (compares aliases c) _ h))

    layer_lines : (e : Cond-F Cond) → depth (roll-Cond e) < suc n → compares aliases (roll-Cond e) ≡ true → has_lines (roll-Cond e) ≡ true
    layer_lines True d h = lines_of True
    layer_lines (Cmp op l r) d h =
        let some = both_some (operand_text aliases l) (operand_text aliases r) (sym (compares_of (Cmp op l r)) ∙ h) in
        lines_of (Cmp op l r) ∙ both (is_kept_side l) (is_kept_side r) (side_kept aliases l some.0) (side_kept aliases r some.1)
    layer_lines (And parts) d h = lines_of (And parts) ∙ parts_lines parts (omega (arith, depth_of (And parts), d)) (sym (compares_of (And parts)) ∙ h)
    layer_lines (Or parts) d h = lines_of (Or parts) ∙ parts_lines parts (omega (arith, depth_of (Or parts), d)) (sym (compares_of (Or parts)) ∙ h)
    layer_lines (Not c) d h = lines_of (Not c) ∙ one c (omega (arith, depth_of (Not c), d)) (sym (compares_of (Not c)) ∙ h)

  lines_kept : (n : ℕ) (c : Cond) → depth c < n → compares aliases c ≡ true → has_lines c ≡ true
  lines_kept zero c d h = absurd (let none = d in omega (arith, none))
  lines_kept (suc n) c d h =
      subst (λ x. has_lines x ≡ true) (roll-out-Cond c)
      (layer_lines n (lines_kept n) (out-Cond c) (subst (λ x. depth x < suc n) (sym (roll-out-Cond c)) d) (subst (λ x. compares aliases x ≡ true) (sym (roll-out-Cond c)) h))

-- ---- a schema has few tables, and few views
high_or_low : (n : ℕ) → (n ≤ 32) ⊎ (32 < n)
high_or_low n = grind arith

pub few_tables : (tables : List TableDef) (views : List ViewDef) → IsSchema tables views → length tables ≤ 32
few_tables tables views is = by (high_or_low (length tables))
  where
    by : (length tables ≤ 32) ⊎ (32 < length tables) → length tables ≤ 32
    by (inl le) = le
    by (inr gt) = absurd (let full = (is.each_table 32 gt).room in let long : length (take 32 tables) ≡ 32 = length-take-le 32 tables (omega arith) in omega (arith, full, long))

pub few_views : (tables : List TableDef) (views : List ViewDef) → IsSchema tables views → length views ≤ 32
few_views tables views is = by (high_or_low (length views))
  where
    by : (length views ≤ 32) ⊎ (32 < length views) → length views ≤ 32
    by (inl le) = le
    by (inr gt) = absurd (let full = (is.each_view 32 gt).room in let long : length (take 32 views) ≡ 32 = length-take-le 32 views (omega arith) in omega (arith, full, long))

-- ---- a view
all_bytes : (n : ℕ) (ts : List ℕ) → n ≤ 32 → list_all (λ t. nat_lt t n) ts ≡ true → list_all (λ t. nat_lt t 256) ts ≡ true
all_bytes n [] le h = refl
all_bytes n (t ∷ ts) le h = let low : t < n = lt_of t n (and_left _ _ h) in both (nat_lt t 256) _ (lt_test t 256 (omega arith)) (all_bytes n ts le (and_right (nat_lt t n) _ h))

pub view_kept : (s : Visible) (def : ViewDef) → IsSound s → IsBoundView s.tables s.views def → IsKeptView (record def { no = 0; created = last s })
view_kept s def sound is = record {
  no_number = refl;
  named = is.named;
  few_aliases = is.few_aliases;
  tables = all_bytes (length s.tables) def.tables (few_tables s.tables s.views sound.schema) is.in_use;
  kept_cond = is.kept_cond;
  few_comparisons = is.bound_cond.few;
  lines = lines_kept (alias_columns s.tables def.tables) 131 def.cond (omega (arith, is.kept_cond.shallow)) is.bound_cond.compares_well;
  few_items = is.few_items;
  items_named = is.items_named;
  few_groups = is.few_groups;
}

-- ---- a commit
value_kept : (k : Kind) (v : Value) → value_fits k v ≡ true → is_table_kind k ≡ true → is_kept_value v ≡ true
value_kept Int (Num z) h e = h
value_kept Int (Word t) h e = cc
value_kept Text (Num z) h e = cc
value_kept Text (Word t) h e = h
value_kept Big v h e = cc

row_kept : (columns : List Column) (row : List Value) → row_fits columns row ≡ true → list_all (λ (c : Column). is_table_kind c.kind) columns ≡ true → (length row ≡ length columns) × (list_all is_kept_value row ≡ true)
row_kept [] [] h e = (refl, refl)
row_kept [] (v ∷ vs) h e = cc
row_kept (c ∷ cs) [] h e = cc
row_kept (c ∷ cs) (v ∷ vs) h e =
    let rest = row_kept cs vs (and_right (value_fits c.kind v) _ h) (and_right (is_table_kind c.kind) _ e) in
    (ap suc rest.0, both (is_kept_value v) _ (value_kept c.kind v (and_left _ _ h) (and_left _ _ e)) rest.1)

actions_kept : (tables : List TableDef) (views : List ViewDef) (schema : IsSchema tables views) (actions : List Action) (db : Db) → CanAct tables db actions → list_all is_kept_action actions ≡ true
actions_kept tables views schema [] db may = refl
actions_kept tables views schema (a ∷ actions) db may =
    let def = schema.each_table a.table may.0.in_use in
    let row = row_kept (table_at tables a.table).columns a.row may.0.fits def.kinds in
    both (is_kept_action a) _
    (both _ _ (lt_test a.table 256 (omega (arith, may.0.in_use, few_tables tables views schema))) (both _ _ (le_test (length a.row) 16 (omega (arith, row.0, def.few_columns))) row.1))
    (actions_kept tables views schema actions (acted tables db a) may.1)

pub commit_kept : (session : ℕ) (s : Visible) → IsSound s → list_all is_kept_action (transaction session s).actions ≡ true
commit_kept session s sound = let live = transaction_live s session sound in actions_kept s.tables s.views sound.schema (transaction session s).actions (snap s (transaction session s).snapshot) live.can_act

-- ---- a mark
pub mark_kept : (v : ℕ) (s : Visible) → IsSound s → v < length s.views → v < 256
mark_kept v s sound lt = omega (arith, lt, few_views s.tables s.views sound.schema)
