-- The view that a name stands for, by what the schema finds under it.
use Rattle.std.proofs.Common.{◌≡◌, ℕ, ◌<◌, Bool, true, false, List, [], map, length, get_or, Option, Some, None, refl, sym, ◌∙◌, subst}
use Rattle.std.specs.Prelude.{◌&&◌, not}
use Rattle.std.specs.List.{list_any}
use Rattle.std.specs.Option.{option_map, option_or}
use Rattle.std.specs.Str.{bytes_eq}
use Rattle.std.proofs.lemmas.List.{length-map}
use Rattle.std.proofs.Math.ListN.{get_or-map}
use Rattle.std.proofs.lemmas.List.Folds.{list_any_at}
use Rattle.std.proofs.lemmas.List.Quantifiers.{position-Some}
use Rattle.std.proofs.lemmas.Slice.Eq.{bytes_eq-Decides}
use Rattle.lv_values.specs.Names.{has_name}
use Rattle.lv_schema.specs.declared.query.Rel.{Rel}
use Rattle.lv_schema.specs.declared.query.Rel.TheVariants.{Table, View}
use Rattle.lv_schema.specs.declared.table.TableDef.{TableDef}
use Rattle.lv_schema.specs.declared.view.ViewDef.{ViewDef}
use Rattle.lv_schema.specs.Catalog.{rel_named, table_named, view_named}
use Rattle.lv_schema.specs.Sound.{IsSchema}
use Rattle.lv_schema.specs.World.{no_view, view_at}

named_view : (views : List ViewDef) (name : List ℕ) (v : ℕ) → view_named views name ≡ Some v → (v < length views) × ((view_at views v).name ≡ name)
named_view views name v e =
    let found = position-Some (bytes_eq name) (map (λ (w : ViewDef). w.name) views) v [] e in
    let same : name ≡ get_or (map (λ (w : ViewDef). w.name) views) v [] = (bytes_eq-Decides name (get_or (map (λ (w : ViewDef). w.name) views) v [])).0 found.1 in
    (subst (λ n. v < n) (length-map views (λ (w : ViewDef). w.name)) found.0, sym (same ∙ get_or-map (λ (w : ViewDef). w.name) views v no_view))

first_false : (a b : Bool) → (not a && b) ≡ true → a ≡ false
first_false false b e = refl
first_false true b e = absurd cc

abbrev either : Option ℕ → Option ℕ → Option Rel
either a b = option_or (option_map Table a) (option_map View b)

pub is_view : (tables : List TableDef) (views : List ViewDef) (name : List ℕ) (r : Option Rel) (v : ℕ) → r ≡ rel_named tables views name → r ≡ Some (View v) → Some v ≡ view_named views name
is_view tables views name r v found is = by (table_named tables name) (view_named views name) (sym found ∙ is)
  where
    by : (a b : Option ℕ) → either a b ≡ Some (View v) → Some v ≡ b
    by (Some t) b e = absurd cc
    by None (Some u) e = cc
    by None None e = absurd cc

pub is_nothing : (tables : List TableDef) (views : List ViewDef) (name : List ℕ) (r : Option Rel) → r ≡ rel_named tables views name → r ≡ None → None ≡ view_named views name
is_nothing tables views name r found is = by (table_named tables name) (view_named views name) (sym found ∙ is)
  where
    by : (a b : Option ℕ) → either a b ≡ None → None ≡ b
    by (Some t) b e = absurd cc
    by None (Some u) e = absurd cc
    by None None e = refl

pub is_table : (tables : List TableDef) (views : List ViewDef) (name : List ℕ) (r : Option Rel) (t : ℕ) → r ≡ rel_named tables views name → IsSchema tables views → r ≡ Some (Table t) → None ≡ view_named views name
is_table tables views name r t found sound is = by (table_named tables name) (view_named views name) refl refl (sym found ∙ is)
  where
    by : (a b : Option ℕ) → table_named tables name ≡ a → view_named views name ≡ b → either a b ≡ Some (Table t) → None ≡ b
    by None None is_a is_b e = refl
    by None (Some v) is_a is_b e = absurd cc
    by (Some u) None is_a is_b e = refl
    by (Some u) (Some v) is_a is_b e = absurd
        (let at = named_view views name v is_b in
        let free : has_name (view_at views v).name (map (λ (t : TableDef). t.name) tables) ≡ false = first_false _ _ (sound.each_view v at.0).free in
        let free_name : list_any (bytes_eq name) (map (λ (t : TableDef). t.name) tables) ≡ false = subst (λ (n : List ℕ). has_name n (map (λ (t : TableDef). t.name) tables) ≡ false) at.1 free in
        let there = position-Some (bytes_eq name) (map (λ (t : TableDef). t.name) tables) u [] is_a in
        let taken : list_any (bytes_eq name) (map (λ (t : TableDef). t.name) tables) ≡ true = list_any_at (bytes_eq name) (map (λ (t : TableDef). t.name) tables) u [] there.0 there.1 in
        cc)
