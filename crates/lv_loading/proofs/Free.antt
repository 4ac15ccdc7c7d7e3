-- A name is free where it stands for nothing.
use Rattle.std.proofs.Common.{◌≡◌, ℕ, ◌+◌, Bool, true, false, cond, not, ◌&&◌, ◌||◌, List, [], ◌∷◌, map, Option, Some, None, refl, ap, ap₂, ◌∙◌}
use Rattle.std.specs.Prelude.{is_some, is_none, position, option_map}
use Rattle.std.specs.List.{position_from}
use Rattle.std.specs.Option.{option_or}
use Rattle.std.specs.Str.{bytes_eq}
use Rattle.std.proofs.lemmas.Iterator.Adapters.{position_from-zero}
use Rattle.lv_values.specs.Names.{has_name}
use Rattle.lv_schema.specs.declared.query.Rel.{Rel}
use Rattle.lv_schema.specs.declared.query.Rel.TheVariants.{Table, View}
use Rattle.lv_schema.specs.declared.table.TableDef.{TableDef}
use Rattle.lv_schema.specs.declared.view.ViewDef.{ViewDef}
use Rattle.lv_schema.specs.Catalog.{rel_named, table_named, view_named}
use Rattle.lv_schema.specs.Names.{is_free}

none_from : (n : ℕ) (name : List ℕ) (names : List (List ℕ)) → is_none (position_from (bytes_eq name) n names) ≡ not (has_name name names)
none_from n name [] = refl
none_from n name (x ∷ names) = by (bytes_eq name x) (none_from (n + 1) name names)
  where
    by : (b : Bool) → is_none (position_from (bytes_eq name) (n + 1) names) ≡ not (has_name name names)
        → is_none (cond b (Some n) (position_from (bytes_eq name) (n + 1) names)) ≡ not (b || has_name name names)
    by true ih = refl
    by false ih = ih

none_of : (name : List ℕ) (names : List (List ℕ)) → is_none (position (bytes_eq name) names) ≡ not (has_name name names)
none_of name names = ap is_none (position_from-zero (bytes_eq name) names) ∙ none_from 0 name names

both_none : (a b : Option ℕ) → is_none (option_or (option_map Table a) (option_map View b)) ≡ (is_none a && is_none b)
both_none None None = refl
both_none None (Some v) = refl
both_none (Some t) b = refl

free_is : (tables : List TableDef) (views : List ViewDef) (name : List ℕ) → is_none (rel_named tables views name) ≡ is_free tables views name
free_is tables views name =
    both_none (table_named tables name) (view_named views name)
    ∙ ap₂ (λ a b. a && b) (none_of name (map (λ (t : TableDef). t.name) tables)) (none_of name (map (λ (v : ViewDef). v.name) views))

not_not : (b : Bool) → b ≡ not (not b)
not_not true = refl
not_not false = refl

none_some : {X : Type 0} (o : Option X) → not (is_some o) ≡ is_none o
none_some None = refl
none_some (Some x) = refl

pub free_told : (tables : List TableDef) (views : List ViewDef) (name : List ℕ) (b : Bool) (o : Option Rel) → not b ≡ is_some o → o ≡ rel_named tables views name → b ≡ is_free tables views name
free_told tables views name b o e f = not_not b ∙ ap not e ∙ none_some o ∙ ap is_none f ∙ free_is tables views name
