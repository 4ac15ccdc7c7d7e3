-- A schema stays sound when a bound table or view is added to it.
use Rattle.std.proofs.Common.{◌≡◌, ◌<◌, ◌≤◌, ◌+◌, ℕ, suc, zero, Bool, true, false, cond, not, List, [], ◌∷◌, ◌++◌, map, length, take, Option, Some, None, refl, sym, ap, ◌∙◌, subst, arith, ◌||◌, nat_lt, ⊎_elim}
use Rattle.std.specs.List.{position, position_from, list_all, flat_map, enumerate_from}
use Rattle.std.specs.Str.{bytes_eq}
use Rattle.std.proofs.lemmas.Bool.{and_parts, cases_lt}
use Rattle.std.proofs.lemmas.Bool.Decides.{nat_tests}
use Rattle.std.proofs.lemmas.Iterator.Adapters.{position_from-zero}
use Rattle.std.proofs.lemmas.List.{map-append, length-append, get_or_append_left, get_or_at, take-append-le, take_at}
use Rattle.std.proofs.lemmas.List.Folds.{list_any-append}
use Rattle.std.proofs.lemmas.Slice.Eq.{bytes_eq-Decides}
use Rattle.indexmap.specs.IndexMap.{insert_entry}
use Rattle.lv_values.specs.Names.{has_name}
use Rattle.lv_schema.specs.declared.cond.Col.{Col}
use Rattle.lv_schema.specs.declared.table.TableDef.{TableDef}
use Rattle.lv_schema.specs.declared.view.Item.{Item}
use Rattle.lv_schema.specs.declared.view.ViewDef.{ViewDef}
use Rattle.lv_schema.specs.Bound.{IsBoundTable, IsBoundView, IsProfile, alias_columns, are_among, keeps_key, key_cols, all_key_cols}
use Rattle.lv_schema.specs.Catalog.{Catalog}
use Rattle.lv_schema.specs.JoinViews.{plain_columns}
use Rattle.lv_schema.specs.Names.{is_free}
use Rattle.lv_schema.specs.Sound.{IsSchema}
use Rattle.lv_schema.specs.World.{table_at, view_at, no_table, no_view}

-- an entry under a new name goes last
module _ {V : Type 0} (name : List ℕ) (v : V) where
  entry_last : (n : ℕ) (es : List (List ℕ × V)) → position_from (bytes_eq name) n (map (λ e. e.0) es) ≡ None → insert_entry bytes_eq es name v ≡ es ++ (name, v) ∷ []
  entry_last n [] h = refl
  entry_last n (e ∷ es) h = by (bytes_eq name e.0) h (entry_last (n + 1) es)
    where
      by : (b : Bool) → cond b (Some n) (position_from (bytes_eq name) (n + 1) (map (λ e. e.0) es)) ≡ None
          → (position_from (bytes_eq name) (n + 1) (map (λ e. e.0) es) ≡ None → insert_entry bytes_eq es name v ≡ es ++ (name, v) ∷ [])
          → cond b ((e.0, v) ∷ es) (e ∷ insert_entry bytes_eq es name v) ≡ e ∷ (es ++ (name, v) ∷ [])
      by true g r = cc
      by false g r = ap (λ l. e ∷ l) (r g)

  last_entry : (es new : List (List ℕ × V)) → new ≡ insert_entry bytes_eq es name v → position (bytes_eq name) (map (λ e. e.0) es) ≡ None → new ≡ es ++ (name, v) ∷ []
  last_entry es new h none = h ∙ entry_last 0 es (sym (position_from-zero (bytes_eq name) (map (λ e. e.0) es)) ∙ none)

  pub last_key : (es new : List (List ℕ × V)) → new ≡ insert_entry bytes_eq es name v → position (bytes_eq name) (map (λ e. e.0) es) ≡ None → map (λ e. e.0) new ≡ map (λ e. e.0) es ++ name ∷ []
  last_key es new h none = ap (map (λ (e : List ℕ × V). e.0)) (last_entry es new h none) ∙ map-append (λ (e : List ℕ × V). e.0) es ((name, v) ∷ [])

  pub last_value : (es new : List (List ℕ × V)) → new ≡ insert_entry bytes_eq es name v → position (bytes_eq name) (map (λ e. e.0) es) ≡ None → map (λ e. e.1) new ≡ map (λ e. e.1) es ++ v ∷ []
  last_value es new h none = ap (map (λ (e : List ℕ × V). e.1)) (last_entry es new h none) ∙ map-append (λ (e : List ℕ × V). e.1) es ((name, v) ∷ [])

not_true : (b : Bool) → not b ≡ true → b ≡ false
not_true true h = cc
not_true false h = refl

eq_other : (a b : List ℕ) → bytes_eq a b ≡ false → bytes_eq b a ≡ false
eq_other a b h = by (bytes_eq b a) refl
  where
    by : (t : Bool) → bytes_eq b a ≡ t → t ≡ false
    by false e = refl
    by true e =
        let same : b ≡ a = (bytes_eq-Decides b a).0 e in
        let yes_it_is : bytes_eq a b ≡ true = (bytes_eq-Decides a b).1 (sym same) in
        let clash : true ≡ false = sym yes_it_is ∙ h in
        cc

-- a name that none of them has is that of no view
no_name : (name : List ℕ) (views : List ViewDef) (v : ℕ) → has_name name (map (λ w. w.name) views) ≡ false → v < length views → bytes_eq name (view_at views v).name ≡ false
no_name name [] v h lt = absurd (omega arith)
no_name name (w ∷ views) zero h lt = by (bytes_eq name w.name) h
  where
    by : (b : Bool) → (b || has_name name (map (λ u. u.name) views)) ≡ false → b ≡ false
    by true g = cc
    by false g = refl
no_name name (w ∷ views) (suc v) h lt = by (bytes_eq name w.name) h (no_name name views v)
  where
    by : (b : Bool) → (b || has_name name (map (λ u. u.name) views)) ≡ false → (has_name name (map (λ u. u.name) views) ≡ false → v < length views → bytes_eq name (view_at views v).name ≡ false)
        → bytes_eq name (view_at views v).name ≡ false
    by true g r = cc
    by false g r = r g (omega arith)

-- tables in use are in use still, and are the same, where there is one more
module _ (tables : List TableDef) (def : TableDef) where
  below_more_tables : (n : ℕ) → nat_lt n (length tables) ≡ true → nat_lt n (length (tables ++ def ∷ [])) ≡ true
  below_more_tables n h = grind (arith, nat_tests, length-append)

  same_table : (n : ℕ) → nat_lt n (length tables) ≡ true → table_at (tables ++ def ∷ []) n ≡ table_at tables n
  same_table n h = get_or_append_left tables (def ∷ []) no_table n (grind (arith, nat_tests))

  used_still : (numbers : List ℕ) → list_all (λ t. nat_lt t (length tables)) numbers ≡ true → list_all (λ t. nat_lt t (length (tables ++ def ∷ []))) numbers ≡ true
  used_still [] h = refl
  used_still (n ∷ ns) h =
      let parts = and_parts _ _ h in
      let here = below_more_tables n parts.0 in
      let rest = used_still ns parts.1 in
      rw (here, rest) refl

  same_columns : (numbers : List ℕ) → list_all (λ t. nat_lt t (length tables)) numbers ≡ true → alias_columns (tables ++ def ∷ []) numbers ≡ alias_columns tables numbers
  same_columns [] h = refl
  same_columns (n ∷ ns) h =
      let parts = and_parts _ _ h in
      let here = same_table n parts.0 in
      let rest = same_columns ns parts.1 in
      rw (here, rest) refl

  same_keys : (alias : ℕ) (numbers : List ℕ) → list_all (λ t. nat_lt t (length tables)) numbers ≡ true
      → flat_map (key_cols (tables ++ def ∷ [])) (enumerate_from alias numbers) ≡ flat_map (key_cols tables) (enumerate_from alias numbers)
  same_keys alias [] h = refl
  same_keys alias (n ∷ ns) h =
      let parts = and_parts _ _ h in
      let here = same_table n parts.0 in
      let rest = same_keys (alias + 1) ns parts.1 in
      rw (here, rest) refl

  keys_still : (numbers : List ℕ) (items : List Item) (groups : List Col) → list_all (λ t. nat_lt t (length tables)) numbers ≡ true → keeps_key (tables ++ def ∷ []) numbers items groups ≡ keeps_key tables numbers items groups
  keys_still numbers items [] used = ap (λ keys. are_among keys (plain_columns items)) (same_keys 0 numbers used)
  keys_still numbers items (g ∷ groups) used = refl

  profile_still : (view : ViewDef) → list_all (λ t. nat_lt t (length tables)) view.tables ≡ true → IsProfile tables view → IsProfile (tables ++ def ∷ []) view
  profile_still view used h = record { grouped = h.grouped; keeps = rw (keys_still view.tables view.items view.groups used) h.keeps }

  -- a name that is free of the tables and is not the new table's
  free_still : (views : List ViewDef) (name : List ℕ) → is_free tables views name ≡ true → bytes_eq name def.name ≡ false → is_free (tables ++ def ∷ []) views name ≡ true
  free_still views name h e =
      let parts = and_parts _ _ h in
      let none : has_name name (map (λ t. t.name) tables) ≡ false = not_true _ parts.0 in
      rw (map-append (λ (t : TableDef). t.name) tables (def ∷ []), list_any-append (bytes_eq name) (map (λ t. t.name) tables) (def.name ∷ []), none, e, parts.1) refl

  view_still : (views : List ViewDef) (view : ViewDef) → IsBoundView tables views view → bytes_eq view.name def.name ≡ false → IsBoundView (tables ++ def ∷ []) views view
  view_still views view was other =
      let columns : alias_columns (tables ++ def ∷ []) view.tables ≡ alias_columns tables view.tables = same_columns view.tables was.in_use in
      record {
        next = was.next;
        room = was.room;
        named = was.named;
        free = free_still views view.name was.free other;
        some_aliases = was.some_aliases;
        few_aliases = was.few_aliases;
        in_use = used_still view.tables was.in_use;
        bound_cond = rw columns was.bound_cond;
        kept_cond = was.kept_cond;
        some_items = was.some_items;
        few_items = was.few_items;
        items_named = was.items_named;
        items_apart = was.items_apart;
        plain_in_range = rw columns was.plain_in_range;
        sums_are_ints = rw columns was.sums_are_ints;
        groups_in_range = rw columns was.groups_in_range;
        few_groups = was.few_groups;
        profile = profile_still view was.in_use was.profile;
      }

module _ (tables : List TableDef) (views : List ViewDef) (sound : IsSchema tables views) where
  module _ (def : TableDef) (bound : IsBoundTable tables views def) where
    free_alone : is_free tables [] def.name ≡ true
    free_alone =
        let none : not (has_name def.name (map (λ t. t.name) tables)) ≡ true = (and_parts _ _ bound.free).0 in
        rw none refl

    new_table : IsBoundTable tables [] def
    new_table = record {
      next = bound.next;
      room = bound.room;
      named = bound.named;
      free = free_alone;
      some_columns = bound.some_columns;
      few_columns = bound.few_columns;
      columns_named = bound.columns_named;
      columns_apart = bound.columns_apart;
      kinds = bound.kinds;
      some_key = bound.some_key;
      key_apart = bound.key_apart;
      key_in_range = bound.key_in_range;
    }

    each_table : (t : ℕ) → t < length (tables ++ def ∷ []) → IsBoundTable (take t (tables ++ def ∷ [])) [] (table_at (tables ++ def ∷ []) t)
    each_table t h = ⊎_elim old new (cases_lt t (length tables))
      where
        old : t < length tables → IsBoundTable (take t (tables ++ def ∷ [])) [] (table_at (tables ++ def ∷ []) t)
        old lt =
            let before : take t (tables ++ def ∷ []) ≡ take t tables = take-append-le t tables (def ∷ []) (omega arith) in
            let same : table_at (tables ++ def ∷ []) t ≡ table_at tables t = get_or_append_left tables (def ∷ []) no_table t lt in
            rw (before, same) (sound.each_table t lt)

        new : length tables ≤ t → IsBoundTable (take t (tables ++ def ∷ [])) [] (table_at (tables ++ def ∷ []) t)
        new le =
            let at : length tables ≡ t = omega (arith, length-append tables (def ∷ [])) in
            let before : take t (tables ++ def ∷ []) ≡ tables = take_at tables (def ∷ []) t at in
            let same : table_at (tables ++ def ∷ []) t ≡ def = get_or_at tables def [] no_table t at in
            rw (before, same) new_table

    each_view : (v : ℕ) → v < length views → IsBoundView (tables ++ def ∷ []) (take v views) (view_at views v)
    each_view v lt =
        let other = eq_other def.name (view_at views v).name (no_name def.name views v (not_true _ (and_parts _ _ bound.free).1) lt) in
        view_still tables def (take v views) (view_at views v) (sound.each_view v lt) other

    pub with_table : IsSchema (tables ++ def ∷ []) views
    with_table = record { each_table = each_table; each_view = each_view }

  module _ (def : ViewDef) (bound : IsBoundView tables views def) where
    each_view_still : (v : ℕ) → v < length (views ++ def ∷ []) → IsBoundView tables (take v (views ++ def ∷ [])) (view_at (views ++ def ∷ []) v)
    each_view_still v h = ⊎_elim old new (cases_lt v (length views))
      where
        old : v < length views → IsBoundView tables (take v (views ++ def ∷ [])) (view_at (views ++ def ∷ []) v)
        old lt =
            let before : take v (views ++ def ∷ []) ≡ take v views = take-append-le v views (def ∷ []) (omega arith) in
            let same : view_at (views ++ def ∷ []) v ≡ view_at views v = get_or_append_left views (def ∷ []) no_view v lt in
            rw (before, same) (sound.each_view v lt)

        new : length views ≤ v → IsBoundView tables (take v (views ++ def ∷ [])) (view_at (views ++ def ∷ []) v)
        new le =
            let at : length views ≡ v = omega (arith, length-append views (def ∷ [])) in
            let before : take v (views ++ def ∷ []) ≡ views = take_at views (def ∷ []) v at in
            let same : view_at (views ++ def ∷ []) v ≡ def = get_or_at views def [] no_view v at in
            rw (before, same) bound

    pub with_view : IsSchema tables (views ++ def ∷ [])
    with_view = record { each_table = sound.each_table; each_view = each_view_still }

-- the keys are still the names, where an entry went last under the name of its value
pub keys_named : {D : Type 0} (f : D → List ℕ) (keys new_keys : List (List ℕ)) (defs new_defs : List D) (name : List ℕ) (def : D)
    → keys ≡ map f defs → new_keys ≡ keys ++ name ∷ [] → new_defs ≡ defs ++ def ∷ [] → name ≡ f def → new_keys ≡ map f new_defs
keys_named f keys new_keys defs new_defs name def was k d n = rw (k, d, was, n) (sym (map-append f defs (def ∷ [])))

-- a name that nothing has is no key
no_place_from : (n : ℕ) (name : List ℕ) (names : List (List ℕ)) → has_name name names ≡ false → position_from (bytes_eq name) n names ≡ None
no_place_from n name [] h = refl
no_place_from n name (x ∷ names) h = by (bytes_eq name x) h (no_place_from (n + 1) name names)
  where
    by : (b : Bool) → (b || has_name name names) ≡ false → (has_name name names ≡ false → position_from (bytes_eq name) (n + 1) names ≡ None) → cond b (Some n) (position_from (bytes_eq name) (n + 1) names) ≡ None
    by true g r = cc
    by false g r = r g

no_place : (name : List ℕ) (names : List (List ℕ)) → has_name name names ≡ false → position (bytes_eq name) names ≡ None
no_place name names h = position_from-zero (bytes_eq name) names ∙ no_place_from 0 name names h

-- the name that is taken is the reserved one
pub taken_name : (taken inside reserved : Option (List ℕ)) (name wanted : List ℕ) → taken ≡ Some name → taken ≡ inside → inside ≡ reserved → reserved ≡ Some wanted → name ≡ wanted
taken_name taken inside reserved name wanted a b c d = cc

module _ (was : Catalog) (tables : List TableDef) (views : List ViewDef) (reserved : Option (List ℕ)) (same : record { tables = tables; views = views; reserved = reserved } ≡ was) (sound : IsSchema tables views) where
  pub no_table_key : (def : TableDef) (name : List ℕ) (keys : List (List ℕ)) → is_free was.tables was.views def.name ≡ true → keys ≡ map (λ (t : TableDef). t.name) tables → name ≡ def.name → position (bytes_eq name) keys ≡ None
  no_table_key def name keys free k n =
      let none = not_true _ (and_parts _ _ (subst (λ w. is_free w.tables w.views def.name ≡ true) (sym same) free)).0 in
      rw (k, n) (no_place def.name (map (λ t. t.name) tables) none)

  pub no_view_key : (def : ViewDef) (name : List ℕ) (keys : List (List ℕ)) → is_free was.tables was.views def.name ≡ true → keys ≡ map (λ (v : ViewDef). v.name) views → name ≡ def.name → position (bytes_eq name) keys ≡ None
  no_view_key def name keys free k n =
      let none = not_true _ (and_parts _ _ (subst (λ w. is_free w.tables w.views def.name ≡ true) (sym same) free)).1 in
      rw (k, n) (no_place def.name (map (λ v. v.name) views) none)

  pub sound_with_table : (def : TableDef) (new : List TableDef) → IsBoundTable was.tables was.views def → new ≡ tables ++ def ∷ [] → IsSchema new views
  sound_with_table def new bound n =
      rw n (with_table tables views sound def (subst (λ w. IsBoundTable w.tables w.views def) (sym same) bound))

  pub sound_with_view : (def : ViewDef) (new : List ViewDef) → IsBoundView was.tables was.views def → new ≡ views ++ def ∷ [] → IsSchema tables new
  sound_with_view def new bound n =
      rw n (with_view tables views sound def (subst (λ w. IsBoundView w.tables w.views def) (sym same) bound))
