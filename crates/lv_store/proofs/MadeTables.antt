-- A table that is made in parts that stand for a world.
use Rattle.std.proofs.Common.{◌≡◌, ℕ, ◌+◌, ◌<◌, Bool, true, false, not, ◌&&◌, nat_lt, List, [], ◌∷◌, ◌++◌, length, Some, None, refl, sym, ap, ◌∙◌, subst, arith}
use Rattle.std.specs.Prelude.{◌==◌, ◌||◌}
use Rattle.std.specs.List.{list_all}
use Rattle.std.proofs.Math.Path.{subst₂}
use Rattle.std.proofs.lemmas.Bool.{and_parts}
use Rattle.std.proofs.lemmas.Bool.Decides.{nat_tests}
use Rattle.std.proofs.lemmas.List.{get_or_append_left, length_push}
use Rattle.lv_schema.specs.declared.rec.Rec.{Rec}
use Rattle.lv_schema.specs.declared.table.TableDef.{TableDef}
use Rattle.lv_schema.specs.declared.view.ViewDef.{ViewDef}
use Rattle.lv_schema.specs.Bound.{IsBoundTable}
use Rattle.lv_schema.specs.Cases.{Outcome, good, table_made}
use Rattle.lv_schema.specs.Cases as cases
use Rattle.lv_schema.specs.Catalog.{Catalog}
use Rattle.lv_schema.specs.Records.{table_record}
use Rattle.lv_schema.specs.WholeWorld.{world_after}
use Rattle.lv_schema.specs.World.{World, no_table, table_at, view_at}
use Rattle.lv_overlay.specs.declared.put.Put.{Put}
use Rattle.lv_overlay.specs.Puts.{row_stands, stands_under}
use Rattle.lv_txn.specs.Kept.{transaction_of}
use Rattle.lv_stands.specs.Kept.{EngineKept}
use Rattle.lv_stands.specs.Moves.{engine_with_table, table_new}
use Rattle.lv_stands.specs.Stands.{StandsFor}
use Rattle.lv_base.specs.Bases.{BaseRoom, base_of}
use Rattle.lv_store.specs.declared.store.Store.{Store}
use Rattle.lv_store.specs.Answering.{wrote}
use Rattle.lv_store.specs.Kept.{IsStore, Stands, StoreKept, is_used, kept, store_of}
use Rattle.lv_store.proofs.Standing.{all_both, any_journal, stands_in}

abbrev TableKeeps : Type 0
TableKeeps = (outcome : Rec → Outcome) (def : TableDef) (w : World) (e : EngineKept) → StandsFor w e → IsBoundTable w.visible.tables w.visible.views def → outcome (table_record def) ≡ good
    → StandsFor (world_after (table_made outcome def w.visible) w) (engine_with_table def e)

-- what is kept with one table more
abbrev pub with_table : TableDef → StoreKept → StoreKept
with_table def e = record e { tables = e.tables ++ def ∷ []; base = record e.base { tables = e.base.tables ++ table_new def ∷ [] } }

-- the world with the table, whose record was written
abbrev pub made_world : TableDef → World → World
made_world def w = wrote (table_record def) (cases.with_table def w.visible) w

table_case : TableKeeps → (def : TableDef) (e : StoreKept) → IsBoundTable e.tables e.views def → (w : World) → Stands w e → Stands (made_world def w) (with_table def e)
table_case keeps def e bound w is =
    let j = w.upkeep.journal in
    let here = subst₂ (λ (ts : List TableDef) (vs : List ViewDef). IsBoundTable ts vs def) is.tables_are is.views_are bound in
    any_journal (made_world def w) (engine_with_table def (kept j e)).journal (with_table def e) (keeps (λ r. good) def w (kept j e) is here refl)

-- ---- writes on tables that are in use stand as they did
all_weaker : {A : Type 0} (p q : A → Bool) → ((x : A) → p x ≡ true → q x ≡ true) → (xs : List A) → list_all p xs ≡ true → list_all q xs ≡ true
all_weaker p q h [] e = refl
all_weaker p q h (x ∷ xs) e = by (p x) refl e (all_weaker p q h xs)
  where
    by : (b : Bool) → p x ≡ b → (b && list_all p xs) ≡ true → (list_all p xs ≡ true → list_all q xs ≡ true) → (q x && list_all q xs) ≡ true
    by true f e rest = rw (h x f) (rest e)
    by false f e rest = cc

module _ (tables : List TableDef) (def : TableDef) where
  wide_used : (q : Put) → is_used tables q ≡ true → is_used (tables ++ def ∷ []) q ≡ true
  wide_used q used = later q.table (length tables) (length (tables ++ def ∷ [])) (length_push tables def) used
    where
      later : (t m n : ℕ) → n ≡ m + 1 → nat_lt t m ≡ true → nat_lt t n ≡ true
      later t m n e lt = grind (arith, nat_tests)

  wide_under : (n : ℕ) (q : Put) → is_used tables q ≡ true → stands_under (table_at tables n).key n q ≡ true → stands_under (table_at (tables ++ def ∷ []) n).key n q ≡ true
  wide_under n q used stand = by (n == q.table) refl stand
    where
      below : (t m : ℕ) → (n == t) ≡ true → nat_lt t m ≡ true → n < m
      below t m e lt = grind (arith, nat_tests)

      by : (b : Bool) → (n == q.table) ≡ b → (not b || row_stands (table_at tables n).key q.key q.row) ≡ true → (not b || row_stands (table_at (tables ++ def ∷ []) n).key q.key q.row) ≡ true
      by true e s = subst (λ (d : TableDef). row_stands d.key q.key q.row ≡ true) (sym (get_or_append_left tables (def ∷ []) no_table n (below q.table (length tables) e used))) s
      by false e s = refl

  wide_stands : (n : ℕ) (puts : List Put) → list_all (is_used tables) puts ≡ true → list_all (stands_under (table_at tables n).key n) puts ≡ true → list_all (stands_under (table_at (tables ++ def ∷ []) n).key n) puts ≡ true
  wide_stands n puts used stand =
      all_weaker (stands_in tables n) (stands_under (table_at (tables ++ def ∷ []) n).key n)
      (λ q e. let parts = and_parts (stands_under (table_at tables n).key n q) (is_used tables q) e in wide_under n q parts.1 parts.0)
      puts (all_both (stands_under (table_at tables n).key n) (is_used tables) puts stand used)

-- ---- the parts with one table more
module _ (p : Store) (def copied : TableDef) (named made : Catalog) (ready base : BaseRoom) (copied_is : copied ≡ def) (ready_is : ready ≡ record p.base { free = ready.free }) (named_is : named ≡ record p.schema { reserved = Some def.name })
    (base_is : base_of base ≡ record (base_of ready) { tables = (base_of ready).tables ++ table_new copied ∷ [] }) (made_is : made ≡ record named { tables = named.tables ++ def ∷ []; reserved = None }) where
  schema_is : made ≡ record p.schema { tables = p.schema.tables ++ def ∷ []; reserved = None }
  schema_is = made_is ∙ ap (λ (s : Catalog). record s { tables = s.tables ++ def ∷ []; reserved = None }) named_is

  store_is : store_of (record p { schema = made; base = base }) ≡ with_table def (store_of p)
  store_is =
      let base_now = base_is ∙ (λ i. record (base_of (ready_is i)) { tables = (base_of (ready_is i)).tables ++ table_new (copied_is i) ∷ [] }) in
      λ i. record (store_of p) { tables = (schema_is i).tables; views = (schema_is i).views; base = base_now i }

  module _ (keeps : TableKeeps) (whole : IsStore p) (bound : IsBoundTable p.schema.tables p.schema.views def) where
    pub table_stands : (w : World) → Stands w (store_of p) → Stands (made_world def w) (store_of (record p { schema = made; base = base }))
    table_stands w is = subst (Stands (made_world def w)) (sym store_is) (table_case keeps def (store_of p) bound w is)

    pub table_whole : IsStore (record p { schema = made; base = base })
    table_whole = record {
      combines = whole.combines;
      world = made_world def whole.world;
      stands = table_stands whole.world whole.stands;
      defs = λ v lt. whole.defs v lt ∙ ap (λ (s : Catalog). view_at s.views v) (sym schema_is);
      under = λ s n. subst (λ (c : Catalog). list_all (stands_under (table_at c.tables n).key n) (transaction_of p.txns s).puts ≡ true) (sym schema_is)
          (wide_stands p.schema.tables def n (transaction_of p.txns s).puts (whole.used s) (whole.under s n));
      used = λ s. subst (λ (c : Catalog). list_all (is_used c.tables) (transaction_of p.txns s).puts ≡ true) (sym schema_is)
          (all_weaker (is_used p.schema.tables) (is_used (p.schema.tables ++ def ∷ [])) (wide_used p.schema.tables def) (transaction_of p.txns s).puts (whole.used s));
    }
