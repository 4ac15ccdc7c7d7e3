-- Rows that pass a test, and what a query reads of one table or view.
use Rattle.std.proofs.Common.{◌≡◌, ℕ, Bool, true, false, not, cond, List, [], ◌∷◌, map, filter, refl, sym, ap, ◌∙◌, subst}
use Rattle.std.specs.Prelude.{IfOk, Result, if◌then◌else◌}
use Rattle.std.specs.List.{list_all}
use Rattle.std.proofs.lemmas.Result.{IfOk-weaker}
use Rattle.lv_values.specs.declared.memory.NoMemory.{NoMemory}
use Rattle.lv_values.specs.declared.value.Value.{Value}
use Rattle.lv_schema.specs.declared.query.Rel.{Rel}
use Rattle.lv_schema.specs.Groups.{view_rows_over}
use Rattle.lv_schema.specs.World.{view_at}
use Rattle.lv_txn.specs.Kept.{transaction_of}
use Rattle.lv_viewrows.specs.Kept.{ViewKept, shown}
use Rattle.lv_store.specs.declared.store.Store.{Store}
use Rattle.lv_store.specs.Querying.{has_written, own_rows_in, view_rows_in}
use Rattle.lv_store.specs.Kept.{rows_in}
use Rattle.lv_store.proofs.Views.{both}

pub all_pass : {X : Type 0} (xs : List X) → filter (λ _. true) xs ≡ xs
all_pass [] = refl
all_pass (x ∷ xs) = ap (λ l. x ∷ l) (all_pass xs)

pub pass_twice : {X : Type 0} (p : X → Bool) (xs : List X) → filter p (filter p xs) ≡ filter p xs
pass_twice p [] = refl
pass_twice p (x ∷ xs) = by (p x) refl (pass_twice p xs)
  where
    by : (b : Bool) → p x ≡ b → filter p (filter p xs) ≡ filter p xs → filter p (cond b (x ∷ filter p xs) (filter p xs)) ≡ cond b (x ∷ filter p xs) (filter p xs)
    by true e more = ap (λ (b : Bool). cond b (x ∷ filter p (filter p xs)) (filter p (filter p xs))) e ∙ ap (λ l. x ∷ l) more
    by false e more = more

module _ (p : Store) (session v : ℕ) (last : List ViewKept) (test : List Value → Bool) (r : Result (List (List Value)) NoMemory) where
  abbrev pub by_definition : List (List Value)
  by_definition = view_rows_over (view_at p.schema.views v) (map (own_rows_in p session) (view_at p.schema.views v).tables)

  abbrev pub kept : List (List Value)
  kept = shown (transaction_of p.txns session).snapshot (rows_in last v)

  rows_are : (b : Bool) → has_written p session v ≡ b → view_rows_in p session last v ≡ (if b then by_definition else kept)
  rows_are b e = ap (λ (t : Bool). if t then by_definition else kept) e

  pub written_pass : has_written p session v ≡ true → IfOk r (λ rows. rows ≡ by_definition) → IfOk r (λ rows. filter test rows ≡ filter test (view_rows_in p session last v))
  written_pass e h =
      IfOk-weaker r (λ (rows : List (List Value)). rows ≡ by_definition) (λ (rows : List (List Value)). filter test rows ≡ filter test (view_rows_in p session last v))
      (λ (rows : List (List Value)) is. ap (filter test) (is ∙ sym (rows_are true e))) h

  pub kept_pass : has_written p session v ≡ false → IfOk r (λ rows. rows ≡ filter test kept) → IfOk r (λ rows. filter test rows ≡ filter test (view_rows_in p session last v))
  kept_pass e h =
      IfOk-weaker r (λ (rows : List (List Value)). rows ≡ filter test kept) (λ (rows : List (List Value)). filter test rows ≡ filter test (view_rows_in p session last v))
      (λ (rows : List (List Value)) is. ap (filter test) is ∙ pass_twice test kept ∙ ap (filter test) (sym (rows_are false e))) h

  pub each_passes : IfOk r (λ rows. filter (λ _. true) rows ≡ filter (λ _. true) (view_rows_in p session last v)) → IfOk r (λ rows. rows ≡ view_rows_in p session last v)
  each_passes h =
      IfOk-weaker r (λ (rows : List (List Value)). filter (λ _. true) rows ≡ filter (λ _. true) (view_rows_in p session last v)) (λ (rows : List (List Value)). rows ≡ view_rows_in p session last v)
      (λ (rows : List (List Value)) is. sym (all_pass rows) ∙ is ∙ all_pass (view_rows_in p session last v)) h

pub not_written : (b : Bool) → not b ≡ true → b ≡ false
not_written false e = refl
not_written true e = cc

pub only_one : (test : Rel → Bool) (rels : List Rel) (rel : Rel) → rels ≡ rel ∷ [] → list_all test rels ≡ true → test rel ≡ true
only_one test rels rel is all = (both (test rel) (list_all test []) (subst (λ l. list_all test l ≡ true) is all)).0
