-- Store that stand for a world.
use Rattle.std.proofs.Common.{◌≡◌, ℕ, zero, suc, ◌<◌, Bool, true, false, ◌&&◌, List, [], ◌∷◌, length, Option, Some, None, Ok, refl, sym, ap, ◌∙◌, subst, arith}
use Rattle.std.specs.Prelude.{is_some, slice_index_or, slice_set, unwrap_or}
use Rattle.std.specs.List.{list_all}
use Rattle.lv_schema.specs.declared.table.TableDef.{TableDef}
use Rattle.lv_schema.specs.Cases.{began, rolled_back}
use Rattle.lv_schema.specs.WholeWorld.{world_after}
use Rattle.lv_schema.specs.World.{World, table_at}
use Rattle.lv_overlay.specs.declared.put.Put.{Put}
use Rattle.lv_overlay.specs.Puts.{StandUnder, stands_under}
use Rattle.lv_stands.specs.Kept.{EngineKept}
use Rattle.lv_stands.specs.Moves.{engine_began, engine_rolled_back}
use Rattle.lv_stands.specs.Stands.{StandsFor}
use Rattle.lv_txn.specs.Kept.{IsLive, TransactionKept, begun, transaction_at, transaction_of}
use Rattle.lv_store.specs.declared.store.Store.{Store}
use Rattle.lv_store.specs.Kept.{StoreKept, Stands, IsStore, is_used, kept, store_of}

-- the journal's length is the world's
pub any_journal : (w : World) (j : ℕ) (e : StoreKept) → StandsFor w (kept j e) → Stands w e
any_journal w j e is = subst (λ i. StandsFor w (kept i e)) is.journal_is is

-- the transaction of a session that is live
pub live_at : (sessions : List (Option TransactionKept)) (session : ℕ) → IsLive sessions session → transaction_at sessions session ≡ Some (transaction_of sessions session)
live_at sessions session live = by (transaction_at sessions session) live
  where
    by : (x : Option TransactionKept) → is_some x ≡ true → x ≡ Some (unwrap_or x (begun 0))
    by None e = cc
    by (Some k) e = refl

-- what a list has at a place that was set
pub set_there : {A : Type 0} (d x : A) (xs : List A) (k : ℕ) → k < length xs → slice_index_or (slice_set xs k x) k d ≡ x
set_there d x [] k lt = absurd (omega (arith, lt))
set_there d x (y ∷ xs) zero lt = refl
set_there d x (y ∷ xs) (suc k) lt = set_there d x xs k (omega (arith, lt))

-- what holds of each transaction holds of each where one is set
pub each_set : (P : Option TransactionKept → Type 0) (x : Option TransactionKept) (xs : List (Option TransactionKept)) (s : ℕ) → P x → ((k : ℕ) → P (slice_index_or xs k None)) → (k : ℕ) → P (slice_index_or (slice_set xs s x) k None)
each_set P x [] s here all k = all k
each_set P x (y ∷ xs) zero here all zero = here
each_set P x (y ∷ xs) zero here all (suc k) = all (suc k)
each_set P x (y ∷ xs) (suc s) here all zero = all zero
each_set P x (y ∷ xs) (suc s) here all (suc k) = each_set P x xs s here (λ i. all (suc i)) k

-- two tests of each element, and both at once
pub all_both : {A : Type 0} (p q : A → Bool) (xs : List A) → list_all p xs ≡ true → list_all q xs ≡ true → list_all (λ x. p x && q x) xs ≡ true
all_both p q [] e f = refl
all_both p q (x ∷ xs) e f = by (p x) (q x) e f (all_both p q xs)
  where
    by : (a b : Bool) → (a && list_all p xs) ≡ true → (b && list_all q xs) ≡ true → (list_all p xs ≡ true → list_all q xs ≡ true → list_all (λ x. p x && q x) xs ≡ true) → ((a && b) && list_all (λ x. p x && q x) xs) ≡ true
    by true true e f rest = rest e f
    by true false e f rest = cc
    by false b e f rest = cc

pub both_all : {A : Type 0} (p q : A → Bool) (xs : List A) → list_all (λ x. p x && q x) xs ≡ true → (list_all p xs ≡ true) × (list_all q xs ≡ true)
both_all p q [] e = (refl, refl)
both_all p q (x ∷ xs) e = by (p x) (q x) e (both_all p q xs)
  where
    by : (a b : Bool) → ((a && b) && list_all (λ x. p x && q x) xs) ≡ true → (list_all (λ x. p x && q x) xs ≡ true → (list_all p xs ≡ true) × (list_all q xs ≡ true)) → ((a && list_all p xs) ≡ true) × ((b && list_all q xs) ≡ true)
    by true true e rest = rest e
    by true false e rest = cc
    by false b e rest = cc

-- whether a write, if it is on the table, stands under its key, and is on a table that is in use
abbrev pub stands_in : List TableDef → ℕ → Put → Bool
stands_in tables n q = stands_under (table_at tables n).key n q && is_used tables q

-- with other transactions, whose writes stand so, in a world that they stand for
pub with_transactions : (p : Store) (t : List (Option TransactionKept)) (session : ℕ) (x : Option TransactionKept) → IsStore p → t ≡ slice_set p.txns session x
    → ((n : ℕ) → list_all (stands_in p.schema.tables n) (unwrap_or x (begun 0)).puts ≡ true)
    → (w : World) → Stands w (store_of (record p { txns = t })) → IsStore (record p { txns = t })
with_transactions p t session x whole set stand w is = record {
  combines = whole.combines;
  world = w;
  stands = is;
  defs = whole.defs;
  under = λ k n. subst (λ ts. StandUnder (table_at p.schema.tables n).key n (transaction_of ts k).puts) (sym set)
      (each_set (λ o. StandUnder (table_at p.schema.tables n).key n (unwrap_or o (begun 0)).puts) x p.txns session
      (both_all (stands_under (table_at p.schema.tables n).key n) (is_used p.schema.tables) (unwrap_or x (begun 0)).puts (stand n)).0 (λ i. whole.under i n) k);
  used = λ k. subst (λ ts. list_all (is_used p.schema.tables) (transaction_of ts k).puts ≡ true) (sym set)
      (each_set (λ o. list_all (is_used p.schema.tables) (unwrap_or o (begun 0)).puts ≡ true) x p.txns session
      (both_all (stands_under (table_at p.schema.tables 0).key 0) (is_used p.schema.tables) (unwrap_or x (begun 0)).puts (stand 0)).1 whole.used k);
}

-- ---- transactions that come and go
abbrev BeginKeeps : Type 0
BeginKeeps = (session : ℕ) (w : World) (e : EngineKept) → StandsFor w e → StandsFor (world_after (began session w.visible) w) (engine_began session e)

abbrev RollbackKeeps : Type 0
RollbackKeeps = (session : ℕ) (w : World) (e : EngineKept) → StandsFor w e → StandsFor (world_after (rolled_back session w.visible) w) (engine_rolled_back session e)

pub begun_stands : BeginKeeps → (p : Store) (t : List (Option TransactionKept)) (session n : ℕ) → t ≡ slice_set p.txns session (Some (begun n)) → n ≡ p.base.number
    → (w : World) → Stands w (store_of p) → (Ok n ≡ (began session w.visible).answer) × Stands (world_after (began session w.visible) w) (store_of (record p { txns = t }))
begun_stands keeps p t session n set number w is = (
  ap Ok (number ∙ is.base_stands.number_is),
  subst (λ x. Stands (world_after (began session w.visible) w) (store_of (record p { txns = x })))
      (sym (set ∙ ap (λ k. slice_set p.txns session (Some (begun k))) number))
      (keeps session w (kept w.upkeep.journal (store_of p)) is),
)

pub begun_live : (p : Store) (t : List (Option TransactionKept)) (session n : ℕ) → t ≡ slice_set p.txns session (Some (begun n)) → n ≡ p.base.number → length p.txns ≡ 17 → session < 17
    → transaction_at t session ≡ Some (begun p.base.number)
begun_live p t session n set number all lt =
    ap (λ x. transaction_at x session) (set ∙ ap (λ k. slice_set p.txns session (Some (begun k))) number)
    ∙ set_there None (Some (begun p.base.number)) p.txns session (omega (arith, lt, all))

pub ended_stands : RollbackKeeps → (p : Store) (t : List (Option TransactionKept)) (session : ℕ) → t ≡ slice_set p.txns session None
    → (w : World) → Stands w (store_of p) → Stands (world_after (rolled_back session w.visible) w) (store_of (record p { txns = t }))
ended_stands keeps p t session set w is =
    subst (λ x. Stands (world_after (rolled_back session w.visible) w) (store_of (record p { txns = x }))) (sym set) (keeps session w (kept w.upkeep.journal (store_of p)) is)

pub ended_free : (p : Store) (t : List (Option TransactionKept)) (session : ℕ) → t ≡ slice_set p.txns session None → length p.txns ≡ 17 → session < 17 → transaction_at t session ≡ None
ended_free p t session set all lt = ap (λ x. transaction_at x session) set ∙ set_there None None p.txns session (omega (arith, lt, all))
