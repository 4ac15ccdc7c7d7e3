-- What is kept once the records are read: nobody is live, and it stands for the world that they make.
use Rattle.std.proofs.Common.{◌≡◌, ℕ, zero, suc, ◌<◌, true, List, [], length, Option, None, refl, sym, ap, ◌∙◌, subst}
use Rattle.std.specs.Prelude.{replicate}
use Rattle.std.specs.List.{list_all}
use Rattle.lv_schema.specs.World.{World, table_at, view_at}
use Rattle.lv_overlay.specs.declared.put.Put.{Put}
use Rattle.lv_overlay.specs.Puts.{StandUnder}
use Rattle.lv_replay.specs.Runs.{IsStopped}
use Rattle.lv_stands.specs.Kept.{EngineKept}
use Rattle.lv_stands.specs.Stands.{StandsFor}
use Rattle.lv_txn.specs.Kept.{TransactionKept, transaction_of}
use Rattle.lv_store.specs.declared.store.Store.{Store}
use Rattle.lv_store.specs.Kept.{IsStore, Stands, is_used, kept, rows_in, store_of}
use Rattle.lv_engine.specs.Fresh.{IsFresh}
use Rattle.lv_recover.specs.Reopened.{IsFreshAt}

abbrev nobody : List (Option TransactionKept)
nobody = replicate 17 None

-- a session of nobody wrote nothing
wrote_nothing : (P : List Put → Type 0) → P [] → (n s : ℕ) → P (transaction_of (replicate n None) s).puts
wrote_nothing P is zero s = is
wrote_nothing P is (suc n) zero = is
wrote_nothing P is (suc n) (suc s) = wrote_nothing P is n s

-- what stands for a world that a stop leaves as it is, with nobody live, is fresh
fresh_of : (w : World) (e : EngineKept) → StandsFor w e → IsStopped w → e.sessions ≡ nobody → IsFresh e
fresh_of w e is stopped none = record {
  nobody = none;
  unclaimed = is.upkeep_stands.claims_are ∙ ap (λ (x : World). x.upkeep.claims) (sym stopped);
  whole = is.base_stands.pruned_is ∙ ap (λ (x : World). x.upkeep.pruned) (sym stopped);
  marked = is.upkeep_stands.points_are ∙ ap (λ (x : World). x.upkeep.points) (sym stopped) ∙ sym is.upkeep_stands.marks_are;
}

module _ (w : World) (p : Store) (none : p.txns ≡ nobody) where
  -- with nobody in place of its transactions it stands
  pub stands_with : StandsFor w (record (kept w.upkeep.journal (store_of p)) { sessions = nobody }) → Stands w (store_of p)
  stands_with is = subst (λ (ts : List (Option TransactionKept)). StandsFor w (record (kept w.upkeep.journal (store_of p)) { sessions = ts })) (sym none) is

  pub fresh_with : Stands w (store_of p) → IsStopped w → IsFreshAt (store_of p)
  fresh_with is stopped = λ journal.
      let fresh = fresh_of w (kept w.upkeep.journal (store_of p)) is stopped none in
      record { nobody = fresh.nobody; unclaimed = fresh.unclaimed; whole = fresh.whole; marked = fresh.marked }

  pub whole_with : 0 < p.settings.combine → Stands w (store_of p) → ((v : ℕ) → v < length p.rows.list → (rows_in p.rows.list v).def ≡ view_at p.schema.views v) → IsStore p
  whole_with combines is defs = record {
    combines = combines;
    world = w;
    stands = is;
    defs = defs;
    under = λ session t. subst (λ (ts : List (Option TransactionKept)). StandUnder (table_at p.schema.tables t).key t (transaction_of ts session).puts) (sym none)
        (wrote_nothing (λ (puts : List Put). StandUnder (table_at p.schema.tables t).key t puts) refl 17 session);
    used = λ session. subst (λ (ts : List (Option TransactionKept)). list_all (is_used p.schema.tables) (transaction_of ts session).puts ≡ true) (sym none)
        (wrote_nothing (λ (puts : List Put). list_all (is_used p.schema.tables) puts ≡ true) refl 17 session);
  }
