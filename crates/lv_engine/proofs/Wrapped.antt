-- What is told of the store holds of the engine round it.
use Rattle.std.proofs.Common.{◌≡◌, ℕ, Option, Result, Ok, Err, refl, sym, ap, ◌∙◌}
use Rattle.std.specs.Prelude.{IfOk}
use Rattle.lv_schema.specs.declared.forced.Forced.{Forced}
use Rattle.lv_schema.specs.UpkeepCases.{fetching}
use Rattle.lv_schema.specs.WholeWorld.{Done, Queried, maintained}
use Rattle.lv_schema.specs.World.{Settings, World}
use Rattle.lv_journal.specs.declared.writer.Writer.{Writer}
use Rattle.lv_maint.specs.Inputs.{Input}
use Rattle.lv_replay.proofs.Maintained.{fetched_keeps}
use Rattle.lv_store.specs.declared.answer.Answer.{Answer}
use Rattle.lv_store.specs.declared.store.Store.{Store}
use Rattle.lv_store.specs.Answering as answering
use Rattle.lv_store.specs.Maintaining as maintaining
use Rattle.lv_store.specs.Kept as store
use Rattle.lv_store.specs.Kept.{IsStore, StoreKept, store_of}
use Rattle.lv_engine.specs.Answering.{GivesClaim, GivesFetch, GivesQuery}
use Rattle.lv_engine.specs.Kept.{StandsForSome, engine_of, length_of}

pub if_ok : {A E : Type 0} {P Q : A → Type 0} (r : Result A E) → ((a : A) → P a → Q a) → IfOk r P → IfOk r Q
if_ok (Ok a) step h = step a h
if_ok (Err e) step h = h

-- ---- any store stands for a world whose journal is as long as it has to be
abbrev with_length : ℕ → World → World
with_length n w = record w { upkeep = record w.upkeep { journal = n } }

pub any_length : (w : World) (n : ℕ) (e : StoreKept) → store.Stands w e → store.Stands (with_length n w) e
any_length w n e is = record {
  steady = record {
    sound = is.steady.sound;
    points = is.steady.points;
    marks = is.steady.marks;
    workers = is.steady.workers;
    views = is.steady.views;
    pruned = is.steady.pruned;
    claims = λ worker f at. let c = is.steady.claims worker f at in record { step = c.step; begun = c.begun };
    alone = is.steady.alone;
  };
  tables_are = is.tables_are;
  views_are = is.views_are;
  base_stands = is.base_stands;
  upkeep_stands = let u = is.upkeep_stands in record { points_are = u.points_are; marks_are = u.marks_are; claims_are = u.claims_are; all = u.all; each = u.each };
  views_stand = record { all = is.views_stand.all; each = is.views_stand.each };
  sessions_stand = is.sessions_stand;
  journal_is = refl;
}

pub stands_for_some : {D : Type 0} (s : Store) (j : Writer D) → IsStore s → StandsForSome (engine_of s j)
stands_for_some s j whole =
    (with_length (length_of j) whole.world, record { store_stands = any_length whole.world (length_of j) (store_of s) whole.stands; journal_is = refl })

-- ---- a claim, a fetch and a query
pub claimed_stands : {D : Type 0} (w : World) (settings : Settings) (worker : ℕ) (step : Option Forced) (s : StoreKept) (j : Writer D) → length_of j ≡ w.upkeep.journal
    → maintaining.GivesClaim (maintained (fetching settings worker w) w) step s → GivesClaim (maintained (fetching settings worker w) w) step (record { store = s; journal = j })
claimed_stands w settings worker step s j is gives = record {
  step_is = gives.step_is;
  stands = record { store_stands = gives.stands; journal_is = is ∙ sym (ap (λ (x : World). x.upkeep.journal) (fetched_keeps w settings worker)) };
}

pub fetched_stands : {D : Type 0} (w : World) (settings : Settings) (worker : ℕ) (input : Option Input) (s : StoreKept) (j : Writer D) → length_of j ≡ w.upkeep.journal
    → maintaining.GivesFetch w.visible (maintained (fetching settings worker w) w) input s → GivesFetch w.visible (maintained (fetching settings worker w) w) input (record { store = s; journal = j })
fetched_stands w settings worker input s j is gives = record {
  input_is = gives.input_is;
  stands = record { store_stands = gives.stands; journal_is = is ∙ sym (ap (λ (x : World). x.upkeep.journal) (fetched_keeps w settings worker)) };
}

pub queried_stands : {D : Type 0} (done : Done Queried) (a : Answer) (s : StoreKept) (j : Writer D) → length_of j ≡ done.next.upkeep.journal → answering.GivesQuery done a s → GivesQuery done a (record { store = s; journal = j })
queried_stands done a s j is gives = record { forced = gives.forced; rows = gives.rows; stands = record { store_stands = gives.stands; journal_is = is } }
