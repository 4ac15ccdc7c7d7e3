-- The record of a table is taken.
use Rattle.std.proofs.Common.{◌≡◌, true, List, [], ◌∷◌, ◌++◌, length, sym, ap, subst}
use Rattle.lv_schema.specs.declared.rec.Rec.TheVariants.{Table}
use Rattle.lv_schema.specs.declared.table.TableDef.{TableDef}
use Rattle.lv_schema.specs.Bound.{IsBoundTable}
use Rattle.lv_schema.specs.Cases as cases
use Rattle.lv_schema.specs.World.{World}
use Rattle.lv_record.specs.Kept.{IsKeptTable}
use Rattle.lv_replay.specs.Applies.{table_applies}
use Rattle.lv_replay.specs.Replayed.{replayed}
use Rattle.lv_replay.proofs.Applied.{applied_table}
use Rattle.lv_replay.proofs.Replays.{replayed_steady, replayed_stopped}
use Rattle.lv_stands.specs.Moves.{table_new}
use Rattle.lv_stands.specs.Stands.{BaseStands}
use Rattle.lv_stands.proofs.Creates.{base_wide}
use Rattle.lv_loading.specs.Loads.{LoadingKept, LoadingStands}
use Rattle.lv_loading.specs.Taking.{with_table}

module _ (k : LoadingKept) (def : TableDef) (w : World) (is : LoadingStands w k) where
  -- whether it applies is told from what is kept
  pub table_told : table_applies def (record w.visible { tables = k.tables; views = k.views }) ≡ table_applies def w.visible
  table_told = λ i. table_applies def (record w.visible { tables = is.tables_are i; views = is.views_are i })

  module _ (kept : IsKeptTable def) (applied : table_applies def w.visible ≡ true) where
    abbrev made : TableDef
    made = record def { no = length w.visible.tables }

    pub bound_there : IsBoundTable k.tables k.views (record def { no = length k.tables })
    bound_there =
        subst (λ (ts : List TableDef). IsBoundTable ts k.views (record def { no = length ts })) (sym is.tables_are)
        (subst (λ vs. IsBoundTable w.visible.tables vs (record def { no = length w.visible.tables })) (sym is.views_are) (applied_table w.visible def kept applied))

    made_same : record def { no = length k.tables } ≡ record def { no = length w.visible.tables }
    made_same = ap (λ (ts : List TableDef). record def { no = length ts }) is.tables_are

    base_made : BaseStands (cases.with_table (record def { no = length w.visible.tables }) w.visible) 0 (record k.base { tables = k.base.tables ++ table_new (record def { no = length k.tables }) ∷ [] })
    base_made =
        subst (λ (d : TableDef). BaseStands (cases.with_table (record def { no = length w.visible.tables }) w.visible) 0 (record k.base { tables = k.base.tables ++ table_new d ∷ [] })) (sym made_same)
        (base_wide (record def { no = length w.visible.tables }) w is.steady.sound 0 k.base is.base_stands)

    pub table_taken : LoadingStands (replayed (Table def) w) (with_table (record def { no = length k.tables }) k)
    table_taken = record {
      steady = replayed_steady (Table def) w is.steady is.stopped kept applied;
      stopped = replayed_stopped (Table def) w is.stopped;
      tables_are = λ i. is.tables_are i ++ record def { no = length (is.tables_are i) } ∷ [];
      views_are = is.views_are;
      base_stands = base_made;
      upkeep_stands = record {
        points_are = is.upkeep_stands.points_are;
        marks_are = is.upkeep_stands.marks_are;
        claims_are = is.upkeep_stands.claims_are;
        all = is.upkeep_stands.all;
        each = is.upkeep_stands.each;
      };
    }
