-- What a base that stands for a world tells of it.
use Rattle.std.proofs.Common.{◌≡◌, ℕ, List, [], length, sym, ap, ◌∙◌, arith}
use Rattle.std.proofs.Math.Path.{subst₂}
use Rattle.std.proofs.lemmas.List.{ext_get_or, length-map}
use Rattle.lv_schema.specs.declared.action.Action.{Action}
use Rattle.lv_schema.specs.declared.table.TableDef.{TableDef}
use Rattle.lv_schema.specs.Databases.{Db, IsDatabase}
use Rattle.lv_schema.specs.SoundWorld.{CanAct, IsSound}
use Rattle.lv_schema.specs.World.{Visible, last, no_table, snap}
use Rattle.lv_schema.proofs.Replay.{keyed_database}
use Rattle.lv_stands.specs.Kept.{TableKept, shown}
use Rattle.lv_stands.specs.Stands.{BaseStands}
use Rattle.lv_versions.specs.Versions.{Kept}
use Rattle.lv_base.specs.Bases.{BaseRoom, CanCommit, base_of, defs_of, kept_of, last_state}
use Rattle.lv_base.proofs.Places.{def_at, kept_at}
use Rattle.lv_base.proofs.Prepared.{state_at_place}

module _ (s : Visible) (pruned : ℕ) (b : BaseRoom) (is : BaseStands s pruned (base_of b)) where
  long_tables : length b.tables ≡ length s.tables
  long_tables = sym (length-map b.tables kept_of) ∙ is.all

  pub told_tables : defs_of b ≡ s.tables
  told_tables =
      let long : length (defs_of b) ≡ length s.tables = length-map b.tables (λ (k : Kept). k.def) ∙ long_tables in
      ext_get_or no_table (defs_of b) s.tables long
      (λ t lt. def_at b.tables t ∙ ap (λ (k : TableKept). k.def) (sym (kept_at b.tables t)) ∙ (is.each t (omega (arith, lt, long))).def_is)

  pub told_state : IsSound s → last_state b ≡ snap s (last s)
  told_state sound =
      let before = keyed_database s.tables (snap s (last s)) (sound.fits (last s) (omega arith)) in
      let long : length (last_state b) ≡ length s.tables = length-map b.tables (λ (k : Kept). shown b.number k.versions) ∙ long_tables in
      ext_get_or [] (last_state b) (snap s (last s)) (long ∙ sym before.long)
      (λ t lt.
      state_at_place b t
      ∙ ap (λ (k : TableKept). shown b.number k.versions) (sym (kept_at b.tables t))
      ∙ (is.each t (omega (arith, lt, long))).newest b.number (omega (arith, is.number_is)))

  pub told_commit : (actions : List Action) → IsSound s → CanAct s.tables (snap s (last s)) actions → CanCommit b actions
  told_commit actions sound may =
      let tables = sym told_tables in
      let state = sym (told_state sound) in
      record {
        fits = subst₂ IsDatabase tables state (sound.fits (last s) (omega arith));
        acts = subst₂ (λ (defs : List TableDef) (db : Db). CanAct defs db actions) tables state may;
      }
