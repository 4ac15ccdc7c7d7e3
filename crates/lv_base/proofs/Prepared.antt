-- What is prepared for a commit, and what the base is after it and after a clean-up.
use Rattle.std.proofs.Common.{◌≡◌, ℕ, suc, ◌+◌, ◌^◌, ◌<◌, ◌≤◌, List, ◌++◌, drop, take, map, length, refl, sym, ap, ◌∙◌, subst, arith}
use Rattle.std.specs.Prelude.{nat_lt}
use Rattle.std.specs.List.{filter, sum_by}
use Rattle.std.proofs.Math.ListN.{get_or-map}
use Rattle.std.proofs.Math.Path.{subst₂}
use Rattle.std.proofs.lemmas.List.{length-map}
use Rattle.std.proofs.lemmas.Simd.{map-map}
use Rattle.lv_values.specs.declared.value.Value.{Value}
use Rattle.lv_values.specs.Rows.{key_cmp}
use Rattle.lv_schema.specs.declared.action.Action.{Action}
use Rattle.lv_schema.specs.declared.net.Net.{Net}
use Rattle.lv_schema.specs.declared.table.TableDef.{TableDef}
use Rattle.lv_schema.specs.Condensed.{condensed}
use Rattle.lv_schema.specs.Databases.{IsDatabase, IsTable, rows_of}
use Rattle.lv_schema.specs.Effects.{acted_all}
use Rattle.lv_schema.specs.Nets.{net_of}
use Rattle.lv_schema.specs.Once.{Ascends}
use Rattle.lv_schema.specs.SoundWorld.{CanAct}
use Rattle.lv_schema.specs.Versions.{delta_entry}
use Rattle.lv_schema.specs.World.{table_at}
use Rattle.lv_schema.proofs.Condenses as condenses
use Rattle.lv_schema.proofs.Replay.{all_up, keyed_database}
use Rattle.lv_schema.proofs.ViewRows.{zip_at}
use Rattle.lv_delta.specs.Kept.{DeltasKept}
use Rattle.lv_stands.specs.Kept.{TableKept, shown, table_kept}
use Rattle.lv_stands.specs.Moves.{BaseCleaned, BaseCommits, TableCleaned, TableCommits}
use Rattle.lv_stands.proofs.Lists.{sum-map}
use Rattle.lv_versions.specs.Versions.{Kept}
use Rattle.lv_base.specs.Bases.{BaseRoom, CanCommit, CanTakeNet, IsBase, IsReady, base_of, brought_in, defs_of, kept_of, last_state, net_in, no_versions, table_in, versions_in}
use Rattle.lv_base.proofs.Places.{all_fewer, all_longer, def_at, kept_at, whole}

pub state_at_place : (b : BaseRoom) (t : ℕ) → rows_of (last_state b) t ≡ shown b.number (table_in b.tables t).versions
state_at_place b t = get_or-map (λ (k : Kept). shown b.number k.versions) b.tables t no_versions

-- ---- each table can take its net change
pub takes_each : (b : BaseRoom) (actions : List Action) (nets : List Net) → IsBase b → IsReady b actions nets → (t : ℕ) → t < length b.tables → CanTakeNet b.number (net_in nets t) (table_in b.tables t)
takes_each b actions nets is ready t lt =
    let k = table_in b.tables t in
    let defs = defs_of b in
    let db = last_state b in
    let lt' : t < length defs = omega (arith, lt, length-map b.tables (λ (k : Kept). k.def)) in
    let before = keyed_database defs db ready.can.fits in
    let after = all_up defs db actions before ready.can.acts in
    let after_rows = rows_of (acted_all defs db actions) t in
    let up : Ascends (key_cmp (table_at defs t).key) (rows_of db t) = before.up t lt' in
    let up_after : Ascends (key_cmp (table_at defs t).key) after_rows = after.up t lt' in
    let few : IsTable (table_at defs t) (rows_of db t) = zip_at defs db t ready.can.fits lt' in
    record {
      by = (is.each t lt).by;
      floor_by = omega (arith, (is.each t lt).floor_by, is.pruned_by);
      leads = record {
        after = after_rows;
        from_up = subst (λ (def : TableDef). Ascends (key_cmp def.key) (shown b.number k.versions)) (def_at b.tables t) (subst (Ascends (key_cmp (table_at defs t).key)) (state_at_place b t) up);
        after_up = subst (λ (def : TableDef). Ascends (key_cmp def.key) after_rows) (def_at b.tables t) up_after;
        net_is = ready.each t lt ∙ condenses.condenses defs db actions t ready.can.fits ready.can.acts lt' ∙ ap (λ rows. net_of rows after_rows) (state_at_place b t);
      };
      few = subst (λ (rows : List (List Value)). length rows ≤ 65535) (state_at_place b t) few.few;
      room = ready.room t lt;
    }

-- ---- what is kept tells all but the room
same_defs : (old new : List Kept) → map kept_of new ≡ map kept_of old → map (λ k. k.def) new ≡ map (λ k. k.def) old
same_defs old new e = sym (map-map (λ (k : TableKept). k.def) kept_of new) ∙ ap (map (λ (k : TableKept). k.def)) e ∙ map-map (λ (k : TableKept). k.def) kept_of old

same_states : (number : ℕ) (old new : List Kept) → map kept_of new ≡ map kept_of old → map (λ k. shown number k.versions) new ≡ map (λ k. shown number k.versions) old
same_states number old new e =
    sym (map-map (λ (k : TableKept). shown number k.versions) kept_of new) ∙ ap (map (λ (k : TableKept). shown number k.versions)) e ∙ map-map (λ (k : TableKept). shown number k.versions) kept_of old

same_length : (old new : List Kept) → map kept_of new ≡ map kept_of old → length new ≡ length old
same_length old new e = sym (length-map new kept_of) ∙ ap length e ∙ length-map old kept_of

same_count : (old new : List Kept) → map kept_of new ≡ map kept_of old → versions_in new ≡ versions_in old
same_count old new e = sym (sum-map kept_of (λ (k : TableKept). length k.versions) new) ∙ ap (sum_by (λ (k : TableKept). length k.versions)) e ∙ sum-map kept_of (λ (k : TableKept). length k.versions) old

same_at : (old new : List Kept) → map kept_of new ≡ map kept_of old → (t : ℕ) → kept_of (table_in new t) ≡ kept_of (table_in old t)
same_at old new e t = sym (kept_at new t) ∙ ap (λ ts. table_kept ts t) e ∙ kept_at old t

-- ---- a base whose tables were written through a slice of their vector
abbrev pub written : ℕ → List Kept → BaseRoom → BaseRoom
written len items b = record b { tables = take len (b.tables ++ drop (length b.tables) items) }

-- ---- after room was made
module _ (b : BaseRoom) (tables : List Kept) (deltas : DeltasKept) (seen : List Kept) (value : seen ≡ b.tables) (len : ℕ) (full : len ≡ length b.tables)
    (kept : map kept_of tables ≡ map kept_of seen) (entries : deltas ≡ record b.deltas { spare = deltas.spare }) where
  same_tables : map kept_of tables ≡ map kept_of b.tables
  same_tables = kept ∙ ap (map kept_of) value

  long_roomier : length tables ≡ length b.tables
  long_roomier = same_length b.tables tables same_tables

  abbrev pub roomier : BaseRoom
  roomier = record b { tables = tables; deltas = deltas }

  roomier_written : tables ≡ (written len b.tables roomier).tables
  roomier_written = sym (whole len tables b.tables long_roomier full)

  pub roomier_base : IsBase b → IsBase (written len b.tables roomier)
  roomier_base is = subst (λ (ts : List Kept). IsBase (record roomier { tables = ts })) roomier_written (record {
    each = λ t lt.
        let old = is.each t (omega (arith, lt, long_roomier)) in
        let e = same_at b.tables tables same_tables t in
        record {
          no_is = ap (λ (k : TableKept). k.def.no) e ∙ old.no_is;
          by = omega (arith, ap (λ (k : TableKept). k.last) e, old.by);
          floor_by = omega (arith, ap (λ (k : TableKept). k.floor) e, old.floor_by);
        };
    entries_by = omega (arith, ap (λ (d : DeltasKept). d.last) entries, is.entries_by);
    entries_floor = ap (λ (d : DeltasKept). d.floor) entries ∙ is.entries_floor;
    pruned_by = is.pruned_by;
    counted = omega (arith, same_count b.tables tables same_tables, is.counted);
  })

  pub roomier_ready : (actions : List Action) (nets : List Net) → CanCommit b actions → length nets ≡ length b.tables → ((t : ℕ) → t < length b.tables → net_in nets t ≡ condensed (defs_of b) actions t)
      → ((t : ℕ) → t < length tables → length (net_in nets t).plus ≤ (table_in tables t).spare) → length actions ≤ deltas.spare → versions_in b.tables + brought_in nets < 2 ^ 64
      → IsReady (written len b.tables roomier) actions nets
  roomier_ready actions nets can all each room entries_room counted = subst (λ (ts : List Kept). IsReady (record roomier { tables = ts }) actions nets) roomier_written (record {
    can = record {
      fits = subst₂ IsDatabase (sym defs) (sym states) can.fits;
      acts = subst₂ (λ ts db. CanAct ts db actions) (sym defs) (sym states) can.acts;
    };
    all = all ∙ sym long_roomier;
    each = λ t lt. each t (omega (arith, lt, long_roomier)) ∙ ap (λ ts. condensed ts actions t) (sym defs);
    room = room;
    entries_room = entries_room;
    counted = omega (arith, same_count b.tables tables same_tables, counted);
  })
    where
      defs : defs_of roomier ≡ defs_of b
      defs = same_defs b.tables tables same_tables

      states : last_state roomier ≡ last_state b
      states = same_states b.number b.tables tables same_tables

-- ---- after a commit
module _ (b new : BaseRoom) (actions : List Action) (nets : List Net) (is : IsBase b) (ready : IsReady b actions nets) (seen : List Kept) (value : seen ≡ b.tables) (len : ℕ) (full : len ≡ length b.tables)
    (all : length new.tables ≡ length seen) (commits : (t : ℕ) → t < length seen → TableCommits b.number (net_in nets t) (kept_of (table_in seen t)) (kept_of (table_in new.tables t)))
    (number : new.number ≡ b.number + 1) (pruned : new.pruned ≡ b.pruned) where
  long_committed : length new.tables ≡ length b.tables
  long_committed = all ∙ ap length value

  each_committed : (t : ℕ) → t < length b.tables → TableCommits b.number (net_in nets t) (kept_of (table_in b.tables t)) (kept_of (table_in new.tables t))
  each_committed t lt = subst (λ (ts : List Kept). TableCommits b.number (net_in nets t) (kept_of (table_in ts t)) (kept_of (table_in new.tables t))) value (commits t (omega (arith, lt, ap length value)))

  committed_written : new.tables ≡ (written len b.tables new).tables
  committed_written = sym (whole len new.tables b.tables long_committed full)

  pub committed_base : new.deltas.last ≡ new.number → new.deltas.floor ≡ b.deltas.floor → IsBase (written len b.tables new)
  committed_base last floor = subst (λ (ts : List Kept). IsBase (record new { tables = ts })) committed_written (record {
    each = λ t lt.
        let lt' : t < length b.tables = omega (arith, lt, long_committed) in
        let old = is.each t lt' in
        let c = each_committed t lt' in
        record {
          no_is = ap (λ (def : TableDef). def.no) c.def_stays ∙ old.no_is;
          by = omega (arith, c.last_by, number);
          floor_by = omega (arith, c.floor_stays, old.floor_by, pruned);
        };
    entries_by = omega (arith, last);
    entries_floor = floor ∙ is.entries_floor ∙ sym pruned;
    pruned_by = omega (arith, pruned, is.pruned_by, number);
    counted = omega (arith, all_longer b.number b.tables new.tables nets ready.all long_committed each_committed, ready.counted);
  })

  pub committed_kept : new.deltas.entries ≡ b.deltas.entries ++ map (delta_entry (b.number + 1)) actions → BaseCommits (defs_of b) actions (base_of b) (base_of (written len b.tables new))
  committed_kept entries = subst (λ (ts : List Kept). BaseCommits (defs_of b) actions (base_of b) (base_of (record new { tables = ts }))) committed_written (record {
    all = length-map new.tables kept_of ∙ long_committed ∙ sym (length-map b.tables kept_of);
    each = λ t lt.
        let lt' : t < length b.tables = omega (arith, lt, length-map b.tables kept_of) in
        subst₂ (TableCommits b.number (condensed (defs_of b) actions t)) (sym (kept_at b.tables t)) (sym (kept_at new.tables t))
        (subst (λ (net : Net). TableCommits b.number net (kept_of (table_in b.tables t)) (kept_of (table_in new.tables t))) (ready.each t lt') (each_committed t lt'));
    entries_are = entries ∙ (let e : b.number + 1 ≡ suc b.number = omega arith in ap (λ n. b.deltas.entries ++ map (delta_entry n) actions) e);
    number_is = omega (arith, number);
    pruned_stays = pruned;
  })

-- ---- after a clean-up
module _ (b new : BaseRoom) (is : IsBase b) (high : new.pruned ≤ b.number) (seen : List Kept) (value : seen ≡ b.tables) (len : ℕ) (full : len ≡ length b.tables)
    (all : length new.tables ≡ length seen) (cleaned : (t : ℕ) → t < length seen → TableCleaned new.pruned (kept_of (table_in seen t)) (kept_of (table_in new.tables t))) (number : new.number ≡ b.number) where
  long_cleaned : length new.tables ≡ length b.tables
  long_cleaned = all ∙ ap length value

  each_cleaned : (t : ℕ) → t < length b.tables → TableCleaned new.pruned (kept_of (table_in b.tables t)) (kept_of (table_in new.tables t))
  each_cleaned t lt = subst (λ (ts : List Kept). TableCleaned new.pruned (kept_of (table_in ts t)) (kept_of (table_in new.tables t))) value (cleaned t (omega (arith, lt, ap length value)))

  cleaned_written : new.tables ≡ (written len b.tables new).tables
  cleaned_written = sym (whole len new.tables b.tables long_cleaned full)

  pub cleaned_base : new.deltas.last ≡ b.deltas.last → new.deltas.floor ≡ new.pruned → IsBase (written len b.tables new)
  cleaned_base last floor = subst (λ (ts : List Kept). IsBase (record new { tables = ts })) cleaned_written (record {
    each = λ t lt.
        let lt' : t < length b.tables = omega (arith, lt, long_cleaned) in
        let old = is.each t lt' in
        let c = each_cleaned t lt' in
        record {
          no_is = ap (λ (def : TableDef). def.no) c.def_stays ∙ old.no_is;
          by = omega (arith, c.last_stays, old.by, number);
          floor_by = omega (arith, c.floor_is);
        };
    entries_by = omega (arith, last, is.entries_by, number);
    entries_floor = floor;
    pruned_by = omega (arith, high, number);
    counted = omega (arith, all_fewer new.pruned b.tables new.tables long_cleaned each_cleaned, is.counted);
  })

  pub cleaned_kept : new.deltas.entries ≡ filter (λ e. nat_lt new.pruned e.number) b.deltas.entries → BaseCleaned new.pruned (base_of b) (base_of (written len b.tables new))
  cleaned_kept entries = subst (λ (ts : List Kept). BaseCleaned new.pruned (base_of b) (base_of (record new { tables = ts }))) cleaned_written (record {
    all = length-map new.tables kept_of ∙ long_cleaned ∙ sym (length-map b.tables kept_of);
    each = λ t lt.
        subst₂ (TableCleaned new.pruned) (sym (kept_at b.tables t)) (sym (kept_at new.tables t)) (each_cleaned t (omega (arith, lt, length-map b.tables kept_of)));
    entries_are = entries;
    number_stays = number;
    pruned_is = refl;
  })
