-- What a record that applies is, in the words of what calls ask for.
use Rattle.std.proofs.Common.{◌≡◌, ℕ, suc, zero, ◌+◌, ◌<◌, ◌≤◌, Bool, true, false, not, List, [], ◌∷◌, map, length, refl, sym, subst, arith}
use Rattle.std.specs.Prelude.{◌==◌, ◌⊎◌, is_some, nat_eq, nat_lt, nat_le}
use Rattle.std.specs.List.{list_all, AllByRecursion}
use Rattle.std.specs.Str.{bytes_eq}
use Rattle.std.proofs.lemmas.List.{get_or-set_same, get_or-set_other, length-set}
use mathlib.Core.Logic.{inl, inr}
use Rattle.lv_values.specs.declared.value.Value.{Value}
use Rattle.lv_schema.specs.declared.action.Action.{Action}
use Rattle.lv_schema.specs.declared.action.ActionKind.{ActionKind}
use Rattle.lv_schema.specs.declared.action.ActionKind.TheVariants.{Insert, Delete}
use Rattle.lv_schema.specs.declared.fault.ProfileRule.{ProfileRule}
use Rattle.lv_schema.specs.declared.table.TableDef.{TableDef}
use Rattle.lv_schema.specs.declared.view.ViewDef.{ViewDef}
use Rattle.lv_schema.specs.Bound.{IsBoundTable, IsBoundView, alias_columns, compares, first, is_in_range, is_int_column, item_name, broken_rules}
use Rattle.lv_schema.specs.Commits.{action_fits}
use Rattle.lv_schema.specs.Databases.{Db, rows_of, row_fits, IsDatabase}
use Rattle.lv_schema.specs.Differences.{summed_columns}
use Rattle.lv_schema.specs.Effects.{same_key, acted_rows, acted, acted_all}
use Rattle.lv_schema.specs.JoinViews.{plain_columns}
use Rattle.lv_schema.specs.Names.{is_free}
use Rattle.lv_schema.specs.Once.{are_apart}
use Rattle.lv_schema.specs.SoundWorld.{CanTake, CanAct}
use Rattle.lv_schema.specs.World.{Visible, last, snap, table_at}
use Rattle.lv_schema.proofs.Apart.{all_filter}
use Rattle.lv_schema.proofs.Replay.{keyed_database, all_up}
use Rattle.lv_schema.proofs.SoundSteps.{all_placed, database_from}
use Rattle.lv_schema.proofs.ViewRows.{zip_at}
use Rattle.lv_record.specs.Kept.{IsKeptTable, IsKeptView}
use Rattle.lv_replay.specs.Applies.{same_flag, columns_fit, table_applies, view_applies, can_take, can_act, commit_applies}
use Rattle.lv_replay.specs.Numbers.{number_rises}
use Rattle.lv_replay.proofs.Tests.{and_left, and_right, lt_of, le_of, eq_of}

abbrev ARow : Type 0
ARow = List Value

-- ---- a table
pub applied_table : (s : Visible) (def : TableDef) → IsKeptTable def → table_applies def s ≡ true → IsBoundTable s.tables s.views (record def { no = length s.tables })
applied_table s def kept h =
    let h1 = and_right (is_free s.tables s.views def.name) _ h in
    let h2 = and_right (nat_lt (length s.tables) 32) _ h1 in
    let h3 = and_right (nat_lt 0 (length def.columns)) _ h2 in
    let h4 = and_right (nat_le (length def.columns) 16) _ h3 in
    let h5 = and_right (are_apart bytes_eq (map (λ c. c.name) def.columns)) _ h4 in
    let h6 = and_right (nat_lt 0 (length def.key)) _ h5 in
    record {
      next = refl;
      room = lt_of (length s.tables) 32 (and_left _ _ h1);
      named = kept.named;
      free = and_left _ _ h;
      some_columns = lt_of 0 (length def.columns) (and_left _ _ h2);
      few_columns = kept.few_columns;
      columns_named = kept.columns_named;
      columns_apart = and_left _ _ h4;
      kinds = kept.kinds;
      some_key = lt_of 0 (length def.key) (and_left _ _ h5);
      key_apart = and_left _ _ h6;
      key_in_range = and_right (are_apart nat_eq def.key) _ h6;
    }

-- ---- a view
flag_is : (a b : Bool) → same_flag a b ≡ true → a ≡ b
flag_is true true e = refl
flag_is true false e = cc
flag_is false true e = cc
flag_is false false e = refl

no_rule : (rules : List ProfileRule) → not (is_some (first rules)) ≡ true → rules ≡ []
no_rule [] e = refl
no_rule (r ∷ rules) e = cc

pub applied_created : (s : Visible) (def : ViewDef) → view_applies def s ≡ true → def.created ≡ last s
applied_created s def h =
    let h1 = and_right (is_free s.tables s.views def.name) _ h in
    let h2 = and_right (nat_lt (length s.views) 32) _ h1 in
    eq_of def.created (last s) (and_left _ _ h2)

pub applied_view : (s : Visible) (def : ViewDef) → IsKeptView def → view_applies def s ≡ true → IsBoundView s.tables s.views (record def { no = length s.views })
applied_view s def kept h =
    let h1 = and_right (is_free s.tables s.views def.name) _ h in
    let h2 = and_right (nat_lt (length s.views) 32) _ h1 in
    let h3 = and_right (def.created == last s) _ h2 in
    let h4 = and_right (nat_lt 0 (length def.tables)) _ h3 in
    let h5 = and_right (nat_le (length def.tables) 4) _ h4 in
    let h6 = and_right (list_all (λ t. nat_lt t (length s.tables)) def.tables) _ h5 in
    let h7 = and_right (nat_lt 0 (length def.items)) _ h6 in
    let h8 = and_right (nat_le (length def.items) 16) _ h7 in
    let h9 = and_right (are_apart bytes_eq (map item_name def.items)) _ h8 in
    let fit = and_left (columns_fit s.tables def) _ h9 in
    let rest = and_right (columns_fit s.tables def) _ h9 in
    let f1 = and_right (compares (alias_columns s.tables def.tables) def.cond) _ fit in
    let f2 = and_right (list_all (is_in_range (alias_columns s.tables def.tables)) (plain_columns def.items)) _ f1 in
    record {
      next = refl;
      room = lt_of (length s.views) 32 (and_left _ _ h1);
      named = kept.named;
      free = and_left _ _ h;
      some_aliases = lt_of 0 (length def.tables) (and_left _ _ h3);
      few_aliases = kept.few_aliases;
      in_use = and_left _ _ h5;
      bound_cond = record { compares_well = and_left _ _ fit; few = kept.few_comparisons };
      kept_cond = kept.kept_cond;
      some_items = lt_of 0 (length def.items) (and_left _ _ h6);
      few_items = kept.few_items;
      items_named = kept.items_named;
      items_apart = and_left _ _ h8;
      plain_in_range = and_left _ _ f1;
      sums_are_ints = and_left _ _ f2;
      groups_in_range = and_right (list_all (is_int_column (alias_columns s.tables def.tables)) (summed_columns def)) _ f2;
      few_groups = kept.few_groups;
      profile = record {
        grouped = flag_is def.grouped (nat_lt 0 (length def.groups)) (and_left _ _ rest);
        keeps = no_rule (broken_rules s.tables def) (and_right (same_flag def.grouped (nat_lt 0 (length def.groups))) _ rest);
      };
    }

-- ---- a commit
act_of : (tables : List TableDef) (actions : List Action) (db : Db) → can_act tables db actions ≡ true → CanAct tables db actions
act_of tables [] db h = tt
act_of tables (a ∷ actions) db h =
    let here = and_left (can_take tables db a) _ h in
    let fits = and_left (action_fits tables a) _ here in (
      record {
        in_use = lt_of a.table (length tables) (and_left _ _ fits);
        fits = and_right (nat_lt a.table (length tables)) _ fits;
        there = and_right (action_fits tables a) _ here;
      },
      act_of tables actions (acted tables db a) (and_right (can_take tables db a) _ h),
    )

pub record IsNext (s : Visible) (number : ℕ) (actions : List Action) : Type 0 where
  pub number_is : number ≡ last s + 1
  pub some : 0 < length actions
  pub can : CanAct s.tables (snap s (last s)) actions
  pub few : list_all (λ rows. nat_le (length rows) 65535) (acted_all s.tables (snap s (last s)) actions) ≡ true

pub applied_commit : (s : Visible) (number : ℕ) (actions : List Action) → commit_applies number actions s ≡ true → IsNext s number actions
applied_commit s number actions h =
    let h1 = and_right (number == last s + 1) _ h in
    let h2 = and_right (nat_lt 0 (length actions)) _ h1 in
    let h3 = and_right (number_rises 1 actions) _ h2 in
    record {
      number_is = eq_of number (last s + 1) (and_left _ _ h);
      some = lt_of 0 (length actions) (and_left _ _ h1);
      can = act_of s.tables actions (snap s (last s)) (and_left _ _ h3);
      few = and_right (can_act s.tables (snap s (last s)) actions) _ h3;
    }

-- ---- actions that can be taken lead from a database to one, where no table gets too many rows
pub few_at : (db : Db) (t : ℕ) → list_all (λ rows. nat_le (length rows) 65535) db ≡ true → length (rows_of db t) ≤ 65535
few_at [] t h = omega arith
few_at (rows ∷ db) zero h = le_of (length rows) 65535 (and_left _ _ h)
few_at (rows ∷ db) (suc t) h = few_at db t (and_right (nat_le (length rows) 65535) _ h)

eq_cases : (a b : ℕ) → (a ≡ b) ⊎ (a ≡ b → ⊥)
eq_cases a b = grind arith

module _ (tables : List TableDef) where
  abbrev Fits : ℕ → List ARow → Type 0
  Fits t rows = AllByRecursion (λ row. row_fits (table_at tables t).columns row ≡ true) rows

  acted_fits : (db : Db) (a : Action) → length db ≡ length tables → CanTake tables db a → ((t : ℕ) → t < length tables → Fits t (rows_of db t)) → (t : ℕ) → t < length tables → Fits t (rows_of (acted tables db a) t)
  acted_fits db a long may fit t lt = by (eq_cases t a.table)
    where
      new_rows : (k : ActionKind) → Fits a.table (acted_rows (table_at tables a.table).key k a.row (rows_of db a.table))
      new_rows Insert = all_placed (table_at tables a.table).key (λ row. row_fits (table_at tables a.table).columns row ≡ true) a.row (rows_of db a.table) may.fits (fit a.table may.in_use)
      new_rows Delete = all_filter (λ row. row_fits (table_at tables a.table).columns row ≡ true) (λ r. not (same_key (table_at tables a.table).key a.row r)) (rows_of db a.table) (fit a.table may.in_use)

      by : (t ≡ a.table) ⊎ (t ≡ a.table → ⊥) → Fits t (rows_of (acted tables db a) t)
      by (inl e) = subst (λ u. Fits u (rows_of (acted tables db a) u)) (sym e) (subst (Fits a.table) (sym (get_or-set_same db a.table _ [] (omega (arith, long, may.in_use)))) (new_rows a.kind))
      by (inr ne) = subst (Fits t) (sym (get_or-set_other db a.table t _ [] ne)) (fit t lt)

  all_fits : (actions : List Action) (db : Db) → length db ≡ length tables → CanAct tables db actions → ((t : ℕ) → t < length tables → Fits t (rows_of db t)) → (t : ℕ) → t < length tables → Fits t (rows_of (acted_all tables db actions) t)
  all_fits [] db long may fit = fit
  all_fits (a ∷ actions) db long may fit = all_fits actions (acted tables db a) (let n : length (acted tables db a) ≡ length tables = omega (arith, length-set db a.table (acted_rows (table_at tables a.table).key a.kind a.row (rows_of db a.table)), long) in n) may.1 (acted_fits db a long may.0 fit)

  pub acted_database : (db : Db) (actions : List Action) → IsDatabase tables db → CanAct tables db actions → list_all (λ rows. nat_le (length rows) 65535) (acted_all tables db actions) ≡ true
      → IsDatabase tables (acted_all tables db actions)
  acted_database db actions is may few =
      let keyed = keyed_database tables db is in
      let up = all_up tables db actions keyed may in
      database_from tables (acted_all tables db actions) up.long (λ t lt. record {
        fits = all_fits actions db keyed.long may (λ u here. (zip_at tables db u is here).fits) t lt;
        keyed = up.up t lt;
        few = few_at (acted_all tables db actions) t few;
      })
