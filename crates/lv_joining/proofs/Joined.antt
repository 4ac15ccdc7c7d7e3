-- The cost of a step that is taken in place of two, of which the first keeps links.
use Rattle.std.proofs.Common.{◌≡◌, ℕ, zero, suc, ◌+◌, ◌≤◌, Bool, true, List, [], ◌∷◌, length, map, inl, inr, refl, sym, ap, ◌∙◌, subst, arith}
use Rattle.std.specs.Prelude.{◌⊎◌, Option, Some, None, slice_get, slice_index_or}
use Rattle.lv_values.specs.Rows.{key_cmp}
use Rattle.lv_schema.specs.declared.part.Part.{Part}
use Rattle.lv_schema.specs.declared.table.TableDef.{TableDef}
use Rattle.lv_schema.specs.Databases.{Db, IsDatabase, rows_of}
use Rattle.lv_schema.specs.Nets.{has_row}
use Rattle.lv_schema.specs.Once.{Ascends}
use Rattle.lv_schema.specs.World.{table_at}
use Rattle.lv_schema.proofs.ChangeLists.{ARow}
use Rattle.lv_reach.specs.declared.link.Link.{Link}
use Rattle.lv_reach.specs.declared.rows.AliasRow.{AliasRow}
use Rattle.lv_reach.specs.Cost.{IsReach, cost}
use Rattle.lv_reach.specs.Reach.{has_alias_row, is_changed, of_alias, part_at}
use Rattle.lv_joining.specs.Joining.{AliasesKeepLinks, HaveStandIns, KeepsLinks, linked_columns, part_from, parts_of, stands_for}
use Rattle.lv_joining.proofs.Agreeing.{agree_left, agree_right}
use Rattle.lv_joining.proofs.Databases as db
use Rattle.lv_joining.proofs.OneTable.{no_cost}
use Rattle.lv_joining.proofs.Databases.{rows_at, rows_some, rows_none}
use Rattle.lv_joining.proofs.Reaching.{AreJoined, Moves, cost_within}
use Rattle.lv_joining.proofs.StandIns as rows
use Rattle.lv_joining.proofs.StandIns.{columns_same, next_stand_ins, own_stand_ins, stand_in}
use Rattle.lv_joining.proofs.Sums.{fewer_into}

-- ---- steps that keep links
pub keeps_itself : (links : List Link) (defs : List TableDef) (tables : List ℕ) (db : Db) → KeepsLinks links defs tables db db
keeps_itself links defs tables db = inr (λ alias t h. own_stand_ins (table_at defs t).key (linked_columns links alias) (rows_of db t))

pub keeps_on : (links : List Link) (defs : List TableDef) (tables : List ℕ) (first middle last : Db) → KeepsLinks links defs tables first middle → KeepsLinks links defs tables middle last → KeepsLinks links defs tables first last
keeps_on links defs tables first middle last (inl alone) two = inl alone
keeps_on links defs tables first middle last (inr one) (inl alone) = inl alone
keeps_on links defs tables first middle last (inr one) (inr two) =
    inr (λ alias t h. next_stand_ins (table_at defs t).key (linked_columns links alias) (rows_of first t) (rows_of middle t) (rows_of last t) (one alias t h) (two alias t h))

module _ (links : List Link) (defs : List TableDef) (tables : List ℕ) (first middle last : Db)
    (up : (t : ℕ) → Ascends (key_cmp (table_at defs t).key) (rows_of first t)) (up_middle : (t : ℕ) → Ascends (key_cmp (table_at defs t).key) (rows_of middle t)) (keeps : AliasesKeepLinks links defs tables first middle) where
  -- of an alias: its key, its rows before and after the first step
  abbrev key_at : ℕ → List ℕ
  key_at i = (table_at defs (slice_index_or tables i 0)).key

  key_some : (tables : List ℕ) (i t : ℕ) → slice_get tables i ≡ Some t → slice_index_or tables i 0 ≡ t
  key_some [] i t h = cc
  key_some (u ∷ tables) zero t h = cc
  key_some (u ∷ tables) (suc i) t h = key_some tables i t h

  record IsKept (i : ℕ) : Type 0 where
    pub before : Ascends (key_cmp (key_at i)) (rows_at tables first i)
    pub after : Ascends (key_cmp (key_at i)) (rows_at tables middle i)
    pub all : HaveStandIns (key_at i) (linked_columns links i) (rows_at tables first i) (rows_at tables middle i)

  kept_at : (i : ℕ) → IsKept i
  kept_at i = by (slice_get tables i) refl
    where
      by : (o : Option ℕ) → slice_get tables i ≡ o → IsKept i
      by None e = record {
        before = subst (λ rows. Ascends (key_cmp (key_at i)) rows) (sym (rows_none tables first i e)) tt;
        after = subst (λ rows. Ascends (key_cmp (key_at i)) rows) (sym (rows_none tables middle i e)) tt;
        all = subst (λ rows. HaveStandIns (key_at i) (linked_columns links i) rows (rows_at tables middle i)) (sym (rows_none tables first i e)) tt;
      }
      by (Some t) e =
          let is : t ≡ slice_index_or tables i 0 = sym (key_some tables i t e) in
          record {
            before = subst (λ rows. Ascends (key_cmp (key_at i)) rows) (sym (rows_some tables first i t e)) (subst (λ u. Ascends (key_cmp (table_at defs u).key) (rows_of first t)) is (up t));
            after = subst (λ rows. Ascends (key_cmp (key_at i)) rows) (sym (rows_some tables middle i t e)) (subst (λ u. Ascends (key_cmp (table_at defs u).key) (rows_of middle t)) is (up_middle t));
            all =
                subst (λ rows. HaveStandIns (key_at i) (linked_columns links i) rows (rows_at tables middle i)) (sym (rows_some tables first i t e))
                (subst (λ rows. HaveStandIns (key_at i) (linked_columns links i) (rows_of first t) rows) (sym (rows_some tables middle i t e))
                (subst (λ u. HaveStandIns (table_at defs u).key (linked_columns links i) (rows_of first t) (rows_of middle t)) is (keeps i t e)));
          }

  -- a row of an alias where it is after the first step
  abbrev move : AliasRow → AliasRow
  move a = of_alias a.alias (stand_in (key_at a.alias) (linked_columns links a.alias) a.row (rows_at tables middle a.alias))

  abbrev whole : List Part
  whole = parts_of tables first last

  abbrev one : List Part
  one = parts_of tables first middle

  abbrev two : List Part
  two = parts_of tables middle last

  old_whole : (i : ℕ) → (part_at whole i).old ≡ rows_at tables first i
  old_whole i = ap (λ (p : Part). p.old) (db.part_is tables first last i)

  old_one : (i : ℕ) → (part_at one i).old ≡ rows_at tables first i
  old_one i = ap (λ (p : Part). p.old) (db.part_is tables first middle i)

  old_two : (i : ℕ) → (part_at two i).old ≡ rows_at tables middle i
  old_two i = ap (λ (p : Part). p.old) (db.part_is tables middle last i)

  before : (a : AliasRow) → has_row a.row (part_at whole a.alias).old ≡ true → has_row a.row (rows_at tables first a.alias) ≡ true
  before a h = ap (has_row a.row) (sym (old_whole a.alias)) ∙ h

  stand : (a : AliasRow) → has_row a.row (part_at whole a.alias).old ≡ true
      → (has_row (move a).row (rows_at tables middle a.alias) ≡ true) × (stands_for (key_at a.alias) (linked_columns links a.alias) a.row (move a).row ≡ true)
  stand a h = let k = kept_at a.alias in rows.there (key_at a.alias) (linked_columns links a.alias) (rows_at tables first a.alias) (rows_at tables middle a.alias) k.before k.after k.all a.row (before a h)

  are_joined : AreJoined whole one two
  are_joined = record {
    many_one = db.as_many tables first middle ∙ sym (db.as_many tables first last);
    many_two = db.as_many tables middle last ∙ sym (db.as_many tables first last);
    old = db.old_same 0 tables first middle last;
    old_at = λ j. old_whole j ∙ sym (old_one j);
    once = db.old_once defs first last up 0 tables;
    changed = changed;
    kept = λ a e.
        ap (has_row a.row) (old_whole a.alias)
        ∙ db.stays_or_not a.row (rows_at tables first a.alias) (rows_at tables middle a.alias) (ap (λ p. is_changed p a.row) (sym (db.part_is tables first middle a.alias)) ∙ e)
        ∙ ap (has_row a.row) (sym (old_two a.alias));
  }
    where
      changed : (a : AliasRow) → is_changed (part_at whole a.alias) a.row ≡ true → (is_changed (part_at one a.alias) a.row ≡ true) ⊎ (is_changed (part_at two a.alias) a.row ≡ true)
      changed a h =
          subst (λ p. (is_changed p a.row ≡ true) ⊎ (is_changed (part_at two a.alias) a.row ≡ true)) (sym (db.part_is tables first middle a.alias))
          (subst (λ p. (is_changed (part_from (rows_at tables first a.alias) (rows_at tables middle a.alias)) a.row ≡ true) ⊎ (is_changed p a.row ≡ true)) (sym (db.part_is tables middle last a.alias))
          (db.changed_in_one a.row (rows_at tables first a.alias) (rows_at tables middle a.alias) (rows_at tables last a.alias)
          (ap (λ p. is_changed p a.row) (sym (db.part_is tables first last a.alias)) ∙ h)))

  same_alias : (a b : AliasRow) → move a ≡ move b → a.alias ≡ b.alias
  same_alias a b e = ap (λ (c : AliasRow). c.alias) e

  one_row_of : (a b : AliasRow) → has_row a.row (part_at whole a.alias).old ≡ true → has_row b.row (part_at whole b.alias).old ≡ true → move a ≡ move b → a ≡ b
  one_row_of a b h k e =
      let alias = same_alias a b e in
      let kept = kept_at a.alias in
      let there : has_row b.row (rows_at tables first a.alias) ≡ true = ap (λ i. has_row b.row (rows_at tables first i)) alias ∙ before b k in
      let same : stand_in (key_at a.alias) (linked_columns links a.alias) a.row (rows_at tables middle a.alias) ≡ stand_in (key_at a.alias) (linked_columns links a.alias) b.row (rows_at tables middle a.alias) =
      ap (λ (c : AliasRow). c.row) e ∙ ap (λ i. stand_in (key_at i) (linked_columns links i) b.row (rows_at tables middle i)) (sym alias) in
      let row : a.row ≡ b.row = rows.one (key_at a.alias) (linked_columns links a.alias) (rows_at tables first a.alias) (rows_at tables middle a.alias) kept.before kept.after kept.all a.row b.row (before a h) there same in
      λ i. record { alias = alias i; row = row i }

  few : (j : ℕ) → length (rows_at tables first j) ≤ length (rows_at tables middle j)
  few j =
      let kept = kept_at j in
      let own : (a : AliasRow) → has_alias_row a (map (of_alias j) (rows_at tables first j)) ≡ true → has_row a.row (part_at whole a.alias).old ≡ true =
      λ a h. let is = db.from_alias j a (rows_at tables first j) h in ap (has_row a.row) (old_whole a.alias ∙ ap (rows_at tables first) is.0) ∙ is.1 in
      omega (
        arith,
        many j (rows_at tables first j),
        many j (rows_at tables middle j),
        fewer_into move (map (of_alias j) (rows_at tables first j)) (map (of_alias j) (rows_at tables middle j))
            (db.once_of_alias j (key_at j) (rows_at tables first j) kept.before)
            (λ a b h k. one_row_of a b (own a h) (own b k))
            (λ a h.
            let is = (db.from_alias j a (rows_at tables first j) h).0 in
            subst (λ i. has_alias_row (of_alias i (move a).row) (map (of_alias j) (rows_at tables middle j)) ≡ true) (sym is)
            (db.mapped_there j (move a).row (rows_at tables middle j) (ap (λ i. has_row (move a).row (rows_at tables middle i)) (sym is) ∙ (stand a (own a h)).0))),
      )
    where
      many : (j : ℕ) (rows : List ARow) → length (map (of_alias j) rows) ≡ length rows
      many j [] = refl
      many j (row ∷ rows) = ap suc (many j rows)

  moves : Moves links whole two move
  moves = record {
    there = λ a h. ap (has_row (move a).row) (old_two a.alias) ∙ (stand a h).0;
    stays = λ a h k. let kept = kept_at a.alias in
        ap (of_alias a.alias) (rows.stays (key_at a.alias) (linked_columns links a.alias) (rows_at tables first a.alias) (rows_at tables middle a.alias) kept.before kept.after kept.all a.row (before a h) (ap (has_row a.row) (sym (old_two a.alias)) ∙ k));
    one = one_row_of;
    left = λ a b h. agree_left a.alias a.row (move a).row links (columns_same (key_at a.alias) (linked_columns links a.alias) a.row (move a).row (stand a h).1) b;
    right = λ a b h. agree_right b.alias b.row (move b).row links (columns_same (key_at b.alias) (linked_columns links b.alias) b.row (move b).row (stand b h).1) a;
    few = λ j lt. omega (arith, few j, ap (λ (rows : List ARow). length rows) (old_whole j), ap (λ (rows : List ARow). length rows) (old_two j));
  }

  pub two_cost_less : (near near_one near_two : List AliasRow) (far far_one far_two : ℕ → Bool) → IsReach links whole near far → IsReach links one near_one far_one → IsReach links two near_two far_two
      → cost links whole near far ≤ cost links one near_one far_one + cost links two near_two far_two
  two_cost_less near near_one near_two far far_one far_two r s t = cost_within links whole one two move are_joined moves near near_one near_two far far_one far_two r s t

-- over databases
pub joined_cost : (links : List Link) (defs : List TableDef) (tables : List ℕ) (first middle last : Db) → IsDatabase defs first → IsDatabase defs middle → KeepsLinks links defs tables first middle
    → (near near_one near_two : List AliasRow) (far far_one far_two : ℕ → Bool)
    → IsReach links (parts_of tables first last) near far → IsReach links (parts_of tables first middle) near_one far_one → IsReach links (parts_of tables middle last) near_two far_two
    → cost links (parts_of tables first last) near far ≤ cost links (parts_of tables first middle) near_one far_one + cost links (parts_of tables middle last) near_two far_two
joined_cost links defs tables first middle last is is_middle (inl alone) near near_one near_two far far_one far_two r s t =
    omega (arith, no_cost links (parts_of tables first last) near far alone.0 (omega (arith, db.as_many tables first last, alone.1)) r)
joined_cost links defs tables first middle last is is_middle (inr keeps) near near_one near_two far far_one far_two r s t =
    two_cost_less links defs tables first middle last (db.ascends_of defs first is) (db.ascends_of defs middle is_middle) keeps near near_one near_two far far_one far_two r s t
