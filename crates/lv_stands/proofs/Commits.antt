-- A commit of the base: each table shows the states with the new one, and keeps exactly what it must.
use Rattle.std.proofs.Common.{◌≡◌, ℕ, zero, suc, ◌+◌, ◌-◌, ◌<◌, ◌≤◌, Bool, true, false, cond, not, ◌&&◌, List, [], ◌∷◌, ◌++◌, map, Option, Some, None, refl, sym, ap, ap₂, ◌∙◌, arith}
use Rattle.std.specs.Prelude.{◌⊎◌}
use Rattle.std.specs.List.{filter, sum_by, AllByRecursion}
use Rattle.std.proofs.lemmas.List.Elements.{filter-append}
use Rattle.std.proofs.lemmas.List.Sums.{sum_by-append}
use mathlib.Core.Logic.{inl, inr}
use Rattle.lv_values.specs.declared.value.Value.{Value}
use Rattle.lv_values.specs.Rows.{key_cmp}
use Rattle.lv_schema.specs.Databases.{rows_of}
use Rattle.lv_schema.specs.Nets.{has_row, lacking, net_of, with_net}
use Rattle.lv_schema.specs.Once.{Ascends}
use Rattle.lv_schema.specs.CleanUps.{rows_gained}
use Rattle.lv_schema.specs.declared.version.RowVersion.{RowVersion}
use Rattle.lv_schema.specs.Versions.{new_version, end_by, ended, versions_of, ends_after, kept_versions}
use Rattle.lv_schema.specs.World.{Visible, last, snap, table_at}
use Rattle.lv_schema.proofs.Apart.{all_map, all_append, all_filter, all_true, all_weaker}
use Rattle.lv_schema.proofs.KeptCounts.{keeps_open}
use Rattle.lv_schema.proofs.NetsLead.{any_lacking, elements, net_leads}
use Rattle.lv_stands.specs.Kept.{TableKept, shown}
use Rattle.lv_stands.specs.Moves.{lost, TableCommits}
use Rattle.lv_stands.specs.Stands.{HaveSame, TableStands}
use Rattle.lv_stands.proofs.Lists.{sum-map}

abbrev pub ARow : Type 0
ARow = List Value

-- ---- a version that has not ended is of a row that is there
abbrev IsThere : List ARow → RowVersion → Type 0
IsThere rows v = v.until ≡ None → has_row v.row rows ≡ true

ended_there : (k : ℕ) (rows : List ARow) (v : RowVersion) → IsThere rows (ended k rows v)
ended_there k rows v = by v.until (has_row v.row rows) refl
  where
    by : (u : Option ℕ) (t : Bool) → has_row v.row rows ≡ t → end_by u t k ≡ None → has_row v.row rows ≡ true
    by None true e h = e
    by None false e h = cc
    by (Some j) t e h = cc

pub open_there : (s : Visible) (t n : ℕ) → AllByRecursion (IsThere (rows_of (snap s n) t)) (versions_of s t n)
open_there s t zero = all_map (new_version 0) (IsThere (rows_of (snap s 0) t)) (rows_of (snap s 0) t)
    (all_weaker (λ r. has_row r (rows_of (snap s 0) t) ≡ true) (λ r. IsThere (rows_of (snap s 0) t) (new_version 0 r)) (λ r h e. h) (rows_of (snap s 0) t) (elements (rows_of (snap s 0) t)))
open_there s t (suc n) =
    all_append (IsThere after) (map (ended (suc n) after) (versions_of s t n)) (map (new_version (suc n)) (rows_gained s t (suc n)))
    (all_map (ended (suc n) after) (IsThere after) (versions_of s t n) (all_true (λ v. IsThere after (ended (suc n) after v)) (ended_there (suc n) after) (versions_of s t n)))
    (all_map (new_version (suc n)) (IsThere after) (rows_gained s t (suc n))
    (all_weaker (λ r. has_row r after ≡ true) (λ r. IsThere after (new_version (suc n) r)) (λ r h e. h) (rows_gained s t (suc n))
    (all_filter (λ r. has_row r after ≡ true) (λ r. not (has_row r (rows_of (snap s (suc n - 1)) t))) after (elements after))))
  where
    after : List ARow
    after = rows_of (snap s (suc n)) t

-- ---- what a commit takes away ends
lost_is : (k : ℕ) (before after : List ARow) (v : RowVersion) → IsThere before v → lost k (lacking before after) v ≡ ended k after v
lost_is k before after v there = ap (λ (u : Option ℕ). record v { until = u }) (by v.until there)
  where
    twice : (a b : Bool) → b ≡ true → not (not a && b) ≡ a
    twice true true e = refl
    twice false true e = refl
    twice a false e = cc

    by : (u : Option ℕ) → (u ≡ None → has_row v.row before ≡ true) → end_by u (not (has_row v.row (lacking before after))) k ≡ end_by u (has_row v.row after) k
    by None h = ap (λ b. cond {A = Option ℕ} b None (Some k)) (ap not (any_lacking v.row before after) ∙ twice (has_row v.row after) (has_row v.row before) (h refl))
    by (Some j) h = refl

kept_lost : (floor k : ℕ) (before after : List ARow) (vs : List RowVersion) → floor < k → AllByRecursion (IsThere before) vs
    → map (lost k (lacking before after)) (filter (λ v. ends_after floor v.until) vs) ≡ filter (λ v. ends_after floor v.until) (map (ended k after) vs)
kept_lost floor k before after [] lt a = refl
kept_lost floor k before after (v ∷ vs) lt a = by (ends_after floor v.until) (ends_after floor (ended k after v).until) (keeps_open floor k after lt v) (kept_lost floor k before after vs lt a.1)
  where
    by : (t u : Bool) → u ≡ t → map (lost k (lacking before after)) (filter (λ v. ends_after floor v.until) vs) ≡ filter (λ v. ends_after floor v.until) (map (ended k after) vs)
        → map (lost k (lacking before after)) (cond t (v ∷ filter (λ v. ends_after floor v.until) vs) (filter (λ v. ends_after floor v.until) vs))
        ≡ cond u (ended k after v ∷ filter (λ v. ends_after floor v.until) (map (ended k after) vs)) (filter (λ v. ends_after floor v.until) (map (ended k after) vs))
    by true true e ih = ap₂ (λ x xs. x ∷ xs) (lost_is k before after v a.0) ih
    by true false e ih = cc
    by false true e ih = cc
    by false false e ih = ih

kept_new : (floor k : ℕ) (rows : List ARow) → filter (λ v. ends_after floor v.until) (map (new_version k) rows) ≡ map (new_version k) rows
kept_new floor k [] = refl
kept_new floor k (r ∷ rows) = ap (λ vs. new_version k r ∷ vs) (kept_new floor k rows)

-- ---- versions are of the states alone
pub versions_alike : (s t : Visible) (table m : ℕ) → ((k : ℕ) → k ≤ m → rows_of (snap t k) table ≡ rows_of (snap s k) table) → (n : ℕ) → n ≤ m → versions_of t table n ≡ versions_of s table n
versions_alike s t table m rows zero le = ap (map (new_version 0)) (rows 0 le)
versions_alike s t table m rows (suc n) le =
    ap₂ (λ xs ys. xs ++ ys)
    (λ i. map (ended (suc n) (rows (suc n) le i)) (versions_alike s t table m rows n (omega arith) i))
    (ap (map (new_version (suc n))) (ap₂ (λ a b. lacking a b) (rows (suc n) le) (rows (suc n - 1) (omega arith))))

-- ---- a next state
pub record IsNext (s t : Visible) : Type 0 where
  pub one_more : last t ≡ suc (last s)
  pub rows : (k table : ℕ) → k ≤ last s → rows_of (snap t k) table ≡ rows_of (snap s k) table
  pub tables : t.tables ≡ s.tables

module _ (s next : Visible) (is_next : IsNext s next) (t : ℕ) where
  abbrev pub before : List ARow
  before = rows_of (snap s (last s)) t

  abbrev pub after : List ARow
  after = rows_of (snap next (suc (last s))) t

  versions_same : (n : ℕ) → n ≤ last s → versions_of next t n ≡ versions_of s t n
  versions_same n le = versions_alike s next t (last s) (λ k h. is_next.rows k t h) n le

  gained : rows_gained next t (suc (last s)) ≡ lacking after before
  gained = let e : suc (last s) - 1 ≡ last s = omega arith in ap (λ k. lacking after (rows_of (snap next k) t)) e ∙ ap (lacking after) (is_next.rows (last s) t (omega arith))

  pub kept_next : (floor : ℕ) → floor ≤ last s → kept_versions next floor t ≡ map (lost (suc (last s)) (lacking before after)) (kept_versions s floor t) ++ map (new_version (suc (last s))) (lacking after before)
  kept_next floor le =
      ap (λ n. filter (λ v. ends_after floor v.until) (versions_of next t n)) is_next.one_more
      ∙ filter-append (λ v. ends_after floor v.until) (map (ended (suc (last s)) after) (versions_of next t (last s))) (map (new_version (suc (last s))) (rows_gained next t (suc (last s))))
      ∙ ap₂ (λ xs ys. xs ++ ys)
      (ap (λ vs. filter (λ v. ends_after floor v.until) (map (ended (suc (last s)) after) vs)) (versions_same (last s) (omega arith))
      ∙ sym (kept_lost floor (suc (last s)) before after (versions_of s t (last s)) (omega arith) (open_there s t (last s))))
      (kept_new floor (suc (last s)) (rows_gained next t (suc (last s))) ∙ ap (map (new_version (suc (last s)))) gained)

  old_or_new : (k n : ℕ) → k ≤ suc n → (k ≤ n) ⊎ (k ≡ suc n)
  old_or_new k n h = grind arith

  pub table_commits : (pruned : ℕ) (old new : TableKept) → pruned ≤ last s → Ascends (key_cmp (table_at s.tables t).key) before → Ascends (key_cmp (table_at s.tables t).key) after
      → TableStands s pruned t old → TableCommits (last s) (net_of before after) old new → TableStands next pruned t new
  table_commits pruned old new le up up_next is c = record {
    def_is = c.def_stays ∙ is.def_is ∙ ap (λ ts. table_at ts t) (sym is_next.tables);
    by = omega (arith, c.last_by, is_next.one_more);
    floor_by = omega (arith, c.floor_stays, is.floor_by);
    reads = λ n above upto. reads n above (old_or_new n (last s) (omega (arith, is_next.one_more)));
    newest = λ n from. now n (omega (arith, is_next.one_more)) ∙ ap (λ k. rows_of (snap next k) t) (sym is_next.one_more);
    kept = kept;
  }
    where
      now : (n : ℕ) → last s < n → shown n new.versions ≡ after
      now n lt =
          c.from n lt
          ∙ (λ i. with_net (is.def_is i).key (net_of before after) (is.newest (last s) (omega arith) i))
          ∙ net_leads (table_at s.tables t).key before after up up_next

      reads : (n : ℕ) → pruned ≤ n → (n ≤ last s) ⊎ (n ≡ suc (last s)) → shown n new.versions ≡ rows_of (snap next n) t
      reads n above (inl upto) = c.before n upto ∙ is.reads n above upto ∙ sym (is_next.rows n t upto)
      reads n above (inr e) = now n (omega arith) ∙ ap (λ k. rows_of (snap next k) t) (sym e)

      kept : HaveSame (kept_versions next pruned t) new.versions
      kept f =
          c.versions_are f
          ∙ sum_by-append f (map (lost (suc (last s)) (lacking before after)) old.versions) (map (new_version (suc (last s))) (lacking after before))
          ∙ ap (λ n. n + sum_by f (map (new_version (suc (last s))) (lacking after before)))
          (sum-map (lost (suc (last s)) (lacking before after)) f old.versions
          ∙ is.kept (λ v. f (lost (suc (last s)) (lacking before after) v))
          ∙ sym (sum-map (lost (suc (last s)) (lacking before after)) f (kept_versions s pruned t)))
          ∙ sym (sum_by-append f (map (lost (suc (last s)) (lacking before after)) (kept_versions s pruned t)) (map (new_version (suc (last s))) (lacking after before)))
          ∙ ap (sum_by f) (sym (kept_next pruned le))
