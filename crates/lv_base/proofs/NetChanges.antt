-- A net change between two tables can be taken, and what a table is after it.
use Rattle.std.proofs.Common.{◌≡◌, ℕ, suc, ◌+◌, ◌-◌, ◌<◌, ◌≤◌, Bool, true, false, not, ◌&&◌, List, [], ◌∷◌, ◌++◌, map, length, refl, sym, ap, ◌∙◌, subst, arith}
use Rattle.std.specs.Prelude.{◌||◌}
use Rattle.std.specs.List.{sum_by, AllByRecursion}
use Rattle.std.specs.List.Sorted.{IsPermutation}
use Rattle.std.specs.Ordering.{is_eq}
use Rattle.std.specs.declared.cmp.Ordering.{Ordering}
use Rattle.std.specs.declared.cmp.Ordering.TheVariants.{Less, Equal, Greater}
use Rattle.std.proofs.lemmas.List.{append-nil}
use Rattle.std.proofs.lemmas.List.Sorted.{sum_by-IsPermutation}
use Rattle.lv_values.specs.declared.value.Value.{Value}
use Rattle.lv_values.specs.Rows.{key_cmp}
use Rattle.lv_schema.specs.declared.net.Net.{Net}
use Rattle.lv_schema.specs.Effects.{has_key, same_key}
use Rattle.lv_schema.specs.Nets.{has_row, lacking, net_of, with_net}
use Rattle.lv_schema.specs.Once.{Ascends}
use Rattle.lv_schema.proofs.Apart.{all_both, all_filter}
use Rattle.lv_schema.proofs.NetsLead.{any_lacking, elements, net_leads, one_of_key, passes}
use Rattle.lv_schema.proofs.Replay.{ascends_filter}
use Rattle.lv_stands.specs.Kept.{shown}
use Rattle.lv_stands.specs.Moves.{no_net, rows_after, TableCommits}
use Rattle.lv_stands.proofs.Untouched.{lost_none, no_change}
use Rattle.lv_stands.proofs.Refusals.{rows_counted}
use Rattle.lv_versions.specs.Versions.{Applies, Kept, lost, new_version, state_at}
use Rattle.lv_base.specs.Bases.{CanTakeNet, kept_of}
use Rattle.lv_base.proofs.Places.{filter_fewer}

abbrev ARow : Type 0
ARow = List Value

equal_of : (o : Ordering) → is_eq o ≡ true → o ≡ Equal
equal_of Less h = cc
equal_of Equal h = refl
equal_of Greater h = cc

module _ (key : List ℕ) (before after : List ARow) (up : Ascends (key_cmp key) before) (up_after : Ascends (key_cmp key) after) where
  -- a row that comes has the key of none that stays, since both are in the table after
  free : (row : ARow) → has_row row after ≡ true → has_row row before ≡ false → (rows : List ARow) → AllByRecursion (λ s. has_row s before ≡ true) rows → AllByRecursion (λ s. has_row s after ≡ true) rows → has_key key row rows ≡ false
  free row there new [] a b = refl
  free row there new (s ∷ rows) a b = by (same_key key row s) refl (free row there new rows a.1 b.1)
    where
      by : (t : Bool) → same_key key row s ≡ t → has_key key row rows ≡ false → (t || has_key key row rows) ≡ false
      by true e ih =
          let one : row ≡ s = one_of_key key after up_after row s there b.0 (equal_of (key_cmp key row s) e) in
          let old : has_row row before ≡ true = ap (λ r. has_row r before) one ∙ a.0 in
          cc
      by false e ih = ih

  stays_both : (s : ARow) → has_row s before ≡ true → not (has_row s (lacking before after)) ≡ true → has_row s after ≡ true
  stays_both s old h = by (has_row s after) (has_row s before) old (sym (ap not (any_lacking s before after)) ∙ h)
    where
      by : (x y : Bool) → y ≡ true → not (not x && y) ≡ true → x ≡ true
      by true y e f = refl
      by false true e f = cc
      by false false e f = cc

  new_keys : AllByRecursion (λ row. has_key key row (lacking before (lacking before after)) ≡ false) (lacking after before)
  new_keys =
      all_both (λ r. has_row r after ≡ true) (λ r. not (has_row r before) ≡ true) (λ row. has_key key row (lacking before (lacking before after)) ≡ false)
      (λ row there new. free row there (lacks (has_row row before) new) (lacking before (lacking before after)) stay_old stay_new)
      (lacking after before)
      (all_filter (λ r. has_row r after ≡ true) (λ r. not (has_row r before)) after (elements after))
      (passes (λ r. not (has_row r before)) after)
    where
      lacks : (b : Bool) → not b ≡ true → b ≡ false
      lacks true e = cc
      lacks false e = refl

      stay_old : AllByRecursion (λ s. has_row s before ≡ true) (lacking before (lacking before after))
      stay_old = all_filter (λ s. has_row s before ≡ true) (λ r. not (has_row r (lacking before after))) before (elements before)

      stay_new : AllByRecursion (λ s. has_row s after ≡ true) (lacking before (lacking before after))
      stay_new =
          all_both (λ s. has_row s before ≡ true) (λ s. not (has_row s (lacking before after)) ≡ true) (λ s. has_row s after ≡ true) stays_both
          (lacking before (lacking before after)) stay_old (passes (λ r. not (has_row r (lacking before after))) before)

  pub net_applies : Applies key (net_of before after) before
  net_applies = record {
    there = all_filter (λ r. has_row r before ≡ true) (λ r. not (has_row r after)) before (elements before);
    ascending = ascends_filter (key_cmp key) (λ r. not (has_row r before)) after up_after;
    new = new_keys;
  }

module _ (m : ℕ) (net : Net) (old : Kept) (takes : CanTakeNet m net old) (newest : (n : ℕ) → old.last ≤ n → state_at n old.versions ≡ state_at old.last old.versions) where
  abbrev key : List ℕ
  key = old.def.key

  abbrev before : List ARow
  before = shown m old.versions

  last_is : state_at m old.versions ≡ state_at old.last old.versions
  last_is = newest m takes.by

  pub applies : Applies key net (state_at old.last old.versions)
  applies = subst (Applies key net) last_is (subst (λ (n : Net). Applies key n before) (sym takes.leads.net_is) (net_applies key before takes.leads.after takes.leads.from_up takes.leads.after_up))

  pub gone_fewer : length net.minus ≤ length (state_at old.last old.versions)
  gone_fewer =
      subst (λ (rows : List ARow). length net.minus ≤ length rows) last_is
      (subst (λ (n : Net). length n.minus ≤ length before) (sym takes.leads.net_is) (filter_fewer (λ row. not (has_row row takes.leads.after)) before))

  pub few : length (state_at old.last old.versions) ≤ 65535
  few = subst (λ (rows : List ARow). length rows ≤ 65535) last_is takes.few

  -- what `Versions` says of a commit, as a move of a table
  pub table_commits : (number : ℕ) (new : Kept) → number ≡ suc m → new.def ≡ old.def → new.last ≡ number → new.floor ≡ old.floor
      → ((n : ℕ) → number ≤ n → state_at n new.versions ≡ with_net key net (state_at old.last old.versions)) → ((n : ℕ) → n < number → state_at n new.versions ≡ state_at n old.versions)
      → IsPermutation (map (lost number net.minus) old.versions ++ map (new_version number) net.plus) new.versions → TableCommits m net (kept_of old) (kept_of new)
  table_commits number new next def last floor state earlier permuted = record {
    def_stays = def;
    last_by = omega (arith, last, next);
    floor_stays = floor;
    before = λ n le. earlier n (omega (arith, le, next));
    from = λ n lt. state n (omega (arith, lt, next)) ∙ ap (with_net key net) (sym last_is);
    versions_are = λ f.
        subst (λ k. sum_by f new.versions ≡ sum_by f (map (lost k net.minus) old.versions ++ map (new_version k) net.plus)) next
        (sum_by-IsPermutation f (map (lost number net.minus) old.versions ++ map (new_version number) net.plus) new.versions permuted);
  }

  pub rows_follow : (rows gone come n : ℕ) (new : Kept) → rows ≡ length (state_at old.last old.versions) → gone ≡ length net.minus → come ≡ length net.plus → state_at n new.versions ≡ with_net key net (state_at old.last old.versions)
      → rows - gone + come ≡ length (state_at n new.versions)
  rows_follow rows gone come n new is minus plus state =
      let whole : length (state_at n new.versions) ≡ length takes.leads.after =
      ap length (state ∙ ap (with_net key net) (sym last_is) ∙ ap (λ (x : Net). with_net key x before) takes.leads.net_is ∙ net_leads key before takes.leads.after takes.leads.from_up takes.leads.after_up) in
      let counted : length before + length net.plus - length net.minus ≡ length takes.leads.after =
      ap (rows_after (length before)) takes.leads.net_is ∙ rows_counted key before takes.leads.after takes.leads.from_up takes.leads.after_up in
      omega (arith, whole, counted, gone_fewer, is, minus, plus, ap length last_is)

-- a net change of no row leaves a table as it is
pub unchanged : (m : ℕ) (net : Net) (k : Kept) → CanTakeNet m net k → ((n : ℕ) → k.last ≤ n → state_at n k.versions ≡ state_at k.last k.versions) → net ≡ no_net → TableCommits m net (kept_of k) (kept_of k)
unchanged m net k takes newest is = subst (λ (n : Net). TableCommits m n (kept_of k) (kept_of k)) (sym is) record {
  def_stays = refl;
  last_by = omega (arith, takes.by);
  floor_stays = refl;
  before = λ n le. refl;
  from = λ n above. newest n (omega (arith, above, takes.by)) ∙ sym (newest m takes.by) ∙ sym (no_change k.def.key (shown m k.versions) takes.leads.from_up);
  versions_are = λ f. ap (sum_by f) (sym (append-nil (map (lost (suc m) []) k.versions) ∙ lost_none (suc m) k.versions));
}
