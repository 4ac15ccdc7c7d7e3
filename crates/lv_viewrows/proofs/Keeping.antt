-- An install that its conditions allow leaves what a view keeps in order, and the rows that it is to show.
use Rattle.std.proofs.Common.{◌≡◌, ℕ, ◌<◌, ◌≤◌, ◌⊎◌, inl, Bool, true, false, List, map, length, Option, Some, None, refl, sym, ap, ◌∙◌, subst, arith}
use Rattle.std.specs.Prelude.{if◌then◌else◌}
use Rattle.std.specs.List.{AllByRecursion}
use Rattle.lv_schema.specs.declared.signed.SignedRow.{SignedRow}
use Rattle.lv_schema.specs.declared.view.ViewDef.{ViewDef}
use Rattle.lv_schema.specs.Applicable.{AreNetted, ApplyToGroups, ApplyToRows, with_changes}
use Rattle.lv_schema.specs.Differences.{summed_columns}
use Rattle.lv_schema.specs.SignedRows.{entries_of}
use Rattle.lv_schema.specs.Versions.{ends_after}
use Rattle.lv_schema.proofs.Apart.{all_true, all_weaker}
use Rattle.lv_group.specs.Gathered.{has_tuples, rows_of}
use Rattle.lv_shelf.specs.Cuts.{Apart}
use Rattle.lv_viewrows.specs.declared.version.GroupVersion.{GroupVersion}
use Rattle.lv_viewrows.specs.Changed.{CanInstall, groups_with, sums_of}
use Rattle.lv_viewrows.specs.Kept.{ViewKept, groups_at, rows_listed, shown}
use Rattle.lv_viewrows.specs.Standing.{AreVersions, EndsAtMost, IsBy, IsRow, MeetAll, Precedes, changed_all, current, joined, pruned}
use Rattle.lv_viewrows.proofs.Installing.{Fits, all_changed, all_met, entries_now, groups_after, groups_fit, now_ascend, now_rows, pruned_groups, some_kept}
use Rattle.lv_viewrows.proofs.Pruned.{all_stand}
use Rattle.lv_viewrows.proofs.RowsOfJoins.{IsOneRow, row_of, rows_changed_are, rows_fit, rows_made}

pub not_either : true ≡ false → ⊥
not_either e = cc

-- a join view shows its groups' rows
pub join_listed : (view : ViewDef) (groups : List SignedRow) → view.grouped ≡ false → rows_listed view groups ≡ map row_of groups
join_listed view groups e = ap (λ b. if b then rows_of (record { by = view.groups; items = view.items; groups = groups; spare = 0 }) else map row_of groups) e

pub group_listed : (view : ViewDef) (groups : List SignedRow) → view.grouped ≡ true → rows_listed view groups ≡ rows_of (record { by = view.groups; items = view.items; groups = groups; spare = 0 })
group_listed view groups e = ap (λ b. if b then rows_of (record { by = view.groups; items = view.items; groups = groups; spare = 0 }) else map row_of groups) e

-- what a view can take is told from its groups at its point
pub can_still : (kept new : ViewKept) (hi : ℕ) (list : List SignedRow) → new.def ≡ kept.def → new.at ≡ kept.at → groups_at kept.at new.versions ≡ groups_at kept.at kept.versions → CanInstall kept hi list → CanInstall new hi list
can_still kept new hi list def at same can = record {
  later = subst (λ (n : ℕ). n < hi) (sym at) can.later;
  netted = subst (λ (view : ViewDef). AreNetted (sums_of view) list) (sym def) can.netted;
  rows = λ e. subst (λ r. ApplyToRows r list) (sym shows) (can.rows (ap (λ (view : ViewDef). view.grouped) (sym def) ∙ e));
  groups = λ e. subst (λ g. ApplyToGroups g list) (sym there) (can.groups (ap (λ (view : ViewDef). view.grouped) (sym def) ∙ e));
}
  where
    there : groups_at new.at new.versions ≡ groups_at kept.at kept.versions
    there = ap (λ n. groups_at n new.versions) at ∙ same

    shows : shown new.at new ≡ shown kept.at kept
    shows = λ i. rows_listed (def i) (there i)

-- a view k that an answer sees as kept, which can take the changes
module _ {k kept : ViewKept} (is : k ≡ kept) (held : AreVersions k.def k.at k.versions) (hi : ℕ) (list : List SignedRow) (asked : CanInstall kept hi list) where
  can : CanInstall k hi list
  can = subst (λ w. CanInstall w hi list) (sym is) asked

  abbrev now : List SignedRow
  now = groups_at k.at k.versions

  abbrev after : List GroupVersion
  after = changed_all hi list k.versions

  plain : k.def.grouped ≡ false → AllByRecursion (λ s. length s.sums ≡ 0) list
  plain e = subst (λ n. AllByRecursion (λ (s : SignedRow). length s.sums ≡ n) list) (ap (λ b. if b then length (summed_columns k.def) else 0) e) can.netted.sums

  apply : k.def.grouped ≡ false → ApplyToRows (map row_of now) list
  apply e = subst (λ r. ApplyToRows r list) (join_listed k.def now e) (can.rows e)

  fit : AllByRecursion (Fits now) list
  fit = by k.def.grouped refl
    where
      by : (b : Bool) → k.def.grouped ≡ b → AllByRecursion (Fits now) list
      by true e = groups_fit k.def k.at k.versions held list (can.groups e)
      by false e = rows_fit now list (now_ascend k.def k.at k.versions held) can.netted.ascend (now_rows k.def k.at k.versions held e) (apply e) (plain e)

  pub meet : AllByRecursion (MeetAll hi k.versions) list
  meet = all_met k.def k.at k.versions held hi can.later list fit

  made : k.def.grouped ≡ false → AllByRecursion (λ s. has_tuples (joined (current s.row k.versions) s) ≡ true → IsOneRow (joined (current s.row k.versions) s)) list
  made e =
      all_weaker (λ s. has_tuples (joined (entries_of s.row now) s) ≡ true → IsOneRow (joined (entries_of s.row now) s)) (λ s. has_tuples (joined (current s.row k.versions) s) ≡ true → IsOneRow (joined (current s.row k.versions) s))
      (λ s f. subst (λ gs. has_tuples (joined gs s) ≡ true → IsOneRow (joined gs s)) (entries_now k.def k.at k.versions held s.row) f) list
      (rows_made now list (now_ascend k.def k.at k.versions held) can.netted.ascend (now_rows k.def k.at k.versions held e) (apply e) (plain e))

  module _ (vs : List GroupVersion) (changed : vs ≡ after) (order : Apart Precedes vs) (each : AllByRecursion (IsBy hi) vs) where
    pub kept_after : AreVersions k.def hi vs
    kept_after = record {
      order = order;
      each = each;
      counts = subst (AllByRecursion (λ v. has_tuples v.group ≡ true)) (sym changed) (all_changed (λ s. has_tuples s ≡ true) hi list k.versions can.netted.ascend held.counts (all_true (λ s. has_tuples (joined (current s.row k.versions) s) ≡ true → has_tuples (joined (current s.row k.versions) s) ≡ true) (λ s e. e) list));
      rows = λ e. subst (AllByRecursion IsRow) (sym changed) (all_changed IsOneRow hi list k.versions can.netted.ascend (held.rows e) (made e));
    }

    groups_now : (n : ℕ) → hi ≤ n → groups_at n vs ≡ groups_with list now
    groups_now n le =
        ap (groups_at n) changed ∙ groups_after k.def k.at k.versions held hi list can.netted.ascend (subst (Apart Precedes) changed order) (subst (AllByRecursion (IsBy hi)) changed each) n le

    pub now_after : (n : ℕ) → hi ≤ n → groups_at n vs ≡ groups_with list (groups_at kept.at kept.versions)
    now_after n le = groups_now n le ∙ ap (λ (w : ViewKept). groups_with list (groups_at w.at w.versions)) is

    pub shown_after : kept.def.grouped ≡ false → (n : ℕ) → hi ≤ n → rows_listed k.def (groups_at n vs) ≡ with_changes list (shown kept.at kept)
    shown_after join n le =
        let e = ap (λ (w : ViewKept). w.def.grouped) is ∙ join in
        ap (rows_listed k.def) (groups_now n le)
        ∙ join_listed k.def (groups_with list now) e
        ∙ rows_changed_are now list (now_ascend k.def k.at k.versions held) can.netted.ascend (now_rows k.def k.at k.versions held e) (apply e) (plain e)
        ∙ ap (with_changes list) (sym (join_listed k.def now e))
        ∙ ap (λ (w : ViewKept). with_changes list (shown w.at w)) is

  -- the same without what ended by the commit
  each_by : (vs : List GroupVersion) → AllByRecursion (IsBy k.at) vs → AllByRecursion (IsBy hi) vs
  each_by vs a = all_weaker (IsBy k.at) (IsBy hi) (λ v h. (let lt = can.later in omega (arith, lt, h.0), ends_later v.until h.1)) vs a
    where
      ends_later : (u : Option ℕ) → EndsAtMost k.at u → EndsAtMost hi u
      ends_later None h = tt
      ends_later (Some n) h = let lt = can.later in omega (arith, lt, h)

  stands : Apart Precedes after × AllByRecursion (IsBy hi) after
  stands = all_stand hi list k.versions held.order (each_by k.versions held.each) can.netted.ascend meet

  module _ (vs : List GroupVersion) (changed : vs ≡ pruned hi after) where
    pub kept_pruned : AreVersions k.def hi vs
    kept_pruned = subst (AreVersions k.def hi) (sym changed) (some_kept k.def hi (λ v. ends_after hi v.until) after (kept_after after refl stands.0 stands.1))

    groups_pruned : (n : ℕ) → hi ≤ n → groups_at n vs ≡ groups_at n after
    groups_pruned n le = ap (groups_at n) changed ∙ pruned_groups n hi hi after stands.1 (inl le)

    pub now_pruned : (n : ℕ) → hi ≤ n → groups_at n vs ≡ groups_with list (groups_at kept.at kept.versions)
    now_pruned n le = groups_pruned n le ∙ now_after after refl stands.0 stands.1 n le

    pub shown_pruned : kept.def.grouped ≡ false → (n : ℕ) → hi ≤ n → rows_listed k.def (groups_at n vs) ≡ with_changes list (shown kept.at kept)
    shown_pruned join n le = ap (rows_listed k.def) (groups_pruned n le) ∙ shown_after after refl stands.0 stands.1 join n le
