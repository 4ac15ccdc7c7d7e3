-- A commit leaves the last state with the net change applied.
use Rattle.std.proofs.Common.{◌≡◌, ℕ, ◌<◌, ◌≤◌, min, Bool, true, false, cond, List, [], ◌∷◌, ◌++◌, filter, map, Option, Some, None, refl, sym, ap, ap₂, ◌∙◌, subst, arith}
use Rattle.std.specs.Prelude.{◌&&◌, ◌||◌, nat_le, nat_lt, not}
use Rattle.std.specs.List.{AllByRecursion, list_any}
use Rattle.std.proofs.lemmas.Bool.Decides.{nat_tests}
use Rattle.std.proofs.lemmas.Cmp.{tied_itself}
use Rattle.lv_values.specs.OrderLaws.{row_total}
use Rattle.std.specs.List.Sorted.{IsPermutation}
use Rattle.std.specs.Ordering.{is_eq, ordering_reverse}
use Rattle.std.specs.declared.cmp.Ordering.TheVariants.{Equal}
use Rattle.std.proofs.lemmas.List.Folds.{list_any-append}
use Rattle.lv_values.specs.declared.value.Value.{Value}
use Rattle.lv_values.specs.Order.{row_cmp, row_eq}
use Rattle.lv_values.specs.Rows.{key_cmp, values_at}
use Rattle.lv_schema.specs.declared.net.Net.{Net}
use Rattle.lv_schema.specs.Effects.{has_key, same_key}
use Rattle.lv_schema.specs.Nets.{has_row, lacking, with_net}
use Rattle.lv_schema.specs.Once.{Ascends}
use Rattle.lv_schema.specs.Versions.{end_by}
use Rattle.lv_schema.proofs.Apart.{Untied, all_weaker, apart_append, apart_filter, ascends_apart, ascends_ascending}
use Rattle.lv_schema.proofs.NetsLead.{any_ascending, any_lacking, key_total, one_of_key, only_rows, row_itself, same_row}
use Rattle.lv_schema.specs.declared.version.RowVersion.{RowVersion}
use Rattle.lv_shelf.specs.Cuts.{Apart}
use Rattle.lv_versions.specs.Versions.{Applies, AreNew, AreVersions, CameBefore, EndsFrom, IsBy, IsNewTo, Lived, Precedes, closed, ends_after, is_at, lost, new_version, soonest_after, state_at, with_versions}
use Rattle.lv_versions.proofs.Bringing.{all_with, new_to_all, with_before, with_from, with_permutes}
use Rattle.lv_versions.proofs.Ending.{end_twice, lost_before, lost_by, lost_earlier, lost_from, lost_kept, lost_none, or_comm}
use Rattle.lv_versions.proofs.Standing.{state_ascends, true_not_false}

pub all_earlier : (last number : ℕ) (vs : List RowVersion) → last < number → AllByRecursion (IsBy last) vs → AllByRecursion (λ v. v.from < number) vs
all_earlier last number vs lt a = all_weaker (IsBy last) (λ v. v.from < number) (λ v h. omega (arith, h.0)) vs a

-- what ends now came before
lived_end : (from number : ℕ) (u : Option ℕ) (b : Bool) → from < number → CameBefore from u → CameBefore from (end_by u b number)
lived_end from number None true lt h = tt
lived_end from number None false lt h = lt
lived_end from number (Some k) b lt h = h

lost_lived : (number : ℕ) (rows : List (List Value)) (vs : List RowVersion) → AllByRecursion (λ v. v.from < number) vs → AllByRecursion Lived vs → AllByRecursion Lived (map (lost number rows) vs)
lost_lived number rows [] a b = tt
lost_lived number rows (v ∷ vs) a b = (lived_end v.from number v.until (not (has_row v.row rows)) a.0 b.0, lost_lived number rows vs a.1 b.1)

-- ---- rows and their keys
or_true : (b : Bool) → (b || true) ≡ true
or_true true = refl
or_true false = refl

or_parts : (b c : Bool) → (b || c) ≡ false → (b ≡ false) × (c ≡ false)
or_parts true c e = cc
or_parts false c e = (refl, e)

tied_keys : (ps : List ℕ) (a b : List Value) → same_key ps a b ≡ true → values_at ps a ≡ values_at ps b
tied_keys ps a b e = same_row (values_at ps a) (values_at ps b) e

-- a row that is there has its key there
row_keyed : (ps : List ℕ) (row : List Value) (rows : List (List Value)) → has_row row rows ≡ true → has_key ps row rows ≡ true
row_keyed ps row [] h = cc
row_keyed ps row (r ∷ rows) h = by (row_eq row r) refl h (λ h'. row_keyed ps row rows h')
  where
    by : (t : Bool) → row_eq row r ≡ t → (t || has_row row rows) ≡ true → (has_row row rows ≡ true → has_key ps row rows ≡ true) → has_key ps row (r ∷ rows) ≡ true
    by true e h' ih =
        let same : row ≡ r = same_row row r e in
        ap (λ b. b || has_key ps row rows) (subst (λ z. row_eq (values_at ps row) (values_at ps z) ≡ true) same (row_itself (values_at ps row)))
    by false e h' ih = ap (λ b. same_key ps row r || b) (ih h') ∙ or_true (same_key ps row r)

-- of two rows that are there with one key, one is not among others that lack the other one
other_keyed : (ps : List ℕ) (before : List (List Value)) → Ascends (key_cmp ps) before → (row : List Value) → has_row row before ≡ true → (rows : List (List Value)) → AllByRecursion (λ m. has_row m before ≡ true) rows → has_row row rows ≡ false
    → has_key ps row rows ≡ false
other_keyed ps before up row there [] a h = refl
other_keyed ps before up row there (m ∷ rows) a h = by (same_key ps row m) refl (other_keyed ps before up row there rows a.1 (or_parts (row_eq row m) (has_row row rows) h).1)
  where
    by : (t : Bool) → same_key ps row m ≡ t → has_key ps row rows ≡ false → (t || has_key ps row rows) ≡ false
    by true e ih =
        let tie : key_cmp ps row m ≡ Equal = subst (λ k. row_cmp (values_at ps row) k ≡ Equal) (tied_keys ps row m e) (tied_itself row_total (values_at ps row)) in
        let same : row ≡ m = one_of_key ps before up row m there a.0 tie in
        absurd (true_not_false (row_eq row m) (subst (λ z. row_eq row z ≡ true) same (row_itself row)) (or_parts (row_eq row m) (has_row row rows) h).0)
    by false e ih = ih

-- rows whose keys others lack
new_keyed : (ps : List ℕ) (others : List (List Value)) (row : List Value) → has_row row others ≡ true → (rows : List (List Value)) → AllByRecursion (λ p. has_key ps p others ≡ false) rows → has_key ps row rows ≡ false
new_keyed ps others row there [] a = refl
new_keyed ps others row there (p ∷ rows) a = by (same_key ps row p) refl (new_keyed ps others row there rows a.1)
  where
    by : (t : Bool) → same_key ps row p ≡ t → has_key ps row rows ≡ false → (t || has_key ps row rows) ≡ false
    by true e ih = absurd (true_not_false (has_key ps p others) (subst (λ k. list_any (λ r. row_eq k (values_at ps r)) others ≡ true) (tied_keys ps row p e) (row_keyed ps row others there)) a.0)
    by false e ih = ih

-- the row of a version that has not ended is there
open_there : (last : ℕ) (us : List RowVersion) → AllByRecursion (IsBy last) us → AllByRecursion (λ v. v.until ≡ None → has_row v.row (state_at last us) ≡ true) us
open_there last [] a = tt
open_there last (v ∷ us) a =
    (first, all_weaker (λ w. w.until ≡ None → has_row w.row (state_at last us) ≡ true) (λ w. w.until ≡ None → has_row w.row (state_at last (v ∷ us)) ≡ true) (λ w f e. more w (is_at last v) (f e)) us (open_there last us a.1))
  where
    first : v.until ≡ None → has_row v.row (state_at last (v ∷ us)) ≡ true
    first e =
        let came : nat_le v.from last ≡ true = let h = a.0.0 in grind (arith, nat_tests) in
        let shown : is_at last v ≡ true = ap₂ (λ s t. s && t) came (ap (ends_after last) e) in
        rw shown (ap (λ b. b || has_row v.row (state_at last us)) (row_itself v.row))

    more : (w : RowVersion) (t : Bool) → has_row w.row (state_at last us) ≡ true → has_row w.row (map (λ (u : RowVersion). u.row) (cond t (v ∷ filter (is_at last) us) (filter (is_at last) us))) ≡ true
    more w true h = ap (λ b. row_eq w.row v.row || b) h ∙ or_true (row_eq w.row v.row)
    more w false h = h

module _ (ps : List ℕ) (last floor number : ℕ) (net : Net) (vs : List RowVersion) (lt : last < number) (above : floor < number) (held : AreVersions ps last floor vs) (applies : Applies ps net (state_at last vs)) where
  abbrev left : List RowVersion
  left = map (lost number net.minus) vs

  abbrev after : List RowVersion
  after = with_versions ps number net.plus left

  abbrev before : List (List Value)
  before = state_at last vs

  left_state : (n : ℕ) → number ≤ n → state_at n left ≡ lacking before net.minus
  left_state n le = lost_from last number n net.minus vs lt le held.each

  pub are_new : AreNew ps number net.plus left
  are_new = record {
    apart = ascends_apart (key_total ps) net.plus applies.ascending;
    new = all_weaker (λ row. has_key ps row (lacking before net.minus) ≡ false) (λ row. AllByRecursion (IsNewTo ps number row) left)
        (λ row h. new_to_all ps number row left (lost_earlier number net.minus vs (all_earlier last number vs lt held.each)) (lost_by last number net.minus vs (omega (arith, lt)) held.each)
        (ap (has_key ps row) (left_state number (omega arith)) ∙ h))
        net.plus applies.new;
  }

  -- of the rows that are there, those whose keys the net change has are those that it takes away
  keyed : (row : List Value) → has_row row before ≡ true → (has_key ps row net.minus || has_key ps row net.plus) ≡ has_row row net.minus
  keyed row there = by (has_row row net.minus) refl
    where
      by : (t : Bool) → has_row row net.minus ≡ t → (has_key ps row net.minus || has_key ps row net.plus) ≡ has_row row net.minus
      by true e = ap (λ b. b || has_key ps row net.plus) (row_keyed ps row net.minus e) ∙ sym e
      by false e =
          let stays : has_row row (lacking before net.minus) ≡ true = any_lacking row before net.minus ∙ ap₂ (λ s t. not s && t) e there in
          ap₂ (λ s t. s || t) (other_keyed ps before (state_ascends ps last vs held.order) row there net.minus applies.there e) (new_keyed ps (lacking before net.minus) row stays net.plus applies.new) ∙ sym e

  closed_lost : (v : RowVersion) → v.from < number → (v.until ≡ None → has_row v.row before ≡ true) → closed ps number net.plus (closed ps number net.minus v) ≡ lost number net.minus v
  closed_lost v came there = ap (λ (u : Option ℕ). record v { until = u }) (by v.until refl)
    where
      a : Bool
      a = nat_lt v.from number && has_key ps v.row net.minus

      b : Bool
      b = nat_lt v.from number && has_key ps v.row net.plus

      t : nat_lt v.from number ≡ true
      t = grind (arith, nat_tests)

      by : (u : Option ℕ) → v.until ≡ u → end_by (end_by v.until (not a) number) (not b) number ≡ end_by v.until (not (has_row v.row net.minus)) number
      by (Some k) e = rw e refl
      by None e =
          end_twice v.until a b number
          ∙ ap (λ s. end_by v.until (not ((s && has_key ps v.row net.minus) || (s && has_key ps v.row net.plus))) number) t
          ∙ ap (λ s. end_by v.until (not s) number) (keyed v.row (there e))

  -- so the versions of the rows that it takes away are those of its keys
  pub closed_left : map (closed ps number net.plus) (map (closed ps number net.minus) vs) ≡ left
  closed_left = go vs (all_earlier last number vs lt held.each) (open_there last vs held.each)
    where
      go : (ws : List RowVersion) → AllByRecursion (λ v. v.from < number) ws → AllByRecursion (λ v. v.until ≡ None → has_row v.row before ≡ true) ws
          → map (closed ps number net.plus) (map (closed ps number net.minus) ws) ≡ map (lost number net.minus) ws
      go [] a b = refl
      go (w ∷ ws) a b = ap₂ (λ x l. x ∷ l) (closed_lost w a.0 b.0) (go ws a.1 b.1)

  pub after_is : Apart (Precedes ps) after → AreVersions ps number floor after
  after_is order = record {
    order = order;
    each = all_with (IsBy number) ps number net.plus left (λ row. (omega arith, tt)) (lost_by last number net.minus vs (omega (arith, lt)) held.each);
    kept = all_with (λ v. ends_after floor v.until ≡ true) ps number net.plus left (λ row. refl) (lost_kept floor number net.minus vs above held.kept);
    lived = all_with Lived ps number net.plus left (λ row. tt) (lost_lived number net.minus vs (all_earlier last number vs lt held.each) held.lived);
  }

  pub after_versions : IsPermutation (left ++ map (new_version number) net.plus) after
  after_versions = with_permutes ps number net.plus left

  pub after_before : (n : ℕ) → n < number → state_at n after ≡ state_at n vs
  after_before n below = with_before ps number n net.plus left below ∙ lost_before number n net.minus vs below

  -- the rows that stay and those that come have different keys
  untied_all : (p : List Value) (rows : List (List Value)) → has_key ps p rows ≡ false → AllByRecursion (λ s. key_cmp ps s p ≡ Equal → ⊥) rows
  untied_all p [] h = tt
  untied_all p (s ∷ rows) h = (untied, untied_all p rows (or_parts (row_eq (values_at ps p) (values_at ps s)) (has_key ps p rows) h).1)
    where
      untied : key_cmp ps s p ≡ Equal → ⊥
      untied e =
          let back : key_cmp ps p s ≡ Equal = (key_total ps).antisymm p s ∙ ap ordering_reverse e in
          let t : row_eq (values_at ps p) (values_at ps s) ≡ true = ap is_eq back in
          let f = (or_parts (row_eq (values_at ps p) (values_at ps s)) (has_key ps p rows) h).0 in
          cc

  all_swap : {X Y : Type 0} (R : X → Y → Type 0) (xs : List X) (ys : List Y) → AllByRecursion (λ y. AllByRecursion (λ x. R x y) xs) ys → AllByRecursion (λ x. AllByRecursion (R x) ys) xs
  all_swap R [] ys a = tt
  all_swap {X} {Y} R (x ∷ xs) ys a =
      (all_weaker (λ y. AllByRecursion (λ z. R z y) (x ∷ xs)) (R x) (λ y h. h.0) ys a, all_swap R xs ys (all_weaker (λ y. AllByRecursion (λ z. R z y) (x ∷ xs)) (λ y. AllByRecursion (λ z. R z y) xs) (λ y h. h.1) ys a))

  apart_rows : Ascends (key_cmp ps) before → Apart (Untied (key_total ps)) (lacking before net.minus ++ net.plus)
  apart_rows up =
      apart_append (Untied (key_total ps)) (lacking before net.minus) net.plus
      (apart_filter (Untied (key_total ps)) (λ row. not (has_row row net.minus)) before (ascends_apart (key_total ps) before up))
      (ascends_apart (key_total ps) net.plus applies.ascending)
      (all_swap (Untied (key_total ps)) (lacking before net.minus) net.plus
      (all_weaker (λ p. has_key ps p (lacking before net.minus) ≡ false) (λ p. AllByRecursion (λ s. Untied (key_total ps) s p) (lacking before net.minus)) (λ p h. untied_all p (lacking before net.minus) h) net.plus applies.new))

  pub after_state : Apart (Precedes ps) after → (n : ℕ) → number ≤ n → state_at n after ≡ with_net ps net before
  after_state order n le =
      only_rows (key_total ps) (state_at n after) (with_net ps net before)
      (state_ascends ps n after order)
      (ascends_ascending (key_total ps) (lacking before net.minus ++ net.plus) (apart_rows (state_ascends ps last vs held.order)))
      (λ q. with_from ps number n net.plus q left le
      ∙ ap (λ l. has_row q net.plus || has_row q l) (left_state n le)
      ∙ or_comm (has_row q net.plus) (has_row q (lacking before net.minus))
      ∙ sym (any_ascending (key_cmp ps) q (lacking before net.minus ++ net.plus) ∙ list_any-append (row_eq q) (lacking before net.minus) net.plus))

-- ---- the soonest end
ends_sooner : (soonest less : ℕ) (u : Option ℕ) → less ≤ soonest → EndsFrom soonest u → EndsFrom less u
ends_sooner soonest less None le h = tt
ends_sooner soonest less (Some k) le h = omega (arith, h)

lost_end : (soonest number : ℕ) (row : List Value) (rows : List (List Value)) (u : Option ℕ) (b : Bool) → EndsFrom soonest u → EndsFrom (min soonest number) (end_by u b number)
lost_end soonest number row rows None true h = tt
lost_end soonest number row rows None false h = omega arith
lost_end soonest number row rows (Some k) b h = omega (arith, h)

lost_ends : (soonest number : ℕ) (rows : List (List Value)) (vs : List RowVersion) → AllByRecursion (λ v. EndsFrom soonest v.until) vs → AllByRecursion (λ v. EndsFrom (soonest_after soonest number rows) v.until) (map (lost number rows) vs)
lost_ends soonest number [] vs a = subst (AllByRecursion (λ (v : RowVersion). EndsFrom soonest v.until)) (sym (lost_none number vs)) a
lost_ends soonest number (row ∷ rows) [] a = tt
lost_ends soonest number (row ∷ rows) (v ∷ vs) a = (lost_end soonest number row rows v.until (not (has_row v.row (row ∷ rows))) a.0, lost_ends soonest number (row ∷ rows) vs a.1)

pub after_ends : (ps : List ℕ) (soonest number : ℕ) (net : Net) (vs : List RowVersion) → AllByRecursion (λ v. EndsFrom soonest v.until) vs
    → AllByRecursion (λ v. EndsFrom (soonest_after soonest number net.minus) v.until) (with_versions ps number net.plus (map (lost number net.minus) vs))
after_ends ps soonest number net vs a =
    all_with (λ v. EndsFrom (soonest_after soonest number net.minus) v.until) ps number net.plus (map (lost number net.minus) vs) (λ row. tt) (lost_ends soonest number net.minus vs a)
