-- What is near in a joined step is near in one of its two steps, and what is far in it is far in one of them; so its cost is
-- at most theirs.
use Rattle.std.proofs.Common.{◌≡◌, ℕ, suc, ◌+◌, ◌<◌, ◌≤◌, Bool, true, false, cond, not, List, [], ◌∷◌, length, refl, sym, ap, ◌∙◌, subst, arith}
use Rattle.std.specs.Prelude.{◌⊎◌}
use Rattle.std.specs.List.{filter, sum_by}
use mathlib.Core.Logic.{inl, inr}
use Rattle.lv_values.specs.declared.value.Value.{Value}
use Rattle.lv_schema.specs.declared.part.Part.{Part}
use Rattle.lv_schema.specs.Nets.{has_row}
use Rattle.lv_schema.specs.Once.{are_apart}
use Rattle.lv_reach.specs.declared.link.Link.{Link}
use Rattle.lv_reach.specs.declared.rows.AliasRow.{AliasRow}
use Rattle.lv_reach.specs.Cost.{IsReach, cost, looked_up, neighbours, whole_from}
use Rattle.lv_reach.specs.Reach.{alike, has_alias_row, part_at, is_changed, agree, old_rows, Leads, IsNear, IsFar}
use Rattle.lv_reach.proofs.Costing.{sum_within}
use Rattle.lv_reach.proofs.Gathering.{all_old, among, filter_there, old_there}
use Rattle.lv_reach.proofs.NearLaws.{agreeing_near, changed_near}
use Rattle.lv_joining.proofs.Sums.{IsOneToOne, apart_filtered, fewer_into, from_filter, split_sum, sum_into}

-- whether a row stands before a step, and whether it changes
abbrev pub stood : List Part → AliasRow → Bool
stood parts a = has_row a.row (part_at parts a.alias).old

abbrev pub changes : List Part → AliasRow → Bool
changes parts a = is_changed (part_at parts a.alias) a.row

-- the parts of a joined step, and those of its two steps
pub record AreJoined (whole one two : List Part) : Type 0 where
  pub many_one : length one ≡ length whole
  pub many_two : length two ≡ length whole
  pub old : old_rows whole ≡ old_rows one
  pub old_at : (j : ℕ) → (part_at whole j).old ≡ (part_at one j).old
  pub once : are_apart alike (old_rows whole) ≡ true
  pub changed : (a : AliasRow) → changes whole a ≡ true → (changes one a ≡ true) ⊎ (changes two a ≡ true)
  pub kept : (a : AliasRow) → changes one a ≡ false → stood whole a ≡ stood two a

-- each row before the joined step has one before the second step that agrees with the same rows
pub record Moves (links : List Link) (whole two : List Part) (move : AliasRow → AliasRow) : Type 0 where
  pub there : (a : AliasRow) → stood whole a ≡ true → stood two (move a) ≡ true
  pub stays : (a : AliasRow) → stood whole a ≡ true → stood two a ≡ true → move a ≡ a
  pub one : (a b : AliasRow) → stood whole a ≡ true → stood whole b ≡ true → move a ≡ move b → a ≡ b
  pub left : (a b : AliasRow) → stood whole a ≡ true → agree links a b ≡ agree links (move a) b
  pub right : (a b : AliasRow) → stood whole b ≡ true → agree links a b ≡ agree links a (move b)
  pub few : (j : ℕ) → j < length whole → length (part_at whole j).old ≤ length (part_at two j).old

yes_no : true ≡ false → ⊥
yes_no e = cc

-- the rows of far aliases; the aliases count from i
module _ (far far_one far_two : ℕ → Bool) where
  flag_within : (b c d : Bool) (n m k : ℕ) → (b ≡ true → (c ≡ true) ⊎ (d ≡ true)) → n ≤ m → n ≤ k → cond b n 0 ≤ cond c m 0 + cond d k 0
  flag_within false c d n m k h le lf = omega arith
  flag_within true c d n m k h le lf = by (h refl)
    where
      by : (c ≡ true) ⊎ (d ≡ true) → n ≤ cond c m 0 + cond d k 0
      by (inl e) = let is : cond c m 0 ≡ m = ap (λ t. cond t m 0) e in omega (arith, is, le)
      by (inr e) = let is : cond d k 0 ≡ k = ap (λ t. cond t k 0) e in omega (arith, is, lf)

  whole_within : (i : ℕ) (whole one two : List Part) → length one ≡ length whole → length two ≡ length whole
      → ((j : ℕ) → j < length whole → far (i + j) ≡ true → (far_one (i + j) ≡ true) ⊎ (far_two (i + j) ≡ true))
      → ((j : ℕ) → j < length whole → length (part_at whole j).old ≤ length (part_at one j).old)
      → ((j : ℕ) → j < length whole → length (part_at whole j).old ≤ length (part_at two j).old)
      → whole_from far i whole ≤ whole_from far_one i one + whole_from far_two i two
  whole_within i [] one two m n h le lf = omega arith
  whole_within i (p ∷ whole) [] two m n h le lf = absurd (let none : 0 ≡ suc (length whole) = m in omega (arith, none))
  whole_within i (p ∷ whole) (q ∷ one) [] m n h le lf = absurd (let none : 0 ≡ suc (length whole) = n in omega (arith, none))
  whole_within i (p ∷ whole) (q ∷ one) (r ∷ two) m n h le lf =
      let here : i + 0 ≡ i = omega arith in
      let first = flag_within (far i) (far_one i) (far_two i) (length p.old) (length q.old) (length r.old)
      (subst (λ n. far n ≡ true → (far_one n ≡ true) ⊎ (far_two n ≡ true)) here (h 0 (omega arith))) (le 0 (omega arith)) (lf 0 (omega arith)) in
      let rest = whole_within (suc i) whole one two (omega (arith, m)) (omega (arith, n))
      (λ j lt. let next : i + suc j ≡ suc i + j = omega arith in subst (λ n. far n ≡ true → (far_one n ≡ true) ⊎ (far_two n ≡ true)) next (h (suc j) (omega (arith, lt))))
      (λ j lt. le (suc j) (omega (arith, lt))) (λ j lt. lf (suc j) (omega (arith, lt))) in
      omega (arith, first, rest)

module _ (links : List Link) (whole one two : List Part) (move : AliasRow → AliasRow) (joined : AreJoined whole one two) (moves : Moves links whole two move) where
  -- where a row is in the second step
  abbrev moved : AliasRow → AliasRow
  moved a = cond (stood whole a) (move a) a

  moved_old : (a : AliasRow) → stood whole a ≡ true → moved a ≡ move a
  moved_old a e = ap (λ t. cond t (move a) a) e

  moved_new : (a : AliasRow) → stood whole a ≡ false → moved a ≡ a
  moved_new a e = ap (λ t. cond t (move a) a) e

  -- one that does not change in the first step is where it was
  same : (a : AliasRow) → changes one a ≡ false → moved a ≡ a
  same a e = by (stood whole a) refl
    where
      by : (t : Bool) → stood whole a ≡ t → moved a ≡ a
      by true d = moved_old a d ∙ moves.stays a d (sym (joined.kept a e) ∙ d)
      by false d = moved_new a d

  agrees : (a b : AliasRow) → agree links a b ≡ agree links (moved a) b
  agrees a b = by (stood whole a) refl
    where
      by : (t : Bool) → stood whole a ≡ t → agree links a b ≡ agree links (moved a) b
      by true d = moves.left a b d ∙ ap (λ c. agree links c b) (sym (moved_old a d))
      by false d = ap (λ c. agree links c b) (sym (moved_new a d))

  -- ---- near rows
  reached : (chain : List AliasRow) (a : AliasRow) → Leads links whole chain a → IsNear links one a ⊎ IsNear links two (moved a)
  reached [] a h = by (changes one a) refl (joined.changed a h)
    where
      by : (t : Bool) → changes one a ≡ t → (changes one a ≡ true) ⊎ (changes two a ≡ true) → IsNear links one a ⊎ IsNear links two (moved a)
      by true e either = inl (changed_near links one a e)
      by false e (inl d) = absurd (yes_no (sym d ∙ e))
      by false e (inr d) = inr (subst (IsNear links two) (sym (same a e)) (changed_near links two a d))
  reached (from ∷ chain) a h = by (reached chain from h.2)
    where
      by : IsNear links one from ⊎ IsNear links two (moved from) → IsNear links one a ⊎ IsNear links two (moved a)
      by (inl near) = inl (agreeing_near links one from a near (ap (has_row a.row) (sym (joined.old_at a.alias)) ∙ h.0) h.1)
      by (inr near) =
          let agreeing : agree links (moved from) (move a) ≡ true = sym (moves.right (moved from) a h.0) ∙ sym (agrees from a) ∙ h.1 in
          inr (subst (IsNear links two) (sym (moved_old a h.0)) (agreeing_near links two (moved from) (move a) near (moves.there a h.0) agreeing))

  -- ---- the rows that agree with one
  each_old : (a b : AliasRow) → has_alias_row b (neighbours links whole a) ≡ true → stood whole b ≡ true
  each_old a b h = among (λ c. stood whole c ≡ true) (old_rows whole) b (all_old whole) (from_filter (agree links a) (old_rows whole) b h).0

  as_many : (a : AliasRow) → length (neighbours links whole a) ≤ length (neighbours links two (moved a))
  as_many a = fewer_into move (neighbours links whole a) (neighbours links two (moved a))
      (apart_filtered (agree links a) (old_rows whole) joined.once)
      (λ b c hb hc. moves.one b c (each_old a b hb) (each_old a c hc))
      (λ b h.
      let old = each_old a b h in
      filter_there (agree links (moved a)) (old_rows two) (move b) (old_there two (move b) (moves.there b old))
      (sym (moves.right (moved a) b old) ∙ sym (agrees a b) ∙ (from_filter (agree links a) (old_rows whole) b h).1))

  -- ---- what is looked up
  module _ (near near_one near_two : List AliasRow) (far far_one far_two : ℕ → Bool) (r : IsReach links whole near far) (s : IsReach links one near_one far_one) (t : IsReach links two near_two far_two) where
    abbrev first : AliasRow → Bool
    first a = has_alias_row a near_one

    abbrev firsts : List AliasRow
    firsts = filter first near

    abbrev rest : List AliasRow
    rest = filter (λ a. not (first a)) near

    abbrev weight : AliasRow → ℕ
    weight a = length (neighbours links whole a)

    firsts_within : sum_by weight firsts ≤ looked_up links one near_one
    firsts_within =
        let is : sum_by weight near_one ≡ looked_up links one near_one = ap (λ rows. sum_by (λ a. length (filter (agree links a) rows)) near_one) joined.old in
        omega (arith, is, sum_within weight firsts near_one (apart_filtered first near r.once) (λ a h. (from_filter first near a h).1))

    not_true : (b : Bool) → not b ≡ true → b ≡ false
    not_true true e = cc
    not_true false e = refl

    not_first : (a : AliasRow) → has_alias_row a rest ≡ true → has_alias_row a near_one ≡ false
    not_first a h = not_true (first a) (from_filter (λ a. not (first a)) near a h).1

    -- a changed row that is not near in the first step does not change there
    unchanged : (a : AliasRow) → has_alias_row a rest ≡ true → changes one a ≡ false
    unchanged a h = by (changes one a) refl
      where
        by : (b : Bool) → changes one a ≡ b → changes one a ≡ false
        by true e = absurd (yes_no (sym ((s.near_rows a).1 (changed_near links one a e)) ∙ not_first a h))
        by false e = e

    there_two : (a : AliasRow) → has_alias_row a rest ≡ true → has_alias_row (moved a) near_two ≡ true
    there_two a h = let chain = (r.near_rows a).0 (from_filter (λ a. not (first a)) near a h).0 in by (reached chain.0 a chain.1)
      where
        by : IsNear links one a ⊎ IsNear links two (moved a) → has_alias_row (moved a) near_two ≡ true
        by (inl near) = absurd (yes_no (sym ((s.near_rows a).1 near) ∙ not_first a h))
        by (inr near) = (t.near_rows (moved a)).1 near

    one_to_one : IsOneToOne moved rest
    one_to_one a b ha hb e = sym (same a (unchanged a ha)) ∙ e ∙ same b (unchanged b hb)

    rest_within : sum_by weight rest ≤ looked_up links two near_two
    rest_within = sum_into moved weight (λ a. length (neighbours links two a)) rest near_two (apart_filtered (λ a. not (first a)) near r.once) one_to_one there_two as_many

    looked_up_within : looked_up links whole near ≤ looked_up links one near_one + looked_up links two near_two
    looked_up_within = omega (arith, firsts_within, rest_within, split_sum weight first near)

    -- ---- far aliases
    far_in_one : (j : ℕ) → j < length whole → far j ≡ true → (far_one j ≡ true) ⊎ (far_two j ≡ true)
    far_in_one j lt e = by ((r.far_aliases j lt).0 e)
      where
        lt_one : j < length one
        lt_one = omega (arith, lt, joined.many_one)

        lt_two : j < length two
        lt_two = omega (arith, lt, joined.many_two)

        by : IsFar links whole j → (far_one j ≡ true) ⊎ (far_two j ≡ true)
        by off = at (joined.changed off.from off.changed)
          where
            at : (changes one off.from ≡ true) ⊎ (changes two off.from ≡ true) → (far_one j ≡ true) ⊎ (far_two j ≡ true)
            at (inl c) = inl ((s.far_aliases j lt_one).1 (record { from = off.from; changed = c; apart = off.apart }))
            at (inr c) = inr ((t.far_aliases j lt_two).1 (record { from = off.from; changed = c; apart = off.apart }))

    pub cost_within : cost links whole near far ≤ cost links one near_one far_one + cost links two near_two far_two
    cost_within =
        omega (
          arith,
          looked_up_within,
          whole_within far far_one far_two 0 whole one two joined.many_one joined.many_two
              (λ j lt. let e : j ≡ 0 + j = omega arith in subst (λ n. far n ≡ true → (far_one n ≡ true) ⊎ (far_two n ≡ true)) e (far_in_one j lt)) (λ j lt. omega (arith, ap (λ (rows : List (List Value)). length rows) (joined.old_at j))) moves.few,
        )
