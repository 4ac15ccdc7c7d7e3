-- The differences of steps of a view that follow one another add up to the difference from the first to the last.
use Rattle.std.proofs.Common.{◌≡◌, ℕ, ◌<◌, ◌≤◌, ℤ, pos, ◌+ℤ◌, List, [], ◌∷◌, ◌++◌, map, length, get_or, Some, None, cond, refl, sym, ap, ◌∙◌, subst, arith}
use Rattle.std.specs.Prelude.{slice_set}
use Rattle.std.specs.List.{AllByRecursion, range_with_len}
use Rattle.std.specs.Int.{int_wrap, w128}
use Rattle.std.proofs.lemmas.Int.{ints, int_wrap-add_left}
use Rattle.std.proofs.lemmas.List.{get_or-set_same, length-set, append-nil}
use Rattle.std.proofs.lemmas.List.Elements.{filter-append}
use Rattle.std.proofs.lemmas.List.FromFn.{fill_by_all, get_or-map-range_with_len, length-map-range_with_len}
use Rattle.lv_values.specs.Order.{row_eq}
use Rattle.lv_schema.specs.declared.forced.Forced.{Forced}
use Rattle.lv_schema.specs.declared.signed.SignedRow.{SignedRow}
use Rattle.lv_schema.specs.declared.view.ViewDef.{ViewDef}
use Rattle.lv_schema.specs.Databases.{Db}
use Rattle.lv_schema.specs.Differences.{is_change, summed_columns, view_difference}
use Rattle.lv_schema.specs.Greatest.{end_of}
use Rattle.lv_schema.specs.Groups.{total}
use Rattle.lv_schema.specs.JoinViews.{parts_of}
use Rattle.lv_schema.specs.SignedRows.{entries_of, summed, netted}
use Rattle.lv_schema.specs.UpkeepCases.{with_steps}
use Rattle.lv_schema.specs.World.{World, last, snap, view_at, point}
use Rattle.lv_schema.proofs.ChangeLists.{ARow, same_changes, summed_covers, sum_place}
use Rattle.lv_schema.proofs.DifferencesAddUp.{IsNumber, count_is_number, sum_is_number, changes_say, differences_add_up}
use Rattle.lv_schema.proofs.Totals.{total-append}
use Rattle.lv_stands.specs.Moves.{StepsFollow, changes_of, step_changes}

-- ---- what is added up already may be added up again
swap : (a b : ℤ) → a +ℤ b ≡ b +ℤ a
swap a b = omega (arith, ints)

wrap_within : (a b : ℤ) → int_wrap w128 (a +ℤ int_wrap w128 b) ≡ int_wrap w128 (a +ℤ b)
wrap_within a b = ap (int_wrap w128) (swap a (int_wrap w128 b)) ∙ int_wrap-add_left w128 b a ∙ ap (int_wrap w128) (swap b a)

module _ (n : ℕ) (xs ys : List SignedRow) where
  both : (g : SignedRow → ℤ) (q : ARow) (zs : List SignedRow) → total g (entries_of q (xs ++ zs)) ≡ total g (entries_of q xs) +ℤ total g (entries_of q zs)
  both g q zs = ap (total g) (filter-append (λ s. row_eq q s.row) xs zs) ∙ total-append g (entries_of q xs) (entries_of q zs)

  says : (g : SignedRow → ℤ) → IsNumber g → (q : ARow) → total g (entries_of q (netted n ys)) ≡ g (summed n ys q)
  says g number q = changes_say g number (summed n ys) (λ q. refl) (map (λ (s : SignedRow). s.row) ys) (summed_covers n ys) q

  count_again : (q : ARow) → total (λ s. s.count) (entries_of q (xs ++ netted n ys)) ≡ total (λ s. s.count) (entries_of q (xs ++ ys))
  count_again q =
      both (λ s. s.count) q (netted n ys)
      ∙ ap (λ z. total (λ s. s.count) (entries_of q xs) +ℤ z) (says (λ s. s.count) count_is_number q)
      ∙ sym (both (λ s. s.count) q ys)

  sum_again : (q : ARow) (j : ℕ) → j < n → int_wrap w128 (total (sum_place j) (entries_of q (xs ++ netted n ys))) ≡ int_wrap w128 (total (sum_place j) (entries_of q (xs ++ ys)))
  sum_again q j lt =
      ap (int_wrap w128) (both (sum_place j) q (netted n ys)
      ∙ ap (λ z. total (sum_place j) (entries_of q xs) +ℤ z) (says (sum_place j) (sum_is_number j) q ∙ get_or-map-range_with_len (λ j. int_wrap w128 (total (sum_place j) (entries_of q ys))) 0 n j j (pos 0) lt (omega arith)))
      ∙ wrap_within (total (sum_place j) (entries_of q xs)) (total (sum_place j) (entries_of q ys))
      ∙ ap (int_wrap w128) (sym (both (sum_place j) q ys))

  summed_again : (q : ARow) → summed n (xs ++ netted n ys) q ≡ summed n (xs ++ ys) q
  summed_again q =
      let old : ℕ → ℤ = λ j. int_wrap w128 (total (sum_place j) (entries_of q (xs ++ netted n ys))) in
      let new : ℕ → ℤ = λ j. int_wrap w128 (total (sum_place j) (entries_of q (xs ++ ys))) in
      let sums : map old (range_with_len 0 n) ≡ map new (range_with_len 0 n) =
      fill_by_all new (map old (range_with_len 0 n)) n (pos 0) (length-map-range_with_len old 0 n) (λ k lt. get_or-map-range_with_len old 0 n k k (pos 0) lt (omega arith) ∙ sum_again q k lt) in
      λ i. record { row = q; count = count_again q i; sums = sums i }

  pub netted_again : netted n (xs ++ netted n ys) ≡ netted n (xs ++ ys)
  netted_again =
      same_changes (summed n (xs ++ netted n ys)) (summed n (xs ++ ys)) (map (λ (s : SignedRow). s.row) (xs ++ netted n ys)) (map (λ (s : SignedRow). s.row) (xs ++ ys))
      (summed_covers n (xs ++ netted n ys)) (summed_covers n (xs ++ ys)) (λ q. ap (λ s. cond (is_change s) (Some s) None) (summed_again q))

-- ---- differences of a view
module _ (view : ViewDef) where
  adds_up : (a b c : Db) → netted (length (summed_columns view)) (view_difference view a b ++ view_difference view b c) ≡ view_difference view a c
  adds_up a b c = differences_add_up view (parts_of view.tables a) (parts_of view.tables b) (parts_of view.tables c)

  -- a difference is added up
  alone : (a b : Db) → netted (length (summed_columns view)) (view_difference view a b) ≡ view_difference view a b
  alone a b =
      ap (netted (length (summed_columns view))) (sym (adds_up a a b))
      ∙ netted_again (length (summed_columns view)) [] (view_difference view a a ++ view_difference view a b)
      ∙ adds_up a a b

-- ---- steps that follow one another
module _ (v : ℕ) where
  abbrev after_step : World → Forced → World
  after_step w f = record { visible = w.visible; upkeep = with_steps (f ∷ []) w.upkeep }

  stands_at : (w : World) (f : Forced) → v < length w.upkeep.points → f.view ≡ v → point (after_step w f).upkeep v ≡ f.hi
  stands_at w f long is = subst (λ u. get_or (slice_set w.upkeep.points u f.hi) v 0 ≡ f.hi) (sym is) (get_or-set_same w.upkeep.points v f.hi 0 long)

  still_long : (w : World) (f : Forced) → v < length w.upkeep.points → v < length (after_step w f).upkeep.points
  still_long w f long = omega (arith, long, length-set w.upkeep.points f.view f.hi)

  -- the first one begins at the view's point
  first_is : (w : World) (f : Forced) (fs : List Forced) → f.view ≡ v → StepsFollow w (f ∷ fs) → step_changes w.visible f ≡ view_difference (view_at w.visible.views v) (snap w.visible (point w.upkeep v)) (snap w.visible f.hi)
  first_is w f fs is follow =
      let lo_is : f.lo ≡ point w.upkeep v = sym follow.1 ∙ ap (point w.upkeep) is in
      λ i. view_difference (view_at w.visible.views (is i)) (snap w.visible (lo_is i)) (snap w.visible f.hi)

  -- they end above the view's point, at or below the last commit
  pub steps_rise : (fs : List Forced) (w : World) → v < length w.upkeep.points → StepsFollow w fs → AllByRecursion (λ f. f.view ≡ v) fs → 0 < length fs
      → (point w.upkeep v < end_of (point w.upkeep v) fs) × (end_of (point w.upkeep v) fs ≤ last w.visible)
  steps_rise [] w long follow own some = absurd (omega arith)
  steps_rise (f ∷ []) w long follow own some =
      let lo_is : f.lo ≡ point w.upkeep v = sym follow.1 ∙ ap (point w.upkeep) own.0 in
      (omega (arith, lo_is, follow.0.rises), follow.0.within)
  steps_rise (f ∷ g ∷ fs) w long follow own some =
      let lo_is : f.lo ≡ point w.upkeep v = sym follow.1 ∙ ap (point w.upkeep) own.0 in
      let rest = steps_rise (g ∷ fs) (after_step w f) (still_long w f long) follow.2 own.1 (omega arith) in
      let at = stands_at w f long own.0 in
      (omega (arith, lo_is, follow.0.rises, rest.0, at), rest.1)

  pub steps_add_up : (fs : List Forced) (w : World) → v < length w.upkeep.points → StepsFollow w fs → AllByRecursion (λ f. f.view ≡ v) fs → 0 < length fs
      → netted (length (summed_columns (view_at w.visible.views v))) (changes_of w.visible fs) ≡ view_difference (view_at w.visible.views v) (snap w.visible (point w.upkeep v)) (snap w.visible (end_of (point w.upkeep v) fs))
  steps_add_up [] w long follow own some = absurd (omega arith)
  steps_add_up (f ∷ []) w long follow own some =
      let view = view_at w.visible.views v in
      ap (netted (length (summed_columns view))) (append-nil (step_changes w.visible f) ∙ first_is w f [] own.0 follow)
      ∙ alone view (snap w.visible (point w.upkeep v)) (snap w.visible f.hi)
  steps_add_up (f ∷ g ∷ fs) w long follow own some =
      let view = view_at w.visible.views v in
      let n = length (summed_columns view) in
      let rest = steps_add_up (g ∷ fs) (after_step w f) (still_long w f long) follow.2 own.1 (omega arith) in
      let at = stands_at w f long own.0 in
      sym (netted_again n (step_changes w.visible f) (changes_of w.visible (g ∷ fs)))
      ∙ (λ i. netted n (first_is w f (g ∷ fs) own.0 follow i ++ (rest ∙ (λ j. view_difference view (snap w.visible (at j)) (snap w.visible (end_of g.hi fs)))) i))
      ∙ adds_up view (snap w.visible (point w.upkeep v)) (snap w.visible f.hi) (snap w.visible (end_of g.hi fs))
