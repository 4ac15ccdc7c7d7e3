-- Groups with changes are those that `Groups::apply` leaves.
use Rattle.std.proofs.Common.{◌≡◌, ℕ, zero, suc, ◌<◌, ℤ, pos, ◌+ℤ◌, Bool, true, cond, Option, Some, None, List, [], ◌∷◌, ◌++◌, map, filter, length, get_or, refl, sym, ap, ◌∙◌, arith}
use Rattle.std.specs.Prelude.{FitsSigned}
use Rattle.std.specs.Int.{int_wrap, w128}
use Rattle.std.specs.List.{AllByRecursion, range_with_len}
use Rattle.std.proofs.lemmas.Int.{int_wrap_fits, ints}
use Rattle.std.proofs.lemmas.List.Elements.{filter-append}
use Rattle.std.proofs.lemmas.List.FromFn.{fill_by_all}
use Rattle.lv_values.specs.declared.value.Value.{Value}
use Rattle.lv_values.specs.Order.{row_eq}
use Rattle.lv_schema.specs.declared.signed.SignedRow.{SignedRow}
use Rattle.lv_schema.specs.Applicable.{AreNetted}
use Rattle.lv_schema.specs.Differences.{is_change}
use Rattle.lv_schema.specs.Groups.{total}
use Rattle.lv_schema.specs.SignedRows.{entries_of, summed}
use Rattle.lv_schema.proofs.Apart.{all_filter}
use Rattle.lv_schema.proofs.ChangeLists.{quiet_alone, same_changes, sum_place, summed_covers}
use Rattle.lv_schema.proofs.NetsLead.{passes, same_row}
use Rattle.lv_group.specs.Gathered.{has_tuples, regrouped}
use Rattle.lv_shelf.proofs.Cutting.{all_at}
use Rattle.lv_viewrows.specs.Changed.{SumsFit, after_changes, group_with, groups_with, sums_added}
use Rattle.lv_viewrows.proofs.Entries.{AtMostOne, at_most_one, covered}

add_none : (x : ℤ) → x +ℤ pos 0 ≡ x
add_none x = grind (arith, ints)

-- ---- sums, place by place
length-sums : (sums more : List ℤ) → length (sums_added sums more) ≡ length more
length-sums [] more = refl
length-sums (n ∷ sums) [] = refl
length-sums (n ∷ sums) (m ∷ more) = ap suc (length-sums sums more)

sums_at : (sums more : List ℤ) (k : ℕ) → k < length sums → k < length more → get_or (sums_added sums more) k (pos 0) ≡ int_wrap w128 (get_or sums k (pos 0) +ℤ get_or more k (pos 0))
sums_at [] more k l m = absurd (omega arith)
sums_at (n ∷ sums) [] k l m = absurd (omega arith)
sums_at (n ∷ sums) (m ∷ more) zero l k = refl
sums_at (n ∷ sums) (m ∷ more) (suc k) l j = sums_at sums more k (omega arith) (omega arith)

-- ---- what the entries of a row add up to
module _ (n : ℕ) where
  abbrev totals : List SignedRow → List ℤ
  totals list = map (λ j. int_wrap w128 (total (sum_place j) list)) (range_with_len 0 n)

  abbrev added : List Value → List SignedRow → SignedRow
  added q list = record { row = q; count = total (λ s. s.count) list; sums = totals list }

  one_total : (s : SignedRow) → length s.sums ≡ n → SumsFit s → s.sums ≡ totals (s ∷ [])
  one_total s e f =
      fill_by_all (λ j. int_wrap w128 (total (sum_place j) (s ∷ []))) s.sums n (pos 0) e
      (λ k l. sym (ap (int_wrap w128) (add_none (sum_place k s)) ∙ int_wrap_fits w128 (sum_place k s) (all_at (FitsSigned w128) s.sums k (pos 0) (omega (arith, e, l)) f)))

  two_totals : (g s : SignedRow) → length g.sums ≡ n → length s.sums ≡ n → sums_added g.sums s.sums ≡ totals (g ∷ s ∷ [])
  two_totals g s e f =
      fill_by_all (λ j. int_wrap w128 (total (sum_place j) (g ∷ s ∷ []))) (sums_added g.sums s.sums) n (pos 0) (length-sums g.sums s.sums ∙ f)
      (λ k l. sums_at g.sums s.sums k (omega (arith, e, l)) (omega (arith, f, l)) ∙ ap (λ x. int_wrap w128 (sum_place k g +ℤ x)) (sym (add_none (sum_place k s))))

  abbrev shows : SignedRow → Option SignedRow
  shows s = cond (is_change s) (Some s) None

  abbrev HasSums : SignedRow → Type 0
  HasSums s = length s.sums ≡ n

  abbrev IsOf : List Value → SignedRow → Type 0
  IsOf q s = row_eq q s.row ≡ true

  alone : (q : List Value) (s : SignedRow) → IsOf q s → HasSums s → SumsFit s → s ≡ added q (s ∷ [])
  alone q s h e f = λ i. record { row = sym (same_row q s.row h) i; count = sym (add_none s.count) i; sums = one_total s e f i }

  both : (q : List Value) (g s : SignedRow) → IsOf q s → HasSums g → HasSums s → group_with g s ≡ added q (g ∷ s ∷ [])
  both q g s h e f = λ i. record { row = sym (same_row q s.row h) i; count = g.count +ℤ sym (add_none s.count) i; sums = two_totals g s e f i }

  says : (q : List Value) (groups list : List SignedRow) → AtMostOne groups → AtMostOne list → AllByRecursion (IsOf q) groups → AllByRecursion (IsOf q) list → AllByRecursion HasSums groups → AllByRecursion HasSums list
      → AllByRecursion SumsFit groups → AllByRecursion SumsFit list → shows (after_changes q groups list) ≡ shows (added q (groups ++ list))
  says q [] [] m k a b d e f g = sym (λ i. cond (quiet_alone n [] q refl i) (Some (added q [])) None)
  says q [] (s ∷ []) m k a b d e f g = ap shows (alone q s b.0 e.0 g.0)
  says q [] (s ∷ t ∷ list) m k a b d e f g = absurd k
  says q (x ∷ []) [] m k a b d e f g = ap shows (alone q x a.0 d.0 f.0)
  says q (x ∷ []) (s ∷ []) m k a b d e f g = ap shows (both q x s b.0 d.0 e.0)
  says q (x ∷ []) (s ∷ t ∷ list) m k a b d e f g = absurd k
  says q (x ∷ y ∷ groups) list m k a b d e f g = absurd m

  pub groups_with_adds_up : (groups list : List SignedRow) → AreNetted n groups → AreNetted n list → AllByRecursion SumsFit groups → AllByRecursion SumsFit list → groups_with list groups ≡ regrouped n groups list
  groups_with_adds_up groups list a b f g =
      ap (filter has_tuples)
      (same_changes (λ q. after_changes q (entries_of q groups) (entries_of q list)) (summed n (groups ++ list)) (map (λ (s : SignedRow). s.row) (groups ++ list)) (map (λ (s : SignedRow). s.row) (groups ++ list))
      (covered list groups)
      (summed_covers n (groups ++ list))
      (λ q. (let own : SignedRow → Bool = λ s. row_eq q s.row in
      says q (entries_of q groups) (entries_of q list) (at_most_one q groups a.ascend) (at_most_one q list b.ascend) (passes own groups) (passes own list)
      (all_filter HasSums own groups a.sums) (all_filter HasSums own list b.sums) (all_filter SumsFit own groups f) (all_filter SumsFit own list g)
      ∙ ap (λ l. shows (added q l)) (sym (filter-append own groups list)))))
