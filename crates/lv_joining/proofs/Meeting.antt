-- Whether rows have stand-ins is told by going through both lists once, and of a net change by what goes and what comes.
use Rattle.std.proofs.Common.{◌≡◌, ◌↔◌, ℕ, zero, suc, nat_eq, ◌+◌, ◌<◌, ◌≤◌, Bool, true, false, cond, not, ◌&&◌, ◌||◌, List, [], ◌∷◌, ◌++◌, drop, get_or, length, refl, sym, ap, ◌∙◌, append_assoc, arith}
use Rattle.std.proofs.lemmas.Bool.Decides.{nat_tests}
use Rattle.std.proofs.lemmas.List.{drop_more}
use Rattle.std.specs.List.{list_any}
use Rattle.std.specs.Ordering.{ordering_reverse}
use Rattle.std.specs.declared.cmp.Ordering.TheVariants.{Greater, Less}
use Rattle.lv_values.specs.Order.{row_cmp}
use Rattle.lv_values.specs.Rows.{key_cmp, values_at}
use Rattle.lv_schema.specs.Nets.{has_row, lacking}
use Rattle.lv_schema.specs.Once.{Ascends}
use Rattle.lv_schema.proofs.Apart.{all_both, all_weaker}
use Rattle.lv_schema.proofs.ChangeLists.{ARow}
use Rattle.lv_schema.proofs.NetsLead.{any_lacking, elements, key_total, one_of_key}
use Rattle.lv_schema.proofs.Replay.{ascends_filter}
use Rattle.lv_reach.specs.declared.link.Link.{Link}
use Rattle.lv_joining.specs.Joining.{HaveStandIns, are_met, if_of, linked_columns, stands_for}
use Rattle.lv_joining.proofs.StandIns.{for_itself, has_stand_in, key_same, key_tied, of_row, stand_in, stand_in_is}

-- ---- loops
pub columns_step : (alias : ℕ) (out all : List ℕ) (n : ℕ) (links : List Link) (link : Link) → n < length links → link ≡ get_or links n link
    → out ++ linked_columns (drop n links) alias ≡ all
    → ((out ++ if_of alias link.left) ++ if_of alias link.right) ++ linked_columns (drop (n + 1) links) alias ≡ all
columns_step alias out all n links link lt is h =
    let first = if_of alias link.left in
    let second = if_of alias link.right in
    ap (λ l. l ++ linked_columns (drop (n + 1) links) alias) (append_assoc out first second)
    ∙ append_assoc out (first ++ second) (linked_columns (drop (n + 1) links) alias)
    ∙ ap (λ l. out ++ linked_columns l alias) (ap (λ q. q ∷ drop (n + 1) links) is ∙ sym (drop_more links n link lt))
    ∙ h

one_less : (m n : ℕ) → nat_eq (suc m) (suc n) ≡ nat_eq m n
one_less m n = by (nat_eq m n) refl
  where
    by : (t : Bool) → nat_eq m n ≡ t → nat_eq (suc m) (suc n) ≡ nat_eq m n
    by true e = let both : nat_eq (suc m) (suc n) ≡ true = grind (arith, nat_tests) in both ∙ sym e
    by false e = let neither : nat_eq (suc m) (suc n) ≡ false = grind (arith, nat_tests) in neither ∙ sym e

module _ (key columns : List ℕ) where
  pub met_first : (row new : ARow) (rows others : List ARow) → stands_for key columns row new ≡ true → are_met key columns (row ∷ rows) (new ∷ others) ≡ are_met key columns rows others
  met_first row new rows others e = ap (λ t. cond t (are_met key columns rows others) (are_met key columns (row ∷ rows) others)) e

  pub met_later : (row new : ARow) (rows others : List ARow) → stands_for key columns row new ≡ false → are_met key columns (row ∷ rows) (new ∷ others) ≡ are_met key columns (row ∷ rows) others
  met_later row new rows others e = ap (λ t. cond t (are_met key columns rows others) (are_met key columns (row ∷ rows) others)) e

  -- where all the others were looked at
  pub met_end : (rows others : List ARow) (met i : ℕ) → met ≤ length rows → i ≡ length others → are_met key columns (drop met rows) (drop i others) ≡ are_met key columns rows others → nat_eq met (length rows) ≡ are_met key columns rows others
  met_end rows others met i le end h = none rows met le ∙ ap (are_met key columns (drop met rows)) (sym (ap (λ n. drop n others) end ∙ all others)) ∙ h
    where
      all : (xs : List ARow) → drop (length xs) xs ≡ []
      all [] = refl
      all (x ∷ xs) = all xs

      none : (rows : List ARow) (met : ℕ) → met ≤ length rows → nat_eq met (length rows) ≡ are_met key columns (drop met rows) []
      none [] zero le = refl
      none [] (suc met) le = absurd (let n = le in omega (arith, n))
      none (row ∷ rows) zero le = let not_yet : nat_eq 0 (suc (length rows)) ≡ false = grind (arith, nat_tests) in not_yet
      none (row ∷ rows) (suc met) le = one_less met (length rows) ∙ none rows met (omega (arith, le))

  -- ---- what the test tells
  more_others : (new row : ARow) (others : List ARow) → list_any (stands_for key columns row) others ≡ true → list_any (stands_for key columns row) (new ∷ others) ≡ true
  more_others new row others h = by (stands_for key columns row new)
    where
      by : (t : Bool) → (t || list_any (stands_for key columns row) others) ≡ true
      by true = refl
      by false = h

  met_have : (rows others : List ARow) → are_met key columns rows others ≡ true → HaveStandIns key columns rows others
  met_have [] others h = tt
  met_have (row ∷ rows) [] h = absurd (cc)
  met_have (row ∷ rows) (new ∷ others) h = by (stands_for key columns row new) refl h (met_have rows others) (met_have (row ∷ rows) others)
    where
      by : (t : Bool) → stands_for key columns row new ≡ t → cond t (are_met key columns rows others) (are_met key columns (row ∷ rows) others) ≡ true
          → (are_met key columns rows others ≡ true → HaveStandIns key columns rows others) → (are_met key columns (row ∷ rows) others ≡ true → HaveStandIns key columns (row ∷ rows) others)
          → HaveStandIns key columns (row ∷ rows) (new ∷ others)
      by true e k one two = (ap (λ t. t || list_any (stands_for key columns row) others) e, all_weaker (λ r. list_any (stands_for key columns r) others ≡ true) (λ r. list_any (stands_for key columns r) (new ∷ others) ≡ true) (λ r. more_others new r others) rows (one k))
      by false e k one two = all_weaker (λ r. list_any (stands_for key columns r) others ≡ true) (λ r. list_any (stands_for key columns r) (new ∷ others) ≡ true) (λ r. more_others new r others) (row ∷ rows) (two k)

  not_tied : (a b : ARow) → key_cmp key a b ≡ Less → values_at key a ≡ values_at key b → ⊥
  not_tied a b less e = let tied = key_tied key columns a b e in cc

  not_both : (a b c d : ARow) → key_cmp key a b ≡ Less → values_at key a ≡ values_at key c → values_at key b ≡ values_at key d → key_cmp key d c ≡ Less → ⊥
  not_both a b c d less e f other =
      let turned : key_cmp key c d ≡ Greater = (key_total key).antisymm c d ∙ ap ordering_reverse other in
      let same : key_cmp key a b ≡ key_cmp key c d = λ i. row_cmp (e i) (f i) in
      cc

  -- one that the first of the others does not stand for has its stand-in behind it
  behind : (row new : ARow) (others : List ARow) → (stands_for key columns row new ≡ true → ⊥) → list_any (stands_for key columns row) (new ∷ others) ≡ true → list_any (stands_for key columns row) others ≡ true
  behind row new others never h = by (stands_for key columns row new) refl h
    where
      by : (t : Bool) → stands_for key columns row new ≡ t → (t || list_any (stands_for key columns row) others) ≡ true → list_any (stands_for key columns row) others ≡ true
      by true e k = absurd (never e)
      by false e k = k

  yes_no : true ≡ false → ⊥
  yes_no e = cc

  have_met : (rows others : List ARow) → Ascends (key_cmp key) rows → Ascends (key_cmp key) others → HaveStandIns key columns rows others → are_met key columns rows others ≡ true
  have_met [] others up on all = refl
  have_met (row ∷ rows) [] up on all = let none = all.0 in cc
  have_met (row ∷ rows) (new ∷ others) up on all = by (stands_for key columns row new) refl (have_met rows others up.1 on.1) (have_met (row ∷ rows) others up on.1)
    where
      by : (t : Bool) → stands_for key columns row new ≡ t → (HaveStandIns key columns rows others → are_met key columns rows others ≡ true) → (HaveStandIns key columns (row ∷ rows) others → are_met key columns (row ∷ rows) others ≡ true)
          → cond t (are_met key columns rows others) (are_met key columns (row ∷ rows) others) ≡ true
      by true e one two =
          one (all_both (λ r. key_cmp key row r ≡ Less) (λ r. list_any (stands_for key columns r) (new ∷ others) ≡ true) (λ r. list_any (stands_for key columns r) others ≡ true)
          (λ r less h. behind r new others (λ d. not_tied row r less (key_same key columns row new e ∙ sym (key_same key columns r new d))) h) rows up.0 all.1)
      by false e one two =
          let first : list_any (stands_for key columns row) others ≡ true = behind row new others (λ d. yes_no (sym d ∙ e)) all.0 in
          let is = stand_in_is key columns row others first in
          let above : key_cmp key new (stand_in key columns row others) ≡ Less = of_row (λ s. key_cmp key new s ≡ Less) (stand_in key columns row others) others on.0 is.0 in
          two (
            first,
            all_both (λ r. key_cmp key row r ≡ Less) (λ r. list_any (stands_for key columns r) (new ∷ others) ≡ true) (λ r. list_any (stands_for key columns r) others ≡ true)
                (λ r less h. behind r new others (λ d. not_both row r (stand_in key columns row others) new less (key_same key columns row (stand_in key columns row others) is.1) (key_same key columns r new d) above) h) rows up.0 all.1,
          )

  -- ---- of a net change
  module _ (before after : List ARow) (up : Ascends (key_cmp key) before) (on : Ascends (key_cmp key) after) where
    in_minus : (row : ARow) → has_row row before ≡ true → has_row row after ≡ false → has_row row (lacking before after) ≡ true
    in_minus row h k = any_lacking row before after ∙ (λ i. not (k i) && h i)

    in_plus : (row : ARow) → has_row row before ≡ false → has_row row after ≡ true → has_row row (lacking after before) ≡ true
    in_plus row h k = any_lacking row after before ∙ (λ i. not (h i) && k i)

    of_lacking : (a b : Bool) → (not a && b) ≡ true → (a ≡ false) × (b ≡ true)
    of_lacking true b h = absurd (cc)
    of_lacking false b h = (refl, h)

    all_keep : HaveStandIns key columns (lacking before after) (lacking after before) → HaveStandIns key columns before after
    all_keep all = all_weaker (λ row. has_row row before ≡ true) (λ row. list_any (stands_for key columns row) after ≡ true) each before (elements before)
      where
        each : (row : ARow) → has_row row before ≡ true → list_any (stands_for key columns row) after ≡ true
        each row h = by (has_row row after) refl
          where
            by : (t : Bool) → has_row row after ≡ t → list_any (stands_for key columns row) after ≡ true
            by true e = has_stand_in key columns row row after e (for_itself key columns row)
            by false e =
                let is = stand_in_is key columns row (lacking after before) (of_row (λ r. list_any (stands_for key columns r) (lacking after before) ≡ true) row (lacking before after) all (in_minus row h e)) in
                let new = stand_in key columns row (lacking after before) in
                has_stand_in key columns row new after (of_lacking (has_row new before) (has_row new after) (sym (any_lacking new after before) ∙ is.0)).1 is.1

    all_met : HaveStandIns key columns before after → HaveStandIns key columns (lacking before after) (lacking after before)
    all_met all = all_weaker (λ row. has_row row (lacking before after) ≡ true) (λ row. list_any (stands_for key columns row) (lacking after before) ≡ true) each (lacking before after) (elements (lacking before after))
      where
        each : (row : ARow) → has_row row (lacking before after) ≡ true → list_any (stands_for key columns row) (lacking after before) ≡ true
        each row h =
            let goes = of_lacking (has_row row after) (has_row row before) (sym (any_lacking row before after) ∙ h) in
            let is = stand_in_is key columns row after (of_row (λ r. list_any (stands_for key columns r) after ≡ true) row before all goes.1) in
            by (has_row (stand_in key columns row after) before) refl goes is
          where
            by : (t : Bool) → has_row (stand_in key columns row after) before ≡ t → (has_row row after ≡ false) × (has_row row before ≡ true)
                → (has_row (stand_in key columns row after) after ≡ true) × (stands_for key columns row (stand_in key columns row after) ≡ true)
                → list_any (stands_for key columns row) (lacking after before) ≡ true
            by true e goes is =
                let same : row ≡ stand_in key columns row after = one_of_key key before up row (stand_in key columns row after) goes.1 e (key_tied key columns row (stand_in key columns row after) (key_same key columns row (stand_in key columns row after) is.1)) in
                absurd (yes_no (sym is.0 ∙ ap (λ r. has_row r after) (sym same) ∙ goes.0))
            by false e goes is = has_stand_in key columns row (stand_in key columns row after) (lacking after before) (in_plus (stand_in key columns row after) e is.0) is.1

    pub net_tells : (are_met key columns (lacking before after) (lacking after before) ≡ true) ↔ HaveStandIns key columns before after
    net_tells = (
      λ h. all_keep (met_have (lacking before after) (lacking after before) h),
      λ all. have_met (lacking before after) (lacking after before) (ascends_filter (key_cmp key) (λ r. not (has_row r after)) before up) (ascends_filter (key_cmp key) (λ r. not (has_row r before)) after on) (all_met all),
    )
