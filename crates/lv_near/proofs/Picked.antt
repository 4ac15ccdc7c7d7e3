-- The old rows of an alias that are near, picked from those that go and those that were found.
use Rattle.std.proofs.Common.{◌≡◌, ℕ, Bool, true, false, cond, ◌&&◌, ◌||◌, ◌==◌, List, [], ◌∷◌, ◌++◌, drop, get_or, refl, sym, ap, ◌∙◌}
use Rattle.std.proofs.lemmas.List.Folds.{list_any-append}
use Rattle.std.specs.List.{filter}
use Rattle.lv_values.specs.Order.{row_eq}
use Rattle.lv_values.specs.Rows.{key_cmp}
use Rattle.lv_schema.specs.Nets.{has_row}
use Rattle.lv_schema.specs.Once.{Ascends}
use Rattle.lv_schema.proofs.ChangeLists.{ARow}
use Rattle.lv_schema.proofs.NetsLead.{key_total, one_of_key, only_rows, same_row}
use Rattle.lv_schema.proofs.Replay.{ascends_filter}
use Rattle.lv_reach.specs.declared.rows.AliasRow.{AliasRow}
use Rattle.lv_reach.specs.Reach.{has_alias_row, kept_by, of_alias}
use Rattle.lv_reach.specs.Found.{rows_of_alias}
use Rattle.lv_near.specs.Small.{HaveOwnKeys, IsPicked, IsSplit}

-- ---- rows among others
has_of_alias : (alias : ℕ) (q : ARow) (rows : List AliasRow) → has_row q (rows_of_alias alias rows) ≡ has_alias_row (of_alias alias q) rows
has_of_alias alias q [] = refl
has_of_alias alias q (a ∷ rows) = by (alias == a.alias) (has_of_alias alias q rows)
  where
    by : (b : Bool) → has_row q (rows_of_alias alias rows) ≡ has_alias_row (of_alias alias q) rows → has_row q (cond b (a.row ∷ rows_of_alias alias rows) (rows_of_alias alias rows)) ≡ ((b && row_eq q a.row) || has_alias_row (of_alias alias q) rows)
    by true e = ap (λ t. row_eq q a.row || t) e
    by false e = e

both_false : (b : Bool) → (b && false) ≡ false
both_false true = refl
both_false false = refl

pub any_filter : (f : ARow → Bool) (q : ARow) (rows : List ARow) → has_row q (filter f rows) ≡ (has_row q rows && f q)
any_filter f q [] = refl
any_filter f q (r ∷ rows) = by (row_eq q r) (f r) (f q) refl refl refl (any_filter f q rows)
  where
    by : (s t u : Bool) → row_eq q r ≡ s → f r ≡ t → f q ≡ u → has_row q (filter f rows) ≡ (has_row q rows && f q)
        → has_row q (cond t (r ∷ filter f rows) (filter f rows)) ≡ ((s || has_row q rows) && f q)
    by true true u d e g h = ap (λ x. x || has_row q (filter f rows)) d ∙ sym (ap f (same_row q r d) ∙ e)
    by true false u d e g h =
        let no : f q ≡ false = ap f (same_row q r d) ∙ e in
        h ∙ ap (λ x. has_row q rows && x) no ∙ both_false (has_row q rows) ∙ sym no
    by false true u d e g h = ap (λ x. x || has_row q (filter f rows)) d ∙ h
    by false false u d e g h = h

filter_same : (f g : ARow → Bool) → ((r : ARow) → f r ≡ g r) → (rows : List ARow) → filter f rows ≡ filter g rows
filter_same f g same [] = refl
filter_same f g same (r ∷ rows) = λ i. cond (same r i) (r ∷ filter_same f g same rows i) (filter_same f g same rows i)

all_kept : (rows : List ARow) → filter (λ r. true) rows ≡ rows
all_kept [] = refl
all_kept (r ∷ rows) = ap (λ l. r ∷ l) (all_kept rows)

-- ---- the old rows that a step needs
module _ (key : List ℕ) (near : List AliasRow) (changed alias : ℕ) (minus : List ARow) where
  pub picked_has : (old rows : List ARow) → IsSplit key near changed alias minus old → rows ≡ minus ++ rows_of_alias alias (drop changed near) → (q : ARow) → has_row q rows ≡ (has_row q old && has_alias_row (of_alias alias q) near)
  picked_has old rows s is q =
      ap (has_row q) is ∙ list_any-append (row_eq q) minus (rows_of_alias alias (drop changed near))
      ∙ ap (λ b. has_row q minus || b) (has_of_alias alias q (drop changed near))
      ∙ s.old_near q

  left : (a b : Bool) → (a && b) ≡ true → a ≡ true
  left true b h = refl
  left false b h = h

  pub picked_own : (old rows : List ARow) → IsSplit key near changed alias minus old → rows ≡ minus ++ rows_of_alias alias (drop changed near) → HaveOwnKeys key rows
  picked_own old rows s is q r hq hr e =
      one_of_key key old s.up q r (left _ _ (sym (picked_has old rows s is q) ∙ hq)) (left _ _ (sym (picked_has old rows s is r) ∙ hr)) e

  pub picked_is : (old rows out : List ARow) → IsSplit key near changed alias minus old → rows ≡ minus ++ rows_of_alias alias (drop changed near) → Ascends (key_cmp key) out → ((q : ARow) → has_row q out ≡ has_row q rows)
      → out ≡ filter (λ row. has_alias_row (of_alias alias row) near) old
  picked_is old rows out s is up same =
      let f = λ (row : ARow). has_alias_row (of_alias alias row) near in
      only_rows (key_total key) out (filter f old) up (ascends_filter (key_cmp key) f old s.up)
      (λ q. same q ∙ picked_has old rows s is q ∙ sym (any_filter f q old))

pub kept_where_far : (near : List AliasRow) (far : List Bool) (alias : ℕ) (old : List ARow) → get_or far alias true ≡ true → filter (λ row. kept_by near far (of_alias alias row)) old ≡ old
kept_where_far near far alias old e = filter_same (λ row. kept_by near far (of_alias alias row)) (λ row. true) (λ row. ap (λ b. b || has_alias_row (of_alias alias row) near) e) old ∙ all_kept old

pub kept_where_near : (near : List AliasRow) (far : List Bool) (alias : ℕ) (old : List ARow) → get_or far alias true ≡ false → filter (λ row. kept_by near far (of_alias alias row)) old ≡ filter (λ row. has_alias_row (of_alias alias row) near) old
kept_where_near near far alias old e = filter_same (λ row. kept_by near far (of_alias alias row)) (λ row. has_alias_row (of_alias alias row) near) (λ row. ap (λ b. b || has_alias_row (of_alias alias row) near) e) old

pub picked_kept : (key : List ℕ) (near : List AliasRow) (changed alias : ℕ) (minus : List ARow) (far : List Bool) (old rows out : List ARow) → IsSplit key near changed alias minus old
    → rows ≡ minus ++ rows_of_alias alias (drop changed near) → IsPicked key (get_or far alias true) old rows out → out ≡ filter (λ row. kept_by near far (of_alias alias row)) old
picked_kept key near changed alias minus far old rows out s is p = by (get_or far alias true) refl
  where
    by : (b : Bool) → get_or far alias true ≡ b → out ≡ filter (λ row. kept_by near far (of_alias alias row)) old
    by true e = p.all e ∙ sym (kept_where_far near far alias old e)
    by false e = picked_is key near changed alias minus old rows out s is (p.up e) (p.same e) ∙ sym (kept_where_near near far alias old e)
