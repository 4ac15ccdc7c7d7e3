-- Each step has near rows and far aliases: a bound that follows from them, whichever they are, stands.
use Rattle.std.proofs.Common.{◌≡◌, ◌↔◌, ℕ, zero, suc, ◌<◌, ◌≤◌, Bool, true, false, cond, not, ◌&&◌, ◌||◌, ◌==◌, List, [], ◌∷◌, ◌++◌, length, refl, sym, ap, ◌∙◌, subst, arith}
use Rattle.std.proofs.lemmas.Bool.{eqb-false, eqb-true}
use Rattle.std.specs.Prelude.{◌⊎◌}
use mathlib.Core.Logic.{inl, inr}
use Rattle.lv_schema.specs.declared.part.Part.{Part}
use Rattle.lv_schema.specs.Once.{are_apart}
use Rattle.lv_reach.specs.declared.link.Link.{Link}
use Rattle.lv_reach.specs.declared.rows.AliasRow.{AliasRow}
use Rattle.lv_reach.specs.Cost.{IsReach}
use Rattle.lv_reach.specs.Reach.{alike, changed_rows, has_alias_row, old_rows, IsFar, IsNear, Leads}
use Rattle.lv_reach.proofs.Gathering.{changed_there, first_there, old_there, one_row, second_there, there_before, there_behind}

-- a claim holds or not, where nothing follows from that
either_way : (A : Type 0) → (A ⊎ (A → ⊥) → ⊥) → ⊥
either_way A k = k (inr (λ a. k (inl a)))

-- ---- those rows of a list of which something holds
module _ (P : AliasRow → Type 0) where
  record AreChosen (rows chosen : List AliasRow) : Type 0 where
    pub sound : (a : AliasRow) → has_alias_row a chosen ≡ true → P a
    pub all : (a : AliasRow) → has_alias_row a rows ≡ true → P a → has_alias_row a chosen ≡ true
    pub once : are_apart alike chosen ≡ true

  with_first : (a : AliasRow) (rows chosen : List AliasRow) → P a → AreChosen rows chosen → has_alias_row a chosen ≡ false → AreChosen (a ∷ rows) (a ∷ chosen)
  with_first a rows chosen p c none = record { sound = sound; all = all; once = (λ i. not (none i) && are_apart alike chosen) ∙ c.once }
    where
      sound : (b : AliasRow) → has_alias_row b (a ∷ chosen) ≡ true → P b
      sound b h = by (alike b a) refl h
        where
          by : (t : Bool) → alike b a ≡ t → (t || has_alias_row b chosen) ≡ true → P b
          by true e k = subst P (sym (one_row b a e)) p
          by false e k = c.sound b k

      all : (b : AliasRow) → has_alias_row b (a ∷ rows) ≡ true → P b → has_alias_row b (a ∷ chosen) ≡ true
      all b h q = by (alike b a) refl h
        where
          by : (t : Bool) → alike b a ≡ t → (t || has_alias_row b rows) ≡ true → has_alias_row b (a ∷ chosen) ≡ true
          by true e k = first_there _ _ e
          by false e k = second_there _ _ (c.all b k q)

  -- the first one is among them already, or nothing holds of it
  without_first : (a : AliasRow) (rows chosen : List AliasRow) → AreChosen rows chosen → (P a → has_alias_row a chosen ≡ true) → AreChosen (a ∷ rows) chosen
  without_first a rows chosen c there = record { sound = c.sound; all = all; once = c.once }
    where
      all : (b : AliasRow) → has_alias_row b (a ∷ rows) ≡ true → P b → has_alias_row b chosen ≡ true
      all b h q = by (alike b a) refl h
        where
          by : (t : Bool) → alike b a ≡ t → (t || has_alias_row b rows) ≡ true → has_alias_row b chosen ≡ true
          by true e k = ap (λ r. has_alias_row r chosen) (one_row b a e) ∙ there (subst P (one_row b a e) q)
          by false e k = c.all b k q

  choose : (rows : List AliasRow) → ((chosen : List AliasRow) → AreChosen rows chosen → ⊥) → ⊥
  choose [] k = k [] (record { sound = λ a h. absurd (cc); all = λ a h q. h; once = refl })
  choose (a ∷ rows) k = choose rows (λ chosen c. either_way (P a) (by chosen c))
    where
      by : (chosen : List AliasRow) → AreChosen rows chosen → P a ⊎ (P a → ⊥) → ⊥
      by chosen c (inl p) = at (has_alias_row a chosen) refl
        where
          at : (t : Bool) → has_alias_row a chosen ≡ t → ⊥
          at true e = k chosen (without_first a rows chosen c (λ q. e))
          at false e = k (a ∷ chosen) (with_first a rows chosen p c e)
      by chosen c (inr none) = k chosen (without_first a rows chosen c (λ q. absurd (none q)))

-- ---- the numbers below one of which something holds
module _ (P : ℕ → Type 0) where
  abbrev AreFlags : ℕ → (ℕ → Bool) → Type 0
  AreFlags n flag = (j : ℕ) → j < n → (flag j ≡ true) ↔ P j

  one_more : (n : ℕ) (flag : ℕ → Bool) (b : Bool) → AreFlags n flag → (b ≡ true) ↔ P n → AreFlags (suc n) (λ j. cond (j == n) b (flag j))
  one_more n flag b h here j lt = by (j == n) refl
    where
      by : (t : Bool) → (j == n) ≡ t → (cond t b (flag j) ≡ true) ↔ P j
      by true e = let same : j ≡ n = eqb-true j n e in (λ k. subst P (sym same) (here.0 k), λ p. here.1 (subst P same p))
      by false e =
          let other : j ≡ n → ⊥ = eqb-false j n e in
          h j (grind (arith, other))

  flags_below : (n : ℕ) → ((flag : ℕ → Bool) → AreFlags n flag → ⊥) → ⊥
  flags_below zero k = k (λ j. true) (λ j lt. absurd (let none = lt in omega (arith, none)))
  flags_below (suc n) k = flags_below n (λ flag h. either_way (P n) (by flag h))
    where
      by : (flag : ℕ → Bool) → AreFlags n flag → P n ⊎ (P n → ⊥) → ⊥
      by flag h (inl p) = k (λ j. cond (j == n) true (flag j)) (one_more n flag true h (λ e. p, λ q. refl))
      by flag h (inr none) = k (λ j. cond (j == n) false (flag j)) (one_more n flag false h (λ e. absurd (let no : false ≡ true = e in cc), λ q. absurd (none q)))

-- ---- the reach of a step
module _ (links : List Link) (parts : List Part) where
  gathered : (a : AliasRow) → IsNear links parts a → has_alias_row a (changed_rows parts ++ old_rows parts) ≡ true
  gathered a near = by near.0 near.1
    where
      by : (chain : List AliasRow) → Leads links parts chain a → has_alias_row a (changed_rows parts ++ old_rows parts) ≡ true
      by [] h = there_before a (changed_rows parts) (old_rows parts) (changed_there parts a h)
      by (from ∷ chain) h = there_behind a (changed_rows parts) (old_rows parts) (old_there parts a h.0)

  reach_there : ((near : List AliasRow) (far : ℕ → Bool) → IsReach links parts near far → ⊥) → ⊥
  reach_there k =
      choose (IsNear links parts) (changed_rows parts ++ old_rows parts) (λ near c. flags_below (IsFar links parts) (length parts) (λ far h.
      k near far (record { near_rows = λ a. (c.sound a, λ is. c.all a (gathered a is) is); once = c.once; far_aliases = h })))

  pub bound_stands : (n m : ℕ) → ((near : List AliasRow) (far : ℕ → Bool) → IsReach links parts near far → n ≤ m) → n ≤ m
  bound_stands n m h = by (low_or_high n m)
    where
      low_or_high : (n m : ℕ) → (m < n) ⊎ (n ≤ m)
      low_or_high n m = grind arith

      by : (m < n) ⊎ (n ≤ m) → n ≤ m
      by (inl lt) = absurd (reach_there (λ near far is. let le = h near far is in omega (arith, le, lt)))
      by (inr le) = le
