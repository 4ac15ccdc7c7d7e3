-- Whether an alias is far can be told: the chains of links are followed in rounds, until a round finds no more aliases.
use Rattle.std.proofs.Common.{◌≡◌, ℕ, zero, suc, ◌+◌, ◌<◌, ◌≤◌, Bool, true, false, not, List, [], ◌∷◌, ◌++◌, length, refl, sym, ap, ◌∙◌, subst, arith}
use Rattle.std.specs.Prelude.{◌⊎◌}
use mathlib.Core.Logic.{inl, inr}
use Rattle.std.specs.List.{filter}
use Rattle.lv_schema.specs.declared.part.Part.{Part}
use Rattle.lv_schema.proofs.ChangeLists.{ARow}
use Rattle.lv_reach.specs.declared.link.Link.{Link}
use Rattle.lv_reach.specs.Far.{CutsOff, HasChange, IsReached, are_led, has_alias}
use Rattle.lv_reach.specs.Reach.{AreWithin, IsFar, part_at}
use Rattle.lv_reach.proofs.FarLaws.{NoneBelow, change_there, far_there, no_change, none_far, none_more}
use Rattle.lv_reach.proofs.Gathering.{fewer_left, none_left}
use Rattle.lv_reach.proofs.Paths.{IsSpread, aliases_more, spread_ends, spread_goes_on, spread_starts}

-- ---- the aliases to which chains of links lead
aliases_below : (n : ℕ) → (aliases : List ℕ) × ((j : ℕ) → j < n → has_alias j aliases ≡ true)
aliases_below zero = ([], λ j lt. absurd (omega (arith, lt)))
aliases_below (suc n) = let before = aliases_below n in (before.0 ++ n ∷ [], λ j lt. aliases_more before.0 n before.1 j (omega (arith, lt)))

module _ (links : List Link) (count : ℕ) (within : AreWithin count links) (from : ℕ) where
  abbrev AreAll : List ℕ → Type 0
  AreAll found = (j : ℕ) → (has_alias j found ≡ true → IsReached links from j) × (IsReached links from j → has_alias j found ≡ true)

  rounds : (n : ℕ) (found left : List ℕ) → length left ≤ n → IsSpread links count from found left → (all : List ℕ) × AreAll all
  rounds zero found left le g = (found, spread_ends links count from found left g (none_left (are_led links found) left (omega (arith, le))) within)
  rounds (suc n) found left le g =
      by (filter (are_led links found) left) refl
      (λ some. rounds n (found ++ filter (are_led links found) left) (filter (λ k. not (are_led links found k)) left) (omega (arith, le, fewer_left (are_led links found) left some)) (spread_goes_on links count from found left g))
    where
      by : (more : List ℕ) → filter (are_led links found) left ≡ more → (0 < length (filter (are_led links found) left) → (all : List ℕ) × AreAll all) → (all : List ℕ) × AreAll all
      by [] e rest = (found, spread_ends links count from found left g e within)
      by (k ∷ more) e rest = let long = ap (λ (l : List ℕ). length l) e in rest (omega (arith, long))

  reached_told : (j : ℕ) → IsReached links from j ⊎ (IsReached links from j → ⊥)
  reached_told j =
      let left = aliases_below count in
      let all = rounds (length left.0) (from ∷ []) left.0 (omega arith) (spread_starts links count from left.0 left.1) in
      by all.0 (has_alias j all.0) refl (all.1 j)
    where
      by : (found : List ℕ) (t : Bool) → has_alias j found ≡ t → (has_alias j found ≡ true → IsReached links from j) × (IsReached links from j → has_alias j found ≡ true) → IsReached links from j ⊎ (IsReached links from j → ⊥)
      by found true e h = inl (h.0 e)
      by found false e h = inr (λ r. let no : true ≡ false = sym (h.1 r) ∙ e in cc)

-- ---- far aliases
change_told : (p : Part) → HasChange p ⊎ (HasChange p → ⊥)
change_told p = by p.minus p.plus refl refl
  where
    by : (minus plus : List ARow) → p.minus ≡ minus → p.plus ≡ plus → HasChange p ⊎ (HasChange p → ⊥)
    by (row ∷ minus) plus e f = inl (change_there p (λ both. let no : row ∷ minus ≡ [] = sym e ∙ both.0 in cc))
    by [] (row ∷ plus) e f = inl (change_there p (λ both. let no : row ∷ plus ≡ [] = sym f ∙ both.1 in cc))
    by [] [] e f = inr (no_change p e f)

module _ (links : List Link) (parts : List Part) (within : AreWithin (length parts) links) (j : ℕ) where
  cut_told : (p : Part) (i : ℕ) → CutsOff links p i j ⊎ (CutsOff links p i j → ⊥)
  cut_told p i = by (change_told p) (reached_told links (length parts) within i j)
    where
      by : HasChange p ⊎ (HasChange p → ⊥) → IsReached links i j ⊎ (IsReached links i j → ⊥) → CutsOff links p i j ⊎ (CutsOff links p i j → ⊥)
      by (inl change) (inl reached) = inr (λ off. off.1 reached)
      by (inl change) (inr apart) = inl (change, apart)
      by (inr none) r = inr (λ off. none off.0)

  far_below : (n : ℕ) → IsFar links parts j ⊎ NoneBelow links parts j n
  far_below zero = inr (λ i lt off. absurd (omega (arith, lt)))
  far_below (suc n) = by (far_below n) (cut_told (part_at parts n) n)
    where
      by : IsFar links parts j ⊎ NoneBelow links parts j n → CutsOff links (part_at parts n) n j ⊎ (CutsOff links (part_at parts n) n j → ⊥) → IsFar links parts j ⊎ NoneBelow links parts j (suc n)
      by (inl far) off = inl far
      by (inr none) (inl off) = inl (far_there links parts j n off)
      by (inr none) (inr whole) = let next : n + 1 ≡ suc n = omega arith in inr (subst (NoneBelow links parts j) next (none_more links parts j n none whole))

  far_told : IsFar links parts j ⊎ (IsFar links parts j → ⊥)
  far_told = by (far_below (length parts))
    where
      by : IsFar links parts j ⊎ NoneBelow links parts j (length parts) → IsFar links parts j ⊎ (IsFar links parts j → ⊥)
      by (inl far) = inl far
      by (inr none) = inr (none_far links parts j none)

  -- a flag that tells it
  pub far_flag : (flag : Bool) × ((flag ≡ true → IsFar links parts j) × (IsFar links parts j → flag ≡ true))
  far_flag = by far_told
    where
      by : IsFar links parts j ⊎ (IsFar links parts j → ⊥) → (flag : Bool) × ((flag ≡ true → IsFar links parts j) × (IsFar links parts j → flag ≡ true))
      by (inl far) = (true, (λ e. far, λ f. refl))
      by (inr none) = (false, (λ e. let no : true ≡ false = sym e in cc, λ far. absurd (none far)))
