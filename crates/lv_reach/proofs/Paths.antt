-- The aliases to which chains of links lead, by rounds.
use Rattle.std.proofs.Common.{◌≡◌, ℕ, ◌+◌, ◌<◌, Bool, true, false, cond, not, ◌||◌, ◌==◌, List, [], ◌∷◌, ◌++◌, refl, sym, ap, ◌∙◌, subst, arith}
use Rattle.std.proofs.lemmas.Bool.{eqb-true, eq-eqb}
use Rattle.std.proofs.lemmas.List.Folds.{list_any-append}
use Rattle.std.specs.List.{filter, AllByRecursion}
use Rattle.lv_schema.proofs.Apart.{all_append, all_weaker}
use Rattle.lv_schema.proofs.NetsLead.{passes}
use Rattle.lv_reach.specs.declared.link.Link.{Link}
use Rattle.lv_reach.specs.Far.{IsReached, has_alias, are_led}
use Rattle.lv_reach.specs.Reach.{are_linked, IsPath, AreWithin}
use Rattle.lv_reach.proofs.NearLaws.{linked_within}

first_there : (a b : Bool) → a ≡ true → (a || b) ≡ true
first_there true b h = refl
first_there false b h = cc

second_there : (a b : Bool) → b ≡ true → (a || b) ≡ true
second_there true b h = refl
second_there false b h = h

-- ---- aliases among others
itself : (k : ℕ) → (k == k) ≡ true
itself k = eq-eqb k k refl

pub alias_alone : (k : ℕ) → has_alias k (k ∷ []) ≡ true
alias_alone k = first_there _ _ (itself k)

-- one more alias
below_more : (i j : ℕ) → j < i + 1 → (j == i) ≡ false → j < i
below_more i j lt e = by
  where
    other : j ≡ i → ⊥
    other same = let no : true ≡ false = sym (eq-eqb j i same) ∙ e in cc

    by : j < i
    by = grind (arith, other)

pub aliases_more : (aliases : List ℕ) (i : ℕ) → ((j : ℕ) → j < i → has_alias j aliases ≡ true) → (j : ℕ) → j < i + 1 → has_alias j (aliases ++ i ∷ []) ≡ true
aliases_more aliases i h j lt = list_any-append (λ k. j == k) aliases (i ∷ []) ∙ by (j == i) refl
  where
    by : (t : Bool) → (j == i) ≡ t → (has_alias j aliases || has_alias j (i ∷ [])) ≡ true
    by true e = second_there (has_alias j aliases) _ (first_there _ _ e)
    by false e = first_there _ _ (h j (below_more i j lt e))

-- what holds of each holds of one among them
among : (P : ℕ → Type 0) (aliases : List ℕ) (k : ℕ) → AllByRecursion P aliases → has_alias k aliases ≡ true → P k
among P [] k all h = cc
among P (i ∷ aliases) k all h = by (k == i) refl h (among P aliases k all.1)
  where
    by : (t : Bool) → (k == i) ≡ t → (t || has_alias k aliases) ≡ true → (has_alias k aliases ≡ true → P k) → P k
    by true e h rest = subst P (sym (eqb-true k i e)) all.0
    by false e h rest = rest h

-- ---- chains
-- one link more at the end
longer : (links : List Link) (i k m : ℕ) (path : List ℕ) → IsPath links i path k → are_linked links k m ≡ true → IsPath links i (path ++ m ∷ []) m
longer links i k m [] p l = (ap (λ n. are_linked links n m) p ∙ l, refl)
longer links i k m (j ∷ path) p l = (p.0, longer links j k m path p.1 l)

module _ (links : List Link) (count from : ℕ) where
  -- each alias found is reached, the first is found, and each alias is found or left
  pub record IsSpread (found left : List ℕ) : Type 0 where
    pub sound : AllByRecursion (λ k. IsReached links from k) found
    pub start : has_alias from found ≡ true
    pub each : (k : ℕ) → k < count → (has_alias k found || has_alias k left) ≡ true

  pub spread_starts : (left : List ℕ) → ((k : ℕ) → k < count → has_alias k left ≡ true) → IsSpread (from ∷ []) left
  spread_starts left h = record {
    sound = (([], refl), tt);
    start = alias_alone from;
    each = λ k lt. second_there _ _ (h k lt);
  }

  led_one : (found : List ℕ) → AllByRecursion (λ k. IsReached links from k) found → (m : ℕ) → are_led links found m ≡ true → IsReached links from m
  led_one [] all m h = cc
  led_one (k ∷ found) all m h = by (are_linked links k m) refl h (led_one found all.1 m)
    where
      by : (t : Bool) → are_linked links k m ≡ t → (t || are_led links found m) ≡ true → (are_led links found m ≡ true → IsReached links from m) → IsReached links from m
      by true e h rest = (all.0.0 ++ m ∷ [], longer links from k m all.0.0 all.0.1 e)
      by false e h rest = rest h

  either_half : (f : ℕ → Bool) (k : ℕ) (left : List ℕ) → has_alias k left ≡ true → (has_alias k (filter f left) || has_alias k (filter (λ b. not (f b)) left)) ≡ true
  either_half f k [] h = cc
  either_half f k (b ∷ left) h = by (f b) (k == b) refl h (either_half f k left)
    where
      by : (t s : Bool) → (k == b) ≡ s → (s || has_alias k left) ≡ true
          → (has_alias k left ≡ true → (has_alias k (filter f left) || has_alias k (filter (λ b. not (f b)) left)) ≡ true)
          → (has_alias k (cond t (b ∷ filter f left) (filter f left)) || has_alias k (cond (not t) (b ∷ filter (λ b. not (f b)) left) (filter (λ b. not (f b)) left))) ≡ true
      by true true e h rest = first_there _ _ (ap (λ s. s || has_alias k (filter f left)) e)
      by true false e h rest = (λ i. (e i || has_alias k (filter f left)) || has_alias k (filter (λ b. not (f b)) left)) ∙ rest h
      by false true e h rest = second_there _ _ (ap (λ s. s || has_alias k (filter (λ b. not (f b)) left)) e)
      by false false e h rest = (λ i. has_alias k (filter f left) || (e i || has_alias k (filter (λ b. not (f b)) left))) ∙ rest h

  or_assoc : (a b c : Bool) → ((a || b) || c) ≡ (a || (b || c))
  or_assoc true b c = refl
  or_assoc false b c = refl

  pub spread_goes_on : (found left : List ℕ) → IsSpread found left → IsSpread (found ++ filter (are_led links found) left) (filter (λ k. not (are_led links found k)) left)
  spread_goes_on found left g =
      let more = filter (are_led links found) left in
      record {
        sound = all_append (λ k. IsReached links from k) found more g.sound (all_weaker (λ k. are_led links found k ≡ true) (λ k. IsReached links from k) (λ k h. led_one found g.sound k h) more (passes (are_led links found) left));
        start = list_any-append (λ k. from == k) found more ∙ first_there _ _ g.start;
        each = λ k lt. by k (has_alias k found) refl (g.each k lt);
      }
    where
      by : (k : ℕ) (t : Bool) → has_alias k found ≡ t → (t || has_alias k left) ≡ true
          → (has_alias k (found ++ filter (are_led links found) left) || has_alias k (filter (λ b. not (are_led links found b)) left)) ≡ true
      by k true e h = first_there _ _ (list_any-append (λ i. k == i) found (filter (are_led links found) left) ∙ first_there _ _ e)
      by k false e h =
          ap (λ s. s || has_alias k (filter (λ b. not (are_led links found b)) left)) (list_any-append (λ i. k == i) found (filter (are_led links found) left))
          ∙ or_assoc (has_alias k found) _ _
          ∙ second_there (has_alias k found) _ (either_half (are_led links found) k left h)

  one_leads : (found : List ℕ) (i m : ℕ) → has_alias i found ≡ true → are_linked links i m ≡ true → are_led links found m ≡ true
  one_leads [] i m h e = cc
  one_leads (x ∷ found) i m h e = by (i == x) refl h (λ k. one_leads found i m k e)
    where
      by : (t : Bool) → (i == x) ≡ t → (t || has_alias i found) ≡ true → (has_alias i found ≡ true → are_led links found m ≡ true) → (are_linked links x m || are_led links found m) ≡ true
      by true d h rest = first_there _ _ (ap (λ y. are_linked links y m) (sym (eqb-true i x d)) ∙ e)
      by false d h rest = second_there _ _ (rest h)

  filter_there : (f : ℕ → Bool) (left : List ℕ) (a : ℕ) → has_alias a left ≡ true → f a ≡ true → has_alias a (filter f left) ≡ true
  filter_there f [] a h e = cc
  filter_there f (b ∷ left) a h e = by (a == b) (f b) refl refl h (λ k. filter_there f left a k e)
    where
      by : (s t : Bool) → (a == b) ≡ s → f b ≡ t → (s || has_alias a left) ≡ true → (has_alias a left ≡ true → has_alias a (filter f left) ≡ true)
          → has_alias a (cond t (b ∷ filter f left) (filter f left)) ≡ true
      by true true d k h rest = ap (λ s. s || has_alias a (filter f left)) d
      by true false d k h rest = let no : true ≡ false = sym e ∙ ap f (eqb-true a b d) ∙ k in cc
      by false true d k h rest = second_there _ _ (rest h)
      by false false d k h rest = rest h

  module _ (found left : List ℕ) (g : IsSpread found left) (none : filter (are_led links found) left ≡ []) (within : AreWithin count links) where
    closed : (i k : ℕ) → has_alias i found ≡ true → are_linked links i k ≡ true → has_alias k found ≡ true
    closed i k h l = by (has_alias k found) refl (g.each k (linked_within count links i k within l))
      where
        by : (t : Bool) → has_alias k found ≡ t → (t || has_alias k left) ≡ true → has_alias k found ≡ true
        by true d e = d
        by false d e = let no : true ≡ false = sym (filter_there (are_led links found) left k e (one_leads found i k h l)) ∙ ap (has_alias k) none in cc

    along : (i : ℕ) (path : List ℕ) (j : ℕ) → has_alias i found ≡ true → IsPath links i path j → has_alias j found ≡ true
    along i [] j h p = subst (λ n. has_alias n found ≡ true) p h
    along i (k ∷ path) j h p = along k path j (closed i k h p.0) p.1

    pub spread_ends : (j : ℕ) → (has_alias j found ≡ true → IsReached links from j) × (IsReached links from j → has_alias j found ≡ true)
    spread_ends j = (among (λ k. IsReached links from k) found j g.sound, λ r. along from r.0 j g.start r.1)
