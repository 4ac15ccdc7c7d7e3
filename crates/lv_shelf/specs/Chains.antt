-- Lists of chains: elements that stand one after another, the oldest first.
use Rattle.std.specs.Prelude.{◌≡◌, ◌==◌, ℕ, zero, suc, ◌-◌, ◌<◌, ◌≤◌, ◌^◌, Bool, true, false, cond, List, [], ◌∷◌, ◌++◌, length, map, filter, take, drop, slice_get, slice_set, slice_index_or, Option, Some, None, refl}
use Rattle.std.specs.Coded.{Coded, code_by, coded×, coded_ℕ, coded_list}
use Rattle.std.specs.List.{AllByRecursion, filter_map, remove}
use Rattle.lv_shelf.specs.declared.chains.Link.{Link}
use Rattle.lv_shelf.specs.Cuts.{Apart}
use Rattle.lv_shelf.specs.Shelves.{Differ, IsOrder, IsShelf, HaveRoom, Roomed, lists_of}

-- the elements of chains, one chain after the other
abbrev pub joined : {X : Type 0} → List (List X) → List X
joined [] = []
joined (c ∷ cs) = c ++ joined cs

-- the chain with this number, and how many elements stand before it
abbrev pub chain_at : {X : Type 0} → List (List X) → ℕ → List X
chain_at chains i = slice_index_or chains i []

abbrev pub before : {X : Type 0} → List (List X) → ℕ → ℕ
before chains i = length (joined (take i chains))

-- the newest element of a chain, and those of all chains
abbrev pub newest_of : {X : Type 0} → List X → Option X
newest_of chain = slice_get chain (length chain - 1)

abbrev pub all_newest : {X : Type 0} → List (List X) → List X
all_newest chains = filter_map newest_of chains

-- the newest element that passes a test
abbrev pub later_or : {X : Type 0} → Option X → Bool → X → Option X
later_or None false x = None
later_or None true x = Some x
later_or (Some y) b x = Some y

abbrev pub newest_that : {X : Type 0} → (X → Bool) → List X → Option X
newest_that p [] = None
newest_that p (x ∷ xs) = later_or (newest_that p xs) (p x) x

-- a test says the same of all elements of a chain
abbrev pub AgreesOn : {X : Type 0} → (X → Bool) → List X → Type 0
AgreesOn p chain = Apart (λ x y. p x ≡ p y) chain

-- chains without the oldest element of one, which goes where that is its only one
abbrev pub shortened : {X : Type 0} → List (List X) → ℕ → List (List X)
shortened chains i = cond (length (chain_at chains i) == 1) (remove chains i) (slice_set chains i (drop 1 (chain_at chains i)))

-- the elements that pass, chain by chain, without chains of which none does
abbrev pub with_chain : {X : Type 0} → List X → List (List X) → List (List X)
with_chain [] chains = chains
with_chain (x ∷ chain) chains = (x ∷ chain) ∷ chains

abbrev pub kept_in : {X : Type 0} → (X → Bool) → List (List X) → List (List X)
kept_in p [] = []
kept_in p (c ∷ cs) = with_chain (filter p c) (kept_in p cs)

abbrev pub HasSome : {X : Type 0} → List X → Type 0
HasSome chain = 0 < length chain

-- ---- chains of slots, by links
abbrev pub link_of : List Link → ℕ → Link
link_of links p = slice_index_or links p (record { older = 0; newer = 0; height = 0 })

-- so many slots of a chain, up to one
abbrev pub linked : List Link → ℕ → ℕ → List ℕ
linked links p zero = []
linked links p (suc n) = linked links (link_of links p).older n ++ p ∷ []

-- the chain of which this slot is the newest
abbrev pub chain_of : List Link → ℕ → List ℕ
chain_of links p = linked links p (link_of links p).height

-- from each slot of a chain a link goes to the next one
abbrev pub Follows : List Link → List ℕ → Type 0
Follows links [] = Unit {0}
Follows links (p ∷ []) = Unit {0}
Follows links (p ∷ q ∷ rest) = ((link_of links p).newer ≡ q) × Follows links (q ∷ rest)

-- and from its newest one to the oldest
pub record IsLinked (links : List Link) (p : ℕ) : Type 0 where
  pub some : 0 < (link_of links p).height
  pub follows : Follows links (chain_of links p)
  pub round : slice_get (chain_of links p) 0 ≡ Some (link_of links p).newer

-- chains whose slots differ and have links
pub record AreLinked (links : List Link) (newest : List ℕ) : Type 0 where
  pub each : AllByRecursion (IsLinked links) newest
  pub apart : Apart Differ (joined (map (chain_of links) newest))
  pub within : AllByRecursion (λ p. p < length links) (joined (map (chain_of links) newest))

-- the slots chain by chain, for how many chains there is room, and how many slots have links
pub record Chained : Type 0 where
  pub chains : List (List ℕ)
  pub room : ℕ
  pub links : ℕ

abbrev pub chained_code : Coded Chained
chained_code = code_by ((List (List ℕ) × ℕ) × ℕ) (coded× (coded× (coded_list (coded_list coded_ℕ)) coded_ℕ) coded_ℕ) (λ c. ((c.chains, c.room), c.links)) (λ p. record { chains = p.0.0; room = p.0.1; links = p.1 }) (λ _. refl)

-- ---- elements in chains, lists of some of them in other orders, and how many more go in without memory
pub record ChainShelved (T : Type 0) : Type 0 where
  pub chains : List (List T)
  pub others : List (List T)
  pub spare : ℕ

abbrev pub chain_shelved_code : {T : Type 0} → Coded T → Coded (ChainShelved T)
chain_shelved_code {T} c =
    code_by ((List (List T) × List (List T)) × ℕ) (coded× (coded× (coded_list (coded_list c)) (coded_list (coded_list c))) coded_ℕ) (λ s. ((s.chains, s.others), s.spare)) (λ p. record { chains = p.0.0; others = p.0.1; spare = p.1 }) (λ _. refl)

-- chains of slots that have elements, each slot that has one among them, with room and links for every slot
pub record AreChainShelved {T : Type 0} (slots : List (Option T)) (chains : List (List ℕ)) (free : List ℕ) (room ready free_room count : ℕ) (others : List Roomed) : Type 0 where
  pub own : IsShelf slots (joined chains) free room free_room
  pub lists : AllByRecursion (IsOrder slots) (lists_of others)
  pub rooms : HaveRoom (length slots) others
  pub links : length slots ≤ ready
  pub some : AllByRecursion HasSome chains
  pub counted : count ≡ length (joined chains)
  pub most : length slots < 2 ^ 32
