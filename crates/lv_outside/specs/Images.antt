-- What the calls of a disk do to its bytes, and what a crash may leave between two good syncs.
use Rattle.std.specs.Prelude.{◌≡◌, ◌⊎◌, ◌≤◌, ◌+◌, ◌-◌, ℕ, max, min, List, ◌++◌, length, take, drop, Option, Some, None, IfSome}

-- new is old with these bytes at this place
abbrev pub Holds : ℕ → List ℕ → List ℕ → List ℕ → Type 0
Holds at piece old new = new ≡ take at old ++ piece ++ drop (at + length piece) old

-- a write of n bytes that is cut short: any bytes in its range and past the old end, the same elsewhere; the
-- length is any from the old one to the end of the range
pub record Torn (at n : ℕ) (old new : List ℕ) : Type 0 where
  pub before : take at new ≡ take at old
  pub after : drop (at + n) new ≡ drop (at + n) old
  pub no_shorter : length old ≤ length new
  pub no_longer : length new ≤ max (length old) (at + n)

-- the bytes are told before and after, or neither time; where they are, the step leads from the ones to the others
abbrev pub Told : (List ℕ → List ℕ → Type 0) → Option (List ℕ) → Option (List ℕ) → Type 0
Told step None None = Unit {0}
Told step None (Some new) = ⊥
Told step (Some old) None = ⊥
Told step (Some old) (Some new) = step old new

-- each new image is an old one after a step
abbrev pub Follows : (List ℕ → List ℕ → Type 0) → (List ℕ → Type 0) → (List ℕ → Type 0) → Type 0
Follows step old new = (c : List ℕ) → new c → (d : List ℕ) × old d × step d c

-- there is no new image
abbrev pub NoMore : (List ℕ → Type 0) → (List ℕ → Type 0) → Type 0
NoMore old new = (c : List ℕ) → new c → old c

-- each image is what a read gives
abbrev pub OnlyTold : Option (List ℕ) → (List ℕ → Type 0) → Type 0
OnlyTold seen images = (c : List ℕ) → images c → seen ≡ Some c

-- these are the first n bytes of the buffer from this place on: as many as are there and fit
abbrev pub GivesAt : Option (List ℕ) → ℕ → ℕ → List ℕ → Type 0
GivesAt seen at n buf = (n ≤ length buf) × IfSome seen (λ f. (take n buf ≡ take n (drop at f)) × (n ≡ min (length f - at) (length buf)))

-- Time goes on: a crash since t might have left what it might have left before, or what it may leave now.
pub record Elapses (before now : ℕ) (past since : ℕ → List ℕ → Type 0) (images : List ℕ → Type 0) : Type 0 where
  pub later : before ≤ now
  pub nothing_else : (t : ℕ) (c : List ℕ) → t ≤ before → since t c → past t c ⊎ images c
  pub keeps : (t : ℕ) (c : List ℕ) → t ≤ before → past t c → since t c

-- A crash at any moment since old leaves bytes that have P.
pub record LeavesOnly {D : Type 0} (moment : D → ℕ) (left_since : D → ℕ → List ℕ → Type 0) (old new : D) (P : List ℕ → Type 0) : Type 0 where
  pub later : moment old ≤ moment new
  pub each : (c : List ℕ) → left_since new (moment old) c → P c
  -- for a run that began earlier
  pub before : (t : ℕ) (c : List ℕ) → t ≤ moment old → left_since new t c → left_since old t c ⊎ P c

-- so many calls that write, of n bytes in all, none of them past this end, take no memory
pub record HasRoom (ready : ℕ → ℕ → ℕ → Type 0) (count n last : ℕ) : Type 0 where
  pub calls : ℕ
  pub bytes : ℕ
  pub end : ℕ
  pub enough : ready (calls + count) (bytes + n) end
  pub within : last ≤ end

-- what room is left after so many calls that write, of n bytes in all, none of them past this end
abbrev pub Spends : (ℕ → ℕ → ℕ → Type 0) → (ℕ → ℕ → ℕ → Type 0) → ℕ → ℕ → ℕ → Type 0
Spends old new count n last = (calls bytes end : ℕ) → last ≤ end → old (calls + count) (bytes + n) end → new calls bytes end

-- no room is taken
abbrev pub KeepsRoom : (ℕ → ℕ → ℕ → Type 0) → (ℕ → ℕ → ℕ → Type 0) → Type 0
KeepsRoom old new = (calls bytes end : ℕ) → old calls bytes end → new calls bytes end

-- what a disk that tells no images may leave now, and since a moment: nothing that it tells
abbrev pub none_now : List ℕ → Type 0
none_now c = ⊥

abbrev pub none_since : ℕ → List ℕ → Type 0
none_since t c = ⊥
