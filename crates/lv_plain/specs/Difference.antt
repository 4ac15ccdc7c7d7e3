-- Where two programs differ first.
use Rattle.std.specs.Prelude.{◌≡◌, ◌≢◌, ℕ, zero, suc, ◌<◌, List, [], ◌∷◌, Option, Some, None, slice_get}
use Rattle.lv_plain.specs.declared.program.Script.{Script}
use Rattle.lv_plain.specs.declared.program.Program.{Program}

-- a session's name, and behind it its statements; nothing where there is no session
abbrev pub texts_of : Option Script → List (List ℕ)
texts_of None = []
texts_of (Some s) = s.name ∷ s.lines

-- The statement at a place, from 1, of a session, from 1; the setup is session 0. Place 0 of a session is its
-- name. Nothing where there is none.
abbrev pub text_at : Program → ℕ → ℕ → Option (List ℕ)
text_at program zero zero = None
text_at program zero (suc place) = slice_get program.setup place
text_at program (suc session) place = slice_get (texts_of (slice_get program.sessions session)) place

-- Two programs agree at a place of a session: they have the same statement or name there, or neither has one.
-- Place 0 of the setup stands for the order.
abbrev pub AgreeAt : Program → Program → ℕ → ℕ → Type 0
AgreeAt a b zero zero = a.order ≡ b.order
AgreeAt a b zero (suc place) = text_at a 0 (suc place) ≡ text_at b 0 (suc place)
AgreeAt a b (suc session) place = text_at a (suc session) place ≡ text_at b (suc session) place

-- They differ there, and at no session before, and at no place before in this session.
pub record IsFirstDifference (a b : Program) (session place : ℕ) : Type 0 where
  pub differ : ¬ (AgreeAt a b session place)
  pub sessions : (s p : ℕ) → s < session → AgreeAt a b s p
  pub places : (p : ℕ) → p < place → AgreeAt a b session p

-- ---- lists

-- Two lists differ at this place, and at none before.
pub record IsFirstApart {A : Type 0} (xs ys : List A) (place : ℕ) : Type 0 where
  pub differ : slice_get xs place ≢ slice_get ys place
  pub before : (k : ℕ) → k < place → slice_get xs k ≡ slice_get ys k

-- The sessions with the number n + 1 differ at this place first, and those before them not at all.
abbrev pub IsFirstSession : List Script → List Script → ℕ → ℕ → Type 0
IsFirstSession a b zero place = ⊥
IsFirstSession a b (suc n) place = IsFirstApart (texts_of (slice_get a n)) (texts_of (slice_get b n)) place × ((k : ℕ) → k < n → slice_get a k ≡ slice_get b k)
