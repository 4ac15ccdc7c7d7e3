-- The ends of a list.
use Rattle.std.proofs.Common.{◌≡◌, ◌≤◌, List, [], ◌∷◌, length, ◌⊎◌, inl, inr, refl, sym, ap, subst, arith}
use Rattle.lv_lexer.specs.declared.terminals.Terminal.{Terminal}
use Rattle.lv_parser.specs.Fault.{IsEnd}

pub end_refl : (all : List Terminal) → IsEnd all all
end_refl [] = refl
end_refl (t ∷ all) = inl refl

pub end_at : (a b c : List Terminal) → b ≡ c → IsEnd a b → IsEnd a c
end_at a b c e h = let P : List Terminal → Type 0 = λ x. IsEnd a x in subst P e h

pub end_trans : (a b c : List Terminal) → IsEnd a b → IsEnd b c → IsEnd a c
end_trans a b [] h e = end_at a b [] e h
end_trans a b (t ∷ c) h (inl e) = end_at a b (t ∷ c) e h
end_trans a b (t ∷ c) h (inr k) = inr (end_trans a b c h k)

pub end_of : (a b c : List Terminal) → a ≡ b → IsEnd a c → IsEnd b c
end_of a b c e h = let P : List Terminal → Type 0 = λ x. IsEnd x c in subst P e h

-- of two ends of one list one is an end of the other
pub end_total : (a b all : List Terminal) → IsEnd a all → IsEnd b all → IsEnd a b ⊎ IsEnd b a
end_total a b [] h k = inl (end_at a [] b (sym k) h)
end_total a b (t ∷ all) (inl e) k = inr (end_at b (t ∷ all) a (sym e) k)
end_total a b (t ∷ all) (inr h) (inl e) = inl (end_at a (t ∷ all) b (sym e) (inr h))
end_total a b (t ∷ all) (inr h) (inr k) = end_total a b all h k

pub length-end : (a b : List Terminal) → IsEnd a b → length a ≤ length b
length-end a [] e = let l : length a ≡ length {A = Terminal} [] = ap length e in omega arith
length-end a (t ∷ b) (inl e) = let l : length a ≡ length (t ∷ b) = ap length e in omega arith
length-end a (t ∷ b) (inr h) = let l : length a ≤ length b = length-end a b h in omega arith

pub end_shorter : (t : Terminal) (r : List Terminal) → IsEnd (t ∷ r) r → ⊥
end_shorter t r h = let l : length (t ∷ r) ≤ length r = length-end (t ∷ r) r h in absurd (omega arith)

pub end_anti : (a b : List Terminal) → IsEnd a b → IsEnd b a → a ≡ b
end_anti a [] h k = h
end_anti a (t ∷ b) (inl e) k = e
end_anti a (t ∷ b) (inr h) k = absurd (end_shorter t b (end_trans (t ∷ b) a b k h))
