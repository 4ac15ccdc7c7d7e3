-- The next token of a list that lies backwards, as the code takes it off.
use Rattle.std.proofs.Common.{◌≡◌, ℕ, Bool, true, false, List, [], ◌∷◌, ◌++◌, ◌-◌, ◌<◌, zero, suc, length, reverse, arith, subst, Option, Some, None, slice_get, MatchOption, IfSome, Ok, Err, refl, sym, ap, ◌∙◌}
use Rattle.std.proofs.lemmas.List.{reverse-append}
use denote.Enum.Bare.{same_true, true_same, sameb}
use Rattle.lv_lexer.specs.contracts.terminals.Class.{the_type}
use Rattle.lv_lexer.specs.declared.terminals.Class.{Class}
use Rattle.lv_lexer.specs.declared.terminals.Terminal.{Terminal}
use Rattle.lv_parser.specs.Class.{same}
use Rattle.lv_parser.specs.Reading.{sees, expect, optional, next}
use Rattle.lv_parser.specs.Numbers.{IsSmall, AreSmall}
use Rattle.lv_parser.proofs.Classes.{same_class, same-refl}

bool_same : (x y : Bool) → (x ≡ true → y ≡ true) → (y ≡ true → x ≡ true) → x ≡ y
bool_same true true f g = refl
bool_same true false f g = sym (f refl)
bool_same false true f g = g refl
bool_same false false f g = refl

pub sameb-same : (a b : Class) → sameb the_type a b ≡ same a b
sameb-same a b = bool_same (sameb the_type a b) (same a b) (λ h. same-refl a b (same_true the_type (search tt) a b h)) (λ h. true_same the_type a b (same_class a b h))

-- the first of what lies backwards lies last
abbrev or_last : Option Terminal → Terminal → Option Terminal
or_last None t = Some t
or_last (Some u) t = Some u

next_behind : (t : Terminal) (all : List Terminal) → next (all ++ t ∷ []) ≡ or_last (next all) t
next_behind t [] = refl
next_behind t (u ∷ all) = refl

some_last : (all : List Terminal) (t : Terminal) → or_last (slice_get all (length all - 1)) t ≡ slice_get (t ∷ all) (length all)
some_last [] t = refl
some_last (u ∷ all) t = let e : length (u ∷ all) - 1 ≡ length all = omega arith in rw e (within (u ∷ all) (length all) (omega arith)) where
  within : (xs : List Terminal) (k : ℕ) → k < length xs → or_last (slice_get xs k) t ≡ slice_get xs k
  within [] k l = absurd (omega arith)
  within (x ∷ xs) zero l = refl
  within (x ∷ xs) (suc k) l = within xs k (omega arith)

pub next_last : (backwards : List Terminal) → slice_get backwards (length backwards - 1) ≡ next (reverse backwards)
next_last [] = refl
next_last (t ∷ all) =
    let e : length (t ∷ all) - 1 ≡ length all = omega arith in
    rw (e, reverse-append (t ∷ []) all) (sym (some_last all t) ∙ (ap (λ x. or_last x t) (next_last all) ∙ sym (next_behind t (reverse all))))

pub sees_none : (k : Class) (all : List Terminal) → next all ≡ None → false ≡ sees k all
unfolding sees
sees_none k [] e = refl
sees_none k (t ∷ rest) e = cc

pub sees_some : (k : Class) (all : List Terminal) (t : Terminal) → next all ≡ Some t → same t.class k ≡ sees k all
unfolding sees
sees_some k [] t e = cc
sees_some k (u ∷ rest) t e = let q : t ≡ u = cc in ap (λ x. same x.class k) q

pub expect_other : (k : Class) (all : List Terminal) → sees k all ≡ false → expect k all ≡ Err all
unfolding sees expect
expect_other k [] e = refl
expect_other k (t ∷ rest) e = rw e refl

pub expect_taken : (k : Class) (all : List Terminal) (t : Terminal) (rest : List Terminal) → sees k all ≡ true → all ≡ t ∷ rest → expect k all ≡ Ok (t, rest)
unfolding sees expect
expect_taken k all t rest e q = let P : List Terminal → Type 0 = λ x. sees k x ≡ true → expect k x ≡ Ok (t, rest) in subst P (sym q) (λ h. rw h refl) e

pub expect_nothing : (k : Class) (all rest : List Terminal) → all ≡ [] → rest ≡ [] → expect k all ≡ Err rest
unfolding expect
expect_nothing k all rest e f = rw (e, f) refl

pub small_behind : (all : List Terminal) (t : Terminal) → AreSmall (all ++ t ∷ []) → AreSmall all × IsSmall t
small_behind [] t h = (tt, h.0)
small_behind (u ∷ all) t h = let more = small_behind all t h.1 in ((h.0, more.0), more.1)

pub taken_rest : (last : Option Terminal) (all rest : List Terminal) → AreSmall all
    → MatchOption last ((all ≡ []) × (rest ≡ [])) (λ t. all ≡ rest ++ t ∷ []) → AreSmall rest
taken_rest None all rest h e = subst AreSmall (sym e.1) tt
taken_rest (Some t) all rest h e = (small_behind rest t (subst AreSmall e h)).0

pub taken_small : (last : Option Terminal) (all rest : List Terminal) → AreSmall all
    → MatchOption last ((all ≡ []) × (rest ≡ [])) (λ t. all ≡ rest ++ t ∷ []) → IfSome last IsSmall
taken_small None all rest h e = tt
taken_small (Some t) all rest h e = (small_behind rest t (subst AreSmall e h)).1

pub allow_taken : (k : Class) (all : List Terminal) (found : Option Terminal) (rest : List Terminal) → sees k all ≡ true
    → MatchOption found ((all ≡ []) × (rest ≡ [])) (λ t. all ≡ t ∷ rest) → optional (sees k) (expect k) all ≡ Ok (found, rest)
unfolding sees
allow_taken k [] found rest s e = cc
allow_taken k (t ∷ all) None rest s e = let q : t ∷ all ≡ [] = e.0 in cc
allow_taken k (t ∷ all) (Some u) rest s e = rw (s, expect_taken k (t ∷ all) u rest s e) refl
