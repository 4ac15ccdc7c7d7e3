-- A vector that was written through a slice of all of it.
use Rattle.std.proofs.Common.{◌≡◌, ℕ, ◌++◌, List, drop, take, length, ap, ◌∙◌, arith}
use Rattle.std.proofs.lemmas.List.{append-nil, drop_all, take_all}

pub written_back : {X : Type 0} (len : ℕ) (new items : List X) → length new ≡ length items → len ≡ length items → take len (new ++ drop (length new) items) ≡ new
written_back len new items e f =
    ap (λ l. take len (new ++ l)) (drop_all (length new) items (omega (arith, e))) ∙ ap (take len) (append-nil new) ∙ take_all len new (omega (arith, e, f))
