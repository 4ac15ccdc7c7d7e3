-- A condition of at most so many layers, by its first layer.
use Rattle.std.proofs.Common.{◌≡◌, ℕ, zero, suc, ◌-◌, ◌<◌, List, [], None, refl, ap, arith}
use Rattle.lv_schema.specs.declared.cond.Cond.{Cond}
use Rattle.lv_record.specs.Spelling.{layer, layers}

pub no_text : (n : ℕ) (c : Cond) → n ≡ 0 → (layers n).text c ≡ []
unfolding layers
no_text zero c e = refl
no_text (suc n) c e = absurd (omega arith)

pub none_read : (n : ℕ) (bytes : List ℕ) → n ≡ 0 → (layers n).read bytes ≡ None
unfolding layers
none_read zero bytes e = refl
none_read (suc n) bytes e = absurd (omega arith)

pub layer_text : (n : ℕ) (c : Cond) → 0 < n → (layer (layers (n - 1))).text c ≡ (layers n).text c
unfolding layers
layer_text zero c h = absurd (omega arith)
layer_text (suc n) c h = let e : suc n - 1 ≡ n = omega arith in ap (λ (k : ℕ). (layer (layers k)).text c) e

pub layer_read : (n : ℕ) (bytes : List ℕ) → 0 < n → (layer (layers (n - 1))).read bytes ≡ (layers n).read bytes
unfolding layers
layer_read zero bytes h = absurd (omega arith)
layer_read (suc n) bytes h = let e : suc n - 1 ≡ n = omega arith in ap (λ (k : ℕ). (layer (layers k)).read bytes) e
