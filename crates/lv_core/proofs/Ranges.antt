-- Tests of the numbers from one to another.
use Rattle.std.proofs.Common.{◌≡◌, ℕ, suc, ◌+◌, ◌-◌, ◌&&◌, ◌<◌, Bool, ap, arith}
use Rattle.std.specs.List.{list_all, range_with_len}

pub all_from : (q : ℕ → Bool) (i n : ℕ) → i < n → list_all q (range_with_len i (n - i)) ≡ (q i && list_all q (range_with_len (i + 1) (n - (i + 1))))
all_from q i n lt = ap (λ m. list_all q (range_with_len i m)) (let e : n - i ≡ suc (n - (i + 1)) = omega arith in e)
