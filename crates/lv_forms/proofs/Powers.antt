-- Numbers of so many bytes.
use Rattle.std.proofs.Common.{◌≡◌, ℕ, zero, suc, ◌+◌, ◌-◌, ◌*◌, ◌^◌, ◌<◌, ◌≤◌, arith}
use Rattle.std.proofs.Math.Nat.{pow-le-pow_right}

-- a byte and a number of one byte fewer, of at most 16 bytes
pub one_byte_more : (k high low : ℕ) → 0 < k → k ≤ 16 → high < 256 ^ (k - 1) → low < 256 → (low + 256 * high < 256 ^ k) × (256 ^ k ≤ 2 ^ 128)
one_byte_more zero high low some few h l = absurd (omega arith)
one_byte_more (suc k) high low some few h l =
    let e : suc k - 1 ≡ k = omega arith in
    let less : high < 256 ^ k = rw e at h in
    let p : 256 ^ suc k ≡ 256 * 256 ^ k = grind arith in
    let most : 256 ^ suc k ≤ 256 ^ 16 = pow-le-pow_right (omega arith) few in
    (omega arith, omega (arith, most))
