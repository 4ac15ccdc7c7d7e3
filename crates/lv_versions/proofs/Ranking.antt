-- The first bytes of a text as one number.
use Rattle.std.proofs.Common.{◌≡◌, ℕ, suc, ◌+◌, ◌*◌, ◌^◌, ◌<◌, ◌≤◌, arith}
use Rattle.std.proofs.Math.Nat.{pow-le-pow_right}

pub one_byte_more : (k rank byte : ℕ) → k < 8 → rank < 256 ^ k → byte < 256 → (rank * 256 + byte < 256 ^ suc k) × (256 ^ suc k ≤ 2 ^ 64)
one_byte_more k rank byte lt fits b =
    let p : 256 ^ suc k ≡ 256 * 256 ^ k = grind arith in
    let more : suc k ≤ 8 = omega (arith, lt) in
    let most : 256 ^ suc k ≤ 256 ^ 8 = pow-le-pow_right (omega arith) more in
    (omega (arith, p, fits, b), omega (arith, most))
