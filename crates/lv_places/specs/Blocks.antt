-- Numbers in blocks, or elsewhere while there is no block.
use Rattle.std.specs.Prelude.{◌≡◌, ◌==◌, ℕ, cond, min, ◌+◌, ◌-◌, ◌*◌, ◌^◌, ◌<◌, ◌≤◌, List, [], length, slice_index_or, refl}
use Rattle.std.specs.Coded.{Coded, code_by, coded×, coded_ℕ, coded_list}
use Rattle.std.specs.List.{concat}

-- numbers, and for how many there is room
pub record Roomed : Type 0 where
  pub list : List ℕ
  pub room : ℕ

abbrev pub roomed_code : Coded Roomed
roomed_code = code_by (List ℕ × ℕ) (coded× (coded_list coded_ℕ) coded_ℕ) (λ r. (r.list, r.room)) (λ p. record { list = p.0; room = p.1 }) (λ _. refl)

-- the block with this number
abbrev pub block_at : List (List ℕ) → ℕ → List ℕ
block_at blocks j = slice_index_or blocks j []

-- how many of n numbers a block has, where each is full before the next has one
abbrev pub share : ℕ → ℕ → ℕ → ℕ
share size n j = min size (n - j * size)

-- n numbers in blocks of a size
pub record ArePacked (size n : ℕ) (blocks : List (List ℕ)) : Type 0 where
  pub shares : (j : ℕ) → j < length blocks → length (block_at blocks j) ≡ share size n j
  pub fits : n ≤ size * length blocks

-- one block has one number more, or one fewer
pub record HaveOneMore (size n one : ℕ) (blocks : List (List ℕ)) : Type 0 where
  pub over : length (block_at blocks one) ≡ share size n one + 1
  pub shares : (j : ℕ) → (j ≡ one → ⊥) → j < length blocks → length (block_at blocks j) ≡ share size n j

pub record LackOne (size n one : ℕ) (blocks : List (List ℕ)) : Type 0 where
  pub lacks : length (block_at blocks one) + 1 ≡ share size n one
  pub shares : (j : ℕ) → (j ≡ one → ⊥) → j < length blocks → length (block_at blocks j) ≡ share size n j

-- n numbers in blocks of a size, if there are any, all of which 64 bits count
pub record AreBlocks (size n : ℕ) (blocks : List (List ℕ)) : Type 0 where
  pub count : n ≡ length (concat blocks)
  pub packed : ArePacked size n blocks
  pub most : size * length blocks < 2 ^ 64
  pub sized : 0 < length blocks → 0 < size

-- the numbers: those in blocks, unless there is room for none in blocks
abbrev pub held : Roomed → Roomed → Roomed
held few blocks = cond (blocks.room == 0) few blocks
