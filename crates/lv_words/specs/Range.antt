-- The ranges in which accepted words lie.
use Rattle.std.specs.Prelude.{◌≡◌, ◌≤◌, ◌<◌, true, length, None, IfSome}
use Rattle.lv_words.specs.declared.words.Words.{Words}

pub record IsInRange (w : Words) : Type 0 where
  pub workers : w.workers ≤ 8
  pub turns : w.turns ≤ 10000
  pub combine : (1 ≤ w.combine) × (w.combine ≤ 64)
  pub policy : w.policy < 3
  pub log : IfSome w.log (λ path. 0 < length path)
  pub log_limit : (9 ≤ w.log_limit) × (w.log_limit ≤ 4294967295)
  pub apart : w.threads ≡ true → w.make ≡ None
  pub make : IfSome w.make (λ n. (1 ≤ n) × (n ≤ 65536))
