use Rattle.std.proofs.Common.{◌≡◌, take, map}
use Rattle.lv_words.proofs.words.borrowed.Given as goal

abbrev pub invariant-loop-word : goal.invariant-loop-word
invariant-loop-word l = map (λ s. s.now) l.texts.items ≡ take l.word-index l.words
