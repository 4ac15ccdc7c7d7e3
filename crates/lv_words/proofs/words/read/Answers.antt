use Rattle.std.proofs.Common.{map, ◌∙◌}
use Rattle.lv_words.proofs.Finding.{refuses_but_memory}
use Rattle.lv_words.proofs.words.read.Goals as goal

pub returns : goal.returns
returns c = record {
  accepted = tt;
  range = tt;
  refused = λ _. refuses_but_memory c.in-Err.error (map (λ w. w.now) c.args.words.now) c.in-Err.ensures.kinds (λ h. c.in_default.not-OutOfMemory (c.kind.ensures ∙ h));
}
