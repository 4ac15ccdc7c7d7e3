use Rattle.std.proofs.Common.{◌+◌, ◌<◌, length, sym, ◌∙◌, arith}
use Rattle.lv_shelf.proofs.Cutting.{not_not}
use Rattle.lv_versions.proofs.ReadingChains.{last_before, last_of_all}
use Rattle.lv_versions.proofs.seen.Seen.is_last.Goals as goal

pub returns-then-next-len : goal.returns-then-next-len
returns-then-next-len g c = record {
  cut = λ _.
      let cs = c.args.self.now in
      last_of_all (g.P.Test.passed c.args.test.now) cs c.args.chain c.newest.result.now c.requires.falls c.requires.within c.newest.ensures (sym c.passes.ensures ∙ c.if-passes.true) (c.if-next-len.true ∙ c.len-len.ensures.count);
}

pub returns-else-next-len : goal.returns-else-next-len
returns-else-next-len g c = record {
  cut = λ t.
      let p = g.P.Test.passed c.args.test.now in
      let cs = c.args.self.now in
      let fails = sym c.passes-else-next-len.ensures ∙ not_not c.passes-else-next-len.result _ t in
      let lt : c.args.chain + 1 < length cs = omega (arith, c.if-next-len.false, c.len-len.ensures.count, c.requires.within) in
      last_before p cs c.args.chain c.newest.result.now c.newest-else-next-len.result.now c.requires.falls c.requires.agrees lt c.newest.ensures (sym c.passes.ensures ∙ c.if-passes.true) c.newest-else-next-len.ensures fails;
}
