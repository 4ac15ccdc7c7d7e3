use Rattle.std.proofs.Common.{arith}
use Rattle.lv_lexer.proofs.Quotes.{past_other, past_two}
use Rattle.lv_lexer.proofs.pieces.closing_len.Goals as goal

pub quote-preserved-then-bytes-at-ne-QUOTE : goal.quote-preserved-then-bytes-at-ne-QUOTE
quote-preserved-then-bytes-at-ne-QUOTE c = record {
  whole = past_other c.args.bytes.now c.quote.at c.quote.invariant.whole c.quote-test.true c.if-bytes-at-ne-QUOTE.true;
  within = omega arith;
}

pub quote-preserved : goal.quote-preserved
quote-preserved c = record {
  whole = past_two c.args.bytes.now c.quote.at c.quote.invariant.whole c.quote-test.true c.if-bytes-at-ne-QUOTE.false c.if-at-bytes.true c.if-bytes-at-eq-QUOTE.true;
  within = omega arith;
}
