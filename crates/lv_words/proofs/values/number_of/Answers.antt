use Rattle.std.proofs.Common.{rules}
use Rattle.lv_words.proofs.Digits.{digits_are_read}
use Rattle.lv_words.proofs.values.number_of.Goals as goal

pub returns : goal.returns
returns c = search (rules, digits_are_read c.args.text.now c.parse.result c.parse.ensures.value.0)
