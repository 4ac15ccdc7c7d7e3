use Rattle.lv_lexer.proofs.Spelling.{number_spells, number_says, text_spells, text_says}
use Rattle.lv_lexer.proofs.writing.spelling_says_value.Goals as goal

pub returns-clause-number : goal.returns-clause-number
returns-clause-number c n h = (number_spells n h, number_says n h)

pub returns-clause-text : goal.returns-clause-text
returns-clause-text c t = (text_spells t, text_says t)
