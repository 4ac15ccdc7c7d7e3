use Rattle.std.proofs.Common.{◌≡◌, drop}
use Rattle.std.specs.Str.{str_to_ascii_lowercase}
use Rattle.lv_lexer.specs.Keywords.{spelled_by, in_lower_case}
use Rattle.lv_lexer.proofs.keywords.spelled_by.Given as goal

abbrev pub invariant-loop-spelling : goal.invariant-loop-spelling
invariant-loop-spelling l =
    spelled_by (in_lower_case (drop l.spelling-index l.table)) (str_to_ascii_lowercase l.word) ≡ spelled_by (in_lower_case l.table) (str_to_ascii_lowercase l.word)
