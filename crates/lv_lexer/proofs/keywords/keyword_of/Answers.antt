use Rattle.std.proofs.Common.{◌≡◌, ap, sym, ◌∙◌, false, length, eqb-true, arith}
use Rattle.std.proofs.lemmas.List.{get_or_past}
use Rattle.std.specs.Char.{to_ascii_lowercase}
use Rattle.std.proofs.lemmas.Bool.Decides.{nat_tests}
use Rattle.std.specs.Str.{str_to_ascii_lowercase}
use Rattle.lv_lexer.specs.Keywords.{keyword_of, spellings}
use Rattle.lv_lexer.proofs.Firsts.{first_lower, is_first, of_first, of_no_first}
use Rattle.lv_lexer.proofs.keywords.keyword_of.Goals as goal

pub returns-then-is_empty : goal.returns-then-is_empty
unfolding keyword_of
returns-then-is_empty c =
    let word = c.args.word.now in
    let none : length word ≡ 0 = eqb-true (length word) 0 (sym c.is_empty.ensures ∙ c.if-is_empty.true) in
    let first = first_lower word ∙ ap to_ascii_lowercase (get_or_past word 0 0 (omega (arith, none))) in
    sym (of_no_first (str_to_ascii_lowercase word) (ap is_first first))

pub returns-in-97 : goal.returns-in-97
unfolding keyword_of
returns-in-97 c = c.spelled_by.ensures ∙ of_first 97 spellings (str_to_ascii_lowercase c.args.word.now) (first_lower c.args.word.now ∙ sym c.to_ascii_lowercase.ensures.value ∙ c.in-97.is)

pub returns-in-98 : goal.returns-in-98
unfolding keyword_of
returns-in-98 c = c.spelled_by-in-98.ensures ∙ of_first 98 spellings (str_to_ascii_lowercase c.args.word.now) (first_lower c.args.word.now ∙ sym c.to_ascii_lowercase.ensures.value ∙ c.in-98.is)

pub returns-in-99 : goal.returns-in-99
unfolding keyword_of
returns-in-99 c = c.spelled_by-in-99.ensures ∙ of_first 99 spellings (str_to_ascii_lowercase c.args.word.now) (first_lower c.args.word.now ∙ sym c.to_ascii_lowercase.ensures.value ∙ c.in-99.is)

pub returns-in-100 : goal.returns-in-100
unfolding keyword_of
returns-in-100 c = c.spelled_by-in-100.ensures ∙ of_first 100 spellings (str_to_ascii_lowercase c.args.word.now) (first_lower c.args.word.now ∙ sym c.to_ascii_lowercase.ensures.value ∙ c.in-100.is)

pub returns-in-102 : goal.returns-in-102
unfolding keyword_of
returns-in-102 c = c.spelled_by-in-102.ensures ∙ of_first 102 spellings (str_to_ascii_lowercase c.args.word.now) (first_lower c.args.word.now ∙ sym c.to_ascii_lowercase.ensures.value ∙ c.in-102.is)

pub returns-in-103 : goal.returns-in-103
unfolding keyword_of
returns-in-103 c = c.spelled_by-in-103.ensures ∙ of_first 103 spellings (str_to_ascii_lowercase c.args.word.now) (first_lower c.args.word.now ∙ sym c.to_ascii_lowercase.ensures.value ∙ c.in-103.is)

pub returns-in-105 : goal.returns-in-105
unfolding keyword_of
returns-in-105 c = c.spelled_by-in-105.ensures ∙ of_first 105 spellings (str_to_ascii_lowercase c.args.word.now) (first_lower c.args.word.now ∙ sym c.to_ascii_lowercase.ensures.value ∙ c.in-105.is)

pub returns-in-106 : goal.returns-in-106
unfolding keyword_of
returns-in-106 c = c.spelled_by-in-106.ensures ∙ of_first 106 spellings (str_to_ascii_lowercase c.args.word.now) (first_lower c.args.word.now ∙ sym c.to_ascii_lowercase.ensures.value ∙ c.in-106.is)

pub returns-in-107 : goal.returns-in-107
unfolding keyword_of
returns-in-107 c = c.spelled_by-in-107.ensures ∙ of_first 107 spellings (str_to_ascii_lowercase c.args.word.now) (first_lower c.args.word.now ∙ sym c.to_ascii_lowercase.ensures.value ∙ c.in-107.is)

pub returns-in-109 : goal.returns-in-109
unfolding keyword_of
returns-in-109 c = c.spelled_by-in-109.ensures ∙ of_first 109 spellings (str_to_ascii_lowercase c.args.word.now) (first_lower c.args.word.now ∙ sym c.to_ascii_lowercase.ensures.value ∙ c.in-109.is)

pub returns-in-110 : goal.returns-in-110
unfolding keyword_of
returns-in-110 c = c.spelled_by-in-110.ensures ∙ of_first 110 spellings (str_to_ascii_lowercase c.args.word.now) (first_lower c.args.word.now ∙ sym c.to_ascii_lowercase.ensures.value ∙ c.in-110.is)

pub returns-in-111 : goal.returns-in-111
unfolding keyword_of
returns-in-111 c = c.spelled_by-in-111.ensures ∙ of_first 111 spellings (str_to_ascii_lowercase c.args.word.now) (first_lower c.args.word.now ∙ sym c.to_ascii_lowercase.ensures.value ∙ c.in-111.is)

pub returns-in-112 : goal.returns-in-112
unfolding keyword_of
returns-in-112 c = c.spelled_by-in-112.ensures ∙ of_first 112 spellings (str_to_ascii_lowercase c.args.word.now) (first_lower c.args.word.now ∙ sym c.to_ascii_lowercase.ensures.value ∙ c.in-112.is)

pub returns-in-114 : goal.returns-in-114
unfolding keyword_of
returns-in-114 c = c.spelled_by-in-114.ensures ∙ of_first 114 spellings (str_to_ascii_lowercase c.args.word.now) (first_lower c.args.word.now ∙ sym c.to_ascii_lowercase.ensures.value ∙ c.in-114.is)

pub returns-in-115 : goal.returns-in-115
unfolding keyword_of
returns-in-115 c = c.spelled_by-in-115.ensures ∙ of_first 115 spellings (str_to_ascii_lowercase c.args.word.now) (first_lower c.args.word.now ∙ sym c.to_ascii_lowercase.ensures.value ∙ c.in-115.is)

pub returns-in-116 : goal.returns-in-116
unfolding keyword_of
returns-in-116 c = c.spelled_by-in-116.ensures ∙ of_first 116 spellings (str_to_ascii_lowercase c.args.word.now) (first_lower c.args.word.now ∙ sym c.to_ascii_lowercase.ensures.value ∙ c.in-116.is)

pub returns-in-117 : goal.returns-in-117
unfolding keyword_of
returns-in-117 c = c.spelled_by-in-117.ensures ∙ of_first 117 spellings (str_to_ascii_lowercase c.args.word.now) (first_lower c.args.word.now ∙ sym c.to_ascii_lowercase.ensures.value ∙ c.in-117.is)

pub returns-in-118 : goal.returns-in-118
unfolding keyword_of
returns-in-118 c = c.spelled_by-in-118.ensures ∙ of_first 118 spellings (str_to_ascii_lowercase c.args.word.now) (first_lower c.args.word.now ∙ sym c.to_ascii_lowercase.ensures.value ∙ c.in-118.is)

pub returns-in-119 : goal.returns-in-119
unfolding keyword_of
returns-in-119 c = c.spelled_by-in-119.ensures ∙ of_first 119 spellings (str_to_ascii_lowercase c.args.word.now) (first_lower c.args.word.now ∙ sym c.to_ascii_lowercase.ensures.value ∙ c.in-119.is)

pub returns-in_default : goal.returns-in_default
unfolding keyword_of
returns-in_default c = sym (of_no_first (str_to_ascii_lowercase c.args.word.now) (ap is_first (first_lower c.args.word.now ∙ sym c.to_ascii_lowercase.ensures.value) ∙ other))
  where
    other : is_first c.to_ascii_lowercase.result ≡ false
    other = grind (arith, nat_tests)
