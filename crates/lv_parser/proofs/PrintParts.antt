-- What is read of the parts of statements is read again where it is printed.
use Rattle.std.proofs.Common.{◌≡◌, ℕ, zero, suc, ℤ, pos, negsuc, ◌-ℤ◌, ◌^◌, ◌<◌, Bool, true, false, List, [], ◌∷◌, ◌++◌, Option, Some, None, unwrap_or, refl, sym, ap, ◌∙◌, subst, append_assoc, codes}
use Rattle.lv_lexer.specs.declared.terminals.Class.{Class}
use Rattle.lv_lexer.specs.declared.terminals.Class.TheVariants as k
use Rattle.lv_lexer.specs.Written.{Lexeme, sign}
use Rattle.lv_parser.specs.declared.tree.Named.{Named}
use Rattle.lv_parser.specs.declared.tree.ColumnKind.TheVariants as kind
use Rattle.lv_parser.specs.declared.tree.AssignValue.TheVariants as a
use Rattle.lv_parser.specs.Rule.{Rule, token, pure, ◌>>=◌, ◌>>◌, ◌<$>◌, ◌or◌, optional}
use Rattle.lv_parser.specs.Trees.{source_of}
use Rattle.lv_parser.specs.Grammar as rule
use Rattle.lv_parser.specs.Bare.{bare_name, bare_name_if, bare_column, bare_item, bare_value, bare_assign, bare_ord}
use Rattle.lv_parser.specs.Printed.{in_parens, kind_token, column_tokens, output_if, item_tokens, amount_tokens, assigned_tokens, assign_tokens, falls_tokens, ord_tokens}
use Rattle.lv_parser.proofs.Keeps.{Keeps, token_keeps, pure_keeps, then_keeps, word_keeps, made_keeps, or_keeps, OnFound, optional_keeps}
use Rattle.lv_parser.proofs.Parts as part
use Rattle.lv_parser.proofs.PrintHonest.{IsHonest, honest_number}
use Rattle.lv_parser.proofs.PrintShows.{Shows, token_shows, then_shows, word_shows, made_shows, left_shows, right_shows, some_shows, none_shows, option_shows, as_tokens_of}
use Rattle.lv_parser.proofs.PrintWords.{the_as, the_count, the_desc, the_int, the_sum, the_text, the_left_paren, the_right_paren, the_star, the_plus, the_minus, the_equal}
use Rattle.lv_parser.proofs.PrintRules.{Again, Prints, NameAgain, or_prints, word_prints, the_number, number_is, minus_is, name_prints, col_prints, literal_prints}

-- what is printed does not depend on it
abbrev Any : {A : Type 0} → A → Type 0
Any x = Unit {0}

-- ---- columns

kind_prints : Prints part.column_kind (λ x. x) (λ x. kind_token x ∷ [])
kind_prints = or_prints (word_prints the_int kind.Int refl) (word_prints the_text kind.Text refl)

pub column_prints : Prints rule.column bare_column column_tokens
unfolding rule.column
column_prints =
    then_keeps name_prints (λ n name. then_keeps kind_prints (λ x kind. made_keeps (optional_keeps (word_keeps k.Not (token_keeps k.Null)))
    (λ o u. then_shows name (λ b e. then_shows kind (λ y f. made_shows (none_shows Any tt) (λ p v. cc))))))

-- ---- items

output_again : (output : Option Named) → OnFound NameAgain output → Shows (optional (token k.As >> rule.name)) (λ o. bare_name_if o ≡ bare_name_if output) (output_if output)
output_again None h = none_shows (λ o. bare_name_if o ≡ None) refl
output_again (Some n) h = option_shows bare_name n (word_shows the_as h)

-- behind what stands in parentheses
behind_parens : (xs ys : List Lexeme) → sign (codes "(") ∷ (xs ++ (sign (codes ")") ∷ ys)) ≡ in_parens xs ++ ys
behind_parens xs ys = ap (λ (zs : List Lexeme). sign (codes "(") ∷ zs) (sym (append_assoc xs (sign (codes ")") ∷ []) ys))

pub parens_then : {A B : Type 0} {p : Rule A} {q : A → Rule B} {P : A → Type 0} {Q : B → Type 0} {xs ys : List Lexeme} → Shows p P xs → ((a : A) → P a → Shows (q a) Q ys)
    → Shows (token k.LeftParen >> (p >>= λ a. token k.RightParen >> q a)) Q (in_parens xs ++ ys)
parens_then {xs = xs} {ys = ys} inside after = as_tokens_of (behind_parens xs ys) (word_shows the_left_paren (then_shows inside (λ a e. word_shows the_right_paren (after a e))))

pub item_prints : Prints rule.item bare_item item_tokens
unfolding rule.item
item_prints =
    or_prints (then_keeps col_prints (λ col c. made_keeps (optional_keeps (word_keeps k.As name_prints)) (λ output h. then_shows c (λ b e. made_shows (output_again output h) (λ o f. cc)))))
    (or_prints
    (word_keeps k.Sum (word_keeps k.LeftParen (then_keeps col_prints (λ col c. word_keeps k.RightParen (word_keeps k.As (made_keeps name_prints (λ output n.
    word_shows the_sum (parens_then c (λ b e. word_shows the_as (made_shows n (λ o f. cc)))))))))))
    (word_keeps k.Count (word_keeps k.LeftParen (word_keeps k.Star (word_keeps k.RightParen (word_keeps k.As (made_keeps name_prints (λ output n.
    word_shows the_count (word_shows the_left_paren (word_shows the_star (word_shows the_right_paren (word_shows the_as (made_shows n (λ o f. cc))))))))))))))

-- ---- ORDER BY

falls_again : (falls : Bool) → Shows (optional part.direction) (λ o. unwrap_or o false ≡ falls) (falls_tokens falls)
falls_again true = some_shows (λ o. unwrap_or o false ≡ true) (right_shows (made_shows {Q = λ b. b ≡ true} (token_shows the_desc) (λ t is. refl))) (λ b e. e)
falls_again false = none_shows (λ o. unwrap_or o false ≡ false) refl

direction_keeps : Keeps IsHonest part.direction Any
direction_keeps = or_keeps (any k.Asc false) (any k.Desc true)
  where
    any : (class : Class) (falls : Bool) → Keeps IsHonest (token class >> pure falls) Any
    any class falls = word_keeps class (pure_keeps falls tt)

pub ord_prints : Prints rule.ord bare_ord ord_tokens
unfolding rule.ord
ord_prints = then_keeps col_prints (λ col c. made_keeps (optional_keeps direction_keeps) (λ falls u. then_shows c (λ b e. made_shows (falls_again (unwrap_or falls false)) (λ o f. cc))))

-- ---- SET

-- what is added can be printed
abbrev AmountAgain : ℤ → Type 0
AmountAgain z = Shows part.amount (λ b. b ≡ z) (amount_tokens z)

plus_again : (n : ℕ) → n < 10 ^ 38 → AmountAgain (pos n)
plus_again n small = left_shows (word_shows the_plus (made_shows (token_shows (the_number n small)) (λ t is. ap (λ (m : ℕ). pos m) (number_is n t small is))))

minus_again : (n : ℕ) → n < 10 ^ 38 → AmountAgain (pos 0 -ℤ pos n)
minus_again zero small = plus_again 0 small
minus_again (suc n) small =
    let shows : AmountAgain (negsuc n) =
    right_shows (word_shows the_minus (made_shows (token_shows (the_number (suc n) small)) (λ t is. ap (λ (m : ℕ). pos 0 -ℤ pos m) (number_is (suc n) t small is) ∙ minus_is n)))
    in subst AmountAgain (sym (minus_is n)) shows

amount_keeps : Keeps IsHonest part.amount AmountAgain
amount_keeps =
    or_keeps (word_keeps k.Plus (made_keeps (token_keeps k.Number) (λ n is. plus_again n.number (honest_number n is.0 is.1))))
    (word_keeps k.Minus (made_keeps (token_keeps k.Number) (λ n is. minus_again n.number (honest_number n is.0 is.1))))

source_again : (n : Named) (amount : Option ℤ) → NameAgain n → OnFound AmountAgain amount → Again part.source bare_value assigned_tokens (source_of n amount)
source_again n None h k =
    then_shows h (λ b e. made_shows (none_shows (λ o. o ≡ None) refl) (λ o none. cc))
source_again n (Some z) h k =
    then_shows h (λ b e. made_shows (some_shows (λ o. o ≡ Some z) k (λ y f. ap (λ (w : ℤ). Some w) f)) (λ o some. cc))

value_prints : Prints ((a.Literal <$> rule.literal) or part.source) bare_value assigned_tokens
value_prints =
    or_prints (made_keeps literal_prints (λ l h. made_shows h (λ b e. cc)))
    (then_keeps name_prints (λ n h. made_keeps (optional_keeps amount_keeps) (λ amount k. source_again n amount h k)))

pub assign_prints : Prints rule.assign bare_assign assign_tokens
unfolding rule.assign
assign_prints =
    then_keeps name_prints (λ n name. word_keeps k.Equal (made_keeps value_prints (λ v value. then_shows name (λ b e. word_shows the_equal (made_shows value (λ w f. cc))))))
