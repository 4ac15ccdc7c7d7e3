-- What each rule reads is read again where it is printed.
use Rattle.std.proofs.Common.{◌≡◌, ℕ, zero, suc, ℤ, pos, negsuc, ◌-ℤ◌, ◌^◌, ◌<◌, List, [], ◌∷◌, map, Option, Some, None, option_map, refl, sym, ap, ◌∙◌, subst, arith}
use Rattle.std.specs.List.{AllByRecursion}
use Rattle.std.proofs.lemmas.Int.{ints}
use Rattle.lv_values.specs.declared.value.Value.TheVariants as v
use Rattle.lv_lexer.specs.declared.terminals.Class.{Class}
use Rattle.lv_lexer.specs.declared.terminals.Class.TheVariants as k
use Rattle.lv_lexer.specs.declared.terminals.Terminal.{Terminal}
use Rattle.lv_lexer.specs.Written.{Lexeme, word, number, text}
use Rattle.lv_lexer.proofs.Spelling.{number_spells, number_says, text_spells, text_says}
use Rattle.lv_parser.specs.declared.tree.Named.{Named}
use Rattle.lv_parser.specs.declared.tree.Literal.{Literal}
use Rattle.lv_parser.specs.declared.tree.Sign.TheVariants as s
use Rattle.lv_parser.specs.declared.conditions.Within.{Within}
use Rattle.lv_parser.specs.Rule.{Rule, token, pure, ◌>>◌, ◌or◌, many, separated}
use Rattle.lv_parser.specs.Trees.{named_of, column_of, number_at}
use Rattle.lv_parser.specs.Grammar as rule
use Rattle.lv_parser.specs.Bare.{bare_name, bare_col, bare_literal, bare_tuple, bare_operand}
use Rattle.lv_parser.specs.Printed.{behind, between, name_tokens, col_tokens, literal_tokens, tuple_tokens, comma, op_token, operand_tokens}
use Rattle.lv_parser.proofs.Keeps.{Keeps, token_keeps, pure_keeps, then_keeps, word_keeps, made_keeps, or_keeps, weaker_keeps, OnFound, optional_keeps, SomeOf, separated_keeps}
use Rattle.lv_parser.proofs.PrintHonest.{IsHonest, IsNameText, honest_name, honest_number}
use Rattle.lv_parser.proofs.PrintShows.{IsSaid, Shows, pure_shows, token_shows, then_shows, word_shows, made_shows, left_shows, right_shows, some_shows, none_shows, option_shows, no_more_shows, more_shows, as_tokens_of}
use Rattle.lv_parser.proofs.PrintWords.{IsThe, the_dot, the_minus, the_left_paren, the_right_paren, the_comma_sign, the_equal, the_not_equal, the_less, the_less_equal, the_greater, the_greater_equal}

-- what is printed of a tree is read again, but for places
abbrev pub Again : {A : Type 0} → Rule A → (A → A) → (A → List Lexeme) → A → Type 0
Again rule bare tokens a = Shows rule (λ b. bare b ≡ bare a) (tokens a)

-- whatever the rule reads of a line is read again where it is printed
abbrev pub Prints : {A : Type 0} → Rule A → (A → A) → (A → List Lexeme) → Type 0
Prints rule bare tokens = Keeps IsHonest rule (Again rule bare tokens)

pub or_prints : {A : Type 0} {p q : Rule A} {bare : A → A} {tokens : A → List Lexeme} → Prints p bare tokens → Prints q bare tokens → Prints (p or q) bare tokens
or_prints {p = p} {q = q} {bare = bare} {tokens = tokens} f g =
    or_keeps (weaker_keeps (Again (p or q) bare tokens) f (λ a h. left_shows h)) (weaker_keeps (Again (p or q) bare tokens) g (λ a h. right_shows h))

-- a keyword or sign alone
pub word_prints : {A : Type 0} {bare : A → A} {tokens : A → List Lexeme} {x : Lexeme} {k : Class} → IsThe x k → (a : A) → tokens a ≡ x ∷ [] → Prints (token k >> pure a) bare tokens
word_prints {k = k} the_x a are = word_keeps k (pure_keeps a (as_tokens_of (sym are) (word_shows the_x (pure_shows refl))))

-- ---- names

abbrev pub NameAgain : Named → Type 0
NameAgain = Again rule.name bare_name name_tokens

name_again : (n : Named) → IsNameText n.name → NameAgain n
unfolding rule.name
name_again n h =
    let the_name : IsThe (word n.name) k.Name = record { spelled = h.spelled; of_class = λ b. ap (λ (t : Terminal). t.class) (h.again b) } in
    made_shows (token_shows the_name) (λ t is. ap (λ (u : Terminal). bare_name (named_of u)) (is ∙ h.again t.byte))

pub name_prints : Prints rule.name bare_name name_tokens
unfolding rule.name
name_prints = made_keeps (token_keeps k.Name) (λ t is. name_again (named_of t) (honest_name t is.0 is.1))

-- ---- columns

col_again : (first : Named) (second : Option Named) → NameAgain first → OnFound NameAgain second → Again rule.col bare_col col_tokens (column_of first second)
unfolding rule.col
col_again first None n m =
    then_shows n (λ a e. made_shows (none_shows (λ q. q ≡ None) refl)
    (λ q none. ap (λ (o : Option Named). bare_col (column_of a o)) none ∙ ap (λ (x : Named). record { qualifier = None; name = x }) e))
col_again first (Some second) n m = then_shows n (λ a e. made_shows (option_shows bare_name second (word_shows the_dot m)) (λ o f. both a o e f))
  where
    both : (a : Named) (o : Option Named) → bare_name a ≡ bare_name first → option_map bare_name o ≡ Some (bare_name second) → bare_col (column_of a o) ≡ bare_col (column_of first (Some second))
    both a None e f = absurd cc
    both a (Some b) e f =
        let second_is : bare_name b ≡ bare_name second = cc in cc

pub col_prints : Prints rule.col bare_col col_tokens
unfolding rule.col
col_prints = then_keeps name_prints (λ first n. made_keeps (optional_keeps (word_keeps k.Dot name_prints)) (λ second m. col_again first second n m))

-- ---- values

pub the_number : (n : ℕ) → n < 10 ^ 38 → IsThe (number n) k.Number
the_number n small = record { spelled = number_spells n small; of_class = λ b. refl }

pub number_is : (n : ℕ) (t : Terminal) → n < 10 ^ 38 → IsSaid (number n) t → t.number ≡ n
number_is n t small is = ap (λ (u : Terminal). u.number) is ∙ number_says n small

pub minus_is : (n : ℕ) → pos 0 -ℤ pos (suc n) ≡ negsuc n
minus_is n = omega (arith, ints)

abbrev LiteralAgain : Literal → Type 0
LiteralAgain = Again rule.literal bare_literal literal_tokens

pos_again : (n b : ℕ) → n < 10 ^ 38 → LiteralAgain (record { value = v.Num (pos n); byte = b })
unfolding rule.literal
pos_again n b small =
    left_shows (then_shows (none_shows (λ m. m ≡ None) refl) (λ m none. made_shows (token_shows (the_number n small))
    (λ t is. ap (λ (o : Option Terminal). bare_literal (number_at o t)) none ∙ ap (λ (i : ℕ). record { value = v.Num (pos i); byte = 0 }) (number_is n t small is))))

negsuc_again : (n b : ℕ) → suc n < 10 ^ 38 → LiteralAgain (record { value = v.Num (negsuc n); byte = b })
unfolding rule.literal
negsuc_again n b small =
    left_shows (then_shows (some_shows (λ m. (u : Terminal) × (m ≡ Some u)) (token_shows the_minus) (λ u is. (u, refl))) (λ m some. made_shows (token_shows (the_number (suc n) small))
    (λ t is. ap (λ (o : Option Terminal). bare_literal (number_at o t)) some.1 ∙ ap (λ (i : ℕ). record { value = v.Num (pos 0 -ℤ pos i); byte = 0 }) (number_is (suc n) t small is)
    ∙ ap (λ (z : ℤ). record { value = v.Num z; byte = 0 }) (minus_is n))))

minus_again : (n b : ℕ) → n < 10 ^ 38 → LiteralAgain (record { value = v.Num (pos 0 -ℤ pos n); byte = b })
minus_again zero b small = pos_again 0 b small
minus_again (suc n) b small = let P : ℤ → Type 0 = λ z. LiteralAgain (record { value = v.Num z; byte = b }) in subst P (sym (minus_is n)) (negsuc_again n b small)

number_again : (minus : Option Terminal) (n : Terminal) → n.number < 10 ^ 38 → LiteralAgain (number_at minus n)
number_again None n small = pos_again n.number n.byte small
number_again (Some minus) n small = minus_again n.number minus.byte small

text_again : (t : List ℕ) (b : ℕ) → LiteralAgain (record { value = v.Text t; byte = b })
unfolding rule.literal
text_again t b =
    let the_text : IsThe (text t) k.Quoted = record { spelled = text_spells t; of_class = λ b. refl } in
    right_shows (made_shows (token_shows the_text) (λ u is. ap (λ (w : List ℕ). record { value = v.Text w; byte = 0 }) (ap (λ (x : Terminal). x.text) is ∙ text_says t)))

pub literal_prints : Prints rule.literal bare_literal literal_tokens
unfolding rule.literal
literal_prints =
    or_keeps (then_keeps (optional_keeps (token_keeps k.Minus)) (λ minus u. made_keeps (token_keeps k.Number) (λ n is. number_again minus n (honest_number n is.0 is.1))))
    (made_keeps (token_keeps k.Quoted) (λ t is. text_again t.text t.byte))

-- ---- lists

abbrev pub commas : {A : Type 0} → (A → List Lexeme) → List A → List Lexeme
commas tokens items = between comma (map tokens items)

module _ {A : Type 0} {rule : Rule A} (bare : A → A) (tokens : A → List Lexeme) {k : Class} {x : Lexeme} (the_x : IsThe x k) where
  behind_again : (items : List A) → AllByRecursion (Again rule bare tokens) items → Shows (many (token k >> rule)) (λ found. map bare found ≡ map bare items) (behind x (map tokens items))
  behind_again [] each = no_more_shows refl
  behind_again (a ∷ more) each =
      more_shows (word_shows the_x each.0) (behind_again more each.1) (λ b bs e es. cc)

  pub list_again : (items : List A) → SomeOf (Again rule bare tokens) items → Again (separated k rule) (map bare) (λ xs. between x (map tokens xs)) items
  list_again [] each = absurd (omega (arith, each.0))
  list_again (a ∷ more) each =
      then_shows each.1.0 (λ b e. made_shows (behind_again more each.1.1) (λ bs es. cc))

-- one or more, with commas between
pub commas_print : {A : Type 0} {rule : Rule A} (bare : A → A) (tokens : A → List Lexeme) → Prints rule bare tokens → Prints (separated k.Comma rule) (map bare) (commas tokens)
commas_print {rule = rule} bare tokens prints = weaker_keeps (Again (separated k.Comma rule) (map bare) (commas tokens)) (separated_keeps k.Comma prints) (list_again bare tokens the_comma_sign)

-- ---- tuples

pub tuple_prints : Prints rule.tuple bare_tuple tuple_tokens
unfolding rule.tuple
tuple_prints =
    then_keeps (token_keeps k.LeftParen) (λ paren is. then_keeps (commas_print bare_literal literal_tokens literal_prints) (λ values list. word_keeps k.RightParen (pure_keeps _
    (then_shows (token_shows the_left_paren) (λ p is. then_shows list (λ found e. word_shows the_right_paren (pure_shows (cc))))))))

-- ---- comparisons

pub operand_prints : (within : Within) → Prints (rule.operand within) bare_operand operand_tokens
unfolding rule.operand
operand_prints within =
    or_prints (made_keeps col_prints (λ col h. made_shows h (λ a e. cc)))
    (made_keeps literal_prints (λ l h. made_shows h (λ a e. cc)))

pub op_prints : Prints rule.op (λ x. x) (λ x. op_token x ∷ [])
unfolding rule.op
op_prints =
    or_prints (word_prints the_equal s.Eq refl) (or_prints (word_prints the_not_equal s.Ne refl) (or_prints (word_prints the_less s.Lt refl)
    (or_prints (word_prints the_less_equal s.Le refl) (or_prints (word_prints the_greater s.Gt refl) (word_prints the_greater_equal s.Ge refl)))))
