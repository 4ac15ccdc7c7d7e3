-- What the parts of every statement of a line keep.
use Rattle.std.proofs.Common.{◌≡◌, ℕ, zero, suc, ℤ, pos, negsuc, nat_abs, ◌-ℤ◌, ◌^◌, ◌<◌, Bool, true, nat_lt, Option, Some, None, refl, ap, ◌∙◌, arith}
use Rattle.std.proofs.lemmas.Bool.{lt-ltb}
use Rattle.std.proofs.lemmas.Int.{ints}
use Rattle.lv_lexer.specs.declared.terminals.Class.{Class}
use Rattle.lv_lexer.specs.declared.terminals.Class.TheVariants as k
use Rattle.lv_parser.specs.declared.tree.Assign.{Assign}
use Rattle.lv_parser.specs.declared.tree.ColName.{ColName}
use Rattle.lv_parser.specs.declared.tree.ColumnKind.{ColumnKind}
use Rattle.lv_parser.specs.declared.tree.ColumnTree.{ColumnTree}
use Rattle.lv_parser.specs.declared.tree.ItemTree.{ItemTree}
use Rattle.lv_parser.specs.declared.tree.ItemTree.TheVariants as i
use Rattle.lv_parser.specs.declared.tree.Literal.{Literal}
use Rattle.lv_parser.specs.declared.tree.Named.{Named}
use Rattle.lv_parser.specs.declared.tree.Tuple.{Tuple}
use Rattle.lv_parser.specs.Grammar as rule
use Rattle.lv_parser.specs.Rule.{token, pure, ◌>>◌}
use Rattle.lv_parser.specs.Trees.{source_of}
use Rattle.lv_bind.specs.Spoken.{is_spoken_name, value_in_line, tuple_in_line, assigned_in_line, output_name}
use Rattle.lv_bind.proofs.SpokenRules.{Keeps, token_keeps, pure_keeps, then_keeps, word_then, made_keeps, or_keeps, OnFound, optional_keeps, separated_keeps, all_pass}
use Rattle.lv_bind.proofs.SpokenConds.{name_keeps, literal_keeps, col_keeps}

abbrev pub Any : {A : Type 0} → A → Type 0
Any x = Unit {0}

-- ---- columns of a table

abbrev pub IsColumn : ColumnTree → Type 0
IsColumn x = is_spoken_name x.name.name ≡ true

pub column_keeps : Keeps rule.column IsColumn
unfolding rule.column
column_keeps = then_keeps name_keeps (λ n e. then_keeps (or_keeps (kind k.Int _) (kind k.Text _)) (λ held u. made_keeps IsColumn (optional_keeps (word_then k.Not (token_keeps k.Null))) (λ o v. e)))
  where
    kind : (class : Class) (x : ColumnKind) → Keeps (token class >> pure x) Any
    kind class x = word_then class (pure_keeps Any x tt)

-- ---- items of a view

abbrev pub IsItem : ItemTree → Type 0
IsItem x = is_spoken_name (output_name x) ≡ true

plain_named : (col : ColName) (output : Option Named) → is_spoken_name col.name.name ≡ true → OnFound (λ n. is_spoken_name n.name ≡ true) output → IsItem (i.Plain col output)
plain_named col None e h = e
plain_named col (Some n) e h = h

pub item_keeps : Keeps rule.item IsItem
unfolding rule.item
item_keeps =
    or_keeps (then_keeps col_keeps (λ col e. made_keeps IsItem (optional_keeps (word_then k.As name_keeps)) (λ output h. plain_named col output e h)))
    (or_keeps
    (word_then k.Sum (word_then k.LeftParen (then_keeps col_keeps (λ col e. word_then k.RightParen (word_then k.As (made_keeps IsItem name_keeps (λ output h. h)))))))
    (word_then k.Count (word_then k.LeftParen (word_then k.Star (word_then k.RightParen (word_then k.As (made_keeps IsItem name_keeps (λ output h. h))))))))

-- ---- tuples

abbrev pub IsTuple : Tuple → Type 0
IsTuple t = tuple_in_line t ≡ true

pub tuple_keeps : Keeps rule.tuple IsTuple
unfolding rule.tuple
tuple_keeps =
    then_keeps (token_keeps k.LeftParen) (λ paren u. then_keeps (separated_keeps k.Comma literal_keeps) (λ values h. word_then k.RightParen
    (pure_keeps IsTuple (record { byte = paren.byte; values = values }) (all_pass (λ (l : Literal). value_in_line l.value) values h.1))))

-- ---- what an UPDATE sets

abbrev pub IsAssign : Assign → Type 0
IsAssign x = assigned_in_line x.value ≡ true

abbrev IsAmount : ℤ → Type 0
IsAmount z = nat_lt (nat_abs z) (10 ^ 38) ≡ true

taken_size : (n : ℕ) → nat_abs (pos 0 -ℤ pos n) ≡ n
taken_size zero = refl
taken_size (suc n) = let e : pos 0 -ℤ pos (suc n) ≡ negsuc n = omega (arith, ints) in ap nat_abs e

plus_small : (n : ℕ) → n < 10 ^ 38 → IsAmount (pos n)
plus_small n h = lt-ltb n (10 ^ 38) h

minus_small : (n : ℕ) → n < 10 ^ 38 → IsAmount (pos 0 -ℤ pos n)
minus_small n h = ap (λ (m : ℕ). nat_lt m (10 ^ 38)) (taken_size n) ∙ lt-ltb n (10 ^ 38) h

source_small : (column : Named) (amount : Option ℤ) → OnFound IsAmount amount → assigned_in_line (source_of column amount) ≡ true
source_small column None h = refl
source_small column (Some z) h = h

pub assign_keeps : Keeps rule.assign IsAssign
unfolding rule.assign
assign_keeps =
    then_keeps name_keeps (λ set e. word_then k.Equal (made_keeps IsAssign (or_keeps (made_keeps (λ x. assigned_in_line x ≡ true) literal_keeps (λ l h. h))
    (then_keeps name_keeps (λ source f. made_keeps (λ x. assigned_in_line x ≡ true) (optional_keeps (or_keeps
    (word_then k.Plus (made_keeps IsAmount (token_keeps k.Number) (λ n is. plus_small n.number (is.0.number is.1))))
    (word_then k.Minus (made_keeps IsAmount (token_keeps k.Number) (λ n is. minus_small n.number (is.0.number is.1))))))
    (λ amount h. source_small source amount h)))) (λ value h. h)))

-- ---- ORDER BY

pub ord_keeps : Keeps rule.ord Any
unfolding rule.ord
ord_keeps = then_keeps col_keeps (λ by e. made_keeps Any (optional_keeps (or_keeps (falls k.Asc _) (falls k.Desc _))) (λ o u. tt))
  where
    falls : (class : Class) (x : Bool) → Keeps (token class >> pure x) Any
    falls class x = word_then class (pure_keeps Any x tt)
