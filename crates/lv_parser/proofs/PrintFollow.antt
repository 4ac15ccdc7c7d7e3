-- Printed tokens can stand one behind another.
use Rattle.std.proofs.Common.{◌≡◌, ℕ, suc, ℤ, pos, negsuc, Bool, true, false, cond, List, [], ◌∷◌, ◌++◌, map, length, Option, Some, None, nat_eq, nat_le, refl, sym, subst, codes}
use Rattle.std.specs.List.{AllByRecursion, slice_index}
use Rattle.std.proofs.Math.Bool.{and-false}
use Rattle.lv_values.specs.declared.value.Value.{Value}
use Rattle.lv_values.specs.declared.value.Value.TheVariants as v
use Rattle.lv_lexer.specs.declared.token.TokenKind.{TokenKind}
use Rattle.lv_lexer.specs.declared.token.TokenKind.TheVariants as sort
use Rattle.lv_lexer.specs.Written.{Lexeme, word, number, text, sign, can_follow, CanBeRead}
use Rattle.lv_parser.specs.declared.tree.Named.{Named}
use Rattle.lv_parser.specs.declared.tree.ColName.{ColName}
use Rattle.lv_parser.specs.declared.tree.Literal.{Literal}
use Rattle.lv_parser.specs.declared.tree.Tuple.{Tuple}
use Rattle.lv_parser.specs.declared.tree.ColumnKind.{ColumnKind}
use Rattle.lv_parser.specs.declared.tree.ColumnKind.TheVariants as kind
use Rattle.lv_parser.specs.declared.tree.ColumnTree.{ColumnTree}
use Rattle.lv_parser.specs.declared.tree.ItemTree.{ItemTree}
use Rattle.lv_parser.specs.declared.tree.ItemTree.TheVariants as i
use Rattle.lv_parser.specs.declared.tree.RefTree.{RefTree}
use Rattle.lv_parser.specs.declared.tree.Assign.{Assign}
use Rattle.lv_parser.specs.declared.tree.AssignValue.{AssignValue}
use Rattle.lv_parser.specs.declared.tree.AssignValue.TheVariants as a
use Rattle.lv_parser.specs.declared.tree.Sign.{Sign}
use Rattle.lv_parser.specs.declared.tree.Sign.TheVariants as s
use Rattle.lv_parser.specs.declared.tree.OperandTree.{OperandTree}
use Rattle.lv_parser.specs.declared.tree.OperandTree.TheVariants as o
use Rattle.lv_parser.specs.declared.tree.CondTree.{CondTree}
use Rattle.lv_parser.specs.declared.tree.CondTree.TheOpen.{CondTree-F}
use Rattle.lv_parser.specs.declared.tree.CondTree.TheFolds.{fold-roll-CondTree, ind-CondTree, map-CondTree}
use Rattle.lv_parser.specs.declared.tree.Stmt.{Stmt}
use Rattle.lv_parser.specs.declared.tree.Stmt.TheVariants as st
use Rattle.lv_parser.specs.Printed as p
use Rattle.lv_parser.specs.Printed.{the, comma, behind, between, in_parens, Shown, Chain, Nothing, Single, Ands, Ors, shown, shown_step, part_tokens, is_wrapped}
use Rattle.lv_parser.proofs.PrintShows.{AllSpell}

-- these can stand behind that token, one after another
abbrev Follows : Lexeme → List Lexeme → Type 0
Follows x [] = Unit {0}
Follows x (y ∷ ys) = (can_follow x y ≡ true) × Follows y ys

-- the last token of these, which stand behind that one
abbrev last : Lexeme → List Lexeme → Lexeme
last x [] = x
last x (y ∷ ys) = last y ys

-- Behind every token with the first property these can stand, and the last of them has the second.
record Row (before after : Lexeme → Type 0) (xs : List Lexeme) : Type 0 where
  follows : (x : Lexeme) → before x → Follows x xs
  ends : (x : Lexeme) → before x → after (last x xs)

follows_more : (x : Lexeme) (xs ys : List Lexeme) → Follows x xs → Follows (last x xs) ys → Follows x (xs ++ ys)
follows_more x [] ys f g = g
follows_more x (y ∷ xs) ys f g = (f.0, follows_more y xs ys f.1 g)

last_more : (x : Lexeme) (xs ys : List Lexeme) → last x (xs ++ ys) ≡ last (last x xs) ys
last_more x [] ys = refl
last_more x (y ∷ xs) ys = last_more y xs ys

-- any token; one that an operand can follow; one that the sign of a comparison can follow; both
abbrev Any : Lexeme → Type 0
Any x = Unit {0}

abbrev Opens : Lexeme → Type 0
Opens x = opens x.kind
  where
    opens : TokenKind → Type 0
    opens sort.Word = Unit {0}
    opens sort.Sign = nat_eq (slice_index x.text 0) 45 ≡ false
    opens _ = ⊥

abbrev Shuts : Lexeme → Type 0
Shuts x = shuts x.kind
  where
    shuts : TokenKind → Type 0
    shuts sort.Sign = ⊥
    shuts _ = Unit {0}

abbrev Both : Lexeme → Type 0
Both x = Opens x × Shuts x

none : (B : Lexeme → Type 0) → Row B B []
none B = record { follows = λ x b. tt; ends = λ x b. b }

then : {B M A : Lexeme → Type 0} {xs ys : List Lexeme} → Row B M xs → Row M A ys → Row B A (xs ++ ys)
then {A = A} {xs = xs} {ys = ys} f g = record {
  follows = λ x b. follows_more x xs ys (f.follows x b) (g.follows (last x xs) (f.ends x b));
  ends = λ x b. subst A (sym (last_more x xs ys)) (g.ends (last x xs) (f.ends x b));
}

as_row : {B A : Lexeme → Type 0} (C D : Lexeme → Type 0) {xs : List Lexeme} → Row B A xs → ((x : Lexeme) → C x → B x) → ((x : Lexeme) → A x → D x) → Row C D xs
as_row C D f g h = record { follows = λ x c. f.follows x (g x c); ends = λ x c. h _ (f.ends x (g x c)) }

-- what can stand anywhere, and what stands behind it matters to nobody
abbrev Free : List Lexeme → Type 0
Free xs = Row Any Any xs

abbrev Operand : List Lexeme → Type 0
Operand xs = Row Opens Any xs

-- ---- tokens

word_follows : (k : TokenKind) (b w : List ℕ) → can_follow (record { kind = k; text = b }) (word w) ≡ true
word_follows sort.Word b w = refl
word_follows sort.Number b w = refl
word_follows sort.Text b w = refl
word_follows sort.Sign b w = refl

row_word : (w : List ℕ) → Row Any Both (word w ∷ [])
row_word w = record { follows = λ x u. (word_follows x.kind x.text w, tt); ends = λ x u. (tt, tt) }

number_follows : (k : TokenKind) (b : List ℕ) (n : ℕ) → Opens (record { kind = k; text = b }) → can_follow (record { kind = k; text = b }) (number n) ≡ true
number_follows sort.Word b n h = refl
number_follows sort.Number b n h = absurd h
number_follows sort.Text b n h = absurd h
number_follows sort.Sign b n h = refl

row_number : (n : ℕ) → Row Opens Shuts (number n ∷ [])
row_number n = record { follows = λ x h. (number_follows x.kind x.text n h, tt); ends = λ x h. tt }

text_follows : (k : TokenKind) (b t : List ℕ) → Opens (record { kind = k; text = b }) → can_follow (record { kind = k; text = b }) (text t) ≡ true
text_follows sort.Word b t h = refl
text_follows sort.Number b t h = absurd h
text_follows sort.Text b t h = absurd h
text_follows sort.Sign b t h = refl

row_text : (t : List ℕ) → Row Opens Shuts (text t ∷ [])
row_text t = record { follows = λ x h. (text_follows x.kind x.text t h, tt); ends = λ x h. tt }

-- a sign that makes no longer one: its first byte is none of - = >
sign_follows : (k : TokenKind) (b : List ℕ) (c : ℕ) → nat_eq c 45 ≡ false → nat_eq c 61 ≡ false → nat_eq c 62 ≡ false → can_follow (record { kind = k; text = b }) (sign (c ∷ [])) ≡ true
sign_follows sort.Word b c e f g = refl
sign_follows sort.Number b c e f g = refl
sign_follows sort.Text b c e f g = refl
sign_follows sort.Sign b c e f g = rw (e, f, g) (simp and-false)

row_sign : (c : ℕ) → nat_eq c 45 ≡ false → nat_eq c 61 ≡ false → nat_eq c 62 ≡ false → Row Any Opens (sign (c ∷ []) ∷ [])
row_sign c e f g = record { follows = λ x u. (sign_follows x.kind x.text c e f g, tt); ends = λ x u. e }

-- the sign of a comparison, and that of an assignment
op_follows : (k : TokenKind) (b op : List ℕ) → Shuts (record { kind = k; text = b }) → can_follow (record { kind = k; text = b }) (sign op) ≡ true
op_follows sort.Word b op h = refl
op_follows sort.Number b op h = refl
op_follows sort.Text b op h = refl
op_follows sort.Sign b op h = absurd h

row_op : (op : List ℕ) → nat_eq (slice_index op 0) 45 ≡ false → Row Shuts Opens (sign op ∷ [])
row_op op e = record { follows = λ x h. (op_follows x.kind x.text op h, tt); ends = λ x h. e }

minus_follows : (k : TokenKind) (b : List ℕ) → Opens (record { kind = k; text = b }) → can_follow (record { kind = k; text = b }) (sign (codes "-")) ≡ true
minus_follows sort.Word b h = refl
minus_follows sort.Number b h = absurd h
minus_follows sort.Text b h = absurd h
minus_follows sort.Sign b h = rw h refl

row_minus : (n : ℕ) → Row Opens Shuts (sign (codes "-") ∷ number n ∷ [])
row_minus n = record { follows = λ x h. (minus_follows x.kind x.text h, (refl, tt)); ends = λ x h. tt }

-- ---- lists

weak : {B A : Lexeme → Type 0} {xs : List Lexeme} → Row B A xs → Row B Any xs
weak {B = B} f = as_row B Any f (λ x b. b) (λ x a. tt)

from_any : (B : Lexeme → Type 0) {A : Lexeme → Type 0} {xs : List Lexeme} → Row Any A xs → Row B A xs
from_any B {A = A} f = as_row B A f (λ x b. tt) (λ x a. a)

both_opens : {B : Lexeme → Type 0} {xs : List Lexeme} → Row B Both xs → Row B Opens xs
both_opens {B = B} f = as_row B Opens f (λ x b. b) (λ x a. a.0)

both_shuts : {B : Lexeme → Type 0} {xs : List Lexeme} → Row B Both xs → Row B Shuts xs
both_shuts {B = B} f = as_row B Shuts f (λ x b. b) (λ x a. a.1)

-- each is such a row
abbrev EachRow : List (List Lexeme) → Type 0
EachRow = AllByRecursion Operand

row_comma : Row Any Opens (comma ∷ [])
row_comma = row_sign 44 refl refl refl

module _ (joint : Lexeme) (opens : Row Any Opens (joint ∷ [])) where
  row_behind : (xs : List (List Lexeme)) → EachRow xs → Free (behind joint xs)
  row_behind [] each = none Any
  row_behind (x ∷ xs) each = then (then opens each.0) (row_behind xs each.1)

  row_between : (xs : List (List Lexeme)) → EachRow xs → Operand (between joint xs)
  row_between [] each = weak (none Opens)
  row_between (x ∷ xs) each = then each.0 (row_behind xs each.1)

each_map : {A : Type 0} (tokens : A → List Lexeme) → ((a : A) → Operand (tokens a)) → (items : List A) → EachRow (map tokens items)
each_map tokens row [] = tt
each_map tokens row (a ∷ items) = (row a, each_map tokens row items)

row_list : {A : Type 0} (tokens : A → List Lexeme) → ((a : A) → Operand (tokens a)) → (items : List A) → Operand (between comma (map tokens items))
row_list tokens row items = row_between comma row_comma (map tokens items) (each_map tokens row items)

row_left : Row Any Opens (sign (codes "(") ∷ [])
row_left = row_sign 40 refl refl refl

row_right : Row Any Opens (sign (codes ")") ∷ [])
row_right = row_sign 41 refl refl refl

row_parens : (xs : List Lexeme) → Operand xs → Row Any Opens (in_parens xs)
row_parens xs f = then (then row_left f) row_right

operand_of : {A : Lexeme → Type 0} {xs : List Lexeme} → Row Any A xs → Operand xs
operand_of f = from_any Opens (weak f)

-- ---- names and values

row_name : (n : Named) → Row Any Both (p.name_tokens n)
row_name n = row_word n.name

row_col : (c : ColName) → Row Any Both (p.col_tokens c)
row_col c = by c.qualifier
  where
    by : (q : Option Named) → Row Any Both (p.qualifier_tokens q ++ p.name_tokens c.name)
    by None = row_name c.name
    by (Some q) = then (then (weak (row_word q.name)) (row_sign 46 refl refl refl)) (from_any Opens (row_name c.name))

row_int : (z : ℤ) → Row Opens Shuts (p.number_tokens z)
row_int (pos n) = row_number n
row_int (negsuc n) = row_minus (suc n)

row_value : (x : Value) → Row Opens Shuts (p.value_tokens x)
row_value (v.Num z) = row_int z
row_value (v.Text t) = row_text t

row_literal : (l : Literal) → Operand (p.literal_tokens l)
row_literal l = weak (row_value l.value)

row_tuple : (t : Tuple) → Operand (p.tuple_tokens t)
row_tuple t = operand_of (row_parens (between comma (map p.literal_tokens t.values)) (row_list p.literal_tokens row_literal t.values))

-- ---- conditions

row_operand : (x : OperandTree) → Row Opens Shuts (p.operand_tokens x)
row_operand (o.Column c) = from_any Opens (both_shuts (row_col c))
row_operand (o.Literal l) = row_value l.value

row_sign_of : (op : Sign) → Row Shuts Opens (p.op_token op ∷ [])
row_sign_of s.Eq = row_op (codes "=") refl
row_sign_of s.Ne = row_op (codes "<>") refl
row_sign_of s.Lt = row_op (codes "<") refl
row_sign_of s.Le = row_op (codes "<=") refl
row_sign_of s.Gt = row_op (codes ">") refl
row_sign_of s.Ge = row_op (codes ">=") refl

row_comparison : (op : Sign) (l r : OperandTree) → Operand (p.comparison_tokens op l r)
row_comparison op l r = weak (then (row_operand l) (then (row_sign_of op) (row_operand r)))

-- a printed condition and each of its parts
record RowShown (x : Shown) : Type 0 where
  tokens : Operand x.tokens
  parts : EachRow x.parts

row_part : (in_and : Bool) (x : Shown) → RowShown x → Operand (part_tokens in_and x)
row_part in_and x h = by (is_wrapped in_and x.chain)
  where
    by : (t : Bool) → Operand (cond t (in_parens x.tokens) x.tokens)
    by true = operand_of (row_parens x.tokens h.tokens)
    by false = h.tokens

abbrev EachShown : List Shown → Type 0
EachShown = AllByRecursion RowShown

each_part_row : (in_and : Bool) (xs : List Shown) → EachShown xs → EachRow (map (part_tokens in_and) xs)
each_part_row in_and [] each = tt
each_part_row in_and (x ∷ xs) each = (row_part in_and x each.0, each_part_row in_and xs each.1)

each_tokens_row : (xs : List Shown) → EachShown xs → EachRow (map (λ x. x.tokens) xs)
each_tokens_row [] each = tt
each_tokens_row (x ∷ xs) each = (each.0.tokens, each_tokens_row xs each.1)

row_the : (w : List ℕ) → Row Any Opens (word w ∷ [])
row_the w = both_opens (row_word w)

abbrev RowCond : CondTree → Type 0
RowCond q = RowShown (shown q)

each_shown : (ys : List ((q : CondTree) × RowCond q)) → EachShown (map shown (map (λ e. e.0) ys))
each_shown [] = tt
each_shown (y ∷ ys) = (y.1, each_shown ys)

row_layer : (y : CondTree-F ((q : CondTree) × RowCond q)) → RowShown (shown_step (map-CondTree CondTree Shown shown (map-CondTree ((q : CondTree) × RowCond q) CondTree (λ e. e.0) y)))
row_layer CondTree-F.True = record { tokens = weak (none Opens); parts = tt }
row_layer (CondTree-F.Cmp op l r) = record { tokens = row_comparison op l r; parts = tt }
row_layer (CondTree-F.And ys) =
    record { tokens = row_between (the "and") (row_the (codes "and")) _ (each_part_row true (map shown (map (λ e. e.0) ys)) (each_shown ys)); parts = each_tokens_row (map shown (map (λ e. e.0) ys)) (each_shown ys) }
row_layer (CondTree-F.Or ys) =
    record { tokens = row_between (the "or") (row_the (codes "or")) _ (each_part_row false (map shown (map (λ e. e.0) ys)) (each_shown ys)); parts = tt }
row_layer (CondTree-F.Not y) = record { tokens = then (from_any Opens (row_the (codes "not"))) (row_part true (shown y.0) y.1); parts = tt }

row_cond : (q : CondTree) → RowCond q
row_cond = ind-CondTree RowCond (λ x y is.
    let P : CondTree-F CondTree → Type 0 = λ z. RowShown (shown_step (map-CondTree CondTree Shown shown z)) in
    subst RowShown (sym (fold-roll-CondTree Shown shown_step x)) (subst P is (row_layer y)))

-- ---- sources

row_ref : (r : RefTree) → Row Any Both (p.ref_tokens r)
row_ref r = by r.alias
  where
    by : (alias : Option Named) → Row Any Both (p.name_tokens r.name ++ p.alias_tokens alias)
    by None = then (row_name r.name) (none Both)
    by (Some alias) = then (weak (row_name r.name)) (row_name alias)

row_join : (r : RefTree) (on : List Lexeme) → Operand on → Free (p.join_tokens r on)
row_join r on f = then (then (weak (row_the (codes "join"))) (weak (row_ref r))) (then (row_the (codes "on")) f)

row_where : (parts : List (List Lexeme)) → EachRow parts → Free (p.where_tokens parts)
row_where [] each = none Any
row_where (part ∷ parts) each = then (row_the (codes "where")) each.0

row_joined : (refs : List RefTree) (parts : List (List Lexeme)) → EachRow parts → Free (p.joined_tokens refs parts)
row_joined [] parts each = row_where parts each
row_joined (r ∷ more) [] each = then (then (weak row_comma) (weak (row_ref r))) (row_joined more [] each)
row_joined (r ∷ more) (q ∷ []) each = then (then (weak row_comma) (weak (row_ref r))) (row_joined more (q ∷ []) each)
row_joined (r ∷ more) (q ∷ next ∷ parts) each = then (row_join r q each.0) (row_joined more (next ∷ parts) each.1)

row_whole : (chain : Chain) (tokens : List Lexeme) (parts : List (List Lexeme)) → Operand tokens → EachRow (p.whole (record { chain = chain; tokens = tokens; parts = parts }))
row_whole Nothing tokens parts h = tt
row_whole Single tokens parts h = (h, tt)
row_whole Ands tokens parts h = (h, tt)
row_whole Ors tokens parts h = (h, tt)

row_placed : (refs : ℕ) (chain : Chain) (tokens : List Lexeme) (parts : List (List Lexeme)) → Operand tokens → EachRow parts → EachRow (p.placed_parts refs (record { chain = chain; tokens = tokens; parts = parts }))
row_placed refs Nothing tokens parts h each = row_whole Nothing tokens parts h
row_placed refs Single tokens parts h each = row_whole Single tokens parts h
row_placed refs Ors tokens parts h each = row_whole Ors tokens parts h
row_placed refs Ands tokens parts h each = by (nat_le (length parts) refs)
  where
    by : (t : Bool) → EachRow (cond t parts (p.whole (record { chain = Ands; tokens = tokens; parts = parts })))
    by true = each
    by false = row_whole Ands tokens parts h

row_from : (refs : List RefTree) (q : CondTree) → Free (p.from_tokens refs q)
row_from [] q = none Any
row_from (first ∷ more) q =
    let known = row_cond q in
    then (then (weak (row_the (codes "from"))) (weak (row_ref first)))
    (row_joined more _ (row_placed (length (first ∷ more)) (shown q).chain (shown q).tokens (shown q).parts known.tokens known.parts))

row_filter : (q : CondTree) → Free (p.filter_tokens q)
row_filter q = let known = row_cond q in row_where _ (row_whole (shown q).chain (shown q).tokens (shown q).parts known.tokens)

-- ---- statements

row_column : (c : ColumnTree) → Operand (p.column_tokens c)
row_column c = by c.kind
  where
    by : (x : ColumnKind) → Operand (p.name_tokens c.name ++ p.kind_token x ∷ [])
    by kind.Int = operand_of (then (weak (row_name c.name)) (row_word (codes "int")))
    by kind.Text = operand_of (then (weak (row_name c.name)) (row_word (codes "text")))

row_output : (n : Named) → Row Any Both (p.output_tokens n)
row_output n = then (weak (row_the (codes "as"))) (row_name n)

row_item : (x : ItemTree) → Operand (p.item_tokens x)
row_item (i.Plain col None) = operand_of (then (weak (row_col col)) (none Any))
row_item (i.Plain col (Some n)) = operand_of (then (weak (row_col col)) (row_output n))
row_item (i.Sum col n) = operand_of (then (then (weak (row_the (codes "sum"))) (weak (row_parens (p.col_tokens col) (operand_of (row_col col))))) (row_output n))
row_item (i.Count n) = operand_of (then (then (weak (row_the (codes "count"))) (weak (row_parens (sign (codes "*") ∷ []) (operand_of (row_sign 42 refl refl refl))))) (row_output n))

row_amount : (n : Named) (z : ℤ) → Operand (p.name_tokens n ++ p.amount_tokens z)
row_amount n (pos m) = operand_of (then (weak (row_name n)) (then (row_sign 43 refl refl refl) (row_number m)))
row_amount n (negsuc m) = operand_of (then (both_opens (row_name n)) (row_minus (suc m)))

row_assigned : (x : AssignValue) → Operand (p.assigned_tokens x)
row_assigned (a.Literal l) = row_literal l
row_assigned (a.Column n) = operand_of (row_name n)
row_assigned (a.Plus n z) = row_amount n z

row_assign : (x : Assign) → Operand (p.assign_tokens x)
row_assign x = from_any Opens (then (both_shuts (row_name x.column)) (then (row_op (codes "=") refl) (row_assigned x.value)))

row_ord : (x : ColName × Bool) → Operand (p.ord_tokens x)
row_ord x = by x.1
  where
    by : (t : Bool) → Operand (p.col_tokens x.0 ++ p.falls_tokens t)
    by true = operand_of (then (weak (row_col x.0)) (row_the (codes "desc")))
    by false = operand_of (then (weak (row_col x.0)) (none Any))

row_named : (n : Named) → Operand (p.name_tokens n)
row_named n = operand_of (row_name n)

row_cols : (c : ColName) → Operand (p.col_tokens c)
row_cols c = operand_of (row_col c)

row_groups : (cs : List ColName) → Free (p.groups_tokens cs)
row_groups [] = none Any
row_groups (c ∷ cs) = then (weak (row_the (codes "group"))) (then (row_the (codes "by")) (row_list p.col_tokens row_cols (c ∷ cs)))

row_order : (xs : List (ColName × Bool)) → Free (p.order_tokens xs)
row_order [] = none Any
row_order (x ∷ xs) = then (weak (row_the (codes "order"))) (then (row_the (codes "by")) (row_list p.ord_tokens row_ord (x ∷ xs)))

row_listed : (o : Option (List ColName)) → Operand (p.listed_tokens o)
row_listed None = operand_of (row_sign 42 refl refl refl)
row_listed (Some cs) = row_list p.col_tokens row_cols cs

row_key : (key : List Named) → Free (p.key_tokens key)
row_key key = then (weak row_comma) (then (weak (row_the (codes "primary"))) (then (weak (row_the (codes "key"))) (weak (row_parens (between comma (map p.name_tokens key)) (row_list p.name_tokens row_named key)))))

row_stmt : (x : Stmt) → Free (p.stmt_tokens x)
row_stmt (st.CreateTable table columns key) =
    then (then (weak (row_the (codes "create"))) (then (weak (row_the (codes "table"))) (weak (row_name table))))
    (weak (row_parens (between comma (map p.column_tokens columns) ++ p.key_tokens key) (then (row_list p.column_tokens row_column columns) (row_key key))))
row_stmt (st.CreateView view items refs q groups) =
    then (then (then (then (then (weak (row_the (codes "create"))) (then (weak (row_the (codes "view"))) (weak (row_name view)))) (then (weak (row_the (codes "as"))) (row_the (codes "select"))))
    (row_list p.item_tokens row_item items)) (row_from refs q)) (row_groups groups)
row_stmt (st.Insert table tuples) =
    then (then (weak (row_the (codes "insert"))) (then (weak (row_the (codes "into"))) (weak (row_name table)))) (then (row_the (codes "values")) (row_list p.tuple_tokens row_tuple tuples))
row_stmt (st.Update table sets q) =
    then (then (then (weak (row_the (codes "update"))) (weak (row_name table))) (then (row_the (codes "set")) (row_list p.assign_tokens row_assign sets))) (row_filter q)
row_stmt (st.Delete table q) = then (then (weak (row_the (codes "delete"))) (then (weak (row_the (codes "from"))) (weak (row_name table)))) (row_filter q)
row_stmt (st.Select listed refs q order) = then (then (then (row_the (codes "select")) (row_listed listed)) (row_from refs q)) (row_order order)
row_stmt st.Begin = weak (row_the (codes "begin"))
row_stmt st.Commit = weak (row_the (codes "commit"))
row_stmt st.Rollback = weak (row_the (codes "rollback"))
row_stmt st.ShowTasks = then (weak (row_the (codes "show"))) (weak (row_the (codes "tasks")))

-- ---- all of them

read_behind : (x : Lexeme) (xs : List Lexeme) → AllSpell (x ∷ xs) → Follows x xs → CanBeRead (x ∷ xs)
read_behind x [] spelled f = spelled.0
read_behind x (y ∷ ys) spelled f = (spelled.0, f.0, read_behind y ys spelled.1 f.1)

can_be_read : (xs : List Lexeme) → AllSpell xs → Free xs → CanBeRead xs
can_be_read [] spelled f = tt
can_be_read (x ∷ xs) spelled f = read_behind x xs spelled (f.follows (word []) tt).1

-- What is printed of a statement can be read, where each token spells its kind.
pub printed_can_be_read : (x : Stmt) → AllSpell (p.stmt_tokens x) → CanBeRead (p.stmt_tokens x)
printed_can_be_read x spelled = can_be_read (p.stmt_tokens x) spelled (row_stmt x)
