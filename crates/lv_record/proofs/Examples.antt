-- Spellings worked out by hand, computed by the check.
use Rattle.std.proofs.Common.{◌≡◌, ℕ, pos, negsuc, List, [], ◌∷◌, ◌++◌, refl}
use Rattle.std.specs.Prelude.{codes}
use Rattle.lv_values.specs.declared.value.Value.TheVariants.{Num, Text as Word}
use Rattle.lv_schema.specs.declared.action.Action.{Action}
use Rattle.lv_schema.specs.declared.action.ActionKind.TheVariants.{Insert}
use Rattle.lv_schema.specs.declared.rec.Rec.TheVariants.{Table, Commit, Mark}
use Rattle.lv_schema.specs.declared.table.Kind.TheVariants.{Int}
use Rattle.lv_schema.specs.declared.table.TableDef.{TableDef}
use Rattle.lv_record.specs.Spelling.{spelling, value}

-- create table item (id int, price int, primary key (id))
abbrev item : TableDef
item = record { no = 0; name = codes "item"; columns = record { name = codes "id"; kind = Int } ∷ record { name = codes "price"; kind = Int } ∷ []; key = 0 ∷ [] }

item_spelled : spelling (Table item) ≡ 1 ∷ 4 ∷ codes "item" ++ (2 ∷ 2 ∷ codes "id" ++ (1 ∷ 5 ∷ codes "price" ++ (1 ∷ 1 ∷ 0 ∷ [])))
item_spelled = refl

-- insert into item values (1, 10)
abbrev one : Action
one = record { table = 0; statement = 1; kind = Insert; row = Num (pos 1) ∷ Num (pos 10) ∷ [] }

abbrev zeros : List ℕ → List ℕ
zeros rest = 0 ∷ 0 ∷ 0 ∷ 0 ∷ 0 ∷ 0 ∷ 0 ∷ rest

one_spelled : spelling (Commit 1 (one ∷ [])) ≡ 3 ∷ 1 ∷ zeros (1 ∷ 0 ∷ 0 ∷ 0 ∷ 0 ∷ 1 ∷ 0 ∷ 0 ∷ 0 ∷ 1 ∷ 2 ∷ 1 ∷ 1 ∷ zeros (1 ∷ 10 ∷ zeros []))
one_spelled = refl

-- a number below 0, a text, and a mark
minus_spelled : value.text (Num (negsuc 1)) ≡ 1 ∷ 254 ∷ 255 ∷ 255 ∷ 255 ∷ 255 ∷ 255 ∷ 255 ∷ 255 ∷ []
minus_spelled = refl

text_spelled : value.text (Word (codes "ab")) ≡ 2 ∷ 2 ∷ 0 ∷ codes "ab"
text_spelled = refl

mark_spelled : spelling (Mark 2 258) ≡ 4 ∷ 2 ∷ 2 ∷ 1 ∷ 0 ∷ 0 ∷ 0 ∷ 0 ∷ 0 ∷ 0 ∷ []
mark_spelled = refl
