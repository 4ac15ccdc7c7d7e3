-- The questions of a walk: what near rows ask of the old rows of the aliases that are linked to their own. Rows of one
-- alias with the same values in the linked columns ask the same, and each question is looked up once.
use Rattle.std.specs.Prelude.{◌≡◌, ℕ, zero, suc, ◌==◌, Bool, true, ◌&&◌, cond, List, [], ◌∷◌, ◌++◌, map, filter, length, Option, option_map}
use Rattle.std.specs.List.{find, list_any, sum_by, AllByRecursion}
use Rattle.lv_values.specs.declared.value.Value.{Value}
use Rattle.lv_values.specs.Order.{row_eq}
use Rattle.lv_values.specs.Rows.{values_at}
use Rattle.lv_reach.specs.declared.latest.Latest.{Latest}
use Rattle.lv_reach.specs.declared.link.Link.{Link}
use Rattle.lv_reach.specs.declared.questions.Question.{Question}
use Rattle.lv_reach.specs.declared.rows.AliasRow.{AliasRow}
use Rattle.lv_reach.specs.Reach.{are_linked, has_alias_row, of_alias}
use Rattle.lv_reach.specs.Walk.{columns_to, values_to}

-- what a row asks of another alias: the rows that have its values in the linked columns
abbrev pub question_of : List Link → AliasRow → ℕ → Question
question_of links a to = record { from = a.alias; to = to; values = values_to links a to }

-- what it asks of the first so many aliases
abbrev pub questions_below : List Link → AliasRow → ℕ → List Question
questions_below links a zero = []
questions_below links a (suc n) = questions_below links a n ++ cond (are_linked links a.alias n) (question_of links a n ∷ []) []

-- whether two are the same question, and whether one is among others
abbrev pub same_question : Question → Question → Bool
same_question q r = (q.from == r.from) && ((q.to == r.to) && row_eq q.values r.values)

abbrev pub has_question : Question → List Question → Bool
has_question q asked = list_any (same_question q) asked

-- whether a place is that of the last question from an alias of another, and that place
abbrev pub is_between : ℕ → ℕ → Latest → Bool
is_between from to latest = (latest.from == from) && (latest.to == to)

abbrev pub place_of : ℕ → ℕ → List Latest → Option ℕ
place_of from to places = option_map (λ latest. latest.at) (find (is_between from to) places)

-- a question behind the others, if it is not among them; and questions so
abbrev pub ask : Question → List Question → List Question
ask q asked = cond (has_question q asked) asked (asked ++ q ∷ [])

abbrev pub ask_all : List Question → List Question → List Question
ask_all [] asked = asked
ask_all (q ∷ more) asked = ask_all more (ask q asked)

-- what these rows ask of so many aliases, behind the others
abbrev pub ask_rows : List Link → ℕ → List AliasRow → List Question → List Question
ask_rows links count [] asked = asked
ask_rows links count (a ∷ rows) asked = ask_rows links count rows (ask_all (questions_below links a count) asked)

-- the distinct questions of some rows, in the order in which they first come
abbrev pub questions_of : List Link → ℕ → List AliasRow → List Question
questions_of links count near = ask_rows links count near []

-- the old rows that a question finds, of the rows of each alias
abbrev pub answered : List Link → (ℕ → List (List Value)) → Question → List (List Value)
answered links rows q = filter (λ row. row_eq (values_at (columns_to links q.from q.to) row) q.values) (rows q.to)

-- how many rows these questions find, one by one
abbrev pub found_by : List Link → (ℕ → List (List Value)) → List Question → ℕ
found_by links rows asked = sum_by (λ q. length (answered links rows q)) asked

-- how many rows are handed out where each distinct question of the near rows is looked up once
abbrev pub looked_up_once : List Link → (ℕ → List (List Value)) → ℕ → List AliasRow → ℕ
looked_up_once links rows count near = found_by links rows (questions_of links count near)

-- each row that one of these questions finds is among the near rows
abbrev pub AreAnswered : List Link → (ℕ → List (List Value)) → List Question → List AliasRow → Type 0
AreAnswered links rows asked near = AllByRecursion (λ q. AllByRecursion (λ a. has_alias_row a near ≡ true) (map (of_alias q.to) (answered links rows q))) asked
