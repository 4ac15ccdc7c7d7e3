-- Questions: those that were asked find nothing new, and what the distinct ones find is what the steps count.
use Rattle.std.proofs.Common.{◌≡◌, ℕ, zero, suc, ◌+◌, Bool, true, false, cond, not, ◌&&◌, ◌||◌, ◌==◌, List, [], ◌∷◌, ◌++◌, map, length, take, slice_get, get_or, Some, refl, sym, ap, ◌∙◌, subst, arith}
use Rattle.std.proofs.lemmas.Bool.{and_parts, eqb-true, eq-eqb}
use Rattle.std.proofs.lemmas.List.Sums.{sum_by_push}
use Rattle.std.specs.List.{filter, AllByRecursion, list_any}
use Rattle.std.specs.Cmp.Lexicographic.{pointwise, lists_ties}
use Rattle.indexmap.specs.IndexSet.{insert_key}
use Rattle.lv_values.specs.Order.{row_eq, value_cmp, value_eq}
use Rattle.lv_schema.proofs.Apart.{all_append, all_true, all_weaker}
use Rattle.lv_schema.proofs.ChangeLists.{ARow}
use Rattle.lv_schema.proofs.NetsLead.{row_itself, same_row}
use Rattle.lv_reach.specs.declared.link.Link.{Link}
use Rattle.lv_reach.specs.declared.questions.Question.{Question}
use Rattle.lv_reach.specs.declared.rows.AliasRow.{AliasRow}
use Rattle.lv_reach.specs.Questions.{answered, AreAnswered, ask, ask_all, ask_rows, found_by, has_question, question_of, questions_below, questions_of, same_question}
use Rattle.lv_reach.specs.Reach.{agree, are_linked, has_alias_row, of_alias}
use Rattle.lv_reach.specs.Walk.{columns_to, put_all, put_behind, values_to}
use Rattle.lv_reach.proofs.Asking.{looked_up_long, looked_up_rows}
use Rattle.lv_reach.proofs.Gathering.{each_there, first_there, second_there}
use Rattle.lv_reach.proofs.Walking.{put_tail, put_there, stays, take_one}

-- ---- one question
one_question : (q r : Question) → same_question q r ≡ true → q ≡ r
one_question q r h =
    let first = and_parts (q.from == r.from) ((q.to == r.to) && row_eq q.values r.values) h in
    let rest = and_parts (q.to == r.to) (row_eq q.values r.values) first.1 in
    let from : q.from ≡ r.from = eqb-true q.from r.from first.0 in
    let to : q.to ≡ r.to = eqb-true q.to r.to rest.0 in
    let values : q.values ≡ r.values = same_row q.values r.values rest.1 in
    λ i. record { from = from i; to = to i; values = values i }

same_itself : (q : Question) → same_question q q ≡ true
same_itself q = λ i. eq-eqb q.from q.from refl i && (eq-eqb q.to q.to refl i && row_itself q.values i)

-- one that stands at a place is among them
pub question_at : (q : Question) (asked : List Question) (n : ℕ) → slice_get asked n ≡ Some q → has_question q asked ≡ true
question_at q [] n h = cc
question_at q (p ∷ asked) zero h = let same : p ≡ q = cc in first_there _ _ (ap (same_question q) same ∙ same_itself q)
question_at q (p ∷ asked) (suc n) h = second_there _ _ (question_at q asked n h)

-- ---- a set of them keeps the questions so
by_eq : (eq : Question → Question → Bool) → ((q r : Question) → eq q r ≡ same_question q r) → (q : Question) (asked : List Question) → list_any (eq q) asked ≡ has_question q asked
by_eq eq same q [] = refl
by_eq eq same q (r ∷ asked) = λ i. same q r i || by_eq eq same q asked i

pub ask_is : (eq : Question → Question → Bool) → ((q r : Question) → eq q r ≡ same_question q r) → (q : Question) (asked : List Question) → insert_key eq asked q ≡ ask q asked
ask_is eq same q asked = λ i. cond (by_eq eq same q asked i) asked (asked ++ q ∷ [])

pub new_is : (eq : Question → Question → Bool) → ((q r : Question) → eq q r ≡ same_question q r) → (q : Question) (asked : List Question) → not (list_any (eq q) asked) ≡ not (has_question q asked)
new_is eq same q asked = ap not (by_eq eq same q asked)

pub eq_same : (q r : Question) → ((q.from == r.from) && ((q.to == r.to) && pointwise value_eq q.values r.values)) ≡ same_question q r
eq_same q r = λ i. (q.from == r.from) && ((q.to == r.to) && lists_ties value_cmp (λ x y. refl) q.values r.values i)

-- ---- one more question, and the questions of one more row
pub ask_append : (more most asked : List Question) → ask_all (more ++ most) asked ≡ ask_all most (ask_all more asked)
ask_append [] most asked = refl
ask_append (q ∷ more) most asked = ask_append more most (ask q asked)

pub ask_next : (links : List Link) (a : AliasRow) (n next : ℕ) (start asked new : List Question) → next ≡ n + 1 → asked ≡ ask_all (questions_below links a n) start
    → new ≡ ask_all (cond (are_linked links a.alias n) (question_of links a n ∷ []) []) asked → new ≡ ask_all (questions_below links a next) start
ask_next links a n next start asked new next_is is new_is =
    let same : n + 1 ≡ suc n = omega arith in
    let own = cond (are_linked links a.alias n) (question_of links a n ∷ []) [] in
    new_is ∙ ap (ask_all own) is ∙ sym (ask_append (questions_below links a n) own start) ∙ ap (λ k. ask_all (questions_below links a k) start) (sym same ∙ sym next_is)

rows_last : (links : List Link) (count : ℕ) (rows : List AliasRow) (a : AliasRow) (asked : List Question) → ask_rows links count (rows ++ a ∷ []) asked ≡ ask_all (questions_below links a count) (ask_rows links count rows asked)
rows_last links count [] a asked = refl
rows_last links count (b ∷ rows) a asked = rows_last links count rows a (ask_all (questions_below links b count) asked)

-- the walk asks from one near row more, and other rows come behind
pub asked_more : (links : List Link) (count : ℕ) (near new : List AliasRow) (at next : ℕ) (a : AliasRow) (asked after : List Question) → slice_get near at ≡ Some a → next ≡ suc at → take next new ≡ take next near
    → asked ≡ questions_of links count (take at near) → after ≡ ask_all (questions_below links a count) asked → after ≡ questions_of links count (take next new)
asked_more links count near new at next a asked after here next_is first is after_is =
    after_is ∙ ap (ask_all (questions_below links a count)) is ∙ sym (rows_last links count (take at near) a [])
    ∙ ap (questions_of links count) (sym (first ∙ ap (λ n. take n near) next_is ∙ take_one near at a here))

-- ---- rows that are put behind near rows
pub put_append : (more most rows : List AliasRow) → put_all (more ++ most) rows ≡ put_all most (put_all more rows)
put_append [] most rows = refl
put_append (a ∷ more) most rows = put_append more most (put_behind a rows)

nothing_new : (more near : List AliasRow) → AllByRecursion (λ a. has_alias_row a near ≡ true) more → put_all more near ≡ near
nothing_new [] near all = refl
nothing_new (a ∷ more) near all = ap (put_all more) (ap (λ b. cond b near (near ++ a ∷ [])) all.0) ∙ nothing_new more near all.1

still_at : (rows tail : List AliasRow) (n : ℕ) (a : AliasRow) → slice_get rows n ≡ Some a → slice_get (rows ++ tail) n ≡ Some a
still_at [] tail n a h = cc
still_at (b ∷ rows) tail zero a h = h
still_at (b ∷ rows) tail (suc n) a h = still_at rows tail n a h

pub put_at : (more rows new : List AliasRow) (n : ℕ) (a : AliasRow) → new ≡ put_all more rows → slice_get rows n ≡ Some a → slice_get new n ≡ Some a
put_at more rows new n a is h =
    let tail = put_tail (λ a. Unit {0}) more rows (all_true (λ a. Unit {0}) (λ a. tt) more) in
    ap (λ l. slice_get l n) (is ∙ tail.1) ∙ still_at rows tail.0 n a h

-- ---- what was asked
module _ (links : List Link) (rows : ℕ → List ARow) where
  abbrev found : Question → List AliasRow
  found q = map (of_alias q.to) (answered links rows q)

  abbrev AreThere : List AliasRow → List AliasRow → Type 0
  AreThere near found = AllByRecursion (λ a. has_alias_row a near ≡ true) found

  found_there : (q : Question) (asked : List Question) (near : List AliasRow) → AreAnswered links rows asked near → has_question q asked ≡ true → AreThere near (found q)
  found_there q [] near all h = cc
  found_there q (r ∷ asked) near all h = by (same_question q r) refl h (found_there q asked near all.1)
    where
      by : (t : Bool) → same_question q r ≡ t → (t || has_question q asked) ≡ true → (has_question q asked ≡ true → AreThere near (found q)) → AreThere near (found q)
      by true e h rest = subst (λ p. AreThere near (found p)) (sym (one_question q r e)) all.0
      by false e h rest = rest h

  -- a question that was asked finds nothing new
  pub asked_finds_none : (q : Question) (asked : List Question) (near : List AliasRow) → AreAnswered links rows asked near → has_question q asked ≡ true → near ≡ put_all (found q) near
  asked_finds_none q asked near all h = sym (nothing_new (found q) near (found_there q asked near all h))

  still_there : (more near new : List AliasRow) → AreThere near new → AreThere (put_all more near) new
  still_there more near new all = all_weaker (λ a. has_alias_row a near ≡ true) (λ a. has_alias_row a (put_all more near) ≡ true) (λ a h. stays a more near h) new all

  -- one that was not is answered now
  pub answered_now : (q : Question) (asked : List Question) (near new : List AliasRow) → AreAnswered links rows asked near → new ≡ put_all (found q) near → AreAnswered links rows (asked ++ q ∷ []) new
  answered_now q asked near new all is =
      subst (AreAnswered links rows (asked ++ q ∷ [])) (sym is)
      (all_append (λ r. AreThere (put_all (found q) near) (found r)) asked (q ∷ [])
      (all_weaker (λ r. AreThere near (found r)) (λ r. AreThere (put_all (found q) near) (found r)) (λ r h. still_there (found q) near (found r) h) asked all)
      (all_weaker (λ a. has_alias_row a (found q) ≡ true) (λ a. has_alias_row a (put_all (found q) near) ≡ true) (λ a h. put_there a (found q) near h) (found q) (each_there (found q)), tt))

  pub found_more : (q : Question) (asked : List Question) → found_by links rows (asked ++ q ∷ []) ≡ found_by links rows asked + length (answered links rows q)
  found_more q asked = sum_by_push (λ r. length (answered links rows r)) asked q

-- ---- where a question is new, and where it is not
pub ask_new : (q : Question) (asked : List Question) (is_new : Bool) → is_new ≡ not (has_question q asked) → is_new ≡ true → ask q asked ≡ asked ++ q ∷ []
ask_new q asked is_new h new = by (has_question q asked) (sym h ∙ new)
  where
    by : (t : Bool) → not t ≡ true → cond t asked (asked ++ q ∷ []) ≡ asked ++ q ∷ []
    by true e = cc
    by false e = refl

pub ask_again : (q : Question) (asked : List Question) (is_new : Bool) → is_new ≡ not (has_question q asked) → is_new ≡ false → (has_question q asked ≡ true) × (ask q asked ≡ asked)
ask_again q asked is_new h old = by (has_question q asked) refl (sym h ∙ old)
  where
    by : (t : Bool) → has_question q asked ≡ t → not t ≡ false → (has_question q asked ≡ true) × (cond t asked (asked ++ q ∷ []) ≡ asked)
    by true d e = (d, refl)
    by false d e = cc

pub asked_stays : (q : Question) (asked : List Question) → has_question q asked ≡ true → ask q asked ≡ asked
asked_stays q asked h = ap (λ b. cond b asked (asked ++ q ∷ [])) h

-- ---- what a question of a row finds
module _ (links : List Link) (rows : ℕ → List ARow) (a : AliasRow) (j : ℕ) (q : Question) (linked : are_linked links a.alias j ≡ true) (is : q ≡ question_of links a j) where
  pub question_finds : map (of_alias q.to) (answered links rows q) ≡ filter (agree links a) (map (of_alias j) (rows j))
  question_finds =
      ap (λ (p : Question). map (of_alias p.to) (answered links rows p)) is
      ∙ looked_up_rows links a j (rows j) (columns_to links a.alias j) (values_to links a j) linked refl refl

  pub question_counts : length (answered links rows q) ≡ length (filter (agree links a) (map (of_alias j) (rows j)))
  question_counts =
      ap (λ (p : Question). length (answered links rows p)) is
      ∙ looked_up_long links a j (rows j) (columns_to links a.alias j) (values_to links a j) linked refl refl

-- the row that is read at a place
pub read_there : (rows all : List AliasRow) (n : ℕ) (a r : AliasRow) → rows ≡ all → r ≡ get_or rows n r → slice_get all n ≡ Some a → r ≡ a
read_there rows all n a r same is h = is ∙ at rows n r a (ap (λ l. slice_get l n) same ∙ h)
  where
    at : (rows : List AliasRow) (n : ℕ) (r a : AliasRow) → slice_get rows n ≡ Some a → get_or rows n r ≡ a
    at [] n r a h = cc
    at (b ∷ rows) zero r a h = cc
    at (b ∷ rows) (suc n) r a h = at rows n r a h

-- what is told of that row holds of the one at the place
module _ (links : List Link) (j : ℕ) (a r : AliasRow) (is : r ≡ a) where
  pub linked_there : (linked b : Bool) → linked ≡ are_linked links r.alias j → linked ≡ b → are_linked links a.alias j ≡ b
  linked_there linked b e h = ap (λ (x : AliasRow). are_linked links x.alias j) (sym is) ∙ sym e ∙ h

  pub question_there : (q : Question) → q ≡ question_of links r j → q ≡ question_of links a j
  question_there q e = e ∙ ap (λ (x : AliasRow). question_of links x j) is

  pub asked_there : (asked : List Question) → has_question (question_of links r j) asked ≡ true → has_question (question_of links a j) asked ≡ true
  asked_there asked h = ap (λ (x : AliasRow). has_question (question_of links x j) asked) (sym is) ∙ h
