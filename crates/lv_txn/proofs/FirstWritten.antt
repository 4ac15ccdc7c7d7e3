-- The first of the places that later entries write, entry by entry.
use Rattle.std.proofs.Common.{◌≡◌, ℕ, zero, suc, ◌+◌, ◌<◌, ◌≤◌, Bool, true, false, cond, List, [], ◌∷◌, ◌++◌, map, take, length, get_or, Option, Some, None, refl, sym, ap, ◌∙◌, subst, inl, inr, arith}
use Rattle.std.specs.Prelude.{◌==◌, ◌⊎◌, nat_lt, option_map, slice_get}
use Rattle.std.specs.List.{AllByRecursion, cons_option, filter, filter_map, last_or}
use Rattle.std.specs.List.Sorted.{IsPartitionPoint}
use Rattle.std.specs.Ordering.{is_eq, is_gt, is_lt}
use Rattle.std.specs.declared.cmp.Ordering.{Ordering}
use Rattle.std.specs.declared.cmp.Ordering.TheVariants.{Less, Equal, Greater}
use Rattle.std.proofs.lemmas.Bool.{cases_lt}
use Rattle.std.proofs.lemmas.Bool.Decides.{nat_tests}
use Rattle.std.proofs.lemmas.List.{take_more}
use Rattle.std.proofs.lemmas.Option.{slice_get-get_or, slice_get_past}
use Rattle.lv_values.specs.Ascending.{ascending}
use Rattle.lv_schema.specs.declared.action.Action.{Action}
use Rattle.lv_schema.specs.declared.action.DeltaEntry.{DeltaEntry}
use Rattle.lv_schema.specs.declared.fault.Fault.{Fault}
use Rattle.lv_schema.specs.declared.fault.Fault.TheVariants.{Conflict}
use Rattle.lv_schema.specs.declared.table.TableDef.{TableDef}
use Rattle.lv_schema.specs.Commits.{Place, place_cmp, first_conflict, conflict_in, same_place, written_place, writer_in}
use Rattle.lv_schema.proofs.FirstCommitter.{place_of}
use Rattle.lv_delta.specs.Kept.{is_above}
use Rattle.lv_delta.proofs.Searched.{filter_both}
use Rattle.lv_overlay.specs.PlaceOrder.{place_exact}
use Rattle.lv_overlay.proofs.Places.{before_differs, less_of, place_itself}
use Rattle.lv_txn.specs.declared.conflicts.Found.{Found}
use Rattle.lv_txn.specs.Written.{sooner, is_before, is_there, or_writer, writer_among, AreInOrder, IsFirst}
use Rattle.lv_txn.proofs.PlaceSearch.{all_at, all_from, in_order_at}

true_false : true ≡ false → ⊥
true_false h = cc

equal_from : (o : Ordering) → is_eq o ≡ true → o ≡ Equal
equal_from Less h = cc
equal_from Equal h = refl
equal_from Greater h = cc

greater_from : (o : Ordering) → is_eq o ≡ false → is_lt o ≡ false → is_gt o ≡ true
greater_from Less e h = cc
greater_from Equal e h = cc
greater_from Greater e h = refl

before_of : (a b : ℕ) → nat_lt a b ≡ true → a < b
before_of a b e = grind (arith, nat_tests)

not_before_of : (a b : ℕ) → nat_lt a b ≡ false → b ≤ a
not_before_of a b e = grind (arith, nat_tests)

-- ---- one entry more, where its place stands or would stand at a number
module _ (tables : List TableDef) (e : DeltaEntry) (places : List Place) (at : ℕ) (order : AreInOrder places)
    (cut : IsPartitionPoint (λ q. is_before (written_place tables e.action) q ≡ true) (λ q. is_before (written_place tables e.action) q ≡ false) places at) where
  abbrev here : Place
  here = written_place tables e.action

  abbrev more : (Place → Option ℕ) → Place → Option ℕ
  more writer = or_writer tables e writer

  other : (writer : Place → Option ℕ) (p : Place) → same_place p here ≡ false → more writer p ≡ writer p
  other writer p f = ap (λ b. cond b (Some e.number) (writer p)) f

  before_here : (k : ℕ) (d : Place) → k < at → same_place (get_or places k d) here ≡ false
  before_here k d lt = before_differs (get_or places k d) here (less_of _ (cut.0 k d (omega arith) lt))

  none_here : is_there here (slice_get places at) ≡ false → (k : ℕ) (d : Place) → k < length places → same_place (get_or places k d) here ≡ false
  none_here absent k d lt = by (cases_lt k at)
    where
      away : at ≤ k → (b : Bool) → same_place (get_or places k d) here ≡ b → b ≡ false
      away le false f = refl
      away le true f =
          let one : get_or places k d ≡ here = place_of (get_or places k d) here f in
          let within : at < length places = omega arith in
          let not_equal : is_eq (place_cmp (get_or places at d) here) ≡ false = ap (is_there here) (sym (slice_get-get_or places at d within)) ∙ absent in
          let above : is_gt (place_cmp (get_or places at d) here) ≡ true = greater_from _ not_equal (cut.1 at d (omega arith) within) in
          let up_to : is_gt (place_cmp (get_or places at d) here) ≡ false = ap (λ (p : Place). is_gt (place_cmp (get_or places at d) p)) (sym one) ∙ in_order_at places at k d order le lt in
          absurd (true_false (sym above ∙ up_to))

      by : (k < at) ⊎ (at ≤ k) → same_place (get_or places k d) here ≡ false
      by (inl less) = before_here k d less
      by (inr le) = away le (same_place (get_or places k d) here) refl

  pub not_there : (writer : Place → Option ℕ) (found : Option Found) → is_there here (slice_get places at) ≡ false → IsFirst places writer found → IsFirst places (more writer) found
  not_there writer None absent first =
      all_from (λ p. more writer p ≡ None) places (λ k d lt. other writer (get_or places k d) (none_here absent k d lt) ∙ all_at (λ p. writer p ≡ None) places k d lt first)
  not_there writer (Some f) absent first = (
    first.0,
    (λ k d lt. other writer (get_or places k d) (none_here absent k d (let h = first.0 in omega arith)) ∙ first.1 k d lt),
    (λ d. other writer (get_or places f.at d) (none_here absent f.at d first.0) ∙ first.2 d),
  )

  there_at : is_there here (slice_get places at) ≡ true → (at < length places) × ((d : Place) → same_place (get_or places at d) here ≡ true)
  there_at present = by (cases_lt at (length places))
    where
      by : (at < length places) ⊎ (length places ≤ at) → (at < length places) × ((d : Place) → same_place (get_or places at d) here ≡ true)
      by (inl lt) = (
        lt,
        λ d.
            let equal : is_eq (place_cmp (get_or places at d) here) ≡ true = ap (is_there here) (sym (slice_get-get_or places at d lt)) ∙ present in
            let one : get_or places at d ≡ here = place_exact (get_or places at d) here (equal_from _ equal) in
            subst (λ (p : Place). same_place p here ≡ true) (sym one) (place_itself here),
      )
      by (inr le) = absurd (true_false (sym present ∙ ap (is_there here) (slice_get_past places at le)))

  first_here : (writer : Place → Option ℕ) → is_there here (slice_get places at) ≡ true → ((k : ℕ) (d : Place) → k < at → at < length places → writer (get_or places k d) ≡ None)
      → IsFirst places (more writer) (Some (record { at = at; number = e.number }))
  first_here writer present none =
      let stands = there_at present in (
        stands.0,
        (λ k d lt. other writer (get_or places k d) (before_here k d lt) ∙ none k d lt stands.0),
        (λ d. ap (λ b. cond b (Some e.number) (writer (get_or places at d))) (stands.1 d)),
      )

  pub there : (writer : Place → Option ℕ) (found : Option Found) → is_there here (slice_get places at) ≡ true → IsFirst places writer found → IsFirst places (more writer) (sooner at e.number found)
  there writer None present first = first_here writer present (λ k d lt within. all_at (λ p. writer p ≡ None) places k d (omega arith) first)
  there writer (Some f) present first = by (nat_lt f.at at) refl
    where
      by : (b : Bool) → nat_lt f.at at ≡ b → IsFirst places (more writer) (cond b (Some f) (Some (record { at = at; number = e.number })))
      by true c =
          let lt : f.at < at = before_of f.at at c in (
            first.0,
            (λ k d less. other writer (get_or places k d) (before_here k d (omega arith)) ∙ first.1 k d less),
            (λ d. other writer (get_or places f.at d) (before_here f.at d lt) ∙ first.2 d),
          )
      by false c = let le : at ≤ f.at = not_before_of f.at at c in first_here writer present (λ k d lt within. first.1 k d (omega arith))

-- ---- the writers of one entry more
last_behind : {A : Type 0} (o : Option A) (xs : List A) (y : A) → last_or o (xs ++ y ∷ []) ≡ Some y
last_behind o [] y = refl
last_behind o (x ∷ xs) y = last_behind (Some x) xs y

pub writer_more : (tables : List TableDef) (entries : List DeltaEntry) (e : DeltaEntry) (p : Place) → writer_among tables (entries ++ e ∷ []) p ≡ or_writer tables e (writer_among tables entries) p
writer_more tables entries e p = go None entries
  where
    wrote : DeltaEntry → Bool
    wrote x = same_place p (written_place tables x.action)

    go : (o : Option ℕ) (xs : List DeltaEntry) → last_or o (map (λ (x : DeltaEntry). x.number) (filter wrote (xs ++ e ∷ []))) ≡ cond (wrote e) (Some e.number) (last_or o (map (λ (x : DeltaEntry). x.number) (filter wrote xs)))
    go o [] = by (wrote e)
      where
        by : (b : Bool) → last_or o (map (λ (x : DeltaEntry). x.number) (cond b (e ∷ []) [])) ≡ cond b (Some e.number) o
        by true = refl
        by false = refl
    go o (x ∷ xs) = by (wrote x) (go (Some x.number) xs) (go o xs)
      where
        by : (b : Bool) → last_or (Some x.number) (map (λ (y : DeltaEntry). y.number) (filter wrote (xs ++ e ∷ []))) ≡ cond (wrote e) (Some e.number) (last_or (Some x.number) (map (λ (y : DeltaEntry). y.number) (filter wrote xs)))
            → last_or o (map (λ (y : DeltaEntry). y.number) (filter wrote (xs ++ e ∷ []))) ≡ cond (wrote e) (Some e.number) (last_or o (map (λ (y : DeltaEntry). y.number) (filter wrote xs)))
            → last_or o (map (λ (y : DeltaEntry). y.number) (cond b (x ∷ filter wrote (xs ++ e ∷ [])) (filter wrote (xs ++ e ∷ [])))) ≡ cond (wrote e) (Some e.number) (last_or o (map (λ (y : DeltaEntry). y.number) (cond b (x ∷ filter wrote xs) (filter wrote xs))))
        by true r s = r
        by false r s = s

-- ---- the first conflict
first_none : (F : Place → ℕ → Fault) (writer : Place → Option ℕ) (places : List Place) → AllByRecursion (λ p. writer p ≡ None) places → filter_map (λ p. option_map (F p) (writer p)) places ≡ []
first_none F writer [] a = refl
first_none F writer (p ∷ places) a = ap (λ o. cons_option (option_map (F p) o) (filter_map (λ q. option_map (F q) (writer q)) places)) a.0 ∙ first_none F writer places a.1

first_some : (F : Place → ℕ → Fault) (writer : Place → Option ℕ) (places : List Place) (at n : ℕ) (d : Place) → at < length places → ((k : ℕ) (d : Place) → k < at → writer (get_or places k d) ≡ None) → writer (get_or places at d) ≡ Some n
    → slice_get (filter_map (λ p. option_map (F p) (writer p)) places) 0 ≡ Some (F (get_or places at d) n)
first_some F writer [] at n d lt before is = absurd (omega arith)
first_some F writer (p ∷ places) zero n d lt before is = ap (λ o. slice_get (cons_option (option_map (F p) o) (filter_map (λ q. option_map (F q) (writer q)) places)) 0) is
first_some F writer (p ∷ places) (suc at) n d lt before is =
    ap (λ o. slice_get (cons_option (option_map (F p) o) (filter_map (λ q. option_map (F q) (writer q)) places)) 0) (before 0 p (omega arith))
    ∙ first_some F writer places at n d (omega arith) (λ k e less. before (suc k) e (omega arith)) is

pub conflict_none : (tables : List TableDef) (writer : Place → Option ℕ) (actions : List Action) (places : List Place) → places ≡ ascending place_cmp (map (written_place tables) actions) → IsFirst places writer None → None ≡ first_conflict tables writer actions
conflict_none tables writer actions places e first =
    sym (ap (λ ps. slice_get (filter_map (λ p. option_map (Conflict p.0 p.1) (writer p)) ps) 0) (sym e)
    ∙ ap (λ (l : List Fault). slice_get l 0) (first_none (λ p n. Conflict p.0 p.1 n) writer places first))

pub conflict_some : (tables : List TableDef) (writer : Place → Option ℕ) (actions : List Action) (places : List Place) (f : Found) (p : Place) → places ≡ ascending place_cmp (map (written_place tables) actions) → IsFirst places writer (Some f) → p ≡ get_or places f.at p
    → Some (Conflict p.0 p.1 f.number) ≡ first_conflict tables writer actions
conflict_some tables writer actions places f p e first at =
    sym (ap (λ ps. slice_get (filter_map (λ q. option_map (Conflict q.0 q.1) (writer q)) ps) 0) (sym e)
    ∙ first_some (λ q n. Conflict q.0 q.1 n) writer places f.at f.number p first.0 first.1 (first.2 p)
    ∙ ap (λ (q : Place). Some (Conflict q.0 q.1 f.number)) (sym at))

-- nothing is written by no entry
pub no_writer : (tables : List TableDef) (places : List Place) → IsFirst places (writer_among tables []) None
no_writer tables [] = tt
no_writer tables (p ∷ places) = (refl, no_writer tables places)

-- with no entry there is no conflict
pub conflict_nothing : (tables : List TableDef) (actions : List Action) → None ≡ first_conflict tables (writer_among tables []) actions
conflict_nothing tables actions = conflict_none tables (writer_among tables []) actions (ascending place_cmp (map (written_place tables) actions)) refl (no_writer tables (ascending place_cmp (map (written_place tables) actions)))

same_number : (x y : ℕ) → (x == y) ≡ true → x ≡ y
same_number x y e = grind (arith, nat_tests)

pub conflict_empty : (tables : List TableDef) (entries : List DeltaEntry) (actions : List Action) → (length entries == 0) ≡ true → None ≡ first_conflict tables (writer_among tables entries) actions
conflict_empty tables [] actions e = conflict_nothing tables actions
conflict_empty tables (x ∷ entries) actions e = let z : length (x ∷ entries) ≡ 0 = same_number _ _ e in absurd (omega arith)

-- the writers among the entries above a snapshot are those above it among all
pub above_writer : (tables : List TableDef) (entries above : List DeltaEntry) (snapshot : ℕ) (p : Place) → above ≡ filter (is_above snapshot) entries → writer_among tables above p ≡ writer_in tables entries snapshot p
above_writer tables entries above snapshot p e =
    ap (λ (l : List DeltaEntry). last_or None (map (λ (x : DeltaEntry). x.number) l))
    (ap (filter (λ (x : DeltaEntry). same_place p (written_place tables x.action))) e ∙ filter_both (is_above snapshot) (λ (x : DeltaEntry). same_place p (written_place tables x.action)) entries)

pub above_conflict : (tables : List TableDef) (entries above : List DeltaEntry) (snapshot : ℕ) (actions : List Action) → above ≡ filter (is_above snapshot) entries → first_conflict tables (writer_among tables above) actions ≡ conflict_in tables entries snapshot actions
above_conflict tables entries above snapshot actions e = ap (λ (writer : Place → Option ℕ). first_conflict tables writer actions) (λ i p. above_writer tables entries above snapshot p e i)

-- a loop's step
pub entry_step : (tables : List TableDef) (places : List Place) (entries : List DeltaEntry) (i : ℕ) (e : DeltaEntry) (found : Option Found) → i < length entries → e ≡ get_or entries i e
    → IsFirst places (or_writer tables e (writer_among tables (take i entries))) found → IsFirst places (writer_among tables (take (i + 1) entries)) found
entry_step tables places entries i e found lt is first =
    subst (λ (w : Place → Option ℕ). IsFirst places w found)
    (λ j p. (sym (writer_more tables (take i entries) e p) ∙ ap (λ (l : List DeltaEntry). writer_among tables l p) (sym (take_more entries i e lt ∙ ap (λ (x : DeltaEntry). take i entries ++ x ∷ []) (sym is)))) j)
    first
