-- A change within another: what is near or far in it is so in the other, and it costs no more.
use Rattle.std.proofs.Common.{◌≡◌, ℕ, zero, suc, ◌+◌, ◌<◌, ◌≤◌, Bool, true, false, cond, ◌&&◌, ◌||◌, List, [], ◌∷◌, map, length, length-append, refl, sym, ap, ◌∙◌, subst, arith}
use Rattle.std.proofs.lemmas.List.Elements.{filter-append}
use Rattle.std.proofs.lemmas.List.Sums.{sum_by-cons}
use Rattle.std.specs.List.{filter, sum_by}
use Rattle.lv_values.specs.Order.{row_eq}
use Rattle.lv_schema.specs.declared.part.Part.{Part}
use Rattle.lv_schema.specs.Nets.{has_row}
use Rattle.lv_schema.proofs.Apart.{all_true}
use Rattle.lv_schema.proofs.ChangeLists.{ARow}
use Rattle.lv_reach.specs.declared.link.Link.{Link}
use Rattle.lv_reach.specs.declared.rows.AliasRow.{AliasRow}
use Rattle.lv_reach.specs.Cost.{IsReach, cost, looked_up, neighbours, whole_from}
use Rattle.lv_reach.specs.Reach.{of_alias, no_part, part_at, agree, rows_from, Leads, IsFar}
use Rattle.lv_reach.specs.Within.{IsNoMore, ChangesNoMore, without_old}
use Rattle.lv_reach.proofs.Costing.{sum_within}
use Rattle.lv_reach.proofs.Reaches.{bound_stands}
use Rattle.lv_reach.proofs.Unchanged.{all_there, none_pass}

-- ---- filters
twice : {X : Type 0} (f g : X → Bool) (xs : List X) → filter f (filter g xs) ≡ filter (λ x. f x && g x) xs
twice f g [] = refl
twice f g (x ∷ xs) = by (f x) (g x) refl (twice f g xs)
  where
    by : (s t : Bool) → f x ≡ s → filter f (filter g xs) ≡ filter (λ x. f x && g x) xs
        → filter f (cond t (x ∷ filter g xs) (filter g xs)) ≡ cond (s && t) (x ∷ filter (λ x. f x && g x) xs) (filter (λ x. f x && g x) xs)
    by true true e h = (λ i. cond (e i) (x ∷ filter f (filter g xs)) (filter f (filter g xs))) ∙ ap (λ l. x ∷ l) h
    by true false e h = h
    by false true e h = (λ i. cond (e i) (x ∷ filter f (filter g xs)) (filter f (filter g xs))) ∙ h
    by false false e h = h

filtered_there : (keep : ARow → Bool) (row : ARow) (rows : List ARow) → has_row row (filter keep rows) ≡ true → has_row row rows ≡ true
filtered_there keep row [] h = h
filtered_there keep row (r ∷ rows) h = by (row_eq row r) (keep r) refl h (filtered_there keep row rows)
  where
    by : (s t : Bool) → row_eq row r ≡ s → has_row row (cond t (r ∷ filter keep rows) (filter keep rows)) ≡ true → (has_row row (filter keep rows) ≡ true → has_row row rows ≡ true) → (s || has_row row rows) ≡ true
    by true t e k rest = refl
    by false true e k rest = rest (sym (λ i. e i || has_row row (filter keep rows)) ∙ k)
    by false false e k rest = rest k

fewer_rows : (keep : ARow → Bool) (rows : List ARow) → length (filter keep rows) ≤ length rows
fewer_rows keep [] = omega arith
fewer_rows keep (row ∷ rows) = by (keep row) (fewer_rows keep rows)
  where
    by : (t : Bool) → length (filter keep rows) ≤ length rows → length (cond t (row ∷ filter keep rows) (filter keep rows)) ≤ suc (length rows)
    by true h = omega (arith, h)
    by false h = omega (arith, h)

fewer_passing : (f : AliasRow → Bool) (i : ℕ) (keep : ARow → Bool) (rows : List ARow) → length (filter f (map (of_alias i) (filter keep rows))) ≤ length (filter f (map (of_alias i) rows))
fewer_passing f i keep [] = omega arith
fewer_passing f i keep (row ∷ rows) = by (keep row) (f (of_alias i row)) refl (fewer_passing f i keep rows)
  where
    by : (s t : Bool) → f (of_alias i row) ≡ t → length (filter f (map (of_alias i) (filter keep rows))) ≤ length (filter f (map (of_alias i) rows))
        → length (filter f (map (of_alias i) (cond s (row ∷ filter keep rows) (filter keep rows)))) ≤ length (cond t (of_alias i row ∷ filter f (map (of_alias i) rows)) (filter f (map (of_alias i) rows)))
    by true t e h =
        let first : length (filter f (of_alias i row ∷ map (of_alias i) (filter keep rows))) ≡ length (cond t (of_alias i row ∷ filter f (map (of_alias i) (filter keep rows))) (filter f (map (of_alias i) (filter keep rows))))
        = ap (λ b. length (cond b (of_alias i row ∷ filter f (map (of_alias i) (filter keep rows))) (filter f (map (of_alias i) (filter keep rows))))) e in
        omega (arith, first, both t h)
      where
        both : (t : Bool) → length (filter f (map (of_alias i) (filter keep rows))) ≤ length (filter f (map (of_alias i) rows))
            → length (cond t (of_alias i row ∷ filter f (map (of_alias i) (filter keep rows))) (filter f (map (of_alias i) (filter keep rows)))) ≤ length (cond t (of_alias i row ∷ filter f (map (of_alias i) rows)) (filter f (map (of_alias i) rows)))
        both true h = omega (arith, h)
        both false h = h
    by false true e h = omega (arith, h)
    by false false e h = h

-- ---- parts that have no more
no_more_itself : (p : Part) → IsNoMore p p
no_more_itself p = record { keep = λ row. true; kept = sym (all_there p.old); only = λ row h. h }

no_more_both : (s m p : Part) → IsNoMore s m → IsNoMore m p → IsNoMore s p
no_more_both s m p h k = record {
  keep = λ row. h.keep row && k.keep row;
  kept = h.kept ∙ ap (filter h.keep) k.kept ∙ twice h.keep k.keep p.old;
  only = λ row e. k.only row (h.only row e);
}

no_more_without : (p : Part) → IsNoMore (record { old = []; minus = p.minus; plus = p.plus }) p
no_more_without p = record { keep = λ row. false; kept = sym (none_pass (λ row. false) p.old (all_true (λ row. false ≡ false) (λ row. refl) p.old)); only = λ row h. h }

pub changes_itself : (parts : List Part) → ChangesNoMore parts parts
changes_itself [] = tt
changes_itself (p ∷ parts) = (no_more_itself p, changes_itself parts)

pub changes_both : (small middle parts : List Part) → ChangesNoMore small middle → ChangesNoMore middle parts → ChangesNoMore small parts
changes_both [] [] [] h k = tt
changes_both [] [] (p ∷ parts) h k = absurd k
changes_both [] (m ∷ middle) parts h k = absurd h
changes_both (s ∷ small) [] parts h k = absurd h
changes_both (s ∷ small) (m ∷ middle) [] h k = absurd k
changes_both (s ∷ small) (m ∷ middle) (p ∷ parts) h k = (no_more_both s m p h.0 k.0, changes_both small middle parts h.1 k.1)

pub changes_without : (i : ℕ) (parts : List Part) → ChangesNoMore (without_old i parts) parts
changes_without i [] = tt
changes_without zero (p ∷ parts) = (no_more_without p, changes_itself parts)
changes_without (suc i) (p ∷ parts) = (no_more_itself p, changes_without i parts)

part_no_more : (small parts : List Part) → ChangesNoMore small parts → (j : ℕ) → IsNoMore (part_at small j) (part_at parts j)
part_no_more [] [] h j = no_more_itself no_part
part_no_more [] (p ∷ parts) h j = absurd h
part_no_more (s ∷ small) [] h j = absurd h
part_no_more (s ∷ small) (p ∷ parts) h zero = h.0
part_no_more (s ∷ small) (p ∷ parts) h (suc j) = part_no_more small parts h.1 j

-- ---- fewer rows
fewer_old : (f : AliasRow → Bool) (i : ℕ) (small parts : List Part) → ChangesNoMore small parts → length (filter f (rows_from (λ p. p.old) i small)) ≤ length (filter f (rows_from (λ p. p.old) i parts))
fewer_old f i [] [] h = omega arith
fewer_old f i [] (p ∷ parts) h = absurd h
fewer_old f i (s ∷ small) [] h = absurd h
fewer_old f i (s ∷ small) (p ∷ parts) h =
    let here : length (filter f (map (of_alias i) s.old)) ≤ length (filter f (map (of_alias i) p.old))
    = subst (λ rows. length (filter f (map (of_alias i) rows)) ≤ length (filter f (map (of_alias i) p.old))) (sym h.0.kept) (fewer_passing f i h.0.keep p.old) in
    omega (arith, here, fewer_old f (suc i) small parts h.1, halves s small, halves p parts)
  where
    halves : (q : Part) (more : List Part) → length (filter f (rows_from (λ p. p.old) i (q ∷ more))) ≡ length (filter f (map (of_alias i) q.old)) + length (filter f (rows_from (λ p. p.old) (suc i) more))
    halves q more =
        ap (λ (l : List AliasRow). length l) (filter-append f (map (of_alias i) q.old) (rows_from (λ p. p.old) (suc i) more))
        ∙ length-append (filter f (map (of_alias i) q.old)) (filter f (rows_from (λ p. p.old) (suc i) more))

sum_fewer : (f g : AliasRow → ℕ) → ((a : AliasRow) → f a ≤ g a) → (rows : List AliasRow) → sum_by f rows ≤ sum_by g rows
sum_fewer f g h [] = omega arith
sum_fewer f g h (a ∷ rows) = omega (arith, h a, sum_fewer f g h rows, sum_by-cons f a rows, sum_by-cons g a rows)

flag_within : (b c : Bool) (n m : ℕ) → (b ≡ true → c ≡ true) → n ≤ m → cond b n 0 ≤ cond c m 0
flag_within false c n m h le = omega arith
flag_within true c n m h le = let is : cond c m 0 ≡ m = ap (λ t. cond t m 0) (h refl) in omega (arith, is, le)

fewer_whole : (f g : ℕ → Bool) (i : ℕ) (small parts : List Part) → ChangesNoMore small parts → ((j : ℕ) → j < length parts → f (i + j) ≡ true → g (i + j) ≡ true) → whole_from f i small ≤ whole_from g i parts
fewer_whole f g i [] [] h k = omega arith
fewer_whole f g i [] (p ∷ parts) h k = absurd h
fewer_whole f g i (s ∷ small) [] h k = absurd h
fewer_whole f g i (s ∷ small) (p ∷ parts) h k =
    let here : i + 0 ≡ i = omega arith in
    let few : length s.old ≤ length p.old = subst (λ (rows : List ARow). length rows ≤ length p.old) (sym h.0.kept) (fewer_rows h.0.keep p.old) in
    let first = flag_within (f i) (g i) (length s.old) (length p.old) (subst (λ n. f n ≡ true → g n ≡ true) here (k 0 (omega arith))) few in
    let rest = fewer_whole f g (suc i) small parts h.1
    (λ j lt. let next : i + suc j ≡ suc i + j = omega arith in subst (λ n. f n ≡ true → g n ≡ true) next (k (suc j) (omega (arith, lt)))) in
    omega (arith, first, rest)

-- ---- what is near and what is far
as_many : (small parts : List Part) → ChangesNoMore small parts → length small ≡ length parts
as_many [] [] h = refl
as_many [] (p ∷ parts) h = absurd h
as_many (s ∷ small) [] h = absurd h
as_many (s ∷ small) (p ∷ parts) h = ap suc (as_many small parts h.1)

module _ (links : List Link) (small parts : List Part) (h : ChangesNoMore small parts) where
  leads_more : (chain : List AliasRow) (a : AliasRow) → Leads links small chain a → Leads links parts chain a
  leads_more [] a l = (part_no_more small parts h a.alias).only a.row l
  leads_more (from ∷ chain) a l =
      let at = part_no_more small parts h a.alias in
      (filtered_there at.keep a.row (part_at parts a.alias).old (sym (ap (has_row a.row) at.kept) ∙ l.0), l.1, leads_more chain from l.2)

  far_more : (j : ℕ) → IsFar links small j → IsFar links parts j
  far_more j far = record { from = far.from; changed = (part_no_more small parts h far.from.alias).only far.from.row far.changed; apart = far.apart }

  pub cost_no_more : (near near_small : List AliasRow) (far far_small : ℕ → Bool) → IsReach links small near_small far_small → IsReach links parts near far → cost links small near_small far_small ≤ cost links parts near far
  cost_no_more near near_small far far_small r s =
      let fewer : looked_up links small near_small ≤ looked_up links parts near_small
      = sum_fewer (λ a. length (neighbours links small a)) (λ a. length (neighbours links parts a)) (λ a. fewer_old (agree links a) 0 small parts h) near_small in
      let more : looked_up links parts near_small ≤ looked_up links parts near
      = sum_within (λ a. length (neighbours links parts a)) near_small near r.once
      (λ a there. let is = (r.near_rows a).0 there in (s.near_rows a).1 (is.0, leads_more is.0 a is.1)) in
      let whole : whole_from far_small 0 small ≤ whole_from far 0 parts
      = fewer_whole far_small far 0 small parts h (λ j lt.
      let same : j ≡ 0 + j = omega arith in
      subst (λ n. far_small n ≡ true → far n ≡ true) same
      (λ e. (s.far_aliases j lt).1 (far_more j ((r.far_aliases j (subst (λ n. j < n) (sym (as_many small parts h)) lt)).0 e)))) in
      omega (arith, fewer, more, whole)

  pub bound_no_more : (start end : ℕ) → ((near : List AliasRow) (far : ℕ → Bool) → IsReach links small near far → end ≤ start + cost links small near far)
      → (near : List AliasRow) (far : ℕ → Bool) → IsReach links parts near far → end ≤ start + cost links parts near far
  bound_no_more start end bound near far s =
      bound_stands links small end (start + cost links parts near far)
      (λ near_small far_small r. omega (arith, bound near_small far_small r, cost_no_more near near_small far far_small r s))
