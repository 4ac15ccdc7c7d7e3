-- The rows of groups that stand below the changes that are left.
use Rattle.std.proofs.Common.{◌≡◌, ℕ, zero, suc, ◌+◌, ◌≤◌, Bool, true, List, [], ◌∷◌, ◌++◌, length, map, filter, take, drop, Some, refl, sym, ap, ◌∙◌, append_assoc, arith}
use Rattle.std.specs.Prelude.{slice_get}
use Rattle.std.specs.List.{AllByRecursion}
use Rattle.std.proofs.lemmas.List.{append-nil, drop-append-le, drop-take, drop_all, length-take-le, map-append, take-append-drop, take-take}
use Rattle.std.proofs.lemmas.List.Elements.{filter-append}
use Rattle.lv_values.specs.declared.value.Value.{Value}
use Rattle.lv_schema.specs.declared.signed.SignedRow.{SignedRow}
use Rattle.lv_schema.specs.declared.view.ViewDef.{ViewDef}
use Rattle.lv_viewrows.specs.declared.version.GroupVersion.{GroupVersion}
use Rattle.lv_viewrows.specs.Kept.{groups_at, is_there}
use Rattle.lv_viewrows.specs.Merged.{is_below, merged, passing}
use Rattle.lv_viewrows.proofs.Installing.{all_there}
use Rattle.lv_viewrows.proofs.Merging.{merged_below}
use Rattle.lv_viewrows.proofs.Passing.{passing_append}
use Rattle.lv_viewrows.proofs.Walking.{there_cons, walk_step}

-- the groups up to a place, and those from there on
pub groups_append : (n : ℕ) (xs ys : List GroupVersion) → groups_at n (xs ++ ys) ≡ groups_at n xs ++ groups_at n ys
groups_append n xs ys = ap (map (λ (v : GroupVersion). v.group)) (filter-append (is_there n) xs ys) ∙ map-append (λ (v : GroupVersion). v.group) (filter (is_there n) xs) (filter (is_there n) ys)

parts : {X : Type 0} (i to : ℕ) (xs : List X) → i ≤ to → drop i (take to xs) ++ drop to xs ≡ drop i xs
parts zero to xs le = take-append-drop to xs
parts (suc i) zero xs le = absurd (omega (arith, le))
parts (suc i) (suc to) [] le = refl
parts (suc i) (suc to) (x ∷ xs) le = parts i to xs (omega (arith, le))

split : {X : Type 0} (i end : ℕ) (xs : List X) → i ≤ end → end ≤ length xs → drop i (take end xs) ++ drop end xs ≡ drop i xs
split i end xs le within = let long = length-take-le end xs within in sym (drop-append-le i (take end xs) (drop end xs) (omega (arith, long, le))) ∙ ap (drop i) (take-append-drop end xs)

-- a walk that appends them as they are
pub rows_unchanged : (view : ViewDef) (p : List Value → Bool) (n i end : ℕ) (list : List SignedRow) (vs : List GroupVersion) (rows after all : List (List Value)) → i ≤ end → end ≤ length vs → AllByRecursion (λ v. is_below list v.group ≡ true) (drop i (take end vs))
    → after ≡ rows ++ passing view p (groups_at n (drop i (take end vs))) → rows ++ passing view p (merged list (groups_at n (drop i vs))) ≡ all → after ++ passing view p (merged list (groups_at n (drop end vs))) ≡ all
rows_unchanged view p n i end list vs rows after all le within a e before =
    let part = drop i (take end vs) in
    let gs = groups_at n part in
    let rest = groups_at n (drop end vs) in
    ap (λ l. l ++ passing view p (merged list rest)) e
    ∙ append_assoc rows (passing view p gs) (passing view p (merged list rest))
    ∙ ap (λ l. rows ++ l)
    (sym (passing_append view p gs (merged list rest))
    ∙ ap (passing view p)
    (sym (merged_below list gs rest (all_there (λ g. is_below list g ≡ true) n part a)) ∙ ap (merged list) (sym (groups_append n part (drop end vs)) ∙ ap (groups_at n) (split i end vs le within))))
    ∙ before

-- steps of that walk: one version, or some that follow one another
pub next_unchanged : (view : ViewDef) (p : List Value → Bool) (n i : ℕ) (v : GroupVersion) (vs : List GroupVersion) (rows after all : List (List Value)) → slice_get vs i ≡ Some v → after ≡ rows ++ passing view p (groups_at n (v ∷ []))
    → rows ++ passing view p (groups_at n (drop i vs)) ≡ all → after ++ passing view p (groups_at n (drop (i + 1) vs)) ≡ all
next_unchanged view p n i v vs rows after all get e before =
    ap (λ l. l ++ passing view p (groups_at n (drop (i + 1) vs))) e
    ∙ walk_step (λ (list : List GroupVersion). passing view p (groups_at n list)) (λ w list. sym (passing_append view p (groups_at n (w ∷ [])) (groups_at n list)) ∙ ap (passing view p) (there_cons n w list)) i rows v vs get
    ∙ before

pub run_unchanged : (view : ViewDef) (p : List Value → Bool) (n at end : ℕ) (run vs : List GroupVersion) (rows after all : List (List Value)) → run ≡ take (length run) (drop at vs) → at + length run ≤ end → after ≡ rows ++ passing view p (groups_at n run)
    → rows ++ passing view p (groups_at n (drop at (take end vs))) ≡ all → after ++ passing view p (groups_at n (drop (at + length run) (take end vs))) ≡ all
run_unchanged view p n at end run vs rows after all is within e before =
    let to = at + length run in
    let left = drop to (take end vs) in
    let gs = groups_at n run in
    let first : run ≡ drop at (take to (take end vs)) = is ∙ sym (drop-take at (length run) vs) ∙ ap (drop at) (sym (take-take to end vs within)) in
    let both : run ++ left ≡ drop at (take end vs) = ap (λ l. l ++ left) first ∙ parts at to (take end vs) (omega arith) in
    ap (λ l. l ++ passing view p (groups_at n left)) e
    ∙ append_assoc rows (passing view p gs) (passing view p (groups_at n left))
    ∙ ap (λ l. rows ++ l) (sym (passing_append view p gs (groups_at n left)) ∙ ap (passing view p) (sym (groups_append n run left) ∙ ap (groups_at n) both))
    ∙ before

-- its end
pub none_unchanged : (view : ViewDef) (p : List Value → Bool) (n i : ℕ) (vs : List GroupVersion) (rows all : List (List Value)) → length vs ≤ i → rows ++ passing view p (groups_at n (drop i vs)) ≡ all → rows ≡ all
none_unchanged view p n i vs rows all done before = sym (append-nil rows) ∙ ap (λ l. rows ++ passing view p (groups_at n l)) (sym (drop_all i vs done)) ∙ before
