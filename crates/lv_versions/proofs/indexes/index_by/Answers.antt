use Rattle.std.proofs.Common.{◌≡◌, ◌++◌, ◌∷◌, [], List, ℕ, take, true, false, refl, sym, ap, ap₂, ◌∙◌, subst, eq-eqb}
use Rattle.std.specs.Prelude.{◌&&◌, nat_eq}
use Rattle.std.specs.Cmp.Lexicographic.{pointwise}
use Rattle.std.specs.List.{AllByRecursion}
use Rattle.std.proofs.lemmas.List.{take_more}
use Rattle.lv_schema.proofs.Apart.{all_append}
use Rattle.lv_versions.proofs.indexes.index_by.Goals as goal

itself : (xs : List ℕ) → pointwise nat_eq xs xs ≡ true
itself [] = refl
itself (x ∷ xs) = ap₂ (λ a b. a && b) (eq-eqb x x refl) (itself xs)

pub loop-j-preserved : goal.loop-j-preserved
loop-j-preserved c =
    let cs = c.args.indexes.now in
    let j = c.loop-j.j in
    let index = c.index-indexes-j.result in
    let other : index ≡ c.args.columns.now → ⊥ = λ same.
    let t : pointwise nat_eq c.as_slice.result.now c.args.columns.now ≡ true = subst (λ l. pointwise nat_eq l c.args.columns.now ≡ true) (sym (c.as_slice.ensures ∙ same)) (itself c.args.columns.now) in
    let f : pointwise nat_eq c.as_slice.result.now c.args.columns.now ≡ false = sym c.eq.ensures ∙ c.if-eq.false in
    cc in
    subst (AllByRecursion (λ (x : List ℕ). x ≡ c.args.columns.now → ⊥)) (sym (take_more cs j index c.loop-j-test.true ∙ ap (λ x. take j cs ++ x ∷ []) (sym c.index-indexes-j.is)))
    (all_append (λ (x : List ℕ). x ≡ c.args.columns.now → ⊥) (take j cs) (index ∷ []) c.loop-j.invariant (other, tt))
