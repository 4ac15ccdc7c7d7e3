-- A statement of the last session.
use Rattle.std.proofs.Common.{◌≡◌, ℕ, List, [], ◌∷◌, ◌++◌, refl, ap, ◌∙◌}
use Rattle.lv_plain.specs.declared.program.Script.{Script}
use Rattle.lv_lines.specs.Script.{onto_last}

onto_last-more : (s : Script) (ss : List Script) (t : Script) (line : List ℕ) → onto_last (s ∷ (ss ++ t ∷ [])) line ≡ s ∷ onto_last (ss ++ t ∷ []) line
onto_last-more s [] t line = refl
onto_last-more s (r ∷ ss) t line = refl

pub onto_last-push : (ss : List Script) (t : Script) (line : List ℕ) → onto_last (ss ++ t ∷ []) line ≡ ss ++ record t { lines = t.lines ++ line ∷ [] } ∷ []
onto_last-push [] t line = refl
onto_last-push (s ∷ ss) t line = onto_last-more s ss t line ∙ ap (λ (xs : List Script). s ∷ xs) (onto_last-push ss t line)
