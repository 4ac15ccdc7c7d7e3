use Rattle.std.proofs.Common.{◌≡◌, ◌↔◌, Bool, true, List, Ok, Err, IfOk, inl, inr, ◌∙◌, subst}
use Rattle.std.specs.Prelude.{◌⊎◌, Result}
use Rattle.lv_schema.specs.declared.view.ViewDef.{ViewDef}
use Rattle.lv_schema.specs.World.{snap}
use Rattle.lv_reach.specs.declared.link.Link.{Link}
use Rattle.lv_reach.specs.Links.{links_of}
use Rattle.lv_joining.specs.Joining.{AliasesKeepLinks, IsOfOneTable, KeepsLinks}
use Rattle.lv_joining.proofs.steps.step_keeps_links.Goals as goal

-- what is told of the one where the other is not
told_of : {E : Type 0} (A B : Type 0) (r : Result Bool E) → (B → ⊥) → IfOk r (λ keeps. (keeps ≡ true) ↔ A) → IfOk r (λ keeps. (keeps ≡ true) ↔ (B ⊎ A))
told_of A B (Err e) not told = tt
told_of A B (Ok keeps) not told = (λ yes. inr (told.0 yes), back)
  where
    back : B ⊎ A → keeps ≡ true
    back (inl b) = absurd (not b)
    back (inr a) = told.1 a

pub returns : goal.returns
returns c = λ w kept is.
    let links = c.as_slice-links.result.now in
    let def = c.args.def.now in
    let first = snap w.visible c.args.step.lo in
    let last = snap w.visible c.args.step.hi in
    let none : IsOfOneTable links def.tables → ⊥ = λ alone. absurd (let yes = c.is_of_one_table.ensures.1 alone in let no = c.if-is_of_one_table.false in cc) in
    let told : IfOk c.aliases_keep_links.result (λ keeps. (keeps ≡ true) ↔ KeepsLinks links w.visible.tables def.tables first last) =
    told_of (AliasesKeepLinks links w.visible.tables def.tables first last) (IsOfOneTable links def.tables) c.aliases_keep_links.result none (c.aliases_keep_links.ensures w kept is) in
    subst (λ (d : ViewDef). IfOk c.aliases_keep_links.result (λ keeps. (keeps ≡ true) ↔ KeepsLinks (links_of d.cond) w.visible.tables d.tables first last)) is
    (subst (λ (ls : List Link). IfOk c.aliases_keep_links.result (λ keeps. (keeps ≡ true) ↔ KeepsLinks ls w.visible.tables def.tables first last)) (c.as_slice-links.ensures ∙ c.in_ok-links.ensures) told)
