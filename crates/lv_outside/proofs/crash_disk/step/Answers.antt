use Rattle.std.proofs.Common.{◌++◌, [], ◌∷◌, List, ℕ, sym, ◌∙◌, ap, subst}
use Rattle.std.proofs.lemmas.Result.{on_ok_weaker}
use Rattle.lv_outside.specs.Crashes.{images, picked}
use Rattle.lv_outside.specs.declared.crash_disk.Call.{Call}
use Rattle.lv_outside.proofs.Crashes.{tears, stays}
use Rattle.lv_outside.proofs.crash_disk.step.Goals as goal

pub returns-in-Wrote-clause-image : goal.returns-in-Wrote-clause-image
returns-in-Wrote-clause-image c =
    on_ok_weaker c.tear.result (λ torn calls left. subst (λ (x : Call). images (calls ++ x ∷ []) c.tear.new.image.items) (sym c.in-Wrote.is) (tears calls c.in-Wrote.at c.in-Wrote.count c.args.image.now.items c.tear.new.image.items left torn)) c.tear.ensures.torn

pub returns-in_ok-image-in-Synced-clause-image : goal.returns-in_ok-image-in-Synced-clause-image
returns-in_ok-image-in-Synced-clause-image c calls left =
    let same = c.in_ok-image-in-Synced.ensures.items ∙ c.as_slice.ensures in
    subst (λ (e : List ℕ). images (calls ++ c.args.call.now ∷ []) e) (sym same)
    (subst (λ (x : Call). images (calls ++ x ∷ []) c.in-Synced.bytes) (sym c.in-Synced.is) (stays calls c.in-Synced.bytes))

pub returns-in-Wrote-clause-exact : goal.returns-in-Wrote-clause-exact
returns-in-Wrote-clause-exact c =
    on_ok_weaker c.tear.result (λ is. is ∙ ap (λ (x : Call). picked c.args.pick c.args.image.now.items (x ∷ [])) (sym c.in-Wrote.is)) c.tear.ensures.exact
