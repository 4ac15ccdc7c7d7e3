use Rattle.std.proofs.Common.{sym, ap, ◌∙◌, subst}
use Rattle.lv_schema.specs.declared.rec.Rec.TheVariants.{Mark}
use Rattle.lv_replay.specs.Replayed.{replayed}
use Rattle.lv_upkeep.specs.Kept.{UpkeepKept}
use Rattle.lv_upkeep.specs.Moves.{upkeep_marked}
use Rattle.lv_loading.specs.Loads.{LoadingStands}
use Rattle.lv_loading.specs.Taking.{kept_in}
use Rattle.lv_loading.proofs.TakenMarks.{mark_taken, mark_told}
use Rattle.lv_loading.proofs.parts.Parts.take_mark.Goals as goal

pub returns : goal.returns
returns c = λ w is.
    let k = kept_in c.args.self.now in
    let v = c.args.view in
    let upto = c.args.upto in
    let applied = sym (mark_told k v upto w is) ∙ sym c.can_be_marked.ensures ∙ c.if-not-can_be_marked.false in (
      applied,
      subst (λ (u : UpkeepKept). LoadingStands (replayed (Mark v upto) w) (record k { upkeep = u })) (sym (c.mark.ensures.marked ∙ ap (upkeep_marked v) c.advance.ensures.moved)) (mark_taken k v upto w is applied c.requires.kept),
    )
