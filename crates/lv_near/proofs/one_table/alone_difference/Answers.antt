use Rattle.std.proofs.Common.{◌≡◌, ℕ, List, [], ◌∷◌, sym, ap, ◌∙◌, subst}
use Rattle.std.specs.List.{AllZip}
use Rattle.std.proofs.lemmas.Result.{IfOk-weaker}
use Rattle.lv_schema.specs.Differences.{difference}
use Rattle.lv_schema.specs.Jobs.{IsPart, new_sides, old_sides}
use Rattle.lv_schema.specs.World.{table_at}
use Rattle.lv_stands.specs.Moves.{part_in}
use Rattle.lv_base.specs.Bases.{base_of, defs_of}
use Rattle.lv_near.specs.Small.{whole_parts}
use Rattle.lv_near.proofs.one_table.alone_difference.Goals as goal

pub returns : goal.returns
returns c =
    let at = c.args.at.now in
    let def = c.args.def.now in
    let t = c.only_table.result in
    let part = part_in (defs_of at.base.now) (base_of at.base.now) at.lo at.hi t in
    let one : def.tables ≡ t ∷ [] = sym c.requires.tables ∙ c.only_table.ensures in
    let each : AllZip (λ t p. IsPart (table_at (defs_of at.base.now) t) p) (t ∷ []) (part ∷ []) =
    subst (λ (l : List ℕ). AllZip (λ t p. IsPart (table_at (defs_of at.base.now) t) p) l (whole_parts at.base.now l at.lo at.hi)) one c.requires.fit.1.each in
    IfOk-weaker c.row_difference.result _ _
    (λ list is.
    is part (table_at (defs_of at.base.now) t, each.0) (sym (c.minus.ensures ∙ c.in_ok-net.ensures.minus)) (sym (c.plus.ensures ∙ c.in_ok-net.ensures.plus))
    ∙ ap (λ (l : List ℕ). difference def (old_sides (whole_parts at.base.now l at.lo at.hi)) (new_sides (whole_parts at.base.now l at.lo at.hi))) (sym one))
    c.row_difference.ensures
