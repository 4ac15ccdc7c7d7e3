use Rattle.std.proofs.Common.{get_or, sym, arith}
use Rattle.lv_schema.specs.declared.part.Part.{Part}
use Rattle.lv_reach.proofs.FoundLaws.{found_at, found_past}
use Rattle.lv_reach.proofs.found.add_found.Goals as goal

pub returns-in_ok-push : goal.returns-in_ok-push
returns-in_ok-push c =
    let parts = c.args.parts.now in
    let at = c.args.found.alias in
    let d = c.index-parts-at.result in
    let new : Part = record { old = c.push.new.self; minus = (get_or parts at d).minus; plus = (get_or parts at d).plus } in
    found_at 0 at parts c.args.found d new (omega arith) c.if-at-parts.true (λ x. record { old = c.in_ok-push.ensures.added x; minus = (get_or parts at d).minus; plus = (get_or parts at d).plus })

pub returns-else-at-parts : goal.returns-else-at-parts
returns-else-at-parts c = sym (found_past 0 c.args.parts.now c.args.found (omega (arith, c.if-at-parts.false)))
