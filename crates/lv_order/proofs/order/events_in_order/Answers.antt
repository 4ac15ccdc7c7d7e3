use Rattle.std.proofs.Common.{length, arith}
use Rattle.std.proofs.lemmas.Grind.{common_steps}
use Rattle.std.proofs.lemmas.List.FromFn.{length-map-range_with_len}
use Rattle.lv_plain.specs.Events.{left_over}
use Rattle.lv_order.proofs.Rounds.{rounds_of_list}
use Rattle.lv_order.proofs.order.events_in_order.Goals as goal

pub push_rounds-requires : goal.push_rounds-requires
push_rounds-requires c =
    let p = c.args.program.now in
    rw (c.as_slice-2.ensures, c.in_ok-left.ensures, length-map-range_with_len (left_over p) 1 (length p.sessions)) c.requires.within.sessions

pub returns : goal.returns
returns c =
    let p = c.args.program.now in
    let same = rounds_of_list (left_over p) (length p.sessions) in
    grind (arith, common_steps, same)
