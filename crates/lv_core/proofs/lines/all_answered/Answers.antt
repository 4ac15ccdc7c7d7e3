use Rattle.std.proofs.Common.{◌≡◌, ◌+◌, ◌-◌, ◌&&◌, ◌<◌, false, not, sym, ◌∙◌, arith}
use Rattle.std.specs.List.{list_all, range_with_len}
use Rattle.lv_plain.specs.Programs.{has_more, session_count}
use Rattle.lv_core.proofs.Ranges.{all_from}
use Rattle.lv_core.proofs.lines.all_answered.Goals as goal

pub loop-session-preserved : goal.loop-session-preserved
loop-session-preserved c =
    let p = c.args.program.now in
    let places = c.args.places.now in
    let s = c.loop-session.session in
    let there : s < session_count p = omega (arith, c.loop-session-test.true, c.len-session-end.ensures) in
    let none : has_more p places s ≡ false = sym c.has_more.ensures ∙ c.if-has_more.false in
    (λ i. not (sym none i) && list_all (λ s. not (has_more p places s)) (range_with_len (s + 1) (session_count p - (s + 1))))
    ∙ sym (all_from (λ s. not (has_more p places s)) s (session_count p) there)
    ∙ c.loop-session.invariant
