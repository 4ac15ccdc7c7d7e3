use Rattle.std.proofs.Common.{◌≡◌, ◌+◌, length, refl, sym, ap, ◌∙◌, subst, arith}
use Rattle.lv_reach.proofs.FarLaws.{NoneBelow, far_there, off_at, off_from, none_more, none_far}
use Rattle.lv_reach.proofs.Gathering.{never}
use Rattle.lv_reach.proofs.far.is_far.Goals as goal

pub returns-then-branch : goal.returns-then-branch
returns-then-branch c =
    let links = c.args.links.now in
    let parts = c.args.parts.now in
    let i = c.loop-part.part-index in
    (λ e. far_there links parts c.args.to i (off_at links parts c.args.to i c.loop-part.alias c.part-item.result c.loop-part-test.true c.part-item.is c.loop-part.invariant.0 (c.in_ok-cuts_off.ensures.0 c.if-branch.true)), λ far. refl)

pub loop-part-preserved : goal.loop-part-preserved
loop-part-preserved c =
    let links = c.args.links.now in
    let parts = c.args.parts.now in
    let i = c.loop-part.part-index in (
      ap (λ n. n + 1) c.loop-part.invariant.0,
      none_more links parts c.args.to i c.loop-part.invariant.1 (λ off.
          never (sym c.if-branch.false ∙ c.in_ok-cuts_off.ensures.1 (off_from links parts c.args.to i c.loop-part.alias c.part-item.result c.loop-part-test.true c.part-item.is c.loop-part.invariant.0 off))),
    )

pub returns : goal.returns
returns c =
    let links = c.args.links.now in
    let parts = c.args.parts.now in
    let all : c.loop-part.part-index ≡ length parts = omega (arith, c.loop-part-test.false, c.loop-part.auto) in
    (λ e. absurd (never e), λ far. absurd (none_far links parts c.args.to (subst (NoneBelow links parts c.args.to) all c.loop-part.invariant.1) far))
