use Rattle.std.proofs.Common.{◌≡◌, ℕ, ◌<◌, List, [], ◌∷◌, ◌++◌, length, not, refl, sym, ap, ◌∙◌, subst, arith}
use Rattle.std.specs.List.{filter}
use Rattle.lv_reach.specs.Far.{are_led}
use Rattle.lv_reach.proofs.Gathering.{fewer_left, some_one, none_left, never}
use Rattle.lv_reach.proofs.Paths.{IsSpread, spread_starts, spread_goes_on, spread_ends}
use Rattle.lv_reach.proofs.far.reached.Goals as goal

pub loop-init : goal.loop-init
loop-init c =
    let links = c.args.links.now in
    let found : c.in_ok-found.found ≡ c.args.from ∷ [] = c.in_ok-found.ensures in
    (subst (λ (l : List ℕ). IsSpread links c.args.count c.args.from l c.in_ok-left.left) (sym found) (spread_starts links c.args.count c.args.from c.in_ok-left.left c.in_ok-left.ensures), omega arith)

pub returns-then-is_empty : goal.returns-then-is_empty
returns-then-is_empty c =
    let links = c.args.links.now in
    let more : c.in_ok-more.more ≡ filter (are_led links c.loop.found) c.loop.left =
    c.in_ok-more.ensures ∙ (λ i. filter (are_led links (c.as_slice.ensures i)) (c.as_slice-in-loop.ensures i)) in
    spread_ends links c.args.count c.args.from c.loop.found c.loop.left c.loop.invariant.0 (sym more ∙ c.if-is_empty.ensures.0 refl) c.requires

pub loop-preserved : goal.loop-preserved
loop-preserved c =
    let links = c.args.links.now in
    let more : c.in_ok-more.more ≡ filter (are_led links c.loop.found) c.loop.left =
    c.in_ok-more.ensures ∙ (λ i. filter (are_led links (c.as_slice.ensures i)) (c.as_slice-in-loop.ensures i)) in
    let stay : c.keep.new.self ≡ filter (λ k. not (are_led links c.loop.found k)) c.loop.left =
    c.keep.ensures ∙ (λ i. filter (λ k. not (are_led links (c.as_slice-in-loop-2.ensures i) k)) c.loop.left) in
    let found : c.append.new.self ≡ c.loop.found ++ filter (are_led links c.loop.found) c.loop.left = c.in_ok-append.ensures.added ∙ ap (λ l. c.loop.found ++ l) more in
    let some : 0 < length (filter (are_led links c.loop.found) c.loop.left) = some_one _ (λ e. never (c.if-is_empty.ensures.1 (more ∙ e))) in (
      subst (λ (l : List ℕ). IsSpread links c.args.count c.args.from l c.keep.new.self) (sym found)
          (subst (λ (l : List ℕ). IsSpread links c.args.count c.args.from (c.loop.found ++ filter (are_led links c.loop.found) c.loop.left) l) (sym stay) (spread_goes_on links c.args.count c.args.from c.loop.found c.loop.left c.loop.invariant.0)),
      omega (arith, c.loop.invariant.1, ap length stay, fewer_left (are_led links c.loop.found) c.loop.left some),
    )

pub returns : goal.returns
returns c =
    let links = c.args.links.now in
    let none : length c.loop.left ≡ 0 = omega (arith, c.loop.invariant.1, c.loop-test.false) in
    spread_ends links c.args.count c.args.from c.loop.found c.loop.left c.loop.invariant.0 (none_left (are_led links c.loop.found) c.loop.left none) c.requires
