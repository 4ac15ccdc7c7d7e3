use Rattle.std.proofs.Common.{◌∷◌, [], ◌∙◌, refl, ap, ap₂, length, map, arith}
use Rattle.std.proofs.lemmas.List.{length_push}
use Rattle.lv_shelf.specs.declared.chains.Link.{Link}
use Rattle.lv_shelf.specs.Chains.{chain_of}
use Rattle.lv_shelf.proofs.Chained.{more_links}
use Rattle.lv_shelf.proofs.chains.Chains.reserve.Goals as goal

pub loop-init : goal.loop-init
loop-init c =
    let s = c.self.inside in
    let e = c.reserve-2.ensures in
    let f = c.reserve.ensures in
    let ok = c.in_ok-reserve-2.ensures.ok in
    record {
      are = rw (e.items, f.same) c.self.invariant;
      same = ap₂ (λ links ps. map (chain_of links) ps) e.items f.same ∙ ap (λ v. v.chains) c.self.view_is;
      newest = refl;
      long = omega (arith, c.len-counter.ensures, c.reserve-2.new.self.ok.0);
      room = omega (arith, ok, e.len, c.saturating_sub.ensures, c.len.ensures);
      kept = omega arith;
    }

pub loop-preserved : goal.loop-preserved
loop-preserved c =
    let e = c.push_reserved.ensures in
    let i = c.loop.invariant in
    let links = c.loop.self-inside.links.items in
    let none : Link = record { older = 0; newer = 0; height = 0 } in
    let now = more_links links (none ∷ []) c.loop.self-inside.newest.list i.are in
    let long = ap length e.items ∙ length_push links none in
    record {
      are = rw e.items now.are;
      same = ap (λ l. map (chain_of l) c.loop.self-inside.newest.list) e.items ∙ now.seen ∙ i.same;
      newest = i.newest;
      long = omega (arith, long, i.long);
      room = omega (arith, e.capacity, i.room);
      kept = omega (arith, long, i.kept);
    }
