use Rattle.std.proofs.Common.{FitsSigned, refl, rules, subst}
use Rattle.std.proofs.lemmas.Int.{int_wrap_fits}
use Rattle.std.specs.List.{All}
use Rattle.std.specs.Int.{w128}
use Rattle.lv_bags.proofs.Tallies.{fits_all}
use Rattle.lv_bags.proofs.adding.is_entry.Goals as goal

pub returns : goal.returns
returns c =
    let fits : FitsSigned w128 c.args.s.now.count = search rules in
    record {
      wide = refl;
      count = int_wrap_fits w128 c.args.s.now.count fits;
      sums = fits_all c.args.s.now.sums (subst (All (FitsSigned w128)) c.as_slice.ensures c.are_numbers.ensures);
    }
