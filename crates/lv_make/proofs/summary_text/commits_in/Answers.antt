use Rattle.std.proofs.Common.{rules, ◌∙◌}
use borrow.Author.Tests.{tests}
use Rattle.std.proofs.lemmas.Iterator.{YieldsList-from_slice}
use Rattle.std.proofs.lemmas.Iterator.Consumers.{YieldsList-at, YieldsList-from_filter, count_from_yields_List}
use Rattle.std.proofs.lemmas.List.Sums.{length-filter}
use Rattle.lv_make.specs.Summary.{shows_commit}
use Rattle.lv_make.proofs.summary_text.commits_in.Goals as goal

pub returns : goal.returns
returns c =
    let source = YieldsList-at c.filter.ensures.source (YieldsList-from_slice c.args.entries.now cc) in
    count_from_yields_List c.filter.result c.count.result c.count.ensures.ran
    (YieldsList-from_filter _ shows_commit source c.filter.ensures.closure (λ x r q k. search (rules, tests)))
    ∙ length-filter shows_commit c.args.entries.now
