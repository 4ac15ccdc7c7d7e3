use Rattle.std.proofs.Common.{◌≡◌, get_or, set, length, ap, ◌∙◌, arith}
use Rattle.lv_schema.specs.declared.part.Part.{Part}
use Rattle.std.specs.Prelude.{List}
use Rattle.lv_relevance.specs.Relevance.{told_part}
use Rattle.lv_relevance.proofs.LettingGo.{told_until, until_at, until_end, until_more}
use Rattle.lv_relevance.proofs.telling.let_go_of_each.Goals as goal

pub loop-alias-preserved : goal.loop-alias-preserved
loop-alias-preserved c =
    let cols = c.args.cols.now in
    let parts = c.args.parts.now in
    let alias = c.loop-alias.alias in
    let part = c.index-parts-alias.result in
    let same : get_or c.loop-alias.parts alias part ≡ get_or parts alias part =
    ap (λ (l : List Part). get_or l alias part) c.loop-alias.invariant ∙ until_at cols 0 alias parts part in
    (λ k. set (c.loop-alias.invariant k) alias ((c.let_go.ensures ∙ ap (told_part cols alias) same) k))
    ∙ until_more cols alias parts part (omega arith)

pub returns : goal.returns
returns c =
    let cols = c.args.cols.now in
    let parts = c.args.parts.now in
    let all : c.loop-alias.alias ≡ length parts = omega arith in
    c.loop-alias.invariant ∙ ap (λ n. told_until cols 0 n parts) all ∙ until_end cols 0 parts
