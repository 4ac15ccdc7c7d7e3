use Rattle.std.proofs.Common.{sym, ◌∙◌}
use Rattle.lv_bind.specs.Seen.{tables_of, views_of}
use Rattle.lv_bind.proofs.FaultLemmas.{narrow_sources, refused_reading, small_table}
use Rattle.lv_bind.proofs.statement.bound_searched.Goals as goal

pub bound_among-requires-clause-narrow : goal.bound_among-requires-clause-narrow
bound_among-requires-clause-narrow c =
    narrow_sources (tables_of c.args.scope.now) (views_of c.args.scope.now) c.args.stmt.now c.args.scope.now.sources.now c.requires.sources c.requires.narrow
    (sym c.in_ok-fault.ensures ∙ c.in-None.is)

pub bound_among-requires-clause-small : goal.bound_among-requires-clause-small
bound_among-requires-clause-small c =
    small_table (tables_of c.args.scope.now) (views_of c.args.scope.now) c.args.stmt.now (sym c.in_ok-fault.ensures ∙ c.in-None.is)

pub returns-in-Some-clause-refused : goal.returns-in-Some-clause-refused
returns-in-Some-clause-refused c setup live f same =
    refused_reading (tables_of c.args.scope.now) (views_of c.args.scope.now) setup live c.args.stmt.now c.in_ok-fault.field-0 c.in-Some.fault f
    c.in_ok-fault.ensures c.in-Some.is same
