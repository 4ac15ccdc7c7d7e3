use Rattle.lv_bind.specs.Seen.{aliases, tables_of, views_of}
use Rattle.lv_bind.proofs.FaultLemmas.{small_view, refused_later, bound_unrefused}
use Rattle.lv_bind.proofs.statement.bind_among.Goals as goal

pub late_fault-requires-clause-small : goal.late_fault-requires-clause-small
late_fault-requires-clause-small c =
    small_view (tables_of c.args.scope.now) (views_of c.args.scope.now) c.args.stmt.now
    (aliases c.args.scope.now) c.in_ok-bound.bound c.in_ok-bound.ensures.bound c.in_ok-bound.ensures.readable

pub returns-in-Some-clause-refused : goal.returns-in-Some-clause-refused
returns-in-Some-clause-refused c f same =
    refused_later (tables_of c.args.scope.now) (views_of c.args.scope.now) c.args.setup c.args.live c.args.stmt.now c.in_ok-fault.field-0 c.in-Some.fault f
    c.in_ok-bound.ensures.readable c.in_ok-fault.ensures c.in-Some.is same

pub returns-in-None-clause-found : goal.returns-in-None-clause-found
returns-in-None-clause-found c =
    bound_unrefused (tables_of c.args.scope.now) (views_of c.args.scope.now) c.args.setup c.args.live c.args.stmt.now
    (aliases c.args.scope.now) c.in_ok-bound.bound c.in_ok-fault.field-0
    c.requires.sources c.in_ok-bound.ensures.bound c.in_ok-bound.ensures.readable c.in_ok-fault.ensures c.in-None.is
