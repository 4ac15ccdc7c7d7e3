use Rattle.std.proofs.Common.{◌∙◌, List, Bool, map, ap}
use Rattle.lv_parser.specs.declared.tree.ColName.{ColName}
use Rattle.lv_schema.specs.declared.query.Query.{Query}
use Rattle.lv_bind.specs.Binding.{bound_cond, bound_list, bound_order, rel_of}
use Rattle.lv_bind.specs.Seen.{aliases, tables_of, views_of}
use Rattle.lv_bind.proofs.SourceLemmas.{select_bound}
use Rattle.lv_bind.proofs.statement.bound_among.Goals as goal

pub returns-in_ok-bound_query-in-Select : goal.returns-in_ok-bound_query-in-Select
returns-in_ok-bound_query-in-Select c =
    let sources = aliases c.args.scope.now in
    let query : List (ColName × Bool) → Query = λ order. record {
      rels = map (λ s. rel_of s.rel) c.args.scope.now.sources.now;
      cond = bound_cond sources c.in-Select.cond;
      list = bound_list sources c.in-Select.list;
      order = bound_order sources order;
    } in
    select_bound (tables_of c.args.scope.now) (views_of c.args.scope.now) c.args.stmt.now sources c.args.scope.now.sources.now
    c.in-Select.list c.in-Select.refs c.in-Select.cond c.in-Select.order c.in_ok-bound_query-in-Select.field-0
    c.in-Select.is c.requires.rels (c.in_ok-bound_query-in-Select.ensures ∙ ap query c.as_slice-in-Select.ensures)
