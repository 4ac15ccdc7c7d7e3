use Rattle.std.proofs.Common.{◌++◌, ◌∷◌, [], map, sym, ap, ◌∙◌, append_assoc}
use Rattle.std.proofs.lemmas.List.{map-append}
use Rattle.lv_reach.specs.Reach.{of_alias}
use Rattle.lv_reach.specs.Walk.{put_all, put_behind}
use Rattle.lv_reach.proofs.Walking.{put_last}
use Rattle.lv_reach.proofs.near.NearRows.put_rows.Goals as goal

pub loop-row-preserved : goal.loop-row-preserved
loop-row-preserved c = (
  append_assoc c.loop-row.yielded (c.in-Some.row ∷ []) c.next.new.self.rest.items ∙ ap (λ l. c.loop-row.yielded ++ l) (sym c.in-Some.ensures.steps.0) ∙ c.loop-row.invariant.0,
  c.in_ok-put.ensures.put ∙ ap (put_behind (of_alias c.args.alias c.in-Some.row)) c.loop-row.invariant.1
      ∙ sym (put_last (map (of_alias c.args.alias) c.loop-row.yielded) (of_alias c.args.alias c.in-Some.row) c.reserve.new.self)
      ∙ ap (λ l. put_all l c.reserve.new.self) (sym (map-append (of_alias c.args.alias) c.loop-row.yielded (c.in-Some.row ∷ []))),
)
