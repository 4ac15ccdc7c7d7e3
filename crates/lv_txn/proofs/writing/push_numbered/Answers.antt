use Rattle.std.proofs.Common.{◌≡◌, ◌∷◌, ◌++◌, [], List, length, sym, ap, ◌∙◌, append_assoc, arith}
use Rattle.std.proofs.lemmas.List.{append-nil}
use Rattle.lv_schema.specs.declared.action.Action.{Action}
use Rattle.lv_schema.specs.Cases.{numbered, with_number}
use Rattle.lv_txn.proofs.Noting.{nothing}
use Rattle.lv_txn.proofs.writing.push_numbered.Goals as goal

pub push-requires : goal.push-requires
push-requires c = omega (arith, ap length c.in-Some.ensures.steps.0, c.loop-action.invariant.room)

pub loop-action-preserved : goal.loop-action-preserved
loop-action-preserved c =
    let here = c.in-Some.ensures.steps.0 in
    let rest = c.next.new.self.rest.items in
    let k = c.args.statement in
    record {
      room = omega (arith, ap length here, c.loop-action.invariant.room, c.push.ensures.room);
      added = ap (λ (l : List Action). l ++ numbered k rest) c.push.ensures.added
          ∙ append_assoc c.loop-action.list.list (with_number k c.in-Some.action ∷ []) (numbered k rest)
          ∙ ap (λ (l : List Action). c.loop-action.list.list ++ numbered k l) (sym here)
          ∙ c.loop-action.invariant.added;
    }

pub returns : goal.returns
returns c =
    let left = c.loop-action.action-iterator.rest.items in
    let none : left ≡ [] = nothing left (sym c.loop-action.action-iterator.rest.ok.0 ∙ c.in-None.ensures.steps.0) in
    sym (append-nil c.loop-action.list.list) ∙ ap (λ (l : List Action). c.loop-action.list.list ++ numbered c.args.statement l) (sym none) ∙ c.loop-action.invariant.added
