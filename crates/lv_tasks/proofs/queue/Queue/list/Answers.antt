use Rattle.std.proofs.Common.{◌≡◌, ◌∙◌, ◌+◌, ◌<◌, ◌≤◌, ◌++◌, ◌∷◌, [], ap, arith, length, sym, take}
use Rattle.std.proofs.lemmas.List.{map-append, take_all, take_more}
use Rattle.lv_values.specs.Room.{Roomy}
use Rattle.lv_tasks.specs.declared.task.Task.{Task}
use Rattle.lv_tasks.specs.Kept.{pairs_of}
use Rattle.lv_tasks.proofs.queue.Queue.list.Goals as goal

pub loop-at-init : goal.loop-at-init
loop-at-init c = c.new-list.ensures

pub loop-at-preserved : goal.loop-at-preserved
loop-at-preserved c =
    let tasks = c.self.inside.tasks.items in
    let task = c.index.result.now in
    let within : c.loop-at.at < length tasks = omega (arith, c.loop-at-test.true, c.len-at-end.ensures, c.self.inside.tasks.ok) in
    let more : take (c.loop-at.at + 1) tasks ≡ take c.loop-at.at tasks ++ task ∷ [] = take_more tasks c.loop-at.at task within ∙ ap (λ (t : Task). take c.loop-at.at tasks ++ t ∷ []) (sym c.index.ensures) in
    c.in_ok-push.ensures.added
    ∙ ap (λ l. l ++ (c.args.view, task.commit) ∷ []) c.loop-at.invariant
    ∙ sym (ap (pairs_of c.args.view) more ∙ map-append (λ (t : Task). (c.args.view, t.commit)) (take c.loop-at.at tasks) (task ∷ []))

pub returns : goal.returns
returns c =
    let tasks = c.self.inside.tasks.items in
    let past : length tasks ≤ c.loop-at.at = omega (arith, c.loop-at-test.false, c.len-at-end.ensures, c.self.inside.tasks.ok) in
    c.loop-at.invariant ∙ ap (pairs_of c.args.view) (take_all c.loop-at.at tasks past) ∙ ap (λ (q : Roomy Task). pairs_of c.args.view q.list) c.self.view_is
