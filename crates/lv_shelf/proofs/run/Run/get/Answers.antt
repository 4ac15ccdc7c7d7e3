use Rattle.std.proofs.Common.{◌<◌, ◌∙◌, sym, ap, length, arith}
use Rattle.std.specs.Prelude.{slice_get}
use Rattle.lv_shelf.specs.Shelves.{IsHeld}
use Rattle.lv_shelf.proofs.Cutting.{all_at}
use Rattle.lv_shelf.proofs.Shelved.{get_items, length_items}
use Rattle.lv_shelf.proofs.run.Run.get.Goals as goal

pub offset_bounds-self-inside-at : goal.offset_bounds-self-inside-at
offset_bounds-self-inside-at g c =
    let s = c.self.inside in
    omega (arith, length_items s.slots.now s.numbers.now c.self.invariant, ap length c.self.view_is, c.requires)

pub bounds-self-inside-at : goal.bounds-self-inside-at
bounds-self-inside-at g c =
    let s = c.self.inside in
    omega (arith, length_items s.slots.now s.numbers.now c.self.invariant, ap length c.self.view_is, c.requires)

pub in_slot-requires : goal.in_slot-requires
in_slot-requires g c =
    let s = c.self.inside in
    let within : c.args.at < length s.numbers.now = omega (arith, length_items s.slots.now s.numbers.now c.self.invariant, ap length c.self.view_is, c.requires) in
    all_at (IsHeld s.slots.now) s.numbers.now c.args.at 0 within c.self.invariant

pub returns : goal.returns
returns g c =
    let s = c.self.inside in
    let within : c.args.at < length s.numbers.now = omega (arith, length_items s.slots.now s.numbers.now c.self.invariant, ap length c.self.view_is, c.requires) in
    ap (λ l. slice_get l c.args.at) (sym c.self.view_is)
    ∙ get_items s.slots.now s.numbers.now c.args.at c.self.invariant within
    ∙ c.in_slot.ensures
