use Rattle.lv_core.proofs.machine.Core.take_fetched.Goals as goal

pub returns-clause-done : goal.returns-clause-done
returns-clause-done g c = (c.in-Some.input, c.new.ensures, c.in_ok-input.ensures.fetched c.in-Some.input c.in-Some.is)
