use Rattle.std.proofs.Common.{[], refl, None}
use Rattle.events.proofs.Steps.{inside_bad, outside_stepped}
use Rattle.events.proofs.step.on_rest.Goals as goal

pub returns-in-Some : goal.returns-in-Some
returns-in-Some c = λ a b. rw c.in-Some.ensures (inside_bad c.in-Some.w.line _ c.in-Some.w.held a b _ c.refuse_open.ensures)

pub returns-in-None : goal.returns-in-None
returns-in-None c = λ a b. outside_stepped c.args.m a b c.in-None.ensures _ None [] c.miss.ensures refl
