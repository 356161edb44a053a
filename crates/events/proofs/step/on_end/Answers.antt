use Rattle.events.proofs.Steps.{inside_end, outside_end}
use Rattle.events.proofs.step.on_end.Goals as goal

pub returns-in-Some : goal.returns-in-Some
returns-in-Some c = record { told = λ a b. rw c.in-Some.ensures (inside_end c.in-Some.w.line _ c.in-Some.w.held a b _ c.refuse_open.ensures) }

pub returns-in-None : goal.returns-in-None
returns-in-None c = record { told = λ a b. outside_end c.args.m a b c.in-None.ensures _ c.pass.ensures }
