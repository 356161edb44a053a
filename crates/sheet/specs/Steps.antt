-- The states that the code goes to. No reader needs to believe these: that they owe what a step calls for is proved (proofs/Steps.antt).
use Rattle.std.specs.Prelude.{Option, None, Some, cond, eqb}
use Rattle.jumper.specs.Refusals.{refusal_numbers}
use Rattle.jumper.specs.declared.refusal.Numbers.{Numbers}
use Rattle.frame.specs.declared.read.Order.{Order}
use Rattle.frame.specs.declared.write.Answer.{Answer}
use Rattle.events.specs.declared.step.Did.{Did}
use Rattle.events.specs.declared.step.Did.TheVariants.{Opened, Filled, Completed, Refused, Passed}
use Rattle.events.specs.declared.step.Step.{Step}
use Rattle.sheet.specs.Machine.{shown}
use Rattle.sheet.specs.declared.state.Route.{Route}
use Rattle.sheet.specs.declared.state.State.{State}

-- after a step: the 20 of a line that it cut off is to be written; a 20; and a route
abbrev pub owing : Step → (due : Option Answer) → Option Route → State
owing t due r = record { at = 0; machine = t.machine; cut = t.cut; due = due; route = r }

-- the whole route of a line
abbrev pub whole : Order → Numbers → Route
whole o k = record { line = o.line; separation = k.separation; offset = k.lowest; wires = o.pairs; wire = 0; track = 0 }

abbrev pub complete : Step → Order → Numbers → State
complete t o k = owing t (Some (shown o.line k)) (cond (eqb k.refusal 0) (Some (whole o k)) None)

-- the 20 that a step calls for that completes no line; one that does never comes here, and would be planned first
abbrev pub due_after : Did → Option Answer
due_after Opened = None
due_after Filled = None
due_after (Completed o) = None
due_after (Refused l r) = Some (shown l (refusal_numbers r))
due_after Passed = None

abbrev pub after : Step → State
after t = owing t (due_after t.did) None
