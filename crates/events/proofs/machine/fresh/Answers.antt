use Rattle.std.proofs.Common.{refl}
use Rattle.events.specs.Steps.{mode_of, line_in}
use Rattle.events.proofs.Noted.{never}
use Rattle.events.proofs.machine.fresh.Goals as goal

pub returns : goal.returns
unfolding mode_of line_in
returns c = record { answer = refl; mode = λ a b. refl; seen = never }
