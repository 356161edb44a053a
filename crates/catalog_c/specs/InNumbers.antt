-- What an export promises of the numbers that it hands back: they are those of an answer of which the call's own promise holds, so all that this
-- promise says of legal wirings is said of them.
use Rattle.std.specs.Prelude.{◌≡◌}
use Rattle.jumper.specs.declared.refusal.Numbers.{Numbers}

pub record InNumbers {A : Type 0} (numbers : A → Numbers) (Promise : A → Type 0) (r : Numbers) : Type 0 where
  pub answer : A
  pub same : r ≡ numbers answer
  pub promise : Promise answer
