use Rattle.std.proofs.Common.{◌≡◌, ℕ, ◌+◌, ◌*◌, ◌<◌, get_or, pos}
use Rattle.frame.specs.Frame.{four}
use Rattle.frame.proofs.read.carry.Given as goal

abbrev pub invariant-loop-j : goal.invariant-loop-j
invariant-loop-j l = (i : ℕ) → i < l.j → get_or l.column-items i (pos 0) ≡ four l.bytes (4 * i + 3)
