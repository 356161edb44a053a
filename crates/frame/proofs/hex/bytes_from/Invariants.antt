use Rattle.std.proofs.Common.{◌≡◌, ℕ, ◌<◌, ◌%◌, get_or, take, sum}
use Rattle.frame.specs.Hex.{byte_at}
use Rattle.frame.proofs.hex.bytes_from.Given as goal

abbrev pub invariant-loop-i : goal.invariant-loop-i
invariant-loop-i l = ((k : ℕ) → k < l.i → get_or l.bytes k 0 ≡ byte_at l.worths k) × (l.sum ≡ sum (take l.i l.bytes) % 256)
