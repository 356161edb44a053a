use Rattle.std.proofs.Common.{◌≡◌, ◌%◌, take, sum}
use Rattle.frame.specs.Hex.{text_of}
use Rattle.frame.specs.Puts.{puts}
use Rattle.frame.proofs.write.put_line.Given as goal

abbrev pub invariant-loop-i : goal.invariant-loop-i
invariant-loop-i l = (l.out ≡ puts l.initial.out l.at (text_of (take l.i l.bytes))) × (l.sum ≡ sum (take l.i l.bytes) % 256)
