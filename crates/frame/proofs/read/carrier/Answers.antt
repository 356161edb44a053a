use Rattle.std.proofs.Common.{None, arith}
use Rattle.frame.proofs.Frames.{bottom_in, top_in, other_in}
use Rattle.frame.proofs.read.carrier.Goals as goal

pub returns-in_err-carry-in-17 : goal.returns-in_err-carry-in-17
returns-in_err-carry-in-17 c = let e = bottom_in _ _ _ c.in-17.is None c.in_err-carry-in-17.ensures in rw c.from_residual.ensures e

pub returns-in_err-carry-in-18 : goal.returns-in_err-carry-in-18
returns-in_err-carry-in-18 c = rw c.from_residual-in_err-carry-in-18.ensures (top_in _ _ _ c.in-18.is None c.in_err-carry-in-18.ensures)

pub returns-in_ok-carry-in-17 : goal.returns-in_ok-carry-in-17
returns-in_ok-carry-in-17 c = bottom_in _ _ _ c.in-17.is _ c.in_ok-carry-in-17.ensures

pub returns-in_ok-carry-in-18 : goal.returns-in_ok-carry-in-18
returns-in_ok-carry-in-18 c = top_in _ _ _ c.in-18.is _ c.in_ok-carry-in-18.ensures

pub returns-in_default : goal.returns-in_default
returns-in_default c = other_in _ _ c.requires.1 (λ e. omega arith) (λ e. omega arith)
