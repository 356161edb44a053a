use Rattle.std.proofs.Common.{◌<◌, ◌≢◌, length, arith, get_or-set_other, get_or-set_same, below_more}
use Rattle.frame.proofs.Scan.{worth_read, worths_more}
use Rattle.frame.proofs.hex.worths_of.Goals as goal

pub loop-i-preserved : goal.loop-i-preserved
loop-i-preserved c =
    let e = worth_read _ _ (rw c.digit.ensures at c.unwrap_or-worth.ensures) in (
      worths_more _ _ _ _ _ c.loop-i-test.true e c.max-most.ensures c.loop-i.invariant.0,
      below_more _ _
          (λ k h. let ne : k ≢ c.loop-i.i = omega arith in rw get_or-set_other (c.loop-i.invariant.1 k h))
          (let lt : c.loop-i.i < length c.loop-i.worths = omega arith in rw get_or-set_same e),
    )
