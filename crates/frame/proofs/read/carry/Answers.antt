use Rattle.std.proofs.Common.{arith, ◌≡◌, length, ◌∙◌, length-take-le}
use Rattle.frame.proofs.Frames.{no_count, not_carried, carried}
use Rattle.frame.proofs.read.carry.Goals as goal
use Rattle.frame.proofs.read.carry.Goals.{then-k-eq0-via-then-k-eq0, then-k-eq0-via-else-k-eq0+then-k-gt16, then-k-eq0-via-else-k-eq0+else-k-gt16+then-bytes-k}

pub returns-then-k-eq0 : goal.returns-then-k-eq0
returns-then-k-eq0 c =
    not_carried _ _
    (no_count _ (λ a b d.
    elim c.then-k-eq0.branch [
      | then-k-eq0-via-then-k-eq0 w ↦ omega arith
      | then-k-eq0-via-else-k-eq0+then-k-gt16 w ↦ omega arith
      | then-k-eq0-via-else-k-eq0+else-k-gt16+then-bytes-k w ↦ omega arith
    ]))

pub returns : goal.returns
returns c =
    let n : length c.loop-j.column-items ≡ c.from-k.result = c.loop-j.auto.column-items ∙ length-take-le _ _ (omega arith) in
    carried _ _ _ _ c.from-k.ensures c.if-k-eq0.false c.if-k-gt16.false c.if-bytes-k.false (omega arith) n (λ i h. c.loop-j.invariant i (omega arith))
