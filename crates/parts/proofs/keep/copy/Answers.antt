use Rattle.std.proofs.Common.{◌+◌, arith}
use Rattle.wiring.specs.Wiring.{pad}
use Rattle.parts.proofs.Copies.{columns_are}
use Rattle.parts.proofs.keep.copy.Goals as goal

pub returns : goal.returns
returns c = columns_are (λ t. pad c.args.table.now (c.args.from + t)) _ _ c.loop-t.auto.out (λ i h. c.loop-t.invariant i (omega arith))
