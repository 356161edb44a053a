use Rattle.std.proofs.Common.{arith}
use Rattle.whole.proofs.Machine.{back}
use Rattle.frame.specs.Written.{answer_line}
use Rattle.frame.proofs.write.put_answer.Goals as goal

pub returns : goal.returns
unfolding answer_line
returns c =
    let lowest = back c.args.k.lowest (omega arith) in
    let highest = back c.args.k.highest (omega arith) in
    rw (c.two.ensures, c.to_be_bytes.ensures, lowest, c.to_be_bytes-2.ensures, highest, c.two-2.ensures) at c.put_line.ensures
