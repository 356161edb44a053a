use Rattle.std.proofs.Common.{arith}
use Rattle.whole.proofs.Machine.{back}
use Rattle.frame.specs.Written.{move_line}
use Rattle.frame.proofs.write.put_move.Goals as goal

pub returns : goal.returns
unfolding move_line
returns c =
    let from = back c.args.m.from (omega arith) in
    let to = back c.args.m.to (omega arith) in
    rw (c.two.ensures, c.two-2.ensures, c.to_be_bytes.ensures, from, c.to_be_bytes-2.ensures, to) at c.put_line.ensures
