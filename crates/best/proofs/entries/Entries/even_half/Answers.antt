use Rattle.std.proofs.Common.{arith}
use Rattle.best.proofs.Strides.{even_strided}
use Rattle.best.proofs.entries.Entries.even_half.Goals as goal

pub invariant_of-result : goal.invariant_of-result
invariant_of-result c = record { strided = even_strided c.requires (omega arith) (omega arith) c.args.self.now.strided }
