use Rattle.std.proofs.Common.{sym, ap}
use Rattle.frame.specs.Frame.{said_of}
use Rattle.frame.proofs.Frames.{not_header}
use Rattle.frame.proofs.read.header.Goals as goal

pub returns-then-bytes-ne16 : goal.returns-then-bytes-ne16
returns-then-bytes-ne16 c = ap said_of (sym (not_header _ c.requires c.if-bytes-ne16.true))
