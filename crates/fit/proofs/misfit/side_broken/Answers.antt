use Rattle.fit.proofs.Ends.{right_tested, left_tested}
use Rattle.fit.proofs.misfit.side_broken.Goals as goal

pub returns-then-b-i : goal.returns-then-b-i
returns-then-b-i c = rw (right_tested c.args.q c.args.s c.args.i c.requires _ c.if-a-i.false, left_tested c.args.q c.args.s c.args.i c.requires _ c.if-b-i.true)

pub returns-else-b-i : goal.returns-else-b-i
returns-else-b-i c = rw (right_tested c.args.q c.args.s c.args.i c.requires _ c.if-a-i.false, left_tested c.args.q c.args.s c.args.i c.requires _ c.if-b-i.false)
