use Rattle.std.proofs.Common.{ap, of_z, rules, w32}
use Rattle.route.proofs.Texts.{same_bits, track_none, track_full, track_put}
use Rattle.route.proofs.moves.Writer.put.Goals as goal

pub returns-then-from-to-clause-wrote : goal.returns-then-from-to-clause-wrote
returns-then-from-to-clause-wrote c = track_none c.args.m c.args.self.now.out.now c.args.self.now.at (same_bits c.args.m.from c.args.m.to (search rules) (search rules) c.if-from-to.true)

pub returns-then-next-self-clause-wrote : goal.returns-then-next-self-clause-wrote
returns-then-next-self-clause-wrote c = track_full c.args.m c.args.self.now.out.now c.args.self.now.at _ _ c.put_move-next.ensures c.if-next-self.true

pub returns-clause-wrote : goal.returns-clause-wrote
returns-clause-wrote c = track_put c.args.m c.args.self.now.out.now c.args.self.now.at _ _ c.put_move-next.ensures c.if-next-self.false (λ e. c.if-from-to.false (ap (of_z w32) e))
