use Rattle.std.proofs.Common.{w32}
use Rattle.std.proofs.lemmas.Int.{to_z-of_z}
use Rattle.route.proofs.Quick.{four}
use Rattle.route.proofs.checking.touch.Goals as goal

pub returns : goal.returns
returns c =
    let ep = to_z-of_z w32 c.args.p c.ranges.p in
    let ep2 = to_z-of_z w32 c.args.p2 c.ranges.p2 in
    let eq = to_z-of_z w32 c.args.q c.ranges.q in
    let eq2 = to_z-of_z w32 c.args.q2 c.ranges.q2 in
    four c.args.p c.args.p2 c.args.q c.args.q2 _
    (rw (rw (ep, eq) at c.not_left.ensures.1, rw (ep, eq2) at c.not_left-2.ensures.1, rw (ep2, eq) at c.not_left-3.ensures.1, rw (ep2, eq2) at c.not_left-4.ensures.1))
