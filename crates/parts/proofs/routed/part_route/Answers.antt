use Rattle.std.proofs.Common.{w32}
use Rattle.std.proofs.lemmas.Int.{to_z-of_z}
use Rattle.jumper.proofs.Checks.{passed_on}
use Rattle.parts.specs.Stays.{AskedPart}
use Rattle.parts.proofs.Answers.{Through, asked_part, routed_early, routed_short, routed_refused, routed_done}
use Rattle.parts.proofs.routed.part_route.Goals as goal
use Rattle.parts.proofs.routed.part_route.Goals.{In_ok-part}

-- the part that was let through is the one that was asked about
through : (c : In_ok-part) → Through c.args.a.now c.args.b.now c.args.stays.now c.args.s c.args.d c.in_ok-part.part
through c = rw (to_z-of_z w32 c.args.d c.ranges.d) at c.in_ok-part.ensures.ok

asked : (c : In_ok-part) → AskedPart c.args.a.now c.args.b.now c.args.stays.now c.args.s c.args.d
asked c = asked_part _ _ _ _ _ c.in_ok-part.part (through c)

pub returns-in_err-part : goal.returns-in_err-part
returns-in_err-part c =
    let e = to_z-of_z w32 c.args.d c.ranges.d in
    rw (passed_on _ c.from_residual.ensures.1) (routed_early _ _ _ _ _ _ _ _ (rw e at c.in_err-part.ensures.err))

pub returns-then-out-places : goal.returns-then-out-places
returns-then-out-places c =
    let p = (goal.at.returns-then-out-places c).In_ok-part in
    let e = through p in
    routed_short _ _ _ _ _ _ _ (asked p) (rw (c.places.ensures, e.2, e.3) at c.if-out-places.true)

pub returns-in_err-check_route : goal.returns-in_err-check_route
returns-in_err-check_route c =
    let p = (goal.at.returns-in_err-check_route c).In_ok-part in
    let e = through p in
    rw (passed_on _ c.from_residual-in_err-check_route.ensures.1)
    (routed_refused _ _ _ _ _ _ _ (asked p) (rw (c.places.ensures, e.2, e.3) at c.if-out-places.false)
    _ (rw (to_z-of_z w32 c.args.d c.ranges.d) at c.in_err-check_route.ensures))

pub returns : goal.returns
returns c =
    let p = (goal.at.returns c).In_ok-part in
    let e = through p in
    routed_done _ _ _ _ _ _ _ (asked p) (rw (c.places.ensures, e.2, e.3) at c.if-out-places.false)
    (rw (to_z-of_z w32 c.args.d c.ranges.d) at c.in_ok-check_route.ensures) _ (rw (e.2, e.3) at c.keep_wires.ensures)
