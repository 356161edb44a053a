use Rattle.std.proofs.Common.{rules, sym, FitsSigned, w32}
use Rattle.std.proofs.lemmas.Int.{to_z-of_z}
use Rattle.route.specs.Asked.{pairs, bottom, top, entered}
use Rattle.route.proofs.Faults.{touches_here}
use Rattle.route.proofs.checking.TableWire.run_touches.Goals as goal

pub returns : goal.returns
returns c =
    let w = c.args.self in
    let q = w.table.asked in
    let e = c.in-Some.ensures in
    let inside = rw (e.0, e.1) at c.in-Some.next.inside in
    let f0 : FitsSigned w32 c.run.result.0 = search rules in
    let f1 : FitsSigned w32 c.run-2.result.1 = search rules in
    rw (to_z-of_z w32 _ f0, to_z-of_z w32 _ f1, c.run.ensures.0, e.0, e.1, c.run-2.ensures.1)
    (sym (touches_here (pairs q) q.separation (bottom q) (top q) (entered q w.table.columns.now) c.args.t w.wire c.if-t-self.true inside))
