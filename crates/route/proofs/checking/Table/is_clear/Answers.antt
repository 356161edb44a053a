use Rattle.std.proofs.Common.{arith, add-one}
use Rattle.wiring.specs.Wiring.{pad}
use Rattle.route.specs.Asked.{pairs, bottom, top, entered}
use Rattle.route.proofs.Quick.{clear_by, clear_last, unclear, same_clear}
use Rattle.route.proofs.checking.Table.is_clear.Goals as goal

pub returns-then-not-ends_right : goal.returns-then-not-ends_right
returns-then-not-ends_right c =
    let w = c.wire-wire.result in
    let q = w.table.asked in
    same_clear c.args.self w.table c.args.i w.wire _ c.wire-wire.ensures
    (unclear (pairs q) q.separation (bottom q) (top q) (entered q w.table.columns.now) w.wire _ c.ends_right.ensures c.if-not-ends_right.true)

pub returns-in-Some : goal.returns-in-Some
returns-in-Some c =
    let w = c.wire-wire.result in
    let q = w.table.asked in
    let e = c.in-Some.ensures in
    let inside = rw (e.0, e.1) at c.in-Some.next.inside in
    same_clear c.args.self w.table c.args.i w.wire _ c.wire-wire.ensures
    (clear_by (pairs q) q.separation (bottom q) (top q) (entered q w.table.columns.now) w.wire _ c.ends_right.ensures
    (pad c.columns.result.now) (pad c.columns-in-Some.result.now) c.runs_apart.result c.if-not-ends_right.false (omega arith)
    c.columns.ensures.columns (rw (e.0, e.1, add-one) at c.columns-in-Some.ensures.columns) (rw c.wire-wire.ensures.0 c.runs_apart.ensures))

pub returns-in-None : goal.returns-in-None
returns-in-None c =
    let w = c.wire-wire.result in
    let q = w.table.asked in
    same_clear c.args.self w.table c.args.i w.wire _ c.wire-wire.ensures
    (clear_last (pairs q) q.separation (bottom q) (top q) (entered q w.table.columns.now) w.wire _ c.ends_right.ensures c.if-not-ends_right.false (omega (arith, c.in-None.ensures)))
