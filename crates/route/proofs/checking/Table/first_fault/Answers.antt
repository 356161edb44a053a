use Rattle.std.proofs.Common.{sym, ◌∙◌, ◌+◌, arith, length}
use Rattle.route.specs.Check.{fault_of}
use Rattle.route.proofs.Faults.{track_found, track_next, track_done}
use Rattle.route.proofs.checking.Table.first_fault.Goals as goal

pub returns-in-Some : goal.returns-in-Some
returns-in-Some c =
    let t = c.args.self in
    let q = t.asked in
    let wrong = fault_of q.rows.bottom.now q.rows.top.now q.separation q.offset t.columns.now in
    sym (c.loop-t.invariant ∙ track_found wrong (length q.rows.bottom.now) (q.separation + 1) c.loop-t.t _ (omega arith) c.in-Some.ensures)

pub loop-t-preserved : goal.loop-t-preserved
loop-t-preserved c =
    let t = c.args.self in
    let q = t.asked in
    let wrong = fault_of q.rows.bottom.now q.rows.top.now q.separation q.offset t.columns.now in
    c.loop-t.invariant ∙ track_next wrong (length q.rows.bottom.now) (q.separation + 1) c.loop-t.t (omega arith) c.in_default.ensures

pub returns-in_default : goal.returns-in_default
returns-in_default c =
    let t = c.args.self in
    let q = t.asked in
    let wrong = fault_of q.rows.bottom.now q.rows.top.now q.separation q.offset t.columns.now in
    sym (c.loop-t.invariant ∙ track_next wrong (length q.rows.bottom.now) (q.separation + 1) c.loop-t.t (omega arith) c.in_default.ensures
    ∙ track_done wrong (length q.rows.bottom.now) (q.separation + 1) (c.loop-t.t + 1) (omega arith))
