-- The loop's invariant: the answer is the answer of the tracks that are left.
use Rattle.std.proofs.Common.{◌≡◌, ◌+◌, ◌-◌, length}
use Rattle.route.specs.Check.{fault_of, track_fault, first_fault}
use Rattle.route.proofs.checking.Table.first_fault.Given as goal

abbrev pub invariant-loop-t : goal.invariant-loop-t
invariant-loop-t l =
    let q = l.self.asked in
    first_fault q.rows.bottom.now q.rows.top.now q.separation q.offset l.self.columns.now
    ≡ track_fault (fault_of q.rows.bottom.now q.rows.top.now q.separation q.offset l.self.columns.now) (length q.rows.bottom.now) l.t (q.separation + 1 - l.t)
