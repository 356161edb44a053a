use Rattle.std.proofs.Common.{sym, length, w32}
use Rattle.std.proofs.lemmas.Int.{to_z-of_z}
use Rattle.wiring.specs.Wiring.{pad, top_pad}
use Rattle.jumper.proofs.Checks.{passed_on}
use Rattle.route.specs.Table.{column_in}
use Rattle.route.proofs.Faults.{none_exactly}
use Rattle.route.proofs.Answers.{question_asked, check_early, check_short, check_read}
use Rattle.route.proofs.checking.check_route.Goals as goal

pub returns-in_err-asked : goal.returns-in_err-asked
returns-in_err-asked c = rw (passed_on _ c.from_residual.ensures.1) (check_early _ _ _ _ _ _ (rw (to_z-of_z w32 c.args.d c.ranges.d) at c.in_err-asked.ensures.err))

pub returns-then-table-places : goal.returns-then-table-places
returns-then-table-places c =
    let e = rw (to_z-of_z w32 c.args.d c.ranges.d) at c.in_ok-asked.ensures.ok in
    check_short _ _ _ _ _ (question_asked c.in_ok-asked.asked e) (rw c.places.ensures at c.if-table-places.true)

pub returns-then-is_faultless : goal.returns-then-is_faultless
returns-then-is_faultless c =
    let s = c.args in
    let e = rw (to_z-of_z w32 s.d c.ranges.d) at c.in_ok-asked.ensures.ok in
    let none = rw (e.0, e.1, e.2, e.3) at (c.is_faultless.ensures.0 c.if-is_faultless.true) in
    check_read _ _ _ _ _ (question_asked c.in_ok-asked.asked e) (rw c.places.ensures at c.if-table-places.false) _
    (sym ((none_exactly (length s.a.now) s.s (pad s.a.now) (top_pad s.b.now s.d) (column_in s.table.now s.s)).1 none))

pub returns : goal.returns
returns c =
    let e = rw (to_z-of_z w32 c.args.d c.ranges.d) at c.in_ok-asked.ensures.ok in
    check_read _ _ _ _ _ (question_asked c.in_ok-asked.asked e) (rw c.places.ensures at c.if-table-places.false)
    _ (rw (e.0, e.1, e.2, e.3) at c.first_fault.ensures)
