-- The loop's invariant: the row's fault is the fault of what is left, after the column before it; and that column is at least the one left of the first, so
-- a column above it isn't left of the first.
use Rattle.std.proofs.Common.{◌≡◌, ◌+◌, ◌-◌, ◌≤◌, length, drop, pos, ◌-ℤ◌, ◌≤ℤ◌}
use Rattle.jumper.specs.Limits.{first_column}
use Rattle.jumper.specs.Rows.{row_fault, fault_after}
use Rattle.jumper.proofs.rows.Row.seek_fault.Given as goal

abbrev pub invariant-loop-i : goal.invariant-loop-i
invariant-loop-i l =
    (l.i ≤ length l.fn.self.pads.now) × ((first_column -ℤ pos 1) ≤ℤ l.before) × (row_fault l.fn.self.place l.fn.self.pads.now ≡ fault_after l.before (l.fn.self.place + l.i) (drop l.i l.fn.self.pads.now))

abbrev pub decreases-loop-i : goal.decreases-loop-i
decreases-loop-i l = length l.fn.self.pads.now - l.i
