-- The loop's invariant: the columns before round t stand in their places.
use Rattle.std.proofs.Common.{◌≡◌, ℕ, ◌+◌, ◌<◌, get_or, pos}
use Rattle.parts.proofs.keep.copy.Given as goal

abbrev pub invariant-loop-t : goal.invariant-loop-t
invariant-loop-t l = (i : ℕ) → i < l.t → get_or l.out i (pos 0) ≡ get_or l.table (l.from + i) (pos 0)
