-- The loop's invariant: how many pairs stay among those before this round's.
use Rattle.std.proofs.Common.{◌≡◌, length}
use Rattle.parts.specs.Stays.{kept_among}
use Rattle.parts.proofs.stays.pairs_kept.Given as goal

abbrev pub invariant-loop-stay : goal.invariant-loop-stay
invariant-loop-stay l = l.kept ≡ length (kept_among l.stays l.stay-index)
