-- The row's first 2,048 columns are so many, since it has one more.
use Rattle.std.proofs.Common.{sym, arith}
use Rattle.std.proofs.lemmas.List.{length-take-le}
use Rattle.worked.proofs.pairs.Goals as goal

pub slice_bounds-most-end : goal.slice_bounds-most-end
slice_bounds-most-end g c = sym (length-take-le 2048 c.from_fn-row.result (omega (arith, c.from_fn-row.ensures.items.long)))
