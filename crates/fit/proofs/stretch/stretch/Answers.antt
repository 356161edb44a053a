use Rattle.std.proofs.Common.{to_z, of_z, arith, w32}
use Rattle.fit.proofs.Stretches.{within}
use Rattle.fit.proofs.stretch.stretch.Goals as goal

pub part-requires : goal.part-requires
part-requires c = let w = within c.args.a.now c.args.b.now c.args.s (to_z w32 (of_z w32 c.args.d)) _ c.stretch_place-place.ensures.answer in omega (arith, w)

pub part-requires-else-place-eq0 : goal.part-requires-else-place-eq0
part-requires-else-place-eq0 c = let w = within c.args.a.now c.args.b.now c.args.s (to_z w32 (of_z w32 c.args.d)) _ c.stretch_place-place.ensures.answer in omega (arith, w)
