use Rattle.std.proofs.Common.{refl, rules, w32, get_or}
use mir.Val.{SFits}
use lib.IntN.{pos}
use Rattle.std.proofs.lemmas.Int.{to_z-of_z}
use Rattle.parts.proofs.Copies.{filled_none, filled_room, filled_more}
use Rattle.parts.proofs.keep.keep_pads.Goals as goal

pub loop-k-init : goal.loop-k-init
loop-k-init c = filled_none c.args.stays.now c.args.row.now c.args.out.now

pub bounds-out-at : goal.bounds-out-at
bounds-out-at c = filled_room c.loop-k-test.true c.requires.1 c.loop-k.invariant

pub loop-k-preserved : goal.loop-k-preserved
loop-k-preserved c =
    let f : SFits w32 (get_or c.args.row.now c.loop-k.k (pos 0)) = search rules in
    rw c.from-at.ensures (filled_more c.loop-k-test.true c.requires.1 c.loop-k.invariant _ _ (to_z-of_z w32 _ f) refl)
