-- The invariant: the frames that stand and those of the tracks from `t` on are the ones asked for; `from` is the column on which the wire enters track `t`.
use Rattle.std.proofs.Common.{◌≡◌, ◌++◌, ◌≤◌, length, take}
use Rattle.wiring.specs.Drawing.{drawn}
use Rattle.route.specs.Asked.{pairs, bottom, top}
use Rattle.route.specs.Moves.{wire_frames}
use Rattle.route.proofs.moves.Moves.give_wire.Given as goal

abbrev pub invariant-loop-t : goal.invariant-loop-t
invariant-loop-t l =
    let q = l.self.asked in
    (l.writer.out.ghost_name ≡ l.fn.writer.out.ghost_name)
    × (length l.writer.out.now ≡ length l.fn.writer.out.now)
    × (l.from ≡ drawn (pairs q) (bottom q) (top q) l.i l.t)
    × (take l.fn.writer.at l.fn.writer.out.now ++ wire_frames l.self.line q l.i l.track ≡ take l.writer.at l.writer.out.now ++ wire_frames l.self.line q l.i l.t)
    × (l.fn.writer.at ≤ length l.fn.writer.out.now → l.writer.at ≤ length l.fn.writer.out.now)
