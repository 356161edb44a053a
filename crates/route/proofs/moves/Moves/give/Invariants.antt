-- The invariant: the frames that stand and those from wire `i` and its track `next` on are the ones asked for.
use Rattle.std.proofs.Common.{◌≡◌, ◌++◌, ◌≤◌, length, take}
use Rattle.route.specs.Moves.{frames}
use Rattle.route.proofs.moves.Moves.give.Given as goal

abbrev pub invariant-loop-i : goal.invariant-loop-i
invariant-loop-i l =
    (l.writer.out.ghost_name ≡ l.fn.writer.out.ghost_name)
    × (length l.writer.out.now ≡ length l.fn.writer.out.now)
    × (take l.fn.writer.at l.fn.writer.out.now ++ frames l.self.line l.self.asked l.wire l.track ≡ take l.writer.at l.writer.out.now ++ frames l.self.line l.self.asked l.i l.next)
    × (l.fn.writer.at ≤ length l.fn.writer.out.now → l.writer.at ≤ length l.fn.writer.out.now)
