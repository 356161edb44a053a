use Rattle.std.proofs.Common.{◌≡◌, ℕ, List, ◌++◌, ◌-◌, ◌≤◌, length, take, drop}
use Rattle.sheet.specs.Owes.{owes}
use Rattle.sheet.proofs.feed.feed.Given as goal

abbrev pub invariant-loop-used : goal.invariant-loop-used
invariant-loop-used l = record {
  within : l.used ≤ length l.piece;
  room : length l.out ≡ length l.fn.out;
  owed : (rest : List ℕ) → take l.at l.fn.out ++ owes l.fn.s l.fn.line l.fn.a l.fn.b (l.piece ++ rest) ≡ take l.n l.out ++ owes l.s l.line l.a l.b (drop l.used l.piece ++ rest);
  fits : l.at ≤ length l.fn.out → l.n ≤ length l.fn.out;
}

abbrev pub decreases-loop-used : goal.decreases-loop-used
decreases-loop-used l = length l.piece - l.used
