-- The marks of a wish stay outside what is accepted (02, #105: "the sheet's marks FFFF and 80000000 stay outside"): an accepted separation is never read as
-- "least", an accepted offset never as "best", whatever stands beside it.
use mathlib.Core.Path.{◌≡◌}
use Prim.Native.Nat.{ℕ, ◌≤◌}
use native.Mathlib.Omega.{arith}
use borrow.Author.Tests.{ne_eqb}
use lib.IntN.{ℤ}
use Rattle.whole.proofs.Arith.{arithℤ}
use Rattle.whole.proofs.Order.{le_false}
use Rattle.jumper.specs.Limits.{max_tracks, AcceptedOffset}
use Rattle.plan.specs.Wish.{least_mark, best_mark, wish_of}
use Rattle.plan.specs.declared.wish.Wish.TheVariants.{Fit, Least, Range}

pub marks_outside : (s : ℕ) (d : ℤ) → s ≤ max_tracks → AcceptedOffset d
    → (wish_of s d ≡ Fit s d) × (wish_of least_mark d ≡ Least d) × (wish_of s best_mark ≡ Range s)
marks_outside s d h o =
    let numbered = ne_eqb s least_mark (λ e. omega arith) in
    let placed = le_false d best_mark (omega (arithℤ, o.low)) in
    (rw (numbered, placed), rw placed, rw numbered)
