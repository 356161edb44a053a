-- What a range of offsets holds: empty means that no whole number is in it, and a meet holds what both hold.
use mathlib.Core.Path.{◌≡◌}
use mathlib.Core.Bool.{true}
use mathlib.Core.Logic.{◌↔◌, ⊎_elim}
use lib.IntN.{ℤ}
use Rattle.whole.proofs.Arith.{arithℤ, ≤_or_<}
use Rattle.whole.proofs.Order.{true_lt, lt_true, larger_law, smaller_law}
use Rattle.jumper.specs.Range.{Within, is_empty, meet_of}
use Rattle.jumper.specs.declared.range.OffsetRange.{OffsetRange}

pub empty_exactly : (r : OffsetRange) → (is_empty r ≡ true) ↔ ((d : ℤ) → Within d r → ⊥)
empty_exactly r = (
  (λ e d w. omega (arithℤ, true_lt r.high r.low e, w.low, w.high)),
  (λ none. ⊎_elim (λ h. absurd (none r.low (record { low = omega arithℤ; high = h }))) (λ h. lt_true r.high r.low h) (≤_or_< r.low r.high)),
)

pub meet_exactly : (r s : OffsetRange) (d : ℤ) → Within d (meet_of r s) ↔ (Within d r × Within d s)
meet_exactly r s d =
    let l = larger_law r.low s.low in
    let h = smaller_law r.high s.high in (
      (λ w. (record { low = omega (arithℤ, w.low, l.first); high = omega (arithℤ, w.high, h.first) }, record { low = omega (arithℤ, w.low, l.second); high = omega (arithℤ, w.high, h.second) })),
      (λ w. record { low = ⊎_elim (λ e. omega (arithℤ, w.0.low, e)) (λ e. omega (arithℤ, w.1.low, e)) l.one; high = ⊎_elim (λ e. omega (arithℤ, w.0.high, e)) (λ e. omega (arithℤ, w.1.high, e)) h.one }),
    )
