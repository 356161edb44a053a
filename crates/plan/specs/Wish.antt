-- A wish (01, "Form"): "A wish is separation or "least", and offset or "best"." A record holds it as two numbers; the marks are the sheet's, FFFF
-- and 80000000. Any two numbers mean a wish, so a damaged record gets an answer too.
use Rattle.std.specs.Prelude.{cond, ℕ, eqb, ℤ, negsuc}
use Rattle.std.specs.Int.Signed.{le_z}
use Rattle.plan.specs.declared.wish.Wish.{Wish}
use Rattle.plan.specs.declared.wish.Wish.TheVariants.{Fit, Least, Range, Best}

-- FFFF
abbrev pub least_mark : ℕ
least_mark = 65535

-- 80000000 as two's complement: the least number of 4 bytes, so "at most the mark" is the mark
abbrev pub best_mark : ℤ
best_mark = negsuc 2147483647

abbrev pub wish_of : ℕ → ℤ → Wish
wish_of s d =
    cond (eqb s least_mark)
    (cond (le_z d best_mark) Best (Least d))
    (cond (le_z d best_mark) (Range s) (Fit s d))
