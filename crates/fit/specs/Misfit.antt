-- The witness of a misfit and the answer of `fit` (01, "Rules of fit", refusals 1 to 7 and 10; 02, #106: "the witness (pads i and i+t-1 for t >= 1 ..)").
use Rattle.std.specs.Prelude.{Option, Some, None, Ok, Err, Bool, cond, ◌≡◌, List, ◌⊎◌, ◌↔◌, ℕ, zero, suc, ◌+◌, ◌-◌, ◌<◌, length, ℤ}
use Rattle.std.specs.Int.Signed.{lt_z}
use Rattle.wiring.specs.Wiring.{pad, HasWiring}
use Rattle.wiring.specs.Fit.{lean_of, low_end, high_end, TooRight, TooLeft}
use Rattle.wiring.specs.Tracks.{rule_at}
use Rattle.jumper.specs.Rows.{AcceptedRows, Checked, checked_numbers, or_else}
use Rattle.jumper.specs.Asked.{check_asked, Asked}
use Rattle.jumper.specs.declared.refusal.Side.{Side}
use Rattle.jumper.specs.declared.refusal.Side.TheVariants.{Right, Left}
use Rattle.jumper.specs.declared.refusal.Refusal.TheVariants.{NoFit}
use Rattle.fit.specs.declared.misfit.Misfit.{Misfit}

-- "Side RIGHT: d is above x_(i+s) - y_i .. Side LEFT: d is below x_i - y_(i+s)."
abbrev pub too_right : (x y : ℕ → ℤ) (s : ℕ) (d : ℤ) (i : ℕ) → Bool
too_right x y s d i = lt_z (high_end x y s i) d

abbrev pub too_left : (x y : ℕ → ℤ) (s : ℕ) (d : ℤ) (i : ℕ) → Bool
too_left x y s d i = lt_z d (low_end x y s i)

-- the side on which pair i breaks the rule
abbrev pub side_broken : (x y : ℕ → ℤ) (s : ℕ) (d : ℤ) (i : ℕ) → Option Side
side_broken x y s d i = cond (too_right x y s d i) (Some Right) (cond (too_left x y s d i) (Some Left) None)

-- the misfit of pair i on side k
abbrev pub misfit_at : ℕ → Side → Misfit
misfit_at i k = record { pair = i; side = k }

-- "the least i that breaks the rule at s", among the k pairs from i on
unfoldable pub misfit_from : (x y : ℕ → ℤ) (s : ℕ) (d : ℤ) (i k : ℕ) → Option Misfit
misfit_from x y s d i zero = None
misfit_from x y s d i (suc k) = cond (too_right x y s d i) (Some (misfit_at i Right)) (cond (too_left x y s d i) (Some (misfit_at i Left)) (misfit_from x y s d (suc i) k))

abbrev pub misfit_of : (a b : List ℤ) (s : ℕ) (d : ℤ) → Option Misfit
misfit_of a b s d = misfit_from (lean_of a) (lean_of b) s d 0 (length a - s)

-- NOFIT, "no legal wiring at (s, d)": a misfit as a refusal
abbrev pub no_fit : Option Misfit → Checked
no_fit None = Ok tt
no_fit (Some m) = Err (NoFit m.pair m.side)

abbrev pub fit_of : (a b : List ℤ) (s : ℕ) (d : ℤ) → Checked
fit_of a b s d = or_else (check_asked a b s d) (no_fit (misfit_of a b (rule_at s) d))

-- Bottom pad i and top pad j of rows a and b prevent a wiring at (s, d): accepted rows that have these two pads at the same
-- columns have no legal wiring there, however many other pads they have and wherever those stand
abbrev pub PadsPrevent : (a b : List ℤ) (s : ℕ) (d : ℤ) (i j : ℕ) → Type 0
PadsPrevent a b s d i j = (a' b' : List ℤ) → AcceptedRows a' b' → (i < length a') × (pad a' i ≡ pad a i) → (j < length b') × (pad b' j ≡ pad b j) → HasWiring a' b' s d → ⊥

-- the witness, by 01's numbers: pair i breaks the rule that serves s on its side (1 RIGHT, 2 LEFT), and no pair before it breaks it
pub record Witness (a b : List ℤ) (s : ℕ) (d : ℤ) (i side : ℕ) : Type 0 where
  pub breaks : ((side ≡ 1) × TooRight (length a) (rule_at s) (lean_of a) (lean_of b) d i) ⊎ ((side ≡ 2) × TooLeft (length a) (rule_at s) (lean_of a) (lean_of b) d i)
  pub least : (j : ℕ) → j < i → (TooRight (length a) (rule_at s) (lean_of a) (lean_of b) d j → ⊥) × (TooLeft (length a) (rule_at s) (lean_of a) (lean_of b) d j → ⊥)
  -- "top pad i is too far right for bottom pad i+s", s being the rule's number, and its mirror: these are the two pads that prevent a wiring
  pub pads : ((side ≡ 1) × PadsPrevent a b s d (i + rule_at s) i) ⊎ ((side ≡ 2) × PadsPrevent a b s d i (i + rule_at s))

-- What `fit` promises. Demand 2: it says "fits" exactly when all is accepted and a legal wiring exists, and NOFIT exactly when all
-- is accepted and none does; then it names the pads that prevent it.
pub record FitAnswer (a b : List ℤ) (s : ℕ) (d : ℤ) (r : Checked) : Type 0 where
  pub answer : r ≡ fit_of a b s d
  pub fits : ((checked_numbers r).refusal ≡ 0) ↔ (Asked a b s d × HasWiring a b s d)
  pub prevents : ((checked_numbers r).refusal ≡ 10) ↔ (Asked a b s d × (HasWiring a b s d → ⊥))
  pub witness : (checked_numbers r).refusal ≡ 10 → Witness a b s d (checked_numbers r).pair (checked_numbers r).side
