-- The line numbers seen, as bits of one number.
use mathlib.Core.Path.{◌≡◌, sym, ap, ◌∙◌}
use mathlib.Core.Bool.{true, false, cond}
use Prim.Native.Nat.{ℕ, suc, ◌+◌, ◌*◌, ◌-◌, ◌/◌, ◌%◌, ◌^◌, ◌<◌, max}
use native.Mathlib.Nat.{div-eq_of_lt, mul-mod_right, pow-succ', zero-div}
use native.Mathlib.Decide.{dec_lt}
use native.Mathlib.Omega.{arith}
use lib.Bits.{bit_or, or_shr, or_step}
use lib.Pow.{pow-lt, pow-add, shl-shr, shl_exact}
use lib.Dec.{eqb, leb}
use borrow.Author.Tests.{ne_eqb, leb-true, eqb-true, eqb-false}
use Rattle.frame.proofs.Scan.{either}
use Rattle.events.specs.Steps.{has_line, with_line}

-- what the code's shift gives
pub one_bit : (l : ℕ) → l < 64 → 1 * 2 ^ l % 2 ^ 64 ≡ 2 ^ l
one_bit l h = shl_exact {a = 1} 1 l 64 (omega arith) (omega arith) ∙ omega arith

-- bit k of 2 ^ l
same_bit : (l : ℕ) → 2 ^ l / 2 ^ l % 2 ≡ 1
same_bit l = let e : 1 * 2 ^ l ≡ 2 ^ l = omega arith in ap (λ (n : ℕ). n / 2 ^ l % 2) (sym e) ∙ ap (λ (n : ℕ). n % 2) (shl-shr 1 l)

lower_bit : (l k : ℕ) → k < l → 2 ^ l / 2 ^ k % 2 ≡ 0
lower_bit l k h =
    let j : ℕ = l - suc k in
    let e : suc j + k ≡ l = omega arith in
    ap (λ (n : ℕ). 2 ^ n / 2 ^ k % 2) (sym e) ∙ ap (λ (n : ℕ). n / 2 ^ k % 2) (pow-add 2 (suc j) k) ∙ ap (λ (n : ℕ). n % 2) (shl-shr (2 ^ suc j) k)
    ∙ ap (λ (n : ℕ). n % 2) (pow-succ' 2 j) ∙ mul-mod_right 2 (2 ^ j)

higher_bit : (l k : ℕ) → l < k → 2 ^ l / 2 ^ k % 2 ≡ 0
higher_bit l k h = ap (λ (n : ℕ). n % 2) (div-eq_of_lt (pow-lt h))

joined_bit : (n l k : ℕ) → bit_or n (2 ^ l) / 2 ^ k % 2 ≡ max (n / 2 ^ k % 2) (2 ^ l / 2 ^ k % 2)
joined_bit n l k =
    ap (λ (x : ℕ). x % 2) (or_shr n (2 ^ l) k ∙ or_step (n / 2 ^ k) (2 ^ l / 2 ^ k))
    ∙ digit (bit_or (n / 2 ^ k / 2) (2 ^ l / 2 ^ k / 2)) (n / 2 ^ k % 2) (2 ^ l / 2 ^ k % 2) (omega arith) (omega arith)
  where
    digit : (q x y : ℕ) → x < 2 → y < 2 → (q * 2 + max x y) % 2 ≡ max x y
    digit q x y h g = omega arith

-- one line number more
pub with_line_lem : (seen l k : ℕ) → k < 64 → has_line (with_line seen l) k ≡ cond (eqb k l) true (has_line seen k)
unfolding has_line with_line
with_line_lem seen l k h =
    either (leb 64 l)
    (λ e.
    let n : k ≡ l → ⊥ = λ q. omega (arith, leb-true 64 l e) in
    simp (e, ne_eqb _ _ n))
    (λ e.
    either (eqb k l)
    (λ f.
    let q : k ≡ l = eqb-true k l f in
    let z : bit_or seen (2 ^ l) / 2 ^ k % 2 ≡ 1 =
    ap (λ (n : ℕ). bit_or seen (2 ^ l) / 2 ^ n % 2) q ∙ joined_bit seen l l ∙ (let s = same_bit l in omega arith) in
    simp (e, f, z))
    (λ f.
    let n : k ≡ l → ⊥ = eqb-false k l f in
    let z : bit_or seen (2 ^ l) / 2 ^ k % 2 ≡ seen / 2 ^ k % 2 =
    joined_bit seen l k ∙ go (dec_lt k l) n in
    simp (e, f, z)))
  where
    go : Dec (k < l) → (k ≡ l → ⊥) → max (seen / 2 ^ k % 2) (2 ^ l / 2 ^ k % 2) ≡ seen / 2 ^ k % 2
    go (yes p) n = let s = lower_bit l k p in omega arith
    go (no p) n = let s = higher_bit l k (omega arith) in omega arith

-- no line number was seen
pub never : (l : ℕ) → has_line 0 l ≡ false
unfolding has_line
never l = let e : 0 / 2 ^ l % 2 ≡ 0 = ap (λ (n : ℕ). n % 2) (zero-div (2 ^ l)) in rw e
