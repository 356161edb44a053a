-- The tests of the code, `lt_z` and `le_z`, as orders and back; the larger and the smaller of two by their laws.
use mathlib.Core.Path.{◌≡◌, refl, sym, ◌∙◌, subst}
use mathlib.Core.Bool.{Bool, true, false, not, cond}
use mathlib.Core.Logic.{◌⊎◌, inl, inr, ⊎_elim}
use lib.Dec.{T}
use lib.IntN.{ℤ}
use lib.Signed.{◌≤ℤ◌, ◌<ℤ◌, lt_z, le_z}
use Rattle.std.specs.Int.{int_max, int_min}
use Rattle.whole.specs.Pick.{larger_of, smaller_of}
use Rattle.whole.proofs.Arith.{arithℤ, ≤_or_<}

pub untrue : {X : Type 0} → false ≡ true → X
untrue h = absurd (subst (λ (b : Bool). T (not b)) h tt)

of_T : (t : Bool) → T t → t ≡ true
of_T true u = refl
of_T false u = absurd u

pub lt_true : (x y : ℤ) → x <ℤ y → lt_z x y ≡ true
lt_true x y h = of_T (lt_z x y) h.lt

pub true_lt : (x y : ℤ) → lt_z x y ≡ true → x <ℤ y
true_lt x y h = record { lt = subst (λ (b : Bool). T b) (sym h) tt }

pub false_lt : (x y : ℤ) → lt_z x y ≡ false → y ≤ℤ x
false_lt x y h = ⊎_elim (λ k. k) (λ k. untrue (sym h ∙ lt_true x y k)) (≤_or_< y x)

pub lt_false : (x y : ℤ) → y ≤ℤ x → lt_z x y ≡ false
lt_false x y h = go (lt_z x y) refl
  where
    go : (t : Bool) → lt_z x y ≡ t → t ≡ false
    go true e = absurd (omega (arithℤ, true_lt x y e))
    go false e = refl

pub le_true : (x y : ℤ) → x ≤ℤ y → le_z x y ≡ true
le_true x y h = of_T (le_z x y) h.le

pub true_le : (x y : ℤ) → le_z x y ≡ true → x ≤ℤ y
true_le x y h = record { le = subst (λ (b : Bool). T b) (sym h) tt }

pub false_le : (x y : ℤ) → le_z x y ≡ false → y <ℤ x
false_le x y h = ⊎_elim (λ k. untrue (sym h ∙ le_true x y k)) (λ k. k) (≤_or_< x y)

pub le_false : (x y : ℤ) → y <ℤ x → le_z x y ≡ false
le_false x y h = go (le_z x y) refl
  where
    go : (t : Bool) → le_z x y ≡ t → t ≡ false
    go true e = absurd (omega (arithℤ, true_le x y e))
    go false e = refl

-- two tests of one order
pub lt_same : (x y u v : ℤ) → (x <ℤ y → u <ℤ v) → (u <ℤ v → x <ℤ y) → lt_z x y ≡ lt_z u v
lt_same x y u v f g = go (lt_z x y) refl
  where
    go : (t : Bool) → lt_z x y ≡ t → t ≡ lt_z u v
    go true e = sym (lt_true u v (f (true_lt x y e)))
    go false e = sym (lt_false u v (⊎_elim (λ h. h) (λ h. absurd (omega (arithℤ, g h, false_lt x y e))) (≤_or_< v u)))

-- what the larger and the smaller of two are
pub record Larger (x y z : ℤ) : Type 0 where
  pub first : x ≤ℤ z
  pub second : y ≤ℤ z
  pub one : (z ≡ x) ⊎ (z ≡ y)

pub record Smaller (x y z : ℤ) : Type 0 where
  pub first : z ≤ℤ x
  pub second : z ≤ℤ y
  pub one : (z ≡ x) ⊎ (z ≡ y)

pub larger_law : (x y : ℤ) → Larger x y (larger_of x y)
unfolding larger_of
larger_law x y = go (lt_z x y) refl
  where
    go : (t : Bool) → lt_z x y ≡ t → Larger x y (cond t y x)
    go true e = record { first = omega (arithℤ, true_lt x y e); second = omega arithℤ; one = inr refl }
    go false e = record { first = omega arithℤ; second = omega (arithℤ, false_lt x y e); one = inl refl }

pub smaller_law : (x y : ℤ) → Smaller x y (smaller_of x y)
unfolding smaller_of
smaller_law x y = go (lt_z y x) refl
  where
    go : (t : Bool) → lt_z y x ≡ t → Smaller x y (cond t y x)
    go true e = record { first = omega (arithℤ, true_lt y x e); second = omega arithℤ; one = inr refl }
    go false e = record { first = omega arithℤ; second = omega (arithℤ, false_lt y x e); one = inl refl }

pub larger_right : (x y : ℤ) → x ≤ℤ y → larger_of x y ≡ y
larger_right x y h = let l = larger_law x y in ⊎_elim (λ g. omega arithℤ) (λ g. g) l.one

pub larger_left : (x y : ℤ) → y ≤ℤ x → larger_of x y ≡ x
larger_left x y h = let l = larger_law x y in ⊎_elim (λ g. g) (λ g. omega arithℤ) l.one

pub smaller_left : (x y : ℤ) → x ≤ℤ y → smaller_of x y ≡ x
smaller_left x y h = let l = smaller_law x y in ⊎_elim (λ g. g) (λ g. omega arithℤ) l.one

pub smaller_right : (x y : ℤ) → y ≤ℤ x → smaller_of x y ≡ y
smaller_right x y h = let l = smaller_law x y in ⊎_elim (λ g. omega arithℤ) (λ g. g) l.one

-- and as std says them of `max` and `min`
pub larger_is : (x y : ℤ) → int_max x y ≡ larger_of x y
larger_is x y = go (lt_z y x) refl
  where
    go : (t : Bool) → lt_z y x ≡ t → cond t x y ≡ larger_of x y
    go true e = sym (larger_left x y (omega (arithℤ, true_lt y x e)))
    go false e = sym (larger_right x y (false_lt y x e))

pub smaller_is : (x y : ℤ) → int_min x y ≡ smaller_of x y
unfolding smaller_of
smaller_is x y = refl
