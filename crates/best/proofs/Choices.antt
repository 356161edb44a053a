-- A level's choice as the code makes it: 2h-1 and 2h are tried in turn, and 2h+1 is what is left.
use Rattle.std.specs.Prelude.{Some}
use mathlib.Core.Path.{◌≡◌, refl, ap, ◌∙◌}
use mathlib.Core.Bool.{true, false}
use Prim.Native.Nat.{ℕ, ◌+◌, ◌-◌, ◌*◌, ◌≤◌, ◌<◌}
use native.Mathlib.Decide.{ℕ_discrete}
use native.Mathlib.Omega.{arith}
use lib.IntN.{ℤ}
use Rattle.jumper.specs.Range.{is_empty}
use Rattle.jumper.specs.Span.{range_of}
use Rattle.jumper.specs.declared.range.OffsetRange.{OffsetRange}
use Rattle.best.specs.Halving.{empty_at, read_at, taken, from_even, from_half}
use Rattle.best.specs.Work.{IsLevel}
use Rattle.best.proofs.Levels.{from_odd, from_past, from_none, from_open, from_empty}

-- before s is tried, c' differences having been read, of them c for the even half: what the rule makes of those trials that were made
pub record Tried (m : ℕ) (x y : ℕ → ℤ) (h c s c' : ℕ) : Type 0 where
  pub from : 2 * h ≤ s + 1
  pub odd : s < 2 * h → c' ≡ c
  pub even : s ≡ 2 * h → from_half m x y h c ≡ from_even m x y h c'
  pub past : s ≡ 2 * h + 1 → from_half m x y h c ≡ taken (2 * h + 1) c'

pub none_tried : (m : ℕ) (x y : ℕ → ℤ) (h c : ℕ) → Tried m x y h c (2 * h - 1) c
none_tried m x y h c =
    record {
      from = omega arith;
      odd = λ g. refl;
      even = λ g. from_none m x y h c (omega arith);
      past = λ g. absurd (omega arith);
    }

-- s is tried: its range is g, and then c'' are read
module _ {m : ℕ} {x y : ℕ → ℤ} {h c s c' c'' : ℕ} {g : OffsetRange} (t : Tried m x y h c s c') (q : g ≡ range_of m x y s) (k : c'' ≡ c' + read_at m s) where
  pub one_tried : is_empty g ≡ true → Tried m x y h c (s + 1) c''
  one_tried e =
      let e' = rw q at e in
      rw k
      (record {
        from = omega (arith, t.from);
        odd = λ l. absurd (omega (arith, t.from));
        even = λ l.
            let p : s ≡ 2 * h - 1 = omega arith in
            from_past m x y h c (omega arith) (rw p at e') ∙ ap (from_even m x y h) (rw (p, t.odd (omega arith)));
        past = λ l.
            let p : s ≡ 2 * h = omega arith in
            t.even p ∙ from_empty m x y h c' (rw p at e') ∙ rw p;
      })

  -- the first that isn't empty is taken
  pub one_open : is_empty g ≡ false → s ≤ 2 * h → IsLevel m x y (from_half m x y h c) (record { best = s; count = c''; range = Some g })
  one_open e l = rw (k, go (ℕ_discrete s (2 * h))) (record { best = refl; count = refl; kept = q })
    where
      e' : empty_at m x y s ≡ false
      e' = rw q at e

      go : Dec (s ≡ 2 * h) → from_half m x y h c ≡ taken s (c' + read_at m s)
      go (yes p) = t.even p ∙ from_open m x y h c' (rw p at e') ∙ rw p
      go (no n) =
          let p : s ≡ 2 * h - 1 = omega (arith, t.from) in
          from_odd m x y h c (omega (arith, t.from)) (rw p at e') ∙ rw (p, t.odd (omega (arith, t.from)))
