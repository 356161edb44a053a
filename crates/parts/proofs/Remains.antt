-- WHAT REMAINS OF ACCEPTED ROWS is accepted, whatever pairs stay; and so are rows without the pair that was added last.
use mathlib.Core.Path.{◌≡◌, sym, ◌∙◌}
use mathlib.Core.List.{List, [], ◌∷◌}
use Prim.Native.Nat.{ℕ, zero, suc, ◌+◌, ◌-◌, ◌≤◌, ◌<◌}
use native.Mathlib.Decide.{dec_lt}
use native.Mathlib.Omega.{arith}
use lib.ListN.{length, length-append, get_or-append}
use lib.IntN.{ℤ, pos}
use Rattle.wiring.specs.Wiring.{pad}
use Rattle.wiring.specs.Part.{pair_of, Choice, part_of, longer}
use Rattle.wiring.proofs.Rule.{rising_less}
use Rattle.wiring.proofs.Parts.{part_length, part_pad}
use Rattle.jumper.specs.Rows.{AcceptedRow, AcceptedRows}
use Rattle.jumper.specs.Asked.{AcceptedShift, Asked}
use Rattle.parts.specs.Stays.{kept, row_kept, AskedPart}
use Rattle.parts.proofs.Keeping.{kept_choice}

-- there are no more pairs in a choice than pairs
least_number : {n : ℕ} {ks : List ℕ} → Choice n ks → (i : ℕ) → i < length ks → i ≤ pair_of ks i
least_number c zero h = omega arith
least_number {n} {ks} c (suc i) h =
    let e : i + 1 ≡ suc i = omega arith in
    let l : pair_of ks i < pair_of ks (suc i) = rw e at (c.rises i (omega arith)) in
    omega (arith, least_number c i (omega arith))

choice_few : {n : ℕ} {ks : List ℕ} → Choice n ks → length ks ≤ n
choice_few {n} {ks} c = go (dec_lt 0 (length ks))
  where
    go : Dec (0 < length ks) → length ks ≤ n
    go (yes h) = let l : length ks - 1 < length ks = omega arith in omega (arith, least_number c (length ks - 1) l, c.inside (length ks - 1) l)
    go (no h) = omega arith

part_row : {a : List ℤ} {ks : List ℕ} → AcceptedRow a → Choice (length a) ks → AcceptedRow (part_of ks a)
part_row {a} {ks} r c =
    record {
      columns = λ i h. let l : i < length ks = omega (arith, part_length ks a) in rw (part_pad ks a i l) (r.columns (pair_of ks i) (c.inside i l));
      rising = λ i h.
          let l : i + 1 < length ks = omega (arith, part_length ks a) in
          rw (part_pad ks a i (omega arith), part_pad ks a (i + 1) l)
          (rising_less r.rising (pair_of ks i) (pair_of ks (i + 1)) (c.rises i l) (c.inside (i + 1) l));
    }

-- WHATEVER PAIRS STAY, so long as one does
pub part_rows : {a b : List ℤ} {ks : List ℕ} → AcceptedRows a b → Choice (length a) ks → 1 ≤ length ks → AcceptedRows (part_of ks a) (part_of ks b)
part_rows {a} {b} {ks} r c some =
    record {
      equal = part_length ks a ∙ sym (part_length ks b);
      some = omega (arith, part_length ks a);
      few = omega (arith, part_length ks a, choice_few c, r.few);
      bottom = part_row r.bottom c;
      top = part_row r.top (rw r.equal at c);
    }

pub part_choice : {a b : List ℤ} {stays : List ℕ} {s : ℕ} {d : ℤ} → AskedPart a b stays s d → Choice (length a) (kept stays)
part_choice {stays = stays} k = rw k.bytes (kept_choice stays)

pub part_asked : {a b : List ℤ} {stays : List ℕ} {s : ℕ} {d : ℤ} → AskedPart a b stays s d → Asked (row_kept stays a) (row_kept stays b) s d
part_asked k = record { rows = part_rows k.whole.rows (part_choice k) k.some; tracks = k.whole.tracks; offset = k.whole.offset }

pub part_shift : {a b : List ℤ} {ks : List ℕ} {d : ℤ} → Choice (length a) ks → 1 ≤ length ks → AcceptedShift a b d
    → AcceptedShift (part_of ks a) (part_of ks b) d
part_shift c some k = record { rows = part_rows k.rows c some; offset = k.offset }

-- without the pad that was added last
shorter_row : (a : List ℤ) (x : ℤ) → AcceptedRow (longer a x) → AcceptedRow a
shorter_row a x r =
    record {
      columns = λ i h. rw (← same i h) (r.columns i (omega (arith, all)));
      rising = λ i h. rw (← same i (omega arith), ← same (i + 1) h) (r.rising i (omega (arith, all)));
    }
  where
    all : length (longer a x) ≡ length a + 1
    all = length-append a (x ∷ [])

    same : (i : ℕ) → i < length a → pad (longer a x) i ≡ pad a i
    same i h = get_or-append a (x ∷ []) (pos 0) i h

pub shorter_rows : (a b : List ℤ) (x y : ℤ) → AcceptedRows (longer a x) (longer b y) → 1 ≤ length a → AcceptedRows a b
shorter_rows a b x y r some =
    let all = length-append a (x ∷ []) in
    record {
      equal = omega (arith, all, length-append b (y ∷ []), r.equal);
      some = some;
      few = omega (arith, all, r.few);
      bottom = shorter_row a x r.bottom;
      top = shorter_row b y r.top;
    }
