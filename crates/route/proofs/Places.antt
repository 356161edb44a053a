-- Where the columns of a route stand: the laws of i * (s + 1) + t, and how a buffer is filled, column after column and wire after wire.
-- Sections: the columns of one wire; all wires; the table read; a buffer as the loops leave it.
use mathlib.Core.Path.{◌≡◌, refl, sym, ap, ◌∙◌}
use mathlib.Core.List.{List, [], ◌∷◌, ◌++◌, append_assoc, append-nil}
use mathlib.Core.Logic.{⊎_elim}
use Prim.Native.Nat.{ℕ, zero, suc, ◌+◌, ◌-◌, ◌*◌, ◌≤◌, ◌<◌}
use native.Mathlib.Nat.{suc-mul, mul-le-mul_right, eq-or-lt_of_le}
use native.Mathlib.Numerals.{add-one}
use native.Mathlib.Omega.{arith}
use Rattle.std.proofs.lemmas.List.{take_more, take-append-drop}
use lib.ListN.{length, get_or, take, drop, length-append, length-drop, drop_of_length-le}
use lib.Seq.{drop-drop, take_all, take_at, drop_at, get_or-append-add}
use lib.IntN.{ℤ, pos}
use Rattle.route.specs.Table.{column_in, columns, wires}

pub columns_length : (e : ℕ → ℤ) (k : ℕ) → length (columns e k) ≡ k
unfolding columns
columns_length e zero = refl
columns_length e (suc k) = omega (arith, length-append (columns e k) (e k ∷ []), columns_length e k)

pub columns_same : (e f : ℕ → ℤ) (k : ℕ) → ((t : ℕ) → t < k → e t ≡ f t) → columns e k ≡ columns f k
unfolding columns
columns_same e f zero h = refl
columns_same e f (suc k) h = rw (columns_same e f k (λ t l. h t (omega arith)), h k (omega arith))

-- what stands at track t, whatever follows the columns
pub columns_at : (e : ℕ → ℤ) (k t : ℕ) (rest : List ℤ) → t < k → get_or (columns e k ++ rest) t (pos 0) ≡ e t
unfolding columns
columns_at e zero t rest h = absurd (omega arith)
columns_at e (suc k) t rest h = rw (append_assoc (columns e k) (e k ∷ []) rest) (⊎_elim last (columns_at e k t (e k ∷ rest)) (eq-or-lt_of_le (omega arith)))
  where
    last : t ≡ k → get_or (columns e k ++ (e k ∷ rest)) t (pos 0) ≡ e t
    last g =
        let i : t ≡ length (columns e k) + 0 = omega (arith, columns_length e k) in
        ap (λ (j : ℕ). get_or (columns e k ++ (e k ∷ rest)) j (pos 0)) i ∙ get_or-append-add (columns e k) (e k ∷ rest) 0 (pos 0) ∙ ap e (sym g)

-- the places of a buffer that hold k columns, one by one
pub columns_are : (e : ℕ → ℤ) (k : ℕ) (out : List ℤ) → k ≤ length out → ((t : ℕ) → t < k → get_or out t (pos 0) ≡ e t) → take k out ≡ columns e k
unfolding columns
columns_are e zero out h f = refl
columns_are e (suc k) out h f =
    rw (← add-one k, take_more out k (pos 0) (omega arith), f k (omega arith), columns_are e k out (omega arith) (λ t l. f t (omega arith)))

-- and a buffer of which they are the first
pub columns_first : (e : ℕ → ℤ) (k : ℕ) (out₀ out : List ℤ) → k ≤ length out → ((t : ℕ) → t < k → get_or out t (pos 0) ≡ e t) → drop k out ≡ drop k out₀
    → out ≡ columns e k ++ drop k out₀
columns_first e k out₀ out h f g = rw (← g, ← columns_are e k out h f) (sym (take-append-drop k out))

pub wires_length : (e : ℕ → ℕ → ℤ) (s k : ℕ) → length (wires e s k) ≡ k * (s + 1)
unfolding wires
wires_length e s zero = omega arith
wires_length e s (suc k) = omega (arith, length-append (wires e s k) (columns (e k) (s + 1)), wires_length e s k, columns_length (e k) (s + 1), suc-mul k (s + 1))

-- THE LAW OF THE INDEX: a wire's place for a track is among the places of the wires
pub place_in : (n s i t : ℕ) → i < n → t ≤ s → i * (s + 1) + t < n * (s + 1)
place_in n s i t l m = let p : suc i * (s + 1) ≤ n * (s + 1) = mul-le-mul_right (s + 1) l in omega (arith, suc-mul i (s + 1))

-- THE TABLE READ: wire i's column on entering track t, whatever follows the wires
pub wires_at : (e : ℕ → ℕ → ℤ) (s n i t : ℕ) (rest : List ℤ) → i < n → t ≤ s → column_in (wires e s n ++ rest) s i t ≡ e i t
unfolding wires column_in
wires_at e s zero i t rest h l = absurd (omega arith)
wires_at e s (suc n) i t rest h l =
    rw (append_assoc (wires e s n) (columns (e n) (s + 1)) rest)
    (⊎_elim last (λ g. wires_at e s n i t (columns (e n) (s + 1) ++ rest) g l) (eq-or-lt_of_le (omega arith)))
  where
    last : i ≡ n → get_or (wires e s n ++ (columns (e n) (s + 1) ++ rest)) (i * (s + 1) + t) (pos 0) ≡ e i t
    last g =
        let p : i * (s + 1) + t ≡ length (wires e s n) + t = rw g (omega (arith, wires_length e s n)) in
        rw p
        (get_or-append-add (wires e s n) (columns (e n) (s + 1) ++ rest) t (pos 0)
        ∙ columns_at (e n) (s + 1) t rest (omega arith)
        ∙ ap (λ (j : ℕ). e j t) (sym g))

-- the part of the table that is wire i's
pub wires_part : (e : ℕ → ℕ → ℤ) (s n i : ℕ) (rest : List ℤ) → i < n → take (s + 1) (drop (i * (s + 1)) (wires e s n ++ rest)) ≡ columns (e i) (s + 1)
unfolding wires
wires_part e s zero i rest h = absurd (omega arith)
wires_part e s (suc n) i rest h =
    rw (append_assoc (wires e s n) (columns (e n) (s + 1)) rest)
    (⊎_elim last (wires_part e s n i (columns (e n) (s + 1) ++ rest)) (eq-or-lt_of_le (omega arith)))
  where
    last : i ≡ n → take (s + 1) (drop (i * (s + 1)) (wires e s n ++ (columns (e n) (s + 1) ++ rest))) ≡ columns (e i) (s + 1)
    last g =
        rw (g, drop_at (wires e s n) (columns (e n) (s + 1) ++ rest) (n * (s + 1)) (wires_length e s n))
        (take_at (columns (e n) (s + 1)) rest (s + 1) (columns_length (e n) (s + 1)))

-- A BUFFER AS THE LOOPS LEAVE IT. The first t columns stand in what was out₀
-- a buffer after its part from `at` on was lent, and came back as ys
abbrev pub put : ℕ → List ℤ → List ℤ → List ℤ
put at out ys = take at out ++ (ys ++ drop (length out - at) (drop at out))

-- p stands in what was out₀, and the part after it is lent, to be begun with q
module _ (p : List ℤ) (at : ℕ) (out₀ out : List ℤ) (here : length p ≡ at) (room : at ≤ length out₀) (was : out ≡ p ++ drop at out₀) where
  pub put_same : length out ≡ length out₀
  put_same = rw was (length-append p (drop at out₀) ∙ omega (arith, length-drop at out₀))

  lent : take (length out - at) (drop at out) ≡ drop at out₀
  lent = rw (put_same, was, drop_at p (drop at out₀) at here) (take_all (length out₀ - at) (drop at out₀) (omega (arith, length-drop at out₀)))

  pub put_next : (q : List ℤ) (k : ℕ) (ys : List ℤ) → ys ≡ q ++ drop k (take (length out - at) (drop at out)) → put at out ys ≡ (p ++ q) ++ drop (at + k) out₀
  put_next q k ys e =
      let f : take at out ≡ p = rw was (take_at p (drop at out₀) at here) in
      let g : drop at out ≡ drop at out₀ = rw was (drop_at p (drop at out₀) at here) in
      let past : length (drop at out₀) ≤ length out₀ - at = omega (arith, length-drop at out₀) in
      let z : drop (length out - at) (drop at out) ≡ [] = rw (g, put_same) (drop_of_length-le (drop at out₀) {i = length out₀ - at} past) in
      rw (z, e, lent, f, append-nil, drop-drop k at out₀, append_assoc)

-- before the first wire all is as it was
pub none_drawn : (e : ℕ → ℕ → ℤ) (s : ℕ) (out : List ℤ) → out ≡ wires e s 0 ++ drop (0 * (s + 1)) out
unfolding wires
none_drawn e s out = let z : 0 * (s + 1) ≡ 0 = omega arith in rw z

-- wire i is drawn where the first i wires stand
module _ (e : ℕ → ℕ → ℤ) (s n : ℕ) (out₀ out : List ℤ) (i at : ℕ) (here : at ≡ i * (s + 1)) (lt : i < n) (room : n * (s + 1) ≤ length out₀)
    (was : out ≡ wires e s i ++ drop (i * (s + 1)) out₀) where
  pub place_room : at + (s + 1) ≤ length out₀
  place_room = omega (arith, place_in n s i s lt (omega arith))

  pub wire_next : (ys : List ℤ) → ys ≡ columns (e i) (s + 1) ++ drop (s + 1) (take (length out - at) (drop at out))
      → put at out ys ≡ wires e s (i + 1) ++ drop ((i + 1) * (s + 1)) out₀
  unfolding wires
  wire_next ys g =
      let f = put_next (wires e s i) at out₀ out (wires_length e s i ∙ sym here) (omega (arith, place_room)) (rw here was) (columns (e i) (s + 1)) (s + 1) ys g in
      let w : at + (s + 1) ≡ (i + 1) * (s + 1) = rw (add-one i) (omega (arith, here, suc-mul i (s + 1))) in
      f ∙ rw (w, add-one i)
