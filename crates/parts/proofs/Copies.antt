-- What the two loops have written after the first bytes: the pads that stay, and the wires that stay.
use mathlib.Core.Path.{◌≡◌, refl, sym, ap, ◌∙◌}
use mathlib.Core.Bool.{not}
use mathlib.Core.List.{List, [], ◌∷◌, ◌++◌, append-nil, append_assoc, map-append}
use mathlib.Core.Logic.{inl, inr, ◌≢◌}
use Prim.Native.Nat.{ℕ, ◌+◌, ◌-◌, ◌*◌, ◌≤◌, ◌<◌}
use native.Mathlib.Nat.{suc-mul}
use native.Mathlib.Numerals.{add-one}
use native.Mathlib.Omega.{arith}
use mir.Val.{bool_byte}
use borrow.Author.Tests.{eq-eqb, ne_eqb}
use borrow.Rule.Slice.PartMut.{put_mid}
use lib.Dec.{eqb}
use lib.ListN.{length, get_or, set, take, drop, length-append, length-set}
use lib.Seq.{take-set-le, take-suc-set, drop-drop, drop_at, take_at, ext_get_or}
use lib.IntN.{ℤ, pos}
use Rattle.wiring.specs.Wiring.{pad}
use Rattle.wiring.specs.Part.{pair_of, part_of}
use Rattle.route.specs.Table.{column_in, columns, wires}
use Rattle.route.proofs.Places.{columns_length, columns_same, columns_at, wires_length, place_in}
use Rattle.parts.specs.Stays.{kept_among, kept, wire_kept}
use Rattle.parts.specs.Routed.{places_kept, part_written}
use Rattle.parts.proofs.Keeping.{kept_none, as_many, one_more, Goes, goes, kept_few, kept_room, kept_pair}

-- THE PADS THAT STAY of the first k stand in the first `at` places; beyond them may stand anything
pub record Filled (stays : List ℕ) (row out₀ : List ℤ) (at k : ℕ) (out : List ℤ) : Type 0 where
  pub number : at ≡ length (kept_among stays k)
  pub same : length out ≡ length out₀
  pub pads : take at out ≡ part_of (kept_among stays k) row

pub filled_none : (stays : List ℕ) (row out₀ : List ℤ) → Filled stays row out₀ 0 0 out₀
unfolding kept_among
filled_none stays row out₀ = record { number = refl; same = refl; pads = refl }

module _ {stays : List ℕ} {row out₀ : List ℤ} {at k : ℕ} {out : List ℤ}
    (lt : k < length stays) (room : length stays ≤ length out₀) (f : Filled stays row out₀ at k out) where
  pub filled_room : at < length out
  filled_room = omega (arith, f.number, f.same, kept_few stays k)

  stored : (x : ℤ) → length (set out at x) ≡ length out₀
  stored x = length-set out at x ∙ f.same

  -- a pad was stored there: one that is dropped doesn't move the place on, and one that stays moves it on by one
  pub filled_more : (x : ℤ) (b : ℕ) → x ≡ pad row k → b ≡ get_or stays k 0 → Filled stays row out₀ (at + bool_byte (not (eqb b 0))) (k + 1) (set out at x)
  filled_more x b here e = rw e (go (goes stays k))
    where
      go : Goes stays k → Filled stays row out₀ (at + bool_byte (not (eqb (get_or stays k 0) 0))) (k + 1) (set out at x)
      go (inl g) =
          let n : at + 0 ≡ at = omega arith in
          rw (eq-eqb (get_or stays k 0) 0 g.0, n, add-one k)
          (record { number = rw g.1 f.number; same = stored x; pads = rw g.1 (take-set-le at out at x (omega arith) ∙ f.pads) })
      go (inr g) =
          rw (ne_eqb (get_or stays k 0) 0 g.0, add-one k)
          (record {
            number = rw g.1 (omega (arith, f.number, length-append (kept_among stays k) (k ∷ [])));
            same = stored x;
            pads =
                rw (g.1, add-one at)
                (take-suc-set out at x filled_room ∙ rw (f.pads, here) (sym (map-append (pad row) (kept_among stays k) (k ∷ []))));
          })

-- so many columns, by their places
pub columns_are : (f : ℕ → ℤ) (xs : List ℤ) (k : ℕ) → length xs ≡ k → ((t : ℕ) → t < k → get_or xs t (pos 0) ≡ f t) → xs ≡ columns f k
columns_are f xs k l h =
    ext_get_or (pos 0) xs (columns f k) (l ∙ sym (columns_length f k)) (λ t g.
    h t (omega arith)
    ∙ sym (columns_at f k t [] (omega arith))
    ∙ ap (λ (ys : List ℤ). get_or ys t (pos 0)) (append-nil (columns f k)))

-- THE WIRES THAT STAY of the first i stand in what was out₀, and `at` is the place after them
pub record Held (stays : List ℕ) (s : ℕ) (table out₀ : List ℤ) (at i : ℕ) (out : List ℤ) : Type 0 where
  pub place : at ≡ length (kept_among stays i) * (s + 1)
  pub written : out ≡ wires (wire_kept stays s table) s (length (kept_among stays i)) ++ drop at out₀

pub held_none : (stays : List ℕ) (s : ℕ) (table out₀ : List ℤ) → Held stays s table out₀ 0 0 out₀
unfolding wires
held_none stays s table out₀ = record { place = rw (kept_none stays) (omega arith); written = rw (kept_none stays) }

module _ {stays : List ℕ} {s : ℕ} {table out₀ : List ℤ} {at i : ℕ} {out : List ℤ} (h : Held stays s table out₀ at i out) where
  pub held_dropped : get_or stays i 0 ≡ 0 → Held stays s table out₀ at (i + 1) out
  held_dropped e = record { place = rw (as_many stays i e) h.place; written = rw (as_many stays i e) h.written }

  module _ (lt : i < length stays) (byte : get_or stays i 0 ≢ 0) (room : places_kept stays s ≤ length out₀) where
    -- its number in the part
    abbrev j : ℕ
    j = length (kept_among stays i)

    pub held_room : at + (s + 1) ≤ length out₀
    held_room =
        let l : j < length (kept stays) = kept_room stays (length stays) i lt byte in
        omega (arith, h.place, place_in (length (kept stays)) s j s l (omega arith))

    -- what is copied is the wire of that number
    copied : columns (λ t. pad table (i * (s + 1) + t)) (s + 1) ≡ columns (wire_kept stays s table j) (s + 1)
    unfolding column_in
    copied =
        let there : pair_of (kept stays) j ≡ i = kept_pair stays (length stays) i lt byte in
        columns_same (λ t. pad table (i * (s + 1) + t)) (wire_kept stays s table j) (s + 1) (λ t l. rw there)

    pub held_stays : (ys : List ℤ) → ys ≡ columns (λ t. pad table (i * (s + 1) + t)) (s + 1)
        → Held stays s table out₀ (at + (s + 1)) (i + 1) (put_mid at (at + (s + 1) - at) out ys)
    unfolding wires
    held_stays ys e =
        let old = wires (wire_kept stays s table) s j in
        let here : length old ≡ at = wires_length (wire_kept stays s table) s j ∙ sym h.place in
        let k : at + (s + 1) - at ≡ s + 1 = omega arith in
        let front : take at out ≡ old = rw h.written (take_at old (drop at out₀) at here) in
        let back : drop at out ≡ drop at out₀ = rw h.written (drop_at old (drop at out₀) at here) in
        record {
          place = rw (one_more stays i byte, add-one j) (omega (arith, h.place, suc-mul j (s + 1)));
          written = rw (one_more stays i byte, add-one j, k, front, back, drop-drop (s + 1) at out₀, e, copied, append_assoc);
        }
