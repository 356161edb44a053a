-- WHICH PAIRS STAY: the laws of `kept_among`, by which all else uses it.
use mathlib.Core.Path.{◌≡◌, refl, sym, ap, ◌∙◌}
use mathlib.Core.Bool.{Bool, true, false, cond, not, ◌&&◌}
use mathlib.Core.List.{List, [], ◌∷◌, ◌++◌, append_assoc, append-nil}
use mathlib.Core.Logic.{◌⊎◌, inl, inr, ⊎_elim, ◌≢◌, ◌↔◌}
use Prim.Native.Nat.{ℕ, zero, suc, ◌+◌, ◌-◌, ◌≤◌, ◌<◌}
use native.Mathlib.Decide.{dec_le}
use native.Mathlib.Nat.{add-zero, eq-or-lt_of_le}
use native.Mathlib.Numerals.{add-one}
use native.Mathlib.Omega.{arith}
use mir.Val.{bool_byte}
use borrow.Author.Tests.{eq-eqb, ne_eqb}
use lib.Dec.{eqb}
use lib.ListN.{length, get_or, take, length-append, get_or-append}
use lib.Seq.{get_or-append_seam, take-length}
use Rattle.std.proofs.Common.{zero-add}
use Rattle.std.specs.List.{count_by, list_all}
use Rattle.std.proofs.lemmas.List.Sums.{count_by_more_no, count_by_more_yes, sum_by-cons}
use Rattle.wiring.specs.Part.{pair_of, Choice}
use Rattle.parts.specs.Stays.{kept_among, kept}

pub kept_none : (stays : List ℕ) → length (kept_among stays 0) ≡ 0
unfolding kept_among
kept_none stays = refl

-- one byte more: 0 adds nothing, any other adds its pair
module _ (stays : List ℕ) (n : ℕ) where
  pub kept_dropped : get_or stays n 0 ≡ 0 → kept_among stays (suc n) ≡ kept_among stays n
  unfolding kept_among
  kept_dropped e = rw (eq-eqb (get_or stays n 0) 0 e)

  pub kept_stays : get_or stays n 0 ≢ 0 → kept_among stays (suc n) ≡ kept_among stays n ++ (n ∷ [])
  unfolding kept_among
  kept_stays e = rw (ne_eqb (get_or stays n 0) 0 e)

  -- and the number of pairs that stay
  pub as_many : get_or stays n 0 ≡ 0 → length (kept_among stays (n + 1)) ≡ length (kept_among stays n)
  as_many e = rw (add-one n, kept_dropped e)

  pub one_more : get_or stays n 0 ≢ 0 → length (kept_among stays (n + 1)) ≡ length (kept_among stays n) + 1
  one_more e = rw (add-one n, kept_stays e) (length-append (kept_among stays n) (n ∷ []))

-- by cases of the next byte
abbrev pub Goes : (stays : List ℕ) (n : ℕ) → Type 0
Goes stays n =
    ((get_or stays n 0 ≡ 0) × (kept_among stays (suc n) ≡ kept_among stays n))
    ⊎ ((get_or stays n 0 ≢ 0) × (kept_among stays (suc n) ≡ kept_among stays n ++ (n ∷ [])))

pub goes : (stays : List ℕ) (n : ℕ) → Goes stays n
goes stays n = go (dec_le (get_or stays n 0) 0)
  where
    go : Dec (get_or stays n 0 ≤ 0) → Goes stays n
    go (yes l) = let e : get_or stays n 0 ≡ 0 = omega arith in inl (e, kept_dropped stays n e)
    go (no l) = let e : get_or stays n 0 ≢ 0 = λ z. omega arith in inr (e, kept_stays stays n e)

pub kept_few : (stays : List ℕ) (n : ℕ) → length (kept_among stays n) ≤ n
unfolding kept_among
kept_few stays zero = omega arith
kept_few stays (suc n) =
    let few = kept_few stays n in
    ⊎_elim (λ g. rw g.1 (omega arith)) (λ g. rw g.1 (omega (arith, length-append (kept_among stays n) (n ∷ [])))) (goes stays n)

-- one byte more, as a loop adds it
pub kept_more : (stays : List ℕ) (n b : ℕ) → b ≡ get_or stays n 0 → length (kept_among stays (n + 1)) ≡ length (kept_among stays n) + bool_byte (not (eqb b 0))
kept_more stays n b e =
    rw e
    (⊎_elim
    (λ g. rw (eq-eqb (get_or stays n 0) 0 g.0) (as_many stays n g.0 ∙ sym (add-zero (length (kept_among stays n)))))
    (λ g. rw (ne_eqb (get_or stays n 0) 0 g.0) (one_more stays n g.0))
    (goes stays n))

-- their number, by the bytes: those that aren't 0 are counted
counted : (stays : List ℕ) (n : ℕ) → n ≤ length stays → count_by (λ x. not (eqb x 0)) (take n stays) ≡ length (kept_among stays n)
counted stays zero h = sym (kept_none stays)
counted stays (suc n) h =
    let p : ℕ → Bool = λ x. not (eqb x 0) in
    let ih = counted stays n (omega arith) in
    let l : n < length stays = omega arith in
    rw (← add-one n)
    (⊎_elim
    (λ g. count_by_more_no p stays n 0 l (rw (eq-eqb (get_or stays n 0) 0 g.0)) ∙ ih ∙ sym (as_many stays n g.0))
    (λ g. count_by_more_yes p stays n 0 l (rw (ne_eqb (get_or stays n 0) 0 g.0)) ∙ ap (λ (m : ℕ). m + 1) ih ∙ sym (one_more stays n g.0))
    (goes stays n))

pub kept_count : (stays : List ℕ) → count_by (λ x. not (eqb x 0)) stays ≡ length (kept stays)
kept_count stays = rw take-length at (counted stays (length stays) (omega arith))

one_byte : (b : Bool) (rest : Bool) (n : ℕ) → rest ≡ eqb n 0 → (b && rest) ≡ eqb (cond (not b) 1 0 + n) 0
one_byte true rest n e = rw zero-add e
one_byte false rest n e = sym (ne_eqb (1 + n) 0 (λ z. omega arith))

all_dropped : (bytes : List ℕ) → list_all (λ x. eqb x 0) bytes ≡ eqb (count_by (λ x. not (eqb x 0)) bytes) 0
all_dropped [] = refl
all_dropped (x ∷ bytes) = rw (sum_by-cons (λ (y : ℕ). cond (not (eqb y 0)) 1 0) x bytes) (one_byte (eqb x 0) _ _ (all_dropped bytes))

pub none_kept : (stays : List ℕ) → list_all (λ x. eqb x 0) stays ≡ eqb (length (kept stays)) 0
none_kept stays = all_dropped stays ∙ ap (λ (n : ℕ). eqb n 0) (kept_count stays)

-- THE PAIRS THAT STAY ARE A CHOICE of the jumper's pairs
snoc_choice : {n : ℕ} {ks : List ℕ} → Choice n ks → Choice (suc n) (ks ++ (n ∷ []))
snoc_choice {n} {ks} c = record { inside = inside; rises = rises }
  where
    all : length (ks ++ (n ∷ [])) ≡ length ks + 1
    all = length-append ks (n ∷ [])

    old : (i : ℕ) → i < length ks → pair_of (ks ++ (n ∷ [])) i ≡ pair_of ks i
    old i h = get_or-append ks (n ∷ []) 0 i h

    new : (i : ℕ) → i ≡ length ks → pair_of (ks ++ (n ∷ [])) i ≡ n
    new i e = rw e (get_or-append_seam ks n [] 0)

    inside : (i : ℕ) → i < length (ks ++ (n ∷ [])) → pair_of (ks ++ (n ∷ [])) i < suc n
    inside i h = ⊎_elim (λ (e : i ≡ length ks). omega (arith, new i e)) (λ l. omega (arith, old i l, c.inside i l)) (eq-or-lt_of_le (omega (arith, all)))

    rises : (i : ℕ) → i + 1 < length (ks ++ (n ∷ [])) → pair_of (ks ++ (n ∷ [])) i < pair_of (ks ++ (n ∷ [])) (i + 1)
    rises i h =
        let l : i < length ks = omega (arith, all) in
        ⊎_elim
        (λ (e : i + 1 ≡ length ks). omega (arith, new (i + 1) e, old i l, c.inside i l))
        (λ m. omega (arith, old (i + 1) m, old i l, c.rises i m))
        (eq-or-lt_of_le (omega (arith, all)))

up_choice : {n : ℕ} {ks : List ℕ} → Choice n ks → Choice (suc n) ks
up_choice c = record { inside = λ i h. omega (arith, c.inside i h); rises = c.rises }

among_choice : (stays : List ℕ) (n : ℕ) → Choice n (kept_among stays n)
unfolding kept_among
among_choice stays zero = record { inside = λ i h. absurd (omega arith); rises = λ i h. absurd (omega arith) }
among_choice stays (suc n) = ⊎_elim (λ g. rw g.1 (up_choice (among_choice stays n))) (λ g. rw g.1 (snoc_choice (among_choice stays n))) (goes stays n)

pub kept_choice : (stays : List ℕ) → Choice (length stays) (kept stays)
kept_choice stays = among_choice stays (length stays)

-- the first pairs that stay are those among the first bytes
begins : (stays : List ℕ) (m n : ℕ) → (rest : List ℕ) × (kept_among stays (n + m) ≡ kept_among stays n ++ rest)
begins stays zero n = let e : n + 0 ≡ n = omega arith in ([], rw e (sym (append-nil (kept_among stays n))))
begins stays (suc m) n =
    let e : n + suc m ≡ suc (n + m) = omega arith in
    let g = begins stays m n in
    rw e
    (⊎_elim
    (λ h. (g.0, h.1 ∙ g.1))
    (λ h. (g.0 ++ ((n + m) ∷ []), h.1 ∙ ap (λ (ks : List ℕ). ks ++ ((n + m) ∷ [])) g.1 ∙ append_assoc (kept_among stays n) g.0 ((n + m) ∷ [])))
    (goes stays (n + m)))

-- and where a pair stays, its place in the part is the number of pairs that stay before it
module _ (stays : List ℕ) (n k : ℕ) (lt : k < n) (byte : get_or stays k 0 ≢ 0) where
  split : (rest : List ℕ) × (kept_among stays n ≡ kept_among stays k ++ (k ∷ rest))
  split =
      let g = begins stays (n - suc k) (suc k) in
      let e : suc k + (n - suc k) ≡ n = omega arith in
      (g.0, rw e at g.1 ∙ ap (λ (ks : List ℕ). ks ++ g.0) (kept_stays stays k byte) ∙ append_assoc (kept_among stays k) (k ∷ []) g.0)

  pub kept_room : length (kept_among stays k) < length (kept_among stays n)
  kept_room = let s = split in rw s.1 (omega (arith, length-append (kept_among stays k) (k ∷ s.0)))

  pub kept_pair : pair_of (kept_among stays n) (length (kept_among stays k)) ≡ k
  kept_pair = let s = split in rw s.1 (get_or-append_seam (kept_among stays k) k s.0 0)

-- THE PAIRS THAT STAY are exactly those whose byte isn't 0
abbrev pub Marked : (stays : List ℕ) (n k : ℕ) → Type 0
Marked stays n k = (k < n) × (get_or stays k 0 ≢ 0)

abbrev pub Among : List ℕ → ℕ → Type 0
Among ks k = (i : ℕ) × (i < length ks) × (pair_of ks i ≡ k)

next_found : (stays : List ℕ) (n k : ℕ) → (Among (kept_among stays n) k → Marked stays n k) → Among (kept_among stays (suc n)) k → Marked stays (suc n) k
next_found stays n k ih h = ⊎_elim (λ g. up (ih (rw g.1 at h))) (λ g. stayed g.0 (rw g.1 at h)) (goes stays n)
  where
    up : Marked stays n k → Marked stays (suc n) k
    up z = (omega (arith, z.0), z.1)

    stayed : get_or stays n 0 ≢ 0 → Among (kept_among stays n ++ (n ∷ [])) k → Marked stays (suc n) k
    stayed byte f =
        let all = length-append (kept_among stays n) (n ∷ []) in
        ⊎_elim
        (λ e. let z : n ≡ k = sym (get_or-append_seam (kept_among stays n) n [] 0) ∙ rw e at f.2 in (omega arith, rw z at byte))
        (λ l. up (ih (f.0, l, sym (get_or-append (kept_among stays n) (n ∷ []) 0 f.0 l) ∙ f.2)))
        (eq-or-lt_of_le (omega (arith, all, f.1)))

found : (stays : List ℕ) (n k : ℕ) → Among (kept_among stays n) k → Marked stays n k
found stays zero k h = absurd (omega (arith, h.1, kept_few stays 0))
found stays (suc n) k h = next_found stays n k (found stays n k) h

pub kept_exactly : (stays : List ℕ) (k : ℕ) → Among (kept stays) k ↔ Marked stays (length stays) k
kept_exactly stays k =
    let n = length stays in
    (found stays n k, (λ h. (length (kept_among stays k), kept_room stays n k h.0 h.1, kept_pair stays n k h.0 h.1)))
