-- Reading a text digit by digit: what the loops of decoding rest on.
use Rattle.std.proofs.Common.{◌≡◌, ℕ, zero, suc, ◌+◌, ◌*◌, ◌/◌, ◌%◌, ◌-◌, ◌<◌, max, Some, None, Bool, true, false, ◌&&◌, cond, nat_lt, ltb, eqb, List, [], ◌∷◌, length, get_or, take, sum, refl, sym, ◌∙◌, ap, arith, ltb-true, ltb-false, lt-ltb, eq-eqb, ne_eqb}
use mathlib.Core.Bool.{false≢true}
use Rattle.std.specs.List.{list_all}
use Rattle.std.specs.Option.{unwrap_or}
use Rattle.std.proofs.lemmas.List.{ext_get_or}
use Rattle.std.proofs.lemmas.List.Folds.{list_all_more, list_all_at}
use Rattle.frame.specs.Hex.{is_digit, value_of, bytes_of, is_sound, worth, WorthsRead, BytesLaid, Decoded}

pub either {ℓ} : {P : Type ℓ} (b : Bool) → (b ≡ true → P) → (b ≡ false → P) → P
either true f g = f refl
either false f g = g refl

-- ---- one digit

pub value_small : (c : ℕ) → value_of c < 16
unfolding value_of is_digit
value_small c =
    either (ltb c 48) (λ e. simp e (omega arith))
    (λ e. either (ltb c 58) (λ f. simp (e, f) (omega (arith, ltb-true c 58 f)))
    (λ f. either (ltb c 65) (λ g. simp (e, f, g) (omega arith))
    (λ g. either (ltb c 71) (λ h. simp (e, f, g, h) (omega (arith, ltb-true c 71 h))) (λ h. simp (e, f, g, h) (omega arith)))))

-- the digit that is worth less than 10
pub low_digit : (c v : ℕ) → is_digit c ≡ true → value_of c ≡ v → v < 10 → c ≡ 48 + v
unfolding value_of is_digit
low_digit c v d e h =
    either (ltb c 48) (λ a. absurd (false≢true (simp a at d)))
    (λ a. either (ltb c 58)
    (λ b. let q : c - 48 ≡ v = simp (a, b) at e in let p = ltb-false c 48 a in omega arith)
    (λ b. either (ltb c 65) (λ g. absurd (false≢true (simp (a, b, g) at d)))
    (λ g. let n : ltb c 71 ≡ true = simp (a, b, g) at d in let q : c - 55 ≡ v = simp (a, b, g, n) at e in let p = ltb-false c 65 g in absurd (omega arith))))

-- only a digit is worth less than 16
worth_small : (c : ℕ) → nat_lt (worth c) 16 ≡ is_digit c
worth_small c = either (is_digit c) (λ e. simp e (lt-ltb _ _ (value_small c))) (λ e. simp e)

pub worth_read : (c r : ℕ) → r ≡ unwrap_or (cond (is_digit c) (Some (value_of c)) None) 16 → r ≡ worth c
worth_read c r e = e ∙ either (is_digit c) (λ d. simp d) (λ d. simp d)

-- ---- all digits

below_both : (m d n : ℕ) → nat_lt (max d m) n ≡ (nat_lt m n && nat_lt d n)
below_both m d n = grind arith

-- the largest of the first worths, and of one more
pub worths_more : (text : List ℕ) (i most d r : ℕ) → i < length text → d ≡ worth (get_or text i 0) → r ≡ max d most
    → nat_lt most 16 ≡ list_all is_digit (take i text) → nat_lt r 16 ≡ list_all is_digit (take (i + 1) text)
worths_more text i most d r h ed er so =
    ap (λ (x : ℕ). nat_lt x 16) er ∙ below_both most d 16
    ∙ ap (λ (x : ℕ). nat_lt most 16 && nat_lt x 16) ed
    ∙ ap (λ (x : Bool). nat_lt most 16 && x) (worth_small (get_or text i 0))
    ∙ ap (λ (x : Bool). x && is_digit (get_or text i 0)) so
    ∙ sym (list_all_more is_digit text i 0 h)

pub digit_at : (text : List ℕ) (i : ℕ) → list_all is_digit text ≡ true → i < length text → is_digit (get_or text i 0) ≡ true
digit_at text i all h = either (is_digit (get_or text i 0)) (λ e. e) (λ e. let n = list_all_at is_digit text i 0 h e in cc)

-- ---- bytes by their places

pub bytes_length : (s : List ℕ) → length (bytes_of s) ≡ length s / 2
unfolding bytes_of
bytes_length [] = refl
bytes_length (h ∷ []) = refl
bytes_length (h ∷ l ∷ s) = let r = bytes_length s in omega arith

pub byte_place : (s : List ℕ) (i : ℕ) → 2 * i + 1 < length s → get_or (bytes_of s) i 0 ≡ 16 * value_of (get_or s (2 * i) 0) + value_of (get_or s (2 * i + 1) 0)
unfolding bytes_of
byte_place [] i h = absurd (omega arith)
byte_place (a ∷ []) i h = absurd (omega arith)
byte_place (a ∷ b ∷ s) zero h = refl
byte_place (a ∷ b ∷ s) (suc i) h =
    let p : 2 * suc i ≡ suc (suc (2 * i)) = omega arith in
    let q : suc (suc (2 * i)) + 1 ≡ suc (suc (2 * i + 1)) = omega arith in
    rw (p, q) (byte_place s i (omega arith))

-- ---- a sound text

pub sound_digits : (s : List ℕ) → is_sound s ≡ true → list_all is_digit s ≡ true
unfolding is_sound
sound_digits s h =
    either (list_all is_digit s) (λ e. e)
    (λ e. either (eqb (length s % 2) 0)
    (λ f. let z : ◌≡◌ {A = Bool} false true = simp (e, f) at h in absurd (false≢true z))
    (λ f. let z : ◌≡◌ {A = Bool} false true = simp f at h in absurd (false≢true z)))

-- a text of whole bytes whose worths were read, r if all are digits
module _ (text worths : List ℕ) (r : Bool) (even : length text % 2 ≡ 0) (w : WorthsRead text r worths) where
  pub no_digits : r ≡ false → is_sound text ≡ false
  unfolding is_sound
  no_digits e = let all : list_all is_digit text ≡ false = sym w.digits ∙ e in simp (eq-eqb _ _ even, all)

  module _ (e : r ≡ true) where
    value_at : (i : ℕ) → i < length text → get_or worths i 0 ≡ value_of (get_or text i 0)
    value_at i h = let d = digit_at text i (sym w.digits ∙ e) h in w.worth i h ∙ simp d

    pub worth_below : (i : ℕ) → i < length text → get_or worths i 0 < 16
    worth_below i h = let e = value_at i h in rw e (value_small (get_or text i 0))

    module _ (bytes : List ℕ) (s : ℕ) (n : length bytes ≡ length text / 2) (laid : BytesLaid worths s bytes) where
      pub bytes_are : bytes ≡ bytes_of text
      bytes_are =
          ext_get_or 0 bytes (bytes_of text) (n ∙ sym (bytes_length text))
          (λ i h.
          let a = value_at (2 * i) (omega arith) in
          let b = value_at (2 * i + 1) (omega arith) in
          laid.byte i h ∙ rw (a, b) (sym (byte_place text i (omega arith))))

      sound_is : is_sound text ≡ eqb s 0
      unfolding is_sound
      sound_is =
          let all : list_all is_digit text ≡ true = sym w.digits ∙ e in
          let t : s ≡ sum (bytes_of text) % 256 = laid.sum ∙ ap (λ (bs : List ℕ). sum bs % 256) bytes_are in
          simp (eq-eqb _ _ even, all, t)

      pub unsound : (s ≡ 0 → ⊥) → is_sound text ≡ false
      unsound z = sound_is ∙ ne_eqb _ _ z

      pub decoded : s ≡ 0 → Decoded text bytes
      decoded z = record { sound = sound_is ∙ eq-eqb _ _ z; is = bytes_are; long = n }
