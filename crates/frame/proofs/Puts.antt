-- Runs of stores: a line's digits, a row's columns.
-- Sections: stores in general; a frame's line; columns; the two frames of an answer.
use Rattle.std.proofs.Common.{◌≡◌, ℕ, zero, suc, ◌+◌, ◌*◌, ◌%◌, ◌<◌, ◌≤◌, List, [], ◌∷◌, ◌++◌, length, get_or, take, drop, set, sum, pos, sym, refl, ap, ◌∙◌, append_assoc, add-one, arith, length-append, length-set, length-take-le, take-append-drop, take-suc-set}
use Rattle.std.specs.List.{flat_map}
use Rattle.std.proofs.lemmas.Grind.{flat_map-append}
use Rattle.std.proofs.lemmas.List.{take_at, take_more, drop-set-lt}
use Rattle.std.proofs.lemmas.List.FromFn.{get_or-map-range_with_len}
use Rattle.frame.specs.Hex.{digit_of, byte_text, text_of, last_byte, line_of}
use Rattle.frame.specs.Frame.{four, fours}
use Rattle.frame.specs.Written.{answer_line, move_line}
use Rattle.frame.specs.declared.write.Answer.{Answer}
use Rattle.frame.specs.declared.write.Move.{Move}
use Rattle.frame.specs.Puts.{puts, LinePut}

-- what was stored stands between what stood before it and after it
pub puts_is : {A : Type 0} (l : List A) (at : ℕ) (vs : List A) → at + length vs ≤ length l → puts l at vs ≡ take at l ++ (vs ++ drop (at + length vs) l)
unfolding puts
puts_is l at [] h = let e : at + 0 ≡ at = omega arith in rw e (sym (take-append-drop at l))
puts_is {A} l at (v ∷ vs) h =
    let e : at + 1 + length vs ≡ at + suc (length vs) = omega arith in
    let t : take (at + 1) (set l at v) ≡ take at l ++ (v ∷ []) = rw (add-one, take-suc-set l at v (omega arith)) in
    let d : drop (at + 1 + length vs) (set l at v) ≡ drop (at + suc (length vs)) l =
    drop-set-lt (at + 1 + length vs) l at v (omega arith) ∙ ap (λ (n : ℕ). drop n l) e in
    puts_is (set l at v) (at + 1) vs (simp length-set (omega arith))
    ∙ ap (λ (p : List A). p ++ (vs ++ drop (at + 1 + length vs) (set l at v))) t
    ∙ ap (λ (p : List A). (take at l ++ (v ∷ [])) ++ (vs ++ p)) d
    ∙ append_assoc (take at l) (v ∷ []) (vs ++ drop (at + suc (length vs)) l)

pub take_puts : {A : Type 0} (l : List A) (at : ℕ) (vs : List A) → at + length vs ≤ length l → take (at + length vs) (puts l at vs) ≡ take at l ++ vs
take_puts {A} l at vs h =
    let n : length (take at l ++ vs) ≡ at + length vs = simp (length-append, length-take-le at l (omega arith)) in
    ap (take (at + length vs)) (puts_is l at vs h ∙ sym (append_assoc (take at l) vs (drop (at + length vs) l)))
    ∙ take_at (take at l ++ vs) (drop (at + length vs) l) (at + length vs) n

-- a run stored in two parts
pub puts_append : {A : Type 0} (l : List A) (at : ℕ) (vs ws : List A) → puts l at (vs ++ ws) ≡ puts (puts l at vs) (at + length vs) ws
unfolding puts
puts_append {A} l at [] ws = let e : at + 0 ≡ at = omega arith in rw e
puts_append {A} l at (v ∷ vs) ws =
    let e : at + 1 + length vs ≡ at + suc (length vs) = omega arith in
    puts_append (set l at v) (at + 1) vs ws ∙ ap (λ (n : ℕ). puts (puts (set l at v) (at + 1) vs) n ws) e

-- ---- a frame's line

-- the sixteen digits
pub digit_at : (d : ℕ) → d < 16 → get_or (48 ∷ 49 ∷ 50 ∷ 51 ∷ 52 ∷ 53 ∷ 54 ∷ 55 ∷ 56 ∷ 57 ∷ 65 ∷ 66 ∷ 67 ∷ 68 ∷ 69 ∷ 70 ∷ []) d 0 ≡ digit_of d
unfolding digit_of
digit_at d h = get_or-map-range_with_len digit_of 0 16 d d 0 h (omega arith)

pub text_length : (bs : List ℕ) → length (text_of bs) ≡ 2 * length bs
unfolding text_of
text_length [] = refl
text_length (b ∷ bs) = let r = text_length bs in omega arith

pub line_length : (bs : List ℕ) → length (line_of bs) ≡ 2 * length bs + 3
unfolding line_of
line_length bs = simp (length-append, text_length) (omega arith)

-- one byte more
text_more : (bs : List ℕ) (i : ℕ) → i < length bs → text_of (take (i + 1) bs) ≡ text_of (take i bs) ++ byte_text (get_or bs i 0)
unfolding text_of
text_more bs i h = ap (flat_map byte_text) (take_more bs i 0 h) ∙ flat_map-append byte_text (take i bs) (get_or bs i 0 ∷ [])

pub line_start : (start bs : List ℕ) (at : ℕ) → start ≡ puts start at (text_of (take 0 bs))
unfolding puts text_of
line_start start bs at = refl

pub line_more : (start bs out out' : List ℕ) (at i : ℕ) → i < length bs → out ≡ puts start at (text_of (take i bs))
    → out' ≡ puts out (at + 2 * i) (byte_text (get_or bs i 0)) → out' ≡ puts start at (text_of (take (i + 1) bs))
line_more start bs out out' at i h so e =
    let n : at + 2 * i ≡ at + length (text_of (take i bs)) = let l = text_length (take i bs) in let t = length-take-le i bs (omega arith) in omega arith in
    e ∙ ap (λ (l : List ℕ). puts l (at + 2 * i) (byte_text (get_or bs i 0))) so
    ∙ ap (λ (k : ℕ). puts (puts start at (text_of (take i bs))) k (byte_text (get_or bs i 0))) n
    ∙ sym (puts_append start at (text_of (take i bs)) (byte_text (get_or bs i 0)))
    ∙ ap (puts start at) (sym (text_more bs i h))

-- the byte that makes the sum 0
pub is_last : (bs : List ℕ) (s r : ℕ) → s ≡ sum bs % 256 → (r + s) % 256 ≡ 0 → r < 256 → r ≡ last_byte bs
unfolding last_byte
is_last bs s r e z small = omega arith

pub line_end : (start bs out out' : List ℕ) (at p r : ℕ) → p ≡ at + 2 * length bs → p + 3 ≤ length start → out ≡ puts start at (text_of bs) → r ≡ last_byte bs
    → out' ≡ puts out p (byte_text r) → LinePut (line_of bs) start at (p + 3) (set out' (p + 2) 10)
unfolding puts text_of line_of
line_end start bs out out' at p r ep fits so er e =
    let l = line_length bs in
    let n : p ≡ at + length (text_of bs) = let t = text_length bs in omega arith in
    let all : text_of (bs ++ (last_byte bs ∷ [])) ++ (10 ∷ []) ≡ text_of bs ++ (byte_text r ++ (10 ∷ [])) =
    ap (λ (t : List ℕ). t ++ (10 ∷ [])) (flat_map-append byte_text bs (last_byte bs ∷ []))
    ∙ append_assoc (text_of bs) (byte_text (last_byte bs)) (10 ∷ [])
    ∙ ap (λ (b : ℕ). text_of bs ++ (byte_text b ++ (10 ∷ []))) (sym er) in
    record {
      room = λ _. (
        omega arith,
        ap (λ (o : List ℕ). set o (p + 2) 10) e
            ∙ sym (puts_append out p (byte_text r) (10 ∷ []))
            ∙ ap (λ (o : List ℕ). puts o p (byte_text r ++ (10 ∷ []))) so
            ∙ ap (λ (k : ℕ). puts (puts start at (text_of bs)) k (byte_text r ++ (10 ∷ []))) n
            ∙ sym (puts_append start at (text_of bs) (byte_text r ++ (10 ∷ [])))
            ∙ ap (puts start at) (sym all),
      );
      full = λ k. absurd (omega arith);
    }

-- a line that has no room
pub not_put : (bs out : List ℕ) (at : ℕ) → length out < at + (2 * length bs + 3) → LinePut (line_of bs) out at at out
not_put bs out at h = let l = line_length bs in record { room = λ k. absurd (omega arith); full = λ _. (refl, refl) }

-- ---- columns

pub fours_length : (bs : List ℕ) (i k : ℕ) → length (fours bs i k) ≡ k
unfolding fours
fours_length bs i zero = refl
fours_length bs i (suc k) = ap suc (fours_length bs (i + 4) k)

pub get_or_fours : (bs : List ℕ) (i k j : ℕ) → j < k → get_or (fours bs i k) j (pos 0) ≡ four bs (4 * j + i)
unfolding fours
get_or_fours bs i zero j h = absurd (omega arith)
get_or_fours bs i (suc k) zero h = let e : 4 * 0 + i ≡ i = omega arith in rw e
get_or_fours bs i (suc k) (suc j) h = let e : 4 * j + (i + 4) ≡ 4 * suc j + i = omega arith in get_or_fours bs (i + 4) k j (omega arith) ∙ ap (four bs) e

-- ---- the two frames of an answer

pub answer_length : (k : Answer) → length (answer_line k) ≡ 35
unfolding answer_line
answer_length k = line_length _

pub move_length : (m : Move) → length (move_line m) ≡ 31
unfolding move_line
move_length m = line_length _
