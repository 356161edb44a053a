-- What is written is read back: `written_back`, for every frame of the input kinds.
use Rattle.std.proofs.Common.{◌≡◌, ℕ, ◌+◌, ◌-◌, ◌*◌, ◌/◌, ◌%◌, ◌^◌, ◌<◌, ◌≤◌, true, false, ltb, List, [], ◌∷◌, ◌++◌, length, get_or, sum, ℤ, sym, refl, ap, ◌∙◌, append_assoc, arith, length-append, get_or-append-add, w32, SFits, to_z, of_z, ltb-false, ltb-true, le-ltb, lt-ltb, eq-eqb, ne_eqb, le-leb}
use native.Mathlib.Nat.{div-div-eq-div-mul}
use Rattle.std.specs.List.{list_all}
use Rattle.std.proofs.lemmas.List.Sums.{sum_by_push}
use mir.ValLaws.{to_z-of_z, of_z_fits}
use Rattle.frame.specs.Hex.{is_digit, value_of, digit_of, bytes_of, text_of, last_byte, is_sound, line_of}
use Rattle.frame.specs.Frame.{Frame, bad, header, bottom, top, four, fours, header_of, count_of, carrier_of, kind_of, text_frame, frame_of}
use Rattle.frame.specs.Written.{four_bytes, column_bytes, input_bytes, written}
use Rattle.frame.proofs.Scan.{either}
use Rattle.frame.proofs.Puts.{text_length}
use Rattle.frame.proofs.Frames.{fed_frame}

-- ---- digits and bytes

digit_back : (d : ℕ) → d < 16 → (is_digit (digit_of d) ≡ true) × (value_of (digit_of d) ≡ d)
unfolding is_digit value_of digit_of
digit_back d h =
    either (ltb d 10)
    (λ e.
    let l : d < 10 = ltb-true d 10 e in
    let a : ltb (48 + d) 48 ≡ false = le-ltb (48 + d) 48 (omega arith) in
    let b : ltb (48 + d) 58 ≡ true = lt-ltb (48 + d) 58 (omega arith) in
    let v : 48 + d - 48 ≡ d = omega arith in
    (simp (e, a, b), simp (e, a, b, v)))
    (λ e.
    let l : 10 ≤ d = ltb-false d 10 e in
    let a : ltb (55 + d) 48 ≡ false = le-ltb (55 + d) 48 (omega arith) in
    let b : ltb (55 + d) 58 ≡ false = le-ltb (55 + d) 58 (omega arith) in
    let f : ltb (55 + d) 65 ≡ false = le-ltb (55 + d) 65 (omega arith) in
    let g : ltb (55 + d) 71 ≡ true = lt-ltb (55 + d) 71 (omega arith) in
    let v : 55 + d - 55 ≡ d = omega arith in
    (simp (e, a, b, f, g), simp (e, a, b, f, g, v)))

-- bytes are below 256
abbrev pub Bytes : List ℕ → Type 0
Bytes [] = Unit {0}
Bytes (b ∷ bs) = (b < 256) × Bytes bs

pub bytes_join : (bs ds : List ℕ) → Bytes bs → Bytes ds → Bytes (bs ++ ds)
bytes_join [] ds h g = g
bytes_join (b ∷ bs) ds h g = (h.0, bytes_join bs ds h.1 g)

text_back : (bs : List ℕ) → Bytes bs → bytes_of (text_of bs) ≡ bs
unfolding text_of bytes_of
text_back [] h = refl
text_back (b ∷ bs) h =
    let hi = digit_back (b / 16 % 16) (omega arith) in
    let lo = digit_back (b % 16) (omega arith) in
    let l : b < 256 = h.0 in
    let e : 16 * value_of (digit_of (b / 16 % 16)) + value_of (digit_of (b % 16)) ≡ b = omega (arith, hi.1, lo.1) in
    ap (λ (x : ℕ). x ∷ bytes_of (text_of bs)) e ∙ ap (λ (l : List ℕ). b ∷ l) (text_back bs h.1)

text_digits : (bs : List ℕ) → list_all is_digit (text_of bs) ≡ true
unfolding text_of
text_digits [] = refl
text_digits (b ∷ bs) =
    let hi = digit_back (b / 16 % 16) (omega arith) in
    let lo = digit_back (b % 16) (omega arith) in
    simp (hi.0, lo.0) (text_digits bs)

-- ---- the sum

sum_back : (bs : List ℕ) → sum (bs ++ (last_byte bs ∷ [])) % 256 ≡ 0
unfolding last_byte
sum_back bs = let j = sum_by_push (λ x. x) bs (last_byte bs) in omega arith

last_small : (bs : List ℕ) → last_byte bs < 256
unfolding last_byte
last_small bs = omega arith

-- ---- any frame's line is the frame of its bytes

line_back : (bs : List ℕ) → Bytes bs → frame_of (line_of bs) ≡ kind_of (bs ++ (last_byte bs ∷ []))
unfolding line_of text_frame is_sound
line_back bs h =
    let all : List ℕ = bs ++ (last_byte bs ∷ []) in
    let b : bytes_of (text_of all) ≡ all = text_back all (bytes_join bs (last_byte bs ∷ []) h (last_small bs, tt)) in
    let n : length (text_of all) % 2 ≡ 0 = let l = text_length all in omega arith in
    fed_frame (text_of all) ∙ simp (n, text_digits all, b, sum_back bs)

-- ---- numbers

pub two_back : (n : ℕ) → n < 65536 → 256 * (n / 256 % 256) + n % 256 ≡ n
two_back n h = omega arith

-- the bytes of a number below 2 ^ 32, each from the one before
joined : (n x y z a b d e : ℕ) → n ≡ 256 * x + e → x ≡ 256 * y + d → y ≡ 256 * z + b → z ≡ a → 16777216 * a + 65536 * b + 256 * d + e ≡ n
joined n x y z a b d e p q r t = omega arith

four_nat : (n : ℕ) → n < 4294967296 → 16777216 * (n / 16777216 % 256) + 65536 * (n / 65536 % 256) + 256 * (n / 256 % 256) + n % 256 ≡ n
four_nat n h =
    let f : n / 65536 ≡ n / 256 / 256 = sym (div-div-eq-div-mul n 256 256) in
    let g : n / 16777216 ≡ n / 65536 / 256 = sym (div-div-eq-div-mul n 65536 256) in
    joined n (n / 256) (n / 65536) (n / 16777216) _ _ _ _ (omega arith) (split (n / 256) (n / 65536) f) (split (n / 65536) (n / 16777216) g) (omega arith)
  where
    split : (x y : ℕ) → y ≡ x / 256 → x ≡ 256 * y + x % 256
    split x y e = omega arith

four_back : (z : ℤ) → SFits w32 z
    → to_z w32 (16777216 * (of_z w32 z / 16777216 % 256) + 65536 * (of_z w32 z / 65536 % 256) + 256 * (of_z w32 z / 256 % 256) + of_z w32 z % 256) ≡ z
four_back z f =
    let s : of_z w32 z < 2 ^ 32 = (of_z_fits w32 z f).fits in
    let e : 16777216 * (of_z w32 z / 16777216 % 256) + 65536 * (of_z w32 z / 65536 % 256) + 256 * (of_z w32 z / 256 % 256) + of_z w32 z % 256 ≡ of_z w32 z =
    four_nat (of_z w32 z) s in
    ap (to_z w32) e ∙ to_z-of_z w32 z f

-- ---- columns

abbrev pub Fitting : List ℤ → Type 0
Fitting [] = Unit {0}
Fitting (z ∷ zs) = SFits w32 z × Fitting zs

column_bytes_lem : (zs : List ℤ) → Bytes (column_bytes zs)
unfolding column_bytes
column_bytes_lem [] = tt
column_bytes_lem (z ∷ zs) = (omega arith, (omega arith, (omega arith, (omega arith, column_bytes_lem zs))))

columns_length : (zs : List ℤ) → length (column_bytes zs) ≡ 4 * length zs
unfolding column_bytes
columns_length [] = refl
columns_length (z ∷ zs) = let r = columns_length zs in omega arith

four_after : (p q : List ℕ) (z : ℤ) → SFits w32 z → four (p ++ (four_bytes z ++ q)) (length p) ≡ z
four_after p q z f =
    let r : List ℕ = four_bytes z ++ q in
    let n : length p ≡ length p + 0 = omega arith in
    let a : get_or (p ++ r) (length p) 0 ≡ of_z w32 z / 16777216 % 256 = ap (λ (k : ℕ). get_or (p ++ r) k 0) n ∙ get_or-append-add p r 0 0 in
    let b : get_or (p ++ r) (length p + 1) 0 ≡ of_z w32 z / 65536 % 256 = get_or-append-add p r 1 0 in
    let d : get_or (p ++ r) (length p + 2) 0 ≡ of_z w32 z / 256 % 256 = get_or-append-add p r 2 0 in
    let e : get_or (p ++ r) (length p + 3) 0 ≡ of_z w32 z % 256 = get_or-append-add p r 3 0 in
    simp (a, b, d, e) (four_back z f)

fours_back : (p q : List ℕ) (zs : List ℤ) → Fitting zs → fours (p ++ (column_bytes zs ++ q)) (length p) (length zs) ≡ zs
unfolding fours column_bytes
fours_back p q [] h = refl
fours_back p q (z ∷ zs) h =
    let all : List ℕ = p ++ ((four_bytes z ++ column_bytes zs) ++ q) in
    let e : all ≡ p ++ (four_bytes z ++ (column_bytes zs ++ q)) = ap (λ (l : List ℕ). p ++ l) (append_assoc (four_bytes z) (column_bytes zs) q) in
    let f : all ≡ (p ++ four_bytes z) ++ (column_bytes zs ++ q) = e ∙ sym (append_assoc p (four_bytes z) (column_bytes zs ++ q)) in
    let n : length p + 4 ≡ length (p ++ four_bytes z) = sym (length-append p (four_bytes z)) in
    let first : four all (length p) ≡ z = ap (λ (l : List ℕ). four l (length p)) e ∙ four_after p (column_bytes zs ++ q) z h.0 in
    let rest : fours all (length p + 4) (length zs) ≡ zs =
    ap (λ (l : List ℕ). fours l (length p + 4) (length zs)) f ∙ ap (λ (k : ℕ). fours ((p ++ four_bytes z) ++ (column_bytes zs ++ q)) k (length zs)) n
    ∙ fours_back (p ++ four_bytes z) q zs h.1 in
    ap (λ (x : ℤ). x ∷ fours all (length p + 4) (length zs)) first ∙ ap (λ (l : List ℤ). z ∷ l) rest

-- ---- the law

-- a frame of the input kinds whose numbers have their sizes
abbrev pub Writable : Frame → Type 0
Writable bad = ⊥
Writable (header o) = (o.line < 256) × (o.pairs < 65536) × (o.separation < 65536) × SFits w32 o.offset
Writable (bottom l cs) = (l < 256) × (1 ≤ length cs) × (length cs ≤ 16) × Fitting cs
Writable (top l cs) = (l < 256) × (1 ≤ length cs) × (length cs ≤ 16) × Fitting cs

carrier_count : (kind l w : ℕ) (cs : List ℤ) → 1 ≤ length cs → length cs ≤ 16 → count_of (kind ∷ l ∷ length cs ∷ (column_bytes cs ++ (w ∷ []))) ≡ length cs
unfolding count_of
carrier_count kind l w cs a b =
    let n : length (kind ∷ l ∷ length cs ∷ (column_bytes cs ++ (w ∷ []))) ≡ 4 * length cs + 4 =
    let m = length-append (column_bytes cs) (w ∷ []) in let k = columns_length cs in omega arith in
    simp (le-leb _ _ a, le-leb _ _ b, eq-eqb _ _ n)

carrier_back : (row : ℕ → List ℤ → Frame) (kind l w : ℕ) (cs : List ℤ) → 1 ≤ length cs → length cs ≤ 16 → Fitting cs
    → carrier_of row (kind ∷ l ∷ length cs ∷ (column_bytes cs ++ (w ∷ []))) ≡ row l cs
unfolding carrier_of
carrier_back row kind l w cs a b f =
    let n : length cs ≡ 0 → ⊥ = λ e. omega arith in
    simp (carrier_count kind l w cs a b, ne_eqb _ _ n, fours_back (kind ∷ l ∷ length cs ∷ []) (w ∷ []) cs f)

pub written_back : (f : Frame) → Writable f → frame_of (written f) ≡ f
unfolding written kind_of header_of
written_back bad h = absurd h
written_back (header o) h =
    let bs : List ℕ = input_bytes (header o) in
    line_back bs
    (omega arith, (h.0, (omega arith, (omega arith, (omega arith, (omega arith, (omega arith, (omega arith, (omega arith, (omega arith, tt))))))))))
    ∙ simp (two_back o.pairs h.1, two_back o.separation h.2, four_back o.offset h.3)
written_back (bottom l cs) h =
    line_back (input_bytes (bottom l cs)) (omega arith, (h.0, (omega (arith, h.2), column_bytes_lem cs)))
    ∙ carrier_back bottom 17 l (last_byte (input_bytes (bottom l cs))) cs h.1 h.2 h.3
written_back (top l cs) h =
    line_back (input_bytes (top l cs)) (omega arith, (h.0, (omega (arith, h.2), column_bytes_lem cs)))
    ∙ carrier_back top 18 l (last_byte (input_bytes (top l cs))) cs h.1 h.2 h.3
