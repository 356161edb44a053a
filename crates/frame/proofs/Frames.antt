-- What a good frame has, and how the reader's steps come to the definition.
use Rattle.std.proofs.Common.{◌≡◌, ℕ, ◌+◌, ◌-◌, ◌*◌, ◌%◌, ◌<◌, ◌≤◌, Bool, true, false, cond, eqb, leb, ◌⊎◌, inl, inr, List, [], ◌∷◌, ◌++◌, length, get_or, take, drop, ℤ, pos, Option, Some, None, sym, refl, ap, ◌∙◌, arith, zero-add, drop-cons, drop_of_length-le, length-append, lt-ltb, eq-eqb, ne_eqb, eqb-true, le-leb, leb-true}
use mathlib.Core.Bool.{false≢true}
use lib.Pointwise.{pointwise}
use lib.Seq.{take-append_seam, get_or-append_seam}
use borrow.Author.Tests.{eqb-false}
use Rattle.std.proofs.lemmas.List.{ext_get_or}
use Rattle.std.specs.Option.{option_map}
use Rattle.frame.specs.Hex.{bytes_of, is_sound, Decoded}
use Rattle.frame.specs.Frame.{Frame, bad, header, bottom, top, one, four, fours, header_of, count_of, carrier_of, kind_of, text_frame, is_fed, frame_of, said_of, columns_of}
use Rattle.frame.specs.declared.read.Said.{Said}
use Rattle.frame.specs.declared.read.Said.TheVariants.{Bottom, Top}
use Rattle.frame.specs.Puts.{puts, Carried, ReadIn}
use Rattle.frame.proofs.Scan.{either, value_small, low_digit, digit_at, bytes_length, byte_place, sound_digits}
use Rattle.frame.proofs.Puts.{puts_is, fours_length, get_or_fours}

cond_elim {ℓ} : {A : Type 0} (P : A → Type ℓ) (b : Bool) {x y : A} → (b ≡ true → P x) → (b ≡ false → P y) → P (cond b x y)
cond_elim P true f g = f refl
cond_elim P false f g = g refl

-- ---- the length of a good frame's text, and its count of columns

record Carrier (s : List ℕ) (n : ℕ) : Type 0 where
  long : length s ≡ 8 * n + 8
  some : 1 ≤ n
  few : n ≤ 16

Good : List ℕ → Frame → Type 0
Good s bad = Unit {0}
Good s (header o) = length s ≡ 22
Good s (bottom l cs) = Carrier s (length cs)
Good s (top l cs) = Carrier s (length cs)

count_facts : (bs : List ℕ) → (count_of bs ≡ 0 → ⊥) → (length bs ≡ 4 * count_of bs + 4) × (1 ≤ count_of bs) × (count_of bs ≤ 16)
unfolding count_of
count_facts bs n =
    either (leb 1 (one bs 2))
    (λ a. either (leb (one bs 2) 16)
    (λ b. either (eqb (length bs) (4 * one bs 2 + 4))
    (λ d. simp (a, b, d) (eqb-true _ _ d, leb-true _ _ a, leb-true _ _ b))
    (λ d. absurd (n (simp (a, b, d)))))
    (λ b. absurd (n (simp (a, b)))))
    (λ a. absurd (n (simp a)))

module _ (s : List ℕ) (even : length s % 2 ≡ 0) where
  good_header : Good s (header_of (bytes_of s))
  unfolding header_of Good
  good_header =
      cond_elim (Good s) (eqb (length (bytes_of s)) 11)
      (λ h. let n : length (bytes_of s) ≡ 11 = eqb-true _ _ h in let l = bytes_length s in omega arith)
      (λ h. tt)

  carrier : (count_of (bytes_of s) ≡ 0 → ⊥) → Carrier s (length (fours (bytes_of s) 3 (count_of (bytes_of s))))
  carrier n =
      let f = count_facts (bytes_of s) n in
      let l = bytes_length s in
      let m = fours_length (bytes_of s) 3 (count_of (bytes_of s)) in
      record { long = omega arith; some = omega arith; few = omega arith }

  good_bottom : Good s (carrier_of bottom (bytes_of s))
  unfolding carrier_of Good
  good_bottom = cond_elim (Good s) (eqb (count_of (bytes_of s)) 0) (λ h. tt) (λ h. carrier (eqb-false _ _ h))

  good_top : Good s (carrier_of top (bytes_of s))
  unfolding carrier_of Good
  good_top = cond_elim (Good s) (eqb (count_of (bytes_of s)) 0) (λ h. tt) (λ h. carrier (eqb-false _ _ h))

sound_even : (s : List ℕ) → is_sound s ≡ true → length s % 2 ≡ 0
unfolding is_sound
sound_even s h = either (eqb (length s % 2) 0) (λ e. eqb-true _ _ e) (λ e. let z : ◌≡◌ {A = Bool} false true = simp e at h in absurd (false≢true z))

good : (s : List ℕ) → Good s (text_frame s)
unfolding text_frame kind_of Good
good s =
    cond_elim (Good s) (is_sound s)
    (λ ok.
    let even = sound_even s ok in
    cond_elim (Good s) (eqb (one (bytes_of s) 0) 16) (λ _. good_header s even)
    (λ _. cond_elim (Good s) (eqb (one (bytes_of s) 0) 17) (λ _. good_bottom s even)
    (λ _. cond_elim (Good s) (eqb (one (bytes_of s) 0) 18) (λ _. good_top s even) (λ _. tt))))
    (λ _. tt)

-- a text of no frame's length
module _ (s : List ℕ) (h : length s ≡ 22 → ⊥) (c : (n : ℕ) → Carrier s n → ⊥) where
  bad_by : (f : Frame) → Good s f → f ≡ bad
  unfolding Good
  bad_by bad g = refl
  bad_by (header o) g = absurd (h g)
  bad_by (bottom l cs) g = absurd (c (length cs) g)
  bad_by (top l cs) g = absurd (c (length cs) g)

  bad_unless : text_frame s ≡ bad
  bad_unless = bad_by (text_frame s) (good s)

pub no_length : (s : List ℕ) → (length s ≡ 22 → ⊥) → ((length s % 8 ≡ 0) × (16 ≤ length s) × (length s ≤ 136) → ⊥) → text_frame s ≡ bad
no_length s n m = bad_unless s n (λ k c. let l = c.long in let a = c.some in let b = c.few in m (omega arith, omega arith, omega arith))

-- no good frame is longer than 136 digits
pub long_bad : (s : List ℕ) → 136 < length s → text_frame s ≡ bad
long_bad s h = bad_unless s (λ n. omega arith) (λ n c. let l = c.long in let f = c.few in omega arith)

-- a frame of columns carries 1 to 16
abbrev pub Few : Frame → Type 0
Few bad = 0 ≤ 0
Few (header o) = 0 ≤ 0
Few (bottom l cs) = (1 ≤ length cs) × (length cs ≤ 16)
Few (top l cs) = (1 ≤ length cs) × (length cs ≤ 16)

few_of : (s : List ℕ) (f : Frame) → Good s f → Few f
unfolding Good
few_of s bad g = omega arith
few_of s (header o) g = omega arith
few_of s (bottom l cs) g = (g.some, g.few)
few_of s (top l cs) g = (g.some, g.few)

pub few : (s : List ℕ) → Few (text_frame s)
few s = few_of s (text_frame s) (good s)

-- ---- the reader's answers

-- a bad line leaves all as it was
pub bad_read : (f : Frame) (columns : List ℤ) → f ≡ bad → ReadIn f columns None columns
unfolding puts
bad_read f columns e = record { said = ap said_of (sym e); carried = ap (λ (h : Frame). puts columns 0 (columns_of h)) (sym e) }

pub unsound_bad : (s : List ℕ) → is_sound s ≡ false → text_frame s ≡ bad
unfolding text_frame
unsound_bad s e = simp e

pub kind_is : (s bytes : List ℕ) → Decoded s bytes → text_frame s ≡ kind_of bytes
unfolding text_frame
kind_is s bytes d = let e = d.sound in simp e (ap kind_of (sym d.is))

-- k columns, if there are as many as the bytes say
module _ (bs : List ℕ) where
  pub no_count : (1 ≤ one bs 2 → one bs 2 ≤ 16 → length bs ≡ 4 * one bs 2 + 4 → ⊥) → count_of bs ≡ 0
  unfolding count_of
  no_count n =
      either (leb 1 (one bs 2))
      (λ a. either (leb (one bs 2) 16)
      (λ b. either (eqb (length bs) (4 * one bs 2 + 4))
      (λ d. absurd (n (leb-true _ _ a) (leb-true _ _ b) (eqb-true _ _ d)))
      (λ d. simp (a, b, d)))
      (λ b. simp (a, b)))
      (λ a. simp a)

  count_is : 1 ≤ one bs 2 → one bs 2 ≤ 16 → length bs ≡ 4 * one bs 2 + 4 → count_of bs ≡ one bs 2
  unfolding count_of
  count_is a b d = simp (le-leb _ _ a, le-leb _ _ b, eq-eqb _ _ d)

  pub not_carried : (columns : List ℤ) → count_of bs ≡ 0 → Carried bs columns None columns
  unfolding puts fours
  not_carried columns e = record { count = simp e; put = ap (λ (k : ℕ). puts columns 0 (fours bs 3 k)) (sym e) }

  pub carried : (columns row : List ℤ) (k : ℕ) → k ≡ one bs 2 → (k ≡ 0 → ⊥) → k ≤ 16 → length bs ≡ 4 * k + 4 → 16 ≤ length columns → length row ≡ k
      → ((i : ℕ) → i < k → get_or row i (pos 0) ≡ four bs (4 * i + 3)) → Carried bs columns (Some k) (row ++ drop k columns)
  carried columns row k e z most n room l h =
      let c : count_of bs ≡ k = count_is (omega arith) (omega arith) (n ∙ ap (λ (j : ℕ). 4 * j + 4) e) ∙ sym e in
      let r : row ≡ fours bs 3 k =
      ext_get_or (pos 0) row (fours bs 3 k) (l ∙ sym (fours_length bs 3 k)) (λ i g. h i (omega arith) ∙ sym (get_or_fours bs 3 k i (omega arith))) in
      let f = fours_length bs 3 k in
      record {
        count = simp (c, ne_eqb k 0 z);
        put =
            ap (λ (s : List ℤ). s ++ drop k columns) r
            ∙ ap (λ (j : ℕ). fours bs 3 k ++ drop j columns) (sym f ∙ sym (zero-add (length (fours bs 3 k))))
            ∙ sym (puts_is columns 0 (fours bs 3 k) (omega arith))
            ∙ ap (λ (j : ℕ). puts columns 0 (fours bs 3 j)) (sym c);
      }

-- bytes of a header's length carry no columns
module _ (bs : List ℕ) (n : length bs ≡ 11) where
  no_carrier : (row : ℕ → List ℤ → Frame) → carrier_of row bs ≡ bad
  unfolding carrier_of
  no_carrier row = let z = no_count bs (λ a b d. omega arith) in simp z

  pub not_header : (one bs 0 ≡ 16 → ⊥) → kind_of bs ≡ bad
  unfolding kind_of
  not_header h =
      cond_elim (λ (f : Frame). f ≡ bad) (eqb (one bs 0) 16) (λ e. absurd (h (eqb-true _ _ e)))
      (λ _. cond_elim (λ (f : Frame). f ≡ bad) (eqb (one bs 0) 17) (λ _. no_carrier bottom)
      (λ _. cond_elim (λ (f : Frame). f ≡ bad) (eqb (one bs 0) 18) (λ _. no_carrier top) (λ _. refl)))

  no_columns : columns_of (kind_of bs) ≡ []
  unfolding kind_of header_of
  no_columns =
      cond_elim (λ (f : Frame). columns_of f ≡ []) (eqb (one bs 0) 16)
      (λ _. cond_elim (λ (f : Frame). columns_of f ≡ []) (eqb (length bs) 11) (λ _. refl) (λ _. refl))
      (λ _. cond_elim (λ (f : Frame). columns_of f ≡ []) (eqb (one bs 0) 17) (λ _. ap columns_of (no_carrier bottom))
      (λ _. cond_elim (λ (f : Frame). columns_of f ≡ []) (eqb (one bs 0) 18) (λ _. ap columns_of (no_carrier top)) (λ _. refl)))

  pub header_in : (columns : List ℤ) → ReadIn (kind_of bs) columns (said_of (kind_of bs)) columns
  unfolding puts
  header_in columns = record { said = refl; carried = ap (puts columns 0) (sym no_columns) }

-- what bytes of one kind say
module _ (bs : List ℕ) (columns columns' : List ℤ) where
  -- of columns, in either row
  module _ (row : ℕ → List ℤ → Frame) (says : ℕ → ℕ → Said) (s : (l : ℕ) (cs : List ℤ) → said_of (row l cs) ≡ Some (says l (length cs)))
      (c : (l : ℕ) (cs : List ℤ) → columns_of (row l cs) ≡ cs) where
    row_in : kind_of bs ≡ carrier_of row bs → (r : Option ℕ) → Carried bs columns r columns'
        → ReadIn (kind_of bs) columns (option_map (says (one bs 1)) r) columns'
    unfolding carrier_of fours
    row_in is r h =
        either (eqb (count_of bs) 0)
        (λ z.
        let f : kind_of bs ≡ bad = is ∙ simp z in
        let e : r ≡ None = h.count ∙ simp z in
        record {
          said = ap (option_map (says (one bs 1))) e ∙ ap said_of (sym f);
          carried = h.put ∙ ap (λ (k : ℕ). puts columns 0 (fours bs 3 k)) (eqb-true _ _ z) ∙ ap (λ (g : Frame). puts columns 0 (columns_of g)) (sym f);
        })
        (λ z.
        let cs : List ℤ = fours bs 3 (count_of bs) in
        let f : kind_of bs ≡ row (one bs 1) cs = is ∙ simp z in
        let e : r ≡ Some (count_of bs) = h.count ∙ simp z in
        let n : count_of bs ≡ length cs = sym (fours_length bs 3 (count_of bs)) in
        record {
          said = ap (option_map (says (one bs 1))) e ∙ ap (λ (k : ℕ). Some (says (one bs 1) k)) n ∙ sym (s (one bs 1) cs) ∙ ap said_of (sym f);
          carried = h.put ∙ ap (puts columns 0) (sym (ap columns_of f ∙ c (one bs 1) cs));
        })

  pub bottom_in : one bs 0 ≡ 17 → (r : Option ℕ) → Carried bs columns r columns' → ReadIn (kind_of bs) columns (option_map (Bottom (one bs 1)) r) columns'
  unfolding kind_of
  bottom_in k = row_in bottom Bottom (λ l cs. refl) (λ l cs. refl) (simp k)

  pub top_in : one bs 0 ≡ 18 → (r : Option ℕ) → Carried bs columns r columns' → ReadIn (kind_of bs) columns (option_map (Top (one bs 1)) r) columns'
  unfolding kind_of
  top_in k = row_in top Top (λ l cs. refl) (λ l cs. refl) (simp k)

other_bad : (bs : List ℕ) → (length bs ≡ 11 → ⊥) → (one bs 0 ≡ 17 → ⊥) → (one bs 0 ≡ 18 → ⊥) → kind_of bs ≡ bad
unfolding kind_of header_of
other_bad bs h b t = either (eqb (one bs 0) 16) (λ e. simp (e, ne_eqb _ _ h)) (λ e. simp (e, ne_eqb _ _ b, ne_eqb _ _ t))

pub other_in : (bs : List ℕ) (columns : List ℤ) → (length bs ≡ 11 → ⊥) → (one bs 0 ≡ 17 → ⊥) → (one bs 0 ≡ 18 → ⊥) → ReadIn (kind_of bs) columns None columns
other_in bs columns h b t = bad_read (kind_of bs) columns (other_bad bs h b t)

-- ---- the two digits of a kind

kind_digits : (s : List ℕ) (v : ℕ) → is_sound s ≡ true → 2 ≤ length s → v < 10 → one (bytes_of s) 0 ≡ 16 + v → (get_or s 0 0 ≡ 49) × (get_or s 1 0 ≡ 48 + v)
kind_digits s v ok h small e =
    let p = byte_place s 0 (omega arith) in
    let x = value_small (get_or s 0 0) in
    let y = value_small (get_or s 1 0) in
    let d = sound_digits s ok in (
      low_digit (get_or s 0 0) 1 (digit_at s 0 d (omega arith)) (omega arith) (omega arith),
      low_digit (get_or s 1 0) v (digit_at s 1 d (omega arith)) (omega arith) small,
    )

-- of a header's length, but not 10
pub no_header : (s : List ℕ) → length s ≡ 22 → (get_or s 0 0 ≡ 49 → get_or s 1 0 ≡ 48 → ⊥) → text_frame s ≡ bad
unfolding text_frame
no_header s l n =
    either (is_sound s)
    (λ ok.
    let b = bytes_length s in
    let e = not_header (bytes_of s) (omega arith) (λ k. let d = kind_digits s 0 ok (omega arith) (omega arith) k in n d.0 d.1) in
    simp ok e)
    (λ no. unsound_bad s no)

-- of a length for columns, but neither 11 nor 12
pub no_row : (s : List ℕ) → (length s % 8 ≡ 0) × (16 ≤ length s) → (get_or s 0 0 ≡ 49 → (get_or s 1 0 ≡ 49) ⊎ (get_or s 1 0 ≡ 50) → ⊥) → text_frame s ≡ bad
unfolding text_frame
no_row s l n =
    either (is_sound s)
    (λ ok.
    let b = bytes_length s in
    let e = other_bad (bytes_of s) (λ k. omega (arith, l.0))
    (λ k. let d = kind_digits s 1 ok (omega (arith, l.1)) (omega arith) k in n d.0 (inl d.1))
    (λ k. let d = kind_digits s 2 ok (omega (arith, l.1)) (omega arith) k in n d.0 (inr d.1)) in
    simp ok e)
    (λ no. unsound_bad s no)

-- ---- the line feed

pub fed_frame : (text : List ℕ) → frame_of (text ++ (10 ∷ [])) ≡ text_frame text
unfolding frame_of is_fed
fed_frame text =
    let l : length (text ++ (10 ∷ [])) ≡ length text + 1 = length-append text (10 ∷ []) in
    let a : 0 < length (text ++ (10 ∷ [])) = omega arith in
    let n : length (text ++ (10 ∷ [])) - 1 ≡ length text = omega arith in
    simp (lt-ltb _ _ a, n, get_or-append_seam text 10 [] 0, take-append_seam text (10 ∷ []))

pub unfed_bad : (line : List ℕ) → is_fed line ≡ false → frame_of line ≡ bad
unfolding frame_of
unfed_bad line e = simp e

pub fed_last : (text : List ℕ) (b : ℕ) → (b ≡ 10 → ⊥) → is_fed (text ++ (b ∷ [])) ≡ false
unfolding is_fed
fed_last text b h =
    let l : length (text ++ (b ∷ [])) ≡ length text + 1 = length-append text (b ∷ []) in
    let a : 0 < length (text ++ (b ∷ [])) = omega arith in
    let n : length (text ++ (b ∷ [])) - 1 ≡ length text = omega arith in
    simp (lt-ltb _ _ a, n, get_or-append_seam text b [] 0, ne_eqb _ _ h)

-- the reader takes the line feed off
pub fed_is : (line : List ℕ) → pointwise eqb (drop (length line - 1) line) (10 ∷ []) ≡ is_fed line
unfolding is_fed
fed_is [] = refl
fed_is (b ∷ bs) =
    let n : length bs < length (b ∷ bs) = omega arith in
    let d : drop (length bs) (b ∷ bs) ≡ get_or (b ∷ bs) (length bs) 0 ∷ [] =
    drop-cons (b ∷ bs) (length bs) 0 n ∙ ap (λ (l : List ℕ). get_or (b ∷ bs) (length bs) 0 ∷ l) (drop_of_length-le bs (omega arith)) in
    let z : 0 < length (b ∷ bs) = omega arith in
    let m : length (b ∷ bs) - 1 ≡ length bs = omega arith in
    either (eqb (get_or (b ∷ bs) (length bs) 0) 10) (λ e. simp (lt-ltb _ _ z, m, d, e)) (λ e. simp (lt-ltb _ _ z, m, d, e))

pub fed_text : (line : List ℕ) → is_fed line ≡ true → frame_of line ≡ text_frame (take (length line - 1) line)
unfolding frame_of
fed_text line e = simp e
