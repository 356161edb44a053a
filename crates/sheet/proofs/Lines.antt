-- Lines, texts and frames: what keeping the bytes of a line comes to.
use Rattle.std.proofs.Common.{min, None, Some}
use Rattle.memchr.specs.Find.{IsFirstByte, is_byte}
use mathlib.Core.Path.{◌≡◌, refl, sym, ap, ◌∙◌}
use mathlib.Core.Bool.{false}
use mathlib.Core.List.{List, [], ◌∷◌, ◌++◌, map, append_assoc, append-nil}
use Prim.Native.Nat.{ℕ, suc, ◌+◌, ◌-◌, ◌<◌, ◌≤◌}
use native.Mathlib.Numerals.{add-one}
use native.Mathlib.Omega.{arith}
use lib.Dec.{eqb, leb}
use lib.ListN.{length, drop, take, length-append, take-append-drop}
use lib.Seq.{drop-cons, take_all, get_or-take, length-take-le}
use borrow.Author.Tests.{eq-eqb, eqb-true, ne_eqb, eqb-false, leb-true, leb-false}
use Rattle.frame.specs.Frame.{Frame, text_frame, is_fed, frame_of}
use Rattle.frame.proofs.Scan.{either}
use Rattle.frame.proofs.Frames.{long_bad, fed_frame, fed_last, unfed_bad}
use Rattle.events.specs.Lines.{last_line, lines_from, lines_of}
use Rattle.sheet.specs.Owes.{last_frame, frames_from}
use Rattle.sheet.specs.Parts.{NoFeed, Kept}

-- ---- the frames of the lines of a sheet

last_frame_lem : (text : List ℕ) → is_fed text ≡ false → last_frame text ≡ map frame_of (last_line text)
unfolding last_frame last_line
last_frame_lem [] h = refl
last_frame_lem (b ∷ bs) h = ap (λ (f : Frame). f ∷ []) (sym (unfed_bad (b ∷ bs) h))

frames_lines : (text rest : List ℕ) → is_fed text ≡ false → frames_from text rest ≡ map frame_of (lines_from text rest)
unfolding frames_from lines_from is_fed
frames_lines text [] h = last_frame_lem text h
frames_lines text (b ∷ rest) h =
    either (eqb b 10)
    (λ e. simp (e, fed_frame text) (ap (λ (fs : List Frame). text_frame text ∷ fs) (frames_lines [] rest refl)))
    (λ e. simp e (frames_lines (text ++ (b ∷ [])) rest (fed_last text b (eqb-false b 10 e))))

pub sheet_frames : (sheet : List ℕ) → frames_from [] sheet ≡ map frame_of (lines_of sheet)
unfolding is_fed
sheet_frames sheet = frames_lines [] sheet refl

-- ---- of a text that is too long already nothing more counts

last_long : (text text' : List ℕ) → 136 < length text → 136 < length text' → last_frame text ≡ last_frame text'
unfolding last_frame
last_long [] text' h h' = absurd (omega arith)
last_long (a ∷ text) [] h h' = absurd (omega arith)
last_long (a ∷ text) (b ∷ text') h h' = refl

long : (text text' rest : List ℕ) → 136 < length text → 136 < length text' → frames_from text rest ≡ frames_from text' rest
unfolding frames_from
long text text' [] h h' = last_long text text' h h'
long text text' (b ∷ rest) h h' =
    either (eqb b 10)
    (λ e. simp (e, long_bad text h, long_bad text' h'))
    (λ e. simp e (long (text ++ (b ∷ [])) (text' ++ (b ∷ [])) rest (simp length-append (omega arith)) (simp length-append (omega arith))))

-- ---- bytes without a line feed

no_feed : (text bytes rest : List ℕ) → NoFeed bytes → frames_from text (bytes ++ rest) ≡ frames_from (text ++ bytes) rest
unfolding frames_from
no_feed text [] rest h = ap (λ (l : List ℕ). frames_from l rest) (sym (append-nil text))
no_feed text (b ∷ bytes) rest h =
    let e : eqb b 10 ≡ false = ne_eqb b 10 (h 0 (omega arith)) in
    simp e (no_feed (text ++ (b ∷ [])) bytes rest (λ j g. h (suc j) (omega arith)) ∙ ap (λ (l : List ℕ). frames_from l rest) (append_assoc text (b ∷ []) bytes))

-- ---- a line's bytes kept

-- n bytes go to place m of a line: as many as there are, or as many as it has room for
pub kept : (line bytes line' : List ℕ) (at m n : ℕ) → length line ≡ 160 → length line' ≡ 160 → m ≡ min at 160 → n ≡ min (length bytes) (160 - m)
    → take (m + n) line' ≡ take m line ++ take n bytes → Kept line at bytes (m + n) line'
kept line bytes line' at m n l l' em en e =
    record {
      frames = λ none rest.
          no_feed (take at line) bytes rest none
          ∙ either (leb (length bytes) (160 - m))
          (λ q.
          let w : length bytes ≤ 160 - m = leb-true _ _ q in
          let b : take n bytes ≡ bytes = take_all n bytes (omega arith) in
          ap (λ (t : List ℕ). frames_from t rest) (ap (λ (t : List ℕ). t ++ bytes) same ∙ sym (e ∙ ap (λ (t : List ℕ). take m line ++ t) b)))
          (λ q.
          let w : 160 - m < length bytes = leb-false _ _ q in
          let x : length (take m line) ≡ m = length-take-le m line (omega arith) in
          let y : length (take (m + n) line') ≡ m + n = length-take-le (m + n) line' (omega arith) in
          long (take at line ++ bytes) (take (m + n) line') rest (simp same (simp length-append (omega arith))) (omega arith));
      within = omega arith;
    }
  where
    same : take at line ≡ take m line
    same =
        either (leb at 160)
        (λ q. let h : at ≤ 160 = leb-true _ _ q in let k : at ≡ m = omega arith in ap (λ (i : ℕ). take i line) k)
        (λ q. let h : 160 < at = leb-false _ _ q in take_all at line (omega arith) ∙ sym (take_all m line (omega arith)))

-- ---- a line's end

pub none : (piece : List ℕ) → IsFirstByte (is_byte 10) piece None → NoFeed piece
none piece f j h e = f j (omega arith) h (eq-eqb _ _ e)

-- the first line feed of a piece is at place n
module _ (piece : List ℕ) (n : ℕ) (first : IsFirstByte (is_byte 10) piece (Some n)) where
  pub below : n < length piece
  below = first.0.high

  before : NoFeed (take n piece)
  before j g e =
      let l : length (take n piece) ≡ n = length-take-le n piece (omega (arith, below)) in
      first.0.before j (omega arith) (omega arith) (eq-eqb _ _ (sym (get_or-take n piece j 0 (omega arith)) ∙ e))

  cut_at : piece ≡ take n piece ++ (10 ∷ drop (n + 1) piece)
  cut_at = sym (take-append-drop n piece) ∙ ap (λ (l : List ℕ). take n piece ++ l) (rw (add-one, drop-cons piece n 0 below, eqb-true _ _ first.1))

  ends : (line rest : List ℕ) → frames_from line (10 ∷ rest) ≡ text_frame line ∷ frames_from [] rest
  unfolding frames_from
  ends line rest = refl

  whole : (line : List ℕ) (t : List ℕ) (at : ℕ) → ((rest : List ℕ) → frames_from (take at line) (take n piece ++ rest) ≡ frames_from t rest)
      → (rest : List ℕ) → frames_from (take at line) (piece ++ rest) ≡ text_frame t ∷ frames_from [] (drop (n + 1) piece ++ rest)
  whole line t at k rest =
      ap (λ (l : List ℕ). frames_from (take at line) (l ++ rest)) cut_at
      ∙ ap (frames_from (take at line)) (append_assoc (take n piece) (10 ∷ drop (n + 1) piece) rest)
      ∙ k (10 ∷ (drop (n + 1) piece ++ rest))
      ∙ ends t (drop (n + 1) piece ++ rest)

  -- it stands in the piece
  pub stands : (line : List ℕ) (at : ℕ) → at ≡ 0 → (rest : List ℕ)
      → frames_from (take at line) (piece ++ rest) ≡ text_frame (take n piece) ∷ frames_from [] (drop (n + 1) piece ++ rest)
  stands line at e = whole line (take n piece) at (λ rest. ap (λ (i : ℕ). frames_from (take i line) (take n piece ++ rest)) e ∙ no_feed [] (take n piece) rest before)

  -- it began before the piece
  pub goes_on : (line line' : List ℕ) (at k : ℕ) → Kept line at (take n piece) k line' → (rest : List ℕ)
      → frames_from (take at line) (piece ++ rest) ≡ text_frame (take k line') ∷ frames_from [] (drop (n + 1) piece ++ rest)
  goes_on line line' at k g = whole line (take k line') at (g.frames before)
