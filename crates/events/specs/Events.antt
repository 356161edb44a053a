-- WHAT THE FRAMES OF A SHEET DO (01, "Sheets"). `events_of` tells it from the list of a sheet's bytes: one event for each frame, and one for the end of
-- input. Which bytes answer an event is said elsewhere (sheet's Machine.antt).
--
-- Worked: a sheet of eight lines, and its nine events. O is the order of the first line, P that of the seventh.
--
--     10000001000000000000EF    opens O              line 0 of 1 pair, separation 0, offset 0
--     11000100000005E9          fills O [5] []       column 5 of the bottom row
--     12000100000005E8          completes O [5] [5]
--     12000100000005E8          refuses 255 14       a good frame where no line is open
--     10000001000000000000EF    refuses 0 15         line 0 was seen
--     hello                     passes               skipping
--     10010001000000000000EE    opens P              line 1
--     10020000000000000000EE    cuts 1 (refuses 2 2) line 1 isn't complete; line 2 has no pairs
--                               passes               the end, while it skips
use Rattle.std.specs.Prelude.{Bool, true, false, cond, List, [], ◌∷◌, ◌++◌, map, ℕ, ◌+◌, eqb, ltb, leb, length, ℤ}
use Rattle.jumper.specs.Limits.{max_pairs, max_lines}
use Rattle.jumper.specs.declared.refusal.Refusal.{Refusal}
use Rattle.jumper.specs.declared.refusal.Refusal.TheVariants.{Empty, Long, Line, Frame as BadFrame, Sequence, Twice}
use Rattle.frame.specs.Frame.{Frame, bad, header, bottom, top, frame_of}
use Rattle.frame.specs.declared.read.Order.{Order}
use Rattle.events.specs.Lines.{lines_of}

-- "It is ready, inside a line, or skipping": inside, with what the header ordered and the columns of both rows so far
pub data Mode : Type 0 where
  ready : Mode
  inside : Order → List ℤ → List ℤ → Mode
  skipping : Mode

pub data Event : Type 0 where
  -- a header opens its line
  opens : Order → Event
  -- columns go to the open line: its rows so far
  fills : Order → List ℤ → List ℤ → Event
  -- both rows are full
  completes : Order → List ℤ → List ℤ → Event
  -- a line number is answered a refusal, and then it skips
  refuses : ℕ → Refusal → Event
  -- a header inside a line: the open line, of this number, is answered SEQUENCE, then the header does this
  cuts : ℕ → Event → Event
  -- it is passed over
  passes : Event

-- where the machine is after an event: "answers .., then it skips", "after a complete line it is ready"
abbrev pub mode_after : Event → Mode
mode_after (opens o) = inside o [] []
mode_after (fills o a b) = inside o a b
mode_after (completes o a b) = ready
mode_after (refuses l r) = skipping
mode_after (cuts l e) = mode_after e
mode_after passes = skipping

-- "A header is refused under its own line number, and then skipped, for 12 (line over 63), 15, 2 or 3, in this order"; else it opens its line.
-- `seen` tells which line numbers an earlier good 10 had
unfoldable pub headed : (ℕ → Bool) → Order → Event
headed seen o =
    cond (leb max_lines o.line) (refuses o.line Line)
    (cond (seen o.line) (refuses o.line Twice)
    (cond (eqb o.pairs 0) (refuses o.line Empty)
    (cond (ltb max_pairs o.pairs) (refuses o.line Long)
    (opens o))))

-- "until n of each": k columns for line l are next in a row that has some already if they name the open line and don't pass n
unfoldable pub is_next : Order → (have l k : ℕ) → Bool
is_next o have l k = cond (eqb l o.line) (leb (have + k) o.pairs) false

-- "A good frame that names another line, is a 12 before the bottom row is full or an 11 after, or passes n, is out of sequence"
unfoldable pub fills_bottom : Order → List ℤ → List ℤ → ℕ → List ℤ → Event
fills_bottom o a b l cs = cond (is_next o (length a) l (length cs)) (fills o (a ++ cs) b) (refuses o.line Sequence)

unfoldable pub fills_top : Order → List ℤ → List ℤ → ℕ → List ℤ → Event
fills_top o a b l cs =
    cond (cond (eqb (length a) o.pairs) (is_next o (length b) l (length cs)) false)
    (cond (eqb (length b + length cs) o.pairs) (completes o a (b ++ cs)) (fills o a (b ++ cs)))
    (refuses o.line Sequence)

unfoldable pub event : (ℕ → Bool) → Mode → Frame → Event
-- "Ready or skipping, a good 10 opens a line. Ready, anything else answers line FF with 13 or 14, then it skips."
event seen ready (header o) = headed seen o
event seen ready bad = refuses 255 BadFrame
event seen ready (bottom l cs) = refuses 255 Sequence
event seen ready (top l cs) = refuses 255 Sequence
-- "Inside, answers name the open line: a bad frame answers 13 and skips; a wrong good frame answers 14 and skips, but a 10 then opens its line"
event seen (inside o a b) bad = refuses o.line BadFrame
event seen (inside o a b) (header o') = cuts o.line (headed seen o')
event seen (inside o a b) (bottom l cs) = fills_bottom o a b l cs
event seen (inside o a b) (top l cs) = fills_top o a b l cs
-- "Skipping, all but a 10 is passed over."
event seen skipping (header o) = headed seen o
event seen skipping bad = passes
event seen skipping (bottom l cs) = passes
event seen skipping (top l cs) = passes

-- "end of input answers 14", inside a line
abbrev pub at_end : Mode → Event
at_end ready = passes
at_end (inside o a b) = refuses o.line Sequence
at_end skipping = passes

-- "TWICE: an earlier good 10 on this sheet had this line number", refused ones too
abbrev pub noted : (ℕ → Bool) → Frame → ℕ → Bool
noted seen (header o) l = cond (eqb l o.line) true (seen l)
noted seen bad l = seen l
noted seen (bottom k cs) l = seen l
noted seen (top k cs) l = seen l

unfoldable pub events : (ℕ → Bool) → Mode → List Frame → List Event
events seen m [] = at_end m ∷ []
events seen m (f ∷ fs) = event seen m f ∷ events (noted seen f) (mode_after (event seen m f)) fs

-- THE definition
unfoldable pub events_of : List ℕ → List Event
events_of sheet = events (λ l. false) ready (map frame_of (lines_of sheet))
