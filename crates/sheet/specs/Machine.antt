-- THE ANSWER TO A SHEET (01, "Sheets"). `answers` says which bytes answer a sheet, from the list of its bytes: those of its events, one after the
-- other. Which events those are is said by events' Events.antt; what the calls promise is about `answers`.
--
-- Worked: the example of 01 stands in tests/sheets, with others for each event.
use Rattle.std.specs.Prelude.{cond, List, [], ◌∷◌, ◌++◌, ℕ, eqb, length, ℤ}
use Rattle.wiring.specs.Wiring.{pad, top_pad}
use Rattle.wiring.specs.Drawing.{drawn}
use Rattle.jumper.specs.Refusals.{refusal_numbers}
use Rattle.jumper.specs.declared.refusal.Numbers.{Numbers}
use Rattle.jumper.specs.declared.refusal.Refusal.{Refusal}
use Rattle.jumper.specs.declared.refusal.Refusal.TheVariants.{Sequence}
use Rattle.frame.specs.Written.{answer_line}
use Rattle.frame.specs.declared.write.Answer.{Answer}
use Rattle.events.specs.Events.{Event, opens, fills, completes, refuses, cuts, passes, events_of}
use Rattle.route.specs.Moves.{wires_text}
use Rattle.sheet.specs.Planned.{planned}

-- the frame 20 of a line
abbrev pub shown : ℕ → Numbers → Answer
shown l k = record { line = l; refusal = k.refusal; separation = k.separation; lowest = k.lowest; highest = k.highest; pair = k.pair; side = k.side }

unfoldable pub refusal_text : ℕ → Refusal → List ℕ
refusal_text l r = answer_line (shown l (refusal_numbers r))

-- the frames 21 "after the 20 of a line not refused"
abbrev pub route_text : ℕ → Numbers → List ℤ → List ℤ → List ℕ
route_text l k a b = cond (eqb k.refusal 0) (wires_text l (drawn (length a) (pad a) (top_pad b k.lowest)) k.separation 0 (length a)) []

unfoldable pub line_text : ℕ → Numbers → List ℤ → List ℤ → List ℕ
line_text l k a b = answer_line (shown l k) ++ route_text l k a b

-- the bytes that answer an event
abbrev pub text_of : Event → List ℕ
text_of (opens o) = []
text_of (fills o a b) = []
text_of (completes o a b) = line_text o.line (planned o.separation o.offset a b) a b
text_of (refuses l r) = refusal_text l r
text_of (cuts l e) = refusal_text l Sequence ++ text_of e
text_of passes = []

unfoldable pub told : List Event → List ℕ
told [] = []
told (e ∷ es) = text_of e ++ told es

unfoldable pub answers : List ℕ → List ℕ
answers sheet = told (events_of sheet)
