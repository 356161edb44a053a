-- What a state stands for, and what the calls promise. The state goes by value; the line so far and the rows are in lent memory.
--
-- `owes s line a b rest` is all that is still to come out, for any rest of the sheet. A fresh state owes `answers sheet`; each call hands out a
-- part of what is owed and leaves a state that owes what is left. So whatever the pieces are, what comes out in all is `answers sheet`
-- (the law `whole_sheet` of proofs/Feeds.antt, for runs that empty the buffer after each call).
use Rattle.std.specs.Prelude.{Bool, true, false, cond, ◌&&◌, ◌||◌, Option, None, Some, is_some}
use Rattle.std.specs.Prelude.{◌≡◌, List, [], ◌∷◌, ◌++◌, ℕ, ◌+◌, ◌<◌, ◌≤◌, eqb, ltb, leb, length, take, drop, ℤ}
use Rattle.jumper.specs.Limits.{max_pairs}
use Rattle.jumper.specs.declared.refusal.Refusal.TheVariants.{Sequence}
use Rattle.frame.specs.Frame.{Frame, bad, text_frame}
use Rattle.frame.specs.Written.{answer_line}
use Rattle.frame.specs.declared.write.Answer.{Answer}
use Rattle.route.specs.Moves.{moves_left}
use Rattle.events.specs.Events.{events}
use Rattle.events.specs.Steps.{mode_of, seen_by}
use Rattle.sheet.specs.Machine.{refusal_text, told, answers}
use Rattle.sheet.specs.declared.state.Route.{Route}
use Rattle.sheet.specs.declared.state.State.{State}

-- the frames of what is left of a sheet, where the current line has this text so far; a last line without its line feed is bad
unfoldable pub last_frame : List ℕ → List Frame
last_frame [] = []
last_frame (b ∷ bs) = bad ∷ []

unfoldable pub frames_from : List ℕ → List ℕ → List Frame
frames_from text [] = last_frame text
frames_from text (b ∷ bs) = cond (eqb b 10) (text_frame text ∷ frames_from [] bs) (frames_from (text ++ (b ∷ [])) bs)

-- what is still to write: the 20 of a line that was cut off, a 20, and the rest of a route, whose rows are in lent memory
abbrev pub cut_text : Option ℕ → List ℕ
cut_text None = []
cut_text (Some l) = refusal_text l Sequence

abbrev pub due_text : Option Answer → List ℕ
due_text None = []
due_text (Some k) = answer_line k

abbrev pub wired_text : Route → List ℤ → List ℤ → List ℕ
wired_text r a b = moves_left r.line r.separation r.offset a b r.wire r.track

unfoldable pub left_text : Option Route → List ℤ → List ℤ → List ℕ
left_text None a b = []
left_text (Some r) a b = cond (leb r.wires max_pairs) (wired_text r (take r.wires a) (take r.wires b)) []

unfoldable pub pending : State → List ℤ → List ℤ → List ℕ
pending s a b = cut_text s.cut ++ (due_text s.due ++ left_text s.route a b)

-- what will answer the events of the rest of the sheet
unfoldable pub later : State → List ℕ → List ℤ → List ℤ → List ℕ → List ℕ
later s line a b rest = told (events (seen_by s.machine) (mode_of s.machine a b) (frames_from (take s.at line) rest))

unfoldable pub owes : State → List ℕ → List ℤ → List ℤ → List ℕ → List ℕ
owes s line a b rest = pending s a b ++ later s line a b rest

-- whether a route has wires left, and whether anything may be left to write
abbrev pub has_wires : Option Route → Bool
has_wires None = false
has_wires (Some r) = leb r.wires max_pairs && ltb r.wire r.wires

unfoldable pub is_busy : State → Bool
is_busy s = is_some s.cut || is_some s.due || has_wires s.route

-- What `fresh` promises.
pub record Fresh (s : State) : Type 0 where
  pub owed : (line : List ℕ) (a b : List ℤ) (sheet : List ℕ) → owes s line a b sheet ≡ answers sheet

-- What `busy` promises: whether anything may be left to write. If not, nothing is owed but what the rest of the sheet brings.
pub record Busy (s : State) (r : Bool) : Type 0 where
  pub answer : r ≡ is_busy s
  pub idle : r ≡ false → (line : List ℕ) (a b : List ℤ) (rest : List ℕ) → owes s line a b rest ≡ later s line a b rest

-- What `feed` promises: a piece of the sheet is taken in as far as `used`, and what it calls for stands in the buffer from place `from` to place
-- `to`, which is within the buffer if `from` was. It stops before the piece ends only where fewer than 35 places are left, the length of a frame 20.
pub record Fed (s : State) (line : List ℕ) (a b : List ℤ) (piece out : List ℕ) (from : ℕ) (r : State) (used to : ℕ) (line' : List ℕ) (a' b' : List ℤ) (out' : List ℕ) : Type 0 where
  pub owed : (rest : List ℕ) → take from out ++ owes s line a b (piece ++ rest) ≡ take to out' ++ owes r line' a' b' (drop used piece ++ rest)
  pub within : used ≤ length piece
  pub fits : from ≤ length out → to ≤ length out
  pub far : used < length piece → length out < to + 35

-- What `give` promises: what is still to write stands in the buffer from place `from` to place `to`, which is
-- within the buffer if `from` was. It stops only where fewer than 35 places are left, the length of a frame 20.
pub record Given (s : State) (a b : List ℤ) (out : List ℕ) (from : ℕ) (r : State) (to : ℕ) (out' : List ℕ) : Type 0 where
  pub gave : take from out ++ pending s a b ≡ take to out' ++ pending r a b
  pub same : (line rest : List ℕ) → later r line a b rest ≡ later s line a b rest
  pub fits : from ≤ length out → to ≤ length out
  pub far : is_busy r ≡ true → length out < to + 35

-- What `finish` promises: the sheet ends here. With nothing left to write before, all that is owed is written after.
pub record Finished (s : State) (line : List ℕ) (a b : List ℤ) (r : State) : Type 0 where
  pub owed : owes s line a b [] ≡ owes r line a b []
  pub ended : is_busy s ≡ false → later r line a b [] ≡ []
  pub busy : is_busy s ≡ true → r ≡ s
