-- What the parts of the code promise each other. No reader needs to believe these: the calls' own promises are in Owes.
use Rattle.std.specs.Prelude.{true, ◌≡◌, Option, None, Some, is_some, List, ◌++◌, ℕ, ◌+◌, ◌<◌, ◌≤◌, length, get_or, take, drop, ℤ}
use Rattle.frame.specs.Frame.{Frame}
use Rattle.frame.specs.declared.write.Answer.{Answer}
use Rattle.events.specs.Events.{mode_after, event, noted}
use Rattle.events.specs.Steps.{mode_of, seen_by}
use Rattle.sheet.specs.Machine.{text_of}
use Rattle.sheet.specs.Owes.{frames_from, due_text, pending, owes}
use Rattle.sheet.specs.declared.state.State.{State}

-- a line's text f is taken in where nothing is to be written
pub record Reacted (s : State) (a b : List ℤ) (f : Frame) (r : State) (a' b' : List ℤ) : Type 0 where
  pub out : pending r a' b' ≡ text_of (event (seen_by s.machine) (mode_of s.machine a b) f)
  pub to : mode_of r.machine a' b' ≡ mode_after (event (seen_by s.machine) (mode_of s.machine a b) f)
  pub seen : (l : ℕ) → l < 64 → seen_by r.machine l ≡ noted (seen_by s.machine) f l
  pub begun : r.at ≡ 0

-- bytes without a line feed
abbrev pub NoFeed : List ℕ → Type 0
NoFeed bytes = (j : ℕ) → j < length bytes → get_or bytes j 0 ≡ 10 → ⊥

-- bytes are kept as text, if none of them is a line feed
pub record Kept (line : List ℕ) (at : ℕ) (bytes : List ℕ) (at' : ℕ) (line' : List ℕ) : Type 0 where
  pub frames : NoFeed bytes → (rest : List ℕ) → frames_from (take at line) (bytes ++ rest) ≡ frames_from (take at' line') rest
  pub within : at' ≤ length line'

-- a line is taken in as far as a piece has it, of which that is `used`
pub record TakenIn (s : State) (line : List ℕ) (a b : List ℤ) (piece : List ℕ) (r : State) (used : ℕ) (line' : List ℕ) (a' b' : List ℤ) : Type 0 where
  pub owed : (rest : List ℕ) → owes s line a b (piece ++ rest) ≡ owes r line' a' b' (drop used piece ++ rest)
  pub within : used ≤ length piece
  pub some : 0 < used

-- a frame 20, if there is one, stands in the buffer from place `from` to place `to`, which is within the buffer if `from` was
pub record AnswerPut (k : Option Answer) (out : List ℕ) (from to : ℕ) (out' : List ℕ) : Type 0 where
  pub gave : take to out' ≡ take from out ++ due_text k
  pub fits : from ≤ length out → to ≤ length out

-- the same, or it has no room: then nothing is changed, and fewer than 35 places are left
abbrev pub AnswerGiven : Option Answer → List ℕ → ℕ → Option ℕ → List ℕ → Type 0
AnswerGiven k out from None out' = (out' ≡ out) × (length out < from + 35) × (is_some k ≡ true)
AnswerGiven k out from (Some to) out' = AnswerPut k out from to out'
