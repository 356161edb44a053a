-- What the parts of the code promise each other. No reader needs to believe these: the calls' own promises are in Steps.
use Rattle.std.specs.Prelude.{Bool, cond, ◌≡◌, List, ℕ, ◌+◌, length, take, ℤ, Option, None, Some}
use Rattle.jumper.specs.declared.refusal.Refusal.{Refusal}
use Rattle.jumper.specs.declared.refusal.Refusal.TheVariants.{Frame as BadFrame, Sequence}
use Rattle.frame.specs.Frame.{Frame, bad, header, bottom, top}
use Rattle.frame.specs.Puts.{puts}
use Rattle.frame.specs.declared.read.Order.{Order}
use Rattle.frame.specs.declared.read.Said.{Said}
use Rattle.frame.specs.declared.read.Said.TheVariants.{Header, Bottom, Top}
use Rattle.events.specs.Events.{Event, refuses, passes, headed, is_next, fills_bottom, fills_top}
use Rattle.events.specs.Steps.{step_of, bottom_of, top_of}
use Rattle.events.specs.declared.machine.OpenLine.{OpenLine}
use Rattle.events.specs.declared.machine.Phase.{Phase}
use Rattle.events.specs.declared.machine.Phase.TheVariants.{Ready, Inside, Skipping}
use Rattle.events.specs.declared.step.Step.{Step}

-- what a frame that isn't a header does outside of a line
abbrev pub missed : Phase → Refusal → Event
missed Ready r = refuses 255 r
missed (Inside p) r = passes
missed Skipping r = passes

-- what a frame does outside of a line, whatever its columns are
abbrev pub outside_event : Phase → (ℕ → Bool) → Option Said → Event
outside_event p seen None = missed p BadFrame
outside_event p seen (Some (Header o)) = headed seen o
outside_event p seen (Some (Bottom l k)) = missed p Sequence
outside_event p seen (Some (Top l k)) = missed p Sequence

-- the frame by what was read, with its columns from lent memory; how many they are
abbrev pub framed : Option Said → List ℤ → Frame
framed None cs = bad
framed (Some (Header o)) cs = header o
framed (Some (Bottom l k)) cs = bottom l (take k cs)
framed (Some (Top l k)) cs = top l (take k cs)

abbrev pub count_said : Option Said → ℕ
count_said None = 0
count_said (Some (Header o)) = 0
count_said (Some (Bottom l k)) = k
count_said (Some (Top l k)) = k

-- columns for line l stored in a row that has some already, if they are next in it, and how many it has then
pub record RowFilled (o : Order) (have l : ℕ) (columns row : List ℤ) (r : Option ℕ) (row' : List ℤ) : Type 0 where
  pub count : r ≡ cond (is_next o have l (length columns)) (Some (have + length columns)) None
  pub put : row' ≡ cond (is_next o have l (length columns)) (puts row have columns) row

-- columns for line l go to the open line's bottom row, or to its top row, if they are in their place
abbrev pub bottom_event : OpenLine → (columns a b : List ℤ) (l : ℕ) → Event
bottom_event p columns a b l = fills_bottom p.order (take p.bottom a) b l columns

abbrev pub top_event : OpenLine → (columns a b : List ℤ) (l : ℕ) → Event
top_event p columns a b l = fills_top p.order a (take p.top b) l columns

pub record BottomPut (p : OpenLine) (seen : ℕ) (columns a b : List ℤ) (l : ℕ) (t : Step) (a' : List ℤ) : Type 0 where
  pub answer : t ≡ step_of (bottom_event p columns a b l) seen
  pub put : a' ≡ puts a 0 (bottom_of (bottom_event p columns a b l))

pub record TopPut (p : OpenLine) (seen : ℕ) (columns a b : List ℤ) (l : ℕ) (t : Step) (b' : List ℤ) : Type 0 where
  pub answer : t ≡ step_of (top_event p columns a b l) seen
  pub put : b' ≡ puts b 0 (top_of (top_event p columns a b l))
