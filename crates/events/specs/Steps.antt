-- What a machine stands for, which step tells an event, and what the calls promise. The machine is a phase and a number; the rows of the open line are
-- in lent memory.
use Rattle.std.specs.Prelude.{Bool, false, cond, ◌≡◌, List, [], ℕ, ◌/◌, ◌%◌, ◌^◌, ◌<◌, ◌≤◌, eqb, leb, length, take, ℤ, Option, None, Some}
use Rattle.std.specs.Int.Bits.{bit_or}
use Rattle.jumper.specs.Limits.{max_pairs, max_lines}
use Rattle.frame.specs.Frame.{Frame, said_of}
use Rattle.frame.specs.Puts.{puts}
use Rattle.frame.specs.declared.read.Order.{Order}
use Rattle.frame.specs.declared.read.Said.{Said}
use Rattle.frame.specs.declared.read.Said.TheVariants.{Header, Bottom, Top}
use Rattle.events.specs.Events.{Mode, ready, inside, skipping, Event, opens, fills, completes, refuses, cuts, passes, mode_after, event, at_end, noted}
use Rattle.events.specs.declared.machine.Machine.{Machine}
use Rattle.events.specs.declared.machine.OpenLine.{OpenLine}
use Rattle.events.specs.declared.machine.Phase.{Phase}
use Rattle.events.specs.declared.machine.Phase.TheVariants.{Ready, Inside, Skipping}
use Rattle.events.specs.declared.step.Did.{Did}
use Rattle.events.specs.declared.step.Did.TheVariants.{Opened, Filled, Completed, Refused, Passed}
use Rattle.events.specs.declared.step.Step.{Step}

-- whether the counts of an open line are such as the calls make
unfoldable pub fits : OpenLine → Bool
fits p = cond (leb p.bottom p.order.pairs) (cond (leb p.top p.order.pairs) (leb p.order.pairs max_pairs) false) false

-- the line that a machine is inside of
unfoldable pub line_in : Phase → Option OpenLine
line_in Ready = None
line_in (Inside p) = cond (fits p) (Some p) None
line_in Skipping = None

-- where it is outside of one
abbrev pub outside : Phase → Mode
outside Ready = ready
outside (Inside p) = skipping
outside Skipping = skipping

abbrev pub mode_at : Option OpenLine → Phase → List ℤ → List ℤ → Mode
mode_at (Some p) q a b = inside p.order (take p.bottom a) (take p.top b)
mode_at None q a b = outside q

-- where the machine is, any numbers. A machine that no call made, whose counts can't be, stands for one that skips
unfoldable pub mode_of : Machine → List ℤ → List ℤ → Mode
mode_of m a b = mode_at (line_in m.phase) m.phase a b

-- the line numbers seen, as bits of one number
unfoldable pub has_line : ℕ → ℕ → Bool
has_line seen l = eqb (seen / 2 ^ l % 2) 1

unfoldable pub with_line : ℕ → ℕ → ℕ
with_line seen l = cond (leb max_lines l) seen (bit_or seen (2 ^ l))

abbrev pub seen_by : Machine → ℕ → Bool
seen_by m l = has_line m.seen l

-- the line numbers seen after a frame
abbrev pub seen_with : ℕ → Option Said → ℕ
seen_with seen None = seen
seen_with seen (Some (Header o)) = with_line seen o.line
seen_with seen (Some (Bottom l k)) = seen
seen_with seen (Some (Top l k)) = seen

-- ---- the step of an event

abbrev pub machine_at : Phase → (seen : ℕ) → Machine
machine_at p seen = record { phase = p; seen = seen }

abbrev pub inside_at : Order → (bottom top : ℕ) → Phase
inside_at o i j = Inside (record { order = o; bottom = i; top = j })

-- inside of a line
abbrev pub within : OpenLine → (seen : ℕ) → Machine
within p seen = machine_at (Inside p) seen

abbrev pub step_to : Machine → Did → Step
step_to m d = record { machine = m; cut = None; did = d }

-- the line that a header cuts off is named first
abbrev pub cut_off : ℕ → Step → Step
cut_off l t = record { machine = t.machine; cut = Some l; did = t.did }

abbrev pub step_of : Event → (seen : ℕ) → Step
step_of (opens o) seen = step_to (machine_at (inside_at o 0 0) seen) Opened
step_of (fills o a b) seen = step_to (machine_at (inside_at o (length a) (length b)) seen) Filled
step_of (completes o a b) seen = step_to (machine_at Ready seen) (Completed o)
step_of (refuses l r) seen = step_to (machine_at Skipping seen) (Refused l r)
step_of (cuts l e) seen = cut_off l (step_of e seen)
step_of passes seen = step_to (machine_at Skipping seen) Passed

-- the rows of an event
abbrev pub bottom_of : Event → List ℤ
bottom_of (opens o) = []
bottom_of (fills o a b) = a
bottom_of (completes o a b) = a
bottom_of (refuses l r) = []
bottom_of (cuts l e) = bottom_of e
bottom_of passes = []

abbrev pub top_of : Event → List ℤ
top_of (opens o) = []
top_of (fills o a b) = b
top_of (completes o a b) = b
top_of (refuses l r) = []
top_of (cuts l e) = top_of e
top_of passes = []

-- the event that a step tells, read with the lent rows
abbrev pub inside_told : Phase → (OpenLine → Event) → Event
inside_told Ready e = passes
inside_told (Inside p) e = e p
inside_told Skipping e = passes

abbrev pub told_by : Did → Machine → List ℤ → List ℤ → Event
told_by Opened m a b = inside_told m.phase (λ p. opens p.order)
told_by Filled m a b = inside_told m.phase (λ p. fills p.order (take p.bottom a) (take p.top b))
told_by (Completed o) m a b = completes o (take o.pairs a) (take o.pairs b)
told_by (Refused l r) m a b = refuses l r
told_by Passed m a b = passes

abbrev pub cut_first : Option ℕ → Event → Event
cut_first None e = e
cut_first (Some l) e = cuts l e

unfoldable pub tells : Step → List ℤ → List ℤ → Event
tells t a b = cut_first t.cut (told_by t.did t.machine a b)

-- ---- the promises

-- What `fresh` promises.
pub record Begun (m : Machine) : Type 0 where
  pub answer : m ≡ machine_at Ready 0
  pub mode : (a b : List ℤ) → mode_of m a b ≡ ready
  pub seen : (l : ℕ) → seen_by m l ≡ false

-- An event told: by this step, each lent row begins with the event's and is otherwise as it was; read back, with the rows, it is the event, and
-- the machine is where the event leads. The pairs of a complete line are few enough for the lent rows.
pub record Told (e : Event) (seen : ℕ) (a b : List ℤ) (t : Step) (a' b' : List ℤ) : Type 0 where
  pub answer : t ≡ step_of e seen
  pub bottom : a' ≡ puts a 0 (bottom_of e)
  pub top : b' ≡ puts b 0 (top_of e)
  pub event : tells t a' b' ≡ e
  pub mode : mode_of t.machine a' b' ≡ mode_after e
  pub few : (o : Order) → t.did ≡ Completed o → o.pairs ≤ max_pairs

-- What `on_text` promises of a line that is frame f, and, with a bad frame and rows that stay as they are, `on_rest`.
pub record Stepped (m : Machine) (a b : List ℤ) (f : Frame) (t : Step) (a' b' : List ℤ) : Type 0 where
  pub told : Told (event (seen_by m) (mode_of m a b) f) (seen_with m.seen (said_of f)) a b t a' b'
  pub seen : (l : ℕ) → l < max_lines → seen_by t.machine l ≡ noted (seen_by m) f l

-- What `on_end` promises.
pub record Ended (m : Machine) (t : Step) : Type 0 where
  pub told : (a b : List ℤ) → Told (at_end (mode_of m a b)) m.seen a b t a b
