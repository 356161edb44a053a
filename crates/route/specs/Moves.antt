-- The frames 21 of a line (01, "Sheets"): "one for each track t where e_(t+1) differs from e_t, by wire then track, drawn at the lowest offset".
-- `wires_text` says which bytes they are; what is promised of writing them a part at a time is below it.
use Rattle.std.specs.Prelude.{Option, Some, None, Bool, true, false, cond, ◌≡◌, List, [], ◌++◌, ℕ, zero, suc, ◌+◌, ◌-◌, ◌<◌, ◌≤◌, eqb, ltb, length, take, ℤ}
use Rattle.whole.specs.Pick.{differ}
use Rattle.wiring.specs.Wiring.{pad, top_pad}
use Rattle.wiring.specs.Drawing.{drawn}
use Rattle.jumper.specs.Rows.{checked_numbers}
use Rattle.jumper.specs.Asked.{check_asked}
use Rattle.jumper.specs.declared.asked.Question.{Question}
use Rattle.route.specs.Asked.{pairs, bottom, top}
use Rattle.frame.specs.Written.{move_line}
use Rattle.frame.specs.declared.write.Move.{Move}

-- a move from one column to another on a track, which is written if they differ
unfoldable pub move_text : Move → List ℕ
move_text m = cond (differ m.from m.to) (move_line m) []

-- wire i on track t of line l, where it enters track t on column e i t
abbrev pub track_text : ℕ → (ℕ → ℕ → ℤ) → ℕ → ℕ → List ℕ
track_text l e i t = move_text (record { line = l; wire = i; track = t; from = e i t; to = e i (t + 1) })

-- wire i on k tracks from track t on
unfoldable pub wire_text : ℕ → (ℕ → ℕ → ℤ) → ℕ → ℕ → ℕ → List ℕ
wire_text l e i t zero = []
wire_text l e i t (suc k) = track_text l e i t ++ wire_text l e i (t + 1) k

-- k wires from wire i on, on s tracks
unfoldable pub wires_text : ℕ → (ℕ → ℕ → ℤ) → ℕ → ℕ → ℕ → List ℕ
wires_text l e s i zero = []
wires_text l e s i (suc k) = wire_text l e i 0 s ++ wires_text l e s (i + 1) k

-- the frames 21 of a route from wire i and its track t on
unfoldable pub route_left : (l s : ℕ) (d : ℤ) (a b : List ℤ) (i t : ℕ) → List ℕ
route_left l s d a b i t =
    cond (ltb i (length a))
    (wire_text l (drawn (length a) (pad a) (top_pad b d)) i t (s - t) ++ wires_text l (drawn (length a) (pad a) (top_pad b d)) s (i + 1) (length a - (i + 1)))
    []

-- rows, a separation and an offset that are accepted
abbrev pub is_asked : (a b : List ℤ) (s : ℕ) (d : ℤ) → Bool
is_asked a b s d = eqb (checked_numbers (check_asked a b s d)).refusal 0

-- the same of rows, a separation and an offset that may not be accepted: then there is no route
abbrev pub moves_left : (l s : ℕ) (d : ℤ) (a b : List ℤ) (i t : ℕ) → List ℕ
moves_left l s d a b i t = cond (is_asked a b s d) (route_left l s d a b i t) []

-- What `give_moves` promises: the frames stand in the buffer from place `from` to place `to`, which is within the buffer if `from` was, and what is left
-- of them is to be written from wire i' and its track t' on. It stops only where fewer than 31 places are left, the length of a frame 21.
pub record MovesOut (l s : ℕ) (d : ℤ) (a b : List ℤ) (i t : ℕ) (out : List ℕ) (from : ℕ) (i' t' to : ℕ) (out' : List ℕ) : Type 0 where
  pub gave : take from out ++ moves_left l s d a b i t ≡ take to out' ++ moves_left l s d a b i' t'
  pub fits : from ≤ length out → to ≤ length out
  pub far : i' < length a → length out < to + 31

-- What its parts promise each other; no reader needs to believe these. Of what is asked, from a wire and its track on: its frames, those of one wire, and
-- the rest of those where it stopped
abbrev pub frames : (l : ℕ) (q : Question) (i t : ℕ) → List ℕ
frames l q i t = route_left l q.separation q.offset q.rows.bottom.now q.rows.top.now i t

abbrev pub wire_frames : (l : ℕ) (q : Question) (i t : ℕ) → List ℕ
wire_frames l q i t = wire_text l (drawn (pairs q) (bottom q) (top q)) i t (q.separation - t)

abbrev pub frames_left : (l : ℕ) (q : Question) (i : ℕ) → Option ℕ → List ℕ
frames_left l q i None = []
frames_left l q i (Some t) = wire_frames l q i t

-- the frames of what is asked
pub record RouteOut (l : ℕ) (q : Question) (i t : ℕ) (out : List ℕ) (from : ℕ) (i' t' to : ℕ) (out' : List ℕ) : Type 0 where
  pub gave : take from out ++ frames l q i t ≡ take to out' ++ frames l q i' t'
  pub fits : from ≤ length out → to ≤ length out
  pub far : i' < pairs q → length out < to + 31

-- of one wire of it, which stopped at a track or didn't
pub record WireOut (l : ℕ) (q : Question) (i t : ℕ) (out : List ℕ) (from : ℕ) (stopped : Option ℕ) (to : ℕ) (out' : List ℕ) : Type 0 where
  pub gave : take from out ++ wire_frames l q i t ≡ take to out' ++ frames_left l q i stopped
  pub fits : from ≤ length out → to ≤ length out
  pub far : (stopped ≡ None → ⊥) → length out < to + 31

-- and of one track
pub record TrackOut (text out : List ℕ) (from : ℕ) (done : Bool) (to : ℕ) (out' : List ℕ) : Type 0 where
  pub wrote : done ≡ true → take to out' ≡ take from out ++ text
  pub fits : from ≤ length out → to ≤ length out
  pub full : done ≡ false → (to ≡ from) × (out' ≡ out) × (length out < from + 31)
