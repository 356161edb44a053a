-- The stretch at fault (01): "for a misfit, the pads i to i+s of the row in which they span fewer columns (last less first), the bottom row if
-- equal .. In every other case it is an empty part at the bottom row's start." By 02's #106 they are the witness's pads, "from the one to the other": pads i
-- to i + r, r being the rule's number. That these are as many as tracks, and one at separation 0, is the law `stretch_pads`.
use Rattle.std.specs.Prelude.{Option, Some, None, Ok, Err, cond, List, [], ◌≡◌, eqb, ℕ, ◌+◌, take, drop, ℤ, ◌-ℤ◌}
use Rattle.std.specs.Int.Signed.{le_z}
use Rattle.wiring.specs.Wiring.{pad}
use Rattle.wiring.specs.Tracks.{rule_at}
use Rattle.jumper.specs.Rows.{Checked}
use Rattle.jumper.specs.Asked.{check_asked}
use Rattle.fit.specs.Misfit.{misfit_of}
use Rattle.fit.specs.declared.stretch.Place.{Place}
use Rattle.fit.specs.declared.misfit.Misfit.{Misfit}

abbrev pub span : List ℤ → ℕ → ℕ → ℤ
span a i r = pad a (i + r) -ℤ pad a i

-- pads i to i + r of the narrower row
abbrev pub narrower : (a b : List ℤ) (i r : ℕ) → List ℤ
narrower a b i r = cond (le_z (span a i r) (span b i r)) (take (r + 1) (drop i a)) (take (r + 1) (drop i b))

-- after the checks 1 to 7 and the search for a misfit
abbrev pub stretch_after : Checked → Option Misfit → (a b : List ℤ) (r : ℕ) → List ℤ
stretch_after (Err q) m a b r = []
stretch_after (Ok u) None a b r = []
stretch_after (Ok u) (Some m) a b r = narrower a b m.pair r

abbrev pub stretch_of : (a b : List ℤ) (s : ℕ) (d : ℤ) → List ℤ
stretch_of a b s d = stretch_after (check_asked a b s d) (misfit_of a b (rule_at s) d) a b (rule_at s)

-- the same told by place, for callers that can't be handed a part of a row: which row (0 bottom, 1 top), from which pad, how many pads
abbrev pub place_after : Checked → Option Misfit → (a b : List ℤ) (r : ℕ) → Place
place_after (Err q) m a b r = record { row = 0; start = 0; pads = 0 }
place_after (Ok u) None a b r = record { row = 0; start = 0; pads = 0 }
place_after (Ok u) (Some m) a b r = record { row = cond (le_z (span a m.pair r) (span b m.pair r)) 0 1; start = m.pair; pads = r + 1 }

abbrev pub place_of : (a b : List ℤ) (s : ℕ) (d : ℤ) → Place
place_of a b s d = place_after (check_asked a b s d) (misfit_of a b (rule_at s) d) a b (rule_at s)

-- the part that a place names
abbrev pub part_at : (a b : List ℤ) → Place → List ℤ
part_at a b p = cond (eqb p.row 0) (take p.pads (drop p.start a)) (take p.pads (drop p.start b))

-- What `stretch_place` promises: the part that it names is the stretch.
pub record StretchPlace (a b : List ℤ) (s : ℕ) (d : ℤ) (r : Place) : Type 0 where
  pub answer : r ≡ place_of a b s d
  pub names : part_at a b r ≡ stretch_of a b s d
