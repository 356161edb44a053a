-- 01, "What comes back": the number of each refusal, and the result numbers that it carries; all others are 0.
use Rattle.std.specs.Prelude.{◌≡◌, ℕ, pos, Result, Ok, Err}
use Rattle.jumper.specs.declared.refusal.Side.{Side}
use Rattle.jumper.specs.declared.refusal.Side.TheVariants.{Right, Left}
use Rattle.jumper.specs.declared.refusal.Refusal.{Refusal}
use Rattle.jumper.specs.declared.refusal.Refusal.TheVariants.{Unequal, Empty, Long, Column, Order, Tracks, Offset, Wire, Buffer, NoFit, NoOffset, Line, Frame, Sequence, Twice, BadWire}
use Rattle.jumper.specs.declared.refusal.Numbers.{Numbers}

-- "side (1: 0 none, 1 RIGHT, 2 LEFT)"
abbrev pub side_number : Side → ℕ
side_number Right = 1
side_number Left = 2

abbrev pub refused_with : (refusal place second pair side : ℕ) → Numbers
refused_with n p q i k = record { refusal = n; place = p; second = q; separation = 0; lowest = pos 0; highest = pos 0; pair = i; side = k; count = 0 }

-- "the index for a bottom fault, n plus it for a top fault; witness and side for 10; the first i for each end of the range for 11; wire and track for 16"
abbrev pub refusal_numbers : Refusal → Numbers
refusal_numbers Unequal = refused_with 1 0 0 0 0
refusal_numbers Empty = refused_with 2 0 0 0 0
refusal_numbers Long = refused_with 3 0 0 0 0
refusal_numbers (Column p) = refused_with 4 p 0 0 0
refusal_numbers (Order p) = refused_with 5 p 0 0 0
refusal_numbers Tracks = refused_with 6 0 0 0 0
refusal_numbers Offset = refused_with 7 0 0 0 0
refusal_numbers Wire = refused_with 8 0 0 0 0
refusal_numbers Buffer = refused_with 9 0 0 0 0
refusal_numbers (NoFit i k) = refused_with 10 0 0 i (side_number k)
refusal_numbers (NoOffset l h) = refused_with 11 l h 0 0
refusal_numbers Line = refused_with 12 0 0 0 0
refusal_numbers Frame = refused_with 13 0 0 0 0
refusal_numbers Sequence = refused_with 14 0 0 0 0
refusal_numbers Twice = refused_with 15 0 0 0 0
refusal_numbers (BadWire i t) = refused_with 16 i t 0 0

-- the numbers of an answer that refuses nothing and tells nothing
abbrev pub nothing : Numbers
nothing = refused_with 0 0 0 0 0

-- What is said of an answer's numbers: of one that isn't refused, what is said of the numbers of what it tells; of another, that they are its refusal's.
abbrev pub AnswerNumbers : {A : Type 0} → (A → Numbers → Type 0) → Result A Refusal → Numbers → Type 0
AnswerNumbers Told (Ok x) n = Told x n
AnswerNumbers Told (Err r) n = n ≡ refusal_numbers r
