-- The jumpers worked by hand, 01's marked with a star and those of 02's requests, as one table: what the definitions tell, beside what is said by hand.
-- A separation above 0 is one more than 01 has it, for 02's #106. What stands in quotes is 01's, unchanged.
-- That the two are equal in every case is the theorem `worked` of proofs/Worked.antt.
use Rattle.std.specs.Prelude.{List, [], ◌∷◌, ◌++◌, map, ℕ, length, replicate, get_or, ℤ, pos, negsuc}
use Rattle.jumper.specs.Limits.{first_column}
use Rattle.jumper.specs.Rows.{checked_numbers}
use Rattle.jumper.specs.declared.refusal.Numbers.{Numbers}
use Rattle.fit.specs.Misfit.{fit_of}
use Rattle.fit.specs.Least.{least_numbers, least_answer}
use Rattle.fit.specs.Offsets.{offsets_numbers, offsets_answer}
use Rattle.fit.specs.Stretch.{stretch_of}
use Rattle.best.specs.Best.{best_numbers, ladder_of, best_answer, ladder_by}
use Rattle.route.specs.Draw.{all_drawn, buffer_after, all_refusal}
use Rattle.route.specs.Check.{route_checked}
use Rattle.parts.specs.Still.{still_of}
use Rattle.parts.specs.Routed.{routed_refusal, routed_buffer}

pub record Jumper : Type 0 where
  pub bottom : List ℤ
  pub top : List ℤ

-- columns, and whole numbers in general, from numbers that aren't negative
abbrev pub whole : List ℕ → List ℤ
whole ns = map pos ns

abbrev pub rows : List ℕ → List ℕ → Jumper
rows a b = record { bottom = whole a; top = whole b }

-- "J = rows 0,1,4,5 and 1,2,3,4. K = 0,5 and 0,5. S = 0,1,2,3 and 1,2,3,4."
abbrev pub J : Jumper
J = rows (0 ∷ 1 ∷ 4 ∷ 5 ∷ []) (1 ∷ 2 ∷ 3 ∷ 4 ∷ [])

abbrev pub K : Jumper
K = rows (0 ∷ 5 ∷ []) (0 ∷ 5 ∷ [])

abbrev pub S : Jumper
S = rows (0 ∷ 1 ∷ 2 ∷ 3 ∷ []) (1 ∷ 2 ∷ 3 ∷ 4 ∷ [])

-- 02, #106: T is worked out at the heads of wiring's Wiring.antt and route's Check.antt
abbrev pub T : Jumper
T = rows (0 ∷ 1 ∷ []) (1 ∷ 2 ∷ [])

-- 02, #105: C has its pads around a centre pin, L is one pair on the first column; both are worked out at the head of jumper's Limits.antt
abbrev pub C : Jumper
C = record { bottom = negsuc 0 ∷ pos 0 ∷ pos 1 ∷ []; top = negsuc 1 ∷ pos 0 ∷ pos 2 ∷ [] }

abbrev pub L : Jumper
L = record { bottom = first_column ∷ []; top = first_column ∷ [] }

-- 02, #113: P and Q are one pair with a pair added after the last, and one more; they are worked out at the head of parts' Grows.antt
abbrev pub P : Jumper
P = rows (0 ∷ 1 ∷ []) (0 ∷ 2 ∷ [])

abbrev pub Q : Jumper
Q = rows (0 ∷ 1 ∷ 2 ∷ []) (0 ∷ 2 ∷ 4 ∷ [])

-- what the definitions tell, and what is said by hand
pub record Case : Type 0 where
  pub told : List ℤ
  pub hand : List ℤ

abbrev pub case : List ℤ → List ℤ → Case
case t h = record { told = t; hand = h }

-- the result numbers in one row, so that a case also says that all others are 0
abbrev pub result : (refusal place second separation : ℕ) (lowest highest : ℤ) (pair side count : ℕ) → List ℤ
result r p q s l h i k c = pos r ∷ pos p ∷ pos q ∷ pos s ∷ l ∷ h ∷ pos i ∷ pos k ∷ pos c ∷ []

abbrev pub result_of : Numbers → List ℤ
result_of n = result n.refusal n.place n.second n.separation n.lowest n.highest n.pair n.side n.count

-- the questions that 01 asks of a jumper; the best call is lent room for a ladder of 2,048 pairs
abbrev pub least_at : Jumper → ℤ → List ℤ
least_at j d = result_of (least_numbers (least_answer j.bottom j.top d))

abbrev pub fit_at : Jumper → ℕ → ℤ → List ℤ
fit_at j s d = result_of (checked_numbers (fit_of j.bottom j.top s d))

abbrev pub range_at : Jumper → ℕ → List ℤ
range_at j s = result_of (offsets_numbers (offsets_answer j.bottom j.top s))

abbrev pub stretch_at : Jumper → ℕ → ℤ → List ℤ
stretch_at j s d = stretch_of j.bottom j.top s d

abbrev pub checked_at : Jumper → ℕ → ℤ → (table : List ℤ) → List ℤ
checked_at j s d table = result_of (checked_numbers (route_checked j.bottom j.top s d table))

abbrev pub best : Jumper → List ℤ
best j = result_of (best_numbers (best_answer j.bottom j.top (replicate 24 0)))

-- what a lent buffer holds after the best call and after the drawing of all wires: the call's own refusal decides, as in
-- its promise (`buffer`). Each place of it held 9 before, so that a case also shows the places beyond untouched
abbrev pub lent : ℕ → List ℕ
lent places = replicate places 9

abbrev pub ladder : Jumper → (before : List ℕ) → List ℤ
ladder j before = whole (ladder_by (best_answer j.bottom j.top before) (ladder_of j.bottom j.top) before)

abbrev pub drawn_at : Jumper → ℕ → ℤ → (out : List ℤ) → List ℤ
drawn_at j s d out = buffer_after (all_refusal j.bottom j.top s d (length out)) (all_drawn j.bottom j.top s d out) out

-- 02, #113: whether a separation still does where only the pairs stay whose byte isn't 0; what the call for the part's route says if it is lent `room`
-- places, and what a buffer holds after it
abbrev pub still_at : Jumper → (stays : List ℕ) → ℕ → ℤ → List ℤ
still_at j stays s d = result_of (checked_numbers (still_of j.bottom j.top stays s d))

abbrev pub routed_at : Jumper → (stays : List ℕ) → ℕ → ℤ → (table out : List ℤ) → List ℤ
routed_at j stays s d table out = routed_buffer j.bottom j.top stays s d table out

abbrev pub routed_says : Jumper → (stays : List ℕ) → ℕ → ℤ → (table : List ℤ) (room : ℕ) → List ℤ
routed_says j stays s d table room = result_of (checked_numbers (routed_refusal j.bottom j.top stays s d table room))

-- and their answers. A least separation above 0 carries the witness at one track fewer: pair and side (1 RIGHT, 2 LEFT)
abbrev pub least : (separation pair side : ℕ) → List ℤ
least s i k = result 0 0 0 s (pos 0) (pos 0) i k 0

abbrev pub prevented : (pair side : ℕ) → List ℤ
prevented i k = result 10 0 0 0 (pos 0) (pos 0) i k 0

abbrev pub accepted : List ℤ
accepted = result 0 0 0 0 (pos 0) (pos 0) 0 0 0

abbrev pub refused : (number place : ℕ) → List ℤ
refused n p = result n p 0 0 (pos 0) (pos 0) 0 0 0

abbrev pub bad_wire : (wire track : ℕ) → List ℤ
bad_wire i t = result 16 i t 0 (pos 0) (pos 0) 0 0 0

abbrev pub range : (lowest highest : ℤ) → List ℤ
range l h = result 0 0 0 0 l h 0 0 0

abbrev pub no_offset : (low high : ℕ) → List ℤ
no_offset l h = result 11 l h 0 (pos 0) (pos 0) 0 0 0

abbrev pub found : (separation : ℕ) (lowest highest : ℤ) (count : ℕ) → List ℤ
found s l h c = result 0 0 0 s l h 0 0 c

-- J's route at (3, 0), drawn below, and the old route of a part; and the same with a step aside of wire 1 on track 0
abbrev pub route_of_j : List ℤ
route_of_j = whole (0 ∷ 0 ∷ 0 ∷ 1 ∷ 1 ∷ 1 ∷ 2 ∷ 2 ∷ 4 ∷ 4 ∷ 3 ∷ 3 ∷ 5 ∷ 5 ∷ 5 ∷ 4 ∷ [])

abbrev pub faulty_route : List ℤ
faulty_route = whole (0 ∷ 0 ∷ 0 ∷ 1 ∷ 1 ∷ 2 ∷ 2 ∷ 2 ∷ 4 ∷ 4 ∷ 3 ∷ 3 ∷ 5 ∷ 5 ∷ 5 ∷ 4 ∷ [])

abbrev pub table : List Case
table =
    -- "0 and 0, d 0: least 0." 0 and 9, d 0: least 2
    case (least_at (rows (0 ∷ []) (0 ∷ [])) (pos 0)) (least 0 0 0)
    ∷ case (least_at (rows (0 ∷ []) (9 ∷ [])) (pos 0)) (least 2 0 1)
    -- T, d 0: least 3; at 2 NOFIT, pair 0, RIGHT
    ∷ case (least_at T (pos 0)) (least 3 0 1)
    ∷ case (fit_at T 2 (pos 0)) (prevented 0 1)
    -- "K: range at 0 is 0..0"; at 1 as at 0, at 2 is -4..4; d 5, least 3; (2, -5) NOFIT, pair 0, LEFT
    ∷ case (range_at K 0) (range (pos 0) (pos 0))
    ∷ case (range_at K 1) (range (pos 0) (pos 0))
    ∷ case (range_at K 2) (range (negsuc 3) (pos 4))
    ∷ case (least_at K (pos 5)) (least 3 0 1)
    ∷ case (fit_at K 2 (negsuc 4)) (prevented 0 2)
    -- S, d 0: least 5. "S best: 0, offsets -1..-1, count 12."
    ∷ case (least_at S (pos 0)) (least 5 0 1)
    ∷ case (best S) (found 0 (negsuc 0) (negsuc 0) 12)
    -- J best: 3, offsets -1..1, count 14, "ladder 4:2, 2:1, 1:0." J at 2: NOOFFSET, 2 for the low end, 0 for the high
    ∷ case (best J) (found 3 (negsuc 0) (pos 1) 14)
    ∷ case (ladder J (lent 8)) (whole (4 ∷ 2 ∷ 2 ∷ 1 ∷ 1 ∷ 0 ∷ 9 ∷ 9 ∷ []))
    ∷ case (range_at J 2) (no_offset 2 0)
    -- J drawn at (3, 0): 0,0,0,1 / 1,1,2,2 / 4,4,3,3 / 5,5,5,4
    ∷ case (drawn_at J 3 (pos 0) (whole (lent 18))) (route_of_j ++ whole (lent 2))
    -- T's range at 0, at 1 and at 2, as many tracks as pairs, is -1..-1; at 3, -131,070..131,070
    ∷ case (range_at T 0) (range (negsuc 0) (negsuc 0))
    ∷ case (range_at T 1) (range (negsuc 0) (negsuc 0))
    ∷ case (range_at T 2) (range (negsuc 0) (negsuc 0))
    ∷ case (range_at T 3) (range (negsuc 131069) (pos 131070))
    -- T, d 0: the stretch at fault is one pad at 0 and at 1, two at 2
    ∷ case (stretch_at T 0 (pos 0)) (whole (0 ∷ []))
    ∷ case (stretch_at T 1 (pos 0)) (whole (0 ∷ []))
    ∷ case (stretch_at T 2 (pos 0)) (whole (0 ∷ 1 ∷ []))
    -- T drawn at (3, 0): 0,0,0,1 / 1,1,2,2, which the checker accepts; wire 1 may not step aside on track 0
    ∷ case (drawn_at T 3 (pos 0) (whole (lent 9))) (whole (0 ∷ 0 ∷ 0 ∷ 1 ∷ 1 ∷ 1 ∷ 2 ∷ 2 ∷ 9 ∷ []))
    ∷ case (checked_at T 3 (pos 0) (whole (0 ∷ 0 ∷ 0 ∷ 1 ∷ 1 ∷ 1 ∷ 2 ∷ 2 ∷ []))) accepted
    ∷ case (checked_at T 3 (pos 0) (whole (0 ∷ 0 ∷ 0 ∷ 1 ∷ 1 ∷ 2 ∷ 2 ∷ 2 ∷ []))) (bad_wire 1 0)
    ∷ case (checked_at T 3 (pos 0) (whole (0 ∷ 0 ∷ 0 ∷ 1 ∷ 1 ∷ 0 ∷ 2 ∷ 2 ∷ []))) (bad_wire 0 0)
    -- C at 0 and at 1: NOOFFSET, 0 for the low end, 2 for the high; range at 2 is 0..0, at 3 is -1..1, at 4 -131,070..131,070
    ∷ case (range_at C 0) (no_offset 0 2)
    ∷ case (range_at C 1) (no_offset 0 2)
    ∷ case (range_at C 2) (range (pos 0) (pos 0))
    ∷ case (range_at C 3) (range (negsuc 0) (pos 1))
    ∷ case (range_at C 4) (range (negsuc 131069) (pos 131070))
    -- C best: 2, offsets 0..0, count 8; drawn there: -1,-1,-2 / 0,0,0 / 1,1,2
    ∷ case (best C) (found 2 (pos 0) (pos 0) 8)
    ∷ case (drawn_at C 2 (pos 0) (whole (lent 10))) (negsuc 0 ∷ negsuc 0 ∷ negsuc 1 ∷ pos 0 ∷ pos 0 ∷ pos 0 ∷ pos 1 ∷ pos 1 ∷ pos 2 ∷ pos 9 ∷ [])
    -- C at the lowest offset: least 4; at 3 pair 0 prevents it, LEFT
    ∷ case (least_at C (negsuc 131069)) (least 4 0 2)
    -- L drawn at (2, -131,070): column -65,535 twice, then -196,605
    ∷ case (drawn_at L 2 (negsuc 131069) (whole (lent 3))) (negsuc 65534 ∷ negsuc 65534 ∷ negsuc 196604 ∷ [])
    -- J without pair 1 still fits at (3, 0); at (2, 0) pair 1 of the part prevents it, LEFT; at (2, 1) it fits, where J doesn't
    ∷ case (still_at J (1 ∷ 0 ∷ 7 ∷ 1 ∷ []) 3 (pos 0)) accepted
    ∷ case (still_at J (1 ∷ 0 ∷ 7 ∷ 1 ∷ []) 2 (pos 0)) (prevented 1 2)
    ∷ case (still_at J (1 ∷ 0 ∷ 7 ∷ 1 ∷ []) 2 (pos 1)) accepted
    ∷ case (fit_at J 2 (pos 1)) (prevented 0 1)
    -- a byte too few: UNEQUAL; none stays: EMPTY; columns 3, 3 below: ORDER at place 1, with that pair dropped too
    ∷ case (still_at J (1 ∷ 0 ∷ 7 ∷ []) 3 (pos 0)) (refused 1 0)
    ∷ case (still_at J (0 ∷ 0 ∷ 0 ∷ 0 ∷ []) 3 (pos 0)) (refused 2 0)
    ∷ case (still_at (rows (3 ∷ 3 ∷ []) (3 ∷ 4 ∷ [])) (1 ∷ 0 ∷ []) 3 (pos 0)) (refused 5 1)
    ∷ case (still_at (rows (3 ∷ 3 ∷ []) (3 ∷ 4 ∷ [])) (0 ∷ 0 ∷ []) 3 (pos 0)) (refused 2 0)
    -- the part's route: J's without wire 1. A place too few: BUFFER, and nothing is written. A fault of the wire that is dropped: BADWIRE, wire 1, track 0
    ∷ case (routed_says J (1 ∷ 0 ∷ 7 ∷ 1 ∷ []) 3 (pos 0) route_of_j 12) accepted
    ∷ case (routed_says J (1 ∷ 0 ∷ 7 ∷ 1 ∷ []) 3 (pos 0) route_of_j 11) (refused 9 0)
    ∷ case (routed_says J (1 ∷ 0 ∷ 7 ∷ 1 ∷ []) 3 (pos 0) faulty_route 12) (bad_wire 1 0)
    ∷ case (routed_at J (1 ∷ 0 ∷ 7 ∷ 1 ∷ []) 3 (pos 0) route_of_j (whole (lent 13))) (whole (0 ∷ 0 ∷ 0 ∷ 1 ∷ 4 ∷ 4 ∷ 3 ∷ 3 ∷ 5 ∷ 5 ∷ 5 ∷ 4 ∷ 9 ∷ []))
    ∷ case (routed_at J (1 ∷ 0 ∷ 7 ∷ 1 ∷ []) 3 (pos 0) route_of_j (whole (lent 11))) (whole (lent 11))
    -- a pair added: rows 0 and 0 have best 0 and, above, least 0; P both 2; Q best 2, least 3
    ∷ case (best (rows (0 ∷ []) (0 ∷ []))) (found 0 (pos 0) (pos 0) 0)
    ∷ case (least_at P (pos 0)) (least 2 1 1)
    ∷ case (best P) (found 2 (negsuc 0) (pos 0) 4)
    ∷ case (least_at Q (pos 0)) (least 3 1 1)
    ∷ case (best Q) (found 2 (negsuc 0) (negsuc 0) 8)
    ∷ []

-- the case at a place of the table
abbrev pub case_at : ℕ → Case
case_at k = get_or table k (case [] [])
