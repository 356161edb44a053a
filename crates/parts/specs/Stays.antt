-- WHICH PAIRS STAY, and which questions about a part we accept (02, #113). A lent row of bytes says it: "one a pair, 0 dropped, anything else kept".
-- In this crate a quote is of the issue that orders the request's calls, if no paper is named with it: 02 names none.
--
-- Worked: the bytes 1,0,7,1 keep pairs 0, 2 and 3 of J = rows 0,1,4,5 and 1,2,3,4: rows 0,4,5 and 1,3,4 remain. Three bytes for J are UNEQUAL, four bytes 0
-- EMPTY. Were a column of J out of range, four bytes 0 would still be EMPTY, and any others COLUMN, even if that column's pair is dropped.
use Rattle.std.specs.Prelude.{Ok, Err, cond, ◌≡◌, List, [], ◌∷◌, ◌++◌, ℕ, zero, suc, ◌≤◌, eqb, length, get_or, ℤ}
use Rattle.wiring.specs.Part.{pair_of, part_of}
use Rattle.jumper.specs.Rows.{Checked, pick, or_else}
use Rattle.jumper.specs.Asked.{check_asked, Asked}
use Rattle.jumper.specs.declared.refusal.Refusal.TheVariants.{Unequal, Empty}
use Rattle.route.specs.Table.{column_in, wires}

-- the numbers of the pairs that stay, among the first n. That these are all whose byte isn't 0, and no others, each greater than the one before, are the laws
-- `kept_exactly` and `kept_choice` of proofs/Keeping.antt
unfoldable pub kept_among : (stays : List ℕ) → ℕ → List ℕ
kept_among stays zero = []
kept_among stays (suc n) = cond (eqb (get_or stays n 0) 0) (kept_among stays n) (kept_among stays n ++ (n ∷ []))

abbrev pub kept : List ℕ → List ℕ
kept stays = kept_among stays (length stays)

-- a row with only the pads that stay
abbrev pub row_kept : (stays : List ℕ) → List ℤ → List ℤ
row_kept stays a = part_of (kept stays) a

-- the columns that wire i of the part has in a table of the whole jumper, and the table with only the wires that stay
abbrev pub wire_kept : (stays : List ℕ) (s : ℕ) (table : List ℤ) → ℕ → ℕ → ℤ
wire_kept stays s table i = column_in table s (pair_of (kept stays) i)

abbrev pub wires_kept : (stays : List ℕ) (s : ℕ) (table : List ℤ) → List ℤ
wires_kept stays s table = wires (wire_kept stays s table) s (length (kept stays))

-- "a row of bytes of another length is UNEQUAL, none kept is EMPTY". Rows of two lengths are UNEQUAL before the bytes can be EMPTY
abbrev pub stays_fault : (a b : List ℤ) (stays : List ℕ) → Checked
stays_fault a b stays =
    pick (eqb (length a) (length b))
    (pick (eqb (length a) (length stays))
    (pick (eqb (length (kept stays)) 0) (Err Empty) (Ok tt))
    (Err Unequal))
    (Err Unequal)

-- "Refusals 1 to 7 by number": 1 and 2 speak of the bytes too, "all else is of the whole rows"
abbrev pub check_part : (a b : List ℤ) (stays : List ℕ) (s : ℕ) (d : ℤ) → Checked
check_part a b stays s d = or_else (stays_fault a b stays) (check_asked a b s d)

-- a part as we accept it: of rows, separation and offset that are accepted, with a byte for each pair, and one pair at least that stays
pub record AskedPart (a b : List ℤ) (stays : List ℕ) (s : ℕ) (d : ℤ) : Type 0 where
  pub whole : Asked a b s d
  pub bytes : length a ≡ length stays
  pub some : 1 ≤ length (kept stays)
