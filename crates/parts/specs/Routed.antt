-- THE PROMISE of `part_route` (02, #113): the old route's table without the dropped wires (refusals 1 to 7, BUFFER, then BADWIRE).
--
-- Worked: J at separation 3, offset 0 is drawn 0,0,0,1 / 1,1,2,2 / 4,4,3,3 / 5,5,5,4. For the bytes 1,0,7,1 the part's route is 0,0,0,1 / 4,4,3,3 / 5,5,5,4. It
-- isn't the one we would draw for the part, whose wire 0 enters track 2 on column 1 already. It is legal all the same.
use Rattle.std.specs.Prelude.{◌≡◌, List, ◌++◌, ◌⊎◌, ◌↔◌, ℕ, ◌+◌, ◌*◌, ◌≤◌, ◌<◌, length, drop, ℤ}
use Rattle.wiring.specs.Wiring.{pad, top_pad}
use Rattle.jumper.specs.Rows.{Checked, checked_numbers, or_else}
use Rattle.route.specs.Table.{column_in, no_room, LegalRoute}
use Rattle.route.specs.Draw.{buffer_after}
use Rattle.route.specs.Check.{FirstFault, route_checked}
use Rattle.parts.specs.Stays.{kept, row_kept, wire_kept, wires_kept, check_part, AskedPart}

-- how many places the part's route takes, of all its wires
abbrev pub places_kept : (stays : List ℕ) (s : ℕ) → ℕ
places_kept stays s = length (kept stays) * (s + 1)

-- "BUFFER if short; BADWIRE as the checker says if the old table isn't legal", in the numbers of the whole jumper. The checker looks at the old table's room
abbrev pub routed_refusal : (a b : List ℤ) (stays : List ℕ) (s : ℕ) (d : ℤ) (table : List ℤ) (room : ℕ) → Checked
routed_refusal a b stays s d table room = or_else (check_part a b stays s d) (or_else (no_room (places_kept stays s) room) (route_checked a b s d table))

-- a buffer after the part's route was written into it: "Places beyond are untouched."
abbrev pub part_written : (stays : List ℕ) (s : ℕ) (table out : List ℤ) → List ℤ
part_written stays s table out = wires_kept stays s table ++ drop (places_kept stays s) out

abbrev pub routed_buffer : (a b : List ℤ) (stays : List ℕ) (s : ℕ) (d : ℤ) (table out : List ℤ) → List ℤ
routed_buffer a b stays s d table out = buffer_after (routed_refusal a b stays s d table (length out)) (part_written stays s table out) out

-- all that is lent has room, the old table for the jumper's wires and the buffer for the part's; or one of them hasn't
abbrev pub Room : (a : List ℤ) (stays : List ℕ) (s : ℕ) (table out : List ℤ) → Type 0
Room a stays s table out = (length a * (s + 1) ≤ length table) × (places_kept stays s ≤ length out)

abbrev pub Short : (a : List ℤ) (stays : List ℕ) (s : ℕ) (table out : List ℤ) → Type 0
Short a stays s table out = (length table < length a * (s + 1)) ⊎ (length out < places_kept stays s)

-- wire i and track t are the first fault of the old table
abbrev pub FaultOf : (a b : List ℤ) (s : ℕ) (d : ℤ) (table : List ℤ) (i t : ℕ) → Type 0
FaultOf a b s d table i t = FirstFault (length a) s (pad a) (top_pad b d) (column_in table s) i t

-- What `part_route` promises of a buffer `out` and what it holds after the call, `out'`: the wires that its places mean are a legal wiring of the part, each
-- the old wire of its pair. BADWIRE names the wire and the track of the old table's first fault. A refusal writes nothing.
pub record RoutedAnswer (a b : List ℤ) (stays : List ℕ) (s : ℕ) (d : ℤ) (table out out' : List ℤ) (r : Checked) : Type 0 where
  pub answer : r ≡ routed_refusal a b stays s d table (length out)
  pub buffer : out' ≡ buffer_after r (part_written stays s table out) out
  pub refused : ((checked_numbers r).refusal ≡ 0 → ⊥) → out' ≡ out
  pub routes : ((checked_numbers r).refusal ≡ 0) ↔ (AskedPart a b stays s d × Room a stays s table out × LegalRoute a b s d table)
  pub short : ((checked_numbers r).refusal ≡ 9) ↔ (AskedPart a b stays s d × Short a stays s table out)
  pub faulty : ((checked_numbers r).refusal ≡ 16) ↔ (AskedPart a b stays s d × Room a stays s table out × (LegalRoute a b s d table → ⊥))
  pub fault : (checked_numbers r).refusal ≡ 16 → FaultOf a b s d table (checked_numbers r).place (checked_numbers r).second
  pub places : (checked_numbers r).refusal ≡ 0 → (i t : ℕ) → i < length (kept stays) → t ≤ s → column_in out' s i t ≡ wire_kept stays s table i t
  pub legal : (checked_numbers r).refusal ≡ 0 → LegalRoute (row_kept stays a) (row_kept stays b) s d out'
