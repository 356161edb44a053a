-- WHICH SEPARATION THE RULE OF FIT SERVES. The rule (Fit.antt) is stated for a number and knows nothing of tracks: here stands at which number it is
-- read for a separation. Every sentence that joins wirings to the rule, or to a pair that breaks it, goes through these two, and so does the drawing.
--
-- Worked: J's rule holds at 2 for offsets -1 to 1, and at 1 for none. So J needs 3 tracks; at 2 and offset 0 top pad 0 and bottom pad 1 prevent a wiring.
use Rattle.std.specs.Prelude.{ℕ, zero, suc, ◌-◌}

-- 02, #106: "At separation 0 nothing changes; at t >= 1 a jumper fits where it fitted at t - 1 before." The difference is cut at 0
unfoldable pub rule_at : (separation : ℕ) → ℕ
rule_at t = t - 1

-- the least separation at which the rule is read at a number: "a least or best separation of 0 stays and any other grows by one"
unfoldable pub tracks_for : (number : ℕ) → ℕ
tracks_for zero = zero
tracks_for (suc r) = suc (suc r)
