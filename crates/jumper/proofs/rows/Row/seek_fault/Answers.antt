use Rattle.std.proofs.Common.{◌≡◌, sym, ◌∙◌, true, false, ◌≤ℤ◌, rules, to_z, w32}
use Rattle.std.specs.Int.Signed.{lt_z, le_z}
use mir.Val.{SFits}
use Rattle.std.proofs.lemmas.Int.{to_z-of_z}
use native.Mathlib.Nat.{add-zero}
use Rattle.whole.proofs.Arith.{arithℤ}
use Rattle.whole.proofs.Order.{untrue, lt_false, false_lt, false_le}
use Rattle.wiring.specs.Wiring.{pad}
use Rattle.jumper.specs.Limits.{first_column, last_column, AcceptedColumn}
use Rattle.jumper.proofs.Faults.{column, order, next, done}
use Rattle.jumper.proofs.rows.Row.seek_fault.Goals as goal

pub loop-i-init : goal.loop-i-init
loop-i-init c = (search rules, omega arithℤ, rw add-zero)

pub returns-then-x-gt-LAST_COLUMN : goal.returns-then-x-gt-LAST_COLUMN
returns-then-x-gt-LAST_COLUMN c =
    let x = pad c.args.self.now.pads.now c.loop-i.i in
    let fx : SFits w32 x = search rules in
    let right : lt_z last_column x ≡ true = rw (to_z-of_z w32 x fx) at c.if-x-gt-LAST_COLUMN.true in
    sym (c.loop-i.invariant.2 ∙ column c.args.self.now.pads.now _ c.args.self.now.place c.loop-i.i c.loop-i-test.true (λ accepted. untrue (sym (lt_false last_column x accepted.high) ∙ right)))

pub returns-then-x-lt-FIRST_COLUMN : goal.returns-then-x-lt-FIRST_COLUMN
returns-then-x-lt-FIRST_COLUMN c =
    let x = pad c.args.self.now.pads.now c.loop-i.i in
    let fx : SFits w32 x = search rules in
    let left : lt_z x first_column ≡ true = rw (to_z-of_z w32 x fx) at c.if-x-lt-FIRST_COLUMN.true in
    sym (c.loop-i.invariant.2 ∙ column c.args.self.now.pads.now _ c.args.self.now.place c.loop-i.i c.loop-i-test.true (λ accepted. untrue (sym (lt_false x first_column accepted.low) ∙ left)))

pub returns-then-x-before : goal.returns-then-x-before
returns-then-x-before c =
    let x = pad c.args.self.now.pads.now c.loop-i.i in
    let fx : SFits w32 x = search rules in
    let not_right : lt_z last_column x ≡ false = rw (to_z-of_z w32 x fx) at c.if-x-gt-LAST_COLUMN.false in
    let not_above : le_z x (to_z w32 c.loop-i.before-bits) ≡ true = rw (to_z-of_z w32 x fx) at c.if-x-before.true in
    let not_left : lt_z x first_column ≡ false = rw (to_z-of_z w32 x fx) at c.if-x-lt-FIRST_COLUMN.false in
    let accepted : AcceptedColumn x = record { low = false_lt x first_column not_left; high = false_lt last_column x not_right } in
    sym (c.loop-i.invariant.2 ∙ order c.args.self.now.pads.now _ c.args.self.now.place c.loop-i.i c.loop-i-test.true accepted not_above)

pub loop-i-preserved : goal.loop-i-preserved
loop-i-preserved c =
    let x = pad c.args.self.now.pads.now c.loop-i.i in
    let fx : SFits w32 x = search rules in
    let e = to_z-of_z w32 x fx in
    let not_right : lt_z last_column x ≡ false = rw e at c.if-x-gt-LAST_COLUMN.false in
    let above : le_z x (to_z w32 c.loop-i.before-bits) ≡ false = rw e at c.if-x-before.false in
    let low : first_column ≤ℤ x = omega (arithℤ, false_le x _ above, c.loop-i.invariant.1) in
    let accepted : AcceptedColumn x = record { low = low; high = false_lt last_column x not_right } in (
      search rules,
      rw e (omega (arithℤ, low)),
      rw e (c.loop-i.invariant.2 ∙ next c.args.self.now.pads.now _ c.args.self.now.place c.loop-i.i c.loop-i-test.true accepted above),
    )

pub returns : goal.returns
returns c = sym (c.loop-i.invariant.2 ∙ done _ _ _ _ c.loop-i-test.false)
