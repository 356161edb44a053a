use Rattle.std.proofs.Common.{rules, sym, ◌∙◌, ◌-◌, length, w32}
use mir.Val.{SFits}
use Rattle.std.proofs.lemmas.Int.{to_z-of_z}
use Rattle.whole.proofs.Order.{true_le, untrue}
use Rattle.wiring.specs.Wiring.{pad}
use Rattle.jumper.proofs.Accepted.{sound_row}
use Rattle.jumper.proofs.rows.Row.is_faultless.Goals as goal
use Rattle.jumper.proofs.rows.Row.is_faultless.Goals.{then-rises, else-rises}

pub returns-then-self-ge-FIRST_COLUMN : goal.returns-then-self-ge-FIRST_COLUMN
returns-then-self-ge-FIRST_COLUMN c = λ e.
    let a = c.args.self.now.pads.now in
    let fl : SFits w32 (pad a 0) = search rules in
    let fh : SFits w32 (pad a (length a - 1)) = search rules in
    let high = rw (to_z-of_z w32 _ fh) at e in
    elim c.if-rises.branch [
      | then-rises w ↦
          let low = rw (to_z-of_z w32 _ fl) at (sym w.value-is ∙ c.if-self-ge-FIRST_COLUMN.true) in
          sound_row a c.args.self.now.some (c.rises.ensures w.if-rises.true) (true_le _ _ low) (true_le _ _ high)
      | else-rises w ↦ untrue (sym w.if-rises.false ∙ sym w.value-is ∙ c.if-self-ge-FIRST_COLUMN.true)
    ]
