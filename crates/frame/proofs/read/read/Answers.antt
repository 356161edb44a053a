use Rattle.std.proofs.Common.{sym, ◌∙◌, ap}
use Rattle.frame.specs.Frame.{text_frame}
use Rattle.frame.proofs.Frames.{bad_read, unfed_bad, fed_is, fed_text}
use Rattle.frame.proofs.read.read.Goals as goal

pub returns-in_err-strip_suffix : goal.returns-in_err-strip_suffix
returns-in_err-strip_suffix c =
    rw c.from_residual.ensures (bad_read _ _ (unfed_bad _ (sym (fed_is c.args.line.now) ∙ c.in_err-strip_suffix.ensures.cases)))

pub returns : goal.returns
returns c =
    let h = c.in_ok-strip_suffix.ensures.cases in
    let e = fed_text c.args.line.now (sym (fed_is c.args.line.now) ∙ h.0) ∙ ap text_frame (sym h.1) in
    rw e c.read_text.ensures
