use Rattle.std.proofs.Common.{sym, ◌∙◌, subst}
use Rattle.c_prep.specs.Lines.{text_acts}
use Rattle.c_prep.specs.Views.{macros_of, Adds}
use Rattle.c_prep.proofs.Giving.{adds_none}
use Rattle.c_prep.proofs.lines.read_text.Goals as goal

pub returns-else-is_taken-clause-acts : goal.returns-else-is_taken-clause-acts
returns-else-is_taken-clause-acts c = λ most fits.
    subst (λ taken. Adds c.args.out.now c.args.out.now (text_acts most taken (macros_of c.args.context.now.table) c.args.line.now)) (sym (sym c.is_taken.ensures ∙ c.if-is_taken.false)) (adds_none c.args.out.now)
