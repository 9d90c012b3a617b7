use Rattle.std.proofs.Common.{Some, sym, ap, ◌∙◌}
use Rattle.c_syntax.specs.View.{form_of}
use Rattle.c_syntax.specs.declared.tree.Form.{Form}
use Rattle.c_expressions.specs.Named.{string_in}
use Rattle.c_expressions.proofs.FormLemmas.{no_string}
use Rattle.c_expressions.proofs.names.string_in.Goals as goal

pub returns-in-Str : goal.returns-in-Str
returns-in-Str c = ap Some c.as_bytes.ensures ∙ ap (λ (f : Form). string_in (form_of f c.args.e.now.pos)) (sym c.in-Str.is)

pub returns-in_default : goal.returns-in_default
returns-in_default c = no_string c.args.e.now.form c.args.e.now.pos c.in_default.not-Str
