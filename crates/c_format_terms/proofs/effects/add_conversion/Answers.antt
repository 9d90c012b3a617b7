use Rattle.std.proofs.Common.{◌≡◌, ◌++◌, map, subst}
use Rattle.std.specs.Prelude.{OnOk}
use Rattle.c_syntax.specs.Plain.{CExpr}
use Rattle.c_syntax.specs.View.{stmt_of}
use Rattle.c_format_terms.specs.Written.{written}
use Rattle.c_format_terms.proofs.effects.add_conversion.Goals as goal

pub returns : goal.returns
returns c =
    subst (λ (x : CExpr). OnOk c.add_written.result (map stmt_of c.add_written.new.row.items ≡ map stmt_of c.args.row.now.items ++ written c.args.letter x)) c.in_ok-e.ensures c.add_written.ensures
