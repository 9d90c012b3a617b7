use Rattle.std.proofs.Common.{map, ap, ◌∙◌}
use Rattle.c_syntax.specs.Plain as plain
use Rattle.c_syntax.specs.Plain.{CExpr, exprs}
use Rattle.c_syntax.specs.View.{expr_of, stmt_of}
use Rattle.c_syntax.specs.declared.tree.Stmt.TheVariants as stmt
use Rattle.c_helpers.specs.Functions.{call_of}
use Rattle.c_format_terms.proofs.RowLemmas.{put_as}
use Rattle.c_format_terms.proofs.effects.add_effect.Goals as goal

pub returns : goal.returns
returns c =
    let arguments = map expr_of c.args.arguments.items in
    put_as stmt_of c.args.row.now.items c.push.new.self.items (stmt.Expr c.in_ok-e.e) (call_of c.args.name.now arguments) c.in_ok-push.ensures.items
    (ap plain.Do_expr (c.in_ok-e.ensures ∙ ap (λ (f : CExpr). plain.Call 0 f (exprs arguments)) c.in_ok-callee.ensures))
