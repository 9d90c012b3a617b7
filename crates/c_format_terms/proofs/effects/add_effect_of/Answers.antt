use Rattle.std.proofs.Common.{◌≡◌, ◌++◌, ◌∷◌, [], List, map, ap, subst, ◌∙◌}
use Rattle.std.specs.Prelude.{OnOk}
use Rattle.c_syntax.specs.View.{expr_of, stmt_of}
use Rattle.c_syntax.specs.declared.tree.Expr.{Expr}
use Rattle.c_helpers.specs.Functions.{call_of}
use Rattle.c_format_terms.proofs.effects.add_effect_of.Goals as goal

pub returns : goal.returns
returns c =
    subst (λ (es : List Expr). OnOk c.add_effect.result (map stmt_of c.add_effect.new.row.items ≡ map stmt_of c.args.row.now.items ++ call_of c.args.name.now (map expr_of es) ∷ []))
    (c.in_ok-push.ensures.items ∙ ap (λ (l : List Expr). l ++ c.args.e ∷ []) c.new-arguments.ensures.items) c.add_effect.ensures
