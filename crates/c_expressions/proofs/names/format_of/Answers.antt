use Rattle.std.proofs.Common.{List, sym, ap, ◌∙◌}
use Rattle.std.specs.Prelude.{slice_get}
use Rattle.c_syntax.specs.declared.tree.Expr.{Expr}
use Rattle.c_syntax.specs.declared.tree.Exprs.{out-Exprs}
use Rattle.c_types.specs.Expressions.{format_of}
use Rattle.c_expressions.proofs.RowLemmas.{exprs_view}
use Rattle.c_expressions.proofs.FormLemmas.{format_at, no_format}
use Rattle.c_expressions.proofs.names.format_of.Goals as goal

pub returns-in-Some : goal.returns-in-Some
returns-in-Some c =
    let all = (out-Exprs c.args.arguments.now).items.items in
    let there = ap (λ (l : List Expr). slice_get l 0) (sym c.deref.ensures.value) ∙ sym c.in-Some.ensures.value in
    c.string_in.ensures ∙ (format_at all c.in-Some.first.now there ∙ sym (ap format_of (exprs_view c.args.arguments.now)))

pub returns-in-None : goal.returns-in-None
returns-in-None c =
    let all = (out-Exprs c.args.arguments.now).items.items in
    let none = ap (λ (l : List Expr). slice_get l 0) (sym c.deref.ensures.value) ∙ sym c.in-None.ensures.value in
    no_format all none ∙ sym (ap format_of (exprs_view c.args.arguments.now))
