use Rattle.std.proofs.Common.{ap, ◌∙◌}
use Rattle.c_syntax.specs.View.{expr_of}
use Rattle.c_types.specs.Known.{OneType}
use Rattle.c_eval.specs.Text.{static_value}
use Rattle.c_store.specs.Shown.{value_of}
use Rattle.c_store.specs.declared.kind.Kind.{Kind}
use Rattle.c_plain.specs.Operators as words
use Rattle.c_emitted.specs.Emits.{tables_of}
use Rattle.c_static.proofs.FormLemmas.{converted_worth}
use Rattle.c_static.proofs.values.first_worth.Goals as goal

pub returns-clause-worth : goal.returns-clause-worth
returns-clause-worth c = λ t env has at.
    let v = c.in_ok-v.v in
    let kind = c.kind.ensures t (c.in_ok-v.ensures.grows c.args.ty (OneType t) has) in
    converted_worth (tables_of c.static_value.new.out) t (static_value env (expr_of c.args.e.now)) v c.converted.result (c.converted.ensures ∙ ap (λ (k : Kind). words.converted k (value_of v)) kind) (c.in_ok-v.ensures.worth env at)
