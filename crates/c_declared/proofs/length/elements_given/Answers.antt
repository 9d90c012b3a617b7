use Rattle.std.proofs.Common.{◌≡◌, length, sym, ap, ◌∙◌, arith}
use Rattle.c_syntax.specs.View.{value_of}
use Rattle.c_syntax.specs.declared.tree.Value.{Value}
use Rattle.c_types.specs.Declarations.{elements_given}
use Rattle.c_declared.proofs.ValueRows.{braces_made, braces_counted}
use Rattle.c_declared.proofs.length.elements_given.Goals as goal

pub returns-in-Many : goal.returns-in-Many
returns-in-Many c = λ t h.
    let vs = c.in-Many.values in
    let count : c.len.result ≡ length vs.items.items = omega arith in
    braces_counted vs.items.items c.len.result count ∙ sym (ap (λ v. elements_given t v) (ap (λ (v : Value). value_of v) c.in-Many.is ∙ braces_made vs))
