use Rattle.std.proofs.Common.{ℕ, List, sym, ap, subst, ◌∙◌}
use denote.Ref.{Bor}
use Rattle.c_syntax.specs.View.{unit_of}
use Rattle.c_types.specs.Table.{texts}
use Rattle.c_eval.specs.Text.{text_of}
use Rattle.c_lower.specs.declared.bodies.Body.{Body}
use Rattle.c_lower.specs.Bodies.{AreEach}
use Rattle.c_lower.specs.Whole.{first_of_functions}
use Rattle.c_lower.proofs.ExternalWholeLemmas.{placed_here, addressed}
use Rattle.c_lower.proofs.text_code.whole_code.Goals as goal

pub returns : goal.returns
returns c = λ end typed blocks are is.
    let u = unit_of c.args.unit.now in
    let a = first_of_functions u in
    let fs = (text_of u).functions in
    let adds = c.in_ok-end.ensures a is.first_at in
    let each = subst (λ (l : List Body). AreEach l fs) (sym c.as_slice-each.ensures.value) are.each in
    let lie = addressed c.new-addresses.result.items c.add_addresses.new.addresses.items c.as_slice-table.result.now c.in_ok-end.end a (texts c.as_slice-literals.result.now) _ c.new-addresses.ensures.items c.as_slice-table.ensures.value
    (ap (λ (l : List (Bor (List ℕ))). texts l) c.as_slice-literals.ensures.value ∙ are.literals) adds in
    c.placed_code.ensures end typed blocks (placed_here u c.in_ok-placed.placed (c.in_ok-placed.ensures a fs each lie)) is.knows
