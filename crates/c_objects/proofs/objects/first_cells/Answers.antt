use Rattle.std.proofs.Common.{List, [], Option, sym, subst}
use Rattle.c_syntax.specs.View.{value_of, maybe_value}
use Rattle.c_syntax.specs.declared.tree.Value.{Value}
use Rattle.c_store.specs.declared.value.Cell as rust
use Rattle.c_eval.specs.Environment.{cell_kinds}
use Rattle.c_eval.specs.LiteralsIn.{value_literals, first_literals}
use Rattle.c_eval.specs.Text.{first_cells, static_cells, zero_cells}
use Rattle.c_emitted.proofs.EmitLemmas.{nothing}
use Rattle.c_static.specs.Cells.{AddsShown, AddsCells}
use Rattle.c_static.proofs.CellLemmas.{with_literals}
use Rattle.c_objects.specs.Made.{IsQuietFirst}
use Rattle.c_objects.proofs.objects.first_cells.Goals as goal

pub returns-in_ok-add_cells-in-Some-clause-cells : goal.returns-in_ok-add_cells-in-Some-clause-cells
returns-in_ok-add_cells-in-Some-clause-cells c = λ t env has at structs quiet.
    let a = c.args.out.now in
    let b = c.add_cells.new.out in
    let v = value_of c.in-Some.value in
    let cells = c.add_cells.new.cells.items in
    let Q : Option Value → Type 0 = λ o. IsQuietFirst env.scope (maybe_value o) in
    let G : Option Value → Type 0 = λ o. AddsCells a b [] cells (first_cells t (maybe_value o) env) (first_literals env.scope (maybe_value o)) in
    subst G (sym c.in-Some.is)
    (subst (λ (l : List rust.Cell). AddsCells a b l cells (static_cells v t env) (value_literals env.scope v)) c.new-cells.ensures.items (c.in_ok-add_cells-in-Some.ensures.cells t env has at structs (subst Q c.in-Some.is quiet)))

pub returns-in_ok-add_cleared-in-None-clause-cells : goal.returns-in_ok-add_cleared-in-None-clause-cells
returns-in_ok-add_cleared-in-None-clause-cells c = λ t env has at structs quiet.
    let a = c.args.out.now in
    let cells = c.add_cleared.new.cells.items in
    let G : Option Value → Type 0 = λ o. AddsCells a a [] cells (first_cells t (maybe_value o) env) (first_literals env.scope (maybe_value o)) in
    subst G (sym c.in-None.is)
    (with_literals (subst (λ (l : List rust.Cell). AddsShown l cells (zero_cells (cell_kinds env.scope.tags t))) c.new-cells.ensures.items (c.in_ok-add_cleared-in-None.ensures t env.scope.tags has structs)) (nothing a))
