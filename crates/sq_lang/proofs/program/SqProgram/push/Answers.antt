use Rattle.std.proofs.Common.{◌≡◌, length, ◌++◌, ◌∷◌, [], sym, ap, ◌∙◌, w64, arith}
use Rattle.std.proofs.lemmas.Int.{to_z-of_z}
use Rattle.sq_lang.specs.Step.{with_cell}
use Rattle.sq_lang.proofs.Listing.{length-first_cells, pushed, pushed_is}
use Rattle.sq_lang.proofs.program.SqProgram.push.Goals as goal

pub overflow_add-self : goal.overflow_add-self
overflow_add-self c =
    let size : length c.args.self.now ≡ c.self.inside.count = ap length (sym c.self.view_is) ∙ length-first_cells c.self.inside.count c.self.inside.cells in
    omega arith

pub invariant_of-self-2 : goal.invariant_of-self-2
invariant_of-self-2 c =
    let same = to_z-of_z w64 c.args.number c.ranges.number in
    pushed c.self.inside.count c.self.inside.cells c.set.new.self c.args.number (c.in_ok-set.ensures.ok ∙ ap (with_cell c.self.inside.cells c.self.inside.count) same) c.self.invariant

pub returns-clause-ok : goal.returns-clause-ok
returns-clause-ok c =
    let same = to_z-of_z w64 c.args.number c.ranges.number in
    pushed_is c.self.inside.count c.self.inside.cells c.set.new.self c.args.number (c.in_ok-set.ensures.ok ∙ ap (with_cell c.self.inside.cells c.self.inside.count) same)
    ∙ ap (λ xs. xs ++ c.args.number ∷ []) c.self.view_is
