use Rattle.std.proofs.Common.{Option, ◌++◌, sym, subst}
use Rattle.c_types.specs.Scope as scope
use Rattle.c_scopes.specs.declared.entity.Entity.{Entity}
use Rattle.c_operands.specs.Scoped.{IsEntityOrNone}
use Rattle.c_operands.proofs.NameLemmas.{found, both_blocks}
use Rattle.c_operands.proofs.uses.entity_of.Goals as goal

pub returns : goal.returns
returns c = λ s fits.
    let table = c.args.types.now in
    let names = c.args.declared.now.names in
    subst (λ (o : Option Entity). IsEntityOrNone table o (scope.entity_of s c.args.name.now)) (sym c.get.ensures)
    (found table (names.block ++ names.outer) (s.block ++ s.outer) c.args.name.now (both_blocks table names.block names.outer s.block s.outer fits.block fits.outer))
