use Rattle.std.proofs.Common.{◌++◌, Option, sym, subst}
use Rattle.c_types.specs.Scope as scope
use Rattle.c_scopes.specs.declared.entity.Entity.{Entity}
use Rattle.c_operands.specs.Scoped.{IsEntityOrNone}
use Rattle.c_operands.proofs.NameLemmas.{found, both_blocks}
use Rattle.c_fewer_expressions.proofs.names.entity_of.Goals as goal

pub returns : goal.returns
returns c = λ s stands.
    let names = c.args.here.now.declared.names in
    subst (λ (o : Option Entity). IsEntityOrNone c.args.types.now o (scope.entity_of s c.args.name.now)) (sym c.get.ensures)
    (found c.args.types.now (names.block ++ names.outer) (s.block ++ s.outer) c.args.name.now (both_blocks c.args.types.now names.block names.outer s.block s.outer stands.fits.block stands.fits.outer))
