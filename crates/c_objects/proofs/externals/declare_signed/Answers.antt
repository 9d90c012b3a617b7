use Rattle.c_syntax.specs.Words.{meaning}
use Rattle.c_types.specs.Units.{type_of, entity_behind}
use Rattle.c_objects.proofs.externals.declare_signed.Goals as goal

pub returns : goal.returns
returns c = λ s g h is.
    let block = meaning s.block c.args.name.now in
    let entity = c.entity_behind-entity.ensures c.args.types.now block (type_of g) (c.found_here-found.ensures s h.fits) is.ty in
    c.declare.ensures.holds s (entity_behind block (type_of g) c.args.defines) h entity
