use Rattle.c_syntax.specs.View.{decl_of}
use Rattle.c_fewer_declarations.specs.Standing.{StandsIn}
use Rattle.c_fewer_parts.proofs.GoingLemmas.{goes_around}
use Rattle.c_fewer_parts.proofs.locals.forgotten.Goals as goal

pub announce-requires : goal.announce-requires
announce-requires c =
    c.requires

pub returns-clause-tree : goal.returns-clause-tree
returns-clause-tree c =
    c.in_ok-local.ensures.tree

pub returns-clause-stays : goal.returns-clause-stays
returns-clause-stays c =
    record {
      goes = goes_around c.withdraw.new.declared c.in_ok-local.ensures.goes c.in_ok-withdraw.ensures.around;
      holds = λ s before.
          let stands : StandsIn c.args.types.now c.args.here.now s = record { holds = before; names = c.requires.1.names } in
          c.in_ok-withdraw.ensures.holds c.announce.new.types s (decl_of c.args.d.now) (c.in_ok-local.ensures.refusal s stands) (c.in_ok-local.ensures.behind s stands).holds;
    }
