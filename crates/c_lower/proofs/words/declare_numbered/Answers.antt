use Rattle.std.proofs.Common.{refl, true}
use Rattle.c_syntax.specs.View.{decl_of}
use Rattle.c_types.specs.Declarations.{declared, scope_or}
use Rattle.c_addressing.proofs.HereLemmas.{still}
use Rattle.c_lower_blocks.proofs.StandingLemmas.{slot_named}
use Rattle.c_lower.proofs.words.declare_numbered.Goals as goal

pub returns-clause-some : goal.returns-clause-some
returns-clause-some c =
    let h = c.requires in
    (scope_or h.0 (declared h.0 true (decl_of c.args.d.now)), c.in_ok-declare_object.ensures.holds h.0 h.1)

pub returns-clause-still : goal.returns-clause-still
returns-clause-still c = still c.args.out.now (record c.args.out.now { types = c.declare_object.new.types }) c.in_ok-declare_object.ensures.grows c.in_ok-declare_object.ensures.tags refl refl

pub returns-clause-stands : goal.returns-clause-stands
returns-clause-stands c = λ w env at next.
    let h = c.args.here.now in
    let is = at.here in
    let d = decl_of c.args.d.now in
    record {
      here = record {
        holds = c.in_ok-declare_object.ensures.holds env.scope is.holds;
        slots = slot_named h.slots c.declare.new.self env.objects c.as_bytes.result.now d.name c.args.number env.next c.in_ok-declare.ensures.block c.in_ok-declare.ensures.outer c.as_bytes.ensures next is.slots;
        bases = is.bases;
        entries = is.entries;
        literals = record { address = λ n. is.literals.address n };
      };
      owner = at.owner;
    }
