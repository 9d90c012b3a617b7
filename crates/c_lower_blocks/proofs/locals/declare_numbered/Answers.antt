use Rattle.std.proofs.Common.{refl, false}
use Rattle.c_syntax.specs.View.{decl_of}
use Rattle.c_types.specs.Declarations.{declared, scope_or}
use Rattle.c_addressing.proofs.HereLemmas.{still}
use Rattle.c_lower_blocks.proofs.StandingLemmas.{slot_named, next_number}
use Rattle.c_lower_blocks.proofs.locals.declare_numbered.Goals as goal

pub returns-clause-goes : goal.returns-clause-goes
returns-clause-goes c =
    let declares = c.in_ok-declare_object.ensures in
    record {
      keeps = record { grows = declares.grows; tags = declares.tags };
      beside = record { declared = declares.around; slots = c.in_ok-declare.ensures.outer; bases = refl; entries = refl };
      holds = (scope_or c.requires.0 (declared c.requires.0 false (decl_of c.args.d.now)), declares.holds c.requires.0 c.requires.1);
      free = refl;
    }

pub returns-clause-still : goal.returns-clause-still
returns-clause-still c = still c.args.out.now (record c.args.out.now { types = c.declare_object.new.types }) c.in_ok-declare_object.ensures.grows c.in_ok-declare_object.ensures.tags refl refl

pub returns-clause-stands : goal.returns-clause-stands
returns-clause-stands c = λ w env n stands.
    let h = c.args.here.now in
    let is = stands.here in
    let d = decl_of c.args.d.now in
    record {
      here = record {
        holds = c.in_ok-declare_object.ensures.holds env.scope is.holds;
        slots = slot_named h.slots c.declare.new.self env.objects c.as_bytes.result.now d.name c.args.block.now.next env.next c.in_ok-declare.ensures.block c.in_ok-declare.ensures.outer c.as_bytes.ensures stands.next is.slots;
        bases = is.bases;
        entries = is.entries;
        literals = is.literals;
      };
      next = next_number c.args.block.now.next c.in_ok-next.next env.next c.in_ok-next.ensures stands.next;
      free = stands.free;
    }
