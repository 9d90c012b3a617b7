use Rattle.std.proofs.Common.{ℕ, subst}
use Rattle.std.specs.Prelude.{Option, Some}
use Rattle.c_syntax.specs.View.{decl_of}
use Rattle.c_eval.specs.Environment.{declaring, object_type_in}
use Rattle.c_types.specs.Known.{OneType}
use Rattle.c_lowered.specs.Locations as plain
use Rattle.c_addressing.specs.Places.{IsLocation}
use Rattle.c_addressing.proofs.HereLemmas.{some_later}
use Rattle.c_applied.proofs.LeadsLemmas.{kept, then_still}
use Rattle.c_lower_blocks.proofs.StandingLemmas.{goes_behind, stands_still, own_meaning}
use Rattle.c_lower_blocks.proofs.locals.declare_local.Goals as goal

pub declare_numbered-requires : goal.declare_numbered-requires
declare_numbered-requires c = some_later c.args.out.now c.object_type.new.out c.args.here.now.declared c.in_ok-ty.ensures.still c.requires

pub returns-clause-typed : goal.returns-clause-typed
returns-clause-typed c =
    let typed = c.in_ok-ty.ensures.typed in
    (typed.0, c.in_ok-declare_numbered.ensures.still.grows c.in_ok-ty.ty (OneType typed.0) typed.1)

pub returns-clause-goes : goal.returns-clause-goes
returns-clause-goes c = goes_behind (kept c.in_ok-ty.ensures.still) c.in_ok-declare_numbered.ensures.goes

pub returns-clause-still : goal.returns-clause-still
returns-clause-still c = then_still c.in_ok-ty.ensures.still c.in_ok-declare_numbered.ensures.still

pub returns-clause-declares : goal.returns-clause-declares
returns-clause-declares c = λ w env n stands.
    let d = decl_of c.args.d.now in
    let after = c.in_ok-declare_numbered.ensures.stands w env n (stands_still c.in_ok-ty.ensures.still stands) in
    let there = own_meaning env.objects c.as_bytes.result.now d.name (Some env.next) c.as_bytes.ensures in
    let lies = subst (λ (o : Option (Option ℕ)). IsLocation c.located-place.result (plain.located w o)) there (c.located-place.ensures c.declare_numbered.new.out w (declaring d env) after.here) in
    record {
      ty = c.in_ok-declare_numbered.ensures.still.grows c.in_ok-ty.ty (OneType (object_type_in env.scope d)) (c.in_ok-ty.ensures.ty env.scope stands.here.holds);
      at = c.offset_in_frame-at.ensures (plain.located w (Some (Some env.next))) lies;
      stands = after;
    }
