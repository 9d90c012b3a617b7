use Rattle.std.proofs.Common.{refl}
use Rattle.c_types.specs.Scope.{entered}
use Rattle.c_addressing.proofs.HereLemmas.{holds_later}
use Rattle.c_declared.proofs.HeldLemmas.{block_entered}
use Rattle.c_applied.proofs.LeadsLemmas.{kept}
use Rattle.c_lower_blocks.proofs.InsideLemmas.{entered_some, names_anew}
use Rattle.c_lower_blocks.proofs.StandingLemmas.{begun_inside, begun_holds, begun_stands}
use Rattle.c_lower_blocks.proofs.blocks.begin_block.Goals as goal

pub place_all-requires : goal.place_all-requires
place_all-requires c = entered_some c.args.out.now.types c.args.here.now c.enter-marks.new.here c.enter-marks.result c.enter-marks.ensures c.requires

pub begin_anew-requires : goal.begin_anew-requires
begin_anew-requires c = names_anew c.args.here.now c.enter-marks.new.here c.place_all.new.here c.enter-marks.result c.enter-marks.ensures c.in_ok-behind.ensures.places.around

pub returns-clause-begins : goal.returns-clause-begins
returns-clause-begins c =
    let still = c.in_ok-behind.ensures.still in
    let places = c.in_ok-behind.ensures.places in
    record {
      keeps = kept still;
      inside = begun_inside c.enter-marks.ensures places c.in_ok-begin_anew.ensures;
      marks = c.enter-marks.ensures.marks;
      holds = (entered c.requires.0, begun_holds c.requires.0 c.enter-marks.ensures places c.in_ok-begin_anew.ensures (holds_later c.args.out.now c.place_all.new.out c.args.here.now.declared c.requires.0 still c.requires.1));
    }

pub returns-clause-still : goal.returns-clause-still
returns-clause-still c = c.in_ok-behind.ensures.still

pub returns-clause-stands : goal.returns-clause-stands
returns-clause-stands c = λ w env n is hn.
    let h = c.args.here.now in
    let e = c.enter-marks.new.here in
    let i = c.enter-marks.ensures in
    begun_stands (record { next = c.enter-marks.result.bases; free = c.in_ok-behind.behind }) w env n i c.in_ok-behind.ensures.places c.requires c.in_ok-behind.ensures.still c.in_ok-begin_anew.ensures refl refl
    (λ s holds. block_entered c.args.out.now.types h.declared e.declared s i.names i.inside.names i.inside.layouts i.inside.defined holds) is hn
