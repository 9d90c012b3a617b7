use Rattle.std.proofs.Common.{refl}
use Rattle.c_types.specs.Scope.{entered}
use Rattle.c_eval.specs.Environment.{in_block}
use Rattle.c_declared.proofs.HeldLemmas.{block_entered, holds_kept}
use Rattle.c_applied.proofs.LeadsLemmas.{same_number}
use Rattle.c_lower_blocks.proofs.InsideLemmas.{entered_some, names_anew}
use Rattle.c_lower_blocks.proofs.StandingLemmas.{begun_inside, begun_holds, begun_stands}
use Rattle.c_lower_statements.proofs.switches.begin_switch.Goals as goal

pub compare_all-requires : goal.compare_all-requires
compare_all-requires c = entered_some c.args.out.now.types c.args.here.now c.enter-marks.new.here c.enter-marks.result c.enter-marks.ensures c.requires

pub begin_anew-requires : goal.begin_anew-requires
begin_anew-requires c = names_anew c.args.here.now c.enter-marks.new.here c.compare_all.new.here c.enter-marks.result c.enter-marks.ensures c.in_ok-behind.ensures.places.around

pub returns-clause-begins : goal.returns-clause-begins
returns-clause-begins c =
    let places = c.in_ok-behind.ensures.places in
    let some = c.requires in
    record {
      keeps = places.keeps;
      inside = begun_inside c.enter-marks.ensures places c.in_ok-begin_anew.ensures;
      marks = c.enter-marks.ensures.marks;
      holds = (entered some.0, begun_holds some.0 c.enter-marks.ensures places c.in_ok-begin_anew.ensures (holds_kept c.args.out.now.types c.compare_all.new.out.types c.args.here.now.declared some.0 places.keeps.grows places.keeps.tags some.1));
    }

pub returns-clause-cases : goal.returns-clause-cases
returns-clause-cases c = λ w env m n is hk.
    let h = c.args.here.now in
    let e = c.enter-marks.new.here in
    let i = c.enter-marks.ensures in
    c.in_ok-behind.ensures.cases (in_block n env) m (block_entered c.args.out.now.types h.declared e.declared env.scope i.names i.inside.names i.inside.layouts i.inside.defined is.holds) hk

pub returns-clause-stands : goal.returns-clause-stands
returns-clause-stands c = λ w env n is hn.
    let h = c.args.here.now in
    let e = c.enter-marks.new.here in
    let i = c.enter-marks.ensures in
    begun_stands (record { next = c.enter-marks.result.bases; free = c.in_ok-behind.behind }) w env n i c.in_ok-behind.ensures.places c.requires
    (c.in_ok-behind.ensures.cases (in_block n env) c.args.k (block_entered c.args.out.now.types h.declared e.declared env.scope i.names i.inside.names i.inside.layouts i.inside.defined is.holds) (same_number c.args.k)) c.in_ok-begin_anew.ensures refl refl
    (λ s holds. block_entered c.args.out.now.types h.declared e.declared s i.names i.inside.names i.inside.layouts i.inside.defined holds) is hn
