use Rattle.std.proofs.Common.{get_or, subst}
use Rattle.std.proofs.lemmas.Option.{slice_get-get_or}
use Rattle.piet_image.specs.declared.place.Place.{Place}
use Rattle.piet_lang.specs.Chart.{IsLater}
use Rattle.piet_lang.proofs.ExitLemmas.{last_none, first_is, last_later, last_all}
use Rattle.piet_lang.proofs.exits.last_of.Goals as goal

zero_place : Place
zero_place = record { x = 0; y = 0 }

pub loop-i-init : goal.loop-i-init
unfolding zero_place
loop-i-init c = last_none c.args.members.now c.args.pointer c.args.chooser (get_or c.args.members.now 0 zero_place) (first_is c.args.members.now zero_place c.requires)

pub loop-i-preserved : goal.loop-i-preserved
unfolding zero_place
loop-i-preserved c =
    let members = c.args.members.now in
    let i = c.loop-i.i in
    let to = subst (λ e. IsLater c.args.pointer e c.loop-i.last (get_or members i zero_place) c.later-last.result) c.side-to.ensures c.later-last.ensures in
    last_later members c.args.pointer c.args.chooser i c.loop-i.last (get_or members i zero_place) c.later-last.result c.loop-i.invariant (slice_get-get_or members i zero_place c.loop-i-test.true) to

pub returns : goal.returns
returns c = last_all c.args.members.now c.args.pointer c.args.chooser c.loop-i.i c.loop-i.last c.loop-i-test.false c.loop-i.invariant
