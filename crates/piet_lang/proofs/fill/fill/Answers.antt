use Rattle.std.proofs.Common.{◌≡◌, ◌+◌, ◌<◌, List, [], ◌∷◌, ◌++◌, length, set, Some, slice_get, sym, ap, subst, ◌∙◌, arith}
use Rattle.std.proofs.lemmas.List.{length-set, length-append}
use Rattle.std.proofs.lemmas.Option.{slice_get-get_or}
use Rattle.piet_image.specs.declared.place.Place.{Place}
use Rattle.piet_lang.specs.Chart.{Filling}
use Rattle.piet_lang.proofs.ExitLemmas.{among_at, index_among}
use Rattle.piet_lang.proofs.FillLemmas.{fill_first, fewer_free, free_few, explored_more}
use Rattle.piet_lang.proofs.fill.fill.Goals as goal

pub loop-done-init : goal.loop-done-init
loop-done-init c =
    let im = c.args.image.now in
    let now = c.args.numbers.now in
    let p = c.args.paint in
    let start = c.args.start in
    let first = fill_first im p.hue p.light start p.number now c.requires.count (c.requires.across, c.requires.down) c.requires.hue c.requires.fresh in
    let fewer = fewer_free im now start p.number c.requires.count (c.requires.across, c.requires.down) c.requires.some c.requires.fresh in
    let most = free_few im now in
    let items : c.push.new.self.items ≡ start ∷ [] = c.in_ok-push.ensures.items ∙ ap (λ (xs : List Place). xs ++ start ∷ []) c.clear.ensures.items in
    let one : length c.push.new.self.items ≡ 1 = ap length items in
    record {
      count = length-set now c.index_of.result p.number ∙ c.requires.count;
      filled = subst (λ (xs : List Place). Filling im p.hue p.light start p.number now (set now c.index_of.result p.number) xs) (sym items) (subst (λ i. Filling im p.hue p.light start p.number now (set now i p.number) (start ∷ [])) (sym c.index_of.ensures.index) first);
      explored = λ k r h. absurd (omega arith);
      few = rw c.index_of.ensures.index (omega (arith, fewer, most, one));
      within = omega arith;
    }

pub visit_all-requires-clause-across : goal.visit_all-requires-clause-across
visit_all-requires-clause-across c =
    let members = c.loop-done.members.items in
    let place = c.index-place.result.now in
    let here : slice_get members c.loop-done.done ≡ Some place = slice_get-get_or members c.loop-done.done place (omega (arith, c.loop-done-test.true, c.len.ensures, c.loop-done.members.ok.0)) ∙ ap (λ (z : Place). Some z) (sym c.index-place.ensures) in
    (c.loop-done.invariant.filled.within place (among_at members c.loop-done.done place here)).0

pub visit_all-requires-clause-down : goal.visit_all-requires-clause-down
visit_all-requires-clause-down c =
    let members = c.loop-done.members.items in
    let place = c.index-place.result.now in
    let here : slice_get members c.loop-done.done ≡ Some place = slice_get-get_or members c.loop-done.done place (omega (arith, c.loop-done-test.true, c.len.ensures, c.loop-done.members.ok.0)) ∙ ap (λ (z : Place). Some z) (sym c.index-place.ensures) in
    (c.loop-done.invariant.filled.within place (among_at members c.loop-done.done place here)).1

pub loop-done-preserved : goal.loop-done-preserved
loop-done-preserved c =
    let im = c.args.image.now in
    let p = c.args.paint in
    let members = c.loop-done.members.items in
    let done = c.loop-done.done in
    let place = c.index-place.result.now in
    let below : done < length members = omega (arith, c.loop-done-test.true, c.len.ensures, c.loop-done.members.ok.0) in
    let here : slice_get members done ≡ Some place = slice_get-get_or members done place below ∙ ap (λ (z : Place). Some z) (sym c.index-place.ensures) in
    let told = c.in_ok-visit_all.ensures in
    let state = told.filled c.args.start c.args.numbers.now c.loop-done.invariant.filled (among_at members done place here) in
    let more = told.more in
    let long : length c.visit_all.new.members.items ≡ length members + length more.0 = ap length more.1 ∙ length-append members more.0 in
    record {
      count = state.size ∙ c.requires.count;
      filled = state;
      explored = explored_more im p.hue p.light c.loop-done.numbers c.visit_all.new.numbers members more.0 c.visit_all.new.members.items done place more.1 below here c.loop-done.invariant.explored told.kept told.explored;
      few = omega (arith, told.few, c.loop-done.invariant.few);
      within = omega (arith, long, below);
    }

pub returns-clause-explored : goal.returns-clause-explored
returns-clause-explored c = λ r m.
    let i = index_among c.loop-done.members.items r m in
    c.loop-done.invariant.explored i.at r (omega (arith, i.below, c.len.ensures, c.loop-done-test.false, c.loop-done.members.ok.0)) i.is
