use Rattle.std.proofs.Common.{◌≡◌, true, false, List, sym, ap, ◌∙◌}
use Rattle.std.specs.List.{list_any}
use Rattle.piet_image.specs.declared.place.Stand.{Stand}
use Rattle.piet_image.specs.Slide.{same_stop}
use Rattle.piet_lang.proofs.SlidLemmas.{goes_on, turns, enters, never}
use Rattle.piet_lang.proofs.slide.slide_on.Goals as goal

pub returns-then-has_stopped : goal.returns-then-has_stopped
returns-then-has_stopped c =
    let old : list_any (λ (t : Stand). same_stop t c.args.at) c.args.stops.now.items ≡ true = ap (λ (xs : List Stand). list_any (λ (t : Stand). same_stop t c.args.at) xs) (sym c.deref.ensures.value) ∙ (sym c.has_stopped.ensures ∙ c.if-has_stopped.true) in
    never c.args.image.now c.args.stops.now.items c.args.at c.requires (sym c.in-Blocked.ensures.met) old

pub returns-in-Onto : goal.returns-in-Onto
returns-in-Onto c = enters c.args.image.now c.args.stops.now.items c.args.at c.requires c.in-Onto.place c.in-Onto.field-1 c.in-Onto.field-2 (sym c.in-Onto.ensures.met)

pub returns-in-Free : goal.returns-in-Free
returns-in-Free c = goes_on c.args.image.now c.args.stops.now.items c.args.at c.requires c.in-Free.place (sym c.in-Free.ensures.met)

pub returns-in_ok-push-in-Blocked : goal.returns-in_ok-push-in-Blocked
returns-in_ok-push-in-Blocked c =
    let new : list_any (λ (t : Stand). same_stop t c.args.at) c.args.stops.now.items ≡ false = ap (λ (xs : List Stand). list_any (λ (t : Stand). same_stop t c.args.at) xs) (sym c.deref.ensures.value) ∙ (sym c.has_stopped.ensures ∙ c.if-has_stopped.false) in
    rw (c.in_ok-push-in-Blocked.ensures.items, c.cornered.ensures) (turns c.args.image.now c.args.stops.now.items c.args.at c.requires (sym c.in-Blocked.ensures.met) new)
