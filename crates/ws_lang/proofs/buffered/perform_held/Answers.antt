use Rattle.std.proofs.Common.{◌≡◌, ◌+◌, ◌-◌, List, ℤ, sym, ap, subst, ◌∙◌, rules}
use Rattle.mach_core.specs.Held.{Buffers}
use Rattle.ws_lang.specs.Effect.{act_for}
use Rattle.ws_lang.specs.Acts.{ActsHeld}
use Rattle.ws_lang.specs.Stack.{values_of}
use Rattle.ws_lang.specs.Quiet.{running}
use Rattle.ws_lang.proofs.StackLemmas.{values_drop}
use Rattle.ws_lang.proofs.buffered.perform_held.Goals as goal

pub returns-else-not-exchange-clause-done : goal.returns-else-not-exchange-clause-done
returns-else-not-exchange-clause-done c = λ _ returns.
    let slots = c.args.slots.now in
    let values = values_of slots c.args.len.now in
    let old = running returns c.args.place.now values c.args.heap.now in
    let before : Buffers = record { held = c.args.feed.now; put = c.args.put.now } in
    let after' : Buffers = record { held = c.exchange.new.feed; put = c.exchange.new.put } in
    let rest : c.saturating_sub.result ≡ c.args.len.now - 1 = search rules in
    let left = ap (values_of slots) rest ∙ values_drop slots c.args.len.now 1 c.requires.len in
    subst (λ (s : List ℤ). ActsHeld old (act_for old c.args.effect) before (running returns (c.args.place.now + 1) s c.exchange.new.heap) after') (sym left)
    (c.exchange.ensures.done c.if-not-exchange.false returns c.args.place.now values)
