use Rattle.std.proofs.Common.{◌≡◌, ◌+◌, ◌-◌, sym, ap, ◌∙◌, rules, w64, to_z, of_z}
use mir.Val.{SFits}
use Rattle.std.proofs.lemmas.Int.{to_z-of_z}
use Rattle.mach_core.specs.Sparse.{with_value}
use Rattle.mach_core.specs.Integer.{is_zero}
use Rattle.ws_lang.specs.Step.{Goes}
use Rattle.ws_lang.specs.Effect.{act_for}
use Rattle.ws_lang.specs.Stack.{values_of}
use Rattle.ws_lang.specs.Quiet.{running}
use Rattle.ws_lang.proofs.StackLemmas.{values_drop}
use Rattle.ws_lang.proofs.buffered.perform.Goals as goal

pub returns-in-Discard-clause-done : goal.returns-in-Discard-clause-done
returns-in-Discard-clause-done c = λ _ returns.
    let slots = c.args.slots.now in
    let rest : c.saturating_sub.result ≡ c.args.len.now - c.in-Discard.count = search rules in
    let left = ap (values_of slots) rest ∙ values_drop slots c.args.len.now c.in-Discard.count c.requires.len in
    ap (act_for (running returns c.args.place.now (values_of c.args.slots.now c.args.len.now) c.args.heap.now)) c.in-Discard.is ∙ ap (λ s. Goes (running returns (c.args.place.now + 1) s c.args.heap.now)) (sym left)

pub returns-in-Jump-clause-done : goal.returns-in-Jump-clause-done
returns-in-Jump-clause-done c = λ _ returns.
    let slots = c.args.slots.now in
    let rest : c.saturating_sub-in-Jump.result ≡ c.args.len.now - c.in-Jump.count = search rules in
    let left = ap (values_of slots) rest ∙ values_drop slots c.args.len.now c.in-Jump.count c.requires.len in
    ap (act_for (running returns c.args.place.now (values_of c.args.slots.now c.args.len.now) c.args.heap.now)) c.in-Jump.is ∙ ap (λ s. Goes (running returns c.in-Jump.to s c.args.heap.now)) (sym left)

pub returns-else-not-put-clause-done : goal.returns-else-not-put-clause-done
returns-else-not-put-clause-done c = λ _ returns.
    let slots = c.args.slots.now in
    let a = c.in-Store.address in
    let v = c.in-Store.value in
    let f : SFits w64 a = search rules in
    let g : SFits w64 v = search rules in
    let rest : c.saturating_sub-in-Store.result ≡ c.args.len.now - 2 = search rules in
    let left = ap (values_of slots) rest ∙ values_drop slots c.args.len.now 2 c.requires.len in
    let stored = c.put.ensures.done c.if-not-put.false ∙ (ap (λ z. with_value is_zero c.args.heap.now z (to_z w64 (of_z w64 v))) (to_z-of_z w64 a f) ∙ ap (λ z. with_value is_zero c.args.heap.now a z) (to_z-of_z w64 v g)) in
    ap (act_for (running returns c.args.place.now (values_of c.args.slots.now c.args.len.now) c.args.heap.now)) c.in-Store.is
    ∙ (ap (λ s. Goes (running returns (c.args.place.now + 1) s (with_value is_zero c.args.heap.now a v))) (sym left)
    ∙ ap (λ h. Goes (running returns (c.args.place.now + 1) (values_of slots c.saturating_sub-in-Store.result) h)) (sym stored))
