use Rattle.std.proofs.Common.{◌≡◌, ◌+◌, ◌-◌, ◌≤◌, ◌∷◌, ◌++◌, [], length, drop, List, ℤ, refl, ap, subst, ◌∙◌, rules, arith, w64, to_z, of_z}
use Rattle.std.proofs.lemmas.Int.{to_z-of_z}
use Rattle.piet_lang.specs.Stack.{values_of}
use Rattle.piet_lang.proofs.StackLemmas.{values_push, values_drop, written_back}
use Rattle.piet_lang.proofs.stack.Stack.put.Goals as goal

pub returns-clause-ok : goal.returns-clause-ok
returns-clause-ok c =
    let slots = c.self.inside.slots.items in
    let len = c.self.inside.len in
    let v = to_z w64 (of_z w64 c.args.value) in
    let full = c.put_in_slot.ensures.full c.if-put_in_slot.false in
    let within : len ≤ length slots = c.self.invariant in
    let given : c.deref_mut.result.now ≡ slots = c.deref_mut.ensures.value in
    let past : length slots ≤ len - c.args.count = subst (λ (s : List ℤ). length s ≤ len - c.args.count) given full.2 in
    let all : length slots ≡ len - c.args.count = omega arith in
    let count : c.self.inside.slots.len ≡ length slots = omega (arith, c.self.inside.slots.ok.0) in
    let items : c.push.new.self.items ≡ slots ++ v ∷ [] = c.in_ok-push.ensures.items ∙ ap (λ s. s ++ v ∷ []) (written_back slots c.put_in_slot.new.slots c.self.inside.slots.len count (full.0 ∙ given)) in
    let size : c.len-self-inside.result ≡ length slots + 1 = search rules in
    ap (λ n. values_of c.push.new.self.items n) size
    ∙ (ap (λ s. values_of s (length slots + 1)) items
    ∙ (values_push slots (length slots) v refl
    ∙ (ap (λ x. x ∷ values_of slots (length slots)) (to_z-of_z w64 c.args.value c.ranges.value)
    ∙ ap (λ xs. c.args.value ∷ xs) (ap (values_of slots) all ∙ (values_drop slots len c.args.count within ∙ ap (drop c.args.count) c.self.view_is)))))
