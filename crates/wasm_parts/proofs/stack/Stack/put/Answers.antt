use Rattle.std.proofs.Common.{◌≡◌, ◌+◌, ◌-◌, ◌<◌, ◌∷◌, length, take, drop, set, reverse, sym, ap, ◌∙◌, arith, rules}
use Rattle.wasm_parts.proofs.StackLemmas.{count_of, put_over}
use Rattle.wasm_parts.proofs.stack.Stack.put.Goals as goal

pub index_mut-requires : goal.index_mut-requires
index_mut-requires g c =
    let items = c.self.inside.items.items in
    let n = c.self.inside.count in
    let all : length c.args.self.now ≡ n = sym (ap length c.self.view_is) ∙ count_of items n c.self.invariant in
    let rest : c.saturating_sub-beneath.result ≡ n - c.args.count = search rules in
    omega (arith, all, rest, c.self.invariant)

pub returns-clause-ok : goal.returns-clause-ok
returns-clause-ok g c =
    let items = c.self.inside.items.items in
    let n = c.self.inside.count in
    let all : length c.args.self.now ≡ n = sym (ap length c.self.view_is) ∙ count_of items n c.self.invariant in
    let rest : c.saturating_sub-beneath.result ≡ n - c.args.count = search rules in
    let some : 0 < n = omega (arith, all) in
    let taken : 0 < c.args.count = omega arith in
    ap (λ k. reverse (take (k + 1) (set items k c.args.item))) rest ∙ (put_over items n c.args.count c.args.item c.self.invariant some taken ∙ ap (λ l. c.args.item ∷ drop c.args.count l) c.self.view_is)
