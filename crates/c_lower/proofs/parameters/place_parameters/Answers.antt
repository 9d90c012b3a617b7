use Rattle.std.proofs.Common.{◌≡◌, ◌+◌, ℕ, subst, arith}
use Rattle.c_counted.specs.Numbers.{IsNumber}
use Rattle.c_lower.proofs.ParameterLemmas.{none_placed, one_placed, all_placed}
use Rattle.c_lower.proofs.parameters.place_parameters.Goals as goal

pub loop-index-init : goal.loop-index-init
loop-index-init c = none_placed c.args.bases.now.items

pub loop-index-preserved : goal.loop-index-preserved
loop-index-preserved c =
    one_placed c.args.bases.now.items c.loop-index.bases.items c.push.new.self.items c.loop-index._index c.loop-index.place c.next-place.result c.loop-index.invariant c.in_ok-push.ensures.items (λ n h. c.next-place.ensures n h)

pub returns-clause-places : goal.returns-clause-places
returns-clause-places c =
    let same : c.args.count ≡ c.loop-index._index = omega arith in
    all_placed c.args.bases.now.items c.loop-index.bases.items c.args.count c.loop-index._index c.loop-index.place same c.loop-index.invariant

pub returns-clause-free : goal.returns-clause-free
returns-clause-free c =
    let same : c.loop-index._index ≡ c.args.count = omega arith in
    subst (λ (n : ℕ). IsNumber c.loop-index.place (1 + n)) same c.loop-index.invariant.told
