use Rattle.std.proofs.Common.{ℕ, ◌<◌, subst, ap, All, List}
use Rattle.std.proofs.lemmas.List.Elements.{All-from_recursion}
use Rattle.c_store.specs.Values.{Object}
use Rattle.c_store.proofs.Rows.{objects_below}
use Rattle.c_store.proofs.store.Store.next.Goals as goal

pub returns-clause-below : goal.returns-clause-below
returns-clause-below c =
    let below : ℕ → List Object → Type 0 = λ n os. All (λ (o : Object). o.number < n) os in
    subst (below c.self.inside.next) (ap (λ s. s.live) c.self.view_is) (All-from_recursion (λ (o : Object). o.number < c.self.inside.next) _ (objects_below c.self.inside.objects.items _ c.self.inside.next c.self.invariant.below))
