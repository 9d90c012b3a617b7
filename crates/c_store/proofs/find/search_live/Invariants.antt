use Rattle.std.proofs.Common.{◌≡◌, drop}
use Rattle.std.specs.Prelude.{find, ◌==◌}
use Rattle.c_store.proofs.find.search_live.Given as goal

abbrev pub invariant-loop-object : goal.invariant-loop-object
invariant-loop-object l = find (λ x. x.number == l.number) l.objects ≡ find (λ x. x.number == l.number) (drop l.object-index l.objects)
