use Rattle.std.proofs.Common.{◌≡◌, ℕ, ◌+◌, ◌++◌, Bool, true, false, not, ◌||◌, List, [], ◌∷◌, length, refl, sym, ap, subst, ◌∙◌, append_assoc, append-nil, arith, if◌then◌else◌}
use Rattle.std.specs.Prelude.{Option, Some, None, OnOk, IfOk}
use Rattle.c_applied.specs.Pieces as pieces
use Rattle.c_operands.specs.declared.class.Class.{Class}
use Rattle.c_addressing.specs.Here.{Emits}
use Rattle.c_applied.proofs.LeadsLemmas.{nothing}
use Rattle.c_applied.proofs.places.put_fetched_target.Goals as goal

pub returns-in-Some : goal.returns-in-Some
returns-in-Some c = subst (λ (o : Option Class). OnOk c.put_fetched.result (Emits c.args.out.now c.put_fetched.new.out (pieces.fetched_target o) 0)) (sym c.in-Some.is) c.put_fetched.ensures

pub returns-in-None : goal.returns-in-None
returns-in-None c = subst (λ (o : Option Class). Emits c.args.out.now c.args.out.now (pieces.fetched_target o) 0) (sym c.in-None.is) (nothing c.args.out.now)
