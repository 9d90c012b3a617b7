use Rattle.std.proofs.Common.{◌≡◌, ℕ, ◌+◌, ◌++◌, Bool, true, false, not, ◌||◌, List, [], ◌∷◌, length, refl, sym, ap, subst, ◌∙◌, append_assoc, append-nil, arith, if◌then◌else◌}
use Rattle.std.specs.Prelude.{Option, Some, None, OnOk, IfOk}
use Rattle.c_applied.specs.Pieces as pieces
use Rattle.eir_core.specs.declared.ops.Cond.{Cond}
use Rattle.eir_core.specs.declared.ops.Op.{Op}
use Rattle.c_lowered.specs.Operations.{comparison_code, comparable}
use Rattle.c_addressing.specs.Here.{Emits}
use Rattle.c_applied.proofs.PieceLemmas.{lifts_are}
use Rattle.c_applied.proofs.operators.put_compared.Goals as goal

pub returns-in-Some : goal.returns-in-Some
returns-in-Some c = subst (λ (o : Option Cond). OnOk c.put_comparison.result (Emits c.args.out.now c.put_comparison.new.out (comparison_code o (comparable c.args.signed (pieces.bare c.args.first c.args.second))) 0)) (sym c.in-Some.is) c.put_comparison.ensures

pub returns-in-None : goal.returns-in-None
returns-in-None c = subst (λ (o : Option Cond). OnOk c.put_lifts.result (Emits c.args.out.now c.put_lifts.new.out (comparison_code o (comparable c.args.signed (pieces.bare c.args.first c.args.second))) 0)) (sym c.in-None.is)
    (subst (λ (l : List Op). OnOk c.put_lifts.result (Emits c.args.out.now c.put_lifts.new.out l 0)) (lifts_are c.args.signed c.args.first c.args.second) c.put_lifts.ensures)
