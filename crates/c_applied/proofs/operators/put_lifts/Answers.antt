use Rattle.std.proofs.Common.{◌≡◌, ℕ, ◌+◌, ◌++◌, Bool, true, false, not, ◌||◌, List, [], ◌∷◌, length, refl, sym, ap, subst, ◌∙◌, append_assoc, append-nil, arith, if◌then◌else◌}
use Rattle.std.specs.Prelude.{Option, Some, None, OnOk, IfOk}
use Rattle.c_applied.specs.Pieces as pieces
use Rattle.c_addressing.specs.Here.{Emits}
use Rattle.c_applied.proofs.LeadsLemmas.{nothing}
use Rattle.c_applied.proofs.operators.put_lifts.Goals as goal

pub returns-then-signed : goal.returns-then-signed
returns-then-signed c = subst (λ (b : Bool). OnOk c.lifted.result (Emits c.args.out.now c.lifted.new.out (pieces.lifts b c.args.first c.args.second) 0)) (sym c.if-signed.true) c.lifted.ensures

pub returns : goal.returns
returns c = subst (λ (b : Bool). Emits c.args.out.now c.args.out.now (pieces.lifts b c.args.first c.args.second) 0) (sym c.if-signed.false) (nothing c.args.out.now)
