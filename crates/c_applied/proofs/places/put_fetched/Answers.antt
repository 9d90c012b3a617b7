use Rattle.std.proofs.Common.{◌≡◌, ℕ, ◌+◌, ◌++◌, Bool, true, false, not, ◌||◌, List, [], ◌∷◌, length, refl, sym, ap, subst, ◌∙◌, append_assoc, append-nil, arith, if◌then◌else◌}
use Rattle.std.specs.Prelude.{Option, Some, None, OnOk, IfOk}
use Rattle.c_applied.specs.Pieces as pieces
use Rattle.eir_core.specs.declared.ops.Reg.TheVariants.{A}
use Rattle.eir_core.specs.declared.ops.Operand.TheVariants.{Reg as register}
use Rattle.eir_core.specs.declared.ops.Op.TheVariants.{Load}
use Rattle.c_addressing.specs.Here.{Emits}
use Rattle.c_applied.proofs.LeadsLemmas.{nothing}
use Rattle.c_applied.proofs.places.put_fetched.Goals as goal

pub returns-then-not-is_fetched : goal.returns-then-not-is_fetched
returns-then-not-is_fetched c = subst (λ (b : Bool). Emits c.args.out.now c.args.out.now (if b then Load A (register A) ∷ [] else []) 0) (sym (sym c.is_fetched.ensures ∙ c.if-not-is_fetched.true)) (nothing c.args.out.now)

pub returns : goal.returns
returns c = subst (λ (b : Bool). OnOk c.operation.result (Emits c.args.out.now c.operation.new.out (if b then Load A (register A) ∷ [] else []) 0)) (sym (sym c.is_fetched.ensures ∙ c.if-not-is_fetched.false)) c.operation.ensures
