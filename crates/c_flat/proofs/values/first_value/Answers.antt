use Rattle.std.proofs.Common.{Option, sym, subst}
use Rattle.c_syntax.specs.View.{maybe_value}
use Rattle.c_syntax.specs.declared.tree.Value.{Value}
use Rattle.c_eval.specs.LiteralsIn.{first_literals}
use Rattle.c_emitted.specs.Emits.{Emits}
use Rattle.c_emitted.proofs.EmitLemmas.{nothing}
use Rattle.c_flat.specs.First.{maybe_first_code}
use Rattle.c_flat.proofs.values.first_value.Goals as goal

pub returns-in-None-clause-emits : goal.returns-in-None-clause-emits
returns-in-None-clause-emits c = λ site env t here kinds has fit.
    let out = c.args.out.now in
    let G : Option Value → Type 0 = λ o. Emits out out (maybe_first_code site env t c.args.slot (maybe_value o)) (first_literals env.scope (maybe_value o)) in
    subst G (sym c.in-None.is) (nothing out)
