use Rattle.std.proofs.Common.{refl}
use Rattle.c_eval.specs.Text.{static_named}
use Rattle.c_store.specs.declared.value.Value.TheVariants as value
use Rattle.c_emitted.specs.Emits.{tables_of}
use Rattle.c_emitted.proofs.EmitLemmas.{nothing}
use Rattle.c_static.proofs.FormLemmas.{function_worth}
use Rattle.c_static.proofs.named.static_named.Goals as goal

pub returns-in-Some-clause-emits : goal.returns-in-Some-clause-emits
returns-in-Some-clause-emits c = nothing c.args.out.now

pub returns-in_ok-number-in-None-clause-worth : goal.returns-in_ok-number-in-None-clause-worth
returns-in_ok-number-in-None-clause-worth c = λ table env at.
    let number = c.in_ok-number-in-None.number in
    function_worth (tables_of c.name_number.new.self) c.args.name.now (static_named env c.args.name.now) number (value.Function number) (c.in-None.ensures table env at) refl c.in_ok-number-in-None.ensures.named
