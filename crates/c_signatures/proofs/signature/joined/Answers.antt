use Rattle.std.proofs.Common.{ℕ, sym, subst}
use Rattle.std.specs.Prelude.{Result, Ok, Vec}
use Rattle.std.specs.declared.alloc.Global.{Global}
use Rattle.c_types.specs.declared.fault.TypeFault.{TypeFault}
use Rattle.c_types.specs.Scope.{entered}
use Rattle.c_types.specs.Table.{HasType}
use Rattle.c_operands.specs.Seen.{IsJudged}
use Rattle.c_forms.proofs.PartLemmas.{ok_is, both_ok}
use Rattle.c_signatures.specs.declared.parameters.Parameter.{Parameter}
use Rattle.c_signatures.specs.Parameters.{AreParameters}
use Rattle.c_signatures.specs.Signatures.{IsSignature, with_parameters}
use Rattle.c_signatures.proofs.SignatureLemmas.{signature_made}
use Rattle.c_signatures.proofs.signature.joined.Goals as goal

pub returns-in-Ok-parameters-clause-judged : goal.returns-in-Ok-parameters-clause-judged
returns-in-Ok-parameters-clause-judged c = λ s d p q empty h g.
    let table = c.args.types.now in
    let new = c.signature_of.new.types in
    let k = ok_is (HasType table) c.in-Ok.ty p (subst (λ (j : Result ℕ TypeFault). IsJudged (HasType table) j p) c.in-Ok.is h) in
    let l = ok_is (AreParameters table d (entered s)) c.in-Ok-parameters.all q (subst (λ (j : Result (Vec Parameter Global) TypeFault). IsJudged (AreParameters table d (entered s)) j q) c.in-Ok-parameters.is g) in
    let made = c.in_ok-signature_of-in-Ok-parameters in
    subst (IsJudged (IsSignature new s) (Ok made.field-0)) (sym (both_ok k.0 l.0 p q with_parameters k.1 l.1))
    (signature_made table new d s made.field-0 c.in-Ok-parameters.all k.0 l.0 empty made.ensures.grows (made.ensures.signature k.0 l.0.types k.2 l.2.typed) l.2)
