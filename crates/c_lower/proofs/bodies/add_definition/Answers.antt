use Rattle.std.proofs.Common.{List, subst, ◌∙◌}
use Rattle.std.specs.Prelude.{Result, OnOk}
use Rattle.c_syntax.specs.View.{ty_of, decls_of, stmt_of}
use Rattle.c_types.specs.declared.fault.TypeFault.{TypeFault}
use Rattle.c_types.specs.Units.{signature}
use Rattle.c_eval.specs.Text.{Definition}
use Rattle.c_operands.specs.Seen.{IsJudged}
use Rattle.c_forms.proofs.PartLemmas.{ok_is, err_is}
use Rattle.c_signatures.specs.declared.signature.Signature.{Signature}
use Rattle.c_signatures.specs.Signatures.{IsSignature}
use Rattle.c_applied.proofs.LeadsLemmas.{on_ok}
use Rattle.c_lower.specs.Bodies.{AddsBodies}
use Rattle.c_lower.proofs.DefinedLemmas.{definition_is, no_definition}
use Rattle.c_lower.proofs.BodyLemmas.{no_bodies}
use Rattle.c_lower.proofs.bodies.add_definition.Goals as goal

pub add_signed-requires : goal.add_signed-requires
add_signed-requires c =
    let h = c.requires in
    let t1 = c.judge_signature.new.types in
    let r = signature h.0 c.args.at (ty_of c.args.gives.now) (decls_of c.args.parameters.now.items.items) in
    let k = ok_is (IsSignature t1 h.0) c.in-Ok.f r (subst (λ (j : Result Signature TypeFault). IsJudged (IsSignature t1 h.0) j r) c.in-Ok.is (c.in_ok-signature.ensures.judged h.0 h.1)) in
    (h.0, k.0, c.in_ok-signature.ensures.holds h.0 h.1, k.2)

pub returns-in-Ok-clause-holds : goal.returns-in-Ok-clause-holds
returns-in-Ok-clause-holds c = λ s holds. c.add_signed.ensures.holds s (c.in_ok-signature.ensures.holds s holds)

pub returns-in-Ok-clause-adds : goal.returns-in-Ok-clause-adds
returns-in-Ok-clause-adds c = λ s holds.
    let t1 = c.judge_signature.new.types in
    let name = c.args.name.now in
    let at = c.args.at in
    let gives = ty_of c.args.gives.now in
    let params = decls_of c.args.parameters.now.items.items in
    let body = stmt_of c.args.body.now in
    let r = signature s at gives params in
    let k = ok_is (IsSignature t1 s) c.in-Ok.f r (subst (λ (j : Result Signature TypeFault). IsJudged (IsSignature t1 s) j r) c.in-Ok.is (c.in_ok-signature.ensures.judged s holds)) in
    subst (λ (fs : List Definition). OnOk c.add_signed.result (AddsBodies c.args.bodies.now c.add_signed.new.bodies fs)) (definition_is s name at gives params body k.0 k.1)
    (c.add_signed.ensures.adds s k.0 params (c.in_ok-signature.ensures.holds s holds) k.2)

pub returns-in-Ok-clause-tags : goal.returns-in-Ok-clause-tags
returns-in-Ok-clause-tags c = on_ok c.add_signed.result (λ e. e ∙ c.in_ok-signature.ensures.tags) c.add_signed.ensures.tags

pub returns-in-Err-clause-adds : goal.returns-in-Err-clause-adds
returns-in-Err-clause-adds c = λ s holds.
    let t1 = c.judge_signature.new.types in
    let name = c.args.name.now in
    let at = c.args.at in
    let gives = ty_of c.args.gives.now in
    let params = decls_of c.args.parameters.now.items.items in
    let body = stmt_of c.args.body.now in
    let r = signature s at gives params in
    let e = err_is (IsSignature t1 s) c.in-Err._fault r (subst (λ (j : Result Signature TypeFault). IsJudged (IsSignature t1 s) j r) c.in-Err.is (c.in_ok-signature.ensures.judged s holds)) in
    subst (λ (fs : List Definition). AddsBodies c.args.bodies.now c.args.bodies.now fs) (no_definition s name at gives params body c.in-Err._fault e) (no_bodies c.args.bodies.now)
