use Rattle.std.proofs.Common.{List, subst, ◌∙◌}
use Rattle.std.specs.Prelude.{Result, OnOk}
use Rattle.c_syntax.specs.View.{ty_of, decls_of, stmt_of}
use Rattle.c_types.specs.declared.fault.TypeFault.{TypeFault}
use Rattle.c_types.specs.Units.{signature}
use Rattle.c_eval.specs.Text.{Definition}
use Rattle.c_operands.specs.Seen.{IsJudged}
use Rattle.c_forms.proofs.PartLemmas.{ok_is, err_is}
use Rattle.c_signatures.specs.declared.signature.Signature.{Signature}
use Rattle.c_signatures.specs.Signatures.{IsSignature}
use Rattle.c_cells.proofs.StructLemmas.{struct_kinds_kept}
use Rattle.c_emitted.proofs.EmitLemmas.{on_ok}
use Rattle.c_flat.specs.Walk.{AddsFunctions}
use Rattle.c_flat.proofs.AddLemmas.{no_functions_more}
use Rattle.c_flat.proofs.ItemLemmas.{fit_of, charge_is, definition_is, no_definition}
use Rattle.c_flat.proofs.items.add_definition.Goals as goal

pub add_signed-requires : goal.add_signed-requires
add_signed-requires c =
    let h = c.requires in
    let t1 = c.judge_signature.new.types in
    let r = signature h.0 c.args.at (ty_of c.args.gives.now) (decls_of c.args.parameters.now.items.items) in
    let k = ok_is (IsSignature t1 h.0) c.in-Ok.f r (subst (λ (j : Result Signature TypeFault). IsJudged (IsSignature t1 h.0) j r) c.in-Ok.is (c.in_ok-signature.ensures.judged h.0 h.1)) in
    (h.0, k.0, c.in_ok-signature.ensures.holds h.0 h.1, k.2)

pub returns-in-Ok-clause-holds : goal.returns-in-Ok-clause-holds
returns-in-Ok-clause-holds c = λ s holds. c.add_signed.ensures.holds s (c.in_ok-signature.ensures.holds s holds)

pub returns-in-Ok-clause-adds : goal.returns-in-Ok-clause-adds
returns-in-Ok-clause-adds c = λ rules s names is fit knows.
    let t0 = c.args.types.now in
    let t1 = c.judge_signature.new.types in
    let name = c.args.name.now in
    let at = c.args.at in
    let gives = ty_of c.args.gives.now in
    let params = decls_of c.args.parameters.now.items.items in
    let body = stmt_of c.args.body.now in
    let r = signature s at gives params in
    let k = ok_is (IsSignature t1 s) c.in-Ok.f r (subst (λ (j : Result Signature TypeFault). IsJudged (IsSignature t1 s) j r) c.in-Ok.is (c.in_ok-signature.ensures.judged s is.holds)) in
    subst (λ (fs : List Definition). OnOk c.add_signed.result (AddsFunctions rules c.args.out.now c.add_signed.new.out names c.args.compiled.now.items c.add_signed.new.compiled.items fs)) (definition_is s name at gives params body k.0 k.1)
    (c.add_signed.ensures.adds rules s k.0 names (record { holds = c.in_ok-signature.ensures.holds s is.holds; structs = struct_kinds_kept t0 t1 c.args.structs.now s.tags c.in_ok-signature.ensures.tags is.structs; files = is.files }) k.2
    (fit_of s name at gives params body k.0 k.1 fit) (charge_is rules s name at gives params body k.0 k.1 knows))

pub returns-in-Ok-clause-tags : goal.returns-in-Ok-clause-tags
returns-in-Ok-clause-tags c = on_ok c.add_signed.result (λ e. e ∙ c.in_ok-signature.ensures.tags) c.add_signed.ensures.tags

pub returns-in-Err-clause-adds : goal.returns-in-Err-clause-adds
returns-in-Err-clause-adds c = λ rules s names is fit knows.
    let t1 = c.judge_signature.new.types in
    let name = c.args.name.now in
    let at = c.args.at in
    let gives = ty_of c.args.gives.now in
    let params = decls_of c.args.parameters.now.items.items in
    let body = stmt_of c.args.body.now in
    let r = signature s at gives params in
    let e = err_is (IsSignature t1 s) c.in-Err._fault r (subst (λ (j : Result Signature TypeFault). IsJudged (IsSignature t1 s) j r) c.in-Err.is (c.in_ok-signature.ensures.judged s is.holds)) in
    subst (λ (fs : List Definition). AddsFunctions rules c.args.out.now c.args.out.now names c.args.compiled.now.items c.args.compiled.now.items fs) (no_definition s name at gives params body c.in-Err._fault e)
    (no_functions_more rules c.args.out.now names c.args.compiled.now.items)
