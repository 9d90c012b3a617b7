use Rattle.std.proofs.Common.{List, refl, subst}
use Rattle.std.specs.Prelude.{Result, IfOk}
use Rattle.c_syntax.specs.View.{ty_of, decls_of, stmt_of}
use Rattle.c_types.specs.declared.fault.TypeFault.{TypeFault}
use Rattle.c_types.specs.Units.{signature}
use Rattle.c_eval.specs.Text.{Definition}
use Rattle.c_operands.specs.Seen.{IsJudged}
use Rattle.c_forms.proofs.PartLemmas.{ok_is, err_is}
use Rattle.c_signatures.specs.declared.signature.Signature.{Signature}
use Rattle.c_signatures.specs.Signatures.{IsSignature}
use Rattle.c_cells.proofs.StructLemmas.{struct_kinds_kept}
use Rattle.c_addressing.specs.declared.here.Here.{Here}
use Rattle.c_addressing.specs.declared.here.Output.{Output}
use Rattle.c_applied.specs.Leads.{Keeps}
use Rattle.c_applied.proofs.LeadsLemmas.{keeps_then, on_ok, if_ok}
use Rattle.c_lower.specs.Walk.{Passes}
use Rattle.c_lower.proofs.DefinedLemmas.{definition_is, no_definition}
use Rattle.c_lower.proofs.WalkLemmas.{no_functions, before_on, passes_from}
use Rattle.c_lower.proofs.functions.add_definition.Goals as goal

pub add_signed-requires : goal.add_signed-requires
add_signed-requires c =
    let h = c.requires in
    let t1 = c.judge_signature.new.types in
    let r = signature h.0 c.args.at (ty_of c.args.gives.now) (decls_of c.args.parameters.now.items.items) in
    let k = ok_is (IsSignature t1 h.0) c.in-Ok.f r (subst (λ (j : Result Signature TypeFault). IsJudged (IsSignature t1 h.0) j r) c.in-Ok.is (c.in_ok-signature.ensures.judged h.0 h.1)) in
    (h.0, k.0, c.in_ok-signature.ensures.holds h.0 h.1, k.2)

pub returns-in-Ok-clause-keeps : goal.returns-in-Ok-clause-keeps
returns-in-Ok-clause-keeps c =
    let a : Output = record c.args.out.now { types = c.judge_signature.new.types } in
    let first : Keeps c.args.out.now a = record { grows = c.in_ok-signature.ensures.grows; tags = c.in_ok-signature.ensures.tags } in
    on_ok c.add_signed.result (λ k. keeps_then first k) c.add_signed.ensures.keeps

pub returns-in-Ok-clause-holds : goal.returns-in-Ok-clause-holds
returns-in-Ok-clause-holds c = λ s holds. c.add_signed.ensures.holds s (c.in_ok-signature.ensures.holds s holds)

pub returns-in-Ok-clause-adds : goal.returns-in-Ok-clause-adds
returns-in-Ok-clause-adds c = λ w names s is blocks.
    let h = c.args.here.now in
    let e = c.add_signed.new.here in
    let a = c.args.out.now in
    let t1 = c.judge_signature.new.types in
    let d1 = c.judge_signature.new.declared in
    let mid : Output = record a { types = t1 } in
    let b = c.add_signed.new.out in
    let kinds = c.args.structs.now in
    let placed = c.args.placed.now in
    let name = c.args.name.now in
    let at = c.args.at in
    let gives = ty_of c.args.gives.now in
    let params = decls_of c.args.parameters.now.items.items in
    let body = stmt_of c.args.body.now in
    let r = signature s at gives params in
    let sig = c.in_ok-signature.ensures in
    let k = ok_is (IsSignature t1 s) c.in-Ok.f r (subst (λ (j : Result Signature TypeFault). IsJudged (IsSignature t1 s) j r) c.in-Ok.is (sig.judged s is.holds)) in
    let before = before_on h d1 kinds kinds a t1 placed w names s s (sig.holds s is.holds) (struct_kinds_kept a.types t1 kinds s.tags sig.tags is.structs) is in
    let first : Keeps a mid = record { grows = sig.grows; tags = sig.tags } in
    subst (λ (fs : List Definition). IfOk c.add_signed.result (λ told. Passes e kinds a b placed w names c.args.k told s fs)) (definition_is s name at gives params body k.0 k.1)
    (if_ok c.add_signed.result (λ told p. passes_from e kinds a mid b placed w names c.args.k told s _ first refl p) (c.add_signed.ensures.adds w names s k.0 before k.2 blocks))

pub returns-in-Err-clause-keeps : goal.returns-in-Err-clause-keeps
returns-in-Err-clause-keeps c = record { grows = c.in_ok-signature.ensures.grows; tags = c.in_ok-signature.ensures.tags }

pub returns-in-Err-clause-adds : goal.returns-in-Err-clause-adds
returns-in-Err-clause-adds c = λ w names s is blocks.
    let h = c.args.here.now in
    let a = c.args.out.now in
    let t1 = c.judge_signature.new.types in
    let d1 = c.judge_signature.new.declared in
    let e : Here = record h { declared = d1 } in
    let b : Output = record a { types = t1 } in
    let kinds = c.args.structs.now in
    let placed = c.args.placed.now in
    let at = c.args.at in
    let gives = ty_of c.args.gives.now in
    let params = decls_of c.args.parameters.now.items.items in
    let r = signature s at gives params in
    let sig = c.in_ok-signature.ensures in
    let fails = err_is (IsSignature t1 s) c.in-Err._fault r (subst (λ (j : Result Signature TypeFault). IsJudged (IsSignature t1 s) j r) c.in-Err.is (sig.judged s is.holds)) in
    let first : Keeps a b = record { grows = sig.grows; tags = sig.tags } in
    subst (λ (fs : List Definition). Passes e kinds a b placed w names c.args.k c.args.k s fs) (no_definition s c.args.name.now at gives params (stmt_of c.args.body.now) c.in-Err._fault fails)
    (record {
      adds = no_functions a b w names c.args.k first refl;
      is = before_on h d1 kinds kinds a t1 placed w names s s (sig.holds s is.holds) (struct_kinds_kept a.types t1 kinds s.tags sig.tags is.structs) is;
    })
