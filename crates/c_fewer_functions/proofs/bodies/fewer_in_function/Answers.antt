use Rattle.std.proofs.Common.{◌≡◌, sym, subst, ◌∙◌}
use Rattle.std.specs.Prelude.{Result, IsOk}
use Rattle.c_syntax.specs.View.{ty_of, decls_of, stmt_of}
use Rattle.c_types.specs.declared.fault.TypeFault.{TypeFault}
use Rattle.c_types.specs.Refusals.{Judged}
use Rattle.c_types.specs.Units as units
use Rattle.c_types.specs.Units.{signature}
use Rattle.c_operands.specs.Seen.{IsJudged}
use Rattle.c_forms.proofs.PartLemmas.{ok_is, err_is}
use Rattle.c_signatures.specs.declared.signature.Signature.{Signature}
use Rattle.c_signatures.specs.Signatures.{IsSignature}
use Rattle.c_helpers.specs.Fewer as fewer
use Rattle.c_fewer_trees.proofs.OnwardLemmas.{Onward, then_on}
use Rattle.c_fewer_parts.proofs.GoingLemmas.{stands_still}
use Rattle.c_fewer_functions.proofs.BodyLemmas.{never}
use Rattle.c_fewer_functions.proofs.bodies.fewer_in_function.Goals as goal

pub judge_signature-requires : goal.judge_signature-requires
judge_signature-requires c =
    (c.requires.0, c.requires.1.holds)

pub fewer_in_signed-requires : goal.fewer_in_signed-requires
fewer_in_signed-requires c =
    let s = c.requires.0 in
    let stands = c.requires.1 in
    let p = signature s c.args.at (ty_of c.args.gives.now) (decls_of c.args.parameters.now.items.items) in
    let k = ok_is (IsSignature c.judge_signature.new.types s) c.in-Ok.f p (subst (λ (j : Result Signature TypeFault). IsJudged (IsSignature c.judge_signature.new.types s) j p) c.in-Ok.is (c.in_ok-signature.ensures.judged s stands.holds)) in
    (s, k.0, (record { holds = c.in_ok-signature.ensures.holds s stands.holds; names = stands.names ∙ sym c.in_ok-signature.ensures.tags }), k.2)

pub returns-in_ok-made-in-Ok-clause-tree : goal.returns-in_ok-made-in-Ok-clause-tree
returns-in_ok-made-in-Ok-clause-tree c = λ s stands ok.
    let p = signature s c.args.at (ty_of c.args.gives.now) (decls_of c.args.parameters.now.items.items) in
    let k = ok_is (IsSignature c.judge_signature.new.types s) c.in-Ok.f p (subst (λ (j : Result Signature TypeFault). IsJudged (IsSignature c.judge_signature.new.types s) j p) c.in-Ok.is (c.in_ok-signature.ensures.judged s stands.holds)) in
    subst (λ (q : Judged units.Signature). stmt_of c.in_ok-made-in-Ok.made ≡ fewer.fewer_in_function s c.args.name.now q (stmt_of c.args.body.now)) (sym k.1)
    (c.in_ok-made-in-Ok.ensures.tree s k.0 (record { holds = c.in_ok-signature.ensures.holds s stands.holds; names = stands.names ∙ sym c.in_ok-signature.ensures.tags }) k.2)

pub returns-in_ok-made-in-Ok-clause-stands : goal.returns-in_ok-made-in-Ok-clause-stands
returns-in_ok-made-in-Ok-clause-stands c = λ s stands.
    stands_still c.in_ok-made-in-Ok.ensures.stays (record { holds = c.in_ok-signature.ensures.holds s stands.holds; names = stands.names ∙ sym c.in_ok-signature.ensures.tags })

pub returns-in_ok-made-in-Ok-clause-grows : goal.returns-in_ok-made-in-Ok-clause-grows
returns-in_ok-made-in-Ok-clause-grows c =
    let f : Onward c.args.types.now c.judge_signature.new.types = record { grows = c.in_ok-signature.ensures.grows; tags = c.in_ok-signature.ensures.tags } in
    let g : Onward c.judge_signature.new.types c.fewer_in_signed.new.types = record { grows = c.in_ok-made-in-Ok.ensures.stays.goes.grows; tags = c.in_ok-made-in-Ok.ensures.stays.goes.tags } in
    (then_on f g).grows

pub returns-in_ok-made-in-Ok-clause-tags : goal.returns-in_ok-made-in-Ok-clause-tags
returns-in_ok-made-in-Ok-clause-tags c =
    let f : Onward c.args.types.now c.judge_signature.new.types = record { grows = c.in_ok-signature.ensures.grows; tags = c.in_ok-signature.ensures.tags } in
    let g : Onward c.judge_signature.new.types c.fewer_in_signed.new.types = record { grows = c.in_ok-made-in-Ok.ensures.stays.goes.grows; tags = c.in_ok-made-in-Ok.ensures.stays.goes.tags } in
    (then_on f g).tags

pub returns-in-Err-clause-tree : goal.returns-in-Err-clause-tree
returns-in-Err-clause-tree c = λ s stands ok.
    let p = signature s c.args.at (ty_of c.args.gives.now) (decls_of c.args.parameters.now.items.items) in
    let e = err_is (IsSignature c.judge_signature.new.types s) c.in-Err._fault p (subst (λ (j : Result Signature TypeFault). IsJudged (IsSignature c.judge_signature.new.types s) j p) c.in-Err.is (c.in_ok-signature.ensures.judged s stands.holds)) in
    absurd (never (subst (λ (q : Judged units.Signature). IsOk q) e ok))

pub returns-in-Err-clause-stands : goal.returns-in-Err-clause-stands
returns-in-Err-clause-stands c = λ s stands.
    record { holds = c.in_ok-signature.ensures.holds s stands.holds; names = stands.names ∙ sym c.in_ok-signature.ensures.tags }

pub returns-in-Err-clause-grows : goal.returns-in-Err-clause-grows
returns-in-Err-clause-grows c =
    c.in_ok-signature.ensures.grows

pub returns-in-Err-clause-tags : goal.returns-in-Err-clause-tags
returns-in-Err-clause-tags c =
    c.in_ok-signature.ensures.tags
