use Rattle.std.proofs.Common.{Option, sym, ap, ◌∙◌, subst}
use Rattle.c_types.specs.Types.{CType}
use Rattle.c_types.specs.Operands as plain
use Rattle.c_types.specs.Known.{OneType}
use Rattle.c_forms.specs.declared.given.Given.{Given}
use Rattle.c_forms.specs.Given.{IsGiven}
use Rattle.c_forms.proofs.GivenLemmas.{given_some, given_none}
use Rattle.c_forms.proofs.steps.result_converts.Goals as goal

pub type_number-requires : goal.type_number-requires
type_number-requires c =
    let h = c.requires.given in
    let g = given_some c.args.types.now c.in-Some.given h.0 (subst (λ (k : Option Given). IsGiven c.args.types.now k h.0) c.in-Some.is h.1) in
    (g.0, g.2)

pub value_of-requires : goal.value_of-requires
value_of-requires c =
    let h = c.requires.given in
    let g = given_some c.args.types.now c.in-Some.given h.0 (subst (λ (k : Option Given). IsGiven c.args.types.now k h.0) c.in-Some.is h.1) in
    let n = c.in_ok-number-in-Some.ensures.number g.0 g.2 in
    (g.0, (c.value_at.ensures c.type_number.new.types g.0 n).ty)

pub returns-in-None-clause-converts : goal.returns-in-None-clause-converts
returns-in-None-clause-converts c = λ o t h k.
    let e = given_none c.args.types.now o (subst (λ (g : Option Given). IsGiven c.args.types.now g o) c.in-None.is h) in
    sym (ap (λ (p : Option CType). plain.result_converts c.args.at p t) e)

pub returns-in_ok-value-in-Some-clause-converts : goal.returns-in_ok-value-in-Some-clause-converts
returns-in_ok-value-in-Some-clause-converts c = λ o t h k.
    let mid = c.type_number.new.types in
    let g = given_some c.args.types.now c.in-Some.given o (subst (λ (f : Option Given). IsGiven c.args.types.now f o) c.in-Some.is h) in
    let n = c.in_ok-number-in-Some.ensures.number g.0 g.2 in
    let x = plain.value_at c.args.at g.0 in
    let v = c.in_ok-value-in-Some.ensures.value x (c.value_at.ensures mid g.0 n) in
    let ty = c.in_ok-value-in-Some.ensures.grows c.args.ty (OneType t) (c.in_ok-number-in-Some.ensures.grows c.args.ty (OneType t) k) in
    c.converts.ensures x t v ty (c.class_of-class.ensures t ty)
    ∙ sym (ap (λ (p : Option CType). plain.result_converts c.args.at p t) g.1)
