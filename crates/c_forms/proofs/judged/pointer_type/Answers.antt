use Rattle.std.proofs.Common.{ℕ, refl, sym, subst, ◌∙◌}
use Rattle.std.specs.Prelude.{Result, Ok, Err}
use Rattle.c_types.specs.declared.fault.TypeFault.{TypeFault}
use Rattle.c_types.specs.Types as types
use Rattle.c_types.specs.Types.{CType}
use Rattle.c_types.specs.Refusals.{Judged, after}
use Rattle.c_types.specs.declared.shape.Shape.TheVariants as shape
use Rattle.c_types.specs.Known.{OneType, says}
use Rattle.c_types.specs.Table.{known, HasType}
use Rattle.c_operands.specs.Seen.{IsJudged}
use Rattle.c_forms.proofs.PartLemmas.{ok_is, err_is}
use Rattle.c_forms.proofs.WrittenLemmas.{known_some, pointer_known}
use Rattle.c_forms.proofs.judged.pointer_type.Goals as goal

pub number-requires : goal.number-requires
number-requires c =
    let table = c.args.types.now in
    let k = ok_is (HasType table) c.in-Ok.to c.requires.0 (subst (λ (r : Result ℕ TypeFault). IsJudged (HasType table) r c.requires.0) c.in-Ok.is c.requires.1) in
    known_some (says table.tags (known table) (shape.Pointer c.in-Ok.to)) (OneType (types.Pointer k.0)) (pointer_known table.tags (known table) c.in-Ok.to k.0 k.2)

pub returns-in_ok-pointer-in-Ok-clause-judged : goal.returns-in_ok-pointer-in-Ok-clause-judged
returns-in_ok-pointer-in-Ok-clause-judged c = λ p h.
    let table = c.args.types.now in
    let new = c.number.new.self in
    let k = ok_is (HasType table) c.in-Ok.to p (subst (λ (r : Result ℕ TypeFault). IsJudged (HasType table) r p) c.in-Ok.is h) in
    subst (λ (q : Judged CType). IsJudged (HasType new) (Ok c.in_ok-pointer-in-Ok.pointer) (after q (λ t. Ok (types.Pointer t)))) (sym k.1)
    (c.in_ok-pointer-in-Ok.ensures.number ∙ pointer_known table.tags (known table) c.in-Ok.to k.0 k.2)

pub returns-in-Err-clause-judged : goal.returns-in-Err-clause-judged
returns-in-Err-clause-judged c = λ p h.
    let table = c.args.types.now in
    let e = err_is (HasType table) c.in-Err.fault p (subst (λ (r : Result ℕ TypeFault). IsJudged (HasType table) r p) c.in-Err.is h) in
    subst (λ (q : Judged CType). IsJudged (HasType table) (Err c.in-Err.fault) (after q (λ t. Ok (types.Pointer t)))) (sym e) refl
