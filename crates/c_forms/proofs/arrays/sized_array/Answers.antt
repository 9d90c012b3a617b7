use Rattle.std.proofs.Common.{◌≡◌, ℕ, sym, ap, subst, ◌∙◌}
use Rattle.std.specs.Prelude.{Result, Ok, IfOk}
use Rattle.c_types.specs.declared.fault.TypeFault.{TypeFault}
use Rattle.c_types.specs.Types as types
use Rattle.c_types.specs.Types.{CType}
use Rattle.c_types.specs.Refusals.{Judged, both}
use Rattle.c_types.specs.Constants.{Constant}
use Rattle.c_types.specs.Expressions as plain
use Rattle.c_types.specs.Expressions.{array_of, length_in}
use Rattle.c_types.specs.Seen.{constant_of}
use Rattle.c_types.specs.Table.{HasType}
use Rattle.c_operands.specs.declared.operand.Operand.{Operand}
use Rattle.c_operands.specs.Seen.{IsOperand, IsJudged}
use Rattle.c_forms.proofs.PartLemmas.{ok_is, err_is, told_first, told_second, both_ok}
use Rattle.c_forms.proofs.arrays.sized_array.Goals as goal

pub array_with-requires : goal.array_with-requires
array_with-requires c =
    let table = c.args.types.now in
    let r = c.requires.ty in
    let k = ok_is (HasType table) c.in-Ok.of r.0 (subst (λ (j : Result ℕ TypeFault). IsJudged (HasType table) j r.0) c.in-Ok.is r.1) in
    (k.0, k.2)

pub returns-in-Ok-length-clause-judged : goal.returns-in-Ok-length-clause-judged
returns-in-Ok-length-clause-judged c = λ p q s h k all.
    let table = c.args.types.now in
    let new = c.array_with.new.types in
    let at = c.args.at in
    let l = ok_is (HasType table) c.in-Ok.of p (subst (λ (j : Result ℕ TypeFault). IsJudged (HasType table) j p) c.in-Ok.is h) in
    let r = ok_is (IsOperand table) c.in-Ok-length.x q (subst (λ (j : Result Operand TypeFault). IsJudged (IsOperand table) j q) c.in-Ok-length.is k) in
    let o = r.2 in
    let count : c.length_in-count.result ≡ length_in r.0.pos r.0.constant =
    c.length_in-count.ensures ∙ (ap (λ (n : ℕ). length_in n (constant_of c.in-Ok-length.x.constant)) o.at ∙ ap (λ (v : Constant). length_in r.0.pos v) o.constant) in
    subst (λ (m : Judged CType). IfOk c.array_with.result (λ j. IsJudged (HasType new) j m))
    (sym (both_ok l.0 r.0 p q (λ t x. plain.sized_array s at t x) l.1 r.1))
    (subst (λ (n : Judged ℕ). IfOk c.array_with.result (λ j. IsJudged (HasType new) j (both {A = CType} {B = ℕ} {C = CType} (array_of s at l.0 1) n (λ _ m. Ok (types.Array l.0 m))))) count
    (c.array_with.ensures.judged l.0 s l.2 all))

pub returns-in-Err-length-clause-judged : goal.returns-in-Err-length-clause-judged
returns-in-Err-length-clause-judged c = λ p q s h k all.
    let table = c.args.types.now in
    let l = ok_is (HasType table) c.in-Ok.of p (subst (λ (j : Result ℕ TypeFault). IsJudged (HasType table) j p) c.in-Ok.is h) in
    let e = err_is (IsOperand table) c.in-Err-length.fault q (subst (λ (j : Result Operand TypeFault). IsJudged (IsOperand table) j q) c.in-Err-length.is k) in
    told_second (HasType table) c.in-Err-length.fault l.0 p q (λ t x. plain.sized_array s c.args.at t x) l.1 e

pub returns-in-Err-clause-judged : goal.returns-in-Err-clause-judged
returns-in-Err-clause-judged c = λ p q s h k all.
    let table = c.args.types.now in
    let e = err_is (HasType table) c.in-Err.fault p (subst (λ (j : Result ℕ TypeFault). IsJudged (HasType table) j p) c.in-Err.is h) in
    told_first (IsOperand table) (HasType table) c.in-Err.fault c.least_of.result c.err.result c.args.length p q (λ t x. plain.sized_array s c.args.at t x) e k c.err.ensures.value c.least_of.ensures
