use Rattle.std.proofs.Common.{ℕ, sym, subst, ap}
use Rattle.std.specs.Prelude.{Result, Ok, Err}
use Rattle.c_syntax.specs.View.{expr_of}
use Rattle.c_types.specs.declared.fault.TypeFault.{TypeFault}
use Rattle.c_types.specs.Types.{CType, decayed}
use Rattle.c_types.specs.Expressions.{judged}
use Rattle.c_eval.specs.Environment.{operand_type, member_offset, pointee}
use Rattle.c_types.specs.Seen.{Counts}
use Rattle.c_operands.specs.declared.operand.Operand.{Operand}
use Rattle.c_operands.specs.Seen.{IsOperand, IsJudged}
use Rattle.c_addressing.specs.Classes.{AimsAt}
use Rattle.c_addressing.proofs.HereLemmas.{holds_later}
use Rattle.c_addressing.proofs.ClassLemmas.{judged_type, judged_void, among}
use Rattle.c_addressing.proofs.typed.offset_in.Goals as goal

pub member_words-requires : goal.member_words-requires
member_words-requires c =
    let s = c.requires.0 in
    let new = c.judged.new.out in
    let d = c.args.here.now.declared in
    let p = judged s (expr_of c.args.a.now) in
    let is = judged_type new.types c.in-Ok.x p (subst (λ (j : Result Operand TypeFault). IsJudged (IsOperand new.types) j p) c.in-Ok.is (c.in_ok-j.ensures.judged s c.requires.1)) in
    (operand_type p, s.tags, among new.types d s c.as_slice.result.now c.in-Ok.x.ty (operand_type p) c.as_slice.ensures.value is (holds_later c.args.out.now new d s c.in_ok-j.ensures.still c.requires.1))

pub returns-in-Ok-clause-words : goal.returns-in-Ok-clause-words
returns-in-Ok-clause-words c = λ s h.
    let new = c.judged.new.out in
    let d = c.args.here.now.declared in
    let p = judged s (expr_of c.args.a.now) in
    let is = judged_type new.types c.in-Ok.x p (subst (λ (j : Result Operand TypeFault). IsJudged (IsOperand new.types) j p) c.in-Ok.is (c.in_ok-j.ensures.judged s h)) in
    c.member_words.ensures (operand_type p) s.tags (among new.types d s c.as_slice.result.now c.in-Ok.x.ty (operand_type p) c.as_slice.ensures.value is (holds_later c.args.out.now new d s c.in_ok-j.ensures.still h))

pub returns-in-Err-clause-words : goal.returns-in-Err-clause-words
returns-in-Err-clause-words c = λ s h.
    let new = c.judged.new.out in
    let p = judged s (expr_of c.args.a.now) in
    let void = judged_void new.types c.in-Err.field-0 p (subst (λ (j : Result Operand TypeFault). IsJudged (IsOperand new.types) j p) c.in-Err.is (c.in_ok-j.ensures.judged s h)) in
    subst (λ (t : CType). Counts c.of.result (member_offset s.tags t c.args.m.now)) (sym void) c.of.ensures
