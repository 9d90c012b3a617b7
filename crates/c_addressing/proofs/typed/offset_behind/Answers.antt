use Rattle.std.proofs.Common.{ℕ, sym, subst, ap}
use Rattle.std.specs.Prelude.{Option, Result, Ok, Err}
use Rattle.c_syntax.specs.View.{expr_of}
use Rattle.c_types.specs.declared.fault.TypeFault.{TypeFault}
use Rattle.c_types.specs.Types.{CType, decayed}
use Rattle.c_types.specs.Expressions.{judged}
use Rattle.c_eval.specs.Environment.{operand_type, member_offset, pointee}
use Rattle.c_types.specs.Seen.{Counts}
use Rattle.c_operands.specs.declared.operand.Operand.{Operand}
use Rattle.c_operands.specs.Seen.{IsOperand, IsJudged}
use Rattle.c_addressing.specs.Classes.{AimsAt}
use Rattle.c_addressing.proofs.HereLemmas.{holds_later}
use Rattle.c_addressing.proofs.ClassLemmas.{target_type, no_target, among}
use Rattle.c_addressing.proofs.typed.offset_behind.Goals as goal

pub judged_target-requires : goal.judged_target-requires
judged_target-requires c = let s = c.requires.0 in (judged s (expr_of c.args.a.now), c.in_ok-j.ensures.judged s c.requires.1)

pub member_words-requires : goal.member_words-requires
member_words-requires c =
    let s = c.requires.0 in
    let d = c.args.here.now.declared in
    let new = c.judged.new.out in
    let p = judged s (expr_of c.args.a.now) in
    let aims = subst (λ (o : Option ℕ). AimsAt new.types o (decayed (operand_type p))) c.in-Some.is (c.judged_target.ensures p (c.in_ok-j.ensures.judged s c.requires.1)) in
    let t = pointee (decayed (operand_type p)) in
    (t, s.tags, among new.types d s c.as_slice.result.now c.in-Some.ty t c.as_slice.ensures.value (target_type new.types c.in-Some.ty (decayed (operand_type p)) aims) (holds_later c.args.out.now new d s c.in_ok-j.ensures.still c.requires.1))

pub returns-in-Some-clause-words : goal.returns-in-Some-clause-words
returns-in-Some-clause-words c = λ s h.
    let d = c.args.here.now.declared in
    let new = c.judged.new.out in
    let p = judged s (expr_of c.args.a.now) in
    let aims = subst (λ (o : Option ℕ). AimsAt new.types o (decayed (operand_type p))) c.in-Some.is (c.judged_target.ensures p (c.in_ok-j.ensures.judged s h)) in
    let t = pointee (decayed (operand_type p)) in
    c.member_words.ensures t s.tags (among new.types d s c.as_slice.result.now c.in-Some.ty t c.as_slice.ensures.value (target_type new.types c.in-Some.ty (decayed (operand_type p)) aims) (holds_later c.args.out.now new d s c.in_ok-j.ensures.still h))

pub returns-in-None-clause-words : goal.returns-in-None-clause-words
returns-in-None-clause-words c = λ s h.
    let new = c.judged.new.out in
    let p = judged s (expr_of c.args.a.now) in
    let aims = subst (λ (o : Option ℕ). AimsAt new.types o (decayed (operand_type p))) c.in-None.is (c.judged_target.ensures p (c.in_ok-j.ensures.judged s h)) in
    subst (λ (t : CType). Counts c.of.result (member_offset s.tags t c.args.m.now)) (sym (no_target new.types (decayed (operand_type p)) aims).1) c.of.ensures
