use Rattle.std.proofs.Common.{ℕ, sym, subst, ap}
use Rattle.std.specs.Prelude.{Option, Result, Ok, Err}
use Rattle.c_syntax.specs.View.{expr_of}
use Rattle.c_types.specs.declared.fault.TypeFault.{TypeFault}
use Rattle.c_types.specs.Types.{CType, decayed}
use Rattle.c_types.specs.Expressions.{judged}
use Rattle.c_eval.specs.Environment.{operand_type, member_offset, pointee}
use Rattle.c_types.specs.Seen.{Counts}
use Rattle.c_operands.specs.declared.operand.Operand.{Operand}
use Rattle.c_operands.specs.Seen.{IsOperand, IsJudged}
use Rattle.c_addressing.specs.Classes.{AimsAt}
use Rattle.c_addressing.proofs.HereLemmas.{holds_later}
use Rattle.std.proofs.lemmas.Option.{slice_get_within}
use Rattle.c_types.specs.Known.{OneType}
use Rattle.c_types.specs.Table.{known}
use Rattle.c_addressing.proofs.ClassLemmas.{target_found, target_type, no_target}
use Rattle.c_addressing.proofs.typed.target_class.Goals as goal

pub judged_target-requires : goal.judged_target-requires
judged_target-requires c = let s = c.requires.0 in (judged s (expr_of c.args.e.now), c.in_ok-j.ensures.judged s c.requires.1)

pub class_of-requires : goal.class_of-requires
class_of-requires c =
    let s = c.requires.0 in
    let new = c.judged.new.out in
    let p = judged s (expr_of c.args.e.now) in
    let aims = subst (λ (o : Option ℕ). AimsAt new.types o (decayed (operand_type p))) c.in-Some.is (c.judged_target.ensures p (c.in_ok-j.ensures.judged s c.requires.1)) in
    slice_get_within (known new.types) c.in-Some.ty (OneType (pointee (decayed (operand_type p)))) (target_type new.types c.in-Some.ty (decayed (operand_type p)) aims)

pub returns-in-Some-clause-class : goal.returns-in-Some-clause-class
returns-in-Some-clause-class c = λ s h.
    let new = c.judged.new.out in
    let p = judged s (expr_of c.args.e.now) in
    let aims = subst (λ (o : Option ℕ). AimsAt new.types o (decayed (operand_type p))) c.in-Some.is (c.judged_target.ensures p (c.in_ok-j.ensures.judged s h)) in
    target_found new.types c.in-Some.ty (decayed (operand_type p)) c.class_of.result aims c.class_of.ensures

pub returns-in-None-clause-class : goal.returns-in-None-clause-class
returns-in-None-clause-class c = λ s h.
    let new = c.judged.new.out in
    let p = judged s (expr_of c.args.e.now) in
    let aims = subst (λ (o : Option ℕ). AimsAt new.types o (decayed (operand_type p))) c.in-None.is (c.judged_target.ensures p (c.in_ok-j.ensures.judged s h)) in
    (no_target new.types (decayed (operand_type p)) aims).0
