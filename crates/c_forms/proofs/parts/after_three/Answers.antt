use Rattle.std.proofs.Common.{◌≡◌, ℕ, sym, subst}
use Rattle.std.specs.Prelude.{Result, Ok, IfOk}
use Rattle.c_types.specs.declared.fault.TypeFault.{TypeFault}
use Rattle.c_types.specs.Refusals.{Judged, both}
use Rattle.c_types.specs.Operands as plain
use Rattle.c_types.specs.Operands.{choice_operand}
use Rattle.c_operands.specs.declared.operand.Operand.{Operand}
use Rattle.c_operands.specs.Seen.{IsOperand, IsJudged}
use Rattle.c_forms.specs.Forms.{IsPair}
use Rattle.c_forms.proofs.PartLemmas.{ok_is, err_is, told_first, told_second, both_ok}
use Rattle.c_forms.proofs.parts.after_three.Goals as goal
use Rattle.c_forms.proofs.parts.after_three.Goals.{In-Ok-others}

abbrev Two : Type 0
Two = plain.Operand × plain.Operand

abbrev joined : plain.Operand → plain.Operand → Judged Two
joined x y = Ok (x, y)

abbrev chosen : ℕ → plain.Operand → Two → Judged plain.Operand
chosen at x yz = choice_operand at x yz.0 yz.1

pub choice-requires-clause-test : goal.choice-requires-clause-test
choice-requires-clause-test c =
    let table = c.args.types.now in
    let r = c.requires.test in
    let k = ok_is (IsOperand table) c.in-Ok.x r.0 (subst (λ (j : Result Operand TypeFault). IsJudged (IsOperand table) j r.0) c.in-Ok.is r.1) in
    (k.0.ty, k.2.ty)

-- the two branches
branches : (c : In-Ok-others) → (p q : Judged plain.Operand) → IsJudged (IsOperand c.args.types.now) c.args.b p → IsJudged (IsOperand c.args.types.now) c.args.c q
    → (b : Two) × (both {C = Two} p q joined ≡ Ok b) × IsPair c.args.types.now (c.in-Ok-others.y, c.in-Ok-others.z) b
branches c p q h k =
    let table = c.args.types.now in
    ok_is (IsPair table) (c.in-Ok-others.y, c.in-Ok-others.z) (both {C = Two} p q joined)
    (subst (λ (j : Result (Operand × Operand) TypeFault). IsJudged (IsPair table) j (both {C = Two} p q joined)) c.in-Ok-others.is (c.pair-others.ensures table p q h k))

pub choice-requires-clause-first : goal.choice-requires-clause-first
choice-requires-clause-first c =
    let f = c.requires.first in
    let g = c.requires.second in
    let b = branches (goal.at.choice-requires-clause-first c).In-Ok-others f.0 g.0 f.1 g.1 in
    (b.0.0.ty, b.2.0.ty)

pub choice-requires-clause-second : goal.choice-requires-clause-second
choice-requires-clause-second c =
    let f = c.requires.first in
    let g = c.requires.second in
    let b = branches (goal.at.choice-requires-clause-second c).In-Ok-others f.0 g.0 f.1 g.1 in
    (b.0.1.ty, b.2.1.ty)

pub returns-in-Ok-others-clause-judged : goal.returns-in-Ok-others-clause-judged
returns-in-Ok-others-clause-judged c = λ p q r h k m.
    let table = c.args.types.now in
    let l = ok_is (IsOperand table) c.in-Ok.x p (subst (λ (j : Result Operand TypeFault). IsJudged (IsOperand table) j p) c.in-Ok.is h) in
    let b = branches (goal.at.returns-in-Ok-others-clause-judged c).In-Ok-others q r k m in
    subst (λ (n : Judged plain.Operand). IfOk c.choice.result (λ j. IsJudged (IsOperand c.choice.new.types) j n))
    (sym (both_ok l.0 b.0 p (both {C = Two} q r joined) (chosen c.args.at) l.1 b.1))
    (c.choice.ensures.judged l.0 b.0.0 b.0.1 l.2 b.2.0 b.2.1)

pub returns-in-Err-others-clause-judged : goal.returns-in-Err-others-clause-judged
returns-in-Err-others-clause-judged c = λ p q r h k m.
    let table = c.args.types.now in
    let l = ok_is (IsOperand table) c.in-Ok.x p (subst (λ (j : Result Operand TypeFault). IsJudged (IsOperand table) j p) c.in-Ok.is h) in
    let e = err_is (IsPair table) c.in-Err-others.fault (both {C = Two} q r joined) (subst (λ (j : Result (Operand × Operand) TypeFault). IsJudged (IsPair table) j (both {C = Two} q r joined)) c.in-Err-others.is (c.pair-others.ensures table q r k m)) in
    told_second (IsOperand table) c.in-Err-others.fault l.0 p (both {C = Two} q r joined) (chosen c.args.at) l.1 e

pub returns-in-Err-clause-judged : goal.returns-in-Err-clause-judged
returns-in-Err-clause-judged c = λ p q r h k m.
    let table = c.args.types.now in
    let e = err_is (IsOperand table) c.in-Err.fault p (subst (λ (j : Result Operand TypeFault). IsJudged (IsOperand table) j p) c.in-Err.is h) in
    told_first (IsPair table) (IsOperand table) c.in-Err.fault c.least_of.result c.err.result c.pair-others.result p (both {C = Two} q r joined) (chosen c.args.at) e (c.pair-others.ensures table q r k m) c.err.ensures.value c.least_of.ensures
