-- What the code of an expression and its judgement say.
use Rattle.std.specs.Prelude.{Result, OnOk, IfOk}
use Rattle.std.specs.declared.alloc.AllocError.{AllocError}
use Rattle.c_syntax.specs.Plain.{CExpr}
use Rattle.c_types.specs.declared.fault.TypeFault.{TypeFault}
use Rattle.c_types.specs.Scope.{Scope}
use Rattle.c_types.specs.Expressions.{judged}
use Rattle.c_eval.specs.Environment.{Environment}
use Rattle.c_eval.specs.LiteralsIn.{literals_in}
use Rattle.c_code.specs.Code.{Site, value_code, place_code}
use Rattle.c_types.specs.Table.{Table}
use Rattle.c_operands.specs.declared.operand.Operand.{Operand}
use Rattle.c_operands.specs.Seen.{IsOperand, IsJudged}
use Rattle.c_operands.specs.declared.declarations.Declarations.{Declarations}
use Rattle.c_operands.specs.Scoped.{Fits}
use Rattle.c_emitted.specs.declared.emitter.Emitter.{Emitter}
use Rattle.c_emitted.specs.Emits.{Emits}
use Rattle.c_here.specs.declared.here.Here as rust
use Rattle.c_here.specs.Here.{IsHere}
use Rattle.c_fitting.specs.Fit.{IsFit, IsPlace}

-- the code of a value
abbrev pub ValueEmitted : Table → rust.Here → Emitter → Emitter → CExpr → Type 0
ValueEmitted t h a b x = (site : Site) (env : Environment) → IsHere t h a site env → IsFit env.scope x → Emits a b (value_code x site env) (literals_in env.scope x)

-- unless memory is wanting
abbrev pub EmitsValue : Table → rust.Here → Emitter → Emitter → Result (Result Operand TypeFault) AllocError → CExpr → Type 0
EmitsValue t h a b r x = (site : Site) (env : Environment) → IsHere t h a site env → IsFit env.scope x → OnOk r (Emits a b (value_code x site env) (literals_in env.scope x))

-- that of a place
abbrev pub EmitsPlace : Table → rust.Here → Emitter → Emitter → Result (Result Operand TypeFault) AllocError → CExpr → Type 0
EmitsPlace t h a b r x = (site : Site) (env : Environment) → IsHere t h a site env → IsFit env.scope x → IsPlace x → OnOk r (Emits a b (place_code x site env) (literals_in env.scope x))

-- the judgement
abbrev pub JudgedAs : Table → Declarations → Table → Result Operand TypeFault → CExpr → Type 0
JudgedAs old d new j x = (s : Scope) → Fits old d s → IsJudged (IsOperand new) j (judged s x)

abbrev pub JudgesAs : Table → Declarations → Table → Result (Result Operand TypeFault) AllocError → CExpr → Type 0
JudgesAs old d new r x = (s : Scope) → Fits old d s → IfOk r (λ j. IsJudged (IsOperand new) j (judged s x))
