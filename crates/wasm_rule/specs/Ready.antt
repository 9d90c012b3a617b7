-- What the instruction that comes next needs, and that it is there.
use Rattle.std.specs.Prelude.{◌≡◌, ℕ, ◌-◌, ◌≤◌, List, [], ◌∷◌, ◌++◌, length, map}
use Rattle.wasm_bin.specs.declared.module.Instr.{Instr}
use Rattle.wasm_bin.specs.declared.module.Instr.TheVariants as instr
use Rattle.wasm_bin.specs.declared.module.Module.{Module}
use Rattle.wasm_valid.specs.Context.{Context, context_of}
use Rattle.wasm_valid.specs.Effects.{effect_of, MayApply}
use Rattle.wasm_valid.specs.Typing.{arity}
use Rattle.wasm_rule.specs.Config.{Label, Call, Config}

-- how many values lie beneath the innermost of these blocks; none beneath the function
abbrev pub beneath_of : List Label → ℕ
beneath_of [] = 0
beneath_of (label ∷ labels) = label.beneath

-- how many values lie above what the innermost block began over
abbrev pub above : Call → ℕ
above call = length call.values - beneath_of call.labels

-- how many values a branch to a label takes
abbrev pub label_arity : Label → ℕ
label_arity label = arity label.takes

-- how many values a branch to each of the labels takes, the innermost first; the last is the function's
abbrev pub arities_of : Call → List ℕ
arities_of call = map label_arity call.labels ++ arity call.gives ∷ []

-- what the function of a call may name
abbrev pub context_in : Module → Call → Context
context_in m call = context_of m (length call.locals) (arity call.gives)

-- the effect of an instruction is known, and the values that it takes are there: it may turn what lies above into some number of values
abbrev pub HasOperands : Module → Call → Instr → Type 0
HasOperands m call i = (left : ℕ) × MayApply (effect_of (context_in m call) (arities_of call) i) (above call) left

-- what an instruction needs is there: for an `if` a value, for the last `end` of a function its results, for what else forms blocks nothing, and for any other its operands and what it names
abbrev pub IsReadyFor : Module → Call → Instr → Type 0
IsReadyFor m call (instr.Block gives) = Unit {0}
IsReadyFor m call (instr.Loop gives) = Unit {0}
IsReadyFor m call (instr.If gives) = 1 ≤ above call
IsReadyFor m call instr.Else = Unit {0}
IsReadyFor m call instr.End = call.labels ≡ [] → arity call.gives ≤ above call
IsReadyFor m call i = HasOperands m call i

-- the last call has an instruction to execute, and all that it needs
pub record IsReady (m : Module) (c : Config) : Type 0 where
  pub call : Call
  pub callers : List Call
  pub instr : Instr
  pub code : List Instr
  pub last : c.calls ≡ call ∷ callers
  pub first : call.code ≡ instr ∷ code
  pub needs : IsReadyFor m call instr
  pub globals : length c.globals ≡ length m.globals
