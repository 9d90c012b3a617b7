-- What each instruction that is no block does to the stack.
use Rattle.std.specs.Prelude.{◌≡◌, ℕ, ◌+◌, ◌≤◌, Bool, false, cond, ◌&&◌, List, Option, Some, None, slice_get, nat_eq, nat_lt, nat_le, is_some}
use Rattle.std.specs.List.{list_all}
use Rattle.std.specs.Option.{option_map, option_and_then}
use Rattle.wasm_bin.specs.declared.module.Instr.{Instr}
use Rattle.wasm_bin.specs.declared.module.Instr.TheVariants as instr
use Rattle.wasm_bin.specs.declared.module.MemArg.{MemArg}
pub use Rattle.wasm_valid.specs.declared.effect.Effect.{Effect}
pub use Rattle.wasm_valid.specs.declared.effect.Effect.TheVariants.{Turns, Breaks}
use Rattle.wasm_valid.specs.Context.{Context}

-- how many values an effect gives
abbrev pub gives_of : Effect → ℕ
gives_of (Turns takes gives) = gives
gives_of (Breaks takes) = 0

-- an effect under a condition
abbrev pub provided : Bool → Effect → Option Effect
provided condition effect = cond condition (Some effect) None

-- the label takes so many values
abbrev pub is_arity : ℕ → Option ℕ → Bool
is_arity n None = false
is_arity n (Some m) = nat_eq m n

-- each of the labels takes so many values
abbrev pub have_arity : List ℕ → ℕ → List ℕ → Bool
have_arity labels n targets = list_all (λ target. is_arity n (slice_get labels target)) targets

-- an access to memory: there is one, and the alignment is at most the access's size, a power of 2
abbrev pub access : Context → ℕ → MemArg → Effect → Option Effect
access c power a effect = provided (is_some c.memory && nat_le a.align power) effect

-- a test and an operation on one value give one, a comparison and an operation on two values too
unfoldable pub numeric_effect : Instr → Option Effect
numeric_effect instr.Eqz = Some (Turns 1 1)
numeric_effect instr.Clz = Some (Turns 1 1)
numeric_effect instr.Ctz = Some (Turns 1 1)
numeric_effect instr.Popcnt = Some (Turns 1 1)
numeric_effect instr.Eq = Some (Turns 2 1)
numeric_effect instr.Ne = Some (Turns 2 1)
numeric_effect instr.LtS = Some (Turns 2 1)
numeric_effect instr.LtU = Some (Turns 2 1)
numeric_effect instr.GtS = Some (Turns 2 1)
numeric_effect instr.GtU = Some (Turns 2 1)
numeric_effect instr.LeS = Some (Turns 2 1)
numeric_effect instr.LeU = Some (Turns 2 1)
numeric_effect instr.GeS = Some (Turns 2 1)
numeric_effect instr.GeU = Some (Turns 2 1)
numeric_effect instr.Add = Some (Turns 2 1)
numeric_effect instr.Sub = Some (Turns 2 1)
numeric_effect instr.Mul = Some (Turns 2 1)
numeric_effect instr.DivS = Some (Turns 2 1)
numeric_effect instr.DivU = Some (Turns 2 1)
numeric_effect instr.RemS = Some (Turns 2 1)
numeric_effect instr.RemU = Some (Turns 2 1)
numeric_effect instr.And = Some (Turns 2 1)
numeric_effect instr.Or = Some (Turns 2 1)
numeric_effect instr.Xor = Some (Turns 2 1)
numeric_effect instr.Shl = Some (Turns 2 1)
numeric_effect instr.ShrS = Some (Turns 2 1)
numeric_effect instr.ShrU = Some (Turns 2 1)
numeric_effect instr.Rotl = Some (Turns 2 1)
numeric_effect instr.Rotr = Some (Turns 2 1)
numeric_effect _ = None

-- what an instruction does under labels, the innermost first, where it may stand there; none is said of what forms blocks
unfoldable pub effect_of : Context → List ℕ → Instr → Option Effect
effect_of c labels instr.Unreachable = Some (Breaks 0)
effect_of c labels instr.Nop = Some (Turns 0 0)
effect_of c labels (instr.Br label) = option_map (λ n. Breaks n) (slice_get labels label)
effect_of c labels (instr.BrIf label) = option_map (λ n. Turns (n + 1) n) (slice_get labels label)
effect_of c labels (instr.BrTable targets label) = option_and_then (λ n. provided (have_arity labels n targets) (Breaks (n + 1))) (slice_get labels label)
effect_of c labels instr.Return = Some (Breaks c.results)
effect_of c labels (instr.Call index) = option_map (λ t. Turns t.params t.results) (c.functions index)
effect_of c labels instr.Drop = Some (Turns 1 0)
effect_of c labels instr.Select = Some (Turns 3 1)
effect_of c labels (instr.LocalGet index) = provided (nat_lt index c.locals) (Turns 0 1)
effect_of c labels (instr.LocalSet index) = provided (nat_lt index c.locals) (Turns 1 0)
effect_of c labels (instr.LocalTee index) = provided (nat_lt index c.locals) (Turns 1 1)
effect_of c labels (instr.GlobalGet index) = provided (is_some (slice_get c.globals index)) (Turns 0 1)
effect_of c labels (instr.GlobalSet index) = option_and_then (λ g. provided g.mutable (Turns 1 0)) (slice_get c.globals index)
effect_of c labels (instr.Load a) = access c 2 a (Turns 1 1)
effect_of c labels (instr.Load8S a) = access c 0 a (Turns 1 1)
effect_of c labels (instr.Load8U a) = access c 0 a (Turns 1 1)
effect_of c labels (instr.Load16S a) = access c 1 a (Turns 1 1)
effect_of c labels (instr.Load16U a) = access c 1 a (Turns 1 1)
effect_of c labels (instr.Store a) = access c 2 a (Turns 2 0)
effect_of c labels (instr.Store8 a) = access c 0 a (Turns 2 0)
effect_of c labels (instr.Store16 a) = access c 1 a (Turns 2 0)
effect_of c labels instr.MemorySize = provided (is_some c.memory) (Turns 0 1)
effect_of c labels instr.MemoryGrow = provided (is_some c.memory) (Turns 1 1)
effect_of c labels (instr.Const value) = Some (Turns 0 1)
effect_of c labels i = numeric_effect i

-- a stack of a values may become one of b by the effect; what lies beneath is kept
abbrev pub Applies : Effect → ℕ → ℕ → Type 0
Applies (Turns takes gives) a b = (kept : ℕ) × (a ≡ kept + takes) × (b ≡ kept + gives)
Applies (Breaks takes) a b = takes ≤ a

abbrev pub MayApply : Option Effect → ℕ → ℕ → Type 0
MayApply None a b = ⊥
MayApply (Some effect) a b = Applies effect a b
