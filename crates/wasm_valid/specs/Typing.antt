-- The types of code. All values are 32-bit integers, so the numbers of values say all.
use Rattle.std.specs.Prelude.{◌≡◌, ℕ, ◌+◌, Bool, cond, List, [], ◌∷◌, ◌++◌}
use Rattle.wasm_bin.specs.declared.module.Module.{Module}
use Rattle.wasm_bin.specs.declared.module.Body.{Body}
use Rattle.wasm_bin.specs.declared.module.FuncType.{FuncType}
use Rattle.wasm_bin.specs.declared.module.Instr.{Instr}
use Rattle.wasm_bin.specs.declared.module.Instr.TheVariants as instr
use Rattle.wasm_valid.specs.Context.{Context, context_of}
use Rattle.wasm_valid.specs.Effects.{MayApply, effect_of}
use Rattle.wasm_valid.specs.Nesting.{Code, Nothing, Single, InBlock, InLoop, InIf, InIfElse, spelled}

-- how many values a block gives
abbrev pub arity : Bool → ℕ
arity result = cond result 1 0

-- code may turn a stack of a values into one of b, under labels that say how many values a branch takes, the innermost first; one to a loop goes to its start and takes none
abbrev pub HasType : Context → List ℕ → Code → ℕ → ℕ → Type 0
HasType c labels Nothing a b = a ≡ b
HasType c labels (Single i others) a b =
    (m : ℕ) × MayApply (effect_of c labels i) a m × HasType c labels others m b
HasType c labels (InBlock result body others) a b =
    HasType c (arity result ∷ labels) body 0 (arity result) × HasType c labels others (a + arity result) b
HasType c labels (InLoop result body others) a b =
    HasType c (0 ∷ labels) body 0 (arity result) × HasType c labels others (a + arity result) b
HasType c labels (InIf result body others) a b =
    (m : ℕ) × (a ≡ m + 1)
    × HasType c (arity result ∷ labels) body 0 (arity result)
    × (arity result ≡ 0)
    × HasType c labels others (m + arity result) b
HasType c labels (InIfElse result body other others) a b =
    (m : ℕ) × (a ≡ m + 1)
    × HasType c (arity result ∷ labels) body 0 (arity result)
    × HasType c (arity result ∷ labels) other 0 (arity result)
    × HasType c labels others (m + arity result) b

-- the instructions nest, end with an `end`, and turn nothing into the results, which a branch out of them takes too
abbrev pub IsTypedExpression : Context → List Instr → Type 0
IsTypedExpression c instructions = (code : Code) × (instructions ≡ spelled code ++ instr.End ∷ []) × HasType c (c.results ∷ []) code 0 c.results

-- a function of this type with this body: its parameters are its first locals
abbrev pub IsBodyOf : Module → FuncType → Body → Type 0
IsBodyOf m t body = IsTypedExpression (context_of m (t.params + body.locals) t.results) body.code
