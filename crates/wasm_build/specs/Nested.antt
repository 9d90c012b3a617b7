-- Typed code as an expression of the binary format.
use Rattle.std.specs.Prelude.{ℕ, suc, ◌^◌, ◌≤◌, max, List, [], ◌∷◌, ◌++◌, map}
use Rattle.wasm_bin.specs.declared.module.Instr.TheVariants.{End}
use Rattle.wasm_bin.specs.Opcode.{coded}
use Rattle.wasm_bin.specs.Grammar.{IsExpression}
use Rattle.wasm_valid.specs.Context.{Context}
use Rattle.wasm_valid.specs.Nesting.{Code, Nothing, Single, InBlock, InLoop, InIf, InIfElse, spelled}
use Rattle.wasm_valid.specs.Typing.{HasType}

-- how many blocks nest in code
abbrev pub depth_of : Code → ℕ
depth_of Nothing = 0
depth_of (Single i others) = depth_of others
depth_of (InBlock result body others) = max (suc (depth_of body)) (depth_of others)
depth_of (InLoop result body others) = max (suc (depth_of body)) (depth_of others)
depth_of (InIf result body others) = max (suc (depth_of body)) (depth_of others)
depth_of (InIfElse result body other others) = max (max (suc (depth_of body)) (suc (depth_of other))) (depth_of others)

-- typed code in which at most 2^20 blocks nest, with an end, is an expression of the format
abbrev pub TypedCodeIsExpression : Type 0
TypedCodeIsExpression = (c : Context) (labels : List ℕ) (code : Code) (a b : ℕ) → HasType c labels code a b → depth_of code ≤ 2 ^ 20 → IsExpression (map coded (spelled code ++ End ∷ []))
