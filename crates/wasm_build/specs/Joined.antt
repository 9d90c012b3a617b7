-- Code put behind code.
use Rattle.std.specs.Prelude.{◌≡◌, ℕ, List, ◌++◌}
use Rattle.wasm_valid.specs.Context.{Context}
use Rattle.wasm_valid.specs.Nesting.{Code, Nothing, Single, InBlock, InLoop, InIf, InIfElse, spelled}
use Rattle.wasm_valid.specs.Typing.{HasType}

-- the one code, and then the other
abbrev pub joined : Code → Code → Code
joined Nothing more = more
joined (Single i others) more = Single i (joined others more)
joined (InBlock result body others) more = InBlock result body (joined others more)
joined (InLoop result body others) more = InLoop result body (joined others more)
joined (InIf result body others) more = InIf result body (joined others more)
joined (InIfElse result body other others) more = InIfElse result body other (joined others more)

-- joined code is spelled as its parts are, and types where they do
pub record JoinedCodeTypes : Type 0 where
  pub spelling : (a b : Code) → spelled (joined a b) ≡ spelled a ++ spelled b
  pub typing : (c : Context) (labels : List ℕ) (a b : Code) (x y z : ℕ) → HasType c labels a x y → HasType c labels b y z → HasType c labels (joined a b) x z
