-- What operators do behind the code of their parts.
use Rattle.std.specs.Prelude.{List, [], ◌∷◌, Option, Some, None}
use Rattle.c_syntax.specs.declared.tree.UnOp.{UnOp}
use Rattle.c_syntax.specs.declared.tree.UnOp.TheVariants as unary
use Rattle.c_syntax.specs.declared.tree.BinOp.{BinOp}
use Rattle.c_types.specs.Types.{CType, Tags}
use Rattle.c_code.specs.Code.{Instruction, Follow, Negate, OneWord, Assign, Update}
use Rattle.c_pieces.specs.Counted.{AreCounted}

-- an operator on one side: an address stands already
abbrev pub behind_one : UnOp → CType → List Instruction
behind_one unary.Address t = []
behind_one unary.Deref t = Follow t ∷ []
behind_one unary.Not t = Negate ∷ []
behind_one op t = OneWord op ∷ []

-- an assignment, perhaps by an operator
abbrev pub behind_both : Tags → Option BinOp → CType → CType → List Instruction
behind_both tags None t u = Assign t ∷ []
behind_both tags (Some op) t u = Update tags op t u ∷ []

-- such an operator counts elements that fit a word
abbrev pub IsCountedBy : Tags → Option BinOp → CType → CType → Type 0
IsCountedBy tags None t u = Unit {0}
IsCountedBy tags (Some op) t u = AreCounted tags op t u
