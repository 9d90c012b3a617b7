-- Types within the limit.
use Rattle.std.specs.Prelude.{◌<◌, ◌^◌, IfOk}
use Rattle.c_syntax.specs.Plain.{CExpr}
use Rattle.c_types.specs.Types.{CType, Tags}
use Rattle.c_types.specs.Scope.{Scope}
use Rattle.c_types.specs.Expressions.{judged}
use Rattle.c_eval.specs.Operators.{element_words}
use Rattle.c_limited.specs.Narrow.{IsNarrow, ScopeIsNarrow, WritesNarrow}

-- an expression whose scope and casts have narrow types is of a narrow type
abbrev pub OperandsAreNarrow : Type 0
OperandsAreNarrow = (s : Scope) (e : CExpr) → ScopeIsNarrow s → WritesNarrow s e → IfOk (judged s e) (λ a. IsNarrow s.tags a.ty)

-- the elements to which a pointer of a narrow type points are small
abbrev pub NarrowElementsAreSmall : Type 0
NarrowElementsAreSmall = (tags : Tags) (t : CType) → IsNarrow tags t → element_words tags t < 2 ^ 23
