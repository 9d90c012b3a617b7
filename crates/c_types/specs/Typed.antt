-- What a typed tree of the code is.
use Rattle.std.specs.Prelude.{ℕ}
use Rattle.c_syntax.specs.Plain.{CUnit}
use Rattle.c_syntax.specs.View.{unit_of}
use Rattle.c_types.specs.declared.typed.Typed.{Typed}

-- its plain tree
abbrev pub plain_of : Typed → CUnit
plain_of t = unit_of t.tree

abbrev pub weight_in : Typed → ℕ
weight_in t = t.weight
