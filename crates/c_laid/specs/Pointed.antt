-- Functions to which the objects of file scope point.
use Rattle.std.specs.Prelude.{◌≡◌, true}
use Rattle.c_syntax.specs.Plain.{CUnit}
use Rattle.c_types.specs.Scope.{contains}
use Rattle.c_types.specs.Units.{defined_in}
use Rattle.c_types.specs.Limits.{IsTyped}
use Rattle.c_eval.specs.Text.{text_of}
use Rattle.c_worlds.specs.Named.{ObjectsAreNamed}

-- in a typed text each of them is one that the text defines
abbrev pub PointedFunctionsAreDefined : Type 0
PointedFunctionsAreDefined = (u : CUnit) → IsTyped u → ObjectsAreNamed (λ name. contains (defined_in u.items) name ≡ true) (text_of u).objects
