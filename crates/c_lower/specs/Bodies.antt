-- The string literals of functions, in the order of the text.
use Rattle.std.specs.Prelude.{◌≡◌, ℕ, List, [], ◌∷◌, ◌++◌, length}
use Rattle.c_types.specs.Scope.{Scope}
use Rattle.c_eval.specs.LiteralsIn.{stmt_literals}
use Rattle.c_eval.specs.Text.{Definition}
use Rattle.c_types.specs.Table.{Table, texts}
use Rattle.c_operands.specs.declared.declarations.Declarations.{Declarations}
use Rattle.c_declared.specs.Held.{Holds}
use Rattle.c_lower.specs.declared.bodies.Body.{Body}
use Rattle.c_lower.specs.declared.bodies.Bodies.{Bodies}

abbrev pub literals_in_function : Definition → List (List ℕ)
literals_in_function f = stmt_literals f.scope f.body

-- those of functions, one behind the other
abbrev pub functions_literals : List Definition → List (List ℕ)
functions_literals [] = []
functions_literals (f ∷ fs) = literals_in_function f ++ functions_literals fs

-- each has the name of its function, and as many literals
abbrev pub AreEach : List Body → List Definition → Type 0
AreEach [] [] = Unit {0}
AreEach (b ∷ bs) (f ∷ fs) = (b.name.now ≡ f.name) × (b.count ≡ length (literals_in_function f)) × AreEach bs fs
AreEach _ _ = ⊥

-- these are functions with their literals
pub record AreBodies (b : Bodies) (fs : List Definition) : Type 0 where
  pub each : AreEach b.each.items fs
  pub literals : texts b.literals.items ≡ functions_literals fs

-- functions with their literals stand behind those before
pub record AddsBodies (old new : Bodies) (fs : List Definition) : Type 0 where
  pub more : List Body
  pub behind : new.each.items ≡ old.each.items ++ more
  pub are : AreEach more fs
  pub literals : texts new.literals.items ≡ texts old.literals.items ++ functions_literals fs

-- an external is passed: the functions that it defines are added, and what is declared is known behind it
pub record PassesBodies (table : Table) (d : Declarations) (old new : Bodies) (inner : Scope) (fs : List Definition) : Type 0 where
  pub adds : AddsBodies old new fs
  pub holds : Holds table d inner
