-- What holds of a run at each moment.
use Rattle.std.specs.Prelude.{ℕ, List, [], ◌∷◌}
use Rattle.c_syntax.specs.Plain.{CUnit}
use Rattle.c_eval.specs.Text.{Definition, Text, text_of}
use Rattle.c_eval.specs.Meaning.{own_rules, eval}
use Rattle.c_valid.specs.Valid.{AreBytes, IsValid, ObjectsAreValid, IsKept}
use Rattle.c_valid.specs.Limited.{StmtIsLimited}

-- the bodies of functions are within the limits
abbrev pub FunctionsAreLimited : List Definition → Type 0
FunctionsAreLimited [] = Unit {0}
FunctionsAreLimited (f ∷ fs) = StmtIsLimited f.scope f.body × FunctionsAreLimited fs

-- and the objects of file scope begin with valid values
pub record TextIsLimited (t : Text) : Type 0 where
  pub functions : FunctionsAreLimited t.functions
  pub objects : ObjectsAreValid t.objects

-- a run of such a text keeps its values valid, at each amount of fuel
abbrev pub RunsStayValid : Type 0
RunsStayValid = (u : CUnit) (input : List ℕ) (fuel : ℕ) → TextIsLimited (text_of u) → AreBytes input → IsKept IsValid (eval (own_rules u) (text_of u) input fuel)
