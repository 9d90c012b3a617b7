-- Programs: typed texts within the limits, of names that tokens spell.
use Rattle.std.specs.Prelude.{◌≡◌, true, List, [], ◌∷◌}
use Rattle.c_syntax.specs.Plain as plain
use Rattle.c_syntax.specs.Plain.{CDecl, CStmt, CItem, CUnit}
use Rattle.c_types.specs.Limits.{is_small, IsTyped}
use Rattle.c_eval.specs.Text.{Definition, text_of}
use Rattle.c_limited.specs.Laws.{has_bytes}
use Rattle.c_fewer_types.specs.Written.{StringsAreShort}
use Rattle.c_fewer_types.specs.Standing.{IsTextName, StmtHas, IsDeclaration, AnyDeclaration}
use Rattle.c_fewer_reached.specs.Updates.{UpdatesAre}

abbrev pub DeclsHaveNames : List CDecl → Type 0
DeclsHaveNames [] = Unit {0}
DeclsHaveNames (d ∷ ds) = IsTextName d.name × DeclsHaveNames ds

-- names of letters, digits and `_`: those of objects, of functions and of parameters
abbrev pub ItemsHaveNames : List CItem → Type 0
ItemsHaveNames [] = Unit {0}
ItemsHaveNames (plain.StructItem tag ∷ items) = ItemsHaveNames items
ItemsHaveNames (plain.Object d ∷ items) = IsTextName d.name × ItemsHaveNames items
ItemsHaveNames (plain.Function name at result params body ∷ items) = IsTextName name × DeclsHaveNames params × ItemsHaveNames items

-- of each body it holds
abbrev pub BodiesHave : (CStmt → Type 0) → List Definition → Type 0
BodiesHave H [] = Unit {0}
BodiesHave H (f ∷ fs) = H f.body × BodiesHave H fs

pub record IsProgram (u : CUnit) : Type 0 where
  pub typed : IsTyped u
  pub small : is_small u ≡ true
  pub bytes : has_bytes u ≡ true
  pub names : ItemsHaveNames u.items
  -- no declaration stands bare at the head of a `for`; locals have names of letters, digits and `_`
  pub bodies : BodiesHave (StmtHas StringsAreShort IsDeclaration) (text_of u).functions
  -- and assignments are by the operators that C has for it
  pub updates : BodiesHave (StmtHas UpdatesAre AnyDeclaration) (text_of u).functions
