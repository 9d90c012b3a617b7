-- The bodies of a program.
use Rattle.std.specs.Prelude.{◌≡◌, ℕ, true, List, [], ◌∷◌, Some, Ok}
use Rattle.c_syntax.specs.Plain as plain
use Rattle.c_syntax.specs.Plain.{CTy, CDecl, CStmt, CItem, CUnit}
use Rattle.c_types.specs.Scope.{Scope}
use Rattle.c_types.specs.Declarations.{scope_or}
use Rattle.c_types.specs.Units.{Signature, signature, body_scope, around_body, body_judged, item_judged, start_scope}
use Rattle.c_fewer_types.specs.Written.{StringsAreShort}
use Rattle.c_helpers.specs.Fewer.{fewer_in_items, names_in_bodies, formats_in}
use Rattle.c_fewer_types.specs.Standing.{StmtHas, IsDeclaration}
use Rattle.c_worlds.specs.Named.{Each}
use Rattle.c_fewer_names.specs.FewerKnownLaws.{is_known_name, NamesAreOfText}
use Rattle.c_fewer_items.specs.FewerFrontsLaws.{AreFormats}
use Rattle.c_programs.specs.Programs.{IsProgram}

-- the body of a function is typed in the scope of its signature, which has names of a text
pub record BodyIsTyped (s : Scope) (name : List ℕ) (at : ℕ) (result : CTy) (params : List CDecl) (body : CStmt) : Type 0 where
  pub head : Signature
  pub head_is : signature s at result params ≡ Ok head
  pub names : NamesAreOfText (body_scope s name head)
  pub short : StmtHas StringsAreShort IsDeclaration body
  pub behind : Scope
  pub typed : body_judged (body_scope s name head) (around_body head) (Some body) ≡ Ok behind

abbrev pub ItemIsTyped : Scope → CItem → Type 0
ItemIsTyped s (plain.Function name at result params (Some body)) = BodyIsTyped s name at result params body
ItemIsTyped s item = Unit {0}

-- each, in the scope before its external, which has names of a text
abbrev pub BodiesAreTyped : Scope → List CItem → Type 0
BodiesAreTyped s [] = Unit {0}
BodiesAreTyped s (item ∷ items) = NamesAreOfText s × ItemIsTyped s item × BodiesAreTyped (scope_or s (item_judged s item)) items

abbrev pub BodiesOfProgramsAreTyped : Type 0
BodiesOfProgramsAreTyped = (u : CUnit) → IsProgram u → BodiesAreTyped (start_scope u) u.items

-- all names that they evaluate with fewer operators are known
abbrev pub NamesOfProgramsAreKnown : Type 0
NamesOfProgramsAreKnown = (u : CUnit) → IsProgram u → Each (λ name. is_known_name name ≡ true) (names_in_bodies (fewer_in_items (start_scope u) u.items))

-- the formats among them are those of `printf`
abbrev pub FormatsOfProgramsAreFormats : Type 0
FormatsOfProgramsAreFormats = (u : CUnit) → IsProgram u → AreFormats (formats_in (fewer_in_items (start_scope u) u.items))
