-- The functions of a text with fewer operators, of which those with some names are kept.
use Rattle.std.specs.Prelude.{◌≡◌, ℕ, Bool, true, false, List, [], ◌∷◌, Option, Some, None, Ok, Err}
use Rattle.c_syntax.specs.Plain as plain
use Rattle.c_syntax.specs.Plain.{CExpr, CDecl, CStmt, CItem}
use Rattle.c_syntax.specs.declared.tree.UnOp.TheVariants as unary
use Rattle.c_types.specs.Refusals.{Judged}
use Rattle.c_types.specs.Scope.{Scope, contains}
use Rattle.c_types.specs.Declarations.{scope_or}
use Rattle.c_types.specs.Statements.{Around}
use Rattle.c_types.specs.Units.{Signature, signature, body_scope, body_judged, item_judged}
use Rattle.c_eval.specs.Text.{Definition}
use Rattle.c_alike.specs.Alike.{EachName}
use Rattle.c_fewer_types.specs.Written.{StringsAreShort}
use Rattle.c_helpers.specs.Fewer.{fewer_in_body}
use Rattle.c_fewer_types.specs.Standing.{IsTextName, ScopesStand, FirstHas, StmtHas, IsDeclaration, AnyDeclaration}
use Rattle.c_fewer_meaning.specs.FewerBodiesLaws.{fewer_in_definition}

-- ---- what is asked of an external

abbrev pub EachIsNamed : List CDecl → Type 0
EachIsNamed [] = Unit {0}
EachIsNamed (d ∷ ds) = IsTextName d.name × EachIsNamed ds

-- the name whose start a first value at file scope is
abbrev pub StartsAt : (List ℕ → Type 0) → CExpr → Type 0
StartsAt P (plain.Var at name) = P name
StartsAt P (plain.Unary at unary.Address (plain.Var pos name)) = P name
StartsAt P e = Unit {0}

-- the names that a body then has pass the test
abbrev pub BodyPasses : (List ℕ → Bool) → Scope → List ℕ → Judged Signature → CStmt → Type 0
BodyPasses test s name (Ok f) body = StmtHas (EachName (λ name. test name ≡ true)) AnyDeclaration (fewer_in_body (body_scope s name f) body)
BodyPasses test s name (Err e) body = Unit {0}

-- what is short and has names of a text; where the function is kept, the names in it pass the test
abbrev pub BodyFits : (test : List ℕ → Bool) → (names : List (List ℕ)) → Scope → List ℕ → Judged Signature → Option CStmt → Type 0
BodyFits test names s name f None = Unit {0}
BodyFits test names s name f (Some body) = StmtHas StringsAreShort IsDeclaration body × (contains names name ≡ true → BodyPasses test s name f body)

abbrev pub ItemFits : (test : List ℕ → Bool) → (names : List (List ℕ)) → Scope → CItem → Type 0
ItemFits test names s (plain.StructItem tag) = Unit {0}
ItemFits test names s (plain.Object d) = IsDeclaration d × FirstHas StringsAreShort d.first × FirstHas (StartsAt (λ name. test name ≡ true)) d.first
ItemFits test names s (plain.Function name at result params body) = IsTextName name × EachIsNamed params × BodyFits test names s name (signature s at result params) body

abbrev pub ItemsFit : (test : List ℕ → Bool) → (names : List (List ℕ)) → Scope → List CItem → Type 0
ItemsFit test names s [] = Unit {0}
ItemsFit test names s (item ∷ items) = ItemFits test names s item × ItemsFit test names (scope_or s (item_judged s item)) items

-- ---- what the functions then are

-- the second is the first with fewer operators, in a scope that stands for its own, and the first is typed
pub record DefinitionStands (test : List ℕ → Bool) (f g : Definition) : Type 0 where
  pub scope : Scope
  pub is : g ≡ fewer_in_definition f scope
  pub stand : ScopesStand (λ name. test name ≡ true) f.scope scope
  pub short : StmtHas StringsAreShort IsDeclaration f.body
  pub passes : StmtHas (EachName (λ name. test name ≡ true)) AnyDeclaration (fewer_in_body f.scope f.body)
  pub around : Around
  pub behind : Scope
  pub typed : body_judged f.scope around (Some f.body) ≡ Ok behind

-- a function that is kept stands first, and one that isn't stands nowhere
abbrev pub FrontStands : (List ℕ → Bool) → Bool → Definition → List Definition → List Definition → Type 0
FrontStands test true f gs rest = (g : Definition) × (gs ≡ g ∷ rest) × DefinitionStands test f g
FrontStands test false f gs rest = gs ≡ rest

-- the functions with these names, in their order
abbrev pub FunctionsStand : (List ℕ → Bool) → List (List ℕ) → List Definition → List Definition → Type 0
FunctionsStand test names [] gs = gs ≡ []
FunctionsStand test names (f ∷ fs) gs = (rest : List Definition) × FrontStands test (contains names f.name) f gs rest × FunctionsStand test names fs rest

-- a function that the one text has is in the other
abbrev pub MaybeDefinitionStands : (List ℕ → Bool) → Option Definition → Option Definition → Type 0
MaybeDefinitionStands test None None = Unit {0}
MaybeDefinitionStands test (Some f) (Some g) = DefinitionStands test f g
MaybeDefinitionStands test _ _ = ⊥
