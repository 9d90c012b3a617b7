-- What is left of the operators of statements where operators became calls.
use Rattle.std.specs.Prelude.{◌≡◌, ℕ, Bool, true, List, Some, Ok}
use Rattle.c_syntax.specs.Plain.{CStmt}
use Rattle.c_types.specs.Types.{CTypes}
use Rattle.c_types.specs.Scope.{Scope}
use Rattle.c_types.specs.Statements.{Around, stated}
use Rattle.c_types.specs.Units.{body_judged}
use Rattle.c_eval.specs.Environment.{Environment, Callee, Through}
use Rattle.c_valid.specs.Limited.{StmtIsLimited}
use Rattle.c_alike.specs.Alike.{EachName}
use Rattle.c_fewer_types.specs.Written.{StringsAreShort}
use Rattle.c_helpers.specs.Fewer.{fewer_in, fewer_in_body}
use Rattle.c_fewer_types.specs.Standing.{ScopesStand, StmtHas, IsDeclaration, AnyDeclaration}
use Rattle.c_fitting.specs.Blocks.{DeclaresInBlocks}
use Rattle.c_stated.specs.Statements as lowering
use Rattle.c_compiled.specs.Lettered.{OperatorsAre, FirstsAre}
use Rattle.c_fewer_reached.specs.Updates.{UpdatesAre}
use Rattle.c_compiled.specs.Few.{TagsHaveObjects, NameServes}
use Rattle.c_compiled.specs.Calls.{NameCalls}

-- in the two scopes each of these names is one to which pointers point where it is a function's, and what it stands for may be called; what an object can have has a word
pub record ScopesServe (valued : List ℕ → Bool) (may : Callee → Bool) (P : List ℕ → Type 0) (s s' : Scope) : Type 0 where
  pub tags : TagsHaveObjects s.tags
  pub points : (name : List ℕ) → P name → NameServes valued s name
  pub calls : (name : List ℕ) → P name → NameCalls may s s' name

-- of a statement, before its operators became calls: it is short, of a text within the limits, assigns with the operators that C has for it, and declares in blocks
pub record IsStatement (s : Scope) (t : CStmt) : Type 0 where
  pub short : StmtHas StringsAreShort IsDeclaration t
  pub updates : StmtHas UpdatesAre AnyDeclaration t
  pub limited : StmtIsLimited s t
  pub blocks : DeclaresInBlocks t

-- the operators of each expression of a statement are few, and its calls are of what may be called
abbrev pub HasFew : (valued : List ℕ → Bool) → (may : Callee → Bool) → CStmt → Environment → Type 0
HasFew valued may t site = lowering.StmtHas (λ e site. OperatorsAre valued may e site) (λ d site. FirstsAre valued may d site) t site

-- so it is with a typed statement where operators became calls, in a scope in which its names have their meaning
abbrev pub StatementsAreFew : Type 0
StatementsAreFew =
    (valued : List ℕ → Bool) (may : Callee → Bool) (test : List ℕ → Bool) (s : Scope) (w : Around) (t : CStmt) (r : Scope) (site : Environment) → ((params : CTypes) → may (Through params) ≡ true)
    → ScopesStand (λ name. test name ≡ true) s site.scope → ScopesServe valued may (λ name. test name ≡ true) s site.scope
    → IsStatement s t → StmtHas (EachName (λ name. test name ≡ true)) AnyDeclaration (fewer_in s t) → stated s w t ≡ Ok r → HasFew valued may (fewer_in s t) site

-- and with the body of a typed function
abbrev pub BodiesAreFew : Type 0
BodiesAreFew =
    (valued : List ℕ → Bool) (may : Callee → Bool) (test : List ℕ → Bool) (s : Scope) (w : Around) (t : CStmt) (r : Scope) (site : Environment) → ((params : CTypes) → may (Through params) ≡ true)
    → ScopesStand (λ name. test name ≡ true) s site.scope → ScopesServe valued may (λ name. test name ≡ true) s site.scope
    → IsStatement s t → StmtHas (EachName (λ name. test name ≡ true)) AnyDeclaration (fewer_in_body s t) → body_judged s w (Some t) ≡ Ok r → HasFew valued may (fewer_in_body s t) site
