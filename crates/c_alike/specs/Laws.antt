-- What a tree is depends on its own names and on the tags alone.
use Rattle.std.specs.Prelude.{◌≡◌, ℕ, Bool, true, List}
use Rattle.c_syntax.specs.Plain.{CExpr, CTy, CDecl, Local}
use Rattle.c_types.specs.Scope.{Scope}
use Rattle.c_types.specs.Expressions.{judged, written}
use Rattle.c_types.specs.Census.{scope_behind}
use Rattle.c_alike.specs.Alike.{ExprIsAlike, TyIsAlike, ScopesAreAlike, EachNameOfDecl}

-- scopes with the same tags, alike for an expression's names, judge it alike
abbrev pub ExpressionsAreJudgedAlike : Type 0
ExpressionsAreJudgedAlike = (s s' : Scope) (e : CExpr) → s.tags ≡ s'.tags → ExprIsAlike s s' e → judged s e ≡ judged s' e

-- so they do a type that is written
abbrev pub TypesAreJudgedAlike : Type 0
TypesAreJudgedAlike = (s s' : Scope) (at : ℕ) (t : CTy) → s.tags ≡ s'.tags → TyIsAlike s s' t → written s at t ≡ written s' at t

-- behind a declaration, scopes that are alike for the names that pass a test stay so, if those of the declaration pass it
abbrev pub DeclarationsKeepScopesAlike : Type 0
DeclarationsKeepScopesAlike =
    (test : List ℕ → Bool) (s s' : Scope) (d : CDecl) → EachNameOfDecl (λ name. test name ≡ true) d → ScopesAreAlike (λ name. test name ≡ true) s s'
    → ScopesAreAlike (λ name. test name ≡ true) (scope_behind s (Local d)) (scope_behind s' (Local d))
