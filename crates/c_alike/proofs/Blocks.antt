-- The objects of a block are those that it has in a scope that is alike.
use Rattle.std.proofs.Common.{◌≡◌, ℕ, List, [], ◌∷◌, ◌++◌, refl, ap, ap₂}
use Rattle.std.specs.Prelude.{replicate}
use Rattle.c_syntax.specs.Plain as plain
use Rattle.c_syntax.specs.Plain.{CDecl, CStmt, CStmts}
use Rattle.c_types.specs.Types.{words_of}
use Rattle.c_types.specs.Scope.{Scope}
use Rattle.c_types.specs.Census.{scope_behind}
use Rattle.c_eval.specs.State.{Unset}
use Rattle.c_eval.specs.Environment.{type_or_void, unset_cells, objects_in, block_objects}
use Rattle.c_alike.specs.Alike.{ScopesAreAlike, EachNameOfDecl}
use Rattle.c_alike.proofs.Scopes.{type_alike, declared_alike}

-- of each name of what a statement declares in its block
abbrev pub EachNameDeclared : (List ℕ → Type 0) → CStmt → Type 0
EachNameDeclared P (plain.Local d) = EachNameOfDecl P d
EachNameDeclared P t = Unit {0}

-- and of what a block does
abbrev pub EachNameOfBlock : (List ℕ → Type 0) → CStmts → Type 0
EachNameOfBlock P plain.NoStmt = Unit {0}
EachNameOfBlock P (plain.MoreStmt t ts) = EachNameDeclared P t × EachNameOfBlock P ts

module _ (P : List ℕ → Type 0) where
  cells_alike : (s s' : Scope) (d : CDecl) → EachNameOfDecl P d → ScopesAreAlike P s s' → unset_cells s d ≡ unset_cells s' d
  cells_alike s s' d p a = let e = type_alike P s s' a d p.1 in λ i. replicate (words_of (a.tags i) (type_or_void (e i))) Unset

  objects_alike : (s s' : Scope) (t : CStmt) → EachNameDeclared P t → ScopesAreAlike P s s' → objects_in s t ≡ objects_in s' t
  objects_alike s s' (plain.Local d) p a = ap (λ cells. cells ∷ []) (cells_alike s s' d p a)
  objects_alike s s' (plain.Block ss) p a = refl
  objects_alike s s' (plain.Do_expr e) p a = refl
  objects_alike s s' plain.Empty p a = refl
  objects_alike s s' (plain.If e t) p a = refl
  objects_alike s s' (plain.IfElse e t u) p a = refl
  objects_alike s s' (plain.While e t) p a = refl
  objects_alike s s' (plain.Do t e) p a = refl
  objects_alike s s' (plain.For first test step t) p a = refl
  objects_alike s s' (plain.Return at e) p a = refl
  objects_alike s s' (plain.Break at) p a = refl
  objects_alike s s' (plain.Continue at) p a = refl
  objects_alike s s' (plain.Switch e ps) p a = refl

  -- behind a statement scopes are still alike
  pub behind_alike : (s s' : Scope) (t : CStmt) → EachNameDeclared P t → ScopesAreAlike P s s' → ScopesAreAlike P (scope_behind s t) (scope_behind s' t)
  behind_alike s s' (plain.Local d) p a = declared_alike P s s' d p a
  behind_alike s s' (plain.Block ss) p a = a
  behind_alike s s' (plain.Do_expr e) p a = a
  behind_alike s s' plain.Empty p a = a
  behind_alike s s' (plain.If e t) p a = a
  behind_alike s s' (plain.IfElse e t u) p a = a
  behind_alike s s' (plain.While e t) p a = a
  behind_alike s s' (plain.Do t e) p a = a
  behind_alike s s' (plain.For first test step t) p a = a
  behind_alike s s' (plain.Return at e) p a = a
  behind_alike s s' (plain.Break at) p a = a
  behind_alike s s' (plain.Continue at) p a = a
  behind_alike s s' (plain.Switch e ps) p a = a

  pub block_alike : (s s' : Scope) (ss : CStmts) → EachNameOfBlock P ss → ScopesAreAlike P s s' → block_objects s ss ≡ block_objects s' ss
  block_alike s s' plain.NoStmt p a = refl
  block_alike s s' (plain.MoreStmt t ts) p a = ap₂ (λ xs ys. xs ++ ys) (objects_alike s s' t p.0 a) (block_alike (scope_behind s t) (scope_behind s' t) ts p.1 (behind_alike s s' t p.0 a))
