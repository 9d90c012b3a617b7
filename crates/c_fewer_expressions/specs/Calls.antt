-- What is called, and with what, as trees with fewer operators.
use Rattle.std.specs.Prelude.{◌≡◌, ℕ, Option, Some, None, List, [], ◌∷◌, map}
use Rattle.c_syntax.specs.Plain as plain
use Rattle.c_syntax.specs.Plain.{CExpr, CExprs, exprs}
use Rattle.c_syntax.specs.View.{expr_of}
use Rattle.c_types.specs.Scope.{Scope}
use Rattle.c_types.specs.Expressions.{judged, all_judged, callee_of}
use Rattle.c_types.specs.Table.{Table}
use Rattle.c_operands.specs.Seen.{IsJudged}
use Rattle.c_operands.specs.Arguments.{IsCallee}
use Rattle.c_expressions.specs.Told.{AreGiven}
use Rattle.c_helpers.specs.Fewer.{fewer, fewer_all, call_tree, behind_format}
use Rattle.c_helpers.specs.Functions.{format_name, put_string}
use Rattle.c_fewer_operators.specs.declared.here.Here.{Here}
use Rattle.c_fewer_operators.specs.Here.{Stands}
use Rattle.c_fewer_expressions.specs.declared.calls.Called.{Called}
use Rattle.c_fewer_expressions.specs.declared.calls.Given.{Given}
use Rattle.c_fewer_expressions.specs.declared.names.Named.{Named}
use Rattle.c_fewer_expressions.specs.declared.names.Named.TheVariants.{Printf, Puts, Other}

-- what is called comes from an expression
pub record CalledFrom (table : Table) (c : Called) (s : Scope) (at : ℕ) (f : CExpr) : Type 0 where
  pub tree : expr_of c.tree ≡ fewer s f
  pub judged : IsJudged (IsCallee table) c.judged (callee_of s at f (judged s f))

-- and the arguments
pub record GivenFrom (table : Table) (g : Given) (s : Scope) (es : CExprs) : Type 0 where
  pub trees : exprs (map expr_of g.trees.items) ≡ fewer_all s es
  pub judged : IsJudged (AreGiven table) g.judged (all_judged s es)

-- a call's parts in the scope of a place
abbrev pub CallParts : Table → Here → ℕ → Called → Given → Type 0
CallParts table h at c g = (s : Scope) × (f : CExpr) × (es : CExprs) × Stands table h s × CalledFrom table c s at f × GivenFrom table g s es

-- what becomes of the call of an expression
abbrev pub CallsAs : Scope → Named → CExpr → (pos : ℕ) → Type 0
CallsAs s Printf f pos =
    ((at : ℕ) (format : List ℕ) (es : CExprs) → plain.Call at (plain.Var pos (format_name format)) (behind_format es) ≡ call_tree s at f (Some format) es)
    × ((at : ℕ) (es : CExprs) → plain.Call at f es ≡ call_tree s at f None es)
CallsAs s Puts f pos = (at : ℕ) (format : Option (List ℕ)) (es : CExprs) → plain.Call at (plain.Var pos put_string.name) es ≡ call_tree s at f format es
CallsAs s Other f pos = (at : ℕ) (format : Option (List ℕ)) (es : CExprs) → plain.Call at f es ≡ call_tree s at f format es
