-- Expressions that have code: what has to be a place is one, and numbers of words fit a word.
use Rattle.std.specs.Prelude.{◌<◌, ◌^◌, Bool, true, false}
use Rattle.c_syntax.specs.Plain as plain
use Rattle.c_syntax.specs.Plain.{CExpr, CExprs}
use Rattle.c_syntax.specs.declared.tree.UnOp.{UnOp}
use Rattle.c_syntax.specs.declared.tree.UnOp.TheVariants as unary
use Rattle.c_syntax.specs.declared.tree.BinOp.TheVariants as binary
use Rattle.c_types.specs.Types.{Int}
use Rattle.c_types.specs.Scope.{Scope}
use Rattle.c_types.specs.Expressions.{names_function}
use Rattle.c_eval.specs.Environment.{type_in, value_type_in, pointee, member_offset}
use Rattle.c_eval.specs.Eval.{step_op}
use Rattle.c_pieces.specs.Counted.{AreCounted}
use Rattle.c_here.specs.Behind.{IsCountedBy}

-- a string, a name, what a pointer points to, an element or a member
abbrev pub IsPlace : CExpr → Type 0
IsPlace (plain.Str at text) = Unit {0}
IsPlace (plain.Var at name) = Unit {0}
IsPlace (plain.Unary at unary.Deref a) = Unit {0}
IsPlace (plain.Index at a b) = Unit {0}
IsPlace (plain.Member at a m) = Unit {0}
IsPlace (plain.Arrow at a m) = Unit {0}
IsPlace _ = ⊥

abbrev pub IsPlaceUnless : Bool → CExpr → Type 0
IsPlaceUnless true a = Unit {0}
IsPlaceUnless false a = IsPlace a

-- `&` takes a function's name or a place
abbrev pub IsAddressed : Scope → UnOp → CExpr → Type 0
IsAddressed s unary.Address a = IsPlaceUnless (names_function s a) a
IsAddressed s op a = Unit {0}

abbrev mutual
  pub IsFit : Scope → CExpr → Type 0
  IsFit s (plain.Unary at op a) = IsFit s a × IsAddressed s op a
  IsFit s (plain.Step at op a) = IsFit s a × IsPlace a × AreCounted s.tags (step_op op) (type_in s a) Int
  IsFit s (plain.Binary at op a b) = IsFit s a × IsFit s b × AreCounted s.tags op (value_type_in s a) (value_type_in s b)
  IsFit s (plain.Assign at op a b) = IsFit s a × IsFit s b × IsPlace a × IsCountedBy s.tags op (type_in s a) (value_type_in s b)
  IsFit s (plain.Cond at a b c) = IsFit s a × IsFit s b × IsFit s c
  IsFit s (plain.Comma at a b) = IsFit s a × IsFit s b
  IsFit s (plain.Cast at t a) = IsFit s a
  IsFit s (plain.Index at a b) = IsFit s a × IsFit s b × AreCounted s.tags binary.Add (value_type_in s a) (value_type_in s b)
  IsFit s (plain.Call at f es) = IsFit s f × AreFit s es
  IsFit s (plain.Member at a m) = IsFit s a × IsPlace a × (member_offset s.tags (type_in s a) m < 2 ^ 24)
  IsFit s (plain.Arrow at a m) = IsFit s a × (member_offset s.tags (pointee (value_type_in s a)) m < 2 ^ 24)
  IsFit s _ = Unit {0}

  pub AreFit : Scope → CExprs → Type 0
  AreFit s plain.NoExpr = Unit {0}
  AreFit s (plain.MoreExpr e es) = IsFit s e × AreFit s es
