-- Expressions that keep what they do with fewer operators.
use Rattle.std.specs.Prelude.{ℕ, ◌<◌, ◌^◌, List, Some, None}
use Rattle.c_syntax.specs.Plain as plain
use Rattle.c_syntax.specs.Plain.{CExpr, CExprs}
use Rattle.c_types.specs.Types.{CType, Tags}
use Rattle.c_types.specs.Scope.{Scope}
use Rattle.c_eval.specs.State.{Value, State}
use Rattle.c_eval.specs.Operators.{element_words}
use Rattle.c_eval.specs.Environment.{type_in, value_type_in}
use Rattle.c_eval.specs.Eval.{World}
use Rattle.c_valid.specs.Valid.{AreBytes, AreValid, IsValid, StateIsValid, IsKept}

-- what a part of a text is evaluated with keeps values valid: its input is bytes, and from each valid state its calls with valid values lead to one
pub record StaysValid (w : World) : Type 0 where
  pub input : AreBytes w.input
  pub calls : (name : List ℕ) (vs : List Value) (st : State) → AreValid vs → StateIsValid st → IsKept IsValid (w.calls name vs st)

-- an element has fewer words than the least int below zero counts
abbrev pub IsSmall : Tags → CType → Type 0
IsSmall tags t = element_words tags t < 2 ^ 23

-- an expression whose elements are small
abbrev mutual
  pub IsOrdinary : Scope → CExpr → Type 0
  IsOrdinary s (plain.Number at n unsigned) = Unit {0}
  IsOrdinary s (plain.Str at text) = Unit {0}
  IsOrdinary s (plain.Null at) = Unit {0}
  IsOrdinary s (plain.Var at name) = Unit {0}
  IsOrdinary s (plain.Unary at op a) = IsOrdinary s a
  IsOrdinary s (plain.Step at op a) = IsSmall s.tags (type_in s a) × IsOrdinary s a
  IsOrdinary s (plain.Binary at op a b) = IsSmall s.tags (value_type_in s a) × IsSmall s.tags (value_type_in s b) × IsOrdinary s a × IsOrdinary s b
  IsOrdinary s (plain.Assign at None a b) = IsOrdinary s a × IsOrdinary s b
  IsOrdinary s (plain.Assign at (Some op) a b) = IsSmall s.tags (type_in s a) × IsOrdinary s a × IsOrdinary s b
  IsOrdinary s (plain.Cond at a b c) = IsOrdinary s a × IsOrdinary s b × IsOrdinary s c
  IsOrdinary s (plain.Comma at a b) = IsOrdinary s a × IsOrdinary s b
  IsOrdinary s (plain.Cast at t a) = IsOrdinary s a
  IsOrdinary s (plain.SizeTy at t) = Unit {0}
  IsOrdinary s (plain.SizeOf at a) = Unit {0}
  IsOrdinary s (plain.Index at a b) = IsSmall s.tags (value_type_in s a) × IsSmall s.tags (value_type_in s b) × IsOrdinary s a × IsOrdinary s b
  IsOrdinary s (plain.Call at f es) = IsOrdinary s f × AreOrdinary s es
  IsOrdinary s (plain.Member at a m) = IsOrdinary s a
  IsOrdinary s (plain.Arrow at a m) = IsOrdinary s a

  pub AreOrdinary : Scope → CExprs → Type 0
  AreOrdinary s plain.NoExpr = Unit {0}
  AreOrdinary s (plain.MoreExpr e es) = IsOrdinary s e × AreOrdinary s es
