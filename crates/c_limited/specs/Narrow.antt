-- Types of which no part has more words than an object may have.
use Rattle.std.specs.Prelude.{◌≡◌, ℕ, ◌+◌, ◌≤◌, IfOk, List, length, Option, Some}
use Rattle.c_syntax.specs.Plain as plain
use Rattle.c_syntax.specs.Plain.{CExpr, CExprs}
use Rattle.c_syntax.specs.Words.{meaning}
use Rattle.c_types.specs.Types.{CType, Members, Tags}
use Rattle.c_types.specs.Limits.{most_words, wide_types}
use Rattle.c_types.specs.Scope.{Scope, Entity, Object, Routine, BuiltIn, entity_of}
use Rattle.c_types.specs.Expressions.{written}

abbrev pub IsNarrow : Tags → CType → Type 0
IsNarrow tags t = wide_types tags t ≡ 0

abbrev pub EntityIsNarrow : Tags → Option Entity → Type 0
EntityIsNarrow tags (Some (Object t)) = IsNarrow tags t
EntityIsNarrow tags (Some (Routine t begun)) = IsNarrow tags t
EntityIsNarrow tags (Some (BuiltIn t)) = IsNarrow tags t
EntityIsNarrow tags _ = Unit {0}

-- the types of a scope's names and of its structs' members
pub record ScopeIsNarrow (s : Scope) : Type 0 where
  pub names : (name : List ℕ) → EntityIsNarrow s.tags (entity_of s name)
  pub members : (tag : List ℕ) (members : List (List ℕ × CType)) (words : ℕ) (name : List ℕ) (t : CType) → meaning s.tags tag ≡ Some (Members members words) → meaning members name ≡ Some t → IsNarrow s.tags t

-- the types that an expression writes in casts, and its string literals with their zeros
abbrev mutual
  pub WritesNarrow : Scope → CExpr → Type 0
  WritesNarrow s (plain.Number at n unsigned) = Unit {0}
  WritesNarrow s (plain.Str at text) = length text + 1 ≤ most_words
  WritesNarrow s (plain.Null at) = Unit {0}
  WritesNarrow s (plain.Var at name) = Unit {0}
  WritesNarrow s (plain.Unary at op a) = WritesNarrow s a
  WritesNarrow s (plain.Step at op a) = WritesNarrow s a
  WritesNarrow s (plain.Binary at op a b) = WritesNarrow s a × WritesNarrow s b
  WritesNarrow s (plain.Assign at op a b) = WritesNarrow s a × WritesNarrow s b
  WritesNarrow s (plain.Cond at a b c) = WritesNarrow s a × WritesNarrow s b × WritesNarrow s c
  WritesNarrow s (plain.Comma at a b) = WritesNarrow s a × WritesNarrow s b
  WritesNarrow s (plain.Cast at t a) = IfOk (written s at t) (IsNarrow s.tags) × WritesNarrow s a
  WritesNarrow s (plain.SizeTy at t) = Unit {0}
  WritesNarrow s (plain.SizeOf at a) = Unit {0}
  WritesNarrow s (plain.Index at a b) = WritesNarrow s a × WritesNarrow s b
  WritesNarrow s (plain.Call at f es) = WritesNarrow s f × EachWritesNarrow s es
  WritesNarrow s (plain.Member at a m) = WritesNarrow s a
  WritesNarrow s (plain.Arrow at a m) = WritesNarrow s a

  pub EachWritesNarrow : Scope → CExprs → Type 0
  EachWritesNarrow s plain.NoExpr = Unit {0}
  EachWritesNarrow s (plain.MoreExpr e es) = WritesNarrow s e × EachWritesNarrow s es
