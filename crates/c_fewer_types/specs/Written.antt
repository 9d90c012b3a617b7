-- Types that a text can write, by the tags that are declared.
use Rattle.std.specs.Prelude.{◌≡◌, ℕ, ◌+◌, ◌^◌, ◌≤◌, ◌⊎◌, true, is_some, List, length, Option, Some}
use Rattle.c_syntax.specs.Plain as plain
use Rattle.c_syntax.specs.Plain.{CExpr, CExprs}
use Rattle.c_syntax.specs.Words.{meaning}
use Rattle.c_types.specs.Types.{CType, CTypes, Null, Struct, Pointer, Array, Function, NoType, MoreType, is_scalar, is_object_type, Members, Tags}
use Rattle.c_types.specs.Scope.{Scope, Entity, Object, Routine, BuiltIn, entity_of}
use Rattle.c_types.specs.Operands.{Operand, Other}
use Rattle.c_types.specs.Expressions.{is_result_type}

abbrev mutual
  -- all but the type of `NULL`: its tags are declared, its arrays have elements that are objects, of a length up to 2^22 or left open, and its functions have parameters of one word
  pub CanBeWritten : Tags → CType → Type 0
  CanBeWritten tags Null = ⊥
  CanBeWritten tags (Struct tag) = is_some (meaning tags tag) ≡ true
  CanBeWritten tags (Pointer t) = CanBeWritten tags t
  CanBeWritten tags (Array t n) = (is_object_type tags t ≡ true) × (n ≤ 2 ^ 22) × CanBeWritten tags t
  CanBeWritten tags (Function t ts) = (is_result_type t ≡ true) × CanBeWritten tags t × AreParameters tags ts
  CanBeWritten tags t = Unit {0}

  pub AreParameters : Tags → CTypes → Type 0
  AreParameters tags NoType = Unit {0}
  AreParameters tags (MoreType t ts) = (is_scalar t ≡ true) × CanBeWritten tags t × AreParameters tags ts

-- the type of what a name stands for
abbrev pub EntityCanBeWritten : Tags → Option Entity → Type 0
EntityCanBeWritten tags (Some (Object t)) = CanBeWritten tags t
EntityCanBeWritten tags (Some (Routine t begun)) = CanBeWritten tags t
EntityCanBeWritten tags (Some (BuiltIn t)) = CanBeWritten tags t
EntityCanBeWritten tags _ = Unit {0}

-- the types of a scope's names and of its structs' members can be written
pub record ScopeCanBeWritten (s : Scope) : Type 0 where
  pub names : (name : List ℕ) → EntityCanBeWritten s.tags (entity_of s name)
  pub members : (tag : List ℕ) (members : List (List ℕ × CType)) (words : ℕ) (name : List ℕ) (t : CType) → meaning s.tags tag ≡ Some (Members members words) → meaning members name ≡ Some t → CanBeWritten s.tags t

-- an operand's type can, or it is a value of the type of `NULL`
abbrev pub OperandCanBeWritten : Tags → Operand → Type 0
OperandCanBeWritten tags a = CanBeWritten tags a.ty ⊎ ((a.ty ≡ Null) × (a.sort ≡ Other))

abbrev mutual
  -- string literals with their zeros have at most 2^22 characters
  pub StringsAreShort : CExpr → Type 0
  StringsAreShort (plain.Number at n unsigned) = Unit {0}
  StringsAreShort (plain.Str at text) = length text + 1 ≤ 2 ^ 22
  StringsAreShort (plain.Null at) = Unit {0}
  StringsAreShort (plain.Var at name) = Unit {0}
  StringsAreShort (plain.Unary at op a) = StringsAreShort a
  StringsAreShort (plain.Step at op a) = StringsAreShort a
  StringsAreShort (plain.Binary at op a b) = StringsAreShort a × StringsAreShort b
  StringsAreShort (plain.Assign at op a b) = StringsAreShort a × StringsAreShort b
  StringsAreShort (plain.Cond at a b c) = StringsAreShort a × StringsAreShort b × StringsAreShort c
  StringsAreShort (plain.Comma at a b) = StringsAreShort a × StringsAreShort b
  StringsAreShort (plain.Cast at t a) = StringsAreShort a
  StringsAreShort (plain.SizeTy at t) = Unit {0}
  StringsAreShort (plain.SizeOf at a) = Unit {0}
  StringsAreShort (plain.Index at a b) = StringsAreShort a × StringsAreShort b
  StringsAreShort (plain.Call at f es) = StringsAreShort f × EachStringIsShort es
  StringsAreShort (plain.Member at a m) = StringsAreShort a
  StringsAreShort (plain.Arrow at a m) = StringsAreShort a

  pub EachStringIsShort : CExprs → Type 0
  EachStringIsShort plain.NoExpr = Unit {0}
  EachStringIsShort (plain.MoreExpr e es) = StringsAreShort e × EachStringIsShort es
