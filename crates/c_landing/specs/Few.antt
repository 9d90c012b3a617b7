-- What is asked of an expression whose operators are few, and of what surrounds its code.
use Rattle.std.specs.Prelude.{◌≡◌, ℕ, ◌+◌, ◌^◌, ◌<◌, ◌≤◌, Bool, true, false, List, length, Option, Some, ◌&&◌, ◌==◌, None, slice_get, drop, if◌then◌else◌}
use Rattle.std.specs.Option.{option_map_or}
use Rattle.std.specs.Str.{bytes_eq}
use Rattle.c_syntax.specs.Plain as plain
use Rattle.c_syntax.specs.Plain.{CExpr}
use Rattle.c_syntax.specs.declared.tree.UnOp.{UnOp}
use Rattle.c_syntax.specs.declared.tree.UnOp.TheVariants as unary
use Rattle.c_syntax.specs.declared.tree.BinOp.{BinOp}
use Rattle.c_syntax.specs.declared.tree.BinOp.TheVariants as binary
use Rattle.c_types.specs.Types.{CType, Function, is_pointer, Tags}
use Rattle.c_types.specs.Operands.{conversions_of}
use Rattle.c_types.specs.Scope.{Scope, Entity, Object, entity_of}
use Rattle.c_eval.specs.Memory.{same_owner}
use Rattle.c_eval.specs.Operators.{element_words}
use Rattle.c_eval.specs.Environment.{type_in, value_type_in}
use Rattle.c_eval.specs.Eval.{World}
use Rattle.c_helpers.specs.Meanings.{is_format}
use Rattle.c_memory.specs.Lies.{Whole, Ground}
use Rattle.c_landing.specs.Landing.{Setting}

-- ---- frames in frames

-- the function of a format has its frame in its caller's, behind the arguments: the place to go back to, its parameters and 6 words; each other one has a frame of its own
abbrev pub words_there : List ℕ → ℕ
words_there name = if is_format name then 7 + option_map_or length (conversions_of (drop 7 name)) 0 else 0

-- ---- what surrounds the code

-- a part of a text is evaluated where its code runs
pub record Agrees (S : Setting) (w : World) : Type 0 where
  pub input : w.input ≡ S.input
  pub owner : w.owner ≡ S.linking.owner
  -- pointers of functions that are no helper functions reach all objects
  pub reach : w.inner ≡ false → S.ground.reach ≡ Whole
  pub entries : (name : List ℕ) → S.ground.entry name ≡ S.linking.entry name
  pub blocks : (name : List ℕ) → S.ground.entry name < 2 ^ 24
  -- a function to which pointers point has a first block, and a frame of its own
  pub stands : (name : List ℕ) → S.ground.valued name ≡ true → 1 ≤ S.ground.entry name
  pub own : (name : List ℕ) → S.ground.valued name ≡ true → words_there name ≡ 0
  -- two functions with first blocks don't begin with one
  pub functions_apart : (name other : List ℕ) → 1 ≤ S.ground.entry name → S.ground.entry name ≡ S.ground.entry other → bytes_eq name other ≡ true
  pub literals : (owner : Option (List ℕ)) (number : ℕ) → S.ground.literal owner number ≡ S.linking.literal owner number
  -- a literal stands behind null's word, and within the memory
  pub letters : (owner : Option (List ℕ)) (number : ℕ) (text : List ℕ) → S.ground.text owner number ≡ Some text → (1 ≤ S.ground.literal owner number) × (S.ground.literal owner number + (length text + 1) < 2 ^ 24)
  -- and two of them have no word in common
  pub letters_apart : (owner other : Option (List ℕ)) (i j : ℕ) (text more : List ℕ) (k l : ℕ) → S.ground.text owner i ≡ Some text → S.ground.text other j ≡ Some more → k ≤ length text → l ≤ length more → S.ground.literal owner i + k ≡ S.ground.literal other j + l
      → (same_owner owner other && i == j) ≡ true

-- these texts are those of a function's literals from a number on
abbrev pub LiteralsAre : Ground → Option (List ℕ) → List (List ℕ) → ℕ → Type 0
LiteralsAre g owner texts before = (j : ℕ) (text : List ℕ) → slice_get texts j ≡ Some text → g.text owner (before + j) ≡ Some text

-- ---- operators

-- a function whose value is used is one to which pointers point
abbrev pub NameIsFew : (valued : List ℕ → Bool) → List ℕ → Option Entity → Type 0
NameIsFew valued name (Some (Object t)) = Unit {0}
NameIsFew valued name _ = valued name ≡ true

-- a pointer that moves has elements of one word
abbrev pub IsNarrow : Tags → CType → Type 0
IsNarrow tags t = is_pointer t ≡ true → element_words tags t ≡ 1

-- so it is where an operator moves one
abbrev pub SidesAreNarrow : BinOp → Tags → CType → CType → Type 0
SidesAreNarrow binary.Add tags t u = IsNarrow tags t × IsNarrow tags u
SidesAreNarrow binary.Sub tags t u = IsNarrow tags t × IsNarrow tags u
SidesAreNarrow op tags t u = Unit {0}

-- and where an assignment does
abbrev pub UpdateIsNarrow : Option BinOp → Tags → CType → CType → Type 0
UpdateIsNarrow None tags t u = Unit {0}
UpdateIsNarrow (Some op) tags t u = IsNarrow tags t × IsNarrow tags u

-- a place has no function's type
abbrev pub IsObjectType : CType → Type 0
IsObjectType (Function t ts) = ⊥
IsObjectType t = Unit {0}

-- helper functions stand for the other operators
abbrev pub UnaryIsFew : UnOp → Type 0
UnaryIsFew unary.Invert = ⊥
UnaryIsFew op = Unit {0}

abbrev pub BinaryIsFew : BinOp → Type 0
BinaryIsFew binary.BitOr = ⊥
BinaryIsFew binary.BitXor = ⊥
BinaryIsFew binary.BitAnd = ⊥
BinaryIsFew binary.Shl = ⊥
BinaryIsFew binary.Shr = ⊥
BinaryIsFew binary.Mul = ⊥
BinaryIsFew binary.Div = ⊥
BinaryIsFew binary.Mod = ⊥
BinaryIsFew op = Unit {0}

-- and those that update a place
abbrev pub UpdateIsFew : Option BinOp → Type 0
UpdateIsFew None = Unit {0}
UpdateIsFew (Some binary.Add) = Unit {0}
UpdateIsFew (Some binary.Sub) = Unit {0}
UpdateIsFew _ = ⊥

-- ---- expressions

-- the operators of an expression are few, as desugaring leaves them; calls are told apart
abbrev pub IsFew : CExpr → (valued : List ℕ → Bool) → Scope → Type 0
IsFew (plain.Number at n unsigned) valued s = Unit {0}
IsFew (plain.Str at text) valued s = Unit {0}
IsFew (plain.Null at) valued s = Unit {0}
IsFew (plain.Var at name) valued s = NameIsFew valued name (entity_of s name)
IsFew (plain.Unary at op a) valued s = UnaryIsFew op × IsFew a valued s
IsFew (plain.Step at op a) valued s = IsNarrow s.tags (type_in s a) × IsFew a valued s
IsFew (plain.Binary at op a b) valued s = BinaryIsFew op × SidesAreNarrow op s.tags (value_type_in s a) (value_type_in s b) × IsFew a valued s × IsFew b valued s
IsFew (plain.Assign at op a b) valued s = UpdateIsFew op × UpdateIsNarrow op s.tags (type_in s a) (value_type_in s b) × IsFew a valued s × IsFew b valued s
IsFew (plain.Cond at a b c) valued s = IsFew a valued s × IsFew b valued s × IsFew c valued s
IsFew (plain.Comma at a b) valued s = IsFew a valued s × IsFew b valued s
IsFew (plain.Cast at t a) valued s = IsFew a valued s
IsFew (plain.SizeTy at t) valued s = ⊥
IsFew (plain.SizeOf at a) valued s = ⊥
IsFew (plain.Index at a b) valued s =
    IsNarrow s.tags (value_type_in s a) × IsNarrow s.tags (value_type_in s b) × IsObjectType (type_in s (plain.Index at a b)) × IsFew a valued s × IsFew b valued s
IsFew (plain.Call at f es) valued s = Unit {0}
IsFew (plain.Member at a m) valued s = IsObjectType (type_in s (plain.Member at a m)) × IsFew a valued s
IsFew (plain.Arrow at a m) valued s = IsObjectType (type_in s (plain.Arrow at a m)) × IsFew a valued s
