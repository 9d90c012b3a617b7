-- Kinds and operators by the classes of types.
use Rattle.std.specs.Prelude.{◌≡◌, Bool, ◌&&◌, ◌||◌, if◌then◌else◌}
use Rattle.c_syntax.specs.declared.tree.BinOp.{BinOp}
use Rattle.c_syntax.specs.declared.tree.BinOp.TheVariants as binary
use Rattle.c_types.specs.Types.{CType, Tags}
use Rattle.c_eval.specs.Operators.{element_words}
use Rattle.c_store.specs.declared.kind.Kind.{Kind}
use Rattle.c_store.specs.declared.kind.Kind.TheVariants as kind
use Rattle.c_plain.specs.declared.instruction.Fetch.{Fetch}
use Rattle.c_plain.specs.declared.instruction.Fetch.TheVariants as fetch
use Rattle.c_plain.specs.declared.instruction.Operation.{Operation}
use Rattle.c_plain.specs.declared.instruction.Operation.TheVariants as operation
use Rattle.c_operands.specs.declared.class.Class.{Class}
use Rattle.c_operands.specs.declared.class.Class.TheVariants.{Struct, Array, Null, VoidPointer, FunctionPointer, ObjectPointer}
use Rattle.c_operands.specs.Classes.{class_of, pointer, unsigned, null_type}
use Rattle.c_kinds.specs.declared.side.Side.{Side}

abbrev pub kind_by : Class → Kind
kind_by FunctionPointer = kind.FunctionPointer
kind_by VoidPointer = kind.ObjectPointer
kind_by ObjectPointer = kind.ObjectPointer
kind_by Null = kind.ObjectPointer
kind_by _ = kind.Number

abbrev pub fetch_by : Class → Fetch
fetch_by Array = fetch.Place
fetch_by Struct = fetch.Nothing
fetch_by c = fetch.Cell (kind_by c)

-- a side has this type
pub record IsSide (tags : Tags) (s : Side) (t : CType) : Type 0 where
  pub class : s.class ≡ class_of t
  pub words : s.words ≡ element_words tags t

abbrev pub words_by : BinOp → Side → Side → Operation
words_by op a b = operation.Words op (unsigned a.class) (unsigned a.class || unsigned b.class)

abbrev pub sum_by : Side → Side → Operation
sum_by a b =
    if pointer a.class then operation.PointerPlus (unsigned b.class) a.words
    else if pointer b.class then operation.PlusPointer (unsigned a.class) b.words
    else words_by binary.Add a b

abbrev pub difference_by : Side → Side → Operation
difference_by a b =
    if pointer a.class && pointer b.class then operation.Difference a.words
    else if pointer a.class then operation.PointerLess (unsigned b.class) a.words
    else words_by binary.Sub a b

abbrev pub compared_by : Side → Side → Kind
compared_by a b = if pointer a.class then kind_by a.class else if pointer b.class then kind_by b.class else kind.ObjectPointer

abbrev pub equality_by : BinOp → Side → Side → Bool → Operation
equality_by op a b negated = if pointer a.class || pointer b.class || null_type a.class || null_type b.class then operation.Equal (compared_by a b) negated else words_by op a b

abbrev pub order_by : BinOp → Side → Side → (swapped negated : Bool) → Operation
order_by op a b swapped negated = if pointer a.class then operation.Before swapped negated else words_by op a b
