-- What the class of a type says of its kind and of operators.
use Rattle.std.proofs.Common.{◌≡◌, ℕ, Bool, true, ◌&&◌, ◌||◌, refl, sym, ap, ◌∙◌, if◌then◌else◌}
use Rattle.c_syntax.specs.declared.tree.BinOp.{BinOp}
use Rattle.c_syntax.specs.declared.tree.BinOp.TheVariants as binary
use Rattle.c_types.specs.Types as types
use Rattle.c_types.specs.Types.{CType, Tags, is_pointer, is_null, is_unsigned, is_function_pointer}
use Rattle.c_eval.specs.Operators.{element_words}
use Rattle.c_store.specs.declared.kind.Kind.{Kind}
use Rattle.c_store.specs.declared.kind.Kind.TheVariants as kind
use Rattle.c_plain.specs.declared.instruction.Fetch.TheVariants as fetch
use Rattle.c_plain.specs.declared.instruction.Operation.{Operation}
use Rattle.c_plain.specs.declared.instruction.Operation.TheVariants as operation
use Rattle.c_operands.specs.declared.class.Class.{Class}
use Rattle.c_operands.specs.declared.class.Class.TheVariants as class
use Rattle.c_operands.specs.Classes.{class_of, type_class, pointer_class, pointer, unsigned, null_type, function_pointer}
use Rattle.c_operands.proofs.ClassLemmas.{class_says}
use Rattle.c_resolved.specs.Resolved.{kind_of, fetch_of, follow_of, compared_kind, words_operation, sum_operation, difference_operation, equality_operation, order_operation, operation_of}
use Rattle.c_kinds.specs.declared.side.Side.{Side}
use Rattle.c_kinds.specs.Sides.{kind_by, fetch_by, IsSide, words_by, sum_by, difference_by, compared_by, equality_by, order_by}

kind_tests : (c : Class) → kind_by c ≡ (if function_pointer c then kind.FunctionPointer else if pointer c || null_type c then kind.ObjectPointer else kind.Number)
kind_tests class.Signed = refl
kind_tests class.Unsigned = refl
kind_tests class.Void = refl
kind_tests class.Null = refl
kind_tests class.Struct = refl
kind_tests class.Array = refl
kind_tests class.Function = refl
kind_tests class.VoidPointer = refl
kind_tests class.FunctionPointer = refl
kind_tests class.ObjectPointer = refl

-- the kind that a type's class tells
pub kind_is : (t : CType) → kind_by (class_of t) ≡ kind_of t
kind_is t =
    let says = class_says t in
    kind_tests (class_of t)
    ∙ (ap (λ (b : Bool). if b then kind.FunctionPointer else if pointer (class_of t) || null_type (class_of t) then kind.ObjectPointer else kind.Number) (sym says.function_pointer)
    ∙ (ap (λ (b : Bool). if is_function_pointer t then kind.FunctionPointer else if b || null_type (class_of t) then kind.ObjectPointer else kind.Number) (sym says.pointer)
    ∙ ap (λ (b : Bool). if is_function_pointer t then kind.FunctionPointer else if is_pointer t || b then kind.ObjectPointer else kind.Number) (sym says.null)))

pointer_fetch : (c : Class) → pointer c ≡ true → fetch_by c ≡ fetch.Cell (kind_by c)
pointer_fetch class.VoidPointer e = refl
pointer_fetch class.FunctionPointer e = refl
pointer_fetch class.ObjectPointer e = refl
pointer_fetch class.Signed e = cc
pointer_fetch class.Unsigned e = cc
pointer_fetch class.Void e = cc
pointer_fetch class.Null e = cc
pointer_fetch class.Struct e = cc
pointer_fetch class.Array e = cc
pointer_fetch class.Function e = cc

-- what a place is worth, by its type's class
pub fetch_is : (t : CType) → fetch_by (class_of t) ≡ fetch_of t
fetch_is types.Void = refl
fetch_is types.Int = refl
fetch_is types.Unsigned = refl
fetch_is types.Char = refl
fetch_is types.UChar = refl
fetch_is types.Null = refl
fetch_is (types.Struct tag) = refl
fetch_is (types.Pointer u) = pointer_fetch (class_of (types.Pointer u)) (sym (class_says (types.Pointer u)).pointer) ∙ ap fetch.Cell (kind_is (types.Pointer u))
fetch_is (types.Array u n) = refl
fetch_is (types.Function u us) = refl

-- a pointer to a function gives itself
pub function_followed : (u : CType) → class_of u ≡ class.Function → fetch.Place ≡ follow_of (types.Pointer u)
function_followed (types.Function v vs) e = refl
function_followed (types.Pointer v) e = absurd (no (type_class v) e) where
  no : (c : Class) → pointer_class c ≡ class.Function → ⊥
  no class.Void f = cc
  no class.Function f = cc
  no class.Signed f = cc
  no class.Unsigned f = cc
  no class.Null f = cc
  no class.Struct f = cc
  no class.Array f = cc
  no class.VoidPointer f = cc
  no class.FunctionPointer f = cc
  no class.ObjectPointer f = cc
function_followed types.Void e = cc
function_followed types.Int e = cc
function_followed types.Unsigned e = cc
function_followed types.Char e = cc
function_followed types.UChar e = cc
function_followed types.Null e = cc
function_followed (types.Struct tag) e = cc
function_followed (types.Array v n) e = cc

-- any other pointer gives what is at its place
pub object_followed : (u : CType) → (class_of u ≡ class.Function → ⊥) → fetch_of u ≡ follow_of (types.Pointer u)
object_followed (types.Function v vs) h = absurd (h refl)
object_followed types.Void h = refl
object_followed u h = refl

-- ---- operators

-- any other operator is one on words
pub words_else : (tags : Tags) (t u : CType) (op : BinOp) → (op ≡ binary.Add → ⊥) → (op ≡ binary.Sub → ⊥) → (op ≡ binary.Eq → ⊥) → (op ≡ binary.Ne → ⊥) → (op ≡ binary.Lt → ⊥) → (op ≡ binary.Gt → ⊥) → (op ≡ binary.Le → ⊥) → (op ≡ binary.Ge → ⊥)
    → words_operation op t u ≡ operation_of tags op t u
words_else tags t u binary.Add a b c d e f g h = absurd (a refl)
words_else tags t u binary.Sub a b c d e f g h = absurd (b refl)
words_else tags t u binary.Eq a b c d e f g h = absurd (c refl)
words_else tags t u binary.Ne a b c d e f g h = absurd (d refl)
words_else tags t u binary.Lt a b c d e f g h = absurd (e refl)
words_else tags t u binary.Gt a b c d e f g h = absurd (f refl)
words_else tags t u binary.Le a b c d e f g h = absurd (g refl)
words_else tags t u binary.Ge a b c d e f g h = absurd (h refl)
words_else tags t u op a b c d e f g h = refl

module _ (tags : Tags) (a b : Side) (t u : CType) (p : IsSide tags a t) (q : IsSide tags b u) where
  left_pointer : pointer a.class ≡ is_pointer t
  left_pointer = ap pointer p.class ∙ sym (class_says t).pointer

  right_pointer : pointer b.class ≡ is_pointer u
  right_pointer = ap pointer q.class ∙ sym (class_says u).pointer

  left_unsigned : unsigned a.class ≡ is_unsigned t
  left_unsigned = ap unsigned p.class ∙ sym (class_says t).unsigned

  right_unsigned : unsigned b.class ≡ is_unsigned u
  right_unsigned = ap unsigned q.class ∙ sym (class_says u).unsigned

  pub words_are : (op : BinOp) → words_by op a b ≡ words_operation op t u
  words_are op =
      ap (λ (x : Bool). operation.Words op x (x || unsigned b.class)) left_unsigned ∙ ap (λ (x : Bool). operation.Words op (is_unsigned t) (is_unsigned t || x)) right_unsigned

  pub sum_is : sum_by a b ≡ sum_operation tags t u
  sum_is =
      ap (λ (x : Bool). if x then operation.PointerPlus (unsigned b.class) a.words else if pointer b.class then operation.PlusPointer (unsigned a.class) b.words else words_by binary.Add a b) left_pointer
      ∙ (ap (λ (x : Bool). if is_pointer t then operation.PointerPlus (unsigned b.class) a.words else if x then operation.PlusPointer (unsigned a.class) b.words else words_by binary.Add a b) right_pointer
      ∙ (ap (λ (o : Operation). if is_pointer t then operation.PointerPlus (unsigned b.class) a.words else if is_pointer u then operation.PlusPointer (unsigned a.class) b.words else o) (words_are binary.Add)
      ∙ (ap (λ (x : Bool). if is_pointer t then operation.PointerPlus x a.words else if is_pointer u then operation.PlusPointer (unsigned a.class) b.words else words_operation binary.Add t u) right_unsigned
      ∙ (ap (λ (n : ℕ). if is_pointer t then operation.PointerPlus (is_unsigned u) n else if is_pointer u then operation.PlusPointer (unsigned a.class) b.words else words_operation binary.Add t u) p.words
      ∙ (ap (λ (x : Bool). if is_pointer t then operation.PointerPlus (is_unsigned u) (element_words tags t) else if is_pointer u then operation.PlusPointer x b.words else words_operation binary.Add t u) left_unsigned
      ∙ ap (λ (n : ℕ). if is_pointer t then operation.PointerPlus (is_unsigned u) (element_words tags t) else if is_pointer u then operation.PlusPointer (is_unsigned t) n else words_operation binary.Add t u) q.words)))))

  pub difference_is : difference_by a b ≡ difference_operation tags t u
  difference_is =
      ap (λ (x : Bool). if x && pointer b.class then operation.Difference a.words else if x then operation.PointerLess (unsigned b.class) a.words else words_by binary.Sub a b) left_pointer
      ∙ (ap (λ (x : Bool). if is_pointer t && x then operation.Difference a.words else if is_pointer t then operation.PointerLess (unsigned b.class) a.words else words_by binary.Sub a b) right_pointer
      ∙ (ap (λ (o : Operation). if is_pointer t && is_pointer u then operation.Difference a.words else if is_pointer t then operation.PointerLess (unsigned b.class) a.words else o) (words_are binary.Sub)
      ∙ (ap (λ (n : ℕ). if is_pointer t && is_pointer u then operation.Difference n else if is_pointer t then operation.PointerLess (unsigned b.class) n else words_operation binary.Sub t u) p.words
      ∙ ap (λ (x : Bool). if is_pointer t && is_pointer u then operation.Difference (element_words tags t) else if is_pointer t then operation.PointerLess x (element_words tags t) else words_operation binary.Sub t u) right_unsigned)))
