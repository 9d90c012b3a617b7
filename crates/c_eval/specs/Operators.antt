-- What the operators do with values, by the types of their operands.
use Rattle.std.specs.Prelude.{ℕ, Bool, true, false, not, ◌&&◌, ◌||◌, ◌==◌, List, ◌∷◌, pos, ◌*ℤ◌, neg_ℤ, if◌then◌else◌}
use Rattle.c_syntax.specs.declared.tree.UnOp.{UnOp}
use Rattle.c_syntax.specs.declared.tree.BinOp.{BinOp}
use Rattle.c_syntax.specs.declared.tree.BinOp.TheVariants as binary
use Rattle.c_types.specs.Types.{CType, CTypes, MoreType, Pointer, Array, Struct, Function, is_pointer, is_null, is_unsigned, Tags, words_of}
use Rattle.c_types.specs.Constants.{Constant, NotConstant, Undefined, Value, counted, wrapped, truth, unary_constant, binary_value}
use Rattle.c_eval.specs.State as value
use Rattle.c_eval.specs.State.{ZeroDivisor, OutsideObject, OtherKind, ShiftCount, NoResult, HelperLimit, Run}
use Rattle.c_eval.specs.Run.{◌>>=◌, give, undefined, choose}
use Rattle.c_eval.specs.Memory.{Kind, ObjectPointer, kind_of, load, store, moved, equal_pointers, pointer_before, pointer_difference}

-- the use of a value: a function that gave no result has none
unfoldable pub used : value.Value → Run value.Value
used value.Missing = undefined NoResult
used v = give v

-- the word of a value that has to be one
unfoldable pub of_word : {A : Type 0} → value.Value → (ℕ → Run A) → Run A
of_word (value.Word n) f = f n
of_word _ f = undefined OtherKind

-- a word is true where it isn't 0, a pointer where it isn't null
abbrev pub is_true : value.Value → Bool
is_true (value.Word n) = not (n == 0)
is_true value.Null = false
is_true _ = true

-- what is true is 1, else 0
abbrev pub truth_value : Bool → value.Value
truth_value b = value.Word (truth b)

-- the word 0 becomes null where it is used as a pointer
abbrev pub as_pointer : value.Value → value.Value
as_pointer (value.Word n) = if n == 0 then value.Null else value.Word n
as_pointer v = v

-- a value converts to a type; words stay as they are among arithmetic types
abbrev pub converted : CType → value.Value → value.Value
converted t v = if is_pointer t || is_null t then as_pointer v else v

-- each argument converts to its parameter's type
abbrev pub all_converted : CTypes → List value.Value → List value.Value
all_converted (MoreType t ts) (v ∷ vs) = converted t v ∷ all_converted ts vs
all_converted _ vs = vs

-- ---- arithmetic

-- why an operator on two words is undefined
unfoldable pub word_act : BinOp → Run value.Value
word_act binary.Div = undefined ZeroDivisor
word_act binary.Mod = undefined ZeroDivisor
word_act binary.Shl = undefined ShiftCount
word_act binary.Shr = undefined ShiftCount
word_act op = undefined OtherKind

-- what an operator on words comes to
unfoldable pub word_result : BinOp → Constant → Run value.Value
word_result op (Value n) = give (value.Word n)
word_result op (Undefined at) = word_act op
word_result op NotConstant = undefined OtherKind

-- an operator on two words of these types: arithmetic wraps, division truncates toward zero, and what is unsigned counts so
unfoldable pub on_words : BinOp → CType → CType → value.Value → value.Value → Run value.Value
on_words op t u x y =
    of_word x (λ m. of_word y (λ n. word_result op (binary_value 0 op (is_unsigned t) (is_unsigned t || is_unsigned u) m n)))

-- the words of the elements to which a pointer of a type points
abbrev pub element_words : Tags → CType → ℕ
element_words tags (Pointer t) = words_of tags t
element_words tags _ = 1

-- a pointer moves by a number of its elements
unfoldable pub pointer_sum : Tags → CType → CType → value.Value → value.Value → Run value.Value
pointer_sum tags t u p y = of_word y (λ n. moved p (counted (is_unsigned u) n *ℤ pos (element_words tags t)))

-- and back by a number of them
unfoldable pub pointer_less : Tags → CType → CType → value.Value → value.Value → Run value.Value
pointer_less tags t u p y = of_word y (λ n. moved p (neg_ℤ (counted (is_unsigned u) n *ℤ pos (element_words tags t))))

-- a sum is one of a pointer and a number, in either order, or of numbers
unfoldable pub sum : Tags → CType → CType → value.Value → value.Value → Run value.Value
sum tags t u x y =
    if is_pointer t then pointer_sum tags t u x y
    else if is_pointer u then pointer_sum tags u t y x
    else on_words binary.Add t u x y

-- a difference is one of pointers, of a pointer and a number, or of numbers
unfoldable pub difference : Tags → CType → CType → value.Value → value.Value → Run value.Value
difference tags t u x y =
    if is_pointer t && is_pointer u then (pointer_difference (element_words tags t) x y >>= λ z. give (value.Word (wrapped z)))
    else if is_pointer t then pointer_less tags t u x y
    else on_words binary.Sub t u x y

-- the kind of pointers that are compared: of null constants alone no type tells one, and each serves
abbrev pub compared_kind : CType → CType → Kind
compared_kind t u = if is_pointer t then kind_of t else if is_pointer u then kind_of u else ObjectPointer

-- `==` and `!=` compare pointers or words
unfoldable pub equality : BinOp → CType → CType → value.Value → value.Value → (Bool → Bool) → Run value.Value
equality op t u x y f =
    if is_pointer t || is_pointer u || is_null t || is_null u
    then (equal_pointers (compared_kind t u) (as_pointer x) (as_pointer y) >>= λ b. give (truth_value (f b)))
    else on_words op t u x y

-- `<` and its kin do too
unfoldable pub order : BinOp → CType → CType → value.Value → value.Value → Run Bool → (Bool → Bool) → Run value.Value
order op t u x y before f = if is_pointer t then (before >>= λ b. give (truth_value (f b))) else on_words op t u x y

-- a binary operator other than `&&` and `||`
unfoldable pub operated : Tags → BinOp → CType → CType → value.Value → value.Value → Run value.Value
operated tags binary.Add t u x y = sum tags t u x y
operated tags binary.Sub t u x y = difference tags t u x y
operated tags binary.Eq t u x y = equality binary.Eq t u x y (λ b. b)
operated tags binary.Ne t u x y = equality binary.Ne t u x y not
operated tags binary.Lt t u x y = order binary.Lt t u x y (pointer_before x y) (λ b. b)
operated tags binary.Gt t u x y = order binary.Gt t u x y (pointer_before y x) (λ b. b)
operated tags binary.Le t u x y = order binary.Le t u x y (pointer_before y x) not
operated tags binary.Ge t u x y = order binary.Ge t u x y (pointer_before x y) not
operated tags op t u x y = on_words op t u x y

-- the right side of `&&` and `||` is evaluated only where the left one doesn't decide
unfoldable pub combined : Tags → BinOp → CType → CType → Run value.Value → Run value.Value → Run value.Value
combined tags binary.And t u a b = a >>= λ x. choose (is_true x) (b >>= λ y. give (truth_value (is_true y))) (give (value.Word 0))
combined tags binary.Or t u a b = a >>= λ x. choose (is_true x) (give (value.Word 1)) (b >>= λ y. give (truth_value (is_true y)))
combined tags op t u a b = a >>= λ x. b >>= λ y. operated tags op t u x y

-- an operator on one word
unfoldable pub on_word : UnOp → value.Value → Run value.Value
on_word op x = of_word x (λ n. word_result binary.Add (unary_constant op (Value n)))

-- ---- places

-- no helper function makes a pointer of a place, since its own objects go away
unfoldable pub pointer_to : (inner : Bool) → value.Value → Run value.Value
pointer_to false p = give p
pointer_to true p = undefined HelperLimit

-- what a place of a type is worth: an array is a pointer to its first element, a struct has no value of its own
unfoldable pub value_at : (inner : Bool) → CType → value.Value → Run value.Value
value_at inner (Array t n) p = pointer_to inner p
value_at inner (Struct tag) p = give value.Missing
value_at inner t p = load (kind_of t) p

-- what a pointer of a type points to; a function pointer gives itself
unfoldable pub pointed_value : (inner : Bool) → CType → value.Value → Run value.Value
pointed_value inner (Pointer (Function t ts)) p = give p
pointed_value inner (Pointer t) p = value_at inner t p
pointed_value inner t p = undefined OtherKind

-- a value converts to a place's type and is written there
unfoldable pub assigned : CType → value.Value → value.Value → Run value.Value
assigned t p v = store (kind_of t) p (converted t v)

-- a compound assignment reads the old value once the right side is known
unfoldable pub updated : Tags → BinOp → CType → CType → value.Value → value.Value → Run value.Value
updated tags op t u p y = load (kind_of t) p >>= λ x. operated tags op t u x y >>= λ v. assigned t p v
