-- The operator that each helper function stands for, by the operators' own definitions.
use Rattle.std.specs.Prelude.{ℕ, Bool, true, false, List, [], ◌∷◌, ◌++◌, Option, Some, ◌*ℤ◌, if◌then◌else◌, codes, drop, take}
use Rattle.std.specs.Str.{bytes_eq}
use Rattle.word24.specs.Word.{signed_of}
use Rattle.c_syntax.specs.declared.tree.UnOp.TheVariants as unary
use Rattle.c_syntax.specs.declared.tree.BinOp.{BinOp}
use Rattle.c_syntax.specs.declared.tree.BinOp.TheVariants as binary
use Rattle.c_syntax.specs.Words.{meaning}
use Rattle.c_types.specs.Types.{CType, Int, Unsigned}
use Rattle.c_types.specs.Constants.{counted, wrapped}
use Rattle.c_eval.specs.State.{Value, Word, Missing, OtherKind, Run}
use Rattle.c_eval.specs.Run.{◌>>=◌, give, undefined, paid, put}
use Rattle.c_eval.specs.Memory.{Number, ObjectPointer, load, store, moved, pointer_difference}
use Rattle.c_eval.specs.Operators.{of_word, on_word, on_words}
use Rattle.c_eval.specs.BuiltIns.{put_string_at, printf}
use Rattle.c_eval.specs.Helpers.{refill}
use Rattle.c_helpers.specs.Functions.{unit_name, refill_name, piece_name}

-- what a call does with its arguments
abbrev pub Action : Type 0
Action = List Value → Run Value

unfoldable pub of_one : (Value → Run Value) → Action
of_one f (x ∷ []) = f x
of_one f _ = undefined OtherKind

unfoldable pub of_two : (Value → Value → Run Value) → Action
of_two f (x ∷ y ∷ []) = f x y
of_two f _ = undefined OtherKind

unfoldable pub of_three : (Value → Value → Value → Run Value) → Action
of_three f (x ∷ y ∷ z ∷ []) = f x y z
of_three f _ = undefined OtherKind

-- as int or as unsigned
abbrev pub counting : Bool → CType
counting unsigned = if unsigned then Unsigned else Int

-- an operator on two words that count so
abbrev pub operator : BinOp → Bool → Action
operator op unsigned = of_two (on_words op (counting unsigned) (counting unsigned))

-- what p points to becomes what an operator makes of it and y
unfoldable pub updating : BinOp → Bool → Value → Value → Run Value
updating op unsigned p y = load Number p >>= λ x. on_words op (counting unsigned) (counting unsigned) x y >>= λ v. store Number p v

abbrev pub compound : BinOp → Bool → Action
compound op unsigned = of_two (updating op unsigned)

-- p moved by a number of elements of k words, which counts so; k is below zero where the number is taken
unfoldable pub pointer_sum : Bool → Value → Value → Value → Run Value
pointer_sum unsigned p x k = of_word x (λ n. of_word k (λ words. moved p (counted unsigned n *ℤ signed_of words)))

unfoldable pub swapped_sum : Bool → Value → Value → Value → Run Value
swapped_sum unsigned x p k = pointer_sum unsigned p x k

-- the pointer to which p points is moved, and given
unfoldable pub moving_sum : Bool → Value → Value → Value → Run Value
moving_sum unsigned p x k = load ObjectPointer p >>= λ old. pointer_sum unsigned old x k >>= λ new. store ObjectPointer p new

-- or given as it was
unfoldable pub pointer_step : Value → Value → Run Value
pointer_step p k = load ObjectPointer p >>= λ old. pointer_sum false old (Word 1) k >>= λ new. store ObjectPointer p new >>= λ _. give old

unfoldable pub elements_between : Value → Value → Value → Run Value
elements_between p q k = of_word k (λ words. pointer_difference words p q >>= λ z. give (Word (wrapped z)))

-- a string and a line feed cost the call's unit, and one for each character of the string
unfoldable pub string_put : Value → Run Value
string_put p = paid false (put_string_at false p >>= λ _. put 10 >>= λ _. give (Word 0))

-- `printf` with a format costs the call's unit
unfoldable pub format_put : List ℕ → Action
format_put format vs = paid false (printf false (Some format) vs)

-- of an operator by its sign: the function on words and its compound assignment
abbrev pub of_sign : List ℕ → BinOp → Bool → List (List ℕ × Action)
of_sign sign op unsigned = (sign, operator op unsigned) ∷ (sign ++ codes "=", compound op unsigned) ∷ []

abbrev pub actions : List (List ℕ × Action)
actions =
    of_sign (codes "*") binary.Mul false
    ++ (of_sign (codes "unsigned /") binary.Div true ++ (of_sign (codes "int /") binary.Div false
    ++ (of_sign (codes "unsigned %") binary.Mod true ++ (of_sign (codes "int %") binary.Mod false
    ++ (of_sign (codes "&") binary.BitAnd false ++ (of_sign (codes "|") binary.BitOr false ++ (of_sign (codes "^") binary.BitXor false
    ++ (of_sign (codes "<<") binary.Shl false
    ++ (of_sign (codes "unsigned >>") binary.Shr true ++ (of_sign (codes "int >>") binary.Shr false
    ++ ((codes "~", of_one (on_word unary.Invert))
    ∷ (codes "pointer + int", of_three (pointer_sum false)) ∷ (codes "pointer + unsigned", of_three (pointer_sum true))
    ∷ (codes "int + pointer", of_three (swapped_sum false)) ∷ (codes "unsigned + pointer", of_three (swapped_sum true))
    ∷ (codes "pointer += int", of_three (moving_sum false)) ∷ (codes "pointer += unsigned", of_three (moving_sum true))
    ∷ (codes "pointer++", of_two pointer_step)
    ∷ (codes "pointer - pointer", of_three elements_between)
    ∷ (codes "string and line feed", of_one string_put)
    ∷ [])))))))))))

-- a name is that of a format's function
abbrev pub is_format : List ℕ → Bool
is_format name = bytes_eq (take 7 name) (codes "printf ")

-- what a call of a helper function by a function stands for
abbrev pub stands_for : List ℕ → Option Action
stands_for name = if is_format name then Some (format_put (drop 7 name)) else meaning actions name

-- a character is written, with the second fuel anew
unfoldable pub piece_put : ℕ → Value → Run Value
piece_put ration c = refill ration >>= λ _. of_word c (λ n. put n >>= λ _. give Missing)

-- what helper functions alone call: a unit of the run, the second fuel anew, and that with a character
abbrev pub known_to_helpers : ℕ → List ℕ → Option Action
known_to_helpers ration name =
    meaning (
    (unit_name, λ vs. paid false (give Missing))
    ∷ (refill_name, λ vs. refill ration >>= λ _. give Missing)
    ∷ (piece_name, of_one (piece_put ration)) ∷ []) name
