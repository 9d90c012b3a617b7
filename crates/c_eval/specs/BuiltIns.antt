-- The functions that are always known.
use Rattle.std.specs.Prelude.{ℕ, zero, suc, ◌-◌, ◌^◌, Bool, true, false, ◌==◌, List, [], ◌∷◌, drop, Option, Some, None, if◌then◌else◌, codes}
use Rattle.std.specs.Fmt.{digits, signed_decimal}
use Rattle.std.specs.Str.{bytes_eq}
use Rattle.word24.specs.Word.{signed_of}
use Rattle.c_eval.specs.State.{Value, Word, Missing, Cell, Unset, Holds, OutsideObject, OtherKind, UnsetCell, Run}
use Rattle.c_eval.specs.Run.{◌>>=◌, give, undefined, exit, paid, put, put_all, next_byte, objects_now}
use Rattle.c_eval.specs.Memory.{cells_at, offset_of}
use Rattle.c_eval.specs.Operators.{of_word}

-- a string is written up to its zero; each character costs a unit, once it was read and before it is written
unfoldable pub put_string : (inner : Bool) → List Cell → Run (Unit {0})
put_string inner [] = undefined OutsideObject
put_string inner (Unset ∷ cells) = undefined UnsetCell
put_string inner (Holds (Word zero) ∷ cells) = give tt
put_string inner (Holds (Word (suc c)) ∷ cells) = paid inner (put (suc c) >>= λ _. put_string inner cells)
put_string inner (Holds v ∷ cells) = undefined OtherKind

-- the cells of a string: from the pointer on to the end of its object
abbrev pub cells_from : Option (List Cell) → ℕ → List Cell
cells_from None k = []
cells_from (Some cells) k = drop k cells

-- the string to which a pointer points
unfoldable pub put_string_at : (inner : Bool) → Value → Run (Unit {0})
put_string_at inner p = objects_now >>= λ os. put_string inner (cells_from (cells_at os p) (offset_of p))

-- `%d` writes an int, `%u` and `%x` what is unsigned, in decimal and in hex, `%c` a character, `%s` a string
unfoldable pub convert : (inner : Bool) → ℕ → Value → Run (Unit {0})
convert inner letter v =
    if letter == 100 then of_word v (λ n. put_all (signed_decimal (signed_of n)))
    else if letter == 117 then of_word v (λ n. put_all (digits 10 false n))
    else if letter == 120 then of_word v (λ n. put_all (digits 16 false n))
    else if letter == 99 then of_word v put
    else put_string_at inner v

-- the next argument of a format
unfoldable pub with_argument : List Value → (Value → List Value → Run (Unit {0})) → Run (Unit {0})
with_argument [] f = undefined OtherKind
with_argument (v ∷ vs) f = f v vs

-- a format's characters and conversions in their order; `%%` writes a percent
unfoldable pub put_format : (inner : Bool) → (percent : Bool) → List ℕ → List Value → Run (Unit {0})
put_format inner percent [] vs = give tt
put_format inner false (c ∷ format) vs = if c == 37 then put_format inner true format vs else put c >>= λ _. put_format inner false format vs
put_format inner true (c ∷ format) vs =
    if c == 37 then (put c >>= λ _. put_format inner false format vs)
    else with_argument vs (λ v rest. convert inner c v >>= λ _. put_format inner false format rest)

-- `printf` gives no value
unfoldable pub printf : (inner : Bool) → Option (List ℕ) → List Value → Run Value
printf inner None vs = undefined OtherKind
printf inner (Some format) vs = put_format inner false format vs >>= λ _. give Missing

-- the next byte, or -1 where it is 0
abbrev pub character : ℕ → Value
character c = if c == 0 then Word (2 ^ 24 - 1) else Word c

-- the one argument of a built-in function
unfoldable pub with_one : List Value → (Value → Run Value) → Run Value
with_one [] f = undefined OtherKind
with_one (v ∷ vs) f = f v

-- `putchar` gives its argument; `puts` writes a string and a line feed, and gives 0; `exit` ends the run
unfoldable pub built_in : List ℕ → (inner : Bool) → List ℕ → List Value → Run Value
built_in input inner name vs =
    if bytes_eq name (codes "getchar") then (next_byte input >>= λ c. give (character c))
    else if bytes_eq name (codes "__builtin_getc") then (next_byte input >>= λ c. give (Word c))
    else if bytes_eq name (codes "putchar") then with_one vs (λ v. of_word v (λ c. put c >>= λ _. give v))
    else if bytes_eq name (codes "puts") then with_one vs (λ v. put_string_at inner v >>= λ _. put 10 >>= λ _. give (Word 0))
    else if bytes_eq name (codes "exit") then with_one vs (λ v. of_word v (λ n. exit))
    else undefined OtherKind
