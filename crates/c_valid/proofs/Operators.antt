-- Operators and built-in functions give valid values.
use Rattle.std.proofs.Common.{ℕ, zero, suc, ◌<◌, List, [], ◌∷◌, Option, Some, None, Bool, true, false, arith}
use Rattle.std.specs.Prelude.{ℤ, pos, int_div, int_rem, ◌^◌, ◌-◌, ◌*◌, not, ◌&&◌, ◌||◌, ◌==◌, nat_lt, if◌then◌else◌, codes}
use Rattle.std.specs.Int.{int_div_euclid}
use Rattle.std.specs.Str.{bytes_eq}
use Rattle.std.proofs.lemmas.Nat.{or_lt, and_le_l, xor_lt}
use Rattle.c_syntax.specs.declared.tree.UnOp.{UnOp}
use Rattle.c_syntax.specs.declared.tree.BinOp.{BinOp}
use Rattle.c_syntax.specs.declared.tree.UnOp.TheVariants as unary
use Rattle.c_syntax.specs.declared.tree.BinOp.TheVariants as binary
use Rattle.c_types.specs.Types as type
use Rattle.c_types.specs.Types.{CType, CTypes, NoType, MoreType, is_pointer, is_null, is_unsigned, Tags}
use Rattle.c_types.specs.Constants as constant
use Rattle.c_types.specs.Constants.{Constant, counted, wrapped, truth, unary_constant, divided, shifted, binary_value}
use Rattle.c_eval.specs.State.{Value, Word, Null, Point, Letter, Function, Missing, Cell, Unset, Holds, ZeroDivisor, OutsideObject, OtherKind, UnsetCell, ShiftCount, NoResult, HelperLimit, Run}
use Rattle.c_eval.specs.Run.{put_all}
use Rattle.c_eval.specs.Memory.{kind_of, cells_at, offset_of}
use Rattle.c_eval.specs.Operators.{used, of_word, is_true, as_pointer, converted, all_converted, word_act, word_result, on_words, pointer_sum, pointer_less, sum, difference, compared_kind, equality, order, operated, combined, on_word, pointer_to, value_at, pointed_value, assigned, updated}
use Rattle.c_eval.specs.BuiltIns.{put_string, put_string_at, cells_from, convert, with_argument, put_format, printf, character, with_one, built_in}
use Rattle.c_valid.specs.Valid.{AreBytes, IsValid, AreValid, ConstantIsWord}
use Rattle.c_valid.proofs.Keeping.{Keeps, Any, bind_keeps, give_keeps, undefined_keeps, exit_keeps, choose_keeps, if_keeps, paid_keeps, put_keeps, next_byte_keeps, objects_now_keeps}
use Rattle.c_valid.proofs.Objects.{byte_is_word, load_keeps, store_keeps, moved_keeps, equal_pointers_keeps, pointer_before_keeps, pointer_difference_keeps}

-- ---- words

pub wrapped_below : (z : ℤ) → wrapped z < 2 ^ 24
wrapped_below z = grind arith

pub truth_below : (b : Bool) → truth b < 2 ^ 24
truth_below true = omega arith
truth_below false = omega arith

divided_word : (divide : ℤ → ℤ → ℤ) (unsigned : Bool) (at x y : ℕ) → ConstantIsWord (divided divide unsigned at x y)
divided_word divide unsigned at x y = by_zero (y == 0)
  where
    by_zero : (b : Bool) → ConstantIsWord (if b then constant.Undefined at else constant.Value (wrapped (divide (counted unsigned x) (counted unsigned y))))
    by_zero true = tt
    by_zero false = wrapped_below _

shifted_word : (at y word : ℕ) → word < 2 ^ 24 → ConstantIsWord (shifted at y word)
shifted_word at y word lt = by_count (nat_lt y 24)
  where
    by_count : (b : Bool) → ConstantIsWord (if b then constant.Value word else constant.Undefined at)
    by_count true = lt
    by_count false = tt

pub binary_word : (at : ℕ) (op : BinOp) (left unsigned : Bool) (x y : ℕ) → x < 2 ^ 24 → y < 2 ^ 24 → ConstantIsWord (binary_value at op left unsigned x y)
binary_word at binary.Or left unsigned x y a b = tt
binary_word at binary.And left unsigned x y a b = tt
binary_word at binary.BitOr left unsigned x y a b = or_lt 24 x y a b
binary_word at binary.BitXor left unsigned x y a b = xor_lt 24 x y a b
binary_word at binary.BitAnd left unsigned x y a b = omega (arith, and_le_l x y, a)
binary_word at binary.Eq left unsigned x y a b = truth_below _
binary_word at binary.Ne left unsigned x y a b = truth_below _
binary_word at binary.Lt left unsigned x y a b = truth_below _
binary_word at binary.Gt left unsigned x y a b = truth_below _
binary_word at binary.Le left unsigned x y a b = truth_below _
binary_word at binary.Ge left unsigned x y a b = truth_below _
binary_word at binary.Shl left unsigned x y a b = shifted_word at y (wrapped (pos (x * 2 ^ y))) (wrapped_below (pos (x * 2 ^ y)))
binary_word at binary.Shr left unsigned x y a b = shifted_word at y (wrapped (int_div_euclid (counted left x) (pos (2 ^ y)))) (wrapped_below _)
binary_word at binary.Add left unsigned x y a b = wrapped_below _
binary_word at binary.Sub left unsigned x y a b = wrapped_below _
binary_word at binary.Mul left unsigned x y a b = wrapped_below _
binary_word at binary.Div left unsigned x y a b = divided_word int_div unsigned at x y
binary_word at binary.Mod left unsigned x y a b = divided_word int_rem unsigned at x y

pub unary_word : (op : UnOp) (c : Constant) → ConstantIsWord c → ConstantIsWord (unary_constant op c)
unary_word unary.Address c w = tt
unary_word unary.Deref c w = tt
unary_word unary.Plus c w = w
unary_word unary.Minus constant.NotConstant w = tt
unary_word unary.Minus (constant.Undefined at) w = tt
unary_word unary.Minus (constant.Value n) w = wrapped_below _
unary_word unary.Invert constant.NotConstant w = tt
unary_word unary.Invert (constant.Undefined at) w = tt
unary_word unary.Invert (constant.Value n) w = omega arith
unary_word unary.Not constant.NotConstant w = tt
unary_word unary.Not (constant.Undefined at) w = tt
unary_word unary.Not (constant.Value n) w = truth_below _

-- ---- values

pub as_pointer_valid : (v : Value) → IsValid v → IsValid (as_pointer v)
as_pointer_valid (Word n) valid = by_zero (n == 0)
  where
    by_zero : (b : Bool) → IsValid (if b then Null else Word n)
    by_zero true = tt
    by_zero false = valid
as_pointer_valid Null valid = tt
as_pointer_valid (Point o k) valid = valid
as_pointer_valid (Letter f i text k) valid = valid
as_pointer_valid (Function f) valid = tt
as_pointer_valid Missing valid = tt

pub converted_valid : (t : CType) (v : Value) → IsValid v → IsValid (converted t v)
converted_valid t v valid = by_type (is_pointer t || is_null t)
  where
    by_type : (b : Bool) → IsValid (if b then as_pointer v else v)
    by_type true = as_pointer_valid v valid
    by_type false = valid

pub all_converted_valid : (ts : CTypes) (vs : List Value) → AreValid vs → AreValid (all_converted ts vs)
all_converted_valid NoType vs valid = valid
all_converted_valid (MoreType t ts) [] valid = tt
all_converted_valid (MoreType t ts) (v ∷ vs) valid = (converted_valid t v valid.0, all_converted_valid ts vs valid.1)

pub used_keeps : (v : Value) → IsValid v → Keeps IsValid (used v)
unfolding used
used_keeps Missing valid = undefined_keeps NoResult
used_keeps (Word n) valid = give_keeps (Word n) valid
used_keeps Null valid = give_keeps Null tt
used_keeps (Point o k) valid = give_keeps (Point o k) valid
used_keeps (Letter f i text k) valid = give_keeps (Letter f i text k) valid
used_keeps (Function f) valid = give_keeps (Function f) tt

pub of_word_keeps : {A : Type 0} {G : A → Type 0} (v : Value) {f : ℕ → Run A} → IsValid v → ((n : ℕ) → n < 2 ^ 24 → Keeps G (f n)) → Keeps G (of_word v f)
unfolding of_word
of_word_keeps (Word n) valid t = t n valid
of_word_keeps Missing valid t = undefined_keeps OtherKind
of_word_keeps Null valid t = undefined_keeps OtherKind
of_word_keeps (Point o k) valid t = undefined_keeps OtherKind
of_word_keeps (Letter f i text k) valid t = undefined_keeps OtherKind
of_word_keeps (Function f) valid t = undefined_keeps OtherKind

word_act_keeps : (op : BinOp) → Keeps IsValid (word_act op)
unfolding word_act
word_act_keeps binary.Div = undefined_keeps ZeroDivisor
word_act_keeps binary.Mod = undefined_keeps ZeroDivisor
word_act_keeps binary.Shl = undefined_keeps ShiftCount
word_act_keeps binary.Shr = undefined_keeps ShiftCount
word_act_keeps op = undefined_keeps OtherKind

word_result_keeps : (op : BinOp) (c : Constant) → ConstantIsWord c → Keeps IsValid (word_result op c)
unfolding word_result
word_result_keeps op (constant.Value n) w = give_keeps (Word n) w
word_result_keeps op (constant.Undefined at) w = word_act_keeps op
word_result_keeps op constant.NotConstant w = undefined_keeps OtherKind

pub on_words_keeps : (op : BinOp) (t u : CType) (x y : Value) → IsValid x → IsValid y → Keeps IsValid (on_words op t u x y)
unfolding on_words
on_words_keeps op t u x y a b = of_word_keeps x a (λ m c. of_word_keeps y b (λ n d. word_result_keeps op _ (binary_word 0 op _ _ m n c d)))

pointer_sum_keeps : (tags : Tags) (t u : CType) (p y : Value) → IsValid p → IsValid y → Keeps IsValid (pointer_sum tags t u p y)
unfolding pointer_sum
pointer_sum_keeps tags t u p y a b = of_word_keeps y b (λ n c. moved_keeps p _ a)

pointer_less_keeps : (tags : Tags) (t u : CType) (p y : Value) → IsValid p → IsValid y → Keeps IsValid (pointer_less tags t u p y)
unfolding pointer_less
pointer_less_keeps tags t u p y a b = of_word_keeps y b (λ n c. moved_keeps p _ a)

pub sum_keeps : (tags : Tags) (t u : CType) (x y : Value) → IsValid x → IsValid y → Keeps IsValid (sum tags t u x y)
unfolding sum
sum_keeps tags t u x y a b = if_keeps (is_pointer t) (pointer_sum_keeps tags t u x y a b) (if_keeps (is_pointer u) (pointer_sum_keeps tags u t y x b a) (on_words_keeps binary.Add t u x y a b))

difference_keeps : (tags : Tags) (t u : CType) (x y : Value) → IsValid x → IsValid y → Keeps IsValid (difference tags t u x y)
unfolding difference
difference_keeps tags t u x y a b =
    if_keeps (is_pointer t && is_pointer u) (bind_keeps (pointer_difference_keeps _ x y) (λ z _. give_keeps _ (wrapped_below z)))
    (if_keeps (is_pointer t) (pointer_less_keeps tags t u x y a b) (on_words_keeps binary.Sub t u x y a b))

equality_keeps : (op : BinOp) (t u : CType) (x y : Value) (f : Bool → Bool) → IsValid x → IsValid y → Keeps IsValid (equality op t u x y f)
unfolding equality
equality_keeps op t u x y f a b =
    if_keeps (is_pointer t || is_pointer u || is_null t || is_null u) (bind_keeps (equal_pointers_keeps (compared_kind t u) (as_pointer x) (as_pointer y)) (λ z _. give_keeps _ (truth_below (f z)))) (on_words_keeps op t u x y a b)

order_keeps : (op : BinOp) (t u : CType) (x y : Value) {m : Run Bool} (f : Bool → Bool) → Keeps Any m → IsValid x → IsValid y → Keeps IsValid (order op t u x y m f)
unfolding order
order_keeps op t u x y f s a b = if_keeps (is_pointer t) (bind_keeps s (λ z _. give_keeps _ (truth_below (f z)))) (on_words_keeps op t u x y a b)

pub operated_keeps : (tags : Tags) (op : BinOp) (t u : CType) (x y : Value) → IsValid x → IsValid y → Keeps IsValid (operated tags op t u x y)
unfolding operated
operated_keeps tags binary.Add t u x y a b = sum_keeps tags t u x y a b
operated_keeps tags binary.Sub t u x y a b = difference_keeps tags t u x y a b
operated_keeps tags binary.Eq t u x y a b = equality_keeps binary.Eq t u x y (λ z. z) a b
operated_keeps tags binary.Ne t u x y a b = equality_keeps binary.Ne t u x y not a b
operated_keeps tags binary.Lt t u x y a b = order_keeps binary.Lt t u x y (λ z. z) (pointer_before_keeps x y) a b
operated_keeps tags binary.Gt t u x y a b = order_keeps binary.Gt t u x y (λ z. z) (pointer_before_keeps y x) a b
operated_keeps tags binary.Le t u x y a b = order_keeps binary.Le t u x y not (pointer_before_keeps y x) a b
operated_keeps tags binary.Ge t u x y a b = order_keeps binary.Ge t u x y not (pointer_before_keeps x y) a b
operated_keeps tags op t u x y a b = on_words_keeps op t u x y a b

pub combined_keeps : (tags : Tags) (op : BinOp) (t u : CType) {a b : Run Value} → Keeps IsValid a → Keeps IsValid b → Keeps IsValid (combined tags op t u a b)
unfolding combined
combined_keeps tags binary.And t u r s = bind_keeps r (λ x _. choose_keeps (is_true x) (bind_keeps s (λ y _. give_keeps _ (truth_below (is_true y)))) (give_keeps (Word 0) (omega arith)))
combined_keeps tags binary.Or t u r s = bind_keeps r (λ x _. choose_keeps (is_true x) (give_keeps (Word 1) (omega arith)) (bind_keeps s (λ y _. give_keeps _ (truth_below (is_true y)))))
combined_keeps tags op t u r s = bind_keeps r (λ x c. bind_keeps s (λ y d. operated_keeps tags op t u x y c d))

pub on_word_keeps : (op : UnOp) (x : Value) → IsValid x → Keeps IsValid (on_word op x)
unfolding on_word
on_word_keeps op x a = of_word_keeps x a (λ n c. word_result_keeps binary.Add _ (unary_word op (constant.Value n) c))

-- ---- places

pub pointer_to_keeps : (inner : Bool) (p : Value) → IsValid p → Keeps IsValid (pointer_to inner p)
unfolding pointer_to
pointer_to_keeps false p a = give_keeps p a
pointer_to_keeps true p a = undefined_keeps HelperLimit

pub value_at_keeps : (inner : Bool) (t : CType) (p : Value) → IsValid p → Keeps IsValid (value_at inner t p)
unfolding value_at
value_at_keeps inner (type.Array t n) p a = pointer_to_keeps inner p a
value_at_keeps inner (type.Struct tag) p a = give_keeps Missing tt
value_at_keeps inner t p a = load_keeps (kind_of t) p a

pub pointed_value_keeps : (inner : Bool) (t : CType) (p : Value) → IsValid p → Keeps IsValid (pointed_value inner t p)
unfolding pointed_value
pointed_value_keeps inner (type.Pointer (type.Function t ts)) p a = give_keeps p a
pointed_value_keeps inner (type.Pointer t) p a = value_at_keeps inner t p a
pointed_value_keeps inner t p a = undefined_keeps OtherKind

pub assigned_keeps : (t : CType) (p v : Value) → IsValid v → Keeps IsValid (assigned t p v)
unfolding assigned
assigned_keeps t p v a = store_keeps (kind_of t) p _ (converted_valid t v a)

pub updated_keeps : (tags : Tags) (op : BinOp) (t u : CType) (p y : Value) → IsValid p → IsValid y → Keeps IsValid (updated tags op t u p y)
unfolding updated
updated_keeps tags op t u p y a b = bind_keeps (load_keeps (kind_of t) p a) (λ x c. bind_keeps (operated_keeps tags op t u x y c b) (λ v d. assigned_keeps t p v d))

-- ---- built-in functions

put_all_keeps : (cs : List ℕ) → Keeps Any (put_all cs)
unfolding put_all
put_all_keeps [] = give_keeps tt tt
put_all_keeps (c ∷ cs) = bind_keeps (put_keeps c) (λ _ _. put_all_keeps cs)

put_string_keeps : (inner : Bool) (cells : List Cell) → Keeps Any (put_string inner cells)
unfolding put_string
put_string_keeps inner [] = undefined_keeps OutsideObject
put_string_keeps inner (Unset ∷ cells) = undefined_keeps UnsetCell
put_string_keeps inner (Holds (Word zero) ∷ cells) = give_keeps tt tt
put_string_keeps inner (Holds (Word (suc c)) ∷ cells) = paid_keeps inner (bind_keeps (put_keeps (suc c)) (λ _ _. put_string_keeps inner cells))
put_string_keeps inner (Holds Null ∷ cells) = undefined_keeps OtherKind
put_string_keeps inner (Holds (Point o k) ∷ cells) = undefined_keeps OtherKind
put_string_keeps inner (Holds (Letter f i text k) ∷ cells) = undefined_keeps OtherKind
put_string_keeps inner (Holds (Function f) ∷ cells) = undefined_keeps OtherKind
put_string_keeps inner (Holds Missing ∷ cells) = undefined_keeps OtherKind

put_string_at_keeps : (inner : Bool) (p : Value) → Keeps Any (put_string_at inner p)
unfolding put_string_at
put_string_at_keeps inner p = bind_keeps objects_now_keeps (λ os _. put_string_keeps inner (cells_from (cells_at os p) (offset_of p)))

-- of a word nothing has to be known here
any_word_keeps : {A : Type 0} {G : A → Type 0} (v : Value) {f : ℕ → Run A} → ((n : ℕ) → Keeps G (f n)) → Keeps G (of_word v f)
unfolding of_word
any_word_keeps (Word n) t = t n
any_word_keeps Missing t = undefined_keeps OtherKind
any_word_keeps Null t = undefined_keeps OtherKind
any_word_keeps (Point o k) t = undefined_keeps OtherKind
any_word_keeps (Letter f i text k) t = undefined_keeps OtherKind
any_word_keeps (Function f) t = undefined_keeps OtherKind

convert_keeps : (inner : Bool) (letter : ℕ) (v : Value) → Keeps Any (convert inner letter v)
unfolding convert
convert_keeps inner letter v =
    if_keeps (letter == 100) (any_word_keeps v (λ n. put_all_keeps _)) (if_keeps (letter == 117) (any_word_keeps v (λ n. put_all_keeps _))
    (if_keeps (letter == 120) (any_word_keeps v (λ n. put_all_keeps _)) (if_keeps (letter == 99) (any_word_keeps v put_keeps) (put_string_at_keeps inner v))))

with_argument_keeps : (vs : List Value) {f : Value → List Value → Run (Unit {0})} → ((v : Value) (rest : List Value) → Keeps Any (f v rest)) → Keeps Any (with_argument vs f)
unfolding with_argument
with_argument_keeps [] t = undefined_keeps OtherKind
with_argument_keeps (v ∷ vs) t = t v vs

put_format_keeps : (inner percent : Bool) (format : List ℕ) (vs : List Value) → Keeps Any (put_format inner percent format vs)
unfolding put_format
put_format_keeps inner percent [] vs = give_keeps tt tt
put_format_keeps inner false (c ∷ format) vs = if_keeps (c == 37) (put_format_keeps inner true format vs) (bind_keeps (put_keeps c) (λ _ _. put_format_keeps inner false format vs))
put_format_keeps inner true (c ∷ format) vs =
    if_keeps (c == 37) (bind_keeps (put_keeps c) (λ _ _. put_format_keeps inner false format vs))
    (with_argument_keeps vs (λ v rest. bind_keeps (convert_keeps inner c v) (λ _ _. put_format_keeps inner false format rest)))

pub printf_keeps : (inner : Bool) (format : Option (List ℕ)) (vs : List Value) → Keeps IsValid (printf inner format vs)
unfolding printf
printf_keeps inner None vs = undefined_keeps OtherKind
printf_keeps inner (Some format) vs = bind_keeps (put_format_keeps inner false format vs) (λ _ _. give_keeps Missing tt)

with_one_keeps : (vs : List Value) {f : Value → Run Value} → AreValid vs → ((v : Value) → IsValid v → Keeps IsValid (f v)) → Keeps IsValid (with_one vs f)
unfolding with_one
with_one_keeps [] valid t = undefined_keeps OtherKind
with_one_keeps (v ∷ vs) valid t = t v valid.0

character_valid : (c : ℕ) → c < 2 ^ 8 → IsValid (character c)
character_valid c lt = by_zero (c == 0)
  where
    by_zero : (b : Bool) → IsValid (if b then Word (2 ^ 24 - 1) else Word c)
    by_zero true = omega arith
    by_zero false = byte_is_word lt

pub built_in_keeps : (input : List ℕ) (inner : Bool) (name : List ℕ) (vs : List Value) → AreBytes input → AreValid vs → Keeps IsValid (built_in input inner name vs)
unfolding built_in
built_in_keeps input inner name vs bytes valid =
    if_keeps (bytes_eq name (codes "getchar")) (bind_keeps (next_byte_keeps input bytes) (λ c lt. give_keeps _ (character_valid c lt)))
    (if_keeps (bytes_eq name (codes "__builtin_getc")) (bind_keeps (next_byte_keeps input bytes) (λ c lt. give_keeps (Word c) (byte_is_word lt)))
    (if_keeps (bytes_eq name (codes "putchar")) (with_one_keeps vs valid (λ v a. any_word_keeps v (λ c. bind_keeps (put_keeps c) (λ _ _. give_keeps v a))))
    (if_keeps (bytes_eq name (codes "puts")) (with_one_keeps vs valid (λ v a. bind_keeps (put_string_at_keeps inner v) (λ _ _. bind_keeps (put_keeps 10) (λ _ _. give_keeps (Word 0) (omega arith)))))
    (if_keeps (bytes_eq name (codes "exit")) (with_one_keeps vs valid (λ v a. any_word_keeps v (λ n. exit_keeps))) (undefined_keeps OtherKind)))))
