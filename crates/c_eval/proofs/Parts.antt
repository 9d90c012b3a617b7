-- Memory, operators and built-in functions follow themselves.
use Rattle.std.proofs.Common.{◌≡◌, ℕ, zero, suc, List, [], ◌∷◌, Option, Some, None, Bool, true, false, refl, sym}
use Rattle.std.specs.Prelude.{ℤ, not, ◌&&◌, ◌||◌, ◌==◌, length, codes}
use Rattle.std.specs.Str.{bytes_eq}
use Rattle.c_syntax.specs.declared.tree.UnOp.{UnOp}
use Rattle.c_syntax.specs.declared.tree.BinOp.{BinOp}
use Rattle.c_syntax.specs.declared.tree.BinOp.TheVariants as binary
use Rattle.c_types.specs.Types.{CType, CTypes, Void, Int, Unsigned, Char, UChar, Struct, Pointer, Array, is_pointer, is_null, is_unsigned, Tags}
use Rattle.c_types.specs.Types as type
use Rattle.c_types.specs.Constants.{Constant, NotConstant, Undefined, Value}
use Rattle.c_eval.specs.State as value
use Rattle.c_eval.specs.State.{Cell, Unset, Holds, Object, Run}
use Rattle.c_eval.specs.Run.{put_all}
use Rattle.c_eval.specs.Memory.{Kind, cell_at, read_cell, load, put_cell, write_cell, store, enter, leave, within, moved, member_at, equal_pointers, pointer_before, pointer_difference, kind_of, cells_at, offset_of}
use Rattle.c_eval.specs.Operators.{used, of_word, is_true, converted, as_pointer, word_act, word_result, on_words, compared_kind, element_words, pointer_sum, pointer_less, sum, difference, equality, order, operated, combined, on_word, pointer_to, value_at, pointed_value, assigned, updated}
use Rattle.c_eval.specs.BuiltIns.{put_string, put_string_at, cells_from, convert, with_argument, put_format, printf, with_one, built_in}
use Rattle.c_eval.proofs.Following.{Follows, bind_follows, give_follows, undefined_follows, exit_follows, unless_follows, choose_follows, if_follows, paid_follows, put_follows, next_byte_follows, objects_now_follows, with_objects_follows}

-- ---- memory

read_cell_follows : {depth : ℕ} {strict : Bool} {k : ℕ} {i j : List ℕ} (kind : Kind) (c : Option Cell) → Follows depth strict k i j (read_cell kind c) (read_cell kind c)
unfolding read_cell
read_cell_follows kind None = undefined_follows value.OutsideObject (λ asked. refl)
read_cell_follows kind (Some Unset) = undefined_follows value.UnsetCell (λ asked. refl)
read_cell_follows kind (Some (Holds v)) = unless_follows _ value.OtherKind (λ asked. refl) (give_follows v)

pub load_follows : {depth : ℕ} {strict : Bool} {k : ℕ} {i j : List ℕ} (kind : Kind) (p : value.Value) → Follows depth strict k i j (load kind p) (load kind p)
unfolding load
load_follows kind p = bind_follows objects_now_follows (λ os. read_cell_follows kind (cell_at os p))

put_cell_follows : {depth : ℕ} {strict : Bool} {k : ℕ} {i j : List ℕ} (os : List Object) (p v : value.Value) → Follows depth strict k i j (put_cell os p v) (put_cell os p v)
unfolding put_cell
put_cell_follows os (value.Point o n) v = bind_follows (with_objects_follows _) (λ _. give_follows v)
put_cell_follows os (value.Letter f l text n) v = undefined_follows value.LiteralWrite (λ asked. refl)
put_cell_follows os (value.Word n) v = undefined_follows value.OutsideObject (λ asked. refl)
put_cell_follows os value.Null v = undefined_follows value.OutsideObject (λ asked. refl)
put_cell_follows os (value.Function f) v = undefined_follows value.OutsideObject (λ asked. refl)
put_cell_follows os value.Missing v = undefined_follows value.OutsideObject (λ asked. refl)

write_cell_follows : {depth : ℕ} {strict : Bool} {k : ℕ} {i j : List ℕ} (kind : Kind) (c : Option Cell) (os : List Object) (p v : value.Value) → Follows depth strict k i j (write_cell kind c os p v) (write_cell kind c os p v)
unfolding write_cell
write_cell_follows kind None os p v = undefined_follows value.OutsideObject (λ asked. refl)
write_cell_follows kind (Some c) os p v = unless_follows _ value.OtherKind (λ asked. refl) (put_cell_follows os p v)

pub store_follows : {depth : ℕ} {strict : Bool} {k : ℕ} {i j : List ℕ} (kind : Kind) (p v : value.Value) → Follows depth strict k i j (store kind p v) (store kind p v)
unfolding store
store_follows kind p v = bind_follows objects_now_follows (λ os. write_cell_follows kind (cell_at os p) os p v)

enter_follows : {depth : ℕ} {strict : Bool} {k : ℕ} {i j : List ℕ} (new : List (List Cell)) → Follows depth strict k i j (enter new) (enter new)
unfolding enter
enter_follows new = bind_follows objects_now_follows (λ os. bind_follows (with_objects_follows _) (λ _. give_follows (length os)))

leave_follows : {depth : ℕ} {strict : Bool} {k : ℕ} {i j : List ℕ} (n : ℕ) → Follows depth strict k i j (leave n) (leave n)
unfolding leave
leave_follows n = bind_follows objects_now_follows (λ os. with_objects_follows _)

pub within_follows : {A : Type 0} {depth : ℕ} {strict : Bool} {k : ℕ} {i j : List ℕ} (new : List (List Cell)) {m m' : ℕ → Run A} → ((n : ℕ) → Follows depth strict k i j (m n) (m' n)) → Follows depth strict k i j (within new m) (within new m')
unfolding within
within_follows new t = bind_follows (enter_follows new) (λ n. bind_follows (t n) (λ a. bind_follows (leave_follows n) (λ _. give_follows a)))

moved_follows : {depth : ℕ} {strict : Bool} {k : ℕ} {i j : List ℕ} (p : value.Value) (cells : ℤ) → Follows depth strict k i j (moved p cells) (moved p cells)
unfolding moved
moved_follows p cells = bind_follows objects_now_follows (λ os. unless_follows _ value.PointerArithmetic (λ asked. refl) (give_follows _))

pub member_at_follows : {depth : ℕ} {strict : Bool} {k : ℕ} {i j : List ℕ} (n : ℕ) (p : value.Value) → Follows depth strict k i j (member_at n p) (member_at n p)
unfolding member_at
member_at_follows n p = bind_follows objects_now_follows (λ os. unless_follows _ value.OutsideObject (λ asked. refl) (give_follows _))

equal_pointers_follows : {depth : ℕ} {strict : Bool} {k : ℕ} {i j : List ℕ} (kind : Kind) (p q : value.Value) → Follows depth strict k i j (equal_pointers kind p q) (equal_pointers kind p q)
unfolding equal_pointers
equal_pointers_follows kind p q = bind_follows objects_now_follows (λ os. unless_follows _ value.OtherKind (λ asked. refl) (unless_follows _ value.PointerEquality (λ asked. refl) (give_follows _)))

pointer_before_follows : {depth : ℕ} {strict : Bool} {k : ℕ} {i j : List ℕ} (p q : value.Value) → Follows depth strict k i j (pointer_before p q) (pointer_before p q)
unfolding pointer_before
pointer_before_follows p q = unless_follows _ value.OtherKind (λ asked. refl) (unless_follows _ value.PointerOrder (λ asked. refl) (give_follows _))

pointer_difference_follows : {depth : ℕ} {strict : Bool} {k : ℕ} {i j : List ℕ} (cells : ℕ) (p q : value.Value) → Follows depth strict k i j (pointer_difference cells p q) (pointer_difference cells p q)
unfolding pointer_difference
pointer_difference_follows cells p q = unless_follows _ value.OtherKind (λ asked. refl) (unless_follows _ value.PointerOrder (λ asked. refl) (give_follows _))

-- ---- operators

pub used_follows : {depth : ℕ} {strict : Bool} {k : ℕ} {i j : List ℕ} (v : value.Value) → Follows depth strict k i j (used v) (used v)
unfolding used
used_follows value.Missing = undefined_follows value.NoResult (λ asked. refl)
used_follows (value.Word n) = give_follows _
used_follows value.Null = give_follows _
used_follows (value.Point o n) = give_follows _
used_follows (value.Letter f l text n) = give_follows _
used_follows (value.Function f) = give_follows _

pub of_word_follows : {A : Type 0} {depth : ℕ} {strict : Bool} {k : ℕ} {i j : List ℕ} (v : value.Value) {f f' : ℕ → Run A} → ((n : ℕ) → Follows depth strict k i j (f n) (f' n)) → Follows depth strict k i j (of_word v f) (of_word v f')
unfolding of_word
of_word_follows (value.Word n) t = t n
of_word_follows value.Missing t = undefined_follows value.OtherKind (λ asked. refl)
of_word_follows value.Null t = undefined_follows value.OtherKind (λ asked. refl)
of_word_follows (value.Point o n) t = undefined_follows value.OtherKind (λ asked. refl)
of_word_follows (value.Letter f l text n) t = undefined_follows value.OtherKind (λ asked. refl)
of_word_follows (value.Function f) t = undefined_follows value.OtherKind (λ asked. refl)

word_act_follows : {depth : ℕ} {strict : Bool} {k : ℕ} {i j : List ℕ} (op : BinOp) → Follows depth strict k i j (word_act op) (word_act op)
unfolding word_act
word_act_follows binary.Div = undefined_follows value.ZeroDivisor (λ asked. refl)
word_act_follows binary.Mod = undefined_follows value.ZeroDivisor (λ asked. refl)
word_act_follows binary.Shl = undefined_follows value.ShiftCount (λ asked. refl)
word_act_follows binary.Shr = undefined_follows value.ShiftCount (λ asked. refl)
word_act_follows op = undefined_follows value.OtherKind (λ asked. refl)

word_result_follows : {depth : ℕ} {strict : Bool} {k : ℕ} {i j : List ℕ} (op : BinOp) (c : Constant) → Follows depth strict k i j (word_result op c) (word_result op c)
unfolding word_result
word_result_follows op (Value n) = give_follows _
word_result_follows op (Undefined at) = word_act_follows op
word_result_follows op NotConstant = undefined_follows value.OtherKind (λ asked. refl)

on_words_follows : {depth : ℕ} {strict : Bool} {k : ℕ} {i j : List ℕ} (op : BinOp) (t u : CType) (x y : value.Value) → Follows depth strict k i j (on_words op t u x y) (on_words op t u x y)
unfolding on_words
on_words_follows op t u x y = of_word_follows x (λ m. of_word_follows y (λ n. word_result_follows op _))

pointer_sum_follows : {depth : ℕ} {strict : Bool} {k : ℕ} {i j : List ℕ} (tags : Tags) (t u : CType) (p y : value.Value) → Follows depth strict k i j (pointer_sum tags t u p y) (pointer_sum tags t u p y)
unfolding pointer_sum
pointer_sum_follows tags t u p y = of_word_follows y (λ n. moved_follows p _)

pointer_less_follows : {depth : ℕ} {strict : Bool} {k : ℕ} {i j : List ℕ} (tags : Tags) (t u : CType) (p y : value.Value) → Follows depth strict k i j (pointer_less tags t u p y) (pointer_less tags t u p y)
unfolding pointer_less
pointer_less_follows tags t u p y = of_word_follows y (λ n. moved_follows p _)

pub sum_follows : {depth : ℕ} {strict : Bool} {k : ℕ} {i j : List ℕ} (tags : Tags) (t u : CType) (x y : value.Value) → Follows depth strict k i j (sum tags t u x y) (sum tags t u x y)
unfolding sum
sum_follows tags t u x y =
    if_follows (is_pointer t) (pointer_sum_follows tags t u x y) (if_follows (is_pointer u) (pointer_sum_follows tags u t y x) (on_words_follows binary.Add t u x y))

difference_follows : {depth : ℕ} {strict : Bool} {k : ℕ} {i j : List ℕ} (tags : Tags) (t u : CType) (x y : value.Value) → Follows depth strict k i j (difference tags t u x y) (difference tags t u x y)
unfolding difference
difference_follows tags t u x y =
    if_follows (is_pointer t && is_pointer u) (bind_follows (pointer_difference_follows (element_words tags t) x y) (λ z. give_follows _))
    (if_follows (is_pointer t) (pointer_less_follows tags t u x y) (on_words_follows binary.Sub t u x y))

equality_follows : {depth : ℕ} {strict : Bool} {k : ℕ} {i j : List ℕ} (op : BinOp) (t u : CType) (x y : value.Value) (f : Bool → Bool) → Follows depth strict k i j (equality op t u x y f) (equality op t u x y f)
unfolding equality
equality_follows op t u x y f =
    if_follows (is_pointer t || is_pointer u || is_null t || is_null u) (bind_follows (equal_pointers_follows (compared_kind t u) (as_pointer x) (as_pointer y)) (λ b. give_follows _)) (on_words_follows op t u x y)

order_follows : {depth : ℕ} {strict : Bool} {k : ℕ} {i j : List ℕ} (op : BinOp) (t u : CType) (x y : value.Value) {m m' : Run Bool} (f : Bool → Bool) → Follows depth strict k i j m m' → Follows depth strict k i j (order op t u x y m f) (order op t u x y m' f)
unfolding order
order_follows op t u x y f s = if_follows (is_pointer t) (bind_follows s (λ b. give_follows _)) (on_words_follows op t u x y)

pub operated_follows : {depth : ℕ} {strict : Bool} {k : ℕ} {i j : List ℕ} (tags : Tags) (op : BinOp) (t u : CType) (x y : value.Value) → Follows depth strict k i j (operated tags op t u x y) (operated tags op t u x y)
unfolding operated
operated_follows tags binary.Add t u x y = sum_follows tags t u x y
operated_follows tags binary.Sub t u x y = difference_follows tags t u x y
operated_follows tags binary.Eq t u x y = equality_follows binary.Eq t u x y (λ b. b)
operated_follows tags binary.Ne t u x y = equality_follows binary.Ne t u x y not
operated_follows tags binary.Lt t u x y = order_follows binary.Lt t u x y (λ b. b) (pointer_before_follows x y)
operated_follows tags binary.Gt t u x y = order_follows binary.Gt t u x y (λ b. b) (pointer_before_follows y x)
operated_follows tags binary.Le t u x y = order_follows binary.Le t u x y not (pointer_before_follows y x)
operated_follows tags binary.Ge t u x y = order_follows binary.Ge t u x y not (pointer_before_follows x y)
operated_follows tags op t u x y = on_words_follows op t u x y

pub combined_follows : {depth : ℕ} {strict : Bool} {k : ℕ} {i j : List ℕ} (tags : Tags) (op : BinOp) (t u : CType) {a a' b b' : Run value.Value} → Follows depth strict k i j a a' → Follows depth strict k i j b b' →
    Follows depth strict k i j (combined tags op t u a b) (combined tags op t u a' b')
unfolding combined
combined_follows tags binary.And t u r s = bind_follows r (λ x. choose_follows (is_true x) (bind_follows s (λ y. give_follows _)) (give_follows _))
combined_follows tags binary.Or t u r s = bind_follows r (λ x. choose_follows (is_true x) (give_follows _) (bind_follows s (λ y. give_follows _)))
combined_follows tags op t u r s = bind_follows r (λ x. bind_follows s (λ y. operated_follows tags op t u x y))

pub on_word_follows : {depth : ℕ} {strict : Bool} {k : ℕ} {i j : List ℕ} (op : UnOp) (x : value.Value) → Follows depth strict k i j (on_word op x) (on_word op x)
unfolding on_word
on_word_follows op x = of_word_follows x (λ n. word_result_follows binary.Add _)

pub pointer_to_follows : {depth : ℕ} {strict : Bool} {k : ℕ} {i j : List ℕ} (inner : Bool) (p : value.Value) → (strict ≡ true → inner ≡ false) → Follows depth strict k i j (pointer_to inner p) (pointer_to inner p)
unfolding pointer_to
pointer_to_follows false p own = give_follows p
pointer_to_follows true p own = undefined_follows value.HelperLimit (λ asked. sym (own asked))

pub value_at_follows : {depth : ℕ} {strict : Bool} {k : ℕ} {i j : List ℕ} (inner : Bool) (t : CType) (p : value.Value) → (strict ≡ true → inner ≡ false) → Follows depth strict k i j (value_at inner t p) (value_at inner t p)
unfolding value_at
value_at_follows inner (Array t n) p own = pointer_to_follows inner p own
value_at_follows inner (Struct tag) p own = give_follows _
value_at_follows inner t p own = load_follows (kind_of t) p

pub pointed_value_follows : {depth : ℕ} {strict : Bool} {k : ℕ} {i j : List ℕ} (inner : Bool) (t : CType) (p : value.Value) → (strict ≡ true → inner ≡ false) → Follows depth strict k i j (pointed_value inner t p) (pointed_value inner t p)
unfolding pointed_value
pointed_value_follows inner (Pointer (type.Function t ts)) p own = give_follows p
pointed_value_follows inner (Pointer t) p own = value_at_follows inner t p own
pointed_value_follows inner t p own = undefined_follows value.OtherKind (λ asked. refl)

pub assigned_follows : {depth : ℕ} {strict : Bool} {k : ℕ} {i j : List ℕ} (t : CType) (p v : value.Value) → Follows depth strict k i j (assigned t p v) (assigned t p v)
unfolding assigned
assigned_follows t p v = store_follows (kind_of t) p (converted t v)

pub updated_follows : {depth : ℕ} {strict : Bool} {k : ℕ} {i j : List ℕ} (tags : Tags) (op : BinOp) (t u : CType) (p y : value.Value) → Follows depth strict k i j (updated tags op t u p y) (updated tags op t u p y)
unfolding updated
updated_follows tags op t u p y = bind_follows (load_follows (kind_of t) p) (λ x. bind_follows (operated_follows tags op t u x y) (λ v. assigned_follows t p v))

-- ---- built-in functions

put_all_follows : {depth : ℕ} {strict : Bool} {k : ℕ} {i j : List ℕ} (cs : List ℕ) → Follows depth strict k i j (put_all cs) (put_all cs)
unfolding put_all
put_all_follows [] = give_follows tt
put_all_follows (c ∷ cs) = bind_follows (put_follows c) (λ _. put_all_follows cs)

put_string_follows : {depth : ℕ} {strict : Bool} {k : ℕ} {i j : List ℕ} (inner : Bool) (cells : List Cell) → (strict ≡ true → inner ≡ false) → Follows depth strict k i j (put_string inner cells) (put_string inner cells)
unfolding put_string
put_string_follows inner [] own = undefined_follows value.OutsideObject (λ asked. refl)
put_string_follows inner (Unset ∷ cells) own = undefined_follows value.UnsetCell (λ asked. refl)
put_string_follows inner (Holds (value.Word zero) ∷ cells) own = give_follows tt
put_string_follows inner (Holds (value.Word (suc c)) ∷ cells) own = paid_follows inner own (bind_follows (put_follows (suc c)) (λ _. put_string_follows inner cells own))
put_string_follows inner (Holds value.Null ∷ cells) own = undefined_follows value.OtherKind (λ asked. refl)
put_string_follows inner (Holds (value.Point o n) ∷ cells) own = undefined_follows value.OtherKind (λ asked. refl)
put_string_follows inner (Holds (value.Letter f l text n) ∷ cells) own = undefined_follows value.OtherKind (λ asked. refl)
put_string_follows inner (Holds (value.Function f) ∷ cells) own = undefined_follows value.OtherKind (λ asked. refl)
put_string_follows inner (Holds value.Missing ∷ cells) own = undefined_follows value.OtherKind (λ asked. refl)

put_string_at_follows : {depth : ℕ} {strict : Bool} {k : ℕ} {i j : List ℕ} (inner : Bool) (p : value.Value) → (strict ≡ true → inner ≡ false) → Follows depth strict k i j (put_string_at inner p) (put_string_at inner p)
unfolding put_string_at
put_string_at_follows inner p own = bind_follows objects_now_follows (λ os. put_string_follows inner (cells_from (cells_at os p) (offset_of p)) own)

convert_follows : {depth : ℕ} {strict : Bool} {k : ℕ} {i j : List ℕ} (inner : Bool) (letter : ℕ) (v : value.Value) → (strict ≡ true → inner ≡ false) → Follows depth strict k i j (convert inner letter v) (convert inner letter v)
unfolding convert
convert_follows inner letter v own =
    if_follows (letter == 100) (of_word_follows v (λ n. put_all_follows _)) (if_follows (letter == 117) (of_word_follows v (λ n. put_all_follows _))
    (if_follows (letter == 120) (of_word_follows v (λ n. put_all_follows _)) (if_follows (letter == 99) (of_word_follows v put_follows) (put_string_at_follows inner v own))))

with_argument_follows : {depth : ℕ} {strict : Bool} {k : ℕ} {i j : List ℕ} (vs : List value.Value) {f f' : value.Value → List value.Value → Run (Unit {0})} → ((v : value.Value) (rest : List value.Value) → Follows depth strict k i j (f v rest) (f' v rest)) →
    Follows depth strict k i j (with_argument vs f) (with_argument vs f')
unfolding with_argument
with_argument_follows [] t = undefined_follows value.OtherKind (λ asked. refl)
with_argument_follows (v ∷ vs) t = t v vs

put_format_follows : {depth : ℕ} {strict : Bool} {k : ℕ} {i j : List ℕ} (inner percent : Bool) (format : List ℕ) (vs : List value.Value) → (strict ≡ true → inner ≡ false) → Follows depth strict k i j (put_format inner percent format vs) (put_format inner percent format vs)
unfolding put_format
put_format_follows inner percent [] vs own = give_follows tt
put_format_follows inner false (c ∷ format) vs own =
    if_follows (c == 37) (put_format_follows inner true format vs own) (bind_follows (put_follows c) (λ _. put_format_follows inner false format vs own))
put_format_follows inner true (c ∷ format) vs own =
    if_follows (c == 37) (bind_follows (put_follows c) (λ _. put_format_follows inner false format vs own))
    (with_argument_follows vs (λ v rest. bind_follows (convert_follows inner c v own) (λ _. put_format_follows inner false format rest own)))

pub printf_follows : {depth : ℕ} {strict : Bool} {k : ℕ} {i j : List ℕ} (inner : Bool) (format : Option (List ℕ)) (vs : List value.Value) → (strict ≡ true → inner ≡ false) → Follows depth strict k i j (printf inner format vs) (printf inner format vs)
unfolding printf
printf_follows inner None vs own = undefined_follows value.OtherKind (λ asked. refl)
printf_follows inner (Some format) vs own = bind_follows (put_format_follows inner false format vs own) (λ _. give_follows _)

with_one_follows : {depth : ℕ} {strict : Bool} {k : ℕ} {i j : List ℕ} (vs : List value.Value) {f f' : value.Value → Run value.Value} → ((v : value.Value) → Follows depth strict k i j (f v) (f' v)) → Follows depth strict k i j (with_one vs f) (with_one vs f')
unfolding with_one
with_one_follows [] t = undefined_follows value.OtherKind (λ asked. refl)
with_one_follows (v ∷ vs) t = t v

pub built_in_follows : {depth : ℕ} {strict : Bool} {k : ℕ} {i j : List ℕ} (inner : Bool) (name : List ℕ) (vs : List value.Value) → (strict ≡ true → inner ≡ false) → Follows depth strict k i j (built_in i inner name vs) (built_in j inner name vs)
unfolding built_in
built_in_follows inner name vs own =
    if_follows (bytes_eq name (codes "getchar")) (bind_follows next_byte_follows (λ c. give_follows _))
    (if_follows (bytes_eq name (codes "__builtin_getc")) (bind_follows next_byte_follows (λ c. give_follows _))
    (if_follows (bytes_eq name (codes "putchar")) (with_one_follows vs (λ v. of_word_follows v (λ c. bind_follows (put_follows c) (λ _. give_follows v))))
    (if_follows (bytes_eq name (codes "puts")) (with_one_follows vs (λ v. bind_follows (put_string_at_follows inner v own) (λ _. bind_follows (put_follows 10) (λ _. give_follows _))))
    (if_follows (bytes_eq name (codes "exit")) (with_one_follows vs (λ v. of_word_follows v (λ n. exit_follows))) (undefined_follows value.OtherKind (λ asked. refl))))))
