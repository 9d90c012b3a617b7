-- Memory and operators neither take nor write.
use Rattle.std.proofs.Common.{ℕ, suc, List, [], ◌∷◌, Option, Some, None, Bool, false}
use Rattle.std.specs.Prelude.{ℤ, not, ◌&&◌, ◌||◌, length}
use Rattle.c_syntax.specs.declared.tree.UnOp.{UnOp}
use Rattle.c_syntax.specs.declared.tree.BinOp.{BinOp}
use Rattle.c_syntax.specs.declared.tree.BinOp.TheVariants as binary
use Rattle.c_types.specs.Types.{CType, Struct, Pointer, Array, is_pointer, is_null, Tags}
use Rattle.c_types.specs.Types as type
use Rattle.c_types.specs.Constants.{Constant, NotConstant, Undefined, Value}
use Rattle.c_eval.specs.State as value
use Rattle.c_eval.specs.State.{Cell, Unset, Holds, Object, Run}
use Rattle.c_eval.specs.Memory.{Kind, cell_at, read_cell, load, put_cell, write_cell, store, enter, leave, moved, member_at, equal_pointers, pointer_before, pointer_difference, kind_of, zero_of, offset_of, at_offset}
use Rattle.c_eval.specs.Operators.{used, of_word, converted, as_pointer, word_act, word_result, on_words, compared_kind, element_words, pointer_sum, pointer_less, sum, difference, equality, order, operated, on_word, value_at, pointed_value, assigned, updated, pointer_to}
use Rattle.c_eval.specs.Eval.{clear, spell}
use Rattle.c_rule.proofs.Parting.{Silent, Writes, silent_then, writes_of, give_silent, undefined_silent, unless_silent, if_silent, objects_now_silent, with_objects_silent}

-- ---- memory

read_cell_silent : (kind : Kind) (c : Option Cell) → Silent (read_cell kind c)
unfolding read_cell
read_cell_silent kind None = undefined_silent value.OutsideObject
read_cell_silent kind (Some Unset) = undefined_silent value.UnsetCell
read_cell_silent kind (Some (Holds v)) = unless_silent _ value.OtherKind (give_silent v)

pub load_silent : (kind : Kind) (p : value.Value) → Silent (load kind p)
unfolding load
load_silent kind p = silent_then objects_now_silent (λ os. read_cell_silent kind (cell_at os p))

put_cell_silent : (os : List Object) (p v : value.Value) → Silent (put_cell os p v)
unfolding put_cell
put_cell_silent os (value.Point o n) v = silent_then (with_objects_silent _) (λ _. give_silent v)
put_cell_silent os (value.Letter f l text n) v = undefined_silent value.LiteralWrite
put_cell_silent os p v = undefined_silent value.OutsideObject

write_cell_silent : (kind : Kind) (c : Option Cell) (os : List Object) (p v : value.Value) → Silent (write_cell kind c os p v)
unfolding write_cell
write_cell_silent kind None os p v = undefined_silent value.OutsideObject
write_cell_silent kind (Some c) os p v = unless_silent _ value.OtherKind (put_cell_silent os p v)

pub store_silent : (kind : Kind) (p v : value.Value) → Silent (store kind p v)
unfolding store
store_silent kind p v = silent_then objects_now_silent (λ os. write_cell_silent kind (cell_at os p) os p v)

pub enter_silent : (new : List (List Cell)) → Silent (enter new)
unfolding enter
enter_silent new = silent_then objects_now_silent (λ os. silent_then (with_objects_silent _) (λ _. give_silent (length os)))

pub leave_silent : (n : ℕ) → Silent (leave n)
unfolding leave
leave_silent n = silent_then objects_now_silent (λ os. with_objects_silent _)

moved_silent : (p : value.Value) (cells : ℤ) → Silent (moved p cells)
unfolding moved
moved_silent p cells = silent_then objects_now_silent (λ os. unless_silent _ value.PointerArithmetic (give_silent _))

pub member_at_silent : (n : ℕ) (p : value.Value) → Silent (member_at n p)
unfolding member_at
member_at_silent n p = silent_then objects_now_silent (λ os. unless_silent _ value.OutsideObject (give_silent _))

equal_pointers_silent : (kind : Kind) (p q : value.Value) → Silent (equal_pointers kind p q)
unfolding equal_pointers
equal_pointers_silent kind p q = silent_then objects_now_silent (λ os. unless_silent _ value.OtherKind (unless_silent _ value.PointerEquality (give_silent _)))

pointer_before_silent : (p q : value.Value) → Silent (pointer_before p q)
unfolding pointer_before
pointer_before_silent p q = unless_silent _ value.OtherKind (unless_silent _ value.PointerOrder (give_silent _))

pointer_difference_silent : (cells : ℕ) (p q : value.Value) → Silent (pointer_difference cells p q)
unfolding pointer_difference
pointer_difference_silent cells p q = unless_silent _ value.OtherKind (unless_silent _ value.PointerOrder (give_silent _))

-- ---- operators

pub used_silent : (v : value.Value) → Silent (used v)
unfolding used
used_silent value.Missing = undefined_silent value.NoResult
used_silent v = give_silent v

pub of_word_silent : {A : Type 0} (v : value.Value) {f : ℕ → Run A} → ((n : ℕ) → Silent (f n)) → Silent (of_word v f)
unfolding of_word
of_word_silent (value.Word n) t = t n
of_word_silent v t = undefined_silent value.OtherKind

pub of_word_writes : {A : Type 0} (v : value.Value) {f : ℕ → Run A} → ((n : ℕ) → Writes (f n)) → Writes (of_word v f)
unfolding of_word
of_word_writes (value.Word n) t = t n
of_word_writes v t = writes_of (undefined_silent value.OtherKind)

word_act_silent : (op : BinOp) → Silent (word_act op)
unfolding word_act
word_act_silent binary.Div = undefined_silent value.ZeroDivisor
word_act_silent binary.Mod = undefined_silent value.ZeroDivisor
word_act_silent binary.Shl = undefined_silent value.ShiftCount
word_act_silent binary.Shr = undefined_silent value.ShiftCount
word_act_silent op = undefined_silent value.OtherKind

word_result_silent : (op : BinOp) (c : Constant) → Silent (word_result op c)
unfolding word_result
word_result_silent op (Value n) = give_silent _
word_result_silent op (Undefined at) = word_act_silent op
word_result_silent op NotConstant = undefined_silent value.OtherKind

on_words_silent : (op : BinOp) (t u : CType) (x y : value.Value) → Silent (on_words op t u x y)
unfolding on_words
on_words_silent op t u x y = of_word_silent x (λ m. of_word_silent y (λ n. word_result_silent op _))

pointer_sum_silent : (tags : Tags) (t u : CType) (p y : value.Value) → Silent (pointer_sum tags t u p y)
unfolding pointer_sum
pointer_sum_silent tags t u p y = of_word_silent y (λ n. moved_silent p _)

pointer_less_silent : (tags : Tags) (t u : CType) (p y : value.Value) → Silent (pointer_less tags t u p y)
unfolding pointer_less
pointer_less_silent tags t u p y = of_word_silent y (λ n. moved_silent p _)

sum_silent : (tags : Tags) (t u : CType) (x y : value.Value) → Silent (sum tags t u x y)
unfolding sum
sum_silent tags t u x y = if_silent (is_pointer t) (pointer_sum_silent tags t u x y) (if_silent (is_pointer u) (pointer_sum_silent tags u t y x) (on_words_silent binary.Add t u x y))

difference_silent : (tags : Tags) (t u : CType) (x y : value.Value) → Silent (difference tags t u x y)
unfolding difference
difference_silent tags t u x y =
    if_silent (is_pointer t && is_pointer u) (silent_then (pointer_difference_silent (element_words tags t) x y) (λ z. give_silent _))
    (if_silent (is_pointer t) (pointer_less_silent tags t u x y) (on_words_silent binary.Sub t u x y))

equality_silent : (op : BinOp) (t u : CType) (x y : value.Value) (f : Bool → Bool) → Silent (equality op t u x y f)
unfolding equality
equality_silent op t u x y f =
    if_silent (is_pointer t || is_pointer u || is_null t || is_null u) (silent_then (equal_pointers_silent (compared_kind t u) (as_pointer x) (as_pointer y)) (λ b. give_silent _)) (on_words_silent op t u x y)

order_silent : (op : BinOp) (t u : CType) (x y : value.Value) {m : Run Bool} (f : Bool → Bool) → Silent m → Silent (order op t u x y m f)
unfolding order
order_silent op t u x y f s = if_silent (is_pointer t) (silent_then s (λ b. give_silent _)) (on_words_silent op t u x y)

pub operated_silent : (tags : Tags) (op : BinOp) (t u : CType) (x y : value.Value) → Silent (operated tags op t u x y)
unfolding operated
operated_silent tags binary.Add t u x y = sum_silent tags t u x y
operated_silent tags binary.Sub t u x y = difference_silent tags t u x y
operated_silent tags binary.Eq t u x y = equality_silent binary.Eq t u x y (λ b. b)
operated_silent tags binary.Ne t u x y = equality_silent binary.Ne t u x y not
operated_silent tags binary.Lt t u x y = order_silent binary.Lt t u x y (λ b. b) (pointer_before_silent x y)
operated_silent tags binary.Gt t u x y = order_silent binary.Gt t u x y (λ b. b) (pointer_before_silent y x)
operated_silent tags binary.Le t u x y = order_silent binary.Le t u x y not (pointer_before_silent y x)
operated_silent tags binary.Ge t u x y = order_silent binary.Ge t u x y not (pointer_before_silent x y)
operated_silent tags op t u x y = on_words_silent op t u x y

pub on_word_silent : (op : UnOp) (x : value.Value) → Silent (on_word op x)
unfolding on_word
on_word_silent op x = of_word_silent x (λ n. word_result_silent binary.Add _)

pub value_at_silent : (t : CType) (p : value.Value) → Silent (value_at false t p)
unfolding value_at pointer_to
value_at_silent (Array t n) p = give_silent p
value_at_silent (Struct tag) p = give_silent _
value_at_silent t p = load_silent (kind_of t) p

pub pointed_value_silent : (t : CType) (p : value.Value) → Silent (pointed_value false t p)
unfolding pointed_value
pointed_value_silent (Pointer (type.Function t ts)) p = give_silent p
pointed_value_silent (Pointer t) p = value_at_silent t p
pointed_value_silent t p = undefined_silent value.OtherKind

pub assigned_silent : (t : CType) (p v : value.Value) → Silent (assigned t p v)
unfolding assigned
assigned_silent t p v = store_silent (kind_of t) p (converted t v)

pub updated_silent : (tags : Tags) (op : BinOp) (t u : CType) (p y : value.Value) → Silent (updated tags op t u p y)
unfolding updated
updated_silent tags op t u p y = silent_then (load_silent (kind_of t) p) (λ x. silent_then (operated_silent tags op t u x y) (λ v. assigned_silent t p v))

-- ---- first values

pub clear_silent : (kinds : List Kind) (p : value.Value) → Silent (clear kinds p)
unfolding clear
clear_silent [] p = give_silent tt
clear_silent (kind ∷ kinds) p = silent_then (store_silent kind p (zero_of kind)) (λ _. clear_silent kinds (at_offset p (suc (offset_of p))))

pub spell_silent : (words : List ℕ) (p : value.Value) → Silent (spell words p)
unfolding spell
spell_silent [] p = give_silent tt
spell_silent (c ∷ cs) p = silent_then (store_silent _ p (value.Word c)) (λ _. spell_silent cs (at_offset p (suc (offset_of p))))
