-- What the functions of assignments and steps do at a place.
use Rattle.std.proofs.Common.{◌≡◌, ℕ, ◌+◌, List, Option, Some, None, Bool, true, false, refl}
use Rattle.std.specs.Prelude.{◌||◌, ◌==◌, ℤ, pos, not, if◌then◌else◌}
use Rattle.c_syntax.specs.Plain as plain
use Rattle.c_syntax.specs.Plain.{CExpr}
use Rattle.c_syntax.specs.declared.tree.UnOp.{UnOp}
use Rattle.c_syntax.specs.declared.tree.UnOp.TheVariants as unary
use Rattle.c_syntax.specs.declared.tree.BinOp.{BinOp}
use Rattle.c_syntax.specs.declared.tree.BinOp.TheVariants as binary
use Rattle.c_syntax.specs.Words.{meaning}
use Rattle.c_types.specs.Types as type
use Rattle.c_types.specs.Types.{CType, CTypes, NoType, MoreType, Tags, is_arithmetic, is_pointer, is_null, is_object_pointer, is_function_pointer, is_unsigned}
use Rattle.c_types.specs.Constants as constant
use Rattle.c_types.specs.Constants.{Constant}
use Rattle.c_eval.specs.State.{Value, Word, Null, Point, Letter, Function, Missing, OutsideObject, LiteralWrite, OtherKind, ZeroDivisor, ShiftCount, PointerArithmetic, Cell, Object, State, Run}
use Rattle.c_eval.specs.Run.{after, ◌>>=◌, give, undefined, unless, objects_now}
use Rattle.c_eval.specs.Memory.{Kind, Number, ObjectPointer, FunctionPointer, kind_of, cell_at, read_cell, load, put_cell, write_cell, holds_no_other, store, is_within, offset_by, extent_of, moved, member_at}
use Rattle.c_eval.specs.Operators.{used, as_pointer, converted, word_act, word_result, on_words, pointer_sum, sum}
use Rattle.c_eval.specs.Environment.{Environment}
use Rattle.c_eval.specs.Eval.{World, place_named, unary_place, element, place_of}
use Rattle.c_valid.specs.Valid.{IsValid}
use Rattle.c_valid.proofs.Keeping.{Keeps, bind_keeps, give_keeps, undefined_keeps, unless_keeps, objects_now_keeps}
use Rattle.c_valid.proofs.Operators.{of_word_keeps}
use Rattle.c_fewer_values.proofs.Runs.{Solid, give_solid, undefined_solid, bind_solid, used_solid}
use Rattle.c_fewer_values.proofs.Actions.{word_given, point_given, letter_given, unless_solid, of_word_solid, words_solid, moved_solid}

-- ---- places

member_solid : (n : ℕ) (p : Value) → Solid (member_at n p)
unfolding member_at unless
member_solid n (Point o k) = bind_solid objects_now _ (λ os. unless_solid (is_within (offset_by (Point o k) (pos n)) (extent_of os (Point o k))) OutsideObject _ (give_solid (Point o (k + n)) (point_given o (k + n))))
member_solid n (Letter f i text k) = bind_solid objects_now _ (λ os. unless_solid (is_within (offset_by (Letter f i text k) (pos n)) (extent_of os (Letter f i text k))) OutsideObject _ (give_solid (Letter f i text (k + n)) (letter_given f i text (k + n))))
member_solid n (Word m) = bind_solid objects_now _ (λ os. undefined_solid OutsideObject)
member_solid n Null = bind_solid objects_now _ (λ os. undefined_solid OutsideObject)
member_solid n (Function f) = bind_solid objects_now _ (λ os. undefined_solid OutsideObject)
member_solid n Missing = bind_solid objects_now _ (λ os. undefined_solid OutsideObject)

pointer_sum_solid : (tags : Tags) (t u : CType) (p y : Value) → Solid (pointer_sum tags t u p y)
unfolding pointer_sum
pointer_sum_solid tags t u p y = of_word_solid y _ (λ n. moved_solid p _)

if_solid : (b : Bool) (m n : Run Value) → Solid m → Solid n → Solid (if b then m else n)
if_solid true m n h k = h
if_solid false m n h k = k

pub sum_solid : (tags : Tags) (t u : CType) (x y : Value) → Solid (sum tags t u x y)
unfolding sum
sum_solid tags t u x y = if_solid (is_pointer t) _ _ (pointer_sum_solid tags t u x y) (if_solid (is_pointer u) _ _ (pointer_sum_solid tags u t y x) (words_solid binary.Add t u x y))

element_solid : (w : World) (tags : Tags) (t u : CType) (a b : Run Value) → Solid (element w tags t u a b)
unfolding element
element_solid w tags t u a b = bind_solid a _ (λ x. bind_solid b _ (λ y. sum_solid tags t u x y))

place_named_solid : (o : Option (Option ℕ)) → Solid (place_named o)
unfolding place_named
place_named_solid None = undefined_solid OutsideObject
place_named_solid (Some None) = undefined_solid OutsideObject
place_named_solid (Some (Some o)) = give_solid (Point o 0) (point_given o 0)

unary_place_solid : (op : UnOp) (m : Run Value) → Solid m → Solid (unary_place op m)
unfolding unary_place
unary_place_solid unary.Deref m h = h
unary_place_solid op m h = undefined_solid OutsideObject

-- a place can be used
pub place_solid : (e : CExpr) (w : World) (here : Environment) → Solid (place_of e w here)
place_solid (plain.Str at text) w here = give_solid (Letter w.owner here.literals_before text 0) (letter_given w.owner here.literals_before text 0)
place_solid (plain.Var at name) w here = place_named_solid (meaning here.objects name)
place_solid (plain.Unary at op a) w here = unary_place_solid op _ (used_solid _)
place_solid (plain.Index at a b) w here = element_solid w _ _ _ _ _
place_solid (plain.Member at a m) w here = bind_solid (place_of a w here) _ (λ p. member_solid _ p)
place_solid (plain.Arrow at a m) w here = bind_solid _ _ (λ p. member_solid _ p)
place_solid (plain.Number at n unsigned) w here = undefined_solid OutsideObject
place_solid (plain.Null at) w here = undefined_solid OutsideObject
place_solid (plain.Step at op a) w here = undefined_solid OutsideObject
place_solid (plain.Binary at op a b) w here = undefined_solid OutsideObject
place_solid (plain.Assign at op a b) w here = undefined_solid OutsideObject
place_solid (plain.Cond at a b c) w here = undefined_solid OutsideObject
place_solid (plain.Comma at a b) w here = undefined_solid OutsideObject
place_solid (plain.Cast at ty a) w here = undefined_solid OutsideObject
place_solid (plain.SizeTy at ty) w here = undefined_solid OutsideObject
place_solid (plain.SizeOf at a) w here = undefined_solid OutsideObject
place_solid (plain.Call at f es) w here = undefined_solid OutsideObject

-- ---- the word 0 as a place

null_loads : (kind : Kind) (n : ℕ) (st : State) → load kind Null st ≡ load kind (Word n) st
unfolding load read_cell objects_now ◌>>=◌ after
null_loads kind n st = refl

pub pointer_loads : (kind : Kind) (p : Value) (st : State) → load kind (as_pointer p) st ≡ load kind p st
pointer_loads kind (Word n) st = go (n == 0)
  where
    go : (b : Bool) → load kind (if b then Null else Word n) st ≡ load kind (Word n) st
    go true = null_loads kind n st
    go false = refl
pointer_loads kind Null st = refl
pointer_loads kind (Point o k) st = refl
pointer_loads kind (Letter f i text k) st = refl
pointer_loads kind (Function f) st = refl
pointer_loads kind Missing st = refl

null_stores : (kind : Kind) (n : ℕ) (v : Value) (st : State) → store kind Null v st ≡ store kind (Word n) v st
unfolding store write_cell objects_now ◌>>=◌ after undefined
null_stores kind n v st = refl

pub pointer_stores : (kind : Kind) (p v : Value) (st : State) → store kind (as_pointer p) v st ≡ store kind p v st
pointer_stores kind (Word n) v st = go (n == 0)
  where
    go : (b : Bool) → store kind (if b then Null else Word n) v st ≡ store kind (Word n) v st
    go true = null_stores kind n v st
    go false = refl
pointer_stores kind Null v st = refl
pointer_stores kind (Point o k) v st = refl
pointer_stores kind (Letter f i text k) v st = refl
pointer_stores kind (Function f) v st = refl
pointer_stores kind Missing v st = refl

put_solid : (os : List Object) (p v : Value) → used v ≡ give v → Solid (put_cell os p v)
unfolding put_cell
put_solid os (Point o k) v e = bind_solid _ _ (λ u. give_solid v e)
put_solid os (Letter f i text k) v e = undefined_solid LiteralWrite
put_solid os (Word n) v e = undefined_solid OutsideObject
put_solid os Null v e = undefined_solid OutsideObject
put_solid os (Function f) v e = undefined_solid OutsideObject
put_solid os Missing v e = undefined_solid OutsideObject

write_solid : (kind : Kind) (c : Option Cell) (os : List Object) (p v : Value) → used v ≡ give v → Solid (write_cell kind c os p v)
unfolding write_cell
write_solid kind None os p v e = undefined_solid OutsideObject
write_solid kind (Some c) os p v e = unless_solid (holds_no_other kind c) OtherKind _ (put_solid os p v e)

pub store_solid : (kind : Kind) (p v : Value) → used v ≡ give v → Solid (store kind p v)
unfolding store
store_solid kind p v e = bind_solid objects_now _ (λ os. write_solid kind (cell_at os p) os p v e)

-- ---- kinds

pub number_kind : (t : CType) → is_arithmetic t ≡ true → kind_of t ≡ Number
number_kind type.Int e = refl
number_kind type.Unsigned e = refl
number_kind type.Char e = refl
number_kind type.UChar e = refl
number_kind t e = absurd (cc e)

pub number_plain : (t : CType) → is_arithmetic t ≡ true → (is_pointer t || is_null t) ≡ false
number_plain type.Int e = refl
number_plain type.Unsigned e = refl
number_plain type.Char e = refl
number_plain type.UChar e = refl
number_plain t e = absurd (cc e)

pub object_kind : (t : CType) → is_object_pointer t ≡ true → kind_of t ≡ ObjectPointer
object_kind (type.Pointer t) e = go (is_function_pointer (type.Pointer t)) e
  where
    go : (b : Bool) → not b ≡ true → (if b then FunctionPointer else ObjectPointer) ≡ ObjectPointer
    go true e = absurd (cc e)
    go false e = refl
object_kind t e = absurd (cc e)

pub object_converted : (t : CType) (v : Value) → is_object_pointer t ≡ true → converted t v ≡ as_pointer v
object_converted (type.Pointer t) v e = refl
object_converted t v e = absurd (cc e)

-- ---- what operators give can be used

abbrev pub Usable : Value → Type 0
Usable v = used v ≡ give v

act_usable : (op : BinOp) → Keeps Usable (word_act op)
unfolding word_act
act_usable binary.Div = undefined_keeps ZeroDivisor
act_usable binary.Mod = undefined_keeps ZeroDivisor
act_usable binary.Shl = undefined_keeps ShiftCount
act_usable binary.Shr = undefined_keeps ShiftCount
act_usable op = undefined_keeps OtherKind

result_usable : (op : BinOp) (c : Constant) → Keeps Usable (word_result op c)
unfolding word_result
result_usable op (constant.Value n) = give_keeps (Word n) (word_given n)
result_usable op (constant.Undefined at) = act_usable op
result_usable op constant.NotConstant = undefined_keeps OtherKind

pub words_usable : (op : BinOp) (t u : CType) (x y : Value) → IsValid x → IsValid y → Keeps Usable (on_words op t u x y)
unfolding on_words
words_usable op t u x y a b = of_word_keeps x a (λ m c. of_word_keeps y b (λ n d. result_usable op _))

-- a pointer as it is, which can be used
abbrev pub IsPointed : Value → Type 0
IsPointed v = Usable v × (as_pointer v ≡ v)

pub moved_pointed : (p : Value) (cells : ℤ) → Keeps IsPointed (moved p cells)
unfolding moved unless
moved_pointed (Point o k) cells = bind_keeps objects_now_keeps (λ os valid. unless_keeps (is_within (offset_by (Point o k) cells) (extent_of os (Point o k))) PointerArithmetic (λ e. give_keeps (Point o _) (point_given o _, refl)))
moved_pointed (Letter f i text k) cells = bind_keeps objects_now_keeps (λ os valid. unless_keeps (is_within (offset_by (Letter f i text k) cells) (extent_of os (Letter f i text k))) PointerArithmetic (λ e. give_keeps (Letter f i text _) (letter_given f i text _, refl)))
moved_pointed (Word n) cells = bind_keeps objects_now_keeps (λ os valid. undefined_keeps PointerArithmetic)
moved_pointed Null cells = bind_keeps objects_now_keeps (λ os valid. undefined_keeps PointerArithmetic)
moved_pointed (Function f) cells = bind_keeps objects_now_keeps (λ os valid. undefined_keeps PointerArithmetic)
moved_pointed Missing cells = bind_keeps objects_now_keeps (λ os valid. undefined_keeps PointerArithmetic)
