-- The words from which runs are made, that leave the state as it is.
use Rattle.std.proofs.Common.{◌≡◌, ℕ, Bool, true, false, not, ◌&&◌, List, Option, Some, None, refl, subst, if◌then◌else◌}
use Rattle.std.specs.Prelude.{ℤ}
use Rattle.c_syntax.specs.declared.tree.UnOp.{UnOp}
use Rattle.c_syntax.specs.declared.tree.UnOp.TheVariants as unary
use Rattle.c_syntax.specs.declared.tree.BinOp.{BinOp}
use Rattle.c_syntax.specs.declared.tree.BinOp.TheVariants as binary
use Rattle.c_types.specs.Types as type
use Rattle.c_types.specs.Types.{CType, Tags}
use Rattle.c_types.specs.Constants as constant
use Rattle.c_types.specs.Constants.{Constant}
use Rattle.c_types.specs.Scope.{Entity, Object as TheObject, Routine, BuiltIn, Printf}
use Rattle.c_eval.specs.State as value
use Rattle.c_eval.specs.State.{Value, Cell, Unset, Holds, Object, Act, State, Outcome, Gives, Ended, Going, Undefined, Run}
use Rattle.c_eval.specs.Run.{after, ◌>>=◌, give, undefined, unless, choose, objects_now}
use Rattle.c_eval.specs.Memory.{Kind, read_cell, load, moved, member_at, equal_pointers, pointer_before, pointer_difference}
use Rattle.c_eval.specs.Operators.{used, of_word, word_act, word_result, on_words, pointer_sum, pointer_less, sum, difference, equality, order, operated, combined, on_word, pointer_to, value_at, pointed_value}
use Rattle.c_eval.specs.Environment.{Environment}
use Rattle.c_eval.specs.Eval.{World, place_named, value_named, unary_value, unary_place, cast_value, element}
use Rattle.c_valued.specs.QuietLaws.{IsStill}

-- from each state
pub record Still {A : Type 0} (m : Run A) : Type 0 where
  pub at : (st : State) → IsStill st (m st)

pub give_still : {A : Type 0} (v : A) → Still (give v)
unfolding give
give_still v = record { at = λ st. refl }

pub undefined_still : {A : Type 0} (act : Act) → Still {A = A} (undefined act)
unfolding undefined
undefined_still act = record { at = λ st. refl }

pub then_still : {A B : Type 0} {m : Run A} {f : A → Run B} → Still m → ((v : A) → Still (f v)) → Still (m >>= f)
unfolding ◌>>=◌ after
then_still {A} {B} {m} {f} h k = record { at = λ st. go st (m st) (h.at st) }
  where
    go : (st : State) (o : Outcome A) → IsStill st o → IsStill st (after o f)
    go st (Gives v behind) e = subst (λ z. IsStill z (f v behind)) e ((k v).at behind)
    go st (Ended behind) e = e
    go st (Going behind) e = e
    go st (Undefined act behind) e = e

pub unless_still : {A : Type 0} (b : Bool) (act : Act) {m : Run A} → Still m → Still (unless b act m)
unfolding unless
unless_still true act h = h
unless_still false act h = undefined_still act

pub choose_still : {A : Type 0} (b : Bool) {m n : Run A} → Still m → Still n → Still (choose b m n)
unfolding choose
choose_still true h k = h
choose_still false h k = k

pub if_still : {A : Type 0} (b : Bool) {m n : Run A} → Still m → Still n → Still (if b then m else n)
if_still true h k = h
if_still false h k = k

objects_still : Still objects_now
unfolding objects_now
objects_still = record { at = λ st. refl }

pub used_still : (v : Value) → Still (used v)
unfolding used
used_still (value.Word n) = give_still _
used_still value.Null = give_still _
used_still (value.Point o k) = give_still _
used_still (value.Letter f i text k) = give_still _
used_still (value.Function name) = give_still _
used_still value.Missing = undefined_still _

of_word_still : {A : Type 0} (v : Value) (f : ℕ → Run A) → ((n : ℕ) → Still (f n)) → Still (of_word v f)
unfolding of_word
of_word_still (value.Word n) f h = h n
of_word_still value.Null f h = undefined_still _
of_word_still (value.Point o k) f h = undefined_still _
of_word_still (value.Letter g i text k) f h = undefined_still _
of_word_still (value.Function name) f h = undefined_still _
of_word_still value.Missing f h = undefined_still _

word_act_still : (op : BinOp) → Still (word_act op)
unfolding word_act
word_act_still binary.Or = undefined_still _
word_act_still binary.And = undefined_still _
word_act_still binary.BitOr = undefined_still _
word_act_still binary.BitXor = undefined_still _
word_act_still binary.BitAnd = undefined_still _
word_act_still binary.Eq = undefined_still _
word_act_still binary.Ne = undefined_still _
word_act_still binary.Lt = undefined_still _
word_act_still binary.Gt = undefined_still _
word_act_still binary.Le = undefined_still _
word_act_still binary.Ge = undefined_still _
word_act_still binary.Shl = undefined_still _
word_act_still binary.Shr = undefined_still _
word_act_still binary.Add = undefined_still _
word_act_still binary.Sub = undefined_still _
word_act_still binary.Mul = undefined_still _
word_act_still binary.Div = undefined_still _
word_act_still binary.Mod = undefined_still _

word_result_still : (op : BinOp) (c : Constant) → Still (word_result op c)
unfolding word_result
word_result_still op (constant.Value n) = give_still _
word_result_still op (constant.Undefined at) = word_act_still op
word_result_still op constant.NotConstant = undefined_still _

on_words_still : (op : BinOp) (t u : CType) (x y : Value) → Still (on_words op t u x y)
unfolding on_words
on_words_still op t u x y = of_word_still x _ (λ m. of_word_still y _ (λ n. word_result_still op _))

-- ---- cells and pointers

read_still : (kind : Kind) (c : Option Cell) → Still (read_cell kind c)
unfolding read_cell
read_still kind None = undefined_still _
read_still kind (Some Unset) = undefined_still _
read_still kind (Some (Holds v)) = unless_still _ _ (give_still v)

load_still : (kind : Kind) (p : Value) → Still (load kind p)
unfolding load
load_still kind p = then_still objects_still (λ os. read_still kind _)

moved_still : (p : Value) (cells : ℤ) → Still (moved p cells)
unfolding moved
moved_still p cells = then_still objects_still (λ os. unless_still _ _ (give_still _))

pub member_still : (n : ℕ) (p : Value) → Still (member_at n p)
unfolding member_at
member_still n p = then_still objects_still (λ os. unless_still _ _ (give_still _))

equal_still : (kind : Kind) (p q : Value) → Still (equal_pointers kind p q)
unfolding equal_pointers
equal_still kind p q = then_still objects_still (λ os. unless_still _ _ (unless_still _ _ (give_still _)))

before_still : (p q : Value) → Still (pointer_before p q)
unfolding pointer_before
before_still p q = unless_still _ _ (unless_still _ _ (give_still _))

between_still : (cells : ℕ) (p q : Value) → Still (pointer_difference cells p q)
unfolding pointer_difference
between_still cells p q = unless_still _ _ (unless_still _ _ (give_still _))

-- ---- operators

pointer_sum_still : (tags : Tags) (t u : CType) (p y : Value) → Still (pointer_sum tags t u p y)
unfolding pointer_sum
pointer_sum_still tags t u p y = of_word_still y _ (λ n. moved_still p _)

pointer_less_still : (tags : Tags) (t u : CType) (p y : Value) → Still (pointer_less tags t u p y)
unfolding pointer_less
pointer_less_still tags t u p y = of_word_still y _ (λ n. moved_still p _)

pub sum_still : (tags : Tags) (t u : CType) (x y : Value) → Still (sum tags t u x y)
unfolding sum
sum_still tags t u x y = if_still _ (pointer_sum_still tags t u x y) (if_still _ (pointer_sum_still tags u t y x) (on_words_still binary.Add t u x y))

difference_still : (tags : Tags) (t u : CType) (x y : Value) → Still (difference tags t u x y)
unfolding difference
difference_still tags t u x y = if_still _ (then_still (between_still _ x y) (λ z. give_still _)) (if_still _ (pointer_less_still tags t u x y) (on_words_still binary.Sub t u x y))

equality_still : (op : BinOp) (t u : CType) (x y : Value) (f : Bool → Bool) → Still (equality op t u x y f)
unfolding equality
equality_still op t u x y f = if_still _ (then_still (equal_still _ _ _) (λ b. give_still _)) (on_words_still op t u x y)

order_still : (op : BinOp) (t u : CType) (x y : Value) {before : Run Bool} (f : Bool → Bool) → Still before → Still (order op t u x y before f)
unfolding order
order_still op t u x y f h = if_still _ (then_still h (λ b. give_still _)) (on_words_still op t u x y)

operated_still : (tags : Tags) (op : BinOp) (t u : CType) (x y : Value) → Still (operated tags op t u x y)
unfolding operated
operated_still tags binary.Add t u x y = sum_still tags t u x y
operated_still tags binary.Sub t u x y = difference_still tags t u x y
operated_still tags binary.Eq t u x y = equality_still binary.Eq t u x y (λ b. b)
operated_still tags binary.Ne t u x y = equality_still binary.Ne t u x y not
operated_still tags binary.Lt t u x y = order_still binary.Lt t u x y (λ b. b) (before_still x y)
operated_still tags binary.Gt t u x y = order_still binary.Gt t u x y (λ b. b) (before_still y x)
operated_still tags binary.Le t u x y = order_still binary.Le t u x y not (before_still y x)
operated_still tags binary.Ge t u x y = order_still binary.Ge t u x y not (before_still x y)
operated_still tags binary.Or t u x y = on_words_still binary.Or t u x y
operated_still tags binary.And t u x y = on_words_still binary.And t u x y
operated_still tags binary.BitOr t u x y = on_words_still binary.BitOr t u x y
operated_still tags binary.BitXor t u x y = on_words_still binary.BitXor t u x y
operated_still tags binary.BitAnd t u x y = on_words_still binary.BitAnd t u x y
operated_still tags binary.Shl t u x y = on_words_still binary.Shl t u x y
operated_still tags binary.Shr t u x y = on_words_still binary.Shr t u x y
operated_still tags binary.Mul t u x y = on_words_still binary.Mul t u x y
operated_still tags binary.Div t u x y = on_words_still binary.Div t u x y
operated_still tags binary.Mod t u x y = on_words_still binary.Mod t u x y

pub combined_still : (tags : Tags) (op : BinOp) (t u : CType) {a b : Run Value} → Still a → Still b → Still (combined tags op t u a b)
unfolding combined
combined_still tags binary.And t u ha hb = then_still ha (λ x. choose_still _ (then_still hb (λ y. give_still _)) (give_still _))
combined_still tags binary.Or t u ha hb = then_still ha (λ x. choose_still _ (give_still _) (then_still hb (λ y. give_still _)))
combined_still tags binary.BitOr t u ha hb = then_still ha (λ x. then_still hb (λ y. operated_still tags binary.BitOr t u x y))
combined_still tags binary.BitXor t u ha hb = then_still ha (λ x. then_still hb (λ y. operated_still tags binary.BitXor t u x y))
combined_still tags binary.BitAnd t u ha hb = then_still ha (λ x. then_still hb (λ y. operated_still tags binary.BitAnd t u x y))
combined_still tags binary.Eq t u ha hb = then_still ha (λ x. then_still hb (λ y. operated_still tags binary.Eq t u x y))
combined_still tags binary.Ne t u ha hb = then_still ha (λ x. then_still hb (λ y. operated_still tags binary.Ne t u x y))
combined_still tags binary.Lt t u ha hb = then_still ha (λ x. then_still hb (λ y. operated_still tags binary.Lt t u x y))
combined_still tags binary.Gt t u ha hb = then_still ha (λ x. then_still hb (λ y. operated_still tags binary.Gt t u x y))
combined_still tags binary.Le t u ha hb = then_still ha (λ x. then_still hb (λ y. operated_still tags binary.Le t u x y))
combined_still tags binary.Ge t u ha hb = then_still ha (λ x. then_still hb (λ y. operated_still tags binary.Ge t u x y))
combined_still tags binary.Shl t u ha hb = then_still ha (λ x. then_still hb (λ y. operated_still tags binary.Shl t u x y))
combined_still tags binary.Shr t u ha hb = then_still ha (λ x. then_still hb (λ y. operated_still tags binary.Shr t u x y))
combined_still tags binary.Add t u ha hb = then_still ha (λ x. then_still hb (λ y. operated_still tags binary.Add t u x y))
combined_still tags binary.Sub t u ha hb = then_still ha (λ x. then_still hb (λ y. operated_still tags binary.Sub t u x y))
combined_still tags binary.Mul t u ha hb = then_still ha (λ x. then_still hb (λ y. operated_still tags binary.Mul t u x y))
combined_still tags binary.Div t u ha hb = then_still ha (λ x. then_still hb (λ y. operated_still tags binary.Div t u x y))
combined_still tags binary.Mod t u ha hb = then_still ha (λ x. then_still hb (λ y. operated_still tags binary.Mod t u x y))

on_word_still : (op : UnOp) (x : Value) → Still (on_word op x)
unfolding on_word
on_word_still op x = of_word_still x _ (λ n. word_result_still binary.Add _)

-- ---- places

pointer_to_still : (inner : Bool) (p : Value) → Still (pointer_to inner p)
unfolding pointer_to
pointer_to_still false p = give_still p
pointer_to_still true p = undefined_still _

pub value_at_still : (inner : Bool) (t : CType) (p : Value) → Still (value_at inner t p)
unfolding value_at
value_at_still inner (type.Array t n) p = pointer_to_still inner p
value_at_still inner (type.Struct tag) p = give_still _
value_at_still inner (type.Function t ts) p = load_still _ p
value_at_still inner type.Void p = load_still _ p
value_at_still inner type.Int p = load_still _ p
value_at_still inner type.Unsigned p = load_still _ p
value_at_still inner type.Char p = load_still _ p
value_at_still inner type.UChar p = load_still _ p
value_at_still inner type.Null p = load_still _ p
value_at_still inner (type.Pointer t) p = load_still _ p

pointed_still : (inner : Bool) (t : CType) (p : Value) → Still (pointed_value inner t p)
unfolding pointed_value
pointed_still inner (type.Array t n) p = undefined_still _
pointed_still inner (type.Struct tag) p = undefined_still _
pointed_still inner (type.Function t ts) p = undefined_still _
pointed_still inner type.Void p = undefined_still _
pointed_still inner type.Int p = undefined_still _
pointed_still inner type.Unsigned p = undefined_still _
pointed_still inner type.Char p = undefined_still _
pointed_still inner type.UChar p = undefined_still _
pointed_still inner type.Null p = undefined_still _
pointed_still inner (type.Pointer (type.Array t n)) p = value_at_still inner (type.Array t n) p
pointed_still inner (type.Pointer (type.Struct tag)) p = value_at_still inner (type.Struct tag) p
pointed_still inner (type.Pointer (type.Function t ts)) p = give_still p
pointed_still inner (type.Pointer type.Void) p = value_at_still inner type.Void p
pointed_still inner (type.Pointer type.Int) p = value_at_still inner type.Int p
pointed_still inner (type.Pointer type.Unsigned) p = value_at_still inner type.Unsigned p
pointed_still inner (type.Pointer type.Char) p = value_at_still inner type.Char p
pointed_still inner (type.Pointer type.UChar) p = value_at_still inner type.UChar p
pointed_still inner (type.Pointer type.Null) p = value_at_still inner type.Null p
pointed_still inner (type.Pointer (type.Pointer t)) p = value_at_still inner (type.Pointer t) p

pub place_named_still : (o : Option (Option ℕ)) → Still (place_named o)
unfolding place_named
place_named_still None = undefined_still _
place_named_still (Some None) = undefined_still _
place_named_still (Some (Some o)) = give_still _

pub named_still : (w : World) (here : Environment) (name : List ℕ) (entity : Option Entity) → Still (value_named w here name entity)
unfolding value_named
named_still w here name None = give_still _
named_still w here name (Some (TheObject t)) = then_still (place_named_still _) (λ p. value_at_still w.inner t p)
named_still w here name (Some (Routine t begun)) = give_still _
named_still w here name (Some (BuiltIn t)) = give_still _
named_still w here name (Some Printf) = give_still _

pub unary_still : (w : World) (s : _) (op : UnOp) (a : _) {value place : Run Value} → Still value → Still place → Still (unary_value w s op a value place)
unfolding unary_value
unary_still w s unary.Address a hv hp = if_still _ hv (then_still hp (λ p. pointer_to_still w.inner p))
unary_still w s unary.Deref a hv hp = then_still hv (λ p. pointed_still w.inner _ p)
unary_still w s unary.Not a hv hp = then_still hv (λ v. give_still _)
unary_still w s unary.Plus a hv hp = then_still hv (λ v. on_word_still unary.Plus v)
unary_still w s unary.Minus a hv hp = then_still hv (λ v. on_word_still unary.Minus v)
unary_still w s unary.Invert a hv hp = then_still hv (λ v. on_word_still unary.Invert v)

pub unary_place_still : (op : UnOp) {value : Run Value} → Still value → Still (unary_place op value)
unfolding unary_place
unary_place_still unary.Deref h = h
unary_place_still unary.Address h = undefined_still _
unary_place_still unary.Not h = undefined_still _
unary_place_still unary.Plus h = undefined_still _
unary_place_still unary.Minus h = undefined_still _
unary_place_still unary.Invert h = undefined_still _

pub cast_still : (t : CType) {value : Run Value} → Still value → Still (cast_value t value)
unfolding cast_value
cast_still t h = if_still _ (then_still h (λ v. give_still _)) (then_still h (λ v. used_still v))

pub element_still : (w : World) (tags : Tags) (t u : CType) {a b : Run Value} → Still a → Still b → Still (element w tags t u a b)
unfolding element
element_still w tags t u ha hb = then_still ha (λ x. then_still hb (λ y. sum_still tags t u x y))

-- both tests hold
pub both : (a b : Bool) → a && b ≡ true → (a ≡ true) × (b ≡ true)
both true b h = (refl, h)
both false b h = absurd (cc h)
