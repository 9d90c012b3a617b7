-- Operators on values neither take nor write a byte.
use Rattle.std.proofs.Common.{◌≡◌, ℕ, List, [], ◌∷◌, ◌++◌, Option, Some, None, Bool, true, false, cond, refl, ◌∙◌, subst}
use Rattle.std.specs.Prelude.{ℤ, ◌*ℤ◌, ◌||◌, if◌then◌else◌, codes, drop}
use Rattle.std.specs.Str.{bytes_eq}
use Rattle.std.proofs.lemmas.Slice.Eq.{bytes_eq-Decides}
use Rattle.word24.specs.Word.{signed_of}
use Rattle.c_syntax.specs.Words.{meaning}
use Rattle.c_syntax.specs.declared.tree.UnOp.{UnOp}
use Rattle.c_syntax.specs.declared.tree.UnOp.TheVariants as unary
use Rattle.c_syntax.specs.declared.tree.BinOp.{BinOp}
use Rattle.c_syntax.specs.declared.tree.BinOp.TheVariants as binary
use Rattle.c_types.specs.Types.{CType}
use Rattle.c_types.specs.Constants as constant
use Rattle.c_types.specs.Constants.{Constant, counted}
use Rattle.c_eval.specs.State.{Value, Word, Null, Point, Letter, Function, Missing, Cell, Unset, Holds, Object, Act, ZeroDivisor, OutsideObject, OtherKind, UnsetCell, LiteralWrite, PointerArithmetic, PointerOrder, ShiftCount, State, Outcome, Gives, Ended, Going, Undefined, Run}
use Rattle.c_eval.specs.Run.{after, ◌>>=◌, give, undefined, unless, objects_now, with_objects}
use Rattle.c_eval.specs.Memory.{Kind, Number, ObjectPointer, cell_at, read_cell, load, put_cell, write_cell, store, moved, pointer_difference}
use Rattle.c_eval.specs.Operators.{of_word, word_act, word_result, on_words, on_word}
use Rattle.c_helpers.specs.Functions.{put_string}
use Rattle.c_helpers.specs.Meanings.{Action, of_one, of_two, of_three, counting, operator, updating, compound, pointer_sum, swapped_sum, moving_sum, pointer_step, elements_between, string_put, format_put, actions, is_format, stands_for}
use Rattle.c_worlds.specs.Silent.{ShowsNoMore, prints, OperatorsAreSilent}

-- a part of a run that neither takes nor writes a byte
record IsSilent {A : Type 0} (m : Run A) : Type 0 where
  pub shows : (st : State) → ShowsNoMore st (m st)

-- ---- how parts are put together

from_there : {A : Type 0} (st mid : State) (r : Outcome A) → (mid.taken ≡ st.taken) × (mid.output ≡ st.output) → ShowsNoMore mid r → ShowsNoMore st r
from_there st mid (Gives a after) h k = (k.0 ∙ h.0, k.1 ∙ h.1)
from_there st mid (Ended after) h k = (k.0 ∙ h.0, k.1 ∙ h.1)
from_there st mid (Going after) h k = (k.0 ∙ h.0, k.1 ∙ h.1)
from_there st mid (Undefined act after) h k = (k.0 ∙ h.0, k.1 ∙ h.1)

after_shows : {A B : Type 0} (st : State) (r : Outcome A) (f : A → Run B) → ShowsNoMore st r → ((a : A) → IsSilent (f a)) → ShowsNoMore st (after r f)
unfolding after
after_shows st (Gives a mid) f h k = from_there st mid (f a mid) h ((k a).shows mid)
after_shows st (Ended mid) f h k = h
after_shows st (Going mid) f h k = h
after_shows st (Undefined act mid) f h k = h

bind_silent : {A B : Type 0} {m : Run A} {f : A → Run B} → IsSilent m → ((a : A) → IsSilent (f a)) → IsSilent (m >>= f)
unfolding ◌>>=◌
bind_silent {m = m} {f = f} h k = record { shows = λ st. after_shows st (m st) f (h.shows st) k }

give_silent : {A : Type 0} (a : A) → IsSilent (give a)
unfolding give
give_silent a = record { shows = λ st. (refl, refl) }

undefined_silent : {A : Type 0} (act : Act) → IsSilent {A = A} (undefined act)
unfolding undefined
undefined_silent act = record { shows = λ st. (refl, refl) }

unless_silent : {A : Type 0} (b : Bool) (act : Act) {m : Run A} → IsSilent m → IsSilent (unless b act m)
unfolding unless
unless_silent true act h = h
unless_silent false act h = undefined_silent act

objects_silent : IsSilent objects_now
unfolding objects_now
objects_silent = record { shows = λ st. (refl, refl) }

with_objects_silent : (os : List Object) → IsSilent (with_objects os)
unfolding with_objects
with_objects_silent os = record { shows = λ st. (refl, refl) }

-- ---- reads and writes

read_silent : (kind : Kind) (c : Option Cell) → IsSilent (read_cell kind c)
unfolding read_cell
read_silent kind None = undefined_silent OutsideObject
read_silent kind (Some Unset) = undefined_silent UnsetCell
read_silent kind (Some (Holds v)) = unless_silent _ OtherKind (give_silent v)

load_silent : (kind : Kind) (p : Value) → IsSilent (load kind p)
unfolding load
load_silent kind p = bind_silent objects_silent (λ os. read_silent kind (cell_at os p))

put_silent : (os : List Object) (p v : Value) → IsSilent (put_cell os p v)
unfolding put_cell
put_silent os (Point o k) v = bind_silent (with_objects_silent _) (λ _. give_silent v)
put_silent os (Letter f i text k) v = undefined_silent LiteralWrite
put_silent os (Word n) v = undefined_silent OutsideObject
put_silent os Null v = undefined_silent OutsideObject
put_silent os (Function name) v = undefined_silent OutsideObject
put_silent os Missing v = undefined_silent OutsideObject

write_silent : (kind : Kind) (c : Option Cell) (os : List Object) (p v : Value) → IsSilent (write_cell kind c os p v)
unfolding write_cell
write_silent kind None os p v = undefined_silent OutsideObject
write_silent kind (Some c) os p v = unless_silent _ OtherKind (put_silent os p v)

store_silent : (kind : Kind) (p v : Value) → IsSilent (store kind p v)
unfolding store
store_silent kind p v = bind_silent objects_silent (λ os. write_silent kind (cell_at os p) os p v)

moved_silent : (p : Value) (cells : ℤ) → IsSilent (moved p cells)
unfolding moved
moved_silent p cells = bind_silent objects_silent (λ os. unless_silent _ PointerArithmetic (give_silent _))

difference_silent : (cells : ℕ) (p q : Value) → IsSilent (pointer_difference cells p q)
unfolding pointer_difference
difference_silent cells p q = unless_silent _ OtherKind (unless_silent _ PointerOrder (give_silent _))

-- ---- words

of_word_silent : {A : Type 0} (v : Value) {f : ℕ → Run A} → ((n : ℕ) → IsSilent (f n)) → IsSilent (of_word v f)
unfolding of_word
of_word_silent (Word n) h = h n
of_word_silent Missing h = undefined_silent OtherKind
of_word_silent Null h = undefined_silent OtherKind
of_word_silent (Point o k) h = undefined_silent OtherKind
of_word_silent (Letter f i text k) h = undefined_silent OtherKind
of_word_silent (Function f) h = undefined_silent OtherKind

act_silent : (op : BinOp) → IsSilent (word_act op)
unfolding word_act
act_silent binary.Div = undefined_silent ZeroDivisor
act_silent binary.Mod = undefined_silent ZeroDivisor
act_silent binary.Shl = undefined_silent ShiftCount
act_silent binary.Shr = undefined_silent ShiftCount
act_silent op = undefined_silent OtherKind

result_silent : (op : BinOp) (c : Constant) → IsSilent (word_result op c)
unfolding word_result
result_silent op (constant.Value n) = give_silent (Word n)
result_silent op (constant.Undefined at) = act_silent op
result_silent op constant.NotConstant = undefined_silent OtherKind

words_silent : (op : BinOp) (t u : CType) (x y : Value) → IsSilent (on_words op t u x y)
unfolding on_words
words_silent op t u x y = of_word_silent x (λ m. of_word_silent y (λ n. result_silent op _))

word_silent : (op : UnOp) (x : Value) → IsSilent (on_word op x)
unfolding on_word
word_silent op x = of_word_silent x (λ n. result_silent binary.Add _)

-- ---- what helper functions stand for

record ActionIsSilent (f : Action) : Type 0 where
  pub silent : (vs : List Value) → IsSilent (f vs)

one_silent : (f : Value → Run Value) → ((x : Value) → IsSilent (f x)) → (vs : List Value) → IsSilent (of_one f vs)
unfolding of_one
one_silent f h [] = undefined_silent OtherKind
one_silent f h (x ∷ []) = h x
one_silent f h (x ∷ y ∷ vs) = undefined_silent OtherKind

two_silent : (f : Value → Value → Run Value) → ((x y : Value) → IsSilent (f x y)) → (vs : List Value) → IsSilent (of_two f vs)
unfolding of_two
two_silent f h [] = undefined_silent OtherKind
two_silent f h (x ∷ []) = undefined_silent OtherKind
two_silent f h (x ∷ y ∷ []) = h x y
two_silent f h (x ∷ y ∷ z ∷ vs) = undefined_silent OtherKind

three_silent : (f : Value → Value → Value → Run Value) → ((x y z : Value) → IsSilent (f x y z)) → (vs : List Value) → IsSilent (of_three f vs)
unfolding of_three
three_silent f h [] = undefined_silent OtherKind
three_silent f h (x ∷ []) = undefined_silent OtherKind
three_silent f h (x ∷ y ∷ []) = undefined_silent OtherKind
three_silent f h (x ∷ y ∷ z ∷ []) = h x y z
three_silent f h (x ∷ y ∷ z ∷ u ∷ vs) = undefined_silent OtherKind

operator_silent : (op : BinOp) (unsigned : Bool) → ActionIsSilent (operator op unsigned)
operator_silent op unsigned = record { silent = two_silent _ (λ x y. words_silent op (counting unsigned) (counting unsigned) x y) }

updating_silent : (op : BinOp) (unsigned : Bool) (p y : Value) → IsSilent (updating op unsigned p y)
unfolding updating
updating_silent op unsigned p y = bind_silent (load_silent Number p) (λ x. bind_silent (words_silent op (counting unsigned) (counting unsigned) x y) (λ v. store_silent Number p v))

compound_silent : (op : BinOp) (unsigned : Bool) → ActionIsSilent (compound op unsigned)
compound_silent op unsigned = record { silent = two_silent (updating op unsigned) (updating_silent op unsigned) }

sum_silent : (unsigned : Bool) (p x k : Value) → IsSilent (pointer_sum unsigned p x k)
unfolding pointer_sum
sum_silent unsigned p x k = of_word_silent x (λ n. of_word_silent k (λ words. moved_silent p (counted unsigned n *ℤ signed_of words)))

swapped_silent : (unsigned : Bool) (x p k : Value) → IsSilent (swapped_sum unsigned x p k)
unfolding swapped_sum
swapped_silent unsigned x p k = sum_silent unsigned p x k

moving_silent : (unsigned : Bool) (p x k : Value) → IsSilent (moving_sum unsigned p x k)
unfolding moving_sum
moving_silent unsigned p x k = bind_silent (load_silent ObjectPointer p) (λ old. bind_silent (sum_silent unsigned old x k) (λ new. store_silent ObjectPointer p new))

step_silent : (p k : Value) → IsSilent (pointer_step p k)
unfolding pointer_step
step_silent p k = bind_silent (load_silent ObjectPointer p) (λ old. bind_silent (sum_silent false old (Word 1) k) (λ new. bind_silent (store_silent ObjectPointer p new) (λ _. give_silent old)))

between_silent : (p q k : Value) → IsSilent (elements_between p q k)
unfolding elements_between
between_silent p q k = of_word_silent k (λ words. bind_silent (difference_silent words p q) (λ z. give_silent _))

-- ---- all but those that print

-- each of a list is silent, or has the name of the function of `puts`
abbrev AreSilent : List (List ℕ × Action) → Type 0
AreSilent [] = Unit {0}
AreSilent (x ∷ xs) = (bytes_eq x.0 put_string.name ≡ false → ActionIsSilent x.1) × AreSilent xs

pointers_silent : AreSilent ((codes "~", of_one (on_word unary.Invert))
    ∷ (codes "pointer + int", of_three (pointer_sum false)) ∷ (codes "pointer + unsigned", of_three (pointer_sum true))
    ∷ (codes "int + pointer", of_three (swapped_sum false)) ∷ (codes "unsigned + pointer", of_three (swapped_sum true))
    ∷ (codes "pointer += int", of_three (moving_sum false)) ∷ (codes "pointer += unsigned", of_three (moving_sum true))
    ∷ (codes "pointer++", of_two pointer_step)
    ∷ (codes "pointer - pointer", of_three elements_between)
    ∷ (codes "string and line feed", of_one string_put)
    ∷ [])
pointers_silent = (
  (λ _. record { silent = one_silent _ (word_silent unary.Invert) }),
  (
    (λ _. record { silent = three_silent (pointer_sum false) (sum_silent false) }),
    (
      (λ _. record { silent = three_silent (pointer_sum true) (sum_silent true) }),
      (
        (λ _. record { silent = three_silent (swapped_sum false) (swapped_silent false) }),
        (
          (λ _. record { silent = three_silent (swapped_sum true) (swapped_silent true) }),
          (
            (λ _. record { silent = three_silent (moving_sum false) (moving_silent false) }),
            (
              (λ _. record { silent = three_silent (moving_sum true) (moving_silent true) }),
              (
                (λ _. record { silent = two_silent pointer_step step_silent }),
                (
                  (λ _. record { silent = three_silent elements_between between_silent }),
                  ((λ e. absurd (cc e)), tt),
                ),
              ),
            ),
          ),
        ),
      ),
    ),
  ),
)

actions_silent : AreSilent actions
actions_silent = ((λ _. operator_silent binary.Mul false), ((λ _. compound_silent binary.Mul false), ((λ _. operator_silent binary.Div true), ((λ _. compound_silent binary.Div true), ((λ _. operator_silent binary.Div false), ((λ _. compound_silent binary.Div false), ((λ _. operator_silent binary.Mod true), ((λ _. compound_silent binary.Mod true), ((λ _. operator_silent binary.Mod false), ((λ _. compound_silent binary.Mod false), ((λ _. operator_silent binary.BitAnd false), ((λ _. compound_silent binary.BitAnd false), ((λ _. operator_silent binary.BitOr false), ((λ _. compound_silent binary.BitOr false), ((λ _. operator_silent binary.BitXor false), ((λ _. compound_silent binary.BitXor false), ((λ _. operator_silent binary.Shl false), ((λ _. compound_silent binary.Shl false), ((λ _. operator_silent binary.Shr true), ((λ _. compound_silent binary.Shr true), ((λ _. operator_silent binary.Shr false), ((λ _. compound_silent binary.Shr false), pointers_silent))))))))))))))))))))))

-- one that is found is one of them
found_silent : (xs : List (List ℕ × Action)) (name : List ℕ) (action : Action) → AreSilent xs → bytes_eq name put_string.name ≡ false → meaning xs name ≡ Some action → ActionIsSilent action
found_silent [] name action h n e = absurd (cc e)
found_silent (x ∷ xs) name action h n e = go (bytes_eq name x.0) refl (λ k. found_silent xs name action h.1 n k) e
  where
    same : bytes_eq name x.0 ≡ true → Some x.1 ≡ Some action → ActionIsSilent action
    same b e = let one : x.1 ≡ action = cc e in let named : name ≡ x.0 = (bytes_eq-Decides name x.0).0 b in subst (λ f. ActionIsSilent f) one (h.0 (subst (λ z. bytes_eq z put_string.name ≡ false) named n))

    go : (b : Bool) → bytes_eq name x.0 ≡ b → (meaning xs name ≡ Some action → ActionIsSilent action) → cond b (Some x.1) (meaning xs name) ≡ Some action → ActionIsSilent action
    go true b more e = same b e
    go false b more e = more e

named_silent : (name : List ℕ) (action : Action) → stands_for name ≡ Some action → prints name ≡ false → ActionIsSilent action
named_silent name action e n = go (is_format name) e n
  where
    go : (b : Bool) → (if b then Some (format_put (drop 7 name)) else meaning actions name) ≡ Some action → (b || bytes_eq name put_string.name) ≡ false → ActionIsSilent action
    go true e n = absurd (cc n)
    go false e n = found_silent actions name action actions_silent n e

pub operators_are_silent : OperatorsAreSilent
operators_are_silent name action vs st e n = ((named_silent name action e n).silent vs).shows st
