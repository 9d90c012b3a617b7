-- The actions of helper functions keep values valid, each by the operators of which it is made.
use Rattle.std.proofs.Common.{◌≡◌, ℕ, ◌<◌, ◌^◌, List, [], ◌∷◌, Some, Bool, true, false, cond, subst, arith}
use Rattle.std.specs.Prelude.{◌*ℤ◌, if◌then◌else◌, codes, drop}
use Rattle.std.specs.Str.{bytes_eq}
use Rattle.word24.specs.Word.{signed_of}
use Rattle.c_syntax.specs.Words.{meaning}
use Rattle.c_syntax.specs.declared.tree.UnOp.TheVariants as unary
use Rattle.c_syntax.specs.declared.tree.BinOp.{BinOp}
use Rattle.c_syntax.specs.declared.tree.BinOp.TheVariants as binary
use Rattle.c_types.specs.Constants.{counted}
use Rattle.c_eval.specs.State.{Value, Word, OtherKind, Run}
use Rattle.c_eval.specs.Memory.{Number, ObjectPointer}
use Rattle.c_eval.specs.Operators.{on_word}
use Rattle.c_eval.specs.BuiltIns.{built_in, with_one}
use Rattle.c_valid.specs.Valid.{IsValid, AreValid}
use Rattle.c_valid.proofs.Keeping.{Keeps, bind_keeps, give_keeps, undefined_keeps, paid_keeps}
use Rattle.c_valid.proofs.Objects.{load_keeps, store_keeps, moved_keeps, pointer_difference_keeps}
use Rattle.c_valid.proofs.Operators.{wrapped_below, of_word_keeps, on_words_keeps, on_word_keeps, printf_keeps, built_in_keeps}
use Rattle.c_helpers.specs.Meanings.{Action, of_one, of_two, of_three, counting, operator, updating, compound, pointer_sum, swapped_sum, moving_sum, pointer_step, elements_between, string_put, format_put, actions, is_format, stands_for}
use Rattle.c_worlds.specs.ActionsLaws.{ActionsStayValid}

-- an action that keeps values valid
pub record ActionKeeps (f : Action) : Type 0 where
  pub keeps : (vs : List Value) → AreValid vs → Keeps IsValid (f vs)

-- ---- by the number of arguments

one_keeps : (f : Value → Run Value) → ((x : Value) → IsValid x → Keeps IsValid (f x)) → (vs : List Value) → AreValid vs → Keeps IsValid (of_one f vs)
unfolding of_one
one_keeps f h [] a = undefined_keeps OtherKind
one_keeps f h (x ∷ []) a = h x a.0
one_keeps f h (x ∷ y ∷ vs) a = undefined_keeps OtherKind

two_keeps : (f : Value → Value → Run Value) → ((x y : Value) → IsValid x → IsValid y → Keeps IsValid (f x y)) → (vs : List Value) → AreValid vs → Keeps IsValid (of_two f vs)
unfolding of_two
two_keeps f h [] a = undefined_keeps OtherKind
two_keeps f h (x ∷ []) a = undefined_keeps OtherKind
two_keeps f h (x ∷ y ∷ []) a = h x y a.0 a.1.0
two_keeps f h (x ∷ y ∷ z ∷ vs) a = undefined_keeps OtherKind

three_keeps : (f : Value → Value → Value → Run Value) → ((x y z : Value) → IsValid x → IsValid y → IsValid z → Keeps IsValid (f x y z)) → (vs : List Value) → AreValid vs → Keeps IsValid (of_three f vs)
unfolding of_three
three_keeps f h [] a = undefined_keeps OtherKind
three_keeps f h (x ∷ []) a = undefined_keeps OtherKind
three_keeps f h (x ∷ y ∷ []) a = undefined_keeps OtherKind
three_keeps f h (x ∷ y ∷ z ∷ []) a = h x y z a.0 a.1.0 a.1.1.0
three_keeps f h (x ∷ y ∷ z ∷ u ∷ vs) a = undefined_keeps OtherKind

pub of_one_keeps : (f : Value → Run Value) → ((x : Value) → IsValid x → Keeps IsValid (f x)) → ActionKeeps (of_one f)
of_one_keeps f h = record { keeps = λ vs a. one_keeps f h vs a }

of_two_keeps : (f : Value → Value → Run Value) → ((x y : Value) → IsValid x → IsValid y → Keeps IsValid (f x y)) → ActionKeeps (of_two f)
of_two_keeps f h = record { keeps = λ vs a. two_keeps f h vs a }

of_three_keeps : (f : Value → Value → Value → Run Value) → ((x y z : Value) → IsValid x → IsValid y → IsValid z → Keeps IsValid (f x y z)) → ActionKeeps (of_three f)
of_three_keeps f h = record { keeps = λ vs a. three_keeps f h vs a }

-- ---- numbers

operator_keeps : (op : BinOp) (unsigned : Bool) → ActionKeeps (operator op unsigned)
operator_keeps op unsigned = of_two_keeps _ (λ x y a b. on_words_keeps op (counting unsigned) (counting unsigned) x y a b)

updating_keeps : (op : BinOp) (unsigned : Bool) (p y : Value) → IsValid p → IsValid y → Keeps IsValid (updating op unsigned p y)
unfolding updating
updating_keeps op unsigned p y a b = bind_keeps (load_keeps Number p a) (λ x c. bind_keeps (on_words_keeps op (counting unsigned) (counting unsigned) x y c b) (λ v d. store_keeps Number p v d))

compound_keeps : (op : BinOp) (unsigned : Bool) → ActionKeeps (compound op unsigned)
compound_keeps op unsigned = of_two_keeps (updating op unsigned) (λ p y a b. updating_keeps op unsigned p y a b)

-- ---- pointers

sum_keeps : (unsigned : Bool) (p x k : Value) → IsValid p → IsValid x → IsValid k → Keeps IsValid (pointer_sum unsigned p x k)
unfolding pointer_sum
sum_keeps unsigned p x k a b c = of_word_keeps x b (λ n _. of_word_keeps k c (λ words _. moved_keeps p (counted unsigned n *ℤ signed_of words) a))

swapped_keeps : (unsigned : Bool) (x p k : Value) → IsValid x → IsValid p → IsValid k → Keeps IsValid (swapped_sum unsigned x p k)
unfolding swapped_sum
swapped_keeps unsigned x p k a b c = sum_keeps unsigned p x k b a c

moving_keeps : (unsigned : Bool) (p x k : Value) → IsValid p → IsValid x → IsValid k → Keeps IsValid (moving_sum unsigned p x k)
unfolding moving_sum
moving_keeps unsigned p x k a b c = bind_keeps (load_keeps ObjectPointer p a) (λ old d. bind_keeps (sum_keeps unsigned old x k d b c) (λ new e. store_keeps ObjectPointer p new e))

step_keeps : (p k : Value) → IsValid p → IsValid k → Keeps IsValid (pointer_step p k)
unfolding pointer_step
step_keeps p k a b =
    bind_keeps (load_keeps ObjectPointer p a) (λ old c. bind_keeps (sum_keeps false old (Word 1) k c one b) (λ new d. bind_keeps (store_keeps ObjectPointer p new d) (λ _ _. give_keeps old c)))
  where
    one : 1 < 2 ^ 24
    one = omega arith

between_keeps : (p q k : Value) → IsValid p → IsValid q → IsValid k → Keeps IsValid (elements_between p q k)
unfolding elements_between
between_keeps p q k a b c = of_word_keeps k c (λ words _. bind_keeps (pointer_difference_keeps words p q) (λ z _. give_keeps _ (wrapped_below z)))

-- ---- output

put_keeps : (p : Value) → IsValid p → Keeps IsValid (string_put p)
unfolding string_put built_in with_one
put_keeps p a = paid_keeps false (built_in_keeps [] false (codes "puts") (p ∷ []) tt (a, tt))

print_keeps : (format : List ℕ) → ActionKeeps (format_put format)
unfolding format_put
print_keeps format = record { keeps = λ vs a. paid_keeps false (printf_keeps false (Some format) vs) }

-- ---- all of them

abbrev pub EachKeeps : List (List ℕ × Action) → Type 0
EachKeeps [] = Unit {0}
EachKeeps (x ∷ xs) = ActionKeeps x.1 × EachKeeps xs

each_keeps : EachKeeps actions
each_keeps = (
  operator_keeps binary.Mul false,
  (
    compound_keeps binary.Mul false,
    (
      operator_keeps binary.Div true,
      (
        compound_keeps binary.Div true,
        (
          operator_keeps binary.Div false,
          (
            compound_keeps binary.Div false,
            (
              operator_keeps binary.Mod true,
              (
                compound_keeps binary.Mod true,
                (
                  operator_keeps binary.Mod false,
                  (
                    compound_keeps binary.Mod false,
                    (
                      operator_keeps binary.BitAnd false,
                      (
                        compound_keeps binary.BitAnd false,
                        (
                          operator_keeps binary.BitOr false,
                          (
                            compound_keeps binary.BitOr false,
                            (
                              operator_keeps binary.BitXor false,
                              (
                                compound_keeps binary.BitXor false,
                                (
                                  operator_keeps binary.Shl false,
                                  (
                                    compound_keeps binary.Shl false,
                                    (
                                      operator_keeps binary.Shr true,
                                      (
                                        compound_keeps binary.Shr true,
                                        (
                                          operator_keeps binary.Shr false,
                                          (
                                            compound_keeps binary.Shr false,
                                            (
                                              of_one_keeps (on_word unary.Invert) (λ x a. on_word_keeps unary.Invert x a),
                                              (
                                                of_three_keeps (pointer_sum false) (λ p x k a b c. sum_keeps false p x k a b c),
                                                (
                                                  of_three_keeps (pointer_sum true) (λ p x k a b c. sum_keeps true p x k a b c),
                                                  (
                                                    of_three_keeps (swapped_sum false) (λ x p k a b c. swapped_keeps false x p k a b c),
                                                    (
                                                      of_three_keeps (swapped_sum true) (λ x p k a b c. swapped_keeps true x p k a b c),
                                                      (
                                                        of_three_keeps (moving_sum false) (λ p x k a b c. moving_keeps false p x k a b c),
                                                        (
                                                          of_three_keeps (moving_sum true) (λ p x k a b c. moving_keeps true p x k a b c),
                                                          (
                                                            of_two_keeps pointer_step (λ p k a b. step_keeps p k a b),
                                                            (
                                                              of_three_keeps elements_between (λ p q k a b c. between_keeps p q k a b c),
                                                              (of_one_keeps string_put (λ p a. put_keeps p a), tt),
                                                            ),
                                                          ),
                                                        ),
                                                      ),
                                                    ),
                                                  ),
                                                ),
                                              ),
                                            ),
                                          ),
                                        ),
                                      ),
                                    ),
                                  ),
                                ),
                              ),
                            ),
                          ),
                        ),
                      ),
                    ),
                  ),
                ),
              ),
            ),
          ),
        ),
      ),
    ),
  ),
)

-- one that is found is one of them
pub found_keeps : (xs : List (List ℕ × Action)) (name : List ℕ) (action : Action) → EachKeeps xs → meaning xs name ≡ Some action → ActionKeeps action
found_keeps [] name action h e = absurd (cc e)
found_keeps (x ∷ xs) name action h e = go (bytes_eq name x.0) (λ k. found_keeps xs name action h.1 k) e
  where
    same : Some x.1 ≡ Some action → ActionKeeps action
    same e = let one : x.1 ≡ action = cc e in subst (λ f. ActionKeeps f) one h.0

    go : (b : Bool) → (meaning xs name ≡ Some action → ActionKeeps action) → cond b (Some x.1) (meaning xs name) ≡ Some action → ActionKeeps action
    go true more e = same e
    go false more e = more e

pub named_keeps : (name : List ℕ) (action : Action) → stands_for name ≡ Some action → ActionKeeps action
named_keeps name action e = go (is_format name) e
  where
    format : Some (format_put (drop 7 name)) ≡ Some action → ActionKeeps action
    format e = let one : format_put (drop 7 name) ≡ action = cc e in subst (λ f. ActionKeeps f) one (print_keeps (drop 7 name))

    go : (b : Bool) → (if b then Some (format_put (drop 7 name)) else meaning actions name) ≡ Some action → ActionKeeps action
    go true e = format e
    go false e = found_keeps actions name action each_keeps e

pub actions_stay_valid : ActionsStayValid
actions_stay_valid name action vs st e a v = ((named_keeps name action e).keeps vs a).keeps st v
