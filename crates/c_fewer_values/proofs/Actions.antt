-- What helper functions stand for is what the operators do.
use Rattle.std.proofs.Common.{◌≡◌, ℕ, ◌-◌, ◌*◌, ◌%◌, ◌^◌, ◌<◌, List, [], ◌∷◌, ◌++◌, Option, Some, Bool, true, false, refl, sym, ap, ap₂, ◌∙◌, subst, arith}
use Rattle.std.specs.Prelude.{◌||◌, ◌&&◌, ◌==◌, ℤ, unsigned_abs, pos, ◌*ℤ◌, neg_ℤ, codes, if◌then◌else◌}
use Rattle.std.specs.Str.{bytes_eq}
use Rattle.word24.specs.Word.{signed_of}
use Rattle.c_syntax.specs.declared.tree.BinOp.{BinOp}
use Rattle.c_syntax.specs.declared.tree.BinOp.TheVariants as binary
use Rattle.c_types.specs.Types as type
use Rattle.c_types.specs.Types.{CType, CTypes, NoType, MoreType, Tags, is_arithmetic, is_pointer, is_null, is_unsigned}
use Rattle.c_types.specs.Constants as constant
use Rattle.c_types.specs.Constants.{Constant, counted, wrapped, binary_value}
use Rattle.c_eval.specs.State.{Act, Value, Word, Null, Point, Letter, Function, Missing, ZeroDivisor, ShiftCount, OtherKind, PointerArithmetic, State, Run}
use Rattle.c_eval.specs.Run.{after, ◌>>=◌, give, undefined, unless, objects_now}
use Rattle.c_eval.specs.Operators as operators
use Rattle.c_eval.specs.Memory.{is_within, offset_by, extent_of, moved, pointer_difference}
use Rattle.c_eval.specs.Operators.{used, of_word, as_pointer, converted, all_converted, word_act, word_result, on_words, element_words, pointer_less, sum, difference}
use Rattle.c_valid.specs.Valid.{IsValid}
use Rattle.c_products.proofs.Arithmetic.{low_is, high_is, product_is}
use Rattle.c_helpers.specs.Fewer.{sign_of, counts_unsigned}
use Rattle.c_helpers.specs.Meanings.{Action, of_two, of_three, counting, operator, compound, pointer_sum, swapped_sum, stands_for}
use Rattle.c_fewer_types.specs.Stands.{helper_type}
use Rattle.c_fewer_values.specs.Helping.{difference_name}
use Rattle.c_fewer_values.proofs.Runs.{Solid, give_solid, undefined_solid, bind_solid}

-- ---- operators on words

-- with how the left operand counts, and both
abbrev counted_so : BinOp → Bool → Bool → Value → Value → Run Value
counted_so op left unsigned x y = of_word x (λ m. of_word y (λ n. word_result op (binary_value 0 op left unsigned m n)))

on_words_so : (op : BinOp) (t u : CType) (x y : Value) → on_words op t u x y ≡ counted_so op (is_unsigned t) (is_unsigned t || is_unsigned u) x y
unfolding on_words
on_words_so op t u x y = refl

pub of_word_solid : (v : Value) (f : ℕ → Run Value) → ((n : ℕ) → Solid (f n)) → Solid (of_word v f)
unfolding of_word
of_word_solid (Word n) f h = h n
of_word_solid Null f h = undefined_solid OtherKind
of_word_solid (Point o k) f h = undefined_solid OtherKind
of_word_solid (Letter g i text k) f h = undefined_solid OtherKind
of_word_solid (Function g) f h = undefined_solid OtherKind
of_word_solid Missing f h = undefined_solid OtherKind

act_solid : (op : BinOp) → Solid (word_act op)
unfolding word_act
act_solid binary.Div = undefined_solid ZeroDivisor
act_solid binary.Mod = undefined_solid ZeroDivisor
act_solid binary.Shl = undefined_solid ShiftCount
act_solid binary.Shr = undefined_solid ShiftCount
act_solid op = undefined_solid OtherKind

pub word_given : (n : ℕ) → used (Word n) ≡ give (Word n)
unfolding used
word_given n = refl

pub result_solid : (op : BinOp) (c : Constant) → Solid (word_result op c)
unfolding word_result
result_solid op (constant.Value n) = give_solid (Word n) (word_given n)
result_solid op (constant.Undefined at) = act_solid op
result_solid op constant.NotConstant = undefined_solid OtherKind

pub words_solid : (op : BinOp) (t u : CType) (x y : Value) → Solid (on_words op t u x y)
unfolding on_words
words_solid op t u x y = of_word_solid x _ (λ m. of_word_solid y _ (λ n. result_solid op _))

-- a product is the same however its operands count
product_so : (unsigned : Bool) (m n : ℕ) → m < 2 ^ 24 → n < 2 ^ 24 → wrapped (counted unsigned m *ℤ counted unsigned n) ≡ m * n % 2 ^ 24
product_so true m n a b = whole (m * n)
  where
    whole : (z : ℕ) → wrapped (pos z) ≡ z % 2 ^ 24
    whole z = grind arith
product_so false m n a b = product_is m n a b

same_products : (l u l' u' : Bool) (x y : Value) → IsValid x → IsValid y → counted_so binary.Mul l u x y ≡ counted_so binary.Mul l' u' x y
unfolding of_word
same_products l u l' u' (Word m) (Word n) a b = ap (λ z. word_result binary.Mul (constant.Value z)) (product_so u m n a b ∙ sym (product_so u' m n a b))
same_products l u l' u' (Word m) Null a b = refl
same_products l u l' u' (Word m) (Point o k) a b = refl
same_products l u l' u' (Word m) (Letter f i text k) a b = refl
same_products l u l' u' (Word m) (Function f) a b = refl
same_products l u l' u' (Word m) Missing a b = refl
same_products l u l' u' Null y a b = refl
same_products l u l' u' (Point o k) y a b = refl
same_products l u l' u' (Letter f i text k) y a b = refl
same_products l u l' u' (Function f) y a b = refl
same_products l u l' u' Missing y a b = refl

-- ---- signs

-- a sign's function takes numbers, and stands for an operator that is the one of the sign
pub record Stands (op : BinOp) (t u : CType) (sign : List ℕ) : Type 0 where
  pub result : CType
  pub left : CType
  pub right : CType
  pub known : helper_type sign ≡ Some (type.Function result (MoreType left (MoreType right NoType)))
  pub plain_left : (is_pointer left || is_null left) ≡ false
  pub plain_right : (is_pointer right || is_null right) ≡ false
  pub action : Action
  pub stands : stands_for sign ≡ Some action
  pub other : bytes_eq sign difference_name ≡ false
  pub same : (x y : Value) → IsValid x → IsValid y → action (x ∷ y ∷ []) ≡ on_words op t u x y
  -- the function of its assignment takes a place and a number
  pub unsigned : Bool
  pub assigns : helper_type (sign ++ codes "=") ≡ Some (type.Function type.Int (MoreType (type.Pointer type.Void) (MoreType type.Int NoType)))
  pub updates : stands_for (sign ++ codes "=") ≡ Some (compound op unsigned)
  pub other_too : bytes_eq (sign ++ codes "=") difference_name ≡ false
  pub words : (x y : Value) → IsValid x → IsValid y → on_words op (counting unsigned) (counting unsigned) x y ≡ on_words op t u x y

the_same : (op : BinOp) (t u : CType) (name sign : List ℕ) → Stands op t u name → Some name ≡ Some sign → Stands op t u sign
the_same op t u name sign p e = let same : name ≡ sign = cc e in subst (λ z. Stands op t u z) same p

pub two_is : (f : Value → Value → Run Value) (x y : Value) → of_two f (x ∷ y ∷ []) ≡ f x y
unfolding of_two
two_is f x y = refl

unsigned_of : (b : Bool) → is_unsigned (counting b) ≡ b
unsigned_of true = refl
unsigned_of false = refl

-- the operator on words that count so
acting : (op : BinOp) (b : Bool) (t u : CType) (x y : Value) → counted_so op (is_unsigned (counting b)) (is_unsigned (counting b) || is_unsigned (counting b)) x y ≡ counted_so op (is_unsigned t) (is_unsigned t || is_unsigned u) x y → operator op b (x ∷ y ∷ []) ≡ on_words op t u x y
acting op b t u x y e = two_is (on_words op (counting b) (counting b)) x y ∙ (on_words_so op (counting b) (counting b) x y ∙ (e ∙ sym (on_words_so op t u x y)))

or_self : (b c : Bool) → b ≡ c → (b || b) ≡ c
or_self true c e = e
or_self false c e = e

-- where it matters how both count
by_both : (op : BinOp) (b : Bool) (t u : CType) (x y : Value) → (is_unsigned t || is_unsigned u) ≡ b → ((l : Bool) → counted_so op l b x y ≡ counted_so op (is_unsigned t) b x y) → operator op b (x ∷ y ∷ []) ≡ on_words op t u x y
by_both op b t u x y e f =
    acting op b t u x y (ap (λ z. counted_so op (is_unsigned (counting b)) z x y) (or_self (is_unsigned (counting b)) b (unsigned_of b)) ∙ (f (is_unsigned (counting b)) ∙ ap (λ z. counted_so op (is_unsigned t) z x y) (sym e)))

-- where it matters how the left one counts
by_left : (op : BinOp) (b : Bool) (t u : CType) (x y : Value) → is_unsigned t ≡ b → ((z : Bool) → counted_so op b z x y ≡ counted_so op b (is_unsigned t || is_unsigned u) x y) → operator op b (x ∷ y ∷ []) ≡ on_words op t u x y
by_left op b t u x y e f =
    acting op b t u x y (ap (λ l. counted_so op l (is_unsigned (counting b) || is_unsigned (counting b)) x y) (unsigned_of b) ∙ (f (is_unsigned (counting b) || is_unsigned (counting b)) ∙ ap (λ l. counted_so op l (is_unsigned t || is_unsigned u) x y) (sym e)))

abbrev ints : CTypes
ints = MoreType type.Int (MoreType type.Int NoType)

-- the functions of ints
of_ints : (op : BinOp) (t u : CType) (name : List ℕ) → helper_type name ≡ Some (type.Function type.Int ints) → (b : Bool) → stands_for name ≡ Some (operator op b) → bytes_eq name difference_name ≡ false
    → helper_type (name ++ codes "=") ≡ Some (type.Function type.Int (MoreType (type.Pointer type.Void) (MoreType type.Int NoType))) → stands_for (name ++ codes "=") ≡ Some (compound op b) → bytes_eq (name ++ codes "=") difference_name ≡ false
    → ((x y : Value) → IsValid x → IsValid y → operator op b (x ∷ y ∷ []) ≡ on_words op t u x y) → Stands op t u name
of_ints op t u name k b s o ck cs co f = record { result = type.Int; left = type.Int; right = type.Int; known = k; plain_left = refl; plain_right = refl; action = operator op b; stands = s; other = o; same = f; unsigned = b; assigns = ck; updates = cs; other_too = co; words = λ x y p q. sym (two_is (on_words op (counting b) (counting b)) x y) ∙ f x y p q }

of_unsigneds : (op : BinOp) (t u : CType) (name : List ℕ) → helper_type name ≡ Some (type.Function type.Unsigned (MoreType type.Unsigned (MoreType type.Unsigned NoType))) → (b : Bool) → stands_for name ≡ Some (operator op b) → bytes_eq name difference_name ≡ false
    → helper_type (name ++ codes "=") ≡ Some (type.Function type.Int (MoreType (type.Pointer type.Void) (MoreType type.Int NoType))) → stands_for (name ++ codes "=") ≡ Some (compound op b) → bytes_eq (name ++ codes "=") difference_name ≡ false
    → ((x y : Value) → IsValid x → IsValid y → operator op b (x ∷ y ∷ []) ≡ on_words op t u x y) → Stands op t u name
of_unsigneds op t u name k b s o ck cs co f = record { result = type.Unsigned; left = type.Unsigned; right = type.Unsigned; known = k; plain_left = refl; plain_right = refl; action = operator op b; stands = s; other = o; same = f; unsigned = b; assigns = ck; updates = cs; other_too = co; words = λ x y p q. sym (two_is (on_words op (counting b) (counting b)) x y) ∙ f x y p q }

pub sign_stands : (op : BinOp) (t u : CType) (b : Bool) (sign : List ℕ) → counts_unsigned op t u ≡ b → sign_of op b ≡ Some sign → Stands op t u sign
sign_stands binary.Mul t u b sign c e =
    the_same binary.Mul t u (codes "*") sign
    (of_ints binary.Mul t u (codes "*") refl false refl refl refl refl refl (λ x y p q. acting binary.Mul false t u x y (same_products (is_unsigned (counting false)) (is_unsigned (counting false) || is_unsigned (counting false)) (is_unsigned t) (is_unsigned t || is_unsigned u) x y p q))) e
sign_stands binary.Div t u true sign c e = the_same binary.Div t u (codes "unsigned /") sign (of_unsigneds binary.Div t u (codes "unsigned /") refl true refl refl refl refl refl (λ x y p q. by_both binary.Div true t u x y c (λ z. refl))) e
sign_stands binary.Div t u false sign c e = the_same binary.Div t u (codes "int /") sign (of_ints binary.Div t u (codes "int /") refl false refl refl refl refl refl (λ x y p q. by_both binary.Div false t u x y c (λ z. refl))) e
sign_stands binary.Mod t u true sign c e = the_same binary.Mod t u (codes "unsigned %") sign (of_unsigneds binary.Mod t u (codes "unsigned %") refl true refl refl refl refl refl (λ x y p q. by_both binary.Mod true t u x y c (λ z. refl))) e
sign_stands binary.Mod t u false sign c e = the_same binary.Mod t u (codes "int %") sign (of_ints binary.Mod t u (codes "int %") refl false refl refl refl refl refl (λ x y p q. by_both binary.Mod false t u x y c (λ z. refl))) e
sign_stands binary.BitAnd t u b sign c e = the_same binary.BitAnd t u (codes "&") sign (of_ints binary.BitAnd t u (codes "&") refl false refl refl refl refl refl (λ x y p q. acting binary.BitAnd false t u x y refl)) e
sign_stands binary.BitOr t u b sign c e = the_same binary.BitOr t u (codes "|") sign (of_ints binary.BitOr t u (codes "|") refl false refl refl refl refl refl (λ x y p q. acting binary.BitOr false t u x y refl)) e
sign_stands binary.BitXor t u b sign c e = the_same binary.BitXor t u (codes "^") sign (of_ints binary.BitXor t u (codes "^") refl false refl refl refl refl refl (λ x y p q. acting binary.BitXor false t u x y refl)) e
sign_stands binary.Shl t u b sign c e = the_same binary.Shl t u (codes "<<") sign (of_ints binary.Shl t u (codes "<<") refl false refl refl refl refl refl (λ x y p q. acting binary.Shl false t u x y refl)) e
sign_stands binary.Shr t u true sign c e =
    the_same binary.Shr t u (codes "unsigned >>") sign
    (record { result = type.Unsigned; left = type.Unsigned; right = type.Int; known = refl; plain_left = refl; plain_right = refl; action = operator binary.Shr true; stands = refl; other = refl; same = λ x y p q. by_left binary.Shr true t u x y c (λ z. refl); unsigned = true; assigns = refl; updates = refl; other_too = refl; words = λ x y p q. sym (two_is (on_words binary.Shr type.Unsigned type.Unsigned) x y) ∙ by_left binary.Shr true t u x y c (λ z. refl) }) e
sign_stands binary.Shr t u false sign c e = the_same binary.Shr t u (codes "int >>") sign (of_ints binary.Shr t u (codes "int >>") refl false refl refl refl refl refl (λ x y p q. by_left binary.Shr false t u x y c (λ z. refl))) e
sign_stands op t u b sign c e = absurd (cc e)

-- ---- pointers

-- the word 0 moves as null does
null_moves : (n : ℕ) (cells : ℤ) (st : State) → moved Null cells st ≡ moved (Word n) cells st
unfolding moved unless undefined objects_now ◌>>=◌ after
null_moves n cells st = refl

pub pointer_moves : (p : Value) (cells : ℤ) (st : State) → moved (as_pointer p) cells st ≡ moved p cells st
pointer_moves (Word n) cells st = go (n == 0)
  where
    go : (b : Bool) → moved (if b then Null else Word n) cells st ≡ moved (Word n) cells st
    go true = null_moves n cells st
    go false = refl
pointer_moves Null cells st = refl
pointer_moves (Point o k) cells st = refl
pointer_moves (Letter f i text k) cells st = refl
pointer_moves (Function f) cells st = refl
pointer_moves Missing cells st = refl

pub unless_solid : (b : Bool) (act : Act) (m : Run Value) → Solid m → Solid (unless b act m)
unfolding unless
unless_solid true act m h = h
unless_solid false act m h = undefined_solid act

pub point_given : (o k : ℕ) → used (Point o k) ≡ give (Point o k)
unfolding used
point_given o k = refl

pub letter_given : (f : Option (List ℕ)) (i : ℕ) (text : List ℕ) (k : ℕ) → used (Letter f i text k) ≡ give (Letter f i text k)
unfolding used
letter_given f i text k = refl

pub moved_solid : (p : Value) (cells : ℤ) → Solid (moved p cells)
unfolding moved unless
moved_solid (Point o k) cells = bind_solid objects_now _ (λ os. unless_solid (is_within (offset_by (Point o k) cells) (extent_of os (Point o k))) PointerArithmetic _ (give_solid (Point o (unsigned_abs (offset_by (Point o k) cells))) (point_given o _)))
moved_solid (Letter f i text k) cells =
    bind_solid objects_now _ (λ os. unless_solid (is_within (offset_by (Letter f i text k) cells) (extent_of os (Letter f i text k))) PointerArithmetic _ (give_solid (Letter f i text (unsigned_abs (offset_by (Letter f i text k) cells))) (letter_given f i text _)))
moved_solid (Word n) cells = bind_solid objects_now _ (λ os. undefined_solid PointerArithmetic)
moved_solid Null cells = bind_solid objects_now _ (λ os. undefined_solid PointerArithmetic)
moved_solid (Function f) cells = bind_solid objects_now _ (λ os. undefined_solid PointerArithmetic)
moved_solid Missing cells = bind_solid objects_now _ (λ os. undefined_solid PointerArithmetic)

pub word_same : (v : Value) (f g : ℕ → Run Value) (st : State) → ((n : ℕ) → f n st ≡ g n st) → of_word v f st ≡ of_word v g st
unfolding of_word
word_same (Word n) f g st h = h n
word_same Null f g st h = refl
word_same (Point o k) f g st h = refl
word_same (Letter o i text k) f g st h = refl
word_same (Function o) f g st h = refl
word_same Missing f g st h = refl

-- ---- the words of an element

pub word_in : (n : ℕ) → n < 2 ^ 23 → signed_of (n % 2 ^ 24) ≡ pos n
word_in n few = let whole : n % 2 ^ 24 ≡ n = omega (arith, few) in ap signed_of whole ∙ low_is n few

pub word_back : (n : ℕ) → 1 < n → n < 2 ^ 23 → signed_of ((2 ^ 24 - n) % 2 ^ 24) ≡ neg_ℤ (pos n)
word_back n some few =
    let whole : (2 ^ 24 - n) % 2 ^ 24 ≡ 2 ^ 24 - n = omega (arith, some, few) in
    let back : 2 ^ 24 - (2 ^ 24 - n) ≡ n = omega (arith, few) in
    ap signed_of whole ∙ (high_is (2 ^ 24 - n) (omega (arith, few)) (omega (arith, some)) ∙ ap (λ z. neg_ℤ (pos z)) back)

times_back : (z : ℤ) (n : ℕ) → z *ℤ neg_ℤ (pos n) ≡ neg_ℤ (z *ℤ pos n)
times_back z n = grind arith

-- a number of elements, as cells
abbrev pub cells_by : Bool → Value → Value → ℤ → Run Value
cells_by unsigned p y words = of_word y (λ n. moved p (counted unsigned n *ℤ words))

pub three_is : (f : Value → Value → Value → Run Value) (x y z : Value) → of_three f (x ∷ y ∷ z ∷ []) ≡ f x y z
unfolding of_three
three_is f x y z = refl

-- the function moves a pointer by the words that it is given
pub sum_is : (unsigned : Bool) (p y : Value) (k : ℕ) → pointer_sum unsigned p y (Word k) ≡ cells_by unsigned p y (signed_of k)
unfolding pointer_sum of_word
sum_is unsigned p (Word n) k = refl
sum_is unsigned p Null k = refl
sum_is unsigned p (Point o j) k = refl
sum_is unsigned p (Letter f i text j) k = refl
sum_is unsigned p (Function f) k = refl
sum_is unsigned p Missing k = refl

moved_so : (unsigned : Bool) (p y : Value) (words other : ℤ) (st : State) → words ≡ other → cells_by unsigned (as_pointer p) y words st ≡ cells_by unsigned p y other st
moved_so unsigned p y words other st e = word_same y _ _ st (λ n. ap (λ z. moved (as_pointer p) (counted unsigned n *ℤ z) st) e ∙ pointer_moves p (counted unsigned n *ℤ other) st)

pub source_sum : (tags : Tags) (t u : CType) (p y : Value) → operators.pointer_sum tags t u p y ≡ cells_by (is_unsigned u) p y (pos (element_words tags t))
unfolding operators.pointer_sum
source_sum tags t u p y = refl

pub source_less : (tags : Tags) (t u : CType) (p y : Value) (st : State) → pointer_less tags t u p y st ≡ cells_by (is_unsigned u) p y (neg_ℤ (pos (element_words tags t))) st
unfolding pointer_less
source_less tags t u p y st = word_same y _ _ st (λ n. ap (λ z. moved p z st) (sym (times_back (counted (is_unsigned u) n) (element_words tags t))))

-- a pointer and a number
pub sum_acts : (tags : Tags) (t u : CType) (x y : Value) (st : State) → is_pointer t ≡ true → element_words tags t < 2 ^ 23
    → of_three (pointer_sum (is_unsigned u)) (as_pointer x ∷ y ∷ Word (element_words tags t % 2 ^ 24) ∷ []) st ≡ sum tags t u x y st
unfolding sum
sum_acts tags t u x y st e few =
    ap (λ m. m st) (three_is (pointer_sum (is_unsigned u)) (as_pointer x) y (Word (element_words tags t % 2 ^ 24)) ∙ sum_is (is_unsigned u) (as_pointer x) y (element_words tags t % 2 ^ 24))
    ∙ (moved_so (is_unsigned u) x y (signed_of (element_words tags t % 2 ^ 24)) (pos (element_words tags t)) st (word_in (element_words tags t) few)
    ∙ (ap (λ m. m st) (sym (source_sum tags t u x y)) ∙ ap (λ b. (if b then operators.pointer_sum tags t u x y else if is_pointer u then operators.pointer_sum tags u t y x else on_words binary.Add t u x y) st) (sym e)))

-- a number and a pointer
pub swapped_acts : (tags : Tags) (t u : CType) (x y : Value) (st : State) → is_pointer t ≡ false → is_pointer u ≡ true → element_words tags u < 2 ^ 23
    → of_three (swapped_sum (is_unsigned t)) (x ∷ as_pointer y ∷ Word (element_words tags u % 2 ^ 24) ∷ []) st ≡ sum tags t u x y st
unfolding sum swapped_sum
swapped_acts tags t u x y st d e few =
    ap (λ m. m st) (three_is (swapped_sum (is_unsigned t)) x (as_pointer y) (Word (element_words tags u % 2 ^ 24)) ∙ sum_is (is_unsigned t) (as_pointer y) x (element_words tags u % 2 ^ 24))
    ∙ (moved_so (is_unsigned t) y x (signed_of (element_words tags u % 2 ^ 24)) (pos (element_words tags u)) st (word_in (element_words tags u) few)
    ∙ (ap (λ m. m st) (sym (source_sum tags u t y x)) ∙ ap₂ (λ b c. (if b then operators.pointer_sum tags t u x y else if c then operators.pointer_sum tags u t y x else on_words binary.Add t u x y) st) (sym d) (sym e)))

-- a pointer less a number
pub less_acts : (tags : Tags) (t u : CType) (x y : Value) (st : State) → is_pointer t ≡ true → is_pointer u ≡ false → 1 < element_words tags t → element_words tags t < 2 ^ 23
    → of_three (pointer_sum (is_unsigned u)) (as_pointer x ∷ y ∷ Word ((2 ^ 24 - element_words tags t) % 2 ^ 24) ∷ []) st ≡ difference tags t u x y st
unfolding difference
less_acts tags t u x y st e d some few =
    ap (λ m. m st) (three_is (pointer_sum (is_unsigned u)) (as_pointer x) y (Word ((2 ^ 24 - element_words tags t) % 2 ^ 24)) ∙ sum_is (is_unsigned u) (as_pointer x) y ((2 ^ 24 - element_words tags t) % 2 ^ 24))
    ∙ (moved_so (is_unsigned u) x y (signed_of ((2 ^ 24 - element_words tags t) % 2 ^ 24)) (neg_ℤ (pos (element_words tags t))) st (word_back (element_words tags t) some few)
    ∙ (sym (source_less tags t u x y st)
    ∙ ap₂ (λ b c. (if b && c then (pointer_difference (element_words tags t) x y >>= λ z. give (Word (wrapped z))) else if b then pointer_less tags t u x y else on_words binary.Sub t u x y) st) (sym e) (sym d)))

-- what the functions of pointers give can be used
pub three_solid : (unsigned : Bool) (x y : Value) (k : ℕ) → Solid (of_three (pointer_sum unsigned) (x ∷ y ∷ Word k ∷ []))
three_solid unsigned x y k = subst Solid (sym (three_is (pointer_sum unsigned) x y (Word k) ∙ sum_is unsigned x y k)) (of_word_solid y (λ n. moved x (counted unsigned n *ℤ signed_of k)) (λ n. moved_solid x _))

pub swapped_solid : (unsigned : Bool) (x y : Value) (k : ℕ) → Solid (of_three (swapped_sum unsigned) (x ∷ y ∷ Word k ∷ []))
unfolding swapped_sum
swapped_solid unsigned x y k = subst Solid (sym (three_is (swapped_sum unsigned) x y (Word k) ∙ sum_is unsigned y x k)) (of_word_solid x (λ n. moved y (counted unsigned n *ℤ signed_of k)) (λ n. moved_solid y _))
