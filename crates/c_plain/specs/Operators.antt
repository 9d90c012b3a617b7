-- What the operators do with values.
use Rattle.std.specs.Prelude.{ℕ, Bool, true, false, not, ◌==◌, List, Result, Ok, Err, ℤ, pos, ◌*ℤ◌, neg_ℤ, if◌then◌else◌}
use Rattle.c_syntax.specs.declared.tree.UnOp.{UnOp}
use Rattle.c_syntax.specs.declared.tree.BinOp.{BinOp}
use Rattle.c_syntax.specs.declared.tree.BinOp.TheVariants as binary
use Rattle.c_types.specs.Constants as constant
use Rattle.c_types.specs.Constants.{Constant, counted, wrapped, truth, unary_constant, binary_value}
use Rattle.c_store.specs.declared.act.Act.{Act}
use Rattle.c_store.specs.declared.act.Act.TheVariants.{ZeroDivisor, OtherKind, ShiftCount, HelperLimit}
use Rattle.c_store.specs.declared.kind.Kind.{Kind}
use Rattle.c_store.specs.declared.kind.Kind.TheVariants.{Number}
use Rattle.c_store.specs.Values.{Value, Word, Missing, Literal, Stack}
use Rattle.c_store.specs.Words.{is_true, as_pointer, used, moved, member_at, pointer_before, pointer_difference, load, equal_pointers}
use Rattle.c_plain.specs.declared.instruction.Fetch.{Fetch}
use Rattle.c_plain.specs.declared.instruction.Fetch.TheVariants as fetch
use Rattle.c_plain.specs.declared.instruction.Unary.{Unary}
use Rattle.c_plain.specs.declared.instruction.Unary.TheVariants as unary
use Rattle.c_plain.specs.declared.instruction.Operation.{Operation}
use Rattle.c_plain.specs.declared.instruction.Operation.TheVariants as operation

-- a result, and then what follows from it
abbrev pub and_then : {A B : Type 0} → Result A Act → (A → Result B Act) → Result B Act
and_then (Ok a) f = f a
and_then (Err act) f = Err act

abbrev pub truth_value : Bool → Value
truth_value b = Word (truth b)

-- ---- one value

-- the number of a value that has to be a word
abbrev pub number_in : Value → Result ℕ Act
number_in (Word n) = Ok n
number_in _ = Err OtherKind

-- a value converts to a kind
abbrev pub converted : Kind → Value → Value
converted Number v = v
converted kind v = as_pointer v

-- why an operator on two words is undefined
abbrev pub word_act : BinOp → Act
word_act binary.Div = ZeroDivisor
word_act binary.Mod = ZeroDivisor
word_act binary.Shl = ShiftCount
word_act binary.Shr = ShiftCount
word_act op = OtherKind

-- what an operator on words comes to
abbrev pub word_result : BinOp → Constant → Result Value Act
word_result op (constant.Value n) = Ok (Word n)
word_result op (constant.Undefined at) = Err (word_act op)
word_result op constant.NotConstant = Err OtherKind

-- what a place is worth
abbrev pub fetched : List Literal → Stack → Fetch → Value → Result Value Act
fetched literals m fetch.Place p = Ok p
fetched literals m fetch.Nothing p = Ok Missing
fetched literals m (fetch.Cell kind) p = load literals m kind p
fetched literals m fetch.Refused p = Err OtherKind

-- what is made of one value
abbrev pub made : List Literal → Stack → Unary → Value → Result Value Act
made literals m unary.Use v = used v
made literals m unary.Forget v = Ok Missing
made literals m unary.Truth v = Ok (truth_value (is_true v))
made literals m unary.Negate v = Ok (truth_value (not (is_true v)))
made literals m (unary.Convert kind) v = Ok (converted kind v)
made literals m unary.CheckWord v = and_then (number_in v) (λ n. Ok (Word n))
made literals m (unary.Fetch how) v = fetched literals m how v
made literals m (unary.Member cells) v = member_at literals cells v
made literals m (unary.OneWord op) v = and_then (number_in v) (λ n. word_result binary.Add (unary_constant op (constant.Value n)))

-- ---- two values

-- a pointer moves by a number of elements of so many words
abbrev pub pointer_plus : List Literal → Bool → ℕ → Value → Value → Result Value Act
pointer_plus literals unsigned words p y = and_then (number_in y) (λ n. moved literals p (counted unsigned n *ℤ pos words))

abbrev pub pointer_less : List Literal → Bool → ℕ → Value → Value → Result Value Act
pointer_less literals unsigned words p y = and_then (number_in y) (λ n. moved literals p (neg_ℤ (counted unsigned n *ℤ pos words)))

-- elements have at least one word
abbrev pub elements_between : List Literal → ℕ → Value → Value → Result Value Act
elements_between literals words x y = if words == 0 then Err HelperLimit else and_then (pointer_difference literals words x y) (λ z. Ok (Word (wrapped z)))

-- a test is met, or else not
abbrev pub answered : Bool → Result Bool Act → Result Value Act
answered negated r = and_then r (λ b. Ok (truth_value (if negated then not b else b)))

-- what a binary operator gives
abbrev pub operated : List Literal → Stack → Operation → Value → Value → Result Value Act
operated literals m (operation.Words op left unsigned) x y = and_then (number_in x) (λ k. and_then (number_in y) (λ n. word_result op (binary_value 0 op left unsigned k n)))
operated literals m (operation.PointerPlus unsigned words) x y = pointer_plus literals unsigned words x y
operated literals m (operation.PlusPointer unsigned words) x y = pointer_plus literals unsigned words y x
operated literals m (operation.PointerLess unsigned words) x y = pointer_less literals unsigned words x y
operated literals m (operation.Difference words) x y = elements_between literals words x y
operated literals m (operation.Equal kind negated) x y = answered negated (equal_pointers literals m kind (as_pointer x) (as_pointer y))
operated literals m (operation.Before swapped negated) x y = answered negated (if swapped then pointer_before literals y x else pointer_before literals x y)
