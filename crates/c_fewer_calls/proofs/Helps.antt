-- Each helper function that a text has does what its operator does.
use Rattle.std.proofs.Common.{◌≡◌, ℕ, ◌<◌, ◌^◌, List, [], ◌∷◌, ◌++◌, Some, Bool, true, false, refl, sym, ap, ◌∙◌, subst, cond, take, drop, take-append-drop}
use Rattle.std.specs.Prelude.{◌||◌, codes, if◌then◌else◌}
use Rattle.std.specs.Option.{option_map}
use Rattle.std.specs.Str.{bytes_eq}
use Rattle.std.proofs.lemmas.Slice.Eq.{bytes_eq-Decides}
use Rattle.c_syntax.specs.Plain as plain
use Rattle.c_syntax.specs.Words.{meaning}
use Rattle.c_syntax.specs.declared.tree.BinOp.{BinOp}
use Rattle.c_syntax.specs.declared.tree.UnOp.TheVariants as unary
use Rattle.c_syntax.specs.declared.tree.BinOp.TheVariants as binary
use Rattle.c_types.specs.Types.{CType, Void, Int, Unsigned, Pointer, Function, types, is_pointer, is_null}
use Rattle.c_types.specs.Room.{Kind, Multiply, Divide, Remainder, BitAnd, BitOr, BitXor, ShiftLeft, ShiftRight}
use Rattle.c_types.specs.Scope.{Routine}
use Rattle.c_eval.specs.State.{Value, Word, Point, Letter, Null, Missing, State, Run}
use Rattle.c_eval.specs.State as state
use Rattle.c_eval.specs.Run.{undefined}
use Rattle.c_eval.specs.Operators.{on_word}
use Rattle.c_eval.specs.Text.{Text}
use Rattle.c_eval.specs.Helpers.{Helpers, guarded, helps_to, helper_rules}
use Rattle.c_valid.specs.Valid.{IsValid, AreValid, CellIsValid, StateIsValid}
use Rattle.c_valid.proofs.Objects.{IfSome, pointed_valid}
use Rattle.c_helpers.specs.Functions as function
use Rattle.c_helpers.specs.Functions.{Helper, a, b, n, p}
use Rattle.c_helpers.specs.Meanings.{Action, of_one, of_two, of_three, operator, compound, actions, format_put, is_format, stands_for, pointer_sum, swapped_sum, moving_sum, pointer_step, elements_between, string_put}
use Rattle.c_products.specs.Found.{Stands, Knows, IsWordValue, AreWords}
use Rattle.c_products.specs.Laws.{IsAction}
use Rattle.c_products.proofs.Whole as products
use Rattle.c_products.specs.BitsLaws.{Shifts, KnowsShift}
use Rattle.c_products.proofs.BitsWhole as bits
use Rattle.c_products.specs.CompoundsLaws.{Compounds, PointsToWord, IsAssignment}
use Rattle.c_products.proofs.CompoundsWhole as compounds
use Rattle.c_products.specs.MovesFound.{Has}
use Rattle.c_products.specs.MovesLaws.{IsMove, HasSum}
use Rattle.c_products.proofs.MovesWhole as moves
use Rattle.c_formats.specs.StringsLaws.{HasString}
use Rattle.c_formats.proofs.Lines.{strings_are_put}
use Rattle.c_formats.proofs.Whole.{formats_are_written}
use Rattle.c_fewer_values.specs.Helping.{difference_name}
use Rattle.c_fewer_calls.specs.Standing.{HelpDoes}
use Rattle.c_fewer_calls.specs.There.{HasHelpers}
use Rattle.c_fewer_calls.specs.FewerHelpsLaws.{HelpersDo}

-- ---- values

word_of : (v : Value) → IsValid v → IsWordValue v
word_of (Word k) h = h
word_of (Point o k) h = tt
word_of (Letter f i text k) h = tt
word_of Null h = tt
word_of (state.Function name) h = tt
word_of Missing h = tt

words_of : (vs : List Value) → AreValid vs → AreWords vs
words_of [] h = tt
words_of (v ∷ vs) h = (word_of v h.0, words_of vs h.1)

points_to : (st : State) (v : Value) → StateIsValid st → IsValid v → PointsToWord st v
points_to st v s h x e = subst (λ o. IfSome CellIsValid o) e (pointed_valid st.objects v s h)

-- ---- names

module _ {A : Type 0} (Q : List ℕ → A → Type 0) where
  abbrev Every : List (List ℕ × A) → Type 0
  Every [] = Unit {0}
  Every (x ∷ xs) = Q x.0 x.1 × Every xs

  found_each : (xs : List (List ℕ × A)) → Every xs → (name : List ℕ) (v : A) → meaning xs name ≡ Some v → Q name v
  found_each [] h name v e = absurd (cc e)
  found_each (x ∷ xs) h name v e = go (bytes_eq name x.0) refl e (λ k. found_each xs h.1 name v k)
    where
      go : (t : Bool) → bytes_eq name x.0 ≡ t → cond t (Some x.1) (meaning xs name) ≡ Some v → (meaning xs name ≡ Some v → Q name v) → Q name v
      go true k e more = let same : x.1 ≡ v = cc e in subst (λ z. Q z v) (sym ((bytes_eq-Decides name x.0).0 k)) (subst (λ z. Q x.0 z) same h.0)
      go false k e more = more e

module _ (h : Helpers) (t : Text) (input : List ℕ) (kept : List ℕ → Bool) (has : HasHelpers h t kept) where
  abbrev Does : List ℕ → Action → Type 0
  Does name action = (vs : List Value) (st : State) → AreValid vs → StateIsValid st → helps_to h t input name action vs st ≡ action vs st

  of_action : (name : List ℕ) (action : Action) → IsAction h t name action → Does name action
  of_action name action k vs st v s = k input vs st (words_of vs v)

  of_move : (name : List ℕ) (action : Action) → IsMove h t name action → Does name action
  of_move name action k vs st v s = k input vs st v s

  -- with another number of arguments both are undefined
  of_assignment : (name : List ℕ) (op : BinOp) (unsigned : Bool) → IsAssignment h t name (compound op unsigned) → Does name (compound op unsigned)
  unfolding helps_to guarded of_two undefined
  of_assignment name op unsigned k [] st v s = refl
  of_assignment name op unsigned k (x ∷ []) st v s = refl
  of_assignment name op unsigned k (x ∷ y ∷ []) st v s = k input x y st (word_of y v.1.0) (points_to st x s v.0)
  of_assignment name op unsigned k (x ∷ y ∷ z ∷ more) st v s = refl

  -- ---- what the text has

  abbrev two : (u : CType) (g : Helper) → Has h t u ((a, u) ∷ (b, u) ∷ []) g → Stands h t u g
  two u g k = record { tags = k.tags; names = k.names; defined = k.defined; found = k.found; unknown = k.unknown; charge = k.charge }

  abbrev shift : (u : CType) (g : Helper) → Has h t u ((a, u) ∷ (n, Int) ∷ []) g → Shifts h t u g
  shift u g k = record { tags = k.tags; names = k.names; defined = k.defined; found = k.found; unknown = k.unknown; charge = k.charge }

  compounding : (sign : List ℕ) (kind : Kind) (result first second : CType) (k : Has h t Int ((p, Pointer Void) ∷ (b, Int) ∷ []) (function.compound sign kind))
      → (begun : Bool) × (meaning k.names sign ≡ Some (Routine (Function result (types (first ∷ second ∷ []))) begun)) → (is_pointer first ≡ false) × (is_null first ≡ false) → (is_pointer second ≡ false) × (is_null second ≡ false) → Compounds h t sign kind
  compounding sign kind result first second k known x y = record {
    tags = k.tags;
    names = k.names;
    defined = k.defined;
    found = k.found;
    charge = k.charge;
    result = result;
    first = first;
    second = second;
    begun = known.0;
    known = known.1;
    first_number = ap (λ z. z || is_null first) x.0 ∙ x.1;
    second_number = ap (λ z. z || is_null second) y.0 ∙ y.1;
  }

  abbrev Kept : List ℕ → Type 0
  Kept name = kept name ≡ true

  product_got : Kept (codes "*") → Stands h t Int function.product
  product_got e = two Int function.product (has.helpers (codes "*") function.product refl e).own

  quotient_got : Kept (codes "unsigned /") → Stands h t Unsigned function.unsigned_quotient
  quotient_got e = two Unsigned function.unsigned_quotient (has.helpers (codes "unsigned /") function.unsigned_quotient refl e).own

  record IntQuotient : Type 0 where
    quotient : Stands h t Unsigned function.unsigned_quotient
    own : Stands h t Int function.int_quotient
    knows : Knows own.names Unsigned function.unsigned_quotient

  int_quotient_got : Kept (codes "int /") → IntQuotient
  int_quotient_got e =
      let k = has.helpers (codes "int /") function.int_quotient refl e in
      let c = k.calls (codes "unsigned /") function.unsigned_quotient refl refl in
      record { quotient = quotient_got c.0; own = two Int function.int_quotient k.own; knows = c.1 }

  record UnsignedRemainder : Type 0 where
    product : Stands h t Int function.product
    quotient : Stands h t Unsigned function.unsigned_quotient
    own : Stands h t Unsigned function.unsigned_remainder
    knows_quotient : Knows own.names Unsigned function.unsigned_quotient
    knows_product : Knows own.names Int function.product

  unsigned_remainder_got : Kept (codes "unsigned %") → UnsignedRemainder
  unsigned_remainder_got e =
      let k = has.helpers (codes "unsigned %") function.unsigned_remainder refl e in
      let c = k.calls (codes "unsigned /") function.unsigned_quotient refl refl in
      let d = k.calls (codes "*") function.product refl refl in
      record { product = product_got d.0; quotient = quotient_got c.0; own = two Unsigned function.unsigned_remainder k.own; knows_quotient = c.1; knows_product = d.1 }

  record IntRemainder : Type 0 where
    product : Stands h t Int function.product
    quotient : IntQuotient
    own : Stands h t Int function.int_remainder
    knows_quotient : Knows own.names Int function.int_quotient
    knows_product : Knows own.names Int function.product

  int_remainder_got : Kept (codes "int %") → IntRemainder
  int_remainder_got e =
      let k = has.helpers (codes "int %") function.int_remainder refl e in
      let c = k.calls (codes "int /") function.int_quotient refl refl in
      let d = k.calls (codes "*") function.product refl refl in
      record { product = product_got d.0; quotient = int_quotient_got c.0; own = two Int function.int_remainder k.own; knows_quotient = c.1; knows_product = d.1 }

  left_got : Kept (codes "<<") → Shifts h t Int function.shift_left
  left_got e = shift Int function.shift_left (has.helpers (codes "<<") function.shift_left refl e).own

  record UnsignedRight : Type 0 where
    left : Shifts h t Int function.shift_left
    quotient : Stands h t Unsigned function.unsigned_quotient
    own : Shifts h t Unsigned function.unsigned_shift_right
    knows_left : Knows own.names Int function.shift_left
    knows_quotient : Knows own.names Unsigned function.unsigned_quotient

  unsigned_right_got : Kept (codes "unsigned >>") → UnsignedRight
  unsigned_right_got e =
      let k = has.helpers (codes "unsigned >>") function.unsigned_shift_right refl e in
      let c = k.calls (codes "<<") function.shift_left refl refl in
      let d = k.calls (codes "unsigned /") function.unsigned_quotient refl refl in
      record { left = left_got c.0; quotient = quotient_got d.0; own = shift Unsigned function.unsigned_shift_right k.own; knows_left = c.1; knows_quotient = d.1 }

  record IntRight : Type 0 where
    right : UnsignedRight
    own : Shifts h t Int function.int_shift_right
    knows : KnowsShift own.names Unsigned function.unsigned_shift_right

  int_right_got : Kept (codes "int >>") → IntRight
  int_right_got e =
      let k = has.helpers (codes "int >>") function.int_shift_right refl e in
      let c = k.calls (codes "unsigned >>") function.unsigned_shift_right refl refl in
      record { right = unsigned_right_got c.0; own = shift Int function.int_shift_right k.own; knows = c.1 }

  -- ---- words

  multiplies : Kept (codes "*") → Does (codes "*") (operator binary.Mul false)
  multiplies e = of_action (codes "*") (operator binary.Mul false) (products.products_law h t has.ration (product_got e))

  divides : Kept (codes "unsigned /") → Does (codes "unsigned /") (operator binary.Div true)
  divides e = of_action (codes "unsigned /") (operator binary.Div true) (products.unsigned_quotients_law h t has.ration (quotient_got e))

  int_divides : Kept (codes "int /") → Does (codes "int /") (operator binary.Div false)
  int_divides e = let k = int_quotient_got e in of_action (codes "int /") (operator binary.Div false) (products.int_quotients_law h t has.ration k.quotient k.own k.knows)

  leaves : Kept (codes "unsigned %") → Does (codes "unsigned %") (operator binary.Mod true)
  leaves e = let k = unsigned_remainder_got e in of_action (codes "unsigned %") (operator binary.Mod true) (products.unsigned_remainders_law h t has.ration k.product k.quotient k.own k.knows_quotient k.knows_product)

  int_leaves : Kept (codes "int %") → Does (codes "int %") (operator binary.Mod false)
  int_leaves e =
      let k = int_remainder_got e in
      of_action (codes "int %") (operator binary.Mod false) (products.int_remainders_law h t has.ration k.product k.quotient.quotient k.quotient.own k.quotient.knows k.own k.knows_quotient k.knows_product)

  ands : Kept (codes "&") → Does (codes "&") (operator binary.BitAnd false)
  ands e = of_action (codes "&") (operator binary.BitAnd false) (bits.and_law h t has.ration (two Int function.bits_and (has.helpers (codes "&") function.bits_and refl e).own))

  ors : Kept (codes "|") → Does (codes "|") (operator binary.BitOr false)
  ors e = of_action (codes "|") (operator binary.BitOr false) (bits.or_law h t has.ration (two Int function.bits_or (has.helpers (codes "|") function.bits_or refl e).own))

  xors : Kept (codes "^") → Does (codes "^") (operator binary.BitXor false)
  xors e = of_action (codes "^") (operator binary.BitXor false) (bits.xor_law h t has.ration (two Int function.bits_xor (has.helpers (codes "^") function.bits_xor refl e).own))

  lefts : Kept (codes "<<") → Does (codes "<<") (operator binary.Shl false)
  lefts e = of_action (codes "<<") (operator binary.Shl false) (bits.left_law h t has.ration (left_got e))

  rights : Kept (codes "unsigned >>") → Does (codes "unsigned >>") (operator binary.Shr true)
  rights e = let k = unsigned_right_got e in of_action (codes "unsigned >>") (operator binary.Shr true) (bits.right_law h t has.ration k.left k.quotient k.own k.knows_left k.knows_quotient)

  int_rights : Kept (codes "int >>") → Does (codes "int >>") (operator binary.Shr false)
  int_rights e =
      let k = int_right_got e in
      of_action (codes "int >>") (operator binary.Shr false) (bits.int_right_law h t has.ration k.right.left k.right.quotient k.right.own k.right.knows_left k.right.knows_quotient k.own k.knows)

  inverts : Kept (codes "~") → Does (codes "~") (of_one (on_word unary.Invert))
  inverts e =
      let k = (has.helpers (codes "~") function.complement refl e).own in
      of_action (codes "~") (of_one (on_word unary.Invert)) (bits.complements_law h t has.ration (record { tags = k.tags; names = k.names; defined = k.defined; found = k.found; charge = k.charge }))

  -- ---- assignments

  multiplies_to : Kept (codes "*=") → Does (codes "*=") (compound binary.Mul false)
  multiplies_to e =
      let k = has.helpers (codes "*=") (function.compound (codes "*") Multiply) refl e in
      let c = k.calls (codes "*") function.product refl refl in
      of_assignment (codes "*=") binary.Mul false (compounds.products_are_assigned h t has.ration (product_got c.0) (compounding (codes "*") Multiply Int Int Int k.own c.1 (refl, refl) (refl, refl)))

  divides_to : Kept (codes "unsigned /=") → Does (codes "unsigned /=") (compound binary.Div true)
  divides_to e =
      let k = has.helpers (codes "unsigned /=") (function.compound (codes "unsigned /") Divide) refl e in
      let c = k.calls (codes "unsigned /") function.unsigned_quotient refl refl in
      of_assignment (codes "unsigned /=") binary.Div true (compounds.unsigned_quotients_are_assigned h t has.ration (quotient_got c.0) (compounding (codes "unsigned /") Divide Unsigned Unsigned Unsigned k.own c.1 (refl, refl) (refl, refl)))

  int_divides_to : Kept (codes "int /=") → Does (codes "int /=") (compound binary.Div false)
  int_divides_to e =
      let k = has.helpers (codes "int /=") (function.compound (codes "int /") Divide) refl e in
      let c = k.calls (codes "int /") function.int_quotient refl refl in
      let q = int_quotient_got c.0 in
      of_assignment (codes "int /=") binary.Div false (compounds.int_quotients_are_assigned h t has.ration q.quotient q.own q.knows (compounding (codes "int /") Divide Int Int Int k.own c.1 (refl, refl) (refl, refl)))

  leaves_to : Kept (codes "unsigned %=") → Does (codes "unsigned %=") (compound binary.Mod true)
  leaves_to e =
      let k = has.helpers (codes "unsigned %=") (function.compound (codes "unsigned %") Remainder) refl e in
      let c = k.calls (codes "unsigned %") function.unsigned_remainder refl refl in
      let q = unsigned_remainder_got c.0 in
      of_assignment (codes "unsigned %=") binary.Mod true
      (compounds.unsigned_remainders_are_assigned h t has.ration q.product q.quotient q.own q.knows_quotient q.knows_product (compounding (codes "unsigned %") Remainder Unsigned Unsigned Unsigned k.own c.1 (refl, refl) (refl, refl)))

  int_leaves_to : Kept (codes "int %=") → Does (codes "int %=") (compound binary.Mod false)
  int_leaves_to e =
      let k = has.helpers (codes "int %=") (function.compound (codes "int %") Remainder) refl e in
      let c = k.calls (codes "int %") function.int_remainder refl refl in
      let q = int_remainder_got c.0 in
      of_assignment (codes "int %=") binary.Mod false
      (compounds.int_remainders_are_assigned h t has.ration q.product q.quotient.quotient q.quotient.own q.quotient.knows q.own q.knows_quotient q.knows_product (compounding (codes "int %") Remainder Int Int Int k.own c.1 (refl, refl) (refl, refl)))

  ands_to : Kept (codes "&=") → Does (codes "&=") (compound binary.BitAnd false)
  ands_to e =
      let k = has.helpers (codes "&=") (function.compound (codes "&") BitAnd) refl e in
      let c = k.calls (codes "&") function.bits_and refl refl in
      of_assignment (codes "&=") binary.BitAnd false (compounds.bits_and_is_assigned h t has.ration (two Int function.bits_and (has.helpers (codes "&") function.bits_and refl c.0).own) (compounding (codes "&") BitAnd Int Int Int k.own c.1 (refl, refl) (refl, refl)))

  ors_to : Kept (codes "|=") → Does (codes "|=") (compound binary.BitOr false)
  ors_to e =
      let k = has.helpers (codes "|=") (function.compound (codes "|") BitOr) refl e in
      let c = k.calls (codes "|") function.bits_or refl refl in
      of_assignment (codes "|=") binary.BitOr false (compounds.bits_or_is_assigned h t has.ration (two Int function.bits_or (has.helpers (codes "|") function.bits_or refl c.0).own) (compounding (codes "|") BitOr Int Int Int k.own c.1 (refl, refl) (refl, refl)))

  xors_to : Kept (codes "^=") → Does (codes "^=") (compound binary.BitXor false)
  xors_to e =
      let k = has.helpers (codes "^=") (function.compound (codes "^") BitXor) refl e in
      let c = k.calls (codes "^") function.bits_xor refl refl in
      of_assignment (codes "^=") binary.BitXor false (compounds.bits_xor_is_assigned h t has.ration (two Int function.bits_xor (has.helpers (codes "^") function.bits_xor refl c.0).own) (compounding (codes "^") BitXor Int Int Int k.own c.1 (refl, refl) (refl, refl)))

  lefts_to : Kept (codes "<<=") → Does (codes "<<=") (compound binary.Shl false)
  lefts_to e =
      let k = has.helpers (codes "<<=") (function.compound (codes "<<") ShiftLeft) refl e in
      let c = k.calls (codes "<<") function.shift_left refl refl in
      of_assignment (codes "<<=") binary.Shl false (compounds.shifts_left_are_assigned h t has.ration (left_got c.0) (compounding (codes "<<") ShiftLeft Int Int Int k.own c.1 (refl, refl) (refl, refl)))

  rights_to : Kept (codes "unsigned >>=") → Does (codes "unsigned >>=") (compound binary.Shr true)
  rights_to e =
      let k = has.helpers (codes "unsigned >>=") (function.compound (codes "unsigned >>") ShiftRight) refl e in
      let c = k.calls (codes "unsigned >>") function.unsigned_shift_right refl refl in
      let q = unsigned_right_got c.0 in
      of_assignment (codes "unsigned >>=") binary.Shr true
      (compounds.unsigned_shifts_right_are_assigned h t has.ration q.left q.quotient q.own q.knows_left q.knows_quotient (compounding (codes "unsigned >>") ShiftRight Unsigned Unsigned Int k.own c.1 (refl, refl) (refl, refl)))

  int_rights_to : Kept (codes "int >>=") → Does (codes "int >>=") (compound binary.Shr false)
  int_rights_to e =
      let k = has.helpers (codes "int >>=") (function.compound (codes "int >>") ShiftRight) refl e in
      let c = k.calls (codes "int >>") function.int_shift_right refl refl in
      let q = int_right_got c.0 in
      of_assignment (codes "int >>=") binary.Shr false
      (compounds.int_shifts_right_are_assigned h t has.ration q.right.left q.right.quotient q.right.own q.right.knows_left q.right.knows_quotient q.own q.knows (compounding (codes "int >>") ShiftRight Int Int Int k.own c.1 (refl, refl) (refl, refl)))

  -- ---- pointers

  record Summing (unsigned : Bool) : Type 0 where
    product : Stands h t Int function.product
    own : HasSum h t unsigned

  int_sum_got : Kept (codes "pointer + int") → Summing false
  int_sum_got e =
      let k = has.helpers (codes "pointer + int") (function.pointer_sum plain.Int (codes "pointer + int")) refl e in
      let c = k.calls (codes "*") function.product refl refl in
      record { product = product_got c.0; own = (k.own, c.1) }

  unsigned_sum_got : Kept (codes "pointer + unsigned") → Summing true
  unsigned_sum_got e =
      let k = has.helpers (codes "pointer + unsigned") (function.pointer_sum plain.Unsigned (codes "pointer + unsigned")) refl e in
      let c = k.calls (codes "*") function.product refl refl in
      record { product = product_got c.0; own = (k.own, c.1) }

  int_sums : Kept (codes "pointer + int") → Does (codes "pointer + int") (of_three (pointer_sum false))
  int_sums e = let q = int_sum_got e in of_move (codes "pointer + int") (of_three (pointer_sum false)) (moves.sums_are_computed h t false has.ration q.product q.own)

  unsigned_sums : Kept (codes "pointer + unsigned") → Does (codes "pointer + unsigned") (of_three (pointer_sum true))
  unsigned_sums e = let q = unsigned_sum_got e in of_move (codes "pointer + unsigned") (of_three (pointer_sum true)) (moves.sums_are_computed h t true has.ration q.product q.own)

  int_swapped : Kept (codes "int + pointer") → Does (codes "int + pointer") (of_three (swapped_sum false))
  int_swapped e =
      let k = has.helpers (codes "int + pointer") (function.swapped_sum plain.Int (codes "int + pointer") (codes "pointer + int")) refl e in
      let c = k.calls (codes "pointer + int") (function.pointer_sum plain.Int (codes "pointer + int")) refl refl in
      let q = int_sum_got c.0 in
      of_move (codes "int + pointer") (of_three (swapped_sum false)) (moves.swapped_sums_are_computed h t false has.ration q.product q.own k.own c.1)

  unsigned_swapped : Kept (codes "unsigned + pointer") → Does (codes "unsigned + pointer") (of_three (swapped_sum true))
  unsigned_swapped e =
      let k = has.helpers (codes "unsigned + pointer") (function.swapped_sum plain.Unsigned (codes "unsigned + pointer") (codes "pointer + unsigned")) refl e in
      let c = k.calls (codes "pointer + unsigned") (function.pointer_sum plain.Unsigned (codes "pointer + unsigned")) refl refl in
      let q = unsigned_sum_got c.0 in
      of_move (codes "unsigned + pointer") (of_three (swapped_sum true)) (moves.swapped_sums_are_computed h t true has.ration q.product q.own k.own c.1)

  int_moving : Kept (codes "pointer += int") → Does (codes "pointer += int") (of_three (moving_sum false))
  int_moving e =
      let k = has.helpers (codes "pointer += int") (function.moving_sum plain.Int (codes "pointer += int") (codes "pointer + int")) refl e in
      let c = k.calls (codes "pointer + int") (function.pointer_sum plain.Int (codes "pointer + int")) refl refl in
      let q = int_sum_got c.0 in
      of_move (codes "pointer += int") (of_three (moving_sum false)) (moves.pointers_are_moved h t false has.ration q.product q.own k.own c.1)

  unsigned_moving : Kept (codes "pointer += unsigned") → Does (codes "pointer += unsigned") (of_three (moving_sum true))
  unsigned_moving e =
      let k = has.helpers (codes "pointer += unsigned") (function.moving_sum plain.Unsigned (codes "pointer += unsigned") (codes "pointer + unsigned")) refl e in
      let c = k.calls (codes "pointer + unsigned") (function.pointer_sum plain.Unsigned (codes "pointer + unsigned")) refl refl in
      let q = unsigned_sum_got c.0 in
      of_move (codes "pointer += unsigned") (of_three (moving_sum true)) (moves.pointers_are_moved h t true has.ration q.product q.own k.own c.1)

  steps : Kept (codes "pointer++") → Does (codes "pointer++") (of_two pointer_step)
  steps e = of_move (codes "pointer++") (of_two pointer_step) (moves.steps_are_taken h t (has.helpers (codes "pointer++") function.pointer_step refl e).own)

  -- ---- strings

  puts : Kept (codes "string and line feed") → Does (codes "string and line feed") (of_one string_put)
  puts e vs st v s =
      let k = has.helpers (codes "string and line feed") function.put_string refl e in
      let unit = k.calls function.unit_name _ refl refl in
      let piece = k.calls function.piece_name _ refl refl in
      let string = k.calls (codes "%s") function.print_string refl refl in
      let q = has.helpers (codes "%s") function.print_string refl string.0 in
      let own : HasString h t = (q.own, (q.calls function.unit_name _ refl refl).1, (q.calls function.piece_name _ refl refl).1) in
      strings_are_put h t has.ration has.known own (k.own, unit.1, piece.1, string.1) input vs st

  -- ---- by name

  abbrev Q : List ℕ → Action → Type 0
  Q name action = Kept name → bytes_eq name difference_name ≡ false → Does name action

  each : Every Q actions
  each = (λ k d. multiplies k, (λ k d. multiplies_to k, (λ k d. divides k, (λ k d. divides_to k, (λ k d. int_divides k, (λ k d. int_divides_to k, (λ k d. leaves k, (λ k d. leaves_to k, (λ k d. int_leaves k, (λ k d. int_leaves_to k, (λ k d. ands k, (λ k d. ands_to k, (λ k d. ors k, (λ k d. ors_to k, (λ k d. xors k, (λ k d. xors_to k, (λ k d. lefts k, (λ k d. lefts_to k, (λ k d. rights k, (λ k d. rights_to k, (λ k d. int_rights k, (λ k d. int_rights_to k, (λ k d. inverts k, (λ k d. int_sums k, (λ k d. unsigned_sums k, (λ k d. int_swapped k, (λ k d. unsigned_swapped k, (λ k d. int_moving k, (λ k d. unsigned_moving k, (λ k d. steps k, (λ k d. absurd (cc d), (λ k d. puts k, tt))))))))))))))))))))))))))))))))

  -- a format's function
  prints : (name : List ℕ) → is_format name ≡ true → Kept name → Does name (format_put (drop 7 name))
  prints name e k vs st v s =
      let first : take 7 name ≡ codes "printf " = (bytes_eq-Decides (take 7 name) (codes "printf ")).0 e in
      let whole : codes "printf " ++ drop 7 name ≡ name = ap (λ z. z ++ drop 7 name) (sym first) ∙ take-append-drop 7 name in
      let f = has.formats (drop 7 name) (subst (λ z. Kept z) (sym whole) k) in
      subst (λ z. helps_to h t input z (format_put (drop 7 name)) vs st ≡ format_put (drop 7 name) vs st) whole (formats_are_written h t (drop 7 name) f.0 has.ration has.known f.1 f.2 f.3 input vs st v)

  does : (name : List ℕ) (action : Action) → Kept name → stands_for name ≡ Some action → bytes_eq name difference_name ≡ false → Does name action
  does name action k e d = go (is_format name) refl e
    where
      go : (f : Bool) → is_format name ≡ f → (if f then Some (format_put (drop 7 name)) else meaning actions name) ≡ Some action → Does name action
      go true l e = let same : format_put (drop 7 name) ≡ action = cc e in subst (λ z. Does name z) same (prints name l k)
      go false l e = found_each Q actions each name action e k d

  helps_is : (name : List ℕ) (action : Action) → stands_for name ≡ Some action → (helper_rules h t input).helps name ≡ Some (λ vs. helps_to h t input name action vs)
  helps_is name action e = ap (λ o. option_map (λ (f : Action). helps_to h t input name f) o) (has.operator name ∙ e)

  differs : Kept difference_name → (p q : Value) (words : ℕ) (st : State) → AreValid (p ∷ q ∷ []) → 0 < words → words < 2 ^ 23 → StateIsValid st
      → helps_to h t input difference_name (of_three elements_between) (p ∷ q ∷ Word words ∷ []) st ≡ of_three elements_between (p ∷ q ∷ Word words ∷ []) st
  differs e x y words st v some few s =
      let k = has.helpers difference_name function.pointer_difference refl e in
      let c = k.calls (codes "int /") function.int_quotient refl refl in
      let q = int_quotient_got c.0 in
      moves.differences_are_computed h t has.ration q.quotient q.own q.knows k.own c.1 input x y words st v some few s

  abbrev Differs : List ℕ → Type 0
  Differs name = Kept name → (help : List Value → Run Value) × ((helper_rules h t input).helps name ≡ Some help) × ((p q : Value) (words : ℕ) (st : State) → AreValid (p ∷ q ∷ []) → 0 < words → words < 2 ^ 23 → StateIsValid st
      → help (p ∷ q ∷ Word words ∷ []) st ≡ of_three elements_between (p ∷ q ∷ Word words ∷ []) st)

  help_does : (name : List ℕ) → Kept name → HelpDoes (helper_rules h t input) name
  help_does name k = record {
    does = λ action e d. (helps_to h t input name action, helps_is name action e, λ vs st v s. does name action k e d vs st v s);
    differs = λ e. subst (λ z. Differs z) (sym e) (λ k. (helps_to h t input difference_name (of_three elements_between), helps_is difference_name (of_three elements_between) refl, λ p q words st v some few s. differs k p q words st v some few s)) k;
  }

pub helpers_do : HelpersDo
helpers_do h t input kept has name k = help_does h t input kept has name k
