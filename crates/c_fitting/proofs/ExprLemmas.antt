-- What a typed expression is, within the limits.
use Rattle.std.proofs.Common.{◌≡◌, ℕ, ◌<◌, Bool, true, false, ◌&&◌, ◌||◌, List, [], ◌∷◌, Option, Some, None, refl, sym, ap, subst, if◌then◌else◌}
use Rattle.std.specs.Prelude.{is_some, Ok, Err}
use Rattle.std.proofs.lemmas.Bool.{and_parts}
use Rattle.c_syntax.specs.Plain as plain
use Rattle.c_syntax.specs.Plain.{CExpr, CExprs, CTy, CTys}
use Rattle.c_syntax.specs.declared.tree.UnOp.{UnOp}
use Rattle.c_syntax.specs.declared.tree.StepOp.{StepOp}
use Rattle.c_syntax.specs.declared.tree.BinOp.{BinOp}
use Rattle.c_syntax.specs.declared.tree.UnOp.TheVariants as unary
use Rattle.c_syntax.specs.declared.tree.StepOp.TheVariants as step
use Rattle.c_types.specs.declared.fault.TypeFault.TheVariants as fault
use Rattle.c_types.specs.Types as type
use Rattle.c_types.specs.Types.{CType, CTypes, Tags, Layout, is_arithmetic, is_scalar, is_pointer, is_unsigned, is_void, is_null, is_struct, is_object_pointer, is_void_pointer, is_function_pointer, same_type, decayed, promoted, common_type, words_of, is_object_type}
use Rattle.c_types.specs.Refusals.{Judged, keeping}
use Rattle.c_types.specs.Constants.{Constant, NotConstant, unary_constant}
use Rattle.c_types.specs.Scope.{Scope, Entity, Object, Routine, BuiltIn, Printf, entity_of, is_function, contains}
use Rattle.c_types.specs.Operands.{Operand, Other, Designator, is_place, is_array, is_condition, is_word_place, operand, value_at, place_at, is_designator, is_element_pointer, sum_type, when, or_else, value_type, address_operand, pointed_operand, unary_operand, step_operand}
use Rattle.c_types.specs.Expressions.{names_function, named, judged}
use Rattle.c_eval.specs.Environment.{operand_type, type_in}
use Rattle.c_eval.specs.Operators.{element_words}
use Rattle.c_eval.specs.Eval.{step_op}
use Rattle.c_resolved.specs.Resolved.{HasElements}
use Rattle.c_pieces.specs.Counted.{AreCounted}
use Rattle.c_fitting.specs.Fit.{IsPlace, IsPlaceUnless, IsAddressed, IsFit}
use Rattle.c_fitting.specs.Good.{IsGood, TagsAreGood, EntityIsGood}
use Rattle.c_fitting.proofs.Judgement.{IfOk, keeping_one, keeping_two}
use Rattle.c_fitting.proofs.TypeLemmas.{element_below, is_aggregate, IsValue, word_value, decayed_good, scalar_single, scalar_decayed, arithmetic_elements, pointer_elements}

-- a place, or a value that is one only
abbrev pub has_place : Operand → Bool
has_place a = is_place a.sort || is_aggregate a.ty

-- what is known of an expression that is typed
pub record IsKnown (s : Scope) (e : CExpr) (a : Operand) : Type 0 where
  pub good : IsGood s.tags a.ty
  pub place : has_place a ≡ true → IsPlace e
  pub named : is_designator a.sort ≡ true → (names_function s e ≡ true) × (is_aggregate a.ty ≡ false)
  pub fit : IsFit s e

-- a value and no place
abbrev pub IsSingle : Tags → Operand → Type 0
IsSingle tags a = IsGood tags a.ty × (has_place a ≡ false) × (is_designator a.sort ≡ false)

pub at_value : (tags : Tags) (at : ℕ) (t : CType) (c : Constant) → IsValue tags t → IsSingle tags (operand at t Other c)
at_value tags at t c v = (v.good, v.single, refl)

pub place_or : (a b : Bool) → a ≡ true → (a || b) ≡ true
place_or true b h = refl
place_or false b h = absurd cc

pub apart : (b : Bool) → b ≡ false → b ≡ true → ⊥
apart b f t = cc

pub known : (s : Scope) (e : CExpr) (a : Operand) → IsFit s e → IsSingle s.tags a → IsKnown s e a
known s e a f v = record { good = v.0; place = λ h. absurd (apart (has_place a) v.1 h); named = λ h. absurd (apart (is_designator a.sort) v.2 h); fit = f }

-- a place of a form that is one
pub at_place : (s : Scope) (e : CExpr) (a : Operand) → IsFit s e → IsPlace e → is_designator a.sort ≡ false → IsGood s.tags a.ty → IsKnown s e a
at_place s e a f p d g = record { good = g; place = λ _. p; named = λ h. absurd (apart (is_designator a.sort) d h); fit = f }

pub weaker : {A : Type 0} (G H : A → Type 0) (r : Judged A) → ((a : A) → G a → H a) → IfOk G r → IfOk H r
weaker G H (Ok a) f g = f a g
weaker G H (Err e) f g = tt

-- ---- names

pub named_known : (s : Scope) (at : ℕ) (name : List ℕ) (o : Option Entity) → entity_of s name ≡ o → EntityIsGood s.tags o → IfOk (IsKnown s (plain.Var at name)) (named s at name o)
named_known s at name (Some (Object t)) e g = record { good = g; place = λ _. tt; named = λ h. absurd (apart false refl h); fit = tt }
named_known s at name (Some (Routine t begun)) e g =
    keeping_one (IsKnown s (plain.Var at name)) (contains s.defined name) (fault.BadCall at) (operand at (type.Pointer t) Designator NotConstant)
    (λ _. record { good = g; place = λ _. tt; named = λ h. (ap is_function e, refl); fit = tt })
named_known s at name (Some (BuiltIn t)) e g = tt
named_known s at name (Some Printf) e g = tt
named_known s at name None e g = tt

-- ---- operators on one side

-- no function's name
abbrev pub IsPointed : Tags → Operand → Type 0
IsPointed tags a = IsGood tags a.ty × (is_designator a.sort ≡ false)

pub pointed : (tags : Tags) (at : ℕ) (t : CType) → IsGood tags t → IfOk (IsPointed tags) (pointed_operand tags at t)
pointed tags at (type.Pointer (type.Function t ts)) g = (g, refl)
pointed tags at (type.Pointer t) g = keeping_one (IsPointed tags) (is_object_type tags t) (fault.Mismatch at) (place_at at t) (λ _. (g, refl))
pointed tags at t g = tt

number_known : (tags : Tags) (at : ℕ) (op : UnOp) (a : Operand) →
    IfOk (IsSingle tags) (keeping ((is_arithmetic (value_type a), fault.Mismatch at) ∷ []) (operand at (promoted (value_type a)) Other (unary_constant op a.constant)))
number_known tags at op a =
    keeping_one (IsSingle tags) (is_arithmetic (value_type a)) (fault.Mismatch at) (operand at (promoted (value_type a)) Other (unary_constant op a.constant))
    (λ _. at_value tags at (promoted (value_type a)) (unary_constant op a.constant) (word_value tags (is_unsigned (value_type a))))

-- what `&` takes is a function's name or a place
abbrev IsAddress : Tags → Operand → Operand → Type 0
IsAddress tags a b = IsSingle tags b × ((is_designator a.sort || has_place a) ≡ true)

or_true : (a b : Bool) → a ≡ true → (b || a) ≡ true
or_true a true h = refl
or_true a false h = h

array_place : (a : Operand) → (is_place a.sort || is_array a.ty) ≡ true → has_place a ≡ true
array_place a h = by_parts (is_place a.sort) a.ty h
  where
    by_parts : (b : Bool) (t : CType) → (b || is_array t) ≡ true → (b || is_aggregate t) ≡ true
    by_parts true t h = refl
    by_parts false (type.Array t n) h = refl
    by_parts false (type.Struct tag) h = refl
    by_parts false (type.Pointer t) h = absurd cc
    by_parts false (type.Function t ts) h = absurd cc
    by_parts false type.Void h = absurd cc
    by_parts false type.Int h = absurd cc
    by_parts false type.Unsigned h = absurd cc
    by_parts false type.Char h = absurd cc
    by_parts false type.UChar h = absurd cc
    by_parts false type.Null h = absurd cc

-- the name of a function is a pointer to it
abbrev NamesPointer : Operand → Type 0
NamesPointer a = is_designator a.sort ≡ true → is_aggregate a.ty ≡ false

address : (tags : Tags) (at : ℕ) (a : Operand) → IsGood tags a.ty → NamesPointer a → IfOk (IsAddress tags a) (address_operand at a)
address tags at a g n = by_sort (is_designator a.sort) n
  where
    by_sort : (b : Bool) → (b ≡ true → is_aggregate a.ty ≡ false) → IfOk (λ x. IsSingle tags x × ((b || has_place a) ≡ true)) (if b then Ok (value_at at a.ty) else keeping ((is_place a.sort || is_array a.ty, fault.NotLvalue a.pos) ∷ []) (value_at at (type.Pointer a.ty)))
    by_sort true n = ((g, n refl, refl), refl)
    by_sort false n =
        keeping_one (λ x. IsSingle tags x × (has_place a ≡ true)) (is_place a.sort || is_array a.ty) (fault.NotLvalue a.pos) (value_at at (type.Pointer a.ty)) (λ h. ((g, refl, refl), array_place a h))

-- the operand of an operator is known
abbrev OneIsFit : Scope → UnOp → CExpr → Operand → Operand → Type 0
OneIsFit s op e a b = IsAddressed s op e × IsGood s.tags b.ty × (is_designator b.sort ≡ false)

addressed : (s : Scope) (e : CExpr) (a : Operand) → IsKnown s e a → (is_designator a.sort || has_place a) ≡ true → IsPlaceUnless (names_function s e) e
addressed s e a k h = by_name (names_function s e) (is_designator a.sort) (λ d. (k.named d).0) h
  where
    by_name : (n d : Bool) → (d ≡ true → n ≡ true) → (d || has_place a) ≡ true → IsPlaceUnless n e
    by_name true d f h = tt
    by_name false true f h = absurd (apart false refl (f refl))
    by_name false false f h = k.place h

pub unary_known : (s : Scope) (at : ℕ) (op : UnOp) (e : CExpr) (a : Operand) → IsKnown s e a → IfOk (IsKnown s (plain.Unary at op e)) (unary_operand s.tags at op a)
unary_known s at unary.Address e a k =
    weaker (IsAddress s.tags a) (IsKnown s (plain.Unary at unary.Address e)) (address_operand at a)
    (λ b g. known s (plain.Unary at unary.Address e) b (k.fit, addressed s e a k g.1) g.0)
    (address s.tags at a k.good (λ h. (k.named h).1))
unary_known s at unary.Deref e a k =
    weaker (IsPointed s.tags) (IsKnown s (plain.Unary at unary.Deref e)) (pointed_operand s.tags at (value_type a))
    (λ b g. at_place s (plain.Unary at unary.Deref e) b (k.fit, tt) tt g.1 g.0)
    (pointed s.tags at (value_type a) (decayed_good s.tags a.ty k.good))
unary_known s at unary.Not e a k =
    keeping_one (IsKnown s (plain.Unary at unary.Not e)) (is_condition a) (fault.Mismatch at) (operand at type.Int Other (unary_constant unary.Not a.constant))
    (λ _. known s (plain.Unary at unary.Not e) (operand at type.Int Other (unary_constant unary.Not a.constant)) (k.fit, tt) (tt, refl, refl))
unary_known s at unary.Plus e a k =
    weaker (IsSingle s.tags) (IsKnown s (plain.Unary at unary.Plus e)) (unary_operand s.tags at unary.Plus a) (λ b g. known s (plain.Unary at unary.Plus e) b (k.fit, tt) g) (number_known s.tags at unary.Plus a)
unary_known s at unary.Minus e a k =
    weaker (IsSingle s.tags) (IsKnown s (plain.Unary at unary.Minus e)) (unary_operand s.tags at unary.Minus a) (λ b g. known s (plain.Unary at unary.Minus e) b (k.fit, tt) g) (number_known s.tags at unary.Minus a)
unary_known s at unary.Invert e a k =
    weaker (IsSingle s.tags) (IsKnown s (plain.Unary at unary.Invert e)) (unary_operand s.tags at unary.Invert a) (λ b g. known s (plain.Unary at unary.Invert e) b (k.fit, tt) g) (number_known s.tags at unary.Invert a)

-- ---- words of elements

pub counted : (tags : Tags) → TagsAreGood tags → (op : BinOp) (t u : CType) → IsGood tags t → IsGood tags u → HasElements tags op t → AreCounted tags op t u
counted tags h op t u g f e = record { left = element_below tags h t g; right = element_below tags h u f; some = e }

-- a sum that is one counts elements
sum_elements : (tags : Tags) → TagsAreGood tags → (t : CType) → is_some (sum_type tags t type.Int) ≡ true → 0 < element_words tags t
sum_elements tags h t e = by_tests (is_arithmetic t) (is_element_pointer tags t) e (arithmetic_elements tags t) (pointer_elements tags h t)
  where
    by_tests : (a b : Bool) → is_some (or_else (when (a && true) (common_type t type.Int)) (or_else (when (b && true) t) (when (a && false) type.Int))) ≡ true →
        (a ≡ true → 0 < element_words tags t) → (b ≡ true → 0 < element_words tags t) → 0 < element_words tags t
    by_tests true b e f g = f refl
    by_tests false true e f g = g refl
    by_tests false false e f g = absurd cc

step_elements : (tags : Tags) (op : StepOp) (t : CType) → 0 < element_words tags t → HasElements tags (step_op op) t
step_elements tags step.PreInc t h = tt
step_elements tags step.PreDec t h = h
step_elements tags step.PostInc t h = tt
step_elements tags step.PostDec t h = h

pub type_is : (s : Scope) (e : CExpr) (a : Operand) → judged s e ≡ Ok a → type_in s e ≡ a.ty
type_is s e a h = ap operand_type h

pub step_known : (s : Scope) (at : ℕ) (op : StepOp) (e : CExpr) (a : Operand) → TagsAreGood s.tags → judged s e ≡ Ok a → IsKnown s e a → IfOk (IsKnown s (plain.Step at op e)) (step_operand s.tags at a)
step_known s at op e a h j k =
    keeping_two (IsKnown s (plain.Step at op e)) (is_word_place a) (fault.NotLvalue a.pos) (is_some (sum_type s.tags (value_type a) type.Int)) (fault.Mismatch at) (value_at at (value_type a))
    (λ w c.
    let p = and_parts (is_place a.sort) (is_scalar a.ty) w in
    let d = scalar_decayed a.ty p.1 in
    let n : 0 < element_words s.tags a.ty = subst (λ t. 0 < element_words s.tags t) d (sum_elements s.tags h (value_type a) c) in
    let m : AreCounted s.tags (step_op op) a.ty type.Int = counted s.tags h (step_op op) a.ty type.Int k.good tt (step_elements s.tags op a.ty n) in
    known s (plain.Step at op e) (value_at at (value_type a))
    (k.fit, k.place (place_or (is_place a.sort) (is_aggregate a.ty) p.0), subst (λ t. AreCounted s.tags (step_op op) t type.Int) (sym (type_is s e a j)) m)
    (subst (λ t. IsSingle s.tags (value_at at t)) (sym d) (k.good, scalar_single a.ty p.1, refl)))
