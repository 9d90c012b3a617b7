-- Words of trees that stand for operators.
use Rattle.std.proofs.Common.{◌≡◌, ℕ, zero, suc, ◌+◌, ◌≤◌, Bool, true, false, List, [], ◌∷◌, ◌++◌, length, drop, Option, Some, None, refl, ap, arith}
use Rattle.std.specs.Prelude.{◌-◌, ◌^◌, ◌||◌, not, codes, if◌then◌else◌}
use Rattle.c_syntax.specs.Plain as plain
use Rattle.c_syntax.specs.Plain.{CExpr, CExprs, CTy, CTys, exprs}
use Rattle.c_syntax.specs.declared.tree.StepOp.{StepOp}
use Rattle.c_syntax.specs.declared.tree.StepOp.TheVariants as step
use Rattle.c_syntax.specs.declared.tree.BinOp.{BinOp}
use Rattle.c_syntax.specs.declared.tree.BinOp.TheVariants as binary
use Rattle.c_types.specs.Types as type
use Rattle.c_types.specs.Types.{CType, CTypes, Tags, is_pointer, is_unsigned}
use Rattle.c_types.specs.Scope.{Scope}
use Rattle.c_types.specs.Expressions.{names_function}
use Rattle.c_types.specs.Census.{expr_sum, exprs_sum, ty_sum, tys_sum}
use Rattle.c_types.specs.Room.{is_wide_pointer}
use Rattle.c_eval.specs.Operators.{element_words}
use Rattle.c_helpers.specs.Terms.{number}
use Rattle.c_helpers.specs.Meanings.{is_format}
use Rattle.c_helpers.specs.Names.{names_in, names_in_all}
use Rattle.c_helpers.specs.Fewer.{array_tree, type_tree, type_trees, fewer_in_type, fewer_in_types, sign_of, kind_word, helper_call, as_type, words_by, address_at, moved_place, sum_tree, difference_tree, operator_tree, assignment_tree, wide_step, step_tree, element_tree, call_tree}
use Rattle.c_fewer_names.proofs.Trees.{is_var}
use Rattle.c_compiled.specs.Words.{words, format_words}

pub both_words : (xs ys : List (List ℕ)) → format_words (xs ++ ys) ≡ format_words xs + format_words ys
both_words [] ys = omega arith
both_words (x ∷ xs) ys = let e = both_words xs ys in omega (arith, e)

-- what a name counts that is called, or counts as a format
abbrev of_name : Bool → ℕ → ℕ
of_name b n = if b then n else 0

abbrev but_name : Bool → ℕ → ℕ
but_name b n = if b then 0 else n

pub no_word : (b : Bool) → but_name b 0 ≡ 0
no_word true = refl
no_word false = refl

pub fewer_words : (b : Bool) (n : ℕ) → but_name b n ≤ n
fewer_words true n = omega arith
fewer_words false n = omega arith

-- ---- names of helper functions

abbrev pub SignIsCalm : Option (List ℕ) → Type 0
SignIsCalm None = Unit {0}
SignIsCalm (Some sign) = (is_format sign ≡ false) × (is_format (sign ++ codes "=") ≡ false)

pub sign_calm : (op : BinOp) (b : Bool) → SignIsCalm (sign_of op b)
sign_calm binary.Mul b = (refl, refl)
sign_calm binary.Div true = (refl, refl)
sign_calm binary.Div false = (refl, refl)
sign_calm binary.Mod true = (refl, refl)
sign_calm binary.Mod false = (refl, refl)
sign_calm binary.BitAnd b = (refl, refl)
sign_calm binary.BitOr b = (refl, refl)
sign_calm binary.BitXor b = (refl, refl)
sign_calm binary.Shl b = (refl, refl)
sign_calm binary.Shr true = (refl, refl)
sign_calm binary.Shr false = (refl, refl)
sign_calm op b = tt

sum_calm : (b : Bool) → is_format (codes "pointer + " ++ kind_word b) ≡ false
sum_calm true = refl
sum_calm false = refl

swapped_calm : (b : Bool) → is_format (kind_word b ++ codes " + pointer") ≡ false
swapped_calm true = refl
swapped_calm false = refl

moving_calm : (b : Bool) → is_format (codes "pointer += " ++ kind_word b) ≡ false
moving_calm true = refl
moving_calm false = refl

module _ (z : Scope) where
  -- ---- types

  array_words : (t : CTy) (n : ℕ) → ty_sum words z t ≡ 0 → ty_sum words z (array_tree t n) ≡ 0
  array_words t zero e = omega (arith, e)
  array_words t (suc n) e = omega (arith, e)

  mutual
    type_words : (t : CType) → ty_sum words z (type_tree t) ≡ 0
    type_words type.Void = refl
    type_words type.Null = refl
    type_words type.Int = refl
    type_words type.Unsigned = refl
    type_words type.Char = refl
    type_words type.UChar = refl
    type_words (type.Struct tag) = refl
    type_words (type.Pointer t) = let e = type_words t in omega (arith, e)
    type_words (type.Array t n) = array_words (type_tree t) n (type_words t)
    type_words (type.Function t ts) = let e = type_words t in let k = types_words ts in omega (arith, e, k)

    types_words : (ts : CTypes) → tys_sum words z (type_trees ts) ≡ 0
    types_words type.NoType = refl
    types_words (type.MoreType t ts) = let e = type_words t in let k = types_words ts in omega (arith, e, k)

  mutual
    pub fewer_type_words : (s : Scope) (t : CTy) → ty_sum words z (fewer_in_type s t) ≡ 0
    fewer_type_words s plain.Void = refl
    fewer_type_words s plain.Int = refl
    fewer_type_words s plain.Unsigned = refl
    fewer_type_words s plain.Char = refl
    fewer_type_words s plain.UChar = refl
    fewer_type_words s (plain.Struct tag) = refl
    fewer_type_words s (plain.Pointer t) = let e = fewer_type_words s t in omega (arith, e)
    fewer_type_words s (plain.Array t) = let e = fewer_type_words s t in omega (arith, e)
    fewer_type_words s (plain.ArrayOf t n) = let e = fewer_type_words s t in omega (arith, e)
    fewer_type_words s (plain.Func t ts) = let e = fewer_type_words s t in let k = fewer_types_words s ts in omega (arith, e, k)

    fewer_types_words : (s : Scope) (ts : CTys) → tys_sum words z (fewer_in_types s ts) ≡ 0
    fewer_types_words s plain.NoTy = refl
    fewer_types_words s (plain.MoreTy t ts) = let e = fewer_type_words s t in let k = fewer_types_words s ts in omega (arith, e, k)

  -- ---- calls

  -- an expression has so many words at most, with those of formats that it names
  abbrev pub Few : CExpr → ℕ → Type 0
  Few e n = expr_sum words z e + format_words (names_in e) ≤ n

  abbrev pub AllFew : CExprs → ℕ → Type 0
  AllFew es n = exprs_sum words z es + format_words (names_in_all es) ≤ n

  pub more_few : (e : CExpr) (es : CExprs) (m n : ℕ) → Few e m → AllFew es n → AllFew (plain.MoreExpr e es) (m + n)
  more_few e es m n f g = let b = both_words (names_in e) (names_in_all es) in omega (arith, f, g, b)

  pub called_few : (at pos : ℕ) (name : List ℕ) (es : CExprs) (n : ℕ) → is_format name ≡ false → AllFew es n → Few (plain.Call at (plain.Var pos name) es) n
  called_few at pos name es n calm f =
      let a = no_word (names_function z (plain.Var pos name)) in
      let b : of_name (is_format name) (length (drop 7 name) + 1) ≡ 0 = ap (λ b. of_name b (length (drop 7 name) + 1)) calm in
      omega (arith, a, b, f)

  typed_few : (at : ℕ) (t : CType) (e : CExpr) (n : ℕ) → Few e n → Few (as_type at t e) n
  typed_few at t e n f = let k = type_words t in omega (arith, k, f)

  -- the last of several
  last_few : (e : CExpr) (n : ℕ) → Few e n → AllFew (exprs (e ∷ [])) n
  last_few e n f = let b = both_words (names_in e) [] in omega (arith, f, b)

  -- and a number behind it, or two
  then_few : (e : CExpr) (x n : ℕ) → Few e n → AllFew (exprs (e ∷ number x ∷ [])) n
  then_few e x n f = let b = both_words (names_in e) [] in omega (arith, f, b)

  address_few : (at : ℕ) (a : CExpr) (n : ℕ) → Few a n → Few (address_at at a) n
  address_few at a n f = omega (arith, f)

  module _ (at : ℕ) (name : List ℕ) (calm : is_format name ≡ false) (a : CExpr) (m : ℕ) (f : Few a m) where
    one_few : Few (helper_call at name (a ∷ [])) m
    one_few = called_few at at name (exprs (a ∷ [])) m calm (last_few a m f)

    -- with the address of a place, and a number
    stepped_few : (t : CType) (x : ℕ) → Few (as_type at t (helper_call at name (address_at at a ∷ number x ∷ []))) m
    stepped_few t x = typed_few at t (helper_call at name (address_at at a ∷ number x ∷ [])) m (called_few at at name (exprs (address_at at a ∷ number x ∷ [])) m calm (then_few (address_at at a) x m (address_few at a m f)))

    -- and two numbers
    moved_few : (t : CType) (x y : ℕ) → Few (as_type at t (helper_call at name (address_at at a ∷ number x ∷ number y ∷ []))) m
    moved_few t x y = typed_few at t (helper_call at name (address_at at a ∷ number x ∷ number y ∷ [])) m (called_few at at name (exprs (address_at at a ∷ number x ∷ number y ∷ [])) m calm (let b = both_words (names_in a) [] in omega (arith, f, b)))

  module _ (at : ℕ) (name : List ℕ) (calm : is_format name ≡ false) (a b : CExpr) (m n : ℕ) (f : Few a m) (g : Few b n) where
    two_few : (t : CType) → Few (as_type at t (helper_call at name (a ∷ b ∷ []))) (m + n)
    two_few t = typed_few at t (helper_call at name (a ∷ b ∷ [])) (m + n) (called_few at at name (exprs (a ∷ b ∷ [])) (m + n) calm (more_few a (exprs (b ∷ [])) m n f (last_few b n g)))

    -- and a number
    three_few : (y : ℕ) → Few (helper_call at name (a ∷ b ∷ number y ∷ [])) (m + n)
    three_few y = called_few at at name (exprs (a ∷ b ∷ number y ∷ [])) (m + n) calm (more_few a (exprs (b ∷ number y ∷ [])) m n f (then_few b y n g))

    moved_sum_few : (t : CType) (y : ℕ) → Few (as_type at t (helper_call at name (a ∷ b ∷ number y ∷ []))) (m + n)
    moved_sum_few t y = typed_few at t (helper_call at name (a ∷ b ∷ number y ∷ [])) (m + n) (three_few y)

    -- with the address of a place
    placed_few : (t : CType) → Few (as_type at t (helper_call at name (address_at at a ∷ b ∷ []))) (m + n)
    placed_few t = typed_few at t (helper_call at name (address_at at a ∷ b ∷ [])) (m + n) (called_few at at name (exprs (address_at at a ∷ b ∷ [])) (m + n) calm (more_few (address_at at a) (exprs (b ∷ [])) m n (address_few at a m f) (last_few b n g)))

    -- and a number
    moving_few : (t : CType) (y : ℕ) → Few (as_type at t (helper_call at name (address_at at a ∷ b ∷ number y ∷ []))) (m + n)
    moving_few t y = typed_few at t (helper_call at name (address_at at a ∷ b ∷ number y ∷ [])) (m + n) (called_few at at name (exprs (address_at at a ∷ b ∷ number y ∷ [])) (m + n) calm (more_few (address_at at a) (exprs (b ∷ number y ∷ [])) m n (address_few at a m f) (then_few b y n g)))

  -- ---- operators

  if_few : (b : Bool) (x y : CExpr) (n : ℕ) → Few x n → Few y n → Few (if b then x else y) n
  if_few true x y n h l = h
  if_few false x y n h l = l

  pub inverted_few : (at : ℕ) (t : CType) (a : CExpr) (m : ℕ) → Few a m → Few (as_type at t (helper_call at (codes "~") (a ∷ []))) m
  inverted_few at t a m f = typed_few at t (helper_call at (codes "~") (a ∷ [])) m (one_few at (codes "~") refl a m f)

  module _ (tags : Tags) (at : ℕ) (a b : CExpr) (m n : ℕ) (f : Few a m) (g : Few b n) where
    plainly : (op : BinOp) → Few (plain.Binary at op a b) (m + n)
    plainly op = let e = both_words (names_in a) (names_in b) in omega (arith, f, g, e)

    sum_few : (t u : CType) → Few (sum_tree tags at t u a b) (m + n)
    sum_few t u =
        if_few (is_wide_pointer tags t) _ _ (m + n) (moved_sum_few at (codes "pointer + " ++ kind_word (is_unsigned u)) (sum_calm (is_unsigned u)) a b m n f g t (element_words tags t))
        (if_few (is_wide_pointer tags u) _ _ (m + n) (moved_sum_few at (kind_word (is_unsigned t) ++ codes " + pointer") (swapped_calm (is_unsigned t)) a b m n f g u (element_words tags u)) (plainly binary.Add))

    difference_few : (t u : CType) → Few (difference_tree tags at t u a b) (m + n)
    difference_few t u =
        if_few (not (is_wide_pointer tags t)) _ _ (m + n) (plainly binary.Sub)
        (if_few (is_pointer u) _ _ (m + n) (three_few at (codes "pointer - pointer") refl a b m n f g (element_words tags t))
        (moved_sum_few at (codes "pointer + " ++ kind_word (is_unsigned u)) (sum_calm (is_unsigned u)) a b m n f g t (2 ^ 24 - element_words tags t)))

    pub operator_few : (sign : Option (List ℕ)) (op : BinOp) (result t u : CType) → SignIsCalm sign → Few (operator_tree tags at sign op result t u a b) (m + n)
    operator_few (Some sign) op result t u calm = two_few at sign calm.0 a b m n f g result
    operator_few None binary.Add result t u calm = sum_few t u
    operator_few None binary.Sub result t u calm = difference_few t u
    operator_few None op result t u calm = plainly op

    pub assigned_few : (op : Option BinOp) → Few (plain.Assign at op a b) (m + n)
    assigned_few op = let e = both_words (names_in a) (names_in b) in omega (arith, f, g, e)

    moving_by : (op : BinOp) (t u : CType) → Few (moved_place at t (is_unsigned u) a b (words_by op tags t)) (m + n)
    moving_by binary.Sub t u = moving_few at (codes "pointer += " ++ kind_word (is_unsigned u)) (moving_calm (is_unsigned u)) a b m n f g t (2 ^ 24 - element_words tags t)
    moving_by op t u = moving_few at (codes "pointer += " ++ kind_word (is_unsigned u)) (moving_calm (is_unsigned u)) a b m n f g t (element_words tags t)

    pub assignment_few : (sign : Option (List ℕ)) (op : BinOp) (t u : CType) → SignIsCalm sign → Few (assignment_tree tags at sign op t u a b) (m + n)
    assignment_few (Some sign) op t u calm = placed_few at (sign ++ codes "=") calm.1 a b m n f g t
    assignment_few None op t u calm = if_few (is_wide_pointer tags t) _ _ (m + n) (moving_by op t u) (assigned_few (Some op))

    pub element_few : (t u : CType) → Few (element_tree tags at t u a b) (m + n)
    element_few t u =
        let s = sum_few t u in let e = both_words (names_in a) (names_in b) in
        if_few (is_wide_pointer tags t || is_wide_pointer tags u) _ _ (m + n) (omega (arith, s)) (omega (arith, f, g, e))

  module _ (tags : Tags) (at : ℕ) (a : CExpr) (m : ℕ) (f : Few a m) where
    wide_few : (op : StepOp) (t : CType) → Few (wide_step tags at op t a) m
    wide_few step.PreInc t = moved_few at (codes "pointer += int") refl a m f t 1 (element_words tags t)
    wide_few step.PreDec t = moved_few at (codes "pointer += int") refl a m f t 1 (2 ^ 24 - element_words tags t)
    wide_few step.PostInc t = stepped_few at (codes "pointer++") refl a m f t (element_words tags t)
    wide_few step.PostDec t = stepped_few at (codes "pointer++") refl a m f t (2 ^ 24 - element_words tags t)

    pub step_few : (op : StepOp) (t : CType) → Few (step_tree tags at op t a) m
    step_few op t = if_few (is_wide_pointer tags t) _ _ m (wide_few op t) (omega (arith, f))

  -- ---- calls through values

  module _ (s : Scope) (at : ℕ) (es : CExprs) (m n : ℕ) (g : AllFew es n) where
    through : (h : CExpr) → Few h m → Few (plain.Call at h es) (m + n)
    through h f = let b = both_words (names_in h) (names_in_all es) in let k = fewer_words (names_function z h) (expr_sum words z h) in omega (arith, f, g, b, k)

    -- a call through the value of an expression
    pub through_few : (h : CExpr) (format : Option (List ℕ)) → is_var h ≡ false → Few h m → Few (call_tree s at h format es) (m + n)
    through_few (plain.Var pos name) format e f = absurd (cc e)
    through_few h format e f = through h f
