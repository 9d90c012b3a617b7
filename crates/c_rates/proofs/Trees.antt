-- What trees that stand for operators count, by the nodes of the operators.
use Rattle.std.proofs.Common.{◌≡◌, ℕ, ◌+◌, ◌*◌, ◌≤◌, max, Bool, true, false, List, [], ◌∷◌, ◌++◌, Option, Some, None, refl, sym, subst, arith}
use Rattle.std.specs.Prelude.{◌-◌, ◌^◌, ◌||◌, not, codes, if◌then◌else◌}
use Rattle.c_syntax.specs.Plain as plain
use Rattle.c_syntax.specs.Plain.{CExpr, CExprs, exprs}
use Rattle.c_syntax.specs.declared.tree.StepOp.{StepOp}
use Rattle.c_syntax.specs.declared.tree.StepOp.TheVariants as step
use Rattle.c_syntax.specs.declared.tree.BinOp.{BinOp}
use Rattle.c_syntax.specs.declared.tree.BinOp.TheVariants as binary
use Rattle.c_types.specs.Types.{CType, Tags, is_pointer, is_unsigned}
use Rattle.c_types.specs.Scope.{Scope}
use Rattle.c_types.specs.Room.{is_wide_pointer}
use Rattle.c_eval.specs.Operators.{element_words}
use Rattle.c_helpers.specs.Terms.{number}
use Rattle.c_helpers.specs.Meanings.{is_format}
use Rattle.c_helpers.specs.Frames.{beyond, waiting, waiting_all}
use Rattle.c_helpers.specs.Cost.{cost_of, costs_of}
use Rattle.c_helpers.specs.Fewer.{sign_of, kind_word, helper_call, words_by, address_at, moved_place, sum_tree, difference_tree, operator_tree, assignment_tree, wide_step, step_tree, element_tree, call_tree}
use Rattle.c_stated.specs.Worth.{calls_in, all_calls}
use Rattle.c_fewer_names.proofs.Trees.{is_var}

-- of an expression that comes from so many nodes: the words that wait, the cost, and the calls
abbrev pub Fits : CExpr → ℕ → Type 0
Fits e n = (waiting e ≤ 4 * n) × (cost_of e ≤ 30 * n) × (calls_in e ≤ n) × (1 ≤ n)

-- of arguments
abbrev pub AllFit : CExprs → ℕ → Type 0
AllFit es n = ((before behind : ℕ) → waiting_all before behind es ≤ before + behind + 4 * n) × (costs_of es ≤ 30 * n) × (all_calls es ≤ n)

-- ---- calls of names that are no format's

module _ (at pos : ℕ) (name : List ℕ) (calm : is_format name ≡ false) where
  -- the words that wait for such a call
  calmly : (es : CExprs) (n : ℕ) → waiting_all 1 0 es ≤ n → waiting (plain.Call at (plain.Var pos name) es) ≤ n
  calmly es n w = subst (λ (b : Bool). max 0 (waiting_all 1 (if b then 6 else 0) es) ≤ n) (sym calm) (omega (arith, w))

  pub called_fits : (es : CExprs) (n k : ℕ) → AllFit es n → 1 ≤ k → Fits (plain.Call at (plain.Var pos name) es) (k + n)
  called_fits es n k f o =
      let w = f.0 1 0 in let c = f.1 in let u = f.2 in
      (calmly es (4 * (k + n)) (omega (arith, w, o)), omega (arith, c, o), omega (arith, u, o), omega (arith, o))

module _ (at : ℕ) (name : List ℕ) (calm : is_format name ≡ false) (a : CExpr) (m k : ℕ) (f : Fits a m) (o : 1 ≤ k) where
  -- with one operand
  pub one_fits : Fits (helper_call at name (a ∷ [])) (k + m)
  one_fits =
      let w = f.0 in let c = f.1 in let u = f.2 in let i = f.3 in
      (calmly at at name calm (exprs (a ∷ [])) (4 * (k + m)) (omega (arith, w, o, i)), omega (arith, c, o), omega (arith, u, o), omega (arith, o))

  -- with the address of a place, and a number
  pub stepped_fits : (x : ℕ) → Fits (helper_call at name (address_at at a ∷ number x ∷ [])) (k + m)
  stepped_fits x =
      let w = f.0 in let c = f.1 in let u = f.2 in let i = f.3 in
      (calmly at at name calm (exprs (address_at at a ∷ number x ∷ [])) (4 * (k + m)) (omega (arith, w, o, i)), omega (arith, c, o), omega (arith, u, o), omega (arith, o))

  -- and two numbers
  pub moved_fits : (x y : ℕ) → Fits (helper_call at name (address_at at a ∷ number x ∷ number y ∷ [])) (k + m)
  moved_fits x y =
      let w = f.0 in let c = f.1 in let u = f.2 in let i = f.3 in
      (calmly at at name calm (exprs (address_at at a ∷ number x ∷ number y ∷ [])) (4 * (k + m)) (omega (arith, w, o, i)), omega (arith, c, o), omega (arith, u, o), omega (arith, o))

module _ (at : ℕ) (name : List ℕ) (calm : is_format name ≡ false) (a b : CExpr) (m n k : ℕ) (f : Fits a m) (g : Fits b n) (o : 1 ≤ k) where
  -- with both operands
  pub two_fit : Fits (helper_call at name (a ∷ b ∷ [])) (k + m + n)
  two_fit =
      let w = f.0 in let c = f.1 in let u = f.2 in let i = f.3 in let x = g.0 in let d = g.1 in let v = g.2 in let j = g.3 in
      (calmly at at name calm (exprs (a ∷ b ∷ [])) (4 * (k + m + n)) (omega (arith, w, x, o, i, j)), omega (arith, c, d, o), omega (arith, u, v, o), omega (arith, o))

  -- and a number
  pub three_fit : (y : ℕ) → Fits (helper_call at name (a ∷ b ∷ number y ∷ [])) (k + m + n)
  three_fit y =
      let w = f.0 in let c = f.1 in let u = f.2 in let i = f.3 in let x = g.0 in let d = g.1 in let v = g.2 in let j = g.3 in
      (calmly at at name calm (exprs (a ∷ b ∷ number y ∷ [])) (4 * (k + m + n)) (omega (arith, w, x, o, i, j)), omega (arith, c, d, o), omega (arith, u, v, o), omega (arith, o))

  -- with the address of a place
  pub placed_fit : Fits (helper_call at name (address_at at a ∷ b ∷ [])) (k + m + n)
  placed_fit =
      let w = f.0 in let c = f.1 in let u = f.2 in let i = f.3 in let x = g.0 in let d = g.1 in let v = g.2 in let j = g.3 in
      (calmly at at name calm (exprs (address_at at a ∷ b ∷ [])) (4 * (k + m + n)) (omega (arith, w, x, o, i, j)), omega (arith, c, d, o), omega (arith, u, v, o), omega (arith, o))

  -- and a number
  pub moving_fit : (y : ℕ) → Fits (helper_call at name (address_at at a ∷ b ∷ number y ∷ [])) (k + m + n)
  moving_fit y =
      let w = f.0 in let c = f.1 in let u = f.2 in let i = f.3 in let x = g.0 in let d = g.1 in let v = g.2 in let j = g.3 in
      (calmly at at name calm (exprs (address_at at a ∷ b ∷ number y ∷ [])) (4 * (k + m + n)) (omega (arith, w, x, o, i, j)), omega (arith, c, d, o), omega (arith, u, v, o), omega (arith, o))

-- ---- names of helper functions

sum_calm : (b : Bool) → is_format (codes "pointer + " ++ kind_word b) ≡ false
sum_calm true = refl
sum_calm false = refl

swapped_calm : (b : Bool) → is_format (kind_word b ++ codes " + pointer") ≡ false
swapped_calm true = refl
swapped_calm false = refl

moving_calm : (b : Bool) → is_format (codes "pointer += " ++ kind_word b) ≡ false
moving_calm true = refl
moving_calm false = refl

abbrev pub SignIsCalm : Option (List ℕ) → Type 0
SignIsCalm None = Unit {0}
SignIsCalm (Some sign) = (is_format sign ≡ false) × (is_format (sign ++ codes "=") ≡ false)

pub sign_calm : (op : BinOp) (b : Bool) → SignIsCalm (sign_of op b)
sign_calm binary.Mul b = (refl, refl)
sign_calm binary.Div true = (refl, refl)
sign_calm binary.Div false = (refl, refl)
sign_calm binary.Mod true = (refl, refl)
sign_calm binary.Mod false = (refl, refl)
sign_calm binary.BitAnd b = (refl, refl)
sign_calm binary.BitOr b = (refl, refl)
sign_calm binary.BitXor b = (refl, refl)
sign_calm binary.Shl b = (refl, refl)
sign_calm binary.Shr true = (refl, refl)
sign_calm binary.Shr false = (refl, refl)
sign_calm op b = tt

-- ---- operators

pub if_fits : (b : Bool) (x y : CExpr) (n : ℕ) → Fits x n → Fits y n → Fits (if b then x else y) n
if_fits true x y n f g = f
if_fits false x y n f g = g

module _ (tags : Tags) (at : ℕ) (a b : CExpr) (m n k : ℕ) (f : Fits a m) (g : Fits b n) (o : 1 ≤ k) where
  plainly : (op : BinOp) → Fits (plain.Binary at op a b) (k + m + n)
  plainly op =
      let w = f.0 in let c = f.1 in let u = f.2 in let x = g.0 in let d = g.1 in let v = g.2 in
      (omega (arith, w, x, o), omega (arith, c, d, o), omega (arith, u, v), omega (arith, o))

  -- a sum takes three nodes less
  pub sum_fits : (t u : CType) → Fits (sum_tree tags at t u a b) (k + m + n)
  sum_fits t u =
      if_fits (is_wide_pointer tags t) _ _ (k + m + n) (three_fit at (codes "pointer + " ++ kind_word (is_unsigned u)) (sum_calm (is_unsigned u)) a b m n k f g o 0)
      (if_fits (is_wide_pointer tags u) _ _ (k + m + n) (three_fit at (kind_word (is_unsigned t) ++ codes " + pointer") (swapped_calm (is_unsigned t)) a b m n k f g o 0) (plainly binary.Add))

  difference_fits : (t u : CType) → Fits (difference_tree tags at t u a b) (k + m + n)
  difference_fits t u =
      if_fits (not (is_wide_pointer tags t)) _ _ (k + m + n) (plainly binary.Sub)
      (if_fits (is_pointer u) _ _ (k + m + n) (three_fit at (codes "pointer - pointer") refl a b m n k f g o 0) (three_fit at (codes "pointer + " ++ kind_word (is_unsigned u)) (sum_calm (is_unsigned u)) a b m n k f g o 0))

  pub operator_fits : (sign : Option (List ℕ)) (op : BinOp) (result t u : CType) → SignIsCalm sign → Fits (operator_tree tags at sign op result t u a b) (k + m + n)
  operator_fits (Some sign) op result t u calm = two_fit at sign calm.0 a b m n k f g o
  operator_fits None binary.Add result t u calm = sum_fits t u
  operator_fits None binary.Sub result t u calm = difference_fits t u
  operator_fits None op result t u calm = plainly op

  assigned : (op : Option BinOp) → Fits (plain.Assign at op a b) (k + m + n)
  assigned op =
      let w = f.0 in let c = f.1 in let u = f.2 in let x = g.0 in let d = g.1 in let v = g.2 in
      (omega (arith, w, x, o), omega (arith, c, d, o), omega (arith, u, v), omega (arith, o))

  pub set_fits : Fits (plain.Assign at None a b) (k + m + n)
  set_fits = assigned None

  moving_by : (op : BinOp) (t u : CType) → Fits (moved_place at t (is_unsigned u) a b (words_by op tags t)) (k + m + n)
  moving_by binary.Sub t u = moving_fit at (codes "pointer += " ++ kind_word (is_unsigned u)) (moving_calm (is_unsigned u)) a b m n k f g o 0
  moving_by op t u = moving_fit at (codes "pointer += " ++ kind_word (is_unsigned u)) (moving_calm (is_unsigned u)) a b m n k f g o 0

  pub assignment_fits : (sign : Option (List ℕ)) (op : BinOp) (t u : CType) → SignIsCalm sign → Fits (assignment_tree tags at sign op t u a b) (k + m + n)
  assignment_fits (Some sign) op t u calm = placed_fit at (sign ++ codes "=") calm.1 a b m n k f g o
  assignment_fits None op t u calm = if_fits (is_wide_pointer tags t) _ _ (k + m + n) (moving_by op t u) (assigned (Some op))

  if_costs : (b : Bool) (x y : CExpr) → cost_of x + 5 ≤ 30 * (k + m + n) → cost_of y + 5 ≤ 30 * (k + m + n) → cost_of (if b then x else y) + 5 ≤ 30 * (k + m + n)
  if_costs true x y h l = h
  if_costs false x y h l = l

  sum_costs : (t u : CType) → cost_of (sum_tree tags at t u a b) + 5 ≤ 30 * (k + m + n)
  sum_costs t u =
      let c = f.1 in let d = g.1 in
      if_costs (is_wide_pointer tags t) _ _ (omega (arith, c, d, o)) (if_costs (is_wide_pointer tags u) _ _ (omega (arith, c, d, o)) (omega (arith, c, d, o)))

  pub element_fits : (t u : CType) → Fits (element_tree tags at t u a b) (k + m + n)
  element_fits t u =
      let w = f.0 in let c = f.1 in let v = f.2 in let x = g.0 in let d = g.1 in let z = g.2 in let s = sum_fits t u in let q = sum_costs t u in
      if_fits (is_wide_pointer tags t || is_wide_pointer tags u) _ _ (k + m + n) (s.0, omega (arith, q), s.2, s.3) (omega (arith, w, x, o), omega (arith, c, d, o), omega (arith, v, z), omega (arith, o))

module _ (tags : Tags) (at : ℕ) (a : CExpr) (m k : ℕ) (f : Fits a m) (o : 1 ≤ k) where
  wide_fits : (op : StepOp) (t : CType) → Fits (wide_step tags at op t a) (k + m)
  wide_fits step.PreInc t = moved_fits at (codes "pointer += int") refl a m k f o 1 (element_words tags t)
  wide_fits step.PreDec t = moved_fits at (codes "pointer += int") refl a m k f o 1 (2 ^ 24 - element_words tags t)
  wide_fits step.PostInc t = stepped_fits at (codes "pointer++") refl a m k f o (element_words tags t)
  wide_fits step.PostDec t = stepped_fits at (codes "pointer++") refl a m k f o (2 ^ 24 - element_words tags t)

  pub step_fits : (op : StepOp) (t : CType) → Fits (step_tree tags at op t a) (k + m)
  step_fits op t =
      let w = f.0 in let c = f.1 in let u = f.2 in
      if_fits (is_wide_pointer tags t) _ _ (k + m) (wide_fits op t) (omega (arith, w, o), omega (arith, c, o), omega (arith, u), omega (arith, o))

-- ---- calls

-- one behind the other
pub more_fit : (e : CExpr) (es : CExprs) (m n : ℕ) → Fits e m → AllFit es n → AllFit (plain.MoreExpr e es) (m + n)
more_fit e es m n f g =
    let w = f.0 in let c = f.1 in let u = f.2 in let i = f.3 in let d = g.1 in let v = g.2 in
    ((λ before behind. let x = g.0 (before + 1) behind in omega (arith, w, x, i)), omega (arith, c, d), omega (arith, u, v))

through : (at : ℕ) (h : CExpr) (es : CExprs) (m n k : ℕ) → beyond h ≡ 0 → Fits h m → AllFit es n → 1 ≤ k → Fits (plain.Call at h es) (k + m + n)
through at h es m n k calm f g o =
    let w = f.0 in let c = f.1 in let u = f.2 in let x = g.0 1 0 in let d = g.1 in let v = g.2 in
    (subst (λ z. max (waiting h) (waiting_all 1 z es) ≤ 4 * (k + m + n)) (sym calm) (omega (arith, w, x, o)), omega (arith, c, d, o), omega (arith, u, v, o), omega (arith, o))

-- a call through the value of an expression
pub through_fits : (s : Scope) (at : ℕ) (h : CExpr) (format : Option (List ℕ)) (es : CExprs) (m n k : ℕ) → is_var h ≡ false → Fits h m → AllFit es n → 1 ≤ k → Fits (call_tree s at h format es) (k + m + n)
through_fits s at (plain.Var pos name) format es m n k e f g o = absurd (cc e)
through_fits s at (plain.Number pos v x) format es m n k e f g o = through at (plain.Number pos v x) es m n k refl f g o
through_fits s at (plain.Str pos text) format es m n k e f g o = through at (plain.Str pos text) es m n k refl f g o
through_fits s at (plain.Null pos) format es m n k e f g o = through at (plain.Null pos) es m n k refl f g o
through_fits s at (plain.Unary pos op a) format es m n k e f g o = through at (plain.Unary pos op a) es m n k refl f g o
through_fits s at (plain.Step pos op a) format es m n k e f g o = through at (plain.Step pos op a) es m n k refl f g o
through_fits s at (plain.Binary pos op a b) format es m n k e f g o = through at (plain.Binary pos op a b) es m n k refl f g o
through_fits s at (plain.Assign pos op a b) format es m n k e f g o = through at (plain.Assign pos op a b) es m n k refl f g o
through_fits s at (plain.Cond pos a b d) format es m n k e f g o = through at (plain.Cond pos a b d) es m n k refl f g o
through_fits s at (plain.Comma pos a b) format es m n k e f g o = through at (plain.Comma pos a b) es m n k refl f g o
through_fits s at (plain.Cast pos u a) format es m n k e f g o = through at (plain.Cast pos u a) es m n k refl f g o
through_fits s at (plain.SizeTy pos u) format es m n k e f g o = through at (plain.SizeTy pos u) es m n k refl f g o
through_fits s at (plain.SizeOf pos a) format es m n k e f g o = through at (plain.SizeOf pos a) es m n k refl f g o
through_fits s at (plain.Index pos a b) format es m n k e f g o = through at (plain.Index pos a b) es m n k refl f g o
through_fits s at (plain.Call pos a fs) format es m n k e f g o = through at (plain.Call pos a fs) es m n k refl f g o
through_fits s at (plain.Member pos a x) format es m n k e f g o = through at (plain.Member pos a x) es m n k refl f g o
through_fits s at (plain.Arrow pos a x) format es m n k e f g o = through at (plain.Arrow pos a x) es m n k refl f g o
