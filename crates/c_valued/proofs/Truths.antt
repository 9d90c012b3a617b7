-- Operators on two values, `&&` and `||`, as values and as conditions; and all expressions without calls.
use Rattle.std.proofs.Common.{◌≡◌, ℕ, ◌+◌, ◌^◌, ◌<◌, ◌≤◌, Bool, true, false, List, [], ◌∷◌, ◌++◌, length, Some, refl, sym, ap, ◌∙◌, subst, arith, append-nil, if◌then◌else◌}
use Rattle.std.specs.Prelude.{max}
use Rattle.eir_core.specs.Step.{reg_of, value_of as operand_value, holds}
use Rattle.eir_core.specs.declared.ops.Reg.{Reg}
use Rattle.eir_core.specs.declared.ops.Operand.{Operand}
use Rattle.eir_core.specs.declared.ops.Cond.{Cond}
use Rattle.eir_core.specs.declared.ops.Op.{Op}
use Rattle.eir_core.specs.declared.ops.Op.TheVariants.{JumpIf}
use Rattle.c_syntax.specs.Plain.{CExpr, Number, Str, Null, Var, Unary, Step, Binary, Assign, Cond as Choice, Comma, Cast, SizeTy, SizeOf, Index, Call, Member, Arrow}
use Rattle.c_syntax.specs.declared.tree.BinOp.{BinOp}
use Rattle.c_syntax.specs.declared.tree.BinOp.TheVariants as binary
use Rattle.c_types.specs.Types.{CType, Tags}
use Rattle.c_eval.specs.State.{Value, Word, Run, OutsideObject}
use Rattle.c_eval.specs.Run.{◌>>=◌, give, choose}
use Rattle.c_eval.specs.Operators.{used, is_true, truth_value, combined, operated}
use Rattle.c_eval.specs.Environment.{Environment, value_type_in, past}
use Rattle.c_eval.specs.LiteralsIn.{literals_in}
use Rattle.c_eval.specs.Eval.{World, value_of}
use Rattle.c_helpers.specs.Frames.{waiting}
use Rattle.c_place.specs.Code.{jumps}
use Rattle.c_place.specs.Place.{Machine, made_all}
use Rattle.c_place.proofs.CutLemmas.{jumps_append}
use Rattle.c_lowered.specs.Counts.{expr_jumps, truth_jumps}
use Rattle.c_lowered.specs.Locations.{Linking, direct, is_quiet}
use Rattle.c_lowered.specs.Operations.{Operands, operands, operator_code, is_signed, comparison_of, comparable, jump_where, opposite, constant, truth_word}
use Rattle.c_lowered.specs.Expressions.{value_code, truth_code}
use Rattle.c_lowered.proofs.Jumping.{value_jumps, truth_jumps_are}
use Rattle.c_landing.specs.Landing.{Setting, placed, Lands, Goes, InA, InOperands, on_both}
use Rattle.c_landing.specs.Few.{Agrees, LiteralsAre, SidesAreNarrow, IsFew}
use Rattle.c_landing.proofs.Landing.{lands_within, goes_within}
use Rattle.c_landing.proofs.Stilling.{still_wider}
use Rattle.c_landing.proofs.Pieces.{KeepsFrame, quiet_goes}
use Rattle.c_landing.specs.Tails.{IsPair, operator_tail, IsOperator, lift_tail, compared_operand}
use Rattle.c_landing.proofs.Arithmetic.{lifted}
use Rattle.c_landing.proofs.Compared.{compared_gives}
use Rattle.c_landing.proofs.Tails.{pair_case, operator_shape, operator_goes}
use Rattle.c_valued.specs.Decides.{Decides, Whatever, IsTruth, Tested}
use Rattle.c_valued.proofs.Deciding.{compared_decides, both_decide, either_decides, truth_word_lands}
use Rattle.c_valued.specs.Steps.{steps, truth_steps}
use Rattle.c_valued.specs.Laws.{Valued, CallsNothing}
use Rattle.c_valued.proofs.Parts.{max_left, max_right, literals_left, literals_right, decides_at, decides_within, decides_used, undefined_lands}
use Rattle.c_valued.proofs.Valuing.{condition, number_lands, null_lands, text_lands, name_lands, unary_valued}
use Rattle.c_valued.proofs.Operating.{both_operands, comma_valued, cast_valued, step_valued, index_valued, arrow_valued, member_valued, assign_valued, choice_valued}

-- words that are lifted where they are ints, and the operands in which they are then
record Lifts (signed : Bool) (first : Reg) (second : Operand) : Type 0 where
  keeps : KeepsFrame (lift_tail signed first second)
  one : (m : Machine) → reg_of (made_all (lift_tail signed first second) m).regs first ≡ lifted signed (reg_of m.regs first)
  two : (m : Machine) → operand_value (made_all (lift_tail signed first second) m).regs (compared_operand signed second) ≡ lifted signed (operand_value m.regs second)
  few : length (lift_tail signed first second) ≤ 2

lifts : (signed : Bool) (first : Reg) (second : Operand) → IsPair first second → Lifts signed first second
lifts false first second pair = record { keeps = record { quiet = tt; memory = λ m. refl; frame = λ m. refl }; one = λ m. refl; two = λ m. refl; few = omega arith }
lifts true first second pair = pair_case (λ first second. Lifts true first second) first second pair
    (λ k. record { keeps = record { quiet = (tt, tt); memory = λ m. refl; frame = λ m. refl }; one = λ m. refl; two = λ m. refl; few = omega arith })
    (record { keeps = record { quiet = (tt, (tt, tt)); memory = λ m. refl; frame = λ m. refl }; one = λ m. refl; two = λ m. refl; few = omega arith })
    (record { keeps = record { quiet = (tt, (tt, tt)); memory = λ m. refl; frame = λ m. refl }; one = λ m. refl; two = λ m. refl; few = omega arith })

true_again : (b : Bool) → is_true (truth_value b) ≡ b
true_again true = refl
true_again false = refl

module _ (S : Setting) (w : World) (agrees : Agrees S w) (u : ℕ) where
  abbrev L : Linking
  L = S.linking

  abbrev V : CExpr → Environment → Type 0
  V e site = Valued S w u e site

  -- two values, and what is made of them
  abbrev two_run : CExpr → CExpr → Environment → ℕ → BinOp → Run Value
  two_run a b site o op = (value_of a w (placed S.named o site) >>= used) >>= λ x. (value_of b w (placed S.named o (past a site)) >>= used) >>= λ y. operated site.scope.tags op (value_type_in site.scope a) (value_type_in site.scope b) x y

  -- ---- an operator that is no comparison of truths

  operator_value : (op : BinOp) (a b : CExpr) (site : Environment) → IsOperator op → SidesAreNarrow op site.scope.tags (value_type_in site.scope a) (value_type_in site.scope b) → V a site → V b (past a site) → (k d n i o : ℕ) → max (waiting a) (waiting b + 1) ≤ n → k + (expr_jumps a + expr_jumps b) < 2 ^ 24
      → Lands S (operator_code op (is_signed op (value_type_in site.scope a) (value_type_in site.scope b)) (operands d (is_quiet b) (direct a L (placed S.coded i site)) (direct b L (placed S.coded i (past a site))) (value_code a L (placed S.coded i site) k d) (λ d. value_code b L (placed S.coded i (past a site)) (k + expr_jumps a) d))) k d n (steps u a + steps u b + 10)
      ((value_of a w (placed S.named o site) >>= used) >>= λ x. (value_of b w (placed S.named o (past a site)) >>= used) >>= λ y. operated site.scope.tags op (value_type_in site.scope a) (value_type_in site.scope b) x y) (InA S)
  operator_value op a b site is narrow x y k d n i o le lt =
      let t = value_type_in site.scope a in
      let t2 = value_type_in site.scope b in
      let p = operands d (is_quiet b) (direct a L (placed S.coded i site)) (direct b L (placed S.coded i (past a site))) (value_code a L (placed S.coded i site) k d) (λ d. value_code b L (placed S.coded i (past a site)) (k + expr_jumps a) d) in
      subst (λ code. Lands S code k d n (steps u a + steps u b + 10) (two_run a b site o op) (InA S)) (sym (operator_shape op (is_signed op t t2) p)) (lands_within n (steps u a + (steps u b + (6 + 4))) (omega arith) (omega arith)
      (both_operands S w agrees u (λ first second. InA S) a b site x y k d n i o le lt (λ first second. operator_tail op (is_signed op t t2) first second) 4 (λ x y. operated site.scope.tags op t t2 x y) (λ first second k pair. operator_goes S w agrees site.scope.tags op t t2 first second k d n pair is narrow)))

  -- a comparison as a condition
  lift_goes : (tags : Tags) (op : BinOp) (test : Cond) (t t2 : CType) (first : Reg) (second : Operand) (k d n : ℕ) → IsPair first second → comparison_of op ≡ Some test
      → Goes S (lift_tail (is_signed op t t2) first second) k d n 2 (on_both (λ x y. operated tags op t t2 x y)) (InOperands S first second) (Tested test first (compared_operand (is_signed op t t2) second))
  lift_goes tags op test t t2 first second k d n pair e =
      let l = lifts (is_signed op t t2) first second pair in
      goes_within n (length (lift_tail (is_signed op t t2) first second)) (omega arith) l.few (quiet_goes l.keeps (λ p bs st m r means.
      still_wider st _ _ (operated tags op t t2 p.0 p.1 st) (compared_gives S w agrees bs st m d n r tags op test t t2 p.0 p.1 (reg_of m.regs first) (operand_value m.regs second) e means.0 means.1)
      (λ v q. ap is_true q ∙ (true_again _ ∙ (ap (λ z. holds test z (lifted (is_signed op t t2) (operand_value m.regs second))) (sym (l.one m)) ∙ ap (holds test (reg_of (made_all (lift_tail (is_signed op t t2) first second) m).regs first)) (sym (l.two m)))))))

  -- the code of a comparison, as one of operands that are lifted
  compared_shape : (signed wanted : Bool) (target : ℕ) (test : Cond) (p : Operands) → jump_where wanted target test (comparable signed p)
      ≡ (p.code ++ lift_tail signed p.first p.second) ++ JumpIf (if wanted then test else opposite test) (constant target) p.first (compared_operand signed p.second) ∷ []
  compared_shape true wanted target test p = refl
  compared_shape false wanted target test p = ap (λ z. z ++ JumpIf (if wanted then test else opposite test) (constant target) p.first p.second ∷ []) (sym (append-nil p.code))

  comparison_truth_lands : (op : BinOp) (test : Cond) (a b : CExpr) (site : Environment) → comparison_of op ≡ Some test → V a site → V b (past a site) → (k d n i o : ℕ) (wanted : Bool) (target : ℕ) → max (waiting a) (waiting b + 1) ≤ n → k + (expr_jumps a + expr_jumps b + 1) < 2 ^ 24 → target < 2 ^ 24
      → Decides S (jump_where wanted target test (comparable (is_signed op (value_type_in site.scope a) (value_type_in site.scope b)) (operands d (is_quiet b) (direct a L (placed S.coded i site)) (direct b L (placed S.coded i (past a site))) (value_code a L (placed S.coded i site) k d) (λ d. value_code b L (placed S.coded i (past a site)) (k + expr_jumps a) d)))) k d n (steps u a + steps u b + 11)
      (((value_of a w (placed S.named o site) >>= used) >>= λ x. (value_of b w (placed S.named o (past a site)) >>= used) >>= λ y. operated site.scope.tags op (value_type_in site.scope a) (value_type_in site.scope b) x y) >>= used) Whatever wanted target
  comparison_truth_lands op test a b site e x y k d n i o wanted target le lt lt2 =
      let t = value_type_in site.scope a in
      let t2 = value_type_in site.scope b in
      let signed = is_signed op t t2 in
      let p = operands d (is_quiet b) (direct a L (placed S.coded i site)) (direct b L (placed S.coded i (past a site))) (value_code a L (placed S.coded i site) k d) (λ d. value_code b L (placed S.coded i (past a site)) (k + expr_jumps a) d) in
      subst (λ code. Decides S code k d n (steps u a + steps u b + 11) (two_run a b site o op >>= used) Whatever wanted target) (sym (compared_shape signed wanted target test p))
      (decides_used (decides_within (steps u a + (steps u b + (6 + 2)) + 1) (omega arith)
      (compared_decides S (p.code ++ lift_tail signed p.first p.second) k d n (steps u a + (steps u b + (6 + 2))) (two_run a b site o op) test p.first (compared_operand signed p.second) wanted target lt2
      (both_operands S w agrees u (λ first second. Tested test first (compared_operand signed second)) a b site x y k d n i o le (omega (arith, lt)) (λ first second. lift_tail signed first second) 2 (λ x y. operated site.scope.tags op t t2 x y) (λ first second k pair. lift_goes site.scope.tags op test t t2 first second k d n pair e)))))

  -- ---- `&&` and `||`

  left_count : (a : CExpr) (site : Environment) (i k d : ℕ) (wanted : Bool) (target : ℕ) → jumps (truth_code a L (placed S.coded i site) k d (value_code a L (placed S.coded i site) k d) wanted target) ≡ truth_jumps a
  left_count a site i k d wanted target = (truth_jumps_are a L (placed S.coded i site) k d (value_code a L (placed S.coded i site) k d) (value_jumps a L (placed S.coded i site) k d) wanted target).count

  -- the code of a side that decides where its truth is this, and then that of the other one
  abbrev sides : CExpr → CExpr → Environment → (k d i : ℕ) → (decides wanted : Bool) → (left target : ℕ) → List Op
  sides a b site k d i decides wanted left target =
      truth_code a L (placed S.coded i site) k d (value_code a L (placed S.coded i site) k d) decides left ++ truth_code b L (placed S.coded i (past a site)) (k + truth_jumps a) d (value_code b L (placed S.coded i (past a site)) (k + truth_jumps a) d) wanted target

  sides_count : (a b : CExpr) (site : Environment) (k d i : ℕ) (decides wanted : Bool) (left target : ℕ) → jumps (sides a b site k d i decides wanted left target) ≡ truth_jumps a + truth_jumps b
  sides_count a b site k d i decides wanted left target =
      jumps_append (truth_code a L (placed S.coded i site) k d (value_code a L (placed S.coded i site) k d) decides left) _ ∙ (ap (λ z. z + jumps (truth_code b L (placed S.coded i (past a site)) (k + truth_jumps a) d (value_code b L (placed S.coded i (past a site)) (k + truth_jumps a) d) wanted target)) (left_count a site i k d decides left) ∙ ap (λ z. truth_jumps a + z) (left_count b (past a site) i (k + truth_jumps a) d wanted target))

  abbrev both_run : CExpr → CExpr → Environment → ℕ → Run Value
  both_run a b site o = (value_of a w (placed S.named o site) >>= used) >>= λ x. choose (is_true x) ((value_of b w (placed S.named o (past a site)) >>= used) >>= λ y. give (truth_value (is_true y))) (give (Word 0))

  abbrev either_run : CExpr → CExpr → Environment → ℕ → Run Value
  either_run a b site o = (value_of a w (placed S.named o site) >>= used) >>= λ x. choose (is_true x) (give (Word 1)) ((value_of b w (placed S.named o (past a site)) >>= used) >>= λ y. give (truth_value (is_true y)))

  both_truth : (a b : CExpr) (site : Environment) → V a site → V b (past a site) → (k d n i o : ℕ) (wanted : Bool) (left target : ℕ) → max (waiting a) (waiting b + 1) ≤ n → k + (truth_jumps a + truth_jumps b) < 2 ^ 24 → target < 2 ^ 24 → left ≡ (if wanted then k + truth_jumps a + truth_jumps b else target) → left < 2 ^ 24
      → Decides S (sides a b site k d i false wanted left target) k d n (truth_steps u a + truth_steps u b) (both_run a b site o) IsTruth wanted target
  both_truth a b site x y k d n i o wanted left target le lt lt2 is lt3 =
      let ca = left_count a site i k d false left in
      let cb = left_count b (past a site) i (k + truth_jumps a) d wanted target in
      let r = max_right (waiting a) (waiting b + 1) n le in
      both_decide S _ _ k d n (truth_steps u a) (truth_steps u b) _ _ wanted target left (is ∙ ap (λ z. if wanted then z else target) (omega (arith, ca, cb))) (x.truth k d n i o false left (max_left (waiting a) (waiting b + 1) n le) (omega (arith, lt)) lt3)
      (decides_at (k + truth_jumps a) _ (ap (λ z. k + z) (sym ca)) (y.truth (k + truth_jumps a) d n i o wanted target (omega (arith, r)) (omega (arith, lt)) lt2))

  either_truth : (a b : CExpr) (site : Environment) → V a site → V b (past a site) → (k d n i o : ℕ) (wanted : Bool) (left target : ℕ) → max (waiting a) (waiting b + 1) ≤ n → k + (truth_jumps a + truth_jumps b) < 2 ^ 24 → target < 2 ^ 24 → left ≡ (if wanted then target else k + truth_jumps a + truth_jumps b) → left < 2 ^ 24
      → Decides S (sides a b site k d i true wanted left target) k d n (truth_steps u a + truth_steps u b) (either_run a b site o) IsTruth wanted target
  either_truth a b site x y k d n i o wanted left target le lt lt2 is lt3 =
      let ca = left_count a site i k d true left in
      let cb = left_count b (past a site) i (k + truth_jumps a) d wanted target in
      let r = max_right (waiting a) (waiting b + 1) n le in
      either_decides S _ _ k d n (truth_steps u a) (truth_steps u b) _ _ wanted target left (is ∙ ap (λ z. if wanted then target else z) (omega (arith, ca, cb))) (x.truth k d n i o true left (max_left (waiting a) (waiting b + 1) n le) (omega (arith, lt)) lt3)
      (decides_at (k + truth_jumps a) _ (ap (λ z. k + z) (sym ca)) (y.truth (k + truth_jumps a) d n i o wanted target (omega (arith, r)) (omega (arith, lt)) lt2))

  both_value : (a b : CExpr) (site : Environment) → V a site → V b (past a site) → (k d n i o : ℕ) → max (waiting a) (waiting b + 1) ≤ n → k + (truth_jumps a + truth_jumps b + 2) < 2 ^ 24
      → Lands S (truth_word k (truth_jumps a + truth_jumps b) (λ target. sides a b site k d i false false target target)) k d n (truth_steps u a + truth_steps u b + 3) (both_run a b site o) (InA S)
  both_value a b site x y k d n i o le lt = truth_word_lands S (λ target. sides a b site k d i false false target target) k d n (truth_steps u a + truth_steps u b) (truth_jumps a + truth_jumps b) _ (sides_count a b site k d i false false _ _) (omega (arith, lt))
      (both_truth a b site x y k d n i o false _ _ le (omega (arith, lt)) (omega (arith, lt)) refl (omega (arith, lt)))

  either_value : (a b : CExpr) (site : Environment) → V a site → V b (past a site) → (k d n i o : ℕ) → max (waiting a) (waiting b + 1) ≤ n → k + (truth_jumps a + truth_jumps b + 2) < 2 ^ 24
      → Lands S (truth_word k (truth_jumps a + truth_jumps b) (λ target. sides a b site k d i true false (k + truth_jumps a + truth_jumps b) target)) k d n (truth_steps u a + truth_steps u b + 3) (either_run a b site o) (InA S)
  either_value a b site x y k d n i o le lt = truth_word_lands S (λ target. sides a b site k d i true false (k + truth_jumps a + truth_jumps b) target) k d n (truth_steps u a + truth_steps u b) (truth_jumps a + truth_jumps b) _ (sides_count a b site k d i true false _ _) (omega (arith, lt))
      (either_truth a b site x y k d n i o false _ _ le (omega (arith, lt)) (omega (arith, lt)) refl (omega (arith, lt)))

  -- ---- binary operators

  binary_value_lands : (at : ℕ) (op : BinOp) (a b : CExpr) (site : Environment) → IsFew (Binary at op a b) S.ground.valued site.scope → V a site → V b (past a site) → (k d n i o : ℕ) → max (waiting a) (waiting b + 1) ≤ n → k + expr_jumps (Binary at op a b) < 2 ^ 24
      → Lands S (value_code (Binary at op a b) L (placed S.coded i site) k d) k d n (steps u (Binary at op a b)) (value_of (Binary at op a b) w (placed S.named o site)) (InA S)
  unfolding combined
  binary_value_lands at binary.And a b site few x y k d n i o le lt = both_value a b site x y k d n i o le lt
  binary_value_lands at binary.Or a b site few x y k d n i o le lt = either_value a b site x y k d n i o le lt
  binary_value_lands at binary.Add a b site few x y k d n i o le lt = operator_value binary.Add a b site few.0 few.1 x y k d n i o le lt
  binary_value_lands at binary.Sub a b site few x y k d n i o le lt = operator_value binary.Sub a b site few.0 few.1 x y k d n i o le lt
  binary_value_lands at binary.Eq a b site few x y k d n i o le lt = operator_value binary.Eq a b site few.0 few.1 x y k d n i o le lt
  binary_value_lands at binary.Ne a b site few x y k d n i o le lt = operator_value binary.Ne a b site few.0 few.1 x y k d n i o le lt
  binary_value_lands at binary.Lt a b site few x y k d n i o le lt = operator_value binary.Lt a b site few.0 few.1 x y k d n i o le lt
  binary_value_lands at binary.Gt a b site few x y k d n i o le lt = operator_value binary.Gt a b site few.0 few.1 x y k d n i o le lt
  binary_value_lands at binary.Le a b site few x y k d n i o le lt = operator_value binary.Le a b site few.0 few.1 x y k d n i o le lt
  binary_value_lands at binary.Ge a b site few x y k d n i o le lt = operator_value binary.Ge a b site few.0 few.1 x y k d n i o le lt
  binary_value_lands at binary.BitOr a b site few x y k d n i o le lt = absurd few.0
  binary_value_lands at binary.BitXor a b site few x y k d n i o le lt = absurd few.0
  binary_value_lands at binary.BitAnd a b site few x y k d n i o le lt = absurd few.0
  binary_value_lands at binary.Shl a b site few x y k d n i o le lt = absurd few.0
  binary_value_lands at binary.Shr a b site few x y k d n i o le lt = absurd few.0
  binary_value_lands at binary.Mul a b site few x y k d n i o le lt = absurd few.0
  binary_value_lands at binary.Div a b site few x y k d n i o le lt = absurd few.0
  binary_value_lands at binary.Mod a b site few x y k d n i o le lt = absurd few.0

  binary_truth_lands : (at : ℕ) (op : BinOp) (a b : CExpr) (site : Environment) → IsFew (Binary at op a b) S.ground.valued site.scope → V a site → V b (past a site) → (k d n i o : ℕ) (wanted : Bool) (target : ℕ) → max (waiting a) (waiting b + 1) ≤ n → k + truth_jumps (Binary at op a b) < 2 ^ 24 → target < 2 ^ 24
      → Decides S (truth_code (Binary at op a b) L (placed S.coded i site) k d (value_code (Binary at op a b) L (placed S.coded i site) k d) wanted target) k d n (truth_steps u (Binary at op a b)) (value_of (Binary at op a b) w (placed S.named o site) >>= used) Whatever wanted target
  unfolding combined
  binary_truth_lands at binary.And a b site few x y k d n i o true target le lt lt2 = decides_used (both_truth a b site x y k d n i o true (k + truth_jumps a + truth_jumps b) target le lt lt2 refl (omega (arith, lt)))
  binary_truth_lands at binary.And a b site few x y k d n i o false target le lt lt2 = decides_used (both_truth a b site x y k d n i o false target target le lt lt2 refl lt2)
  binary_truth_lands at binary.Or a b site few x y k d n i o true target le lt lt2 = decides_used (either_truth a b site x y k d n i o true target target le lt lt2 refl lt2)
  binary_truth_lands at binary.Or a b site few x y k d n i o false target le lt lt2 = decides_used (either_truth a b site x y k d n i o false (k + truth_jumps a + truth_jumps b) target le lt lt2 refl (omega (arith, lt)))
  binary_truth_lands at binary.Add a b site few x y k d n i o wanted target le lt lt2 = condition S w agrees u k d n (steps u a + steps u b + 10) wanted target lt2 (operator_value binary.Add a b site few.0 few.1 x y k d n i o le (omega (arith, lt))) (steps u a + steps u b + 11) (omega arith)
  binary_truth_lands at binary.Sub a b site few x y k d n i o wanted target le lt lt2 = condition S w agrees u k d n (steps u a + steps u b + 10) wanted target lt2 (operator_value binary.Sub a b site few.0 few.1 x y k d n i o le (omega (arith, lt))) (steps u a + steps u b + 11) (omega arith)
  binary_truth_lands at binary.Eq a b site few x y k d n i o wanted target le lt lt2 = comparison_truth_lands binary.Eq _ a b site refl x y k d n i o wanted target le lt lt2
  binary_truth_lands at binary.Ne a b site few x y k d n i o wanted target le lt lt2 = comparison_truth_lands binary.Ne _ a b site refl x y k d n i o wanted target le lt lt2
  binary_truth_lands at binary.Lt a b site few x y k d n i o wanted target le lt lt2 = comparison_truth_lands binary.Lt _ a b site refl x y k d n i o wanted target le lt lt2
  binary_truth_lands at binary.Gt a b site few x y k d n i o wanted target le lt lt2 = comparison_truth_lands binary.Gt _ a b site refl x y k d n i o wanted target le lt lt2
  binary_truth_lands at binary.Le a b site few x y k d n i o wanted target le lt lt2 = comparison_truth_lands binary.Le _ a b site refl x y k d n i o wanted target le lt lt2
  binary_truth_lands at binary.Ge a b site few x y k d n i o wanted target le lt lt2 = comparison_truth_lands binary.Ge _ a b site refl x y k d n i o wanted target le lt lt2
  binary_truth_lands at binary.BitOr a b site few x y k d n i o wanted target le lt lt2 = absurd few.0
  binary_truth_lands at binary.BitXor a b site few x y k d n i o wanted target le lt lt2 = absurd few.0
  binary_truth_lands at binary.BitAnd a b site few x y k d n i o wanted target le lt lt2 = absurd few.0
  binary_truth_lands at binary.Shl a b site few x y k d n i o wanted target le lt lt2 = absurd few.0
  binary_truth_lands at binary.Shr a b site few x y k d n i o wanted target le lt lt2 = absurd few.0
  binary_truth_lands at binary.Mul a b site few x y k d n i o wanted target le lt lt2 = absurd few.0
  binary_truth_lands at binary.Div a b site few x y k d n i o wanted target le lt lt2 = absurd few.0
  binary_truth_lands at binary.Mod a b site few x y k d n i o wanted target le lt lt2 = absurd few.0

  pub binary_valued : (at : ℕ) (op : BinOp) (a b : CExpr) (site : Environment) → IsFew (Binary at op a b) S.ground.valued site.scope → LiteralsAre S.ground w.owner (literals_in site.scope (Binary at op a b)) site.literals_before → V a site → V b (past a site) → V (Binary at op a b) site
  binary_valued at op a b site few ls x y = record {
    few = few;
    literals = ls;
    value = λ k d n i o le lt. binary_value_lands at op a b site few x y k d n i o le lt;
    place = λ k d n i o le lt. undefined_lands OutsideObject;
    truth = λ k d n i o wanted target le lt lt2. binary_truth_lands at op a b site few x y k d n i o wanted target le lt lt2;
  }

  -- ---- all expressions without calls

  pub values : (e : CExpr) (site : Environment) → CallsNothing e site.scope → IsFew e S.ground.valued site.scope → LiteralsAre S.ground w.owner (literals_in site.scope e) site.literals_before → V e site
  values (Number at n x) site free few ls = number_lands S w agrees u at n x site
  values (Str at text) site free few ls = text_lands S w agrees u at text site ls
  values (Null at) site free few ls = null_lands S w agrees u at site
  values (Var at name) site free few ls = name_lands S w agrees u at name site few
  values (Unary at op a) site free few ls = unary_valued S w agrees u at op a site few (values a site free few.1 ls)
  values (Step at op a) site free few ls = step_valued S w agrees u at op a site few (values a site free few.1 ls)
  values (Binary at op a b) site free few ls =
      binary_valued at op a b site few ls (values a site free.0 few.2 (literals_left S.ground w.owner (literals_in site.scope a) (literals_in site.scope b) site.literals_before ls)) (values b (past a site) free.1 few.3 (literals_right S.ground w.owner (literals_in site.scope a) (literals_in site.scope b) site.literals_before ls))
  values (Assign at op a b) site free few ls =
      assign_valued S w agrees u at op a b site few ls (values a site free.0 few.2 (literals_left S.ground w.owner (literals_in site.scope a) (literals_in site.scope b) site.literals_before ls)) (values b (past a site) free.1 few.3 (literals_right S.ground w.owner (literals_in site.scope a) (literals_in site.scope b) site.literals_before ls))
  values (Choice at a b c) site free few ls =
      let right = literals_right S.ground w.owner (literals_in site.scope a) (literals_in site.scope b ++ literals_in site.scope c) site.literals_before ls in
      choice_valued S w agrees u at a b c site few ls (values a site free.0 few.0 (literals_left S.ground w.owner (literals_in site.scope a) (literals_in site.scope b ++ literals_in site.scope c) site.literals_before ls))
      (values b (past a site) free.1 few.1 (literals_left S.ground w.owner (literals_in site.scope b) (literals_in site.scope c) _ right)) (values c (past b (past a site)) free.2 few.2 (literals_right S.ground w.owner (literals_in site.scope b) (literals_in site.scope c) _ right))
  values (Comma at a b) site free few ls =
      comma_valued S w agrees u at a b site few ls (values a site free.0 few.0 (literals_left S.ground w.owner (literals_in site.scope a) (literals_in site.scope b) site.literals_before ls)) (values b (past a site) free.1 few.1 (literals_right S.ground w.owner (literals_in site.scope a) (literals_in site.scope b) site.literals_before ls))
  values (Cast at t a) site free few ls = cast_valued S w agrees u at t a site (values a site free few ls)
  values (SizeTy at t) site free few ls = absurd few
  values (SizeOf at a) site free few ls = absurd few
  values (Index at a b) site free few ls =
      index_valued S w agrees u at a b site few ls (values a site free.0 few.3 (literals_left S.ground w.owner (literals_in site.scope a) (literals_in site.scope b) site.literals_before ls)) (values b (past a site) free.1 few.4 (literals_right S.ground w.owner (literals_in site.scope a) (literals_in site.scope b) site.literals_before ls))
  values (Call at f es) site free few ls = absurd free
  values (Member at a name) site free few ls = member_valued S w agrees u at a name site few (values a site free few.1 ls)
  values (Arrow at a name) site free few ls = arrow_valued S w agrees u at a name site few (values a site free few.1 ls)
