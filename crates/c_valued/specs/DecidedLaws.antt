-- What holds of the code of conditions.
use Rattle.std.specs.Prelude.{◌≡◌, ℕ, ◌+◌, ◌^◌, ◌<◌, Bool, true, false, not, List, [], ◌∷◌, ◌++◌, if◌then◌else◌}
use Rattle.eir_core.specs.declared.ops.Reg.{Reg}
use Rattle.eir_core.specs.declared.ops.Operand.{Operand}
use Rattle.eir_core.specs.declared.ops.Cond.{Cond}
use Rattle.eir_core.specs.declared.ops.Op.{Op}
use Rattle.eir_core.specs.declared.ops.Op.TheVariants.{Jump, JumpIf}
use Rattle.c_eval.specs.State.{Value, Word, Run}
use Rattle.c_eval.specs.Run.{◌>>=◌, give, choose}
use Rattle.c_eval.specs.Operators.{is_true, truth_value}
use Rattle.c_eval.specs.Eval.{World}
use Rattle.c_place.specs.Code.{jumps}
use Rattle.c_lowered.specs.Operations.{constant, opposite, truth_word}
use Rattle.c_lowered.specs.Expressions.{tested}
use Rattle.c_landing.specs.Landing.{Setting, Lands, InA}
use Rattle.c_landing.specs.Few.{Agrees}
use Rattle.c_landing.specs.Tails.{GivenInA}
use Rattle.c_valued.specs.Decides.{Decides, Whatever, IsTruth, Tested}

pub record ConditionsDecideIn (S : Setting) (d n : ℕ) : Type 0 where
  -- a value is compared with 0
  pub value : (w : World) (code : List Op) (block c : ℕ) (run : Run Value) (wanted : Bool) (target : ℕ) → Agrees S w → target < 2 ^ 24 → Lands S code block d n c run (GivenInA S) → Decides S (tested wanted target code) block d n (c + 1) run Whatever wanted target
  -- two operands are compared
  pub comparison : (code : List Op) (block c : ℕ) (run : Run Value) (test : Cond) (first : Reg) (second : Operand) (wanted : Bool) (target : ℕ) → target < 2 ^ 24 → Lands S code block d n c run (Tested test first second)
      → Decides S (code ++ JumpIf (if wanted then test else opposite test) (constant target) first second ∷ []) block d n (c + 1) run Whatever wanted target
  -- what is denied
  pub denied : (code : List Op) (block c : ℕ) (run : Run Value) (wanted : Bool) (target : ℕ) → Decides S code block d n c run Whatever (not wanted) target → Decides S code block d n c (run >>= λ v. give (truth_value (not (is_true v)))) IsTruth wanted target
  -- `&&` and `||`: the left side decides where it is false, or where it is true
  pub both : (a b : List Op) (block c1 c2 : ℕ) (ra rb : Run Value) (wanted : Bool) (target left : ℕ) → left ≡ (if wanted then block + jumps a + jumps b else target) → Decides S a block d n c1 ra Whatever false left → Decides S b (block + jumps a) d n c2 rb Whatever wanted target
      → Decides S (a ++ b) block d n (c1 + c2) (ra >>= λ x. choose (is_true x) (rb >>= λ y. give (truth_value (is_true y))) (give (Word 0))) IsTruth wanted target
  pub either : (a b : List Op) (block c1 c2 : ℕ) (ra rb : Run Value) (wanted : Bool) (target left : ℕ) → left ≡ (if wanted then target else block + jumps a + jumps b) → Decides S a block d n c1 ra Whatever true left → Decides S b (block + jumps a) d n c2 rb Whatever wanted target
      → Decides S (a ++ b) block d n (c1 + c2) (ra >>= λ x. choose (is_true x) (give (Word 1)) (rb >>= λ y. give (truth_value (is_true y)))) IsTruth wanted target
  -- one of two branches; both go on behind the code
  pub branches : (test one other : List Op) (block c0 c1 c2 t e : ℕ) (ra rb rc : Run Value) → t ≡ block + jumps test + jumps one + 1 → e ≡ t + jumps other + 1 → e < 2 ^ 24 → Decides S test block d n c0 ra Whatever false t → Lands S one (block + jumps test) d n c1 rb (InA S)
      → Lands S other t d n c2 rc (InA S) → Lands S (test ++ (one ++ (Jump (constant e) ∷ (other ++ Jump (constant e) ∷ [])))) block d n (c0 + (c1 + c2 + 1)) (ra >>= λ x. choose (is_true x) rb rc) (InA S)
  -- a truth as a word
  pub word : (test : ℕ → List Op) (block c k : ℕ) (run : Run Value) → jumps (test (block + k + 1)) ≡ k → block + k + 2 < 2 ^ 24 → Decides S (test (block + k + 1)) block d n c run IsTruth false (block + k + 1) → Lands S (truth_word block k test) block d n (c + 3) run (InA S)

abbrev pub ConditionsDecide : Type 0
ConditionsDecide = (S : Setting) (d n : ℕ) → ConditionsDecideIn S d n
