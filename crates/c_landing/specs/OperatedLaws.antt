-- What holds of operators on values that stand in operands.
use Rattle.std.specs.Prelude.{◌≡◌, ℕ, List, [], ◌∷◌, not, nat_eq}
use Rattle.word24.specs.Word.{sum_word, difference_word}
use Rattle.eir_core.specs.declared.ops.Reg.{Reg}
use Rattle.eir_core.specs.declared.ops.Reg.TheVariants.{A, B}
use Rattle.eir_core.specs.declared.ops.Operand.{Operand}
use Rattle.eir_core.specs.declared.ops.Operand.TheVariants.{Reg as register}
use Rattle.eir_core.specs.declared.ops.Cond.TheVariants.{Eq}
use Rattle.eir_core.specs.declared.ops.Op.TheVariants.{Mov, Sub, Set}
use Rattle.c_syntax.specs.declared.tree.UnOp.TheVariants as unary
use Rattle.c_syntax.specs.declared.tree.BinOp.{BinOp}
use Rattle.c_types.specs.Types.{CType, Tags}
use Rattle.c_eval.specs.State.{Value, State}
use Rattle.c_eval.specs.Run.{give}
use Rattle.c_eval.specs.Memory.{member_at}
use Rattle.c_eval.specs.Operators.{used, is_true, truth_value, on_word, sum, difference, operated, pointer_to, value_at, pointed_value}
use Rattle.c_eval.specs.Eval.{World}
use Rattle.c_place.specs.Place.{Machine}
use Rattle.c_memory.specs.Lies.{Extent, Means}
use Rattle.c_lowered.specs.Operations.{constant, fetched, fetched_behind, moved_on, is_signed}
use Rattle.c_landing.specs.Landing.{Setting, Ready, Goes, InA, PlaceInA, InOperands, on_both, GivesStill}
use Rattle.c_landing.specs.Few.{Agrees, IsNarrow, SidesAreNarrow, IsObjectType}
use Rattle.c_landing.specs.Tails.{IsPair, operator_tail, IsOperator, IsGiven, GivenInA}

-- what operators on two values give, by the words of both
pub record WordsAreOperatedOn (S : Setting) (w : World) (bs : List Extent) (st : State) (m : Machine) (d n : ℕ) : Type 0 where
  pub sums : (tags : Tags) (t u : CType) (x y : Value) (a b : ℕ) → IsNarrow tags t → IsNarrow tags u → Means S.ground bs x a → Means S.ground bs y b → GivesStill st (λ v. Means S.ground bs v (sum_word a b)) (sum tags t u x y st)
  pub differences : (tags : Tags) (t u : CType) (x y : Value) (a b : ℕ) → IsNarrow tags t → Means S.ground bs x a → Means S.ground bs y b → GivesStill st (λ v. Means S.ground bs v (difference_word a b)) (difference tags t u x y st)
  -- a value is true where its word isn't 0
  pub truth : (x : Value) (a : ℕ) → IsGiven x → Means S.ground bs x a → is_true x ≡ not (nat_eq a 0)

abbrev pub OperatorsOnWords : Type 0
OperatorsOnWords = (S : Setting) (w : World) (bs : List Extent) (st : State) (m : Machine) (d n : ℕ) → Agrees S w → Ready S bs st m d n → WordsAreOperatedOn S w bs st m d n

-- the code of operators, of their operands, of places and of what stands there
pub record CodeOperates (S : Setting) (w : World) (block d n : ℕ) : Type 0 where
  pub binary : (tags : Tags) (op : BinOp) (t u : CType) (first : Reg) (second : Operand) → IsPair first second → IsOperator op → SidesAreNarrow op tags t u
      → Goes S (operator_tail op (is_signed op t u) first second) block d n 4 (on_both (λ x y. operated tags op t u x y)) (InOperands S first second) (InA S)
  pub denied : Goes S (Set Eq A (constant 0) ∷ []) block d n 1 (λ v. give (truth_value (not (is_true v)))) (GivenInA S) (InA S)
  pub less : Goes S (Mov B (register A) ∷ Mov A (constant 0) ∷ Sub A (register B) ∷ []) block d n 3 (on_word unary.Minus) (InA S) (InA S)
  pub same : Goes S [] block d n 0 (on_word unary.Plus) (InA S) (InA S)
  pub given : Goes S [] block d n 0 used (InA S) (GivenInA S)
  pub pointer : Goes S [] block d n 0 (pointer_to w.inner) (PlaceInA S) (InA S)
  pub member : (k : ℕ) → Goes S (moved_on k) block d n 1 (member_at k) (PlaceInA S) (PlaceInA S)
  pub held : (t : CType) → IsObjectType t → Goes S (fetched t) block d n 1 (value_at w.inner t) (PlaceInA S) (InA S)
  pub pointed : (t : CType) → Goes S (fetched_behind t) block d n 1 (pointed_value w.inner t) (InA S) (InA S)

abbrev pub OperatorsLand : Type 0
OperatorsLand = (S : Setting) (w : World) (block d n : ℕ) → Agrees S w → CodeOperates S w block d n
