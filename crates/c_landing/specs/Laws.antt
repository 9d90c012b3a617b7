-- What holds of pieces of code.
use Rattle.std.specs.Prelude.{◌≡◌, ℕ, suc, ◌+◌, List, ◌++◌, length, Some}
use Rattle.eir_core.specs.declared.ops.Reg.TheVariants.{A, B}
use Rattle.eir_core.specs.declared.ops.Operand.TheVariants.{Reg as register}
use Rattle.eir_core.specs.declared.ops.Op.{Op}
use Rattle.c_syntax.specs.Plain.{CExpr}
use Rattle.c_eval.specs.State.{Value, Run}
use Rattle.c_eval.specs.Run.{◌>>=◌}
use Rattle.c_eval.specs.Environment.{Environment}
use Rattle.c_eval.specs.LiteralsIn.{literals_in}
use Rattle.c_eval.specs.Eval.{World, value_of, place_of}
use Rattle.c_place.specs.Code.{jumps}
use Rattle.c_lowered.specs.Locations.{Location, Direct, known_place, direct}
use Rattle.c_lowered.specs.Operations.{load_to, ready, operand_of, in_order, turned, waiting}
use Rattle.c_landing.specs.Landing.{placed, Setting, Lands, Goes, InA, InOperands, on_both, IsDirect, IsKnown, MayTurn}
use Rattle.c_landing.specs.Few.{Agrees, LiteralsAre, IsFew}

-- one part behind another
abbrev pub PartsLand : Type 0
PartsLand =
    (S : Setting) (one two : List Op) (block d n c1 c2 : ℕ) (first : Run Value) (second : Value → Run Value)
    → Lands S one block d n c1 first (InA S) → Goes S two (block + jumps one) d n c2 second (InA S) (InA S) → Lands S (one ++ two) block d n (c1 + c2) (first >>= second) (InA S)

-- what needs no evaluation is there: a value, and a place
pub record DirectValuesAreThere : Type 0 where
  pub value : (S : Setting) (w : World) (e : CExpr) (here : Environment) (i o : ℕ) (v : Direct) → Agrees S w → IsFew e S.ground.valued here.scope → LiteralsAre S.ground w.owner (literals_in here.scope e) here.literals_before
      → direct e S.linking (placed S.coded i here) ≡ Some v → IsDirect S v (value_of e w (placed S.named o here))
  pub place : (S : Setting) (w : World) (e : CExpr) (here : Environment) (i o : ℕ) (l : Location) → Agrees S w → IsFew e S.ground.valued here.scope → LiteralsAre S.ground w.owner (literals_in here.scope e) here.literals_before
      → known_place e S.linking (placed S.coded i here) ≡ Some l → IsKnown S l (place_of e w (placed S.named o here))
  -- and it comes into A
  pub loaded : (S : Setting) (v : Direct) (run : Run Value) (block d n : ℕ) → IsDirect S v run → Lands S (load_to A v) block d n (length (load_to A v)) run (InA S)

-- two operands and then an operator on them, in each order of their code
pub record OperandsLand : Type 0 where
  pub ordered : (S : Setting) (a tail : List Op) (block d n ca ct : ℕ) (v : Direct) (ra rb : Run Value) (f : Value → Value → Run Value) → Lands S a block d n ca ra (InA S) → IsDirect S v rb
      → Goes S tail (block + jumps a + jumps (ready v)) d n ct (on_both f) (InOperands S A (operand_of v)) (InA S) → Lands S ((in_order a v).code ++ tail) block d n (ca + (3 + ct)) (ra >>= λ x. rb >>= λ y. f x y) (InA S)
  pub behind : (S : Setting) (b tail : List Op) (block d n cb ct : ℕ) (v : Direct) (ra rb : Run Value) (f : Value → Value → Run Value) → IsDirect S v ra → MayTurn v rb → Lands S b block d n cb rb (InA S)
      → Goes S tail (block + jumps b + jumps (load_to B v)) d n ct (on_both f) (InOperands S B (register A)) (InA S) → Lands S ((turned v b).code ++ tail) block d n (cb + (3 + ct)) (ra >>= λ x. rb >>= λ y. f x y) (InA S)
  -- the first waits in the frame's word d, so the second has one less
  pub saved : (S : Setting) (a b tail : List Op) (block d n ca cb ct : ℕ) (ra rb : Run Value) (f : Value → Value → Run Value) → Lands S a block d (suc n) ca ra (InA S) → Lands S b (block + jumps a) (suc d) n cb rb (InA S)
      → Goes S tail (block + jumps a + jumps b) d (suc n) ct (on_both f) (InOperands S B (register A)) (InA S) → Lands S ((waiting d a b).code ++ tail) block d (suc n) (ca + (3 + (cb + (3 + ct)))) (ra >>= λ x. rb >>= λ y. f x y) (InA S)
