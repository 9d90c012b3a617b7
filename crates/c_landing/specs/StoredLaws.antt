-- What holds of the code of assignments.
use Rattle.std.specs.Prelude.{◌≡◌, ℕ, suc, ◌+◌, List, ◌++◌, Option, Some}
use Rattle.eir_core.specs.declared.ops.Op.{Op}
use Rattle.c_syntax.specs.declared.tree.StepOp.{StepOp}
use Rattle.c_syntax.specs.declared.tree.BinOp.{BinOp}
use Rattle.c_types.specs.Types.{CType, Tags}
use Rattle.c_eval.specs.State.{Value, Run}
use Rattle.c_eval.specs.Run.{◌>>=◌}
use Rattle.c_eval.specs.Operators.{assigned, updated}
use Rattle.c_eval.specs.Eval.{World, step_op, stepped}
use Rattle.c_place.specs.Code.{jumps}
use Rattle.c_lowered.specs.Locations.{Location, Direct, Exactly}
use Rattle.c_lowered.specs.Operations.{update_by}
use Rattle.c_lowered.specs.Expressions.{step_back, pointed_by, assigned_code, updated_code}
use Rattle.c_landing.specs.Landing.{Setting, Lands, InA, PlaceInA, IsDirect, IsKnown}
use Rattle.c_landing.specs.Few.{Agrees, IsNarrow, UpdateIsFew}

-- assignments, from the codes of the place and of the value
pub record AssignmentsLandIn (S : Setting) (w : World) (t : CType) (block d n cp cv : ℕ) (l : Option Location) (place : List Op) (rp : Run Value) : Type 0 where
  -- the place comes first, unless it is known: then the value is at the front
  pub plain : (v : Option Direct) (value : ℕ → List Op) (rv : Run Value) → ((x : Location) → l ≡ Some x → Lands S (value d) block d (suc n) cv rv (InA S)) → Lands S (value (suc d)) (block + jumps place) (suc d) n cv rv (InA S) → ((x : Direct) → v ≡ Some x → IsDirect S x rv)
      → Lands S (assigned_code d l v place value) block d (suc n) (cp + (cv + 7)) (rp >>= λ p. rv >>= λ y. assigned t p y) (InA S)
  -- the old value is read once the right side is known
  pub compound : (tags : Tags) (op : BinOp) (u : CType) (v : Option Direct) (value : ℕ → List Op) (rv : Run Value) → UpdateIsFew (Some op) → IsNarrow tags t → IsNarrow tags u → ((x : Location) → l ≡ Some x → Lands S (value d) block d (suc n) cv rv (InA S))
      → Lands S (value (suc d)) (block + jumps place) (suc d) n cv rv (InA S) → ((x : Direct) → v ≡ Some x → IsDirect S x rv) → Lands S (updated_code op d l v place value) block d (suc n) (cp + (cv + 10)) (rp >>= λ p. rv >>= λ y. updated tags op t u p y) (InA S)
  -- a step gives the new value, or the old one
  pub step : (tags : Tags) (op : StepOp) → IsNarrow tags t → Lands S (pointed_by l place ++ (update_by (step_op op) (Exactly 1) ++ step_back op)) block d (suc n) (cp + 6) (stepped w tags op t rp) (InA S)

abbrev pub AssignmentsLand : Type 0
AssignmentsLand =
    (S : Setting) (w : World) (t : CType) (block d n cp cv : ℕ) (l : Option Location) (place : List Op) (rp : Run Value) → Agrees S w → Lands S place block d (suc n) cp rp (PlaceInA S) → ((x : Location) → l ≡ Some x → IsKnown S x rp)
    → AssignmentsLandIn S w t block d n cp cv l place rp
