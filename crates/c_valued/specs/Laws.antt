-- What holds of the code of expressions.
use Rattle.std.specs.Prelude.{ℕ, ◌+◌, ◌^◌, ◌<◌, ◌≤◌, Bool}
use Rattle.c_syntax.specs.Plain as plain
use Rattle.c_syntax.specs.Plain.{CExpr}
use Rattle.c_types.specs.Scope.{Scope}
use Rattle.c_eval.specs.Run.{◌>>=◌}
use Rattle.c_eval.specs.Operators.{used}
use Rattle.c_eval.specs.Environment.{Environment}
use Rattle.c_eval.specs.LiteralsIn.{literals_in}
use Rattle.c_eval.specs.Eval.{World, value_of, place_of}
use Rattle.c_helpers.specs.Cost.{cost_of}
use Rattle.c_helpers.specs.Frames.{waiting}
use Rattle.c_lowered.specs.Counts.{expr_jumps, truth_jumps}
use Rattle.c_lowered.specs.Expressions.{value_code, place_code, truth_code}
use Rattle.c_landing.specs.Landing.{Setting, placed, Lands, InA, PlaceInA}
use Rattle.c_landing.specs.Few.{Agrees, LiteralsAre, IsFew}
use Rattle.c_valued.specs.Decides.{Decides, Whatever}
use Rattle.c_valued.specs.Steps.{steps, truth_steps}

-- an expression lands at a place of the text: as a value, a place and a condition, in code that begins in any block and at any word of the frame behind which its waiting words have room
pub record Valued (S : Setting) (w : World) (u : ℕ) (e : CExpr) (site : Environment) : Type 0 where
  pub few : IsFew e S.ground.valued site.scope
  pub literals : LiteralsAre S.ground w.owner (literals_in site.scope e) site.literals_before
  pub value : (k d n i o : ℕ) → waiting e ≤ n → k + expr_jumps e < 2 ^ 24 → Lands S (value_code e S.linking (placed S.coded i site) k d) k d n (steps u e) (value_of e w (placed S.named o site)) (InA S)
  pub place : (k d n i o : ℕ) → waiting e ≤ n → k + expr_jumps e < 2 ^ 24
      → Lands S (place_code e S.linking (placed S.coded i site) k d (value_code e S.linking (placed S.coded i site) k d)) k d n (steps u e) (place_of e w (placed S.named o site)) (PlaceInA S)
  pub truth : (k d n i o : ℕ) (wanted : Bool) (target : ℕ) → waiting e ≤ n → k + truth_jumps e < 2 ^ 24 → target < 2 ^ 24
      → Decides S (truth_code e S.linking (placed S.coded i site) k d (value_code e S.linking (placed S.coded i site) k d) wanted target) k d n (truth_steps u e) (value_of e w (placed S.named o site) >>= used) Whatever wanted target

-- no call stands in it
abbrev pub CallsNothing : CExpr → Scope → Type 0
CallsNothing (plain.Unary at op a) s = CallsNothing a s
CallsNothing (plain.Step at op a) s = CallsNothing a s
CallsNothing (plain.Binary at op a b) s = CallsNothing a s × CallsNothing b s
CallsNothing (plain.Assign at op a b) s = CallsNothing a s × CallsNothing b s
CallsNothing (plain.Cond at a b c) s = CallsNothing a s × CallsNothing b s × CallsNothing c s
CallsNothing (plain.Comma at a b) s = CallsNothing a s × CallsNothing b s
CallsNothing (plain.Cast at t a) s = CallsNothing a s
CallsNothing (plain.Index at a b) s = CallsNothing a s × CallsNothing b s
CallsNothing (plain.Call at f es) s = ⊥
CallsNothing (plain.Member at a m) s = CallsNothing a s
CallsNothing (plain.Arrow at a m) s = CallsNothing a s
CallsNothing _ s = Unit {0}

abbrev pub CallFreeExpressionsLand : Type 0
CallFreeExpressionsLand =
    (S : Setting) (w : World) (u : ℕ) (e : CExpr) (site : Environment) → Agrees S w → CallsNothing e site.scope → IsFew e S.ground.valued site.scope → LiteralsAre S.ground w.owner (literals_in site.scope e) site.literals_before → Valued S w u e site

-- without uses of helper functions an expression runs at most as many operations as its tree costs, and one value can be saved beside; a condition too
pub record StepsFitTheCost : Type 0 where
  pub value : (e : CExpr) → steps 0 e + 3 ≤ cost_of e
  pub condition : (e : CExpr) → truth_steps 0 e ≤ cost_of e
