-- What holds of the code.
use Rattle.std.specs.Prelude.{◌≡◌, ℕ, Bool}
use Rattle.c_syntax.specs.Plain.{CExpr, CStmt, CUnit}
use Rattle.c_eval.specs.Environment.{Environment}
use Rattle.c_place.specs.Code.{jumps, IsClosed}
use Rattle.c_lowered.specs.Locations.{Linking}
use Rattle.c_lowered.specs.Counts.{expr_jumps, truth_jumps, stmt_jumps}
use Rattle.c_lowered.specs.Expressions.{value_code, truth_code}
use Rattle.c_lowered.specs.Statements.{Targets, stmt_code}
use Rattle.c_lowered.specs.Whole.{whole_code}

-- code has as many jumps as are counted of its tree, so the blocks' numbers are those of the places that are jumped to
pub record JumpsAreCounted : Type 0 where
  pub value : (e : CExpr) (w : Linking) (here : Environment) (k d : ℕ) → jumps (value_code e w here k d) ≡ expr_jumps e
  pub condition : (e : CExpr) (w : Linking) (here : Environment) (k d : ℕ) (holds : Bool) (target : ℕ) → jumps (truth_code e w here k d (value_code e w here k d) holds target) ≡ truth_jumps e
  pub statement : (t : CStmt) (w : Linking) (here : Environment) (k d : ℕ) (to : Targets) → jumps (stmt_code t w here k d to) ≡ stmt_jumps t

-- the code of a text ends with a jump, so it is cut into blocks without a rest
abbrev pub CodeIsClosed : Type 0
CodeIsClosed = (u : CUnit) → IsClosed (whole_code u)
