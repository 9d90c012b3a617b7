-- The code of a tree is at most what the tree costs.
use Rattle.std.specs.Prelude.{◌≡◌, ℕ, ◌+◌, ◌*◌, ◌≤◌, Bool, List, ◌∷◌, length}
use Rattle.eir_core.specs.declared.ops.Op.{Op}
use Rattle.eir_core.specs.Eir.{size_of}
use Rattle.c_syntax.specs.Plain.{CExpr, CStmt, CUnit}
use Rattle.c_eval.specs.Environment.{Environment}
use Rattle.c_helpers.specs.Cost.{cost_of, stmt_cost, items_cost}
use Rattle.c_eval.specs.Text.{Definition, text_of}
use Rattle.c_place.specs.Code.{jumps}
use Rattle.c_lowered.specs.Locations.{Linking}
use Rattle.c_lowered.specs.Expressions.{value_code, truth_code}
use Rattle.c_lowered.specs.Statements.{Targets, stmt_code}
use Rattle.c_lowered.specs.Whole.{data_words, lowered}
use Rattle.c_stated.specs.Counts.{stmt_words, functions_words}

-- its operations, and the blocks that end with its jumps
abbrev pub size : List Op → ℕ
size ops = length ops + jumps ops

pub record CodeFitsItsCost : Type 0 where
  -- there is room for one word to be saved
  pub value : (e : CExpr) (w : Linking) (here : Environment) (k d : ℕ) → size (value_code e w here k d) + 3 ≤ cost_of e
  pub condition : (e : CExpr) (w : Linking) (here : Environment) (k d : ℕ) (holds : Bool) (target : ℕ) → size (truth_code e w here k d (value_code e w here k d) holds target) + 1 ≤ cost_of e
  -- beside four operations for each word that is spelled in a first value
  pub statement : (t : CStmt) (w : Linking) (here : Environment) (k d : ℕ) (to : Targets) → size (stmt_code t w here k d to) ≤ stmt_cost t + 4 * stmt_words here.scope t

-- a text with a function is lowered to a program of at most what its functions cost, its data words, and four operations for each word that is spelled in a function
abbrev pub TextFitsItsCost : Type 0
TextFitsItsCost =
    (u : CUnit) (f : Definition) (fs : List Definition) → (text_of u).functions ≡ f ∷ fs → size_of (lowered u) + 1 ≤ items_cost u.items + length (data_words u) + 4 * functions_words (text_of u).functions
