-- Functions' bodies, in frames of their own.
use Rattle.std.specs.Prelude.{ℕ, suc, ◌+◌, ◌^◌, ◌<◌, ◌≤◌, Bool, false, List, length}
use Rattle.eir_core.specs.Memory.{word_at}
use Rattle.eir_core.specs.declared.ops.Op.{Op}
use Rattle.c_eval.specs.State.{Value, State}
use Rattle.c_syntax.specs.Plain.{CStmt}
use Rattle.c_eval.specs.Environment.{objects_in, Environment, Callee}
use Rattle.c_eval.specs.Eval.{World, does}
use Rattle.c_eval.specs.Text.{Definition}
use Rattle.c_eval.specs.Meaning.{runs}
use Rattle.c_place.specs.Place.{front, Machine, Stands}
use Rattle.c_lowered.specs.Locations.{Location}
use Rattle.c_lowered.specs.Counts.{stmt_jumps}
use Rattle.c_lowered.specs.Statements.{Targets, stmt_code}
use Rattle.c_lowered.specs.Whole.{function_jumps, function_start, function_linking, function_code}
use Rattle.c_memory.specs.Follows.{fuel_of, here, Follows}
use Rattle.c_memory.specs.Lies.{Extent}
use Rattle.c_landing.specs.Landing.{Names, placed, Setting, Ready, Reached, InA}
use Rattle.c_landing.specs.Few.{Agrees}
use Rattle.c_valued.specs.Calls.{WordsMean, UnitPays, with_names, CallsLand}
use Rattle.c_stated.specs.Flows.{Performs}
use Rattle.c_stated.specs.Statements.{DeclaresNothing, stmt_need, stmt_steps}
use Rattle.c_stated.specs.Texts.{StatementIs}
use Rattle.c_followed.specs.Breaks.{BreaksAreIn}

-- the names of file scope alone are in scope
abbrev pub at_file : Setting → Setting
at_file S = with_names S S.file_bases S.file_coded S.file_named

-- where the code of a function is run
abbrev pub inside : Setting → Definition → Setting
inside S f = record S { linking = function_linking (at_file S).linking f }

-- the place of the text where its body begins
abbrev pub beginning : Setting → Definition → Environment
beginning S f = function_start (at_file S).linking S.file_coded f

-- its code, which begins in block k
abbrev pub code_of : Setting → Definition → ℕ → List Op
code_of S f k = function_code (at_file S).linking S.file_coded f k

-- a statement's code follows it within so many operations, whatever names are in scope
abbrev pub PerformedBy : Setting → World → (count : ℕ) → CStmt → Environment → Type 0
PerformedBy S w count t site =
    (bases : List Location) (coded named : Names) (k d n i o : ℕ) (to : Targets) → 1 ≤ d → stmt_need t site ≤ n → k + stmt_jumps t < 2 ^ 24 → to.broke < 2 ^ 24 → to.continued < 2 ^ 24
    → Performs (with_names S bases coded named) (stmt_code t (record S.linking { bases = bases }) (placed coded i site) k d to) k d n count (does t S.deep w (placed named o site)) to i o (objects_in site.scope t)

-- a function as desugaring leaves it: no `break` leads out of its body; its frame has so many words, and a unit pays for so many operations
pub record FunctionIs (S : Setting) (w : World) (u : ℕ) (may : Callee → Bool) (frame worth_one : ℕ) (f : Definition) : Type 0 where
  pub body : StatementIs (inside S f) w may f.body (beginning S f)
  pub declares : DeclaresNothing f.body
  pub breaks : BreaksAreIn false false f.body
  pub framed : suc (length f.params) + stmt_need f.body (beginning S f) ≤ frame
  pub paid : stmt_steps u f.body (beginning S f) + 2 ≤ worth_one

-- code follows a function's run where the block to return to stands in the frame's first word and the arguments behind it: it comes to that block, with the value in A and the frame as it was
pub record BodyLands (S : Setting) (w : World) (f : Definition) (k frame c : ℕ) : Type 0 where
  pub at : (vs : List Value) (bs : List Extent) (st : State) (m : Machine) → Ready (at_file S) bs st m 0 frame → WordsMean S.ground bs m.memory (m.regs.bp + 1) vs
      → Follows S.program S.input S.mode (here (front k) m st) (fuel_of st) c (runs f S.file_named S.deep w vs st) (Reached S bs st m.memory m.regs.bp 0 (front (word_at m.memory m.regs.bp)) (InA S))

-- where calls land, a function's code follows its run
abbrev pub BodiesLand : Type 0
BodiesLand =
    (S : Setting) (w : World) (u worth_one : ℕ) (may : Callee → Bool) (f : Definition) (k frame : ℕ) → Agrees (inside S f) w → UnitPays S.mode w.inner worth_one → CallsLand (inside S f) w u may → FunctionIs S w u may frame worth_one f → k + function_jumps f < 2 ^ 24 → Stands S.program (front k) (code_of S f k)
    → BodyLands S w f k frame worth_one
