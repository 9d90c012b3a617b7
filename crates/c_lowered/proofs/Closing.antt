-- The code of a text ends with a jump.
use Rattle.std.proofs.Common.{ℕ, ◌+◌, List, [], ◌∷◌, refl}
use Rattle.std.specs.Prelude.{Option, Bool, true, suc, length, codes}
use Rattle.eir_core.specs.declared.ops.Reg.TheVariants.{B, BP}
use Rattle.eir_core.specs.declared.ops.Operand.TheVariants.{Reg as register}
use Rattle.eir_core.specs.declared.ops.Op.TheVariants.{Load, Jump}
use Rattle.c_lowered.specs.Statements.{stmt_code, targets}
use Rattle.c_syntax.specs.Plain.{CUnit}
use Rattle.c_eval.specs.Text.{Definition, text_of}
use Rattle.c_place.specs.Code.{IsClosed}
use Rattle.c_place.proofs.CutLemmas.{closed_append, closed_end}
use Rattle.c_lowered.specs.Locations.{Linking}
use Rattle.c_lowered.specs.Whole.{function_linking, function_start, function_jumps, function_code, functions_code, linking_of, opening_code, whole_code, frames}

functions_close : (w : Linking) (names : List (List ℕ × Option ℕ)) (fs : List Definition) (k : ℕ) → IsClosed (functions_code w names fs k)
functions_close w names [] k = tt
functions_close w names (f ∷ fs) k =
    closed_append (function_code w names f k) (functions_code w names fs (k + function_jumps f)) (closed_end (stmt_code f.body (function_linking w f) (function_start w names f) k (suc (length f.params)) (targets 0 0)) (Load B (register BP)) (Jump (register B) ∷ []) (refl {A = Bool} {a = true})) (functions_close w names fs (k + function_jumps f))

pub code_closes : (u : CUnit) → IsClosed (whole_code u)
code_closes u = closed_append (opening_code (frames u) ((linking_of u).entry (codes "main"))) (functions_code (linking_of u) (text_of u).names (text_of u).functions 2) (refl {A = Bool} {a = true}) (functions_close (linking_of u) (text_of u).names (text_of u).functions 2)
