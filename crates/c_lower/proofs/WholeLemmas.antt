-- The parts of a text's program.
use Rattle.std.proofs.Common.{◌≡◌, ℕ, List, [], ◌∷◌, ◌++◌, Option, refl, ap, subst}
use Rattle.std.specs.Prelude.{Result, Ok, IfOk}
use Rattle.std.specs.declared.alloc.AllocError.{AllocError}
use Rattle.c_syntax.specs.Plain.{CUnit}
use Rattle.c_eval.specs.LiteralsIn.{stmt_literals}
use Rattle.c_eval.specs.Text.{Definition}
use Rattle.eir_core.specs.Eir.{Eir}
use Rattle.c_place.specs.Code.{program}
use Rattle.c_lowered.specs.Whole.{whole_code, data_words, words_from, lowered}
use Rattle.c_lower.specs.Bodies as bodies
use Rattle.c_lower.specs.Scopes as scopes
use Rattle.c_lower_sizes.specs.Sized.{IsSized}

-- the literals of functions, as they are gathered and as their words are made
pub literals_same : (fs : List Definition) → bodies.functions_literals fs ≡ scopes.functions_literals fs
literals_same [] = refl
literals_same (f ∷ fs) = ap (λ (l : List (List ℕ)). stmt_literals f.scope f.body ++ l) (literals_same fs)

pub program_is : (u : CUnit) → program (whole_code u) (words_from (data_words u)) ≡ lowered u
unfolding lowered
program_is u = refl

-- what there is within a room
pub ok_sized : (room : ℕ) (p : Eir) (made : Option Eir) (r : Result (Option Eir) AllocError) → r ≡ Ok made → IfOk r (λ q. IsSized room p q) → IsSized room p made
ok_sized room p made r e h = subst (λ (x : Result (Option Eir) AllocError). IfOk x (λ q. IsSized room p q)) e h
