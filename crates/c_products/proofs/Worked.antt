-- A text with calls of the functions of pointers has them, as the laws ask.
use Rattle.std.proofs.Common.{◌≡◌, ℕ, List, [], ◌∷◌, Option, Some, None, Bool, true, false, refl}
use Rattle.std.specs.Prelude.{codes}
use Rattle.std.proofs.lemmas.Bool.{leb-true}
use Rattle.c_syntax.specs.Plain.{Number, Var, Step, Binary, Assign, Int, Pointer, ArrayOf, CTy, CValue, CDecl, Block, Local, Do_expr, Return, stmts, CItem, Object, Function, CUnit}
use Rattle.c_syntax.specs.declared.tree.StepOp.TheVariants as step
use Rattle.c_syntax.specs.declared.tree.BinOp.TheVariants as binary
use Rattle.c_types.specs.Types as type
use Rattle.c_types.specs.Types.{CType, Tags}
use Rattle.c_types.specs.Scope.{Names}
use Rattle.c_eval.specs.Text.{Definition, Text, text_of, function_named}
use Rattle.c_eval.specs.Helpers.{Helpers}
use Rattle.c_helpers.specs.Functions.{Helper, product, int_quotient, pointer_step, pointer_difference}
use Rattle.c_helpers.specs.Simple.{desugared, helpers_of}
use Rattle.c_products.specs.Found.{Knows}
use Rattle.c_products.specs.MovesFound.{Has, KnowsOf, sum_function, sum_parameters, swapped_function, swapped_parameters, moving_function, step_parameters, difference_parameters}
use Rattle.c_products.specs.MovesLaws.{HasSum}

abbrev decl : List ℕ → CTy → Option CValue → CDecl
decl name t first = record { name = name; pos = 0; ty = t; first = first }

abbrev unit : List CItem → CUnit
unit items = record { items = items; end = 0 }

--     int m[3][2]; int main(void){ int (*p)[2]; p=m; p=p+1; p=1+p; p+=1; p-=1u; p++; return p-m; }
abbrev source : CUnit
source = unit (Object (decl (codes "m") (ArrayOf (ArrayOf Int (Number 0 2 false)) (Number 0 3 false)) None) ∷ Function (codes "main") 0 Int ([]) (Some (Block (stmts ((Local (decl (codes "p") (Pointer (ArrayOf Int (Number 0 2 false))) None)) ∷ (Do_expr (Assign 0 None (Var 0 (codes "p")) (Var 0 (codes "m")))) ∷ (Do_expr (Assign 0 None (Var 0 (codes "p")) (Binary 0 binary.Add (Var 0 (codes "p")) (Number 0 1 false)))) ∷ (Do_expr (Assign 0 None (Var 0 (codes "p")) (Binary 0 binary.Add (Number 0 1 false) (Var 0 (codes "p"))))) ∷ (Do_expr (Assign 0 (Some binary.Add) (Var 0 (codes "p")) (Number 0 1 false))) ∷ (Do_expr (Assign 0 (Some binary.Sub) (Var 0 (codes "p")) (Number 0 1 true))) ∷ (Do_expr (Step 0 step.PostInc (Var 0 (codes "p")))) ∷ (Return 0 (Some (Binary 0 binary.Sub (Var 0 (codes "p")) (Var 0 (codes "m"))))) ∷ [])))) ∷ [])

abbrev helpers : Helpers
helpers = helpers_of 512 source

abbrev text : Text
text = text_of (desugared source)

-- the scope of a function of the text
abbrev tags_in : Option Definition → Tags
tags_in None = []
tags_in (Some f) = f.scope.tags

abbrev names_in : Option Definition → Names
names_in None = []
names_in (Some f) = f.scope.outer

abbrev functions_in : Option Definition → List (List ℕ)
functions_in None = []
functions_in (Some f) = f.scope.defined

abbrev named : List ℕ → Option Definition
named name = function_named text name

abbrev void_pointer : CType
void_pointer = type.Pointer type.Void

abbrev int_row : Has helpers text void_pointer (sum_parameters false) (sum_function false)
int_row = record { tags = tags_in (named (sum_function false).name); names = names_in (named (sum_function false).name); defined = functions_in (named (sum_function false).name); found = refl; unknown = refl; charge = leb-true (helpers.charge (sum_function false).name) 16 refl }

int_sum_row : HasSum helpers text false
int_sum_row = (int_row, (true, refl))

unsigned_row : Has helpers text void_pointer (sum_parameters true) (sum_function true)
unsigned_row = record { tags = tags_in (named (sum_function true).name); names = names_in (named (sum_function true).name); defined = functions_in (named (sum_function true).name); found = refl; unknown = refl; charge = leb-true (helpers.charge (sum_function true).name) 16 refl }

swapped_row : Has helpers text void_pointer (swapped_parameters false) (swapped_function false)
swapped_row = record { tags = tags_in (named (swapped_function false).name); names = names_in (named (swapped_function false).name); defined = functions_in (named (swapped_function false).name); found = refl; unknown = refl; charge = leb-true (helpers.charge (swapped_function false).name) 16 refl }

swapped_knows_row : KnowsOf (names_in (named (swapped_function false).name)) void_pointer (sum_parameters false) (sum_function false)
swapped_knows_row = (true, refl)

moving_row : Has helpers text void_pointer (sum_parameters false) (moving_function false)
moving_row = record { tags = tags_in (named (moving_function false).name); names = names_in (named (moving_function false).name); defined = functions_in (named (moving_function false).name); found = refl; unknown = refl; charge = leb-true (helpers.charge (moving_function false).name) 16 refl }

moving_knows_row : KnowsOf (names_in (named (moving_function false).name)) void_pointer (sum_parameters false) (sum_function false)
moving_knows_row = (true, refl)

moving_unsigned_row : Has helpers text void_pointer (sum_parameters true) (moving_function true)
moving_unsigned_row = record { tags = tags_in (named (moving_function true).name); names = names_in (named (moving_function true).name); defined = functions_in (named (moving_function true).name); found = refl; unknown = refl; charge = leb-true (helpers.charge (moving_function true).name) 16 refl }

step_row : Has helpers text void_pointer step_parameters pointer_step
step_row = record { tags = tags_in (named pointer_step.name); names = names_in (named pointer_step.name); defined = functions_in (named pointer_step.name); found = refl; unknown = refl; charge = leb-true (helpers.charge pointer_step.name) 16 refl }

difference_row : Has helpers text type.Int difference_parameters pointer_difference
difference_row = record { tags = tags_in (named pointer_difference.name); names = names_in (named pointer_difference.name); defined = functions_in (named pointer_difference.name); found = refl; unknown = refl; charge = leb-true (helpers.charge pointer_difference.name) 16 refl }

difference_knows_row : Knows (names_in (named pointer_difference.name)) type.Int int_quotient
difference_knows_row = (true, refl)
