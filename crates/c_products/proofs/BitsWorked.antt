-- A text with calls of helper functions has them, as the laws ask.
use Rattle.std.proofs.Common.{◌≡◌, ℕ, List, [], ◌∷◌, Option, Some, None, Bool, true, false, refl}
use Rattle.std.specs.Prelude.{codes}
use Rattle.std.proofs.lemmas.Bool.{leb-true}
use Rattle.c_syntax.specs.Plain.{Number, Var, Binary, Assign, Int, One, CTy, CValue, CDecl, Block, Local, Do_expr, Return, stmts, CItem, Function, CUnit}
use Rattle.c_syntax.specs.declared.tree.BinOp.TheVariants as binary
use Rattle.c_types.specs.Types as type
use Rattle.c_types.specs.Types.{Tags}
use Rattle.c_types.specs.Room.{Multiply, Remainder}
use Rattle.c_types.specs.Scope.{Names}
use Rattle.c_eval.specs.Text.{Definition, Text, text_of, function_named}
use Rattle.c_eval.specs.Helpers.{Helpers}
use Rattle.c_helpers.specs.Functions.{product, unsigned_quotient, int_quotient, int_remainder, shift_left, unsigned_shift_right, int_shift_right}
use Rattle.c_helpers.specs.Simple.{desugared, helpers_of}
use Rattle.c_products.specs.Found.{Stands, Knows}
use Rattle.c_products.specs.BitsLaws.{Shifts, KnowsShift}
use Rattle.c_products.specs.CompoundsLaws.{Compounds}

abbrev decl : List ℕ → CTy → Option CValue → CDecl
decl name t first = record { name = name; pos = 0; ty = t; first = first }

abbrev unit : List CItem → CUnit
unit items = record { items = items; end = 0 }

--     int main(void){int x=7; x*=3; x%=5; x=x%5; return x>>1;}
abbrev source : CUnit
source = unit (Function (codes "main") 0 Int ([]) (Some (Block (stmts ((Local (decl (codes "x") Int (Some (One (Number 0 7 false))))) ∷ (Do_expr (Assign 0 (Some binary.Mul) (Var 0 (codes "x")) (Number 0 3 false))) ∷ (Do_expr (Assign 0 (Some binary.Mod) (Var 0 (codes "x")) (Number 0 5 false))) ∷ (Do_expr (Assign 0 None (Var 0 (codes "x")) (Binary 0 binary.Mod (Var 0 (codes "x")) (Number 0 5 false)))) ∷ (Return 0 (Some (Binary 0 binary.Shr (Var 0 (codes "x")) (Number 0 1 false)))) ∷ [])))) ∷ [])

abbrev helpers : Helpers
helpers = helpers_of 512 source

abbrev text : Text
text = text_of (desugared source)

-- the scope of a function of the text
abbrev tags_in : Option Definition → Tags
tags_in None = []
tags_in (Some f) = f.scope.tags

abbrev names_in : Option Definition → Names
names_in None = []
names_in (Some f) = f.scope.outer

abbrev functions_in : Option Definition → List (List ℕ)
functions_in None = []
functions_in (Some f) = f.scope.defined

abbrev named : List ℕ → Option Definition
named name = function_named text name

product_row : Stands helpers text type.Int product
product_row = record { tags = tags_in (named product.name); names = names_in (named product.name); defined = functions_in (named product.name); found = refl; unknown = refl; charge = leb-true (helpers.charge product.name) 16 refl }

unsigned_quotient_row : Stands helpers text type.Unsigned unsigned_quotient
unsigned_quotient_row = record { tags = tags_in (named unsigned_quotient.name); names = names_in (named unsigned_quotient.name); defined = functions_in (named unsigned_quotient.name); found = refl; unknown = refl; charge = leb-true (helpers.charge unsigned_quotient.name) 16 refl }

int_quotient_row : Stands helpers text type.Int int_quotient
int_quotient_row = record { tags = tags_in (named int_quotient.name); names = names_in (named int_quotient.name); defined = functions_in (named int_quotient.name); found = refl; unknown = refl; charge = leb-true (helpers.charge int_quotient.name) 16 refl }

int_remainder_row : Stands helpers text type.Int int_remainder
int_remainder_row = record { tags = tags_in (named int_remainder.name); names = names_in (named int_remainder.name); defined = functions_in (named int_remainder.name); found = refl; unknown = refl; charge = leb-true (helpers.charge int_remainder.name) 16 refl }

shift_left_row : Shifts helpers text type.Int shift_left
shift_left_row = record { tags = tags_in (named shift_left.name); names = names_in (named shift_left.name); defined = functions_in (named shift_left.name); found = refl; unknown = refl; charge = leb-true (helpers.charge shift_left.name) 16 refl }

unsigned_shift_row : Shifts helpers text type.Unsigned unsigned_shift_right
unsigned_shift_row = record { tags = tags_in (named unsigned_shift_right.name); names = names_in (named unsigned_shift_right.name); defined = functions_in (named unsigned_shift_right.name); found = refl; unknown = refl; charge = leb-true (helpers.charge unsigned_shift_right.name) 16 refl }

int_shift_row : Shifts helpers text type.Int int_shift_right
int_shift_row = record { tags = tags_in (named int_shift_right.name); names = names_in (named int_shift_right.name); defined = functions_in (named int_shift_right.name); found = refl; unknown = refl; charge = leb-true (helpers.charge int_shift_right.name) 16 refl }

quotient_knows_row : Knows (names_in (named int_quotient.name)) type.Unsigned unsigned_quotient
quotient_knows_row = (true, refl)

remainder_knows_row : Knows (names_in (named int_remainder.name)) type.Int int_quotient
remainder_knows_row = (true, refl)

remainder_knows_product_row : Knows (names_in (named int_remainder.name)) type.Int product
remainder_knows_product_row = (true, refl)

shift_knows_row : KnowsShift (names_in (named int_shift_right.name)) type.Unsigned unsigned_shift_right
shift_knows_row = (true, refl)

compound_product_row : Compounds helpers text (codes "*") Multiply
compound_product_row = record {
  tags = tags_in (named (codes "*="));
  names = names_in (named (codes "*="));
  defined = functions_in (named (codes "*="));
  found = refl;
  charge = leb-true (helpers.charge (codes "*=")) 16 refl;
  result = type.Int;
  first = type.Int;
  second = type.Int;
  begun = true;
  known = refl;
  first_number = refl;
  second_number = refl;
}

compound_remainder_row : Compounds helpers text (codes "int %") Remainder
compound_remainder_row = record {
  tags = tags_in (named (codes "int %="));
  names = names_in (named (codes "int %="));
  defined = functions_in (named (codes "int %="));
  found = refl;
  charge = leb-true (helpers.charge (codes "int %=")) 16 refl;
  result = type.Int;
  first = type.Int;
  second = type.Int;
  begun = true;
  known = refl;
  first_number = refl;
  second_number = refl;
}
