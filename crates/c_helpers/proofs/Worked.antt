-- Small texts whose operators became calls: they are typed, and do what the texts do.
use Rattle.std.proofs.Common.{◌≡◌, refl}
use Rattle.std.specs.Prelude.{ℕ, Bool, true, false, List, [], ◌∷◌, Option, Some, None, is_ok, codes}
use Rattle.std.specs.Fmt.{digits}
use Rattle.c_syntax.specs.Plain.{Number, Str, Var, Unary, Step, Binary, Assign, SizeOf, Index, Call, Member, Arrow, exprs, CTy, Int, Unsigned, Char, UChar, Struct, Pointer, Array, ArrayOf, Func, tys, CValue, One, CDecl, Block, Local, Do_expr, For, Return, Switch, stmts, Label, Item, parts, CItem, StructItem, Object, Function, CUnit}
use Rattle.c_syntax.specs.declared.tree.UnOp.TheVariants as unary
use Rattle.c_syntax.specs.declared.tree.StepOp.TheVariants as step
use Rattle.c_syntax.specs.declared.tree.BinOp.TheVariants as binary
use Rattle.c_types.specs.Units.{unit_judged}
use Rattle.c_eval.specs.State.{ZeroDivisor, OutsideObject, PointerArithmetic, ShiftCount, HelperLimit}
use Rattle.c_eval.specs.Run.{unless, choose, exit, spend, spend_spare, paid, stop, put, put_all, next_byte, objects_now, with_objects, recharged, charged_by, charged, after, ◌>>=◌, give, undefined}
use Rattle.c_eval.specs.Memory.{read_cell, load, put_cell, write_cell, store, enter, leave, within, moved, member_at, equal_pointers, pointer_before, pointer_difference}
use Rattle.c_eval.specs.Operators.{used, of_word, word_act, word_result, on_words, pointer_sum, pointer_less, sum, difference, equality, order, operated, combined, on_word, pointer_to, value_at, pointed_value, assigned, updated}
use Rattle.c_eval.specs.BuiltIns.{put_string, put_string_at, convert, with_argument, put_format, printf, with_one, built_in}
use Rattle.c_eval.specs.Eval.{place_named, value_named, unary_value, unary_place, stepped, assignment, cast_value, element, call_through, call, used_value, condition, clear, spell, first_value, go_on, turned, loop, do_loop, maybe_condition, maybe_effect, returned}
use Rattle.c_eval.specs.Text.{text_of}
use Rattle.c_eval.specs.Meaning.{result_of, runs, charged_run, call_by, calls_to, run_of, eval, meaning_of, meaning_in, End, Ended, Going, Undefined, Meaning}
use Rattle.c_eval.specs.Helpers.{leaving, refill, helped, own_charged_by, own_charged, helper_runs, known_or, helper_calls, guarded, helps_to, helper_rules}
use Rattle.c_helpers.specs.Meanings as means
use Rattle.c_helpers.specs.Simple.{desugared, helpers_of}

abbrev decl : List ℕ → CTy → Option CValue → CDecl
decl name t first = record { name = name; pos = 0; ty = t; first = first }

abbrev unit : List CItem → CUnit
unit items = record { items = items; end = 0 }

-- what the run of a typed text shows
abbrev pub of_typed : Bool → Meaning → Option Meaning
of_typed true m = Some m
of_typed false m = None

-- the run of a text with fewer operators, where it is typed
abbrev pub ran : ℕ → ℕ → CUnit → Option Meaning
ran ration fuel u = of_typed (is_ok (unit_judged (desugared u))) (meaning_in (eval (helper_rules (helpers_of ration u) (text_of (desugared u)) []) (text_of (desugared u)) [] fuel))

abbrev pub does : End → List ℕ → Option Meaning
does end output = Some (record { end = end; output = output; taken = 0 })

-- products
--     Ended "-21 4096 3145856" fuel 9: int main(void){printf("%d %d %d",-3*7,4096*4097,123456*-654); return 0;}
--     Ended "1 -15 -135" fuel 9: int main(void){unsigned u=16777215u; u*=u; int a=-5; char c=9; c*=a*=3; printf("%u %d %d",u,a,c); return 0;}
multiplies_row :
    ran 512 9 (unit (Function (codes "main") 0 Int ([]) (Some (Block (stmts ((Do_expr (Call 0 (Var 0 (codes "printf")) (exprs ((Str 0 (codes "%d %d %d")) ∷ (Binary 0 binary.Mul (Unary 0 unary.Minus (Number 0 3 false)) (Number 0 7 false)) ∷ (Binary 0 binary.Mul (Number 0 4096 false) (Number 0 4097 false)) ∷ (Binary 0 binary.Mul (Number 0 123456 false) (Unary 0 unary.Minus (Number 0 654 false))) ∷ [])))) ∷ (Return 0 (Some (Number 0 0 false))) ∷ [])))) ∷ []))
    ∷ ran 512 9 (unit (Function (codes "main") 0 Int ([]) (Some (Block (stmts ((Local (decl (codes "u") Unsigned (Some (One (Number 0 16777215 true))))) ∷ (Do_expr (Assign 0 (Some binary.Mul) (Var 0 (codes "u")) (Var 0 (codes "u")))) ∷ (Local (decl (codes "a") Int (Some (One (Unary 0 unary.Minus (Number 0 5 false)))))) ∷ (Local (decl (codes "c") Char (Some (One (Number 0 9 false))))) ∷ (Do_expr (Assign 0 (Some binary.Mul) (Var 0 (codes "c")) (Assign 0 (Some binary.Mul) (Var 0 (codes "a")) (Number 0 3 false)))) ∷ (Do_expr (Call 0 (Var 0 (codes "printf")) (exprs ((Str 0 (codes "%u %d %d")) ∷ (Var 0 (codes "u")) ∷ (Var 0 (codes "a")) ∷ (Var 0 (codes "c")) ∷ [])))) ∷ (Return 0 (Some (Number 0 0 false))) ∷ [])))) ∷ []))
    ∷ []
    ≡ does Ended (codes "-21 4096 3145856") ∷ does Ended (codes "1 -15 -135") ∷ []
unfolding unless choose exit spend spend_spare paid stop put put_all next_byte objects_now with_objects recharged charged_by charged after ◌>>=◌ give undefined read_cell load put_cell write_cell store enter leave within moved member_at equal_pointers pointer_before pointer_difference used of_word word_act word_result on_words pointer_sum pointer_less sum difference equality order operated combined on_word pointer_to value_at pointed_value assigned updated put_string put_string_at convert with_argument put_format printf with_one built_in digits place_named value_named unary_value unary_place stepped assignment cast_value element call_through call used_value condition clear spell first_value go_on turned loop do_loop maybe_condition maybe_effect returned result_of runs charged_run call_by calls_to run_of eval meaning_of leaving refill helped own_charged_by own_charged helper_runs known_or helper_calls guarded helps_to means.of_one means.of_two means.of_three means.updating means.pointer_sum means.swapped_sum means.moving_sum means.pointer_step means.elements_between means.string_put means.format_put means.piece_put
multiplies_row = refl

-- quotients and what is left, as int and as unsigned
--     Ended "-3 -1 -3 1 -8388608 0" fuel 9: int main(void){printf("%d %d %d %d",-7/2,-7%2,7/-2,7%-2); printf(" %d %d",(-8388607-1)/-1,(-8388607-1)%-1); return 0;}
--     Ended "8388607 5 1 0 8388606" fuel 9: int main(void){printf("%u %u %u %u",-1/2u,-1%10u,16777215u/8388608u,5u/16777215u); printf(" %u",16777215u%8388609u); return 0;}
--     Undefined ZeroDivisor "a" fuel 9: int main(void){int a=1; putchar(97); a=a/(a-1); return 0;}
quotients_row :
    ran 512 9 (unit (Function (codes "main") 0 Int ([]) (Some (Block (stmts ((Do_expr (Call 0 (Var 0 (codes "printf")) (exprs ((Str 0 (codes "%d %d %d %d")) ∷ (Binary 0 binary.Div (Unary 0 unary.Minus (Number 0 7 false)) (Number 0 2 false)) ∷ (Binary 0 binary.Mod (Unary 0 unary.Minus (Number 0 7 false)) (Number 0 2 false)) ∷ (Binary 0 binary.Div (Number 0 7 false) (Unary 0 unary.Minus (Number 0 2 false))) ∷ (Binary 0 binary.Mod (Number 0 7 false) (Unary 0 unary.Minus (Number 0 2 false))) ∷ [])))) ∷ (Do_expr (Call 0 (Var 0 (codes "printf")) (exprs ((Str 0 (codes " %d %d")) ∷ (Binary 0 binary.Div (Binary 0 binary.Sub (Unary 0 unary.Minus (Number 0 8388607 false)) (Number 0 1 false)) (Unary 0 unary.Minus (Number 0 1 false))) ∷ (Binary 0 binary.Mod (Binary 0 binary.Sub (Unary 0 unary.Minus (Number 0 8388607 false)) (Number 0 1 false)) (Unary 0 unary.Minus (Number 0 1 false))) ∷ [])))) ∷ (Return 0 (Some (Number 0 0 false))) ∷ [])))) ∷ []))
    ∷ ran 512 9 (unit (Function (codes "main") 0 Int ([]) (Some (Block (stmts ((Do_expr (Call 0 (Var 0 (codes "printf")) (exprs ((Str 0 (codes "%u %u %u %u")) ∷ (Binary 0 binary.Div (Unary 0 unary.Minus (Number 0 1 false)) (Number 0 2 true)) ∷ (Binary 0 binary.Mod (Unary 0 unary.Minus (Number 0 1 false)) (Number 0 10 true)) ∷ (Binary 0 binary.Div (Number 0 16777215 true) (Number 0 8388608 true)) ∷ (Binary 0 binary.Div (Number 0 5 true) (Number 0 16777215 true)) ∷ [])))) ∷ (Do_expr (Call 0 (Var 0 (codes "printf")) (exprs ((Str 0 (codes " %u")) ∷ (Binary 0 binary.Mod (Number 0 16777215 true) (Number 0 8388609 true)) ∷ [])))) ∷ (Return 0 (Some (Number 0 0 false))) ∷ [])))) ∷ []))
    ∷ ran 512 9 (unit (Function (codes "main") 0 Int ([]) (Some (Block (stmts ((Local (decl (codes "a") Int (Some (One (Number 0 1 false))))) ∷ (Do_expr (Call 0 (Var 0 (codes "putchar")) (exprs ((Number 0 97 false) ∷ [])))) ∷ (Do_expr (Assign 0 None (Var 0 (codes "a")) (Binary 0 binary.Div (Var 0 (codes "a")) (Binary 0 binary.Sub (Var 0 (codes "a")) (Number 0 1 false))))) ∷ (Return 0 (Some (Number 0 0 false))) ∷ [])))) ∷ []))
    ∷ []
    ≡ does Ended (codes "-3 -1 -3 1 -8388608 0") ∷ does Ended (codes "8388607 5 1 0 8388606") ∷ does (Undefined ZeroDivisor) (codes "a") ∷ []
unfolding unless choose exit spend spend_spare paid stop put put_all next_byte objects_now with_objects recharged charged_by charged after ◌>>=◌ give undefined read_cell load put_cell write_cell store enter leave within moved member_at equal_pointers pointer_before pointer_difference used of_word word_act word_result on_words pointer_sum pointer_less sum difference equality order operated combined on_word pointer_to value_at pointed_value assigned updated put_string put_string_at convert with_argument put_format printf with_one built_in digits place_named value_named unary_value unary_place stepped assignment cast_value element call_through call used_value condition clear spell first_value go_on turned loop do_loop maybe_condition maybe_effect returned result_of runs charged_run call_by calls_to run_of eval meaning_of leaving refill helped own_charged_by own_charged helper_runs known_or helper_calls guarded helps_to means.of_one means.of_two means.of_three means.updating means.pointer_sum means.swapped_sum means.moving_sum means.pointer_step means.elements_between means.string_put means.format_put means.piece_put
quotients_row = refl

-- bits and shifts
--     Ended "30f0f0 fffff0 f0f0f fffffa -8388608" fuel 9: int main(void){printf("%x %x %x %x",0xf0f0f0&0x3fffff,0xf0f0f0|0x0f0f00,0xf0f0f0^0xffffff,~5); printf(" %d",-1&-8388607-1); return 0;}
--     Ended "-3 -1 -8388608 3 1 16777215" fuel 9: int main(void){printf("%d %d %d %d",-5>>1,-8388607-1>>23,1<<23,3<<0); printf(" %u %u",16777215u>>23,16777215u>>0); return 0;}
--     Undefined ShiftCount "a" fuel 9: int main(void){int n=24; putchar(97); n=1>>n; return 0;}
bits_row :
    ran 512 9 (unit (Function (codes "main") 0 Int ([]) (Some (Block (stmts ((Do_expr (Call 0 (Var 0 (codes "printf")) (exprs ((Str 0 (codes "%x %x %x %x")) ∷ (Binary 0 binary.BitAnd (Number 0 15790320 false) (Number 0 4194303 false)) ∷ (Binary 0 binary.BitOr (Number 0 15790320 false) (Number 0 986880 false)) ∷ (Binary 0 binary.BitXor (Number 0 15790320 false) (Number 0 16777215 false)) ∷ (Unary 0 unary.Invert (Number 0 5 false)) ∷ [])))) ∷ (Do_expr (Call 0 (Var 0 (codes "printf")) (exprs ((Str 0 (codes " %d")) ∷ (Binary 0 binary.BitAnd (Unary 0 unary.Minus (Number 0 1 false)) (Binary 0 binary.Sub (Unary 0 unary.Minus (Number 0 8388607 false)) (Number 0 1 false))) ∷ [])))) ∷ (Return 0 (Some (Number 0 0 false))) ∷ [])))) ∷ []))
    ∷ ran 512 9 (unit (Function (codes "main") 0 Int ([]) (Some (Block (stmts ((Do_expr (Call 0 (Var 0 (codes "printf")) (exprs ((Str 0 (codes "%d %d %d %d")) ∷ (Binary 0 binary.Shr (Unary 0 unary.Minus (Number 0 5 false)) (Number 0 1 false)) ∷ (Binary 0 binary.Shr (Binary 0 binary.Sub (Unary 0 unary.Minus (Number 0 8388607 false)) (Number 0 1 false)) (Number 0 23 false)) ∷ (Binary 0 binary.Shl (Number 0 1 false) (Number 0 23 false)) ∷ (Binary 0 binary.Shl (Number 0 3 false) (Number 0 0 false)) ∷ [])))) ∷ (Do_expr (Call 0 (Var 0 (codes "printf")) (exprs ((Str 0 (codes " %u %u")) ∷ (Binary 0 binary.Shr (Number 0 16777215 true) (Number 0 23 false)) ∷ (Binary 0 binary.Shr (Number 0 16777215 true) (Number 0 0 false)) ∷ [])))) ∷ (Return 0 (Some (Number 0 0 false))) ∷ [])))) ∷ []))
    ∷ ran 512 9 (unit (Function (codes "main") 0 Int ([]) (Some (Block (stmts ((Local (decl (codes "n") Int (Some (One (Number 0 24 false))))) ∷ (Do_expr (Call 0 (Var 0 (codes "putchar")) (exprs ((Number 0 97 false) ∷ [])))) ∷ (Do_expr (Assign 0 None (Var 0 (codes "n")) (Binary 0 binary.Shr (Number 0 1 false) (Var 0 (codes "n"))))) ∷ (Return 0 (Some (Number 0 0 false))) ∷ [])))) ∷ []))
    ∷ []
    ≡ does Ended (codes "30f0f0 fffff0 f0f0f fffffa -8388608") ∷ does Ended (codes "-3 -1 -8388608 3 1 16777215") ∷ does (Undefined ShiftCount) (codes "a") ∷ []
unfolding unless choose exit spend spend_spare paid stop put put_all next_byte objects_now with_objects recharged charged_by charged after ◌>>=◌ give undefined read_cell load put_cell write_cell store enter leave within moved member_at equal_pointers pointer_before pointer_difference used of_word word_act word_result on_words pointer_sum pointer_less sum difference equality order operated combined on_word pointer_to value_at pointed_value assigned updated put_string put_string_at convert with_argument put_format printf with_one built_in digits place_named value_named unary_value unary_place stepped assignment cast_value element call_through call used_value condition clear spell first_value go_on turned loop do_loop maybe_condition maybe_effect returned result_of runs charged_run call_by calls_to run_of eval meaning_of leaving refill helped own_charged_by own_charged helper_runs known_or helper_calls guarded helps_to means.of_one means.of_two means.of_three means.updating means.pointer_sum means.swapped_sum means.moving_sum means.pointer_step means.elements_between means.string_put means.format_put means.piece_put
bits_row = refl

-- a compound assignment evaluates its place once, and counts as both sides do
--     Ended "30 7 1" fuel 9: int main(void){int a[3]; int i=0; a[0]=6; a[1]=7; a[i++]*=5; printf("%d %d %d",a[0],a[1],i); return 0;}
--     Ended "8388607 25 -4 -7 -4" fuel 9: int main(void){int x=-1; unsigned char c=200; x/=2u; c>>=3; printf("%d %d",x,c); x=-9; x%=4; x<<=2; printf(" %d",x); x|=1; x&=-2; x^=5; printf(" %d",x); x>>=1; printf(" %d",x); return 0;}
compound_row :
    ran 512 9 (unit (Function (codes "main") 0 Int ([]) (Some (Block (stmts ((Local (decl (codes "a") (ArrayOf Int (Number 0 3 false)) None)) ∷ (Local (decl (codes "i") Int (Some (One (Number 0 0 false))))) ∷ (Do_expr (Assign 0 None (Index 0 (Var 0 (codes "a")) (Number 0 0 false)) (Number 0 6 false))) ∷ (Do_expr (Assign 0 None (Index 0 (Var 0 (codes "a")) (Number 0 1 false)) (Number 0 7 false))) ∷ (Do_expr (Assign 0 (Some binary.Mul) (Index 0 (Var 0 (codes "a")) (Step 0 step.PostInc (Var 0 (codes "i")))) (Number 0 5 false))) ∷ (Do_expr (Call 0 (Var 0 (codes "printf")) (exprs ((Str 0 (codes "%d %d %d")) ∷ (Index 0 (Var 0 (codes "a")) (Number 0 0 false)) ∷ (Index 0 (Var 0 (codes "a")) (Number 0 1 false)) ∷ (Var 0 (codes "i")) ∷ [])))) ∷ (Return 0 (Some (Number 0 0 false))) ∷ [])))) ∷ []))
    ∷ ran 512 9 (unit (Function (codes "main") 0 Int ([]) (Some (Block (stmts ((Local (decl (codes "x") Int (Some (One (Unary 0 unary.Minus (Number 0 1 false)))))) ∷ (Local (decl (codes "c") UChar (Some (One (Number 0 200 false))))) ∷ (Do_expr (Assign 0 (Some binary.Div) (Var 0 (codes "x")) (Number 0 2 true))) ∷ (Do_expr (Assign 0 (Some binary.Shr) (Var 0 (codes "c")) (Number 0 3 false))) ∷ (Do_expr (Call 0 (Var 0 (codes "printf")) (exprs ((Str 0 (codes "%d %d")) ∷ (Var 0 (codes "x")) ∷ (Var 0 (codes "c")) ∷ [])))) ∷ (Do_expr (Assign 0 None (Var 0 (codes "x")) (Unary 0 unary.Minus (Number 0 9 false)))) ∷ (Do_expr (Assign 0 (Some binary.Mod) (Var 0 (codes "x")) (Number 0 4 false))) ∷ (Do_expr (Assign 0 (Some binary.Shl) (Var 0 (codes "x")) (Number 0 2 false))) ∷ (Do_expr (Call 0 (Var 0 (codes "printf")) (exprs ((Str 0 (codes " %d")) ∷ (Var 0 (codes "x")) ∷ [])))) ∷ (Do_expr (Assign 0 (Some binary.BitOr) (Var 0 (codes "x")) (Number 0 1 false))) ∷ (Do_expr (Assign 0 (Some binary.BitAnd) (Var 0 (codes "x")) (Unary 0 unary.Minus (Number 0 2 false)))) ∷ (Do_expr (Assign 0 (Some binary.BitXor) (Var 0 (codes "x")) (Number 0 5 false))) ∷ (Do_expr (Call 0 (Var 0 (codes "printf")) (exprs ((Str 0 (codes " %d")) ∷ (Var 0 (codes "x")) ∷ [])))) ∷ (Do_expr (Assign 0 (Some binary.Shr) (Var 0 (codes "x")) (Number 0 1 false))) ∷ (Do_expr (Call 0 (Var 0 (codes "printf")) (exprs ((Str 0 (codes " %d")) ∷ (Var 0 (codes "x")) ∷ [])))) ∷ (Return 0 (Some (Number 0 0 false))) ∷ [])))) ∷ []))
    ∷ []
    ≡ does Ended (codes "30 7 1") ∷ does Ended (codes "8388607 25 -4 -7 -4") ∷ []
unfolding unless choose exit spend spend_spare paid stop put put_all next_byte objects_now with_objects recharged charged_by charged after ◌>>=◌ give undefined read_cell load put_cell write_cell store enter leave within moved member_at equal_pointers pointer_before pointer_difference used of_word word_act word_result on_words pointer_sum pointer_less sum difference equality order operated combined on_word pointer_to value_at pointed_value assigned updated put_string put_string_at convert with_argument put_format printf with_one built_in digits place_named value_named unary_value unary_place stepped assignment cast_value element call_through call used_value condition clear spell first_value go_on turned loop do_loop maybe_condition maybe_effect returned result_of runs charged_run call_by calls_to run_of eval meaning_of leaving refill helped own_charged_by own_charged helper_runs known_or helper_calls guarded helps_to means.of_one means.of_two means.of_three means.updating means.pointer_sum means.swapped_sum means.moving_sum means.pointer_step means.elements_between means.string_put means.format_put means.piece_put
compound_row = refl

-- what conversions write
--     Ended "-8388608 16777215 ffffff A%|000" fuel 9: int main(void){printf("%d %u %x %c%%|",-8388607-1,16777215u,16777215u,65); printf("%d%u%x",0,0u,0u); return 0;}
--     Ended "9 10 1000000 f 10 10000000" fuel 9: int main(void){printf("%d %d %d",9,10,1000000); printf(" %x %x",15,16); printf(" %u",10000000u); return 0;}
printing_row :
    ran 512 9 (unit (Function (codes "main") 0 Int ([]) (Some (Block (stmts ((Do_expr (Call 0 (Var 0 (codes "printf")) (exprs ((Str 0 (codes "%d %u %x %c%%|")) ∷ (Binary 0 binary.Sub (Unary 0 unary.Minus (Number 0 8388607 false)) (Number 0 1 false)) ∷ (Number 0 16777215 true) ∷ (Number 0 16777215 true) ∷ (Number 0 65 false) ∷ [])))) ∷ (Do_expr (Call 0 (Var 0 (codes "printf")) (exprs ((Str 0 (codes "%d%u%x")) ∷ (Number 0 0 false) ∷ (Number 0 0 true) ∷ (Number 0 0 true) ∷ [])))) ∷ (Return 0 (Some (Number 0 0 false))) ∷ [])))) ∷ []))
    ∷ ran 512 9 (unit (Function (codes "main") 0 Int ([]) (Some (Block (stmts ((Do_expr (Call 0 (Var 0 (codes "printf")) (exprs ((Str 0 (codes "%d %d %d")) ∷ (Number 0 9 false) ∷ (Number 0 10 false) ∷ (Number 0 1000000 false) ∷ [])))) ∷ (Do_expr (Call 0 (Var 0 (codes "printf")) (exprs ((Str 0 (codes " %x %x")) ∷ (Number 0 15 false) ∷ (Number 0 16 false) ∷ [])))) ∷ (Do_expr (Call 0 (Var 0 (codes "printf")) (exprs ((Str 0 (codes " %u")) ∷ (Number 0 10000000 true) ∷ [])))) ∷ (Return 0 (Some (Number 0 0 false))) ∷ [])))) ∷ []))
    ∷ []
    ≡ does Ended (codes "-8388608 16777215 ffffff A%|000") ∷ does Ended (codes "9 10 1000000 f 10 10000000") ∷ []
unfolding unless choose exit spend spend_spare paid stop put put_all next_byte objects_now with_objects recharged charged_by charged after ◌>>=◌ give undefined read_cell load put_cell write_cell store enter leave within moved member_at equal_pointers pointer_before pointer_difference used of_word word_act word_result on_words pointer_sum pointer_less sum difference equality order operated combined on_word pointer_to value_at pointed_value assigned updated put_string put_string_at convert with_argument put_format printf with_one built_in digits place_named value_named unary_value unary_place stepped assignment cast_value element call_through call used_value condition clear spell first_value go_on turned loop do_loop maybe_condition maybe_effect returned result_of runs charged_run call_by calls_to run_of eval meaning_of leaving refill helped own_charged_by own_charged helper_runs known_or helper_calls guarded helps_to means.of_one means.of_two means.of_three means.updating means.pointer_sum means.swapped_sum means.moving_sum means.pointer_step means.elements_between means.string_put means.format_put means.piece_put
printing_row = refl

-- a string costs a unit for each of its characters, behind that of the call and before it is written
--     Ended "abcd" fuel 3: int main(void){printf("a%sd","bc"); return 0;}
--     Going "ab" fuel 2: int main(void){printf("a%sd","bc"); return 0;}
--     Going "" fuel 0: int main(void){printf("a%sd","bc"); return 0;}
--     Ended "ab\n0" fuel 4: int main(void){int n=puts("ab"); printf("%d",n); return 0;}
--     Going "a" fuel 2: int main(void){puts("ab"); return 0;}
--     Undefined OutsideObject "ab" fuel 9: int main(void){char c[2]; c[0]=97; c[1]=98; printf("%s",c); return 0;}
strings_row :
    ran 512 3 (unit (Function (codes "main") 0 Int ([]) (Some (Block (stmts ((Do_expr (Call 0 (Var 0 (codes "printf")) (exprs ((Str 0 (codes "a%sd")) ∷ (Str 0 (codes "bc")) ∷ [])))) ∷ (Return 0 (Some (Number 0 0 false))) ∷ [])))) ∷ []))
    ∷ ran 512 2 (unit (Function (codes "main") 0 Int ([]) (Some (Block (stmts ((Do_expr (Call 0 (Var 0 (codes "printf")) (exprs ((Str 0 (codes "a%sd")) ∷ (Str 0 (codes "bc")) ∷ [])))) ∷ (Return 0 (Some (Number 0 0 false))) ∷ [])))) ∷ []))
    ∷ ran 512 0 (unit (Function (codes "main") 0 Int ([]) (Some (Block (stmts ((Do_expr (Call 0 (Var 0 (codes "printf")) (exprs ((Str 0 (codes "a%sd")) ∷ (Str 0 (codes "bc")) ∷ [])))) ∷ (Return 0 (Some (Number 0 0 false))) ∷ [])))) ∷ []))
    ∷ ran 512 4 (unit (Function (codes "main") 0 Int ([]) (Some (Block (stmts ((Local (decl (codes "n") Int (Some (One (Call 0 (Var 0 (codes "puts")) (exprs ((Str 0 (codes "ab")) ∷ []))))))) ∷ (Do_expr (Call 0 (Var 0 (codes "printf")) (exprs ((Str 0 (codes "%d")) ∷ (Var 0 (codes "n")) ∷ [])))) ∷ (Return 0 (Some (Number 0 0 false))) ∷ [])))) ∷ []))
    ∷ ran 512 2 (unit (Function (codes "main") 0 Int ([]) (Some (Block (stmts ((Do_expr (Call 0 (Var 0 (codes "puts")) (exprs ((Str 0 (codes "ab")) ∷ [])))) ∷ (Return 0 (Some (Number 0 0 false))) ∷ [])))) ∷ []))
    ∷ ran 512 9 (unit (Function (codes "main") 0 Int ([]) (Some (Block (stmts ((Local (decl (codes "c") (ArrayOf Char (Number 0 2 false)) None)) ∷ (Do_expr (Assign 0 None (Index 0 (Var 0 (codes "c")) (Number 0 0 false)) (Number 0 97 false))) ∷ (Do_expr (Assign 0 None (Index 0 (Var 0 (codes "c")) (Number 0 1 false)) (Number 0 98 false))) ∷ (Do_expr (Call 0 (Var 0 (codes "printf")) (exprs ((Str 0 (codes "%s")) ∷ (Var 0 (codes "c")) ∷ [])))) ∷ (Return 0 (Some (Number 0 0 false))) ∷ [])))) ∷ []))
    ∷ []
    ≡ does Ended (codes "abcd") ∷ does Going (codes "ab") ∷ does Going ([]) ∷ does Ended (codes "ab\n0") ∷ does Going (codes "a") ∷ does (Undefined OutsideObject) (codes "ab") ∷ []
unfolding unless choose exit spend spend_spare paid stop put put_all next_byte objects_now with_objects recharged charged_by charged after ◌>>=◌ give undefined read_cell load put_cell write_cell store enter leave within moved member_at equal_pointers pointer_before pointer_difference used of_word word_act word_result on_words pointer_sum pointer_less sum difference equality order operated combined on_word pointer_to value_at pointed_value assigned updated put_string put_string_at convert with_argument put_format printf with_one built_in digits place_named value_named unary_value unary_place stepped assignment cast_value element call_through call used_value condition clear spell first_value go_on turned loop do_loop maybe_condition maybe_effect returned result_of runs charged_run call_by calls_to run_of eval meaning_of leaving refill helped own_charged_by own_charged helper_runs known_or helper_calls guarded helps_to means.of_one means.of_two means.of_three means.updating means.pointer_sum means.swapped_sum means.moving_sum means.pointer_step means.elements_between means.string_put means.format_put means.piece_put
strings_row = refl

-- pointers to elements of more than one word
--     Ended "68782677" fuel 19: struct S {int x; int y;}; int main(void){struct S a[4]; struct S *p=a; int i; for(i=0;i<4;i++) a[i].y=i+5; p++; printf("%d",p->y); p+=2; printf("%d",p->y); printf("%d",(p-1)->y); printf("%d",(p--)->y); printf("%d",p-a); printf("%d",(1+a)->y); --p; printf("%d",p[1].y); printf("%d",1[p].y); return 0;}
--     Ended "772" fuel 9: int main(void){int a[2][3]; int (*p)[3]=a; a[1][2]=7; p+=1u; printf("%d",(*p)[2]); p-=1; printf("%d",p[1][2]); printf("%d",&a[2]-a); return 0;}
--     Undefined PointerArithmetic "a" fuel 9: struct S {int x; int y;}; int main(void){struct S a[4]; struct S *p=a; putchar(97); p-=1; return 0;}
pointers_row :
    ran 512 19 (unit (StructItem (record { name = codes "S"; pos = 0; members = (decl (codes "x") Int None) ∷ (decl (codes "y") Int None) ∷ [] }) ∷ Function (codes "main") 0 Int ([]) (Some (Block (stmts ((Local (decl (codes "a") (ArrayOf (Struct (codes "S")) (Number 0 4 false)) None)) ∷ (Local (decl (codes "p") (Pointer (Struct (codes "S"))) (Some (One (Var 0 (codes "a")))))) ∷ (Local (decl (codes "i") Int None)) ∷ (For (Do_expr (Assign 0 None (Var 0 (codes "i")) (Number 0 0 false))) (Some (Binary 0 binary.Lt (Var 0 (codes "i")) (Number 0 4 false))) (Some (Step 0 step.PostInc (Var 0 (codes "i")))) (Do_expr (Assign 0 None (Member 0 (Index 0 (Var 0 (codes "a")) (Var 0 (codes "i"))) (codes "y")) (Binary 0 binary.Add (Var 0 (codes "i")) (Number 0 5 false))))) ∷ (Do_expr (Step 0 step.PostInc (Var 0 (codes "p")))) ∷ (Do_expr (Call 0 (Var 0 (codes "printf")) (exprs ((Str 0 (codes "%d")) ∷ (Arrow 0 (Var 0 (codes "p")) (codes "y")) ∷ [])))) ∷ (Do_expr (Assign 0 (Some binary.Add) (Var 0 (codes "p")) (Number 0 2 false))) ∷ (Do_expr (Call 0 (Var 0 (codes "printf")) (exprs ((Str 0 (codes "%d")) ∷ (Arrow 0 (Var 0 (codes "p")) (codes "y")) ∷ [])))) ∷ (Do_expr (Call 0 (Var 0 (codes "printf")) (exprs ((Str 0 (codes "%d")) ∷ (Arrow 0 (Binary 0 binary.Sub (Var 0 (codes "p")) (Number 0 1 false)) (codes "y")) ∷ [])))) ∷ (Do_expr (Call 0 (Var 0 (codes "printf")) (exprs ((Str 0 (codes "%d")) ∷ (Arrow 0 (Step 0 step.PostDec (Var 0 (codes "p"))) (codes "y")) ∷ [])))) ∷ (Do_expr (Call 0 (Var 0 (codes "printf")) (exprs ((Str 0 (codes "%d")) ∷ (Binary 0 binary.Sub (Var 0 (codes "p")) (Var 0 (codes "a"))) ∷ [])))) ∷ (Do_expr (Call 0 (Var 0 (codes "printf")) (exprs ((Str 0 (codes "%d")) ∷ (Arrow 0 (Binary 0 binary.Add (Number 0 1 false) (Var 0 (codes "a"))) (codes "y")) ∷ [])))) ∷ (Do_expr (Step 0 step.PreDec (Var 0 (codes "p")))) ∷ (Do_expr (Call 0 (Var 0 (codes "printf")) (exprs ((Str 0 (codes "%d")) ∷ (Member 0 (Index 0 (Var 0 (codes "p")) (Number 0 1 false)) (codes "y")) ∷ [])))) ∷ (Do_expr (Call 0 (Var 0 (codes "printf")) (exprs ((Str 0 (codes "%d")) ∷ (Member 0 (Index 0 (Number 0 1 false) (Var 0 (codes "p"))) (codes "y")) ∷ [])))) ∷ (Return 0 (Some (Number 0 0 false))) ∷ [])))) ∷ []))
    ∷ ran 512 9 (unit (Function (codes "main") 0 Int ([]) (Some (Block (stmts ((Local (decl (codes "a") (ArrayOf (ArrayOf Int (Number 0 3 false)) (Number 0 2 false)) None)) ∷ (Local (decl (codes "p") (Pointer (ArrayOf Int (Number 0 3 false))) (Some (One (Var 0 (codes "a")))))) ∷ (Do_expr (Assign 0 None (Index 0 (Index 0 (Var 0 (codes "a")) (Number 0 1 false)) (Number 0 2 false)) (Number 0 7 false))) ∷ (Do_expr (Assign 0 (Some binary.Add) (Var 0 (codes "p")) (Number 0 1 true))) ∷ (Do_expr (Call 0 (Var 0 (codes "printf")) (exprs ((Str 0 (codes "%d")) ∷ (Index 0 (Unary 0 unary.Deref (Var 0 (codes "p"))) (Number 0 2 false)) ∷ [])))) ∷ (Do_expr (Assign 0 (Some binary.Sub) (Var 0 (codes "p")) (Number 0 1 false))) ∷ (Do_expr (Call 0 (Var 0 (codes "printf")) (exprs ((Str 0 (codes "%d")) ∷ (Index 0 (Index 0 (Var 0 (codes "p")) (Number 0 1 false)) (Number 0 2 false)) ∷ [])))) ∷ (Do_expr (Call 0 (Var 0 (codes "printf")) (exprs ((Str 0 (codes "%d")) ∷ (Binary 0 binary.Sub (Unary 0 unary.Address (Index 0 (Var 0 (codes "a")) (Number 0 2 false))) (Var 0 (codes "a"))) ∷ [])))) ∷ (Return 0 (Some (Number 0 0 false))) ∷ [])))) ∷ []))
    ∷ ran 512 9 (unit (StructItem (record { name = codes "S"; pos = 0; members = (decl (codes "x") Int None) ∷ (decl (codes "y") Int None) ∷ [] }) ∷ Function (codes "main") 0 Int ([]) (Some (Block (stmts ((Local (decl (codes "a") (ArrayOf (Struct (codes "S")) (Number 0 4 false)) None)) ∷ (Local (decl (codes "p") (Pointer (Struct (codes "S"))) (Some (One (Var 0 (codes "a")))))) ∷ (Do_expr (Call 0 (Var 0 (codes "putchar")) (exprs ((Number 0 97 false) ∷ [])))) ∷ (Do_expr (Assign 0 (Some binary.Sub) (Var 0 (codes "p")) (Number 0 1 false))) ∷ (Return 0 (Some (Number 0 0 false))) ∷ [])))) ∷ []))
    ∷ []
    ≡ does Ended (codes "68782677") ∷ does Ended (codes "772") ∷ does (Undefined PointerArithmetic) (codes "a") ∷ []
unfolding unless choose exit spend spend_spare paid stop put put_all next_byte objects_now with_objects recharged charged_by charged after ◌>>=◌ give undefined read_cell load put_cell write_cell store enter leave within moved member_at equal_pointers pointer_before pointer_difference used of_word word_act word_result on_words pointer_sum pointer_less sum difference equality order operated combined on_word pointer_to value_at pointed_value assigned updated put_string put_string_at convert with_argument put_format printf with_one built_in digits place_named value_named unary_value unary_place stepped assignment cast_value element call_through call used_value condition clear spell first_value go_on turned loop do_loop maybe_condition maybe_effect returned result_of runs charged_run call_by calls_to run_of eval meaning_of leaving refill helped own_charged_by own_charged helper_runs known_or helper_calls guarded helps_to means.of_one means.of_two means.of_three means.updating means.pointer_sum means.swapped_sum means.moving_sum means.pointer_step means.elements_between means.string_put means.format_put means.piece_put
pointers_row = refl

-- a function that is reached by a pointer alone stays; one that is named in none that is reached is told of alone
--     Ended "12" fuel 9: int f(int a){return a*2;} int g(int a){return a+f(a);} int (*t)(int)=g; int h(void){return 1/0;} int main(void){printf("%d",t(4)); return 0;}
--     Ended "6 3" fuel 9: int n[2*3]; int m=3*5%4; int main(void){switch(6){case 2*3: printf("%d %d",sizeof n,m);} return 0;}
dropped_row :
    ran 512 9 (unit (Function (codes "f") 0 Int (decl (codes "a") Int None ∷ []) (Some (Block (stmts ((Return 0 (Some (Binary 0 binary.Mul (Var 0 (codes "a")) (Number 0 2 false)))) ∷ [])))) ∷ Function (codes "g") 0 Int (decl (codes "a") Int None ∷ []) (Some (Block (stmts ((Return 0 (Some (Binary 0 binary.Add (Var 0 (codes "a")) (Call 0 (Var 0 (codes "f")) (exprs ((Var 0 (codes "a")) ∷ [])))))) ∷ [])))) ∷ Object (decl (codes "t") (Pointer (Func Int (tys (Int ∷ [])))) (Some (One (Var 0 (codes "g"))))) ∷ Function (codes "h") 0 Int ([]) (Some (Block (stmts ((Return 0 (Some (Binary 0 binary.Div (Number 0 1 false) (Number 0 0 false)))) ∷ [])))) ∷ Function (codes "main") 0 Int ([]) (Some (Block (stmts ((Do_expr (Call 0 (Var 0 (codes "printf")) (exprs ((Str 0 (codes "%d")) ∷ (Call 0 (Var 0 (codes "t")) (exprs ((Number 0 4 false) ∷ []))) ∷ [])))) ∷ (Return 0 (Some (Number 0 0 false))) ∷ [])))) ∷ []))
    ∷ ran 512 9 (unit (Object (decl (codes "n") (ArrayOf Int (Binary 0 binary.Mul (Number 0 2 false) (Number 0 3 false))) None) ∷ Object (decl (codes "m") Int (Some (One (Binary 0 binary.Mod (Binary 0 binary.Mul (Number 0 3 false) (Number 0 5 false)) (Number 0 4 false))))) ∷ Function (codes "main") 0 Int ([]) (Some (Block (stmts ((Switch (Number 0 6 false) (parts ((Label 0 (Some (Binary 0 binary.Mul (Number 0 2 false) (Number 0 3 false)))) ∷ (Item (Do_expr (Call 0 (Var 0 (codes "printf")) (exprs ((Str 0 (codes "%d %d")) ∷ (SizeOf 0 (Var 0 (codes "n"))) ∷ (Var 0 (codes "m")) ∷ []))))) ∷ []))) ∷ (Return 0 (Some (Number 0 0 false))) ∷ [])))) ∷ []))
    ∷ []
    ≡ does Ended (codes "12") ∷ does Ended (codes "6 3") ∷ []
unfolding unless choose exit spend spend_spare paid stop put put_all next_byte objects_now with_objects recharged charged_by charged after ◌>>=◌ give undefined read_cell load put_cell write_cell store enter leave within moved member_at equal_pointers pointer_before pointer_difference used of_word word_act word_result on_words pointer_sum pointer_less sum difference equality order operated combined on_word pointer_to value_at pointed_value assigned updated put_string put_string_at convert with_argument put_format printf with_one built_in digits place_named value_named unary_value unary_place stepped assignment cast_value element call_through call used_value condition clear spell first_value go_on turned loop do_loop maybe_condition maybe_effect returned result_of runs charged_run call_by calls_to run_of eval meaning_of leaving refill helped own_charged_by own_charged helper_runs known_or helper_calls guarded helps_to means.of_one means.of_two means.of_three means.updating means.pointer_sum means.swapped_sum means.moving_sum means.pointer_step means.elements_between means.string_put means.format_put means.piece_put
dropped_row = refl

-- an array of open length, to which a pointer within a wide element points
--     Ended "B" fuel 9: int main(void){int (*a[3])[]; int (*(*b)[3])[]=&a; putchar(65+(b+1==&a+1)); return 0;}
open_row :
    ran 512 9 (unit (Function (codes "main") 0 Int ([]) (Some (Block (stmts ((Local (decl (codes "a") (ArrayOf (Pointer (Array Int)) (Number 0 3 false)) None)) ∷ (Local (decl (codes "b") (Pointer (ArrayOf (Pointer (Array Int)) (Number 0 3 false))) (Some (One (Unary 0 unary.Address (Var 0 (codes "a"))))))) ∷ (Do_expr (Call 0 (Var 0 (codes "putchar")) (exprs ((Binary 0 binary.Add (Number 0 65 false) (Binary 0 binary.Eq (Binary 0 binary.Add (Var 0 (codes "b")) (Number 0 1 false)) (Binary 0 binary.Add (Unary 0 unary.Address (Var 0 (codes "a"))) (Number 0 1 false)))) ∷ [])))) ∷ (Return 0 (Some (Number 0 0 false))) ∷ [])))) ∷ []))
    ∷ []
    ≡ does Ended (codes "B") ∷ []
unfolding unless choose exit spend spend_spare paid stop put put_all next_byte objects_now with_objects recharged charged_by charged after ◌>>=◌ give undefined read_cell load put_cell write_cell store enter leave within moved member_at equal_pointers pointer_before pointer_difference used of_word word_act word_result on_words pointer_sum pointer_less sum difference equality order operated combined on_word pointer_to value_at pointed_value assigned updated put_string put_string_at convert with_argument put_format printf with_one built_in digits place_named value_named unary_value unary_place stepped assignment cast_value element call_through call used_value condition clear spell first_value go_on turned loop do_loop maybe_condition maybe_effect returned result_of runs charged_run call_by calls_to run_of eval meaning_of leaving refill helped own_charged_by own_charged helper_runs known_or helper_calls guarded helps_to means.of_one means.of_two means.of_three means.updating means.pointer_sum means.swapped_sum means.moving_sum means.pointer_step means.elements_between means.string_put means.format_put means.piece_put
open_row = refl

-- 512 units of the second fuel serve each use
--     Ended "-1" fuel 9: int main(void){printf("%d",-8388607%-3); return 0;}
--     Undefined HelperLimit "" fuel 9: int main(void){printf("%d",-8388607%-3); return 0;}
ration_row :
    ran 512 9 (unit (Function (codes "main") 0 Int ([]) (Some (Block (stmts ((Do_expr (Call 0 (Var 0 (codes "printf")) (exprs ((Str 0 (codes "%d")) ∷ (Binary 0 binary.Mod (Unary 0 unary.Minus (Number 0 8388607 false)) (Unary 0 unary.Minus (Number 0 3 false))) ∷ [])))) ∷ (Return 0 (Some (Number 0 0 false))) ∷ [])))) ∷ []))
    ∷ ran 30 9 (unit (Function (codes "main") 0 Int ([]) (Some (Block (stmts ((Do_expr (Call 0 (Var 0 (codes "printf")) (exprs ((Str 0 (codes "%d")) ∷ (Binary 0 binary.Mod (Unary 0 unary.Minus (Number 0 8388607 false)) (Unary 0 unary.Minus (Number 0 3 false))) ∷ [])))) ∷ (Return 0 (Some (Number 0 0 false))) ∷ [])))) ∷ []))
    ∷ []
    ≡ does Ended (codes "-1") ∷ does (Undefined HelperLimit) ([]) ∷ []
unfolding unless choose exit spend spend_spare paid stop put put_all next_byte objects_now with_objects recharged charged_by charged after ◌>>=◌ give undefined read_cell load put_cell write_cell store enter leave within moved member_at equal_pointers pointer_before pointer_difference used of_word word_act word_result on_words pointer_sum pointer_less sum difference equality order operated combined on_word pointer_to value_at pointed_value assigned updated put_string put_string_at convert with_argument put_format printf with_one built_in digits place_named value_named unary_value unary_place stepped assignment cast_value element call_through call used_value condition clear spell first_value go_on turned loop do_loop maybe_condition maybe_effect returned result_of runs charged_run call_by calls_to run_of eval meaning_of leaving refill helped own_charged_by own_charged helper_runs known_or helper_calls guarded helps_to means.of_one means.of_two means.of_three means.updating means.pointer_sum means.swapped_sum means.moving_sum means.pointer_step means.elements_between means.string_put means.format_put means.piece_put
ration_row = refl
