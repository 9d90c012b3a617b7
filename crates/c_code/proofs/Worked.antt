-- Small programs, and what their code does.
use Rattle.std.proofs.Common.{◌≡◌, refl}
use Rattle.std.specs.Prelude.{ℕ, Bool, true, false, List, [], ◌∷◌, map, Option, Some, None, is_ok, codes}
use Rattle.std.specs.Fmt.{digits}
use Rattle.c_syntax.specs.Plain.{CExpr, Number, Str, Null, Var, Unary, Step, Binary, Assign, Cond, Comma, Cast, SizeTy, SizeOf, Index, Call, Member, Arrow, exprs, CTy, Void, Int, Unsigned, Char, UChar, Struct, Pointer, Array, ArrayOf, Func, tys, CValue, One, Many, values, CDecl, CStmt, Block, Local, Do_expr, Empty, If, IfElse, While, Do, For, Return, Break, Continue, Switch, stmts, Label, Item, parts, CItem, StructItem, Object, Function, CUnit}
use Rattle.c_syntax.specs.declared.tree.UnOp.{UnOp}
use Rattle.c_syntax.specs.declared.tree.BinOp.{BinOp}
use Rattle.c_syntax.specs.declared.tree.UnOp.TheVariants as unary
use Rattle.c_syntax.specs.declared.tree.StepOp.TheVariants as step
use Rattle.c_syntax.specs.declared.tree.BinOp.TheVariants as binary
use Rattle.c_types.specs.Limits.{answer_to}
use Rattle.c_eval.specs.State.{ZeroDivisor, OutsideObject, OtherKind, UnsetCell, LiteralWrite, PointerArithmetic, PointerOrder, PointerEquality, ShiftCount, NoResult, ChargeLimit, NullCall}
use Rattle.c_eval.specs.Run.{unless, choose, exit, spend, spend_spare, paid, stop, put, put_all, next_byte, objects_now, with_objects, recharged, charged_by, charged, after, ◌>>=◌, give, undefined}
use Rattle.c_eval.specs.Memory.{read_cell, load, put_cell, write_cell, store, enter, leave, within, moved, member_at, equal_pointers, pointer_before, pointer_difference}
use Rattle.c_eval.specs.Operators.{used, of_word, word_act, word_result, on_words, pointer_sum, pointer_less, sum, difference, equality, order, operated, combined, on_word, pointer_to, value_at, pointed_value, assigned, updated}
use Rattle.c_eval.specs.BuiltIns.{put_string, put_string_at, convert, with_argument, put_format, printf, with_one, built_in}
use Rattle.c_eval.specs.Eval.{place_named, value_named, unary_value, unary_place, stepped, assignment, cast_value, element, call_through, call, used_value, condition, clear, spell, first_value, go_on, turned, loop, do_loop, maybe_condition, maybe_effect, returned}
use Rattle.c_eval.specs.Text.{text_of}
use Rattle.c_eval.specs.Meaning.{result_of, runs, charged_run, call_by, calls_to, run_of, eval, meaning_of, opening, own_rules, End, Ended, Going, Undefined, Meaning}
use Rattle.c_code.specs.Machine.{with_top, with_two, unwind, left_block, broken_off, continued, pointer_in, slot_pointer, begun, called, called_through, returned_to, step_at_place, step_of, step_at, digit_put, letter_put, drive, program_of, run_code, shown}

-- ---- trees

abbrev pub num : ℕ → CExpr
num n = Number 0 n false

abbrev pub var : List ℕ → CExpr
var name = Var 0 name

abbrev pub one : UnOp → CExpr → CExpr
one op a = Unary 0 op a

abbrev pub two : BinOp → CExpr → CExpr → CExpr
two op a b = Binary 0 op a b

abbrev pub assign : CExpr → CExpr → CExpr
assign a b = Assign 0 None a b

abbrev pub invoke : CExpr → List CExpr → CExpr
invoke f es = Call 0 f (exprs es)

abbrev pub decl : List ℕ → CTy → Option CValue → CDecl
decl name t first = record { name = name; pos = 0; ty = t; first = first }

abbrev pub block : List CStmt → CStmt
block ss = Block (stmts ss)

abbrev pub structure : List ℕ → List CDecl → CItem
structure name members = StructItem (record { name = name; pos = 0; members = members })

abbrev pub function : List ℕ → CTy → List CDecl → CStmt → CItem
function name t params body = Function name 0 t params (Some body)

abbrev pub unit : List CItem → CUnit
unit items = record { items = items; end = 0 }

-- ---- runs

-- a program with its input and its fuel
record Program : Type 0 where
  tree : CUnit
  input : List ℕ
  fuel : ℕ

abbrev with_input : List ℕ → ℕ → CUnit → Program
with_input input fuel u = record { tree = u; input = input; fuel = fuel }

abbrev plain : CUnit → Program
plain u = with_input [] 40 u

-- what the run of a text shows that is typed and within the limits
abbrev pub of_typed : Bool → Option Meaning → Option Meaning
of_typed true m = m
of_typed false m = None

abbrev ran : Program → Option Meaning
ran p = of_typed (is_ok (answer_to p.tree)) (shown (run_code (program_of (own_rules p.tree) (text_of p.tree) p.input) 4000 (opening (text_of p.tree) p.fuel)))

abbrev pub does : End → List ℕ → ℕ → Option Meaning
does end output taken = Some (record { end = end; output = output; taken = taken })

abbrev writes : List ℕ → Option Meaning
writes output = does Ended output 0

-- int arithmetic wraps modulo 2^24
--     "-8388608 8388607 0"    int main(void){printf("%d %d %d",8388607+1,-8388607-2,4096*4096);}
--     "-8388608"    int main(void){int a=8388607; a++; printf("%d",a);}
--     "16777215 ffffff"    int main(void){unsigned u=0; u--; printf("%u %x",u,u);}
--     "-8388608 -1 0"    int main(void){printf("%d %d %d",-(-8388607-1),~0,!5);}
--     "300"    int main(void){char c=300; printf("%d",c);}
wrapping_row :
    map ran (
    plain (unit (function (codes "main") Int ([]) (block ((Do_expr (invoke (var (codes "printf")) ((Str 0 (codes "%d %d %d")) ∷ (two binary.Add (num 8388607) (num 1)) ∷ (two binary.Sub (one unary.Minus (num 8388607)) (num 2)) ∷ (two binary.Mul (num 4096) (num 4096)) ∷ []))) ∷ [])) ∷ []))
    ∷ plain (unit (function (codes "main") Int ([]) (block ((Local (decl (codes "a") Int (Some (One (num 8388607))))) ∷ (Do_expr (Step 0 step.PostInc (var (codes "a")))) ∷ (Do_expr (invoke (var (codes "printf")) ((Str 0 (codes "%d")) ∷ (var (codes "a")) ∷ []))) ∷ [])) ∷ []))
    ∷ plain (unit (function (codes "main") Int ([]) (block ((Local (decl (codes "u") Unsigned (Some (One (num 0))))) ∷ (Do_expr (Step 0 step.PostDec (var (codes "u")))) ∷ (Do_expr (invoke (var (codes "printf")) ((Str 0 (codes "%u %x")) ∷ (var (codes "u")) ∷ (var (codes "u")) ∷ []))) ∷ [])) ∷ []))
    ∷ plain (unit (function (codes "main") Int ([]) (block ((Do_expr (invoke (var (codes "printf")) ((Str 0 (codes "%d %d %d")) ∷ (one unary.Minus (two binary.Sub (one unary.Minus (num 8388607)) (num 1))) ∷ (one unary.Invert (num 0)) ∷ (one unary.Not (num 5)) ∷ []))) ∷ [])) ∷ []))
    ∷ plain (unit (function (codes "main") Int ([]) (block ((Local (decl (codes "c") Char (Some (One (num 300))))) ∷ (Do_expr (invoke (var (codes "printf")) ((Str 0 (codes "%d")) ∷ (var (codes "c")) ∷ []))) ∷ [])) ∷ []))
    ∷ [])
    ≡ (writes (codes "-8388608 8388607 0")
    ∷ writes (codes "-8388608")
    ∷ writes (codes "16777215 ffffff")
    ∷ writes (codes "-8388608 -1 0")
    ∷ writes (codes "300") ∷ [])
unfolding unless choose exit spend spend_spare paid stop put put_all next_byte objects_now with_objects recharged charged_by charged after ◌>>=◌ give undefined read_cell load put_cell write_cell store enter leave within moved member_at equal_pointers pointer_before pointer_difference used of_word word_act word_result on_words pointer_sum pointer_less sum difference equality order operated combined on_word pointer_to value_at pointed_value assigned updated put_string put_string_at convert with_argument put_format printf with_one built_in digits place_named value_named unary_value unary_place stepped assignment cast_value element call_through call used_value condition clear spell first_value go_on turned loop do_loop maybe_condition maybe_effect returned result_of runs charged_run call_by calls_to run_of eval meaning_of with_top with_two unwind left_block broken_off continued pointer_in slot_pointer begun called called_through returned_to step_at_place step_of step_at drive run_code digit_put letter_put
wrapping_row = refl

-- a declaration that stands alone has the number of its block's next object: it is outside of each object where there is none
--     act 2    int main(void){if(1) int x=3;}
--     "A"    int main(void){if(1) int x=3; int y; putchar(y+62);}
--     "A"    int main(void){for(int x=65;0;) ; int y; putchar(y);}, without a block round the head
alone_row :
    map ran (
    plain (unit (function (codes "main") Int ([]) (block ((If (num 1) (Local (decl (codes "x") Int (Some (One (num 3)))))) ∷ [])) ∷ []))
    ∷ plain (unit (function (codes "main") Int ([]) (block ((If (num 1) (Local (decl (codes "x") Int (Some (One (num 3)))))) ∷ (Local (decl (codes "y") Int None)) ∷ (Do_expr (invoke (var (codes "putchar")) ((two binary.Add (var (codes "y")) (num 62)) ∷ []))) ∷ [])) ∷ []))
    ∷ plain (unit (function (codes "main") Int ([]) (block ((For (Local (decl (codes "x") Int (Some (One (num 65))))) (Some (num 0)) None Empty) ∷ (Local (decl (codes "y") Int None)) ∷ (Do_expr (invoke (var (codes "putchar")) ((var (codes "y")) ∷ []))) ∷ [])) ∷ []))
    ∷ [])
    ≡ (does (Undefined OutsideObject) [] 0
    ∷ writes (codes "A")
    ∷ writes (codes "A") ∷ [])
unfolding unless choose exit spend spend_spare paid stop put put_all next_byte objects_now with_objects recharged charged_by charged after ◌>>=◌ give undefined read_cell load put_cell write_cell store enter leave within moved member_at equal_pointers pointer_before pointer_difference used of_word word_act word_result on_words pointer_sum pointer_less sum difference equality order operated combined on_word pointer_to value_at pointed_value assigned updated put_string put_string_at convert with_argument put_format printf with_one built_in digits place_named value_named unary_value unary_place stepped assignment cast_value element call_through call used_value condition clear spell first_value go_on turned loop do_loop maybe_condition maybe_effect returned result_of runs charged_run call_by calls_to run_of eval meaning_of with_top with_two unwind left_block broken_off continued pointer_in slot_pointer begun called called_through returned_to step_at_place step_of step_at drive run_code digit_put letter_put
alone_row = refl

-- division truncates toward zero, and what is left has the sign of the dividend; what is unsigned counts so
--     "-3 -1 -3 1"    int main(void){printf("%d %d %d %d",-7/2,-7%2,7/-2,7%-2);}
--     "-8388608 0"    int main(void){printf("%d %d",(-8388607-1)/-1,(-8388607-1)%-1);}
--     "8388607 5"    int main(void){printf("%u %u",-1/2u,-1%10u);}
--     "9"    int main(void){int a=17; a/=5; a%=2; a*=9; printf("%d",a);}
division_row :
    map ran (
    plain (unit (function (codes "main") Int ([]) (block ((Do_expr (invoke (var (codes "printf")) ((Str 0 (codes "%d %d %d %d")) ∷ (two binary.Div (one unary.Minus (num 7)) (num 2)) ∷ (two binary.Mod (one unary.Minus (num 7)) (num 2)) ∷ (two binary.Div (num 7) (one unary.Minus (num 2))) ∷ (two binary.Mod (num 7) (one unary.Minus (num 2))) ∷ []))) ∷ [])) ∷ []))
    ∷ plain (unit (function (codes "main") Int ([]) (block ((Do_expr (invoke (var (codes "printf")) ((Str 0 (codes "%d %d")) ∷ (two binary.Div (two binary.Sub (one unary.Minus (num 8388607)) (num 1)) (one unary.Minus (num 1))) ∷ (two binary.Mod (two binary.Sub (one unary.Minus (num 8388607)) (num 1)) (one unary.Minus (num 1))) ∷ []))) ∷ [])) ∷ []))
    ∷ plain (unit (function (codes "main") Int ([]) (block ((Do_expr (invoke (var (codes "printf")) ((Str 0 (codes "%u %u")) ∷ (two binary.Div (one unary.Minus (num 1)) (Number 0 2 true)) ∷ (two binary.Mod (one unary.Minus (num 1)) (Number 0 10 true)) ∷ []))) ∷ [])) ∷ []))
    ∷ plain (unit (function (codes "main") Int ([]) (block ((Local (decl (codes "a") Int (Some (One (num 17))))) ∷ (Do_expr (Assign 0 (Some binary.Div) (var (codes "a")) (num 5))) ∷ (Do_expr (Assign 0 (Some binary.Mod) (var (codes "a")) (num 2))) ∷ (Do_expr (Assign 0 (Some binary.Mul) (var (codes "a")) (num 9))) ∷ (Do_expr (invoke (var (codes "printf")) ((Str 0 (codes "%d")) ∷ (var (codes "a")) ∷ []))) ∷ [])) ∷ []))
    ∷ [])
    ≡ (writes (codes "-3 -1 -3 1")
    ∷ writes (codes "-8388608 0")
    ∷ writes (codes "8388607 5")
    ∷ writes (codes "9") ∷ [])
unfolding unless choose exit spend spend_spare paid stop put put_all next_byte objects_now with_objects recharged charged_by charged after ◌>>=◌ give undefined read_cell load put_cell write_cell store enter leave within moved member_at equal_pointers pointer_before pointer_difference used of_word word_act word_result on_words pointer_sum pointer_less sum difference equality order operated combined on_word pointer_to value_at pointed_value assigned updated put_string put_string_at convert with_argument put_format printf with_one built_in digits place_named value_named unary_value unary_place stepped assignment cast_value element call_through call used_value condition clear spell first_value go_on turned loop do_loop maybe_condition maybe_effect returned result_of runs charged_run call_by calls_to run_of eval meaning_of with_top with_two unwind left_block broken_off continued pointer_in slot_pointer begun called called_through returned_to step_at_place step_of step_at drive run_code digit_put letter_put
division_row = refl

-- the shift to the right of a negative int is arithmetic; a shift has the type of its left operand
--     "-4 -1 8388604"    int main(void){printf("%d %d %u",-8>>1,-1>>23,16777208u>>1);}
--     "-8388608 -8388608"    int main(void){printf("%d %d",1<<23,3<<23);}
--     "-4"    int main(void){printf("%d",-8>>1u);}
shifts_row :
    map ran (
    plain (unit (function (codes "main") Int ([]) (block ((Do_expr (invoke (var (codes "printf")) ((Str 0 (codes "%d %d %u")) ∷ (two binary.Shr (one unary.Minus (num 8)) (num 1)) ∷ (two binary.Shr (one unary.Minus (num 1)) (num 23)) ∷ (two binary.Shr (Number 0 16777208 true) (num 1)) ∷ []))) ∷ [])) ∷ []))
    ∷ plain (unit (function (codes "main") Int ([]) (block ((Do_expr (invoke (var (codes "printf")) ((Str 0 (codes "%d %d")) ∷ (two binary.Shl (num 1) (num 23)) ∷ (two binary.Shl (num 3) (num 23)) ∷ []))) ∷ [])) ∷ []))
    ∷ plain (unit (function (codes "main") Int ([]) (block ((Do_expr (invoke (var (codes "printf")) ((Str 0 (codes "%d")) ∷ (two binary.Shr (one unary.Minus (num 8)) (Number 0 1 true)) ∷ []))) ∷ [])) ∷ []))
    ∷ [])
    ≡ (writes (codes "-4 -1 8388604")
    ∷ writes (codes "-8388608 -8388608")
    ∷ writes (codes "-4") ∷ [])
unfolding unless choose exit spend spend_spare paid stop put put_all next_byte objects_now with_objects recharged charged_by charged after ◌>>=◌ give undefined read_cell load put_cell write_cell store enter leave within moved member_at equal_pointers pointer_before pointer_difference used of_word word_act word_result on_words pointer_sum pointer_less sum difference equality order operated combined on_word pointer_to value_at pointed_value assigned updated put_string put_string_at convert with_argument put_format printf with_one built_in digits place_named value_named unary_value unary_place stepped assignment cast_value element call_through call used_value condition clear spell first_value go_on turned loop do_loop maybe_condition maybe_effect returned result_of runs charged_run call_by calls_to run_of eval meaning_of with_top with_two unwind left_block broken_off continued pointer_in slot_pointer begun called called_through returned_to step_at_place step_of step_at drive run_code digit_put letter_put
shifts_row = refl

-- char and int are signed; with one unsigned operand both count as unsigned
--     "1011"    int main(void){printf("%d%d%d%d",-1<0,-1<0u,-1>1u,1<=1);}
--     "10"    int main(void){char c=-1; unsigned char d=-1; printf("%d%d",c<0,d<0);}
--     "1001"    int main(void){printf("%d%d%d%d",2==2,2!=2,3>=4,5&&0||7);}
--     "8 14 6"    int main(void){printf("%d %d %d",12&10,12|10,12^10);}
comparison_row :
    map ran (
    plain (unit (function (codes "main") Int ([]) (block ((Do_expr (invoke (var (codes "printf")) ((Str 0 (codes "%d%d%d%d")) ∷ (two binary.Lt (one unary.Minus (num 1)) (num 0)) ∷ (two binary.Lt (one unary.Minus (num 1)) (Number 0 0 true)) ∷ (two binary.Gt (one unary.Minus (num 1)) (Number 0 1 true)) ∷ (two binary.Le (num 1) (num 1)) ∷ []))) ∷ [])) ∷ []))
    ∷ plain (unit (function (codes "main") Int ([]) (block ((Local (decl (codes "c") Char (Some (One (one unary.Minus (num 1)))))) ∷ (Local (decl (codes "d") UChar (Some (One (one unary.Minus (num 1)))))) ∷ (Do_expr (invoke (var (codes "printf")) ((Str 0 (codes "%d%d")) ∷ (two binary.Lt (var (codes "c")) (num 0)) ∷ (two binary.Lt (var (codes "d")) (num 0)) ∷ []))) ∷ [])) ∷ []))
    ∷ plain (unit (function (codes "main") Int ([]) (block ((Do_expr (invoke (var (codes "printf")) ((Str 0 (codes "%d%d%d%d")) ∷ (two binary.Eq (num 2) (num 2)) ∷ (two binary.Ne (num 2) (num 2)) ∷ (two binary.Ge (num 3) (num 4)) ∷ (two binary.Or (two binary.And (num 5) (num 0)) (num 7)) ∷ []))) ∷ [])) ∷ []))
    ∷ plain (unit (function (codes "main") Int ([]) (block ((Do_expr (invoke (var (codes "printf")) ((Str 0 (codes "%d %d %d")) ∷ (two binary.BitAnd (num 12) (num 10)) ∷ (two binary.BitOr (num 12) (num 10)) ∷ (two binary.BitXor (num 12) (num 10)) ∷ []))) ∷ [])) ∷ []))
    ∷ [])
    ≡ (writes (codes "1011")
    ∷ writes (codes "10")
    ∷ writes (codes "1001")
    ∷ writes (codes "8 14 6") ∷ [])
unfolding unless choose exit spend spend_spare paid stop put put_all next_byte objects_now with_objects recharged charged_by charged after ◌>>=◌ give undefined read_cell load put_cell write_cell store enter leave within moved member_at equal_pointers pointer_before pointer_difference used of_word word_act word_result on_words pointer_sum pointer_less sum difference equality order operated combined on_word pointer_to value_at pointed_value assigned updated put_string put_string_at convert with_argument put_format printf with_one built_in digits place_named value_named unary_value unary_place stepped assignment cast_value element call_through call used_value condition clear spell first_value go_on turned loop do_loop maybe_condition maybe_effect returned result_of runs charged_run call_by calls_to run_of eval meaning_of with_top with_two unwind left_block broken_off continued pointer_in slot_pointer begun called called_through returned_to step_at_place step_of step_at drive run_code digit_put letter_put
comparison_row = refl

-- operands, arguments and both sides of an assignment are evaluated from left to right
--     "abcdef"    int p(int c){putchar(c);return c;} int f(int a,int b,int c){return 0;} int main(void){p(97)+p(98)*p(99); f(p(100),p(101),p(102)); return 0;}
--     "abcd"    int a[2]; int p(int c){putchar(c);return 0;} int main(void){a[p(97)]=p(98); a[p(99)]+=p(100); return 0;}
--     "6 10 4"    int main(void){int a=1; a=a+(a=5); printf("%d ",a); a=1; a+=(a=5); printf("%d ",a); a=1; (a+=1,a=a*a); printf("%d",a);}
--     "120 2"    int main(void){int i=0; int a[3]={0,0,0}; a[i++]=i; a[i++]=i; printf("%d%d%d %d",a[0],a[1],a[2],i);}
--     "57755"    int main(void){int i=5; printf("%d%d%d%d%d",i++,++i,i--,--i,i);}
order_row :
    map ran (
    plain (unit (function (codes "p") Int ((decl (codes "c") Int None) ∷ []) (block ((Do_expr (invoke (var (codes "putchar")) ((var (codes "c")) ∷ []))) ∷ (Return 0 (Some (var (codes "c")))) ∷ [])) ∷ function (codes "f") Int ((decl (codes "a") Int None) ∷ (decl (codes "b") Int None) ∷ (decl (codes "c") Int None) ∷ []) (block ((Return 0 (Some (num 0))) ∷ [])) ∷ function (codes "main") Int ([]) (block ((Do_expr (two binary.Add (invoke (var (codes "p")) ((num 97) ∷ [])) (two binary.Mul (invoke (var (codes "p")) ((num 98) ∷ [])) (invoke (var (codes "p")) ((num 99) ∷ []))))) ∷ (Do_expr (invoke (var (codes "f")) ((invoke (var (codes "p")) ((num 100) ∷ [])) ∷ (invoke (var (codes "p")) ((num 101) ∷ [])) ∷ (invoke (var (codes "p")) ((num 102) ∷ [])) ∷ []))) ∷ (Return 0 (Some (num 0))) ∷ [])) ∷ []))
    ∷ plain (unit (Object (decl (codes "a") (ArrayOf Int (num 2)) None) ∷ function (codes "p") Int ((decl (codes "c") Int None) ∷ []) (block ((Do_expr (invoke (var (codes "putchar")) ((var (codes "c")) ∷ []))) ∷ (Return 0 (Some (num 0))) ∷ [])) ∷ function (codes "main") Int ([]) (block ((Do_expr (assign (Index 0 (var (codes "a")) (invoke (var (codes "p")) ((num 97) ∷ []))) (invoke (var (codes "p")) ((num 98) ∷ [])))) ∷ (Do_expr (Assign 0 (Some binary.Add) (Index 0 (var (codes "a")) (invoke (var (codes "p")) ((num 99) ∷ []))) (invoke (var (codes "p")) ((num 100) ∷ [])))) ∷ (Return 0 (Some (num 0))) ∷ [])) ∷ []))
    ∷ plain (unit (function (codes "main") Int ([]) (block ((Local (decl (codes "a") Int (Some (One (num 1))))) ∷ (Do_expr (assign (var (codes "a")) (two binary.Add (var (codes "a")) (assign (var (codes "a")) (num 5))))) ∷ (Do_expr (invoke (var (codes "printf")) ((Str 0 (codes "%d ")) ∷ (var (codes "a")) ∷ []))) ∷ (Do_expr (assign (var (codes "a")) (num 1))) ∷ (Do_expr (Assign 0 (Some binary.Add) (var (codes "a")) (assign (var (codes "a")) (num 5)))) ∷ (Do_expr (invoke (var (codes "printf")) ((Str 0 (codes "%d ")) ∷ (var (codes "a")) ∷ []))) ∷ (Do_expr (assign (var (codes "a")) (num 1))) ∷ (Do_expr (Comma 0 (Assign 0 (Some binary.Add) (var (codes "a")) (num 1)) (assign (var (codes "a")) (two binary.Mul (var (codes "a")) (var (codes "a")))))) ∷ (Do_expr (invoke (var (codes "printf")) ((Str 0 (codes "%d")) ∷ (var (codes "a")) ∷ []))) ∷ [])) ∷ []))
    ∷ plain (unit (function (codes "main") Int ([]) (block ((Local (decl (codes "i") Int (Some (One (num 0))))) ∷ (Local (decl (codes "a") (ArrayOf Int (num 3)) (Some (Many (values ((One (num 0)) ∷ (One (num 0)) ∷ (One (num 0)) ∷ [])))))) ∷ (Do_expr (assign (Index 0 (var (codes "a")) (Step 0 step.PostInc (var (codes "i")))) (var (codes "i")))) ∷ (Do_expr (assign (Index 0 (var (codes "a")) (Step 0 step.PostInc (var (codes "i")))) (var (codes "i")))) ∷ (Do_expr (invoke (var (codes "printf")) ((Str 0 (codes "%d%d%d %d")) ∷ (Index 0 (var (codes "a")) (num 0)) ∷ (Index 0 (var (codes "a")) (num 1)) ∷ (Index 0 (var (codes "a")) (num 2)) ∷ (var (codes "i")) ∷ []))) ∷ [])) ∷ []))
    ∷ plain (unit (function (codes "main") Int ([]) (block ((Local (decl (codes "i") Int (Some (One (num 5))))) ∷ (Do_expr (invoke (var (codes "printf")) ((Str 0 (codes "%d%d%d%d%d")) ∷ (Step 0 step.PostInc (var (codes "i"))) ∷ (Step 0 step.PreInc (var (codes "i"))) ∷ (Step 0 step.PostDec (var (codes "i"))) ∷ (Step 0 step.PreDec (var (codes "i"))) ∷ (var (codes "i")) ∷ []))) ∷ [])) ∷ []))
    ∷ [])
    ≡ (writes (codes "abcdef")
    ∷ writes (codes "abcd")
    ∷ writes (codes "6 10 4")
    ∷ writes (codes "120 2")
    ∷ writes (codes "57755") ∷ [])
unfolding unless choose exit spend spend_spare paid stop put put_all next_byte objects_now with_objects recharged charged_by charged after ◌>>=◌ give undefined read_cell load put_cell write_cell store enter leave within moved member_at equal_pointers pointer_before pointer_difference used of_word word_act word_result on_words pointer_sum pointer_less sum difference equality order operated combined on_word pointer_to value_at pointed_value assigned updated put_string put_string_at convert with_argument put_format printf with_one built_in digits place_named value_named unary_value unary_place stepped assignment cast_value element call_through call used_value condition clear spell first_value go_on turned loop do_loop maybe_condition maybe_effect returned result_of runs charged_run call_by calls_to run_of eval meaning_of with_top with_two unwind left_block broken_off continued pointer_in slot_pointer begun called called_through returned_to step_at_place step_of step_at drive run_code digit_put letter_put
order_row = refl

-- `&&`, `||` and `?:` evaluate what they choose; a pointer is true where it is not null
--     "acaebfgh"    int p(int c){putchar(c);return c-97;} int main(void){p(97)&&p(98); p(99)||p(100); p(97)||p(101); p(98)&&p(102); p(103)?p(104):p(105); return 0;}
--     "abefg"    int main(void){int x=3; int *p=&x; int *q=NULL; if(p)putchar(97); if(!q)putchar(98); while(q)putchar(99); putchar(q?100:101); q=1?p:0; putchar(*q+99); q=0?p:0; if(q==NULL&&q==0)putchar(103);}
selection_row :
    map ran (
    plain (unit (function (codes "p") Int ((decl (codes "c") Int None) ∷ []) (block ((Do_expr (invoke (var (codes "putchar")) ((var (codes "c")) ∷ []))) ∷ (Return 0 (Some (two binary.Sub (var (codes "c")) (num 97)))) ∷ [])) ∷ function (codes "main") Int ([]) (block ((Do_expr (two binary.And (invoke (var (codes "p")) ((num 97) ∷ [])) (invoke (var (codes "p")) ((num 98) ∷ [])))) ∷ (Do_expr (two binary.Or (invoke (var (codes "p")) ((num 99) ∷ [])) (invoke (var (codes "p")) ((num 100) ∷ [])))) ∷ (Do_expr (two binary.Or (invoke (var (codes "p")) ((num 97) ∷ [])) (invoke (var (codes "p")) ((num 101) ∷ [])))) ∷ (Do_expr (two binary.And (invoke (var (codes "p")) ((num 98) ∷ [])) (invoke (var (codes "p")) ((num 102) ∷ [])))) ∷ (Do_expr (Cond 0 (invoke (var (codes "p")) ((num 103) ∷ [])) (invoke (var (codes "p")) ((num 104) ∷ [])) (invoke (var (codes "p")) ((num 105) ∷ [])))) ∷ (Return 0 (Some (num 0))) ∷ [])) ∷ []))
    ∷ plain (unit (function (codes "main") Int ([]) (block ((Local (decl (codes "x") Int (Some (One (num 3))))) ∷ (Local (decl (codes "p") (Pointer Int) (Some (One (one unary.Address (var (codes "x"))))))) ∷ (Local (decl (codes "q") (Pointer Int) (Some (One (Null 0))))) ∷ (If (var (codes "p")) (Do_expr (invoke (var (codes "putchar")) ((num 97) ∷ [])))) ∷ (If (one unary.Not (var (codes "q"))) (Do_expr (invoke (var (codes "putchar")) ((num 98) ∷ [])))) ∷ (While (var (codes "q")) (Do_expr (invoke (var (codes "putchar")) ((num 99) ∷ [])))) ∷ (Do_expr (invoke (var (codes "putchar")) ((Cond 0 (var (codes "q")) (num 100) (num 101)) ∷ []))) ∷ (Do_expr (assign (var (codes "q")) (Cond 0 (num 1) (var (codes "p")) (num 0)))) ∷ (Do_expr (invoke (var (codes "putchar")) ((two binary.Add (one unary.Deref (var (codes "q"))) (num 99)) ∷ []))) ∷ (Do_expr (assign (var (codes "q")) (Cond 0 (num 0) (var (codes "p")) (num 0)))) ∷ (If (two binary.And (two binary.Eq (var (codes "q")) (Null 0)) (two binary.Eq (var (codes "q")) (num 0))) (Do_expr (invoke (var (codes "putchar")) ((num 103) ∷ [])))) ∷ [])) ∷ []))
    ∷ [])
    ≡ (writes (codes "acaebfgh")
    ∷ writes (codes "abefg") ∷ [])
unfolding unless choose exit spend spend_spare paid stop put put_all next_byte objects_now with_objects recharged charged_by charged after ◌>>=◌ give undefined read_cell load put_cell write_cell store enter leave within moved member_at equal_pointers pointer_before pointer_difference used of_word word_act word_result on_words pointer_sum pointer_less sum difference equality order operated combined on_word pointer_to value_at pointed_value assigned updated put_string put_string_at convert with_argument put_format printf with_one built_in digits place_named value_named unary_value unary_place stepped assignment cast_value element call_through call used_value condition clear spell first_value go_on turned loop do_loop maybe_condition maybe_effect returned result_of runs charged_run call_by calls_to run_of eval meaning_of with_top with_two unwind left_block broken_off continued pointer_in slot_pointer begun called called_through returned_to step_at_place step_of step_at drive run_code digit_put letter_put
selection_row = refl

-- objects at file scope start as 0 or null; a first value in braces goes level by level, and what is missing is 0 or null
--     "00111"    int a; int b[2]; char *p; int (*f)(void); struct s{int x; char *y; int z[2];}; struct s t; int main(void){printf("%d%d%d%d%d",a,b[1],p==NULL,f==NULL,t.y==NULL&&t.z[1]==0); return 0;}
--     "1ab20 310 8 81 hi0 36"    struct s{int x; char *y; int z[2];}; struct s t[2]={{1,"ab",{2}},{3}}; int n=sizeof t; int *p=&n; int *q[2]={&n}; char w[5]="hi"; int b[]={4,5,6}; int main(void){printf("%d%s%d%d %d%d%d %d %d%d %s%d %u%d",t[0].x,t[0].y,t[0].z[0],t[0].z[1],t[1].x,t[1].y==NULL,t[1].z[1],n,*p,q[1]==NULL,w,w[4],sizeof b,b[2]); return 0;}
--     "1023 1 12000"    int main(void){int a[2][2]={{1},{2,3}}; int *p[2]={a[0]}; char c[3]="x"; printf("%d%d%d%d %d %d%d%d",a[0][0],a[0][1],a[1][0],a[1][1],p[1]==NULL,c[0],c[1],c[2]);}
--     "3"    int main(void){int a[3]={1,a[0]+1,a[1]+1}; printf("%d",a[2]);}
--     "71"    int f(void){return 7;} int (*g[2])(void)={f}; int main(void){printf("%d%d",g[0](),g[1]==NULL); return 0;}
objects_row :
    map ran (
    plain (unit (Object (decl (codes "a") Int None) ∷ Object (decl (codes "b") (ArrayOf Int (num 2)) None) ∷ Object (decl (codes "p") (Pointer Char) None) ∷ Object (decl (codes "f") (Pointer (Func Int (tys ([])))) None) ∷ structure (codes "s") ((decl (codes "x") Int None) ∷ (decl (codes "y") (Pointer Char) None) ∷ (decl (codes "z") (ArrayOf Int (num 2)) None) ∷ []) ∷ Object (decl (codes "t") (Struct (codes "s")) None) ∷ function (codes "main") Int ([]) (block ((Do_expr (invoke (var (codes "printf")) ((Str 0 (codes "%d%d%d%d%d")) ∷ (var (codes "a")) ∷ (Index 0 (var (codes "b")) (num 1)) ∷ (two binary.Eq (var (codes "p")) (Null 0)) ∷ (two binary.Eq (var (codes "f")) (Null 0)) ∷ (two binary.And (two binary.Eq (Member 0 (var (codes "t")) (codes "y")) (Null 0)) (two binary.Eq (Index 0 (Member 0 (var (codes "t")) (codes "z")) (num 1)) (num 0))) ∷ []))) ∷ (Return 0 (Some (num 0))) ∷ [])) ∷ []))
    ∷ plain (unit (structure (codes "s") ((decl (codes "x") Int None) ∷ (decl (codes "y") (Pointer Char) None) ∷ (decl (codes "z") (ArrayOf Int (num 2)) None) ∷ []) ∷ Object (decl (codes "t") (ArrayOf (Struct (codes "s")) (num 2)) (Some (Many (values ((Many (values ((One (num 1)) ∷ (One (Str 0 (codes "ab"))) ∷ (Many (values ((One (num 2)) ∷ []))) ∷ []))) ∷ (Many (values ((One (num 3)) ∷ []))) ∷ []))))) ∷ Object (decl (codes "n") Int (Some (One (SizeOf 0 (var (codes "t")))))) ∷ Object (decl (codes "p") (Pointer Int) (Some (One (one unary.Address (var (codes "n")))))) ∷ Object (decl (codes "q") (ArrayOf (Pointer Int) (num 2)) (Some (Many (values ((One (one unary.Address (var (codes "n")))) ∷ []))))) ∷ Object (decl (codes "w") (ArrayOf Char (num 5)) (Some (One (Str 0 (codes "hi"))))) ∷ Object (decl (codes "b") (Array Int) (Some (Many (values ((One (num 4)) ∷ (One (num 5)) ∷ (One (num 6)) ∷ []))))) ∷ function (codes "main") Int ([]) (block ((Do_expr (invoke (var (codes "printf")) ((Str 0 (codes "%d%s%d%d %d%d%d %d %d%d %s%d %u%d")) ∷ (Member 0 (Index 0 (var (codes "t")) (num 0)) (codes "x")) ∷ (Member 0 (Index 0 (var (codes "t")) (num 0)) (codes "y")) ∷ (Index 0 (Member 0 (Index 0 (var (codes "t")) (num 0)) (codes "z")) (num 0)) ∷ (Index 0 (Member 0 (Index 0 (var (codes "t")) (num 0)) (codes "z")) (num 1)) ∷ (Member 0 (Index 0 (var (codes "t")) (num 1)) (codes "x")) ∷ (two binary.Eq (Member 0 (Index 0 (var (codes "t")) (num 1)) (codes "y")) (Null 0)) ∷ (Index 0 (Member 0 (Index 0 (var (codes "t")) (num 1)) (codes "z")) (num 1)) ∷ (var (codes "n")) ∷ (one unary.Deref (var (codes "p"))) ∷ (two binary.Eq (Index 0 (var (codes "q")) (num 1)) (Null 0)) ∷ (var (codes "w")) ∷ (Index 0 (var (codes "w")) (num 4)) ∷ (SizeOf 0 (var (codes "b"))) ∷ (Index 0 (var (codes "b")) (num 2)) ∷ []))) ∷ (Return 0 (Some (num 0))) ∷ [])) ∷ []))
    ∷ plain (unit (function (codes "main") Int ([]) (block ((Local (decl (codes "a") (ArrayOf (ArrayOf Int (num 2)) (num 2)) (Some (Many (values ((Many (values ((One (num 1)) ∷ []))) ∷ (Many (values ((One (num 2)) ∷ (One (num 3)) ∷ []))) ∷ [])))))) ∷ (Local (decl (codes "p") (ArrayOf (Pointer Int) (num 2)) (Some (Many (values ((One (Index 0 (var (codes "a")) (num 0))) ∷ [])))))) ∷ (Local (decl (codes "c") (ArrayOf Char (num 3)) (Some (One (Str 0 (codes "x")))))) ∷ (Do_expr (invoke (var (codes "printf")) ((Str 0 (codes "%d%d%d%d %d %d%d%d")) ∷ (Index 0 (Index 0 (var (codes "a")) (num 0)) (num 0)) ∷ (Index 0 (Index 0 (var (codes "a")) (num 0)) (num 1)) ∷ (Index 0 (Index 0 (var (codes "a")) (num 1)) (num 0)) ∷ (Index 0 (Index 0 (var (codes "a")) (num 1)) (num 1)) ∷ (two binary.Eq (Index 0 (var (codes "p")) (num 1)) (Null 0)) ∷ (Index 0 (var (codes "c")) (num 0)) ∷ (Index 0 (var (codes "c")) (num 1)) ∷ (Index 0 (var (codes "c")) (num 2)) ∷ []))) ∷ [])) ∷ []))
    ∷ plain (unit (function (codes "main") Int ([]) (block ((Local (decl (codes "a") (ArrayOf Int (num 3)) (Some (Many (values ((One (num 1)) ∷ (One (two binary.Add (Index 0 (var (codes "a")) (num 0)) (num 1))) ∷ (One (two binary.Add (Index 0 (var (codes "a")) (num 1)) (num 1))) ∷ [])))))) ∷ (Do_expr (invoke (var (codes "printf")) ((Str 0 (codes "%d")) ∷ (Index 0 (var (codes "a")) (num 2)) ∷ []))) ∷ [])) ∷ []))
    ∷ plain (unit (function (codes "f") Int ([]) (block ((Return 0 (Some (num 7))) ∷ [])) ∷ Object (decl (codes "g") (ArrayOf (Pointer (Func Int (tys ([])))) (num 2)) (Some (Many (values ((One (var (codes "f"))) ∷ []))))) ∷ function (codes "main") Int ([]) (block ((Do_expr (invoke (var (codes "printf")) ((Str 0 (codes "%d%d")) ∷ (invoke (Index 0 (var (codes "g")) (num 0)) ([])) ∷ (two binary.Eq (Index 0 (var (codes "g")) (num 1)) (Null 0)) ∷ []))) ∷ (Return 0 (Some (num 0))) ∷ [])) ∷ []))
    ∷ [])
    ≡ (writes (codes "00111")
    ∷ writes (codes "1ab20 310 8 81 hi0 36")
    ∷ writes (codes "1023 1 12000")
    ∷ writes (codes "3")
    ∷ writes (codes "71") ∷ [])
unfolding unless choose exit spend spend_spare paid stop put put_all next_byte objects_now with_objects recharged charged_by charged after ◌>>=◌ give undefined read_cell load put_cell write_cell store enter leave within moved member_at equal_pointers pointer_before pointer_difference used of_word word_act word_result on_words pointer_sum pointer_less sum difference equality order operated combined on_word pointer_to value_at pointed_value assigned updated put_string put_string_at convert with_argument put_format printf with_one built_in digits place_named value_named unary_value unary_place stepped assignment cast_value element call_through call used_value condition clear spell first_value go_on turned loop do_loop maybe_condition maybe_effect returned result_of runs charged_run call_by calls_to run_of eval meaning_of with_top with_two unwind left_block broken_off continued pointer_in slot_pointer begun called called_through returned_to step_at_place step_of step_at drive run_code digit_put letter_put
objects_row = refl

-- a struct has its members one behind the other
--     "56754"    struct p{int x; int y;}; struct q{struct p a[2]; int z;}; struct q v; int main(void){struct q *r=&v; struct p *s=r->a; s[1].y=5; (*r).z=6; r->a[0].x=7; printf("%d%d%d%u%u",v.a[1].y,v.z,v.a[0].x,sizeof(struct q),sizeof v.a); return 0;}
members_row :
    map ran (
    plain (unit (structure (codes "p") ((decl (codes "x") Int None) ∷ (decl (codes "y") Int None) ∷ []) ∷ structure (codes "q") ((decl (codes "a") (ArrayOf (Struct (codes "p")) (num 2)) None) ∷ (decl (codes "z") Int None) ∷ []) ∷ Object (decl (codes "v") (Struct (codes "q")) None) ∷ function (codes "main") Int ([]) (block ((Local (decl (codes "r") (Pointer (Struct (codes "q"))) (Some (One (one unary.Address (var (codes "v"))))))) ∷ (Local (decl (codes "s") (Pointer (Struct (codes "p"))) (Some (One (Arrow 0 (var (codes "r")) (codes "a")))))) ∷ (Do_expr (assign (Member 0 (Index 0 (var (codes "s")) (num 1)) (codes "y")) (num 5))) ∷ (Do_expr (assign (Member 0 (one unary.Deref (var (codes "r"))) (codes "z")) (num 6))) ∷ (Do_expr (assign (Member 0 (Index 0 (Arrow 0 (var (codes "r")) (codes "a")) (num 0)) (codes "x")) (num 7))) ∷ (Do_expr (invoke (var (codes "printf")) ((Str 0 (codes "%d%d%d%u%u")) ∷ (Member 0 (Index 0 (Member 0 (var (codes "v")) (codes "a")) (num 1)) (codes "y")) ∷ (Member 0 (var (codes "v")) (codes "z")) ∷ (Member 0 (Index 0 (Member 0 (var (codes "v")) (codes "a")) (num 0)) (codes "x")) ∷ (SizeTy 0 (Struct (codes "q"))) ∷ (SizeOf 0 (Member 0 (var (codes "v")) (codes "a"))) ∷ []))) ∷ (Return 0 (Some (num 0))) ∷ [])) ∷ []))
    ∷ [])
    ≡ (writes (codes "56754") ∷ [])
unfolding unless choose exit spend spend_spare paid stop put put_all next_byte objects_now with_objects recharged charged_by charged after ◌>>=◌ give undefined read_cell load put_cell write_cell store enter leave within moved member_at equal_pointers pointer_before pointer_difference used of_word word_act word_result on_words pointer_sum pointer_less sum difference equality order operated combined on_word pointer_to value_at pointed_value assigned updated put_string put_string_at convert with_argument put_format printf with_one built_in digits place_named value_named unary_value unary_place stepped assignment cast_value element call_through call used_value condition clear spell first_value go_on turned loop do_loop maybe_condition maybe_effect returned result_of runs charged_run call_by calls_to run_of eval meaning_of with_top with_two unwind left_block broken_off continued pointer_in slot_pointer begun called called_through returned_to step_at_place step_of step_at drive run_code digit_put letter_put
members_row = refl

-- pointers move by elements within their object and its end
--     "413414"    int main(void){int a[4]={1,2,3,4}; int *p=a; p++; p+=2; printf("%d%d%d",*p,p[-3],*(p-1)); p=&a[4]; printf("%d%d%d",p-a,a<p,p[-1]);}
--     "513"    int main(void){int a[2][3]; int i; for(i=0;i<6;i++)a[0][i]=i; printf("%d%d%d",a[1][2],&a[1]-&a[0],&a[1][0]-&a[0][0]);}
--     "0111"    int main(void){int a; int b; int *p=&a; int *q=&b; void *v=p; printf("%d%d%d%d",p==q,p!=q,p==v,p==&a);}
--     "01b"    int main(void){char *p="ab"; char *q="ab"; printf("%d%d%s",p==q,p==p,p+1);}
--     "0"    int main(void){int a[1]; int b[1]; printf("%d",a+1==b+1);}
--     "10110"    int main(void){int *p=NULL; printf("%d%d%d%d%d",NULL==0,0!=NULL,NULL==NULL,0==p,p!=0);}
pointers_row :
    map ran (
    plain (unit (function (codes "main") Int ([]) (block ((Local (decl (codes "a") (ArrayOf Int (num 4)) (Some (Many (values ((One (num 1)) ∷ (One (num 2)) ∷ (One (num 3)) ∷ (One (num 4)) ∷ [])))))) ∷ (Local (decl (codes "p") (Pointer Int) (Some (One (var (codes "a")))))) ∷ (Do_expr (Step 0 step.PostInc (var (codes "p")))) ∷ (Do_expr (Assign 0 (Some binary.Add) (var (codes "p")) (num 2))) ∷ (Do_expr (invoke (var (codes "printf")) ((Str 0 (codes "%d%d%d")) ∷ (one unary.Deref (var (codes "p"))) ∷ (Index 0 (var (codes "p")) (one unary.Minus (num 3))) ∷ (one unary.Deref (two binary.Sub (var (codes "p")) (num 1))) ∷ []))) ∷ (Do_expr (assign (var (codes "p")) (one unary.Address (Index 0 (var (codes "a")) (num 4))))) ∷ (Do_expr (invoke (var (codes "printf")) ((Str 0 (codes "%d%d%d")) ∷ (two binary.Sub (var (codes "p")) (var (codes "a"))) ∷ (two binary.Lt (var (codes "a")) (var (codes "p"))) ∷ (Index 0 (var (codes "p")) (one unary.Minus (num 1))) ∷ []))) ∷ [])) ∷ []))
    ∷ plain (unit (function (codes "main") Int ([]) (block ((Local (decl (codes "a") (ArrayOf (ArrayOf Int (num 3)) (num 2)) None)) ∷ (Local (decl (codes "i") Int None)) ∷ (For (Do_expr (assign (var (codes "i")) (num 0))) (Some (two binary.Lt (var (codes "i")) (num 6))) (Some (Step 0 step.PostInc (var (codes "i")))) (Do_expr (assign (Index 0 (Index 0 (var (codes "a")) (num 0)) (var (codes "i"))) (var (codes "i"))))) ∷ (Do_expr (invoke (var (codes "printf")) ((Str 0 (codes "%d%d%d")) ∷ (Index 0 (Index 0 (var (codes "a")) (num 1)) (num 2)) ∷ (two binary.Sub (one unary.Address (Index 0 (var (codes "a")) (num 1))) (one unary.Address (Index 0 (var (codes "a")) (num 0)))) ∷ (two binary.Sub (one unary.Address (Index 0 (Index 0 (var (codes "a")) (num 1)) (num 0))) (one unary.Address (Index 0 (Index 0 (var (codes "a")) (num 0)) (num 0)))) ∷ []))) ∷ [])) ∷ []))
    ∷ plain (unit (function (codes "main") Int ([]) (block ((Local (decl (codes "a") Int None)) ∷ (Local (decl (codes "b") Int None)) ∷ (Local (decl (codes "p") (Pointer Int) (Some (One (one unary.Address (var (codes "a"))))))) ∷ (Local (decl (codes "q") (Pointer Int) (Some (One (one unary.Address (var (codes "b"))))))) ∷ (Local (decl (codes "v") (Pointer Void) (Some (One (var (codes "p")))))) ∷ (Do_expr (invoke (var (codes "printf")) ((Str 0 (codes "%d%d%d%d")) ∷ (two binary.Eq (var (codes "p")) (var (codes "q"))) ∷ (two binary.Ne (var (codes "p")) (var (codes "q"))) ∷ (two binary.Eq (var (codes "p")) (var (codes "v"))) ∷ (two binary.Eq (var (codes "p")) (one unary.Address (var (codes "a")))) ∷ []))) ∷ [])) ∷ []))
    ∷ plain (unit (function (codes "main") Int ([]) (block ((Local (decl (codes "p") (Pointer Char) (Some (One (Str 0 (codes "ab")))))) ∷ (Local (decl (codes "q") (Pointer Char) (Some (One (Str 0 (codes "ab")))))) ∷ (Do_expr (invoke (var (codes "printf")) ((Str 0 (codes "%d%d%s")) ∷ (two binary.Eq (var (codes "p")) (var (codes "q"))) ∷ (two binary.Eq (var (codes "p")) (var (codes "p"))) ∷ (two binary.Add (var (codes "p")) (num 1)) ∷ []))) ∷ [])) ∷ []))
    ∷ plain (unit (function (codes "main") Int ([]) (block ((Local (decl (codes "a") (ArrayOf Int (num 1)) None)) ∷ (Local (decl (codes "b") (ArrayOf Int (num 1)) None)) ∷ (Do_expr (invoke (var (codes "printf")) ((Str 0 (codes "%d")) ∷ (two binary.Eq (two binary.Add (var (codes "a")) (num 1)) (two binary.Add (var (codes "b")) (num 1))) ∷ []))) ∷ [])) ∷ []))
    ∷ plain (unit (function (codes "main") Int ([]) (block ((Local (decl (codes "p") (Pointer Int) (Some (One (Null 0))))) ∷ (Do_expr (invoke (var (codes "printf")) ((Str 0 (codes "%d%d%d%d%d")) ∷ (two binary.Eq (Null 0) (num 0)) ∷ (two binary.Ne (num 0) (Null 0)) ∷ (two binary.Eq (Null 0) (Null 0)) ∷ (two binary.Eq (num 0) (var (codes "p"))) ∷ (two binary.Ne (var (codes "p")) (num 0)) ∷ []))) ∷ [])) ∷ []))
    ∷ [])
    ≡ (writes (codes "413414")
    ∷ writes (codes "513")
    ∷ writes (codes "0111")
    ∷ writes (codes "01b")
    ∷ writes (codes "0")
    ∷ writes (codes "10110") ∷ [])
unfolding unless choose exit spend spend_spare paid stop put put_all next_byte objects_now with_objects recharged charged_by charged after ◌>>=◌ give undefined read_cell load put_cell write_cell store enter leave within moved member_at equal_pointers pointer_before pointer_difference used of_word word_act word_result on_words pointer_sum pointer_less sum difference equality order operated combined on_word pointer_to value_at pointed_value assigned updated put_string put_string_at convert with_argument put_format printf with_one built_in digits place_named value_named unary_value unary_place stepped assignment cast_value element call_through call used_value condition clear spell first_value go_on turned loop do_loop maybe_condition maybe_effect returned result_of runs charged_run call_by calls_to run_of eval meaning_of with_top with_two unwind left_block broken_off continued pointer_in slot_pointer begun called called_through returned_to step_at_place step_of step_at drive run_code digit_put letter_put
pointers_row = refl

-- a local lives from its block's entry to its end
--     "3"    int f(int n){int x=n; if(n)f(n-1); return x;} int main(void){printf("%d",f(3)); return 0;}
--     "baca"    int main(void){int x=1; {int x=2; putchar(96+x);} putchar(96+x); for(int x=3;x<4;x++)putchar(96+x); putchar(96+x);}
--     "a"    int main(void){int *p; int i; for(i=0;i<2;i++){int y; if(i==0){y=5;p=&y;} else putchar(97);}}
--     "" OutsideObject    int main(void){int *p; int i; for(i=0;i<2;i++){int y; if(i==0)p=&y; else *p=1;}}
blocks_row :
    map ran (
    plain (unit (function (codes "f") Int ((decl (codes "n") Int None) ∷ []) (block ((Local (decl (codes "x") Int (Some (One (var (codes "n")))))) ∷ (If (var (codes "n")) (Do_expr (invoke (var (codes "f")) ((two binary.Sub (var (codes "n")) (num 1)) ∷ [])))) ∷ (Return 0 (Some (var (codes "x")))) ∷ [])) ∷ function (codes "main") Int ([]) (block ((Do_expr (invoke (var (codes "printf")) ((Str 0 (codes "%d")) ∷ (invoke (var (codes "f")) ((num 3) ∷ [])) ∷ []))) ∷ (Return 0 (Some (num 0))) ∷ [])) ∷ []))
    ∷ plain (unit (function (codes "main") Int ([]) (block ((Local (decl (codes "x") Int (Some (One (num 1))))) ∷ (block ((Local (decl (codes "x") Int (Some (One (num 2))))) ∷ (Do_expr (invoke (var (codes "putchar")) ((two binary.Add (num 96) (var (codes "x"))) ∷ []))) ∷ [])) ∷ (Do_expr (invoke (var (codes "putchar")) ((two binary.Add (num 96) (var (codes "x"))) ∷ []))) ∷ (For (block ((Local (decl (codes "x") Int (Some (One (num 3))))) ∷ [])) (Some (two binary.Lt (var (codes "x")) (num 4))) (Some (Step 0 step.PostInc (var (codes "x")))) (Do_expr (invoke (var (codes "putchar")) ((two binary.Add (num 96) (var (codes "x"))) ∷ [])))) ∷ (Do_expr (invoke (var (codes "putchar")) ((two binary.Add (num 96) (var (codes "x"))) ∷ []))) ∷ [])) ∷ []))
    ∷ plain (unit (function (codes "main") Int ([]) (block ((Local (decl (codes "p") (Pointer Int) None)) ∷ (Local (decl (codes "i") Int None)) ∷ (For (Do_expr (assign (var (codes "i")) (num 0))) (Some (two binary.Lt (var (codes "i")) (num 2))) (Some (Step 0 step.PostInc (var (codes "i")))) (block ((Local (decl (codes "y") Int None)) ∷ (IfElse (two binary.Eq (var (codes "i")) (num 0)) (block ((Do_expr (assign (var (codes "y")) (num 5))) ∷ (Do_expr (assign (var (codes "p")) (one unary.Address (var (codes "y"))))) ∷ [])) (Do_expr (invoke (var (codes "putchar")) ((num 97) ∷ [])))) ∷ []))) ∷ [])) ∷ []))
    ∷ plain (unit (function (codes "main") Int ([]) (block ((Local (decl (codes "p") (Pointer Int) None)) ∷ (Local (decl (codes "i") Int None)) ∷ (For (Do_expr (assign (var (codes "i")) (num 0))) (Some (two binary.Lt (var (codes "i")) (num 2))) (Some (Step 0 step.PostInc (var (codes "i")))) (block ((Local (decl (codes "y") Int None)) ∷ (IfElse (two binary.Eq (var (codes "i")) (num 0)) (Do_expr (assign (var (codes "p")) (one unary.Address (var (codes "y"))))) (Do_expr (assign (one unary.Deref (var (codes "p"))) (num 1)))) ∷ []))) ∷ [])) ∷ []))
    ∷ [])
    ≡ (writes (codes "3")
    ∷ writes (codes "baca")
    ∷ writes (codes "a")
    ∷ does (Undefined OutsideObject) [] 0 ∷ [])
unfolding unless choose exit spend spend_spare paid stop put put_all next_byte objects_now with_objects recharged charged_by charged after ◌>>=◌ give undefined read_cell load put_cell write_cell store enter leave within moved member_at equal_pointers pointer_before pointer_difference used of_word word_act word_result on_words pointer_sum pointer_less sum difference equality order operated combined on_word pointer_to value_at pointed_value assigned updated put_string put_string_at convert with_argument put_format printf with_one built_in digits place_named value_named unary_value unary_place stepped assignment cast_value element call_through call used_value condition clear spell first_value go_on turned loop do_loop maybe_condition maybe_effect returned result_of runs charged_run call_by calls_to run_of eval meaning_of with_top with_two unwind left_block broken_off continued pointer_in slot_pointer begun called called_through returned_to step_at_place step_of step_at drive run_code digit_put letter_put
blocks_row = refl

-- the statements; `continue` goes on with the turn behind the body
--     "ac45"    int main(void){int i=0; while(1){i++; if(i==2)continue; if(i==4)break; putchar(96+i);} do{putchar(48+i);}while(i++<5); do{if(i)continue;putchar(97);}while(0);}
--     "acA"    int main(void){int i; for(i=0;i<5;i++){if(i==1)continue; if(i==3)break; putchar(97+i);} if(i==3)putchar(65); else putchar(66); for(;;){return 0;} putchar(67);}
loops_row :
    map ran (
    plain (unit (function (codes "main") Int ([]) (block ((Local (decl (codes "i") Int (Some (One (num 0))))) ∷ (While (num 1) (block ((Do_expr (Step 0 step.PostInc (var (codes "i")))) ∷ (If (two binary.Eq (var (codes "i")) (num 2)) (Continue 0)) ∷ (If (two binary.Eq (var (codes "i")) (num 4)) (Break 0)) ∷ (Do_expr (invoke (var (codes "putchar")) ((two binary.Add (num 96) (var (codes "i"))) ∷ []))) ∷ []))) ∷ (Do (block ((Do_expr (invoke (var (codes "putchar")) ((two binary.Add (num 48) (var (codes "i"))) ∷ []))) ∷ [])) (two binary.Lt (Step 0 step.PostInc (var (codes "i"))) (num 5))) ∷ (Do (block ((If (var (codes "i")) (Continue 0)) ∷ (Do_expr (invoke (var (codes "putchar")) ((num 97) ∷ []))) ∷ [])) (num 0)) ∷ [])) ∷ []))
    ∷ plain (unit (function (codes "main") Int ([]) (block ((Local (decl (codes "i") Int None)) ∷ (For (Do_expr (assign (var (codes "i")) (num 0))) (Some (two binary.Lt (var (codes "i")) (num 5))) (Some (Step 0 step.PostInc (var (codes "i")))) (block ((If (two binary.Eq (var (codes "i")) (num 1)) (Continue 0)) ∷ (If (two binary.Eq (var (codes "i")) (num 3)) (Break 0)) ∷ (Do_expr (invoke (var (codes "putchar")) ((two binary.Add (num 97) (var (codes "i"))) ∷ []))) ∷ []))) ∷ (IfElse (two binary.Eq (var (codes "i")) (num 3)) (Do_expr (invoke (var (codes "putchar")) ((num 65) ∷ []))) (Do_expr (invoke (var (codes "putchar")) ((num 66) ∷ [])))) ∷ (For Empty None None (block ((Return 0 (Some (num 0))) ∷ []))) ∷ (Do_expr (invoke (var (codes "putchar")) ((num 67) ∷ []))) ∷ [])) ∷ []))
    ∷ [])
    ≡ (writes (codes "ac45")
    ∷ writes (codes "acA") ∷ [])
unfolding unless choose exit spend spend_spare paid stop put put_all next_byte objects_now with_objects recharged charged_by charged after ◌>>=◌ give undefined read_cell load put_cell write_cell store enter leave within moved member_at equal_pointers pointer_before pointer_difference used of_word word_act word_result on_words pointer_sum pointer_less sum difference equality order operated combined on_word pointer_to value_at pointed_value assigned updated put_string put_string_at convert with_argument put_format printf with_one built_in digits place_named value_named unary_value unary_place stepped assignment cast_value element call_through call used_value condition clear spell first_value go_on turned loop do_loop maybe_condition maybe_effect returned result_of runs charged_run call_by calls_to run_of eval meaning_of with_top with_two unwind left_block broken_off continued pointer_in slot_pointer begun called called_through returned_to step_at_place step_of step_at drive run_code digit_put letter_put
loops_row = refl

-- a switch runs on through later labels until a `break` ends it
--     "AB.."    int main(void){int c; while((c=getchar())!=-1){switch(c){case 97: putchar(65); break; case 98: putchar(66); default: putchar(46);}} return 0;} on "abc"
--     "bcde"    int main(void){switch(3){case 1: putchar(97);} switch(3){default: putchar(98); case 1: putchar(99);} switch(2){int x; case 1+1: x=7; putchar(100); case 3: putchar(x+94); break; putchar(102);}}
--     "abb"    int main(void){int i; for(i=0;i<3;i++){switch(i){case 1: continue; case 2: break; default: putchar(97);} putchar(98);}}
--     "" UnsetCell    int main(void){switch(1){int x=5; case 1: putchar(x);}}
--     "2"    int main(void){int n=0; switch(n++,n++,n){case 2: putchar(48+n);}}
switches_row :
    map ran (
    with_input (codes "abc") 40 (unit (function (codes "main") Int ([]) (block ((Local (decl (codes "c") Int None)) ∷ (While (two binary.Ne (assign (var (codes "c")) (invoke (var (codes "getchar")) ([]))) (one unary.Minus (num 1))) (block ((Switch (var (codes "c")) (parts ((Label 0 (Some (num 97))) ∷ (Item (Do_expr (invoke (var (codes "putchar")) ((num 65) ∷ [])))) ∷ (Item (Break 0)) ∷ (Label 0 (Some (num 98))) ∷ (Item (Do_expr (invoke (var (codes "putchar")) ((num 66) ∷ [])))) ∷ (Label 0 None) ∷ (Item (Do_expr (invoke (var (codes "putchar")) ((num 46) ∷ [])))) ∷ []))) ∷ []))) ∷ (Return 0 (Some (num 0))) ∷ [])) ∷ []))
    ∷ plain (unit (function (codes "main") Int ([]) (block ((Switch (num 3) (parts ((Label 0 (Some (num 1))) ∷ (Item (Do_expr (invoke (var (codes "putchar")) ((num 97) ∷ [])))) ∷ []))) ∷ (Switch (num 3) (parts ((Label 0 None) ∷ (Item (Do_expr (invoke (var (codes "putchar")) ((num 98) ∷ [])))) ∷ (Label 0 (Some (num 1))) ∷ (Item (Do_expr (invoke (var (codes "putchar")) ((num 99) ∷ [])))) ∷ []))) ∷ (Switch (num 2) (parts ((Item (Local (decl (codes "x") Int None))) ∷ (Label 0 (Some (two binary.Add (num 1) (num 1)))) ∷ (Item (Do_expr (assign (var (codes "x")) (num 7)))) ∷ (Item (Do_expr (invoke (var (codes "putchar")) ((num 100) ∷ [])))) ∷ (Label 0 (Some (num 3))) ∷ (Item (Do_expr (invoke (var (codes "putchar")) ((two binary.Add (var (codes "x")) (num 94)) ∷ [])))) ∷ (Item (Break 0)) ∷ (Item (Do_expr (invoke (var (codes "putchar")) ((num 102) ∷ [])))) ∷ []))) ∷ [])) ∷ []))
    ∷ plain (unit (function (codes "main") Int ([]) (block ((Local (decl (codes "i") Int None)) ∷ (For (Do_expr (assign (var (codes "i")) (num 0))) (Some (two binary.Lt (var (codes "i")) (num 3))) (Some (Step 0 step.PostInc (var (codes "i")))) (block ((Switch (var (codes "i")) (parts ((Label 0 (Some (num 1))) ∷ (Item (Continue 0)) ∷ (Label 0 (Some (num 2))) ∷ (Item (Break 0)) ∷ (Label 0 None) ∷ (Item (Do_expr (invoke (var (codes "putchar")) ((num 97) ∷ [])))) ∷ []))) ∷ (Do_expr (invoke (var (codes "putchar")) ((num 98) ∷ []))) ∷ []))) ∷ [])) ∷ []))
    ∷ plain (unit (function (codes "main") Int ([]) (block ((Switch (num 1) (parts ((Item (Local (decl (codes "x") Int (Some (One (num 5)))))) ∷ (Label 0 (Some (num 1))) ∷ (Item (Do_expr (invoke (var (codes "putchar")) ((var (codes "x")) ∷ [])))) ∷ []))) ∷ [])) ∷ []))
    ∷ plain (unit (function (codes "main") Int ([]) (block ((Local (decl (codes "n") Int (Some (One (num 0))))) ∷ (Switch (Comma 0 (Comma 0 (Step 0 step.PostInc (var (codes "n"))) (Step 0 step.PostInc (var (codes "n")))) (var (codes "n"))) (parts ((Label 0 (Some (num 2))) ∷ (Item (Do_expr (invoke (var (codes "putchar")) ((two binary.Add (num 48) (var (codes "n"))) ∷ [])))) ∷ []))) ∷ [])) ∷ []))
    ∷ [])
    ≡ (does Ended (codes "AB..") 4
    ∷ writes (codes "bcde")
    ∷ writes (codes "abb")
    ∷ does (Undefined UnsetCell) [] 0
    ∷ writes (codes "2") ∷ [])
unfolding unless choose exit spend spend_spare paid stop put put_all next_byte objects_now with_objects recharged charged_by charged after ◌>>=◌ give undefined read_cell load put_cell write_cell store enter leave within moved member_at equal_pointers pointer_before pointer_difference used of_word word_act word_result on_words pointer_sum pointer_less sum difference equality order operated combined on_word pointer_to value_at pointed_value assigned updated put_string put_string_at convert with_argument put_format printf with_one built_in digits place_named value_named unary_value unary_place stepped assignment cast_value element call_through call used_value condition clear spell first_value go_on turned loop do_loop maybe_condition maybe_effect returned result_of runs charged_run call_by calls_to run_of eval meaning_of with_top with_two unwind left_block broken_off continued pointer_in slot_pointer begun called called_through returned_to step_at_place step_of step_at drive run_code digit_put letter_put
switches_row = refl

-- a call through a function pointer evaluates the pointer, then the arguments
--     "10 4 "    int add(int a,int b){return a+b;} int sub(int a,int b){return a-b;} int main(void){int (*t[2])(int,int)={add,sub}; int i; for(i=0;i<2;i++) printf("%d ",t[i](7,3)); return 0;}
--     "abcc101"    int p(int c){putchar(c);return 0;} int f(int a){putchar(99);return 1;} int main(void){int (*t[1])(int); t[0]=f; t[p(97)](p(98)); printf("%d%d%d",t[0]==f,t[0]!=&f,(*f)(1)); return 0;}
--     "x1"    char *f(int n){if(n)return "x"; return 0;} int main(void){printf("%s%d",f(1),f(0)==NULL); return 0;}
--     "5"    int f(int a){a=a+1;return a;} int main(void){int a=5; f(a); putchar(48+a); return 0;}
calls_row :
    map ran (
    plain (unit (function (codes "add") Int ((decl (codes "a") Int None) ∷ (decl (codes "b") Int None) ∷ []) (block ((Return 0 (Some (two binary.Add (var (codes "a")) (var (codes "b"))))) ∷ [])) ∷ function (codes "sub") Int ((decl (codes "a") Int None) ∷ (decl (codes "b") Int None) ∷ []) (block ((Return 0 (Some (two binary.Sub (var (codes "a")) (var (codes "b"))))) ∷ [])) ∷ function (codes "main") Int ([]) (block ((Local (decl (codes "t") (ArrayOf (Pointer (Func Int (tys (Int ∷ Int ∷ [])))) (num 2)) (Some (Many (values ((One (var (codes "add"))) ∷ (One (var (codes "sub"))) ∷ [])))))) ∷ (Local (decl (codes "i") Int None)) ∷ (For (Do_expr (assign (var (codes "i")) (num 0))) (Some (two binary.Lt (var (codes "i")) (num 2))) (Some (Step 0 step.PostInc (var (codes "i")))) (Do_expr (invoke (var (codes "printf")) ((Str 0 (codes "%d ")) ∷ (invoke (Index 0 (var (codes "t")) (var (codes "i"))) ((num 7) ∷ (num 3) ∷ [])) ∷ [])))) ∷ (Return 0 (Some (num 0))) ∷ [])) ∷ []))
    ∷ plain (unit (function (codes "p") Int ((decl (codes "c") Int None) ∷ []) (block ((Do_expr (invoke (var (codes "putchar")) ((var (codes "c")) ∷ []))) ∷ (Return 0 (Some (num 0))) ∷ [])) ∷ function (codes "f") Int ((decl (codes "a") Int None) ∷ []) (block ((Do_expr (invoke (var (codes "putchar")) ((num 99) ∷ []))) ∷ (Return 0 (Some (num 1))) ∷ [])) ∷ function (codes "main") Int ([]) (block ((Local (decl (codes "t") (ArrayOf (Pointer (Func Int (tys (Int ∷ [])))) (num 1)) None)) ∷ (Do_expr (assign (Index 0 (var (codes "t")) (num 0)) (var (codes "f")))) ∷ (Do_expr (invoke (Index 0 (var (codes "t")) (invoke (var (codes "p")) ((num 97) ∷ []))) ((invoke (var (codes "p")) ((num 98) ∷ [])) ∷ []))) ∷ (Do_expr (invoke (var (codes "printf")) ((Str 0 (codes "%d%d%d")) ∷ (two binary.Eq (Index 0 (var (codes "t")) (num 0)) (var (codes "f"))) ∷ (two binary.Ne (Index 0 (var (codes "t")) (num 0)) (one unary.Address (var (codes "f")))) ∷ (invoke (one unary.Deref (var (codes "f"))) ((num 1) ∷ [])) ∷ []))) ∷ (Return 0 (Some (num 0))) ∷ [])) ∷ []))
    ∷ plain (unit (function (codes "f") (Pointer Char) ((decl (codes "n") Int None) ∷ []) (block ((If (var (codes "n")) (Return 0 (Some (Str 0 (codes "x"))))) ∷ (Return 0 (Some (num 0))) ∷ [])) ∷ function (codes "main") Int ([]) (block ((Do_expr (invoke (var (codes "printf")) ((Str 0 (codes "%s%d")) ∷ (invoke (var (codes "f")) ((num 1) ∷ [])) ∷ (two binary.Eq (invoke (var (codes "f")) ((num 0) ∷ [])) (Null 0)) ∷ []))) ∷ (Return 0 (Some (num 0))) ∷ [])) ∷ []))
    ∷ plain (unit (function (codes "f") Int ((decl (codes "a") Int None) ∷ []) (block ((Do_expr (assign (var (codes "a")) (two binary.Add (var (codes "a")) (num 1)))) ∷ (Return 0 (Some (var (codes "a")))) ∷ [])) ∷ function (codes "main") Int ([]) (block ((Local (decl (codes "a") Int (Some (One (num 5))))) ∷ (Do_expr (invoke (var (codes "f")) ((var (codes "a")) ∷ []))) ∷ (Do_expr (invoke (var (codes "putchar")) ((two binary.Add (num 48) (var (codes "a"))) ∷ []))) ∷ (Return 0 (Some (num 0))) ∷ [])) ∷ []))
    ∷ [])
    ≡ (writes (codes "10 4 ")
    ∷ writes (codes "abcc101")
    ∷ writes (codes "x1")
    ∷ writes (codes "5") ∷ [])
unfolding unless choose exit spend spend_spare paid stop put put_all next_byte objects_now with_objects recharged charged_by charged after ◌>>=◌ give undefined read_cell load put_cell write_cell store enter leave within moved member_at equal_pointers pointer_before pointer_difference used of_word word_act word_result on_words pointer_sum pointer_less sum difference equality order operated combined on_word pointer_to value_at pointed_value assigned updated put_string put_string_at convert with_argument put_format printf with_one built_in digits place_named value_named unary_value unary_place stepped assignment cast_value element call_through call used_value condition clear spell first_value go_on turned loop do_loop maybe_condition maybe_effect returned result_of runs charged_run call_by calls_to run_of eval meaning_of with_top with_two unwind left_block broken_off continued pointer_in slot_pointer begun called called_through returned_to step_at_place step_of step_at drive run_code digit_put letter_put
calls_row = refl

-- of a call through a pointer to a function of another type spare arguments have no name, and a missing one no cell
--     "A"    int f(int a){return a;} void g(int (*t[])(int,int)){putchar(t[0](65,66));} int main(void){int (*h[1])(int)={f}; void *v=h; g(v); return 0;}
--     "" OutsideObject    int f(int a){return a;} void g(int (*t[])(void)){t[0]();} int main(void){int (*h[1])(int)={f}; void *v=h; g(v); return 0;}
--     "AB"    int f(int a){putchar(65);return 1;} void g(int (*t[])(void)){putchar(65+t[0]());} int main(void){int (*h[1])(int)={f}; void *v=h; g(v); return 0;}
other_types_row :
    map ran (
    plain (unit (function (codes "f") Int ((decl (codes "a") Int None) ∷ []) (block ((Return 0 (Some (var (codes "a")))) ∷ [])) ∷ function (codes "g") Void ((decl (codes "t") (Array (Pointer (Func Int (tys (Int ∷ Int ∷ []))))) None) ∷ []) (block ((Do_expr (invoke (var (codes "putchar")) ((invoke (Index 0 (var (codes "t")) (num 0)) ((num 65) ∷ (num 66) ∷ [])) ∷ []))) ∷ [])) ∷ function (codes "main") Int ([]) (block ((Local (decl (codes "h") (ArrayOf (Pointer (Func Int (tys (Int ∷ [])))) (num 1)) (Some (Many (values ((One (var (codes "f"))) ∷ [])))))) ∷ (Local (decl (codes "v") (Pointer Void) (Some (One (var (codes "h")))))) ∷ (Do_expr (invoke (var (codes "g")) ((var (codes "v")) ∷ []))) ∷ (Return 0 (Some (num 0))) ∷ [])) ∷ []))
    ∷ plain (unit (function (codes "f") Int ((decl (codes "a") Int None) ∷ []) (block ((Return 0 (Some (var (codes "a")))) ∷ [])) ∷ function (codes "g") Void ((decl (codes "t") (Array (Pointer (Func Int (tys ([]))))) None) ∷ []) (block ((Do_expr (invoke (Index 0 (var (codes "t")) (num 0)) ([]))) ∷ [])) ∷ function (codes "main") Int ([]) (block ((Local (decl (codes "h") (ArrayOf (Pointer (Func Int (tys (Int ∷ [])))) (num 1)) (Some (Many (values ((One (var (codes "f"))) ∷ [])))))) ∷ (Local (decl (codes "v") (Pointer Void) (Some (One (var (codes "h")))))) ∷ (Do_expr (invoke (var (codes "g")) ((var (codes "v")) ∷ []))) ∷ (Return 0 (Some (num 0))) ∷ [])) ∷ []))
    ∷ plain (unit (function (codes "f") Int ((decl (codes "a") Int None) ∷ []) (block ((Do_expr (invoke (var (codes "putchar")) ((num 65) ∷ []))) ∷ (Return 0 (Some (num 1))) ∷ [])) ∷ function (codes "g") Void ((decl (codes "t") (Array (Pointer (Func Int (tys ([]))))) None) ∷ []) (block ((Do_expr (invoke (var (codes "putchar")) ((two binary.Add (num 65) (invoke (Index 0 (var (codes "t")) (num 0)) ([]))) ∷ []))) ∷ [])) ∷ function (codes "main") Int ([]) (block ((Local (decl (codes "h") (ArrayOf (Pointer (Func Int (tys (Int ∷ [])))) (num 1)) (Some (Many (values ((One (var (codes "f"))) ∷ [])))))) ∷ (Local (decl (codes "v") (Pointer Void) (Some (One (var (codes "h")))))) ∷ (Do_expr (invoke (var (codes "g")) ((var (codes "v")) ∷ []))) ∷ (Return 0 (Some (num 0))) ∷ [])) ∷ []))
    ∷ [])
    ≡ (writes (codes "A")
    ∷ does (Undefined OutsideObject) [] 0
    ∷ writes (codes "AB") ∷ [])
unfolding unless choose exit spend spend_spare paid stop put put_all next_byte objects_now with_objects recharged charged_by charged after ◌>>=◌ give undefined read_cell load put_cell write_cell store enter leave within moved member_at equal_pointers pointer_before pointer_difference used of_word word_act word_result on_words pointer_sum pointer_less sum difference equality order operated combined on_word pointer_to value_at pointed_value assigned updated put_string put_string_at convert with_argument put_format printf with_one built_in digits place_named value_named unary_value unary_place stepped assignment cast_value element call_through call used_value condition clear spell first_value go_on turned loop do_loop maybe_condition maybe_effect returned result_of runs charged_run call_by calls_to run_of eval meaning_of with_top with_two unwind left_block broken_off continued pointer_in slot_pointer begun called called_through returned_to step_at_place step_of step_at drive run_code digit_put letter_put
other_types_row = refl

-- the built-in functions
--     "bb-10-1"    int main(void){int c=getchar(); putchar(c+1); putchar(__builtin_getc()); printf("%d%d%d",getchar(),__builtin_getc(),getchar());} on "ab"
--     "AAhi\x0a\x0a0"    int main(void){putchar(putchar(321)); puts("hi"); putchar(48+puts("")); exit(3); putchar(99);}
--     "-5 16777211 ff a st %|"    int main(void){printf("%d %u %x %c %s %%|",-5,-5,255,353,"st");}
--     "acac\x0aac\x0a"    int main(void){char a[3]="ab"; a[1]=99; printf("%s",a); puts(a); a[0]=353; puts(a);}
--     "a"    int f(void){exit(0);return 1;} int main(void){putchar(97);f();putchar(98);return 0;}
built_ins_row :
    map ran (
    with_input (codes "ab") 40 (unit (function (codes "main") Int ([]) (block ((Local (decl (codes "c") Int (Some (One (invoke (var (codes "getchar")) ([])))))) ∷ (Do_expr (invoke (var (codes "putchar")) ((two binary.Add (var (codes "c")) (num 1)) ∷ []))) ∷ (Do_expr (invoke (var (codes "putchar")) ((invoke (var (codes "__builtin_getc")) ([])) ∷ []))) ∷ (Do_expr (invoke (var (codes "printf")) ((Str 0 (codes "%d%d%d")) ∷ (invoke (var (codes "getchar")) ([])) ∷ (invoke (var (codes "__builtin_getc")) ([])) ∷ (invoke (var (codes "getchar")) ([])) ∷ []))) ∷ [])) ∷ []))
    ∷ plain (unit (function (codes "main") Int ([]) (block ((Do_expr (invoke (var (codes "putchar")) ((invoke (var (codes "putchar")) ((num 321) ∷ [])) ∷ []))) ∷ (Do_expr (invoke (var (codes "puts")) ((Str 0 (codes "hi")) ∷ []))) ∷ (Do_expr (invoke (var (codes "putchar")) ((two binary.Add (num 48) (invoke (var (codes "puts")) ((Str 0 []) ∷ []))) ∷ []))) ∷ (Do_expr (invoke (var (codes "exit")) ((num 3) ∷ []))) ∷ (Do_expr (invoke (var (codes "putchar")) ((num 99) ∷ []))) ∷ [])) ∷ []))
    ∷ plain (unit (function (codes "main") Int ([]) (block ((Do_expr (invoke (var (codes "printf")) ((Str 0 (codes "%d %u %x %c %s %%|")) ∷ (one unary.Minus (num 5)) ∷ (one unary.Minus (num 5)) ∷ (num 255) ∷ (num 353) ∷ (Str 0 (codes "st")) ∷ []))) ∷ [])) ∷ []))
    ∷ plain (unit (function (codes "main") Int ([]) (block ((Local (decl (codes "a") (ArrayOf Char (num 3)) (Some (One (Str 0 (codes "ab")))))) ∷ (Do_expr (assign (Index 0 (var (codes "a")) (num 1)) (num 99))) ∷ (Do_expr (invoke (var (codes "printf")) ((Str 0 (codes "%s")) ∷ (var (codes "a")) ∷ []))) ∷ (Do_expr (invoke (var (codes "puts")) ((var (codes "a")) ∷ []))) ∷ (Do_expr (assign (Index 0 (var (codes "a")) (num 0)) (num 353))) ∷ (Do_expr (invoke (var (codes "puts")) ((var (codes "a")) ∷ []))) ∷ [])) ∷ []))
    ∷ plain (unit (function (codes "f") Int ([]) (block ((Do_expr (invoke (var (codes "exit")) ((num 0) ∷ []))) ∷ (Return 0 (Some (num 1))) ∷ [])) ∷ function (codes "main") Int ([]) (block ((Do_expr (invoke (var (codes "putchar")) ((num 97) ∷ []))) ∷ (Do_expr (invoke (var (codes "f")) ([]))) ∷ (Do_expr (invoke (var (codes "putchar")) ((num 98) ∷ []))) ∷ (Return 0 (Some (num 0))) ∷ [])) ∷ []))
    ∷ [])
    ≡ (does Ended (codes "bb-10-1") 5
    ∷ writes (65 ∷ 65 ∷ 104 ∷ 105 ∷ 10 ∷ 10 ∷ 48 ∷ [])
    ∷ writes (codes "-5 16777211 ff a st %|")
    ∷ writes (97 ∷ 99 ∷ 97 ∷ 99 ∷ 10 ∷ 97 ∷ 99 ∷ 10 ∷ [])
    ∷ writes (codes "a") ∷ [])
unfolding unless choose exit spend spend_spare paid stop put put_all next_byte objects_now with_objects recharged charged_by charged after ◌>>=◌ give undefined read_cell load put_cell write_cell store enter leave within moved member_at equal_pointers pointer_before pointer_difference used of_word word_act word_result on_words pointer_sum pointer_less sum difference equality order operated combined on_word pointer_to value_at pointed_value assigned updated put_string put_string_at convert with_argument put_format printf with_one built_in digits place_named value_named unary_value unary_place stepped assignment cast_value element call_through call used_value condition clear spell first_value go_on turned loop do_loop maybe_condition maybe_effect returned result_of runs charged_run call_by calls_to run_of eval meaning_of with_top with_two unwind left_block broken_off continued pointer_in slot_pointer begun called called_through returned_to step_at_place step_of step_at drive run_code digit_put letter_put
built_ins_row = refl

-- act 1: a zero divisor
--     "x" ZeroDivisor    int main(void){putchar(120); return 1/0;}
--     "" ZeroDivisor    int main(void){int a=5; a%=0; putchar(97);}
--     "" ZeroDivisor    int main(void){return 5u%0u;}
zero_divisor_row :
    map ran (
    plain (unit (function (codes "main") Int ([]) (block ((Do_expr (invoke (var (codes "putchar")) ((num 120) ∷ []))) ∷ (Return 0 (Some (two binary.Div (num 1) (num 0)))) ∷ [])) ∷ []))
    ∷ plain (unit (function (codes "main") Int ([]) (block ((Local (decl (codes "a") Int (Some (One (num 5))))) ∷ (Do_expr (Assign 0 (Some binary.Mod) (var (codes "a")) (num 0))) ∷ (Do_expr (invoke (var (codes "putchar")) ((num 97) ∷ []))) ∷ [])) ∷ []))
    ∷ plain (unit (function (codes "main") Int ([]) (block ((Return 0 (Some (two binary.Mod (Number 0 5 true) (Number 0 0 true)))) ∷ [])) ∷ []))
    ∷ [])
    ≡ (does (Undefined ZeroDivisor) (codes "x") 0
    ∷ does (Undefined ZeroDivisor) [] 0
    ∷ does (Undefined ZeroDivisor) [] 0 ∷ [])
unfolding unless choose exit spend spend_spare paid stop put put_all next_byte objects_now with_objects recharged charged_by charged after ◌>>=◌ give undefined read_cell load put_cell write_cell store enter leave within moved member_at equal_pointers pointer_before pointer_difference used of_word word_act word_result on_words pointer_sum pointer_less sum difference equality order operated combined on_word pointer_to value_at pointed_value assigned updated put_string put_string_at convert with_argument put_format printf with_one built_in digits place_named value_named unary_value unary_place stepped assignment cast_value element call_through call used_value condition clear spell first_value go_on turned loop do_loop maybe_condition maybe_effect returned result_of runs charged_run call_by calls_to run_of eval meaning_of with_top with_two unwind left_block broken_off continued pointer_in slot_pointer begun called called_through returned_to step_at_place step_of step_at drive run_code digit_put letter_put
zero_divisor_row = refl

-- act 2: an access outside a live object or through null
--     "" OutsideObject    int main(void){int a[2]; return a[2];}
--     "" OutsideObject    int main(void){int *p=NULL; *p=1;}
--     "" OutsideObject    int main(void){int *p; {int x=1; p=&x;} return *p;}
--     "a" OutsideObject    struct s{int x; int y;}; int main(void){struct s *p=NULL; int *q; putchar(97); q=&p->y; putchar(98); return 0;}
--     "a" OutsideObject    struct s{int x; int y;}; int main(void){int a; void *v=&a; struct s *p=v; p->x=1; putchar(97); p->y=2; return 0;}
--     "ab" OutsideObject    int main(void){char a[2]="ab"; puts(a);}
--     "x" OutsideObject    int main(void){char *p=NULL; printf("x%s",p);}
--     "" OutsideObject    int main(void){char *s="ab"; return s[3];}
--     "" OutsideObject    int main(void){char *s="ab"; *(s+3)=1;}
outside_object_row :
    map ran (
    plain (unit (function (codes "main") Int ([]) (block ((Local (decl (codes "a") (ArrayOf Int (num 2)) None)) ∷ (Return 0 (Some (Index 0 (var (codes "a")) (num 2)))) ∷ [])) ∷ []))
    ∷ plain (unit (function (codes "main") Int ([]) (block ((Local (decl (codes "p") (Pointer Int) (Some (One (Null 0))))) ∷ (Do_expr (assign (one unary.Deref (var (codes "p"))) (num 1))) ∷ [])) ∷ []))
    ∷ plain (unit (function (codes "main") Int ([]) (block ((Local (decl (codes "p") (Pointer Int) None)) ∷ (block ((Local (decl (codes "x") Int (Some (One (num 1))))) ∷ (Do_expr (assign (var (codes "p")) (one unary.Address (var (codes "x"))))) ∷ [])) ∷ (Return 0 (Some (one unary.Deref (var (codes "p"))))) ∷ [])) ∷ []))
    ∷ plain (unit (structure (codes "s") ((decl (codes "x") Int None) ∷ (decl (codes "y") Int None) ∷ []) ∷ function (codes "main") Int ([]) (block ((Local (decl (codes "p") (Pointer (Struct (codes "s"))) (Some (One (Null 0))))) ∷ (Local (decl (codes "q") (Pointer Int) None)) ∷ (Do_expr (invoke (var (codes "putchar")) ((num 97) ∷ []))) ∷ (Do_expr (assign (var (codes "q")) (one unary.Address (Arrow 0 (var (codes "p")) (codes "y"))))) ∷ (Do_expr (invoke (var (codes "putchar")) ((num 98) ∷ []))) ∷ (Return 0 (Some (num 0))) ∷ [])) ∷ []))
    ∷ plain (unit (structure (codes "s") ((decl (codes "x") Int None) ∷ (decl (codes "y") Int None) ∷ []) ∷ function (codes "main") Int ([]) (block ((Local (decl (codes "a") Int None)) ∷ (Local (decl (codes "v") (Pointer Void) (Some (One (one unary.Address (var (codes "a"))))))) ∷ (Local (decl (codes "p") (Pointer (Struct (codes "s"))) (Some (One (var (codes "v")))))) ∷ (Do_expr (assign (Arrow 0 (var (codes "p")) (codes "x")) (num 1))) ∷ (Do_expr (invoke (var (codes "putchar")) ((num 97) ∷ []))) ∷ (Do_expr (assign (Arrow 0 (var (codes "p")) (codes "y")) (num 2))) ∷ (Return 0 (Some (num 0))) ∷ [])) ∷ []))
    ∷ plain (unit (function (codes "main") Int ([]) (block ((Local (decl (codes "a") (ArrayOf Char (num 2)) (Some (One (Str 0 (codes "ab")))))) ∷ (Do_expr (invoke (var (codes "puts")) ((var (codes "a")) ∷ []))) ∷ [])) ∷ []))
    ∷ plain (unit (function (codes "main") Int ([]) (block ((Local (decl (codes "p") (Pointer Char) (Some (One (Null 0))))) ∷ (Do_expr (invoke (var (codes "printf")) ((Str 0 (codes "x%s")) ∷ (var (codes "p")) ∷ []))) ∷ [])) ∷ []))
    ∷ plain (unit (function (codes "main") Int ([]) (block ((Local (decl (codes "s") (Pointer Char) (Some (One (Str 0 (codes "ab")))))) ∷ (Return 0 (Some (Index 0 (var (codes "s")) (num 3)))) ∷ [])) ∷ []))
    ∷ plain (unit (function (codes "main") Int ([]) (block ((Local (decl (codes "s") (Pointer Char) (Some (One (Str 0 (codes "ab")))))) ∷ (Do_expr (assign (one unary.Deref (two binary.Add (var (codes "s")) (num 3))) (num 1))) ∷ [])) ∷ []))
    ∷ [])
    ≡ (does (Undefined OutsideObject) [] 0
    ∷ does (Undefined OutsideObject) [] 0
    ∷ does (Undefined OutsideObject) [] 0
    ∷ does (Undefined OutsideObject) (codes "a") 0
    ∷ does (Undefined OutsideObject) (codes "a") 0
    ∷ does (Undefined OutsideObject) (codes "ab") 0
    ∷ does (Undefined OutsideObject) (codes "x") 0
    ∷ does (Undefined OutsideObject) [] 0
    ∷ does (Undefined OutsideObject) [] 0 ∷ [])
unfolding unless choose exit spend spend_spare paid stop put put_all next_byte objects_now with_objects recharged charged_by charged after ◌>>=◌ give undefined read_cell load put_cell write_cell store enter leave within moved member_at equal_pointers pointer_before pointer_difference used of_word word_act word_result on_words pointer_sum pointer_less sum difference equality order operated combined on_word pointer_to value_at pointed_value assigned updated put_string put_string_at convert with_argument put_format printf with_one built_in digits place_named value_named unary_value unary_place stepped assignment cast_value element call_through call used_value condition clear spell first_value go_on turned loop do_loop maybe_condition maybe_effect returned result_of runs charged_run call_by calls_to run_of eval meaning_of with_top with_two unwind left_block broken_off continued pointer_in slot_pointer begun called called_through returned_to step_at_place step_of step_at drive run_code digit_put letter_put
outside_object_row = refl

-- act 3: an access of a cell that holds another kind; null is of both kinds of pointers
--     "" OtherKind    int main(void){int x=1; void *v=&x; int **p=v; *p=&x;}
--     "" OtherKind    int main(void){int x=1; int *y=&x; void *v=&y; int *p=v; return *p;}
--     "" OtherKind    int main(void){int *y=NULL; void *v=&y; int *p=v; *p=5;}
--     "" OtherKind    int main(void){char *s="ab"; void *v=s; int **p=v; *p=NULL;}
--     "" OtherKind    int f(void){return 1;} int main(void){int (*h)(void)=f; void *v=&h; int **p=v; return *p==NULL;}
--     "1"    int main(void){int (*h)(void)=NULL; void *v=&h; int **p=v; printf("%d",*p==NULL); *p=NULL; return 0;}
other_kind_row :
    map ran (
    plain (unit (function (codes "main") Int ([]) (block ((Local (decl (codes "x") Int (Some (One (num 1))))) ∷ (Local (decl (codes "v") (Pointer Void) (Some (One (one unary.Address (var (codes "x"))))))) ∷ (Local (decl (codes "p") (Pointer (Pointer Int)) (Some (One (var (codes "v")))))) ∷ (Do_expr (assign (one unary.Deref (var (codes "p"))) (one unary.Address (var (codes "x"))))) ∷ [])) ∷ []))
    ∷ plain (unit (function (codes "main") Int ([]) (block ((Local (decl (codes "x") Int (Some (One (num 1))))) ∷ (Local (decl (codes "y") (Pointer Int) (Some (One (one unary.Address (var (codes "x"))))))) ∷ (Local (decl (codes "v") (Pointer Void) (Some (One (one unary.Address (var (codes "y"))))))) ∷ (Local (decl (codes "p") (Pointer Int) (Some (One (var (codes "v")))))) ∷ (Return 0 (Some (one unary.Deref (var (codes "p"))))) ∷ [])) ∷ []))
    ∷ plain (unit (function (codes "main") Int ([]) (block ((Local (decl (codes "y") (Pointer Int) (Some (One (Null 0))))) ∷ (Local (decl (codes "v") (Pointer Void) (Some (One (one unary.Address (var (codes "y"))))))) ∷ (Local (decl (codes "p") (Pointer Int) (Some (One (var (codes "v")))))) ∷ (Do_expr (assign (one unary.Deref (var (codes "p"))) (num 5))) ∷ [])) ∷ []))
    ∷ plain (unit (function (codes "main") Int ([]) (block ((Local (decl (codes "s") (Pointer Char) (Some (One (Str 0 (codes "ab")))))) ∷ (Local (decl (codes "v") (Pointer Void) (Some (One (var (codes "s")))))) ∷ (Local (decl (codes "p") (Pointer (Pointer Int)) (Some (One (var (codes "v")))))) ∷ (Do_expr (assign (one unary.Deref (var (codes "p"))) (Null 0))) ∷ [])) ∷ []))
    ∷ plain (unit (function (codes "f") Int ([]) (block ((Return 0 (Some (num 1))) ∷ [])) ∷ function (codes "main") Int ([]) (block ((Local (decl (codes "h") (Pointer (Func Int (tys ([])))) (Some (One (var (codes "f")))))) ∷ (Local (decl (codes "v") (Pointer Void) (Some (One (one unary.Address (var (codes "h"))))))) ∷ (Local (decl (codes "p") (Pointer (Pointer Int)) (Some (One (var (codes "v")))))) ∷ (Return 0 (Some (two binary.Eq (one unary.Deref (var (codes "p"))) (Null 0)))) ∷ [])) ∷ []))
    ∷ plain (unit (function (codes "main") Int ([]) (block ((Local (decl (codes "h") (Pointer (Func Int (tys ([])))) (Some (One (Null 0))))) ∷ (Local (decl (codes "v") (Pointer Void) (Some (One (one unary.Address (var (codes "h"))))))) ∷ (Local (decl (codes "p") (Pointer (Pointer Int)) (Some (One (var (codes "v")))))) ∷ (Do_expr (invoke (var (codes "printf")) ((Str 0 (codes "%d")) ∷ (two binary.Eq (one unary.Deref (var (codes "p"))) (Null 0)) ∷ []))) ∷ (Do_expr (assign (one unary.Deref (var (codes "p"))) (Null 0))) ∷ (Return 0 (Some (num 0))) ∷ [])) ∷ []))
    ∷ [])
    ≡ (does (Undefined OtherKind) [] 0
    ∷ does (Undefined OtherKind) [] 0
    ∷ does (Undefined OtherKind) [] 0
    ∷ does (Undefined OtherKind) [] 0
    ∷ does (Undefined OtherKind) [] 0
    ∷ writes (codes "1") ∷ [])
unfolding unless choose exit spend spend_spare paid stop put put_all next_byte objects_now with_objects recharged charged_by charged after ◌>>=◌ give undefined read_cell load put_cell write_cell store enter leave within moved member_at equal_pointers pointer_before pointer_difference used of_word word_act word_result on_words pointer_sum pointer_less sum difference equality order operated combined on_word pointer_to value_at pointed_value assigned updated put_string put_string_at convert with_argument put_format printf with_one built_in digits place_named value_named unary_value unary_place stepped assignment cast_value element call_through call used_value condition clear spell first_value go_on turned loop do_loop maybe_condition maybe_effect returned result_of runs charged_run call_by calls_to run_of eval meaning_of with_top with_two unwind left_block broken_off continued pointer_in slot_pointer begun called called_through returned_to step_at_place step_of step_at drive run_code digit_put letter_put
other_kind_row = refl

-- act 4: a read of an unset cell
--     "" UnsetCell    int main(void){int a; return a;}
--     "" UnsetCell    int main(void){int a; a;}
--     "" UnsetCell    int main(void){int a=a;}
--     "" UnsetCell    int main(void){int a; a++;}
--     "a" UnsetCell    int main(void){char a[2]; a[0]=97; puts(a);}
--     "a" UnsetCell    int main(void){int a; int *p=&a; putchar(97); return *p;}
unset_cell_row :
    map ran (
    plain (unit (function (codes "main") Int ([]) (block ((Local (decl (codes "a") Int None)) ∷ (Return 0 (Some (var (codes "a")))) ∷ [])) ∷ []))
    ∷ plain (unit (function (codes "main") Int ([]) (block ((Local (decl (codes "a") Int None)) ∷ (Do_expr (var (codes "a"))) ∷ [])) ∷ []))
    ∷ plain (unit (function (codes "main") Int ([]) (block ((Local (decl (codes "a") Int (Some (One (var (codes "a")))))) ∷ [])) ∷ []))
    ∷ plain (unit (function (codes "main") Int ([]) (block ((Local (decl (codes "a") Int None)) ∷ (Do_expr (Step 0 step.PostInc (var (codes "a")))) ∷ [])) ∷ []))
    ∷ plain (unit (function (codes "main") Int ([]) (block ((Local (decl (codes "a") (ArrayOf Char (num 2)) None)) ∷ (Do_expr (assign (Index 0 (var (codes "a")) (num 0)) (num 97))) ∷ (Do_expr (invoke (var (codes "puts")) ((var (codes "a")) ∷ []))) ∷ [])) ∷ []))
    ∷ plain (unit (function (codes "main") Int ([]) (block ((Local (decl (codes "a") Int None)) ∷ (Local (decl (codes "p") (Pointer Int) (Some (One (one unary.Address (var (codes "a"))))))) ∷ (Do_expr (invoke (var (codes "putchar")) ((num 97) ∷ []))) ∷ (Return 0 (Some (one unary.Deref (var (codes "p"))))) ∷ [])) ∷ []))
    ∷ [])
    ≡ (does (Undefined UnsetCell) [] 0
    ∷ does (Undefined UnsetCell) [] 0
    ∷ does (Undefined UnsetCell) [] 0
    ∷ does (Undefined UnsetCell) [] 0
    ∷ does (Undefined UnsetCell) (codes "a") 0
    ∷ does (Undefined UnsetCell) (codes "a") 0 ∷ [])
unfolding unless choose exit spend spend_spare paid stop put put_all next_byte objects_now with_objects recharged charged_by charged after ◌>>=◌ give undefined read_cell load put_cell write_cell store enter leave within moved member_at equal_pointers pointer_before pointer_difference used of_word word_act word_result on_words pointer_sum pointer_less sum difference equality order operated combined on_word pointer_to value_at pointed_value assigned updated put_string put_string_at convert with_argument put_format printf with_one built_in digits place_named value_named unary_value unary_place stepped assignment cast_value element call_through call used_value condition clear spell first_value go_on turned loop do_loop maybe_condition maybe_effect returned result_of runs charged_run call_by calls_to run_of eval meaning_of with_top with_two unwind left_block broken_off continued pointer_in slot_pointer begun called called_through returned_to step_at_place step_of step_at drive run_code digit_put letter_put
unset_cell_row = refl

-- act 5: a write to a string literal
--     "" LiteralWrite    int main(void){char *s="ab"; s[0]=99;}
--     "" LiteralWrite    int main(void){char *s="ab"; s[2]=0;}
--     "a" LiteralWrite    char *s="ab"; int main(void){putchar(*s); *s=*s; return 0;}
literal_write_row :
    map ran (
    plain (unit (function (codes "main") Int ([]) (block ((Local (decl (codes "s") (Pointer Char) (Some (One (Str 0 (codes "ab")))))) ∷ (Do_expr (assign (Index 0 (var (codes "s")) (num 0)) (num 99))) ∷ [])) ∷ []))
    ∷ plain (unit (function (codes "main") Int ([]) (block ((Local (decl (codes "s") (Pointer Char) (Some (One (Str 0 (codes "ab")))))) ∷ (Do_expr (assign (Index 0 (var (codes "s")) (num 2)) (num 0))) ∷ [])) ∷ []))
    ∷ plain (unit (Object (decl (codes "s") (Pointer Char) (Some (One (Str 0 (codes "ab"))))) ∷ function (codes "main") Int ([]) (block ((Do_expr (invoke (var (codes "putchar")) ((one unary.Deref (var (codes "s"))) ∷ []))) ∷ (Do_expr (assign (one unary.Deref (var (codes "s"))) (one unary.Deref (var (codes "s"))))) ∷ (Return 0 (Some (num 0))) ∷ [])) ∷ []))
    ∷ [])
    ≡ (does (Undefined LiteralWrite) [] 0
    ∷ does (Undefined LiteralWrite) [] 0
    ∷ does (Undefined LiteralWrite) (codes "a") 0 ∷ [])
unfolding unless choose exit spend spend_spare paid stop put put_all next_byte objects_now with_objects recharged charged_by charged after ◌>>=◌ give undefined read_cell load put_cell write_cell store enter leave within moved member_at equal_pointers pointer_before pointer_difference used of_word word_act word_result on_words pointer_sum pointer_less sum difference equality order operated combined on_word pointer_to value_at pointed_value assigned updated put_string put_string_at convert with_argument put_format printf with_one built_in digits place_named value_named unary_value unary_place stepped assignment cast_value element call_through call used_value condition clear spell first_value go_on turned loop do_loop maybe_condition maybe_effect returned result_of runs charged_run call_by calls_to run_of eval meaning_of with_top with_two unwind left_block broken_off continued pointer_in slot_pointer begun called called_through returned_to step_at_place step_of step_at drive run_code digit_put letter_put
literal_write_row = refl

-- act 6: pointer arithmetic on null, or that leaves the object and its end
--     "a" PointerArithmetic    int main(void){int a[2]; int *p=a; p=p+2; putchar(97); p=p+1; putchar(98);}
--     "" PointerArithmetic    int main(void){int a[2]; int *p=a; p--;}
--     "" PointerArithmetic    int main(void){int *p=NULL; p+0;}
--     "" PointerArithmetic    int main(void){int *p=NULL; return p[0];}
--     "" PointerArithmetic    int main(void){int a[2]; int *p=a+1; p=p+16777215u;}
--     "A"    int main(void){int a[2]; int *p=a+1; p=p+-1; *p=65; putchar(a[0]);}
--     "A" PointerArithmetic    int main(void){char *s="a"; s+=2; putchar(65); s+=1;}
--     "A" PointerArithmetic    int main(void){int *p; {int x[2]; p=x;} p=p+2; putchar(65); p-2; p+1;}
pointer_arithmetic_row :
    map ran (
    plain (unit (function (codes "main") Int ([]) (block ((Local (decl (codes "a") (ArrayOf Int (num 2)) None)) ∷ (Local (decl (codes "p") (Pointer Int) (Some (One (var (codes "a")))))) ∷ (Do_expr (assign (var (codes "p")) (two binary.Add (var (codes "p")) (num 2)))) ∷ (Do_expr (invoke (var (codes "putchar")) ((num 97) ∷ []))) ∷ (Do_expr (assign (var (codes "p")) (two binary.Add (var (codes "p")) (num 1)))) ∷ (Do_expr (invoke (var (codes "putchar")) ((num 98) ∷ []))) ∷ [])) ∷ []))
    ∷ plain (unit (function (codes "main") Int ([]) (block ((Local (decl (codes "a") (ArrayOf Int (num 2)) None)) ∷ (Local (decl (codes "p") (Pointer Int) (Some (One (var (codes "a")))))) ∷ (Do_expr (Step 0 step.PostDec (var (codes "p")))) ∷ [])) ∷ []))
    ∷ plain (unit (function (codes "main") Int ([]) (block ((Local (decl (codes "p") (Pointer Int) (Some (One (Null 0))))) ∷ (Do_expr (two binary.Add (var (codes "p")) (num 0))) ∷ [])) ∷ []))
    ∷ plain (unit (function (codes "main") Int ([]) (block ((Local (decl (codes "p") (Pointer Int) (Some (One (Null 0))))) ∷ (Return 0 (Some (Index 0 (var (codes "p")) (num 0)))) ∷ [])) ∷ []))
    ∷ plain (unit (function (codes "main") Int ([]) (block ((Local (decl (codes "a") (ArrayOf Int (num 2)) None)) ∷ (Local (decl (codes "p") (Pointer Int) (Some (One (two binary.Add (var (codes "a")) (num 1)))))) ∷ (Do_expr (assign (var (codes "p")) (two binary.Add (var (codes "p")) (Number 0 16777215 true)))) ∷ [])) ∷ []))
    ∷ plain (unit (function (codes "main") Int ([]) (block ((Local (decl (codes "a") (ArrayOf Int (num 2)) None)) ∷ (Local (decl (codes "p") (Pointer Int) (Some (One (two binary.Add (var (codes "a")) (num 1)))))) ∷ (Do_expr (assign (var (codes "p")) (two binary.Add (var (codes "p")) (one unary.Minus (num 1))))) ∷ (Do_expr (assign (one unary.Deref (var (codes "p"))) (num 65))) ∷ (Do_expr (invoke (var (codes "putchar")) ((Index 0 (var (codes "a")) (num 0)) ∷ []))) ∷ [])) ∷ []))
    ∷ plain (unit (function (codes "main") Int ([]) (block ((Local (decl (codes "s") (Pointer Char) (Some (One (Str 0 (codes "a")))))) ∷ (Do_expr (Assign 0 (Some binary.Add) (var (codes "s")) (num 2))) ∷ (Do_expr (invoke (var (codes "putchar")) ((num 65) ∷ []))) ∷ (Do_expr (Assign 0 (Some binary.Add) (var (codes "s")) (num 1))) ∷ [])) ∷ []))
    ∷ plain (unit (function (codes "main") Int ([]) (block ((Local (decl (codes "p") (Pointer Int) None)) ∷ (block ((Local (decl (codes "x") (ArrayOf Int (num 2)) None)) ∷ (Do_expr (assign (var (codes "p")) (var (codes "x")))) ∷ [])) ∷ (Do_expr (assign (var (codes "p")) (two binary.Add (var (codes "p")) (num 2)))) ∷ (Do_expr (invoke (var (codes "putchar")) ((num 65) ∷ []))) ∷ (Do_expr (two binary.Sub (var (codes "p")) (num 2))) ∷ (Do_expr (two binary.Add (var (codes "p")) (num 1))) ∷ [])) ∷ []))
    ∷ [])
    ≡ (does (Undefined PointerArithmetic) (codes "a") 0
    ∷ does (Undefined PointerArithmetic) [] 0
    ∷ does (Undefined PointerArithmetic) [] 0
    ∷ does (Undefined PointerArithmetic) [] 0
    ∷ does (Undefined PointerArithmetic) [] 0
    ∷ writes (codes "A")
    ∷ does (Undefined PointerArithmetic) (codes "A") 0
    ∷ does (Undefined PointerArithmetic) (codes "A") 0 ∷ [])
unfolding unless choose exit spend spend_spare paid stop put put_all next_byte objects_now with_objects recharged charged_by charged after ◌>>=◌ give undefined read_cell load put_cell write_cell store enter leave within moved member_at equal_pointers pointer_before pointer_difference used of_word word_act word_result on_words pointer_sum pointer_less sum difference equality order operated combined on_word pointer_to value_at pointed_value assigned updated put_string put_string_at convert with_argument put_format printf with_one built_in digits place_named value_named unary_value unary_place stepped assignment cast_value element call_through call used_value condition clear spell first_value go_on turned loop do_loop maybe_condition maybe_effect returned result_of runs charged_run call_by calls_to run_of eval meaning_of with_top with_two unwind left_block broken_off continued pointer_in slot_pointer begun called called_through returned_to step_at_place step_of step_at drive run_code digit_put letter_put
pointer_arithmetic_row = refl

-- act 7: order or difference with null, or of pointers into different objects, or a difference that is no whole number of elements
--     "" PointerOrder    int main(void){int a; int b; return &a<&b;}
--     "" PointerOrder    int main(void){int a; int *p=NULL; return &a>=p;}
--     "" PointerOrder    int main(void){int *p=NULL; int *q=NULL; return p-q;}
--     "" PointerOrder    int main(void){int a; int b; return &a-&b;}
--     "" PointerOrder    int main(void){return "a"-"a";}
--     "1" PointerOrder    struct s{int x; int y;}; int main(void){struct s a[2]; void *v=&a[0].y; struct s *p=v; putchar(48+(&a[1]-a)); return p-a;}
--     "110"    int main(void){int *p; int *q; {int a[2]; p=a; q=a+1;} printf("%d%d%d",p<q,q-p,p>q);}
pointer_order_row :
    map ran (
    plain (unit (function (codes "main") Int ([]) (block ((Local (decl (codes "a") Int None)) ∷ (Local (decl (codes "b") Int None)) ∷ (Return 0 (Some (two binary.Lt (one unary.Address (var (codes "a"))) (one unary.Address (var (codes "b")))))) ∷ [])) ∷ []))
    ∷ plain (unit (function (codes "main") Int ([]) (block ((Local (decl (codes "a") Int None)) ∷ (Local (decl (codes "p") (Pointer Int) (Some (One (Null 0))))) ∷ (Return 0 (Some (two binary.Ge (one unary.Address (var (codes "a"))) (var (codes "p"))))) ∷ [])) ∷ []))
    ∷ plain (unit (function (codes "main") Int ([]) (block ((Local (decl (codes "p") (Pointer Int) (Some (One (Null 0))))) ∷ (Local (decl (codes "q") (Pointer Int) (Some (One (Null 0))))) ∷ (Return 0 (Some (two binary.Sub (var (codes "p")) (var (codes "q"))))) ∷ [])) ∷ []))
    ∷ plain (unit (function (codes "main") Int ([]) (block ((Local (decl (codes "a") Int None)) ∷ (Local (decl (codes "b") Int None)) ∷ (Return 0 (Some (two binary.Sub (one unary.Address (var (codes "a"))) (one unary.Address (var (codes "b")))))) ∷ [])) ∷ []))
    ∷ plain (unit (function (codes "main") Int ([]) (block ((Return 0 (Some (two binary.Sub (Str 0 (codes "a")) (Str 0 (codes "a"))))) ∷ [])) ∷ []))
    ∷ plain (unit (structure (codes "s") ((decl (codes "x") Int None) ∷ (decl (codes "y") Int None) ∷ []) ∷ function (codes "main") Int ([]) (block ((Local (decl (codes "a") (ArrayOf (Struct (codes "s")) (num 2)) None)) ∷ (Local (decl (codes "v") (Pointer Void) (Some (One (one unary.Address (Member 0 (Index 0 (var (codes "a")) (num 0)) (codes "y"))))))) ∷ (Local (decl (codes "p") (Pointer (Struct (codes "s"))) (Some (One (var (codes "v")))))) ∷ (Do_expr (invoke (var (codes "putchar")) ((two binary.Add (num 48) (two binary.Sub (one unary.Address (Index 0 (var (codes "a")) (num 1))) (var (codes "a")))) ∷ []))) ∷ (Return 0 (Some (two binary.Sub (var (codes "p")) (var (codes "a"))))) ∷ [])) ∷ []))
    ∷ plain (unit (function (codes "main") Int ([]) (block ((Local (decl (codes "p") (Pointer Int) None)) ∷ (Local (decl (codes "q") (Pointer Int) None)) ∷ (block ((Local (decl (codes "a") (ArrayOf Int (num 2)) None)) ∷ (Do_expr (assign (var (codes "p")) (var (codes "a")))) ∷ (Do_expr (assign (var (codes "q")) (two binary.Add (var (codes "a")) (num 1)))) ∷ [])) ∷ (Do_expr (invoke (var (codes "printf")) ((Str 0 (codes "%d%d%d")) ∷ (two binary.Lt (var (codes "p")) (var (codes "q"))) ∷ (two binary.Sub (var (codes "q")) (var (codes "p"))) ∷ (two binary.Gt (var (codes "p")) (var (codes "q"))) ∷ []))) ∷ [])) ∷ []))
    ∷ [])
    ≡ (does (Undefined PointerOrder) [] 0
    ∷ does (Undefined PointerOrder) [] 0
    ∷ does (Undefined PointerOrder) [] 0
    ∷ does (Undefined PointerOrder) [] 0
    ∷ does (Undefined PointerOrder) [] 0
    ∷ does (Undefined PointerOrder) (codes "1") 0
    ∷ writes (codes "110") ∷ [])
unfolding unless choose exit spend spend_spare paid stop put put_all next_byte objects_now with_objects recharged charged_by charged after ◌>>=◌ give undefined read_cell load put_cell write_cell store enter leave within moved member_at equal_pointers pointer_before pointer_difference used of_word word_act word_result on_words pointer_sum pointer_less sum difference equality order operated combined on_word pointer_to value_at pointed_value assigned updated put_string put_string_at convert with_argument put_format printf with_one built_in digits place_named value_named unary_value unary_place stepped assignment cast_value element call_through call used_value condition clear spell first_value go_on turned loop do_loop maybe_condition maybe_effect returned result_of runs charged_run call_by calls_to run_of eval meaning_of with_top with_two unwind left_block broken_off continued pointer_in slot_pointer begun called called_through returned_to step_at_place step_of step_at drive run_code digit_put letter_put
pointer_order_row = refl

-- act 8: equality with a pointer to a dead object, or between one object's end and a pointer into another
--     "a" PointerEquality    int main(void){int *p; {int x; p=&x;} putchar(p?97:98); return p==NULL;}
--     "" PointerEquality    int main(void){int *p; {int x; p=&x;} return NULL!=p;}
--     "" PointerEquality    int main(void){int a[1]; int b[1]; return a+1==b;}
--     "" PointerEquality    int main(void){int a[1]; int b[1]; return a!=b+1;}
--     "" PointerEquality    int main(void){int a[1]; char *s="x"; void *v=a+1; return v==s;}
--     "00"    int main(void){int a[1]; int *p=NULL; putchar(48+(a+1==p)); putchar(48+(a+1==a));}
pointer_equality_row :
    map ran (
    plain (unit (function (codes "main") Int ([]) (block ((Local (decl (codes "p") (Pointer Int) None)) ∷ (block ((Local (decl (codes "x") Int None)) ∷ (Do_expr (assign (var (codes "p")) (one unary.Address (var (codes "x"))))) ∷ [])) ∷ (Do_expr (invoke (var (codes "putchar")) ((Cond 0 (var (codes "p")) (num 97) (num 98)) ∷ []))) ∷ (Return 0 (Some (two binary.Eq (var (codes "p")) (Null 0)))) ∷ [])) ∷ []))
    ∷ plain (unit (function (codes "main") Int ([]) (block ((Local (decl (codes "p") (Pointer Int) None)) ∷ (block ((Local (decl (codes "x") Int None)) ∷ (Do_expr (assign (var (codes "p")) (one unary.Address (var (codes "x"))))) ∷ [])) ∷ (Return 0 (Some (two binary.Ne (Null 0) (var (codes "p"))))) ∷ [])) ∷ []))
    ∷ plain (unit (function (codes "main") Int ([]) (block ((Local (decl (codes "a") (ArrayOf Int (num 1)) None)) ∷ (Local (decl (codes "b") (ArrayOf Int (num 1)) None)) ∷ (Return 0 (Some (two binary.Eq (two binary.Add (var (codes "a")) (num 1)) (var (codes "b"))))) ∷ [])) ∷ []))
    ∷ plain (unit (function (codes "main") Int ([]) (block ((Local (decl (codes "a") (ArrayOf Int (num 1)) None)) ∷ (Local (decl (codes "b") (ArrayOf Int (num 1)) None)) ∷ (Return 0 (Some (two binary.Ne (var (codes "a")) (two binary.Add (var (codes "b")) (num 1))))) ∷ [])) ∷ []))
    ∷ plain (unit (function (codes "main") Int ([]) (block ((Local (decl (codes "a") (ArrayOf Int (num 1)) None)) ∷ (Local (decl (codes "s") (Pointer Char) (Some (One (Str 0 (codes "x")))))) ∷ (Local (decl (codes "v") (Pointer Void) (Some (One (two binary.Add (var (codes "a")) (num 1)))))) ∷ (Return 0 (Some (two binary.Eq (var (codes "v")) (var (codes "s"))))) ∷ [])) ∷ []))
    ∷ plain (unit (function (codes "main") Int ([]) (block ((Local (decl (codes "a") (ArrayOf Int (num 1)) None)) ∷ (Local (decl (codes "p") (Pointer Int) (Some (One (Null 0))))) ∷ (Do_expr (invoke (var (codes "putchar")) ((two binary.Add (num 48) (two binary.Eq (two binary.Add (var (codes "a")) (num 1)) (var (codes "p")))) ∷ []))) ∷ (Do_expr (invoke (var (codes "putchar")) ((two binary.Add (num 48) (two binary.Eq (two binary.Add (var (codes "a")) (num 1)) (var (codes "a")))) ∷ []))) ∷ [])) ∷ []))
    ∷ [])
    ≡ (does (Undefined PointerEquality) (codes "a") 0
    ∷ does (Undefined PointerEquality) [] 0
    ∷ does (Undefined PointerEquality) [] 0
    ∷ does (Undefined PointerEquality) [] 0
    ∷ does (Undefined PointerEquality) [] 0
    ∷ writes (codes "00") ∷ [])
unfolding unless choose exit spend spend_spare paid stop put put_all next_byte objects_now with_objects recharged charged_by charged after ◌>>=◌ give undefined read_cell load put_cell write_cell store enter leave within moved member_at equal_pointers pointer_before pointer_difference used of_word word_act word_result on_words pointer_sum pointer_less sum difference equality order operated combined on_word pointer_to value_at pointed_value assigned updated put_string put_string_at convert with_argument put_format printf with_one built_in digits place_named value_named unary_value unary_place stepped assignment cast_value element call_through call used_value condition clear spell first_value go_on turned loop do_loop maybe_condition maybe_effect returned result_of runs charged_run call_by calls_to run_of eval meaning_of with_top with_two unwind left_block broken_off continued pointer_in slot_pointer begun called called_through returned_to step_at_place step_of step_at drive run_code digit_put letter_put
pointer_equality_row = refl

-- act 9: a shift count of 24 or more, taken as unsigned
--     "" ShiftCount    int main(void){int n=24; return 1<<n;}
--     "" ShiftCount    int main(void){int n=-1; return 1>>n;}
--     "-8388608" ShiftCount    int main(void){int a=1; a<<=23; printf("%d",a); a>>=24;}
shift_count_row :
    map ran (
    plain (unit (function (codes "main") Int ([]) (block ((Local (decl (codes "n") Int (Some (One (num 24))))) ∷ (Return 0 (Some (two binary.Shl (num 1) (var (codes "n"))))) ∷ [])) ∷ []))
    ∷ plain (unit (function (codes "main") Int ([]) (block ((Local (decl (codes "n") Int (Some (One (one unary.Minus (num 1)))))) ∷ (Return 0 (Some (two binary.Shr (num 1) (var (codes "n"))))) ∷ [])) ∷ []))
    ∷ plain (unit (function (codes "main") Int ([]) (block ((Local (decl (codes "a") Int (Some (One (num 1))))) ∷ (Do_expr (Assign 0 (Some binary.Shl) (var (codes "a")) (num 23))) ∷ (Do_expr (invoke (var (codes "printf")) ((Str 0 (codes "%d")) ∷ (var (codes "a")) ∷ []))) ∷ (Do_expr (Assign 0 (Some binary.Shr) (var (codes "a")) (num 24))) ∷ [])) ∷ []))
    ∷ [])
    ≡ (does (Undefined ShiftCount) [] 0
    ∷ does (Undefined ShiftCount) [] 0
    ∷ does (Undefined ShiftCount) (codes "-8388608") 0 ∷ [])
unfolding unless choose exit spend spend_spare paid stop put put_all next_byte objects_now with_objects recharged charged_by charged after ◌>>=◌ give undefined read_cell load put_cell write_cell store enter leave within moved member_at equal_pointers pointer_before pointer_difference used of_word word_act word_result on_words pointer_sum pointer_less sum difference equality order operated combined on_word pointer_to value_at pointed_value assigned updated put_string put_string_at convert with_argument put_format printf with_one built_in digits place_named value_named unary_value unary_place stepped assignment cast_value element call_through call used_value condition clear spell first_value go_on turned loop do_loop maybe_condition maybe_effect returned result_of runs charged_run call_by calls_to run_of eval meaning_of with_top with_two unwind left_block broken_off continued pointer_in slot_pointer begun called called_through returned_to step_at_place step_of step_at drive run_code digit_put letter_put
shift_count_row = refl

-- act 10: the use of the result of a function that gave none, once the call has returned
--     "ab" NoResult    int f(void){} int main(void){f(); (void)f(); f(),putchar(97); putchar(98); return f()+putchar(99);}
--     "" NoResult    int f(void){} int main(void){int a=f(); return 0;}
--     "a" NoResult    int f(void){} int main(void){putchar(97); if(f())putchar(98); return 0;}
--     "" NoResult    int f(void){} int g(void){return f();} int main(void){g(); return 0;}
--     "ab"    int f(void){} void v(void){return;} int main(void){putchar(97); 1?f():0; v(); putchar(98); f(); return 0;}
no_result_row :
    map ran (
    plain (unit (function (codes "f") Int ([]) (block ([])) ∷ function (codes "main") Int ([]) (block ((Do_expr (invoke (var (codes "f")) ([]))) ∷ (Do_expr (Cast 0 Void (invoke (var (codes "f")) ([])))) ∷ (Do_expr (Comma 0 (invoke (var (codes "f")) ([])) (invoke (var (codes "putchar")) ((num 97) ∷ [])))) ∷ (Do_expr (invoke (var (codes "putchar")) ((num 98) ∷ []))) ∷ (Return 0 (Some (two binary.Add (invoke (var (codes "f")) ([])) (invoke (var (codes "putchar")) ((num 99) ∷ []))))) ∷ [])) ∷ []))
    ∷ plain (unit (function (codes "f") Int ([]) (block ([])) ∷ function (codes "main") Int ([]) (block ((Local (decl (codes "a") Int (Some (One (invoke (var (codes "f")) ([])))))) ∷ (Return 0 (Some (num 0))) ∷ [])) ∷ []))
    ∷ plain (unit (function (codes "f") Int ([]) (block ([])) ∷ function (codes "main") Int ([]) (block ((Do_expr (invoke (var (codes "putchar")) ((num 97) ∷ []))) ∷ (If (invoke (var (codes "f")) ([])) (Do_expr (invoke (var (codes "putchar")) ((num 98) ∷ [])))) ∷ (Return 0 (Some (num 0))) ∷ [])) ∷ []))
    ∷ plain (unit (function (codes "f") Int ([]) (block ([])) ∷ function (codes "g") Int ([]) (block ((Return 0 (Some (invoke (var (codes "f")) ([])))) ∷ [])) ∷ function (codes "main") Int ([]) (block ((Do_expr (invoke (var (codes "g")) ([]))) ∷ (Return 0 (Some (num 0))) ∷ [])) ∷ []))
    ∷ plain (unit (function (codes "f") Int ([]) (block ([])) ∷ function (codes "v") Void ([]) (block ((Return 0 None) ∷ [])) ∷ function (codes "main") Int ([]) (block ((Do_expr (invoke (var (codes "putchar")) ((num 97) ∷ []))) ∷ (Do_expr (Cond 0 (num 1) (invoke (var (codes "f")) ([])) (num 0))) ∷ (Do_expr (invoke (var (codes "v")) ([]))) ∷ (Do_expr (invoke (var (codes "putchar")) ((num 98) ∷ []))) ∷ (Do_expr (invoke (var (codes "f")) ([]))) ∷ (Return 0 (Some (num 0))) ∷ [])) ∷ []))
    ∷ [])
    ≡ (does (Undefined NoResult) (codes "ab") 0
    ∷ does (Undefined NoResult) [] 0
    ∷ does (Undefined NoResult) (codes "a") 0
    ∷ does (Undefined NoResult) [] 0
    ∷ writes (codes "ab") ∷ [])
unfolding unless choose exit spend spend_spare paid stop put put_all next_byte objects_now with_objects recharged charged_by charged after ◌>>=◌ give undefined read_cell load put_cell write_cell store enter leave within moved member_at equal_pointers pointer_before pointer_difference used of_word word_act word_result on_words pointer_sum pointer_less sum difference equality order operated combined on_word pointer_to value_at pointed_value assigned updated put_string put_string_at convert with_argument put_format printf with_one built_in digits place_named value_named unary_value unary_place stepped assignment cast_value element call_through call used_value condition clear spell first_value go_on turned loop do_loop maybe_condition maybe_effect returned result_of runs charged_run call_by calls_to run_of eval meaning_of with_top with_two unwind left_block broken_off continued pointer_in slot_pointer begun called called_through returned_to step_at_place step_of step_at drive run_code digit_put letter_put
no_result_row = refl

-- act 11: a charge above the limit, tested when the unit of the call was spent; that of the opening call counts
--     "ab"    int f(void){int a[4000000]; return 1;} int main(void){putchar(97); f(); putchar(98); return f();}
--     "aa" ChargeLimit    int f(int n){int a[2000000]; putchar(97); if(n)f(n-1); return 1;} int main(void){f(2); return 0;}
--     "aa" Going    int f(int n){int a[2000000]; putchar(97); if(n)f(n-1); return 1;} int main(void){f(2); return 0;} with 4
--     "" ChargeLimit    int main(void){int a[4193280]; putchar(97);}
charge_limit_row :
    map ran (
    plain (unit (function (codes "f") Int ([]) (block ((Local (decl (codes "a") (ArrayOf Int (num 4000000)) None)) ∷ (Return 0 (Some (num 1))) ∷ [])) ∷ function (codes "main") Int ([]) (block ((Do_expr (invoke (var (codes "putchar")) ((num 97) ∷ []))) ∷ (Do_expr (invoke (var (codes "f")) ([]))) ∷ (Do_expr (invoke (var (codes "putchar")) ((num 98) ∷ []))) ∷ (Return 0 (Some (invoke (var (codes "f")) ([])))) ∷ [])) ∷ []))
    ∷ plain (unit (function (codes "f") Int ((decl (codes "n") Int None) ∷ []) (block ((Local (decl (codes "a") (ArrayOf Int (num 2000000)) None)) ∷ (Do_expr (invoke (var (codes "putchar")) ((num 97) ∷ []))) ∷ (If (var (codes "n")) (Do_expr (invoke (var (codes "f")) ((two binary.Sub (var (codes "n")) (num 1)) ∷ [])))) ∷ (Return 0 (Some (num 1))) ∷ [])) ∷ function (codes "main") Int ([]) (block ((Do_expr (invoke (var (codes "f")) ((num 2) ∷ []))) ∷ (Return 0 (Some (num 0))) ∷ [])) ∷ []))
    ∷ with_input [] 4 (unit (function (codes "f") Int ((decl (codes "n") Int None) ∷ []) (block ((Local (decl (codes "a") (ArrayOf Int (num 2000000)) None)) ∷ (Do_expr (invoke (var (codes "putchar")) ((num 97) ∷ []))) ∷ (If (var (codes "n")) (Do_expr (invoke (var (codes "f")) ((two binary.Sub (var (codes "n")) (num 1)) ∷ [])))) ∷ (Return 0 (Some (num 1))) ∷ [])) ∷ function (codes "main") Int ([]) (block ((Do_expr (invoke (var (codes "f")) ((num 2) ∷ []))) ∷ (Return 0 (Some (num 0))) ∷ [])) ∷ []))
    ∷ plain (unit (function (codes "main") Int ([]) (block ((Local (decl (codes "a") (ArrayOf Int (num 4193280)) None)) ∷ (Do_expr (invoke (var (codes "putchar")) ((num 97) ∷ []))) ∷ [])) ∷ []))
    ∷ [])
    ≡ (writes (codes "ab")
    ∷ does (Undefined ChargeLimit) (codes "aa") 0
    ∷ does Going (codes "aa") 0
    ∷ does (Undefined ChargeLimit) [] 0 ∷ [])
unfolding unless choose exit spend spend_spare paid stop put put_all next_byte objects_now with_objects recharged charged_by charged after ◌>>=◌ give undefined read_cell load put_cell write_cell store enter leave within moved member_at equal_pointers pointer_before pointer_difference used of_word word_act word_result on_words pointer_sum pointer_less sum difference equality order operated combined on_word pointer_to value_at pointed_value assigned updated put_string put_string_at convert with_argument put_format printf with_one built_in digits place_named value_named unary_value unary_place stepped assignment cast_value element call_through call used_value condition clear spell first_value go_on turned loop do_loop maybe_condition maybe_effect returned result_of runs charged_run call_by calls_to run_of eval meaning_of with_top with_two unwind left_block broken_off continued pointer_in slot_pointer begun called called_through returned_to step_at_place step_of step_at drive run_code digit_put letter_put
charge_limit_row = refl

-- act 12: a call through null, told when the arguments were evaluated and the unit was spent
--     "ab" NullCall    int main(void){int (*p)(int); p=NULL; putchar(97); return p(putchar(98));}
--     "ab" Going    int main(void){int (*p)(int); p=NULL; putchar(97); return p(putchar(98));} with 2
null_call_row :
    map ran (
    plain (unit (function (codes "main") Int ([]) (block ((Local (decl (codes "p") (Pointer (Func Int (tys (Int ∷ [])))) None)) ∷ (Do_expr (assign (var (codes "p")) (Null 0))) ∷ (Do_expr (invoke (var (codes "putchar")) ((num 97) ∷ []))) ∷ (Return 0 (Some (invoke (var (codes "p")) ((invoke (var (codes "putchar")) ((num 98) ∷ [])) ∷ [])))) ∷ [])) ∷ []))
    ∷ with_input [] 2 (unit (function (codes "main") Int ([]) (block ((Local (decl (codes "p") (Pointer (Func Int (tys (Int ∷ [])))) None)) ∷ (Do_expr (assign (var (codes "p")) (Null 0))) ∷ (Do_expr (invoke (var (codes "putchar")) ((num 97) ∷ []))) ∷ (Return 0 (Some (invoke (var (codes "p")) ((invoke (var (codes "putchar")) ((num 98) ∷ [])) ∷ [])))) ∷ [])) ∷ []))
    ∷ [])
    ≡ (does (Undefined NullCall) (codes "ab") 0
    ∷ does Going (codes "ab") 0 ∷ [])
unfolding unless choose exit spend spend_spare paid stop put put_all next_byte objects_now with_objects recharged charged_by charged after ◌>>=◌ give undefined read_cell load put_cell write_cell store enter leave within moved member_at equal_pointers pointer_before pointer_difference used of_word word_act word_result on_words pointer_sum pointer_less sum difference equality order operated combined on_word pointer_to value_at pointed_value assigned updated put_string put_string_at convert with_argument put_format printf with_one built_in digits place_named value_named unary_value unary_place stepped assignment cast_value element call_through call used_value condition clear spell first_value go_on turned loop do_loop maybe_condition maybe_effect returned result_of runs charged_run call_by calls_to run_of eval meaning_of with_top with_two unwind left_block broken_off continued pointer_in slot_pointer begun called called_through returned_to step_at_place step_of step_at drive run_code digit_put letter_put
null_call_row = refl

-- the first undefined act ends the run, and of several that apply the lowest is told
--     "a" ZeroDivisor    int main(void){int a; int *p=NULL; putchar(97); a=1/0+*p;}
--     "a" OutsideObject    int main(void){int a; int *p=NULL; putchar(97); a=*p+1/0;}
--     "" OutsideObject    int main(void){int *p; {int x; p=&x;} void *v=p; int **q=v; *q=NULL;}
first_act_row :
    map ran (
    plain (unit (function (codes "main") Int ([]) (block ((Local (decl (codes "a") Int None)) ∷ (Local (decl (codes "p") (Pointer Int) (Some (One (Null 0))))) ∷ (Do_expr (invoke (var (codes "putchar")) ((num 97) ∷ []))) ∷ (Do_expr (assign (var (codes "a")) (two binary.Add (two binary.Div (num 1) (num 0)) (one unary.Deref (var (codes "p")))))) ∷ [])) ∷ []))
    ∷ plain (unit (function (codes "main") Int ([]) (block ((Local (decl (codes "a") Int None)) ∷ (Local (decl (codes "p") (Pointer Int) (Some (One (Null 0))))) ∷ (Do_expr (invoke (var (codes "putchar")) ((num 97) ∷ []))) ∷ (Do_expr (assign (var (codes "a")) (two binary.Add (one unary.Deref (var (codes "p"))) (two binary.Div (num 1) (num 0))))) ∷ [])) ∷ []))
    ∷ plain (unit (function (codes "main") Int ([]) (block ((Local (decl (codes "p") (Pointer Int) None)) ∷ (block ((Local (decl (codes "x") Int None)) ∷ (Do_expr (assign (var (codes "p")) (one unary.Address (var (codes "x"))))) ∷ [])) ∷ (Local (decl (codes "v") (Pointer Void) (Some (One (var (codes "p")))))) ∷ (Local (decl (codes "q") (Pointer (Pointer Int)) (Some (One (var (codes "v")))))) ∷ (Do_expr (assign (one unary.Deref (var (codes "q"))) (Null 0))) ∷ [])) ∷ []))
    ∷ [])
    ≡ (does (Undefined ZeroDivisor) (codes "a") 0
    ∷ does (Undefined OutsideObject) (codes "a") 0
    ∷ does (Undefined OutsideObject) [] 0 ∷ [])
unfolding unless choose exit spend spend_spare paid stop put put_all next_byte objects_now with_objects recharged charged_by charged after ◌>>=◌ give undefined read_cell load put_cell write_cell store enter leave within moved member_at equal_pointers pointer_before pointer_difference used of_word word_act word_result on_words pointer_sum pointer_less sum difference equality order operated combined on_word pointer_to value_at pointed_value assigned updated put_string put_string_at convert with_argument put_format printf with_one built_in digits place_named value_named unary_value unary_place stepped assignment cast_value element call_through call used_value condition clear spell first_value go_on turned loop do_loop maybe_condition maybe_effect returned result_of runs charged_run call_by calls_to run_of eval meaning_of with_top with_two unwind left_block broken_off continued pointer_in slot_pointer begun called called_through returned_to step_at_place step_of step_at drive run_code digit_put letter_put
first_act_row = refl

-- a call, a turn of a loop and a character of a string cost a unit each; the opening call and a switch cost none
--     ""    int main(void){return 0;} with 0
--     ""    int main(void){switch(1){case 1: ;} if(1) {} 1+1;} with 0
--     "" Going    int main(void){putchar(97);} with 0
--     "a"    int main(void){putchar(97);} with 1
--     "" Going    int main(void){puts("ab");} with 0
--     "" Going    int main(void){puts("ab");} with 1
--     "a" Going    int main(void){puts("ab");} with 2
--     "ab\x0a"    int main(void){puts("ab");} with 3
--     "xa" Going    int main(void){printf("x%s%d!","ab",12);} with 2
--     "xab12!"    int main(void){printf("x%s%d!","ab",12);} with 3
--     "" Going    int main(void){for(;;);} with 30
--     ""    int main(void){int i; for(i=0;i<3;i++);} with 3
--     "" Going    int main(void){int i; for(i=0;i<3;i++);} with 2
--     ""    int main(void){int i=0; while(i<3)i++; do i++; while(i<5);} with 5
--     "" Going    int main(void){int i=0; while(i<3)i++; do i++; while(i<5);} with 4
--     ""    int main(void){exit(1);} with 1
--     "" Going    int main(void){exit(1);} with 0
--     "" Going    int main(void){getchar();} with 0
--     ""    int f(int n){if(n)return f(n-1); return 0;} int main(void){f(2);} with 3
--     "" Going    int f(int n){if(n)return f(n-1); return 0;} int main(void){f(2);} with 2
fuel_row :
    map ran (
    with_input [] 0 (unit (function (codes "main") Int ([]) (block ((Return 0 (Some (num 0))) ∷ [])) ∷ []))
    ∷ with_input [] 0 (unit (function (codes "main") Int ([]) (block ((Switch (num 1) (parts ((Label 0 (Some (num 1))) ∷ (Item Empty) ∷ []))) ∷ (If (num 1) (block ([]))) ∷ (Do_expr (two binary.Add (num 1) (num 1))) ∷ [])) ∷ []))
    ∷ with_input [] 0 (unit (function (codes "main") Int ([]) (block ((Do_expr (invoke (var (codes "putchar")) ((num 97) ∷ []))) ∷ [])) ∷ []))
    ∷ with_input [] 1 (unit (function (codes "main") Int ([]) (block ((Do_expr (invoke (var (codes "putchar")) ((num 97) ∷ []))) ∷ [])) ∷ []))
    ∷ with_input [] 0 (unit (function (codes "main") Int ([]) (block ((Do_expr (invoke (var (codes "puts")) ((Str 0 (codes "ab")) ∷ []))) ∷ [])) ∷ []))
    ∷ with_input [] 1 (unit (function (codes "main") Int ([]) (block ((Do_expr (invoke (var (codes "puts")) ((Str 0 (codes "ab")) ∷ []))) ∷ [])) ∷ []))
    ∷ with_input [] 2 (unit (function (codes "main") Int ([]) (block ((Do_expr (invoke (var (codes "puts")) ((Str 0 (codes "ab")) ∷ []))) ∷ [])) ∷ []))
    ∷ with_input [] 3 (unit (function (codes "main") Int ([]) (block ((Do_expr (invoke (var (codes "puts")) ((Str 0 (codes "ab")) ∷ []))) ∷ [])) ∷ []))
    ∷ with_input [] 2 (unit (function (codes "main") Int ([]) (block ((Do_expr (invoke (var (codes "printf")) ((Str 0 (codes "x%s%d!")) ∷ (Str 0 (codes "ab")) ∷ (num 12) ∷ []))) ∷ [])) ∷ []))
    ∷ with_input [] 3 (unit (function (codes "main") Int ([]) (block ((Do_expr (invoke (var (codes "printf")) ((Str 0 (codes "x%s%d!")) ∷ (Str 0 (codes "ab")) ∷ (num 12) ∷ []))) ∷ [])) ∷ []))
    ∷ with_input [] 30 (unit (function (codes "main") Int ([]) (block ((For Empty None None Empty) ∷ [])) ∷ []))
    ∷ with_input [] 3 (unit (function (codes "main") Int ([]) (block ((Local (decl (codes "i") Int None)) ∷ (For (Do_expr (assign (var (codes "i")) (num 0))) (Some (two binary.Lt (var (codes "i")) (num 3))) (Some (Step 0 step.PostInc (var (codes "i")))) Empty) ∷ [])) ∷ []))
    ∷ with_input [] 2 (unit (function (codes "main") Int ([]) (block ((Local (decl (codes "i") Int None)) ∷ (For (Do_expr (assign (var (codes "i")) (num 0))) (Some (two binary.Lt (var (codes "i")) (num 3))) (Some (Step 0 step.PostInc (var (codes "i")))) Empty) ∷ [])) ∷ []))
    ∷ with_input [] 5 (unit (function (codes "main") Int ([]) (block ((Local (decl (codes "i") Int (Some (One (num 0))))) ∷ (While (two binary.Lt (var (codes "i")) (num 3)) (Do_expr (Step 0 step.PostInc (var (codes "i"))))) ∷ (Do (Do_expr (Step 0 step.PostInc (var (codes "i")))) (two binary.Lt (var (codes "i")) (num 5))) ∷ [])) ∷ []))
    ∷ with_input [] 4 (unit (function (codes "main") Int ([]) (block ((Local (decl (codes "i") Int (Some (One (num 0))))) ∷ (While (two binary.Lt (var (codes "i")) (num 3)) (Do_expr (Step 0 step.PostInc (var (codes "i"))))) ∷ (Do (Do_expr (Step 0 step.PostInc (var (codes "i")))) (two binary.Lt (var (codes "i")) (num 5))) ∷ [])) ∷ []))
    ∷ with_input [] 1 (unit (function (codes "main") Int ([]) (block ((Do_expr (invoke (var (codes "exit")) ((num 1) ∷ []))) ∷ [])) ∷ []))
    ∷ with_input [] 0 (unit (function (codes "main") Int ([]) (block ((Do_expr (invoke (var (codes "exit")) ((num 1) ∷ []))) ∷ [])) ∷ []))
    ∷ with_input [] 0 (unit (function (codes "main") Int ([]) (block ((Do_expr (invoke (var (codes "getchar")) ([]))) ∷ [])) ∷ []))
    ∷ with_input [] 3 (unit (function (codes "f") Int ((decl (codes "n") Int None) ∷ []) (block ((If (var (codes "n")) (Return 0 (Some (invoke (var (codes "f")) ((two binary.Sub (var (codes "n")) (num 1)) ∷ []))))) ∷ (Return 0 (Some (num 0))) ∷ [])) ∷ function (codes "main") Int ([]) (block ((Do_expr (invoke (var (codes "f")) ((num 2) ∷ []))) ∷ [])) ∷ []))
    ∷ with_input [] 2 (unit (function (codes "f") Int ((decl (codes "n") Int None) ∷ []) (block ((If (var (codes "n")) (Return 0 (Some (invoke (var (codes "f")) ((two binary.Sub (var (codes "n")) (num 1)) ∷ []))))) ∷ (Return 0 (Some (num 0))) ∷ [])) ∷ function (codes "main") Int ([]) (block ((Do_expr (invoke (var (codes "f")) ((num 2) ∷ []))) ∷ [])) ∷ []))
    ∷ [])
    ≡ (writes []
    ∷ writes []
    ∷ does Going [] 0
    ∷ writes (codes "a")
    ∷ does Going [] 0
    ∷ does Going [] 0
    ∷ does Going (codes "a") 0
    ∷ writes (97 ∷ 98 ∷ 10 ∷ [])
    ∷ does Going (codes "xa") 0
    ∷ writes (codes "xab12!")
    ∷ does Going [] 0
    ∷ writes []
    ∷ does Going [] 0
    ∷ writes []
    ∷ does Going [] 0
    ∷ writes []
    ∷ does Going [] 0
    ∷ does Going [] 0
    ∷ writes []
    ∷ does Going [] 0 ∷ [])
unfolding unless choose exit spend spend_spare paid stop put put_all next_byte objects_now with_objects recharged charged_by charged after ◌>>=◌ give undefined read_cell load put_cell write_cell store enter leave within moved member_at equal_pointers pointer_before pointer_difference used of_word word_act word_result on_words pointer_sum pointer_less sum difference equality order operated combined on_word pointer_to value_at pointed_value assigned updated put_string put_string_at convert with_argument put_format printf with_one built_in digits place_named value_named unary_value unary_place stepped assignment cast_value element call_through call used_value condition clear spell first_value go_on turned loop do_loop maybe_condition maybe_effect returned result_of runs charged_run call_by calls_to run_of eval meaning_of with_top with_two unwind left_block broken_off continued pointer_in slot_pointer begun called called_through returned_to step_at_place step_of step_at drive run_code digit_put letter_put
fuel_row = refl

-- a name is what the innermost declaration says
--     "512"    int x=1; int f(void){return x;} int main(void){int x=2; {int y=x; int x=3; putchar(48+y+x);} putchar(48+f()); putchar(48+x); return 0;}
--     "65"    int id(int x){return x;} int main(void){int (*putchar)(int)=id; int n=putchar(65); printf("%d",n); return 0;}
--     "bcc\x0a"    int p(const char *s){while(*s){putchar(*s+1);s++;} return 0;} int main(void){int (*printf)(const char*)=p; printf("ab"); puts("c"); return 0;}
--     "23"    int x=7; int f(int x){int y=x; {int x=y+1; y=x;} return x*10+y;} int main(void){printf("%d",f(2)); return 0;}
names_row :
    map ran (
    plain (unit (Object (decl (codes "x") Int (Some (One (num 1)))) ∷ function (codes "f") Int ([]) (block ((Return 0 (Some (var (codes "x")))) ∷ [])) ∷ function (codes "main") Int ([]) (block ((Local (decl (codes "x") Int (Some (One (num 2))))) ∷ (block ((Local (decl (codes "y") Int (Some (One (var (codes "x")))))) ∷ (Local (decl (codes "x") Int (Some (One (num 3))))) ∷ (Do_expr (invoke (var (codes "putchar")) ((two binary.Add (two binary.Add (num 48) (var (codes "y"))) (var (codes "x"))) ∷ []))) ∷ [])) ∷ (Do_expr (invoke (var (codes "putchar")) ((two binary.Add (num 48) (invoke (var (codes "f")) ([]))) ∷ []))) ∷ (Do_expr (invoke (var (codes "putchar")) ((two binary.Add (num 48) (var (codes "x"))) ∷ []))) ∷ (Return 0 (Some (num 0))) ∷ [])) ∷ []))
    ∷ plain (unit (function (codes "id") Int ((decl (codes "x") Int None) ∷ []) (block ((Return 0 (Some (var (codes "x")))) ∷ [])) ∷ function (codes "main") Int ([]) (block ((Local (decl (codes "putchar") (Pointer (Func Int (tys (Int ∷ [])))) (Some (One (var (codes "id")))))) ∷ (Local (decl (codes "n") Int (Some (One (invoke (var (codes "putchar")) ((num 65) ∷ [])))))) ∷ (Do_expr (invoke (var (codes "printf")) ((Str 0 (codes "%d")) ∷ (var (codes "n")) ∷ []))) ∷ (Return 0 (Some (num 0))) ∷ [])) ∷ []))
    ∷ plain (unit (function (codes "p") Int ((decl (codes "s") (Pointer Char) None) ∷ []) (block ((While (one unary.Deref (var (codes "s"))) (block ((Do_expr (invoke (var (codes "putchar")) ((two binary.Add (one unary.Deref (var (codes "s"))) (num 1)) ∷ []))) ∷ (Do_expr (Step 0 step.PostInc (var (codes "s")))) ∷ []))) ∷ (Return 0 (Some (num 0))) ∷ [])) ∷ function (codes "main") Int ([]) (block ((Local (decl (codes "printf") (Pointer (Func Int (tys ((Pointer Char) ∷ [])))) (Some (One (var (codes "p")))))) ∷ (Do_expr (invoke (var (codes "printf")) ((Str 0 (codes "ab")) ∷ []))) ∷ (Do_expr (invoke (var (codes "puts")) ((Str 0 (codes "c")) ∷ []))) ∷ (Return 0 (Some (num 0))) ∷ [])) ∷ []))
    ∷ plain (unit (Object (decl (codes "x") Int (Some (One (num 7)))) ∷ function (codes "f") Int ((decl (codes "x") Int None) ∷ []) (block ((Local (decl (codes "y") Int (Some (One (var (codes "x")))))) ∷ (block ((Local (decl (codes "x") Int (Some (One (two binary.Add (var (codes "y")) (num 1)))))) ∷ (Do_expr (assign (var (codes "y")) (var (codes "x")))) ∷ [])) ∷ (Return 0 (Some (two binary.Add (two binary.Mul (var (codes "x")) (num 10)) (var (codes "y"))))) ∷ [])) ∷ function (codes "main") Int ([]) (block ((Do_expr (invoke (var (codes "printf")) ((Str 0 (codes "%d")) ∷ (invoke (var (codes "f")) ((num 2) ∷ [])) ∷ []))) ∷ (Return 0 (Some (num 0))) ∷ [])) ∷ []))
    ∷ [])
    ≡ (writes (codes "512")
    ∷ writes (codes "65")
    ∷ writes (98 ∷ 99 ∷ 99 ∷ 10 ∷ [])
    ∷ writes (codes "23") ∷ [])
unfolding unless choose exit spend spend_spare paid stop put put_all next_byte objects_now with_objects recharged charged_by charged after ◌>>=◌ give undefined read_cell load put_cell write_cell store enter leave within moved member_at equal_pointers pointer_before pointer_difference used of_word word_act word_result on_words pointer_sum pointer_less sum difference equality order operated combined on_word pointer_to value_at pointed_value assigned updated put_string put_string_at convert with_argument put_format printf with_one built_in digits place_named value_named unary_value unary_place stepped assignment cast_value element call_through call used_value condition clear spell first_value go_on turned loop do_loop maybe_condition maybe_effect returned result_of runs charged_run call_by calls_to run_of eval meaning_of with_top with_two unwind left_block broken_off continued pointer_in slot_pointer begun called called_through returned_to step_at_place step_of step_at drive run_code digit_put letter_put
names_row = refl

-- each literal is an object of its own, the same at each evaluation; formats, and what is not evaluated, have none
--     "qqqq10abcd"    char *f(int n){printf("%s","q"); return n?"ab":"cd";} int main(void){char *p=f(1); printf("%d%d%s%s",f(1)==p,f(0)==p,p,f(0)); return 0;}
--     "uvxyz43"    char *s="x"; char *t[2]={"y","z"}; int n[sizeof "abc"]; int main(void){char *p; for(p="uv";*p;p++)putchar(*p); printf("%s%s%s%u%u",s,t[0],t[1],sizeof n,sizeof "ab"); return 0;}
literals_row :
    map ran (
    plain (unit (function (codes "f") (Pointer Char) ((decl (codes "n") Int None) ∷ []) (block ((Do_expr (invoke (var (codes "printf")) ((Str 0 (codes "%s")) ∷ (Str 0 (codes "q")) ∷ []))) ∷ (Return 0 (Some (Cond 0 (var (codes "n")) (Str 0 (codes "ab")) (Str 0 (codes "cd"))))) ∷ [])) ∷ function (codes "main") Int ([]) (block ((Local (decl (codes "p") (Pointer Char) (Some (One (invoke (var (codes "f")) ((num 1) ∷ [])))))) ∷ (Do_expr (invoke (var (codes "printf")) ((Str 0 (codes "%d%d%s%s")) ∷ (two binary.Eq (invoke (var (codes "f")) ((num 1) ∷ [])) (var (codes "p"))) ∷ (two binary.Eq (invoke (var (codes "f")) ((num 0) ∷ [])) (var (codes "p"))) ∷ (var (codes "p")) ∷ (invoke (var (codes "f")) ((num 0) ∷ [])) ∷ []))) ∷ (Return 0 (Some (num 0))) ∷ [])) ∷ []))
    ∷ plain (unit (Object (decl (codes "s") (Pointer Char) (Some (One (Str 0 (codes "x"))))) ∷ Object (decl (codes "t") (ArrayOf (Pointer Char) (num 2)) (Some (Many (values ((One (Str 0 (codes "y"))) ∷ (One (Str 0 (codes "z"))) ∷ []))))) ∷ Object (decl (codes "n") (ArrayOf Int (SizeOf 0 (Str 0 (codes "abc")))) None) ∷ function (codes "main") Int ([]) (block ((Local (decl (codes "p") (Pointer Char) None)) ∷ (For (Do_expr (assign (var (codes "p")) (Str 0 (codes "uv")))) (Some (one unary.Deref (var (codes "p")))) (Some (Step 0 step.PostInc (var (codes "p")))) (Do_expr (invoke (var (codes "putchar")) ((one unary.Deref (var (codes "p"))) ∷ [])))) ∷ (Do_expr (invoke (var (codes "printf")) ((Str 0 (codes "%s%s%s%u%u")) ∷ (var (codes "s")) ∷ (Index 0 (var (codes "t")) (num 0)) ∷ (Index 0 (var (codes "t")) (num 1)) ∷ (SizeOf 0 (var (codes "n"))) ∷ (SizeOf 0 (Str 0 (codes "ab"))) ∷ []))) ∷ (Return 0 (Some (num 0))) ∷ [])) ∷ []))
    ∷ [])
    ≡ (writes (codes "qqqq10abcd")
    ∷ writes (codes "uvxyz43") ∷ [])
unfolding unless choose exit spend spend_spare paid stop put put_all next_byte objects_now with_objects recharged charged_by charged after ◌>>=◌ give undefined read_cell load put_cell write_cell store enter leave within moved member_at equal_pointers pointer_before pointer_difference used of_word word_act word_result on_words pointer_sum pointer_less sum difference equality order operated combined on_word pointer_to value_at pointed_value assigned updated put_string put_string_at convert with_argument put_format printf with_one built_in digits place_named value_named unary_value unary_place stepped assignment cast_value element call_through call used_value condition clear spell first_value go_on turned loop do_loop maybe_condition maybe_effect returned result_of runs charged_run call_by calls_to run_of eval meaning_of with_top with_two unwind left_block broken_off continued pointer_in slot_pointer begun called called_through returned_to step_at_place step_of step_at drive run_code digit_put letter_put
literals_row = refl

-- larger texts
--     "IBM"    int main(void){int c; while((c=getchar())!=-1) putchar(c+1); return 0;} on "HAL"
--     "-3 -1 -8388608 1"    int main(void){printf("%d %d %d %d",-7/2,-7%2,(-8388607-1)/-1,-1<1);return 0;}
--     "x" ZeroDivisor    int main(void){int z; z=0; putchar('x'); return 1/z;}
--     "20b"    int f(int n){int a[3]; a[0]=n; if(n==0) return 0; return f(n-1)+a[0]-n+1;} int main(void){printf("%d",f(20)); if(1) if(0) putchar('a'); else putchar('b'); return 0;}
--     "hello 5"    int abs(int a){return a<0?-a:a;} unsigned strlen(const char *s){unsigned n=0;while(s[n])n++;return n;} int strcmp(const char *a,const char *b){unsigned char x,y;while(*a&&*a==*b){a++;b++;}x=*a;y=*b;return x<y?-1:x>y;} char *strcpy(char *d,const char *s){char *r=d;while(*d++=*s++);return r;} void *memset(void *p,int c,unsigned n){char *q=p;while(n){*q++=c;n--;}return p;} void *memcpy(void *d,const void *s,unsigned n){char *q=d;const char *r=s;while(n){*q++=*r++;n--;}return d;} int main(void){char s[6]; strcpy(s,"hello"); printf("%s %u",s,strlen(s)); return 0;}
--     "-1103xxc\x0ayzc\x0a"    int abs(int a){return a<0?-a:a;} unsigned strlen(const char *s){unsigned n=0;while(s[n])n++;return n;} int strcmp(const char *a,const char *b){unsigned char x,y;while(*a&&*a==*b){a++;b++;}x=*a;y=*b;return x<y?-1:x>y;} char *strcpy(char *d,const char *s){char *r=d;while(*d++=*s++);return r;} void *memset(void *p,int c,unsigned n){char *q=p;while(n){*q++=c;n--;}return p;} void *memcpy(void *d,const void *s,unsigned n){char *q=d;const char *r=s;while(n){*q++=*r++;n--;}return d;} int main(void){char s[4]; strcpy(s,"abc"); printf("%d%d%d%d",strcmp(s,"abd"),strcmp("b",s),strcmp(s,"abc"),abs(-3)); memset(s,120,2); puts(s); memcpy(s,"yz",2); puts(s); return 0;}
--     "@A"    int f(int); void set(int *p){*p=5;} struct s{int (*g)(int); int x;}; int main(void){int a; struct s t; struct s *q=&t; set(&a); t.g=f; q->x=a=3; putchar(60+t.g(a)); putchar(60+q->g(q->x)+sizeof(putchar(97))); return 0;} int f(int a){return a+1;}
--     "a" OutsideObject    int a=7; int *p=0; int *q[2]={0,&a}; int f(int a){return a;} void g(int (*t[])(void)){putchar(48+t[0]());} int main(void){int (*h[1])(int)={f}; void *v=h; if(p==q[0]&&q[1]!=NULL)putchar(97); g(v); return 0;}
--     "a" PointerOrder    int main(void){int a; int *p=&a; putchar(97); return (0?p:0)<p;}
--     "15 10 2"    int main(void){int x; int y=x=5; x+=y*=2; printf("%d %d %u",x,y,sizeof x+sizeof(char*));}
texts_row :
    map ran (
    with_input (codes "HAL") 40 (unit (function (codes "main") Int ([]) (block ((Local (decl (codes "c") Int None)) ∷ (While (two binary.Ne (assign (var (codes "c")) (invoke (var (codes "getchar")) ([]))) (one unary.Minus (num 1))) (Do_expr (invoke (var (codes "putchar")) ((two binary.Add (var (codes "c")) (num 1)) ∷ [])))) ∷ (Return 0 (Some (num 0))) ∷ [])) ∷ []))
    ∷ plain (unit (function (codes "main") Int ([]) (block ((Do_expr (invoke (var (codes "printf")) ((Str 0 (codes "%d %d %d %d")) ∷ (two binary.Div (one unary.Minus (num 7)) (num 2)) ∷ (two binary.Mod (one unary.Minus (num 7)) (num 2)) ∷ (two binary.Div (two binary.Sub (one unary.Minus (num 8388607)) (num 1)) (one unary.Minus (num 1))) ∷ (two binary.Lt (one unary.Minus (num 1)) (num 1)) ∷ []))) ∷ (Return 0 (Some (num 0))) ∷ [])) ∷ []))
    ∷ plain (unit (function (codes "main") Int ([]) (block ((Local (decl (codes "z") Int None)) ∷ (Do_expr (assign (var (codes "z")) (num 0))) ∷ (Do_expr (invoke (var (codes "putchar")) ((num 120) ∷ []))) ∷ (Return 0 (Some (two binary.Div (num 1) (var (codes "z"))))) ∷ [])) ∷ []))
    ∷ plain (unit (function (codes "f") Int ((decl (codes "n") Int None) ∷ []) (block ((Local (decl (codes "a") (ArrayOf Int (num 3)) None)) ∷ (Do_expr (assign (Index 0 (var (codes "a")) (num 0)) (var (codes "n")))) ∷ (If (two binary.Eq (var (codes "n")) (num 0)) (Return 0 (Some (num 0)))) ∷ (Return 0 (Some (two binary.Add (two binary.Sub (two binary.Add (invoke (var (codes "f")) ((two binary.Sub (var (codes "n")) (num 1)) ∷ [])) (Index 0 (var (codes "a")) (num 0))) (var (codes "n"))) (num 1)))) ∷ [])) ∷ function (codes "main") Int ([]) (block ((Do_expr (invoke (var (codes "printf")) ((Str 0 (codes "%d")) ∷ (invoke (var (codes "f")) ((num 20) ∷ [])) ∷ []))) ∷ (If (num 1) (IfElse (num 0) (Do_expr (invoke (var (codes "putchar")) ((num 97) ∷ []))) (Do_expr (invoke (var (codes "putchar")) ((num 98) ∷ []))))) ∷ (Return 0 (Some (num 0))) ∷ [])) ∷ []))
    ∷ plain (unit (function (codes "abs") Int ((decl (codes "a") Int None) ∷ []) (block ((Return 0 (Some (Cond 0 (two binary.Lt (var (codes "a")) (num 0)) (one unary.Minus (var (codes "a"))) (var (codes "a"))))) ∷ [])) ∷ function (codes "strlen") Unsigned ((decl (codes "s") (Pointer Char) None) ∷ []) (block ((Local (decl (codes "n") Unsigned (Some (One (num 0))))) ∷ (While (Index 0 (var (codes "s")) (var (codes "n"))) (Do_expr (Step 0 step.PostInc (var (codes "n"))))) ∷ (Return 0 (Some (var (codes "n")))) ∷ [])) ∷ function (codes "strcmp") Int ((decl (codes "a") (Pointer Char) None) ∷ (decl (codes "b") (Pointer Char) None) ∷ []) (block ((Local (decl (codes "x") UChar None)) ∷ (Local (decl (codes "y") UChar None)) ∷ (While (two binary.And (one unary.Deref (var (codes "a"))) (two binary.Eq (one unary.Deref (var (codes "a"))) (one unary.Deref (var (codes "b"))))) (block ((Do_expr (Step 0 step.PostInc (var (codes "a")))) ∷ (Do_expr (Step 0 step.PostInc (var (codes "b")))) ∷ []))) ∷ (Do_expr (assign (var (codes "x")) (one unary.Deref (var (codes "a"))))) ∷ (Do_expr (assign (var (codes "y")) (one unary.Deref (var (codes "b"))))) ∷ (Return 0 (Some (Cond 0 (two binary.Lt (var (codes "x")) (var (codes "y"))) (one unary.Minus (num 1)) (two binary.Gt (var (codes "x")) (var (codes "y")))))) ∷ [])) ∷ function (codes "strcpy") (Pointer Char) ((decl (codes "d") (Pointer Char) None) ∷ (decl (codes "s") (Pointer Char) None) ∷ []) (block ((Local (decl (codes "r") (Pointer Char) (Some (One (var (codes "d")))))) ∷ (While (assign (one unary.Deref (Step 0 step.PostInc (var (codes "d")))) (one unary.Deref (Step 0 step.PostInc (var (codes "s"))))) Empty) ∷ (Return 0 (Some (var (codes "r")))) ∷ [])) ∷ function (codes "memset") (Pointer Void) ((decl (codes "p") (Pointer Void) None) ∷ (decl (codes "c") Int None) ∷ (decl (codes "n") Unsigned None) ∷ []) (block ((Local (decl (codes "q") (Pointer Char) (Some (One (var (codes "p")))))) ∷ (While (var (codes "n")) (block ((Do_expr (assign (one unary.Deref (Step 0 step.PostInc (var (codes "q")))) (var (codes "c")))) ∷ (Do_expr (Step 0 step.PostDec (var (codes "n")))) ∷ []))) ∷ (Return 0 (Some (var (codes "p")))) ∷ [])) ∷ function (codes "memcpy") (Pointer Void) ((decl (codes "d") (Pointer Void) None) ∷ (decl (codes "s") (Pointer Void) None) ∷ (decl (codes "n") Unsigned None) ∷ []) (block ((Local (decl (codes "q") (Pointer Char) (Some (One (var (codes "d")))))) ∷ (Local (decl (codes "r") (Pointer Char) (Some (One (var (codes "s")))))) ∷ (While (var (codes "n")) (block ((Do_expr (assign (one unary.Deref (Step 0 step.PostInc (var (codes "q")))) (one unary.Deref (Step 0 step.PostInc (var (codes "r")))))) ∷ (Do_expr (Step 0 step.PostDec (var (codes "n")))) ∷ []))) ∷ (Return 0 (Some (var (codes "d")))) ∷ [])) ∷ function (codes "main") Int ([]) (block ((Local (decl (codes "s") (ArrayOf Char (num 6)) None)) ∷ (Do_expr (invoke (var (codes "strcpy")) ((var (codes "s")) ∷ (Str 0 (codes "hello")) ∷ []))) ∷ (Do_expr (invoke (var (codes "printf")) ((Str 0 (codes "%s %u")) ∷ (var (codes "s")) ∷ (invoke (var (codes "strlen")) ((var (codes "s")) ∷ [])) ∷ []))) ∷ (Return 0 (Some (num 0))) ∷ [])) ∷ []))
    ∷ plain (unit (function (codes "abs") Int ((decl (codes "a") Int None) ∷ []) (block ((Return 0 (Some (Cond 0 (two binary.Lt (var (codes "a")) (num 0)) (one unary.Minus (var (codes "a"))) (var (codes "a"))))) ∷ [])) ∷ function (codes "strlen") Unsigned ((decl (codes "s") (Pointer Char) None) ∷ []) (block ((Local (decl (codes "n") Unsigned (Some (One (num 0))))) ∷ (While (Index 0 (var (codes "s")) (var (codes "n"))) (Do_expr (Step 0 step.PostInc (var (codes "n"))))) ∷ (Return 0 (Some (var (codes "n")))) ∷ [])) ∷ function (codes "strcmp") Int ((decl (codes "a") (Pointer Char) None) ∷ (decl (codes "b") (Pointer Char) None) ∷ []) (block ((Local (decl (codes "x") UChar None)) ∷ (Local (decl (codes "y") UChar None)) ∷ (While (two binary.And (one unary.Deref (var (codes "a"))) (two binary.Eq (one unary.Deref (var (codes "a"))) (one unary.Deref (var (codes "b"))))) (block ((Do_expr (Step 0 step.PostInc (var (codes "a")))) ∷ (Do_expr (Step 0 step.PostInc (var (codes "b")))) ∷ []))) ∷ (Do_expr (assign (var (codes "x")) (one unary.Deref (var (codes "a"))))) ∷ (Do_expr (assign (var (codes "y")) (one unary.Deref (var (codes "b"))))) ∷ (Return 0 (Some (Cond 0 (two binary.Lt (var (codes "x")) (var (codes "y"))) (one unary.Minus (num 1)) (two binary.Gt (var (codes "x")) (var (codes "y")))))) ∷ [])) ∷ function (codes "strcpy") (Pointer Char) ((decl (codes "d") (Pointer Char) None) ∷ (decl (codes "s") (Pointer Char) None) ∷ []) (block ((Local (decl (codes "r") (Pointer Char) (Some (One (var (codes "d")))))) ∷ (While (assign (one unary.Deref (Step 0 step.PostInc (var (codes "d")))) (one unary.Deref (Step 0 step.PostInc (var (codes "s"))))) Empty) ∷ (Return 0 (Some (var (codes "r")))) ∷ [])) ∷ function (codes "memset") (Pointer Void) ((decl (codes "p") (Pointer Void) None) ∷ (decl (codes "c") Int None) ∷ (decl (codes "n") Unsigned None) ∷ []) (block ((Local (decl (codes "q") (Pointer Char) (Some (One (var (codes "p")))))) ∷ (While (var (codes "n")) (block ((Do_expr (assign (one unary.Deref (Step 0 step.PostInc (var (codes "q")))) (var (codes "c")))) ∷ (Do_expr (Step 0 step.PostDec (var (codes "n")))) ∷ []))) ∷ (Return 0 (Some (var (codes "p")))) ∷ [])) ∷ function (codes "memcpy") (Pointer Void) ((decl (codes "d") (Pointer Void) None) ∷ (decl (codes "s") (Pointer Void) None) ∷ (decl (codes "n") Unsigned None) ∷ []) (block ((Local (decl (codes "q") (Pointer Char) (Some (One (var (codes "d")))))) ∷ (Local (decl (codes "r") (Pointer Char) (Some (One (var (codes "s")))))) ∷ (While (var (codes "n")) (block ((Do_expr (assign (one unary.Deref (Step 0 step.PostInc (var (codes "q")))) (one unary.Deref (Step 0 step.PostInc (var (codes "r")))))) ∷ (Do_expr (Step 0 step.PostDec (var (codes "n")))) ∷ []))) ∷ (Return 0 (Some (var (codes "d")))) ∷ [])) ∷ function (codes "main") Int ([]) (block ((Local (decl (codes "s") (ArrayOf Char (num 4)) None)) ∷ (Do_expr (invoke (var (codes "strcpy")) ((var (codes "s")) ∷ (Str 0 (codes "abc")) ∷ []))) ∷ (Do_expr (invoke (var (codes "printf")) ((Str 0 (codes "%d%d%d%d")) ∷ (invoke (var (codes "strcmp")) ((var (codes "s")) ∷ (Str 0 (codes "abd")) ∷ [])) ∷ (invoke (var (codes "strcmp")) ((Str 0 (codes "b")) ∷ (var (codes "s")) ∷ [])) ∷ (invoke (var (codes "strcmp")) ((var (codes "s")) ∷ (Str 0 (codes "abc")) ∷ [])) ∷ (invoke (var (codes "abs")) ((one unary.Minus (num 3)) ∷ [])) ∷ []))) ∷ (Do_expr (invoke (var (codes "memset")) ((var (codes "s")) ∷ (num 120) ∷ (num 2) ∷ []))) ∷ (Do_expr (invoke (var (codes "puts")) ((var (codes "s")) ∷ []))) ∷ (Do_expr (invoke (var (codes "memcpy")) ((var (codes "s")) ∷ (Str 0 (codes "yz")) ∷ (num 2) ∷ []))) ∷ (Do_expr (invoke (var (codes "puts")) ((var (codes "s")) ∷ []))) ∷ (Return 0 (Some (num 0))) ∷ [])) ∷ []))
    ∷ plain (unit (Function (codes "f") 0 Int ((decl [] Int None) ∷ []) None ∷ function (codes "set") Void ((decl (codes "p") (Pointer Int) None) ∷ []) (block ((Do_expr (assign (one unary.Deref (var (codes "p"))) (num 5))) ∷ [])) ∷ structure (codes "s") ((decl (codes "g") (Pointer (Func Int (tys (Int ∷ [])))) None) ∷ (decl (codes "x") Int None) ∷ []) ∷ function (codes "main") Int ([]) (block ((Local (decl (codes "a") Int None)) ∷ (Local (decl (codes "t") (Struct (codes "s")) None)) ∷ (Local (decl (codes "q") (Pointer (Struct (codes "s"))) (Some (One (one unary.Address (var (codes "t"))))))) ∷ (Do_expr (invoke (var (codes "set")) ((one unary.Address (var (codes "a"))) ∷ []))) ∷ (Do_expr (assign (Member 0 (var (codes "t")) (codes "g")) (var (codes "f")))) ∷ (Do_expr (assign (Arrow 0 (var (codes "q")) (codes "x")) (assign (var (codes "a")) (num 3)))) ∷ (Do_expr (invoke (var (codes "putchar")) ((two binary.Add (num 60) (invoke (Member 0 (var (codes "t")) (codes "g")) ((var (codes "a")) ∷ []))) ∷ []))) ∷ (Do_expr (invoke (var (codes "putchar")) ((two binary.Add (two binary.Add (num 60) (invoke (Arrow 0 (var (codes "q")) (codes "g")) ((Arrow 0 (var (codes "q")) (codes "x")) ∷ []))) (SizeOf 0 (invoke (var (codes "putchar")) ((num 97) ∷ [])))) ∷ []))) ∷ (Return 0 (Some (num 0))) ∷ [])) ∷ function (codes "f") Int ((decl (codes "a") Int None) ∷ []) (block ((Return 0 (Some (two binary.Add (var (codes "a")) (num 1)))) ∷ [])) ∷ []))
    ∷ plain (unit (Object (decl (codes "a") Int (Some (One (num 7)))) ∷ Object (decl (codes "p") (Pointer Int) (Some (One (num 0)))) ∷ Object (decl (codes "q") (ArrayOf (Pointer Int) (num 2)) (Some (Many (values ((One (num 0)) ∷ (One (one unary.Address (var (codes "a")))) ∷ []))))) ∷ function (codes "f") Int ((decl (codes "a") Int None) ∷ []) (block ((Return 0 (Some (var (codes "a")))) ∷ [])) ∷ function (codes "g") Void ((decl (codes "t") (Array (Pointer (Func Int (tys ([]))))) None) ∷ []) (block ((Do_expr (invoke (var (codes "putchar")) ((two binary.Add (num 48) (invoke (Index 0 (var (codes "t")) (num 0)) ([]))) ∷ []))) ∷ [])) ∷ function (codes "main") Int ([]) (block ((Local (decl (codes "h") (ArrayOf (Pointer (Func Int (tys (Int ∷ [])))) (num 1)) (Some (Many (values ((One (var (codes "f"))) ∷ [])))))) ∷ (Local (decl (codes "v") (Pointer Void) (Some (One (var (codes "h")))))) ∷ (If (two binary.And (two binary.Eq (var (codes "p")) (Index 0 (var (codes "q")) (num 0))) (two binary.Ne (Index 0 (var (codes "q")) (num 1)) (Null 0))) (Do_expr (invoke (var (codes "putchar")) ((num 97) ∷ [])))) ∷ (Do_expr (invoke (var (codes "g")) ((var (codes "v")) ∷ []))) ∷ (Return 0 (Some (num 0))) ∷ [])) ∷ []))
    ∷ plain (unit (function (codes "main") Int ([]) (block ((Local (decl (codes "a") Int None)) ∷ (Local (decl (codes "p") (Pointer Int) (Some (One (one unary.Address (var (codes "a"))))))) ∷ (Do_expr (invoke (var (codes "putchar")) ((num 97) ∷ []))) ∷ (Return 0 (Some (two binary.Lt (Cond 0 (num 0) (var (codes "p")) (num 0)) (var (codes "p"))))) ∷ [])) ∷ []))
    ∷ plain (unit (function (codes "main") Int ([]) (block ((Local (decl (codes "x") Int None)) ∷ (Local (decl (codes "y") Int (Some (One (assign (var (codes "x")) (num 5)))))) ∷ (Do_expr (Assign 0 (Some binary.Add) (var (codes "x")) (Assign 0 (Some binary.Mul) (var (codes "y")) (num 2)))) ∷ (Do_expr (invoke (var (codes "printf")) ((Str 0 (codes "%d %d %u")) ∷ (var (codes "x")) ∷ (var (codes "y")) ∷ (two binary.Add (SizeOf 0 (var (codes "x"))) (SizeTy 0 (Pointer Char))) ∷ []))) ∷ [])) ∷ []))
    ∷ [])
    ≡ (does Ended (codes "IBM") 4
    ∷ writes (codes "-3 -1 -8388608 1")
    ∷ does (Undefined ZeroDivisor) (codes "x") 0
    ∷ writes (codes "20b")
    ∷ writes (codes "hello 5")
    ∷ writes (45 ∷ 49 ∷ 49 ∷ 48 ∷ 51 ∷ 120 ∷ 120 ∷ 99 ∷ 10 ∷ 121 ∷ 122 ∷ 99 ∷ 10 ∷ [])
    ∷ writes (codes "@A")
    ∷ does (Undefined OutsideObject) (codes "a") 0
    ∷ does (Undefined PointerOrder) (codes "a") 0
    ∷ writes (codes "15 10 2") ∷ [])
unfolding unless choose exit spend spend_spare paid stop put put_all next_byte objects_now with_objects recharged charged_by charged after ◌>>=◌ give undefined read_cell load put_cell write_cell store enter leave within moved member_at equal_pointers pointer_before pointer_difference used of_word word_act word_result on_words pointer_sum pointer_less sum difference equality order operated combined on_word pointer_to value_at pointed_value assigned updated put_string put_string_at convert with_argument put_format printf with_one built_in digits place_named value_named unary_value unary_place stepped assignment cast_value element call_through call used_value condition clear spell first_value go_on turned loop do_loop maybe_condition maybe_effect returned result_of runs charged_run call_by calls_to run_of eval meaning_of with_top with_two unwind left_block broken_off continued pointer_in slot_pointer begun called called_through returned_to step_at_place step_of step_at drive run_code digit_put letter_put
texts_row = refl
