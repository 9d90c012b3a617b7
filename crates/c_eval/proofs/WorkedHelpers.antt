-- A text with helper functions, and what its runs do.
use Rattle.std.proofs.Common.{◌≡◌, refl}
use Rattle.std.specs.Prelude.{ℕ, false, List, [], ◌∷◌, Option, Some, None, is_ok, codes, if◌then◌else◌}
use Rattle.std.specs.Fmt.{digits}
use Rattle.std.specs.Str.{bytes_eq}
use Rattle.c_syntax.specs.Words.{meaning}
use Rattle.c_syntax.specs.Plain.{Str, Int, Pointer, One, CStmt, Local, Do_expr, While, Return, Object, CUnit}
use Rattle.c_syntax.specs.declared.tree.UnOp.TheVariants as unary
use Rattle.c_syntax.specs.declared.tree.BinOp.TheVariants as binary
use Rattle.c_types.specs.Types as type
use Rattle.c_types.specs.Limits.{answer_to}
use Rattle.c_eval.specs.State.{Value, Missing, ZeroDivisor, OutsideObject, OtherKind, ChargeLimit, HelperLimit, Run}
use Rattle.c_eval.specs.Run.{unless, choose, exit, spend, spend_spare, paid, stop, put, put_all, next_byte, objects_now, with_objects, recharged, charged_by, charged, after, ◌>>=◌, give, undefined}
use Rattle.c_eval.specs.Memory.{read_cell, load, put_cell, write_cell, store, enter, leave, within, moved, member_at, equal_pointers, pointer_before, pointer_difference}
use Rattle.c_eval.specs.Operators.{used, of_word, word_act, word_result, on_words, pointer_sum, pointer_less, sum, difference, equality, order, operated, combined, on_word, pointer_to, value_at, pointed_value, assigned, updated}
use Rattle.c_eval.specs.BuiltIns.{put_string, put_string_at, convert, with_argument, put_format, printf, with_one, built_in}
use Rattle.c_eval.specs.Eval.{place_named, value_named, unary_value, unary_place, stepped, assignment, cast_value, element, call_through, call, used_value, condition, clear, spell, first_value, go_on, turned, loop, do_loop, maybe_condition, maybe_effect, returned}
use Rattle.c_eval.specs.Text.{text_of}
use Rattle.c_eval.specs.Meaning.{result_of, runs, charged_run, call_by, calls_to, run_of, eval, meaning_of, meaning_in, Ended, Going, Undefined, Meaning}
use Rattle.c_eval.specs.Helpers.{Helpers, leaving, refill, helped, own_charged_by, own_charged, helper_runs, known_or, helper_calls, guarded, helps_to, helper_rules}
use Rattle.c_eval.proofs.Worked.{num, var, one, two, assign, invoke, decl, block, function, unit, of_typed, does}

unfoldable two_values : (Value → Value → Run Value) → List Value → Run Value
two_values f (x ∷ y ∷ []) = f x y
two_values f _ = undefined OtherKind

unfoldable one_value : (Value → Run Value) → List Value → Run Value
one_value f (x ∷ []) = f x
one_value f _ = undefined OtherKind

abbrev product : Value → Value → Run Value
product x y = on_words binary.Mul type.Int type.Int x y

abbrev operators : List (List ℕ × (List Value → Run Value))
operators =
    (codes "mul", two_values product)
    ∷ (codes "cube", one_value (λ x. product x x >>= λ y. product y x))
    ∷ (codes "div", two_values (λ x y. on_words binary.Div type.Int type.Int x y))
    ∷ (codes "site", one_value give)
    ∷ (codes "own", one_value give)
    ∷ (codes "see", one_value give)
    ∷ []

-- a unit of the run, and the second fuel anew
abbrev known_functions : ℕ → List (List ℕ × (List Value → Run Value))
known_functions ration = (codes "unit", λ vs. paid false (give Missing)) ∷ (codes "refill", λ vs. refill ration >>= λ _. give Missing) ∷ []

-- helper functions of one charge, with a ration, in a text of one charge
abbrev helpers : ℕ → ℕ → ℕ → Helpers
helpers ration own charge = record {
  charge = λ name. if bytes_eq name (codes "main") then charge else own;
  operator = λ name. meaning operators name;
  known = λ name. meaning (known_functions ration) name;
  ration = ration;
}

abbrev ran : Helpers → ℕ → CUnit → Option Meaning
ran h fuel u = of_typed (is_ok (answer_to u)) (meaning_in (eval (helper_rules h (text_of u) []) (text_of u) [] fuel))

-- `mul` adds as often as told, `cube` calls it twice; `site` writes, and calls `mul`
--     int unit(void){} int refill(void){} int mul(int a,int b){int s=0; while(b){s=s+a; b=b-1;} return s;} int cube(int a){return mul(mul(a,a),a);} int div(int a,int b){return 7;} int site(int x){unit(); putchar(x); refill(); putchar(mul(x,2)); return 0;} int own(int a){int *p=&a; return *p;} int g=5; int see(int a){return g;} int f(void){return 1;}
abbrev with_main : CStmt → CUnit
with_main body = unit (function (codes "unit") Int ([]) (block ([])) ∷ function (codes "refill") Int ([]) (block ([])) ∷ function (codes "mul") Int ((decl (codes "a") Int None) ∷ (decl (codes "b") Int None) ∷ []) (block ((Local (decl (codes "s") Int (Some (One (num 0))))) ∷ (While (var (codes "b")) (block ((Do_expr (assign (var (codes "s")) (two binary.Add (var (codes "s")) (var (codes "a"))))) ∷ (Do_expr (assign (var (codes "b")) (two binary.Sub (var (codes "b")) (num 1)))) ∷ []))) ∷ (Return 0 (Some (var (codes "s")))) ∷ [])) ∷ function (codes "cube") Int ((decl (codes "a") Int None) ∷ []) (block ((Return 0 (Some (invoke (var (codes "mul")) ((invoke (var (codes "mul")) ((var (codes "a")) ∷ (var (codes "a")) ∷ [])) ∷ (var (codes "a")) ∷ [])))) ∷ [])) ∷ function (codes "div") Int ((decl (codes "a") Int None) ∷ (decl (codes "b") Int None) ∷ []) (block ((Return 0 (Some (num 7))) ∷ [])) ∷ function (codes "site") Int ((decl (codes "x") Int None) ∷ []) (block ((Do_expr (invoke (var (codes "unit")) ([]))) ∷ (Do_expr (invoke (var (codes "putchar")) ((var (codes "x")) ∷ []))) ∷ (Do_expr (invoke (var (codes "refill")) ([]))) ∷ (Do_expr (invoke (var (codes "putchar")) ((invoke (var (codes "mul")) ((var (codes "x")) ∷ (num 2) ∷ [])) ∷ []))) ∷ (Return 0 (Some (num 0))) ∷ [])) ∷ function (codes "own") Int ((decl (codes "a") Int None) ∷ []) (block ((Local (decl (codes "p") (Pointer Int) (Some (One (one unary.Address (var (codes "a"))))))) ∷ (Return 0 (Some (one unary.Deref (var (codes "p"))))) ∷ [])) ∷ Object (decl (codes "g") Int (Some (One (num 5)))) ∷ function (codes "see") Int ((decl (codes "a") Int None) ∷ []) (block ((Return 0 (Some (var (codes "g")))) ∷ [])) ∷ function (codes "f") Int ([]) (block ((Return 0 (Some (num 1))) ∷ [])) ∷ function (codes "main") Int [] body ∷ [])

-- a helper function costs no unit of the run, and uses a fuel and words of its own; where its operator is undefined, so is the call
--     Ended "42" ration 7, words 20, charge 20, fuel 1: int main(void){printf("%d",mul(6,7)); return 0;}    -- a helper function costs no unit of the run; its turns are paid from the second fuel
--     HelperLimit "a" ration 6, words 20, charge 20, fuel 2: int main(void){putchar(97); printf("%d",mul(6,7)); return 0;}    -- which is used up here
--     Ended "42 35" ration 7, words 20, charge 20, fuel 1: int main(void){printf("%d %d",mul(6,7),mul(5,7)); return 0;}    -- each call begins with as much
--     Ended "27" ration 8, words 20, charge 20, fuel 1: int main(void){printf("%d",cube(3)); return 0;}    -- a call by a helper function costs a unit of the second fuel
--     HelperLimit "" ration 7, words 20, charge 20, fuel 1: int main(void){printf("%d",cube(3)); return 0;}
--     Ended "27" ration 8, words 512, charge 20, fuel 1: int main(void){printf("%d",cube(3)); return 0;}    -- the charges of a use are together at most 1024
--     HelperLimit "" ration 8, words 513, charge 20, fuel 1: int main(void){printf("%d",cube(3)); return 0;}
--     ZeroDivisor "a" ration 8, words 20, charge 20, fuel 1: int main(void){putchar(97); return div(1,0);}    -- where the operator is undefined, so is the call
--     Ended "!Ba" ration 4, words 20, charge 20, fuel 2: int main(void){site(33); putchar(97); return 0;}    -- a unit of the run, and a second fuel that begins anew
--     Going "" ration 4, words 20, charge 20, fuel 0: int main(void){site(33); putchar(97); return 0;}
--     HelperLimit "!" ration 3, words 20, charge 20, fuel 2: int main(void){site(33); putchar(97); return 0;}
--     HelperLimit "" ration 9, words 20, charge 20, fuel 2: int main(void){return own(1);}    -- a helper function makes no pointer to its own objects
--     OutsideObject "" ration 9, words 20, charge 20, fuel 2: int main(void){g=6; return see(1);}    -- and sees no object of file scope
--     Ended "6" ration 9, words 20, charge 4193280, fuel 2: int main(void){printf("%d",mul(2,3)); return 0;}    -- its charge is not that of the run
--     ChargeLimit "6" ration 9, words 20, charge 4193280, fuel 2: int main(void){printf("%d",mul(2,3)); return f();}
helpers_row :
    (ran (helpers 7 20 20) 1 (with_main (block ((Do_expr (invoke (var (codes "printf")) ((Str 0 (codes "%d")) ∷ (invoke (var (codes "mul")) ((num 6) ∷ (num 7) ∷ [])) ∷ []))) ∷ (Return 0 (Some (num 0))) ∷ [])))
    ∷ ran (helpers 6 20 20) 2 (with_main (block ((Do_expr (invoke (var (codes "putchar")) ((num 97) ∷ []))) ∷ (Do_expr (invoke (var (codes "printf")) ((Str 0 (codes "%d")) ∷ (invoke (var (codes "mul")) ((num 6) ∷ (num 7) ∷ [])) ∷ []))) ∷ (Return 0 (Some (num 0))) ∷ [])))
    ∷ ran (helpers 7 20 20) 1 (with_main (block ((Do_expr (invoke (var (codes "printf")) ((Str 0 (codes "%d %d")) ∷ (invoke (var (codes "mul")) ((num 6) ∷ (num 7) ∷ [])) ∷ (invoke (var (codes "mul")) ((num 5) ∷ (num 7) ∷ [])) ∷ []))) ∷ (Return 0 (Some (num 0))) ∷ [])))
    ∷ ran (helpers 8 20 20) 1 (with_main (block ((Do_expr (invoke (var (codes "printf")) ((Str 0 (codes "%d")) ∷ (invoke (var (codes "cube")) ((num 3) ∷ [])) ∷ []))) ∷ (Return 0 (Some (num 0))) ∷ [])))
    ∷ ran (helpers 7 20 20) 1 (with_main (block ((Do_expr (invoke (var (codes "printf")) ((Str 0 (codes "%d")) ∷ (invoke (var (codes "cube")) ((num 3) ∷ [])) ∷ []))) ∷ (Return 0 (Some (num 0))) ∷ [])))
    ∷ ran (helpers 8 512 20) 1 (with_main (block ((Do_expr (invoke (var (codes "printf")) ((Str 0 (codes "%d")) ∷ (invoke (var (codes "cube")) ((num 3) ∷ [])) ∷ []))) ∷ (Return 0 (Some (num 0))) ∷ [])))
    ∷ ran (helpers 8 513 20) 1 (with_main (block ((Do_expr (invoke (var (codes "printf")) ((Str 0 (codes "%d")) ∷ (invoke (var (codes "cube")) ((num 3) ∷ [])) ∷ []))) ∷ (Return 0 (Some (num 0))) ∷ [])))
    ∷ ran (helpers 8 20 20) 1 (with_main (block ((Do_expr (invoke (var (codes "putchar")) ((num 97) ∷ []))) ∷ (Return 0 (Some (invoke (var (codes "div")) ((num 1) ∷ (num 0) ∷ [])))) ∷ [])))
    ∷ ran (helpers 4 20 20) 2 (with_main (block ((Do_expr (invoke (var (codes "site")) ((num 33) ∷ []))) ∷ (Do_expr (invoke (var (codes "putchar")) ((num 97) ∷ []))) ∷ (Return 0 (Some (num 0))) ∷ [])))
    ∷ ran (helpers 4 20 20) 0 (with_main (block ((Do_expr (invoke (var (codes "site")) ((num 33) ∷ []))) ∷ (Do_expr (invoke (var (codes "putchar")) ((num 97) ∷ []))) ∷ (Return 0 (Some (num 0))) ∷ [])))
    ∷ ran (helpers 3 20 20) 2 (with_main (block ((Do_expr (invoke (var (codes "site")) ((num 33) ∷ []))) ∷ (Do_expr (invoke (var (codes "putchar")) ((num 97) ∷ []))) ∷ (Return 0 (Some (num 0))) ∷ [])))
    ∷ ran (helpers 9 20 20) 2 (with_main (block ((Return 0 (Some (invoke (var (codes "own")) ((num 1) ∷ [])))) ∷ [])))
    ∷ ran (helpers 9 20 20) 2 (with_main (block ((Do_expr (assign (var (codes "g")) (num 6))) ∷ (Return 0 (Some (invoke (var (codes "see")) ((num 1) ∷ [])))) ∷ [])))
    ∷ ran (helpers 9 20 4193280) 2 (with_main (block ((Do_expr (invoke (var (codes "printf")) ((Str 0 (codes "%d")) ∷ (invoke (var (codes "mul")) ((num 2) ∷ (num 3) ∷ [])) ∷ []))) ∷ (Return 0 (Some (num 0))) ∷ [])))
    ∷ ran (helpers 9 20 4193280) 2 (with_main (block ((Do_expr (invoke (var (codes "printf")) ((Str 0 (codes "%d")) ∷ (invoke (var (codes "mul")) ((num 2) ∷ (num 3) ∷ [])) ∷ []))) ∷ (Return 0 (Some (invoke (var (codes "f")) ([])))) ∷ [])))
    ∷ [])
    ≡ (does Ended (codes "42") 0
    ∷ does (Undefined HelperLimit) (codes "a") 0
    ∷ does Ended (codes "42 35") 0
    ∷ does Ended (codes "27") 0
    ∷ does (Undefined HelperLimit) [] 0
    ∷ does Ended (codes "27") 0
    ∷ does (Undefined HelperLimit) [] 0
    ∷ does (Undefined ZeroDivisor) (codes "a") 0
    ∷ does Ended (codes "!Ba") 0
    ∷ does Going [] 0
    ∷ does (Undefined HelperLimit) (codes "!") 0
    ∷ does (Undefined HelperLimit) [] 0
    ∷ does (Undefined OutsideObject) [] 0
    ∷ does Ended (codes "6") 0
    ∷ does (Undefined ChargeLimit) (codes "6") 0
    ∷ [])
unfolding unless choose exit spend spend_spare paid stop put put_all next_byte objects_now with_objects recharged charged_by charged after ◌>>=◌ give undefined read_cell load put_cell write_cell store enter leave within moved member_at equal_pointers pointer_before pointer_difference used of_word word_act word_result on_words pointer_sum pointer_less sum difference equality order operated combined on_word pointer_to value_at pointed_value assigned updated put_string put_string_at convert with_argument put_format printf with_one built_in digits place_named value_named unary_value unary_place stepped assignment cast_value element call_through call used_value condition clear spell first_value go_on turned loop do_loop maybe_condition maybe_effect returned result_of runs charged_run call_by calls_to run_of eval meaning_of leaving refill helped own_charged_by own_charged helper_runs known_or helper_calls guarded helps_to two_values one_value
helpers_row = refl
