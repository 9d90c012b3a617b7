-- A difference of the word 0 and a pointer to wide elements is the same undefined act in the text and with fewer operators.
use Rattle.std.proofs.Common.{◌≡◌, refl}
use Rattle.std.specs.Prelude.{ℕ, Bool, true, false, List, [], ◌∷◌, Option, Some, None, is_ok, codes}
use Rattle.std.specs.Fmt.{digits}
use Rattle.c_syntax.specs.Plain.{CTy, CValue, CDecl, CItem, CUnit}
use Rattle.c_syntax.specs.Plain as plain
use Rattle.c_syntax.specs.declared.tree.UnOp.TheVariants as unary
use Rattle.c_syntax.specs.declared.tree.BinOp.TheVariants as binary
use Rattle.c_types.specs.Units.{unit_judged}
use Rattle.c_eval.specs.State.{PointerOrder}
use Rattle.c_eval.specs.Run.{unless, choose, exit, spend, spend_spare, paid, stop, put, put_all, next_byte, objects_now, with_objects, recharged, charged_by, charged, after, ◌>>=◌, give, undefined}
use Rattle.c_eval.specs.Memory.{read_cell, load, put_cell, write_cell, store, enter, leave, within, moved, member_at, equal_pointers, pointer_before, pointer_difference}
use Rattle.c_eval.specs.Operators.{used, of_word, word_act, word_result, on_words, pointer_sum, pointer_less, sum, difference, equality, order, operated, combined, on_word, pointer_to, value_at, pointed_value, assigned, updated}
use Rattle.c_eval.specs.BuiltIns.{put_string, put_string_at, convert, with_argument, put_format, printf, with_one, built_in}
use Rattle.c_eval.specs.Eval.{place_named, value_named, unary_value, unary_place, stepped, assignment, cast_value, element, call_through, call, used_value, condition, clear, spell, first_value, go_on, turned, loop, do_loop, maybe_condition, maybe_effect, returned}
use Rattle.c_eval.specs.Text.{text_of}
use Rattle.c_eval.specs.Meaning.{result_of, runs, charged_run, call_by, calls_to, run_of, eval, own_rules, meaning_of, meaning_in, End, Undefined, Meaning}
use Rattle.c_eval.specs.Helpers.{leaving, refill, helped, own_charged_by, own_charged, helper_runs, known_or, helper_calls, guarded, helps_to, helper_rules}
use Rattle.c_helpers.specs.Meanings as means
use Rattle.c_helpers.specs.Simple.{desugared, helpers_of}

abbrev decl : List ℕ → CTy → Option CValue → CDecl
decl name t first = record { name = name; pos = 0; ty = t; first = first }

abbrev unit : List CItem → CUnit
unit items = record { items = items; end = 0 }

-- what the run of a typed text shows
abbrev pub of_typed : Bool → Meaning → Option Meaning
of_typed true m = Some m
of_typed false m = None

-- the run of a text with fewer operators, where it is typed
abbrev pub ran : ℕ → ℕ → CUnit → Option Meaning
ran ration fuel u = of_typed (is_ok (unit_judged (desugared u))) (meaning_in (eval (helper_rules (helpers_of ration u) (text_of (desugared u)) []) (text_of (desugared u)) [] fuel))

abbrev pub does : End → List ℕ → Option Meaning
does end output = Some (record { end = end; output = output; taken = 0 })

abbrev text : CUnit
text = unit (
    plain.StructItem (record { name = codes "S"; pos = 0; members = decl (codes "x") plain.Int None ∷ decl (codes "y") plain.Int None ∷ [] })
    ∷ plain.Function (codes "f") 0 plain.Int [] (Some (plain.Block (plain.stmts (plain.Return 0 (Some (plain.Number 0 0 false)) ∷ []))))
    ∷ plain.Function (codes "main") 0 plain.Int [] (Some (plain.Block (plain.stmts (
    plain.Local (decl (codes "a") (plain.ArrayOf (plain.Pointer (plain.Func plain.Int plain.NoTy)) (plain.Number 0 1 false)) (Some (plain.Many (plain.MoreValue (plain.One (plain.Var 0 (codes "f"))) plain.NoValue))))
    ∷ plain.Local (decl (codes "v") (plain.Pointer plain.Void) (Some (plain.One (plain.Var 0 (codes "a")))))
    ∷ plain.Local (decl (codes "b") (plain.Pointer (plain.Pointer (plain.Func (plain.Pointer (plain.Struct (codes "S"))) plain.NoTy))) (Some (plain.One (plain.Var 0 (codes "v")))))
    ∷ plain.Local (decl (codes "s") (plain.Struct (codes "S")) None)
    ∷ plain.Return 0 (Some (plain.Binary 0 binary.Sub (plain.Call 0 (plain.Unary 0 unary.Deref (plain.Var 0 (codes "b"))) plain.NoExpr) (plain.Unary 0 unary.Address (plain.Var 0 (codes "s"))))) ∷ []))))
    ∷ [])

source_row : of_typed (is_ok (unit_judged text)) (meaning_in (eval (own_rules text) (text_of text) [] 9)) ≡ does (Undefined PointerOrder) []
unfolding unless choose exit spend spend_spare paid stop put put_all next_byte objects_now with_objects recharged charged_by charged after ◌>>=◌ give undefined read_cell load put_cell write_cell store enter leave within moved member_at equal_pointers pointer_before pointer_difference used of_word word_act word_result on_words pointer_sum pointer_less sum difference equality order operated combined on_word pointer_to value_at pointed_value assigned updated put_string put_string_at convert with_argument put_format printf with_one built_in digits place_named value_named unary_value unary_place stepped assignment cast_value element call_through call used_value condition clear spell first_value go_on turned loop do_loop maybe_condition maybe_effect returned result_of runs charged_run call_by calls_to run_of eval meaning_of leaving refill helped own_charged_by own_charged helper_runs known_or helper_calls guarded helps_to means.of_one means.of_two means.of_three means.updating means.pointer_sum means.swapped_sum means.moving_sum means.pointer_step means.elements_between means.string_put means.format_put means.piece_put
source_row = refl

fewer_row : ran 512 9 text ≡ does (Undefined PointerOrder) []
unfolding unless choose exit spend spend_spare paid stop put put_all next_byte objects_now with_objects recharged charged_by charged after ◌>>=◌ give undefined read_cell load put_cell write_cell store enter leave within moved member_at equal_pointers pointer_before pointer_difference used of_word word_act word_result on_words pointer_sum pointer_less sum difference equality order operated combined on_word pointer_to value_at pointed_value assigned updated put_string put_string_at convert with_argument put_format printf with_one built_in digits place_named value_named unary_value unary_place stepped assignment cast_value element call_through call used_value condition clear spell first_value go_on turned loop do_loop maybe_condition maybe_effect returned result_of runs charged_run call_by calls_to run_of eval meaning_of leaving refill helped own_charged_by own_charged helper_runs known_or helper_calls guarded helps_to means.of_one means.of_two means.of_three means.updating means.pointer_sum means.swapped_sum means.moving_sum means.pointer_step means.elements_between means.string_put means.format_put means.piece_put
fewer_row = refl
