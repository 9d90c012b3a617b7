-- How large the program of a text is.
use Rattle.std.proofs.Common.{◌≡◌, ℕ, suc, ◌+◌, ◌*◌, ◌≤◌, List, [], ◌∷◌, ◌++◌, length, Option, Some, None, Ok, Err, ap, arith, length-append}
use Rattle.std.specs.Prelude.{codes}
use Rattle.std.proofs.lemmas.List.{length-map}
use Rattle.eir_core.specs.Eir.{size_of}
use Rattle.c_syntax.specs.Plain as plain
use Rattle.c_syntax.specs.Plain.{CStmt, CDecl, CItem, CUnit}
use Rattle.c_types.specs.Refusals.{Judged}
use Rattle.c_types.specs.Scope.{Scope}
use Rattle.c_types.specs.Declarations.{scope_or}
use Rattle.c_types.specs.Units.{Signature, signature, item_judged, start_scope}
use Rattle.c_eval.specs.Text.{Definition, definition_in, item_definitions, definitions, text_of}
use Rattle.c_helpers.specs.Cost.{stmt_cost, item_cost, items_cost}
use Rattle.c_place.specs.Code.{jumps}
use Rattle.c_place.proofs.CutLemmas.{jumps_append}
use Rattle.c_place.proofs.Sizes.{cut_size}
use Rattle.c_lowered.specs.Locations.{Linking}
use Rattle.c_lowered.specs.Operations.{wrapped, return_code}
use Rattle.c_lowered.specs.Statements.{targets, stmt_code}
use Rattle.c_lowered.specs.Whole.{function_jumps, function_linking, function_start, functions_code, linking_of, frames, opening_code, whole_code, data_words, words_from, lowered}
use Rattle.c_lowered.proofs.Flowing.{stmt_jumps_are}
use Rattle.c_lowered.proofs.Closing.{code_closes}
use Rattle.c_stated.specs.Counts.{functions_words}
use Rattle.c_stated.proofs.Flows.{stmt_fits}

functions_cost : List Definition → ℕ
functions_cost [] = 0
functions_cost (f ∷ fs) = 12 + stmt_cost f.body + functions_cost fs

-- each function leaves nine
functions_fit : (w : Linking) (names : List (List ℕ × Option ℕ)) (fs : List Definition) (k : ℕ) → length (functions_code w names fs k) + jumps (functions_code w names fs k) + 9 * length fs ≤ functions_cost fs + 4 * functions_words fs
unfolding functions_cost
functions_fit w names [] k = omega arith
functions_fit w names (f ∷ fs) k =
    let body = stmt_code f.body (function_linking w f) (function_start w names f) k (suc (length f.params)) (targets 0 0) in
    let rest = functions_code w names fs (k + function_jumps f) in
    omega (
      arith,
      length-append (body ++ return_code) rest,
      length-append body return_code,
      jumps_append (body ++ return_code) rest,
      jumps_append body return_code,
      (stmt_fits f.body (function_linking w f) (function_start w names f) k (suc (length f.params)) (targets 0 0)).room,
      (stmt_jumps_are f.body (function_linking w f) (function_start w names f) k (suc (length f.params)) (targets 0 0)).count,
      functions_fit w names fs (k + function_jumps f),
    )

-- the functions are externals with a body
cost_append : (fs gs : List Definition) → functions_cost (fs ++ gs) ≡ functions_cost fs + functions_cost gs
unfolding functions_cost
cost_append [] gs = omega arith
cost_append (f ∷ fs) gs = omega (arith, cost_append fs gs)

signed_cost : (s : Scope) (name : List ℕ) (params : List CDecl) (body : CStmt) (j : Judged Signature) → functions_cost (definition_in s name params body j) ≤ 12 + stmt_cost body
unfolding functions_cost
signed_cost s name params body (Ok f) = omega arith
signed_cost s name params body (Err e) = omega arith

item_fits : (s : Scope) (item : CItem) → functions_cost (item_definitions s item) ≤ item_cost item
unfolding functions_cost
item_fits s (plain.StructItem tag) = omega arith
item_fits s (plain.Object d) = omega arith
item_fits s (plain.Function name at result params None) = omega arith
item_fits s (plain.Function name at result params (Some body)) = signed_cost s name params body (signature s at result params)

items_fit : (s : Scope) (items : List CItem) → functions_cost (definitions s items) ≤ items_cost items
unfolding functions_cost
items_fit s [] = omega arith
items_fit s (item ∷ items) =
    omega (arith, cost_append (item_definitions s item) (definitions (scope_or s (item_judged s item)) items), item_fits s item, items_fit (scope_or s (item_judged s item)) items)

pub text_fits : (u : CUnit) (f : Definition) (fs : List Definition) → (text_of u).functions ≡ f ∷ fs → size_of (lowered u) + 1 ≤ items_cost u.items + length (data_words u) + 4 * functions_words (text_of u).functions
unfolding lowered
text_fits u f fs some =
    let opening = opening_code (frames u) ((linking_of u).entry (codes "main")) in
    let code = functions_code (linking_of u) (text_of u).names (text_of u).functions 2 in
    omega (
      arith,
      cut_size (whole_code u) (words_from (data_words u)) (code_closes u),
      length-map (data_words u) wrapped,
      length-append opening code,
      jumps_append opening code,
      functions_fit (linking_of u) (text_of u).names (text_of u).functions 2,
      items_fit (start_scope u) u.items,
      ap length some,
    )
