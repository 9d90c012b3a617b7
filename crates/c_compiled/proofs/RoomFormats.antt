-- What the functions of formats cost.
use Rattle.std.proofs.Common.{◌≡◌, ℕ, suc, ◌+◌, ◌*◌, ◌≤◌, Bool, true, false, List, [], ◌∷◌, ◌++◌, map, length, Some, None, refl, arith}
use Rattle.std.specs.Prelude.{◌==◌, Ok, Err, if◌then◌else◌}
use Rattle.std.specs.Option.{option_map_or}
use Rattle.c_syntax.specs.Plain as plain
use Rattle.c_syntax.specs.Plain.{CExpr, CDecl, CStmt, CItem, exprs, stmts}
use Rattle.c_types.specs.Types.{CType}
use Rattle.c_types.specs.Refusals.{Judged}
use Rattle.c_types.specs.Scope.{Scope, contains, entered}
use Rattle.c_types.specs.Operands.{conversions_of}
use Rattle.c_types.specs.Expressions.{names_function, written}
use Rattle.c_types.specs.Declarations.{scope_or}
use Rattle.c_types.specs.Units.{declared_parameter, parameter, parameter_scope_or, Signature, signature, body_scope, item_judged}
use Rattle.c_types.specs.Census.{exprs_sum, ty_sum, of_type, stmt_sum, stmts_sum, parameters_sum, maybe_body_sum, items_sum}
use Rattle.c_helpers.specs.Terms.{number, variable, declaration}
use Rattle.c_helpers.specs.Functions.{unit_name, refill_name, piece_name, put_piece, refill, call_of, argument_name, conversion_type, arguments_from, pieces, print_format}
use Rattle.c_helpers.specs.Cost.{stmts_cost, item_cost, items_cost}
use Rattle.c_helpers.specs.Fewer.{function_of}
use Rattle.c_helpers.specs.Simple.{kept}
use Rattle.c_compiled.specs.Words.{words}

-- ---- cost

-- a byte costs at most 21, as it stands or in a conversion
mutual
  pieces_cost : (format : List ℕ) (i : ℕ) → stmts_cost (stmts (pieces false format i)) ≤ 21 * length format
  pieces_cost [] i = omega arith
  pieces_cost (c ∷ format) i = go (c == 37) (percent_cost format i) (pieces_cost format i)
    where
      go : (b : Bool) → stmts_cost (stmts (pieces true format i)) ≤ 21 * length format + 21 → stmts_cost (stmts (pieces false format i)) ≤ 21 * length format
          → stmts_cost (stmts (if b then pieces true format i else put_piece (number c) ∷ pieces false format i)) ≤ 21 * suc (length format)
      go true h l = omega (arith, h)
      go false h l = omega (arith, l)

  -- behind a `%`, which is counted
  percent_cost : (format : List ℕ) (i : ℕ) → stmts_cost (stmts (pieces true format i)) ≤ 21 * length format + 21
  percent_cost [] i = omega arith
  percent_cost (c ∷ format) i = go (c == 37) (c == 99) (pieces_cost format i) (pieces_cost format (suc i))
    where
      one : CStmt
      one = put_piece (variable (argument_name i))

      two : CStmt
      two = call_of (37 ∷ c ∷ []) (variable (argument_name i) ∷ [])

      go : (b d : Bool) → stmts_cost (stmts (pieces false format i)) ≤ 21 * length format → stmts_cost (stmts (pieces false format (suc i))) ≤ 21 * length format
          → stmts_cost (stmts (if b then put_piece (number c) ∷ pieces false format i else (if d then one ∷ [] else refill ∷ two ∷ []) ++ pieces false format (suc i))) ≤ 21 * suc (length format) + 21
      go true d h l = omega (arith, h)
      go false true h l = omega (arith, l)
      go false false h l = omega (arith, l)

abbrev pub format_cost : List ℕ → ℕ
format_cost format = 21 * length format + 33

abbrev pub formats_cost : List (List ℕ) → ℕ
formats_cost [] = 0
formats_cost (format ∷ formats) = format_cost format + formats_cost formats

pub formats_fit : (names formats : List (List ℕ)) → items_cost (map (kept names) (map function_of (map print_format formats))) ≤ formats_cost formats
formats_fit names [] = omega arith
formats_fit names (format ∷ formats) =
    let f = one (contains names (print_format format).name) in let g = formats_fit names formats in
    omega (arith, f, g)
  where
    one : (b : Bool) → item_cost (plain.Function (print_format format).name 0 plain.Void (print_format format).params (if b then Some (print_format format).body else None)) ≤ format_cost format
    one true = let k = pieces_cost format 0 in omega (arith, k)
    one false = omega arith

-- ---- words

-- of a call of a name
abbrev but_called : Bool → ℕ
but_called b = if b then 0 else 0

no_word : (b : Bool) → but_called b ≡ 0
no_word true = refl
no_word false = refl

pub no_type : (r : Judged CType) → of_type (λ t. 0) r ≡ 0
no_type (Ok t) = refl
no_type (Err e) = refl

call_words : (s : Scope) (f : List ℕ) (es : List CExpr) → exprs_sum words s (exprs es) ≡ 0 → stmt_sum words s (call_of f es) ≡ 0
call_words s f es h = let a = no_word (names_function s (plain.Var 0 f)) in omega (arith, a, h)

mutual
  pieces_words : (s : Scope) (format : List ℕ) (i : ℕ) → stmts_sum words s (stmts (pieces false format i)) ≡ 0
  pieces_words s [] i = refl
  pieces_words s (c ∷ format) i = go (c == 37) (percent_words s format i) (pieces_words s format i)
    where
      go : (b : Bool) → stmts_sum words s (stmts (pieces true format i)) ≡ 0 → stmts_sum words s (stmts (pieces false format i)) ≡ 0
          → stmts_sum words s (stmts (if b then pieces true format i else put_piece (number c) ∷ pieces false format i)) ≡ 0
      go true h l = h
      go false h l = let a = call_words s piece_name (number c ∷ []) refl in omega (arith, a, l)

  percent_words : (s : Scope) (format : List ℕ) (i : ℕ) → stmts_sum words s (stmts (pieces true format i)) ≡ 0
  percent_words s [] i = refl
  percent_words s (c ∷ format) i = go (c == 37) (c == 99) (pieces_words s format i) (pieces_words s format (suc i))
    where
      one : CStmt
      one = put_piece (variable (argument_name i))

      two : CStmt
      two = call_of (37 ∷ c ∷ []) (variable (argument_name i) ∷ [])

      go : (b d : Bool) → stmts_sum words s (stmts (pieces false format i)) ≡ 0 → stmts_sum words s (stmts (pieces false format (suc i))) ≡ 0
          → stmts_sum words s (stmts (if b then put_piece (number c) ∷ pieces false format i else (if d then one ∷ [] else refill ∷ two ∷ []) ++ pieces false format (suc i))) ≡ 0
      go true d h l = let a = call_words s piece_name (number c ∷ []) refl in omega (arith, a, h)
      go false true h l = let a = call_words s piece_name (variable (argument_name i) ∷ []) refl in omega (arith, a, l)
      go false false h l =
          let a = call_words s refill_name [] refl in let b = call_words s (37 ∷ c ∷ []) (variable (argument_name i) ∷ []) refl in omega (arith, a, b, l)

arguments_words : (s : Scope) (letters : List ℕ) (i : ℕ) → parameters_sum words s (arguments_from i letters) ≡ 0
arguments_words s [] i = refl
arguments_words s (letter ∷ letters) i =
    let d : CDecl = declaration (conversion_type letter) (argument_name i) in
    let a = of_letter (letter == 115) (letter == 100) (letter == 99) in let b = no_type (declared_parameter s d) in
    let more = arguments_words (parameter_scope_or s (parameter s d)) letters (suc i) in
    omega (arith, a, b, more)
  where
    of_letter : (x y v : Bool) → ty_sum words s (if x then plain.Pointer plain.Char else if y then plain.Int else if v then plain.Int else plain.Unsigned) ≡ 0
    of_letter true y v = refl
    of_letter false true v = refl
    of_letter false false true = refl
    of_letter false false false = refl

pub formats_words : (names formats : List (List ℕ)) (s : Scope) → items_sum words s (map (kept names) (map function_of (map print_format formats))) ≡ 0
formats_words names [] s = refl
formats_words names (format ∷ formats) s =
    let item : CItem = kept names (function_of (print_format format)) in
    let a = arguments_words (entered s) (option_map_or (λ letters. letters) (conversions_of format) []) 0 in
    let b = no_type (written s 0 plain.Void) in
    let e = body (contains names (print_format format).name) (signature s 0 plain.Void (print_format format).params) in
    let more = formats_words names formats (scope_or s (item_judged s item)) in
    omega (arith, a, b, e, more)
  where
    body : (b : Bool) (r : Judged Signature) → maybe_body_sum words s (print_format format).name (if b then Some (print_format format).body else None) r ≡ 0
    body true (Ok f) =
        let inner : Scope = body_scope s (print_format format).name f in
        let a = call_words inner unit_name [] refl in let k = pieces_words inner format 0 in omega (arith, a, k)
    body true (Err e) = refl
    body false r = refl
