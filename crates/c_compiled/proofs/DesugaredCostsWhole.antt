-- The cost of a program with fewer operators, in its parts: helper functions, functions of formats, and the text.
use Rattle.std.proofs.Common.{◌≡◌, ℕ, ◌+◌, ◌*◌, ◌≤◌, List, [], ◌∷◌, ◌++◌, refl, sym, ap, ◌∙◌, subst, arith}
use Rattle.std.specs.Prelude.{map, Ok}
use Rattle.c_syntax.specs.Plain as plain
use Rattle.c_syntax.specs.Plain.{CItem, CUnit}
use Rattle.c_types.specs.Refusals.{Judged}
use Rattle.c_types.specs.Scope.{Scope, file_scope}
use Rattle.c_types.specs.Declarations.{scope_or}
use Rattle.c_types.specs.Units.{item_judged, all_items, start_scope}
use Rattle.c_types.specs.Census.{Tally, items_sum}
use Rattle.c_types.specs.Limits.{string_words, initialised_words, weight_of}
use Rattle.c_types.specs.Room.{kinds_of}
use Rattle.c_helpers.specs.Functions.{print_format}
use Rattle.c_helpers.specs.Cost.{items_cost}
use Rattle.c_helpers.specs.Fewer.{function_of, names_in_bodies}
use Rattle.c_helpers.specs.Simple.{kept, desugared}
use Rattle.c_fewer_types.proofs.FewerTypedRules.{both_is}
use Rattle.c_fewer_items.specs.FewerHeadsLaws.{firsts}
use Rattle.c_programs.specs.Programs.{IsProgram}
use Rattle.c_fewer_names.proofs.Bodies.{bodies_of_programs_are_typed}
use Rattle.c_fewer_names.specs.Names.{fewer_items, kept_in, formats_of, defined_of}
use Rattle.c_fewer_names.proofs.Whole.{typed_as, items_are_fit}
use Rattle.c_fewer_names.proofs.Typed.{front, rest, items_are, between, front_typed, test, stands}
use Rattle.c_compiled.specs.Words.{words, format_words}
use Rattle.c_compiled.proofs.HelperCostsWhole.{helpers_fit}
use Rattle.c_compiled.specs.RoomLaws.{CostsFitRooms}
use Rattle.c_compiled.proofs.RoomSums.{Adds, items_add}
use Rattle.c_compiled.proofs.RoomFormats.{formats_cost, formats_fit, formats_words}
use Rattle.c_compiled.proofs.Distinct.{formats_fit_words}
use Rattle.c_compiled.proofs.RoomTexts.{nodes, text_costs, text_words}

-- ---- externals one behind the other

mapped : {A B : Type 0} (f : A → B) (xs ys : List A) → map f (xs ++ ys) ≡ map f xs ++ map f ys
mapped f [] ys = refl
mapped f (x ∷ xs) ys = ap (λ zs. f x ∷ zs) (mapped f xs ys)

both_cost : (xs ys : List CItem) → items_cost (xs ++ ys) ≡ items_cost xs + items_cost ys
both_cost [] ys = omega arith
both_cost (x ∷ xs) ys = let e = both_cost xs ys in omega (arith, e)

abbrev behind : Scope → List CItem → Scope
behind s [] = s
behind s (item ∷ items) = behind (scope_or s (item_judged s item)) items

both_sum : (c : Tally) (xs ys : List CItem) (s : Scope) → items_sum c s (xs ++ ys) ≡ items_sum c s xs + items_sum c (behind s xs) ys
both_sum c [] ys s = omega arith
both_sum c (x ∷ xs) ys s = let e = both_sum c xs ys (scope_or s (item_judged s x)) in omega (arith, e)

abbrev last : Scope → Scope → Judged Scope
last a b = Ok b

abbrev told : Scope → Judged Scope
told s = Ok s

told_is : (x y : Scope) → told x ≡ told y → x ≡ y
told_is x y e = cc e

behind_is : (xs : List CItem) (s r : Scope) → all_items s xs ≡ Ok r → behind s xs ≡ r
behind_is [] s r e = told_is s r e
behind_is (x ∷ xs) s r e =
    let l = both_is (item_judged s x) (all_items (scope_or s (item_judged s x)) xs) last r e in
    behind_is xs (scope_or s (item_judged s x)) l.1.0 l.1.2 ∙ told_is l.1.0 r l.1.3

-- ---- the parts

abbrev weight : Tally
weight = record { expr = λ s e. 1 + string_words e; node = 1; ty = λ tags t. 0; object = initialised_words }

-- nodes and words are in the weight
both_weigh : Adds nodes words weight
both_weigh = record { expr = λ s e. omega arith; node = omega arith; ty = λ tags t. omega arith; object = λ tags t v. omega arith }

-- of helper functions, of formats' functions and of the text
parts_fit : (items helpers formats text : List CItem) (s m : Scope) (price letters n w k weight : ℕ) → items ≡ (helpers ++ formats) ++ text → all_items s (helpers ++ formats) ≡ Ok m
    → items_cost helpers + 8 * items_sum words s helpers ≤ 2048 * k + 48 → items_cost formats ≤ price → price ≤ 30 * letters + 3 → ((z : Scope) → items_sum words z formats ≡ 0) → items_cost text ≤ 30 * n → items_sum words m text + letters ≤ w → n + w ≤ weight
    → items_cost items + 8 * items_sum words s items ≤ 30 * weight + 2048 * k + 256
parts_fit items helpers formats text s m price letters n w k weight parts typed a b c d e f g =
    subst (λ z. items_cost z + 8 * items_sum words s z ≤ 30 * weight + 2048 * k + 256) (sym parts)
    (let front : List CItem = helpers ++ formats in
    let c1 = both_cost front text in
    let c2 = both_cost helpers formats in
    let w1 = both_sum words front text s in
    let w2 = both_sum words helpers formats s in
    let w3 = d (behind s helpers) in
    let w4 : items_sum words (behind s front) text ≡ items_sum words m text = ap (λ z. items_sum words z text) (behind_is front s m typed) in
    omega (arith, a, b, c, e, f, g, c1, c2, w1, w2, w3, w4))

-- the externals of a program with fewer operators
front_parts : (u : CUnit) (p : IsProgram u) → front u p ≡ map (kept (kept_in u)) (map function_of firsts) ++ map (kept (kept_in u)) (map function_of (map print_format (formats_of u)))
front_parts u p =
    ap (λ z. map (kept (kept_in u)) z) (mapped function_of firsts (map print_format (formats_of u))) ∙ mapped (kept (kept_in u)) (map function_of firsts) (map function_of (map print_format (formats_of u)))

pub costs_fit_rooms : CostsFitRooms
costs_fit_rooms u p =
    let start : Scope = file_scope (defined_of u) in
    let bodies = bodies_of_programs_are_typed u p in
    parts_fit (desugared u).items (map (kept (kept_in u)) (map function_of firsts)) (map (kept (kept_in u)) (map function_of (map print_format (formats_of u)))) (rest u p) start (between u p)
    (formats_cost (formats_of u)) (format_words (names_in_bodies (fewer_items u))) (items_sum nodes (start_scope u) u.items) (items_sum words (start_scope u) u.items) (kinds_of u) (weight_of u)
    (items_are u p ∙ ap (λ z. z ++ rest u p) (front_parts u p))
    (subst (λ z. all_items (file_scope (defined_of u)) z ≡ Ok (between u p)) (front_parts u p) (front_typed u p))
    (helpers_fit u start p)
    (formats_fit (kept_in u) (formats_of u))
    (formats_fit_words (names_in_bodies (fewer_items u)))
    (λ z. formats_words (kept_in u) (formats_of u) z)
    (text_costs (kept_in u) u.items (start_scope u) bodies)
    (text_words (test u p) (kept_in u) u.items (start_scope u) (between u p) (typed_as u p).end (stands u p) (items_are_fit u p) bodies (typed_as u p).items)
    (items_add nodes words weight both_weigh (start_scope u) u.items)
