-- The externals of a program with fewer operators, in two parts: helper functions, and the text behind them.
use Rattle.std.proofs.Common.{◌≡◌, ℕ, List, [], ◌∷◌, ◌++◌, Bool, refl, sym, ap, ◌∙◌, subst}
use Rattle.std.specs.Prelude.{map, Ok}
use Rattle.c_syntax.specs.Plain.{CItem, CUnit}
use Rattle.c_types.specs.Refusals.{Judged, both}
use Rattle.c_types.specs.Scope.{Scope, file_scope, built_ins}
use Rattle.c_types.specs.Declarations.{scope_or}
use Rattle.c_types.specs.Units.{defined_in, item_judged, all_items, start_scope}
use Rattle.c_helpers.specs.Functions.{Helper, print_format}
use Rattle.c_helpers.specs.Fewer.{function_of, fewer_in_items}
use Rattle.c_helpers.specs.Simple.{kept, desugared}
use Rattle.c_fewer_types.proofs.FewerTypedRules.{both_is}
use Rattle.c_fewer_items.specs.Files.{FilesStand}
use Rattle.c_fewer_items.proofs.Items.{AllGo, items_go}
use Rattle.c_fewer_items.specs.FewerHeadsLaws.{firsts, helper_items, file, names_behind}
use Rattle.c_fewer_items.proofs.FewerFrontsProofs.{fronts_are_typed}
use Rattle.c_fewer_items.proofs.Distinct.{formats_are_distinct}
use Rattle.c_fewer_items.proofs.Starts.{starts_stand}
use Rattle.c_programs.specs.Programs.{IsProgram}
use Rattle.c_fewer_names.proofs.Names.{formats_of_programs_are_formats}
use Rattle.c_fewer_names.specs.Names.{fewer_items, kept_in, formats_of, defined_of, passes}
use Rattle.c_fewer_names.proofs.Whole.{TypedAs, typed_as, items_are_fit, helpers_call_defined, names_pass}
use Rattle.c_fewer_names.specs.DesugaredTypedLaws.{ProgramsStayTyped}

-- ---- externals in two parts

mapped : (f : CItem → CItem) (xs ys : List CItem) → map f (xs ++ ys) ≡ map f xs ++ map f ys
mapped f [] ys = refl
mapped f (x ∷ xs) ys = ap (λ zs. f x ∷ zs) (mapped f xs ys)

abbrev told : Scope → Judged Scope
told s = Ok s

abbrev last : Scope → Scope → Judged Scope
last a b = Ok b

told_is : (x y : Scope) → told x ≡ told y → x ≡ y
told_is x y e = cc e

pub both_typed : (xs ys : List CItem) (s r end : Scope) → all_items s xs ≡ Ok r → all_items r ys ≡ Ok end → all_items s (xs ++ ys) ≡ Ok end
both_typed [] ys s r end e k = ap (λ z. all_items z ys) (told_is s r e) ∙ k
both_typed (x ∷ xs) ys s r end e k =
    let l = both_is (item_judged s x) (all_items (scope_or s (item_judged s x)) xs) last r e in
    let more = both_typed xs ys (scope_or s (item_judged s x)) l.1.0 end l.1.2 (ap (λ z. all_items z ys) (told_is l.1.0 r l.1.3) ∙ k) in
    ap (λ q. both q (all_items (scope_or s (item_judged s x)) (xs ++ ys)) last) l.1.1 ∙ ap (λ q. both {A = Scope} {B = Scope} (told l.0) q last) more

-- ---- a program

module _ (u : CUnit) (p : IsProgram u) where
  -- all helper functions
  abbrev pub helpers : List Helper
  helpers = firsts ++ map print_format (formats_of u)

  abbrev pub front : List CItem
  front = helper_items (kept_in u) helpers

  abbrev pub rest : List CItem
  rest = map (kept (kept_in u)) (fewer_items u)

  pub items_are : (desugared u).items ≡ front ++ rest
  items_are = mapped (kept (kept_in u)) (map function_of helpers) (fewer_items u)

  -- the scope between them
  abbrev pub between : Scope
  between = file (defined_of u) (names_behind (kept_in u) (map print_format (formats_of u)) (names_behind (kept_in u) firsts built_ins))

  pub front_typed : all_items (file_scope (defined_of u)) front ≡ Ok between
  front_typed =
      let calls = helpers_call_defined u p in
      fronts_are_typed (kept_in u) (defined_of u) (formats_of u) calls.0 calls.1 (formats_of_programs_are_formats u p) (formats_are_distinct (fewer_items u))

  abbrev pub test : List ℕ → Bool
  test = passes (kept_in u) (defined_in u.items)

  pub stands : FilesStand test (start_scope u) between
  stands = starts_stand test (kept_in u) (formats_of u) (defined_of u) u (names_pass u p)

  pub typed : TypedAs u
  typed = typed_as u p

  pub text_goes : AllGo test (kept_in u) (start_scope u) between u.items rest typed.end
  text_goes = items_go test (kept_in u) u.items (start_scope u) between typed.end stands (items_are_fit u p) typed.items

pub programs_stay_typed : ProgramsStayTyped
programs_stay_typed u p =
    let k = text_goes u p in
    (k.other, ap (λ z. all_items (start_scope (desugared u)) z) (items_are u p) ∙ both_typed (front u p) (rest u p) (file_scope (defined_of u)) (between u p) k.other (front_typed u p) k.is)
