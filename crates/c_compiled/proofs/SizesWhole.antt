-- The size of the program of a typed text.
use Rattle.std.proofs.Common.{◌≡◌, ℕ, ◌+◌, ◌*◌, ◌≤◌, Bool, true, false, List, [], ◌∷◌, ◌++◌, length, map, Option, Some, None, refl, sym, ap, ◌∙◌, subst, arith, length-append}
use Rattle.std.specs.Prelude.{◌||◌, Ok, Err, IsOk, not, is_none, is_some}
use Rattle.std.specs.List.{list_any, flat_map}
use Rattle.std.proofs.lemmas.List.{length-map}
use Rattle.eir_core.specs.Eir.{size_of}
use Rattle.c_syntax.specs.Plain as plain
use Rattle.c_syntax.specs.Plain.{CTy, CValue, CDecl, CStmt, CItem}
use Rattle.c_syntax.specs.Words.{meaning}
use Rattle.c_types.specs.declared.fault.TypeFault.TheVariants as fault
use Rattle.c_types.specs.Types as type
use Rattle.c_types.specs.Types.{CType, words_of, is_object_type}
use Rattle.c_types.specs.Refusals.{Judged, keeping}
use Rattle.c_types.specs.Scope.{Scope, Object, entered, with_name, is_declared_here}
use Rattle.c_types.specs.Declarations.{first_fitting, declared_type, declared_object, declared, scope_or}
use Rattle.c_types.specs.Units.{with_parameter, declared_parameter, Parameter, parameter, parameter_scope_or, Parameters, all_parameters, Signature, result_type, signature, body_scope, around_body, type_of, may_declare, with_function, body_judged, declared_function, item_judged, all_items, start_scope, is_main, unit_judged}
use Rattle.c_types.specs.Census.{of_type, body_sum, maybe_body_sum, item_sum, items_sum}
use Rattle.c_types.specs.Limits.{initialised_words}
use Rattle.c_eval.specs.State as state
use Rattle.c_eval.specs.Memory.{live_object}
use Rattle.c_eval.specs.Environment.{Environment, type_or_void, object_type_in}
use Rattle.c_eval.specs.LiteralsIn.{stmt_literals}
use Rattle.c_eval.specs.Text.{behind_item, first_cells, file_objects, file_start, Definition, definition_in, item_definitions, definitions, text_of}
use Rattle.c_eval.proofs.Cells.{LaidOut}
use Rattle.c_fitting.specs.Blocks.{ItemsDeclareInBlocks}
use Rattle.c_helpers.specs.Cost.{items_cost, word_count}
use Rattle.c_limited.proofs.Objects.{behind_scope, item_laid}
use Rattle.c_lowered.specs.Locations.{Linking}
use Rattle.c_lowered.specs.Whole.{firsts_given, item_literals, file_literals, letter_words, all_letters, linking_of, cell_word, given_words, data_words, lowered}
use Rattle.c_stated.specs.Counts.{functions_words}
use Rattle.c_stated.proofs.CostsTexts.{text_fits}
use Rattle.c_fewer_types.proofs.Judged.{keeping_is, first_kept}
use Rattle.c_fewer_types.proofs.FewerTypedRules.{after_is, both_is}
use Rattle.c_compiled.specs.Sizes.{SizesFitCosts}
use Rattle.c_compiled.proofs.Letters.{words, letters, letters_are, letters_append, first_letters, body_letters}
use Rattle.c_compiled.proofs.Spelled.{declared_object_type, body_spelled}
use Rattle.c_compiled.proofs.Firsts.{cells_fit}

next : (s : Scope) (item : CItem) (items : List CItem) (r : Scope) → all_items s (item ∷ items) ≡ Ok r → (a : Scope) × ((b : Scope) × (item_judged s item ≡ Ok a) × (all_items (scope_or s (item_judged s item)) items ≡ Ok b) × (◌≡◌ {A = Judged Scope} (Ok b) (Ok r)))
next s item items r e = both_is (item_judged s item) (all_items (scope_or s (item_judged s item)) items) (λ _ inner. Ok inner) r e

-- ---- objects with first values

-- what a declaration at file scope tells
record Declared (s : Scope) (d : CDecl) (r : Scope) : Type 0 where
  type : CType
  is : declared_type s d ≡ Ok type
  fits : Unit {0}
  first : first_fitting (with_name s d.name (Object type)) (record { file = true; pos = d.pos }) type d.first ≡ Ok fits
  tags : r.tags ≡ s.tags

declared_tells : (s : Scope) (d : CDecl) (r : Scope) → declared s true d ≡ Ok r → Declared s d r
declared_tells s d r e =
    let k = after_is (declared_type s d) (λ t. declared_object s true d t) r e in
    let inner : Scope = with_name s d.name (Object k.0) in
    let l = after_is (first_fitting inner (record { file = true; pos = d.pos }) k.0 d.first) (λ _. keeping ((not (is_declared_here s d.name), fault.Twice d.pos) ∷ []) inner) r k.2 in
    let m = keeping_is {A = Scope} ((not (is_declared_here s d.name), fault.Twice d.pos) ∷ []) inner r l.2 in
    record { type = k.0; is = k.1; fits = l.0; first = l.1; tags = sym (ap (λ (z : Scope). z.tags) m.1) }

-- one object of those with first values, and those behind it
given_fit : (w : Linking) (o : Option CValue) (more : List Bool) (x : state.Object) (xs : List state.Object) (n m : ℕ) → ((v : CValue) → o ≡ Some v → length x.cells ≤ n) → length (given_words w more xs) ≤ m → length (given_words w (is_some o ∷ more) (x ∷ xs)) ≤ n + m
given_fit w None more x xs n m own rest = omega (arith, rest)
given_fit w (Some v) more x xs n m own rest =
    let h = own v refl in let a = length-append (map (cell_word w) x.cells) (given_words w more xs) in let b = length-map x.cells (cell_word w) in omega (arith, h, rest, a, b)

-- the words of an object with a first value are in the sum
own_fits : (d : CDecl) (here : Environment) (a : Scope) → LaidOut here.scope.tags → item_judged here.scope (plain.Object d) ≡ Ok a → (v : CValue) → d.first ≡ Some v
    → length (first_cells (object_type_in here.scope d) d.first (record (behind_item (plain.Object d) here) { literals_before = here.literals_before })) ≤ item_sum words here.scope (plain.Object d)
own_fits d here a laid e v some =
    let s : Scope = here.scope in
    let k = declared_tells s d a e in
    let place : Environment = record (behind_item (plain.Object d) here) { literals_before = here.literals_before } in
    let same : place.scope.tags ≡ s.tags = ap (λ (z : Scope). z.tags) (behind_scope (plain.Object d) here) ∙ (ap (λ q. (scope_or s q).tags) e ∙ k.tags) in
    let type : object_type_in s d ≡ k.type = ap type_or_void k.is in
    let object : is_object_type s.tags k.type ≡ true = declared_object_type s d k.type k.is in
    let fits : first_fitting (with_name s d.name (Object k.type)) (record { file = true; pos = d.pos }) k.type (Some v) ≡ Ok k.fits = subst (λ o. first_fitting (with_name s d.name (Object k.type)) (record { file = true; pos = d.pos }) k.type o ≡ Ok k.fits) some k.first in
    let few : length (first_cells k.type (Some v) place) ≤ words_of s.tags k.type = cells_fit (with_name s d.name (Object k.type)) (record { file = true; pos = d.pos }) laid v k.type place k.fits same fits object in
    let there : length (first_cells (object_type_in s d) d.first place) ≡ length (first_cells k.type (Some v) place) = λ i. length (first_cells (type i) (some i) place) in
    let counted : of_type (λ t. 0 + initialised_words s.tags t d.first) (declared_type s d) ≡ 0 + words_of s.tags k.type =
    ap (λ q. of_type (λ t. 0 + initialised_words s.tags t d.first) q) k.is ∙ ap (λ o. 0 + initialised_words s.tags k.type o) some in
    omega (arith, few, there, counted)

objects_fit : (w : Linking) (items : List CItem) (here : Environment) (r : Scope) → LaidOut here.scope.tags → all_items here.scope items ≡ Ok r → length (given_words w (firsts_given items) (file_objects items here)) ≤ items_sum words here.scope items
objects_fit w [] here r laid e = omega arith
objects_fit w (plain.Object d ∷ items) here r laid e =
    let item : CItem = plain.Object d in
    let k = next here.scope item items r e in
    let there : (behind_item item here).scope ≡ scope_or here.scope (item_judged here.scope item) = behind_scope item here in
    let rest : length (given_words w (firsts_given items) (file_objects items (behind_item item here))) ≤ items_sum words (scope_or here.scope (item_judged here.scope item)) items =
    subst (λ z. length (given_words w (firsts_given items) (file_objects items (behind_item item here))) ≤ items_sum words z items) there
    (objects_fit w items (behind_item item here) k.1.0 (subst (λ z. LaidOut z.tags) (sym there) (item_laid here.scope item laid)) (subst (λ z. all_items z items ≡ Ok k.1.0) (sym there) k.1.2)) in
    given_fit w d.first (firsts_given items) (live_object (first_cells (object_type_in here.scope d) d.first (record (behind_item (plain.Object d) here) { literals_before = here.literals_before }))) (file_objects items (behind_item item here)) (item_sum words here.scope item) (items_sum words (scope_or here.scope (item_judged here.scope item)) items) (own_fits d here k.0 laid k.1.1) rest
objects_fit w (plain.StructItem tag ∷ items) here r laid e =
    let item : CItem = plain.StructItem tag in
    let k = next here.scope item items r e in
    let rest = objects_fit w items (behind_item item here) k.1.0 (item_laid here.scope item laid) k.1.2 in omega (arith, rest)
objects_fit w (plain.Function name at result params body ∷ items) here r laid e =
    let item : CItem = plain.Function name at result params body in
    let k = next here.scope item items r e in
    let rest = objects_fit w items (behind_item item here) k.1.0 (item_laid here.scope item laid) k.1.2 in omega (arith, rest)

-- ---- literals

file_letters : (items : List CItem) (here : Environment) → letters (file_literals items here) ≤ items_sum words here.scope items
file_letters [] here = omega arith
file_letters (plain.Object d ∷ items) here =
    let item : CItem = plain.Object d in
    let there : (behind_item item here).scope ≡ scope_or here.scope (item_judged here.scope item) = behind_scope item here in
    let own = first_letters (scope_or here.scope (declared here.scope false d)) (scope_or here.scope (item_judged here.scope item)) d.first in
    let rest : letters (file_literals items (behind_item item here)) ≤ items_sum words (scope_or here.scope (item_judged here.scope item)) items = subst (λ z. letters (file_literals items (behind_item item here)) ≤ items_sum words z items) there (file_letters items (behind_item item here)) in
    let a = letters_append (item_literals item here) (file_literals items (behind_item item here)) in
    omega (arith, own, rest, a)
file_letters (plain.StructItem tag ∷ items) here = let rest = file_letters items (behind_item (plain.StructItem tag) here) in omega (arith, rest)
file_letters (plain.Function name at result params body ∷ items) here = let rest = file_letters items (behind_item (plain.Function name at result params body) here) in omega (arith, rest)

-- those of functions
functions_letters : List Definition → ℕ
functions_letters [] = 0
functions_letters (f ∷ fs) = letters (stmt_literals f.scope f.body) + functions_letters fs

letters_behind : (fs gs : List Definition) → functions_letters (fs ++ gs) ≡ functions_letters fs + functions_letters gs
unfolding functions_letters
letters_behind [] gs = omega arith
letters_behind (f ∷ fs) gs = let k = letters_behind fs gs in omega (arith, k)

all_letters_are : (fs : List Definition) → length (all_letters (map (λ f. (Some f.name, stmt_literals f.scope f.body)) fs)) ≡ functions_letters fs
unfolding functions_letters
all_letters_are [] = refl
all_letters_are (f ∷ fs) =
    let k = all_letters_are fs in
    let own = letters_are (stmt_literals f.scope f.body) in
    let a = length-append (flat_map letter_words (stmt_literals f.scope f.body)) (all_letters (map (λ f. (Some f.name, stmt_literals f.scope f.body)) fs)) in
    omega (arith, k, own, a)

signed_letters : (s : Scope) (name : List ℕ) (params : List CDecl) (body : CStmt) (j : Judged Signature) → functions_letters (definition_in s name params body j) ≤ maybe_body_sum words s name (Some body) j
unfolding functions_letters
signed_letters s name params body (Ok f) = let k = body_letters body (body_scope s name f) (body_scope s name f) in omega (arith, k)
signed_letters s name params body (Err e) = omega arith

item_letters : (s : Scope) (item : CItem) → functions_letters (item_definitions s item) ≤ item_sum words s item
unfolding functions_letters
item_letters s (plain.StructItem tag) = omega arith
item_letters s (plain.Object d) = omega arith
item_letters s (plain.Function name at result params None) = omega arith
item_letters s (plain.Function name at result params (Some body)) = let k = signed_letters s name params body (signature s at result params) in omega (arith, k)

items_letters : (s : Scope) (items : List CItem) → functions_letters (definitions s items) ≤ items_sum words s items
unfolding functions_letters
items_letters s [] = omega arith
items_letters s (item ∷ items) =
    let z : Scope = scope_or s (item_judged s item) in
    let own = item_letters s item in let rest = items_letters z items in let a = letters_behind (item_definitions s item) (definitions z items) in omega (arith, own, rest, a)

-- ---- words that are spelled in functions

with_tags : (s : Scope) (name : List ℕ) (t : CType) → (with_parameter s name t).tags ≡ s.tags
with_tags s [] t = refl
with_tags s (c ∷ cs) t = refl

parameters_tags : (ps : List CDecl) (s : Scope) (r : Parameters) → all_parameters s ps ≡ Ok r → r.scope.tags ≡ s.tags
parameters_tags [] s r e = let same : record { types = type.NoType; scope = s } ≡ r = cc e in sym (ap (λ (z : Parameters). z.scope.tags) same)
parameters_tags (p ∷ ps) s r e =
    let l = both_is (parameter s p) (all_parameters (parameter_scope_or s (parameter s p)) ps) (λ first rest. Ok (record { types = type.MoreType first.ty rest.types; scope = rest.scope })) r e in
    let first : Parameter = l.0 in
    let rest : Parameters = l.1.0 in
    let same : record { types = type.MoreType first.ty rest.types; scope = rest.scope } ≡ r = cc l.1.3 in
    let k = after_is (declared_parameter s p) (λ t. keeping ((not (is_declared_here s p.name), fault.Twice p.pos) ∷ (is_none p.first, fault.Mismatch p.pos) ∷ []) (record { ty = t; scope = with_parameter s p.name t })) first l.1.1 in
    let m = keeping_is {A = Parameter} ((not (is_declared_here s p.name), fault.Twice p.pos) ∷ (is_none p.first, fault.Mismatch p.pos) ∷ []) (record { ty = k.0; scope = with_parameter s p.name k.0 }) first k.2 in
    let there : (parameter_scope_or s (parameter s p)).tags ≡ s.tags = ap (λ q. (parameter_scope_or s q).tags) l.1.1 ∙ (sym (ap (λ (z : Parameter). z.scope.tags) m.1) ∙ with_tags s p.name k.0) in
    sym (ap (λ (z : Parameters). z.scope.tags) same) ∙ (parameters_tags ps (parameter_scope_or s (parameter s p)) rest l.1.2 ∙ there)

body_tags : (s : Scope) (n : List ℕ) (at : ℕ) (result : CTy) (params : List CDecl) (g : Signature) → signature s at result params ≡ Ok g → (body_scope s n g).tags ≡ s.tags
body_tags s n at result params g e =
    let l = both_is (result_type s at result) (all_parameters (entered s) params) (λ t ps. Ok (record { result = t; parameters = ps })) g e in
    let same : record { result = l.0; parameters = l.1.0 } ≡ g = cc l.1.3 in
    sym (ap (λ (z : Signature). z.parameters.scope.tags) same) ∙ parameters_tags params (entered s) l.1.0 l.1.2

spelled_behind : (fs gs : List Definition) → functions_words (fs ++ gs) ≡ functions_words fs + functions_words gs
spelled_behind [] gs = omega arith
spelled_behind (f ∷ fs) gs = let k = spelled_behind fs gs in omega (arith, k)

items_spelled : (items : List CItem) (s r : Scope) → LaidOut s.tags → ItemsDeclareInBlocks items → all_items s items ≡ Ok r → functions_words (definitions s items) ≤ items_sum words s items
items_spelled [] s r laid h e = omega arith
items_spelled (plain.StructItem tag ∷ items) s r laid h e =
    let item : CItem = plain.StructItem tag in let k = next s item items r e in
    let rest = items_spelled items (scope_or s (item_judged s item)) k.1.0 (item_laid s item laid) h.1 k.1.2 in omega (arith, rest)
items_spelled (plain.Object d ∷ items) s r laid h e =
    let item : CItem = plain.Object d in let k = next s item items r e in
    let rest = items_spelled items (scope_or s (item_judged s item)) k.1.0 (item_laid s item laid) h.1 k.1.2 in omega (arith, rest)
items_spelled (plain.Function n at result params None ∷ items) s r laid h e =
    let item : CItem = plain.Function n at result params None in let k = next s item items r e in
    let rest = items_spelled items (scope_or s (item_judged s item)) k.1.0 (item_laid s item laid) h.1 k.1.2 in omega (arith, rest)
items_spelled (plain.Function n at result params (Some body) ∷ items) s r laid h e =
    let item : CItem = plain.Function n at result params (Some body) in
    let k = next s item items r e in
    let z : Scope = scope_or s (item_judged s item) in
    let g = after_is (signature s at result params) (λ g. declared_function s n at (Some body) g) k.0 k.1.1 in
    let b = after_is (body_judged (body_scope s n g.0) (around_body g.0) (Some body)) (λ _. keeping ((may_declare (meaning s.block n) (type_of g.0) true, fault.Twice at) ∷ []) (with_function s n (type_of g.0) true)) k.0 g.2 in
    let own = body_spelled body (body_scope s n g.0) (around_body g.0) b.0 (subst LaidOut (sym (body_tags s n at result params g.0 g.1)) laid) h.0.0 b.1 in
    let has : maybe_body_sum words s n (Some body) (signature s at result params) ≡ body_sum words (body_scope s n g.0) body = ap (λ q. maybe_body_sum words s n (Some body) q) g.1 in
    let there : functions_words (definition_in s n params body (signature s at result params)) ≡ functions_words (definition_in s n params body (Ok g.0)) = ap (λ q. functions_words (definition_in s n params body q)) g.1 in
    let rest = items_spelled items z k.1.0 (item_laid s item laid) h.1 k.1.2 in
    let whole = spelled_behind (definition_in s n params body (signature s at result params)) (definitions z items) in
    omega (arith, own, has, there, rest, whole)

-- ---- the whole

-- a typed text has a function
abbrev HasFunction : List Definition → Type 0
HasFunction fs = (f : Definition) × ((gs : List Definition) × (fs ≡ f ∷ gs))

no_main : (name : List ℕ) (at : ℕ) (result : CTy) (params : List CDecl) → is_main (plain.Function name at result params None) ≡ false
no_main name at plain.Int [] = refl
no_main name at plain.Int (p ∷ ps) = refl
no_main name at result params = refl

has_function : (items : List CItem) (s r : Scope) → all_items s items ≡ Ok r → list_any is_main items ≡ true → HasFunction (definitions s items)
has_function [] s r e h = absurd (cc h)
has_function (plain.StructItem tag ∷ items) s r e h = let k = next s (plain.StructItem tag) items r e in has_function items (scope_or s (item_judged s (plain.StructItem tag))) k.1.0 k.1.2 h
has_function (plain.Object d ∷ items) s r e h = let k = next s (plain.Object d) items r e in has_function items (scope_or s (item_judged s (plain.Object d))) k.1.0 k.1.2 h
has_function (plain.Function name at result params None ∷ items) s r e h =
    let item : CItem = plain.Function name at result params None in
    let k = next s item items r e in
    has_function items (scope_or s (item_judged s item)) k.1.0 k.1.2 (ap (λ b. b || list_any is_main items) (sym (no_main name at result params)) ∙ h)
has_function (plain.Function name at result params (Some body) ∷ items) s r e h =
    let item : CItem = plain.Function name at result params (Some body) in
    let k = next s item items r e in
    let g = after_is (signature s at result params) (λ g. declared_function s name at (Some body) g) k.0 k.1.1 in
    let rest : List Definition = definitions (scope_or s (item_judged s item)) items in (
      record { name = name; result = g.0.result; params = map (λ d. d.name) params; scope = body_scope s name g.0; body = body },
      (rest, ap (λ q. definition_in s name params body q ++ rest) g.1),
    )

ok_is : (r : Judged Scope) → IsOk r → (x : Scope) × (r ≡ Ok x)
ok_is (Ok x) h = (x, refl)
ok_is (Err e) h = absurd (cc h)

-- what is bounded: the program, its functions, the words that are spelled, its data
bounded : (size cost long spelled given file own sum : ℕ) → size + 1 ≤ cost + long + 4 * spelled → long ≡ 1 + (given + (file + own)) → given ≤ sum → file ≤ sum → own ≤ sum → spelled ≤ sum → size ≤ cost + 8 * sum
bounded size cost long spelled given file own sum a b c d e f = omega (arith, a, b, c, d, e, f)

pub sizes_fit_costs : SizesFitCosts
sizes_fit_costs v typed blocks =
    let t = ok_is (unit_judged v) typed in
    let all = after_is (all_items (start_scope v) v.items) (λ s. keeping ((list_any is_main v.items, fault.NoMain v.end) ∷ []) s) t.0 t.1 in
    let m = keeping_is {A = Scope} ((list_any is_main v.items, fault.NoMain v.end) ∷ []) all.0 t.0 all.2 in
    let f = has_function v.items (start_scope v) all.0 all.1 (first_kept (list_any is_main v.items) (fault.NoMain v.end) [] m.0).0 in
    let w : Linking = linking_of v in
    let given : List ℕ = given_words w (firsts_given v.items) (text_of v).objects in
    let file : List (List ℕ) = file_literals v.items (file_start v) in
    let others : List ℕ = all_letters (map (λ f. (Some f.name, stmt_literals f.scope f.body)) (text_of v).functions) in
    let behind : length (given ++ (flat_map letter_words file ++ others)) ≡ length given + (letters file + functions_letters (text_of v).functions) =
    length-append given (flat_map letter_words file ++ others)
    ∙ ap (λ n. length given + n) (length-append (flat_map letter_words file) others ∙ (ap (λ n. n + length others) (letters_are file) ∙ ap (λ n. letters file + n) (all_letters_are (text_of v).functions))) in
    let long : length (data_words v) ≡ 1 + (length given + (letters file + functions_letters (text_of v).functions)) = omega (arith, behind) in
    bounded (size_of (lowered v)) (items_cost v.items) (length (data_words v)) (functions_words (text_of v).functions) (length given) (letters file) (functions_letters (text_of v).functions) (word_count v)
    (text_fits v f.0 f.1.0 f.1.1) long
    (objects_fit w v.items (file_start v) all.0 tt all.1)
    (file_letters v.items (file_start v))
    (items_letters (start_scope v) v.items)
    (items_spelled v.items (start_scope v) all.0 tt blocks all.1)
