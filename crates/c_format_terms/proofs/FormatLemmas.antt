-- Sets of names, and the functions of formats.
use Rattle.std.proofs.Common.{◌≡◌, ◌<◌, ◌≤◌, ◌+◌, ℕ, suc, Bool, true, false, not, ◌||◌, List, [], ◌∷◌, ◌++◌, length, map, drop, get_or, Some, refl, sym, ap, subst, ◌∙◌, append_assoc, append-nil, if◌then◌else◌, cond}
use Rattle.std.specs.List.{list_any, filter}
use Rattle.std.specs.Str.{bytes_eq}
use Rattle.std.specs.Cmp.Lexicographic.{bytes_decides}
use Rattle.std.proofs.lemmas.List.{map-append, drop_all, drop_more}
use denote.Ref.{Bor}
use Rattle.c_syntax.specs.Plain as plain
use Rattle.c_syntax.specs.Plain.{CDecl, CStmt, CItem}
use Rattle.c_types.specs.Scope.{contains}
use Rattle.c_helpers.specs.Meanings.{is_format}
use Rattle.c_helpers.specs.Fewer.{distinct}
use Rattle.c_tree_names.specs.Added.{texts}
use Rattle.c_tree_names.specs.Sets.{with_name}
use Rattle.c_tree_names.proofs.SetLemmas.{eq_swap, contains_more}
use Rattle.c_format_terms.specs.Formats.{with_format}

-- an external from its parts
pub function_made : (name n : List ℕ) (params p : List CDecl) (body b : CStmt) → name ≡ n → params ≡ p → body ≡ b → plain.Function name 0 plain.Void params (Some body) ≡ plain.Function n 0 plain.Void p (Some b)
function_made name n params p body b e f g =
    ap (λ (x : List ℕ). plain.Function x 0 plain.Void params (Some body)) e
    ∙ (ap (λ (x : List CDecl). plain.Function n 0 plain.Void x (Some body)) f ∙ ap (λ (x : CStmt). plain.Function n 0 plain.Void p (Some x)) g)

pub format_by : (names : List (List ℕ)) (name : List ℕ) (b : Bool) → is_format name ≡ b → (if b then with_name names name else names) ≡ with_format names name
format_by names name b e = sym (ap (λ (t : Bool). if t then with_name names name else names) e)

-- ---- each name once

-- those of a list that a set hasn't
abbrev pub others : List (List ℕ) → List (List ℕ) → List (List ℕ)
others ks names = filter (λ n. not (contains ks n)) names

known_step : (ks : List (List ℕ)) (k x : List ℕ) (names : List (List ℕ)) → contains ks k ≡ true → others ks (filter (λ o. not (bytes_eq k o)) names) ≡ others ks names → (b : Bool) → bytes_eq k x ≡ b
    → others ks (cond (not b) (x ∷ filter (λ o. not (bytes_eq k o)) names) (filter (λ o. not (bytes_eq k o)) names)) ≡ cond (not (contains ks x)) (x ∷ others ks names) (others ks names)
known_step ks k x names h more true e = more ∙ sym (ap (λ (t : Bool). cond (not t) (x ∷ others ks names) (others ks names)) (ap (contains ks) (sym ((bytes_decides k x).0 e)) ∙ h))
known_step ks k x names h more false e = ap (λ (l : List (List ℕ)). cond (not (contains ks x)) (x ∷ l) l) more

-- a name that the set has need not be taken away
known_first : (ks : List (List ℕ)) (k : List ℕ) (names : List (List ℕ)) → contains ks k ≡ true → others ks (filter (λ o. not (bytes_eq k o)) names) ≡ others ks names
known_first ks k [] h = refl
known_first ks k (x ∷ names) h = known_step ks k x names h (known_first ks k names h) (bytes_eq k x) refl

either : (s t : Bool) (x : List ℕ) (l m : List (List ℕ)) → m ≡ l → cond (not (s || t)) (x ∷ m) m ≡ cond (not t) (cond (not s) (x ∷ l) l) l
either true true x l m e = e
either true false x l m e = e
either false true x l m e = e
either false false x l m e = ap (λ (z : List (List ℕ)). x ∷ z) e

pull : (ks : List (List ℕ)) (t : Bool) (x : List ℕ) (names : List (List ℕ)) → others ks (cond (not t) (x ∷ names) names) ≡ cond (not t) (cond (not (contains ks x)) (x ∷ others ks names) (others ks names)) (others ks names)
pull ks true x names = refl
pull ks false x names = refl

-- a name that comes into the set is taken away
new_first : (ks : List (List ℕ)) (k : List ℕ) (names : List (List ℕ)) → others (ks ++ k ∷ []) names ≡ others ks (filter (λ o. not (bytes_eq k o)) names)
new_first ks k [] = refl
new_first ks k (x ∷ names) =
    let rest = filter (λ o. not (bytes_eq k o)) names in
    ap (λ (t : Bool). cond (not t) (x ∷ others (ks ++ k ∷ []) names) (others (ks ++ k ∷ []) names)) (contains_more ks k x ∙ ap (λ (t : Bool). contains ks x || t) (eq_swap x k))
    ∙ (either (contains ks x) (bytes_eq k x) x (others ks rest) (others (ks ++ k ∷ []) names) (new_first ks k names)
    ∙ sym (pull ks (bytes_eq k x) x rest))

-- the names of a set, and those of what is left that it hasn't
abbrev pub Together : List (List ℕ) → List (List ℕ) → List (List ℕ) → Type 0
Together ks left all = ks ++ others ks (distinct (filter is_format left)) ≡ all

one_by : (ks : List (List ℕ)) (k : List ℕ) (names : List (List ℕ)) (b : Bool) → contains ks k ≡ b
    → (if b then ks else ks ++ k ∷ []) ++ others (if b then ks else ks ++ k ∷ []) names
    ≡ ks ++ cond (not b) (k ∷ others ks (filter (λ o. not (bytes_eq k o)) names)) (others ks (filter (λ o. not (bytes_eq k o)) names))
one_by ks k names true e = ap (λ (l : List (List ℕ)). ks ++ l) (sym (known_first ks k names e))
one_by ks k names false e = append_assoc ks (k ∷ []) (others (ks ++ k ∷ []) names) ∙ ap (λ (l : List (List ℕ)). ks ++ k ∷ l) (new_first ks k names)

one_more : (ks : List (List ℕ)) (k : List ℕ) (names : List (List ℕ)) → with_name ks k ++ others (with_name ks k) names ≡ ks ++ others ks (k ∷ filter (λ o. not (bytes_eq k o)) names)
one_more ks k names = one_by ks k names (contains ks k) refl

format_step : (ks : List (List ℕ)) (name : List ℕ) (f all : List (List ℕ)) (b : Bool) → ks ++ others ks (distinct (cond b (name ∷ f) f)) ≡ all
    → (if b then with_name ks name else ks) ++ others (if b then with_name ks name else ks) (distinct f) ≡ all
format_step ks name f all true h = one_more ks name (distinct f) ∙ h
format_step ks name f all false h = h

next_format : (ks : List (List ℕ)) (name : List ℕ) (left all : List (List ℕ)) → Together ks (name ∷ left) all → Together (with_format ks name) left all
next_format ks name left all h = format_step ks name (filter is_format left) all (is_format name) h

all_others : (names : List (List ℕ)) → others [] names ≡ names
all_others [] = refl
all_others (x ∷ names) = ap (λ (l : List (List ℕ)). x ∷ l) (all_others names)

pub none_yet : (keys : List (Bor (List ℕ))) (names : List (Bor (List ℕ))) → keys ≡ [] → Together (texts keys) (texts names) (distinct (filter is_format (texts names)))
none_yet keys names e =
    ap (λ (l : List (Bor (List ℕ))). texts l ++ others (texts l) (distinct (filter is_format (texts names)))) e ∙ all_others (distinct (filter is_format (texts names)))

pub one_further : (old new : List (Bor (List ℕ))) (names : List (Bor (List ℕ))) (i : ℕ) (d : Bor (List ℕ)) (all : List (List ℕ))
    → texts new ≡ with_format (texts old) (get_or names i d).now → i < length names → Together (texts old) (texts (drop i names)) all → Together (texts new) (texts (drop (i + 1) names)) all
one_further old new names i d all e within h =
    ap (λ (l : List (List ℕ)). l ++ others l (distinct (filter is_format (texts (drop (i + 1) names))))) e
    ∙ next_format (texts old) (get_or names i d).now (texts (drop (i + 1) names)) all (sym (ap (λ (l : List (Bor (List ℕ))). texts old ++ others (texts old) (distinct (filter is_format (texts l)))) (drop_more names i d within)) ∙ h)

pub all_formats : (keys names : List (Bor (List ℕ))) (i : ℕ) (all : List (List ℕ)) → length names ≤ i → Together (texts keys) (texts (drop i names)) all → texts keys ≡ all
all_formats keys names i all past h =
    sym (append-nil (texts keys)) ∙ (sym (ap (λ (l : List (Bor (List ℕ))). texts keys ++ others (texts keys) (distinct (filter is_format (texts l)))) (drop_all i names past)) ∙ h)

pub map_twice : {A B C : Type 0} (f : A → B) (g : B → C) (xs : List A) → map g (map f xs) ≡ map (λ x. g (f x)) xs
map_twice f g [] = refl
map_twice f g (x ∷ xs) = ap (λ l. g (f x) ∷ l) (map_twice f g xs)

-- the helper functions that each text has, and those of its formats
pub whole : {H I : Type 0} (external : H → I) (print : List ℕ → H) (fixed : List H) (formats : List (List ℕ)) → map external fixed ++ map (λ name. external (print (drop 7 name))) formats ≡ map external (fixed ++ map print (map (drop 7) formats))
whole external print fixed formats =
    ap (λ (l : List _). map external fixed ++ l) (sym (map_twice print external (map (drop 7) formats) ∙ map_twice (drop 7) (λ n. external (print n)) formats))
    ∙ sym (map-append external fixed (map print (map (drop 7) formats)))

-- the names of bodies, where there were none before
pub only_added : (keys names : List (Bor (List ℕ))) (old : List (Bor (List ℕ))) (bodies : List (List ℕ)) → old ≡ [] → texts names ≡ texts old ++ bodies → texts keys ≡ distinct (filter is_format (texts names)) → texts keys ≡ distinct (filter is_format bodies)
only_added keys names old bodies none e h =
    h ∙ ap (λ (l : List (List ℕ)). distinct (filter is_format l)) (e ∙ ap (λ (l : List (Bor (List ℕ))). texts l ++ bodies) none)
