-- Helper functions in front of a text: the bodies and the definitions of both.
use Rattle.std.proofs.Common.{◌≡◌, ℕ, List, [], ◌∷◌, ◌++◌, Option, Some, None, Bool, true, false, drop, take, take-append-drop, refl, sym, ap, ◌∙◌, subst, cond}
use Rattle.std.specs.Prelude.{◌||◌, map, codes, not, if◌then◌else◌}
use Rattle.std.specs.List.{filter, list_any}
use Rattle.std.specs.Str.{bytes_eq}
use Rattle.std.proofs.lemmas.Slice.Eq.{bytes_eq-Decides}
use Rattle.c_syntax.specs.Plain as plain
use Rattle.c_syntax.specs.Plain.{CItem}
use Rattle.c_syntax.specs.Words.{meaning}
use Rattle.c_types.specs.Scope.{Scope, contains}
use Rattle.c_types.specs.Declarations.{scope_or}
use Rattle.c_types.specs.Units.{defined_in, item_judged}
use Rattle.c_helpers.specs.Functions.{Helper, print_format, format_name}
use Rattle.c_helpers.specs.Laws.{is_strange}
use Rattle.c_helpers.specs.Meanings.{is_format}
use Rattle.c_helpers.specs.Names.{stmt_names}
use Rattle.c_helpers.specs.Fewer.{fewer_in_items, body_names, names_in_bodies, names_at_file_scope, function_of, distinct, formats_in}
use Rattle.c_helpers.specs.Simple.{with_helpers}
use Rattle.c_fewer_types.specs.Stands.{function_type, helper_type}
use Rattle.c_fewer_types.specs.Standing.{IsTextName}
use Rattle.c_fewer_reached.proofs.Reached.{found_left}
use Rattle.c_fewer_items.specs.FewerHeadsLaws.{all_functions, firsts}
use Rattle.c_fewer_names.specs.FewerKnownLaws.{operators}

-- ---- helper functions by name

abbrev pub by : List Helper → List (List ℕ × Helper)
by hs = map (λ (h : Helper). (h.name, h)) hs

abbrev pub items_of : List Helper → List CItem
items_of hs = map function_of hs

-- one that is among them has its body
pub head_found : (hs : List Helper) (rest : List CItem) (f : List ℕ) (g : Helper) → meaning (by hs) f ≡ Some g → body_names (items_of hs ++ rest) f ≡ stmt_names g.body
head_found [] rest f g e = absurd (cc e)
head_found (h ∷ hs) rest f g e = go (bytes_eq f h.name) e (λ k. head_found hs rest f g k)
  where
    go : (b : Bool) → cond b (Some h) (meaning (by hs) f) ≡ Some g → (meaning (by hs) f ≡ Some g → body_names (items_of hs ++ rest) f ≡ stmt_names g.body) → (if b then stmt_names h.body else body_names (items_of hs ++ rest) f) ≡ stmt_names g.body
    go true e more = let same : h ≡ g = cc e in ap (λ (z : Helper). stmt_names z.body) same
    go false e more = more e

-- behind them others have theirs
pub head_passed : (hs : List Helper) (rest : List CItem) (f : List ℕ) → meaning (by hs) f ≡ None → body_names (items_of hs ++ rest) f ≡ body_names rest f
head_passed [] rest f e = refl
head_passed (h ∷ hs) rest f e = go (bytes_eq f h.name) e (λ k. head_passed hs rest f k)
  where
    go : (b : Bool) → cond b (Some h) (meaning (by hs) f) ≡ None → (meaning (by hs) f ≡ None → body_names (items_of hs ++ rest) f ≡ body_names rest f) → (if b then stmt_names h.body else body_names (items_of hs ++ rest) f) ≡ body_names rest f
    go true e more = absurd (cc e)
    go false e more = more e

or_last : (a b : Bool) → b ≡ true → (a || b) ≡ true
or_last true b e = refl
or_last false b e = e

pub head_defined : (hs : List Helper) (rest : List CItem) (f : List ℕ) (g : Helper) → meaning (by hs) f ≡ Some g → contains (defined_in (items_of hs ++ rest)) f ≡ true
head_defined [] rest f g e = absurd (cc e)
head_defined (h ∷ hs) rest f g e = go (bytes_eq f h.name) e (λ k. head_defined hs rest f g k)
  where
    go : (b : Bool) → cond b (Some h) (meaning (by hs) f) ≡ Some g → (meaning (by hs) f ≡ Some g → contains (defined_in (items_of hs ++ rest)) f ≡ true) → (b || contains (defined_in (items_of hs ++ rest)) f) ≡ true
    go true e more = refl
    go false e more = more e

pub rest_defined : (hs : List Helper) (rest : List CItem) (f : List ℕ) → contains (defined_in rest) f ≡ true → contains (defined_in (items_of hs ++ rest)) f ≡ true
rest_defined [] rest f e = e
rest_defined (h ∷ hs) rest f e = or_last (bytes_eq f h.name) (contains (defined_in (items_of hs ++ rest)) f) (rest_defined hs rest f e)

pub only_rest : (hs : List Helper) (rest : List CItem) (f : List ℕ) → meaning (by hs) f ≡ None → contains (defined_in (items_of hs ++ rest)) f ≡ true → contains (defined_in rest) f ≡ true
only_rest [] rest f e d = d
only_rest (h ∷ hs) rest f e d = go (bytes_eq f h.name) e d (λ k l. only_rest hs rest f k l)
  where
    go : (b : Bool) → cond b (Some h) (meaning (by hs) f) ≡ None → (b || contains (defined_in (items_of hs ++ rest)) f) ≡ true → (meaning (by hs) f ≡ None → contains (defined_in (items_of hs ++ rest)) f ≡ true → contains (defined_in rest) f ≡ true) → contains (defined_in rest) f ≡ true
    go true e d more = absurd (cc e)
    go false e d more = more e d

-- helper functions have no first values at file scope
pub no_values : (hs : List Helper) (rest : List CItem) → names_at_file_scope (items_of hs ++ rest) ≡ names_at_file_scope rest
no_values [] rest = refl
no_values (h ∷ hs) rest = no_values hs rest

joined : (hs ks : List Helper) (rest : List CItem) → items_of (hs ++ ks) ++ rest ≡ items_of hs ++ (items_of ks ++ rest)
joined [] ks rest = refl
joined (h ∷ hs) ks rest = ap (λ xs. function_of h ∷ xs) (joined hs ks rest)

abbrev pub format_functions : List CItem → List Helper
format_functions items = map print_format (formats_in items)

-- those of formats stand between the first and the text
pub whole_is : (items : List CItem) → with_helpers items ≡ items_of firsts ++ (items_of (format_functions items) ++ items)
whole_is items = joined firsts (format_functions items) items

-- ---- names that aren't theirs

abbrev EachStrange : List Helper → Type 0
EachStrange [] = Unit {0}
EachStrange (h ∷ hs) = (list_any is_strange h.name ≡ true) × EachStrange hs

none_found : (hs : List Helper) → EachStrange hs → (name : List ℕ) → IsTextName name → meaning (by hs) name ≡ None
none_found [] h name n = refl
none_found (g ∷ hs) h name n = go (bytes_eq name g.name) refl (none_found hs h.1 name n)
  where
    go : (b : Bool) → bytes_eq name g.name ≡ b → meaning (by hs) name ≡ None → cond b (Some g) (meaning (by hs) name) ≡ None
    go true e more = absurd (cc (sym n ∙ (ap (λ z. list_any is_strange z) ((bytes_eq-Decides name g.name).0 e) ∙ h.0)))
    go false e more = more

firsts_strange : EachStrange firsts
firsts_strange = (refl, (refl, (refl, (refl, (refl, (refl, (refl, (refl, (refl, (refl, (refl, (refl, (refl, (refl, (refl, (refl, (refl, (refl, (refl, (refl, (refl, (refl, (refl, (refl, (refl, (refl, (refl, (refl, (refl, (refl, (refl, (refl, (refl, (refl, (refl, (refl, (refl, (refl, (refl, (refl, tt))))))))))))))))))))))))))))))))))))))))

formats_strange : (formats : List (List ℕ)) → EachStrange (map print_format formats)
formats_strange [] = tt
formats_strange (format ∷ formats) = (refl, formats_strange formats)

pub no_first : (name : List ℕ) → IsTextName name → meaning (by firsts) name ≡ None
no_first name n = none_found firsts firsts_strange name n

pub no_format : (formats : List (List ℕ)) (name : List ℕ) → IsTextName name → meaning (by (map print_format formats)) name ≡ None
no_format formats name n = none_found (map print_format formats) (formats_strange formats) name n

others : (hs : List Helper) → EachStrange hs → (name : List ℕ) → IsTextName name → contains (map (λ (h : Helper). h.name) hs) name ≡ false
others [] h name n = refl
others (g ∷ hs) h name n = go (bytes_eq name g.name) refl (others hs h.1 name n)
  where
    go : (b : Bool) → bytes_eq name g.name ≡ b → contains (map (λ (h : Helper). h.name) hs) name ≡ false → (b || contains (map (λ (h : Helper). h.name) hs) name) ≡ false
    go true e more = absurd (cc (sym n ∙ (ap (λ z. list_any is_strange z) ((bytes_eq-Decides name g.name).0 e) ∙ h.0)))
    go false e more = more

both_strange : (hs ks : List Helper) → EachStrange hs → EachStrange ks → EachStrange (hs ++ ks)
both_strange [] ks h k = k
both_strange (g ∷ hs) ks h k = (h.0, both_strange hs ks h.1 k)

-- a name of a text is none of theirs
pub front_others : (formats : List (List ℕ)) (name : List ℕ) → IsTextName name → contains (map (λ (h : Helper). h.name) (firsts ++ map print_format formats)) name ≡ false
front_others formats name n = others (firsts ++ map print_format formats) (both_strange firsts (map print_format formats) firsts_strange (formats_strange formats)) name n

-- a format's name isn't among the first
pub first_not_format : (format : List ℕ) → meaning (by firsts) (format_name format) ≡ None
first_not_format format = refl

-- ---- operators

abbrev IsFirst : List ℕ × Helper → Type 0
IsFirst x = (meaning all_functions x.0 ≡ Some x.1) × (helper_type x.0 ≡ Some (function_type x.1))

abbrev EachFirst : List (List ℕ × Helper) → Type 0
EachFirst [] = Unit {0}
EachFirst (x ∷ xs) = IsFirst x × EachFirst xs

all_first : EachFirst operators
all_first = ((refl, refl), ((refl, refl), ((refl, refl), ((refl, refl), ((refl, refl), ((refl, refl), ((refl, refl), ((refl, refl), ((refl, refl), ((refl, refl), ((refl, refl), ((refl, refl), ((refl, refl), ((refl, refl), ((refl, refl), ((refl, refl), ((refl, refl), ((refl, refl), ((refl, refl), ((refl, refl), ((refl, refl), ((refl, refl), ((refl, refl), ((refl, refl), ((refl, refl), ((refl, refl), ((refl, refl), ((refl, refl), ((refl, refl), ((refl, refl), ((refl, refl), ((refl, refl), ((refl, refl), ((refl, refl), ((refl, refl), ((refl, refl), ((refl, refl), tt)))))))))))))))))))))))))))))))))))))

found_first : (xs : List (List ℕ × Helper)) → EachFirst xs → (name : List ℕ) (g : Helper) → meaning xs name ≡ Some g → IsFirst (name, g)
found_first [] h name g e = absurd (cc e)
found_first (x ∷ xs) h name g e = go (bytes_eq name x.0) refl e (λ k. found_first xs h.1 name g k)
  where
    go : (b : Bool) → bytes_eq name x.0 ≡ b → cond b (Some x.1) (meaning xs name) ≡ Some g → (meaning xs name ≡ Some g → IsFirst (name, g)) → IsFirst (name, g)
    go true k e more = let same : x.1 ≡ g = cc e in subst (λ z. IsFirst (z, g)) (sym ((bytes_eq-Decides name x.0).0 k)) (subst (λ z. IsFirst (x.0, z)) same h.0)
    go false k e more = more e

pub operator_first : (name : List ℕ) (g : Helper) → meaning operators name ≡ Some g → IsFirst (name, g)
operator_first name g e = found_first operators all_first name g e

-- ---- formats

-- what begins as a format's name is one
pub format_is : (name : List ℕ) → is_format name ≡ true → name ≡ format_name (drop 7 name)
format_is name e =
    let first : take 7 name ≡ codes "printf " = (bytes_eq-Decides (take 7 name) (codes "printf ")).0 e in
    sym (take-append-drop 7 name) ∙ ap (λ z. z ++ drop 7 name) first

pub format_found : (formats : List (List ℕ)) (format : List ℕ) → contains formats format ≡ true → meaning (by (map print_format formats)) (format_name format) ≡ Some (print_format format)
format_found [] format e = absurd (cc e)
format_found (x ∷ xs) format e = go (bytes_eq format x) refl (bytes_eq (format_name format) (format_name x)) refl e (λ k. format_found xs format k)
  where
    go : (b : Bool) → bytes_eq format x ≡ b → (c : Bool) → bytes_eq (format_name format) (format_name x) ≡ c → (b || contains xs format) ≡ true → (contains xs format ≡ true → meaning (by (map print_format xs)) (format_name format) ≡ Some (print_format format))
        → cond c (Some (print_format x)) (meaning (by (map print_format xs)) (format_name format)) ≡ Some (print_format format)
    go b k true l e more = ap (λ z. Some (print_format z)) (sym (ap (λ z. drop 7 z) ((bytes_eq-Decides (format_name format) (format_name x)).0 l)))
    go true k false l e more = absurd (cc (sym l ∙ (bytes_eq-Decides (format_name format) (format_name x)).1 (ap format_name ((bytes_eq-Decides format x).0 k))))
    go false k false l e more = more e

-- a format that has a function is one of them
pub format_listed : (formats : List (List ℕ)) (format : List ℕ) (g : Helper) → meaning (by (map print_format formats)) (format_name format) ≡ Some g → contains formats format ≡ true
format_listed [] format g e = absurd (cc e)
format_listed (x ∷ xs) format g e = go (bytes_eq (format_name format) (format_name x)) refl e (λ k. format_listed xs format g k)
  where
    go : (b : Bool) → bytes_eq (format_name format) (format_name x) ≡ b → cond b (Some (print_format x)) (meaning (by (map print_format xs)) (format_name format)) ≡ Some g → (meaning (by (map print_format xs)) (format_name format) ≡ Some g → contains xs format ≡ true) → (bytes_eq format x || contains xs format) ≡ true
    go true k e more = ap (λ z. z || contains xs format) ((bytes_eq-Decides format x).1 (ap (λ z. drop 7 z) ((bytes_eq-Decides (format_name format) (format_name x)).0 k)))
    go false k e more = or_last (bytes_eq format x) (contains xs format) (more e)

stays_distinct : (xs : List (List ℕ)) (x : List ℕ) → contains xs x ≡ true → contains (distinct xs) x ≡ true
stays_distinct [] x e = absurd (cc e)
stays_distinct (y ∷ ys) x e = go (bytes_eq x y) refl e (λ k. stays_distinct ys x k)
  where
    other : bytes_eq x y ≡ false → (b : Bool) → bytes_eq y x ≡ b → not b ≡ true
    other k true l = absurd (cc (sym k ∙ (bytes_eq-Decides x y).1 (sym ((bytes_eq-Decides y x).0 l))))
    other k false l = refl

    go : (b : Bool) → bytes_eq x y ≡ b → (b || contains ys x) ≡ true → (contains ys x ≡ true → contains (distinct ys) x ≡ true) → (b || contains (filter (λ z. not (bytes_eq y z)) (distinct ys)) x) ≡ true
    go true k e more = refl
    go false k e more = found_left (λ z. not (bytes_eq y z)) (distinct ys) x (more e) (other k (bytes_eq y x) refl)

mapped : (xs : List (List ℕ)) (x : List ℕ) → contains xs x ≡ true → contains (map (drop 7) xs) (drop 7 x) ≡ true
mapped [] x e = absurd (cc e)
mapped (y ∷ ys) x e = go (bytes_eq x y) refl e (λ k. mapped ys x k)
  where
    go : (b : Bool) → bytes_eq x y ≡ b → (b || contains ys x) ≡ true → (contains ys x ≡ true → contains (map (drop 7) ys) (drop 7 x) ≡ true) → (bytes_eq (drop 7 x) (drop 7 y) || contains (map (drop 7) ys) (drop 7 x)) ≡ true
    go true k e more = ap (λ z. z || contains (map (drop 7) ys) (drop 7 x)) ((bytes_eq-Decides (drop 7 x) (drop 7 y)).1 (ap (λ z. drop 7 z) ((bytes_eq-Decides x y).0 k)))
    go false k e more = or_last (bytes_eq (drop 7 x) (drop 7 y)) (contains (map (drop 7) ys) (drop 7 x)) (more e)

joined_first : (xs ys : List (List ℕ)) (x : List ℕ) → contains xs x ≡ true → contains (xs ++ ys) x ≡ true
joined_first [] ys x e = absurd (cc e)
joined_first (y ∷ xs) ys x e = go (bytes_eq x y) e (λ k. joined_first xs ys x k)
  where
    go : (b : Bool) → (b || contains xs x) ≡ true → (contains xs x ≡ true → contains (xs ++ ys) x ≡ true) → (b || contains (xs ++ ys) x) ≡ true
    go true e more = refl
    go false e more = more e

joined_last : (xs ys : List (List ℕ)) (x : List ℕ) → contains ys x ≡ true → contains (xs ++ ys) x ≡ true
joined_last [] ys x e = e
joined_last (y ∷ xs) ys x e = or_last (bytes_eq x y) (contains (xs ++ ys) x) (joined_last xs ys x e)

-- the names in one body are among those in all
in_bodies : (items : List CItem) (f x : List ℕ) → contains (body_names items f) x ≡ true → contains (names_in_bodies items) x ≡ true
in_bodies [] f x e = absurd (cc e)
in_bodies (plain.StructItem tag ∷ items) f x e = in_bodies items f x e
in_bodies (plain.Object d ∷ items) f x e = in_bodies items f x e
in_bodies (plain.Function name at result params None ∷ items) f x e = in_bodies items f x e
in_bodies (plain.Function name at result params (Some body) ∷ items) f x e = go (bytes_eq f name) e (λ k. in_bodies items f x k)
  where
    go : (b : Bool) → contains (if b then stmt_names body else body_names items f) x ≡ true → (contains (body_names items f) x ≡ true → contains (names_in_bodies items) x ≡ true) → contains (stmt_names body ++ names_in_bodies items) x ≡ true
    go true e more = joined_first (stmt_names body) (names_in_bodies items) x e
    go false e more = joined_last (stmt_names body) (names_in_bodies items) x (more e)

-- a format whose name stands in a body has a function
pub format_in : (items : List CItem) (f x : List ℕ) → is_format x ≡ true → contains (body_names items f) x ≡ true → contains (formats_in items) (drop 7 x) ≡ true
format_in items f x k e = mapped (distinct (filter is_format (names_in_bodies items))) x (stays_distinct (filter is_format (names_in_bodies items)) x (found_left is_format (names_in_bodies items) x (in_bodies items f x e) k))

-- ---- the text

-- a text defines with fewer operators the functions that it defined
pub defines_same : (s : Scope) (items : List CItem) → defined_in (fewer_in_items s items) ≡ defined_in items
defines_same s [] = refl
defines_same s (plain.StructItem tag ∷ items) = defines_same (scope_or s (item_judged s (plain.StructItem tag))) items
defines_same s (plain.Object d ∷ items) = defines_same (scope_or s (item_judged s (plain.Object d))) items
defines_same s (plain.Function name at result params None ∷ items) = defines_same (scope_or s (item_judged s (plain.Function name at result params None))) items
defines_same s (plain.Function name at result params (Some body) ∷ items) = ap (λ xs. name ∷ xs) (defines_same (scope_or s (item_judged s (plain.Function name at result params (Some body)))) items)
