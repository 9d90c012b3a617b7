-- Sets of names, and the names of externals.
use Rattle.std.proofs.Common.{◌≡◌, ℕ, suc, ◌+◌, ◌<◌, ◌≤◌, Bool, true, false, ◌&&◌, ◌||◌, get_or, drop-cons, add-one, List, [], ◌∷◌, ◌++◌, length, map, drop, Option, Some, None, refl, sym, ap, subst, ◌∙◌, if◌then◌else◌}
use Rattle.std.specs.Str.{bytes_eq}
use Rattle.std.specs.List.{list_any}
use Rattle.std.specs.Cmp.Lexicographic.{bytes_decides}
use Rattle.std.proofs.lemmas.List.{drop_all}
use denote.Ref.{Bor}
use Rattle.c_syntax.specs.Plain as plain
use Rattle.c_syntax.specs.Plain.{CTy, CDecl, CStmt, CItem}
use Rattle.c_syntax.specs.View.{item_of}
use Rattle.c_syntax.specs.declared.tree.Item.{Item}
use Rattle.c_types.specs.Scope.{contains}
use Rattle.c_types.specs.Units.{defined_in, is_main}
use Rattle.c_types.specs.Table.{texts}
use Rattle.c_operands.proofs.NameLemmas.{any_text}
use Rattle.c_opening.specs.Named.{tag_in, tags_in, definition_in, with_some, is_named, is_main_of}

or_nothing : (b : Bool) → (b || false) ≡ b
or_nothing true = refl
or_nothing false = refl

or_together : (a b c : Bool) → (a || (b || c)) ≡ ((a || b) || c)
or_together true b c = refl
or_together false b c = refl

or_known : (a b : Bool) → (b ≡ true → a ≡ true) → a ≡ (a || b)
or_known true b h = refl
or_known false true h = h refl
or_known false false h = refl

contains_more : (ks : List (Bor (List ℕ))) (k : Bor (List ℕ)) (other : List ℕ) → contains (texts (ks ++ k ∷ [])) other ≡ (contains (texts ks) other || bytes_eq other k.now)
contains_more [] k other = or_nothing (bytes_eq other k.now)
contains_more (x ∷ ks) k other = ap (λ b. bytes_eq other x.now || b) (contains_more ks k other) ∙ or_together (bytes_eq other x.now) (contains (texts ks) other) (bytes_eq other k.now)

-- a name more in a set of names
pub inserted : (ks : List (Bor (List ℕ))) (k : Bor (List ℕ)) (other : List ℕ)
    → contains (texts (if list_any (λ y. bytes_eq k.now y.now) ks then ks else ks ++ k ∷ [])) other ≡ (contains (texts ks) other || bytes_eq other k.now)
inserted ks k other = by (list_any (λ y. bytes_eq k.now y.now) ks) refl where
  by : (b : Bool) → list_any (λ y. bytes_eq k.now y.now) ks ≡ b → contains (texts (if b then ks else ks ++ k ∷ [])) other ≡ (contains (texts ks) other || bytes_eq other k.now)
  by true e = or_known (contains (texts ks) other) (bytes_eq other k.now) (λ same. ap (contains (texts ks)) ((bytes_decides other k.now).0 same) ∙ (sym (any_text k.now ks) ∙ e))
  by false e = contains_more ks k other

-- ---- externals one after the other

-- what is left of a list begins with the element that comes next
pub drop_at : {X : Type 0} (xs : List X) (i : ℕ) (x : X) → i < length xs → x ≡ get_or xs i x → drop i xs ≡ x ∷ drop (i + 1) xs
drop_at xs i x h e = rw (add-one, drop-cons xs i x) (ap (λ y. y ∷ drop (suc i) xs) (sym e))

named_first : (o : Option (List ℕ)) (names : List (List ℕ)) (other : List ℕ) → contains (with_some o names) other ≡ (is_named o other || contains names other)
named_first (Some name) names other = refl
named_first None names other = refl

pub defined_first : (item : CItem) (items : List CItem) → defined_in (item ∷ items) ≡ with_some (definition_in item) (defined_in items)
defined_first (plain.Function name at result params (Some body)) items = refl
defined_first (plain.Function name at result params None) items = refl
defined_first (plain.StructItem tag) items = refl
defined_first (plain.Object d) items = refl

-- the names in a set beside those of the externals that are left
abbrev pub AreSoFar : (List CItem → List (List ℕ)) → List (Bor (List ℕ)) → List Item → List Item → Type 0
AreSoFar names keys left items = (other : List ℕ) → (contains (texts keys) other || contains (names (map item_of left)) other) ≡ contains (names (map item_of items)) other

pub so_far : (names : List CItem → List (List ℕ)) (name_in : CItem → Option (List ℕ)) (old new : List (Bor (List ℕ))) (items : List Item) (i : ℕ) (x : Item) (o : Option (List ℕ))
    → ((item : CItem) (rest : List CItem) → names (item ∷ rest) ≡ with_some (name_in item) (names rest))
    → drop i items ≡ x ∷ drop (i + 1) items → o ≡ name_in (item_of x)
    → ((other : List ℕ) → contains (texts new) other ≡ (contains (texts old) other || is_named o other))
    → AreSoFar names old (drop i items) items → AreSoFar names new (drop (i + 1) items) items
so_far names name_in old new items i x o first next here put h = λ other.
    let rest = map item_of (drop (i + 1) items) in
    ap (λ b. b || contains (names rest) other) (put other)
    ∙ (sym (or_together (contains (texts old) other) (is_named o other) (contains (names rest) other))
    ∙ (ap (λ (p : Option (List ℕ)). contains (texts old) other || (is_named p other || contains (names rest) other)) here
    ∙ (ap (λ b. contains (texts old) other || b) (sym (named_first (name_in (item_of x)) (names rest) other))
    ∙ (ap (λ (l : List (List ℕ)). contains (texts old) other || contains l other) (sym (first (item_of x) rest))
    ∙ (ap (λ (l : List Item). contains (texts old) other || contains (names (map item_of l)) other) (sym next) ∙ h other)))))

pub all_named : (names : List CItem → List (List ℕ)) (keys : List (Bor (List ℕ))) (items : List Item) (i : ℕ) → names [] ≡ [] → length items ≤ i → AreSoFar names keys (drop i items) items
    → (other : List ℕ) → contains (texts keys) other ≡ contains (names (map item_of items)) other
all_named names keys items i none past h other =
    sym (ap (λ (l : List Item). contains (texts keys) other || contains (names (map item_of l)) other) (drop_all i items past)
    ∙ (ap (λ (l : List (List ℕ)). contains (texts keys) other || contains l other) none ∙ or_nothing (contains (texts keys) other)))
    ∙ h other

-- ---- `main`

pub main_here : (items : List Item) (i : ℕ) (x : Item) → drop i items ≡ x ∷ drop (i + 1) items → is_main (item_of x) ≡ true → true ≡ list_any is_main (map item_of (drop i items))
main_here items i x next h = sym (ap (λ (l : List Item). list_any is_main (map item_of l)) next ∙ ap (λ b. b || list_any is_main (map item_of (drop (i + 1) items))) h)

pub main_later : (items : List Item) (i : ℕ) (x : Item) → drop i items ≡ x ∷ drop (i + 1) items → is_main (item_of x) ≡ false
    → list_any is_main (map item_of (drop i items)) ≡ list_any is_main (map item_of (drop (i + 1) items))
main_later items i x next h = ap (λ (l : List Item). list_any is_main (map item_of l)) next ∙ ap (λ b. b || list_any is_main (map item_of (drop (i + 1) items))) h

pub no_main : (items : List Item) (i : ℕ) → length items ≤ i → false ≡ list_any is_main (map item_of (drop i items))
no_main items i past = sym (ap (λ (l : List Item). list_any is_main (map item_of l)) (drop_all i items past))
