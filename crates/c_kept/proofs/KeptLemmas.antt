-- Functions that keep their bodies, one after the other.
use Rattle.std.proofs.Common.{◌≡◌, ◌<◌, ◌+◌, ℕ, zero, suc, Bool, true, false, List, [], ◌∷◌, ◌++◌, length, map, take, drop, get_or, None, refl, sym, ap, ◌∙◌, arith, append_assoc, drop-cons, add-one, if◌then◌else◌}
use Rattle.std.specs.Prelude.{Result, Ok, Err, IfOk, ◌||◌, set}
use Rattle.std.specs.List.{list_any}
use Rattle.std.specs.Str.{bytes_eq}
use denote.Ref.{Bor}
use Rattle.c_tree_names.specs.Added.{texts}
use Rattle.c_syntax.specs.Plain as plain
use Rattle.c_syntax.specs.Plain.{CItem}
use Rattle.c_types.specs.Scope.{contains}
use Rattle.c_helpers.specs.Simple.{kept}
use Rattle.c_kept.specs.Kept.{stays, kept_by, kept_at, all_kept}

whole : (item : CItem) → kept_by true item ≡ item
whole (plain.Function name at result params body) = refl
whole (plain.StructItem tag) = refl
whole (plain.Object d) = refl

pub still : (n : ℕ) (items : List CItem) → kept_at n true items ≡ items
still n [] = refl
still zero (item ∷ items) = ap (λ (x : CItem). x ∷ items) (whole item)
still (suc n) (item ∷ items) = ap (λ (l : List CItem). item ∷ l) (still n items)

-- one flag more
pub one_kept : (flags : List Bool) (items : List CItem) (i : ℕ) (d : Bool) → i < length flags → kept_at i (get_or flags i d) (all_kept (take i flags) items) ≡ all_kept (take (suc i) flags) items
one_kept [] items i d h = absurd (omega (arith, h))
one_kept (flag ∷ flags) [] zero d h = refl
one_kept (flag ∷ flags) (item ∷ items) zero d h = refl
one_kept (flag ∷ flags) [] (suc i) d h = refl
one_kept (flag ∷ flags) (item ∷ items) (suc i) d h = ap (λ (l : List CItem). kept_by flag item ∷ l) (one_kept flags items i d (omega (arith, h)))

kept_same : (names reached : List (List ℕ)) → ((name : List ℕ) → contains names name ≡ contains reached name) → (item : CItem) → kept_by (stays names item) item ≡ kept reached item
kept_same names reached same (plain.Function name at result params body) = ap (λ (b : Bool). plain.Function name at result params (if b then body else None)) (same name)
kept_same names reached same (plain.StructItem tag) = refl
kept_same names reached same (plain.Object d) = refl

-- the flags of a set of names
pub flags_keep : {X : Type 0} (see : X → CItem) (names reached : List (List ℕ)) → ((name : List ℕ) → contains names name ≡ contains reached name) → (items : List X)
    → all_kept (map (λ i. stays names (see i)) items) (map see items) ≡ map (kept reached) (map see items)
flags_keep see names reached same [] = refl
flags_keep see names reached same (x ∷ items) =
    ap (λ (y : CItem). y ∷ all_kept (map (λ i. stays names (see i)) items) (map see items)) (kept_same names reached same (see x))
    ∙ ap (λ (l : List CItem). kept reached (see x) ∷ l) (flags_keep see names reached same items)

-- a flag more
pub flag_more : {X : Type 0} (told : X → Bool) (old new : List Bool) (flag : Bool) (items : List X) (i : ℕ) (x : X) (all : List Bool)
    → new ≡ old ++ flag ∷ [] → flag ≡ told x → drop i items ≡ x ∷ drop (i + 1) items → old ++ map told (drop i items) ≡ all → new ++ map told (drop (i + 1) items) ≡ all
flag_more told old new flag items i x all e f here h =
    ap (λ (l : List Bool). l ++ map told (drop (i + 1) items)) e
    ∙ (append_assoc old (flag ∷ []) (map told (drop (i + 1) items))
    ∙ (ap (λ (b : Bool). old ++ b ∷ map told (drop (i + 1) items)) f
    ∙ (ap (λ (l : List _). old ++ map told l) (sym here) ∙ h)))

pub ok_map : {A E : Type 0} {P Q : A → Type 0} (r : Result A E) → ((a : A) → P a → Q a) → IfOk r P → IfOk r Q
ok_map (Ok a) f h = f a h
ok_map (Err e) f h = tt

pub any_text : (ks : List (Bor (List ℕ))) (k : List ℕ) → list_any (λ y. bytes_eq k y.now) ks ≡ contains (texts ks) k
any_text [] k = refl
any_text (x ∷ ks) k = ap (λ b. bytes_eq k x.now || b) (any_text ks k)

-- an external in place of another, without its body
pub set_kept : {X : Type 0} (see : X → CItem) (items : List X) (i : ℕ) (x y : X) → y ≡ get_or items i y → see x ≡ kept_by false (see y) → map see (set items i x) ≡ kept_at i false (map see items)
set_kept see [] i x y is e = refl
set_kept see (z ∷ items) zero x y is e = ap (λ (k : CItem). k ∷ map see items) (e ∙ ap (λ w. kept_by false (see w)) is)
set_kept see (z ∷ items) (suc i) x y is e = ap (λ (l : List CItem). see z ∷ l) (set_kept see items i x y is e)

-- what is left of a list begins with the element that comes next
pub drop_at : {X : Type 0} (xs : List X) (i : ℕ) (x : X) → i < length xs → x ≡ get_or xs i x → drop i xs ≡ x ∷ drop (i + 1) xs
drop_at xs i x h e = rw (add-one, drop-cons xs i x) (ap (λ y. y ∷ drop (suc i) xs) (sym e))
