-- Types by their shapes, and their trees.
use Rattle.std.proofs.Common.{◌≡◌, ℕ, zero, suc, List, [], ◌∷◌, ◌++◌, map, Option, Some, None, refl, sym, ap, ◌∙◌, append_assoc}
use Rattle.std.specs.Prelude.{Result, Ok, Err, IfOk, OnOk, slice_get}
use denote.Ref.{Bor}
use Rattle.std.proofs.lemmas.List.{map-append}
use Rattle.c_syntax.specs.Plain as plain
use Rattle.c_syntax.specs.Plain.{CTy, tys}
use Rattle.c_syntax.specs.View.{ty_of}
use Rattle.c_syntax.specs.declared.tree.Ty.{Ty}
use Rattle.c_types.specs.Types as types
use Rattle.c_types.specs.Types.{CType, CTypes, NoType, MoreType}
use Rattle.c_types.specs.declared.shape.Shape.{Shape}
use Rattle.c_types.specs.Known.{Known, OneType, TypeList, of_tag, of_type, of_both, says}
use Rattle.c_types.specs.Table.{texts}
use Rattle.c_types.proofs.ByShape.{one_type}
use Rattle.c_helpers.specs.Fewer as fewer
use Rattle.c_terms.specs.Trees.{trees_of}

-- ---- what a shape is made of

-- what is said of a shape is said of the one that it is
pub said : (tags : List (List ℕ)) (k : List Known) (s r : Shape) (o : Option Known) → s ≡ r → says tags k s ≡ o → says tags k r ≡ o
said tags k s r o e h = ap (says tags k) (sym e) ∙ h

pub struct_is : (o : Option (List ℕ)) (t : CType) → of_tag o ≡ Some (OneType t) → (tag : List ℕ) × (types.Struct tag ≡ t) × (o ≡ Some tag)
struct_is (Some tag) t h = (tag, one_type (types.Struct tag) t h, refl)
struct_is None t h = absurd cc

pub type_is : (o : Option Known) (f : CType → CType) (t : CType) → of_type o f ≡ Some (OneType t) → (u : CType) × (f u ≡ t) × (o ≡ Some (OneType u))
type_is (Some (OneType u)) f t h = (u, one_type (f u) t h, refl)
type_is (Some (TypeList us)) f t h = absurd cc
type_is None f t h = absurd cc

pub function_is : (o p : Option Known) (t : CType) → of_both o p (λ u us. OneType (types.Function u us)) ≡ Some (OneType t)
    → (u : CType) × (us : CTypes) × (types.Function u us ≡ t) × (o ≡ Some (OneType u)) × (p ≡ Some (TypeList us))
function_is (Some (OneType u)) (Some (TypeList us)) t h = (u, us, one_type (types.Function u us) t h, refl, refl)
function_is (Some (OneType u)) (Some (OneType v)) t h = absurd cc
function_is (Some (OneType u)) None t h = absurd cc
function_is (Some (TypeList us)) p t h = absurd cc
function_is None p t h = absurd cc

-- ---- trees

-- that of a type that is made of no other
pub plain_tree : (u t : CType) → Some (OneType u) ≡ Some (OneType t) → fewer.type_tree u ≡ fewer.type_tree t
plain_tree u t e = ap fewer.type_tree (one_type u t e)

pub no_list : (us : CTypes) (t : CType) → Some (TypeList us) ≡ Some (OneType t) → ⊥
no_list us t h = cc

pub same_tree : {E : Type 0} (r : Result Ty E) (a b : CTy) → a ≡ b → IfOk r (λ t. ty_of t ≡ a) → IfOk r (λ t. ty_of t ≡ b)
same_tree (Ok t) a b e h = h ∙ e
same_tree (Err x) a b e h = tt

-- the trees of a list one by one
pub list_tree : (ts : CTypes) → tys (trees_of ts) ≡ fewer.type_trees ts
list_tree NoType = refl
list_tree (MoreType t ts) = ap (λ (us : plain.CTys). plain.MoreTy (fewer.type_tree t) us) (list_tree ts)

-- one more behind others
pub tree_put : (old : List Ty) (tree : Ty) (new : List Ty) (t : CType) → new ≡ old ++ tree ∷ [] → ty_of tree ≡ fewer.type_tree t → map ty_of new ≡ map ty_of old ++ fewer.type_tree t ∷ []
tree_put old tree new t e h = ap (map ty_of) e ∙ (map-append ty_of old (tree ∷ []) ∙ ap (λ (x : CTy). map ty_of old ++ x ∷ []) h)

pub trees_then : {X E : Type 0} (r : Result X E) (xs ys zs : List CTy) (t : CType) (us ts : CTypes) → ys ≡ xs ++ fewer.type_tree t ∷ [] → ts ≡ MoreType t us → OnOk r (zs ≡ ys ++ trees_of us) → OnOk r (zs ≡ xs ++ trees_of ts)
trees_then (Ok u) xs ys zs t us ts e is h =
    h ∙ (ap (λ (l : List CTy). l ++ trees_of us) e ∙ (append_assoc xs (fewer.type_tree t ∷ []) (trees_of us) ∙ ap (λ (l : CTypes). xs ++ trees_of l) (sym is)))
trees_then (Err d) xs ys zs t us ts e is h = tt

-- ---- names of tags

pub text_at : (ks : List (Bor (List ℕ))) (n : ℕ) (name : List ℕ) → slice_get (texts ks) n ≡ Some name → (k : Bor (List ℕ)) × (slice_get ks n ≡ Some k) × (k.now ≡ name)
text_at [] n name h = cc
text_at (k ∷ ks) zero name h = (k, refl, cc)
text_at (k ∷ ks) (suc n) name h = text_at ks n name h
