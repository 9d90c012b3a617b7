-- Functions that are always known.
use Rattle.std.proofs.Common.{◌≡◌, ℕ, List, [], ◌∷◌, Option, Some, refl, sym, ap, subst, ◌∙◌}
use Rattle.std.specs.Prelude.{Result, Ok, Err, OnOk, slice_get}
use Rattle.c_types.specs.Types as types
use Rattle.c_types.specs.Types.{CType, CTypes}
use Rattle.c_types.specs.Scope as scope
use Rattle.c_types.specs.Scope.{built_in}
use Rattle.c_types.specs.declared.shape.Shape.TheVariants as shape
use Rattle.c_types.specs.Known.{Known, OneType, TypeList, Grows, of_both, says}
use Rattle.c_types.specs.Table.{Table, known, HasType}
use Rattle.c_operands.proofs.OperandLemmas.{grows_then}
use Rattle.c_operands.specs.Arguments.{HasList}
use Rattle.c_scopes.specs.declared.entity.Entity.{Entity}
use Rattle.c_scopes.specs.declared.entity.Entity.TheVariants.{BuiltIn}
use Rattle.c_operands.specs.Scoped.{AreNames}
use Rattle.c_operands.proofs.NameLemmas.{names_kept}

pub on_ok : {T E A B : Type 0} (r : Result T E) → (A → B) → OnOk r A → OnOk r B
on_ok (Ok x) f h = f h
on_ok (Err e) f h = h

pub function_known : (tags : List (List ℕ)) (k : List Known) (n m : ℕ) (t : CType) (ts : CTypes) → slice_get k n ≡ Some (OneType t) → slice_get k m ≡ Some (TypeList ts)
    → says tags k (shape.Function n m) ≡ Some (OneType (types.Function t ts))
function_known tags k n m t ts h g =
    ap (λ (o : Option Known). of_both o (slice_get k m) (λ u us. OneType (types.Function u us))) h
    ∙ ap (λ (o : Option Known). of_both (Some (OneType t)) o (λ u us. OneType (types.Function u us))) g

-- a function that is always known, declared behind others
pub built_in_more : (t0 t1 t2 t3 : Table) (block new : List (List ℕ × Entity)) (others : scope.Names) (name : List ℕ) (n r l : ℕ) (g : CType) (ps : List CType)
    → Grows (known t0) (known t1) → Grows (known t1) (known t2) → Grows (known t2) (known t3) → HasType t1 r g → HasList t2 l (types.types ps)
    → slice_get (known t3) n ≡ says t2.tags (known t2) (shape.Function r l) → AreNames t0 block others → new ≡ (name, BuiltIn n) ∷ block → AreNames t3 new ((name, built_in g ps) ∷ others)
built_in_more t0 t1 t2 t3 block new others name n r l g ps a b c gives takes made are e =
    let ty : HasType t3 n (types.Function g (types.types ps)) = made ∙ function_known t2.tags (known t2) r l g (types.types ps) (b r (OneType g) gives) takes in
    let all = grows_then (known t0) (known t2) (known t3) (grows_then (known t0) (known t1) (known t2) a b) c in
    subst (λ (names : List (List ℕ × Entity)). AreNames t3 names ((name, built_in g ps) ∷ others)) (sym e) (refl, ty, names_kept t0 t3 block others all are)
