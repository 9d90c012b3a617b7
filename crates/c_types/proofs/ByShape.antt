-- Types by the shapes that say them.
use Rattle.std.proofs.Common.{◌≡◌, ℕ, List, Option, Some, None, subst}
use Rattle.c_types.specs.Types as types
use Rattle.c_types.specs.Types.{CType, CTypes}
use Rattle.c_types.specs.Known.{Known, OneType, TypeList, of_tag, of_type, of_both}

pub one_type : (t u : CType) → Some (OneType t) ≡ Some (OneType u) → t ≡ u
one_type t u e = cc

-- what holds of each struct, of each type made of one type, and of each function
pub from_tag : (o : Option (List ℕ)) (P : CType → Type 0) → ((tag : List ℕ) → P (types.Struct tag)) → (t : CType) → of_tag o ≡ Some (OneType t) → P t
from_tag (Some tag) P g t h = subst P (one_type (types.Struct tag) t h) (g tag)
from_tag None P g t h = absurd cc

pub from_type : (o : Option Known) (f : CType → CType) (P : CType → Type 0) → ((u : CType) → P (f u)) → (t : CType) → of_type o f ≡ Some (OneType t) → P t
from_type (Some (OneType u)) f P g t h = subst P (one_type (f u) t h) (g u)
from_type (Some (TypeList us)) f P g t h = absurd cc
from_type None f P g t h = absurd cc

pub from_both : (o p : Option Known) (P : CType → Type 0) → ((u : CType) (us : CTypes) → P (types.Function u us)) → (t : CType) → of_both o p (λ u us. OneType (types.Function u us)) ≡ Some (OneType t) → P t
from_both (Some (OneType u)) (Some (TypeList us)) P g t h = subst P (one_type (types.Function u us) t h) (g u us)
from_both (Some (OneType u)) (Some (OneType v)) P g t h = absurd cc
from_both (Some (OneType u)) None P g t h = absurd cc
from_both (Some (TypeList us)) p P g t h = absurd cc
from_both None p P g t h = absurd cc

-- a list is no type
pub no_type : (o p : Option Known) (t : CType) → of_both o p (λ u us. TypeList (types.MoreType u us)) ≡ Some (OneType t) → ⊥
no_type (Some (OneType u)) (Some (TypeList us)) t h = cc
no_type (Some (OneType u)) (Some (OneType v)) t h = cc
no_type (Some (OneType u)) None t h = cc
no_type (Some (TypeList us)) p t h = cc
no_type None p t h = cc
