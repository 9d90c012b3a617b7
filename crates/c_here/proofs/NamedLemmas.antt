-- Names of objects and of functions.
use Rattle.std.proofs.Common.{◌≡◌, ℕ, List, [], ◌∷◌, ◌++◌, refl, ap, subst}
use Rattle.std.specs.Prelude.{Option, Some, None}
use Rattle.c_syntax.specs.Words.{meaning}
use Rattle.c_types.specs.Scope as scope
use Rattle.c_types.specs.Scope.{Scope, entity_of}
use Rattle.c_eval.specs.State as run
use Rattle.c_eval.specs.Environment.{Environment}
use Rattle.c_code.specs.Code as code
use Rattle.c_code.specs.Code.{Site, name_code}
use Rattle.c_scopes.specs.declared.entity.Entity.{Entity}
use Rattle.c_scopes.specs.declared.entity.Entity.TheVariants.{Object, Routine, BuiltIn, Printf}
use Rattle.c_types.specs.Table.{Table, HasType}
use Rattle.c_operands.specs.declared.declarations.Declarations.{Declarations}
use Rattle.c_operands.specs.Scoped.{Fits, IsEntityOrNone}
use Rattle.c_operands.proofs.NameLemmas.{found, both_blocks, object_is}
use Rattle.c_here.specs.Named.{object_of}

-- what a name stands for
pub entity_found : (table : Table) (d : Declarations) (s : Scope) (name : List ℕ) → Fits table d s → IsEntityOrNone table (meaning (d.names.block ++ d.names.outer) name) (entity_of s name)
entity_found table d s name fits = found table (d.names.block ++ d.names.outer) (s.block ++ s.outer) name (both_blocks table d.names.block d.names.outer s.block s.outer fits.block fits.outer)

-- it is an object
pub is_object : (o : Option Entity) (ty : ℕ) → object_of o ≡ Some ty → o ≡ Some (Object ty)
is_object (Some (Object n)) ty e = let same : n ≡ ty = cc in ap (λ (k : ℕ). Some (Object k)) same
is_object (Some (Routine n b)) ty e = absurd cc
is_object (Some (BuiltIn n)) ty e = absurd cc
is_object (Some Printf) ty e = absurd cc
is_object None ty e = absurd cc

pub object_found : (table : Table) (o : Option Entity) (p : Option scope.Entity) (ty : ℕ) → object_of o ≡ Some ty → IsEntityOrNone table o p → (t : _) × (p ≡ Some (scope.Object t)) × HasType table ty t
object_found table o p ty e h = object_is table ty p (subst (λ (q : Option Entity). IsEntityOrNone table q p) (is_object o ty e) h)

-- it is none
pub function_found : (table : Table) (site : Site) (env : Environment) (name : List ℕ) (o : Option Entity) (p : Option scope.Entity) → object_of o ≡ None → IsEntityOrNone table o p → name_code site env name p ≡ code.Push (run.Function name) ∷ []
function_found table site env name (Some (Object n)) p e h = absurd cc
function_found table site env name o (Some (scope.Routine t b)) e h = refl
function_found table site env name o (Some (scope.BuiltIn t)) e h = refl
function_found table site env name o (Some scope.Printf) e h = refl
function_found table site env name o None e h = refl
function_found table site env name (Some (Routine n b)) (Some (scope.Object t)) e h = absurd h
function_found table site env name (Some (BuiltIn n)) (Some (scope.Object t)) e h = absurd h
function_found table site env name (Some Printf) (Some (scope.Object t)) e h = absurd h
function_found table site env name None (Some (scope.Object t)) e h = absurd h
