-- Parameters of functions, as the definitions have them.
use Rattle.std.specs.Prelude.{◌≡◌, ℕ, not, List, [], ◌∷◌, ◌++◌, Option, Some, Ok, Err, is_none, slice_get, Vec}
use Rattle.std.specs.Result.{result_err}
use Rattle.std.specs.declared.alloc.Global.{Global}
use Rattle.c_syntax.specs.declared.tree.Decl.{Decl}
use Rattle.c_types.specs.declared.fault.TypeFault.{TypeFault}
use Rattle.c_types.specs.Units as plain
use Rattle.c_types.specs.Table.{Table, known}
use Rattle.c_operands.specs.declared.declarations.Declarations.{Declarations}
use Rattle.c_operands.specs.Scoped.{AreNames}
use Rattle.c_declared.specs.Held.{Holds}
use Rattle.c_syntax.specs.Plain.{CDecl}
use Rattle.c_types.specs.declared.fault.TypeFault.TheVariants as fault
use Rattle.c_types.specs.Types.{CType, CTypes, NoType, MoreType}
use Rattle.c_types.specs.Refusals.{Judged, Rule, keeping}
use Rattle.c_types.specs.Scope.{Scope, is_declared_here}
use Rattle.c_types.specs.Known.{Known, OneType}
use Rattle.c_scopes.specs.declared.entity.Entity.{Entity}
use Rattle.c_scopes.specs.declared.entity.Entity.TheVariants.{Object}
use Rattle.c_signatures.specs.declared.parameters.Parameter.{Parameter}

-- a parameter's own rules
abbrev pub parameter_rules : Scope → CDecl → List Rule
parameter_rules s p = (not (is_declared_here s p.name), fault.Twice p.pos) ∷ (is_none p.first, fault.Mismatch p.pos) ∷ []

abbrev pub Entries : Type 0
Entries = List (List ℕ × Entity)

-- a parameter without a name declares nothing
abbrev pub with_entry : Entries → List ℕ → ℕ → Entries
with_entry block [] ty = block
with_entry block (b ∷ name) ty = (b ∷ name, Object ty) ∷ block

abbrev pub with_entries : Entries → List Parameter → Entries
with_entries block [] = block
with_entries block (p ∷ parameters) = with_entries (with_entry block p.name.now p.ty) parameters

-- these are the types of parameters one by one
abbrev pub AreTyped : List Known → List Parameter → CTypes → Type 0
AreTyped all [] NoType = Unit {0}
AreTyped all (p ∷ parameters) (MoreType t ts) = (slice_get all p.ty ≡ Some (OneType t)) × AreTyped all parameters ts
AreTyped all _ _ = ⊥

-- a parameter of a type
abbrev pub typed_parameter : Scope → CDecl → CType → Judged plain.Parameter
typed_parameter s p t = keeping (parameter_rules s p) (record { ty = t; scope = plain.with_parameter s p.name t })

-- a parameter's type
pub record IsParameter (all : List Known) (p : Parameter) (text : List ℕ) (t : CType) : Type 0 where
  pub name : p.name.now ≡ text
  pub ty : slice_get all p.ty ≡ Some (OneType t)

-- a parameter that isn't refused is behind the others, and is declared
pub record IsAdded (table : Table) (d : Declarations) (old new : List Parameter) (s : Scope) (p : Decl) (r : Option TypeFault) (j : Judged plain.Parameter) : Type 0 where
  pub told : r ≡ result_err j
  pub holds : Holds table d (plain.parameter_scope_or s j)
  pub added : (first : plain.Parameter) → j ≡ Ok first → (q : Parameter) × (new ≡ old ++ q ∷ []) × IsParameter (known table) q p.name first.ty
  pub kept : (e : TypeFault) → j ≡ Err e → new ≡ old

-- the parameters of the code have these types, and they declare the names of the scope behind them
pub record AreParameters (table : Table) (d : Declarations) (s : Scope) (v : Vec Parameter Global) (r : plain.Parameters) : Type 0 where
  pub typed : AreTyped (known table) v.items r.types
  pub block : AreNames table (with_entries d.names.block v.items) r.scope.block
  pub tags : r.scope.tags ≡ s.tags
  pub defined : r.scope.defined ≡ s.defined
