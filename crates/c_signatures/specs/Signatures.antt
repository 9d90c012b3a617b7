-- Signatures of functions, as the definitions have them.
use Rattle.std.specs.Prelude.{◌≡◌, List, [], Result, Ok, Vec}
use Rattle.std.specs.declared.alloc.Global.{Global}
use Rattle.c_types.specs.declared.fault.TypeFault.{TypeFault}
use Rattle.c_types.specs.Types.{CType, Function}
use Rattle.c_types.specs.Refusals.{Judged}
use Rattle.c_operands.specs.Seen.{IsJudged}
use Rattle.c_operands.specs.declared.declarations.Declarations.{Declarations}
use Rattle.c_types.specs.Types.{CTypes}
use Rattle.c_types.specs.Scope.{Scope}
use Rattle.c_types.specs.Units as plain
use Rattle.c_types.specs.Units.{type_of}
use Rattle.c_types.specs.Table.{Table, known, HasType}
use Rattle.c_operands.specs.Scoped.{AreNames}
use Rattle.c_signatures.specs.declared.parameters.Parameter.{Parameter}
use Rattle.c_signatures.specs.declared.signature.Signature.{Signature}
use Rattle.c_signatures.specs.Parameters.{with_entries, AreTyped, AreParameters}

-- these are parameters of some types
abbrev pub AreSomeTyped : Table → List Parameter → Type 0
AreSomeTyped table parameters = (ts : CTypes) × AreTyped (known table) parameters ts

-- a signature of the code is one of the definitions, in a scope
pub record IsSignature (table : Table) (s : Scope) (v : Signature) (f : plain.Signature) : Type 0 where
  pub result : HasType table v.result f.result
  pub ty : HasType table v.ty (type_of f)
  pub typed : AreTyped (known table) v.parameters.items f.parameters.types
  pub block : AreNames table (with_entries [] v.parameters.items) f.parameters.scope.block
  pub tags : f.parameters.scope.tags ≡ s.tags
  pub defined : f.parameters.scope.defined ≡ s.defined

-- a signature of the code has these parameters, a result and parameters of these types
pub record HasParts (table : Table) (f : Signature) (v : Vec Parameter Global) (t : CType) (ts : CTypes) : Type 0 where
  pub parameters : f.parameters ≡ v
  pub result : HasType table f.result t
  pub ty : HasType table f.ty (Function t ts)
  pub typed : AreTyped (known table) v.items ts

-- parameters of the code are judged to be some
abbrev pub AreSomeParameters : Table → Result (Vec Parameter Global) TypeFault → Type 0
AreSomeParameters table r = (d : Declarations) × (s : Scope) × (q : Judged plain.Parameters) × IsJudged (AreParameters table d s) r q

abbrev pub with_parameters : CType → plain.Parameters → Judged plain.Signature
with_parameters t ps = Ok (record { result = t; parameters = ps })
