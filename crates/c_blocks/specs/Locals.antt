-- Objects that blocks declare.
use Rattle.std.specs.Prelude.{◌≡◌, ◌+◌, ℕ, List, [], ◌∷◌, ◌++◌, Option, Some, None}
use Rattle.c_syntax.specs.Plain.{CDecl}
use Rattle.c_types.specs.Types.{words_of}
use Rattle.c_eval.specs.Environment.{Environment, object_type_in, declaring}
use Rattle.c_code.specs.Code.{Site}
use Rattle.c_types.specs.Table.{Table, HasType, IsType}
use Rattle.c_emitted.specs.declared.emitter.Emitter.{Emitter}
use Rattle.c_here.specs.declared.here.Here.{Here}
use Rattle.c_blocks.specs.declared.objects.Block.{Block}
use Rattle.c_blocks.specs.declared.locals.Local.{Local}
use Rattle.c_blocks.specs.Standing.{Stands}

-- the next object of a block has this length and this slot
pub record GetsSlot (k l : Block) (length slot : ℕ) : Type 0 where
  pub slot_is : slot ≡ k.next
  pub next : l.next ≡ k.next + 1
  pub free : l.free ≡ k.free
  pub lengths : l.lengths.items ≡ k.lengths.items ++ length ∷ []

-- an object is declared as its declaration says, in the next slot
pub record IsDeclared (table : Table) (h : Here) (out : Emitter) (k l : Block) (site : Site) (env : Environment) (d : CDecl) (local : Local) : Type 0 where
  pub ty : HasType table local.ty (object_type_in env.scope d)
  pub slot : local.slot ≡ env.next
  pub stands : Stands table h out l site (declaring d env)
  pub lengths : l.lengths.items ≡ k.lengths.items ++ words_of env.scope.tags (object_type_in env.scope d) ∷ []

-- there is such an object
abbrev pub IsSomeDeclared : Table → Here → Emitter → Block → Block → Site → Environment → CDecl → Option Local → Type 0
IsSomeDeclared table h out k l site env d (Some local) = IsDeclared table h out k l site env d local
IsSomeDeclared table h out k l site env d None = ⊥

-- its type has a number
abbrev pub IsTypedOrNone : Table → Option Local → Type 0
IsTypedOrNone table (Some local) = IsType table local.ty
IsTypedOrNone table None = Unit {0}
