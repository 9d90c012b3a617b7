-- Where code stands.
use Rattle.std.specs.Prelude.{◌≡◌}
use Rattle.c_eval.specs.Environment.{Environment}
use Rattle.c_code.specs.Code.{Site}
use Rattle.c_resolved.specs.Same.{IsOwner}
use Rattle.c_types.specs.Table.{Table}
use Rattle.c_declared.specs.Held.{Holds}
use Rattle.c_emitted.specs.declared.emitter.Emitter.{Emitter}
use Rattle.c_emitted.specs.Emits.{tables_of, AreFiles}
use Rattle.c_pieces.specs.Places.{AreInSlots}
use Rattle.c_here.specs.declared.here.Here as rust

-- what the code knows of a place is what the definitions say of it, also how many string literals of the function stand before
pub record IsHere (table : Table) (h : rust.Here) (out : Emitter) (site : Site) (here : Environment) : Type 0 where
  pub holds : Holds table h.declared here.scope
  pub slots : AreInSlots h.slots here.objects
  pub files : AreFiles out site.names
  pub owner : IsOwner (tables_of out).names site.owner out.owner
  pub before : out.before ≡ here.literals_before
