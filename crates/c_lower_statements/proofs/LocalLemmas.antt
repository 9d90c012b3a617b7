-- Declarations whose first value may lack memory.
use Rattle.std.proofs.Common.{◌≡◌, ◌+◌, ℕ, [], length, Some}
use Rattle.std.specs.Prelude.{Result, Ok, Err, IfOk, OnOk}
use Rattle.std.specs.declared.alloc.AllocError.{AllocError}
use Rattle.c_syntax.specs.Plain as plain
use Rattle.c_syntax.specs.Plain.{CValue, CDecl}
use Rattle.c_eval.specs.Environment.{Environment, object_type_in, declaring}
use Rattle.c_eval.specs.LiteralsIn.{value_literals}
use Rattle.c_cells.specs.declared.structs.StructKinds.{StructKinds}
use Rattle.c_cells.specs.Structs.{AreStructKinds}
use Rattle.c_lowered.specs.Locations.{Linking, located}
use Rattle.c_lowered.specs.Counts.{first_jumps}
use Rattle.c_lowered.specs.Statements.{first_code, offset_in_frame}
use Rattle.c_counted.specs.Numbers.{IsNumber}
use Rattle.c_addressing.specs.declared.here.Here.{Here}
use Rattle.c_addressing.specs.declared.here.Output.{Output}
use Rattle.c_addressing.specs.Here.{Emits}
use Rattle.c_applied.specs.Leads.{Leads, Keeps}
use Rattle.c_lower_blocks.specs.declared.blocks.Block.{Block}
use Rattle.c_lower_blocks.specs.declared.locals.Local.{Local}
use Rattle.c_lower_blocks.specs.Standing.{Stands, Goes, IsDeclared}
use Rattle.c_lower_blocks.proofs.StandingLemmas.{goes_later}
use Rattle.c_lower_statements.specs.declared.targets.Targets.{Targets}
use Rattle.c_lower_statements.specs.Lowered.{Lowers}
use Rattle.c_lower_statements.proofs.FormLemmas.{local_some}

pub local_on : (r : Result ℕ AllocError) (a b c : Output) (h e : Here) (kinds : StructKinds) (k l : Block) (d : CDecl) (v : CValue) (local : Local) (to : Targets) (first : ℕ) → d.first ≡ Some v → Goes a b h e k l → OnOk r (Keeps b c) → Emits a b [] 0
    → ((w : Linking) (env : Environment) (n : ℕ) → Stands h a k w env n → IsDeclared e b l w env n d local)
    → ((w : Linking) (env : Environment) (m n : ℕ) → IsDeclared e b l w env n d local → AreStructKinds b.types kinds (declaring d env).scope.tags → IsNumber first m
    → IfOk r (λ told. Leads b c (first_code v (object_type_in env.scope d) (offset_in_frame (located w (Some (Some env.next)))) w (declaring d env) m n) (length (value_literals (declaring d env).scope v)) told (m + first_jumps v)))
    → IfOk r (λ told. Lowers a c h e kinds k l (plain.Local d) to first told)
local_on (Ok x) a b c h e kinds k l d v local to first is goes keeps still declares code = local_some d v local to first x is goes keeps still declares code (goes_later goes keeps)
local_on (Err x) a b c h e kinds k l d v local to first is goes keeps still declares code = tt
