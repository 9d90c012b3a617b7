-- The rule by which flat code goes on, one instruction a step.
use Rattle.std.specs.Prelude.{ℕ, Bool, true, false, not, ◌||◌, List, [], ◌∷◌, Option, Some, slice_get, codes}
use Rattle.std.specs.Str.{bytes_eq}
use Rattle.mach_core.specs.declared.machine.Status.{Status}
use Rattle.mach_core.specs.declared.machine.Status.TheVariants as status
use Rattle.mach_core.specs.Rule.{Rule, Moment}
use Rattle.c_eval.specs.State.{Object, number_of, State, Outcome, Gives, Ended, Going, Undefined}
use Rattle.c_code.specs.Code.{Instruction, BuiltIn}
use Rattle.c_code.specs.Machine.{Entry, Control, Program, step_at}

-- a program without its input
pub record FlatCode : Type 0 where
  pub instructions : List Instruction
  pub entries : List (List ℕ × Entry)

abbrev pub code_of : Program → FlatCode
code_of p = record { instructions = p.instructions; entries = p.entries }

-- what a machine has beside its control: the objects, the units of fuel that are left, and the charges of the live calls
pub record Store : Type 0 where
  pub objects : List Object
  pub left : ℕ
  pub charge : ℕ

pub data Config : Type 0 where
  At : (control : Control) → (store : Store) → Config
  AtEnd : Config
  AtFault : (code : ℕ) → Config

-- ---- outcomes of runs

-- a run that has taken and written nothing, and uses no helper functions
abbrev pub fresh : Store → State
fresh s = record { objects = s.objects; left = s.left; spare = 0; words = 0; charge = s.charge; taken = 0; output = [] }

abbrev pub store_of : State → Store
store_of st = record { objects = st.objects; left = st.left; charge = st.charge }

abbrev pub state_of : {A : Type 0} → Outcome A → State
state_of (Gives a st) = st
state_of (Ended st) = st
state_of (Going st) = st
state_of (Undefined act st) = st

-- fault 0 is a unit of fuel that is wanted where none is left, and each other fault is the number of an undefined act
abbrev pub config_of : Outcome Control → Config
config_of (Gives c st) = At c (store_of st)
config_of (Ended st) = AtEnd
config_of (Going st) = AtFault 0
config_of (Undefined act st) = AtFault (number_of act)

abbrev pub moment_of : Outcome Control → Moment Config
moment_of r = record { config = config_of r; taken = (state_of r).taken; output = (state_of r).output }

-- ---- steps

-- an instruction that takes a byte
abbrev pub takes : Option Instruction → Bool
takes (Some (BuiltIn name params count)) = bytes_eq name (codes "getchar") || bytes_eq name (codes "__builtin_getc")
takes _ = false

-- a program whose input is the byte that it is fed
abbrev pub fed : FlatCode → ℕ → Program
fed f byte = record { instructions = f.instructions; entries = f.entries; input = byte ∷ [] }

-- what the next instruction does by itself
abbrev pub step_fed : FlatCode → ℕ → Control → Store → Outcome Control
step_fed f byte c s = step_at (fed f byte) (slice_get f.instructions c.at) c (fresh s)

abbrev pub standing_of : Config → Status
standing_of (At c s) = status.Going
standing_of AtEnd = status.Ended
standing_of (AtFault code) = status.Fault code

abbrev pub wants_in : FlatCode → Config → Bool
wants_in f (At c s) = takes (slice_get f.instructions c.at)
wants_in f _ = false

abbrev pub next_of : FlatCode → Config → ℕ → Config
next_of f (At c s) byte = config_of (step_fed f byte c s)
next_of f k byte = k

abbrev pub written_of : FlatCode → Config → ℕ → List ℕ
written_of f (At c s) byte = (state_of (step_fed f byte c s)).output
written_of f k byte = []

abbrev pub code_rule : FlatCode → Rule Config
code_rule f = record { standing = standing_of; wants = wants_in f; next = next_of f; written = written_of f }

-- ---- pieces

-- an instruction writes at most one piece: a `puts` is made of several
abbrev pub is_single : Instruction → Bool
is_single (BuiltIn name params count) = not (bytes_eq name (codes "puts"))
is_single _ = true
