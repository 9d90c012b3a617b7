-- Calls of functions: a frame is opened, the function's code runs in it, and it is closed.
use Rattle.std.specs.Prelude.{◌≡◌, ◌⊎◌, ℕ, suc, ◌+◌, ◌^◌, ◌<◌, ◌≤◌, Bool, true, false, List, length, min, Some, None, codes}
use Rattle.std.specs.Str.{bytes_eq}
use Rattle.mach_core.specs.Rule.{applied, input_at}
use Rattle.eir_core.specs.Eir.{Eir}
use Rattle.eir_core.specs.Memory.{with_word}
use Rattle.eir_core.specs.Step.{eir_rule}
use Rattle.eir_core.specs.declared.ops.Op.{Op}
use Rattle.c_types.specs.Types.{CTypes}
use Rattle.c_eval.specs.State.{Value, State, Run}
use Rattle.c_eval.specs.Run.{most_charge}
use Rattle.c_eval.specs.Environment.{Callee, Direct, Known, Format, Through}
use Rattle.c_eval.specs.Text.{Definition, Text, function_named}
use Rattle.c_eval.specs.Meaning.{Rules, world_of, calls_to}
use Rattle.c_place.specs.Place.{Place, front, behind_all, Machine, Stands}
use Rattle.c_lowered.specs.Counts.{is_known_to_helpers}
use Rattle.c_lowered.specs.Locations.{Linking}
use Rattle.c_lowered.specs.Whole.{function_jumps}
use Rattle.c_memory.specs.Follows.{Fuel, fuel_of, Mode, outer, here, Comes, Follows}
use Rattle.c_memory.specs.Lies.{Extent}
use Rattle.c_landing.specs.Landing.{Names, Setting, Ready, Reached, InA}
use Rattle.c_landing.specs.Few.{words_there, Agrees}
use Rattle.c_valued.specs.Calls.{WordsMean, UnitPays, CallsLand}
use Rattle.c_followed.specs.Bodies.{inside, code_of, FunctionIs}

-- ---- frames

-- code opens a frame at the frame's word d, from which block e is run, and closes it behind itself: an operation, at which a unit may be spent, c more, and one at its end
pub record OpensFrame (p : Eir) (input : List ℕ) (code : List Op) (s : Place) (m : Machine) (d e c : ℕ) : Type 0 where
  -- the block to return to, which stands in the new frame's first word
  pub back : ℕ
  pub next : Place
  pub moved : Machine
  pub opened : Machine
  pub framed : opened.regs.bp ≡ m.regs.bp + d
  pub memory : opened.memory ≡ with_word m.memory (m.regs.bp + d) back
  pub step : (st : State) → applied (eir_rule p) input (here s m st) ≡ here next moved st
  pub rest : (mode : Mode) (st : State) (x : Fuel) → Comes p input mode (here next moved st) x c (here (front e) opened st) x
  pub closed : (mode : Mode) (m1 : Machine) (st : State) (x : Fuel) → m1.regs.bp ≡ m.regs.bp + d → Comes p input mode (here (front back) m1 st) x 1 (here (behind_all s code) (record m1 { regs = record m1.regs { bp = m.regs.bp } }) st) x

-- a call of a function lands, by whatever code opens its frame, behind which its arguments stand, and its words in the caller's frame have room
pub record CallLands (T : Setting) (name : List ℕ) (u : ℕ) (run : List Value → Run Value) : Type 0 where
  pub at : (code : List Op) (c d n : ℕ) (vs : List Value) (s : Place) (bs : List Extent) (st : State) (m : Machine) → s.block < length T.program.blocks → OpensFrame T.program T.input code s m d (T.ground.entry name) c → Ready T bs st m d n
      → WordsMean T.ground bs m.memory (m.regs.bp + suc d) vs → words_there name ≤ n → Follows T.program T.input T.mode (here s m st) (fuel_of st) (c + 2 + u) (run vs st) (Reached T bs st m.memory m.regs.bp d (behind_all s code) (InA T))

-- ---- what is called

-- outside helper functions a unit pays for so many operations
abbrev pub outside : Setting → ℕ → Setting
outside S rate = record S { mode = outer rate }

-- where a call stands: so deep, below such a roof, and with such names
abbrev pub calling : Setting → (deep roof : ℕ) → Linking → (coded named : Names) → Setting
calling S deep roof linking coded named = record S { deep = deep; roof = roof; linking = linking; coded = coded; named = named }

-- the same where a function's code begins
abbrev pub called : Setting → (deep roof : ℕ) → Setting
called S deep roof = record S { deep = deep; roof = roof }

-- what code may call besides: of what is always known all but `puts`, and what is read is a word; formats have functions, and what helper functions alone call has code of its own
pub record MayCall (S : Setting) (may : Callee → Bool) : Type 0 where
  pub direct : (name : List ℕ) (params : CTypes) → may (Direct name params) ≡ true → is_known_to_helpers name ≡ false
  pub built_in : (name : List ℕ) (params : CTypes) → may (Known name params) ≡ true → bytes_eq name (codes "puts") ≡ false
  pub format : may Format ≡ false
  pub bytes : (i : ℕ) → input_at S.input i < 2 ^ 24

-- a name that a call may come to: by itself, or through a pointer, where pointers point to the function
abbrev pub MayBeCalled : Setting → (Callee → Bool) → List ℕ → Type 0
MayBeCalled S may name = ((params : CTypes) × (may (Direct name params) ≡ true)) ⊎ ((params : CTypes) × (may (Through params) ≡ true) × (S.ground.valued name ≡ true))

-- frames go as far behind the first as the charges of the live calls, and there is room for those of a helper function behind
pub record FramesFit (S : Setting) (first : ℕ) : Type 0 where
  pub level : (charge words : ℕ) → S.level charge words ≡ first + min charge most_charge
  pub top : first + most_charge + 1024 < 2 ^ 24

-- a function's code stands where its entry says
pub record StandsThere (S : Setting) (name : List ℕ) (f : Definition) : Type 0 where
  pub code : Stands S.program (front (S.ground.entry name)) (code_of S f (S.ground.entry name))
  pub small : S.ground.entry name + function_jumps f < 2 ^ 24

-- a function of a text that may be called, as `main` is, and no helper function
abbrev pub IsOwn : Setting → Text → Rules → (Callee → Bool) → List ℕ → Definition → Type 0
IsOwn S t rules may name f = (MayBeCalled S may name ⊎ (name ≡ codes "main")) × (rules.helps name ≡ None) × (function_named t name ≡ Some f)

-- each function stands there, its frame is at most its charge, and a unit pays for its operations
pub record TextStands (S : Setting) (t : Text) (rules : Rules) (u worth_one : ℕ) (may : Callee → Bool) : Type 0 where
  pub names : S.file_named ≡ t.names
  pub agrees : (name : List ℕ) (f : Definition) (calls : List ℕ → List Value → Run Value) → IsOwn S t rules may name f → Agrees (inside S f) (world_of t S.input name calls)
  pub there : (name : List ℕ) (f : Definition) → IsOwn S t rules may name f → StandsThere S name f
  pub is : (name : List ℕ) (f : Definition) (calls : List ℕ → List Value → Run Value) → IsOwn S t rules may name f → FunctionIs S (world_of t S.input name calls) u may (rules.charge name) worth_one f

-- uses of helper functions that may be called land, wherever they stand
abbrev pub UsesLand : Setting → Rules → (u : ℕ) → (Callee → Bool) → Type 0
UsesLand S rules u may = (deep roof : ℕ) (linking : Linking) (coded named : Names) (name : List ℕ) (help : List Value → Run Value) → MayBeCalled S may name → rules.helps name ≡ Some help → CallLands (calling S deep roof linking coded named) name u help

-- then calls of functions land, so deep as a run may come
abbrev pub TextCallsLand : Type 0
TextCallsLand =
    (S : Setting) (t : Text) (rules : Rules) (first u worth_one : ℕ) (may : Callee → Bool) → UnitPays S.mode false worth_one → FramesFit S first → MayCall S may → TextStands S t rules u worth_one may → UsesLand S rules u may
    → (deep roof : ℕ) (name : List ℕ) (f : Definition) → IsOwn S t rules may name f → CallsLand (inside (called S deep roof) f) (world_of t S.input name (calls_to deep rules t S.input)) u may
