-- Calls: where their arguments stand, what may be called, and what is asked of the code that is called.
use Rattle.std.specs.Prelude.{◌≡◌, ℕ, suc, ◌+◌, ◌^◌, ◌<◌, ◌≤◌, Bool, true, false, List, [], ◌∷◌, Option, Some, None, codes}
use Rattle.std.specs.Str.{bytes_eq}
use Rattle.mach_core.specs.Rule.{input_at}
use Rattle.eir_core.specs.Memory.{Memory, word_at}
use Rattle.c_syntax.specs.Plain as plain
use Rattle.c_syntax.specs.Plain.{CExpr, CExprs}
use Rattle.c_types.specs.Types.{CTypes}
use Rattle.c_types.specs.Scope.{Scope}
use Rattle.c_eval.specs.State.{Value}
use Rattle.c_eval.specs.Environment.{Environment, past, Callee, Direct, Known, Format, Through, callee_in}
use Rattle.c_eval.specs.Eval.{World}
use Rattle.c_helpers.specs.Frames.{beyond, waiting_all}
use Rattle.c_place.specs.Place.{Machine}
use Rattle.c_lowered.specs.Locations.{Location}
use Rattle.c_lowered.specs.Operations.{call_at, call_through_at}
use Rattle.c_lowered.specs.Counts.{is_known_to_helpers}
use Rattle.c_lowered.specs.Expressions.{known_name, known_code}
use Rattle.c_memory.specs.Follows.{Mode, OneLess}
use Rattle.c_memory.specs.Lies.{Extent, Ground, Means}
use Rattle.c_landing.specs.Landing.{Names, Setting, Goes, InA}
use Rattle.c_landing.specs.Few.{words_there, IsFew}
use Rattle.c_valued.specs.Laws.{Valued}

-- ---- arguments

-- the words of a memory from an address on mean these values
abbrev pub WordsMean : Ground → List Extent → Memory → ℕ → List Value → Type 0
WordsMean g bs mem a [] = Unit {0}
WordsMean g bs mem a (v ∷ vs) = Means g bs v (word_at mem a) × WordsMean g bs mem (suc a) vs

-- values stand in the frame from its word d on
abbrev pub InFrame : Setting → ℕ → List Value → List Extent → Machine → Type 0
InFrame S d vs bs m = WordsMean S.ground bs m.memory (m.regs.bp + d) vs

-- the first of them stands in A
abbrev pub FirstInA : Setting → List Value → List Extent → Machine → Type 0
FirstInA S [] bs m = Unit {0}
FirstInA S (v ∷ vs) bs m = InA S v bs m

-- a function's first block waits in the frame's word d, and behind it stand arguments
abbrev pub Aimed : Setting → ℕ → List ℕ → List Value → List Extent → Machine → Type 0
Aimed S d name vs bs m = (word_at m.memory (m.regs.bp + d) ≡ S.ground.entry name) × InFrame S (suc d) vs bs m

-- ---- what is called

-- a unit is less, and pays for so many operations: one of the run, or in a helper function one of the second fuel
abbrev pub UnitPays : Mode → (inner : Bool) → (worth_one : ℕ) → Type 0
UnitPays mode false worth_one = (l n : ℕ) → OneLess mode worth_one (record { left = suc l; spare = n }) (record { left = l; spare = n })
UnitPays mode true worth_one = (l n : ℕ) → OneLess mode worth_one (record { left = l; spare = suc n }) (record { left = l; spare = n })

-- where other names are in scope
abbrev pub with_names : Setting → List Location → (coded named : Names) → Setting
with_names S bases coded named = record S { linking = record S.linking { bases = bases }; coded = coded; named = named }

-- calls of what may be called land, whatever names are in scope, where a function's words in its caller's frame have room: a use of a helper function takes at most u operations, and what another call takes its unit pays for
pub record CallsLand (S : Setting) (w : World) (u : ℕ) (may : Callee → Bool) : Type 0 where
  pub direct : (bases : List Location) (coded named : Names) (name : List ℕ) (params : CTypes) (block d n : ℕ) → may (Direct name params) ≡ true → is_known_to_helpers name ≡ false → words_there name ≤ n → suc block < 2 ^ 24
      → Goes (with_names S bases coded named) (call_at d (suc block) (S.linking.entry name)) block d n (5 + u) (λ vs. w.calls name vs) (InFrame S (suc d)) (InA S)
  -- what helper functions alone call has code of its own
  pub known : (bases : List Location) (coded named : Names) (name : List ℕ) (params : CTypes) (block d n : ℕ) → may (Direct name params) ≡ true → is_known_to_helpers name ≡ true
      → Goes (with_names S bases coded named) (known_code name) block d n (1 + u) (λ vs. w.calls name vs) (FirstInA S) (InA S)
  pub through : (bases : List Location) (coded named : Names) (name : List ℕ) (params : CTypes) (block d n : ℕ) → may (Through params) ≡ true → S.ground.valued name ≡ true → suc block < 2 ^ 24
      → Goes (with_names S bases coded named) (call_through_at d (suc block)) block d n (6 + u) (λ vs. w.calls name vs) (Aimed S d name) (InA S)
  -- a function that is always known costs a unit; `puts` has a helper function
  pub built_in : (name : List ℕ) (params : CTypes) → may (Known name params) ≡ true → UnitPays S.mode w.inner 0 × (bytes_eq name (codes "puts") ≡ false)
  pub format : may Format ≡ false
  -- what is read is a word
  pub bytes : (i : ℕ) → input_at S.input i < 2 ^ 24

-- ---- expressions

-- what helper functions alone call is a function of the text
abbrev pub KnownIsFunction : Option (List ℕ) → Callee → Type 0
KnownIsFunction (Some known) (Direct name params) = Unit {0}
KnownIsFunction (Some known) _ = ⊥
KnownIsFunction None callee = Unit {0}

-- where a function has words in its caller's frame, so many wait at its call
abbrev pub HasWords : Callee → (waiting : ℕ) → Type 0
HasWords (Direct name params) n = words_there name ≤ n
HasWords callee n = Unit {0}

-- a call that goes through a value asks this of it
abbrev pub OfPointer : Callee → Type 0 → Type 0
OfPointer (Through params) T = T
OfPointer _ T = Unit {0}

abbrev mutual
  -- the calls of an expression are of what may be called
  pub CallsAre : (Callee → Bool) → (valued : List ℕ → Bool) → CExpr → Scope → Type 0
  CallsAre may valued (plain.Unary at op a) s = CallsAre may valued a s
  CallsAre may valued (plain.Step at op a) s = CallsAre may valued a s
  CallsAre may valued (plain.Binary at op a b) s = CallsAre may valued a s × CallsAre may valued b s
  CallsAre may valued (plain.Assign at op a b) s = CallsAre may valued a s × CallsAre may valued b s
  CallsAre may valued (plain.Cond at a b c) s = CallsAre may valued a s × CallsAre may valued b s × CallsAre may valued c s
  CallsAre may valued (plain.Comma at a b) s = CallsAre may valued a s × CallsAre may valued b s
  CallsAre may valued (plain.Cast at t a) s = CallsAre may valued a s
  CallsAre may valued (plain.Index at a b) s = CallsAre may valued a s × CallsAre may valued b s
  CallsAre may valued (plain.Call at f es) s = (may (callee_in s f) ≡ true) × KnownIsFunction (known_name f) (callee_in s f) × OfPointer (callee_in s f) (IsFew f valued s × CallsAre may valued f s) × ArgumentsAre may valued es s × HasWords (callee_in s f) (waiting_all 1 (beyond f) es)
  CallsAre may valued (plain.Member at a m) s = CallsAre may valued a s
  CallsAre may valued (plain.Arrow at a m) s = CallsAre may valued a s
  CallsAre may valued _ s = Unit {0}

  -- so are those of arguments, whose operators are few
  pub ArgumentsAre : (Callee → Bool) → (valued : List ℕ → Bool) → CExprs → Scope → Type 0
  ArgumentsAre may valued plain.NoExpr s = Unit {0}
  ArgumentsAre may valued (plain.MoreExpr e es) s = IsFew e valued s × CallsAre may valued e s × ArgumentsAre may valued es s

-- each argument lands
abbrev pub ArgumentsValued : Setting → World → ℕ → CExprs → Environment → Type 0
ArgumentsValued S w u plain.NoExpr site = Unit {0}
ArgumentsValued S w u (plain.MoreExpr e es) site = Valued S w u e site × ArgumentsValued S w u es (past e site)
