-- What each outcome shows: of a program that is emitted, of a run, of a text and of a file, whatever the language.
use Rattle.std.specs.Prelude.{◌≡◌, ◌⊎◌, ◌<◌, ◌≤◌, ◌+◌, ◌^◌, ℕ, List, [], ◌++◌, length, true, cond, IsTrue}
use Rattle.std.specs.Io.KnownBytes.{Appends, Consumes}
use Rattle.mach_core.specs.Outside.{HasTakenAtMost, IsLonger, IsMissing, IsTextUnder, one_more}
use Rattle.mach_core.specs.Put.{GotPrefix}
use Rattle.mach_core.specs.Ran.{AsksAsNeeded, OnInput}
use Rattle.mach_core.specs.Rule.{IsInput}
use Rattle.mach_core.specs.declared.machine.Status.{Status}
use Rattle.mach_core.specs.declared.machine.Status.TheVariants as standing
use Rattle.eir_core.specs.Eir.{Eir, size_of}
use Rattle.c_valid.specs.Valid.{AreBytes}
use Rattle.elvm_sample.specs.Sample.{IsSample}
use Rattle.elvm_cli.specs.Seen.{AreUntouched, Got, GotFront, InputRises, IsQuiet, OnShelf, OnSink, OnSource, OutRises, ShelfRises}
use Rattle.elvm_cli.specs.Runs.{Runs}
use Rattle.elvm_cli.specs.declared.outcome.Outcome.{Outcome}
use Rattle.elvm_cli.specs.declared.outcome.Outcome.TheVariants.{Done, Usage, NoFile, TooLarge, Refused, NoInput, NoOutput, Fault, Limit, NoMemory}

-- ---- emission

-- a program is emitted, if it isn't above the limit, as a text that stands for it
abbrev pub EmitShows : ℕ → (Eir → List ℕ → Type 0) → OnSink → Eir → Outcome → Type 0
EmitShows limit Stands out program Done = (size_of program ≤ limit) × Got out (Stands program)
EmitShows limit Stands out program TooLarge = (limit < size_of program) × IsQuiet out
EmitShows limit Stands out program NoOutput = (size_of program ≤ limit) × OutRises out × GotFront out (Stands program)
EmitShows limit Stands out program NoMemory = (size_of program ≤ limit) × GotFront out (Stands program)
EmitShows limit Stands out program _ = ⊥

-- ---- printing

-- a text is put out
abbrev pub PutShows : List ℕ → OnSink → Outcome → Type 0
PutShows text out Done = Appends out.got out.got_after text
PutShows text out NoOutput = OutRises out × GotPrefix out.got out.got_after text
PutShows text out NoMemory = IsQuiet out
PutShows text out _ = ⊥

-- ---- runs

-- this holds of an input that begins with the bytes that the source gave, and of these
abbrev pub IsFed : OnSource → (List ℕ → List ℕ → Type 0) → Type 0
IsFed input P = OnInput input.left input.left_after P

-- the run stands so after so many steps, and out got its output
pub record RunsTo (runs : Runs) (steps : ℕ) (input : OnSource) (out : OnSink) (stands : Status) (i given : List ℕ) : Type 0 where
  pub standing : (runs i steps).standing ≡ stands
  pub needed : AsksAsNeeded input.left input.left_after given (runs i steps).taken
  pub output : Appends out.got out.got_after (runs i steps).output

-- the run was broken off after so many steps or fewer, and out got a front of its output
pub record RunsInto (runs : Runs) (steps : ℕ) (input : OnSource) (out : OnSink) (i given : List ℕ) : Type 0 where
  pub count : ℕ
  pub within : count ≤ steps
  pub needed : AsksAsNeeded input.left input.left_after given (runs i count).taken
  pub output : GotPrefix out.got out.got_after (runs i count).output

-- before so many steps were made the last piece was asked for where the run wants a byte, when out had got all its output up to there
pub record AskedBehind (runs : Runs) (steps : ℕ) (out : OnSink) (i given : List ℕ) : Type 0 where
  pub asked : ℕ
  pub below : asked < steps
  pub going : (runs i asked).standing ≡ standing.Going
  pub wants : (runs i asked).wants ≡ true
  pub few : length given ≤ (runs i asked).taken + 4096
  pub more : List ℕ
  pub got : Appends out.got out.got_after ((runs i asked).output ++ more)

-- the source wasn't asked, or it was so
abbrev pub AsksBehind : Runs → ℕ → OnSource → OnSink → List ℕ → List ℕ → Type 0
AsksBehind runs steps input out i given = ((given ≡ []) × (input.left_after ≡ input.left)) ⊎ AskedBehind runs steps out i given

-- out broke in the run, and nothing was asked for behind the byte at which it broke
pub record RunsBroken (runs : Runs) (steps : ℕ) (input : OnSource) (out : OnSink) (i given : List ℕ) : Type 0 where
  pub into : RunsInto runs steps input out i given
  pub asks : AsksBehind runs steps input out i given

-- the run is going after fewer steps, and out got its output; at most the byte that is wanted next was asked for besides
pub record RunsOn (runs : Runs) (steps : ℕ) (input : OnSource) (out : OnSink) (i given : List ℕ) : Type 0 where
  pub count : ℕ
  pub below : count < steps
  pub going : (runs i count).standing ≡ standing.Going
  pub needed : AsksAsNeeded input.left input.left_after given (cond (runs i count).wants ((runs i count).taken + 1) (runs i count).taken)
  pub output : Appends out.got out.got_after (runs i count).output

-- on the bytes that the source gave the run has taken them all after fewer steps, wants one more, and out got its output
pub record RunsOut (runs : Runs) (steps : ℕ) (input : OnSource) (out : OnSink) : Type 0 where
  pub given : List ℕ
  pub consumed : Consumes input.left input.left_after given
  pub bytes : IsInput given
  pub count : ℕ
  pub below : count < steps
  pub going : (runs given count).standing ≡ standing.Going
  pub wants : (runs given count).wants ≡ true
  pub taken : (runs given count).taken ≡ length given
  pub output : Appends out.got out.got_after (runs given count).output

-- a run of at most so many steps
abbrev pub RunShows : Runs → ℕ → OnSource → OnSink → Outcome → Type 0
RunShows runs steps input out Done = IsFed input (RunsTo runs steps input out standing.Ended)
RunShows runs steps input out Limit = IsFed input (RunsTo runs steps input out standing.Going)
RunShows runs steps input out (Fault code) = IsFed input (RunsTo runs steps input out (standing.Fault code))
RunShows runs steps input out NoInput = InputRises input × RunsOut runs steps input out
RunShows runs steps input out NoOutput = OutRises out × IsFed input (RunsBroken runs steps input out)
RunShows runs steps input out NoMemory = IsFed input (RunsOn runs steps input out)
RunShows runs steps input out _ = ⊥

-- a run with at most so many units of fuel, where want of memory may come behind the last unit too
abbrev pub FueledShows : Runs → ℕ → OnSource → OnSink → Outcome → Type 0
FueledShows runs fuel input out NoMemory = IsFed input (RunsInto runs fuel input out)
FueledShows runs fuel input out outcome = RunShows runs fuel input out outcome

-- ---- texts and files

-- it is refused for a reason of which this comes out
abbrev pub IsRefusedAs : {X : Type 0} → (X → Type 0) → (X → Outcome) → Outcome → Type 0
IsRefusedAs {X} Refuses comes_out outcome = (fault : X) × Refuses fault × (comes_out fault ≡ outcome)

-- no program was read: the text is refused as too large or by name, or there was no memory
abbrev pub IsNoProgram : (Outcome → Type 0) → Outcome → Type 0
IsNoProgram IsRefused (Refused kind place) = IsRefused (Refused kind place)
IsNoProgram IsRefused TooLarge = IsRefused TooLarge
IsNoProgram IsRefused NoMemory = Unit {0}
IsNoProgram IsRefused _ = ⊥

-- the text spells a program of which this holds
abbrev pub OfProgram : {P : Type 0} → (List ℕ → P → Type 0) → List ℕ → (P → Type 0) → Type 0
OfProgram {P} Spells text Q = (program : P) × Spells text program × Q program

-- a text gives no program and all is quiet, or it spells one of which this is shown
abbrev pub TextShows : {P : Type 0} → (List ℕ → P → Type 0) → (List ℕ → Outcome → Type 0) → (P → Outcome → Type 0) → Type 0 → List ℕ → Outcome → Type 0
TextShows Spells IsRefused ProgramShows quiet text outcome =
    (IsNoProgram (IsRefused text) outcome × quiet) ⊎ OfProgram Spells text (λ program. ProgramShows program outcome)

-- the run of a text's program
abbrev pub RunTextShows : {P : Type 0} → (List ℕ → P → Type 0) → (List ℕ → Outcome → Type 0) → (P → Runs) → ℕ → OnSource → OnSink → List ℕ → Outcome → Type 0
RunTextShows Spells IsRefused runs steps input out =
    TextShows Spells IsRefused (λ program. RunShows (runs program) steps input out) (AreUntouched input out)

-- the emission of a text's program
abbrev pub EmitTextShows : (List ℕ → Eir → Type 0) → (List ℕ → Outcome → Type 0) → ℕ → (Eir → List ℕ → Type 0) → OnSink → List ℕ → Outcome → Type 0
EmitTextShows Spells IsRefused limit Stands out = TextShows Spells IsRefused (EmitShows limit Stands out) (IsQuiet out)

-- a text made of a text's program is put out
abbrev pub PutTextShows : {P : Type 0} → (List ℕ → P → Type 0) → (List ℕ → Outcome → Type 0) → (P → List ℕ) → OnSink → List ℕ → Outcome → Type 0
PutTextShows Spells IsRefused made out = TextShows Spells IsRefused (λ program. PutShows (made program) out) (IsQuiet out)

-- no text was read: the file can't be read or is too large, or there was no memory
abbrev pub IsNoText : OnShelf → List ℕ → Outcome → Type 0
IsNoText shelf name NoFile = ShelfRises shelf ⊎ IsMissing shelf.texts name
IsNoText shelf name TooLarge = IsLonger shelf.texts name (2 ^ 29)
IsNoText shelf name NoMemory = Unit {0}
IsNoText shelf name _ = ⊥

-- this holds of the text under the name, whose items are bytes and which isn't too long
abbrev pub OfText : OnShelf → List ℕ → (List ℕ → Type 0) → Type 0
OfText shelf name Q =
    (text : List ℕ) × IsTextUnder shelf.texts name text × (length text ≤ 2 ^ 29) × AreBytes text × Q text

-- one name was looked up, and at most a byte above the limit was taken of the text under this one; or none was, for want of memory
abbrev pub LooksAt : OnShelf → List ℕ → Outcome → Type 0
LooksAt shelf name outcome =
    ((shelf.lookups_after ≡ one_more shelf.lookups) × (IsTrue shelf.chosen → HasTakenAtMost shelf.texts name shelf.left (2 ^ 29 + 1)))
    ⊎ ((outcome ≡ NoMemory) × (shelf.lookups_after ≡ shelf.lookups))

-- a file is looked at, which leaves the texts as they are; it gives no text and all is quiet, or it has one of which this is shown
pub record FileShows (OfTextShows : List ℕ → Outcome → Type 0) (shelf : OnShelf) (input : OnSource) (out : OnSink) (name : List ℕ) (outcome : Outcome) : Type 0 where
  pub looks : LooksAt shelf name outcome
  pub same : shelf.texts_after ≡ shelf.texts
  pub shows : (IsNoText shelf name outcome × AreUntouched input out) ⊎ OfText shelf name (λ text. OfTextShows text outcome)

-- ---- the rest

-- the line of the sample of so many blocks is put out
abbrev pub SampleShows : ℕ → OnSink → Outcome → Type 0
SampleShows blocks out Done = Got out (IsSample blocks)
SampleShows blocks out NoOutput = OutRises out × GotFront out (IsSample blocks)
SampleShows blocks out NoMemory = IsQuiet out
SampleShows blocks out _ = ⊥

-- words that ask for nothing
abbrev pub UsageShows : OnSink → Outcome → Type 0
UsageShows out Usage = IsQuiet out
UsageShows out NoMemory = IsQuiet out
UsageShows out _ = ⊥
