-- What was seen of the objects outside in a call: before it and after it.
use Rattle.std.specs.Prelude.{◌≡◌, ◌⊎◌, ℕ, List, [], ◌++◌, Bool}
use Rattle.std.specs.declared.option.Option.{Option}
use Rattle.std.specs.Io.KnownBytes.{Appends}
use Rattle.mach_core.specs.Outside.{Rose, Texts}
use Rattle.mach_core.specs.Put.{PutsFront, PutsText}

-- the faults of a sink and the bytes that it got
pub record OnSink : Type 0 where
  pub faults : ℕ
  pub faults_after : ℕ
  pub got : Option (List ℕ)
  pub got_after : Option (List ℕ)

abbrev pub on_sink : ℕ → ℕ → Option (List ℕ) → Option (List ℕ) → OnSink
on_sink faults faults_after got got_after = record {
  faults = faults;
  faults_after = faults_after;
  got = got;
  got_after = got_after;
}

-- the faults of a shelf, its texts and how often a name was looked up, and afterwards whether a text is chosen and what is left of it
pub record OnShelf : Type 0 where
  pub faults : ℕ
  pub faults_after : ℕ
  pub texts : Option Texts
  pub texts_after : Option Texts
  pub lookups : ℕ
  pub lookups_after : ℕ
  pub chosen : Bool
  pub left : Option (List ℕ)

abbrev pub on_shelf : ℕ → ℕ → Option Texts → Option Texts → ℕ → ℕ → Bool → Option (List ℕ) → OnShelf
on_shelf faults faults_after texts texts_after lookups lookups_after chosen left = record {
  faults = faults;
  faults_after = faults_after;
  texts = texts;
  texts_after = texts_after;
  lookups = lookups;
  lookups_after = lookups_after;
  chosen = chosen;
  left = left;
}

-- the faults of a source and the bytes that it has left
pub record OnSource : Type 0 where
  pub faults : ℕ
  pub faults_after : ℕ
  pub left : Option (List ℕ)
  pub left_after : Option (List ℕ)

abbrev pub on_source : ℕ → ℕ → Option (List ℕ) → Option (List ℕ) → OnSource
on_source faults faults_after left left_after = record {
  faults = faults;
  faults_after = faults_after;
  left = left;
  left_after = left_after;
}

-- all four of them
pub record Seen : Type 0 where
  pub shelf : OnShelf
  pub input : OnSource
  pub out : OnSink
  pub errs : OnSink

abbrev pub seen : OnShelf → OnSource → OnSink → OnSink → Seen
seen shelf input out errs = record { shelf = shelf; input = input; out = out; errs = errs }

-- the source had a fault
abbrev pub InputRises : OnSource → Type 0
InputRises input = Rose input.faults input.faults_after

-- the sink had a fault
abbrev pub OutRises : OnSink → Type 0
OutRises out = Rose out.faults out.faults_after

-- the shelf had a fault
abbrev pub ShelfRises : OnShelf → Type 0
ShelfRises shelf = Rose shelf.faults shelf.faults_after

-- the sink got nothing
abbrev pub IsQuiet : OnSink → Type 0
IsQuiet out = Appends out.got out.got_after []

-- nothing was written and no byte of the source was read
abbrev pub AreUntouched : OnSource → OnSink → Type 0
AreUntouched input out = IsQuiet out × (input.left_after ≡ input.left) × (input.faults_after ≡ input.faults)

-- the sink got such a text
abbrev pub Got : OnSink → (List ℕ → Type 0) → Type 0
Got out P = PutsText out.got out.got_after P

-- the sink got a front of such a text
abbrev pub GotFront : OnSink → (List ℕ → Type 0) → Type 0
GotFront out P = PutsFront out.got out.got_after P

-- the sink got a front of the line, and all of it where it had no fault
pub record GotLine (errs : OnSink) (line : List ℕ) : Type 0 where
  pub front : List ℕ
  pub rest : List ℕ
  pub got : Appends errs.got errs.got_after front
  pub whole : front ++ rest ≡ line
  pub all : (rest ≡ []) ⊎ OutRises errs
