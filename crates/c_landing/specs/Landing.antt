-- What stands where a piece of code begins, and what it leaves behind itself.
use Rattle.std.specs.Prelude.{◌≡◌, ℕ, ◌+◌, ◌%◌, ◌^◌, ◌<◌, ◌≤◌, Bool, true, false, List, [], ◌∷◌, ◌++◌, length, Option, Some, None, slice_get, unwrap_or}
use Rattle.word24.specs.Word.{sum_word}
use Rattle.eir_core.specs.Eir.{Eir}
use Rattle.eir_core.specs.Memory.{Memory, word_at}
use Rattle.eir_core.specs.Step.{reg_of, value_of}
use Rattle.eir_core.specs.declared.ops.Reg.{Reg}
use Rattle.eir_core.specs.declared.ops.Operand.{Operand}
use Rattle.eir_core.specs.declared.ops.Op.{Op}
use Rattle.c_eval.specs.State.{Value, Word, Point, Letter, Object, State, Outcome, Gives, Undefined, Run}
use Rattle.c_eval.specs.Environment.{Environment}
use Rattle.c_place.specs.Place.{Place, Machine, Stands, behind_all}
use Rattle.c_lowered.specs.Locations.{Location, Fixed, Framed, Linking, Direct, Exactly, Address, Stored, is_steady}
use Rattle.c_memory.specs.Follows.{Mode, fuel_of, here, Follows}
use Rattle.c_memory.specs.Lies.{Extent, base, Whole, Ground, Means, Lies, IsFree, Post}

-- ---- names

-- where a location is, by the base of the call's frame
abbrev pub address : ℕ → Location → ℕ
address bp (Fixed a) = a
address bp (Framed k) = bp + k

abbrev pub at_number : List Location → ℕ → Location
at_number bases n = unwrap_or (slice_get bases n) (Fixed 0)

-- the object that a name has in the run lies where the one that it has for the code does; a parameter without an argument has none
abbrev pub ObjectLies : List Extent → ℕ → List Location → (coded named : Option ℕ) → Type 0
ObjectLies bs bp bases coded None = Unit {0}
ObjectLies bs bp bases None (Some o) = ⊥
ObjectLies bs bp bases (Some n) (Some o) = (o < length bs) × (base bs o ≡ address bp (at_number bases n))

-- names with the numbers of their objects
abbrev pub Names : Type 0
Names = List (List ℕ × Option ℕ)

-- the names that are in scope in the run are so for the code; behind them the code may know more, as a helper function's does the names of file scope
abbrev pub NamesLie : List Extent → ℕ → List Location → (coded named : Names) → Type 0
NamesLie bs bp bases coded [] = Unit {0}
NamesLie bs bp bases [] (y ∷ named) = ⊥
NamesLie bs bp bases (x ∷ coded) (y ∷ named) = (x.0 ≡ y.0) × ObjectLies bs bp bases x.1 y.1 × NamesLie bs bp bases coded named

-- a place of the text, with other numbers for the objects of the names
abbrev pub placed : Names → ℕ → Environment → Environment
placed names next site = record site { objects = names; next = next }

-- ---- literals

-- each literal's bytes and its zero stand at its address, below the frame, and no object lies there
abbrev pub LettersLie : Ground → List Extent → List Object → Memory → (top : ℕ) → Type 0
LettersLie g bs os mem top =
    (owner : Option (List ℕ)) (number : ℕ) (text : List ℕ) (k c : ℕ) → g.text owner number ≡ Some text → slice_get (text ++ 0 ∷ []) k ≡ Some c
    → (word_at mem (g.literal owner number + k) ≡ c) × (c < 2 ^ 24) × (g.literal owner number + k < top) × IsFree bs os (g.literal owner number + k)

-- ---- where code is run

pub record Setting : Type 0 where
  pub program : Eir
  pub input : List ℕ
  pub mode : Mode
  pub ground : Ground
  -- by what the code is made
  pub linking : Linking
  -- the names in scope, for the code and in the run
  pub coded : Names
  pub named : Names
  -- and those of file scope, which a called function sees
  pub file_bases : List Location
  pub file_coded : Names
  pub file_named : Names
  -- the first word behind the frame
  pub roof : ℕ
  -- how far frames go, by the charges of the live calls
  pub level : (charge words : ℕ) → ℕ
  -- how deep calls and turns may still go
  pub deep : ℕ

-- what is asked before code that may use n words of the frame from its word d on
pub record Ready (S : Setting) (bs : List Extent) (st : State) (m : Machine) (d n : ℕ) : Type 0 where
  pub lies : Lies S.ground bs st.objects m.memory (m.regs.bp + d)
  pub letters : LettersLie S.ground bs st.objects m.memory m.regs.bp
  pub names : NamesLie bs m.regs.bp S.linking.bases S.coded S.named
  pub file : (bp : ℕ) → NamesLie bs bp S.file_bases S.file_coded S.file_named
  pub room : m.regs.bp + (d + n) ≤ S.roof
  pub under : S.roof ≤ S.level st.charge st.words
  pub fits : S.roof < 2 ^ 24
  pub fuelled : S.mode.gauge (fuel_of st) < S.deep

-- what code leaves, whatever it gives: it keeps its frame, all objects lie, and the charges are as they were
pub record Left (S : Setting) (bs : List Extent) (st : State) (mem : Memory) (bp d : ℕ) (bs1 : List Extent) (st1 : State) (m1 : Machine) : Type 0 where
  pub framed : m1.regs.bp ≡ bp
  pub lies : Lies S.ground bs1 st1.objects m1.memory (bp + d)
  pub post : Post (bp + d) bs st.objects mem bs1 st1.objects m1.memory
  pub charge : st1.charge ≡ st.charge
  pub words : st1.words ≡ st.words

-- it is run to a place, where this holds of what it gives
pub record Reached {A : Type 0} (S : Setting) (bs : List Extent) (st : State) (mem : Memory) (bp d : ℕ) (to : Place) (M : A → List Extent → Machine → Type 0) (v : A) (st1 : State) (s1 : Place) (m1 : Machine) : Type 0 where
  pub place : s1 ≡ to
  pub bases : List Extent
  pub left : Left S bs st mem bp d bases st1 m1
  pub means : M v bases m1

-- code follows a part of a run from its begin in a block to its end, and then this holds of what the part gives
pub record Lands {A : Type 0} (S : Setting) (code : List Op) (block d n c : ℕ) (run : Run A) (M : A → List Extent → Machine → Type 0) : Type 0 where
  pub at : (s : Place) (bs : List Extent) (st : State) (m : Machine) → s.block ≡ block → Stands S.program s code → Ready S bs st m d n
      → Follows S.program S.input S.mode (here s m st) (fuel_of st) c (run st) (Reached S bs st m.memory m.regs.bp d (behind_all s code) M)

-- the same of what follows a value of which something holds
pub record Goes {A B : Type 0} (S : Setting) (code : List Op) (block d n c : ℕ) (run : A → Run B) (M : A → List Extent → Machine → Type 0) (N : B → List Extent → Machine → Type 0) : Type 0 where
  pub at : (v : A) (s : Place) (bs : List Extent) (st : State) (m : Machine) → s.block ≡ block → Stands S.program s code → Ready S bs st m d n → M v bs m
      → Follows S.program S.input S.mode (here s m st) (fuel_of st) c (run v st) (Reached S bs st m.memory m.regs.bp d (behind_all s code) N)

-- ---- values

-- the value stands in A
abbrev pub InA : Setting → Value → List Extent → Machine → Type 0
InA S v bs m = Means S.ground bs v m.regs.a

-- a place may be in any object, also where a helper function's pointers can't lead
abbrev pub everywhere : Ground → Ground
everywhere g = record g { reach = Whole }

-- the place's address stands in A
abbrev pub PlaceInA : Setting → Value → List Extent → Machine → Type 0
PlaceInA S v bs m = Means (everywhere S.ground) bs v m.regs.a

-- two values, of two operands
abbrev pub InOperands : Setting → Reg → Operand → Value × Value → List Extent → Machine → Type 0
InOperands S first second p bs m = Means S.ground bs p.0 (reg_of m.regs first) × Means S.ground bs p.1 (value_of m.regs second)

-- the operands of an operator
abbrev pub on_both : {A : Type 0} → (Value → Value → Run A) → Value × Value → Run A
on_both f p = f p.0 p.1

-- ---- values and places that need no evaluation

-- a value of which this holds or an undefined act, with the state as it was
abbrev pub GivesStill : {A : Type 0} → State → (A → Type 0) → Outcome A → Type 0
GivesStill st Q (Gives v after) = (after ≡ st) × Q v
GivesStill st Q (Undefined act after) = after ≡ st
GivesStill st Q _ = ⊥

-- the word that code comes to
abbrev pub location_word : Machine → Location → ℕ
location_word m (Fixed a) = a % 2 ^ 24
location_word m (Framed k) = sum_word m.regs.bp (k % 2 ^ 24)

abbrev pub direct_word : Machine → Direct → ℕ
direct_word m (Exactly n) = n % 2 ^ 24
direct_word m (Address k) = sum_word m.regs.bp (k % 2 ^ 24)
direct_word m (Stored l) = word_at m.memory (location_word m l)

-- a known number is a word
abbrev pub NumberIsSmall : Value → Direct → Type 0
NumberIsSmall (Word k) (Exactly n) = n < 2 ^ 24
NumberIsSmall _ _ = Unit {0}

-- a part of a run gives what is directly there
pub record IsDirect (S : Setting) (v : Direct) (run : Run Value) : Type 0 where
  pub at : (bs : List Extent) (st : State) (m : Machine) (d n : ℕ) → Ready S bs st m d n → GivesStill st (λ x. Means S.ground bs x (direct_word m v) × NumberIsSmall x v) (run st)

abbrev pub IsPointer : Value → Type 0
IsPointer (Point o k) = Unit {0}
IsPointer (Letter owner number text k) = Unit {0}
IsPointer _ = ⊥

-- a part of a run gives a place that is known
pub record IsKnown (S : Setting) (l : Location) (run : Run Value) : Type 0 where
  pub at : (bs : List Extent) (st : State) (m : Machine) (d n : ℕ) → Ready S bs st m d n → GivesStill st (λ x. Means (everywhere S.ground) bs x (location_word m l) × IsPointer x) (run st)

-- a part of a run leaves the state as it is
pub record IsQuiet (run : Run Value) : Type 0 where
  pub at : (st : State) → GivesStill st (λ x. Unit {0}) (run st)

-- a first operand may be read behind the second where it is always the same, or the second changes nothing
pub record MayTurn (v : Direct) (second : Run Value) : Type 0 where
  pub quiet : Bool
  pub steady : quiet ≡ false → is_steady v ≡ true
  pub still : quiet ≡ true → IsQuiet second
