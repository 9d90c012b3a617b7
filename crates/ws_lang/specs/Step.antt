-- What a program does, step by step.
use Rattle.std.specs.Prelude.{ℕ, suc, ◌+◌, ◌-◌, ◌*◌, Bool, true, false, cond, ◌&&◌, ◌||◌, List, [], ◌∷◌, length, drop, Option, Some, None, slice_get, ℤ, pos, negsuc, ◌+ℤ◌, ◌-ℤ◌, ◌*ℤ◌, nat_eq, nat_lt, nat_le, int_lt}
use mathlib.Core.Bool.{beq}
use lib.Pointwise.{pointwise}
use Rattle.std.specs.Fmt.{signed_decimal}
use Rattle.std.specs.List.{list_any}
use Rattle.std.specs.Ordering.{int_cmp}
use Rattle.std.specs.FinMap as map
use Rattle.mach_core.specs.Sparse.{value_at, with_value}
use Rattle.mach_core.specs.declared.machine.Status.{Status}
use Rattle.mach_core.specs.declared.machine.Status.TheVariants.{Going, Ended, Fault}
use Rattle.mach_core.specs.Rule.{Rule, if_going}
pub use Rattle.ws_lang.specs.declared.reading.Seen.{Seen}
pub use Rattle.ws_lang.specs.declared.reading.Seen.TheVariants.{Blanks, Digits, Outside}
pub use Rattle.ws_lang.specs.declared.reading.Reading.{Reading}
use Rattle.mach_core.specs.Integer.{is_zero, floor_quotient, floor_remainder, byte_of, is_in_range}
use Rattle.ws_lang.specs.Spelling.{signed}
use Rattle.ws_lang.specs.Instruction.{Label, Instruction, Push, Duplicate, Swap, Discard, Copy, Slide, Add, Subtract, Multiply, Divide, Modulo, Store, Retrieve, Mark, Call, Jump, JumpIfZero, JumpIfNegative, Return, End, WriteCharacter, WriteNumber, ReadCharacter, ReadNumber, marks_of}

-- the values other than 0, at their addresses
abbrev pub Heap : Type 0
Heap = map.FinMap int_cmp ℤ

-- what a program is at
pub record Config : Type 0 where
  -- the place of the next instruction
  pub place : ℕ
  -- the values, the top first
  pub stack : List ℤ
  pub heap : Heap
  -- where the calls return to, the last call's first
  pub returns : List ℕ
  pub reading : Option Reading
  -- that it is not over, or how it is
  pub status : Status

-- what the next step does
pub data Act : Type 0 where
  -- goes on quietly
  Goes : Config → Act
  -- goes on and writes these bytes
  Writes : List ℕ → Config → Act
  -- takes a byte, and goes on by it
  Takes : (ℕ → Config) → Act
  -- meets a fault
  Fails : ℕ → Act

-- what can be done with the top of the stack and the rest
abbrev pub with_top : List ℤ → (ℤ → List ℤ → Act) → Act
with_top [] act = Fails 1
with_top (x ∷ rest) act = act x rest

-- what can be done with the second value, the top and the rest
abbrev pub with_two : List ℤ → (ℤ → ℤ → List ℤ → Act) → Act
with_two [] act = Fails 1
with_two (y ∷ []) act = Fails 1
with_two (y ∷ x ∷ rest) act = act x y rest

-- on to the next instruction with this stack
abbrev pub onward : Config → List ℤ → Config
onward c stack = record c { place = c.place + 1; stack = stack }

-- the same with a value at an address
abbrev pub storing : Config → List ℤ → ℤ → ℤ → Config
storing c stack address value = record c { place = c.place + 1; stack = stack; heap = with_value is_zero c.heap address value }

-- to another place with this stack
abbrev pub going_to : Config → ℕ → List ℤ → Config
going_to c place stack = record c { place = place; stack = stack }

-- on with a value that was computed, if it is in range
abbrev pub computed : Config → ℤ → List ℤ → Act
computed c value rest = cond (is_in_range value) (Goes (onward c (value ∷ rest))) (Fails 2)

-- on with a value that may be missing
abbrev pub pushed : Config → Option ℤ → Act
pushed c None = Fails 1
pushed c (Some x) = Goes (onward c (x ∷ c.stack))

-- the value so many places below the top
abbrev pub value_below : List ℤ → ℤ → Option ℤ
value_below stack (pos n) = slice_get stack n
value_below stack (negsuc n) = None

-- drops so many values under the top
abbrev pub slid : Config → ℤ → ℤ → List ℤ → Act
slid c (pos n) x rest = cond (nat_le n (length rest)) (Goes (onward c (x ∷ drop n rest))) (Fails 1)
slid c (negsuc n) x rest = Fails 1

-- back to where the last call returns to
abbrev pub returning : Config → List ℕ → Act
returning c [] = Fails 5
returning c (place ∷ returns) = Goes (record c { place = place; returns = returns })

-- two labels have the same signs
abbrev pub is_same_label : Label → Label → Bool
is_same_label x y = pointwise beq x y

-- the instruction marks the label
abbrev pub is_mark_of : Label → Instruction → Bool
is_mark_of label instruction = list_any (λ marked. is_same_label marked label) (marks_of instruction)

-- the first place that marks the label
abbrev pub place_of : Label → List Instruction → ℕ
place_of label [] = 0
place_of label (instruction ∷ code) = cond (is_mark_of label instruction) 0 (suc (place_of label code))

-- what an instruction does
abbrev pub act_of : List Instruction → Config → Instruction → Act
act_of code c (Push n) = Goes (onward c (n ∷ c.stack))
act_of code c Duplicate = with_top c.stack (λ x rest. Goes (onward c (x ∷ x ∷ rest)))
act_of code c Swap = with_two c.stack (λ x y rest. Goes (onward c (x ∷ y ∷ rest)))
act_of code c Discard = with_top c.stack (λ x rest. Goes (onward c rest))
act_of code c (Copy n) = pushed c (value_below c.stack n)
act_of code c (Slide n) = with_top c.stack (λ x rest. slid c n x rest)
act_of code c Add = with_two c.stack (λ x y rest. computed c (x +ℤ y) rest)
act_of code c Subtract = with_two c.stack (λ x y rest. computed c (x -ℤ y) rest)
act_of code c Multiply = with_two c.stack (λ x y rest. computed c (x *ℤ y) rest)
act_of code c Divide = with_two c.stack (λ x y rest. cond (is_zero y) (Fails 3) (computed c (floor_quotient x y) rest))
act_of code c Modulo = with_two c.stack (λ x y rest. cond (is_zero y) (Fails 3) (computed c (floor_remainder x y) rest))
act_of code c Store = with_two c.stack (λ address value rest. Goes (storing c rest address value))
act_of code c Retrieve = with_top c.stack (λ address rest. Goes (onward c (value_at (pos 0) c.heap address ∷ rest)))
act_of code c (Mark label) = Goes (onward c c.stack)
act_of code c (Call label) = Goes (record c { place = place_of label code; returns = (c.place + 1) ∷ c.returns })
act_of code c (Jump label) = Goes (going_to c (place_of label code) c.stack)
act_of code c (JumpIfZero label) = with_top c.stack (λ x rest. Goes (cond (is_zero x) (going_to c (place_of label code) rest) (onward c rest)))
act_of code c (JumpIfNegative label) = with_top c.stack (λ x rest. Goes (cond (int_lt x (pos 0)) (going_to c (place_of label code) rest) (onward c rest)))
act_of code c Return = returning c c.returns
act_of code c End = Goes (record c { status = Ended })
act_of code c WriteCharacter = with_top c.stack (λ x rest. Writes (byte_of x ∷ []) (onward c rest))
act_of code c WriteNumber = with_top c.stack (λ x rest. Writes (signed_decimal x) (onward c rest))
act_of code c ReadCharacter = with_top c.stack (λ address rest. Takes (λ byte. storing c rest address (pos byte)))
act_of code c ReadNumber = with_top c.stack (λ address rest. Goes (record c { stack = rest; reading = Some (record { address = address; seen = Blanks }) }))

-- space, tab, line feed and carriage return
abbrev pub is_blank : ℕ → Bool
is_blank byte = nat_eq byte 32 || (nat_eq byte 9 || (nat_eq byte 10 || nat_eq byte 13))

abbrev pub is_digit : ℕ → Bool
is_digit byte = nat_le 48 byte && nat_le byte 57

-- the number of these digits, if it is in range
abbrev pub in_digits : Bool → ℕ → Seen
in_digits negative n = cond (is_in_range (signed negative n)) (Digits negative n) Outside

-- the number goes on with this seen of it
abbrev pub reading_on : Config → ℤ → Seen → Config
reading_on c address seen = record c { reading = Some (record { address = address; seen = seen }) }

-- the number is closed and stored
abbrev pub closed : Config → ℤ → ℤ → Config
closed c address value = record c { place = c.place + 1; heap = with_value is_zero c.heap address value; reading = None }

-- a byte after a sign or digits: one more digit, or the end
abbrev pub after_digits : Config → ℤ → Bool → ℕ → ℕ → Config
after_digits c address negative n byte = cond (is_digit byte) (reading_on c address (in_digits negative (10 * n + (byte - 48)))) (closed c address (signed negative n))

-- a byte after blanks at most: a blank, `+`, `-`, the first digit, or the end
abbrev pub after_blanks : Config → ℤ → ℕ → Config
after_blanks c address byte =
    cond (is_blank byte) (reading_on c address Blanks)
    (cond (nat_eq byte 43) (reading_on c address (Digits false 0))
    (cond (nat_eq byte 45) (reading_on c address (Digits true 0))
    (after_digits c address false 0 byte)))

-- the next step of a number that is being read
abbrev pub act_reading : Config → ℤ → Seen → Act
act_reading c address Blanks = Takes (after_blanks c address)
act_reading c address (Digits negative n) = Takes (after_digits c address negative n)
act_reading c address Outside = Fails 2

-- the next step of an instruction that may be there
abbrev pub act_at : List Instruction → Config → Option Instruction → Act
act_at code c None = Goes c
act_at code c (Some instruction) = act_of code c instruction

-- the next step: of the number that is being read, or else of the instruction at the place
abbrev pub act_in : List Instruction → Config → Option Reading → Act
act_in code c None = act_at code c (slice_get code c.place)
act_in code c (Some reading) = act_reading c reading.address reading.seen

abbrev pub act : List Instruction → Config → Act
act code c = act_in code c c.reading

abbrev pub is_taking : Act → Bool
is_taking (Goes d) = false
is_taking (Writes bytes d) = false
is_taking (Takes on) = true
is_taking (Fails code) = false

-- what it leads to; a fault changes nothing else
abbrev pub outcome : Config → Act → ℕ → Config
outcome c (Goes d) byte = d
outcome c (Writes bytes d) byte = d
outcome c (Takes on) byte = on byte
outcome c (Fails code) byte = record c { status = Fault code }

abbrev pub bytes_of : Act → List ℕ
bytes_of (Goes d) = []
bytes_of (Writes bytes d) = bytes
bytes_of (Takes on) = []
bytes_of (Fails code) = []

-- past the last instruction a program is at fault 4
abbrev pub standing_of : List Instruction → Config → Status
standing_of code c = if_going c.status (cond (nat_lt c.place (length code)) Going (Fault 4)) c.status

-- what a program does
abbrev pub ws_rule : List Instruction → Rule Config
ws_rule code = record {
  standing = λ c. standing_of code c;
  wants = λ c. is_taking (act code c);
  next = λ c byte. outcome c (act code c) byte;
  written = λ c byte. bytes_of (act code c);
}

-- at the first instruction, with nothing stored
abbrev pub ws_start : List Instruction → Config
ws_start code = record { place = 0; stack = []; heap = map.empty; returns = []; reading = None; status = Going }
