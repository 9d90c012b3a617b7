-- The rule by which plain code goes on, one instruction a step.
use Rattle.std.specs.Prelude.{ℕ, zero, suc, ◌+◌, ◌-◌, ◌%◌, ◌^◌, Bool, true, false, ◌==◌, List, [], ◌∷◌, ◌++◌, length, map, drop, Option, Some, None, Result, Ok, Err, slice_get, if◌then◌else◌}
use Rattle.std.specs.Fmt.{digits, signed_decimal}
use Rattle.word24.specs.Word.{number_of, signed_of}
use Rattle.mach_core.specs.declared.machine.Status.{Status}
use Rattle.mach_core.specs.declared.machine.Status.TheVariants as status
use Rattle.mach_core.specs.Rule.{Rule}
use Rattle.c_store.specs.declared.act.Act.{Act}
use Rattle.c_store.specs.declared.act.Act.TheVariants.{OutsideObject, OtherKind, UnsetCell, NullCall, HelperLimit}
use Rattle.c_store.specs.declared.kind.Kind.{Kind}
use Rattle.c_store.specs.declared.kind.Kind.TheVariants.{Number}
use Rattle.c_store.specs.Values.{Value, Word, Null, Point, Function, Missing, Cell, Unset, Holds, Literal, Stack}
use Rattle.c_store.specs.Words.{is_true, offset_of, at_offset, cell_at, load, stored, entered, entered_all}
use Rattle.c_plain.specs.declared.instruction.Arguments.{Arguments}
use Rattle.c_plain.specs.declared.instruction.BuiltIn.{BuiltIn}
use Rattle.c_plain.specs.declared.instruction.BuiltIn.TheVariants as known
use Rattle.c_plain.specs.declared.instruction.First.{First}
use Rattle.c_plain.specs.declared.instruction.Instruction.{Instruction}
use Rattle.c_plain.specs.declared.instruction.Instruction.TheVariants as code
use Rattle.c_plain.specs.declared.instruction.Operation.{Operation}
use Rattle.c_plain.specs.declared.instruction.Span.{Span}
use Rattle.c_plain.specs.declared.instruction.Step as step_of
use Rattle.c_plain.specs.declared.code.Entry.{Entry}
use Rattle.c_plain.specs.declared.code.Plain.{Plain}
use Rattle.c_plain.specs.Program.{Program, program_of, in_span}
use Rattle.c_plain.specs.Machine.{Open, Block, Loop, Switch, Piled, Machine, Config, At, AtEnd, AtFault, Step, quiet, wrote, ended, fault, unless_act, onward, with_values, pushed, on_top, on_two, paid}
use Rattle.c_plain.specs.Operators.{and_then, converted, number_in, made, operated}
use Rattle.c_plain.specs.Calls.{arguments, all_converted, pointers_from, called, returned, broken_off, continued, left_block, closed}

-- ---- places

-- the pointer to the object in a slot, at an offset
abbrev pub pointer_in : Option Value → ℕ → Result Value Act
pointer_in (Some (Point o n k)) offset = Ok (Point o n offset)
pointer_in _ offset = Err OutsideObject

abbrev pub place_in : Machine → (slot offset : ℕ) → Result Value Act
place_in m slot offset = pointer_in (slice_get m.slots.mine slot) offset

-- ---- writes

-- what is pushed is what was written
abbrev pub assigned : List Literal → Machine → Kind → Value → Value → List Value → Step
assigned literals m kind p v rest = unless_act (stored literals m.memory kind p v) (λ memory. quiet (pushed (record m { memory = memory }) rest v))

-- a compound assignment reads the old value first
abbrev pub updated : List Literal → Machine → Kind → Operation → Value → Value → List Value → Step
updated literals m kind op p y rest =
    unless_act (and_then (load literals m.memory kind p) (λ x. operated literals m.memory op x y)) (λ v. assigned literals m kind p (converted kind v) rest)

-- a step of a place adds or takes 1
abbrev pub stepped : List Literal → Machine → step_of.Step → Value → List Value → Step
stepped literals m s p rest =
    unless_act (load literals m.memory s.kind p) (λ old.
    unless_act (operated literals m.memory s.operation old (Word 1)) (λ new.
    unless_act (stored literals m.memory s.kind p (converted s.kind new)) (λ memory.
    quiet (pushed (record m { memory = memory }) rest (if s.gives_old then old else new)))))

-- values are written to cells one behind the other
abbrev pub filled : List Literal → List (Kind × Value) → Value → Stack → Result Stack Act
filled literals [] p m = Ok m
filled literals (x ∷ xs) p m = and_then (stored literals m x.0 p x.1) (filled literals xs (at_offset p (suc (offset_of p))))

-- 0 or null
abbrev pub zero_of : Kind → Value
zero_of Number = Word 0
zero_of kind = Null

abbrev pub zeros_of : List Kind → List (Kind × Value)
zeros_of kinds = map (λ kind. (kind, zero_of kind)) kinds

abbrev pub letters_of : List ℕ → List (Kind × Value)
letters_of bytes = map (λ byte. (Number, Word byte)) bytes

-- first values of the object in a slot
abbrev pub set_first : List Literal → Machine → First → List (Kind × Value) → List Value → Step
set_first literals m f xs rest =
    unless_act (and_then (place_in m f.slot f.offset) (λ p. filled literals xs p m.memory)) (λ memory. quiet (record (onward (with_values m rest)) { memory = memory }))

-- ---- calls

-- the arguments that are on top, converted
abbrev pub arguments_of : Program → Arguments → List Value → List Value
arguments_of p a stack = all_converted (in_span p.kinds a.kinds) (arguments a.count stack)

-- the entry of a function
abbrev pub entry_of : Program → ℕ → Option Entry
entry_of p f = elim (slice_get p.functions f) [ None ↦ None | Some e ↦ e ]

abbrev pub called_through : Program → Machine → Value → List Value → List Value → Step
called_through p m (Function f) rest vs = called m (entry_of p f) rest vs
called_through p m Null rest vs = fault NullCall
called_through p m v rest vs = fault OtherKind

-- the first argument of a built-in function
abbrev pub with_one : List Value → (Value → Step) → Step
with_one [] f = fault OtherKind
with_one (v ∷ vs) f = f v

-- the next byte, or -1 where it is 0
abbrev pub character : ℕ → Value
character byte = if byte == 0 then Word (2 ^ 24 - 1) else Word byte

abbrev pub built_in : ℕ → BuiltIn → Machine → List Value → List Value → Step
built_in byte known.GetChar m rest vs = quiet (pushed m rest (character byte))
built_in byte known.GetByte m rest vs = quiet (pushed m rest (Word byte))
built_in byte known.PutChar m rest vs = with_one vs (λ v. unless_act (number_in v) (λ n. wrote (pushed m rest v) (n % 2 ^ 8 ∷ [])))
built_in byte known.Exit m rest vs = with_one vs (λ v. unless_act (number_in v) (λ n. ended))
built_in byte known.Other m rest vs = fault OtherKind

-- ---- output

-- a word is written, and dropped
abbrev pub spelled : Machine → (ℕ → List ℕ) → Step
spelled m f = on_top m.values.mine (λ v rest. unless_act (number_in v) (λ n. wrote (onward (with_values m rest)) (f n)))

-- a word becomes its digits in hex, behind the last of which stands a mark
abbrev pub hex_digits : ℕ → List Value
hex_digits n = map Word (digits 16 false n) ++ Missing ∷ []

-- a digit is written; the mark is dropped
abbrev pub digit_put : Machine → Value → List Value → Step
digit_put m (Word n) rest = wrote (with_values m rest) (n % 2 ^ 8 ∷ [])
digit_put m Missing rest = quiet (onward (with_values m rest))
digit_put m v rest = fault OtherKind

-- a letter that isn't the zero costs a unit and is written
abbrev pub letter_put : ℕ → Machine → Value → List Value → Step
letter_put zero m v rest = quiet (onward (with_values m rest))
letter_put (suc n) m v rest = paid m (λ d. wrote (with_values d (at_offset v (suc (offset_of v)) ∷ rest)) (suc n % 2 ^ 8 ∷ []))

-- the next cell of a string
abbrev pub text_put : Option Cell → Machine → Value → List Value → Step
text_put None m v rest = fault OutsideObject
text_put (Some Unset) m v rest = fault UnsetCell
text_put (Some (Holds (Word n))) m v rest = letter_put n m v rest
text_put (Some (Holds _)) m v rest = fault OtherKind

-- ---- blocks

-- a block with unset objects of these lengths
abbrev pub entered_block : Machine → List ℕ → Machine
entered_block m lengths = record m {
  at = suc m.at;
  slots = record m.slots { mine = m.slots.mine ++ pointers_from m.memory.next lengths };
  opened = Block m.memory.next (length m.slots.mine) ∷ m.opened;
  memory = entered_all lengths m.memory;
}

-- ---- the whole

-- what an instruction does; a byte is given where one is taken
abbrev pub step : Program → ℕ → Instruction → Machine → Step
step p byte (code.PushWord w) m = quiet (pushed m m.values.mine (Word (number_of w)))
step p byte (code.Push k) m = elim (slice_get p.constants k) [ None ↦ fault HelperLimit | Some v ↦ quiet (pushed m m.values.mine v) ]
step p byte code.Pop m = on_top m.values.mine (λ v rest. quiet (onward (with_values m rest)))
step p byte (code.Slot slot) m = unless_act (place_in m slot 0) (λ v. quiet (pushed m m.values.mine v))
step p byte code.Nowhere m = fault OutsideObject
step p byte (code.Unary u) m = on_top m.values.mine (λ v rest. unless_act (made p.literals m.memory u v) (λ w. quiet (pushed m rest w)))
step p byte (code.Operate op) m = on_two m.values.mine (λ x y rest. unless_act (operated p.literals m.memory op x y) (λ w. quiet (pushed m rest w)))
step p byte (code.Step s) m = on_top m.values.mine (λ v rest. stepped p.literals m s v rest)
step p byte (code.Assign kind) m = on_two m.values.mine (λ x y rest. assigned p.literals m kind x (converted kind y) rest)
step p byte (code.Update kind op) m = on_two m.values.mine (λ x y rest. updated p.literals m kind op x y rest)
step p byte (code.JumpUnless n) m = on_top m.values.mine (λ v rest. quiet (record (with_values m rest) { at = if is_true v then suc m.at else suc m.at + n }))
step p byte (code.Jump n) m = quiet (record m { at = suc m.at + n })
step p byte (code.Back n) m = quiet (record m { at = suc m.at - n })
step p byte (code.JumpAt w n) m = on_top m.values.mine (λ v rest. unless_act (number_in v) (λ x. quiet (if number_of w == x then record (with_values m rest) { at = suc m.at + n } else onward m)))
step p byte code.Pay m = paid m (λ d. quiet (onward d))
step p byte (code.BuiltIn f a) m = built_in byte f m (drop a.count m.values.mine) (arguments_of p a m.values.mine)
step p byte (code.Call f a) m = paid m (λ d. called d (entry_of p f) (drop a.count m.values.mine) (arguments_of p a m.values.mine))
step p byte (code.CallThrough a) m = on_top (drop a.count m.values.mine) (λ v rest. paid m (λ d. called_through p d v rest (arguments_of p a m.values.mine)))
step p byte code.Return m = on_top m.values.mine (λ v rest. returned m.opened v m)
step p byte (code.Put c) m = wrote (onward m) (c ∷ [])
step p byte code.Decimal m = spelled m (λ n. signed_decimal (signed_of n))
step p byte code.Unsigned m = spelled m (λ n. digits 10 false n)
step p byte code.Character m = spelled m (λ n. n % 2 ^ 8 ∷ [])
step p byte code.Hex m = on_top m.values.mine (λ v rest. unless_act (number_in v) (λ n. quiet (onward (with_values m (hex_digits n ++ rest)))))
step p byte code.Digits m = on_top m.values.mine (λ v rest. digit_put m v rest)
step p byte code.Text m = on_top m.values.mine (λ v rest. text_put (cell_at p.literals m.memory v) m v rest)
step p byte (code.Turn n) m = quiet (onward (with_values m (arguments n m.values.mine ++ drop n m.values.mine)))
step p byte (code.Printed n) m = quiet (pushed m (drop n m.values.mine) Missing)
step p byte code.Stuck m = fault OtherKind
step p byte (code.First f kind) m = on_top m.values.mine (λ v rest. set_first p.literals m f ((kind, converted kind v) ∷ []) rest)
step p byte (code.Clear f kinds) m = set_first p.literals m f (zeros_of (in_span p.kinds kinds)) m.values.mine
step p byte (code.Spell f bytes) m = set_first p.literals m f (letters_of (in_span p.bytes bytes)) m.values.mine
step p byte (code.Enter lengths) m = quiet (entered_block m (in_span p.lengths lengths))
step p byte code.Leave m = left_block m.opened m
step p byte (code.Loop again past) m = quiet (record m { at = suc m.at; opened = Loop (suc m.at + again) (suc m.at + past) ∷ m.opened })
step p byte (code.Switch past) m = quiet (record m { at = suc m.at; opened = Switch (suc m.at + past) ∷ m.opened })
step p byte code.Done m = quiet (record m { at = suc m.at; opened = closed m.opened })
step p byte code.Break m = broken_off m.opened m
step p byte code.Continue m = continued m.opened m
step p byte code.End m = ended

-- past the code there is no instruction
abbrev pub step_at : Program → ℕ → Option Instruction → Machine → Step
step_at p byte None m = fault HelperLimit
step_at p byte (Some i) m = step p byte i m

abbrev pub next_step : Program → ℕ → Machine → Step
next_step p byte m = step_at p byte (slice_get p.instructions m.at) m

-- ---- the rule

abbrev pub takes_byte : BuiltIn → Bool
takes_byte known.GetChar = true
takes_byte known.GetByte = true
takes_byte _ = false

-- an instruction that takes a byte
abbrev pub takes : Option Instruction → Bool
takes (Some (code.BuiltIn f a)) = takes_byte f
takes _ = false

abbrev pub standing_of : Config → Status
standing_of (At m) = status.Going
standing_of AtEnd = status.Ended
standing_of (AtFault n) = status.Fault n

abbrev pub wants_in : Program → Config → Bool
wants_in p (At m) = takes (slice_get p.instructions m.at)
wants_in p _ = false

abbrev pub next_of : Program → Config → ℕ → Config
next_of p (At m) byte = (next_step p byte m).config
next_of p k byte = k

abbrev pub written_of : Program → Config → ℕ → List ℕ
written_of p (At m) byte = (next_step p byte m).written
written_of p k byte = []

abbrev pub rule_of : Program → Rule Config
rule_of p = record { standing = standing_of; wants = wants_in p; next = next_of p; written = written_of p }

abbrev pub plain_rule : Plain → Rule Config
plain_rule p = rule_of (program_of p)

-- ---- the start

-- nothing runs yet; the objects of file scope live
abbrev pub nothing_yet : Program → ℕ → Machine
nothing_yet p fuel = record {
  at = 0;
  values = record { mine = []; below = [] };
  slots = record { mine = []; below = [] };
  opened = [];
  memory = entered p.objects (record { next = 0; live = [] });
  left = fuel;
  charge = 0;
}

-- the opening call costs no unit
abbrev pub opening_call : Program → Machine → Step
opening_call p m = called m (entry_of p p.main) [] []

abbrev pub plain_start : Plain → ℕ → Config
plain_start p fuel = (opening_call (program_of p) (nothing_yet (program_of p) fuel)).config
