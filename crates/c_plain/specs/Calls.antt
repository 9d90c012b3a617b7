-- Calls and what is open.
use Rattle.std.specs.Prelude.{ℕ, zero, suc, ◌+◌, ◌-◌, ◌^◌, Bool, true, false, nat_le, List, [], ◌∷◌, ◌++◌, length, map, take, drop, replicate, Option, Some, None, if◌then◌else◌}
use Rattle.c_store.specs.declared.act.Act.TheVariants.{OutsideObject, ChargeLimit, HelperLimit}
use Rattle.c_store.specs.declared.kind.Kind.{Kind}
use Rattle.c_store.specs.Values.{Value, Point, Missing, Stack}
use Rattle.c_store.specs.Words.{entered_values, left as without}
use Rattle.c_plain.specs.declared.code.Entry.{Entry}
use Rattle.c_plain.specs.Machine.{Open, Block, Loop, Switch, Call, Piled, Machine, Step, quiet, fault}
use Rattle.c_plain.specs.Operators.{converted}

-- the charges of the live calls and 1024 words are together at most 2^22
abbrev pub most_charge : ℕ
most_charge = 2 ^ 22 - 1024

-- ---- arguments

-- so many values from the top on, the last one first, onto others
abbrev pub arguments_onto : ℕ → List Value → List Value → List Value
arguments_onto zero stack vs = vs
arguments_onto (suc n) [] vs = vs
arguments_onto (suc n) (v ∷ stack) vs = arguments_onto n stack (v ∷ vs)

-- arguments, the first of which was pushed first
abbrev pub arguments : ℕ → List Value → List Value
arguments n stack = arguments_onto n stack []

-- each argument converts to the kind of its parameter
abbrev pub all_converted : List Kind → List Value → List Value
all_converted (kind ∷ kinds) (v ∷ vs) = converted kind v ∷ all_converted kinds vs
all_converted _ vs = vs

-- ---- objects and their slots

-- pointers to objects of these lengths, the first of which has this number
abbrev pub pointers_from : ℕ → List ℕ → List Value
pointers_from object [] = []
pointers_from object (n ∷ lengths) = Point object n 0 ∷ pointers_from (suc object) lengths

-- one slot for each parameter: an argument has an object of one cell, and a parameter without an argument has none
abbrev pub argument_slots : (next params : ℕ) → List Value → List Value
argument_slots next params vs = pointers_from next (map (λ v. 1) (take params vs)) ++ replicate (params - length vs) Missing

-- ---- calls

-- what a call leaves open, where the caller keeps these values
abbrev pub call_of : Machine → Entry → Open
call_of m e = Call (suc m.at) (length m.values.below) (length m.slots.below) e.result m.memory.next m.charge

-- the first instruction of a function, the caller's values being these
abbrev pub at_entry : Machine → Entry → List Value → List Value → Machine
at_entry m e rest vs = record {
  at = e.at;
  values = record { mine = []; below = rest ++ m.values.below };
  slots = record { mine = argument_slots m.memory.next e.params vs; below = m.slots.below ++ m.slots.mine };
  opened = call_of m e ∷ m.opened;
  memory = entered_values (take e.params vs) m.memory;
  left = m.left;
  charge = m.charge + e.charge;
}

-- a function is called with arguments, where it has code; its charge is tested first
abbrev pub called : Machine → Option Entry → List Value → List Value → Step
called m None rest vs = fault OutsideObject
called m (Some e) rest vs = if nat_le (m.charge + e.charge) most_charge then quiet (at_entry m e rest vs) else fault ChargeLimit

-- the caller goes on with a result, which converts to a kind
abbrev pub resumed : Machine → (back values slots : ℕ) → Kind → (first charge : ℕ) → List Open → Value → Machine
resumed m back values slots result first charge os v = record {
  at = back;
  values = record { mine = converted result v ∷ take (length m.values.below - values) m.values.below; below = drop (length m.values.below - values) m.values.below };
  slots = record { mine = drop slots m.slots.below; below = take slots m.slots.below };
  opened = os;
  memory = without first m.memory;
  left = m.left;
  charge = charge;
}

-- ---- what is left

-- a function returns a value: its blocks are left, the innermost first
abbrev pub returned : List Open → Value → Machine → Step
returned [] v m = fault HelperLimit
returned (Block first slots ∷ os) v m = returned os v (record m { memory = without first m.memory })
returned (Loop again past ∷ os) v m = returned os v m
returned (Switch past ∷ os) v m = returned os v m
returned (Call back values slots result first charge ∷ os) v m = quiet (resumed m back values slots result first charge os v)

-- a block is left, and its slots go
abbrev pub out_of_block : ℕ → ℕ → Machine → Machine
out_of_block first slots m = record m { slots = record m.slots { mine = take slots m.slots.mine }; memory = without first m.memory }

-- a `break` leaves the blocks in the innermost loop or `switch`, and goes past it; outside of all it leaves the function
abbrev pub broken_off : List Open → Machine → Step
broken_off [] m = fault HelperLimit
broken_off (Block first slots ∷ os) m = broken_off os (out_of_block first slots m)
broken_off (Loop again past ∷ os) m = quiet (record m { at = past; opened = os })
broken_off (Switch past ∷ os) m = quiet (record m { at = past; opened = os })
broken_off (Call back values slots result first charge ∷ os) m = quiet (resumed m back values slots result first charge os Missing)

-- a `continue` passes over a `switch`
abbrev pub continued : List Open → Machine → Step
continued [] m = fault HelperLimit
continued (Block first slots ∷ os) m = continued os (out_of_block first slots m)
continued (Loop again past ∷ os) m = quiet (record m { at = again; opened = Loop again past ∷ os })
continued (Switch past ∷ os) m = continued os m
continued (Call back values slots result first charge ∷ os) m = quiet (resumed m back values slots result first charge os Missing)

-- the end of the innermost block
abbrev pub left_block : List Open → Machine → Step
left_block (Block first slots ∷ os) m = quiet (record (out_of_block first slots m) { at = suc m.at; opened = os })
left_block _ m = fault HelperLimit

-- what is open once a loop or a `switch` is done
abbrev pub closed : List Open → List Open
closed [] = []
closed (Call back values slots result first charge ∷ os) = Call back values slots result first charge ∷ os
closed (_ ∷ os) = os
