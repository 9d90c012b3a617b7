-- The numbers of the acts.
use Rattle.std.specs.Prelude.{ℕ}
use Rattle.c_store.specs.declared.act.Act.{Act}
use Rattle.c_store.specs.declared.act.Act.TheVariants.{ZeroDivisor, OutsideObject, OtherKind, UnsetCell, LiteralWrite, PointerArithmetic, PointerOrder, PointerEquality, ShiftCount, NoResult, ChargeLimit, NullCall, HelperLimit}

abbrev pub number_of_act : Act → ℕ
number_of_act ZeroDivisor = 1
number_of_act OutsideObject = 2
number_of_act OtherKind = 3
number_of_act UnsetCell = 4
number_of_act LiteralWrite = 5
number_of_act PointerArithmetic = 6
number_of_act PointerOrder = 7
number_of_act PointerEquality = 8
number_of_act ShiftCount = 9
number_of_act NoResult = 10
number_of_act ChargeLimit = 11
number_of_act NullCall = 12
number_of_act HelperLimit = 13
