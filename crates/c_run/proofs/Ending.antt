-- Ends of runs, and runs that have not begun.
use Rattle.std.proofs.Common.{◌≡◌, ℕ, List, [], ◌++◌, Option, Some, None, refl, arith}
use Rattle.std.specs.Option.{ForSome}
use Rattle.std.specs.Io.KnownBytes.{Consumes}
use Rattle.mach_core.specs.Ran as machine
use Rattle.mach_core.specs.Ran.{BeginsInput}
use Rattle.mach_core.specs.Rule.{IsInput}
use Rattle.c_eval.specs.State.{Act, ZeroDivisor, OutsideObject, OtherKind, UnsetCell, LiteralWrite, PointerArithmetic, PointerOrder, PointerEquality, ShiftCount, NoResult, ChargeLimit, NullCall, HelperLimit}
use Rattle.c_eval.specs.Meaning.{End, Ended, Going, Undefined}
use Rattle.c_rule.specs.Stepping.{standing_of}
use Rattle.c_rule.specs.Laws.{config_at}
use Rattle.c_run.specs.Ends.{c_end, end_of}

-- what the end of the machine's run says is the text's end
pub end_told : (e : End) → c_end (machine.end_of (standing_of (config_at e))) ≡ Some (end_of e)
end_told Ended = refl
end_told Going = refl
end_told (Undefined ZeroDivisor) = refl
end_told (Undefined OutsideObject) = refl
end_told (Undefined OtherKind) = refl
end_told (Undefined UnsetCell) = refl
end_told (Undefined LiteralWrite) = refl
end_told (Undefined PointerArithmetic) = refl
end_told (Undefined PointerOrder) = refl
end_told (Undefined PointerEquality) = refl
end_told (Undefined ShiftCount) = refl
end_told (Undefined NoResult) = refl
end_told (Undefined ChargeLimit) = refl
end_told (Undefined NullCall) = refl
end_told (Undefined HelperLimit) = refl

-- nothing was read yet
pub none_read : (left : Option (List ℕ)) → (input : List ℕ) × BeginsInput left left [] input
none_read None = ([], record { consumed = tt; bytes = λ k d h. absurd (omega arith); rest = []; whole = refl; told = λ all told. absurd cc })
none_read (Some xs) = (xs, record { consumed = refl; bytes = λ k d h. absurd (omega arith); rest = xs; whole = refl; told = λ all told. (let same : xs ≡ all = cc in same) })
