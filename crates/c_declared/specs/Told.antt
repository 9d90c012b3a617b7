-- Refusals that are told of trees judged one after the other.
use Rattle.std.specs.Prelude.{Option, Some, None, Ok, Err}
use Rattle.std.specs.Result.{result_err}
use Rattle.c_types.specs.declared.fault.TypeFault.{TypeFault}
use Rattle.c_types.specs.Refusals.{Judged, least_of}

-- the refusal of a tree's parts, or else its own
abbrev pub first_told : Option TypeFault → Option TypeFault → Option TypeFault
first_told (Some e) own = Some e
first_told None own = own

-- the judgement of several trees of which the first ones are refused, or not, and the others are judged so
abbrev pub told_behind : {A : Type 0} → Option TypeFault → Judged A → Judged A
told_behind None others = others
told_behind (Some d) others = Err (least_of d (result_err others))
