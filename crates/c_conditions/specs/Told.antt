-- The refusal that is told of a tree, by its parts and its own rules.
use Rattle.std.specs.Prelude.{◌≡◌, List, Option, Some, None, Result, Ok, Err}
use Rattle.std.specs.Result.{result_err}
use Rattle.c_types.specs.declared.fault.TypeFault.{TypeFault}
use Rattle.c_types.specs.Refusals.{Judged, Rule, broken, least_of}
use Rattle.c_operands.specs.Arguments.{merged}
use Rattle.c_operands.specs.Seen.{IsJudged}

-- a part that is judged: the refusal of the rules that its value breaks, or its own
abbrev pub Tested : Type 0
Tested = Result (Option TypeFault) TypeFault

abbrev pub IsTested : {A : Type 0} → (A → List Rule) → Tested → Judged A → Type 0
IsTested rules j p = IsJudged (λ told a. told ≡ broken (rules a)) j p

-- a part beside another one: with a refused part there are no rules
abbrev pub beside : Tested → Option TypeFault → Tested
beside (Ok own) None = Ok own
beside (Ok own) (Some e) = Err e
beside (Err d) other = Err (least_of d other)

-- what is told of a tree at the end
abbrev pub settled : Tested → Option TypeFault
settled (Ok own) = own
settled (Err e) = Some e

-- of a tree whose first part has no rules
abbrev pub behind : Option TypeFault → Tested → Option TypeFault
behind None j = settled j
behind (Some d) j = Some (least_of d (result_err j))

-- of a tree with two parts, whose rules are those of both
abbrev pub together : Tested → Tested → Option TypeFault
together (Ok first) (Ok second) = merged first second
together (Ok first) (Err e) = Some e
together (Err d) j = Some (least_of d (result_err j))
