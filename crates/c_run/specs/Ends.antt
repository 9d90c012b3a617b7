-- How runs of texts end.
use Rattle.std.specs.Prelude.{ℕ, ◌==◌, Option, Some, None, if◌then◌else◌}
use Rattle.mach_core.specs.declared.run.RunEnd.{RunEnd}
use Rattle.mach_core.specs.declared.run.RunEnd.TheVariants as machine
use Rattle.c_eval.specs.State.{number_of}
use Rattle.c_eval.specs.Meaning as meaning
use Rattle.c_eval.specs.Meaning.{End}
use Rattle.c_run.specs.declared.run.CEnd.{CEnd}
use Rattle.c_run.specs.declared.run.CEnd.TheVariants.{Ended, Going, Undefined}

-- what a text's end is called; an act has its number
abbrev pub end_of : End → CEnd
end_of meaning.Ended = Ended
end_of meaning.Going = Going
end_of (meaning.Undefined act) = Undefined (number_of act)

-- what the end of a machine's run says of the text: fault 0 is a unit that is wanted, each other fault an act; a machine that could go on says nothing
abbrev pub c_end : RunEnd → Option CEnd
c_end machine.Ended = Some Ended
c_end (machine.Fault code) = if code == 0 then Some Going else Some (Undefined code)
c_end machine.Limit = None
