-- What the calls that put parts of the text leave: what out got, how often it failed, and what the buffer in front of it holds.
use Rattle.std.specs.Prelude.{ℕ, ◌+◌, List, Result}
use Rattle.std.specs.declared.option.Option.{Option}
use Rattle.mach_core.specs.declared.outside.Failed.{Failed}
use Rattle.mach_core.specs.Puts.{Puts}
use Rattle.eir_core.specs.declared.ops.Op.{Op}
use Rattle.sq_back.specs.declared.line.Line.{Line}
use Rattle.sq_back.specs.declared.act.Site.{Site}
use Rattle.sq_back.specs.Code.{act_lines}
use Rattle.sq_back.specs.Text.{lines_text}

module _ {Out : Type 0} (got : Out → Option (List ℕ)) (faults : Out → ℕ) (out out' : Out) (held held' : List ℕ) where
  -- these bytes were put
  abbrev pub PutsBytes : List ℕ → Result (Unit {0}) Failed → Type 0
  PutsBytes bytes result = Puts (record { got = got out; faults = faults out; held = held }) (record { got = got out'; faults = faults out'; held = held' }) bytes result

  -- the text of these lines was
  abbrev pub PutsLines : List Line → Result (Unit {0}) Failed → Type 0
  PutsLines lines result = PutsBytes (lines_text lines) result

  -- the lines of what an operation does were, behind its own numbers
  abbrev pub PutsAct : Site → Op → Result (Unit {0}) Failed → Type 0
  PutsAct site op result = PutsLines (act_lines site.count site.own (site.own + 3) site.place op) result
