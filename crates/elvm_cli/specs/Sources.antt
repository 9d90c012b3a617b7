-- C: which typed tree a text spells, what comes out where it is refused, how its runs go, and what is built of it.
use Rattle.std.specs.Prelude.{◌≡◌, ℕ, ◌+◌, ◌==◌, List, Result, Ok, Err}
use Rattle.mach_core.specs.declared.machine.Status.{Status}
use Rattle.mach_core.specs.declared.machine.Status.TheVariants as standing
use Rattle.mach_core.specs.Rule.{Rule}
use Rattle.eir_core.specs.Eir.{Eir}
use Rattle.eir_print.specs.Printed.{printed}
use Rattle.c_syntax.specs.Plain.{CUnit}
use Rattle.c_eval.specs.State.{number_of}
use Rattle.c_eval.specs.Meaning as meaning
use Rattle.c_eval.specs.Meaning.{End, meaning_of}
use Rattle.c_run.specs.declared.run.CEnd.{CEnd}
use Rattle.c_run.specs.declared.run.CEnd.TheVariants.{Ended, Going, Undefined}
use Rattle.c_run.specs.declared.run.CFault.{CFault}
use Rattle.c_run.specs.declared.run.CFault.TheVariants.{Read, Write, Memory}
use Rattle.c_source.specs.Source.{Spells, IsRefusedFor}
use Rattle.c_compiled.specs.Built.{IsBuilt}
use Rattle.c_compiled.specs.Compiled.{compiled}
use Rattle.c_compiled.specs.Texts.{IsCompiledText}
use Rattle.sim_trait.specs.Bound.{Bound}
use Rattle.sim_trait.specs.Faithful.{Faithful}
use Rattle.elvm_cli.specs.Seen.{IsQuiet, OnSink}
use Rattle.elvm_cli.specs.Refusals.{source_refusal}
use Rattle.elvm_cli.specs.Runs.{Runs}
use Rattle.elvm_cli.specs.Shows.{EmitShows, IsRefusedAs, PutShows, TextShows}
use Rattle.elvm_cli.specs.declared.outcome.Outcome.{Outcome}
use Rattle.elvm_cli.specs.declared.outcome.Outcome.TheVariants.{Done, Limit, Fault, NoInput, NoOutput, NoMemory}

-- the C text spells this typed tree
abbrev pub CSpells : List ℕ → CUnit → Type 0
CSpells = Spells

-- the C text is refused, and this comes out
abbrev pub CRefused : List ℕ → Outcome → Type 0
CRefused text outcome = IsRefusedAs (IsRefusedFor text) source_refusal outcome

-- the C text spells a typed tree that is compiled to this program, which behaves as the tree
pub record Compiles (text : List ℕ) (program : Eir) : Type 0 where
  pub unit : CUnit
  pub spells : CSpells text unit
  pub is : program ≡ compiled unit
  pub means : IsCompiledText unit

-- the text of the program to which a tree is compiled
abbrev pub compiled_text : CUnit → List ℕ
compiled_text u = printed (compiled u)

-- this is shown of a tree, which is compiled to a program that has at most its room and means what the tree does on each input of bytes
pub record CompiledShows (Shown : Outcome → Type 0) (u : CUnit) (outcome : Outcome) : Type 0 where
  pub means : IsCompiledText u
  pub shows : Shown outcome

-- a C text is refused and all is quiet, or it spells a tree that is compiled so, of which this is shown
abbrev pub CompiledTextShows : (CUnit → Outcome → Type 0) → OnSink → List ℕ → Outcome → Type 0
CompiledTextShows Shown out = TextShows CSpells CRefused (λ u. CompiledShows (Shown u) u) (IsQuiet out)

-- the text of the program to which the tree of a C text is compiled is put out
abbrev pub CompileTextShows : OnSink → List ℕ → Outcome → Type 0
CompileTextShows out = CompiledTextShows (λ u. PutShows (compiled_text u) out) out

-- that program is emitted, if it isn't above the limit, as a text that stands for the tree
abbrev pub BuildTextShows : ℕ → (CUnit → List ℕ → Type 0) → OnSink → List ℕ → Outcome → Type 0
BuildTextShows limit Stands out = CompiledTextShows (λ u. EmitShows limit (λ program. Stands u) out (compiled u)) out

-- the text is faithful to the program to which a tree is compiled, and spells a program that means what the tree does
abbrev pub IsBuiltBy : {Q D : Type 0} → (List ℕ → Q → Type 0) → (Q → Rule D) → (Q → D) → Bound → CUnit → List ℕ → Type 0
IsBuiltBy spells rule start most u text = Faithful spells rule start most (compiled u) text × IsBuilt spells rule start most u text

-- how a text stands whose run comes to this end; an undefined act is a fault with its number
abbrev pub standing_at : End → Status
standing_at meaning.Ended = standing.Ended
standing_at meaning.Going = standing.Going
standing_at (meaning.Undefined act) = standing.Fault (number_of act)

-- the runs of a C text, by the units of fuel: it wants a byte where with one unit more it takes one
abbrev pub c_runs : CUnit → Runs
c_runs u i fuel = record {
  standing = standing_at (meaning_of u i fuel).end;
  wants = (meaning_of u i (fuel + 1)).taken == (meaning_of u i fuel).taken + 1;
  taken = (meaning_of u i fuel).taken;
  output = (meaning_of u i fuel).output;
}

-- how the run of a C text comes out
abbrev pub outcome_of : Result CEnd CFault → Outcome
outcome_of (Ok Ended) = Done
outcome_of (Ok Going) = Limit
outcome_of (Ok (Undefined act)) = Fault act
outcome_of (Err Read) = NoInput
outcome_of (Err Write) = NoOutput
outcome_of (Err Memory) = NoMemory
