-- Runs of C texts.
use Rattle.std.proofs.Common.{◌≡◌, ℕ, ◌+◌, List, true, length, inl, inr, refl, sym, ap, subst, ◌∙◌, arith}
use Rattle.std.specs.Prelude.{Result, Ok, Err, ◌==◌}
use Rattle.std.proofs.lemmas.Bool.Decides.{nat_tests}
use Rattle.mach_core.specs.declared.machine.Status.{Status}
use Rattle.mach_core.specs.declared.machine.Status.TheVariants as standing
use Rattle.c_syntax.specs.Plain.{CUnit}
use Rattle.c_eval.specs.Meaning as meaning
use Rattle.c_eval.specs.Meaning.{End, meaning_of}
use Rattle.c_run.specs.declared.run.CEnd.{CEnd}
use Rattle.c_run.specs.declared.run.CEnd.TheVariants.{Ended, Going, Undefined}
use Rattle.c_run.specs.declared.run.CFault.{CFault}
use Rattle.c_run.specs.declared.run.CFault.TheVariants.{Read, Write, Memory}
use Rattle.c_run.specs.Ends.{end_of}
use Rattle.c_run.specs.Runs as run
use Rattle.c_run.specs.Runs.{Answers, Tells, TellsFront, LacksByte}
use Rattle.c_prep.specs.declared.fault.PrepFault.TheVariants as prep
use Rattle.c_parse.specs.declared.fault.ParseFault.TheVariants as parse
use Rattle.c_types.specs.declared.fault.TypeFault.TheVariants as type
use Rattle.c_source.specs.declared.fault.SourceFault.{SourceFault}
use Rattle.c_source.specs.declared.fault.SourceFault.TheVariants.{Prepare, Parse, Check}
use Rattle.c_source.specs.Source.{IsRefusedFor}
use Rattle.elvm_cli.specs.Refusals.{source_refusal}
use Rattle.elvm_cli.specs.Seen.{OnSink, OnSource, on_sink, on_source}
use Rattle.elvm_cli.specs.Shows.{FueledShows, IsNoProgram, RunsTo, RunsInto, RunsOut, AsksBehind}
use Rattle.elvm_cli.specs.Sources.{CRefused, c_runs, outcome_of, standing_at}
use Rattle.elvm_cli.specs.declared.outcome.Outcome.{Outcome}

-- the source and the sink as the call saw them
abbrev source_of : run.OnSource → OnSource
source_of input = on_source input.faults input.faults_after input.left input.left_after

abbrev sink_of : run.OnSink → OnSink
sink_of out = on_sink out.faults out.faults_after out.got out.got_after

-- how a text stands that ended so
abbrev standing_of : CEnd → Status
standing_of Ended = standing.Ended
standing_of Going = standing.Going
standing_of (Undefined act) = standing.Fault act

standing_end : (e : End) → standing_at e ≡ standing_of (end_of e)
standing_end meaning.Ended = refl
standing_end meaning.Going = refl
standing_end (meaning.Undefined act) = refl

ended : (u : CUnit) (fuel : ℕ) (input : run.OnSource) (out : run.OnSink) (end : CEnd) (bytes given : List ℕ) → Tells (meaning_of u bytes fuel) input.left input.left_after given end out.got out.got_after
    → RunsTo (c_runs u) fuel (source_of input) (sink_of out) (standing_of end) bytes given
ended u fuel input out end bytes given t = record { standing = standing_end (meaning_of u bytes fuel).end ∙ sym (ap standing_of t.ends); needed = t.needed; output = t.output }

broken : (u : CUnit) (fuel : ℕ) (input : run.OnSource) (out : run.OnSink) (bytes given : List ℕ) → TellsFront (meaning_of u bytes fuel) input.left input.left_after given out.got out.got_after
    → RunsInto (c_runs u) fuel (source_of input) (sink_of out) bytes given
broken u fuel input out bytes given t = record { count = fuel; within = omega arith; needed = t.needed; output = t.front }

-- one byte more is taken
more : (a b n : ℕ) → a ≡ n → b ≡ n + 1 → (b == a + 1) ≡ true
more a b n e f = grind (arith, nat_tests)

asked : (u : CUnit) (fuel : ℕ) (input : run.OnSource) (out : run.OnSink) (bytes given : List ℕ) → run.AsksBehind u fuel input.left input.left_after bytes given out.got out.got_after → AsksBehind (c_runs u) fuel (source_of input) (sink_of out) bytes given
asked u fuel input out bytes given (inl none) = inl none
asked u fuel input out bytes given (inr a) = inr (record {
  asked = a.units;
  below = a.below;
  going = ap standing_at a.going;
  wants = more (meaning_of u bytes a.units).taken (meaning_of u bytes (a.units + 1)).taken (meaning_of u bytes a.units).taken refl a.behind;
  few = a.few;
  more = a.more;
  got = a.got;
})

lacks : (u : CUnit) (fuel : ℕ) (input : run.OnSource) (out : run.OnSink) → LacksByte u fuel input.left input.left_after out.got out.got_after → RunsOut (c_runs u) fuel (source_of input) (sink_of out)
lacks u fuel input out l = record {
  given = l.given;
  consumed = l.consumed;
  bytes = l.bytes;
  count = l.units;
  below = l.below;
  going = ap standing_at l.going;
  wants = more (meaning_of u l.given l.units).taken (meaning_of u l.given (l.units + 1)).taken (length l.given) l.taken l.behind;
  taken = l.taken;
  output = l.output;
}

-- what the answer of a run says is what its outcome shows
pub evaluated : (u : CUnit) (fuel : ℕ) (answer : Result CEnd CFault) (input : run.OnSource) (out : run.OnSink) → Answers u fuel answer input out → FueledShows (c_runs u) fuel (source_of input) (sink_of out) (outcome_of answer)
evaluated u fuel (Ok Ended) input out h = (h.0, h.1, h.2, ended u fuel input out Ended h.0 h.1 h.3)
evaluated u fuel (Ok Going) input out h = (h.0, h.1, h.2, ended u fuel input out Going h.0 h.1 h.3)
evaluated u fuel (Ok (Undefined act)) input out h = (h.0, h.1, h.2, ended u fuel input out (Undefined act) h.0 h.1 h.3)
evaluated u fuel (Err Read) input out h = (h.0, lacks u fuel input out h.1)
evaluated u fuel (Err Write) input out h = let t = h.1 in (h.0, (t.0, t.1, t.2, record { into = broken u fuel input out t.0 t.1 t.3.front; asks = asked u fuel input out t.0 t.1 t.3.asks }))
evaluated u fuel (Err Memory) input out h = (h.0, h.1, h.2, broken u fuel input out h.0 h.1 h.3)

-- a text that is refused gives no program
refused : (text : List ℕ) (e : SourceFault) → IsRefusedFor text e → IsNoProgram (CRefused text) (source_refusal e)
refused text (Prepare (prep.BadChar p)) h = (Prepare (prep.BadChar p), h, refl)
refused text (Prepare (prep.Unclosed p)) h = (Prepare (prep.Unclosed p), h, refl)
refused text (Prepare (prep.NumberRange p)) h = (Prepare (prep.NumberRange p), h, refl)
refused text (Prepare (prep.BadDirective p)) h = (Prepare (prep.BadDirective p), h, refl)
refused text (Prepare (prep.Unbalanced p)) h = (Prepare (prep.Unbalanced p), h, refl)
refused text (Prepare prep.TooLarge) h = (Prepare prep.TooLarge, h, refl)
refused text (Prepare prep.Memory) h = tt
refused text (Parse (parse.Syntax p)) h = (Parse (parse.Syntax p), h, refl)
refused text (Parse (parse.TooDeep p)) h = (Parse (parse.TooDeep p), h, refl)
refused text (Parse parse.TooLarge) h = (Parse parse.TooLarge, h, refl)
refused text (Parse parse.Memory) h = tt
refused text (Check (type.Unknown p)) h = (Check (type.Unknown p), h, refl)
refused text (Check (type.Twice p)) h = (Check (type.Twice p), h, refl)
refused text (Check (type.Mismatch p)) h = (Check (type.Mismatch p), h, refl)
refused text (Check (type.NotLvalue p)) h = (Check (type.NotLvalue p), h, refl)
refused text (Check (type.BadCall p)) h = (Check (type.BadCall p), h, refl)
refused text (Check (type.NoMain p)) h = (Check (type.NoMain p), h, refl)
refused text (Check type.TooLarge) h = (Check type.TooLarge, h, refl)
refused text (Check type.Memory) h = tt

pub no_text : (text : List ℕ) (e : SourceFault) (outcome : Outcome) → outcome ≡ source_refusal e → IsRefusedFor text e → IsNoProgram (CRefused text) outcome
no_text text e outcome is h = subst (IsNoProgram (CRefused text)) (sym is) (refused text e h)
