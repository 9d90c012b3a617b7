-- What is built of a C text runs as its tree.
use Rattle.std.proofs.Common.{ℕ, ◌^◌, ◌<◌, ◌≤◌, List, true, false, arith}
use Rattle.mach_core.specs.Rule.{Rule, IsInput}
use Rattle.elvm_words.specs.declared.request.Target.{Target}
use Rattle.elvm_words.specs.declared.request.Target.TheVariants.{Brainfuck, Whitespace, Subleq, Piet, Wasm}
use Rattle.eir_core.specs.Eir.{size_of}
use Rattle.c_syntax.specs.Plain.{CUnit}
use Rattle.c_compiled.specs.Compiled.{compiled}
use Rattle.c_compiled.specs.Moments.{EndsInTime, RunsAsItsSource}
use Rattle.c_compiled.specs.Texts.{IsCompiledText}
use Rattle.c_compiled.proofs.Moments.{ends_in_time, runs_as_its_source}
use Rattle.sim_trait.specs.Bound.{Bound, Slowdown, bound, sharp_bound}
use Rattle.sim_trait.specs.Faithful.{Faithful}
use Rattle.sim_bounds.specs.Closed.{IsClosed}
use Rattle.sim_bounds.proofs.Closed.{bounds_are_closed}
use Rattle.bf_lang.specs.Step.{bf_rule, bf_start}
use Rattle.bf_lang.specs.Text.{bf_spells}
use Rattle.piet_image.specs.Text.{Spells}
use Rattle.piet_lang.specs.Rule.{rule_of, start_of}
use Rattle.sq_lang.specs.Text.{sq_spells}
use Rattle.sq_lang.specs.Step.{sq_rule, sq_start}
use Rattle.wasm_rule.specs.Rule.{wasm_rule}
use Rattle.wasm_rule.specs.Spells.{WasmSpells}
use Rattle.wasm_rule.specs.Start.{wasm_start}
use Rattle.ws_lang.specs.Spelling.{ws_spells}
use Rattle.ws_lang.specs.Step.{ws_rule, ws_start}
use Rattle.elvm_cli.specs.Targets.{RunsInTime, StandsIn, emitted_in, slowdown_of}

-- so it is in each language
in_language_so : {Q D : Type 0} (spells : List ℕ → Q → Type 0) (rule : Q → Rule D) (start : Q → D) (most : Bound) (t : Slowdown) (limit : ℕ) (u : CUnit) (text : List ℕ) → IsClosed t most → limit < 2 ^ 23
    → IsCompiledText u → size_of (compiled u) ≤ limit → Faithful spells rule start most (compiled u) text
    → (q : Q) × spells text q × ((input : List ℕ) → IsInput input → RunsAsItsSource (rule q) (start q) most u input) × EndsInTime (rule q) (start q) t limit u
in_language_so spells rule start most t limit u text closed small is fits stands = (
  stands.program,
  stands.spelled,
  runs_as_its_source (rule stands.program) (start stands.program) most u stands.follows is.means,
  ends_in_time (rule stands.program) (start stands.program) most t limit u stands.follows is.means closed fits small,
)

pub runs_in_time : (target : Target) (u : CUnit) (text : List ℕ) → IsCompiledText u → size_of (compiled u) ≤ (emitted_in target).limit → StandsIn target (compiled u) text → RunsInTime target u text
runs_in_time Brainfuck u text is fits stands = let t = slowdown_of Brainfuck in in_language_so bf_spells bf_rule bf_start (bound t) t (2 ^ 14) u text (bounds_are_closed.general t) (omega arith) is fits stands
runs_in_time Whitespace u text is fits stands = let t = slowdown_of Whitespace in in_language_so ws_spells ws_rule ws_start (sharp_bound t true) t (2 ^ 17) u text (bounds_are_closed.sharp t true) (omega arith) is fits stands
runs_in_time Subleq u text is fits stands = let t = slowdown_of Subleq in in_language_so sq_spells sq_rule sq_start (sharp_bound t false) t (2 ^ 16) u text (bounds_are_closed.sharp t false) (omega arith) is fits stands
runs_in_time Piet u text is fits stands = let t = slowdown_of Piet in in_language_so (λ x. Spells x 1) rule_of start_of (bound t) t (2 ^ 12) u text (bounds_are_closed.general t) (omega arith) is fits stands
runs_in_time Wasm u text is fits stands = let t = slowdown_of Wasm in in_language_so WasmSpells wasm_rule wasm_start (bound t) t (2 ^ 16) u text (bounds_are_closed.general t) (omega arith) is fits stands
