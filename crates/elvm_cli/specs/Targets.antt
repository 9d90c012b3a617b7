-- The targets: one table.
use Rattle.std.specs.Prelude.{◌^◌, ℕ, List, true, false}
use Rattle.elvm_words.specs.declared.request.Target.{Target}
use Rattle.elvm_words.specs.declared.request.Target.TheVariants.{Brainfuck, Whitespace, Subleq, Piet, Wasm}
use Rattle.mach_core.specs.Rule.{Rule, IsInput}
use Rattle.eir_core.specs.Eir.{Eir}
use Rattle.c_syntax.specs.Plain.{CUnit}
use Rattle.c_compiled.specs.Built.{IsBuilt}
use Rattle.c_compiled.specs.Compiled.{compiled}
use Rattle.c_compiled.specs.Moments.{EndsInTime, RunsAsItsSource}
use Rattle.sim_trait.specs.Bound.{Bound, Slowdown, bound, sharp_bound}
use Rattle.sim_trait.specs.Faithful.{Faithful}
use Rattle.bf_lang.specs.Step.{bf_rule, bf_start}
use Rattle.bf_lang.specs.Text.{bf_spells}
use Rattle.piet_image.specs.Text.{Spells}
use Rattle.piet_lang.specs.Rule.{rule_of, start_of}
use Rattle.sq_lang.specs.Text.{sq_spells}
use Rattle.sq_lang.specs.Step.{sq_rule, sq_start}
use Rattle.wasm_rule.specs.Rule.{wasm_rule}
use Rattle.wasm_rule.specs.Spells.{WasmSpells}
use Rattle.wasm_rule.specs.Start.{wasm_start}
use Rattle.ws_lang.specs.Spelling.{ws_spells}
use Rattle.ws_lang.specs.Step.{ws_rule, ws_start}
use Rattle.elvm_cli.specs.Runs.{Runs, runs_by}
use Rattle.elvm_cli.specs.Languages.{BfRefused, PietRefused, SqRefused, WasmRefused, WsRefused}
use Rattle.elvm_cli.specs.declared.outcome.Outcome.{Outcome}

-- a target: which program a text spells, what comes out where it is refused, how its programs run, and of emission the
-- largest size of a program and the bound on steps
pub record Language : Type 1 where
  pub Code : Type 0
  pub Config : Type 0
  pub spells : List ℕ → Code → Type 0
  pub refused : List ℕ → Outcome → Type 0
  pub rule : Code → Rule Config
  pub start : Code → Config
  pub limit : ℕ
  pub bound : Bound

abbrev language : {P C : Type 0} → (List ℕ → P → Type 0) → (List ℕ → Outcome → Type 0) → (P → Rule C) → (P → C) → ℕ → Bound → Language
language {P} {C} spells refused rule start limit bound = record {
  Code = P;
  Config = C;
  spells = spells;
  refused = refused;
  rule = rule;
  start = start;
  limit = limit;
  bound = bound;
}

-- by a factor; and by how far the program reaches into its memory too
abbrev direct : ℕ → Slowdown
direct factor = record { factor = factor; by_reach = false }

abbrev by_reach : ℕ → Slowdown
by_reach factor = record { factor = factor; by_reach = true }

-- how much slower its programs may be than the program of EIR
abbrev pub slowdown_of : Target → Slowdown
slowdown_of Brainfuck = by_reach (2 ^ 24)
slowdown_of Whitespace = direct (2 ^ 8)
slowdown_of Subleq = direct (2 ^ 13)
slowdown_of Piet = by_reach (2 ^ 16)
slowdown_of Wasm = direct (2 ^ 8)

-- THE TABLE: each target, with codels of this many pixels a side
abbrev pub in_language : Target → ℕ → Language
in_language Brainfuck codel = language bf_spells BfRefused bf_rule bf_start (2 ^ 14) (bound (slowdown_of Brainfuck))
in_language Whitespace codel = language ws_spells WsRefused ws_rule ws_start (2 ^ 17) (sharp_bound (slowdown_of Whitespace) true)
in_language Subleq codel = language sq_spells SqRefused sq_rule sq_start (2 ^ 16) (sharp_bound (slowdown_of Subleq) false)
in_language Piet codel = language (λ text. Spells text codel) (PietRefused codel) rule_of start_of (2 ^ 12) (bound (slowdown_of Piet))
in_language Wasm codel = language WasmSpells WasmRefused wasm_rule wasm_start (2 ^ 16) (bound (slowdown_of Wasm))

-- a program is emitted in codels of one pixel
abbrev pub emitted_in : Target → Language
emitted_in target = in_language target 1

-- the text stands for the program in a target: for every input it does what the program does
abbrev pub StandsIn : Target → Eir → List ℕ → Type 0
StandsIn target = let l = emitted_in target in Faithful l.spells l.rule l.start l.bound

-- the text spells a program of a target that means what a C tree does: for every input and each amount of fuel it comes to show what the tree has taken and written with it, and, short of an undefined act, has ended exactly where the tree has
abbrev pub MeansItsSource : Target → CUnit → List ℕ → Type 0
MeansItsSource target = let l = emitted_in target in IsBuilt l.spells l.rule l.start l.bound

-- the text stands in a target for the program to which a C tree is compiled, and means what the tree does
abbrev pub IsBuiltIn : Target → CUnit → List ℕ → Type 0
IsBuiltIn target u text = StandsIn target (compiled u) text × MeansItsSource target u text

-- the text spells a program of a target that is never ahead of a C tree: at each of its moments it has written and taken no more than the tree with as many units of fuel, short of an undefined act; and where the tree ends, it has ended after a number of steps, which the target's limit and factor, the tree's weight and the units of fuel give
abbrev pub RunsInTime : Target → CUnit → List ℕ → Type 0
RunsInTime target u text =
    let l = emitted_in target in
    (code : l.Code) × l.spells text code × ((input : List ℕ) → IsInput input → RunsAsItsSource (l.rule code) (l.start code) l.bound u input)
    × EndsInTime (l.rule code) (l.start code) (slowdown_of target) l.limit u

-- the runs of a program of a language
abbrev pub runs_in : (l : Language) → l.Code → Runs
runs_in l code = runs_by (l.rule code) (l.start code)
