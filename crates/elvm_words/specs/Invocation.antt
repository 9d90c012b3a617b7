-- What the words ask for.
use Rattle.std.specs.Prelude.{ℕ, ◌^◌, ◌-◌, ◌≤◌, ⊤, List, [], ◌∷◌, None, Some, codes, option_map, option_and_then, if◌then◌else◌}
use Rattle.std.specs.declared.option.Option.{Option}
use Rattle.std.specs.Str.{bytes_eq}
use Rattle.elvm_words.specs.Arguments.{ArgumentTexts, argument_texts}
use Rattle.elvm_words.specs.Number.{number_in}
use Rattle.elvm_words.specs.declared.request.Verb.{Verb}
use Rattle.elvm_words.specs.declared.request.Verb.TheVariants.{Compile, Eir, Emit, Build, Run, Sample, Opt, C}
use Rattle.elvm_words.specs.declared.request.Target.{Target}
use Rattle.elvm_words.specs.declared.request.Target.TheVariants.{Brainfuck, Whitespace, Subleq, Piet, Wasm}
use Rattle.elvm_words.specs.declared.request.Request.{Request}
use Rattle.elvm_words.specs.declared.request.Request.TheVariants as request

-- a verb with its file or number, its target, its step limit or fuel, and its codel size
pub data Invocation : Type 0 where
  compile : List ℕ → Invocation
  eir : List ℕ → ℕ → Invocation
  emit : Target → List ℕ → Invocation
  build : Target → List ℕ → Invocation
  run : Target → List ℕ → ℕ → ℕ → Invocation
  sample : ℕ → Invocation
  optimise : List ℕ → Invocation
  evaluate : List ℕ → ℕ → Invocation

-- the verb of this name
abbrev pub verb_named : List ℕ → Option Verb
verb_named name =
    if bytes_eq name (codes "compile") then Some Compile
    else (if bytes_eq name (codes "eir") then Some Eir
    else (if bytes_eq name (codes "emit") then Some Emit
    else (if bytes_eq name (codes "build") then Some Build
    else (if bytes_eq name (codes "run") then Some Run
    else (if bytes_eq name (codes "sample") then Some Sample
    else (if bytes_eq name (codes "opt") then Some Opt
    else (if bytes_eq name (codes "c") then Some C
    else None)))))))

-- the target of this name
abbrev pub target_named : List ℕ → Option Target
target_named name =
    if bytes_eq name (codes "brainfuck") then Some Brainfuck
    else (if bytes_eq name (codes "whitespace") then Some Whitespace
    else (if bytes_eq name (codes "subleq") then Some Subleq
    else (if bytes_eq name (codes "piet") then Some Piet
    else (if bytes_eq name (codes "wasm") then Some Wasm
    else None))))

-- a text that isn't empty
abbrev pub filled_text : List ℕ → Option (List ℕ)
filled_text [] = None
filled_text (c ∷ cs) = Some (c ∷ cs)

-- the step limit, or the fuel of a C text: 1 to 20 digits of value below 2^64, or a million million where none is given
abbrev pub steps_given : Option (List ℕ) → Option ℕ
steps_given None = Some 1_000_000_000_000
steps_given (Some text) = number_in 20 0 (2 ^ 64 - 1) text

-- the codel size: 1 to 5 digits of value 1 to 65,535 for Piet alone, or 1 where none is given
abbrev pub codel_given : Target → Option (List ℕ) → Option ℕ
codel_given target None = Some 1
codel_given Piet (Some text) = number_in 5 1 65535 text
codel_given _ (Some text) = None

-- the blocks of a sample: 1 to 5 digits of value at most 20,000
abbrev pub blocks_given : List ℕ → Option ℕ
blocks_given text = number_in 5 0 20000 text

-- a run in this target, where its step limit and its codel size may be given so
abbrev pub run_in : List ℕ → Option (List ℕ) → Option (List ℕ) → Target → Option Invocation
run_in file steps codel target =
    option_and_then (λ n. option_map (run target file n) (codel_given target codel)) (steps_given steps)

-- what the verb asks for, by WHAT, the target, the step limit and the codel size
abbrev pub invocation_by : Verb → List ℕ → Option (List ℕ) → Option (List ℕ) → Option (List ℕ) → Option Invocation
invocation_by Compile file None None None = Some (compile file)
invocation_by Eir file None steps None = option_map (eir file) (steps_given steps)
invocation_by Emit file (Some target) None None = option_map (λ t. emit t file) (target_named target)
invocation_by Build file (Some target) None None = option_map (λ t. build t file) (target_named target)
invocation_by Run file (Some target) steps codel = option_and_then (run_in file steps codel) (target_named target)
invocation_by Sample number None None None = option_map sample (blocks_given number)
invocation_by Opt file None None None = Some (optimise file)
invocation_by C file None steps None = option_map (evaluate file) (steps_given steps)
invocation_by _ _ _ _ _ = None

-- what the arguments ask for: a verb and a WHAT that isn't empty are given
abbrev pub invocation_with : ArgumentTexts → Option Invocation
invocation_with texts = option_and_then (λ verb. option_and_then (λ what.
    invocation_by verb what texts.target texts.steps texts.codel)
    (option_and_then filled_text texts.what)) (option_and_then verb_named texts.verb)

-- what the words ask for; none is the usage fault
abbrev pub invocation_in : List (List ℕ) → Option Invocation
invocation_in words = option_and_then invocation_with (argument_texts words)

-- what the request that was read asks for
abbrev pub invocation_of : Request → Invocation
invocation_of (request.Compile file) = compile file.now
invocation_of (request.Eir file steps) = eir file.now steps
invocation_of (request.Emit target file) = emit target file.now
invocation_of (request.Build target file) = build target file.now
invocation_of (request.Run target file steps codel) = run target file.now steps codel
invocation_of (request.Sample blocks) = sample blocks
invocation_of (request.Opt file) = optimise file.now
invocation_of (request.C file fuel) = evaluate file.now fuel

-- a codel has 1 to 65,535 pixels a side, and a sample has at most 20,000 blocks
abbrev pub IsWithinLimits : Request → Type 0
IsWithinLimits (request.Run target file steps codel) = (1 ≤ codel) × (codel ≤ 65535)
IsWithinLimits (request.Sample blocks) = blocks ≤ 20000
IsWithinLimits _ = ⊤
