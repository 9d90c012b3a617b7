-- What lists of words ask for; none is the usage fault.
use Rattle.std.proofs.Common.{◌≡◌, ℕ, List, [], ◌∷◌, None, Some, codes, refl}
use Rattle.clap.proofs.OnLiterals.{clap_on_literals}
use Rattle.elvm_words.specs.Arguments.{command}
use Rattle.elvm_words.specs.Invocation.{invocation_in, build, compile, eir, emit, evaluate, optimise, run, sample}
use Rattle.elvm_words.specs.declared.request.Target.TheVariants.{Brainfuck, Piet, Wasm, Whitespace}

-- What each verb asks for.
pub compile_file : invocation_in (codes "compile" ∷ codes "a.c" ∷ []) ≡ Some (compile (codes "a.c"))
unfolding command clap_on_literals
compile_file = refl

pub eir_file : invocation_in (codes "eir" ∷ codes "a.eir" ∷ []) ≡ Some (eir (codes "a.eir") 1_000_000_000_000)
unfolding command clap_on_literals
eir_file = refl

pub emit_file : invocation_in (codes "emit" ∷ codes "--target" ∷ codes "brainfuck" ∷ codes "a.eir" ∷ []) ≡ Some (emit Brainfuck (codes "a.eir"))
unfolding command clap_on_literals
emit_file = refl

pub build_file : invocation_in (codes "build" ∷ codes "--target" ∷ codes "wasm" ∷ codes "a.c" ∷ []) ≡ Some (build Wasm (codes "a.c"))
unfolding command clap_on_literals
build_file = refl

pub run_file : invocation_in (codes "run" ∷ codes "--target" ∷ codes "piet" ∷ codes "a.ppm" ∷ []) ≡ Some (run Piet (codes "a.ppm") 1_000_000_000_000 1)
unfolding command clap_on_literals
run_file = refl

pub sample_number : invocation_in (codes "sample" ∷ codes "20000" ∷ []) ≡ Some (sample 20000)
unfolding command clap_on_literals
sample_number = refl

pub sample_too_large : invocation_in (codes "sample" ∷ codes "20001" ∷ []) ≡ None
unfolding command clap_on_literals
sample_too_large = refl

pub sample_no_number : invocation_in (codes "sample" ∷ codes "x" ∷ []) ≡ None
unfolding command clap_on_literals
sample_no_number = refl

pub sample_hyphen : invocation_in (codes "sample" ∷ codes "-1" ∷ []) ≡ None
unfolding command clap_on_literals
sample_hyphen = refl

pub opt_file : invocation_in (codes "opt" ∷ codes "a.eir" ∷ []) ≡ Some (optimise (codes "a.eir"))
unfolding command clap_on_literals
opt_file = refl

pub opt_with_steps : invocation_in (codes "opt" ∷ codes "--steps" ∷ codes "5" ∷ codes "a.eir" ∷ []) ≡ None
unfolding command clap_on_literals
opt_with_steps = refl

pub c_file : invocation_in (codes "c" ∷ codes "a.c" ∷ []) ≡ Some (evaluate (codes "a.c") 1_000_000_000_000)
unfolding command clap_on_literals
c_file = refl

pub c_with_fuel : invocation_in (codes "c" ∷ codes "a.c" ∷ codes "--steps=0" ∷ []) ≡ Some (evaluate (codes "a.c") 0)
unfolding command clap_on_literals
c_with_fuel = refl

pub c_with_codel : invocation_in (codes "c" ∷ codes "--codel" ∷ codes "1" ∷ codes "a.c" ∷ []) ≡ None
unfolding command clap_on_literals
c_with_codel = refl

-- Options stand before, between and behind the positionals.
pub option_before : invocation_in (codes "--steps" ∷ codes "7" ∷ codes "eir" ∷ codes "x" ∷ []) ≡ Some (eir (codes "x") 7)
unfolding command clap_on_literals
option_before = refl

pub option_between : invocation_in (codes "eir" ∷ codes "--steps" ∷ codes "7" ∷ codes "x" ∷ []) ≡ Some (eir (codes "x") 7)
unfolding command clap_on_literals
option_between = refl

pub option_behind : invocation_in (codes "eir" ∷ codes "x" ∷ codes "--steps" ∷ codes "7" ∷ []) ≡ Some (eir (codes "x") 7)
unfolding command clap_on_literals
option_behind = refl

pub options_around : invocation_in (codes "run" ∷ codes "--steps=70" ∷ codes "a.ppm" ∷ codes "--codel=3" ∷ codes "--target" ∷ codes "piet" ∷ []) ≡ Some (run Piet (codes "a.ppm") 70 3)
unfolding command clap_on_literals
options_around = refl

-- A verb and a WHAT are given, and no more.
pub no_words : invocation_in [] ≡ None
unfolding command clap_on_literals
no_words = refl

pub no_file : invocation_in (codes "eir" ∷ []) ≡ None
unfolding command clap_on_literals
no_file = refl

pub third_positional : invocation_in (codes "eir" ∷ codes "a" ∷ codes "b" ∷ []) ≡ None
unfolding command clap_on_literals
third_positional = refl

pub unknown_verb : invocation_in (codes "jump" ∷ codes "a" ∷ []) ≡ None
unfolding command clap_on_literals
unknown_verb = refl

pub verb_in_capitals : invocation_in (codes "EIR" ∷ codes "a" ∷ []) ≡ None
unfolding command clap_on_literals
verb_in_capitals = refl

pub empty_file : invocation_in (codes "eir" ∷ codes "" ∷ []) ≡ None
unfolding command clap_on_literals
empty_file = refl

-- A file that begins with a hyphen.
pub file_hyphen : invocation_in (codes "emit" ∷ codes "--target" ∷ codes "whitespace" ∷ codes "-" ∷ []) ≡ Some (emit Whitespace (codes "-"))
unfolding command clap_on_literals
file_hyphen = refl

pub file_hyphen_name : invocation_in (codes "emit" ∷ codes "--target" ∷ codes "whitespace" ∷ codes "-x" ∷ []) ≡ None
unfolding command clap_on_literals
file_hyphen_name = refl

pub file_hyphen_name_behind : invocation_in (codes "emit" ∷ codes "--target" ∷ codes "whitespace" ∷ codes "--" ∷ codes "-x" ∷ []) ≡ Some (emit Whitespace (codes "-x"))
unfolding command clap_on_literals
file_hyphen_name_behind = refl

pub options_behind : invocation_in (codes "emit" ∷ codes "--" ∷ codes "x" ∷ codes "--target" ∷ codes "whitespace" ∷ []) ≡ None
unfolding command clap_on_literals
options_behind = refl

-- The target.
pub no_target : invocation_in (codes "emit" ∷ codes "a.eir" ∷ []) ≡ None
unfolding command clap_on_literals
no_target = refl

pub target_unknown : invocation_in (codes "emit" ∷ codes "--target" ∷ codes "perl" ∷ codes "a.eir" ∷ []) ≡ None
unfolding command clap_on_literals
target_unknown = refl

pub target_twice : invocation_in (codes "emit" ∷ codes "--target" ∷ codes "wasm" ∷ codes "--target" ∷ codes "wasm" ∷ codes "a.eir" ∷ []) ≡ None
unfolding command clap_on_literals
target_twice = refl

pub target_no_value : invocation_in (codes "emit" ∷ codes "a.eir" ∷ codes "--target" ∷ []) ≡ None
unfolding command clap_on_literals
target_no_value = refl

pub target_with_eir : invocation_in (codes "eir" ∷ codes "--target" ∷ codes "wasm" ∷ codes "a.eir" ∷ []) ≡ None
unfolding command clap_on_literals
target_with_eir = refl

pub target_with_compile : invocation_in (codes "compile" ∷ codes "--target" ∷ codes "wasm" ∷ codes "a.c" ∷ []) ≡ None
unfolding command clap_on_literals
target_with_compile = refl

pub target_with_sample : invocation_in (codes "sample" ∷ codes "--target" ∷ codes "wasm" ∷ codes "3" ∷ []) ≡ None
unfolding command clap_on_literals
target_with_sample = refl

-- The step limit.
pub steps_zero : invocation_in (codes "eir" ∷ codes "--steps" ∷ codes "0" ∷ codes "x" ∷ []) ≡ Some (eir (codes "x") 0)
unfolding command clap_on_literals
steps_zero = refl

pub steps_leading_zeros : invocation_in (codes "eir" ∷ codes "--steps" ∷ codes "0007" ∷ codes "x" ∷ []) ≡ Some (eir (codes "x") 7)
unfolding command clap_on_literals
steps_leading_zeros = refl

pub steps_largest : invocation_in (codes "eir" ∷ codes "--steps" ∷ codes "18446744073709551615" ∷ codes "x" ∷ []) ≡ Some (eir (codes "x") 18446744073709551615)
unfolding command clap_on_literals
steps_largest = refl

pub steps_too_large : invocation_in (codes "eir" ∷ codes "--steps" ∷ codes "18446744073709551616" ∷ codes "x" ∷ []) ≡ None
unfolding command clap_on_literals
steps_too_large = refl

pub steps_too_long : invocation_in (codes "eir" ∷ codes "--steps" ∷ codes "000000000000000000001" ∷ codes "x" ∷ []) ≡ None
unfolding command clap_on_literals
steps_too_long = refl

pub steps_minus : invocation_in (codes "eir" ∷ codes "--steps" ∷ codes "-1" ∷ codes "x" ∷ []) ≡ None
unfolding command clap_on_literals
steps_minus = refl

pub steps_is_minus : invocation_in (codes "eir" ∷ codes "--steps=-1" ∷ codes "x" ∷ []) ≡ None
unfolding command clap_on_literals
steps_is_minus = refl

pub steps_plus : invocation_in (codes "eir" ∷ codes "--steps" ∷ codes "+1" ∷ codes "x" ∷ []) ≡ None
unfolding command clap_on_literals
steps_plus = refl

pub steps_empty : invocation_in (codes "eir" ∷ codes "--steps=" ∷ codes "x" ∷ []) ≡ None
unfolding command clap_on_literals
steps_empty = refl

pub steps_no_number : invocation_in (codes "eir" ∷ codes "--steps" ∷ codes "x" ∷ codes "a.eir" ∷ []) ≡ None
unfolding command clap_on_literals
steps_no_number = refl

pub steps_twice : invocation_in (codes "eir" ∷ codes "--steps" ∷ codes "1" ∷ codes "--steps" ∷ codes "1" ∷ codes "a" ∷ []) ≡ None
unfolding command clap_on_literals
steps_twice = refl

pub steps_with_emit : invocation_in (codes "emit" ∷ codes "--target" ∷ codes "wasm" ∷ codes "--steps" ∷ codes "5" ∷ codes "a.eir" ∷ []) ≡ None
unfolding command clap_on_literals
steps_with_emit = refl

-- The codel size.
pub codel_largest : invocation_in (codes "run" ∷ codes "--target" ∷ codes "piet" ∷ codes "--codel" ∷ codes "65535" ∷ codes "a.ppm" ∷ []) ≡ Some (run Piet (codes "a.ppm") 1_000_000_000_000 65535)
unfolding command clap_on_literals
codel_largest = refl

pub codel_too_large : invocation_in (codes "run" ∷ codes "--target" ∷ codes "piet" ∷ codes "--codel" ∷ codes "65536" ∷ codes "a.ppm" ∷ []) ≡ None
unfolding command clap_on_literals
codel_too_large = refl

pub codel_zero : invocation_in (codes "run" ∷ codes "--target" ∷ codes "piet" ∷ codes "--codel" ∷ codes "0" ∷ codes "a.ppm" ∷ []) ≡ None
unfolding command clap_on_literals
codel_zero = refl

pub codel_with_eir : invocation_in (codes "eir" ∷ codes "--codel" ∷ codes "1" ∷ codes "a.eir" ∷ []) ≡ None
unfolding command clap_on_literals
codel_with_eir = refl

pub codel_with_wasm : invocation_in (codes "run" ∷ codes "--target" ∷ codes "wasm" ∷ codes "--codel" ∷ codes "1" ∷ codes "a.wasm" ∷ []) ≡ None
unfolding command clap_on_literals
codel_with_wasm = refl

-- There are no help and version flags, and no other option.
pub help_flag : invocation_in (codes "--help" ∷ []) ≡ None
unfolding command clap_on_literals
help_flag = refl

pub help_short : invocation_in (codes "eir" ∷ codes "-h" ∷ codes "x" ∷ []) ≡ None
unfolding command clap_on_literals
help_short = refl

pub version_flag : invocation_in (codes "--version" ∷ []) ≡ None
unfolding command clap_on_literals
version_flag = refl

pub unknown_option : invocation_in (codes "eir" ∷ codes "--limit" ∷ codes "5" ∷ codes "x" ∷ []) ≡ None
unfolding command clap_on_literals
unknown_option = refl

-- Any name that isn't empty is a file's name behind two hyphens.
pub any_file_behind : (x : ℕ) (xs : List ℕ) → invocation_in (codes "emit" ∷ codes "--target" ∷ codes "whitespace" ∷ codes "--" ∷ (x ∷ xs) ∷ []) ≡ Some (emit Whitespace (x ∷ xs))
unfolding command clap_on_literals
any_file_behind x xs = refl
