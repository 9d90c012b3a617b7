-- What is emitted for a program behaves as the program.
use Rattle.std.proofs.Common.{ℕ, ◌+◌, ◌*◌, ◌^◌, List, Bool, subst, arith}
use Rattle.c_syntax.specs.Plain.{CUnit}
use Rattle.c_types.specs.Limits.{weight_of}
use Rattle.c_types.specs.Scope.{contains}
use Rattle.c_types.specs.Units.{defined_in, start_scope}
use Rattle.c_eval.specs.Text.{text_of}
use Rattle.c_eval.specs.Meaning.{eval, meaning_in}
use Rattle.c_eval.specs.Helpers.{helper_rules}
use Rattle.c_helpers.specs.Functions.{format_name}
use Rattle.c_helpers.specs.Simple.{with_helpers, desugared}
use Rattle.c_fewer_reached.proofs.Reached.{reached_are_defined}
use Rattle.c_programs.specs.Programs.{IsProgram}
use Rattle.c_fewer_names.specs.Names.{fewer_items, kept_in, formats_of, is_reached, passes}
use Rattle.c_compiled.proofs.ProgramHelpersNames.{format_is_own}
use Rattle.c_compiled.proofs.ProgramHelpersWhole.{formats_are_in_weight}
use Rattle.c_compiled.proofs.Stand.{desugaring_keeps_meaning}
use Rattle.c_rates.proofs.Charges.{frames_fit_charges}
use Rattle.c_rates.specs.Rates.{ration}
use Rattle.c_rates.proofs.Paid.{rates_fit, units_pay}
use Rattle.c_followed.specs.Faithful.{IsFaithful}
use Rattle.c_compiled.specs.Compiled.{compiled}
use Rattle.c_compiled.proofs.Programs.{helpers, HasRoom, FitsWords, ProgramsAreLowered}
use Rattle.c_compiled.proofs.Faithful.{desugared_programs_are_faithful}
use Rattle.c_compiled.proofs.Made.{keeps, made}

module _ (u : CUnit) (p : IsProgram u) (input : List ℕ) (fit : FitsWords u input) where
  abbrev test : List ℕ → Bool
  test = passes (kept_in u) (defined_in u.items)

  abbrev reached : List ℕ → Bool
  reached = is_reached (kept_in u) (defined_in u.items)

  room : HasRoom u test reached input
  room = record {
    few = fit.few;
    room = fit.room;
    memory = fit.memory;
    framed = λ name f g site n names e stands same. frames_fit_charges u test reached name f g site p.typed n names e stands same;
    paid = λ name f g site n names e stands same. units_pay u test reached name f g site p.typed names e stands same;
    formats = λ format f e. formats_are_in_weight u p format (format_is_own (formats_of u) u.items (start_scope u) format p.names (reached_are_defined (with_helpers (fewer_items u)) (format_name format) (keeps u p (format_name format) f e)));
    fails = fit.fails;
  }

pub programs_are_lowered : ProgramsAreLowered
programs_are_lowered u input fuel p blocks bytes fit =
    let kept : List ℕ → Bool = λ name. contains (kept_in u) name in
    let faithful = desugared_programs_are_faithful u (passes (kept_in u) (defined_in u.items)) (is_reached (kept_in u) (defined_in u.items)) kept input p blocks bytes (made u p) (room u p input fit) fuel in
    let bounded = subst (λ n. IsFaithful (compiled u) input fuel (n * (fuel + 1)) (meaning_in (eval (helper_rules (helpers u) (text_of (desugared u)) input) (text_of (desugared u)) input fuel))) (rates_fit u).bound faithful in
    subst (λ m. IsFaithful (compiled u) input fuel (2 ^ 20 * (weight_of u + 1) * (fuel + 1)) m) (desugaring_keeps_meaning u input fuel ration p bytes (omega arith)) bounded
