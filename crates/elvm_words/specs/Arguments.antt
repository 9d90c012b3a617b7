-- The arguments that the words give, by clap's rule for one simple command.
use Rattle.std.specs.Prelude.{List, [], ◌∷◌, None, Some, true, codes, option_map}
use Rattle.std.specs.declared.option.Option.{Option}
use Rattle.clap.specs.Words.{App, Kinds, Row, Rule, Text, fault_of, first_of, matches_of, new_app, new_rule, with_rule}
use Rattle.clap.specs.Simple.{on_top}
use Rattle.elvm_words.specs.declared.arguments.Arguments.{Arguments}

-- a positional
abbrev pub positional : Text → Rule
positional name = new_rule name

-- an option with one value
abbrev pub valued_option : Text → Rule
valued_option name = record (new_rule name) { long = Some name }

-- a command that takes every word that it is given, with no help or version flag
abbrev pub bare_app : Text → App
bare_app name =
    on_top (λ s. record s { no_binary_name = true; disable_help_flag = true; disable_version_flag = true }) (new_app name)

-- the command: two positionals and three options
unfoldable pub command : App
command =
    with_rule (with_rule (with_rule (with_rule (with_rule (bare_app (codes "elvm"))
    (positional (codes "verb")))
    (positional (codes "what")))
    (valued_option (codes "target")))
    (valued_option (codes "steps")))
    (valued_option (codes "codel"))

-- the text of each argument, where it is given
pub record ArgumentTexts : Type 0 where
  pub verb : Option Text
  pub what : Option Text
  pub target : Option Text
  pub steps : Option Text
  pub codel : Option Text

-- the texts that clap's matches hold
abbrev pub texts_in : List Row → ArgumentTexts
texts_in rows = record {
  verb = first_of (codes "verb") rows;
  what = first_of (codes "what") rows;
  target = first_of (codes "target") rows;
  steps = first_of (codes "steps") rows;
  codel = first_of (codes "codel") rows;
}

-- the texts, where there is no fault
abbrev pub without_fault : Kinds → ArgumentTexts → Option ArgumentTexts
without_fault [] texts = Some texts
without_fault (fault ∷ faults) texts = None

-- the arguments that the words give, or none where clap refuses the words
abbrev pub argument_texts : List Text → Option ArgumentTexts
argument_texts words = without_fault (fault_of command words) (texts_in (matches_of command words))

-- the texts of the arguments that were read
abbrev pub texts_of : Arguments → ArgumentTexts
texts_of a = record {
  verb = option_map (λ s. s.now) a.verb;
  what = option_map (λ s. s.now) a.what;
  target = option_map (λ s. s.now) a.target;
  steps = option_map (λ s. s.now) a.steps;
  codel = option_map (λ s. s.now) a.codel;
}
