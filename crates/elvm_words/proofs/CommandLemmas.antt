-- What settings make of a command.
use Rattle.std.proofs.Common.{◌≡◌, ◌∙◌, ap, true}
use Rattle.clap.specs.Words.{Text, app_of, new_app}
use Rattle.clap.specs.Simple.{app_of_fields, on_top}
use Rattle.clap.specs.declared.builder.command.Command.{Command}
use Rattle.clap.specs.declared.builder.command.Command.TheViews.{out-Command as fields_of}
use Rattle.elvm_words.specs.Arguments.{bare_app}

-- a new command with these three settings
pub settings : (name : Text) (new first second third : Command) → app_of new ≡ new_app name
    → fields_of first ≡ record (fields_of new) { no_binary_name = true }
    → fields_of second ≡ record (fields_of first) { disable_help_flag = true }
    → fields_of third ≡ record (fields_of second) { disable_version_flag = true }
    → app_of third ≡ bare_app name
settings name new first second third is a b c =
    ap app_of_fields c
    ∙ ap (on_top (λ s. record s { disable_version_flag = true })) (ap app_of_fields b
    ∙ ap (on_top (λ s. record s { disable_help_flag = true })) (ap app_of_fields a
    ∙ ap (on_top (λ s. record s { no_binary_name = true })) is))
