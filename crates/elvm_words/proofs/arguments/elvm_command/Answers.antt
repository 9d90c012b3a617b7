use Rattle.std.proofs.Common.{rules, ◌≡◌, ◌∙◌, ap, ap₂, codes}
use Rattle.std.proofs.lemmas.Result.{IfOk-weaker}
use Rattle.clap.specs.Words.{app_of, rule_of, with_rule}
use Rattle.clap.specs.declared.builder.arg.Arg.{Arg}
use Rattle.elvm_words.specs.Arguments.{command, positional, valued_option}
use Rattle.elvm_words.proofs.arguments.elvm_command.Goals as goal

pub returns : goal.returns
unfolding command
returns c =
    let verb_is : rule_of c.new.result ≡ positional (codes "verb") = search rules in
    let what_is : rule_of c.new-2.result ≡ positional (codes "what") = search rules in
    let target_is : rule_of c.long.result ≡ valued_option (codes "target") = search rules in
    let steps_is : rule_of c.long-2.result ≡ valued_option (codes "steps") = search rules in
    let codel_is : rule_of c.long-3.result ≡ valued_option (codes "codel") = search rules in
    let one = c.in_ok-arg.ensures.shape c.new.ensures.optional.1 ∙ ap₂ with_rule c.bare_command.ensures verb_is in
    let two = c.in_ok-arg-2.ensures.shape c.new-2.ensures.optional.1 ∙ ap₂ with_rule one what_is in
    let three = c.in_ok-arg-3.ensures.shape (ap (λ (a : Arg). a.global) c.long.ensures ∙ c.new-3.ensures.optional.1) ∙ ap₂ with_rule two target_is in
    let four = c.in_ok-arg-4.ensures.shape (ap (λ (a : Arg). a.global) c.long-2.ensures ∙ c.new-4.ensures.optional.1) ∙ ap₂ with_rule three steps_is in
    IfOk-weaker c.arg-5.result _ (λ r. app_of r ≡ command) (λ _ adds. adds.shape (ap (λ (a : Arg). a.global) c.long-3.ensures ∙ c.new-5.ensures.optional.1) ∙ ap₂ with_rule four codel_is) c.arg-5.ensures
