use Rattle.std.proofs.Common.{◌≡◌, ◌∙◌, sym, ap, subst, codes, map, string_bytes, [], Global}
use Rattle.clap.specs.Words.{fault_of, found_of, is_simple, is_simple_and_free, matches_of, rows_of, HasKind}
use Rattle.elvm_words.specs.Arguments.{command}
use Rattle.elvm_words.proofs.ArgumentLemmas.{argument_texts-read, argument_texts-refused, command_is_free, command_is_simple, same_texts, text_read}
use Rattle.elvm_words.proofs.arguments.read_arguments.Goals as goal

pub returns-in-Ok-clause-ok : goal.returns-in-Ok-clause-ok
returns-in-Ok-clause-ok c =
    let is = c.in_ok-elvm_command.ensures in
    let words = map (string_bytes {Z = Global}) c.args.words.now in
    let none : fault_of command words ≡ [] = ap (λ a. fault_of a words) (sym is) ∙ c.in-Ok.ensures.kinds (ap is_simple_and_free is ∙ command_is_free) in
    let found = found_of c.in-Ok.matches in
    let rows : rows_of found ≡ matches_of command words =
    (c.in-Ok.ensures.matches (ap is_simple is ∙ command_is_simple)).0 ∙ ap (λ a. matches_of a words) is in
    argument_texts-read words _ none (same_texts _ _
    (c.get_str.ensures ∙ text_read found (codes "verb") (matches_of command words) rows)
    (c.get_str-in-Ok.ensures ∙ text_read found (codes "what") (matches_of command words) rows)
    (c.get_str-in-Ok-2.ensures ∙ text_read found (codes "target") (matches_of command words) rows)
    (c.get_str-in-Ok-3.ensures ∙ text_read found (codes "steps") (matches_of command words) rows)
    (c.get_str-in-Ok-4.ensures ∙ text_read found (codes "codel") (matches_of command words) rows))

pub returns-clause-usage : goal.returns-clause-usage
returns-clause-usage c = λ _.
    let is = c.in_ok-elvm_command.ensures in
    let words = map (string_bytes {Z = Global}) c.args.words.now in
    let kinds = c.in-Err.ensures.kinds (ap is_simple_and_free is ∙ command_is_free) in
    argument_texts-refused words c.in-Err.error (subst (λ a. HasKind (fault_of a words) c.in-Err.error) is kinds) (λ e. c.in_default.not-OutOfMemory (c.kind.ensures ∙ e))
