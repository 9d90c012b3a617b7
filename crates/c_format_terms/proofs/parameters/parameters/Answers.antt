use Rattle.std.proofs.Common.{◌≡◌, ◌+◌, ◌++◌, ◌∷◌, [], ℕ, List, drop, get_or, length, refl, sym, ap, ◌∙◌}
use Rattle.std.proofs.lemmas.List.{length-map}
use Rattle.c_syntax.specs.View.{decl_of, decls_of}
use Rattle.c_syntax.specs.declared.tree.Decl.{Decl}
use Rattle.c_helpers.specs.Terms.{declaration}
use Rattle.c_helpers.specs.Functions.{arguments_from, argument_name, conversion_type}
use Rattle.c_format_terms.proofs.ConversionLemmas.{drop_byte}
use Rattle.c_format_terms.proofs.RowLemmas.{put_as}
use Rattle.c_format_terms.proofs.PieceLemmas.{parameter_more, all_parameters}
use Rattle.c_format_terms.proofs.parameters.parameters.Goals as goal

pub loop-letter-init : goal.loop-letter-init
loop-letter-init c = ap (λ (l : List Decl). decls_of l ++ arguments_from (length (decls_of l)) c.args.letters.now) c.new-items.ensures.items

pub loop-letter-preserved : goal.loop-letter-preserved
loop-letter-preserved c =
    let letters = c.args.letters.now in
    let i = c.loop-letter.letter-index in
    let old = c.loop-letter.items.items in
    let letter = get_or letters i 0 in
    parameter_more (decls_of old) (decls_of c.push.new.self.items) (decl_of c.in_ok-item.item) letter (drop (i + 1) letters)
    (put_as decl_of old c.push.new.self.items c.in_ok-item.item (decl_of c.in_ok-item.item) c.in_ok-push.ensures.items refl)
    (c.in_ok-item.ensures ∙ ap (λ (n : ℕ). declaration (conversion_type letter) (argument_name n)) (c.len-index.ensures ∙ (c.loop-letter.items.ok.0 ∙ sym (length-map old decl_of))))
    ∙ (sym (ap (λ (l : List ℕ). decls_of old ++ arguments_from (length (decls_of old)) l) (drop_byte letters i c.loop-letter-test.true)) ∙ c.loop-letter.invariant)

pub returns : goal.returns
returns c =
    let l = c.loop-letter in
    all_parameters (decls_of l.items.items) (arguments_from 0 c.args.letters.now) c.args.letters.now l.letter-index (length (decls_of l.items.items)) c.loop-letter-test.false l.invariant
