use Rattle.std.proofs.Common.{◌≡◌, ℕ, true, false, List, length, map, ap, subst, ◌∙◌}
use Rattle.c_syntax.specs.View.{item_of, unit_of}
use Rattle.c_syntax.specs.declared.tree.Item.{Item}
use Rattle.c_eval.specs.Text.{text_of}
use Rattle.c_resolved.specs.Same.{lengths_of}
use Rattle.c_lowered.specs.Whole.{firsts_given, words_given, all_letters, literals_of, data_end}
use Rattle.c_counted.specs.Numbers.{IsNumber}
use Rattle.c_applied.proofs.LeadsLemmas.{same_number}
use Rattle.c_lower.specs.Scopes.{literal_start}
use Rattle.c_lower.proofs.ScopeLemmas.{told_words, told_bases, one_before}
use Rattle.c_lower.proofs.scope.bases_of.Goals as goal

pub returns : goal.returns
returns c = λ end typed count.
    let u = unit_of c.args.unit.now in
    let gs = c.as_slice-firsts.result.now in
    let ns = c.as_slice-all.result.now in
    let hs = firsts_given u.items in
    let os = (text_of u).objects in
    let given : gs ≡ hs = c.as_slice-firsts.ensures.value ∙ (c.in_ok-given.ensures ∙ ap (λ (l : List Item). firsts_given (map item_of l)) c.as_slice-items.ensures.value) in
    let sizes : ns ≡ lengths_of os = c.as_slice-all.ensures.value ∙ c.in_ok-sizes.ensures end typed in
    let mine = told_words c.words_given-mine.result true gs hs ns os given sizes c.words_given-mine.ensures in
    let rest = told_words c.words_given-rest.result false gs hs ns os given sizes c.words_given-rest.ensures in
    let literals = one_before c.next-literals.result (words_given true hs os) (c.next-literals.ensures (words_given true hs os) mine) in
    let many = subst (λ (n : ℕ). IsNumber c.low-count.result n) count c.low-count.ensures in
    let last = c.plus-end.ensures (literal_start u) (length (all_letters (literals_of u))) literals many in
    record {
      bases_are = told_bases c.in_ok-bases.bases.items gs hs ns os 1 (data_end u) given sizes (c.in_ok-bases.ensures 1 (data_end u) (record { given_at = same_number 1; other_at = last }));
      literals_at = literals;
      frames_at = c.plus-frames.ensures (data_end u) (words_given false hs os) last rest;
    }
