use Rattle.std.proofs.Common.{◌≡◌, ℕ, List, ◌++◌, length, sym, ap, subst, ◌∙◌, arith}
use Rattle.word24.specs.declared.word.Word.{Word}
use Rattle.c_syntax.specs.View.{unit_of}
use Rattle.c_eval.specs.Text.{text_of, file_start}
use Rattle.c_types.specs.Table.{texts}
use Rattle.c_lowered.specs.Whole.{file_literals, words_from, all_letters, literals_of}
use Rattle.c_lower_data.specs.Letters.{AreAddresses}
use Rattle.c_lower.specs.Scopes.{literal_start}
use Rattle.c_lower.proofs.ScopeLemmas.{letters_are, many_words, end_told}
use Rattle.c_lower.proofs.scope.file_scope.Goals as goal

pub returns : goal.returns
returns c = λ end typed bodies.
    let u = unit_of c.args.unit.now in
    let own = file_literals u.items (file_start u) in
    let file : texts c.as_slice-file.result.now ≡ own = ap texts c.as_slice-file.ensures.value ∙ c.in_ok-texts.ensures end typed in
    let words : c.in_ok-words.words.items ≡ words_from (all_letters (literals_of u)) =
    c.in_ok-words.ensures ∙ ap words_from (letters_are (texts c.as_slice-file.result.now) (texts c.args.bodies.now) own (text_of u).functions file bodies) in
    let long : length c.in_ok-words.words.items ≡ length (all_letters (literals_of u)) = ap (λ (l : List Word). length l) words ∙ many_words (all_letters (literals_of u)) in
    let count : c.len-count.result ≡ length (all_letters (literals_of u)) = omega (arith, long, c.len-count.ensures, c.in_ok-words.words.ok.0) in
    let knows = c.in_ok-places.ensures end typed count in
    let adds = c.in_ok-first.ensures (literal_start u) knows.literals_at in
    let more : c.as_slice-own.result.now ≡ adds.more = c.as_slice-own.ensures.value ∙ (adds.behind ∙ ap (λ (l : List ℕ). l ++ adds.more) c.new-addresses.ensures.items) in
    let are = subst (λ (l : List (List ℕ)). AreAddresses adds.more c.in_ok-first.first (literal_start u) l) file adds.are in
    let lie = subst (λ (l : List ℕ). AreAddresses l c.in_ok-first.first (literal_start u) own) (sym more) are in
    c.placed_scope.ensures end typed knows lie (end_told adds.more c.in_ok-first.first (literal_start u) own are) (c.as_slice-all.ensures.value ∙ words)
