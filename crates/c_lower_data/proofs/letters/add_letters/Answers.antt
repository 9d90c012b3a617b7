use Rattle.std.proofs.Common.{ℕ, ◌+◌, List, [], get_or, drop, refl}
use denote.Ref.{Bor}
use Rattle.std.proofs.lemmas.List.{drop_all}
use Rattle.c_lower_data.proofs.LetterLemmas.{drop_text, one_lettered, all_lettered}
use Rattle.c_lower_data.proofs.letters.add_letters.Goals as goal

pub loop-text-init : goal.loop-text-init
loop-text-init c = record { whole = refl }

pub loop-text-preserved : goal.loop-text-preserved
loop-text-preserved c =
    let all = c.args.literals.now in
    let i = c.loop-text.text-index in
    let none : Bor (List ℕ) = record { ref_ptr = (0, 0); now = [] } in
    let x = get_or all i none in
    one_lettered c.args.words.now.items c.loop-text.words.items c.add_text.new.words.items all (drop i all) x (drop (i + 1) all) c.loop-text.invariant (drop_text all i none c.loop-text-test.true) c.in_ok-add_text.ensures

pub returns : goal.returns
returns c =
    let all = c.args.literals.now in
    let i = c.loop-text.text-index in
    all_lettered c.args.words.now.items c.loop-text.words.items all (drop i all) c.loop-text.invariant (drop_all i all c.loop-text-test.false)
