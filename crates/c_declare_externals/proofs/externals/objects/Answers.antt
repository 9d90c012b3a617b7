use Rattle.std.proofs.Common.{◌≡◌, ◌∷◌, ◌++◌, map, ap, ◌∙◌}
use Rattle.c_syntax.specs.Plain as plain
use Rattle.c_syntax.specs.Plain.{CTy}
use Rattle.c_grammar.specs.Tree.{act, all_declared, several}
use Rattle.c_held.specs.View.{means, all_of}
use Rattle.c_held_rows.proofs.Functions.{items_same}
use Rattle.c_declare_externals.proofs.externals.objects.Goals as goal

pub returns : goal.returns
unfolding act
returns c = λ semi.
    let others : (b : CTy) → all_of c.push_declared.new.all.items b ≡ all_declared b (several (means c.args.others.now)) = λ b. c.in_ok-push_declared.ensures b ∙ ap (λ z. all_of z b ++ all_declared b (several (means c.args.others.now))) c.new-all.ensures.items in
    items_same _ _ (λ b t i. plain.Object (c.first_object-first.ensures t i) ∷ map plain.Object (others b i))
