use Rattle.std.proofs.Common.{◌≡◌, ℕ, List, [], ◌∷◌, ◌++◌, Option, Some, sym, ap, subst, ◌∙◌}
use Rattle.std.proofs.lemmas.List.{map-append}
use Rattle.c_syntax.specs.declared.tree.Expr.{Expr}
use Rattle.c_syntax.specs.Plain as tree
use Rattle.c_syntax.specs.View.{maybe}
use Rattle.c_code.specs.Code as code
use Rattle.c_code.specs.Code.{label_of}
use Rattle.c_aside.specs.Cases as aside
use Rattle.c_aside.specs.Cases.{labels_of}
use Rattle.c_flat.proofs.labels.add_label.Goals as goal

pub returns-in_ok-push-in-Some-clause-labels : goal.returns-in_ok-push-in-Some-clause-labels
returns-in_ok-push-in-Some-clause-labels c = λ env pos fits.
    let before = c.args.labels.now.items in
    let at = c.args.at in
    subst (λ (o : Option Expr). labels_of c.push.new.self.items ≡ labels_of before ++ label_of (tree.Label pos (maybe o)) env at) (sym c.in-Some.is)
    (ap labels_of c.in_ok-push-in-Some.ensures.items ∙ (map-append aside.label_of before _
    ∙ ap (λ (n : ℕ). labels_of before ++ record { word = Some n; at = at } ∷ []) (c.in_ok-word-in-Some.ensures.word env.scope fits)))

pub returns-in_ok-push-in-None-clause-labels : goal.returns-in_ok-push-in-None-clause-labels
returns-in_ok-push-in-None-clause-labels c = λ env pos fits.
    let before = c.args.labels.now.items in
    let at = c.args.at in
    subst (λ (o : Option Expr). labels_of c.push-in-None.new.self.items ≡ labels_of before ++ label_of (tree.Label pos (maybe o)) env at) (sym c.in-None.is)
    (ap labels_of c.in_ok-push-in-None.ensures.items ∙ map-append aside.label_of before _)
