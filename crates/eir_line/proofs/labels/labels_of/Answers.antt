use Rattle.std.proofs.Common.{◌≡◌, ◌++◌, ◌∷◌, [], List, ℕ, Bor, length, map, ap, sym, ◌∙◌}
use Rattle.std.proofs.lemmas.List.{map_push}
use Rattle.eir_line.specs.Grammar.{label_at, labels_at}
use Rattle.eir_line.proofs.Loops.{next_label, no_label, all_labels}
use Rattle.eir_line.proofs.labels.labels_of.Goals as goal

pub returns-in-None : goal.returns-in-None
returns-in-None c = no_label (map (λ name. name.now) c.loop.labels.items) (length c.args.line.now) c.loop.counter c.loop.rest.now (labels_at (length c.args.line.now) c.args.line.now) c.loop-test.true (ap label_at (sym c.past_blanks.ensures) ∙ c.in-None.ensures) c.loop.invariant

pub loop-preserved : goal.loop-preserved
loop-preserved c =
    let name = c.in-Some.name in
    let e : map (λ (n : Bor (List ℕ)). n.now) c.push.new.self.items ≡ map (λ (n : Bor (List ℕ)). n.now) c.loop.labels.items ++ name.now ∷ [] = rw c.in_ok-push-in-Some.ensures.items (map_push _ c.loop.labels.items name) in
    rw e (next_label (map (λ (n : Bor (List ℕ)). n.now) c.loop.labels.items) (length c.args.line.now) c.loop.counter c.loop.rest.now name.now c.in-Some.after.now (labels_at (length c.args.line.now) c.args.line.now) c.loop-test.true (ap label_at (sym c.past_blanks.ensures) ∙ c.in-Some.ensures) c.loop.invariant)

pub returns : goal.returns
returns c = all_labels (map (λ name. name.now) c.loop.labels.items) (length c.args.line.now) c.loop.counter c.loop.rest.now (labels_at (length c.args.line.now) c.args.line.now) c.loop-test.false c.loop.invariant
