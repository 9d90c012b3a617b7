use Rattle.std.proofs.Common.{◌≡◌, ◌<◌, [], ◌∷◌, ◌++◌, length, get_or, ap, ◌∙◌, arith}
use Rattle.eir_text.specs.Spells.{wrapped}
use Rattle.eir_text.proofs.Steps.{drop_here}
use Rattle.eir_text.proofs.StepLemmas.{bytes_step}
use Rattle.eir_text.proofs.data.push_bytes.Goals as goal

pub loop-b-preserved : goal.loop-b-preserved
loop-b-preserved c =
    let b = get_or c.args.bytes.now c.loop-b.b-index 0 in
    let inside : c.loop-b.b-index < length c.args.bytes.now = omega arith in
    let is : c.wrapped.result ≡ wrapped b = c.wrapped.ensures ∙ ap wrapped c.from.ensures in
    bytes_step c.args.bytes.now c.loop-b.b-index b c.loop-b.words.items c.push.new.self.items _ (drop_here c.args.bytes.now c.loop-b.b-index 0 inside)
    (c.in_ok-push.ensures.items ∙ ap (λ w. c.loop-b.words.items ++ w ∷ []) is) c.loop-b.invariant
