use Rattle.std.proofs.Common.{◌++◌, ◌-◌, ◌+◌, ◌∷◌, [], ap, sym, ◌∙◌, append_assoc}
use Rattle.bf_tape.specs.Code.{many}
use Rattle.bf_tape.proofs.Added.{many_more}
use Rattle.bf_tape.proofs.code.put_many.Goals as goal

pub loop-preserved : goal.loop-preserved
loop-preserved c =
    let k = c.loop.counter in
    let rest = many (c.args.count - (k + 1)) c.args.command in
    ap (λ xs. xs ++ rest) c.in_ok-push.ensures.items
    ∙ (append_assoc c.loop.code.items (c.args.command ∷ []) rest
    ∙ (ap (λ ys. c.loop.code.items ++ ys) (sym (many_more c.args.count k c.args.command c.loop-test.true)) ∙ c.loop.invariant))
