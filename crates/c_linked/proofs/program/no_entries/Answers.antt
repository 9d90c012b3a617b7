use Rattle.std.proofs.Common.{◌≡◌, ℕ, None, Option, List, ◌∷◌, [], ◌++◌, ap, ◌∙◌, subst, arith}
use Rattle.std.specs.Prelude.{replicate}
use Rattle.c_plain.specs.declared.code.Entry.{Entry}
use Rattle.c_linked.proofs.EntryLemmas.{one_empty}
use Rattle.c_linked.proofs.program.no_entries.Goals as goal

pub loop-index-preserved : goal.loop-index-preserved
loop-index-preserved c =
    c.in_ok-push.ensures.items ∙ (ap (λ (l : List (Option Entry)). l ++ None ∷ []) c.loop-index.invariant ∙ one_empty c.loop-index._index None)

pub returns : goal.returns
returns c =
    let n : c.loop-index._index ≡ c.args.count = omega (arith, c.loop-index.auto._index-end, c.loop-index-test.false) in
    subst (λ (k : ℕ). c.loop-index.table.items ≡ replicate k None) n c.loop-index.invariant
