use Rattle.std.proofs.Common.{◌≡◌, ◌<◌, ◌≤◌, get_or, List, length, subst}
use Rattle.c_syntax.specs.View.{decls_of}
use Rattle.c_syntax.specs.declared.tree.Decl.{Decl}
use Rattle.c_signatures.proofs.GoingLemmas.{goes_on, done, drop_at}
use Rattle.c_signatures.proofs.parameters.judge_parameters.Goals as goal

pub add-requires : goal.add-requires
add-requires c =
    let h = c.requires in
    let k = c.loop-p.invariant.so_far h.0 h.1 in
    (k.scope, k.holds)

pub loop-p-preserved : goal.loop-p-preserved
loop-p-preserved c =
    let items = c.args.all.now.items.items in
    let i = c.loop-p.p-index in
    let within : i < length items = subst (λ (l : List Decl). i < length l) c.deref-p-items.ensures.value c.loop-p-test.true in
    let next : c.p-item.result ≡ get_or items i c.p-item.result = subst (λ (l : List Decl). c.p-item.result ≡ get_or l i c.p-item.result) c.deref-p-items.ensures.value c.p-item.is in
    goes_on c.args.types.now c.loop-p.types c.add.new.types c.args.declared.now c.loop-p.declared c.add.new.declared c.loop-p.parameters.items c.add.new.parameters.items c.loop-p.told c.in_ok-refusal.refusal c.merged-told.result items i c.p-item.result (decls_of items)
    c.loop-p.invariant (drop_at items i c.p-item.result within next) c.in_ok-refusal.ensures.added c.in_ok-refusal.ensures.grows c.in_ok-refusal.ensures.tags c.in_ok-refusal.ensures.around c.merged-told.ensures

pub returns-clause-judged : goal.returns-clause-judged
returns-clause-judged c = λ s holds.
    let items = c.args.all.now.items.items in
    let past : length items ≤ c.loop-p.p-index = subst (λ (l : List Decl). length l ≤ c.loop-p.p-index) c.deref-p-items.ensures.value c.loop-p-test.false in
    done c.args.types.now c.loop-p.types c.args.declared.now c.loop-p.declared c.loop-p.parameters c.loop-p.told items c.loop-p.p-index (decls_of items) c.judged.result s c.loop-p.invariant past holds c.judged.ensures.ok c.judged.ensures.err
