use Rattle.std.proofs.Common.{◌≡◌, ◌<◌, ◌≤◌, get_or, List, length, subst}
use Rattle.c_syntax.specs.View.{decls_of}
use Rattle.c_syntax.specs.declared.tree.Decl.{Decl}
use Rattle.c_declared.proofs.HeldLemmas.{holds_kept}
use Rattle.c_declarations.proofs.MemberGoing.{begun, goes_on, done, drop_at}
use Rattle.c_declarations.proofs.members.judge_members.Goals as goal

pub loop-m-init : goal.loop-m-init
loop-m-init c = begun c.args.types.now c.args.declared.now c.new-members.result (decls_of c.args.all.now.items.items) c.new-members.ensures

pub add-requires : goal.add-requires
add-requires c =
    let h = c.requires in
    let g = c.loop-m.invariant in
    (h.0, holds_kept c.args.types.now c.loop-m.types c.args.declared.now h.0 g.grows g.tags h.1)

pub loop-m-preserved : goal.loop-m-preserved
loop-m-preserved c =
    let items = c.args.all.now.items.items in
    let i = c.loop-m.m-index in
    let within : i < length items = subst (λ (l : List Decl). i < length l) c.deref-m-items.ensures.value c.loop-m-test.true in
    let next : c.m-item.result ≡ get_or items i c.m-item.result = subst (λ (l : List Decl). c.m-item.result ≡ get_or l i c.m-item.result) c.deref-m-items.ensures.value c.m-item.is in
    goes_on c.args.types.now c.loop-m.types c.add.new.types c.args.declared.now c.loop-m.members c.add.new.self c.loop-m.told c.in_ok-refusal.refusal c.merged-told.result items i c.m-item.result (decls_of items)
    c.loop-m.invariant (drop_at items i c.m-item.result within next) c.in_ok-refusal.ensures.told c.in_ok-refusal.ensures.are c.in_ok-refusal.ensures.grows c.in_ok-refusal.ensures.tags c.merged-told.ensures

pub returns-clause-judged : goal.returns-clause-judged
returns-clause-judged c = λ s holds.
    let items = c.args.all.now.items.items in
    let past : length items ≤ c.loop-m.m-index = subst (λ (l : List Decl). length l ≤ c.loop-m.m-index) c.deref-m-items.ensures.value c.loop-m-test.false in
    done c.args.types.now c.loop-m.types c.args.declared.now c.loop-m.members c.loop-m.told items c.loop-m.m-index (decls_of items) c.closed.result s c.loop-m.invariant past holds c.closed.ensures
