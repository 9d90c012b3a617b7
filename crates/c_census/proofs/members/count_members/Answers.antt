use Rattle.std.proofs.Common.{◌≡◌, ◌<◌, ◌≤◌, ◌+◌, ◌-◌, ℕ, List, [], ◌∷◌, map, drop, get_or, length, Option, Some, None, refl, sym, ap, subst, ◌∙◌, arith}
use Rattle.std.specs.Prelude.{Result, Ok, Err, IfOk}
use Rattle.std.proofs.lemmas.List.{drop_all}
use Rattle.c_syntax.specs.View.{ty_of, decl_of, decls_of}
use Rattle.c_syntax.specs.declared.tree.Decl.{Decl}
use Rattle.c_types.specs.Expressions.{written}
use Rattle.c_types.specs.Census.{decl_sum, members_sum}
use Rattle.c_declared.proofs.HeldLemmas.{held_kept}
use Rattle.c_expressions.proofs.GoingLemmas.{drop_at}
use Rattle.c_weights.proofs.GoingLemmas.{begun, goes_on, done}
use Rattle.c_census.proofs.members.count_members.Goals as goal

pub loop-m-init : goal.loop-m-init
loop-m-init c =
    let items = c.args.all.now.items.items in
    begun c.args.types.now c.args.declared.now c.nothing-sum.result (λ s k. members_sum k s (decls_of items)) (λ s k. members_sum k s (decls_of items)) c.nothing-sum.ensures (λ s k. refl)

pub count_member-requires : goal.count_member-requires
count_member-requires c =
    let g = c.loop-m.invariant.are in
    held_kept c.args.types.now c.loop-m.types c.args.declared.now g.grows g.tags c.requires

pub loop-m-preserved : goal.loop-m-preserved
loop-m-preserved c =
    let items = c.args.all.now.items.items in
    let i = c.loop-m.m-index in
    let x = c.m-item.result in
    let within : i < length items = subst (λ (l : List Decl). i < length l) c.deref-m-items.ensures.value c.loop-m-test.true in
    let next : x ≡ get_or items i x = subst (λ (l : List Decl). x ≡ get_or l i x) c.deref-m-items.ensures.value c.m-item.is in
    goes_on c.args.types.now c.loop-m.types c.count_member.new.types c.args.declared.now c.loop-m.sum c.in_ok-next.next c.plus-sum.result (λ s k. members_sum k s (decls_of (drop i items))) (λ s k. members_sum k s (decls_of (drop (i + 1) items))) (λ s k. members_sum k s (decls_of items)) (λ s k. decl_sum k s (decl_of x) (written s x.pos (ty_of x.ty)))
    c.loop-m.invariant c.in_ok-next.ensures c.plus-sum.ensures (λ s k. ap (λ (l : List Decl). members_sum k s (decls_of l)) (drop_at items i x within next))

pub returns : goal.returns
returns c =
    let items = c.args.all.now.items.items in
    let i = c.loop-m.m-index in
    let past : length items ≤ i = subst (λ (l : List Decl). length l ≤ i) c.deref-m-items.ensures.value c.loop-m-test.false in
    done c.args.types.now c.loop-m.types c.args.declared.now c.loop-m.sum (λ s k. members_sum k s (decls_of (drop i items))) (λ s k. members_sum k s (decls_of items)) c.loop-m.invariant (λ s k. ap (λ (l : List Decl). members_sum k s (decls_of l)) (drop_all i items past))
