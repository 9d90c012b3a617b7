use Rattle.std.proofs.Common.{◌≡◌, ◌<◌, ◌≤◌, ◌+◌, ◌-◌, ℕ, List, [], ◌∷◌, map, drop, get_or, length, Option, Some, None, refl, sym, ap, subst, ◌∙◌, arith}
use Rattle.std.specs.Prelude.{Result, Ok, Err, IfOk}
use Rattle.std.proofs.lemmas.List.{drop_all}
use Rattle.c_syntax.specs.View.{decl_of, decls_of}
use Rattle.c_syntax.specs.declared.tree.Decl.{Decl}
use Rattle.c_types.specs.Units as plain
use Rattle.c_types.specs.Census.{decl_sum, parameters_sum}
use Rattle.c_expressions.proofs.GoingLemmas.{drop_at}
use Rattle.c_census.specs.Sums.{parameters_behind}
use Rattle.c_census.proofs.MovedLemmas.{moved_some}
use Rattle.c_census.proofs.GoingLemmas.{begun, goes_on, done}
use Rattle.c_census.proofs.members.count_parameters.Goals as goal

pub loop-p-init : goal.loop-p-init
loop-p-init c =
    let items = c.args.all.now.items.items in
    begun c.args.types.now c.args.declared.now c.nothing-sum.result (λ s k. parameters_sum k s (decls_of items)) (λ s. parameters_behind s (decls_of items)) c.nothing-sum.ensures

pub count_parameter-requires : goal.count_parameter-requires
count_parameter-requires c =
    let g = c.loop-p.invariant in
    moved_some c.args.types.now c.loop-p.types c.args.declared.now c.loop-p.declared c.loop-p.sum g.taken g.here g.are c.requires

pub loop-p-preserved : goal.loop-p-preserved
loop-p-preserved c =
    let items = c.args.all.now.items.items in
    let i = c.loop-p.p-index in
    let x = c.p-item.result in
    let within : i < length items = subst (λ (l : List Decl). i < length l) c.deref-p-items.ensures.value c.loop-p-test.true in
    let next : x ≡ get_or items i x = subst (λ (l : List Decl). x ≡ get_or l i x) c.deref-p-items.ensures.value c.p-item.is in
    goes_on c.args.types.now c.loop-p.types c.count_parameter.new.types c.args.declared.now c.loop-p.declared c.count_parameter.new.declared c.loop-p.sum c.in_ok-next.next c.plus-sum.result
    (λ s k. parameters_sum k s (decls_of (drop i items))) (λ s k. parameters_sum k s (decls_of (drop (i + 1) items))) (λ s k. parameters_sum k s (decls_of items)) (λ s k. decl_sum k s (decl_of x) (plain.declared_parameter s (decl_of x)))
    (λ s. parameters_behind s (decls_of (drop i items))) (λ s. parameters_behind s (decls_of (drop (i + 1) items))) (λ s. parameters_behind s (decls_of items)) (λ s. plain.parameter_scope_or s (plain.parameter s (decl_of x)))
    c.loop-p.invariant c.in_ok-next.ensures c.plus-sum.ensures (λ s k. ap (λ (l : List Decl). parameters_sum k s (decls_of l)) (drop_at items i x within next)) (λ s. ap (λ (l : List Decl). parameters_behind s (decls_of l)) (drop_at items i x within next))

pub returns : goal.returns
returns c =
    let items = c.args.all.now.items.items in
    let i = c.loop-p.p-index in
    let past : length items ≤ i = subst (λ (l : List Decl). length l ≤ i) c.deref-p-items.ensures.value c.loop-p-test.false in
    done c.args.types.now c.loop-p.types c.args.declared.now c.loop-p.declared c.loop-p.sum (λ s k. parameters_sum k s (decls_of (drop i items))) (λ s k. parameters_sum k s (decls_of items))
    (λ s. parameters_behind s (decls_of (drop i items))) (λ s. parameters_behind s (decls_of items)) c.loop-p.invariant
    (λ s k. ap (λ (l : List Decl). parameters_sum k s (decls_of l)) (drop_all i items past)) (λ s. ap (λ (l : List Decl). parameters_behind s (decls_of l)) (drop_all i items past))
