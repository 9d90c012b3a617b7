use Rattle.std.proofs.Common.{◌≡◌, ◌<◌, ◌≤◌, ◌+◌, List, map, drop, get_or, length, ap, subst}
use Rattle.std.proofs.lemmas.List.{drop_all}
use Rattle.c_syntax.specs.Plain.{stmts}
use Rattle.c_syntax.specs.View.{stmt_of}
use Rattle.c_syntax.specs.declared.tree.Stmt.{Stmt}
use Rattle.c_counted.specs.Rows.{stmts_of}
use Rattle.c_counted.proofs.RowLemmas.{drop_at}
use Rattle.c_lower_blocks.proofs.LaidLemmas.{placing_begun, placing_more, placing_done}
use Rattle.c_lower_blocks.proofs.places.place_all.Goals as goal

pub loop-t-init : goal.loop-t-init
loop-t-init c = placing_begun c.args.out.now c.args.here.now c.args.free (stmts_of c.args.all.now) c.requires

pub place_statement-requires : goal.place_statement-requires
place_statement-requires c = c.loop-t.invariant.places.holds

pub loop-t-preserved : goal.loop-t-preserved
loop-t-preserved c =
    let l = c.loop-t in
    let items = c.args.all.now.items.items in
    let i = l.t-index in
    let next = c.t-item.result in
    let within : i < length items = subst (λ (x : List Stmt). i < length x) c.deref-t-items.ensures.value c.loop-t-test.true in
    let there : next ≡ get_or items i next = subst (λ (x : List Stmt). next ≡ get_or x i next) c.deref-t-items.ensures.value c.t-item.is in
    placing_more c.args.out.now l.out c.place_statement.new.out c.args.here.now l.here c.place_statement.new.here c.args.free l.behind c.in_ok-behind.behind (stmts (map stmt_of (drop i items))) (stmts (map stmt_of (drop (i + 1) items)))
    (stmts_of c.args.all.now) (stmt_of next) (ap (λ (x : List Stmt). stmts (map stmt_of x)) (drop_at items i next within there)) l.invariant c.in_ok-behind.ensures.places c.in_ok-behind.ensures.still

pub returns-clause-places : goal.returns-clause-places
returns-clause-places c =
    let l = c.loop-t in
    let items = c.args.all.now.items.items in
    let past : length items ≤ l.t-index = subst (λ (x : List Stmt). length x ≤ l.t-index) c.deref-t-items.ensures.value c.loop-t-test.false in
    placing_done c.args.out.now l.out c.args.here.now l.here c.args.free l.behind (stmts (map stmt_of (drop l.t-index items))) (stmts_of c.args.all.now) (ap (λ (x : List Stmt). stmts (map stmt_of x)) (drop_all l.t-index items past)) l.invariant

pub returns-clause-still : goal.returns-clause-still
returns-clause-still c = c.loop-t.invariant.still
