-- Statements that are judged one after the other.
use Rattle.std.proofs.Common.{◌≡◌, ℕ, suc, ◌+◌, ◌<◌, ◌≤◌, get_or, add-one, drop-cons, List, ◌∷◌, length, map, drop, Option, Some, None, refl, sym, ap, subst, ◌∙◌}
use Rattle.std.specs.Prelude.{Ok}
use Rattle.std.specs.Result.{result_err}
use Rattle.std.proofs.lemmas.List.{drop_all}
use Rattle.c_syntax.specs.Plain.{CStmts, stmts}
use Rattle.c_syntax.specs.View.{stmt_of}
use Rattle.c_syntax.specs.declared.tree.Stmt.{Stmt}
use Rattle.c_types.specs.declared.fault.TypeFault.{TypeFault}
use Rattle.c_types.specs.Scope.{Scope}
use Rattle.c_types.specs.Declarations.{scope_or}
use Rattle.c_types.specs.Statements as plain
use Rattle.c_types.specs.Statements.{stated, all_stated}
use Rattle.c_types.specs.Known.{OneType, Grows}
use Rattle.c_types.specs.Table.{Table, known}
use Rattle.c_operands.proofs.OperandLemmas.{grows_then}
use Rattle.c_operands.specs.Arguments.{merged}
use Rattle.c_operands.proofs.LeastLemmas.{merged_none}
use Rattle.c_operands.specs.declared.declarations.Declarations.{Declarations}
use Rattle.c_declared.specs.Held.{Holds, IsAround}
use Rattle.c_declared.specs.Told.{told_behind}
use Rattle.c_declared.proofs.ToldLemmas.{one_behind, behind_refused, behind_together}
use Rattle.c_conditions.specs.declared.around.Around.{Around}
use Rattle.c_conditions.specs.Standing.{StandsIn}

pub around_then : (c d e : Declarations) → IsAround c d → IsAround d e → IsAround c e
around_then c d e f g = record { outer = g.outer ∙ f.outer; layouts = g.layouts ∙ f.layouts; defined = g.defined ∙ f.defined }

pub unchanged : (d : Declarations) → IsAround d d
unchanged d = record { outer = refl; layouts = refl; defined = refl }

pub stands_kept : (old new : Table) (a : Around) (w : plain.Around) → Grows (known old) (known new) → StandsIn old a w → StandsIn new a w
stands_kept old new a w grows h = record { result = grows a.result (OneType w.result) h.result; continues = h.continues; breaks = h.breaks }

-- what is told of the first statements, and the scope behind them
pub record IsBehind (table : Table) (d : Declarations) (told : Option TypeFault) (s : Scope) (w : plain.Around) (left all : CStmts) : Type 0 where
  pub scope : Scope
  pub holds : Holds table d scope
  pub is : all_stated s w all ≡ told_behind told (all_stated scope w left)

pub record Going (t0 t1 : Table) (c d : Declarations) (a : Around) (told : Option TypeFault) (left all : CStmts) : Type 0 where
  pub grows : Grows (known t0) (known t1)
  pub tags : t1.tags ≡ t0.tags
  pub around : IsAround c d
  pub so_far : (s : Scope) (w : plain.Around) → Holds t0 c s → StandsIn t0 a w → IsBehind t1 d told s w left all

pub begun : (table : Table) (d : Declarations) (a : Around) (all : CStmts) → Going table table d d a None all all
begun table d a all = record {
  grows = λ n k h. h;
  tags = refl;
  around = unchanged d;
  so_far = λ s w holds stands. record { scope = s; holds = holds; is = refl };
}

-- a statement and those behind it
one_more : (told fault : Option TypeFault) (s r : Scope) (w : plain.Around) (t : Stmt) (ts : List Stmt) (all : CStmts)
    → all_stated s w all ≡ told_behind told (all_stated r w (stmts (map stmt_of (t ∷ ts)))) → fault ≡ result_err (stated r w (stmt_of t))
    → all_stated s w all ≡ told_behind (merged told fault) (all_stated (scope_or r (stated r w (stmt_of t))) w (stmts (map stmt_of ts)))
one_more told fault s r w t ts all h e =
    let p = stated r w (stmt_of t) in
    let others = all_stated (scope_or r p) w (stmts (map stmt_of ts)) in
    h ∙ (ap (told_behind told) (one_behind p others) ∙ (behind_together told (result_err p) others ∙ ap (λ (o : Option TypeFault). told_behind (merged told o) others) (sym e)))

pub goes_on : (t0 t1 t2 : Table) (c d e : Declarations) (a : Around) (told fault next : Option TypeFault) (items : List Stmt) (i : ℕ) (t : Stmt) (all : CStmts)
    → Going t0 t1 c d a told (stmts (map stmt_of (drop i items))) all → drop i items ≡ t ∷ drop (i + 1) items
    → ((s : Scope) (w : plain.Around) → Holds t1 d s → StandsIn t1 a w → fault ≡ result_err (stated s w (stmt_of t)))
    → ((s : Scope) (w : plain.Around) → Holds t1 d s → StandsIn t1 a w → Holds t2 e (scope_or s (stated s w (stmt_of t))))
    → Grows (known t1) (known t2) → t2.tags ≡ t1.tags → IsAround d e → next ≡ merged told fault
    → Going t0 t2 c e a next (stmts (map stmt_of (drop (i + 1) items))) all
goes_on t0 t1 t2 c d e a told fault next items i t all g cut judge holds more same around is = record {
  grows = grows_then (known t0) (known t1) (known t2) g.grows more;
  tags = same ∙ g.tags;
  around = around_then c d e g.around around;
  so_far = λ s w h stands.
      let k = g.so_far s w h stands in
      let at = stands_kept t0 t1 a w g.grows stands in
      record {
        scope = scope_or k.scope (stated k.scope w (stmt_of t));
        holds = holds k.scope w k.holds at;
        is =
            one_more told fault s k.scope w t (drop (i + 1) items) all
            (k.is ∙ ap (λ (l : List Stmt). told_behind told (all_stated k.scope w (stmts (map stmt_of l)))) cut) (judge k.scope w k.holds at)
            ∙ ap (λ (o : Option TypeFault). told_behind o (all_stated (scope_or k.scope (stated k.scope w (stmt_of t))) w (stmts (map stmt_of (drop (i + 1) items))))) (sym is);
      };
}

ends : (table : Table) (d : Declarations) (told : Option TypeFault) (s : Scope) (w : plain.Around) (items : List Stmt) (i : ℕ) (all : CStmts)
    → (k : IsBehind table d told s w (stmts (map stmt_of (drop i items))) all) → length items ≤ i → all_stated s w all ≡ told_behind told (Ok k.scope)
ends table d told s w items i all k past = k.is ∙ ap (λ (l : List Stmt). told_behind told (all_stated k.scope w (stmts (map stmt_of l)))) (drop_all i items past)

pub told_all : (table : Table) (d : Declarations) (told : Option TypeFault) (s : Scope) (w : plain.Around) (items : List Stmt) (i : ℕ) (all : CStmts)
    → IsBehind table d told s w (stmts (map stmt_of (drop i items))) all → length items ≤ i → told ≡ result_err (all_stated s w all)
told_all table d told s w items i all k past = sym (ap result_err (ends table d told s w items i all k past) ∙ (behind_refused told (Ok k.scope) ∙ merged_none told))

same_scope : (told : Option TypeFault) (r inner : Scope) → told_behind told (Ok r) ≡ Ok inner → r ≡ inner
same_scope None r inner h = cc
same_scope (Some e) r inner h = cc

pub scope_all : (table : Table) (d : Declarations) (told : Option TypeFault) (s inner : Scope) (w : plain.Around) (items : List Stmt) (i : ℕ) (all : CStmts)
    → IsBehind table d told s w (stmts (map stmt_of (drop i items))) all → length items ≤ i → all_stated s w all ≡ Ok inner → Holds table d inner
scope_all table d told s inner w items i all k past e =
    subst (λ (r : Scope). Holds table d r) (same_scope told k.scope inner (sym (ends table d told s w items i all k past) ∙ e)) k.holds

-- what is left of a list begins with the element that comes next
pub drop_at : {X : Type 0} (xs : List X) (i : ℕ) (x : X) → i < length xs → x ≡ get_or xs i x → drop i xs ≡ x ∷ drop (i + 1) xs
drop_at xs i x h e = rw (add-one, drop-cons xs i x) (ap (λ y. y ∷ drop (suc i) xs) (sym e))
