-- Statements and parts that are made anew one after the other.
use Rattle.std.proofs.Common.{◌≡◌, ◌≤◌, ◌+◌, ℕ, List, [], ◌∷◌, ◌++◌, length, map, drop, refl, sym, ap, subst, ◌∙◌}
use Rattle.std.proofs.lemmas.List.{drop_all, map-append}
use Rattle.c_syntax.specs.Plain as plain
use Rattle.c_syntax.specs.Plain.{CStmt, CStmts, CPart, CParts, stmts, parts}
use Rattle.c_syntax.specs.View.{stmt_of, part_of}
use Rattle.c_syntax.specs.declared.tree.Stmt.{Stmt}
use Rattle.c_syntax.specs.declared.tree.Part.{Part}
use Rattle.c_types.specs.Scope.{Scope}
use Rattle.c_types.specs.Census.{scope_behind, scope_behind_all, scope_behind_part}
use Rattle.c_types.specs.Table.{Table}
use Rattle.c_helpers.specs.Fewer.{fewer_in, fewer_in_all, fewer_in_part, fewer_in_parts}
use Rattle.c_fewer_operators.specs.declared.here.Here.{Here}
use Rattle.c_fewer_declarations.specs.Standing.{StandsIn}
use Rattle.c_fewer_parts.specs.Going.{Goes}
use Rattle.c_fewer_parts.proofs.GoingLemmas.{goes_on, goes_same}

-- ---- statements

-- these before others
abbrev pub before : List CStmt → CStmts → CStmts
before [] rest = rest
before (x ∷ xs) rest = plain.MoreStmt x (before xs rest)

last : (xs : List CStmt) (x : CStmt) (rest : CStmts) → before (xs ++ x ∷ []) rest ≡ before xs (plain.MoreStmt x rest)
last [] x rest = refl
last (y ∷ xs) x rest = ap (plain.MoreStmt y) (last xs x rest)

none : (xs : List CStmt) → before xs plain.NoStmt ≡ stmts xs
none [] = refl
none (x ∷ xs) = ap (plain.MoreStmt x) (none xs)

-- the trees of the first ones stand before those of the others, which are made in the scope behind them
pub record SoFar (table : Table) (h : Here) (xs : List CStmt) (s : Scope) (left all : CStmts) : Type 0 where
  pub scope : Scope
  pub stands : StandsIn table h scope
  pub trees : before xs (fewer_in_all scope left) ≡ fewer_in_all s all
  pub behind : scope_behind_all scope left ≡ scope_behind_all s all

pub record Going (old now : Table) (h k : Here) (trees left all : List Stmt) : Type 0 where
  pub goes : Goes old now h k
  pub so_far : (s : Scope) → StandsIn old h s → SoFar now k (map stmt_of trees) s (stmts (map stmt_of left)) (stmts (map stmt_of all))

pub begun : (table : Table) (h : Here) (trees all : List Stmt) → trees ≡ [] → Going table table h h trees all all
begun table h trees all none = record {
  goes = goes_same table h;
  so_far = λ s stands. record {
    scope = s;
    stands = stands;
    trees = ap (λ (l : List Stmt). before (map stmt_of l) (fewer_in_all s (stmts (map stmt_of all)))) none;
    behind = refl;
  };
}

pub one_more : (t0 t1 t2 : Table) (h k l : Here) (trees new items : List Stmt) (i : ℕ) (v x : Stmt) → Going t0 t1 h k trees (drop i items) items → drop i items ≡ v ∷ drop (i + 1) items
    → ((s : Scope) → StandsIn t1 k s → stmt_of x ≡ fewer_in s (stmt_of v)) → ((s : Scope) → StandsIn t1 k s → StandsIn t2 l (scope_behind s (stmt_of v))) → Goes t1 t2 k l → new ≡ trees ++ x ∷ []
    → Going t0 t2 h l new (drop (i + 1) items) items
one_more t0 t1 t2 h k l trees new items i v x m next made behind more put = record {
  goes = goes_on m.goes more;
  so_far = λ s stands.
      let g = m.so_far s stands in
      let r = scope_behind g.scope (stmt_of v) in
      let rest = fewer_in_all r (stmts (map stmt_of (drop (i + 1) items))) in
      let old = map stmt_of trees in
      record {
        scope = r;
        stands = behind g.scope g.stands;
        trees =
            ap (λ (l : List Stmt). before (map stmt_of l) rest) put
            ∙ (ap (λ (l : List CStmt). before l rest) (map-append stmt_of trees (x ∷ []))
            ∙ (last old (stmt_of x) rest
            ∙ (ap (λ (y : CStmt). before old (plain.MoreStmt y rest)) (made g.scope g.stands)
            ∙ (ap (λ (l : List Stmt). before old (fewer_in_all g.scope (stmts (map stmt_of l)))) (sym next) ∙ g.trees))));
        behind = ap (λ (l : List Stmt). scope_behind_all g.scope (stmts (map stmt_of l))) (sym next) ∙ g.behind;
      };
}

pub all_made : (t0 t1 : Table) (h k : Here) (trees items : List Stmt) (i : ℕ) → Going t0 t1 h k trees (drop i items) items → length items ≤ i
    → (s : Scope) → StandsIn t0 h s → stmts (map stmt_of trees) ≡ fewer_in_all s (stmts (map stmt_of items))
all_made t0 t1 h k trees items i m past s stands =
    let g = m.so_far s stands in
    sym (none (map stmt_of trees)) ∙ (ap (λ (l : List Stmt). before (map stmt_of trees) (fewer_in_all g.scope (stmts (map stmt_of l)))) (sym (drop_all i items past)) ∙ g.trees)

pub all_behind : (t0 t1 : Table) (h k : Here) (trees items : List Stmt) (i : ℕ) → Going t0 t1 h k trees (drop i items) items → length items ≤ i
    → (s : Scope) → StandsIn t0 h s → StandsIn t1 k (scope_behind_all s (stmts (map stmt_of items)))
all_behind t0 t1 h k trees items i m past s stands =
    let g = m.so_far s stands in
    let is : g.scope ≡ scope_behind_all s (stmts (map stmt_of items)) = ap (λ (l : List Stmt). scope_behind_all g.scope (stmts (map stmt_of l))) (sym (drop_all i items past)) ∙ g.behind in
    subst (λ (r : Scope). StandsIn t1 k r) is g.stands

-- ---- parts

-- these before others
abbrev pub part_before : List CPart → CParts → CParts
part_before [] rest = rest
part_before (x ∷ xs) rest = plain.MorePart x (part_before xs rest)

part_last : (xs : List CPart) (x : CPart) (rest : CParts) → part_before (xs ++ x ∷ []) rest ≡ part_before xs (plain.MorePart x rest)
part_last [] x rest = refl
part_last (y ∷ xs) x rest = ap (plain.MorePart y) (part_last xs x rest)

part_none : (xs : List CPart) → part_before xs plain.NoPart ≡ parts xs
part_none [] = refl
part_none (x ∷ xs) = ap (plain.MorePart x) (part_none xs)

-- the trees of the first ones stand before those of the others, which are made in the scope behind them
pub record PartsSoFar (table : Table) (h : Here) (xs : List CPart) (s : Scope) (left all : CParts) : Type 0 where
  pub scope : Scope
  pub stands : StandsIn table h scope
  pub trees : part_before xs (fewer_in_parts scope left) ≡ fewer_in_parts s all

pub record GoingParts (old now : Table) (h k : Here) (trees left all : List Part) : Type 0 where
  pub goes : Goes old now h k
  pub so_far : (s : Scope) → StandsIn old h s → PartsSoFar now k (map part_of trees) s (parts (map part_of left)) (parts (map part_of all))

pub part_begun : (table : Table) (h : Here) (trees all : List Part) → trees ≡ [] → GoingParts table table h h trees all all
part_begun table h trees all none = record {
  goes = goes_same table h;
  so_far = λ s stands. record {
    scope = s;
    stands = stands;
    trees = ap (λ (l : List Part). part_before (map part_of l) (fewer_in_parts s (parts (map part_of all)))) none;
  };
}

pub part_one_more : (t0 t1 t2 : Table) (h k l : Here) (trees new items : List Part) (i : ℕ) (v x : Part) → GoingParts t0 t1 h k trees (drop i items) items → drop i items ≡ v ∷ drop (i + 1) items
    → ((s : Scope) → StandsIn t1 k s → part_of x ≡ fewer_in_part s (part_of v)) → ((s : Scope) → StandsIn t1 k s → StandsIn t2 l (scope_behind_part s (part_of v))) → Goes t1 t2 k l → new ≡ trees ++ x ∷ []
    → GoingParts t0 t2 h l new (drop (i + 1) items) items
part_one_more t0 t1 t2 h k l trees new items i v x m next made behind more put = record {
  goes = goes_on m.goes more;
  so_far = λ s stands.
      let g = m.so_far s stands in
      let r = scope_behind_part g.scope (part_of v) in
      let rest = fewer_in_parts r (parts (map part_of (drop (i + 1) items))) in
      let old = map part_of trees in
      record {
        scope = r;
        stands = behind g.scope g.stands;
        trees =
            ap (λ (l : List Part). part_before (map part_of l) rest) put
            ∙ (ap (λ (l : List CPart). part_before l rest) (map-append part_of trees (x ∷ []))
            ∙ (part_last old (part_of x) rest
            ∙ (ap (λ (y : CPart). part_before old (plain.MorePart y rest)) (made g.scope g.stands)
            ∙ (ap (λ (l : List Part). part_before old (fewer_in_parts g.scope (parts (map part_of l)))) (sym next) ∙ g.trees))));
      };
}

pub part_all_made : (t0 t1 : Table) (h k : Here) (trees items : List Part) (i : ℕ) → GoingParts t0 t1 h k trees (drop i items) items → length items ≤ i
    → (s : Scope) → StandsIn t0 h s → parts (map part_of trees) ≡ fewer_in_parts s (parts (map part_of items))
part_all_made t0 t1 h k trees items i m past s stands =
    let g = m.so_far s stands in
    sym (part_none (map part_of trees)) ∙ (ap (λ (l : List Part). part_before (map part_of trees) (fewer_in_parts g.scope (parts (map part_of l)))) (sym (drop_all i items past)) ∙ g.trees)
