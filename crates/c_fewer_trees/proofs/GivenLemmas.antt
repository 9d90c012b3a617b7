-- Lists whose items are made anew one after the other.
use Rattle.std.proofs.Common.{◌≡◌, ◌≤◌, ◌+◌, ℕ, List, [], ◌∷◌, ◌++◌, length, map, drop, refl, sym, ap, subst, ◌∙◌}
use Rattle.std.proofs.lemmas.List.{drop_all, map-append}
use Rattle.c_syntax.specs.Plain as plain
use Rattle.c_syntax.specs.Plain.{CExpr, CExprs, CTy, CTys, exprs, tys}
use Rattle.c_syntax.specs.View.{expr_of, ty_of}
use Rattle.c_syntax.specs.declared.tree.Expr.{Expr}
use Rattle.c_syntax.specs.declared.tree.Ty.{Ty}
use Rattle.c_types.specs.Scope.{Scope}
use Rattle.c_types.specs.Table.{Table}
use Rattle.c_helpers.specs.Fewer.{fewer, fewer_all, fewer_in_type, fewer_in_types}
use Rattle.c_fewer_operators.specs.declared.here.Here.{Here}
use Rattle.c_fewer_operators.specs.Here.{Stands}
use Rattle.c_fewer_trees.proofs.OnwardLemmas.{Onward, then_on, stands_on}

-- ---- expressions

-- these before others
abbrev pub before : List CExpr → CExprs → CExprs
before [] es = es
before (x ∷ xs) es = plain.MoreExpr x (before xs es)

before_last : (xs : List CExpr) (x : CExpr) (es : CExprs) → before (xs ++ x ∷ []) es ≡ before xs (plain.MoreExpr x es)
before_last [] x es = refl
before_last (y ∷ xs) x es = ap (plain.MoreExpr y) (before_last xs x es)

before_none : (xs : List CExpr) → before xs plain.NoExpr ≡ exprs xs
before_none [] = refl
before_none (x ∷ xs) = ap (plain.MoreExpr x) (before_none xs)

-- the trees of the first ones stand before those of the others
pub record Making (old now : Table) (h : Here) (trees : List Expr) (left all : CExprs) : Type 0 where
  pub onward : Onward old now
  pub so_far : (s : Scope) → Stands old h s → before (map expr_of trees) (fewer_all s left) ≡ fewer_all s all

pub none_made : (table : Table) (h : Here) (trees : List Expr) (items : List Expr) (all : CExprs) → trees ≡ [] → all ≡ exprs (map expr_of items) → Making table table h trees (exprs (map expr_of items)) all
none_made table h trees items all none view = record {
  onward = record { grows = λ n k e. e; tags = refl };
  so_far = λ s stands. ap (λ (l : List Expr). before (map expr_of l) (fewer_all s (exprs (map expr_of items)))) none ∙ ap (fewer_all s) (sym view);
}

pub one_made : (t0 t1 t2 : Table) (h : Here) (trees new items : List Expr) (i : ℕ) (e x : Expr) (all : CExprs) → Making t0 t1 h trees (exprs (map expr_of (drop i items))) all → drop i items ≡ e ∷ drop (i + 1) items
    → ((s : Scope) → Stands t1 h s → expr_of x ≡ fewer s (expr_of e)) → Onward t1 t2 → new ≡ trees ++ x ∷ []
    → Making t0 t2 h new (exprs (map expr_of (drop (i + 1) items))) all
one_made t0 t1 t2 h trees new items i e x all m next made more put = record {
  onward = then_on m.onward more;
  so_far = λ s stands.
      let rest = exprs (map expr_of (drop (i + 1) items)) in
      let old = map expr_of trees in
      let one : expr_of x ≡ fewer s (expr_of e) = made s (stands_on m.onward stands) in
      ap (λ (l : List Expr). before (map expr_of l) (fewer_all s rest)) put
      ∙ (ap (λ (l : List CExpr). before l (fewer_all s rest)) (map-append expr_of trees (x ∷ []))
      ∙ (before_last old (expr_of x) (fewer_all s rest)
      ∙ (ap (λ (y : CExpr). before old (plain.MoreExpr y (fewer_all s rest))) one
      ∙ (ap (λ (l : List Expr). before old (fewer_all s (exprs (map expr_of l)))) (sym next) ∙ m.so_far s stands))));
}

pub all_made : (t0 t1 : Table) (h : Here) (trees items : List Expr) (i : ℕ) (all : CExprs) → Making t0 t1 h trees (exprs (map expr_of (drop i items))) all → length items ≤ i
    → (s : Scope) → Stands t0 h s → exprs (map expr_of trees) ≡ fewer_all s all
all_made t0 t1 h trees items i all m past s stands =
    sym (before_none (map expr_of trees)) ∙ (ap (λ (l : List Expr). before (map expr_of trees) (fewer_all s (exprs (map expr_of l)))) (sym (drop_all i items past)) ∙ m.so_far s stands)

-- ---- types

abbrev pub before_types : List CTy → CTys → CTys
before_types [] ts = ts
before_types (x ∷ xs) ts = plain.MoreTy x (before_types xs ts)

types_last : (xs : List CTy) (x : CTy) (ts : CTys) → before_types (xs ++ x ∷ []) ts ≡ before_types xs (plain.MoreTy x ts)
types_last [] x ts = refl
types_last (y ∷ xs) x ts = ap (plain.MoreTy y) (types_last xs x ts)

types_none : (xs : List CTy) → before_types xs plain.NoTy ≡ tys xs
types_none [] = refl
types_none (x ∷ xs) = ap (plain.MoreTy x) (types_none xs)

pub record MakingTypes (old now : Table) (h : Here) (trees left all : List Ty) : Type 0 where
  pub onward : Onward old now
  pub so_far : (s : Scope) → Stands old h s → before_types (map ty_of trees) (fewer_in_types s (tys (map ty_of left))) ≡ fewer_in_types s (tys (map ty_of all))

pub no_types_made : (table : Table) (h : Here) (trees all : List Ty) → trees ≡ [] → MakingTypes table table h trees all all
no_types_made table h trees all none = record {
  onward = record { grows = λ n k e. e; tags = refl };
  so_far = λ s stands. ap (λ (l : List Ty). before_types (map ty_of l) (fewer_in_types s (tys (map ty_of all)))) none;
}

pub one_type_made : (t0 t1 t2 : Table) (h : Here) (trees new items : List Ty) (i : ℕ) (t x : Ty) → MakingTypes t0 t1 h trees (drop i items) items → drop i items ≡ t ∷ drop (i + 1) items
    → ((s : Scope) → Stands t1 h s → ty_of x ≡ fewer_in_type s (ty_of t)) → Onward t1 t2 → new ≡ trees ++ x ∷ []
    → MakingTypes t0 t2 h new (drop (i + 1) items) items
one_type_made t0 t1 t2 h trees new items i t x m next made more put = record {
  onward = then_on m.onward more;
  so_far = λ s stands.
      let rest = tys (map ty_of (drop (i + 1) items)) in
      let old = map ty_of trees in
      let one : ty_of x ≡ fewer_in_type s (ty_of t) = made s (stands_on m.onward stands) in
      ap (λ (l : List Ty). before_types (map ty_of l) (fewer_in_types s rest)) put
      ∙ (ap (λ (l : List CTy). before_types l (fewer_in_types s rest)) (map-append ty_of trees (x ∷ []))
      ∙ (types_last old (ty_of x) (fewer_in_types s rest)
      ∙ (ap (λ (y : CTy). before_types old (plain.MoreTy y (fewer_in_types s rest))) one
      ∙ (ap (λ (l : List Ty). before_types old (fewer_in_types s (tys (map ty_of l)))) (sym next) ∙ m.so_far s stands))));
}

pub all_types_made : (t0 t1 : Table) (h : Here) (trees items : List Ty) (i : ℕ) → MakingTypes t0 t1 h trees (drop i items) items → length items ≤ i
    → (s : Scope) → Stands t0 h s → tys (map ty_of trees) ≡ fewer_in_types s (tys (map ty_of items))
all_types_made t0 t1 h trees items i m past s stands =
    sym (types_none (map ty_of trees)) ∙ (ap (λ (l : List Ty). before_types (map ty_of trees) (fewer_in_types s (tys (map ty_of l)))) (sym (drop_all i items past)) ∙ m.so_far s stands)
