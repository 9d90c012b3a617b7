-- Parameters that are made anew one after the other.
use Rattle.std.proofs.Common.{◌≡◌, ◌≤◌, ◌+◌, ℕ, List, [], ◌∷◌, ◌++◌, length, drop, refl, sym, ap, ◌∙◌, append-nil}
use Rattle.std.proofs.lemmas.List.{drop_all}
use Rattle.c_syntax.specs.View.{decl_of, decls_of}
use Rattle.c_syntax.specs.declared.tree.Decl.{Decl}
use Rattle.c_types.specs.Scope.{Scope}
use Rattle.c_types.specs.Units.{parameter, parameter_scope_or}
use Rattle.c_types.specs.Table.{Table}
use Rattle.c_declared.specs.Held.{IsAround}
use Rattle.c_helpers.specs.Fewer.{fewer_in_parameters}
use Rattle.c_fewer_operators.specs.declared.here.Here.{Here}
use Rattle.c_fewer_declarations.specs.Standing.{StandsIn, StandsInSome}
use Rattle.c_fewer_trees.proofs.OnwardLemmas.{Onward, then_on}
use Rattle.c_fewer_externals.proofs.ListLemmas.{kept_first, one_more}

-- the trees of the first ones stand before those of the others, in the scope behind the first ones
pub record ArePassed (now : Table) (g : Here) (s : Scope) (trees left all : List Decl) : Type 0 where
  pub scope : Scope
  pub stands : StandsIn now g scope
  pub is : decls_of trees ++ fewer_in_parameters scope (decls_of left) ≡ fewer_in_parameters s (decls_of all)

pub record Passing (old now : Table) (h g : Here) (trees left all : List Decl) : Type 0 where
  pub onward : Onward old now
  pub around : IsAround h.declared g.declared
  pub so_far : (s : Scope) → StandsIn old h s → ArePassed now g s trees left all

pub none_passed : (table : Table) (h : Here) (trees all : List Decl) → trees ≡ [] → Passing table table h h trees all all
none_passed table h trees all none = record {
  onward = record { grows = λ n k e. e; tags = refl };
  around = record { outer = refl; layouts = refl; defined = refl };
  so_far = λ s stands. record { scope = s; stands = stands; is = ap (λ (l : List Decl). decls_of l ++ fewer_in_parameters s (decls_of all)) none };
}

pub one_passed : (t0 t1 t2 : Table) (h g k : Here) (trees new items : List Decl) (i : ℕ) (d x : Decl) → Passing t0 t1 h g trees (drop i items) items → drop i items ≡ d ∷ drop (i + 1) items
    → ((s : Scope) → StandsIn t1 g s → decl_of x ≡ kept_first s (decl_of d)) → ((s : Scope) → StandsIn t1 g s → StandsIn t2 k (parameter_scope_or s (parameter s (decl_of d))))
    → Onward t1 t2 → IsAround g.declared k.declared → new ≡ trees ++ x ∷ []
    → Passing t0 t2 h k new (drop (i + 1) items) items
one_passed t0 t1 t2 h g k trees new items i d x m next made behind more around put = record {
  onward = then_on m.onward more;
  around = record { outer = around.outer ∙ m.around.outer; layouts = around.layouts ∙ m.around.layouts; defined = around.defined ∙ m.around.defined };
  so_far = λ s stands.
      let p = m.so_far s stands in
      let inner = parameter_scope_or p.scope (parameter p.scope (decl_of d)) in
      record {
        scope = inner;
        stands = behind p.scope p.stands;
        is =
            one_more trees new x (kept_first p.scope (decl_of d)) (fewer_in_parameters inner (decls_of (drop (i + 1) items))) put (made p.scope p.stands)
            ∙ (ap (λ (l : List Decl). decls_of trees ++ fewer_in_parameters p.scope (decls_of l)) (sym next) ∙ p.is);
      };
}

pub some_passed : {t0 t1 : Table} {h g : Here} {trees left all : List Decl} → Passing t0 t1 h g trees left all → StandsInSome t0 h → StandsInSome t1 g
some_passed m some = let p = m.so_far some.0 some.1 in (p.scope, p.stands)

pub all_passed : (t0 t1 : Table) (h g : Here) (trees items : List Decl) (i : ℕ) → Passing t0 t1 h g trees (drop i items) items → length items ≤ i
    → (s : Scope) → StandsIn t0 h s → decls_of trees ≡ fewer_in_parameters s (decls_of items)
all_passed t0 t1 h g trees items i m past s stands =
    let p = m.so_far s stands in
    sym (append-nil (decls_of trees)) ∙ (ap (λ (l : List Decl). decls_of trees ++ fewer_in_parameters p.scope (decls_of l)) (sym (drop_all i items past)) ∙ p.is)
