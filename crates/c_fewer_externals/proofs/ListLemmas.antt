-- Members that are made anew one after the other.
use Rattle.std.proofs.Common.{◌≡◌, ◌≤◌, ◌+◌, ℕ, List, [], ◌∷◌, ◌++◌, length, map, drop, refl, sym, ap, ◌∙◌, append-nil, append_assoc}
use Rattle.std.proofs.lemmas.List.{drop_all, map-append}
use Rattle.c_syntax.specs.Plain.{CDecl}
use Rattle.c_syntax.specs.View.{decl_of, decls_of}
use Rattle.c_syntax.specs.declared.tree.Decl.{Decl}
use Rattle.c_types.specs.Scope.{Scope}
use Rattle.c_types.specs.Table.{Table}
use Rattle.c_helpers.specs.Fewer.{fewer_in_declaration}
use Rattle.c_fewer_operators.specs.declared.here.Here.{Here}
use Rattle.c_fewer_operators.specs.Here.{Stands}
use Rattle.c_fewer_trees.proofs.OnwardLemmas.{Onward, then_on, stands_on}

-- a declaration whose first value stays
abbrev pub kept_first : Scope → CDecl → CDecl
kept_first s d = fewer_in_declaration s (λ e. e) d

-- a tree more, before what the others become
pub one_more : (trees new : List Decl) (x : Decl) (y : CDecl) (rest : List CDecl) → new ≡ trees ++ x ∷ [] → decl_of x ≡ y → decls_of new ++ rest ≡ decls_of trees ++ y ∷ rest
one_more trees new x y rest put is =
    ap (λ (l : List Decl). decls_of l ++ rest) put
    ∙ (ap (λ (l : List CDecl). l ++ rest) (map-append decl_of trees (x ∷ []))
    ∙ (append_assoc (decls_of trees) (decl_of x ∷ []) rest
    ∙ ap (λ (d : CDecl). decls_of trees ++ d ∷ rest) is))

-- the trees of the first ones stand before those of the others
pub record Listing (old now : Table) (h : Here) (trees left all : List Decl) : Type 0 where
  pub onward : Onward old now
  pub so_far : (s : Scope) → Stands old h s → decls_of trees ++ map (kept_first s) (decls_of left) ≡ map (kept_first s) (decls_of all)

pub none_listed : (table : Table) (h : Here) (trees all : List Decl) → trees ≡ [] → Listing table table h trees all all
none_listed table h trees all none = record {
  onward = record { grows = λ n k e. e; tags = refl };
  so_far = λ s stands. ap (λ (l : List Decl). decls_of l ++ map (kept_first s) (decls_of all)) none;
}

pub one_listed : (t0 t1 t2 : Table) (h : Here) (trees new items : List Decl) (i : ℕ) (d x : Decl) → Listing t0 t1 h trees (drop i items) items → drop i items ≡ d ∷ drop (i + 1) items
    → ((s : Scope) → Stands t1 h s → decl_of x ≡ kept_first s (decl_of d)) → Onward t1 t2 → new ≡ trees ++ x ∷ []
    → Listing t0 t2 h new (drop (i + 1) items) items
one_listed t0 t1 t2 h trees new items i d x m next made more put = record {
  onward = then_on m.onward more;
  so_far = λ s stands.
      one_more trees new x (kept_first s (decl_of d)) (map (kept_first s) (decls_of (drop (i + 1) items))) put (made s (stands_on m.onward stands))
      ∙ (ap (λ (l : List Decl). decls_of trees ++ map (kept_first s) (decls_of l)) (sym next) ∙ m.so_far s stands);
}

pub all_listed : (t0 t1 : Table) (h : Here) (trees items : List Decl) (i : ℕ) → Listing t0 t1 h trees (drop i items) items → length items ≤ i
    → (s : Scope) → Stands t0 h s → decls_of trees ≡ map (kept_first s) (decls_of items)
all_listed t0 t1 h trees items i m past s stands =
    sym (append-nil (decls_of trees)) ∙ (ap (λ (l : List Decl). decls_of trees ++ map (kept_first s) (decls_of l)) (sym (drop_all i items past)) ∙ m.so_far s stands)
