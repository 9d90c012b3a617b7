-- First values that are made anew one after the other.
use Rattle.std.proofs.Common.{◌≡◌, ◌≤◌, ◌+◌, ℕ, List, [], ◌∷◌, ◌++◌, length, map, drop, refl, sym, ap, ◌∙◌}
use Rattle.std.proofs.lemmas.List.{drop_all, map-append}
use Rattle.c_syntax.specs.Plain as plain
use Rattle.c_syntax.specs.Plain.{CValue, CValues, values}
use Rattle.c_syntax.specs.View.{value_of}
use Rattle.c_syntax.specs.declared.tree.Value.{Value}
use Rattle.c_types.specs.Scope.{Scope}
use Rattle.c_types.specs.Table.{Table}
use Rattle.c_helpers.specs.Fewer.{fewer, with_values, with_all_values}
use Rattle.c_fewer_operators.specs.declared.here.Here.{Here}
use Rattle.c_fewer_operators.specs.Here.{Stands}
use Rattle.c_fewer_trees.proofs.OnwardLemmas.{Onward, then_on, stands_on}

-- these before others
abbrev pub before : List CValue → CValues → CValues
before [] vs = vs
before (x ∷ xs) vs = plain.MoreValue x (before xs vs)

before_last : (xs : List CValue) (x : CValue) (vs : CValues) → before (xs ++ x ∷ []) vs ≡ before xs (plain.MoreValue x vs)
before_last [] x vs = refl
before_last (y ∷ xs) x vs = ap (plain.MoreValue y) (before_last xs x vs)

before_none : (xs : List CValue) → before xs plain.NoValue ≡ values xs
before_none [] = refl
before_none (x ∷ xs) = ap (plain.MoreValue x) (before_none xs)

-- the trees of the first ones stand before those of the others
pub record Making (old now : Table) (h : Here) (trees left all : List Value) : Type 0 where
  pub onward : Onward old now
  pub so_far : (s : Scope) → Stands old h s → before (map value_of trees) (with_all_values (fewer s) (values (map value_of left))) ≡ with_all_values (fewer s) (values (map value_of all))

pub none_made : (table : Table) (h : Here) (trees all : List Value) → trees ≡ [] → Making table table h trees all all
none_made table h trees all none = record {
  onward = record { grows = λ n k e. e; tags = refl };
  so_far = λ s stands. ap (λ (l : List Value). before (map value_of l) (with_all_values (fewer s) (values (map value_of all)))) none;
}

pub one_made : (t0 t1 t2 : Table) (h : Here) (trees new items : List Value) (i : ℕ) (v x : Value) → Making t0 t1 h trees (drop i items) items → drop i items ≡ v ∷ drop (i + 1) items
    → ((s : Scope) → Stands t1 h s → value_of x ≡ with_values (fewer s) (value_of v)) → Onward t1 t2 → new ≡ trees ++ x ∷ []
    → Making t0 t2 h new (drop (i + 1) items) items
one_made t0 t1 t2 h trees new items i v x m next made more put = record {
  onward = then_on m.onward more;
  so_far = λ s stands.
      let rest = with_all_values (fewer s) (values (map value_of (drop (i + 1) items))) in
      let old = map value_of trees in
      let one : value_of x ≡ with_values (fewer s) (value_of v) = made s (stands_on m.onward stands) in
      ap (λ (l : List Value). before (map value_of l) rest) put
      ∙ (ap (λ (l : List CValue). before l rest) (map-append value_of trees (x ∷ []))
      ∙ (before_last old (value_of x) rest
      ∙ (ap (λ (y : CValue). before old (plain.MoreValue y rest)) one
      ∙ (ap (λ (l : List Value). before old (with_all_values (fewer s) (values (map value_of l)))) (sym next) ∙ m.so_far s stands))));
}

pub all_made : (t0 t1 : Table) (h : Here) (trees items : List Value) (i : ℕ) → Making t0 t1 h trees (drop i items) items → length items ≤ i
    → (s : Scope) → Stands t0 h s → values (map value_of trees) ≡ with_all_values (fewer s) (values (map value_of items))
all_made t0 t1 h trees items i m past s stands =
    sym (before_none (map value_of trees)) ∙ (ap (λ (l : List Value). before (map value_of trees) (with_all_values (fewer s) (values (map value_of l)))) (sym (drop_all i items past)) ∙ m.so_far s stands)
