-- Externals, one after the other.
use Rattle.std.proofs.Common.{◌≡◌, ℕ, Bool, true, false, ◌||◌, List, [], ◌∷◌, ◌++◌, map, Option, Some, None, refl, sym, ap, subst, ◌∙◌, append-nil, append_assoc}
use Rattle.std.specs.Prelude.{Ok, IsOk}
use Rattle.std.specs.Str.{bytes_eq}
use Rattle.std.proofs.lemmas.List.{map-append}
use Rattle.c_syntax.specs.Plain.{CItem}
use Rattle.c_syntax.specs.View.{item_of}
use Rattle.c_syntax.specs.declared.tree.Item.{Item}
use Rattle.c_types.specs.Refusals.{Judged}
use Rattle.c_types.specs.Scope.{Scope, contains}
use Rattle.c_types.specs.Declarations.{scope_or}
use Rattle.c_types.specs.Units.{item_judged, all_items}
use Rattle.c_types.specs.Table.{Table}
use Rattle.c_opening.specs.Named.{tag_in, tags_in, with_some, HasNumber}
use Rattle.c_objects.proofs.PassedLemmas.{item_passed}
use Rattle.c_helpers.specs.Fewer.{fewer_in_item, fewer_in_items}
use Rattle.c_fewer_operators.specs.declared.here.Here.{Here}
use Rattle.c_fewer_declarations.specs.Standing.{StandsIn, StandsInSome}
use Rattle.c_desugar.specs.Passed.{IsPassed}

-- the trees of the first ones stand before those of the others, in the scope behind the first ones
pub record SoFar (now : Table) (g : Here) (s end : Scope) (trees : List Item) (left all : List CItem) : Type 0 where
  pub scope : Scope
  pub stands : StandsIn now g scope
  pub typed : all_items scope left ≡ Ok end
  pub is : map item_of trees ++ fewer_in_items scope left ≡ fewer_in_items s all

pub record Going (t0 now : Table) (h g : Here) (trees : List Item) (left all : List CItem) : Type 0 where
  pub some : StandsInSome now g
  pub tags : now.tags ≡ t0.tags
  pub numbered : (name : List ℕ) → contains (tags_in left) name ≡ true → HasNumber t0 name
  pub so_far : (s end : Scope) → StandsIn t0 h s → all_items s all ≡ Ok end → SoFar now g s end trees left all

pub begun : (t0 : Table) (h : Here) (trees : List Item) (all : List CItem) → trees ≡ [] → StandsInSome t0 h → ((name : List ℕ) → contains (tags_in all) name ≡ true → HasNumber t0 name) → Going t0 t0 h h trees all all
begun t0 h trees all none some numbered = record {
  some = some;
  tags = refl;
  numbered = numbered;
  so_far = λ s end stands typed. record {
    scope = s;
    stands = stands;
    typed = typed;
    is = ap (λ (l : List Item). map item_of l ++ fewer_in_items s all) none;
  };
}

or_true : (b c : Bool) → c ≡ true → (b || c) ≡ true
or_true true c e = refl
or_true false c e = e

others_numbered : (table : Table) (x : CItem) (rest : List CItem) → ((name : List ℕ) → contains (tags_in (x ∷ rest)) name ≡ true → HasNumber table name) → (name : List ℕ) → contains (tags_in rest) name ≡ true → HasNumber table name
others_numbered table x rest h name there = h name (by (tag_in x)) where
  by : (o : Option (List ℕ)) → contains (with_some o (tags_in rest)) name ≡ true
  by None = there
  by (Some tag) = or_true (bytes_eq name tag) (contains (tags_in rest) name) there

is_ok : {A : Type 0} (r : Judged A) (a : A) → r ≡ Ok a → IsOk r
is_ok {A} r a e = let P : Judged A → Type 0 = λ x. IsOk x in subst P (sym e) refl

-- a tree more, before those of the others
one_more : (trees new : List Item) (tree : Item) (item : CItem) (rest : List CItem) → new ≡ trees ++ tree ∷ [] → item_of tree ≡ item → map item_of new ++ rest ≡ map item_of trees ++ item ∷ rest
one_more trees new tree item rest put is =
    ap (λ (l : List Item). map item_of l ++ rest) put
    ∙ (ap (λ (l : List CItem). l ++ rest) (map-append item_of trees (tree ∷ []))
    ∙ (append_assoc (map item_of trees) (item_of tree ∷ []) rest
    ∙ ap (λ (i : CItem). map item_of trees ++ i ∷ rest) is))

pub goes_on : (t0 t1 t2 : Table) (h g k : Here) (trees new : List Item) (tree : Item) (x : CItem) (left rest all : List CItem) → Going t0 t1 h g trees left all → left ≡ x ∷ rest → new ≡ trees ++ tree ∷ []
    → StandsInSome t2 k → t2.tags ≡ t1.tags → ((s : Scope) → StandsIn t1 g s → IsOk (item_judged s x) → IsPassed t2 k s tree x)
    → Going t0 t2 h k new rest all
goes_on t0 t1 t2 h g k trees new tree x left rest all going next put some tags passes = record {
  some = some;
  tags = tags ∙ going.tags;
  numbered = others_numbered t0 x rest (subst (λ (l : List CItem). (name : List ℕ) → contains (tags_in l) name ≡ true → HasNumber t0 name) next going.numbered);
  so_far = λ s end stands typed.
      let f = going.so_far s end stands typed in
      let p = item_passed f.scope x rest end (ap (all_items f.scope) (sym next) ∙ f.typed) in
      let m = passes f.scope f.stands (is_ok (item_judged f.scope x) p.inner p.first) in
      let behind = scope_or f.scope (item_judged f.scope x) in
      record {
        scope = behind;
        stands = m.stands;
        typed = ap (λ (z : Scope). all_items z rest) (ap (scope_or f.scope) p.first) ∙ p.rest;
        is =
            one_more trees new tree (fewer_in_item f.scope x) (fewer_in_items behind rest) put m.is
            ∙ (ap (λ (l : List CItem). map item_of trees ++ fewer_in_items f.scope l) (sym next) ∙ f.is);
      };
}

pub done : (t0 t1 : Table) (h g : Here) (trees : List Item) (left all : List CItem) (s end : Scope) → Going t0 t1 h g trees left all → left ≡ [] → StandsIn t0 h s → all_items s all ≡ Ok end
    → map item_of trees ≡ fewer_in_items s all
done t0 t1 h g trees left all s end going none stands typed =
    let f = going.so_far s end stands typed in
    sym (append-nil (map item_of trees)) ∙ (ap (λ (l : List CItem). map item_of trees ++ fewer_in_items f.scope l) (sym none) ∙ f.is)
