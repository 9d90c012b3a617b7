-- The `main` of a program is kept.
use Rattle.std.proofs.Common.{◌≡◌, ℕ, List, [], ◌∷◌, ◌++◌, Some, None, Bool, true, false, refl, sym, ap, ◌∙◌, subst}
use Rattle.std.specs.Prelude.{◌&&◌, ◌||◌, not, is_ok, map, codes, Ok, if◌then◌else◌}
use Rattle.std.specs.List.{list_any}
use Rattle.std.specs.Str.{bytes_eq}
use Rattle.std.proofs.lemmas.Slice.Eq.{bytes_eq-Decides}
use Rattle.c_syntax.specs.Plain as plain
use Rattle.c_syntax.specs.Plain.{CTy, CDecl, CStmt, CItem, CUnit}
use Rattle.c_types.specs.declared.fault.TypeFault.TheVariants as fault
use Rattle.c_types.specs.Refusals.{Judged, after, keeping}
use Rattle.c_types.specs.Scope.{Scope, contains}
use Rattle.c_types.specs.Declarations.{scope_or}
use Rattle.c_types.specs.Units.{signature, item_judged, start_scope, is_main, all_items, defined_in, unit_judged}
use Rattle.c_helpers.specs.Fewer.{fewer_in_function, fewer_in_item, fewer_in_items}
use Rattle.c_helpers.specs.Simple.{kept, desugared}
use Rattle.c_fewer_types.proofs.FewerTypedRules.{first_broken, kept_is}
use Rattle.c_programs.specs.Programs.{IsProgram}
use Rattle.c_fewer_names.specs.Names.{kept_in, is_reached}
use Rattle.c_fewer_names.proofs.Whole.{typed_as, main_is_reached}
use Rattle.c_fewer_names.proofs.Typed.{front, rest, items_are, programs_stay_typed}
use Rattle.c_fewer_names.specs.DesugaredUnitsLaws.{UnitsStayTyped}

or_last : (a b : Bool) → b ≡ true → (a || b) ≡ true
or_last true b e = refl
or_last false b e = e

bytes_same : (x y : List ℕ) → bytes_eq x y ≡ true → bytes_eq y x ≡ true
bytes_same x y e = (bytes_eq-Decides y x).1 (sym ((bytes_eq-Decides x y).0 e))

-- a text that has a `main` defines it
main_defined : (items : List CItem) → list_any is_main items ≡ true → contains (defined_in items) (codes "main") ≡ true
main_defined [] e = absurd (cc e)
main_defined (plain.StructItem tag ∷ items) e = main_defined items e
main_defined (plain.Object d ∷ items) e = main_defined items e
main_defined (plain.Function name at result params None ∷ items) e = main_defined items (without result params e)
  where
    without : (result : plain.CTy) (params : List plain.CDecl) → (is_main (plain.Function name at result params None) || list_any is_main items) ≡ true → list_any is_main items ≡ true
    without plain.Int [] e = e
    without plain.Int (p ∷ ps) e = e
    without t ps e = e
main_defined (plain.Function name at result params (Some body) ∷ items) e = with_body result params e (λ k. main_defined items k)
  where
    or_name : (b : Bool) → bytes_eq name (codes "main") ≡ b → (b || list_any is_main items) ≡ true → (list_any is_main items ≡ true → contains (defined_in items) (codes "main") ≡ true) → (bytes_eq (codes "main") name || contains (defined_in items) (codes "main")) ≡ true
    or_name true k e more = ap (λ z. z || contains (defined_in items) (codes "main")) (bytes_same name (codes "main") k)
    or_name false k e more = or_last (bytes_eq (codes "main") name) (contains (defined_in items) (codes "main")) (more e)

    with_body : (result : plain.CTy) (params : List plain.CDecl) → (is_main (plain.Function name at result params (Some body)) || list_any is_main items) ≡ true → (list_any is_main items ≡ true → contains (defined_in items) (codes "main") ≡ true) → (bytes_eq (codes "main") name || contains (defined_in items) (codes "main")) ≡ true
    with_body plain.Int [] e more = or_name (bytes_eq name (codes "main")) refl e more
    with_body plain.Int (p ∷ ps) e more = or_last (bytes_eq (codes "main") name) (contains (defined_in items) (codes "main")) (more e)
    with_body t ps e more = or_last (bytes_eq (codes "main") name) (contains (defined_in items) (codes "main")) (more e)

any_behind : (xs ys : List CItem) → list_any is_main ys ≡ true → list_any is_main (xs ++ ys) ≡ true
any_behind [] ys e = e
any_behind (x ∷ xs) ys e = or_last (is_main x) (list_any is_main (xs ++ ys)) (any_behind xs ys e)

module _ (names : List (List ℕ)) (main : contains names (codes "main") ≡ true) where
  -- an external that is the `main` stays so
  item_stays : (s : Scope) (item : CItem) → is_main item ≡ true → is_main (kept names (fewer_in_item s item)) ≡ true
  item_stays s (plain.Function name at plain.Int [] (Some body)) e =
      let there : contains names name ≡ true = ap (λ z. contains names z) ((bytes_eq-Decides name (codes "main")).0 e) ∙ main in
      ap (λ c. is_main (plain.Function name at plain.Int [] (if c then Some (fewer_in_function s name (signature s at plain.Int []) body) else None))) there ∙ e
  item_stays s (plain.Function name at plain.Int [] None) e = absurd (cc e)
  item_stays s (plain.Function name at plain.Int (p ∷ ps) body) e = absurd (cc e)
  item_stays s (plain.Function name at t ps body) e = absurd (cc e)
  item_stays s (plain.StructItem tag) e = absurd (cc e)
  item_stays s (plain.Object d) e = absurd (cc e)

  main_stays : (items : List CItem) (s : Scope) → list_any is_main items ≡ true → list_any is_main (map (kept names) (fewer_in_items s items)) ≡ true
  main_stays [] s e = absurd (cc e)
  main_stays (item ∷ items) s e = go (is_main item) refl e (λ k. main_stays items (scope_or s (item_judged s item)) k)
    where
      go : (b : Bool) → is_main item ≡ b → (b || list_any is_main items) ≡ true → (list_any is_main items ≡ true → list_any is_main (map (kept names) (fewer_in_items (scope_or s (item_judged s item)) items)) ≡ true)
          → (is_main (kept names (fewer_in_item s item)) || list_any is_main (map (kept names) (fewer_in_items (scope_or s (item_judged s item)) items))) ≡ true
      go true k e more = ap (λ z. z || list_any is_main (map (kept names) (fewer_in_items (scope_or s (item_judged s item)) items))) (item_stays s item k)
      go false k e more = or_last (is_main (kept names (fewer_in_item s item))) (list_any is_main (map (kept names) (fewer_in_items (scope_or s (item_judged s item)) items))) (more e)

main_kept : (u : CUnit) → IsProgram u → contains (kept_in u) (codes "main") ≡ true
main_kept u p = go (contains (kept_in u) (codes "main")) (contains (defined_in u.items) (codes "main")) (main_defined u.items (typed_as u p).main) (main_is_reached u p)
  where
    go : (a b : Bool) → b ≡ true → (a || not b) ≡ true → a ≡ true
    go true b k e = refl
    go false true k e = absurd (cc e)
    go false false k e = absurd (cc k)

pub units_stay_typed : UnitsStayTyped
units_stay_typed u p =
    let k = programs_stay_typed u p in
    let kept_main : list_any is_main (desugared u).items ≡ true =
    ap (λ z. list_any is_main z) (items_are u p) ∙ any_behind (front u p) (rest u p) (main_stays (kept_in u) (main_kept u p) u.items (start_scope u) (typed_as u p).main) in
    typed (all_items (start_scope (desugared u)) (desugared u).items) k.0 k.1 (list_any is_main (desugared u).items) kept_main
  where
    typed : (r : Judged Scope) (end : Scope) → r ≡ Ok end → (b : Bool) → b ≡ true → is_ok (after r (λ s. keeping ((b, fault.NoMain u.end) ∷ []) s)) ≡ true
    typed r end e b m = ap (λ q. is_ok (after q (λ s. keeping ((b, fault.NoMain u.end) ∷ []) s))) e ∙ ap is_ok (kept_is {A = Scope} ((b, fault.NoMain u.end) ∷ []) end (first_broken b (fault.NoMain u.end) [] m refl))
