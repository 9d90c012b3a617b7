-- First values, one after the other.
use Rattle.std.proofs.Common.{◌≡◌, ℕ, zero, suc, ◌+◌, ◌<◌, ◌≤◌, get_or, drop-cons, List, [], ◌∷◌, ◌++◌, length, map, drop, Option, Some, None, refl, sym, ap, subst, ◌∙◌, add-one}
use Rattle.std.specs.Prelude.{Result, Ok, Err}
use Rattle.std.specs.Result.{result_err}
use Rattle.std.proofs.lemmas.List.{drop_all}
use Rattle.c_syntax.specs.Plain as tree
use Rattle.c_syntax.specs.Plain.{CExpr, CValue, CValues, values}
use Rattle.c_syntax.specs.View.{value_of}
use Rattle.c_syntax.specs.declared.tree.Value.{Value}
use Rattle.c_types.specs.declared.fault.TypeFault.{TypeFault}
use Rattle.c_types.specs.Types.{CType, Tags}
use Rattle.c_types.specs.Refusals.{Judged, after, both, keeping, broken}
use Rattle.c_types.specs.Scope.{Scope}
use Rattle.c_types.specs.Operands.{Operand}
use Rattle.c_types.specs.Expressions.{judged}
use Rattle.c_types.specs.Declarations as plain
use Rattle.c_types.specs.Declarations.{fitting, all_fitting, object_rules, site_rules, braces_rules, slots_of, next_slots, first_slot}
use Rattle.c_types.specs.Known.{OneType, Grows}
use Rattle.c_types.specs.Table.{Table, known}
use Rattle.c_layouts.specs.declared.layout.Layout.{Layout}
use Rattle.c_layouts.specs.Layouts.{AreLayouts}
use Rattle.c_operands.proofs.OperandLemmas.{grows_then}
use Rattle.c_operands.specs.Arguments.{merged}
use Rattle.c_operands.proofs.LeastLemmas.{merged_together, merged_none}
use Rattle.c_operands.specs.declared.declarations.Declarations.{Declarations}
use Rattle.c_declared.specs.declared.slots.Slots.{Slots}
use Rattle.c_declared.specs.Slots.{IsTypeOrNone, AreSlots, AreOrdered, behind}
use Rattle.c_declared.specs.Held.{Holds}
use Rattle.c_declared.specs.Told.{first_told}
use Rattle.c_declared.proofs.HeldLemmas.{holds_kept}
use Rattle.c_declared.proofs.ToldLemmas.{kept_rules, after_refused, both_refused}

-- ---- one value

pub one_fits : (s : Scope) (site : plain.Site) (t : Option CType) (e : CExpr) (x : Operand) → judged s e ≡ Ok x → broken (object_rules t e x ++ site_rules site.file e x) ≡ result_err (fitting s site t (tree.One e))
one_fits s site t e x h =
    sym (ap (λ (p : Judged Operand). result_err (after p (λ a. keeping (object_rules t e a ++ site_rules site.file e a) tt))) h ∙ kept_rules (object_rules t e x ++ site_rules site.file e x) tt)

-- braces
pub braces_fit : (s : Scope) (site : plain.Site) (t : Option CType) (vs : CValues) (parts own r : Option TypeFault) → r ≡ first_told parts own → parts ≡ result_err (all_fitting s site (slots_of s.tags t) vs)
    → own ≡ broken (braces_rules site.pos (slots_of s.tags t) vs) → r ≡ result_err (fitting s site t (tree.Many vs))
braces_fit s site t vs parts own r h f g =
    h ∙ (ap (λ (o : Option TypeFault). first_told o own) f
    ∙ (ap (λ (o : Option TypeFault). first_told (result_err (all_fitting s site (slots_of s.tags t) vs)) o) g
    ∙ sym (after_refused (all_fitting s site (slots_of s.tags t) vs) (braces_rules site.pos (slots_of s.tags t) vs) (λ _. tt))))

-- ---- types and slots while the table grows

pub type_or_none_kept : (old new : Table) (n : Option ℕ) (t : Option CType) → Grows (known old) (known new) → IsTypeOrNone old n t → IsTypeOrNone new n t
type_or_none_kept old new (Some n) (Some t) grows h = grows n (OneType t) h
type_or_none_kept old new None None grows h = h
type_or_none_kept old new (Some n) None grows h = absurd h
type_or_none_kept old new None (Some t) grows h = absurd h

-- what braces stand for
pub slots_held : (table : Table) (d : Declarations) (s : Scope) (layouts : List Layout) (n : Option ℕ) (t : Option CType) (slots : Slots) → layouts ≡ d.layouts.items → Holds table d s → IsTypeOrNone table n t
    → ((u : Option CType) (tags : Tags) → IsTypeOrNone table n u → AreLayouts table layouts tags → AreOrdered table layouts tags → AreSlots table layouts slots (slots_of tags u))
    → AreSlots table layouts slots (slots_of s.tags t)
slots_held table d s layouts n t slots e h is by =
    by t s.tags is (subst (λ (ls : List Layout). AreLayouts table ls s.tags) (sym e) h.fits.layouts) (subst (λ (ls : List Layout). AreOrdered table ls s.tags) (sym e) h.ordered)

pub slots_at : (table : Table) (xs ys : List Layout) (slots : Slots) (s : plain.Slots) → xs ≡ ys → AreSlots table xs slots s → AreSlots table ys slots s
slots_at table xs ys slots s e h = subst (λ (ls : List Layout). AreSlots table ls slots s) e h

-- ---- several values

-- what is left of a list begins with the element that comes next
pub drop_at : {X : Type 0} (xs : List X) (i : ℕ) (x : X) → i < length xs → x ≡ get_or xs i x → drop i xs ≡ x ∷ drop (i + 1) xs
drop_at xs i x h e = rw (add-one, drop-cons xs i x) (ap (λ y. y ∷ drop (suc i) xs) (sym e))

next_behind : (k : ℕ) (s : plain.Slots) → next_slots (behind k s) ≡ behind (k + 1) s
next_behind k s = by k s ∙ ap (λ n. behind n s) (sym (add-one k)) where
  by : (k : ℕ) (s : plain.Slots) → next_slots (behind k s) ≡ behind (suc k) s
  by zero s = refl
  by (suc k) s = by k (next_slots s)

-- the refusal of all values is that of the first ones beside that of the others
pub record Going (old now : Table) (d : Declarations) (site : plain.Site) (slots : Slots) (told : Option TypeFault) (k : ℕ) (items : List Value) : Type 0 where
  pub grows : Grows (known old) (known now)
  pub tags : now.tags ≡ old.tags
  pub so_far : (s : Scope) (all : plain.Slots) → Holds old d s → AreSlots old d.layouts.items slots all
      → result_err (all_fitting s site all (values (map value_of items))) ≡ merged told (result_err (all_fitting s site (behind k all) (values (map value_of (drop k items)))))

pub begun : (table : Table) (d : Declarations) (site : plain.Site) (slots : Slots) (items : List Value) → Going table table d site slots None 0 items
begun table d site slots items = record { grows = λ n k h. h; tags = refl; so_far = λ s all holds are. refl }

pub goes_on : (t0 t1 t2 : Table) (d : Declarations) (site : plain.Site) (slots : Slots) (told r new : Option TypeFault) (k : ℕ) (items : List Value) (v : Value) (ty : Option ℕ)
    → Going t0 t1 d site slots told k items → drop k items ≡ v ∷ drop (k + 1) items
    → ((s : plain.Slots) → AreSlots t0 d.layouts.items slots s → IsTypeOrNone t0 ty (first_slot (behind k s)))
    → ((s : Scope) (t : Option CType) → Holds t1 d s → IsTypeOrNone t1 ty t → r ≡ result_err (fitting s site t (value_of v)))
    → Grows (known t1) (known t2) → t2.tags ≡ t1.tags → new ≡ merged told r
    → Going t0 t2 d site slots new (k + 1) items
goes_on t0 t1 t2 d site slots told r new k items v ty g next slot fit grows tags is = record {
  grows = grows_then (known t0) (known t1) (known t2) g.grows grows;
  tags = tags ∙ g.tags;
  so_far = λ s all holds are.
      let here = fit s (first_slot (behind k all)) (holds_kept t0 t1 d s g.grows g.tags holds) (type_or_none_kept t0 t1 ty (first_slot (behind k all)) g.grows (slot all are)) in
      let rest : CValues = values (map value_of (drop (k + 1) items)) in
      let others = result_err (all_fitting s site (behind (k + 1) all) rest) in
      g.so_far s all holds are
      ∙ (ap (λ (l : List Value). merged told (result_err (all_fitting s site (behind k all) (values (map value_of l))))) next
      ∙ (ap (merged told) (both_refused (fitting s site (first_slot (behind k all)) (value_of v)) (all_fitting s site (next_slots (behind k all)) rest) (λ _ _. tt))
      ∙ (ap (λ (o : Option TypeFault). merged told (merged o (result_err (all_fitting s site (next_slots (behind k all)) rest)))) (sym here)
      ∙ (ap (λ (z : plain.Slots). merged told (merged r (result_err (all_fitting s site z rest)))) (next_behind k all)
      ∙ (merged_together told r others ∙ ap (λ (o : Option TypeFault). merged o others) (sym is))))));
}

pub done : (t0 t1 : Table) (d : Declarations) (site : plain.Site) (slots : Slots) (told : Option TypeFault) (k : ℕ) (items : List Value) (s : Scope) (all : plain.Slots)
    → Going t0 t1 d site slots told k items → length items ≤ k → Holds t0 d s → AreSlots t0 d.layouts.items slots all → told ≡ result_err (all_fitting s site all (values (map value_of items)))
done t0 t1 d site slots told k items s all g past holds are =
    sym (g.so_far s all holds are
    ∙ (ap (λ (l : List Value). merged told (result_err (all_fitting s site (behind k all) (values (map value_of l))))) (drop_all k items past)
    ∙ merged_none told))
