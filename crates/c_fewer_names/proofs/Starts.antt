-- First values at file scope.
use Rattle.std.proofs.Common.{◌≡◌, ℕ, Bool, true, false, List, [], ◌∷◌, ◌++◌, map, Some, None}
use Rattle.std.specs.Prelude.{if◌then◌else◌}
use Rattle.std.specs.declared.option.Option.{Option}
use Rattle.c_syntax.specs.declared.tree.UnOp.TheVariants as unary
use Rattle.c_syntax.specs.Plain as plain
use Rattle.c_syntax.specs.Plain.{CExpr, CValue, CValues, CItem}
use Rattle.c_types.specs.Types.{CType}
use Rattle.c_types.specs.Scope.{Entity, Object, Routine, BuiltIn, Printf, entity_of}
use Rattle.c_types.specs.Declarations.{Slots, first_slot, next_slots, slots_of, takes_string}
use Rattle.c_syntax.specs.Words.{meaning}
use Rattle.c_eval.specs.State as state
use Rattle.c_eval.specs.State.{Word, Cell, Holds}
use Rattle.c_eval.specs.Memory.{Kind, Number, ObjectPointer, FunctionPointer}
use Rattle.c_eval.specs.Operators.{converted}
use Rattle.c_eval.specs.Environment.{Environment, object_type_in, cell_kinds, slot_kinds, type_or_nothing, past_value}
use Rattle.c_eval.specs.Eval.{array_text}
use Rattle.c_eval.specs.Text.{static_pointer, static_value, zero_cells, static_cells, all_static_cells, first_cells, item_objects, behind_item, file_objects}
use Rattle.c_fewer_types.specs.Standing.{ValueHas, ValuesHave, FirstHas}
use Rattle.c_fewer_items.specs.Kept.{StartsAt}
use Rattle.c_worlds.specs.Named.{IsNamed, CellsAreNamed, ObjectsAreNamed}
use Rattle.c_worlds.proofs.Operators.{converted_named}
use Rattle.c_fewer_names.specs.NamedObjectsLaws.{FileObjectsAreNamed, FirstsStartAt}

module _ (P : List ℕ → Type 0) where
  both_named : (xs ys : List Cell) → CellsAreNamed P xs → CellsAreNamed P ys → CellsAreNamed P (xs ++ ys)
  both_named [] ys g h = h
  both_named (x ∷ xs) ys g h = (g.0, both_named xs ys g.1 h)

  both_objects : (xs ys : List state.Object) → ObjectsAreNamed P xs → ObjectsAreNamed P ys → ObjectsAreNamed P (xs ++ ys)
  both_objects [] ys g h = h
  both_objects (x ∷ xs) ys g h = (g.0, both_objects xs ys g.1 h)

  zeros_named : (kinds : List Kind) → CellsAreNamed P (zero_cells kinds)
  zeros_named [] = tt
  zeros_named (Number ∷ kinds) = (tt, zeros_named kinds)
  zeros_named (ObjectPointer ∷ kinds) = (tt, zeros_named kinds)
  zeros_named (FunctionPointer ∷ kinds) = (tt, zeros_named kinds)

  words_named : (ns : List ℕ) → CellsAreNamed P (map (λ c. Holds (Word c)) ns)
  words_named [] = tt
  words_named (n ∷ ns) = (tt, words_named ns)

  pointer_named : (name : List ℕ) (x : Option Entity) (o : Option (Option ℕ)) → P name → IsNamed P (static_pointer name x o)
  pointer_named name (Some (Object t)) (Some (Some o)) h = tt
  pointer_named name (Some (Object t)) (Some None) h = h
  pointer_named name (Some (Object t)) None h = h
  pointer_named name (Some (Routine t begun)) o h = h
  pointer_named name (Some (BuiltIn t)) o h = h
  pointer_named name (Some Printf) o h = h
  pointer_named name None o h = h

  value_named : (here : Environment) (e : CExpr) → StartsAt P e → IsNamed P (static_value here e)
  value_named here (plain.Var at name) h = pointer_named name (entity_of here.scope name) (meaning here.objects name) h
  value_named here (plain.Unary at unary.Address (plain.Var pos name)) h = pointer_named name (entity_of here.scope name) (meaning here.objects name) h
  value_named here e h = tt

  one_named : (t : CType) (e : CExpr) (here : Environment) (b : Bool) → StartsAt P e
      → CellsAreNamed P (if b then map (λ c. Holds (Word c)) (array_text t e) else Holds (converted t (static_value here e)) ∷ [])
  one_named t e here true h = words_named (array_text t e)
  one_named t e here false h = (converted_named P 0 t (static_value here e) (value_named here e h), tt)

  mutual
    cells_named : (v : CValue) (t : CType) (here : Environment) → ValueHas (StartsAt P) v → CellsAreNamed P (static_cells v t here)
    cells_named (plain.One e) t here h = one_named t e here (takes_string t e) h
    cells_named (plain.Many vs) t here h = all_cells_named vs (slots_of here.scope.tags (Some t)) here h

    all_cells_named : (vs : CValues) (slots : Slots) (here : Environment) → ValuesHave (StartsAt P) vs → CellsAreNamed P (all_static_cells vs slots here)
    all_cells_named plain.NoValue slots here h = zeros_named (slot_kinds here.scope.tags slots)
    all_cells_named (plain.MoreValue v vs) slots here h =
        both_named (static_cells v (type_or_nothing (first_slot slots)) here) (all_static_cells vs (next_slots slots) (past_value v here))
        (cells_named v (type_or_nothing (first_slot slots)) here h.0) (all_cells_named vs (next_slots slots) (past_value v here) h.1)

  firsts_named : (t : CType) (v : Option CValue) (here : Environment) → FirstHas (StartsAt P) v → CellsAreNamed P (first_cells t v here)
  firsts_named t None here h = zeros_named (cell_kinds here.scope.tags t)
  firsts_named t (Some v) here h = cells_named v t here h

  objects_named : (items : List CItem) (here : Environment) → FirstsStartAt P items → ObjectsAreNamed P (file_objects items here)
  objects_named [] here h = tt
  objects_named (plain.Object d ∷ items) here h =
      both_objects (item_objects (plain.Object d) here) (file_objects items (behind_item (plain.Object d) here))
      (firsts_named (object_type_in here.scope d) d.first (record (behind_item (plain.Object d) here) { literals_before = here.literals_before }) h.0, tt)
      (objects_named items (behind_item (plain.Object d) here) h.1)
  objects_named (plain.StructItem tag ∷ items) here h = objects_named items (behind_item (plain.StructItem tag) here) h
  objects_named (plain.Function name at result params body ∷ items) here h = objects_named items (behind_item (plain.Function name at result params body) here) h

pub file_objects_are_named : FileObjectsAreNamed
file_objects_are_named test items here h = objects_named (λ name. test name ≡ true) items here h
