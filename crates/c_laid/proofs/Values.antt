-- First values that are typed at file scope point to functions that are defined.
use Rattle.std.proofs.Common.{◌≡◌, ℕ, Bool, true, false, List, [], ◌∷◌, ◌++◌, map, Option, Some, None, refl, sym, subst}
use Rattle.std.specs.Prelude.{◌==◌, ◌||◌, Ok, if◌then◌else◌}
use Rattle.c_syntax.specs.Plain as plain
use Rattle.c_syntax.specs.Plain.{CExpr, CValue, CValues}
use Rattle.c_syntax.specs.Words.{meaning}
use Rattle.c_syntax.specs.declared.tree.UnOp.TheVariants as unary
use Rattle.c_types.specs.declared.fault.TypeFault.TheVariants as fault
use Rattle.c_types.specs.Types.{CType, Pointer, is_pointer, is_null}
use Rattle.c_types.specs.Constants.{NotConstant}
use Rattle.c_types.specs.Refusals.{keeping}
use Rattle.c_types.specs.Scope as entity
use Rattle.c_types.specs.Scope.{Scope, Entity, entity_of, contains}
use Rattle.c_types.specs.Operands.{Operand, operand, Designator, unary_operand}
use Rattle.c_types.specs.Expressions.{named, judged}
use Rattle.c_types.specs.Declarations.{Site, Slots, first_slot, next_slots, slots_of, takes_string, object_rules, site_rules, braces_rules, fitting, all_fitting, first_fitting}
use Rattle.c_eval.specs.State.{Value, Word, Null, Point, Letter, Function, Missing, Cell, Holds}
use Rattle.c_eval.specs.Memory.{Kind, Number, ObjectPointer, FunctionPointer}
use Rattle.c_eval.specs.Operators.{as_pointer, converted}
use Rattle.c_eval.specs.Environment.{Environment, type_or_nothing, slot_kinds, cell_kinds, past_value}
use Rattle.c_eval.specs.Eval.{array_text}
use Rattle.c_eval.specs.Text.{static_pointer, static_named, static_value, zero_cells, static_cells, all_static_cells, first_cells}
use Rattle.c_fewer_types.proofs.Judged.{keeping_is, first_kept}
use Rattle.c_fewer_types.proofs.FewerTypedRules.{after_is, both_is}
use Rattle.c_worlds.specs.Named.{IsNamed, CellsAreNamed}

-- the objects of a scope have numbers
abbrev pub AreNumbered : Scope → List (List ℕ × Option ℕ) → Type 0
AreNumbered s objects = (name : List ℕ) (t : CType) → entity_of s name ≡ Some (entity.Object t) → (o : ℕ) × (meaning objects name ≡ Some (Some o))

module _ (s : Scope) where
  -- a function that is defined
  abbrev pub IsDefined : List ℕ → Type 0
  IsDefined name = contains s.defined name ≡ true

  abbrev Named : Value → Type 0
  Named v = IsNamed IsDefined v

  abbrev pub Cells : List Cell → Type 0
  Cells cells = CellsAreNamed IsDefined cells

  both_named : (xs ys : List Cell) → Cells xs → Cells ys → Cells (xs ++ ys)
  both_named [] ys a b = b
  both_named (x ∷ xs) ys a b = (a.0, both_named xs ys a.1 b)

  zeros_named : (kinds : List Kind) → Cells (zero_cells kinds)
  zeros_named [] = tt
  zeros_named (Number ∷ kinds) = (tt, zeros_named kinds)
  zeros_named (ObjectPointer ∷ kinds) = (tt, zeros_named kinds)
  zeros_named (FunctionPointer ∷ kinds) = (tt, zeros_named kinds)

  words_named : (cs : List ℕ) → Cells (map (λ c. Holds (Word c)) cs)
  words_named [] = tt
  words_named (c ∷ cs) = (tt, words_named cs)

  converted_named : (t : CType) (v : Value) → Named v → Named (converted t v)
  converted_named t v g = by (is_pointer t || is_null t)
    where
      pointer : (v : Value) → Named v → Named (as_pointer v)
      pointer (Word n) g = zero (n == 0)
        where
          zero : (b : Bool) → Named (if b then Null else Word n)
          zero true = tt
          zero false = tt
      pointer Null g = tt
      pointer (Point o k) g = tt
      pointer (Letter f i text k) g = tt
      pointer (Function name) g = g
      pointer Missing g = tt

      by : (b : Bool) → Named (if b then as_pointer v else v)
      by true = pointer v g
      by false = g

  module _ (objects : List (List ℕ × Option ℕ)) (numbered : AreNumbered s objects) where
    -- what a typed name stands for
    name_named : (at : ℕ) (name : List ℕ) (x : Operand) → judged s (plain.Var at name) ≡ Ok x → Named (static_pointer name (entity_of s name) (meaning objects name))
    name_named at name x k = by (entity_of s name) refl k
      where
        by : (e : Option Entity) → entity_of s name ≡ e → named s at name e ≡ Ok x → Named (static_pointer name e (meaning objects name))
        by None is k = absurd (cc k)
        by (Some (entity.Object t)) is k = let n = numbered name t is in subst (λ z. Named (static_pointer name (Some (entity.Object t)) z)) (sym n.1) tt
        by (Some (entity.Routine t begun)) is k =
            let m = keeping_is {A = Operand} ((contains s.defined name, fault.BadCall at) ∷ []) (operand at (Pointer t) Designator NotConstant) x k in (first_kept (contains s.defined name) (fault.BadCall at) [] m.0).0
        by (Some (entity.BuiltIn t)) is k = absurd (cc k)
        by (Some entity.Printf) is k = absurd (cc k)

    -- at a place of this scope
    module _ (here : Environment) (is : here.scope ≡ s) (same : here.objects ≡ objects) where
      place_named : (at : ℕ) (name : List ℕ) (x : Operand) → judged s (plain.Var at name) ≡ Ok x → Named (static_named here name)
      place_named at name x k = subst (λ (z : Scope). Named (static_pointer name (entity_of z name) (meaning here.objects name))) (sym is) (subst (λ z. Named (static_pointer name (entity_of s name) (meaning z name))) (sym same) (name_named at name x k))

      value_named : (e : CExpr) (x : Operand) → judged s e ≡ Ok x → Named (static_value here e)
      value_named (plain.Str at text) x k = tt
      value_named (plain.Null at) x k = tt
      value_named (plain.Var at name) x k = place_named at name x k
      value_named (plain.Unary at unary.Address (plain.Var pos name)) x k =
          let l = after_is (judged s (plain.Var pos name)) (λ y. unary_operand s.tags at unary.Address y) x k in place_named pos name l.0 l.1
      value_named e x k = tt

    mutual
      pub cells_named : (v : CValue) (t : CType) (o : Option CType) (site : Site) (u : Unit {0}) (here : Environment) → here.scope ≡ s → here.objects ≡ objects → fitting s site o v ≡ Ok u → Cells (static_cells v t here)
      cells_named (plain.One e) t o site u here is same k = go (takes_string t e)
        where
          value : Named (static_value here e)
          value = let l = after_is (judged s e) (λ a. keeping (object_rules o e a ++ site_rules site.file e a) tt) u k in value_named here is same e l.0 l.1

          go : (b : Bool) → Cells (if b then map (λ c. Holds (Word c)) (array_text t e) else Holds (converted t (static_value here e)) ∷ [])
          go true = words_named (array_text t e)
          go false = (converted_named t (static_value here e) value, tt)
      cells_named (plain.Many vs) t o site u here is same k =
          let l = after_is (all_fitting s site (slots_of s.tags o) vs) (λ _. keeping (braces_rules site.pos (slots_of s.tags o) vs) tt) u k in
          all_named vs (slots_of here.scope.tags (Some t)) (slots_of s.tags o) site l.0 here is same l.1

      all_named : (vs : CValues) (slots others : Slots) (site : Site) (u : Unit {0}) (here : Environment) → here.scope ≡ s → here.objects ≡ objects → all_fitting s site others vs ≡ Ok u → Cells (all_static_cells vs slots here)
      all_named plain.NoValue slots others site u here is same k = zeros_named (slot_kinds here.scope.tags slots)
      all_named (plain.MoreValue v vs) slots others site u here is same k =
          let l = both_is (fitting s site (first_slot others) v) (all_fitting s site (next_slots others) vs) (λ _ _. Ok tt) u k in
          both_named (static_cells v (type_or_nothing (first_slot slots)) here) (all_static_cells vs (next_slots slots) (past_value v here)) (cells_named v (type_or_nothing (first_slot slots)) (first_slot others) site l.0 here is same l.1.1)
          (all_named vs (next_slots slots) (next_slots others) site l.1.0 (past_value v here) is same l.1.2)

    pub first_named : (o : Option CValue) (t other : CType) (site : Site) (u : Unit {0}) (here : Environment) → here.scope ≡ s → here.objects ≡ objects → first_fitting s site other o ≡ Ok u → Cells (first_cells t o here)
    first_named None t other site u here is same k = zeros_named (cell_kinds here.scope.tags t)
    first_named (Some v) t other site u here is same k = cells_named v t (Some other) site u here is same k
