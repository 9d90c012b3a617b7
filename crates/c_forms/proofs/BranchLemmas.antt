-- Choices of two by the classes of their types.
use Rattle.std.proofs.Common.{◌≡◌, ℕ, Bool, true, false, ◌&&◌, ◌||◌, Option, Some, None, refl, sym, ap, ◌∙◌}
use Rattle.std.specs.Prelude.{is_some}
use Rattle.std.specs.Option.{option_map_or}
use Rattle.c_types.specs.Types as types
use Rattle.c_types.specs.Types.{CType, is_void_pointer, is_object_pointer}
use Rattle.c_types.specs.Operands as plain
use Rattle.c_types.specs.Constants as constants
use Rattle.c_types.specs.Known.{Grows}
use Rattle.c_types.specs.Table.{Table, known}
use Rattle.c_operands.specs.declared.operand.Operand.{Operand}
use Rattle.c_operands.specs.declared.operand.Value.{Value}
use Rattle.c_operands.specs.Seen.{IsOperand, IsValue}
use Rattle.c_operands.proofs.OperandLemmas.{operand_kept, grows_then}
use Rattle.c_operands.specs.declared.class.Class.{Class}
use Rattle.c_operands.specs.Classes.{class_of, void_pointer, object_pointer}
use Rattle.c_operands.proofs.ClassLemmas.{class_says}
use Rattle.c_forms.proofs.GivenLemmas.{value_kept, both_as, either_as}
use Rattle.c_forms.specs.declared.given.Given.{Given}
use Rattle.c_forms.specs.Given.{GivenIs, IsGiven}

pub some_given : (table : Table) (g : Option Given) (o : Option CType) → IsGiven table g o → is_some g ≡ is_some o
some_given table (Some g) (Some t) h = refl
some_given table None None h = refl
some_given table (Some g) None h = absurd h
some_given table None (Some t) h = absurd h

pub choice_as : (r a b c k l m : constants.Constant) → r ≡ constants.choice_constant a b c → a ≡ k → b ≡ l → c ≡ m → r ≡ constants.choice_constant k l m
choice_as r a b c k l m h e f g = h ∙ (ap (λ v. constants.choice_constant v b c) e ∙ (ap (λ v. constants.choice_constant k v c) f ∙ ap (λ v. constants.choice_constant k l v) g))

-- the values of three operands, when all are used
pub record AreThree (table : Table) (u v w : Value) (x y z : plain.Operand) : Type 0 where
  pub test : IsValue table u x
  pub first : IsValue table v y
  pub second : IsValue table w z

pub three : (t0 t2 t3 t4 t5 : Table) (a b c : Operand) (u v w : Value) (x y z : plain.Operand) → Grows (known t0) (known t2)
    → ((k : plain.Operand) → IsOperand t2 a k → IsValue t3 u k) → Grows (known t2) (known t3)
    → ((k : plain.Operand) → IsOperand t3 b k → IsValue t4 v k) → Grows (known t3) (known t4)
    → ((k : plain.Operand) → IsOperand t4 c k → IsValue t5 w k) → Grows (known t4) (known t5)
    → IsOperand t0 a x → IsOperand t0 b y → IsOperand t0 c z → AreThree t5 u v w x y z
three t0 t2 t3 t4 t5 a b c u v w x y z g2 first g3 second g4 third g5 o p q =
    let to3 = grows_then (known t0) (known t2) (known t3) g2 g3 in
    let to4 = grows_then (known t0) (known t3) (known t4) to3 g4 in
    record {
      test = value_kept t4 t5 u x g5 (value_kept t3 t4 u x g4 (first x (operand_kept t0 t2 a x g2 o)));
      first = value_kept t4 t5 v y g5 (second y (operand_kept t0 t3 b y to3 p));
      second = third z (operand_kept t0 t4 c z to4 q);
    }

-- one is a `void *`, and the other one a pointer to an object
pub general_as : (r : Bool) (a b : Class) (t u : CType) → r ≡ ((void_pointer a && object_pointer b) || (object_pointer a && void_pointer b)) → a ≡ class_of t → b ≡ class_of u
    → r ≡ ((is_void_pointer t && is_object_pointer u) || (is_object_pointer t && is_void_pointer u))
general_as r a b t u h e f =
    let s = class_says t in
    let k = class_says u in
    h ∙ either_as (void_pointer a && object_pointer b) (object_pointer a && void_pointer b) (is_void_pointer t && is_object_pointer u) (is_object_pointer t && is_void_pointer u)
    (both_as (void_pointer a && object_pointer b) (void_pointer a) (object_pointer b) (is_void_pointer t) (is_object_pointer u) refl (ap void_pointer e ∙ sym s.void_pointer) (ap object_pointer f ∙ sym k.object_pointer))
    (both_as (object_pointer a && void_pointer b) (object_pointer a) (void_pointer b) (is_object_pointer t) (is_void_pointer u) refl (ap object_pointer e ∙ sym s.object_pointer) (ap void_pointer f ∙ sym k.void_pointer))
