-- What is given where rules are kept.
use Rattle.std.proofs.Common.{◌≡◌, ℕ, ◌<◌, Bool, true, false, ◌&&◌, ◌||◌, List, length, Option, Some, None, refl, sym, ap, ◌∙◌, subst, if◌then◌else◌}
use Rattle.std.specs.Prelude.{slice_get, Ok, Err}
use Rattle.std.specs.Option.{option_map}
use Rattle.c_types.specs.declared.fault.TypeFault.TheVariants as fault
use Rattle.c_operands.proofs.OperandLemmas.{operand_kept, grows_then}
use Rattle.std.proofs.lemmas.Option.{slice_get_within}
use Rattle.c_syntax.specs.Words.{meaning}
use Rattle.c_types.specs.Types as types
use Rattle.c_types.specs.Types.{CType, Tags, is_arithmetic, is_unsigned, is_object_type, common_type, same_type, decayed}
use Rattle.c_types.specs.Operands as plain
use Rattle.c_types.specs.Operands.{value_type, is_element_pointer}
use Rattle.c_types.specs.declared.shape.Shape.{Shape}
use Rattle.c_types.specs.Known.{Known, OneType, Grows, says}
use Rattle.c_types.specs.Table.{Table, known, HasType}
use Rattle.c_layouts.proofs.KeptLemmas.{layouts_kept}
use Rattle.c_layouts.specs.declared.layout.Layout.{Layout}
use Rattle.c_layouts.specs.declared.layout.Layout.TheVariants.{Undeclared, Unfinished, Members}
use Rattle.c_layouts.specs.Layouts.{IsMember, AreMembers, LayoutIs, LayoutIsThere, LayoutAt, AreLayouts}
use Rattle.c_operands.specs.declared.class.Class.{Class}
use Rattle.c_operands.specs.declared.operand.Value.{Value}
use Rattle.c_operands.specs.Classes.{class_of, number, unsigned, pointee}
use Rattle.c_operands.specs.Seen.{IsValue, IsOperand, sort_of}
use Rattle.c_operands.specs.declared.operand.Operand.{Operand}
use Rattle.c_types.specs.Seen.{constant_of}
use Rattle.c_syntax.specs.declared.tree.BinOp.{BinOp}
use Rattle.c_types.specs.Constants as constants
use Rattle.c_operands.proofs.ClassLemmas.{class_says}
use Rattle.c_forms.specs.declared.given.Given.{Given}
use Rattle.c_forms.specs.Given.{GivenIs, IsGiven}

-- a class that is a number is that of a number
pub number_as : (b : Bool) (c : Class) (t : CType) → b ≡ number c → c ≡ class_of t → b ≡ is_arithmetic t
number_as b c t h e = h ∙ (ap number e ∙ sym (class_says t).number)

pub unsigned_as : (b : Bool) (c : Class) (t : CType) → b ≡ unsigned c → c ≡ class_of t → b ≡ is_unsigned t
unsigned_as b c t h e = h ∙ (ap unsigned e ∙ sym (class_says t).unsigned)

pub both_as : (r a b c d : Bool) → r ≡ (a && b) → a ≡ c → b ≡ d → r ≡ (c && d)
both_as r a b c d h e f = h ∙ (ap (λ k. k && b) e ∙ ap (λ k. c && k) f)

pub either_as : (a b c d : Bool) → a ≡ c → b ≡ d → (a || b) ≡ (c || d)
either_as a b c d e f = ap (λ k. k || b) e ∙ ap (λ k. c || k) f

-- ---- values while the table grows

pub value_kept : (old new : Table) (v : Value) (x : plain.Operand) → Grows (known old) (known new) → IsValue old v x → IsValue new v x
value_kept old new v x grows o = record { ty = grows v.ty (OneType (value_type x)) o.ty; class = o.class; null = o.null }

-- an operand of the code is one of the definitions
pub seen : Operand → CType → plain.Operand
seen a t = plain.operand a.at t (sort_of a.sort) (constant_of a.constant)

pub is_seen : (table : Table) (a : Operand) (t : CType) → HasType table a.ty t → IsOperand table a (seen a t)
unfolding seen
is_seen table a t h = record { at = refl; ty = h; sort = refl; constant = refl }

pub given_some : (table : Table) (g : Given) (o : Option CType) → IsGiven table (Some g) o → (t : CType) × (o ≡ Some t) × GivenIs table g t
given_some table g (Some t) h = (t, refl, h)
given_some table g None h = absurd h

pub given_none : (table : Table) (o : Option CType) → IsGiven table None o → o ≡ None
given_none table None h = refl
given_none table (Some t) h = absurd h

pub constant_as : (at : ℕ) (op : BinOp) (r a b k l : constants.Constant) (u e v w : Bool) → r ≡ constants.binary_constant at op u e a b → u ≡ v → e ≡ w → a ≡ k → b ≡ l → r ≡ constants.binary_constant at op v w k l
constant_as at op r a b k l u e v w h f g i j =
    h ∙ (ap (λ n. constants.binary_constant at op n e a b) f
    ∙ (ap (λ n. constants.binary_constant at op v n a b) g
    ∙ (ap (λ n. constants.binary_constant at op v w n b) i
    ∙ ap (λ n. constants.binary_constant at op v w k n) j)))

pub or_as : (r a b c d : Bool) → r ≡ (a || b) → a ≡ c → b ≡ d → r ≡ (c || d)
or_as r a b c d h e f = h ∙ either_as a b c d e f

-- ---- two sides

-- the values of both sides and the layouts, when both are used
pub record AreReady (table : Table) (layouts : List Layout) (all : Tags) (l r : Value) (x y : plain.Operand) : Type 0 where
  pub left : IsValue table l x
  pub right : IsValue table r y
  pub have : AreLayouts table layouts all

pub ready : (old mid new : Table) (layouts : List Layout) (all : Tags) (a b : Operand) (l r : Value) (x y : plain.Operand)
    → ((z : plain.Operand) → IsOperand old a z → IsValue mid l z) → Grows (known old) (known mid) → mid.tags ≡ old.tags
    → ((z : plain.Operand) → IsOperand mid b z → IsValue new r z) → Grows (known mid) (known new) → new.tags ≡ mid.tags
    → IsOperand old a x → IsOperand old b y → AreLayouts old layouts all → AreReady new layouts all l r x y
ready old mid new layouts all a b l r x y first f e second g h o p are = record {
  left = value_kept mid new l x g (first x o);
  right = second y (operand_kept old mid b y f p);
  have = layouts_kept old new layouts all (grows_then (known old) (known mid) (known new) f g) (h ∙ e) are;
}

abbrev constant_by : ℕ → BinOp → plain.Operand → plain.Operand → constants.Constant
constant_by at op x y = constants.binary_constant at op (is_unsigned (value_type x)) (plain.either_unsigned x y) x.constant y.constant

-- what an operator gives where its operands keep its rule, and where not
pub kept_binary : (all : Tags) (at : ℕ) (op : BinOp) (x y : plain.Operand) (t : CType) → plain.binary_type all op x y ≡ Some t
    → plain.binary_operand all at op x y ≡ Ok (plain.operand at t plain.Other (constants.binary_constant at op (is_unsigned (value_type x)) (plain.either_unsigned x y) x.constant y.constant))
kept_binary all at op x y t e = ap (λ o. plain.typed_or at (option_map (λ u. plain.operand at u plain.Other (constant_by at op x y)) o)) e

pub broken_binary : (all : Tags) (at : ℕ) (op : BinOp) (x y : plain.Operand) → plain.binary_type all op x y ≡ None → plain.binary_operand all at op x y ≡ Err (fault.Mismatch at)
broken_binary all at op x y e = ap (λ o. plain.typed_or at (option_map (λ u. plain.operand at u plain.Other (constant_by at op x y)) o)) e
