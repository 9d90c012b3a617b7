-- What operators give, once their operands are judged.
use Rattle.std.proofs.Common.{ℕ, Bool, true, List, [], ◌∷◌, Option, Some, None}
use Rattle.c_syntax.specs.declared.tree.UnOp.{UnOp}
use Rattle.c_syntax.specs.declared.tree.UnOp.TheVariants as unary
use Rattle.c_syntax.specs.declared.tree.BinOp.{BinOp}
use Rattle.c_syntax.specs.Words.{meaning}
use Rattle.c_types.specs.declared.fault.TypeFault.TheVariants as fault
use Rattle.c_types.specs.Refusals.{keeping}
use Rattle.c_types.specs.Types.{is_object_type, CType, CTypes, Void, Int, Unsigned, Char, UChar, Null, Struct, Pointer, Array, Function, NoType, MoreType, Tags, Layout, Unfinished, Members}
use Rattle.c_types.specs.Operands as plain
use Rattle.c_types.specs.Operands.{Operand, Callee, Direct, Format, Through, is_designator, sum_type, value_type}
use Rattle.c_reasons.proofs.Reasons.{unknown, mismatch, no_place, bad_call, HasReason, fine, refuses, HaveReasons, keeping_has, keeping_one, keeping_two, keeping_more, if_has, option_has}

typed_has : (at : ℕ) (o : Option Operand) → HasReason (plain.typed_or at o)
typed_has at None = refuses _ (mismatch at)
typed_has at (Some a) = fine _

pub binary_has : (tags : Tags) (at : ℕ) (op : BinOp) (a b : Operand) → HasReason (plain.binary_operand tags at op a b)
binary_has tags at op a b = typed_has at _

address_has : (at : ℕ) (a : Operand) → HasReason (plain.address_operand at a)
address_has at a = if_has (is_designator a.sort) _ _ (fine _) (keeping_one _ _ _ (no_place a.pos))

object_has : (tags : Tags) (at : ℕ) (t : CType) → HasReason (keeping ((is_object_type tags t, fault.Mismatch at) ∷ []) (plain.place_at at t))
object_has tags at t = keeping_one (is_object_type tags t) (fault.Mismatch at) (plain.place_at at t) (mismatch at)

pub pointed_has : (tags : Tags) (at : ℕ) (t : CType) → HasReason (plain.pointed_operand tags at t)
pointed_has tags at (Pointer (Function t ts)) = fine _
pointed_has tags at (Pointer Void) = object_has tags at Void
pointed_has tags at (Pointer Int) = object_has tags at Int
pointed_has tags at (Pointer Unsigned) = object_has tags at Unsigned
pointed_has tags at (Pointer Char) = object_has tags at Char
pointed_has tags at (Pointer UChar) = object_has tags at UChar
pointed_has tags at (Pointer Null) = object_has tags at Null
pointed_has tags at (Pointer (Struct tag)) = object_has tags at (Struct tag)
pointed_has tags at (Pointer (Pointer t)) = object_has tags at (Pointer t)
pointed_has tags at (Pointer (Array t n)) = object_has tags at (Array t n)
pointed_has tags at Void = refuses _ (mismatch at)
pointed_has tags at Int = refuses _ (mismatch at)
pointed_has tags at Unsigned = refuses _ (mismatch at)
pointed_has tags at Char = refuses _ (mismatch at)
pointed_has tags at UChar = refuses _ (mismatch at)
pointed_has tags at Null = refuses _ (mismatch at)
pointed_has tags at (Struct tag) = refuses _ (mismatch at)
pointed_has tags at (Array t n) = refuses _ (mismatch at)
pointed_has tags at (Function t ts) = refuses _ (mismatch at)

pub unary_has : (tags : Tags) (at : ℕ) (op : UnOp) (a : Operand) → HasReason (plain.unary_operand tags at op a)
unary_has tags at unary.Address a = address_has at a
unary_has tags at unary.Deref a = pointed_has tags at (value_type a)
unary_has tags at unary.Not a = keeping_one _ _ _ (mismatch at)
unary_has tags at unary.Plus a = keeping_one _ _ _ (mismatch at)
unary_has tags at unary.Minus a = keeping_one _ _ _ (mismatch at)
unary_has tags at unary.Invert a = keeping_one _ _ _ (mismatch at)

pub step_has : (tags : Tags) (at : ℕ) (a : Operand) → HasReason (plain.step_operand tags at a)
step_has tags at a = keeping_two _ _ _ _ _ (no_place a.pos) (mismatch at)

pub assign_has : (tags : Tags) (at : ℕ) (op : Option BinOp) (a b : Operand) → HasReason (plain.assign_operand tags at op a b)
assign_has tags at None a b = keeping_two _ _ _ _ _ (no_place a.pos) (mismatch at)
assign_has tags at (Some op) a b = keeping_two _ _ _ _ _ (no_place a.pos) (mismatch at)

pub choice_has : (at : ℕ) (a b c : Operand) → HasReason (plain.choice_operand at a b c)
choice_has at a b c = keeping_two _ _ _ _ _ (mismatch a.pos) (mismatch at)

pub comma_has : (at : ℕ) (a b : Operand) → HasReason (plain.comma_operand at a b)
comma_has at a b = keeping_one _ _ _ (mismatch at)

pub cast_has : (at : ℕ) (t : CType) (a : Operand) → HasReason (plain.cast_operand at t a)
cast_has at t a = keeping_one _ _ _ (mismatch at)

pub size_has : (tags : Tags) (at : ℕ) (t : CType) → HasReason (plain.size_operand tags at t)
size_has tags at t = keeping_one _ _ _ (mismatch at)

pub index_has : (tags : Tags) (at : ℕ) (a b : Operand) → HasReason (plain.index_operand tags at a b)
index_has tags at a b = option_has (sum_type tags (value_type a) (value_type b)) (λ t. plain.pointed_operand tags at t) _ (λ t. pointed_has tags at t) (refuses _ (mismatch at))

member_in_has : (at : ℕ) (name : List ℕ) (o : Option Layout) → HasReason (plain.member_in at name o)
member_in_has at name (Some (Members members words)) = option_has (meaning members name) _ _ (λ t. fine _) (refuses _ (unknown at))
member_in_has at name (Some Unfinished) = refuses _ (mismatch at)
member_in_has at name None = refuses _ (mismatch at)

pub member_has : (tags : Tags) (at : ℕ) (name : List ℕ) (t : CType) → HasReason (plain.member_operand tags at name t)
member_has tags at name (Struct tag) = member_in_has at name (meaning tags tag)
member_has tags at name Void = refuses _ (mismatch at)
member_has tags at name Int = refuses _ (mismatch at)
member_has tags at name Unsigned = refuses _ (mismatch at)
member_has tags at name Char = refuses _ (mismatch at)
member_has tags at name UChar = refuses _ (mismatch at)
member_has tags at name Null = refuses _ (mismatch at)
member_has tags at name (Pointer t) = refuses _ (mismatch at)
member_has tags at name (Array t n) = refuses _ (mismatch at)
member_has tags at name (Function t ts) = refuses _ (mismatch at)

pub arrow_has : (tags : Tags) (at : ℕ) (name : List ℕ) (t : CType) → HasReason (plain.arrow_operand tags at name t)
arrow_has tags at name (Pointer t) = member_has tags at name t
arrow_has tags at name Void = refuses _ (mismatch at)
arrow_has tags at name Int = refuses _ (mismatch at)
arrow_has tags at name Unsigned = refuses _ (mismatch at)
arrow_has tags at name Char = refuses _ (mismatch at)
arrow_has tags at name UChar = refuses _ (mismatch at)
arrow_has tags at name Null = refuses _ (mismatch at)
arrow_has tags at name (Struct tag) = refuses _ (mismatch at)
arrow_has tags at name (Array t n) = refuses _ (mismatch at)
arrow_has tags at name (Function t ts) = refuses _ (mismatch at)

arguments_have : (params : CTypes) (arguments : List Operand) → HaveReasons (plain.argument_rules params arguments)
arguments_have (MoreType t ts) (a ∷ arguments) = (mismatch a.pos, arguments_have ts arguments)
arguments_have (MoreType t ts) [] = tt
arguments_have NoType arguments = tt

function_has : (at : ℕ) (defined : Bool) (t : CType) (arguments : List Operand) → HasReason (plain.function_call at defined t arguments)
function_has at defined (Function result params) arguments = keeping_more _ _ (plain.argument_rules params arguments) _ (bad_call at) (arguments_have params arguments)
function_has at defined Void arguments = refuses _ (bad_call at)
function_has at defined Int arguments = refuses _ (bad_call at)
function_has at defined Unsigned arguments = refuses _ (bad_call at)
function_has at defined Char arguments = refuses _ (bad_call at)
function_has at defined UChar arguments = refuses _ (bad_call at)
function_has at defined Null arguments = refuses _ (bad_call at)
function_has at defined (Struct tag) arguments = refuses _ (bad_call at)
function_has at defined (Pointer t) arguments = refuses _ (bad_call at)
function_has at defined (Array t n) arguments = refuses _ (bad_call at)

pointer_has : (at : ℕ) (t : CType) (arguments : List Operand) → HasReason (plain.pointer_call at t arguments)
pointer_has at (Pointer t) arguments = function_has at true t arguments
pointer_has at Void arguments = refuses _ (bad_call at)
pointer_has at Int arguments = refuses _ (bad_call at)
pointer_has at Unsigned arguments = refuses _ (bad_call at)
pointer_has at Char arguments = refuses _ (bad_call at)
pointer_has at UChar arguments = refuses _ (bad_call at)
pointer_has at Null arguments = refuses _ (bad_call at)
pointer_has at (Struct tag) arguments = refuses _ (bad_call at)
pointer_has at (Array t n) arguments = refuses _ (bad_call at)
pointer_has at (Function t ts) arguments = refuses _ (bad_call at)

pub call_has : (at : ℕ) (c : Callee) (format : Option (List ℕ)) (arguments : List Operand) → HasReason (plain.call_operand at c format arguments)
call_has at (Direct t defined) format arguments = function_has at defined t arguments
call_has at (Through t) format arguments = pointer_has at t arguments
call_has at Format format arguments = keeping_one _ _ _ (bad_call at)
