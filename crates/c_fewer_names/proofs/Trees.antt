-- Names of trees that stand for operators, and trees that are names.
use Rattle.std.proofs.Common.{◌≡◌, ℕ, List, [], ◌∷◌, ◌++◌, Option, Some, None, Bool, true, false, nat_le, length, ◌≤◌, ◌^◌, refl, ap, ap₂}
use Rattle.std.specs.Prelude.{◌||◌, ◌&&◌, not, is_some, codes, drop, if◌then◌else◌}
use Rattle.std.specs.List.{list_any}
use Rattle.std.proofs.lemmas.Bool.{le-leb}
use Rattle.c_syntax.specs.Plain as plain
use Rattle.c_syntax.specs.Plain.{CExpr, CExprs}
use Rattle.c_syntax.specs.Words.{meaning}
use Rattle.c_syntax.specs.declared.tree.StepOp.{StepOp}
use Rattle.c_syntax.specs.declared.tree.BinOp.{BinOp}
use Rattle.c_syntax.specs.declared.tree.UnOp.TheVariants as unary
use Rattle.c_syntax.specs.declared.tree.StepOp.TheVariants as step
use Rattle.c_syntax.specs.declared.tree.BinOp.TheVariants as binary
use Rattle.c_types.specs.Types.{CType, Tags, is_pointer, is_unsigned}
use Rattle.c_types.specs.Scope as entity
use Rattle.c_types.specs.Scope.{Scope, Entity, entity_of}
use Rattle.c_types.specs.Operands.{conversions_of}
use Rattle.c_types.specs.Expressions.{format_of}
use Rattle.c_types.specs.Room.{is_wide_pointer}
use Rattle.c_eval.specs.Environment.{type_in, value_type_in}
use Rattle.c_helpers.specs.Laws.{is_strange}
use Rattle.c_helpers.specs.Functions.{format_name}
use Rattle.c_helpers.specs.Meanings.{is_format}
use Rattle.c_helpers.specs.Names.{names_in, names_in_all}
use Rattle.c_helpers.specs.Fewer.{kind_word, sign_of, counts_unsigned, operator_tree, sum_tree, difference_tree, assignment_tree, plain_assignment, wide_step, step_tree, element_tree, named_call, call_tree, fewer, fewer_all}
use Rattle.c_fewer_types.specs.Standing.{IsTextName}
use Rattle.c_worlds.specs.Named.{Each}
use Rattle.c_fewer_names.proofs.Expressions.{each_both}
use Rattle.c_fewer_names.specs.FewerKnownLaws.{operators, is_known_name}

abbrev pub K : List ℕ → Type 0
K name = is_known_name name ≡ true

abbrev pub AreKnown : CExpr → Type 0
AreKnown e = Each K (names_in e)

pub text_known : (name : List ℕ) → IsTextName name → K name
text_known name e = ap (λ b. (not b || is_some (meaning operators name)) || (is_format name && (is_some (conversions_of (drop 7 name)) && nat_le (length (drop 7 name)) (2 ^ 22)))) e

or_last : (a b : Bool) → b ≡ true → (a || b) ≡ true
or_last true b e = refl
or_last false b e = e

-- that of a format that `printf` takes
pub format_known : (format : List ℕ) → is_some (conversions_of format) ≡ true → length format ≤ 2 ^ 22 → K (format_name format)
format_known format e few =
    or_last (not (list_any is_strange (format_name format)) || is_some (meaning operators (format_name format))) (is_format (format_name format) && (is_some (conversions_of (drop 7 (format_name format))) && nat_le (length (drop 7 (format_name format))) (2 ^ 22)))
    (ap₂ (λ x y. x && y) e (le-leb (length format) (2 ^ 22) few))

if_known : (b : Bool) (x y : CExpr) → AreKnown x → AreKnown y → AreKnown (if b then x else y)
if_known true x y h k = h
if_known false x y h k = k

sum_name : (b : Bool) → K (codes "pointer + " ++ kind_word b)
sum_name true = refl
sum_name false = refl

swapped_name : (b : Bool) → K (kind_word b ++ codes " + pointer")
swapped_name true = refl
swapped_name false = refl

moving_name : (b : Bool) → K (codes "pointer += " ++ kind_word b)
moving_name true = refl
moving_name false = refl

abbrev SignIsKnown : Option (List ℕ) → Type 0
SignIsKnown None = Unit {0}
SignIsKnown (Some sign) = K sign × K (sign ++ codes "=")

pub sign_known : (op : BinOp) (b : Bool) → SignIsKnown (sign_of op b)
sign_known binary.Mul b = (refl, refl)
sign_known binary.Div true = (refl, refl)
sign_known binary.Div false = (refl, refl)
sign_known binary.Mod true = (refl, refl)
sign_known binary.Mod false = (refl, refl)
sign_known binary.BitAnd b = (refl, refl)
sign_known binary.BitOr b = (refl, refl)
sign_known binary.BitXor b = (refl, refl)
sign_known binary.Shl b = (refl, refl)
sign_known binary.Shr true = (refl, refl)
sign_known binary.Shr false = (refl, refl)
sign_known op b = tt

module _ (tags : Tags) (at : ℕ) (a b : CExpr) (h : AreKnown a) (k : AreKnown b) where
  -- a call with both
  with_two : (name : List ℕ) → K name → Each K (name ∷ (names_in a ++ (names_in b ++ [])))
  with_two name n = (n, each_both K (names_in a) (names_in b ++ []) h (each_both K (names_in b) [] k tt))

  plainly : Each K (names_in a ++ names_in b)
  plainly = each_both K (names_in a) (names_in b) h k

  sum_known : (t u : CType) → AreKnown (sum_tree tags at t u a b)
  sum_known t u = if_known (is_wide_pointer tags t) _ _ (with_two (codes "pointer + " ++ kind_word (is_unsigned u)) (sum_name (is_unsigned u))) (if_known (is_wide_pointer tags u) _ _ (with_two (kind_word (is_unsigned t) ++ codes " + pointer") (swapped_name (is_unsigned t))) plainly)

  difference_known : (t u : CType) → AreKnown (difference_tree tags at t u a b)
  difference_known t u = if_known (not (is_wide_pointer tags t)) _ _ plainly (if_known (is_pointer u) _ _ (with_two (codes "pointer - pointer") refl) (with_two (codes "pointer + " ++ kind_word (is_unsigned u)) (sum_name (is_unsigned u))))

  pub operator_known : (o : Option (List ℕ)) (op : BinOp) (result t u : CType) → SignIsKnown o → AreKnown (operator_tree tags at o op result t u a b)
  operator_known (Some sign) op result t u s = with_two sign s.0
  operator_known None binary.Add result t u s = sum_known t u
  operator_known None binary.Sub result t u s = difference_known t u
  operator_known None op result t u s = plainly

  words_known : (op : BinOp) (t u : CType) → AreKnown (plain_assignment tags at op t u a b)
  words_known binary.Sub t u = if_known (is_wide_pointer tags t) _ _ (with_two (codes "pointer += " ++ kind_word (is_unsigned u)) (moving_name (is_unsigned u))) plainly
  words_known op t u = if_known (is_wide_pointer tags t) _ _ (with_two (codes "pointer += " ++ kind_word (is_unsigned u)) (moving_name (is_unsigned u))) plainly

  pub assignment_known : (o : Option (List ℕ)) (op : BinOp) (t u : CType) → SignIsKnown o → AreKnown (assignment_tree tags at o op t u a b)
  assignment_known (Some sign) op t u s = with_two (sign ++ codes "=") s.1
  assignment_known None op t u s = words_known op t u

  pub element_known : (t u : CType) → AreKnown (element_tree tags at t u a b)
  element_known t u = if_known (is_wide_pointer tags t || is_wide_pointer tags u) _ _ (sum_known t u) plainly

module _ (tags : Tags) (at : ℕ) (a : CExpr) (h : AreKnown a) where
  with_one : (name : List ℕ) → K name → Each K (name ∷ (names_in a ++ []))
  with_one name n = (n, each_both K (names_in a) [] h tt)

  wide_known : (op : StepOp) (t : CType) → AreKnown (wide_step tags at op t a)
  wide_known step.PreInc t = with_one (codes "pointer += int") refl
  wide_known step.PreDec t = with_one (codes "pointer += int") refl
  wide_known step.PostInc t = with_one (codes "pointer++") refl
  wide_known step.PostDec t = with_one (codes "pointer++") refl

  pub step_known : (op : StepOp) (t : CType) → AreKnown (step_tree tags at op t a)
  step_known op t = if_known (is_wide_pointer tags t) _ _ (wide_known op t) h

-- ---- what is no name doesn't become one

abbrev pub is_var : CExpr → Bool
is_var (plain.Var at name) = true
is_var e = false

if_var : (b : Bool) (x y : CExpr) → is_var x ≡ false → is_var y ≡ false → is_var (if b then x else y) ≡ false
if_var true x y e f = e
if_var false x y e f = f

sum_var : (tags : Tags) (at : ℕ) (t u : CType) (a b : CExpr) → is_var (sum_tree tags at t u a b) ≡ false
sum_var tags at t u a b = if_var (is_wide_pointer tags t) _ _ refl (if_var (is_wide_pointer tags u) _ _ refl refl)

operator_var : (tags : Tags) (at : ℕ) (o : Option (List ℕ)) (op : BinOp) (result t u : CType) (a b : CExpr) → is_var (operator_tree tags at o op result t u a b) ≡ false
operator_var tags at (Some sign) op result t u a b = refl
operator_var tags at None binary.Add result t u a b = sum_var tags at t u a b
operator_var tags at None binary.Sub result t u a b = if_var (not (is_wide_pointer tags t)) _ _ refl (if_var (is_pointer u) _ _ refl refl)
operator_var tags at None op result t u a b = refl

assignment_var : (tags : Tags) (at : ℕ) (o : Option (List ℕ)) (op : BinOp) (t u : CType) (a b : CExpr) → is_var (assignment_tree tags at o op t u a b) ≡ false
assignment_var tags at (Some sign) op t u a b = refl
assignment_var tags at None op t u a b = if_var (is_wide_pointer tags t) _ _ refl refl

wide_var : (tags : Tags) (at : ℕ) (op : StepOp) (t : CType) (a : CExpr) → is_var (wide_step tags at op t a) ≡ false
wide_var tags at step.PreInc t a = refl
wide_var tags at step.PreDec t a = refl
wide_var tags at step.PostInc t a = refl
wide_var tags at step.PostDec t a = refl

named_var : (at pos : ℕ) (name : List ℕ) (x : Option Entity) (format : Option (List ℕ)) (es : CExprs) → is_var (named_call at pos name x format es) ≡ false
named_var at pos name (Some entity.Printf) (Some format) es = refl
named_var at pos name (Some entity.Printf) None es = refl
named_var at pos name (Some (entity.BuiltIn t)) format es = refl
named_var at pos name (Some (entity.Object t)) format es = refl
named_var at pos name (Some (entity.Routine t begun)) format es = refl
named_var at pos name None format es = refl

call_var : (s : Scope) (at : ℕ) (f : CExpr) (format : Option (List ℕ)) (es : CExprs) → is_var (call_tree s at f format es) ≡ false
call_var s at (plain.Var pos name) format es = named_var at pos name (entity_of s name) format es
call_var s at f format es = refl

pub not_var : (s : Scope) (e : CExpr) → is_var e ≡ false → is_var (fewer s e) ≡ false
not_var s (plain.Var at name) h = absurd (cc h)
not_var s (plain.Str at text) h = refl
not_var s (plain.Number at n unsigned) h = refl
not_var s (plain.Null at) h = refl
not_var s (plain.Unary at unary.Invert a) h = refl
not_var s (plain.Unary at op a) h = refl
not_var s (plain.Step at op a) h = if_var (is_wide_pointer s.tags (type_in s a)) _ _ (wide_var s.tags at op (type_in s a) (fewer s a)) refl
not_var s (plain.Binary at op a b) h =
    operator_var s.tags at (sign_of op (counts_unsigned op (value_type_in s a) (value_type_in s b))) op (type_in s (plain.Binary at op a b)) (value_type_in s a) (value_type_in s b) (fewer s a) (fewer s b)
not_var s (plain.Assign at None a b) h = refl
not_var s (plain.Assign at (Some op) a b) h = assignment_var s.tags at (sign_of op (counts_unsigned op (type_in s a) (value_type_in s b))) op (type_in s a) (value_type_in s b) (fewer s a) (fewer s b)
not_var s (plain.Cond at a b c) h = refl
not_var s (plain.Comma at a b) h = refl
not_var s (plain.Cast at u a) h = refl
not_var s (plain.SizeTy at u) h = refl
not_var s (plain.SizeOf at a) h = refl
not_var s (plain.Index at a b) h = if_var (is_wide_pointer s.tags (value_type_in s a) || is_wide_pointer s.tags (value_type_in s b)) _ _ refl refl
not_var s (plain.Call at f es) h = call_var s at (fewer s f) (format_of es) (fewer_all s es)
not_var s (plain.Member at a m) h = refl
not_var s (plain.Arrow at a m) h = refl

pub call_plain : (s : Scope) (at : ℕ) (f : CExpr) (format : Option (List ℕ)) (es : CExprs) → is_var f ≡ false → Each K (names_in f ++ names_in_all es) → AreKnown (call_tree s at f format es)
call_plain s at (plain.Var pos name) format es e h = absurd (cc e)
call_plain s at f format es e h = h
