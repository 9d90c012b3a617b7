-- A tree with fewer operators has the string literals that it had.
use Rattle.std.proofs.Common.{◌≡◌, ℕ, List, [], ◌∷◌, ◌++◌, Option, Some, None, Bool, true, false, refl, ap, ◌∙◌, append-nil}
use Rattle.std.specs.Prelude.{◌||◌, not, if◌then◌else◌, codes}
use Rattle.c_syntax.specs.Plain as plain
use Rattle.c_syntax.specs.Plain.{CExpr, CExprs}
use Rattle.c_syntax.specs.declared.tree.UnOp.{UnOp}
use Rattle.c_syntax.specs.declared.tree.StepOp.{StepOp}
use Rattle.c_syntax.specs.declared.tree.BinOp.{BinOp}
use Rattle.c_syntax.specs.declared.tree.UnOp.TheVariants as unary
use Rattle.c_syntax.specs.declared.tree.StepOp.TheVariants as step
use Rattle.c_syntax.specs.declared.tree.BinOp.TheVariants as binary
use Rattle.c_types.specs.Types.{CType, Tags, is_pointer, is_unsigned}
use Rattle.c_types.specs.Scope as entity
use Rattle.c_types.specs.Scope.{Scope, Entity, entity_of}
use Rattle.c_types.specs.Expressions.{format_of}
use Rattle.c_types.specs.Room.{is_wide_pointer}
use Rattle.c_eval.specs.Environment.{type_in, value_type_in}
use Rattle.c_eval.specs.LiteralsIn.{is_printf, literals_in, literals_in_all, literals_behind}
use Rattle.c_alike.specs.Alike.{EachName}
use Rattle.c_helpers.specs.Terms.{number}
use Rattle.c_helpers.specs.Fewer.{sign_of, counts_unsigned, operator_tree, plain_operator, sum_tree, difference_tree, assignment_tree, plain_assignment, type_tree, kind_word, address_at, moved_place, words_by, words_in, words_back, step_tree, wide_step, element_tree, named_call, call_tree, fewer, fewer_all}
use Rattle.c_fewer_types.specs.Stands.{helper_type, NameStands}

-- the helper function of an operator is known
known : (name sign : List ℕ) (t : CType) → helper_type name ≡ Some t → Some name ≡ Some sign → (t : CType) × (helper_type sign ≡ Some t)
known name sign t e f = let same : sign ≡ name = cc f in (t, ap helper_type same ∙ e)

compound : (name sign : List ℕ) (t : CType) → helper_type (name ++ codes "=") ≡ Some t → Some name ≡ Some sign → (t : CType) × (helper_type (sign ++ codes "=") ≡ Some t)
compound name sign t e f = let same : sign ≡ name = cc f in (t, ap (λ z. helper_type (z ++ codes "=")) same ∙ e)

pub sign_known : (op : BinOp) (unsigned : Bool) (sign : List ℕ) → sign_of op unsigned ≡ Some sign → (t : CType) × (helper_type sign ≡ Some t)
sign_known binary.Mul u sign e = known (codes "*") sign _ refl e
sign_known binary.Div true sign e = known (codes "unsigned /") sign _ refl e
sign_known binary.Div false sign e = known (codes "int /") sign _ refl e
sign_known binary.Mod true sign e = known (codes "unsigned %") sign _ refl e
sign_known binary.Mod false sign e = known (codes "int %") sign _ refl e
sign_known binary.BitAnd u sign e = known (codes "&") sign _ refl e
sign_known binary.BitOr u sign e = known (codes "|") sign _ refl e
sign_known binary.BitXor u sign e = known (codes "^") sign _ refl e
sign_known binary.Shl u sign e = known (codes "<<") sign _ refl e
sign_known binary.Shr true sign e = known (codes "unsigned >>") sign _ refl e
sign_known binary.Shr false sign e = known (codes "int >>") sign _ refl e
sign_known op u sign e = absurd (cc e)

-- and that of its compound assignment
pub assign_known : (op : BinOp) (unsigned : Bool) (sign : List ℕ) → sign_of op unsigned ≡ Some sign → (t : CType) × (helper_type (sign ++ codes "=") ≡ Some t)
assign_known binary.Mul u sign e = compound (codes "*") sign _ refl e
assign_known binary.Div true sign e = compound (codes "unsigned /") sign _ refl e
assign_known binary.Div false sign e = compound (codes "int /") sign _ refl e
assign_known binary.Mod true sign e = compound (codes "unsigned %") sign _ refl e
assign_known binary.Mod false sign e = compound (codes "int %") sign _ refl e
assign_known binary.BitAnd u sign e = compound (codes "&") sign _ refl e
assign_known binary.BitOr u sign e = compound (codes "|") sign _ refl e
assign_known binary.BitXor u sign e = compound (codes "^") sign _ refl e
assign_known binary.Shl u sign e = compound (codes "<<") sign _ refl e
assign_known binary.Shr true sign e = compound (codes "unsigned >>") sign _ refl e
assign_known binary.Shr false sign e = compound (codes "int >>") sign _ refl e
assign_known op u sign e = absurd (cc e)

-- a name that isn't called is no literal, and a called helper function isn't `printf`
module _ (s s' : Scope) where
  abbrev P : List ℕ → Type 0
  P = NameStands s s'

  abbrev L : CExpr → List (List ℕ)
  L = literals_in s'

  no_printf : (name : List ℕ) (t : CType) → helper_type name ≡ Some t → P name → is_printf (entity_of s' name) ≡ false
  no_printf name t e p = let h = p.helper t e in ap is_printf h.1

  -- the literals of a call of a helper function are those of its arguments
  pub called : (name : List ℕ) (t : CType) → helper_type name ≡ Some t → P name → (es : CExprs) → [] ++ (if is_printf (entity_of s' name) then literals_behind s' es else literals_in_all s' es) ≡ literals_in_all s' es
  called name t e p es = ap (λ b. if b then literals_behind s' es else literals_in_all s' es) (no_printf name t e p)

  called_with_two : (name : List ℕ) (t : CType) → helper_type name ≡ Some t → P name → (a b : CExpr) → [] ++ (if is_printf (entity_of s' name) then literals_behind s' (plain.exprs (a ∷ b ∷ [])) else literals_in_all s' (plain.exprs (a ∷ b ∷ []))) ≡ L a ++ L b
  called_with_two name t e p a b = called name t e p (plain.exprs (a ∷ b ∷ [])) ∙ ap (λ z. L a ++ z) (append-nil (L b))

  pub called_with_one : (name : List ℕ) (t : CType) → helper_type name ≡ Some t → P name → (a : CExpr) → [] ++ (if is_printf (entity_of s' name) then literals_behind s' (plain.exprs (a ∷ [])) else literals_in_all s' (plain.exprs (a ∷ []))) ≡ L a
  called_with_one name t e p a = called name t e p (plain.exprs (a ∷ [])) ∙ append-nil (L a)

  called_with_three : (name : List ℕ) (t : CType) → helper_type name ≡ Some t → P name → (a b c : CExpr) → L c ≡ [] → [] ++ (if is_printf (entity_of s' name) then literals_behind s' (plain.exprs (a ∷ b ∷ c ∷ [])) else literals_in_all s' (plain.exprs (a ∷ b ∷ c ∷ []))) ≡ L a ++ L b
  called_with_three name t e p a b c none = called name t e p (plain.exprs (a ∷ b ∷ c ∷ [])) ∙ (ap (λ z. L a ++ (L b ++ (z ++ []))) none ∙ ap (λ z. L a ++ z) (append-nil (L b)))

  -- ---- operators

  sum_literals : (tags : Tags) (at : ℕ) (t u : CType) (a b : CExpr) → EachName P (sum_tree tags at t u a b) → L (sum_tree tags at t u a b) ≡ L a ++ L b
  sum_literals tags at t u a b p = by_left (is_wide_pointer tags t) (is_wide_pointer tags u) (is_unsigned u) (is_unsigned t) p
    where
      by_left : (x y z w : Bool) → EachName P (if x then plain.Cast at (type_tree t) (plain.Call at (plain.Var at (codes "pointer + " ++ kind_word z)) (plain.exprs (a ∷ b ∷ words_in tags t ∷ []))) else if y then plain.Cast at (type_tree u) (plain.Call at (plain.Var at (kind_word w ++ codes " + pointer")) (plain.exprs (a ∷ b ∷ words_in tags u ∷ []))) else plain.Binary at binary.Add a b)
          → L (if x then plain.Cast at (type_tree t) (plain.Call at (plain.Var at (codes "pointer + " ++ kind_word z)) (plain.exprs (a ∷ b ∷ words_in tags t ∷ []))) else if y then plain.Cast at (type_tree u) (plain.Call at (plain.Var at (kind_word w ++ codes " + pointer")) (plain.exprs (a ∷ b ∷ words_in tags u ∷ []))) else plain.Binary at binary.Add a b) ≡ L a ++ L b
      by_left true y true w p = called_with_three (codes "pointer + unsigned") _ refl p.1.0 a b (words_in tags t) refl
      by_left true y false w p = called_with_three (codes "pointer + int") _ refl p.1.0 a b (words_in tags t) refl
      by_left false true z true p = called_with_three (codes "unsigned + pointer") _ refl p.1.0 a b (words_in tags u) refl
      by_left false true z false p = called_with_three (codes "int + pointer") _ refl p.1.0 a b (words_in tags u) refl
      by_left false false z w p = refl

  difference_literals : (tags : Tags) (at : ℕ) (t u : CType) (a b : CExpr) → EachName P (difference_tree tags at t u a b) → L (difference_tree tags at t u a b) ≡ L a ++ L b
  difference_literals tags at t u a b p = by_left (not (is_wide_pointer tags t)) (is_pointer u) (is_unsigned u) p
    where
      by_left : (x y z : Bool) → EachName P (if x then plain.Binary at binary.Sub a b else if y then plain.Call at (plain.Var at (codes "pointer - pointer")) (plain.exprs (a ∷ b ∷ words_in tags t ∷ [])) else plain.Cast at (type_tree t) (plain.Call at (plain.Var at (codes "pointer + " ++ kind_word z)) (plain.exprs (a ∷ b ∷ words_back tags t ∷ []))))
          → L (if x then plain.Binary at binary.Sub a b else if y then plain.Call at (plain.Var at (codes "pointer - pointer")) (plain.exprs (a ∷ b ∷ words_in tags t ∷ [])) else plain.Cast at (type_tree t) (plain.Call at (plain.Var at (codes "pointer + " ++ kind_word z)) (plain.exprs (a ∷ b ∷ words_back tags t ∷ [])))) ≡ L a ++ L b
      by_left true y z p = refl
      by_left false true z p = called_with_three (codes "pointer - pointer") _ refl p.0 a b (words_in tags t) refl
      by_left false false true p = called_with_three (codes "pointer + unsigned") _ refl p.1.0 a b (words_back tags t) refl
      by_left false false false p = called_with_three (codes "pointer + int") _ refl p.1.0 a b (words_back tags t) refl

  plain_literals : (tags : Tags) (at : ℕ) (op : BinOp) (t u : CType) (a b : CExpr) → EachName P (plain_operator tags at op t u a b) → L (plain_operator tags at op t u a b) ≡ L a ++ L b
  plain_literals tags at binary.Add t u a b p = sum_literals tags at t u a b p
  plain_literals tags at binary.Sub t u a b p = difference_literals tags at t u a b p
  plain_literals tags at op t u a b p = refl

  pub operator_literals : (tags : Tags) (at : ℕ) (op : BinOp) (unsigned : Bool) (o : Option (List ℕ)) (result t u : CType) (a b : CExpr) → sign_of op unsigned ≡ o → EachName P (operator_tree tags at o op result t u a b) → L (operator_tree tags at o op result t u a b) ≡ L a ++ L b
  operator_literals tags at op unsigned None result t u a b e p = plain_literals tags at op t u a b p
  operator_literals tags at op unsigned (Some sign) result t u a b e p = let k = sign_known op unsigned sign e in called_with_two sign k.0 k.1 p.1.0 a b

  -- ---- assignments and steps

  moved_literals : (tags : Tags) (at : ℕ) (t : CType) (unsigned : Bool) (a b words : CExpr) → L words ≡ [] → EachName P (moved_place at t unsigned a b words) → L (moved_place at t unsigned a b words) ≡ L a ++ L b
  moved_literals tags at t true a b words e p = called_with_three (codes "pointer += unsigned") _ refl p.1.0 (address_at at a) b words e
  moved_literals tags at t false a b words e p = called_with_three (codes "pointer += int") _ refl p.1.0 (address_at at a) b words e

  words_literals : (op : BinOp) (tags : Tags) (t : CType) → L (words_by op tags t) ≡ []
  words_literals binary.Sub tags t = refl
  words_literals op tags t = refl

  plain_assigned_literals : (tags : Tags) (at : ℕ) (op : BinOp) (t u : CType) (a b : CExpr) → EachName P (plain_assignment tags at op t u a b) → L (plain_assignment tags at op t u a b) ≡ L a ++ L b
  plain_assigned_literals tags at op t u a b p = go (is_wide_pointer tags t) p
    where
      go : (x : Bool) → EachName P (if x then moved_place at t (is_unsigned u) a b (words_by op tags t) else plain.Assign at (Some op) a b) → L (if x then moved_place at t (is_unsigned u) a b (words_by op tags t) else plain.Assign at (Some op) a b) ≡ L a ++ L b
      go true p = moved_literals tags at t (is_unsigned u) a b (words_by op tags t) (words_literals op tags t) p
      go false p = refl

  pub assigned_literals : (tags : Tags) (at : ℕ) (op : BinOp) (unsigned : Bool) (o : Option (List ℕ)) (t u : CType) (a b : CExpr) → sign_of op unsigned ≡ o → EachName P (assignment_tree tags at o op t u a b) → L (assignment_tree tags at o op t u a b) ≡ L a ++ L b
  assigned_literals tags at op unsigned None t u a b e p = plain_assigned_literals tags at op t u a b p
  assigned_literals tags at op unsigned (Some sign) t u a b e p = let k = assign_known op unsigned sign e in called_with_two (sign ++ codes "=") k.0 k.1 p.1.0 (address_at at a) b

  pub step_literals : (tags : Tags) (at : ℕ) (op : StepOp) (t : CType) (a : CExpr) → EachName P (step_tree tags at op t a) → L (step_tree tags at op t a) ≡ L a
  step_literals tags at op t a p = go (is_wide_pointer tags t) p
    where
      wide : (op : StepOp) → EachName P (wide_step tags at op t a) → L (wide_step tags at op t a) ≡ L a
      wide step.PreInc p = moved_literals tags at t false a (number 1) (words_in tags t) refl p ∙ append-nil (L a)
      wide step.PreDec p = moved_literals tags at t false a (number 1) (words_back tags t) refl p ∙ append-nil (L a)
      wide step.PostInc p = called_with_two (codes "pointer++") _ refl p.1.0 (address_at at a) (words_in tags t) ∙ append-nil (L a)
      wide step.PostDec p = called_with_two (codes "pointer++") _ refl p.1.0 (address_at at a) (words_back tags t) ∙ append-nil (L a)

      go : (x : Bool) → EachName P (if x then wide_step tags at op t a else plain.Step at op a) → L (if x then wide_step tags at op t a else plain.Step at op a) ≡ L a
      go true p = wide op p
      go false p = refl

  pub element_literals : (tags : Tags) (at : ℕ) (t u : CType) (a b : CExpr) → EachName P (element_tree tags at t u a b) → L (element_tree tags at t u a b) ≡ L a ++ L b
  element_literals tags at t u a b p = go (is_wide_pointer tags t || is_wide_pointer tags u) p
    where
      go : (x : Bool) → EachName P (if x then plain.Unary at unary.Deref (sum_tree tags at t u a b) else plain.Index at a b) → L (if x then plain.Unary at unary.Deref (sum_tree tags at t u a b) else plain.Index at a b) ≡ L a ++ L b
      go true p = sum_literals tags at t u a b p
      go false p = refl

-- ---- what isn't a name doesn't become one

abbrev pub is_var : CExpr → Bool
is_var (plain.Var at name) = true
is_var e = false

if_var : (b : Bool) (x y : CExpr) → is_var x ≡ false → is_var y ≡ false → is_var (if b then x else y) ≡ false
if_var true x y e f = e
if_var false x y e f = f

sum_var : (tags : Tags) (at : ℕ) (t u : CType) (a b : CExpr) → is_var (sum_tree tags at t u a b) ≡ false
sum_var tags at t u a b = if_var (is_wide_pointer tags t) _ _ refl (if_var (is_wide_pointer tags u) _ _ refl refl)

difference_var : (tags : Tags) (at : ℕ) (t u : CType) (a b : CExpr) → is_var (difference_tree tags at t u a b) ≡ false
difference_var tags at t u a b = if_var (not (is_wide_pointer tags t)) _ _ refl (if_var (is_pointer u) _ _ refl refl)

operator_var : (tags : Tags) (at : ℕ) (o : Option (List ℕ)) (op : BinOp) (result t u : CType) (a b : CExpr) → is_var (operator_tree tags at o op result t u a b) ≡ false
operator_var tags at (Some sign) op result t u a b = refl
operator_var tags at None binary.Add result t u a b = sum_var tags at t u a b
operator_var tags at None binary.Sub result t u a b = difference_var tags at t u a b
operator_var tags at None op result t u a b = refl

assignment_var : (tags : Tags) (at : ℕ) (o : Option (List ℕ)) (op : BinOp) (t u : CType) (a b : CExpr) → is_var (assignment_tree tags at o op t u a b) ≡ false
assignment_var tags at (Some sign) op t u a b = refl
assignment_var tags at None op t u a b = if_var (is_wide_pointer tags t) _ _ refl refl

wide_var : (tags : Tags) (at : ℕ) (op : StepOp) (t : CType) (a : CExpr) → is_var (wide_step tags at op t a) ≡ false
wide_var tags at step.PreInc t a = refl
wide_var tags at step.PreDec t a = refl
wide_var tags at step.PostInc t a = refl
wide_var tags at step.PostDec t a = refl

named_var : (at pos : ℕ) (name : List ℕ) (x : Option Entity) (format : Option (List ℕ)) (es : CExprs) → is_var (named_call at pos name x format es) ≡ false
named_var at pos name (Some entity.Printf) (Some format) es = refl
named_var at pos name (Some entity.Printf) None es = refl
named_var at pos name (Some (entity.BuiltIn t)) format es = refl
named_var at pos name (Some (entity.Object t)) format es = refl
named_var at pos name (Some (entity.Routine t begun)) format es = refl
named_var at pos name None format es = refl

call_var : (s : Scope) (at : ℕ) (f : CExpr) (format : Option (List ℕ)) (es : CExprs) → is_var (call_tree s at f format es) ≡ false
call_var s at (plain.Var pos name) format es = named_var at pos name (entity_of s name) format es
call_var s at f format es = refl

unary_var : (s : Scope) (at : ℕ) (op : UnOp) (a : CExpr) → is_var (fewer s (plain.Unary at op a)) ≡ false
unary_var s at unary.Invert a = refl
unary_var s at op a = refl

pub not_var : (s : Scope) (f : CExpr) → is_var f ≡ false → is_var (fewer s f) ≡ false
not_var s (plain.Var at name) e = absurd (cc e)
not_var s (plain.Number at n unsigned) e = refl
not_var s (plain.Str at text) e = refl
not_var s (plain.Null at) e = refl
not_var s (plain.Unary at op a) e = unary_var s at op a
not_var s (plain.Step at op a) e = if_var (is_wide_pointer s.tags (type_in s a)) _ _ (wide_var s.tags at op (type_in s a) (fewer s a)) refl
not_var s (plain.Binary at op a b) e =
    operator_var s.tags at (sign_of op (counts_unsigned op (value_type_in s a) (value_type_in s b))) op (type_in s (plain.Binary at op a b)) (value_type_in s a) (value_type_in s b) (fewer s a) (fewer s b)
not_var s (plain.Assign at None a b) e = refl
not_var s (plain.Assign at (Some op) a b) e = assignment_var s.tags at (sign_of op (counts_unsigned op (type_in s a) (value_type_in s b))) op (type_in s a) (value_type_in s b) (fewer s a) (fewer s b)
not_var s (plain.Cond at a b c) e = refl
not_var s (plain.Comma at a b) e = refl
not_var s (plain.Cast at t a) e = refl
not_var s (plain.SizeTy at t) e = refl
not_var s (plain.SizeOf at a) e = refl
not_var s (plain.Index at a b) e = if_var (is_wide_pointer s.tags (value_type_in s a) || is_wide_pointer s.tags (value_type_in s b)) _ _ refl refl
not_var s (plain.Call at f es) e = call_var s at (fewer s f) (format_of es) (fewer_all s es)
not_var s (plain.Member at a m) e = refl
not_var s (plain.Arrow at a m) e = refl

-- a call of what isn't a name stays a call of it
pub other_call : (s : Scope) (at : ℕ) (f : CExpr) (format : Option (List ℕ)) (es : CExprs) → is_var f ≡ false → call_tree s at f format es ≡ plain.Call at f es
other_call s at (plain.Var pos name) format es e = absurd (cc e)
other_call s at f format es e = refl
