-- The code of expressions. It begins in a block and may use the frame from a word on; the value is left in A.
use Rattle.std.specs.Prelude.{ℕ, suc, ◌+◌, ◌^◌, ◌%◌, Bool, true, false, not, List, [], ◌∷◌, ◌++◌, Option, Some, None, if◌then◌else◌, codes}
use Rattle.std.specs.Str.{bytes_eq}
use Rattle.eir_core.specs.declared.ops.Reg.TheVariants.{A, B, C}
use Rattle.eir_core.specs.declared.ops.Operand.TheVariants.{Reg as register}
use Rattle.eir_core.specs.declared.ops.Cond.{Cond}
use Rattle.eir_core.specs.declared.ops.Cond.TheVariants.{Eq}
use Rattle.eir_core.specs.declared.ops.Op.{Op}
use Rattle.eir_core.specs.declared.ops.Op.TheVariants.{Mov, Add, Sub, Store, Putc, Getc, Exit, Set, Jump}
use Rattle.c_syntax.specs.Plain as plain
use Rattle.c_syntax.specs.Plain.{CExpr, CExprs}
use Rattle.c_syntax.specs.declared.tree.UnOp.{UnOp}
use Rattle.c_syntax.specs.declared.tree.UnOp.TheVariants as unary
use Rattle.c_syntax.specs.declared.tree.StepOp.{StepOp}
use Rattle.c_syntax.specs.declared.tree.StepOp.TheVariants as step
use Rattle.c_syntax.specs.declared.tree.BinOp.{BinOp}
use Rattle.c_syntax.specs.declared.tree.BinOp.TheVariants as binary
use Rattle.c_syntax.specs.Words.{meaning}
use Rattle.c_types.specs.Types.{CType}
use Rattle.c_types.specs.Scope.{entity_of}
use Rattle.c_eval.specs.Environment.{Environment, type_in, value_type_in, constant_in, pointee, member_offset, past, Callee, Direct, Known, Format, Through, callee_in}
use Rattle.c_eval.specs.Eval.{step_op}
use Rattle.c_helpers.specs.Functions.{piece_name}
use Rattle.c_lowered.specs.Locations as location
use Rattle.c_lowered.specs.Locations.{Location, Exactly, Linking, located, address_of, known_place, named_direct, direct, is_quiet}
use Rattle.c_lowered.specs.Operations.{constant, load_to, loaded, direct_or, store_to, point_to, save, restore, fetched, fetched_behind, moved_on, Operands, operands, sum_code, comparison_of, comparable, is_signed, jump_where, operator_code, jump_if_zero, truth_word, junction, update_by, update_by_value, call_at, call_through_at}
use Rattle.c_lowered.specs.Counts.{is_known_to_helpers, expr_jumps, truth_jumps, exprs_jumps}

-- ---- operators

-- from the code of the operand's value and that of its place
abbrev pub unary_code : UnOp → CType → (value place : List Op) → List Op
unary_code unary.Address t value place = place
unary_code unary.Deref t value place = value ++ fetched_behind t
unary_code unary.Not t value place = value ++ Set Eq A (constant 0) ∷ []
unary_code unary.Minus t value place = value ++ Mov B (register A) ∷ Mov A (constant 0) ∷ Sub A (register B) ∷ []
unary_code op t value place = value

-- a step behind its operand gives the old value
abbrev pub step_back : StepOp → List Op
step_back step.PostInc = Sub A (constant 1) ∷ []
step_back step.PostDec = Add A (constant 1) ∷ []
step_back op = []

-- the address of a place comes into C: of one that is known, or of that in A
abbrev pub pointed_by : Option Location → List Op → List Op
pointed_by (Some l) place = point_to l
pointed_by None place = place ++ Mov C (register A) ∷ []

-- an assignment, from the place if it is known, the value if it needs no evaluation, and the codes of both; value has its code by the frame's first free word
abbrev pub assigned_code : ℕ → Option Location → Option location.Direct → (place : List Op) → (value : ℕ → List Op) → List Op
assigned_code d (Some l) v place value = value d ++ store_to l
assigned_code d None (Some v) place value = place ++ (Mov B (register A) ∷ load_to A v ++ Store A (register B) ∷ [])
assigned_code d None None place value = place ++ (save d ++ (value (suc d) ++ (restore B d ++ Store A (register B) ∷ [])))

-- a compound one
abbrev pub updated_code : BinOp → ℕ → Option Location → Option location.Direct → (place : List Op) → (value : ℕ → List Op) → List Op
updated_code op d l (Some v) place value = pointed_by l place ++ update_by op v
updated_code op d (Some l) None place value = value d ++ (point_to l ++ update_by_value op)
updated_code op d None None place value = place ++ (save d ++ (value (suc d) ++ (restore C d ++ update_by_value op)))

abbrev pub assignment_code : Option BinOp → ℕ → Option Location → Option location.Direct → (place : List Op) → (value : ℕ → List Op) → List Op
assignment_code None d l v place value = assigned_code d l v place value
assignment_code (Some op) d l v place value = updated_code op d l v place value

-- ---- conditions

-- `&&` and `||` as values; the code begins in block k
abbrev pub binary_code : BinOp → (signed : Bool) → ℕ → (truth_left truth_right : ℕ) → (Bool → ℕ → List Op) → (Bool → ℕ → List Op) → Operands → List Op
binary_code binary.And signed k s t a b p = truth_word k (s + t) (λ target. junction false false target (k + s + t) a b)
binary_code binary.Or signed k s t a b p = truth_word k (s + t) (λ target. junction true false target (k + s + t) a b)
binary_code op signed k s t a b p = operator_code op signed p

-- a value is compared with 0
abbrev pub tested : Bool → ℕ → List Op → List Op
tested holds target value = value ++ jump_if_zero (not holds) target

-- operands are compared; other operators give a value
abbrev pub comparison_truth : Option Cond → Bool → ℕ → Operands → (value : List Op) → List Op
comparison_truth (Some test) holds target p value = jump_where holds target test p
comparison_truth None holds target p value = tested holds target value

abbrev pub binary_truth : BinOp → (signed holds : Bool) → (target end : ℕ) → (Bool → ℕ → List Op) → (Bool → ℕ → List Op) → Operands → (value : List Op) → List Op
binary_truth binary.And signed holds target end a b p value = junction false holds target end a b
binary_truth binary.Or signed holds target end a b p value = junction true holds target end a b
binary_truth op signed holds target end a b p value = comparison_truth (comparison_of op) holds target (comparable signed p) value

-- what `!` denies, or a value
abbrev pub unary_truth : UnOp → Bool → ℕ → (Bool → ℕ → List Op) → (value : List Op) → List Op
unary_truth unary.Not holds target test value = test (not holds) target
unary_truth op holds target test value = tested holds target value

-- of two branches; the code begins in block k, and has so many jumps in each part
abbrev pub choice_code : ℕ → (s m n : ℕ) → (ℕ → List Op) → (one other : List Op) → List Op
choice_code k s m n test one other =
    test (k + s + m + 1) ++ (one ++ (Jump (constant (k + s + m + n + 2)) ∷ (other ++ Jump (constant (k + s + m + n + 2)) ∷ [])))

-- ---- calls

-- a name that helper functions alone call
abbrev pub known_name : CExpr → Option (List ℕ)
known_name (plain.Var at name) = if is_known_to_helpers name then Some name else None
known_name f = None

-- a function that is always known, its argument in A
abbrev pub built_in_code : List ℕ → List Op
built_in_code name =
    if bytes_eq name (codes "getchar") then Getc A ∷ Mov B (register A) ∷ Set Eq B (constant 0) ∷ Sub A (register B) ∷ []
    else if bytes_eq name (codes "__builtin_getc") then Getc A ∷ []
    else if bytes_eq name (codes "putchar") then Putc (register A) ∷ []
    else if bytes_eq name (codes "exit") then Exit ∷ []
    else []

-- what helper functions alone call: a character is written, and a unit takes an operation
abbrev pub known_code : List ℕ → List Op
known_code name = if bytes_eq name piece_name then Putc (register A) ∷ [] else Mov A (constant 0) ∷ []

-- the code begins in block `back - 1` less its jumps; what is always known goes on in the next block
abbrev pub callee_code : ℕ → ℕ → Linking → Callee → (pointer argument arguments : List Op) → List Op
callee_code d back w (Direct name params) pointer argument arguments = arguments ++ call_at d back (w.entry name)
callee_code d back w (Known name params) pointer argument arguments = argument ++ (built_in_code name ++ Jump (constant back) ∷ [])
callee_code d back w Format pointer argument arguments = argument ++ Jump (constant back) ∷ []
callee_code d back w (Through params) pointer argument arguments = pointer ++ (save d ++ (arguments ++ call_through_at d back))

-- a call, from the code of the function's value, of its one argument and of all arguments in a frame
abbrev pub call_code : ℕ → ℕ → Linking → Option (List ℕ) → Callee → (pointer argument arguments : List Op) → List Op
call_code d back w (Some name) callee pointer argument arguments = argument ++ known_code name
call_code d back w None callee pointer argument arguments = callee_code d back w callee pointer argument arguments

-- ---- all expressions

abbrev mutual
  pub value_code : CExpr → Linking → Environment → ℕ → ℕ → List Op
  value_code (plain.Number at n unsigned) w here k d = load_to A (Exactly (n % 2 ^ 24))
  value_code (plain.Str at text) w here k d = load_to A (Exactly (w.literal w.owner here.literals_before))
  value_code (plain.Null at) w here k d = load_to A (Exactly 0)
  value_code (plain.Var at name) w here k d = loaded (named_direct w here name (entity_of here.scope name))
  value_code (plain.Unary at op a) w here k d =
      direct_or (direct (plain.Unary at op a) w here) (unary_code op (value_type_in here.scope a) (value_code a w here k d) (place_code a w here k d (value_code a w here k d)))
  value_code (plain.Step at op a) w here k d =
      pointed_by (known_place a w here) (place_code a w here k d (value_code a w here k d)) ++ (update_by (step_op op) (Exactly 1) ++ step_back op)
  value_code (plain.Binary at op a b) w here k d =
      binary_code op (is_signed op (value_type_in here.scope a) (value_type_in here.scope b)) k (truth_jumps a) (truth_jumps b)
      (λ holds target. truth_code a w here k d (value_code a w here k d) holds target)
      (λ holds target. truth_code b w (past a here) (k + truth_jumps a) d (value_code b w (past a here) (k + truth_jumps a) d) holds target)
      (operands d (is_quiet b) (direct a w here) (direct b w (past a here)) (value_code a w here k d) (λ d. value_code b w (past a here) (k + expr_jumps a) d))
  value_code (plain.Assign at op a b) w here k d =
      assignment_code op d (known_place a w here) (direct b w (past a here)) (place_code a w here k d (value_code a w here k d)) (λ d. value_code b w (past a here) (k + expr_jumps a) d)
  value_code (plain.Cond at a b c) w here k d =
      choice_code k (truth_jumps a) (expr_jumps b) (expr_jumps c) (λ target. truth_code a w here k d (value_code a w here k d) false target)
      (value_code b w (past a here) (k + truth_jumps a) d)
      (value_code c w (past b (past a here)) (k + truth_jumps a + expr_jumps b + 1) d)
  value_code (plain.Comma at a b) w here k d = value_code a w here k d ++ value_code b w (past a here) (k + expr_jumps a) d
  value_code (plain.Cast at t a) w here k d = value_code a w here k d
  value_code (plain.SizeTy at t) w here k d = load_to A (Exactly (constant_in here.scope (plain.SizeTy at t)))
  value_code (plain.SizeOf at a) w here k d = load_to A (Exactly (constant_in here.scope (plain.SizeOf at a)))
  value_code (plain.Index at a b) w here k d =
      sum_code (operands d (is_quiet b) (direct a w here) (direct b w (past a here)) (value_code a w here k d) (λ d. value_code b w (past a here) (k + expr_jumps a) d))
      ++ fetched (type_in here.scope (plain.Index at a b))
  value_code (plain.Call at f es) w here k d =
      call_code d (k + expr_jumps f + exprs_jumps es + 1) w (known_name f) (callee_in here.scope f) (value_code f w here k d)
      (argument_code es w (past f here) (k + expr_jumps f) d)
      (arguments_code es w (past f here) (k + expr_jumps f) (suc d))
  value_code (plain.Member at a m) w here k d =
      direct_or (direct (plain.Member at a m) w here)
      (place_code a w here k d (value_code a w here k d) ++ (moved_on (member_offset here.scope.tags (type_in here.scope a) m) ++ fetched (type_in here.scope (plain.Member at a m))))
  value_code (plain.Arrow at a m) w here k d =
      value_code a w here k d ++ (moved_on (member_offset here.scope.tags (pointee (value_type_in here.scope a)) m) ++ fetched (type_in here.scope (plain.Arrow at a m)))

  -- the address of the place that an expression is, whose value has this code
  pub place_code : CExpr → Linking → Environment → ℕ → ℕ → (value : List Op) → List Op
  place_code (plain.Var at name) w here k d value = load_to A (address_of (located w (meaning here.objects name)))
  place_code (plain.Unary at op a) w here k d value = value_code a w here k d
  place_code (plain.Index at a b) w here k d value =
      sum_code (operands d (is_quiet b) (direct a w here) (direct b w (past a here)) (value_code a w here k d) (λ d. value_code b w (past a here) (k + expr_jumps a) d))
  place_code (plain.Member at a m) w here k d value = place_code a w here k d (value_code a w here k d) ++ moved_on (member_offset here.scope.tags (type_in here.scope a) m)
  place_code (plain.Arrow at a m) w here k d value = value_code a w here k d ++ moved_on (member_offset here.scope.tags (pointee (value_type_in here.scope a)) m)
  place_code e w here k d value = value

  -- a jump to a block where the truth of an expression, whose value has this code, is this; it ends at a block
  pub truth_code : CExpr → Linking → Environment → ℕ → ℕ → (value : List Op) → Bool → ℕ → List Op
  truth_code (plain.Unary at op a) w here k d value holds target =
      unary_truth op holds target (λ holds target. truth_code a w here k d (value_code a w here k d) holds target) value
  truth_code (plain.Binary at op a b) w here k d value holds target =
      binary_truth op (is_signed op (value_type_in here.scope a) (value_type_in here.scope b)) holds target (k + truth_jumps a + truth_jumps b)
      (λ holds target. truth_code a w here k d (value_code a w here k d) holds target)
      (λ holds target. truth_code b w (past a here) (k + truth_jumps a) d (value_code b w (past a here) (k + truth_jumps a) d) holds target)
      (operands d (is_quiet b) (direct a w here) (direct b w (past a here)) (value_code a w here k d) (λ d. value_code b w (past a here) (k + expr_jumps a) d))
      value
  truth_code e w here k d value holds target = tested holds target value

  -- a function's one argument; more of them wait in the frame
  pub argument_code : CExprs → Linking → Environment → ℕ → ℕ → List Op
  argument_code plain.NoExpr w here k d = []
  argument_code (plain.MoreExpr e plain.NoExpr) w here k d = value_code e w here k d
  argument_code (plain.MoreExpr e es) w here k d =
      value_code e w here k d ++ (save d ++ (arguments_code es w (past e here) (k + expr_jumps e) (suc d) ++ restore A d))

  -- arguments, each in the frame's next word
  pub arguments_code : CExprs → Linking → Environment → ℕ → ℕ → List Op
  arguments_code plain.NoExpr w here k d = []
  arguments_code (plain.MoreExpr e es) w here k d = value_code e w here k d ++ (save d ++ arguments_code es w (past e here) (k + expr_jumps e) (suc d))

-- an expression whose value isn't used
abbrev pub unused : CExpr → CExpr
unused (plain.Step at step.PostInc a) = plain.Step at step.PreInc a
unused (plain.Step at step.PostDec a) = plain.Step at step.PreDec a
unused e = e

abbrev pub effect_code : CExpr → Linking → Environment → ℕ → ℕ → List Op
effect_code e w here k d = value_code (unused e) w here k d

-- a jump to a block where a condition is false
abbrev pub unless_code : CExpr → Linking → Environment → ℕ → ℕ → ℕ → List Op
unless_code e w here k d target = truth_code e w here k d (value_code e w here k d) false target

-- and where it is true
abbrev pub where_code : CExpr → Linking → Environment → ℕ → ℕ → ℕ → List Op
where_code e w here k d target = truth_code e w here k d (value_code e w here k d) true target
