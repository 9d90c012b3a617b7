-- C trees as flat code: small instructions on a stack of values, with jumps by distances.
use Rattle.std.specs.Prelude.{ℕ, zero, suc, ◌+◌, ◌%◌, ◌^◌, Bool, true, false, ◌==◌, List, [], ◌∷◌, ◌++◌, length, Option, Some, None, if◌then◌else◌, codes}
use Rattle.std.specs.Str.{bytes_eq}
use Rattle.c_syntax.specs.Plain as plain
use Rattle.c_syntax.specs.Words.{meaning}
use Rattle.c_syntax.specs.Plain.{CExpr, CExprs, CValue, CValues, CDecl, CStmt, CStmts, CPart, CParts}
use Rattle.c_syntax.specs.declared.tree.UnOp.{UnOp}
use Rattle.c_syntax.specs.declared.tree.StepOp.{StepOp}
use Rattle.c_syntax.specs.declared.tree.BinOp.{BinOp}
use Rattle.c_syntax.specs.declared.tree.UnOp.TheVariants as unary
use Rattle.c_syntax.specs.declared.tree.BinOp.TheVariants as binary
use Rattle.c_types.specs.Types.{CType, CTypes, MoreType, is_void, Tags, words_of}
use Rattle.c_types.specs.Scope.{Scope, Entity, Object, entity_of, entered}
use Rattle.c_types.specs.Expressions.{names_function, format_of}
use Rattle.c_types.specs.Declarations.{Slots, first_slot, next_slots, slots_of, takes_string}
use Rattle.c_eval.specs.State.{Value, Word, Null, Letter, Function, Missing, Cell}
use Rattle.c_eval.specs.Memory.{Kind}
use Rattle.c_eval.specs.Environment.{type_in, value_type_in, constant_in, object_type_in, pointee, member_offset, slot_kinds, type_or_nothing, block_objects, parts_objects, Environment, past, past_maybe, past_value, declaring, past_stmt, behind, behind_all, behind_part, in_block, Callee, Direct, Known, Format, Through, callee_in, Target, Case, Default}
use Rattle.c_eval.specs.Eval.{array_text}

pub data Instruction : Type 0 where
  -- values
  Push : (v : Value) → Instruction
  Drop : Instruction
  Use : Instruction
  Forget : Instruction
  Truth : Instruction
  Negate : Instruction
  Convert : (t : CType) → Instruction
  CheckWord : Instruction
  -- places: the object in a slot of the function's frame, one of file scope, or none
  Slot : (slot : ℕ) → Instruction
  Global : (object : ℕ) → Instruction
  Nowhere : Instruction
  Fetch : (t : CType) → Instruction
  Follow : (t : CType) → Instruction
  Member : (words : ℕ) → Instruction
  -- operators
  OneWord : (op : UnOp) → Instruction
  Operate : (tags : Tags) → (op : BinOp) → (t u : CType) → Instruction
  Step : (tags : Tags) → (op : StepOp) → (t : CType) → Instruction
  Assign : (t : CType) → Instruction
  Update : (tags : Tags) → (op : BinOp) → (t u : CType) → Instruction
  -- jumps past so many instructions, and back
  JumpUnless : (count : ℕ) → Instruction
  Jump : (count : ℕ) → Instruction
  Back : (count : ℕ) → Instruction
  JumpAt : (word count : ℕ) → Instruction
  -- calls
  Pay : Instruction
  BuiltIn : (name : List ℕ) → (params : CTypes) → (count : ℕ) → Instruction
  Call : (name : List ℕ) → (params : CTypes) → (count : ℕ) → Instruction
  CallThrough : (params : CTypes) → (count : ℕ) → Instruction
  Return : Instruction
  -- output: a byte, and what each conversion of a format writes of the value on top
  Put : (byte : ℕ) → Instruction
  Decimal Unsigned Character : Instruction
  -- a word becomes its digits in hex, the first on top, which are then written one after the other
  Hex Digits : Instruction
  -- a string is written a character at a time
  Text : Instruction
  -- so many values, the last one on top, come to stand the other way round
  Turn : (count : ℕ) → Instruction
  -- so many values are dropped; the call gave none
  Printed : (count : ℕ) → Instruction
  -- there is no value of the wanted kind
  Stuck : Instruction
  -- first values of the object in a slot
  First : (slot offset : ℕ) → (t : CType) → Instruction
  Clear : (slot offset : ℕ) → (kinds : List Kind) → Instruction
  Spell : (slot offset : ℕ) → (words : List ℕ) → Instruction
  -- what `break` and `continue` leave
  -- a block: its objects, and how many slots its names take
  Enter : (cells : List (List Cell)) → (slots : ℕ) → Instruction
  Leave : Instruction
  Loop : (again past : ℕ) → Instruction
  Switch : (past : ℕ) → Instruction
  Done : Instruction
  Break : Instruction
  Continue : Instruction
  -- the run ends
  End : Instruction

-- where code stands: in this function (none at file scope), with these objects of file scope
pub record Site : Type 0 where
  pub owner : Option (List ℕ)
  pub names : List (List ℕ × Option ℕ)

-- an environment of code has slots where one of a run has objects, and no names of file scope
abbrev pub object_code : Option (Option ℕ) → Option (Option ℕ) → Instruction
object_code (Some (Some slot)) file = Slot slot
object_code None (Some (Some o)) = Global o
object_code _ _ = Nowhere

abbrev pub place_of_name : Site → Environment → List ℕ → Instruction
place_of_name site here name = object_code (meaning here.objects name) (meaning site.names name)

abbrev pub count_of : CExprs → ℕ
count_of plain.NoExpr = 0
count_of (plain.MoreExpr e es) = suc (count_of es)

abbrev pub count_behind : CExprs → ℕ
count_behind plain.NoExpr = 0
count_behind (plain.MoreExpr e es) = count_of es

-- ---- expressions

abbrev pub name_code : Site → Environment → List ℕ → Option Entity → List Instruction
name_code site here name (Some (Object t)) = (place_of_name site here name ∷ []) ++ Fetch t ∷ []
name_code site here name _ = Push (Function name) ∷ []

abbrev pub unary_code : Scope → UnOp → CExpr → List Instruction → List Instruction → List Instruction
unary_code s unary.Address a value place = if names_function s a then value else place
unary_code s unary.Deref a value place = value ++ Follow (value_type_in s a) ∷ []
unary_code s unary.Not a value place = value ++ Negate ∷ []
unary_code s op a value place = value ++ OneWord op ∷ []

abbrev pub unary_place_code : UnOp → List Instruction → List Instruction
unary_place_code unary.Deref value = value
unary_place_code op value = Nowhere ∷ []

-- a test, and then the one or the other
abbrev pub choice_code : List Instruction → List Instruction → List Instruction → List Instruction
choice_code a yea nay = a ++ (JumpUnless (length yea + 1) ∷ (yea ++ (Jump (length nay) ∷ nay)))

abbrev pub binary_code : Tags → BinOp → CType → CType → List Instruction → List Instruction → List Instruction
binary_code tags binary.And t u a b = choice_code a (b ++ Truth ∷ []) (Push (Word 0) ∷ [])
binary_code tags binary.Or t u a b = choice_code a (Push (Word 1) ∷ []) (b ++ Truth ∷ [])
binary_code tags op t u a b = a ++ (b ++ Operate tags op t u ∷ [])

abbrev pub assign_code : Tags → Option BinOp → CType → CType → List Instruction → List Instruction → List Instruction
assign_code tags None t u place value = place ++ (value ++ Assign t ∷ [])
assign_code tags (Some op) t u place value = place ++ (value ++ Update tags op t u ∷ [])

-- a conversion takes the value on top
abbrev pub convert_code : ℕ → List Instruction
convert_code letter =
    if letter == 100 then Decimal ∷ []
    else if letter == 117 then Unsigned ∷ []
    else if letter == 120 then Hex ∷ Digits ∷ []
    else if letter == 99 then Character ∷ []
    else Text ∷ []

-- a format's characters and conversions, so many values being left for them, the first one on top
abbrev pub pieces : (percent : Bool) → List ℕ → ℕ → List Instruction
pieces percent [] left = Printed left ∷ []
pieces false (c ∷ format) left = if c == 37 then pieces true format left else Put c ∷ pieces false format left
pieces true (c ∷ format) zero = if c == 37 then Put c ∷ pieces false format zero else Stuck ∷ []
pieces true (c ∷ format) (suc left) = if c == 37 then Put c ∷ pieces false format (suc left) else convert_code c ++ pieces false format left

abbrev pub print_code : Option (List ℕ) → ℕ → List Instruction
print_code None count = Stuck ∷ []
print_code (Some format) count = Turn count ∷ pieces false format count

-- `puts` writes the string of its first argument, converted to the first parameter's type, and a line feed
abbrev pub first_converted : CTypes → List Instruction
first_converted (MoreType t ts) = Convert t ∷ []
first_converted _ = []

abbrev pub puts_code : CTypes → ℕ → List Instruction
puts_code params zero = Stuck ∷ []
puts_code params (suc count) = Turn (suc count) ∷ (first_converted params ++ (Text ∷ Put 10 ∷ Printed count ∷ Drop ∷ Push (Word 0) ∷ []))

abbrev pub known_code : List ℕ → CTypes → ℕ → List Instruction
known_code name params count = if bytes_eq name (codes "puts") then puts_code params count else BuiltIn name params count ∷ []

abbrev pub call_code : Callee → Option (List ℕ) → ℕ → ℕ → List Instruction → List Instruction → List Instruction → List Instruction
call_code (Direct name params) format n m pointer arguments printed = arguments ++ Call name params n ∷ []
call_code (Known name params) format n m pointer arguments printed = arguments ++ (Pay ∷ known_code name params n)
call_code Format format n m pointer arguments printed = printed ++ (Pay ∷ print_code format m)
call_code (Through params) format n m pointer arguments printed = pointer ++ (arguments ++ CallThrough params n ∷ [])

abbrev mutual
  -- code that leaves the value of an expression on the stack
  pub value_code : CExpr → Site → Environment → List Instruction
  value_code (plain.Number at n unsigned) site here = Push (Word (n % 2 ^ 24)) ∷ []
  value_code (plain.Str at text) site here = Push (Letter site.owner here.literals_before text 0) ∷ []
  value_code (plain.Null at) site here = Push Null ∷ []
  value_code (plain.Var at name) site here = name_code site here name (entity_of here.scope name)
  value_code (plain.Unary at op a) site here = unary_code here.scope op a (value_code a site here ++ Use ∷ []) (place_code a site here)
  value_code (plain.Step at op a) site here = place_code a site here ++ Step here.scope.tags op (type_in here.scope a) ∷ []
  value_code (plain.Binary at op a b) site here =
      binary_code here.scope.tags op (value_type_in here.scope a) (value_type_in here.scope b) (value_code a site here ++ Use ∷ []) (value_code b site (past a here) ++ Use ∷ [])
  value_code (plain.Assign at op a b) site here =
      assign_code here.scope.tags op (type_in here.scope a) (value_type_in here.scope b) (place_code a site here) (value_code b site (past a here) ++ Use ∷ [])
  value_code (plain.Cond at a b c) site here =
      choice_code (value_code a site here ++ Use ∷ []) (value_code b site (past a here)) (value_code c site (past b (past a here))) ++ Convert (type_in here.scope (plain.Cond at a b c)) ∷ []
  value_code (plain.Comma at a b) site here = value_code a site here ++ (Drop ∷ value_code b site (past a here))
  value_code (plain.Cast at t a) site here = value_code a site here ++ (if is_void (type_in here.scope (plain.Cast at t a)) then Forget else Use) ∷ []
  value_code (plain.SizeTy at t) site here = Push (Word (constant_in here.scope (plain.SizeTy at t))) ∷ []
  value_code (plain.SizeOf at a) site here = Push (Word (constant_in here.scope (plain.SizeOf at a))) ∷ []
  value_code (plain.Index at a b) site here =
      ((value_code a site here ++ Use ∷ []) ++ ((value_code b site (past a here) ++ Use ∷ []) ++ Operate here.scope.tags binary.Add (value_type_in here.scope a) (value_type_in here.scope b) ∷ []))
      ++ Fetch (type_in here.scope (plain.Index at a b)) ∷ []
  value_code (plain.Call at f es) site here =
      call_code (callee_in here.scope f) (format_of es) (count_of es) (count_behind es) (value_code f site here ++ Use ∷ []) (values_code es site (past f here)) (values_code_behind es site here)
  value_code (plain.Member at a m) site here =
      (place_code a site here ++ Member (member_offset here.scope.tags (type_in here.scope a) m) ∷ []) ++ Fetch (type_in here.scope (plain.Member at a m)) ∷ []
  value_code (plain.Arrow at a m) site here =
      ((value_code a site here ++ Use ∷ []) ++ Member (member_offset here.scope.tags (pointee (value_type_in here.scope a)) m) ∷ []) ++ Fetch (type_in here.scope (plain.Arrow at a m)) ∷ []

  -- code that leaves the pointer to a place
  pub place_code : CExpr → Site → Environment → List Instruction
  place_code (plain.Str at text) site here = Push (Letter site.owner here.literals_before text 0) ∷ []
  place_code (plain.Var at name) site here = place_of_name site here name ∷ []
  place_code (plain.Unary at op a) site here = unary_place_code op (value_code a site here ++ Use ∷ [])
  place_code (plain.Index at a b) site here =
      (value_code a site here ++ Use ∷ []) ++ ((value_code b site (past a here) ++ Use ∷ []) ++ Operate here.scope.tags binary.Add (value_type_in here.scope a) (value_type_in here.scope b) ∷ [])
  place_code (plain.Member at a m) site here = place_code a site here ++ Member (member_offset here.scope.tags (type_in here.scope a) m) ∷ []
  place_code (plain.Arrow at a m) site here = (value_code a site here ++ Use ∷ []) ++ Member (member_offset here.scope.tags (pointee (value_type_in here.scope a)) m) ∷ []
  place_code _ site here = Nowhere ∷ []

  pub values_code : CExprs → Site → Environment → List Instruction
  values_code plain.NoExpr site here = []
  values_code (plain.MoreExpr e es) site here = (value_code e site here ++ Use ∷ []) ++ values_code es site (past e here)

  pub values_code_behind : CExprs → Site → Environment → List Instruction
  values_code_behind plain.NoExpr site here = []
  values_code_behind (plain.MoreExpr e es) site here = values_code es site here

-- ---- first values

abbrev mutual
  pub first_code : CValue → CType → (slot offset : ℕ) → Site → Environment → List Instruction
  first_code (plain.One e) t slot k site here = if takes_string t e then Spell slot k (array_text t e) ∷ [] else (value_code e site here ++ Use ∷ []) ++ First slot k t ∷ []
  first_code (plain.Many vs) t slot k site here = firsts_code vs (slots_of here.scope.tags (Some t)) slot k site here

  pub firsts_code : CValues → Slots → (slot offset : ℕ) → Site → Environment → List Instruction
  firsts_code plain.NoValue slots slot k site here = Clear slot k (slot_kinds here.scope.tags slots) ∷ []
  firsts_code (plain.MoreValue v vs) slots slot k site here =
      first_code v (type_or_nothing (first_slot slots)) slot k site here
      ++ firsts_code vs (next_slots slots) slot (k + words_of here.scope.tags (type_or_nothing (first_slot slots))) site (past_value v here)

abbrev pub local_code : CDecl → Site → Environment → Option CValue → List Instruction
local_code d site here None = []
local_code d site here (Some v) = first_code v (object_type_in here.scope d) here.next 0 site (declaring d here)

-- ---- statements

abbrev pub maybe_test_code : Option CExpr → Site → Environment → List Instruction
maybe_test_code None site here = Push (Word 1) ∷ []
maybe_test_code (Some e) site here = value_code e site here ++ Use ∷ []

abbrev pub maybe_effect_code : Option CExpr → Site → Environment → List Instruction
maybe_effect_code None site here = []
maybe_effect_code (Some e) site here = value_code e site here ++ Drop ∷ []

-- a loop: a `continue` goes on with the step
abbrev pub loop_code : List Instruction → List Instruction → List Instruction → List Instruction
loop_code test step body =
    let turn = JumpUnless (length body + length step + 2) ∷ Pay ∷ (body ++ (step ++ Back (length test + length body + length step + 3) ∷ Done ∷ [])) in
    Loop (length test + length body + 2) (length test + length turn) ∷ (test ++ turn)

-- the test comes behind the body
abbrev pub do_code : List Instruction → List Instruction → List Instruction
do_code body test =
    Loop (length body + 1) (length body + length test + 4) ∷ Pay ∷ (body ++ (test ++ JumpUnless 1 ∷ Back (length body + length test + 3) ∷ Done ∷ []))

abbrev pub return_code : Option CExpr → Site → Environment → List Instruction
return_code None site here = Push Missing ∷ Return ∷ []
return_code (Some e) site here = (value_code e site here ++ Use ∷ []) ++ Return ∷ []

-- a label of a `switch`: its word, or the default, and where it stands behind the first part
pub record Label : Type 0 where
  pub word : Option ℕ
  pub at : ℕ

abbrev pub label_of : CPart → Environment → ℕ → List Label
label_of (plain.Label pos (Some e)) here at = record { word = Some (constant_in here.scope e); at = at } ∷ []
label_of (plain.Label pos None) here at = record { word = None; at = at } ∷ []
label_of (plain.Item t) here at = []

-- a label that a `switch` goes to
abbrev pub is_wanted : Target → Option ℕ → Bool
is_wanted (Case word) (Some other) = other == word
is_wanted Default None = true
is_wanted target label = false

-- how far the first such label stands behind the first part; without one a jump goes past the parts
abbrev pub label_place : Target → List Label → ℕ → ℕ
label_place target [] past = past
label_place target (l ∷ ls) past = if is_wanted target l.word then l.at else label_place target ls past

abbrev pub case_jump : Option ℕ → ℕ → List Instruction
case_jump None count = []
case_jump (Some word) count = JumpAt word count ∷ []

-- the value on top is compared with each case; else it is dropped, and a jump goes on
abbrev pub case_jumps : List Label → ℕ → List Instruction
case_jumps [] otherwise = Drop ∷ Jump otherwise ∷ []
case_jumps (l ∷ ls) otherwise = case_jump l.word (l.at + length (case_jumps ls otherwise)) ++ case_jumps ls otherwise

-- ---- slots

-- the slots that names take which a statement declares in its block: a declaration takes one, wherever it stands
abbrev pub slots_for : CStmt → ℕ
slots_for (plain.Local d) = 1
slots_for (plain.If e t) = slots_for t
slots_for (plain.IfElse e t u) = slots_for t + slots_for u
slots_for (plain.While e t) = slots_for t
slots_for (plain.Do t e) = slots_for t
slots_for (plain.For (plain.Block ss) test step t) = 0
slots_for (plain.For first test step t) = slots_for first + slots_for t
slots_for _ = 0

abbrev pub slots_for_all : CStmts → ℕ
slots_for_all plain.NoStmt = 0
slots_for_all (plain.MoreStmt t ts) = slots_for t + slots_for_all ts

abbrev pub slots_for_part : CPart → ℕ
slots_for_part (plain.Label at e) = 0
slots_for_part (plain.Item t) = slots_for t

abbrev pub slots_for_parts : CParts → ℕ
slots_for_parts plain.NoPart = 0
slots_for_parts (plain.MorePart p ps) = slots_for_part p + slots_for_parts ps

abbrev mutual
  -- the first slot that is free is given
  pub stmt_code : CStmt → ℕ → Site → Environment → List Instruction
  stmt_code (plain.Block ss) free site here =
      Enter (block_objects (entered here.scope) ss) (slots_for_all ss) ∷ (stmts_code ss (free + slots_for_all ss) site (in_block free here) ++ Leave ∷ [])
  stmt_code (plain.Local d) free site here = local_code d site here d.first
  stmt_code (plain.Do_expr e) free site here = value_code e site here ++ Drop ∷ []
  stmt_code plain.Empty free site here = []
  stmt_code (plain.If e t) free site here = let yea = stmt_code t free site (past e here) in (value_code e site here ++ Use ∷ []) ++ (JumpUnless (length yea) ∷ yea)
  stmt_code (plain.IfElse e t u) free site here =
      choice_code (value_code e site here ++ Use ∷ []) (stmt_code t free site (past e here)) (stmt_code u free site (past_stmt t (past e here)))
  stmt_code (plain.While e t) free site here = loop_code (value_code e site here ++ Use ∷ []) [] (stmt_code t free site (past e here))
  stmt_code (plain.Do t e) free site here = do_code (stmt_code t free site here) (value_code e site (past_stmt t here) ++ Use ∷ [])
  stmt_code (plain.For (plain.Block ss) test step t) free site here =
      let inner = behind_all ss (in_block free here) in
      let more = free + (slots_for_all ss + slots_for t) in
      Enter (block_objects (entered here.scope) ss) (slots_for_all ss + slots_for t) ∷ ((stmts_code ss more site (in_block free here)
      ++ loop_code (maybe_test_code test site inner) (maybe_effect_code step site (past_maybe test inner)) (stmt_code t more site (past_maybe step (past_maybe test inner)))) ++ Leave ∷ [])
  stmt_code (plain.For first test step t) free site here =
      let inner = behind first here in
      stmt_code first free site here ++ loop_code (maybe_test_code test site inner) (maybe_effect_code step site (past_maybe test inner)) (stmt_code t free site (past_maybe step (past_maybe test inner)))
  stmt_code (plain.Return at e) free site here = return_code e site here
  stmt_code (plain.Break at) free site here = Break ∷ []
  stmt_code (plain.Continue at) free site here = Continue ∷ []
  -- the table of labels stands before the parts; its jumps tell how far each label is
  stmt_code (plain.Switch e ps) free site here =
      let inner = in_block free (past e here) in
      let body = parts_code ps (free + slots_for_parts ps) site inner in
      let jumps = case_jumps (labels_in ps (free + slots_for_parts ps) site inner 0) (label_place Default (labels_in ps (free + slots_for_parts ps) site inner 0) (length body)) in
      (value_code e site here ++ Use ∷ [])
      ++ (CheckWord ∷ Switch (length jumps + length body + 3) ∷ Enter (parts_objects (entered here.scope) ps) (slots_for_parts ps) ∷ (jumps ++ (body ++ Leave ∷ Done ∷ [])))

  pub stmts_code : CStmts → ℕ → Site → Environment → List Instruction
  stmts_code plain.NoStmt free site here = []
  stmts_code (plain.MoreStmt t ts) free site here = stmt_code t free site here ++ stmts_code ts free site (behind t here)

  pub part_code : CPart → ℕ → Site → Environment → List Instruction
  part_code (plain.Label at e) free site here = []
  part_code (plain.Item t) free site here = stmt_code t free site here

  pub parts_code : CParts → ℕ → Site → Environment → List Instruction
  parts_code plain.NoPart free site here = []
  parts_code (plain.MorePart p ps) free site here = part_code p free site here ++ parts_code ps free site (behind_part p here)

  -- the labels, each with how far it stands behind the first part
  pub labels_in : CParts → ℕ → Site → Environment → ℕ → List Label
  labels_in plain.NoPart free site here at = []
  labels_in (plain.MorePart p ps) free site here at = label_of p here at ++ labels_in ps free site (behind_part p here) (at + length (part_code p free site here))
