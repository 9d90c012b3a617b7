-- What expressions and statements do, by recursion on their trees.
use Rattle.std.specs.Prelude.{ℕ, zero, suc, ◌+◌, ◌-◌, ◌%◌, ◌^◌, Bool, true, not, List, [], ◌∷◌, ◌++◌, length, replicate, Option, Some, None, if◌then◌else◌}
use Rattle.c_syntax.specs.Plain as plain
use Rattle.c_syntax.specs.Plain.{CExpr, CExprs, CValue, CValues, CDecl, CStmt, CStmts, CPart, CParts}
use Rattle.c_syntax.specs.declared.tree.UnOp.{UnOp}
use Rattle.c_syntax.specs.declared.tree.StepOp.{StepOp}
use Rattle.c_syntax.specs.declared.tree.BinOp.{BinOp}
use Rattle.c_syntax.specs.declared.tree.UnOp.TheVariants as unary
use Rattle.c_syntax.specs.declared.tree.StepOp.TheVariants as step
use Rattle.c_syntax.specs.declared.tree.BinOp.TheVariants as binary
use Rattle.c_syntax.specs.Words.{meaning}
use Rattle.c_types.specs.Types.{CType, Int, Array, is_void, Tags, words_of}
use Rattle.c_types.specs.Scope.{Scope, Entity, Object, entity_of, entered}
use Rattle.c_types.specs.Expressions.{names_function, format_of}
use Rattle.c_types.specs.Declarations.{Slots, first_slot, next_slots, slots_of, takes_string}
use Rattle.c_eval.specs.State.{Value, Word, Null, Point, Letter, Function, Missing, OutsideObject, OtherKind, NullCall, Run}
use Rattle.c_eval.specs.Run.{◌>>=◌, give, undefined, choose, paid, stop}
use Rattle.c_eval.specs.Memory.{Kind, Number, kind_of, zero_of, offset_of, at_offset, load, store, within, member_at}
use Rattle.c_eval.specs.Operators.{used, of_word, is_true, truth_value, converted, all_converted, sum, operated, combined, on_word, pointer_to, value_at, pointed_value, assigned, updated}
use Rattle.c_eval.specs.Environment.{type_in, value_type_in, constant_in, object_type_in, pointee, member_offset, slot_kinds, type_or_nothing, block_objects, parts_objects, Environment, past, past_maybe, past_value, declaring, past_stmt, behind, behind_all, behind_part, in_block, Callee, Direct, Known, Format, Through, callee_in, Target, is_target, target_of}
use Rattle.c_eval.specs.BuiltIns.{printf, built_in}

-- what a part of a text is evaluated with
pub record World : Type 0 where
  pub input : List ℕ
  -- the function whose body it is
  pub owner : Option (List ℕ)
  -- what a call of a function of the text does
  pub calls : List ℕ → List Value → Run Value
  -- the function is a helper
  pub inner : Bool

-- ---- expressions

-- the place of a name is the start of its object; a parameter without an argument has none
unfoldable pub place_named : Option (Option ℕ) → Run Value
place_named (Some (Some o)) = give (Point o 0)
place_named _ = undefined OutsideObject

-- a name is worth what its object holds; a function's name is a pointer to it
unfoldable pub value_named : World → Environment → List ℕ → Option Entity → Run Value
value_named w here name (Some (Object t)) = place_named (meaning here.objects name) >>= value_at w.inner t
value_named w here name _ = give (Function name)

-- `&` takes the place, `*` goes where the pointer points
unfoldable pub unary_value : World → Scope → UnOp → CExpr → Run Value → Run Value → Run Value
unary_value w s unary.Address a value place = if names_function s a then value else place >>= pointer_to w.inner
unary_value w s unary.Deref a value place = value >>= pointed_value w.inner (value_type_in s a)
unary_value w s unary.Not a value place = value >>= λ v. give (truth_value (not (is_true v)))
unary_value w s op a value place = value >>= on_word op

-- `*` is a place, where its operand points
unfoldable pub unary_place : UnOp → Run Value → Run Value
unary_place unary.Deref value = value
unary_place op value = undefined OutsideObject

-- `++` adds, `--` takes
abbrev pub step_op : StepOp → BinOp
step_op step.PreInc = binary.Add
step_op step.PreDec = binary.Sub
step_op step.PostInc = binary.Add
step_op step.PostDec = binary.Sub

-- before the operand a step gives the new value, behind it the old one
abbrev pub step_value : StepOp → Value → Value → Value
step_value step.PreInc old new = new
step_value step.PreDec old new = new
step_value step.PostInc old new = old
step_value step.PostDec old new = old

-- a step adds or takes 1
unfoldable pub stepped : World → Tags → StepOp → CType → Run Value → Run Value
stepped w tags op t place =
    place >>= λ p. load (kind_of t) p >>= λ old. operated tags (step_op op) t Int old (Word 1) >>= λ new.
    assigned t p new >>= λ _. give (step_value op old new)

-- the place comes first, then the right side
unfoldable pub assignment : World → Tags → Option BinOp → CType → CType → Run Value → Run Value → Run Value
assignment w tags None t u place value = place >>= λ p. value >>= λ v. assigned t p v
assignment w tags (Some op) t u place value = place >>= λ p. value >>= λ y. updated tags op t u p y

-- a cast to void uses nothing
unfoldable pub cast_value : CType → Run Value → Run Value
cast_value t value = if is_void t then (value >>= λ _. give Missing) else (value >>= used)

-- an element is what the sum of a pointer and a number points to
unfoldable pub element : World → Tags → CType → CType → Run Value → Run Value → Run Value
element w tags t u a b = a >>= λ x. b >>= λ y. sum tags t u x y

-- a call through a pointer: its unit is spent before null is told
unfoldable pub call_through : World → Value → List Value → Run Value
call_through w (Function name) vs = w.calls name vs
call_through w Null vs = paid w.inner (undefined NullCall)
call_through w p vs = paid w.inner (undefined OtherKind)

-- the pointer comes first, then the arguments from left to right, and then the call; a format is no argument
unfoldable pub call : World → Callee → Option (List ℕ) → Run Value → Run (List Value) → Run (List Value) → Run Value
call w (Direct name params) format pointer arguments printed = arguments >>= λ vs. w.calls name (all_converted params vs)
call w (Known name params) format pointer arguments printed = arguments >>= λ vs. paid w.inner (built_in w.input w.inner name (all_converted params vs))
call w Format format pointer arguments printed = printed >>= λ vs. paid w.inner (printf w.inner format vs)
call w (Through params) format pointer arguments printed = pointer >>= λ p. arguments >>= λ vs. call_through w p (all_converted params vs)

abbrev mutual
  -- what an expression gives; `used` stands where its value is used
  pub value_of : CExpr → World → Environment → Run Value
  value_of (plain.Number at n unsigned) w here = give (Word (n % 2 ^ 24))
  value_of (plain.Str at text) w here = give (Letter w.owner here.literals_before text 0)
  value_of (plain.Null at) w here = give Null
  value_of (plain.Var at name) w here = value_named w here name (entity_of here.scope name)
  value_of (plain.Unary at op a) w here = unary_value w here.scope op a (value_of a w here >>= used) (place_of a w here)
  value_of (plain.Step at op a) w here = stepped w here.scope.tags op (type_in here.scope a) (place_of a w here)
  value_of (plain.Binary at op a b) w here =
      combined here.scope.tags op (value_type_in here.scope a) (value_type_in here.scope b) (value_of a w here >>= used) (value_of b w (past a here) >>= used)
  value_of (plain.Assign at op a b) w here =
      assignment w here.scope.tags op (type_in here.scope a) (value_type_in here.scope b) (place_of a w here) (value_of b w (past a here) >>= used)
  -- of the two branches the chosen one is evaluated
  value_of (plain.Cond at a b c) w here =
      value_of a w here >>= used >>= λ x. choose (is_true x) (value_of b w (past a here)) (value_of c w (past b (past a here))) >>= λ v.
      give (converted (type_in here.scope (plain.Cond at a b c)) v)
  value_of (plain.Comma at a b) w here = value_of a w here >>= λ _. value_of b w (past a here)
  value_of (plain.Cast at t a) w here = cast_value (type_in here.scope (plain.Cast at t a)) (value_of a w here)
  value_of (plain.SizeTy at t) w here = give (Word (constant_in here.scope (plain.SizeTy at t)))
  value_of (plain.SizeOf at a) w here = give (Word (constant_in here.scope (plain.SizeOf at a)))
  value_of (plain.Index at a b) w here =
      element w here.scope.tags (value_type_in here.scope a) (value_type_in here.scope b) (value_of a w here >>= used) (value_of b w (past a here) >>= used)
      >>= value_at w.inner (type_in here.scope (plain.Index at a b))
  value_of (plain.Call at f es) w here =
      call w (callee_in here.scope f) (format_of es) (value_of f w here >>= used) (values_of es w (past f here)) (values_behind es w here)
  value_of (plain.Member at a m) w here =
      place_of a w here >>= member_at (member_offset here.scope.tags (type_in here.scope a) m) >>= value_at w.inner (type_in here.scope (plain.Member at a m))
  value_of (plain.Arrow at a m) w here =
      value_of a w here >>= used >>= member_at (member_offset here.scope.tags (pointee (value_type_in here.scope a)) m)
      >>= value_at w.inner (type_in here.scope (plain.Arrow at a m))

  -- the pointer to the place that an expression is
  pub place_of : CExpr → World → Environment → Run Value
  place_of (plain.Str at text) w here = give (Letter w.owner here.literals_before text 0)
  place_of (plain.Var at name) w here = place_named (meaning here.objects name)
  place_of (plain.Unary at op a) w here = unary_place op (value_of a w here >>= used)
  place_of (plain.Index at a b) w here =
      element w here.scope.tags (value_type_in here.scope a) (value_type_in here.scope b) (value_of a w here >>= used) (value_of b w (past a here) >>= used)
  place_of (plain.Member at a m) w here = place_of a w here >>= member_at (member_offset here.scope.tags (type_in here.scope a) m)
  place_of (plain.Arrow at a m) w here = value_of a w here >>= used >>= member_at (member_offset here.scope.tags (pointee (value_type_in here.scope a)) m)
  place_of _ w here = undefined OutsideObject

  -- arguments are evaluated from left to right
  pub values_of : CExprs → World → Environment → Run (List Value)
  values_of plain.NoExpr w here = give []
  values_of (plain.MoreExpr e es) w here = value_of e w here >>= used >>= λ v. values_of es w (past e here) >>= λ vs. give (v ∷ vs)

  -- those behind a format
  pub values_behind : CExprs → World → Environment → Run (List Value)
  values_behind plain.NoExpr w here = give []
  values_behind (plain.MoreExpr e es) w here = values_of es w here

-- an expression whose value is used
unfoldable pub used_value : CExpr → World → Environment → Run Value
used_value e w here = value_of e w here >>= used

-- a condition is true where its value isn't 0 or null
unfoldable pub condition : CExpr → World → Environment → Run Bool
condition e w here = value_of e w here >>= used >>= λ v. give (is_true v)

-- ---- first values

-- cells become 0 or null
unfoldable pub clear : List Kind → Value → Run (Unit {0})
clear [] p = give tt
clear (kind ∷ kinds) p = store kind p (zero_of kind) >>= λ _. clear kinds (at_offset p (suc (offset_of p)))

-- cells become these words
unfoldable pub spell : List ℕ → Value → Run (Unit {0})
spell [] p = give tt
spell (c ∷ cs) p = store Number p (Word c) >>= λ _. spell cs (at_offset p (suc (offset_of p)))

-- the length of an array
abbrev pub array_length : CType → ℕ
array_length (Array t n) = n
array_length _ = 0

-- the bytes of a string
abbrev pub text_in : CExpr → List ℕ
text_in (plain.Str at text) = text
text_in _ = []

-- a string in a char array, with zeros behind it
abbrev pub array_text : CType → CExpr → List ℕ
array_text t e = text_in e ++ replicate (array_length t - length (text_in e)) 0

abbrev mutual
  -- a first value goes to an object's cells one after the other; what is missing is 0 or null
  pub initialise : CValue → CType → Value → World → Environment → Run (Unit {0})
  initialise (plain.One e) t p w here = if takes_string t e then spell (array_text t e) p else used_value e w here >>= λ v. assigned t p v >>= λ _. give tt
  initialise (plain.Many vs) t p w here = initialise_all vs (slots_of here.scope.tags (Some t)) p w here

  pub initialise_all : CValues → Slots → Value → World → Environment → Run (Unit {0})
  initialise_all plain.NoValue slots p w here = clear (slot_kinds here.scope.tags slots) p
  initialise_all (plain.MoreValue v vs) slots p w here =
      initialise v (type_or_nothing (first_slot slots)) p w here >>= λ _.
      initialise_all vs (next_slots slots) (at_offset p (offset_of p + words_of here.scope.tags (type_or_nothing (first_slot slots)))) w (past_value v here)

-- a declaration sets its object where it has a first value, and else does nothing
unfoldable pub first_value : CDecl → World → Environment → Option CValue → Run (Unit {0})
first_value d w here None = give tt
first_value d w here (Some v) = initialise v (object_type_in here.scope d) (Point here.next 0) w (declaring d here)

-- ---- statements

-- how a statement ends
pub data Flow : Type 0 where
  Next Broke Continued : Flow
  Returned : (v : Value) → Flow

-- what follows a statement is left out where the flow leaves the block
unfoldable pub go_on : Flow → Run Flow → Run Flow
go_on Next m = m
go_on flow m = give flow

-- what follows a loop's body
unfoldable pub turned : Flow → Run Flow → Run Flow
turned Next m = m
turned Continued m = m
turned Broke m = give Next
turned (Returned v) m = give (Returned v)

-- a `break` ends a `switch`
abbrev pub behind_switch : Flow → Flow
behind_switch Broke = Next
behind_switch flow = flow

-- a turn costs a unit, which is spent behind the condition and before the body
unfoldable pub loop : (inner : Bool) → (deep : ℕ) → Run Bool → Run (Unit {0}) → Run Flow → Run Flow
loop inner zero test step body = stop
loop inner (suc n) test step body = test >>= λ b. choose b (paid inner (body >>= λ flow. turned flow (step >>= λ _. loop inner n test step body))) (give Next)

-- `do` has its condition behind the body
unfoldable pub do_loop : (inner : Bool) → (deep : ℕ) → Run Bool → Run Flow → Run Flow
do_loop inner zero test body = stop
do_loop inner (suc n) test body = paid inner (body >>= λ flow. turned flow (test >>= λ b. choose b (do_loop inner n test body) (give Next)))

-- a missing condition is true
unfoldable pub maybe_condition : Option CExpr → World → Environment → Run Bool
maybe_condition None w here = give true
maybe_condition (Some e) w here = condition e w here

-- an expression whose value isn't used
unfoldable pub maybe_effect : Option CExpr → World → Environment → Run (Unit {0})
maybe_effect None w here = give tt
maybe_effect (Some e) w here = value_of e w here >>= λ _. give tt

-- a `return` gives its value, or none
unfoldable pub returned : Option CExpr → World → Environment → Run Flow
returned None w here = give (Returned Missing)
returned (Some e) w here = used_value e w here >>= λ v. give (Returned v)

abbrev mutual
  -- what a statement does
  pub does : CStmt → ℕ → World → Environment → Run Flow
  does (plain.Block ss) deep w here = within (block_objects (entered here.scope) ss) (λ n. all_do ss deep w (in_block n here))
  does (plain.Local d) deep w here = first_value d w here d.first >>= λ _. give Next
  -- a statement uses nothing
  does (plain.Do_expr e) deep w here = value_of e w here >>= λ _. give Next
  does plain.Empty deep w here = give Next
  does (plain.If e t) deep w here = condition e w here >>= λ b. choose b (does t deep w (past e here)) (give Next)
  does (plain.IfElse e t u) deep w here = condition e w here >>= λ b. choose b (does t deep w (past e here)) (does u deep w (past_stmt t (past e here)))
  does (plain.While e t) deep w here = loop w.inner deep (condition e w here) (give tt) (does t deep w (past e here))
  does (plain.Do t e) deep w here = do_loop w.inner deep (condition e w (past_stmt t here)) (does t deep w here)
  -- the declarations in a head live for the whole `for`
  does (plain.For (plain.Block ss) test step t) deep w here =
      within (block_objects (entered here.scope) ss) (λ n.
      let inner = behind_all ss (in_block n here) in
      all_do ss deep w (in_block n here) >>= λ flow.
      go_on flow (loop w.inner deep (maybe_condition test w inner) (maybe_effect step w (past_maybe test inner)) (does t deep w (past_maybe step (past_maybe test inner)))))
  does (plain.For first test step t) deep w here =
      let inner = behind first here in
      does first deep w here >>= λ flow.
      go_on flow (loop w.inner deep (maybe_condition test w inner) (maybe_effect step w (past_maybe test inner)) (does t deep w (past_maybe step (past_maybe test inner))))
  does (plain.Return at e) deep w here = returned e w here
  does (plain.Break at) deep w here = give Broke
  does (plain.Continue at) deep w here = give Continued
  -- the value is evaluated once; a declaration that is jumped over leaves its object unset
  does (plain.Switch e ps) deep w here =
      used_value e w here >>= λ v. of_word v (λ x.
      within (parts_objects (entered here.scope) ps) (λ n. parts_from (target_of x (entered here.scope) ps) ps deep w (in_block n (past e here))) >>= λ flow.
      give (behind_switch flow))

  -- statements one after the other
  pub all_do : CStmts → ℕ → World → Environment → Run Flow
  all_do plain.NoStmt deep w here = give Next
  all_do (plain.MoreStmt t ts) deep w here = does t deep w here >>= λ flow. go_on flow (all_do ts deep w (behind t here))

  -- a label does nothing by itself
  pub part_does : CPart → ℕ → World → Environment → Run Flow
  part_does (plain.Label at e) deep w here = give Next
  part_does (plain.Item t) deep w here = does t deep w here

  -- a switch runs on through later labels
  pub parts_do : CParts → ℕ → World → Environment → Run Flow
  parts_do plain.NoPart deep w here = give Next
  parts_do (plain.MorePart p ps) deep w here = part_does p deep w here >>= λ flow. go_on flow (parts_do ps deep w (behind_part p here))

  -- it goes on behind its label; without one it does nothing
  pub parts_from : Target → CParts → ℕ → World → Environment → Run Flow
  parts_from target plain.NoPart deep w here = give Next
  parts_from target (plain.MorePart p ps) deep w here =
      if is_target target here.scope p then parts_do ps deep w (behind_part p here) else parts_from target ps deep w (behind_part p here)
