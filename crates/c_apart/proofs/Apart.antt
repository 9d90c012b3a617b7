-- What a helper function does, with its own objects in a list of their own: nothing is said of what no helper function has.
use Rattle.std.specs.Prelude.{ℕ, zero, suc, ◌+◌, ◌-◌, ◌%◌, ◌^◌, Bool, true, false, ◌||◌, ◌&&◌, nat_le, cond, List, [], ◌∷◌, ◌++◌, length, map, take, drop, slice_get, slice_set, Option, Some, None, codes}
use Rattle.std.specs.Str.{bytes_eq}
use Rattle.c_syntax.specs.Plain as plain
use Rattle.c_syntax.specs.Plain.{CExpr, CExprs, CValue, CDecl, CStmt, CStmts}
use Rattle.c_syntax.specs.declared.tree.UnOp.{UnOp}
use Rattle.c_syntax.specs.declared.tree.BinOp.{BinOp}
use Rattle.c_syntax.specs.declared.tree.UnOp.TheVariants as unary
use Rattle.c_syntax.specs.declared.tree.BinOp.TheVariants as binary
use Rattle.c_syntax.specs.Words.{meaning}
use Rattle.c_types.specs.Types.{CType, Array, Struct, is_pointer, is_null, is_void, Tags}
use Rattle.c_types.specs.Scope.{Entity, Object, entity_of, entered}
use Rattle.c_types.specs.Declarations.{takes_string}
use Rattle.c_eval.specs.State as state
use Rattle.c_eval.specs.State.{Value, Word, Missing, Cell, Unset, Holds, State, Outcome, Gives, Ended, Going, Undefined, Run}
use Rattle.c_eval.specs.Run.{put}
use Rattle.c_eval.specs.Memory.{Kind, kind_of, is_of, holds_no_other, live_cells, cell_in, with_cell, live_object, dead, store}
use Rattle.c_eval.specs.Operators.{used, is_true, truth_value, converted, all_converted, operated, on_words, on_word, pointed_value}
use Rattle.c_eval.specs.Environment.{type_in, value_type_in, object_type_in, block_objects, Environment, past, declaring, behind, in_block, Callee, Direct, Known, Format, Through, callee_in}
use Rattle.c_eval.specs.Eval.{Flow, Next, Broke, Continued, Returned}
use Rattle.c_eval.specs.Text.{Definition}
use Rattle.c_eval.specs.Meaning.{argument_objects, body_environment}

pub data Out (A : Type 0) : Type 0 where
  Done : (a : A) → (st : State) → (own : List state.Object) → Out A
  -- the run's units are used up
  Paused : (st : State) → (own : List state.Object) → Out A
  -- nothing is said
  Stuck : Out A

-- from a moment without the own objects, and these
abbrev pub Part : Type 0 → Type 0
Part A = State → List state.Object → Out A

unfoldable pub p_after : {A B : Type 0} → Out A → (A → Part B) → Out B
p_after (Done a st own) f = f a st own
p_after (Paused st own) f = Paused st own
p_after Stuck f = Stuck

unfoldable pub p_bind : {A B : Type 0} → Part A → (A → Part B) → Part B
p_bind m f st own = p_after (m st own) f

unfoldable pub p_give : {A : Type 0} → A → Part A
p_give a st own = Done a st own

unfoldable pub p_stuck : {A : Type 0} → Part A
p_stuck st own = Stuck

unfoldable pub p_choose : {A : Type 0} → Bool → Part A → Part A → Part A
p_choose true a b = a
p_choose false a b = b

-- a unit of the second fuel
unfoldable pub p_spend : {A : Type 0} → Part A → ℕ → Part A
p_spend m zero st own = Stuck
p_spend m (suc n) st own = m (record st { spare = n }) own

unfoldable pub p_paid : {A : Type 0} → Part A → Part A
p_paid m st own = p_spend m st.spare st own

-- a unit of the run
unfoldable pub p_run : {A : Type 0} → Part A → ℕ → Part A
p_run m zero st own = Paused st own
p_run m (suc n) st own = m (record st { left = n }) own

unfoldable pub p_unit : {A : Type 0} → Part A → Part A
p_unit m st own = p_run m st.left st own

-- a part that sees the objects before the own ones alone
unfoldable pub p_given : {A : Type 0} → Outcome A → List state.Object → Out A
p_given (Gives a st) own = Done a st own
p_given (Ended st) own = Stuck
p_given (Going st) own = Stuck
p_given (Undefined act st) own = Stuck

unfoldable pub p_outer : {A : Type 0} → Run A → Part A
p_outer m st own = p_given (m st) own

-- ---- own cells

unfoldable pub p_named : Option (Option ℕ) → Part ℕ
p_named (Some (Some j)) = p_give j
p_named _ = p_stuck

unfoldable pub p_read : Kind → Option Cell → Part Value
p_read kind None = p_stuck
p_read kind (Some Unset) = p_stuck
p_read kind (Some (Holds v)) = p_choose (is_of kind v) (p_give v) p_stuck

unfoldable pub p_load : Kind → ℕ → Part Value
p_load kind j st own = p_read kind (cell_in (live_cells (slice_get own j)) 0) st own

unfoldable pub p_put : ℕ → Value → Part Value
p_put j v st own = Done v st (slice_set own j (with_cell (slice_get own j) 0 v))

unfoldable pub p_write : Kind → Option Cell → ℕ → Value → Part Value
p_write kind None j v = p_stuck
p_write kind (Some c) j v = p_choose (holds_no_other kind c) (p_put j v) p_stuck

unfoldable pub p_store : Kind → ℕ → Value → Part Value
p_store kind j v st own = p_write kind (cell_in (live_cells (slice_get own j)) 0) j v st own

unfoldable pub p_own_value : CType → ℕ → Part Value
p_own_value (Array t n) j = p_stuck
p_own_value (Struct tag) j = p_stuck
p_own_value t j = p_load (kind_of t) j

-- an own object, or a place before them
pub data Spot : Type 0 where
  Own : (j : ℕ) → Spot
  Outer : (p : Value) → Spot

unfoldable pub p_assigned : CType → Spot → Value → Part Value
p_assigned t (Own j) v = p_store (kind_of t) j (converted t v)
p_assigned t (Outer p) v = p_outer (store (kind_of t) p (converted t v))

-- ---- expressions

unfoldable pub p_variable : Environment → List ℕ → Option Entity → Part Value
p_variable here name (Some (Object t)) = p_bind (p_named (meaning here.objects name)) (p_own_value t)
p_variable here name _ = p_stuck

unfoldable pub p_used : Part Value → Part Value
p_used m = p_bind m (λ v. p_outer (used v))

unfoldable pub p_unary : UnOp → CType → Part Value → Part Value
p_unary unary.Address t value = p_stuck
p_unary unary.Deref t value = p_bind value (λ v. p_outer (pointed_value true t v))
p_unary unary.Not t value = p_stuck
p_unary op t value = p_bind value (λ v. p_outer (on_word op v))

-- no pointers are compared
unfoldable pub p_compared : Bool → BinOp → CType → CType → Value → Value → Part Value
p_compared true op t u x y = p_stuck
p_compared false op t u x y = p_outer (on_words op t u x y)

unfoldable pub p_operated : Tags → BinOp → CType → CType → Value → Value → Part Value
p_operated tags binary.Eq t u x y = p_compared (is_pointer t || is_pointer u || is_null t || is_null u) binary.Eq t u x y
p_operated tags binary.Ne t u x y = p_compared (is_pointer t || is_pointer u || is_null t || is_null u) binary.Ne t u x y
p_operated tags binary.Lt t u x y = p_compared (is_pointer t) binary.Lt t u x y
p_operated tags binary.Gt t u x y = p_compared (is_pointer t) binary.Gt t u x y
p_operated tags binary.Le t u x y = p_compared (is_pointer t) binary.Le t u x y
p_operated tags binary.Ge t u x y = p_compared (is_pointer t) binary.Ge t u x y
p_operated tags op t u x y = p_outer (operated tags op t u x y)

unfoldable pub p_combined : Tags → BinOp → CType → CType → Part Value → Part Value → Part Value
p_combined tags binary.And t u a b = p_bind a (λ x. p_choose (is_true x) (p_bind b (λ y. p_give (truth_value (is_true y)))) (p_give (Word 0)))
p_combined tags binary.Or t u a b = p_bind a (λ x. p_choose (is_true x) (p_give (Word 1)) (p_bind b (λ y. p_give (truth_value (is_true y)))))
p_combined tags op t u a b = p_bind a (λ x. p_bind b (λ y. p_operated tags op t u x y))

unfoldable pub p_cast : CType → Part Value → Part Value
p_cast t value = p_choose (is_void t) p_stuck (p_used value)

unfoldable pub p_assignment : Option BinOp → CType → Part Spot → Part Value → Part Value
p_assignment None t place value = p_bind place (λ p. p_bind value (λ v. p_assigned t p v))
p_assignment (Some op) t place value = p_stuck

-- a character costs a unit of the second fuel
unfoldable pub p_put_one : List Value → Part Value
p_put_one (Word c ∷ vs) = p_bind (p_outer (put c)) (λ _. p_give (Word c))
p_put_one _ = p_stuck

unfoldable pub p_call : (List ℕ → List Value → Part Value) → Callee → Part (List Value) → Part Value
p_call sub (Direct name params) arguments = p_bind arguments (λ vs. sub name (all_converted params vs))
p_call sub (Known name params) arguments = p_bind arguments (λ vs. p_choose (bytes_eq name (codes "putchar")) (p_paid (p_put_one (all_converted params vs))) p_stuck)
p_call sub Format arguments = p_stuck
p_call sub (Through params) arguments = p_stuck

abbrev mutual
  -- what a call of a helper function does is given
  pub p_value : CExpr → (List ℕ → List Value → Part Value) → Environment → Part Value
  p_value (plain.Number at n unsigned) sub here = p_give (Word (n % 2 ^ 24))
  p_value (plain.Var at name) sub here = p_variable here name (entity_of here.scope name)
  p_value (plain.Unary at op a) sub here = p_unary op (value_type_in here.scope a) (p_used (p_value a sub here))
  p_value (plain.Binary at op a b) sub here =
      p_combined here.scope.tags op (value_type_in here.scope a) (value_type_in here.scope b) (p_used (p_value a sub here)) (p_used (p_value b sub (past a here)))
  p_value (plain.Assign at op a b) sub here = p_assignment op (type_in here.scope a) (p_place a sub here) (p_used (p_value b sub (past a here)))
  p_value (plain.Cast at t a) sub here = p_cast (type_in here.scope (plain.Cast at t a)) (p_value a sub here)
  p_value (plain.Call at f es) sub here = p_call sub (callee_in here.scope f) (p_values es sub (past f here))
  p_value _ sub here = p_stuck

  pub p_place : CExpr → (List ℕ → List Value → Part Value) → Environment → Part Spot
  p_place (plain.Var at name) sub here = p_bind (p_named (meaning here.objects name)) (λ j. p_give (Own j))
  p_place (plain.Unary at unary.Deref a) sub here = p_bind (p_used (p_value a sub here)) (λ p. p_give (Outer p))
  p_place _ sub here = p_stuck

  pub p_values : CExprs → (List ℕ → List Value → Part Value) → Environment → Part (List Value)
  p_values plain.NoExpr sub here = p_give []
  p_values (plain.MoreExpr e es) sub here = p_bind (p_used (p_value e sub here)) (λ v. p_bind (p_values es sub (past e here)) (λ vs. p_give (v ∷ vs)))

-- ---- statements

unfoldable pub p_condition : Part Value → Part Bool
p_condition value = p_bind (p_used value) (λ v. p_give (is_true v))

unfoldable pub p_first : CType → ℕ → Bool → Part Value → Part (Unit {0})
p_first t j true value = p_stuck
p_first t j false value = p_bind (p_used value) (λ v. p_bind (p_assigned t (Own j) v) (λ _. p_give tt))

abbrev pub p_first_value : CDecl → (List ℕ → List Value → Part Value) → Environment → Option CValue → Part (Unit {0})
p_first_value d sub here None = p_give tt
p_first_value d sub here (Some (plain.One e)) = p_first (object_type_in here.scope d) here.next (takes_string (object_type_in here.scope d) e) (p_value e sub (declaring d here))
p_first_value d sub here (Some (plain.Many vs)) = p_stuck

unfoldable pub p_go_on : Flow → Part Flow → Part Flow
p_go_on Next m = m
p_go_on flow m = p_give flow

unfoldable pub p_turned : Flow → Part Flow → Part Flow
p_turned Next m = m
p_turned Continued m = m
p_turned Broke m = p_give Next
p_turned (Returned v) m = p_give (Returned v)

unfoldable pub p_loop : ℕ → Part Bool → Part Flow → Part Flow
p_loop zero test body = p_stuck
p_loop (suc n) test body = p_bind test (λ b. p_choose b (p_paid (p_bind body (λ flow. p_turned flow (p_loop n test body)))) (p_give Next))

unfoldable pub p_enter : List (List Cell) → Part ℕ
p_enter new st own = Done (length own) st (own ++ map live_object new)

unfoldable pub p_leave : ℕ → Part (Unit {0})
p_leave j st own = Done tt st (take j own ++ map dead (drop j own))

unfoldable pub p_within : {A : Type 0} → List (List Cell) → (ℕ → Part A) → Part A
p_within new body = p_bind (p_enter new) (λ j. p_bind (body j) (λ a. p_bind (p_leave j) (λ _. p_give a)))

unfoldable pub p_returned : Part Value → Part Flow
p_returned value = p_bind (p_used value) (λ v. p_give (Returned v))

abbrev mutual
  pub p_does : CStmt → ℕ → (List ℕ → List Value → Part Value) → Environment → Part Flow
  p_does (plain.Block ss) deep sub here = p_within (block_objects (entered here.scope) ss) (λ j. p_all ss deep sub (in_block j here))
  p_does (plain.Local d) deep sub here = p_bind (p_first_value d sub here d.first) (λ _. p_give Next)
  p_does (plain.Do_expr e) deep sub here = p_bind (p_value e sub here) (λ _. p_give Next)
  p_does (plain.If e t) deep sub here = p_bind (p_condition (p_value e sub here)) (λ b. p_choose b (p_does t deep sub (past e here)) (p_give Next))
  p_does (plain.While e t) deep sub here = p_loop deep (p_condition (p_value e sub here)) (p_does t deep sub (past e here))
  p_does (plain.Return at (Some e)) deep sub here = p_returned (p_value e sub here)
  p_does _ deep sub here = p_stuck

  pub p_all : CStmts → ℕ → (List ℕ → List Value → Part Value) → Environment → Part Flow
  p_all plain.NoStmt deep sub here = p_give Next
  p_all (plain.MoreStmt t ts) deep sub here = p_bind (p_does t deep sub here) (λ flow. p_go_on flow (p_all ts deep sub (behind t here)))

unfoldable pub p_result : CType → Flow → Part Value
p_result t (Returned v) = p_give (converted t v)
p_result t flow = p_give Missing

-- a helper function from its arguments
unfoldable pub p_function : Definition → ℕ → (List ℕ → List Value → Part Value) → List Value → Part Value
p_function f deep sub vs = p_bind (p_within (argument_objects f.params vs) (λ j. p_does f.body deep sub (body_environment f [] vs j))) (p_result f.result)

-- no helper function is called
abbrev pub nobody : List ℕ → List Value → Part Value
nobody name vs = p_stuck

-- a call that only computes: for so many units of the second fuel, and with so many words
unfoldable pub p_computed : ℕ → ℕ → Value → Part Value
p_computed units words v st own = cond (nat_le units st.spare && nat_le (st.words + words) 1024) (Done v (record st { spare = st.spare - units }) own) Stuck
