-- The meaning of each tree follows itself.
use Rattle.std.proofs.Common.{◌≡◌, ℕ, zero, suc, ◌+◌, ◌≤◌, List, [], ◌∷◌, Option, Some, None, Bool, true, false, refl, ap, arith}
use Rattle.c_syntax.specs.Plain as plain
use Rattle.c_syntax.specs.Plain.{CExpr, CExprs, CValue, CValues, CDecl, CStmt, CStmts, CPart, CParts}
use Rattle.c_syntax.specs.declared.tree.UnOp.{UnOp}
use Rattle.c_syntax.specs.declared.tree.StepOp.{StepOp}
use Rattle.c_syntax.specs.declared.tree.BinOp.{BinOp}
use Rattle.c_syntax.specs.declared.tree.UnOp.TheVariants as unary
use Rattle.c_types.specs.Types.{CType, Int, is_void, Tags}
use Rattle.c_types.specs.Scope.{Scope, Entity, entity_of, Object, Routine, BuiltIn, Printf}
use Rattle.c_types.specs.Expressions.{names_function, format_of}
use Rattle.c_types.specs.Declarations.{Slots, takes_string}
use Rattle.c_eval.specs.State.{Value, Word, Null, Point, Letter, Function, Missing, OutsideObject, OtherKind, NullCall, Run}
use Rattle.c_eval.specs.Run.{give, stop}
use Rattle.c_eval.specs.Memory.{Kind, kind_of, zero_of, at_offset, offset_of}
use Rattle.c_eval.specs.Operators.{is_true, all_converted}
use Rattle.c_eval.specs.Environment.{Environment, past, past_maybe, past_stmt, past_value, behind, behind_all, behind_part, in_block, declaring, Callee, Direct, Known, Format, Through, Target, is_target}
use Rattle.c_eval.specs.Eval.{World, place_named, value_named, unary_value, unary_place, stepped, step_op, assignment, cast_value, element, call_through, call, value_of, place_of, values_of, values_behind, used_value, condition, clear, spell, initialise, initialise_all, first_value, Flow, Next, Broke, Continued, Returned, go_on, turned, loop, do_loop, maybe_condition, maybe_effect, returned, does, all_do, part_does, parts_do, parts_from}
use Rattle.c_eval.proofs.Following.{Follows, Grows, bind_follows, bind_grows, give_follows, undefined_follows, choose_follows, choose_grows, if_follows, stop_follows, past_here, paid_follows, paid_deeper, lower, paid_grows}
use Rattle.c_eval.proofs.Parts.{load_follows, store_follows, within_follows, member_at_follows, used_follows, of_word_follows, sum_follows, operated_follows, combined_follows, on_word_follows, pointer_to_follows, value_at_follows, pointed_value_follows, assigned_follows, updated_follows, printf_follows, built_in_follows}

abbrev pub Calls : Type 0
Calls = List ℕ → List Value → Run Value

-- the calls of the second follow those of the first
abbrev pub CallsFollow : ℕ → Bool → ℕ → List ℕ → List ℕ → Calls → Calls → Type 0
CallsFollow depth strict k i j c d = (name : List ℕ) (vs : List Value) → Follows depth strict k i j (c name vs) (d name vs)

-- so do those of a world; a world whose runs are to be proper is no helper function's
pub record WorldFollows (depth : ℕ) (strict : Bool) (k : ℕ) (w : World) (j : List ℕ) (c : Calls) : Type 0 where
  pub calls : CallsFollow depth strict k w.input j w.calls c
  pub own : strict ≡ true → w.inner ≡ false

-- with another input and other calls
abbrev pub beside : World → List ℕ → Calls → World
beside w j c = record w { input = j; calls = c }

-- ---- expressions

place_named_follows : {depth : ℕ} {strict : Bool} {k : ℕ} {i j : List ℕ} (o : Option (Option ℕ)) → Follows depth strict k i j (place_named o) (place_named o)
unfolding place_named
place_named_follows None = undefined_follows OutsideObject (λ asked. refl)
place_named_follows (Some None) = undefined_follows OutsideObject (λ asked. refl)
place_named_follows (Some (Some o)) = give_follows _

value_named_follows : {depth : ℕ} {strict : Bool} {k : ℕ} (w : World) (j : List ℕ) (c : Calls) (here : Environment) (name : List ℕ) (entity : Option Entity) → WorldFollows depth strict k w j c → Follows depth strict k w.input j (value_named w here name entity) (value_named (beside w j c) here name entity)
unfolding value_named
value_named_follows w j c here name (Some (Object t)) r = bind_follows (place_named_follows _) (λ p. value_at_follows w.inner t p r.own)
value_named_follows w j c here name (Some (Routine t begun)) r = give_follows _
value_named_follows w j c here name (Some (BuiltIn t)) r = give_follows _
value_named_follows w j c here name (Some Printf) r = give_follows _
value_named_follows w j c here name None r = give_follows _

unary_value_follows : {depth : ℕ} {strict : Bool} {k : ℕ} (w : World) (j : List ℕ) (c : Calls) (s : Scope) (op : UnOp) (a : CExpr) {m m' p p' : Run Value} → WorldFollows depth strict k w j c → Follows depth strict k w.input j m m' → Follows depth strict k w.input j p p' →
    Follows depth strict k w.input j (unary_value w s op a m p) (unary_value (beside w j c) s op a m' p')
unfolding unary_value
unary_value_follows w j c s unary.Address a r t u = if_follows (names_function s a) t (bind_follows u (λ p. pointer_to_follows w.inner p r.own))
unary_value_follows w j c s unary.Deref a r t u = bind_follows t (λ p. pointed_value_follows w.inner _ p r.own)
unary_value_follows w j c s unary.Not a r t u = bind_follows t (λ v. give_follows _)
unary_value_follows w j c s op a r t u = bind_follows t (λ v. on_word_follows op v)

unary_place_follows : {depth : ℕ} {strict : Bool} {k : ℕ} {i j : List ℕ} (op : UnOp) {m m' : Run Value} → Follows depth strict k i j m m' → Follows depth strict k i j (unary_place op m) (unary_place op m')
unfolding unary_place
unary_place_follows unary.Deref t = t
unary_place_follows op t = undefined_follows OutsideObject (λ asked. refl)

stepped_follows : {depth : ℕ} {strict : Bool} {k : ℕ} {i : List ℕ} (w : World) (j : List ℕ) (c : Calls) (tags : Tags) (op : StepOp) (t : CType) {p p' : Run Value} → Follows depth strict k i j p p' → Follows depth strict k i j (stepped w tags op t p) (stepped (beside w j c) tags op t p')
unfolding stepped
stepped_follows w j c tags op t u =
    bind_follows u (λ p. bind_follows (load_follows (kind_of t) p) (λ old. bind_follows (operated_follows tags (step_op op) t Int old (Word 1)) (λ new.
    bind_follows (assigned_follows t p new) (λ _. give_follows _))))

assignment_follows : {depth : ℕ} {strict : Bool} {k : ℕ} {i : List ℕ} (w : World) (j : List ℕ) (c : Calls) (tags : Tags) (op : Option BinOp) (t u : CType) {p p' m m' : Run Value} → Follows depth strict k i j p p' → Follows depth strict k i j m m' →
    Follows depth strict k i j (assignment w tags op t u p m) (assignment (beside w j c) tags op t u p' m')
unfolding assignment
assignment_follows w j c tags None t u r s = bind_follows r (λ p. bind_follows s (λ v. assigned_follows t p v))
assignment_follows w j c tags (Some op) t u r s = bind_follows r (λ p. bind_follows s (λ y. updated_follows tags op t u p y))

cast_value_follows : {depth : ℕ} {strict : Bool} {k : ℕ} {i j : List ℕ} (t : CType) {m m' : Run Value} → Follows depth strict k i j m m' → Follows depth strict k i j (cast_value t m) (cast_value t m')
unfolding cast_value
cast_value_follows t u = if_follows (is_void t) (bind_follows u (λ _. give_follows _)) (bind_follows u used_follows)

element_follows : {depth : ℕ} {strict : Bool} {k : ℕ} {i : List ℕ} (w : World) (j : List ℕ) (c : Calls) (tags : Tags) (t u : CType) {a a' b b' : Run Value} → Follows depth strict k i j a a' → Follows depth strict k i j b b' →
    Follows depth strict k i j (element w tags t u a b) (element (beside w j c) tags t u a' b')
unfolding element
element_follows w j c tags t u r s = bind_follows r (λ x. bind_follows s (λ y. sum_follows tags t u x y))

call_through_follows : {depth : ℕ} {strict : Bool} {k : ℕ} (w : World) (j : List ℕ) (c : Calls) (p : Value) (vs : List Value) → WorldFollows depth strict k w j c → Follows depth strict k w.input j (call_through w p vs) (call_through (beside w j c) p vs)
unfolding call_through
call_through_follows w j c (Function name) vs t = t.calls name vs
call_through_follows w j c Null vs t = paid_follows w.inner t.own (undefined_follows NullCall (λ asked. refl))
call_through_follows w j c (Word n) vs t = paid_follows w.inner t.own (undefined_follows OtherKind (λ asked. refl))
call_through_follows w j c (Point o n) vs t = paid_follows w.inner t.own (undefined_follows OtherKind (λ asked. refl))
call_through_follows w j c (Letter f l text n) vs t = paid_follows w.inner t.own (undefined_follows OtherKind (λ asked. refl))
call_through_follows w j c Missing vs t = paid_follows w.inner t.own (undefined_follows OtherKind (λ asked. refl))

call_follows : {depth : ℕ} {strict : Bool} {k : ℕ} (w : World) (j : List ℕ) (c : Calls) (callee : Callee) (format : Option (List ℕ)) {p p' : Run Value} {m m' n n' : Run (List Value)} → WorldFollows depth strict k w j c →
    Follows depth strict k w.input j p p' → Follows depth strict k w.input j m m' → Follows depth strict k w.input j n n' → Follows depth strict k w.input j (call w callee format p m n) (call (beside w j c) callee format p' m' n')
unfolding call
call_follows w j c (Direct name params) format t r s u = bind_follows s (λ vs. t.calls name (all_converted params vs))
call_follows w j c (Known name params) format t r s u = bind_follows s (λ vs. paid_follows w.inner t.own (built_in_follows w.inner name (all_converted params vs) t.own))
call_follows w j c Format format t r s u = bind_follows u (λ vs. paid_follows w.inner t.own (printf_follows w.inner format vs t.own))
call_follows w j c (Through params) format t r s u = bind_follows r (λ p. bind_follows s (λ vs. call_through_follows w j c p (all_converted params vs) t))

mutual
  pub value_follows : {depth : ℕ} {strict : Bool} (e : CExpr) (k : ℕ) (w : World) (j : List ℕ) (c : Calls) (here : Environment) → WorldFollows depth strict k w j c → Follows depth strict k w.input j (value_of e w here) (value_of e (beside w j c) here)
  value_follows (plain.Number at n unsigned) k w j c here t = give_follows _
  value_follows (plain.Str at text) k w j c here t = give_follows _
  value_follows (plain.Null at) k w j c here t = give_follows _
  value_follows (plain.Var at name) k w j c here t = value_named_follows w j c here name (entity_of here.scope name) t
  value_follows (plain.Unary at op a) k w j c here t = unary_value_follows w j c here.scope op a t (bind_follows (value_follows a k w j c here t) used_follows) (place_follows a k w j c here t)
  value_follows (plain.Step at op a) k w j c here t = stepped_follows w j c _ op _ (place_follows a k w j c here t)
  value_follows (plain.Binary at op a b) k w j c here t =
      combined_follows _ op _ _ (bind_follows (value_follows a k w j c here t) used_follows) (bind_follows (value_follows b k w j c (past a here) t) used_follows)
  value_follows (plain.Assign at op a b) k w j c here t = assignment_follows w j c _ op _ _ (place_follows a k w j c here t) (bind_follows (value_follows b k w j c (past a here) t) used_follows)
  value_follows (plain.Cond at a b d) k w j c here t =
      bind_follows (bind_follows (value_follows a k w j c here t) used_follows) (λ x.
      bind_follows (choose_follows (is_true x) (value_follows b k w j c (past a here) t) (value_follows d k w j c (past b (past a here)) t)) (λ v. give_follows _))
  value_follows (plain.Comma at a b) k w j c here t = bind_follows (value_follows a k w j c here t) (λ _. value_follows b k w j c (past a here) t)
  value_follows (plain.Cast at ty a) k w j c here t = cast_value_follows _ (value_follows a k w j c here t)
  value_follows (plain.SizeTy at ty) k w j c here t = give_follows _
  value_follows (plain.SizeOf at a) k w j c here t = give_follows _
  value_follows (plain.Index at a b) k w j c here t =
      bind_follows (element_follows w j c _ _ _ (bind_follows (value_follows a k w j c here t) used_follows) (bind_follows (value_follows b k w j c (past a here) t) used_follows))
      (λ p. value_at_follows w.inner _ p t.own)
  value_follows (plain.Call at f es) k w j c here t =
      call_follows w j c _ (format_of es) t (bind_follows (value_follows f k w j c here t) used_follows) (values_follow es k w j c (past f here) t) (behind_follows es k w j c here t)
  value_follows (plain.Member at a m) k w j c here t =
      bind_follows (bind_follows (place_follows a k w j c here t) (λ p. member_at_follows _ p)) (λ p. value_at_follows w.inner _ p t.own)
  value_follows (plain.Arrow at a m) k w j c here t =
      bind_follows (bind_follows (bind_follows (value_follows a k w j c here t) used_follows) (λ p. member_at_follows _ p)) (λ p. value_at_follows w.inner _ p t.own)

  pub place_follows : {depth : ℕ} {strict : Bool} (e : CExpr) (k : ℕ) (w : World) (j : List ℕ) (c : Calls) (here : Environment) → WorldFollows depth strict k w j c → Follows depth strict k w.input j (place_of e w here) (place_of e (beside w j c) here)
  place_follows (plain.Str at text) k w j c here t = give_follows _
  place_follows (plain.Var at name) k w j c here t = place_named_follows _
  place_follows (plain.Unary at op a) k w j c here t = unary_place_follows op (bind_follows (value_follows a k w j c here t) used_follows)
  place_follows (plain.Index at a b) k w j c here t =
      element_follows w j c _ _ _ (bind_follows (value_follows a k w j c here t) used_follows) (bind_follows (value_follows b k w j c (past a here) t) used_follows)
  place_follows (plain.Member at a m) k w j c here t = bind_follows (place_follows a k w j c here t) (λ p. member_at_follows _ p)
  place_follows (plain.Arrow at a m) k w j c here t = bind_follows (bind_follows (value_follows a k w j c here t) used_follows) (λ p. member_at_follows _ p)
  place_follows (plain.Number at n unsigned) k w j c here t = undefined_follows OutsideObject (λ asked. refl)
  place_follows (plain.Null at) k w j c here t = undefined_follows OutsideObject (λ asked. refl)
  place_follows (plain.Step at op a) k w j c here t = undefined_follows OutsideObject (λ asked. refl)
  place_follows (plain.Binary at op a b) k w j c here t = undefined_follows OutsideObject (λ asked. refl)
  place_follows (plain.Assign at op a b) k w j c here t = undefined_follows OutsideObject (λ asked. refl)
  place_follows (plain.Cond at a b d) k w j c here t = undefined_follows OutsideObject (λ asked. refl)
  place_follows (plain.Comma at a b) k w j c here t = undefined_follows OutsideObject (λ asked. refl)
  place_follows (plain.Cast at ty a) k w j c here t = undefined_follows OutsideObject (λ asked. refl)
  place_follows (plain.SizeTy at ty) k w j c here t = undefined_follows OutsideObject (λ asked. refl)
  place_follows (plain.SizeOf at a) k w j c here t = undefined_follows OutsideObject (λ asked. refl)
  place_follows (plain.Call at f es) k w j c here t = undefined_follows OutsideObject (λ asked. refl)

  pub values_follow : {depth : ℕ} {strict : Bool} (es : CExprs) (k : ℕ) (w : World) (j : List ℕ) (c : Calls) (here : Environment) → WorldFollows depth strict k w j c → Follows depth strict k w.input j (values_of es w here) (values_of es (beside w j c) here)
  values_follow plain.NoExpr k w j c here t = give_follows _
  values_follow (plain.MoreExpr e es) k w j c here t =
      bind_follows (bind_follows (value_follows e k w j c here t) used_follows) (λ v. bind_follows (values_follow es k w j c (past e here) t) (λ vs. give_follows _))

  behind_follows : {depth : ℕ} {strict : Bool} (es : CExprs) (k : ℕ) (w : World) (j : List ℕ) (c : Calls) (here : Environment) → WorldFollows depth strict k w j c → Follows depth strict k w.input j (values_behind es w here) (values_behind es (beside w j c) here)
  behind_follows plain.NoExpr k w j c here t = give_follows _
  behind_follows (plain.MoreExpr e es) k w j c here t = values_follow es k w j c here t

used_value_follows : {depth : ℕ} {strict : Bool} (e : CExpr) (k : ℕ) (w : World) (j : List ℕ) (c : Calls) (here : Environment) → WorldFollows depth strict k w j c → Follows depth strict k w.input j (used_value e w here) (used_value e (beside w j c) here)
unfolding used_value
used_value_follows e k w j c here t = bind_follows (value_follows e k w j c here t) used_follows

condition_follows : {depth : ℕ} {strict : Bool} (e : CExpr) (k : ℕ) (w : World) (j : List ℕ) (c : Calls) (here : Environment) → WorldFollows depth strict k w j c → Follows depth strict k w.input j (condition e w here) (condition e (beside w j c) here)
unfolding condition
condition_follows e k w j c here t = bind_follows (bind_follows (value_follows e k w j c here t) used_follows) (λ v. give_follows _)

-- ---- first values

clear_follows : {depth : ℕ} {strict : Bool} {k : ℕ} {i j : List ℕ} (kinds : List Kind) (p : Value) → Follows depth strict k i j (clear kinds p) (clear kinds p)
unfolding clear
clear_follows [] p = give_follows tt
clear_follows (kind ∷ kinds) p = bind_follows (store_follows kind p (zero_of kind)) (λ _. clear_follows kinds (at_offset p (suc (offset_of p))))

spell_follows : {depth : ℕ} {strict : Bool} {k : ℕ} {i j : List ℕ} (cs : List ℕ) (p : Value) → Follows depth strict k i j (spell cs p) (spell cs p)
unfolding spell
spell_follows [] p = give_follows tt
spell_follows (x ∷ cs) p = bind_follows (store_follows _ p (Word x)) (λ _. spell_follows cs (at_offset p (suc (offset_of p))))

mutual
  initialise_follows : {depth : ℕ} {strict : Bool} (v : CValue) (ty : CType) (p : Value) (k : ℕ) (w : World) (j : List ℕ) (c : Calls) (here : Environment) → WorldFollows depth strict k w j c →
      Follows depth strict k w.input j (initialise v ty p w here) (initialise v ty p (beside w j c) here)
  initialise_follows (plain.One e) ty p k w j c here t =
      if_follows (takes_string ty e) (spell_follows _ p) (bind_follows (used_value_follows e k w j c here t) (λ v. bind_follows (assigned_follows ty p v) (λ _. give_follows tt)))
  initialise_follows (plain.Many vs) ty p k w j c here t = initialise_all_follows vs _ p k w j c here t

  initialise_all_follows : {depth : ℕ} {strict : Bool} (vs : CValues) (slots : Slots) (p : Value) (k : ℕ) (w : World) (j : List ℕ) (c : Calls) (here : Environment) → WorldFollows depth strict k w j c →
      Follows depth strict k w.input j (initialise_all vs slots p w here) (initialise_all vs slots p (beside w j c) here)
  initialise_all_follows plain.NoValue slots p k w j c here t = clear_follows _ p
  initialise_all_follows (plain.MoreValue v vs) slots p k w j c here t =
      bind_follows (initialise_follows v _ p k w j c here t) (λ _. initialise_all_follows vs _ _ k w j c (past_value v here) t)

first_value_follows : {depth : ℕ} {strict : Bool} (d : CDecl) (k : ℕ) (w : World) (j : List ℕ) (c : Calls) (here : Environment) (first : Option CValue) → WorldFollows depth strict k w j c →
    Follows depth strict k w.input j (first_value d w here first) (first_value d (beside w j c) here first)
unfolding first_value
first_value_follows d k w j c here None t = give_follows tt
first_value_follows d k w j c here (Some v) t = initialise_follows v _ _ k w j c (declaring d here) t

-- ---- statements

go_on_follows : {depth : ℕ} {strict : Bool} {k : ℕ} {i j : List ℕ} (flow : Flow) {m m' : Run Flow} → Follows depth strict k i j m m' → Follows depth strict k i j (go_on flow m) (go_on flow m')
unfolding go_on
go_on_follows Next t = t
go_on_follows Broke t = give_follows _
go_on_follows Continued t = give_follows _
go_on_follows (Returned v) t = give_follows _

turned_follows : {depth : ℕ} {strict : Bool} {k : ℕ} {i j : List ℕ} (flow : Flow) {m m' : Run Flow} → Follows depth strict k i j m m' → Follows depth strict k i j (turned flow m) (turned flow m')
unfolding turned
turned_follows Next t = t
turned_follows Continued t = t
turned_follows Broke t = give_follows _
turned_follows (Returned v) t = give_follows _

give_grows : {A : Type 0} (a : A) → Grows (give a)
unfolding give
give_grows a st = past_here st

stop_grows : (A : Type 0) → Grows {A = A} stop
unfolding stop
stop_grows A st = past_here st

turned_grows : (flow : Flow) (m : Run Flow) → Grows m → Grows (turned flow m)
unfolding turned
turned_grows Next m g = g
turned_grows Continued m g = g
turned_grows Broke m g = give_grows _
turned_grows (Returned v) m g = give_grows _

loop_grows : (n : ℕ) (inner : Bool) (test : Run Bool) (step : Run (Unit {0})) (body : Run Flow) → Grows test → Grows step → Grows body → Grows (loop inner n test step body)
unfolding loop
loop_grows zero inner test step body g h l = stop_grows Flow
loop_grows (suc n) inner test step body g h l =
    bind_grows test _ g (λ b. choose_grows b _ _ (paid_grows inner _ (bind_grows body _ l (λ flow. turned_grows flow _ (bind_grows step _ h (λ _. loop_grows n inner test step body g h l))))) (give_grows Next))

none_more : (n n' k : ℕ) → n' ≡ n + k → k ≡ 0 → n' ≡ n
none_more n n' k e z = omega (arith, e, z)

one_less : (n n' k : ℕ) → suc n' ≡ suc n + k → n' ≡ n + k
one_less n n' k e = omega (arith, e)

up : (n : ℕ) → n ≤ suc n
up n = omega arith

none_left : (n k : ℕ) → zero ≡ suc n + k → ⊥
none_left n k e = omega (arith, e)

loop_stops : (n : ℕ) (inner : Bool) (test : Run Bool) (step : Run (Unit {0})) (body : Run Flow) → n ≡ zero → loop inner n test step body ≡ stop
unfolding loop
loop_stops n inner test step body e = ap (λ n. loop inner n test step body) e

loop_follows : {strict : Bool} (n n' k : ℕ) (i j : List ℕ) → n' ≡ n + k → (inner : Bool) → (strict ≡ true → inner ≡ false) → (test test' : Run Bool) (step step' : Run (Unit {0})) (body body' : Run Flow) →
    Follows n strict k i j test test' → Follows n strict k i j step step' → Follows n strict k i j body body' → Follows n strict k i j (loop inner n test step body) (loop inner n' test' step' body')
unfolding loop
loop_follows zero n' k i j e inner own test test' step step' body body' t s u =
    stop_follows (loop_grows n' inner test' step' body' t.grows_too s.grows_too u.grows_too) (λ z. loop_stops n' inner test' step' body' (none_more zero n' k e z))
loop_follows (suc n) zero k i j e inner own test test' step step' body body' t s u = absurd (none_left n k e)
loop_follows (suc n) (suc n') k i j e inner own test test' step step' body body' t s u =
    bind_follows t (λ b. choose_follows b (paid_deeper inner own (bind_follows (lower (up n) u) (λ flow. turned_follows flow (bind_follows (lower (up n) s) (λ _.
    loop_follows n n' k i j (one_less n n' k e) inner own test test' step step' body body' (lower (up n) t) (lower (up n) s) (lower (up n) u)))))) (give_follows Next))

do_loop_grows : (n : ℕ) (inner : Bool) (test : Run Bool) (body : Run Flow) → Grows test → Grows body → Grows (do_loop inner n test body)
unfolding do_loop
do_loop_grows zero inner test body g h = stop_grows Flow
do_loop_grows (suc n) inner test body g h =
    paid_grows inner _ (bind_grows body _ h (λ flow. turned_grows flow _ (bind_grows test _ g (λ b. choose_grows b _ _ (do_loop_grows n inner test body g h) (give_grows Next)))))

do_loop_stops : (n : ℕ) (inner : Bool) (test : Run Bool) (body : Run Flow) → n ≡ zero → do_loop inner n test body ≡ stop
unfolding do_loop
do_loop_stops n inner test body e = ap (λ n. do_loop inner n test body) e

do_loop_follows : {strict : Bool} (n n' k : ℕ) (i j : List ℕ) → n' ≡ n + k → (inner : Bool) → (strict ≡ true → inner ≡ false) → (test test' : Run Bool) (body body' : Run Flow) →
    Follows n strict k i j test test' → Follows n strict k i j body body' → Follows n strict k i j (do_loop inner n test body) (do_loop inner n' test' body')
unfolding do_loop
do_loop_follows zero n' k i j e inner own test test' body body' t u = stop_follows (do_loop_grows n' inner test' body' t.grows_too u.grows_too) (λ z. do_loop_stops n' inner test' body' (none_more zero n' k e z))
do_loop_follows (suc n) zero k i j e inner own test test' body body' t u = absurd (none_left n k e)
do_loop_follows (suc n) (suc n') k i j e inner own test test' body body' t u =
    paid_deeper inner own (bind_follows (lower (up n) u) (λ flow. turned_follows flow (bind_follows (lower (up n) t) (λ b.
    choose_follows b (do_loop_follows n n' k i j (one_less n n' k e) inner own test test' body body' (lower (up n) t) (lower (up n) u)) (give_follows Next)))))

maybe_condition_follows : {depth : ℕ} {strict : Bool} (e : Option CExpr) (k : ℕ) (w : World) (j : List ℕ) (c : Calls) (here : Environment) → WorldFollows depth strict k w j c → Follows depth strict k w.input j (maybe_condition e w here) (maybe_condition e (beside w j c) here)
unfolding maybe_condition
maybe_condition_follows None k w j c here t = give_follows _
maybe_condition_follows (Some e) k w j c here t = condition_follows e k w j c here t

maybe_effect_follows : {depth : ℕ} {strict : Bool} (e : Option CExpr) (k : ℕ) (w : World) (j : List ℕ) (c : Calls) (here : Environment) → WorldFollows depth strict k w j c → Follows depth strict k w.input j (maybe_effect e w here) (maybe_effect e (beside w j c) here)
unfolding maybe_effect
maybe_effect_follows None k w j c here t = give_follows tt
maybe_effect_follows (Some e) k w j c here t = bind_follows (value_follows e k w j c here t) (λ _. give_follows tt)

returned_follows : {depth : ℕ} {strict : Bool} (e : Option CExpr) (k : ℕ) (w : World) (j : List ℕ) (c : Calls) (here : Environment) → WorldFollows depth strict k w j c → Follows depth strict k w.input j (returned e w here) (returned e (beside w j c) here)
unfolding returned
returned_follows None k w j c here t = give_follows _
returned_follows (Some e) k w j c here t = bind_follows (used_value_follows e k w j c here t) (λ v. give_follows _)

-- the loop of a `for`
for_follows : {strict : Bool} (test step : Option CExpr) (n n' k : ℕ) → n' ≡ n + k → (w : World) (j : List ℕ) (c : Calls) (here : Environment) {body body' : Run Flow} → WorldFollows n strict k w j c → Follows n strict k w.input j body body' →
    Follows n strict k w.input j (loop w.inner n (maybe_condition test w here) (maybe_effect step w (past_maybe test here)) body)
    (loop w.inner n' (maybe_condition test (beside w j c) here) (maybe_effect step (beside w j c) (past_maybe test here)) body')
for_follows test step n n' k e w j c here t u =
    loop_follows n n' k w.input j e w.inner t.own _ _ _ _ _ _ (maybe_condition_follows test k w j c here t) (maybe_effect_follows step k w j c (past_maybe test here) t) u

mutual
  pub does_follows : {strict : Bool} (s : CStmt) (n n' k : ℕ) → n' ≡ n + k → (w : World) (j : List ℕ) (c : Calls) (here : Environment) → WorldFollows n strict k w j c → Follows n strict k w.input j (does s n w here) (does s n' (beside w j c) here)
  does_follows (plain.Block ss) n n' k e w j c here t = within_follows _ (λ o. all_do_follow ss n n' k e w j c (in_block o here) t)
  does_follows (plain.Local d) n n' k e w j c here t = bind_follows (first_value_follows d k w j c here d.first t) (λ _. give_follows Next)
  does_follows (plain.Do_expr a) n n' k e w j c here t = bind_follows (value_follows a k w j c here t) (λ _. give_follows Next)
  does_follows plain.Empty n n' k e w j c here t = give_follows Next
  does_follows (plain.If a s) n n' k e w j c here t = bind_follows (condition_follows a k w j c here t) (λ b. choose_follows b (does_follows s n n' k e w j c (past a here) t) (give_follows Next))
  does_follows (plain.IfElse a s u) n n' k e w j c here t =
      bind_follows (condition_follows a k w j c here t) (λ b. choose_follows b (does_follows s n n' k e w j c (past a here) t) (does_follows u n n' k e w j c (past_stmt s (past a here)) t))
  does_follows (plain.While a s) n n' k e w j c here t =
      loop_follows n n' k w.input j e w.inner t.own _ _ _ _ _ _ (condition_follows a k w j c here t) (give_follows tt) (does_follows s n n' k e w j c (past a here) t)
  does_follows (plain.Do s a) n n' k e w j c here t =
      do_loop_follows n n' k w.input j e w.inner t.own _ _ _ _ (condition_follows a k w j c (past_stmt s here) t) (does_follows s n n' k e w j c here t)
  does_follows (plain.For (plain.Block ss) test step s) n n' k e w j c here t =
      within_follows _ (λ o. bind_follows (all_do_follow ss n n' k e w j c (in_block o here) t) (λ flow. go_on_follows flow
      (for_follows test step n n' k e w j c (behind_all ss (in_block o here)) t (does_follows s n n' k e w j c (past_maybe step (past_maybe test (behind_all ss (in_block o here)))) t))))
  does_follows (plain.For first test step s) n n' k e w j c here t =
      bind_follows (does_follows first n n' k e w j c here t) (λ flow. go_on_follows flow
      (for_follows test step n n' k e w j c (behind first here) t (does_follows s n n' k e w j c (past_maybe step (past_maybe test (behind first here))) t)))
  does_follows (plain.Return at a) n n' k e w j c here t = returned_follows a k w j c here t
  does_follows (plain.Break at) n n' k e w j c here t = give_follows _
  does_follows (plain.Continue at) n n' k e w j c here t = give_follows _
  does_follows (plain.Switch a ps) n n' k e w j c here t =
      bind_follows (used_value_follows a k w j c here t) (λ v. of_word_follows v (λ x.
      bind_follows (within_follows _ (λ o. parts_from_follow ps _ n n' k e w j c (in_block o (past a here)) t)) (λ flow. give_follows _)))

  all_do_follow : {strict : Bool} (ss : CStmts) (n n' k : ℕ) → n' ≡ n + k → (w : World) (j : List ℕ) (c : Calls) (here : Environment) → WorldFollows n strict k w j c → Follows n strict k w.input j (all_do ss n w here) (all_do ss n' (beside w j c) here)
  all_do_follow plain.NoStmt n n' k e w j c here t = give_follows Next
  all_do_follow (plain.MoreStmt s ss) n n' k e w j c here t = bind_follows (does_follows s n n' k e w j c here t) (λ flow. go_on_follows flow (all_do_follow ss n n' k e w j c (behind s here) t))

  part_follows : {strict : Bool} (p : CPart) (n n' k : ℕ) → n' ≡ n + k → (w : World) (j : List ℕ) (c : Calls) (here : Environment) → WorldFollows n strict k w j c → Follows n strict k w.input j (part_does p n w here) (part_does p n' (beside w j c) here)
  part_follows (plain.Label at a) n n' k e w j c here t = give_follows Next
  part_follows (plain.Item s) n n' k e w j c here t = does_follows s n n' k e w j c here t

  parts_follow : {strict : Bool} (ps : CParts) (n n' k : ℕ) → n' ≡ n + k → (w : World) (j : List ℕ) (c : Calls) (here : Environment) → WorldFollows n strict k w j c → Follows n strict k w.input j (parts_do ps n w here) (parts_do ps n' (beside w j c) here)
  parts_follow plain.NoPart n n' k e w j c here t = give_follows Next
  parts_follow (plain.MorePart p ps) n n' k e w j c here t = bind_follows (part_follows p n n' k e w j c here t) (λ flow. go_on_follows flow (parts_follow ps n n' k e w j c (behind_part p here) t))

  parts_from_follow : {strict : Bool} (ps : CParts) (target : Target) (n n' k : ℕ) → n' ≡ n + k → (w : World) (j : List ℕ) (c : Calls) (here : Environment) → WorldFollows n strict k w j c →
      Follows n strict k w.input j (parts_from target ps n w here) (parts_from target ps n' (beside w j c) here)
  parts_from_follow plain.NoPart target n n' k e w j c here t = give_follows Next
  parts_from_follow (plain.MorePart p ps) target n n' k e w j c here t =
      if_follows (is_target target here.scope p) (parts_follow ps n n' k e w j c (behind_part p here) t) (parts_from_follow ps target n n' k e w j c (behind_part p here) t)
