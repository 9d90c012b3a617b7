-- Trees within the limits keep states valid, where calls do.
use Rattle.std.proofs.Common.{◌≡◌, ℕ, zero, suc, ◌<◌, List, [], ◌∷◌, ◌++◌, length, Option, Some, None, Bool, true, refl, sym, ap, ◌∙◌, subst, arith, replicate}
use Rattle.std.specs.Prelude.{◌-◌}
use Rattle.std.proofs.lemmas.List.{length-replicate}
use Rattle.c_syntax.specs.Plain as plain
use Rattle.c_syntax.specs.Plain.{CExpr, CExprs, CValue, CValues, CDecl, CStmt, CStmts, CPart, CParts}
use Rattle.c_syntax.specs.declared.tree.UnOp.{UnOp}
use Rattle.c_syntax.specs.declared.tree.StepOp.{StepOp}
use Rattle.c_syntax.specs.declared.tree.BinOp.{BinOp}
use Rattle.c_syntax.specs.declared.tree.UnOp.TheVariants as unary
use Rattle.c_syntax.specs.declared.tree.StepOp.TheVariants as step
use Rattle.c_types.specs.Types.{CType, Int, is_void, Tags, words_of}
use Rattle.c_types.specs.Scope.{Scope, Entity, entity_of, entered, Object, Routine, BuiltIn, Printf}
use Rattle.c_types.specs.Expressions.{names_function, format_of}
use Rattle.c_types.specs.Declarations.{Slots, takes_string}
use Rattle.c_types.specs.Census.{scope_behind, scope_behind_all, scope_behind_part}
use Rattle.c_eval.specs.State.{Value, Word, Null, Point, Letter, Function, Missing, Cell, Unset, OutsideObject, OtherKind, NullCall, Run}
use Rattle.c_eval.specs.Memory.{Kind, Number, ObjectPointer, FunctionPointer, kind_of, zero_of, at_offset, offset_of}
use Rattle.c_eval.specs.Operators.{is_true}
use Rattle.c_eval.specs.Environment.{object_type_in, unset_cells, objects_in, block_objects, part_objects, parts_objects, Environment, past, past_maybe, past_stmt, past_value, past_first, behind, behind_all, behind_part, in_block, declaring, Callee, Direct, Known, Format, Through, Target, is_target}
use Rattle.c_eval.specs.Eval.{World, place_named, value_named, unary_value, unary_place, stepped, step_op, step_value, assignment, cast_value, element, call_through, call, value_of, place_of, values_of, values_behind, used_value, condition, clear, spell, text_in, array_length, array_text, initialise, initialise_all, first_value, Flow, Next, Broke, Continued, Returned, go_on, turned, behind_switch, loop, do_loop, maybe_condition, maybe_effect, returned, does, all_do, part_does, parts_do, parts_from}
use Rattle.c_valid.specs.Valid.{AreBytes, most_cells, IsValid, AreValid, CellsAreValid}
use Rattle.c_valid.specs.Limited.{ExprIsLimited, ExprsAreLimited, MaybeIsLimited, ValueIsLimited, ValuesAreLimited, FirstIsLimited, StmtIsLimited, StmtsAreLimited, PartIsLimited, PartsAreLimited}
use Rattle.c_valid.proofs.Keeping.{Keeps, Any, bind_keeps, give_keeps, undefined_keeps, stop_keeps, choose_keeps, if_keeps, paid_keeps}
use Rattle.c_valid.proofs.Objects.{byte_is_word, NewAreValid, load_keeps, store_keeps, within_keeps, member_at_keeps}
use Rattle.c_valid.proofs.Operators.{truth_below, converted_valid, all_converted_valid, used_keeps, of_word_keeps, sum_keeps, operated_keeps, combined_keeps, on_word_keeps, pointer_to_keeps, value_at_keeps, pointed_value_keeps, assigned_keeps, updated_keeps, printf_keeps, built_in_keeps}
use Rattle.c_valid.proofs.Constants.{constant_in_below}

-- calls with valid arguments give valid values
abbrev pub CallsKeep : (List ℕ → List Value → Run Value) → Type 0
CallsKeep calls = (name : List ℕ) (vs : List Value) → AreValid vs → Keeps IsValid (calls name vs)

-- what a part of a text is evaluated with
pub record WorldKeeps (w : World) : Type 0 where
  pub input : AreBytes w.input
  pub calls : CallsKeep w.calls

-- ---- expressions

place_named_keeps : (o : Option (Option ℕ)) → Keeps IsValid (place_named o)
unfolding place_named
place_named_keeps None = undefined_keeps OutsideObject
place_named_keeps (Some None) = undefined_keeps OutsideObject
place_named_keeps (Some (Some o)) = give_keeps (Point o 0) (omega arith)

value_named_keeps : (w : World) (here : Environment) (name : List ℕ) (entity : Option Entity) → Keeps IsValid (value_named w here name entity)
unfolding value_named
value_named_keeps w here name (Some (Object t)) = bind_keeps (place_named_keeps _) (λ p a. value_at_keeps w.inner t p a)
value_named_keeps w here name (Some (Routine t begun)) = give_keeps (Function name) tt
value_named_keeps w here name (Some (BuiltIn t)) = give_keeps (Function name) tt
value_named_keeps w here name (Some Printf) = give_keeps (Function name) tt
value_named_keeps w here name None = give_keeps (Function name) tt

unary_value_keeps : (w : World) (s : Scope) (op : UnOp) (a : CExpr) {m p : Run Value} → Keeps IsValid m → Keeps IsValid p → Keeps IsValid (unary_value w s op a m p)
unfolding unary_value
unary_value_keeps w s unary.Address a t u = if_keeps (names_function s a) t (bind_keeps u (λ p v. pointer_to_keeps w.inner p v))
unary_value_keeps w s unary.Deref a t u = bind_keeps t (λ p v. pointed_value_keeps w.inner _ p v)
unary_value_keeps w s unary.Not a t u = bind_keeps t (λ x v. give_keeps _ (truth_below _))
unary_value_keeps w s op a t u = bind_keeps t (λ x v. on_word_keeps op x v)

unary_place_keeps : (op : UnOp) {m : Run Value} → Keeps IsValid m → Keeps IsValid (unary_place op m)
unfolding unary_place
unary_place_keeps unary.Deref t = t
unary_place_keeps op t = undefined_keeps OutsideObject

step_valid : (op : StepOp) (old new : Value) → IsValid old → IsValid new → IsValid (step_value op old new)
step_valid step.PreInc old new a b = b
step_valid step.PreDec old new a b = b
step_valid step.PostInc old new a b = a
step_valid step.PostDec old new a b = a

stepped_keeps : (w : World) (tags : Tags) (op : StepOp) (t : CType) {p : Run Value} → Keeps IsValid p → Keeps IsValid (stepped w tags op t p)
unfolding stepped
stepped_keeps w tags op t u =
    bind_keeps u (λ p a. bind_keeps (load_keeps (kind_of t) p a) (λ old b. bind_keeps (operated_keeps tags (step_op op) t Int old (Word 1) b (omega arith)) (λ new c.
    bind_keeps (assigned_keeps t p new c) (λ _ _. give_keeps _ (step_valid op old new b c)))))

assignment_keeps : (w : World) (tags : Tags) (op : Option BinOp) (t u : CType) {p m : Run Value} → Keeps IsValid p → Keeps IsValid m → Keeps IsValid (assignment w tags op t u p m)
unfolding assignment
assignment_keeps w tags None t u r s = bind_keeps r (λ p a. bind_keeps s (λ v b. assigned_keeps t p v b))
assignment_keeps w tags (Some op) t u r s = bind_keeps r (λ p a. bind_keeps s (λ y b. updated_keeps tags op t u p y a b))

cast_value_keeps : (t : CType) {m : Run Value} → Keeps IsValid m → Keeps IsValid (cast_value t m)
unfolding cast_value
cast_value_keeps t u = if_keeps (is_void t) (bind_keeps u (λ _ _. give_keeps Missing tt)) (bind_keeps u used_keeps)

element_keeps : (w : World) (tags : Tags) (t u : CType) {a b : Run Value} → Keeps IsValid a → Keeps IsValid b → Keeps IsValid (element w tags t u a b)
unfolding element
element_keeps w tags t u r s = bind_keeps r (λ x a. bind_keeps s (λ y b. sum_keeps tags t u x y a b))

call_through_keeps : (w : World) (p : Value) (vs : List Value) → WorldKeeps w → AreValid vs → Keeps IsValid (call_through w p vs)
unfolding call_through
call_through_keeps w (Function name) vs t a = t.calls name vs a
call_through_keeps w Null vs t a = paid_keeps w.inner (undefined_keeps NullCall)
call_through_keeps w (Word n) vs t a = paid_keeps w.inner (undefined_keeps OtherKind)
call_through_keeps w (Point o k) vs t a = paid_keeps w.inner (undefined_keeps OtherKind)
call_through_keeps w (Letter f i text k) vs t a = paid_keeps w.inner (undefined_keeps OtherKind)
call_through_keeps w Missing vs t a = paid_keeps w.inner (undefined_keeps OtherKind)

call_keeps : (w : World) (callee : Callee) (format : Option (List ℕ)) {p : Run Value} {m n : Run (List Value)} → WorldKeeps w → Keeps IsValid p → Keeps AreValid m → Keeps AreValid n → Keeps IsValid (call w callee format p m n)
unfolding call
call_keeps w (Direct name params) format t r s u = bind_keeps s (λ vs a. t.calls name _ (all_converted_valid params vs a))
call_keeps w (Known name params) format t r s u = bind_keeps s (λ vs a. paid_keeps w.inner (built_in_keeps w.input w.inner name _ t.input (all_converted_valid params vs a)))
call_keeps w Format format t r s u = bind_keeps u (λ vs a. paid_keeps w.inner (printf_keeps w.inner format vs))
call_keeps w (Through params) format t r s u = bind_keeps r (λ p a. bind_keeps s (λ vs b. call_through_keeps w p _ t (all_converted_valid params vs b)))

mutual
  pub value_keeps : (e : CExpr) (w : World) (here : Environment) → ExprIsLimited e → WorldKeeps w → Keeps IsValid (value_of e w here)
  value_keeps (plain.Number at n unsigned) w here l t = give_keeps _ (omega arith)
  value_keeps (plain.Str at text) w here l t = give_keeps _ (l, omega arith)
  value_keeps (plain.Null at) w here l t = give_keeps Null tt
  value_keeps (plain.Var at name) w here l t = value_named_keeps w here name (entity_of here.scope name)
  value_keeps (plain.Unary at op a) w here l t = unary_value_keeps w here.scope op a (bind_keeps (value_keeps a w here l t) used_keeps) (place_keeps a w here l t)
  value_keeps (plain.Step at op a) w here l t = stepped_keeps w _ op _ (place_keeps a w here l t)
  value_keeps (plain.Binary at op a b) w here l t = combined_keeps _ op _ _ (bind_keeps (value_keeps a w here l.0 t) used_keeps) (bind_keeps (value_keeps b w (past a here) l.1 t) used_keeps)
  value_keeps (plain.Assign at op a b) w here l t = assignment_keeps w _ op _ _ (place_keeps a w here l.0 t) (bind_keeps (value_keeps b w (past a here) l.1 t) used_keeps)
  value_keeps (plain.Cond at a b c) w here l t =
      bind_keeps (bind_keeps (value_keeps a w here l.0 t) used_keeps) (λ x _.
      bind_keeps (choose_keeps (is_true x) (value_keeps b w (past a here) l.1 t) (value_keeps c w (past b (past a here)) l.2 t)) (λ v d. give_keeps _ (converted_valid _ v d)))
  value_keeps (plain.Comma at a b) w here l t = bind_keeps (value_keeps a w here l.0 t) (λ _ _. value_keeps b w (past a here) l.1 t)
  value_keeps (plain.Cast at ty a) w here l t = cast_value_keeps _ (value_keeps a w here l t)
  value_keeps (plain.SizeTy at ty) w here l t = give_keeps _ (constant_in_below here.scope (plain.SizeTy at ty))
  value_keeps (plain.SizeOf at a) w here l t = give_keeps _ (constant_in_below here.scope (plain.SizeOf at a))
  value_keeps (plain.Index at a b) w here l t =
      bind_keeps (element_keeps w _ _ _ (bind_keeps (value_keeps a w here l.0 t) used_keeps) (bind_keeps (value_keeps b w (past a here) l.1 t) used_keeps)) (λ p c. value_at_keeps w.inner _ p c)
  value_keeps (plain.Call at f es) w here l t =
      call_keeps w _ (format_of es) t (bind_keeps (value_keeps f w here l.0 t) used_keeps) (values_keep es w (past f here) l.1 t) (behind_keeps es w here l.1 t)
  value_keeps (plain.Member at a m) w here l t = bind_keeps (bind_keeps (place_keeps a w here l t) (λ p c. member_at_keeps _ p c)) (λ p c. value_at_keeps w.inner _ p c)
  value_keeps (plain.Arrow at a m) w here l t =
      bind_keeps (bind_keeps (bind_keeps (value_keeps a w here l t) used_keeps) (λ p c. member_at_keeps _ p c)) (λ p c. value_at_keeps w.inner _ p c)

  pub place_keeps : (e : CExpr) (w : World) (here : Environment) → ExprIsLimited e → WorldKeeps w → Keeps IsValid (place_of e w here)
  place_keeps (plain.Str at text) w here l t = give_keeps _ (l, omega arith)
  place_keeps (plain.Var at name) w here l t = place_named_keeps _
  place_keeps (plain.Unary at op a) w here l t = unary_place_keeps op (bind_keeps (value_keeps a w here l t) used_keeps)
  place_keeps (plain.Index at a b) w here l t = element_keeps w _ _ _ (bind_keeps (value_keeps a w here l.0 t) used_keeps) (bind_keeps (value_keeps b w (past a here) l.1 t) used_keeps)
  place_keeps (plain.Member at a m) w here l t = bind_keeps (place_keeps a w here l t) (λ p c. member_at_keeps _ p c)
  place_keeps (plain.Arrow at a m) w here l t = bind_keeps (bind_keeps (value_keeps a w here l t) used_keeps) (λ p c. member_at_keeps _ p c)
  place_keeps (plain.Number at n unsigned) w here l t = undefined_keeps OutsideObject
  place_keeps (plain.Null at) w here l t = undefined_keeps OutsideObject
  place_keeps (plain.Step at op a) w here l t = undefined_keeps OutsideObject
  place_keeps (plain.Binary at op a b) w here l t = undefined_keeps OutsideObject
  place_keeps (plain.Assign at op a b) w here l t = undefined_keeps OutsideObject
  place_keeps (plain.Cond at a b c) w here l t = undefined_keeps OutsideObject
  place_keeps (plain.Comma at a b) w here l t = undefined_keeps OutsideObject
  place_keeps (plain.Cast at ty a) w here l t = undefined_keeps OutsideObject
  place_keeps (plain.SizeTy at ty) w here l t = undefined_keeps OutsideObject
  place_keeps (plain.SizeOf at a) w here l t = undefined_keeps OutsideObject
  place_keeps (plain.Call at f es) w here l t = undefined_keeps OutsideObject

  pub values_keep : (es : CExprs) (w : World) (here : Environment) → ExprsAreLimited es → WorldKeeps w → Keeps AreValid (values_of es w here)
  values_keep plain.NoExpr w here l t = give_keeps [] tt
  values_keep (plain.MoreExpr e es) w here l t =
      bind_keeps (bind_keeps (value_keeps e w here l.0 t) used_keeps) (λ v a. bind_keeps (values_keep es w (past e here) l.1 t) (λ vs b. give_keeps (v ∷ vs) (a, b)))

  behind_keeps : (es : CExprs) (w : World) (here : Environment) → ExprsAreLimited es → WorldKeeps w → Keeps AreValid (values_behind es w here)
  behind_keeps plain.NoExpr w here l t = give_keeps [] tt
  behind_keeps (plain.MoreExpr e es) w here l t = values_keep es w here l.1 t

pub used_value_keeps : (e : CExpr) (w : World) (here : Environment) → ExprIsLimited e → WorldKeeps w → Keeps IsValid (used_value e w here)
unfolding used_value
used_value_keeps e w here l t = bind_keeps (value_keeps e w here l t) used_keeps

pub condition_keeps : (e : CExpr) (w : World) (here : Environment) → ExprIsLimited e → WorldKeeps w → Keeps Any (condition e w here)
unfolding condition
condition_keeps e w here l t = bind_keeps (bind_keeps (value_keeps e w here l t) used_keeps) (λ v _. give_keeps _ tt)

-- ---- first values

zero_valid : (kind : Kind) → IsValid (zero_of kind)
zero_valid Number = omega arith
zero_valid ObjectPointer = tt
zero_valid FunctionPointer = tt

pub clear_keeps : (kinds : List Kind) (p : Value) → Keeps Any (clear kinds p)
unfolding clear
clear_keeps [] p = give_keeps tt tt
clear_keeps (kind ∷ kinds) p = bind_keeps (store_keeps kind p (zero_of kind) (zero_valid kind)) (λ _ _. clear_keeps kinds (at_offset p (suc (offset_of p))))

pub spell_keeps : (cs : List ℕ) (p : Value) → AreBytes cs → Keeps Any (spell cs p)
unfolding spell
spell_keeps [] p bytes = give_keeps tt tt
spell_keeps (c ∷ cs) p bytes = bind_keeps (store_keeps Number p (Word c) (byte_is_word bytes.0)) (λ _ _. spell_keeps cs (at_offset p (suc (offset_of p))) bytes.1)

zeros_behind : (cs : List ℕ) (n : ℕ) → AreBytes cs → AreBytes (cs ++ replicate n 0)
zeros_behind [] zero bytes = tt
zeros_behind [] (suc n) bytes = (omega arith, zeros_behind [] n tt)
zeros_behind (c ∷ cs) n bytes = (bytes.0, zeros_behind cs n bytes.1)

text_bytes : (e : CExpr) → ExprIsLimited e → AreBytes (text_in e)
text_bytes (plain.Str at text) l = l.0
text_bytes (plain.Number at n unsigned) l = tt
text_bytes (plain.Null at) l = tt
text_bytes (plain.Var at name) l = tt
text_bytes (plain.Unary at op a) l = tt
text_bytes (plain.Step at op a) l = tt
text_bytes (plain.Binary at op a b) l = tt
text_bytes (plain.Assign at op a b) l = tt
text_bytes (plain.Cond at a b c) l = tt
text_bytes (plain.Comma at a b) l = tt
text_bytes (plain.Cast at ty a) l = tt
text_bytes (plain.SizeTy at ty) l = tt
text_bytes (plain.SizeOf at a) l = tt
text_bytes (plain.Index at a b) l = tt
text_bytes (plain.Call at f es) l = tt
text_bytes (plain.Member at a m) l = tt
text_bytes (plain.Arrow at a m) l = tt

pub array_bytes : (ty : CType) (e : CExpr) → ExprIsLimited e → AreBytes (array_text ty e)
array_bytes ty e l = zeros_behind (text_in e) (array_length ty - length (text_in e)) (text_bytes e l)

mutual
  initialise_keeps : (v : CValue) (ty : CType) (p : Value) (w : World) (here : Environment) → ValueIsLimited v → WorldKeeps w → Keeps Any (initialise v ty p w here)
  initialise_keeps (plain.One e) ty p w here l t =
      if_keeps (takes_string ty e) (spell_keeps _ p (array_bytes ty e l)) (bind_keeps (used_value_keeps e w here l t) (λ v a. bind_keeps (assigned_keeps ty p v a) (λ _ _. give_keeps tt tt)))
  initialise_keeps (plain.Many vs) ty p w here l t = initialise_all_keeps vs _ p w here l t

  initialise_all_keeps : (vs : CValues) (slots : Slots) (p : Value) (w : World) (here : Environment) → ValuesAreLimited vs → WorldKeeps w → Keeps Any (initialise_all vs slots p w here)
  initialise_all_keeps plain.NoValue slots p w here l t = clear_keeps _ p
  initialise_all_keeps (plain.MoreValue v vs) slots p w here l t =
      bind_keeps (initialise_keeps v _ p w here l.0 t) (λ _ _. initialise_all_keeps vs _ _ w (past_value v here) l.1 t)

first_value_keeps : (d : CDecl) (w : World) (here : Environment) (first : Option CValue) → FirstIsLimited first → WorldKeeps w → Keeps Any (first_value d w here first)
unfolding first_value
first_value_keeps d w here None l t = give_keeps tt tt
first_value_keeps d w here (Some v) l t = initialise_keeps v _ _ w (declaring d here) l t

-- ---- statements

-- a value that is returned
abbrev pub FlowIsValid : Flow → Type 0
FlowIsValid (Returned v) = IsValid v
FlowIsValid flow = Unit {0}

go_on_keeps : (flow : Flow) {m : Run Flow} → FlowIsValid flow → Keeps FlowIsValid m → Keeps FlowIsValid (go_on flow m)
unfolding go_on
go_on_keeps Next a t = t
go_on_keeps Broke a t = give_keeps Broke tt
go_on_keeps Continued a t = give_keeps Continued tt
go_on_keeps (Returned v) a t = give_keeps (Returned v) a

turned_keeps : (flow : Flow) {m : Run Flow} → FlowIsValid flow → Keeps FlowIsValid m → Keeps FlowIsValid (turned flow m)
unfolding turned
turned_keeps Next a t = t
turned_keeps Continued a t = t
turned_keeps Broke a t = give_keeps Next tt
turned_keeps (Returned v) a t = give_keeps (Returned v) a

switch_valid : (flow : Flow) → FlowIsValid flow → FlowIsValid (behind_switch flow)
switch_valid Next a = tt
switch_valid Continued a = tt
switch_valid Broke a = tt
switch_valid (Returned v) a = a

loop_keeps : (n : ℕ) (inner : Bool) (test : Run Bool) (step : Run (Unit {0})) (body : Run Flow) → Keeps Any test → Keeps Any step → Keeps FlowIsValid body → Keeps FlowIsValid (loop inner n test step body)
unfolding loop
loop_keeps zero inner test step body t u v = stop_keeps
loop_keeps (suc n) inner test step body t u v =
    bind_keeps t (λ b _. choose_keeps b (paid_keeps inner (bind_keeps v (λ flow a. turned_keeps flow a (bind_keeps u (λ _ _. loop_keeps n inner test step body t u v))))) (give_keeps Next tt))

do_loop_keeps : (n : ℕ) (inner : Bool) (test : Run Bool) (body : Run Flow) → Keeps Any test → Keeps FlowIsValid body → Keeps FlowIsValid (do_loop inner n test body)
unfolding do_loop
do_loop_keeps zero inner test body t v = stop_keeps
do_loop_keeps (suc n) inner test body t v =
    paid_keeps inner (bind_keeps v (λ flow a. turned_keeps flow a (bind_keeps t (λ b _. choose_keeps b (do_loop_keeps n inner test body t v) (give_keeps Next tt)))))

maybe_condition_keeps : (e : Option CExpr) (w : World) (here : Environment) → MaybeIsLimited e → WorldKeeps w → Keeps Any (maybe_condition e w here)
unfolding maybe_condition
maybe_condition_keeps None w here l t = give_keeps true tt
maybe_condition_keeps (Some e) w here l t = condition_keeps e w here l t

maybe_effect_keeps : (e : Option CExpr) (w : World) (here : Environment) → MaybeIsLimited e → WorldKeeps w → Keeps Any (maybe_effect e w here)
unfolding maybe_effect
maybe_effect_keeps None w here l t = give_keeps tt tt
maybe_effect_keeps (Some e) w here l t = bind_keeps (value_keeps e w here l t) (λ _ _. give_keeps tt tt)

returned_keeps : (e : Option CExpr) (w : World) (here : Environment) → MaybeIsLimited e → WorldKeeps w → Keeps FlowIsValid (returned e w here)
unfolding returned
returned_keeps None w here l t = give_keeps (Returned Missing) tt
returned_keeps (Some e) w here l t = bind_keeps (used_value_keeps e w here l t) (λ v a. give_keeps (Returned v) a)

-- ---- the objects of a block

unset_valid : (n : ℕ) → CellsAreValid (replicate n Unset)
unset_valid zero = tt
unset_valid (suc n) = (tt, unset_valid n)

unset_new : (s : Scope) (d : CDecl) → words_of s.tags (object_type_in s d) < most_cells → NewAreValid (unset_cells s d ∷ [])
unset_new s d lt = ((unset_valid _, subst (λ n. n < most_cells) (sym (length-replicate _ Unset)) lt), tt)

objects_valid : (s : Scope) (t : CStmt) → StmtIsLimited s t → NewAreValid (objects_in s t)
objects_valid s (plain.Local d) l = unset_new s d l.0
objects_valid s (plain.Block ss) l = tt
objects_valid s (plain.Do_expr e) l = tt
objects_valid s plain.Empty l = tt
objects_valid s (plain.If e t) l = tt
objects_valid s (plain.IfElse e t u) l = tt
objects_valid s (plain.While e t) l = tt
objects_valid s (plain.Do t e) l = tt
objects_valid s (plain.For first test step t) l = tt
objects_valid s (plain.Return at e) l = tt
objects_valid s (plain.Break at) l = tt
objects_valid s (plain.Continue at) l = tt
objects_valid s (plain.Switch e ps) l = tt

all_new : (new more : List (List Cell)) → NewAreValid new → NewAreValid more → NewAreValid (new ++ more)
all_new [] more a b = b
all_new (cells ∷ new) more a b = (a.0, all_new new more a.1 b)

block_valid : (s : Scope) (ss : CStmts) → StmtsAreLimited s ss → NewAreValid (block_objects s ss)
block_valid s plain.NoStmt l = tt
block_valid s (plain.MoreStmt t ts) l = all_new (objects_in s t) _ (objects_valid s t l.0) (block_valid (scope_behind s t) ts l.1)

part_valid : (s : Scope) (p : CPart) → PartIsLimited s p → NewAreValid (part_objects s p)
part_valid s (plain.Label at e) l = tt
part_valid s (plain.Item t) l = objects_valid s t l

parts_valid : (s : Scope) (ps : CParts) → PartsAreLimited s ps → NewAreValid (parts_objects s ps)
parts_valid s plain.NoPart l = tt
parts_valid s (plain.MorePart p ps) l = all_new (part_objects s p) _ (part_valid s p l.0) (parts_valid (scope_behind_part s p) ps l.1)

-- ---- scopes behind statements

first_scope : (first : Option CValue) (here : Environment) → (past_first first here).scope ≡ here.scope
first_scope None here = refl
first_scope (Some v) here = refl

pub scope_is : (s : CStmt) (here : Environment) → (behind s here).scope ≡ scope_behind here.scope s
scope_is (plain.Local d) here = first_scope d.first (declaring d here)
scope_is (plain.Block ss) here = refl
scope_is (plain.Do_expr e) here = refl
scope_is plain.Empty here = refl
scope_is (plain.If e t) here = refl
scope_is (plain.IfElse e t u) here = refl
scope_is (plain.While e t) here = refl
scope_is (plain.Do t e) here = refl
scope_is (plain.For first test step t) here = refl
scope_is (plain.Return at e) here = refl
scope_is (plain.Break at) here = refl
scope_is (plain.Continue at) here = refl
scope_is (plain.Switch e ps) here = refl

pub part_scope_is : (p : CPart) (here : Environment) → (behind_part p here).scope ≡ scope_behind_part here.scope p
part_scope_is (plain.Label at e) here = refl
part_scope_is (plain.Item s) here = scope_is s here

pub all_scope_is : (ss : CStmts) (here : Environment) → (behind_all ss here).scope ≡ scope_behind_all here.scope ss
all_scope_is plain.NoStmt here = refl
all_scope_is (plain.MoreStmt s ss) here = all_scope_is ss (behind s here) ∙ ap (λ x. scope_behind_all x ss) (scope_is s here)

maybe_scope : (e : Option CExpr) (here : Environment) → (past_maybe e here).scope ≡ here.scope
maybe_scope None here = refl
maybe_scope (Some e) here = refl

both_scopes : (test step : Option CExpr) (here : Environment) → (past_maybe step (past_maybe test here)).scope ≡ here.scope
both_scopes test step here = maybe_scope step (past_maybe test here) ∙ maybe_scope test here

-- the body of a `for` stands in the scope behind its head
body_limited : (ss : CStmts) (test step : Option CExpr) (s : CStmt) (here : Environment) (o : ℕ) → StmtIsLimited (scope_behind_all (entered here.scope) ss) s → StmtIsLimited (past_maybe step (past_maybe test (behind_all ss (in_block o here)))).scope s
body_limited ss test step s here o l = subst (λ x. StmtIsLimited x s) (sym (both_scopes test step (behind_all ss (in_block o here)) ∙ all_scope_is ss (in_block o here))) l

body_limited_behind : (first : CStmt) (test step : Option CExpr) (s : CStmt) (here : Environment) → StmtIsLimited (scope_behind here.scope first) s → StmtIsLimited (past_maybe step (past_maybe test (behind first here))).scope s
body_limited_behind first test step s here l = subst (λ x. StmtIsLimited x s) (sym (both_scopes test step (behind first here) ∙ scope_is first here)) l

-- ---- what statements do

for_keeps : (test step : Option CExpr) (n : ℕ) (w : World) (here : Environment) {body : Run Flow} → MaybeIsLimited test → MaybeIsLimited step → WorldKeeps w → Keeps FlowIsValid body →
    Keeps FlowIsValid (loop w.inner n (maybe_condition test w here) (maybe_effect step w (past_maybe test here)) body)
for_keeps test step n w here l m t u = loop_keeps n w.inner _ _ _ (maybe_condition_keeps test w here l t) (maybe_effect_keeps step w (past_maybe test here) m t) u

mutual
  pub does_keeps : (s : CStmt) (n : ℕ) (w : World) (here : Environment) → StmtIsLimited here.scope s → WorldKeeps w → Keeps FlowIsValid (does s n w here)
  does_keeps (plain.Block ss) n w here l t = within_keeps _ (block_valid (entered here.scope) ss l) (λ o. all_do_keeps ss n w (in_block o here) l t)
  does_keeps (plain.Local d) n w here l t = bind_keeps (first_value_keeps d w here d.first l.1 t) (λ _ _. give_keeps Next tt)
  does_keeps (plain.Do_expr a) n w here l t = bind_keeps (value_keeps a w here l t) (λ _ _. give_keeps Next tt)
  does_keeps plain.Empty n w here l t = give_keeps Next tt
  does_keeps (plain.If a s) n w here l t = bind_keeps (condition_keeps a w here l.0 t) (λ b _. choose_keeps b (does_keeps s n w (past a here) l.1 t) (give_keeps Next tt))
  does_keeps (plain.IfElse a s u) n w here l t =
      bind_keeps (condition_keeps a w here l.0 t) (λ b _. choose_keeps b (does_keeps s n w (past a here) l.1 t) (does_keeps u n w (past_stmt s (past a here)) l.2 t))
  does_keeps (plain.While a s) n w here l t = loop_keeps n w.inner _ _ _ (condition_keeps a w here l.0 t) (give_keeps tt tt) (does_keeps s n w (past a here) l.1 t)
  does_keeps (plain.Do s a) n w here l t = do_loop_keeps n w.inner _ _ (condition_keeps a w (past_stmt s here) l.1 t) (does_keeps s n w here l.0 t)
  does_keeps (plain.For (plain.Block ss) test step s) n w here l t =
      within_keeps _ (block_valid (entered here.scope) ss l.0) (λ o. bind_keeps (all_do_keeps ss n w (in_block o here) l.0 t) (λ flow a. go_on_keeps flow a
      (for_keeps test step n w (behind_all ss (in_block o here)) l.1 l.2 t (does_keeps s n w (past_maybe step (past_maybe test (behind_all ss (in_block o here)))) (body_limited ss test step s here o l.3) t))))
  does_keeps (plain.For first test step s) n w here l t =
      bind_keeps (does_keeps first n w here l.0 t) (λ flow a. go_on_keeps flow a
      (for_keeps test step n w (behind first here) l.1 l.2 t (does_keeps s n w (past_maybe step (past_maybe test (behind first here))) (body_limited_behind first test step s here l.3) t)))
  does_keeps (plain.Return at a) n w here l t = returned_keeps a w here l t
  does_keeps (plain.Break at) n w here l t = give_keeps Broke tt
  does_keeps (plain.Continue at) n w here l t = give_keeps Continued tt
  does_keeps (plain.Switch a ps) n w here l t =
      bind_keeps (used_value_keeps a w here l.0 t) (λ v b. of_word_keeps v b (λ x _.
      bind_keeps (within_keeps _ (parts_valid (entered here.scope) ps l.1) (λ o. parts_from_keep ps _ n w (in_block o (past a here)) l.1 t)) (λ flow c. give_keeps _ (switch_valid flow c))))

  all_do_keeps : (ss : CStmts) (n : ℕ) (w : World) (here : Environment) → StmtsAreLimited here.scope ss → WorldKeeps w → Keeps FlowIsValid (all_do ss n w here)
  all_do_keeps plain.NoStmt n w here l t = give_keeps Next tt
  all_do_keeps (plain.MoreStmt s ss) n w here l t =
      bind_keeps (does_keeps s n w here l.0 t) (λ flow a. go_on_keeps flow a (all_do_keeps ss n w (behind s here) (subst (λ x. StmtsAreLimited x ss) (sym (scope_is s here)) l.1) t))

  part_keeps : (p : CPart) (n : ℕ) (w : World) (here : Environment) → PartIsLimited here.scope p → WorldKeeps w → Keeps FlowIsValid (part_does p n w here)
  part_keeps (plain.Label at a) n w here l t = give_keeps Next tt
  part_keeps (plain.Item s) n w here l t = does_keeps s n w here l t

  parts_keep : (ps : CParts) (n : ℕ) (w : World) (here : Environment) → PartsAreLimited here.scope ps → WorldKeeps w → Keeps FlowIsValid (parts_do ps n w here)
  parts_keep plain.NoPart n w here l t = give_keeps Next tt
  parts_keep (plain.MorePart p ps) n w here l t =
      bind_keeps (part_keeps p n w here l.0 t) (λ flow a. go_on_keeps flow a (parts_keep ps n w (behind_part p here) (subst (λ x. PartsAreLimited x ps) (sym (part_scope_is p here)) l.1) t))

  parts_from_keep : (ps : CParts) (target : Target) (n : ℕ) (w : World) (here : Environment) → PartsAreLimited here.scope ps → WorldKeeps w → Keeps FlowIsValid (parts_from target ps n w here)
  parts_from_keep plain.NoPart target n w here l t = give_keeps Next tt
  parts_from_keep (plain.MorePart p ps) target n w here l t =
      if_keeps (is_target target here.scope p) (parts_keep ps n w (behind_part p here) (subst (λ x. PartsAreLimited x ps) (sym (part_scope_is p here)) l.1) t)
      (parts_from_keep ps target n w (behind_part p here) (subst (λ x. PartsAreLimited x ps) (sym (part_scope_is p here)) l.1) t)
