-- Trees in two worlds, from valid states.
use Rattle.std.proofs.Common.{◌≡◌, ℕ, zero, suc, ◌+◌, ◌%◌, ◌^◌, ◌<◌, List, [], ◌∷◌, ◌++◌, Option, Some, None, Bool, true, refl, sym, ◌∙◌, subst, arith, replicate}
use Rattle.std.proofs.lemmas.List.{length-replicate}
use Rattle.c_syntax.specs.Plain as plain
use Rattle.c_syntax.specs.Plain.{CExpr, CExprs, CValue, CValues, CDecl, CStmt, CStmts, CPart, CParts}
use Rattle.c_syntax.specs.declared.tree.UnOp.{UnOp}
use Rattle.c_syntax.specs.declared.tree.BinOp.{BinOp}
use Rattle.c_syntax.specs.declared.tree.UnOp.TheVariants as unary
use Rattle.c_syntax.specs.declared.tree.BinOp.TheVariants as binary
use Rattle.c_syntax.specs.declared.tree.StepOp.{StepOp}
use Rattle.c_syntax.specs.declared.tree.StepOp.TheVariants as step
use Rattle.c_types.specs.Types.{CType, Int, is_void, Tags, words_of}
use Rattle.c_types.specs.Scope.{Scope, Entity, entity_of, entered, Object, Routine, BuiltIn, Printf}
use Rattle.c_types.specs.Expressions.{names_function, format_of}
use Rattle.c_types.specs.Declarations.{Slots, first_slot, next_slots, slots_of, takes_string}
use Rattle.c_types.specs.Census.{scope_behind, scope_behind_all}
use Rattle.c_eval.specs.State.{Value, Word, Null, Point, Letter, Function, Missing, Cell, Unset, OutsideObject, OtherKind, NullCall, Run}
use Rattle.c_eval.specs.Run.{give}
use Rattle.c_eval.specs.Memory.{Kind, Number, ObjectPointer, FunctionPointer, kind_of, zero_of, at_offset, offset_of}
use Rattle.c_eval.specs.Operators.{used, is_true, all_converted, converted, combined}
use Rattle.c_eval.specs.Environment.{object_type_in, type_or_nothing, slot_kinds, objects_in, block_objects, parts_objects, Environment, past, past_maybe, past_stmt, past_value, declaring, behind, behind_all, behind_part, in_block, Callee, Direct, Known, Format, Through, callee_in, named_callee, Target, is_target, target_of}
use Rattle.c_eval.specs.Eval.{World, place_named, value_named, unary_value, unary_place, stepped, step_op, step_value, assignment, cast_value, element, call_through, call, value_of, place_of, values_of, values_behind, used_value, condition, clear, spell, array_text, initialise, initialise_all, first_value, Flow, Next, Broke, Continued, Returned, go_on, turned, behind_switch, loop, do_loop, maybe_condition, maybe_effect, returned, does, all_do, part_does, parts_do, parts_from}
use Rattle.c_eval.specs.Text.{Definition}
use Rattle.c_eval.specs.Meaning.{argument_objects, result_of, body_environment, runs}
use Rattle.c_helpers.specs.Names.{names_in, names_in_all, maybe_names, value_names, values_names, first_names, stmt_names, stmts_names, part_names, parts_names}
use Rattle.c_worlds.specs.Named.{Each, IsNamed, AreNamed, CellsAreNamed, FlowIsNamed, CallsGoAlike}
use Rattle.c_worlds.specs.Laws.{with_calls, StatementsGoAlike, RunsGoAlike}
use Rattle.c_valid.specs.Valid.{AreBytes, most_cells, IsValid, AreValid, CellsAreValid}
use Rattle.c_valid.specs.Limited.{ExprIsLimited, ExprsAreLimited, MaybeIsLimited, ValueIsLimited, ValuesAreLimited, FirstIsLimited, StmtIsLimited, StmtsAreLimited, PartIsLimited, PartsAreLimited}
use Rattle.c_valid.proofs.Constants.{constant_in_below}
use Rattle.c_valid.proofs.Objects.{NewAreValid, load_keeps, member_at_keeps}
use Rattle.c_valid.proofs.Operators.{truth_below, converted_valid, all_converted_valid, used_keeps, sum_keeps, operated_keeps, on_word_keeps, pointer_to_keeps, value_at_keeps, pointed_value_keeps, assigned_keeps, updated_keeps, printf_keeps, built_in_keeps}
use Rattle.c_valid.proofs.Meanings.{FlowIsValid, clear_keeps, spell_keeps, array_bytes, scope_is, part_scope_is, all_scope_is}
use Rattle.c_worlds.proofs.Parts.{Any, Goes, bind_goes, give_goes, load_goes, store_goes, NewAreNamed, member_at_goes}
use Rattle.c_worlds.proofs.Joint.{Both, bind_both, leaf, give_both, undefined_both, stop_both, choose_both, if_both, paid_both, of_word_both, within_both}
use Rattle.c_worlds.proofs.Operators.{converted_named, all_converted_named, used_goes, sum_goes, operated_goes, on_word_goes, pointer_to_goes, value_at_goes, pointed_value_goes, assigned_goes, updated_goes, printf_goes, built_in_goes}

-- ---- names of parts

front : (P : List ℕ → Type 0) (xs ys : List (List ℕ)) → Each P (xs ++ ys) → Each P xs
front P [] ys n = tt
front P (x ∷ xs) ys n = (n.0, front P xs ys n.1)

last : (P : List ℕ → Type 0) (xs ys : List (List ℕ)) → Each P (xs ++ ys) → Each P ys
last P [] ys n = n
last P (x ∷ xs) ys n = last P xs ys n.1

module _ (P : List ℕ → Type 0) (limit : ℕ) (w : World) (other : List ℕ → List Value → Run Value) (bytes : AreBytes w.input) (calls : CallsGoAlike P limit w.calls other) where
  abbrev N : Value → Type 0
  N = IsNamed P

  abbrev F : Flow → Type 0
  F = FlowIsNamed P

  -- the other world
  abbrev v : World
  v = with_calls w other

  calls_go : (name : List ℕ) (vs : List Value) → P name → AreNamed P vs → AreValid vs → Both P limit N IsValid (other name vs) (w.calls name vs)
  calls_go name vs n a q = record { both = λ st s u. calls name vs st n a q s u }

  -- what is used
  used_both : (x : Value) → N x → IsValid x → Both P limit N IsValid (used x) (used x)
  used_both x a q = leaf P limit (used_goes P limit x a) (used_keeps x q)

  -- ---- expressions

  place_named_both : (o : Option (Option ℕ)) → Both P limit N IsValid (place_named o) (place_named o)
  unfolding place_named
  place_named_both None = undefined_both P limit OutsideObject
  place_named_both (Some None) = undefined_both P limit OutsideObject
  place_named_both (Some (Some o)) = give_both P limit (Point o 0) tt (omega arith)

  value_named_both : (here : Environment) (name : List ℕ) (entity : Option Entity) → P name → Both P limit N IsValid (value_named v here name entity) (value_named w here name entity)
  unfolding value_named
  value_named_both here name (Some (Object t)) n = bind_both P limit (place_named_both _) (λ p a q. leaf P limit (value_at_goes P limit w.inner t p a) (value_at_keeps w.inner t p q))
  value_named_both here name (Some (Routine t begun)) n = give_both P limit (Function name) n tt
  value_named_both here name (Some (BuiltIn t)) n = give_both P limit (Function name) n tt
  value_named_both here name (Some Printf) n = give_both P limit (Function name) n tt
  value_named_both here name None n = give_both P limit (Function name) n tt

  unary_value_both : (s : Scope) (op : UnOp) (a : CExpr) {m n p q : Run Value} → Both P limit N IsValid m n → Both P limit N IsValid p q → Both P limit N IsValid (unary_value v s op a m p) (unary_value w s op a n q)
  unfolding unary_value
  unary_value_both s unary.Address a t u = if_both P limit (names_function s a) t (bind_both P limit u (λ p n q. leaf P limit (pointer_to_goes P limit w.inner p n) (pointer_to_keeps w.inner p q)))
  unary_value_both s unary.Deref a t u = bind_both P limit t (λ p n q. leaf P limit (pointed_value_goes P limit w.inner _ p n) (pointed_value_keeps w.inner _ p q))
  unary_value_both s unary.Not a t u = bind_both P limit t (λ x n q. give_both P limit _ tt (truth_below _))
  unary_value_both s op a t u = bind_both P limit t (λ x n q. leaf P limit (on_word_goes P limit op x) (on_word_keeps op x q))

  unary_place_both : (op : UnOp) {m n : Run Value} → Both P limit N IsValid m n → Both P limit N IsValid (unary_place op m) (unary_place op n)
  unfolding unary_place
  unary_place_both unary.Deref t = t
  unary_place_both op t = undefined_both P limit OutsideObject

  step_told : (G : Value → Type 0) (op : StepOp) (old new : Value) → G old → G new → G (step_value op old new)
  step_told G step.PreInc old new a b = b
  step_told G step.PreDec old new a b = b
  step_told G step.PostInc old new a b = a
  step_told G step.PostDec old new a b = a

  stepped_both : (tags : Tags) (op : StepOp) (t : CType) {p q : Run Value} → Both P limit N IsValid p q → Both P limit N IsValid (stepped v tags op t p) (stepped w tags op t q)
  unfolding stepped
  stepped_both tags op t u =
      bind_both P limit u (λ p a q. bind_both P limit (leaf P limit (load_goes P limit (kind_of t) p) (load_keeps (kind_of t) p q))
      (λ old b c. bind_both P limit (leaf P limit (operated_goes P limit tags (step_op op) t Int old (Word 1) b tt) (operated_keeps tags (step_op op) t Int old (Word 1) c (omega arith)))
      (λ new d e. bind_both P limit (leaf P limit (assigned_goes P limit t p new d) (assigned_keeps t p new e)) (λ _ _ _. give_both P limit _ (step_told N op old new b d) (step_told IsValid op old new c e)))))

  assignment_both : (tags : Tags) (op : Option BinOp) (t u : CType) {p q m n : Run Value} → Both P limit N IsValid p q → Both P limit N IsValid m n → Both P limit N IsValid (assignment v tags op t u p m) (assignment w tags op t u q n)
  unfolding assignment
  assignment_both tags None t u r s = bind_both P limit r (λ p a b. bind_both P limit s (λ x c d. leaf P limit (assigned_goes P limit t p x c) (assigned_keeps t p x d)))
  assignment_both tags (Some op) t u r s = bind_both P limit r (λ p a b. bind_both P limit s (λ y c d. leaf P limit (updated_goes P limit tags op t u p y c) (updated_keeps tags op t u p y b d)))

  cast_value_both : (t : CType) {m n : Run Value} → Both P limit N IsValid m n → Both P limit N IsValid (cast_value t m) (cast_value t n)
  unfolding cast_value
  cast_value_both t u = if_both P limit (is_void t) (bind_both P limit u (λ _ _ _. give_both P limit Missing tt tt)) (bind_both P limit u used_both)

  element_both : (tags : Tags) (t u : CType) {m a n b : Run Value} → Both P limit N IsValid m a → Both P limit N IsValid n b → Both P limit N IsValid (element v tags t u m n) (element w tags t u a b)
  unfolding element
  element_both tags t u r s = bind_both P limit r (λ x a b. bind_both P limit s (λ y c d. leaf P limit (sum_goes P limit tags t u x y a c) (sum_keeps tags t u x y b d)))

  combined_both : (tags : Tags) (op : BinOp) (t u : CType) {m a n b : Run Value} → Both P limit N IsValid m a → Both P limit N IsValid n b → Both P limit N IsValid (combined tags op t u m n) (combined tags op t u a b)
  unfolding combined
  combined_both tags binary.And t u r s = bind_both P limit r (λ x _ _. choose_both P limit (is_true x) (bind_both P limit s (λ y _ _. give_both P limit _ tt (truth_below (is_true y)))) (give_both P limit (Word 0) tt (omega arith)))
  combined_both tags binary.Or t u r s = bind_both P limit r (λ x _ _. choose_both P limit (is_true x) (give_both P limit (Word 1) tt (omega arith)) (bind_both P limit s (λ y _ _. give_both P limit _ tt (truth_below (is_true y)))))
  combined_both tags op t u r s = bind_both P limit r (λ x a b. bind_both P limit s (λ y c d. leaf P limit (operated_goes P limit tags op t u x y a c) (operated_keeps tags op t u x y b d)))

  call_through_both : (p : Value) (vs : List Value) → N p → AreNamed P vs → AreValid vs → Both P limit N IsValid (call_through v p vs) (call_through w p vs)
  unfolding call_through
  call_through_both (Function name) vs n a q = calls_go name vs n a q
  call_through_both Null vs n a q = paid_both P limit w.inner (undefined_both P limit NullCall)
  call_through_both (Word x) vs n a q = paid_both P limit w.inner (undefined_both P limit OtherKind)
  call_through_both (Point o k) vs n a q = paid_both P limit w.inner (undefined_both P limit OtherKind)
  call_through_both (Letter f i text k) vs n a q = paid_both P limit w.inner (undefined_both P limit OtherKind)
  call_through_both Missing vs n a q = paid_both P limit w.inner (undefined_both P limit OtherKind)

  -- a function that is called by its name is named
  abbrev CalleeIsNamed : Callee → Type 0
  CalleeIsNamed (Direct name params) = P name
  CalleeIsNamed callee = Unit {0}

  called_named : (name : List ℕ) (entity : Option Entity) → P name → CalleeIsNamed (named_callee name entity)
  called_named name (Some (Object t)) n = tt
  called_named name (Some (Routine t begun)) n = n
  called_named name (Some (BuiltIn t)) n = tt
  called_named name (Some Printf) n = tt
  called_named name None n = tt

  callee_named : (s : Scope) (f : CExpr) → Each P (names_in f) → CalleeIsNamed (callee_in s f)
  callee_named s (plain.Var at name) n = called_named name (entity_of s name) n.0
  callee_named s f n = tt

  call_both : (callee : Callee) (format : Option (List ℕ)) {p q : Run Value} {m n i j : Run (List Value)} → CalleeIsNamed callee → Both P limit N IsValid p q → Both P limit (AreNamed P) AreValid m n → Both P limit (AreNamed P) AreValid i j → Both P limit N IsValid (call v callee format p m i) (call w callee format q n j)
  unfolding call
  call_both (Direct name params) format c r s u = bind_both P limit s (λ vs a b. calls_go name (all_converted params vs) c (all_converted_named P limit params vs a) (all_converted_valid params vs b))
  call_both (Known name params) format c r s u =
      bind_both P limit s (λ vs a b. paid_both P limit w.inner (leaf P limit (built_in_goes P limit w.input w.inner name (all_converted params vs) (all_converted_named P limit params vs a)) (built_in_keeps w.input w.inner name (all_converted params vs) bytes (all_converted_valid params vs b))))
  call_both Format format c r s u = bind_both P limit u (λ vs a b. paid_both P limit w.inner (leaf P limit (printf_goes P limit w.inner format vs) (printf_keeps w.inner format vs)))
  call_both (Through params) format c r s u = bind_both P limit r (λ p a b. bind_both P limit s (λ vs d e. call_through_both p (all_converted params vs) a (all_converted_named P limit params vs d) (all_converted_valid params vs e)))

  mutual
    value_both : (e : CExpr) (here : Environment) → Each P (names_in e) → ExprIsLimited e → Both P limit N IsValid (value_of e v here) (value_of e w here)
    value_both (plain.Number at n unsigned) here l k = give_both P limit (Word (n % 2 ^ 24)) tt (omega arith)
    value_both (plain.Str at text) here l k = give_both P limit (Letter w.owner here.literals_before text 0) tt (k, omega arith)
    value_both (plain.Null at) here l k = give_both P limit Null tt tt
    value_both (plain.Var at name) here l k = value_named_both here name (entity_of here.scope name) l.0
    value_both (plain.Unary at op a) here l k = unary_value_both here.scope op a (bind_both P limit (value_both a here l k) used_both) (place_both a here l k)
    value_both (plain.Step at op a) here l k = stepped_both _ op _ (place_both a here l k)
    value_both (plain.Binary at op a b) here l k =
        combined_both _ op _ _ (bind_both P limit (value_both a here (front P (names_in a) (names_in b) l) k.0) used_both) (bind_both P limit (value_both b (past a here) (last P (names_in a) (names_in b) l) k.1) used_both)
    value_both (plain.Assign at op a b) here l k =
        assignment_both _ op _ _ (place_both a here (front P (names_in a) (names_in b) l) k.0) (bind_both P limit (value_both b (past a here) (last P (names_in a) (names_in b) l) k.1) used_both)
    value_both (plain.Cond at a b c) here l k =
        let more : Each P (names_in b ++ names_in c) = last P (names_in a) (names_in b ++ names_in c) l in
        bind_both P limit (bind_both P limit (value_both a here (front P (names_in a) (names_in b ++ names_in c) l) k.0) used_both) (λ x _ _.
        bind_both P limit (choose_both P limit (is_true x) (value_both b (past a here) (front P (names_in b) (names_in c) more) k.1) (value_both c (past b (past a here)) (last P (names_in b) (names_in c) more) k.2))
        (λ x d e. give_both P limit _ (converted_named P limit _ x d) (converted_valid _ x e)))
    value_both (plain.Comma at a b) here l k = bind_both P limit (value_both a here (front P (names_in a) (names_in b) l) k.0) (λ _ _ _. value_both b (past a here) (last P (names_in a) (names_in b) l) k.1)
    value_both (plain.Cast at ty a) here l k = cast_value_both _ (value_both a here l k)
    value_both (plain.SizeTy at ty) here l k = give_both P limit _ tt (constant_in_below here.scope (plain.SizeTy at ty))
    value_both (plain.SizeOf at a) here l k = give_both P limit _ tt (constant_in_below here.scope (plain.SizeOf at a))
    value_both (plain.Index at a b) here l k =
        bind_both P limit (element_both _ _ _ (bind_both P limit (value_both a here (front P (names_in a) (names_in b) l) k.0) used_both) (bind_both P limit (value_both b (past a here) (last P (names_in a) (names_in b) l) k.1) used_both))
        (λ p c d. leaf P limit (value_at_goes P limit w.inner _ p c) (value_at_keeps w.inner _ p d))
    value_both (plain.Call at f es) here l k =
        let fs : Each P (names_in f) = front P (names_in f) (names_in_all es) l in
        let more : Each P (names_in_all es) = last P (names_in f) (names_in_all es) l in
        call_both (callee_in here.scope f) (format_of es) (callee_named here.scope f fs) (bind_both P limit (value_both f here fs k.0) used_both) (values_both es (past f here) more k.1) (behind_both es here more k.1)
    value_both (plain.Member at a m) here l k =
        bind_both P limit (bind_both P limit (place_both a here l k) (λ p c d. leaf P limit (member_at_goes P limit _ p c) (member_at_keeps _ p d))) (λ p c d. leaf P limit (value_at_goes P limit w.inner _ p c) (value_at_keeps w.inner _ p d))
    value_both (plain.Arrow at a m) here l k =
        bind_both P limit (bind_both P limit (bind_both P limit (value_both a here l k) used_both) (λ p c d. leaf P limit (member_at_goes P limit _ p c) (member_at_keeps _ p d))) (λ p c d. leaf P limit (value_at_goes P limit w.inner _ p c) (value_at_keeps w.inner _ p d))

    place_both : (e : CExpr) (here : Environment) → Each P (names_in e) → ExprIsLimited e → Both P limit N IsValid (place_of e v here) (place_of e w here)
    place_both (plain.Str at text) here l k = give_both P limit (Letter w.owner here.literals_before text 0) tt (k, omega arith)
    place_both (plain.Var at name) here l k = place_named_both _
    place_both (plain.Unary at op a) here l k = unary_place_both op (bind_both P limit (value_both a here l k) used_both)
    place_both (plain.Index at a b) here l k =
        element_both _ _ _ (bind_both P limit (value_both a here (front P (names_in a) (names_in b) l) k.0) used_both) (bind_both P limit (value_both b (past a here) (last P (names_in a) (names_in b) l) k.1) used_both)
    place_both (plain.Member at a m) here l k = bind_both P limit (place_both a here l k) (λ p c d. leaf P limit (member_at_goes P limit _ p c) (member_at_keeps _ p d))
    place_both (plain.Arrow at a m) here l k = bind_both P limit (bind_both P limit (value_both a here l k) used_both) (λ p c d. leaf P limit (member_at_goes P limit _ p c) (member_at_keeps _ p d))
    place_both (plain.Number at n unsigned) here l k = undefined_both P limit OutsideObject
    place_both (plain.Null at) here l k = undefined_both P limit OutsideObject
    place_both (plain.Step at op a) here l k = undefined_both P limit OutsideObject
    place_both (plain.Binary at op a b) here l k = undefined_both P limit OutsideObject
    place_both (plain.Assign at op a b) here l k = undefined_both P limit OutsideObject
    place_both (plain.Cond at a b c) here l k = undefined_both P limit OutsideObject
    place_both (plain.Comma at a b) here l k = undefined_both P limit OutsideObject
    place_both (plain.Cast at ty a) here l k = undefined_both P limit OutsideObject
    place_both (plain.SizeTy at ty) here l k = undefined_both P limit OutsideObject
    place_both (plain.SizeOf at a) here l k = undefined_both P limit OutsideObject
    place_both (plain.Call at f es) here l k = undefined_both P limit OutsideObject

    values_both : (es : CExprs) (here : Environment) → Each P (names_in_all es) → ExprsAreLimited es → Both P limit (AreNamed P) AreValid (values_of es v here) (values_of es w here)
    values_both plain.NoExpr here l k = give_both P limit [] tt tt
    values_both (plain.MoreExpr e es) here l k =
        bind_both P limit (bind_both P limit (value_both e here (front P (names_in e) (names_in_all es) l) k.0) used_both)
        (λ x a b. bind_both P limit (values_both es (past e here) (last P (names_in e) (names_in_all es) l) k.1) (λ xs c d. give_both P limit (x ∷ xs) (a, c) (b, d)))

    behind_both : (es : CExprs) (here : Environment) → Each P (names_in_all es) → ExprsAreLimited es → Both P limit (AreNamed P) AreValid (values_behind es v here) (values_behind es w here)
    behind_both plain.NoExpr here l k = give_both P limit [] tt tt
    behind_both (plain.MoreExpr e es) here l k = values_both es here (last P (names_in e) (names_in_all es) l) k.1

  used_value_both : (e : CExpr) (here : Environment) → Each P (names_in e) → ExprIsLimited e → Both P limit N IsValid (used_value e v here) (used_value e w here)
  unfolding used_value
  used_value_both e here l k = bind_both P limit (value_both e here l k) used_both

  condition_both : (e : CExpr) (here : Environment) → Each P (names_in e) → ExprIsLimited e → Both P limit Any Any (condition e v here) (condition e w here)
  unfolding condition
  condition_both e here l k = bind_both P limit (bind_both P limit (value_both e here l k) used_both) (λ x _ _. give_both P limit _ tt tt)

  -- ---- first values

  zero_named : (kind : Kind) → N (zero_of kind)
  zero_named Number = tt
  zero_named ObjectPointer = tt
  zero_named FunctionPointer = tt

  clear_goes : (kinds : List Kind) (p : Value) → Goes P limit Any (clear kinds p) (clear kinds p)
  unfolding clear
  clear_goes [] p = give_goes P limit tt tt
  clear_goes (kind ∷ kinds) p = bind_goes P limit (store_goes P limit kind p (zero_of kind) (zero_named kind)) (λ _ _. clear_goes kinds (at_offset p (suc (offset_of p))))

  spell_goes : (cs : List ℕ) (p : Value) → Goes P limit Any (spell cs p) (spell cs p)
  unfolding spell
  spell_goes [] p = give_goes P limit tt tt
  spell_goes (c ∷ cs) p = bind_goes P limit (store_goes P limit Number p (Word c) tt) (λ _ _. spell_goes cs (at_offset p (suc (offset_of p))))

  mutual
    initialise_both : (x : CValue) (ty : CType) (p : Value) (here : Environment) → Each P (value_names x) → ValueIsLimited x → Both P limit Any Any (initialise x ty p v here) (initialise x ty p w here)
    initialise_both (plain.One e) ty p here l k =
        if_both P limit (takes_string ty e) (leaf P limit (spell_goes (array_text ty e) p) (spell_keeps (array_text ty e) p (array_bytes ty e k)))
        (bind_both P limit (used_value_both e here l k) (λ x a b. bind_both P limit (leaf P limit (assigned_goes P limit ty p x a) (assigned_keeps ty p x b)) (λ _ _ _. give_both P limit tt tt tt)))
    initialise_both (plain.Many xs) ty p here l k = initialise_all_both xs (slots_of here.scope.tags (Some ty)) p here l k

    initialise_all_both : (xs : CValues) (slots : Slots) (p : Value) (here : Environment) → Each P (values_names xs) → ValuesAreLimited xs → Both P limit Any Any (initialise_all xs slots p v here) (initialise_all xs slots p w here)
    initialise_all_both plain.NoValue slots p here l k = leaf P limit (clear_goes (slot_kinds here.scope.tags slots) p) (clear_keeps (slot_kinds here.scope.tags slots) p)
    initialise_all_both (plain.MoreValue x xs) slots p here l k =
        bind_both P limit (initialise_both x (type_or_nothing (first_slot slots)) p here (front P (value_names x) (values_names xs) l) k.0)
        (λ _ _ _. initialise_all_both xs (next_slots slots) (at_offset p (offset_of p + words_of here.scope.tags (type_or_nothing (first_slot slots)))) (past_value x here) (last P (value_names x) (values_names xs) l) k.1)

  first_value_both : (d : CDecl) (here : Environment) (first : Option CValue) → Each P (first_names first) → FirstIsLimited first → Both P limit Any Any (first_value d v here first) (first_value d w here first)
  unfolding first_value
  first_value_both d here None l k = give_both P limit tt tt tt
  first_value_both d here (Some x) l k = initialise_both x (object_type_in here.scope d) (Point here.next 0) (declaring d here) l k

  -- ---- flows and loops

  abbrev B : Run Flow → Run Flow → Type 0
  B m n = Both P limit F FlowIsValid m n

  go_on_both : (flow : Flow) {m n : Run Flow} → F flow → FlowIsValid flow → B m n → B (go_on flow m) (go_on flow n)
  unfolding go_on
  go_on_both Next a b t = t
  go_on_both Broke a b t = give_both P limit Broke tt tt
  go_on_both Continued a b t = give_both P limit Continued tt tt
  go_on_both (Returned x) a b t = give_both P limit (Returned x) a b

  turned_both : (flow : Flow) {m n : Run Flow} → F flow → FlowIsValid flow → B m n → B (turned flow m) (turned flow n)
  unfolding turned
  turned_both Next a b t = t
  turned_both Continued a b t = t
  turned_both Broke a b t = give_both P limit Next tt tt
  turned_both (Returned x) a b t = give_both P limit (Returned x) a b

  switch_both : (flow : Flow) → F flow → FlowIsValid flow → B (give (behind_switch flow)) (give (behind_switch flow))
  switch_both Next a b = give_both P limit Next tt tt
  switch_both Continued a b = give_both P limit Continued tt tt
  switch_both Broke a b = give_both P limit Next tt tt
  switch_both (Returned x) a b = give_both P limit (Returned x) a b

  loop_both : (i : ℕ) (inner : Bool) {check test : Run Bool} {again step : Run (Unit {0})} {m n : Run Flow} → Both P limit Any Any check test → Both P limit Any Any again step → B m n → B (loop inner i check again m) (loop inner i test step n)
  unfolding loop
  loop_both zero inner t u b = stop_both P limit
  loop_both (suc i) inner t u b = bind_both P limit t (λ x _ _. choose_both P limit x (paid_both P limit inner (bind_both P limit b (λ flow a d. turned_both flow a d (bind_both P limit u (λ _ _ _. loop_both i inner t u b))))) (give_both P limit Next tt tt))

  do_loop_both : (i : ℕ) (inner : Bool) {check test : Run Bool} {m n : Run Flow} → Both P limit Any Any check test → B m n → B (do_loop inner i check m) (do_loop inner i test n)
  unfolding do_loop
  do_loop_both zero inner t b = stop_both P limit
  do_loop_both (suc i) inner t b = paid_both P limit inner (bind_both P limit b (λ flow a d. turned_both flow a d (bind_both P limit t (λ x _ _. choose_both P limit x (do_loop_both i inner t b) (give_both P limit Next tt tt)))))

  maybe_condition_both : (e : Option CExpr) (here : Environment) → Each P (maybe_names e) → MaybeIsLimited e → Both P limit Any Any (maybe_condition e v here) (maybe_condition e w here)
  unfolding maybe_condition
  maybe_condition_both None here l k = give_both P limit true tt tt
  maybe_condition_both (Some e) here l k = condition_both e here l k

  maybe_effect_both : (e : Option CExpr) (here : Environment) → Each P (maybe_names e) → MaybeIsLimited e → Both P limit Any Any (maybe_effect e v here) (maybe_effect e w here)
  unfolding maybe_effect
  maybe_effect_both None here l k = give_both P limit tt tt tt
  maybe_effect_both (Some e) here l k = bind_both P limit (value_both e here l k) (λ _ _ _. give_both P limit tt tt tt)

  returned_both : (e : Option CExpr) (here : Environment) → Each P (maybe_names e) → MaybeIsLimited e → B (returned e v here) (returned e w here)
  unfolding returned
  returned_both None here l k = give_both P limit (Returned Missing) tt tt
  returned_both (Some e) here l k = bind_both P limit (used_value_both e here l k) (λ x a b. give_both P limit (Returned x) a b)

  -- ---- the objects of a block

  unset_told : (n : ℕ) → CellsAreNamed P (replicate n Unset) × CellsAreValid (replicate n Unset)
  unset_told zero = (tt, tt)
  unset_told (suc n) = let k = unset_told n in ((tt, k.0), (tt, k.1))

  objects_told : (s : Scope) (t : CStmt) → StmtIsLimited s t → NewAreNamed P limit (objects_in s t) × NewAreValid (objects_in s t)
  objects_told s (plain.Local d) l =
      let n : ℕ = words_of s.tags (object_type_in s d) in
      let k = unset_told n in
      ((k.0, tt), ((k.1, subst (λ n. n < most_cells) (sym (length-replicate n Unset)) l.0), tt))
  objects_told s t l = (tt, tt)

  all_told : (new more : List (List Cell)) → NewAreNamed P limit new × NewAreValid new → NewAreNamed P limit more × NewAreValid more → NewAreNamed P limit (new ++ more) × NewAreValid (new ++ more)
  all_told [] more a b = b
  all_told (cells ∷ new) more a b = let k = all_told new more (a.0.1, a.1.1) b in ((a.0.0, k.0), (a.1.0, k.1))

  block_told : (s : Scope) (ss : CStmts) → StmtsAreLimited s ss → NewAreNamed P limit (block_objects s ss) × NewAreValid (block_objects s ss)
  block_told s plain.NoStmt l = (tt, tt)
  block_told s (plain.MoreStmt t ts) l = all_told (objects_in s t) (block_objects (scope_behind s t) ts) (objects_told s t l.0) (block_told (scope_behind s t) ts l.1)

  parts_told : (s : Scope) (ps : CParts) → PartsAreLimited s ps → NewAreNamed P limit (parts_objects s ps) × NewAreValid (parts_objects s ps)
  parts_told s plain.NoPart l = (tt, tt)
  parts_told s (plain.MorePart (plain.Label at e) ps) l = parts_told s ps l.1
  parts_told s (plain.MorePart (plain.Item t) ps) l = all_told (objects_in s t) (parts_objects (scope_behind s t) ps) (objects_told s t l.0) (parts_told (scope_behind s t) ps l.1)

  -- ---- statements

  maybe_scope : (e : Option CExpr) (here : Environment) → (past_maybe e here).scope ≡ here.scope
  maybe_scope None here = refl
  maybe_scope (Some e) here = refl

  both_scopes : (test step : Option CExpr) (here : Environment) → (past_maybe step (past_maybe test here)).scope ≡ here.scope
  both_scopes test step here = maybe_scope step (past_maybe test here) ∙ maybe_scope test here

  -- the body of a `for` stands in the scope behind its head
  body_limited : (test step : Option CExpr) (t : CStmt) (here : Environment) (s : Scope) → here.scope ≡ s → StmtIsLimited s t → StmtIsLimited (past_maybe step (past_maybe test here)).scope t
  body_limited test step t here s e l = subst (λ x. StmtIsLimited x t) (sym (both_scopes test step here ∙ e)) l

  -- what stands behind a head
  for_both : (test step : Option CExpr) (t : CStmt) (i : ℕ) (here : Environment) → Each P (maybe_names test ++ (maybe_names step ++ stmt_names t)) → MaybeIsLimited test → MaybeIsLimited step → B (does t i v (past_maybe step (past_maybe test here))) (does t i w (past_maybe step (past_maybe test here)))
      → B (loop w.inner i (maybe_condition test v here) (maybe_effect step v (past_maybe test here)) (does t i v (past_maybe step (past_maybe test here))))
      (loop w.inner i (maybe_condition test w here) (maybe_effect step w (past_maybe test here)) (does t i w (past_maybe step (past_maybe test here))))
  for_both test step t i here l k m body =
      let more : Each P (maybe_names step ++ stmt_names t) = last P (maybe_names test) (maybe_names step ++ stmt_names t) l in
      loop_both i w.inner (maybe_condition_both test here (front P (maybe_names test) (maybe_names step ++ stmt_names t) l) k) (maybe_effect_both step (past_maybe test here) (front P (maybe_names step) (stmt_names t) more) m) body

  for_body : (test step : Option CExpr) (t : CStmt) → Each P (maybe_names test ++ (maybe_names step ++ stmt_names t)) → Each P (stmt_names t)
  for_body test step t l = last P (maybe_names step) (stmt_names t) (last P (maybe_names test) (maybe_names step ++ stmt_names t) l)

  mutual
    does_both : (t : CStmt) (i : ℕ) (here : Environment) → Each P (stmt_names t) → StmtIsLimited here.scope t → B (does t i v here) (does t i w here)
    does_both (plain.Block ss) i here l k =
        let new = block_told (entered here.scope) ss k in
        within_both P limit (block_objects (entered here.scope) ss) new.0 new.1 (λ o. all_do_both ss i (in_block o here) l k)
    does_both (plain.Local d) i here l k = bind_both P limit (first_value_both d here d.first l k.1) (λ _ _ _. give_both P limit Next tt tt)
    does_both (plain.Do_expr a) i here l k = bind_both P limit (value_both a here l k) (λ _ _ _. give_both P limit Next tt tt)
    does_both plain.Empty i here l k = give_both P limit Next tt tt
    does_both (plain.If a t) i here l k =
        bind_both P limit (condition_both a here (front P (names_in a) (stmt_names t) l) k.0) (λ b _ _. choose_both P limit b (does_both t i (past a here) (last P (names_in a) (stmt_names t) l) k.1) (give_both P limit Next tt tt))
    does_both (plain.IfElse a t u) i here l k =
        let more : Each P (stmt_names t ++ stmt_names u) = last P (names_in a) (stmt_names t ++ stmt_names u) l in
        bind_both P limit (condition_both a here (front P (names_in a) (stmt_names t ++ stmt_names u) l) k.0)
        (λ b _ _. choose_both P limit b (does_both t i (past a here) (front P (stmt_names t) (stmt_names u) more) k.1) (does_both u i (past_stmt t (past a here)) (last P (stmt_names t) (stmt_names u) more) k.2))
    does_both (plain.While a t) i here l k = loop_both i w.inner (condition_both a here (front P (names_in a) (stmt_names t) l) k.0) (give_both P limit tt tt tt) (does_both t i (past a here) (last P (names_in a) (stmt_names t) l) k.1)
    does_both (plain.Do t a) i here l k = do_loop_both i w.inner (condition_both a (past_stmt t here) (last P (stmt_names t) (names_in a) l) k.1) (does_both t i here (front P (stmt_names t) (names_in a) l) k.0)
    does_both (plain.For (plain.Block ss) test step t) i here l k =
        let new = block_told (entered here.scope) ss k.0 in
        let more : Each P (maybe_names test ++ (maybe_names step ++ stmt_names t)) = last P (stmts_names ss) (maybe_names test ++ (maybe_names step ++ stmt_names t)) l in
        within_both P limit (block_objects (entered here.scope) ss) new.0 new.1 (λ o. bind_both P limit (all_do_both ss i (in_block o here) (front P (stmts_names ss) (maybe_names test ++ (maybe_names step ++ stmt_names t)) l) k.0) (λ flow a b. go_on_both flow a b
        (for_both test step t i (behind_all ss (in_block o here)) more k.1 k.2
        (does_both t i (past_maybe step (past_maybe test (behind_all ss (in_block o here)))) (for_body test step t more) (body_limited test step t (behind_all ss (in_block o here)) (scope_behind_all (entered here.scope) ss) (all_scope_is ss (in_block o here)) k.3)))))
    does_both (plain.For first test step t) i here l k =
        let more : Each P (maybe_names test ++ (maybe_names step ++ stmt_names t)) = last P (stmt_names first) (maybe_names test ++ (maybe_names step ++ stmt_names t)) l in
        bind_both P limit (does_both first i here (front P (stmt_names first) (maybe_names test ++ (maybe_names step ++ stmt_names t)) l) k.0) (λ flow a b. go_on_both flow a b
        (for_both test step t i (behind first here) more k.1 k.2
        (does_both t i (past_maybe step (past_maybe test (behind first here))) (for_body test step t more) (body_limited test step t (behind first here) (scope_behind here.scope first) (scope_is first here) k.3))))
    does_both (plain.Return at a) i here l k = returned_both a here l k
    does_both (plain.Break at) i here l k = give_both P limit Broke tt tt
    does_both (plain.Continue at) i here l k = give_both P limit Continued tt tt
    does_both (plain.Switch a ps) i here l k =
        let new = parts_told (entered here.scope) ps k.1 in
        bind_both P limit (used_value_both a here (front P (names_in a) (parts_names ps) l) k.0) (λ x _ _. of_word_both P limit x (λ n.
        bind_both P limit (within_both P limit (parts_objects (entered here.scope) ps) new.0 new.1 (λ o. parts_from_both ps (target_of n (entered here.scope) ps) i (in_block o (past a here)) (last P (names_in a) (parts_names ps) l) k.1))
        (λ flow c d. switch_both flow c d)))

    all_do_both : (ss : CStmts) (i : ℕ) (here : Environment) → Each P (stmts_names ss) → StmtsAreLimited here.scope ss → B (all_do ss i v here) (all_do ss i w here)
    all_do_both plain.NoStmt i here l k = give_both P limit Next tt tt
    all_do_both (plain.MoreStmt t ts) i here l k =
        bind_both P limit (does_both t i here (front P (stmt_names t) (stmts_names ts) l) k.0)
        (λ flow a b. go_on_both flow a b (all_do_both ts i (behind t here) (last P (stmt_names t) (stmts_names ts) l) (subst (λ x. StmtsAreLimited x ts) (sym (scope_is t here)) k.1)))

    part_both : (p : CPart) (i : ℕ) (here : Environment) → Each P (part_names p) → PartIsLimited here.scope p → B (part_does p i v here) (part_does p i w here)
    part_both (plain.Label at a) i here l k = give_both P limit Next tt tt
    part_both (plain.Item t) i here l k = does_both t i here l k

    parts_both : (ps : CParts) (i : ℕ) (here : Environment) → Each P (parts_names ps) → PartsAreLimited here.scope ps → B (parts_do ps i v here) (parts_do ps i w here)
    parts_both plain.NoPart i here l k = give_both P limit Next tt tt
    parts_both (plain.MorePart p ps) i here l k =
        bind_both P limit (part_both p i here (front P (part_names p) (parts_names ps) l) k.0)
        (λ flow a b. go_on_both flow a b (parts_both ps i (behind_part p here) (last P (part_names p) (parts_names ps) l) (subst (λ x. PartsAreLimited x ps) (sym (part_scope_is p here)) k.1)))

    parts_from_both : (ps : CParts) (target : Target) (i : ℕ) (here : Environment) → Each P (parts_names ps) → PartsAreLimited here.scope ps → B (parts_from target ps i v here) (parts_from target ps i w here)
    parts_from_both plain.NoPart target i here l k = give_both P limit Next tt tt
    parts_from_both (plain.MorePart p ps) target i here l k =
        if_both P limit (is_target target here.scope p) (parts_both ps i (behind_part p here) (last P (part_names p) (parts_names ps) l) (subst (λ x. PartsAreLimited x ps) (sym (part_scope_is p here)) k.1))
        (parts_from_both ps target i (behind_part p here) (last P (part_names p) (parts_names ps) l) (subst (λ x. PartsAreLimited x ps) (sym (part_scope_is p here)) k.1))

  -- ---- runs

  result_of_both : (t : CType) (flow : Flow) → F flow → FlowIsValid flow → Both P limit N IsValid (result_of t flow) (result_of t flow)
  unfolding result_of
  result_of_both t Next a b = give_both P limit Missing tt tt
  result_of_both t Broke a b = give_both P limit Missing tt tt
  result_of_both t Continued a b = give_both P limit Missing tt tt
  result_of_both t (Returned x) a b = give_both P limit (converted t x) (converted_named P limit t x a) (converted_valid t x b)

  arguments_told : (params : List (List ℕ)) (vs : List Value) → AreNamed P vs → AreValid vs → NewAreNamed P limit (argument_objects params vs) × NewAreValid (argument_objects params vs)
  arguments_told [] vs a b = (tt, tt)
  arguments_told (name ∷ params) [] a b = (tt, tt)
  arguments_told (name ∷ params) (x ∷ vs) a b = let k = arguments_told params vs a.1 b.1 in (((a.0, tt), k.0), (((b.0, tt), one), k.1))
    where
      one : 1 < most_cells
      one = omega arith

  runs_both : (f : Definition) (names : List (List ℕ × Option ℕ)) (i : ℕ) (vs : List Value) → Each P (stmt_names f.body) → StmtIsLimited f.scope f.body → AreNamed P vs → AreValid vs → Both P limit N IsValid (runs f names i v vs) (runs f names i w vs)
  unfolding runs
  runs_both f names i vs l k a b =
      let new = arguments_told f.params vs a b in
      bind_both P limit (within_both P limit (argument_objects f.params vs) new.0 new.1 (λ o. does_both f.body i (body_environment f names vs o) l k)) (λ flow c d. result_of_both f.result flow c d)

pub statements_go_alike : StatementsGoAlike
statements_go_alike test limit w other t deep here st bytes calls names limited named valid =
    let k = (does_both (λ name. test name ≡ true) limit w other bytes calls t deep here names limited).both st named valid in
    (k.0, k.1)

pub runs_go_alike : RunsGoAlike
runs_go_alike test limit w other f names deep vs st bytes calls all limited told are named valid = (runs_both (λ name. test name ≡ true) limit w other bytes calls f names deep vs all limited told are).both st named valid
