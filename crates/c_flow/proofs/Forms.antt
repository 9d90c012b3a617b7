-- The code of each form does what the form does.
use Rattle.std.proofs.Common.{◌≡◌, ◌⊎◌, inl, inr, ℕ, suc, ◌+◌, List, [], ◌∷◌, ◌++◌, length, Option, Some, None, Bool, true, false, ◌≤◌, refl, sym, ap, subst, ◌∙◌, arith}
use Rattle.std.specs.Prelude.{slice_get, drop, if◌then◌else◌}
use Rattle.c_syntax.specs.Plain.{CExpr}
use Rattle.c_syntax.specs.Words.{meaning}
use Rattle.c_syntax.specs.declared.tree.UnOp.{UnOp}
use Rattle.c_syntax.specs.declared.tree.StepOp.{StepOp}
use Rattle.c_syntax.specs.declared.tree.BinOp.{BinOp}
use Rattle.c_syntax.specs.declared.tree.UnOp.TheVariants as unary
use Rattle.c_syntax.specs.declared.tree.BinOp.TheVariants as binary
use Rattle.c_types.specs.Types.{CType, CTypes, is_void, Tags}
use Rattle.c_types.specs.Scope.{Scope, Entity, Object, Routine, BuiltIn, Printf}
use Rattle.c_types.specs.Expressions.{names_function}
use Rattle.c_eval.specs.State.{Value, Word, Null, Point, Letter, Function, Missing, OutsideObject, OtherKind, NullCall, Act, State, Outcome, Gives, Ended, Going, Undefined, Run}
use Rattle.c_eval.specs.Run.{after, ◌>>=◌, give, undefined, paid}
use Rattle.c_eval.specs.Operators.{used, all_converted, combined, pointer_to}
use Rattle.c_eval.specs.BuiltIns.{built_in}
use Rattle.c_eval.specs.Environment.{Environment, value_type_in}
use Rattle.c_eval.specs.Eval.{World, place_named, value_named, unary_value, unary_place, stepped, assignment, cast_value, element, call_through}
use Rattle.c_eval.proofs.Following.{is_own}
use Rattle.c_eval.proofs.Parts.{built_in_follows}
use Rattle.c_code.specs.Code as code
use Rattle.c_code.specs.Code.{Instruction, Site, object_code, place_of_name, name_code, unary_code, unary_place_code, binary_code, assign_code}
use Rattle.c_code.specs.Machine.{Control, slot_in, pointer_in, slot_pointer, called, called_through, step_at_place, step_of, with_top, arguments}
use Rattle.c_flow.proofs.Leading.{Bounded, Keeps, Leads, moved, kept_by, give_keeps, undefined_keeps, given_on, leads_then, leads_as, leads_from, leads_first, leads_step, leads_skip, leads_lower, leads_paid, leads_self, at_depth}
use Rattle.c_flow.proofs.Standing.{stands_first, stands_rest, one_on, end_place}
use Rattle.c_flow.proofs.Landing.{Lands, push_lands, then_top, then_two, use_does, fetch_does, follow_does, one_word_does, negate_does, truth_does, forget_does, operate_does, assign_does, update_does, step_does, add_does}
use Rattle.c_flow.proofs.Choosing.{choice_lands, push_all, arguments_are, rest_is}

-- ---- names

-- what code finds for a name is what a run finds
abbrev pub Finds : List (Option ℕ) → Option (Option ℕ) → Option (Option ℕ) → Option (Option ℕ) → Type 0
Finds slots (Some (Some s)) file r = (x : Option ℕ) × (slice_get slots s ≡ Some x) × (r ≡ Some x)
Finds slots (Some None) file r = r ≡ Some None
Finds slots None file r = r ≡ file

pub record Alike (slots : List (Option ℕ)) (site : Site) (there : Environment) (os : List (List ℕ × Option ℕ)) : Type 0 where
  pub finds : (name : List ℕ) → Finds slots (meaning there.objects name) (meaning site.names name) (meaning os name)

-- the environment of a run, with objects in place of slots
abbrev pub seen : Environment → List (List ℕ × Option ℕ) → ℕ → Environment
seen there os n = record there { objects = os; next = n }

abbrev pub Calls : Type 0
Calls = List ℕ → List Value → Run Value

abbrev pub outer : Bounded → Site → Calls → World
outer p site calls = record { input = p.program.input; owner = site.owner; calls = calls; inner = false }

pointer_none : (m : State) → pointer_in None 0 m ≡ place_named (Some None) m
unfolding pointer_in place_named
pointer_none m = refl

pointer_some : (o : ℕ) (m : State) → pointer_in (Some o) 0 m ≡ place_named (Some (Some o)) m
unfolding pointer_in place_named
pointer_some o m = refl

none_named : (r : Option (Option ℕ)) → (r ≡ Some None) ⊎ (r ≡ None) → (m : State) → place_named r m ≡ Undefined OutsideObject m
unfolding place_named undefined
none_named r (inl e) m = ap (λ x. place_named x m) e
none_named r (inr e) m = ap (λ x. place_named x m) e

named_keeps : {depth : ℕ} (r : Option (Option ℕ)) → Keeps depth (place_named r)
unfolding place_named
named_keeps None = undefined_keeps Value OutsideObject refl
named_keeps (Some None) = undefined_keeps Value OutsideObject refl
named_keeps (Some (Some o)) = give_keeps (Point o 0)

nowhere_lands : (p : Bounded) (slots : List (Option ℕ)) (r : Option (Option ℕ)) → (r ≡ Some None) ⊎ (r ≡ None) → Lands p slots (code.Nowhere ∷ []) (place_named r)
unfolding step_of undefined after ◌>>=◌
nowhere_lands p slots r e c to f sl st =
    leads_step p c (place_named r) (λ v. give (moved c to (v ∷ c.stack))) code.Nowhere st.0 (named_keeps r) (λ m. ap (λ x. after x (λ v. give (moved c to (v ∷ c.stack)))) (sym (none_named r e m)))

global_lands : (p : Bounded) (slots : List (Option ℕ)) (o : ℕ) (r : Option (Option ℕ)) → r ≡ Some (Some o) → Lands p slots (code.Global o ∷ []) (place_named r)
unfolding step_of give after place_named ◌>>=◌
global_lands p slots o r e c to f sl st =
    leads_step p c (place_named r) (λ v. give (moved c to (v ∷ c.stack))) (code.Global o) st.0 (named_keeps r)
    (λ m. ap (λ k. Gives (moved c k (Point o 0 ∷ c.stack)) m) (one_on c.at to f) ∙ ap (λ x. after (place_named x m) (λ v. give (moved c to (v ∷ c.stack)))) (sym e))

pub no_place_lands : (p : Bounded) (slots : List (Option ℕ)) → Lands p slots (code.Nowhere ∷ []) (undefined OutsideObject)
unfolding step_of undefined after ◌>>=◌
no_place_lands p slots c to f sl st = leads_step p c (undefined OutsideObject) (λ v. give (moved c to (v ∷ c.stack))) code.Nowhere st.0 (undefined_keeps Value OutsideObject refl) (λ m. refl)

slot_lands : (p : Bounded) (slots : List (Option ℕ)) (s : ℕ) (r : Option (Option ℕ)) → r ≡ Some (slot_in (slice_get slots s)) → Lands p slots (code.Slot s ∷ []) (place_named r)
unfolding step_of slot_pointer ◌>>=◌ give
slot_lands p slots s r e c to f sl st =
    leads_step p c (place_named r) (λ v. give (moved c to (v ∷ c.stack))) (code.Slot s) st.0 (named_keeps r)
    (λ m. ap (λ xs. after (pointer_in (slot_in (slice_get xs s)) 0 m) (λ v. give (moved c (suc c.at) (v ∷ c.stack)))) sl
    ∙ (ap (λ x. after x (λ v. give (moved c (suc c.at) (v ∷ c.stack)))) (same (slot_in (slice_get slots s)) m)
    ∙ (ap (λ x. after (place_named x m) (λ v. give (moved c (suc c.at) (v ∷ c.stack)))) (sym e) ∙ ap (λ k. after (place_named r m) (λ v. give (moved c k (v ∷ c.stack)))) (one_on c.at to f))))
  where
    same : (o : Option ℕ) (m : State) → pointer_in o 0 m ≡ place_named (Some o) m
    same None m = pointer_none m
    same (Some o) m = pointer_some o m

pub object_lands : (p : Bounded) (slots : List (Option ℕ)) (o file r : Option (Option ℕ)) → Finds slots o file r → Lands p slots (object_code o file ∷ []) (place_named r)
object_lands p slots (Some (Some s)) file r e = slot_lands p slots s r (e.2 ∙ ap (λ o. Some (slot_in o)) (sym e.1))
object_lands p slots (Some None) file r e = nowhere_lands p slots r (inl e)
object_lands p slots None None r e = nowhere_lands p slots r (inr e)
object_lands p slots None (Some None) r e = nowhere_lands p slots r (inl e)
object_lands p slots None (Some (Some o)) r e = global_lands p slots o r e

-- ---- runs in other words

pub lands_as : (p : Bounded) (slots : List (Option ℕ)) (is : List Instruction) (m m' : Run Value) → ((st : State) → m st ≡ m' st) → Lands p slots is m → Lands p slots is m'
lands_as p slots is m m' e t c to f sl s = leads_as p m m' e (t c to f sl s)

lands_if : (p : Bounded) (slots : List (Option ℕ)) (b : Bool) (is js : List Instruction) (m m' : Run Value) → Lands p slots is m → Lands p slots js m' → Lands p slots (if b then is else js) (if b then m else m')
lands_if p slots true is js m m' t u = t
lands_if p slots false is js m m' t u = u

-- ---- forms

pub name_lands : (p : Bounded) (slots : List (Option ℕ)) (site : Site) (calls : Calls) (there : Environment) (os : List (List ℕ × Option ℕ)) (n : ℕ) → Alike slots site there os → (name : List ℕ) (entity : Option Entity) →
    Lands p slots (name_code site there name entity) (value_named (outer p site calls) (seen there os n) name entity)
unfolding value_named
name_lands p slots site calls there os n t name (Some (Object ty)) =
    then_top p slots (place_of_name site there name ∷ []) (code.Fetch ty) _ _ (fetch_does p ty) (object_lands p slots (meaning there.objects name) (meaning site.names name) (meaning os name) (t.finds name))
name_lands p slots site calls there os n t name (Some (Routine ty begun)) = push_lands p slots (Function name)
name_lands p slots site calls there os n t name (Some (BuiltIn ty)) = push_lands p slots (Function name)
name_lands p slots site calls there os n t name (Some Printf) = push_lands p slots (Function name)
name_lands p slots site calls there os n t name None = push_lands p slots (Function name)

pointer_itself : (m : Run Value) (st : State) → m st ≡ (m >>= λ v. pointer_to false v) st
unfolding ◌>>=◌ pointer_to
pointer_itself m st = sym (given_on m st)

pub unary_lands : (p : Bounded) (slots : List (Option ℕ)) (site : Site) (calls : Calls) (s : Scope) (op : UnOp) (a : CExpr) (is js : List Instruction) (m m' : Run Value) → Lands p slots is m → Lands p slots js m' →
    Lands p slots (unary_code s op a is js) (unary_value (outer p site calls) s op a m m')
unfolding unary_value
unary_lands p slots site calls s unary.Address a is js m m' t u = lands_if p slots (names_function s a) is js m _ t (lands_as p slots js m' _ (pointer_itself m') u)
unary_lands p slots site calls s unary.Deref a is js m m' t u = then_top p slots is _ m _ (follow_does p (value_type_in s a)) t
unary_lands p slots site calls s unary.Not a is js m m' t u = then_top p slots is _ m _ (negate_does p) t
unary_lands p slots site calls s op a is js m m' t u = then_top p slots is _ m _ (one_word_does p op) t

pub unary_place_lands : (p : Bounded) (slots : List (Option ℕ)) (op : UnOp) (is : List Instruction) (m : Run Value) → Lands p slots is m → Lands p slots (unary_place_code op is) (unary_place op m)
unfolding unary_place
unary_place_lands p slots unary.Deref is m t = t
unary_place_lands p slots op is m t = no_place_lands p slots

pub binary_lands : (p : Bounded) (slots : List (Option ℕ)) (tags : Tags) (op : BinOp) (ty u : CType) (is js : List Instruction) (m m' : Run Value) → Lands p slots is m → Lands p slots js m' →
    Lands p slots (binary_code tags op ty u is js) (combined tags op ty u m m')
unfolding combined
binary_lands p slots tags binary.And ty u is js m m' t v = choice_lands p slots is (js ++ code.Truth ∷ []) (code.Push (Word 0) ∷ []) m _ _ t (then_top p slots js code.Truth m' _ (truth_does p) v) (push_lands p slots (Word 0))
binary_lands p slots tags binary.Or ty u is js m m' t v = choice_lands p slots is (code.Push (Word 1) ∷ []) (js ++ code.Truth ∷ []) m _ _ t (push_lands p slots (Word 1)) (then_top p slots js code.Truth m' _ (truth_does p) v)
binary_lands p slots tags op ty u is js m m' t v = then_two p slots is js _ m m' _ (operate_does p tags op ty u) t v

pub assign_lands : (p : Bounded) (slots : List (Option ℕ)) (site : Site) (calls : Calls) (tags : Tags) (op : Option BinOp) (ty u : CType) (is js : List Instruction) (m m' : Run Value) → Lands p slots is m → Lands p slots js m' →
    Lands p slots (assign_code tags op ty u is js) (assignment (outer p site calls) tags op ty u m m')
unfolding assignment
assign_lands p slots site calls tags None ty u is js m m' t v = then_two p slots is js _ m m' _ (assign_does p ty) t v
assign_lands p slots site calls tags (Some op) ty u is js m m' t v = then_two p slots is js _ m m' _ (update_does p tags op ty u) t v

pub step_lands : (p : Bounded) (slots : List (Option ℕ)) (site : Site) (calls : Calls) (tags : Tags) (op : StepOp) (ty : CType) (is : List Instruction) (m : Run Value) → Lands p slots is m →
    Lands p slots (is ++ code.Step tags op ty ∷ []) (stepped (outer p site calls) tags op ty m)
unfolding stepped step_at_place
step_lands p slots site calls tags op ty is m t = then_top p slots is (code.Step tags op ty) m (λ v. step_at_place tags op ty v) (step_does p tags op ty) t

cast_lands : (p : Bounded) (slots : List (Option ℕ)) (b : Bool) (is : List Instruction) (m : Run Value) → Lands p slots is m → Lands p slots (is ++ (if b then code.Forget else code.Use) ∷ []) (if b then (m >>= λ _. give Missing) else (m >>= used))
cast_lands p slots true is m t = then_top p slots is code.Forget m _ (forget_does p) t
cast_lands p slots false is m t = then_top p slots is code.Use m used (use_does p) t

pub cast_value_lands : (p : Bounded) (slots : List (Option ℕ)) (ty : CType) (is : List Instruction) (m : Run Value) → Lands p slots is m → Lands p slots (is ++ (if is_void ty then code.Forget else code.Use) ∷ []) (cast_value ty m)
unfolding cast_value
cast_value_lands p slots ty is m t = cast_lands p slots (is_void ty) is m t

pub element_lands : (p : Bounded) (slots : List (Option ℕ)) (site : Site) (calls : Calls) (tags : Tags) (ty u : CType) (is js : List Instruction) (m m' : Run Value) → Lands p slots is m → Lands p slots js m' →
    Lands p slots (is ++ (js ++ code.Operate tags binary.Add ty u ∷ [])) (element (outer p site calls) tags ty u m m')
unfolding element
element_lands p slots site calls tags ty u is js m m' t v = then_two p slots is js _ m m' _ (add_does p tags ty u) t v

pub comma_lands : (p : Bounded) (slots : List (Option ℕ)) (is js : List Instruction) (m m' : Run Value) → Lands p slots is m → Lands p slots js m' → Lands p slots (is ++ (code.Drop ∷ js)) (m >>= λ _. m')
unfolding step_of with_top give
comma_lands p slots is js m m' t u c to e sl s =
    let mid : ℕ = c.at + length is in
    let behind = stands_rest p.program c.at mid is (code.Drop ∷ js) refl s in
    leads_then p (λ v. give (moved c mid (v ∷ c.stack))) (t c mid refl sl (stands_first p.program c.at is (code.Drop ∷ js) s))
    (λ v. leads_skip p (moved c mid (v ∷ c.stack)) (moved c (suc mid) c.stack) code.Drop behind.0 (λ st. refl)
    (u (moved c (suc mid) c.stack) to (drop_place mid to js (end_place c.at to is (code.Drop ∷ js) e)) sl behind.1))
  where
    drop_place : (mid to : ℕ) (js : List Instruction) → to ≡ mid + suc (length js) → to ≡ suc mid + length js
    drop_place mid to js e = omega (arith, e)

-- ---- calls

-- a call leads to behind it, with what it gave
pub record CallsLead (p : Bounded) (calls : Calls) : Type 0 where
  pub leads : (c : Control) (rest : List Value) (name : List ℕ) (vs : List Value) → Leads p (paid false (called c rest (meaning p.program.entries name) vs)) (calls name vs) (λ v. give (moved c (suc c.at) (v ∷ rest)))

leads_call : (p : Bounded) (calls : Calls) → CallsLead p calls → (c : Control) (to : ℕ) (rest : List Value) (i : Instruction) (name : List ℕ) (vs : List Value) → slice_get p.program.instructions c.at ≡ Some i →
    ((st : State) → step_of p.program i c st ≡ paid false (called c rest (meaning p.program.entries name) vs) st) → suc c.at ≡ to → Leads p (give c) (calls name vs) (λ v. give (moved c to (v ∷ rest)))
leads_call p calls k c to rest i name vs e s f =
    subst (λ t. Leads p (give c) (calls name vs) (λ v. give (moved c t (v ∷ rest)))) f (leads_first p c (paid false (called c rest (meaning p.program.entries name) vs)) i e s (k.leads c rest name vs))

up_one : (n : ℕ) → n ≤ suc n
up_one n = omega arith

-- a unit is paid
pub leads_pay : {A : Type 0} (p : Bounded) (c : Control) {m : Run A} {h : A → Run Control} → slice_get p.program.instructions c.at ≡ Some code.Pay → Leads p (give (moved c (suc c.at) c.stack)) m h → Leads (at_depth p (suc p.depth)) (give c) (paid false m) h
unfolding step_of
leads_pay p c e t = leads_first (at_depth p (suc p.depth)) c (paid false (give (moved c (suc c.at) c.stack))) code.Pay e (λ st. refl) (leads_paid p t)

pub leads_pay_here : {A : Type 0} (p : Bounded) (c : Control) {m : Run A} {h : A → Run Control} → slice_get p.program.instructions c.at ≡ Some code.Pay → Leads p (give (moved c (suc c.at) c.stack)) m h → Leads p (give c) (paid false m) h
leads_pay_here p c e t = leads_lower (at_depth p (suc p.depth)) p.depth (up_one p.depth) (leads_pay p c e t)

pub first_given : {B : Type 0} (vs : List Value) (g : List Value → Run B) (st : State) → g vs st ≡ (give vs >>= g) st
unfolding ◌>>=◌ give after
first_given vs g st = refl

pub more_given : {B : Type 0} (m : Run Value) (h : Value → Run (List Value)) (g : List Value → Run B) (st : State) →
    (m >>= λ v. (h v >>= λ vs. g (v ∷ vs))) st ≡ ((m >>= λ v. (h v >>= λ vs. give (v ∷ vs))) >>= g) st
unfolding ◌>>=◌ after give
more_given m h g st = outside (m st)
  where
    inside : (v : Value) (r : Outcome (List Value)) → after r (λ vs. g (v ∷ vs)) ≡ after (after r (λ vs. give (v ∷ vs))) g
    inside v (Gives vs st) = refl
    inside v (Ended st) = refl
    inside v (Going st) = refl
    inside v (Undefined act st) = refl

    outside : (r : Outcome Value) → after r (λ v st1. after (h v st1) (λ vs. g (v ∷ vs))) ≡ after (after r (λ v st1. after (h v st1) (λ vs. give (v ∷ vs)))) g
    outside (Gives v st) = inside v (h v st)
    outside (Ended st) = refl
    outside (Going st) = refl
    outside (Undefined act st) = refl

pub pay_place : (mid to : ℕ) (i j : Instruction) → to ≡ mid + length (i ∷ j ∷ []) → suc (suc mid) ≡ to
pay_place mid to i j e = omega (arith, e)

-- the instruction behind the arguments
pub known_leads : (p : Bounded) (c : Control) (name : List ℕ) (params : CTypes) (count : ℕ) (stack vs : List Value) (to : ℕ) → length vs ≡ count →
    slice_get p.program.instructions c.at ≡ Some (code.BuiltIn name params count) → suc c.at ≡ to → c.stack ≡ push_all stack vs → Leads p (give c) (built_in p.program.input false name (all_converted params vs)) (λ v. give (moved c to (v ∷ stack)))
unfolding step_of ◌>>=◌
known_leads p c name params count stack vs to l e f s =
    leads_step p c (built_in p.program.input false name (all_converted params vs)) (λ v. give (moved c to (v ∷ stack))) (code.BuiltIn name params count) e
    (kept_by p.program.input (built_in_follows false name (all_converted params vs) (λ asked. refl)))
    (λ st. ap (λ xs. after (built_in p.program.input false name (all_converted params (arguments count xs)) st) (λ v. give (moved c (suc c.at) (v ∷ drop count xs)))) s
    ∙ (ap (λ xs. after (built_in p.program.input false name (all_converted params xs) st) (λ v. give (moved c (suc c.at) (v ∷ drop count (push_all stack vs))))) (arguments_are vs stack count l)
    ∙ (ap (λ xs. after (built_in p.program.input false name (all_converted params vs) st) (λ v. give (moved c (suc c.at) (v ∷ xs)))) (rest_is vs stack count l)
    ∙ ap (λ k. after (built_in p.program.input false name (all_converted params vs) st) (λ v. give (moved c k (v ∷ stack)))) f)))

pub direct_leads : (p : Bounded) (calls : Calls) → CallsLead p calls → (c : Control) (name : List ℕ) (params : CTypes) (count : ℕ) (stack vs : List Value) (to : ℕ) → length vs ≡ count →
    slice_get p.program.instructions c.at ≡ Some (code.Call name params count) → suc c.at ≡ to → c.stack ≡ push_all stack vs → Leads p (give c) (calls name (all_converted params vs)) (λ v. give (moved c to (v ∷ stack)))
unfolding step_of
direct_leads p calls k c name params count stack vs to l e f s =
    leads_call p calls k c to stack (code.Call name params count) name (all_converted params vs) e
    (λ st. ap (λ xs. paid false (called c (drop count xs) (meaning p.program.entries name) (all_converted params (arguments count xs))) st) s
    ∙ (ap (λ xs. paid false (called c (drop count (push_all stack vs)) (meaning p.program.entries name) (all_converted params xs)) st) (arguments_are vs stack count l)
    ∙ ap (λ xs. paid false (called c xs (meaning p.program.entries name) (all_converted params vs)) st) (rest_is vs stack count l))) f

refused_leads : {A : Type 0} (p : Bounded) (act : Act) (h : A → Run Control) → is_own act ≡ true → Leads {A = A} p (undefined act) (undefined act) h
unfolding undefined ◌>>=◌ after
refused_leads {A = A} p act h own = leads_from p (undefined act >>= h) (undefined act) (λ st. refl) (leads_self p (undefined act) h (undefined_keeps A act own))

-- a call that is refused once its unit is paid
call_refused : (p : Bounded) (act : Act) (c : Control) (to : ℕ) (stack : List Value) (i : Instruction) → is_own act ≡ true → slice_get p.program.instructions c.at ≡ Some i → ((st : State) → step_of p.program i c st ≡ paid false (undefined act) st) →
    Leads p (give c) (paid false (undefined act)) (λ v. give (moved c to (v ∷ stack)))
call_refused p act c to stack i own e s =
    leads_lower (at_depth p (suc p.depth)) p.depth (up_one p.depth)
    (leads_first (at_depth p (suc p.depth)) c (paid false (undefined act)) i e s (leads_paid p (refused_leads p act (λ v. give (moved c to (v ∷ stack))) own)))

through_steps : (p : Bounded) (c : Control) (params : CTypes) (count : ℕ) (q : Value) (stack vs : List Value) → length vs ≡ count → c.stack ≡ push_all (q ∷ stack) vs → (st : State) →
    step_of p.program (code.CallThrough params count) c st ≡ called_through p.program c stack q (all_converted params vs) st
unfolding step_of with_top
through_steps p c params count q stack vs l s st =
    ap (λ xs. with_top (drop count xs) (λ v rest. called_through p.program c rest v (all_converted params (arguments count xs))) st) s
    ∙ (ap (λ xs. with_top (drop count (push_all (q ∷ stack) vs)) (λ v rest. called_through p.program c rest v (all_converted params xs)) st) (arguments_are vs (q ∷ stack) count l)
    ∙ ap (λ xs. with_top xs (λ v rest. called_through p.program c rest v (all_converted params vs)) st) (rest_is vs (q ∷ stack) count l))

through_function : (p : Bounded) (c : Control) (stack : List Value) (name : List ℕ) (vs : List Value) (st : State) → called_through p.program c stack (Function name) vs st ≡ paid false (called c stack (meaning p.program.entries name) vs) st
unfolding called_through
through_function p c stack name vs st = refl

through_null : (p : Bounded) (c : Control) (stack vs : List Value) (st : State) → called_through p.program c stack Null vs st ≡ paid false (undefined NullCall) st
unfolding called_through
through_null p c stack vs st = refl

through_word : (p : Bounded) (c : Control) (stack : List Value) (n : ℕ) (vs : List Value) (st : State) → called_through p.program c stack (Word n) vs st ≡ paid false (undefined OtherKind) st
unfolding called_through
through_word p c stack n vs st = refl

through_point : (p : Bounded) (c : Control) (stack : List Value) (o n : ℕ) (vs : List Value) (st : State) → called_through p.program c stack (Point o n) vs st ≡ paid false (undefined OtherKind) st
unfolding called_through
through_point p c stack o n vs st = refl

through_letter : (p : Bounded) (c : Control) (stack : List Value) (g : Option (List ℕ)) (i : ℕ) (text : List ℕ) (n : ℕ) (vs : List Value) (st : State) → called_through p.program c stack (Letter g i text n) vs st ≡ paid false (undefined OtherKind) st
unfolding called_through
through_letter p c stack g i text n vs st = refl

through_missing : (p : Bounded) (c : Control) (stack vs : List Value) (st : State) → called_through p.program c stack Missing vs st ≡ paid false (undefined OtherKind) st
unfolding called_through
through_missing p c stack vs st = refl

pub through_leads : (p : Bounded) (site : Site) (calls : Calls) → CallsLead p calls → (c : Control) (params : CTypes) (count : ℕ) (q : Value) (stack vs : List Value) (to : ℕ) → length vs ≡ count →
    slice_get p.program.instructions c.at ≡ Some (code.CallThrough params count) → suc c.at ≡ to → c.stack ≡ push_all (q ∷ stack) vs →
    Leads p (give c) (call_through (outer p site calls) q (all_converted params vs)) (λ v. give (moved c to (v ∷ stack)))
unfolding call_through
through_leads p site calls k c params count q stack vs to l e f s = by_pointer q (through_steps p c params count q stack vs l s)
  where
    by_pointer : (q : Value) → ((st : State) → step_of p.program (code.CallThrough params count) c st ≡ called_through p.program c stack q (all_converted params vs) st) → Leads p (give c) (call_through (outer p site calls) q (all_converted params vs)) (λ v. give (moved c to (v ∷ stack)))
    by_pointer (Function name) d = leads_call p calls k c to stack (code.CallThrough params count) name (all_converted params vs) e (λ st. d st ∙ through_function p c stack name (all_converted params vs) st) f
    by_pointer Null d = call_refused p NullCall c to stack (code.CallThrough params count) refl e (λ st. d st ∙ through_null p c stack (all_converted params vs) st)
    by_pointer (Word n) d = call_refused p OtherKind c to stack (code.CallThrough params count) refl e (λ st. d st ∙ through_word p c stack n (all_converted params vs) st)
    by_pointer (Point o n) d = call_refused p OtherKind c to stack (code.CallThrough params count) refl e (λ st. d st ∙ through_point p c stack o n (all_converted params vs) st)
    by_pointer (Letter g i text n) d = call_refused p OtherKind c to stack (code.CallThrough params count) refl e (λ st. d st ∙ through_letter p c stack g i text n (all_converted params vs) st)
    by_pointer Missing d = call_refused p OtherKind c to stack (code.CallThrough params count) refl e (λ st. d st ∙ through_missing p c stack (all_converted params vs) st)
