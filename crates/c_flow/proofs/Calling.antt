-- A call runs the code of the function, and comes back.
use Rattle.std.proofs.Common.{◌≡◌, ℕ, zero, suc, ◌+◌, ◌<◌, ◌≤◌, List, [], ◌∷◌, ◌++◌, length, Option, Some, None, Bool, true, false, refl, sym, ap, ◌∙◌, subst, arith, length-append}
use Rattle.std.specs.Prelude.{nat_le, slice_get, cond, if◌then◌else◌}
use Rattle.std.specs.List.{find}
use Rattle.std.specs.Str.{bytes_eq}
use Rattle.std.proofs.lemmas.Slice.Eq.{bytes_eq-Decides}
use Rattle.c_syntax.specs.Words.{meaning}
use Rattle.c_types.specs.Types.{CType}
use Rattle.c_eval.specs.State.{Value, Missing, OutsideObject, State, Run}
use Rattle.c_eval.specs.Run.{after, ◌>>=◌, give, undefined, paid, recharged, charged_by, charged, most_charge}
use Rattle.c_eval.specs.Memory.{enter, leave, within}
use Rattle.c_eval.specs.Operators.{converted, as_pointer}
use Rattle.c_eval.specs.Eval.{Flow, Next, Broke, Continued, Returned}
use Rattle.c_eval.specs.Text.{Definition, Text, function_named}
use Rattle.c_eval.specs.Meaning.{argument_objects, argument_names, result_of, runs, Rules, charged_run, call_by, calls_to}
use Rattle.c_eval.proofs.Following.{Proper}
use Rattle.c_code.specs.Code as code
use Rattle.c_code.specs.Code.{Instruction, slots_for, stmt_code}
use Rattle.c_code.specs.Machine.{Control, Entry, Program, numbered, unwind, broken_off, continued, returned_to, argument_slots, begun, at_entry, called, with_top, step_of, drive, parameter_slots, body_place, site_of, function_code, functions_code, entry_of, entries_of, program_of}
use Rattle.c_flow.proofs.Leading.{Bounded, Keeps, Leads, moved, after_proper, by_parts, undefined_keeps, leads_then, leads_self, leads_give, leads_as, leads_from, leads_first, leads_paid}
use Rattle.c_flow.proofs.Standing.{Stands, stands_first, stands_rest}
use Rattle.c_flow.proofs.Forms.{Finds, Calls, outer, CallsLead}
use Rattle.c_flow.proofs.Flowing.{goes, left_with, enter_keeps}
use Rattle.c_flow.proofs.Looping.{stopped}
use Rattle.c_flow.proofs.Names.{Ready, finds_by, get_first, get_behind, get_numbered, numbered_length}
use Rattle.c_flow.proofs.Statements.{does_goes}

-- ---- parameters

slots_length : (params : List (List ℕ)) (vs : List Value) (o : ℕ) → length (argument_slots params vs o) ≡ length params
slots_length [] vs o = refl
slots_length (x ∷ xs) [] o = ap suc (slots_length xs [] o)
slots_length (x ∷ xs) (v ∷ vs) o = ap suc (slots_length xs vs (suc o))

-- the slots of arguments stand among these from a slot on
abbrev Among : List (Option ℕ) → ℕ → List (Option ℕ) → Type 0
Among slots i xs = (j : ℕ) (x : Option ℕ) → slice_get xs j ≡ Some x → slice_get slots (i + j) ≡ Some x

among_rest : (slots xs : List (Option ℕ)) (i : ℕ) (y : Option ℕ) → Among slots i (y ∷ xs) → Among slots (suc i) xs
among_rest slots xs i y t j x e = let f : suc i + j ≡ i + suc j = omega arith in ap (slice_get slots) f ∙ t (suc j) x e

among_first : (slots xs : List (Option ℕ)) (i : ℕ) (y : Option ℕ) → Among slots i (y ∷ xs) → slice_get slots i ≡ Some y
among_first slots xs i y t = let f : i ≡ i + zero = omega arith in ap (slice_get slots) f ∙ t zero y refl

arguments_found : (params : List (List ℕ)) (vs : List Value) (o i : ℕ) (slots : List (Option ℕ)) (names : List (List ℕ × Option ℕ)) (name : List ℕ) → Among slots i (argument_slots params vs o) →
    Finds slots (meaning (parameter_slots params i) name) (meaning names name) (meaning (argument_names params vs o ++ names) name)
arguments_found [] vs o i slots names name t = refl
arguments_found (x ∷ xs) [] o i slots names name t =
    finds_by (bytes_eq name x) slots i None (meaning (parameter_slots xs (suc i)) name) (meaning names name) (meaning (argument_names xs [] o ++ names) name) (among_first slots (argument_slots xs [] o) i None t)
    (arguments_found xs [] o (suc i) slots names name (among_rest slots (argument_slots xs [] o) i None t))
arguments_found (x ∷ xs) (v ∷ vs) o i slots names name t =
    finds_by (bytes_eq name x) slots i (Some o) (meaning (parameter_slots xs (suc i)) name) (meaning names name) (meaning (argument_names xs vs (suc o) ++ names) name) (among_first slots (argument_slots xs vs (suc o)) i (Some o) t)
    (arguments_found xs vs (suc o) (suc i) slots names name (among_rest slots (argument_slots xs vs (suc o)) i (Some o) t))

body_ready : (names : List (List ℕ × Option ℕ)) (f : Definition) (vs : List Value) (o : ℕ) →
    Ready (argument_slots f.params vs o ++ numbered (o + length (argument_objects f.params vs)) (slots_for f.body)) (site_of names f) (length f.params + slots_for f.body) (slots_for f.body) (body_place f) (argument_names f.params vs o ++ names) (o + length (argument_objects f.params vs))
body_ready names f vs o = record {
  alike = record { finds = λ name. arguments_found f.params vs o 0 (given ++ more) names name (λ j x e. get_first given more (0 + j) x (from_none j x e)) };
  pending = λ i lt. ap (λ k. slice_get (given ++ more) (k + i)) (sym (slots_length f.params vs o)) ∙ (get_behind given more i ∙ get_numbered start (slots_for f.body) i lt);
  size = length-append given more ∙ (ap (λ k. k + length more) (slots_length f.params vs o) ∙ ap (λ k. length f.params + k) (numbered_length start (slots_for f.body)));
}
  where
    start : ℕ
    start = o + length (argument_objects f.params vs)

    given : List (Option ℕ)
    given = argument_slots f.params vs o

    more : List (Option ℕ)
    more = numbered start (slots_for f.body)

    from_none : (j : ℕ) (x : Option ℕ) → slice_get given j ≡ Some x → slice_get given (0 + j) ≡ Some x
    from_none j x e = let z : 0 + j ≡ j = omega arith in ap (slice_get given) z ∙ e

-- ---- the return

pointed : (b : Bool) → (if b then as_pointer Missing else Missing) ≡ Missing
pointed true = refl
pointed false = refl

missing_converts : (t : CType) → converted t Missing ≡ Missing
missing_converts t = pointed _

-- once its objects are dead a function gives what its flow says
unfoldable finish : CType → ℕ → (Value → Control) → Flow → Run Control
finish t charge back (Returned v) = give (converted t v) >>= λ w. recharged charge (back w)
finish t charge back flow = give (converted t Missing) >>= λ w. recharged charge (back w)

gives_missing : (p : Bounded) (t : CType) (charge : ℕ) (back : Value → Control) → Leads p (give (converted t Missing) >>= λ w. recharged charge (back w)) (give Missing) (λ v. recharged charge (back v))
unfolding ◌>>=◌ give after
gives_missing p t charge back = leads_give p (give (converted t Missing) >>= λ w. recharged charge (back w)) (λ v. recharged charge (back v)) Missing (λ st. ap (λ v. recharged charge (back v) st) (missing_converts t))

result_leads : (p : Bounded) (t : CType) (charge : ℕ) (back : Value → Control) (flow : Flow) → Leads p (finish t charge back flow) (result_of t flow) (λ v. recharged charge (back v))
unfolding finish result_of ◌>>=◌ give after
result_leads p t charge back Next = gives_missing p t charge back
result_leads p t charge back Broke = gives_missing p t charge back
result_leads p t charge back Continued = gives_missing p t charge back
result_leads p t charge back (Returned v) = leads_give p (give (converted t v) >>= λ w. recharged charge (back w)) (λ v. recharged charge (back v)) (converted t v) (λ st. refl)

-- from the end of a body the machine comes back to the caller
body_ends : (p : Bounded) (c : Control) (rest vs : List Value) (e : Entry) (charge o end : ℕ) → Stands p.program end (code.Push Missing ∷ code.Return ∷ []) → (flow : Flow) →
    Leads p (goes (at_entry c rest e vs charge o) end flow) (leave o >>= λ _. give flow) (finish e.result charge (λ w. moved c (suc c.at) (w ∷ rest)))
unfolding goes finish returned_to unwind broken_off continued step_of with_top ◌>>=◌ give after
body_ends p c rest vs e charge o end s Next =
    leads_first p (moved (at_entry c rest e vs charge o) end []) (give (moved (at_entry c rest e vs charge o) (suc end) (Missing ∷ []))) (code.Push Missing) s.0 (λ st. refl)
    (leads_first p (moved (at_entry c rest e vs charge o) (suc end) (Missing ∷ [])) (leave o >>= λ _. finish e.result charge (λ w. moved c (suc c.at) (w ∷ rest)) Next) code.Return s.1.0 (λ st. refl)
    (left_with p (leave o >>= λ _. finish e.result charge (λ w. moved c (suc c.at) (w ∷ rest)) Next) o Next (finish e.result charge (λ w. moved c (suc c.at) (w ∷ rest))) (λ st. refl)))
body_ends p c rest vs e charge o end s Broke = left_with p (goes (at_entry c rest e vs charge o) end Broke) o Broke (finish e.result charge (λ w. moved c (suc c.at) (w ∷ rest))) (λ st. refl)
body_ends p c rest vs e charge o end s Continued = left_with p (goes (at_entry c rest e vs charge o) end Continued) o Continued (finish e.result charge (λ w. moved c (suc c.at) (w ∷ rest))) (λ st. refl)
body_ends p c rest vs e charge o end s (Returned v) = left_with p (goes (at_entry c rest e vs charge o) end (Returned v)) o (Returned v) (finish e.result charge (λ w. moved c (suc c.at) (w ∷ rest))) (λ st. refl)

-- ---- the body

body_leads : (p : Bounded) (rules : Rules) (names : List (List ℕ × Option ℕ)) (f : Definition) (at : ℕ) (calls : Calls) (c : Control) (rest vs : List Value) (charge : ℕ) → CallsLead p calls → Stands p.program at (function_code names f) →
    Leads p (enter (argument_objects f.params vs) >>= λ o. give (at_entry c rest (entry_of rules f at) vs charge o)) (runs f names p.depth (outer p (site_of names f) calls) vs) (λ v. recharged charge (moved c (suc c.at) (v ∷ rest)))
unfolding runs within
body_leads p rules names f at calls c rest vs charge k s =
    leads_then p (finish f.result charge (λ w. moved c (suc c.at) (w ∷ rest)))
    (leads_then p (λ o. give (entered o)) (leads_self p (enter (argument_objects f.params vs)) (λ o. give (entered o)) (enter_keeps (argument_objects f.params vs)))
    (λ o. leads_then p (goes (entered o) (at + length is))
    (does_goes f.body p (entered o).slots (site_of names f) calls (length f.params + slots_for f.body) (slots_for f.body) (body_place f) (argument_names f.params vs o ++ names) (o + length (argument_objects f.params vs)) k (enough (slots_for f.body)) (body_ready names f vs o)
    (entered o) (at + length is) refl refl (stands_first p.program at is (code.Push Missing ∷ code.Return ∷ []) s))
    (λ flow. body_ends p c rest vs (entry_of rules f at) charge o (at + length is) (stands_rest p.program at (at + length is) is (code.Push Missing ∷ code.Return ∷ []) refl s) flow)))
    (λ flow. result_leads p f.result charge (λ w. moved c (suc c.at) (w ∷ rest)) flow)
  where
    is : List Instruction
    is = stmt_code f.body (length f.params + slots_for f.body) (site_of names f) (body_place f)

    entered : ℕ → Control
    entered o = at_entry c rest (entry_of rules f at) vs charge o

    enough : (a : ℕ) → a ≤ a
    enough a = omega arith

-- ---- the charge

charged_ends : (p : Bounded) (b : Bool) (x : ℕ) (r : Run Control) (m : Run Value) (st : State) (back : Value → Control) → st.left < p.depth → Leads p r m (λ v. recharged st.charge (back v)) →
    (k : ℕ) × ((n : ℕ) → after (begun b x r st) (λ d. drive p.program (k + n) d) ≡ after (charged_by b x m st) (λ v. give (back v) >>= λ d. drive p.program n d))
unfolding begun charged_by recharged ◌>>=◌ give after
charged_ends p false x r m st back lt t = (zero, λ n. refl)
charged_ends p true x r m st back lt t =
    let st1 : State = record st { charge = st.charge + x } in
    ((t.leads st1 lt).0, λ n. (t.leads st1 lt).1 n ∙ sym (by_parts (m st1) (recharged st.charge) (λ v. give (back v) >>= λ d. drive p.program n d)))

charged_keeps : (depth : ℕ) (b : Bool) (x : ℕ) (m : Run Value) (st : State) → st.left < depth → Keeps depth m → Proper st.left (charged_by b x m st)
unfolding charged_by recharged
charged_keeps depth false x m st lt t = refl
charged_keeps depth true x m st lt t = after_proper st.left depth (m (record st { charge = st.charge + x })) (recharged st.charge) lt (t (record st { charge = st.charge + x }) lt) (λ a st1 lt1. omega arith)

-- ---- where functions stand

-- what the program finds for a name is what the text has
abbrev Found : Program → Rules → List (List ℕ × Option ℕ) → List ℕ → Option Entry → Option Definition → Type 0
Found p rules names name None None = Unit {0}
Found p rules names name (Some e) (Some f) = (at : ℕ) × (e ≡ entry_of rules f at) × (name ≡ f.name) × Stands p at (function_code names f)
Found p rules names name None (Some f) = ⊥
Found p rules names name (Some e) None = ⊥

found_by : (p : Program) (rules : Rules) (names : List (List ℕ × Option ℕ)) (name : List ℕ) (b : Bool) (f : Definition) (at : ℕ) (x : Option Entry) (y : Option Definition) → bytes_eq name f.name ≡ b → Stands p at (function_code names f) → Found p rules names name x y →
    Found p rules names name (cond b (Some (entry_of rules f at)) x) (cond b (Some f) y)
found_by p rules names name true f at x y e s t = (at, refl, (bytes_eq-Decides name f.name).0 e, s)
found_by p rules names name false f at x y e s t = t

found_in : (p : Program) (rules : Rules) (names : List (List ℕ × Option ℕ)) (name : List ℕ) (fs : List Definition) (at : ℕ) → Stands p at (functions_code names fs) →
    Found p rules names name (meaning (entries_of rules names fs at) name) (find (λ f. bytes_eq name f.name) fs)
found_in p rules names name [] at s = tt
found_in p rules names name (f ∷ fs) at s =
    found_by p rules names name (bytes_eq name f.name) f at _ _ refl (stands_first p at (function_code names f) (functions_code names fs) s)
    (found_in p rules names name fs (at + length (function_code names f)) (stands_rest p at (at + length (function_code names f)) (function_code names f) (functions_code names fs) refl s))

stands_by : (p : Program) (k : ℕ) (xs : List Instruction) → ((j : ℕ) → slice_get p.instructions (k + j) ≡ slice_get xs j) → Stands p k xs
stands_by p k [] e = tt
stands_by p k (x ∷ xs) e = (first (e zero), stands_by p (suc k) xs (λ j. later j (e (suc j))))
  where
    first : slice_get p.instructions (k + zero) ≡ Some x → slice_get p.instructions k ≡ Some x
    first f = let z : k ≡ k + zero = omega arith in ap (slice_get p.instructions) z ∙ f

    later : (j : ℕ) → slice_get p.instructions (k + suc j) ≡ slice_get xs j → slice_get p.instructions (suc k + j) ≡ slice_get xs j
    later j f = let z : suc k + j ≡ k + suc j = omega arith in ap (slice_get p.instructions) z ∙ f

functions_stand : (rules : Rules) (t : Text) (input : List ℕ) → Stands (program_of rules t input) 2 (functions_code t.names t.functions)
functions_stand rules t input = stands_by (program_of rules t input) 2 (functions_code t.names t.functions) (λ j. let e : 2 + j ≡ suc (suc j) = omega arith in ap (slice_get (program_of rules t input).instructions) e)

-- ---- calls

abbrev pub bounded : Rules → Text → List ℕ → ℕ → Bounded
bounded rules t input n = record { program = program_of rules t input; depth = n }

some_leads : (rules : Rules) (t : Text) (input : List ℕ) (n at : ℕ) (calls : Calls) (c : Control) (rest vs : List Value) (f : Definition) → CallsLead (bounded rules t input n) calls → Stands (program_of rules t input) at (function_code t.names f) →
    Leads (bounded rules t input n) (called c rest (Some (entry_of rules f at)) vs) (charged_run rules t input calls n f.name (Some f) vs) (λ v. give (moved c (suc c.at) (v ∷ rest)))
unfolding called charged_run charged
some_leads rules t input n at calls c rest vs f k s =
    let p = bounded rules t input n in
    record {
      leads = λ st lt. charged_ends p (nat_le (st.charge + rules.charge f.name) most_charge) (rules.charge f.name) _ _ st (λ v. moved c (suc c.at) (v ∷ rest)) lt (body_leads p rules t.names f at calls c rest vs st.charge k s);
      keeps = λ st lt. charged_keeps n (nat_le (st.charge + rules.charge f.name) most_charge) (rules.charge f.name) _ st lt (body_leads p rules t.names f at calls c rest vs st.charge k s).keeps;
    }

none_leads : (rules : Rules) (t : Text) (input : List ℕ) (n : ℕ) (calls : Calls) (c : Control) (rest : List Value) (name : List ℕ) (vs : List Value) →
    Leads (bounded rules t input n) (called c rest None vs) (charged_run rules t input calls n name None vs) (λ v. give (moved c (suc c.at) (v ∷ rest)))
unfolding called charged_run undefined ◌>>=◌ after
none_leads rules t input n calls c rest name vs =
    leads_from (bounded rules t input n) (undefined OutsideObject >>= λ v. give (moved c (suc c.at) (v ∷ rest))) (called c rest None vs) (λ st. refl)
    (leads_self (bounded rules t input n) (undefined OutsideObject) (λ v. give (moved c (suc c.at) (v ∷ rest))) (undefined_keeps Value OutsideObject refl))

found_leads : (rules : Rules) (t : Text) (input : List ℕ) (n : ℕ) (calls : Calls) (c : Control) (rest : List Value) (name : List ℕ) (vs : List Value) (e : Option Entry) (f : Option Definition) → CallsLead (bounded rules t input n) calls →
    Found (program_of rules t input) rules t.names name e f → Leads (bounded rules t input n) (called c rest e vs) (charged_run rules t input calls n name f vs) (λ v. give (moved c (suc c.at) (v ∷ rest)))
found_leads rules t input n calls c rest name vs None None k x = none_leads rules t input n calls c rest name vs
found_leads rules t input n calls c rest name vs (Some e) (Some f) k x =
    subst (λ e. Leads (bounded rules t input n) (called c rest (Some e) vs) (charged_run rules t input calls n name (Some f) vs) (λ v. give (moved c (suc c.at) (v ∷ rest)))) (sym x.1)
    (subst (λ name. Leads (bounded rules t input n) (called c rest (Some (entry_of rules f x.0)) vs) (charged_run rules t input calls n name (Some f) vs) (λ v. give (moved c (suc c.at) (v ∷ rest)))) (sym x.2) (some_leads rules t input n x.0 calls c rest vs f k x.3))
found_leads rules t input n calls c rest name vs None (Some f) k x = absurd x
found_leads rules t input n calls c rest name vs (Some e) None k x = absurd x

-- a call of a name, its charge being tested
pub charged_leads : (rules : Rules) (t : Text) (input : List ℕ) (n : ℕ) (calls : Calls) (c : Control) (rest : List Value) (name : List ℕ) (vs : List Value) → CallsLead (bounded rules t input n) calls →
    Leads (bounded rules t input n) (called c rest (meaning (program_of rules t input).entries name) vs) (charged_run rules t input calls n name (function_named t name) vs) (λ v. give (moved c (suc c.at) (v ∷ rest)))
charged_leads rules t input n calls c rest name vs k =
    found_leads rules t input n calls c rest name vs _ _ k (found_in (program_of rules t input) rules t.names name t.functions 2 (functions_stand rules t input))

own_call : (h : Option (List Value → Run Value)) (vs : List Value) (m : Run Value) (st : State) → h ≡ None → paid false m st ≡ call_by h vs m st
unfolding call_by
own_call h vs m st e = ap (λ h. call_by h vs m st) (sym e)

pub calls_lead : (rules : Rules) (t : Text) (input : List ℕ) → ((name : List ℕ) → rules.helps name ≡ None) → (n : ℕ) → CallsLead (bounded rules t input n) (calls_to n rules t input)
unfolding calls_to
calls_lead rules t input own zero = record { leads = λ c rest name vs. stopped (bounded rules t input zero) _ (λ v. give (moved c (suc c.at) (v ∷ rest))) }
calls_lead rules t input own (suc n) = record {
  leads = λ c rest name vs.
      leads_as (bounded rules t input (suc n)) _ _ (λ st. own_call (rules.helps name) vs _ st (own name))
      (leads_paid (bounded rules t input n) (charged_leads rules t input n (calls_to n rules t input) c rest name vs (calls_lead rules t input own n)));
}
