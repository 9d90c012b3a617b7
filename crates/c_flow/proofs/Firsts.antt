-- The code of first values, of tests and of effects.
use Rattle.std.proofs.Common.{◌≡◌, ℕ, suc, ◌+◌, List, [], ◌∷◌, ◌++◌, length, Option, Some, None, Bool, true, false, refl, ap, ◌∙◌}
use Rattle.std.specs.Prelude.{slice_get, if◌then◌else◌}
use Rattle.c_syntax.specs.Plain as plain
use Rattle.c_syntax.specs.Plain.{CExpr, CValue, CValues, CDecl}
use Rattle.c_types.specs.Types.{CType, words_of}
use Rattle.c_types.specs.Declarations.{Slots, first_slot, next_slots, slots_of, takes_string}
use Rattle.c_eval.specs.State.{Value, Word, Point, State, Gives, Run}
use Rattle.c_eval.specs.Run.{after, ◌>>=◌, give}
use Rattle.c_eval.specs.Memory.{Kind, Number, zero_of, at_offset, offset_of}
use Rattle.c_eval.specs.Operators.{used, is_true, assigned}
use Rattle.c_eval.specs.Environment.{Environment, object_type_in, slot_kinds, type_or_nothing, past_value, declaring}
use Rattle.c_eval.specs.Eval.{array_text, used_value, condition, clear, spell, initialise, initialise_all, first_value, maybe_condition, maybe_effect, value_of}
use Rattle.c_eval.proofs.Parts.{store_follows, assigned_follows}
use Rattle.c_code.specs.Code as code
use Rattle.c_code.specs.Code.{Instruction, Site, value_code, first_code, firsts_code, local_code, maybe_test_code, maybe_effect_code}
use Rattle.c_code.specs.Machine.{Control, slot_in, pointer_in, slot_pointer, with_top, step_of}
use Rattle.c_flow.proofs.Leading.{Bounded, Keeps, moved, kept, keeps_then, give_keeps, leads_then, leads_self, leads_give, leads_to, leads_first}
use Rattle.c_flow.proofs.Standing.{stands_first, stands_rest, end_place, one_on, none_on, behind_one}
use Rattle.c_flow.proofs.Landing.{Lands, push_lands, then_top, use_does}
use Rattle.c_flow.proofs.Forms.{Calls, outer, seen, CallsLead}
use Rattle.c_flow.proofs.Values.{value_lands}
use Rattle.c_flow.proofs.Flowing.{Effects, Tests, drop_effects}
use Rattle.c_flow.proofs.Names.{Ready, declared_slot, declaring_ready}

-- ---- effects

pub none_effects : (p : Bounded) (slots : List (Option ℕ)) → Effects p slots [] (give tt)
unfolding give
none_effects p slots c to e sl s = leads_give p (give c) (λ _. give (moved c to c.stack)) tt (λ st. ap (λ k. Gives (moved c k c.stack) st) (none_on c.at to e))

effects_then : (p : Bounded) (slots : List (Option ℕ)) (is js : List Instruction) (m m' : Run (Unit {0})) → Effects p slots is m → Effects p slots js m' → Effects p slots (is ++ js) (m >>= λ _. m')
effects_then p slots is js m m' t u c to e sl s =
    let mid : ℕ = c.at + length is in
    leads_then p (λ _. give (moved c mid c.stack)) (t c mid refl sl (stands_first p.program c.at is js s)) (λ _. u (moved c mid c.stack) to (end_place c.at to is js e) sl (stands_rest p.program c.at mid is js refl s))

effects_if : (p : Bounded) (slots : List (Option ℕ)) (b : Bool) (is js : List Instruction) (m m' : Run (Unit {0})) → Effects p slots is m → Effects p slots js m' → Effects p slots (if b then is else js) (if b then m else m')
effects_if p slots true is js m m' t u = t
effects_if p slots false is js m m' t u = u

-- ---- cells of an object in a slot

slot_found : (c : Control) (slots : List (Option ℕ)) (slot o k : ℕ) → c.slots ≡ slots → slice_get slots slot ≡ Some (Some o) → (st : State) → slot_pointer c slot k st ≡ Gives (Point o k) st
unfolding slot_pointer pointer_in give
slot_found c slots slot o k sl e st = ap (λ xs. pointer_in (slot_in (slice_get xs slot)) k st) sl ∙ ap (λ x. pointer_in (slot_in x) k st) e

clear_keeps : {depth : ℕ} (kinds : List Kind) (v : Value) → Keeps depth (clear kinds v)
unfolding clear
clear_keeps [] v = give_keeps tt
clear_keeps (kind ∷ kinds) v = keeps_then _ _ (kept (store_follows kind v (zero_of kind))) (λ _. clear_keeps kinds (at_offset v (suc (offset_of v))))

spell_keeps : {depth : ℕ} (words : List ℕ) (v : Value) → Keeps depth (spell words v)
unfolding spell
spell_keeps [] v = give_keeps tt
spell_keeps (x ∷ words) v = keeps_then _ _ (kept (store_follows Number v (Word x))) (λ _. spell_keeps words (at_offset v (suc (offset_of v))))

-- an instruction on such an object
object_effects : (p : Bounded) (slots : List (Option ℕ)) (i : Instruction) (m : Run (Unit {0})) → Keeps p.depth m → ((c : Control) (st : State) → c.slots ≡ slots → step_of p.program i c st ≡ (m >>= λ _. give (moved c (suc c.at) c.stack)) st) → Effects p slots (i ∷ []) m
object_effects p slots i m t f c to e sl s =
    leads_to p (λ _. give (moved c (suc c.at) c.stack)) (λ _. give (moved c to c.stack)) (λ _ st. ap (λ k. give (moved c k c.stack) st) (one_on c.at to e))
    (leads_first p c (m >>= λ _. give (moved c (suc c.at) c.stack)) i s.0 (λ st. f c st sl) (leads_self p m (λ _. give (moved c (suc c.at) c.stack)) t))

clear_effects : (p : Bounded) (slots : List (Option ℕ)) (slot o k : ℕ) (kinds : List Kind) → slice_get slots slot ≡ Some (Some o) → Effects p slots (code.Clear slot k kinds ∷ []) (clear kinds (Point o k))
unfolding step_of ◌>>=◌ after
clear_effects p slots slot o k kinds e =
    object_effects p slots (code.Clear slot k kinds) (clear kinds (Point o k)) (clear_keeps kinds (Point o k)) (λ c st sl. ap (λ r. after r (λ place st1. after (clear kinds place st1) (λ _. give (moved c (suc c.at) c.stack)))) (slot_found c slots slot o k sl e st))

spell_effects : (p : Bounded) (slots : List (Option ℕ)) (slot o k : ℕ) (words : List ℕ) → slice_get slots slot ≡ Some (Some o) → Effects p slots (code.Spell slot k words ∷ []) (spell words (Point o k))
unfolding step_of ◌>>=◌ after
spell_effects p slots slot o k words e =
    object_effects p slots (code.Spell slot k words) (spell words (Point o k)) (spell_keeps words (Point o k)) (λ c st sl. ap (λ r. after r (λ place st1. after (spell words place st1) (λ _. give (moved c (suc c.at) c.stack)))) (slot_found c slots slot o k sl e st))

first_effects : (p : Bounded) (slots : List (Option ℕ)) (is : List Instruction) (m : Run Value) (slot o k : ℕ) (ty : CType) → slice_get slots slot ≡ Some (Some o) → Lands p slots is m →
    Effects p slots (is ++ code.First slot k ty ∷ []) (m >>= λ v. assigned ty (Point o k) v >>= λ _. give tt)
unfolding step_of with_top ◌>>=◌ after
first_effects p slots is m slot o k ty f t c to e sl s =
    let mid : ℕ = c.at + length is in
    leads_then p (λ v. give (moved c mid (v ∷ c.stack))) (t c mid refl sl (stands_first p.program c.at is (code.First slot k ty ∷ []) s))
    (λ v. leads_first p (moved c mid (v ∷ c.stack)) (assigned ty (Point o k) v >>= λ _. give (moved c (suc mid) c.stack)) (code.First slot k ty) (stands_rest p.program c.at mid is (code.First slot k ty ∷ []) refl s).0
    (λ st. ap (λ r. after r (λ place st1. after (assigned ty place v st1) (λ _. give (moved c (suc mid) c.stack)))) (slot_found (moved c mid (v ∷ c.stack)) slots slot o k sl f st))
    (leads_then p (λ _. give (moved c (suc mid) c.stack)) (leads_self p (assigned ty (Point o k) v) (λ _. give (moved c (suc mid) c.stack)) (kept (assigned_follows ty (Point o k) v)))
    (λ _. leads_give p (give (moved c (suc mid) c.stack)) (λ _. give (moved c to c.stack)) tt (λ st. ap (λ k. give (moved c k c.stack) st) (behind_one c.at to is (code.First slot k ty) e)))))

-- ---- first values

past_value_ready : (v : CValue) (slots : List (Option ℕ)) (site : Site) (free count : ℕ) (there : Environment) (os : List (List ℕ × Option ℕ)) (n : ℕ) → Ready slots site free count there os n → Ready slots site free count (past_value v there) os n
past_value_ready v slots site free count there os n r = record { alike = record { finds = r.alike.finds }; pending = r.pending; size = r.size }

mutual
  unfolding used_value

  pub value_effects : (v : CValue) (ty : CType) (slot o k : ℕ) (p : Bounded) (slots : List (Option ℕ)) (site : Site) (calls : Calls) (free count : ℕ) (there : Environment) (os : List (List ℕ × Option ℕ)) (n : ℕ) → CallsLead p calls → Ready slots site free count there os n →
      slice_get slots slot ≡ Some (Some o) → Effects p slots (first_code v ty slot k site there) (initialise v ty (Point o k) (outer p site calls) (seen there os n))
  value_effects (plain.One e) ty slot o k p slots site calls free count there os n t r f =
      effects_if p slots (takes_string ty e) _ _ _ _ (spell_effects p slots slot o k (array_text ty e) f)
      (first_effects p slots (value_code e site there ++ code.Use ∷ []) (value_of e (outer p site calls) (seen there os n) >>= used) slot o k ty f
      (then_top p slots (value_code e site there) code.Use _ used (use_does p) (value_lands e p slots site calls there os n t r.alike)))
  value_effects (plain.Many vs) ty slot o k p slots site calls free count there os n t r f = values_effects vs (slots_of there.scope.tags (Some ty)) slot o k p slots site calls free count there os n t r f

  values_effects : (vs : CValues) (cells : Slots) (slot o k : ℕ) (p : Bounded) (slots : List (Option ℕ)) (site : Site) (calls : Calls) (free count : ℕ) (there : Environment) (os : List (List ℕ × Option ℕ)) (n : ℕ) → CallsLead p calls → Ready slots site free count there os n →
      slice_get slots slot ≡ Some (Some o) → Effects p slots (firsts_code vs cells slot k site there) (initialise_all vs cells (Point o k) (outer p site calls) (seen there os n))
  values_effects plain.NoValue cells slot o k p slots site calls free count there os n t r f = clear_effects p slots slot o k (slot_kinds there.scope.tags cells) f
  values_effects (plain.MoreValue v vs) cells slot o k p slots site calls free count there os n t r f =
      effects_then p slots (first_code v (type_or_nothing (first_slot cells)) slot k site there) _ _ _ (value_effects v (type_or_nothing (first_slot cells)) slot o k p slots site calls free count there os n t r f)
      (values_effects vs (next_slots cells) slot o (k + words_of there.scope.tags (type_or_nothing (first_slot cells))) p slots site calls free count (past_value v there) os n t (past_value_ready v slots site free count there os n r) f)

pub local_effects : (d : CDecl) (first : Option CValue) (p : Bounded) (slots : List (Option ℕ)) (site : Site) (calls : Calls) (free k : ℕ) (there : Environment) (os : List (List ℕ × Option ℕ)) (n : ℕ) → CallsLead p calls → Ready slots site free (suc k) there os n →
    Effects p slots (local_code d site there first) (first_value d (outer p site calls) (seen there os n) first)
unfolding first_value
local_effects d None p slots site calls free k there os n t r = none_effects p slots
local_effects d (Some v) p slots site calls free k there os n t r =
    value_effects v (object_type_in there.scope d) there.next n 0 p slots site calls free k (declaring d there) ((d.name, Some n) ∷ os) (suc n) t (declaring_ready slots site free k there os n d r) (declared_slot slots site free k there os n r)

-- ---- tests and effects

pub used_tests : (e : CExpr) (p : Bounded) (slots : List (Option ℕ)) (site : Site) (calls : Calls) (free count : ℕ) (there : Environment) (os : List (List ℕ × Option ℕ)) (n : ℕ) → CallsLead p calls → Ready slots site free count there os n →
    Tests p slots (value_code e site there ++ code.Use ∷ []) (condition e (outer p site calls) (seen there os n))
unfolding condition
used_tests e p slots site calls free count there os n t r = record {
  value = value_of e (outer p site calls) (seen there os n) >>= used;
  lands = then_top p slots (value_code e site there) code.Use _ used (use_does p) (value_lands e p slots site calls there os n t r.alike);
  truth = λ st. refl;
}

true_truth : (st : State) → (give (Word 1) >>= λ x. give (is_true x)) st ≡ give true st
unfolding ◌>>=◌ give after
true_truth st = refl

pub maybe_tests : (e : Option CExpr) (p : Bounded) (slots : List (Option ℕ)) (site : Site) (calls : Calls) (free count : ℕ) (there : Environment) (os : List (List ℕ × Option ℕ)) (n : ℕ) → CallsLead p calls → Ready slots site free count there os n →
    Tests p slots (maybe_test_code e site there) (maybe_condition e (outer p site calls) (seen there os n))
unfolding maybe_condition
maybe_tests None p slots site calls free count there os n t r = record { value = give (Word 1); lands = push_lands p slots (Word 1); truth = true_truth }
maybe_tests (Some e) p slots site calls free count there os n t r = used_tests e p slots site calls free count there os n t r

pub maybe_effects : (e : Option CExpr) (p : Bounded) (slots : List (Option ℕ)) (site : Site) (calls : Calls) (free count : ℕ) (there : Environment) (os : List (List ℕ × Option ℕ)) (n : ℕ) → CallsLead p calls → Ready slots site free count there os n →
    Effects p slots (maybe_effect_code e site there) (maybe_effect e (outer p site calls) (seen there os n))
unfolding maybe_effect
maybe_effects None p slots site calls free count there os n t r = none_effects p slots
maybe_effects (Some e) p slots site calls free count there os n t r = drop_effects p slots (value_code e site there) _ (value_lands e p slots site calls there os n t r.alike)
