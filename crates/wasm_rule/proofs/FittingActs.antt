-- What plain acts make of a sound configuration.
use Rattle.std.proofs.Common.{◌≡◌, ℕ, ◌+◌, Bool, true, false, List, [], ◌∷◌, length, drop, Option, Some, None, refl, sym, subst, ◌∙◌, arith}
use Rattle.std.specs.Prelude.{cond, nat_eq, nat_le, slice_get, slice_set}
use Rattle.std.specs.Option.{option_map, option_and_then}
use Rattle.std.proofs.lemmas.List.{length-drop, length-set}
use Rattle.mach_core.specs.declared.machine.Status.TheVariants.{Going, Fault}
use Rattle.wasm_bin.specs.declared.module.GlobalVar.{GlobalVar}
use Rattle.wasm_bin.specs.declared.module.Instr.{Instr}
use Rattle.wasm_bin.specs.declared.module.Instr.TheVariants as instr
use Rattle.wasm_bin.specs.declared.module.Module.{Module}
use Rattle.wasm_valid.specs.Context.{Context, context_of}
use Rattle.wasm_valid.specs.Effects.{effect_of, numeric_effect, MayApply}
use Rattle.wasm_valid.specs.Typing.{arity}
use Rattle.wasm_rule.specs.declared.act.Act.{Act}
use Rattle.wasm_rule.specs.declared.act.Act.TheVariants as act
use Rattle.wasm_rule.specs.Memory.{is_within, with_bytes, bytes_of}
use Rattle.wasm_rule.specs.Number.{number_act, is_overflow}
use Rattle.wasm_rule.specs.Code.{most_pages}
use Rattle.wasm_rule.specs.Config.{Call, Config}
use Rattle.wasm_rule.specs.Step.{View, act_of}
use Rattle.wasm_rule.specs.Values.{top, second}
use Rattle.wasm_rule.specs.Rule.{onward, with_call, after}
use Rattle.wasm_rule.specs.Ready.{beneath_of}
use Rattle.wasm_rule.proofs.Fitting.{Fits, CallFits, Wait, AllFit, IsSound}

-- ---- what an act that goes on makes of a number of values

abbrev pub Turned : Act → ℕ → ℕ → Type 0
Turned (act.Take count) a b = a ≡ b + count
Turned (act.Put count value) a b = (kept : ℕ) × (a ≡ kept + count) × (b ≡ kept + 1)
Turned (act.SetLocal count k value) a b = a ≡ b + count
Turned (act.SetGlobal k value) a b = a ≡ b + 1
Turned (act.Store count address word) a b = a ≡ b + 2
Turned (act.Grow more) a b = (kept : ℕ) × (a ≡ kept + 1) × (b ≡ kept + 1)
Turned act.Read a b = b ≡ a + 1
Turned (act.Write byte) a b = a ≡ b + 1
Turned (act.Stop code) a b = Unit {0}
Turned _ a b = ⊥

turned_either : (t : Bool) (p q : Act) (a b : ℕ) → Turned p a b → Turned q a b → Turned (cond t p q) a b
turned_either true p q a b h k = h
turned_either false p q a b h k = k

number_turned : (i : Instr) (x y a b : ℕ) → MayApply (numeric_effect i) a b → Turned (number_act i x y) a b
unfolding numeric_effect
number_turned instr.Eqz x y a b h = h
number_turned instr.Clz x y a b h = h
number_turned instr.Ctz x y a b h = h
number_turned instr.Popcnt x y a b h = h
number_turned instr.Eq x y a b h = h
number_turned instr.Ne x y a b h = h
number_turned instr.LtS x y a b h = h
number_turned instr.LtU x y a b h = h
number_turned instr.GtS x y a b h = h
number_turned instr.GtU x y a b h = h
number_turned instr.LeS x y a b h = h
number_turned instr.LeU x y a b h = h
number_turned instr.GeS x y a b h = h
number_turned instr.GeU x y a b h = h
number_turned instr.Add x y a b h = h
number_turned instr.Sub x y a b h = h
number_turned instr.Mul x y a b h = h
number_turned instr.DivS x y a b h = turned_either (nat_eq y 0) (act.Stop 3) _ a b tt (turned_either (is_overflow x y) (act.Stop 4) _ a b tt h)
number_turned instr.DivU x y a b h = turned_either (nat_eq y 0) (act.Stop 3) _ a b tt h
number_turned instr.RemS x y a b h = turned_either (nat_eq y 0) (act.Stop 3) _ a b tt h
number_turned instr.RemU x y a b h = turned_either (nat_eq y 0) (act.Stop 3) _ a b tt h
number_turned instr.And x y a b h = h
number_turned instr.Or x y a b h = h
number_turned instr.Xor x y a b h = h
number_turned instr.Shl x y a b h = h
number_turned instr.ShrS x y a b h = h
number_turned instr.ShrU x y a b h = h
number_turned instr.Rotl x y a b h = h
number_turned instr.Rotr x y a b h = h
number_turned _ x y a b h = absurd h

-- what holds of none holds under a condition only where the condition does
pub provided_holds : {E : Type 0} (P : Option E → Type 0) (t : Bool) {e : E} → (P None → ⊥) → P (cond t (Some e) None) → P (Some e)
provided_holds P true never h = h
provided_holds P false never h = absurd (never h)

-- and of what is looked up only where it is there
pub found_holds : {E X : Type 0} (P : Option E → Type 0) (f : X → Option E) (o : Option X) → (P None → ⊥) → P (option_and_then f o) → (x : X) × (o ≡ Some x) × P (f x)
found_holds P f None never h = absurd (never h)
found_holds P f (Some x) never h = (x, refl, h)

pub mapped_holds : {E X : Type 0} (P : Option E → Type 0) (f : X → E) (o : Option X) → (P None → ⊥) → P (option_map f o) → (x : X) × (o ≡ Some x) × P (Some (f x))
mapped_holds P f None never h = absurd (never h)
mapped_holds P f (Some x) never h = (x, refl, h)

took : (a b count : ℕ) → ((kept : ℕ) × (a ≡ kept + count) × (b ≡ kept + 0)) → a ≡ b + count
took a b count (kept, e, f) = omega arith

took_back : (a b : ℕ) → ((kept : ℕ) × (a ≡ kept + 1) × (b ≡ kept + 1)) → a ≡ b + 0
took_back a b (kept, e, f) = omega arith

-- an instruction after which the next one follows, if no fault is met
abbrev pub GoesOn : Instr → Type 0
GoesOn (instr.Br depth) = ⊥
GoesOn (instr.BrIf depth) = ⊥
GoesOn (instr.BrTable depths last) = ⊥
GoesOn instr.Return = ⊥
GoesOn (instr.Call k) = ⊥
GoesOn _ = Unit {0}

pub act_turned : (m : Module) (v : View) (c : Context) (labels : List ℕ) (i : Instr) (a b : ℕ) → MayApply (effect_of c labels i) a b → GoesOn i → Turned (act_of m v i) a b
unfolding effect_of numeric_effect
act_turned m v c labels (instr.Block gives) a b h g = absurd h
act_turned m v c labels (instr.Loop gives) a b h g = absurd h
act_turned m v c labels (instr.If gives) a b h g = absurd h
act_turned m v c labels instr.Else a b h g = absurd h
act_turned m v c labels instr.End a b h g = absurd h
act_turned m v c labels (instr.Br depth) a b h g = absurd g
act_turned m v c labels (instr.BrIf depth) a b h g = absurd g
act_turned m v c labels (instr.BrTable depths last) a b h g = absurd g
act_turned m v c labels instr.Return a b h g = absurd g
act_turned m v c labels (instr.Call k) a b h g = absurd g
act_turned m v c labels instr.Unreachable a b h g = tt
act_turned m v c labels instr.Nop a b (kept, e, f) g = omega arith
act_turned m v c labels instr.Drop a b (kept, e, f) g = omega arith
act_turned m v c labels instr.Select a b h g = h
act_turned m v c labels (instr.LocalGet k) a b h g = provided_holds (λ o. MayApply o a b) _ (λ n. n) h
act_turned m v c labels (instr.LocalSet k) a b h g = took a b 1 (provided_holds (λ o. MayApply o a b) _ (λ n. n) h)
act_turned m v c labels (instr.LocalTee k) a b h g = took_back a b (provided_holds (λ o. MayApply o a b) _ (λ n. n) h)
act_turned m v c labels (instr.GlobalGet k) a b h g = provided_holds (λ o. MayApply o a b) _ (λ n. n) h
act_turned m v c labels (instr.GlobalSet k) a b h g =
    let found = found_holds {X = GlobalVar} (λ o. MayApply o a b) (λ g. effect_of (record c { globals = g ∷ [] }) labels (instr.GlobalSet 0)) (slice_get c.globals k) (λ n. n) h in
    took a b 1 (provided_holds (λ o. MayApply o a b) _ (λ n. n) found.2)
act_turned m v c labels (instr.Load arg) a b h g = turned_either (is_within v.memory (top v.values + arg.offset) 4) _ (act.Stop 2) a b (provided_holds (λ o. MayApply o a b) _ (λ n. n) h) tt
act_turned m v c labels (instr.Load8S arg) a b h g = turned_either (is_within v.memory (top v.values + arg.offset) 1) _ (act.Stop 2) a b (provided_holds (λ o. MayApply o a b) _ (λ n. n) h) tt
act_turned m v c labels (instr.Load8U arg) a b h g = turned_either (is_within v.memory (top v.values + arg.offset) 1) _ (act.Stop 2) a b (provided_holds (λ o. MayApply o a b) _ (λ n. n) h) tt
act_turned m v c labels (instr.Load16S arg) a b h g = turned_either (is_within v.memory (top v.values + arg.offset) 2) _ (act.Stop 2) a b (provided_holds (λ o. MayApply o a b) _ (λ n. n) h) tt
act_turned m v c labels (instr.Load16U arg) a b h g = turned_either (is_within v.memory (top v.values + arg.offset) 2) _ (act.Stop 2) a b (provided_holds (λ o. MayApply o a b) _ (λ n. n) h) tt
act_turned m v c labels (instr.Store arg) a b h g = took a b 2 (provided_holds (λ o. MayApply o a b) _ (λ n. n) h)
act_turned m v c labels (instr.Store8 arg) a b h g = took a b 2 (provided_holds (λ o. MayApply o a b) _ (λ n. n) h)
act_turned m v c labels (instr.Store16 arg) a b h g = took a b 2 (provided_holds (λ o. MayApply o a b) _ (λ n. n) h)
act_turned m v c labels instr.MemorySize a b h g = provided_holds (λ o. MayApply o a b) _ (λ n. n) h
act_turned m v c labels instr.MemoryGrow a b h g = provided_holds (λ o. MayApply o a b) _ (λ n. n) h
act_turned m v c labels (instr.Const value) a b h g = h
act_turned m v c labels i a b h g = number_turned i (second v.values) (top v.values) a b h

-- ---- what it makes of a configuration

-- if the run goes on, all is typed
abbrev pub Keeps : Module → Config → Type 0
Keeps m c = c.status ≡ Going → IsSound m c

-- all besides the last call is typed
pub record Around (m : Module) (c : Config) (gives : Bool) (callers : List Call) : Type 0 where
  pub wait : Wait m gives callers
  pub later : AllFit m c.later
  pub globals : length c.globals ≡ length m.globals

pub at_fault : (m : Module) (c : Config) (code : ℕ) → Keeps m (record c { status = Fault code })
at_fault m c code going = absurd cc

pub keeps_either : (m : Module) (t : Bool) (c d : Config) → Keeps m c → Keeps m d → Keeps m (cond t c d)
keeps_either m true c d h k = h
keeps_either m false c d h k = k

-- with a last call that is typed
pub with_fitting : (m : Module) (c : Config) (call : Call) (callers : List Call) (n : ℕ) → CallFits m call n → length call.values ≡ n → Around m c call.gives callers → IsSound m (with_call c call callers)
with_fitting m c call callers n f e s = record { call = call; callers = callers; last = refl; fits = subst (CallFits m call) (sym e) f; wait = s.wait; later = s.later; globals = s.globals }

-- the last call goes on over so many values
abbrev pub GoesOver : Module → Call → ℕ → Type 0
GoesOver m call b = CallFits m (onward call []) (beneath_of call.labels + b)

pub goes_on : (m : Module) (c : Config) (call : Call) (callers : List Call) (values : List ℕ) (b : ℕ) → GoesOver m call b → length values ≡ beneath_of call.labels + b → Around m c call.gives callers → IsSound m (with_call c (onward call values) callers)
goes_on m c call callers values b f e s = with_fitting m c (onward call values) callers (beneath_of call.labels + b) f e s

fewer : (values : List ℕ) (k n beneath b : ℕ) → length values ≡ beneath + n → n ≡ b + k → length (drop k values) ≡ beneath + b
fewer values k n beneath b e f = length-drop k values ∙ omega arith

-- an act that goes on
pub turned_keeps : (m : Module) (c : Config) (call : Call) (callers : List Call) (a : Act) (byte n b : ℕ) → length call.values ≡ beneath_of call.labels + n → Turned a n b → GoesOver m call b → Around m c call.gives callers → Keeps m (after m c call callers a byte)
turned_keeps m c call callers (act.Take count) byte n b e h f s = λ going. goes_on m c call callers (drop count call.values) b f (fewer call.values count n (beneath_of call.labels) b e h) s
turned_keeps m c call callers (act.Put count value) byte n b e (kept, h, k) f s =
    let size = fewer call.values count n (beneath_of call.labels) kept e h in
    λ going. goes_on m c call callers (value ∷ drop count call.values) b f (omega (arith, size)) s
turned_keeps m c call callers (act.SetLocal count k value) byte n b e h f s =
    λ going. with_fitting m c (record (onward call (drop count call.values)) { locals = slice_set call.locals k value }) callers (beneath_of call.labels + b)
    (subst (λ size. Fits (context_of m size (arity call.gives)) call.labels (drop 1 call.code) (beneath_of call.labels + b)) (sym (length-set call.locals k value)) f)
    (fewer call.values count n (beneath_of call.labels) b e h) s
turned_keeps m c call callers (act.SetGlobal k value) byte n b e h f s =
    λ going. goes_on m (record c { globals = slice_set c.globals k value }) call callers (drop 1 call.values) b f (fewer call.values 1 n (beneath_of call.labels) b e h)
    (record { wait = s.wait; later = s.later; globals = length-set c.globals k value ∙ s.globals })
turned_keeps m c call callers (act.Store count address word) byte n b e h f s =
    keeps_either m (is_within c.memory address count) _ _
    (λ going. goes_on m (record c { memory = record c.memory { bytes = with_bytes c.memory.bytes address (bytes_of count word) } }) call callers (drop 2 call.values) b f (fewer call.values 2 n (beneath_of call.labels) b e h) (record { wait = s.wait; later = s.later; globals = s.globals }))
    (at_fault m c 2)
turned_keeps m c call callers (act.Grow more) byte n b e (kept, h, k) f s =
    let size = fewer call.values 1 n (beneath_of call.labels) kept e h in
    keeps_either m (nat_le (c.memory.pages + more) (most_pages m)) _ _
    (λ going. goes_on m (record c { memory = record c.memory { pages = c.memory.pages + more } }) call callers (c.memory.pages ∷ drop 1 call.values) b f (omega (arith, size)) (record { wait = s.wait; later = s.later; globals = s.globals }))
    (λ going. goes_on m c call callers (_ ∷ drop 1 call.values) b f (omega (arith, size)) s)
turned_keeps m c call callers act.Read byte n b e h f s = λ going. goes_on m c call callers (byte ∷ call.values) b f (omega arith) s
turned_keeps m c call callers (act.Write written) byte n b e h f s = λ going. goes_on m c call callers (drop 1 call.values) b f (fewer call.values 1 n (beneath_of call.labels) b e h) s
turned_keeps m c call callers (act.Stop code) byte n b e h f s = at_fault m c code
turned_keeps m c call callers _ byte n b e h f s = absurd h
