-- What calls make of a sound configuration of a valid module that can be linked.
use Rattle.std.proofs.Common.{◌≡◌, ◌⊎◌, ℕ, zero, suc, ◌+◌, ◌-◌, ◌≤◌, ◌<◌, Bool, true, false, ◌&&◌, ◌||◌, List, [], ◌∷◌, ◌++◌, length, take, drop, reverse, replicate, Option, Some, None, refl, sym, ap, subst, ◌∙◌, inl, inr, ⊎_elim, arith}
use Rattle.std.specs.Prelude.{cond, nat_eq, nat_lt, nat_le, slice_get, slice_index, unwrap_or}
use Rattle.std.specs.Option.{option_and_then}
use Rattle.std.specs.Str.{bytes_eq}
use Rattle.std.proofs.lemmas.List.{length-append, length-drop, length-replicate, length-reverse, length-take-le}
use Rattle.std.proofs.lemmas.Option.{slice_get_within}
use Rattle.std.proofs.lemmas.Slice.Eq.{bytes_eq-Decides}
use Rattle.wasm_bin.specs.declared.module.Body.{Body}
use Rattle.wasm_bin.specs.declared.module.FuncType.{FuncType}
use Rattle.wasm_bin.specs.declared.module.Import.{Import}
use Rattle.wasm_bin.specs.declared.module.Instr.TheVariants as instr
use Rattle.wasm_bin.specs.declared.module.Module.{Module}
use Rattle.wasm_valid.specs.Context.{Context, context_of, type_indices, function_type}
use Rattle.wasm_valid.specs.Effects.{effect_of, MayApply}
use Rattle.wasm_valid.specs.Rules.{IsValid, own_type, IsTypedAs, IsTypedBody}
use Rattle.wasm_valid.specs.Typing.{arity}
use Rattle.wasm_valid.proofs.Levels.{true_le, true_eq, and_both}
use Rattle.wasm_rule.specs.declared.act.Act.TheVariants as act
use Rattle.wasm_rule.specs.Code.{plain_type, type_of, code_in, locals_in}
use Rattle.wasm_rule.specs.Config.{Call, Config}
use Rattle.wasm_rule.specs.Step.{getchar_name, putchar_name, host_act, call_act}
use Rattle.wasm_rule.specs.Rule.{new_call, onward, params_of, calling, after}
use Rattle.wasm_rule.specs.Start.{is_type, is_known, IsLinkable}
use Rattle.wasm_rule.specs.Ready.{beneath_of}
use Rattle.wasm_rule.proofs.Functions.{among, passed}
use Rattle.wasm_rule.proofs.Fitting.{Fits, CallFits}
use Rattle.wasm_rule.proofs.FittingActs.{Turned, Keeps, Around, GoesOver, turned_keeps, at_fault, mapped_holds}

-- ---- the type of a function

-- the effect of a call is that of the function's type
pub call_effect : (c : Context) (labels : List ℕ) (k a b : ℕ) → MayApply (effect_of c labels (instr.Call k)) a b → (t : FuncType) × (c.functions k ≡ Some t) × ((kept : ℕ) × (a ≡ kept + t.params) × (b ≡ kept + t.results))
unfolding effect_of
call_effect c labels k a b h = mapped_holds {X = FuncType} (λ o. MayApply o a b) _ (c.functions k) (λ n. n) h

-- what is found by way of an index
found : {X Y : Type 0} (f : X → Option Y) (o : Option X) (y : Y) → option_and_then f o ≡ Some y → (x : X) × (o ≡ Some x) × (f x ≡ Some y)
found f None y e = absurd cc
found f (Some x) y e = (x, refl, e)

-- ---- a call of an own function

-- a new call by the type and the body of its function
abbrev begun : FuncType → Option Body → List ℕ → Call
begun t body arguments = record {
  gives = nat_lt 0 t.results;
  locals = arguments ++ replicate (t.params + locals_in body - length arguments) 0;
  values = [];
  labels = [];
  code = code_in body;
}

few : (results : ℕ) → results ≤ 1 → results ≡ arity (nat_lt 0 results)
few zero le = refl
few (suc zero) le = refl
few (suc (suc n)) le = absurd (omega arith)

filled : (arguments : List ℕ) (size : ℕ) → length arguments ≤ size → size ≡ length (arguments ++ replicate (size - length arguments) 0)
filled arguments size le = sym (length-append arguments (replicate (size - length arguments) 0) ∙ (ap (λ n. length arguments + n) (length-replicate (size - length arguments) 0) ∙ omega arith))

begun_fits : (m : Module) (own : ℕ) (t : FuncType) (body : Option Body) (arguments : List ℕ) → IsTypedAs m own body → own_type m own ≡ Some t → t.results ≤ 1 → length arguments ≡ t.params → CallFits m (begun t body arguments) 0
begun_fits m own t None arguments h e le size = absurd h
begun_fits m own t (Some body) arguments h e le size =
    let (code, is, typed) = subst (λ o. IsTypedBody m o body) e h in
    let enough : length arguments ≤ t.params + body.locals = omega arith in
    let context : Context = context_of m (t.params + body.locals) t.results in
    let first : Fits context [] body.code 0 = record { typed_code = code; tail = instr.End ∷ []; more = 0; given = t.results; is = is; count = refl; typed = typed; follows = (refl, refl) } in
    let second : Fits (context_of m (t.params + body.locals) (arity (nat_lt 0 t.results))) [] body.code 0 = subst (λ n. Fits (context_of m (t.params + body.locals) n) [] body.code 0) (few t.results le) first in
    subst (λ n. Fits (context_of m n (arity (nat_lt 0 t.results))) [] body.code 0) (filled arguments (t.params + body.locals) enough) second

-- a call of an own function of some type begins typed
pub new_fits : (m : Module) → IsValid m → (own : ℕ) (t : FuncType) (arguments : List ℕ) → own_type m own ≡ Some t → length arguments ≡ t.params → CallFits m (new_call m own arguments) 0 × (t.results ≡ arity (new_call m own arguments).gives) × (t ≡ type_of m own)
new_fits m v own t arguments e size =
    let (kind, at, is) = found (slice_get m.types) (slice_get m.funcs own) t e in
    let le : t.results ≤ 1 = true_le t.results 1 (passed (λ (t : FuncType). nat_le t.results 1) m.types kind t (v.rules.results) is) in
    let within : own < length m.bodies = subst (λ n. own < n) (sym v.rules.bodies) (slice_get_within m.funcs own kind at) in
    let same : t ≡ type_of m own = sym (ap (λ o. unwrap_or o plain_type) e) in (
      subst (λ t. CallFits m (begun t (slice_get m.bodies own) arguments) 0) same (begun_fits m own t (slice_get m.bodies own) arguments (v.typed own within) e le size),
      few t.results le ∙ ap (λ (t : FuncType). arity (nat_lt 0 t.results)) same,
      same,
    )

calling_keeps : (m : Module) → IsValid m → (c : Config) (call : Call) (callers : List Call) (own : ℕ) (t : FuncType) (kept n b : ℕ) → own_type m own ≡ Some t → length call.values ≡ beneath_of call.labels + n → n ≡ kept + t.params → b ≡ kept + t.results
    → GoesOver m call b → Around m c call.gives callers → Keeps m (calling m c call callers own)
calling_keeps m v c call callers own t kept n b e size f g over s =
    let arguments : List ℕ = reverse (take (params_of m own) call.values) in
    let is : t ≡ type_of m own = sym (ap (λ o. unwrap_or o plain_type) e) in
    let params : t.params ≡ params_of m own = ap (λ (t : FuncType). t.params) is in
    let le : params_of m own ≤ length call.values = omega (arith, params, size, f) in
    let many : length arguments ≡ t.params = length-reverse (take (params_of m own) call.values) ∙ (length-take-le (params_of m own) call.values le ∙ sym params) in
    let new = new_fits m v own t arguments e many in
    let left : beneath_of call.labels + b ≡ length (drop (params_of m own) call.values) + arity (new_call m own arguments).gives = omega (arith, length-drop (params_of m own) call.values, new.1, params, size, f, g) in
    λ going. record {
      call = new_call m own arguments;
      callers = onward call (drop (params_of m own) call.values) ∷ callers;
      last = refl;
      fits = new.0;
      wait = (subst (CallFits m (onward call (drop (params_of m own) call.values))) left over, s.wait);
      later = s.later;
      globals = s.globals;
    }

-- ---- a call of the host

one_of : (a b : Bool) → (a || b) ≡ true → (a ≡ true) ⊎ (b ≡ true)
one_of true b e = inl refl
one_of false b e = inr e

distinct_names : (name : List ℕ) → bytes_eq name getchar_name ≡ true → bytes_eq name putchar_name ≡ true → ⊥
distinct_names name e f =
    let same : getchar_name ≡ putchar_name = sym ((bytes_eq-Decides name getchar_name).0 e) ∙ (bytes_eq-Decides name putchar_name).0 f in
    let first : 103 ≡ 112 = ap (λ l. slice_index l 0) same in
    omega (arith, first)

host_turned : (g p : Bool) (params results kept byte : ℕ) (a b : ℕ) → ((g && (nat_eq params 0 && nat_eq results 1)) || (p && (nat_eq params 1 && nat_eq results 0))) ≡ true → (g ≡ true → p ≡ true → ⊥) → a ≡ kept + params → b ≡ kept + results
    → Turned (cond g act.Read (act.Write byte)) a b
host_turned true true params results kept byte a b h apart e f = absurd (apart refl refl)
host_turned true false params results kept byte a b h apart e f = ⊎_elim (λ t. known (and_both (nat_eq params 0) (nat_eq results 1) t)) (λ t. absurd cc) (one_of (nat_eq params 0 && nat_eq results 1) false h)
  where
    known : (nat_eq params 0 ≡ true) × (nat_eq results 1 ≡ true) → b ≡ a + 1
    known (x, y) = omega (arith, true_eq params 0 x, true_eq results 1 y)
host_turned false true params results kept byte a b h apart e f = known (and_both (nat_eq params 1) (nat_eq results 0) h)
  where
    known : (nat_eq params 1 ≡ true) × (nat_eq results 0 ≡ true) → a ≡ b + 1
    known (x, y) = omega (arith, true_eq params 1 x, true_eq results 0 y)
host_turned false false params results kept byte a b h apart e f = absurd cc

-- ---- a call

by_kind : (m : Module) → IsValid m → IsLinkable m → (c : Config) (call : Call) (callers : List Call) (k calls y byte n b : ℕ) (t : FuncType) (kept : ℕ) → function_type m k ≡ Some t → n ≡ kept + t.params → b ≡ kept + t.results
    → length call.values ≡ beneath_of call.labels + n → GoesOver m call b → Around m c call.gives callers
    → ((x : Import) × (slice_get m.imports k ≡ Some x) × (slice_get (type_indices m) k ≡ Some x.kind)) ⊎ ((slice_get m.imports k ≡ None) × (slice_get (type_indices m) k ≡ slice_get m.funcs (k - length m.imports)))
    → Keeps m (after m c call callers (call_act (slice_get m.imports k) (k - length m.imports) calls y) byte)
by_kind m v linked c call callers k calls y byte n b t kept e f g size over s (inl (import, at, is)) =
    let type_is : slice_get m.types import.kind ≡ Some t = sym (ap (option_and_then (slice_get m.types)) is) ∙ e in
    let known = (and_both (bytes_eq import.module _) _ (passed (is_known m) m.imports k import linked.imports at)).1 in
    let known' = subst (λ o. ((bytes_eq import.name getchar_name && is_type 0 1 o) || (bytes_eq import.name putchar_name && is_type 1 0 o)) ≡ true) type_is known in
    subst (λ o. Keeps m (after m c call callers (call_act o (k - length m.imports) calls y) byte)) (sym at)
    (turned_keeps m c call callers (host_act import y) byte n b size (host_turned (bytes_eq import.name getchar_name) (bytes_eq import.name putchar_name) t.params t.results kept _ n b known' (distinct_names import.name) f g) over s)
by_kind m v linked c call callers k calls y byte n b t kept e f g size over s (inr (at, is)) =
    let type_is : own_type m (k - length m.imports) ≡ Some t = sym (ap (option_and_then (slice_get m.types)) is) ∙ e in
    subst (λ o. Keeps m (after m c call callers (call_act o (k - length m.imports) calls y) byte)) (sym at)
    (elim (nat_lt calls 4096) as (λ test. Keeps m (after m c call callers (cond test (act.Call (k - length m.imports)) (act.Stop 5)) byte)) [
      | true ↦ calling_keeps m v c call callers (k - length m.imports) t kept n b type_is size f g over s
      | false ↦ at_fault m c 5
    ])

pub call_keeps : (m : Module) → IsValid m → IsLinkable m → (c : Config) (call : Call) (callers : List Call) (context : Context) (labels : List ℕ) (k calls y byte n b : ℕ) → context.functions ≡ function_type m → MayApply (effect_of context labels (instr.Call k)) n b
    → length call.values ≡ beneath_of call.labels + n → GoesOver m call b → Around m c call.gives callers
    → Keeps m (after m c call callers (call_act (slice_get m.imports k) (k - length m.imports) calls y) byte)
call_keeps m v linked c call callers context labels k calls y byte n b same h size over s =
    let (t, is, (kept, f, g)) = call_effect context labels k n b h in
    by_kind m v linked c call callers k calls y byte n b t kept (sym (ap (λ functions. functions k) same) ∙ is) f g size over s (among (λ (i : Import). i.kind) m.imports m.funcs k)
