-- Steps of a machine as steps of the rule.
use Rattle.std.proofs.Common.{zero, suc, ◌≡◌, ℕ, ◌+◌, ◌<◌, cond, List, [], ◌∷◌, length, drop, get_or, Some, None, refl, sym, ap, ◌∙◌, arith, subst}
use Rattle.std.specs.Prelude.{slice_get}
use Rattle.std.proofs.lemmas.List.{length-reverse, length-map}
use Rattle.mach_core.specs.declared.machine.Moved.{Moved}
use Rattle.mach_core.specs.Moved.{MovesBy}
use Rattle.wasm_bin.specs.declared.module.Instr.{Instr}
use Rattle.wasm_bin.specs.declared.module.Module.{Module}
use Rattle.wasm_rule.specs.declared.act.Act.{Act}
use Rattle.wasm_rule.specs.declared.act.Act.TheVariants as act
use Rattle.wasm_run.specs.declared.state.State.{State}
use Rattle.wasm_rule.specs.Code.{own_code}
use Rattle.wasm_rule.specs.Config.{Call, Config}
use Rattle.wasm_rule.specs.Step.{View, act_of}
use Rattle.wasm_rule.specs.Rule.{after, act_in, takes_byte, wasm_rule}
use Rattle.wasm_parts.specs.Frames.{call_of}
use Rattle.wasm_run.specs.States.{callers_of, config_of, Does}
use Rattle.wasm_run.specs.Machine.{next_act_of}

-- the code from a place on
from_place : {A : Type 0} (code : List A) (place : ℕ) (x : A) → slice_get code place ≡ Some x → drop place code ≡ x ∷ drop (place + 1) code
from_place [] place x e = absurd cc
from_place (y ∷ code) zero x e = let same : y ≡ x = cc in ap (λ z. z ∷ code) same
from_place (y ∷ code) (suc place) x e =
    let next : suc place + 1 ≡ suc (place + 1) = omega arith in
    from_place code place x e ∙ ap (λ n. x ∷ drop n (y ∷ code)) (sym next)

no_code : {A : Type 0} (code : List A) (place : ℕ) → slice_get code place ≡ None → drop place code ≡ []
no_code [] zero e = refl
no_code [] (suc place) e = refl
no_code (x ∷ code) zero e = absurd cc
no_code (x ∷ code) (suc place) e = no_code code place e

pub within_code : {A : Type 0} (code : List A) (place : ℕ) (x : A) → slice_get code place ≡ Some x → place < length code
within_code [] place x e = absurd cc
within_code (y ∷ code) zero x e = omega arith
within_code (y ∷ code) (suc place) x e = let h = within_code code place x e in omega arith

call_count : (m : Module) (s : State) (n : ℕ) → n ≡ length s.callers.items → length (config_of m s).calls ≡ n + 1
call_count m s n e = let h : length (callers_of m s.callers.items) ≡ length s.callers.items = simp length-map (length-reverse s.callers.items) in omega arith

-- what an instruction may read of a state, where there are so many calls
abbrev pub view_with : State → ℕ → View
view_with s calls = record { calls = calls; locals = s.frame.locals.items; globals = s.globals.items; memory = s.memory; values = s.frame.values }

-- the act of the instruction at the place
pub act_here : (m : Module) (s : State) (n : ℕ) (instr : Instr) → n ≡ length s.callers.items → slice_get (own_code m s.frame.body) s.frame.place ≡ Some instr
    → act_of m (view_with s (n + 1)) instr ≡ next_act_of m s
act_here m s n instr e h =
    sym (ap (act_in m (config_of m s) (call_of m s.frame)) (from_place (own_code m s.frame.body) s.frame.place instr h)
    ∙ ap (λ k. act_of m (view_with s k) instr) (call_count m s n e))

pub act_gone : (m : Module) (s : State) → slice_get (own_code m s.frame.body) s.frame.place ≡ None → next_act_of m s ≡ act.Leave
act_gone m s h = ap (act_in m (config_of m s) (call_of m s.frame)) (no_code (own_code m s.frame.body) s.frame.place h)

-- the byte matters only to an act that takes it
unfed : (m : Module) (c : Config) (call : Call) (callers : List Call) (a : Act) (fed : ℕ) → after m c call callers a (cond (takes_byte a) fed 0) ≡ after m c call callers a fed
unfed m c call callers act.Read fed = refl
unfed m c call callers _ fed = refl

pub moves : (m : Module) (old new : State) (a : Act) (fed : ℕ) (moved : Moved) → a ≡ next_act_of m old → Does m old a fed new moved → MovesBy (wasm_rule m) (config_of m old) fed (config_of m new) moved
moves m old new a fed moved e d =
    let P : Act → Type 0 = λ b. Does m old b fed new moved in
    let done : Does m old (next_act_of m old) fed new moved = subst P e d in
    record {
      config = done.config ∙ sym (unfed m (config_of m old) (call_of m old.frame) (callers_of m old.callers.items) (next_act_of m old) fed);
      bytes = done.bytes;
      took = done.took;
    }
