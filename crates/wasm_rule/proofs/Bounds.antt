-- A run never has more than 4096 calls, nor more than 1024 pages.
use Rattle.std.proofs.Common.{zero, suc, ◌≡◌, ℕ, ◌+◌, ◌-◌, ◌/◌, ◌%◌, ◌<◌, ◌≤◌, ◌^◌, Bool, true, false, cond, nat_lt, nat_le, nat_eq, List, [], ◌∷◌, ◌++◌, length, drop, slice_get, Option, Some, None, refl, ap, subst, ◌∙◌, arith}
use Rattle.std.specs.Prelude.{int_div, int_rem}
use Rattle.std.specs.Str.{bytes_eq}
use Rattle.std.proofs.lemmas.Bool.Decides.{nat_tests}
use Rattle.std.proofs.Math.Nat.{le_trans}
use Rattle.mach_core.specs.declared.machine.Status.{Status}
use Rattle.mach_core.specs.declared.machine.Status.TheVariants.{Going, Ended, Fault}
use Rattle.mach_core.specs.Rule.{Moment, fed_at, if_going, stepped as moved, applied, run}
use Rattle.wasm_bin.specs.declared.module.Instr.{Instr}
use Rattle.wasm_bin.specs.declared.module.Instr.TheVariants as instr
use Rattle.wasm_bin.specs.declared.module.Import.{Import}
use Rattle.wasm_bin.specs.declared.module.Limits.{Limits}
use Rattle.wasm_bin.specs.declared.module.Module.{Module}
use Rattle.wasm_rule.specs.declared.act.Act.{Act}
use Rattle.wasm_rule.specs.declared.act.Act.TheVariants as act
use Rattle.wasm_rule.specs.Number.{signed, word_of, extended, is_overflow, divided_signed, divided, remainder_signed, remainder}
use Rattle.wasm_rule.specs.Memory.{Memory, is_within, word_at, with_bytes, bytes_of}
use Rattle.wasm_rule.specs.Code.{most_in, most_pages}
use Rattle.wasm_rule.specs.Config.{Label, Call, Config}
use Rattle.wasm_rule.specs.Step.{getchar_name, View, load_act, act_of, call_act}
use Rattle.wasm_rule.specs.Values.{top, second}
use Rattle.wasm_rule.specs.Rule.{after, view_of, act_in, ended, returned, left, closed, going_out, grown, stored, calling, onward, with_call, stepped, wasm_rule}
use Rattle.wasm_rule.specs.Laws.{IsSmall}
use Rattle.wasm_rule.specs.Start.{wasm_start, least_in, first_call, main_of}

abbrev is_call : Act → Bool
is_call (act.Call own) = true
is_call _ = false

none_of_both : (b : Bool) (x y : Act) → is_call x ≡ false → is_call y ≡ false → is_call (cond b x y) ≡ true → ⊥
none_of_both true x y e f h = cc
none_of_both false x y e f h = cc

called : (o : Option Import) (own calls y : ℕ) → is_call (call_act o own calls y) ≡ true → nat_lt calls 4096 ≡ true
called (Some import) own calls y h = absurd (none_of_both (bytes_eq import.name getchar_name) act.Read (act.Write (y % 2 ^ 8)) refl refl h)
called None own calls y h = by_test (nat_lt calls 4096) h
  where
    by_test : (b : Bool) → is_call (cond b (act.Call own) (act.Stop 5)) ≡ true → b ≡ true
    by_test true e = refl
    by_test false e = cc

load_no_call : (memory : Memory) (address count : ℕ) (extend : ℕ → ℕ) → is_call (load_act memory address count extend) ≡ true → ⊥
load_no_call memory address count extend h = none_of_both (is_within memory address count) (act.Put 1 (extend (word_at memory.bytes address count))) (act.Stop 2) refl refl h

divided_no_call : (x y : ℕ) → is_call (divided x y) ≡ true → ⊥
divided_no_call x y h = none_of_both (nat_eq y 0) (act.Stop 3) (act.Put 2 (x / y)) refl refl h

remainder_no_call : (x y : ℕ) → is_call (remainder x y) ≡ true → ⊥
remainder_no_call x y h = none_of_both (nat_eq y 0) (act.Stop 3) (act.Put 2 (x % y)) refl refl h

signed_remainder_no_call : (x y : ℕ) → is_call (remainder_signed x y) ≡ true → ⊥
signed_remainder_no_call x y h = none_of_both (nat_eq y 0) (act.Stop 3) (act.Put 2 (word_of (int_rem (signed x) (signed y)))) refl refl h

none_of_three : (b c : Bool) (p q r : Act) → is_call p ≡ false → is_call q ≡ false → is_call r ≡ false → is_call (cond b p (cond c q r)) ≡ true → ⊥
none_of_three true c p q r d e f h = cc
none_of_three false c p q r d e f h = none_of_both c q r e f h

signed_quotient_no_call : (x y : ℕ) → is_call (divided_signed x y) ≡ true → ⊥
signed_quotient_no_call x y h = none_of_three (nat_eq y 0) (is_overflow x y) (act.Stop 3) (act.Stop 4) (act.Put 2 (word_of (int_div (signed x) (signed y)))) refl refl refl h

-- an own function is called where there are fewer calls
acts_few : (m : Module) (v : View) (i : Instr) → is_call (act_of m v i) ≡ true → nat_lt v.calls 4096 ≡ true
acts_few m v (instr.If gives) h = absurd (none_of_both (nat_eq (top v.values) 0) (act.Otherwise gives) (act.Block 1 gives) refl refl h)
acts_few m v (instr.BrIf depth) h = absurd (none_of_both (nat_eq (top v.values) 0) (act.Take 1) (act.Branch 1 depth) refl refl h)
acts_few m v (instr.Call k) h = called (slice_get m.imports k) (k - length m.imports) v.calls (top v.values) h
acts_few m v (instr.Load a) h = absurd (load_no_call v.memory (top v.values + a.offset) 4 (λ word. word) h)
acts_few m v (instr.Load8S a) h = absurd (load_no_call v.memory (top v.values + a.offset) 1 (extended 8) h)
acts_few m v (instr.Load8U a) h = absurd (load_no_call v.memory (top v.values + a.offset) 1 (λ word. word) h)
acts_few m v (instr.Load16S a) h = absurd (load_no_call v.memory (top v.values + a.offset) 2 (extended 16) h)
acts_few m v (instr.Load16U a) h = absurd (load_no_call v.memory (top v.values + a.offset) 2 (λ word. word) h)
acts_few m v instr.DivS h = absurd (signed_quotient_no_call (second v.values) (top v.values) h)
acts_few m v instr.DivU h = absurd (divided_no_call (second v.values) (top v.values) h)
acts_few m v instr.RemS h = absurd (signed_remainder_no_call (second v.values) (top v.values) h)
acts_few m v instr.RemU h = absurd (remainder_no_call (second v.values) (top v.values) h)
acts_few m v _ h = absurd cc

less_than : (a b : ℕ) → nat_lt a b ≡ true → a < b
less_than a b h = grind (arith, nat_tests)

at_most : (a b : ℕ) → nat_le a b ≡ true → a ≤ b
at_most a b h = grind (arith, nat_tests)

ended_small : (c : Config) (later : List Call) → IsSmall c → IsSmall (ended c later)
ended_small c [] s = record { calls = s.calls; pages = s.pages }
ended_small c (call ∷ later) s = record { calls = omega arith; pages = s.pages }

returned_small : (c : Config) (call : Call) (values : List ℕ) (callers : List Call) → c.calls ≡ call ∷ callers → IsSmall c → IsSmall (returned c call values callers)
returned_small c call values [] e s = ended_small c c.later s
returned_small c call values (caller ∷ callers) e s =
    let size : length c.calls ≡ length callers + 2 = ap length e ∙ counted (length callers) in
    let few = s.calls in
    record { calls = omega arith; pages = s.pages }
  where
    counted : (n : ℕ) → suc (suc n) ≡ n + 2
    counted n = omega arith

same_small : (c : Config) (call now : Call) (callers : List Call) → c.calls ≡ call ∷ callers → IsSmall c → length (now ∷ callers) ≤ 4096
same_small c call now callers e s =
    let size : length c.calls ≡ length (now ∷ callers) = ap length e in
    subst (λ n. n ≤ 4096) size s.calls

left_small : (c : Config) (call : Call) (callers : List Call) (labels : List Label) → c.calls ≡ call ∷ callers → IsSmall c → IsSmall (left c call callers labels)
left_small c call callers [] e s = returned_small c call call.values callers e s
left_small c call callers (label ∷ labels) e s = record { calls = same_small c call call callers e s; pages = s.pages }

closed_small : (c : Config) (call : Call) (callers : List Call) (labels : List Label) → c.calls ≡ call ∷ callers → IsSmall c → IsSmall (closed c call callers labels)
closed_small c call callers [] e s = returned_small c call call.values callers e s
closed_small c call callers (label ∷ labels) e s = record { calls = same_small c call call callers e s; pages = s.pages }

out_small : (c : Config) (call : Call) (callers : List Call) (values : List ℕ) (labels : List Label) → c.calls ≡ call ∷ callers → IsSmall c → IsSmall (going_out c call callers values labels)
out_small c call callers values [] e s = returned_small c call values callers e s
out_small c call callers values (label ∷ labels) e s = record { calls = same_small c call call callers e s; pages = s.pages }

most_small : (o : Option Limits) → most_in o ≤ 1024
most_small None = omega arith
most_small (Some limits) = omega arith

either_small : (b : Bool) (x y : Config) → (b ≡ true → IsSmall x) → IsSmall y → IsSmall (cond b x y)
either_small true x y s t = s refl
either_small false x y s t = t

grown_small : (m : Module) (c : Config) (call : Call) (callers : List Call) (more : ℕ) → c.calls ≡ call ∷ callers → IsSmall c → IsSmall (grown m c call callers more)
grown_small m c call callers more e s =
    either_small (nat_le (c.memory.pages + more) (most_pages m))
    (record c { memory = record c.memory { pages = c.memory.pages + more }; calls = onward call (c.memory.pages ∷ drop 1 call.values) ∷ callers })
    (with_call c (onward call ((2 ^ 32 - 1) ∷ drop 1 call.values)) callers)
    (λ h. record { calls = same_small c call call callers e s; pages = le_trans (at_most (c.memory.pages + more) (most_pages m) h) (most_small m.memory) })
    (record { calls = same_small c call call callers e s; pages = s.pages })

stored_small : (c : Config) (call : Call) (callers : List Call) (count address word : ℕ) → c.calls ≡ call ∷ callers → IsSmall c → IsSmall (stored c call callers count address word)
stored_small c call callers count address word e s =
    either_small (is_within c.memory address count)
    (record c { memory = record c.memory { bytes = with_bytes c.memory.bytes address (bytes_of count word) }; calls = onward call (drop 2 call.values) ∷ callers })
    (record c { status = Fault 2 })
    (λ h. record { calls = same_small c call call callers e s; pages = s.pages })
    (record { calls = s.calls; pages = s.pages })

calling_small : (m : Module) (c : Config) (call : Call) (callers : List Call) (own : ℕ) → c.calls ≡ call ∷ callers → IsSmall c → nat_lt (length c.calls) 4096 ≡ true → IsSmall (calling m c call callers own)
calling_small m c call callers own e s h = record { calls = one_more (length callers) (length c.calls) (ap length e) (less_than (length c.calls) 4096 h); pages = s.pages }
  where
    one_more : (n k : ℕ) → k ≡ suc n → k < 4096 → suc (suc n) ≤ 4096
    one_more n k f lt = omega arith

after_small : (m : Module) (c : Config) (call : Call) (callers : List Call) (a : Act) (byte : ℕ) → c.calls ≡ call ∷ callers → IsSmall c → (is_call a ≡ true → nat_lt (length c.calls) 4096 ≡ true) → IsSmall (after m c call callers a byte)
after_small m c call callers (act.Store count address word) byte e s h = stored_small c call callers count address word e s
after_small m c call callers (act.Grow more) byte e s h = grown_small m c call callers more e s
after_small m c call callers act.Leave byte e s h = left_small c call callers call.labels e s
after_small m c call callers act.End byte e s h = closed_small c call callers call.labels e s
after_small m c call callers (act.Branch count depth) byte e s h = out_small c call callers (drop count call.values) (drop depth call.labels) e s
after_small m c call callers act.Return byte e s h = returned_small c call call.values callers e s
after_small m c call callers (act.Call own) byte e s h = calling_small m c call callers own e s (h refl)
after_small m c call callers (act.Stop code) byte e s h = record { calls = s.calls; pages = s.pages }
after_small m c call callers _ byte e s h = record { calls = same_small c call call callers e s; pages = s.pages }

in_few : (m : Module) (c : Config) (call : Call) (code : List Instr) → is_call (act_in m c call code) ≡ true → nat_lt (length c.calls) 4096 ≡ true
in_few m c call [] h = absurd cc
in_few m c call (i ∷ code) h = acts_few m (view_of c call) i h

step_small : (m : Module) (c : Config) (calls : List Call) (byte : ℕ) → c.calls ≡ calls → IsSmall c → IsSmall (stepped m c calls byte)
step_small m c [] byte e s = s
step_small m c (call ∷ callers) byte e s = after_small m c call callers (act_in m c call call.code) byte e s (in_few m c call call.code)

applied_small : (m : Module) (input : List ℕ) (now : Moment Config) → IsSmall now.config → IsSmall (applied (wasm_rule m) input now).config
applied_small m input now s = by_status now.config.status
  where
    by_status : (status : Status) → IsSmall (if_going status (moved (wasm_rule m) input now) now).config
    by_status Going = step_small m now.config now.config.calls (fed_at (wasm_rule m) input now) refl s
    by_status Ended = s
    by_status (Fault code) = s

start_small : (m : Module) → least_in m.memory ≤ 1024 → IsSmall (wasm_start m)
start_small m h = ended_small _ (first_call m m.start ++ first_call m (main_of m)) (record { calls = omega arith; pages = h })

-- from a start with at most 1024 pages
pub stays_small : (m : Module) (input : List ℕ) → least_in m.memory ≤ 1024 → (n : ℕ) → IsSmall (run (wasm_rule m) (wasm_start m) input n).config
stays_small m input h zero = start_small m h
stays_small m input h (suc n) = applied_small m input (run (wasm_rule m) (wasm_start m) input n) (stays_small m input h n)
