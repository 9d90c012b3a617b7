-- Acts that are done with what is held and stay within the last call, as steps of a run.
use Rattle.std.proofs.Common.{zero, suc, ◌≡◌, ℕ, ◌+◌, ◌<◌, true, false, cond, List, [], ◌∷◌, ◌++◌, length, drop, get_or, Some, refl, sym, ap, subst, ◌∙◌}
use Rattle.std.specs.Prelude.{Vec, slice_get, slice_set}
use Rattle.std.specs.declared.alloc.Global.{Global}
use Rattle.std.proofs.lemmas.Option.{slice_get_read}
use Rattle.mach_core.specs.declared.machine.Status.TheVariants.{Fault}
use Rattle.mach_core.specs.Held.{Buffers, TakesHeld}
use Rattle.mach_core.proofs.Holding.{held_more}
use Rattle.wasm_bin.specs.declared.module.Instr.{Instr}
use Rattle.wasm_bin.specs.declared.module.Module.{Module}
use Rattle.wasm_rule.specs.declared.act.Act.{Act}
use Rattle.wasm_rule.specs.declared.act.Act.TheVariants as act
use Rattle.wasm_parts.specs.declared.frame.CallFrame.{CallFrame}
use Rattle.wasm_parts.specs.declared.jumps.Jump.{Jump}
use Rattle.wasm_run.specs.declared.state.State.{State}
use Rattle.wasm_rule.specs.Memory.{Memory, with_bytes, bytes_of, is_within}
use Rattle.wasm_rule.specs.Code.{own_code}
use Rattle.wasm_parts.specs.Jumps.{Leads, IsTable}
use Rattle.wasm_rule.specs.Config.{Call}
use Rattle.wasm_rule.specs.Rule.{with_call, onward, takes_byte, bytes_written, wasm_rule}
use Rattle.wasm_parts.specs.Frames.{call_of}
use Rattle.wasm_run.specs.States.{callers_of, config_of, acted}
use Rattle.wasm_run.specs.Machine.{next_act_of}
use Rattle.wasm_run.specs.InCall.{in_call, IsQuiet, IsHeldStep, act_on, RunsHeld}
use Rattle.wasm_run.proofs.MachineLemmas.{act_here}

-- an act that changes the last call alone
pub inside : (a : Act) (jumps : List Jump) (frame frame' : CallFrame) (globals : Vec ℕ Global) (memory : Memory) → takes_byte a ≡ false → bytes_written a ≡ [] → frame'.body ≡ frame.body
    → ((m : Module) (s : State) → IsTable (own_code m frame.body) jumps → frame.place < length (own_code m frame.body)
    → with_call (config_of m (in_call s frame globals memory)) (call_of m frame') (callers_of m s.callers.items) ≡ acted m (in_call s frame globals memory) a 0)
    → IsQuiet a jumps frame globals memory frame' globals memory
inside a jumps frame frame' globals memory takes writes body leads = record {
  takes_none = takes;
  writes_none = writes;
  function_kept = body;
  leads = λ m s table within. sym (leads m s table within);
}

-- the last call becomes another
pub call_is : (m : Module) (s : State) (globals : Vec ℕ Global) (memory : Memory) (frame frame' : CallFrame) (call : Call) → call_of m frame' ≡ call
    → with_call (config_of m (in_call s frame globals memory)) (call_of m frame') (callers_of m s.callers.items) ≡ with_call (config_of m (in_call s frame globals memory)) call (callers_of m s.callers.items)
call_is m s globals memory frame frame' call e = ap (λ x. with_call (config_of m (in_call s frame globals memory)) x (callers_of m s.callers.items)) e

pub stores : (m : Module) (s : State) (frame frame' : CallFrame) (globals : Vec ℕ Global) (memory memory' : Memory) (count address word : ℕ) → is_within memory address count ≡ true
    → memory' ≡ record memory { bytes = with_bytes memory.bytes address (bytes_of count word) } → call_of m frame' ≡ onward (call_of m frame) (drop 2 frame.values)
    → acted m (in_call s frame globals memory) (act.Store count address word) 0 ≡ config_of m (in_call s frame' globals memory')
stores m s frame frame' globals memory memory' count address word within e h =
    let c = config_of m (in_call s frame globals memory) in
    let callers = callers_of m s.callers.items in
    ap (λ b. cond b (record c { memory = record memory { bytes = with_bytes memory.bytes address (bytes_of count word) }; calls = onward (call_of m frame) (drop 2 frame.values) ∷ callers }) (record c { status = Fault 2 })) within
    ∙ (ap (λ (x : Memory). record c { memory = x; calls = onward (call_of m frame) (drop 2 frame.values) ∷ callers }) (sym e)
    ∙ ap (λ (x : Call). record c { memory = memory'; calls = x ∷ callers }) (sym h))

pub sets_global : (m : Module) (s : State) (frame frame' : CallFrame) (globals globals' : Vec ℕ Global) (memory : Memory) (index value : ℕ)
    → globals'.items ≡ slice_set globals.items index value → call_of m frame' ≡ onward (call_of m frame) (drop 1 frame.values)
    → acted m (in_call s frame globals memory) (act.SetGlobal index value) 0 ≡ config_of m (in_call s frame' globals' memory)
sets_global m s frame frame' globals globals' memory index value e h =
    let c = config_of m (in_call s frame globals memory) in
    let callers = callers_of m s.callers.items in
    ap (λ (x : List ℕ). record c { globals = x; calls = onward (call_of m frame) (drop 1 frame.values) ∷ callers }) (sym e)
    ∙ ap (λ (x : Call). record c { globals = globals'.items; calls = x ∷ callers }) (sym h)

-- what a look-up finds is there
pub found : {A : Type 0} (xs : List A) (k : ℕ) (x : A) → k < length xs → x ≡ get_or xs k x → slice_get xs k ≡ Some x
found xs k x within is = slice_get_read xs (length xs) k x refl within is

-- the jump of a place is that of the table
jump_there : (jumps : List Jump) (place : ℕ) (jump : Jump) → slice_get jumps place ≡ Some jump → get_or jumps place jump ≡ jump
jump_there [] place jump e = refl
jump_there (x ∷ jumps) zero jump e = cc
jump_there (x ∷ jumps) (suc place) jump e = jump_there jumps place jump e

pub leads_there : (code : List Instr) (jumps : List Jump) (place : ℕ) (jump : Jump) → IsTable code jumps → place < length code → slice_get jumps place ≡ Some jump → Leads code 0 (drop (place + 1) code) jump
leads_there code jumps place jump table within e = subst (λ (j : Jump). Leads code 0 (drop (place + 1) code) j) (jump_there jumps place jump e) (table place jump within)

-- one more step
pub one_more : (m : Module) (calls : ℕ) (jumps : List Jump) (code : List Instr) (instr : Instr) (n : ℕ) (a : Act)
    (frame₀ : CallFrame) (globals₀ : Vec ℕ Global) (memory₀ : Memory) (before : Buffers) (frame : CallFrame) (globals : Vec ℕ Global) (memory : Memory) (b : Buffers) (frame' : CallFrame) (globals' : Vec ℕ Global) (memory' : Memory) (after' : Buffers)
    → RunsHeld m calls frame₀ globals₀ memory₀ before n frame globals memory b → code ≡ own_code m frame.body → IsTable (own_code m frame.body) jumps → frame.place < length code → instr ≡ get_or code frame.place instr
    → a ≡ act_on m calls frame globals memory instr → IsHeldStep a jumps frame globals memory b frame' globals' memory' after'
    → RunsHeld m calls frame₀ globals₀ memory₀ before (n + 1) frame' globals' memory' after'
one_more m calls jumps code instr n a frame₀ globals₀ memory₀ before frame globals memory b frame' globals' memory' after' runs at table within is act_is held = λ s going count.
    let here = in_call s frame globals memory in
    let there : slice_get (own_code m frame.body) frame.place ≡ Some instr = subst (λ (xs : List Instr). slice_get xs frame.place ≡ Some instr) at (found code frame.place instr within is) in
    let inner : frame.place < length (own_code m frame.body) = subst (λ (xs : List Instr). frame.place < length xs) at within in
    let does : next_act_of m here ≡ a = sym (act_here m here (length s.callers.items) instr refl there) ∙ (ap (λ k. act_on m k frame globals memory instr) (sym count) ∙ sym act_is) in
    held_more (wasm_rule m) (config_of m (in_call s frame₀ globals₀ memory₀)) (config_of m here) (config_of m (in_call s frame' globals' memory')) before b after' n (runs s going count) (record {
      going = going;
      byte = held.byte;
      taken = subst (λ (x : Act). TakesHeld (takes_byte x) b.held after'.held held.byte) (sym does) held.taken;
      next = sym (ap (λ (x : Act). acted m here x (cond (takes_byte x) held.byte 0)) does ∙ held.leads m s table inner);
      put = held.put ∙ ap (λ (x : Act). b.put ++ bytes_written x) (sym does);
    })
