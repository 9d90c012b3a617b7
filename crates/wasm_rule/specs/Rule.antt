-- What a module does, step by step.
use Rattle.std.specs.Prelude.{ℕ, ◌+◌, ◌-◌, ◌^◌, Bool, true, false, cond, nat_le, nat_lt, List, [], ◌∷◌, ◌++◌, length, take, drop, reverse, replicate, slice_index, slice_set}
use Rattle.mach_core.specs.declared.machine.Status.TheVariants.{Ended, Fault}
use Rattle.mach_core.specs.Rule.{Rule}
use Rattle.wasm_bin.specs.declared.module.Instr.{Instr}
use Rattle.wasm_bin.specs.declared.module.Module.{Module}
use Rattle.wasm_rule.specs.declared.act.Act.{Act}
use Rattle.wasm_rule.specs.declared.act.Act.TheVariants as act
use Rattle.wasm_rule.specs.Values.{lowest, topped}
use Rattle.wasm_rule.specs.Memory.{with_bytes, bytes_of, is_within}
use Rattle.wasm_rule.specs.Code.{past_end, else_part, type_of, own_code, own_locals, most_pages}
use Rattle.wasm_rule.specs.Config.{Label, Call, Config}
use Rattle.wasm_rule.specs.Step.{View, act_of}

-- on to the next instruction with these values
abbrev pub onward : Call → List ℕ → Call
onward call values = record call { values = values; code = drop 1 call.code }

-- the last call is now this
abbrev pub with_call : Config → Call → List Call → Config
with_call c call callers = record c { calls = call ∷ callers }

-- a block begins over these values, at this code
abbrev pub entered : Call → Bool → List ℕ → List Instr → Call
entered call gives values code = record call {
  values = values;
  labels = record { takes = gives; beneath = length values; next = past_end 0 (drop 1 call.code) } ∷ call.labels;
  code = code;
}

-- a loop begins: a branch to it comes back to the `loop` itself
abbrev pub looped : Call → Call
looped call = record call {
  labels = record { takes = false; beneath = length call.values; next = call.code } ∷ call.labels;
  code = drop 1 call.code;
}

-- out to a label, of which the others lie outside
abbrev pub branched : Call → Label → List Label → List ℕ → Call
branched call label labels values = record call {
  values = topped label.takes (slice_index values 0) (lowest label.beneath values);
  labels = labels;
  code = label.next;
}

-- a call of an own function begins, with the values that it takes
abbrev pub new_call : Module → ℕ → List ℕ → Call
new_call m own arguments = record {
  gives = nat_lt 0 (type_of m own).results;
  locals = arguments ++ replicate ((type_of m own).params + own_locals m own - length arguments) 0;
  values = [];
  labels = [];
  code = own_code m own;
}

-- how many parameters an own function takes
abbrev pub params_of : Module → ℕ → ℕ
params_of m own = (type_of m own).params

-- the last of the calls has ended: the next call follows, if there is one
abbrev pub ended : Config → List Call → Config
ended c [] = record c { status = Ended }
ended c (call ∷ later) = record c { calls = call ∷ []; later = later }

-- a call ends and gives its result to the one that made it
abbrev pub returned : Config → Call → List ℕ → List Call → Config
returned c call values [] = ended c c.later
returned c call values (caller ∷ callers) = with_call c (record caller { values = topped call.gives (slice_index values 0) caller.values }) callers

-- the innermost block is left, or else the call
abbrev pub left : Config → Call → List Call → List Label → Config
left c call callers [] = returned c call call.values callers
left c call callers (label ∷ labels) = with_call c (record call { labels = labels; code = label.next }) callers

-- the innermost block ends, or else the call
abbrev pub closed : Config → Call → List Call → List Label → Config
closed c call callers [] = returned c call call.values callers
closed c call callers (label ∷ labels) = with_call c (record call { labels = labels; code = drop 1 call.code }) callers

-- a branch to the first of these labels; past the outermost block it ends the call
abbrev pub going_out : Config → Call → List Call → List ℕ → List Label → Config
going_out c call callers values [] = returned c call values callers
going_out c call callers values (label ∷ labels) = with_call c (branched call label labels values) callers

-- an own function is called with the values at the top
abbrev pub calling : Module → Config → Call → List Call → ℕ → Config
calling m c call callers own = record c {
  calls = new_call m own (reverse (take (params_of m own) call.values)) ∷ onward call (drop (params_of m own) call.values) ∷ callers;
}

-- the memory grows if it may, and its old size is put, or else -1
abbrev pub grown : Module → Config → Call → List Call → ℕ → Config
grown m c call callers more =
    cond (nat_le (c.memory.pages + more) (most_pages m))
    (record c {
      memory = record c.memory { pages = c.memory.pages + more };
      calls = onward call (c.memory.pages ∷ drop 1 call.values) ∷ callers;
    })
    (with_call c (onward call ((2 ^ 32 - 1) ∷ drop 1 call.values)) callers)

-- so many bytes of a word are stored; outside the memory it is fault 2
abbrev pub stored : Config → Call → List Call → ℕ → ℕ → ℕ → Config
stored c call callers count address word =
    cond (is_within c.memory address count)
    (record c {
      memory = record c.memory { bytes = with_bytes c.memory.bytes address (bytes_of count word) };
      calls = onward call (drop 2 call.values) ∷ callers;
    })
    (record c { status = Fault 2 })

-- what an act makes of a configuration with this last call, given the byte that it takes; a fault changes nothing else
abbrev pub after : Module → Config → Call → List Call → Act → ℕ → Config
after m c call callers (act.Take count) byte = with_call c (onward call (drop count call.values)) callers
after m c call callers (act.Put count value) byte = with_call c (onward call (value ∷ drop count call.values)) callers
after m c call callers (act.SetLocal count k value) byte = with_call c (record (onward call (drop count call.values)) { locals = slice_set call.locals k value }) callers
after m c call callers (act.SetGlobal k value) byte = record c { globals = slice_set c.globals k value; calls = onward call (drop 1 call.values) ∷ callers }
after m c call callers (act.Store count address word) byte = stored c call callers count address word
after m c call callers (act.Grow more) byte = grown m c call callers more
after m c call callers (act.Block count gives) byte = with_call c (entered call gives (drop count call.values) (drop 1 call.code)) callers
after m c call callers act.Loop byte = with_call c (looped call) callers
after m c call callers (act.Otherwise gives) byte = with_call c (entered call gives (drop 1 call.values) (else_part 0 (drop 1 call.code))) callers
after m c call callers act.Leave byte = left c call callers call.labels
after m c call callers act.End byte = closed c call callers call.labels
after m c call callers (act.Branch count depth) byte = going_out c call callers (drop count call.values) (drop depth call.labels)
after m c call callers act.Return byte = returned c call call.values callers
after m c call callers (act.Call own) byte = calling m c call callers own
after m c call callers act.Read byte = with_call c (onward call (byte ∷ call.values)) callers
after m c call callers (act.Write written) byte = with_call c (onward call (drop 1 call.values)) callers
after m c call callers (act.Stop code) byte = record c { status = Fault code }

-- what the instructions of a call may read
abbrev pub view_of : Config → Call → View
view_of c call = record { calls = length c.calls; locals = call.locals; globals = c.globals; memory = c.memory; values = call.values }

-- what the first of these instructions does; where none is left, the innermost block is left, or the call
abbrev pub act_in : Module → Config → Call → List Instr → Act
act_in m c call [] = act.Leave
act_in m c call (instr ∷ code) = act_of m (view_of c call) instr

-- what the last call does next
abbrev pub act_at : Module → Config → List Call → Act
act_at m c [] = act.Take 0
act_at m c (call ∷ callers) = act_in m c call call.code

abbrev pub takes_byte : Act → Bool
takes_byte act.Read = true
takes_byte _ = false

-- the bytes that an act writes
abbrev pub bytes_written : Act → List ℕ
bytes_written (act.Write byte) = byte ∷ []
bytes_written _ = []

-- a configuration without calls stays as it is
abbrev pub stepped : Module → Config → List Call → ℕ → Config
stepped m c [] byte = c
stepped m c (call ∷ callers) byte = after m c call callers (act_in m c call call.code) byte

-- what a module does
abbrev pub wasm_rule : Module → Rule Config
wasm_rule m = record {
  standing = λ c. c.status;
  wants = λ c. takes_byte (act_at m c c.calls);
  next = λ c byte. stepped m c c.calls byte;
  written = λ c byte. bytes_written (act_at m c c.calls);
}
