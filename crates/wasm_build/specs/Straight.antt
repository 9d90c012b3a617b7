-- Code without blocks, branches and calls, as a function on what it works on.
use Rattle.std.specs.Prelude.{ℕ, cond, nat_eq, List, [], ◌∷◌, drop, slice_index, slice_set, Option, None, Some}
use Rattle.std.specs.Option.{option_and_then}
use Rattle.wasm_bin.specs.declared.module.Instr.{Instr}
use Rattle.wasm_bin.specs.declared.module.Instr.TheVariants as instr
use Rattle.wasm_rule.specs.declared.act.Act.{Act}
use Rattle.wasm_rule.specs.declared.act.Act.TheVariants as act
use Rattle.wasm_rule.specs.Memory.{Memory, with_bytes, bytes_of, is_within}
use Rattle.wasm_rule.specs.Step.{variable_act}

-- the values with the top first, the locals, the globals and the memory
pub record Stage : Type 0 where
  pub values : List ℕ
  pub locals : List ℕ
  pub globals : List ℕ
  pub memory : Memory

-- with so many bytes of a word stored; None outside the memory
abbrev pub stored : Stage → ℕ → ℕ → ℕ → Option Stage
stored s count address word =
    cond (is_within s.memory address count)
    (Some (record s { values = drop 2 s.values; memory = record s.memory { bytes = with_bytes s.memory.bytes address (bytes_of count word) } }))
    None

-- what an act makes of these; None where it meets a fault or does more
abbrev pub acted : Act → Stage → Option Stage
acted (act.Take count) s = Some (record s { values = drop count s.values })
acted (act.Put count value) s = Some (record s { values = value ∷ drop count s.values })
acted (act.SetLocal count k value) s = Some (record s { values = drop count s.values; locals = slice_set s.locals k value })
acted (act.SetGlobal k value) s = Some (record s { values = drop 1 s.values; globals = slice_set s.globals k value })
acted (act.Store count address word) s = stored s count address word
acted _ s = None

-- what an instruction does here; one that forms blocks, branches or calls is none of straight code
abbrev pub straight_act : Stage → Instr → Act
straight_act s instr.Unreachable = act.Stop 1
straight_act s (instr.Block gives) = act.Leave
straight_act s (instr.Loop gives) = act.Leave
straight_act s (instr.If gives) = act.Leave
straight_act s instr.Else = act.Leave
straight_act s instr.End = act.Leave
straight_act s (instr.Br label) = act.Leave
straight_act s (instr.BrIf label) = act.Leave
straight_act s (instr.BrTable labels label) = act.Leave
straight_act s instr.Return = act.Leave
straight_act s (instr.Call func) = act.Leave
straight_act s instr.Nop = act.Take 0
straight_act s instr.Drop = act.Take 1
straight_act s instr.Select = act.Put 3 (cond (nat_eq (slice_index s.values 0) 0) (slice_index s.values 1) (slice_index s.values 2))
straight_act s other = variable_act s.locals s.globals s.memory (slice_index s.values 1) (slice_index s.values 0) other

-- what code makes of these, one instruction after the other; None where it is not straight or meets a fault
abbrev pub ran : List Instr → Stage → Option Stage
ran [] s = Some s
ran (i ∷ code) s = option_and_then (ran code) (acted (straight_act s i) s)
