-- An EIR program and the WebAssembly module for it are at the same.
-- It serves the proofs alone: what an emission promises names none of it.
use Rattle.std.specs.Prelude.{◌≡◌, ℕ, suc, ◌*◌, ◌<◌, ◌≤◌, false, List, [], ◌∷◌, ◌++◌, length, drop}
use Rattle.mach_core.specs.declared.machine.Status.TheVariants.{Ended}
use Rattle.word24.specs.Word.{IsWord}
use Rattle.eir_core.specs.declared.ops.Op.{Op}
use Rattle.eir_core.specs.Acts.{ops_at}
use Rattle.eir_core.specs.Eir.{Eir}
use Rattle.eir_core.specs.Memory as eir
use Rattle.eir_core.specs.Step.{Config, Regs}
use Rattle.eir_core.specs.Words.{IsWords, IsPlaced}
use Rattle.wasm_bin.specs.declared.module.Instr.{Instr}
use Rattle.wasm_bin.specs.declared.module.Instr.TheVariants.{End}
use Rattle.wasm_bin.specs.declared.module.Module.{Module}
use Rattle.wasm_rule.specs.Memory.{ByteMap, word_at}
use Rattle.wasm_rule.specs.Config as wasm
use Rattle.wasm_code.specs.Emitted.{ops_code, blocks_code, turn_code}
use Rattle.wasm_build.specs.Straight.{Stage}
use Rattle.wasm_build.specs.Lead.{Around, Spot, spot, config_at}

-- the locals of `main`: the words in the registers, and the number of the block that a jump goes to
abbrev pub locals_for : Regs → ℕ → List ℕ
locals_for r goal = r.a ∷ r.b ∷ r.c ∷ r.d ∷ r.sp ∷ r.bp ∷ goal ∷ []

-- what `main` works on: these values, its locals and a memory of 2^24 words
abbrev pub stage_for : Regs → ℕ → ByteMap → List ℕ → Stage
stage_for r goal bytes values = record { values = values; locals = locals_for r goal; globals = []; memory = record { pages = 1024; bytes = bytes } }

-- `main` gives nothing, and is the only call
abbrev pub around_main : Around
around_main = record { gives = false; callers = []; later = [] }

-- a branch to the loop begins it again
abbrev pub loop_label : List (List Op) → wasm.Label
loop_label all = record { takes = false; beneath = 0; next = turn_code all }

-- the labels that lead to each of these last blocks of a program, the innermost first, and then to the loop
abbrev pub labels_for : List (List Op) → List (List Op) → List wasm.Label
labels_for all [] = loop_label all ∷ []
labels_for all (ops ∷ blocks) = record { takes = false; beneath = 0; next = blocks_code (ops ∷ blocks) } ∷ labels_for all blocks

-- the blocks behind one
abbrev pub blocks_behind : Eir → ℕ → List (List Op)
blocks_behind p b = drop (suc b) p.blocks

-- the code of these operations of a block and of all that follows it
abbrev pub code_from : Eir → ℕ → List Op → List Instr
code_from p b ops = ops_code (length (blocks_behind p b)) ops ++ End ∷ blocks_code (blocks_behind p b)

-- `main` is at an operation of a block, with nothing on the stack
abbrev pub spot_for : Eir → Config → ℕ → ByteMap → Spot
spot_for p c goal bytes = spot (stage_for c.regs goal bytes []) (labels_for p.blocks (blocks_behind p c.block)) (code_from p c.block (drop c.index (ops_at p c.block)))

-- the memory has each word at its place
pub record HasWords (bytes : ByteMap) (memory : eir.Memory) : Type 0 where
  pub words : (a : ℕ) → IsWord a → word_at bytes (4 * a) 4 ≡ eir.word_at memory a

-- the module is where the code of the next operation begins, with the same words in the registers and in the memory
pub record IsAt (p : Eir) (c : Config) (d : wasm.Config) : Type 0 where
  pub goal : ℕ
  pub bytes : ByteMap
  pub is : d ≡ config_at around_main (spot_for p c goal bytes)
  pub has : HasWords bytes c.memory

-- the same words stand at the same places, and the one is at its end where the other is
pub record Related (p : Eir) (m : Module) (c : Config) (d : wasm.Config) : Type 0 where
  pub words : IsWords c
  pub placed : IsPlaced p c
  pub going : c.block < length p.blocks → IsAt p c d
  pub ended : length p.blocks ≤ c.block → d.status ≡ Ended
