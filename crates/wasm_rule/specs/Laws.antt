-- Laws of blocks, of the memory, of `main` and of runs.
use Rattle.std.specs.Prelude.{◌≡◌, ℕ, ◌+◌, ◌%◌, ◌^◌, ◌<◌, ◌≤◌, true, false, List, [], ◌∷◌, ◌++◌, length, get_or, None, Some}
use Rattle.mach_core.specs.Rule.{run}
use Rattle.wasm_bin.specs.declared.module.Export.{Export}
use Rattle.wasm_bin.specs.declared.module.Instr.{Instr}
use Rattle.wasm_bin.specs.declared.module.Instr.TheVariants.{Else, End}
use Rattle.wasm_bin.specs.declared.module.Module.{Module}
use Rattle.wasm_bin.specs.declared.module.Segment.{Segment}
use Rattle.wasm_bin.specs.Module.{module_spells}
use Rattle.wasm_valid.specs.Context.{Context}
use Rattle.wasm_valid.specs.Nesting.{Code, spelled}
use Rattle.wasm_valid.specs.Rules.{HaveDistinctNames}
use Rattle.wasm_valid.specs.Typing.{HasType}
use Rattle.wasm_rule.specs.Number.{word_of}
use Rattle.wasm_rule.specs.Memory.{ByteMap, byte_at, bytes_of, with_bytes, word_at}
use Rattle.wasm_rule.specs.Code.{past_end, else_part}
use Rattle.wasm_rule.specs.Config.{Config}
use Rattle.wasm_rule.specs.Rule.{wasm_rule}
use Rattle.wasm_rule.specs.Start.{is_main, main_in, wasm_start, with_segments}

-- what follows a block, a loop or an if without an else is what stands behind its own end; such an if has no else part but that end
pub record EndsAt (body : Code) (rest : List Instr) : Type 0 where
  pub past : past_end 0 (spelled body ++ End ∷ rest) ≡ rest
  pub other : else_part 0 (spelled body ++ End ∷ rest) ≡ End ∷ rest

-- what follows an if with an else is what stands behind its own end, and its else part is what stands behind its own else
pub record PartsAt (first second : Code) (rest : List Instr) : Type 0 where
  pub past : past_end 0 (spelled first ++ Else ∷ (spelled second ++ End ∷ rest)) ≡ rest
  pub other : else_part 0 (spelled first ++ Else ∷ (spelled second ++ End ∷ rest)) ≡ spelled second ++ End ∷ rest

-- blocks of typed code go on where they end
pub record BlocksEndWhereTheyClose : Type 0 where
  pub ends : (c : Context) (labels : List ℕ) (body : Code) (a b : ℕ) (rest : List Instr) → HasType c labels body a b → EndsAt body rest
  pub parts : (c : Context) (labels : List ℕ) (first second : Code) (a b d e : ℕ) (rest : List Instr) → HasType c labels first a b → HasType c labels second d e → PartsAt first second rest

-- what was stored is read again, and all else stays
pub record StoredWordsAreRead : Type 0 where
  pub below : (m : ByteMap) (address : ℕ) (bytes : List ℕ) (q : ℕ) → q < address → byte_at (with_bytes m address bytes) q ≡ byte_at m q
  pub within : (m : ByteMap) (address : ℕ) (bytes : List ℕ) (k q : ℕ) → q ≡ address + k → k < length bytes → byte_at (with_bytes m address bytes) q ≡ get_or bytes k 0
  pub behind : (m : ByteMap) (address : ℕ) (bytes : List ℕ) (q : ℕ) → address + length bytes ≤ q → byte_at (with_bytes m address bytes) q ≡ byte_at m q
  pub word : (m : ByteMap) (address count word : ℕ) → word_at (with_bytes m address (bytes_of count word)) address count ≡ word % 256 ^ count
  -- a later segment lies over the earlier ones
  pub later : (bytes : ByteMap) (front : List Segment) (segment : Segment) → with_segments bytes (front ++ segment ∷ []) ≡ with_bytes (with_segments bytes front) (word_of segment.offset) segment.bytes

-- the export at place k is a function that a run can start with, and shows the function of this index
pub record IsMainAt (m : Module) (exports : List Export) (index k : ℕ) : Type 0 where
  pub within : k < length exports
  pub is : (none : Export) → is_main m (get_or exports k none) ≡ true
  pub index_is : (none : Export) → (get_or exports k none).index ≡ index

-- the function that a run starts with is one that an export shows as `main`; where names are distinct there is one at most
pub record OneMainIsShown : Type 0 where
  pub shown : (m : Module) (exports : List Export) (index : ℕ) → main_in m exports ≡ Some index → (k : ℕ) × IsMainAt m exports index k
  pub none : (m : Module) (exports : List Export) → main_in m exports ≡ None → (k : ℕ) (none : Export) → k < length exports → is_main m (get_or exports k none) ≡ false
  pub one : (m : Module) (none : Export) (index other j k : ℕ) → HaveDistinctNames m.exports → IsMainAt m m.exports index j → IsMainAt m m.exports other k → index ≡ other

-- at most so many calls and pages
pub record IsSmall (c : Config) : Type 0 where
  pub calls : length c.calls ≤ 4096
  pub pages : c.memory.pages ≤ 1024

-- no run of a module that bytes spell ever has more than 4096 calls or 1024 pages
abbrev pub RunsStaySmall : Type 0
RunsStaySmall = (bytes : List ℕ) (m : Module) (input : List ℕ) → module_spells bytes m → (n : ℕ) → IsSmall (run (wasm_rule m) (wasm_start m) input n).config
