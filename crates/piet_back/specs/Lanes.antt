-- The lanes of a program.
-- It serves the proofs alone: what an emission promises names none of it.
use Rattle.std.specs.Prelude.{ℕ, ◌+◌, ◌*◌, nat_lt, cond, List, [], ◌∷◌, ◌++◌, length, sum_by}
use Rattle.std.specs.List.{flat_map}
use Rattle.word24.specs.declared.word.Word.{Word}
use Rattle.word24.specs.Word.{number_of}
use Rattle.eir_core.specs.declared.ops.Op.{Op}
use Rattle.eir_core.specs.Eir.{Eir}
use Rattle.piet_lane.specs.declared.command.Command.{Command}
use Rattle.piet_lane.specs.declared.command.Command.TheVariants.{Push, Not}
use Rattle.piet_stack.specs.declared.operation.Ways.{Ways}
use Rattle.piet_stack.specs.Code.{number_code, no_lane, block_lane, op_code, second_code, ensure_code, grow_code}
use Rattle.piet_back.specs.declared.layout.Layout.{Layout}

abbrev pub layout_of : Eir → Layout
layout_of p = record { blocks = length p.blocks; ops = sum_by length p.blocks; words = length p.words }

-- the operations of all blocks, one after the other
abbrev pub flat : List (List Op) → List Op
flat blocks = flat_map (λ ops. ops) blocks

-- the lane of an operation, by its number among all
abbrev pub op_lane : Layout → ℕ → ℕ
op_lane g k = g.blocks + k

abbrev pub second_lane : Layout → ℕ → ℕ
second_lane g k = g.blocks + g.ops + k

-- the lane that lays the registers and goes to the first block
abbrev pub init_lane : Layout → ℕ
init_lane g = g.blocks + 2 * g.ops

-- the lane that pushes a data word and its partner, and goes to the one before it
abbrev pub data_lane : Layout → ℕ → ℕ
data_lane g k = init_lane g + 1 + k

-- the lane that sees to the pairs
abbrev pub ensure_lane : Layout → ℕ
ensure_lane g = init_lane g + g.words + 1

-- the lane that adds a pair; the one behind it goes to the lane that lies on top
abbrev pub grow_lane : Layout → ℕ
grow_lane g = init_lane g + g.words + 2

-- the lane of what comes behind an operation
abbrev pub on_lane : Layout → ℕ → ℕ
on_lane g k = cond (nat_lt (k + 1) g.ops) (op_lane g (k + 1)) no_lane

abbrev pub ways_at : Layout → ℕ → Ways
ways_at g k = record { blocks = g.blocks; on = on_lane g k; second = second_lane g k; ensure = ensure_lane g }

-- the lanes of blocks, of which the first has operations from a number on: each leads to its first operation
abbrev pub block_lanes : Layout → ℕ → List (List Op) → List (List Command)
block_lanes g k [] = []
block_lanes g k (ops ∷ blocks) = number_code (op_lane g k) ∷ block_lanes g (k + length ops) blocks

-- the lanes of operations from a number on
abbrev pub op_lanes : Layout → ℕ → List Op → List (List Command)
op_lanes g k [] = []
op_lanes g k (op ∷ ops) = op_code (ways_at g k) op ∷ op_lanes g (k + 1) ops

-- their second lanes
abbrev pub second_lanes : Layout → ℕ → List Op → List (List Command)
second_lanes g k [] = []
second_lanes g k (op ∷ ops) = second_code (ways_at g k) op ∷ second_lanes g (k + 1) ops

-- pushes a zero
abbrev pub zero_code : List Command
zero_code = Push ∷ Not ∷ []

-- six registers of zeros, the number of pairs, and the lane of the first block
abbrev pub init_code : Layout → ℕ → List Command
init_code g start =
    zero_code ++ (zero_code ++ (zero_code ++ (zero_code ++ (zero_code ++ (zero_code ++ (number_code g.words ++ number_code (block_lane g.blocks start)))))))

-- a zero, the word, and the lane of the word before it
abbrev pub data_code : Layout → ℕ → Word → List Command
data_code g k word = zero_code ++ (number_code (number_of word) ++ number_code (init_lane g + k))

-- the lanes of data words from a number on
abbrev pub data_lanes : Layout → ℕ → List Word → List (List Command)
data_lanes g k [] = []
data_lanes g k (word ∷ words) = data_code g k word ∷ data_lanes g (k + 1) words

-- the three that see to the pairs
abbrev pub pair_lanes : Layout → List (List Command)
pair_lanes g = ensure_code (grow_lane g) ∷ (grow_code ++ number_code (ensure_lane g)) ∷ [] ∷ []

-- all lanes
abbrev pub lanes_by : Layout → Eir → List (List Command)
lanes_by g p =
    block_lanes g 0 p.blocks ++ (op_lanes g 0 (flat p.blocks) ++ (second_lanes g 0 (flat p.blocks) ++ (init_code g p.start ∷ (data_lanes g 0 p.words ++ pair_lanes g))))

abbrev pub lanes : Eir → List (List Command)
lanes p = lanes_by (layout_of p) p

-- the lane that starts: that of the last data word, or else the one that lays the registers
abbrev pub start_lane : Eir → ℕ
start_lane p = init_lane (layout_of p) + length p.words
