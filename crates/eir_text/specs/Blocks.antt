-- The blocks of the text section.
use Rattle.std.specs.Prelude.{ℕ, ◌+◌, Bool, false, ◌||◌, List, [], ◌∷◌, ◌++◌, map, Option, if◌then◌else◌}
use Rattle.std.specs.Option.{option_to_list}
use Rattle.eir_core.specs.declared.ops.Op.{Op}
use Rattle.eir_line.specs.Line.{Line, Statement}
use Rattle.eir_text.specs.Sections.{is_jump, is_operation}

-- the number of the current block, and whether it has an operation
pub record Current : Type 0 where
  pub number : ℕ
  pub has_operation : Bool

abbrev pub first_block : Current
first_block = record { number = 0; has_operation = false }

-- a label, where the current block has an operation, makes the number rise
abbrev pub behind_labels : Current → List (List ℕ) → Current
behind_labels c [] = c
behind_labels c (name ∷ names) = record { number = if c.has_operation then c.number + 1 else c.number; has_operation = false }

-- behind a jump the number rises
abbrev pub behind_statement : Current → Statement → Current
behind_statement c s =
    if is_jump s then record { number = c.number + 1; has_operation = false }
    else record { number = c.number; has_operation = c.has_operation || is_operation s }

-- the labels of the text section, with their values
abbrev pub block_labels : Current → List Line → List (List ℕ × ℕ)
block_labels c [] = []
block_labels c (line ∷ lines) =
    let here = behind_labels c line.labels in
    map (λ name. (name, here.number)) line.labels ++ block_labels (behind_statement here line.statement) lines

-- a block, if it has an operation
abbrev pub filled : {X : Type 0} → List X → List (List X)
filled [] = []
filled (op ∷ ops) = (op ∷ ops) ∷ []

-- the block that a line's labels end, where these operations stand before, and what they leave of it
abbrev pub ended_by : {X : Type 0} → List (List ℕ) → List X → List (List X)
ended_by [] ops = []
ended_by (name ∷ names) ops = filled ops

abbrev pub kept_by : {X : Type 0} → List (List ℕ) → List X → List X
kept_by [] ops = ops
kept_by (name ∷ names) ops = []

-- the blocks that lines make, where these operations of the current block stand before
abbrev pub blocks_from : (Statement → Option Op) → List Op → List Line → List (List Op)
blocks_from op_of ops [] = filled ops
blocks_from op_of ops (line ∷ lines) =
    let grown = kept_by line.labels ops ++ option_to_list (op_of line.statement) in
    ended_by line.labels ops ++ (if is_jump line.statement then grown ∷ [] else []) ++ blocks_from op_of (if is_jump line.statement then [] else grown) lines
