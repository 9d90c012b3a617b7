-- A label of the text section has the number of the block that follows it.
use Rattle.std.proofs.Common.{◌≡◌, ℕ, ◌+◌, Bool, true, false, ◌||◌, if◌then◌else◌, List, [], ◌∷◌, ◌++◌, map, length, Option, Some, None, is_some, refl, sym, ap, ◌∙◌, append_assoc, arith}
use Rattle.std.specs.Option.{option_to_list}
use Rattle.std.proofs.lemmas.List.{length-append}
use Rattle.eir_core.specs.declared.ops.Op.{Op}
use Rattle.eir_line.specs.declared.words.BinaryOp.TheVariants as binary
use Rattle.eir_line.specs.Line.{Line, Statement, Nothing, Binary, Putc, Getc, Exit, Jump, JumpIf, Dump, Text, Data, Long, Bytes, Note}
use Rattle.eir_text.specs.Sections.{is_jump, is_operation}
use Rattle.eir_text.specs.Blocks.{Current, first_block, behind_labels, behind_statement, block_labels, ended_by, kept_by, blocks_from}
use Rattle.eir_text.specs.Spells.{op_for}

abbrev pub is_filled : List Op → Bool
is_filled [] = false
is_filled (op ∷ ops) = true

abbrev one_if : Bool → ℕ
one_if true = 1
one_if false = 0

-- a statement is an operation exactly where it is one of the text
abbrev pub Operates : (Statement → Option Op) → Type 0
Operates op_of = (s : Statement) → is_some (op_of s) ≡ is_operation s

pub op_for_operates : (values : List ℕ → ℕ) → Operates (op_for values)
op_for_operates values (Binary binary.Mov r t) = refl
op_for_operates values (Binary binary.Add r t) = refl
op_for_operates values (Binary binary.Sub r t) = refl
op_for_operates values (Binary binary.Load r t) = refl
op_for_operates values (Binary binary.Store r t) = refl
op_for_operates values (Binary (binary.Set c) r t) = refl
op_for_operates values (Putc t) = refl
op_for_operates values (Getc r) = refl
op_for_operates values Exit = refl
op_for_operates values (Jump target) = refl
op_for_operates values (JumpIf c target r t) = refl
op_for_operates values Nothing = refl
op_for_operates values Dump = refl
op_for_operates values Text = refl
op_for_operates values (Data n) = refl
op_for_operates values (Long t) = refl
op_for_operates values (Bytes bytes) = refl
op_for_operates values Note = refl

-- the current block behind lines
abbrev pub behind : Current → List Line → Current
behind c [] = c
behind c (line ∷ lines) = behind (behind_statement (behind_labels c line.labels) line.statement) lines

labels_split : (c : Current) (before rest : List Line) → block_labels c (before ++ rest) ≡ block_labels c before ++ block_labels (behind c before) rest
labels_split c [] rest = refl
labels_split c (line ∷ before) rest =
    let here = behind_labels c line.labels in
    let names : List (List ℕ × ℕ) = map (λ name. (name, here.number)) line.labels in
    ap (λ ds. names ++ ds) (labels_split (behind_statement here line.statement) before rest)
    ∙ sym (append_assoc names (block_labels (behind_statement here line.statement) before) (block_labels (behind (behind_statement here line.statement) before) rest))

-- the number behind labels counts the block that they end
labels_count : (labels : List (List ℕ)) (c : Current) (ops : List Op) → c.has_operation ≡ is_filled ops → (behind_labels c labels).number ≡ c.number + length (ended_by labels ops)
labels_count [] c ops e = omega arith
labels_count (name ∷ names) c [] e = rw e (omega arith)
labels_count (name ∷ names) c (op ∷ ops) e = rw e refl

labels_keep : (labels : List (List ℕ)) (c : Current) (ops : List Op) → c.has_operation ≡ is_filled ops → (behind_labels c labels).has_operation ≡ is_filled (kept_by labels ops)
labels_keep [] c ops e = e
labels_keep (name ∷ names) c ops e = refl

pub filled_more : (ops : List Op) (op : Option Op) → is_filled (ops ++ option_to_list op) ≡ (is_filled ops || is_some op)
filled_more [] None = refl
filled_more [] (Some op) = refl
filled_more (x ∷ ops) op = refl

-- the number behind lines, and one where the current block has an operation, counts the blocks that they make
blocks_count : (op_of : Statement → Option Op) → Operates op_of → (lines : List Line) (c : Current) (ops : List Op) → c.has_operation ≡ is_filled ops
    → (behind c lines).number + one_if (behind c lines).has_operation ≡ c.number + length (blocks_from op_of ops lines)
blocks_count op_of own [] c [] e = rw e refl
blocks_count op_of own [] c (op ∷ ops) e = rw e refl
blocks_count op_of own (line ∷ lines) c ops e =
    let kept = kept_by line.labels ops in
    let here = behind_labels c line.labels in
    let number : here.number ≡ c.number + length (ended_by line.labels ops) = labels_count line.labels c ops e in
    let has : here.has_operation ≡ is_filled kept = labels_keep line.labels c ops e in
    by (ended_by line.labels ops) kept here c.number line.statement lines number has
    (λ d more f. blocks_count op_of own lines d more f) (own line.statement)
  where
    by : (ended : List (List Op)) (kept : List Op) (here : Current) (before : ℕ) (s : Statement) (lines : List Line) → here.number ≡ before + length ended → here.has_operation ≡ is_filled kept
        → ((d : Current) (more : List Op) → d.has_operation ≡ is_filled more → (behind d lines).number + one_if (behind d lines).has_operation ≡ d.number + length (blocks_from op_of more lines))
        → is_some (op_of s) ≡ is_operation s
        → (behind (behind_statement here s) lines).number + one_if (behind (behind_statement here s) lines).has_operation
        ≡ before + length (ended ++ (if is_jump s then (kept ++ option_to_list (op_of s)) ∷ [] else []) ++ blocks_from op_of (if is_jump s then [] else kept ++ option_to_list (op_of s)) lines)
    by ended kept here before s lines number has h own =
        elim (is_jump s) as (λ b.
        (behind (if b then record { number = here.number + 1; has_operation = false } else record { number = here.number; has_operation = here.has_operation || is_operation s }) lines).number
        + one_if (behind (if b then record { number = here.number + 1; has_operation = false } else record { number = here.number; has_operation = here.has_operation || is_operation s }) lines).has_operation
        ≡ before + length (ended ++ (if b then (kept ++ option_to_list (op_of s)) ∷ [] else []) ++ blocks_from op_of (if b then [] else kept ++ option_to_list (op_of s)) lines)) [
          | true ↦ h (record { number = here.number + 1; has_operation = false }) [] refl
              ∙ simp length-append (omega (arith, number))
          | false ↦ h (record { number = here.number; has_operation = here.has_operation || is_operation s }) (kept ++ option_to_list (op_of s))
              (rw (has, sym own) (sym (filled_more kept (op_of s))))
              ∙ simp length-append (omega (arith, number))
        ]

-- lines that begin with a label begin a block
pub blocks_split : (op_of : Statement → Option Op) (before after : List Line) (ops : List Op) (line : Line) (name : List ℕ) (names : List (List ℕ)) → line.labels ≡ name ∷ names
    → blocks_from op_of ops (before ++ line ∷ after) ≡ blocks_from op_of ops before ++ blocks_from op_of [] (line ∷ after)
blocks_split op_of [] after ops line name names e = rw e (simp append_assoc)
blocks_split op_of (first ∷ before) after ops line name names e =
    let grown = kept_by first.labels ops ++ option_to_list (op_of first.statement) in
    let ended = ended_by first.labels ops in
    let jumped : List (List Op) = if is_jump first.statement then grown ∷ [] else [] in
    let more : List Op = if is_jump first.statement then [] else grown in
    ap (λ bs. ended ++ jumped ++ bs) (blocks_split op_of before after more line name names e)
    ∙ simp append_assoc

-- the labels of a line stand for the number of blocks that the lines before it make
pub text_labels_name_what_follows : (op_of : Statement → Option Op) → Operates op_of → (before after : List Line) (line : Line) (name : List ℕ) (names : List (List ℕ)) → line.labels ≡ name ∷ names
    → block_labels first_block (before ++ line ∷ after)
    ≡ block_labels first_block before ++ (map (λ label. (label, length (blocks_from op_of [] before))) line.labels
    ++ block_labels (behind_statement (record { number = length (blocks_from op_of [] before); has_operation = false }) line.statement) after)
text_labels_name_what_follows op_of own before after line name names e =
    let c = behind first_block before in
    let number : (if c.has_operation then c.number + 1 else c.number) ≡ length (blocks_from op_of [] before) =
    counted c.has_operation c.number (length (blocks_from op_of [] before)) (blocks_count op_of own before first_block [] refl) in
    labels_split first_block before (line ∷ after)
    ∙ rw e (ap (λ n. block_labels first_block before ++ (map (λ label. (label, n)) (name ∷ names) ++ block_labels (behind_statement (record { number = n; has_operation = false }) line.statement) after)) number)
  where
    counted : (b : Bool) (n m : ℕ) → n + one_if b ≡ 0 + m → (if b then n + 1 else n) ≡ m
    counted true n m e = omega (arith, e)
    counted false n m e = omega (arith, e)

-- and the blocks from that number on are those that the line and the lines behind it make
pub text_blocks_follow : (op_of : Statement → Option Op) (before after : List Line) (line : Line) (name : List ℕ) (names : List (List ℕ)) → line.labels ≡ name ∷ names
    → blocks_from op_of [] (before ++ line ∷ after) ≡ blocks_from op_of [] before ++ blocks_from op_of [] (line ∷ after)
text_blocks_follow op_of before after line name names e = blocks_split op_of before after [] line name names e
