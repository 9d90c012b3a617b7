-- Laws of texts, of the lines in them and of what they say.
use Rattle.std.specs.Prelude.{◌≡◌, ℕ, ◌+◌, ◌^◌, length, ◌<◌, ◌≤◌, Bool, true, false, ◌||◌, ◌==◌, List, [], ◌∷◌, ◌++◌, map, drop, filter, Option, Some, None}
use Rattle.std.specs.Option.{option_to_list}
use Rattle.std.specs.List.{AllByRecursion, list_any, flat_map, join_with_byte}
use Rattle.word24.specs.declared.word.Word.{Word}
use Rattle.eir_core.specs.declared.ops.Op.{Op}
use Rattle.eir_core.specs.Eir.{Eir, IsEir, size_of}
use Rattle.eir_line.specs.Line.{Line, Statement}
use Rattle.eir_text.specs.declared.fault.EirFault.TheVariants.{TooLarge}
use Rattle.eir_text.specs.Sections.{Placed, lines_of, placed_of, is_jump, is_operation}
use Rattle.eir_text.specs.Layout.{by_number, word_count, data_end, data_labels}
use Rattle.eir_text.specs.Names.{repeats, defined}
use Rattle.eir_text.specs.Blocks.{first_block, behind_statement, block_labels, blocks_from}
use Rattle.eir_text.specs.Spells.{op_for, words_for, program_said, Spells, refusal_of}

-- a text spells one program at most
abbrev pub TextsSpellOnce : Type 0
TextsSpellOnce = (text : List ℕ) (p q : Eir) → Spells text p → Spells text q → p ≡ q

-- a text is refused just where it spells no program or one that is too large
pub record RefusalsAreExact : Type 0 where
  pub unrefused : (text : List ℕ) → refusal_of text ≡ None → Spells text (program_said (placed_of text)) × (size_of (program_said (placed_of text)) ≤ 2 ^ 21)
  pub small : (text : List ℕ) (p : Eir) → Spells text p → size_of p ≤ 2 ^ 21 → refusal_of text ≡ None
  pub large : (text : List ℕ) (p : Eir) → Spells text p → 2 ^ 21 < size_of p → refusal_of text ≡ Some TooLarge

-- whatever lines say is a program, unless it is too large
abbrev pub LinesSayPrograms : Type 0
LinesSayPrograms = (placed : List Placed) → size_of (program_said placed) ≤ 2 ^ 21 → IsEir (program_said placed)

-- joined by line feeds the lines are the text, and no line holds one
pub record LinesMakeTheText : Type 0 where
  pub joined : (text : List ℕ) → join_with_byte 10 (lines_of text) ≡ text
  pub apart : (text : List ℕ) → AllByRecursion (λ line. list_any (λ b. b == 10) line ≡ false) (lines_of text)

-- no number is above one that stands behind it
abbrev pub Rise : List (ℕ × Line) → Type 0
Rise [] = Unit {0}
Rise (x ∷ xs) = AllByRecursion (λ y. x.0 ≤ y.0) xs × Rise xs

-- pieces are laid out by rising number, and the lines of each piece as they stand in the file
pub record PiecesAreLaidOut : Type 0 where
  pub rising : (lines : List (ℕ × Line)) → Rise (by_number lines)
  pub order : (lines : List (ℕ × Line)) (piece : ℕ) → filter (λ x. piece == x.0) (by_number lines) ≡ filter (λ x. piece == x.0) lines

-- the words that lines lay out, where names have these values
abbrev pub words_laid : (List ℕ → ℕ) → List Line → List Word
words_laid values lines = flat_map (λ line. words_for values line.statement) lines

-- a line's labels stand for the address of what the line and those behind it lay out
pub record DataLabelsNameWhatFollows : Type 0 where
  pub labels : (before after : List Line) (line : Line)
      → data_labels 0 (before ++ line ∷ after) ≡ data_labels 0 before ++ (map (λ name. (name, data_end before)) line.labels ++ data_labels (data_end before + word_count line.statement) after)
  pub words : (values : List ℕ → ℕ) (before after : List Line) (line : Line) → drop (data_end before) (words_laid values (before ++ line ∷ after)) ≡ words_laid values (line ∷ after)

-- a text label stands for the number of the block that follows it
pub record TextLabelsNameWhatFollows : Type 0 where
  pub labels : (values : List ℕ → ℕ) (before after : List Line) (line : Line) (name : List ℕ) (names : List (List ℕ)) → line.labels ≡ name ∷ names
      → let count = length (blocks_from (op_for values) [] before) in
      block_labels first_block (before ++ line ∷ after)
      ≡ block_labels first_block before ++ (map (λ label. (label, count)) line.labels ++ block_labels (behind_statement (record { number = count; has_operation = false }) line.statement) after)
  pub blocks : (values : List ℕ → ℕ) (before after : List Line) (line : Line) (name : List ℕ) (names : List (List ℕ)) → line.labels ≡ name ∷ names
      → blocks_from (op_for values) [] (before ++ line ∷ after) ≡ blocks_from (op_for values) [] before ++ blocks_from (op_for values) [] (line ∷ after)

-- the operations of lines, in order
abbrev pub operations_of : (Statement → Option Op) → List Line → List Op
operations_of op_of lines = flat_map (λ line. option_to_list (op_of line.statement)) lines

abbrev pub is_labelled : List (List ℕ) → Bool
is_labelled [] = false
is_labelled (name ∷ names) = true

-- whether a block ends between a line's operation and the next one, where these lines reach up to that one: behind a jump or at a label
abbrev pub ends_block : Line → List Line → Bool
ends_block line next = is_jump line.statement || list_any (λ (l : Line). is_labelled l.labels) next

-- the blocks of lines, where the last block of those in front and the first block of those behind are one
pub record Joined (front behind whole : List (List Op)) : Type 0 where
  pub init : List (List Op)
  pub last : List Op
  pub first : List Op
  pub rest : List (List Op)
  pub in_front : front ≡ init ++ last ∷ []
  pub behind_it : behind ≡ first ∷ rest
  pub as_one : whole ≡ init ++ (last ++ first) ∷ rest

-- blocks hold the operations of the lines in order, and one ends just where a label or a jump stands between an operation and the next
pub record BlocksEndAtLabelsAndJumps : Type 0 where
  pub operations : (values : List ℕ → ℕ) (lines : List Line) → flat_map (λ (block : List Op). block) (blocks_from (op_for values) [] lines) ≡ operations_of (op_for values) lines
  pub filled : (values : List ℕ → ℕ) (lines : List Line) → AllByRecursion (λ block. 0 < length block) (blocks_from (op_for values) [] lines)
  pub apart : (values : List ℕ → ℕ) (before between after : List Line) (x y : Line)
      → is_operation x.statement ≡ true → AllByRecursion (λ (l : Line). is_operation l.statement ≡ false) between → is_operation y.statement ≡ true
      → ends_block x (between ++ y ∷ []) ≡ true
      → blocks_from (op_for values) [] (before ++ x ∷ (between ++ y ∷ after)) ≡ blocks_from (op_for values) [] (before ++ x ∷ []) ++ blocks_from (op_for values) [] (y ∷ after)
  pub together : (values : List ℕ → ℕ) (before between after : List Line) (x y : Line)
      → is_operation x.statement ≡ true → AllByRecursion (λ (l : Line). is_operation l.statement ≡ false) between → is_operation y.statement ≡ true
      → ends_block x (between ++ y ∷ []) ≡ false
      → Joined (blocks_from (op_for values) [] (before ++ x ∷ [])) (blocks_from (op_for values) [] (y ∷ after)) (blocks_from (op_for values) [] (before ++ x ∷ (between ++ y ∷ after)))

-- where no name is defined twice, each definition gives its name its value
abbrev pub EachDefinitionCounts : Type 0
EachDefinitionCounts = (before after : List (List ℕ × ℕ)) (d : List ℕ × ℕ) → repeats [] (map (λ (e : List ℕ × ℕ). e.0) (before ++ d ∷ after)) ≡ false → defined (before ++ d ∷ after) d.0 ≡ Some d.1
