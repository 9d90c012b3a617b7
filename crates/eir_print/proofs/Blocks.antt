-- The blocks of a printed text.
use Rattle.std.proofs.Common.{◌≡◌, ℕ, ◌+◌, ◌^◌, ◌%◌, ◌<◌, Bool, true, false, if◌then◌else◌, ◌==◌, List, [], ◌∷◌, ◌++◌, map, Some, refl, sym, ap, subst, ◌∙◌, append_assoc, append-nil, arith}
use Rattle.std.specs.Prelude.{codes}
use Rattle.std.specs.List.{AllByRecursion}
use Rattle.std.proofs.Props.{props}
use Rattle.std.specs.Option.{option_to_list}
use Rattle.word24.specs.declared.word.Word.{Word}
use Rattle.word24.specs.Word.{number_of}
use Rattle.eir_core.specs.declared.ops.Op.{Op}
use Rattle.eir_core.specs.declared.ops.Op.TheVariants as op
use Rattle.eir_core.specs.declared.ops.Operand.{Operand}
use Rattle.eir_core.specs.declared.ops.Operand.TheVariants as operand
use Rattle.eir_core.specs.Eir.{is_jump, has_jump_inside}
use Rattle.eir_line.specs.Line.{Line}
use Rattle.eir_text.specs.Sections as sections
use Rattle.eir_text.specs.Blocks.{filled, blocks_from}
use Rattle.eir_text.specs.Spells.{wrapped, operand_for, op_for}
use Rattle.eir_print.proofs.Forms.{term_said, statement_said, labelled}
use Rattle.eir_print.proofs.Said.{op_said, label_said, start_said, blocks_said, behind_said}
use Rattle.eir_print.proofs.Goodness.{IsGood, no_jump_first}

word : (n : ℕ) → n < 2 ^ 24 → Word
word n h = record { value = n; in_range = h }

small_once : (n : ℕ) → IsProp (n < 2 ^ 24)
small_once n = hlevel props

by_value : (n m : ℕ) → n ≡ m → (h : n < 2 ^ 24) (k : m < 2 ^ 24) → word n h ≡ word m k
by_value n m e h = subst (λ m. (k : m < 2 ^ 24) → word n h ≡ word m k) e (λ k. ap (word n) (small_once n h k))

pub wrapped_number : (w : Word) → wrapped (number_of w) ≡ w
unfolding word
wrapped_number w = let e : number_of w % 2 ^ 24 ≡ w.value = omega arith in by_value (number_of w % 2 ^ 24) w.value e (wrapped (number_of w)).in_range w.in_range

operand_again : (values : List ℕ → ℕ) (v : Operand) → operand_for values (term_said v) ≡ v
operand_again values (operand.Reg r) = refl
operand_again values (operand.Imm w) = ap operand.Imm (wrapped_number w)

-- an operation's statement stands for it
op_again : (values : List ℕ → ℕ) (o : Op) → op_for values (statement_said o) ≡ Some o
op_again values (op.Mov r v) = ap (λ x. Some (op.Mov r x)) (operand_again values v)
op_again values (op.Add r v) = ap (λ x. Some (op.Add r x)) (operand_again values v)
op_again values (op.Sub r v) = ap (λ x. Some (op.Sub r x)) (operand_again values v)
op_again values (op.Load r v) = ap (λ x. Some (op.Load r x)) (operand_again values v)
op_again values (op.Store r v) = ap (λ x. Some (op.Store r x)) (operand_again values v)
op_again values (op.Putc v) = ap (λ x. Some (op.Putc x)) (operand_again values v)
op_again values (op.Getc r) = refl
op_again values op.Exit = refl
op_again values (op.Set c r v) = ap (λ x. Some (op.Set c r x)) (operand_again values v)
op_again values (op.Jump v) = ap (λ x. Some (op.Jump x)) (operand_again values v)
op_again values (op.JumpIf c w r v) = ap (λ x. Some (op.JumpIf c x r (operand_for values (term_said v)))) (operand_again values w) ∙ ap (λ x. Some (op.JumpIf c w r x)) (operand_again values v)

pub same_jump : (o : Op) → sections.is_jump (statement_said o) ≡ is_jump o
same_jump (op.Mov r v) = refl
same_jump (op.Add r v) = refl
same_jump (op.Sub r v) = refl
same_jump (op.Load r v) = refl
same_jump (op.Store r v) = refl
same_jump (op.Putc v) = refl
same_jump (op.Getc r) = refl
same_jump op.Exit = refl
same_jump (op.Set c r v) = refl
same_jump (op.Jump v) = refl
same_jump (op.JumpIf c w r v) = refl

filled_push : (acc : List Op) (o : Op) → filled (acc ++ o ∷ []) ≡ (acc ++ o ∷ []) ∷ []
filled_push [] o = refl
filled_push (a ∷ acc) o = refl

-- lines that end the block before them
Ends : (List ℕ → ℕ) → List Line → Type 0
Ends values rest = (ops : List Op) → blocks_from (op_for values) ops rest ≡ filled ops ++ blocks_from (op_for values) [] rest

-- one operation more, in front of other lines
one_op : (values : List ℕ → ℕ) (acc : List Op) (o : Op) (rest : List Line)
    → blocks_from (op_for values) acc (op_said o ∷ rest) ≡ (if is_jump o then (acc ++ o ∷ []) ∷ [] else []) ++ blocks_from (op_for values) (if is_jump o then [] else acc ++ o ∷ []) rest
one_op values acc o rest =
    ap (λ x. (if sections.is_jump (statement_said o) then (acc ++ option_to_list x) ∷ [] else []) ++ blocks_from (op_for values) (if sections.is_jump (statement_said o) then [] else acc ++ option_to_list x) rest) (op_again values o)
    ∙ ap (λ t. (if t then (acc ++ o ∷ []) ∷ [] else []) ++ blocks_from (op_for values) (if t then [] else acc ++ o ∷ []) rest) (same_jump o)

-- the operations of a block, in front of lines that end it
block_again : (values : List ℕ → ℕ) (acc : List Op) (o : Op) (more : List Op) (rest : List Line) → has_jump_inside (o ∷ more) ≡ false → Ends values rest
    → blocks_from (op_for values) acc (map op_said (o ∷ more) ++ rest) ≡ (acc ++ o ∷ more) ∷ blocks_from (op_for values) [] rest
unfolding Ends
block_again values acc o [] rest good ends = one_op values acc o rest ∙ at (is_jump o) where
  at : (t : Bool) → (if t then (acc ++ o ∷ []) ∷ [] else []) ++ blocks_from (op_for values) (if t then [] else acc ++ o ∷ []) rest ≡ (acc ++ o ∷ []) ∷ blocks_from (op_for values) [] rest
  at true = refl
  at false = ends (acc ++ o ∷ []) ∙ ap (λ (x : List (List Op)). x ++ blocks_from (op_for values) [] rest) (filled_push acc o)
block_again values acc o (m ∷ ms) rest good ends =
    let k = no_jump_first o m ms good in
    one_op values acc o (map op_said (m ∷ ms) ++ rest)
    ∙ ap (λ t. (if t then (acc ++ o ∷ []) ∷ [] else []) ++ blocks_from (op_for values) (if t then [] else acc ++ o ∷ []) (map op_said (m ∷ ms) ++ rest)) k.0
    ∙ block_again values (acc ++ o ∷ []) m ms rest k.1 ends
    ∙ ap (λ (x : List Op). x ∷ blocks_from (op_for values) [] rest) (append_assoc acc (o ∷ []) (m ∷ ms))

-- the line behind the blocks ends them
behind_again : (values : List ℕ → ℕ) (words : List Word) (ops : List Op) → blocks_from (op_for values) ops (behind_said words ∷ []) ≡ filled ops ++ []
behind_again values [] ops = ap filled (append-nil ops) ∙ sym (append-nil (filled ops))
behind_again values (w ∷ words) ops = ap filled (append-nil ops) ∙ sym (append-nil (filled ops))

-- the start's label ends a block, where a label stands behind it or the blocks end
start_again : (values : List ℕ → ℕ) (start k : ℕ) (ops : List Op) (rest : List Line) → Ends values rest → blocks_from (op_for values) ops (start_said start k ++ rest) ≡ filled ops ++ blocks_from (op_for values) [] rest
unfolding Ends
start_again values start k ops rest ends = at (k == start) where
  at : (t : Bool) → blocks_from (op_for values) ops ((if t then labelled (codes "main") ∷ [] else []) ++ rest) ≡ filled ops ++ blocks_from (op_for values) [] rest
  at true = ap (λ (x : List (List Op)). x ++ blocks_from (op_for values) [] rest) (append-nil (filled ops))
  at false = ends ops

behind_ends : (values : List ℕ → ℕ) (words : List Word) → Ends values (behind_said words ∷ [])
unfolding Ends
behind_ends values words ops = behind_again values words ops ∙ ap (λ (x : List (List Op)). filled ops ++ x) (sym (behind_again values words []))

-- the blocks of the lines of blocks
pub blocks_again : (values : List ℕ → ℕ) (start k : ℕ) (blocks : List (List Op)) (words : List Word) (ops : List Op) → AllByRecursion IsGood blocks
    → blocks_from (op_for values) ops (blocks_said start k blocks ++ behind_said words ∷ []) ≡ filled ops ++ blocks
unfolding Ends
blocks_again values start k [] words ops good = start_again values start k ops (behind_said words ∷ []) (behind_ends values words) ∙ ap (λ (x : List (List Op)). filled ops ++ x) (behind_again values words [])
blocks_again values start k ([] ∷ blocks) words ops good = absurd (let e : true ≡ false = good.0.0 in cc)
blocks_again values start k ((o ∷ more) ∷ blocks) words ops good =
    let rest = blocks_said start (k + 1) blocks ++ behind_said words ∷ [] in
    let none : blocks_from (op_for values) [] rest ≡ blocks = blocks_again values start (k + 1) blocks words [] good.1 in
    let ends : Ends values rest = λ (os : List Op). blocks_again values start (k + 1) blocks words os good.1 ∙ ap (λ (x : List (List Op)). filled os ++ x) (sym none) in
    let body = map op_said (o ∷ more) ++ rest in
    let labels : Ends values (label_said k ∷ body) = λ (os : List Op). ap (λ (x : List (List Op)). x ++ blocks_from (op_for values) [] body) (append-nil (filled os)) in
    let whole : blocks_from (op_for values) [] body ≡ (o ∷ more) ∷ blocks = block_again values [] o more rest good.0.1 ends ∙ ap (λ (x : List (List Op)). (o ∷ more) ∷ x) none in
    let e : ((start_said start k ++ label_said k ∷ map op_said (o ∷ more)) ++ blocks_said start (k + 1) blocks) ++ behind_said words ∷ [] ≡ start_said start k ++ (label_said k ∷ body) = simp append_assoc in
    ap (blocks_from (op_for values) ops) e ∙ (start_again values start k ops (label_said k ∷ body) labels ∙ ap (λ (x : List (List Op)). filled ops ++ x) whole)
