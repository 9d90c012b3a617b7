-- The labels of a printed text.
use Rattle.std.proofs.Common.{◌≡◌, ℕ, ◌+◌, ◌^◌, ◌<◌, ◌≤◌, Bool, true, false, if◌then◌else◌, ◌==◌, ◌||◌, ⊎_elim, List, [], ◌∷◌, ◌++◌, map, drop, length, Option, Some, refl, ap, ◌∙◌, append_assoc, append-nil, arith}
use Rattle.std.specs.Prelude.{codes, decimal}
use Rattle.std.specs.List.{AllByRecursion}
use Rattle.std.specs.Str.{bytes_eq}
use Rattle.std.specs.Cmp.Lexicographic.{bytes_decides}
use Rattle.std.proofs.lemmas.Bool.{eq-eqb}
use Rattle.std.proofs.lemmas.Bool.Decides.{eqb_tells}
use Rattle.std.proofs.lemmas.Fmt.{decimal_injective}
use Rattle.std.proofs.lemmas.List.{map-append}
use Rattle.std.proofs.lemmas.List.Recursion.{or_push}
use Rattle.word24.specs.declared.word.Word.{Word}
use Rattle.eir_core.specs.declared.ops.Op.{Op}
use Rattle.eir_core.specs.declared.ops.Op.TheVariants as op
use Rattle.eir_core.specs.Eir.{has_jump_inside}
use Rattle.eir_line.specs.Line.{Line}
use Rattle.eir_text.specs.Names.{defined_after, is_among, names_of, repeats}
use Rattle.eir_text.specs.Sections as sections
use Rattle.eir_text.specs.Blocks.{Current, behind_labels, behind_statement, block_labels}
use Rattle.eir_print.proofs.Forms.{statement_said, labelled}
use Rattle.eir_print.proofs.Said.{op_said, label_said, start_said, blocks_said, behind_said}
use Rattle.eir_print.proofs.Goodness.{IsGood, no_jump_first}
use Rattle.eir_print.proofs.Blocks.{same_jump}

abbrev main : List ℕ
main = codes "main"

abbrev name_of : ℕ → List ℕ
name_of k = codes "b" ++ decimal k

abbrev defines : List ℕ → ℕ → List ℕ × ℕ
defines name k = (name, k)

-- the labels of blocks, with their values
abbrev pub start_labels : ℕ → ℕ → List (List ℕ × ℕ)
start_labels start k = if k == start then defines main k ∷ [] else []

abbrev pub blocks_labels : ℕ → ℕ → List (List Op) → List (List ℕ × ℕ)
blocks_labels start k [] = start_labels start k
blocks_labels start k (ops ∷ blocks) = start_labels start k ++ defines (name_of k) k ∷ blocks_labels start (k + 1) blocks

-- a label that stands here has this value
abbrev pub IsAt : Current → ℕ → Type 0
IsAt c k = (if c.has_operation then c.number + 1 else c.number) ≡ k

abbrev begun : ℕ → Bool → Current
begun k b = record { number = k; has_operation = b }

label_step : (c : Current) (k : ℕ) (name : List ℕ) (rest : List Line) → IsAt c k → block_labels c (labelled name ∷ rest) ≡ defines name k ∷ block_labels (begun k false) rest
label_step c k name rest h = ap (λ n. defines name n ∷ block_labels (begun n false) rest) h

start_step : (c : Current) (start k : ℕ) (rest : List Line) (labels : List (List ℕ × ℕ)) → IsAt c k → ((d : Current) → IsAt d k → block_labels d rest ≡ labels) → block_labels c (start_said start k ++ rest) ≡ start_labels start k ++ labels
start_step c start k rest labels h more = at (k == start) where
  at : (t : Bool) → block_labels c ((if t then labelled main ∷ [] else []) ++ rest) ≡ (if t then defines main k ∷ [] else []) ++ labels
  at true = label_step c k main rest h ∙ ap (λ (x : List (List ℕ × ℕ)). defines main k ∷ x) (more (begun k false) refl)
  at false = more c h

rises : (k : ℕ) (b : Bool) → (if b || true then k + 1 else k) ≡ k + 1
rises k true = refl
rises k false = refl

-- behind an operation the next label's value is one more
op_at : (k : ℕ) (b : Bool) (o : Op) → IsAt (behind_statement (begun k b) (statement_said o)) (k + 1)
op_at k b (op.Mov r v) = rises k b
op_at k b (op.Add r v) = rises k b
op_at k b (op.Sub r v) = rises k b
op_at k b (op.Load r v) = rises k b
op_at k b (op.Store r v) = rises k b
op_at k b (op.Putc v) = rises k b
op_at k b (op.Getc r) = rises k b
op_at k b op.Exit = rises k b
op_at k b (op.Set c r v) = rises k b
op_at k b (op.Jump v) = refl
op_at k b (op.JumpIf c w r v) = refl

ops_step : (k : ℕ) (b : Bool) (o : Op) (more : List Op) (rest : List Line) (labels : List (List ℕ × ℕ)) → has_jump_inside (o ∷ more) ≡ false → ((d : Current) → IsAt d (k + 1) → block_labels d rest ≡ labels)
    → block_labels (begun k b) (map op_said (o ∷ more) ++ rest) ≡ labels
ops_step k b o [] rest labels good next = next (behind_statement (begun k b) (statement_said o)) (op_at k b o)
ops_step k b o (m ∷ ms) rest labels good next =
    let j = no_jump_first o m ms good in
    ap (λ t. block_labels (if t then begun (k + 1) false else begun k (b || sections.is_operation (statement_said o))) (map op_said (m ∷ ms) ++ rest)) (same_jump o ∙ j.0)
    ∙ ops_step k (b || sections.is_operation (statement_said o)) m ms rest labels j.1 next

unlabelled : (words : List Word) (c : Current) → block_labels c (behind_said words ∷ []) ≡ []
unlabelled [] c = refl
unlabelled (w ∷ words) c = refl

-- the labels of the lines of blocks
pub labels_again : (start k : ℕ) (blocks : List (List Op)) (words : List Word) (c : Current) → IsAt c k → AllByRecursion IsGood blocks → block_labels c (blocks_said start k blocks ++ behind_said words ∷ []) ≡ blocks_labels start k blocks
labels_again start k [] words c h good = start_step c start k (behind_said words ∷ []) [] h (λ d e. unlabelled words d) ∙ append-nil (start_labels start k)
labels_again start k ([] ∷ blocks) words c h good = absurd (let e : true ≡ false = good.0.0 in cc)
labels_again start k ((o ∷ more) ∷ blocks) words c h good =
    let rest = blocks_said start (k + 1) blocks ++ behind_said words ∷ [] in
    let body = map op_said (o ∷ more) ++ rest in
    let labels = blocks_labels start (k + 1) blocks in
    let e : ((start_said start k ++ label_said k ∷ map op_said (o ∷ more)) ++ blocks_said start (k + 1) blocks) ++ behind_said words ∷ [] ≡ start_said start k ++ (label_said k ∷ body) = simp append_assoc in
    ap (block_labels c) e
    ∙ start_step c start k (label_said k ∷ body) (defines (name_of k) k ∷ labels) h (λ d f. label_step d k (name_of k) body f
    ∙ ap (λ (x : List (List ℕ × ℕ)). defines (name_of k) k ∷ x) (ops_step k false o more rest labels good.0.1 (λ d f. labels_again start (k + 1) blocks words d f good.1)))

-- what `main` is defined as

differs : (a b : ℕ) → (a ≡ b → ⊥) → (a == b) ≡ false
differs a b ne = ⊎_elim (λ h. absurd (ne h.1)) (λ h. h.0) (eqb_tells a b)

past_start : (start k : ℕ) (blocks : List (List Op)) (found : Option ℕ) → start < k → defined_after found (blocks_labels start k blocks) main ≡ found
past_start start k [] found h = ap (λ t. defined_after found (if t then defines main k ∷ [] else []) main) (differs k start (λ e. omega arith))
past_start start k (ops ∷ blocks) found h =
    ap (λ t. defined_after found ((if t then defines main k ∷ [] else []) ++ defines (name_of k) k ∷ blocks_labels start (k + 1) blocks) main) (differs k start (λ e. omega arith))
    ∙ past_start start (k + 1) blocks found (omega arith)

pub start_defined : (start k : ℕ) (blocks : List (List Op)) (found : Option ℕ) → k ≤ start → start ≤ k + length blocks → defined_after found (blocks_labels start k blocks) main ≡ Some start
start_defined start k [] found low high =
    let e : k ≡ start = omega arith in
    ap (λ t. defined_after found (if t then defines main k ∷ [] else []) main) (eq-eqb k start e) ∙ ap (λ n. Some n) e
start_defined start k (ops ∷ blocks) found low high =
    let rest = defines (name_of k) k ∷ blocks_labels start (k + 1) blocks in
    ⊎_elim
    (λ h. ap (λ t. defined_after found ((if t then defines main k ∷ [] else []) ++ rest) main) h.0 ∙ (past_start start (k + 1) blocks (Some k) (omega (arith, h.1)) ∙ ap (λ n. Some n) h.1))
    (λ h. ap (λ t. defined_after found ((if t then defines main k ∷ [] else []) ++ rest) main) h.0 ∙ start_defined start (k + 1) blocks found (above k start low h.1) (omega arith))
    (eqb_tells k start) where
      above : (a b : ℕ) → a ≤ b → (a ≡ b → ⊥) → a + 1 ≤ b
      above a b le ne = omega (arith, ne)

-- the names that lines define are those of their labels
named_at : (n : ℕ) (names : List (List ℕ)) → map (λ d. d.0) (map (λ name. defines name n) names) ≡ names
named_at n [] = refl
named_at n (name ∷ names) = ap (λ (x : List (List ℕ)). name ∷ x) (named_at n names)

pub names_labelled : (c : Current) (lines : List Line) → map (λ d. d.0) (block_labels c lines) ≡ names_of lines
names_labelled c [] = refl
names_labelled c (line ∷ lines) =
    let here = behind_labels c line.labels in
    map-append (λ (d : List ℕ × ℕ). d.0) (map (λ name. defines name here.number) line.labels) (block_labels (behind_statement here line.statement) lines)
    ∙ (ap (λ (x : List (List ℕ)). x ++ map (λ d. d.0) (block_labels (behind_statement here line.statement) lines)) (named_at here.number line.labels)
    ∙ ap (λ (x : List (List ℕ)). line.labels ++ x) (names_labelled (behind_statement here line.statement) lines))

-- no name stands twice

other_name : (j k : ℕ) → j < 2 ^ 64 → k < 2 ^ 64 → (j ≡ k → ⊥) → bytes_eq (name_of j) (name_of k) ≡ false
other_name j k p q ne = at (bytes_eq (name_of j) (name_of k)) refl where
  at : (t : Bool) → bytes_eq (name_of j) (name_of k) ≡ t → bytes_eq (name_of j) (name_of k) ≡ false
  at false e = e
  at true e = absurd (ne (decimal_injective j k p q (ap (drop 1) ((bytes_decides (name_of j) (name_of k)).0 e))))

among_more : (before : List (List ℕ)) (x name : List ℕ) → is_among before name ≡ false → bytes_eq name x ≡ false → is_among (before ++ x ∷ []) name ≡ false
among_more before x name p q =
    or_push (λ names. is_among names name) (λ other. bytes_eq name other) refl (λ _ _. refl) before x
    ∙ (ap (λ t. t || bytes_eq name x) p ∙ q)

neither : (a b : Bool) → a ≡ false → b ≡ false → (a || b) ≡ false
neither a b p q = ap (λ t. t || b) p ∙ q

-- the names before block k: `main` isn't among them if the start is still to come, nor is the name of a block to come
abbrev IsFresh : ℕ → ℕ → List (List ℕ) → Type 0
IsFresh start k before = (k ≤ start → is_among before main ≡ false) × ((j : ℕ) → k ≤ j → j < 2 ^ 64 → is_among before (name_of j) ≡ false)

names_from : ℕ → ℕ → List (List Op) → List (List ℕ)
names_from start k blocks = map (λ d. d.0) (blocks_labels start k blocks)

with_block : (start k : ℕ) (before names : List (List ℕ)) → k < 2 ^ 64 → (k + 1 ≤ start → is_among before main ≡ false) → ((j : ℕ) → k ≤ j → j < 2 ^ 64 → is_among before (name_of j) ≡ false)
    → ((all : List (List ℕ)) → IsFresh start (k + 1) all → repeats all names ≡ false) → repeats before (name_of k ∷ names) ≡ false
with_block start k before names small no_main no_block more = neither (is_among before (name_of k)) (repeats (before ++ name_of k ∷ []) names) (no_block k (omega arith) small)
    (more (before ++ name_of k ∷ []) (λ le. among_more before (name_of k) main (no_main le) refl, λ j le lt. among_more before (name_of k) (name_of j) (no_block j (omega arith) lt) (other_name j k lt small (λ e. omega arith))))

pub names_differ : (start k : ℕ) (blocks : List (List Op)) (before : List (List ℕ)) → k + length blocks < 2 ^ 64 → IsFresh start k before → repeats before (map (λ d. d.0) (blocks_labels start k blocks)) ≡ false
names_differ start k [] before small fresh = ⊎_elim
    (λ h. ap (λ t. repeats before (map (λ d. d.0) (if t then defines main k ∷ [] else []))) h.0 ∙ neither (is_among before main) false (fresh.0 (omega (arith, h.1))) refl)
    (λ h. ap (λ t. repeats before (map (λ d. d.0) (if t then defines main k ∷ [] else []))) h.0)
    (eqb_tells k start)
names_differ start k (ops ∷ blocks) before small fresh =
    let names = map (λ (d : List ℕ × ℕ). d.0) (blocks_labels start (k + 1) blocks) in
    let more : (all : List (List ℕ)) → IsFresh start (k + 1) all → repeats all names ≡ false = λ all f. names_differ start (k + 1) blocks all (omega arith) f in
    let fits : k < 2 ^ 64 = omega arith in
    ⊎_elim
    (λ h. ap (λ t. repeats before (map (λ d. d.0) ((if t then defines main k ∷ [] else []) ++ defines (name_of k) k ∷ blocks_labels start (k + 1) blocks))) h.0
    ∙ neither (is_among before main) (repeats (before ++ main ∷ []) (name_of k ∷ names)) (fresh.0 (omega (arith, h.1)))
    (with_block start k (before ++ main ∷ []) names fits (λ le. absurd (omega (arith, h.1))) (λ j le lt. among_more before main (name_of j) (fresh.1 j le lt) refl) more))
    (λ h. ap (λ t. repeats before (map (λ d. d.0) ((if t then defines main k ∷ [] else []) ++ defines (name_of k) k ∷ blocks_labels start (k + 1) blocks))) h.0
    ∙ with_block start k before names fits (λ le. fresh.0 (omega arith)) fresh.1 more)
    (eqb_tells k start)
