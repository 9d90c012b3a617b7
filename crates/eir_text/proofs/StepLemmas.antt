-- Steps of the loops over lines, labels and bytes.
use Rattle.std.proofs.Common.{◌≡◌, ℕ, ◌+◌, List, [], ◌∷◌, ◌++◌, Option, map, drop, sym, ap, ◌∙◌, append_assoc}
use Rattle.std.proofs.lemmas.List.Sums.{sum_by-cons}
use denote.Ref.{Bor}
use Rattle.word24.specs.declared.word.Word.{Word}
use Rattle.eir_line.specs.Reading.{line_of, statement_of}
use Rattle.eir_text.specs.declared.lines.PlacedLine.{PlacedLine}
use Rattle.eir_text.specs.declared.section.Section.{Section}
use Rattle.eir_text.specs.declared.section.Section.TheVariants as section
use Rattle.eir_text.specs.Names.{defined_after}
use Rattle.eir_text.specs.Sections.{Placed, text_lines}
use Rattle.eir_text.specs.Blocks.{Current, behind_labels, behind_statement, block_labels}
use Rattle.eir_text.specs.Layout.{word_count, data_end, data_labels}
use Rattle.eir_text.specs.Spells.{wrapped}
use Rattle.eir_text.specs.Reading.{texts, place_of, piece_lines}
use Rattle.eir_text.proofs.NameLemmas.{defined_after-append}

-- a line of the text section among the lines of it
pub text_line : (l : PlacedLine) (rest : List Placed) → l.section ≡ section.Text → text_lines (place_of l ∷ rest) ≡ line_of l.line ∷ text_lines rest
text_line l rest e = ap (λ (s : Section). text_lines (record { section = s; line = line_of l.line } ∷ rest)) e

pub line_defined : (l : PlacedLine) (rest : List Placed) (name : List ℕ) (block here after : Current) (old new : Option ℕ)
    → l.section ≡ section.Text → here ≡ behind_labels block (texts l.line.labels.items) → after ≡ behind_statement here (statement_of l.line.statement)
    → new ≡ defined_after old (map (λ label. (label, here.number)) (texts l.line.labels.items)) name
    → defined_after new (block_labels after (text_lines rest)) name ≡ defined_after old (block_labels block (text_lines (place_of l ∷ rest))) name
line_defined l rest name block here after old new in_text is_here is_after is_new =
    let names = texts l.line.labels.items in
    let s = statement_of l.line.statement in
    ap (λ o. defined_after o (block_labels after (text_lines rest)) name) is_new
    ∙ (ap (λ (a : Current). defined_after (defined_after old (map (λ label. (label, here.number)) names) name) (block_labels a (text_lines rest)) name) is_after
    ∙ (ap (λ (h : Current). defined_after (defined_after old (map (λ label. (label, h.number)) names) name) (block_labels (behind_statement h s) (text_lines rest)) name) is_here
    ∙ (sym (defined_after-append old (map (λ label. (label, (behind_labels block names).number)) names) (block_labels (behind_statement (behind_labels block names) s) (text_lines rest)) name)
    ∙ sym (ap (λ ls. defined_after old (block_labels block ls) name) (text_line l rest in_text)))))

pub data_defined : (ps : List (ℕ × Bor PlacedLine)) (i : ℕ) (x : ℕ × Bor PlacedLine) (address behind : ℕ) (name : List ℕ) (old new r : Option ℕ)
    → drop i ps ≡ x ∷ drop (i + 1) ps → behind ≡ address + word_count (statement_of x.1.now.line.statement)
    → new ≡ defined_after old (map (λ label. (label, address)) (texts x.1.now.line.labels.items)) name
    → defined_after old (data_labels address (piece_lines (drop i ps))) name ≡ r
    → defined_after new (data_labels behind (piece_lines (drop (i + 1) ps))) name ≡ r
data_defined ps i x address behind name old new r left is_behind is_new h =
    let names = texts x.1.now.line.labels.items in
    let s = statement_of x.1.now.line.statement in
    ap (λ o. defined_after o (data_labels behind (piece_lines (drop (i + 1) ps))) name) is_new
    ∙ (ap (λ a. defined_after (defined_after old (map (λ label. (label, address)) names) name) (data_labels a (piece_lines (drop (i + 1) ps))) name) is_behind
    ∙ (sym (defined_after-append old (map (λ label. (label, address)) names) (data_labels (address + word_count s) (piece_lines (drop (i + 1) ps))) name)
    ∙ (ap (λ ls. defined_after old (data_labels address (piece_lines ls)) name) (sym left) ∙ h)))

pub data_ends : (ps : List (ℕ × Bor PlacedLine)) (i : ℕ) (x : ℕ × Bor PlacedLine) → drop i ps ≡ x ∷ drop (i + 1) ps
    → data_end (piece_lines (drop i ps)) ≡ word_count (statement_of x.1.now.line.statement) + data_end (piece_lines (drop (i + 1) ps))
data_ends ps i x left = ap (λ ls. data_end (piece_lines ls)) left ∙ sum_by-cons (λ line. word_count line.statement) (line_of x.1.now.line) (piece_lines (drop (i + 1) ps))

pub bytes_step : (bs : List ℕ) (i b : ℕ) (old new r : List Word) → drop i bs ≡ b ∷ drop (i + 1) bs → new ≡ old ++ wrapped b ∷ []
    → old ++ map wrapped (drop i bs) ≡ r → new ++ map wrapped (drop (i + 1) bs) ≡ r
bytes_step bs i b old new r left is_new h =
    ap (λ ws. ws ++ map wrapped (drop (i + 1) bs)) is_new
    ∙ (append_assoc old (wrapped b ∷ []) (map wrapped (drop (i + 1) bs)) ∙ (ap (λ xs. old ++ map wrapped xs) (sym left) ∙ h))
