-- The lines of a printed text, each in its section.
use Rattle.std.proofs.Common.{◌≡◌, ℕ, ◌+◌, ◌^◌, Bool, true, false, if◌then◌else◌, ◌==◌, ◌&&◌, List, [], ◌∷◌, ◌++◌, map, IsTrue, refl, sym, ap, ◌∙◌, append_assoc, append-nil}
use Rattle.std.specs.Prelude.{codes, decimal}
use Rattle.std.specs.List.{flat_map, AllByRecursion}
use Rattle.std.proofs.lemmas.List.{map-append}
use Rattle.std.proofs.lemmas.Bool.{lt-ltb}
use Rattle.word24.specs.declared.word.Word.{Word}
use Rattle.eir_core.specs.declared.ops.Op.{Op}
use Rattle.eir_core.specs.declared.ops.Op.TheVariants as op
use Rattle.eir_core.specs.declared.ops.Operand.{Operand}
use Rattle.eir_core.specs.declared.ops.Operand.TheVariants as operand
use Rattle.eir_core.specs.Eir.{Eir}
use Rattle.eir_line.specs.Line.{Line, Nothing, Text, Data, term_fits, is_in_range}
use Rattle.eir_text.specs.declared.section.Section.{Section}
use Rattle.eir_text.specs.declared.section.Section.TheVariants as section
use Rattle.eir_text.specs.Names.{term_is_known, are_known, names_of}
use Rattle.eir_text.specs.Sections.{Placed, section_after, placed_from, may_stand, text_lines, data_lines}
use Rattle.eir_text.specs.Layout.{by_number, put_in, laid_out}
use Rattle.eir_text.specs.Spells.{words_for}
use Rattle.eir_print.proofs.Forms.{term_said, statement_said, saying, labelled}
use Rattle.eir_print.proofs.Said.{op_said, word_said, label_said, start_said, blocks_said, behind_said, data_said, text_said}
use Rattle.eir_print.proofs.Blocks.{wrapped_number}

-- what holds of each printed line

all_append : {X : Type 0} (P : X → Type 0) (xs ys : List X) → AllByRecursion P xs → AllByRecursion P ys → AllByRecursion P (xs ++ ys)
all_append P [] ys p q = q
all_append P (x ∷ xs) ys p q = (p.0, all_append P xs ys p.1 q)

all_map : {X Y : Type 0} (P : Y → Type 0) (f : X → Y) (xs : List X) → ((x : X) → P (f x)) → AllByRecursion P (map f xs)
all_map P f [] h = tt
all_map P f (x ∷ xs) h = (h x, all_map P f xs h)

-- a fact of printed lines of the text section, but for the line behind the blocks
pub record HoldsOfText (P : Line → Type 0) : Type 0 where
  pub label : (name : List ℕ) → P (labelled name)
  pub op : (o : Op) → P (op_said o)
  pub text : P (saying Text)

pub record HoldsOfData (P : Line → Type 0) : Type 0 where
  pub word : (w : Word) → P (word_said w)
  pub nothing : P (saying Nothing)

start_all : (P : Line → Type 0) (start k : ℕ) → HoldsOfText P → AllByRecursion P (start_said start k)
start_all P start k h = at (k == start) where
  at : (t : Bool) → AllByRecursion P (if t then labelled (codes "main") ∷ [] else [])
  at true = (h.label (codes "main"), tt)
  at false = tt

blocks_all : (P : Line → Type 0) (start k : ℕ) (blocks : List (List Op)) → HoldsOfText P → AllByRecursion P (blocks_said start k blocks)
blocks_all P start k [] h = start_all P start k h
blocks_all P start k (ops ∷ blocks) h =
    all_append P (start_said start k ++ label_said k ∷ map op_said ops) (blocks_said start (k + 1) blocks)
    (all_append P (start_said start k) (label_said k ∷ map op_said ops) (start_all P start k h) (h.label (codes "b" ++ decimal k), all_map P op_said ops h.op))
    (blocks_all P start (k + 1) blocks h)

data_all : (P : Line → Type 0) (words : List Word) → HoldsOfData P → AllByRecursion P (data_said words)
data_all P [] h = tt
data_all P (w ∷ words) h = all_append P (map word_said (w ∷ words)) (saying Nothing ∷ []) (all_map P word_said (w ∷ words) h.word) (h.nothing, tt)

text_all : (P : Line → Type 0) (p : Eir) → HoldsOfText P → P (behind_said p.words) → AllByRecursion P (text_said p)
text_all P p h b = (h.text, all_append P (blocks_said p.start 0 p.blocks) (behind_said p.words ∷ []) (blocks_all P p.start 0 p.blocks h) (b, tt))

-- the sections

abbrev pub in_section : Section → Line → Placed
in_section s line = record { section = s; line = line }

placed_kept : (s : Section) (ls more : List Line) → AllByRecursion (λ l. section_after s l.statement ≡ s) ls → placed_from s (ls ++ more) ≡ map (in_section s) ls ++ placed_from s more
placed_kept s [] more h = refl
placed_kept s (l ∷ ls) more h = ap (λ (x : List Placed). in_section s l ∷ x) (ap (λ t. placed_from t (ls ++ more)) h.0 ∙ placed_kept s ls more h.1)

op_stays : (o : Op) → section_after section.Text (statement_said o) ≡ section.Text
op_stays (op.Mov r v) = refl
op_stays (op.Add r v) = refl
op_stays (op.Sub r v) = refl
op_stays (op.Load r v) = refl
op_stays (op.Store r v) = refl
op_stays (op.Putc v) = refl
op_stays (op.Getc r) = refl
op_stays op.Exit = refl
op_stays (op.Set c r v) = refl
op_stays (op.Jump v) = refl
op_stays (op.JumpIf c w r v) = refl

text_stays : HoldsOfText (λ l. section_after section.Text l.statement ≡ section.Text)
text_stays = record { label = λ name. refl; op = op_stays; text = refl }

data_stays : HoldsOfData (λ l. section_after (section.Data 0) l.statement ≡ section.Data 0)
data_stays = record { word = λ w. refl; nothing = refl }

behind_placed : (words : List Word) → placed_from section.Text (behind_said words ∷ data_said words) ≡ in_section section.Text (behind_said words) ∷ map (in_section (section.Data 0)) (data_said words)
behind_placed [] = refl
behind_placed (w ∷ words) =
    let ds = data_said (w ∷ words) in
    let all : placed_from (section.Data 0) ds ≡ map (in_section (section.Data 0)) ds =
    ap (placed_from (section.Data 0)) (sym (append-nil ds)) ∙ (placed_kept (section.Data 0) ds [] (data_all _ (w ∷ words) data_stays) ∙ append-nil (map (in_section (section.Data 0)) ds)) in
    ap (λ (x : List Placed). in_section section.Text (saying (Data 0)) ∷ x) all

-- the lines of a printed text, each in its section
abbrev pub placed_said : Eir → List Placed
placed_said p = map (in_section section.Text) (text_said p) ++ map (in_section (section.Data 0)) (data_said p.words)

pub sections_again : (p : Eir) → placed_from section.Text (text_said p ++ data_said p.words) ≡ placed_said p
sections_again p =
    let bs = saying Text ∷ blocks_said p.start 0 p.blocks in
    let b = behind_said p.words in
    let ds = data_said p.words in
    let ps = map (in_section (section.Data 0)) ds in
    let here = in_section section.Text in
    let kept : AllByRecursion (λ l. section_after section.Text l.statement ≡ section.Text) bs = (refl, blocks_all _ p.start 0 p.blocks text_stays) in
    let e : (bs ++ b ∷ []) ++ ds ≡ bs ++ (b ∷ ds) = append_assoc bs (b ∷ []) ds in
    let f : map here bs ++ (here b ∷ ps) ≡ map here (bs ++ b ∷ []) ++ ps = sym (ap (λ (x : List Placed). x ++ ps) (map-append here bs (b ∷ [])) ∙ append_assoc (map here bs) (here b ∷ []) ps) in
    ap (placed_from section.Text) e ∙ (placed_kept section.Text bs (b ∷ ds) kept ∙ (ap (λ (x : List Placed). map here bs ++ x) (behind_placed p.words) ∙ f))

-- the lines of each section

text_first : (ls : List Line) (more : List Placed) → text_lines (map (in_section section.Text) ls ++ more) ≡ ls ++ text_lines more
text_first [] more = refl
text_first (l ∷ ls) more = ap (λ (x : List Line). l ∷ x) (text_first ls more)

no_text : (ls : List Line) → text_lines (map (in_section (section.Data 0)) ls) ≡ []
no_text [] = refl
no_text (l ∷ ls) = no_text ls

pub text_again : (p : Eir) → text_lines (placed_said p) ≡ text_said p
text_again p = text_first (text_said p) (map (in_section (section.Data 0)) (data_said p.words)) ∙ (ap (λ (x : List Line). text_said p ++ x) (no_text (data_said p.words)) ∙ append-nil (text_said p))

abbrev in_piece : Line → ℕ × Line
in_piece line = (0, line)

no_data : (ls : List Line) (more : List Placed) → data_lines (map (in_section section.Text) ls ++ more) ≡ data_lines more
no_data [] more = refl
no_data (l ∷ ls) more = no_data ls more

data_only : (ls : List Line) → data_lines (map (in_section (section.Data 0)) ls) ≡ map in_piece ls
data_only [] = refl
data_only (l ∷ ls) = ap (λ (x : List (ℕ × Line)). in_piece l ∷ x) (data_only ls)

put_first : (l : Line) (ls : List Line) → put_in (in_piece l) (map in_piece ls) ≡ in_piece l ∷ map in_piece ls
put_first l [] = refl
put_first l (m ∷ ls) = refl

sorted : (ls : List Line) → by_number (map in_piece ls) ≡ map in_piece ls
sorted [] = refl
sorted (l ∷ ls) = ap (put_in (in_piece l)) (sorted ls) ∙ put_first l ls

unnumbered : (ls : List Line) → map (λ x. x.1) (map in_piece ls) ≡ ls
unnumbered [] = refl
unnumbered (l ∷ ls) = ap (λ (x : List Line). l ∷ x) (unnumbered ls)

pub data_again : (p : Eir) → laid_out (data_lines (placed_said p)) ≡ data_said p.words
data_again p =
    let ds = data_said p.words in
    ap laid_out (no_data (text_said p) (map (in_section (section.Data 0)) ds) ∙ data_only ds) ∙ (ap (λ (x : List (ℕ × Line)). map (λ y. y.1) x) (sorted ds) ∙ unnumbered ds)

laid_words : (values : List ℕ → ℕ) (words : List Word) → flat_map (λ line. words_for values line.statement) (map word_said words ++ saying Nothing ∷ []) ≡ words
laid_words values [] = refl
laid_words values (w ∷ words) =
    ap (λ x. x ∷ flat_map (λ line. words_for values line.statement) (map word_said words ++ saying Nothing ∷ [])) (wrapped_number w)
    ∙ ap (λ (x : List Word). w ∷ x) (laid_words values words)

pub words_again : (values : List ℕ → ℕ) (words : List Word) → flat_map (λ line. words_for values line.statement) (data_said words) ≡ words
words_again values [] = refl
words_again values (w ∷ words) = laid_words values (w ∷ words)

pub lines_again : (p : Eir) → map (λ l. l.line) (placed_said p) ≡ text_said p ++ data_said p.words
lines_again p =
    let ts = map (in_section section.Text) (text_said p) in
    let ds = map (in_section (section.Data 0)) (data_said p.words) in
    map-append (λ (l : Placed). l.line) ts ds
    ∙ (ap (λ (x : List Line). x ++ map (λ l. l.line) ds) (line_of section.Text (text_said p)) ∙ ap (λ (x : List Line). text_said p ++ x) (line_of (section.Data 0) (data_said p.words))) where
      line_of : (s : Section) (ls : List Line) → map (λ l. l.line) (map (in_section s) ls) ≡ ls
      line_of s [] = refl
      line_of s (l ∷ ls) = ap (λ (x : List Line). l ∷ x) (line_of s ls)

pub data_unnamed : (words : List Word) → names_of (data_said words) ≡ []
data_unnamed [] = refl
data_unnamed (w ∷ words) = none (w ∷ words) where
  none : (ws : List Word) → names_of (map word_said ws ++ saying Nothing ∷ []) ≡ []
  none [] = refl
  none (v ∷ ws) = none ws

-- each line may stand where it does, has numbers in range, and uses no label

all_placed : (P : Placed → Type 0) (s : Section) (ls : List Line) → AllByRecursion (λ l. P (in_section s l)) ls → AllByRecursion P (map (in_section s) ls)
all_placed P s [] h = tt
all_placed P s (l ∷ ls) h = (h.0, all_placed P s ls h.1)

pub all_lines : (P : Placed → Type 0) (p : Eir) → HoldsOfText (λ l. P (in_section section.Text l)) → P (in_section section.Text (saying Nothing)) → P (in_section section.Text (saying (Data 0)))
    → HoldsOfData (λ l. P (in_section (section.Data 0) l)) → AllByRecursion P (placed_said p)
all_lines P p h nothing header d =
    all_append P (map (in_section section.Text) (text_said p)) (map (in_section (section.Data 0)) (data_said p.words))
    (all_placed P section.Text (text_said p) (text_all _ p h (behind p.words)))
    (all_placed P (section.Data 0) (data_said p.words) (data_all _ p.words d)) where
      behind : (words : List Word) → P (in_section section.Text (behind_said words))
      behind [] = nothing
      behind (w ∷ words) = header

pub all_may_stand : (p : Eir) → AllByRecursion (λ l. IsTrue (may_stand l.section l.line.statement)) (placed_said p)
all_may_stand p = all_lines (λ l. IsTrue (may_stand l.section l.line.statement)) p (record { label = λ name. refl; op = stands; text = refl }) refl refl (record { word = λ w. refl; nothing = refl }) where
  stands : (o : Op) → may_stand section.Text (statement_said o) ≡ true
  stands (op.Mov r v) = refl
  stands (op.Add r v) = refl
  stands (op.Sub r v) = refl
  stands (op.Load r v) = refl
  stands (op.Store r v) = refl
  stands (op.Putc v) = refl
  stands (op.Getc r) = refl
  stands op.Exit = refl
  stands (op.Set c r v) = refl
  stands (op.Jump v) = refl
  stands (op.JumpIf c w r v) = refl

and_true : (a b : Bool) → a ≡ true → b ≡ true → (a && b) ≡ true
and_true a b p q = ap (λ t. t && b) p ∙ q

operand_fits : (v : Operand) → term_fits (term_said v) ≡ true
operand_fits (operand.Reg r) = refl
operand_fits (operand.Imm w) = lt-ltb w.value (2 ^ 24) w.in_range

pub all_in_range : (p : Eir) → AllByRecursion (λ l. IsTrue (is_in_range l.line.statement)) (placed_said p)
all_in_range p = all_lines (λ l. IsTrue (is_in_range l.line.statement)) p (record { label = λ name. refl; op = fits; text = refl }) refl refl (record { word = λ w. and_true _ true (operand_fits (operand.Imm w)) refl; nothing = refl }) where
  fits : (o : Op) → is_in_range (statement_said o) ≡ true
  fits (op.Mov r v) = and_true _ true (operand_fits v) refl
  fits (op.Add r v) = and_true _ true (operand_fits v) refl
  fits (op.Sub r v) = and_true _ true (operand_fits v) refl
  fits (op.Load r v) = and_true _ true (operand_fits v) refl
  fits (op.Store r v) = and_true _ true (operand_fits v) refl
  fits (op.Putc v) = and_true _ true (operand_fits v) refl
  fits (op.Getc r) = refl
  fits op.Exit = refl
  fits (op.Set c r v) = and_true _ true (operand_fits v) refl
  fits (op.Jump v) = and_true _ true (operand_fits v) refl
  fits (op.JumpIf c w r v) = and_true _ _ (operand_fits w) (and_true _ true (operand_fits v) refl)

operand_known : (names : List (List ℕ)) (v : Operand) → term_is_known names (term_said v) ≡ true
operand_known names (operand.Reg r) = refl
operand_known names (operand.Imm w) = refl

pub all_known : (names : List (List ℕ)) (p : Eir) → AllByRecursion (λ l. IsTrue (are_known names l.line.statement)) (placed_said p)
all_known names p = all_lines (λ l. IsTrue (are_known names l.line.statement)) p (record { label = λ name. refl; op = known; text = refl }) refl refl (record { word = λ w. refl; nothing = refl }) where
  known : (o : Op) → are_known names (statement_said o) ≡ true
  known (op.Mov r v) = and_true _ true (operand_known names v) refl
  known (op.Add r v) = and_true _ true (operand_known names v) refl
  known (op.Sub r v) = and_true _ true (operand_known names v) refl
  known (op.Load r v) = and_true _ true (operand_known names v) refl
  known (op.Store r v) = and_true _ true (operand_known names v) refl
  known (op.Putc v) = and_true _ true (operand_known names v) refl
  known (op.Getc r) = refl
  known op.Exit = refl
  known (op.Set c r v) = and_true _ true (operand_known names v) refl
  known (op.Jump v) = and_true _ true (operand_known names v) refl
  known (op.JumpIf c w r v) = and_true _ _ (operand_known names w) (and_true _ true (operand_known names v) refl)
