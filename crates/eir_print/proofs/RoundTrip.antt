-- A printed text spells the program.
use Rattle.std.proofs.Common.{◌≡◌, ℕ, ◌^◌, ◌<◌, false, List, [], ◌∷◌, ◌++◌, map, length, None, IsSome, IsTrue, unwrap_or, refl, sym, ap, subst, ◌∙◌, append-nil, arith}
use Rattle.std.specs.Prelude.{codes}
use Rattle.std.specs.List.{filter_map, flat_map, AllByRecursion}
use Rattle.std.proofs.lemmas.Grind.{flat_map-append}
use Rattle.word24.specs.declared.word.Word.{Word}
use Rattle.eir_core.specs.declared.ops.Op.{Op}
use Rattle.eir_core.specs.Eir.{Eir, IsEir}
use Rattle.eir_line.specs.Line.{Line, is_in_range}
use Rattle.eir_line.specs.Grammar.{form_of}
use Rattle.eir_text.specs.declared.section.Section.TheVariants as section
use Rattle.eir_text.specs.Names.{names_of, defined, repeats, are_known}
use Rattle.eir_text.specs.Sections as sections
use Rattle.eir_text.specs.Sections.{Placed, placed_from, placed_of, may_stand, text_lines, data_lines}
use Rattle.eir_text.specs.Blocks.{first_block, block_labels, blocks_from}
use Rattle.eir_text.specs.Layout.{laid_out}
use Rattle.eir_text.specs.Spells.{op_for, words_for, name_value, program_said, all_names, Spells}
use Rattle.eir_print.specs.Printed.{lines_of, printed}
use Rattle.eir_print.proofs.LineForms.{Reads-formed, Reads-forms, lines_split}
use Rattle.eir_print.proofs.Said.{text_said, data_said, program_read}
use Rattle.eir_print.proofs.Goodness.{all_good}
use Rattle.eir_print.proofs.Blocks.{blocks_again}
use Rattle.eir_print.proofs.Labels.{blocks_labels, labels_again, start_defined, names_labelled, names_differ}
use Rattle.eir_print.proofs.Placing.{placed_said, sections_again, text_again, data_again, words_again, lines_again, data_unnamed, all_may_stand, all_in_range, all_known}

few_blocks : (p : Eir) → IsEir p → length p.blocks < 2 ^ 64
few_blocks p h = omega (arith, h.size)

lines_printed : (p : Eir) → IsEir p → sections.lines_of (printed p) ≡ lines_of p ++ [] ∷ []
lines_printed p h = lines_split (lines_of p) ([] ∷ []) (text_said p ++ data_said p.words) (program_read p (few_blocks p h))

placed_printed : (p : Eir) → IsEir p → placed_of (printed p) ≡ placed_said p
placed_printed p h =
    ap (λ ts. placed_from section.Text (filter_map form_of ts)) (lines_printed p h)
    ∙ (ap (placed_from section.Text) (Reads-forms (lines_of p ++ [] ∷ []) (text_said p ++ data_said p.words) (program_read p (few_blocks p h))) ∙ sections_again p)

labels_printed : (p : Eir) → IsEir p → block_labels first_block (text_said p) ≡ blocks_labels p.start 0 p.blocks
labels_printed p h = labels_again p.start 0 p.blocks p.words first_block refl (all_good p h)

distinct : (p : Eir) → IsEir p → repeats [] (all_names (placed_said p)) ≡ false
distinct p h =
    let e : all_names (placed_said p) ≡ map (λ d. d.0) (blocks_labels p.start 0 p.blocks) =
    ap names_of (lines_again p)
    ∙ (flat_map-append (λ (line : Line). line.labels) (text_said p) (data_said p.words)
    ∙ (ap (λ (x : List (List ℕ)). names_of (text_said p) ++ x) (data_unnamed p.words)
    ∙ (append-nil (names_of (text_said p))
    ∙ (sym (names_labelled first_block (text_said p)) ∙ ap (λ ds. map (λ d. d.0) ds) (labels_printed p h))))) in
    let few = few_blocks p h in
    ap (repeats []) e ∙ names_differ p.start 0 p.blocks [] (omega arith) (λ le. refl, λ j le lt. refl)

program_of_parts : List (List Op) → List Word → ℕ → Eir
program_of_parts blocks words start = record { blocks = blocks; words = words; start = start }

same_parts : (bs cs : List (List Op)) (ws vs : List Word) (s t : ℕ) → bs ≡ cs → ws ≡ vs → s ≡ t → program_of_parts bs ws s ≡ program_of_parts cs vs t
same_parts bs cs ws vs s t p q r = ap (λ x. program_of_parts x ws s) p ∙ (ap (λ x. program_of_parts cs x s) q ∙ ap (λ x. program_of_parts cs vs x) r)

program_again : (p : Eir) → IsEir p → p ≡ program_said (placed_said p)
unfolding program_of_parts
program_again p h =
    let placed = placed_said p in
    let values = name_value placed in
    let blocks : blocks_from (op_for values) [] (text_lines placed) ≡ p.blocks = ap (blocks_from (op_for values) []) (text_again p) ∙ blocks_again values p.start 0 p.blocks p.words [] (all_good p h) in
    let words : flat_map (λ line. words_for values line.statement) (laid_out (data_lines placed)) ≡ p.words = ap (flat_map (λ line. words_for values line.statement)) (data_again p) ∙ words_again values p.words in
    let start : unwrap_or (defined (block_labels first_block (text_lines placed)) (codes "main")) 0 ≡ p.start =
    ap (λ ls. unwrap_or (defined (block_labels first_block ls) (codes "main")) 0) (text_again p)
    ∙ (ap (λ ds. unwrap_or (defined ds (codes "main")) 0) (labels_printed p h)
    ∙ ap (λ o. unwrap_or o 0) (start_defined p.start 0 p.blocks None (omega arith) (omega (arith, h.start)))) in
    sym (same_parts (blocks_from (op_for values) [] (text_lines placed)) p.blocks (flat_map (λ line. words_for values line.statement) (laid_out (data_lines placed))) p.words
    (unwrap_or (defined (block_labels first_block (text_lines placed)) (codes "main")) 0) p.start blocks words start)

pub printed_spells : (p : Eir) → IsEir p → Spells (printed p) p
printed_spells p h =
    let e = sym (placed_printed p h) in
    record {
      formed = subst (λ ts. AllByRecursion (λ line. IsSome (form_of line)) ts) (sym (lines_printed p h)) (Reads-formed (lines_of p ++ [] ∷ []) (text_said p ++ data_said p.words) (program_read p (few_blocks p h)));
      placed = subst (λ ps. AllByRecursion (λ l. IsTrue (may_stand l.section l.line.statement)) ps) e (all_may_stand p);
      in_range = subst (λ ps. AllByRecursion (λ l. IsTrue (is_in_range l.line.statement)) ps) e (all_in_range p);
      distinct = subst (λ ps. repeats [] (all_names ps) ≡ false) e (distinct p h);
      known = subst (λ ps. AllByRecursion (λ l. IsTrue (are_known (all_names ps) l.line.statement)) ps) e (all_known (all_names (placed_said p)) p);
      program = subst (λ ps. p ≡ program_said ps) e (program_again p h);
    }
