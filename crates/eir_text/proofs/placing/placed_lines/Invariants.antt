use Rattle.std.proofs.Common.{◌≡◌, ◌+◌, ◌++◌, map, drop, vec_len}
use Rattle.std.specs.List.{filter_map}
use Rattle.eir_line.specs.Grammar.{form_of}
use Rattle.eir_text.specs.declared.section.Section.TheVariants as section
use Rattle.eir_text.specs.Sections.{placed_from}
use Rattle.eir_text.specs.Refusals.{lines_refusal}
use Rattle.eir_text.specs.Reading.{texts, places}
use Rattle.eir_text.proofs.placing.placed_lines.Given as goal

abbrev pub invariant-loop-i : goal.invariant-loop-i
invariant-loop-i l = record {
  count : vec_len l.found ≡ l.i;
  places : places l.found.items ++ placed_from l.section (filter_map form_of (texts (drop l.i l.lines))) ≡ placed_from section.Text (filter_map form_of (texts l.lines));
  refusal : lines_refusal l.section (l.i + 1) (map form_of (texts (drop l.i l.lines))) ≡ lines_refusal section.Text 1 (map form_of (texts l.lines));
}
