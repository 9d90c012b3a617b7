use Rattle.std.proofs.Common.{◌≡◌, ℕ, List, map, drop}
use Rattle.eir_text.specs.Names.{defined_after}
use Rattle.eir_text.specs.Reading.{texts, number_at}
use Rattle.eir_text.proofs.values.define.Given as goal

abbrev pub invariant-loop-label : goal.invariant-loop-label
invariant-loop-label l = (name : List ℕ)
    → defined_after (number_at l.numbers name) (map (λ label. (label, l.number)) (texts (drop l.label-index l.labels))) name
    ≡ defined_after (number_at l.fn.numbers name) (map (λ label. (label, l.number)) (texts l.labels)) name
