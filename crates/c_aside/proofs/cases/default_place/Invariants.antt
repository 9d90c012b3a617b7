use Rattle.std.proofs.Common.{◌≡◌, drop}
use Rattle.c_eval.specs.Environment.{Default}
use Rattle.c_code.specs.Code.{label_place}
use Rattle.c_aside.specs.Cases.{labels_of}
use Rattle.c_aside.proofs.cases.default_place.Given as goal

abbrev pub invariant-loop-label : goal.invariant-loop-label
invariant-loop-label l = label_place Default (labels_of (drop l.label-index l.labels)) l.past ≡ label_place Default (labels_of l.labels) l.past
