use Rattle.std.proofs.Common.{◌≡◌, ◌+◌, List, drop, sym, ap, ◌∙◌}
use Rattle.std.specs.Prelude.{Option}
use Rattle.std.specs.Option.{option_map}
use Rattle.std.proofs.lemmas.List.{drop_all}
use Rattle.word24.specs.Word.{number_of}
use Rattle.c_eval.specs.Environment.{Default}
use Rattle.c_code.specs.Code.{label_place}
use Rattle.c_aside.specs.declared.cases.Label.{Label}
use Rattle.c_aside.specs.Cases.{labels_of}
use Rattle.c_aside.proofs.AsideLemmas.{drop_at}
use Rattle.c_aside.proofs.CaseLemmas.{case_passed, default_found, case_word}
use Rattle.c_aside.proofs.cases.default_place.Goals as goal

pub loop-label-preserved : goal.loop-label-preserved
loop-label-preserved c =
    let l = c.loop-label in
    let ls = c.args.labels.now in
    let label = c.label-item.result in
    let cut = drop_at ls l.label-index label c.loop-label-test.true c.label-item.is in
    sym (ap (λ (x : List Label). label_place Default (labels_of x) c.args.past) cut ∙ case_passed (option_map number_of label.word) label.at c.args.past (labels_of (drop (l.label-index + 1) ls)) (case_word label.word ∙ c.if-is_none.ensures)) ∙ l.invariant

pub returns-then-is_none : goal.returns-then-is_none
returns-then-is_none c =
    let l = c.loop-label in
    let ls = c.args.labels.now in
    let label = c.label-item.result in
    let cut = drop_at ls l.label-index label c.loop-label-test.true c.label-item.is in
    default_found (option_map number_of label.word) label.at c.args.past (labels_of (drop (l.label-index + 1) ls)) (case_word label.word ∙ c.if-is_none.ensures) ∙ (sym (ap (λ (x : List Label). label_place Default (labels_of x) c.args.past) cut) ∙ l.invariant)

pub returns : goal.returns
returns c =
    let l = c.loop-label in
    let ls = c.args.labels.now in
    sym (ap (λ (x : List Label). label_place Default (labels_of x) c.args.past) (drop_all l.label-index ls c.loop-label-test.false)) ∙ l.invariant
