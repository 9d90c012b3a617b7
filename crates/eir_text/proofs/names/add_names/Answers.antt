use Rattle.std.proofs.Common.{◌≡◌, ◌<◌, List, [], ◌++◌, ℕ, Bor, length, get_or, drop, sym, ap, ◌∙◌, arith, append-nil}
use Rattle.eir_text.specs.Names.{is_among, repeats}
use Rattle.eir_text.specs.Reading.{texts}
use Rattle.eir_text.proofs.Steps.{drop_here, drop_end}
use Rattle.eir_text.proofs.NameLemmas.{labels_step}
use Rattle.eir_text.proofs.names.add_names.Goals as goal

pub loop-name-preserved : goal.loop-name-preserved
loop-name-preserved c = λ before h.
    let k : Bor (List ℕ) = get_or c.args.labels.now c.loop-name.name-index (record { ref_ptr = (0, 0); now = [] }) in
    let inside : c.loop-name.name-index < length c.args.labels.now = omega arith in
    labels_step c.args.labels.now c.loop-name.name-index k c.loop-name.names.keys c.insert.new.self.keys c.loop-name.again c.in_ok-again.field-0 (before ++ texts c.args.labels.now) (repeats before (texts c.args.labels.now))
    (drop_here c.args.labels.now c.loop-name.name-index (record { ref_ptr = (0, 0); now = [] }) inside) c.in_ok-again.ensures.keys c.in_ok-again.ensures.added (c.loop-name.invariant before h)

pub returns-clause-holds : goal.returns-clause-holds
returns-clause-holds c = λ before h name.
    let s = c.loop-name.invariant before h in
    let all : c.loop-name.name-index ≡ length c.args.labels.now = omega arith in
    let none : drop c.loop-name.name-index c.args.labels.now ≡ [] = ap (λ i. drop i c.args.labels.now) all ∙ drop_end c.args.labels.now in
    let now : s.0 ≡ before ++ texts c.args.labels.now = sym (append-nil s.0) ∙ (ap (λ ls. s.0 ++ texts ls) (sym none) ∙ s.2) in
    s.1 name ∙ ap (λ names. is_among names name) now
