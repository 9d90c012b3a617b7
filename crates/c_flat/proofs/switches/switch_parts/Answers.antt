use Rattle.std.proofs.Common.{◌≡◌, ◌+◌, ℕ, List, [], length, refl, sym, ap, ap₂, subst, ◌∙◌}
use Rattle.c_eval.specs.Environment.{Default}
use Rattle.c_code.specs.Code as code
use Rattle.c_code.specs.Code.{label_place}
use Rattle.c_plain.specs.declared.instruction.Instruction.TheVariants as plain
use Rattle.c_emitted.specs.Emits.{Emits}
use Rattle.c_emitted.proofs.EmitLemmas.{on_ok, both, meant_later}
use Rattle.c_aside.specs.Cases.{labels_of}
use Rattle.c_aside.proofs.AsideLemmas.{appended}
use Rattle.c_flat.specs.Switches.{jumps_to}
use Rattle.c_flat.proofs.switches.switch_parts.Goals as goal

pub returns : goal.returns
returns c = λ is cells count made long same many.
    let labels = labels_of c.args.labels.now in
    let target = label_place Default labels (length is) in
    let jumps = jumps_to labels (length is) in
    let size : c.count-length.result ≡ length is = c.count-length.ensures ∙ long in
    let past : c.default_place-past.result ≡ target = c.default_place-past.ensures ∙ ap (λ (n : ℕ). label_place Default labels n) size in
    let all : c.in_ok-all.all ≡ length jumps + length is + 3 = c.in_ok-all.ensures ∙ ap₂ (λ (m n : ℕ). m + n + 3) (c.in_ok-jumps.ensures target) size in
    let switches = c.in_ok-add.ensures (code.Switch (length jumps + length is + 3)) (record { means = λ names p e. ap plain.Switch all }) in
    let enters = c.in_ok-enter_objects.ensures cells count same many in
    let goes : Emits c.enter_objects.new.out c.case_jumps.new.out jumps [] = subst (λ (n : ℕ). Emits c.enter_objects.new.out c.case_jumps.new.out (code.case_jumps labels n) []) past c.in_ok-case_jumps.ensures in
    let before = both switches (both enters goes) in
    let parts = appended long (meant_later before.tables made) c.in_ok-append.ensures in
    let leaves = c.in_ok-add-2.ensures code.Leave (record { means = λ names p e. refl }) in
    on_ok c.add-3.result (λ d. both switches (both enters (both goes (both parts (both leaves d))))) (c.add-3.ensures code.Done (record { means = λ names p e. refl }))
