use Rattle.std.proofs.Common.{◌≡◌, ℕ, ◌+◌, Bool, List, ◌++◌, length, sym, ap, ◌∙◌, append-nil, add-zero, if◌then◌else◌}
use Rattle.std.specs.Option.{option_map}
use Rattle.eir_core.specs.declared.ops.Op.{Op}
use Rattle.c_syntax.specs.Plain as tree
use Rattle.c_syntax.specs.View.{expr_of}
use Rattle.c_eval.specs.Eval.{array_text}
use Rattle.c_lowered.specs.Locations.{Framed}
use Rattle.c_lowered.specs.Operations.{store_to}
use Rattle.c_lowered.specs.Counts.{expr_jumps}
use Rattle.c_lowered.specs.Expressions.{value_code}
use Rattle.c_lowered.specs.Statements.{spelled, first_code}
use Rattle.c_static.proofs.StringLemmas.{taken_by, not_taken_by, taken_literal}
use Rattle.c_addressing.proofs.HereLemmas.{both, as_code}
use Rattle.c_applied.proofs.LeadsLemmas.{as_count, as_lead, leads, leads_piece, kept, keeps_then, same_number, told_block}
use Rattle.c_lower_values.proofs.FirstLemmas.{taken_jumps}
use Rattle.c_lower_values.proofs.values.fill_one.Goals as goal

pub returns-in_ok-spell-in-Some-clause-code : goal.returns-in_ok-spell-in-Some-clause-code
returns-in_ok-spell-in-Some-clause-code c = λ t place has hp w env m n is hk hd.
    let e = expr_of c.args.e.now in
    let p = taken_by t e c.in-Some.bytes.items (sym (ap (option_map (λ v. v.items)) c.in-Some.is) ∙ c.in_ok-text.ensures t has) in
    let l = taken_literal t e p.taken in
    let used : List Op = value_code e w env m n ++ store_to (Framed place) in
    let code : spelled c.as_slice.result.now place ≡ first_code (tree.One e) t place w env m n =
    ap (λ (ws : List ℕ). spelled ws place) (c.as_slice.ensures.value ∙ p.bytes_are) ∙ sym (ap (λ (x : Bool). if x then spelled (array_text t e) place else used) p.taken) in
    let passed = c.pass.ensures.passed 1 (record { next = c.behind-left.ensures.next; end = c.behind-left.ensures.end }) in
    let emits = as_code (append-nil (spelled c.as_slice.result.now place) ∙ code) (both (c.in_ok-spell-in-Some.ensures place hp) passed) in
    let none : m ≡ m + expr_jumps e = sym (ap (λ (j : ℕ). m + j) (taken_jumps t e p.taken) ∙ add-zero m) in
    leads (as_count (sym (ap (λ (ls : List (List ℕ)). length ls) (l.literals env.scope))) emits) (told_block none hk)

pub returns-in_ok-spell-in-Some-clause-keeps : goal.returns-in_ok-spell-in-Some-clause-keeps
returns-in_ok-spell-in-Some-clause-keeps c = keeps_then (kept (c.in_ok-spell-in-Some.ensures c.args.at (same_number c.args.at))) c.pass.ensures.keeps

pub returns-in_ok-store-in-None-clause-code : goal.returns-in_ok-store-in-None-clause-code
returns-in_ok-store-in-None-clause-code c = λ t place has hp w env m n is hk hd.
    let e = expr_of c.args.e.now in
    let none = not_taken_by t e (sym (ap (option_map (λ v. v.items)) c.in-None.is) ∙ c.in_ok-text.ensures t has) in
    let used : List Op = value_code e w env m n ++ store_to (Framed place) in
    let code : used ≡ first_code (tree.One e) t place w env m n = sym (ap (λ (x : Bool). if x then spelled (array_text t e) place else used) none) in
    as_lead code (leads_piece (c.in_ok-behind-in-None.ensures.code w env m n is hk hd) (c.in_ok-store-in-None.ensures (Framed place) hp))

pub returns-in_ok-store-in-None-clause-keeps : goal.returns-in_ok-store-in-None-clause-keeps
returns-in_ok-store-in-None-clause-keeps c = keeps_then c.in_ok-behind-in-None.ensures.keeps (kept (c.in_ok-store-in-None.ensures (Framed c.args.at) (same_number c.args.at)))
