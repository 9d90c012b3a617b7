use Rattle.std.proofs.Common.{List, ◌++◌, [], ◌∷◌, sym, ap, subst, ◌∙◌, if◌then◌else◌, ℕ, ◌≡◌}
use Rattle.std.specs.Option.{option_map}
use Rattle.c_syntax.specs.Plain as tree
use Rattle.c_syntax.specs.View.{expr_of}
use Rattle.c_types.specs.Known.{OneType}
use Rattle.c_eval.specs.Eval.{array_text}
use Rattle.c_eval.specs.LiteralsIn.{literals_in}
use Rattle.c_code.specs.Code as code
use Rattle.c_code.specs.Code.{value_code, first_code}
use Rattle.c_emitted.specs.Emits.{Emits}
use Rattle.c_emitted.proofs.EmitLemmas.{on_ok, both, later}
use Rattle.c_static.proofs.StringLemmas.{taken_by, not_taken_by, taken_literal}
use Rattle.c_flat.proofs.values.fill_one.Goals as goal

pub returns-in_ok-spell-in-Some-clause-emits : goal.returns-in_ok-spell-in-Some-clause-emits
returns-in_ok-spell-in-Some-clause-emits c = λ t site env has here fit.
    let e = expr_of c.args.e.now in
    let slot = c.args.slot in
    let k = c.args.offset in
    let p = taken_by t e c.in-Some.bytes.items (sym (ap (option_map (λ v. v.items)) c.in-Some.is) ∙ c.in_ok-text.ensures t has) in
    let l = taken_literal t e p.taken in
    let a = c.args.out.now in
    let b = c.pass_literal.new.out in
    let used : List code.Instruction = (value_code e site env ++ code.Use ∷ []) ++ code.First slot k t ∷ [] in
    let is : code.Spell slot k c.as_slice.result.now ∷ [] ≡ first_code (tree.One e) t slot k site env =
    ap (λ (ws : List ℕ). code.Spell slot k ws ∷ []) (c.as_slice.ensures.value ∙ p.bytes_are) ∙ sym (ap (λ x. if x then code.Spell slot k (array_text t e) ∷ [] else used) p.taken) in
    on_ok c.pass_literal.result (λ passed.
    subst (λ (ls : List (List ℕ)). Emits a b (first_code (tree.One e) t slot k site env) ls) (sym (l.literals env.scope))
    (subst (λ (is : List code.Instruction). Emits a b is (l.text ∷ [])) is (both c.in_ok-spell-in-Some.ensures passed))) (c.pass_literal.ensures l.text)

pub returns-in_ok-_judged-in-None-clause-emits : goal.returns-in_ok-_judged-in-None-clause-emits
returns-in_ok-_judged-in-None-clause-emits c = λ t site env has here fit.
    let e = expr_of c.args.e.now in
    let slot = c.args.slot in
    let k = c.args.offset in
    let none = not_taken_by t e (sym (ap (option_map (λ v. v.items)) c.in-None.is) ∙ c.in_ok-text.ensures t has) in
    let a = c.args.out.now in
    let b = c.first_cell.new.out in
    let used : List code.Instruction = (value_code e site env ++ code.Use ∷ []) ++ code.First slot k t ∷ [] in
    let is : used ≡ first_code (tree.One e) t slot k site env = sym (ap (λ x. if x then code.Spell slot k (array_text t e) ∷ [] else used) none) in
    on_ok c.first_cell.result (λ first.
    subst (λ (is : List code.Instruction). Emits a b is (literals_in env.scope e)) is (later (c.in_ok-_judged-in-None.ensures.emits site env here fit) first)) (c.first_cell.ensures t (c.in_ok-_judged-in-None.ensures.grows c.args.ty (OneType t) has))
