use Rattle.std.proofs.Common.{◌≡◌, ℕ, ◌+◌, ◌++◌, Bool, true, false, not, ◌||◌, List, [], ◌∷◌, length, refl, sym, ap, subst, ◌∙◌, append_assoc, append-nil, arith, if◌then◌else◌}
use Rattle.std.specs.Prelude.{Option, Some, None, OnOk, IfOk}
use Rattle.c_applied.specs.Pieces as pieces
use Rattle.c_syntax.specs.View.{expr_of}
use Rattle.c_syntax.specs.declared.tree.UnOp.{UnOp}
use Rattle.c_eval.specs.Environment.{value_type_in}
use Rattle.c_addressing.specs.Here.{Emits}
use Rattle.c_addressing.proofs.HereLemmas.{as_code}
use Rattle.c_applied.proofs.LeadsLemmas.{nothing, keeps_none, piece_then, kept, keeps_then}
use Rattle.c_applied.proofs.PieceLemmas.{target_fetched}
use Rattle.c_applied.proofs.places.after_value.Goals as goal

pub returns-in_ok-put_fetched_target-in-Deref-clause-code : goal.returns-in_ok-put_fetched_target-in-Deref-clause-code
returns-in_ok-put_fetched_target-in-Deref-clause-code c = λ s h. subst (λ (o : UnOp). Emits c.args.out.now c.put_fetched_target.new.out (pieces.after_code o (value_type_in s (expr_of c.args.a.now))) 0) (sym c.in-Deref.is)
    (as_code (ap pieces.fetched_target (c.in_ok-target-in-Deref.ensures.class s h) ∙ target_fetched (value_type_in s (expr_of c.args.a.now))) (piece_then c.in_ok-target-in-Deref.ensures.still c.in_ok-put_fetched_target-in-Deref.ensures))

pub returns-in_ok-put_fetched_target-in-Deref-clause-keeps : goal.returns-in_ok-put_fetched_target-in-Deref-clause-keeps
returns-in_ok-put_fetched_target-in-Deref-clause-keeps c = keeps_then (kept c.in_ok-target-in-Deref.ensures.still) (kept c.in_ok-put_fetched_target-in-Deref.ensures)

pub returns-in_ok-put_denied-in-Not-clause-code : goal.returns-in_ok-put_denied-in-Not-clause-code
returns-in_ok-put_denied-in-Not-clause-code c = λ s h. subst (λ (o : UnOp). Emits c.args.out.now c.put_denied.new.out (pieces.after_code o (value_type_in s (expr_of c.args.a.now))) 0) (sym c.in-Not.is) c.in_ok-put_denied-in-Not.ensures

pub returns-in_ok-put_denied-in-Not-clause-keeps : goal.returns-in_ok-put_denied-in-Not-clause-keeps
returns-in_ok-put_denied-in-Not-clause-keeps c = kept c.in_ok-put_denied-in-Not.ensures

pub returns-in_ok-put_negated-in-Minus-clause-code : goal.returns-in_ok-put_negated-in-Minus-clause-code
returns-in_ok-put_negated-in-Minus-clause-code c = λ s h. subst (λ (o : UnOp). Emits c.args.out.now c.put_negated.new.out (pieces.after_code o (value_type_in s (expr_of c.args.a.now))) 0) (sym c.in-Minus.is) c.in_ok-put_negated-in-Minus.ensures

pub returns-in_ok-put_negated-in-Minus-clause-keeps : goal.returns-in_ok-put_negated-in-Minus-clause-keeps
returns-in_ok-put_negated-in-Minus-clause-keeps c = kept c.in_ok-put_negated-in-Minus.ensures

pub returns-in-Address-clause-code : goal.returns-in-Address-clause-code
returns-in-Address-clause-code c = λ s h. subst (λ (o : UnOp). Emits c.args.out.now c.args.out.now (pieces.after_code o (value_type_in s (expr_of c.args.a.now))) 0) (sym c.in-Address.is) (nothing c.args.out.now)

pub returns-in-Address-clause-keeps : goal.returns-in-Address-clause-keeps
returns-in-Address-clause-keeps c = keeps_none c.args.out.now

pub returns-in-Plus-clause-code : goal.returns-in-Plus-clause-code
returns-in-Plus-clause-code c = λ s h. subst (λ (o : UnOp). Emits c.args.out.now c.args.out.now (pieces.after_code o (value_type_in s (expr_of c.args.a.now))) 0) (sym c.in-Plus.is) (nothing c.args.out.now)

pub returns-in-Plus-clause-keeps : goal.returns-in-Plus-clause-keeps
returns-in-Plus-clause-keeps c = keeps_none c.args.out.now

pub returns-in-Invert-clause-code : goal.returns-in-Invert-clause-code
returns-in-Invert-clause-code c = λ s h. subst (λ (o : UnOp). Emits c.args.out.now c.args.out.now (pieces.after_code o (value_type_in s (expr_of c.args.a.now))) 0) (sym c.in-Invert.is) (nothing c.args.out.now)

pub returns-in-Invert-clause-keeps : goal.returns-in-Invert-clause-keeps
returns-in-Invert-clause-keeps c = keeps_none c.args.out.now
