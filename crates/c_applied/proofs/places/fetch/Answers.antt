use Rattle.std.proofs.Common.{◌≡◌, ℕ, ◌+◌, ◌++◌, Bool, true, false, not, ◌||◌, List, [], ◌∷◌, length, refl, sym, ap, subst, ◌∙◌, append_assoc, append-nil, arith, if◌then◌else◌}
use Rattle.std.specs.Prelude.{Option, Some, None, OnOk, IfOk}
use Rattle.c_applied.specs.Pieces as pieces
use Rattle.c_syntax.specs.View.{expr_of}
use Rattle.c_eval.specs.Environment.{type_in}
use Rattle.c_addressing.proofs.HereLemmas.{as_code}
use Rattle.c_operands.specs.declared.class.Class.{Class}
use Rattle.c_applied.proofs.LeadsLemmas.{piece_then, kept, keeps_then}
use Rattle.c_applied.proofs.PieceLemmas.{fetched_is}
use Rattle.c_applied.proofs.places.fetch.Goals as goal

pub returns-clause-code : goal.returns-clause-code
returns-clause-code c = λ s h. as_code (ap pieces.fetched_by (c.in_ok-class.ensures.class s h) ∙ fetched_is (type_in s (expr_of c.args.e.now))) (piece_then c.in_ok-class.ensures.still c.in_ok-put_fetched.ensures)

pub returns-clause-keeps : goal.returns-clause-keeps
returns-clause-keeps c = keeps_then (kept c.in_ok-class.ensures.still) (kept c.in_ok-put_fetched.ensures)
