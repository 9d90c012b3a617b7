use Rattle.std.proofs.Common.{List, ap, ◌∙◌}
use denote.Ref.{Bor}
use Rattle.std.proofs.Common.{ℕ}
use Rattle.c_types.specs.Scope.{contains}
use Rattle.c_types.specs.Table.{texts}
use Rattle.c_opening.proofs.NamedLemmas.{inserted}
use Rattle.c_opening.proofs.named.put.Goals as goal

pub returns : goal.returns
returns c = λ other. ap (λ (ks : List (Bor (List ℕ))). contains (texts ks) other) c.in_ok-insert.ensures.keys ∙ inserted c.args.names.now.keys c.args.name other
