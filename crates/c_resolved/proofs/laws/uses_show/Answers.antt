use Rattle.c_resolved.proofs.Likeness.{uses}
use Rattle.c_resolved.specs.Same.{lengths_of}
use Rattle.c_resolved.proofs.laws.uses_show.Goals as goal

pub returns : goal.returns
returns c = λ t st v w s. uses t (lengths_of st.objects) st s
