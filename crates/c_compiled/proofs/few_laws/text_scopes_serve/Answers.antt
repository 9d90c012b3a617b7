use Rattle.c_compiled.proofs.Serving.{text_scopes_serve as law}
use Rattle.c_compiled.proofs.few_laws.text_scopes_serve.Goals as goal

pub returns : goal.returns
returns c = law
