use Rattle.c_compiled.proofs.Items.{functions_of_texts_are_text_functions as law}
use Rattle.c_compiled.proofs.few_laws.functions_of_texts_are_text_functions.Goals as goal

pub returns : goal.returns
returns c = law
