use Rattle.std.proofs.Common.{ℕ, subst}
use Rattle.std.specs.Cmp.Lexicographic.{bytes_decides}
use Rattle.c_emitted.specs.Emits.{texts, tables_of}
use Rattle.c_emitted.proofs.TableLemmas.{extends_same}
use Rattle.c_linked.specs.Linked.{Tells}
use Rattle.c_linked.proofs.EntryLemmas.{names_apart, is_code}
use Rattle.c_linked.proofs.program.link.Goals as goal

pub returns-clause-code : goal.returns-clause-code
returns-clause-code c = λ f e.
    let keys = c.args.out.names.keys in
    is_code _ keys c.args.compiled.now f c.args.out.code c.instructions.ensures.instructions (names_apart _ (λ x y same. (bytes_decides x.now y.now).1 same) keys c.len.ensures.unique)
    (e.meant.means (texts keys) _ (extends_same (tables_of c.args.out)))
    e.single e.entries (subst (λ (n : ℕ). Tells c.in_ok-functions.functions.items n c.args.compiled.now) c.len.ensures.len c.in_ok-functions.ensures)
