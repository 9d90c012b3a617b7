use Rattle.std.proofs.Common.{◌≡◌, drop}
use Rattle.std.specs.Str.{bytes_eq}
use Rattle.std.specs.Map.{lookup}
use Rattle.eir_line.proofs.words.meaning.Given as goal

-- no entry so far has the word
abbrev pub invariant-loop-spelling : goal.invariant-loop-spelling
invariant-loop-spelling l = lookup (λ entry. bytes_eq l.word entry.now) (drop l.spelling-index l.table) ≡ lookup (λ entry. bytes_eq l.word entry.now) l.table
