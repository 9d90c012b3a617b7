-- What is summed over the nodes of a tree: its weight, how many types in it are too wide, its nodes, and the words of the objects that
-- it declares.
use Rattle.std.specs.Prelude.{◌≡◌, ℕ, ◌+◌, ◌^◌, min, nat_lt}
use Rattle.c_types.specs.Types.{words_of}
use Rattle.c_types.specs.Scope.{Scope}
use Rattle.c_types.specs.Census.{Tally}
use Rattle.c_types.specs.Limits.{string_words, initialised_words, wide_types, wide_types_at}
use Rattle.c_types.specs.Known.{Grows}
use Rattle.c_types.specs.Table.{Table, known}
use Rattle.c_types.specs.Seen.{Counts}
use Rattle.c_operands.specs.declared.declarations.Declarations.{Declarations}
use Rattle.c_declared.specs.Held.{Holds}
use Rattle.c_weights.specs.declared.sum.Sum.{Sum}

-- the nodes, with the words of initialised objects and of string literals
abbrev pub weighing : Tally
weighing = record { expr = λ s e. 1 + string_words e; node = 1; ty = λ tags t. 0; object = initialised_words }

-- the types of more words than an object may have
abbrev pub widening : Tally
widening = record { expr = wide_types_at; node = 0; ty = wide_types; object = λ tags t v. 0 }

-- the nodes
abbrev pub counting : Tally
counting = record { expr = λ s e. 1; node = 1; ty = λ tags t. 0; object = λ tags t v. 0 }

-- the words of the objects that are declared
abbrev pub measuring : Tally
measuring = record { expr = λ s e. 0; node = 0; ty = λ tags t. 0; object = λ tags t v. words_of tags t }

-- what a number of nodes or of words is told as at most
abbrev pub most_told : ℕ
most_told = 2 ^ 22 + 1

-- the sums of one tree
pub record Sums (r : Sum) (n : Tally → ℕ) : Type 0 where
  pub weight : Counts r.weight (n weighing)
  pub wide : r.is_wide ≡ nat_lt 0 (n widening)
  pub nodes : r.nodes ≡ min (n counting) most_told
  pub words : r.words ≡ min (n measuring) most_told

-- two trees have the same sums
abbrev pub AreAlike : (Tally → ℕ) → (Tally → ℕ) → Type 0
AreAlike m n = (m weighing ≡ n weighing) × (m widening ≡ n widening) × (m counting ≡ n counting) × (m measuring ≡ n measuring)

-- the sums of a tree in the scope of what is declared, while the table of types grows
pub record AreCounted (old new : Table) (d : Declarations) (r : Sum) (n : Scope → Tally → ℕ) : Type 0 where
  pub sums : (s : Scope) → Holds old d s → Sums r (n s)
  pub grows : Grows (known old) (known new)
  pub tags : new.tags ≡ old.tags
