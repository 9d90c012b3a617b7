-- Externals, one after the other.
use Rattle.std.specs.Prelude.{◌≡◌, ℕ, ◌+◌, List, Some, slice_get}
use Rattle.std.specs.Result.{result_err}
use Rattle.c_syntax.specs.Plain as tree
use Rattle.c_syntax.specs.Plain.{CItem}
use Rattle.c_types.specs.Types.{words_of}
use Rattle.c_types.specs.Scope.{Scope}
use Rattle.c_types.specs.Declarations.{declared_type, scope_or}
use Rattle.c_types.specs.Units.{item_judged, all_items}
use Rattle.c_types.specs.Census.{of_type, item_sum, items_sum}
use Rattle.c_types.specs.Limits.{file_words}
use Rattle.c_types.specs.Seen.{Counts}
use Rattle.c_types.specs.Table.{Table}
use Rattle.c_operands.specs.declared.declarations.Declarations.{Declarations}
use Rattle.c_declared.specs.Held.{Holds}
use Rattle.c_weights.specs.Sums.{Sums}
use Rattle.c_check.specs.declared.items.Taken.{Taken}

-- the words that an external adds to those at file scope
abbrev pub words_at : Scope → CItem → ℕ
words_at s (tree.Object d) = of_type (words_of s.tags) (declared_type s d)
words_at s _ = 0

-- a number is that of a tag
abbrev pub IsTag : Table → ℕ → Type 0
IsTag table number = (name : List ℕ) × (slice_get table.tags number ≡ Some name)

-- an external is judged and summed, and what is declared is what is declared behind it
pub record IsTaken (old new : Table) (d e : Declarations) (r : Taken) (item : CItem) : Type 0 where
  pub refusal : (s : Scope) → Holds old d s → r.refusal ≡ result_err (item_judged s item)
  pub sums : (s : Scope) → Holds old d s → Sums r.sum (λ k. item_sum k s item)
  pub words : (s : Scope) → Holds old d s → Counts r.words (words_at s item)
  pub holds : (s : Scope) → Holds old d s → Holds new e (scope_or s (item_judged s item))
  pub tags : new.tags ≡ old.tags

-- externals from a scope on are judged and summed
pub record AreTaken (r : Taken) (s : Scope) (all : List CItem) : Type 0 where
  pub refusal : r.refusal ≡ result_err (all_items s all)
  pub sums : Sums r.sum (λ k. items_sum k s all)
  pub words : Counts r.words (file_words s all)
