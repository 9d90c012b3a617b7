-- The objects of a block.
use Rattle.std.specs.Prelude.{ℕ, List, [], ◌∷◌, map, replicate}
use Rattle.c_eval.specs.State.{Cell, Unset}
use Rattle.c_code.specs.Code as code
use Rattle.c_plain.specs.declared.instruction.Instruction.TheVariants as plain
use Rattle.c_plain.specs.declared.instruction.Span.{Span}
use Rattle.c_emitted.specs.declared.emitter.Emitter.{Emitter}
use Rattle.c_emitted.specs.Emits.{tables_of, Emits, SpanIs, Fills}

-- unset objects of these lengths
abbrev pub unset_objects : List ℕ → List (List Cell)
unset_objects lengths = map (λ n. replicate n Unset) lengths

-- a block ends that began at a place: its objects have these lengths
pub record EndsBlock (a b : Emitter) (start : ℕ) (lengths : List ℕ) : Type 0 where
  pub span : Span
  pub told : Emitter
  pub tells : Emits a told [] []
  pub is : SpanIs (tables_of told) (λ p. p.lengths) span lengths
  pub filled : Emitter
  pub fills : Fills told filled start (plain.Enter span)
  pub leaves : Emits filled b (code.Leave ∷ []) []
