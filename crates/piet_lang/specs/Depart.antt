-- For proofs only: which attempt counts.
use Rattle.std.specs.Prelude.{◌≡◌, ℕ, Option, None, Some}
use Rattle.piet_image.specs.declared.place.Stand.{Stand}
use Rattle.piet_image.specs.declared.met.Met.{Met}
use Rattle.piet_image.specs.declared.met.Met.TheVariants.{Blocked}
use Rattle.piet_image.specs.Picture.{Picture, ahead}
use Rattle.piet_image.specs.Block.{Atlas}
use Rattle.piet_lang.specs.Step.{attempt_on, attempts}

-- the first attempt that doesn't fail is made from here and meets this
pub record Counts (f : Picture) (atlas : Atlas f) (s from : Stand) (met : Met) : Type 0 where
  pub place : from.place ≡ s.place
  pub meets : met ≡ ahead f from.pointer (atlas.exit from.place from.pointer from.chooser)
  pub some : met ≡ Blocked → ⊥
  pub first : (h l : ℕ) → attempts f atlas 4 h l s ≡ attempt_on atlas.slid h l from met

-- or all fail
abbrev pub Leaves : (f : Picture) → Atlas f → Stand → Option (Stand × Met) → Type 0
Leaves f atlas s None = (h l : ℕ) → attempts f atlas 4 h l s ≡ None
Leaves f atlas s (Some r) = Counts f atlas s r.0 r.1

-- the attempts so far have failed
pub record Failed (f : Picture) (atlas : Atlas f) (s from : Stand) (left : ℕ) : Type 0 where
  pub place : from.place ≡ s.place
  pub same : (h l : ℕ) → attempts f atlas 4 h l s ≡ attempts f atlas left h l from
