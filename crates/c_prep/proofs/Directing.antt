-- Directives that are cut short.
use Rattle.std.proofs.Common.{◌≡◌, ℕ, ◌<◌, List, [], ◌∷◌, length, refl, arith}
use Rattle.std.specs.Prelude.{Err}
use Rattle.c_syntax.specs.declared.token.Raw.{Raw}
use Rattle.c_prep.specs.Directives.{include_at}

pub short_include : (at : ℕ) (rs : List Raw) → length rs < 5 → include_at at rs ≡ Err at
short_include at [] h = refl
short_include at (a ∷ []) h = refl
short_include at (a ∷ b ∷ []) h = refl
short_include at (a ∷ b ∷ c ∷ []) h = refl
short_include at (a ∷ b ∷ c ∷ d ∷ []) h = refl
short_include at (a ∷ b ∷ c ∷ d ∷ e ∷ rs) h = absurd (omega (arith, h))
