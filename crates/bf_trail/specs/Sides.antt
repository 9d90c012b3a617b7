-- The trail's end: growing, the two halves of a record, and the way home that takes the marks up.
use Rattle.std.specs.Prelude.{◌≡◌, ◌≢◌, ℕ, ◌+◌, ◌*◌, ◌^◌, ◌<◌, ◌≤◌, List, [], ◌∷◌, ◌++◌}
use Rattle.bf_lang.specs.declared.command.Command.{Command}
use Rattle.bf_lang.specs.declared.command.Command.TheVariants.{Minus}
use Rattle.bf_tape.specs.Tape.{Tape, get, put}
use Rattle.bf_tape.specs.Does.{Does, loop}
use Rattle.bf_trail.specs.Trail.{Trail, left, there, here, out_code, back_code, lay_code, lay_most, laid, IsBlank}

-- the mark place of the record where a trail of so many marks ends
abbrev pub end_of : ℕ → ℕ → ℕ
end_of h n = h + 8 * (n + 1)

-- what a trip makes of a trail: 4^j marks more, and every other cell as before
pub record Grows (input : List ℕ) (s : Tape) (h n j : ℕ) : Type 0 where
  pub new : Tape
  pub does : Does input (out_code ++ lay_code j ++ back_code) h s h new (18 * (n + 4 ^ j + 1) + lay_most j)
  pub trail : Trail new h (n + 4 ^ j)
  pub kept : (c : ℕ) → ((k : ℕ) → n ≤ k → k < n + 4 ^ j → end_of h k ≢ c) → get new c ≡ get s c

-- the law of trips: on each trail after whose end nothing is marked
abbrev pub TrailsGrow : Type 0
TrailsGrow = (input : List ℕ) (s : Tape) (h n j : ℕ) → Trail s h n → IsBlank s (end_of h n) → Grows input s h n j

-- to the half record meant, which a mark beside the trail's end tells, and back
abbrev pub out_side_code : List Command
out_side_code = out_code ++ there ++ loop there ++ here

abbrev pub back_side_code : List Command
back_side_code = loop here ++ back_code

-- home, with all marks taken up
abbrev pub take_up_code : List Command
take_up_code = loop here ++ there ++ loop (Minus ∷ []) ++ here ++ left ++ loop (Minus ∷ left)

-- the half record's mark place
abbrev pub half : ℕ → ℕ → ℕ → ℕ
half h n side = end_of h n + 4 * side

-- a trail of so many marks, with the side beside its end, and the mark place after the half record 0. All cells after that may hold anything
pub record AtHalf (s : Tape) (h n side : ℕ) : Type 0 where
  pub trail : Trail s h n
  pub beside : get s (end_of h n + 4) ≡ side
  pub guard : get s (half h n side + 4) ≡ 0

pub record Sides (input : List ℕ) (s : Tape) (h n side : ℕ) : Type 0 where
  pub out : Does input out_side_code h s (half h n side) s (9 * (n + 1) + 20)
  pub back : Does input back_side_code (half h n side) s h s (9 * (n + 1) + 8)

-- the law of the ways to a half record and back
abbrev pub SidesAreReached : Type 0
SidesAreReached = (input : List ℕ) (s : Tape) (h n side : ℕ) → side < 2 → AtHalf s h n side → Sides input s h n side

-- a trail that ends at a record, with its side beside
abbrev pub sided : Tape → ℕ → ℕ → ℕ → Tape
sided s h n side = put (laid s (h + 8) n) (end_of h n + 4) side

-- the law of the last way home, from a tape that has a trail and a side laid on it
abbrev pub TrailsAreTakenUp : Type 0
TrailsAreTakenUp =
    (input : List ℕ) (s : Tape) (h n side : ℕ) → side < 2 → IsBlank s (h + 8) → get s h ≡ 0
    → AtHalf (sided s h n side) h n side × Does input take_up_code (half h n side) (sided s h n side) h s (10 * n + 40)
