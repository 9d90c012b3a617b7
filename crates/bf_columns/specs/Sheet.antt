-- A tape as a sheet: so many columns of ten lanes from the frame's first cell on.
use Rattle.std.specs.Prelude.{ℕ, ◌+◌, ◌-◌, ◌/◌, ◌%◌, ◌≡◌, ◌≢◌, ◌<◌, nat_eq, nat_lt, nat_le, cond, false}
use Rattle.bf_tape.specs.Tape.{Tape}

-- what stands in each column, by lanes; column 0 is the rightmost, and column 12 the place left of all
abbrev pub Sheet : Type 0
Sheet = ℕ → ℕ → ℕ

-- a tape with a sheet on its first 130 cells
abbrev pub sheet : Tape → Sheet → Tape
sheet t v = record {
  base = t.base;
  cells = λ q. cond (cond (nat_le t.base q) (nat_lt q (t.base + 130)) false) (v (12 - (q - t.base) / 10) ((q - t.base) % 10)) (t.cells q);
  taken = t.taken;
  output = t.output;
}

-- another lane
abbrev pub with_lane : Sheet → ℕ → (ℕ → ℕ) → Sheet
with_lane v l f j k = cond (nat_eq k l) (f j) (v j k)

-- the lanes of a column: x, the guide, y and z stand between the registers'
abbrev pub x_lane : ℕ
x_lane = 3

abbrev pub y_lane : ℕ
y_lane = 6

abbrev pub z_lane : ℕ
z_lane = 9

-- a lane that holds a register
pub record IsRegister (l : ℕ) : Type 0 where
  pub below : l < 9
  pub no_x : l ≢ 3
  pub no_guide : l ≢ 5
  pub no_y : l ≢ 6

-- four lanes written over a sheet
abbrev pub four_lanes : Sheet → ℕ → (ℕ → ℕ) → (ℕ → ℕ) → (ℕ → ℕ) → (ℕ → ℕ) → Sheet
four_lanes v d a x y z = with_lane (with_lane (with_lane (with_lane v d a) 3 x) 6 y) 9 z

-- guides stand in twelve columns, none left of them and none at home
pub record IsGuided (t : Tape) (v : Sheet) : Type 0 where
  pub guides : (j : ℕ) → j < 12 → v j 5 ≡ 1
  pub stop : v 12 5 ≡ 0
  pub home : t.cells (t.base + 135) ≡ 0
