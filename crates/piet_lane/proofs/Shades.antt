-- Shades along a chain.
use Rattle.std.proofs.Common.{◌≡◌, ℕ, zero, suc, ◌+◌, ◌-◌, ◌%◌, ◌<◌, List, [], ◌∷◌, Some, slice_get, refl, ap, ◌∙◌, arith}
use Rattle.piet_lang.specs.declared.act.Act.{Act}
use Rattle.piet_lang.specs.declared.act.Act.TheVariants.{Push}
use Rattle.piet_lang.specs.Act.{act_of, act_between}
use Rattle.piet_lane.specs.Board.{Shade, hues, lights, shifted, along, period, head_shade, column_shade}

pub record IsShade (c : Shade) : Type 0 where
  pub hue : c.hue < 6
  pub light : c.light < 3

pub shade_shifted : (c : Shade) (a : Act) → IsShade (shifted c a)
shade_shifted c a = record { hue = omega arith; light = omega arith }

pub shade_head : (i : ℕ) → IsShade (head_shade i)
shade_head i = record { hue = omega arith; light = omega arith }

pub shade_along : (c : Shade) (acts : List Act) (k : ℕ) → IsShade c → IsShade (along c acts k)
shade_along c [] k s = s
shade_along c (a ∷ rest) zero s = s
shade_along c (a ∷ rest) (suc k) s = shade_along (shifted c a) rest k (shade_shifted c a)

pub shade_column : (i r : ℕ) → IsShade (column_shade i r)
shade_column i r = shade_along (head_shade i) period r (shade_head i)

back_hue : (h d : ℕ) → h < 6 → d < 6 → ((h + d) % 6 + (6 - h)) % 6 ≡ d
back_hue h d a b = omega arith

back_light : (h d : ℕ) → h < 3 → d < 3 → ((h + d) % 3 + (3 - h)) % 3 ≡ d
back_light h d a b = omega arith

hues_below : (a : Act) → hues a < 6
hues_below Push = omega arith
hues_below _ = omega arith

lights_below : (a : Act) → lights a < 3
lights_below Push = omega arith
lights_below _ = omega arith

in_table : (a : Act) → act_of (hues a) (lights a) ≡ Some a
in_table Push = refl
in_table _ = refl

-- the act of a shift
pub act_shifted : (c : Shade) (a : Act) → IsShade c → act_between c.hue c.light (shifted c a).hue (shifted c a).light ≡ Some a
act_shifted c a s =
    let h = back_hue c.hue (hues a) s.hue (hues_below a) in
    let l = back_light c.light (lights a) s.light (lights_below a) in
    ap (λ x. act_of x ((((c.light + lights a) % 3) + (3 - c.light)) % 3)) h ∙ (ap (λ x. act_of (hues a) x) l ∙ in_table a)

some_change : (a : Act) → hues a ≡ 0 → lights a ≡ 0 → ⊥
some_change Push h l = omega arith
some_change _ h l = omega arith

no_hue : (h d : ℕ) → h < 6 → d < 6 → (h + d) % 6 ≡ h → d ≡ 0
no_hue h d a b e = omega arith

no_light : (h d : ℕ) → h < 3 → d < 3 → (h + d) % 3 ≡ h → d ≡ 0
no_light h d a b e = omega arith

-- a shift leads to another shade
pub differs : (c : Shade) (a : Act) → IsShade c → (shifted c a).hue ≡ c.hue → (shifted c a).light ≡ c.light → ⊥
differs c a s e f = some_change a (no_hue c.hue (hues a) s.hue (hues_below a) e) (no_light c.light (lights a) s.light (lights_below a) f)

pub along-suc : (c : Shade) (acts : List Act) (k : ℕ) (a : Act) → slice_get acts k ≡ Some a → along c acts (suc k) ≡ shifted (along c acts k) a
along-suc c [] k a e = cc
along-suc c (b ∷ []) zero a e = ap (shifted c) (some e)
  where
    some : {x y : Act} → Some x ≡ Some y → x ≡ y
    some h = cc
along-suc c (b ∷ d ∷ rest) zero a e = ap (shifted c) (some e)
  where
    some : {x y : Act} → Some x ≡ Some y → x ≡ y
    some h = cc
along-suc c (b ∷ rest) (suc k) a e = along-suc (shifted c b) rest k a e

-- the column goes on from one lane to the next
pub head_next : (i : ℕ) → column_shade i 5 ≡ head_shade (suc i)
head_next i =
    let h : (column_shade i 5).hue ≡ (head_shade (suc i)).hue = omega arith in
    let l : (column_shade i 5).light ≡ (head_shade (suc i)).light = omega arith in
    λ j. record { hue = h j; light = l j }
