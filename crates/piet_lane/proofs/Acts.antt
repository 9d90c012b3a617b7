-- Acts on a board, one after the other.
use Rattle.mach_core.specs.Reaches.{Reaches}
use Rattle.piet_image.specs.declared.place.Place.{Place}
use Rattle.piet_image.specs.declared.place.Stand.{Stand}
use Rattle.std.proofs.Common.{◌≡◌, ℕ, zero, suc, ◌+◌, ◌-◌, ◌*◌, ◌^◌, ◌<◌, ◌≤◌, Bool, true, false, cond, nat_eq, nat_lt, ℤ, pos, ◌-ℤ◌, List, [], ◌∷◌, ◌++◌, length, Option, Some, slice_get, refl, sym, ap, subst, ◌∙◌, arith, add-zero, append-nil, None}
use Rattle.std.proofs.lemmas.Bool.{ltb-true, ltb-false}
use Rattle.std.proofs.lemmas.Bool.Decides.{nat_tests}
use Rattle.std.proofs.lemmas.Int.{ints}
use Rattle.mach_core.specs.declared.machine.Status.TheVariants.{Going, Fault}
use Rattle.mach_core.specs.Rule.{Rule, Moment, input_at, applied}
use Rattle.mach_core.proofs.Reaching.{stays_there, and_then, one_step}
use Rattle.piet_image.specs.declared.place.Pointer.TheVariants.{Down, Left}
use Rattle.piet_image.specs.declared.place.Chooser.{Chooser}
use Rattle.piet_lang.specs.declared.act.Act.{Act}
use Rattle.piet_lang.specs.declared.act.Act.TheVariants.{Push, Subtract, Not, Point, Switch, Duplicate, InNumber}
use Rattle.piet_image.specs.declared.met.Met.TheVariants.{Onto}
use Rattle.piet_image.specs.Picture.{Picture, met_by, ahead}
use Rattle.piet_image.specs.Slide.{forward}
use Rattle.piet_image.specs.Block.{Atlas}
use Rattle.piet_lang.specs.Act.{after_act, turns_of, toggles_of, act_fits, truth, rest_of}
use Rattle.mach_core.specs.Integer.{is_zero, is_in_range}
use Rattle.piet_lang.specs.declared.number.Seen.{Seen}
use Rattle.piet_lang.specs.Step.{Config, departure, piet_rule, turned_by, toggled_by, takes, bytes_of, reading_of}
use Rattle.piet_image.proofs.Blocks.{alone-size}
use Rattle.piet_lang.proofs.Steps.{departs_onto, step_is}
use Rattle.piet_image.proofs.Corridors.{stand, spot}
use Rattle.piet_lane.specs.Board.{Shade, shifted, period, head_shade, column_shade, in_shade, shown, board}
use Rattle.piet_lane.specs.Runs.{Values, with_stack, after_one, plain, moment_at}
use Rattle.piet_lane.proofs.Shades.{IsShade, shade_column, act_shifted, along-suc, head_next}
use Rattle.piet_lane.proofs.Apart.{all_alone}
use Rattle.piet_lane.proofs.Cells as cells

pub plain_turns : (a : Act) (s : List ℤ) → plain a ≡ true → turns_of a s ≡ 0
plain_turns Point s h = cc
plain_turns _ s h = refl

pub plain_reading : (a : Act) → plain a ≡ true → reading_of a ≡ None
plain_reading InNumber h = cc
plain_reading _ h = refl

pub plain_toggles : (a : Act) (s : List ℤ) → plain a ≡ true → toggles_of a s ≡ 0
plain_toggles Switch s h = cc
plain_toggles _ s h = refl

module _ (lanes : List (List Act)) (reach start : ℕ) (fits : start < length lanes) (atlas : Atlas (board lanes reach start)) (input : List ℕ) where
  abbrev picture : Picture
  picture = board lanes reach start

  abbrev rule : Rule Config
  rule = piet_rule picture atlas

  -- where an act leads
  abbrev pub led : Stand → Place → Act → List ℤ → Stand
  led s q a values = record { place = q; pointer = turned_by (turns_of a values) s.pointer; chooser = toggled_by (toggles_of a values) s.chooser }

  -- from one shade to the next
  pub act_step : (s : Stand) (q : Place) (c : Shade) (a : Act) (v : Values) → IsShade c → picture s.place ≡ in_shade c → ahead picture s.pointer s.place ≡ Onto q (shifted c a).hue (shifted c a).light → act_fits a v.stack ≡ true → reading_of a ≡ None
      → Reaches rule input (moment_at s v) (moment_at (led s q a v.stack) (after_one input v a)) 1 1
  act_step s q c a v shade here met small reads =
      let alone = all_alone lanes reach start fits s.place c.hue c.light here in
      let m = moment_at s v in
      let leaves : departure picture atlas s ≡ Some (record { act = Some a; to = forward s q }) =
      departs_onto picture atlas c.hue c.light s q (shifted c a).hue (shifted c a).light alone met ∙ ap (λ o. Some (record { act = o; to = forward s q })) (act_shifted c a shade) in
      let size : atlas.size s.place ≡ 1 = alone-size picture atlas s.place c.hue c.light alone in
      let byte = cond (takes (Some a)) (input_at input v.taken) 0 in
      let after : ℕ → Bool → Option Seen → Moment Config = λ n b r. record {
        config = cond b (record { at = led s q a v.stack; stack = after_act a n byte v.stack; reading = r; standing = Going }) (record { at = s; stack = v.stack; reading = None; standing = Fault 1 });
        taken = (after_one input v a).taken;
        output = (after_one input v a).output;
      } in
      let all : applied rule input m ≡ after 1 true None = step_is picture atlas input m (Some (record { act = Some a; to = forward s q })) refl refl leaves ∙ (ap (λ n. after n (act_fits a v.stack) (reading_of a)) size ∙ (ap (λ b. after 1 b (reading_of a)) small ∙ ap (after 1 true) reads)) in
      one_step rule input m (moment_at (led s q a v.stack) (after_one input v a)) all

  -- an act that takes and writes nothing
  pub quiet : (v : Values) (a : Act) → takes (Some a) ≡ false → bytes_of (Some a) v.stack ≡ [] → after_one input v a ≡ with_stack v (after_act a 1 0 v.stack)
  quiet v a t b =
      let x : (after_one input v a).stack ≡ after_act a 1 0 v.stack = ap (λ z. after_act a 1 (cond z (input_at input v.taken) 0) v.stack) t in
      let y : (after_one input v a).taken ≡ v.taken = ap (λ z. cond z (v.taken + 1) v.taken) t in
      let z : (after_one input v a).output ≡ v.output = ap (λ o. v.output ++ o) b ∙ append-nil v.output in
      λ i. record { stack = x i; taken = y i; output = z i }

  pub column_shown : (i r : ℕ) → r ≤ 5 → i < length lanes → picture (spot (reach + 2) (3 + (5 * i + r))) ≡ in_shade (column_shade i r)
  column_shown i r h l = elim (nat_lt r 5) as (λ b. nat_lt r 5 ≡ b → picture (spot (reach + 2) (3 + (5 * i + r))) ≡ in_shade (column_shade i r)) [
    | true ↦ λ is. ap (shown lanes) (cells.column_cell (length lanes) reach start fits i r (ltb-true r 5 is) l)
    | false ↦ λ is.
        let five : 5 ≡ r = let g = ltb-false r 5 is in omega arith in
        let shade : in_shade (column_shade (suc i) 0) ≡ in_shade (column_shade i r) = ap in_shade (sym (head_next i) ∙ ap (column_shade i) five) in
        elim (nat_lt (suc i) (length lanes)) as (λ b. nat_lt (suc i) (length lanes) ≡ b → picture (spot (reach + 2) (3 + (5 * i + r))) ≡ in_shade (column_shade i r)) [
          | true ↦ λ more.
              let e : 3 + (5 * i + r) ≡ 3 + (5 * suc i + 0) = omega arith in
              ap (λ y. picture (spot (reach + 2) y)) e ∙ (ap (shown lanes) (cells.column_cell (length lanes) reach start fits (suc i) 0 (omega arith) (ltb-true (suc i) (length lanes) more)) ∙ shade)
          | false ↦ λ more.
              let last : length lanes ≡ suc i = let g = ltb-false (suc i) (length lanes) more in omega arith in
              let e : 3 + (5 * i + r) ≡ 3 + 5 * length lanes = omega arith in
              ap (λ y. picture (spot (reach + 2) y)) e ∙ (ap (shown lanes) (cells.foot_cell (length lanes) reach start fits) ∙ (ap (λ j. in_shade (column_shade j 0)) last ∙ shade))
        ] refl
  ] refl

  -- one place down the column
  column_step : (i r : ℕ) (a : Act) (c : Chooser) (v : Values) → r < 5 → i < length lanes → slice_get period r ≡ Some a → takes (Some a) ≡ false → bytes_of (Some a) v.stack ≡ [] → act_fits a v.stack ≡ true → reading_of a ≡ None
      → Reaches rule input (moment_at (stand (reach + 2) (3 + (5 * i + r)) Down c) v) (moment_at (led (stand (reach + 2) (3 + (5 * i + r)) Down c) (spot (reach + 2) (3 + (5 * i + suc r))) a v.stack) (with_stack v (after_act a 1 0 v.stack))) 1 1
  column_step i r a c v h l is t b small reads =
      let k = reach + 2 in
      let y = 3 + (5 * i + r) in
      let s = stand k y Down c in
      let next : suc y ≡ 3 + (5 * i + suc r) = omega arith in
      let shade : column_shade i (suc r) ≡ shifted (column_shade i r) a = along-suc (head_shade i) period r a is in
      let down : picture (spot k (suc y)) ≡ in_shade (shifted (column_shade i r) a) = ap (λ j. picture (spot k j)) next ∙ (column_shown i (suc r) (omega arith) l ∙ ap in_shade shade) in
      let same = quiet v a t b in
      let step = act_step s (spot k (suc y)) (column_shade i r) a v (shade_column i r) (column_shown i r (omega arith) l) (ap (met_by (spot k (suc y))) down) small reads in
      let there : moment_at (led s (spot k (suc y)) a v.stack) (after_one input v a) ≡ moment_at (led s (spot k (3 + (5 * i + suc r))) a v.stack) (with_stack v (after_act a 1 0 v.stack)) =
      ap (λ j. moment_at (led s (spot k j) a v.stack) (after_one input v a)) next ∙ ap (moment_at (led s (spot k (3 + (5 * i + suc r))) a v.stack)) same in
      subst (λ m. Reaches rule input (moment_at s v) m 1 1) there step

  truth_turns : (b : Bool) → turned_by (rest_of (truth b) 4) Down ≡ cond b Left Down
  truth_turns true = refl
  truth_turns false = refl

  -- the first three acts look whether the number is 0
  look_down : (i n : ℕ) (c : Chooser) (s : List ℤ) (v : Values) → i < length lanes → nat_lt n (2 ^ 63) ≡ true
      → Reaches rule input (moment_at (stand (reach + 2) (3 + (5 * i + 0)) Down c) (with_stack v (pos n ∷ s))) (moment_at (stand (reach + 2) (3 + (5 * i + 3)) (cond (is_zero (pos n)) Left Down) c) (with_stack v (pos n ∷ s))) 3 3
  look_down i n c s v l small =
      let one = column_step i 0 Duplicate c (with_stack v (pos n ∷ s)) (omega arith) l refl refl refl refl refl in
      let two = column_step i 1 Not c (with_stack v (pos n ∷ pos n ∷ s)) (omega arith) l refl refl refl refl refl in
      let three = column_step i 2 Point c (with_stack v (truth (is_zero (pos n)) ∷ pos n ∷ s)) (omega arith) l refl refl refl refl refl in
      let both = and_then 2 2 one two (omega arith) (omega arith) in
      let all = and_then 3 3 both three (omega arith) (omega arith) in
      subst (λ d. Reaches rule input (moment_at (stand (reach + 2) (3 + (5 * i + 0)) Down c) (with_stack v (pos n ∷ s))) (moment_at (stand (reach + 2) (3 + (5 * i + 3)) d c) (with_stack v (pos n ∷ s))) 3 3) (truth_turns (is_zero (pos n))) all

  one_less : (n : ℕ) → (pos (suc n) -ℤ pos 1) ≡ pos n
  one_less n = omega (arith, ints)

  above : (n : ℕ) → is_zero (pos (suc n)) ≡ false
  above n = refl

  lower : (n : ℕ) → nat_lt (suc n) (2 ^ 63) ≡ true → nat_lt n (2 ^ 63) ≡ true
  lower n h = grind (arith, nat_tests)

  -- past a lane
  descend : (i n : ℕ) (c : Chooser) (s : List ℤ) (v : Values) → i < length lanes → nat_lt (suc n) (2 ^ 63) ≡ true
      → Reaches rule input (moment_at (stand (reach + 2) (3 + (5 * i + 0)) Down c) (with_stack v (pos (suc n) ∷ s))) (moment_at (stand (reach + 2) (3 + (5 * suc i + 0)) Down c) (with_stack v (pos n ∷ s))) 5 5
  descend i n c s v l small =
      let looked : Reaches rule input (moment_at (stand (reach + 2) (3 + (5 * i + 0)) Down c) (with_stack v (pos (suc n) ∷ s))) (moment_at (stand (reach + 2) (3 + (5 * i + 3)) Down c) (with_stack v (pos (suc n) ∷ s))) 3 3 =
      subst (λ b. Reaches rule input (moment_at (stand (reach + 2) (3 + (5 * i + 0)) Down c) (with_stack v (pos (suc n) ∷ s))) (moment_at (stand (reach + 2) (3 + (5 * i + 3)) (cond b Left Down) c) (with_stack v (pos (suc n) ∷ s))) 3 3) (above n) (look_down i (suc n) c s v l small) in
      let four = column_step i 3 Push c (with_stack v (pos (suc n) ∷ s)) (omega arith) l refl refl refl refl refl in
      let less : is_in_range (pos (suc n) -ℤ pos 1) ≡ true = ap is_in_range (one_less n) ∙ lower n small in
      let five = column_step i 4 Subtract c (with_stack v (pos 1 ∷ pos (suc n) ∷ s)) (omega arith) l refl refl refl less refl in
      let both = and_then 4 4 looked four (omega arith) (omega arith) in
      let all = and_then 5 5 both five (omega arith) (omega arith) in
      let next : 3 + (5 * i + 5) ≡ 3 + (5 * suc i + 0) = omega arith in
      let from = moment_at (stand (reach + 2) (3 + (5 * i + 0)) Down c) (with_stack v (pos (suc n) ∷ s)) in
      subst (λ z. Reaches rule input from (moment_at (stand (reach + 2) (3 + (5 * suc i + 0)) Down c) (with_stack v (z ∷ s))) 5 5) (one_less n)
      (subst (λ y. Reaches rule input from (moment_at (stand (reach + 2) y Down c) (with_stack v ((pos (suc n) -ℤ pos 1) ∷ s))) 5 5) next all)

  -- down to the lane of a number
  pub down_to : (n i : ℕ) (c : Chooser) (s : List ℤ) (v : Values) → i + n < length lanes → nat_lt n (2 ^ 63) ≡ true
      → Reaches rule input (moment_at (stand (reach + 2) (3 + (5 * i + 0)) Down c) (with_stack v (pos n ∷ s))) (moment_at (stand (reach + 2) (3 + (5 * (i + n) + 3)) Left c) (with_stack v (pos 0 ∷ s))) (5 * n + 3) (5 * n + 3)
  down_to zero i c s v l small =
      let same : i ≡ i + 0 = sym (add-zero i) in
      subst (λ j. Reaches rule input (moment_at (stand (reach + 2) (3 + (5 * i + 0)) Down c) (with_stack v (pos 0 ∷ s))) (moment_at (stand (reach + 2) (3 + (5 * j + 3)) Left c) (with_stack v (pos 0 ∷ s))) (5 * 0 + 3) (5 * 0 + 3)) same (look_down i 0 c s v (omega arith) small)
  down_to (suc n) i c s v l small =
      let same : suc i + n ≡ i + suc n = omega arith in
      let rest = down_to n (suc i) c s v (omega arith) (lower n small) in
      let all = and_then (5 * suc n + 3) (5 * suc n + 3) (descend i n c s v (omega arith) small) rest (omega arith) (omega arith) in
      subst (λ j. Reaches rule input (moment_at (stand (reach + 2) (3 + (5 * i + 0)) Down c) (with_stack v (pos (suc n) ∷ s))) (moment_at (stand (reach + 2) (3 + (5 * j + 3)) Left c) (with_stack v (pos 0 ∷ s))) (5 * suc n + 3) (5 * suc n + 3)) same all

  -- down past all lanes
  pub down_past : (more n i : ℕ) (c : Chooser) (s : List ℤ) (v : Values) → i + more ≡ length lanes → more ≤ n → nat_lt n (2 ^ 63) ≡ true
      → Reaches rule input (moment_at (stand (reach + 2) (3 + (5 * i + 0)) Down c) (with_stack v (pos n ∷ s))) (moment_at (stand (reach + 2) (3 + (5 * length lanes + 0)) Down c) (with_stack v (pos (n - more) ∷ s))) (5 * more) (5 * more)
  down_past zero n i c s v e h small =
      let same : i ≡ length lanes = omega arith in
      let all : n ≡ n - 0 = omega arith in
      subst (λ k. Reaches rule input (moment_at (stand (reach + 2) (3 + (5 * i + 0)) Down c) (with_stack v (pos n ∷ s))) (moment_at (stand (reach + 2) (3 + (5 * length lanes + 0)) Down c) (with_stack v (pos k ∷ s))) 0 0) all
      (subst (λ j. Reaches rule input (moment_at (stand (reach + 2) (3 + (5 * i + 0)) Down c) (with_stack v (pos n ∷ s))) (moment_at (stand (reach + 2) (3 + (5 * j + 0)) Down c) (with_stack v (pos n ∷ s))) 0 0) same (stays_there rule input (moment_at (stand (reach + 2) (3 + (5 * i + 0)) Down c) (with_stack v (pos n ∷ s)))))
  down_past (suc more) zero i c s v e h small = absurd (omega arith)
  down_past (suc more) (suc n) i c s v e h small =
      let rest = down_past more n (suc i) c s v (omega arith) (omega arith) (lower n small) in
      let left : n - more ≡ suc n - suc more = omega arith in
      let all = and_then (5 * suc more) (5 * suc more) (descend i n c s v (omega arith) small) rest (omega arith) (omega arith) in
      subst (λ k. Reaches rule input (moment_at (stand (reach + 2) (3 + (5 * i + 0)) Down c) (with_stack v (pos (suc n) ∷ s))) (moment_at (stand (reach + 2) (3 + (5 * length lanes + 0)) Down c) (with_stack v (pos k ∷ s))) (5 * suc more) (5 * suc more)) left all
