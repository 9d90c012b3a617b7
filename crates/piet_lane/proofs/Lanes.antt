-- A board runs its lanes.
use Rattle.mach_core.specs.Reaches.{Reaches}
use Rattle.std.proofs.Common.{◌≡◌, ℕ, zero, suc, ◌+◌, ◌-◌, ◌*◌, ◌^◌, ◌<◌, ◌≤◌, true, cond, nat_le, nat_lt, ℤ, pos, List, [], ◌∷◌, length, drop, Some, None, slice_get, refl, sym, ap, subst, ◌∙◌, arith, zero-add, add-zero, append-nil}
use Rattle.std.proofs.lemmas.Bool.Decides.{nat_tests}
use Rattle.mach_core.specs.declared.machine.Status.TheVariants.{Going, Ended}
use Rattle.mach_core.specs.Rule.{Rule, Moment, applied, at_start}
use Rattle.mach_core.proofs.Reaching.{stays_there, and_then, one_step}
use Rattle.piet_image.specs.declared.colour.Colour.TheVariants.{White}
use Rattle.piet_image.specs.declared.place.Pointer.TheVariants.{Right, Down, Left}
use Rattle.piet_image.specs.declared.place.Chooser.{Chooser}
use Rattle.piet_image.specs.declared.place.Chooser.TheVariants.{ToLeft}
use Rattle.piet_lang.specs.declared.act.Act.{Act}
use Rattle.piet_lang.specs.declared.act.Act.TheVariants.{Pop}
use Rattle.piet_image.specs.Picture.{Picture, met_by}
use Rattle.piet_image.specs.Slide.{forward, Slides}
use Rattle.piet_image.specs.Block.{Atlas}
use Rattle.piet_lang.specs.Act.{after_act, turns_of, toggles_of}
use Rattle.piet_lang.specs.Step.{Config, departure, departure_at, sliding, first_standing, piet_rule, piet_start, turned_by, toggled_by}
use Rattle.piet_image.proofs.Slides.{one_end}
use Rattle.piet_lang.proofs.Steps.{departs_over, step_is}
use Rattle.piet_image.proofs.Corridors.{stand, spot}
use Rattle.piet_lane.specs.Board.{Shade, shifted, along, column_shade, in_shade, lane_at, shown, board}
use Rattle.piet_lane.specs.Runs.{Values, with_stack, nothing_yet, after_one, after_all, Fit, Plain, moment_at, Comes, RunsLanes, AtEnd}
use Rattle.piet_lane.proofs.Shades.{shade_along, shade_column, along-suc}
use Rattle.piet_lane.proofs.Apart.{all_alone}
use Rattle.piet_lane.proofs.Ways.{white_at, way_back, way_in, trap, tail_white, thrice}
use Rattle.piet_lane.proofs.Acts.{act_step, quiet, plain_turns, plain_toggles, plain_reading, column_shown, down_to, down_past}
use Rattle.piet_lane.proofs.Cells as cells

at_head : (acts : List Act) (k : ℕ) (x : Act) (xs : List Act) → drop k acts ≡ x ∷ xs → slice_get acts k ≡ Some x
at_head [] zero x xs e = cc
at_head [] (suc k) x xs e = cc
at_head (y ∷ ys) zero x xs e = cc
at_head (y ∷ ys) (suc k) x xs e = at_head ys k x xs e

after_head : (acts : List Act) (k : ℕ) (x : Act) (xs : List Act) → drop k acts ≡ x ∷ xs → drop (suc k) acts ≡ xs
after_head [] zero x xs e = cc
after_head [] (suc k) x xs e = cc
after_head (y ∷ ys) zero x xs e = cc
after_head (y ∷ ys) (suc k) x xs e = after_head ys k x xs e

module _ (lanes : List (List Act)) (reach start : ℕ) (fits : start < length lanes) (near : (i : ℕ) → length (lane_at lanes i) ≤ reach) (simple : (i : ℕ) → Plain (lane_at lanes i)) (atlas : Atlas (board lanes reach start)) (input : List ℕ) where
  abbrev picture : Picture
  picture = board lanes reach start

  abbrev rule : Rule Config
  rule = piet_rule picture atlas

  abbrev chain : ℕ → List Act
  chain i = Pop ∷ lane_at lanes i

  abbrev shade_at : ℕ → ℕ → Shade
  shade_at i k = along (column_shade i 3) (chain i) k

  lane_codel : (i k x : ℕ) → i < length lanes → x + k ≡ reach + 2 → 0 < k → k ≤ suc (length (lane_at lanes i)) → picture (spot x (6 + 5 * i)) ≡ in_shade (shade_at i k)
  lane_codel i k x l e p h =
      let in_it : nat_le k (suc (length (lane_at lanes i))) ≡ true = grind (arith, nat_tests) in
      let n = near i in
      ap (shown lanes) (cells.lane_cell (length lanes) reach start fits i k x l e (omega arith) p) ∙ ap (λ b. cond b (in_shade (shade_at i k)) (Some White)) in_it

  -- the acts of a lane from some codel on, to its last
  lane_go : (i x : ℕ) (c : Chooser) → i < length lanes → x + suc (length (lane_at lanes i)) ≡ reach + 2 → (acts : List Act) (k : ℕ) → k + length acts ≡ suc (length (lane_at lanes i)) → 0 < k → drop k (chain i) ≡ acts → Plain acts → (v : Values) → Fit input v acts
      → Reaches rule input (moment_at (stand (x + length acts) (6 + 5 * i) Left c) v) (moment_at (stand x (6 + 5 * i) Left c) (after_all input v acts)) (length acts) (length acts)
  lane_go i x c l e [] k sum p rest flat v fit = subst (λ j. Reaches rule input (moment_at (stand j (6 + 5 * i) Left c) v) (moment_at (stand x (6 + 5 * i) Left c) v) 0 0) (sym (add-zero x)) (stays_there rule input (moment_at (stand x (6 + 5 * i) Left c) v))
  lane_go i x c l e (a ∷ acts) k sum p rest flat v fit =
      let y = 6 + 5 * i in
      let to = x + length acts in
      let s = stand (suc to) y Left c in
      let is = at_head (chain i) k a acts rest in
      let later = after_head (chain i) k a acts rest in
      let here = lane_codel i k (suc to) l (omega arith) p (omega arith) in
      let there : picture (spot to y) ≡ in_shade (shifted (shade_at i k) a) = lane_codel i (suc k) to l (omega arith) (omega arith) (omega arith) ∙ ap in_shade (along-suc (column_shade i 3) (chain i) k a is) in
      let step = act_step lanes reach start fits atlas input s (spot to y) (shade_at i k) a v (shade_along (column_shade i 3) (chain i) k (shade_column i 3)) here (ap (met_by (spot to y)) there) fit.0 (plain_reading a flat.0) in
      let keeps : turned_by (turns_of a v.stack) Left ≡ Left = ap (λ n. turned_by n Left) (plain_turns a v.stack flat.0) in
      let ch : toggled_by (toggles_of a v.stack) c ≡ c = ap (λ n. toggled_by n c) (plain_toggles a v.stack flat.0) in
      let from : suc to ≡ x + length (a ∷ acts) = omega arith in
      let v' = after_one input v a in
      let one : Reaches rule input (moment_at s v) (moment_at (stand to y Left c) v') 1 1 =
      subst (λ z. Reaches rule input (moment_at s v) (moment_at (stand to y Left z) v') 1 1) ch
      (subst (λ d. Reaches rule input (moment_at s v) (moment_at (stand to y d (toggled_by (toggles_of a v.stack) c)) v') 1 1) keeps step) in
      let more = lane_go i x c l e acts (suc k) (omega arith) (omega arith) later flat.1 v' fit.1 in
      subst (λ j. Reaches rule input (moment_at (stand j y Left c) v) (moment_at (stand x y Left c) (after_all input v' acts)) (length (a ∷ acts)) (length (a ∷ acts))) from
      (and_then (length (a ∷ acts)) (length (a ∷ acts)) one more (omega arith) (omega arith))

  -- from the column through a whole lane
  lane_whole : (i x : ℕ) (c : Chooser) (v : Values) (s : List ℤ) → i < length lanes → x + suc (length (lane_at lanes i)) ≡ reach + 2 → after_act Pop 1 0 v.stack ≡ s → Fit input (with_stack v s) (lane_at lanes i)
      → Reaches rule input (moment_at (stand (reach + 2) (3 + (5 * i + 3)) Left c) v) (moment_at (stand x (6 + 5 * i) Left c) (after_all input (with_stack v s) (lane_at lanes i))) (suc (length (lane_at lanes i))) (suc (length (lane_at lanes i)))
  lane_whole i x c v s l e popped fit =
      let y = 6 + 5 * i in
      let lane = lane_at lanes i in
      let to = reach + 1 in
      let from : suc to ≡ reach + 2 = omega arith in
      let down : 3 + (5 * i + 3) ≡ y = omega arith in
      let here : picture (spot (suc to) y) ≡ in_shade (column_shade i 3) = ap (λ k. picture (spot k y)) from ∙ (ap (λ j. picture (spot (reach + 2) j)) (sym down) ∙ column_shown lanes reach start fits atlas input i 3 (omega arith) l) in
      let there : picture (spot to y) ≡ in_shade (shifted (column_shade i 3) Pop) = lane_codel i 1 to l (omega arith) (omega arith) (omega arith) ∙ ap in_shade (along-suc (column_shade i 3) (chain i) 0 Pop refl) in
      let step = act_step lanes reach start fits atlas input (stand (suc to) y Left c) (spot to y) (column_shade i 3) Pop v (shade_column i 3) here (ap (met_by (spot to y)) there) refl refl in
      let known : after_one input v Pop ≡ with_stack v s = quiet lanes reach start fits atlas input v Pop refl refl ∙ ap (with_stack v) popped in
      let first : Reaches rule input (moment_at (stand (suc to) y Left c) v) (moment_at (stand to y Left c) (with_stack v s)) 1 1 = subst (λ w. Reaches rule input (moment_at (stand (suc to) y Left c) v) (moment_at (stand to y Left c) w) 1 1) known step in
      let far : x + length lane ≡ to = omega arith in
      let rest = subst (λ j. Reaches rule input (moment_at (stand j y Left c) (with_stack v s)) (moment_at (stand x y Left c) (after_all input (with_stack v s) lane)) (length lane) (length lane)) far
      (lane_go i x c l e lane 1 (omega arith) (omega arith) (after_head (chain i) 0 Pop lane refl) (simple i) (with_stack v s) fit) in
      let all = and_then (suc (length lane)) (suc (length lane)) first rest (omega arith) (omega arith) in
      subst (λ j. Reaches rule input (moment_at (stand (reach + 2) j Left c) v) (moment_at (stand x y Left c) (after_all input (with_stack v s) lane)) (suc (length lane)) (suc (length lane))) (sym down)
      (subst (λ k. Reaches rule input (moment_at (stand k y Left c) v) (moment_at (stand x y Left c) (after_all input (with_stack v s) lane)) (suc (length lane)) (suc (length lane))) from all)

  -- from the last codel of a lane to the head of the column
  slide_home : (i x : ℕ) (c : Chooser) (v : Values) → i < length lanes → x + suc (length (lane_at lanes i)) ≡ reach + 2
      → Reaches rule input (moment_at (stand x (6 + 5 * i) Left c) v) (moment_at (stand (reach + 2) 3 Down (thrice lanes reach start fits c)) v) 1 1
  slide_home i zero c v l e = let n = near i in absurd (omega arith)
  slide_home i (suc x) c v l e =
      let y = 6 + 5 * i in
      let s = stand (suc x) y Left c in
      let n = suc (length (lane_at lanes i)) in
      let shade = shade_at i n in
      let home = stand (reach + 2) 3 Down (thrice lanes reach start fits c) in
      let alone = all_alone lanes reach start fits (spot (suc x) y) shade.hue shade.light (lane_codel i n (suc x) l e (omega arith) (omega arith)) in
      let tail : picture (spot x y) ≡ Some White = tail_white lanes reach start fits i x (suc n) l (omega arith) (omega arith) (omega arith) in
      let way : Slides picture [] (forward s (spot x y)) (Some home) = way_back lanes reach start fits c i x (suc n) l (omega arith) (omega arith) in
      let leaves : departure picture atlas s ≡ Some (record { act = None; to = home }) = departs_over picture atlas shade.hue shade.light s (spot x y) (Some home) alone (ap (met_by (spot x y)) tail) way in
      let went : applied rule input (moment_at s v) ≡ moment_at home v =
      step_is picture atlas input (moment_at s v) (Some (record { act = None; to = home })) refl refl leaves
      ∙ ap (λ o. record { config = record { at = home; stack = v.stack; reading = None; standing = Going }; taken = v.taken; output = o }) (append-nil v.output) in
      one_step rule input (moment_at s v) (moment_at home v) went

  -- from the corner to the lane at which the run starts
  goes_in : Reaches rule input (at_start (piet_start picture)) (moment_at (stand (reach + 2) (3 + (5 * start + 3)) Left ToLeft) nothing_yet) 1 1
  goes_in =
      let s = stand 0 0 Right ToLeft in
      let to = stand (reach + 2) (6 + 5 * start) Left ToLeft in
      let white : picture (spot 0 0) ≡ Some White = white_at lanes reach start fits 0 0 (cells.entry_row (length lanes) reach start fits 0 (omega arith)) in
      let begun : at_start (piet_start picture) ≡ moment_at s nothing_yet = ap (λ k. record { config = record { at = s; stack = []; reading = None; standing = first_standing k }; taken = 0; output = [] }) white in
      let slid : atlas.slid s ≡ Some to = one_end picture [] s (atlas.slid s) (Some to) (atlas.slides s white) (way_in lanes reach start fits ToLeft) in
      let leaves : departure picture atlas s ≡ Some (record { act = None; to = to }) = ap (departure_at picture atlas s) white ∙ ap sliding slid in
      let went : applied rule input (moment_at s nothing_yet) ≡ moment_at to nothing_yet = step_is picture atlas input (moment_at s nothing_yet) (Some (record { act = None; to = to })) refl refl leaves in
      let down : 6 + 5 * start ≡ 3 + (5 * start + 3) = omega arith in
      subst (λ j. Reaches rule input (at_start (piet_start picture)) (moment_at (stand (reach + 2) j Left ToLeft) nothing_yet) 1 1) down
      (subst (λ m. Reaches rule input m (moment_at to nothing_yet) 1 1) (sym begun) (one_step rule input (moment_at s nothing_yet) (moment_at to nothing_yet) went))

  -- at the foot of the column
  falls_in : (c : Chooser) (v : Values) → Reaches rule input (moment_at (stand (reach + 2) (3 + (5 * length lanes + 0)) Down c) v) (record { config = record { at = stand (reach + 2) (3 + (5 * length lanes + 0)) Down c; stack = v.stack; reading = None; standing = Ended }; taken = v.taken; output = v.output }) 1 1
  falls_in c v =
      let k = reach + 2 in
      let n = length lanes in
      let y = 3 + (5 * n + 0) in
      let s = stand k y Down c in
      let flat : 3 + 5 * n ≡ y = omega arith in
      let shade = column_shade n 0 in
      let foot : picture (spot k y) ≡ in_shade shade = ap (λ j. picture (spot k j)) (sym flat) ∙ ap (shown lanes) (cells.foot_cell n reach start fits) in
      let alone = all_alone lanes reach start fits (spot k y) shade.hue shade.light foot in
      let light : picture (spot k (suc y)) ≡ Some White = white_at lanes reach start fits k (suc y) (cells.trap_light n reach start fits k (suc y) (omega arith) (omega arith) (omega arith) (omega arith)) in
      let way : Slides picture [] (forward s (spot k (suc y))) None = subst (λ j. Slides picture [] (stand k (suc j) Down c) None) flat (trap lanes reach start fits c) in
      let leaves : departure picture atlas s ≡ None = departs_over picture atlas shade.hue shade.light s (spot k (suc y)) None alone (ap (met_by (spot k (suc y))) light) way in
      let over : Moment Config = record { config = record { at = s; stack = v.stack; reading = None; standing = Ended }; taken = v.taken; output = v.output } in
      let went : applied rule input (moment_at s v) ≡ over = step_is picture atlas input (moment_at s v) None refl refl leaves
      ∙ ap (λ o. record { config = record { at = s; stack = v.stack; reading = None; standing = Ended }; taken = v.taken; output = o }) (append-nil v.output) in
      one_step rule input (moment_at s v) over went

  comes : {To : Moment Config → Type 0} (m m' : Moment Config) (a b most : ℕ) → Reaches rule input m m' a b → 1 ≤ a → b ≤ most → To m' → Comes rule input m most To
  comes {To = To} m m' a b most r h g t = record { count = r.count; some = omega (arith, r.enough); few = omega (arith, r.few); there = subst To (sym r.ends) t }

  small : (j : ℕ) → j ≤ 32767 → nat_lt j (2 ^ 63) ≡ true
  small j h = grind (arith, nat_tests)

  lane_end : (i x : ℕ) (c : Chooser) (v : Values) → i < length lanes → x + suc (length (lane_at lanes i)) ≡ reach + 2 → AtEnd lanes reach i v (moment_at (stand x (6 + 5 * i) Left c) v)
  lane_end i x c v l e = record { x = x; chooser = c; here = e; known = l; is = refl }

  pub begins_so : Fit input nothing_yet (lane_at lanes start) → Comes rule input (at_start (piet_start picture)) (64 * (length lanes + length (lane_at lanes start) + 1)) (AtEnd lanes reach start (after_all input nothing_yet (lane_at lanes start)))
  begins_so fit =
      let lane = lane_at lanes start in
      let x = (reach + 2) - suc (length lane) in
      let n = near start in
      let e : x + suc (length lane) ≡ reach + 2 = omega arith in
      let whole = lane_whole start x ToLeft nothing_yet [] fits e refl fit in
      let all = and_then (suc (suc (length lane))) (suc (suc (length lane))) goes_in whole (omega arith) (omega arith) in
      comes (at_start (piet_start picture)) (moment_at (stand x (6 + 5 * start) Left ToLeft) (after_all input nothing_yet lane)) (suc (suc (length lane))) (suc (suc (length lane))) (64 * (length lanes + length lane + 1)) all (omega arith) (omega arith) (lane_end start x ToLeft (after_all input nothing_yet lane) fits e)

  pub goes_on_so : (i j : ℕ) (s : List ℤ) (v : Values) (m : Moment Config) → AtEnd lanes reach i (with_stack v (pos j ∷ s)) m → j ≤ 32767 → j < length lanes → Fit input (with_stack v s) (lane_at lanes j)
      → Comes rule input m (64 * (length lanes + length (lane_at lanes j) + 1)) (AtEnd lanes reach j (after_all input (with_stack v s) (lane_at lanes j)))
  goes_on_so i j s v m at h l fit =
      let lane = lane_at lanes j in
      let x = (reach + 2) - suc (length lane) in
      let n = near j in
      let e : x + suc (length lane) ≡ reach + 2 = omega arith in
      let c = thrice lanes reach start fits at.chooser in
      let home = slide_home i at.x at.chooser (with_stack v (pos j ∷ s)) at.known at.here in
      let zero_first : 0 + j ≡ j = zero-add j in
      let down = subst (λ k. Reaches rule input (moment_at (stand (reach + 2) 3 Down c) (with_stack v (pos j ∷ s))) (moment_at (stand (reach + 2) (3 + (5 * k + 3)) Left c) (with_stack v (pos 0 ∷ s))) (5 * j + 3) (5 * j + 3)) zero_first
      (down_to lanes reach start fits atlas input j 0 c s v (omega arith) (small j h)) in
      let whole = lane_whole j x c (with_stack v (pos 0 ∷ s)) s l e refl fit in
      let first = and_then 1 (5 * j + 4) home down (omega arith) (omega arith) in
      let all = and_then 1 (5 * j + 5 + length lane) first whole (omega arith) (omega arith) in
      let from = subst (λ m. Reaches rule input m (moment_at (stand x (6 + 5 * j) Left c) (after_all input (with_stack v s) lane)) 1 (5 * j + 5 + length lane)) at.is all in
      comes m (moment_at (stand x (6 + 5 * j) Left c) (after_all input (with_stack v s) lane)) 1 (5 * j + 5 + length lane) (64 * (length lanes + length lane + 1)) from (omega arith) (omega arith) (lane_end j x c (after_all input (with_stack v s) lane) l e)

  pub finishes_so : (i j : ℕ) (s : List ℤ) (v : Values) (m : Moment Config) → AtEnd lanes reach i (with_stack v (pos j ∷ s)) m → j ≤ 32767 → length lanes ≤ j
      → Comes rule input m (64 * (length lanes + 0 + 1)) (λ w. (w.config.standing ≡ Ended) × (w.taken ≡ v.taken) × (w.output ≡ v.output))
  finishes_so i j s v m at h l =
      let n = length lanes in
      let c = thrice lanes reach start fits at.chooser in
      let home = slide_home i at.x at.chooser (with_stack v (pos j ∷ s)) at.known at.here in
      let down = down_past lanes reach start fits atlas input n j 0 c s v (zero-add n) l (small j h) in
      let falls = falls_in c (with_stack v (pos (j - n) ∷ s)) in
      let over : Moment Config = record { config = record { at = stand (reach + 2) (3 + (5 * n + 0)) Down c; stack = pos (j - n) ∷ s; reading = None; standing = Ended }; taken = v.taken; output = v.output } in
      let first = and_then 1 (5 * n + 1) home down (omega arith) (omega arith) in
      let all = and_then 1 (5 * n + 2) first falls (omega arith) (omega arith) in
      let from = subst (λ m. Reaches rule input m over 1 (5 * n + 2)) at.is all in
      comes m over 1 (5 * n + 2) (64 * (n + 0 + 1)) from (omega arith) (omega arith) (refl, refl, refl)

-- the board runs its lanes
pub runs_lanes : (lanes : List (List Act)) (reach start : ℕ) (fits : start < length lanes) → ((i : ℕ) → length (lane_at lanes i) ≤ reach) → ((i : ℕ) → Plain (lane_at lanes i)) → (atlas : Atlas (board lanes reach start)) → RunsLanes (board lanes reach start) atlas lanes start (AtEnd lanes reach)
runs_lanes lanes reach start fits near simple atlas = record {
  going = λ i v m at. (ap (λ w. w.config.standing) (sym at.is), ap (λ w. w.taken) (sym at.is), ap (λ w. w.output) (sym at.is));
  begins = λ input. begins_so lanes reach start fits near simple atlas input;
  goes_on = λ input. goes_on_so lanes reach start fits near simple atlas input;
  finishes = λ input. finishes_so lanes reach start fits near simple atlas input;
}
