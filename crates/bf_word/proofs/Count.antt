-- A counter less or more by a word.
use Rattle.std.proofs.Common.{◌≡◌, ℕ, zero, suc, ◌+◌, ◌-◌, ◌*◌, ◌%◌, ◌^◌, ◌<◌, ◌≤◌, inl, inr, nat_lt, cond, List, ◌++◌, refl, sym, ap, subst, ◌∙◌, arith, suc-mul}
use Rattle.std.proofs.lemmas.Bool.{le-ltb}
use Rattle.bf_lang.specs.declared.command.Command.{Command}
use Rattle.bf_lang.specs.Balance.{IsBalanced}
use Rattle.bf_lang.specs.Cells.{raised}
use Rattle.bf_lang.proofs.Partners.{balanced_append}
use Rattle.bf_tape.specs.Tape.{Tape, get, put}
use Rattle.bf_tape.specs.Does.{Does}
use Rattle.bf_tape.specs.Slots.{IsNew}
use Rattle.bf_tape.specs.Code.{goto_code}
use Rattle.bf_tape.specs.Piece.{Counts}
use Rattle.bf_tape.specs.Piece.Counts.{Over, Turn}
use Rattle.bf_tape.proofs.Moves.{does_then, does_within}
use Rattle.bf_tape.proofs.Pieces.{does_goto, balanced_goto}
use Rattle.bf_tape.proofs.Turning.{does_times, balanced_times, get_put, get_other, put_same}
use Rattle.bf_tape.proofs.Slotted.{get_free}
use Rattle.bf_word.specs.Word.{low_byte, mid_byte, high_byte, word_in, with_word, IsCounter, IsApart, lifted_by, lifted_once, lowered_by, lowered_once}
use Rattle.bf_word.specs.Steps.{lower_0, lower_1, lower_2, lift_0, lift_1, lift_2, repeat_code, count_code}
use Rattle.bf_word.proofs.Bytes.{less, more, taken_more, borrow_more}
use Rattle.bf_word.proofs.Words.{put_free, put_put, cell_kept, bytes_of}
use Rattle.bf_word.proofs.Counted.{values}
use Rattle.bf_word.proofs.Placed.{counter_cells, number_at, lower_low, lower_mid, lower_high, lift_low, lift_mid, lift_high, number_is, number_start}

-- turns that count a cell down by themselves
counted_times : (input : List ℕ) (body : List Command) (c most top : ℕ) (at : ℕ → Tape) → ((n : ℕ) → get (at n) c ≡ n) → ((n : ℕ) → n < top → Does input body c (put (at (suc n)) c n) c (at n) most) → (n : ℕ) → n ≤ top
    → Counts input body c (at n) (at 0) (n * (most + 2))
counted_times input body c most top at is step zero le = let e : 0 ≡ 0 * (most + 2) = omega arith in subst (λ k. Counts input body c (at 0) (at 0) k) e (Over (at 0) (is 0))
counted_times input body c most top at is step (suc n) le =
    let e : most + 2 + n * (most + 2) ≡ suc n * (most + 2) = omega (arith, suc-mul n (most + 2)) in
    subst (λ k. Counts input body c (at (suc n)) (at 0) k) e (Turn (at (suc n)) (at n) (at 0) most (n * (most + 2)) n (is (suc n)) (step n (omega arith)) (counted_times input body c most top at is step n (omega arith)))

pub balanced_repeat : (h c at : ℕ) (step : List Command) → IsBalanced step → IsBalanced (repeat_code h c at step)
balanced_repeat h c at step b = balanced_times h c ((goto_code c at ++ step) ++ goto_code at c) (balanced_append (goto_code c at ++ step) (goto_code at c) (balanced_append (goto_code c at) step (balanced_goto c at) b) (balanced_goto at c))

-- as often as a cell says, a step of a counter in which the cell is not: `v k` is its number where k is left
does_repeat : (input : List ℕ) (step : List Command) (h c at : ℕ) (s : Tape) (w : ℕ) (v o : ℕ → ℕ) → h < 256 → c < 256 → at < 256 → IsBalanced step → IsNew c (counter_cells w) → get s c < 2 ^ 8
    → ((k : ℕ) (u : Tape) → k < get s c → Does input step at (number_at u w (v (suc k)) (o (suc k))) at (number_at u w (v k) (o k)) 200)
    → Does input (repeat_code h c at step) h (number_at s w (v (get s c)) (o (get s c))) c (number_at (put s c 0) w (v 0) (o 0)) (2 ^ 18)
does_repeat input step h c at s w v o lh lc la b new few steps =
    let x : ℕ = get s c in
    let body : List Command = (goto_code c at ++ step) ++ goto_code at c in
    let tape : ℕ → Tape = λ k. number_at (put s c k) w (v k) (o k) in
    let vs : ℕ → List ℕ = λ k. values (low_byte (v k)) (mid_byte (v k)) (high_byte (v k)) (o k) in
    let is : (k : ℕ) → get (tape k) c ≡ k = λ k. get_free (put s c k) c (counter_cells w) (vs k) new ∙ get_put s c k in
    let less_one : (k : ℕ) → put (tape (suc k)) c k ≡ number_at (put s c k) w (v (suc k)) (o (suc k)) = λ k.
    put_free (put s c (suc k)) c k (counter_cells w) (vs (suc k)) new ∙ ap (λ t. number_at t w (v (suc k)) (o (suc k))) (put_put s c (suc k) k) in
    let turn : (k : ℕ) → k < x → Does input body c (put (tape (suc k)) c k) c (tape k) 710 = λ k lk.
    subst (λ t. Does input body c t c (tape k) 710) (sym (less_one k))
    (does_then 710 (does_then 455 (does_goto input c at (number_at (put s c k) w (v (suc k)) (o (suc k))) 255 (omega arith)) (steps k (put s c k) lk) (omega arith)) (does_goto input at c (tape k) 255 (omega arith)) (omega arith)) in
    let start : tape x ≡ number_at s w (v x) (o x) = ap (λ t. number_at t w (v x) (o x)) (put_same s c x refl) in
    let counts : Counts input body c (number_at s w (v x) (o x)) (tape 0) (x * 712) = subst (λ t. Counts input body c t (tape 0) (x * 712)) start (counted_times input body c 710 x tape is turn x (omega arith)) in
    does_within (2 ^ 18) (does_times {body = body} h c lh lc (balanced_append (goto_code c at ++ step) (goto_code at c) (balanced_append (goto_code c at) step (balanced_goto c at) b) (balanced_goto at c)) counts) (omega arith)

new_cell : (g w i : ℕ) → i < 3 → IsApart g w → IsNew (g + i) (counter_cells w)
new_cell g w i li (inl h) = (omega arith, (omega arith, (omega arith, (omega arith, (omega arith, (omega arith, (omega arith, (omega arith, (omega arith, (omega arith, tt))))))))))
new_cell g w i li (inr h) = (omega arith, (omega arith, (omega arith, (omega arith, (omega arith, (omega arith, (omega arith, (omega arith, (omega arith, (omega arith, tt))))))))))

new_first : (g w : ℕ) → IsApart g w → IsNew g (counter_cells w)
new_first g w (inl h) = (omega arith, (omega arith, (omega arith, (omega arith, (omega arith, (omega arith, (omega arith, (omega arith, (omega arith, (omega arith, tt))))))))))
new_first g w (inr h) = (omega arith, (omega arith, (omega arith, (omega arith, (omega arith, (omega arith, (omega arith, (omega arith, (omega arith, (omega arith, tt))))))))))

-- the counter's cells when the word was cleared
still_counter : (s : Tape) (w g : ℕ) → IsApart g w → IsCounter w s → IsCounter w (with_word s g 0)
still_counter s w g (inl h) zeros = λ c lo hi. cell_kept s g 0 c (inr (omega arith)) ∙ zeros c lo hi
still_counter s w g (inr h) zeros = λ c lo hi. cell_kept s g 0 c (inl (omega arith)) ∙ zeros c lo hi

module _ (input : List ℕ) (h w g : ℕ) (s : Tape) (lh : h < 256) (lw : w < 247) (lg : g < 254) (apart : IsApart g w) (zeros : IsCounter w s) (bytes : (p : ℕ) → s.cells p < 2 ^ 8) where
  abbrev a : ℕ
  a = word_in s w

  abbrev x : ℕ
  x = get s g

  abbrev y : ℕ
  y = get s (g + 1)

  abbrev z : ℕ
  z = get s (g + 2)

  lx : x < 2 ^ 8
  lx = bytes (s.base + g)

  ly : y < 2 ^ 8
  ly = bytes (s.base + (g + 1))

  lz : z < 2 ^ 8
  lz = bytes (s.base + (g + 2))

  la : a < 2 ^ 24
  la = (bytes_of s w bytes).below

  abbrev s1 : Tape
  s1 = put s g 0

  abbrev s2 : Tape
  s2 = put s1 (g + 1) 0

  y_kept : get s1 (g + 1) ≡ y
  y_kept = get_other s g (g + 1) 0 (omega arith)

  z_kept : get s2 (g + 2) ≡ z
  z_kept = get_other s1 (g + 1) (g + 2) 0 (omega arith) ∙ get_other s g (g + 2) 0 (omega arith)

  -- the numbers on the way, where so much was taken or added
  abbrev left : ℕ → ℕ
  left t = (a + (2 ^ 24 - t)) % 2 ^ 24

  abbrev borrowed : ℕ → ℕ
  borrowed t = cond (nat_lt a t) 1 0

  abbrev sum : ℕ → ℕ
  sum t = (a + t) % 2 ^ 24

  lower_step : (step : List Command) (at p t : ℕ) (u : Tape) → t + p < 2 ^ 24 → ((d o : ℕ) → d < 2 ^ 24 → Does input step at (number_at u w d o) at (number_at u w (less p d) (cond (nat_lt d p) (raised o) o)) 200)
      → Does input step at (number_at u w (left t) (borrowed t)) at (number_at u w (left (t + p)) (borrowed (t + p))) 200
  lower_step step at p t u lt does =
      subst (λ k. Does input step at (number_at u w (left t) (borrowed t)) at k 200) (λ i. number_at u w (taken_more a t p la lt i) (borrow_more a t p la lt i)) (does (left t) (borrowed t) (omega arith))

  -- three loops, one for each byte
  lower_x : Does input (repeat_code h g w lower_0) h (number_at s w (left (x - x)) (borrowed (x - x))) g (number_at s1 w (left (x - 0)) (borrowed (x - 0))) (2 ^ 18)
  lower_x = does_repeat input lower_0 h g w s w (λ k. left (x - k)) (λ k. borrowed (x - k)) lh (omega arith) (omega arith) refl (new_first g w apart) lx
      (λ k u lk. let e : x - suc k + 1 ≡ x - k = omega arith in
      subst (λ t. Does input lower_0 w (number_at u w (left (x - suc k)) (borrowed (x - suc k))) w (number_at u w (left t) (borrowed t)) 200) e (lower_step lower_0 w 1 (x - suc k) u (omega (arith, lx)) (λ d o. lower_low input u w d o)))

  abbrev e2 : ℕ
  e2 = x + 256 * y

  lower_y : Does input (repeat_code g (g + 1) (w + 1) lower_1) g (number_at s1 w (left (e2 - 256 * get s1 (g + 1))) (borrowed (e2 - 256 * get s1 (g + 1)))) (g + 1) (number_at s2 w (left (e2 - 256 * 0)) (borrowed (e2 - 256 * 0))) (2 ^ 18)
  lower_y = does_repeat input lower_1 g (g + 1) (w + 1) s1 w (λ k. left (e2 - 256 * k)) (λ k. borrowed (e2 - 256 * k)) (omega arith) (omega arith) (omega arith) refl (new_cell g w 1 (omega arith) apart) (omega (arith, ly, y_kept))
      (λ k u lk. let e : e2 - 256 * suc k + 256 ≡ e2 - 256 * k = omega (arith, y_kept) in
      subst (λ t. Does input lower_1 (w + 1) (number_at u w (left (e2 - 256 * suc k)) (borrowed (e2 - 256 * suc k))) (w + 1) (number_at u w (left t) (borrowed t)) 200) e (lower_step lower_1 (w + 1) 256 (e2 - 256 * suc k) u (omega (arith, lx, ly, y_kept)) (λ d o. lower_mid input u w d o)))

  abbrev e3 : ℕ
  e3 = word_in s g

  lower_z : Does input (repeat_code (g + 1) (g + 2) (w + 2) lower_2) (g + 1) (number_at s2 w (left (e3 - 65536 * get s2 (g + 2))) (borrowed (e3 - 65536 * get s2 (g + 2)))) (g + 2)
      (number_at (put s2 (g + 2) 0) w (left (e3 - 65536 * 0)) (borrowed (e3 - 65536 * 0))) (2 ^ 18)
  lower_z = does_repeat input lower_2 (g + 1) (g + 2) (w + 2) s2 w (λ k. left (e3 - 65536 * k)) (λ k. borrowed (e3 - 65536 * k)) (omega arith) (omega arith) (omega arith) refl (new_cell g w 2 (omega arith) apart) (omega (arith, lz, z_kept))
      (λ k u lk. let e : e3 - 65536 * suc k + 65536 ≡ e3 - 65536 * k = omega (arith, z_kept) in
      subst (λ t. Does input lower_2 (w + 2) (number_at u w (left (e3 - 65536 * suc k)) (borrowed (e3 - 65536 * suc k))) (w + 2) (number_at u w (left t) (borrowed t)) 200) e (lower_step lower_2 (w + 2) 65536 (e3 - 65536 * suc k) u (omega (arith, lx, ly, lz, z_kept)) (λ d o. lower_high input u w d o)))

  pub lowered_word : Does input (count_code h w g lower_0 lower_1 lower_2) h s (g + 2) (lowered_by w g s) (2 ^ 20)
  lowered_word =
      let t0 : x - x ≡ 0 = omega arith in
      let l0 : left 0 ≡ a = omega (arith, la) in
      let b0 : borrowed 0 ≡ 0 = ap (λ b. cond b 1 0) (le-ltb a 0 (omega arith)) in
      let first : number_at s w (left (x - x)) (borrowed (x - x)) ≡ s = ap (λ t. number_at s w (left t) (borrowed t)) t0 ∙ ((λ i. number_at s w (l0 i) (b0 i)) ∙ number_start s w bytes zeros) in
      let t1 : e2 - 256 * get s1 (g + 1) ≡ x - 0 = omega (arith, y_kept) in
      let t2 : e3 - 65536 * get s2 (g + 2) ≡ e2 - 256 * 0 = omega (arith, z_kept) in
      let t3 : e3 - 65536 * 0 ≡ e3 = omega arith in
      let last : number_at (put s2 (g + 2) 0) w (left (e3 - 65536 * 0)) (borrowed (e3 - 65536 * 0)) ≡ lowered_by w g s =
      ap (λ t. number_at (put s2 (g + 2) 0) w (left t) (borrowed t)) t3 ∙ number_is (with_word s g 0) w (left e3) (borrowed e3) (still_counter s w g apart zeros) in
      subst (λ t. Does input (count_code h w g lower_0 lower_1 lower_2) h s (g + 2) t (2 ^ 20)) last
      (subst (λ t. Does input (count_code h w g lower_0 lower_1 lower_2) h t (g + 2) (number_at (put s2 (g + 2) 0) w (left (e3 - 65536 * 0)) (borrowed (e3 - 65536 * 0))) (2 ^ 20)) first
      (does_then (2 ^ 20)
      (does_then (2 ^ 19) lower_x (subst (λ t. Does input (repeat_code g (g + 1) (w + 1) lower_1) g (number_at s1 w (left t) (borrowed t)) (g + 1) (number_at s2 w (left (e2 - 256 * 0)) (borrowed (e2 - 256 * 0))) (2 ^ 18)) t1 lower_y) (omega arith))
      (subst (λ t. Does input (repeat_code (g + 1) (g + 2) (w + 2) lower_2) (g + 1) (number_at s2 w (left t) (borrowed t)) (g + 2) (number_at (put s2 (g + 2) 0) w (left (e3 - 65536 * 0)) (borrowed (e3 - 65536 * 0))) (2 ^ 18)) t2 lower_z) (omega arith)))

  lift_step : (step : List Command) (at p t : ℕ) (u : Tape) → ((d : ℕ) → Does input step at (number_at u w d 0) at (number_at u w (more p d) 0) 200)
      → Does input step at (number_at u w (sum t) 0) at (number_at u w (sum (t + p)) 0) 200
  lift_step step at p t u does = let e : more p (sum t) ≡ sum (t + p) = omega arith in subst (λ d. Does input step at (number_at u w (sum t) 0) at (number_at u w d 0) 200) e (does (sum t))

  lift_x : Does input (repeat_code h g w lift_0) h (number_at s w (sum (x - x)) 0) g (number_at s1 w (sum (x - 0)) 0) (2 ^ 18)
  lift_x = does_repeat input lift_0 h g w s w (λ k. sum (x - k)) (λ k. 0) lh (omega arith) (omega arith) refl (new_first g w apart) lx
      (λ k u lk. let e : x - suc k + 1 ≡ x - k = omega arith in
      subst (λ t. Does input lift_0 w (number_at u w (sum (x - suc k)) 0) w (number_at u w (sum t) 0) 200) e (lift_step lift_0 w 1 (x - suc k) u (λ d. lift_low input u w d 0)))

  lift_y : Does input (repeat_code g (g + 1) (w + 1) lift_1) g (number_at s1 w (sum (e2 - 256 * get s1 (g + 1))) 0) (g + 1) (number_at s2 w (sum (e2 - 256 * 0)) 0) (2 ^ 18)
  lift_y = does_repeat input lift_1 g (g + 1) (w + 1) s1 w (λ k. sum (e2 - 256 * k)) (λ k. 0) (omega arith) (omega arith) (omega arith) refl (new_cell g w 1 (omega arith) apart) (omega (arith, ly, y_kept))
      (λ k u lk. let e : e2 - 256 * suc k + 256 ≡ e2 - 256 * k = omega (arith, y_kept) in
      subst (λ t. Does input lift_1 (w + 1) (number_at u w (sum (e2 - 256 * suc k)) 0) (w + 1) (number_at u w (sum t) 0) 200) e (lift_step lift_1 (w + 1) 256 (e2 - 256 * suc k) u (λ d. lift_mid input u w d 0)))

  lift_z : Does input (repeat_code (g + 1) (g + 2) (w + 2) lift_2) (g + 1) (number_at s2 w (sum (e3 - 65536 * get s2 (g + 2))) 0) (g + 2) (number_at (put s2 (g + 2) 0) w (sum (e3 - 65536 * 0)) 0) (2 ^ 18)
  lift_z = does_repeat input lift_2 (g + 1) (g + 2) (w + 2) s2 w (λ k. sum (e3 - 65536 * k)) (λ k. 0) (omega arith) (omega arith) (omega arith) refl (new_cell g w 2 (omega arith) apart) (omega (arith, lz, z_kept))
      (λ k u lk. let e : e3 - 65536 * suc k + 65536 ≡ e3 - 65536 * k = omega (arith, z_kept) in
      subst (λ t. Does input lift_2 (w + 2) (number_at u w (sum (e3 - 65536 * suc k)) 0) (w + 2) (number_at u w (sum t) 0) 200) e (lift_step lift_2 (w + 2) 65536 (e3 - 65536 * suc k) u (λ d. lift_high input u w d 0)))

  pub lifted_word : Does input (count_code h w g lift_0 lift_1 lift_2) h s (g + 2) (lifted_by w g s) (2 ^ 20)
  lifted_word =
      let t0 : x - x ≡ 0 = omega arith in
      let l0 : sum 0 ≡ a = omega (arith, la) in
      let first : number_at s w (sum (x - x)) 0 ≡ s = ap (λ t. number_at s w (sum t) 0) t0 ∙ (ap (λ d. number_at s w d 0) l0 ∙ number_start s w bytes zeros) in
      let t1 : e2 - 256 * get s1 (g + 1) ≡ x - 0 = omega (arith, y_kept) in
      let t2 : e3 - 65536 * get s2 (g + 2) ≡ e2 - 256 * 0 = omega (arith, z_kept) in
      let t3 : e3 - 65536 * 0 ≡ e3 = omega arith in
      let base : Tape = with_word s g 0 in
      let end : Tape = with_word base w (sum e3) in
      let zero_there : get end (w + 9) ≡ 0 = cell_kept base w (sum e3) (w + 9) (inr (omega arith)) ∙ still_counter s w g apart zeros (w + 9) (omega arith) (omega arith) in
      let last : number_at (put s2 (g + 2) 0) w (sum (e3 - 65536 * 0)) 0 ≡ lifted_by w g s =
      ap (λ t. number_at (put s2 (g + 2) 0) w (sum t) 0) t3 ∙ (number_is base w (sum e3) 0 (still_counter s w g apart zeros) ∙ put_same end (w + 9) 0 zero_there) in
      subst (λ t. Does input (count_code h w g lift_0 lift_1 lift_2) h s (g + 2) t (2 ^ 20)) last
      (subst (λ t. Does input (count_code h w g lift_0 lift_1 lift_2) h t (g + 2) (number_at (put s2 (g + 2) 0) w (sum (e3 - 65536 * 0)) 0) (2 ^ 20)) first
      (does_then (2 ^ 20)
      (does_then (2 ^ 19) lift_x (subst (λ t. Does input (repeat_code g (g + 1) (w + 1) lift_1) g (number_at s1 w (sum t) 0) (g + 1) (number_at s2 w (sum (e2 - 256 * 0)) 0) (2 ^ 18)) t1 lift_y) (omega arith))
      (subst (λ t. Does input (repeat_code (g + 1) (g + 2) (w + 2) lift_2) (g + 1) (number_at s2 w (sum t) 0) (g + 2) (number_at (put s2 (g + 2) 0) w (sum (e3 - 65536 * 0)) 0) (2 ^ 18)) t2 lift_z) (omega arith)))

-- one less
pub lowered_one : (input : List ℕ) (h w : ℕ) (s : Tape) → h < 256 → w < 247 → IsCounter w s → ((p : ℕ) → s.cells p < 2 ^ 8) → Does input (goto_code h w ++ lower_0) h s w (lowered_once w s) 512
lowered_one input h w s lh lw zeros bytes =
    let a : ℕ = word_in s w in
    let first : number_at s w a 0 ≡ s = number_start s w bytes zeros in
    let last : number_at s w (less 1 a) (cond (nat_lt a 1) 1 0) ≡ lowered_once w s = number_is s w (less 1 a) (cond (nat_lt a 1) 1 0) zeros in
    let step : Does input lower_0 w (number_at s w a 0) w (number_at s w (less 1 a) (cond (nat_lt a 1) 1 0)) 200 = lower_low input s w a 0 (bytes_of s w bytes).below in
    subst (λ t. Does input (goto_code h w ++ lower_0) h s w t 512) last
    (subst (λ t. Does input (goto_code h w ++ lower_0) h t w (number_at s w (less 1 a) (cond (nat_lt a 1) 1 0)) 512) first
    (does_then 512 (does_goto input h w (number_at s w a 0) 255 (omega arith)) step (omega arith)))

-- one more
pub lifted_one : (input : List ℕ) (h w : ℕ) (s : Tape) → h < 256 → w < 247 → IsCounter w s → ((p : ℕ) → s.cells p < 2 ^ 8) → Does input (goto_code h w ++ lift_0) h s w (lifted_once w s) 512
lifted_one input h w s lh lw zeros bytes =
    let a : ℕ = word_in s w in
    let v : ℕ = more 1 a in
    let first : number_at s w a 0 ≡ s = number_start s w bytes zeros in
    let none : get (with_word s w v) (w + 9) ≡ 0 = cell_kept s w v (w + 9) (inr (omega arith)) ∙ zeros (w + 9) (omega arith) (omega arith) in
    let last : number_at s w v 0 ≡ lifted_once w s = number_is s w v 0 zeros ∙ put_same (with_word s w v) (w + 9) 0 none in
    let step : Does input lift_0 w (number_at s w a 0) w (number_at s w v 0) 200 = lift_low input s w a 0 in
    subst (λ t. Does input (goto_code h w ++ lift_0) h s w t 512) last
    (subst (λ t. Does input (goto_code h w ++ lift_0) h t w (number_at s w v 0) 512) first
    (does_then 512 (does_goto input h w (number_at s w a 0) 255 (omega arith)) step (omega arith)))

pub balanced_count : (h w g : ℕ) (low mid high : List Command) → IsBalanced low → IsBalanced mid → IsBalanced high → IsBalanced (count_code h w g low mid high)
balanced_count h w g low mid high bl bm bh =
    balanced_append (repeat_code h g w low ++ repeat_code g (g + 1) (w + 1) mid) (repeat_code (g + 1) (g + 2) (w + 2) high)
    (balanced_append (repeat_code h g w low) (repeat_code g (g + 1) (w + 1) mid) (balanced_repeat h g w low bl) (balanced_repeat g (g + 1) (w + 1) mid bm)) (balanced_repeat (g + 1) (g + 2) (w + 2) high bh)
