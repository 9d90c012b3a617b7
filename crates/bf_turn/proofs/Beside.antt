-- Cells beside the digits of a choice.
use Rattle.std.proofs.Common.{◌≡◌, ◌≢◌, ℕ, zero, suc, ◌+◌, ◌*◌, ◌/◌, ◌%◌, ◌^◌, ◌<◌, ◌≤◌, Bool, true, false, nat_eq, nat_lt, cond, List, [], ◌∷◌, refl, ap, ◌∙◌, arith}
use Rattle.std.proofs.lemmas.Bool.{eqb-false, ltb-true, ltb-false}
use Rattle.eir_core.specs.Memory.{Memory}
use Rattle.eir_core.specs.Step.{Regs}
use Rattle.bf_tape.specs.Tape.{Tape, get, put}
use Rattle.bf_tape.proofs.Turning.{get_put, get_other}
use Rattle.bf_word.specs.Word.{word_in, with_word, low_byte, mid_byte, high_byte}
use Rattle.bf_memory.specs.Row.{Holds, slot}
use Rattle.bf_ops.specs.Frame.{cell_of, IsFrame, Keeps}
use Rattle.bf_ops.proofs.Kept.{stands, slot_far}
use Rattle.bf_choice.specs.Choice.{bit_cell, spare_cell, chosen, chosen_at, none_chosen, StillChosen, aimed, advanced, AreFree, AreBare}
use Rattle.bf_choice.proofs.Chosen.{swapped, none_get}
use Rattle.bf_choice.proofs.Aimed.{aimed_put}

-- what no put changes
module _ {A : Type 0} (f : Tape → A) (same : (s : Tape) (c v : ℕ) → f (put s c v) ≡ f s) where
  pub of_chosen : (d : ℕ) (bs : List Bool) (s : Tape) → f (chosen d bs s) ≡ f s
  of_chosen zero bs s = refl
  of_chosen (suc d) [] s = refl
  of_chosen (suc d) (b ∷ bs) s =
      of_chosen d bs (put (put s (bit_cell d) (cond b 1 0)) (spare_cell d) 0) ∙ (same (put s (bit_cell d) (cond b 1 0)) (spare_cell d) 0 ∙ same s (bit_cell d) (cond b 1 0))

  pub of_chosen_at : (d : ℕ) (bs : List Bool) (s : Tape) → f (chosen_at d bs s) ≡ f s
  of_chosen_at zero bs s = refl
  of_chosen_at (suc d) [] s = refl
  of_chosen_at (suc d) (b ∷ bs) s =
      of_chosen_at d bs (put (put s (bit_cell d) (cond b 1 0)) (spare_cell d) 1) ∙ (same (put s (bit_cell d) (cond b 1 0)) (spare_cell d) 1 ∙ same s (bit_cell d) (cond b 1 0))

  pub of_none : (d : ℕ) (s : Tape) → f (none_chosen d s) ≡ f s
  of_none zero s = refl
  of_none (suc d) s = of_none d (put (put s (bit_cell d) 0) (spare_cell d) 0) ∙ (same (put s (bit_cell d) 0) (spare_cell d) 0 ∙ same s (bit_cell d) 0)

  pub of_aimed : (d n : ℕ) (s : Tape) → f (aimed d n s) ≡ f s
  of_aimed zero n s = refl
  of_aimed (suc d) n s = same (aimed d n s) (3 * d + 3) (n / 2 ^ d % 2) ∙ of_aimed d n s

  pub of_advanced : (d : ℕ) (s : Tape) → f (advanced d s) ≡ f s
  of_advanced zero s = refl
  of_advanced (suc d) s =
      let t : Tape = advanced d s in
      let x : ℕ = (get t (3 * d + 1) + get t (3 * d + 3)) % 2 ^ 8 in
      same (put t (3 * d + 1) x) (3 * d + 3) 0 ∙ (same t (3 * d + 1) x ∙ of_advanced d s)

-- cells that a choice under way leaves
pub at_beyond : (d : ℕ) (bs : List Bool) (s : Tape) (c : ℕ) → 3 * d < c → get (chosen_at d bs s) c ≡ get s c
at_beyond zero bs s c h = refl
at_beyond (suc d) [] s c h = refl
at_beyond (suc d) (b ∷ bs) s c h =
    at_beyond d bs (put (put s (bit_cell d) (cond b 1 0)) (spare_cell d) 1) c (omega arith) ∙ (get_other (put s (bit_cell d) (cond b 1 0)) (spare_cell d) c 1 (omega arith) ∙ get_other s (bit_cell d) c (cond b 1 0) (omega arith))

pub at_third : (d : ℕ) (bs : List Bool) (s : Tape) (c : ℕ) → c % 3 ≡ 0 → get (chosen_at d bs s) c ≡ get s c
at_third zero bs s c h = refl
at_third (suc d) [] s c h = refl
at_third (suc d) (b ∷ bs) s c h =
    at_third d bs (put (put s (bit_cell d) (cond b 1 0)) (spare_cell d) 1) c h ∙ (get_other (put s (bit_cell d) (cond b 1 0)) (spare_cell d) c 1 (omega arith) ∙ get_other s (bit_cell d) c (cond b 1 0) (omega arith))

pub none_third : (d : ℕ) (s : Tape) (c : ℕ) → c % 3 ≡ 0 → get (none_chosen d s) c ≡ get s c
none_third zero s c h = refl
none_third (suc d) s c h = none_third d (put (put s (bit_cell d) 0) (spare_cell d) 0) c h ∙ (get_other (put s (bit_cell d) 0) (spare_cell d) c 0 (omega arith) ∙ get_other s (bit_cell d) c 0 (omega arith))

-- and what is aimed at leaves
pub aimed_other : (d n : ℕ) (s : Tape) (c : ℕ) → c % 3 ≢ 0 → get (aimed d n s) c ≡ get s c
aimed_other zero n s c h = refl
aimed_other (suc d) n s c h = get_other (aimed d n s) (3 * d + 3) c (n / 2 ^ d % 2) (omega arith) ∙ aimed_other d n s c h

pub aimed_first : (d n : ℕ) (s : Tape) → get (aimed d n s) 0 ≡ get s 0
aimed_first zero n s = refl
aimed_first (suc d) n s = get_other (aimed d n s) (3 * d + 3) 0 (n / 2 ^ d % 2) (omega arith) ∙ aimed_first d n s

aimed_aside : (d n : ℕ) (s : Tape) (c v : ℕ) → c % 3 ≢ 0 → put (aimed d n s) c v ≡ aimed d n (put s c v)
aimed_aside zero n s c v h = refl
aimed_aside (suc d) n s c v h = swapped (aimed d n s) (3 * d + 3) c (n / 2 ^ d % 2) v (omega arith) ∙ ap (λ u. put u (3 * d + 3) (n / 2 ^ d % 2)) (aimed_aside d n s c v h)

pub none_aimed : (e d n : ℕ) (s : Tape) → none_chosen e (aimed d n s) ≡ aimed d n (none_chosen e s)
none_aimed zero d n s = refl
none_aimed (suc e) d n s =
    ap (λ t. none_chosen e t) (ap (λ t. put t (spare_cell e) 0) (aimed_aside d n s (bit_cell e) 0 (omega arith)) ∙ aimed_aside d n (put s (bit_cell e) 0) (spare_cell e) 0 (omega arith))
    ∙ none_aimed e d n (put (put s (bit_cell e) 0) (spare_cell e) 0)

pub advanced_first : (d : ℕ) (s : Tape) → get (advanced d s) 0 ≡ get s 0
advanced_first zero s = refl
advanced_first (suc d) s =
    let t : Tape = advanced d s in
    let x : ℕ = (get t (3 * d + 1) + get t (3 * d + 3)) % 2 ^ 8 in
    get_other (put t (3 * d + 1) x) (3 * d + 3) 0 0 (omega arith) ∙ (get_other t (3 * d + 1) 0 x (omega arith) ∙ advanced_first d s)

pub aimed_word : (d n : ℕ) (s : Tape) (w v : ℕ) → 3 * d < w → with_word (aimed d n s) w v ≡ aimed d n (with_word s w v)
aimed_word d n s w v h =
    ap (λ t. put (put t (w + 1) (mid_byte v)) (w + 2) (high_byte v)) (aimed_put d n s w (low_byte v) h)
    ∙ (ap (λ t. put t (w + 2) (high_byte v)) (aimed_put d n (put s w (low_byte v)) (w + 1) (mid_byte v) (omega arith))
    ∙ aimed_put d n (put (put s w (low_byte v)) (w + 1) (mid_byte v)) (w + 2) (high_byte v) (omega arith))

-- a choice that stays under way
pub still_at : (d : ℕ) (bs : List Bool) (s : Tape) → StillChosen d bs (chosen_at d bs s)
still_at zero bs s = tt
still_at (suc d) [] s = tt
still_at (suc d) (b ∷ bs) s =
    let t : Tape = put (put s (bit_cell d) (cond b 1 0)) (spare_cell d) 1 in (
      at_beyond d bs t (bit_cell d) (omega arith) ∙ (get_other (put s (bit_cell d) (cond b 1 0)) (spare_cell d) (bit_cell d) 1 (omega arith) ∙ get_put s (bit_cell d) (cond b 1 0)),
      (at_beyond d bs t (spare_cell d) (omega arith) ∙ get_put (put s (bit_cell d) (cond b 1 0)) (spare_cell d) 1, still_at d bs t),
    )

pub still_same : (d : ℕ) (bs : List Bool) (t u : Tape) → ((c : ℕ) → c < 3 * d + 1 → c % 3 ≢ 0 → get t c ≡ get u c) → StillChosen d bs u → StillChosen d bs t
still_same zero bs t u same still = tt
still_same (suc d) [] t u same still = tt
still_same (suc d) (b ∷ bs) t u same still =
    (same (bit_cell d) (omega arith) (omega arith) ∙ still.0, (same (spare_cell d) (omega arith) (omega arith) ∙ still.1.0, still_same d bs t u (λ c lt h. same c (omega arith) h) still.1.1))

-- the cells of a digit, cleared
digit_bare : (d : ℕ) (s : Tape) (c : ℕ) → 3 * d < c → c < 3 * suc d + 1 → get s (3 * d + 3) ≡ 0 → get (put (put s (bit_cell d) 0) (spare_cell d) 0) c ≡ 0
digit_bare d s c lo hi next =
    elim (nat_eq (s.base + c) (s.base + spare_cell d)) as (λ t. nat_eq (s.base + c) (s.base + spare_cell d) ≡ t → cond t 0 (cond (nat_eq (s.base + c) (s.base + bit_cell d)) 0 (get s c)) ≡ 0) [
      | true ↦ λ e. refl
      | false ↦ λ e.
          let not_spare : s.base + c ≢ s.base + spare_cell d = eqb-false (s.base + c) (s.base + spare_cell d) e in
          elim (nat_eq (s.base + c) (s.base + bit_cell d)) as (λ t. nat_eq (s.base + c) (s.base + bit_cell d) ≡ t → cond t 0 (get s c) ≡ 0) [
            | true ↦ λ f. refl
            | false ↦ λ f.
                let not_bit : s.base + c ≢ s.base + bit_cell d = eqb-false (s.base + c) (s.base + bit_cell d) f in
                let is : c ≡ 3 * d + 3 = omega arith in
                ap (get s) is ∙ next
          ] refl
    ] refl

pub none_bare : (d : ℕ) (s : Tape) → AreFree d s → AreBare d (none_chosen d s)
none_bare zero s free = λ c lo hi. absurd (omega arith)
none_bare (suc d) s free =
    let t : Tape = put (put s (bit_cell d) 0) (spare_cell d) 0 in
    let free' : AreFree d t = λ i lt. get_other (put s (bit_cell d) 0) (spare_cell d) (3 * i + 3) 0 (omega arith) ∙ (get_other s (bit_cell d) (3 * i + 3) 0 (omega arith) ∙ free i (omega arith)) in
    λ c lo hi. elim (nat_lt (3 * d) c) as (λ b. nat_lt (3 * d) c ≡ b → get (none_chosen d t) c ≡ 0) [
      | true ↦ λ e. let far : 3 * d < c = ltb-true (3 * d) c e in none_get d t c far ∙ digit_bare d s c far hi (free d (omega arith))
      | false ↦ λ e. let near : c ≤ 3 * d = ltb-false (3 * d) c e in none_bare d t free' c lo (omega arith)
    ] refl

-- registers and memory stand beyond all these
word_same : (s t : Tape) → ((c : ℕ) → 46 ≤ c → get t c ≡ get s c) → (w : ℕ) → 46 ≤ w → word_in t w ≡ word_in s w
word_same s t same w far = λ i. same w far i + 256 * same (w + 1) (omega arith) i + 65536 * same (w + 2) (omega arith) i

pub frame_same : (s t : Tape) → ((c : ℕ) → 46 ≤ c → get t c ≡ get s c) → IsFrame s → IsFrame t
frame_same s t same frame = record {
  counters = λ x c lo hi. let at = stands x in same c (omega (arith, at.at)) ∙ frame.counters x c lo hi;
  own = λ c lo hi. same c (omega arith) ∙ frame.own c lo hi;
  clear = λ c lo hi. same c (omega arith) ∙ frame.clear c lo hi;
}

pub holds_same : (m : Memory) (s t : Tape) → ((c : ℕ) → 46 ≤ c → get t c ≡ get s c) → Holds m s → Holds m t
holds_same m s t same holds = record {
  words = λ a la. let far : 174 ≤ slot a = slot_far a in word_same s t same (slot a) (omega arith) ∙ holds.words a la;
  empty = λ k c lc. same (158 + 22 * k + c) (omega arith) ∙ holds.empty k c lc;
}

pub keeps_same : (r : Regs) (m : Memory) (s t : Tape) → ((c : ℕ) → 46 ≤ c → get t c ≡ get s c) → Keeps r m s → Keeps r m t
keeps_same r m s t same keeps = record {
  frame = frame_same s t same keeps.frame;
  regs = λ x. let at = stands x in word_same s t same (cell_of x) (omega (arith, at.at)) ∙ keeps.regs x;
  memory = holds_same m s t same keeps.memory;
}
