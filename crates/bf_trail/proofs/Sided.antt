-- Ways to the half record where a trail ends.
use Rattle.std.proofs.Common.{◌≡◌, ◌≢◌, ℕ, zero, suc, ◌+◌, ◌-◌, ◌*◌, ◌^◌, ◌<◌, ◌≤◌, true, false, nat_lt, List, [], ◌∷◌, refl, sym, ap, subst, ◌∙◌, arith}
use Rattle.std.proofs.lemmas.Bool.Decides.{nat_tests}
use Rattle.bf_lang.specs.declared.command.Command.TheVariants.{Minus}
use Rattle.bf_lang.specs.Cells.{lowered}
use Rattle.bf_tape.specs.Tape.{Tape, get, put}
use Rattle.bf_tape.specs.Does.{Does, loop, Strides}
use Rattle.bf_tape.specs.Does.Strides.{Stand, Stride}
use Rattle.bf_tape.proofs.Moves.{does_minus, does_strides, does_within}
use Rattle.bf_tape.proofs.Pieces.{does_rights, does_lefts}
use Rattle.bf_tape.proofs.Turning.{get_put, get_other}
use Rattle.bf_trail.specs.Trail.{Trail, left, there, here, lay_most, laid, IsBlank}
use Rattle.bf_trail.specs.Sides.{end_of, TrailsGrow, take_up_code, sided, half, AtHalf, Sides, SidesAreReached, TrailsAreTakenUp}
use Rattle.bf_columns.proofs.Tapes.{next, between, comes_to, put_same, put_is}
use Rattle.bf_trail.proofs.Marks.{get_laid_other, get_laid}
use Rattle.bf_trail.proofs.Scanned.{trail_walked}
use Rattle.bf_trail.proofs.Laid.{marks_laid}
use Rattle.bf_trail.proofs.Tripped.{trail_of}
use Rattle.bf_columns.proofs.Moved.{clear_small}

pub trails_grow : TrailsGrow
trails_grow input s h n j trail blank =
    let m : ℕ = 4 ^ j in
    let e : ℕ = end_of h n in
    let u : Tape = laid s e m in
    let f : e + 8 * m ≡ end_of h (n + m) = omega arith in
    let at : (k : ℕ) → e + 8 * k ≡ h + 8 * (n + k + 1) = λ k. omega arith in
    let kept : (c : ℕ) → ((k : ℕ) → n ≤ k → k < n + m → end_of h k ≢ c) → get u c ≡ get s c = λ c off.
    get_laid_other s e m c (λ k lt z. off (n + k) (omega arith) (omega arith) (sym (at k) ∙ z)) in
    let grown : Trail u h (n + m) = record {
      before = kept h (λ k le lt z. absurd (omega arith)) ∙ trail.before;
      marks = λ k lt. by_place k lt;
      end =
          let g : e + 4 * (2 * m) ≡ h + 8 * (n + m + 1) = omega arith in
          kept (h + 8 * (n + m + 1)) (λ i low lt z. absurd (omega arith)) ∙ (ap (get s) (sym g) ∙ blank.at (2 * m));
    } in record {
      new = u;
      does = does_within (18 * (n + m + 1) + lay_most j)
          (next (next (trail_walked input s h n trail).out (between e (end_of h (n + m)) ((marks_laid input j).does e s blank) refl f)) (trail_walked input u h (n + m) grown).back) (omega arith);
      trail = grown;
      kept = kept;
    }
  where
    by_place : (k : ℕ) → k < n + 4 ^ j → get (laid s (end_of h n) (4 ^ j)) (h + 8 * (k + 1)) ≡ 1
    by_place k lt = elim (nat_lt k n) as (λ t. nat_lt k n ≡ t → get (laid s (end_of h n) (4 ^ j)) (h + 8 * (k + 1)) ≡ 1) [
      | true ↦ λ e. let below : k < n = grind (arith, nat_tests) in get_laid_other s (end_of h n) (4 ^ j) (h + 8 * (k + 1)) (λ i li z. absurd (omega arith)) ∙ trail.marks k below
      | false ↦ λ e.
          let above : n ≤ k = grind (arith, nat_tests) in
          let f : end_of h n + 8 * (k - n) ≡ h + 8 * (k + 1) = omega arith in
          ap (get (laid s (end_of h n) (4 ^ j))) (sym f) ∙ get_laid s (end_of h n) (4 ^ j) (k - n) (omega arith)
    ] refl

module _ (input : List ℕ) (s : Tape) (h n : ℕ) where
  abbrev end : ℕ
  end = end_of h n

  -- from beside the trail's end past the mark there, if there is one
  passed : (side : ℕ) → side < 2 → AtHalf s h n side → Does input (loop there) (end + 4) s (half h n side + 4) s 6
  passed zero lt at =
      let e : end + 4 ≡ half h n 0 + 4 = omega arith in
      does_within 6 (between (end + 4) (half h n 0 + 4) (does_strides {body = there} refl (Stand (end + 4) s at.beside)) refl e) (omega arith)
  passed (suc side) lt at =
      let e : end + 4 + 4 ≡ half h n (suc side) + 4 = omega arith in
      let on : get s (end + 4) ≢ 0 = λ z. absurd (omega (arith, at.beside, z)) in
      does_within 6 (between (end + 4) (half h n (suc side) + 4)
      (does_strides {body = there} refl (Stride (end + 4) (end + 4 + 4) (end + 4 + 4) s s s 4 0 on (does_rights input 4 (end + 4) s)
      (Stand (end + 4 + 4) s (ap (get s) e ∙ at.guard)))) refl e) (omega arith)

  -- from the half record to the trail's end
  to_end : (side : ℕ) → side < 2 → AtHalf s h n side → Does input (loop here) (half h n side) s end s 6
  to_end zero lt at =
      let e : end ≡ half h n 0 = omega arith in
      does_within 6 (between (half h n 0) end (does_strides {body = here} refl (Stand end s at.trail.end)) e refl) (omega arith)
  to_end (suc side) lt at =
      let e : end + 4 ≡ half h n (suc side) = omega arith in
      let on : get s (end + 4) ≢ 0 = λ z. absurd (omega (arith, at.beside, z)) in
      does_within 6 (between (half h n (suc side)) end
      (does_strides {body = here} refl (Stride (end + 4) end end s s s 4 0 on (does_lefts input 4 end s) (Stand end s at.trail.end))) e refl) (omega arith)

  pub reached : (side : ℕ) → side < 2 → AtHalf s h n side → Sides input s h n side
  reached side lt at =
      let walked = trail_walked input s h n at.trail in record {
        out = does_within (9 * (n + 1) + 20) (next (next (next walked.out (does_rights input 4 end s)) (passed side lt at)) (does_lefts input 4 (half h n side) s)) (omega arith);
        back = does_within (9 * (n + 1) + 8) (next (to_end side lt at) walked.back) (omega arith);
      }

pub sides_reached : SidesAreReached
sides_reached input s h n side lt at = reached input s h n side lt at

module _ (input : List ℕ) (s : Tape) (h : ℕ) (blank : IsBlank s (h + 8)) (none : get s h ≡ 0) where
  -- each mark taken up
  sweep : (m : ℕ) → Strides input (Minus ∷ left) (h + 8 * m) (laid s (h + 8) m) h s (10 * m)
  sweep zero = let e : h ≡ h + 8 * 0 = omega arith in subst (λ c. Strides input (Minus ∷ left) c s h s 0) e (Stand h s none)
  sweep (suc m) =
      let t : Tape = laid s (h + 8) m in
      let c : ℕ = h + 8 + 8 * m in
      let e : c ≡ h + 8 * suc m = omega arith in
      let f : h + 8 * m + 8 ≡ c = omega arith in
      let g : h + 8 + 4 * (2 * m) ≡ c = omega arith in
      let q : 9 + 1 + 10 * m ≡ 10 * suc m = omega arith in
      let off : get t c ≡ 0 = get_laid_other s (h + 8) m c (λ k lt z. absurd (omega arith)) ∙ (ap (get s) (sym g) ∙ blank.at (2 * m)) in
      let on : get (put t c 1) c ≢ 0 = λ z. absurd (omega (arith, get_put t c 1, z)) in
      let down : Does input (Minus ∷ []) c (put t c 1) c t 1 = comes_to t (does_minus input c (put t c 1)) (ap (λ v. put (put t c 1) c (lowered v)) (get_put t c 1) ∙ (put_same t c 1 0 ∙ put_is t c 0 off)) in
      let turn : Does input (Minus ∷ left) c (put t c 1) (h + 8 * m) t 9 = next down (between c (h + 8 * m) (does_lefts input 8 (h + 8 * m) t) f refl) in
      subst (λ k. Strides input (Minus ∷ left) (h + 8 * suc m) (laid s (h + 8) (suc m)) h s k) q
      (subst (λ k. Strides input (Minus ∷ left) k (laid s (h + 8) (suc m)) h s (9 + 1 + 10 * m)) e (Stride c (h + 8 * m) h (put t c 1) t s 9 (10 * m) on turn (sweep m)))

  blank_at : (n c k : ℕ) → h + 8 + 4 * k ≡ c → ((j : ℕ) → j < n → h + 8 + 8 * j ≢ c) → get (laid s (h + 8) n) c ≡ 0
  blank_at n c k e off = get_laid_other s (h + 8) n c off ∙ (ap (get s) (sym e) ∙ blank.at k)

  at_half : (n side : ℕ) → side < 2 → AtHalf (sided s h n side) h n side
  at_half n side lt =
      let t : Tape = laid s (h + 8) n in
      let on = trail_of s h n blank none in record {
        trail = record {
          before = get_other t (end_of h n + 4) h side (omega arith) ∙ on.before;
          marks = λ k lt. get_other t (end_of h n + 4) (h + 8 * (k + 1)) side (λ z. absurd (omega arith)) ∙ on.marks k lt;
          end = get_other t (end_of h n + 4) (h + 8 * (n + 1)) side (omega arith) ∙ on.end;
        };
        beside = get_put t (end_of h n + 4) side;
        guard = by_side side lt;
      }
    where
      by_side : (side : ℕ) → side < 2 → get (sided s h n side) (half h n side + 4) ≡ 0
      by_side zero lt =
          let e : end_of h n + 4 ≡ half h n 0 + 4 = omega arith in
          ap (get (sided s h n 0)) (sym e) ∙ get_put (laid s (h + 8) n) (end_of h n + 4) 0
      by_side (suc side) lt =
          let e : end_of h n + 8 ≡ half h n (suc side) + 4 = omega arith in
          ap (get (sided s h n (suc side))) (sym e) ∙ (get_other (laid s (h + 8) n) (end_of h n + 4) (end_of h n + 8) (suc side) (omega arith)
          ∙ blank_at n (end_of h n + 8) (2 * n + 2) (omega arith) (λ k less z. absurd (omega arith)))

  taken_up : (n side : ℕ) → side < 2 → Does input take_up_code (half h n side) (sided s h n side) h s (10 * n + 40)
  taken_up n side lt =
      let e : ℕ = end_of h n in
      let t : Tape = laid s (h + 8) n in
      let u : Tape = sided s h n side in
      let off : get t (e + 4) ≡ 0 = blank_at n (e + 4) (2 * n + 1) (omega arith) (λ k less z. absurd (omega arith)) in
      let clear : Does input (loop (Minus ∷ [])) (e + 4) u (e + 4) t 3 = comes_to t (clear_small input (e + 4) side u (get_put t (e + 4) side) lt) (put_same t (e + 4) side 0 ∙ put_is t (e + 4) 0 off) in
      let back : h + 8 * n + 8 ≡ e = omega arith in
      does_within (10 * n + 40)
      (next (next (next (next (next (to_end input u h n side lt (at_half n side lt)) (does_rights input 4 e u)) clear) (does_lefts input 4 e t)) (between e (h + 8 * n) (does_lefts input 8 (h + 8 * n) t) back refl)) (does_strides {body = Minus ∷ left} refl (sweep n))) (omega arith)

pub trails_taken_up : TrailsAreTakenUp
trails_taken_up input s h n side lt blank none = (at_half input s h blank none n side lt, taken_up input s h blank none n side lt)
