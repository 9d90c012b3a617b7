-- An access to a record.
use Rattle.std.proofs.Common.{◌≡◌, ◌≢◌, ℕ, suc, ◌+◌, ◌-◌, ◌*◌, ◌%◌, ◌^◌, ◌≤◌, Bool, true, false, cond, inr, List, [], ◌∷◌, length, refl, sym, ap, subst, ◌∙◌, arith}
use Rattle.mach_core.specs.Rule.{IsInput}
use Rattle.bf_tape.specs.Tape.{Tape, get, put}
use Rattle.bf_tape.specs.Does.{Does}
use Rattle.bf_tape.specs.Piece.{Piece, Adds, any, renamed, Walks, Strolls, Chooses}
use Rattle.bf_tape.proofs.Moves.{does_then, does_within}
use Rattle.bf_tape.proofs.Turning.{get_put, get_other, put_same}
use Rattle.bf_tape.proofs.Slotted.{get_held, get_free, put_held}
use Rattle.bf_word.specs.Word.{low_byte, mid_byte, high_byte, with_word}
use Rattle.bf_word.proofs.Words.{put_put, cell_kept}
use Rattle.bf_word.proofs.Written.{put_all_held, new_of}
use Rattle.bf_memory.specs.Walk.{carried, load_of, trailed, walking, returning, framed, at_record, IsAtRest, GoesOut, GoesHome, Accesses}
use Rattle.bf_memory.proofs.Walked.{carried_apart, walks_out, walks_home, free_trail}
use Rattle.bf_memory.proofs.Framed.{begins_walk, begins_home, ends_home}
use Rattle.bf_memory.proofs.Bodies.{Link, link, link_then, at}

-- the links of loops and choices
abbrev link_strolls : {p q body : Piece} {c by : ℕ} {right : Bool} (long : ℕ) → Strolls p q body c by right → length body.commands ≤ long → Link p q (long + 2048)
link_strolls long a le = record { added = a.added; commands = a.commands; short = omega (arith, a.short); balanced = a.balanced }

abbrev link_chooses : {p q this other : Piece} {c spare : ℕ} → Chooses p q this other c spare → Link p q (length this.commands + length other.commands + 4096)
link_chooses a = record { added = a.added; commands = a.commands; short = a.short; balanced = a.balanced }

module _ (s : Tape) (n v : ℕ) (rest : IsAtRest (framed s 136)) where
  -- the cell that says to go on
  go_zero : get s 150 ≡ 0
  go_zero = let e : s.base + 150 ≡ s.base + 136 + (22 * 0 + 14) = omega arith in ap s.cells e ∙ rest 0 14 (omega arith)

  set_off : (side : ℕ) → let t = put (with_word (with_word s 136 n) 146 v) 149 side in put t 150 ((get t 150 + 1) % 2 ^ 8) ≡ put t 150 1
  set_off side =
      let t : Tape = put (with_word (with_word s 136 n) 146 v) 149 side in
      let none : get t 150 ≡ 0 =
      get_other (with_word (with_word s 136 n) 146 v) 149 150 side (omega arith) ∙ (cell_kept (with_word s 136 n) 146 v 150 (inr (omega arith)) ∙ (cell_kept s 136 n 150 (inr (omega arith)) ∙ go_zero)) in
      ap (λ x. put t 150 ((x + 1) % 2 ^ 8)) none

-- what was counted down is cleared
cleared : (s : Tape) (x y z side j : ℕ) → with_word (walking s (2 ^ 24 - 1) x y z 0 side j) 0 0 ≡ walking s 0 x y z 0 side j
cleared s x y z side j = put_all_held (trailed s j) carried (load_of (2 ^ 24 - 1) x y z 0 side) ((0, 0) ∷ (1, 0) ∷ (2, 0) ∷ []) carried_apart refl refl

module _ (s : Tape) (rest : IsAtRest s) (v side j : ℕ) where
  record_side : get (at_record s v side j) 13 ≡ side
  record_side = get_held (trailed s j) carried (load_of 0 (low_byte v) (mid_byte v) (high_byte v) 0 side) 7 carried_apart (omega arith) refl

  spare_zero : get (at_record s v side j) 3 ≡ 0
  spare_zero = get_free (trailed s j) 3 carried (load_of 0 (low_byte v) (mid_byte v) (high_byte v) 0 side) (new_of 3 carried refl) ∙ (free_trail s j rest).left 3 (omega arith)

  -- the choice is over
  spare_back : put (put (at_record s v side j) 3 1) 3 0 ≡ at_record s v side j
  spare_back = put_put (at_record s v side j) 3 1 0 ∙ put_same (at_record s v side j) 3 0 spare_zero

  side_back : put (at_record s v side j) 13 0 ≡ at_record s v 0 j
  side_back = put_held (trailed s j) carried (load_of 0 (low_byte v) (mid_byte v) (high_byte v) 0 side) 7 0 carried_apart (omega arith) refl

pub access_adds : {p0 p1 p2 p3 p4 p5 p6 p7 p8 out home high low : Piece} → GoesOut out → GoesHome home → p1.cell ≡ 150 → p3.cell ≡ 14 → p5.cell ≡ 3 → p7.cell ≡ 37
    → Adds p0 p1 any (λ input s. put s 150 ((get s 150 + 1) % 2 ^ 8)) 512 512
    → Adds p1 p2 (λ s. 14 ≤ s.base + p1.cell) (λ input s. renamed s p1.cell 14) 0 0
    → Strolls p2 p3 out 14 22 true
    → Adds p3 p4 any (λ input s. with_word s 0 0) (3 * 2 ^ 10) (3 * 2 ^ 9)
    → Chooses p4 p5 high low 13 3
    → Adds p5 p6 (λ s. 25 ≤ s.base + p5.cell) (λ input s. renamed s p5.cell 25) 0 0
    → Strolls p6 p7 home 37 22 false
    → Adds p7 p8 (λ s. 151 ≤ s.base + p7.cell) (λ input s. renamed s p7.cell 151) 0 0
    → Accesses p0 p8 high low
access_adds {p0 = p0} {p1 = p1} {p2 = p2} {p3 = p3} {p4 = p4} {p5 = p5} {p6 = p6} {p7 = p7} {p8 = p8} {out = out} {home = home} {high = high} {low = low} goes_out goes_home c1 c3 c5 c7 a1 a2 a3 a4 a5 a6 a7 a8 =
    let l = link_then (link_then (link_then (link_then (link_then (link_then (link_then (link a1) (link a2)) (link_strolls (2 ^ 14) a3 goes_out.short)) (link a4)) (link_chooses a5)) (link a6)) (link_strolls (2 ^ 13) a7 goes_home.short)) (link a8) in
    record {
      added = l.added;
      commands = l.commands;
      short = omega (arith, l.short);
      balanced = l.balanced;
      does = λ input s s' n v v' most is_high is ln rest rest' arm.
          let side : ℕ = cond is_high 1 0 in
          let f : Tape = framed s 136 in
          let f' : Tape = framed s' 136 in
          let x : ℕ = low_byte v in
          let y : ℕ = mid_byte v in
          let z : ℕ = high_byte v in
          let s0 : Tape = put (with_word (with_word s 136 n) 146 v) 149 side in
          let s1 : Tape = put s0 150 1 in
          let s2 : Tape = walking f n x y z 1 side 0 in
          let s3 : Tape = walking f (2 ^ 24 - 1) x y z 0 side (n + 1) in
          let s4 : Tape = at_record f v side (n + 1) in
          let s5 : Tape = at_record f' v' 0 (n + 1) in
          let s6 : Tape = returning f' (low_byte v') (mid_byte v') (high_byte v') (n + 1) in
          let s7 : Tape = returning f' (low_byte v') (mid_byte v') (high_byte v') 0 in
          let s8 : Tape = with_word s' 146 v' in
          let d1 = at a1 input s0 s1 is tt (set_off s n v rest side) in
          let d2 = at a2 input s1 s2 is (omega (arith, c1)) (ap (λ c. renamed s1 c 14) c1 ∙ begins_walk s n v side) in
          let d3 : Does input a3.added p2.cell s2 p3.cell s3 ((n + 1) * (2 ^ 21 + 2 ^ 12 + 1024) + 512) =
          subst (λ c. Does input a3.added p2.cell s2 c s3 ((n + 1) * (2 ^ 21 + 2 ^ 12 + 1024) + 512)) (sym c3)
          (a3.does input s2 s3 (suc n) ((n + 1) * (2 ^ 21 + 2 ^ 12 + 1024)) is (subst (λ j. Walks input out.commands 14 22 true s2 (walking f (2 ^ 24 - 1) x y z 0 side j) (suc n) ((n + 1) * (2 ^ 21 + 2 ^ 12 + 1024))) (let e : 0 + n + 1 ≡ n + 1 = omega arith in e) (walks_out input out.commands (2 ^ 21 + 2 ^ 12) (goes_out.does input is) f rest x y z side n 0 ln))) in
          let d4 = at a4 input s3 s4 is tt (cleared f x y z side (n + 1)) in
          let d5 : Does input a5.added p4.cell s4 p5.cell s5 (most + 8192) = subst (λ c. Does input a5.added p4.cell s4 c s5 (most + 8192)) (sym c5) (choose input p4 p5 high low f f' rest rest' v v' (n + 1) most is_high is arm a5) in
          let d6 = at a6 input s5 s6 is (omega (arith, c5)) (ap (λ c. renamed s5 c 25) c5 ∙ begins_home f' rest' v' (n + 1) (omega arith)) in
          let d7 : Does input a7.added p6.cell s6 p7.cell s7 ((n + 1) * (2 ^ 20 + 1024) + 512) =
          subst (λ c. Does input a7.added p6.cell s6 c s7 ((n + 1) * (2 ^ 20 + 1024) + 512)) (sym c7)
          (a7.does input s6 s7 (n + 1) ((n + 1) * (2 ^ 20 + 1024)) is (walks_home f' rest' (omega arith) input home.commands (2 ^ 20) (goes_home.does input is) (low_byte v') (mid_byte v') (high_byte v') (n + 1))) in
          let d8 = at a8 input s7 s8 is (omega (arith, c7)) (ap (λ c. renamed s7 c 151) c7 ∙ ends_home s' v') in
          does_within (2 ^ 22 * (n + 1) + most + 2 ^ 15)
          (does_then (512 + 0 + ((n + 1) * (2 ^ 21 + 2 ^ 12 + 1024) + 512) + 3072 + (most + 8192) + 0 + ((n + 1) * (2 ^ 20 + 1024) + 512) + 0)
          (does_then (512 + 0 + ((n + 1) * (2 ^ 21 + 2 ^ 12 + 1024) + 512) + 3072 + (most + 8192) + 0 + ((n + 1) * (2 ^ 20 + 1024) + 512))
          (does_then (512 + 0 + ((n + 1) * (2 ^ 21 + 2 ^ 12 + 1024) + 512) + 3072 + (most + 8192) + 0)
          (does_then (512 + 0 + ((n + 1) * (2 ^ 21 + 2 ^ 12 + 1024) + 512) + 3072 + (most + 8192))
          (does_then (512 + 0 + ((n + 1) * (2 ^ 21 + 2 ^ 12 + 1024) + 512) + 3072)
          (does_then (512 + 0 + ((n + 1) * (2 ^ 21 + 2 ^ 12 + 1024) + 512))
          (does_then (512 + 0) d1 d2 (omega arith)) d3 (omega arith)) d4 (omega arith)) d5 (omega arith)) d6 (omega arith)) d7 (omega arith)) d8 (omega arith)) (omega arith);
    }
  where
    choose : (input : List ℕ) (p q high low : Piece) (f f' : Tape) → IsAtRest f → IsAtRest f' → (v v' j most : ℕ) (is_high : Bool) → IsInput input
        → Does input (cond is_high high.commands low.commands) 0 (put (at_record f v (cond is_high 1 0) j) 3 1) 0 (put (at_record f' v' (cond is_high 1 0) j) 3 1) most
        → (a : Chooses p q high low 13 3) → Does input a.added p.cell (at_record f v (cond is_high 1 0) j) 3 (at_record f' v' 0 j) (most + 8192)
    choose input p q high low f f' rest rest' v v' j most true is arm a =
        let t : Tape = put (at_record f' v' 1 j) 3 1 in
        let on : get (at_record f v 1 j) 13 ≢ 0 = λ e. absurd (omega (arith, record_side f rest v 1 j)) in
        let end : put (put t 3 0) 13 0 ≡ at_record f' v' 0 j = ap (λ u. put u 13 0) (spare_back f' rest' v' 1 j) ∙ side_back f' rest' v' 1 j in
        subst (λ u. Does input a.added p.cell (at_record f v 1 j) 3 u (most + 8192)) end
        (a.does_this input (at_record f v 1 j) t most is on arm (get_put (at_record f' v' 1 j) 3 1))
    choose input p q high low f f' rest rest' v v' j most false is arm a =
        let t : Tape = put (at_record f' v' 0 j) 3 1 in
        let end : put t 3 0 ≡ at_record f' v' 0 j = spare_back f' rest' v' 0 j in
        subst (λ u. Does input a.added p.cell (at_record f v 0 j) 3 u (most + 8192)) end
        (a.does_other input (at_record f v 0 j) t most is (record_side f rest v 0 j) arm (get_put (at_record f' v' 0 j) 3 1))
