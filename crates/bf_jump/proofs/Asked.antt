-- Comparisons that are asked for.
use Rattle.std.proofs.Common.{◌≡◌, ◌≢◌, ℕ, ◌+◌, ◌*◌, ◌%◌, ◌^◌, ◌<◌, ◌≤◌, inl, inr, Bool, true, false, not, nat_eq, cond, List, ◌++◌, refl, sym, ap, subst, ◌∙◌, arith}
use Rattle.word24.specs.declared.word.Word.{Word}
use Rattle.word24.specs.Word.{number_of}
use Rattle.eir_core.specs.declared.ops.Reg.{Reg}
use Rattle.eir_core.specs.declared.ops.Reg.TheVariants.{A, B, C, D, SP, BP}
use Rattle.eir_core.specs.declared.ops.Operand.{Operand}
use Rattle.eir_core.specs.declared.ops.Operand.TheVariants.{Reg as register, Imm}
use Rattle.eir_core.specs.declared.ops.Cond.{Cond}
use Rattle.eir_core.specs.declared.ops.Cond.TheVariants.{Eq, Ne, Lt, Gt, Le, Ge}
use Rattle.eir_core.specs.Step.{holds}
use Rattle.bf_lang.specs.declared.command.Command.{Command}
use Rattle.bf_tape.specs.Tape.{Tape, get, put}
use Rattle.bf_tape.specs.Piece.{Piece, joined, Adds, any}
use Rattle.bf_tape.proofs.Turning.{get_other, put_same}
use Rattle.bf_word.specs.Word.{word_in, with_word, IsCounter, AreDistinct, IsOutside}
use Rattle.bf_word.proofs.Words.{cell_kept, word_kept, set_same}
use Rattle.bf_word.proofs.Chain.{adds_then, adds_as}
use Rattle.bf_choice.proofs.Chosen.{swapped}
use Rattle.bf_ops.specs.Frame.{cell_of, value_in, is_negated, IsFrame, IsAside}
use Rattle.bf_ops.proofs.Kept.{comparisons}
use Rattle.bf_ops.proofs.Acts.{none_adds, value_apart, spare_apart, small_set}
use Rattle.bf_jump.specs.Pose.{is_near, is_sameness, is_turned, is_told_near, words_posed, told_of, posed_as, posed_far, posed_near, posed, IsReady, IsPosed, ComparisonsArePosed}

-- beside the registers
pub first_aside : IsAside 87
first_aside q = (value_apart q, spare_apart q)

pub second_aside : IsAside 97
second_aside A = (inr (omega arith), inr (omega arith))
second_aside B = (inl (omega arith), inl (omega arith))
second_aside C = (inl (omega arith), inl (omega arith))
second_aside D = (inl (omega arith), inl (omega arith))
second_aside SP = (inl (omega arith), inl (omega arith))
second_aside BP = (inl (omega arith), inl (omega arith))

turned_round : (a b : ℕ) → AreDistinct a b → AreDistinct b a
turned_round a b (inl h) = inr h
turned_round a b (inr h) = inl h

-- three cells behind a register's word are 0
module _ (s : Tape) (k : IsFrame s) where
  first_none : word_in s 87 ≡ 0
  first_none = λ i. k.counters C 87 (omega arith) (omega arith) i + 256 * k.counters C 88 (omega arith) (omega arith) i + 65536 * k.counters C 89 (omega arith) (omega arith) i

  second_none : word_in s 97 ≡ 0
  second_none = λ i. k.counters B 97 (omega arith) (omega arith) i + 256 * k.counters B 98 (omega arith) (omega arith) i + 65536 * k.counters B 99 (omega arith) (omega arith) i

  pub first_same : with_word s 87 0 ≡ s
  first_same = set_same s 87 0 (k.counters C 87 (omega arith) (omega arith)) (k.counters C 88 (omega arith) (omega arith)) (k.counters C 89 (omega arith) (omega arith))

  pub second_same : with_word s 97 0 ≡ s
  second_same = set_same s 97 0 (k.counters B 97 (omega arith) (omega arith)) (k.counters B 98 (omega arith) (omega arith)) (k.counters B 99 (omega arith) (omega arith))

  first_ready : IsReady 87 s
  first_ready = record { word = first_none; spares = λ x. k.counters x (cell_of x + 3) (omega arith) (omega arith) }

  second_ready : (a : ℕ) → IsReady 97 (with_word s 87 a)
  second_ready a = record {
    word = word_kept s 87 a 97 (inl (omega arith)) ∙ second_none;
    spares = λ x. cell_kept s 87 a (cell_of x + 3) (spare_apart x) ∙ k.counters x (cell_of x + 3) (omega arith) (omega arith);
  }

value_kept : (s : Tape) (a : ℕ) (v : Operand) → value_in (with_word s 87 a) v ≡ value_in s v
value_kept s a (register q) = word_kept s 87 a (cell_of q) (turned_round (cell_of q) 87 (value_apart q))
value_kept s a (Imm w) = refl

-- an operand brought
pub brought_register : {p q : Piece} (v : Operand) (reg : Reg) (cell to : ℕ) → v ≡ register reg → cell ≡ cell_of reg → Adds p q (λ s. (word_in s to ≡ 0) × (get s (cell + 3) ≡ 0)) (λ input s. with_word s to (word_in s cell)) (3 * 2 ^ 20) (3 * 2 ^ 11)
    → Adds p q (IsReady to) (λ input s. with_word s to (value_in s v)) (3 * 2 ^ 20) (3 * 2 ^ 11)
brought_register {p = p} {q = q} v reg cell to is cell_is a =
    subst (λ v. Adds p q (IsReady to) (λ input s. with_word s to (value_in s v)) (3 * 2 ^ 20) (3 * 2 ^ 11)) (sym is)
    (adds_as (λ input s. with_word s to (word_in s (cell_of reg))) (3 * 2 ^ 20) (3 * 2 ^ 11) a
    (λ input s bytes k. ((k.word, ap (λ c. get s (c + 3)) cell_is ∙ k.spares reg), ap (λ c. with_word s to (word_in s c)) cell_is)) (omega arith) (omega arith))

pub brought_constant : {p q : Piece} (v : Operand) (w : Word) (to : ℕ) → v ≡ Imm w → Adds p q any (λ input s. with_word s to (number_of w)) (2 ^ 13) (2 ^ 12) → Adds p q (IsReady to) (λ input s. with_word s to (value_in s v)) (3 * 2 ^ 20) (3 * 2 ^ 11)
brought_constant {p = p} {q = q} v w to is a =
    subst (λ v. Adds p q (IsReady to) (λ input s. with_word s to (value_in s v)) (3 * 2 ^ 20) (3 * 2 ^ 11)) (sym is)
    (adds_as (λ input s. with_word s to (number_of w)) (3 * 2 ^ 20) (3 * 2 ^ 11) a (λ input s bytes k. (tt, refl)) (omega arith) (omega arith))

pub both_adds : {p q r : Piece} (x y : Operand) → Adds p q (IsReady 87) (λ input s. with_word s 87 (value_in s x)) (3 * 2 ^ 20) (3 * 2 ^ 11) → Adds q r (IsReady 97) (λ input s. with_word s 97 (value_in s y)) (3 * 2 ^ 20) (3 * 2 ^ 11)
    → Adds p r IsFrame (λ input s. words_posed s (value_in s x) (value_in s y)) (6 * 2 ^ 20) (3 * 2 ^ 12)
both_adds x y a b =
    adds_as (λ input s. words_posed s (value_in s x) (value_in s y)) (6 * 2 ^ 20) (3 * 2 ^ 12) (adds_then IsFrame a b (λ input s bytes k. (first_ready s k, second_ready s k (value_in s x))))
    (λ input s bytes k. (k, ap (λ v. with_word (with_word s 87 (value_in s x)) 97 v) (value_kept s (value_in s x) y))) (omega arith) (omega arith)

-- a cell that is 0 is raised, or not
pub raised_flag : {p q : Piece} (c : ℕ) (on : Bool) → on ≡ true → Adds p q any (λ input s. put s c ((get s c + 1) % 2 ^ 8)) 512 512 → Adds p q (λ s. get s c ≡ 0) (λ input s. put s c (cond on 1 0)) 512 512
raised_flag {p = p} {q = q} c on is a =
    subst (λ b. Adds p q (λ s. get s c ≡ 0) (λ input s. put s c (cond b 1 0)) 512 512) (sym is) (adds_as (λ input s. put s c 1) 512 512 a (λ input s bytes k. (tt, ap (λ v. put s c ((v + 1) % 2 ^ 8)) k)) (omega arith) (omega arith))

pub left_flag : (p : Piece) (c : ℕ) (on : Bool) → on ≡ false → Adds p p (λ s. get s c ≡ 0) (λ input s. put s c (cond on 1 0)) 512 512
left_flag p c on is =
    subst (λ b. Adds p p (λ s. get s c ≡ 0) (λ input s. put s c (cond b 1 0)) 512 512) (sym is)
    (adds_as (λ input s. put s c 0) 512 512 (none_adds p (λ s. get s c ≡ 0) 512 512) (λ input s bytes k. (k, sym (put_same s c 0 k))) (omega arith) (omega arith))

-- words posed, with the cells that tell of them
posed_low : (s : Tape) (a b c : ℕ) → c < 50 → get (words_posed s a b) c ≡ get s c
posed_low s a b c low = cell_kept (with_word s 87 a) 97 b c (inl (omega arith)) ∙ cell_kept s 87 a c (inl (omega arith))

asked : (s : Tape) → get s 48 ≡ 0 → put s 48 ((get s 48 + 1) % 2 ^ 8) ≡ put s 48 1
asked s none = ap (λ v. put s 48 ((v + 1) % 2 ^ 8)) none

far_adds : {p q r t u : Piece} (a b : Tape → ℕ) (same otherwise : Bool) → Adds p q IsFrame (λ input s. words_posed s (a s) (b s)) (6 * 2 ^ 20) (3 * 2 ^ 12)
    → Adds q r (λ s. get s 47 ≡ 0) (λ input s. put s 47 (cond same 1 0)) 512 512 → Adds r t (λ s. get s 49 ≡ 0) (λ input s. put s 49 (cond otherwise 1 0)) 512 512
    → Adds t u any (λ input s. put s 48 ((get s 48 + 1) % 2 ^ 8)) 512 512 → Adds p u IsFrame (λ input s. posed_as s (a s) (b s) same otherwise) (7 * 2 ^ 20) (2 ^ 14)
far_adds a b same otherwise words first second last =
    let one = adds_then IsFrame words first (λ input s bytes k. (k, posed_low s (a s) (b s) 47 (omega arith) ∙ k.own 47 (omega arith) (omega arith))) in
    let two = adds_then IsFrame one second
    (λ input s bytes k. (k, get_other (words_posed s (a s) (b s)) 47 49 (cond same 1 0) (omega arith) ∙ (posed_low s (a s) (b s) 49 (omega arith) ∙ k.own 49 (omega arith) (omega arith)))) in
    adds_as (λ input s. posed_as s (a s) (b s) same otherwise) (7 * 2 ^ 20) (2 ^ 14) (adds_then IsFrame two last (λ input s bytes k. (k, tt)))
    (λ input s bytes k.
    let t : Tape = words_posed s (a s) (b s) in (
      k,
      asked (told_of s (a s) (b s) same otherwise)
          (get_other (put t 47 (cond same 1 0)) 49 48 (cond otherwise 1 0) (omega arith) ∙ (get_other t 47 48 (cond same 1 0) (omega arith) ∙ (posed_low s (a s) (b s) 48 (omega arith) ∙ k.own 48 (omega arith) (omega arith)))),
    )) (omega arith) (omega arith)

pub far_posed : {p q r t u : Piece} (test : Cond) (x : Reg) (v : Operand) (same otherwise : Bool) → same ≡ is_sameness test → otherwise ≡ is_negated test
    → Adds p q IsFrame (λ input s. cond (is_turned test) (words_posed s (value_in s v) (word_in s (cell_of x))) (words_posed s (word_in s (cell_of x)) (value_in s v))) (6 * 2 ^ 20) (3 * 2 ^ 12)
    → Adds q r (λ s. get s 47 ≡ 0) (λ input s. put s 47 (cond same 1 0)) 512 512 → Adds r t (λ s. get s 49 ≡ 0) (λ input s. put s 49 (cond otherwise 1 0)) 512 512
    → Adds t u any (λ input s. put s 48 ((get s 48 + 1) % 2 ^ 8)) 512 512 → Adds p u IsFrame (λ input s. posed_far test x v s) (7 * 2 ^ 20) (2 ^ 14)
far_posed {p = p} {q = q} {r = r} {t = t} {u = u} test x v same otherwise same_is otherwise_is words first second last =
    let one : Adds q r (λ s. get s 47 ≡ 0) (λ input s. put s 47 (cond (is_sameness test) 1 0)) 512 512 = subst (λ b. Adds q r (λ s. get s 47 ≡ 0) (λ input s. put s 47 (cond b 1 0)) 512 512) same_is first in
    let two : Adds r t (λ s. get s 49 ≡ 0) (λ input s. put s 49 (cond (is_negated test) 1 0)) 512 512 = subst (λ b. Adds r t (λ s. get s 49 ≡ 0) (λ input s. put s 49 (cond b 1 0)) 512 512) otherwise_is second in
    elim (is_turned test) as (λ b. Adds p q IsFrame (λ input s. cond b (words_posed s (value_in s v) (word_in s (cell_of x))) (words_posed s (word_in s (cell_of x)) (value_in s v))) (6 * 2 ^ 20) (3 * 2 ^ 12)
    → Adds p u IsFrame (λ input s. cond b (posed_as s (value_in s v) (word_in s (cell_of x)) (is_sameness test) (is_negated test)) (posed_as s (word_in s (cell_of x)) (value_in s v) (is_sameness test) (is_negated test))) (7 * 2 ^ 20) (2 ^ 14)) [
      | true ↦ λ w. far_adds (λ s. value_in s v) (λ s. word_in s (cell_of x)) (is_sameness test) (is_negated test) w one two last
      | false ↦ λ w. far_adds (λ s. word_in s (cell_of x)) (λ s. value_in s v) (is_sameness test) (is_negated test) w one two last
    ] words

-- a register compared to a constant where it stands
near_as : (s : Tape) (e o : Bool) → IsFrame s → put (put (put s 49 (cond e 1 0)) 97 (cond o 1 0)) 48 1 ≡ posed_as s 0 (cond o 1 0) false e
near_as s e o k =
    let ov : ℕ = cond o 1 0 in
    let ev : ℕ = cond e 1 0 in
    let few : ov < 2 ^ 8 = elim o as (λ b. cond b 1 0 < 2 ^ 8) [ true ↦ omega arith | false ↦ omega arith ] in
    let words : words_posed s 0 ov ≡ put s 97 ov = ap (λ t. with_word t 97 ov) (first_same s k) ∙ (sym (small_set s 97 ov few) ∙ ap (λ t. put t 97 ov) (second_same s k)) in
    let none : put (put s 97 ov) 47 0 ≡ put s 97 ov = put_same (put s 97 ov) 47 0 (get_other s 97 47 ov (omega arith) ∙ k.own 47 (omega arith) (omega arith)) in
    sym (ap (λ t. put (put (put t 47 0) 49 ev) 48 1) words ∙ (ap (λ t. put (put t 49 ev) 48 1) none ∙ ap (λ t. put t 48 1) (swapped s 97 49 ov ev (omega arith))))

pub near_posed : {p q r t : Piece} (test : Cond) (x : Reg) (n cell : ℕ) (otherwise : Bool) → otherwise ≡ is_negated test → cell ≡ cell_of x
    → Adds p q (λ s. IsCounter cell s × (get s 49 ≡ 0)) (λ input s. put s 49 (cond (nat_eq (word_in s cell) n) 1 0)) (2 ^ 19) (2 ^ 13)
    → Adds q r (λ s. get s 97 ≡ 0) (λ input s. put s 97 (cond otherwise 1 0)) 512 512
    → Adds r t any (λ input s. put s 48 ((get s 48 + 1) % 2 ^ 8)) 512 512 → Adds p t IsFrame (λ input s. posed_near test x n s) (7 * 2 ^ 20) (2 ^ 14)
near_posed {q = q} {r = r} test x n cell otherwise otherwise_is cell_is a b' d =
    let e : Tape → Bool = λ s. nat_eq (word_in s (cell_of x)) n in
    let o : Bool = is_negated test in
    let b : Adds q r (λ s. get s 97 ≡ 0) (λ input s. put s 97 (cond o 1 0)) 512 512 = subst (λ c. Adds q r (λ s. get s 97 ≡ 0) (λ input s. put s 97 (cond c 1 0)) 512 512) otherwise_is b' in
    let one = adds_as (λ input s. put s 49 (cond (e s) 1 0)) (2 ^ 19) (2 ^ 13) a
    (λ input s bytes (k : IsFrame s). ((subst (λ c. IsCounter c s) (sym cell_is) (k.counters x), k.own 49 (omega arith) (omega arith)), ap (λ c. put s 49 (cond (nat_eq (word_in s c) n) 1 0)) cell_is)) (omega arith) (omega arith) in
    let two = adds_then IsFrame one b (λ input s bytes k. (k, get_other s 49 97 (cond (e s) 1 0) (omega arith) ∙ k.counters B 97 (omega arith) (omega arith))) in
    adds_as (λ input s. posed_near test x n s) (7 * 2 ^ 20) (2 ^ 14) (adds_then IsFrame two d (λ input s bytes k. (k, tt)))
    (λ input s bytes k.
    let t : Tape = put s 49 (cond (e s) 1 0) in (
      k,
      asked (put t 97 (cond o 1 0)) (get_other t 97 48 (cond o 1 0) (omega arith) ∙ (get_other s 49 48 (cond (e s) 1 0) (omega arith) ∙ k.own 48 (omega arith) (omega arith)))
          ∙ near_as s (e s) o k,
    )) (omega arith) (omega arith)

-- by the test that a constant is told near
pub constant_near : {p q : Piece} (test : Cond) (x : Reg) (w : Word) (near : Bool) → near ≡ is_told_near test (number_of w) → near ≡ true → Adds p q IsFrame (λ input s. posed_near test x (number_of w) s) (7 * 2 ^ 20) (2 ^ 14)
    → Adds p q IsFrame (λ input s. posed test x (Imm w) s) (7 * 2 ^ 20) (2 ^ 14)
constant_near {p = p} {q = q} test x w near is on a =
    subst (λ b. Adds p q IsFrame (λ input s. cond b (posed_near test x (number_of w) s) (posed_far test x (Imm w) s)) (7 * 2 ^ 20) (2 ^ 14)) (sym on ∙ is) a

pub constant_far : {p q : Piece} (test : Cond) (x : Reg) (w : Word) (near : Bool) → near ≡ is_told_near test (number_of w) → near ≡ false → Adds p q IsFrame (λ input s. posed_far test x (Imm w) s) (7 * 2 ^ 20) (2 ^ 14)
    → Adds p q IsFrame (λ input s. posed test x (Imm w) s) (7 * 2 ^ 20) (2 ^ 14)
constant_far {p = p} {q = q} test x w near is off a =
    subst (λ b. Adds p q IsFrame (λ input s. cond b (posed_near test x (number_of w) s) (posed_far test x (Imm w) s)) (7 * 2 ^ 20) (2 ^ 14)) (sym off ∙ is) a

pub posed_as_known : {p q : Piece} (test : Cond) (x : Reg) (v known : Operand) → v ≡ known → Adds p q IsFrame (λ input s. posed test x known s) (7 * 2 ^ 20) (2 ^ 14) → Adds p q IsFrame (λ input s. posed test x v s) (7 * 2 ^ 20) (2 ^ 14)
posed_as_known {p = p} {q = q} test x v known is a = subst (λ u. Adds p q IsFrame (λ input s. posed test x u s) (7 * 2 ^ 20) (2 ^ 14)) (sym is) a

-- cells that a posed comparison leaves
pub posed_as_get : (s : Tape) (a b : ℕ) (same otherwise : Bool) (c : ℕ) → IsOutside c 47 → IsOutside c 87 → IsOutside c 97 → get (posed_as s a b same otherwise) c ≡ get s c
posed_as_get s a b same otherwise c low first second =
    let t : Tape = words_posed s a b in
    get_other (put (put t 47 (cond same 1 0)) 49 (cond otherwise 1 0)) 48 c 1 (differ 48 c (omega arith) (omega arith) low)
    ∙ (get_other (put t 47 (cond same 1 0)) 49 c (cond otherwise 1 0) (differ 49 c (omega arith) (omega arith) low)
    ∙ (get_other t 47 c (cond same 1 0) (differ 47 c (omega arith) (omega arith) low) ∙ (cell_kept (with_word s 87 a) 97 b c second ∙ cell_kept s 87 a c first)))
  where
    differ : (k c : ℕ) → 47 ≤ k → k < 50 → IsOutside c 47 → k ≢ c
    differ k c lo hi (inl h) = omega (arith, h, lo)
    differ k c lo hi (inr h) = omega (arith, h, hi)

posed_far_get : (test : Cond) (x : Reg) (v : Operand) (s : Tape) (c : ℕ) → IsOutside c 47 → IsOutside c 87 → IsOutside c 97 → get (posed_far test x v s) c ≡ get s c
posed_far_get test x v s c low first second =
    elim (is_turned test) as (λ b. get (cond b (posed_as s (value_in s v) (word_in s (cell_of x)) (is_sameness test) (is_negated test)) (posed_as s (word_in s (cell_of x)) (value_in s v) (is_sameness test) (is_negated test))) c ≡ get s c) [
      | true ↦ posed_as_get s (value_in s v) (word_in s (cell_of x)) (is_sameness test) (is_negated test) c low first second
      | false ↦ posed_as_get s (word_in s (cell_of x)) (value_in s v) (is_sameness test) (is_negated test) c low first second
    ]

pub posed_get : (test : Cond) (x : Reg) (v : Operand) (s : Tape) (c : ℕ) → IsOutside c 47 → IsOutside c 87 → IsOutside c 97 → get (posed test x v s) c ≡ get s c
posed_get test x (register q) s c low first second = posed_far_get test x (register q) s c low first second
posed_get test x (Imm w) s c low first second =
    elim (is_told_near test (number_of w)) as (λ b. get (cond b (posed_near test x (number_of w) s) (posed_far test x (Imm w) s)) c ≡ get s c) [
      | true ↦ posed_as_get s 0 (cond (is_negated test) 1 0) false (nat_eq (word_in s (cell_of x)) (number_of w)) c low first second
      | false ↦ posed_far_get test x (Imm w) s c low first second
    ]

-- what is posed tells whether the comparison holds
chosen_truth : (e : Bool) → cond e (not false) false ≡ e
chosen_truth true = refl
chosen_truth false = refl

chosen_other : (e : Bool) → cond e (not true) true ≡ not e
chosen_other true = refl
chosen_other false = refl

far_is : (test : Cond) (x : Reg) (v : Operand) (s : Tape) → word_in s (cell_of x) < 2 ^ 24 → value_in s v < 2 ^ 24 → IsPosed s (posed_far test x v s) (holds test (word_in s (cell_of x)) (value_in s v))
far_is Eq x v s lx lv = record { a = word_in s (cell_of x); b = value_in s v; same = true; otherwise = false; is = refl; a_below = lx; b_below = lv; tells = sym (comparisons Eq (word_in s (cell_of x)) (value_in s v)) }
far_is Ne x v s lx lv = record { a = word_in s (cell_of x); b = value_in s v; same = true; otherwise = true; is = refl; a_below = lx; b_below = lv; tells = sym (comparisons Ne (word_in s (cell_of x)) (value_in s v)) }
far_is Lt x v s lx lv = record { a = word_in s (cell_of x); b = value_in s v; same = false; otherwise = false; is = refl; a_below = lx; b_below = lv; tells = sym (comparisons Lt (word_in s (cell_of x)) (value_in s v)) }
far_is Ge x v s lx lv = record { a = word_in s (cell_of x); b = value_in s v; same = false; otherwise = true; is = refl; a_below = lx; b_below = lv; tells = sym (comparisons Ge (word_in s (cell_of x)) (value_in s v)) }
far_is Gt x v s lx lv = record { a = value_in s v; b = word_in s (cell_of x); same = false; otherwise = false; is = refl; a_below = lv; b_below = lx; tells = sym (comparisons Gt (word_in s (cell_of x)) (value_in s v)) }
far_is Le x v s lx lv = record { a = value_in s v; b = word_in s (cell_of x); same = false; otherwise = true; is = refl; a_below = lv; b_below = lx; tells = sym (comparisons Le (word_in s (cell_of x)) (value_in s v)) }

near_or_far : (b : Bool) (s t u : Tape) (truth : Bool) → IsPosed s t truth → IsPosed s u truth → IsPosed s (cond b t u) truth
near_or_far true s t u truth near far = near
near_or_far false s t u truth near far = far

pub comparisons_posed : ComparisonsArePosed
comparisons_posed test x (register q) s lx lv = far_is test x (register q) s lx lv
comparisons_posed Eq x (Imm w) s lx lv =
    let n : ℕ = number_of w in
    let e : Bool = nat_eq (word_in s (cell_of x)) n in
    near_or_far (is_near n) s (posed_near Eq x n s) (posed_far Eq x (Imm w) s) (holds Eq (word_in s (cell_of x)) n)
    (record { a = 0; b = 0; same = false; otherwise = e; is = refl; a_below = omega arith; b_below = omega arith; tells = chosen_truth e ∙ sym (comparisons Eq (word_in s (cell_of x)) n) })
    (far_is Eq x (Imm w) s lx lv)
comparisons_posed Ne x (Imm w) s lx lv =
    let n : ℕ = number_of w in
    let e : Bool = nat_eq (word_in s (cell_of x)) n in
    near_or_far (is_near n) s (posed_near Ne x n s) (posed_far Ne x (Imm w) s) (holds Ne (word_in s (cell_of x)) n)
    (record { a = 0; b = 1; same = false; otherwise = e; is = refl; a_below = omega arith; b_below = omega arith; tells = chosen_other e ∙ sym (comparisons Ne (word_in s (cell_of x)) n) })
    (far_is Ne x (Imm w) s lx lv)
comparisons_posed Lt x (Imm w) s lx lv = far_is Lt x (Imm w) s lx lv
comparisons_posed Ge x (Imm w) s lx lv = far_is Ge x (Imm w) s lx lv
comparisons_posed Gt x (Imm w) s lx lv = far_is Gt x (Imm w) s lx lv
comparisons_posed Le x (Imm w) s lx lv = far_is Le x (Imm w) s lx lv

-- a further call, after which the head may be where it was
pub next_at : {p q : Piece} (c : ℕ) (xs : List Command) (code : ℕ → List Command) (cell : ℕ → ℕ) → p ≡ record { commands = xs; cell = c } → q ≡ joined p (code p.cell) (cell p.cell) → q ≡ record { commands = xs ++ code c; cell = cell c }
next_at c xs code cell before is = is ∙ ap (λ p. joined p (code p.cell) (cell p.cell)) before
