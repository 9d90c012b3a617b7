-- How long the text of a conditional jump is.
use Rattle.std.proofs.Common.{ℕ, zero, suc, ◌+◌, ◌-◌, ◌*◌, ◌/◌, ◌%◌, ◌<◌, ◌≤◌, ◌≡◌, ◌≢◌, Bool, true, false, nat_eq, nat_lt, nat_le, cond, ◌++◌, length, refl, ap, ◌∙◌, arith, length-append}
use Rattle.std.proofs.lemmas.Bool.{eqb-true, eqb-false, leb-true, ltb-true, ltb-false}
use Rattle.word24.specs.Word.{number_of}
use Rattle.eir_core.specs.declared.ops.Reg.{Reg}
use Rattle.eir_core.specs.declared.ops.Reg.TheVariants.{A, B, C, D, SP, BP}
use Rattle.eir_core.specs.declared.ops.Operand.{Operand}
use Rattle.eir_core.specs.declared.ops.Operand.TheVariants.{Reg as register, Imm}
use Rattle.eir_core.specs.declared.ops.Cond.{Cond}
use Rattle.eir_core.specs.declared.ops.Cond.TheVariants.{Eq, Ne, Lt, Gt, Le, Ge}
use Rattle.bf_lang.specs.declared.command.Command.TheVariants.{Plus, Minus}
use Rattle.bf_tape.specs.Code.{many, goto_code, clear_code, add_code, more_code, move_code}
use Rattle.bf_tape.proofs.Added.{length-many, length_more}
use Rattle.bf_word.specs.WordCode.{dup_word_code, set_code, once_code, raise_code, add_bytes_code, equals_code, opposite}
use Rattle.bf_ops.specs.Frame.{cell_of, is_negated}
use Rattle.bf_ops.specs.OpsCode.{bring_cell}
use Rattle.bf_ops.proofs.Kept.{stands}
use Rattle.bf_jump.specs.declared.goal.Goal.{Goal}
use Rattle.bf_jump.specs.declared.goal.Goal.TheVariants.{Operation, Block}
use Rattle.bf_jump.specs.Note.{note_cell, digit_in, cell_at, note_code}
use Rattle.bf_jump.specs.Pose.{turns, is_near, is_sameness, is_turned, is_told_near, both_code, words_code, words_cell, flag_code, flag_cell, far_code, near_code, pose_code}
use Rattle.bf_jump.specs.Goal.{mark_of, note_goal_code, decide_code, JumpsAreShort}

low : (x : Reg) → 50 ≤ cell_of x
low x = let at = stands x in omega (arith, at.at)

high : (x : Reg) → cell_of x ≤ 100
high x = let at = stands x in omega (arith, at.at, at.few)

-- the way between two cells, and so much more of one
way : (h c : ℕ) → length (goto_code h c) ≤ (c - h) + (h - c)
way h c = simp (length-append, length-many) (omega arith)

more_turns : (v : ℕ) → length (more_code v) ≤ turns v
more_turns v = elim (nat_lt 128 v) as (λ t. length (cond t (many (256 - v) Minus) (many v Plus)) ≤ cond t (256 - v) v) [ true ↦ simp length-many (omega arith) | false ↦ simp length-many (omega arith) ]

add_turns : (h c v : ℕ) → length (add_code h c v) ≤ (c - h) + (h - c) + turns v
add_turns h c v = omega (arith, way h c, more_turns v, length-append (goto_code h c) (more_code v))

add_one : (h c : ℕ) → length (add_code h c 1) ≤ (c - h) + (h - c) + 1
add_one h c = add_turns h c 1

-- a constant set
set_near : (h w n : ℕ) → h < 256 → w < 254 → length (set_code h w n) ≤ (w - h) + (h - w) + 401
set_near h w n lh lw =
    let stay : (k v : ℕ) → length (add_code k k v) ≤ length (more_code v) = λ k v. simp (length-append, length-many) (omega arith) in
    let la : length (clear_code h w) ≤ (w - h) + (h - w) + 3 = simp (length-append, length-many) (omega arith) in
    let lc : length (clear_code w (w + 1)) ≤ 4 = simp (length-append, length-many) (omega arith) in
    let le : length (clear_code (w + 1) (w + 2)) ≤ 4 = simp (length-append, length-many) (omega arith) in
    let a = clear_code h w in
    let b = add_code w w (n % 256) in
    let c = clear_code w (w + 1) in
    let d = add_code (w + 1) (w + 1) (n / 256 % 256) in
    let e = clear_code (w + 1) (w + 2) in
    let f = add_code (w + 2) (w + 2) (n / 65536 % 256) in
    omega (
      arith,
      la,
      lc,
      le,
      length_more (n % 256) (omega arith),
      length_more (n / 256 % 256) (omega arith),
      length_more (n / 65536 % 256) (omega arith),
      stay w (n % 256),
      stay (w + 1) (n / 256 % 256),
      stay (w + 2) (n / 65536 % 256),
      length-append (a ++ b ++ c ++ d ++ e) f,
      length-append (a ++ b ++ c ++ d) e,
      length-append (a ++ b ++ c) d,
      length-append (a ++ b) c,
      length-append a b,
    )

-- two words brought: at most 860 commands
first_short : (x : Reg) → length (dup_word_code 0 (cell_of x) 87 (cell_of x + 3)) ≤ 320
first_short A = leb-true (length (dup_word_code 0 100 87 (100 + 3))) 320 refl
first_short B = leb-true (length (dup_word_code 0 90 87 (90 + 3))) 320 refl
first_short C = leb-true (length (dup_word_code 0 80 87 (80 + 3))) 320 refl
first_short D = leb-true (length (dup_word_code 0 70 87 (70 + 3))) 320 refl
first_short SP = leb-true (length (dup_word_code 0 60 87 (60 + 3))) 320 refl
first_short BP = leb-true (length (dup_word_code 0 50 87 (50 + 3))) 320 refl

second_short : (x y : Reg) → length (dup_word_code (cell_of x + 3) (cell_of y) 97 (cell_of y + 3)) ≤ 385
second_short A A = leb-true (length (dup_word_code (100 + 3) 100 97 (100 + 3))) 385 refl
second_short A B = leb-true (length (dup_word_code (100 + 3) 90 97 (90 + 3))) 385 refl
second_short A C = leb-true (length (dup_word_code (100 + 3) 80 97 (80 + 3))) 385 refl
second_short A D = leb-true (length (dup_word_code (100 + 3) 70 97 (70 + 3))) 385 refl
second_short A SP = leb-true (length (dup_word_code (100 + 3) 60 97 (60 + 3))) 385 refl
second_short A BP = leb-true (length (dup_word_code (100 + 3) 50 97 (50 + 3))) 385 refl
second_short B A = leb-true (length (dup_word_code (90 + 3) 100 97 (100 + 3))) 385 refl
second_short B B = leb-true (length (dup_word_code (90 + 3) 90 97 (90 + 3))) 385 refl
second_short B C = leb-true (length (dup_word_code (90 + 3) 80 97 (80 + 3))) 385 refl
second_short B D = leb-true (length (dup_word_code (90 + 3) 70 97 (70 + 3))) 385 refl
second_short B SP = leb-true (length (dup_word_code (90 + 3) 60 97 (60 + 3))) 385 refl
second_short B BP = leb-true (length (dup_word_code (90 + 3) 50 97 (50 + 3))) 385 refl
second_short C A = leb-true (length (dup_word_code (80 + 3) 100 97 (100 + 3))) 385 refl
second_short C B = leb-true (length (dup_word_code (80 + 3) 90 97 (90 + 3))) 385 refl
second_short C C = leb-true (length (dup_word_code (80 + 3) 80 97 (80 + 3))) 385 refl
second_short C D = leb-true (length (dup_word_code (80 + 3) 70 97 (70 + 3))) 385 refl
second_short C SP = leb-true (length (dup_word_code (80 + 3) 60 97 (60 + 3))) 385 refl
second_short C BP = leb-true (length (dup_word_code (80 + 3) 50 97 (50 + 3))) 385 refl
second_short D A = leb-true (length (dup_word_code (70 + 3) 100 97 (100 + 3))) 385 refl
second_short D B = leb-true (length (dup_word_code (70 + 3) 90 97 (90 + 3))) 385 refl
second_short D C = leb-true (length (dup_word_code (70 + 3) 80 97 (80 + 3))) 385 refl
second_short D D = leb-true (length (dup_word_code (70 + 3) 70 97 (70 + 3))) 385 refl
second_short D SP = leb-true (length (dup_word_code (70 + 3) 60 97 (60 + 3))) 385 refl
second_short D BP = leb-true (length (dup_word_code (70 + 3) 50 97 (50 + 3))) 385 refl
second_short SP A = leb-true (length (dup_word_code (60 + 3) 100 97 (100 + 3))) 385 refl
second_short SP B = leb-true (length (dup_word_code (60 + 3) 90 97 (90 + 3))) 385 refl
second_short SP C = leb-true (length (dup_word_code (60 + 3) 80 97 (80 + 3))) 385 refl
second_short SP D = leb-true (length (dup_word_code (60 + 3) 70 97 (70 + 3))) 385 refl
second_short SP SP = leb-true (length (dup_word_code (60 + 3) 60 97 (60 + 3))) 385 refl
second_short SP BP = leb-true (length (dup_word_code (60 + 3) 50 97 (50 + 3))) 385 refl
second_short BP A = leb-true (length (dup_word_code (50 + 3) 100 97 (100 + 3))) 385 refl
second_short BP B = leb-true (length (dup_word_code (50 + 3) 90 97 (90 + 3))) 385 refl
second_short BP C = leb-true (length (dup_word_code (50 + 3) 80 97 (80 + 3))) 385 refl
second_short BP D = leb-true (length (dup_word_code (50 + 3) 70 97 (70 + 3))) 385 refl
second_short BP SP = leb-true (length (dup_word_code (50 + 3) 60 97 (60 + 3))) 385 refl
second_short BP BP = leb-true (length (dup_word_code (50 + 3) 50 97 (50 + 3))) 385 refl

behind_short : (y : Reg) → length (dup_word_code 89 (cell_of y) 97 (cell_of y + 3)) ≤ 369
behind_short A = leb-true (length (dup_word_code 89 100 97 (100 + 3))) 369 refl
behind_short B = leb-true (length (dup_word_code 89 90 97 (90 + 3))) 369 refl
behind_short C = leb-true (length (dup_word_code 89 80 97 (80 + 3))) 369 refl
behind_short D = leb-true (length (dup_word_code 89 70 97 (70 + 3))) 369 refl
behind_short SP = leb-true (length (dup_word_code 89 60 97 (60 + 3))) 369 refl
behind_short BP = leb-true (length (dup_word_code 89 50 97 (50 + 3))) 369 refl

registers_short : (x y : Reg) → length (both_code 0 (register x) (register y)) ≤ 860
registers_short x y = omega (arith, first_short x, second_short x y, length-append (dup_word_code 0 (cell_of x) 87 (cell_of x + 3)) (dup_word_code (cell_of x + 3) (cell_of y) 97 (cell_of y + 3)))

both_short : (x : Reg) (v : Operand) → length (both_code 0 (register x) v) ≤ 860
both_short x (register y) = registers_short x y
both_short x (Imm w) =
    let n : ℕ = number_of w in
    omega (arith, first_short x, set_near (cell_of x + 3) 97 n (omega (arith, high x)) (omega arith), low x, high x, length-append (dup_word_code 0 (cell_of x) 87 (cell_of x + 3)) (set_code (cell_of x + 3) 97 n))

turned_short : (x : Reg) (v : Operand) → length (both_code 0 v (register x)) ≤ 860
turned_short x (register y) = registers_short y x
turned_short x (Imm w) = let n : ℕ = number_of w in omega (arith, set_near 0 87 n (omega arith) (omega arith), behind_short x, length-append (set_code 0 87 n) (dup_word_code 89 (cell_of x) 97 (cell_of x + 3)))

words_short : (test : Cond) (x : Reg) (v : Operand) → length (words_code 0 test x v) ≤ 860
words_short test x v = elim (is_turned test) as (λ b. length (cond b (both_code 0 v (register x)) (both_code 0 (register x) v)) ≤ 860) [ true ↦ turned_short x v | false ↦ both_short x v ]

pub record Within (h : ℕ) : Type 0 where
  pub from : 50 ≤ h
  pub to : h ≤ 103

within : (v : Operand) → Within (bring_cell v 97)
within (register y) = record { from = omega (arith, low y); to = omega (arith, high y) }
within (Imm w) = record { from = omega arith; to = omega arith }

words_within : (test : Cond) (x : Reg) (v : Operand) → Within (words_cell test x v)
words_within test x v = elim (is_turned test) as (λ b. Within (cond b (bring_cell (register x) 97) (bring_cell v 97))) [ true ↦ within (register x) | false ↦ within v ]

flags_long : (h : ℕ) (same otherwise : Bool) → Within h → length (flag_code h 47 same) + length (flag_code (flag_cell h 47 same) 49 otherwise) + length (add_code (flag_cell (flag_cell h 47 same) 49 otherwise) 48 1) ≤ 62
flags_long h true true w = omega (arith, w.from, w.to, add_one h 47, add_one 47 49, add_one 49 48)
flags_long h true false w = omega (arith, w.from, w.to, add_one h 47, add_one 47 48)
flags_long h false true w = omega (arith, w.from, w.to, add_one h 49, add_one 49 48)
flags_long h false false w = omega (arith, w.from, w.to, add_one h 48)

far_short : (test : Cond) (x : Reg) (v : Operand) → length (far_code 0 test x v) ≤ 922
far_short test x v =
    let h : ℕ = words_cell test x v in
    let a = words_code 0 test x v in
    let b = flag_code h 47 (is_sameness test) in
    let c = flag_code (flag_cell h 47 (is_sameness test)) 49 (is_negated test) in
    let d = add_code (flag_cell (flag_cell h 47 (is_sameness test)) 49 (is_negated test)) 48 1 in
    omega (arith, words_short test x v, flags_long h (is_sameness test) (is_negated test) (words_within test x v), length-append (a ++ b ++ c) d, length-append (a ++ b) c, length-append a b)

-- a constant near 0
turned_back : (b : ℕ) → b < 256 → turns (opposite b) ≤ turns b
turned_back b lb =
    elim (nat_lt 128 b) as (λ t. nat_lt 128 b ≡ t → turns (opposite b) ≤ cond t (256 - b) b) [
      | true ↦ λ t. let gt : 128 < b = ltb-true 128 b t in
          elim (nat_lt 128 (opposite b)) as (λ u. nat_lt 128 (opposite b) ≡ u → cond u (256 - opposite b) (opposite b) ≤ 256 - b) [
            | true ↦ λ u. let more : 128 < opposite b = ltb-true 128 (opposite b) u in omega (arith, gt, lb, more)
            | false ↦ λ u. omega (arith, gt, lb)
          ] refl
      | false ↦ λ t. let le : b ≤ 128 = ltb-false 128 b t in
          elim (nat_lt 128 (opposite b)) as (λ u. nat_lt 128 (opposite b) ≡ u → cond u (256 - opposite b) (opposite b) ≤ b) [
            | true ↦ λ u. let more : 128 < opposite b = ltb-true 128 (opposite b) u in omega (arith, le, more)
            | false ↦ λ u. let less : opposite b ≤ 128 = ltb-false 128 (opposite b) u in omega (arith, le, less)
          ] refl
    ] refl

bytes_long : (h w a b c : ℕ) → length (add_bytes_code h w a b c) ≤ (w - h) + (h - w) + 2 + turns a + turns b + turns c
bytes_long h w a b c =
    omega (arith, add_turns h w a, add_turns w (w + 1) b, add_turns (w + 1) (w + 2) c, length-append (add_code h w a ++ add_code w (w + 1) b) (add_code (w + 1) (w + 2) c), length-append (add_code h w a) (add_code w (w + 1) b))

told_short : (x : Reg) → length (once_code (cell_of x + 2) (cell_of x)) + length (move_code (cell_of x) (cell_of x + 9) 49) + length (raise_code (cell_of x + 9) (cell_of x)) ≤ 325
told_short A = leb-true (length (once_code (100 + 2) 100) + length (move_code 100 (100 + 9) 49) + length (raise_code (100 + 9) 100)) 325 refl
told_short B = leb-true (length (once_code (90 + 2) 90) + length (move_code 90 (90 + 9) 49) + length (raise_code (90 + 9) 90)) 325 refl
told_short C = leb-true (length (once_code (80 + 2) 80) + length (move_code 80 (80 + 9) 49) + length (raise_code (80 + 9) 80)) 325 refl
told_short D = leb-true (length (once_code (70 + 2) 70) + length (move_code 70 (70 + 9) 49) + length (raise_code (70 + 9) 70)) 325 refl
told_short SP = leb-true (length (once_code (60 + 2) 60) + length (move_code 60 (60 + 9) 49) + length (raise_code (60 + 9) 60)) 325 refl
told_short BP = leb-true (length (once_code (50 + 2) 50) + length (move_code 50 (50 + 9) 49) + length (raise_code (50 + 9) 50)) 325 refl

equals_long : (x : Reg) (n : ℕ) → is_near n ≡ true → length (equals_code 0 (cell_of x) n 49) ≤ 700
equals_long x n near =
    let w : ℕ = cell_of x in
    let l : ℕ = n % 256 in
    let m : ℕ = n / 256 % 256 in
    let k : ℕ = n / 65536 % 256 in
    let sum : turns l + turns m + turns k ≤ 128 = leb-true (turns l + turns m + turns k) 128 near in
    let a = add_bytes_code 0 w (opposite l) (opposite m) (opposite k) in
    let b = once_code (w + 2) w in
    let c = move_code w (w + 9) 49 in
    let d = raise_code (w + 9) w in
    let e = add_bytes_code w w l m k in
    omega (
      arith,
      high x,
      sum,
      turned_back l (omega arith),
      turned_back m (omega arith),
      turned_back k (omega arith),
      bytes_long 0 w (opposite l) (opposite m) (opposite k),
      told_short x,
      bytes_long w w l m k,
      length-append (a ++ b ++ c ++ d) e,
      length-append (a ++ b ++ c) d,
      length-append (a ++ b) c,
      length-append a b,
    )

near_rest : (h : ℕ) (otherwise : Bool) → 52 ≤ h → h ≤ 102 → length (flag_code h 97 otherwise) + length (add_code (flag_cell h 97 otherwise) 48 1) ≤ 110
near_rest h true from to = omega (arith, from, to, add_one h 97, add_one 97 48)
near_rest h false from to = omega (arith, from, to, add_one h 48)

near_short : (x : Reg) (n : ℕ) (otherwise : Bool) → is_near n ≡ true → length (near_code 0 otherwise x n) ≤ 922
near_short x n otherwise near =
    let h : ℕ = cell_of x + 2 in
    let a = equals_code 0 (cell_of x) n 49 in
    let b = flag_code h 97 otherwise in
    let c = add_code (flag_cell h 97 otherwise) 48 1 in
    omega (arith, equals_long x n near, near_rest h otherwise (omega (arith, low x)) (omega (arith, high x)), length-append (a ++ b) c, length-append a b)

near_then : (test : Cond) (n : ℕ) → is_told_near test n ≡ true → is_near n ≡ true
near_then Eq n e = e
near_then Ne n e = e
near_then Lt n e = cc
near_then Ge n e = cc
near_then Gt n e = cc
near_then Le n e = cc

pub pose_short : (test : Cond) (x : Reg) (v : Operand) → length (pose_code 0 test x v) ≤ 922
pose_short test x (register y) = far_short test x (register y)
pose_short test x (Imm w) =
    let n : ℕ = number_of w in
    elim (is_told_near test n) as (λ b. is_told_near test n ≡ b → length (cond b (near_code 0 (is_negated test) x n) (far_code 0 test x (Imm w))) ≤ 922) [
      | true ↦ λ near. near_short x n (is_negated test) (near_then test n near)
      | false ↦ λ near. far_short test x (Imm w)
    ] refl

-- a goal noted
digit_long : (h c v : ℕ) → v < 2 → length (add_code h c v) ≤ (c - h) + (h - c) + v
digit_long h c zero lv = add_turns h c 0
digit_long h c (suc zero) lv = add_turns h c 1
digit_long h c (suc (suc v)) lv = absurd (omega (arith, lv))

note_long : (n d : ℕ) → length (note_code n 48 d) + 48 ≤ cell_at note_cell 48 d + d
note_long n zero = omega arith
note_long n (suc d) =
    let k : ℕ = cell_at note_cell 48 d in
    let up : k ≤ note_cell d = climbs d in
    omega (arith, note_long n d, up, digit_long k (note_cell d) (digit_in n d) (omega arith), length-append (note_code n 48 d) (add_code k (note_cell d) (digit_in n d)))
  where
    climbs : (d : ℕ) → cell_at note_cell 48 d ≤ note_cell d
    climbs zero = omega arith
    climbs (suc d) = omega arith

noted_below : (d : ℕ) → d ≤ 14 → cell_at note_cell 48 d ≤ 75
noted_below zero few = omega arith
noted_below (suc d) few = omega (arith, few)

pub goal_short : (d : ℕ) (goal : Goal) → d ≤ 14 → length (note_goal_code 48 d goal) ≤ 56
goal_short d (Operation n) few = omega (arith, note_long n d, noted_below d few, few)
goal_short d (Block x) few = omega (arith, add_one 48 (mark_of x), low x, high x)

pub jumps_short : JumpsAreShort
jumps_short test x v goal d few = omega (arith, pose_short test x v, goal_short d goal few, length-append (pose_code 0 test x v) (note_goal_code 48 d goal))

-- the one text that decides, by computing its length for each number of digits
abbrev all_below : (n : ℕ) → (ℕ → Bool) → Bool
all_below zero test = true
all_below (suc n) test = cond (test n) (all_below n test) false

below : (n : ℕ) (test : ℕ → Bool) → all_below n test ≡ true → (d : ℕ) → d < n → test d ≡ true
below zero test all d lt = absurd (omega (arith, lt))
below (suc n) test all d lt =
    elim (nat_eq d n) as (λ t. nat_eq d n ≡ t → test d ≡ true) [
      | true ↦ λ t. ap test (eqb-true d n t) ∙ first (test n) (all_below n test) all
      | false ↦ λ t. let ne : d ≢ n = eqb-false d n t in below n test (rest (test n) (all_below n test) all) d (omega (arith, ne, lt))
    ] refl
  where
    first : (a b : Bool) → cond a b false ≡ true → a ≡ true
    first true b e = refl
    first false b e = e

    rest : (a b : Bool) → cond a b false ≡ true → b ≡ true
    rest true b e = e
    rest false b e = absurd (apart e)
      where
        apart : false ≡ true → ⊥
        apart e = cc

pub decide_short : (d : ℕ) → d ≤ 14 → length (decide_code 0 d) ≤ 4100 + 95 * d
decide_short d few = leb-true (length (decide_code 0 d)) (4100 + 95 * d) (below 15 (λ d. nat_le (length (decide_code 0 d)) (4100 + 95 * d)) refl d (omega (arith, few)))
