-- How long the operations are.
use Rattle.std.proofs.Common.{ℕ, ◌+◌, ◌-◌, ◌/◌, ◌%◌, ◌^◌, ◌<◌, ◌≤◌, Bool, true, false, nat_eq, cond, [], ◌∷◌, ◌++◌, length, refl, arith, length-append}
use Rattle.std.proofs.lemmas.Bool.{leb-true}
use Rattle.word24.specs.Word.{number_of}
use Rattle.eir_core.specs.declared.ops.Reg.{Reg}
use Rattle.eir_core.specs.declared.ops.Reg.TheVariants.{A, B, C, D, SP, BP}
use Rattle.eir_core.specs.declared.ops.Operand.{Operand}
use Rattle.eir_core.specs.declared.ops.Operand.TheVariants.{Reg as register, Imm}
use Rattle.eir_core.specs.declared.ops.Cond.{Cond}
use Rattle.eir_core.specs.declared.ops.Op.{Op}
use Rattle.eir_core.specs.declared.ops.Op.TheVariants.{Mov, Add, Sub, Load, Store, Putc, Getc, Exit, Set, Jump, JumpIf}
use Rattle.bf_tape.specs.Code.{goto_code, clear_code, add_code, more_code, move_code, read_code, write_code}
use Rattle.bf_lang.specs.declared.command.Command.TheVariants.{Minus}
use Rattle.bf_tape.specs.Does.{loop}
use Rattle.bf_tape.proofs.Added.{length-many, length_more}
use Rattle.bf_word.specs.WordCode.{dup_word_code, clear_word_code, set_code, lift_code, lower_code, once_code}
use Rattle.bf_ops.specs.Ask.{flag_of, serve_code}
use Rattle.bf_ops.specs.declared.telling.Told.{Told}
use Rattle.bf_ops.specs.declared.telling.Told.TheVariants.{Same, Smaller, AtMost}
use Rattle.bf_ops.specs.Frame.{cell_of, before, is_otherwise, told_of}
use Rattle.bf_ops.proofs.Kept.{stands}
use Rattle.bf_ops.specs.OpsCode.{copy_code, mov_code, sum_code, take_code, difference_code, tell_code, answer_code, set_if_code, ask_load_code, ask_store_code, putc_code, operation_code, OperationsAreShort}

length_goto : (h c : ℕ) → h < 256 → c < 256 → length (goto_code h c) ≤ 255
length_goto h c lh lc = simp (length-append, length-many) (omega arith)

length_clear : (h c : ℕ) → h < 256 → c < 256 → length (clear_code h c) ≤ 258
length_clear h c lh lc = omega (arith, length_goto h c lh lc, length-append (goto_code h c) (loop (Minus ∷ [])))

length_add : (h c v : ℕ) → h < 256 → c < 256 → v < 256 → length (add_code h c v) ≤ 383
length_add h c v lh lc lv = omega (arith, length_goto h c lh lc, length_more v lv, length-append (goto_code h c) (more_code v))

set_short : (h w n : ℕ) → h < 256 → w < 254 → length (set_code h w n) ≤ 2048
set_short h w n lh lw =
    let a = clear_code h w in
    let b = add_code w w (n % 256) in
    let c = clear_code w (w + 1) in
    let d = add_code (w + 1) (w + 1) (n / 256 % 256) in
    let e = clear_code (w + 1) (w + 2) in
    let f = add_code (w + 2) (w + 2) (n / 65536 % 256) in
    omega (
      arith,
      length_clear h w lh (omega arith),
      length_add w w (n % 256) (omega arith) (omega arith) (omega arith),
      length_clear w (w + 1) (omega arith) (omega arith),
      length_add (w + 1) (w + 1) (n / 256 % 256) (omega arith) (omega arith) (omega arith),
      length_clear (w + 1) (w + 2) (omega arith) (omega arith),
      length_add (w + 2) (w + 2) (n / 65536 % 256) (omega arith) (omega arith) (omega arith),
      length-append (a ++ b ++ c ++ d ++ e) f,
      length-append (a ++ b ++ c ++ d) e,
      length-append (a ++ b ++ c) d,
      length-append (a ++ b) c,
      length-append a b,
    )

dup_short : (x y : Reg) → length (dup_word_code ((cell_of x) + 2) (cell_of y) (cell_of x) ((cell_of y) + 3)) ≤ 4096
dup_short A A = leb-true (length (dup_word_code (100 + 2) 100 100 (100 + 3))) 4096 refl
dup_short A B = leb-true (length (dup_word_code (100 + 2) 90 100 (90 + 3))) 4096 refl
dup_short A C = leb-true (length (dup_word_code (100 + 2) 80 100 (80 + 3))) 4096 refl
dup_short A D = leb-true (length (dup_word_code (100 + 2) 70 100 (70 + 3))) 4096 refl
dup_short A SP = leb-true (length (dup_word_code (100 + 2) 60 100 (60 + 3))) 4096 refl
dup_short A BP = leb-true (length (dup_word_code (100 + 2) 50 100 (50 + 3))) 4096 refl
dup_short B A = leb-true (length (dup_word_code (90 + 2) 100 90 (100 + 3))) 4096 refl
dup_short B B = leb-true (length (dup_word_code (90 + 2) 90 90 (90 + 3))) 4096 refl
dup_short B C = leb-true (length (dup_word_code (90 + 2) 80 90 (80 + 3))) 4096 refl
dup_short B D = leb-true (length (dup_word_code (90 + 2) 70 90 (70 + 3))) 4096 refl
dup_short B SP = leb-true (length (dup_word_code (90 + 2) 60 90 (60 + 3))) 4096 refl
dup_short B BP = leb-true (length (dup_word_code (90 + 2) 50 90 (50 + 3))) 4096 refl
dup_short C A = leb-true (length (dup_word_code (80 + 2) 100 80 (100 + 3))) 4096 refl
dup_short C B = leb-true (length (dup_word_code (80 + 2) 90 80 (90 + 3))) 4096 refl
dup_short C C = leb-true (length (dup_word_code (80 + 2) 80 80 (80 + 3))) 4096 refl
dup_short C D = leb-true (length (dup_word_code (80 + 2) 70 80 (70 + 3))) 4096 refl
dup_short C SP = leb-true (length (dup_word_code (80 + 2) 60 80 (60 + 3))) 4096 refl
dup_short C BP = leb-true (length (dup_word_code (80 + 2) 50 80 (50 + 3))) 4096 refl
dup_short D A = leb-true (length (dup_word_code (70 + 2) 100 70 (100 + 3))) 4096 refl
dup_short D B = leb-true (length (dup_word_code (70 + 2) 90 70 (90 + 3))) 4096 refl
dup_short D C = leb-true (length (dup_word_code (70 + 2) 80 70 (80 + 3))) 4096 refl
dup_short D D = leb-true (length (dup_word_code (70 + 2) 70 70 (70 + 3))) 4096 refl
dup_short D SP = leb-true (length (dup_word_code (70 + 2) 60 70 (60 + 3))) 4096 refl
dup_short D BP = leb-true (length (dup_word_code (70 + 2) 50 70 (50 + 3))) 4096 refl
dup_short SP A = leb-true (length (dup_word_code (60 + 2) 100 60 (100 + 3))) 4096 refl
dup_short SP B = leb-true (length (dup_word_code (60 + 2) 90 60 (90 + 3))) 4096 refl
dup_short SP C = leb-true (length (dup_word_code (60 + 2) 80 60 (80 + 3))) 4096 refl
dup_short SP D = leb-true (length (dup_word_code (60 + 2) 70 60 (70 + 3))) 4096 refl
dup_short SP SP = leb-true (length (dup_word_code (60 + 2) 60 60 (60 + 3))) 4096 refl
dup_short SP BP = leb-true (length (dup_word_code (60 + 2) 50 60 (50 + 3))) 4096 refl
dup_short BP A = leb-true (length (dup_word_code (50 + 2) 100 50 (100 + 3))) 4096 refl
dup_short BP B = leb-true (length (dup_word_code (50 + 2) 90 50 (90 + 3))) 4096 refl
dup_short BP C = leb-true (length (dup_word_code (50 + 2) 80 50 (80 + 3))) 4096 refl
dup_short BP D = leb-true (length (dup_word_code (50 + 2) 70 50 (70 + 3))) 4096 refl
dup_short BP SP = leb-true (length (dup_word_code (50 + 2) 60 50 (60 + 3))) 4096 refl
dup_short BP BP = leb-true (length (dup_word_code (50 + 2) 50 50 (50 + 3))) 4096 refl

clear_short : (x : Reg) → length (clear_word_code 0 (cell_of x)) ≤ 512
clear_short A = leb-true (length (clear_word_code 0 100)) 512 refl
clear_short B = leb-true (length (clear_word_code 0 90)) 512 refl
clear_short C = leb-true (length (clear_word_code 0 80)) 512 refl
clear_short D = leb-true (length (clear_word_code 0 70)) 512 refl
clear_short SP = leb-true (length (clear_word_code 0 60)) 512 refl
clear_short BP = leb-true (length (clear_word_code 0 50)) 512 refl

-- a sum and a difference
sum_near : (x y : Reg) → length (sum_code 0 x (register y)) ≤ 1000
sum_near A A = leb-true (length (sum_code 0 A (register A))) 1000 refl
sum_near A B = leb-true (length (sum_code 0 A (register B))) 1000 refl
sum_near A C = leb-true (length (sum_code 0 A (register C))) 1000 refl
sum_near A D = leb-true (length (sum_code 0 A (register D))) 1000 refl
sum_near A SP = leb-true (length (sum_code 0 A (register SP))) 1000 refl
sum_near A BP = leb-true (length (sum_code 0 A (register BP))) 1000 refl
sum_near B A = leb-true (length (sum_code 0 B (register A))) 1000 refl
sum_near B B = leb-true (length (sum_code 0 B (register B))) 1000 refl
sum_near B C = leb-true (length (sum_code 0 B (register C))) 1000 refl
sum_near B D = leb-true (length (sum_code 0 B (register D))) 1000 refl
sum_near B SP = leb-true (length (sum_code 0 B (register SP))) 1000 refl
sum_near B BP = leb-true (length (sum_code 0 B (register BP))) 1000 refl
sum_near C A = leb-true (length (sum_code 0 C (register A))) 1000 refl
sum_near C B = leb-true (length (sum_code 0 C (register B))) 1000 refl
sum_near C C = leb-true (length (sum_code 0 C (register C))) 1000 refl
sum_near C D = leb-true (length (sum_code 0 C (register D))) 1000 refl
sum_near C SP = leb-true (length (sum_code 0 C (register SP))) 1000 refl
sum_near C BP = leb-true (length (sum_code 0 C (register BP))) 1000 refl
sum_near D A = leb-true (length (sum_code 0 D (register A))) 1000 refl
sum_near D B = leb-true (length (sum_code 0 D (register B))) 1000 refl
sum_near D C = leb-true (length (sum_code 0 D (register C))) 1000 refl
sum_near D D = leb-true (length (sum_code 0 D (register D))) 1000 refl
sum_near D SP = leb-true (length (sum_code 0 D (register SP))) 1000 refl
sum_near D BP = leb-true (length (sum_code 0 D (register BP))) 1000 refl
sum_near SP A = leb-true (length (sum_code 0 SP (register A))) 1000 refl
sum_near SP B = leb-true (length (sum_code 0 SP (register B))) 1000 refl
sum_near SP C = leb-true (length (sum_code 0 SP (register C))) 1000 refl
sum_near SP D = leb-true (length (sum_code 0 SP (register D))) 1000 refl
sum_near SP SP = leb-true (length (sum_code 0 SP (register SP))) 1000 refl
sum_near SP BP = leb-true (length (sum_code 0 SP (register BP))) 1000 refl
sum_near BP A = leb-true (length (sum_code 0 BP (register A))) 1000 refl
sum_near BP B = leb-true (length (sum_code 0 BP (register B))) 1000 refl
sum_near BP C = leb-true (length (sum_code 0 BP (register C))) 1000 refl
sum_near BP D = leb-true (length (sum_code 0 BP (register D))) 1000 refl
sum_near BP SP = leb-true (length (sum_code 0 BP (register SP))) 1000 refl
sum_near BP BP = leb-true (length (sum_code 0 BP (register BP))) 1000 refl

take_near : (x y : Reg) → length (take_code 0 x (register y)) ≤ 788
take_near A A = leb-true (length (take_code 0 A (register A))) 788 refl
take_near A B = leb-true (length (take_code 0 A (register B))) 788 refl
take_near A C = leb-true (length (take_code 0 A (register C))) 788 refl
take_near A D = leb-true (length (take_code 0 A (register D))) 788 refl
take_near A SP = leb-true (length (take_code 0 A (register SP))) 788 refl
take_near A BP = leb-true (length (take_code 0 A (register BP))) 788 refl
take_near B A = leb-true (length (take_code 0 B (register A))) 788 refl
take_near B B = leb-true (length (take_code 0 B (register B))) 788 refl
take_near B C = leb-true (length (take_code 0 B (register C))) 788 refl
take_near B D = leb-true (length (take_code 0 B (register D))) 788 refl
take_near B SP = leb-true (length (take_code 0 B (register SP))) 788 refl
take_near B BP = leb-true (length (take_code 0 B (register BP))) 788 refl
take_near C A = leb-true (length (take_code 0 C (register A))) 788 refl
take_near C B = leb-true (length (take_code 0 C (register B))) 788 refl
take_near C C = leb-true (length (take_code 0 C (register C))) 788 refl
take_near C D = leb-true (length (take_code 0 C (register D))) 788 refl
take_near C SP = leb-true (length (take_code 0 C (register SP))) 788 refl
take_near C BP = leb-true (length (take_code 0 C (register BP))) 788 refl
take_near D A = leb-true (length (take_code 0 D (register A))) 788 refl
take_near D B = leb-true (length (take_code 0 D (register B))) 788 refl
take_near D C = leb-true (length (take_code 0 D (register C))) 788 refl
take_near D D = leb-true (length (take_code 0 D (register D))) 788 refl
take_near D SP = leb-true (length (take_code 0 D (register SP))) 788 refl
take_near D BP = leb-true (length (take_code 0 D (register BP))) 788 refl
take_near SP A = leb-true (length (take_code 0 SP (register A))) 788 refl
take_near SP B = leb-true (length (take_code 0 SP (register B))) 788 refl
take_near SP C = leb-true (length (take_code 0 SP (register C))) 788 refl
take_near SP D = leb-true (length (take_code 0 SP (register D))) 788 refl
take_near SP SP = leb-true (length (take_code 0 SP (register SP))) 788 refl
take_near SP BP = leb-true (length (take_code 0 SP (register BP))) 788 refl
take_near BP A = leb-true (length (take_code 0 BP (register A))) 788 refl
take_near BP B = leb-true (length (take_code 0 BP (register B))) 788 refl
take_near BP C = leb-true (length (take_code 0 BP (register C))) 788 refl
take_near BP D = leb-true (length (take_code 0 BP (register D))) 788 refl
take_near BP SP = leb-true (length (take_code 0 BP (register SP))) 788 refl
take_near BP BP = leb-true (length (take_code 0 BP (register BP))) 788 refl

lift_near : (x : Reg) → length (lift_code (before x + 2) (cell_of x) (before x)) ≤ 400
lift_near A = leb-true (length (lift_code (before A + 2) (cell_of A) (before A))) 400 refl
lift_near B = leb-true (length (lift_code (before B + 2) (cell_of B) (before B))) 400 refl
lift_near C = leb-true (length (lift_code (before C + 2) (cell_of C) (before C))) 400 refl
lift_near D = leb-true (length (lift_code (before D + 2) (cell_of D) (before D))) 400 refl
lift_near SP = leb-true (length (lift_code (before SP + 2) (cell_of SP) (before SP))) 400 refl
lift_near BP = leb-true (length (lift_code (before BP + 2) (cell_of BP) (before BP))) 400 refl

lower_near : (x : Reg) → length (lower_code (before x + 2) (cell_of x) (before x)) ≤ 270
lower_near A = leb-true (length (lower_code (before A + 2) (cell_of A) (before A))) 270 refl
lower_near B = leb-true (length (lower_code (before B + 2) (cell_of B) (before B))) 270 refl
lower_near C = leb-true (length (lower_code (before C + 2) (cell_of C) (before C))) 270 refl
lower_near D = leb-true (length (lower_code (before D + 2) (cell_of D) (before D))) 270 refl
lower_near SP = leb-true (length (lower_code (before SP + 2) (cell_of SP) (before SP))) 270 refl
lower_near BP = leb-true (length (lower_code (before BP + 2) (cell_of BP) (before BP))) 270 refl

borrow_near : (x : Reg) → length (clear_code (before x + 2) (cell_of x + 9)) ≤ 13
borrow_near A = leb-true (length (clear_code (before A + 2) (cell_of A + 9))) 13 refl
borrow_near B = leb-true (length (clear_code (before B + 2) (cell_of B + 9))) 13 refl
borrow_near C = leb-true (length (clear_code (before C + 2) (cell_of C + 9))) 13 refl
borrow_near D = leb-true (length (clear_code (before D + 2) (cell_of D + 9))) 13 refl
borrow_near SP = leb-true (length (clear_code (before SP + 2) (cell_of SP + 9))) 13 refl
borrow_near BP = leb-true (length (clear_code (before BP + 2) (cell_of BP + 9))) 13 refl

-- a constant set from cell 0 on
set_within : (w n : ℕ) → w < 254 → length (set_code 0 w n) ≤ w + 401
set_within w n lw =
    let stay : (k v : ℕ) → length (add_code k k v) ≤ length (more_code v) = λ k v. simp (length-append, length-many) (omega arith) in
    let la : length (clear_code 0 w) ≤ w + 3 = simp (length-append, length-many) (omega arith) in
    let lc : length (clear_code w (w + 1)) ≤ 4 = simp (length-append, length-many) (omega arith) in
    let le : length (clear_code (w + 1) (w + 2)) ≤ 4 = simp (length-append, length-many) (omega arith) in
    let a = clear_code 0 w in
    let b = add_code w w (n % 256) in
    let c = clear_code w (w + 1) in
    let d = add_code (w + 1) (w + 1) (n / 256 % 256) in
    let e = clear_code (w + 1) (w + 2) in
    let f = add_code (w + 2) (w + 2) (n / 65536 % 256) in
    omega (
      arith,
      la,
      lc,
      le,
      length_more (n % 256) (omega arith),
      length_more (n / 256 % 256) (omega arith),
      length_more (n / 65536 % 256) (omega arith),
      stay w (n % 256),
      stay (w + 1) (n / 256 % 256),
      stay (w + 2) (n / 65536 % 256),
      length-append (a ++ b ++ c ++ d ++ e) f,
      length-append (a ++ b ++ c ++ d) e,
      length-append (a ++ b ++ c) d,
      length-append (a ++ b) c,
      length-append a b,
    )

-- registers
register_below : (x : Reg) → cell_of x < 108
register_below x = let there = stands x in omega (arith, there.at, there.few)

register_most : (x : Reg) → cell_of x ≤ 100
register_most x = let there = stands x in omega (arith, there.at, there.few)

-- comparisons told in place
once_near : (x : Reg) → length (once_code (cell_of x + 9) (cell_of x)) ≤ 119
once_near A = leb-true (length (once_code (cell_of A + 9) (cell_of A))) 119 refl
once_near B = leb-true (length (once_code (cell_of B + 9) (cell_of B))) 119 refl
once_near C = leb-true (length (once_code (cell_of C + 9) (cell_of C))) 119 refl
once_near D = leb-true (length (once_code (cell_of D + 9) (cell_of D))) 119 refl
once_near SP = leb-true (length (once_code (cell_of SP + 9) (cell_of SP))) 119 refl
once_near BP = leb-true (length (once_code (cell_of BP + 9) (cell_of BP))) 119 refl

clear_near : (x : Reg) → length (clear_word_code (cell_of x) (cell_of x)) ≤ 11
clear_near A = leb-true (length (clear_word_code (cell_of A) (cell_of A))) 11 refl
clear_near B = leb-true (length (clear_word_code (cell_of B) (cell_of B))) 11 refl
clear_near C = leb-true (length (clear_word_code (cell_of C) (cell_of C))) 11 refl
clear_near D = leb-true (length (clear_word_code (cell_of D) (cell_of D))) 11 refl
clear_near SP = leb-true (length (clear_word_code (cell_of SP) (cell_of SP))) 11 refl
clear_near BP = leb-true (length (clear_word_code (cell_of BP) (cell_of BP))) 11 refl

clear_next : (x : Reg) → length (clear_word_code (before x + 2) (cell_of x)) ≤ 12
clear_next A = leb-true (length (clear_word_code (before A + 2) (cell_of A))) 12 refl
clear_next B = leb-true (length (clear_word_code (before B + 2) (cell_of B))) 12 refl
clear_next C = leb-true (length (clear_word_code (before C + 2) (cell_of C))) 12 refl
clear_next D = leb-true (length (clear_word_code (before D + 2) (cell_of D))) 12 refl
clear_next SP = leb-true (length (clear_word_code (before SP + 2) (cell_of SP))) 12 refl
clear_next BP = leb-true (length (clear_word_code (before BP + 2) (cell_of BP))) 12 refl

move_near : (x : Reg) → length (move_code (before x + 2) (cell_of x + 9) (cell_of x - 1)) ≤ 34
move_near A = leb-true (length (move_code (before A + 2) (cell_of A + 9) (cell_of A - 1))) 34 refl
move_near B = leb-true (length (move_code (before B + 2) (cell_of B + 9) (cell_of B - 1))) 34 refl
move_near C = leb-true (length (move_code (before C + 2) (cell_of C + 9) (cell_of C - 1))) 34 refl
move_near D = leb-true (length (move_code (before D + 2) (cell_of D + 9) (cell_of D - 1))) 34 refl
move_near SP = leb-true (length (move_code (before SP + 2) (cell_of SP + 9) (cell_of SP - 1))) 34 refl
move_near BP = leb-true (length (move_code (before BP + 2) (cell_of BP + 9) (cell_of BP - 1))) 34 refl

move_next : (x : Reg) → length (move_code (cell_of x + 2) (cell_of x + 9) (cell_of x - 1)) ≤ 31
move_next A = leb-true (length (move_code (cell_of A + 2) (cell_of A + 9) (cell_of A - 1))) 31 refl
move_next B = leb-true (length (move_code (cell_of B + 2) (cell_of B + 9) (cell_of B - 1))) 31 refl
move_next C = leb-true (length (move_code (cell_of C + 2) (cell_of C + 9) (cell_of C - 1))) 31 refl
move_next D = leb-true (length (move_code (cell_of D + 2) (cell_of D + 9) (cell_of D - 1))) 31 refl
move_next SP = leb-true (length (move_code (cell_of SP + 2) (cell_of SP + 9) (cell_of SP - 1))) 31 refl
move_next BP = leb-true (length (move_code (cell_of BP + 2) (cell_of BP + 9) (cell_of BP - 1))) 31 refl

answer_near : (x : Reg) → length (answer_code (cell_of x + 9) true x) ≤ 17
answer_near A = leb-true (length (answer_code (cell_of A + 9) true A)) 17 refl
answer_near B = leb-true (length (answer_code (cell_of B + 9) true B)) 17 refl
answer_near C = leb-true (length (answer_code (cell_of C + 9) true C)) 17 refl
answer_near D = leb-true (length (answer_code (cell_of D + 9) true D)) 17 refl
answer_near SP = leb-true (length (answer_code (cell_of SP + 9) true SP)) 17 refl
answer_near BP = leb-true (length (answer_code (cell_of BP + 9) true BP)) 17 refl

answer_next : (x : Reg) → length (answer_code (cell_of x + 9) false x) ≤ 17
answer_next A = leb-true (length (answer_code (cell_of A + 9) false A)) 17 refl
answer_next B = leb-true (length (answer_code (cell_of B + 9) false B)) 17 refl
answer_next C = leb-true (length (answer_code (cell_of C + 9) false C)) 17 refl
answer_next D = leb-true (length (answer_code (cell_of D + 9) false D)) 17 refl
answer_next SP = leb-true (length (answer_code (cell_of SP + 9) false SP)) 17 refl
answer_next BP = leb-true (length (answer_code (cell_of BP + 9) false BP)) 17 refl

getc_short : (x : Reg) → length (clear_word_code 0 (cell_of x) ++ read_code ((cell_of x) + 2) (cell_of x)) ≤ 1024
getc_short A = leb-true (length (clear_word_code 0 100 ++ read_code (100 + 2) 100)) 1024 refl
getc_short B = leb-true (length (clear_word_code 0 90 ++ read_code (90 + 2) 90)) 1024 refl
getc_short C = leb-true (length (clear_word_code 0 80 ++ read_code (80 + 2) 80)) 1024 refl
getc_short D = leb-true (length (clear_word_code 0 70 ++ read_code (70 + 2) 70)) 1024 refl
getc_short SP = leb-true (length (clear_word_code 0 60 ++ read_code (60 + 2) 60)) 1024 refl
getc_short BP = leb-true (length (clear_word_code 0 50 ++ read_code (50 + 2) 50)) 1024 refl

put_short : (x : Reg) → length (write_code 0 (cell_of x)) ≤ 256
put_short A = leb-true (length (write_code 0 100)) 256 refl
put_short B = leb-true (length (write_code 0 90)) 256 refl
put_short C = leb-true (length (write_code 0 80)) 256 refl
put_short D = leb-true (length (write_code 0 70)) 256 refl
put_short SP = leb-true (length (write_code 0 60)) 256 refl
put_short BP = leb-true (length (write_code 0 50)) 256 refl

cell_below : (x : Reg) → cell_of x < 254
cell_below x = let there = stands x in omega (arith, there.at, there.few)

mov_short : (x : Reg) (v : Operand) → length (mov_code 0 x v) ≤ 2 ^ 14
mov_short x (Imm w) = let s : length (set_code 0 (cell_of x) (number_of w)) ≤ 2048 = set_short 0 (cell_of x) (number_of w) (omega arith) (cell_below x) in omega (arith, s)
mov_short x (register y) =
    let d : length (copy_code 0 (cell_of x) (cell_of y)) ≤ 2 ^ 14 = omega (arith, clear_short x, dup_short x y, length-append (clear_word_code 0 (cell_of x)) (dup_word_code (cell_of x + 2) (cell_of y) (cell_of x) (cell_of y + 3))) in
    elim (nat_eq (cell_of y) (cell_of x)) as (λ t. length (cond t [] (copy_code 0 (cell_of x) (cell_of y))) ≤ 2 ^ 14) [ true ↦ omega arith | false ↦ d ]

sum_short : (x : Reg) (v : Operand) → length (sum_code 0 x v) ≤ 1000
sum_short x (register y) = sum_near x y
sum_short x (Imm w) = let l = register_below x in omega (arith, set_within (before x) (number_of w) (omega (arith, l)), lift_near x, l, length-append (set_code 0 (before x) (number_of w)) (lift_code (before x + 2) (cell_of x) (before x)))

take_short : (x : Reg) (v : Operand) → length (take_code 0 x v) ≤ 788
take_short x (register y) = take_near x y
take_short x (Imm w) =
    let l = register_below x in omega (arith, set_within (before x) (number_of w) (omega (arith, l)), lower_near x, register_most x, length-append (set_code 0 (before x) (number_of w)) (lower_code (before x + 2) (cell_of x) (before x)))

difference_short : (x : Reg) (v : Operand) → length (difference_code 0 x v) ≤ 1000
difference_short x v = omega (arith, take_short x v, borrow_near x, length-append (take_code 0 x v) (clear_code (before x + 2) (cell_of x + 9)))

-- a load and a store
asked_load : (x y : Reg) → length (ask_load_code 0 x (register y)) ≤ 750
asked_load A A = leb-true (length (ask_load_code 0 A (register A))) 750 refl
asked_load A B = leb-true (length (ask_load_code 0 A (register B))) 750 refl
asked_load A C = leb-true (length (ask_load_code 0 A (register C))) 750 refl
asked_load A D = leb-true (length (ask_load_code 0 A (register D))) 750 refl
asked_load A SP = leb-true (length (ask_load_code 0 A (register SP))) 750 refl
asked_load A BP = leb-true (length (ask_load_code 0 A (register BP))) 750 refl
asked_load B A = leb-true (length (ask_load_code 0 B (register A))) 750 refl
asked_load B B = leb-true (length (ask_load_code 0 B (register B))) 750 refl
asked_load B C = leb-true (length (ask_load_code 0 B (register C))) 750 refl
asked_load B D = leb-true (length (ask_load_code 0 B (register D))) 750 refl
asked_load B SP = leb-true (length (ask_load_code 0 B (register SP))) 750 refl
asked_load B BP = leb-true (length (ask_load_code 0 B (register BP))) 750 refl
asked_load C A = leb-true (length (ask_load_code 0 C (register A))) 750 refl
asked_load C B = leb-true (length (ask_load_code 0 C (register B))) 750 refl
asked_load C C = leb-true (length (ask_load_code 0 C (register C))) 750 refl
asked_load C D = leb-true (length (ask_load_code 0 C (register D))) 750 refl
asked_load C SP = leb-true (length (ask_load_code 0 C (register SP))) 750 refl
asked_load C BP = leb-true (length (ask_load_code 0 C (register BP))) 750 refl
asked_load D A = leb-true (length (ask_load_code 0 D (register A))) 750 refl
asked_load D B = leb-true (length (ask_load_code 0 D (register B))) 750 refl
asked_load D C = leb-true (length (ask_load_code 0 D (register C))) 750 refl
asked_load D D = leb-true (length (ask_load_code 0 D (register D))) 750 refl
asked_load D SP = leb-true (length (ask_load_code 0 D (register SP))) 750 refl
asked_load D BP = leb-true (length (ask_load_code 0 D (register BP))) 750 refl
asked_load SP A = leb-true (length (ask_load_code 0 SP (register A))) 750 refl
asked_load SP B = leb-true (length (ask_load_code 0 SP (register B))) 750 refl
asked_load SP C = leb-true (length (ask_load_code 0 SP (register C))) 750 refl
asked_load SP D = leb-true (length (ask_load_code 0 SP (register D))) 750 refl
asked_load SP SP = leb-true (length (ask_load_code 0 SP (register SP))) 750 refl
asked_load SP BP = leb-true (length (ask_load_code 0 SP (register BP))) 750 refl
asked_load BP A = leb-true (length (ask_load_code 0 BP (register A))) 750 refl
asked_load BP B = leb-true (length (ask_load_code 0 BP (register B))) 750 refl
asked_load BP C = leb-true (length (ask_load_code 0 BP (register C))) 750 refl
asked_load BP D = leb-true (length (ask_load_code 0 BP (register D))) 750 refl
asked_load BP SP = leb-true (length (ask_load_code 0 BP (register SP))) 750 refl
asked_load BP BP = leb-true (length (ask_load_code 0 BP (register BP))) 750 refl

asked_store : (x y : Reg) → length (ask_store_code 0 x (register y)) ≤ 1000
asked_store A A = leb-true (length (ask_store_code 0 A (register A))) 1000 refl
asked_store A B = leb-true (length (ask_store_code 0 A (register B))) 1000 refl
asked_store A C = leb-true (length (ask_store_code 0 A (register C))) 1000 refl
asked_store A D = leb-true (length (ask_store_code 0 A (register D))) 1000 refl
asked_store A SP = leb-true (length (ask_store_code 0 A (register SP))) 1000 refl
asked_store A BP = leb-true (length (ask_store_code 0 A (register BP))) 1000 refl
asked_store B A = leb-true (length (ask_store_code 0 B (register A))) 1000 refl
asked_store B B = leb-true (length (ask_store_code 0 B (register B))) 1000 refl
asked_store B C = leb-true (length (ask_store_code 0 B (register C))) 1000 refl
asked_store B D = leb-true (length (ask_store_code 0 B (register D))) 1000 refl
asked_store B SP = leb-true (length (ask_store_code 0 B (register SP))) 1000 refl
asked_store B BP = leb-true (length (ask_store_code 0 B (register BP))) 1000 refl
asked_store C A = leb-true (length (ask_store_code 0 C (register A))) 1000 refl
asked_store C B = leb-true (length (ask_store_code 0 C (register B))) 1000 refl
asked_store C C = leb-true (length (ask_store_code 0 C (register C))) 1000 refl
asked_store C D = leb-true (length (ask_store_code 0 C (register D))) 1000 refl
asked_store C SP = leb-true (length (ask_store_code 0 C (register SP))) 1000 refl
asked_store C BP = leb-true (length (ask_store_code 0 C (register BP))) 1000 refl
asked_store D A = leb-true (length (ask_store_code 0 D (register A))) 1000 refl
asked_store D B = leb-true (length (ask_store_code 0 D (register B))) 1000 refl
asked_store D C = leb-true (length (ask_store_code 0 D (register C))) 1000 refl
asked_store D D = leb-true (length (ask_store_code 0 D (register D))) 1000 refl
asked_store D SP = leb-true (length (ask_store_code 0 D (register SP))) 1000 refl
asked_store D BP = leb-true (length (ask_store_code 0 D (register BP))) 1000 refl
asked_store SP A = leb-true (length (ask_store_code 0 SP (register A))) 1000 refl
asked_store SP B = leb-true (length (ask_store_code 0 SP (register B))) 1000 refl
asked_store SP C = leb-true (length (ask_store_code 0 SP (register C))) 1000 refl
asked_store SP D = leb-true (length (ask_store_code 0 SP (register D))) 1000 refl
asked_store SP SP = leb-true (length (ask_store_code 0 SP (register SP))) 1000 refl
asked_store SP BP = leb-true (length (ask_store_code 0 SP (register BP))) 1000 refl
asked_store BP A = leb-true (length (ask_store_code 0 BP (register A))) 1000 refl
asked_store BP B = leb-true (length (ask_store_code 0 BP (register B))) 1000 refl
asked_store BP C = leb-true (length (ask_store_code 0 BP (register C))) 1000 refl
asked_store BP D = leb-true (length (ask_store_code 0 BP (register D))) 1000 refl
asked_store BP SP = leb-true (length (ask_store_code 0 BP (register SP))) 1000 refl
asked_store BP BP = leb-true (length (ask_store_code 0 BP (register BP))) 1000 refl

load_rest : (x : Reg) → length (add_code 109 (flag_of x) 1 ++ add_code (flag_of x) 46 1) ≤ 80
load_rest A = leb-true (length (add_code 109 (flag_of A) 1 ++ add_code (flag_of A) 46 1)) 80 refl
load_rest B = leb-true (length (add_code 109 (flag_of B) 1 ++ add_code (flag_of B) 46 1)) 80 refl
load_rest C = leb-true (length (add_code 109 (flag_of C) 1 ++ add_code (flag_of C) 46 1)) 80 refl
load_rest D = leb-true (length (add_code 109 (flag_of D) 1 ++ add_code (flag_of D) 46 1)) 80 refl
load_rest SP = leb-true (length (add_code 109 (flag_of SP) 1 ++ add_code (flag_of SP) 46 1)) 80 refl
load_rest BP = leb-true (length (add_code 109 (flag_of BP) 1 ++ add_code (flag_of BP) 46 1)) 80 refl

store_rest : (x : Reg) → length (dup_word_code 109 (cell_of x) 87 (cell_of x + 3) ++ add_code (cell_of x + 3) 47 1) ≤ 480
store_rest A = leb-true (length (dup_word_code 109 (cell_of A) 87 (cell_of A + 3) ++ add_code (cell_of A + 3) 47 1)) 480 refl
store_rest B = leb-true (length (dup_word_code 109 (cell_of B) 87 (cell_of B + 3) ++ add_code (cell_of B + 3) 47 1)) 480 refl
store_rest C = leb-true (length (dup_word_code 109 (cell_of C) 87 (cell_of C + 3) ++ add_code (cell_of C + 3) 47 1)) 480 refl
store_rest D = leb-true (length (dup_word_code 109 (cell_of D) 87 (cell_of D + 3) ++ add_code (cell_of D + 3) 47 1)) 480 refl
store_rest SP = leb-true (length (dup_word_code 109 (cell_of SP) 87 (cell_of SP + 3) ++ add_code (cell_of SP + 3) 47 1)) 480 refl
store_rest BP = leb-true (length (dup_word_code 109 (cell_of BP) 87 (cell_of BP + 3) ++ add_code (cell_of BP + 3) 47 1)) 480 refl

set_address : (n : ℕ) → length (set_code 0 107 n) ≤ 502
set_address n =
    let a = clear_code 0 107 in
    let b = more_code (n % 256) in
    let c = clear_code 107 108 in
    let d = more_code (n / 256 % 256) in
    let e = clear_code 108 109 in
    let f = more_code (n / 65536 % 256) in
    let la : length a ≤ 110 = leb-true (length (clear_code 0 107)) 110 refl in
    let lc : length c ≤ 4 = leb-true (length (clear_code 107 108)) 4 refl in
    let le : length e ≤ 4 = leb-true (length (clear_code 108 109)) 4 refl in
    let stay : (k v : ℕ) → length (add_code k k v) ≤ length (more_code v) = λ k v. simp (length-append, length-many) (omega arith) in
    omega (
      arith,
      la,
      lc,
      le,
      length_more (n % 256) (omega arith),
      length_more (n / 256 % 256) (omega arith),
      length_more (n / 65536 % 256) (omega arith),
      stay 107 (n % 256),
      stay 108 (n / 256 % 256),
      stay 109 (n / 65536 % 256),
      length-append (a ++ add_code 107 107 (n % 256) ++ c ++ add_code 108 108 (n / 256 % 256) ++ e) (add_code 109 109 (n / 65536 % 256)),
      length-append (a ++ add_code 107 107 (n % 256) ++ c ++ add_code 108 108 (n / 256 % 256)) e,
      length-append (a ++ add_code 107 107 (n % 256) ++ c) (add_code 108 108 (n / 256 % 256)),
      length-append (a ++ add_code 107 107 (n % 256)) c,
      length-append a (add_code 107 107 (n % 256)),
    )

ask_load_short : (x : Reg) (v : Operand) → length (ask_load_code 0 x v) ≤ 750
ask_load_short x (register y) = asked_load x y
ask_load_short x (Imm w) =
    let a = set_code 0 107 (number_of w) in
    let b = add_code 109 (flag_of x) 1 in
    let c = add_code (flag_of x) 46 1 in
    omega (arith, set_address (number_of w), load_rest x, length-append (a ++ b) c, length-append a b, length-append b c)

ask_store_short : (x : Reg) (v : Operand) → length (ask_store_code 0 x v) ≤ 1000
ask_store_short x (register y) = asked_store x y
ask_store_short x (Imm w) =
    let a = set_code 0 107 (number_of w) in
    let b = dup_word_code 109 (cell_of x) 87 (cell_of x + 3) in
    let c = add_code (cell_of x + 3) 47 1 in
    omega (arith, set_address (number_of w), store_rest x, length-append (a ++ b) c, length-append a b, length-append b c)

answered_short : (b : Bool) (x : Reg) → length (answer_code (cell_of x + 9) b x) ≤ 17
answered_short true x = answer_near x
answered_short false x = answer_next x

tell_short : (m : Told) (x : Reg) (v : Operand) → length (tell_code 0 m x v) ≤ 983
tell_short Same x v =
    let a = take_code 0 x v in
    let b = clear_code (before x + 2) (cell_of x + 9) in
    let c = once_code (cell_of x + 9) (cell_of x) in
    let d = clear_word_code (cell_of x) (cell_of x) in
    let e = move_code (cell_of x + 2) (cell_of x + 9) (cell_of x - 1) in
    omega (arith, take_short x v, borrow_near x, once_near x, clear_near x, move_next x, length-append (a ++ b ++ c ++ d) e, length-append (a ++ b ++ c) d, length-append (a ++ b) c, length-append a b)
tell_short Smaller x v =
    let a = take_code 0 x v in
    let b = clear_word_code (before x + 2) (cell_of x) in
    let c = move_code (cell_of x + 2) (cell_of x + 9) (cell_of x - 1) in
    omega (arith, take_short x v, clear_next x, move_next x, length-append (a ++ b) c, length-append a b)
tell_short AtMost x v =
    let a = take_code 0 x v in
    let b = move_code (before x + 2) (cell_of x + 9) (cell_of x - 1) in
    let c = once_code (cell_of x + 9) (cell_of x) in
    let d = clear_word_code (cell_of x) (cell_of x) in
    let e = move_code (cell_of x + 2) (cell_of x + 9) (cell_of x - 1) in
    omega (arith, take_short x v, move_near x, once_near x, clear_near x, move_next x, length-append (a ++ b ++ c ++ d) e, length-append (a ++ b ++ c) d, length-append (a ++ b) c, length-append a b)

set_if_short : (test : Cond) (x : Reg) (v : Operand) → length (set_if_code 0 test x v) ≤ 1000
set_if_short test x v = omega (arith, tell_short (told_of test) x v, answered_short (is_otherwise test) x, length-append (tell_code 0 (told_of test) x v) (answer_code (cell_of x + 9) (is_otherwise test) x))

putc_short : (v : Operand) → length (putc_code 0 v) ≤ 2 ^ 14
putc_short (register q) = let s = put_short q in omega (arith, s)
putc_short (Imm w) =
    let a = add_code 0 110 (number_of w % 256) in
    let b = write_code 110 110 in
    let e = clear_code 110 110 in
    let lb : length b ≤ 16 = leb-true (length (write_code 110 110)) 16 refl in
    let le : length e ≤ 16 = leb-true (length (clear_code 110 110)) 16 refl in
    omega (arith, length_add 0 110 (number_of w % 256) (omega arith) (omega arith) (omega arith), lb, le, length-append (a ++ b) e, length-append a b)

short_any : (op : Op) → length (operation_code 0 op) ≤ 2 ^ 14
short_any (Mov x v) = mov_short x v
short_any (Add x v) = let s = sum_short x v in omega (arith, s)
short_any (Sub x v) = let s = difference_short x v in omega (arith, s)
short_any (Load x v) = let s = ask_load_short x v in omega (arith, s)
short_any (Store x v) = let s = ask_store_short x v in omega (arith, s)
short_any (Putc v) = putc_short v
short_any (Getc x) = let s = getc_short x in omega (arith, s)
short_any (Set test x v) = let s = set_if_short test x v in omega (arith, s)
short_any Exit = omega arith
short_any (Jump v) = omega arith
short_any (JumpIf test v x w) = omega arith

pub operations_short : OperationsAreShort
operations_short = record { any = short_any; sums = sum_short; differences = difference_short; comparisons = set_if_short; loads = ask_load_short; stores = ask_store_short; tail = leb-true (length (serve_code 0)) (2 ^ 14) refl }
