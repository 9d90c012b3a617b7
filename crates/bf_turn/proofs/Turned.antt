-- A turn of the loop.
use Rattle.std.proofs.Common.{◌≡◌, ◌≢◌, ℕ, zero, suc, ◌+◌, ◌*◌, ◌%◌, ◌^◌, ◌<◌, ◌≤◌, inl, Bool, true, false, cond, List, [], ◌∷◌, ◌++◌, length, take, slice_get, slice_index, sum_by, Some, None, refl, sym, ap, subst, ◌∙◌, arith, append-nil, length-append}
use Rattle.mach_core.specs.Rule.{IsInput, input_at}
use Rattle.std.proofs.lemmas.Option.{slice_get_within}
use Rattle.std.proofs.lemmas.List.Sums.{sum_by-take-le}
use Rattle.std.proofs.lemmas.List.Concat.{length-flat_map}
use Rattle.mach_core.proofs.Inputs.{input_at_byte}
use Rattle.word24.specs.Word.{IsWord}
use Rattle.eir_core.specs.Words.{IsWords}
use Rattle.eir_core.proofs.WordsKept.{after-IsWords}
use Rattle.eir_core.specs.declared.ops.Reg.{Reg}
use Rattle.eir_core.specs.declared.ops.Op.{Op}
use Rattle.eir_core.specs.declared.ops.Op.TheVariants.{Mov, Add, Sub, Load, Store, Putc, Getc, Set, Exit, Jump, JumpIf}
use Rattle.eir_core.specs.Memory.{Memory, word_at}
use Rattle.eir_core.specs.Eir.{Eir, IsEir, size_of}
use Rattle.eir_core.specs.Step.{Regs, Config, op_at, after, reg_of, takes, bytes_of}
use Rattle.sim_trait.specs.Digits.{digit_count}
use Rattle.sim_trait.proofs.Digits.{digit_count-digits}
use Rattle.bf_lang.specs.declared.command.Command.{Command}
use Rattle.bf_tape.specs.Tape.{Tape, get, put}
use Rattle.bf_tape.specs.Does.{Does}
use Rattle.bf_tape.specs.Piece.{Piece, joined, Adds, any}
use Rattle.bf_tape.proofs.Moves.{does_none, does_then, does_within}
use Rattle.bf_tape.proofs.Turning.{get_put, get_other}
use Rattle.bf_word.specs.Word.{word_in, with_word, low_byte, mid_byte, high_byte}
use Rattle.bf_word.proofs.Words.{cell_kept}
use Rattle.bf_memory.specs.Row.{Holds, slot}
use Rattle.bf_ops.specs.Frame.{cell_of, IsFrame, Keeps}
use Rattle.bf_ops.specs.Ask.{Ask, flag_of, asking, served, wait_of, IsOfWords, Serves}
use Rattle.bf_ops.specs.Ask.Ask.{Nothing, Loading, Storing}
use Rattle.bf_ops.specs.Perform.{AreWords, regs_after, memory_after, asked_by, asks, steps_of, steps_before}
use Rattle.bf_ops.proofs.Kept.{stands, slot_far}
use Rattle.bf_ops.proofs.Lengths.{operations_short}
use Rattle.bf_choice.specs.Choice.{AreFree, AreBalanced, aimed, advanced, chosen, chosen_at, none_chosen, digits_of, tree_code, pick, weight}
use Rattle.bf_choice.proofs.Chosen.{none_get, none_put, pick_is}
use Rattle.bf_choice.proofs.Aimed.{digits_are, aimed_get, aim_is_next}
use Rattle.bf_choice.proofs.At.{does_tree_at}
use Rattle.bf_choice.proofs.Lengths.{short}
use Rattle.bf_jump.specs.declared.goal.Goal.{Goal}
use Rattle.bf_jump.specs.declared.goal.Goal.TheVariants.{Operation, Block}
use Rattle.bf_turn.specs.Number.{op_count, number_at, first_numbers, following, digits_in, any_of, accesses, is_branch, branches}
use Rattle.bf_turn.specs.Goal.{goal_after, number_for}
use Rattle.bf_jump.specs.Note.{note_cell, digit_in, row}
use Rattle.bf_jump.specs.Pose.{words_posed, posed_as, IsPosed}
use Rattle.bf_jump.specs.Goal.{aimed_for, mark_of, noted_for, Decides}
use Rattle.bf_turn.specs.Arm.{Leaves, AimsOn, piece_most, IsArm, AreArms, HasAll}
use Rattle.bf_turn.specs.Arm.Leaves.{Aimed, Asked}
use Rattle.bf_turn.specs.Lookup.{LooksUp}
use Rattle.bf_turn.specs.Turn.{Decisions, decision_code, decision_cell, IsDecided, IsServed, Tails, tail_code, tail_cell, TurnsBy, IsSettled, choosing, Settles, Stops, turn_most, IsTurn}
use Rattle.bf_turn.proofs.Beside.{of_chosen_at, of_none, of_advanced, at_beyond, at_third, none_third, aimed_other, none_aimed, advanced_first, still_at, still_same, none_bare, frame_same, holds_same, keeps_same}
use Rattle.bf_turn.proofs.Armed.{aimed_asking, aimed_served, asking_low, served_low}
use Rattle.bf_jump.proofs.Asked.{posed_as_get}
use Rattle.bf_jump.proofs.Headed.{mark_low, aimed_for_get}
use Rattle.bf_jump.proofs.Lengths.{decide_short}
use Rattle.bf_jump.proofs.Rows.{note_low, row_get}
use Rattle.bf_turn.proofs.Listed.{all_ops, first_count, sum_more}
use Rattle.bf_turn.proofs.Eirs.{Found, found, number_is, number_past, number_in, IsNext, goes_next, flat_at}

-- the text that serves what is asked, or none
pub tail_serves : {p q : Piece} (tail : Bool) → tail ≡ true → Serves p q → Tails p q tail
tail_serves tail on a = record { added = a.added; commands = a.commands; balanced = a.balanced; idle = a.idle; serves = λ on'. a.does }

pub tail_none : (p : Piece) (tail : Bool) → tail ≡ false → Tails p p tail
tail_none p tail off = record {
  added = [];
  commands = sym (append-nil p.commands);
  balanced = refl;
  idle = λ input s is l st. does_within 1024 (does_none input p.cell s) (omega arith);
  serves = λ on. absurd (apart (sym off ∙ on));
}
  where
    apart : false ≡ true → ⊥
    apart e = cc

-- the text that decides what conditional jumps asked, or none
pub decision_some : {p q : Piece} (d : ℕ) (branches : Bool) → branches ≡ true → Decides p q d → Decisions p q d branches
decision_some d branches on a = record { added = a.added; commands = a.commands; balanced = a.balanced; idle = a.idle; decides = λ on'. a.does }

pub decision_none : (p : Piece) (d : ℕ) (branches : Bool) → branches ≡ false → Decisions p p d branches
decision_none p d branches off = record {
  added = [];
  commands = sym (append-nil p.commands);
  balanced = refl;
  idle = λ input s is o. does_within 512 (does_none input p.cell s) (omega arith);
  decides = λ on. absurd (apart (sym off ∙ on));
}
  where
    apart : false ≡ true → ⊥
    apart e = cc

decision_short : (d : ℕ) (branches : Bool) → d ≤ 14 → length (decision_code 0 d branches) ≤ 2 ^ 14
decision_short d true few = omega (arith, few, decide_short d few)
decision_short d false few = omega arith

pub decided_by : {first p0 p1 last : Piece} (tree : List Command) (d : ℕ) (branches : Bool) → d ≤ 14 → first ≡ record { commands = []; cell = 0 } → p0 ≡ joined first tree 0 → p1 ≡ joined p0 (decision_code p0.cell d branches) (decision_cell p0.cell branches) → Decisions p0 p1 d branches
    → Adds p1 last any (λ input s. s) 255 255 → last.cell ≡ 0 → IsDecided last.commands d branches tree
decided_by {first = first} {p0 = p0} {p1 = p1} {last = last} tree d branches few from joins decision_is a back home =
    let tree_is : p0.commands ≡ tree = ap (λ p. p.commands) joins ∙ ap (λ (p : Piece). p.commands ++ tree) from in
    let p0_cell : p0.cell ≡ 0 = ap (λ p. p.cell) joins in
    let decision_is_code : p1.commands ≡ p0.commands ++ decision_code 0 d branches = ap (λ p. p.commands) decision_is ∙ ap (λ h. p0.commands ++ decision_code h d branches) p0_cell in
    let code : last.commands ≡ tree ++ a.added ++ back.added = back.commands ∙ ap (λ xs. xs ++ back.added) (a.commands ∙ ap (λ xs. xs ++ a.added) tree_is) in
    let ends_at : (input : List ℕ) (s t u : Tape) (n k : ℕ) → IsInput input → Does input tree 0 s 0 t n → Does input a.added p0.cell t p1.cell u k → Does input last.commands 0 s 0 u (n + k + 255) =
    λ input s t u n k is does more.
    let both : Does input (tree ++ a.added) 0 s p1.cell u (n + k) = does_then (n + k) does (subst (λ y. Does input a.added y t p1.cell u k) p0_cell more) (omega arith) in
    let all : Does input (tree ++ a.added ++ back.added) 0 s last.cell u (n + k + 255) = does_then (n + k + 255) both (back.does input u is tt) (omega arith) in
    subst (λ y. Does input last.commands 0 s y u (n + k + 255)) home (subst (λ xs. Does input xs 0 s last.cell u (n + k + 255)) (sym code) all) in
    record {
      short = omega (arith, ap length back.commands, ap length decision_is_code, ap length tree_is, length-append p1.commands back.added, length-append p0.commands (decision_code 0 d branches), decision_short d branches few, back.short);
      idle = λ input s t n is does off. does_within (n + 1024) (ends_at input s t t n 512 is does (a.idle input t is off)) (omega arith);
      decides = λ on input u s t goal k truth n is does frame free spare flag posed.
          does_within (n + 11 * 2 ^ 20 + 1024) (ends_at input u (aimed d k (noted_for d goal t)) (aimed_for d (cond truth goal (Operation k)) s) n (11 * 2 ^ 20) is does (a.decides on input s t goal k truth is frame free spare flag posed)) (omega arith);
    }

tail_short : (tail : Bool) → length (tail_code 0 tail) ≤ 2 ^ 14
tail_short true = operations_short.tail
tail_short false = omega arith

-- the parts of a turn
pub turns_by : {first p0 pt p1 p2 last : Piece} (tree : List Command) (d : ℕ) (ns : List ℕ) (tail : Bool) → d ≤ 14 → first ≡ record { commands = []; cell = 0 } → p0 ≡ joined first tree 0 → pt ≡ joined p0 (tail_code p0.cell tail) (tail_cell p0.cell tail) → Tails p0 pt tail
    → p1.cell ≡ 44 → LooksUp pt p1 d ns → Adds p1 p2 any (λ input s. advanced d s) (d * 2 ^ 18) (d * 1024) → Adds p2 last any (λ input s. s) 255 255 → last.cell ≡ 0 → TurnsBy last.commands d ns tail tree
turns_by {first = first} {p0 = p0} {pt = pt} {p1 = p1} {p2 = p2} {last = last} tree d ns tail few from joins tail_is tails at look advance back home =
    let tree_is : p0.commands ≡ tree = ap (λ p. p.commands) joins ∙ ap (λ (p : Piece). p.commands ++ tree) from in
    let p0_cell : p0.cell ≡ 0 = ap (λ p. p.cell) joins in
    let tail_code_is : pt.commands ≡ p0.commands ++ tail_code 0 tail = ap (λ p. p.commands) tail_is ∙ ap (λ h. p0.commands ++ tail_code h tail) p0_cell in
    let code : last.commands ≡ tree ++ tails.added ++ look.added ++ advance.added ++ back.added =
    back.commands ∙ ap (λ xs. xs ++ back.added) (advance.commands ∙ ap (λ xs. xs ++ advance.added) (look.commands ∙ ap (λ xs. xs ++ look.added) (tails.commands ∙ ap (λ xs. xs ++ tails.added) tree_is))) in
    let ends_at : (input : List ℕ) (s t t' u : Tape) (n j k : ℕ) → IsInput input → Does input tree 0 s 0 t n → Does input tails.added p0.cell t pt.cell t' j → Does input look.added pt.cell t' 44 u k → Does input last.commands 0 s 0 (advanced d u) (n + j + k + d * 2 ^ 18 + 255) =
    λ input s t t' u n j k is does serves looks.
    let after_tail : Does input (tree ++ tails.added) 0 s pt.cell t' (n + j) = does_then (n + j) does (subst (λ y. Does input tails.added y t pt.cell t' j) p0_cell serves) (omega arith) in
    let after_look : Does input (tree ++ tails.added ++ look.added) 0 s p1.cell u (n + j + k) = does_then (n + j + k) after_tail (subst (λ y. Does input look.added pt.cell t' y u k) (sym at) looks) (omega arith) in
    let all : Does input (tree ++ tails.added ++ look.added ++ advance.added ++ back.added) 0 s last.cell (advanced d u) (n + j + k + d * 2 ^ 18 + 255) =
    does_then (n + j + k + d * 2 ^ 18 + 255) (does_then (n + j + k + d * 2 ^ 18) after_look (advance.does input u is tt) (omega arith)) (back.does input (advanced d u) is tt) (omega arith) in
    subst (λ y. Does input last.commands 0 s y (advanced d u) (n + j + k + d * 2 ^ 18 + 255)) home (subst (λ xs. Does input xs 0 s last.cell (advanced d u) (n + j + k + d * 2 ^ 18 + 255)) (sym code) all) in
    record {
      short = omega (arith, ap length back.commands, ap length advance.commands, ap length look.commands, ap length tail_code_is, ap length tree_is, length-append p2.commands back.added, length-append p1.commands advance.added, length-append pt.commands look.added, length-append p0.commands (tail_code 0 tail), tail_short tail, look.short, advance.short, back.short);
      goes = λ input s b goal ask m n is does served_by frame holds words free flag below.
          does_within (n + wait_of ask + length ns * 2 ^ 14 + 2 ^ 22)
          (ends_at input s (aimed_for d goal (asking ask b)) (aimed_for d goal (served ask m b)) (aimed d (number_for ns (served ask m b) goal) (served ask m b)) n (wait_of ask) (length ns * 2 ^ 14 + 2 ^ 13) is does
          (waits input b goal ask m is served_by frame holds words free)
          (looks input b goal ask m is frame free flag below served_by)) (omega arith);
      ends = λ input s t n is does off off_load off_store.
          does_within (n + 2 ^ 22) (ends_at input s t t t n 1024 512 is does (tails.idle input t is off_load off_store) (look.idle input t is off)) (omega arith);
    }
  where
    -- the frame below the digits of what is aimed at
    beside_aim : (k : ℕ) (b : Tape) (c : ℕ) → 46 ≤ c → get (aimed d k b) c ≡ get b c
    beside_aim k b c lo = aimed_get d k b c (omega (arith, few))

    waits_there : (input : List ℕ) (b : Tape) (k : ℕ) (ask : Ask) (m : Memory) → IsInput input → tail ≡ true → IsFrame b → Holds m b → IsOfWords ask → Does input tails.added p0.cell (aimed d k (asking ask b)) pt.cell (aimed d k (served ask m b)) (wait_of ask)
    waits_there input b k ask m is on frame holds words =
        subst (λ t. Does input tails.added p0.cell (aimed d k (asking ask b)) pt.cell t (wait_of ask)) (sym (aimed_served d k ask m b few))
        (subst (λ t. Does input tails.added p0.cell t pt.cell (served ask m (aimed d k b)) (wait_of ask)) (sym (aimed_asking d k ask b few))
        (tails.serves on input (aimed d k b) m ask is (frame_same b (aimed d k b) (beside_aim k b) frame) (holds_same m b (aimed d k b) (beside_aim k b) holds) words))

    waits : (input : List ℕ) (b : Tape) (goal : Goal) (ask : Ask) (m : Memory) → IsInput input → IsServed tail goal ask → IsFrame b → Holds m b → IsOfWords ask → AreFree d b → Does input tails.added p0.cell (aimed_for d goal (asking ask b)) pt.cell (aimed_for d goal (served ask m b)) (wait_of ask)
    waits input b goal Nothing m is by frame holds words free =
        tails.idle input (aimed_for d goal b) is (aimed_for_get d goal b 46 (omega (arith, few)) (omega arith) (omega arith) ∙ frame.own 46 (omega arith) (omega arith)) (aimed_for_get d goal b 47 (omega (arith, few)) (omega arith) (omega arith) ∙ frame.own 47 (omega arith) (omega arith))
    waits input b (Operation k) (Loading x a) m is by frame holds words free = waits_there input b k (Loading x a) m is by frame holds words
    waits input b (Operation k) (Storing a v) m is by frame holds words free = waits_there input b k (Storing a v) m is by frame holds words
    waits input b (Block y) (Loading x a) m is by frame holds words free = absurd by
    waits input b (Block y) (Storing a v) m is by frame holds words free = absurd by

    flag_low : (k : ℕ) (u : Tape) → get u 44 ≡ 0 → get (aimed d k u) 44 ≡ 0
    flag_low k u off = aimed_get d k u 44 (omega (arith, few)) ∙ off

    looks : (input : List ℕ) (b : Tape) (goal : Goal) (ask : Ask) (m : Memory) → IsInput input → IsFrame b → AreFree d b → get b 44 ≡ 0 → ((x : Reg) → word_in (served ask m b) (cell_of x) < 2 ^ 24) → IsServed tail goal ask
        → Does input look.added pt.cell (aimed_for d goal (served ask m b)) 44 (aimed d (number_for ns (served ask m b) goal) (served ask m b)) (length ns * 2 ^ 14 + 2 ^ 13)
    looks input b (Operation k) ask m is frame free flag below by =
        does_within (length ns * 2 ^ 14 + 2 ^ 13) (look.idle input (aimed d k (served ask m b)) is (flag_low k (served ask m b) (served_low ask m b 44 (omega arith) ∙ flag))) (omega arith)
    looks input b (Block x) Nothing m is frame free flag below by = look.found input b (word_in b (cell_of x)) is free frame.clear flag (below x)
    looks input b (Block x) (Loading y a) m is frame free flag below by = absurd by
    looks input b (Block x) (Storing a v) m is frame free flag below by = absurd by

-- the piece of an operation among all
pub record Placed (d : ℕ) (ns : List ℕ) (last n i : ℕ) (op : Op) (arms : List (List Command)) : Type 0 where
  pub front : List (List Command)
  pub rest : List (List Command)
  pub code : List Command
  pub parts : arms ≡ front ++ code ∷ rest
  pub before : length front ≡ i
  pub arm : IsArm d ns (following last (n + i)) op code

placed : (d : ℕ) (ns : List ℕ) (last n i : ℕ) (op : Op) (ops : List Op) (arms : List (List Command)) → AreArms d ns last n ops arms → slice_get ops i ≡ Some op → Placed d ns last n i op arms
placed d ns last n i op [] arms are e = absurd (none_some op e)
  where
    none_some : {A : Type 0} (x : A) → None ≡ Some x → ⊥
    none_some x e = cc
placed d ns last n i op (x ∷ ops) [] are e = absurd are
placed d ns last n zero op (x ∷ ops) (a ∷ arms) are e =
    let same : x ≡ op = some_same x op e in
    let at : n ≡ n + 0 = omega arith in
    record { front = []; rest = arms; code = a; parts = refl; before = refl; arm = subst (λ k. IsArm d ns (following last k) op a) at (subst (λ o. IsArm d ns (following last n) o a) same are.0) }
  where
    some_same : {A : Type 0} (x y : A) → Some x ≡ Some y → x ≡ y
    some_same x y e = cc
placed d ns last n (suc i) op (x ∷ ops) (a ∷ arms) are e =
    let p = placed d ns last (n + 1) i op ops arms are.1 e in
    let at : n + 1 + i ≡ n + suc i = omega arith in
    record { front = a ∷ p.front; rest = p.rest; code = p.code; parts = ap (λ xs. a ∷ xs) p.parts; before = ap suc p.before; arm = subst (λ k. IsArm d ns (following last k) op p.code) at p.arm }

arms_balanced : (d : ℕ) (ns : List ℕ) (last n : ℕ) (ops : List Op) (arms : List (List Command)) → AreArms d ns last n ops arms → AreBalanced arms
arms_balanced d ns last n [] [] are = tt
arms_balanced d ns last n [] (a ∷ arms) are = absurd are
arms_balanced d ns last n (op ∷ ops) [] are = absurd are
arms_balanced d ns last n (op ∷ ops) (a ∷ arms) are = (are.0.balanced, arms_balanced d ns last (n + 1) ops arms are.1)

arms_weight : (d : ℕ) (ns : List ℕ) (last n : ℕ) (ops : List Op) (arms : List (List Command)) → AreArms d ns last n ops arms → (length arms ≡ length ops) × (weight arms ≤ 31744 * length arms)
arms_weight d ns last n [] [] are = (refl, omega arith)
arms_weight d ns last n [] (a ∷ arms) are = absurd are
arms_weight d ns last n (op ∷ ops) [] are = absurd are
arms_weight d ns last n (op ∷ ops) (a ∷ arms) are = let more = arms_weight d ns last (n + 1) ops arms are.1 in (ap suc more.0, omega (arith, more.1, are.0.short))

-- an operation that is as a test wants it is one of the program's
any_there : (test : Op → Bool) (ops : List Op) (i : ℕ) (op : Op) → slice_get ops i ≡ Some op → test op ≡ true → any_of test ops ≡ true
any_there test [] i op at on = absurd (none_some op at)
  where
    none_some : {A : Type 0} (x : A) → None ≡ Some x → ⊥
    none_some x e = cc
any_there test (x ∷ ops) zero op at on = let same : x ≡ op = some_same x op at in ap (λ b. cond b true (any_of test ops)) (ap test same ∙ on)
  where
    some_same : {A : Type 0} (x y : A) → Some x ≡ Some y → x ≡ y
    some_same x y e = cc
any_there test (x ∷ ops) (suc i) op at on = elim (test x) as (λ b. cond b true (any_of test ops) ≡ true) [ true ↦ refl | false ↦ any_there test ops i op at on ]

-- what an operation asks is served
served_by : (tail : Bool) (ns : List ℕ) (next : ℕ) (r : Regs) (op : Op) → (asks op ≡ true → tail ≡ true) → IsServed tail (goal_after ns next r op) (asked_by op r)
served_by tail ns next r (Mov x v) on = tt
served_by tail ns next r (Add x v) on = tt
served_by tail ns next r (Sub x v) on = tt
served_by tail ns next r (Load x v) on = on refl
served_by tail ns next r (Store x v) on = on refl
served_by tail ns next r (Putc v) on = tt
served_by tail ns next r (Getc x) on = tt
served_by tail ns next r (Set test x v) on = tt
served_by tail ns next r Exit on = tt
served_by tail ns next r (Jump v) on = tt
served_by tail ns next r (JumpIf test v x w) on = tt

-- the commands of an operation's piece and of what decides behind the choice
abbrev decided_most : Op → ℕ
decided_most op = cond (is_branch op) (19 * 2 ^ 20) (steps_before op + 2 ^ 14) + 1024

-- what comes before it and the serving of it are few commands
within_turn : (op : Op) (r : Regs) (d k : ℕ) → d ≤ 14 → decided_most op + d * 9000 + wait_of (asked_by op r) + k * 2 ^ 14 + 2 ^ 22 ≤ steps_of op r + (k * 2 ^ 14 + 2 ^ 23)
within_turn (Mov x v) r d k few = omega arith
within_turn (Add x v) r d k few = omega arith
within_turn (Sub x v) r d k few = omega arith
within_turn (Load x v) r d k few = omega arith
within_turn (Store x v) r d k few = omega arith
within_turn (Putc v) r d k few = omega arith
within_turn (Getc x) r d k few = omega arith
within_turn (Set test x v) r d k few = omega arith
within_turn Exit r d k few = omega arith
within_turn (Jump v) r d k few = omega arith
within_turn (JumpIf test v x w) r d k few = omega arith

-- a piece and what decides; a conditional jump's piece and what decides it
aimed_most : (op : Op) (d : ℕ) → piece_most op + d * 9000 + 1024 ≤ decided_most op + d * 9000
aimed_most op d = elim (is_branch op) as (λ b. cond b (2 ^ 23) (steps_before op + 2 ^ 14) + d * 9000 + 1024 ≤ cond b (19 * 2 ^ 20) (steps_before op + 2 ^ 14) + 1024 + d * 9000) [ true ↦ omega arith | false ↦ omega arith ]

asked_most : (op : Op) (d : ℕ) → is_branch op ≡ true → piece_most op + d * 9000 + 11 * 2 ^ 20 + 1024 ≤ decided_most op + d * 9000
asked_most op d on = subst (λ b. cond b (2 ^ 23) (steps_before op + 2 ^ 14) + d * 9000 + 11 * 2 ^ 20 + 1024 ≤ cond b (19 * 2 ^ 20) (steps_before op + 2 ^ 14) + 1024 + d * 9000) (sym on) (omega arith)

-- goals and cells
aimed_for_low : (d : ℕ) (g : Goal) (s : Tape) (c : ℕ) → c < 44 → c % 3 ≢ 0 → get (aimed_for d g s) c ≡ get s c
aimed_for_low d (Operation n) s c low third = aimed_other d n s c third
aimed_for_low d (Block x) s c low third = get_other (with_word s 114 (word_in s (cell_of x))) 44 c 1 (omega arith) ∙ cell_kept s 114 (word_in s (cell_of x)) c (inl (omega arith))

noted_low : (d : ℕ) (g : Goal) (s : Tape) (c : ℕ) → d ≤ 14 → c < 44 → get (noted_for d g s) c ≡ get s c
noted_low d (Operation n) s c few low = row_get note_cell (digit_in n) d s c (λ i lt. omega (arith, note_low i, low))
noted_low d (Block x) s c few low = get_other s (mark_of x) c 1 (omega (arith, mark_low x, low))

posed_low : (s t : Tape) (truth : Bool) (c : ℕ) → IsPosed s t truth → c < 44 → get t c ≡ get s c
posed_low s t truth c k low = ap (λ u. get u c) k.is ∙ posed_as_get s k.a k.b k.same k.otherwise c (inl (omega (arith, low))) (inl (omega (arith, low))) (inl (omega (arith, low)))

none_word : (d : ℕ) (s : Tape) (w v : ℕ) → 3 * d < w → none_chosen d (with_word s w v) ≡ with_word (none_chosen d s) w v
none_word d s w v h =
    sym (none_put d (put (put s w (low_byte v)) (w + 1) (mid_byte v)) (w + 2) (high_byte v) (omega arith))
    ∙ (ap (λ t. put t (w + 2) (high_byte v)) (sym (none_put d (put s w (low_byte v)) (w + 1) (mid_byte v) (omega arith)))
    ∙ ap (λ t. put (put t (w + 1) (mid_byte v)) (w + 2) (high_byte v)) (sym (none_put d s w (low_byte v) h)))

word_none : (d : ℕ) (s : Tape) (w : ℕ) → 3 * d < w → word_in (none_chosen d s) w ≡ word_in s w
word_none d s w h = λ i. none_get d s w h i + 256 * none_get d s (w + 1) (omega arith) i + 65536 * none_get d s (w + 2) (omega arith) i

none_aimed_for : (d : ℕ) (g : Goal) (s : Tape) → d ≤ 14 → none_chosen d (aimed_for d g s) ≡ aimed_for d g (none_chosen d s)
none_aimed_for d (Operation n) s few = none_aimed d d n s
none_aimed_for d (Block x) s few =
    let w : ℕ = word_in s (cell_of x) in
    let at = stands x in
    sym (none_put d (with_word s 114 w) 44 1 (omega arith))
    ∙ (ap (λ t. put t 44 1) (none_word d s 114 w (omega arith)) ∙ ap (λ v. put (with_word (none_chosen d s) 114 v) 44 1) (sym (word_none d s (cell_of x) (omega (arith, at.at)))))

none_row : (e : ℕ) (cell value : ℕ → ℕ) (d : ℕ) (s : Tape) → ((i : ℕ) → i < d → 3 * e < cell i) → none_chosen e (row cell value d s) ≡ row cell value d (none_chosen e s)
none_row e cell value zero s far = refl
none_row e cell value (suc d) s far =
    sym (none_put e (row cell value d s) (cell d) (value d) (far d (omega arith))) ∙ ap (λ t. put t (cell d) (value d)) (none_row e cell value d s (λ i lt. far i (omega (arith, lt))))

none_noted : (d : ℕ) (g : Goal) (s : Tape) → d ≤ 14 → none_chosen d (noted_for d g s) ≡ noted_for d g (none_chosen d s)
none_noted d (Operation n) s few = none_row d note_cell (digit_in n) d s (λ i lt. omega (arith, few, note_low i))
none_noted d (Block x) s few = sym (none_put d s (mark_of x) 1 (omega (arith, few, mark_low x)))

none_posed : (d : ℕ) (s t : Tape) (truth : Bool) → d ≤ 14 → IsPosed s t truth → IsPosed (none_chosen d s) (none_chosen d t) truth
none_posed d s t truth few k =
    let c47 : ℕ = cond k.same 1 0 in
    let c49 : ℕ = cond k.otherwise 1 0 in
    let w : Tape = words_posed s k.a k.b in
    let words_are : none_chosen d w ≡ words_posed (none_chosen d s) k.a k.b = none_word d (with_word s 87 k.a) 97 k.b (omega (arith, few)) ∙ ap (λ u. with_word u 97 k.b) (none_word d s 87 k.a (omega (arith, few))) in
    let all : none_chosen d (posed_as s k.a k.b k.same k.otherwise) ≡ posed_as (none_chosen d s) k.a k.b k.same k.otherwise =
    sym (none_put d (put (put w 47 c47) 49 c49) 48 1 (omega (arith, few)))
    ∙ ap (λ u. put u 48 1) (sym (none_put d (put w 47 c47) 49 c49 (omega (arith, few))) ∙ ap (λ u. put u 49 c49) (sym (none_put d w 47 c47 (omega (arith, few))) ∙ ap (λ u. put u 47 c47) words_are)) in
    record { a = k.a; b = k.b; same = k.same; otherwise = k.otherwise; is = ap (none_chosen d) k.is ∙ all; a_below = k.a_below; b_below = k.b_below; tells = k.tells }

none_asking : (d : ℕ) (ask : Ask) (s : Tape) → d ≤ 14 → none_chosen d (asking ask s) ≡ asking ask (none_chosen d s)
none_asking d Nothing s few = refl
none_asking d (Loading x a) s few =
    let at = stands x in
    let f : ℕ = flag_of x in
    sym (none_put d (put (with_word s 107 a) f 1) 46 1 (omega arith)) ∙ ap (λ t. put t 46 1) (sym (none_put d (with_word s 107 a) f 1 (omega (arith, at.at))) ∙ ap (λ t. put t f 1) (none_word d s 107 a (omega arith)))
none_asking d (Storing a v) s few =
    sym (none_put d (with_word (with_word s 107 a) 87 v) 47 1 (omega arith)) ∙ ap (λ t. put t 47 1) (none_word d (with_word s 107 a) 87 v (omega arith) ∙ ap (λ t. with_word t 87 v) (none_word d s 107 a (omega arith)))

none_served : (d : ℕ) (ask : Ask) (m : Memory) (s : Tape) → d ≤ 14 → none_chosen d (served ask m s) ≡ served ask m (none_chosen d s)
none_served d Nothing m s few = refl
none_served d (Loading x a) m s few = let at = stands x in none_word d s (cell_of x) (word_at m a) (omega (arith, at.at))
none_served d (Storing a v) m s few = let far : 174 ≤ slot a = slot_far a in none_word d s (slot a) v (omega arith)

-- what is asked of the memory leaves the cell of a jump that asks
asking_quiet : (ask : Ask) (s : Tape) → get (asking ask s) 48 ≡ get s 48
asking_quiet Nothing s = refl
asking_quiet (Loading x a) s =
    let at = stands x in
    get_other (put (with_word s 107 a) (flag_of x) 1) 46 48 1 (omega arith) ∙ (get_other (with_word s 107 a) (flag_of x) 48 1 (omega (arith, at.at)) ∙ cell_kept s 107 a 48 (inl (omega arith)))
asking_quiet (Storing a v) s = get_other (with_word (with_word s 107 a) 87 v) 47 48 1 (omega arith) ∙ (cell_kept (with_word s 107 a) 87 v 48 (inl (omega arith)) ∙ cell_kept s 107 a 48 (inl (omega arith)))

-- what serving leaves
served_base : (ask : Ask) (m : Memory) (s : Tape) → (served ask m s).base ≡ s.base
served_base Nothing m s = refl
served_base (Loading x a) m s = refl
served_base (Storing a v) m s = refl

served_taken : (ask : Ask) (m : Memory) (s : Tape) → (served ask m s).taken ≡ s.taken
served_taken Nothing m s = refl
served_taken (Loading x a) m s = refl
served_taken (Storing a v) m s = refl

served_output : (ask : Ask) (m : Memory) (s : Tape) → (served ask m s).output ≡ s.output
served_output Nothing m s = refl
served_output (Loading x a) m s = refl
served_output (Storing a v) m s = refl

number_same : (ns : List ℕ) (r : Regs) (b : Tape) (g : Goal) → ((x : Reg) → word_in b (cell_of x) ≡ reg_of r x) → number_for ns b g ≡ number_in ns r g
number_same ns r b (Operation n) regs = refl
number_same ns r b (Block x) regs = ap (slice_index ns) (regs x)

ops_few : (blocks : List (List Op)) (n : ℕ) → length blocks + sum_by length blocks ≤ n → n ≤ 2 ^ 14 → sum_by length blocks < 2 ^ 14
ops_few [] n le few = omega arith
ops_few (ops ∷ blocks) n le few = omega arith

-- the turn of a program
module _ (p : Eir) (sound : IsEir p) (small : size_of p ≤ 2 ^ 14) (body : List Command) (all : List (List Command)) (has : HasAll (digits_in p) (first_numbers 1 p.blocks) (op_count p) p.blocks all)
    (choice : List Command) (decided : IsDecided choice (digits_in p) (branches p) (tree_code (digits_in p) all)) (by : TurnsBy body (digits_in p) (first_numbers 1 p.blocks) (accesses p) choice) where
  abbrev d : ℕ
  d = digits_in p

  abbrev ns : List ℕ
  ns = first_numbers 1 p.blocks

  few : d ≤ 14
  few = (digit_count-digits (op_count p)).least 14 (ops_few p.blocks (size_of p) (omega arith) small)

  room : op_count p < 2 ^ d
  room = (digit_count-digits (op_count p)).enough

  parts : all ≡ has.end ∷ has.more.arms
  parts = has.more.pushed

  balanced : AreBalanced all
  balanced = subst AreBalanced (sym parts) (has.is_end.balanced, arms_balanced d ns (op_count p) 1 (all_ops p.blocks) has.more.arms has.more.are)

  picked : (front rest : List (List Command)) (a : List Command) (n : ℕ) → all ≡ front ++ a ∷ rest → length front ≡ n → n < 2 ^ d → pick d (digits_of d n) all ≡ Some a
  picked front rest a n is at lt = ap (pick d (digits_of d n)) is ∙ pick_is d (digits_of d n) front rest a (digits_are.many d n) (at ∙ sym (digits_are.number d n lt))

  -- a turn whose piece comes to a tape
  module _ (input : List ℕ) (is : IsInput input) (s : Tape) (c : Config) (settled : IsSettled p c s) (n : ℕ) where
    abbrev bs : List Bool
    bs = digits_of d n

    abbrev u : Tape
    u = chosen_at d bs s

    u_far : (k : ℕ) → 43 ≤ k → get u k ≡ get s k
    u_far k lo = at_beyond d bs s k (omega (arith, few))

    u_free : AreFree d u
    u_free = λ i lt. at_third d bs s (3 * i + 3) (omega arith) ∙ settled.bare (3 * i + 3) (omega arith) (omega arith)

    comes : (a : List Command) (t : Tape) (most : ℕ) → pick d bs all ≡ Some a → Does input a 0 u 0 t most → ((k : ℕ) → k < 44 → k % 3 ≢ 0 → get t k ≡ get u k) → Does input (tree_code d all) 0 (chosen d bs s) 0 (none_chosen d t) (most + d * 9000)
    comes a t most picks does same =
        does_tree_at input d bs all a s t most (digits_are.many d n) (omega (arith, few)) balanced picks does (still_same d bs t u (λ k lt third. same k (omega (arith, few)) third) (still_at d bs s))

  -- an operation
  module _ (input : List ℕ) (c : Config) (op : Op) (s : Tape) (is : IsInput input) (words : AreWords c.regs c.memory) (settled : IsSettled p c s) (here : op_at p c ≡ Some op) where
    abbrev k : ℕ
    k = number_at p c.block c.index

    abbrev byte : ℕ
    byte = input_at input s.taken

    abbrev c' : Config
    c' = after p c (Some op) byte

    next : IsNext p c' (regs_after op c.regs c.memory byte) (memory_after op c.regs c.memory) (number_in ns (regs_after op c.regs c.memory byte) (goal_after ns (following (op_count p) k) c.regs op))
    next = goes_next p c op byte sound here

    at : Found p c.block c.index op
    at = found p c.block c.index op here

    abbrev i : ℕ
    i = sum_by length (take c.block p.blocks) + c.index

    number : k ≡ i + 1
    number = number_is p c.block c.index (slice_get_within p.blocks c.block at.ops at.there)

    place : Placed d ns (op_count p) 1 i op has.more.arms
    place = placed d ns (op_count p) 1 i op (all_ops p.blocks) has.more.arms has.more.are (flat_at p.blocks c.block c.index at.ops op at.there at.here)

    abbrev u' : Tape
    u' = chosen_at d (digits_of d k) s

    abbrev g : Goal
    g = goal_after ns (following (op_count p) k) c.regs op

    arm : IsArm d ns (following (op_count p) k) op place.code
    arm = let e : 1 + i ≡ k = omega (arith, number) in subst (λ j. IsArm d ns (following (op_count p) j) op place.code) e place.arm

    come : AimsOn input place.code u' d (is_branch op) g (asked_by op c.regs) c.memory (regs_after op c.regs c.memory byte) (memory_after op c.regs c.memory) (cond (takes (Some op)) (s.taken + 1) s.taken) (s.output ++ bytes_of c.regs (Some op)) (piece_most op)
    come =
        let same_taken : u'.taken ≡ s.taken = of_chosen_at (λ t. t.taken) (λ t x v. refl) d (digits_of d k) s in
        let same_output : u'.output ≡ s.output = of_chosen_at (λ t. t.output) (λ t x v. refl) d (digits_of d k) s in
        subst (λ o. AimsOn input place.code u' d (is_branch op) g (asked_by op c.regs) c.memory (regs_after op c.regs c.memory byte) (memory_after op c.regs c.memory) (cond (takes (Some op)) (s.taken + 1) s.taken) (o ++ bytes_of c.regs (Some op)) (piece_most op)) same_output
        (subst (λ n. AimsOn input place.code u' d (is_branch op) g (asked_by op c.regs) c.memory (regs_after op c.regs c.memory (input_at input n)) (memory_after op c.regs c.memory) (cond (takes (Some op)) (n + 1) n) (u'.output ++ bytes_of c.regs (Some op)) (piece_most op)) same_taken
        (arm.does input u' c.regs c.memory is words (keeps_same c.regs c.memory s u' (λ x far. u_far input is s c settled k x (omega arith)) settled.keeps) (u_free input is s c settled k)
        (u_far input is s c settled k 43 (omega arith) ∙ settled.spare) (u_far input is s c settled k 44 (omega arith) ∙ settled.flag)))

    k_room : k < 2 ^ d
    k_room = omega (arith, number, room, sum_more p.blocks c.block at.ops at.there, sum_by-take-le length p.blocks (c.block + 1), slice_get_within at.ops c.index op at.here)

    abbrev ask : Ask
    ask = asked_by op c.regs

    abbrev b0 : Tape
    b0 = come.before

    abbrev b : Tape
    b = served ask c.memory b0

    abbrev b0' : Tape
    b0' = none_chosen d b0

    abbrev b' : Tape
    b' = none_chosen d b

    b_is : b' ≡ served ask c.memory b0'
    b_is = none_served d ask c.memory b0 few

    b_low : (x : ℕ) → x < 46 → get b x ≡ get u' x
    b_low x lt = served_low ask c.memory b0 x lt ∙ come.same x lt

    b_free : AreFree d b
    b_free = λ j lt. b_low (3 * j + 3) (omega (arith, few)) ∙ u_free input is s c settled k j lt

    b0_free : AreFree d b0
    b0_free = λ j lt. come.same (3 * j + 3) (omega (arith, few)) ∙ u_free input is s c settled k j lt

    b_same : (x : ℕ) → 43 ≤ x → get b' x ≡ get b x
    b_same x lo = none_get d b x (omega (arith, few))

    b0_same : (x : ℕ) → 43 ≤ x → get b0' x ≡ get b0 x
    b0_same x lo = none_get d b0 x (omega (arith, few))

    keeps' : Keeps (regs_after op c.regs c.memory byte) (memory_after op c.regs c.memory) b'
    keeps' = keeps_same (regs_after op c.regs c.memory byte) (memory_after op c.regs c.memory) b b' (λ x far. b_same x (omega arith)) come.keeps

    flag0 : get b0' 44 ≡ 0
    flag0 = b0_same 44 (omega arith) ∙ (come.same 44 (omega arith) ∙ (u_far input is s c settled k 44 (omega arith) ∙ settled.flag))

    bare0 : AreFree d b0'
    bare0 = let all_bare = none_bare d b0 b0_free in λ j lt. all_bare (3 * j + 3) (omega arith) (omega arith)

    frame0 : IsFrame b0'
    frame0 = frame_same b0 b0' (λ x far. b0_same x (omega arith)) come.frame

    spare0 : get b0' 43 ≡ 0
    spare0 = b0_same 43 (omega arith) ∙ (come.same 43 (omega arith) ∙ (u_far input is s c settled k 43 (omega arith) ∙ settled.spare))

    -- the tree comes to where the piece comes
    tree : (t : Tape) → Does input place.code 0 u' 0 t (piece_most op) → ((x : ℕ) → x < 44 → x % 3 ≢ 0 → get t x ≡ get u' x) → Does input (tree_code d all) 0 (choosing p c s) 0 (none_chosen d t) (piece_most op + d * 9000)
    tree t does same = comes input is s c settled k place.code t (piece_most op) (picked (has.end ∷ place.front) place.rest place.code k (parts ∙ ap (λ xs. has.end ∷ xs) place.parts) (omega (arith, place.before, number)) k_room) does same

    low_same : (x : ℕ) → x < 44 → get b0 x ≡ get u' x
    low_same x low = come.same x (omega (arith, low))

    -- and what decides makes a goal of it
    chosen_so : Leaves d come.left (is_branch op) g ask b0 → Does input choice 0 (choosing p c s) 0 (aimed_for d g (asking ask b0')) (decided_most op + d * 9000)
    chosen_so (Aimed is_left) =
        let t : Tape = aimed_for d g (asking ask b0) in
        let left_same : (x : ℕ) → x < 44 → x % 3 ≢ 0 → get t x ≡ get u' x = λ x low third. aimed_for_low d g (asking ask b0) x low third ∙ (asking_low ask b0 x (omega (arith, low)) ∙ low_same x low) in
        let there : Does input (tree_code d all) 0 (choosing p c s) 0 (none_chosen d t) (piece_most op + d * 9000) = tree t (subst (λ u. Does input place.code 0 u' 0 u (piece_most op)) is_left come.does) left_same in
        let t_is : none_chosen d t ≡ aimed_for d g (asking ask b0') = none_aimed_for d g (asking ask b0) few ∙ ap (aimed_for d g) (none_asking d ask b0 few) in
        let quiet : get (aimed_for d g (asking ask b0')) 48 ≡ 0 = aimed_for_get d g (asking ask b0') 48 (omega (arith, few)) (omega arith) (omega arith) ∙ (asking_quiet ask b0' ∙ frame0.own 48 (omega arith) (omega arith)) in
        does_within (decided_most op + d * 9000)
        (decided.idle input (choosing p c s) (aimed_for d g (asking ask b0')) (piece_most op + d * 9000) is (subst (λ u. Does input (tree_code d all) 0 (choosing p c s) 0 u (piece_most op + d * 9000)) t_is there) quiet) (aimed_most op d)
    chosen_so (Asked t goal n truth on none is_left posed goes) =
        let left : Tape = aimed d n (noted_for d goal t) in
        let left_same : (x : ℕ) → x < 44 → x % 3 ≢ 0 → get left x ≡ get u' x = λ x low third. aimed_other d n (noted_for d goal t) x third ∙ (noted_low d goal t x few low ∙ (posed_low b0 t truth x posed low ∙ low_same x low)) in
        let there : Does input (tree_code d all) 0 (choosing p c s) 0 (none_chosen d left) (piece_most op + d * 9000) = tree left (subst (λ u. Does input place.code 0 u' 0 u (piece_most op)) is_left come.does) left_same in
        let left_is : none_chosen d left ≡ aimed d n (noted_for d goal (none_chosen d t)) = none_aimed d d n (noted_for d goal t) ∙ ap (aimed d n) (none_noted d goal t few) in
        let one : branches p ≡ true = any_there is_branch (all_ops p.blocks) i op (flat_at p.blocks c.block c.index at.ops op at.there at.here) on in
        let made : Does input choice 0 (choosing p c s) 0 (aimed_for d (cond truth goal (Operation n)) b0') (piece_most op + d * 9000 + 11 * 2 ^ 20 + 1024) =
        decided.decides one input (choosing p c s) b0' (none_chosen d t) goal n truth (piece_most op + d * 9000) is (subst (λ u. Does input (tree_code d all) 0 (choosing p c s) 0 u (piece_most op + d * 9000)) left_is there) frame0 bare0 spare0 flag0 (none_posed d b0 t truth few posed) in
        let asked_nothing : asking ask b0' ≡ b0' = ap (λ a. asking a b0') none in
        let end_is : aimed_for d (cond truth goal (Operation n)) b0' ≡ aimed_for d g (asking ask b0') = (λ j. aimed_for d (sym goes j) (sym asked_nothing j)) in
        does_within (decided_most op + d * 9000) (subst (λ u. Does input choice 0 (choosing p c s) 0 u (piece_most op + d * 9000 + 11 * 2 ^ 20 + 1024)) end_is made) (asked_most op d on)

    is_served : IsServed (accesses p) g ask
    is_served = served_by (accesses p) ns (following (op_count p) k) c.regs op (λ on. any_there asks (all_ops p.blocks) i op (flat_at p.blocks c.block c.index at.ops op at.there at.here) on)

    flag' : get b' 44 ≡ 0
    flag' = b_same 44 (omega arith) ∙ (b_low 44 (omega arith) ∙ (u_far input is s c settled k 44 (omega arith) ∙ settled.flag))

    settled' : IsSettled p c' b'
    settled' = record {
      running = none_third d b 0 refl ∙ (b_low 0 (omega arith) ∙ (at_third d (digits_of d k) s 0 refl ∙ settled.running));
      bare = none_bare d b b_free;
      spare = b_same 43 (omega arith) ∙ (b_low 43 (omega arith) ∙ (u_far input is s c settled k 43 (omega arith) ∙ settled.spare));
      flag = flag';
      keeps = subst (λ r. Keeps r c'.memory b') (sym next.regs) (subst (λ m. Keeps (regs_after op c.regs c.memory byte) m b') (sym next.memory) keeps');
    }

    turned : Does input body 0 (choosing p c s) 0 (choosing p c' b') (steps_of op c.regs + turn_most p)
    turned =
        let m : ℕ = number_for ns b' g in
        let m_is : m ≡ number_at p c'.block c'.index = number_same ns (regs_after op c.regs c.memory byte) b' g keeps'.regs ∙ sym next.number in
        let words' : IsWords c' = after-IsWords p c (Some op) byte (record { regs = words.regs; memory = words.memory }) (byte_word (input_at_byte input s.taken is)) in
        let below : (x : Reg) → word_in b' (cell_of x) < 2 ^ 24 = λ x. word_below (keeps'.regs x ∙ ap (λ r. reg_of r x) (sym next.regs)) (words'.regs x) in
        let most : ℕ = decided_most op + d * 9000 in
        let goes : Does input body 0 (choosing p c s) 0 (advanced d (aimed d (number_for ns b' g) b')) (most + wait_of ask + length ns * 2 ^ 14 + 2 ^ 22) =
        subst (λ t. Does input body 0 (choosing p c s) 0 (advanced d (aimed d (number_for ns t g) t)) (most + wait_of ask + length ns * 2 ^ 14 + 2 ^ 22)) (sym b_is)
        (by.goes input (choosing p c s) b0' g ask c.memory most is (chosen_so come.leaves) is_served frame0 (holds_same c.memory b0 b0' (λ x far. b0_same x (omega arith)) come.holds) come.words bare0 flag0
        (λ x. subst (λ t. word_in t (cell_of x) < 2 ^ 24) b_is (below x))) in
        does_within (steps_of op c.regs + turn_most p)
        (subst (λ t. Does input body 0 (choosing p c s) 0 t (most + wait_of ask + length ns * 2 ^ 14 + 2 ^ 22)) (ap (λ j. advanced d (aimed d j b')) m_is ∙ aim_is_next d (number_at p c'.block c'.index) b' settled'.bare) goes)
        (omega (arith, within_turn op c.regs d (length ns) few, first_count 1 p.blocks))
      where
        byte_word : {n : ℕ} → n < 2 ^ 8 → IsWord n
        byte_word lt = omega arith

        word_below : {n m : ℕ} → n ≡ m → IsWord m → n < 2 ^ 24
        word_below e lt = omega arith

    pub settles : Settles input body (choosing p c s) p c' s.base (cond (takes (Some op)) (s.taken + 1) s.taken) (s.output ++ bytes_of c.regs (Some op)) (steps_of op c.regs + turn_most p)
    settles = record {
      tape = b';
      does = turned;
      settled = settled';
      base_is = of_none (λ t. t.base) (λ t x v. refl) d b ∙ (served_base ask c.memory b0 ∙ come.base ∙ of_chosen_at (λ t. t.base) (λ t x v. refl) d (digits_of d k) s);
      taken_is = of_none (λ t. t.taken) (λ t x v. refl) d b ∙ (served_taken ask c.memory b0 ∙ come.taken_is);
      output_is = of_none (λ t. t.output) (λ t x v. refl) d b ∙ (served_output ask c.memory b0 ∙ come.output_is);
    }

  -- the end
  module _ (input : List ℕ) (c : Config) (s : Tape) (is : IsInput input) (settled : IsSettled p c s) (over : length p.blocks ≤ c.block) where
    abbrev v : Tape
    v = chosen_at d (digits_of d 0) s

    abbrev t : Tape
    t = put v 0 0

    stopped : Does input has.end 0 v 0 t 512
    stopped =
        let one : get v 0 ≡ 1 = at_third d (digits_of d 0) s 0 refl ∙ settled.running in
        let gone : (get v 0 + 255) % 2 ^ 8 ≡ 0 = omega (arith, one) in
        subst (λ x. Does input has.end 0 v 0 (put v 0 x) 512) gone (has.is_end.does input v is)

    zero_at : number_at p c.block c.index ≡ 0
    zero_at = number_past p c.block c.index over

    tree_end : Does input (tree_code d all) 0 (choosing p c s) 0 (none_chosen d t) (512 + d * 9000)
    tree_end = subst (λ n. Does input (tree_code d all) 0 (chosen d (digits_of d n) s) 0 (none_chosen d t) (512 + d * 9000)) (sym zero_at)
        (comes input is s c settled 0 has.end t 512 (picked [] has.more.arms has.end 0 parts refl (omega (arith, room))) stopped (λ x low third. get_other v 0 x 0 (omega arith)))

    no_ask : (x : ℕ) → 46 ≤ x → x < 50 → get (none_chosen d t) x ≡ 0
    no_ask x lo hi = none_get d t x (omega (arith, few)) ∙ (get_other v 0 x 0 (omega arith) ∙ (u_far input is s c settled 0 x (omega arith) ∙ settled.keeps.frame.own x lo hi))

    choice_end : Does input choice 0 (choosing p c s) 0 (none_chosen d t) (512 + d * 9000 + 1024)
    choice_end = decided.idle input (choosing p c s) (none_chosen d t) (512 + d * 9000) is tree_end (no_ask 48 (omega arith) (omega arith))

    pub stops : Stops input body (choosing p c s) s.taken s.output (turn_most p)
    stops = record {
      tape = advanced d (none_chosen d t);
      does = does_within (turn_most p) (by.ends input (choosing p c s) (none_chosen d t) (512 + d * 9000 + 1024) is choice_end
          (none_get d t 44 (omega (arith, few)) ∙ (get_other v 0 44 0 (omega arith) ∙ (u_far input is s c settled 0 44 (omega arith) ∙ settled.flag))) (no_ask 46 (omega arith) (omega arith)) (no_ask 47 (omega arith) (omega arith))) (omega (arith, few));
      zero = advanced_first d (none_chosen d t) ∙ (none_third d t 0 refl ∙ get_put v 0 0);
      taken_is = of_advanced (λ x. x.taken) (λ x y z. refl) d (none_chosen d t) ∙ (of_none (λ x. x.taken) (λ x y z. refl) d t ∙ of_chosen_at (λ x. x.taken) (λ x y z. refl) d (digits_of d 0) s);
      output_is = of_advanced (λ x. x.output) (λ x y z. refl) d (none_chosen d t) ∙ (of_none (λ x. x.output) (λ x y z. refl) d t ∙ of_chosen_at (λ x. x.output) (λ x y z. refl) d (digits_of d 0) s);
    }

  body_short : length body ≤ 32100 * (length p.blocks + op_count p) + 2 ^ 17
  body_short =
      let w = arms_weight d ns (op_count p) 1 (all_ops p.blocks) has.more.arms has.more.are in
      let count : length has.more.arms ≡ op_count p = w.0 ∙ length-flat_map (λ ops. ops) p.blocks in
      let many : length all ≡ suc (length has.more.arms) = ap length parts in
      let heavy : weight all ≡ length has.end + weight has.more.arms = ap weight parts in
      let tree_short : length (tree_code d all) ≤ weight all + 264 * (length all + d) = short d all few (omega (arith, many, count, room)) in
      omega (arith, few, w.1, count, many, heavy, tree_short, decided.short, by.short, has.is_end.short, first_count 1 p.blocks)

  pub is_turn : IsTurn p body
  is_turn = record { short = body_short; goes = λ input c op s is words settled here. settles input c op s is words settled here; ends = λ input c s is settled over. stops input c s is settled over }

pub turn_is : (p : Eir) (digits last : ℕ) (numbers : List ℕ) (tail decides : Bool) (all : List (List Command)) (tree choice : Piece) (body : List Command) → IsEir p → size_of p ≤ 2 ^ 14 → last ≡ op_count p → digits ≡ digit_count last → numbers ≡ first_numbers 1 p.blocks → tail ≡ accesses p → decides ≡ branches p
    → HasAll digits numbers last p.blocks all → tree ≡ record { commands = tree_code digits all; cell = 0 } → IsDecided choice.commands digits decides tree.commands → TurnsBy body digits numbers tail choice.commands → IsTurn p body
turn_is p digits last numbers tail decides all tree choice body sound small last_is digits_is numbers_is tail_is decides_is has tree_is decided by =
    let e : digits ≡ digits_in p = digits_is ∙ ap digit_count last_is in
    let first : List ℕ = first_numbers 1 p.blocks in
    let has' : HasAll (digits_in p) first (op_count p) p.blocks all =
    subst (λ x. HasAll x first (op_count p) p.blocks all) e (subst (λ x. HasAll digits first x p.blocks all) last_is (subst (λ x. HasAll digits x last p.blocks all) numbers_is has)) in
    let decided' : IsDecided choice.commands (digits_in p) (branches p) (tree_code (digits_in p) all) =
    subst (λ x. IsDecided choice.commands x (branches p) (tree_code x all)) e
    (subst (λ x. IsDecided choice.commands digits (branches p) x) (ap (λ (t : Piece). t.commands) tree_is) (subst (λ x. IsDecided choice.commands digits x tree.commands) decides_is decided)) in
    let by' : TurnsBy body (digits_in p) first (accesses p) choice.commands =
    subst (λ x. TurnsBy body x first (accesses p) choice.commands) e (subst (λ x. TurnsBy body digits first x choice.commands) tail_is (subst (λ x. TurnsBy body digits x tail choice.commands) numbers_is by)) in
    is_turn p sound small body all has' choice.commands decided' by'

pub digits_few : (p : Eir) (digits last : ℕ) → size_of p ≤ 2 ^ 14 → last ≡ op_count p → digits ≡ digit_count last → digits ≤ 14
digits_few p digits last small last_is digits_is =
    let least : digit_count (op_count p) ≤ 14 = (digit_count-digits (op_count p)).least 14 (ops_few p.blocks (size_of p) (omega arith) small) in
    omega (arith, digits_is ∙ ap digit_count last_is, least)

pub numbers_few : (p : Eir) (numbers : List ℕ) → size_of p ≤ 2 ^ 14 → numbers ≡ first_numbers 1 p.blocks → length numbers ≤ 2 ^ 22
numbers_few p numbers small is = omega (arith, ap length is, first_count 1 p.blocks)
