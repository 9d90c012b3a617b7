-- The commands of a turn's pieces, from those of the calls that make them.
use Rattle.std.proofs.Common.{◌≡◌, ℕ, zero, suc, ◌+◌, ◌<◌, ◌≤◌, Bool, List, [], ◌∷◌, ◌++◌, length, take, get_or, slice_get, slice_index, Some, refl, sym, ap, ◌∙◌, arith, add-one, append_assoc, append-nil}
use Rattle.std.proofs.Math.Seq.{take-suc}
use Rattle.std.proofs.lemmas.List.Concat.{length-flat_map}
use Rattle.mach_core.proofs.Lists.{take_none}
use Rattle.sim_trait.specs.Digits.{digit_count}
use Rattle.eir_core.specs.declared.ops.Reg.{Reg}
use Rattle.eir_core.specs.declared.ops.Operand.{Operand}
use Rattle.eir_core.specs.declared.ops.Cond.{Cond}
use Rattle.eir_core.specs.declared.ops.Op.{Op}
use Rattle.eir_core.specs.declared.ops.Op.TheVariants.{Mov, Add, Sub, Load, Store, Putc, Getc, Set, Exit, Jump, JumpIf}
use Rattle.eir_core.specs.Eir.{Eir}
use Rattle.bf_lang.specs.declared.command.Command.{Command}
use Rattle.bf_tape.specs.Code.{goto_code, add_code, times_code}
use Rattle.bf_tape.specs.Piece.{Piece, joined}
use Rattle.bf_word.specs.WordCode.{dup_word_code, clear_word_code, once_code}
use Rattle.bf_ops.specs.Frame.{cell_of}
use Rattle.bf_ops.specs.OpsCode.{operation_code, operation_cell}
use Rattle.bf_choice.specs.Choice.{digit_cell, aim_code, advance_code, tree_code}
use Rattle.bf_choice.proofs.Aimed.{coded_then}
use Rattle.bf_jump.specs.declared.goal.Goal.{Goal}
use Rattle.bf_jump.specs.declared.goal.Goal.TheVariants.{Block}
use Rattle.bf_jump.specs.Goal.{note_goal_code, note_goal_cell}
use Rattle.bf_jump.specs.Pose.{pose_code}
use Rattle.bf_turn.specs.Number.{op_count, first_numbers, following, digits_in, accesses, branches}
use Rattle.bf_turn.specs.Turn.{decision_code, decision_cell, tail_code, tail_cell}
use Rattle.bf_turn.specs.Code.{goal_code, goal_cell, toward_code, on_code, branch_code, arm_code, arms_code, find_code, count_cell, count_code, look_code, around_code, decided_code, turn_code}
use Rattle.bf_turn.proofs.Listed.{all_ops, flat_more, first_at, slice_within}

-- a piece that begins with nothing
pub coded_from : {p q : Piece} (h : ℕ) (code : ℕ → List Command) (cell : ℕ → ℕ) → p ≡ record { commands = []; cell = h } → q ≡ joined p (code p.cell) (cell p.cell) → q.commands ≡ code h
coded_from h code cell from is = ap (λ q. q.commands) (is ∙ ap (λ p. joined p (code p.cell) (cell p.cell)) from)

-- goals
pub block_coded : {q r : Piece} (p : Piece) (d cell : ℕ) (x : Reg) → cell ≡ cell_of x → q ≡ joined p (dup_word_code p.cell cell 114 (cell + 3)) (cell + 3) → r ≡ joined q (add_code q.cell 44 1) 44 → r ≡ joined p (goal_code p.cell d (Block x)) 44
block_coded p d cell x is a b = coded_then p (dup_word_code p.cell cell 114 (cell + 3)) (cell + 3) (λ c. add_code c 44 1) (λ c. 44) a b ∙ ap (λ c. joined p (dup_word_code p.cell c 114 (c + 3) ++ add_code (c + 3) 44 1) 44) is

pub goal_coded : {q : Piece} (p : Piece) (d : ℕ) (goal known : Goal) → goal ≡ known → q ≡ joined p (goal_code p.cell d known) (goal_cell p.cell d known) → q ≡ joined p (goal_code p.cell d goal) (goal_cell p.cell d goal)
goal_coded p d goal known is e = e ∙ ap (λ g. joined p (goal_code p.cell d g) (goal_cell p.cell d g)) (sym is)

pub toward_coded : {p q r : Piece} (d : ℕ) (goal : Goal) → p ≡ record { commands = []; cell = 0 } → q ≡ joined p (goal_code p.cell d goal) (goal_cell p.cell d goal) → r ≡ joined q (goto_code q.cell 0) 0 → r.commands ≡ toward_code d goal
toward_coded {p = p} d goal from a b =
    coded_from 0 (λ h. goal_code h d goal ++ goto_code (goal_cell h d goal) 0) (λ h. 0) from (coded_then p (goal_code p.cell d goal) (goal_cell p.cell d goal) (λ c. goto_code c 0) (λ c. 0) a b)

-- operations
pub on_coded : {p q r t : Piece} (d n : ℕ) (op : Op) → p ≡ record { commands = []; cell = 0 } → q ≡ joined p (operation_code p.cell op) (operation_cell p.cell op) → r ≡ joined q (aim_code q.cell d n) (digit_cell q.cell d) → t ≡ joined r (goto_code r.cell 0) 0 → t.commands ≡ on_code d op n
on_coded {p = p} d n op from a b e =
    let h : ℕ = operation_cell p.cell op in
    let xs : List Command = operation_code p.cell op in
    coded_from 0 (λ k. operation_code k op ++ aim_code (operation_cell k op) d n ++ goto_code (digit_cell (operation_cell k op) d) 0) (λ k. 0) from
    (coded_then p (xs ++ aim_code h d n) (digit_cell h d) (λ c. goto_code c 0) (λ c. 0) (coded_then p xs h (λ c. aim_code c d n) (λ c. digit_cell c d) a b) e)

pub branch_coded : {p q r t u : Piece} (d : ℕ) (test : Cond) (x : Reg) (v : Operand) (goal : Goal) (next : ℕ) → p ≡ record { commands = []; cell = 0 } → q ≡ joined p (pose_code p.cell test x v) 48 → r ≡ joined q (note_goal_code q.cell d goal) (note_goal_cell q.cell d goal)
    → t ≡ joined r (aim_code r.cell d next) (digit_cell r.cell d) → u ≡ joined t (goto_code t.cell 0) 0 → u.commands ≡ branch_code d test x v goal next
branch_coded {p = p} d test x v goal next from a b e f =
    let k : ℕ = note_goal_cell 48 d goal in
    let xs : List Command = pose_code p.cell test x v in
    let ys : List Command = note_goal_code 48 d goal in
    coded_from 0 (λ h. pose_code h test x v ++ ys ++ aim_code k d next ++ goto_code (digit_cell k d) 0) (λ h. 0) from
    (coded_then p (xs ++ ys ++ aim_code k d next) (digit_cell k d) (λ c. goto_code c 0) (λ c. 0) (coded_then p (xs ++ ys) k (λ c. aim_code c d next) (λ c. digit_cell c d) (coded_then p xs 48 (λ c. note_goal_code c d goal) (λ c. note_goal_cell c d goal) a b) e) f)

pub decided_coded : {p q r t : Piece} (d : ℕ) (branches : Bool) (tree : List Command) → p ≡ record { commands = []; cell = 0 } → q ≡ joined p tree 0 → r ≡ joined q (decision_code q.cell d branches) (decision_cell q.cell branches) → t ≡ joined r (goto_code r.cell 0) 0
    → t.commands ≡ decided_code d branches tree
decided_coded {p = p} d branches tree from a b e =
    let k : ℕ = decision_cell 0 branches in
    coded_from 0 (λ h. decided_code d branches tree) (λ h. 0) from (coded_then p (tree ++ decision_code 0 d branches) k (λ c. goto_code c 0) (λ c. 0) (coded_then p tree 0 (λ c. decision_code c d branches) (λ c. decision_cell c branches) a b) e)

pub other_coded : (d next : ℕ) (numbers : List ℕ) (op : Op) → (op ≡ Exit → ⊥) → ((v : Operand) → op ≡ Jump v → ⊥) → ((test : Cond) (v : Operand) (x : Reg) (w : Operand) → op ≡ JumpIf test v x w → ⊥) → on_code d op next ≡ arm_code d numbers next op
other_coded d next numbers (Mov x v) a b e = refl
other_coded d next numbers (Add x v) a b e = refl
other_coded d next numbers (Sub x v) a b e = refl
other_coded d next numbers (Load x v) a b e = refl
other_coded d next numbers (Store x v) a b e = refl
other_coded d next numbers (Putc v) a b e = refl
other_coded d next numbers (Getc x) a b e = refl
other_coded d next numbers (Set test x v) a b e = refl
other_coded d next numbers Exit a b e = absurd (a refl)
other_coded d next numbers (Jump v) a b e = absurd (b v refl)
other_coded d next numbers (JumpIf test v x w) a b e = absurd (e test v x w refl)

-- operations in a row
arms_append : (d : ℕ) (numbers : List ℕ) (last n : ℕ) (xs ys : List Op) → arms_code d numbers last n (xs ++ ys) ≡ arms_code d numbers last n xs ++ arms_code d numbers last (n + length xs) ys
arms_append d numbers last n [] ys = let e : n ≡ n + 0 = omega arith in ap (λ k. arms_code d numbers last k ys) e
arms_append d numbers last n (x ∷ xs) ys =
    let e : n + 1 + length xs ≡ n + suc (length xs) = omega arith in
    ap (λ rest. arm_code d numbers (following last n) x ∷ rest) (arms_append d numbers last (n + 1) xs ys ∙ ap (λ k. arms_code d numbers last (n + 1) xs ++ arms_code d numbers last k ys) e)

taken_length : {A : Type 0} (k : ℕ) (xs : List A) → k ≤ length xs → length (take k xs) ≡ k
taken_length zero xs le = ap length (take_none xs)
taken_length (suc k) [] le = absurd (omega arith)
taken_length (suc k) (x ∷ xs) le = ap suc (taken_length k xs (omega arith))

pub none_coded : (d : ℕ) (numbers : List ℕ) (last n : ℕ) (ops : List Op) (old : List (List Command)) → old ≡ old ++ arms_code d numbers last n (take 0 ops)
none_coded d numbers last n ops old = sym (append-nil old) ∙ ap (λ xs. old ++ arms_code d numbers last n xs) (sym (take_none ops))

pub one_coded : (d : ℕ) (numbers : List ℕ) (last n i next : ℕ) (ops : List Op) (op : Op) (a : List Command) (old mid new : List (List Command)) → i < length ops → op ≡ get_or ops i op → next ≡ following last (n + i) → a ≡ arm_code d numbers next op → new ≡ mid ++ a ∷ []
    → mid ≡ old ++ arms_code d numbers last n (take i ops) → new ≡ old ++ arms_code d numbers last n (take (i + 1) ops)
one_coded d numbers last n i next ops op a old mid new within is follows arm pushed before =
    let done : List (List Command) = arms_code d numbers last n (take i ops) in
    let here : a ∷ [] ≡ arms_code d numbers last (n + length (take i ops)) (op ∷ []) =
    ap (λ x. x ∷ []) (arm ∙ (ap (λ k. arm_code d numbers k op) follows ∙ ap (λ k. arm_code d numbers (following last (n + k)) op) (sym (taken_length i ops (omega arith))))) in
    let parts : take (i + 1) ops ≡ take i ops ++ op ∷ [] = ap (λ k. take k ops) (add-one i) ∙ (take-suc ops i op within ∙ ap (λ x. take i ops ++ x ∷ []) (sym is)) in
    pushed
    ∙ (ap (λ m. m ++ a ∷ []) before
    ∙ (append_assoc old done (a ∷ [])
    ∙ ap (λ rest. old ++ rest) (ap (λ rest. done ++ rest) here ∙ (sym (arms_append d numbers last n (take i ops) (op ∷ [])) ∙ ap (arms_code d numbers last n) (sym parts)))))

-- the end, and a block more
pub end_coded : (d : ℕ) (numbers : List ℕ) (last : ℕ) (blocks : List (List Op)) (end : List Command) (old new : List (List Command)) → end ≡ add_code 0 0 255 → old ≡ [] → new ≡ old ++ end ∷ [] → new ≡ add_code 0 0 255 ∷ arms_code d numbers last 1 (all_ops (take 0 blocks))
end_coded d numbers last blocks end old new is none pushed =
    pushed ∙ (ap (λ xs. xs ++ end ∷ []) none ∙ (ap (λ x. x ∷ []) is ∙ ap (λ bs. add_code 0 0 255 ∷ arms_code d numbers last 1 (all_ops bs)) (sym (take_none blocks))))

pub blocks_coded : (d : ℕ) (numbers : List ℕ) (last k : ℕ) (blocks : List (List Op)) (ops : List Op) (end : List Command) (mid new : List (List Command)) → numbers ≡ first_numbers 1 blocks → slice_get blocks k ≡ Some ops
    → mid ≡ end ∷ arms_code d numbers last 1 (all_ops (take k blocks)) → new ≡ mid ++ arms_code d numbers last (slice_index numbers k) ops → new ≡ end ∷ arms_code d numbers last 1 (all_ops (take (k + 1) blocks))
blocks_coded d numbers last k blocks ops end mid new are at before more =
    let done : List Op = all_ops (take k blocks) in
    let number : slice_index numbers k ≡ 1 + length done = ap (λ xs. slice_index xs k) are ∙ (first_at 1 blocks k (slice_within blocks k ops at) ∙ ap (λ j. 1 + j) (sym (length-flat_map (λ ops. ops) (take k blocks)))) in
    more
    ∙ (ap (λ m. m ++ arms_code d numbers last (slice_index numbers k) ops) before
    ∙ (ap (λ n. end ∷ (arms_code d numbers last 1 done ++ arms_code d numbers last n ops)) number
    ∙ ap (λ rest. end ∷ rest) (sym (arms_append d numbers last 1 done ops) ∙ ap (arms_code d numbers last 1) (sym (flat_more k blocks ops at)))))

-- numbers counted down
pub find_coded : {q b0 b1 b2 r : Piece} (p : Piece) (d n : ℕ) → q ≡ joined p (once_code p.cell 114) 114 → b0 ≡ record { commands = []; cell = 123 } → b1 ≡ joined b0 (aim_code b0.cell d n) (digit_cell b0.cell d) → b2 ≡ joined b1 (goto_code b1.cell 123) 123
    → r ≡ joined q (times_code q.cell 123 b2.commands) 123 → r ≡ joined p (once_code p.cell 114 ++ find_code d n) 123
find_coded {b0 = b0} {b2 = b2} p d n a from b e t =
    let body : b2.commands ≡ aim_code 123 d n ++ goto_code (digit_cell 123 d) 123 =
    coded_from 123 (λ h. aim_code h d n ++ goto_code (digit_cell h d) 123) (λ h. 123) from (coded_then b0 (aim_code b0.cell d n) (digit_cell b0.cell d) (λ c. goto_code c 123) (λ c. 123) b e) in
    coded_then p (once_code p.cell 114) 114 (λ c. times_code c 123 b2.commands) (λ c. 123) a t ∙ ap (λ xs. joined p (once_code p.cell 114 ++ times_code 114 123 xs) 123) body

pub count_coded : {q r : Piece} (p : Piece) (d : ℕ) (ns : List ℕ) (i : ℕ) → q ≡ joined p (count_code p.cell d ns i) (count_cell p.cell i) → r ≡ joined q (once_code q.cell 114 ++ find_code d (slice_index ns i)) 123 → r ≡ joined p (count_code p.cell d ns (i + 1)) (count_cell p.cell (i + 1))
count_coded p d ns i a b =
    let h : ℕ = p.cell in
    let xs : List Command = count_code h d ns i in
    let find : List Command = find_code d (slice_index ns i) in
    coded_then p xs (count_cell h i) (λ c. once_code c 114 ++ find) (λ c. 123) a b
    ∙ (ap (λ ys. joined p ys 123) (sym (append_assoc xs (once_code (count_cell h i) 114) find)) ∙ ap (λ k. joined p (count_code h d ns k) (count_cell h k)) (sym (add-one i)))

pub counted_coded : {q : Piece} (p : Piece) (d : ℕ) (ns : List ℕ) (i : ℕ) → i ≡ length ns → q ≡ joined p (count_code p.cell d ns i) (count_cell p.cell i) → q ≡ joined p (count_code p.cell d ns (length ns)) (count_cell p.cell (length ns))
counted_coded p d ns i is e = e ∙ ap (λ k. joined p (count_code p.cell d ns k) (count_cell p.cell k)) is

pub look_coded : {b0 b1 b2 b3 q : Piece} (p : Piece) (d : ℕ) (ns : List ℕ) → b0 ≡ record { commands = []; cell = 44 } → b1 ≡ joined b0 (count_code b0.cell d ns (length ns)) (count_cell b0.cell (length ns)) → b2 ≡ joined b1 (clear_word_code b1.cell 114) 116
    → b3 ≡ joined b2 (goto_code b2.cell 44) 44 → q ≡ joined p (times_code p.cell 44 b3.commands) 44 → q ≡ joined p (look_code p.cell d ns) 44
look_coded {b0 = b0} {b3 = b3} p d ns from a b e t =
    let n : ℕ = length ns in
    let xs : List Command = count_code b0.cell d ns n in
    let c : ℕ = count_cell b0.cell n in
    let body : b3.commands ≡ count_code 44 d ns n ++ clear_word_code (count_cell 44 n) 114 ++ goto_code 116 44 =
    coded_from 44 (λ h. count_code h d ns n ++ clear_word_code (count_cell h n) 114 ++ goto_code 116 44) (λ h. 44) from
    (coded_then b0 (xs ++ clear_word_code c 114) 116 (λ k. goto_code k 44) (λ k. 44) (coded_then b0 xs c (λ k. clear_word_code k 114) (λ k. 116) a b) e) in
    t ∙ ap (λ ys. joined p (times_code p.cell 44 ys) 44) body

-- a turn
pub around_coded : {p q r t u v : Piece} (d : ℕ) (ns : List ℕ) (tail : Bool) (tree : List Command) → p ≡ record { commands = []; cell = 0 } → q ≡ joined p tree 0 → r ≡ joined q (tail_code q.cell tail) (tail_cell q.cell tail) → t ≡ joined r (look_code r.cell d ns) 44
    → u ≡ joined t (advance_code t.cell d) (digit_cell t.cell d) → v ≡ joined u (goto_code u.cell 0) 0 → v.commands ≡ around_code d ns tail tree
around_coded {p = p} d ns tail tree from a b e f g =
    let h : ℕ = tail_cell 0 tail in
    let two = coded_then p tree 0 (λ c. tail_code c tail) (λ c. tail_cell c tail) a b in
    let three = coded_then p (tree ++ tail_code 0 tail) h (λ c. look_code c d ns) (λ c. 44) two e in
    let four = coded_then p (tree ++ tail_code 0 tail ++ look_code h d ns) 44 (λ c. advance_code c d) (λ c. digit_cell c d) three f in
    coded_from 0 (λ k. around_code d ns tail tree) (λ k. 0) from (coded_then p (tree ++ tail_code 0 tail ++ look_code h d ns ++ advance_code 44 d) (digit_cell 44 d) (λ c. goto_code c 0) (λ c. 0) four g)

pub turn_coded : (p : Eir) (digits last : ℕ) (numbers : List ℕ) (tail decides : Bool) (arms : List (List Command)) (tree choice : Piece) (body : List Command) → last ≡ op_count p → digits ≡ digit_count last → numbers ≡ first_numbers 1 p.blocks → tail ≡ accesses p → decides ≡ branches p
    → arms ≡ add_code 0 0 255 ∷ arms_code digits numbers last 1 (all_ops p.blocks) → tree ≡ record { commands = tree_code digits arms; cell = 0 } → choice.commands ≡ decided_code digits decides tree.commands → body ≡ around_code digits numbers tail choice.commands → body ≡ turn_code p
turn_coded p digits last numbers tail decides arms tree choice body last_is digits_are numbers_are tail_is decides_is arms_are tree_is choice_is is =
    let d_is : digits ≡ digits_in p = digits_are ∙ ap digit_count last_is in
    let ops : List Op = all_ops p.blocks in
    let tree_code_is : tree.commands ≡ tree_code digits (add_code 0 0 255 ∷ arms_code digits numbers last 1 ops) = ap (λ t. t.commands) tree_is ∙ ap (tree_code digits) arms_are in
    is
    ∙ (ap (around_code digits numbers tail) (choice_is ∙ ap (decided_code digits decides) tree_code_is)
    ∙ (λ i. around_code (d_is i) (numbers_are i) (tail_is i) (decided_code (d_is i) (decides_is i) (tree_code (d_is i) (add_code 0 0 255 ∷ arms_code (d_is i) (numbers_are i) (last_is i) 1 ops)))))
