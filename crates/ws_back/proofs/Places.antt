-- Where the labels lead in the code of a program.
use Rattle.std.proofs.Common.{◌≡◌, ◌≢◌, ℕ, zero, suc, ◌+◌, ◌-◌, ◌*◌, ◌^◌, ◌<◌, ◌≤◌, min, true, false, cond, nat_lt, List, [], ◌∷◌, ◌++◌, length, drop, Contains, refl, sym, ap, subst, ◌∙◌, arith, zero-add, add-zero, append_assoc}
use Rattle.std.specs.List.{AllByRecursion}
use Rattle.std.proofs.lemmas.Bool.{ltb-true, ltb-false}
use Rattle.std.proofs.lemmas.List.{drop_all}
use Rattle.std.proofs.lemmas.List.Elements.{All-from_recursion, All-contains}
use Rattle.std.proofs.Math.Nat.{pow-succ'}
use Rattle.std.proofs.lemmas.Nat.{pow_pos}
use Rattle.std.specs.Prelude.{pos}
use Rattle.eir_core.specs.declared.ops.Operand.{Operand}
use Rattle.eir_core.specs.declared.ops.Operand.TheVariants.{Reg as register, Imm}
use Rattle.eir_core.specs.declared.ops.Cond.{Cond}
use Rattle.eir_core.specs.declared.ops.Cond.TheVariants.{Eq, Ne, Lt, Gt, Le, Ge}
use Rattle.eir_core.specs.declared.ops.Op.{Op}
use Rattle.eir_core.specs.declared.ops.Op.TheVariants.{Mov, Add, Sub, Load, Store, Putc, Getc, Exit, Set, Jump, JumpIf}
use Rattle.word24.specs.declared.word.Word.{Word}
use Rattle.eir_core.specs.Eir.{Eir}
use Rattle.sim_trait.specs.Digits.{digit_count}
use Rattle.sim_trait.proofs.Digits.{digit_count-digits}
use Rattle.ws_lang.specs.Instruction.{Label, Instruction, marks_of, marks, AreDistinct}
use Rattle.ws_lang.specs.Instruction as ws
use Rattle.ws_lang.specs.Step.{place_of}
use Rattle.ws_back.specs.Code.{label, end_label, dispatch_label, branch_label, block_label, goal_label, value_code, reaches_code, flag_code, negated, target_code, op_code, ops_code, blocks_code, end_code, branch_code, tree_code, dispatch_code, words_code, code_of}
use Rattle.ws_back.specs.Related.{rest_of}
use Rattle.mach_core.proofs.Lists.{after_head, skipped, drop_none, drop_list}
use Rattle.ws_back.proofs.Labels.{label-apart, place_of-marked}

pub marks-append : (is js : List Instruction) → marks (is ++ js) ≡ marks is ++ marks js
marks-append [] js = refl
marks-append (x ∷ is) js = ap (λ (ls : List Label). marks_of x ++ ls) (marks-append is js) ∙ sym (append_assoc (marks_of x) (marks is) (marks js))

-- no label is marked in the code
pub record Unmarked (is : List Instruction) : Type 0 where
  pub none : marks is ≡ []

also : {is js : List Instruction} → Unmarked is → Unmarked js → Unmarked (is ++ js)
also {is = is} {js = js} p q = record { none = marks-append is js ∙ (ap (λ (ls : List Label). ls ++ marks js) p.none ∙ q.none) }

value-unmarked : (v : Operand) → Unmarked (value_code v)
value-unmarked (register r) = record { none = refl }
value-unmarked (Imm w) = record { none = refl }

reaches-unmarked : (n : ℕ) (x y : Operand) → Unmarked (reaches_code n x y)
reaches-unmarked n x y = also (value-unmarked x) (also {is = ws.Push (pos n) ∷ ws.Add ∷ []} (record { none = refl }) (also (value-unmarked y) (record { none = refl })))

flag-unmarked : (t : Cond) (x y : Operand) → Unmarked (flag_code t x y)
flag-unmarked Eq x y = also (reaches-unmarked (2 ^ 24) x y) (also (reaches-unmarked (2 ^ 24) y x) (record { none = refl }))
flag-unmarked Ne x y = also (reaches-unmarked (2 ^ 24 - 1) x y) (also (reaches-unmarked (2 ^ 24 - 1) y x) (record { none = refl }))
flag-unmarked Lt x y = reaches-unmarked (2 ^ 24 - 1) y x
flag-unmarked Gt x y = reaches-unmarked (2 ^ 24 - 1) x y
flag-unmarked Le x y = reaches-unmarked (2 ^ 24) y x
flag-unmarked Ge x y = reaches-unmarked (2 ^ 24) x y

target-unmarked : (v : Operand) → Unmarked (target_code v)
target-unmarked (register r) = record { none = refl }
target-unmarked (Imm w) = record { none = refl }

one-unmarked : (x : Instruction) → marks_of x ≡ [] → Unmarked (x ∷ [])
one-unmarked x e = record { none = ap (λ (ls : List Label). ls ++ []) e }

pub op-unmarked : (n : ℕ) (op : Op) → Unmarked (op_code n op)
op-unmarked n (Mov r v) = also (one-unmarked _ refl) (also (value-unmarked v) (record { none = refl }))
op-unmarked n (Add r v) = also (one-unmarked _ refl) (also (value-unmarked (register r)) (also (value-unmarked v) (record { none = refl })))
op-unmarked n (Sub r v) = also (one-unmarked _ refl) (also (value-unmarked (register r)) (also (value-unmarked v) (record { none = refl })))
op-unmarked n (Load r v) = also (one-unmarked _ refl) (also (value-unmarked v) (record { none = refl }))
op-unmarked n (Store r v) = also (value-unmarked v) (also (value-unmarked (register r)) (record { none = refl }))
op-unmarked n (Putc v) = also (value-unmarked v) (record { none = refl })
op-unmarked n (Getc r) = record { none = refl }
op-unmarked n Exit = record { none = refl }
op-unmarked n (Set t r v) = also (one-unmarked _ refl) (also (flag-unmarked t (register r) v) (record { none = refl }))
op-unmarked n (Jump v) = also (target-unmarked v) (record { none = refl })
op-unmarked n (JumpIf t v r w) = also (target-unmarked v) (also (flag-unmarked (negated t) (register r) w) (record { none = refl }))

pub ops-unmarked : (n : ℕ) (ops : List Op) → Unmarked (ops_code n ops)
ops-unmarked n [] = record { none = refl }
ops-unmarked n (op ∷ ops) = also (op-unmarked n op) (ops-unmarked n ops)

pub words-unmarked : (a : ℕ) (words : List Word) → Unmarked (words_code a words)
words-unmarked a [] = record { none = refl }
words-unmarked a (w ∷ words) = record { none = (words-unmarked (a + 1) words).none }

-- the labels that are marked, in order

-- those of the blocks from a number on
abbrev pub block_labels : ℕ → ℕ → List Label
block_labels k zero = []
block_labels k (suc more) = block_label k ∷ block_labels (suc k) more

-- those of the branches above a number, the highest first
abbrev pub branch_labels : ℕ → ℕ → List Label
branch_labels low zero = []
branch_labels low (suc more) = branch_label (low + suc more) ∷ branch_labels low more

branch_labels-append : (low a b : ℕ) → branch_labels (low + b) a ++ branch_labels low b ≡ branch_labels low (a + b)
branch_labels-append low zero b = ap (branch_labels low) (sym (zero-add b))
branch_labels-append low (suc a) b =
    let e : low + b + suc a ≡ low + suc (a + b) = omega arith in
    let n : suc (a + b) ≡ suc a + b = omega arith in
    ap (λ j. branch_label j ∷ (branch_labels (low + b) a ++ branch_labels low b)) e
    ∙ (ap (λ (ls : List Label). branch_label (low + suc (a + b)) ∷ ls) (branch_labels-append low a b) ∙ ap (branch_labels low) n)

pub marks-blocks : (n k : ℕ) (bs : List (List Op)) → marks (blocks_code n k bs) ≡ block_labels k (length bs)
marks-blocks n k [] = refl
marks-blocks n k (os ∷ bs) =
    ap (λ (ls : List Label). block_label k ∷ ls)
    (marks-append (ops_code n os) (blocks_code n (suc k) bs) ∙ (ap (λ (ls : List Label). ls ++ marks (blocks_code n (suc k) bs)) (ops-unmarked n os).none ∙ marks-blocks n (suc k) bs))

marks-tree : (n depth low : ℕ) → low ≤ n → marks (tree_code n depth low) ≡ branch_labels low (min (2 ^ depth - 1) (n - low))
marks-tree n zero low le = let none : min (2 ^ 0 - 1) (n - low) ≡ 0 = omega arith in ap (branch_labels low) (sym none)
marks-tree n (suc depth) low le =
    let middle = low + 2 ^ depth in
    let p : 2 ^ suc depth ≡ 2 * 2 ^ depth = pow-succ' 2 depth in
    let some : 1 ≤ 2 ^ depth = pow_pos depth in
    elim (nat_lt n middle) as (λ b. nat_lt n middle ≡ b → marks (cond b (tree_code n depth low) (branch_code middle ++ (tree_code n depth middle ++ ws.Mark (branch_label middle) ∷ tree_code n depth low))) ≡ branch_labels low (min (2 ^ suc depth - 1) (n - low))) [
      | true ↦ λ e.
          let lt : n < middle = ltb-true n middle e in
          let same : min (2 ^ depth - 1) (n - low) ≡ min (2 ^ suc depth - 1) (n - low) = omega arith in
          marks-tree n depth low le ∙ ap (branch_labels low) same
      | false ↦ λ e.
          let ge : middle ≤ n = ltb-false n middle e in
          let a = min (2 ^ depth - 1) (n - middle) in
          let whole : min (2 ^ depth - 1) (n - low) ≡ 2 ^ depth - 1 = omega arith in
          let one : suc (2 ^ depth - 1) ≡ 2 ^ depth = omega arith in
          let all : a + 2 ^ depth ≡ min (2 ^ suc depth - 1) (n - low) = omega arith in
          let below : branch_label middle ∷ marks (tree_code n depth low) ≡ branch_labels low (2 ^ depth) =
          ap (λ (ls : List Label). branch_label middle ∷ ls) (marks-tree n depth low le ∙ ap (branch_labels low) whole)
          ∙ (ap (λ j. branch_label (low + j) ∷ branch_labels low (2 ^ depth - 1)) (sym one) ∙ ap (branch_labels low) one) in
          marks-append (tree_code n depth middle) (ws.Mark (branch_label middle) ∷ tree_code n depth low)
          ∙ (ap (λ (ls : List Label). ls ++ branch_label middle ∷ marks (tree_code n depth low)) (marks-tree n depth middle ge)
          ∙ (ap (λ (ls : List Label). branch_labels middle a ++ ls) below ∙ (branch_labels-append low a (2 ^ depth) ∙ ap (branch_labels low) all)))
    ] refl

marks-dispatch : (n : ℕ) → marks (tree_code n (digit_count n) 0) ≡ branch_labels 0 n
marks-dispatch n =
    let enough = (digit_count-digits n).enough in
    let all : min (2 ^ digit_count n - 1) (n - 0) ≡ n = omega arith in
    marks-tree n (digit_count n) 0 (omega arith) ∙ ap (branch_labels 0) all

-- all labels that are marked in the code of a program of so many blocks
abbrev pub own_labels : ℕ → List Label
own_labels n = dispatch_label ∷ (branch_labels 0 n ++ (block_labels 0 n ++ end_label ∷ []))

pub marks-code : (p : Eir) → marks (code_of p) ≡ own_labels (length p.blocks)
marks-code p =
    let n = length p.blocks in
    let body = blocks_code n 0 p.blocks in
    let tree = tree_code n (digit_count n) 0 in
    let body_marks : marks (body ++ end_code) ≡ block_labels 0 n ++ end_label ∷ [] = marks-append body end_code ∙ ap (λ (ls : List Label). ls ++ end_label ∷ []) (marks-blocks n 0 p.blocks) in
    marks-append (words_code 0 p.words) (ws.Jump (goal_label n p.start) ∷ (dispatch_code n ++ (body ++ end_code)))
    ∙ (ap (λ (ls : List Label). ls ++ dispatch_label ∷ marks (tree ++ (body ++ end_code))) (words-unmarked 0 p.words).none
    ∙ ap (λ (ls : List Label). dispatch_label ∷ ls) (marks-append tree (body ++ end_code) ∙ (ap (λ (ls : List Label). ls ++ marks (body ++ end_code)) (marks-dispatch n) ∙ ap (λ (ls : List Label). branch_labels 0 n ++ ls) body_marks)))

-- each of these labels is marked once

apart_blocks : (a k more : ℕ) → a < 2 ^ 25 → 1 ≤ a → k + more ≤ 2 ^ 17 → ((i : ℕ) → k ≤ i → i < k + more → 2 * i + 2 ≢ a) → AllByRecursion (λ l. l ≢ label a) (block_labels k more ++ end_label ∷ [])
apart_blocks a k zero small some few other = (label-apart 0 a (omega arith) small (λ e. omega arith), tt)
apart_blocks a k (suc more) small some few other =
    (label-apart (2 * k + 2) a (omega arith) small (other k (omega arith) (omega arith)), apart_blocks a (suc k) more small some (omega arith) (λ i le lt. other i (omega arith) (omega arith)))

apart_branches : (a low more : ℕ) (ls : List Label) → a < 2 ^ 25 → low + more ≤ 2 ^ 17 → ((i : ℕ) → low < i → i ≤ low + more → 2 * i + 1 ≢ a) → AllByRecursion (λ l. l ≢ label a) ls → AllByRecursion (λ l. l ≢ label a) (branch_labels low more ++ ls)
apart_branches a low zero ls small few other rest = rest
apart_branches a low (suc more) ls small few other rest =
    (label-apart (2 * (low + suc more) + 1) a (omega arith) small (other (low + suc more) (omega arith) (omega arith)), apart_branches a low more ls small (omega arith) (λ i lt le. other i lt (omega arith)) rest)

not_among : (xs : List Label) (x : Label) → AllByRecursion (λ l. l ≢ x) xs → Contains xs x → ⊥
not_among xs x all h = All-contains (λ l. l ≢ x) xs x (All-from_recursion (λ l. l ≢ x) xs all) h refl

distinct_blocks : (k more : ℕ) → k + more ≤ 2 ^ 17 → AreDistinct (block_labels k more ++ end_label ∷ [])
distinct_blocks k zero few = (not_among [] end_label tt, tt)
distinct_blocks k (suc more) few =
    (not_among _ (block_label k) (apart_blocks (2 * k + 2) (suc k) more (omega arith) (omega arith) (omega arith) (λ i le lt e. omega arith)), distinct_blocks (suc k) more (omega arith))

-- an even number is no odd one
even-odd : (i j : ℕ) → 2 * i + 2 ≢ 2 * j + 1
even-odd i j e = omega arith

distinct_branches : (n low more : ℕ) → n ≤ 2 ^ 17 → low + more ≤ 2 ^ 17 → AreDistinct (branch_labels low more ++ (block_labels 0 n ++ end_label ∷ []))
distinct_branches n low zero few small = distinct_blocks 0 n (omega arith)
distinct_branches n low (suc more) few small =
    let a = 2 * (low + suc more) + 1 in
    let blocks = apart_blocks a 0 n (omega arith) (omega arith) (omega arith) (λ i le lt. even-odd i (low + suc more)) in
    (not_among _ (branch_label (low + suc more)) (apart_branches a low more _ (omega arith) (omega arith) (λ i lt le e. omega arith) blocks), distinct_branches n low more few (omega arith))

distinct_labels : (n : ℕ) → n ≤ 2 ^ 17 → AreDistinct (own_labels n)
distinct_labels n few =
    let blocks = apart_blocks 1 0 n (omega arith) (omega arith) (omega arith) (λ i le lt e. omega arith) in
    (not_among _ dispatch_label (apart_branches 1 0 n _ (omega arith) (omega arith) (λ i lt le e. omega arith) blocks), distinct_branches n 0 n few (omega arith))

pub marked_once : (p : Eir) → length p.blocks ≤ 2 ^ 17 → AreDistinct (marks (code_of p))
marked_once p few = subst AreDistinct (sym (marks-code p)) (distinct_labels (length p.blocks) few)

-- where a label is marked once, it leads to its mark
pub leads : (code : List Instruction) (l : Label) (k : ℕ) (xs : List Instruction) → AreDistinct (marks code) → drop k code ≡ ws.Mark l ∷ xs → drop (place_of l code) code ≡ ws.Mark l ∷ xs
leads code l k xs once e = ap (λ j. drop j code) (place_of-marked code l k xs once e) ∙ e

-- from a place in the code on there is this rest
pub record Stands (code rest : List Instruction) : Type 0 where
  pub place : ℕ
  pub there : drop place code ≡ rest

-- the blocks stand one behind the other
to_block_from : (code : List Instruction) (n a : ℕ) (bs : List (List Op)) (is : List Instruction) (k : ℕ) → Stands code (blocks_code n a bs ++ is) → k ≤ length bs → Stands code (blocks_code n (a + k) (drop k bs) ++ is)
to_block_from code n a bs is zero s le =
    record { place = s.place; there = s.there ∙ (ap (λ j. blocks_code n j bs ++ is) (sym (add-zero a)) ∙ ap (λ xs. blocks_code n (a + 0) xs ++ is) (sym (drop_none bs))) }
to_block_from code n a [] is (suc k) s le = absurd (omega arith)
to_block_from code n a (ops ∷ bs) is (suc k) s le =
    let more = blocks_code n (suc a) bs in
    let inside = after_head code s.place (ws.Mark (block_label a)) ((ops_code n ops ++ more) ++ is) s.there in
    let behind = skipped code (suc s.place) (ops_code n ops) (more ++ is) (inside ∙ append_assoc (ops_code n ops) more is) in
    let e : suc a + k ≡ a + suc k = omega arith in
    subst (λ j. Stands code (blocks_code n j (drop k bs) ++ is)) e (to_block_from code n (suc a) bs is k (record { place = suc s.place + length (ops_code n ops); there = behind }) (omega arith))

-- where the labels lead in the code of a program
pub record Layout (p : Eir) (code : List Instruction) : Type 0 where
  pub few : length p.blocks ≤ 2 ^ 17
  pub once : AreDistinct (marks code)
  pub to_end : drop (place_of end_label code) code ≡ end_code
  pub after_dispatch : List Instruction
  pub to_dispatch : drop (place_of dispatch_label code) code ≡ dispatch_code (length p.blocks) ++ after_dispatch
  pub to_block : (k : ℕ) → k < length p.blocks → drop (place_of (block_label k) code) code ≡ rest_of p k 0

pub layout_of : (p : Eir) → length p.blocks ≤ 2 ^ 17 → Layout p (code_of p)
layout_of p few =
    let n = length p.blocks in
    let code = code_of p in
    let once = marked_once p few in
    let body = blocks_code n 0 p.blocks ++ end_code in
    let words = words_code 0 p.words in
    let jump = ws.Jump (goal_label n p.start) in
    let at_jump : drop (0 + length words) code ≡ jump ∷ (dispatch_code n ++ body) = skipped code 0 words (jump ∷ (dispatch_code n ++ body)) (drop_none code) in
    let at_dispatch : drop (suc (0 + length words)) code ≡ dispatch_code n ++ body = after_head code (0 + length words) jump (dispatch_code n ++ body) at_jump in
    let at_blocks : Stands code body = record { place = suc (0 + length words) + length (dispatch_code n); there = skipped code (suc (0 + length words)) (dispatch_code n) body at_dispatch } in
    let at_end = to_block_from code n 0 p.blocks end_code n at_blocks (omega arith) in
    let ends : drop at_end.place code ≡ end_code = at_end.there ∙ ap (λ bs. blocks_code n (0 + n) bs ++ end_code) (drop_all n p.blocks (omega arith)) in
    record {
      few = few;
      once = once;
      to_end = leads code end_label at_end.place (ws.End ∷ []) once ends;
      after_dispatch = body;
      to_dispatch = leads code dispatch_label (suc (0 + length words)) (tree_code n (digit_count n) 0 ++ body) once at_dispatch;
      to_block = λ k h.
          let here = to_block_from code n 0 p.blocks end_code k at_blocks (omega arith) in
          let e : 0 + k ≡ k = omega arith in
          let there : drop here.place code ≡ rest_of p k 0 = here.there ∙ ap (λ j. blocks_code n j (drop k p.blocks) ++ end_code) e in
          let split = ap (λ bs. blocks_code n k bs ++ end_code) (drop_list p.blocks k h) in
          leads code (block_label k) here.place _ once (there ∙ split) ∙ sym split;
    }
