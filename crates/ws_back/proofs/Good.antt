-- The instructions are short and name only what is there.
use Rattle.std.proofs.Common.{◌≡◌, ℕ, zero, suc, ◌+◌, ◌-◌, ◌*◌, ◌/◌, ◌%◌, ◌^◌, ◌<◌, ◌≤◌, min, Bool, true, false, cond, nat_eq, nat_lt, List, [], ◌∷◌, ◌++◌, length, refl, sym, ap, subst, ◌∙◌, arith, append_assoc, length-append, sum_by}
use Rattle.std.specs.Prelude.{ℤ, pos, unsigned_abs}
use Rattle.std.specs.List.{AllByRecursion}
use Rattle.std.proofs.lemmas.Bool.{ltb-true, ltb-false}
use Rattle.std.proofs.Math.Nat.{pow-succ'}
use Rattle.sim_trait.specs.Digits.{digit_count}
use Rattle.std.proofs.lemmas.List.{length-map}
use Rattle.std.proofs.lemmas.List.Sums.{sum_by-cons}
use Rattle.word24.specs.declared.word.Word.{Word}
use Rattle.word24.specs.Word.{number_of}
use Rattle.eir_core.specs.declared.ops.Reg.{Reg}
use Rattle.eir_core.specs.declared.ops.Reg.TheVariants.{A, B, C, D, SP, BP}
use Rattle.eir_core.specs.declared.ops.Operand.{Operand}
use Rattle.eir_core.specs.declared.ops.Operand.TheVariants.{Reg as register, Imm}
use Rattle.eir_core.specs.declared.ops.Cond.{Cond}
use Rattle.eir_core.specs.declared.ops.Cond.TheVariants.{Eq, Ne, Lt, Gt, Le, Ge}
use Rattle.eir_core.specs.declared.ops.Op.{Op}
use Rattle.eir_core.specs.declared.ops.Op.TheVariants.{Mov, Add, Sub, Load, Store, Putc, Getc, Exit, Set, Jump, JumpIf}
use Rattle.eir_core.specs.Eir.{Eir, size_of}
use Rattle.ws_lang.specs.Instruction.{Label, Instruction, numbers_of, marks_of, uses_of, uses}
use Rattle.ws_lang.specs.Instruction as ws
use Rattle.ws_lang.specs.declared.sign.Sign.TheVariants.{LineFeed}
use Rattle.ws_lang.specs.Spelling.{bit_signs, name_of}
use Rattle.ws_back.specs.Code.{digits, label, end_label, dispatch_label, branch_label, block_label, goal_label, address, wanted, push_modulus, value_code, reaches_code, flag_code, negated, target_code, target_label, op_code, ops_code, blocks_code, end_code, branch_code, tree_code, dispatch_code, words_code, code_of}
use Rattle.ws_back.specs.Text.{byte_of, number_signs, label_signs, parameter_of, instruction_text, text_of}
use Rattle.ws_back.proofs.Texts.{text_of-append}
use Rattle.ws_back.proofs.Lengths.{op-short}
use Rattle.ws_back.proofs.Loading.{length-words_code}

-- the label is one of those of a program of so many blocks
pub record IsOwn (n : ℕ) (l : Label) : Type 0 where
  pub number : ℕ
  pub within : number < 2 * n + 2
  pub same : l ≡ label number

-- each number of the instruction has 25 digits at most
abbrev pub IsSmall : Instruction → Type 0
IsSmall instruction = AllByRecursion (λ z. unsigned_abs z < 2 ^ 25) (numbers_of instruction)

-- small numbers, own labels and short texts
pub record Good (n : ℕ) (is : List Instruction) : Type 0 where
  pub small : AllByRecursion IsSmall is
  pub own : AllByRecursion (IsOwn n) (uses is)
  pub brief : length (text_of is) ≤ 32 * length is

pub all-append : {X : Type 0} (P : X → Type 0) (xs ys : List X) → AllByRecursion P xs → AllByRecursion P ys → AllByRecursion P (xs ++ ys)
all-append P [] ys p q = q
all-append P (x ∷ xs) ys p q = (p.0, all-append P xs ys p.1 q)

pub uses-append : (is js : List Instruction) → uses (is ++ js) ≡ uses is ++ uses js
uses-append [] js = refl
uses-append (x ∷ is) js = ap (λ (ls : List Label). uses_of x ++ ls) (uses-append is js) ∙ sym (append_assoc (uses_of x) (uses is) (uses js))

pub also : {n : ℕ} {is js : List Instruction} → Good n is → Good n js → Good n (is ++ js)
also {n = n} {is = is} {js = js} p q =
    let t : length (text_of (is ++ js)) ≡ length (text_of is) + length (text_of js) = ap length (text_of-append is js) ∙ length-append (text_of is) (text_of js) in
    let l : length (is ++ js) ≡ length is + length js = length-append is js in
    record {
      small = all-append IsSmall is js p.small q.small;
      own = subst (AllByRecursion (IsOwn n)) (sym (uses-append is js)) (all-append (IsOwn n) (uses is) (uses js) p.own q.own);
      brief = omega (arith, p.brief, q.brief);
    }

length-digits : (width n : ℕ) → length (digits width n) ≤ width
unfolding digits
length-digits zero n = omega arith
length-digits (suc width) n = elim (nat_eq n 0) as (λ b. length (cond b [] (digits width (n / 2) ++ nat_eq (n % 2) 1 ∷ [])) ≤ suc width) [
  | true ↦ omega arith
  | false ↦ omega (arith, length-digits width (n / 2), length-append (digits width (n / 2)) (nat_eq (n % 2) 1 ∷ []))
]

length-signs : (ds : List Bool) → length (bit_signs ds ++ LineFeed ∷ []) ≡ length ds + 1
length-signs [] = refl
length-signs (d ∷ ds) = omega (arith, length-signs ds)

length-number_signs : (z : ℤ) → length (number_signs z) ≤ 27
length-number_signs z = omega (arith, length-signs (digits 25 (unsigned_abs z)), length-digits 25 (unsigned_abs z))

length-label_signs : (n : ℕ) (l : Label) → IsOwn n l → length (label_signs l) ≤ 27
length-label_signs n l own = omega (arith, length-signs l, length-digits 25 own.number, ap length own.same)

length-text : (x : Instruction) → length (instruction_text x) ≡ length (name_of x) + length (parameter_of x)
unfolding instruction_text
length-text x = length-map (name_of x ++ parameter_of x) byte_of ∙ length-append (name_of x) (parameter_of x)

module _ (n : ℕ) where
  one : (x : Instruction) → IsSmall x → AllByRecursion (IsOwn n) (uses_of x ++ []) → length (name_of x) ≤ 4 → length (parameter_of x) ≤ 27 → Good n (x ∷ [])
  one x small own name parameter = record { small = (small, tt); own = own; brief = omega (arith, length-append (instruction_text x) [], length-text x) }

  push : (z : ℤ) → unsigned_abs z < 2 ^ 25 → Good n (ws.Push z ∷ [])
  push z h = one (ws.Push z) (h, tt) tt (omega arith) (length-number_signs z)

  retrieve : Good n (ws.Retrieve ∷ [])
  retrieve = one ws.Retrieve tt tt (omega arith) (omega arith)

  store : Good n (ws.Store ∷ [])
  store = one ws.Store tt tt (omega arith) (omega arith)

  add : Good n (ws.Add ∷ [])
  add = one ws.Add tt tt (omega arith) (omega arith)

  subtract : Good n (ws.Subtract ∷ [])
  subtract = one ws.Subtract tt tt (omega arith) (omega arith)

  mark : (l : Label) → IsOwn n l → Good n (ws.Mark l ∷ [])
  mark l own = one (ws.Mark l) tt tt (omega arith) (length-label_signs n l own)

  jump : (l : Label) → IsOwn n l → Good n (ws.Jump l ∷ [])
  jump l own = one (ws.Jump l) tt (own, tt) (omega arith) (length-label_signs n l own)

  jump_if : (l : Label) → IsOwn n l → Good n (ws.JumpIfZero l ∷ [])
  jump_if l own = one (ws.JumpIfZero l) tt (own, tt) (omega arith) (length-label_signs n l own)

  jump_if_negative : (l : Label) → IsOwn n l → Good n (ws.JumpIfNegative l ∷ [])
  jump_if_negative l own = one (ws.JumpIfNegative l) tt (own, tt) (omega arith) (length-label_signs n l own)

  modulus : Good n (push_modulus ∷ [])
  modulus = push (pos (2 ^ 24)) (omega arith)

  register_address : (r : Reg) → unsigned_abs (address r) < 2 ^ 25
  register_address A = omega arith
  register_address B = omega arith
  register_address C = omega arith
  register_address D = omega arith
  register_address SP = omega arith
  register_address BP = omega arith

  at_register : (r : Reg) → Good n (ws.Push (address r) ∷ [])
  at_register r = push (address r) (register_address r)

  value : (v : Operand) → Good n (value_code v)
  value (register r) = also (at_register r) retrieve
  value (Imm w) = let small = w.in_range in push (pos (number_of w)) (omega arith)

  reaches : (k : ℕ) (x y : Operand) → k ≤ 2 ^ 24 → Good n (reaches_code k x y)
  reaches k x y h = also (value x) (also (push (pos k) (omega arith)) (also add (also (value y) (also subtract (also modulus (one ws.Divide tt tt (omega arith) (omega arith)))))))

  flag : (t : Cond) (x y : Operand) → Good n (flag_code t x y)
  flag Eq x y = also (reaches (2 ^ 24) x y (omega arith)) (also (reaches (2 ^ 24) y x (omega arith)) (one ws.Multiply tt tt (omega arith) (omega arith)))
  flag Ne x y = also (reaches (2 ^ 24 - 1) x y (omega arith)) (also (reaches (2 ^ 24 - 1) y x (omega arith)) add)
  flag Lt x y = reaches (2 ^ 24 - 1) y x (omega arith)
  flag Gt x y = reaches (2 ^ 24 - 1) x y (omega arith)
  flag Le x y = reaches (2 ^ 24) y x (omega arith)
  flag Ge x y = reaches (2 ^ 24) x y (omega arith)

  own_end : IsOwn n end_label
  own_end = record { number = 0; within = omega arith; same = refl }

  own_dispatch : IsOwn n dispatch_label
  own_dispatch = record { number = 1; within = omega arith; same = refl }

  own_block : (k : ℕ) → k < n → IsOwn n (block_label k)
  own_block k h = record { number = 2 * k + 2; within = omega arith; same = refl }

  own_goal : (k : ℕ) → IsOwn n (goal_label n k)
  own_goal k = elim (nat_lt k n) as (λ b. nat_lt k n ≡ b → IsOwn n (cond b (block_label k) end_label)) [ true ↦ λ e. own_block k (ltb-true k n e) | false ↦ λ e. own_end ] refl

  own_target : (v : Operand) → IsOwn n (target_label n v)
  own_target (register r) = own_dispatch
  own_target (Imm w) = own_goal (number_of w)

  target : (v : Operand) → Good n (target_code v)
  target (register r) = also (push wanted (omega arith)) (also (value (register r)) store)
  target (Imm w) = record { small = tt; own = tt; brief = omega arith }

  wraps : Good n (push_modulus ∷ ws.Modulo ∷ ws.Store ∷ [])
  wraps = also modulus (also (one ws.Modulo tt tt (omega arith) (omega arith)) store)

  op : (o : Op) → Good n (op_code n o)
  op (Mov r v) = also (at_register r) (also (value v) store)
  op (Add r v) = also (at_register r) (also (value (register r)) (also (value v) (also add wraps)))
  op (Sub r v) = also (at_register r) (also (value (register r)) (also (value v) (also subtract wraps)))
  op (Load r v) = also (at_register r) (also (value v) (also retrieve store))
  op (Store r v) = also (value v) (also (value (register r)) store)
  op (Putc v) = also (value v) (one ws.WriteCharacter tt tt (omega arith) (omega arith))
  op (Getc r) = also (at_register r) (one ws.ReadCharacter tt tt (omega arith) (omega arith))
  op Exit = jump end_label own_end
  op (Set t r v) = also (at_register r) (also (flag t (register r) v) store)
  op (Jump v) = also (target v) (jump (target_label n v) (own_target v))
  op (JumpIf t v r w) = also (target v) (also (flag (negated t) (register r) w) (jump_if (target_label n v) (own_target v)))

  ops : (os : List Op) → Good n (ops_code n os)
  ops [] = record { small = tt; own = tt; brief = omega arith }
  ops (o ∷ os) = also (op o) (ops os)

  blocks : (k : ℕ) (bs : List (List Op)) → k + length bs ≤ n → Good n (blocks_code n k bs)
  blocks k [] h = record { small = tt; own = tt; brief = omega arith }
  blocks k (os ∷ bs) h = also (mark (block_label k) (own_block k (omega arith))) (also (ops os) (blocks (suc k) bs (omega arith)))

  own_branch : (middle : ℕ) → middle ≤ n → IsOwn n (branch_label middle)
  own_branch middle h = record { number = 2 * middle + 1; within = omega arith; same = refl }

  branch : (middle : ℕ) → middle ≤ n → n ≤ 2 ^ 17 → Good n (branch_code middle)
  branch middle h few =
      also (push wanted (omega arith)) (also retrieve (also (push (pos middle) (omega arith)) (also subtract (jump_if_negative (branch_label middle) (own_branch middle h)))))

  tree : (depth low : ℕ) → n ≤ 2 ^ 17 → Good n (tree_code n depth low)
  tree zero low few = jump (goal_label n low) (own_goal low)
  tree (suc depth) low few =
      let middle = low + 2 ^ depth in
      elim (nat_lt n middle) as (λ b. nat_lt n middle ≡ b → Good n (cond b (tree_code n depth low) (branch_code middle ++ (tree_code n depth middle ++ ws.Mark (branch_label middle) ∷ tree_code n depth low)))) [
        | true ↦ λ e. tree depth low few
        | false ↦ λ e.
            let le : middle ≤ n = ltb-false n middle e in
            also (branch middle le few) (also (tree depth middle few) (also (mark (branch_label middle) (own_branch middle le)) (tree depth low few)))
      ] refl

  words : (a : ℕ) (ws : List Word) → a + length ws ≤ 2 ^ 17 → Good n (words_code a ws)
  words a [] h = record { small = tt; own = tt; brief = omega arith }
  words a (w ∷ rest) h = let small = w.in_range in also (push (pos a) (omega arith)) (also (push (pos (number_of w)) (omega arith)) (also store (words (a + 1) rest (omega arith))))

  ending : Good n end_code
  ending = also (mark end_label own_end) (one ws.End tt tt (omega arith) (omega arith))

-- the code of a program that is not too large
pub good_code : (p : Eir) → size_of p ≤ 2 ^ 17 → Good (length p.blocks) (code_of p)
good_code p small =
    let n = length p.blocks in
    let dispatch : Good n (dispatch_code n) = also (mark n dispatch_label (own_dispatch n)) (tree n (digit_count n) 0 (omega arith)) in
    also (words n 0 p.words (omega arith)) (also (jump n (goal_label n p.start) (own_goal n p.start)) (also dispatch (also (blocks n 0 p.blocks (omega arith)) (ending n))))

-- the length of the code
length-ops_code : (n : ℕ) (os : List Op) → length (ops_code n os) ≤ 24 * length os
length-ops_code n [] = omega arith
length-ops_code n (o ∷ os) = omega (arith, length-append (op_code n o) (ops_code n os), op-short n o, length-ops_code n os)

length-blocks_code : (n k : ℕ) (bs : List (List Op)) → length (blocks_code n k bs) ≤ length bs + 24 * sum_by length bs
length-blocks_code n k [] = omega arith
length-blocks_code n k (os ∷ bs) =
    omega (arith, length-append (ops_code n os) (blocks_code n (suc k) bs), length-ops_code n os, length-blocks_code n (suc k) bs, sum_by-cons (length {A = Op}) os bs)

length-tree_code : (n depth low : ℕ) → low ≤ n → length (tree_code n depth low) + 6 ≤ 7 * min (2 ^ depth) (n + 1 - low)
length-tree_code n zero low le = omega arith
length-tree_code n (suc depth) low le =
    let middle = low + 2 ^ depth in
    let p : 2 ^ suc depth ≡ 2 * 2 ^ depth = pow-succ' 2 depth in
    let upper = tree_code n depth middle in
    let lower = tree_code n depth low in
    elim (nat_lt n middle) as (λ b. nat_lt n middle ≡ b → length (cond b lower (branch_code middle ++ (upper ++ ws.Mark (branch_label middle) ∷ lower))) + 6 ≤ 7 * min (2 ^ suc depth) (n + 1 - low)) [
      | true ↦ λ e. omega (arith, length-tree_code n depth low le)
      | false ↦ λ e.
          let le' : middle ≤ n = ltb-false n middle e in
          omega (arith, length-append upper (ws.Mark (branch_label middle) ∷ lower), length-tree_code n depth middle le', length-tree_code n depth low le)
    ] refl

length-dispatch_code : (n : ℕ) → length (dispatch_code n) ≤ 7 * n + 2
length-dispatch_code n = omega (arith, length-tree_code n (digit_count n) 0 (omega arith))

length-code : (p : Eir) → length (code_of p) ≤ 24 * size_of p + 5
length-code p =
    let n = length p.blocks in
    let body = blocks_code n 0 p.blocks in
    omega (
      arith,
      length-append (words_code 0 p.words) (ws.Jump (goal_label n p.start) ∷ (dispatch_code n ++ (body ++ end_code))),
      length-append (dispatch_code n) (body ++ end_code),
      length-append body end_code,
      length-words_code 0 p.words,
      length-dispatch_code n,
      length-blocks_code n 0 p.blocks,
    )

pub text_short : (p : Eir) → size_of p ≤ 2 ^ 17 → length (text_of (code_of p)) ≤ 2 ^ 29
text_short p small = omega (arith, (good_code p small).brief, length-code p)
