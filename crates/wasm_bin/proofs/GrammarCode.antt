-- The code of a function is read exactly where the grammar spells it.
use Rattle.std.proofs.Common.{◌≡◌, ℕ, zero, suc, ◌-◌, ◌^◌, ◌<◌, ◌≤◌, Bool, true, false, nat_lt, List, [], ◌∷◌, ◌++◌, length, take, Some, Ok, refl, sym, ap, subst, ◌∙◌, append_assoc, inl, inr, arith}
use Rattle.std.specs.Prelude.{◌⊎◌, ◌==◌, slice_get, unwrap_or}
use Rattle.std.proofs.lemmas.Bool.{eqb-true, eqb-false, ne_eqb, ltb-true, lt-ltb}
use Rattle.std.proofs.lemmas.List.{take_at, length-append}
use Rattle.wasm_bytes.specs.declared.fault.ModFault.TheVariants.{Malformed, TooLarge}
use Rattle.wasm_bytes.specs.Piece.{Piece, place, byte_at}
use Rattle.wasm_bin.specs.Opcode.{Coded, is_block}
use Rattle.wasm_bin.specs.Body.{Blocks, may_have_else, outer, blocks_after, opcode_at, operands_at, is_last, code_at}
use Rattle.wasm_bin.specs.Grammar.{Language, ◌⋅◌, Row, Byte, InTurn, SpellsOperands, SpellsInstruction, Nests, Empty, Enclosed, Alternative, IsExpression}
use Rattle.wasm_bin.proofs.GrammarSteps.{Took, bind_ok, guard_ok, cases_of, by_test, done, along, join, split, none_taken, nothing_taken, byte_reads}
use Rattle.wasm_bin.proofs.GrammarOperands.{operands_sound, operands_complete}

-- where an opcode may stand
pub record Allowed (blocks : Blocks) (op : ℕ) : Type 0 where
  pub room : is_block op ≡ true → length blocks < 2 ^ 20
  pub in_if : op ≡ 0x05 → may_have_else blocks ≡ true

pub no_block : (n : ℕ) → n ≡ 0x05 → is_block n ≡ true → ⊥
unfolding is_block
no_block n five b = let k : false ≡ true = subst (λ m. is_block m ≡ true) five b in cc

pub differ : (b : Bool) → b ≡ false → b ≡ true → ⊥
differ b f t = cc

opcode_sound : (blocks : Blocks) (p : Piece) (op : ℕ) (q : Piece) → opcode_at blocks p ≡ Ok (op, q) → Took (Byte op) p q × Allowed blocks op
unfolding opcode_at
opcode_sound blocks p op q e =
    let a = bind_ok (byte_at p) _ (op, q) e in
    let t = byte_reads.sound p a.0.0 a.0.1 a.1 in
    let here = λ (h : done a.0 ≡ Ok (op, q)) (allowed : Allowed blocks a.0.0). along (λ v. Took (Byte v.0) p v.1 × Allowed blocks v.0) a.0 (op, q) h (t, allowed) in
    cases_of (is_block a.0.0) _ _ (op, q) a.2
    (λ b h. let g = guard_ok (nat_lt (length blocks) (2 ^ 20)) (Ok a.0) (TooLarge (place p)) (op, q) h in
    here g.1 (record { room = λ _. ltb-true (length blocks) (2 ^ 20) g.0; in_if = λ five. absurd (no_block a.0.0 five b) }))
    (λ b h. cases_of (a.0.0 == 0x05) _ _ (op, q) h
    (λ five h1. let g = guard_ok (may_have_else blocks) (Ok a.0) (Malformed (place p)) (op, q) h1 in
    here g.1 (record { room = λ k. absurd (differ (is_block a.0.0) b k); in_if = λ _. g.0 }))
    (λ other h1. here h1 (record { room = λ k. absurd (differ (is_block a.0.0) b k); in_if = λ k. absurd (eqb-false a.0.0 0x05 other k) })))

opcode_complete : (blocks : Blocks) (p : Piece) (op : ℕ) (q : Piece) → Took (Byte op) p q → Allowed blocks op → opcode_at blocks p ≡ Ok (op, q)
unfolding opcode_at
opcode_complete blocks p op q t allowed =
    by_test (is_block op)
    (λ b. rw (byte_reads.complete p op q t, b, lt-ltb (length blocks) (2 ^ 20) (allowed.room b)) refl)
    (λ b. by_test (op == 0x05)
    (λ five. rw (byte_reads.complete p op q t, b, five, allowed.in_if (eqb-true op 0x05 five)) refl)
    (λ other. rw (byte_reads.complete p op q t, b, other) refl))

-- ---- the instructions, with the blocks that are open

-- the code that is left closes these blocks and ends
abbrev pub Accepts : Blocks → List Coded → Type 0
Accepts blocks [] = ⊥
Accepts blocks (i ∷ code) = Allowed blocks i.0 × (((is_last blocks i.0 ≡ true) × (code ≡ [])) ⊎ ((is_last blocks i.0 ≡ false) × Accepts (blocks_after i.0 blocks) code))

instruction_sound : (at : ℕ) (p r q : Piece) (op : ℕ) (i : Coded) → Took (Byte op) p r → operands_at at op r ≡ Ok (i, q) → Took (SpellsInstruction i) p q × (i.0 ≡ op)
unfolding SpellsInstruction
instruction_sound at p r q op i t e =
    let f = operands_sound at op r i q e in
    let both = join (Byte i.0) (SpellsOperands i.1) p r q (subst (λ n. Took (Byte n) p r) (sym f.opcode) t) f.taken in
    (record { front = both.front; parts = both.parts; same = both.same; spelled = (f.has, both.spelled) }, f.opcode)

-- an instruction that was read in two steps
record InSteps (at : ℕ) (i : Coded) (p q : Piece) : Type 0 where
  pub middle : Piece
  pub opcode : Took (Byte i.0) p middle
  pub operands : operands_at at i.0 middle ≡ Ok (i, q)

instruction_complete : (at : ℕ) (i : Coded) (p q : Piece) → Took (SpellsInstruction i) p q → InSteps at i p q
unfolding SpellsInstruction
instruction_complete at i p q t =
    let both : Took (Byte i.0 ⋅ SpellsOperands i.1) p q = record { front = t.front; parts = t.parts; same = t.same; spelled = t.spelled.1 } in
    let s = split (Byte i.0) (SpellsOperands i.1) p q both in
    record { middle = s.middle; opcode = s.first; operands = operands_complete at i.0 i.1 s.middle q t.spelled.0 s.second }

pub code_sound : (n : ℕ) (blocks : Blocks) (p : Piece) (code : List Coded) (q : Piece) → code_at n blocks p ≡ Ok (code, q) → Took (InTurn SpellsInstruction code) p q × Accepts blocks code
unfolding code_at
code_sound zero blocks p code q e = absurd cc
code_sound (suc n) blocks p code q e =
    let a = bind_ok (opcode_at blocks p) _ (code, q) e in
    let b = bind_ok (operands_at (place p) a.0.0 a.0.1) _ (code, q) a.2 in
    let o = opcode_sound blocks p a.0.0 a.0.1 a.1 in
    let i = instruction_sound (place p) p a.0.1 b.0.1 a.0.0 b.0.0 o.0 b.1 in
    let allowed : Allowed blocks b.0.0.0 = subst (Allowed blocks) (sym i.1) o.1 in
    cases_of (is_last blocks a.0.0) _ _ (code, q) b.2
    (λ last h. along (λ v. Took (InTurn SpellsInstruction v.0) p v.1 × Accepts blocks v.0) (b.0.0 ∷ [], b.0.1) (code, q) h
    (join (SpellsInstruction b.0.0) (Row []) p b.0.1 b.0.1 i.0 (none_taken b.0.1), (allowed, inl (ap (is_last blocks) i.1 ∙ last, refl))))
    (λ last h.
    let m = bind_ok (code_at n (blocks_after a.0.0 blocks) b.0.1) _ (code, q) h in
    let rest = code_sound n (blocks_after a.0.0 blocks) b.0.1 m.0.0 m.0.1 m.1 in
    along (λ v. Took (InTurn SpellsInstruction v.0) p v.1 × Accepts blocks v.0) (b.0.0 ∷ m.0.0, m.0.1) (code, q) m.2 (
      join (SpellsInstruction b.0.0) (InTurn SpellsInstruction m.0.0) p b.0.1 m.0.1 i.0 rest.0,
      (allowed, inr (ap (is_last blocks) i.1 ∙ last, subst (λ op. Accepts (blocks_after op blocks) m.0.0) (sym i.1) rest.1)),
    ))

shorter : (op : ℕ) (p q : Piece) → Took (Byte op) p q → length p.left ≡ suc (length q.left)
shorter op p q t = ap length (t.parts ∙ ap (λ (xs : List ℕ). xs ++ q.left) t.spelled)

no_longer : (Spells : Language) (p q : Piece) → Took Spells p q → length q.left ≤ length p.left
no_longer Spells p q t = omega (arith, ap length t.parts, length-append t.front q.left)

code_step : (n : ℕ) (blocks : Blocks) (p : Piece) (i : Coded) (r q : Piece) (code : List Coded) → InSteps (place p) i p r → Allowed blocks i.0
    → ((is_last blocks i.0 ≡ true) × (code ≡ []) × (r ≡ q)) ⊎ ((is_last blocks i.0 ≡ false) × (code_at n (blocks_after i.0 blocks) r ≡ Ok (code, q))) → code_at (suc n) blocks p ≡ Ok (i ∷ code, q)
unfolding code_at
code_step n blocks p i r q code s allowed (inl h) = rw (opcode_complete blocks p i.0 s.middle s.opcode allowed, s.operands, h.0, h.1, h.2) refl
code_step n blocks p i r q code s allowed (inr h) = rw (opcode_complete blocks p i.0 s.middle s.opcode allowed, s.operands, h.0, h.1) refl

more : (i : Coded) (p r : Piece) → Took (SpellsInstruction i) p r → length r.left < length p.left
unfolding SpellsInstruction
more i p r t = let len : length t.front ≡ suc (length t.spelled.1.back) = ap length (t.spelled.1.parts ∙ ap (λ (xs : List ℕ). xs ++ t.spelled.1.back) t.spelled.1.first) in omega (arith, ap length t.parts, length-append t.front r.left)

code_case : (i : Coded) (code : List Coded) (n : ℕ) (blocks : Blocks) (r q : Piece) → Took (InTurn SpellsInstruction code) r q → (Accepts (blocks_after i.0 blocks) code → code_at n (blocks_after i.0 blocks) r ≡ Ok (code, q))
    → ((is_last blocks i.0 ≡ true) × (code ≡ [])) ⊎ ((is_last blocks i.0 ≡ false) × Accepts (blocks_after i.0 blocks) code)
    → ((is_last blocks i.0 ≡ true) × (code ≡ []) × (r ≡ q)) ⊎ ((is_last blocks i.0 ≡ false) × (code_at n (blocks_after i.0 blocks) r ≡ Ok (code, q)))
code_case i code n blocks r q t again (inl h) = inl (h.0, h.1, nothing_taken r q (subst (λ c. Took (InTurn SpellsInstruction c) r q) h.1 t))
code_case i code n blocks r q t again (inr h) = inr (h.0, again h.1)

pub code_complete : (code : List Coded) (n : ℕ) (blocks : Blocks) (p q : Piece) → length p.left ≤ n → Took (InTurn SpellsInstruction code) p q → Accepts blocks code → code_at n blocks p ≡ Ok (code, q)
code_complete [] n blocks p q le t accepts = absurd accepts
code_complete (i ∷ code) zero blocks p q le t accepts =
    let s = split (SpellsInstruction i) (InTurn SpellsInstruction code) p q t in
    let k = instruction_complete (place p) i p s.middle s.first in
    absurd (omega (arith, shorter i.0 p k.middle k.opcode))
code_complete (i ∷ code) (suc n) blocks p q le t accepts =
    let s = split (SpellsInstruction i) (InTurn SpellsInstruction code) p q t in
    let k = instruction_complete (place p) i p s.middle s.first in
    let lt = more i p s.middle s.first in
    code_step n blocks p i s.middle q code k accepts.0
    (code_case i code n blocks s.middle q s.second (λ h. code_complete code n (blocks_after i.0 blocks) s.middle q (omega arith) s.second h) accepts.1)

-- ---- the instructions nest

-- the open blocks, the innermost first
abbrev pub blocks_of : List Bool → Blocks
blocks_of [] = []
blocks_of (flag ∷ outs) = blocks_of outs ++ flag ∷ []

pub blocks_of-length : (stack : List Bool) → length (blocks_of stack) ≡ length stack
blocks_of-length [] = refl
blocks_of-length (flag ∷ outs) = let h = blocks_of-length outs in omega (arith, length-append (blocks_of outs) (flag ∷ []))

last_length : (blocks : Blocks) (flag : Bool) → length (blocks ++ flag ∷ []) - 1 ≡ length blocks
last_length blocks flag = omega (arith, length-append blocks (flag ∷ []))

pub outer_is : (blocks : Blocks) (flag : Bool) → outer (blocks ++ flag ∷ []) ≡ blocks
outer_is blocks flag = ap (λ (n : ℕ). take n (blocks ++ flag ∷ [])) (last_length blocks flag) ∙ take_at blocks (flag ∷ []) (length blocks) refl

at_end : (blocks : Blocks) (flag : Bool) → slice_get (blocks ++ flag ∷ []) (length blocks) ≡ Some flag
at_end [] flag = refl
at_end (b ∷ blocks) flag = at_end blocks flag

pub may_have_else_is : (blocks : Blocks) (flag : Bool) → may_have_else (blocks ++ flag ∷ []) ≡ flag
may_have_else_is blocks flag = ap (λ (n : ℕ). unwrap_or (slice_get (blocks ++ flag ∷ []) n) false) (last_length blocks flag) ∙ ap (λ o. unwrap_or o false) (at_end blocks flag)

pub some_open : (blocks : Blocks) (flag : Bool) → (length (blocks ++ flag ∷ []) == 0) ≡ false
some_open blocks flag = ne_eqb _ _ (λ e. absurd (omega (arith, length-append blocks (flag ∷ []))))

-- what closes the innermost block, and what follows it
pub data Closed (depth : ℕ) (flag : Bool) (Outer : List Coded → Type 0) (code : List Coded) : Type 0 where
  Plainly : (inside : List Coded) (last : Coded) (rest : List Coded) → code ≡ inside ++ last ∷ rest → Nests depth inside → last.0 ≡ 0x0B → Outer rest → Closed depth flag Outer code
  WithElse : flag ≡ true → (inside : List Coded) (middle : Coded) (otherwise : List Coded) (last : Coded) (rest : List Coded) → code ≡ inside ++ middle ∷ (otherwise ++ last ∷ rest)
      → Nests depth inside → middle.0 ≡ 0x05 → Nests depth otherwise → last.0 ≡ 0x0B → Outer rest → Closed depth flag Outer code

abbrev pub Closing : List Bool → List Coded → Type 0
Closing [] code = IsExpression code
Closing (flag ∷ outs) code = Closed (suc (length outs)) flag (Closing outs) code

-- what may stand before instructions that nest
abbrev pub Prefix : ℕ → List Coded → Type 0
Prefix depth front = (others : List Coded) → Nests depth others → Nests depth (front ++ others)

prefix_expression : (front code : List Coded) → Prefix 0 front → IsExpression code → IsExpression (front ++ code)
prefix_expression front code before e = record { inside = front ++ e.inside; last = e.last; parts = ap (λ (xs : List Coded). front ++ xs) e.parts ∙ sym (append_assoc front e.inside (e.last ∷ [])); nests = before e.inside e.nests; is_end = e.is_end }

prefix_closed : (depth : ℕ) (flag : Bool) (Outer : List Coded → Type 0) (front code : List Coded) → Prefix depth front → Closed depth flag Outer code → Closed depth flag Outer (front ++ code)
prefix_closed depth flag Outer front code before (Plainly inside last rest e n l o) =
    Plainly (front ++ inside) last rest (ap (λ (xs : List Coded). front ++ xs) e ∙ sym (append_assoc front inside (last ∷ rest))) (before inside n) l o
prefix_closed depth flag Outer front code before (WithElse f inside middle otherwise last rest e n m k l o) =
    WithElse f (front ++ inside) middle otherwise last rest (ap (λ (xs : List Coded). front ++ xs) e ∙ sym (append_assoc front inside (middle ∷ (otherwise ++ last ∷ rest)))) (before inside n) m k l o

pub prefix_closing : (stack : List Bool) (front code : List Coded) → Prefix (length stack) front → Closing stack code → Closing stack (front ++ code)
prefix_closing [] front code before c = prefix_expression front code before c
prefix_closing (flag ∷ outs) front code before c = prefix_closed (suc (length outs)) flag (Closing outs) front code before c

-- a block that closes may stand before what follows it
pub block_closes : (stack : List Bool) (i : Coded) (code : List Coded) → is_block i.0 ≡ true → length stack < 2 ^ 20 → Closed (suc (length stack)) (i.0 == 0x04) (Closing stack) code → Closing stack (i ∷ code)
block_closes stack i code b room (Plainly inside last rest e n l o) =
    let before : Prefix (length stack) (i ∷ (inside ++ last ∷ [])) = λ others k. subst (λ xs. Nests (length stack) (i ∷ xs)) (sym (append_assoc inside (last ∷ []) others)) (Enclosed i last inside others b l room n k) in
    subst (λ xs. Closing stack (i ∷ xs)) (append_assoc inside (last ∷ []) rest ∙ sym e) (prefix_closing stack (i ∷ (inside ++ last ∷ [])) rest before o)
block_closes stack i code b room (WithElse f inside middle otherwise last rest e n m k l o) =
    let regroup : (others : List Coded) → (inside ++ middle ∷ (otherwise ++ last ∷ [])) ++ others ≡ inside ++ middle ∷ (otherwise ++ last ∷ others) = λ others. append_assoc inside (middle ∷ (otherwise ++ last ∷ [])) others ∙ ap (λ xs. inside ++ middle ∷ xs) (append_assoc otherwise (last ∷ []) others) in
    let before : Prefix (length stack) (i ∷ (inside ++ middle ∷ (otherwise ++ last ∷ []))) = λ others j. subst (λ xs. Nests (length stack) (i ∷ xs)) (sym (regroup others)) (Alternative i middle last inside otherwise others (eqb-true i.0 0x04 f) m l room n k j) in
    subst (λ xs. Closing stack (i ∷ xs)) (regroup rest ∙ sym e) (prefix_closing stack (i ∷ (inside ++ middle ∷ (otherwise ++ last ∷ []))) rest before o)

pub else_closes : (outs : List Bool) (i : Coded) (code : List Coded) → i.0 ≡ 0x05 → Closed (suc (length outs)) false (Closing outs) code → Closed (suc (length outs)) true (Closing outs) (i ∷ code)
else_closes outs i code five (Plainly inside last rest e n l o) = WithElse refl [] i inside last rest (ap (λ xs. i ∷ xs) e) Empty five n l o
else_closes outs i code five (WithElse f inside middle otherwise last rest e n m k l o) = absurd cc
