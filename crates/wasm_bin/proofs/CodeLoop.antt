-- A loop that reads instructions.
use Rattle.std.proofs.Common.{◌≡◌, ℕ, suc, ◌+◌, ◌-◌, ◌<◌, ◌≤◌, true, false, cond, List, [], ◌∷◌, ◌++◌, Result, Ok, Err, refl, sym, ◌∙◌, arith}
use Rattle.wasm_bytes.specs.declared.fault.ModFault.{ModFault}
use Rattle.wasm_bytes.specs.declared.fault.ModFault.TheVariants.{Malformed}
use Rattle.wasm_bytes.specs.Outcome.{◌>>=◌, Fails}
use Rattle.wasm_bytes.specs.Piece.{Piece, place}
use Rattle.wasm_bin.specs.Opcode.{Coded}
use Rattle.wasm_bin.specs.Body.{Blocks, opcode_at, operands_at, is_last, blocks_after, code_at}
use Rattle.wasm_bytes.proofs.Steps.{with_front, with_front-more, with_front-nil, Fails-then, Fails-along}

pub code_start : (n : ℕ) (p : Piece) → with_front [] (code_at (n - 0) [] p) ≡ code_at n [] p
code_start n p = let k : n - 0 ≡ n = omega arith in rw k (with_front-nil (code_at n [] p))

pub code_more : (front : List Coded) (n c : ℕ) (blocks : Blocks) (p : Piece) (op : ℕ) (q : Piece) (i : Coded) (s : Piece) (total : Result (List Coded × Piece) ModFault) → c < n → opcode_at blocks p ≡ Ok (op, q) → operands_at (place p) op q ≡ Ok (i, s) → is_last blocks op ≡ false
    → with_front front (code_at (n - c) blocks p) ≡ total → with_front (front ++ i ∷ []) (code_at (n - (c + 1)) (blocks_after op blocks) s) ≡ total
unfolding code_at
code_more front n c blocks p op q i s total lt h g more so_far =
    let k : n - c ≡ suc (n - (c + 1)) = omega arith in
    let one : with_front front (code_at (n - c) blocks p) ≡ with_front (front ++ i ∷ []) (code_at (n - (c + 1)) (blocks_after op blocks) s) = rw (k, h, g, more) (with_front-more front i (code_at (n - (c + 1)) (blocks_after op blocks) s)) in
    sym one ∙ so_far

pub code_last : (front : List Coded) (n c : ℕ) (blocks : Blocks) (p : Piece) (op : ℕ) (q : Piece) (i : Coded) (s : Piece) (total : Result (List Coded × Piece) ModFault) → c < n → opcode_at blocks p ≡ Ok (op, q) → operands_at (place p) op q ≡ Ok (i, s) → is_last blocks op ≡ true
    → with_front front (code_at (n - c) blocks p) ≡ total → total ≡ Ok (front ++ i ∷ [], s)
unfolding code_at
code_last front n c blocks p op q i s total lt h g last so_far =
    let k : n - c ≡ suc (n - (c + 1)) = omega arith in
    let one : with_front front (code_at (n - c) blocks p) ≡ Ok (front ++ i ∷ [], s) = rw (k, h, g, last) refl in
    sym so_far ∙ one

pub code_end : (e : ModFault) (front : List Coded) (n c : ℕ) (blocks : Blocks) (p : Piece) (total : Result (List Coded × Piece) ModFault) → c < n → Fails e (opcode_at blocks p)
    → with_front front (code_at (n - c) blocks p) ≡ total → Fails e total
unfolding code_at
code_end e front n c blocks p total lt h so_far =
    let m = n - (c + 1) in
    let k : n - c ≡ suc m = omega arith in
    let one : with_front front (code_at (suc m) blocks p) ≡ total = rw k at so_far in
    Fails-along e (with_front front (code_at (suc m) blocks p)) total one (Fails-then e (code_at (suc m) blocks p) (λ x. Ok (front ++ x.0, x.1)) (Fails-then e (opcode_at blocks p) _ h))

pub code_cut : (e : ModFault) (front : List Coded) (n c : ℕ) (blocks : Blocks) (p : Piece) (op : ℕ) (q : Piece) (total : Result (List Coded × Piece) ModFault) → c < n → opcode_at blocks p ≡ Ok (op, q) → Fails e (operands_at (place p) op q)
    → with_front front (code_at (n - c) blocks p) ≡ total → Fails e total
unfolding code_at
code_cut e front n c blocks p op q total lt h g so_far =
    let m = n - (c + 1) in
    let k : n - c ≡ suc m = omega arith in
    let rest = λ (i : Coded × Piece). cond (is_last blocks op) (Ok (i.0 ∷ [], i.1)) (code_at m (blocks_after op blocks) i.1 >>= λ more. Ok (i.0 ∷ more.0, more.1)) in
    let one : with_front front (code_at (n - c) blocks p) ≡ with_front front (operands_at (place p) op q >>= rest) = rw (k, h) refl in
    Fails-along e (with_front front (operands_at (place p) op q >>= rest)) total (sym one ∙ so_far) (Fails-then e (operands_at (place p) op q >>= rest) (λ x. Ok (front ++ x.0, x.1)) (Fails-then e (operands_at (place p) op q) rest g))

pub code_over : (front : List Coded) (n c : ℕ) (blocks : Blocks) (p : Piece) (total : Result (List Coded × Piece) ModFault) → n ≤ c
    → with_front front (code_at (n - c) blocks p) ≡ total → total ≡ Err (Malformed (place p))
unfolding code_at
code_over front n c blocks p total le so_far =
    let k : n - c ≡ 0 = omega arith in
    let one : with_front front (code_at (n - c) blocks p) ≡ Err (Malformed (place p)) = rw k refl in
    sym so_far ∙ one
