-- A loop that reads runs of locals.
use Rattle.std.proofs.Common.{◌≡◌, ℕ, suc, ◌+◌, ◌-◌, ◌<◌, ◌≤◌, Result, Ok, Err, refl, sym, ap, ◌∙◌, arith}
use Rattle.wasm_bytes.specs.declared.fault.ModFault.{ModFault}
use Rattle.wasm_bytes.specs.Outcome.{◌>>=◌, Fails}
use Rattle.wasm_bytes.specs.Piece.{Piece}
use Rattle.wasm_bytes.specs.Number.{limited_at}
use Rattle.wasm_bin.specs.Entry.{value_type_at}
use Rattle.wasm_bin.specs.Body.{runs_at}
use Rattle.wasm_bytes.proofs.Steps.{Fails-then, Fails-along}

-- the locals so far, and what is still read
abbrev pub with_sum : ℕ → Result (ℕ × Piece) ModFault → Result (ℕ × Piece) ModFault
with_sum n reading = reading >>= λ x. Ok (n + x.0, x.1)

with_sum-more : (n m : ℕ) (reading : Result (ℕ × Piece) ModFault) → with_sum n (reading >>= λ x. Ok (m + x.0, x.1)) ≡ with_sum (n + m) reading
with_sum-more n m (Ok x) = let e : n + (m + x.0) ≡ n + m + x.0 = omega arith in ap (λ k. Ok (k, x.1)) e
with_sum-more n m (Err f) = refl

with_sum-zero : (reading : Result (ℕ × Piece) ModFault) → with_sum 0 reading ≡ reading
with_sum-zero (Ok x) = let e : 0 + x.0 ≡ x.0 = omega arith in ap (λ k. Ok (k, x.1)) e
with_sum-zero (Err f) = refl

pub runs_start : (count room : ℕ) (p : Piece) → with_sum 0 (runs_at (count - 0) (room - 0) p) ≡ runs_at count room p
runs_start count room p =
    let k : count - 0 ≡ count = omega arith in
    let r : room - 0 ≡ room = omega arith in
    rw (k, r) (with_sum-zero (runs_at count room p))

pub runs_more : (count i room locals run : ℕ) (p q s : Piece) (total : Result (ℕ × Piece) ModFault) → i < count → limited_at (room - locals) p ≡ Ok (run, q) → value_type_at q ≡ Ok s
    → with_sum locals (runs_at (count - i) (room - locals) p) ≡ total → with_sum (locals + run) (runs_at (count - (i + 1)) (room - (locals + run)) s) ≡ total
unfolding runs_at
runs_more count i room locals run p q s total lt h t so_far =
    let k : count - i ≡ suc (count - (i + 1)) = omega arith in
    let less : room - locals - run ≡ room - (locals + run) = omega arith in
    let one : with_sum locals (runs_at (count - i) (room - locals) p) ≡ with_sum (locals + run) (runs_at (count - (i + 1)) (room - (locals + run)) s) = rw (k, h, t, less) (with_sum-more locals run (runs_at (count - (i + 1)) (room - (locals + run)) s)) in
    sym one ∙ so_far

pub runs_end : (e : ModFault) (count i room locals : ℕ) (p : Piece) (total : Result (ℕ × Piece) ModFault) → i < count → Fails e (limited_at (room - locals) p)
    → with_sum locals (runs_at (count - i) (room - locals) p) ≡ total → Fails e total
unfolding runs_at
runs_end e count i room locals p total lt h so_far =
    let n = count - (i + 1) in
    let k : count - i ≡ suc n = omega arith in
    let one : with_sum locals (runs_at (suc n) (room - locals) p) ≡ total = rw k at so_far in
    Fails-along e (with_sum locals (runs_at (suc n) (room - locals) p)) total one (Fails-then e (runs_at (suc n) (room - locals) p) (λ x. Ok (locals + x.0, x.1)) (Fails-then e (limited_at (room - locals) p) _ h))

pub runs_untyped : (e : ModFault) (count i room locals run : ℕ) (p q : Piece) (total : Result (ℕ × Piece) ModFault) → i < count → limited_at (room - locals) p ≡ Ok (run, q) → Fails e (value_type_at q)
    → with_sum locals (runs_at (count - i) (room - locals) p) ≡ total → Fails e total
unfolding runs_at
runs_untyped e count i room locals run p q total lt h t so_far =
    let n = count - (i + 1) in
    let k : count - i ≡ suc n = omega arith in
    let rest = λ (s : Piece). runs_at n (room - locals - run) s >>= λ more. Ok (run + more.0, more.1) in
    let one : with_sum locals (runs_at (count - i) (room - locals) p) ≡ with_sum locals (value_type_at q >>= rest) = rw (k, h) refl in
    Fails-along e (with_sum locals (value_type_at q >>= rest)) total (sym one ∙ so_far) (Fails-then e (value_type_at q >>= rest) (λ x. Ok (locals + x.0, x.1)) (Fails-then e (value_type_at q) rest t))

pub runs_done : (count i room locals : ℕ) (p : Piece) (total : Result (ℕ × Piece) ModFault) → count ≤ i → with_sum locals (runs_at (count - i) (room - locals) p) ≡ total → total ≡ Ok (locals, p)
unfolding runs_at
runs_done count i room locals p total le so_far =
    let k : count - i ≡ 0 = omega arith in
    let e : locals + 0 ≡ locals = omega arith in
    let one : with_sum locals (runs_at (count - i) (room - locals) p) ≡ Ok (locals, p) = rw k (ap (λ m. Ok (m, p)) e) in
    sym so_far ∙ one
