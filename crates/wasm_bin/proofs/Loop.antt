-- A loop that reads one value after the other.
use Rattle.std.proofs.Common.{◌≡◌, ℕ, suc, ◌+◌, ◌-◌, ◌<◌, ◌≤◌, List, [], ◌∷◌, ◌++◌, Result, Ok, refl, sym, ap, ◌∙◌, arith}
use Rattle.std.proofs.lemmas.List.{append-nil}
use Rattle.wasm_bytes.specs.declared.fault.ModFault.{ModFault}
use Rattle.wasm_bytes.specs.Outcome.{◌>>=◌, Fails}
use Rattle.wasm_bytes.specs.Piece.{Piece, Reading}
use Rattle.wasm_bin.specs.Entry.{items_at, value_type_at, value_types_at}
use Rattle.wasm_bytes.proofs.Steps.{with_front, with_front-more, with_front-nil, Fails-then, Fails-along}

pub items_start : {A : Type 0} (reading : Reading A) (count : ℕ) (p : Piece) → with_front [] (items_at reading (count - 0) p) ≡ items_at reading count p
items_start reading count p = let k : count - 0 ≡ count = omega arith in rw k (with_front-nil (items_at reading count p))

pub items_more : {A : Type 0} (reading : Reading A) (front : List A) (count i : ℕ) (p : Piece) (a : A) (q : Piece) (total : Result (List A × Piece) ModFault) → i < count → reading p ≡ Ok (a, q)
    → with_front front (items_at reading (count - i) p) ≡ total → with_front (front ++ a ∷ []) (items_at reading (count - (i + 1)) q) ≡ total
unfolding items_at
items_more reading front count i p a q total lt h so_far =
    let k : count - i ≡ suc (count - (i + 1)) = omega arith in
    let one : with_front front (items_at reading (count - i) p) ≡ with_front (front ++ a ∷ []) (items_at reading (count - (i + 1)) q) = rw (k, h) (with_front-more front a (items_at reading (count - (i + 1)) q)) in
    sym one ∙ so_far

pub items_end : {A : Type 0} (reading : Reading A) (e : ModFault) (front : List A) (count i : ℕ) (p : Piece) (total : Result (List A × Piece) ModFault) → i < count → Fails e (reading p)
    → with_front front (items_at reading (count - i) p) ≡ total → Fails e total
unfolding items_at
items_end reading e front count i p total lt h so_far =
    let k : count - i ≡ suc (count - (i + 1)) = omega arith in
    let one : with_front front (items_at reading (suc (count - (i + 1))) p) ≡ total = rw k at so_far in
    Fails-along e (with_front front (items_at reading (suc (count - (i + 1))) p)) total one (Fails-then e (items_at reading (suc (count - (i + 1))) p) (λ x. Ok (front ++ x.0, x.1)) (Fails-then e (reading p) (λ first. items_at reading (count - (i + 1)) first.1 >>= λ others. Ok (first.0 ∷ others.0, others.1)) h))

pub items_done : {A : Type 0} (reading : Reading A) (front : List A) (count i : ℕ) (p : Piece) (total : Result (List A × Piece) ModFault) → count ≤ i → with_front front (items_at reading (count - i) p) ≡ total → total ≡ Ok (front, p)
unfolding items_at
items_done reading front count i p total le so_far =
    let k : count - i ≡ 0 = omega arith in
    let one : with_front front (items_at reading (count - i) p) ≡ Ok (front, p) = rw k (ap (λ xs. Ok (xs, p)) (append-nil front)) in
    sym so_far ∙ one

pub types_more : (count i : ℕ) (p q : Piece) (total : Result Piece ModFault) → i < count → value_type_at p ≡ Ok q → value_types_at (count - i) p ≡ total → value_types_at (count - (i + 1)) q ≡ total
unfolding value_types_at
types_more count i p q total lt h so_far =
    let k : count - i ≡ suc (count - (i + 1)) = omega arith in
    let one : value_types_at (count - i) p ≡ value_types_at (count - (i + 1)) q = rw (k, h) refl in
    sym one ∙ so_far

pub types_end : (e : ModFault) (count i : ℕ) (p : Piece) (total : Result Piece ModFault) → i < count → Fails e (value_type_at p) → value_types_at (count - i) p ≡ total → Fails e total
unfolding value_types_at
types_end e count i p total lt h so_far =
    let k : count - i ≡ suc (count - (i + 1)) = omega arith in
    let one : value_types_at (suc (count - (i + 1))) p ≡ total = rw k at so_far in
    Fails-along e _ _ one (Fails-then e (value_type_at p) (value_types_at (count - (i + 1))) h)

pub types_done : (count i : ℕ) (p : Piece) (total : Result Piece ModFault) → count ≤ i → value_types_at (count - i) p ≡ total → total ≡ Ok p
unfolding value_types_at
types_done count i p total le so_far =
    let k : count - i ≡ 0 = omega arith in
    let one : value_types_at (count - i) p ≡ Ok p = rw k refl in
    sym so_far ∙ one
