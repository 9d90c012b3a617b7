-- Loops over custom sections and over bodies.
use Rattle.std.proofs.Common.{◌≡◌, ℕ, zero, suc, ◌+◌, ◌-◌, ◌<◌, ◌≤◌, true, false, List, [], ◌∷◌, ◌++◌, length, drop, get_or, Result, Ok, refl, sym, ap, ◌∙◌, arith}
use Rattle.std.specs.Prelude.{map}
use Rattle.std.proofs.lemmas.List.{append-nil, drop_more, drop_all}
use Rattle.wasm_bytes.specs.declared.fault.ModFault.{ModFault}
use Rattle.wasm_bin.specs.declared.module.FuncType.{FuncType}
use Rattle.wasm_bytes.specs.Outcome.{◌>>=◌, Fails}
use Rattle.wasm_bytes.specs.Piece.{Piece, begins_with}
use Rattle.wasm_bin.specs.Parts.{Function}
use Rattle.wasm_bin.specs.Body.{body_at}
use Rattle.wasm_bin.specs.Section.{custom_at, customs_at, params_of, each_body_at}
use Rattle.wasm_bytes.proofs.Steps.{with_front, with_front-more, with_front-nil, Fails-then, Fails-along}

pub customs_more : (n i : ℕ) (p q : Piece) (total : Result Piece ModFault) → i < n → begins_with 0 p ≡ true → custom_at p ≡ Ok q → customs_at (n - i) p ≡ total → customs_at (n - (i + 1)) q ≡ total
unfolding customs_at
customs_more n i p q total lt t h so_far =
    let k : n - i ≡ suc (n - (i + 1)) = omega arith in
    let one : customs_at (n - i) p ≡ customs_at (n - (i + 1)) q = rw (k, t, h) refl in
    sym one ∙ so_far

pub customs_stop : (n : ℕ) (p : Piece) (total : Result Piece ModFault) → begins_with 0 p ≡ false → customs_at n p ≡ total → total ≡ Ok p
unfolding customs_at
customs_stop zero p total t so_far = sym so_far
customs_stop (suc n) p total t so_far = sym so_far ∙ rw t refl

pub customs_end : (e : ModFault) (n i : ℕ) (p : Piece) (total : Result Piece ModFault) → i < n → begins_with 0 p ≡ true → Fails e (custom_at p) → customs_at (n - i) p ≡ total → Fails e total
unfolding customs_at
customs_end e n i p total lt t h so_far =
    let m = n - (i + 1) in
    let k : n - i ≡ suc m = omega arith in
    let one : customs_at (n - i) p ≡ (custom_at p >>= customs_at m) = rw (k, t) refl in
    Fails-along e (custom_at p >>= customs_at m) total (sym one ∙ so_far) (Fails-then e (custom_at p) (customs_at m) h)

pub customs_done : (n i : ℕ) (p : Piece) (total : Result Piece ModFault) → n ≤ i → customs_at (n - i) p ≡ total → total ≡ Ok p
unfolding customs_at
customs_done n i p total le so_far =
    let k : n - i ≡ 0 = omega arith in
    let one : customs_at (n - i) p ≡ Ok p = rw k refl in
    sym so_far ∙ one

pub bodies_start : (params : List ℕ) (p : Piece) → with_front [] (each_body_at params p) ≡ each_body_at params p
bodies_start params p = with_front-nil (each_body_at params p)

pub bodies_more : (front : List Function) (types : List FuncType) (funcs : List ℕ) (i params : ℕ) (p : Piece) (b : Function) (q : Piece) (total : Result (List Function × Piece) ModFault) → i < length funcs → params ≡ params_of types (get_or funcs i 0) → body_at params p ≡ Ok (b, q)
    → with_front front (each_body_at (map (params_of types) (drop i funcs)) p) ≡ total → with_front (front ++ b ∷ []) (each_body_at (map (params_of types) (drop (i + 1) funcs)) q) ≡ total
unfolding each_body_at
bodies_more front types funcs i params p b q total lt is h so_far =
    let rest = map (params_of types) (drop (i + 1) funcs) in
    let k : map (params_of types) (drop i funcs) ≡ params ∷ rest = rw (drop_more funcs i 0 lt, is) refl in
    let one : with_front front (each_body_at (map (params_of types) (drop i funcs)) p) ≡ with_front (front ++ b ∷ []) (each_body_at rest q) = rw (k, h) (with_front-more front b (each_body_at rest q)) in
    sym one ∙ so_far

pub bodies_end : (e : ModFault) (front : List Function) (types : List FuncType) (funcs : List ℕ) (i params : ℕ) (p : Piece) (total : Result (List Function × Piece) ModFault) → i < length funcs → params ≡ params_of types (get_or funcs i 0) → Fails e (body_at params p)
    → with_front front (each_body_at (map (params_of types) (drop i funcs)) p) ≡ total → Fails e total
unfolding each_body_at
bodies_end e front types funcs i params p total lt is h so_far =
    let rest = map (params_of types) (drop (i + 1) funcs) in
    let k : map (params_of types) (drop i funcs) ≡ params ∷ rest = rw (drop_more funcs i 0 lt, is) refl in
    let one : with_front front (each_body_at (params ∷ rest) p) ≡ total = rw k at so_far in
    Fails-along e (with_front front (each_body_at (params ∷ rest) p)) total one (Fails-then e (each_body_at (params ∷ rest) p) (λ x. Ok (front ++ x.0, x.1)) (Fails-then e (body_at params p) _ h))

pub bodies_done : (front : List Function) (types : List FuncType) (funcs : List ℕ) (i : ℕ) (p : Piece) (total : Result (List Function × Piece) ModFault) → length funcs ≤ i
    → with_front front (each_body_at (map (params_of types) (drop i funcs)) p) ≡ total → total ≡ Ok (front, p)
unfolding each_body_at
bodies_done front types funcs i p total le so_far =
    let k : map (params_of types) (drop i funcs) ≡ [] = rw (drop_all i funcs le) refl in
    let one : with_front front (each_body_at (map (params_of types) (drop i funcs)) p) ≡ Ok (front, p) = rw k (ap (λ xs. Ok (xs, p)) (append-nil front)) in
    sym so_far ∙ one
