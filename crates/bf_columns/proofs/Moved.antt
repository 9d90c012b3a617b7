-- Moves between near cells, and loops that run once or not at all.
use Rattle.std.proofs.Common.{◌≡◌, ◌≢◌, ℕ, zero, suc, ◌+◌, ◌-◌, ◌*◌, ◌<◌, ◌≤◌, List, [], ◌∷◌, ◌++◌, refl, sym, ap, ◌∙◌, arith}
use Rattle.bf_lang.specs.declared.command.Command.{Command}
use Rattle.bf_lang.specs.declared.command.Command.TheVariants.{Plus, Minus}
use Rattle.bf_lang.specs.Balance.{IsBalanced}
use Rattle.bf_lang.specs.Cells.{raised, lowered}
use Rattle.bf_lang.proofs.Partners.{balanced_append}
use Rattle.bf_tape.specs.Tape.{Tape, get, put}
use Rattle.bf_tape.specs.Does.{Does, loop}
use Rattle.bf_tape.specs.Does.Turns.{Over, Turn}
use Rattle.bf_tape.specs.Code.{goto_code, carry_body, copy_body, copy_loop}
use Rattle.bf_tape.specs.Slots.{holding, AreApart}
use Rattle.bf_tape.proofs.Slotted.{get_held, held}
use Rattle.bf_tape.proofs.Moves.{does_loop, does_minus, does_within}
use Rattle.bf_tape.proofs.Turning.{get_put}
use Rattle.bf_tape.proofs.Pieces.{does_goto, counted, minus_at, plus_at, balanced_goto}
use Rattle.bf_columns.proofs.Tapes.{next, comes_to, goes_from, put_is}

-- so near are two cells
abbrev pub IsNear : ℕ → ℕ → Type 0
IsNear a b = (a - b) + (b - a) ≤ 10

near_goto : (input : List ℕ) (a b : ℕ) (s : Tape) → IsNear a b → Does input (goto_code a b) a s b s 10
near_goto input a b s near = does_goto input a b s 10 (omega arith)

pub balanced_carry : (a b : ℕ) → IsBalanced (carry_body Plus a b)
balanced_carry a b = balanced_append (Minus ∷ goto_code a b) (Plus ∷ goto_code b a) (balanced_append (Minus ∷ []) (goto_code a b) refl (balanced_goto a b)) (balanced_append (Plus ∷ []) (goto_code b a) refl (balanced_goto b a))

-- a cell goes to another
pub moved_to : (input : List ℕ) (s : Tape) (a b n m : ℕ) → a ≢ b → IsNear a b → get s a ≡ n → get s b ≡ m → n + m < 256 → Does input (loop (carry_body Plus a b)) a s a (put (put s b (m + n)) a 0) (n * 23 + 1)
moved_to input s a b n m differ near is_n is_m few =
    let ns : List ℕ = a ∷ b ∷ [] in
    let apart : AreApart ns = ((differ, tt), (tt, tt)) in
    let at : ℕ → Tape = λ k. holding s ns (k ∷ (m + (n - k)) ∷ []) in
    let turn : (k : ℕ) → k < n → Does input (carry_body Plus a b) a (at (suc k)) a (at k) 22 = λ k lt.
    let e : raised (m + (n - suc k)) ≡ m + (n - k) = omega arith in
    let t : Tape = holding s ns (k ∷ (m + (n - suc k)) ∷ []) in
    next (next (minus_at input s ns apart (suc k ∷ (m + (n - suc k)) ∷ []) 0 (omega arith) refl) (near_goto input a b t near))
    (next (comes_to (at k) (plus_at input s ns apart (k ∷ (m + (n - suc k)) ∷ []) 1 (omega arith) refl) (ap (λ v. holding s ns (k ∷ v ∷ [])) e)) (near_goto input b a (at k) (omega arith))) in
    let start : at n ≡ s = (let e : m + (n - n) ≡ m = omega arith in (λ i. holding s ns (sym is_n i ∷ (e ∙ sym is_m) i ∷ [])) ∙ held s ns) in
    let end : at 0 ≡ put (put s b (m + n)) a 0 = (let e : m + (n - 0) ≡ m + n = omega arith in ap (λ v. put (put s b v) a 0) e) in
    comes_to (put (put s b (m + n)) a 0) (goes_from s (does_loop (balanced_carry a b) (counted input (carry_body Plus a b) a 22 n at (λ k. get_held s ns (k ∷ (m + (n - k)) ∷ []) 0 apart (omega arith) refl) turn n (omega arith))) start) end

-- a cell goes to two others
pub dealt_to : (input : List ℕ) (s : Tape) (a b c n m l : ℕ) → a ≢ b → a ≢ c → b ≢ c → IsNear a b → IsNear b c → IsNear a c → get s a ≡ n → get s b ≡ m → get s c ≡ l → n + m < 256 → n + l < 256
    → Does input (copy_loop a b c) a s a (put (put (put s c (l + n)) b (m + n)) a 0) (n * 34 + 1)
dealt_to input s a b c n m l d1 d2 d3 ab bc ac is_n is_m is_l few few' =
    let ns : List ℕ = a ∷ b ∷ c ∷ [] in
    let apart : AreApart ns = ((d1, (d2, tt)), ((d3, tt), (tt, tt))) in
    let at : ℕ → Tape = λ k. holding s ns (k ∷ (m + (n - k)) ∷ (l + (n - k)) ∷ []) in
    let balanced : IsBalanced (copy_body a b c) =
    balanced_append (Minus ∷ (goto_code a b ++ (Plus ∷ []) ++ goto_code b c ++ (Plus ∷ []))) (goto_code c a)
    (balanced_append (Minus ∷ (goto_code a b ++ (Plus ∷ []) ++ goto_code b c)) (Plus ∷ [])
    (balanced_append (Minus ∷ (goto_code a b ++ (Plus ∷ []))) (goto_code b c)
    (balanced_append (Minus ∷ goto_code a b) (Plus ∷ []) (balanced_append (Minus ∷ []) (goto_code a b) refl (balanced_goto a b)) refl) (balanced_goto b c)) refl) (balanced_goto c a) in
    let turn : (k : ℕ) → k < n → Does input (copy_body a b c) a (at (suc k)) a (at k) 33 = λ k lt.
    let v : ℕ = m + (n - suc k) in
    let w : ℕ = l + (n - suc k) in
    let e : raised v ≡ m + (n - k) = omega arith in
    let f : raised w ≡ l + (n - k) = omega arith in
    let t : Tape = holding s ns (k ∷ v ∷ w ∷ []) in
    let u : Tape = holding s ns (k ∷ (m + (n - k)) ∷ w ∷ []) in
    next (minus_at input s ns apart (suc k ∷ v ∷ w ∷ []) 0 (omega arith) refl)
    (next (next (next (next (near_goto input a b t ab)
    (comes_to u (plus_at input s ns apart (k ∷ v ∷ w ∷ []) 1 (omega arith) refl) (ap (λ x. holding s ns (k ∷ x ∷ w ∷ [])) e)))
    (near_goto input b c u bc))
    (comes_to (at k) (plus_at input s ns apart (k ∷ (m + (n - k)) ∷ w ∷ []) 2 (omega arith) refl) (ap (λ x. holding s ns (k ∷ (m + (n - k)) ∷ x ∷ [])) f)))
    (near_goto input c a (at k) (omega arith))) in
    let start : at n ≡ s = (let e : m + (n - n) ≡ m = omega arith in let f : l + (n - n) ≡ l = omega arith in (λ i. holding s ns (sym is_n i ∷ (e ∙ sym is_m) i ∷ (f ∙ sym is_l) i ∷ [])) ∙ held s ns) in
    let end : at 0 ≡ put (put (put s c (l + n)) b (m + n)) a 0 = (let e : m + (n - 0) ≡ m + n = omega arith in let f : l + (n - 0) ≡ l + n = omega arith in λ i. put (put (put s c (f i)) b (e i)) a 0) in
    comes_to (put (put (put s c (l + n)) b (m + n)) a 0) (goes_from s (does_loop balanced (counted input (copy_body a b c) a 33 n at (λ k. get_held s ns (k ∷ (m + (n - k)) ∷ (l + (n - k)) ∷ []) 0 apart (omega arith) refl) turn n (omega arith))) start) end

-- a loop that runs once, and one that doesn't run
pub once : {input : List ℕ} {body : List Command} {h : ℕ} {s s' : Tape} {n : ℕ} → get s h ≢ 0 → Does input body h s h s' n → get s' h ≡ 0 → Does input (loop body) h s h s' (n + 2)
once {s = s} {s' = s'} {n = n} on does off = does_within (n + 2) (does_loop does.balanced (Turn s s' s' n 0 on does (Over s' off))) (omega arith)

pub skipped : {input : List ℕ} {h : ℕ} {s : Tape} (body : List Command) → IsBalanced body → get s h ≡ 0 → Does input (loop body) h s h s 1
skipped {s = s} body b off = does_within 1 (does_loop b (Over s off)) (omega arith)

-- a cell of 0 or 1 becomes 0
pub clear_small : (input : List ℕ) (h v : ℕ) (s : Tape) → get s h ≡ v → v < 2 → Does input (loop (Minus ∷ [])) h s h (put s h 0) 3
clear_small input h zero s is lt = does_within 3 (comes_to (put s h 0) (skipped (Minus ∷ []) refl is) (sym (put_is s h 0 is))) (omega arith)
clear_small input h (suc v) s is lt =
    let e : suc v ≡ 1 = omega arith in
    once (λ z. absurd (omega (arith, is, z))) (comes_to (put s h 0) (does_minus input h s) (ap (λ w. put s h (lowered w)) (is ∙ e))) (get_put s h 0)
