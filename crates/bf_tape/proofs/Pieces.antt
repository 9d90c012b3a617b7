-- What the pieces do.
use Rattle.std.proofs.Common.{◌≡◌, ◌≢◌, ℕ, zero, suc, ◌+◌, ◌-◌, ◌*◌, ◌%◌, ◌^◌, ◌<◌, ◌≤◌, Bool, true, false, cond, nat_lt, List, [], ◌∷◌, ◌++◌, length, refl, sym, ap, subst, ◌∙◌, arith, add-zero, suc-mul}
use Rattle.bf_lang.specs.declared.command.Command.{Command}
use Rattle.bf_lang.specs.declared.command.Command.TheVariants.{Right, Left, Plus, Minus, Read, Write}
use Rattle.bf_lang.specs.Cells.{raised, lowered}
use Rattle.bf_lang.specs.Balance.{IsBalanced}
use Rattle.bf_lang.proofs.Partners.{balanced_append, balanced_loop}
use Rattle.bf_tape.specs.Tape.{Tape, get, put}
use Rattle.bf_tape.specs.Does.{Does, loop, Turns}
use Rattle.bf_tape.specs.Does.Turns.{Over, Turn}
use Rattle.bf_tape.specs.Slots.{holding, AreApart, nth, with_nth}
use Rattle.mach_core.specs.Rule.{IsInput}
use Rattle.bf_tape.specs.Piece.{moved, drained, doubled, copied, taken_in, written_out}
use Rattle.bf_tape.specs.Code.{many, goto_code, clear_code, more_code, add_code, read_code, write_code, carry_body, carry_code, move_code, drain_code, copy_body, copy_loop, dup_code, copy_code}
use Rattle.bf_tape.proofs.Moves.{does_right, does_left, does_plus, does_minus, does_read, does_write, does_none, does_then, does_within, does_loop}
use Rattle.bf_tape.proofs.Slotted.{get_held, put_held, all_of, held}

-- the bytes of a tape may be used
pub by_bytes : {input : List ℕ} {cs : List Command} {h h' : ℕ} {s s' : Tape} {n : ℕ} → IsBalanced cs → (((p : ℕ) → s.cells p < 2 ^ 8) → Does input cs h s h' s' n) → Does input cs h s h' s' n
by_bytes b f = record { balanced = b; lands = λ code rest m at shows. (f shows.bytes).lands code rest m at shows }

pub does_rights : (input : List ℕ) (n h : ℕ) (s : Tape) → Does input (many n Right) h s (h + n) s n
does_rights input zero h s = subst (λ k. Does input [] h s k s 0) (sym (add-zero h)) (does_none input h s)
does_rights input (suc n) h s =
    let e : h + 1 + n ≡ h + suc n = omega arith in
    subst (λ k. Does input (many (suc n) Right) h s k s (suc n)) e (does_then (suc n) (does_right input h s) (does_rights input n (h + 1) s) (omega arith))

pub does_lefts : (input : List ℕ) (n h : ℕ) (s : Tape) → Does input (many n Left) (h + n) s h s n
does_lefts input zero h s = subst (λ k. Does input [] k s h s 0) (sym (add-zero h)) (does_none input h s)
does_lefts input (suc n) h s =
    let e : h + n + 1 ≡ h + suc n = omega arith in
    subst (λ k. Does input (many (suc n) Left) k s h s (suc n)) e (does_then (suc n) (does_left input (h + n) s) (does_lefts input n h s) (omega arith))

-- the head goes to another cell
pub does_goto : (input : List ℕ) (h c : ℕ) (s : Tape) (most : ℕ) → c - h + (h - c) ≤ most → Does input (goto_code h c) h s c s most
does_goto input h c s most few =
    let d : ℕ = c - h in
    let e : c + (h - c) ≡ h + d = omega arith in
    does_then most (does_rights input d h s) (subst (λ k. Does input (many (h - c) Left) k s c s (h - c)) e (does_lefts input (h - c) c s)) few

-- turns that count a cell down
pub counted : (input : List ℕ) (body : List Command) (h most top : ℕ) (at : ℕ → Tape) → ((n : ℕ) → get (at n) h ≡ n) → ((n : ℕ) → n < top → Does input body h (at (suc n)) h (at n) most) → (n : ℕ) → n ≤ top → Turns input body h (at n) (at 0) (n * (most + 1))
counted input body h most top at is turn zero le = let e : 0 ≡ 0 * (most + 1) = omega arith in subst (λ k. Turns input body h (at 0) (at 0) k) e (Over (at 0) (is 0))
counted input body h most top at is turn (suc n) le =
    let e : most + 1 + n * (most + 1) ≡ suc n * (most + 1) = omega (arith, suc-mul n (most + 1)) in
    subst (λ k. Turns input body h (at (suc n)) (at 0) k) e (Turn (at (suc n)) (at n) (at 0) most (n * (most + 1)) (λ z. absurd (omega (arith, is (suc n)))) (turn n (omega arith)) (counted input body h most top at is turn n (omega arith)))

-- brackets of the pieces
pub balanced_many : (n : ℕ) (c : Command) → IsBalanced (c ∷ []) → IsBalanced (many n c)
balanced_many zero c b = refl
balanced_many (suc n) c b = balanced_append (c ∷ []) (many n c) b (balanced_many n c b)

pub balanced_goto : (h c : ℕ) → IsBalanced (goto_code h c)
balanced_goto h c = balanced_append (many (c - h) Right) (many (h - c) Left) (balanced_many (c - h) Right refl) (balanced_many (h - c) Left refl)

pub balanced_clear : (h c : ℕ) → IsBalanced (clear_code h c)
balanced_clear h c = balanced_append (goto_code h c) (loop (Minus ∷ [])) (balanced_goto h c) refl

balanced_chosen : (b : Bool) (v : ℕ) → IsBalanced (cond b (many (256 - v) Minus) (many v Plus))
balanced_chosen true v = balanced_many (256 - v) Minus refl
balanced_chosen false v = balanced_many v Plus refl

pub balanced_add : (h c v : ℕ) → IsBalanced (add_code h c v)
balanced_add h c v = balanced_append (goto_code h c) (more_code v) (balanced_goto h c) (balanced_chosen (nat_lt 128 v) v)

pub balanced_read : (h c : ℕ) → IsBalanced (read_code h c)
balanced_read h c = balanced_append (goto_code h c) (Read ∷ []) (balanced_goto h c) refl

pub balanced_write : (h c : ℕ) → IsBalanced (write_code h c)
balanced_write h c = balanced_append (goto_code h c) (Write ∷ []) (balanced_goto h c) refl

balanced_carry_body : (sign : Command) → IsBalanced (sign ∷ []) → (from to : ℕ) → IsBalanced (carry_body sign from to)
balanced_carry_body sign b from to = balanced_append (Minus ∷ goto_code from to) (sign ∷ goto_code to from) (balanced_append (Minus ∷ []) (goto_code from to) refl (balanced_goto from to)) (balanced_append (sign ∷ []) (goto_code to from) b (balanced_goto to from))

balanced_carry : (sign : Command) → IsBalanced (sign ∷ []) → (h from to : ℕ) → IsBalanced (carry_code sign h from to)
balanced_carry sign b h from to = balanced_append (goto_code h from) (loop (carry_body sign from to)) (balanced_goto h from) (balanced_loop (carry_body sign from to) (balanced_carry_body sign b from to))

pub balanced_move : (h from to : ℕ) → IsBalanced (move_code h from to)
balanced_move = balanced_carry Plus refl

pub balanced_drain : (h from to : ℕ) → IsBalanced (drain_code h from to)
balanced_drain = balanced_carry Minus refl

balanced_copy_body : (from to spare : ℕ) → IsBalanced (copy_body from to spare)
balanced_copy_body from to spare =
    balanced_append (Minus ∷ (goto_code from to ++ (Plus ∷ []) ++ goto_code to spare ++ (Plus ∷ []))) (goto_code spare from)
    (balanced_append (Minus ∷ (goto_code from to ++ (Plus ∷ []) ++ goto_code to spare)) (Plus ∷ [])
    (balanced_append (Minus ∷ (goto_code from to ++ (Plus ∷ []))) (goto_code to spare)
    (balanced_append (Minus ∷ goto_code from to) (Plus ∷ []) (balanced_append (Minus ∷ []) (goto_code from to) refl (balanced_goto from to)) refl)
    (balanced_goto to spare)) refl)
    (balanced_goto spare from)

pub balanced_dup : (h from to spare : ℕ) → IsBalanced (dup_code h from to spare)
balanced_dup h from to spare =
    balanced_append (goto_code h from ++ copy_loop from to spare) (move_code from spare from)
    (balanced_append (goto_code h from) (copy_loop from to spare) (balanced_goto h from) (balanced_loop (copy_body from to spare) (balanced_copy_body from to spare)))
    (balanced_move from spare from)

pub balanced_copy : (h from to spare : ℕ) → IsBalanced (copy_code h from to spare)
balanced_copy h from to spare =
    balanced_append (clear_code h to ++ clear_code to spare) (dup_code spare from to spare)
    (balanced_append (clear_code h to) (clear_code to spare) (balanced_clear h to) (balanced_clear to spare))
    (balanced_dup spare from to spare)

-- pieces on named cells
module _ (input : List ℕ) (s : Tape) (ns : List ℕ) (apart : AreApart ns) where
  pub minus_at : (vs : List ℕ) (i : ℕ) → i < length ns → length vs ≡ length ns → Does input (Minus ∷ []) (nth ns i) (holding s ns vs) (nth ns i) (holding s ns (with_nth vs i (lowered (nth vs i)))) 1
  minus_at vs i lt same =
      let t = holding s ns vs in
      let e : put t (nth ns i) (lowered (get t (nth ns i))) ≡ holding s ns (with_nth vs i (lowered (nth vs i))) =
      ap (λ v. put t (nth ns i) (lowered v)) (get_held s ns vs i apart lt same) ∙ put_held s ns vs i (lowered (nth vs i)) apart lt same in
      subst (λ u. Does input (Minus ∷ []) (nth ns i) t (nth ns i) u 1) e (does_minus input (nth ns i) t)

  pub plus_at : (vs : List ℕ) (i : ℕ) → i < length ns → length vs ≡ length ns → Does input (Plus ∷ []) (nth ns i) (holding s ns vs) (nth ns i) (holding s ns (with_nth vs i (raised (nth vs i)))) 1
  plus_at vs i lt same =
      let t = holding s ns vs in
      let e : put t (nth ns i) (raised (get t (nth ns i))) ≡ holding s ns (with_nth vs i (raised (nth vs i))) =
      ap (λ v. put t (nth ns i) (raised v)) (get_held s ns vs i apart lt same) ∙ put_held s ns vs i (raised (nth vs i)) apart lt same in
      subst (λ u. Does input (Plus ∷ []) (nth ns i) t (nth ns i) u 1) e (does_plus input (nth ns i) t)

-- a cell becomes 0
pub does_clear : (input : List ℕ) (h c : ℕ) (s : Tape) → h < 256 → c < 256 → Does input (clear_code h c) h s c (put s c 0) 1024
does_clear input h c s lh lc = by_bytes (balanced_clear h c) (λ bytes.
    let at : ℕ → Tape = λ n. holding s (c ∷ []) (n ∷ []) in
    let turns : Turns input (Minus ∷ []) c (at (get s c)) (at 0) (get s c * 2) =
    counted input (Minus ∷ []) c 1 256 at (λ n. get_held s (c ∷ []) (n ∷ []) 0 (tt, tt) (omega arith) refl) (λ n lt. minus_at input s (c ∷ []) (tt, tt) (suc n ∷ []) 0 (omega arith) refl) (get s c) (omega (arith, bytes (s.base + c))) in
    let all : Turns input (Minus ∷ []) c s (at 0) (get s c * 2) = subst (λ t. Turns input (Minus ∷ []) c t (at 0) (get s c * 2)) (held s (c ∷ [])) turns in
    does_then 1024 (does_goto input h c s 255 (omega arith)) (does_loop refl all) (omega (arith, bytes (s.base + c))))

does_pluses : (input : List ℕ) (n c : ℕ) (s : Tape) → get s c < 2 ^ 8 → Does input (many n Plus) c s c (put s c ((get s c + n) % 2 ^ 8)) n
does_pluses input zero c s lt =
    let e : s ≡ put s c ((get s c + 0) % 2 ^ 8) = sym (held s (c ∷ [])) ∙ ap (λ v. put s c v) (omega arith) in
    subst (λ t. Does input [] c s c t 0) e (does_none input c s)
does_pluses input (suc n) c s lt =
    let x : ℕ = get s c in
    let t : Tape = put s c (raised x) in
    let got : get t c ≡ raised x = get_held s (c ∷ []) (raised x ∷ []) 0 (tt, tt) (omega arith) refl in
    let rest = does_pluses input n c t (omega (arith, got)) in
    let v : (get t c + n) % 2 ^ 8 ≡ (x + suc n) % 2 ^ 8 = omega (arith, got) in
    let e : put t c ((get t c + n) % 2 ^ 8) ≡ put s c ((x + suc n) % 2 ^ 8) = put_held s (c ∷ []) (raised x ∷ []) 0 ((get t c + n) % 2 ^ 8) (tt, tt) (omega arith) refl ∙ ap (λ v. put s c v) v in
    subst (λ u. Does input (many (suc n) Plus) c s c u (suc n)) e (does_then (suc n) (does_plus input c s) rest (omega arith))

lowered_is : (v : ℕ) → v < 2 ^ 8 → lowered v ≡ (v + 255) % 2 ^ 8
lowered_is zero lt = refl
lowered_is (suc n) lt = omega arith

does_minuses : (input : List ℕ) (n c : ℕ) (s : Tape) → get s c < 2 ^ 8 → Does input (many n Minus) c s c (put s c ((get s c + 255 * n) % 2 ^ 8)) n
does_minuses input zero c s lt =
    let e : s ≡ put s c ((get s c + 255 * 0) % 2 ^ 8) = sym (held s (c ∷ [])) ∙ ap (λ v. put s c v) (omega arith) in
    subst (λ t. Does input [] c s c t 0) e (does_none input c s)
does_minuses input (suc n) c s lt =
    let x : ℕ = get s c in
    let t : Tape = put s c (lowered x) in
    let got : get t c ≡ lowered x = get_held s (c ∷ []) (lowered x ∷ []) 0 (tt, tt) (omega arith) refl in
    let low : lowered x ≡ (x + 255) % 2 ^ 8 = lowered_is x lt in
    let rest = does_minuses input n c t (omega (arith, got, low)) in
    let v : (get t c + 255 * n) % 2 ^ 8 ≡ (x + 255 * suc n) % 2 ^ 8 = omega (arith, got, low) in
    let e : put t c ((get t c + 255 * n) % 2 ^ 8) ≡ put s c ((x + 255 * suc n) % 2 ^ 8) = put_held s (c ∷ []) (lowered x ∷ []) 0 ((get t c + 255 * n) % 2 ^ 8) (tt, tt) (omega arith) refl ∙ ap (λ v. put s c v) v in
    subst (λ u. Does input (many (suc n) Minus) c s c u (suc n)) e (does_then (suc n) (does_minus input c s) rest (omega arith))

-- so much more in a cell
does_more : (input : List ℕ) (c v : ℕ) (s : Tape) → v < 256 → get s c < 2 ^ 8 → Does input (more_code v) c s c (put s c ((get s c + v) % 2 ^ 8)) 256
does_more input c v s lv lt =
    elim (nat_lt 128 v) as (λ b. Does input (cond b (many (256 - v) Minus) (many v Plus)) c s c (put s c ((get s c + v) % 2 ^ 8)) 256) [
      | true ↦
          let e : (get s c + 255 * (256 - v)) % 2 ^ 8 ≡ (get s c + v) % 2 ^ 8 = omega arith in
          does_within 256 (subst (λ w. Does input (many (256 - v) Minus) c s c (put s c w) (256 - v)) e (does_minuses input (256 - v) c s lt)) (omega arith)
      | false ↦ does_within 256 (does_pluses input v c s lt) (omega arith)
    ]

-- a cell is raised
pub does_add : (input : List ℕ) (h c v : ℕ) (s : Tape) → h < 256 → c < 256 → v < 256 → Does input (add_code h c v) h s c (put s c ((get s c + v) % 2 ^ 8)) 512
does_add input h c v s lh lc lv = by_bytes (balanced_add h c v) (λ bytes. does_then 512 (does_goto input h c s 255 (omega arith)) (does_more input c v s lv (bytes (s.base + c))) (omega arith))

-- the next byte of the input in a cell, and a cell written
pub does_take : (input : List ℕ) (h c : ℕ) (s : Tape) → h < 256 → c < 256 → IsInput input → Does input (read_code h c) h s c (taken_in input s c) 256
does_take input h c s lh lc is_input = does_then 256 (does_goto input h c s 255 (omega arith)) (does_read input c s is_input) (omega arith)

pub does_put : (input : List ℕ) (h c : ℕ) (s : Tape) → h < 256 → c < 256 → Does input (write_code h c) h s c (written_out s c) 256
does_put input h c s lh lc = does_then 256 (does_goto input h c s 255 (omega arith)) (does_write input c s) (omega arith)

-- a cell is taken down, and another changed by a command as often: `v n` is the other where n is left
does_carry : (input : List ℕ) (sign : Command) → IsBalanced (sign ∷ []) → (h from to : ℕ) (s : Tape) (v : ℕ → ℕ) → h < 256 → from < 256 → to < 256 → (differ : from ≢ to) → get s from < 2 ^ 8 → v (get s from) ≡ get s to
    → ((n : ℕ) → n < get s from → Does input (sign ∷ []) to (holding s (from ∷ to ∷ []) (n ∷ v (suc n) ∷ [])) to (holding s (from ∷ to ∷ []) (n ∷ v n ∷ [])) 1)
    → Does input (carry_code sign h from to) h s from (put (put s to (v 0)) from 0) (2 ^ 18)
does_carry input sign bs h from to s v lh lf lt differ few start step =
    let x : ℕ = get s from in
    let ns : List ℕ = from ∷ to ∷ [] in
    let apart : AreApart ns = ((differ, tt), (tt, tt)) in
    let at : ℕ → Tape = λ n. holding s ns (n ∷ v n ∷ []) in
    let turn : (n : ℕ) → n < x → Does input (carry_body sign from to) from (at (suc n)) from (at n) 512 = λ n less.
    does_then 512 (minus_at input s ns apart (suc n ∷ v (suc n) ∷ []) 0 (omega arith) refl)
    (does_then 511 (does_goto input from to (holding s ns (n ∷ v (suc n) ∷ [])) 255 (omega arith))
    (does_then 256 (step n less) (does_goto input to from (at n) 255 (omega arith)) (omega arith))
    (omega arith))
    (omega arith) in
    let b : IsBalanced (carry_body sign from to) = balanced_carry_body sign bs from to in
    let turns : Turns input (carry_body sign from to) from (at x) (at 0) (x * 513) = counted input (carry_body sign from to) from 512 x at (λ n. get_held s ns (n ∷ v n ∷ []) 0 apart (omega arith) refl) turn x (omega arith) in
    let first : at x ≡ s = ap (λ w. holding s ns (x ∷ w ∷ [])) start ∙ held s ns in
    let last : at 0 ≡ put (put s to (v 0)) from 0 = refl in
    let all : Turns input (carry_body sign from to) from s (put (put s to (v 0)) from 0) (x * 513) = subst (λ t. Turns input (carry_body sign from to) from t (at 0) (x * 513)) first turns in
    does_then (2 ^ 18) (does_goto input h from s 255 (omega arith)) (does_loop b all) (omega (arith, few))

-- a cell is added to another
pub does_move : (input : List ℕ) (h from to : ℕ) (s : Tape) → h < 256 → from < 256 → to < 256 → from ≢ to → Does input (move_code h from to) h s from (moved s from to) (2 ^ 18)
does_move input h from to s lh lf lt differ = by_bytes (balanced_move h from to) (λ bytes.
    let x : ℕ = get s from in
    let y : ℕ = get s to in
    let small : x < 2 ^ 8 = bytes (s.base + from) in
    let v : ℕ → ℕ = λ n. (y + (x - n)) % 2 ^ 8 in
    let start : v x ≡ y = omega (arith, bytes (s.base + to)) in
    let whole : v 0 ≡ (y + x) % 2 ^ 8 = omega arith in
    let ns : List ℕ = from ∷ to ∷ [] in
    let apart : AreApart ns = ((differ, tt), (tt, tt)) in
    subst (λ w. Does input (move_code h from to) h s from (put (put s to w) from 0) (2 ^ 18)) whole
    (does_carry input Plus refl h from to s v lh lf lt differ small start (λ n less.
    let e : raised (v (suc n)) ≡ v n = omega arith in
    subst (λ w. Does input (Plus ∷ []) to (holding s ns (n ∷ v (suc n) ∷ [])) to (holding s ns (n ∷ w ∷ [])) 1) e (plus_at input s ns apart (n ∷ v (suc n) ∷ []) 1 (omega arith) refl))))

-- a cell is taken from another
pub does_drain : (input : List ℕ) (h from to : ℕ) (s : Tape) → h < 256 → from < 256 → to < 256 → from ≢ to → Does input (drain_code h from to) h s from (drained s from to) (2 ^ 18)
does_drain input h from to s lh lf lt differ = by_bytes (balanced_drain h from to) (λ bytes.
    let x : ℕ = get s from in
    let y : ℕ = get s to in
    let small : x < 2 ^ 8 = bytes (s.base + from) in
    let v : ℕ → ℕ = λ n. (y + 255 * (x - n)) % 2 ^ 8 in
    let start : v x ≡ y = omega (arith, bytes (s.base + to)) in
    let whole : v 0 ≡ (y + (2 ^ 8 - x)) % 2 ^ 8 = omega arith in
    let ns : List ℕ = from ∷ to ∷ [] in
    let apart : AreApart ns = ((differ, tt), (tt, tt)) in
    subst (λ w. Does input (drain_code h from to) h s from (put (put s to w) from 0) (2 ^ 18)) whole
    (does_carry input Minus refl h from to s v lh lf lt differ small start (λ n less.
    let low : v (suc n) < 2 ^ 8 = omega arith in
    let e : lowered (v (suc n)) ≡ v n = lowered_is (v (suc n)) low ∙ omega arith in
    subst (λ w. Does input (Minus ∷ []) to (holding s ns (n ∷ v (suc n) ∷ [])) to (holding s ns (n ∷ w ∷ [])) 1) e (minus_at input s ns apart (n ∷ v (suc n) ∷ []) 1 (omega arith) refl))))

-- a cell is added to another and kept
pub does_dup : (input : List ℕ) (h from to spare : ℕ) (s : Tape) → h < 256 → from < 256 → to < 256 → spare < 256 → from ≢ to → from ≢ spare → to ≢ spare → get s spare ≡ 0 → Does input (dup_code h from to spare) h s spare (doubled s from to) (2 ^ 20)
does_dup input h from to spare s lh lf lt ls d1 d2 d3 none = by_bytes (balanced_dup h from to spare) (λ bytes.
    let x : ℕ = get s from in
    let y : ℕ = get s to in
    let lx : x < 2 ^ 8 = bytes (s.base + from) in
    let ly : y < 2 ^ 8 = bytes (s.base + to) in
    let ns : List ℕ = from ∷ to ∷ spare ∷ [] in
    let apart : AreApart ns = ((d1, (d2, tt)), ((d3, tt), (tt, tt))) in
    let is : holding s ns (x ∷ y ∷ get s spare ∷ []) ≡ s = held s ns in
    let v : ℕ → ℕ = λ n. (y + (x - n)) % 2 ^ 8 in
    let at : ℕ → Tape = λ n. holding s ns (n ∷ v n ∷ (x - n) ∷ []) in
    let turn : (n : ℕ) → n < x → Does input (copy_body from to spare) from (at (suc n)) from (at n) 1024 = λ n less.
    let w : ℕ = x - suc n in
    let e : raised (v (suc n)) ≡ v n = omega arith in
    let f : raised w ≡ x - n = omega arith in
    does_then 1024 (minus_at input s ns apart (suc n ∷ v (suc n) ∷ w ∷ []) 0 (omega arith) refl)
    (does_then 1022
    (does_then 700
    (does_then 600
    (does_then 300 (does_goto input from to (holding s ns (n ∷ v (suc n) ∷ w ∷ [])) 255 (omega arith))
    (subst (λ u. Does input (Plus ∷ []) to (holding s ns (n ∷ v (suc n) ∷ w ∷ [])) to (holding s ns (n ∷ u ∷ w ∷ [])) 1) e (plus_at input s ns apart (n ∷ v (suc n) ∷ w ∷ []) 1 (omega arith) refl)) (omega arith))
    (does_goto input to spare (holding s ns (n ∷ v n ∷ w ∷ [])) 255 (omega arith)) (omega arith))
    (subst (λ u. Does input (Plus ∷ []) spare (holding s ns (n ∷ v n ∷ w ∷ [])) spare (holding s ns (n ∷ v n ∷ u ∷ [])) 1) f (plus_at input s ns apart (n ∷ v n ∷ w ∷ []) 2 (omega arith) refl)) (omega arith))
    (does_goto input spare from (at n) 255 (omega arith)) (omega arith))
    (omega arith) in
    let turns : Turns input (copy_body from to spare) from (at x) (at 0) (x * 1025) = counted input (copy_body from to spare) from 1024 x at (λ n. get_held s ns (n ∷ v n ∷ (x - n) ∷ []) 0 apart (omega arith) refl) turn x (omega arith) in
    let first : at x ≡ s = (λ i. holding s ns (x ∷ start x y ly i ∷ none_left x (get s spare) none i ∷ [])) ∙ is in
    let s3 : Tape = at 0 in
    let move : Does input (move_code from spare from) from s3 spare (moved s3 spare from) (2 ^ 18) = does_move input from spare from s3 lf ls lf (λ e. d2 (sym e)) in
    let e3 : moved s3 spare from ≡ holding s ns (x ∷ v 0 ∷ 0 ∷ []) =
    ap (λ u. put (put s3 from u) spare 0) ((λ i. (get_held s ns (0 ∷ v 0 ∷ (x - 0) ∷ []) 0 apart (omega arith) refl i + get_held s ns (0 ∷ v 0 ∷ (x - 0) ∷ []) 2 apart (omega arith) refl i) % 2 ^ 8) ∙ omega arith)
    ∙ (ap (λ t. put t spare 0) (put_held s ns (0 ∷ v 0 ∷ (x - 0) ∷ []) 0 x apart (omega arith) refl) ∙ put_held s ns (x ∷ v 0 ∷ (x - 0) ∷ []) 2 0 apart (omega arith) refl) in
    let whole : v 0 ≡ (y + x) % 2 ^ 8 = omega arith in
    let e4 : holding s ns (x ∷ v 0 ∷ 0 ∷ []) ≡ doubled s from to =
    (λ i. holding s ns (x ∷ whole i ∷ sym none i ∷ [])) ∙ (sym (put_held s ns (x ∷ y ∷ get s spare ∷ []) 1 ((y + x) % 2 ^ 8) apart (omega arith) refl) ∙ ap (λ t. put t to ((y + x) % 2 ^ 8)) is) in
    let all : Turns input (copy_body from to spare) from s s3 (x * 1025) = subst (λ t. Turns input (copy_body from to spare) from t s3 (x * 1025)) first turns in
    subst (λ t. Does input (dup_code h from to spare) h s spare t (2 ^ 20)) (e3 ∙ e4)
    (does_then (2 ^ 20)
    (does_then (2 ^ 19) (does_goto input h from s 255 (omega arith)) (does_loop (balanced_copy_body from to spare) all) (omega arith))
    move (omega arith)))
  where
    start : (x y : ℕ) → y < 2 ^ 8 → (y + (x - x)) % 2 ^ 8 ≡ y
    start x y ly = omega arith

    none_left : (x z : ℕ) → z ≡ 0 → x - x ≡ z
    none_left x z e = omega arith

-- a cell is set to another
pub does_copy : (input : List ℕ) (h from to spare : ℕ) (s : Tape) → h < 256 → from < 256 → to < 256 → spare < 256 → from ≢ to → from ≢ spare → to ≢ spare → Does input (copy_code h from to spare) h s spare (copied s from to spare) (2 ^ 21)
does_copy input h from to spare s lh lf lt ls d1 d2 d3 = by_bytes (balanced_copy h from to spare) (λ bytes.
    let x : ℕ = get s from in
    let lx : x < 2 ^ 8 = bytes (s.base + from) in
    let ns : List ℕ = from ∷ to ∷ spare ∷ [] in
    let apart : AreApart ns = ((d1, (d2, tt)), ((d3, tt), (tt, tt))) in
    let is : holding s ns (all_of s ns) ≡ s = held s ns in
    let s1 : Tape = put s to 0 in
    let s2 : Tape = put s1 spare 0 in
    let e2 : s2 ≡ holding s ns (x ∷ 0 ∷ 0 ∷ []) =
    ap (λ t. put (put t to 0) spare 0) (sym is) ∙ (ap (λ t. put t spare 0) (put_held s ns (all_of s ns) 1 0 apart (omega arith) refl) ∙ put_held s ns (x ∷ 0 ∷ get s spare ∷ []) 2 0 apart (omega arith) refl) in
    let spare_zero : get s2 spare ≡ 0 = get_held s1 (spare ∷ []) (0 ∷ []) 0 (tt, tt) (omega arith) refl in
    let from_is : get s2 from ≡ x = ap (λ t. get t from) e2 ∙ get_held s ns (x ∷ 0 ∷ 0 ∷ []) 0 apart (omega arith) refl in
    let to_is : get s2 to ≡ 0 = ap (λ t. get t to) e2 ∙ get_held s ns (x ∷ 0 ∷ 0 ∷ []) 1 apart (omega arith) refl in
    let sum : (get s2 to + get s2 from) % 2 ^ 8 ≡ x = (λ i. (to_is i + from_is i) % 2 ^ 8) ∙ omega arith in
    let e3 : doubled s2 from to ≡ copied s from to spare =
    (λ i. put (e2 i) to (sum i)) ∙ (put_held s ns (x ∷ 0 ∷ 0 ∷ []) 1 x apart (omega arith) refl
    ∙ sym (ap (λ t. put (put t to x) spare 0) (sym is) ∙ (ap (λ t. put t spare 0) (put_held s ns (all_of s ns) 1 x apart (omega arith) refl) ∙ put_held s ns (x ∷ x ∷ get s spare ∷ []) 2 0 apart (omega arith) refl))) in
    subst (λ t. Does input (copy_code h from to spare) h s spare t (2 ^ 21)) e3
    (does_then (2 ^ 21)
    (does_then 2048 (does_clear input h to s lh lt) (does_clear input to spare s1 lt ls) (omega arith))
    (does_dup input spare from to spare s2 ls lf lt ls d1 d2 d3 spare_zero) (omega arith)))
