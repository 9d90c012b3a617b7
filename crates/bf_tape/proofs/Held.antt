-- The pieces on a tape of which some cells are named in a list.
use Rattle.std.proofs.Common.{◌≡◌, ◌≢◌, ℕ, zero, suc, ◌+◌, ◌-◌, ◌%◌, ◌^◌, ◌<◌, List, [], ◌∷◌, length, refl, sym, ap, subst, ◌∙◌, arith}
use Rattle.bf_lang.specs.declared.command.Command.{Command}
use Rattle.bf_lang.specs.Balance.{IsBalanced}
use Rattle.bf_tape.specs.Tape.{Tape, get, put}
use Rattle.bf_tape.specs.Does.{Does}
use Rattle.bf_tape.specs.Slots.{holding, AreApart, nth, with_nth}
use Rattle.bf_tape.specs.Code.{clear_code, add_code, move_code, drain_code, dup_code, copy_code, if_code}
use Rattle.bf_tape.proofs.Slotted.{get_held, put_held}
use Rattle.bf_tape.specs.Piece.{moved, drained, doubled, copied}
use Rattle.bf_tape.proofs.Pieces.{does_clear, does_move, does_drain, does_dup, does_copy, does_add}
use Rattle.bf_tape.proofs.Turning.{does_this, does_other}

length_with : (vs : List ℕ) (i v : ℕ) → length (with_nth vs i v) ≡ length vs
length_with [] i v = refl
length_with (x ∷ vs) zero v = omega arith
length_with (x ∷ vs) (suc i) v = omega (arith, length_with vs i v)

-- is this a cell of the list, below 256
pub record At (ns : List ℕ) (i : ℕ) : Type 0 where
  pub there : i < length ns
  pub named : nth ns i < 256

module _ (input : List ℕ) (s : Tape) (ns : List ℕ) (apart : AreApart ns) where
  pub other_at : (vs us : List ℕ) (h i j n : ℕ) (this other : List Command) → h < 256 → At ns i → At ns j → nth ns i ≢ nth ns j → IsBalanced this → IsBalanced other → length vs ≡ length ns → length us ≡ length ns → nth vs i ≡ 0 → nth us j ≡ 1
      → Does input other 0 (holding s ns (with_nth vs j 1)) 0 (holding s ns us) n
      → Does input (if_code h (nth ns i) (nth ns j) this other) h (holding s ns vs) (nth ns j) (holding s ns (with_nth us j 0)) (n + 8192)
  other_at vs us h i j n this other lh ai aj d b b' same same' off kept does =
      let t : Tape = holding s ns vs in
      let u : Tape = holding s ns us in
      let first : Does input other 0 (put t (nth ns j) 1) 0 u n = subst (λ x. Does input other 0 x 0 u n) (sym (put_held s ns vs j 1 apart aj.there same)) does in
      subst (λ x. Does input (if_code h (nth ns i) (nth ns j) this other) h t (nth ns j) x (n + 8192)) (put_held s ns us j 0 apart aj.there same')
      (does_other input h (nth ns i) (nth ns j) this other lh ai.named aj.named d b b' t u n (get_held s ns vs i apart ai.there same ∙ off) first (get_held s ns us j apart aj.there same' ∙ kept))

pub move_at : (input : List ℕ) (s : Tape) (ns : List ℕ) (apart : AreApart ns) (vs : List ℕ) (h i j : ℕ) → h < 256 → At ns i → At ns j → nth ns i ≢ nth ns j → length vs ≡ length ns
    → Does input (move_code h (nth ns i) (nth ns j)) h (holding s ns vs) (nth ns i) (holding s ns (with_nth (with_nth vs j ((nth vs j + nth vs i) % 2 ^ 8)) i 0)) (2 ^ 18)
move_at input s ns apart vs h i j lh ai aj d same =
    let t : Tape = holding s ns vs in
    let sum : (get t (nth ns j) + get t (nth ns i)) % 2 ^ 8 ≡ (nth vs j + nth vs i) % 2 ^ 8 = λ k. (get_held s ns vs j apart aj.there same k + get_held s ns vs i apart ai.there same k) % 2 ^ 8 in
    let v : ℕ = (nth vs j + nth vs i) % 2 ^ 8 in
    let e : moved t (nth ns i) (nth ns j) ≡ holding s ns (with_nth (with_nth vs j v) i 0) =
    ap (λ x. put (put t (nth ns j) x) (nth ns i) 0) sum
    ∙ (ap (λ u. put u (nth ns i) 0) (put_held s ns vs j v apart aj.there same)
    ∙ put_held s ns (with_nth vs j v) i 0 apart ai.there (length_with vs j v ∙ same)) in
    subst (λ u. Does input (move_code h (nth ns i) (nth ns j)) h t (nth ns i) u (2 ^ 18)) e (does_move input h (nth ns i) (nth ns j) t lh ai.named aj.named d)

pub clear_at : (input : List ℕ) (s : Tape) (ns : List ℕ) (apart : AreApart ns) (vs : List ℕ) (h i : ℕ) → h < 256 → At ns i → length vs ≡ length ns
    → Does input (clear_code h (nth ns i)) h (holding s ns vs) (nth ns i) (holding s ns (with_nth vs i 0)) 1024
clear_at input s ns apart vs h i lh ai same =
    subst (λ u. Does input (clear_code h (nth ns i)) h (holding s ns vs) (nth ns i) u 1024) (put_held s ns vs i 0 apart ai.there same) (does_clear input h (nth ns i) (holding s ns vs) lh ai.named)

pub drain_at : (input : List ℕ) (s : Tape) (ns : List ℕ) (apart : AreApart ns) (vs : List ℕ) (h i j : ℕ) → h < 256 → At ns i → At ns j → nth ns i ≢ nth ns j → length vs ≡ length ns
    → Does input (drain_code h (nth ns i) (nth ns j)) h (holding s ns vs) (nth ns i) (holding s ns (with_nth (with_nth vs j ((nth vs j + (2 ^ 8 - nth vs i)) % 2 ^ 8)) i 0)) (2 ^ 18)
drain_at input s ns apart vs h i j lh ai aj d same =
    let t : Tape = holding s ns vs in
    let sum : (get t (nth ns j) + (2 ^ 8 - get t (nth ns i))) % 2 ^ 8 ≡ (nth vs j + (2 ^ 8 - nth vs i)) % 2 ^ 8 = λ k. (get_held s ns vs j apart aj.there same k + (2 ^ 8 - get_held s ns vs i apart ai.there same k)) % 2 ^ 8 in
    let v : ℕ = (nth vs j + (2 ^ 8 - nth vs i)) % 2 ^ 8 in
    let e : drained t (nth ns i) (nth ns j) ≡ holding s ns (with_nth (with_nth vs j v) i 0) =
    ap (λ x. put (put t (nth ns j) x) (nth ns i) 0) sum
    ∙ (ap (λ u. put u (nth ns i) 0) (put_held s ns vs j v apart aj.there same)
    ∙ put_held s ns (with_nth vs j v) i 0 apart ai.there (length_with vs j v ∙ same)) in
    subst (λ u. Does input (drain_code h (nth ns i) (nth ns j)) h t (nth ns i) u (2 ^ 18)) e (does_drain input h (nth ns i) (nth ns j) t lh ai.named aj.named d)

pub dup_at : (input : List ℕ) (s : Tape) (ns : List ℕ) (apart : AreApart ns) (vs : List ℕ) (h i j k : ℕ) → h < 256 → At ns i → At ns j → At ns k → nth ns i ≢ nth ns j → nth ns i ≢ nth ns k → nth ns j ≢ nth ns k → length vs ≡ length ns → nth vs k ≡ 0
    → Does input (dup_code h (nth ns i) (nth ns j) (nth ns k)) h (holding s ns vs) (nth ns k) (holding s ns (with_nth vs j ((nth vs j + nth vs i) % 2 ^ 8))) (2 ^ 20)
dup_at input s ns apart vs h i j k lh ai aj ak d1 d2 d3 same none =
    let t : Tape = holding s ns vs in
    let sum : (get t (nth ns j) + get t (nth ns i)) % 2 ^ 8 ≡ (nth vs j + nth vs i) % 2 ^ 8 = λ q. (get_held s ns vs j apart aj.there same q + get_held s ns vs i apart ai.there same q) % 2 ^ 8 in
    let e : doubled t (nth ns i) (nth ns j) ≡ holding s ns (with_nth vs j ((nth vs j + nth vs i) % 2 ^ 8)) =
    ap (λ x. put t (nth ns j) x) sum ∙ put_held s ns vs j ((nth vs j + nth vs i) % 2 ^ 8) apart aj.there same in
    subst (λ u. Does input (dup_code h (nth ns i) (nth ns j) (nth ns k)) h t (nth ns k) u (2 ^ 20)) e
    (does_dup input h (nth ns i) (nth ns j) (nth ns k) t lh ai.named aj.named ak.named d1 d2 d3 (get_held s ns vs k apart ak.there same ∙ none))

pub add_at : (input : List ℕ) (s : Tape) (ns : List ℕ) (apart : AreApart ns) (vs : List ℕ) (h i v : ℕ) → h < 256 → At ns i → v < 256 → length vs ≡ length ns
    → Does input (add_code h (nth ns i) v) h (holding s ns vs) (nth ns i) (holding s ns (with_nth vs i ((nth vs i + v) % 2 ^ 8))) 512
add_at input s ns apart vs h i v lh ai lv same =
    let t : Tape = holding s ns vs in
    let e : put t (nth ns i) ((get t (nth ns i) + v) % 2 ^ 8) ≡ holding s ns (with_nth vs i ((nth vs i + v) % 2 ^ 8)) =
    ap (λ x. put t (nth ns i) ((x + v) % 2 ^ 8)) (get_held s ns vs i apart ai.there same) ∙ put_held s ns vs i ((nth vs i + v) % 2 ^ 8) apart ai.there same in
    subst (λ u. Does input (add_code h (nth ns i) v) h t (nth ns i) u 512) e (does_add input h (nth ns i) v t lh ai.named lv)
