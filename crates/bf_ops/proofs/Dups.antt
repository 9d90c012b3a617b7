-- Copies of words in half the commands that `dup_word` tells.
use Rattle.std.proofs.Common.{◌≡◌, ◌≢◌, ℕ, suc, ◌+◌, ◌-◌, ◌*◌, ◌%◌, ◌^◌, ◌<◌, inl, inr, List, [], ◌∷◌, ◌++◌, Ok, refl, sym, ap, subst, ◌∙◌, arith, length-append}
use Rattle.bf_lang.specs.declared.command.Command.TheVariants.{Plus, Minus}
use Rattle.bf_lang.specs.Balance.{IsBalanced}
use Rattle.bf_lang.proofs.Partners.{balanced_append}
use Rattle.bf_lang.specs.Cells.{raised}
use Rattle.bf_tape.specs.Tape.{Tape, get, put}
use Rattle.bf_tape.specs.Does.{Does, Turns}
use Rattle.bf_tape.specs.Slots.{holding, AreApart}
use Rattle.bf_tape.specs.Piece.{Piece, joined, Adds, moved, doubled}
use Rattle.bf_tape.specs.Code.{goto_code, move_code, copy_body, dup_code}
use Rattle.bf_tape.proofs.Moves.{does_then, does_loop}
use Rattle.bf_tape.proofs.Slotted.{get_held, put_held, held}
use Rattle.bf_tape.proofs.Pieces.{by_bytes, counted, minus_at, plus_at, does_goto, does_move, balanced_goto, balanced_dup}
use Rattle.bf_tape.proofs.Turning.{get_other}
use Rattle.bf_tape.proofs.Added.{adds_of, length-many}
use Rattle.bf_word.specs.Word.{word_in, with_word, AreDistinct, IsOutside}
use Rattle.bf_word.specs.WordCode.{dup_word_code}
use Rattle.bf_word.proofs.Carried.{doubled_word}
use Rattle.bf_word.proofs.Chain.{adds_then, adds_as, adds_aside}

balanced_copy_body : (from to spare : ℕ) → IsBalanced (copy_body from to spare)
balanced_copy_body from to spare =
    balanced_append (Minus ∷ (goto_code from to ++ (Plus ∷ []) ++ goto_code to spare ++ (Plus ∷ []))) (goto_code spare from)
    (balanced_append (Minus ∷ (goto_code from to ++ (Plus ∷ []) ++ goto_code to spare)) (Plus ∷ [])
    (balanced_append (Minus ∷ (goto_code from to ++ (Plus ∷ []))) (goto_code to spare)
    (balanced_append (Minus ∷ goto_code from to) (Plus ∷ []) (balanced_append (Minus ∷ []) (goto_code from to) refl (balanced_goto from to)) refl)
    (balanced_goto to spare)) refl)
    (balanced_goto spare from)

does_dup_soon : (input : List ℕ) (h from to spare : ℕ) (s : Tape) → h < 256 → from < 256 → to < 256 → spare < 256 → from ≢ to → from ≢ spare → to ≢ spare → get s spare ≡ 0 → Does input (dup_code h from to spare) h s spare (doubled s from to) (2 ^ 19)
does_dup_soon input h from to spare s lh lf lt ls d1 d2 d3 none = by_bytes (balanced_dup h from to spare) (λ bytes.
    let x : ℕ = get s from in
    let y : ℕ = get s to in
    let lx : x < 2 ^ 8 = bytes (s.base + from) in
    let ly : y < 2 ^ 8 = bytes (s.base + to) in
    let ns : List ℕ = from ∷ to ∷ spare ∷ [] in
    let apart : AreApart ns = ((d1, (d2, tt)), ((d3, tt), (tt, tt))) in
    let is : holding s ns (x ∷ y ∷ get s spare ∷ []) ≡ s = held s ns in
    let v : ℕ → ℕ = λ n. (y + (x - n)) % 2 ^ 8 in
    let at : ℕ → Tape = λ n. holding s ns (n ∷ v n ∷ (x - n) ∷ []) in
    let turn : (n : ℕ) → n < x → Does input (copy_body from to spare) from (at (suc n)) from (at n) 1024 = λ n less.
    let w : ℕ = x - suc n in
    let e : raised (v (suc n)) ≡ v n = omega arith in
    let f : raised w ≡ x - n = omega arith in
    does_then 1024 (minus_at input s ns apart (suc n ∷ v (suc n) ∷ w ∷ []) 0 (omega arith) refl)
    (does_then 1022
    (does_then 700
    (does_then 600
    (does_then 300 (does_goto input from to (holding s ns (n ∷ v (suc n) ∷ w ∷ [])) 255 (omega arith))
    (subst (λ u. Does input (Plus ∷ []) to (holding s ns (n ∷ v (suc n) ∷ w ∷ [])) to (holding s ns (n ∷ u ∷ w ∷ [])) 1) e (plus_at input s ns apart (n ∷ v (suc n) ∷ w ∷ []) 1 (omega arith) refl)) (omega arith))
    (does_goto input to spare (holding s ns (n ∷ v n ∷ w ∷ [])) 255 (omega arith)) (omega arith))
    (subst (λ u. Does input (Plus ∷ []) spare (holding s ns (n ∷ v n ∷ w ∷ [])) spare (holding s ns (n ∷ v n ∷ u ∷ [])) 1) f (plus_at input s ns apart (n ∷ v n ∷ w ∷ []) 2 (omega arith) refl)) (omega arith))
    (does_goto input spare from (at n) 255 (omega arith)) (omega arith))
    (omega arith) in
    let turns : Turns input (copy_body from to spare) from (at x) (at 0) (x * 1025) = counted input (copy_body from to spare) from 1024 x at (λ n. get_held s ns (n ∷ v n ∷ (x - n) ∷ []) 0 apart (omega arith) refl) turn x (omega arith) in
    let first : at x ≡ s = (λ i. holding s ns (x ∷ start x y ly i ∷ none_left x (get s spare) none i ∷ [])) ∙ is in
    let s3 : Tape = at 0 in
    let move : Does input (move_code from spare from) from s3 spare (moved s3 spare from) (2 ^ 18) = does_move input from spare from s3 lf ls lf (λ e. d2 (sym e)) in
    let e3 : moved s3 spare from ≡ holding s ns (x ∷ v 0 ∷ 0 ∷ []) =
    ap (λ u. put (put s3 from u) spare 0) ((λ i. (get_held s ns (0 ∷ v 0 ∷ (x - 0) ∷ []) 0 apart (omega arith) refl i + get_held s ns (0 ∷ v 0 ∷ (x - 0) ∷ []) 2 apart (omega arith) refl i) % 2 ^ 8) ∙ omega arith)
    ∙ (ap (λ t. put t spare 0) (put_held s ns (0 ∷ v 0 ∷ (x - 0) ∷ []) 0 x apart (omega arith) refl) ∙ put_held s ns (x ∷ v 0 ∷ (x - 0) ∷ []) 2 0 apart (omega arith) refl) in
    let whole : v 0 ≡ (y + x) % 2 ^ 8 = omega arith in
    let e4 : holding s ns (x ∷ v 0 ∷ 0 ∷ []) ≡ doubled s from to =
    (λ i. holding s ns (x ∷ whole i ∷ sym none i ∷ [])) ∙ (sym (put_held s ns (x ∷ y ∷ get s spare ∷ []) 1 ((y + x) % 2 ^ 8) apart (omega arith) refl) ∙ ap (λ t. put t to ((y + x) % 2 ^ 8)) is) in
    let all : Turns input (copy_body from to spare) from s s3 (x * 1025) = subst (λ t. Turns input (copy_body from to spare) from t s3 (x * 1025)) first turns in
    subst (λ t. Does input (dup_code h from to spare) h s spare t (2 ^ 19)) (e3 ∙ e4)
    (does_then (2 ^ 19)
    (does_then (2 ^ 18) (does_goto input h from s 255 (omega arith)) (does_loop (balanced_copy_body from to spare) all) (omega arith))
    move (omega arith)))
  where
    start : (x y : ℕ) → y < 2 ^ 8 → (y + (x - x)) % 2 ^ 8 ≡ y
    start x y ly = omega arith

    none_left : (x z : ℕ) → z ≡ 0 → x - x ≡ z
    none_left x z e = omega arith

dup_soon : (p : Piece) (from to spare : ℕ) → p.cell < 256 → from < 256 → to < 256 → spare < 256 → from ≢ to → from ≢ spare → to ≢ spare
    → Adds p (joined p (dup_code p.cell from to spare) spare) (λ s. get s spare ≡ 0) (λ input s. doubled s from to) (2 ^ 19) 2048
dup_soon p from to spare lh lf lt ls a b c =
    adds_of p (dup_code p.cell from to spare) spare (λ s. get s spare ≡ 0) (λ input s. doubled s from to) (2 ^ 19) 2048 (simp (length-append, length-many) (omega arith)) (balanced_dup p.cell from to spare)
    (λ input s is k. does_dup_soon input p.cell from to spare s lh lf lt ls a b c k)

differ : (a b i : ℕ) → i < 3 → AreDistinct a b → a + i ≢ b + i
differ a b i li (inl h) = omega arith
differ a b i li (inr h) = omega arith

beside : (c w i : ℕ) → i < 3 → IsOutside c w → w + i ≢ c
beside c w i li (inl h) = omega arith
beside c w i li (inr h) = omega arith

first_differ : (a b : ℕ) → AreDistinct a b → a ≢ b
first_differ a b (inl h) = omega arith
first_differ a b (inr h) = omega arith

first_beside : (c w : ℕ) → IsOutside c w → w ≢ c
first_beside c w (inl h) = omega arith
first_beside c w (inr h) = omega arith

-- a word
pub dup_word_soon : (p : Piece) (from to spare : ℕ) → p.cell < 256 → from < 254 → to < 254 → spare < 256 → AreDistinct from to → IsOutside spare from → IsOutside spare to
    → Adds p (joined p (dup_word_code p.cell from to spare) spare) (λ s. (word_in s to ≡ 0) × (get s spare ≡ 0)) (λ input s. with_word s to (word_in s from)) (3 * 2 ^ 19) (3 * 2 ^ 11)
dup_word_soon p from to spare lp lf lt ls distinct out_from out_to =
    let K : Tape → Type 0 = λ s. (word_in s to ≡ 0) × (get s spare ≡ 0) in
    let p0 : Piece = record { commands = []; cell = p.cell } in
    let p1 : Piece = joined p0 (dup_code p.cell from to spare) spare in
    let p2 : Piece = joined p1 (dup_code spare (from + 1) (to + 1) spare) spare in
    let p3 : Piece = joined p2 (dup_code spare (from + 2) (to + 2) spare) spare in
    let a = dup_soon p0 from to spare lp (omega arith) (omega arith) ls (first_differ from to distinct) (first_beside spare from out_from) (first_beside spare to out_to) in
    let b = dup_soon p1 (from + 1) (to + 1) spare ls (omega arith) (omega arith) ls (differ from to 1 (omega arith) distinct) (beside spare from 1 (omega arith) out_from) (beside spare to 1 (omega arith) out_to) in
    let c = dup_soon p2 (from + 2) (to + 2) spare ls (omega arith) (omega arith) ls (differ from to 2 (omega arith) distinct) (beside spare from 2 (omega arith) out_from) (beside spare to 2 (omega arith) out_to) in
    let first : (s : Tape) → K s → get (doubled s from to) spare ≡ 0 = λ s k. get_other s to spare ((get s to + get s from) % 2 ^ 8) (first_beside spare to out_to) ∙ k.1 in
    let whole : Adds p0 p3 K (λ input s. with_word s to (word_in s from)) (3 * 2 ^ 19) (3 * 2 ^ 11) =
    adds_as (λ input s. with_word s to (word_in s from)) (3 * 2 ^ 19) (3 * 2 ^ 11)
    (adds_then K (adds_then K a b (λ input s bytes k. (k.1, first s k))) c
    (λ input s bytes k. (k, get_other (doubled s from to) (to + 1) spare ((get (doubled s from to) (to + 1) + get (doubled s from to) (from + 1)) % 2 ^ 8) (beside spare to 1 (omega arith) out_to) ∙ first s k)))
    (λ input s bytes k. (k, doubled_word s from to distinct bytes k.0)) (omega arith) (omega arith) in
    adds_aside {T = Unit {0}} {E = Unit {0}} {first = p0} {last = p3} (Ok tt) p (joined p (dup_word_code p.cell from to spare) spare) refl refl whole
