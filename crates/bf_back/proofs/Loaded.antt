-- What the calls before the loop add.
use Rattle.std.proofs.Common.{◌≡◌, ℕ, suc, ◌+◌, ◌-◌, ◌*◌, ◌%◌, ◌^◌, ◌<◌, ◌≤◌, true, false, List, [], ◌∷◌, ◌++◌, length, map, take, get_or, refl, sym, ap, subst, ◌∙◌, arith, add-one, append-nil, append_assoc, length-append}
use Rattle.std.proofs.Math.Seq.{take-suc}
use Rattle.std.proofs.lemmas.List.{length-map, length-take, map-append}
use Rattle.mach_core.proofs.Lists.{take_none}
use Rattle.word24.specs.declared.word.Word.{Word}
use Rattle.word24.specs.Word.{number_of}
use Rattle.bf_lang.proofs.Partners.{balanced_append}
use Rattle.bf_tape.specs.Tape.{Tape, get, put}
use Rattle.bf_tape.specs.Does.{Does}
use Rattle.bf_tape.specs.Piece.{Piece, Adds, any, shifted, IsRoom, renamed}
use Rattle.bf_tape.proofs.Moves.{does_none, does_then, does_within}
use Rattle.bf_tape.proofs.Turning.{get_other}
use Rattle.bf_word.specs.Word.{with_word}
use Rattle.bf_word.proofs.Chain.{adds_then, adds_as}
use Rattle.bf_memory.specs.Walk.{framed}
use Rattle.bf_memory.proofs.Framed.{word_framed}
use Rattle.bf_choice.specs.Choice.{AreFree, AreBare, aimed, advanced}
use Rattle.bf_choice.proofs.Aimed.{aim_is_next}
use Rattle.bf_turn.proofs.Listed.{all_taken}
use Rattle.bf_back.specs.Data.{laid, back_by, blank, loaded, Begins}
use Rattle.bf_back.proofs.Laid.{laid_low}

laid_more : (w : ℕ) (vs : List ℕ) (v : ℕ) (s : Tape) → laid w (vs ++ v ∷ []) s ≡ with_word (laid w vs s) (w + 22 * length vs) v
laid_more w [] v s = let e : w ≡ w + 22 * 0 = omega arith in ap (λ c. with_word s c v) e
laid_more w (x ∷ vs) v s = let e : w + 22 + 22 * length vs ≡ w + 22 * suc (length vs) = omega arith in laid_more (w + 22) vs v (with_word s w x) ∙ ap (λ c. with_word (laid (w + 22) vs (with_word s w x)) c v) e

pub laid_of : {A : Type 0} (f : Tape → A) → ((s : Tape) (c v : ℕ) → f (put s c v) ≡ f s) → (w : ℕ) (vs : List ℕ) (s : Tape) → f (laid w vs s) ≡ f s
laid_of f same w [] s = refl
laid_of f same w (v ∷ vs) s = laid_of f same (w + 22) vs (with_word s w v) ∙ (same _ _ _ ∙ (same _ _ _ ∙ same _ _ _))

pub laid_framed : (k w c : ℕ) (vs : List ℕ) (s : Tape) → c ≡ k + w → laid w vs (framed s k) ≡ framed (laid c vs s) k
laid_framed k w c [] s e = refl
laid_framed k w c (v ∷ vs) s e = ap (laid (w + 22) vs) (sym (word_framed s k c w v e)) ∙ laid_framed k (w + 22) (c + 22) vs (with_word s c v) (omega (arith, e))

-- so many words
abbrev pub numbers_to : List Word → ℕ → List ℕ
numbers_to words i = map number_of (take i words)

pub words_start : (p : Piece) (words : List Word) → Adds p p any (λ input s. framed (laid 16 (numbers_to words 0) s) (22 * 0)) (0 * 2 ^ 14) (0 * 5120)
words_start p words = record {
  added = [];
  commands = sym (append-nil p.commands);
  short = omega arith;
  balanced = refl;
  does = λ input s is k.
      let e : s.base ≡ s.base + 22 * 0 = omega arith in
      let same : s ≡ framed (laid 16 (numbers_to words 0) s) (22 * 0) =
      ap (λ b. record { base = b; cells = s.cells; taken = s.taken; output = s.output }) e ∙ ap (λ ws. framed (laid 16 (map number_of ws) s) (22 * 0)) (sym (take_none words)) in
      subst (λ t. Does input [] p.cell s p.cell t (0 * 2 ^ 14)) same (does_within (0 * 2 ^ 14) (does_none input p.cell s) (omega arith));
}

pub words_more : {first now mid next : Piece} (words : List Word) (i : ℕ) (w : Word) → i < length words → w ≡ get_or words i w → Adds first now any (λ input s. framed (laid 16 (numbers_to words i) s) (22 * i)) (i * 2 ^ 14) (i * 5120)
    → Adds now mid any (λ input s. with_word s 16 (number_of w)) (2 ^ 13) (2 ^ 12) → Adds mid next (IsRoom 22 true) (λ input s. shifted s 22 true) 512 512
    → Adds first next any (λ input s. framed (laid 16 (numbers_to words (i + 1)) s) (22 * (i + 1))) ((i + 1) * 2 ^ 14) ((i + 1) * 5120)
words_more words i w within is a b e =
    let ws : List ℕ = numbers_to words i in
    let v : ℕ = number_of w in
    let long : length ws ≡ i = length-map (take i words) number_of ∙ (length-take i words ∙ omega arith) in
    let parts : numbers_to words (i + 1) ≡ ws ++ v ∷ [] =
    ap (map number_of) (ap (λ k. take k words) (add-one i) ∙ (take-suc words i w within ∙ ap (λ x. take i words ++ x ∷ []) (sym is))) ∙ map-append number_of (take i words) (w ∷ []) in
    adds_as (λ input s. framed (laid 16 (numbers_to words (i + 1)) s) (22 * (i + 1))) ((i + 1) * 2 ^ 14) ((i + 1) * 5120)
    (adds_then any (adds_then any a b (λ input s bytes k. (tt, tt))) e (λ input s bytes k. (tt, λ f. absurd (apart f))))
    (λ input s bytes k.
    let t : Tape = laid 16 ws s in
    let at : 16 + 22 * length ws ≡ 22 * i + 16 = omega (arith, long) in
    let set : with_word (framed t (22 * i)) 16 v ≡ framed (laid 16 (ws ++ v ∷ []) s) (22 * i) =
    sym (word_framed t (22 * i) (22 * i + 16) 16 v refl) ∙ ap (λ u. framed u (22 * i)) (ap (λ c. with_word t c v) (sym at) ∙ sym (laid_more 16 ws v s)) in
    let u : Tape = laid 16 (ws ++ v ∷ []) s in
    let base : u.base + 22 * i + 22 ≡ u.base + 22 * (i + 1) = omega arith in
    (k, ap (λ x. shifted x 22 true) set ∙ (ap (λ y. record { base = y; cells = u.cells; taken = u.taken; output = u.output }) base ∙ ap (λ x. framed (laid 16 x s) (22 * (i + 1))) (sym parts)))) (omega arith) (omega arith)
  where
    apart : true ≡ false → ⊥
    apart f = cc

pub words_done : {first now : Piece} (words : List Word) (i : ℕ) → length words ≤ i → i ≤ length words → Adds first now any (λ input s. framed (laid 16 (numbers_to words i) s) (22 * i)) (i * 2 ^ 14) (i * 5120)
    → Adds first now any (λ input s. framed (laid 16 (map number_of words) s) (22 * length words)) (length words * 2 ^ 14) (length words * 5120)
words_done words i hi lo a =
    let e : i ≡ length words = omega arith in
    let all : take i words ≡ words = all_taken i words hi in
    adds_as (λ input s. framed (laid 16 (map number_of words) s) (22 * length words)) (length words * 2 ^ 14) (length words * 5120) a
    (λ input s bytes k. (k, ap (λ ws. framed (laid 16 (map number_of ws) s) (22 * i)) all ∙ ap (λ j. framed (laid 16 (map number_of words) s) (22 * j)) e)) (omega (arith, e)) (omega (arith, e))

-- the way back
pub back_start : (p : Piece) (n : ℕ) → Adds p p (λ s. 22 * n ≤ s.base) (λ input s. back_by s (22 * 0)) (0 * 512) (0 * 512)
back_start p n = record {
  added = [];
  commands = sym (append-nil p.commands);
  short = omega arith;
  balanced = refl;
  does = λ input s is k.
      let e : s.base ≡ s.base - 22 * 0 = omega arith in
      subst (λ t. Does input [] p.cell s p.cell t (0 * 512)) (ap (λ b. record { base = b; cells = s.cells; taken = s.taken; output = s.output }) e) (does_within (0 * 512) (does_none input p.cell s) (omega arith));
}

pub back_more : {first now next : Piece} (n i : ℕ) → i < n → Adds first now (λ s. 22 * n ≤ s.base) (λ input s. back_by s (22 * i)) (i * 512) (i * 512) → Adds now next (IsRoom 22 false) (λ input s. shifted s 22 false) 512 512
    → Adds first next (λ s. 22 * n ≤ s.base) (λ input s. back_by s (22 * (i + 1))) ((i + 1) * 512) ((i + 1) * 512)
back_more n i lt a b =
    adds_as (λ input s. back_by s (22 * (i + 1))) ((i + 1) * 512) ((i + 1) * 512) (adds_then (λ s. 22 * n ≤ s.base) a b (λ input s bytes k. (k, λ f. omega (arith, k))))
    (λ input s bytes k. let base : s.base - 22 * i - 22 ≡ s.base - 22 * (i + 1) = omega (arith, k) in (k, ap (λ y. record { base = y; cells = s.cells; taken = s.taken; output = s.output }) base)) (omega arith) (omega arith)

pub back_done : {first now : Piece} (n i : ℕ) → n ≤ i → i ≤ n → Adds first now (λ s. 22 * n ≤ s.base) (λ input s. back_by s (22 * i)) (i * 512) (i * 512) → Adds first now (λ s. 22 * n ≤ s.base) (λ input s. back_by s (22 * n)) (n * 512) (n * 512)
back_done {first = first} {now = now} n i hi lo a = let e : i ≡ n = omega arith in subst (λ j. Adds first now (λ s. 22 * n ≤ s.base) (λ input s. back_by s (22 * j)) (j * 512) (j * 512)) e a

-- all the words, and home
pub lay_adds : {p0 p1 p2 p3 p4 p5 p6 p7 p8 : Piece} (words : List Word) (n : ℕ) → n ≡ length words → p1.cell ≡ 158 → p6.cell ≡ 0 → Adds p0 p1 any (λ input s. s) 255 255 → Adds p1 p2 (λ s. 0 ≤ s.base + p1.cell) (λ input s. renamed s p1.cell 0) 0 0
    → Adds p2 p3 any (λ input s. framed (laid 16 (map number_of words) s) (22 * length words)) (length words * 2 ^ 14) (length words * 5120) → Adds p3 p4 any (λ input s. s) 255 255
    → Adds p4 p5 (λ s. 22 * n ≤ s.base) (λ input s. back_by s (22 * n)) (n * 512) (n * 512) → Adds p5 p6 any (λ input s. s) 255 255 → Adds p6 p7 (λ s. 158 ≤ s.base + p6.cell) (λ input s. renamed s p6.cell 158) 0 0
    → Adds p7 p8 any (λ input s. s) 255 255 → Adds p0 p8 any (λ input s. laid 174 (map number_of words) s) (length words * 2 ^ 15 + 2 ^ 11) (length words * 5632 + 2 ^ 11)
lay_adds {p1 = p1} {p6 = p6} words n n_is out_cell home_cell a b c d e f g h =
    let ws : List ℕ = map number_of words in
    let same : (s : Tape) → laid 16 ws (renamed s p1.cell 0) ≡ framed (laid 174 ws s) 158 =
    λ s. let base : s.base + p1.cell - 0 ≡ s.base + 158 = omega (arith, out_cell) in
    ap (λ y. laid 16 ws (record { base = y; cells = s.cells; taken = s.taken; output = s.output })) base ∙ laid_framed 158 16 174 ws s refl in
    let base_of : (s : Tape) → (laid 16 ws (renamed s p1.cell 0)).base ≡ s.base + 158 = λ s. ap (λ (t : Tape). t.base) (same s) ∙ ap (λ y. y + 158) (laid_of (λ t. t.base) (λ t x v. refl) 174 ws s) in
    adds_as (λ input s. laid 174 ws s) (length words * 2 ^ 15 + 2 ^ 11) (length words * 5632 + 2 ^ 11)
    (adds_then any (adds_then any (adds_then any (adds_then any (adds_then any (adds_then any (adds_then any a b (λ input s bytes k. (tt, omega arith))) c (λ input s bytes k. (tt, tt))) d (λ input s bytes k. (tt, tt))) e (λ input s bytes k. (tt, omega (arith, base_of s, n_is))))
    f (λ input s bytes k. (tt, tt))) g (λ input s bytes k. (tt, omega (arith, base_of s, n_is, home_cell)))) h (λ input s bytes k. (tt, tt)))
    (λ input s bytes k.
    let u : Tape = laid 174 ws s in
    let back : u.base + 158 + 22 * length words - 22 * n + p6.cell - 158 ≡ u.base = omega (arith, n_is, home_cell) in
    (k, ap (λ t. renamed (back_by (framed t (22 * length words)) (22 * n)) p6.cell 158) (same s) ∙ ap (λ y. record { base = y; cells = u.cells; taken = u.taken; output = u.output }) back))
    (omega (arith, n_is)) (omega (arith, n_is))

-- the first choice
pub begins : {p0 p1 p2 p3 p4 p5 : Piece} (ws : List ℕ) (n d start : ℕ) → n ≡ length ws → d ≤ 14 → Adds p0 p1 any (λ input s. laid 174 ws s) (n * 2 ^ 15 + 2 ^ 11) (n * 5632 + 2 ^ 11) → Adds p1 p2 any (λ input s. put s 0 ((get s 0 + 1) % 2 ^ 8)) 512 512
    → Adds p2 p3 (AreFree d) (λ input s. aimed d start s) (d * 512) (d * 512) → Adds p3 p4 any (λ input s. advanced d s) (d * 2 ^ 18) (d * 1024) → Adds p4 p5 any (λ input s. s) 255 255 → Begins p0 p5 ws d start
begins {p0 = p0} {p2 = p2} {p5 = p5} ws n d start n_is few a b c e f =
    let t : Tape = loaded ws in
    let low : (k : ℕ) → 1 ≤ k → k < 174 → get t k ≡ 0 = λ k lo hi. get_other (laid 174 ws blank) 0 k 1 (omega arith) ∙ laid_low 174 ws blank k hi in
    let first : put (laid 174 ws blank) 0 ((get (laid 174 ws blank) 0 + 1) % 2 ^ 8) ≡ t = ap (λ v. put (laid 174 ws blank) 0 ((v + 1) % 2 ^ 8)) (laid_low 174 ws blank 0 (omega arith)) in
    let bare : AreBare d t = λ k lo hi. low k lo (omega (arith, few)) in
    let free : AreFree d t = λ i lt. low (3 * i + 3) (omega arith) (omega (arith, few)) in
    let upto = adds_then any a b (λ input s bytes k. (tt, tt)) in
    record {
      added = upto.added ++ c.added ++ e.added ++ f.added;
      commands = f.commands ∙ ap (λ xs. xs ++ f.added) (e.commands ∙ ap (λ xs. xs ++ e.added) (c.commands ∙ ap (λ xs. xs ++ c.added) upto.commands))
          ∙ (ap (λ xs. xs ++ e.added ++ f.added) (append_assoc p0.commands upto.added c.added) ∙ (ap (λ xs. xs ++ f.added) (append_assoc p0.commands (upto.added ++ c.added) e.added) ∙ append_assoc p0.commands (upto.added ++ c.added ++ e.added) f.added));
      balanced = balanced_append (upto.added ++ c.added ++ e.added) f.added (balanced_append (upto.added ++ c.added) e.added (balanced_append upto.added c.added upto.balanced c.balanced) e.balanced) f.balanced;
      short = omega (arith, few, n_is, length-append (upto.added ++ c.added ++ e.added) f.added, length-append (upto.added ++ c.added) e.added, length-append upto.added c.added, upto.short, c.short, e.short, f.short);
      does = λ input is.
          let one : Does input upto.added p0.cell blank p2.cell t (n * 2 ^ 15 + 2 ^ 11 + 512) = subst (λ u. Does input upto.added p0.cell blank p2.cell u (n * 2 ^ 15 + 2 ^ 11 + 512)) first (upto.does input blank is tt) in
          let all : Does input (upto.added ++ c.added ++ e.added ++ f.added) p0.cell blank p5.cell (advanced d (aimed d start t)) (length ws * 2 ^ 15 + 2 ^ 22) =
          does_then (length ws * 2 ^ 15 + 2 ^ 22) (does_then (n * 2 ^ 15 + 2 ^ 11 + 512 + d * 512 + d * 2 ^ 18) (does_then (n * 2 ^ 15 + 2 ^ 11 + 512 + d * 512) one (c.does input t is free) (omega arith)) (e.does input (aimed d start t) is tt) (omega arith))
          (f.does input (advanced d (aimed d start t)) is tt) (omega (arith, few, n_is)) in
          subst (λ u. Does input (upto.added ++ c.added ++ e.added ++ f.added) p0.cell blank p5.cell u (length ws * 2 ^ 15 + 2 ^ 22)) (aim_is_next d start t bare) all;
    }
