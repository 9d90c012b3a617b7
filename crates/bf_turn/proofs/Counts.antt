-- A word counted down, number by number.
use Rattle.std.proofs.Common.{◌≡◌, ◌≢◌, ℕ, zero, suc, ◌+◌, ◌-◌, ◌*◌, ◌/◌, ◌%◌, ◌^◌, ◌<◌, ◌≤◌, inl, inr, Bool, true, false, nat_lt, cond, List, [], ◌∷◌, ◌++◌, length, take, get_or, slice_index, refl, sym, ap, subst, ◌∙◌, arith, add-one, append-nil, append_assoc, length-append}
use Rattle.std.proofs.Math.Seq.{take-suc}
use Rattle.std.proofs.lemmas.List.{get_or_append_left, get_or-append_right, get_or_past}
use Rattle.std.proofs.Math.Nat.{zero-div}
use Rattle.std.proofs.lemmas.List.{length-take}
use Rattle.mach_core.proofs.Lists.{take_none}
use Rattle.std.proofs.lemmas.Bool.{ltb-true, ltb-false}
use Rattle.mach_core.specs.Rule.{IsInput}
use Rattle.bf_lang.proofs.Partners.{balanced_append}
use Rattle.bf_tape.specs.Tape.{Tape, get, put}
use Rattle.bf_tape.specs.Does.{Does}
use Rattle.bf_tape.specs.Piece.{Piece, Adds, Times, any}
use Rattle.bf_tape.specs.Piece.Counts.{Over, Turn}
use Rattle.bf_tape.proofs.Moves.{does_none, does_then, does_within}
use Rattle.bf_tape.proofs.Pieces.{by_bytes}
use Rattle.bf_tape.proofs.Turning.{get_put, put_same}
use Rattle.bf_word.specs.Word.{word_in, with_word, lowered_once, IsClear, IsCounter}
use Rattle.bf_word.proofs.Words.{put_put, cell_kept, word_set, set_again, set_same, bytes_of}
use Rattle.bf_word.proofs.Scratch.{clear_set}
use Rattle.bf_word.proofs.Chain.{adds_then, adds_as}
use Rattle.bf_choice.specs.Choice.{AreFree, aimed}
use Rattle.bf_choice.proofs.Aimed.{aimed_get}
use Rattle.bf_turn.specs.Lookup.{IsCounted, IsCounting, counted_once, counted, LooksUp}
use Rattle.bf_turn.proofs.Beside.{aimed_word}
use Rattle.bf_turn.proofs.Listed.{all_taken}

-- a body by itself, from a cell to itself
pub around : {first mid last : Piece} {k : Tape → Type 0} {e : List ℕ → Tape → Tape} {m l : ℕ} (cell : ℕ) → first ≡ record { commands = []; cell = cell } → last.cell ≡ cell → Adds first mid k e m l → Adds mid last any (λ input s. s) 255 255
    → ((input : List ℕ) (s : Tape) → IsInput input → k s → Does input last.commands cell s cell (e input s) (m + 255)) × (length last.commands ≤ l + 255)
around {first = first} {mid = mid} {last = last} {k = k} {e = e} {m = m} {l = l} cell from home a b =
    let code : last.commands ≡ a.added ++ b.added = b.commands ∙ ap (λ xs. xs ++ b.added) (a.commands ∙ ap (λ (p : Piece). p.commands ++ a.added) from) in (
      (λ input s is kind.
          subst (λ y. Does input last.commands cell s y (e input s) (m + 255)) home
          (subst (λ y. Does input last.commands y s last.cell (e input s) (m + 255)) (ap (λ p. p.cell) from)
          (subst (λ xs. Does input xs first.cell s last.cell (e input s) (m + 255)) (sym code) (does_then (m + 255) (a.does input s is kind) (b.does input (e input s) is tt) (omega arith))))),
      omega (arith, ap length code, length-append a.added b.added, a.short, b.short),
    )

-- once
module _ {p mid new body : Piece} (d n : ℕ) (few : d ≤ 14) (lower : Adds p mid (IsCounter 114) (λ input s. lowered_once 114 s) 512 512) (times : Times mid new body 123) (at : new.cell ≡ 123)
    (aims : (input : List ℕ) (s : Tape) → IsInput input → AreFree d s → Does input body.commands 123 s 123 (aimed d n s) (d * 512 + 255)) (long : length body.commands ≤ d * 512 + 255) where
  abbrev less : Tape → Tape
  less s = with_word s 114 ((word_in s 114 + (2 ^ 24 - 1)) % 2 ^ 24)

  borrow_free : (s : Tape) → IsCounting d s → get (less s) 123 ≡ 0
  borrow_free s k = cell_kept s 114 ((word_in s 114 + (2 ^ 24 - 1)) % 2 ^ 24) 123 (inr (omega arith)) ∙ k.counter 123 (omega arith) (omega arith)

  still_free : (s : Tape) → IsCounting d s → word_in s 114 ≡ 0 → AreFree d (less s)
  still_free s k z = λ i lt. cell_kept s 114 ((word_in s 114 + (2 ^ 24 - 1)) % 2 ^ 24) (3 * i + 3) (inl (omega arith)) ∙ k.free z i lt

  runs_by : (input : List ℕ) (s : Tape) → IsInput input → IsCounting d s → (b : Bool) → nat_lt (word_in s 114) 1 ≡ b → Does input times.added mid.cell (put (less s) 123 (cond b 1 0)) new.cell (cond b (aimed d n (less s)) (less s)) (d * 512 + 769)
  runs_by input s is k true e =
      let t : Tape = less s in
      let u : Tape = put t 123 1 in
      let low : word_in s 114 < 1 = ltb-true (word_in s 114) 1 e in
      let cleared : put u 123 0 ≡ t = put_put t 123 1 0 ∙ put_same t 123 0 (borrow_free s k) in
      let zero_there : get (aimed d n t) 123 ≡ 0 = aimed_get d n t 123 (omega arith) ∙ borrow_free s k in
      subst (λ y. Does input times.added mid.cell u y (aimed d n t) (d * 512 + 769)) (sym at)
      (does_within (d * 512 + 769) (times.does input u (aimed d n t) (d * 512 + 255 + 2 + 0) is
      (Turn u (aimed d n t) (aimed d n t) (d * 512 + 255) 0 0 (get_put t 123 1) (subst (λ x. Does input body.commands 123 x 123 (aimed d n t) (d * 512 + 255)) (sym cleared) (aims input t is (still_free s k (omega arith)))) (Over (aimed d n t) zero_there))) (omega arith))
  runs_by input s is k false e =
      let t : Tape = less s in
      let same : put t 123 0 ≡ t = put_same t 123 0 (borrow_free s k) in
      subst (λ u. Does input times.added mid.cell u new.cell t (d * 512 + 769)) (sym same)
      (subst (λ y. Does input times.added mid.cell t y t (d * 512 + 769)) (sym at) (does_within (d * 512 + 769) (times.does input t t 0 is (Over t (borrow_free s k))) (omega arith)))

  pub once_adds : Adds p new (IsCounting d) (λ input s. counted_once d n s) (2 ^ 14) 8704
  once_adds = record {
    added = lower.added ++ times.added;
    commands = times.commands ∙ (ap (λ xs. xs ++ times.added) lower.commands ∙ append_assoc p.commands lower.added times.added);
    short = omega (arith, length-append lower.added times.added, lower.short, times.short, long);
    balanced = balanced_append lower.added times.added lower.balanced times.balanced;
    does = λ input s is k. does_then (2 ^ 14) (lower.does input s is k.counter) (runs_by input s is k (nat_lt (word_in s 114) 1) refl) (omega arith);
  }

-- the word that is left after some numbers
next_left : (x i : ℕ) → ((x + i * 16777215) % 16777216 + 16777215) % 16777216 ≡ (x + (i + 1) * 16777215) % 16777216
next_left x i = omega arith

zero_left : (x i : ℕ) → x < 16777216 → i < 16777216 → (x + i * 16777215) % 16777216 ≡ 0 → x ≡ i
zero_left x i lx li z = omega arith

none_left : (x i : ℕ) → x < 16777216 → i < 16777216 → x ≡ i → (x + i * 16777215) % 16777216 ≡ 0
none_left x i lx li e = omega arith

-- the numbers so far
index_here : (ns : List ℕ) (i n x : ℕ) → i < length ns → n ≡ get_or ns i n → x ≡ i → slice_index (take (i + 1) ns) x ≡ n
index_here ns i n x within is at =
    let long : length (take i ns) ≡ i = length-take i ns ∙ omega arith in
    let parts : take (i + 1) ns ≡ take i ns ++ n ∷ [] = ap (λ k. take k ns) (add-one i) ∙ (take-suc ns i n within ∙ ap (λ v. take i ns ++ v ∷ []) (sym is)) in
    let gone : x - i ≡ 0 = omega arith in
    ap (λ xs. slice_index xs x) parts ∙ (get_or-append_right (take i ns) (n ∷ []) i x 0 long (omega arith) ∙ ap (λ k. slice_index (n ∷ []) k) gone)

index_there : (ns : List ℕ) (i n x : ℕ) → i < length ns → n ≡ get_or ns i n → x ≢ i → slice_index (take (i + 1) ns) x ≡ slice_index (take i ns) x
index_there ns i n x within is differ =
    let long : length (take i ns) ≡ i = length-take i ns ∙ omega arith in
    let parts : take (i + 1) ns ≡ take i ns ++ n ∷ [] = ap (λ k. take k ns) (add-one i) ∙ (take-suc ns i n within ∙ ap (λ v. take i ns ++ v ∷ []) (sym is)) in
    ap (λ xs. slice_index xs x) parts
    ∙ elim (nat_lt x i) as (λ t. nat_lt x i ≡ t → slice_index (take i ns ++ n ∷ []) x ≡ slice_index (take i ns) x) [
      | true ↦ λ e. let lt : x < i = ltb-true x i e in get_or_append_left (take i ns) (n ∷ []) 0 x (omega (arith, long))
      | false ↦ λ e.
          let ge : i ≤ x = ltb-false x i e in
          get_or_past (take i ns ++ n ∷ []) x 0 (omega (arith, long, length-append (take i ns) (n ∷ []))) ∙ sym (get_or_past (take i ns) x 0 (omega (arith, long)))
    ] refl

index_past : (ns : List ℕ) (i x : ℕ) → i < length ns → x ≡ i → slice_index (take i ns) x ≡ 0
index_past ns i x within at = let long : length (take i ns) ≡ i = length-take i ns ∙ omega arith in get_or_past (take i ns) x 0 (omega (arith, long))

-- aiming at 0 is nothing
pub aimed_none : (d : ℕ) (s : Tape) → AreFree d s → aimed d 0 s ≡ s
aimed_none zero s free = refl
aimed_none (suc d) s free =
    let v : 0 / 2 ^ d % 2 ≡ 0 = ap (λ k. k % 2) (zero-div (2 ^ d)) in
    ap (λ k. put (aimed d 0 s) (3 * d + 3) k) v ∙ (put_same (aimed d 0 s) (3 * d + 3) 0 (aimed_get d 0 s (3 * d + 3) (omega arith) ∙ free d (omega arith)) ∙ aimed_none d s (λ i lt. free i (omega arith)))

word_aimed : (d n : ℕ) (s : Tape) (w : ℕ) → 3 * d < w → word_in (aimed d n s) w ≡ word_in s w
word_aimed d n s w h = λ i. aimed_get d n s w h i + 256 * aimed_get d n s (w + 1) (omega arith) i + 65536 * aimed_get d n s (w + 2) (omega arith) i

-- after some numbers
module _ (d : ℕ) (few : d ≤ 14) (ns : List ℕ) (i n : ℕ) (within : i < length ns) (is : n ≡ get_or ns i n) (short : length ns ≤ 2 ^ 22) (s : Tape) (bytes : (c : ℕ) → s.cells c < 2 ^ 8) (k : IsCounted d s) where
  abbrev x : ℕ
  x = word_in s 114

  x_below : x < 16777216
  x_below = (bytes_of s 114 bytes).below

  long : length (take i ns) ≡ i
  long = length-take i ns ∙ omega arith

  long_more : length (take (i + 1) ns) ≡ i + 1
  long_more = length-take (i + 1) ns ∙ omega arith

  abbrev y : ℕ
  y = (x + length (take i ns) * 16777215) % 16777216

  y_is : y ≡ (x + i * 16777215) % 16777216
  y_is = ap (λ j. (x + j * 16777215) % 16777216) long

  abbrev u : Tape
  u = counted d (take i ns) s

  free_with : (v : ℕ) → AreFree d (with_word s 114 v)
  free_with v = λ j lt. cell_kept s 114 v (3 * j + 3) (inl (omega arith)) ∙ k.free j lt

  word_there : word_in u 114 ≡ y
  word_there = word_aimed d (slice_index (take i ns) x) (with_word s 114 y) 114 (omega arith) ∙ word_set s 114 y (omega arith)

  pub counting : IsCounting d u
  counting = record {
    counter = λ c lo hi. aimed_get d (slice_index (take i ns) x) (with_word s 114 y) c (omega arith) ∙ (cell_kept s 114 y c (inr (omega arith)) ∙ k.counter c lo hi);
    free = λ z.
        let at : x ≡ i = zero_left x i x_below (omega arith) (sym y_is ∙ (sym word_there ∙ z)) in
        let none : slice_index (take i ns) x ≡ 0 = index_past ns i x within at in
        subst (λ t. AreFree d t) (sym (ap (λ j. aimed d j (with_word s 114 y)) none ∙ aimed_none d (with_word s 114 y) (free_with y))) (free_with y);
  }

  abbrev y' : ℕ
  y' = (x + length (take (i + 1) ns) * 16777215) % 16777216

  less_is : with_word u 114 ((word_in u 114 + 16777215) % 16777216) ≡ aimed d (slice_index (take i ns) x) (with_word s 114 y')
  less_is =
      ap (λ v. with_word u 114 ((v + 16777215) % 16777216)) word_there
      ∙ (aimed_word d (slice_index (take i ns) x) (with_word s 114 y) 114 ((y + 16777215) % 16777216) (omega arith)
      ∙ ap (aimed d (slice_index (take i ns) x)) (set_again s 114 y ((y + 16777215) % 16777216)
      ∙ ap (with_word s 114) (ap (λ v. (v + 16777215) % 16777216) y_is ∙ (next_left x i ∙ ap (λ j. (x + j * 16777215) % 16777216) (sym long_more)))))

  pub once_more : counted_once d n u ≡ counted d (take (i + 1) ns) s
  once_more = elim (nat_lt (word_in u 114) 1) as (λ b. nat_lt (word_in u 114) 1 ≡ b → cond b (aimed d n (with_word u 114 ((word_in u 114 + 16777215) % 16777216))) (with_word u 114 ((word_in u 114 + 16777215) % 16777216)) ≡ counted d (take (i + 1) ns) s) [
    | true ↦ λ e.
        let low : word_in u 114 < 1 = ltb-true (word_in u 114) 1 e in
        let z : word_in u 114 ≡ 0 = omega arith in
        let at : x ≡ i = zero_left x i x_below (omega arith) (sym y_is ∙ (sym word_there ∙ z)) in
        ap (aimed d n) (less_is ∙ (ap (λ j. aimed d j (with_word s 114 y')) (index_past ns i x within at) ∙ aimed_none d (with_word s 114 y') (free_with y')))
        ∙ ap (λ j. aimed d j (with_word s 114 y')) (sym (index_here ns i n x within is at))
    | false ↦ λ e.
        let high : 1 ≤ word_in u 114 = ltb-false (word_in u 114) 1 e in
        let differ : x ≢ i = λ at. absurd (omega (arith, high, word_there, y_is, none_left x i x_below (omega arith) at)) in
        less_is ∙ ap (λ j. aimed d j (with_word s 114 y')) (sym (index_there ns i n x within is differ))
  ] refl

pub count_start : (p : Piece) (d : ℕ) (ns : List ℕ) → d ≤ 14 → Adds p p (IsCounted d) (λ input s. counted d (take 0 ns) s) (0 * 2 ^ 14) (0 * 8704)
count_start p d ns few = record {
  added = [];
  commands = sym (append-nil p.commands);
  short = omega arith;
  balanced = refl;
  does = λ input s is k. by_bytes refl (λ bytes.
      let x : ℕ = word_in s 114 in
      let b = bytes_of s 114 bytes in
      let none : take 0 ns ≡ [] = take_none ns in
      let left : (x + 0 * 16777215) % 16777216 ≡ x = omega (arith, b.below) in
      let same : counted d (take 0 ns) s ≡ s =
      ap (λ xs. counted d xs s) none ∙ (ap (λ v. aimed d 0 (with_word s 114 v)) left ∙ (ap (aimed d 0) (set_same s 114 x b.low b.mid b.high) ∙ aimed_none d s k.free)) in
      subst (λ t. Does input [] p.cell s p.cell t (0 * 2 ^ 14)) (sym same) (does_within (0 * 2 ^ 14) (does_none input p.cell s) (omega arith)));
}

pub count_more : {first now next : Piece} (d : ℕ) (ns : List ℕ) (i n : ℕ) → d ≤ 14 → i < length ns → n ≡ get_or ns i n → length ns ≤ 2 ^ 22 → Adds first now (IsCounted d) (λ input s. counted d (take i ns) s) (i * 2 ^ 14) (i * 8704)
    → Adds now next (IsCounting d) (λ input s. counted_once d n s) (2 ^ 14) 8704 → Adds first next (IsCounted d) (λ input s. counted d (take (i + 1) ns) s) ((i + 1) * 2 ^ 14) ((i + 1) * 8704)
count_more d ns i n few within is short a b =
    adds_as (λ input s. counted d (take (i + 1) ns) s) ((i + 1) * 2 ^ 14) ((i + 1) * 8704)
    (adds_then (IsCounted d) a b (λ input s bytes k. (k, counting d few ns i n within is short s bytes k)))
    (λ input s bytes k. (k, once_more d few ns i n within is short s bytes k)) (omega arith) (omega arith)

pub count_done : {first now : Piece} (d : ℕ) (ns : List ℕ) (i : ℕ) → length ns ≤ i → i ≤ length ns → Adds first now (IsCounted d) (λ input s. counted d (take i ns) s) (i * 2 ^ 14) (i * 8704) → Adds first now (IsCounted d) (λ input s. counted d ns s) (length ns * 2 ^ 14) (length ns * 8704)
count_done {first = first} {now = now} d ns i hi lo a =
    let e : i ≡ length ns = omega arith in
    let all : take i ns ≡ ns = all_taken i ns hi in
    adds_as (λ input s. counted d ns s) (length ns * 2 ^ 14) (length ns * 8704) a (λ input s bytes k. (k, ap (λ xs. counted d xs s) all)) (omega (arith, e)) (omega (arith, e))

-- the whole look-up
module _ {old b0 b1 b2 b3 new : Piece} (d : ℕ) (few : d ≤ 14) (ns : List ℕ) (from : b0 ≡ record { commands = []; cell = 44 }) (home : b3.cell ≡ 44) (count : Adds b0 b1 (IsCounted d) (λ input s. counted d ns s) (length ns * 2 ^ 14) (length ns * 8704))
    (clear : Adds b1 b2 any (λ input s. with_word s 114 0) (3 * 2 ^ 10) (3 * 2 ^ 9)) (back : Adds b2 b3 any (λ input s. s) 255 255) (times : Times old new b3 44) where
  both : Adds b0 b2 (IsCounted d) (λ input s. with_word (counted d ns s) 114 0) (length ns * 2 ^ 14 + 3 * 2 ^ 10) (length ns * 8704 + 3 * 2 ^ 9)
  both = adds_then (IsCounted d) count clear (λ input s bytes k. (k, tt))

  goes_around : (input : List ℕ) (s : Tape) (v : ℕ) → IsInput input → AreFree d s → IsClear s → get s 44 ≡ 0 → v < 2 ^ 24 → Does input b3.commands 44 (with_word s 114 v) 44 (aimed d (slice_index ns v) s) (length ns * 2 ^ 14 + 3327)
  goes_around input s v is free clear_in flag lv =
      let t : Tape = with_word s 114 v in
      let counts : IsCounted d t = record {
        counter = λ c lo hi. cell_kept s 114 v c (inr (omega arith)) ∙ clear_in c (omega arith) (omega arith);
        free = λ i lt. cell_kept s 114 v (3 * i + 3) (inl (omega arith)) ∙ free i lt;
      } in
      let y : ℕ = (v + length ns * 16777215) % 16777216 in
      let here : word_in t 114 ≡ v = word_set s 114 v lv in
      let same : with_word (counted d ns t) 114 0 ≡ aimed d (slice_index ns v) s =
      ap (λ x. with_word (aimed d (slice_index ns x) (with_word t 114 ((x + length ns * 16777215) % 16777216))) 114 0) here
      ∙ (aimed_word d (slice_index ns v) (with_word t 114 y) 114 0 (omega arith)
      ∙ ap (aimed d (slice_index ns v)) (set_again t 114 y 0 ∙ (set_again s 114 v 0 ∙ clear_set s clear_in 114 (omega arith) (omega arith)))) in
      subst (λ u. Does input b3.commands 44 t 44 u (length ns * 2 ^ 14 + 3327)) same (does_within (length ns * 2 ^ 14 + 3327) ((around 44 from home both back).0 input t is counts) (omega arith))

  pub looks_up : LooksUp old new d ns
  looks_up = record {
    added = times.added;
    commands = times.commands;
    balanced = times.balanced;
    short = omega (arith, times.short, (around 44 from home both back).1);
    idle = λ input s is off. (does_within 512 (times.does input s s 0 is (Over s off)) (omega arith));
    found = λ input s v is free clear_in flag lv.
        let t : Tape = with_word s 114 v in
        let u : Tape = put t 44 1 in
        let end : Tape = aimed d (slice_index ns v) s in
        let flag_there : get t 44 ≡ 0 = cell_kept s 114 v 44 (inl (omega arith)) ∙ flag in
        let lowered : put u 44 0 ≡ t = put_put t 44 1 0 ∙ put_same t 44 0 flag_there in
        let zero_there : get end 44 ≡ 0 = aimed_get d (slice_index ns v) s 44 (omega arith) ∙ flag in
        (does_within (length ns * 2 ^ 14 + 2 ^ 13)
        (times.does input u end (length ns * 2 ^ 14 + 3327 + 2 + 0) is
        (Turn u end end (length ns * 2 ^ 14 + 3327) 0 0 (get_put t 44 1) (subst (λ w. Does input b3.commands 44 w 44 end (length ns * 2 ^ 14 + 3327)) (sym lowered) (goes_around input s v is free clear_in flag lv)) (Over end zero_there))) (omega arith));
  }
