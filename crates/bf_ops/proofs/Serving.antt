-- What is asked of the memory, served.
use Rattle.std.proofs.Common.{◌≡◌, ◌≢◌, ℕ, ◌+◌, ◌*◌, ◌^◌, ◌<◌, ◌≤◌, inl, inr, List, [], ◌++◌, length, refl, sym, ap, subst, ◌∙◌, arith, append_assoc}
use Rattle.mach_core.specs.Rule.{IsInput}
use Rattle.eir_core.specs.declared.ops.Reg.{Reg}
use Rattle.eir_core.specs.declared.ops.Reg.TheVariants.{A, B, C, D, SP, BP}
use Rattle.eir_core.specs.Memory.{Memory, word_at}
use Rattle.bf_lang.specs.declared.command.Command.{Command}
use Rattle.bf_tape.specs.Tape.{Tape, get, put}
use Rattle.bf_tape.specs.Does.{Does}
use Rattle.bf_tape.specs.Piece.{Piece, joined, Adds, any, Times}
use Rattle.bf_tape.specs.Piece.Counts.{Over, Turn}
use Rattle.bf_tape.proofs.Moves.{does_then, does_within}
use Rattle.bf_tape.proofs.Pieces.{by_bytes}
use Rattle.bf_tape.proofs.Turning.{get_put, get_other, put_same}
use Rattle.bf_word.specs.Word.{word_in, with_word, carried_word, IsClear}
use Rattle.bf_word.proofs.Words.{put_put, cell_kept, word_kept, word_set, set_again, set_same, bytes_of}
use Rattle.bf_word.proofs.Scratch.{put_word, swap}
use Rattle.bf_memory.specs.Row.{Holds, Loads, Stores, slot, steps_to}
use Rattle.bf_memory.proofs.Bodies.{Link, link, link_then, at, whole}
use Rattle.bf_ops.specs.Frame.{cell_of, IsFrame}
use Rattle.bf_ops.specs.Ask.{Ask, flag_of, asking, served, wait_of, IsOfWords, Gives, GivesAny, Serves, ServesLoads, ServesStores}
use Rattle.bf_ops.specs.Ask.Ask.{Nothing, Loading, Storing}
use Rattle.bf_ops.proofs.Kept.{stands, slot_far, beyond, holds_kept, frame_set}
use Rattle.bf_ops.proofs.Acts.{link_loads, link_stores}

-- a loop on a cell that is 1, and on one that is 0
once_round : {p q body : Piece} (c : ℕ) (times : Times p q body c) → q.cell ≡ c → (input : List ℕ) (s s' : Tape) (most : ℕ) → IsInput input → get s c ≡ 1 → get s' c ≡ 0 → Does input body.commands c (put s c 0) c s' most
    → Does input times.added p.cell s q.cell s' (most + 514)
once_round {p = p} c times at_end input s s' most is on off does =
    subst (λ y. Does input times.added p.cell s y s' (most + 514)) (sym at_end) (does_within (most + 514) (times.does input s s' (most + 2 + 0) is (Turn s s' s' most 0 0 on does (Over s' off))) (omega arith))

no_round : {p q body : Piece} (c : ℕ) (times : Times p q body c) → q.cell ≡ c → (input : List ℕ) (s : Tape) → IsInput input → get s c ≡ 0 → Does input times.added p.cell s q.cell s 512
no_round {p = p} c times at_end input s is off = subst (λ y. Does input times.added p.cell s y s 512) (sym at_end) (does_within 512 (times.does input s s 0 is (Over s off)) (omega arith))

-- commands behind others that were joined
pub behind : {q r : Piece} (p : Piece) (xs : List Command) (c : ℕ) (code : ℕ → List Command) (d : ℕ) → q ≡ joined p xs c → r ≡ joined q (code q.cell) d → r ≡ joined p (xs ++ code c) d
behind p xs c code d before is = is ∙ (ap (λ t. joined t (code t.cell) d) before ∙ ap (λ ys. record { commands = ys; cell = d }) (append_assoc p.commands xs (code c)))

-- cells beside a word of the frame
word_beside : (s : Tape) (w c v : ℕ) → c < w → word_in (put s c v) w ≡ word_in s w
word_beside s w c v lt = λ i. get_other s c w v (omega arith) i + 256 * get_other s c (w + 1) v (omega arith) i + 65536 * get_other s c (w + 2) v (omega arith) i

holds_put : (m : Memory) (s : Tape) (c v : ℕ) → c < 110 → Holds m s → Holds m (put s c v)
holds_put m s c v low holds = record {
  words = λ a la. let far : 174 ≤ slot a = slot_far a in word_beside s (slot a) c v (omega arith) ∙ holds.words a la;
  empty = λ k e le. get_other s c (158 + 22 * k + e) v (omega arith) ∙ holds.empty k e le;
}

-- the cells of an address, and of a store's word, are 0 between operations
module _ (s : Tape) (frame : IsFrame s) where
  address_back : with_word s 107 0 ≡ s
  address_back = set_same s 107 0 (frame.counters A 107 (omega arith) (omega arith)) (frame.counters A 108 (omega arith) (omega arith)) (frame.counters A 109 (omega arith) (omega arith))

  value_back : with_word s 87 0 ≡ s
  value_back = set_same s 87 0 (frame.counters C 87 (omega arith) (omega arith)) (frame.counters C 88 (omega arith) (omega arith)) (frame.counters C 89 (omega arith) (omega arith))

  flag_free : (x : Reg) → get s (flag_of x) ≡ 0
  flag_free x = frame.counters x (cell_of x + 6) (omega arith) (omega arith)

-- flags of registers
quiet_before : (s : Tape) (v : ℕ) → IsFrame s → (x y : Reg) → flag_of x ≢ flag_of y → get (put (with_word s 107 v) (flag_of x) 1) (flag_of y) ≡ 0
quiet_before s v frame x y differ =
    let there = stands y in
    get_other (with_word s 107 v) (flag_of x) (flag_of y) 1 differ ∙ (cell_kept s 107 v (flag_of y) (inl (omega (arith, there.at, there.few))) ∙ flag_free s frame y)

quiet_after : (s : Tape) (v : ℕ) → IsFrame s → (x y : Reg) → get (with_word s (cell_of x) v) (flag_of y) ≡ 0
quiet_after s v frame x y = flag_free (with_word s (cell_of x) v) (frame_set s x v frame) y

-- a word goes to a register
pub record GiveParts (p q b0 b1 b2 b3 : Piece) (w : ℕ) : Type 0 where
  pub from : b0 ≡ record { commands = []; cell = w + 6 }
  pub clear : Adds b0 b1 any (λ input s. with_word s w 0) (3 * 2 ^ 10) (3 * 2 ^ 9)
  pub move : Adds b1 b2 (λ s. word_in s w ≡ 0) (λ input s. carried_word 107 w s) (3 * 2 ^ 18) (3 * 2 ^ 10)
  pub back : Adds b2 b3 any (λ input s. s) 255 255
  pub home : b3.cell ≡ w + 6
  pub times : Times p q b3 (w + 6)
  pub ends : q.cell ≡ w + 6

module _ {p q b0 b1 b2 b3 : Piece} (x : Reg) (parts : GiveParts p q b0 b1 b2 b3 (cell_of x)) where
  abbrev w : ℕ
  w = cell_of x

  low : w ≤ 100
  low = let there = stands x in omega (arith, there.at, there.few)

  given_word : (s : Tape) (v : ℕ) → IsFrame s → v < 2 ^ 24 → carried_word 107 w (with_word (with_word s 107 v) w 0) ≡ with_word s w v
  given_word s v frame lv =
      let s0 : Tape = with_word s 107 v in
      let there : word_in (with_word s0 w 0) 107 ≡ v = word_kept s0 w 0 107 (inl (omega (arith, low))) ∙ word_set s 107 v lv in
      ap (λ y. with_word (with_word (with_word s0 w 0) w y) 107 0) there
      ∙ (ap (λ t. with_word t 107 0) (set_again s0 w 0 v)
      ∙ (swap s0 w 107 v 0 (inl (omega (arith, low))) ∙ ap (λ t. with_word t w v) (set_again s 107 v 0 ∙ address_back s frame)))

  runs : (input : List ℕ) (s : Tape) (v : ℕ) → IsInput input → IsFrame s → v < 2 ^ 24 → Does input b3.commands (w + 6) (with_word s 107 v) (w + 6) (with_word s w v) (3 * 2 ^ 18 + 2 ^ 12)
  runs input s v is frame lv =
      let s0 : Tape = with_word s 107 v in
      let s1 : Tape = with_word s0 w 0 in
      let s2 : Tape = with_word s w v in
      let l = link_then (link_then (link parts.clear) (link parts.move)) (link parts.back) in
      whole (w + 6) input s0 s2 (3 * 2 ^ 18 + 2 ^ 12) l parts.from parts.home
      (does_then (3 * 2 ^ 18 + 2 ^ 12) (does_then (3 * 2 ^ 18 + 3 * 2 ^ 10) (at parts.clear input s0 s1 is tt refl) (at parts.move input s1 s2 is (word_set s0 w 0 (omega arith)) (given_word s v frame lv)) (omega arith))
      (at parts.back input s2 s2 is tt refl) (omega arith))

  give_is : Gives p q x
  give_is = record {
    added = parts.times.added;
    commands = parts.times.commands;
    balanced = parts.times.balanced;
    short = let l = link_then (link_then (link parts.clear) (link parts.move)) (link parts.back) in omega (arith, parts.times.short, length_of l);
    idle = λ input s is off. no_round (w + 6) parts.times parts.ends input s is off;
    given = λ input s v is frame lv.
        let s0 : Tape = with_word s 107 v in
        let t : Tape = put s0 (w + 6) 1 in
        let free : get s0 (w + 6) ≡ 0 = cell_kept s 107 v (w + 6) (inl (omega (arith, low))) ∙ flag_free s frame x in
        let lowered : put t (w + 6) 0 ≡ s0 = put_put s0 (w + 6) 1 0 ∙ put_same s0 (w + 6) 0 free in
        let off : get (with_word s w v) (w + 6) ≡ 0 = cell_kept s w v (w + 6) (inr (omega arith)) ∙ flag_free s frame x in
        does_within (3 * 2 ^ 18 + 2 ^ 13)
        (once_round (w + 6) parts.times parts.ends input t (with_word s w v) (3 * 2 ^ 18 + 2 ^ 12) is (get_put s0 (w + 6) 1) off
        (subst (λ u. Does input b3.commands (w + 6) u (w + 6) (with_word s w v) (3 * 2 ^ 18 + 2 ^ 12)) (sym lowered) (runs input s v is frame lv))) (omega arith);
  }
    where
      length_of : Link b0 b3 (3 * 2 ^ 9 + 3 * 2 ^ 10 + 255) → length b3.commands ≤ 3 * 2 ^ 9 + 3 * 2 ^ 10 + 255
      length_of l = omega (arith, ap length l.commands, ap (λ (p : Piece). length (p.commands ++ l.added)) parts.from, l.short)

pub gives : {p q b0 b1 b2 b3 : Piece} (x : Reg) (cell : ℕ) → cell ≡ cell_of x → GiveParts p q b0 b1 b2 b3 cell → Gives p q x
gives {p = p} {q = q} {b0 = b0} {b1 = b1} {b2 = b2} {b3 = b3} x cell is parts = give_is x (subst (λ c. GiveParts p q b0 b1 b2 b3 c) is parts)

-- all registers in a row
abbrev link_gives : {p q : Piece} {x : Reg} → Gives p q x → Link p q (2 ^ 13)
link_gives a = record { added = a.added; commands = a.commands; short = a.short; balanced = a.balanced }

any_given : {p0 p1 p2 p3 p4 p5 p6 : Piece} (a : Gives p0 p1 A) (b : Gives p1 p2 B) (c : Gives p2 p3 C) (d : Gives p3 p4 D) (e : Gives p4 p5 SP) (f : Gives p5 p6 BP) (input : List ℕ) (s : Tape) (x : Reg) (v : ℕ) → IsInput input → IsFrame s → v < 2 ^ 24
    → Does input (a.added ++ b.added ++ c.added ++ d.added ++ e.added ++ f.added) p0.cell (put (with_word s 107 v) (flag_of x) 1) p6.cell (with_word s (cell_of x) v) (3 * 2 ^ 18 + 3 * 2 ^ 12)
any_given a b c d e f input s A v is frame lv =
    let t : Tape = put (with_word s 107 v) (flag_of A) 1 in
    let u : Tape = with_word s (cell_of A) v in
    does_within (3 * 2 ^ 18 + 3 * 2 ^ 12) (does_then (2560 + 3 * 2 ^ 18 + 2 ^ 13) (does_then (2048 + 3 * 2 ^ 18 + 2 ^ 13) (does_then (1536 + 3 * 2 ^ 18 + 2 ^ 13) (does_then (1024 + 3 * 2 ^ 18 + 2 ^ 13) (does_then (512 + 3 * 2 ^ 18 + 2 ^ 13) (a.given input s v is frame lv) (b.idle input u is (quiet_after s v frame A B)) (omega arith)) (c.idle input u is (quiet_after s v frame A C)) (omega arith)) (d.idle input u is (quiet_after s v frame A D)) (omega arith)) (e.idle input u is (quiet_after s v frame A SP)) (omega arith)) (f.idle input u is (quiet_after s v frame A BP)) (omega arith)) (omega arith)
any_given a b c d e f input s B v is frame lv =
    let t : Tape = put (with_word s 107 v) (flag_of B) 1 in
    let u : Tape = with_word s (cell_of B) v in
    does_within (3 * 2 ^ 18 + 3 * 2 ^ 12) (does_then (2560 + 3 * 2 ^ 18 + 2 ^ 13) (does_then (2048 + 3 * 2 ^ 18 + 2 ^ 13) (does_then (1536 + 3 * 2 ^ 18 + 2 ^ 13) (does_then (1024 + 3 * 2 ^ 18 + 2 ^ 13) (does_then (512 + 3 * 2 ^ 18 + 2 ^ 13) (a.idle input t is (quiet_before s v frame B A (omega arith))) (b.given input s v is frame lv) (omega arith)) (c.idle input u is (quiet_after s v frame B C)) (omega arith)) (d.idle input u is (quiet_after s v frame B D)) (omega arith)) (e.idle input u is (quiet_after s v frame B SP)) (omega arith)) (f.idle input u is (quiet_after s v frame B BP)) (omega arith)) (omega arith)
any_given a b c d e f input s C v is frame lv =
    let t : Tape = put (with_word s 107 v) (flag_of C) 1 in
    let u : Tape = with_word s (cell_of C) v in
    does_within (3 * 2 ^ 18 + 3 * 2 ^ 12) (does_then (2560 + 3 * 2 ^ 18 + 2 ^ 13) (does_then (2048 + 3 * 2 ^ 18 + 2 ^ 13) (does_then (1536 + 3 * 2 ^ 18 + 2 ^ 13) (does_then (1024 + 3 * 2 ^ 18 + 2 ^ 13) (does_then 1024 (a.idle input t is (quiet_before s v frame C A (omega arith))) (b.idle input t is (quiet_before s v frame C B (omega arith))) (omega arith)) (c.given input s v is frame lv) (omega arith)) (d.idle input u is (quiet_after s v frame C D)) (omega arith)) (e.idle input u is (quiet_after s v frame C SP)) (omega arith)) (f.idle input u is (quiet_after s v frame C BP)) (omega arith)) (omega arith)
any_given a b c d e f input s D v is frame lv =
    let t : Tape = put (with_word s 107 v) (flag_of D) 1 in
    let u : Tape = with_word s (cell_of D) v in
    does_within (3 * 2 ^ 18 + 3 * 2 ^ 12) (does_then (2560 + 3 * 2 ^ 18 + 2 ^ 13) (does_then (2048 + 3 * 2 ^ 18 + 2 ^ 13) (does_then (1536 + 3 * 2 ^ 18 + 2 ^ 13) (does_then 1536 (does_then 1024 (a.idle input t is (quiet_before s v frame D A (omega arith))) (b.idle input t is (quiet_before s v frame D B (omega arith))) (omega arith)) (c.idle input t is (quiet_before s v frame D C (omega arith))) (omega arith)) (d.given input s v is frame lv) (omega arith)) (e.idle input u is (quiet_after s v frame D SP)) (omega arith)) (f.idle input u is (quiet_after s v frame D BP)) (omega arith)) (omega arith)
any_given a b c d e f input s SP v is frame lv =
    let t : Tape = put (with_word s 107 v) (flag_of SP) 1 in
    let u : Tape = with_word s (cell_of SP) v in
    does_within (3 * 2 ^ 18 + 3 * 2 ^ 12) (does_then (2560 + 3 * 2 ^ 18 + 2 ^ 13) (does_then (2048 + 3 * 2 ^ 18 + 2 ^ 13) (does_then 2048 (does_then 1536 (does_then 1024 (a.idle input t is (quiet_before s v frame SP A (omega arith))) (b.idle input t is (quiet_before s v frame SP B (omega arith))) (omega arith)) (c.idle input t is (quiet_before s v frame SP C (omega arith))) (omega arith)) (d.idle input t is (quiet_before s v frame SP D (omega arith))) (omega arith)) (e.given input s v is frame lv) (omega arith)) (f.idle input u is (quiet_after s v frame SP BP)) (omega arith)) (omega arith)
any_given a b c d e f input s BP v is frame lv =
    let t : Tape = put (with_word s 107 v) (flag_of BP) 1 in
    let u : Tape = with_word s (cell_of BP) v in
    does_within (3 * 2 ^ 18 + 3 * 2 ^ 12) (does_then (2560 + 3 * 2 ^ 18 + 2 ^ 13) (does_then 2560 (does_then 2048 (does_then 1536 (does_then 1024 (a.idle input t is (quiet_before s v frame BP A (omega arith))) (b.idle input t is (quiet_before s v frame BP B (omega arith))) (omega arith)) (c.idle input t is (quiet_before s v frame BP C (omega arith))) (omega arith)) (d.idle input t is (quiet_before s v frame BP D (omega arith))) (omega arith)) (e.idle input t is (quiet_before s v frame BP SP (omega arith))) (omega arith)) (f.given input s v is frame lv) (omega arith)) (omega arith)

pub gives_any : {p0 p1 p2 p3 p4 p5 p6 : Piece} → Gives p0 p1 A → Gives p1 p2 B → Gives p2 p3 C → Gives p3 p4 D → Gives p4 p5 SP → Gives p5 p6 BP → GivesAny p0 p6
gives_any a b c d e f =
    let l = link_then (link_then (link_then (link_then (link_then (link_gives a) (link_gives b)) (link_gives c)) (link_gives d)) (link_gives e)) (link_gives f) in
    record { added = l.added; commands = l.commands; balanced = l.balanced; short = omega (arith, l.short); given = any_given a b c d e f }

abbrev link_any : {p q : Piece} → GivesAny p q → Link p q (2 ^ 16)
link_any a = record { added = a.added; commands = a.commands; short = a.short; balanced = a.balanced }

pub gives_beside : {last : Piece} (p : Piece) → GivesAny (record { commands = []; cell = p.cell }) last → GivesAny p (joined p last.commands last.cell)
gives_beside p a = record { added = a.added; commands = ap (λ xs. p.commands ++ xs) a.commands; balanced = a.balanced; short = a.short; given = a.given }

-- a body's length
body_long : {b0 b : Piece} {long : ℕ} (c : ℕ) → b0 ≡ record { commands = []; cell = c } → Link b0 b long → length b.commands ≤ long
body_long c from l = omega (arith, ap length l.commands, ap (λ (p : Piece). length (p.commands ++ l.added)) from, l.short)

-- a load
module _ {p q b0 b1 b2 b3 : Piece} (from : b0 ≡ record { commands = []; cell = 46 }) (load : Loads b0 b1 107 107) (give : GivesAny b1 b2) (back : Adds b2 b3 any (λ input s. s) 255 255) (home : b3.cell ≡ 46) (times : Times p q b3 46) (ends : q.cell ≡ 46) where
  abbrev load_link : Link b0 b3 (2 ^ 17 + 2 ^ 16 + 255)
  load_link = link_then (link_then (link_loads load) (link_any give)) (link back)

  module _ (input : List ℕ) (s : Tape) (m : Memory) (x : Reg) (n : ℕ) (is : IsInput input) (frame : IsFrame s) (holds : Holds m s) (ln : n < 2 ^ 24) (bytes : (c : ℕ) → (asking (Loading x n) s).cells c < 2 ^ 8) where
    abbrev f : ℕ
    f = flag_of x

    f_low : f ≤ 106
    f_low = let there = stands x in omega (arith, there.at, there.few)

    f_high : 56 ≤ f
    f_high = let there = stands x in omega (arith, there.at, there.few)

    abbrev u : Tape
    u = put (with_word s 107 n) f 1

    abbrev y : ℕ
    y = word_at m n

    no_ask : get u 46 ≡ 0
    no_ask = get_other (with_word s 107 n) f 46 1 (omega (arith, f_high)) ∙ (cell_kept s 107 n 46 (inl (omega arith)) ∙ frame.own 46 (omega arith) (omega arith))

    clear_there : IsClear u
    clear_there = λ c lo hi. get_other (with_word s 107 n) f c 1 (omega (arith, f_low)) ∙ (cell_kept s 107 n c (inr (omega arith)) ∙ frame.clear c lo hi)

    holds_there : Holds m u
    holds_there = holds_put m (with_word s 107 n) f 1 (omega (arith, f_low)) (holds_kept m s 107 n (omega arith) holds)

    address : word_in u 107 ≡ n
    address = word_beside (with_word s 107 n) 107 f 1 (omega (arith, f_low)) ∙ word_set s 107 n ln

    loaded : with_word u 107 y ≡ put (with_word s 107 y) f 1
    loaded =
        ap (λ t. with_word t 107 y) (put_word s 107 n f 1 (inl (omega (arith, f_low)))) ∙ (set_again (put s f 1) 107 n y ∙ sym (put_word s 107 y f 1 (inl (omega (arith, f_low)))))

    y_below : y < 2 ^ 24
    y_below =
        let far : 174 ≤ slot n = slot_far n in
        let b = bytes_of (put u 46 1) (slot n) bytes in
        let e : word_in (put u 46 1) (slot n) ≡ y = word_beside u (slot n) 46 1 (omega arith) ∙ holds_there.words n ln in
        omega (arith, b.below, e)

    load_runs : Does input b3.commands 46 u 46 (with_word s (cell_of x) y) (steps_to n + 3 * 2 ^ 18 + 13 * 2 ^ 10)
    load_runs =
        let s1 : Tape = put (with_word s 107 y) f 1 in
        let s2 : Tape = with_word s (cell_of x) y in
        let d1 : Does input load.added b0.cell u b1.cell s1 (steps_to n) =
        subst (λ t. Does input load.added b0.cell u b1.cell t (steps_to n)) loaded
        (subst (λ z. Does input load.added b0.cell u b1.cell (with_word u 107 (word_at m z)) (steps_to z)) address (load.does input u m is clear_there holds_there)) in
        whole 46 input u s2 (steps_to n + 3 * 2 ^ 18 + 13 * 2 ^ 10) load_link from home
        (does_then (steps_to n + 3 * 2 ^ 18 + 13 * 2 ^ 10) (does_then (steps_to n + (3 * 2 ^ 18 + 3 * 2 ^ 12)) d1 (give.given input s x y is frame y_below) (omega arith)) (at back input s2 s2 is tt refl) (omega arith))

    load_served : Does input times.added p.cell (asking (Loading x n) s) q.cell (served (Loading x n) m s) (steps_to n + 3 * 2 ^ 18 + 7 * 2 ^ 11)
    load_served =
        let low : 50 ≤ cell_of x = omega (arith, f_high) in
        let lowered : put (put u 46 1) 46 0 ≡ u = put_put u 46 1 0 ∙ put_same u 46 0 no_ask in
        let off : get (with_word s (cell_of x) y) 46 ≡ 0 = cell_kept s (cell_of x) y 46 (inl (omega (arith, low))) ∙ frame.own 46 (omega arith) (omega arith) in
        does_within (steps_to n + 3 * 2 ^ 18 + 7 * 2 ^ 11)
        (once_round 46 times ends input (put u 46 1) (with_word s (cell_of x) y) (steps_to n + 3 * 2 ^ 18 + 13 * 2 ^ 10) is (get_put u 46 1) off
        (subst (λ t. Does input b3.commands 46 t 46 (with_word s (cell_of x) y) (steps_to n + 3 * 2 ^ 18 + 13 * 2 ^ 10)) (sym lowered) load_runs)) (omega arith)

  pub serves_loads : ServesLoads p q
  serves_loads = record {
    added = times.added;
    commands = times.commands;
    balanced = times.balanced;
    short = omega (arith, times.short, body_long 46 from load_link);
    idle = λ input s is off. no_round 46 times ends input s is off;
    does = λ input s m x n is frame holds ln. by_bytes times.balanced (λ bytes. load_served input s m x n is frame holds ln bytes);
  }

-- a store
module _ {p q b0 b1 b2 b3 b4 : Piece} (from : b0 ≡ record { commands = []; cell = 47 }) (store : Stores b0 b1 107 87) (clear : Adds b1 b2 any (λ input s. with_word s 107 0) (3 * 2 ^ 10) (3 * 2 ^ 9)) (clear' : Adds b2 b3 any (λ input s. with_word s 87 0) (3 * 2 ^ 10) (3 * 2 ^ 9))
    (back : Adds b3 b4 any (λ input s. s) 255 255) (home : b4.cell ≡ 47) (times : Times p q b4 47) (ends : q.cell ≡ 47) where
  abbrev store_link : Link b0 b4 (2 ^ 17 + 3 * 2 ^ 9 + 3 * 2 ^ 9 + 255)
  store_link = link_then (link_then (link_then (link_stores store) (link clear)) (link clear')) (link back)

  module _ (input : List ℕ) (s : Tape) (m : Memory) (n v : ℕ) (is : IsInput input) (frame : IsFrame s) (holds : Holds m s) (ln : n < 2 ^ 24) (lv : v < 2 ^ 24) where
    abbrev o : Tape
    o = with_word (with_word s 107 n) 87 v

    no_store : get o 47 ≡ 0
    no_store = cell_kept (with_word s 107 n) 87 v 47 (inl (omega arith)) ∙ (cell_kept s 107 n 47 (inl (omega arith)) ∙ frame.own 47 (omega arith) (omega arith))

    clear_here : IsClear o
    clear_here = λ c lo hi. cell_kept (with_word s 107 n) 87 v c (inr (omega arith)) ∙ (cell_kept s 107 n c (inr (omega arith)) ∙ frame.clear c lo hi)

    holds_here : Holds m o
    holds_here = holds_kept m (with_word s 107 n) 87 v (omega arith) (holds_kept m s 107 n (omega arith) holds)

    address_here : word_in o 107 ≡ n
    address_here = word_kept (with_word s 107 n) 87 v 107 (inl (omega arith)) ∙ word_set s 107 n ln

    value_here : word_in o 87 ≡ v
    value_here = word_set (with_word s 107 n) 87 v lv

    gone : with_word (with_word o 107 0) 87 0 ≡ s
    gone =
        ap (λ t. with_word t 87 0) (swap (with_word s 107 n) 87 107 v 0 (inl (omega arith)) ∙ ap (λ t. with_word t 87 v) (set_again s 107 n 0 ∙ address_back s frame))
        ∙ (set_again s 87 v 0 ∙ value_back s frame)

    cleared : with_word (with_word (with_word o (slot n) v) 107 0) 87 0 ≡ with_word s (slot n) v
    cleared =
        ap (λ t. with_word t 87 0) (swap o (slot n) 107 v 0 (beyond n 107 (omega arith)))
        ∙ (swap (with_word o 107 0) (slot n) 87 v 0 (beyond n 87 (omega arith)) ∙ ap (λ t. with_word t (slot n) v) gone)

    store_runs : Does input b4.commands 47 o 47 (with_word s (slot n) v) (steps_to n + 13 * 2 ^ 9)
    store_runs =
        let s1 : Tape = with_word o (slot n) v in
        let s2 : Tape = with_word s1 107 0 in
        let s3 : Tape = with_word s (slot n) v in
        let d1 : Does input store.added b0.cell o b1.cell s1 (steps_to n) =
        subst (λ z. Does input store.added b0.cell o b1.cell (with_word o (slot n) z) (steps_to n)) value_here
        (subst (λ z. Does input store.added b0.cell o b1.cell (with_word o (slot z) (word_in o 87)) (steps_to z)) address_here (store.does input o m is clear_here holds_here)) in
        whole 47 input o s3 (steps_to n + 13 * 2 ^ 9) store_link from home
        (does_then (steps_to n + 13 * 2 ^ 9) (does_then (steps_to n + 12 * 2 ^ 9) (does_then (steps_to n + 3 * 2 ^ 10) d1 (at clear input s1 s2 is tt refl) (omega arith)) (at clear' input s2 s3 is tt cleared) (omega arith)) (at back input s3 s3 is tt refl) (omega arith))

    store_served : Does input times.added p.cell (asking (Storing n v) s) q.cell (served (Storing n v) m s) (steps_to n + 2 ^ 13)
    store_served =
        let far : 174 ≤ slot n = slot_far n in
        let lowered : put (put o 47 1) 47 0 ≡ o = put_put o 47 1 0 ∙ put_same o 47 0 no_store in
        let off : get (with_word s (slot n) v) 47 ≡ 0 = cell_kept s (slot n) v 47 (inl (omega (arith, far))) ∙ frame.own 47 (omega arith) (omega arith) in
        does_within (steps_to n + 2 ^ 13)
        (once_round 47 times ends input (put o 47 1) (with_word s (slot n) v) (steps_to n + 13 * 2 ^ 9) is (get_put o 47 1) off
        (subst (λ t. Does input b4.commands 47 t 47 (with_word s (slot n) v) (steps_to n + 13 * 2 ^ 9)) (sym lowered) store_runs)) (omega arith)

  pub serves_stores : ServesStores p q
  serves_stores = record {
    added = times.added;
    commands = times.commands;
    balanced = times.balanced;
    short = omega (arith, times.short, body_long 47 from store_link);
    idle = λ input s is off. no_round 47 times ends input s is off;
    does = λ input s m n v is frame holds ln lv. store_served input s m n v is frame holds ln lv;
  }

-- both
module _ {p q r : Piece} (loads : ServesLoads p q) (stores : ServesStores q r) where
  abbrev both : Link p r (2 ^ 18 + 2 ^ 18)
  both = link_then {p = p} {q = q} {r = r} (record { added = loads.added; commands = loads.commands; short = loads.short; balanced = loads.balanced }) (record { added = stores.added; commands = stores.commands; short = stores.short; balanced = stores.balanced })

  serves_asked : (input : List ℕ) (s : Tape) (m : Memory) (ask : Ask) → IsInput input → IsFrame s → Holds m s → IsOfWords ask → Does input (loads.added ++ stores.added) p.cell (asking ask s) r.cell (served ask m s) (wait_of ask)
  serves_asked input s m Nothing is frame holds words = does_then 1024 (loads.idle input s is (frame.own 46 (omega arith) (omega arith))) (stores.idle input s is (frame.own 47 (omega arith) (omega arith))) (omega arith)
  serves_asked input s m (Loading x n) is frame holds words =
      let y : ℕ = word_at m n in
      let there = stands x in
      let off : get (with_word s (cell_of x) y) 47 ≡ 0 = cell_kept s (cell_of x) y 47 (inl (omega (arith, there.at))) ∙ frame.own 47 (omega arith) (omega arith) in
      does_then (wait_of (Loading x n)) (loads.does input s m x n is frame holds words) (stores.idle input (with_word s (cell_of x) y) is off) (omega arith)
  serves_asked input s m (Storing n v) is frame holds words =
      let o : Tape = with_word (with_word s 107 n) 87 v in
      let off : get (put o 47 1) 46 ≡ 0 =
      get_other o 47 46 1 (omega arith) ∙ (cell_kept (with_word s 107 n) 87 v 46 (inl (omega arith)) ∙ (cell_kept s 107 n 46 (inl (omega arith)) ∙ frame.own 46 (omega arith) (omega arith))) in
      does_then (wait_of (Storing n v)) (loads.idle input (put o 47 1) is off) (stores.does input s m n v is frame holds words.0 words.1) (omega arith)

  pub serves : Serves p r
  serves = record {
    added = both.added;
    commands = both.commands;
    balanced = both.balanced;
    idle = λ input s is off off'. does_then 1024 (loads.idle input s is off) (stores.idle input s is off') (omega arith);
    does = serves_asked;
  }

pub serves_aside : (old first last : Piece) → first ≡ record { commands = []; cell = old.cell } → Serves first last → Serves old (joined old last.commands last.cell)
serves_aside old first last from claim =
    let a : Serves (record { commands = []; cell = old.cell }) last = subst (λ p. Serves p last) from claim in
    record { added = a.added; commands = ap (λ xs. old.commands ++ xs) a.commands; balanced = a.balanced; idle = a.idle; does = a.does }
