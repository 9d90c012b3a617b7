-- What the turns of the walks do.
use Rattle.std.proofs.Common.{◌≡◌, ℕ, zero, suc, ◌+◌, ◌-◌, ◌*◌, ◌%◌, ◌^◌, ◌<◌, ◌≤◌, false, nat_lt, cond, List, [], ◌∷◌, ◌++◌, length, refl, sym, ap, subst, ◌∙◌, arith, append_assoc, length-append, ne_eqb}
use Rattle.std.proofs.lemmas.Bool.{le-ltb}
use Rattle.mach_core.specs.Rule.{IsInput}
use Rattle.bf_lang.specs.declared.command.Command.{Command}
use Rattle.bf_lang.specs.Balance.{IsBalanced}
use Rattle.bf_lang.proofs.Partners.{balanced_append}
use Rattle.bf_tape.proofs.Moves.{does_then, does_within}
use Rattle.bf_tape.specs.Tape.{Tape, get, put}
use Rattle.bf_tape.specs.Does.{Does}
use Rattle.bf_tape.specs.Piece.{Piece, Adds, any, moved, drained}
use Rattle.bf_tape.specs.Slots.{holding, AreApart, nth}
use Rattle.bf_tape.proofs.Slotted.{get_held, held}
use Rattle.bf_tape.proofs.Pieces.{by_bytes}
use Rattle.bf_word.specs.Word.{low_byte, mid_byte, high_byte, word_in, with_word, carried_word, lowered_once, IsCounter}
use Rattle.bf_word.proofs.Bytes.{number_of_bytes, bytes_low, bytes_mid, bytes_high}
use Rattle.bf_word.proofs.Written.{apart_of, put_all, put_all_held}
use Rattle.bf_memory.specs.Walk.{carried, ahead, zeros, flag, less_one, load_of, IsFree, GoesOut, GoesHome}
use Rattle.bf_memory.proofs.Walked.{clear_carried, carried_apart}

abbrev names : List ℕ
names = 22 ∷ 23 ∷ 24 ∷ 25 ∷ 26 ∷ 27 ∷ 28 ∷ 29 ∷ 30 ∷ 31 ∷ 0 ∷ 1 ∷ 2 ∷ 10 ∷ 11 ∷ 12 ∷ 13 ∷ 14 ∷ 32 ∷ 33 ∷ 34 ∷ 35 ∷ 36 ∷ 37 ∷ []

names_apart : AreApart names
names_apart = apart_of names refl

-- one of seven cells
by_seven : (P : ℕ → Type 0) (c : ℕ) → 25 ≤ c → c < 32 → P 25 → P 26 → P 27 → P 28 → P 29 → P 30 → P 31 → P c
by_seven P c lo hi a b d e f g h = pick (c - 25) (omega arith)
  where
    pick : (k : ℕ) → c ≡ k + 25 → P c
    pick zero i = subst P (sym i) a
    pick (suc zero) i = subst P (sym i) b
    pick (suc (suc zero)) i = subst P (sym i) d
    pick (suc (suc (suc zero))) i = subst P (sym i) e
    pick (suc (suc (suc (suc zero)))) i = subst P (sym i) f
    pick (suc (suc (suc (suc (suc zero))))) i = subst P (sym i) g
    pick (suc (suc (suc (suc (suc (suc zero)))))) i = subst P (sym i) h
    pick (suc (suc (suc (suc (suc (suc (suc k))))))) i = absurd (omega arith)

goes : (d : ℕ) → (1 + (2 ^ 8 - cond (nat_lt d 1) 1 0)) % 2 ^ 8 ≡ flag d
goes zero = refl
goes (suc d) = let e : nat_lt (suc d) 1 ≡ false = le-ltb (suc d) 1 (omega arith) in ap (λ b. (1 + (2 ^ 8 - cond b 1 0)) % 2 ^ 8) e ∙ sym (ap (λ t. cond t 0 1) (ne_eqb (suc d) 0 (omega arith)))

module _ (t : Tape) (free : IsFree t) where
  -- on the left an address, three bytes, a side and whether to go on; on the right the same, with a borrow and a mark
  abbrev values : ℕ → ℕ → ℕ → ℕ → ℕ → ℕ → ℕ → ℕ → ℕ → ℕ → ℕ → ℕ → ℕ → ℕ → List ℕ
  values d x y z s g d' o' x' y' z' s' g' m' =
      low_byte d' ∷ mid_byte d' ∷ high_byte d' ∷ 0 ∷ 0 ∷ 0 ∷ 0 ∷ 0 ∷ 0 ∷ o' ∷ low_byte d ∷ mid_byte d ∷ high_byte d ∷ x ∷ y ∷ z ∷ s ∷ g ∷ x' ∷ y' ∷ z' ∷ s' ∷ g' ∷ m' ∷ []

  abbrev now : ℕ → ℕ → ℕ → ℕ → ℕ → ℕ → ℕ → ℕ → ℕ → ℕ → ℕ → ℕ → ℕ → ℕ → Tape
  now d x y z s g d' o' x' y' z' s' g' m' = holding t names (values d x y z s g d' o' x' y' z' s' g' m')

  got : (d x y z s g d' o' x' y' z' s' g' m' i : ℕ) → i < 24 → get (now d x y z s g d' o' x' y' z' s' g' m') (nth names i) ≡ nth (values d x y z s g d' o' x' y' z' s' g' m') i
  got d x y z s g d' o' x' y' z' s' g' m' i lt = get_held t names (values d x y z s g d' o' x' y' z' s' g' m') i names_apart lt refl

  empty : now 0 0 0 0 0 0 0 0 0 0 0 0 0 0 ≡ t
  empty =
      (λ i. holding t names (sym (free.right 22 (omega arith) (omega arith)) i ∷ sym (free.right 23 (omega arith) (omega arith)) i ∷ sym (free.right 24 (omega arith) (omega arith)) i ∷ sym (free.right 25 (omega arith) (omega arith)) i
      ∷ sym (free.right 26 (omega arith) (omega arith)) i ∷ sym (free.right 27 (omega arith) (omega arith)) i ∷ sym (free.right 28 (omega arith) (omega arith)) i ∷ sym (free.right 29 (omega arith) (omega arith)) i
      ∷ sym (free.right 30 (omega arith) (omega arith)) i ∷ sym (free.right 31 (omega arith) (omega arith)) i ∷ sym (free.left 0 (omega arith)) i ∷ sym (free.left 1 (omega arith)) i ∷ sym (free.left 2 (omega arith)) i
      ∷ sym (free.left 10 (omega arith)) i ∷ sym (free.left 11 (omega arith)) i ∷ sym (free.left 12 (omega arith)) i ∷ sym (free.left 13 (omega arith)) i ∷ sym (free.left 14 (omega arith)) i
      ∷ sym (free.right 32 (omega arith) (omega arith)) i ∷ sym (free.right 33 (omega arith) (omega arith)) i ∷ sym (free.right 34 (omega arith) (omega arith)) i ∷ sym (free.right 35 (omega arith) (omega arith)) i
      ∷ sym (free.right 36 (omega arith) (omega arith)) i ∷ sym (free.right 37 (omega arith) (omega arith)) i ∷ [])) ∙ held t names

  begins : (d x y z s : ℕ) → holding t carried (load_of d x y z 1 s) ≡ now d x y z s 1 0 0 0 0 0 0 0 0
  begins d x y z s =
      ap (λ u. put_all u names ((16, s) ∷ (17, 1) ∷ (15, z) ∷ (14, y) ∷ (13, x) ∷ (12, high_byte d) ∷ (11, mid_byte d) ∷ (10, low_byte d) ∷ [])) (sym empty)
      ∙ put_all_held t names (values 0 0 0 0 0 0 0 0 0 0 0 0 0 0) ((16, s) ∷ (17, 1) ∷ (15, z) ∷ (14, y) ∷ (13, x) ∷ (12, high_byte d) ∷ (11, mid_byte d) ∷ (10, low_byte d) ∷ []) names_apart refl refl

  ends : (d x y z s g : ℕ) → now 0 0 0 0 0 0 d 0 x y z s g 1 ≡ holding (put (holding t carried zeros) 37 1) ahead (load_of d x y z g s)
  ends d x y z s g =
      sym (ap (λ u. put_all u names ((23, 1) ∷ (21, s) ∷ (22, g) ∷ (20, z) ∷ (19, y) ∷ (18, x) ∷ (2, high_byte d) ∷ (1, mid_byte d) ∷ (0, low_byte d) ∷ [])) (clear_carried t free ∙ sym empty)
      ∙ put_all_held t names (values 0 0 0 0 0 0 0 0 0 0 0 0 0 0) ((23, 1) ∷ (21, s) ∷ (22, g) ∷ (20, z) ∷ (19, y) ∷ (18, x) ∷ (2, high_byte d) ∷ (1, mid_byte d) ∷ (0, low_byte d) ∷ []) names_apart refl refl)

  module _ (d x y z s : ℕ) (ld : d < 2 ^ 24) where
    -- one by one, what the pieces of a turn make of this tape
    stops_here : put (now d x y z s 1 0 0 0 0 0 0 0 0) 14 ((get (now d x y z s 1 0 0 0 0 0 0 0 0) 14 + 255) % 2 ^ 8) ≡ now d x y z s 0 0 0 0 0 0 0 0 0
    stops_here =
        ap (λ v. put (now d x y z s 1 0 0 0 0 0 0 0 0) 14 ((v + 255) % 2 ^ 8)) (got d x y z s 1 0 0 0 0 0 0 0 0 17 (omega arith))
        ∙ put_all_held t names (values d x y z s 1 0 0 0 0 0 0 0 0) ((17, 0) ∷ []) names_apart refl refl

    address : word_in (now d x y z s 0 0 0 0 0 0 0 0 0) 0 ≡ d
    address =
        (λ i. got d x y z s 0 0 0 0 0 0 0 0 0 10 (omega arith) i + 256 * got d x y z s 0 0 0 0 0 0 0 0 0 11 (omega arith) i + 65536 * got d x y z s 0 0 0 0 0 0 0 0 0 12 (omega arith) i) ∙ number_of_bytes d ld

    pub no_address : word_in (now d x y z s 0 0 0 0 0 0 0 0 0) 22 ≡ 0
    no_address = λ i. got d x y z s 0 0 0 0 0 0 0 0 0 0 (omega arith) i + 256 * got d x y z s 0 0 0 0 0 0 0 0 0 1 (omega arith) i + 65536 * got d x y z s 0 0 0 0 0 0 0 0 0 2 (omega arith) i

    address_moved : carried_word 0 22 (now d x y z s 0 0 0 0 0 0 0 0 0) ≡ now 0 x y z s 0 d 0 0 0 0 0 0 0
    address_moved =
        ap (λ v. with_word (with_word (now d x y z s 0 0 0 0 0 0 0 0 0) 22 v) 0 0) address
        ∙ put_all_held t names (values d x y z s 0 0 0 0 0 0 0 0 0) ((0, low_byte d) ∷ (1, mid_byte d) ∷ (2, high_byte d) ∷ (10, 0) ∷ (11, 0) ∷ (12, 0) ∷ []) names_apart refl refl

    module _ (lx : x < 2 ^ 8) (ly : y < 2 ^ 8) (lz : z < 2 ^ 8) (ls : s < 2 ^ 8) where
      abbrev v : ℕ
      v = x + 256 * y + 65536 * z

      value : word_in (now 0 x y z s 0 d 0 0 0 0 0 0 0) 10 ≡ v
      value = λ i. got 0 x y z s 0 d 0 0 0 0 0 0 0 13 (omega arith) i + 256 * got 0 x y z s 0 d 0 0 0 0 0 0 0 14 (omega arith) i + 65536 * got 0 x y z s 0 d 0 0 0 0 0 0 0 15 (omega arith) i

      no_value : word_in (now 0 x y z s 0 d 0 0 0 0 0 0 0) 32 ≡ 0
      no_value = λ i. got 0 x y z s 0 d 0 0 0 0 0 0 0 18 (omega arith) i + 256 * got 0 x y z s 0 d 0 0 0 0 0 0 0 19 (omega arith) i + 65536 * got 0 x y z s 0 d 0 0 0 0 0 0 0 20 (omega arith) i

      value_moved : carried_word 10 32 (now 0 x y z s 0 d 0 0 0 0 0 0 0) ≡ now 0 0 0 0 s 0 d 0 x y z 0 0 0
      value_moved =
          ap (λ u. with_word (with_word (now 0 x y z s 0 d 0 0 0 0 0 0 0) 32 u) 10 0) value
          ∙ (put_all_held t names (values 0 x y z s 0 d 0 0 0 0 0 0 0) ((18, low_byte v) ∷ (19, mid_byte v) ∷ (20, high_byte v) ∷ (13, 0) ∷ (14, 0) ∷ (15, 0) ∷ []) names_apart refl refl
          ∙ (λ i. now 0 0 0 0 s 0 d 0 (bytes_low x y z lx ly lz i) (bytes_mid x y z lx ly lz i) (bytes_high x y z lx ly lz i) 0 0 0))

      side_moved : moved (now 0 0 0 0 s 0 d 0 x y z 0 0 0) 13 35 ≡ now 0 0 0 0 0 0 d 0 x y z s 0 0
      side_moved =
          let sum : (0 + s) % 2 ^ 8 ≡ s = omega arith in
          (λ i. put (put (now 0 0 0 0 s 0 d 0 x y z 0 0 0) 35 ((got 0 0 0 0 s 0 d 0 x y z 0 0 0 21 (omega arith) i + got 0 0 0 0 s 0 d 0 x y z 0 0 0 16 (omega arith) i) % 2 ^ 8)) 13 0)
          ∙ (ap (λ u. put (put (now 0 0 0 0 s 0 d 0 x y z 0 0 0) 35 u) 13 0) sum
          ∙ put_all_held t names (values 0 0 0 0 s 0 d 0 x y z 0 0 0) ((21, s) ∷ (16, 0) ∷ []) names_apart refl refl)

      abbrev borrow : ℕ
      borrow = cond (nat_lt d 1) 1 0

      counter_there : word_in (now 0 0 0 0 0 0 d 0 x y z s 0 0) 22 ≡ d
      counter_there = (λ i. got 0 0 0 0 0 0 d 0 x y z s 0 0 0 (omega arith) i + 256 * got 0 0 0 0 0 0 d 0 x y z s 0 0 1 (omega arith) i + 65536 * got 0 0 0 0 0 0 d 0 x y z s 0 0 2 (omega arith) i) ∙ number_of_bytes d ld

      counter_zeros : IsCounter 22 (now 0 0 0 0 0 0 d 0 x y z s 0 0)
      counter_zeros c lo hi =
          by_seven (λ c. get (now 0 0 0 0 0 0 d 0 x y z s 0 0) c ≡ 0) c (omega arith) (omega arith) (got 0 0 0 0 0 0 d 0 x y z s 0 0 3 (omega arith)) (got 0 0 0 0 0 0 d 0 x y z s 0 0 4 (omega arith)) (got 0 0 0 0 0 0 d 0 x y z s 0 0 5 (omega arith))
          (got 0 0 0 0 0 0 d 0 x y z s 0 0 6 (omega arith)) (got 0 0 0 0 0 0 d 0 x y z s 0 0 7 (omega arith)) (got 0 0 0 0 0 0 d 0 x y z s 0 0 8 (omega arith)) (got 0 0 0 0 0 0 d 0 x y z s 0 0 9 (omega arith))

      counted_down : lowered_once 22 (now 0 0 0 0 0 0 d 0 x y z s 0 0) ≡ now 0 0 0 0 0 0 (less_one d) borrow x y z s 0 0
      counted_down =
          (λ i. put (with_word (now 0 0 0 0 0 0 d 0 x y z s 0 0) 22 ((counter_there i + (2 ^ 24 - 1)) % 2 ^ 24)) 31 (cond (nat_lt (counter_there i) 1) 1 0))
          ∙ put_all_held t names (values 0 0 0 0 0 0 d 0 x y z s 0 0) ((0, low_byte (less_one d)) ∷ (1, mid_byte (less_one d)) ∷ (2, high_byte (less_one d)) ∷ (9, borrow) ∷ []) names_apart refl refl

      goes_there : put (now 0 0 0 0 0 0 (less_one d) borrow x y z s 0 0) 36 ((get (now 0 0 0 0 0 0 (less_one d) borrow x y z s 0 0) 36 + 1) % 2 ^ 8) ≡ now 0 0 0 0 0 0 (less_one d) borrow x y z s 1 0
      goes_there =
          ap (λ u. put (now 0 0 0 0 0 0 (less_one d) borrow x y z s 0 0) 36 ((u + 1) % 2 ^ 8)) (got 0 0 0 0 0 0 (less_one d) borrow x y z s 0 0 22 (omega arith))
          ∙ put_all_held t names (values 0 0 0 0 0 0 (less_one d) borrow x y z s 0 0) ((22, 1) ∷ []) names_apart refl refl

      goes_or_stops : drained (now 0 0 0 0 0 0 (less_one d) borrow x y z s 1 0) 31 36 ≡ now 0 0 0 0 0 0 (less_one d) 0 x y z s (flag d) 0
      goes_or_stops =
          (λ i. put (put (now 0 0 0 0 0 0 (less_one d) borrow x y z s 1 0) 36 ((got 0 0 0 0 0 0 (less_one d) borrow x y z s 1 0 22 (omega arith) i + (2 ^ 8 - got 0 0 0 0 0 0 (less_one d) borrow x y z s 1 0 9 (omega arith) i)) % 2 ^ 8)) 31 0)
          ∙ (ap (λ u. put (put (now 0 0 0 0 0 0 (less_one d) borrow x y z s 1 0) 36 u) 31 0) (goes d)
          ∙ put_all_held t names (values 0 0 0 0 0 0 (less_one d) borrow x y z s 1 0) ((22, flag d) ∷ (9, 0) ∷ []) names_apart refl refl)

      marks : put (now 0 0 0 0 0 0 (less_one d) 0 x y z s (flag d) 0) 37 ((get (now 0 0 0 0 0 0 (less_one d) 0 x y z s (flag d) 0) 37 + 1) % 2 ^ 8) ≡ now 0 0 0 0 0 0 (less_one d) 0 x y z s (flag d) 1
      marks =
          ap (λ u. put (now 0 0 0 0 0 0 (less_one d) 0 x y z s (flag d) 0) 37 ((u + 1) % 2 ^ 8)) (got 0 0 0 0 0 0 (less_one d) 0 x y z s (flag d) 0 23 (omega arith))
          ∙ put_all_held t names (values 0 0 0 0 0 0 (less_one d) 0 x y z s (flag d) 0) ((23, 1) ∷ []) names_apart refl refl

-- the commands of calls, one after the other
pub record Link (p q : Piece) (long : ℕ) : Type 0 where
  pub added : List Command
  pub commands : q.commands ≡ p.commands ++ added
  pub short : length added ≤ long
  pub balanced : IsBalanced added

abbrev pub link : {p q : Piece} {k : Tape → Type 0} {e : List ℕ → Tape → Tape} {m l : ℕ} → Adds p q k e m l → Link p q l
link a = record { added = a.added; commands = a.commands; short = a.short; balanced = a.balanced }

abbrev pub link_then : {p q r : Piece} {k l : ℕ} → Link p q k → Link q r l → Link p r (k + l)
link_then {p = p} a b = record {
  added = a.added ++ b.added;
  commands = b.commands ∙ (ap (λ xs. xs ++ b.added) a.commands ∙ append_assoc p.commands a.added b.added);
  short = omega (arith, length-append a.added b.added, a.short, b.short);
  balanced = balanced_append a.added b.added a.balanced b.balanced;
}

-- a call at one tape
pub at : {p q : Piece} {k : Tape → Type 0} {e : List ℕ → Tape → Tape} {m l : ℕ} (a : Adds p q k e m l) (input : List ℕ) (s s' : Tape) → IsInput input → k s → e input s ≡ s' → Does input a.added p.cell s q.cell s' m
at {p = p} {q = q} {m = m} a input s s' is kind same = subst (λ u. Does input a.added p.cell s q.cell u m) same (a.does input s is kind)

-- a piece that begins with nothing, from a cell and back there
pub whole : {p q : Piece} {long : ℕ} (c : ℕ) (input : List ℕ) (s s' : Tape) (m : ℕ) (l : Link p q long) → p ≡ record { commands = []; cell = c } → q.cell ≡ c → Does input l.added p.cell s q.cell s' m → Does input q.commands c s c s' m
whole {p = p} {q = q} c input s s' m l first last does =
    let commands : q.commands ≡ l.added = l.commands ∙ ap (λ x. x.commands ++ l.added) first in
    subst (λ d. Does input q.commands c s d s' m) last (subst (λ d. Does input q.commands d s q.cell s' m) (ap (λ x. x.cell) first) (subst (λ xs. Does input xs p.cell s q.cell s' m) (sym commands) does))

pub out_adds : {p0 p1 p2 p3 p4 p5 p6 p7 p8 p9 : Piece} → p0 ≡ record { commands = []; cell = 0 } → p9.cell ≡ 0
    → Adds p0 p1 any (λ input s. put s 14 ((get s 14 + 255) % 2 ^ 8)) 512 512
    → Adds p1 p2 (λ s. word_in s 22 ≡ 0) (λ input s. carried_word 0 22 s) (3 * 2 ^ 18) (3 * 2 ^ 10)
    → Adds p2 p3 (λ s. word_in s 32 ≡ 0) (λ input s. carried_word 10 32 s) (3 * 2 ^ 18) (3 * 2 ^ 10)
    → Adds p3 p4 any (λ input s. moved s 13 35) (2 ^ 18) 1024
    → Adds p4 p5 (IsCounter 22) (λ input s. lowered_once 22 s) 512 512
    → Adds p5 p6 any (λ input s. put s 36 ((get s 36 + 1) % 2 ^ 8)) 512 512
    → Adds p6 p7 any (λ input s. drained s 31 36) (2 ^ 18) 1024
    → Adds p7 p8 any (λ input s. put s 37 ((get s 37 + 1) % 2 ^ 8)) 512 512
    → Adds p8 p9 any (λ input s. s) 255 255
    → GoesOut p9
out_adds {p0 = p0} {p9 = p9} first home a1 a2 a3 a4 a5 a6 a7 a8 a9 =
    let l = link_then (link_then (link_then (link_then (link_then (link_then (link_then (link_then (link a1) (link a2)) (link a3)) (link a4)) (link a5)) (link a6)) (link a7)) (link a8)) (link a9) in
    let commands : p9.commands ≡ l.added = l.commands ∙ ap (λ x. x.commands ++ l.added) first in
    record {
      home = home;
      balanced = subst (λ xs. IsBalanced xs) (sym commands) l.balanced;
      short = subst (λ xs. length xs ≤ 2 ^ 14) (sym commands) (omega (arith, l.short));
      does = λ input is t d x y z s free ld.
          let s0 : Tape = holding t carried (load_of d x y z 1 s) in
          let s' : Tape = holding (put (holding t carried zeros) 37 1) ahead (load_of (less_one d) x y z (flag d) s) in
          whole 0 input s0 s' (2 ^ 21 + 2 ^ 12) l first home (by_bytes l.balanced (λ bytes.
          let lx : x < 2 ^ 8 = subst (λ v. v < 2 ^ 8) (get_held t carried (load_of d x y z 1 s) 3 carried_apart (omega arith) refl) (bytes (t.base + 10)) in
          let ly : y < 2 ^ 8 = subst (λ v. v < 2 ^ 8) (get_held t carried (load_of d x y z 1 s) 4 carried_apart (omega arith) refl) (bytes (t.base + 11)) in
          let lz : z < 2 ^ 8 = subst (λ v. v < 2 ^ 8) (get_held t carried (load_of d x y z 1 s) 5 carried_apart (omega arith) refl) (bytes (t.base + 12)) in
          let ls : s < 2 ^ 8 = subst (λ v. v < 2 ^ 8) (get_held t carried (load_of d x y z 1 s) 7 carried_apart (omega arith) refl) (bytes (t.base + 13)) in
          let n0 : Tape = now t free d x y z s 1 0 0 0 0 0 0 0 0 in
          let n1 : Tape = now t free d x y z s 0 0 0 0 0 0 0 0 0 in
          let n2 : Tape = now t free 0 x y z s 0 d 0 0 0 0 0 0 0 in
          let n3 : Tape = now t free 0 0 0 0 s 0 d 0 x y z 0 0 0 in
          let n4 : Tape = now t free 0 0 0 0 0 0 d 0 x y z s 0 0 in
          let n5 : Tape = now t free 0 0 0 0 0 0 (less_one d) (cond (nat_lt d 1) 1 0) x y z s 0 0 in
          let n6 : Tape = now t free 0 0 0 0 0 0 (less_one d) (cond (nat_lt d 1) 1 0) x y z s 1 0 in
          let n7 : Tape = now t free 0 0 0 0 0 0 (less_one d) 0 x y z s (flag d) 0 in
          let n8 : Tape = now t free 0 0 0 0 0 0 (less_one d) 0 x y z s (flag d) 1 in
          let d1 = at a1 input n0 n1 is tt (stops_here t free d x y z s ld) in
          let d2 = at a2 input n1 n2 is (no_address t free d x y z s ld) (address_moved t free d x y z s ld) in
          let d3 = at a3 input n2 n3 is (no_value t free d x y z s ld lx ly lz ls) (value_moved t free d x y z s ld lx ly lz ls) in
          let d4 = at a4 input n3 n4 is tt (side_moved t free d x y z s ld lx ly lz ls) in
          let d5 = at a5 input n4 n5 is (counter_zeros t free d x y z s ld lx ly lz ls) (counted_down t free d x y z s ld lx ly lz ls) in
          let d6 = at a6 input n5 n6 is tt (goes_there t free d x y z s ld lx ly lz ls) in
          let d7 = at a7 input n6 n7 is tt (goes_or_stops t free d x y z s ld lx ly lz ls) in
          let d8 = at a8 input n7 n8 is tt (marks t free d x y z s ld lx ly lz ls) in
          let d9 = at a9 input n8 n8 is tt refl in
          subst (λ u. Does input l.added p0.cell s0 p9.cell u (2 ^ 21 + 2 ^ 12)) (ends t free (less_one d) x y z s (flag d))
          (subst (λ u. Does input l.added p0.cell u p9.cell n8 (2 ^ 21 + 2 ^ 12)) (sym (begins t free d x y z s))
          (does_within (2 ^ 21 + 2 ^ 12) (does_then 2099455 (does_then 2099200 (does_then 2098688 (does_then 1836544 (does_then 1836032 (does_then 1835520 (does_then 1573376 (does_then 786944 d1 d2 (omega arith)) d3 (omega arith)) d4 (omega arith)) d5 (omega arith)) d6 (omega arith)) d7 (omega arith)) d8 (omega arith)) d9 (omega arith)) (omega arith)))));
    }

module _ (t : Tape) (free : (c : ℕ) → 10 ≤ c → c < 13 → get t c ≡ 0) where
  abbrev cells : List ℕ
  cells = 32 ∷ 33 ∷ 34 ∷ 10 ∷ 11 ∷ 12 ∷ 37 ∷ []

  cells_apart : AreApart cells
  cells_apart = apart_of cells refl

  abbrev pub here : ℕ → ℕ → ℕ → ℕ → ℕ → ℕ → ℕ → Tape
  here a b c d e f g = holding t cells (a ∷ b ∷ c ∷ d ∷ e ∷ f ∷ g ∷ [])

  abbrev given : List ℕ
  given = get t 32 ∷ get t 33 ∷ get t 34 ∷ 0 ∷ 0 ∷ 0 ∷ get t 37 ∷ []

  bare : holding t cells given ≡ t
  bare = (λ i. here (get t 32) (get t 33) (get t 34) (sym (free 10 (omega arith) (omega arith)) i) (sym (free 11 (omega arith) (omega arith)) i) (sym (free 12 (omega arith) (omega arith)) i) (get t 37)) ∙ held t cells

  pub home_begins : (x y z : ℕ) → holding t (32 ∷ 33 ∷ 34 ∷ []) (x ∷ y ∷ z ∷ []) ≡ here x y z 0 0 0 (get t 37)
  home_begins x y z = ap (λ u. put_all u cells ((2, z) ∷ (1, y) ∷ (0, x) ∷ [])) (sym bare) ∙ put_all_held t cells given ((2, z) ∷ (1, y) ∷ (0, x) ∷ []) cells_apart refl refl

  pub home_ends : (x y z : ℕ) → here 0 0 0 x y z 0 ≡ holding (put (holding t (32 ∷ 33 ∷ 34 ∷ []) (0 ∷ 0 ∷ 0 ∷ [])) 37 0) (10 ∷ 11 ∷ 12 ∷ []) (x ∷ y ∷ z ∷ [])
  home_ends x y z =
      sym (ap (λ u. put_all u cells ((2, 0) ∷ (1, 0) ∷ (0, 0) ∷ (6, 0) ∷ (5, z) ∷ (4, y) ∷ (3, x) ∷ [])) (sym bare)
      ∙ put_all_held t cells given ((2, 0) ∷ (1, 0) ∷ (0, 0) ∷ (6, 0) ∷ (5, z) ∷ (4, y) ∷ (3, x) ∷ []) cells_apart refl refl)

  pub unmarked_here : (x y z g : ℕ) → put (here x y z 0 0 0 g) 37 0 ≡ here x y z 0 0 0 0
  unmarked_here x y z g = put_all_held t cells (x ∷ y ∷ z ∷ 0 ∷ 0 ∷ 0 ∷ g ∷ []) ((6, 0) ∷ []) cells_apart refl refl

  pub no_value_here : (x y z : ℕ) → word_in (here x y z 0 0 0 0) 10 ≡ 0
  no_value_here x y z =
      let vs : List ℕ = x ∷ y ∷ z ∷ 0 ∷ 0 ∷ 0 ∷ 0 ∷ [] in
      λ i. get_held t cells vs 3 cells_apart (omega arith) refl i + 256 * get_held t cells vs 4 cells_apart (omega arith) refl i + 65536 * get_held t cells vs 5 cells_apart (omega arith) refl i

  pub value_brought : (x y z : ℕ) → x < 2 ^ 8 → y < 2 ^ 8 → z < 2 ^ 8 → carried_word 32 10 (here x y z 0 0 0 0) ≡ here 0 0 0 x y z 0
  value_brought x y z lx ly lz =
      let vs : List ℕ = x ∷ y ∷ z ∷ 0 ∷ 0 ∷ 0 ∷ 0 ∷ [] in
      let v : ℕ = x + 256 * y + 65536 * z in
      let is : word_in (here x y z 0 0 0 0) 32 ≡ v = λ i. get_held t cells vs 0 cells_apart (omega arith) refl i + 256 * get_held t cells vs 1 cells_apart (omega arith) refl i + 65536 * get_held t cells vs 2 cells_apart (omega arith) refl i in
      ap (λ u. with_word (with_word (here x y z 0 0 0 0) 10 u) 32 0) is
      ∙ (put_all_held t cells vs ((3, low_byte v) ∷ (4, mid_byte v) ∷ (5, high_byte v) ∷ (0, 0) ∷ (1, 0) ∷ (2, 0) ∷ []) cells_apart refl refl
      ∙ (λ i. here 0 0 0 (bytes_low x y z lx ly lz i) (bytes_mid x y z lx ly lz i) (bytes_high x y z lx ly lz i) 0))

pub home_adds : {p0 p1 p2 p3 : Piece} → p0 ≡ record { commands = []; cell = 0 } → p3.cell ≡ 0
    → Adds p0 p1 any (λ input s. put s 37 0) 1024 258
    → Adds p1 p2 (λ s. word_in s 10 ≡ 0) (λ input s. carried_word 32 10 s) (3 * 2 ^ 18) (3 * 2 ^ 10)
    → Adds p2 p3 any (λ input s. s) 255 255
    → GoesHome p3
home_adds {p0 = p0} {p3 = p3} first home a1 a2 a3 =
    let l = link_then (link_then (link a1) (link a2)) (link a3) in
    let commands : p3.commands ≡ l.added = l.commands ∙ ap (λ x. x.commands ++ l.added) first in
    record {
      home = home;
      balanced = subst (λ xs. IsBalanced xs) (sym commands) l.balanced;
      short = subst (λ xs. length xs ≤ 2 ^ 13) (sym commands) (omega (arith, l.short));
      does = λ input is t x y z free.
          let s0 : Tape = holding t (32 ∷ 33 ∷ 34 ∷ []) (x ∷ y ∷ z ∷ []) in
          let s' : Tape = holding (put (holding t (32 ∷ 33 ∷ 34 ∷ []) (0 ∷ 0 ∷ 0 ∷ [])) 37 0) (10 ∷ 11 ∷ 12 ∷ []) (x ∷ y ∷ z ∷ []) in
          let three_apart : AreApart (32 ∷ 33 ∷ 34 ∷ []) = apart_of (32 ∷ 33 ∷ 34 ∷ []) refl in
          whole 0 input s0 s' (2 ^ 20) l first home (by_bytes l.balanced (λ bytes.
          let lx : x < 2 ^ 8 = subst (λ v. v < 2 ^ 8) (get_held t (32 ∷ 33 ∷ 34 ∷ []) (x ∷ y ∷ z ∷ []) 0 three_apart (omega arith) refl) (bytes (t.base + 32)) in
          let ly : y < 2 ^ 8 = subst (λ v. v < 2 ^ 8) (get_held t (32 ∷ 33 ∷ 34 ∷ []) (x ∷ y ∷ z ∷ []) 1 three_apart (omega arith) refl) (bytes (t.base + 33)) in
          let lz : z < 2 ^ 8 = subst (λ v. v < 2 ^ 8) (get_held t (32 ∷ 33 ∷ 34 ∷ []) (x ∷ y ∷ z ∷ []) 2 three_apart (omega arith) refl) (bytes (t.base + 34)) in
          let n0 : Tape = here t free x y z 0 0 0 (get t 37) in
          let n1 : Tape = here t free x y z 0 0 0 0 in
          let n2 : Tape = here t free 0 0 0 x y z 0 in
          let d1 = at a1 input n0 n1 is tt (unmarked_here t free x y z (get t 37)) in
          let d2 = at a2 input n1 n2 is (no_value_here t free x y z) (value_brought t free x y z lx ly lz) in
          let d3 = at a3 input n2 n2 is tt refl in
          subst (λ u. Does input l.added p0.cell s0 p3.cell u (2 ^ 20)) (home_ends t free x y z)
          (subst (λ u. Does input l.added p0.cell u p3.cell n2 (2 ^ 20)) (sym (home_begins t free x y z))
          (does_within (2 ^ 20) (does_then 787711 (does_then 787456 d1 d2 (omega arith)) d3 (omega arith)) (omega arith)))));
    }
