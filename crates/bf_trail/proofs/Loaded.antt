-- A word from a half record to lane y.
use Rattle.std.proofs.Common.{◌≡◌, ◌≢◌, ℕ, suc, ◌+◌, ◌-◌, ◌*◌, ◌/◌, ◌%◌, ◌<◌, ◌≤◌, List, [], ◌∷◌, ◌++◌, refl, sym, ap, ◌∙◌, arith}
use Rattle.bf_lang.specs.declared.command.Command.TheVariants.{Right, Left, Plus, Minus}
use Rattle.bf_lang.specs.Balance.{IsBalanced}
use Rattle.bf_lang.specs.Cells.{raised}
use Rattle.bf_lang.proofs.Partners.{balanced_append}
use Rattle.bf_tape.specs.Tape.{Tape, get, put}
use Rattle.bf_tape.specs.Does.{Does, loop}
use Rattle.bf_tape.specs.Slots.{holding, AreApart, IsNew}
use Rattle.bf_tape.specs.Code.{many}
use Rattle.bf_tape.proofs.Slotted.{get_held, get_free, held}
use Rattle.bf_tape.proofs.Moves.{does_loop, does_within}
use Rattle.bf_tape.proofs.Pieces.{does_rights, does_lefts, counted, minus_at, plus_at, balanced_many}
use Rattle.bf_tape.proofs.Turning.{get_other}
use Rattle.bf_columns.specs.Lanes.{lane_cell}
use Rattle.bf_columns.specs.Deal.{row_of, dealt, deal_code, units_code}
use Rattle.bf_columns.proofs.Tapes.{next, between, comes_to, goes_from, put_is, put_swap}
use Rattle.bf_columns.proofs.Dealt.{bytes_dealt}
use Rattle.bf_columns.proofs.UnitsGiven.{units_give}
use Rattle.bf_trail.specs.Trail.{laid, IsBlank}
use Rattle.bf_trail.specs.Nest.{trail}
use Rattle.bf_trail.specs.Sides.{end_of, half, sided, AtHalf}
use Rattle.bf_trail.specs.Fetch.{unit_code, fetched}
use Rattle.bf_trail.specs.Load.{byte_code, load_code, IsIdle, lanes_of, given, IsEmpty, BytesAreLoaded, WordsAreLoaded}
use Rattle.bf_trail.proofs.Marks.{get_laid_other, laid_put}
use Rattle.bf_trail.proofs.Sided.{reached, trails_taken_up}
use Rattle.bf_trail.proofs.Fetched.{trips_are_units}

-- lanes stand left of the trail
new_lanes : (i c : ℕ) → i < 3 → 164 ≤ c → IsNew c (lanes_of i)
new_lanes i c li le = (omega arith, (omega arith, (omega arith, (omega arith, tt))))

module _ (input : List ℕ) (t : Tape) (n side i v : ℕ) (ls : side < 2) (li : i < 3) (lv : v < 256) (at : AtHalf t trail n side) (idle : IsIdle t (half trail n side)) (is : get t (half trail n side + 1 + i) ≡ v) (empty : IsEmpty t i) where
  abbrev p : ℕ
  p = half trail n side

  abbrev g : ℕ
  g = p + 4

  abbrev byte : ℕ
  byte = p + 1 + i

  abbrev two : List ℕ
  two = byte ∷ (p + 8) ∷ []

  apart_two : AreApart two
  apart_two = ((omega arith, tt), (tt, tt))

  -- the byte goes to where it is dealt
  abbrev passing : ℕ → Tape
  passing k = holding t two (k ∷ (v - k) ∷ [])

  pass_turn : (k : ℕ) → k < v → Does input (Minus ∷ many (7 - i) Right ++ (Plus ∷ []) ++ many (7 - i) Left) byte (passing (suc k)) byte (passing k) 17
  pass_turn k lt =
      let e : byte + (7 - i) ≡ p + 8 = omega arith in
      let up : raised (v - suc k) ≡ v - k = omega arith in
      let mid : Tape = holding t two (k ∷ (v - suc k) ∷ []) in
      does_within 17
      (next (next (next (minus_at input t two apart_two (suc k ∷ (v - suc k) ∷ []) 0 (omega arith) refl) (between byte (p + 8) (does_rights input (7 - i) byte mid) refl e))
      (comes_to (passing k) (plus_at input t two apart_two (k ∷ (v - suc k) ∷ []) 1 (omega arith) refl) (ap (λ x. holding t two (k ∷ x ∷ [])) up)))
      (between (p + 8) byte (does_lefts input (7 - i) byte (passing k)) e refl)) (omega arith)

  pass_balanced : IsBalanced (Minus ∷ many (7 - i) Right ++ (Plus ∷ []) ++ many (7 - i) Left)
  pass_balanced =
      balanced_append (Minus ∷ many (7 - i) Right ++ (Plus ∷ [])) (many (7 - i) Left)
      (balanced_append (Minus ∷ many (7 - i) Right) (Plus ∷ []) (balanced_append (Minus ∷ []) (many (7 - i) Right) refl (balanced_many (7 - i) Right refl)) refl) (balanced_many (7 - i) Left refl)

  passed_all : Does input (loop (Minus ∷ many (7 - i) Right ++ (Plus ∷ []) ++ many (7 - i) Left)) byte t byte (passing 0) (v * 18 + 1)
  passed_all =
      let start : passing v ≡ t = (let z : v - v ≡ 0 = omega arith in (λ j. holding t two (sym is j ∷ (z ∙ sym idle.byte) j ∷ [])) ∙ held t two) in
      goes_from t (does_loop pass_balanced (counted input (Minus ∷ many (7 - i) Right ++ (Plus ∷ []) ++ many (7 - i) Left) byte 17 v passing (λ k. get_held t two (k ∷ (v - k) ∷ []) 0 apart_two (omega arith) refl) pass_turn v (omega arith))) start

  -- no digit yet
  none_given : fetched t p i (λ j. 0) ≡ put t byte 0
  none_given = ap (λ u. put u byte 0) ((λ j. holding t (lanes_of i) (sym empty.first j ∷ sym empty.second j ∷ sym empty.third j ∷ sym empty.fourth j ∷ [])) ∙ held t (lanes_of i))

  -- a cell to work in, on a tape that is told by it
  abbrev Idle : Tape → Type 0
  Idle u = (get u (g + 4 * 4) ≡ 0) × (get u (g + 2 * 4) ≡ 0)

  row_begun : row_of (fetched t p i (λ j. 0)) g 4 v 0 0 ≡ passing 0
  row_begun =
      let u : Tape = put t byte 0 in
      let q : g + 4 * 4 ≡ p + 20 = omega arith in
      let r : g + 2 * 4 ≡ p + 12 = omega arith in
      let w : g + 4 ≡ p + 8 = omega arith in
      let zq : get u (g + 4 * 4) ≡ 0 = get_other t byte (g + 4 * 4) 0 (λ e. absurd (omega arith)) ∙ (ap (get t) q ∙ idle.quarter) in
      let zr : get u (g + 2 * 4) ≡ 0 = get_other t byte (g + 2 * 4) 0 (λ e. absurd (omega arith)) ∙ (ap (get t) r ∙ idle.rest) in
      let z : v - 0 ≡ v = omega arith in
      ap (λ x. put (put (put x (g + 4 * 4) 0) (g + 2 * 4) 0) (g + 4) v) none_given
      ∙ (ap (λ x. put (put x (g + 2 * 4) 0) (g + 4) v) (put_is u (g + 4 * 4) 0 zq)
      ∙ (ap (λ x. put x (g + 4) v) (put_is u (g + 2 * 4) 0 zr)
      ∙ (ap (λ c. put u c v) w ∙ (put_swap t byte (p + 8) 0 v (λ e. absurd (omega arith)) ∙ ap (λ x. put (put t (p + 8) x) byte 0) (sym z)))))

  row_ended : row_of (fetched t p i (dealt v (λ j. 0))) g 4 0 0 0 ≡ given t i v
  row_ended =
      let u : Tape = given t i v in
      let ds : List ℕ = v % 4 ∷ v / 4 % 4 ∷ v / 16 % 4 ∷ v / 64 ∷ [] in
      let kept : (c : ℕ) → 164 ≤ c → get u c ≡ get t c = λ c le. get_free t c (lanes_of i) ds (new_lanes i c li le) in
      let total : (v % 4 + 4 * (v / 4 % 4) + 16 * (v / 16 % 4) + 64 * (v / 64)) % 256 ≡ v = omega arith in
      let b : fetched t p i (dealt v (λ j. 0)) ≡ u = ap (put u byte) total ∙ put_is u byte v (kept byte (omega arith) ∙ is) in
      let q : g + 4 * 4 ≡ p + 20 = omega arith in
      let r : g + 2 * 4 ≡ p + 12 = omega arith in
      let w : g + 4 ≡ p + 8 = omega arith in
      ap (λ x. put (put (put x (g + 4 * 4) 0) (g + 2 * 4) 0) (g + 4) 0) b
      ∙ (ap (λ x. put (put x (g + 2 * 4) 0) (g + 4) 0) (put_is u (g + 4 * 4) 0 (kept (g + 4 * 4) (omega arith) ∙ (ap (get t) q ∙ idle.quarter)))
      ∙ (ap (λ x. put x (g + 4) 0) (put_is u (g + 2 * 4) 0 (kept (g + 2 * 4) (omega arith) ∙ (ap (get t) r ∙ idle.rest)))
      ∙ put_is u (g + 4) 0 (kept (g + 4) (omega arith) ∙ (ap (get t) w ∙ idle.byte))))

  pub byte_loaded : Does input (byte_code i) p t p (given t i v) (216 * n + 22000)
  byte_loaded =
      let e : p + (1 + i) ≡ byte = omega arith in
      let f : byte + (7 - i) ≡ g + 4 = omega arith in
      let h : p + 8 ≡ g + 4 = omega arith in
      let cost : ℕ = 18 * n + 500 in
      let gives = units_give input (fetched t p i) g 4 cost (unit_code i) (omega arith) (trips_are_units input t n side i ls li at idle.free) in
      let deal = bytes_dealt input (fetched t p i) g 4 (3 * cost + 7 + 4) (λ j. units_code 4 (unit_code i j)) (loop (Minus ∷ unit_code i 3)) (λ j. 0) v (omega arith) lv gives refl refl refl refl in
      let dealt_out : Does input (deal_code 4 (λ j. units_code 4 (unit_code i j)) (loop (Minus ∷ unit_code i 3))) (g + 4) (passing 0) (g + 4) (given t i v) (4 * (3 * cost + 7 + 4) + 1800 * 4 + 4000) =
      comes_to (given t i v) (goes_from (passing 0) deal row_begun) row_ended in
      does_within (216 * n + 22000)
      (next (next (next (next (between p byte (does_rights input (1 + i) p t) refl e) passed_all)
      (between byte (g + 4) (does_rights input (7 - i) byte (passing 0)) refl f)) dealt_out)
      (between (g + 4) p (does_lefts input 8 p (given t i v)) h refl)) (omega arith)

pub bytes_loaded : BytesAreLoaded
bytes_loaded input t n side i v ls li lv at idle is empty = byte_loaded input t n side i v ls li lv at idle is empty

-- what lies right of the lanes is the same with digits in them
module _ (t : Tape) (i v : ℕ) (li : i < 3) where
  given_kept : (c : ℕ) → 164 ≤ c → get (given t i v) c ≡ get t c
  given_kept c le = get_free t c (lanes_of i) (v % 4 ∷ v / 4 % 4 ∷ v / 16 % 4 ∷ v / 64 ∷ []) (new_lanes i c li le)

  given_at : (n side : ℕ) → AtHalf t trail n side → AtHalf (given t i v) trail n side
  given_at n side at = record {
    trail = record {
      before = given_kept trail (omega arith) ∙ at.trail.before;
      marks = λ k lt. given_kept (trail + 8 * (k + 1)) (omega arith) ∙ at.trail.marks k lt;
      end = given_kept (trail + 8 * (n + 1)) (omega arith) ∙ at.trail.end;
    };
    beside = given_kept (end_of trail n + 4) (omega arith) ∙ at.beside;
    guard = given_kept (half trail n side + 4) (omega arith) ∙ at.guard;
  }

  given_idle : (p : ℕ) → 164 ≤ p → IsIdle t p → IsIdle (given t i v) p
  given_idle p le idle = record {
    byte = given_kept (p + 8) (omega arith) ∙ idle.byte;
    rest = given_kept (p + 12) (omega arith) ∙ idle.rest;
    free = given_kept (p + 16) (omega arith) ∙ idle.free;
    quarter = given_kept (p + 20) (omega arith) ∙ idle.quarter;
  }

  -- another byte's lanes
  given_empty : (k : ℕ) → k < 3 → k ≢ i → IsEmpty t k → IsEmpty (given t i v) k
  given_empty k lk ne e = record {
    first = other (lane_cell 6 (4 * k + 0)) (omega arith, (omega arith, (omega arith, (omega arith, tt)))) ∙ e.first;
    second = other (lane_cell 6 (4 * k + 1)) (omega arith, (omega arith, (omega arith, (omega arith, tt)))) ∙ e.second;
    third = other (lane_cell 6 (4 * k + 2)) (omega arith, (omega arith, (omega arith, (omega arith, tt)))) ∙ e.third;
    fourth = other (lane_cell 6 (4 * k + 3)) (omega arith, (omega arith, (omega arith, (omega arith, tt)))) ∙ e.fourth;
  }
    where
      other : (c : ℕ) → IsNew c (lanes_of i) → get (given t i v) c ≡ get t c
      other c new = get_free t c (lanes_of i) (v % 4 ∷ v / 4 % 4 ∷ v / 16 % 4 ∷ v / 64 ∷ []) new

-- a cell left of the trail, put before or after the trail is laid
sided_put : (s : Tape) (n side c v : ℕ) → c < 164 → sided (put s c v) trail n side ≡ put (sided s trail n side) c v
sided_put s n side c v lt =
    ap (λ x. put x (end_of trail n + 4) side) (laid_put s (trail + 8) n c v (λ k lk e. absurd (omega arith)))
    ∙ put_swap (laid s (trail + 8) n) c (end_of trail n + 4) v side (λ e. absurd (omega arith))

given_sided : (s : Tape) (n side i v : ℕ) → given (sided s trail n side) i v ≡ sided (given s i v) trail n side
given_sided s n side i v =
    let c0 : ℕ = lane_cell 6 (4 * i + 0) in let c1 : ℕ = lane_cell 6 (4 * i + 1) in let c2 : ℕ = lane_cell 6 (4 * i + 2) in let c3 : ℕ = lane_cell 6 (4 * i + 3) in
    let d0 : ℕ = v % 4 in let d1 : ℕ = v / 4 % 4 in let d2 : ℕ = v / 16 % 4 in let d3 : ℕ = v / 64 in
    let s3 : Tape = put s c3 d3 in let s2 : Tape = put s3 c2 d2 in let s1 : Tape = put s2 c1 d1 in
    sym (sided_put s1 n side c0 d0 (omega arith)
    ∙ (ap (λ x. put x c0 d0) (sided_put s2 n side c1 d1 (omega arith))
    ∙ (ap (λ x. put (put x c1 d1) c0 d0) (sided_put s3 n side c2 d2 (omega arith))
    ∙ ap (λ x. put (put (put x c2 d2) c1 d1) c0 d0) (sided_put s n side c3 d3 (omega arith)))))

-- what is blank stays so
given_blank : (s : Tape) (i v : ℕ) → i < 3 → IsBlank s (trail + 8) → IsBlank (given s i v) (trail + 8)
given_blank s i v li blank = record { at = λ k. given_kept s i v li (trail + 8 + 4 * k) (omega arith) ∙ blank.at k }

-- a cell beside the trail's marks
pub sided_other : (s : Tape) (n side c : ℕ) → ((k : ℕ) → k < n → trail + 8 + 8 * k ≢ c) → end_of trail n + 4 ≢ c → get (sided s trail n side) c ≡ get s c
sided_other s n side c off beside = get_other (laid s (trail + 8) n) (end_of trail n + 4) c side beside ∙ get_laid_other s (trail + 8) n c off

module _ (input : List ℕ) (s : Tape) (n side a b c : ℕ) (ls : side < 2) (la : a < 256) (lb : b < 256) (lc : c < 256) (blank : IsBlank s (trail + 8)) (none : get s trail ≡ 0) (is_a : get s (half trail n side + 1 + 0) ≡ a) (is_b : get s (half trail n side + 1 + 1) ≡ b) (is_c : get s (half trail n side + 1 + 2) ≡ c) (e0 : IsEmpty s 0) (e1 : IsEmpty s 1) (e2 : IsEmpty s 2) where
  abbrev p' : ℕ
  p' = half trail n side

  abbrev t0 : Tape
  t0 = sided s trail n side

  -- lanes and the half record's bytes, on the tape with the trail
  lane_kept : (c : ℕ) → c < 164 → get t0 c ≡ get s c
  lane_kept c lt = sided_other s n side c (λ k lk e. absurd (omega arith)) (λ e. absurd (omega arith))

  empty_on : (i : ℕ) → IsEmpty s i → IsEmpty t0 i
  empty_on i e = record {
    first = lane_kept (lane_cell 6 (4 * i + 0)) (omega arith) ∙ e.first;
    second = lane_kept (lane_cell 6 (4 * i + 1)) (omega arith) ∙ e.second;
    third = lane_kept (lane_cell 6 (4 * i + 2)) (omega arith) ∙ e.third;
    fourth = lane_kept (lane_cell 6 (4 * i + 3)) (omega arith) ∙ e.fourth;
  }

  byte_kept : (i : ℕ) → i < 3 → get t0 (p' + 1 + i) ≡ get s (p' + 1 + i)
  byte_kept i li = sided_other s n side (p' + 1 + i) (λ k lk e. absurd (omega arith)) (λ e. absurd (omega arith))

  -- a mark place right of the half record
  mark_none : (m c : ℕ) → 2 ≤ m → p' + 4 * m ≡ c → get t0 c ≡ 0
  mark_none m c le e =
      let f : trail + 8 + 4 * (2 * n + side + m) ≡ c = omega arith in
      sided_other s n side c (λ k lk g. absurd (omega arith)) (λ g. absurd (omega arith)) ∙ (ap (get s) (sym f) ∙ blank.at (2 * n + side + m))

  idle0 : IsIdle t0 p'
  idle0 = record {
    byte = mark_none 2 (p' + 8) (omega arith) (omega arith);
    rest = mark_none 3 (p' + 12) (omega arith) (omega arith);
    free = mark_none 4 (p' + 16) (omega arith) (omega arith);
    quarter = mark_none 5 (p' + 20) (omega arith) (omega arith);
  }

  at0 : AtHalf t0 trail n side
  at0 = (trails_taken_up input s trail n side ls blank none).0

  pub word_loaded : Does input load_code trail t0 trail (given (given (given s 0 a) 1 b) 2 c) (700 * n + 67000)
  word_loaded =
      let t1 : Tape = given t0 0 a in
      let t2 : Tape = given t1 1 b in
      let t3 : Tape = given t2 2 c in
      let l0 : 0 < 3 = omega arith in let l1 : 1 < 3 = omega arith in let l2 : 2 < 3 = omega arith in
      let at1 = given_at t0 0 a l0 n side at0 in
      let at2 = given_at t1 1 b l1 n side at1 in
      let idle1 = given_idle t0 0 a l0 p' (omega arith) idle0 in
      let idle2 = given_idle t1 1 b l1 p' (omega arith) idle1 in
      let b1 : get t1 (p' + 1 + 1) ≡ b = given_kept t0 0 a l0 (p' + 1 + 1) (omega arith) ∙ (byte_kept 1 l1 ∙ is_b) in
      let b2 : get t2 (p' + 1 + 2) ≡ c = given_kept t1 1 b l1 (p' + 1 + 2) (omega arith) ∙ (given_kept t0 0 a l0 (p' + 1 + 2) (omega arith) ∙ (byte_kept 2 l2 ∙ is_c)) in
      let f1 = given_empty t0 0 a l0 1 l1 (λ e. absurd (omega arith)) (empty_on 1 e1) in
      let f2 = given_empty t1 1 b l1 2 l2 (λ e. absurd (omega arith)) (given_empty t0 0 a l0 2 l2 (λ e. absurd (omega arith)) (empty_on 2 e2)) in
      let first = byte_loaded input t0 n side 0 a ls l0 la at0 idle0 (byte_kept 0 l0 ∙ is_a) (empty_on 0 e0) in
      let second = byte_loaded input t1 n side 1 b ls l1 lb at1 idle1 b1 f1 in
      let third = byte_loaded input t2 n side 2 c ls l2 lc at2 idle2 b2 f2 in
      let s3 : Tape = given (given (given s 0 a) 1 b) 2 c in
      let is : t3 ≡ sided s3 trail n side =
      ap (λ x. given (given x 1 b) 2 c) (given_sided s n side 0 a) ∙ (ap (λ x. given x 2 c) (given_sided (given s 0 a) n side 1 b) ∙ given_sided (given (given s 0 a) 1 b) n side 2 c) in
      let blank3 = given_blank (given (given s 0 a) 1 b) 2 c l2 (given_blank (given s 0 a) 1 b l1 (given_blank s 0 a l0 blank)) in
      let none3 : get s3 trail ≡ 0 = given_kept (given (given s 0 a) 1 b) 2 c l2 trail (omega arith) ∙ (given_kept (given s 0 a) 1 b l1 trail (omega arith) ∙ (given_kept s 0 a l0 trail (omega arith) ∙ none)) in
      let up = (trails_taken_up input s3 trail n side ls blank3 none3).1 in
      does_within (700 * n + 67000)
      (next (next (next (next (reached input t0 trail n side ls at0).out first) second) third) (goes_from t3 up (sym is))) (omega arith)

pub words_loaded : WordsAreLoaded
words_loaded input s n side a b c ls la lb lc blank none is_a is_b is_c e0 e1 e2 = word_loaded input s n side a b c ls la lb lc blank none is_a is_b is_c e0 e1 e2
