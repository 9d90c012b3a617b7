-- Reading pieces from left to right, against the places of all of them.
use Rattle.std.proofs.Common.{◌≡◌, ℕ, zero, suc, ◌+◌, ◌-◌, ◌<◌, ◌≤◌, Bool, true, false, not, cond, ◌&&◌, ◌||◌, ◌==◌, List, [], ◌∷◌, ◌++◌, length, take, drop, get_or, Option, None, Some, slice_get, refl, sym, ap, subst, ◌∙◌, arith, zero-add, add-zero, add_assoc}
use Rattle.std.specs.List.{prefix_len}
use Rattle.std.proofs.lemmas.Bool.Decides.{nat_tests}
use Rattle.std.proofs.lemmas.Bool.{eqb-true, eqb-false}
use Rattle.std.proofs.lemmas.List.{length-take, length-drop, drop-drop, drop_more, drop_all}
use Rattle.piet_image.specs.Pieces.{is_separator, is_other, is_comment, blanked, uncommented, begun_at, places_from, places, first_piece, piece_at}
use Rattle.piet_image.specs.Reading.{IsAt, IsFront, IsRead}

abbrev pub is_inner : ℕ → Bool
is_inner byte = not (is_separator byte) && not (byte == 35)

suc_one : (n : ℕ) → 1 + n ≡ suc n
suc_one n = omega arith

pub at_head : (xs : List ℕ) (k x : ℕ) (ys : List ℕ) → drop k xs ≡ x ∷ ys → slice_get xs k ≡ Some x
at_head [] zero x ys e = cc
at_head [] (suc k) x ys e = cc
at_head (z ∷ zs) zero x ys e = cc
at_head (z ∷ zs) (suc k) x ys e = at_head zs k x ys e

after_head : (xs : List ℕ) (k x : ℕ) (ys : List ℕ) → drop k xs ≡ x ∷ ys → drop (suc k) xs ≡ ys
after_head [] zero x ys e = cc
after_head [] (suc k) x ys e = cc
after_head (z ∷ zs) zero x ys e = cc
after_head (z ∷ zs) (suc k) x ys e = after_head zs k x ys e

more_left : (xs : List ℕ) (k x : ℕ) (ys : List ℕ) → drop k xs ≡ x ∷ ys → suc k ≤ length xs
more_left xs k x ys e = omega (arith, length-drop k xs, ap length e)

pub length-blanked : (before : Bool) (bytes : List ℕ) → length (blanked before bytes) ≡ length bytes
length-blanked before [] = refl
length-blanked before (byte ∷ bytes) = ap suc (length-blanked (is_comment before byte) bytes)

-- a separator in front begins no piece
past_separator : (at byte : ℕ) (bytes : List ℕ) → is_separator byte ≡ true → places_from at false (byte ∷ bytes) ≡ places_from (suc at) false bytes
past_separator at byte bytes e = rw e refl

-- separators and comments, up to an index
pub record IsGap (bytes : List ℕ) (i : ℕ) (open_comment : Bool) : Type 0 where
  pub shape : drop i (uncommented bytes) ≡ blanked open_comment (drop i bytes)
  pub places : (at : ℕ) → places_from at false (uncommented bytes) ≡ places_from (at + i) false (blanked open_comment (drop i bytes))

pub gap_none : (bytes : List ℕ) → IsGap bytes 0 false
gap_none bytes = record { shape = refl; places = λ at. ap (λ a. places_from a false (uncommented bytes)) (sym (add-zero at)) }

shown_separator : (inside : Bool) (byte : ℕ) → (inside || is_separator byte) ≡ true → is_separator (cond inside 32 byte) ≡ true
shown_separator true byte e = refl
shown_separator false byte e = e

pub gap_more : (bytes : List ℕ) (i : ℕ) (open_comment : Bool) → i < length bytes → IsGap bytes i open_comment
    → (is_comment open_comment (get_or bytes i 0) || is_separator (get_or bytes i 0)) ≡ true → IsGap bytes (i + 1) (is_comment open_comment (get_or bytes i 0))
gap_more bytes i o below gap e =
    let byte = get_or bytes i 0 in
    let inside = is_comment o byte in
    let rest = drop (i + 1) bytes in
    let split : drop i bytes ≡ byte ∷ rest = drop_more bytes i 0 below in
    let shape : drop i (uncommented bytes) ≡ cond inside 32 byte ∷ blanked inside rest = gap.shape ∙ ap (blanked o) split in
    let one : i + 1 ≡ suc i = omega arith in
    record {
      shape = ap (λ j. drop j (uncommented bytes)) one ∙ after_head (uncommented bytes) i (cond inside 32 byte) (blanked inside rest) shape;
      places = λ at.
          let next : suc (at + i) ≡ at + (i + 1) = omega arith in
          gap.places at ∙ (ap (λ t. places_from (at + i) false (blanked o t)) split
          ∙ (past_separator (at + i) (cond inside 32 byte) (blanked inside rest) (shown_separator inside byte e)
          ∙ ap (λ a. places_from a false (blanked inside rest)) next));
    }

-- behind a gap the text is read as from its front
at_behind : (text bytes : List ℕ) (k i : ℕ) (o : Bool) → IsAt text k bytes → IsGap bytes i o → i ≤ length bytes → blanked o (drop i bytes) ≡ uncommented (drop i bytes) → IsAt text k (drop i bytes)
at_behind text bytes k i o at gap within same =
    let short = at.within in
    let left = length-drop i bytes in
    let place : length text - length (drop i bytes) ≡ (length text - length bytes) + i = omega (arith, left, short, within) in
    record {
      within = omega (arith, left, short);
      whole = ap (λ n. drop n (uncommented text)) place ∙ (sym (drop-drop i (length text - length bytes) (uncommented text)) ∙ (ap (drop i) at.whole ∙ (gap.shape ∙ same)));
      read = at.read;
      next = at.next ∙ (gap.places (length text - length bytes) ∙ (ap (places_from ((length text - length bytes) + i) false) same
          ∙ ap (λ n. places_from n false (uncommented (drop i bytes))) (sym place)));
    }

-- no comment is open at a byte that ends a gap
closed_there : (o : Bool) (byte : ℕ) (rest : List ℕ) → is_comment o byte ≡ false → is_separator byte ≡ false → blanked o (byte ∷ rest) ≡ blanked false (byte ∷ rest)
closed_there true byte rest inside sep = absurd (ten (byte == 10) refl inside)
  where
    ten : (b : Bool) → (byte == 10) ≡ b → not b ≡ false → ⊥
    ten true e h = let t : byte ≡ 10 = eqb-true byte 10 e in let s : is_separator 10 ≡ false = subst (λ x. is_separator x ≡ false) t sep in let p : true ≡ false = s in cc
    ten false e h = cc
closed_there false byte rest inside sep = refl

pub gap_all : (text bytes : List ℕ) (k : ℕ) (o : Bool) → IsGap bytes (length bytes) o → IsAt text k bytes → IsAt text k (drop (length bytes) bytes)
gap_all text bytes k o gap at =
    let none : drop (length bytes) bytes ≡ [] = drop_all (length bytes) bytes (omega arith) in
    at_behind text bytes k (length bytes) o at gap (omega arith) (ap (blanked o) none ∙ ap uncommented (sym none))

pub front_none : (bytes : List ℕ) → IsFront (drop (length bytes) bytes)
front_none bytes = subst IsFront (sym (drop_all (length bytes) bytes (omega arith))) tt

-- the first piece is cut in the same way with the comments and without
pub same_cut : (bytes : List ℕ) → first_piece (uncommented bytes) ≡ take (prefix_len is_inner bytes) bytes
same_cut [] = refl
same_cut (byte ∷ bytes) = go (same_cut bytes) (byte == 35) refl (is_separator byte) refl
  where
    go : first_piece (uncommented bytes) ≡ take (prefix_len is_inner bytes) bytes → (c : Bool) → (byte == 35) ≡ c → (s : Bool) → is_separator byte ≡ s → first_piece (uncommented (byte ∷ bytes)) ≡ take (prefix_len is_inner (byte ∷ bytes)) (byte ∷ bytes)
    go more true e true g = rw (e, g) refl
    go more true e false g = rw (e, g) refl
    go more false e true g = rw (e, g) refl
    go more false e false g = rw (e, g) (rw (suc_one (prefix_len is_inner bytes), suc_one (prefix_len is_other (blanked false bytes))) (ap (λ (xs : List ℕ). byte ∷ xs) more))

pub same_rest : (bytes : List ℕ) → drop (prefix_len is_inner bytes) (uncommented bytes) ≡ uncommented (drop (prefix_len is_inner bytes) bytes)
same_rest [] = refl
same_rest (byte ∷ bytes) = go (same_rest bytes) (byte == 35) refl (is_separator byte) refl
  where
    go : drop (prefix_len is_inner bytes) (uncommented bytes) ≡ uncommented (drop (prefix_len is_inner bytes) bytes) → (c : Bool) → (byte == 35) ≡ c → (s : Bool) → is_separator byte ≡ s → drop (prefix_len is_inner (byte ∷ bytes)) (uncommented (byte ∷ bytes)) ≡ uncommented (drop (prefix_len is_inner (byte ∷ bytes)) (byte ∷ bytes))
    go more true e true g = rw (e, g) (rw e refl)
    go more true e false g = rw (e, g) (rw e refl)
    go more false e true g = rw (e, g) (rw e refl)
    go more false e false g = rw (e, g) (rw (suc_one (prefix_len is_inner bytes)) more)

-- from inside a piece on
inside_piece : (at : ℕ) (bytes : List ℕ) → places_from at true (uncommented bytes) ≡ places_from (at + prefix_len is_inner bytes) false (uncommented (drop (prefix_len is_inner bytes) bytes))
inside_piece at [] = refl
inside_piece at (byte ∷ bytes) = go (inside_piece (suc at) bytes) (byte == 35) refl (is_separator byte) refl
  where
    go : places_from (suc at) true (uncommented bytes) ≡ places_from (suc at + prefix_len is_inner bytes) false (uncommented (drop (prefix_len is_inner bytes) bytes)) → (c : Bool) → (byte == 35) ≡ c → (s : Bool) → is_separator byte ≡ s → places_from at true (uncommented (byte ∷ bytes)) ≡ places_from (at + prefix_len is_inner (byte ∷ bytes)) false (uncommented (drop (prefix_len is_inner (byte ∷ bytes)) (byte ∷ bytes)))
    go more true e true g = rw (e, g) (rw (e, add-zero at) refl)
    go more true e false g = rw (e, g) (rw (e, add-zero at) refl)
    go more false e true g = rw (e, g) (rw (e, g, add-zero at) refl)
    go more false e false g =
        let n = prefix_len is_inner bytes in
        let next : suc at + n ≡ at + suc n = omega arith in
        rw (e, g) (rw (suc_one n) (more ∙ ap (λ a. places_from a false (uncommented (drop n bytes))) next))

pub record Cut (at : ℕ) (front : List ℕ) (n : ℕ) : Type 0 where
  pub begun : places_from at false (uncommented front) ≡ at ∷ places_from (at + n) false (uncommented (drop n front))
  pub some : 0 < n
  pub within : n ≤ length front

prefix_within : (p : ℕ → Bool) (xs : List ℕ) → prefix_len p xs ≤ length xs
prefix_within p [] = omega arith
prefix_within p (x ∷ xs) = let more = prefix_within p xs in elim (p x) as (λ b. cond b (1 + prefix_len p xs) 0 ≤ suc (length xs)) [ true ↦ omega arith | false ↦ omega arith ]

-- a piece that is there
cut_front : (at byte : ℕ) (bytes : List ℕ) → is_separator byte ≡ false → (byte ≡ 35 → ⊥) → Cut at (byte ∷ bytes) (prefix_len is_inner (byte ∷ bytes))
cut_front at byte bytes sep hash =
    let n = prefix_len is_inner bytes in
    let within = prefix_within is_inner bytes in
    let no : (byte == 35) ≡ false = other (byte == 35) refl in
    let one : prefix_len is_inner (byte ∷ bytes) ≡ suc n = rw (sep, no) (suc_one n) in
    let shown : uncommented (byte ∷ bytes) ≡ byte ∷ uncommented bytes = rw no refl in
    let next : suc at + n ≡ at + suc n = omega arith in
    let begun : places_from at false (byte ∷ uncommented bytes) ≡ at ∷ places_from (suc at) true (uncommented bytes) = rw sep refl in
    subst (Cut at (byte ∷ bytes)) (sym one) (record {
      begun = ap (places_from at false) shown ∙ (begun ∙ ap (λ (xs : List ℕ). at ∷ xs) (inside_piece (suc at) bytes ∙ ap (λ a. places_from a false (uncommented (drop n bytes))) next));
      some = omega arith;
      within = omega arith;
    })
  where
    other : (b : Bool) → (byte == 35) ≡ b → (byte == 35) ≡ false
    other true e = absurd (hash (eqb-true byte 35 e))
    other false e = e

cut_any : (at : ℕ) (front : List ℕ) → IsFront front → 0 < length front → Cut at front (prefix_len is_inner front)
cut_any at [] f some = absurd (omega arith)
cut_any at (byte ∷ bytes) f some = cut_front at byte bytes f.0 f.1

pub piece_read : (text front piece rest : List ℕ) (k n : ℕ) → n ≡ prefix_len is_inner front → piece ≡ take n front → rest ≡ drop n front → IsFront front → 0 < length front → IsAt text k front → IsRead text k piece rest
piece_read text front piece rest k n en ep er f some at =
    let p = length text - length front in
    let cut : Cut p front n = subst (Cut p front) (sym en) (cut_any p front f some) in
    let sizes : length rest + length piece ≡ length front = rw (ep, er) (omega (arith, length-take n front, length-drop n front, cut.within)) in
    let place : length text - (length rest + length piece) ≡ p = ap (λ m. length text - m) sizes in
    let next : drop k (places (uncommented text)) ≡ p ∷ places_from (p + n) false (uncommented (drop n front)) = at.next ∙ cut.begun in
    let short = at.within in
    let left : length rest + n ≡ length front = rw er (omega (arith, length-drop n front, cut.within)) in
    let there : length text - length rest ≡ p + n = omega (arith, left, short) in
    record {
      short = omega (arith, sizes, short);
      place = at_head (places (uncommented text)) k p _ next ∙ ap Some (sym place);
      piece_is = ap (piece_at (uncommented text)) place ∙ (ap first_piece at.whole ∙ (same_cut front ∙ (ap (λ m. take m front) (sym en) ∙ sym ep)));
      behind = record {
        within = omega (arith, left, short);
        whole = ap (λ m. drop m (uncommented text)) there ∙ (sym (drop-drop n p (uncommented text)) ∙ (ap (drop n) at.whole
            ∙ (ap (λ m. drop m (uncommented front)) en ∙ (same_rest front ∙ (ap (λ m. uncommented (drop m front)) (sym en) ∙ ap uncommented (sym er))))));
        read = more_left (places (uncommented text)) k p _ next;
        next = after_head (places (uncommented text)) k p _ next ∙ (ap (λ m. places_from m false (uncommented (drop n front))) (sym there) ∙ ap (λ r. places_from (length text - length rest) false (uncommented r)) (sym er));
      };
    }

pub none_read : (text front : List ℕ) (k : ℕ) → length front ≡ 0 → IsAt text k front → length (places (uncommented text)) ≡ k
none_read text [] k none at = omega (arith, length-drop k (places (uncommented text)), ap length at.next, at.read)
none_read text (byte ∷ bytes) k none at = absurd (omega arith)

pub at_start : (text : List ℕ) → IsAt text 0 text
at_start text =
    let zero_is : length text - length text ≡ 0 = omega arith in
    record {
      within = omega arith;
      whole = ap (λ n. drop n (uncommented text)) zero_is;
      read = omega arith;
      next = ap (λ n. places_from n false (uncommented text)) (sym zero_is);
    }

-- what a test for emptiness tells
pub some_of : (n : ℕ) (r : Bool) → r ≡ (n == 0) → r ≡ false → 0 < n
some_of n r e f = grind (arith, nat_tests)

pub none_of : (n : ℕ) (r : Bool) → r ≡ (n == 0) → r ≡ true → n ≡ 0
none_of n r e f = grind (arith, nat_tests)

-- `P3` at the front
first_two : (text : List ℕ) (x y : ℕ) → 2 ≤ length text → get_or text 0 0 ≡ x → get_or text 1 0 ≡ y → take 2 text ≡ x ∷ y ∷ []
first_two [] x y h e g = absurd (omega arith)
first_two (a ∷ []) x y h e g = absurd (omega arith)
first_two (a ∷ b ∷ text) x y h e g = rw (e, g) refl

pub magic_is : (text : List ℕ) (n : ℕ) → n ≡ prefix_len is_inner text → n ≡ 2 → n ≤ length text → get_or text 0 0 ≡ 80 → get_or text 1 0 ≡ 51 → piece_at (uncommented text) 0 ≡ 80 ∷ 51 ∷ []
magic_is text n en two within p three = same_cut text ∙ (ap (λ m. take m text) (sym en ∙ two) ∙ first_two text 80 51 (omega arith) p three)

front_of : (text : List ℕ) → 0 < length text → get_or text 0 0 ≡ 80 → IsFront text
front_of [] h e = absurd (omega arith)
front_of (a ∷ text) h e = subst (λ x. IsFront (x ∷ text)) (sym e) (refl, λ g. omega arith)

pub magic_read : (text rest : List ℕ) (n : ℕ) → n ≡ prefix_len is_inner text → n ≡ 2 → n ≤ length text → get_or text 0 0 ≡ 80 → rest ≡ drop 2 text → IsAt text 1 rest
magic_read text rest n en two within p er =
    (piece_read text text (take n text) rest 0 n en refl (er ∙ ap (λ m. drop m text) (sym two)) (front_of text (omega arith) p) (omega arith) (at_start text)).behind

two_first : (text : List ℕ) (m x y : ℕ) → take m text ≡ x ∷ y ∷ [] → m ≤ length text → (m ≡ 2) × (get_or text 0 0 ≡ x) × (get_or text 1 0 ≡ y)
two_first [] zero x y e h = cc
two_first [] (suc m) x y e h = cc
two_first (a ∷ text) zero x y e h = cc
two_first (a ∷ []) (suc zero) x y e h = cc
two_first (a ∷ []) (suc (suc m)) x y e h = absurd (omega arith)
two_first (a ∷ b ∷ text) (suc zero) x y e h = cc
two_first (a ∷ b ∷ text) (suc (suc zero)) x y e h = (refl, (let g : a ≡ x = cc in g), (let g : b ≡ y = cc in g))
two_first (a ∷ b ∷ []) (suc (suc (suc m))) x y e h = absurd (omega arith)
two_first (a ∷ b ∷ d ∷ text) (suc (suc (suc m))) x y e h = cc

pub magic_needs : (text : List ℕ) (n : ℕ) → n ≡ prefix_len is_inner text → n ≤ length text → piece_at (uncommented text) 0 ≡ 80 ∷ 51 ∷ [] → (n ≡ 2) × (get_or text 0 0 ≡ 80) × (get_or text 1 0 ≡ 51)
magic_needs text n en within e = two_first text n 80 51 (ap (λ m. take m text) en ∙ (sym (same_cut text) ∙ e)) within

-- one of two reasons to go on
pub by_comment : (inside comment separator : Bool) → inside ≡ comment → inside ≡ true → (comment || separator) ≡ true
by_comment inside comment separator e t = rw (sym e ∙ t) refl

pub by_separator : (separates comment separator : Bool) → separates ≡ separator → separates ≡ true → (comment || separator) ≡ true
by_separator separates true separator e t = refl
by_separator separates false separator e t = sym e ∙ t

pub none_left : (xs : List ℕ) (n : ℕ) → take (n - n) xs ≡ []
none_left xs n = let z : n - n ≡ 0 = omega arith in rw z refl
