-- Parts of code that is numbered and stands, and the blocks of the shift to the right.
use Rattle.std.proofs.Common.{◌≡◌, ℕ, zero, suc, ◌+◌, ◌*◌, ◌<◌, ◌≤◌, Bool, true, false, not, nat_le, List, [], ◌∷◌, ◌++◌, refl, subst, arith, if◌then◌else◌}
use Rattle.std.proofs.lemmas.Bool.{leb-true, leb-false}
use Rattle.eir_core.specs.Eir.{Eir, is_jump}
use Rattle.c_place.specs.Place.{Place}
use Rattle.c_routines.specs.declared.item.Item.{Item}
use Rattle.c_routines.specs.declared.item.Item.TheVariants.{Does, Label, Jump, JumpIf, MoveLabel}
use Rattle.c_routines.specs.Items.{Stands}
use Rattle.c_routines.specs.Cuts.{Numbered}
use Rattle.c_routines.specs.Parts.{PartsStand}
use Rattle.c_routines.specs.Right.{bits_left, pieces, right, HasTwoBlocks}

module _ (at : ℕ → ℕ) where
  pub numbered_front : (xs ys : List Item) (k : ℕ) (within : Bool) → Numbered at k within (xs ++ ys) → Numbered at k within xs
  numbered_front [] ys k within n = tt
  numbered_front (Label l ∷ xs) ys k false n = (n.0, n.1, numbered_front xs ys k false n.2)
  numbered_front (Label l ∷ xs) ys k true n = (n.0, n.1, numbered_front xs ys (suc k) false n.2)
  numbered_front (Does op ∷ xs) ys k within n = numbered_front xs ys (if is_jump op then suc k else k) (not (is_jump op)) n
  numbered_front (Jump l ∷ xs) ys k within n = numbered_front xs ys (suc k) false n
  numbered_front (JumpIf test l r v ∷ xs) ys k within n = numbered_front xs ys (suc k) false n
  numbered_front (MoveLabel r l ∷ xs) ys k within n = numbered_front xs ys k true n

  pub numbered_rest : (xs ys : List Item) (k : ℕ) (within : Bool) → Numbered at k within (xs ++ ys) → (j : ℕ) × (w : Bool) × Numbered at j w ys
  numbered_rest [] ys k within n = (k, within, n)
  numbered_rest (Label l ∷ xs) ys k false n = numbered_rest xs ys k false n.2
  numbered_rest (Label l ∷ xs) ys k true n = numbered_rest xs ys (suc k) false n.2
  numbered_rest (Does op ∷ xs) ys k within n = numbered_rest xs ys (if is_jump op then suc k else k) (not (is_jump op)) n
  numbered_rest (Jump l ∷ xs) ys k within n = numbered_rest xs ys (suc k) false n
  numbered_rest (JumpIf test l r v ∷ xs) ys k within n = numbered_rest xs ys (suc k) false n
  numbered_rest (MoveLabel r l ∷ xs) ys k within n = numbered_rest xs ys k true n

  pub stands_front : (p : Eir) (xs ys : List Item) (s : Place) → Stands p at s (xs ++ ys) → Stands p at s xs
  stands_front p [] ys s h = tt
  stands_front p (Label l ∷ xs) ys s h = (h.0, h.1, stands_front p xs ys s h.2)
  stands_front p (Does op ∷ xs) ys s h = (h.0, h.1, stands_front p xs ys h.0 h.2)
  stands_front p (Jump l ∷ xs) ys s h = (h.0, h.1, stands_front p xs ys h.0 h.2)
  stands_front p (JumpIf test l r v ∷ xs) ys s h = (h.0, h.1, stands_front p xs ys h.0 h.2)
  stands_front p (MoveLabel r l ∷ xs) ys s h = (h.0, h.1, stands_front p xs ys h.0 h.2)

  pub stands_rest : (p : Eir) (xs ys : List Item) (s : Place) → Stands p at s (xs ++ ys) → (t : Place) × Stands p at t ys
  stands_rest p [] ys s h = (s, h)
  stands_rest p (Label l ∷ xs) ys s h = stands_rest p xs ys s h.2
  stands_rest p (Does op ∷ xs) ys s h = stands_rest p xs ys h.0 h.2
  stands_rest p (Jump l ∷ xs) ys s h = stands_rest p xs ys h.0 h.2
  stands_rest p (JumpIf test l r v ∷ xs) ys s h = stands_rest p xs ys h.0 h.2
  stands_rest p (MoveLabel r l ∷ xs) ys s h = stands_rest p xs ys h.0 h.2

  -- ---- the blocks of the shift to the right

  pieces_apart : (base j k : ℕ) → at (bits_left base j) ≡ k → Numbered at k false (pieces base j) → (i : ℕ) → i ≤ j → at (bits_left base i) + 2 * i ≡ k + 2 * j
  unfolding pieces
  pieces_apart base zero k e n i le =
      let same : 0 ≡ i = omega (arith, le) in
      subst (λ z. at (bits_left base z) + 2 * z ≡ k + 2 * 0) same (omega (arith, e))
  pieces_apart base (suc j) k e n i le = go (nat_le i j) refl (λ below. pieces_apart base j (suc (suc k)) n.0 n.2 i below)
    where
      go : (x : Bool) → nat_le i j ≡ x → (i ≤ j → at (bits_left base i) + 2 * i ≡ suc (suc k) + 2 * j) → at (bits_left base i) + 2 * i ≡ k + 2 * suc j
      go true t below = let x = below (leb-true i j t) in omega (arith, x)
      go false t below =
          let lt : j < i = leb-false i j t in
          let same : suc j ≡ i = omega (arith, lt, le) in
          subst (λ z. at (bits_left base z) + 2 * z ≡ k + 2 * suc j) same (omega (arith, e))

  two_blocks_from : (base k : ℕ) → Numbered at k true (right base) → HasTwoBlocks at base
  two_blocks_from base k n i le =
      let x = pieces_apart base 23 (suc (suc (suc k))) n.2.0 n.2.2 i le in
      omega (arith, x, n.2.0)

  pub two_blocks : (base k : ℕ) (within : Bool) → Numbered at k within (right base) → HasTwoBlocks at base
  two_blocks base k true n = two_blocks_from base k n
  two_blocks base k false n = two_blocks_from base k n

pub parts : PartsStand
parts = record {
  front_numbered = numbered_front;
  rest_numbered = numbered_rest;
  front_stands = λ at p xs ys s h. stands_front at p xs ys s h;
  rest_stands = λ at p xs ys s h. stands_rest at p xs ys s h;
  two_blocks = two_blocks;
}
