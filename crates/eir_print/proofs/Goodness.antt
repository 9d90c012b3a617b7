-- What good blocks are, block by block.
use Rattle.std.proofs.Common.{◌≡◌, ℕ, suc, ◌+◌, ◌-◌, Bool, true, false, cond, ◌||◌, List, [], ◌∷◌, length, take, Some, None, refl, sym, ap, ◌∙◌, arith}
use Rattle.std.specs.List.{list_any, AllByRecursion}
use Rattle.std.proofs.lemmas.Iterator.Adapters.{position_from-zero}
use Rattle.std.specs.List.{position_from}
use Rattle.eir_core.specs.declared.ops.Op.{Op}
use Rattle.eir_core.specs.Eir.{Eir, IsEir, is_jump, is_empty, has_jump_inside}

-- a block with operations, and a jump only as the last one
abbrev pub IsGood : List Op → Type 0
IsGood ops = (is_empty ops ≡ false) × (has_jump_inside ops ≡ false)

nowhere : {X : Type 0} (p : X → Bool) (i : ℕ) (xs : List X) → position_from p i xs ≡ None → AllByRecursion (λ x. p x ≡ false) xs
nowhere p i [] h = tt
nowhere p i (x ∷ xs) h = at (p x) refl (nowhere p (i + 1) xs) where
  at : (b : Bool) → p x ≡ b → (position_from p (i + 1) xs ≡ None → AllByRecursion (λ y. p y ≡ false) xs) → (p x ≡ false) × AllByRecursion (λ y. p y ≡ false) xs
  at true e rest = let f : Some i ≡ None = sym (ap (λ t. cond t (Some i) (position_from p (i + 1) xs)) e) ∙ h in absurd cc
  at false e rest = (e, rest (sym (ap (λ t. cond t (Some i) (position_from p (i + 1) xs)) e) ∙ h))

all_both : {X : Type 0} (P Q : X → Type 0) (xs : List X) → AllByRecursion P xs → AllByRecursion Q xs → AllByRecursion (λ x. P x × Q x) xs
all_both P Q [] p q = tt
all_both P Q (x ∷ xs) p q = ((p.0, q.0), all_both P Q xs p.1 q.1)

pub all_good : (p : Eir) → IsEir p → AllByRecursion IsGood p.blocks
all_good p h = all_both (λ ops. is_empty ops ≡ false) (λ ops. has_jump_inside ops ≡ false) p.blocks
    (nowhere is_empty 0 p.blocks (sym (position_from-zero is_empty p.blocks) ∙ h.blocks.filled))
    (nowhere has_jump_inside 0 p.blocks (sym (position_from-zero has_jump_inside p.blocks) ∙ h.blocks.jumps))

or_no : (a b : Bool) → (a || b) ≡ false → (a ≡ false) × (b ≡ false)
or_no true b h = absurd cc
or_no false b h = (refl, h)

-- an operation that isn't the last is no jump
pub no_jump_first : (o m : Op) (ms : List Op) → has_jump_inside (o ∷ m ∷ ms) ≡ false → (is_jump o ≡ false) × (has_jump_inside (m ∷ ms) ≡ false)
no_jump_first o m ms h =
    let whole : suc (suc (length ms)) - 1 ≡ suc (length ms) = omega arith in
    let rest : suc (length ms) - 1 ≡ length ms = omega arith in
    let e : (is_jump o || list_any is_jump (take (length ms) (m ∷ ms))) ≡ false = sym (ap (λ n. list_any is_jump (take n (o ∷ m ∷ ms))) whole) ∙ h in
    let k = or_no (is_jump o) (list_any is_jump (take (length ms) (m ∷ ms))) e in
    (k.0, ap (λ n. list_any is_jump (take n (m ∷ ms))) rest ∙ k.1)
