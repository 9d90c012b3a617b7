-- What trimming goes by, in other words.
use Rattle.std.proofs.Common.{◌≡◌, ◌⊎◌, inl, inr, ℕ, zero, suc, ◌<◌, Bool, true, false, not, cond, ◌||◌, List, [], ◌∷◌, ◌++◌, Some, slice_get, refl, sym, ap, ◌∙◌, arith}
use Rattle.std.proofs.lemmas.Bool.{and_parts, and_from, or_left, or_right, not-true, not_from_false}
use Rattle.eir_core.specs.declared.ops.Reg.{Reg}
use Rattle.eir_core.specs.declared.ops.Op.{Op}
use Rattle.eir_opt.specs.Trimming.{reads, overwrites, is_overwritten, is_dropped, trimmed}
use Rattle.eir_opt.specs.Laws.{IsOverwritten, OverwrittenRegistersAreNotRead, LastOperationsAreKept}

one_of : (a b : Bool) (P : Type 0) → (a || b) ≡ true → (b ≡ true → P) → (a ≡ true) ⊎ P
one_of true b P e h = inl refl
one_of false b P e h = inr (h e)

there_more : (op : Op) (ops : List Op) (r : Reg) → reads op r ≡ false → (overwrites op r ≡ true) ⊎ IsOverwritten ops r → IsOverwritten (op ∷ ops) r
there_more op ops r unread (inl over) = (0, op, refl, over, unread, λ j other below at. absurd (omega arith))
there_more op ops r unread (inr later) = (suc later.0, later.1, later.2, later.3, later.4, before)
  where
    before : (j : ℕ) (other : Op) → j < suc later.0 → slice_get (op ∷ ops) j ≡ Some other → reads other r ≡ false
    before zero other below at = let same : op ≡ other = cc in ap (λ o. reads o r) (sym same) ∙ unread
    before (suc j) other below at = later.5 j other (omega arith) at

overwritten_there : (ops : List Op) (r : Reg) → is_overwritten ops r ≡ true → IsOverwritten ops r
overwritten_there [] r e = absurd (cc)
overwritten_there (op ∷ ops) r e =
    let parts = and_parts (not (reads op r)) (overwrites op r || is_overwritten ops r) e in
    there_more op ops r (not-true (reads op r) parts.0) (one_of (overwrites op r) (is_overwritten ops r) (IsOverwritten ops r) parts.1 (overwritten_there ops r))

there_overwritten : (ops : List Op) (r : Reg) (k : ℕ) (op : Op) → slice_get ops k ≡ Some op → overwrites op r ≡ true → reads op r ≡ false
    → ((j : ℕ) (other : Op) → j < k → slice_get ops j ≡ Some other → reads other r ≡ false) → is_overwritten ops r ≡ true
there_overwritten [] r zero op at over unread before = absurd (cc)
there_overwritten [] r (suc k) op at over unread before = absurd (cc)
there_overwritten (x ∷ ops) r zero op at over unread before =
    let same : x ≡ op = cc in
    and_from (not (reads x r)) (overwrites x r || is_overwritten ops r)
    (not_from_false (reads x r) (ap (λ o. reads o r) same ∙ unread))
    (or_left (overwrites x r) (is_overwritten ops r) (ap (λ o. overwrites o r) same ∙ over))
there_overwritten (x ∷ ops) r (suc k) op at over unread before =
    and_from (not (reads x r)) (overwrites x r || is_overwritten ops r)
    (not_from_false (reads x r) (before 0 x (omega arith) refl))
    (or_right (overwrites x r) (is_overwritten ops r) (there_overwritten ops r k op at over unread (λ j other below here. before (suc j) other (omega arith) here)))

pub overwritten_not_read : OverwrittenRegistersAreNotRead
overwritten_not_read ops r = (overwritten_there ops r, λ there. there_overwritten ops r there.0 there.1 there.2 there.3 there.4 there.5)

pub last_kept : LastOperationsAreKept
last_kept [] op = ([], refl)
last_kept (x ∷ front) op =
    let rest : (kept : List Op) × (trimmed (front ++ op ∷ []) ≡ kept ++ op ∷ []) = last_kept front op in
    elim (is_dropped x (trimmed (front ++ op ∷ []))) as (λ b. (kept : List Op) × (cond b (trimmed (front ++ op ∷ [])) (x ∷ trimmed (front ++ op ∷ [])) ≡ kept ++ op ∷ []))
    [ true ↦ rest | false ↦ (x ∷ rest.0, ap (λ ks. x ∷ ks) rest.1) ]
