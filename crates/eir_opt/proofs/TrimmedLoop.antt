-- One operation more on the way back through a block.
use Rattle.std.proofs.Common.{◌≡◌, ℕ, suc, ◌+◌, Bool, true, false, not, cond, ◌&&◌, ◌||◌, List, [], ◌∷◌, ◌++◌, length, drop, reverse, Some, slice_get, nat_lt, refl, sym, ap, ◌∙◌}
use Rattle.std.proofs.lemmas.Bool.{cond-true, cond-false}
use Rattle.std.proofs.lemmas.List.{reverse-append}
use Rattle.eir_core.specs.declared.ops.Reg.{Reg}
use Rattle.eir_core.specs.declared.ops.Op.{Op}
use Rattle.eir_core.specs.declared.ops.Op.TheVariants.{Mov, Add, Sub, Load, Store, Putc, Getc, Exit, Set, Jump, JumpIf}
use Rattle.eir_opt.specs.declared.by_register.ByRegister.{ByRegister}
use Rattle.eir_opt.specs.ByRegister.{at}
use Rattle.eir_opt.specs.Trimming.{reads, overwrites, is_overwritten, changes_nothing, sets_only, is_dropped, trimmed}
use Rattle.eir_opt.proofs.BlockLists.{drop_from, has_more, next-has_more}
use Rattle.eir_opt.proofs.Kept.{has_more-trimmed}

sets_only-same : (f g : Reg → Bool) (op : Op) → ((r : Reg) → f r ≡ g r) → sets_only f op ≡ sets_only g op
sets_only-same f g (Mov r v) same = same r
sets_only-same f g (Add r v) same = same r
sets_only-same f g (Sub r v) same = same r
sets_only-same f g (Load r v) same = same r
sets_only-same f g (Set test r v) same = same r
sets_only-same f g (Store r v) same = refl
sets_only-same f g (Putc v) same = refl
sets_only-same f g (Getc r) same = refl
sets_only-same f g Exit same = refl
sets_only-same f g (Jump target) same = refl
sets_only-same f g (JumpIf test target r v) same = refl

is_dropped-test : (op : Op) (kept : List Op) (test : Reg → Bool) → ((r : Reg) → test r ≡ is_overwritten kept r)
    → (has_more kept && (changes_nothing op || sets_only test op)) ≡ is_dropped op kept
is_dropped-test op [] test same = refl
is_dropped-test op (next ∷ kept) test same = ap (λ b. changes_nothing op || b) (sets_only-same test (is_overwritten (next ∷ kept)) op same)

-- what the code knows of the operations behind, and what it computes of the one before them
pub record Seen (ops : List Op) (k i : ℕ) (op : Op) (items : List Op) (overwritten : ByRegister Bool) (dropped : Bool) : Type 0 where
  pub next : suc i ≡ k
  pub here : slice_get ops i ≡ Some op
  pub kept : reverse items ≡ trimmed (drop k ops)
  pub known : (r : Reg) → at overwritten r ≡ is_overwritten (reverse items) r
  pub test : dropped ≡ (nat_lt (i + 1) (length ops) && (changes_nothing op || sets_only (at overwritten) op))

dropped_is : (ops : List Op) (k i : ℕ) (op : Op) (items : List Op) (overwritten : ByRegister Bool) (dropped : Bool) → Seen ops k i op items overwritten dropped
    → dropped ≡ is_dropped op (trimmed (drop k ops))
dropped_is ops k i op items overwritten dropped seen =
    let from : drop i ops ≡ op ∷ drop (suc i) ops = drop_from ops i op seen.here in
    let more : nat_lt (i + 1) (length ops) ≡ has_more (trimmed (drop k ops)) =
    next-has_more ops i op (drop (suc i) ops) from ∙ (sym (has_more-trimmed (drop (suc i) ops)) ∙ ap (λ n. has_more (trimmed (drop n ops))) seen.next) in
    seen.test
    ∙ (ap (λ b. b && (changes_nothing op || sets_only (at overwritten) op)) more
    ∙ is_dropped-test op (trimmed (drop k ops)) (at overwritten) (λ r. seen.known r ∙ ap (λ ks. is_overwritten ks r) seen.kept))

trimmed-from : (ops : List Op) (k i : ℕ) (op : Op) (items : List Op) (overwritten : ByRegister Bool) (dropped : Bool) → Seen ops k i op items overwritten dropped
    → trimmed (drop i ops) ≡ cond dropped (reverse items) (op ∷ reverse items)
trimmed-from ops k i op items overwritten dropped seen =
    ap trimmed (drop_from ops i op seen.here ∙ ap (λ n. op ∷ drop n ops) seen.next)
    ∙ (ap (λ b. cond b (trimmed (drop k ops)) (op ∷ trimmed (drop k ops))) (sym (dropped_is ops k i op items overwritten dropped seen))
    ∙ ap (λ ks. cond dropped ks (op ∷ ks)) (sym seen.kept))

pub reverse-push : (items : List Op) (op : Op) → reverse (items ++ op ∷ []) ≡ op ∷ reverse items
reverse-push items op = reverse-append items (op ∷ [])

-- it is dropped
pub dropped_here : (ops : List Op) (k i : ℕ) (op : Op) (items : List Op) (overwritten : ByRegister Bool) (dropped : Bool) → Seen ops k i op items overwritten dropped
    → dropped ≡ true → reverse items ≡ trimmed (drop i ops)
dropped_here ops k i op items overwritten dropped seen e =
    sym (trimmed-from ops k i op items overwritten dropped seen ∙ cond-true dropped (reverse items) (op ∷ reverse items) e)

-- it is kept
pub kept_here : (ops : List Op) (k i : ℕ) (op : Op) (items new : List Op) (overwritten : ByRegister Bool) (dropped : Bool) → Seen ops k i op items overwritten dropped
    → dropped ≡ false → new ≡ items ++ op ∷ [] → reverse new ≡ trimmed (drop i ops)
kept_here ops k i op items new overwritten dropped seen e pushed =
    ap reverse pushed ∙ (reverse-push items op
    ∙ sym (trimmed-from ops k i op items overwritten dropped seen ∙ cond-false dropped (reverse items) (op ∷ reverse items) e))

pub known_here : (op : Op) (items new : List Op) (overwritten overwritten' : ByRegister Bool) → ((r : Reg) → at overwritten r ≡ is_overwritten (reverse items) r)
    → ((r : Reg) → at overwritten' r ≡ (not (reads op r) && (overwrites op r || at overwritten r)))
    → new ≡ items ++ op ∷ [] → (r : Reg) → at overwritten' r ≡ is_overwritten (reverse new) r
known_here op items new overwritten overwritten' known made pushed r =
    made r ∙ (ap (λ b. not (reads op r) && (overwrites op r || b)) (known r) ∙ ap (λ ks. is_overwritten ks r) (sym (ap reverse pushed ∙ reverse-push items op)))
