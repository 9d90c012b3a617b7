-- Sums of trees that declare names, one behind the other.
use Rattle.std.proofs.Common.{◌≡◌, ℕ, ◌+◌, List, [], ◌∷◌, refl, sym, ap, subst, ◌∙◌, arith}
use Rattle.std.specs.Prelude.{Result, Ok, Err, IfOk}
use Rattle.std.specs.declared.alloc.AllocError.{AllocError}
use Rattle.c_types.specs.Scope.{Scope, entered}
use Rattle.c_types.specs.Census.{Tally}
use Rattle.c_types.specs.Known.{Grows}
use Rattle.c_types.specs.Table.{Table, known}
use Rattle.c_operands.proofs.OperandLemmas.{grows_then}
use Rattle.c_operands.specs.declared.declarations.Declarations.{Declarations}
use Rattle.c_declared.specs.Held.{Holds, HoldsSome, IsAround}
use Rattle.c_declared.proofs.HeldLemmas.{holds_kept, held_kept, block_entered}
use Rattle.c_signatures.specs.Blocks.{IsInside, IsSame}
use Rattle.c_signatures.proofs.BlockLemmas.{inside_then, may_end, same_holds}
use Rattle.c_weights.specs.declared.sum.Sum.{Sum}
use Rattle.c_weights.specs.Sums.{Sums, AreCounted}
use Rattle.c_weights.proofs.SumLemmas.{alike, counted_same, counted_here, counted_first}
use Rattle.c_census.specs.Sums.{AreMoved}

pub around_none : (d : Declarations) → IsAround d d
around_none d = record { outer = refl; layouts = refl; defined = refl }

pub around_then : (d e f : Declarations) → IsAround d e → IsAround e f → IsAround d f
around_then d e f h k = record { outer = k.outer ∙ h.outer; layouts = k.layouts ∙ h.layouts; defined = k.defined ∙ h.defined }

pub around_same : (d e : Declarations) → IsSame d e → IsAround d e
around_same d e h = record { outer = h.outer; layouts = h.layouts; defined = h.defined }

-- what declares nothing
pub moved_still : (t0 t1 : Table) (d : Declarations) (r : Sum) (n : Scope → Tally → ℕ) → AreCounted t0 t1 d r n → AreMoved t0 t1 d d r n (λ s. s)
moved_still t0 t1 d r n h = record { counted = h; holds = λ s holds. holds_kept t0 t1 d s h.grows h.tags holds; around = around_none d }

pub still_ok : (t0 t1 : Table) (d : Declarations) (r : Result Sum AllocError) (n : Scope → Tally → ℕ) → IfOk r (λ x. AreCounted t0 t1 d x n) → IfOk r (λ x. AreMoved t0 t1 d d x n (λ s. s))
still_ok t0 t1 d (Ok x) n h = moved_still t0 t1 d x n h
still_ok t0 t1 d (Err e) n h = h

-- one node
pub node_moved : (table : Table) (d : Declarations) (r : Sum) → Sums r (λ k. k.node) → AreMoved table table d d r (λ s k. k.node) (λ s. s)
node_moved table d r h = moved_still table table d r (λ s k. k.node) (counted_here table d r (λ s k. k.node) (λ s. h))

-- a sum, and a scope, by what they are equal to
pub moved_same : (t0 t1 : Table) (d e : Declarations) (r : Sum) (m n : Scope → Tally → ℕ) (f g : Scope → Scope) → ((s : Scope) (k : Tally) → m s k ≡ n s k) → ((s : Scope) → f s ≡ g s)
    → AreMoved t0 t1 d e r m f → AreMoved t0 t1 d e r n g
moved_same t0 t1 d e r m n f g p same h = record {
  counted = counted_same t0 t1 d r m n (λ s. alike (m s) (n s) (p s)) h.counted;
  holds = λ s holds. subst (λ (z : Scope). Holds t1 e z) (same s) (h.holds s holds);
  around = h.around;
}

pub ok_moved : (t0 t1 : Table) (d e : Declarations) (r : Result Sum AllocError) (m n : Scope → Tally → ℕ) (f g : Scope → Scope) → ((s : Scope) (k : Tally) → m s k ≡ n s k) → ((s : Scope) → f s ≡ g s)
    → IfOk r (λ x. AreMoved t0 t1 d e x m f) → IfOk r (λ x. AreMoved t0 t1 d e x n g)
ok_moved t0 t1 d e (Ok x) m n f g p same h = moved_same t0 t1 d e x m n f g p same h
ok_moved t0 t1 d e (Err z) m n f g p same h = h

-- a node and its part
pub moved_first : (t0 t1 : Table) (d e : Declarations) (x y r : Sum) (n : Scope → Tally → ℕ) (f : Scope → Scope) → Sums x (λ k. k.node) → AreMoved t0 t1 d e y n f
    → ((a b : Tally → ℕ) → Sums x a → Sums y b → Sums r (λ k. a k + b k)) → AreMoved t0 t1 d e r (λ s k. k.node + n s k) f
moved_first t0 t1 d e x y r n f h k plus = record { counted = counted_first t0 t1 d x y r (λ s k. k.node) n (λ s. h) k.counted plus; holds = k.holds; around = k.around }

-- one behind the other
pub moved_then : (t0 t1 t2 : Table) (d e g : Declarations) (x y r : Sum) (m n : Scope → Tally → ℕ) (f h : Scope → Scope) → AreMoved t0 t1 d e x m f → AreMoved t1 t2 e g y n h
    → ((a b : Tally → ℕ) → Sums x a → Sums y b → Sums r (λ k. a k + b k)) → AreMoved t0 t2 d g r (λ s k. m s k + n (f s) k) (λ s. h (f s))
moved_then t0 t1 t2 d e g x y r m n f h p q plus = record {
  counted = record {
    sums = λ s holds. plus (m s) (n (f s)) (p.counted.sums s holds) (q.counted.sums (f s) (p.holds s holds));
    grows = grows_then (known t0) (known t1) (known t2) p.counted.grows q.counted.grows;
    tags = q.counted.tags ∙ p.counted.tags;
  };
  holds = λ s holds. q.holds (f s) (p.holds s holds);
  around = around_then d e g p.around q.around;
}

-- there is a scope behind it
pub moved_some : (t0 t1 : Table) (d e : Declarations) (r : Sum) (n : Scope → Tally → ℕ) (f : Scope → Scope) → AreMoved t0 t1 d e r n f → HoldsSome t0 d → HoldsSome t1 e
moved_some t0 t1 d e r n f h some = (f some.0, h.holds some.0 some.1)

-- ---- blocks

pub block_some : (table : Table) (d e : Declarations) → e.names.block ≡ [] → IsInside d e → HoldsSome table d → HoldsSome table e
block_some table d e empty i h = (entered h.0, block_entered table d e h.0 empty i.outer i.layouts i.defined h.1)

-- what is summed in a block that has ended
pub block_moved : (t0 t1 : Table) (d0 d1 d2 : Declarations) (r : Sum) (n : Scope → Tally → ℕ) → d1.names.block ≡ [] → IsInside d0 d1 → AreCounted t0 t1 d1 r n → IsSame d0 d2
    → AreMoved t0 t1 d0 d2 r (λ s k. n (entered s) k) (λ s. s)
block_moved t0 t1 d0 d1 d2 r n empty i h same = record {
  counted = record { sums = λ s holds. h.sums (entered s) (block_entered t0 d0 d1 s empty i.outer i.layouts i.defined holds); grows = h.grows; tags = h.tags };
  holds = λ s holds. same_holds t0 t1 d0 d2 s h.grows h.tags same holds;
  around = around_same d0 d2 same;
}

-- ---- arithmetic

pub swapped : (a b c : ℕ) → a + b + c ≡ a + c + b
swapped a b c = omega arith

pub four : (a b c d e : ℕ) → a + b + (c + d + e) ≡ a + b + c + d + e
four a b c d e = omega arith
