-- Sums over the nodes of a tree, and what they are together.
use Rattle.std.proofs.Common.{◌≡◌, ℕ, zero, suc, ◌+◌, Bool, true, false, ◌||◌, refl, sym, ap, subst, ◌∙◌, if◌then◌else◌, arith}
use Rattle.std.proofs.lemmas.Bool.Decides.{nat_tests}
use Rattle.std.specs.Prelude.{nat_lt, min, Result, Ok, Err, IfOk}
use Rattle.std.specs.declared.alloc.AllocError.{AllocError}
use Rattle.c_types.specs.Scope.{Scope}
use Rattle.c_syntax.specs.Plain as tree
use Rattle.c_syntax.specs.Plain.{CExpr, CTy}
use Rattle.c_types.specs.Expressions.{names_function, written}
use Rattle.c_types.specs.Census.{Tally, of_type, expr_sum}
use Rattle.c_types.specs.Limits.{wide_types}
use Rattle.c_types.specs.Seen.{Counts}
use Rattle.c_types.specs.Known.{Grows}
use Rattle.c_types.specs.Table.{Table, known}
use Rattle.c_operands.proofs.OperandLemmas.{grows_then}
use Rattle.c_operands.specs.declared.declarations.Declarations.{Declarations}
use Rattle.c_declared.specs.Held.{Holds}
use Rattle.c_declared.proofs.HeldLemmas.{holds_kept}
use Rattle.c_weights.specs.declared.sum.Sum.{Sum}
use Rattle.c_weights.specs.Sums.{weighing, widening, counting, measuring, most_told, Sums, AreAlike, AreCounted}

-- one of two is above 0 where their sum is
pub either : (a b : ℕ) → nat_lt 0 (a + b) ≡ (nat_lt 0 a || nat_lt 0 b)
either zero b =
    let none : nat_lt 0 zero ≡ false = grind (arith, nat_tests) in
    let same : zero + b ≡ b = omega arith in
    ap (nat_lt 0) same ∙ sym (ap (λ (t : Bool). t || nat_lt 0 b) none)
either (suc a) b =
    let some : nat_lt 0 (suc a) ≡ true = grind (arith, nat_tests) in
    let more : nat_lt 0 (suc a + b) ≡ true = grind (arith, nat_tests) in
    more ∙ sym (ap (λ (t : Bool). t || nat_lt 0 b) some)

pub both_wide : (x y z : Bool) (a b : ℕ) → z ≡ (x || y) → x ≡ nat_lt 0 a → y ≡ nat_lt 0 b → z ≡ nat_lt 0 (a + b)
both_wide x y z a b h e f = h ∙ (ap (λ (t : Bool). t || y) e ∙ (ap (λ (t : Bool). nat_lt 0 a || t) f ∙ sym (either a b)))

-- a sum by the sums of each kind
pub sums_same : (r : Sum) (m n : Tally → ℕ) → AreAlike m n → Sums r m → Sums r n
sums_same r m n e h = record {
  weight = subst (Counts r.weight) e.0 h.weight;
  wide = h.wide ∙ ap (nat_lt 0) e.1;
  nodes = h.nodes ∙ ap (λ k. min k most_told) e.2;
  words = h.words ∙ ap (λ k. min k most_told) e.3;
}

pub alike : (m n : Tally → ℕ) → ((k : Tally) → m k ≡ n k) → AreAlike m n
alike m n e = (e weighing, e widening, e counting, e measuring)

-- what is told of one, and of none
pub one_told : min 1 most_told ≡ 1
one_told = omega arith

pub none_told : min 0 most_told ≡ 0
none_told = omega arith

-- ---- sums in the scope of what is declared

pub counted_same : (old new : Table) (d : Declarations) (r : Sum) (m n : Scope → Tally → ℕ) → ((s : Scope) → AreAlike (m s) (n s)) → AreCounted old new d r m → AreCounted old new d r n
counted_same old new d r m n e h = record { sums = λ s holds. sums_same r (m s) (n s) (e s) (h.sums s holds); grows = h.grows; tags = h.tags }

-- what takes no type
pub counted_here : (table : Table) (d : Declarations) (r : Sum) (n : Scope → Tally → ℕ) → ((s : Scope) → Sums r (n s)) → AreCounted table table d r n
counted_here table d r n h = record { sums = λ s holds. h s; grows = λ n k e. e; tags = refl }

-- the same of what may want memory
pub ok_same : (old new : Table) (d : Declarations) (r : Result Sum AllocError) (m n : Scope → Tally → ℕ) → ((s : Scope) → AreAlike (m s) (n s))
    → IfOk r (λ x. AreCounted old new d x m) → IfOk r (λ x. AreCounted old new d x n)
ok_same old new d (Ok x) m n e h = counted_same old new d x m n e h
ok_same old new d (Err e) m n f h = h

-- a string is a node with its bytes and its zero
pub string_sums : (r : Sum) (length : ℕ) (n : Tally → ℕ) → Counts r.weight (length + 2) → r.is_wide ≡ false → r.nodes ≡ 1 → r.words ≡ 0
    → n weighing ≡ 1 + (length + 1) → n widening ≡ 0 → n counting ≡ 1 → n measuring ≡ 0 → Sums r n
string_sums r length n weight wide nodes words e f g h =
    let same : length + 2 ≡ n weighing = omega (arith, e) in
    record {
      weight = subst (Counts r.weight) same weight;
      wide = wide ∙ ap (nat_lt 0) (sym f);
      nodes = nodes ∙ (sym one_told ∙ ap (λ k. min k most_told) (sym g));
      words = words ∙ (sym none_told ∙ ap (λ k. min k most_told) (sym h));
    }

-- one part behind what is known of a tree itself
pub counted_first : (old new : Table) (d : Declarations) (x y r : Sum) (m n : Scope → Tally → ℕ) → ((s : Scope) → Sums x (m s)) → AreCounted old new d y n
    → ((a b : Tally → ℕ) → Sums x a → Sums y b → Sums r (λ c. a c + b c)) → AreCounted old new d r (λ s c. m s c + n s c)
counted_first old new d x y r m n h k plus = record { sums = λ s holds. plus (m s) (n s) (h s) (k.sums s holds); grows = k.grows; tags = k.tags }

-- one part after the other
pub counted_both : (t0 t1 t2 : Table) (d : Declarations) (x y r : Sum) (m n : Scope → Tally → ℕ) → AreCounted t0 t1 d x m → AreCounted t1 t2 d y n
    → ((a b : Tally → ℕ) → Sums x a → Sums y b → Sums r (λ c. a c + b c)) → AreCounted t0 t2 d r (λ s c. m s c + n s c)
counted_both t0 t1 t2 d x y r m n h k plus = record {
  sums = λ s holds. plus (m s) (n s) (h.sums s holds) (k.sums s (holds_kept t0 t1 d s h.grows h.tags holds));
  grows = grows_then (known t0) (known t1) (known t2) h.grows k.grows;
  tags = k.tags ∙ h.tags;
}

-- a type that is written in an expression
pub written_counted : (t0 t1 : Table) (d : Declarations) (own : Sum) (at : ℕ) (t : CTy) → Counts own.weight 1 → own.nodes ≡ 1 → own.words ≡ 0 → Grows (known t0) (known t1) → t1.tags ≡ t0.tags
    → ((s : Scope) → Holds t0 d s → own.is_wide ≡ nat_lt 0 (of_type (wide_types s.tags) (written s at t))) → AreCounted t0 t1 d own (λ s k. k.expr s (tree.SizeTy at t))
written_counted t0 t1 d own at t weight nodes words grows tags wide = record {
  sums = λ s holds. record { weight = weight; wide = wide s holds; nodes = nodes ∙ sym one_told; words = words ∙ sym none_told };
  grows = grows;
  tags = tags;
}

-- a call and what is called
abbrev callee : Scope → Tally → CExpr → ℕ
callee s k e = k.node + (if names_function s e then 0 else expr_sum k s e)

pub called_directly : (table : Table) (d : Declarations) (r : Sum) (e : CExpr) → Sums r (λ k. k.node) → ((s : Scope) → Holds table d s → names_function s e ≡ true) → AreCounted table table d r (λ s k. callee s k e)
called_directly table d r e h test = record {
  sums = λ s holds. subst (λ (b : Bool). Sums r (λ k. k.node + (if b then 0 else expr_sum k s e))) (sym (test s holds)) (sums_same r (λ k. k.node) (λ k. k.node + 0) (refl, refl, refl, refl) h);
  grows = λ n k is. is;
  tags = refl;
}

through_counted : (old new : Table) (d : Declarations) (r : Sum) (e : CExpr) → ((s : Scope) → Holds old d s → names_function s e ≡ false) → AreCounted old new d r (λ s k. k.node + expr_sum k s e) → AreCounted old new d r (λ s k. callee s k e)
through_counted old new d r e test h = record {
  sums = λ s holds. subst (λ (b : Bool). Sums r (λ k. k.node + (if b then 0 else expr_sum k s e))) (sym (test s holds)) (h.sums s holds);
  grows = h.grows;
  tags = h.tags;
}

pub called_through : (old new : Table) (d : Declarations) (r : Result Sum AllocError) (e : CExpr) → ((s : Scope) → Holds old d s → names_function s e ≡ false) → IfOk r (λ x. AreCounted old new d x (λ s k. k.node + expr_sum k s e))
    → IfOk r (λ x. AreCounted old new d x (λ s k. callee s k e))
called_through old new d (Ok x) e test h = through_counted old new d x e test h
called_through old new d (Err f) e test h = h
