-- Sums of declarations that make no object, and of functions.
use Rattle.std.proofs.Common.{◌≡◌, ℕ, ◌+◌, List, [], ◌∷◌, refl, sym, ap, subst, ◌∙◌}
use Rattle.std.specs.Prelude.{Result, Ok, Err, IfOk, OnOk, min, nat_lt}
use Rattle.std.specs.declared.alloc.AllocError.{AllocError}
use Rattle.c_syntax.specs.Plain as tree
use Rattle.c_syntax.specs.Plain.{CTy, CDecl, CStmt}
use Rattle.c_syntax.specs.View.{stmt_of}
use Rattle.c_syntax.specs.declared.tree.Stmt.{Stmt, Block', Local, Expr as ExprStmt, Empty, If', While', Do', For', Return, Break, Continue, Switch', None' as NoElse', Some' as Else', out-Stmt, roll-Stmt, roll-out-Stmt}
use Rattle.c_syntax.specs.declared.tree.Stmt.TheVariants as stmt
use Rattle.c_syntax.specs.declared.tree.Stmts.{Stmts}
use Rattle.c_types.specs.Types.{CType, Tags}
use Rattle.c_types.specs.Refusals.{Judged}
use Rattle.c_types.specs.Scope.{Scope, entered}
use Rattle.c_types.specs.Expressions.{written}
use Rattle.c_types.specs.Units as plain
use Rattle.c_types.specs.Units.{Signature, signature}
use Rattle.c_types.specs.Census.{Tally, of_type, ty_sum, stmt_sum, body_sum, parameters_sum, maybe_body_sum, item_sum}
use Rattle.c_types.specs.Limits.{wide_types}
use Rattle.c_types.specs.Seen.{Counts}
use Rattle.c_types.specs.Known.{Grows}
use Rattle.c_types.specs.Table.{Table, known}
use Rattle.c_operands.proofs.OperandLemmas.{grows_then}
use Rattle.c_operands.specs.declared.declarations.Declarations.{Declarations}
use Rattle.c_declared.specs.Held.{Holds, IsAround}
use Rattle.c_declared.proofs.HeldLemmas.{holds_kept}
use Rattle.c_weights.specs.declared.sum.Sum.{Sum}
use Rattle.c_weights.specs.Sums.{most_told, Sums, AreCounted}
use Rattle.c_weights.proofs.SumLemmas.{alike, sums_same, none_told}
use Rattle.c_census.specs.Sums.{AreMoved}

-- a type that is declared is no node
nothing_of : (p : Judged CType) → 0 ≡ of_type (λ t. 0) p
nothing_of (Ok t) = refl
nothing_of (Err e) = refl

pub declared_sums : (r : Sum) (tags : Tags) (p : Judged CType) → Counts r.weight 0 → r.is_wide ≡ nat_lt 0 (of_type (wide_types tags) p) → r.nodes ≡ 0 → r.words ≡ 0 → Sums r (λ k. of_type (k.ty tags) p)
declared_sums r tags p weight wide nodes words = record {
  weight = subst (Counts r.weight) (nothing_of p) weight;
  wide = wide;
  nodes = nodes ∙ (sym none_told ∙ ap (λ k. min k most_told) (nothing_of p));
  words = words ∙ (sym none_told ∙ ap (λ k. min k most_told) (nothing_of p));
}

-- what is known of a tree itself, beside its parts
pub counted_own : (t0 t1 t2 : Table) (d : Declarations) (own parts r : Sum) (m n : Scope → Tally → ℕ) → Grows (known t0) (known t1) → t1.tags ≡ t0.tags → ((s : Scope) → Holds t0 d s → Sums own (n s)) → AreCounted t1 t2 d parts m
    → ((a b : Tally → ℕ) → Sums parts a → Sums own b → Sums r (λ k. a k + b k)) → AreCounted t0 t2 d r (λ s k. m s k + n s k)
counted_own t0 t1 t2 d own parts r m n grows tags is h plus = record {
  sums = λ s holds. plus (m s) (n s) (h.sums s (holds_kept t0 t1 d s grows tags holds)) (is s holds);
  grows = grows_then (known t0) (known t1) (known t2) grows h.grows;
  tags = h.tags ∙ tags;
}

pub counted_grown : (t0 t1 t2 : Table) (d : Declarations) (r : Sum) (n : Scope → Tally → ℕ) → AreCounted t0 t1 d r n → Grows (known t1) (known t2) → t2.tags ≡ t1.tags → AreCounted t0 t2 d r n
counted_grown t0 t1 t2 d r n h grows tags = record { sums = h.sums; grows = grows_then (known t0) (known t1) (known t2) h.grows grows; tags = tags ∙ h.tags }

-- ---- bodies

pub body_other : (t : Stmt) (s : Scope) (k : Tally) → ((all : Stmts) → t ≡ stmt.Block all → ⊥) → stmt_sum k s (stmt_of t) ≡ body_sum k s (stmt_of t)
unfolding roll-Stmt out-Stmt denote.Hole.Carrier.roll denote.Hole.Carrier.out
body_other (Block' shape row) s k h = absurd (h _ (sym (roll-out-Stmt (Block' shape row)) ∙ sym (stmt.rolls-Block _)))
body_other (Local d) s k h = refl
body_other (ExprStmt e) s k h = refl
body_other Empty s k h = refl
body_other (If' e p t NoElse') s k h = refl
body_other (If' e p t (Else' q u)) s k h = refl
body_other (While' e p t) s k h = refl
body_other (Do' p t e) s k h = refl
body_other (For' p first test step q t) s k h = refl
body_other (Return at e) s k h = refl
body_other (Break at) s k h = refl
body_other (Continue at) s k h = refl
body_other (Switch' e shape row) s k h = refl

pub ok_counted : (t0 t1 : Table) (d e : Declarations) (r : Result Sum AllocError) (m n : Scope → Tally → ℕ) (f : Scope → Scope) → ((s : Scope) (k : Tally) → m s k ≡ n s k) → IfOk r (λ x. AreMoved t0 t1 d e x m f) → IfOk r (λ x. AreCounted t0 t1 d x n)
ok_counted t0 t1 d e (Ok x) m n f same h = record {
  sums = λ s holds. sums_same x (m s) (n s) (alike (m s) (n s) (same s)) (h.counted.sums s holds);
  grows = h.counted.grows;
  tags = h.counted.tags;
}
ok_counted t0 t1 d e (Err z) m n f same h = h

pub ok_around : (t0 t1 : Table) (d e : Declarations) (r : Result Sum AllocError) (n : Scope → Tally → ℕ) (f : Scope → Scope) → IfOk r (λ x. AreMoved t0 t1 d e x n f) → OnOk r (IsAround d e)
ok_around t0 t1 d e (Ok x) n f h = h.around
ok_around t0 t1 d e (Err z) n f h = h

-- ---- functions

pub function_counted : (t0 t1 t2 t3 t4 t5 : Table) (d e g : Declarations) (node own first all rest a b c r : Sum) (name : List ℕ) (at : ℕ) (gives : CTy) (params : List CDecl) (body : _) → Sums node (λ k. k.node)
    → Grows (known t0) (known t1) → t1.tags ≡ t0.tags → ((s : Scope) → Holds t0 d s → Sums own (λ k. of_type (k.ty s.tags) (written s at gives)))
    → AreCounted t1 t2 d first (λ s k. ty_sum k s gives) → AreMoved t2 t3 d e all (λ s k. parameters_sum k (entered s) params) (λ s. s)
    → Grows (known t3) (known t4) → t4.tags ≡ t3.tags → Grows (known t4) (known t5) → t5.tags ≡ t4.tags
    → ((s : Scope) → Holds t3 e s → Sums rest (λ k. maybe_body_sum k s name body (signature s at gives params)))
    → ((m n : Tally → ℕ) → Sums node m → Sums first n → Sums a (λ k. m k + n k)) → ((m n : Tally → ℕ) → Sums a m → Sums own n → Sums b (λ k. m k + n k))
    → ((m n : Tally → ℕ) → Sums b m → Sums all n → Sums c (λ k. m k + n k)) → ((m n : Tally → ℕ) → Sums c m → Sums rest n → Sums r (λ k. m k + n k))
    → AreCounted t0 t5 d r (λ s k. item_sum k s (tree.Function name at gives params body))
function_counted t0 t1 t2 t3 t4 t5 d e g node own first all rest a b c r name at gives params body one grows1 tags1 owns write parameters grows4 tags4 grows5 tags5 bodies plus_a plus_b plus_c plus_r =
    let k1 = known t1 in
    let k3 = known t3 in
    let grows2 = grows_then (known t0) k1 (known t2) grows1 write.grows in
    let tags2 = write.tags ∙ tags1 in
    record {
      sums = λ s holds.
          let at1 = holds_kept t0 t1 d s grows1 tags1 holds in
          let at2 = holds_kept t0 t2 d s grows2 tags2 holds in
          let at3 = parameters.holds s at2 in
          let types : Tally → ℕ = λ k. ty_sum k s gives in
          let own_of : Tally → ℕ = λ k. of_type (k.ty s.tags) (written s at gives) in
          let all_of : Tally → ℕ = λ k. parameters_sum k (entered s) params in
          let body_of : Tally → ℕ = λ k. maybe_body_sum k s name body (signature s at gives params) in
          plus_r (λ k. k.node + types k + own_of k + all_of k) body_of
          (plus_c (λ k. k.node + types k + own_of k) all_of
          (plus_b (λ k. k.node + types k) own_of (plus_a (λ k. k.node) types one (write.sums s at1)) (owns s holds))
          (parameters.counted.sums s at2))
          (bodies s at3);
      grows = grows_then (known t0) k3 (known t5) (grows_then (known t0) (known t2) k3 grows2 parameters.counted.grows) (grows_then k3 (known t4) (known t5) grows4 grows5);
      tags = tags5 ∙ (tags4 ∙ (parameters.counted.tags ∙ tags2));
    }
