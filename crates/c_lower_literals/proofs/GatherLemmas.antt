-- Texts that are gathered, one tree behind the other.
use Rattle.std.proofs.Common.{◌≡◌, ℕ, List, [], ◌∷◌, ◌++◌, refl, sym, ap, subst, ◌∙◌, append_assoc, append-nil}
use Rattle.std.proofs.lemmas.List.{map-append}
use Rattle.std.specs.Prelude.{false, Option, Result, Ok, Err, OnOk}
use Rattle.std.specs.Result.{result_err}
use Rattle.std.specs.declared.alloc.AllocError.{AllocError}
use denote.Ref.{Bor}
use Rattle.c_syntax.specs.Plain.{CDecl}
use Rattle.c_types.specs.declared.fault.TypeFault.{TypeFault}
use Rattle.c_types.specs.Scope.{Scope, entered}
use Rattle.c_types.specs.Declarations.{declared, scope_or}
use Rattle.c_types.specs.Table.{Table, known, texts}
use Rattle.c_operands.proofs.OperandLemmas.{grows_then}
use Rattle.c_operands.specs.declared.declarations.Declarations.{Declarations}
use Rattle.c_operands.specs.Scoped.{Fits}
use Rattle.c_declared.specs.Held.{Holds, HoldsSome, IsAround}
use Rattle.c_declared.proofs.HeldLemmas.{block_entered}
use Rattle.c_signatures.specs.Blocks.{IsInside, IsSame}
use Rattle.c_signatures.proofs.BlockLemmas.{same_holds}
use Rattle.c_census.proofs.MovedLemmas.{around_none, around_then, around_same}
use Rattle.c_lower_literals.specs.Gathered.{Adds, Gathers}

abbrev pub Texts : Type 0
Texts = List (Bor (List ℕ))

-- ---- texts

pub none_added : (xs : Texts) → Adds xs xs []
none_added xs = record { behind = sym (append-nil (texts xs)) }

pub adds_then : {xs ys zs : Texts} {ls ms : List (List ℕ)} → Adds xs ys ls → Adds ys zs ms → Adds xs zs (ls ++ ms)
adds_then {xs} {ys} {zs} {ls} {ms} e f = record { behind = f.behind ∙ (ap (λ (l : List (List ℕ)). l ++ ms) e.behind ∙ append_assoc (texts xs) ls ms) }

pub adds_same : {xs ys : Texts} {ls ms : List (List ℕ)} → ls ≡ ms → Adds xs ys ls → Adds xs ys ms
adds_same {xs} {ys} same e = subst (λ (l : List (List ℕ)). Adds xs ys l) same e

pub text_added : (xs ys : Texts) (t : Bor (List ℕ)) → ys ≡ xs ++ t ∷ [] → Adds xs ys (t.now ∷ [])
text_added xs ys t same = record { behind = ap texts same ∙ map-append (λ (k : Bor (List ℕ)). k.now) xs (t ∷ []) }

-- unless memory is wanting
pub on_ok : {P Q : Type 0} (r : Result (Unit {0}) AllocError) → (P → Q) → OnOk r P → OnOk r Q
on_ok (Ok x) f h = f h
on_ok (Err e) f h = tt

-- ---- trees that declare names

-- what declares nothing
pub still : {xs ys : Texts} (table : Table) (d : Declarations) (n : Scope → List (List ℕ)) → ((s : Scope) → Fits table d s → Adds xs ys (n s)) → Gathers table table d d xs ys n (λ s. s)
still table d n h = record { grows = λ n k e. e; tags = refl; adds = λ s holds. h s holds.fits; holds = λ s holds. holds; around = around_none d }

pub still_ok : (table : Table) (d : Declarations) (xs ys : Texts) (r : Result (Unit {0}) AllocError) (n : Scope → List (List ℕ)) → ((t : Table) (s : Scope) → Fits t d s → OnOk r (Adds xs ys (n s))) → OnOk r (Gathers table table d d xs ys n (λ s. s))
still_ok table d xs ys (Ok x) n h = still table d n (λ s fits. h table s fits)
still_ok table d xs ys (Err e) n h = tt

pub none_gathered : (table : Table) (d : Declarations) (xs : Texts) → Gathers table table d d xs xs (λ s. []) (λ s. s)
none_gathered table d xs = still table d (λ s. []) (λ s fits. none_added xs)

-- by what they are equal to
pub gathers_same : {t0 t1 : Table} {d e : Declarations} {xs ys : Texts} (m n : Scope → List (List ℕ)) (f g : Scope → Scope) → ((s : Scope) → m s ≡ n s) → ((s : Scope) → f s ≡ g s) → Gathers t0 t1 d e xs ys m f → Gathers t0 t1 d e xs ys n g
gathers_same {t1 = t1} {e = e} m n f g p same h = record {
  grows = h.grows;
  tags = h.tags;
  adds = λ s holds. adds_same (p s) (h.adds s holds);
  holds = λ s holds. subst (λ (z : Scope). Holds t1 e z) (same s) (h.holds s holds);
  around = h.around;
}

-- one behind the other
pub gathers_then : {t0 t1 t2 : Table} {d e g : Declarations} {xs ys zs : Texts} (m n : Scope → List (List ℕ)) (f h : Scope → Scope) → Gathers t0 t1 d e xs ys m f → Gathers t1 t2 e g ys zs n h
    → Gathers t0 t2 d g xs zs (λ s. m s ++ n (f s)) (λ s. h (f s))
gathers_then {t0} {t1} {t2} {d} {e} {g} m n f h p q = record {
  grows = grows_then (known t0) (known t1) (known t2) p.grows q.grows;
  tags = q.tags ∙ p.tags;
  adds = λ s holds. adds_then (p.adds s holds) (q.adds (f s) (p.holds s holds));
  holds = λ s holds. q.holds (f s) (p.holds s holds);
  around = around_then d e g p.around q.around;
}

-- there is a scope behind it
pub gathers_some : {t0 t1 : Table} {d e : Declarations} {xs ys : Texts} {n : Scope → List (List ℕ)} {f : Scope → Scope} → Gathers t0 t1 d e xs ys n f → HoldsSome t0 d → HoldsSome t1 e
gathers_some {f = f} h some = (f some.0, h.holds some.0 some.1)

-- in a block that has ended
pub block_gathers : {t0 t1 : Table} {d0 d1 e d2 : Declarations} {xs ys : Texts} (n : Scope → List (List ℕ)) (f : Scope → Scope) → d1.names.block ≡ [] → IsInside d0 d1 → Gathers t0 t1 d1 e xs ys n f → IsSame d0 d2
    → Gathers t0 t1 d0 d2 xs ys (λ s. n (entered s)) (λ s. s)
block_gathers {t0} {t1} {d0} {d1} {e} {d2} n f empty i h same = record {
  grows = h.grows;
  tags = h.tags;
  adds = λ s holds. h.adds (entered s) (block_entered t0 d0 d1 s empty i.outer i.layouts i.defined holds);
  holds = λ s holds. same_holds t0 t1 d0 d2 s h.grows h.tags same holds;
  around = around_same d0 d2 same;
}

-- ---- several trees, one after the other

-- what is gathered of all is that so far and that of those that are left, in the scope behind the first ones
pub record Going (old now : Table) (d e : Declarations) (xs ys : Texts) (left all : Scope → List (List ℕ)) (rest behind : Scope → Scope) : Type 0 where
  pub taken : Scope → List (List ℕ)
  pub here : Scope → Scope
  pub are : Gathers old now d e xs ys taken here
  pub is : (s : Scope) → all s ≡ taken s ++ left (here s)
  pub scope : (s : Scope) → behind s ≡ rest (here s)

pub begun : (table : Table) (d : Declarations) (xs : Texts) (all : Scope → List (List ℕ)) (behind : Scope → Scope) → Going table table d d xs xs all all behind behind
begun table d xs all behind = record { taken = λ s. []; here = λ s. s; are = none_gathered table d xs; is = λ s. refl; scope = λ s. refl }

pub goes_on : {t0 t1 t2 : Table} {d e g : Declarations} {xs ys zs : Texts} (left more all next : Scope → List (List ℕ)) (rest others behind move : Scope → Scope) → Going t0 t1 d e xs ys left all rest behind → Gathers t1 t2 e g ys zs next move
    → ((s : Scope) → left s ≡ next s ++ more (move s)) → ((s : Scope) → rest s ≡ others (move s)) → Going t0 t2 d g xs zs more all others behind
goes_on left more all next rest others behind move h k parts scopes = record {
  taken = λ s. h.taken s ++ next (h.here s);
  here = λ s. move (h.here s);
  are = gathers_then h.taken next h.here move h.are k;
  is = λ s. h.is s ∙ (ap (λ (l : List (List ℕ)). h.taken s ++ l) (parts (h.here s)) ∙ sym (append_assoc (h.taken s) (next (h.here s)) (more (move (h.here s)))));
  scope = λ s. h.scope s ∙ scopes (h.here s);
}

pub done : {t0 t1 : Table} {d e : Declarations} {xs ys : Texts} (left all : Scope → List (List ℕ)) (rest behind : Scope → Scope) → Going t0 t1 d e xs ys left all rest behind → ((s : Scope) → left s ≡ []) → ((s : Scope) → rest s ≡ s)
    → Gathers t0 t1 d e xs ys all behind
done left all rest behind g none same =
    gathers_same g.taken all g.here behind (λ s. sym (g.is s ∙ (ap (λ (l : List (List ℕ)). g.taken s ++ l) (none (g.here s)) ∙ append-nil (g.taken s)))) (λ s. sym (g.scope s ∙ same (g.here s))) g.are

-- ---- a declaration whose name goes again

pub forgotten : {t0 t1 : Table} {d0 d1 : Declarations} {xs ys : Texts} {n : Scope → List (List ℕ)} (d2 : Declarations) (d : CDecl) (refusal : Option TypeFault) (r : Result (Unit {0}) AllocError)
    → Gathers t0 t1 d0 d1 xs ys n (λ s. scope_or s (declared s false d)) → ((s : Scope) → Holds t0 d0 s → refusal ≡ result_err (declared s false d))
    → ((s : Scope) (e : CDecl) → refusal ≡ result_err (declared s false e) → Holds t1 d1 (scope_or s (declared s false e)) → OnOk r (Holds t1 d2 s)) → OnOk r (IsAround d1 d2)
    → OnOk r (Gathers t0 t1 d0 d2 xs ys n (λ s. s))
forgotten {d0 = d0} {d1} d2 d refusal (Ok x) h told goes around = record {
  grows = h.grows;
  tags = h.tags;
  adds = h.adds;
  holds = λ s holds. goes s d (told s holds) (h.holds s holds);
  around = around_then d0 d1 d2 h.around around;
}
forgotten d2 d refusal (Err e) h told goes around = tt
