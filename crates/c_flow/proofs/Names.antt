-- The slots of code hold the objects of a run's names.
use Rattle.std.proofs.Common.{◌≡◌, ℕ, zero, suc, ◌+◌, ◌<◌, ◌≤◌, List, [], ◌∷◌, ◌++◌, length, Option, Some, None, Bool, true, false, refl, sym, ap, ◌∙◌, subst, arith, length-append}
use Rattle.std.specs.Prelude.{slice_get, cond}
use Rattle.std.specs.Str.{bytes_eq}
use Rattle.c_syntax.specs.Plain as plain
use Rattle.c_syntax.specs.Plain.{CExpr, CValue, CDecl, CStmt, CStmts}
use Rattle.c_syntax.specs.Words.{meaning}
use Rattle.c_eval.specs.Environment.{Environment, past, past_maybe, declaring, past_first, behind, behind_all, in_block}
use Rattle.c_code.specs.Code.{Site, slots_for, slots_for_all}
use Rattle.c_code.specs.Machine.{numbered}
use Rattle.c_flow.proofs.Forms.{Finds, Alike, seen}

-- names are found in the slots, and the slots behind them have the numbers to come
pub record Ready (slots : List (Option ℕ)) (site : Site) (free count : ℕ) (there : Environment) (os : List (List ℕ × Option ℕ)) (n : ℕ) : Type 0 where
  pub alike : Alike slots site there os
  pub pending : (i : ℕ) → i < count → slice_get slots (there.next + i) ≡ Some (Some (n + i))
  pub size : length slots ≡ free

-- the environment of a run is that of code, with objects in place of slots
pub record Sees (slots : List (Option ℕ)) (site : Site) (free count : ℕ) (there here : Environment) : Type 0 where
  pub os : List (List ℕ × Option ℕ)
  pub n : ℕ
  pub is : here ≡ seen there os n
  pub ready : Ready slots site free count there os n

pub at_seen : (P : Environment → Type 0) {slots : List (Option ℕ)} {site : Site} {free count : ℕ} {there here : Environment} → Sees slots site free count there here →
    ((os : List (List ℕ × Option ℕ)) (n : ℕ) → Ready slots site free count there os n → P (seen there os n)) → P here
at_seen P s f = subst P (sym s.is) (f s.os s.n s.ready)

fewer : (slots : List (Option ℕ)) (site : Site) (free count k : ℕ) (there : Environment) (os : List (List ℕ × Option ℕ)) (n : ℕ) → k ≤ count → Ready slots site free count there os n → Ready slots site free k there os n
fewer slots site free count k there os n le r = record { alike = r.alike; pending = λ i lt. r.pending i (omega (arith, lt, le)); size = r.size }

-- ---- a declaration

pub finds_by : (b : Bool) (slots : List (Option ℕ)) (slot : ℕ) (x : Option ℕ) (a file r : Option (Option ℕ)) → slice_get slots slot ≡ Some x → Finds slots a file r → Finds slots (cond b (Some (Some slot)) a) file (cond b (Some x) r)
finds_by true slots slot x a file r e f = (x, e, refl)
finds_by false slots slot x a file r e f = f

first_pending : (slots : List (Option ℕ)) (next n : ℕ) → slice_get slots (next + 0) ≡ Some (Some (n + 0)) → slice_get slots next ≡ Some (Some n)
first_pending slots next n e = let a : next + 0 ≡ next = omega arith in let b : n + 0 ≡ n = omega arith in ap (slice_get slots) (sym a) ∙ (e ∙ ap (λ k. Some (Some k)) b)

next_pending : (slots : List (Option ℕ)) (next n i : ℕ) → slice_get slots (next + suc i) ≡ Some (Some (n + suc i)) → slice_get slots (suc next + i) ≡ Some (Some (suc n + i))
next_pending slots next n i e = let a : suc next + i ≡ next + suc i = omega arith in let b : n + suc i ≡ suc n + i = omega arith in ap (slice_get slots) a ∙ (e ∙ ap (λ k. Some (Some k)) b)

pub declared_slot : (slots : List (Option ℕ)) (site : Site) (free k : ℕ) (there : Environment) (os : List (List ℕ × Option ℕ)) (n : ℕ) → Ready slots site free (suc k) there os n → slice_get slots there.next ≡ Some (Some n)
declared_slot slots site free k there os n r = first_pending slots there.next n (r.pending 0 (omega arith))

pub declaring_ready : (slots : List (Option ℕ)) (site : Site) (free k : ℕ) (there : Environment) (os : List (List ℕ × Option ℕ)) (n : ℕ) (d : CDecl) → Ready slots site free (suc k) there os n →
    Ready slots site free k (declaring d there) ((d.name, Some n) ∷ os) (suc n)
declaring_ready slots site free k there os n d r = record {
  alike = record { finds = λ name. finds_by (bytes_eq name d.name) slots there.next (Some n) (meaning there.objects name) (meaning site.names name) (meaning os name) (declared_slot slots site free k there os n r) (r.alike.finds name) };
  pending = λ i lt. next_pending slots there.next n i (r.pending (suc i) (omega (arith, lt)));
  size = r.size;
}

first_sees : (slots : List (Option ℕ)) (site : Site) (free k : ℕ) (there : Environment) (os : List (List ℕ × Option ℕ)) (n : ℕ) (d : CDecl) (first : Option CValue) → Ready slots site free (suc k) there os n →
    Sees slots site free k (past_first first (declaring d there)) (past_first first (declaring d (seen there os n)))
first_sees slots site free k there os n d None r = let s = declaring_ready slots site free k there os n d r in record { os = (d.name, Some n) ∷ os; n = suc n; is = refl; ready = s }
first_sees slots site free k there os n d (Some v) r =
    let s = declaring_ready slots site free k there os n d r in
    record { os = (d.name, Some n) ∷ os; n = suc n; is = refl; ready = record { alike = record { finds = s.alike.finds }; pending = s.pending; size = s.size } }

-- ---- statements

same_sees : (slots : List (Option ℕ)) (site : Site) (free count k : ℕ) (there : Environment) (os : List (List ℕ × Option ℕ)) (n l : ℕ) → k ≤ count → Ready slots site free count there os n →
    Sees slots site free k (record there { literals_before = l }) (record (seen there os n) { literals_before = l })
same_sees slots site free count k there os n l le r =
    let s = fewer slots site free count k there os n le r in
    record { os = os; n = n; is = refl; ready = record { alike = record { finds = s.alike.finds }; pending = s.pending; size = s.size } }

last_part : (a k count : ℕ) → a + k ≤ count → k ≤ count
last_part a k count le = omega (arith, le)

one_part : (k count : ℕ) → 1 + k ≤ count → suc k ≤ count
one_part k count le = omega (arith, le)

pub behind_sees : (t : CStmt) (slots : List (Option ℕ)) (site : Site) (free count k : ℕ) (there : Environment) (os : List (List ℕ × Option ℕ)) (n : ℕ) → slots_for t + k ≤ count → Ready slots site free count there os n →
    Sees slots site free k (behind t there) (behind t (seen there os n))
behind_sees (plain.Local d) slots site free count k there os n le r = first_sees slots site free k there os n d d.first (fewer slots site free count (suc k) there os n (one_part k count le) r)
behind_sees t slots site free count k there os n le r = same_sees slots site free count k there os n _ (last_part (slots_for t) k count le) r

all_here : (k count : ℕ) → 0 + k ≤ count → k ≤ count
all_here k count le = omega (arith, le)

in_order : (a b k count : ℕ) → (a + b) + k ≤ count → a + (b + k) ≤ count
in_order a b k count le = omega (arith, le)

enough : (a : ℕ) → a ≤ a
enough a = omega arith

pub behind_all_sees : (ts : CStmts) (slots : List (Option ℕ)) (site : Site) (free count k : ℕ) (there : Environment) (os : List (List ℕ × Option ℕ)) (n : ℕ) → slots_for_all ts + k ≤ count → Ready slots site free count there os n →
    Sees slots site free k (behind_all ts there) (behind_all ts (seen there os n))
behind_all_sees plain.NoStmt slots site free count k there os n le r = record { os = os; n = n; is = refl; ready = fewer slots site free count k there os n (all_here k count le) r }
behind_all_sees (plain.MoreStmt t ts) slots site free count k there os n le r =
    at_seen (λ here. Sees slots site free k (behind_all ts (behind t there)) (behind_all ts here)) (behind_sees t slots site free count (slots_for_all ts + k) there os n (in_order (slots_for t) (slots_for_all ts) k count le) r)
    (λ os1 n1 r1. behind_all_sees ts slots site free (slots_for_all ts + k) k (behind t there) os1 n1 (enough (slots_for_all ts + k)) r1)

pub past_ready : (e : CExpr) (slots : List (Option ℕ)) (site : Site) (free count : ℕ) (there : Environment) (os : List (List ℕ × Option ℕ)) (n : ℕ) → Ready slots site free count there os n → Ready slots site free count (past e there) os n
past_ready e slots site free count there os n r = record { alike = record { finds = r.alike.finds }; pending = r.pending; size = r.size }

pub maybe_sees : (e : Option CExpr) (slots : List (Option ℕ)) (site : Site) (free count : ℕ) (there : Environment) (os : List (List ℕ × Option ℕ)) (n : ℕ) → Ready slots site free count there os n →
    Sees slots site free count (past_maybe e there) (past_maybe e (seen there os n))
maybe_sees None slots site free count there os n r = record { os = os; n = n; is = refl; ready = r }
maybe_sees (Some e) slots site free count there os n r = record { os = os; n = n; is = refl; ready = past_ready e slots site free count there os n r }

-- ---- blocks

pub get_first : (xs ys : List (Option ℕ)) (i : ℕ) (x : Option ℕ) → slice_get xs i ≡ Some x → slice_get (xs ++ ys) i ≡ Some x
get_first [] ys i x e = absurd (cc e)
get_first (y ∷ xs) ys zero x e = e
get_first (y ∷ xs) ys (suc i) x e = get_first xs ys i x e

pub get_behind : (xs ys : List (Option ℕ)) (i : ℕ) → slice_get (xs ++ ys) (length xs + i) ≡ slice_get ys i
get_behind [] ys i = let e : zero + i ≡ i = omega arith in ap (slice_get ys) e
get_behind (x ∷ xs) ys i = let e : suc (length xs) + i ≡ suc (length xs + i) = omega arith in ap (slice_get (x ∷ (xs ++ ys))) e ∙ get_behind xs ys i

pub get_numbered : (o count i : ℕ) → i < count → slice_get (numbered o count) i ≡ Some (Some (o + i))
get_numbered o zero i lt = absurd (omega (arith, lt))
get_numbered o (suc count) zero lt = let e : o ≡ o + 0 = omega arith in ap (λ k. Some (Some k)) e
get_numbered o (suc count) (suc i) lt = let e : suc o + i ≡ o + suc i = omega arith in get_numbered (suc o) count i (omega (arith, lt)) ∙ ap (λ k. Some (Some k)) e

pub numbered_length : (o count : ℕ) → length (numbered o count) ≡ count
numbered_length o zero = refl
numbered_length o (suc count) = ap suc (numbered_length (suc o) count)

finds_more : (slots more : List (Option ℕ)) (a file r : Option (Option ℕ)) → Finds slots a file r → Finds (slots ++ more) a file r
finds_more slots more (Some (Some s)) file r f = (f.0, get_first slots more s f.0 f.1, f.2)
finds_more slots more (Some None) file r f = f
finds_more slots more None file r f = f

pub block_ready : (slots : List (Option ℕ)) (site : Site) (free count : ℕ) (there : Environment) (os : List (List ℕ × Option ℕ)) (n o more : ℕ) → Ready slots site free count there os n →
    Ready (slots ++ numbered o more) site (free + more) more (in_block free there) os o
block_ready slots site free count there os n o more r = record {
  alike = record { finds = λ name. finds_more slots (numbered o more) (meaning there.objects name) (meaning site.names name) (meaning os name) (r.alike.finds name) };
  pending = λ i lt. ap (λ k. slice_get (slots ++ numbered o more) (k + i)) (sym r.size) ∙ (get_behind slots (numbered o more) i ∙ get_numbered o more i lt);
  size = length-append slots (numbered o more) ∙ (ap (λ k. k + length (numbered o more)) r.size ∙ ap (λ k. free + k) (numbered_length o more));
}
