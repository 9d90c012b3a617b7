-- Code one piece behind another, with the blocks in which it ends.
use Rattle.std.proofs.Common.{◌≡◌, ℕ, ◌+◌, List, [], ◌∷◌, ◌++◌, length, drop, refl, sym, ap, subst, ◌∙◌, add-zero, append-nil, arith}
use Rattle.std.specs.Prelude.{Result, Ok, Err, IfOk, OnOk, Option, Some, None}
use Rattle.eir_core.specs.declared.ops.Op.{Op}
use Rattle.c_types.specs.Scope.{Scope}
use Rattle.c_eval.specs.Environment.{Environment}
use Rattle.c_operands.specs.declared.declarations.Declarations.{Declarations}
use Rattle.c_declared.specs.Held.{Holds, HoldsSome}
use Rattle.c_declared.proofs.HeldLemmas.{held_kept}
use Rattle.c_emission.specs.declared.location.Location.{Location}
use Rattle.c_emission.specs.declared.location.Location.TheVariants.{Fixed, Framed}
use Rattle.c_emission.specs.declared.location.Direct.{Direct}
use Rattle.c_emission.specs.declared.location.Direct.TheVariants.{Exactly, Address, Stored}
use Rattle.c_emission.specs.View.{location_of, direct_of}
use Rattle.c_lowered.specs.Locations as plain
use Rattle.c_lowered.specs.Locations.{Linking}
use Rattle.c_counted.specs.Numbers.{IsNumber}
use Rattle.c_addressing.specs.declared.here.Here as rust
use Rattle.c_addressing.specs.declared.here.Literals.{Literals}
use Rattle.c_addressing.specs.declared.here.Output.{Output}
use Rattle.c_addressing.specs.declared.spots.Known.{Known}
use Rattle.c_addressing.specs.declared.spots.Spot.{Spot}
use Rattle.c_addressing.specs.Here.{IsHere, IsBehind, Emits, IsKnown, IsSpot}
use Rattle.c_addressing.specs.Places.{IsLocation, IsDirect}
use Rattle.c_addressing.proofs.HereLemmas.{still, both, here_behind, holds_later}
use Rattle.c_lowered.specs.Operations.{loaded}
use Rattle.c_applied.specs.Leads.{Leads, Keeps, MayLead}

-- ---- tables that grow

pub keeps_none : (a : Output) → Keeps a a
keeps_none a = record { grows = λ n k h. h; tags = refl }

pub kept : {a b : Output} {code : List Op} {n : ℕ} → Emits a b code n → Keeps a b
kept e = record { grows = e.grows; tags = e.tags }

pub keeps_then : {a b c : Output} → Keeps a b → Keeps b c → Keeps a c
keeps_then f g = record { grows = λ n k h. g.grows n k (f.grows n k h); tags = g.tags ∙ f.tags }

pub some_on : (a b : Output) (d : Declarations) → Keeps a b → HoldsSome a.types d → HoldsSome b.types d
some_on a b d k h = held_kept a.types b.types d k.grows k.tags h

-- ---- places behind code

here_same : (here : Environment) → record here { literals_before = here.literals_before + 0 } ≡ here
here_same here = ap (λ (n : ℕ). record here { literals_before = n }) (add-zero here.literals_before)

pub here_still : {h : rust.Here} {a b : Output} {w : Linking} {here : Environment} {code : List Op} → Emits a b code 0 → IsHere h a w here → IsHere h b w here
here_still {h} {a} {b} {w} {here} e is = subst (λ (x : Environment). IsHere h b w x) (here_same here) (here_behind h a b w here e is)

pub here_on : {h : rust.Here} {a b : Output} {w : Linking} {here : Environment} {code : List Op} {n : ℕ} → Emits a b code n → IsHere h a w here → IsHere h b w (record here { literals_before = here.literals_before + n })
here_on {h} {a} {b} {w} {here} e is = here_behind h a b w here e is

-- ---- code

pub nothing : (a : Output) → Emits a a [] 0
nothing a = still a a (λ n k h. h) refl refl refl

pub as_count : {a b : Output} {code : List Op} {m n : ℕ} → m ≡ n → Emits a b code m → Emits a b code n
as_count {a} {b} {code} same e = subst (λ (k : ℕ). Emits a b code k) same e

zero_plus : (n : ℕ) → 0 + n ≡ n
zero_plus n = omega arith

-- a piece without literals behind code, and before it
pub then_piece : {a b c : Output} {is js : List Op} {n : ℕ} → Emits a b is n → Emits b c js 0 → Emits a c (is ++ js) n
then_piece {a} {b} {c} {is} {js} {n} e f = as_count (add-zero n) (both e f)

pub piece_then : {a b c : Output} {is js : List Op} {n : ℕ} → Emits a b is 0 → Emits b c js n → Emits a c (is ++ js) n
piece_then {a} {b} {c} {is} {js} {n} e f = as_count (zero_plus n) (both e f)

-- nothing behind code
pub then_still : {a b c : Output} {is : List Op} {n : ℕ} → Emits a b is n → Emits b c [] 0 → Emits a c is n
then_still {a} {b} {c} {is} {n} e f = subst (λ (l : List Op). Emits a c l n) (append-nil is) (then_piece e f)

-- ---- code that ends in a block

pub leads_then : {a b c : Output} {is js : List Op} {m n t k u l : ℕ} → Leads a b is m t k → Leads b c js n u l → Leads a c (is ++ js) (m + n) u l
leads_then f g = record { emits = both f.emits g.emits; block = g.block }

pub leads_piece : {a b c : Output} {is js : List Op} {n t k : ℕ} → Leads a b is n t k → Emits b c js 0 → Leads a c (is ++ js) n t k
leads_piece f e = record { emits = then_piece f.emits e; block = f.block }

pub piece_leads : {a b c : Output} {is js : List Op} {n t k : ℕ} → Emits a b is 0 → Leads b c js n t k → Leads a c (is ++ js) n t k
piece_leads e f = record { emits = piece_then e f.emits; block = f.block }

pub literals_lead : {a b c : Output} {is : List Op} {m n t k : ℕ} → Emits a b [] m → Leads b c is n t k → Leads a c is (m + n) t k
literals_lead e f = record { emits = both e f.emits; block = f.block }

pub leads : {a b : Output} {is : List Op} {n t k : ℕ} → Emits a b is n → IsNumber t k → Leads a b is n t k
leads e h = record { emits = e; block = h }

pub at_block : {a b : Output} {is : List Op} {n t k l : ℕ} → k ≡ l → Leads a b is n t k → Leads a b is n t l
at_block {a} {b} {is} {n} {t} same f = subst (λ (x : ℕ). Leads a b is n t x) same f

pub as_lead : {a b : Output} {is js : List Op} {n t k : ℕ} → is ≡ js → Leads a b is n t k → Leads a b js n t k
as_lead {a} {b} {is} {js} {n} {t} {k} same f = subst (λ (l : List Op). Leads a b l n t k) same f

pub with_count : {a b : Output} {is : List Op} {m n t k : ℕ} → m ≡ n → Leads a b is m t k → Leads a b is n t k
with_count {a} {b} {is} {m} {n} {t} {k} same f = subst (λ (x : ℕ). Leads a b is x t k) same f

pub told_block : {t k l : ℕ} → k ≡ l → IsNumber t k → IsNumber t l
told_block {t} same h = subst (λ (x : ℕ). IsNumber t x) same h

-- unless memory is wanting
pub if_ok : {T E : Type 0} {P Q : T → Type 0} (r : Result T E) → ((x : T) → P x → Q x) → IfOk r P → IfOk r Q
if_ok (Ok x) f h = f x h
if_ok (Err e) f h = tt

pub on_ok : {T E : Type 0} {P Q : Type 0} (r : Result T E) → (P → Q) → OnOk r P → OnOk r Q
on_ok (Ok x) f h = f h
on_ok (Err e) f h = tt

-- ---- what needs no evaluation

pub same_number : (n : ℕ) → IsNumber n n
same_number n = record { same = refl }

pub same_location : (l : Location) → IsLocation l (location_of l)
same_location (Fixed a) = same_number a
same_location (Framed k) = same_number k

pub same_direct : (v : Direct) → IsDirect v (direct_of v)
same_direct (Exactly n) = same_number n
same_direct (Address k) = same_number k
same_direct (Stored l) = same_location l

pub known_some : (k : Known) (l : Literals) (count : ℕ) (d : Option plain.Direct) → IsKnown l count (Some k) d → (x : plain.Direct) × (d ≡ Some x) × IsDirect k.value x × IsBehind l k.literals count
known_some k l count (Some x) h = (x, refl, h.0, h.1)
known_some k l count None h = absurd h

pub known_none : (l : Literals) (count : ℕ) (d : Option plain.Direct) → IsKnown l count None d → d ≡ None
known_none l count None h = refl
known_none l count (Some x) h = absurd h

pub spot_some : (s : Spot) (l : Literals) (count : ℕ) (p : Option plain.Location) → IsSpot l count (Some s) p → (x : plain.Location) × (p ≡ Some x) × IsLocation s.place x × IsBehind l s.literals count
spot_some s l count (Some x) h = (x, refl, h.0, h.1)
spot_some s l count None h = absurd h

pub spot_none : (l : Literals) (count : ℕ) (p : Option plain.Location) → IsSpot l count None p → p ≡ None
spot_none l count None h = refl
spot_none l count (Some x) h = absurd h

-- the literals that come next are the same behind a piece without any
pub behind_still : {a b : Output} {code : List Op} {l : Literals} {n : ℕ} → Emits a b code 0 → IsBehind a.literals l n → IsBehind b.literals l n
behind_still {a} {b} {code} {l} {n} e h = record {
  next = h.next ∙ ap (λ (x : List ℕ). drop n x) (sym e.passed.next);
  end = h.end ∙ sym e.passed.end;
}

-- what a value that may need no evaluation led to
pub some_leads : {a b : Output} {n k : ℕ} (t : ℕ) (d : Option plain.Direct) → MayLead a b (Some t) d n k → Leads a b (loaded d) n t k
some_leads t (Some v) h = h
some_leads t None h = absurd h

pub none_leads : {a b : Output} {n m j t : ℕ} (d : Option plain.Direct) → MayLead a b None d n (m + j) → (d ≡ None → (n ≡ 0) × (j ≡ 0)) → IsNumber t m → Leads a b (loaded d) n t (m + j)
none_leads {a} {b} {n} {m} {j} {t} None h f hk =
    let z = f refl in
    record { emits = as_count (sym z.0) h; block = told_block (sym (ap (λ (x : ℕ). m + x) z.1 ∙ add-zero m)) hk }
none_leads (Some v) h f hk = absurd h
