-- Where statements stand, while code is added and blocks come and go.
use Rattle.std.proofs.Common.{◌≡◌, ◌+◌, ℕ, suc, Bool, true, false, List, [], ◌∷◌, ◌++◌, length, replicate, Option, Some, refl, sym, ap, subst, ◌∙◌, if◌then◌else◌, arith}
use Rattle.std.proofs.Math.Seq.{take-append_seam}
use Rattle.std.proofs.lemmas.List.{length-replicate}
use Rattle.std.proofs.lemmas.Slice.Eq.{bytes_eq-Decides}
use Rattle.std.specs.Prelude.{take}
use Rattle.std.specs.Str.{bytes_eq}
use denote.Ref.{Bor}
use Rattle.c_syntax.specs.Words.{meaning}
use Rattle.c_types.specs.Scope.{Scope, entered}
use Rattle.c_eval.specs.State.{Cell, Unset}
use Rattle.c_eval.specs.Environment.{Environment}
use Rattle.eir_core.specs.declared.ops.Op.{Op}
use Rattle.c_scopes.specs.declared.entity.Entity.{Entity}
use Rattle.c_scopes.specs.declared.entity.Entity.TheVariants as rust
use Rattle.c_scopes.specs.Blocks.{Blocks}
use Rattle.c_emission.specs.declared.location.Location.{Location}
use Rattle.c_declared.specs.Held.{Holds, HoldsSome}
use Rattle.c_declared.proofs.HeldLemmas.{block_entered}
use Rattle.c_lowered.specs.Locations.{Linking, framed}
use Rattle.c_lowered.specs.Statements.{words_in}
use Rattle.c_counted.specs.Numbers.{IsNumber}
use Rattle.c_addressing.specs.declared.here.Here.{Here}
use Rattle.c_addressing.specs.declared.here.Output.{Output}
use Rattle.c_addressing.specs.Here.{IsHere, Emits}
use Rattle.c_addressing.specs.Names.{slot_of, entry_in}
use Rattle.c_addressing.specs.Places.{AreLocations}
use Rattle.c_applied.specs.Leads.{Keeps}
use Rattle.c_applied.proofs.LeadsLemmas.{keeps_then, some_on, here_still, here_on}
use Rattle.c_lower_blocks.specs.declared.blocks.Block.{Block}
use Rattle.c_lower_blocks.specs.declared.blocks.Marks.{Marks}
use Rattle.c_lower_blocks.specs.Blocks.{IsInside, IsEntered, IsSame, IsAnew}
use Rattle.c_lower_blocks.specs.Laid.{Places}
use Rattle.c_lower_blocks.specs.Standing.{Stands, StandsIn, Goes}
use Rattle.c_lower_blocks.proofs.LaidLemmas.{locations_join, as_many}
use Rattle.c_lower_blocks.proofs.InsideLemmas.{beside_none, beside_then, slots_same, same_here, same_some}

abbrev Entries : Type 0
Entries = List (List ℕ × Entity)

abbrev Numbers : Type 0
Numbers = List (List ℕ × Option ℕ)

-- ---- whatever the tree is

pub goes_on : (a b : Output) (h : Here) (k : Block) → Keeps a b → HoldsSome a.types h.declared → Goes a b h h k k
goes_on a b h k keeps some = record { keeps = keeps; beside = beside_none h; holds = some_on a b h.declared keeps some; free = refl }

pub goes_then : {a b c : Output} {h e f : Here} {k l m : Block} → Goes a b h e k l → Goes b c e f l m → Goes a c h f k m
goes_then g i = record { keeps = keeps_then g.keeps i.keeps; beside = beside_then g.beside i.beside; holds = i.holds; free = i.free ∙ g.free }

-- types grow before, and behind
pub goes_behind : {a b c : Output} {h e : Here} {k l : Block} → Keeps a b → Goes b c h e k l → Goes a c h e k l
goes_behind keeps g = record { keeps = keeps_then keeps g.keeps; beside = g.beside; holds = g.holds; free = g.free }

pub goes_later : {a b c : Output} {h e : Here} {k l : Block} → Goes a b h e k l → Keeps b c → Goes a c h e k l
goes_later {a} {b} {c} {h} {e} g keeps = record { keeps = keeps_then g.keeps keeps; beside = g.beside; holds = some_on b c e.declared keeps g.holds; free = g.free }

-- a block has ended
pub block_goes : (a b : Output) (h e : Here) (k : Block) → IsSame h e → Keeps a b → HoldsSome a.types h.declared → Goes a b h e k k
block_goes a b h e k same keeps some = record { keeps = keeps; beside = same.beside; holds = same_some a b h e same keeps some; free = refl }

-- ---- places

pub stands_still : {h : Here} {a b : Output} {k : Block} {w : Linking} {env : Environment} {n : ℕ} {code : List Op} → Emits a b code 0 → Stands h a k w env n → Stands h b k w env n
stands_still e s = record { here = here_still e s.here; next = s.next; free = s.free }

pub stands_on : {h : Here} {a b : Output} {k : Block} {w : Linking} {env : Environment} {n m : ℕ} {code : List Op} → Emits a b code m → Stands h a k w env n → Stands h b k w (record env { literals_before = env.literals_before + m }) n
stands_on e s = record { here = here_on e s.here; next = s.next; free = s.free }

-- behind a block that has ended
pub stands_same : (h e : Here) (a b : Output) (k : Block) (w : Linking) (env : Environment) (n : ℕ) {code : List Op} {m : ℕ} → IsSame h e → Emits a b code m → Stands h a k w env n → Stands e b k w (record env { literals_before = env.literals_before + m }) n
stands_same h e a b k w env n same emits s = record { here = same_here h e a b w env same emits s.here; next = s.next; free = s.free }

-- ---- a block begins

anew_names : (h e f g : Here) (m : Marks) → IsEntered h e m → f.declared.names.outer ≡ e.declared.names.outer → IsAnew f g → g.declared.names.outer ≡ h.declared.names.block ++ h.declared.names.outer
anew_names h e f g m entered around anew = anew.declared.outer ∙ (around ∙ entered.inside.names)

pub begun_bases : {old new : Output} {h e f g : Here} {m : Marks} {free behind : ℕ} {os : Scope → List (List Cell)} {r : Scope → Scope} → IsEntered h e m → (p : Places old new e f free behind os r) → IsAnew f g → g.bases.items ≡ h.bases.items ++ p.more
begun_bases entered p anew = anew.bases ∙ (p.bases ∙ ap (λ (l : List Location). l ++ p.more) entered.bases)

pub begun_inside : {old new : Output} {h e f g : Here} {m : Marks} {free behind : ℕ} {os : Scope → List (List Cell)} {r : Scope → Scope} → IsEntered h e m → Places old new e f free behind os r → IsAnew f g → IsInside h g
begun_inside {old} {new} {h} {e} {f} {g} {m} entered p anew = record {
  names = anew_names h e f g m entered p.around.outer anew;
  slots = ap (λ (b : Blocks). b.outer) (anew.slots ∙ p.slots) ∙ entered.inside.slots;
  layouts = anew.declared.layouts ∙ (p.around.layouts ∙ entered.inside.layouts);
  defined = anew.declared.defined ∙ (p.around.defined ∙ entered.inside.defined);
  bases = ap (λ (l : List Location). take (length h.bases.items) l) (begun_bases entered p anew) ∙ take-append_seam h.bases.items p.more;
  entries = anew.entries ∙ (p.entries ∙ entered.inside.entries);
}

pub begun_holds : {old new : Output} {h e f g : Here} {m : Marks} {free behind : ℕ} {os : Scope → List (List Cell)} {r : Scope → Scope} (s : Scope) → IsEntered h e m → Places old new e f free behind os r → IsAnew f g → Holds new.types h.declared s → Holds new.types g.declared (entered s)
begun_holds {old} {new} {h} {e} {f} {g} {m} s into p anew holds =
    block_entered new.types h.declared g.declared s anew.names (anew_names h e f g m into p.around.outer anew) (anew.declared.layouts ∙ (p.around.layouts ∙ into.inside.layouts))
    (anew.declared.defined ∙ (p.around.defined ∙ into.inside.defined)) holds

-- code may have been added while the objects got their places
pub begun_stands : {old new : Output} {h e f g : Here} {m : Marks} {free behind : ℕ} {os : Scope → List (List Cell)} {r : Scope → Scope} {code : List Op} (k : Block) (w : Linking) (env : Environment) (n : ℕ) → IsEntered h e m → Places old new e f free behind os r
    → HoldsSome old.types h.declared → Emits old new code 0 → IsAnew f g → k.next ≡ m.bases → k.free ≡ behind → ((s : Scope) → Holds old.types h.declared s → Holds old.types e.declared (entered s)) → IsHere h old w env → IsNumber free n → StandsIn g new k w env n (os (entered env.scope))
begun_stands {old} {new} {h} {e} {f} {g} {m} {free} {behind} {os} {r} k w env n into p some emits anew next far inner is hn =
    let now : IsHere h new w env = here_still emits is in
    let objects = os (entered env.scope) in
    let laid = p.laid (entered env.scope) n (inner env.scope is.holds) hn in
    let slots : g.slots.block ++ g.slots.outer ≡ h.slots.block ++ h.slots.outer =
    ap (λ (b : Blocks). b.block ++ b.outer) (anew.slots ∙ p.slots) ∙ (ap (λ (l : Entries). l ++ e.slots.outer) into.slots ∙ into.inside.slots) in
    let entries : g.entries.entries ≡ h.entries.entries = anew.entries ∙ (p.entries ∙ into.inside.entries) in
    let bases : AreLocations (h.bases.items ++ p.more) (w.bases ++ framed objects n) = locations_join h.bases.items p.more w.bases (framed objects n) now.bases laid.places in
    record {
      here = record {
        holds = begun_holds env.scope into p anew now.holds;
        slots = slots_same h.slots g.slots env.objects slots now.slots;
        bases = subst (λ (l : List Location). AreLocations l (w.bases ++ framed objects n)) (sym (begun_bases into p anew)) bases;
        entries = λ name. subst (λ (x : List (Bor (List ℕ) × ℕ)). IsNumber (entry_in x name) (w.entry name)) (sym entries) (now.entries name);
        literals = record { address = λ k. now.literals.address k };
      };
      next = next ∙ (into.marks.bases ∙ as_many h.bases.items w.bases now.bases);
      free = subst (λ (x : ℕ). IsNumber x (n + words_in objects)) (sym far) laid.free;
    }

-- ---- declarations

found_or : (b : Bool) (n : ℕ) (o : Option Entity) (p : Option (Option ℕ)) → slot_of o ≡ p → slot_of (if b then Some (rust.Object n) else o) ≡ (if b then Some (Some n) else p)
found_or true n o p e = refl
found_or false n o p e = e

-- a name has the next number
pub slot_named : (slots new : Blocks) (objects : Numbers) (bytes name : List ℕ) (number n : ℕ) → new.block ≡ (bytes, rust.Object number) ∷ slots.block → new.outer ≡ slots.outer → bytes ≡ name → number ≡ n
    → ((word : List ℕ) → slot_of (meaning (slots.block ++ slots.outer) word) ≡ meaning objects word) → (word : List ℕ) → slot_of (meaning (new.block ++ new.outer) word) ≡ meaning ((name, Some n) ∷ objects) word
slot_named slots new objects bytes name number n block outer same is h word =
    let here : new.block ++ new.outer ≡ (name, rust.Object n) ∷ (slots.block ++ slots.outer) =
    ap (λ (l : Entries). l ++ new.outer) block ∙ (ap (λ (l : Entries). (bytes, rust.Object number) ∷ (slots.block ++ l)) outer
    ∙ (ap (λ (x : List ℕ). (x, rust.Object number) ∷ (slots.block ++ slots.outer)) same ∙ ap (λ (k : ℕ). (name, rust.Object k) ∷ (slots.block ++ slots.outer)) is)) in
    ap (λ (l : Entries). slot_of (meaning l word)) here
    ∙ found_or (bytes_eq word name) n (meaning (slots.block ++ slots.outer) word) (meaning objects word) (h word)

same_bytes : (xs : List ℕ) → bytes_eq xs xs ≡ true
same_bytes xs = (bytes_eq-Decides xs xs).1 refl

-- what was declared last is meant by its name
pub own_meaning : (objects : Numbers) (bytes name : List ℕ) (n : Option ℕ) → bytes ≡ name → meaning ((name, n) ∷ objects) bytes ≡ Some n
own_meaning objects bytes name n same =
    ap (λ (b : Bool). if b then Some n else meaning objects bytes) (ap (λ (x : List ℕ). bytes_eq x name) same ∙ same_bytes name)

pub next_number : (number behind env : ℕ) → behind ≡ number + 1 → number ≡ env → behind ≡ suc env
next_number number behind env e f = omega (arith, e, f)

-- the words of one object
pub unset_words : (n count : ℕ) → n + count ≡ n + words_in (replicate count Unset ∷ [])
unset_words n count = let k = length-replicate {A = Cell} count Unset in omega (arith, k)
