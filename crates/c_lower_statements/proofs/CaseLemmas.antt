-- The head of a `switch`, and code that was made aside.
use Rattle.std.proofs.Common.{◌≡◌, ◌+◌, ℕ, true, false, List, [], ◌++◌, refl, sym, ap, subst, ◌∙◌, append_assoc, append-nil}
use Rattle.std.specs.Prelude.{Some, None}
use Rattle.std.proofs.lemmas.Bool.{false≢true}
use Rattle.eir_core.specs.declared.ops.Op.{Op}
use Rattle.c_syntax.specs.Plain as plain
use Rattle.c_syntax.specs.Plain.{CPart, CParts}
use Rattle.c_types.specs.Scope.{Scope}
use Rattle.c_types.specs.Census.{scope_behind_part}
use Rattle.c_eval.specs.State.{Cell}
use Rattle.c_eval.specs.Environment.{Environment, part_objects, parts_objects, behind_part}
use Rattle.c_types.specs.Known.{Grows}
use Rattle.c_types.specs.Table.{Table, known}
use Rattle.c_declared.specs.Held.{Holds, HoldsSome}
use Rattle.c_declared.proofs.HeldLemmas.{holds_kept}
use Rattle.c_lowered.specs.Locations.{Linking}
use Rattle.c_lowered.specs.Counts.{part_jumps}
use Rattle.c_lowered.specs.Statements.{cases_code, default_block}
use Rattle.c_counted.specs.Numbers.{IsNumber}
use Rattle.c_addressing.specs.declared.here.Here.{Here}
use Rattle.c_addressing.specs.declared.here.Literals.{Literals}
use Rattle.c_addressing.specs.declared.here.Output.{Output}
use Rattle.c_addressing.specs.Here.{IsHere, AreLiterals, IsBehind, Emits}
use Rattle.c_addressing.proofs.HereLemmas.{as_code}
use Rattle.c_applied.specs.Leads.{Keeps}
use Rattle.c_applied.proofs.LeadsLemmas.{keeps_then, nothing, then_piece, then_still, same_number}
use Rattle.c_lower_blocks.specs.Laid.{Places}
use Rattle.c_lower_blocks.proofs.LaidLemmas.{lay_none, lay_then, lay_as}
use Rattle.c_lower_statements.specs.Pieces.{IsAside, label_code, is_default, scope_behind_parts}
use Rattle.c_lower_statements.proofs.PlaceLemmas.{part_scope}

abbrev Objects : Type 0
Objects = List (List Cell)

-- ---- comparisons

cases_more : (p : CPart) (ps : CParts) (env : Environment) (k : ℕ) → cases_code (plain.MorePart p ps) env k ≡ label_code p env.scope k ++ cases_code ps (behind_part p env) (k + part_jumps p)
cases_more (plain.Label at (Some e)) ps env k = refl
cases_more (plain.Label at None) ps env k = refl
cases_more (plain.Item t) ps env k = refl

-- the comparisons for the first parts, and those that are left
pub record CasesSoFar (a b : Output) (block : ℕ) (env : Environment) (m : ℕ) (reached : Scope) (left all : CParts) : Type 0 where
  pub place : Environment
  pub at : ℕ
  pub is : List Op
  pub scope_is : place.scope ≡ reached
  pub emits : Emits a b is 0
  pub told : IsNumber block at
  pub code_is : cases_code all env m ≡ is ++ cases_code left place at

pub record Casing (a b : Output) (h e : Here) (free behind first block : ℕ) (left all : CParts) : Type 0 where
  pub objects : Scope → Objects
  pub reached : Scope → Scope
  pub places : Places a b h e free behind objects reached
  pub objects_are : (s : Scope) → parts_objects s all ≡ objects s ++ parts_objects (reached s) left
  pub scopes_are : (s : Scope) → scope_behind_parts s all ≡ scope_behind_parts (reached s) left
  pub cases : (env : Environment) (m : ℕ) → Holds a.types h.declared env.scope → IsNumber first m → CasesSoFar a b block env m (reached env.scope) left all

pub casing_begun : (a : Output) (h : Here) (free first : ℕ) (all : CParts) → HoldsSome a.types h.declared → Casing a a h h free free first first all all
casing_begun a h free first all some = record {
  objects = λ s. [];
  reached = λ s. s;
  places = lay_none a h free some;
  objects_are = λ s. refl;
  scopes_are = λ s. refl;
  cases = λ env m holds hm. record { place = env; at = m; is = []; scope_is = refl; emits = nothing a; told = hm; code_is = refl };
}

-- types grow before
lay_behind : {a b c : Output} {h e : Here} {f g : ℕ} {os : Scope → Objects} {r : Scope → Scope} → Keeps a b → Places b c h e f g os r → Places a c h e f g os r
lay_behind {a} {b} {c} {h} keeps p = record {
  keeps = keeps_then keeps p.keeps;
  around = p.around;
  slots = p.slots;
  entries = p.entries;
  more = p.more;
  bases = p.bases;
  holds = p.holds;
  laid = λ s n holds is. p.laid s n (holds_kept a.types b.types h.declared s keeps.grows keeps.tags holds) is;
}

-- a list that is cut behind a part
cut_there : {X : Type 0} (all front one rest left : List X) → all ≡ front ++ left → left ≡ one ++ rest → all ≡ (front ++ one) ++ rest
cut_there {X} all front one rest left e f = e ∙ (ap (λ (x : List X). front ++ x) f ∙ sym (append_assoc front one rest))

pub casing_more : (a b d c : Output) (h e i : Here) (free behind next first block far : ℕ) (left rest all : CParts) (t : CPart) → left ≡ plain.MorePart t rest → Casing a b h e free behind first block left all → Keeps b d
    → ((m : ℕ) (s : Scope) → Holds b.types e.declared s → IsNumber block m → Emits b d (label_code t s m) 0) → Places d c e i behind next (λ s. part_objects s t) (λ s. scope_behind_part s t) → Emits d c [] 0
    → ((m : ℕ) → IsNumber block m → IsNumber far (m + part_jumps t)) → Casing a c h i free next first far rest all
casing_more a b d c h e i free behind next first block far left rest all t cut g keeps compares places quiet counts = record {
  objects = λ s. g.objects s ++ part_objects (g.reached s) t;
  reached = λ s. scope_behind_part (g.reached s) t;
  places = lay_then g.places (lay_behind keeps places);
  objects_are = λ s.
      cut_there (parts_objects s all) (g.objects s) (part_objects (g.reached s) t) (parts_objects (scope_behind_part (g.reached s) t) rest) (parts_objects (g.reached s) left) (g.objects_are s)
      (ap (λ (x : CParts). parts_objects (g.reached s) x) cut);
  scopes_are = λ s. g.scopes_are s ∙ ap (λ (x : CParts). scope_behind_parts (g.reached s) x) cut;
  cases = λ env m holds hm.
      let s = g.cases env m holds hm in
      let now = (g.places.laid env.scope free holds (same_number free)).holds in
      let label = compares s.at s.place.scope (subst (λ (x : Scope). Holds b.types e.declared x) (sym s.scope_is) now) s.told in
      record {
        place = behind_part t s.place;
        at = s.at + part_jumps t;
        is = s.is ++ label_code t s.place.scope s.at;
        scope_is = part_scope t s.place ∙ ap (λ (x : Scope). scope_behind_part x t) s.scope_is;
        emits = then_still (then_piece s.emits label) quiet;
        told = counts s.at s.told;
        code_is =
            cut_there (cases_code all env m) s.is (label_code t s.place.scope s.at) (cases_code rest (behind_part t s.place) (s.at + part_jumps t)) (cases_code left s.place s.at) s.code_is
            (ap (λ (x : CParts). cases_code x s.place s.at) cut ∙ cases_more t rest s.place s.at);
      };
}

pub casing_places : (a b : Output) (h e : Here) (free behind first block : ℕ) (left all : CParts) → left ≡ plain.NoPart → Casing a b h e free behind first block left all → Places a b h e free behind (λ s. parts_objects s all) (λ s. scope_behind_parts s all)
casing_places a b h e free behind first block left all none g =
    lay_as (λ s. sym (g.objects_are s ∙ (ap (λ (x : CParts). g.objects s ++ parts_objects (g.reached s) x) none ∙ append-nil (g.objects s))))
    (λ s. sym (g.scopes_are s ∙ ap (λ (x : CParts). scope_behind_parts (g.reached s) x) none)) g.places

pub casing_code : (a b : Output) (h e : Here) (free behind first block : ℕ) (left all : CParts) → left ≡ plain.NoPart → Casing a b h e free behind first block left all → (env : Environment) (m : ℕ) → Holds a.types h.declared env.scope → IsNumber first m
    → Emits a b (cases_code all env m) 0
casing_code a b h e free behind first block left all none g env m holds hm =
    let s = g.cases env m holds hm in
    as_code (sym (s.code_is ∙ (ap (λ (x : CParts). s.is ++ cases_code x s.place s.at) none ∙ append-nil s.is))) s.emits

-- ---- the default

-- it is among the parts that are left
pub record Seeking (first block : ℕ) (left all : CParts) : Type 0 where
  pub so_far : (m : ℕ) → IsNumber first m → (at : ℕ) × IsNumber block at × ((n : ℕ) → default_block all m n ≡ default_block left at n)

pub seeking_begun : (first : ℕ) (all : CParts) → Seeking first first all all
seeking_begun first all = record { so_far = λ m hm. (m, hm, λ n. refl) }

not_default : (p : CPart) (ps : CParts) (k n : ℕ) → is_default p ≡ false → default_block (plain.MorePart p ps) k n ≡ default_block ps (k + part_jumps p) n
not_default (plain.Label at (Some e)) ps k n no_default = refl
not_default (plain.Label at None) ps k n no_default = absurd (false≢true (sym no_default))
not_default (plain.Item t) ps k n no_default = refl

the_default : (p : CPart) (ps : CParts) (k n : ℕ) → is_default p ≡ true → default_block (plain.MorePart p ps) k n ≡ k + 1
the_default (plain.Label at None) ps k n is = refl
the_default (plain.Label at (Some e)) ps k n is = absurd (false≢true is)
the_default (plain.Item t) ps k n is = absurd (false≢true is)

pub seeking_more : (first block far : ℕ) (left rest all : CParts) (t : CPart) → left ≡ plain.MorePart t rest → is_default t ≡ false → ((m : ℕ) → IsNumber block m → IsNumber far (m + part_jumps t)) → Seeking first block left all → Seeking first far rest all
seeking_more first block far left rest all t cut no_default counts g = record {
  so_far = λ m hm.
      let s = g.so_far m hm in
      (s.0 + part_jumps t, counts s.0 s.1, λ n. s.2 n ∙ (ap (λ (x : CParts). default_block x s.0 n) cut ∙ not_default t rest s.0 n no_default));
}

pub default_found : (first block far : ℕ) (left rest all : CParts) (t : CPart) → left ≡ plain.MorePart t rest → is_default t ≡ true → ((m : ℕ) → IsNumber block m → IsNumber far (m + 1)) → Seeking first block left all → (m n : ℕ) → IsNumber first m
    → IsNumber far (default_block all m n)
default_found first block far left rest all t cut is counts g m n hm =
    let s = g.so_far m hm in
    subst (λ (x : ℕ). IsNumber far x) (sym (s.2 n ∙ (ap (λ (x : CParts). default_block x s.0 n) cut ∙ the_default t rest s.0 n is))) (counts s.0 s.1)

pub default_missing : (first block end : ℕ) (left all : CParts) → left ≡ plain.NoPart → Seeking first block left all → (m n : ℕ) → IsNumber first m → IsNumber end n → IsNumber end (default_block all m n)
default_missing first block end left all none g m n hm hn =
    let s = g.so_far m hm in
    subst (λ (x : ℕ). IsNumber end x) (sym (s.2 n ∙ ap (λ (x : CParts). default_block x s.0 n) none)) hn

-- ---- code aside

pub here_same : (h : Here) (a b : Output) (w : Linking) (env : Environment) → b.types ≡ a.types → b.literals ≡ a.literals → IsHere h a w env → IsHere h b w env
here_same h a b w env types literals is = record {
  holds = subst (λ (t : Table). Holds t h.declared env.scope) (sym types) is.holds;
  slots = is.slots;
  bases = is.bases;
  entries = is.entries;
  literals = subst (λ (l : Literals). AreLiterals l w env.literals_before) (sym literals) is.literals;
}

pub keeps_same : (a b c d : Output) → b.types ≡ a.types → d.types ≡ c.types → Keeps b c → Keeps a d
keeps_same a b c d before behind keeps = record {
  grows = subst (λ (t : Table). Grows (known t) (known d.types)) before (subst (λ (t : Table). Grows (known b.types) (known t)) (sym behind) keeps.grows);
  tags = ap (λ (t : Table). t.tags) behind ∙ (keeps.tags ∙ ap (λ (t : Table). t.tags) before);
}

-- code is made from nothing, and the code before it stands again
pub aside_made : (a b c d : Output) (ops code : List Op) (n : ℕ) → b.types ≡ a.types → b.literals ≡ a.literals → b.ops.items ≡ [] → Emits b c code n → ops ≡ c.ops.items → d.types ≡ c.types → d.literals ≡ c.literals → d.ops.items ≡ a.ops.items
    → IsAside a d ops code n
aside_made a b c d ops code n types literals none e are behind left same =
    let keeps = keeps_same a b c d types behind (record { grows = e.grows; tags = e.tags }) in
    record {
      is = are ∙ (e.ops ∙ ap (λ (l : List Op). l ++ code) none);
      passed = record {
        grows = keeps.grows;
        tags = keeps.tags;
        ops = same ∙ sym (append-nil a.ops.items);
        passed = subst (λ (l : Literals). IsBehind l d.literals n) literals (subst (λ (l : Literals). IsBehind b.literals l n) (sym left) e.passed);
      };
    }
