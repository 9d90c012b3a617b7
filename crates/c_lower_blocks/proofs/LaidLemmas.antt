-- Places one behind the other.
use Rattle.std.proofs.Common.{◌≡◌, ℕ, ◌+◌, ◌%◌, ◌^◌, List, [], ◌∷◌, ◌++◌, length, refl, sym, ap, subst, ◌∙◌, append_assoc, append-nil, arith}
use Rattle.std.proofs.lemmas.List.Sums.{sum_by-append, sum_by-cons}
use Rattle.std.specs.Prelude.{Result, Ok, Err}
use Rattle.c_syntax.specs.Plain as tree
use Rattle.c_syntax.specs.Plain.{CStmt, CStmts, CDecl}
use Rattle.c_syntax.specs.View.{stmt_of}
use Rattle.c_syntax.specs.declared.tree.Stmt.{Stmt, Local, If', None', Some'}
use Rattle.c_syntax.specs.declared.tree.Stmt.TheVariants as stmt
use Rattle.c_types.specs.declared.fault.TypeFault.{TypeFault}
use Rattle.c_types.specs.Types.{CType, Void}
use Rattle.c_types.specs.Refusals.{Judged}
use Rattle.c_types.specs.Scope.{Scope}
use Rattle.c_types.specs.Census.{scope_behind, scope_behind_all}
use Rattle.c_eval.specs.State.{Cell}
use Rattle.c_eval.specs.Environment.{type_or_void, objects_in, block_objects}
use Rattle.c_types.specs.Table.{Table, HasType}
use Rattle.c_operands.specs.Seen.{IsJudged}
use Rattle.c_emission.specs.declared.location.Location.{Location}
use Rattle.c_declared.specs.Held.{HoldsSome}
use Rattle.c_lowered.specs.Locations as plain
use Rattle.c_lowered.specs.Locations.{framed}
use Rattle.c_lowered.specs.Statements.{words_in}
use Rattle.c_counted.specs.Numbers.{IsNumber}
use Rattle.c_addressing.specs.declared.here.Here.{Here}
use Rattle.c_addressing.specs.declared.here.Output.{Output}
use Rattle.c_addressing.specs.Here.{Emits}
use Rattle.c_addressing.specs.Places.{AreLocations}
use Rattle.c_applied.proofs.LeadsLemmas.{keeps_none, keeps_then, nothing, then_still, told_block}
use Rattle.c_lower_blocks.specs.Laid.{AreLaid, Places}

abbrev Objects : Type 0
Objects = List (List Cell)

-- ---- types

pub typed_as : (table : Table) (j : Result ℕ TypeFault) (n : ℕ) (p : Judged CType) → IsJudged (HasType table) j p → j ≡ Ok n → HasType table n (type_or_void p)
typed_as table (Ok m) n (Ok t) h e = let same : m ≡ n = cc in subst (λ (k : ℕ). HasType table k t) same h
typed_as table (Ok m) n (Err f) h e = absurd h
typed_as table (Err d) n p h e = absurd cc

pub refused_is : (table : Table) (j : Result ℕ TypeFault) (f : TypeFault) (p : Judged CType) → IsJudged (HasType table) j p → j ≡ Err f → type_or_void p ≡ Void
refused_is table (Ok m) f p h e = absurd cc
refused_is table (Err d) f (Ok t) h e = absurd h
refused_is table (Err d) f (Err c) h e = refl

-- ---- words and places

pub words_join : (xs ys : Objects) → words_in (xs ++ ys) ≡ words_in xs + words_in ys
words_join xs ys = sum_by-append length xs ys

none_behind : (n : ℕ) → n ≡ n + 0
none_behind n = omega arith

pub framed_join : (xs ys : Objects) (n : ℕ) → framed (xs ++ ys) n ≡ framed xs n ++ framed ys (n + words_in xs)
framed_join [] ys n = ap (λ (k : ℕ). framed ys k) (none_behind n)
framed_join (x ∷ xs) ys n =
    let sum : words_in (x ∷ xs) ≡ length x + words_in xs = sum_by-cons length x xs in
    let far : n + length x + words_in xs ≡ n + words_in (x ∷ xs) = omega (arith, sum) in
    ap (λ (l : List plain.Location). plain.Framed n ∷ l) (framed_join xs ys (n + length x) ∙ ap (λ (k : ℕ). framed xs (n + length x) ++ framed ys k) far)

pub locations_join : (ls ms : List Location) (ps qs : List plain.Location) → AreLocations ls ps → AreLocations ms qs → AreLocations (ls ++ ms) (ps ++ qs)
locations_join [] ms [] qs h g = g
locations_join (l ∷ ls) ms (p ∷ ps) qs h g = (h.0, locations_join ls ms ps qs h.1 g)
locations_join [] ms (p ∷ ps) qs h g = absurd h
locations_join (l ∷ ls) ms [] qs h g = absurd h

pub as_many : (ls : List Location) (ps : List plain.Location) → AreLocations ls ps → length ls ≡ length ps
as_many [] [] h = refl
as_many (l ∷ ls) (p ∷ ps) h = let e = as_many ls ps h.1 in omega (arith, e)
as_many [] (p ∷ ps) h = absurd h
as_many (l ∷ ls) [] h = absurd h

-- a number that is known modulo 2^24
pub low_number : (a n : ℕ) → a ≡ n % 2 ^ 24 → IsNumber a n
low_number a n e = record { same = omega (arith, e) }

-- ---- what is laid

pub lay_none : (a : Output) (h : Here) (free : ℕ) → HoldsSome a.types h.declared → Places a a h h free free (λ s. []) (λ s. s)
lay_none a h free some = record {
  keeps = keeps_none a;
  around = record { outer = refl; layouts = refl; defined = refl };
  slots = refl;
  entries = refl;
  more = [];
  bases = sym (append-nil h.bases.items);
  holds = some;
  laid = λ s n holds is. record { holds = holds; places = tt; free = told_block (none_behind n) is };
}

pub lay_then : {a b c : Output} {h e i : Here} {f g j : ℕ} {os ps : Scope → Objects} {r q : Scope → Scope} → Places a b h e f g os r → Places b c e i g j ps q → Places a c h i f j (λ s. os s ++ ps (r s)) (λ s. q (r s))
lay_then {a} {b} {c} {h} {e} {i} {f} {g} {j} {os} {ps} {r} {q} x y = record {
  keeps = keeps_then x.keeps y.keeps;
  around = record { outer = y.around.outer ∙ x.around.outer; layouts = y.around.layouts ∙ x.around.layouts; defined = y.around.defined ∙ x.around.defined };
  slots = y.slots ∙ x.slots;
  entries = y.entries ∙ x.entries;
  more = x.more ++ y.more;
  bases = y.bases ∙ (ap (λ (l : List Location). l ++ y.more) x.bases ∙ append_assoc h.bases.items x.more y.more);
  holds = y.holds;
  laid = λ s n holds is.
      let u = x.laid s n holds is in
      let v = y.laid (r s) (n + words_in (os s)) u.holds u.free in
      let sum = words_join (os s) (ps (r s)) in
      let far : n + words_in (os s) + words_in (ps (r s)) ≡ n + words_in (os s ++ ps (r s)) = omega (arith, sum) in
      record {
        holds = v.holds;
        places = subst (λ (l : List plain.Location). AreLocations (x.more ++ y.more) l) (sym (framed_join (os s) (ps (r s)) n)) (locations_join x.more y.more (framed (os s) n) (framed (ps (r s)) (n + words_in (os s))) u.places v.places);
        free = told_block far v.free;
      };
}

-- the same objects and scopes otherwise told
pub lay_as : {a b : Output} {h e : Here} {f g : ℕ} {os ps : Scope → Objects} {r q : Scope → Scope} → ((s : Scope) → os s ≡ ps s) → ((s : Scope) → r s ≡ q s) → Places a b h e f g os r → Places a b h e f g ps q
lay_as {a} {b} {h} {e} {f} {g} {os} {ps} {r} {q} objects scopes x = record {
  keeps = x.keeps;
  around = x.around;
  slots = x.slots;
  entries = x.entries;
  more = x.more;
  bases = x.bases;
  holds = x.holds;
  laid = λ s n holds is.
      subst (λ (z : Scope). AreLaid b e x.more g n z (ps s)) (scopes s) (subst (λ (z : Objects). AreLaid b e x.more g n (r s) z) (objects s) (x.laid s n holds is));
}

-- ---- statement by statement

abbrev DeclaresNone : Stmt → Type 0
DeclaresNone x = (s : Scope) → (objects_in s (stmt_of x) ≡ []) × (scope_behind s (stmt_of x) ≡ s)

pub declares_none : (x : Stmt) → ((d : _) → x ≡ stmt.Local d → ⊥) → DeclaresNone x
declares_none (Local d) h = absurd (h d refl)
declares_none (If' e p t None') h = λ s. (refl, refl)
declares_none (If' e p t (Some' q u)) h = λ s. (refl, refl)
declares_none stmt.Empty h = λ s. (refl, refl)
declares_none _ h = λ s. (refl, refl)

pub lay_nothing : (a : Output) (h : Here) (free : ℕ) (x : Stmt) → DeclaresNone x → HoldsSome a.types h.declared → Places a a h h free free (λ s. objects_in s (stmt_of x)) (λ s. scope_behind s (stmt_of x))
lay_nothing a h free x none some = lay_as (λ s. sym (none s).0) (λ s. sym (none s).1) (lay_none a h free some)

-- the objects of the first statements have places, and those of the others are left
pub record Placing (old new : Output) (h e : Here) (free behind : ℕ) (left all : CStmts) : Type 0 where
  pub still : Emits old new [] 0
  pub objects : Scope → Objects
  pub reached : Scope → Scope
  pub places : Places old new h e free behind objects reached
  pub objects_are : (s : Scope) → block_objects s all ≡ objects s ++ block_objects (reached s) left
  pub scopes_are : (s : Scope) → scope_behind_all s all ≡ scope_behind_all (reached s) left

pub placing_begun : (a : Output) (h : Here) (free : ℕ) (all : CStmts) → HoldsSome a.types h.declared → Placing a a h h free free all all
placing_begun a h free all some = record { still = nothing a; objects = λ s. []; reached = λ s. s; places = lay_none a h free some; objects_are = λ s. refl; scopes_are = λ s. refl }

-- a list that is cut behind a part
cut_there : {X : Type 0} (all front one rest left : List X) → all ≡ front ++ left → left ≡ one ++ rest → all ≡ (front ++ one) ++ rest
cut_there {X} all front one rest left e f = e ∙ (ap (λ (x : List X). front ++ x) f ∙ sym (append_assoc front one rest))

pub placing_more : (a b c : Output) (h e i : Here) (f g j : ℕ) (left rest all : CStmts) (t : CStmt) → left ≡ tree.MoreStmt t rest → Placing a b h e f g left all → Places b c e i g j (λ s. objects_in s t) (λ s. scope_behind s t)
    → Emits b c [] 0 → Placing a c h i f j rest all
placing_more a b c h e i f g j left rest all t cut p one quiet = record {
  still = then_still p.still quiet;
  objects = λ s. p.objects s ++ objects_in (p.reached s) t;
  reached = λ s. scope_behind (p.reached s) t;
  places = lay_then p.places one;
  objects_are = λ s.
      cut_there (block_objects s all) (p.objects s) (objects_in (p.reached s) t) (block_objects (scope_behind (p.reached s) t) rest) (block_objects (p.reached s) left) (p.objects_are s)
      (ap (λ (x : CStmts). block_objects (p.reached s) x) cut);
  scopes_are = λ s. p.scopes_are s ∙ ap (λ (x : CStmts). scope_behind_all (p.reached s) x) cut;
}

pub placing_done : (a b : Output) (h e : Here) (f g : ℕ) (left all : CStmts) → left ≡ tree.NoStmt → Placing a b h e f g left all → Places a b h e f g (λ s. block_objects s all) (λ s. scope_behind_all s all)
placing_done a b h e f g left all none p =
    lay_as (λ s. sym (p.objects_are s ∙ (ap (λ (x : CStmts). p.objects s ++ block_objects (p.reached s) x) none ∙ append-nil (p.objects s))))
    (λ s. sym (p.scopes_are s ∙ ap (λ (x : CStmts). scope_behind_all (p.reached s) x) none)) p.places
