-- Functions that get their code, one behind the other.
use Rattle.std.proofs.Common.{◌≡◌, ℕ, ◌+◌, Bool, true, List, [], ◌∷◌, ◌++◌, length, drop, Option, Some, None, refl, sym, ap, subst, ◌∙◌, append_assoc, append-nil, arith}
use Rattle.std.specs.Prelude.{Result, Ok, Err, IsOk, IfOk, OnOk, is_some}
use denote.Ref.{Bor}
use Rattle.eir_core.specs.declared.ops.Op.{Op}
use Rattle.c_syntax.specs.Plain as plain
use Rattle.c_syntax.specs.Plain.{CTy, CDecl, CStmt, CItem}
use Rattle.c_syntax.specs.View.{maybe_stmt}
use Rattle.c_syntax.specs.declared.tree.Stmt.{Stmt}
use Rattle.c_types.specs.Refusals.{Judged}
use Rattle.c_types.specs.Scope.{Scope, contains}
use Rattle.c_types.specs.Declarations.{declared, scope_or}
use Rattle.c_types.specs.Units as units
use Rattle.c_types.specs.Units.{body_scope, item_judged, all_items}
use Rattle.c_eval.specs.LiteralsIn.{stmt_literals}
use Rattle.c_eval.specs.Text.{Definition, item_definitions, definitions}
use Rattle.c_types.specs.Known.{Grows}
use Rattle.c_types.specs.Table.{Table, known}
use Rattle.c_scopes.specs.declared.entity.Entity.{Entity}
use Rattle.c_operands.specs.declared.declarations.Declarations.{Declarations}
use Rattle.c_declared.specs.Held.{Holds, HoldsSome}
use Rattle.c_declared.proofs.HeldLemmas.{block_left}
use Rattle.c_signatures.specs.declared.signature.Signature.{Signature}
use Rattle.c_signatures.specs.Signatures.{IsSignature}
use Rattle.c_fitting.specs.Blocks.{DeclaresInBlocks, ItemDeclaresInBlocks, ItemsDeclareInBlocks}
use Rattle.c_cells.specs.declared.structs.StructKinds.{StructKinds}
use Rattle.c_cells.specs.Structs.{AreStructKinds}
use Rattle.c_cells.proofs.StructLemmas.{struct_kinds_kept}
use Rattle.c_opening.specs.Named.{tags_in, HasNumber}
use Rattle.c_objects.specs.Passed.{behind_function}
use Rattle.c_objects.proofs.PassedLemmas.{function_passed, function_tags, object_passed, item_passed, ok_inner}
use Rattle.c_emission.specs.declared.location.Location.{Location}
use Rattle.c_lowered.specs.Locations.{Linking}
use Rattle.c_lowered.specs.Whole.{function_jumps, function_code, functions_code}
use Rattle.c_counted.specs.Numbers.{IsNumber}
use Rattle.c_addressing.specs.declared.here.Here.{Here}
use Rattle.c_addressing.specs.declared.here.Literals.{Literals}
use Rattle.c_addressing.specs.declared.here.Output.{Output}
use Rattle.c_addressing.specs.Here.{first_or}
use Rattle.c_addressing.specs.Names.{entry_in}
use Rattle.c_addressing.specs.Places.{AreLocations}
use Rattle.c_applied.specs.Leads.{Leads, Keeps}
use Rattle.c_applied.proofs.LeadsLemmas.{keeps_none, keeps_then}
use Rattle.c_lower_blocks.specs.Blocks.{IsSame}
use Rattle.c_lower_blocks.proofs.InsideLemmas.{slots_same}
use Rattle.c_lower.specs.Functions.{defined, StandsBefore, LowersFunction}
use Rattle.c_lower.specs.declared.placed.Placed.{Placed}
use Rattle.c_lower.specs.Placed.{literals_in, LieAt}
use Rattle.c_lower.specs.Walk.{KnowsPlaces, IsBefore, block_behind, AddsFunctions, Passes}
use Rattle.c_lower.proofs.DefinedLemmas.{judged_ok, others_numbered}

abbrev Entries : Type 0
Entries = List (List ℕ × Entity)

-- unless memory is wanting
pub if_on : {T E : Type 0} {P : T → Type 0} {A : Type 0} (r : Result T E) → ((x : T) → P x → A) → IfOk r P → OnOk r A
if_on (Ok x) f h = f x h
if_on (Err e) f h = tt

-- ---- code behind code

codes_then : (w : Linking) (names : List (List ℕ × Option ℕ)) (fs gs : List Definition) (m : ℕ) → functions_code w names (fs ++ gs) m ≡ functions_code w names fs m ++ functions_code w names gs (block_behind fs m)
codes_then w names [] gs m = refl
codes_then w names (f ∷ fs) gs m =
    let next : ℕ = m + function_jumps f in
    ap (λ (l : List Op). function_code w names f m ++ l) (codes_then w names fs gs next)
    ∙ sym (append_assoc (function_code w names f m) (functions_code w names fs next) (functions_code w names gs (block_behind fs next)))

behind_then : (fs gs : List Definition) (m : ℕ) → block_behind (fs ++ gs) m ≡ block_behind gs (block_behind fs m)
behind_then [] gs m = refl
behind_then (f ∷ fs) gs m = behind_then fs gs (m + function_jumps f)

pub no_functions : (a b : Output) (w : Linking) (names : List (List ℕ × Option ℕ)) (t : ℕ) → Keeps a b → b.ops.items ≡ a.ops.items → AddsFunctions a b w names [] t t
no_functions a b w names t keeps same = record { keeps = keeps; have = λ m h. record { code = same ∙ sym (append-nil a.ops.items); block = h } }

functions_then : (a b c : Output) (w : Linking) (names : List (List ℕ × Option ℕ)) (fs gs : List Definition) (t u v : ℕ) → AddsFunctions a b w names fs t u → AddsFunctions b c w names gs u v → AddsFunctions a c w names (fs ++ gs) t v
functions_then a b c w names fs gs t u v f g = record {
  keeps = keeps_then f.keeps g.keeps;
  have = λ m h.
      let x = f.have m h in
      let next : ℕ = block_behind fs m in
      let y = g.have next x.block in
      let first : List Op = functions_code w names fs m in
      let second : List Op = functions_code w names gs next in
      record {
        code =
            y.code ∙ (ap (λ (l : List Op). l ++ second) x.code ∙ (append_assoc a.ops.items first second ∙ ap (λ (l : List Op). a.ops.items ++ l) (sym (codes_then w names fs gs m))));
        block = subst (λ (k : ℕ). IsNumber v k) (sym (behind_then fs gs m)) y.block;
      };
}

-- types that are new before
adds_from : (a b c : Output) (w : Linking) (names : List (List ℕ × Option ℕ)) (fs : List Definition) (t u : ℕ) → Keeps a b → b.ops.items ≡ a.ops.items → AddsFunctions b c w names fs t u → AddsFunctions a c w names fs t u
adds_from a b c w names fs t u keeps same adds = functions_then a b c w names [] fs t t u (no_functions a b w names t keeps same) adds

-- and behind
adds_to : (a b c : Output) (w : Linking) (names : List (List ℕ × Option ℕ)) (fs : List Definition) (t u : ℕ) → AddsFunctions a b w names fs t u → Keeps b c → c.ops.items ≡ b.ops.items → AddsFunctions a c w names fs t u
adds_to a b c w names fs t u adds keeps same =
    subst (λ (l : List Definition). AddsFunctions a c w names l t u) (append-nil fs) (functions_then a b c w names fs [] t u u adds (no_functions b c w names u keeps same))

-- ---- what is known before an external

-- the same is declared
pub held_same : (h e : Here) (a b : Output) (s : Scope) → IsSame h e → Keeps a b → Holds a.types h.declared s → Holds b.types e.declared s
held_same h e a b s same keeps holds =
    block_left a.types b.types h.declared e.declared s keeps.grows keeps.tags
    (ap (λ (l : Entries). l ++ e.declared.names.outer) same.names ∙ ap (λ (l : Entries). h.declared.names.block ++ l) same.beside.declared.outer)
    (ap length same.beside.declared.outer) same.beside.declared.layouts same.beside.declared.defined holds

before_same : (h e : Here) (kinds : StructKinds) (a b : Output) (placed : Placed) (w : Linking) (names : List (List ℕ × Option ℕ)) (s : Scope) → IsSame h e → Keeps a b → IsBefore h kinds a placed w names s → IsBefore e kinds b placed w names s
before_same h e kinds a b placed w names s same keeps is = record {
  holds = held_same h e a b s same keeps is.holds;
  structs = struct_kinds_kept a.types b.types kinds s.tags keeps.tags is.structs;
  places = record {
    slots = slots_same h.slots e.slots names (ap (λ (l : Entries). l ++ e.slots.outer) same.slots ∙ ap (λ (l : Entries). h.slots.block ++ l) same.beside.slots) is.places.slots;
    bases = subst (λ (l : List Location). AreLocations l w.bases) (sym same.beside.bases) is.places.bases;
    entries = λ name. subst (λ (x : List (Bor (List ℕ) × ℕ)). IsNumber (entry_in x name) (w.entry name)) (sym same.beside.entries) (is.places.entries name);
  };
  literals = is.literals;
}

-- something else is declared
pub before_on : (h : Here) (d : Declarations) (kinds more : StructKinds) (a : Output) (t : Table) (placed : Placed) (w : Linking) (names : List (List ℕ × Option ℕ)) (s inner : Scope) → Holds t d inner → AreStructKinds t more inner.tags
    → IsBefore h kinds a placed w names s → IsBefore (record h { declared = d }) more (record a { types = t }) placed w names inner
before_on h d kinds more a t placed w names s inner holds structs is = record {
  holds = holds;
  structs = structs;
  places = record { slots = is.places.slots; bases = is.places.bases; entries = is.places.entries };
  literals = is.literals;
}

pub lies_as : (l k : Literals) (address : ℕ → ℕ) (n : ℕ) → l ≡ k → LieAt k address → IsNumber (first_or l.end (drop n l.next.now)) (address (0 + n))
lies_as l k address n same lie =
    let there : 0 + n ≡ n = omega arith in
    subst (λ (m : ℕ). IsNumber (first_or l.end (drop n l.next.now)) (address m)) (sym there) (subst (λ (x : Literals). IsNumber (first_or x.end (drop n x.next.now)) (address n)) (sym same) (lie.told n))

-- before a function whose literals come next
pub stands_before : (h : Here) (kinds : StructKinds) (a : Output) (l : Literals) (placed : Placed) (w : Linking) (names : List (List ℕ × Option ℕ)) (s : Scope) (f : Definition) → l ≡ literals_in placed f.name → IsBefore h kinds a placed w names s
    → StandsBefore h (record a { literals = l }) w names f
stands_before h kinds a l placed w names s f same is = record {
  slots = is.places.slots;
  bases = is.places.bases;
  entries = is.places.entries;
  literals = record { address = λ n. lies_as l (literals_in placed f.name) (w.literal (Some f.name)) n same (is.literals.lie f.name) };
}

-- ---- one function

one_function : (a b : Output) (l : Literals) (w : Linking) (names : List (List ℕ × Option ℕ)) (f : Definition) (t u n : ℕ) → Keeps (record a { literals = l }) b
    → ((m : ℕ) → IsNumber t m → Leads (record a { literals = l }) b (function_code w names f m) n u (m + function_jumps f)) → AddsFunctions a b w names (f ∷ []) t u
one_function a b l w names f t u n keeps leads = record {
  keeps = record { grows = keeps.grows; tags = keeps.tags };
  have = λ m h.
      let x = leads m h in
      record { code = x.emits.ops ∙ ap (λ (k : List Op). a.ops.items ++ k) (sym (append-nil (function_code w names f m))); block = x.block };
}

pub signed_passes : (h e : Here) (kinds : StructKinds) (a b : Output) (l : Literals) (placed : Placed) (w : Linking) (names : List (List ℕ × Option ℕ)) (s : Scope) (name : List ℕ) (v : Signature) (params : List CDecl) (body : CStmt) (g : units.Signature) (k told : ℕ)
    → l ≡ literals_in placed name → IsBefore h kinds a placed w names s → IsSignature a.types s v g → DeclaresInBlocks body → LowersFunction (record a { literals = l }) b h e kinds name v params body k told
    → Passes e kinds a b placed w names k told s (defined s name params body g ∷ [])
signed_passes h e kinds a b l placed w names s name v params body g k told same is sig blocks lowers =
    let f = defined s name params body g in
    record {
      adds = one_function a b l w names f k told (length (stmt_literals (body_scope s name g) body)) lowers.keeps
          (λ m hm. lowers.code w s g names m is.holds sig (stands_before h kinds a l placed w names s f same is) is.structs hm blocks);
      is = before_same h e kinds a b placed w names s lowers.same (record { grows = lowers.keeps.grows; tags = lowers.keeps.tags }) is;
    }

-- types that are new before a function
pub passes_from : (e : Here) (kinds : StructKinds) (a b c : Output) (placed : Placed) (w : Linking) (names : List (List ℕ × Option ℕ)) (k told : ℕ) (s : Scope) (fs : List Definition) → Keeps a b → b.ops.items ≡ a.ops.items
    → Passes e kinds b c placed w names k told s fs → Passes e kinds a c placed w names k told s fs
passes_from e kinds a b c placed w names k told s fs keeps same p = record { adds = adds_from a b c w names fs k told keeps same p.adds; is = p.is }

pub no_body : (h : Here) (kinds : StructKinds) (a : Output) (placed : Placed) (w : Linking) (names : List (List ℕ × Option ℕ)) (k : ℕ) (s : Scope) (name : List ℕ) (at : ℕ) (result : CTy) (params : List CDecl) (body : Option Stmt) → body ≡ None
    → IsBefore h kinds a placed w names s → Passes h kinds a a placed w names k k s (item_definitions s (plain.Function name at result params (maybe_stmt body)))
no_body h kinds a placed w names k s name at result params body none is =
    subst (λ (o : Option Stmt). Passes h kinds a a placed w names k k s (item_definitions s (plain.Function name at result params (maybe_stmt o)))) (sym none)
    (record { adds = no_functions a a w names k (keeps_none a) refl; is = is })

-- ---- one external

pub other_passes : (h : Here) (d : Declarations) (kinds more : StructKinds) (a : Output) (t : Table) (placed : Placed) (w : Linking) (names : List (List ℕ × Option ℕ)) (s inner : Scope) (k : ℕ) → IsBefore h kinds a placed w names s → Grows (known a.types) (known t)
    → t.tags ≡ a.types.tags → Holds t d inner → AreStructKinds t more inner.tags → Passes (record h { declared = d }) more a (record a { types = t }) placed w names k k inner []
other_passes h d kinds more a t placed w names s inner k is grows tags holds structs = record {
  adds = no_functions a (record a { types = t }) w names k (record { grows = grows; tags = tags }) refl;
  is = before_on h d kinds more a t placed w names s inner holds structs is;
}

pub object_structs : (t0 t1 : Table) (kinds : StructKinds) (s : Scope) (d : CDecl) → t1.tags ≡ t0.tags → IsOk (item_judged s (plain.Object d)) → AreStructKinds t0 kinds s.tags → AreStructKinds t1 kinds (scope_or s (declared s true d)).tags
object_structs t0 t1 kinds s d same ok structs =
    let p = ok_inner (declared s true d) ok in
    let o = object_passed s p.0 d p.1 in
    let tags : (scope_or s (declared s true d)).tags ≡ s.tags = ap (λ (r : Judged Scope). (scope_or s r).tags) p.1 ∙ ap (λ (r : Scope). r.tags) o.is in
    struct_kinds_kept t0 t1 kinds (scope_or s (declared s true d)).tags same (subst (AreStructKinds t0 kinds) (sym tags) structs)

pub function_passes : (h : Here) (d : Declarations) (kinds : StructKinds) (a b : Output) (t : Table) (placed : Placed) (w : Linking) (names : List (List ℕ × Option ℕ)) (s : Scope) (name : List ℕ) (at : ℕ) (result : CTy) (params : List CDecl) (body : Option CStmt) (k told : ℕ)
    → IsOk (item_judged s (plain.Function name at result params body)) → Holds t d (behind_function s name at result params (is_some body)) → Grows (known b.types) (known t) → t.tags ≡ b.types.tags
    → Passes h kinds a b placed w names k told s (item_definitions s (plain.Function name at result params body))
    → Passes (record h { declared = d }) kinds a (record b { types = t }) placed w names k told (scope_or s (item_judged s (plain.Function name at result params body))) (item_definitions s (plain.Function name at result params body))
function_passes h d kinds a b t placed w names s name at result params body k told ok holds grows tags p =
    let item : CItem = plain.Function name at result params body in
    let c : Output = record b { types = t } in
    let q = ok_inner (item_judged s item) ok in
    let behind : Scope = behind_function s name at result params (is_some body) in
    let there : behind ≡ scope_or s (item_judged s item) = function_passed s name at result params body q.0 q.1 in
    let structs : AreStructKinds t kinds behind.tags = struct_kinds_kept b.types t kinds behind.tags tags (subst (AreStructKinds b.types kinds) (sym (function_tags s name at result params (is_some body))) p.is.structs) in
    record {
      adds = adds_to a b c w names (item_definitions s item) k told p.adds (record { grows = grows; tags = tags }) refl;
      is = subst (λ (r : Scope). IsBefore (record h { declared = d }) kinds c placed w names r) there (before_on h d kinds kinds b t placed w names s behind holds structs p.is);
    }

-- ---- all externals

-- the externals so far, and those that are left
pub record SoFar (h : Here) (kinds : StructKinds) (a b : Output) (placed : Placed) (w : Linking) (names : List (List ℕ × Option ℕ)) (first block : ℕ) (s end : Scope) (left all : List CItem) : Type 0 where
  pub inner : Scope
  pub done : List Definition
  pub adds : AddsFunctions a b w names done first block
  pub is : IsBefore h kinds b placed w names inner
  pub typed : all_items inner left ≡ Ok end
  pub blocks : ItemsDeclareInBlocks left
  pub whole : definitions s all ≡ done ++ definitions inner left

pub record Going (h e : Here) (kinds more : StructKinds) (a b : Output) (placed : Placed) (first block : ℕ) (left all : List CItem) : Type 0 where
  pub some : HoldsSome b.types e.declared
  pub tags : b.types.tags ≡ a.types.tags
  pub numbered : (name : List ℕ) → contains (tags_in left) name ≡ true → HasNumber a.types name
  pub so_far : (w : Linking) (names : List (List ℕ × Option ℕ)) (s end : Scope) → IsBefore h kinds a placed w names s → all_items s all ≡ Ok end → ItemsDeclareInBlocks all → SoFar e more a b placed w names first block s end left all

pub begun : (h : Here) (kinds : StructKinds) (a : Output) (placed : Placed) (first : ℕ) (all : List CItem) → HoldsSome a.types h.declared → ((name : List ℕ) → contains (tags_in all) name ≡ true → HasNumber a.types name)
    → Going h h kinds kinds a a placed first first all all
begun h kinds a placed first all some numbered = record {
  some = some;
  tags = refl;
  numbered = numbered;
  so_far = λ w names s end is typed blocks. record { inner = s; done = []; adds = no_functions a a w names first (keeps_none a) refl; is = is; typed = typed; blocks = blocks; whole = refl };
}

-- an external more
pub goes_on : (h e g : Here) (kinds more others : StructKinds) (a b c : Output) (placed : Placed) (first block next : ℕ) (x : CItem) (left rest all : List CItem) → Going h e kinds more a b placed first block left all → left ≡ x ∷ rest
    → HoldsSome c.types g.declared → c.types.tags ≡ b.types.tags
    → ((w : Linking) (names : List (List ℕ × Option ℕ)) (s : Scope) → IsBefore e more b placed w names s → IsOk (item_judged s x) → ItemDeclaresInBlocks x → Passes g others b c placed w names block next (scope_or s (item_judged s x)) (item_definitions s x))
    → Going h g kinds others a c placed first next rest all
goes_on h e g kinds more others a b c placed first block next x left rest all k same some tags passes = record {
  some = some;
  tags = tags ∙ k.tags;
  numbered = others_numbered a.types x rest (subst (λ (l : List CItem). (name : List ℕ) → contains (tags_in l) name ≡ true → HasNumber a.types name) same k.numbered);
  so_far = λ w names s end is typed blocks.
      let f = k.so_far w names s end is typed blocks in
      let p = item_passed f.inner x rest end (subst (λ (l : List CItem). all_items f.inner l ≡ Ok end) same f.typed) in
      let in_blocks : ItemsDeclareInBlocks (x ∷ rest) = subst (λ (l : List CItem). ItemsDeclareInBlocks l) same f.blocks in
      let m = passes w names f.inner f.is (judged_ok (item_judged f.inner x) p.inner p.first) in_blocks.0 in
      let inner : Scope = scope_or f.inner (item_judged f.inner x) in
      let scope : inner ≡ p.inner = ap (scope_or f.inner) p.first in
      record {
        inner = inner;
        done = f.done ++ item_definitions f.inner x;
        adds = functions_then a b c w names f.done (item_definitions f.inner x) first block next f.adds m.adds;
        is = m.is;
        typed = ap (λ (r : Scope). all_items r rest) scope ∙ p.rest;
        blocks = in_blocks.1;
        whole = f.whole ∙ (ap (λ (l : List CItem). f.done ++ definitions f.inner l) same ∙ sym (append_assoc f.done (item_definitions f.inner x) (definitions inner rest)));
      };
}

-- all are passed
pub done : (h e : Here) (kinds more : StructKinds) (a b : Output) (placed : Placed) (first block : ℕ) (left all : List CItem) (w : Linking) (names : List (List ℕ × Option ℕ)) (s end : Scope) → Going h e kinds more a b placed first block left all → left ≡ []
    → IsBefore h kinds a placed w names s → all_items s all ≡ Ok end → ItemsDeclareInBlocks all → AddsFunctions a b w names (definitions s all) first block
done h e kinds more a b placed first block left all w names s end k none is typed blocks =
    let f = k.so_far w names s end is typed blocks in
    let whole : f.done ≡ definitions s all = sym (f.whole ∙ (ap (λ (l : List CItem). f.done ++ definitions f.inner l) none ∙ append-nil f.done)) in
    subst (λ (fs : List Definition). AddsFunctions a b w names fs first block) whole f.adds
