-- Objects of file scope, one behind the other.
use Rattle.std.proofs.Common.{◌≡◌, ℕ, ◌+◌, ◌-◌, Bool, true, false, List, [], ◌∷◌, ◌++◌, length, replicate, take, map, Option, Some, None, refl, sym, ap, subst, ◌∙◌, length-append, if◌then◌else◌, arith}
use Rattle.std.specs.Prelude.{slice_get, Vec}
use Rattle.std.specs.declared.alloc.Global.{Global}
use Rattle.std.proofs.lemmas.List.{append-nil, map-append, length-map, length-replicate}
use Rattle.std.specs.Map.{lookup}
use Rattle.std.specs.Str.{bytes_eq}
use Rattle.std.specs.Cmp.Lexicographic.{bytes_decides}
use denote.Ref.{Bor}
use Rattle.c_syntax.specs.Plain as plain
use Rattle.c_syntax.specs.Plain.{CValue, CValues}
use Rattle.c_syntax.specs.Words.{meaning}
use Rattle.c_types.specs.Types.{CType}
use Rattle.c_types.specs.Scope.{Scope}
use Rattle.c_types.specs.Declarations.{Slots, first_slot, next_slots, slots_of, takes_string}
use Rattle.c_types.specs.Table.{Table}
use Rattle.c_operands.specs.declared.declarations.Declarations.{Declarations}
use Rattle.c_declared.specs.Held.{Holds}
use Rattle.c_cells.proofs.MapLemmas.{Decides, inserted}
use Rattle.c_eval.specs.State as run
use Rattle.c_eval.specs.Environment.{Environment, type_or_nothing}
use Rattle.c_eval.specs.LiteralsIn.{value_literals}
use Rattle.c_eval.specs.Text.{static_cells, all_static_cells, first_cells}
use Rattle.c_store.specs.declared.value.Cell as rust
use Rattle.c_store.specs.declared.value.Cell.TheVariants as rust_cell
use Rattle.c_store.specs.Values.{Cell}
use Rattle.c_store.specs.Shown.{cell_of}
use Rattle.c_emitted.specs.declared.emitter.Emitter.{Emitter}
use Rattle.c_emitted.specs.declared.emitter.File.{File}
use Rattle.c_emitted.specs.Tables.{Tables, Begins, Extends}
use Rattle.c_emitted.specs.Emits.{tables_of, file_named, IsFile, AreFiles}
use Rattle.c_emitted.proofs.TableLemmas.{begins_same, begins_more, begins_get, begins_last, extends_then}
use Rattle.c_static.specs.File.{IsAtFile}
use Rattle.c_static.specs.Cells.{ShowCells, AddsCells}
use Rattle.c_objects.specs.Made.{StandsAtFile, IsBehindName, AddsFile, SetsLast, AddsObject}

-- ---- how many cells a first value gives does not depend on the objects before it

abbrev pub at_place : Scope → List (List ℕ × Option ℕ) → ℕ → ℕ → Environment
at_place s objects next before = record { scope = s; objects = objects; next = next; literals_before = before }

same_choice : {A : Type 0} (b : Bool) (xs : List A) (x y : A) → length (if b then xs else x ∷ []) ≡ length (if b then xs else y ∷ [])
same_choice true xs x y = refl
same_choice false xs x y = refl

mutual
  value_length : (v : CValue) (t : CType) (s : Scope) (os ps : List (List ℕ × Option ℕ)) (k l m n : ℕ) → length (static_cells v t (at_place s os k m)) ≡ length (static_cells v t (at_place s ps l n))
  value_length (plain.One e) t s os ps k l m n = same_choice (takes_string t e) _ _ _
  value_length (plain.Many vs) t s os ps k l m n = values_length vs (slots_of s.tags (Some t)) s os ps k l m n

  values_length : (vs : CValues) (slots : Slots) (s : Scope) (os ps : List (List ℕ × Option ℕ)) (k l m n : ℕ) → length (all_static_cells vs slots (at_place s os k m)) ≡ length (all_static_cells vs slots (at_place s ps l n))
  values_length plain.NoValue slots s os ps k l m n = refl
  values_length (plain.MoreValue v vs) slots s os ps k l m n =
      let t = type_or_nothing (first_slot slots) in
      let more = length (value_literals s v) in
      let first = value_length v t s os ps k l m n in
      let rest = values_length vs (next_slots slots) s os ps k l (m + more) (n + more) in
      length-append (static_cells v t (at_place s os k m)) (all_static_cells vs (next_slots slots) (at_place s os k (m + more)))
      ∙ (ap (λ (i : ℕ). i + length (all_static_cells vs (next_slots slots) (at_place s os k (m + more)))) first
      ∙ (ap (λ (i : ℕ). length (static_cells v t (at_place s ps l n)) + i) rest
      ∙ sym (length-append (static_cells v t (at_place s ps l n)) (all_static_cells vs (next_slots slots) (at_place s ps l (n + more))))))

pub first_length : (first : Option CValue) (t : CType) (s : Scope) (os ps : List (List ℕ × Option ℕ)) (k l m n : ℕ) → length (first_cells t first (at_place s os k m)) ≡ length (first_cells t first (at_place s ps l n))
first_length None t s os ps k l m n = refl
first_length (Some v) t s os ps k l m n = value_length v t s os ps k l m n

-- where no object is known
pub nothing_known : (table : Table) (d : Declarations) (out : Emitter) (s : Scope) (next : ℕ) → Holds table d s → out.owner ≡ 0 → out.before ≡ 0 → out.files.entries ≡ [] → IsAtFile table d out (at_place s [] next 0)
nothing_known table d out s next holds owner before none = record {
  holds = holds;
  files = record { found = λ name. subst (λ es. IsFile (tables_of out).files (lookup (λ k. bytes_eq name k.now) es) None) (sym none) refl };
  owner = owner;
  before = before;
}

-- ---- an object more

bytes : Decides bytes_eq
bytes = record { same = λ x y e. (bytes_decides x y).0 e; equal = λ x y e. (bytes_decides x y).1 e }

lengths_in : List (Vec rust.Cell Global) → List ℕ
lengths_in os = map (λ (cells : List Cell). length cells) (map (λ (cells : Vec rust.Cell Global). map cell_of cells.items) os)

lengths_then : (os : List (Vec rust.Cell Global)) (o : Vec rust.Cell Global) (n : ℕ) → length o.items ≡ n → lengths_in (os ++ o ∷ []) ≡ lengths_in os ++ n ∷ []
unfolding lengths_in
lengths_then os o n e =
    ap (map (λ (cells : List Cell). length cells)) (map-append (λ (cells : Vec rust.Cell Global). map cell_of cells.items) os (o ∷ []))
    ∙ (map-append (λ (cells : List Cell). length cells) (map (λ (cells : Vec rust.Cell Global). map cell_of cells.items) os) (map cell_of o.items ∷ [])
    ∙ ap (λ (k : ℕ). map (λ (cells : List Cell). length cells) (map (λ (cells : Vec rust.Cell Global). map cell_of cells.items) os) ++ k ∷ []) (length-map o.items cell_of ∙ e))

files_of : (e : Emitter) → (tables_of e).files ≡ lengths_in e.objects.items
unfolding lengths_in
files_of e = refl

as_many : (os : List (Vec rust.Cell Global)) → length (lengths_in os) ≡ length os
unfolding lengths_in
as_many os =
    length-map (map (λ (cells : Vec rust.Cell Global). map cell_of cells.items) os) (λ (cells : List Cell). length cells) ∙ length-map os (λ (cells : Vec rust.Cell Global). map cell_of cells.items)

file_later : (ls ms : List ℕ) (f : Option File) (o : Option (Option ℕ)) → Begins ls ms → IsFile ls f o → IsFile ms f o
file_later ls ms (Some f) o b h = (h.0, begins_get b f.object f.length h.1)
file_later ls ms None o b h = h

-- an object of so many unset cells has so many
as_many_cells : (count : ℕ) (cells : Vec rust.Cell Global) → cells.items ≡ replicate count rust_cell.Unset → length cells.items ≡ count
as_many_cells count cells unset = ap length unset ∙ length-replicate count rust_cell.Unset

abbrev file_of : Emitter → ℕ → File
file_of a count = record { object = length a.objects.items; length = count }

-- its name is known, and the others are known as before
pub file_added : (a b : Emitter) (here inner : Environment) (name : Bor (List ℕ)) (count : ℕ) → AddsFile a b name count → StandsAtFile a here → IsBehindName here inner name.now → AreFiles b inner.objects
file_added a b here inner name count adds stands behind = record {
  found = λ q.
      subst (λ (os : List (List ℕ × Option ℕ)). IsFile (tables_of b).files (file_named b q) (meaning os q)) (sym behind.objects)
      (subst (λ (o : Option File). IsFile (tables_of b).files o (if bytes_eq q name.now then Some (Some here.next) else meaning here.objects q)) (sym (named q))
      (by q (bytes_eq q name.now)));
}
  where
    named : (q : List ℕ) → file_named b q ≡ (if bytes_eq q name.now then Some (file_of a count) else file_named a q)
    named q = ap (λ es. lookup (λ k. bytes_eq q k.now) es) adds.files ∙ inserted (λ k. k.now) bytes_eq bytes q a.files.entries name (file_of a count)

    files : (tables_of b).files ≡ lengths_in a.objects.items ++ count ∷ []
    files = files_of b ∙ (ap lengths_in adds.objects ∙ lengths_then a.objects.items adds.cells count (as_many_cells count adds.cells adds.unset))

    begins : Begins (tables_of a).files (tables_of b).files
    begins = subst (λ (ls : List ℕ). Begins ls (tables_of b).files) (sym (files_of a)) (subst (Begins (lengths_in a.objects.items)) (sym files) (begins_more (lengths_in a.objects.items) (count ∷ [])))

    last : slice_get (tables_of b).files (length a.objects.items) ≡ Some count
    last =
        ap (λ (ls : List ℕ). slice_get ls (length a.objects.items)) files
        ∙ (ap (slice_get (lengths_in a.objects.items ++ count ∷ [])) (sym (as_many a.objects.items)) ∙ begins_last (lengths_in a.objects.items) count (begins_same (lengths_in a.objects.items ++ count ∷ [])))

    by : (q : List ℕ) (same : Bool) → IsFile (tables_of b).files (if same then Some (file_of a count) else file_named a q) (if same then Some (Some here.next) else meaning here.objects q)
    by q true = (ap (λ (n : ℕ). Some (Some n)) stands.next, last)
    by q false = file_later (tables_of a).files (tables_of b).files (file_named a q) (meaning here.objects q) begins (stands.files.found q)

-- what the first value knows
pub file_known : (table : Table) (d : Declarations) (a b : Emitter) (here inner : Environment) (name : Bor (List ℕ)) (count : ℕ) → Holds table d inner.scope → AddsFile a b name count → StandsAtFile a here → IsBehindName here inner name.now
    → IsAtFile table d b inner
file_known table d a b here inner name count holds adds stands behind = record {
  holds = holds;
  files = file_added a b here inner name count adds stands behind;
  owner = ap (λ (e : Emitter). e.owner) adds.rest ∙ stands.owner;
  before = ap (λ (e : Emitter). e.before) adds.rest ∙ (stands.before ∙ sym behind.before);
}

-- tables of which only that of the objects' lengths is longer
longer : (t : Tables) (files : List ℕ) → Begins t.files files → Extends t (record t { files = files })
longer t files b = record {
  constants = begins_same t.constants;
  kinds = begins_same t.kinds;
  lengths = begins_same t.lengths;
  bytes = begins_same t.bytes;
  literals = begins_same t.literals;
  names = begins_same t.names;
  files = b;
}

file_extends : (a b : Emitter) (name : Bor (List ℕ)) (count : ℕ) → AddsFile a b name count → Extends (tables_of a) (tables_of b)
file_extends a b name count adds =
    let files : (tables_of b).files ≡ lengths_in a.objects.items ++ count ∷ [] = files_of b ∙ (ap lengths_in adds.objects ∙ lengths_then a.objects.items adds.cells count (as_many_cells count adds.cells adds.unset)) in
    let begins : Begins (tables_of a).files (tables_of b).files =
    subst (λ (ls : List ℕ). Begins ls (tables_of b).files) (sym (files_of a)) (subst (Begins (lengths_in a.objects.items)) (sym files) (begins_more (lengths_in a.objects.items) (count ∷ []))) in
    let same : tables_of b ≡ record (tables_of a) { files = (tables_of b).files } = ap (λ (e : Emitter). record (tables_of e) { files = (tables_of b).files }) adds.rest in
    subst (Extends (tables_of a)) (sym same) (longer (tables_of a) (tables_of b).files begins)

none_emitted : {A : Type 0} (xs ys zs : List A) → zs ≡ xs ++ ys → length ys ≡ 0 → zs ≡ xs
none_emitted xs [] zs e h = e ∙ append-nil xs
none_emitted xs (y ∷ ys) zs e h = absurd (omega (arith, h))

-- the object has its cells
pub object_made : (table : Table) (d : Declarations) (a b c e : Emitter) (here inner : Environment) (name : Bor (List ℕ)) (count : ℕ) (made : List rust.Cell) (cells : List run.Cell) (literals : List (List ℕ))
    → AddsFile a b name count → StandsAtFile a here → IsBehindName here inner name.now → AddsCells b c [] made cells literals → count ≡ length cells → SetsLast c e made → AddsObject a e inner cells literals
object_made table d a b c e here inner name count made cells literals adds stands behind gives counts sets =
    let os = a.objects.items in
    let before : c.objects.items ≡ os ++ adds.cells ∷ [] = gives.emits.stays.objects ∙ adds.objects in
    let after : e.objects.items ≡ os ++ sets.object ∷ [] = sets.objects os adds.cells before in
    let many : length sets.object.items ≡ count = ap length (sets.is ∙ gives.behind) ∙ (gives.shown.count ∙ sym counts) in
    let files : (tables_of e).files ≡ (tables_of c).files =
    files_of e ∙ (ap lengths_in after ∙ (lengths_then os sets.object count many ∙ (sym (lengths_then os adds.cells count (as_many_cells count adds.cells adds.unset)) ∙ (sym (ap lengths_in before) ∙ sym (files_of c))))) in
    let same : tables_of e ≡ tables_of c = ap (λ (x : Emitter). record (tables_of x) { files = (tables_of e).files }) sets.rest ∙ ap (λ (ls : List ℕ). record (tables_of c) { files = ls }) files in
    let known : AreFiles b inner.objects = file_added a b here inner name count adds stands behind in
    let lengths : (tables_of c).files ≡ (tables_of b).files = files_of c ∙ (ap lengths_in gives.emits.stays.objects ∙ sym (files_of b)) in
    let entries : e.files.entries ≡ b.files.entries = ap (λ (x : Emitter). x.files.entries) sets.rest ∙ gives.emits.stays.files in
    record {
      object = sets.object;
      objects = after;
      shown = subst (λ (t : Tables). ShowCells t cells sets.object.items) (sym same) (subst (ShowCells (tables_of c) cells) (sym (sets.is ∙ gives.behind)) gives.shown);
      tables = subst (Extends (tables_of a)) (sym same) (extends_then (file_extends a b name count adds) gives.emits.tables);
      code =
          ap (λ (x : Emitter). x.code) sets.rest
          ∙ (none_emitted b.code gives.emits.code c.code gives.emits.behind gives.emits.count ∙ ap (λ (x : Emitter). x.code) adds.rest);
      files = record {
        found = λ q.
            subst (λ (ls : List ℕ). IsFile ls (file_named e q) (meaning inner.objects q)) (sym (files ∙ lengths))
            (subst (λ es. IsFile (tables_of b).files (lookup (λ k. bytes_eq q k.now) es) (meaning inner.objects q)) (sym entries) (known.found q));
      };
      owner = ap (λ (x : Emitter). x.owner) sets.rest ∙ (gives.emits.stays.owner ∙ (ap (λ (x : Emitter). x.owner) adds.rest ∙ stands.owner));
      before =
          ap (λ (x : Emitter). x.before) sets.rest
          ∙ (gives.emits.before ∙ ap (λ (n : ℕ). n + length literals) (ap (λ (x : Emitter). x.before) adds.rest ∙ (stands.before ∙ sym behind.before)));
    }

take_own : {A : Type 0} (xs ys : List A) → take (length xs) (xs ++ ys) ≡ xs
take_own [] ys = refl
take_own (x ∷ xs) ys = ap (λ l. x ∷ l) (take_own xs ys)

-- all but the last one
pub all_but_last : {A : Type 0} (xs others : List A) (last : A) (n : ℕ) → xs ≡ others ++ last ∷ [] → n ≡ length xs → take (n - 1) xs ≡ others
all_but_last xs others last n e m =
    let many : length xs ≡ length others + 1 = ap length e ∙ length-append others (last ∷ []) in
    let less : n - 1 ≡ length others = omega (arith, m, many) in
    ap (λ (k : ℕ). take k xs) less ∙ (ap (take (length others)) e ∙ take_own others (last ∷ []))
