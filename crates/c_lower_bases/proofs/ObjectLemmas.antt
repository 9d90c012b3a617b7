-- Which objects of file scope have first values, and how many cells each has.
use Rattle.std.proofs.Common.{◌≡◌, ℕ, Bool, List, [], ◌∷◌, ◌++◌, length, map, refl, sym, ap, ◌∙◌, append_assoc, append-nil, arith}
use Rattle.std.proofs.lemmas.List.{length-map}
use Rattle.std.specs.Prelude.{Vec}
use Rattle.std.specs.declared.alloc.Global.{Global}
use Rattle.c_syntax.specs.Plain as plain
use Rattle.c_syntax.specs.Plain.{CItem}
use Rattle.c_eval.specs.State as run
use Rattle.c_eval.specs.Memory.{live_object}
use Rattle.c_store.specs.declared.value.Cell as rust
use Rattle.c_store.specs.Values.{Cell}
use Rattle.c_store.specs.Shown.{cell_of}
use Rattle.c_plain.specs.Program.{Program}
use Rattle.c_resolved.specs.Same.{Tables, SameCells, no_cell, more_cells, SameBlock, no_block, more_block, lengths_of}
use Rattle.c_emitted.specs.declared.emitter.Emitter.{Emitter}
use Rattle.c_emitted.specs.Emits.{tables_of}
use Rattle.c_emitted.proofs.TableLemmas.{extends_same}
use Rattle.c_objects.specs.Made.{AreShown, shown_objects}
use Rattle.c_lowered.specs.Whole.{firsts_given}

-- ---- first values

-- those of one external stand before those of the others
pub firsts_first : (x : CItem) (items : List CItem) → firsts_given (x ∷ items) ≡ firsts_given (x ∷ []) ++ firsts_given items
firsts_first (plain.StructItem tag) items = refl
firsts_first (plain.Object d) items = refl
firsts_first (plain.Function name at result params body) items = refl

-- the externals so far, and those that are left
pub record Telling (given : List Bool) (left all : List CItem) : Type 0 where
  pub whole : firsts_given all ≡ given ++ firsts_given left

pub one_told : (old new : List Bool) (x : CItem) (left rest all : List CItem) → Telling old left all → left ≡ x ∷ rest → new ≡ old ++ firsts_given (x ∷ []) → Telling new rest all
one_told old new x left rest all h next push = record {
  whole = h.whole ∙ (ap (λ (l : List CItem). old ++ firsts_given l) next ∙ (ap (λ (l : List Bool). old ++ l) (firsts_first x rest) ∙ (sym (append_assoc old (firsts_given (x ∷ [])) (firsts_given rest)) ∙ ap (λ (l : List Bool). l ++ firsts_given rest) (sym push))));
}

pub none_told : (given : List Bool) (all : List CItem) → given ≡ [] → Telling given all all
none_told given all none = record { whole = sym (ap (λ (l : List Bool). l ++ firsts_given all) none) }

pub all_told : (given : List Bool) (left all : List CItem) → Telling given left all → left ≡ [] → given ≡ firsts_given all
all_told given left all h none = sym (h.whole ∙ (ap (λ (l : List CItem). given ++ firsts_given l) none ∙ append-nil given))

-- ---- sizes

abbrev pub Objects : Type 0
Objects = List (Vec rust.Cell Global)

abbrev pub sizes_in : Objects → List ℕ
sizes_in os = map (λ (cells : Vec rust.Cell Global). length cells.items) os

-- the sizes so far, and those that are left
pub record Sizing (sizes : List ℕ) (left all : Objects) : Type 0 where
  pub whole : sizes_in all ≡ sizes ++ sizes_in left

pub none_sized : (sizes : List ℕ) (all : Objects) → sizes ≡ [] → Sizing sizes all all
none_sized sizes all none = record { whole = sym (ap (λ (l : List ℕ). l ++ sizes_in all) none) }

pub one_sized : (old new : List ℕ) (o : Vec rust.Cell Global) (n : ℕ) (left rest all : Objects) → Sizing old left all → left ≡ o ∷ rest → n ≡ length o.items → new ≡ old ++ n ∷ [] → Sizing new rest all
one_sized old new o n left rest all h next many push = record {
  whole = h.whole ∙ (ap (λ (l : Objects). old ++ sizes_in l) next ∙ (sym (append_assoc old (length o.items ∷ []) (sizes_in rest)) ∙ sym (ap (λ (l : List ℕ). l ++ sizes_in rest) (push ∙ ap (λ (k : ℕ). old ++ k ∷ []) many))));
}

pub all_sized : (sizes : List ℕ) (left all : Objects) → Sizing sizes left all → left ≡ [] → sizes ≡ sizes_in all
all_sized sizes left all h none = sym (h.whole ∙ (ap (λ (l : Objects). sizes ++ sizes_in l) none ∙ append-nil sizes))

cells_many : {t : Tables} {lengths : List ℕ} {cs : List run.Cell} {ds : List Cell} → SameCells t lengths cs ds → length cs ≡ length ds
cells_many no_cell = refl
cells_many (more_cells h rest) = let e = cells_many rest in omega (arith, e)

both_same : (m n : ℕ) (ms ns : List ℕ) → m ≡ n → ms ≡ ns → m ∷ ms ≡ n ∷ ns
both_same m n ms ns e f = ap (λ (k : ℕ). k ∷ ms) e ∙ ap (λ (l : List ℕ). n ∷ l) f

block_many : {t : Tables} {lengths : List ℕ} {cs : List (List run.Cell)} {ds : List (List Cell)} → SameBlock t lengths cs ds → map (λ (c : List run.Cell). length c) cs ≡ map (λ (d : List Cell). length d) ds
block_many no_block = refl
block_many (more_block h rest) = both_same _ _ _ _ (cells_many h) (block_many rest)

live_many : (new : List (List run.Cell)) → lengths_of (map live_object new) ≡ map (λ (c : List run.Cell). length c) new
live_many [] = refl
live_many (c ∷ cs) = ap (λ (l : List ℕ). length c ∷ l) (live_many cs)

shown_many : (os : Objects) → map (λ (d : List Cell). length d) (map (λ (cells : Vec rust.Cell Global). map cell_of cells.items) os) ≡ sizes_in os
shown_many [] = refl
shown_many (o ∷ os) = ap (λ (n : ℕ). n ∷ map (λ (d : List Cell). length d) (map (λ (cells : Vec rust.Cell Global). map cell_of cells.items) os)) (length-map o.items cell_of) ∙ ap (λ (l : List ℕ). length o.items ∷ l) (shown_many os)

-- a program that has the tables of what is emitted
program_with : Emitter → Program
program_with out = record {
  instructions = [];
  constants = (tables_of out).constants;
  kinds = (tables_of out).kinds;
  lengths = (tables_of out).lengths;
  bytes = (tables_of out).bytes;
  functions = [];
  literals = (tables_of out).literals;
  objects = shown_objects out;
  main = 0;
}

-- objects that are shown have as many cells
pub sizes_are : (out : Emitter) (new : List (List run.Cell)) (objects : List run.Object) → AreShown out new → objects ≡ map live_object new → sizes_in out.objects.items ≡ lengths_of objects
unfolding program_with
sizes_are out new objects shown made =
    let same = shown.same (tables_of out).names (program_with out) (extends_same (tables_of out)) in
    sym (ap lengths_of made ∙ (live_many new ∙ (block_many same ∙ shown_many out.objects.items)))
