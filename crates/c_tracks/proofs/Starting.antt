-- The opening calls.
use Rattle.std.proofs.Common.{◌≡◌, ℕ, zero, suc, List, [], ◌∷◌, ◌++◌, Option, Some, None, length, map, refl, sym, ap, ◌∙◌, subst}
use Rattle.std.specs.Prelude.{slice_get, codes}
use Rattle.mach_core.specs.Rule.{at_start}
use Rattle.c_syntax.specs.Plain.{CUnit}
use Rattle.c_syntax.specs.Words.{meaning}
use Rattle.c_eval.specs.State as run
use Rattle.c_eval.specs.Memory as memory
use Rattle.c_eval.specs.Memory.{live_object}
use Rattle.c_eval.specs.Meaning.{opening}
use Rattle.c_eval.specs.Text.{text_of}
use Rattle.c_code.specs.Machine as code
use Rattle.c_rule.specs.Stepping.{Store}
use Rattle.c_rule.specs.Laws.{text_code, text_start}
use Rattle.c_store.specs.Values.{Cell, Stack}
use Rattle.c_store.specs.Words.{entered}
use Rattle.c_resolved.specs.Same.{Tables, SameBlock, no_block, more_block, SameCells, no_cell, more_cells, Shows, SameObject, no_object, lengths_of, no_value}
use Rattle.c_resolved.proofs.Blocks.{blocks_show}
use Rattle.c_plain.specs.Program.{Program}
use Rattle.c_plain.specs.Rule.{nothing_yet, opening_call}
use Rattle.c_resolved.specs.Means.{tables_of, file_lengths}
use Rattle.c_tracks.specs.Tracks.{TracksAt, no_slot, alone}
use Rattle.c_tracks.specs.Laws.{SameMoment}
use Rattle.c_tracks.specs.Starts.{IsOfText}
use Rattle.c_tracks.proofs.Calling.{calls_on}
use Rattle.c_tracks.proofs.Whole.{config_tracks}

-- what shows cells are as many
as_many_cells : (t : Tables) (lengths : List ℕ) → {cs : List run.Cell} → {ds : List Cell} → SameCells t lengths cs ds → length cs ≡ length ds
as_many_cells t lengths no_cell = refl
as_many_cells t lengths (more_cells c rest) = ap suc (as_many_cells t lengths rest)

as_long : (t : Tables) (lengths : List ℕ) → {new : List (List run.Cell)} → {cells : List (List Cell)} → SameBlock t lengths new cells → lengths_of (map live_object new) ≡ map (λ ds. length ds) cells
as_long t lengths no_block = refl
as_long t lengths (more_block {c} {d} {cs} {ds} same rest) =
    ap (λ (n : ℕ). n ∷ lengths_of (map live_object cs)) (as_many_cells t lengths same) ∙ ap (λ (ns : List ℕ). length d ∷ ns) (as_long t lengths rest)

-- there is no object yet
none_shown : (t : Tables) → Shows t [] (record { next = 0; live = [] })
none_shown t = record { next = refl; objects = λ o. no_object }

-- the objects of file scope live
files_shown : (t : Tables) (lengths : List ℕ) (new : List (List run.Cell)) (cells : List (List Cell)) → lengths ≡ map (λ ds. length ds) cells → SameBlock t lengths new cells
    → Shows t (map live_object new) (entered cells (record { next = 0; live = [] }))
files_shown t lengths new cells e same =
    blocks_show t [] (record { next = 0; live = [] }) new cells (none_shown t) (subst (λ (ns : List ℕ). SameBlock t ns new cells) (e ∙ sym (as_long t lengths same)) same)

nothing_tracks : (names : List (List ℕ)) (p : Program) (u : CUnit) (fuel : ℕ) → IsOfText names p u
    → TracksAt (file_lengths p) (tables_of names p) code.nothing_yet (record { objects = (text_of u).objects; left = fuel; charge = 0 }) (nothing_yet p fuel)
nothing_tracks names p u fuel is =
    let t = tables_of names p in
    let lengths : lengths_of (text_of u).objects ≡ file_lengths p = ap lengths_of is.objects ∙ as_long t (file_lengths p) is.cells in
    record {
      at = refl;
      values = no_value;
      slots = no_slot;
      opened = alone;
      memory = subst (λ (os : List run.Object). Shows t os (nothing_yet p fuel).memory) (sym is.objects) (files_shown t (file_lengths p) is.new p.objects refl is.cells);
      files = record { first = λ o n h. ap (λ (ns : List ℕ). slice_get ns o) lengths ∙ h };
      left = refl;
      charge = refl;
    }

pub starts : (names : List (List ℕ)) (p : Program) (u : CUnit) (fuel : ℕ) → IsOfText names p u → SameMoment names p (at_start (text_start u fuel)) (at_start (opening_call p (nothing_yet p fuel)).config)
starts names p u fuel is = record {
  config = config_tracks (file_lengths p) (tables_of names p)
      (calls_on (tables_of names p) code.nothing_yet (record { objects = (text_of u).objects; left = fuel; charge = 0 }) (nothing_yet p fuel) (nothing_tracks names p u fuel is) [] [] no_value [] [] no_value (is.code.entries (codes "main") p.main is.main));
  taken = refl;
  output = refl;
}
