-- The code of a whole text.
use Rattle.std.proofs.Common.{◌≡◌, ℕ, ◌++◌, List, [], map, Some, refl, sym, ap, subst, ◌∙◌}
use Rattle.std.specs.Prelude.{codes}
use Rattle.eir_core.specs.declared.ops.Op.{Op}
use Rattle.c_syntax.specs.Plain.{CUnit}
use Rattle.c_types.specs.Units.{start_scope}
use Rattle.c_eval.specs.Environment.{Environment}
use Rattle.c_eval.specs.Text.{text_of}
use Rattle.c_declared.specs.Held.{Holds}
use Rattle.c_cells.specs.declared.structs.StructKinds.{StructKinds}
use Rattle.c_cells.specs.Structs.{AreStructKinds}
use Rattle.c_lowered.specs.Locations.{Linking}
use Rattle.c_lowered.specs.Whole.{functions_code, opening_code, frames, linking_of, literal_address, whole_code}
use Rattle.c_applied.proofs.LeadsLemmas.{same_number}
use Rattle.c_addressing.specs.declared.here.Here.{Here}
use Rattle.c_addressing.specs.declared.here.Output.{Output}
use Rattle.c_addressing.specs.Here.{IsHere, Emits}
use Rattle.c_lower_data.specs.Letters.{AreAddresses, AddsAddresses}
use Rattle.c_lower.specs.declared.placed.Placed.{Placed}
use Rattle.c_lower.specs.Placed.{literals_in, owned_literals, PlacesLiterals}
use Rattle.c_lower.specs.Walk.{IsBefore, AddsFunctions}
use Rattle.c_lower.specs.Whole.{first_of_functions, KnowsText}
use Rattle.c_lower.proofs.WalkLemmas.{lies_as}

abbrev pub main : List ℕ
main = codes "main"

-- ---- the literals of functions

-- they come behind those of file scope
pub placed_here : (u : CUnit) (p : Placed) → PlacesLiterals p (literal_address (map owned_literals (text_of u).functions) (first_of_functions u)) → PlacesLiterals p (linking_of u).literal
placed_here u p h = record { lie = λ name. record { told = λ n. (h.lie name).told n } }

pub addressed : (old new all : List ℕ) (end a : ℕ) (all_texts told : List (List ℕ)) → old ≡ [] → all ≡ new → all_texts ≡ told → AddsAddresses old new end a all_texts → AreAddresses all end a told
addressed old new all end a all_texts told none same are adds =
    let whole : adds.more ≡ all = sym (same ∙ (adds.behind ∙ ap (λ (l : List ℕ). l ++ adds.more) none)) in
    subst (λ (l : List ℕ). AreAddresses l end a told) whole (subst (λ (ts : List (List ℕ)). AreAddresses adds.more end a ts) are adds.are)

-- ---- what is known of file scope

-- where the block of `main` is looked up
abbrev pub file_place : CUnit → Environment
file_place u = record { scope = start_scope u; objects = (text_of u).names; next = 0; literals_before = 0 }

abbrev pub in_main : CUnit → Linking
in_main u = record (linking_of u) { owner = Some main }

abbrev pub with_literals : Placed → Output → Output
with_literals placed out = record out { literals = literals_in placed main }

pub main_known : (h : Here) (out : Output) (placed : Placed) (at : ℕ) (u : CUnit) → Holds out.types h.declared (start_scope u) → KnowsText h.slots h.bases.items h.entries.entries at u → PlacesLiterals placed (linking_of u).literal
    → IsHere h (with_literals placed out) (in_main u) (file_place u)
main_known h out placed at u holds knows places = record {
  holds = holds;
  slots = knows.slots_are;
  bases = knows.bases_are;
  entries = knows.entries_are;
  literals = record { address = λ n. lies_as (literals_in placed main) (literals_in placed main) ((linking_of u).literal (Some main)) n refl (places.lie main) };
}

pub before_first : (h : Here) (kinds : StructKinds) (out : Output) (placed : Placed) (at : ℕ) (u : CUnit) → Holds out.types h.declared (start_scope u) → AreStructKinds out.types kinds (start_scope u).tags → KnowsText h.slots h.bases.items h.entries.entries at u
    → PlacesLiterals placed (linking_of u).literal → IsBefore h kinds out placed (linking_of u) (text_of u).names (start_scope u)
before_first h kinds out placed at u holds structs knows places = record {
  holds = holds;
  structs = structs;
  places = record { slots = knows.slots_are; bases = knows.bases_are; entries = knows.entries_are };
  literals = places;
}

-- ---- the whole

pub whole_made : (u : CUnit) (a b c : Output) (told : ℕ) → a.ops.items ≡ [] → Emits a b (opening_code (frames u) ((linking_of u).entry main)) 0 → AddsFunctions b c (linking_of u) (text_of u).names (text_of u).functions 2 told → c.ops.items ≡ whole_code u
whole_made u a b c told none opens adds =
    let opening : List Op = opening_code (frames u) ((linking_of u).entry main) in
    let rest : List Op = functions_code (linking_of u) (text_of u).names (text_of u).functions 2 in
    let first : b.ops.items ≡ opening = opens.ops ∙ ap (λ (l : List Op). l ++ opening) none in
    (adds.have 2 (same_number 2)).code ∙ ap (λ (l : List Op). l ++ rest) first
