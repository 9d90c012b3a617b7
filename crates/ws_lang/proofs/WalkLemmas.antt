-- A walk over the instructions of a listing that checks their labels.
use Rattle.std.proofs.Common.{◌≡◌, ◌⊎◌, ⊎_elim, ℕ, zero, suc, ◌+◌, ◌<◌, List, [], ◌∷◌, ◌++◌, length, map, take, get_or, sym, ap, subst, ◌∙◌, arith}
use Rattle.std.specs.Prelude.{slice_index, slice_index_or}
use Rattle.std.proofs.lemmas.List.{length-map}
use Rattle.ws_lang.specs.declared.instruction.Op.{Op}
use Rattle.ws_lang.specs.declared.fault.WsFault.{WsFault}
use Rattle.ws_lang.specs.declared.fault.WsFault.TheVariants.{BadForm, NumberRange, DuplicateLabel, UnknownLabel, Memory}
use Rattle.ws_lang.specs.Instruction.{Instruction}
use Rattle.ws_lang.specs.OpInstruction.{instruction_of}
use Rattle.ws_lang.specs.declared.resolved.Resolved.{Resolved}
use Rattle.ws_lang.specs.Resolved.{resolved, resolved_in}
use Rattle.ws_lang.specs.Labels.{target_of, LabelsRight, LabelsWrong}
use Rattle.ws_lang.specs.Listing.{AllRight, FirstWrong, WalkRefused}
use Rattle.ws_lang.proofs.LabelLemmas.{map-take_more}

-- an element of a list that is mapped
pub get_or-map : {A B : Type 0} (f : A → B) (xs : List A) (k : ℕ) (x : A) (d : B) → k < length xs → x ≡ get_or xs k x → get_or (map f xs) k d ≡ f x
get_or-map f [] k x d lt e = absurd (omega arith)
get_or-map f (y ∷ xs) zero x d lt e = ap f (sym e)
get_or-map f (y ∷ xs) (suc k) x d lt e = get_or-map f xs k x d (omega arith) e

last_or_before : (k n : ℕ) → k < n + 1 → (k < n) ⊎ (n ≡ k)
last_or_before k n lt = grind arith

-- the labels of one more instruction are right
pub right_more : (ops : List Op) (place : ℕ) (op : Op) → place < length ops → op ≡ get_or ops place op → AllRight (map instruction_of ops) place → LabelsRight (map instruction_of ops) place (instruction_of op) → AllRight (map instruction_of ops) (place + 1)
right_more ops place op lt e h one k d below =
    ⊎_elim (λ before. h k d before)
    (λ same. subst (λ n. LabelsRight (map instruction_of ops) n (slice_index_or (map instruction_of ops) n d)) same
    (subst (λ i. LabelsRight (map instruction_of ops) place i) (sym (get_or-map instruction_of ops place op d lt e)) one))
    (last_or_before k place below)

-- and one more is resolved
pub resolved_more : (ops : List Op) (place : ℕ) (op : Op) (old new : List Resolved) (to : ℕ) (step : Resolved) → place < length ops → op ≡ get_or ops place op → old ≡ map (resolved_in (map instruction_of ops)) (take place (map instruction_of ops)) → to ≡ target_of (map instruction_of ops) (instruction_of op) → step ≡ resolved to (instruction_of op) → new ≡ old ++ step ∷ [] → new ≡ map (resolved_in (map instruction_of ops)) (take (place + 1) (map instruction_of ops))
resolved_more ops place op old new to step lt e done here is more =
    let code = map instruction_of ops in
    let size : length code ≡ length ops = length-map ops instruction_of in
    let within : place < length code = omega arith in
    more ∙ ap (λ l. l ++ step ∷ []) done ∙ ap (λ n. map (resolved_in code) (take place code) ++ n ∷ []) (is ∙ ap (λ n. resolved n (instruction_of op)) here)
    ∙ sym (map-take_more (resolved_in code) code place (instruction_of op) within (sym (get_or-map instruction_of ops place op (instruction_of op) lt e)))

first_wrong : (ops : List Op) (place start : ℕ) (op : Op) (starts : List ℕ) (fault : WsFault) → place < length ops → op ≡ get_or ops place op → start ≡ slice_index starts place → AllRight (map instruction_of ops) place → LabelsWrong (map instruction_of ops) place start (instruction_of op) fault → FirstWrong (map instruction_of ops) starts fault
first_wrong ops place start op starts fault lt e at h wrong =
    let code = map instruction_of ops in
    let size : length code ≡ length ops = length-map ops instruction_of in
    record {
      place = place;
      instruction = instruction_of op;
      within = omega arith;
      there = get_or-map instruction_of ops place op (instruction_of op) lt e;
      before = h;
      wrong = subst (λ s. LabelsWrong code place s (instruction_of op) fault) at wrong;
    }

-- one that is wrong ends the walk
pub walk_refused : (ops : List Op) (place start : ℕ) (op : Op) (starts : List ℕ) (fault : WsFault) → place < length ops → op ≡ get_or ops place op → start ≡ slice_index starts place → AllRight (map instruction_of ops) place → LabelsWrong (map instruction_of ops) place start (instruction_of op) fault → WalkRefused (map instruction_of ops) starts fault
walk_refused ops place start op starts (BadForm at) lt e f h wrong = absurd wrong
walk_refused ops place start op starts (NumberRange at) lt e f h wrong = absurd wrong
walk_refused ops place start op starts (DuplicateLabel at) lt e f h wrong = first_wrong ops place start op starts (DuplicateLabel at) lt e f h wrong
walk_refused ops place start op starts (UnknownLabel at) lt e f h wrong = first_wrong ops place start op starts (UnknownLabel at) lt e f h wrong
walk_refused ops place start op starts Memory lt e f h wrong = tt
