-- Blocks that are entered, and functions that are called.
use Rattle.std.proofs.Common.{◌≡◌, ℕ, zero, suc, ◌-◌, ◌≤◌, List, [], ◌∷◌, ◌++◌, Option, Some, length, take, map, replicate, refl, sym, ap, ◌∙◌, subst, append_assoc, arith}
use Rattle.std.proofs.Common.{length-append}
use Rattle.std.proofs.Math.Seq.{take-append_seam}
use Rattle.std.proofs.lemmas.List.{map-append, length-map}
use Rattle.std.specs.Prelude.{slice_get}
use Rattle.c_eval.specs.State as run
use Rattle.c_eval.specs.State.{State, Run}
use Rattle.c_eval.specs.Run.{◌>>=◌, after, give, objects_now, with_objects}
use Rattle.c_eval.specs.Memory as memory
use Rattle.c_eval.specs.Meaning.{argument_objects}
use Rattle.c_code.specs.Machine as code
use Rattle.c_code.specs.Machine.{Control, step_of}
use Rattle.c_rule.specs.Stepping.{Store, fresh}
use Rattle.c_store.specs.Values.{Value, Missing, Unset, Holds}
use Rattle.c_resolved.specs.Same.{Tables, unset, holds, SameCells, no_cell, more_cells, SameValues, no_value, more_values, SameBlock, no_block, more_block, lengths_of}
use Rattle.c_resolved.proofs.Likeness.{stays}
use Rattle.c_resolved.proofs.Blocks.{blocks_show}
use Rattle.c_plain.specs.Machine as machine
use Rattle.c_plain.specs.Machine.{Machine, Step, quiet, fault}
use Rattle.c_plain.specs.Rule.{entered_block}
use Rattle.c_plain.specs.Calls as calls
use Rattle.c_plain.specs.Calls.{pointers_from}
use Rattle.c_tracks.specs.Tracks.{TracksAt, Follows, goes, without, pointing, SameSlots, no_slot, more_slots, Stands, alone, in_block, in_loop, in_switch, in_call}

-- ---- more objects

pub values_more : (t : Tables) (lengths more : List ℕ) → {vs : List run.Value} → {ws : List Value} → SameValues t lengths vs ws → SameValues t (lengths ++ more) vs ws
values_more t lengths more no_value = no_value
values_more t lengths more (more_values s rest) = more_values (stays t lengths more s) (values_more t lengths more rest)

pub get_front : (xs ys : List ℕ) (k x : ℕ) → slice_get xs k ≡ Some x → slice_get (xs ++ ys) k ≡ Some x
get_front [] ys k x e = cc
get_front (y ∷ xs) ys zero x e = e
get_front (y ∷ xs) ys (suc k) x e = get_front xs ys k x e

pub slots_more : (lengths more : List ℕ) → {ss : List (Option ℕ)} → {vs : List Value} → SameSlots lengths ss vs → SameSlots (lengths ++ more) ss vs
slots_more lengths more no_slot = no_slot
slots_more lengths more (more_slots without rest) = more_slots without (slots_more lengths more rest)
slots_more lengths more (more_slots (pointing o n e) rest) = more_slots (pointing o n (get_front lengths more o n e)) (slots_more lengths more rest)

pub stands_more : (t : Tables) (lengths more : List ℕ) → {slots : List (Option ℕ)} → {opened : List code.Open} → {frames : List code.Frame} → {values below : List Value} → {os : List machine.Open} → Stands t lengths slots opened frames values below os
    → Stands t (lengths ++ more) slots opened frames values below os
stands_more t lengths more alone = alone
stands_more t lengths more (in_block n k e h rest) = in_block n k e h (stands_more t lengths more rest)
stands_more t lengths more (in_loop again past rest) = in_loop again past (stands_more t lengths more rest)
stands_more t lengths more (in_switch past rest) = in_switch past (stands_more t lengths more rest)
stands_more t lengths more (in_call f rest own same slots_same stands) = in_call f rest own (values_more t lengths more same) (slots_more lengths more slots_same) (stands_more t lengths more stands)

slots_append : (lengths : List ℕ) → {ss : List (Option ℕ)} → {vs : List Value} → SameSlots lengths ss vs → {rs : List (Option ℕ)} → {ws : List Value} → SameSlots lengths rs ws → SameSlots lengths (ss ++ rs) (vs ++ ws)
slots_append lengths no_slot others = others
slots_append lengths (more_slots s rest) others = more_slots s (slots_append lengths rest others)

slots_count : (lengths : List ℕ) → {ss : List (Option ℕ)} → {vs : List Value} → SameSlots lengths ss vs → length ss ≡ length vs
slots_count lengths no_slot = refl
slots_count lengths (more_slots s rest) = ap suc (slots_count lengths rest)

get_seam : (front rest : List ℕ) (n : ℕ) → slice_get (front ++ n ∷ rest) (length front) ≡ Some n
get_seam [] rest n = refl
get_seam (x ∷ front) rest n = get_seam front rest n

length_push : (front : List ℕ) (n : ℕ) → length (front ++ n ∷ []) ≡ suc (length front)
length_push [] n = refl
length_push (x ∷ front) n = ap suc (length_push front n)

new_slots : (front more : List ℕ) → SameSlots (front ++ more) (code.numbered (length front) (length more)) (pointers_from (length front) more)
new_slots front [] = no_slot
new_slots front (n ∷ more) =
    more_slots (pointing (length front) n (get_seam front more n))
    (subst (λ (k : ℕ). SameSlots (front ++ n ∷ more) (code.numbered k (length more)) (pointers_from k more)) (length_push front n)
    (subst (λ (ls : List ℕ). SameSlots ls (code.numbered (length (front ++ n ∷ [])) (length more)) (pointers_from (length (front ++ n ∷ [])) more)) (append_assoc front (n ∷ []) more) (new_slots (front ++ n ∷ []) more)))

-- ---- blocks

abbrev unset_cells : List ℕ → List (List run.Cell)
unset_cells lengths = map (λ n. replicate n run.Unset) lengths

unset_length : (n : ℕ) → length (replicate n run.Unset) ≡ n
unset_length zero = refl
unset_length (suc n) = ap suc (unset_length n)

unset_lengths : (more : List ℕ) → lengths_of (map memory.live_object (unset_cells more)) ≡ more
unset_lengths [] = refl
unset_lengths (n ∷ more) = ap (λ (k : ℕ). k ∷ lengths_of (map memory.live_object (unset_cells more))) (unset_length n) ∙ ap (λ (ls : List ℕ). n ∷ ls) (unset_lengths more)

unset_same : (t : Tables) (lengths : List ℕ) (n : ℕ) → SameCells t lengths (replicate n run.Unset) (replicate n Unset)
unset_same t lengths zero = no_cell
unset_same t lengths (suc n) = more_cells unset (unset_same t lengths n)

unset_block : (t : Tables) (lengths more : List ℕ) → SameBlock t lengths (unset_cells more) (map (λ n. replicate n Unset) more)
unset_block t lengths [] = no_block
unset_block t lengths (n ∷ more) = more_block (unset_same t lengths n) (unset_block t lengths more)

pub grown : (os : List run.Object) (new : List (List run.Cell)) (more : List ℕ) → lengths_of (map memory.live_object new) ≡ more → lengths_of (os ++ map memory.live_object new) ≡ lengths_of os ++ more
grown os new more e = map-append (λ (o : run.Object). length o.cells) os (map memory.live_object new) ∙ ap (λ (ls : List ℕ). lengths_of os ++ ls) e

pub enters : {base : List ℕ} → (t : Tables) (c : Control) (s : Store) (m : Machine) → TracksAt base t c s m → (more : List ℕ) → Follows base t (after (memory.enter (unset_cells more) (fresh s)) (λ o. give (code.in_new_block c o (length more)))) (quiet (entered_block m more))
unfolding memory.enter objects_now with_objects ◌>>=◌ after give
enters t c s m tracks more =
    let os = s.objects in
    let ls : lengths_of (os ++ map memory.live_object (unset_cells more)) ≡ lengths_of os ++ more = grown os (unset_cells more) more (unset_lengths more) in
    let count : length (lengths_of os) ≡ length os = length-map os (λ (o : run.Object). length o.cells) in
    let next : m.memory.next ≡ length os = tracks.memory.next in
    let size : length c.slots ≡ length m.slots.mine = slots_count (lengths_of os) tracks.slots in
    let kept : c.slots ≡ take (length m.slots.mine) (c.slots ++ code.numbered (length os) (length more)) =
    sym (ap (λ (n : ℕ). take n (c.slots ++ code.numbered (length os) (length more))) (sym size) ∙ take-append_seam c.slots (code.numbered (length os) (length more)))
    in
    let within : length m.slots.mine ≤ length (c.slots ++ code.numbered (length os) (length more)) = omega (arith, length-append c.slots (code.numbered (length os) (length more))) in
    let fresh_slots : SameSlots (lengths_of os ++ more) (code.numbered (length os) (length more)) (pointers_from m.memory.next more) =
    subst (λ (k : ℕ). SameSlots (lengths_of os ++ more) (code.numbered (length os) (length more)) (pointers_from k more)) (sym next)
    (subst (λ (k : ℕ). SameSlots (lengths_of os ++ more) (code.numbered k (length more)) (pointers_from k more)) count (new_slots (lengths_of os) more))
    in
    goes
    (record {
      at = ap suc tracks.at;
      values = subst (λ (ns : List ℕ). SameValues t ns c.stack m.values.mine) (sym ls) (values_more t (lengths_of os) more tracks.values);
      slots =
          subst (λ (ns : List ℕ). SameSlots ns (c.slots ++ code.numbered (length os) (length more)) (m.slots.mine ++ pointers_from m.memory.next more)) (sym ls) (slots_append (lengths_of os ++ more) (slots_more (lengths_of os) more tracks.slots) fresh_slots);
      opened =
          subst (λ (ns : List ℕ). Stands t ns (c.slots ++ code.numbered (length os) (length more)) (code.Block (length os) c.slots ∷ c.opened) c.frames m.values.below m.slots.below (machine.Block m.memory.next (length m.slots.mine) ∷ m.opened)) (sym ls)
          (subst (λ (k : ℕ). Stands t (lengths_of os ++ more) (c.slots ++ code.numbered (length os) (length more)) (code.Block (length os) c.slots ∷ c.opened) c.frames m.values.below m.slots.below (machine.Block k (length m.slots.mine) ∷ m.opened)) (sym next)
          (in_block (length os) (length m.slots.mine) kept within (stands_more t (lengths_of os) more tracks.opened)));
      memory = blocks_show t os m.memory (unset_cells more) (map (λ n. replicate n Unset) more) tracks.memory (unset_block t (lengths_of (os ++ map memory.live_object (unset_cells more))) more);
      files = record { first = λ o n e. ap (λ (ns : List ℕ). slice_get ns o) ls ∙ get_front (lengths_of os) more o n (tracks.files.first o n e) };
      left = tracks.left;
      charge = tracks.charge;
    })
    refl

-- ---- calls

pub argument_lengths : (t : Tables) (lengths : List ℕ) (names : List (List ℕ)) → {vs : List run.Value} → {ws : List Value} → SameValues t lengths vs ws → lengths_of (map memory.live_object (argument_objects names vs)) ≡ map (λ w. 1) (take (length names) ws)
argument_lengths t lengths [] same = refl
argument_lengths t lengths (x ∷ names) no_value = refl
argument_lengths t lengths (x ∷ names) (more_values s rest) = ap (λ (ls : List ℕ). 1 ∷ ls) (argument_lengths t lengths names rest)

pub argument_block : (t : Tables) (lengths : List ℕ) (names : List (List ℕ)) → {vs : List run.Value} → {ws : List Value} → SameValues t lengths vs ws → SameBlock t lengths (argument_objects names vs) (map (λ w. Holds w ∷ []) (take (length names) ws))
argument_block t lengths [] same = no_block
argument_block t lengths (x ∷ names) no_value = no_block
argument_block t lengths (x ∷ names) (more_values s rest) = more_block (more_cells (holds s) no_cell) (argument_block t lengths names rest)

missing_slots : (lengths : List ℕ) (names : List (List ℕ)) (n : ℕ) → SameSlots lengths (code.argument_slots names [] n) (replicate (length names) Missing)
missing_slots lengths [] n = no_slot
missing_slots lengths (x ∷ names) n = more_slots without (missing_slots lengths names n)

pub argument_slots_same : (t : Tables) (lengths : List ℕ) (names : List (List ℕ)) → {vs : List run.Value} → {ws : List Value} → SameValues t lengths vs ws → (front : List ℕ)
    → SameSlots (front ++ map (λ w. 1) (take (length names) ws)) (code.argument_slots names vs (length front)) (calls.argument_slots (length front) (length names) ws)
argument_slots_same t lengths [] {vs} {ws} same front =
    let none : 0 - length ws ≡ 0 = omega arith in
    subst (λ (k : ℕ). SameSlots (front ++ []) [] (replicate k Missing)) (sym none) no_slot
argument_slots_same t lengths (x ∷ names) no_value front =
    let all : suc (length names) - 0 ≡ suc (length names) = omega arith in
    subst (λ (k : ℕ). SameSlots (front ++ []) (code.argument_slots (x ∷ names) [] (length front)) (replicate k Missing)) (sym all) (missing_slots (front ++ []) (x ∷ names) (length front))
argument_slots_same t lengths (x ∷ names) (more_values {v} {w} {vs} {ws} s rest) front =
    let fewer : suc (length names) - suc (length ws) ≡ length names - length ws = omega arith in
    let more = map (λ (u : Value). 1) (take (length names) ws) in
    more_slots (pointing (length front) 1 (get_seam front more 1))
    (subst (λ (k : ℕ). SameSlots (front ++ 1 ∷ more) (code.argument_slots names vs (suc (length front))) (pointers_from (suc (length front)) more ++ replicate k Missing)) (sym fewer)
    (subst (λ (n : ℕ). SameSlots (front ++ 1 ∷ more) (code.argument_slots names vs n) (pointers_from n more ++ replicate (length names - length ws) Missing)) (length_push front 1)
    (subst (λ (ls : List ℕ). SameSlots ls (code.argument_slots names vs (length (front ++ 1 ∷ []))) (calls.argument_slots (length (front ++ 1 ∷ [])) (length names) ws)) (append_assoc front (1 ∷ []) more) (argument_slots_same t lengths names rest (front ++ 1 ∷ [])))))
