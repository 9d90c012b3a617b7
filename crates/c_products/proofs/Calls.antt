-- Helper functions that call that of sums.
use Rattle.std.proofs.Common.{◌≡◌, ℕ, ◌-◌, List, [], ◌∷◌, Option, Some, Bool, true, false, slice_get, slice_set, refl}
use Rattle.std.specs.Prelude.{pos, ◌*ℤ◌, unsigned_abs}
use Rattle.word24.specs.Word.{signed_of}
use Rattle.c_syntax.specs.Words.{meaning}
use Rattle.c_types.specs.Types as type
use Rattle.c_types.specs.Types.{CType, Tags, types}
use Rattle.c_types.specs.Scope.{Names, Routine}
use Rattle.c_eval.specs.State.{Value, Word, Point, Letter, Holds, Object, State}
use Rattle.c_eval.specs.Run.{unless, give, ◌>>=◌, after, objects_now, with_objects}
use Rattle.c_eval.specs.Memory.{is_within, offset_by, extent_of, at_offset, moved, live_cells, cell_in, read_cell, load, with_cell, put_cell, write_cell, store}
use Rattle.c_eval.specs.Operators.{used, of_word, sum, operated, pointer_sum, pointer_to, value_at, pointed_value}
use Rattle.c_helpers.specs.Functions.{pointer_step}
use Rattle.c_apart.proofs.Apart.{Done, Part, p_after, p_bind, p_give, p_stuck, p_choose, p_given, p_outer, p_named, p_read, p_load, p_put, p_write, p_store, p_own_value, p_assigned, p_variable, p_used, p_unary, p_operated, p_combined, p_cast, p_assignment, p_call, p_first, p_go_on, p_within, p_enter, p_leave, p_returned, p_result, p_function}
use Rattle.c_products.proofs.IntQuotient.{p_one}
use Rattle.c_products.specs.MovesFound.{definition, number_type, sum_name, sum_parameters, swapped_function, swapped_parameters, moving_function, step_parameters}
use Rattle.c_products.proofs.Sums.{gone}
use Rattle.c_products.proofs.Uses.{sum_of, may_sum, p_sum, p_summed}

-- the entity of the function of sums
abbrev pub KnownSum : Bool → Names → Type 0
KnownSum unsigned names = (begun : Bool) × (meaning names (sum_name unsigned) ≡ Some (Routine (type.Function (type.Pointer type.Void) (types (type.Pointer type.Void ∷ number_type unsigned ∷ type.Int ∷ []))) begun))

-- the number before the pointer
pub swapped_point_runs : (unsigned : Bool) (tags : Tags) (names : Names) (defined : List (List ℕ)) (deep o i x k : ℕ) (st : State) → (known : KnownSum unsigned names) → may_sum deep st (Point o i) x k ≡ true
    → p_function (definition (type.Pointer type.Void) (swapped_parameters unsigned) (swapped_function unsigned) tags names defined) deep (p_one (sum_name unsigned) (p_summed deep)) (Word x ∷ Point o i ∷ Word k ∷ []) st []
    ≡ Done (sum_of (Point o i) x k) (record st { spare = st.spare - 26 }) (gone (Word x) ∷ gone (Point o i) ∷ gone (Word k) ∷ [])
unfolding p_one p_summed p_sum p_after p_bind p_give p_stuck p_choose p_given p_outer p_named p_read p_load p_own_value p_variable p_used p_call p_go_on p_within p_enter p_leave p_returned p_result p_function used give unless
swapped_point_runs false tags names defined deep o i x k st known good = rw (known.1, good) refl
swapped_point_runs true tags names defined deep o i x k st known good = rw (known.1, good) refl

pub swapped_letter_runs : (unsigned : Bool) (tags : Tags) (names : Names) (defined : List (List ℕ)) (deep : ℕ) (f : Option (List ℕ)) (j : ℕ) (text : List ℕ) (i x k : ℕ) (st : State) → (known : KnownSum unsigned names) → may_sum deep st (Letter f j text i) x k ≡ true
    → p_function (definition (type.Pointer type.Void) (swapped_parameters unsigned) (swapped_function unsigned) tags names defined) deep (p_one (sum_name unsigned) (p_summed deep)) (Word x ∷ Letter f j text i ∷ Word k ∷ []) st []
    ≡ Done (sum_of (Letter f j text i) x k) (record st { spare = st.spare - 26 }) (gone (Word x) ∷ gone (Letter f j text i) ∷ gone (Word k) ∷ [])
unfolding p_one p_summed p_sum p_after p_bind p_give p_stuck p_choose p_given p_outer p_named p_read p_load p_own_value p_variable p_used p_call p_go_on p_within p_enter p_leave p_returned p_result p_function used give unless
swapped_letter_runs false tags names defined deep f j text i x k st known good = rw (known.1, good) refl
swapped_letter_runs true tags names defined deep f j text i x k st known good = rw (known.1, good) refl

-- ---- a pointer in memory

-- the objects with a value at a place
abbrev pub written : State → (o i : ℕ) → Value → List Object
written st o i v = slice_set st.objects o (with_cell (slice_get st.objects o) i v)

pub moving_point_runs : (unsigned : Bool) (tags : Tags) (names : Names) (defined : List (List ℕ)) (deep o i b j x k : ℕ) (st : State) → (known : KnownSum unsigned names) → cell_in (live_cells (slice_get st.objects o)) i ≡ Some (Holds (Point b j)) → may_sum deep st (Point b j) x k ≡ true
    → p_function (definition (type.Pointer type.Void) (sum_parameters unsigned) (moving_function unsigned) tags names defined) deep (p_one (sum_name unsigned) (p_summed deep)) (Point o i ∷ Word x ∷ Word k ∷ []) st []
    ≡ Done (sum_of (Point b j) x k) (record st { spare = st.spare - 26; objects = written st o i (sum_of (Point b j) x k) }) (gone (Point o i) ∷ gone (Word x) ∷ gone (Word k) ∷ [])
unfolding p_one p_summed p_sum p_after p_bind p_give p_stuck p_choose p_given p_outer p_named p_read p_load p_own_value p_assigned p_variable p_used p_unary p_cast p_assignment p_call p_go_on p_within p_enter p_leave p_returned p_result p_function used give unless pointer_to value_at pointed_value load read_cell store write_cell put_cell objects_now with_objects ◌>>=◌ after
moving_point_runs false tags names defined deep o i b j x k st known cell good = rw (known.1, cell, good, cell) refl
moving_point_runs true tags names defined deep o i b j x k st known cell good = rw (known.1, cell, good, cell) refl

pub moving_letter_runs : (unsigned : Bool) (tags : Tags) (names : Names) (defined : List (List ℕ)) (deep o i : ℕ) (f : Option (List ℕ)) (m : ℕ) (text : List ℕ) (j x k : ℕ) (st : State) → (known : KnownSum unsigned names) → cell_in (live_cells (slice_get st.objects o)) i ≡ Some (Holds (Letter f m text j)) → may_sum deep st (Letter f m text j) x k ≡ true
    → p_function (definition (type.Pointer type.Void) (sum_parameters unsigned) (moving_function unsigned) tags names defined) deep (p_one (sum_name unsigned) (p_summed deep)) (Point o i ∷ Word x ∷ Word k ∷ []) st []
    ≡ Done (sum_of (Letter f m text j) x k) (record st { spare = st.spare - 26; objects = written st o i (sum_of (Letter f m text j) x k) }) (gone (Point o i) ∷ gone (Word x) ∷ gone (Word k) ∷ [])
unfolding p_one p_summed p_sum p_after p_bind p_give p_stuck p_choose p_given p_outer p_named p_read p_load p_own_value p_assigned p_variable p_used p_unary p_cast p_assignment p_call p_go_on p_within p_enter p_leave p_returned p_result p_function used give unless pointer_to value_at pointed_value load read_cell store write_cell put_cell objects_now with_objects ◌>>=◌ after
moving_letter_runs false tags names defined deep o i f m text j x k st known cell good = rw (known.1, cell, good, cell) refl
moving_letter_runs true tags names defined deep o i f m text j x k st known cell good = rw (known.1, cell, good, cell) refl

-- ---- a step

abbrev pub steps_by : Value → ℕ → State → Bool
steps_by p k st = is_within (offset_by p (signed_of k *ℤ pos 1)) (extent_of st.objects p)

abbrev pub step_of : Value → ℕ → Value
step_of p k = at_offset p (unsigned_abs (offset_by p (signed_of k *ℤ pos 1)))

pub step_point_runs : (tags : Tags) (names : Names) (defined : List (List ℕ)) (deep o i b j k : ℕ) (sub : List ℕ → List Value → Part Value) (st : State) → cell_in (live_cells (slice_get st.objects o)) i ≡ Some (Holds (Point b j)) → steps_by (Point b j) k st ≡ true
    → p_function (definition (type.Pointer type.Void) step_parameters pointer_step tags names defined) deep sub (Point o i ∷ Word k ∷ []) st []
    ≡ Done (Point b j) (record st { objects = written st o i (step_of (Point b j) k) }) (gone (Point o i) ∷ gone (Word k) ∷ gone (Point b j) ∷ [])
unfolding p_after p_bind p_give p_stuck p_choose p_given p_outer p_named p_read p_load p_put p_write p_store p_own_value p_assigned p_variable p_used p_unary p_operated p_combined p_cast p_assignment p_call p_first p_go_on p_within p_enter p_leave p_returned p_result p_function used give unless of_word sum operated pointer_sum moved pointer_to value_at pointed_value load read_cell store write_cell put_cell objects_now with_objects ◌>>=◌ after
step_point_runs tags names defined deep o i b j k sub st cell inside = rw (cell, inside, cell) refl

pub step_letter_runs : (tags : Tags) (names : Names) (defined : List (List ℕ)) (deep o i : ℕ) (f : Option (List ℕ)) (m : ℕ) (text : List ℕ) (j k : ℕ) (sub : List ℕ → List Value → Part Value) (st : State) → cell_in (live_cells (slice_get st.objects o)) i ≡ Some (Holds (Letter f m text j)) → steps_by (Letter f m text j) k st ≡ true
    → p_function (definition (type.Pointer type.Void) step_parameters pointer_step tags names defined) deep sub (Point o i ∷ Word k ∷ []) st []
    ≡ Done (Letter f m text j) (record st { objects = written st o i (step_of (Letter f m text j) k) }) (gone (Point o i) ∷ gone (Word k) ∷ gone (Letter f m text j) ∷ [])
unfolding p_after p_bind p_give p_stuck p_choose p_given p_outer p_named p_read p_load p_put p_write p_store p_own_value p_assigned p_variable p_used p_unary p_operated p_combined p_cast p_assignment p_call p_first p_go_on p_within p_enter p_leave p_returned p_result p_function used give unless of_word sum operated pointer_sum moved pointer_to value_at pointed_value load read_cell store write_cell put_cell objects_now with_objects ◌>>=◌ after
step_letter_runs tags names defined deep o i f m text j k sub st cell inside = rw (cell, inside, cell) refl
