-- A use of the function of a compound assignment is the assignment.
use Rattle.std.proofs.Common.{◌≡◌, ℕ, suc, ◌+◌, ◌-◌, ◌^◌, ◌<◌, ◌≤◌, List, [], ◌∷◌, ◌++◌, Option, Some, None, Bool, true, false, slice_get, slice_set, refl, ap, ap₂, ◌∙◌, subst, arith}
use Rattle.std.specs.Prelude.{◌&&◌, ◌||◌, codes}
use Rattle.std.specs.Str.{bytes_eq}
use Rattle.std.proofs.lemmas.Bool.{le-leb, lt-ltb}
use Rattle.c_syntax.specs.Words.{meaning}
use Rattle.c_syntax.specs.declared.tree.BinOp.{BinOp}
use Rattle.c_types.specs.Types as type
use Rattle.c_types.specs.Types.{CType, types, is_pointer, is_null, Tags}
use Rattle.c_types.specs.Room.{Kind}
use Rattle.c_types.specs.Scope as entity
use Rattle.c_types.specs.Scope.{Names}
use Rattle.c_eval.specs.State.{Value, Word, Null, Point, Letter, Function, Missing, Cell, Unset, Holds, Object, State, Act, OtherKind, OutsideObject, UnsetCell, LiteralWrite, Gives, Undefined, Run}
use Rattle.c_eval.specs.Run.{unless, give, undefined, ◌>>=◌, after, objects_now, with_objects}
use Rattle.c_eval.specs.Memory.{Number, is_of, live_cells, cell_in, cell_at, read_cell, load, with_cell, put_cell, write_cell, store}
use Rattle.c_eval.specs.Operators.{used, of_word, on_words, pointer_to, value_at, pointed_value}
use Rattle.c_eval.specs.Text.{Definition, Text}
use Rattle.c_eval.specs.Helpers.{Helpers, leaving, behind_use, helped, helper_runs, helper_calls, use_depth, helps_to}
use Rattle.c_helpers.specs.Functions.{p, b, compound}
use Rattle.c_helpers.specs.Meanings as means
use Rattle.c_helpers.specs.Meanings.{of_two, counting, updating}
use Rattle.c_apart.proofs.Apart.{Done, Part, p_computed, p_after, p_bind, p_give, p_stuck, p_choose, p_given, p_outer, p_named, p_read, p_load, p_own_value, p_assigned, p_variable, p_used, p_unary, p_cast, p_assignment, p_call, p_go_on, p_within, p_enter, p_leave, p_returned, p_result, p_function}
use Rattle.c_apart.proofs.Uses.{Apart, call_apart, use_of, use_gives, use_undefined}
use Rattle.c_products.specs.Found.{IsWordValue}
use Rattle.c_products.proofs.Nested.{OnWords, p_on_words, within_depth, on_words_nested}
use Rattle.c_products.proofs.IntQuotient.{p_one, one_nested}
use Rattle.c_products.specs.CompoundsLaws.{compound_definition, Compounds, PointsToWord}

-- the objects with a word at a place
abbrev written : State → (o k z : ℕ) → List Object
written st o k z = slice_set st.objects o (with_cell (slice_get st.objects o) k (Word z))

assigned_runs : (sign : List ℕ) (kind : Kind) (tags : Tags) (names : Names) (defined : List (List ℕ)) (deep o k x y words : ℕ) (ok : ℕ → ℕ → Bool) (cost : ℕ → ℕ → ℕ) (f : ℕ → ℕ → ℕ) (st : State) (u v w : CType) (begun : Bool)
    → meaning names sign ≡ Some (entity.Routine (type.Function u (types (v ∷ w ∷ []))) begun) → (is_pointer v || is_null v) ≡ false → (is_pointer w || is_null w) ≡ false
    → cell_in (live_cells (slice_get st.objects o)) k ≡ Some (Holds (Word x)) → bytes_eq sign sign ≡ true → bytes_eq sign b ≡ false → bytes_eq sign p ≡ false
    → ok x y ≡ true → suc (cost x y) ≤ st.spare → st.words + words ≤ 1024
    → p_function (compound_definition (compound sign kind) tags names defined) deep (p_one sign (p_on_words ok cost words f)) (Point o k ∷ Word y ∷ []) st []
    ≡ Done (Word (f x y)) (record st { spare = st.spare - suc (cost x y); objects = written st o k (f x y) }) (record { live = false; cells = Holds (Point o k) ∷ [] } ∷ record { live = false; cells = Holds (Word y) ∷ [] } ∷ [])
unfolding p_one p_on_words p_computed p_after p_bind p_give p_stuck p_choose p_given p_outer p_named p_read p_load p_own_value p_assigned p_variable p_used p_unary p_cast p_assignment p_call p_go_on p_within p_enter p_leave p_returned p_result p_function used give unless pointer_to value_at pointed_value load read_cell store write_cell put_cell objects_now with_objects ◌>>=◌ after
assigned_runs sign kind tags names defined deep o k x y words ok cost f st u v w begun e ev ew c same other other' good le small =
    rw (other, other', e, c, ev, ew, same, good, le-leb (suc (cost x y)) st.spare le, le-leb (st.words + words) 1024 small, c) refl

-- ---- what the assignment does

module _ (op : BinOp) (unsigned : Bool) where
  abbrev action : List Value → Run Value
  action = means.compound op unsigned

  -- behind the read and the operator comes the write
  writes : (P : Value) (st : State) (x y z : ℕ) → cell_at st.objects P ≡ Some (Holds (Word x)) → on_words op (counting unsigned) (counting unsigned) (Word x) (Word y) st ≡ Gives (Word z) st
      → action (P ∷ Word y ∷ []) st ≡ write_cell Number (Some (Holds (Word x))) st.objects P (Word z) st
  unfolding of_two updating ◌>>=◌ after load read_cell unless give objects_now store
  writes P st x y z c g = rw (c, g, c) refl

  fails_at : (P : Value) (st : State) (x : ℕ) (y : Value) (act : Act) → cell_at st.objects P ≡ Some (Holds (Word x)) → on_words op (counting unsigned) (counting unsigned) (Word x) y st ≡ Undefined act st
      → action (P ∷ y ∷ []) st ≡ Undefined act st
  unfolding of_two updating ◌>>=◌ after load read_cell unless give objects_now
  fails_at P st x y act c g = rw (c, g) refl

  nowhere : (P y : Value) (st : State) → cell_at st.objects P ≡ None → action (P ∷ y ∷ []) st ≡ Undefined OutsideObject st
  unfolding of_two updating ◌>>=◌ after load read_cell undefined objects_now
  nowhere P y st c = rw c refl

  unset : (P y : Value) (st : State) → cell_at st.objects P ≡ Some Unset → action (P ∷ y ∷ []) st ≡ Undefined UnsetCell st
  unfolding of_two updating ◌>>=◌ after load read_cell undefined objects_now
  unset P y st c = rw c refl

  no_number : (P y w : Value) (st : State) → cell_at st.objects P ≡ Some (Holds w) → is_of Number w ≡ false → action (P ∷ y ∷ []) st ≡ Undefined OtherKind st
  unfolding of_two updating ◌>>=◌ after load read_cell unless undefined objects_now
  no_number P y w st c e = rw (c, e) refl

-- ---- the use

module _ (h : Helpers) (t : Text) (input : List ℕ) (sign : List ℕ) (kind : Kind) (op : BinOp) (unsigned : Bool)
    (ok : ℕ → ℕ → Bool) (units : ℕ → ℕ → ℕ) (most words : ℕ) (f : ℕ → ℕ → ℕ) (o : OnWords h t input sign ok units most words f) (unknown : h.known sign ≡ None) (enough : most < h.ration) (small : words + 16 ≤ 1024)
    (same : bytes_eq sign sign ≡ true) (not_b : bytes_eq sign b ≡ false) (not_p : bytes_eq sign p ≡ false)
    (gives : (x y : ℕ) → x < 2 ^ 24 → y < 2 ^ 24 → ok x y ≡ true → (st : State) → on_words op (counting unsigned) (counting unsigned) (Word x) (Word y) st ≡ Gives (Word (f x y)) st)
    (fails : (x y : ℕ) → x < 2 ^ 24 → y < 2 ^ 24 → ok x y ≡ false → (st : State) → (act : Act) × (on_words op (counting unsigned) (counting unsigned) (Word x) (Word y) st ≡ Undefined act st))
    (c : Compounds h t sign kind) where
  abbrev name : List ℕ
  name = sign ++ codes "="

  abbrev definition : Definition
  definition = compound_definition (compound sign kind) c.tags c.names c.defined

  undefined_use : (P y : Value) (st st1 : State) (act : Act) → action op unsigned (P ∷ y ∷ []) st ≡ Undefined act st1 → helps_to h t input name (action op unsigned) (P ∷ y ∷ []) st ≡ action op unsigned (P ∷ y ∷ []) st
  undefined_use P y st st1 act e = use_undefined h t input name (P ∷ y ∷ []) (action op unsigned) st st1 act e

  put_at : (i k z x : ℕ) (st : State) → write_cell Number (Some (Holds (Word x))) st.objects (Point i k) (Word z) st ≡ Gives (Word z) (record st { objects = written st i k z })
  unfolding write_cell unless put_cell with_objects ◌>>=◌ after give
  put_at i k z x st = refl

  put_letter : (owner : Option (List ℕ)) (i : ℕ) (text : List ℕ) (k z x : ℕ) (st : State) → write_cell Number (Some (Holds (Word x))) st.objects (Letter owner i text k) (Word z) st ≡ Undefined LiteralWrite st
  unfolding write_cell unless put_cell undefined
  put_letter owner i text k z x st = refl

  use_is : (i k x y : ℕ) (st : State) → cell_at st.objects (Point i k) ≡ Some (Holds (Word x)) → ok x y ≡ true → use_of h t input name (Point i k ∷ Word y ∷ []) st ≡ Gives (Word (f x y)) (record st { objects = written st i k (f x y) })
  unfolding helped leaving
  use_is i k x y st cell good =
      ap (leaving (behind_use st)) (ap (λ z. helper_runs h t input (helper_calls deep h t input) deep name z (Point i k ∷ Word y ∷ []) st0) c.found ∙ subst (λ z. Apart z 0 (helper_runs h t input (helper_calls deep h t input) deep name (Some definition) (Point i k ∷ Word y ∷ []) st0)) runs apart)
    where
      deep : ℕ
      deep = use_depth h.ration st.left

      st0 : State
      st0 = record st { spare = h.ration; words = 0 }

      sub : List ℕ → List Value → Part Value
      sub = p_one sign (p_on_words (within_depth ok units deep) units words f)

      below : suc (units x y) < deep
      below = let le : units x y ≤ most = o.bounded x y in omega (arith, le, enough)

      apart : Apart (p_function definition deep sub (Point i k ∷ Word y ∷ []) (record st0 { words = 0 + h.charge name }) []) 0 (helper_runs h t input (helper_calls deep h t input) deep name (Some definition) (Point i k ∷ Word y ∷ []) st0)
      apart = call_apart h t input deep (helper_calls deep h t input) sub name definition (Point i k ∷ Word y ∷ []) st0 (λ g us. one_nested _ sign _ (helper_calls deep h t input) (on_words_nested h t input sign ok units most words f o unknown deep _) g us) (omega (arith, c.charge))

      runs : p_function definition deep sub (Point i k ∷ Word y ∷ []) (record st0 { words = 0 + h.charge name }) [] ≡ Done (Word (f x y)) (record st0 { words = 0 + h.charge name; spare = h.ration - suc (units x y); objects = written st i k (f x y) }) (record { live = false; cells = Holds (Point i k) ∷ [] } ∷ record { live = false; cells = Holds (Word y) ∷ [] } ∷ [])
      runs = let le : units x y ≤ most = o.bounded x y in
          assigned_runs sign kind c.tags c.names c.defined deep i k x y words (within_depth ok units deep) units f (record st0 { words = 0 + h.charge name }) c.result c.first c.second c.begun c.known c.first_number c.second_number cell same not_b not_p (ap₂ (λ a b. a && b) good (lt-ltb (suc (units x y)) deep below)) (omega (arith, le, enough)) (omega (arith, small, c.charge))

  -- a word lies there
  on_cell : (P : Value) (x y : ℕ) (st : State) → cell_at st.objects P ≡ Some (Holds (Word x)) → x < 2 ^ 24 → y < 2 ^ 24 → (g : Bool) → ok x y ≡ g → helps_to h t input name (action op unsigned) (P ∷ Word y ∷ []) st ≡ action op unsigned (P ∷ Word y ∷ []) st
  on_cell P x y st cell sx sy false e = let r = fails x y sx sy e st in undefined_use P (Word y) st st r.0 (fails_at op unsigned P st x (Word y) r.0 cell r.1)
  on_cell (Point i k) x y st cell sx sy true e = use_gives h t input name (Point i k ∷ Word y ∷ []) (action op unsigned) st (record st { objects = written st i k (f x y) }) (Word (f x y)) (writes op unsigned (Point i k) st x y (f x y) cell (gives x y sx sy e st) ∙ put_at i k (f x y) x st) (use_is i k x y st cell e)
  on_cell (Letter owner i text k) x y st cell sx sy true e = undefined_use (Letter owner i text k) (Word y) st st LiteralWrite (writes op unsigned (Letter owner i text k) st x y (f x y) cell (gives x y sx sy e st) ∙ put_letter owner i text k (f x y) x st)
  on_cell (Word v) x y st cell sx sy true e = absurd (cc (cell))
  on_cell Null x y st cell sx sy true e = absurd (cc (cell))
  on_cell (Function g) x y st cell sx sy true e = absurd (cc (cell))
  on_cell Missing x y st cell sx sy true e = absurd (cc (cell))

  on_value : (P y : Value) (x : ℕ) (st : State) → cell_at st.objects P ≡ Some (Holds (Word x)) → x < 2 ^ 24 → IsWordValue y → helps_to h t input name (action op unsigned) (P ∷ y ∷ []) st ≡ action op unsigned (P ∷ y ∷ []) st
  unfolding on_words of_word undefined
  on_value P (Word y) x st cell sx sy = on_cell P x y st cell sx sy (ok x y) refl
  on_value P Null x st cell sx w = undefined_use P Null st st OtherKind (fails_at op unsigned P st x Null OtherKind cell refl)
  on_value P (Point i k) x st cell sx w = undefined_use P (Point i k) st st OtherKind (fails_at op unsigned P st x (Point i k) OtherKind cell refl)
  on_value P (Letter owner i text k) x st cell sx w = undefined_use P (Letter owner i text k) st st OtherKind (fails_at op unsigned P st x (Letter owner i text k) OtherKind cell refl)
  on_value P (Function g) x st cell sx w = undefined_use P (Function g) st st OtherKind (fails_at op unsigned P st x (Function g) OtherKind cell refl)
  on_value P Missing x st cell sx w = undefined_use P Missing st st OtherKind (fails_at op unsigned P st x Missing OtherKind cell refl)

  on_any : (P y : Value) (st : State) → IsWordValue y → PointsToWord st P → (z : Option Cell) → cell_at st.objects P ≡ z → helps_to h t input name (action op unsigned) (P ∷ y ∷ []) st ≡ action op unsigned (P ∷ y ∷ []) st
  on_any P y st w points None e = undefined_use P y st st OutsideObject (nowhere op unsigned P y st e)
  on_any P y st w points (Some Unset) e = undefined_use P y st st UnsetCell (unset op unsigned P y st e)
  on_any P y st w points (Some (Holds (Word x))) e = on_value P y x st e (points x e) w
  on_any P y st w points (Some (Holds Null)) e = undefined_use P y st st OtherKind (no_number op unsigned P y Null st e refl)
  on_any P y st w points (Some (Holds (Point i k))) e = undefined_use P y st st OtherKind (no_number op unsigned P y (Point i k) st e refl)
  on_any P y st w points (Some (Holds (Letter owner i text k))) e = undefined_use P y st st OtherKind (no_number op unsigned P y (Letter owner i text k) st e refl)
  on_any P y st w points (Some (Holds (Function g))) e = undefined_use P y st st OtherKind (no_number op unsigned P y (Function g) st e refl)
  on_any P y st w points (Some (Holds Missing)) e = undefined_use P y st st OtherKind (no_number op unsigned P y Missing st e refl)

  pub assignment_helped : (P y : Value) (st : State) → IsWordValue y → PointsToWord st P → helps_to h t input name (action op unsigned) (P ∷ y ∷ []) st ≡ action op unsigned (P ∷ y ∷ []) st
  assignment_helped P y st w points = on_any P y st w points (cell_at st.objects P) refl
