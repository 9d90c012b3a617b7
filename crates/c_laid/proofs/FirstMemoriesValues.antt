-- First values at file scope hold words, pointers to the starts of objects and of literals, and functions.
use Rattle.std.proofs.Common.{◌≡◌, ℕ, zero, suc, ◌+◌, ◌^◌, ◌<◌, Bool, true, false, List, [], ◌∷◌, ◌++◌, length, map, Option, Some, None, slice_get, refl, sym, ap, ◌∙◌, subst, cond, arith, replicate}
use Rattle.std.specs.Prelude.{◌-◌, ◌==◌, ◌||◌, if◌then◌else◌}
use Rattle.std.specs.Str.{bytes_eq}
use Rattle.c_syntax.specs.Plain as plain
use Rattle.c_syntax.specs.Plain.{CExpr, CValue, CValues}
use Rattle.c_syntax.specs.Words.{meaning}
use Rattle.c_syntax.specs.declared.tree.UnOp.TheVariants as unary
use Rattle.c_types.specs.Types as type
use Rattle.c_types.specs.Types.{CType, is_pointer, is_null}
use Rattle.c_types.specs.Scope.{Entity, Object, entity_of}
use Rattle.c_types.specs.Declarations.{Slots, first_slot, next_slots, slots_of, takes_string}
use Rattle.c_eval.specs.State.{Value, Word, Null, Point, Letter, Function, Missing, Cell, Unset, Holds}
use Rattle.c_eval.specs.Memory.{Kind, Number, ObjectPointer, FunctionPointer}
use Rattle.c_eval.specs.Operators.{as_pointer, converted}
use Rattle.c_eval.specs.LiteralsIn.{literals_in, value_literals, values_literals}
use Rattle.c_eval.specs.Environment.{Environment, type_or_nothing, slot_kinds, past_value}
use Rattle.c_eval.specs.Eval.{array_text}
use Rattle.c_eval.specs.Text.{static_pointer, static_named, static_value, zero_cells, static_cells, all_static_cells}
use Rattle.c_valid.proofs.Constants.{constant_in_below}
use Rattle.c_laid.proofs.Slices.{get_front, get_behind}
use Rattle.c_laid.proofs.First.{IsBelow, AreBelow}
use Rattle.c_laid.specs.Fits.{AreWords, AllAreWords}

module _ (texts : List (List ℕ)) (words : AllAreWords texts) (count : ℕ) where
  -- a word, null, the start of one of so many objects, that of a literal of file scope, or a function
  abbrev pub IsGood : Value → Type 0
  IsGood (Word n) = n < 2 ^ 24
  IsGood Null = Unit {0}
  IsGood (Point o k) = (o < count) × (k ≡ 0)
  IsGood (Letter f i text k) = (f ≡ None) × (slice_get texts i ≡ Some text) × (k ≡ 0)
  IsGood (Function name) = Unit {0}
  IsGood Missing = Unit {0}

  abbrev pub CellIsGood : Cell → Type 0
  CellIsGood Unset = Unit {0}
  CellIsGood (Holds v) = IsGood v

  abbrev pub CellsAreGood : List Cell → Type 0
  CellsAreGood [] = Unit {0}
  CellsAreGood (c ∷ cs) = CellIsGood c × CellsAreGood cs

  both_good : (xs ys : List Cell) → CellsAreGood xs → CellsAreGood ys → CellsAreGood (xs ++ ys)
  both_good [] ys a b = b
  both_good (x ∷ xs) ys a b = (a.0, both_good xs ys a.1 b)

  pub zeros_good : (kinds : List Kind) → CellsAreGood (zero_cells kinds)
  zeros_good [] = tt
  zeros_good (Number ∷ kinds) = (omega arith, zeros_good kinds)
  zeros_good (ObjectPointer ∷ kinds) = (tt, zeros_good kinds)
  zeros_good (FunctionPointer ∷ kinds) = (tt, zeros_good kinds)

  converted_good : (t : CType) (v : Value) → IsGood v → IsGood (converted t v)
  converted_good t v g = by (is_pointer t || is_null t)
    where
      pointer : (v : Value) → IsGood v → IsGood (as_pointer v)
      pointer (Word n) g = zero (n == 0)
        where
          zero : (b : Bool) → IsGood (if b then Null else Word n)
          zero true = tt
          zero false = g
      pointer Null g = tt
      pointer (Point o k) g = g
      pointer (Letter f i text k) g = g
      pointer (Function name) g = g
      pointer Missing g = tt

      by : (b : Bool) → IsGood (if b then as_pointer v else v)
      by true = pointer v g
      by false = g

  -- literals stand in the list from a number on
  abbrev pub LiteralsAt : ℕ → List (List ℕ) → Type 0
  LiteralsAt n these = (i : ℕ) (text : List ℕ) → slice_get these i ≡ Some text → slice_get texts (n + i) ≡ Some text

  pub at_front : (n : ℕ) (xs ys : List (List ℕ)) → LiteralsAt n (xs ++ ys) → LiteralsAt n xs
  at_front n xs ys h i text e = h i text (get_front xs ys i text e)

  pub at_behind : (n : ℕ) (xs ys : List (List ℕ)) → LiteralsAt n (xs ++ ys) → LiteralsAt (n + length xs) ys
  at_behind n xs ys h i text e =
      let at : n + (length xs + i) ≡ n + length xs + i = omega arith in
      ap (λ k. slice_get texts k) (sym at) ∙ h (length xs + i) text (get_behind xs ys i ∙ e)

  -- ---- values

  number_below : (names : List (List ℕ × Option ℕ)) (name : List ℕ) (o : ℕ) → AreBelow names count → meaning names name ≡ Some (Some o) → o < count
  number_below [] name o a e = absurd (cc e)
  number_below (x ∷ xs) name o a e = go (λ e. number_below xs name o a.1 e) (bytes_eq name x.0) e
    where
      own : (j : Option ℕ) → IsBelow j count → Some j ≡ Some (Some o) → o < count
      own None b e = absurd (let same : ◌≡◌ {A = Option ℕ} None (Some o) = cc e in cc same)
      own (Some j) b e = let same : ◌≡◌ {A = Option ℕ} (Some j) (Some o) = cc e in let number : j ≡ o = cc same in subst (λ z. z < count) number b

      go : (meaning xs name ≡ Some (Some o) → o < count) → (b : Bool) → cond b (Some x.1) (meaning xs name) ≡ Some (Some o) → o < count
      go more true e = own x.1 a.0 e
      go more false e = more e

  named_good : (here : Environment) (name : List ℕ) → AreBelow here.objects count → IsGood (static_named here name)
  named_good here name a = by (entity_of here.scope name) (meaning here.objects name) refl
    where
      by : (x : Option Entity) (o : Option (Option ℕ)) → meaning here.objects name ≡ o → IsGood (static_pointer name x o)
      by (Some (Object t)) (Some (Some o)) e = (number_below here.objects name o a e, refl)
      by x o e = tt

  value_good : (here : Environment) (e : CExpr) → AreBelow here.objects count → LiteralsAt here.literals_before (literals_in here.scope e) → IsGood (static_value here e)
  value_good here (plain.Str at text) a l = (refl, ap (λ k. slice_get texts k) (omega arith) ∙ l 0 text refl, refl)
  value_good here (plain.Null at) a l = tt
  value_good here (plain.Var at name) a l = named_good here name a
  value_good here (plain.Unary at unary.Address (plain.Var pos name)) a l = named_good here name a
  value_good here e a l = constant_in_below here.scope e

  zero_words : (n : ℕ) → CellsAreGood (map (λ c. Holds (Word c)) (replicate n 0))
  zero_words zero = tt
  zero_words (suc n) = (omega arith, zero_words n)

  spelled_good : (cs : List ℕ) (n : ℕ) → AreWords cs → CellsAreGood (map (λ c. Holds (Word c)) (cs ++ replicate n 0))
  spelled_good [] n w = zero_words n
  spelled_good (c ∷ cs) n w = (w.0, spelled_good cs n w.1)

  text_words : (xs : List (List ℕ)) (i : ℕ) (text : List ℕ) → AllAreWords xs → slice_get xs i ≡ Some text → AreWords text
  text_words [] i text w e = absurd (cc e)
  text_words (x ∷ xs) zero text w e = let same : x ≡ text = cc e in subst AreWords same w.0
  text_words (x ∷ xs) (suc i) text w e = text_words xs i text w.1 e

  string_good : (here : Environment) (t : CType) (e : CExpr) → takes_string t e ≡ true → LiteralsAt here.literals_before (literals_in here.scope e) → CellsAreGood (map (λ c. Holds (Word c)) (array_text t e))
  string_good here (type.Array t n) (plain.Str at text) h l = spelled_good text (n - length text) (text_words texts (here.literals_before + 0) text words (l 0 text refl))
  string_good here (type.Array t n) e h l = absurd (cc h)
  string_good here t e h l = absurd (cc h)

  mutual
    pub cells_good : (v : CValue) (t : CType) (here : Environment) → AreBelow here.objects count → LiteralsAt here.literals_before (value_literals here.scope v) → CellsAreGood (static_cells v t here)
    cells_good (plain.One e) t here a l = go (takes_string t e) refl
      where
        go : (b : Bool) → takes_string t e ≡ b → CellsAreGood (if b then map (λ c. Holds (Word c)) (array_text t e) else Holds (converted t (static_value here e)) ∷ [])
        go true h = string_good here t e h l
        go false h = (converted_good t (static_value here e) (value_good here e a l), tt)
    cells_good (plain.Many vs) t here a l = all_cells_good vs (slots_of here.scope.tags (Some t)) here a l

    all_cells_good : (vs : CValues) (slots : Slots) (here : Environment) → AreBelow here.objects count → LiteralsAt here.literals_before (values_literals here.scope vs) → CellsAreGood (all_static_cells vs slots here)
    all_cells_good plain.NoValue slots here a l = zeros_good (slot_kinds here.scope.tags slots)
    all_cells_good (plain.MoreValue v vs) slots here a l =
        let first : List (List ℕ) = value_literals here.scope v in
        let rest : List (List ℕ) = values_literals here.scope vs in
        both_good (static_cells v (type_or_nothing (first_slot slots)) here) (all_static_cells vs (next_slots slots) (past_value v here)) (cells_good v (type_or_nothing (first_slot slots)) here a (at_front here.literals_before first rest l))
        (all_cells_good vs (next_slots slots) (past_value v here) a (at_behind here.literals_before first rest l))
