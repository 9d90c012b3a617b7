-- The code of operators, behind that of their operands.
use Rattle.std.proofs.Common.{◌≡◌, ℕ, zero, suc, ◌+◌, ◌%◌, ◌^◌, ◌<◌, ◌≤◌, Bool, true, false, cond, List, [], ◌∷◌, ◌++◌, length, Option, Some, None, refl, sym, ap, ◌∙◌, subst, arith, nat_eq, append_assoc, append-nil}
use Rattle.std.specs.Prelude.{not, pos, neg_ℤ}
use Rattle.word24.specs.declared.word.Word.{Word as TheWord}
use Rattle.word24.specs.Word.{sum_word, difference_word}
use Rattle.eir_core.specs.Step.{reg_of, value_of, holds}
use Rattle.eir_core.specs.declared.ops.Reg.{Reg}
use Rattle.eir_core.specs.declared.ops.Reg.TheVariants.{A, B, C, D, SP, BP}
use Rattle.eir_core.specs.declared.ops.Operand.{Operand}
use Rattle.eir_core.specs.declared.ops.Operand.TheVariants.{Reg as register, Imm}
use Rattle.eir_core.specs.declared.ops.Cond.{Cond}
use Rattle.eir_core.specs.declared.ops.Cond.TheVariants.{Eq}
use Rattle.eir_core.specs.declared.ops.Op.{Op}
use Rattle.eir_core.specs.declared.ops.Op.TheVariants.{Mov, Sub, Set}
use Rattle.c_syntax.specs.declared.tree.UnOp.TheVariants as unary
use Rattle.c_syntax.specs.declared.tree.BinOp.{BinOp}
use Rattle.c_syntax.specs.declared.tree.BinOp.TheVariants as binary
use Rattle.c_types.specs.Types as type
use Rattle.c_types.specs.Types.{CType, Tags}
use Rattle.c_types.specs.Constants.{truth, wrapped}
use Rattle.c_eval.specs.State.{Value, Word, Null, Point, Letter, Function, Missing, State, Run}
use Rattle.c_eval.specs.Run.{give}
use Rattle.c_eval.specs.Memory.{member_at}
use Rattle.c_eval.specs.Operators.{used, is_true, truth_value, on_word, word_result, sum, difference, operated, pointer_to, value_at, pointed_value}
use Rattle.c_eval.specs.Eval.{World}
use Rattle.c_place.specs.Place.{Machine, made_all}
use Rattle.c_memory.specs.Lies.{Extent, Means}
use Rattle.c_lowered.specs.Operations.{constant, fetched, fetched_behind, moved_on, Operands, moved_from, comparison_of, is_signed, lift, lift_operand, lifted_operand, comparable, comparison_code, operator_code, operand_of}
use Rattle.c_lowered.specs.Locations.{Direct, Exactly, Address, Stored}
use Rattle.c_landing.specs.Landing.{Setting, Ready, Goes, InA, PlaceInA, InOperands, on_both, everywhere, GivesStill}
use Rattle.c_landing.specs.Few.{Agrees, IsNarrow, SidesAreNarrow, IsObjectType}
use Rattle.c_landing.proofs.Stilling.{still_wider, give_still, undefined_still, means_everywhere, means_whole, value_at_still, member_still}
use Rattle.c_landing.proofs.Pieces.{KeepsFrame, quiet_goes}
use Rattle.c_landing.proofs.Landing.{goes_within}
use Rattle.c_landing.specs.Tails.{IsPair, sum_tail, difference_tail, lift_tail, compare_tail, tail_of_comparison, operator_tail, IsOperator, GivenInA}
use Rattle.c_landing.proofs.Arithmetic.{lifted, wrapped_word}
use Rattle.c_landing.proofs.Sums.{of_word_still, word_means, sum_gives, difference_gives}
use Rattle.c_landing.proofs.Compared.{true_word, compared_gives}

pub direct_pair : (v : Direct) → IsPair A (operand_of v)
direct_pair (Exactly n) = tt
direct_pair (Address k) = tt
direct_pair (Stored l) = tt

-- what holds of each pair
pub pair_case : (P : Reg → Operand → Type 0) (first : Reg) (second : Operand) → IsPair first second → ((k : TheWord) → P A (Imm k)) → P A (register B) → P B (register A) → P first second
pair_case P A (Imm k) h a b c = a k
pair_case P A (register B) h a b c = b
pair_case P A (register A) h a b c = absurd h
pair_case P A (register C) h a b c = absurd h
pair_case P A (register D) h a b c = absurd h
pair_case P A (register SP) h a b c = absurd h
pair_case P A (register BP) h a b c = absurd h
pair_case P B (Imm k) h a b c = absurd h
pair_case P B (register A) h a b c = c
pair_case P B (register B) h a b c = absurd h
pair_case P B (register C) h a b c = absurd h
pair_case P B (register D) h a b c = absurd h
pair_case P B (register SP) h a b c = absurd h
pair_case P B (register BP) h a b c = absurd h
pair_case P C v h a b c = absurd h
pair_case P D v h a b c = absurd h
pair_case P SP v h a b c = absurd h
pair_case P BP v h a b c = absurd h

-- code that leaves in A what is made of both operands
record Leaves (ops : List Op) (first : Reg) (second : Operand) (f : ℕ → ℕ → ℕ) : Type 0 where
  keeps : KeepsFrame ops
  word : (m : Machine) → (made_all ops m).regs.a ≡ f (reg_of m.regs first) (value_of m.regs second)
  few : length ops ≤ 4

sum_leaves : (first : Reg) (second : Operand) → IsPair first second → Leaves (sum_tail first second) first second sum_word
sum_leaves first second pair = pair_case (λ first second. Leaves (sum_tail first second) first second sum_word) first second pair
    (λ k. record { keeps = record { quiet = (tt, tt); memory = λ m. refl; frame = λ m. refl }; word = λ m. refl; few = omega arith })
    (record { keeps = record { quiet = (tt, tt); memory = λ m. refl; frame = λ m. refl }; word = λ m. refl; few = omega arith })
    (record { keeps = record { quiet = (tt, tt); memory = λ m. refl; frame = λ m. refl }; word = λ m. swap m.regs.a m.regs.b; few = omega arith })
  where
    swap : (a b : ℕ) → sum_word a b ≡ sum_word b a
    swap a b = omega arith

difference_leaves : (first : Reg) (second : Operand) → IsPair first second → Leaves (difference_tail first second) first second difference_word
difference_leaves first second pair = pair_case (λ first second. Leaves (difference_tail first second) first second difference_word) first second pair
    (λ k. record { keeps = record { quiet = (tt, tt); memory = λ m. refl; frame = λ m. refl }; word = λ m. refl; few = omega arith })
    (record { keeps = record { quiet = (tt, tt); memory = λ m. refl; frame = λ m. refl }; word = λ m. refl; few = omega arith })
    (record { keeps = record { quiet = (tt, (tt, tt)); memory = λ m. refl; frame = λ m. refl }; word = λ m. refl; few = omega arith })

abbrev compare_word : Cond → Bool → ℕ → ℕ → ℕ
compare_word test signed a b = cond (holds test (lifted signed a) (lifted signed b)) 1 0

compare_leaves : (test : Cond) (signed : Bool) (first : Reg) (second : Operand) → IsPair first second → Leaves (compare_tail test signed first second) first second (compare_word test signed)
compare_leaves test false first second pair = pair_case (λ first second. Leaves (compare_tail test false first second) first second (compare_word test false)) first second pair
    (λ k. record { keeps = record { quiet = (tt, tt); memory = λ m. refl; frame = λ m. refl }; word = λ m. refl; few = omega arith })
    (record { keeps = record { quiet = (tt, tt); memory = λ m. refl; frame = λ m. refl }; word = λ m. refl; few = omega arith })
    (record { keeps = record { quiet = (tt, (tt, tt)); memory = λ m. refl; frame = λ m. refl }; word = λ m. refl; few = omega arith })
compare_leaves test true first second pair = pair_case (λ first second. Leaves (compare_tail test true first second) first second (compare_word test true)) first second pair
    (λ k. record { keeps = record { quiet = (tt, (tt, tt)); memory = λ m. refl; frame = λ m. refl }; word = λ m. refl; few = omega arith })
    (record { keeps = record { quiet = (tt, (tt, (tt, tt))); memory = λ m. refl; frame = λ m. refl }; word = λ m. refl; few = omega arith })
    (record { keeps = record { quiet = (tt, (tt, (tt, (tt, tt)))); memory = λ m. refl; frame = λ m. refl }; word = λ m. refl; few = omega arith })

lifted_code : (signed : Bool) (p : Operands) → (comparable signed p).code ≡ p.code ++ lift_tail signed p.first p.second
lifted_code true p = refl
lifted_code false p = sym (append-nil p.code)

comparison_shape : (test : Option Cond) (signed : Bool) (p : Operands) → comparison_code test (comparable signed p) ≡ p.code ++ tail_of_comparison test signed p.first p.second
comparison_shape None signed p = lifted_code signed p
comparison_shape (Some test) true p = append_assoc p.code (lift p.first ++ lift_operand p.second) (Set test p.first (lifted_operand p.second) ∷ moved_from p.first)
comparison_shape (Some test) false p = refl

pub operator_shape : (op : BinOp) (signed : Bool) (p : Operands) → operator_code op signed p ≡ p.code ++ operator_tail op signed p.first p.second
operator_shape binary.Add signed p = refl
operator_shape binary.Sub signed p = refl
operator_shape binary.Or signed p = comparison_shape None signed p
operator_shape binary.And signed p = comparison_shape None signed p
operator_shape binary.BitOr signed p = comparison_shape None signed p
operator_shape binary.BitXor signed p = comparison_shape None signed p
operator_shape binary.BitAnd signed p = comparison_shape None signed p
operator_shape binary.Eq signed p = comparison_shape (comparison_of binary.Eq) signed p
operator_shape binary.Ne signed p = comparison_shape (comparison_of binary.Ne) signed p
operator_shape binary.Lt signed p = comparison_shape (comparison_of binary.Lt) signed p
operator_shape binary.Gt signed p = comparison_shape (comparison_of binary.Gt) signed p
operator_shape binary.Le signed p = comparison_shape (comparison_of binary.Le) signed p
operator_shape binary.Ge signed p = comparison_shape (comparison_of binary.Ge) signed p
operator_shape binary.Shl signed p = comparison_shape None signed p
operator_shape binary.Shr signed p = comparison_shape None signed p
operator_shape binary.Mul signed p = comparison_shape None signed p
operator_shape binary.Div signed p = comparison_shape None signed p
operator_shape binary.Mod signed p = comparison_shape None signed p

module _ (S : Setting) (w : World) (agrees : Agrees S w) where
  leaves_goes : (ops : List Op) (first : Reg) (second : Operand) (f : ℕ → ℕ → ℕ) (run : Value → Value → Run Value) (block d n : ℕ) → Leaves ops first second f
      → ((bs : List Extent) (st : State) (m : Machine) → Ready S bs st m d n → (x y : Value) (a b : ℕ) → Means S.ground bs x a → Means S.ground bs y b → GivesStill st (λ v. Means S.ground bs v (f a b)) (run x y st))
      → Goes S ops block d n 4 (on_both run) (InOperands S first second) (InA S)
  leaves_goes ops first second f run block d n l h = goes_within n (length ops) (omega arith) l.few (quiet_goes l.keeps (λ p bs st m r means.
      still_wider st _ _ (run p.0 p.1 st) (h bs st m r p.0 p.1 (reg_of m.regs first) (value_of m.regs second) means.0 means.1) (λ v k. subst (λ z. Means S.ground bs v z) (sym (l.word m)) k)))

  pub sum_goes : (tags : Tags) (t u : CType) (first : Reg) (second : Operand) (block d n : ℕ) → IsPair first second → IsNarrow tags t → IsNarrow tags u → Goes S (sum_tail first second) block d n 4 (on_both (λ x y. sum tags t u x y)) (InOperands S first second) (InA S)
  sum_goes tags t u first second block d n pair nt nu =
      leaves_goes (sum_tail first second) first second sum_word (λ x y. sum tags t u x y) block d n (sum_leaves first second pair) (λ bs st m r x y a b mx my. sum_gives S w agrees bs st m d n r tags t u x y a b nt nu mx my)

  compare_goes : (tags : Tags) (op : BinOp) (test : Cond) (t u : CType) (first : Reg) (second : Operand) (block d n : ℕ) → IsPair first second → comparison_of op ≡ Some test
      → Goes S (compare_tail test (is_signed op t u) first second) block d n 4 (on_both (λ x y. operated tags op t u x y)) (InOperands S first second) (InA S)
  compare_goes tags op test t u first second block d n pair e =
      leaves_goes (compare_tail test (is_signed op t u) first second) first second (compare_word test (is_signed op t u)) (λ x y. operated tags op t u x y) block d n (compare_leaves test (is_signed op t u) first second pair)
      (λ bs st m r x y a b mx my. still_wider st _ _ (operated tags op t u x y st) (compared_gives S w agrees bs st m d n r tags op test t u x y a b e mx my) (λ v q. subst (λ z. Means S.ground bs z (compare_word test (is_signed op t u) a b)) (sym q) (of_truth (holds test (lifted (is_signed op t u) a) (lifted (is_signed op t u) b)))))
    where
      of_truth : (b : Bool) → (cond b 1 0 ≡ truth b) × (truth b < 2 ^ 24)
      of_truth true = (refl, omega arith)
      of_truth false = (refl, omega arith)

  pub operator_goes : (tags : Tags) (op : BinOp) (t u : CType) (first : Reg) (second : Operand) (block d n : ℕ) → IsPair first second → IsOperator op → SidesAreNarrow op tags t u
      → Goes S (operator_tail op (is_signed op t u) first second) block d n 4 (on_both (λ x y. operated tags op t u x y)) (InOperands S first second) (InA S)
  unfolding operated
  operator_goes tags binary.Add t u first second block d n pair o narrow = sum_goes tags t u first second block d n pair narrow.0 narrow.1
  operator_goes tags binary.Sub t u first second block d n pair o narrow =
      leaves_goes (difference_tail first second) first second difference_word (λ x y. difference tags t u x y) block d n (difference_leaves first second pair) (λ bs st m r x y a b mx my. difference_gives S w agrees bs st m d n r tags t u x y a b narrow.0 mx my)
  operator_goes tags binary.Eq t u first second block d n pair o narrow = compare_goes tags binary.Eq _ t u first second block d n pair refl
  operator_goes tags binary.Ne t u first second block d n pair o narrow = compare_goes tags binary.Ne _ t u first second block d n pair refl
  operator_goes tags binary.Lt t u first second block d n pair o narrow = compare_goes tags binary.Lt _ t u first second block d n pair refl
  operator_goes tags binary.Gt t u first second block d n pair o narrow = compare_goes tags binary.Gt _ t u first second block d n pair refl
  operator_goes tags binary.Le t u first second block d n pair o narrow = compare_goes tags binary.Le _ t u first second block d n pair refl
  operator_goes tags binary.Ge t u first second block d n pair o narrow = compare_goes tags binary.Ge _ t u first second block d n pair refl
  operator_goes tags binary.Or t u first second block d n pair o narrow = absurd o
  operator_goes tags binary.And t u first second block d n pair o narrow = absurd o
  operator_goes tags binary.BitOr t u first second block d n pair o narrow = absurd o
  operator_goes tags binary.BitXor t u first second block d n pair o narrow = absurd o
  operator_goes tags binary.BitAnd t u first second block d n pair o narrow = absurd o
  operator_goes tags binary.Shl t u first second block d n pair o narrow = absurd o
  operator_goes tags binary.Shr t u first second block d n pair o narrow = absurd o
  operator_goes tags binary.Mul t u first second block d n pair o narrow = absurd o
  operator_goes tags binary.Div t u first second block d n pair o narrow = absurd o
  operator_goes tags binary.Mod t u first second block d n pair o narrow = absurd o

  -- ---- operators on one value

  nothing_keeps : KeepsFrame []
  nothing_keeps = record { quiet = tt; memory = λ m. refl; frame = λ m. refl }

  pub used_goes : (block d n : ℕ) → Goes S [] block d n 0 used (InA S) (GivenInA S)
  unfolding used
  used_goes block d n = quiet_goes nothing_keeps (λ v bs st m r means. by st bs m v means)
    where
      by : (st : State) (bs : List Extent) (m : Machine) (v : Value) → InA S v bs m → GivesStill st (λ z. GivenInA S z bs m) (used v st)
      by st bs m (Word k) h = give_still st (λ z. GivenInA S z bs m) (Word k) (h, tt)
      by st bs m Null h = give_still st (λ z. GivenInA S z bs m) Null (h, tt)
      by st bs m (Point o k) h = give_still st (λ z. GivenInA S z bs m) (Point o k) (h, tt)
      by st bs m (Letter f i text k) h = give_still st (λ z. GivenInA S z bs m) (Letter f i text k) (h, tt)
      by st bs m (Function name) h = give_still st (λ z. GivenInA S z bs m) (Function name) (h, tt)
      by st bs m Missing h = undefined_still st (λ z. GivenInA S z bs m) _

  pub not_goes : (block d n : ℕ) → Goes S (Set Eq A (constant 0) ∷ []) block d n 1 (λ v. give (truth_value (not (is_true v)))) (GivenInA S) (InA S)
  not_goes block d n = quiet_goes (record { quiet = (tt, tt); memory = λ m. refl; frame = λ m. refl }) (λ v bs st m r means.
      let is = true_word S w agrees bs st m d n r v m.regs.a means.1 means.0 in
      give_still st (λ z. InA S z bs (made_all (Set Eq A (constant 0) ∷ []) m)) (truth_value (not (is_true v))) (word m (is_true v) is, small (not (is_true v))))
    where
      small : (b : Bool) → truth b < 2 ^ 24
      small true = omega arith
      small false = omega arith

      word : (m : Machine) (b : Bool) → b ≡ not (nat_eq m.regs.a 0) → cond (nat_eq m.regs.a 0) 1 0 ≡ truth (not b)
      word m b e = subst (λ z. cond (nat_eq m.regs.a 0) 1 0 ≡ truth (not z)) (sym e) (twice (nat_eq m.regs.a 0))
        where
          twice : (c : Bool) → cond c 1 0 ≡ truth (not (not c))
          twice true = refl
          twice false = refl

  abbrev minus_tail : List Op
  minus_tail = Mov B (register A) ∷ Mov A (constant 0) ∷ Sub A (register B) ∷ []

  pub minus_goes : (block d n : ℕ) → Goes S minus_tail block d n 3 (on_word unary.Minus) (InA S) (InA S)
  unfolding on_word word_result
  minus_goes block d n = quiet_goes (record { quiet = (tt, (tt, (tt, tt))); memory = λ m. refl; frame = λ m. refl }) (λ v bs st m r means. of_word_still st (λ z. InA S z bs (made_all minus_tail m)) v _ (λ k is.
      let p = word_means S.ground bs v m.regs.a k means is in
      give_still st (λ z. InA S z bs (made_all minus_tail m)) (Word (wrapped (neg_ℤ (pos k)))) (turned m.regs.a k p.0 p.1, wrapped_word _)))
    where
      turned : (a k : ℕ) → a ≡ k → k < 2 ^ 24 → difference_word 0 a ≡ wrapped (neg_ℤ (pos k))
      turned a k e lt = ap (difference_word 0) e ∙ less k lt
        where
          less : (k : ℕ) → k < 2 ^ 24 → difference_word 0 k ≡ wrapped (neg_ℤ (pos k))
          less k lt = grind (arith, lt)

  pub plus_goes : (block d n : ℕ) → Goes S [] block d n 0 (on_word unary.Plus) (InA S) (InA S)
  unfolding on_word word_result
  plus_goes block d n = quiet_goes nothing_keeps (λ v bs st m r means. of_word_still st (λ z. InA S z bs m) v _ (λ k is. give_still st (λ z. InA S z bs m) (Word k) (word_means S.ground bs v m.regs.a k means is)))

  -- ---- places

  pub pointer_to_goes : (block d n : ℕ) → Goes S [] block d n 0 (pointer_to w.inner) (PlaceInA S) (InA S)
  unfolding pointer_to
  pointer_to_goes block d n = quiet_goes nothing_keeps (λ p bs st m r means. by bs st m p means w.inner refl)
    where
      by : (bs : List Extent) (st : State) (m : Machine) (p : Value) → PlaceInA S p bs m → (inner : Bool) → w.inner ≡ inner → GivesStill st (λ z. InA S z bs m) (pointer_to inner p st)
      by bs st m p means true e = undefined_still st (λ z. InA S z bs m) _
      by bs st m p means false e = give_still st (λ z. InA S z bs m) p (means_whole S.ground bs p m.regs.a (agrees.reach e) means)

  moved_on_keeps : (k : ℕ) → KeepsFrame (moved_on k)
  moved_on_keeps zero = nothing_keeps
  moved_on_keeps (suc k) = record { quiet = (tt, tt); memory = λ m. refl; frame = λ m. refl }

  moved_on_word : (k : ℕ) (m : Machine) → m.regs.a + k < 2 ^ 24 → (made_all (moved_on k) m).regs.a ≡ (m.regs.a + k) % 2 ^ 24
  moved_on_word zero m lt = omega (arith, lt)
  moved_on_word (suc k) m lt = omega arith

  moved_on_length : (k : ℕ) → length (moved_on k) ≤ 1
  moved_on_length zero = omega arith
  moved_on_length (suc k) = omega arith

  pub member_goes : (k block d n : ℕ) → Goes S (moved_on k) block d n 1 (member_at k) (PlaceInA S) (PlaceInA S)
  member_goes k block d n = goes_within n (length (moved_on k)) (omega arith) (moved_on_length k) (quiet_goes (moved_on_keeps k) (λ p bs st m r means.
      still_wider st _ _ (member_at k p st) (member_still S.ground bs st m.memory (m.regs.bp + d) k p m.regs.a (λ f i text e. (agrees.letters f i text e).1) r.lies means)
      (λ q z. subst (λ y. Means (everywhere S.ground) bs q y) (sym (moved_on_word k m z.1)) z.0.0)))

  -- what stands at the address in A
  fetched_keeps : (t : CType) → KeepsFrame (fetched t)
  fetched_keeps (type.Array t n) = nothing_keeps
  fetched_keeps (type.Struct tag) = nothing_keeps
  fetched_keeps (type.Function t ts) = nothing_keeps
  fetched_keeps type.Void = record { quiet = (tt, tt); memory = λ m. refl; frame = λ m. refl }
  fetched_keeps type.Int = record { quiet = (tt, tt); memory = λ m. refl; frame = λ m. refl }
  fetched_keeps type.Unsigned = record { quiet = (tt, tt); memory = λ m. refl; frame = λ m. refl }
  fetched_keeps type.Char = record { quiet = (tt, tt); memory = λ m. refl; frame = λ m. refl }
  fetched_keeps type.UChar = record { quiet = (tt, tt); memory = λ m. refl; frame = λ m. refl }
  fetched_keeps type.Null = record { quiet = (tt, tt); memory = λ m. refl; frame = λ m. refl }
  fetched_keeps (type.Pointer t) = record { quiet = (tt, tt); memory = λ m. refl; frame = λ m. refl }

  fetched_length : (t : CType) → length (fetched t) ≤ 1
  fetched_length (type.Array t n) = omega arith
  fetched_length (type.Struct tag) = omega arith
  fetched_length (type.Function t ts) = omega arith
  fetched_length type.Void = omega arith
  fetched_length type.Int = omega arith
  fetched_length type.Unsigned = omega arith
  fetched_length type.Char = omega arith
  fetched_length type.UChar = omega arith
  fetched_length type.Null = omega arith
  fetched_length (type.Pointer t) = omega arith

  fetched_still : (bs : List Extent) (st : State) (m : Machine) (d n : ℕ) → Ready S bs st m d n → (t : CType) (p : Value) → IsObjectType t → PlaceInA S p bs m → GivesStill st (λ z. InA S z bs (made_all (fetched t) m)) (value_at w.inner t p st)
  unfolding value_at
  fetched_still bs st m d n r (type.Array t k) p o h = value_at_still S.ground bs st m.memory (m.regs.bp + d) m.regs.bp w.inner (type.Array t k) p m.regs.a agrees.reach r.lies r.letters h
  fetched_still bs st m d n r (type.Struct tag) p o h = give_still st (λ z. InA S z bs m) Missing tt
  fetched_still bs st m d n r (type.Function t ts) p o h = absurd o
  fetched_still bs st m d n r type.Void p o h = value_at_still S.ground bs st m.memory (m.regs.bp + d) m.regs.bp w.inner type.Void p m.regs.a agrees.reach r.lies r.letters h
  fetched_still bs st m d n r type.Int p o h = value_at_still S.ground bs st m.memory (m.regs.bp + d) m.regs.bp w.inner type.Int p m.regs.a agrees.reach r.lies r.letters h
  fetched_still bs st m d n r type.Unsigned p o h = value_at_still S.ground bs st m.memory (m.regs.bp + d) m.regs.bp w.inner type.Unsigned p m.regs.a agrees.reach r.lies r.letters h
  fetched_still bs st m d n r type.Char p o h = value_at_still S.ground bs st m.memory (m.regs.bp + d) m.regs.bp w.inner type.Char p m.regs.a agrees.reach r.lies r.letters h
  fetched_still bs st m d n r type.UChar p o h = value_at_still S.ground bs st m.memory (m.regs.bp + d) m.regs.bp w.inner type.UChar p m.regs.a agrees.reach r.lies r.letters h
  fetched_still bs st m d n r type.Null p o h = value_at_still S.ground bs st m.memory (m.regs.bp + d) m.regs.bp w.inner type.Null p m.regs.a agrees.reach r.lies r.letters h
  fetched_still bs st m d n r (type.Pointer t) p o h = value_at_still S.ground bs st m.memory (m.regs.bp + d) m.regs.bp w.inner (type.Pointer t) p m.regs.a agrees.reach r.lies r.letters h

  pub fetched_goes : (t : CType) (block d n : ℕ) → IsObjectType t → Goes S (fetched t) block d n 1 (value_at w.inner t) (PlaceInA S) (InA S)
  fetched_goes t block d n o = goes_within n (length (fetched t)) (omega arith) (fetched_length t) (quiet_goes (fetched_keeps t) (λ p bs st m r means. fetched_still bs st m d n r t p o means))

  -- a value as a place
  pub as_place : (bs : List Extent) (st : State) (m : Machine) (d n : ℕ) → Ready S bs st m d n → (v : Value) → InA S v bs m → PlaceInA S v bs m
  as_place bs st m d n r v h = means_everywhere S.ground bs v m.regs.a r.lies.seen h

  from_value : {code : List Op} {block d n c : ℕ} {run : Value → Run Value} → Goes S code block d n c run (PlaceInA S) (InA S) → Goes S code block d n c run (InA S) (InA S)
  from_value {d = d} {n = n} g = record { at = λ v s bs st m e stands r h. g.at v s bs st m e stands r (as_place bs st m d n r v h) }

  -- what the pointer in A points to
  pub fetched_behind_goes : (t : CType) (block d n : ℕ) → Goes S (fetched_behind t) block d n 1 (pointed_value w.inner t) (InA S) (InA S)
  unfolding pointed_value
  fetched_behind_goes (type.Pointer (type.Function t ts)) block d n = goes_within n 0 (omega arith) (omega arith) (quiet_goes nothing_keeps (λ p bs st m r means. give_still st (λ z. InA S z bs m) p means))
  fetched_behind_goes (type.Pointer (type.Array t k)) block d n = from_value (fetched_goes (type.Array t k) block d n tt)
  fetched_behind_goes (type.Pointer (type.Struct tag)) block d n = from_value (fetched_goes (type.Struct tag) block d n tt)
  fetched_behind_goes (type.Pointer type.Void) block d n = from_value (fetched_goes type.Void block d n tt)
  fetched_behind_goes (type.Pointer type.Int) block d n = from_value (fetched_goes type.Int block d n tt)
  fetched_behind_goes (type.Pointer type.Unsigned) block d n = from_value (fetched_goes type.Unsigned block d n tt)
  fetched_behind_goes (type.Pointer type.Char) block d n = from_value (fetched_goes type.Char block d n tt)
  fetched_behind_goes (type.Pointer type.UChar) block d n = from_value (fetched_goes type.UChar block d n tt)
  fetched_behind_goes (type.Pointer type.Null) block d n = from_value (fetched_goes type.Null block d n tt)
  fetched_behind_goes (type.Pointer (type.Pointer t)) block d n = from_value (fetched_goes (type.Pointer t) block d n tt)
  fetched_behind_goes (type.Array t k) block d n = goes_within n 0 (omega arith) (omega arith) (quiet_goes nothing_keeps (λ p bs st m r means. undefined_still st (λ z. InA S z bs m) _))
  fetched_behind_goes (type.Struct tag) block d n = goes_within n 0 (omega arith) (omega arith) (quiet_goes nothing_keeps (λ p bs st m r means. undefined_still st (λ z. InA S z bs m) _))
  fetched_behind_goes (type.Function t ts) block d n = goes_within n 0 (omega arith) (omega arith) (quiet_goes nothing_keeps (λ p bs st m r means. undefined_still st (λ z. InA S z bs m) _))
  fetched_behind_goes type.Void block d n = goes_within n 0 (omega arith) (omega arith) (quiet_goes nothing_keeps (λ p bs st m r means. undefined_still st (λ z. InA S z bs m) _))
  fetched_behind_goes type.Int block d n = goes_within n 0 (omega arith) (omega arith) (quiet_goes nothing_keeps (λ p bs st m r means. undefined_still st (λ z. InA S z bs m) _))
  fetched_behind_goes type.Unsigned block d n = goes_within n 0 (omega arith) (omega arith) (quiet_goes nothing_keeps (λ p bs st m r means. undefined_still st (λ z. InA S z bs m) _))
  fetched_behind_goes type.Char block d n = goes_within n 0 (omega arith) (omega arith) (quiet_goes nothing_keeps (λ p bs st m r means. undefined_still st (λ z. InA S z bs m) _))
  fetched_behind_goes type.UChar block d n = goes_within n 0 (omega arith) (omega arith) (quiet_goes nothing_keeps (λ p bs st m r means. undefined_still st (λ z. InA S z bs m) _))
  fetched_behind_goes type.Null block d n = goes_within n 0 (omega arith) (omega arith) (quiet_goes nothing_keeps (λ p bs st m r means. undefined_still st (λ z. InA S z bs m) _))
