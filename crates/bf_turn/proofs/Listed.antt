-- The pieces of operations in a row, and their numbers.
use Rattle.std.proofs.Common.{◌≡◌, ℕ, zero, suc, ◌+◌, ◌<◌, ◌≤◌, Bool, true, false, nat_lt, cond, List, [], ◌∷◌, ◌++◌, length, take, get_or, slice_get, slice_index, sum_by, flat_map, Some, None, refl, sym, ap, subst, ◌∙◌, arith, append_assoc, append-nil, add-zero, add-one}
use Rattle.std.proofs.Math.Seq.{take-suc}
use Rattle.std.proofs.lemmas.List.Sums.{sum_by-cons, sum_by-take-le}
use Rattle.std.proofs.lemmas.Bool.{ltb-true, ltb-false}
use Rattle.mach_core.proofs.Lists.{none_past}
use Rattle.std.proofs.lemmas.Grind.{flat_map-append}
use Rattle.std.proofs.lemmas.List.Concat.{length-flat_map, flat_map-cons}
use Rattle.eir_core.specs.declared.ops.Reg.{Reg}
use Rattle.eir_core.specs.declared.ops.Cond.{Cond}
use Rattle.eir_core.specs.declared.ops.Operand.{Operand}
use Rattle.eir_core.specs.declared.ops.Op.{Op}
use Rattle.eir_core.specs.declared.ops.Op.TheVariants.{Mov, Add, Sub, Load, Store, Putc, Getc, Set, Exit, Jump, JumpIf}
use Rattle.bf_lang.specs.declared.command.Command.{Command}
use Rattle.bf_ops.specs.Perform.{asks}
use Rattle.bf_turn.specs.Number.{first_numbers, following, any_of, is_branch}
use Rattle.bf_turn.specs.Arm.{IsArm, AreArms, HasMore, HasAll, IsEnd}

arms_more : (d : ℕ) (numbers : List ℕ) (last n : ℕ) (ops ops' : List Op) (arms arms' : List (List Command)) → AreArms d numbers last n ops arms → AreArms d numbers last (n + length ops) ops' arms' → AreArms d numbers last n (ops ++ ops') (arms ++ arms')
arms_more d numbers last n [] ops' [] arms' a b = subst (λ k. AreArms d numbers last k ops' arms') (add-zero n) b
arms_more d numbers last n [] ops' (x ∷ arms) arms' a b = absurd a
arms_more d numbers last n (op ∷ ops) ops' [] arms' a b = absurd a
arms_more d numbers last n (op ∷ ops) ops' (x ∷ arms) arms' a b =
    let e : n + suc (length ops) ≡ n + 1 + length ops = omega arith in
    (a.0, arms_more d numbers last (n + 1) ops ops' arms arms' a.1 (subst (λ k. AreArms d numbers last k ops' arms') e b))

-- none yet
pub none_pushed : (d : ℕ) (numbers : List ℕ) (last n : ℕ) (old : List (List Command)) → HasMore d numbers last n [] old old
none_pushed d numbers last n old = record { arms = []; pushed = sym (append-nil old); are = tt }

-- those of more operations
pub more_pushed : (d : ℕ) (numbers : List ℕ) (last n k : ℕ) (ops ops' all : List Op) (old mid new : List (List Command)) → k ≡ n + length ops → all ≡ ops ++ ops' → HasMore d numbers last n ops old mid → HasMore d numbers last k ops' mid new → HasMore d numbers last n all old new
more_pushed d numbers last n k ops ops' all old mid new at is a b =
    subst (λ xs. HasMore d numbers last n xs old new) (sym is) (record {
      arms = a.arms ++ b.arms;
      pushed = b.pushed ∙ (ap (λ xs. xs ++ b.arms) a.pushed ∙ append_assoc old a.arms b.arms);
      are = arms_more d numbers last n ops ops' a.arms b.arms a.are (subst (λ j. AreArms d numbers last j ops' b.arms) at b.are);
    })

-- one more
pub one_pushed : (d : ℕ) (numbers : List ℕ) (last n i next : ℕ) (ops : List Op) (op : Op) (a : List Command) (old mid new : List (List Command)) → i < length ops → op ≡ get_or ops i op → next ≡ following last (n + i) → IsArm d numbers next op a → new ≡ mid ++ a ∷ []
    → HasMore d numbers last n (take i ops) old mid → HasMore d numbers last n (take (i + 1) ops) old new
one_pushed d numbers last n i next ops op a old mid new within is follows arm pushed before =
    let long : length (take i ops) ≡ i = taken_length i ops (omega arith) in
    let parts : take (i + 1) ops ≡ take i ops ++ op ∷ [] = ap (λ k. take k ops) (add-one i) ∙ (take-suc ops i op within ∙ ap (λ x. take i ops ++ x ∷ []) (sym is)) in
    more_pushed d numbers last n (n + i) (take i ops) (op ∷ []) (take (i + 1) ops) old mid new (ap (λ k. n + k) (sym long)) parts before
    (record { arms = a ∷ []; pushed = pushed; are = (subst (λ k. IsArm d numbers k op a) follows arm, tt) })
  where
    taken_length : {A : Type 0} (k : ℕ) (xs : List A) → k ≤ length xs → length (take k xs) ≡ k
    taken_length zero xs le = refl
    taken_length (suc k) [] le = absurd (omega arith)
    taken_length (suc k) (x ∷ xs) le = ap suc (taken_length k xs (omega arith))

-- the number of a block's first operation
pub first_at : (n : ℕ) (blocks : List (List Op)) (k : ℕ) → k < length blocks → slice_index (first_numbers n blocks) k ≡ n + sum_by length (take k blocks)
first_at n [] k within = absurd (omega arith)
first_at n (ops ∷ blocks) zero within = sym (add-zero n)
first_at n (ops ∷ blocks) (suc k) within =
    let e : sum_by length (take (suc k) (ops ∷ blocks)) ≡ length ops + sum_by length (take k blocks) = sum_by-cons length ops (take k blocks) in
    first_at (n + length ops) blocks k (omega arith) ∙ omega (arith, e)

pub first_past : (n : ℕ) (blocks : List (List Op)) (k : ℕ) → length blocks ≤ k → slice_index (first_numbers n blocks) k ≡ 0
first_past n [] k past = refl
first_past n (ops ∷ blocks) zero past = absurd (omega arith)
first_past n (ops ∷ blocks) (suc k) past = first_past (n + length ops) blocks k (omega arith)

pub first_count : (n : ℕ) (blocks : List (List Op)) → length (first_numbers n blocks) ≡ length blocks
first_count n [] = refl
first_count n (ops ∷ blocks) = ap suc (first_count (n + length ops) blocks)

abbrev pub all_ops : List (List Op) → List Op
all_ops blocks = flat_map (λ ops. ops) blocks

pub slice_within : {A : Type 0} (xs : List A) (i : ℕ) (x : A) → slice_get xs i ≡ Some x → i < length xs
slice_within [] i x e = absurd (none_some x e)
  where
    none_some : {A : Type 0} (x : A) → None ≡ Some x → ⊥
    none_some x e = cc
slice_within (y ∷ xs) zero x e = omega arith
slice_within (y ∷ xs) (suc i) x e = let h : i < length xs = slice_within xs i x e in omega arith

slice_or : {A : Type 0} (xs : List A) (i : ℕ) (x : A) → slice_get xs i ≡ Some x → get_or xs i x ≡ x
slice_or [] i x e = refl
slice_or (y ∷ xs) zero x e = cc
slice_or (y ∷ xs) (suc i) x e = slice_or xs i x e

pub flat_more : (k : ℕ) (blocks : List (List Op)) (ops : List Op) → slice_get blocks k ≡ Some ops → all_ops (take (k + 1) blocks) ≡ all_ops (take k blocks) ++ ops
flat_more k blocks ops at =
    let within : k < length blocks = slice_within blocks k ops at in
    let here : get_or blocks k ops ≡ ops = slice_or blocks k ops at in
    let parts : take (k + 1) blocks ≡ take k blocks ++ ops ∷ [] = ap (λ j. take j blocks) (add-one k) ∙ (take-suc blocks k ops within ∙ ap (λ x. take k blocks ++ x ∷ []) here) in
    ap all_ops parts ∙ (flat_map-append (λ ops. ops) (take k blocks) (ops ∷ []) ∙ ap (λ xs. all_ops (take k blocks) ++ xs) (append-nil ops))

-- a block more
pub block_pushed : (d : ℕ) (numbers : List ℕ) (last k : ℕ) (blocks : List (List Op)) (ops : List Op) (mid new : List (List Command)) → numbers ≡ first_numbers 1 blocks → slice_get blocks k ≡ Some ops
    → HasAll d numbers last (take k blocks) mid → HasMore d numbers last (slice_index numbers k) ops mid new → HasAll d numbers last (take (k + 1) blocks) new
block_pushed d numbers last k blocks ops mid new are at before more =
    let within : k < length blocks = slice_within blocks k ops at in
    let flat : all_ops (take (k + 1) blocks) ≡ all_ops (take k blocks) ++ ops = flat_more k blocks ops at in
    let number : slice_index numbers k ≡ 1 + length (all_ops (take k blocks)) = ap (λ xs. slice_index xs k) are ∙ (first_at 1 blocks k within ∙ ap (λ j. 1 + j) (sym (length-flat_map (λ ops. ops) (take k blocks)))) in
    record { end = before.end; is_end = before.is_end; more = more_pushed d numbers last 1 (slice_index numbers k) (all_ops (take k blocks)) ops (all_ops (take (k + 1) blocks)) (before.end ∷ []) mid new number flat before.more more }

pub all_taken : {A : Type 0} (i : ℕ) (xs : List A) → length xs ≤ i → take i xs ≡ xs
all_taken zero [] le = refl
all_taken zero (x ∷ xs) le = absurd (omega arith)
all_taken (suc i) [] le = refl
all_taken (suc i) (x ∷ xs) le = ap (λ ys. x ∷ ys) (all_taken i xs (omega arith))

-- the piece of the end alone
pub all_start : (d : ℕ) (numbers : List ℕ) (last : ℕ) (end : List Command) (old new : List (List Command)) → IsEnd end → old ≡ [] → new ≡ old ++ end ∷ [] → HasAll d numbers last [] new
all_start d numbers last end old new is none pushed = subst (λ xs. HasAll d numbers last [] xs) (sym (pushed ∙ ap (λ xs. xs ++ end ∷ []) none)) (record { end = end; is_end = is; more = none_pushed d numbers last 1 (end ∷ []) })

-- the number of one more block
pub first_more : (n : ℕ) (blocks : List (List Op)) (k number : ℕ) (ops : List Op) → slice_get blocks k ≡ Some ops → number ≡ n + sum_by length (take k blocks) → first_numbers n (take (k + 1) blocks) ≡ first_numbers n (take k blocks) ++ number ∷ []
first_more n [] k number ops at is = absurd (none_some ops at)
  where
    none_some : {A : Type 0} (x : A) → None ≡ Some x → ⊥
    none_some x e = cc
first_more n (x ∷ blocks) zero number ops at is = ap (λ j. j ∷ []) (sym (is ∙ add-zero n))
first_more n (x ∷ blocks) (suc k) number ops at is =
    let e : sum_by length (take (suc k) (x ∷ blocks)) ≡ length x + sum_by length (take k blocks) = sum_by-cons length x (take k blocks) in
    ap (λ j. first_numbers n (take j (x ∷ blocks))) (add-one (suc k))
    ∙ (ap (λ j. n ∷ first_numbers (n + length x) (take j blocks)) (sym (add-one k)) ∙ ap (λ ys. n ∷ ys) (first_more (n + length x) blocks k number ops at (omega (arith, is, e))))

pub sum_more : (blocks : List (List Op)) (k : ℕ) (ops : List Op) → slice_get blocks k ≡ Some ops → sum_by length (take (k + 1) blocks) ≡ sum_by length (take k blocks) + length ops
sum_more [] k ops at = absurd (none_some ops at)
  where
    none_some : {A : Type 0} (x : A) → None ≡ Some x → ⊥
    none_some x e = cc
sum_more (x ∷ blocks) zero ops at = let e : x ≡ ops = some_same x ops at in let f : sum_by length (take 1 (x ∷ blocks)) ≡ 0 + length x = refl in let g : sum_by length (take 0 (x ∷ blocks)) ≡ 0 = refl in omega (arith, f, g, ap length e)
  where
    some_same : {A : Type 0} (x y : A) → Some x ≡ Some y → x ≡ y
    some_same x y e = cc
sum_more (x ∷ blocks) (suc k) ops at =
    let e : sum_by length (take (suc k) (x ∷ blocks)) ≡ length x + sum_by length (take k blocks) = sum_by-cons length x (take k blocks) in
    let f : sum_by length (take (suc k + 1) (x ∷ blocks)) ≡ length x + sum_by length (take (k + 1) blocks) = ap (λ j. sum_by length (take j (x ∷ blocks))) (add-one (suc k)) ∙ (ap (λ j. sum_by length (x ∷ take j blocks)) (sym (add-one k)) ∙ sum_by-cons length x (take (k + 1) blocks)) in
    omega (arith, e, f, sum_more blocks k ops at)

pub block_within : (blocks : List (List Op)) (k : ℕ) (ops : List Op) → slice_get blocks k ≡ Some ops → slice_index (first_numbers 1 blocks) k + length ops ≤ 1 + sum_by length blocks
block_within blocks k ops at =
    elim (nat_lt k (length blocks)) as (λ t. nat_lt k (length blocks) ≡ t → slice_index (first_numbers 1 blocks) k + length ops ≤ 1 + sum_by length blocks) [
      | true ↦ λ t. omega (arith, first_at 1 blocks k (ltb-true k (length blocks) t), sum_more blocks k ops at, sum_by-take-le length blocks (k + 1))
      | false ↦ λ t. absurd (none_some ops (sym (none_past blocks k (ltb-false k (length blocks) t)) ∙ at))
    ] refl
  where
    none_some : {A : Type 0} (x : A) → None ≡ Some x → ⊥
    none_some x e = cc

-- whether one of some operations is as a test wants it
any_more : (test : Op → Bool) (xs ys : List Op) → any_of test (xs ++ ys) ≡ cond (any_of test xs) true (any_of test ys)
any_more test [] ys = refl
any_more test (x ∷ xs) ys = elim (test x) as (λ b. cond b true (any_of test (xs ++ ys)) ≡ cond (cond b true (any_of test xs)) true (any_of test ys)) [ true ↦ refl | false ↦ any_more test xs ys ]

pub none_so_far : (test : Op → Bool) (i : ℕ) (ops : List Op) (op : Op) → i < length ops → op ≡ get_or ops i op → test op ≡ false → any_of test (take i ops) ≡ false → any_of test (take (i + 1) ops) ≡ false
none_so_far test i ops op within is off before =
    let parts : take (i + 1) ops ≡ take i ops ++ op ∷ [] = ap (λ k. take k ops) (add-one i) ∙ (take-suc ops i op within ∙ ap (λ x. take i ops ++ x ∷ []) (sym is)) in
    ap (any_of test) parts ∙ (any_more test (take i ops) (op ∷ []) ∙ ((λ j. cond (before j) true (any_of test (op ∷ []))) ∙ ap (λ b. cond b true false) off))

pub one_is : (test : Op → Bool) (i : ℕ) (ops : List Op) (op : Op) → i < length ops → op ≡ get_or ops i op → test op ≡ true → any_of test ops ≡ true
one_is test i [] op within is on = absurd (omega arith)
one_is test zero (x ∷ ops) op within is on = ap (λ o. cond (test o) true (any_of test ops)) (sym is) ∙ ap (λ b. cond b true (any_of test ops)) on
one_is test (suc i) (x ∷ ops) op within is on = elim (test x) as (λ b. cond b true (any_of test ops) ≡ true) [ true ↦ refl | false ↦ one_is test i ops op (omega arith) is on ]

pub none_in_blocks : (test : Op → Bool) (k : ℕ) (blocks : List (List Op)) (ops : List Op) → slice_get blocks k ≡ Some ops → any_of test ops ≡ false → any_of test (all_ops (take k blocks)) ≡ false → any_of test (all_ops (take (k + 1) blocks)) ≡ false
none_in_blocks test k blocks ops at off before =
    ap (any_of test) (flat_more k blocks ops at) ∙ (any_more test (all_ops (take k blocks)) ops ∙ ((λ j. cond (before j) true (any_of test ops)) ∙ off))

pub one_in_block : (test : Op → Bool) (k : ℕ) (blocks : List (List Op)) (ops : List Op) → slice_get blocks k ≡ Some ops → any_of test ops ≡ true → any_of test (all_ops blocks) ≡ true
one_in_block test k [] ops at on = absurd (none_some ops at)
  where
    none_some : {A : Type 0} (x : A) → None ≡ Some x → ⊥
    none_some x e = cc
one_in_block test zero (x ∷ blocks) ops at on =
    let same : x ≡ ops = some_same x ops at in
    ap (any_of test) (flat_map-cons (λ ops. ops) x blocks) ∙ (any_more test x (all_ops blocks) ∙ ap (λ b. cond b true (any_of test (all_ops blocks))) (ap (any_of test) same ∙ on))
  where
    some_same : {A : Type 0} (x y : A) → Some x ≡ Some y → x ≡ y
    some_same x y e = cc
one_in_block test (suc k) (x ∷ blocks) ops at on =
    ap (any_of test) (flat_map-cons (λ ops. ops) x blocks)
    ∙ (any_more test x (all_ops blocks) ∙ elim (any_of test x) as (λ b. cond b true (any_of test (all_ops blocks)) ≡ true) [ true ↦ refl | false ↦ one_in_block test k blocks ops at on ])

-- an operation that is known
pub known_is : (test : Op → Bool) (op known : Op) → op ≡ known → test known ≡ true → true ≡ test op
known_is test op known is on = sym (ap test is ∙ on)

-- operations that ask for no memory
pub other_quiet : (op : Op) → ((x : Reg) (v : Operand) → op ≡ Load x v → ⊥) → ((x : Reg) (v : Operand) → op ≡ Store x v → ⊥) → false ≡ asks op
other_quiet (Mov x v) a b = refl
other_quiet (Add x v) a b = refl
other_quiet (Sub x v) a b = refl
other_quiet (Load x v) a b = absurd (a x v refl)
other_quiet (Store x v) a b = absurd (b x v refl)
other_quiet (Putc v) a b = refl
other_quiet (Getc x) a b = refl
other_quiet (Set test x v) a b = refl
other_quiet Exit a b = refl
other_quiet (Jump v) a b = refl
other_quiet (JumpIf test v x w) a b = refl

-- operations that are no conditional jump
pub no_branch : (op : Op) → ((test : Cond) (v : Operand) (x : Reg) (w : Operand) → op ≡ JumpIf test v x w → ⊥) → false ≡ is_branch op
no_branch (Mov x v) a = refl
no_branch (Add x v) a = refl
no_branch (Sub x v) a = refl
no_branch (Load x v) a = refl
no_branch (Store x v) a = refl
no_branch (Putc v) a = refl
no_branch (Getc x) a = refl
no_branch (Set test x v) a = refl
no_branch Exit a = refl
no_branch (Jump v) a = refl
no_branch (JumpIf test v x w) a = absurd (a test v x w refl)
