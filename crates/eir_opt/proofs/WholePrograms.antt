-- What folding and trimming make of a program is a program, and runs as the program does.
use Rattle.std.proofs.Common.{◌≡◌, ℕ, suc, ◌+◌, ◌-◌, ◌*◌, ◌≤◌, ◌==◌, Bool, true, false, not, cond, ◌||◌, List, [], ◌∷◌, length, take, map, position, None, Some, nat_lt, refl, sym, ap, ◌∙◌, subst, arith}
use Rattle.std.specs.List.{prefix_len, position_or_len, list_any}
use Rattle.std.proofs.lemmas.Bool.{ltb-false, le-ltb, ne_eqb, or_parts, or_from}
use Rattle.mach_core.specs.declared.machine.Status.{Status}
use Rattle.mach_core.specs.declared.machine.Status.TheVariants.{Going, Ended}
use Rattle.mach_core.specs.Rule.{Moment}
use Rattle.word24.specs.Word.{sum_word, difference_word}
use Rattle.eir_core.specs.declared.ops.Op.{Op}
use Rattle.eir_core.specs.declared.ops.Op.TheVariants.{Mov, Add, Sub, Load, Store, Putc, Getc, Exit, Set, Jump, JumpIf}
use Rattle.eir_core.specs.Eir.{Eir, IsEir, size_of, is_jump, is_empty, has_jump_inside}
use Rattle.eir_core.specs.Reach.{reach}
use Rattle.eir_core.specs.Step.{Config, eir_rule}
use Rattle.eir_opt.specs.ByRegister.{at}
use Rattle.eir_opt.specs.Folding.{Known, none_known, folded_op, known_after, folded_from, folded, made, told, constant_in, operand_in}
use Rattle.eir_opt.specs.Trimming.{is_dropped, trimmed}
use Rattle.eir_opt.specs.Optimised.{with_blocks, optimised}
use Rattle.eir_opt.specs.Alike.{moment, AreAlike, RunsAlike}
use Rattle.eir_opt.specs.Laws.{FoldingKeepsSteps, TrimmingLeavesStepsOut}
use Rattle.eir_opt.proofs.BlockLists.{count-with_blocks, has_more}
use Rattle.eir_opt.proofs.FoldedOps.{mov_or_cases}
use Rattle.eir_opt.proofs.FoldedRuns.{length-folded_from, size_of-folded}
use Rattle.eir_opt.proofs.Kept.{has_more-trimmed}
use Rattle.eir_opt.proofs.TrimmedRuns.{size_of-trimmed}

cond_none : {A : Type 0} (b : Bool) (x : A) → cond b (Some x) None ≡ None → b ≡ false
cond_none true x e = absurd (cc)
cond_none false x e = refl

all_pass : {A : Type 0} (test : A → Bool) (f : A → A) (xs : List A) → ((x : A) → test x ≡ false → test (f x) ≡ false)
    → length xs ≤ prefix_len (λ x. not (test x)) xs → length (map f xs) ≤ prefix_len (λ x. not (test x)) (map f xs)
all_pass test f [] keeps all = omega arith
all_pass test f (x ∷ xs) keeps all =
    elim (test x) as (λ b. test x ≡ b → suc (length xs) ≤ cond (not b) (1 + prefix_len (λ y. not (test y)) xs) 0 → suc (length (map f xs)) ≤ cond (not (test (f x))) (1 + prefix_len (λ y. not (test y)) (map f xs)) 0) [
      | true ↦ λ e h. absurd (omega arith)
      | false ↦ λ e h.
          let rest : length (map f xs) ≤ prefix_len (λ y. not (test y)) (map f xs) = all_pass test f xs keeps (omega arith) in
          subst (λ b. suc (length (map f xs)) ≤ cond (not b) (1 + prefix_len (λ y. not (test y)) (map f xs)) 0) (sym (keeps x e)) (omega (arith, rest))
    ] refl all

-- what isn't found in a list isn't found where each element is changed to one that doesn't pass either
position_none-map : {A : Type 0} (test : A → Bool) (f : A → A) (xs : List A) → ((x : A) → test x ≡ false → test (f x) ≡ false) → position test xs ≡ None → position test (map f xs) ≡ None
position_none-map test f xs keeps none =
    let all : length xs ≤ position_or_len test xs = ltb-false (position_or_len test xs) (length xs) (cond_none _ (position_or_len test xs) none) in
    let test_is : nat_lt (position_or_len test (map f xs)) (length (map f xs)) ≡ false = le-ltb (position_or_len test (map f xs)) (length (map f xs)) (all_pass test f xs keeps all) in
    ap (λ b. cond b (Some (position_or_len test (map f xs))) None) test_is

-- a change of blocks that keeps good blocks good and makes a program no larger makes a program
with_blocks-IsEir : (change : List Op → List Op) (p : Eir) → IsEir p
    → ((ops : List Op) → is_empty ops ≡ false → is_empty (change ops) ≡ false)
    → ((ops : List Op) → has_jump_inside ops ≡ false → has_jump_inside (change ops) ≡ false)
    → size_of (with_blocks change p) ≤ size_of p
    → IsEir (with_blocks change p)
with_blocks-IsEir change p is filled jumps small = record {
  blocks = record {
    filled = position_none-map is_empty change p.blocks filled is.blocks.filled;
    jumps = position_none-map has_jump_inside change p.blocks jumps is.blocks.jumps;
  };
  start = subst (λ n. p.start ≤ n) (sym (count-with_blocks change p)) is.start;
  size = omega (arith, small, is.size);
}

-- a jump inside stands first, or inside what follows
jump_inside-cons : (op x : Op) (ops : List Op) → has_jump_inside (op ∷ x ∷ ops) ≡ (is_jump op || has_jump_inside (x ∷ ops))
jump_inside-cons op x ops =
    let more : suc (suc (length ops)) - 1 ≡ suc (suc (length ops) - 1) = omega arith in
    ap (λ k. list_any is_jump (take k (op ∷ x ∷ ops))) more

is_jump-folded_op : (known : Known) (op : Op) → is_jump (folded_op known op) ≡ is_jump op
is_jump-folded_op known (Mov r v) = refl
is_jump-folded_op known (Add r v) = mov_or_cases r (made sum_word (at known r) (constant_in known v)) (Add r (operand_in known v)) (λ op. is_jump op ≡ false) refl (λ w. refl)
is_jump-folded_op known (Sub r v) = mov_or_cases r (made difference_word (at known r) (constant_in known v)) (Sub r (operand_in known v)) (λ op. is_jump op ≡ false) refl (λ w. refl)
is_jump-folded_op known (Load r v) = refl
is_jump-folded_op known (Store r v) = refl
is_jump-folded_op known (Putc v) = refl
is_jump-folded_op known (Getc r) = refl
is_jump-folded_op known Exit = refl
is_jump-folded_op known (Set test r v) = mov_or_cases r (made (told test) (at known r) (constant_in known v)) (Set test r (operand_in known v)) (λ op. is_jump op ≡ false) refl (λ w. refl)
is_jump-folded_op known (Jump target) = refl
is_jump-folded_op known (JumpIf test target r v) = refl

jump_inside-folded_from : (known : Known) (ops : List Op) → has_jump_inside (folded_from known ops) ≡ has_jump_inside ops
jump_inside-folded_from known [] = refl
jump_inside-folded_from known (op ∷ []) = refl
jump_inside-folded_from known (op ∷ x ∷ ops) =
    let next : Known = known_after known (folded_op known op) in
    jump_inside-cons (folded_op known op) (folded_op next x) (folded_from (known_after next (folded_op next x)) ops)
    ∙ (ap (λ b. b || has_jump_inside (folded_from next (x ∷ ops))) (is_jump-folded_op known op)
    ∙ (ap (λ b. is_jump op || b) (jump_inside-folded_from next (x ∷ ops))
    ∙ sym (jump_inside-cons op x ops)))

jump_before : (op : Op) (kept : List Op) → is_jump op ≡ false → has_jump_inside kept ≡ false → has_jump_inside (op ∷ kept) ≡ false
jump_before op [] jump inside = refl
jump_before op (x ∷ kept) jump inside = jump_inside-cons op x kept ∙ or_from (is_jump op) (has_jump_inside (x ∷ kept)) jump inside

jump_inside-trimmed : (ops : List Op) → has_jump_inside ops ≡ false → has_jump_inside (trimmed ops) ≡ false
jump_inside-trimmed [] e = refl
jump_inside-trimmed (op ∷ []) e = refl
jump_inside-trimmed (op ∷ x ∷ ops) e =
    let parts = or_parts (is_jump op) (has_jump_inside (x ∷ ops)) (sym (jump_inside-cons op x ops) ∙ e) in
    let rest : has_jump_inside (trimmed (x ∷ ops)) ≡ false = jump_inside-trimmed (x ∷ ops) parts.1 in
    elim (is_dropped op (trimmed (x ∷ ops))) as (λ b. has_jump_inside (cond b (trimmed (x ∷ ops)) (op ∷ trimmed (x ∷ ops))) ≡ false)
    [ true ↦ rest | false ↦ jump_before op (trimmed (x ∷ ops)) parts.0 rest ]

empty-has_more : (ops : List Op) → is_empty ops ≡ not (has_more ops)
empty-has_more [] = refl
empty-has_more (op ∷ ops) = ne_eqb (suc (length ops)) 0 (λ e. absurd (omega arith))

pub folded-IsEir : (p : Eir) → IsEir p → IsEir (with_blocks folded p)
folded-IsEir p is =
    with_blocks-IsEir folded p is
    (λ ops e. ap (λ n. n == 0) (length-folded_from none_known ops) ∙ e)
    (λ ops e. jump_inside-folded_from none_known ops ∙ e)
    (omega (arith, size_of-folded p))

pub trimmed-IsEir : (p : Eir) → IsEir p → IsEir (with_blocks trimmed p)
trimmed-IsEir p is =
    with_blocks-IsEir trimmed p is
    (λ ops e. empty-has_more (trimmed ops) ∙ (ap not (has_more-trimmed ops) ∙ (sym (empty-has_more ops) ∙ e)))
    jump_inside-trimmed
    (size_of-trimmed p)

map-map : {A : Type 0} (f g : A → A) (xs : List A) → map g (map f xs) ≡ map (λ x. g (f x)) xs
map-map f g [] = refl
map-map f g (x ∷ xs) = ap (λ ys. g (f x) ∷ ys) (map-map f g xs)

-- to optimise is to fold and then to trim
pub optimised-passes : (p : Eir) → with_blocks trimmed (with_blocks folded p) ≡ optimised p
optimised-passes p = ap (λ bs. record { blocks = bs; words = p.words; start = p.start }) (map-map folded trimmed p.blocks)

pub optimised-IsEir : (p : Eir) → IsEir p → IsEir (optimised p)
optimised-IsEir p is = subst IsEir (optimised-passes p) (trimmed-IsEir (with_blocks folded p) (folded-IsEir p is))

-- how a program of so many blocks stands at one of them
abbrev standing_of : ℕ → ℕ → Status
standing_of count block = cond (nat_lt block count) Going Ended

-- programs that run step for step as one another run alike with what runs alike with either
after_folding : FoldingKeepsSteps → (p q : Eir) (input : List ℕ) (n m : ℕ) → AreAlike (with_blocks folded p) q input n m → AreAlike p q input n m
after_folding folds p q input n m alike =
    let moments : moment (with_blocks folded p) input n ≡ moment p input n = folds.moments p input n in
    let stands : (eir_rule (with_blocks folded p)).standing (moment (with_blocks folded p) input n).config ≡ (eir_rule p).standing (moment p input n).config =
    ap (λ (s : Moment Config). (eir_rule (with_blocks folded p)).standing s.config) moments ∙ ap (λ k. standing_of k (moment p input n).config.block) (count-with_blocks folded p) in
    record {
      fewer = alike.fewer;
      enough = subst (λ size. n ≤ (size + 1) * (m + 1)) (folds.size p) alike.enough;
      output = alike.output ∙ ap (λ (s : Moment Config). s.output) moments;
      taken = alike.taken ∙ ap (λ (s : Moment Config). s.taken) moments;
      ended = (λ e. sym stands ∙ alike.ended.0 e, λ e. alike.ended.1 (stands ∙ e));
      reach = subst (λ far. reach q input m ≤ far) (folds.reach p input n) alike.reach;
    }

-- an optimised program runs as the program does
pub optimised_runs_alike : FoldingKeepsSteps → TrimmingLeavesStepsOut → (p : Eir) → IsEir p → RunsAlike p (optimised p)
optimised_runs_alike folds trims p is =
    let made_of : RunsAlike (with_blocks folded p) (with_blocks trimmed (with_blocks folded p)) = trims (with_blocks folded p) (folded-IsEir p is) in
    let alike : RunsAlike (with_blocks folded p) (optimised p) = subst (RunsAlike (with_blocks folded p)) (optimised-passes p) made_of in
    record {
      follows = λ input n is_input.
          let found = alike.follows input n is_input in
          (found.0, after_folding folds p (optimised p) input n found.0 found.1);
      leads = λ input m is_input.
          let found = alike.leads input m is_input in
          (found.0, after_folding folds p (optimised p) input found.0 m found.1);
      size = omega (arith, alike.size, folds.size p);
    }
