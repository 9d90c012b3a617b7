-- A step of a program, and the step or none of the trimmed program that stands for it.
use Rattle.std.proofs.Common.{◌≡◌, ◌⊎◌, inl, inr, ℕ, ◌+◌, ◌<◌, true, false, cond, List, [], ◌∷◌, length, drop, Option, None, Some, slice_get, nat_lt, refl, sym, ap, ◌∙◌, subst, arith}
use Rattle.std.proofs.lemmas.Bool.{cond-true, cond-false, both_ways}
use Rattle.word24.specs.Word.{IsWord}
use Rattle.eir_core.specs.declared.ops.Reg.{Reg}
use Rattle.eir_core.specs.declared.ops.Op.{Op}
use Rattle.eir_core.specs.Eir.{Eir, IsEir, is_jump}
use Rattle.eir_core.specs.Memory.{Memory}
use Rattle.eir_core.specs.Acts.{ops_at}
use Rattle.eir_core.specs.Laws.{JumpsEndBlocks}
use Rattle.eir_core.specs.Step.{Regs, Config, reg_of, op_at, length_at, onward, after}
use Rattle.eir_opt.specs.Trimming.{is_overwritten, is_dropped, trimmed}
use Rattle.eir_opt.specs.Optimised.{with_blocks}
use Rattle.eir_opt.proofs.Effects.{regs_after, memory_after, target_of, moved, after-moved}
use Rattle.eir_opt.proofs.BlockLists.{op_in-ops_at, ops_at-with_blocks, count-with_blocks, slice_get_from, drop_more, has_more, next-has_more}
use Rattle.eir_opt.proofs.Droppable.{IsInner, is_dropped-IsInner, dropped_leaves}
use Rattle.eir_opt.proofs.Seen.{SeesAs, sees_as, Agree, agree-reads, agree_after, goes_elsewhere}

-- the program with its blocks trimmed
abbrev pub trimmed_program : Eir → Eir
trimmed_program p = with_blocks trimmed p

-- the operations of the block from where a configuration stands
abbrev pub rest_at : Eir → Config → List Op
rest_at p c = drop c.index (ops_at p c.block)

-- the trimmed program stands at the kept ones of these operations, and its registers agree but where they are overwritten
pub record AtSame (p : Eir) (c d : Config) : Type 0 where
  pub place : drop d.index (trimmed (ops_at p c.block)) ≡ trimmed (rest_at p c)
  pub regs : Agree (trimmed (rest_at p c)) c.regs d.regs

pub record Related (p : Eir) (c d : Config) : Type 0 where
  pub block : d.block ≡ c.block
  pub memory : d.memory ≡ c.memory
  pub inside : c.block < length p.blocks → AtSame p c d

abbrev pub placed : ℕ → ℕ → Regs → Memory → Config
placed block index regs memory = record { block = block; index = index; regs = regs; memory = memory }

drop-zero : {A : Type 0} (xs : List A) → drop 0 xs ≡ xs
drop-zero [] = refl
drop-zero (x ∷ xs) = refl

-- at the front of a block all registers agree
pub related_front : (p : Eir) (k k' : ℕ) (x y : Regs) (m m' : Memory) → k' ≡ k → m' ≡ m → (k < length p.blocks → (r : Reg) → reg_of y r ≡ reg_of x r)
    → Related p (placed k 0 x m) (placed k' 0 y m')
related_front p k k' x y m m' block memory regs = record {
  block = block;
  memory = memory;
  inside = λ within. record {
    place = drop-zero (trimmed (ops_at p k)) ∙ ap trimmed (sym (drop-zero (ops_at p k)));
    regs = λ r _. regs within r;
  };
}

trimmed-kept : (op : Op) (more : List Op) → is_dropped op (trimmed more) ≡ false → trimmed (op ∷ more) ≡ op ∷ trimmed more
trimmed-kept op more e = cond-false (is_dropped op (trimmed more)) (trimmed more) (op ∷ trimmed more) e

trimmed-dropped : (op : Op) (more : List Op) → is_dropped op (trimmed more) ≡ true → trimmed (op ∷ more) ≡ trimmed more
trimmed-dropped op more e = cond-true (is_dropped op (trimmed more)) (trimmed more) (op ∷ trimmed more) e

has_more-dropped : (op : Op) (kept : List Op) → is_dropped op kept ≡ true → has_more kept ≡ true
has_more-dropped op [] e = e
has_more-dropped op (next ∷ kept) e = refl

-- operations are trimmed to none only where there is none
pub has_more-trimmed : (ops : List Op) → has_more (trimmed ops) ≡ has_more ops
has_more-trimmed [] = refl
has_more-trimmed (op ∷ ops) =
    elim (is_dropped op (trimmed ops)) as (λ b. is_dropped op (trimmed ops) ≡ b → has_more (cond b (trimmed ops) (op ∷ trimmed ops)) ≡ true)
    [ true ↦ λ e. has_more-dropped op (trimmed ops) e | false ↦ λ e. refl ] refl

none_more : (ops : List Op) → has_more ops ≡ false → ops ≡ []
none_more [] e = refl
none_more (op ∷ ops) e = absurd (both_ways true e refl)

-- on from an operation, where more or none of the block follow it
onward-more : (p : Eir) (c : Config) (op : Op) (more : List Op) (regs : Regs) (memory : Memory) → rest_at p c ≡ op ∷ more
    → onward p c regs memory ≡ cond (has_more more) (placed c.block (c.index + 1) regs memory) (placed (c.block + 1) 0 regs memory)
onward-more p c op more regs memory rest =
    ap (λ b. cond b (placed c.block (c.index + 1) regs memory) (placed (c.block + 1) 0 regs memory)) (next-has_more (ops_at p c.block) c.index op more rest)

-- a step over a dropped operation: the trimmed program stays
pub dropped_step : (p : Eir) (c d : Config) (op : Op) (more : List Op) (byte : ℕ) → Related p c d → c.block < length p.blocks
    → ((r : Reg) → IsWord (reg_of c.regs r)) → rest_at p c ≡ op ∷ more → is_dropped op (trimmed more) ≡ true
    → ((after p c (Some op) byte).index ≡ c.index + 1) × Related p (after p c (Some op) byte) d
dropped_step p c d op more byte related within words rest dropped =
    let inner : IsInner op = is_dropped-IsInner op (trimmed more) dropped in
    let x : Regs = regs_after op c.regs c.memory byte in
    let ops : List Op = ops_at p c.block in
    let followed : has_more more ≡ true = sym (has_more-trimmed more) ∙ has_more-dropped op (trimmed more) dropped in
    let next : Config = placed c.block (c.index + 1) x c.memory in
    let goes : after p c (Some op) byte ≡ next =
    after-moved p c op byte
    ∙ (ap (λ t. moved p c t x (memory_after op c.regs c.memory)) (inner.goes_on (length p.blocks) c.regs)
    ∙ (ap (onward p c x) (inner.memory_kept c.regs c.memory)
    ∙ (onward-more p c op more x c.memory rest
    ∙ ap (λ b. cond b next (placed (c.block + 1) 0 x c.memory)) followed))) in
    let same : AtSame p c d = related.inside within in
    let before : trimmed (rest_at p c) ≡ trimmed more = ap trimmed rest ∙ trimmed-dropped op more dropped in
    let later : trimmed (drop (c.index + 1) ops) ≡ trimmed more = ap trimmed (drop_more ops c.index op more rest) in
    let there : Related p next d = record {
      block = related.block;
      memory = related.memory;
      inside = λ _. record {
        place = same.place ∙ (before ∙ sym later);
        regs = λ r unset.
            let open_before : is_overwritten (trimmed more) r ≡ false = ap (λ k. is_overwritten k r) (sym later) ∙ unset in
            same.regs r (ap (λ k. is_overwritten k r) before ∙ open_before) ∙ sym (dropped_leaves op (trimmed more) c.regs c.memory byte r words dropped open_before);
      };
    } in
    (ap (λ (e : Config). e.index) goes, subst (λ e. Related p e d) (sym goes) there)

-- where a step over a kept operation of both programs leads
kept_moved : (p : Eir) (c d : Config) (op : Op) (more : List Op) (x y : Regs) (m m' : Memory) (t : Option ℕ) → JumpsEndBlocks → IsEir p
    → d.block ≡ c.block → m' ≡ m → rest_at p c ≡ op ∷ more → drop d.index (trimmed (ops_at p c.block)) ≡ op ∷ trimmed more
    → op_at p c ≡ Some op → target_of (length p.blocks) op c.regs ≡ t → Agree (trimmed more) x y
    → Related p (moved p c t x m) (moved (trimmed_program p) d t y m')
kept_moved p c d op more x y m m' (Some k) jumps is block memory rest place at target agree =
    related_front p k k x y m m' refl memory (λ within r. by within (goes_elsewhere op (length p.blocks) k c.regs target) r)
  where
    all_agree : is_jump op ≡ true → (r : Reg) → reg_of y r ≡ reg_of x r
    all_agree jump r =
        let last : c.index + 1 ≡ length_at p c.block = jumps p c.block c.index op is at jump in
        let test : nat_lt (c.index + 1) (length_at p c.block) ≡ false = grind arith in
        let none : more ≡ [] = none_more more (sym (next-has_more (ops_at p c.block) c.index op more rest) ∙ test) in
        agree r (ap (λ k. is_overwritten (trimmed k) r) none)

    by : k < length p.blocks → (is_jump op ≡ true) ⊎ (k ≡ length p.blocks) → (r : Reg) → reg_of y r ≡ reg_of x r
    by within (inl jump) r = all_agree jump r
    by within (inr out) r = absurd (omega arith)
kept_moved p c d op more x y m m' None jumps is block memory rest place at target agree =
    subst (λ e. Related p e (onward q d y m')) (sym (onward-more p c op more x m rest))
    (subst (λ e. Related p (cond (has_more more) (placed c.block (c.index + 1) x m) (placed (c.block + 1) 0 x m)) e) (sym on)
    (elim (has_more more) as (λ b. has_more more ≡ b → Related p (cond b (placed c.block (c.index + 1) x m) (placed (c.block + 1) 0 x m)) (cond b (placed d.block (d.index + 1) y m') (placed (d.block + 1) 0 y m'))) [
      | true ↦ λ e. record {
        block = block;
        memory = memory;
        inside = λ _. record {
          place = drop_more (trimmed ops) d.index op (trimmed more) place ∙ sym later;
          regs = λ r unset. agree r (ap (λ k. is_overwritten k r) (sym later) ∙ unset);
        };
      }
      | false ↦ λ e. related_front p (c.block + 1) (d.block + 1) x y m m' (ap (λ k. k + 1) block) memory (λ _ r. agree r (ap (λ k. is_overwritten (trimmed k) r) (none_more more e)))
    ] refl))
  where
    ops : List Op
    ops = ops_at p c.block

    q : Eir
    q = trimmed_program p

    here : ops_at q d.block ≡ trimmed ops
    here = ops_at-with_blocks trimmed p d.block refl ∙ ap (λ k. trimmed (ops_at p k)) block

    later : trimmed (drop (c.index + 1) ops) ≡ trimmed more
    later = ap trimmed (drop_more ops c.index op more rest)

    on : onward q d y m' ≡ cond (has_more more) (placed d.block (d.index + 1) y m') (placed (d.block + 1) 0 y m')
    on =
        onward-more q d op (trimmed more) y m' (ap (drop d.index) here ∙ place)
        ∙ ap (λ b. cond b (placed d.block (d.index + 1) y m') (placed (d.block + 1) 0 y m')) (has_more-trimmed more)

-- a step over a kept operation: the trimmed program makes the same
pub record KeptStep (p : Eir) (c d : Config) (op : Op) (byte : ℕ) : Type 0 where
  pub here : op_at (trimmed_program p) d ≡ Some op
  pub sees : SeesAs op c.regs d.regs
  pub related : Related p (after p c (Some op) byte) (after (trimmed_program p) d (Some op) byte)

pub kept_step : (p : Eir) (c d : Config) (op : Op) (more : List Op) (byte : ℕ) → JumpsEndBlocks → IsEir p → Related p c d → c.block < length p.blocks
    → op_at p c ≡ Some op → rest_at p c ≡ op ∷ more → is_dropped op (trimmed more) ≡ false → KeptStep p c d op byte
kept_step p c d op more byte jumps is related within at rest kept =
    let q : Eir = trimmed_program p in
    let ops : List Op = ops_at p c.block in
    let same : AtSame p c d = related.inside within in
    let before : trimmed (rest_at p c) ≡ op ∷ trimmed more = ap trimmed rest ∙ trimmed-kept op more kept in
    let place : drop d.index (trimmed ops) ≡ op ∷ trimmed more = same.place ∙ before in
    let there : ops_at q d.block ≡ trimmed ops = ops_at-with_blocks trimmed p d.block refl ∙ ap (λ k. trimmed (ops_at p k)) related.block in
    let here : op_at q d ≡ Some op = op_in-ops_at q d.block d.index ∙ (ap (λ os. slice_get os d.index) there ∙ slice_get_from (trimmed ops) d.index op (trimmed more) place) in
    let agree : Agree (op ∷ trimmed more) c.regs d.regs = subst (λ k. Agree k c.regs d.regs) before same.regs in
    let sees : SeesAs op c.regs d.regs = sees_as op c.regs d.regs (agree-reads op (trimmed more) c.regs d.regs agree) in
    let x : Regs = regs_after op c.regs c.memory byte in
    let y : Regs = regs_after op d.regs c.memory byte in
    let m : Memory = memory_after op c.regs c.memory in
    let m' : Memory = memory_after op d.regs d.memory in
    let t : Option ℕ = target_of (length p.blocks) op c.regs in
    let goes : after q d (Some op) byte ≡ moved q d t y m' =
    after-moved q d op byte
    ∙ (ap (λ n. moved q d (target_of n op d.regs) (regs_after op d.regs d.memory byte) m') (count-with_blocks trimmed p)
    ∙ (ap (λ o. moved q d o (regs_after op d.regs d.memory byte) m') (sees.target_same (length p.blocks))
    ∙ ap (λ e. moved q d t (regs_after op d.regs e byte) m') related.memory)) in
    let memory : m' ≡ m = ap (memory_after op d.regs) related.memory ∙ sees.memory_same c.memory in
    let after_it : Related p (moved p c t x m) (moved q d t y m') =
    kept_moved p c d op more x y m m' t jumps is related.block memory rest place at refl (agree_after op (trimmed more) c.regs d.regs c.memory byte agree) in
    record {
      here = here;
      sees = sees;
      related = subst (λ e. Related p e (after q d (Some op) byte)) (sym (after-moved p c op byte)) (subst (λ e. Related p (moved p c t x m) e) (sym goes) after_it);
    }
