-- A trimmed program runs as the program does, with steps left out.
use Rattle.std.proofs.Common.{◌≡◌, ◌⊎◌, inl, inr, ℕ, zero, suc, ◌+◌, ◌*◌, ◌<◌, ◌≤◌, true, false, cond, max, List, [], ◌∷◌, ◌++◌, length, drop, map, Option, None, Some, IsSome, slice_get, unwrap_or, nat_lt, sum_by, refl, sym, ap, ◌∙◌, subst, arith}
use Rattle.std.proofs.Math.Nat.{mul-le-mul_left}
use Rattle.std.proofs.lemmas.Bool.{ltb-true, ltb-false}
use Rattle.std.proofs.lemmas.List.{append-nil}
use Rattle.std.proofs.lemmas.List.Sums.{sum_by-cons}
use Rattle.mach_core.specs.declared.machine.Status.TheVariants.{Going, Ended}
use Rattle.mach_core.specs.Rule.{Moment, IsInput, input_at, if_going, stepped, applied}
use Rattle.eir_core.specs.declared.ops.Op.{Op}
use Rattle.eir_core.specs.Eir.{Eir, IsEir, size_of}
use Rattle.eir_core.specs.Memory.{Memory}
use Rattle.eir_core.specs.Acts.{ops_at}
use Rattle.eir_core.specs.Laws.{WordsStayWords, RunsMeetOperations, JumpsEndBlocks}
use Rattle.eir_core.specs.Reach.{near_of, near_at, reach}
use Rattle.eir_core.specs.Step.{Regs, Config, op_at, length_at, onward, after, takes, bytes_of, eir_rule, eir_start}
use Rattle.eir_opt.specs.Trimming.{is_dropped, trimmed}
use Rattle.eir_opt.specs.Optimised.{with_blocks}
use Rattle.eir_opt.specs.Alike.{moment, AreAlike}
use Rattle.eir_opt.specs.Laws.{TrimmingLeavesStepsOut}
use Rattle.eir_opt.proofs.Effects.{regs_after, memory_after, target_of, moved, after-moved}
use Rattle.eir_opt.proofs.BlockLists.{op_in-ops_at, ops_at-past, count-with_blocks, drop_from}
use Rattle.eir_opt.proofs.Droppable.{IsInner, is_dropped-IsInner}
use Rattle.eir_opt.proofs.Kept.{trimmed_program, rest_at, Related, related_front, dropped_step, KeptStep, kept_step}

-- a moment of a program and one of the trimmed program after so many steps, which reached so far
record MetAt (p : Eir) (n m far far' : ℕ) (s t : Moment Config) : Type 0 where
  related : Related p s.config t.config
  output : t.output ≡ s.output
  taken : t.taken ≡ s.taken
  few : m ≤ n
  many : n ≤ (size_of p + 1) * m + s.config.index
  placed : s.config.index ≤ size_of p
  reach : far' ≤ far

abbrev Met : Eir → List ℕ → ℕ → ℕ → Type 0
Met p input n m = MetAt p n m (reach p input n) (reach (trimmed_program p) input m) (moment p input n) (moment (trimmed_program p) input m)

-- a step that makes this operation
abbrev made_by : Eir → List ℕ → Moment Config → Option Op → Moment Config
made_by p input m o = record {
  config = after p m.config o (cond (takes o) (input_at input m.taken) 0);
  taken = cond (takes o) (m.taken + 1) m.taken;
  output = m.output ++ bytes_of m.config.regs o;
}

applied-op : (p : Eir) (input : List ℕ) (m : Moment Config) (op : Op) → nat_lt m.config.block (length p.blocks) ≡ true → op_at p m.config ≡ Some op
    → applied (eir_rule p) input m ≡ made_by p input m (Some op)
applied-op p input m op going at =
    ap (λ b. if_going (cond b Going Ended) (stepped (eir_rule p) input m) m) going ∙ ap (made_by p input m) at

applied-still : (p : Eir) (input : List ℕ) (m : Moment Config) → nat_lt m.config.block (length p.blocks) ≡ false → applied (eir_rule p) input m ≡ m
applied-still p input m still = ap (λ b. if_going (cond b Going Ended) (stepped (eir_rule p) input m) m) still

-- a block is no larger than the program
length-le-sum : (blocks : List (List Op)) (k : ℕ) → length (unwrap_or (slice_get blocks k) []) ≤ sum_by length blocks
length-le-sum [] k = omega arith
length-le-sum (ops ∷ blocks) zero = omega (arith, sum_by-cons length ops blocks)
length-le-sum (ops ∷ blocks) (suc k) = omega (arith, sum_by-cons length ops blocks, length-le-sum blocks k)

-- an operation leads to an index within the program's size
onward_placed : (p : Eir) (c : Config) (regs : Regs) (memory : Memory) → (onward p c regs memory).index ≤ size_of p
onward_placed p c regs memory =
    elim (nat_lt (c.index + 1) (length_at p c.block)) as (λ b. nat_lt (c.index + 1) (length_at p c.block) ≡ b → (cond {A = Config} b (record { block = c.block; index = c.index + 1; regs = regs; memory = memory }) (record { block = c.block + 1; index = 0; regs = regs; memory = memory })).index ≤ size_of p) [
      | true ↦ λ e. omega (arith, ltb-true (c.index + 1) (length_at p c.block) e, length-le-sum p.blocks c.block)
      | false ↦ λ e. omega arith
    ] refl

moved_placed : (p : Eir) (c : Config) (t : Option ℕ) (regs : Regs) (memory : Memory) → (moved p c t regs memory).index ≤ size_of p
moved_placed p c None regs memory = onward_placed p c regs memory
moved_placed p c (Some k) regs memory = omega arith

after_placed : (p : Eir) (c : Config) (op : Op) (byte : ℕ) → (after p c (Some op) byte).index ≤ size_of p
after_placed p c op byte =
    subst (λ (e : Config). e.index ≤ size_of p) (sym (after-moved p c op byte)) (moved_placed p c (target_of (length p.blocks) op c.regs) (regs_after op c.regs c.memory byte) (memory_after op c.regs c.memory))

-- behind the last block nothing is loaded or stored
near_past : (p : Eir) (c : Config) → length p.blocks ≤ c.block → near_at p c ≡ 0
near_past p c past = ap (near_of c.regs) (op_in-ops_at p c.block c.index ∙ ap (λ ops. slice_get ops c.index) (ops_at-past p c.block past))

-- the trimmed program is going exactly if the program is
going_same : (p : Eir) (c d : Config) → d.block ≡ c.block → nat_lt d.block (length (trimmed_program p).blocks) ≡ nat_lt c.block (length p.blocks)
going_same p c d block = ap (λ n. nat_lt d.block n) (count-with_blocks trimmed p) ∙ ap (λ k. nat_lt k (length p.blocks)) block

still_more : (p : Eir) (n m far far' near near' : ℕ) (s t : Moment Config) → MetAt p n m far far' s t → near' ≡ 0 → MetAt p (suc n) (suc m) (max far near) (max far' near') s t
still_more p n m far far' near near' s t met none = record {
  related = met.related;
  output = met.output;
  taken = met.taken;
  few = omega (arith, met.few);
  many = omega (arith, met.many);
  placed = met.placed;
  reach = omega (arith, met.reach);
}

dropped_more : (p : Eir) (input : List ℕ) (n m far far' near : ℕ) (s t : Moment Config) (op : Op) → MetAt p n m far far' s t → IsInner op
    → ((byte : ℕ) → ((after p s.config (Some op) byte).index ≡ s.config.index + 1) × Related p (after p s.config (Some op) byte) t.config)
    → MetAt p (suc n) m (max far near) far' (made_by p input s (Some op)) t
dropped_more p input n m far far' near s t op met inner step =
    let byte : ℕ = cond (takes (Some op)) (input_at input s.taken) 0 in
    record {
      related = (step byte).1;
      output = met.output ∙ (sym (append-nil s.output) ∙ ap (λ bytes. s.output ++ bytes) (sym (inner.writes_none s.config.regs)));
      taken = met.taken ∙ ap (λ b. cond b (s.taken + 1) s.taken) (sym inner.takes_none);
      few = omega (arith, met.few);
      many = omega (arith, met.many, (step byte).0);
      placed = after_placed p s.config op byte;
      reach = omega (arith, met.reach);
    }

kept_more : (p : Eir) (input : List ℕ) (n m far far' near near' : ℕ) (s t : Moment Config) (op : Op) → MetAt p n m far far' s t
    → ((byte : ℕ) → KeptStep p s.config t.config op byte) → near' ≡ near
    → MetAt p (suc n) (suc m) (max far near) (max far' near') (made_by p input s (Some op)) (made_by (trimmed_program p) input t (Some op))
kept_more p input n m far far' near near' s t op met step same_near =
    let q : Eir = trimmed_program p in
    let byte : ℕ = cond (takes (Some op)) (input_at input s.taken) 0 in
    let fed : cond (takes (Some op)) (input_at input t.taken) 0 ≡ byte = ap (λ k. cond (takes (Some op)) (input_at input k) 0) met.taken in
    let made = step byte in
    record {
      related = subst (λ b. Related p (after p s.config (Some op) byte) (after q t.config (Some op) b)) (sym fed) made.related;
      output = ap (λ o. o ++ bytes_of t.config.regs (Some op)) met.output ∙ ap (λ bytes. s.output ++ bytes) made.sees.writes_same;
      taken = ap (λ k. cond (takes (Some op)) (k + 1) k) met.taken;
      few = omega (arith, met.few);
      many = omega (arith, met.many, met.placed);
      placed = after_placed p s.config op byte;
      reach = omega (arith, met.reach, same_near);
    }

some_op : (o : Option Op) → IsSome o → (op : Op) × (o ≡ Some op)
some_op None some = absurd (cc)
some_op (Some op) some = (op, refl)

-- what is known of all runs of a program
record Facts (p : Eir) : Type 0 where
  is : IsEir p
  words : WordsStayWords
  meets : RunsMeetOperations
  jumps : JumpsEndBlocks

going_step : (p : Eir) (input : List ℕ) (n m : ℕ) (op : Op) → Facts p → IsInput input → Met p input n m
    → nat_lt (moment p input n).config.block (length p.blocks) ≡ true → op_at p (moment p input n).config ≡ Some op
    → Met p input (suc n) m ⊎ Met p input (suc n) (suc m)
going_step p input n m op facts is_input met going at =
    elim (is_dropped op (trimmed more)) as (λ b. is_dropped op (trimmed more) ≡ b → Met p input (suc n) m ⊎ Met p input (suc n) (suc m)) [
      | true ↦ λ e. inl (subst (λ x. MetAt p (suc n) m (reach p input (suc n)) (reach q input m) x t) (sym p_step)
          (dropped_more p input n m (reach p input n) (reach q input m) (near_at p s.config) s t op met (is_dropped-IsInner op (trimmed more) e)
          (λ byte. dropped_step p s.config t.config op more byte met.related within (facts.words p input n is_input).regs rest e)))
      | false ↦ λ e.
          let step : (byte : ℕ) → KeptStep p s.config t.config op byte = λ byte. kept_step p s.config t.config op more byte facts.jumps facts.is met.related within at rest e in
          let near : near_at q t.config ≡ near_at p s.config = ap (near_of t.config.regs) (step 0).here ∙ ((step 0).sees.near_same ∙ ap (near_of s.config.regs) (sym at)) in
          let q_step : applied (eir_rule q) input t ≡ made_by q input t (Some op) = applied-op q input t op (going_same p s.config t.config met.related.block ∙ going) (step 0).here in
          inr (subst (λ x. MetAt p (suc n) (suc m) (reach p input (suc n)) (reach q input (suc m)) x (applied (eir_rule q) input t)) (sym p_step)
          (subst (λ x. MetAt p (suc n) (suc m) (reach p input (suc n)) (reach q input (suc m)) (made_by p input s (Some op)) x) (sym q_step)
          (kept_more p input n m (reach p input n) (reach q input m) (near_at p s.config) (near_at q t.config) s t op met step near)))
    ] refl
  where
    q : Eir
    q = trimmed_program p

    s : Moment Config
    s = moment p input n

    t : Moment Config
    t = moment q input m

    more : List Op
    more = drop (suc s.config.index) (ops_at p s.config.block)

    within : s.config.block < length p.blocks
    within = ltb-true s.config.block (length p.blocks) going

    rest : rest_at p s.config ≡ op ∷ more
    rest = drop_from (ops_at p s.config.block) s.config.index op (sym (op_in-ops_at p s.config.block s.config.index) ∙ at)

    p_step : applied (eir_rule p) input s ≡ made_by p input s (Some op)
    p_step = applied-op p input s op going at

still_step : (p : Eir) (input : List ℕ) (n m : ℕ) → Met p input n m → nat_lt (moment p input n).config.block (length p.blocks) ≡ false → Met p input (suc n) (suc m)
still_step p input n m met still =
    let q : Eir = trimmed_program p in
    let s : Moment Config = moment p input n in
    let t : Moment Config = moment q input m in
    let far : nat_lt t.config.block (length q.blocks) ≡ false = going_same p s.config t.config met.related.block ∙ still in
    subst (λ x. MetAt p (suc n) (suc m) (reach p input (suc n)) (reach q input (suc m)) x (applied (eir_rule q) input t)) (sym (applied-still p input s still))
    (subst (λ x. MetAt p (suc n) (suc m) (reach p input (suc n)) (reach q input (suc m)) s x) (sym (applied-still q input t far))
    (still_more p n m (reach p input n) (reach q input m) (near_at p s.config) (near_at q t.config) s t met
    (near_past q t.config (ltb-false t.config.block (length q.blocks) far))))

-- one more step of the program is one more or none of the trimmed program
next_met : (p : Eir) (input : List ℕ) (n m : ℕ) → Facts p → IsInput input → Met p input n m → Met p input (suc n) m ⊎ Met p input (suc n) (suc m)
next_met p input n m facts is_input met =
    let c = (moment p input n).config in
    elim (nat_lt c.block (length p.blocks)) as (λ b. nat_lt c.block (length p.blocks) ≡ b → Met p input (suc n) m ⊎ Met p input (suc n) (suc m)) [
      | true ↦ λ going.
          let found = some_op (op_at p c) (facts.meets p input n facts.is (ltb-true c.block (length p.blocks) going)) in
          going_step p input n m found.0 facts is_input met going found.1
      | false ↦ λ still. inr (still_step p input n m met still)
    ] refl

start_met : (p : Eir) (input : List ℕ) → Met p input 0 0
start_met p input = record {
  related = related_front p p.start p.start (eir_start p).regs (eir_start p).regs (eir_start p).memory (eir_start p).memory refl refl (λ _ r. refl);
  output = refl;
  taken = refl;
  few = omega arith;
  many = omega arith;
  placed = omega arith;
  reach = omega arith;
}

-- where the trimmed program is after each number of the program's steps, and all that it was at before
record MetBelow (p : Eir) (input : List ℕ) (n : ℕ) : Type 0 where
  steps : ℕ
  here : Met p input n steps
  before : (m : ℕ) → m ≤ steps → (k : ℕ) × Met p input k m

le_cases : (a b : ℕ) → a ≤ suc b → (a ≤ b) ⊎ (a ≡ suc b)
le_cases a b h = grind arith

found_below : (p : Eir) (input : List ℕ) (n m : ℕ) (below : MetBelow p input n) → Met p input (suc n) (suc below.steps) → (m ≤ below.steps) ⊎ (m ≡ suc below.steps) → (k : ℕ) × Met p input k m
found_below p input n m below met (inl few) = below.before m few
found_below p input n m below met (inr same) = (suc n, subst (λ k. Met p input (suc n) k) (sym same) met)

more_below : (p : Eir) (input : List ℕ) (n : ℕ) (below : MetBelow p input n) → Met p input (suc n) below.steps ⊎ Met p input (suc n) (suc below.steps) → MetBelow p input (suc n)
more_below p input n below (inl met) = record { steps = below.steps; here = met; before = below.before }
more_below p input n below (inr met) = record {
  steps = suc below.steps;
  here = met;
  before = λ m few. found_below p input n m below met (le_cases m below.steps few);
}

met_below : (p : Eir) (input : List ℕ) (n : ℕ) → Facts p → IsInput input → MetBelow p input n
met_below p input zero facts is_input = record {
  steps = 0;
  here = start_met p input;
  before = λ m few. (0, let none : m ≡ 0 = omega arith in subst (λ k. Met p input 0 k) (sym none) (start_met p input));
}
met_below p input (suc n) facts is_input =
    let below : MetBelow p input n = met_below p input n facts is_input in
    more_below p input n below (next_met p input n below.steps facts is_input below.here)

met-AreAlike : (p : Eir) (input : List ℕ) (n m : ℕ) → Met p input n m → AreAlike p (trimmed_program p) input n m
met-AreAlike p input n m met =
    let q : Eir = trimmed_program p in
    let same : nat_lt (moment q input m).config.block (length q.blocks) ≡ nat_lt (moment p input n).config.block (length p.blocks) = going_same p (moment p input n).config (moment q input m).config met.related.block in
    let stands : (eir_rule q).standing (moment q input m).config ≡ (eir_rule p).standing (moment p input n).config = ap (λ b. cond b Going Ended) same in
    record {
      fewer = met.few;
      enough = omega (arith, met.many, met.placed);
      output = met.output;
      taken = met.taken;
      ended = (λ e. sym stands ∙ e, λ e. stands ∙ e);
      reach = met.reach;
    }

-- so many steps are enough for the trimmed program to have made these
enough_steps : (size m steps index : ℕ) → (size + 1) * (m + 1) ≤ (size + 1) * steps + index → index ≤ size → m ≤ steps
enough_steps size m steps index many placed =
    elim (nat_lt steps m) as (λ b. nat_lt steps m ≡ b → m ≤ steps) [
      | true ↦ λ e. absurd (omega (arith, mul-le-mul_left (size + 1) (more (ltb-true steps m e))))
      | false ↦ λ e. ltb-false steps m e
    ] refl
  where
    more : steps < m → steps + 1 ≤ m
    more h = omega arith

sum_trimmed : (blocks : List (List Op)) → ((ops : List Op) → length (trimmed ops) ≤ length ops) → sum_by length (map trimmed blocks) ≤ sum_by length blocks
sum_trimmed [] h = omega arith
sum_trimmed (ops ∷ blocks) h = omega (arith, sum_by-cons length (trimmed ops) (map trimmed blocks), sum_by-cons length ops blocks, h ops, sum_trimmed blocks h)

-- trimming makes no block longer
pub length-trimmed : (ops : List Op) → length (trimmed ops) ≤ length ops
length-trimmed [] = omega arith
length-trimmed (op ∷ ops) =
    elim (is_dropped op (trimmed ops)) as (λ b. length (cond b (trimmed ops) (op ∷ trimmed ops)) ≤ suc (length ops))
    [ true ↦ omega (arith, length-trimmed ops) | false ↦ omega (arith, length-trimmed ops) ]

pub size_of-trimmed : (p : Eir) → size_of (with_blocks trimmed p) ≤ size_of p
size_of-trimmed p = omega (arith, count-with_blocks trimmed p, sum_trimmed p.blocks length-trimmed)

-- a trimmed program runs as the program does
pub trimmed_runs_alike : WordsStayWords → RunsMeetOperations → JumpsEndBlocks → TrimmingLeavesStepsOut
trimmed_runs_alike words meets jumps p is =
    let facts : Facts p = record { is = is; words = words; meets = meets; jumps = jumps } in
    record {
      follows = λ input n is_input.
          let met = met_below p input n facts is_input in
          (met.steps, met-AreAlike p input n met.steps met.here);
      leads = λ input m is_input.
          let met = met_below p input ((size_of p + 1) * (m + 1)) facts is_input in
          let found = met.before m (enough_steps (size_of p) m met.steps (moment p input ((size_of p + 1) * (m + 1))).config.index met.here.many met.here.placed) in
          (found.0, met-AreAlike p input found.0 m found.1);
      size = size_of-trimmed p;
    }
