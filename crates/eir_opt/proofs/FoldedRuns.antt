-- A folded program runs step for step as the program does.
use Rattle.std.proofs.Common.{◌≡◌, ℕ, zero, suc, ◌+◌, true, false, cond, max, List, [], ◌∷◌, length, Option, None, Some, slice_get, map, nat_lt, sum_by, refl, sym, ap, ◌∙◌, subst, add-one}
use Rattle.std.specs.Option.{option_map}
use Rattle.std.proofs.lemmas.List.Sums.{sum_by-cons}
use Rattle.mach_core.specs.declared.machine.Status.TheVariants.{Going, Ended}
use Rattle.mach_core.specs.Rule.{Moment, fed_at, if_going, stepped, applied}
use Rattle.eir_core.specs.declared.ops.Op.{Op}
use Rattle.eir_core.specs.Eir.{Eir, size_of}
use Rattle.eir_core.specs.Memory.{Memory}
use Rattle.eir_core.specs.Reach.{near_of, near_at, reach}
use Rattle.eir_core.specs.Acts.{ops_at}
use Rattle.eir_core.specs.Step.{Regs, Config, op_at, length_at, onward, after, takes, bytes_of, eir_rule, eir_start}
use Rattle.eir_opt.specs.Folding.{Known, none_known, folded_op, known_after, folded_from, folded}
use Rattle.eir_opt.specs.Optimised.{with_blocks}
use Rattle.eir_opt.specs.Alike.{moment}
use Rattle.eir_opt.specs.Laws.{FoldingKeepsSteps}
use Rattle.eir_opt.proofs.Effects.{regs_after, memory_after, target_of, moved, after-moved}
use Rattle.eir_opt.proofs.BlockLists.{op_in-ops_at, ops_at-with_blocks, count-with_blocks}
use Rattle.eir_opt.proofs.Applications.{StepsAs, applied-as}
use Rattle.eir_opt.proofs.KnownWords.{Holds, holds-none, holds-after, known_in, known_in-zero, known_in-suc, slice_get-folded_from}
use Rattle.eir_opt.proofs.FoldedOps.{DoesAs, folded_op-DoesAs}

-- the program with its blocks folded
abbrev folded_program : Eir → Eir
folded_program p = with_blocks folded p

-- what is known where a configuration stands
abbrev known_at : Eir → Config → Known
known_at p c = known_in none_known (ops_at p c.block) c.index

-- and is so
abbrev Knows : Eir → Config → Type 0
Knows p c = Holds (known_at p c) c.regs

-- at the front of a block nothing is known
knows_front : (p : Eir) (k : ℕ) (regs : Regs) (memory : Memory) → Knows p (record { block = k; index = 0; regs = regs; memory = memory })
knows_front p k regs memory = subst (λ known. Holds known regs) (sym (known_in-zero none_known (ops_at p k))) (holds-none regs)

-- the operation that comes next is folded
op_at-folded : (p : Eir) (c : Config) → op_at (folded_program p) c ≡ option_map (folded_op (known_at p c)) (op_at p c)
op_at-folded p c =
    op_in-ops_at (folded_program p) c.block c.index
    ∙ (ap (λ ops. slice_get ops c.index) (ops_at-with_blocks folded p c.block refl)
    ∙ (slice_get-folded_from none_known (ops_at p c.block) c.index
    ∙ ap (option_map (folded_op (known_at p c))) (sym (op_in-ops_at p c.block c.index))))

knows_onward : (p : Eir) (c : Config) (regs : Regs) (memory : Memory) → Holds (known_in none_known (ops_at p c.block) (c.index + 1)) regs → Knows p (onward p c regs memory)
knows_onward p c regs memory h =
    elim (nat_lt (c.index + 1) (length_at p c.block))
    as (λ b. Knows p (cond b (record { block = c.block; index = c.index + 1; regs = regs; memory = memory }) (record { block = c.block + 1; index = 0; regs = regs; memory = memory })))
    [ true ↦ h | false ↦ knows_front p (c.block + 1) regs memory ]

knows_moved : (p : Eir) (c : Config) (target : Option ℕ) (regs : Regs) (memory : Memory) → Holds (known_in none_known (ops_at p c.block) (c.index + 1)) regs → Knows p (moved p c target regs memory)
knows_moved p c None regs memory h = knows_onward p c regs memory h
knows_moved p c (Some k) regs memory h = knows_front p k regs memory

-- an operation leads from what is known to what is known
knows_after_op : (p : Eir) (c : Config) (op : Op) (byte : ℕ) → Knows p c → op_at p c ≡ Some op → Knows p (after p c (Some op) byte)
knows_after_op p c op byte h at =
    let known = known_at p c in
    let op' = folded_op known op in
    let here : slice_get (ops_at p c.block) c.index ≡ Some op = sym (op_in-ops_at p c.block c.index) ∙ at in
    let does : DoesAs c.regs op op' = folded_op-DoesAs known c.regs op h in
    let next : known_in none_known (ops_at p c.block) (c.index + 1) ≡ known_after known op' = ap (known_in none_known (ops_at p c.block)) (add-one c.index) ∙ known_in-suc none_known (ops_at p c.block) c.index op here in
    let after_it : Holds (known_after known op') (regs_after op' c.regs c.memory byte) = holds-after known op' c.regs c.memory byte h in
    let holds' : Holds (known_in none_known (ops_at p c.block) (c.index + 1)) (regs_after op c.regs c.memory byte) =
    subst (λ k. Holds k (regs_after op c.regs c.memory byte)) (sym next) (subst (Holds (known_after known op')) (does.regs_same c.memory byte) after_it) in
    subst (Knows p) (sym (after-moved p c op byte)) (knows_moved p c (target_of (length p.blocks) op c.regs) (regs_after op c.regs c.memory byte) (memory_after op c.regs c.memory) holds')

knows_after : (p : Eir) (c : Config) (o : Option Op) (byte : ℕ) → Knows p c → op_at p c ≡ o → Knows p (after p c o byte)
knows_after p c None byte h at = h
knows_after p c (Some op) byte h at = knows_after_op p c op byte h at

knows_applied : (p : Eir) (input : List ℕ) (m : Moment Config) → Knows p m.config → Knows p (applied (eir_rule p) input m).config
knows_applied p input m h =
    elim (nat_lt m.config.block (length p.blocks)) as (λ b. Knows p (if_going (cond b Going Ended) (stepped (eir_rule p) input m) m).config) [
      | true ↦ knows_after p m.config (op_at p m.config) (fed_at (eir_rule p) input m) h refl
      | false ↦ h
    ]

knows_moment : (p : Eir) (input : List ℕ) (n : ℕ) → Knows p (moment p input n).config
knows_moment p input zero = knows_front p p.start (eir_start p).regs (eir_start p).memory
knows_moment p input (suc n) = knows_applied p input (moment p input n) (knows_moment p input n)

-- what the folded operation does, where there is one
takes_folded : (known : Known) (regs : Regs) (o : Option Op) → Holds known regs → takes (option_map (folded_op known) o) ≡ takes o
takes_folded known regs None h = refl
takes_folded known regs (Some op) h = (folded_op-DoesAs known regs op h).takes_same

writes_folded : (known : Known) (regs : Regs) (o : Option Op) → Holds known regs → bytes_of regs (option_map (folded_op known) o) ≡ bytes_of regs o
writes_folded known regs None h = refl
writes_folded known regs (Some op) h = (folded_op-DoesAs known regs op h).writes_same

near_folded : (known : Known) (regs : Regs) (o : Option Op) → Holds known regs → near_of regs (option_map (folded_op known) o) ≡ near_of regs o
near_folded known regs None h = refl
near_folded known regs (Some op) h = (folded_op-DoesAs known regs op h).near_same

-- lengths of blocks are kept
pub length-folded_from : (known : Known) (ops : List Op) → length (folded_from known ops) ≡ length ops
length-folded_from known [] = refl
length-folded_from known (op ∷ ops) = ap suc (length-folded_from (known_after known (folded_op known op)) ops)

length_at-folded : (p : Eir) (k : ℕ) → length_at (folded_program p) k ≡ length_at p k
length_at-folded p k = ap length (ops_at-with_blocks folded p k refl) ∙ length-folded_from none_known (ops_at p k)

moved-folded : (p : Eir) (c : Config) (target : Option ℕ) (regs : Regs) (memory : Memory) → moved (folded_program p) c target regs memory ≡ moved p c target regs memory
moved-folded p c None regs memory =
    ap (λ n. cond (nat_lt (c.index + 1) n) (record { block = c.block; index = c.index + 1; regs = regs; memory = memory }) (record { block = c.block + 1; index = 0; regs = regs; memory = memory })) (length_at-folded p c.block)
moved-folded p c (Some k) regs memory = refl

leads_folded : (p : Eir) (c : Config) (known : Known) (o : Option Op) (byte : ℕ) → Holds known c.regs → after (folded_program p) c (option_map (folded_op known) o) byte ≡ after p c o byte
leads_folded p c known None byte h = refl
leads_folded p c known (Some op) byte h =
    let q = folded_program p in
    let op' = folded_op known op in
    let does : DoesAs c.regs op op' = folded_op-DoesAs known c.regs op h in
    after-moved q c op' byte
    ∙ (moved-folded p c (target_of (length q.blocks) op' c.regs) (regs_after op' c.regs c.memory byte) (memory_after op' c.regs c.memory)
    ∙ (ap (λ n. moved p c (target_of n op' c.regs) (regs_after op' c.regs c.memory byte) (memory_after op' c.regs c.memory)) (count-with_blocks folded p)
    ∙ (ap (λ t. moved p c t (regs_after op' c.regs c.memory byte) (memory_after op' c.regs c.memory)) (does.target_same (length p.blocks))
    ∙ (ap (λ r. moved p c (target_of (length p.blocks) op c.regs) r (memory_after op' c.regs c.memory)) (does.regs_same c.memory byte)
    ∙ (ap (moved p c (target_of (length p.blocks) op c.regs) (regs_after op c.regs c.memory byte)) (does.memory_same c.memory)
    ∙ sym (after-moved p c op byte))))))

steps_folded : (p : Eir) (c : Config) → Knows p c → StepsAs p (folded_program p) c
steps_folded p c h =
    let at = op_at-folded p c in
    let known = known_at p c in
    record {
      count = count-with_blocks folded p;
      takes = ap takes at ∙ takes_folded known c.regs (op_at p c) h;
      writes = ap (bytes_of c.regs) at ∙ writes_folded known c.regs (op_at p c) h;
      leads = λ byte. ap (λ o. after (folded_program p) c o byte) at ∙ leads_folded p c known (op_at p c) byte h;
    }

-- a folded program is where the program is
pub moment-folded : (p : Eir) (input : List ℕ) (n : ℕ) → moment (with_blocks folded p) input n ≡ moment p input n
moment-folded p input zero = refl
moment-folded p input (suc n) =
    ap (applied (eir_rule (folded_program p)) input) (moment-folded p input n)
    ∙ applied-as p (folded_program p) input (moment p input n) (steps_folded p (moment p input n).config (knows_moment p input n))

-- and reaches as far
pub reach-folded : (p : Eir) (input : List ℕ) (n : ℕ) → reach (with_blocks folded p) input n ≡ reach p input n
reach-folded p input zero = refl
reach-folded p input (suc n) =
    let c = (moment p input n).config in
    let near : near_at (folded_program p) (moment (folded_program p) input n).config ≡ near_at p c =
    ap (λ (m : Moment Config). near_at (folded_program p) m.config) (moment-folded p input n)
    ∙ (ap (near_of c.regs) (op_at-folded p c) ∙ near_folded (known_at p c) c.regs (op_at p c) (knows_moment p input n)) in
    ap (λ a. max a (near_at (folded_program p) (moment (folded_program p) input n).config)) (reach-folded p input n) ∙ ap (max (reach p input n)) near

sum_folded : (blocks : List (List Op)) → sum_by length (map folded blocks) ≡ sum_by length blocks
sum_folded [] = refl
sum_folded (ops ∷ blocks) =
    sum_by-cons length (folded ops) (map folded blocks)
    ∙ (ap (λ n. n + sum_by length (map folded blocks)) (length-folded_from none_known ops)
    ∙ (ap (λ n. length ops + n) (sum_folded blocks) ∙ sym (sum_by-cons length ops blocks)))

-- and is as large
pub size_of-folded : (p : Eir) → size_of (with_blocks folded p) ≡ size_of p
size_of-folded p =
    ap (λ n. n + sum_by length (map folded p.blocks) + length p.words) (count-with_blocks folded p)
    ∙ ap (λ n. length p.blocks + n + length p.words) (sum_folded p.blocks)

pub folding_keeps_steps : FoldingKeepsSteps
folding_keeps_steps = record { moments = moment-folded; size = size_of-folded; reach = reach-folded }
