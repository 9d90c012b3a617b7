-- The SUBLEQ program follows the EIR program, if each operation's lines do what the operation does.
use Rattle.std.proofs.Common.{◌≡◌, ℕ, zero, suc, ◌+◌, ◌^◌, ◌<◌, ◌≤◌, true, false, cond, nat_lt, List, [], ◌∷◌, length, None, slice_get, unwrap_or, refl, sym, ap, subst, ◌∙◌, arith, add-one}
use Rattle.std.specs.Prelude.{ℤ, pos}
use Rattle.std.proofs.lemmas.Bool.{ltb-true, lt-ltb}
use Rattle.std.proofs.lemmas.Bool.Decides.{nat_tests}
use Rattle.mach_core.specs.declared.machine.Status.TheVariants.{Going, Ended}
use Rattle.mach_core.specs.Reaches.{Reaches}
use Rattle.mach_core.specs.Rule.{Moment, applied, run_from}
use Rattle.mach_core.proofs.Runs.{run_from-add}
use Rattle.mach_core.proofs.Reaching.{stays_there, one_step, looser}
use Rattle.eir_core.specs.declared.ops.Op.{Op}
use Rattle.eir_core.specs.Eir.{Eir, size_of}
use Rattle.eir_core.specs.Step.{Config, eir_rule}
use Rattle.eir_core.proofs.Placed.{op_at_placed}
use Rattle.sim_trait.specs.Alike.{Alike, StandsAs}
use Rattle.sq_lang.specs.Step.{CellMap, Config as SqConfig, standing_of, sq_rule}
use Rattle.sq_back.specs.Code.{zero_cell, row_place, nowhere, go, memory_start, image_of}
use Rattle.sq_back.specs.Related.{is_working, op_place, entry, place_of, Holds, Related}
use Rattle.sq_back.specs.Laws.{ImageSimulates, ImageIsSharp, FewStepsFollow}
use Rattle.sq_back.proofs.Standing.{Stands, IsEntered, FollowsOp}
use Rattle.sq_back.proofs.Sizes.{memory_start-word}
use Rattle.mach_core.proofs.Lists.{at_head, after_head}
use Rattle.sq_back.proofs.Places.{first_stand, row_stands, op_stands, op_behind, op_before}
use Rattle.sq_back.proofs.Loading.{IsJump, jumped, jumps, holds-jumped, loads}

-- no cell behind the lines at the start is written
not_working : (i : ℕ) → 132 ≤ i → is_working i ≡ false
not_working i h = grind (arith, nat_tests)

-- a line that stands in the image stands in the cells, if it is never written
line_in : (p : Eir) (image : List ℤ) (c : Config) (cells : CellMap) (at : ℕ) (target : ℤ) → Holds p image cells c.regs c.memory → 132 ≤ at → at + 3 ≤ memory_start p → memory_start p ≤ 2 ^ 24 → Stands image at (go target ∷ []) → IsJump cells at target
line_in p image c cells at target held low high few stands =
    let second = after_head image at (pos zero_cell) (pos zero_cell ∷ target ∷ stands.0) stands.1 in
    let third = after_head image (suc at) (pos zero_cell) (target ∷ stands.0) second in
    let j : at + 1 ≡ suc at = add-one at in
    let k : at + 2 ≡ suc (suc at) = omega arith in
    record {
      near = omega arith;
      from = held.lines at (omega arith) (not_working at low) ∙ ap (λ o. unwrap_or o (pos 0)) (at_head image at (pos zero_cell) (pos zero_cell ∷ target ∷ stands.0) stands.1);
      to = held.lines (at + 1) (omega arith) (not_working (at + 1) (omega arith))
          ∙ (ap (λ i. unwrap_or (slice_get image i) (pos 0)) j ∙ ap (λ o. unwrap_or o (pos 0)) (at_head image (suc at) (pos zero_cell) (target ∷ stands.0) second));
      next = held.lines (at + 2) (omega arith) (not_working (at + 2) (omega arith))
          ∙ (ap (λ i. unwrap_or (slice_get image i) (pos 0)) k ∙ ap (λ o. unwrap_or o (pos 0)) (at_head image (suc (suc at)) target stands.0 third));
    }

going_below : (p : Eir) (c : Config) → (eir_rule p).standing c ≡ Going → c.block < length p.blocks
going_below p c e = elim (nat_lt c.block (length p.blocks)) as (λ b. nat_lt c.block (length p.blocks) ≡ b → cond b Going Ended ≡ Going → c.block < length p.blocks) [
  | true ↦ λ y _. ltb-true c.block (length p.blocks) y
  | false ↦ λ y g. cc
] refl e

-- the SUBLEQ program comes to what the next operation does
record Enters (p : Eir) (input : List ℕ) (s : Moment Config) (m : Moment SqConfig) : Type 0 where
  moment : Moment SqConfig
  reached : Reaches (sq_rule (image_of p)) input m moment 0 1
  entered : IsEntered p (image_of p) (op_place p s.config.block s.config.index + 3) s moment

enters : (p : Eir) (input : List ℕ) (s : Moment Config) (m : Moment SqConfig) → size_of p ≤ 2 ^ 16 → Alike (Related p (image_of p)) s m → s.config.block < length p.blocks → (i : ℕ) → s.config.index ≡ i → Enters p input s m
enters p input s m small alike within zero is =
    let image = image_of p in
    let c = s.config in
    let b = c.block in
    let rel = alike.related in
    let here : m.config.address ≡ pos (row_place b) = rel.address ∙ (ap (λ j. place_of p b j) is ∙ ap (λ t. cond t (pos (row_place b)) nowhere) (lt-ltb b (length p.blocks) within)) in
    let target = op_place p b 0 + 3 in
    let line = line_in p image c m.config.cells (row_place b) (pos target) rel.holds (omega arith) (omega arith) (memory_start-word p small) (row_stands p b within) in
    let one = jumps image input m (row_place b) (pos target) rel.fault here line rel.holds.zero in
    record {
      moment = jumped m (pos target);
      reached = looser 0 1 (one_step (sq_rule image) input m (jumped m (pos target)) one) (omega arith) (omega arith);
      entered = record {
        fault = refl;
        address = ap (λ j. pos (op_place p b j + 3)) (sym is);
        holds = holds-jumped p image m.config.cells c.regs c.memory rel.holds;
        words = rel.words;
        placed = rel.placed;
        taken = alike.taken;
        output = alike.output;
      };
    }
enters p input s m small alike within (suc i) is =
    let image = image_of p in
    let b = s.config.block in
    let rel = alike.related in
    record {
      moment = m;
      reached = looser 0 1 (stays_there (sq_rule image) input m) (omega arith) (omega arith);
      entered = record {
        fault = rel.fault;
        address = rel.address
            ∙ (ap (λ j. place_of p b j) is
            ∙ (ap (λ t. cond t (pos (op_place p b (suc i) + 3)) nowhere) (lt-ltb b (length p.blocks) within)
            ∙ ap (λ j. pos (op_place p b j + 3)) (sym is)));
        holds = rel.holds;
        words = rel.words;
        placed = rel.placed;
        taken = alike.taken;
        output = alike.output;
      };
    }

-- a step of the program is followed by 32 steps at most
pub few_steps : FollowsOp → FewStepsFollow
few_steps does p input s m sound small bytes alike going =
    let image = image_of p in
    let rule = sq_rule image in
    let c = s.config in
    let at = op_place p c.block c.index in
    let within : c.block < length p.blocks = going_below p c going in
    let found = op_at_placed p c alike.related.placed within in
    let op : Op = found.0 in
    let enter = enters p input s m small alike within c.index refl in
    let done = does p image input s enter.moment op at sound small bytes (memory_start-word p small) (first_stand p) found.1 (op_stands p c op found.1) (op_behind p c.block c.index) (op_before p c.block c.index op found.1) enter.entered in
    let all = enter.reached.count + done.0 in
    let same : run_from rule input enter.moment done.0 ≡ run_from rule input m all = ap (λ x. run_from rule input x done.0) (sym enter.reached.ends) ∙ sym (run_from-add rule input m enter.reached.count done.0) in
    (all, omega (arith, done.1), omega (arith, done.2, enter.reached.few), subst (λ x. Alike (Related p image) (applied (eir_rule p) input s) x) same done.3)

pub stands_as : (p : Eir) (image : List ℤ) (c : Config) (d : SqConfig) → Related p image c d → StandsAs (eir_rule p) (sq_rule image) c d
stands_as p image c d rel =
    elim (nat_lt c.block (length p.blocks)) as (λ b. nat_lt c.block (length p.blocks) ≡ b → StandsAs (eir_rule p) (sq_rule image) c d) [
      | true ↦ λ y.
          let e : (eir_rule p).standing c ≡ Going = ap (λ b. cond b Going Ended) y in
          let f : standing_of d.fault d.address ≡ Going =
          ap (λ o. standing_of o d.address) rel.fault ∙ (ap (λ z. standing_of None z) (rel.address ∙ ap (λ b. cond b (pos (entry p c.block c.index)) nowhere) y)) in
          record { no_fault = λ n h. cc; ended = ((λ h. absurd (apart (sym f ∙ h))), (λ h. absurd (apart (sym e ∙ h)))) }
      | false ↦ λ y.
          let e : (eir_rule p).standing c ≡ Ended = ap (λ b. cond b Going Ended) y in
          let f : standing_of d.fault d.address ≡ Ended =
          ap (λ o. standing_of o d.address) rel.fault ∙ (ap (λ z. standing_of None z) (rel.address ∙ ap (λ b. cond b (pos (entry p c.block c.index)) nowhere) y)) in
          record { no_fault = λ n h. cc; ended = ((λ _. e), (λ _. f)) }
    ] refl
  where
    apart : Going ≡ Ended → ⊥
    apart e = cc

-- the image of each program that is not too large does what the program does
pub simulates : FollowsOp → ImageSimulates
simulates does p sound small = record {
  counts = omega arith;
  loads = λ input bytes. (1, omega arith, loads p sound input);
  steps = λ input s m bytes alike going. let f = few_steps does p input s m sound small bytes alike going in (f.0, f.1, omega (arith, f.2), f.3);
  stands = λ c d rel. stands_as p (image_of p) c d rel;
}

-- no step looks for its block
pub is_sharp : FollowsOp → ImageIsSharp
is_sharp does p sound small = record {
  loads = λ input bytes. (1, omega arith, loads p sound input);
  steps = λ input s m bytes alike going. let f = few_steps does p input s m sound small bytes alike going in (f.0, f.1, omega (arith, f.2), f.3);
}
