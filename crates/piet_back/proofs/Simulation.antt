-- The board follows the program.
use Rattle.std.proofs.Common.{◌≡◌, ◌≢◌, ◌⊎◌, inl, inr, ℕ, zero, suc, ◌+◌, ◌-◌, ◌*◌, ◌/◌, ◌^◌, ◌<◌, ◌≤◌, max, Bool, true, false, cond, nat_lt, List, [], ◌∷◌, ◌++◌, length, take, Option, Some, None, slice_get, unwrap_or, option_and_then, sum_by, pos, ℤ, refl, sym, ap, subst, ◌∙◌, arith, add-one, append-nil}
use Rattle.std.proofs.Math.Nat.{mul-le-mul_right, mul-le-mul_left}
use Rattle.std.proofs.lemmas.Bool.{ltb-true, ltb-false}
use Rattle.std.proofs.lemmas.Bool.Decides.{nat_tests}
use Rattle.std.proofs.lemmas.List.{length-append}
use Rattle.mach_core.specs.declared.machine.Status.TheVariants.{Going, Ended}
use Rattle.mach_core.specs.Rule.{Moment, IsInput, input_at, applied, run_from, at_start}
use Rattle.mach_core.proofs.Runs.{applied-going, run_from-add}
use Rattle.mach_core.proofs.Lists.{drop_item}
use Rattle.word24.specs.Word.{near, is_high}
use Rattle.eir_core.specs.declared.ops.Reg.{Reg}
use Rattle.eir_core.specs.declared.ops.Operand.{Operand}
use Rattle.eir_core.specs.declared.ops.Operand.TheVariants.{Reg as register, Imm}
use Rattle.eir_core.specs.declared.ops.Op.{Op}
use Rattle.eir_core.specs.declared.ops.Op.TheVariants.{Mov, Add, Sub, Load, Store, Putc, Getc, Exit, Set, Jump, JumpIf}
use Rattle.eir_core.specs.Eir.{Eir, IsEir, size_of}
use Rattle.eir_core.specs.Memory.{Memory, word_at, with_word}
use Rattle.eir_core.specs.Reach.{near_at}
use Rattle.eir_core.specs.Step.{Config, Regs, reg_of, with_reg, value_of, holds, op_in, op_at, length_at, onward, going_to, after, takes, bytes_of, eir_rule}
use Rattle.eir_core.specs.Words.{IsWords, IsPlaced}
use Rattle.eir_core.proofs.WordAt.{word_at-with_word_same, word_at-with_word_other}
use Rattle.eir_core.proofs.WordsKept.{applied-IsWords}
use Rattle.eir_core.proofs.Placed.{length_at_filled, applied-IsPlaced}
use Rattle.sim_trait.specs.Alike.{Alike}
use Rattle.piet_image.specs.Raster.{Raster}
use Rattle.piet_lang.specs.Rule.{rule_of}
use Rattle.piet_lang.specs.Step.{Config as PietConfig}
use Rattle.piet_lane.specs.declared.command.Command.{Command}
use Rattle.piet_lane.specs.Lanes.{lanes_of}
use Rattle.piet_lane.specs.Runs.{Values, AtEnd}
use Rattle.piet_stack.specs.declared.operation.Ways.{Ways}
use Rattle.piet_stack.specs.Code.{number_code, no_lane, block_lane, op_code, second_code, ensure_code, grow_code}
use Rattle.piet_stack.specs.Makes.{values_at, Does, Makes}
use Rattle.piet_stack.specs.Stack.{regs_stack, pairs, place_of, laid, HasPairs}
use Rattle.piet_stack.proofs.Effects.{next, named, from_named, nothing_made, number, bit}
use Rattle.piet_stack.proofs.Values.{bed}
use Rattle.piet_stack.proofs.Deep.{loads, stores, ensures, grows}
use Rattle.piet_stack.proofs.Pairs.{length-pairs, parted}
use Rattle.piet_back.specs.declared.layout.Layout.{Layout}
use Rattle.piet_back.specs.Lanes.{layout_of, flat, op_lane, second_lane, init_lane, ensure_lane, grow_lane, on_lane, ways_at, lanes}
use Rattle.piet_back.specs.Related.{op_number, RunsProgram, IsLaid, Related}
use Rattle.piet_back.proofs.Lookups.{length-flat, before_next, before_all, before_few, flat_at, length-lanes, block_is, op_is, second_is, ensure_is, grow_is, go_is}
use Rattle.piet_back.proofs.Lengths.{IsNear, lane_few, op_few, second_few, ensure_few, grow_few}
use Rattle.piet_back.proofs.Operations.{mov_makes, add_makes, sub_makes, set_makes, exit_makes, jump_makes, jump_if_makes, access_makes, putc_does, getc_does}
use Rattle.piet_back.proofs.Transits.{at_config, end_stack, Ready, Arrives, transit, and_on, looser, Over, finish}

-- an operand stands for a word
pub word_of_operand : (r : Regs) (v : Operand) → ((x : Reg) → reg_of r x < 2 ^ 24) → value_of r v < 2 ^ 24
word_of_operand r (register x) all = all x
word_of_operand r (Imm w) all = w.in_range

-- the lane is that of the operation at a place, or that of no lane behind the last block
pub record Heads (p : Eir) (b i lane : ℕ) : Type 0 where
  pub inside : b < length p.blocks → lane ≡ op_lane (layout_of p) (op_number p b i)
  pub over : length p.blocks ≤ b → lane ≡ no_lane

-- so it is, or it is the lane of a block
abbrev pub Leads : Eir → Config → ℕ → Type 0
Leads p c lane = Heads p c.block c.index lane ⊎ ((c.index ≡ 0) × (lane ≡ block_lane (length p.blocks) c.block))

-- on to what comes next
pub record Onward (p : Eir) (c : Config) (r : Regs) (m : Memory) (lane : ℕ) : Type 0 where
  pub regs : (onward p c r m).regs ≡ r
  pub memory : (onward p c r m).memory ≡ m
  pub heads : Heads p (onward p c r m).block (onward p c r m).index lane

lane_past : (n k : ℕ) (g : Layout) → n ≡ g.ops → n ≤ k + 1 → on_lane g k ≡ no_lane
lane_past n k g e h = let t : nat_lt (k + 1) g.ops ≡ false = grind (arith, nat_tests) in rw t refl

lane_next : (k j : ℕ) (g : Layout) → k + 1 < g.ops → j ≡ k + 1 → on_lane g k ≡ op_lane g j
lane_next k j g h e = let t : nat_lt (k + 1) g.ops ≡ true = grind (arith, nat_tests) in rw t (ap (op_lane g) (sym e))

pub goes_onward : (p : Eir) (c : Config) (r : Regs) (m : Memory) (ops : List Op) → IsEir p → slice_get p.blocks c.block ≡ Some ops → c.index < length ops → c.block < length p.blocks
    → Onward p c r m (on_lane (layout_of p) (op_number p c.block c.index))
goes_onward p c r m ops sound is below within = by (nat_lt (c.index + 1) (length_at p c.block)) refl
  where
    here : Config
    here = record { block = c.block; index = c.index + 1; regs = r; memory = m }

    there : Config
    there = record { block = c.block + 1; index = 0; regs = r; memory = m }

    long : length_at p c.block ≡ length ops
    long = ap (λ (o : Option (List Op)). length (unwrap_or o [])) is

    whole : length (flat p.blocks) ≡ sum_by length p.blocks
    whole = length-flat p.blocks

    next : length (flat (take (c.block + 1) p.blocks)) ≡ length (flat (take c.block p.blocks)) + length ops
    next = before_next p.blocks c.block (c.block + 1) ops is refl

    few : length (flat (take (c.block + 1) p.blocks)) ≤ length (flat p.blocks)
    few = before_few p.blocks (c.block + 1)

    after_it : c.index + 1 ≡ length ops → Heads p (c.block + 1) 0 (on_lane (layout_of p) (op_number p c.block c.index))
    after_it last = record {
      inside = λ more.
          let found = drop_item p.blocks (c.block + 1) more in
          let filled = length_at_filled p (c.block + 1) sound more in
          let size : length_at p (c.block + 1) ≡ length found.0 = ap (λ (o : Option (List Op)). length (unwrap_or o [])) found.1 in
          let beyond = before_next p.blocks (c.block + 1) (c.block + 1 + 1) found.0 found.1 refl in
          let most = before_few p.blocks (c.block + 1 + 1) in
          lane_next (op_number p c.block c.index) (op_number p (c.block + 1) 0) (layout_of p) (omega (arith, next, last, filled, size, beyond, most, whole)) (omega (arith, next, last));
      over = λ past.
          let all = before_all p.blocks (c.block + 1) past in
          lane_past (length (flat p.blocks)) (op_number p c.block c.index) (layout_of p) whole (omega (arith, next, last, all));
    }

    by : (b : Bool) → nat_lt (c.index + 1) (length_at p c.block) ≡ b → Onward p c r m (on_lane (layout_of p) (op_number p c.block c.index))
    by true t =
        let less : c.index + 1 < length_at p c.block = ltb-true (c.index + 1) (length_at p c.block) t in
        let config : onward p c r m ≡ here = ap (λ b. cond b here there) t in
        record {
          regs = ap (λ (z : Config). z.regs) config;
          memory = ap (λ (z : Config). z.memory) config;
          heads = subst (λ (z : Config). Heads p z.block z.index (on_lane (layout_of p) (op_number p c.block c.index))) (sym config) (record {
            inside = λ w. lane_next (op_number p c.block c.index) (op_number p c.block (c.index + 1)) (layout_of p) (omega (arith, less, long, next, few, whole)) (omega arith);
            over = λ w. absurd (omega (arith, w, within));
          });
        }
    by false t =
        let more : length_at p c.block ≤ c.index + 1 = ltb-false (c.index + 1) (length_at p c.block) t in
        let config : onward p c r m ≡ there = ap (λ b. cond b here there) t in
        record {
          regs = ap (λ (z : Config). z.regs) config;
          memory = ap (λ (z : Config). z.memory) config;
          heads = subst (λ (z : Config). Heads p z.block z.index (on_lane (layout_of p) (op_number p c.block c.index))) (sym config) (after_it (omega (arith, more, long, below)));
        }

half_place : (v : ℕ) → place_of v / 2 ≡ near v
half_place v = let b = bit_small (is_high v) in omega (arith, b)
  where
    bit_small : (b : Bool) → bit b ≤ 1
    bit_small true = omega arith
    bit_small false = omega arith

near_few : (v : ℕ) → v < 2 ^ 24 → near v < 2 ^ 23
near_few v h = omega (arith, h)

pub place_few : (v : ℕ) → v < 2 ^ 24 → place_of v < 2 ^ 25
place_few v h = let b = bit_few (is_high v) in let n = near_few v h in omega (arith, b, n)
  where
    bit_few : (b : Bool) → bit b ≤ 1
    bit_few true = omega arith
    bit_few false = omega arith

-- what an operation makes of a moment
abbrev pub source_by : Eir → List ℕ → Moment Config → Option Op → Moment Config
source_by p input s o = record {
  config = after p s.config o (cond (takes o) (input_at input s.taken) 0);
  taken = cond (takes o) (s.taken + 1) s.taken;
  output = s.output ++ bytes_of s.config.regs o;
}

-- the numbers of lanes are small
pub record IsTiny (p : Eir) : Type 0 where
  pub lanes : length (lanes p) ≡ (layout_of p).blocks + 2 * (layout_of p).ops + (layout_of p).words + 4
  pub few : (layout_of p).blocks + 2 * (layout_of p).ops + (layout_of p).words + 4 ≤ 2 * size_of p + 4
  pub small : (layout_of p).blocks + 2 * (layout_of p).ops + (layout_of p).words + 4 ≤ 8196

pub tiny_of : (p : Eir) → size_of p ≤ 2 ^ 12 → IsTiny p
tiny_of p h = record { lanes = length-lanes p; few = omega arith; small = omega (arith, h) }

pub on_small : (p : Eir) (k : ℕ) → IsTiny p → on_lane (layout_of p) k < 2 ^ 15
on_small p k tiny = by (nat_lt (k + 1) (layout_of p).ops) refl
  where
    by : (b : Bool) → nat_lt (k + 1) (layout_of p).ops ≡ b → cond b (op_lane (layout_of p) (k + 1)) no_lane < 2 ^ 15
    by true t = let less : k + 1 < (layout_of p).ops = ltb-true (k + 1) (layout_of p).ops t in omega (arith, less, tiny.small)
    by false t = omega arith

pub ways_near : (p : Eir) (k : ℕ) → IsTiny p → k < (layout_of p).ops → IsNear (ways_at (layout_of p) k)
ways_near p k tiny below = record { blocks = omega (arith, tiny.small); on = on_small p k tiny; second = omega (arith, below, tiny.small); ensure = omega (arith, tiny.small) }

module _ (p : Eir) (q : Raster) (reach : ℕ) (runs : RunsProgram p q reach) (input : List ℕ) (tiny : IsTiny p) where
  abbrev g : Layout
  g = layout_of p

  abbrev size : ℕ
  size = length (lanes p)

  abbrev Here : Moment PietConfig → ℕ → List ℤ → ℕ → List ℕ → Type 0
  Here m j s taken output = Ready p q reach runs input m j s taken output

  -- related after some steps, or none
  pub record Settles (s : Moment Config) (m : Moment PietConfig) (most : ℕ) : Type 0 where
    pub steps : ℕ
    pub few : steps ≤ most
    pub alike : Alike (Related p q) s (run_from (rule_of q) input m steps)

  -- related after some steps
  pub record Lands (s : Moment Config) (m : Moment PietConfig) (most : ℕ) : Type 0 where
    pub steps : ℕ
    pub some : 1 ≤ steps
    pub few : steps ≤ most
    pub alike : Alike (Related p q) s (run_from (rule_of q) input m steps)

  pub lands_by : (s : Moment Config) (m : Moment PietConfig) (a b j : ℕ) (st : List ℤ) (taken : ℕ) (output : List ℕ) → Arrives p q reach runs input m a j st taken output → ((n : Moment PietConfig) → Here n j st taken output → Settles s n b) → Lands s m (a + b)
  lands_by s m a b j st taken output x f =
      let y = f (run_from (rule_of q) input m x.steps) x.ready in
      record {
        steps = x.steps + y.steps;
        some = let z = x.some in omega (arith, z);
        few = let u = x.few in let w = y.few in omega (arith, u, w);
        alike = subst (λ (n : Moment PietConfig). Alike (Related p q) s n) (sym (run_from-add (rule_of q) input m x.steps y.steps)) y.alike;
      }

  settles_by : (s : Moment Config) (m : Moment PietConfig) (a b j : ℕ) (st : List ℤ) (taken : ℕ) (output : List ℕ) → Arrives p q reach runs input m a j st taken output → ((n : Moment PietConfig) → Here n j st taken output → Settles s n b) → Settles s m (a + b)
  settles_by s m a b j st taken output x f = let l = lands_by s m a b j st taken output x f in record { steps = l.steps; few = l.few; alike = l.alike }

  -- at the lane of the next operation, or to the end
  settle : (s : Moment Config) (m : Moment PietConfig) (lane n : ℕ) → Heads p s.config.block s.config.index lane → IsWords s.config → IsPlaced p s.config → HasPairs s.config.memory n → Here m lane (laid s.config.regs s.config.memory n) s.taken s.output
      → Settles s m (64 * (size + 1))
  settle s m lane n heads words placed paired r = by (nat_lt s.config.block (length p.blocks)) refl
    where
      v : Values
      v = values_at (pos lane ∷ laid s.config.regs s.config.memory n) s.taken s.output

      stack : pos lane ∷ laid s.config.regs s.config.memory n ≡ m.config.stack
      stack = end_stack (lanes_of (lanes p)) reach r.lane v m r.ends

      ends : AtEnd (lanes_of (lanes p)) reach r.lane (values_at m.config.stack 0 []) (at_start m.config)
      ends = subst (λ (z : List ℤ). AtEnd (lanes_of (lanes p)) reach r.lane (values_at z 0 []) (at_start m.config)) stack (at_config (lanes_of (lanes p)) reach r.lane v m r.ends 0 [] (at_start m.config) refl refl refl)

      by : (b : Bool) → nat_lt s.config.block (length p.blocks) ≡ b → Settles s m (64 * (size + 1))
      by true t =
          let within : s.config.block < length p.blocks = ltb-true s.config.block (length p.blocks) t in
          record {
            steps = 0;
            few = omega arith;
            alike = record {
              related = record {
                words = words;
                placed = placed;
                going = λ w. record { reach = reach; runs = runs; lane = r.lane; count = n; pairs = paired; stack = sym stack ∙ ap (λ k. pos k ∷ laid s.config.regs s.config.memory n) (heads.inside within); ends = ends };
                ended = λ w. absurd (omega (arith, w, within));
              };
              taken = sym (ap (λ (z : Moment PietConfig). z.taken) r.ends.is);
              output = sym (ap (λ (z : Moment PietConfig). z.output) r.ends.is);
            };
          }
      by false t =
          let past : length p.blocks ≤ s.config.block = ltb-false s.config.block (length p.blocks) t in
          let none = heads.over past in
          let over = finish p q reach runs input m lane (laid s.config.regs s.config.memory n) s.taken s.output r (omega (arith, none)) (omega (arith, none, tiny.lanes, tiny.small)) in
          record {
            steps = over.steps;
            few = over.few;
            alike = record {
              related = record { words = words; placed = placed; going = λ w. absurd (omega (arith, w, past)); ended = λ w. over.ended };
              taken = over.took;
              output = over.wrote;
            };
          }

  -- from the lane of a block as well
  pub settle_any : (s : Moment Config) (m : Moment PietConfig) (lane n : ℕ) → Leads p s.config lane → IsWords s.config → IsPlaced p s.config → HasPairs s.config.memory n → Here m lane (laid s.config.regs s.config.memory n) s.taken s.output
      → Settles s m (64 * (2 * size + 60))
  settle_any s m lane n (inl heads) words placed paired r = let z = settle s m lane n heads words placed paired r in record { steps = z.steps; few = let f = z.few in omega (arith, f); alike = z.alike }
  settle_any s m lane n (inr jump) words placed paired r = by (nat_lt s.config.block (length p.blocks)) refl
    where
      st : List ℤ
      st = laid s.config.regs s.config.memory n

      by : (b : Bool) → nat_lt s.config.block (length p.blocks) ≡ b → Settles s m (64 * (2 * size + 60))
      by true t =
          let within : s.config.block < length p.blocks = ltb-true s.config.block (length p.blocks) t in
          let is : lane ≡ s.config.block = jump.1 ∙ ap (λ b. cond b s.config.block no_lane) t in
          let found = drop_item p.blocks s.config.block within in
          let to = op_lane g (op_number p s.config.block 0) in
          let begun = before_few p.blocks s.config.block in
          let all = length-flat p.blocks in
          let small : to < 2 ^ 15 = omega (arith, begun, all, tiny.small) in
          let code = block_is p s.config.block found.0 found.1 in
          let goes = transit p q reach runs input m s.config.block st s.taken s.output (number_code to) 58 to st s.taken s.output (subst (λ k. Here m k st s.taken s.output) is r) code (omega (arith, within, tiny.small)) (lane_few to small)
          ((number to st (omega (arith, small))).does input s.taken s.output) in
          let heads : Heads p s.config.block s.config.index to = record { inside = λ w. ap (λ i. op_lane g (op_number p s.config.block i)) (sym jump.0); over = λ w. absurd (omega (arith, w, within)) } in
          let z = settles_by s m (64 * (size + 58 + 1)) (64 * (size + 1)) to st s.taken s.output goes (λ k here. settle s k to n heads words placed paired here) in
          record { steps = z.steps; few = let f = z.few in omega (arith, f); alike = z.alike }
      by false t =
          let past : length p.blocks ≤ s.config.block = ltb-false s.config.block (length p.blocks) t in
          let none : lane ≡ no_lane = jump.1 ∙ ap (λ b. cond b s.config.block no_lane) t in
          let heads : Heads p s.config.block s.config.index lane = record { inside = λ w. absurd (omega (arith, w, past)); over = λ w. none } in
          let z = settle s m lane n heads words placed paired r in
          record { steps = z.steps; few = let f = z.few in omega (arith, f); alike = z.alike }

  -- pairs up to an address
  pub record Grown (m : Moment PietConfig) (most second v : ℕ) (regs : Regs) (memory : Memory) (taken : ℕ) (output : List ℕ) : Type 0 where
    pub count : ℕ
    pub paired : HasPairs memory count
    pub enough : near v < count
    pub arrives : Arrives p q reach runs input m most second (pos (place_of v) ∷ laid regs memory count) taken output

  abbrev pub first_most : ℕ
  first_most = 64 * (size + 140 + 1) + 64 * (size + 0 + 1)

  abbrev pub more_most : ℕ
  more_most = 64 * (size + 140 + 1) + 64 * (size + 160 + 1)

  one_more : (memory : Memory) (n v : ℕ) → HasPairs memory n → n ≤ near v → v < 2 ^ 24 → HasPairs memory (n + 1)
  one_more memory n v paired low word = record { few = let f = near_few v word in omega (arith, low, f); rest = λ u w h. paired.rest u w (omega (arith, h)) }

  zeros_more : (memory : Memory) (n : ℕ) → HasPairs memory n → n < 2 ^ 23 → pairs (word_at memory) n ++ pos 0 ∷ pos 0 ∷ [] ≡ pairs (word_at memory) (n + 1)
  zeros_more memory n paired few =
      let low : word_at memory n ≡ 0 = paired.rest n (omega (arith, few)) (omega (arith, few)) in
      let high : word_at memory (2 ^ 24 - 1 - n) ≡ 0 = paired.rest (2 ^ 24 - 1 - n) (omega (arith, few)) (omega (arith, few)) in
      ap (λ k. pairs (word_at memory) n ++ pos k ∷ pos 0 ∷ []) (sym low) ∙ (ap (λ k. pairs (word_at memory) n ++ pos (word_at memory n) ∷ pos k ∷ []) (sym high) ∙ ap (pairs (word_at memory)) (sym (add-one n)))

  -- the lane that sees to the pairs asks for more or goes on
  asked : (m : Moment PietConfig) (n second v : ℕ) (regs : Regs) (memory : Memory) (taken : ℕ) (output : List ℕ) (b : Bool) → nat_lt (near v) n ≡ b → v < 2 ^ 24
      → Here m (ensure_lane g) (pos second ∷ pos (place_of v) ∷ laid regs memory n) taken output
      → Arrives p q reach runs input m (64 * (size + 140 + 1)) (bit b + grow_lane g) (pos second ∷ pos (place_of v) ∷ laid regs memory n) taken output
  asked m n second v regs memory taken output b t word r =
      let st = pos second ∷ pos (place_of v) ∷ laid regs memory n in
      let half : bit (nat_lt (place_of v / 2) n) + grow_lane g ≡ bit b + grow_lane g = ap (λ k. bit (nat_lt k n) + grow_lane g) (half_place v) ∙ ap (λ z. bit z + grow_lane g) t in
      let makes = ensures n (grow_lane g) second (place_of v) (regs_stack regs ++ pairs (word_at memory) n) (omega (arith, tiny.small)) (place_few v word) in
      transit p q reach runs input m (ensure_lane g) st taken output (ensure_code (grow_lane g)) 140 (bit b + grow_lane g) st taken output r (ensure_is p) (omega (arith, tiny.small)) (ensure_few (grow_lane g) (omega (arith, tiny.small)))
      ((named makes (ap (λ k. pos k ∷ st) half)).does input taken output)

  gone : (m : Moment PietConfig) (second : ℕ) (st : List ℤ) (taken : ℕ) (output : List ℕ) → Here m (1 + grow_lane g) (pos second ∷ st) taken output → Arrives p q reach runs input m (64 * (size + 0 + 1)) second st taken output
  gone m second st taken output r =
      transit p q reach runs input m (1 + grow_lane g) (pos second ∷ st) taken output [] 0 second st taken output r (go_is p (1 + grow_lane g) (omega arith)) (omega (arith, tiny.small)) (omega arith)
      ((nothing_made (pos second ∷ st)).does input taken output)

  widened : (m : Moment PietConfig) (n second v : ℕ) (regs : Regs) (memory : Memory) (taken : ℕ) (output : List ℕ) → n ≤ near v → v < 2 ^ 24 → HasPairs memory n
      → Here m (0 + grow_lane g) (pos second ∷ pos (place_of v) ∷ laid regs memory n) taken output
      → Arrives p q reach runs input m (64 * (size + 160 + 1)) (ensure_lane g) (pos second ∷ pos (place_of v) ∷ laid regs memory (n + 1)) taken output
  widened m n second v regs memory taken output low word paired r =
      let few : n < 2 ^ 23 = let f = near_few v word in omega (arith, low, f) in
      let st = pos second ∷ pos (place_of v) ∷ laid regs memory n in
      let st' = pos second ∷ pos (place_of v) ∷ laid regs memory (n + 1) in
      let to = ensure_lane g in
      let wide : Makes grow_code st st' =
      named (grows n second (place_of v) regs (pairs (word_at memory) n) (length-pairs (word_at memory) n) (omega (arith, few)))
      (ap (λ (z : List ℤ). pos second ∷ pos (place_of v) ∷ pos (n + 1) ∷ (regs_stack regs ++ z)) (zeros_more memory n paired few)) in
      let all : Makes (grow_code ++ number_code to) st (pos to ∷ st') = next wide (number to st' (omega (arith, tiny.small))) in
      let short : length (grow_code ++ number_code to) ≤ 160 = let f = length-append grow_code (number_code to) in omega (arith, f, grow_few, lane_few to (omega (arith, tiny.small))) in
      transit p q reach runs input m (grow_lane g) st taken output (grow_code ++ number_code to) 160 to st' taken output (subst (λ k. Here m k st taken output) (let z : 0 + grow_lane g ≡ grow_lane g = omega arith in z) r) (grow_is p) (omega (arith, tiny.small)) short
      (all.does input taken output)

  has_grown : (left : ℕ) (m : Moment PietConfig) (n second v : ℕ) (regs : Regs) (memory : Memory) (taken : ℕ) (output : List ℕ) → nat_lt (near v) n ≡ true → v < 2 ^ 24 → HasPairs memory n
      → Here m (ensure_lane g) (pos second ∷ pos (place_of v) ∷ laid regs memory n) taken output → Grown m (first_most + left * more_most) second v regs memory taken output
  has_grown left m n second v regs memory taken output t word paired r =
      let st = pos (place_of v) ∷ laid regs memory n in
      let both = and_on p q reach runs input m (64 * (size + 140 + 1)) (64 * (size + 0 + 1)) (1 + grow_lane g) (pos second ∷ st) taken output second st taken output (asked m n second v regs memory taken output true t word r)
      (λ k here. gone k second st taken output here) in
      record {
        count = n;
        paired = paired;
        enough = ltb-true (near v) n t;
        arrives = looser p q reach runs input m first_most (first_most + left * more_most) second st taken output (let z : first_most ≤ first_most + left * more_most = omega arith in z) both;
      }

  pub grow : (left : ℕ) (m : Moment PietConfig) (n second v : ℕ) (regs : Regs) (memory : Memory) (taken : ℕ) (output : List ℕ) → near v + 1 ≤ n + left → v < 2 ^ 24 → HasPairs memory n
      → Here m (ensure_lane g) (pos second ∷ pos (place_of v) ∷ laid regs memory n) taken output → Grown m (first_most + left * more_most) second v regs memory taken output
  grow zero m n second v regs memory taken output enough word paired r = has_grown 0 m n second v regs memory taken output (let z : nat_lt (near v) n ≡ true = grind (arith, nat_tests) in z) word paired r
  grow (suc left) m n second v regs memory taken output enough word paired r =
      by (λ k more here. grow left k (n + 1) second v regs memory taken output (omega (arith, enough)) word more here) (nat_lt (near v) n) refl
    where
      by : ((k : Moment PietConfig) → HasPairs memory (n + 1) → Here k (ensure_lane g) (pos second ∷ pos (place_of v) ∷ laid regs memory (n + 1)) taken output → Grown k (first_most + left * more_most) second v regs memory taken output)
          → (b : Bool) → nat_lt (near v) n ≡ b → Grown m (first_most + suc left * more_most) second v regs memory taken output
      by again true t = has_grown (suc left) m n second v regs memory taken output t word paired r
      by again false t =
          let low : n ≤ near v = ltb-false (near v) n t in
          let st = pos second ∷ pos (place_of v) ∷ laid regs memory n in
          let st' = pos second ∷ pos (place_of v) ∷ laid regs memory (n + 1) in
          let first = and_on p q reach runs input m (64 * (size + 140 + 1)) (64 * (size + 160 + 1)) (0 + grow_lane g) st taken output (ensure_lane g) st' taken output (asked m n second v regs memory taken output false t word r)
          (λ k here. widened k n second v regs memory taken output low word paired here) in
          let rest = again (run_from (rule_of q) input m first.steps) (one_more memory n v paired low word) first.ready in
          let last = rest.arrives in
          record {
            count = rest.count;
            paired = rest.paired;
            enough = rest.enough;
            arrives = record {
              steps = first.steps + last.steps;
              some = let z = first.some in omega (arith, z);
              few = let u = first.few in let w = last.few in omega (arith, u, w);
              ready = subst (λ (z : Moment PietConfig). Here z second (pos (place_of v) ∷ laid regs memory rest.count) taken output) (sym (run_from-add (rule_of q) input m first.steps last.steps)) last.ready;
            };
          }
