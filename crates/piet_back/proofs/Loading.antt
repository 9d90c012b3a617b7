-- The board comes to where the program starts.
use Rattle.std.proofs.Common.{◌≡◌, inr, ℕ, zero, suc, ◌+◌, ◌-◌, ◌*◌, ◌^◌, ◌<◌, ◌≤◌, Bool, true, false, cond, nat_lt, List, [], ◌∷◌, ◌++◌, length, drop, map as map_list, Option, Some, None, slice_get, slice_index, unwrap_or, pos, ℤ, refl, sym, ap, subst, ◌∙◌, arith, append-nil, append_assoc}
use Rattle.std.specs.FinMap as fin
use Rattle.std.proofs.Math.Nat.{mul-le-mul_right}
use Rattle.std.proofs.lemmas.Bool.{ltb-true}
use Rattle.std.proofs.lemmas.List.{length-append, length-map, drop_all}
use Rattle.mach_core.specs.Rule.{Moment, run, run_from, at_start}
use Rattle.mach_core.proofs.Runs.{run_from-add}
use Rattle.mach_core.proofs.Lists.{drop_item, drop_none}
use Rattle.word24.specs.declared.word.Word.{Word}
use Rattle.word24.specs.Word.{number_of, near}
use Rattle.eir_core.specs.Eir.{Eir, IsEir, size_of}
use Rattle.eir_core.specs.Memory.{Memory, word_at, with_words}
use Rattle.eir_core.specs.Step.{Config, Regs, eir_start}
use Rattle.eir_core.proofs.WordAt.{word_at-with_words}
use Rattle.eir_core.proofs.WordsKept.{eir_start-IsWords}
use Rattle.eir_core.proofs.Placed.{eir_start-IsPlaced}
use Rattle.sim_trait.specs.Alike.{Alike}
use Rattle.piet_image.specs.Raster.{Raster}
use Rattle.piet_lang.specs.Rule.{rule_of, start_of}
use Rattle.piet_lang.specs.Step.{Config as PietConfig}
use Rattle.piet_stack.specs.Code.{number_code, block_lane}
use Rattle.piet_stack.specs.Makes.{values_at, Makes}
use Rattle.piet_stack.specs.Stack.{pairs, laid, HasPairs}
use Rattle.piet_stack.proofs.Effects.{next, named, from_named, number, push, negate}
use Rattle.piet_back.specs.declared.layout.Layout.{Layout}
use Rattle.piet_back.specs.Lanes.{layout_of, init_lane, data_lane, zero_code, init_code, data_code, lanes, start_lane}
use Rattle.piet_back.specs.Related.{RunsProgram, Related}
use Rattle.piet_back.proofs.Lookups.{init_is, data_is}
use Rattle.piet_back.proofs.Lengths.{word_few, lane_few}
use Rattle.piet_back.proofs.Transits.{Ready, Arrives, transit, begin, and_on, looser}
use Rattle.piet_back.proofs.Simulation.{IsTiny, Leads, Settles, settle_any, lands_by}

-- data words and zeros in turn
abbrev data_stack : List Word → List ℤ
data_stack [] = []
data_stack (w ∷ ws) = pos (number_of w) ∷ pos 0 ∷ data_stack ws

pairs_data : (word : ℕ → ℕ) (ws : List Word) (k : ℕ) → ((i : ℕ) (w : Word) → slice_get ws i ≡ Some w → (word (k + i) ≡ number_of w) × (word (2 ^ 24 - 1 - (k + i)) ≡ 0)) → pairs word k ++ data_stack ws ≡ pairs word (k + length ws)
pairs_data word [] k laid = append-nil (pairs word k) ∙ ap (pairs word) (let z : k ≡ k + 0 = omega arith in z)
pairs_data word (w ∷ ws) k laid =
    let here = laid 0 w refl in
    let low : word k ≡ number_of w = ap word (let z : k ≡ k + 0 = omega arith in z) ∙ here.0 in
    let high : word (2 ^ 24 - 1 - k) ≡ 0 = ap (λ n. word (2 ^ 24 - 1 - n)) (let z : k ≡ k + 0 = omega arith in z) ∙ here.1 in
    ap (λ n. pairs word k ++ pos n ∷ pos 0 ∷ data_stack ws) (sym low)
    ∙ (ap (λ n. pairs word k ++ pos (word k) ∷ pos n ∷ data_stack ws) (sym high)
    ∙ (sym (append_assoc (pairs word k) (pos (word k) ∷ pos (word (2 ^ 24 - 1 - k)) ∷ []) (data_stack ws))
    ∙ (pairs_data word ws (suc k) (λ i v e. let n : suc k + i ≡ k + suc i = omega arith in let z = laid (suc i) v e in (ap word n ∙ z.0, ap (λ j. word (2 ^ 24 - 1 - j)) n ∙ z.1))
    ∙ ap (pairs word) (let z : suc k + length ws ≡ k + length (w ∷ ws) = omega arith in z))))

word_is : (ws : List Word) (i : ℕ) (w : Word) → slice_get ws i ≡ Some w → slice_index (map_list number_of ws) i ≡ number_of w
word_is [] zero w e = cc
word_is [] (suc i) w e = cc
word_is (x ∷ ws) zero w e = ap (λ o. number_of (unwrap_or o x)) e
word_is (x ∷ ws) (suc i) w e = word_is ws i w e

none_behind : (ns : List ℕ) (i : ℕ) → length ns ≤ i → slice_index ns i ≡ 0
none_behind [] i h = refl
none_behind (n ∷ ns) zero h = absurd (omega arith)
none_behind (n ∷ ns) (suc i) h = none_behind ns i (omega arith)

below_count : (ws : List Word) (i : ℕ) (w : Word) → slice_get ws i ≡ Some w → i < length ws
below_count [] zero w e = cc
below_count [] (suc i) w e = cc
below_count (x ∷ ws) zero w e = omega arith
below_count (x ∷ ws) (suc i) w e = let more = below_count ws i w e in omega (arith, more)

module _ (p : Eir) (few : length p.words ≤ 2 ^ 13) where
  abbrev memory : Memory
  memory = with_words fin.empty 0 (map_list number_of p.words)

  at_word : (a : ℕ) → word_at memory a ≡ slice_index (map_list number_of p.words) a
  at_word a = ap (word_at memory) (let z : a ≡ 0 + a = omega arith in z) ∙ word_at-with_words (map_list number_of p.words) 0 a

  none_at : (a : ℕ) → length p.words ≤ a → word_at memory a ≡ 0
  none_at a h = at_word a ∙ none_behind (map_list number_of p.words) a (let z = length-map p.words number_of in omega (arith, z, h))

  pub data_pairs : data_stack p.words ≡ pairs (word_at memory) (length p.words)
  data_pairs =
      pairs_data (word_at memory) p.words 0 (λ i w e.
      let below = below_count p.words i w e in
      (ap (word_at memory) (let z : 0 + i ≡ i = omega arith in z) ∙ (at_word i ∙ word_is p.words i w e), none_at (2 ^ 24 - 1 - (0 + i)) (omega (arith, below, few))))
      ∙ ap (pairs (word_at memory)) (let z : 0 + length p.words ≡ length p.words = omega arith in z)

  pub has_pairs : HasPairs memory (length p.words)
  has_pairs = record { few = omega (arith, few); rest = λ v word far. none_at v (omega (arith, far)) }

zero_makes : (s : List ℤ) → Makes zero_code s (pos 0 ∷ s)
zero_makes s = next (push s) (negate 1 s)

data_makes : (g : Layout) (k : ℕ) (w : Word) (s : List ℤ) → init_lane g + k < 2 ^ 15 → Makes (data_code g k w) s (pos (init_lane g + k) ∷ pos (number_of w) ∷ pos 0 ∷ s)
data_makes g k w s h =
    let r = w.in_range in
    next (zero_makes s) (next (number (number_of w) (pos 0 ∷ s) (omega (arith, r))) (number (init_lane g + k) (pos (number_of w) ∷ pos 0 ∷ s) (omega (arith, h))))

init_makes : (g : Layout) (start : ℕ) (s : List ℤ) → g.words < 2 ^ 15 → block_lane g.blocks start < 2 ^ 15
    → Makes (init_code g start) s (pos (block_lane g.blocks start) ∷ pos g.words ∷ pos 0 ∷ pos 0 ∷ pos 0 ∷ pos 0 ∷ pos 0 ∷ pos 0 ∷ s)
init_makes g start s few small =
    let z = pos 0 in
    next (zero_makes s) (next (zero_makes (z ∷ s)) (next (zero_makes (z ∷ z ∷ s)) (next (zero_makes (z ∷ z ∷ z ∷ s)) (next (zero_makes (z ∷ z ∷ z ∷ z ∷ s)) (next (zero_makes (z ∷ z ∷ z ∷ z ∷ z ∷ s))
    (next (number g.words (z ∷ z ∷ z ∷ z ∷ z ∷ z ∷ s) (omega (arith, few))) (number (block_lane g.blocks start) (pos g.words ∷ z ∷ z ∷ z ∷ z ∷ z ∷ z ∷ s) (omega (arith, small)))))))))

pub data_few : (g : Layout) (k : ℕ) (w : Word) → init_lane g + k < 2 ^ 15 → length (data_code g k w) ≤ 160
data_few g k w h =
    let f = length-append (number_code (number_of w)) (number_code (init_lane g + k)) in
    let a = word_few (number_of w) w.in_range in
    let b = lane_few (init_lane g + k) h in
    omega (arith, f, a, b)

pub init_few : (g : Layout) (start : ℕ) → g.words < 2 ^ 15 → block_lane g.blocks start < 2 ^ 15 → length (init_code g start) ≤ 160
init_few g start few small =
    let f = length-append (number_code g.words) (number_code (block_lane g.blocks start)) in
    let a = lane_few g.words few in
    let b = lane_few (block_lane g.blocks start) small in
    omega (arith, f, a, b)

pub lane_small : (blocks k : ℕ) → blocks < 2 ^ 15 → block_lane blocks k < 2 ^ 15
lane_small blocks k h = by (nat_lt k blocks) refl
  where
    by : (b : Bool) → nat_lt k blocks ≡ b → cond b k 32767 < 2 ^ 15
    by true t = let z = ltb-true k blocks t in omega (arith, z, h)
    by false t = omega arith

module _ (p : Eir) (q : Raster) (reach : ℕ) (runs : RunsProgram p q reach) (input : List ℕ) (tiny : IsTiny p) where
  abbrev g : Layout
  g = layout_of p

  abbrev size : ℕ
  size = length (lanes p)

  abbrev unit : ℕ
  unit = 64 * (size + 160 + 1)

  abbrev to : ℕ
  to = block_lane g.blocks p.start

  to_small : to < 2 ^ 15
  to_small = lane_small g.blocks p.start (omega (arith, tiny.small))

  few_words : length p.words ≤ 2 ^ 13
  few_words = omega (arith, tiny.small)

  abbrev bottom : List ℤ
  bottom = laid (eir_start p).regs (eir_start p).memory (length p.words)

  -- the registers over the data words
  init : (s : List ℤ) → s ≡ data_stack p.words → Makes (init_code g p.start) s (pos to ∷ bottom)
  init s e =
      named (init_makes g p.start s (omega (arith, tiny.small)) to_small)
      (ap (λ (z : List ℤ). pos to ∷ pos g.words ∷ pos 0 ∷ pos 0 ∷ pos 0 ∷ pos 0 ∷ pos 0 ∷ pos 0 ∷ z) (e ∙ data_pairs p few_words))

  next_data : (j : ℕ) (w : Word) → drop j p.words ≡ w ∷ drop (suc j) p.words → init_lane g + j < 2 ^ 15 → Makes (data_code g j w) (data_stack (drop (suc j) p.words)) (pos (init_lane g + j) ∷ data_stack (drop j p.words))
  next_data j w e h = named (data_makes g j w (data_stack (drop (suc j) p.words)) h) (ap (λ (z : List Word). pos (init_lane g + j) ∷ data_stack z) (sym e))

  enter : (j : ℕ) (m : Moment PietConfig) → j ≤ length p.words → Ready p q reach runs input m (init_lane g + j) (data_stack (drop j p.words)) 0 [] → Arrives p q reach runs input m ((j + 1) * unit) to bottom 0 []
  enter zero m h r =
      let is : init_lane g + 0 ≡ init_lane g = omega arith in
      looser p q reach runs input m unit ((0 + 1) * unit) to bottom 0 [] (omega arith)
      (transit p q reach runs input m (init_lane g) (data_stack (drop 0 p.words)) 0 [] (init_code g p.start) 160 to bottom 0 [] (subst (λ k. Ready p q reach runs input m k (data_stack (drop 0 p.words)) 0 []) is r) (init_is p) (omega (arith, tiny.small))
      (init_few g p.start (omega (arith, tiny.small)) to_small) ((init (data_stack (drop 0 p.words)) (ap data_stack (drop_none p.words))).does input 0 []))
  enter (suc j) m h r =
      let item = drop_item p.words j (omega (arith, h)) in
      let is : init_lane g + suc j ≡ data_lane g j = omega arith in
      let small : init_lane g + j < 2 ^ 15 = omega (arith, h, tiny.small) in
      let st = data_stack (drop (suc j) p.words) in
      let st' = data_stack (drop j p.words) in
      let first = transit p q reach runs input m (data_lane g j) st 0 [] (data_code g j item.0) 160 (init_lane g + j) st' 0 [] (subst (λ k. Ready p q reach runs input m k st 0 []) is r) (data_is p j item.0 item.1) (omega (arith, h, tiny.small)) (data_few g j item.0 small)
      ((next_data j item.0 item.2 small).does input 0 []) in
      looser p q reach runs input m (unit + (j + 1) * unit) ((suc j + 1) * unit) to bottom 0 [] (omega arith)
      (and_on p q reach runs input m unit ((j + 1) * unit) (init_lane g + j) st' 0 [] to bottom 0 [] first (λ k here. enter j k (omega (arith, h)) here))

  starts : (j : ℕ) → j ≡ length p.words → Arrives p q reach runs input (at_start (start_of q)) ((length p.words + 1) * unit) to bottom 0 []
  starts zero e =
      let is : start_lane p ≡ init_lane g = omega (arith, e) in
      let none : [] ≡ data_stack p.words = sym (ap data_stack (sym (drop_none p.words) ∙ drop_all 0 p.words (omega (arith, e)))) in
      looser p q reach runs input (at_start (start_of q)) unit ((length p.words + 1) * unit) to bottom 0 [] (omega (arith, e))
      (begin p q reach runs input (init_code g p.start) 160 to bottom 0 [] (ap (slice_get (lanes p)) is ∙ init_is p) (init_few g p.start (omega (arith, tiny.small)) to_small) ((init [] none).does input 0 []))
  starts (suc j) e =
      let item = drop_item p.words j (omega (arith, e)) in
      let is : start_lane p ≡ data_lane g j = omega (arith, e) in
      let small : init_lane g + j < 2 ^ 15 = omega (arith, e, tiny.small) in
      let st' = data_stack (drop j p.words) in
      let none : data_stack (drop (suc j) p.words) ≡ [] = ap data_stack (drop_all (suc j) p.words (omega (arith, e))) in
      let first = begin p q reach runs input (data_code g j item.0) 160 (init_lane g + j) st' 0 [] (ap (slice_get (lanes p)) is ∙ data_is p j item.0 item.1) (data_few g j item.0 small)
      ((from_named none (next_data j item.0 item.2 small)).does input 0 []) in
      looser p q reach runs input (at_start (start_of q)) (unit + (j + 1) * unit) ((length p.words + 1) * unit) to bottom 0 [] (subst (λ n. unit + (j + 1) * unit ≤ (n + 1) * unit) e (let z : unit + (j + 1) * unit ≤ (suc j + 1) * unit = omega arith in z))
      (and_on p q reach runs input (at_start (start_of q)) unit ((j + 1) * unit) (init_lane g + j) st' 0 [] to bottom 0 [] first (λ k here. enter j k (omega (arith, e)) here))

  pub loads : IsEir p → (k : ℕ) × (k ≤ (length p.words + 1) * unit + 64 * (2 * size + 60)) × Alike (Related p q) (at_start (eir_start p)) (run (rule_of q) (start_of q) input k)
  loads sound =
      let s = at_start (eir_start p) in
      let l = lands_by p q reach runs input tiny s (at_start (start_of q)) ((length p.words + 1) * unit) (64 * (2 * size + 60)) to bottom 0 [] (starts (length p.words) refl)
      (λ k here. settle_any p q reach runs input tiny s k to (length p.words) (inr (refl, refl)) (eir_start-IsWords p) (eir_start-IsPlaced p sound) (has_pairs p few_words) here) in
      (l.steps, l.few, l.alike)

-- the bound of loading
pub loads_few : (p : Eir) (size : ℕ) → IsTiny p → size ≡ length (lanes p) → (length p.words + 1) * (64 * (size + 160 + 1)) + 64 * (2 * size + 60) ≤ 2 ^ 16 * (size_of p + 1) * (length p.words + 1)
loads_few p size tiny is =
    let lanes_few = tiny.few in
    let lanes_are = tiny.lanes in
    let one : 64 * (3 * size + 221) ≤ 2 ^ 16 * (size_of p + 1) = omega (arith, is, lanes_few, lanes_are) in
    let all : (length p.words + 1) * (64 * (size + 160 + 1)) + 64 * (2 * size + 60) ≤ (64 * (3 * size + 221)) * (length p.words + 1) = omega arith in
    let a : (64 * (3 * size + 221)) * (length p.words + 1) ≤ (2 ^ 16 * (size_of p + 1)) * (length p.words + 1) = mul-le-mul_right (length p.words + 1) one in
    omega (arith, all, a)
