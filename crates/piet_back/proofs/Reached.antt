-- No lane is too long, and there are not too many.
use Rattle.std.proofs.Common.{◌≡◌, ℕ, zero, suc, ◌+◌, ◌*◌, ◌^◌, ◌<◌, ◌≤◌, List, [], ◌∷◌, ◌++◌, length, Option, Some, None, slice_get, unwrap_or, refl, sym, ap, ◌∙◌, arith}
use Rattle.std.proofs.lemmas.List.{length-append}
use Rattle.word24.specs.declared.word.Word.{Word}
use Rattle.eir_core.specs.declared.ops.Op.{Op}
use Rattle.eir_core.specs.Eir.{Eir, size_of}
use Rattle.piet_lane.specs.declared.command.Command.{Command}
use Rattle.piet_lane.specs.Drawn.{Reached}
use Rattle.piet_stack.specs.Code.{number_code, ensure_code, grow_code}
use Rattle.piet_back.specs.declared.layout.Layout.{Layout}
use Rattle.piet_back.specs.Lanes.{layout_of, flat, op_lane, init_lane, ensure_lane, grow_lane, ways_at, block_lanes, op_lanes, second_lanes, init_code, data_lanes, pair_lanes, lanes}
use Rattle.piet_back.proofs.Lookups.{length-flat}
use Rattle.piet_back.proofs.Lengths.{lane_few, op_few, second_few, ensure_few, grow_few}
use Rattle.piet_back.proofs.Loading.{data_few, init_few, lane_small}
use Rattle.piet_back.proofs.Simulation.{IsTiny, tiny_of, ways_near}

reached_none : Reached [] 512
reached_none zero lane e = cc
reached_none (suc k) lane e = cc

reached_one : (x : List Command) (xs : List (List Command)) → length x ≤ 512 → Reached xs 512 → Reached (x ∷ xs) 512
reached_one x xs h r zero lane e = let same : length lane ≡ length x = ap (λ o. length (unwrap_or o x)) (sym e) in omega (arith, same, h)
reached_one x xs h r (suc k) lane e = r k lane e

reached_both : (xs ys : List (List Command)) → Reached xs 512 → Reached ys 512 → Reached (xs ++ ys) 512
reached_both [] ys r s = s
reached_both (x ∷ xs) ys r s = reached_one x (xs ++ ys) (r 0 x refl) (reached_both xs ys (λ k. r (suc k)) s)

module _ (p : Eir) (tiny : IsTiny p) where
  abbrev g : Layout
  g = layout_of p

  blocks : (k : ℕ) (bs : List (List Op)) → g.blocks + k + length (flat bs) < 2 ^ 15 → Reached (block_lanes g k bs) 512
  blocks k [] h = reached_none
  blocks k (ops ∷ bs) h =
      let f = length-append ops (flat bs) in
      let short = lane_few (op_lane g k) (omega (arith, h)) in
      reached_one (number_code (op_lane g k)) (block_lanes g (k + length ops) bs) (omega (arith, short)) (blocks (k + length ops) bs (omega (arith, h, f)))

  firsts : (k : ℕ) (ops : List Op) → k + length ops ≤ g.ops → Reached (op_lanes g k ops) 512
  firsts k [] h = reached_none
  firsts k (op ∷ ops) h =
      let short = op_few (ways_at g k) (ways_near p k tiny (omega (arith, h))) op in
      reached_one _ (op_lanes g (k + 1) ops) (omega (arith, short)) (firsts (k + 1) ops (omega (arith, h)))

  seconds : (k : ℕ) (ops : List Op) → k + length ops ≤ g.ops → Reached (second_lanes g k ops) 512
  seconds k [] h = reached_none
  seconds k (op ∷ ops) h =
      let short = second_few (ways_at g k) (ways_near p k tiny (omega (arith, h))) op in
      reached_one _ (second_lanes g (k + 1) ops) (omega (arith, short)) (seconds (k + 1) ops (omega (arith, h)))

  datas : (k : ℕ) (ws : List Word) → k + length ws ≤ g.words → Reached (data_lanes g k ws) 512
  datas k [] h = reached_none
  datas k (w ∷ ws) h =
      let short = data_few g k w (omega (arith, h, tiny.small)) in
      reached_one _ (data_lanes g (k + 1) ws) (omega (arith, short)) (datas (k + 1) ws (omega (arith, h)))

  tails : Reached (pair_lanes g) 512
  tails =
      let a = ensure_few (grow_lane g) (omega (arith, tiny.small)) in
      let f = length-append grow_code (number_code (ensure_lane g)) in
      let b = lane_few (ensure_lane g) (omega (arith, tiny.small)) in
      reached_one (ensure_code (grow_lane g)) ((grow_code ++ number_code (ensure_lane g)) ∷ [] ∷ []) (omega (arith, a))
      (reached_one (grow_code ++ number_code (ensure_lane g)) ([] ∷ []) (omega (arith, f, b, grow_few)) (reached_one [] [] (omega arith) reached_none))

  pub lanes_reached : Reached (lanes p) 512
  lanes_reached =
      let all = length-flat p.blocks in
      let init = init_few g p.start (omega (arith, tiny.small)) (lane_small g.blocks p.start (omega (arith, tiny.small))) in
      reached_both (block_lanes g 0 p.blocks) _ (blocks 0 p.blocks (omega (arith, all, tiny.small)))
      (reached_both (op_lanes g 0 (flat p.blocks)) _ (firsts 0 (flat p.blocks) (omega (arith, all)))
      (reached_both (second_lanes g 0 (flat p.blocks)) _ (seconds 0 (flat p.blocks) (omega (arith, all)))
      (reached_one (init_code g p.start) _ (omega (arith, init)) (reached_both (data_lanes g 0 p.words) (pair_lanes g) (datas 0 p.words (omega arith)) tails))))
