-- The lanes of a program, by their numbers.
use Rattle.std.proofs.Common.{◌≡◌, ℕ, zero, suc, ◌+◌, ◌-◌, ◌*◌, ◌<◌, ◌≤◌, true, false, cond, nat_lt, List, [], ◌∷◌, ◌++◌, length, take, Option, Some, None, slice_get, unwrap_or, sum_by, refl, sym, ap, ◌∙◌, arith}
use Rattle.std.proofs.lemmas.List.{length-append}
use Rattle.std.proofs.lemmas.List.Sums.{sum_by-cons}
use Rattle.word24.specs.declared.word.Word.{Word}
use Rattle.eir_core.specs.declared.ops.Op.{Op}
use Rattle.eir_core.specs.Eir.{Eir}
use Rattle.piet_lane.specs.declared.command.Command.{Command}
use Rattle.piet_stack.specs.Code.{number_code, op_code, second_code, ensure_code, grow_code}
use Rattle.piet_back.specs.declared.layout.Layout.{Layout}
use Rattle.piet_back.specs.Lanes.{layout_of, flat, op_lane, second_lane, init_lane, data_lane, ensure_lane, grow_lane, ways_at, block_lanes, op_lanes, second_lanes, init_code, data_code, data_lanes, pair_lanes, lanes}
use Rattle.piet_back.specs.Related.{op_number}

pub get_front : {A : Type 0} (xs ys : List A) (k : ℕ) (x : A) → slice_get xs k ≡ Some x → slice_get (xs ++ ys) k ≡ Some x
get_front [] ys zero x e = cc
get_front [] ys (suc k) x e = cc
get_front (y ∷ xs) ys zero x e = e
get_front (y ∷ xs) ys (suc k) x e = get_front xs ys k x e

pub get_behind : {A : Type 0} (xs ys : List A) (k n : ℕ) → n ≡ length xs + k → slice_get (xs ++ ys) n ≡ slice_get ys k
get_behind [] ys k n e = ap (slice_get ys) (let z : n ≡ k = omega arith in z)
get_behind (x ∷ xs) ys k zero e = absurd (omega arith)
get_behind (x ∷ xs) ys k (suc n) e = get_behind xs ys k n (omega arith)

pub length-block : (g : Layout) (k : ℕ) (bs : List (List Op)) → length (block_lanes g k bs) ≡ length bs
length-block g k [] = refl
length-block g k (ops ∷ bs) = ap suc (length-block g (k + length ops) bs)

pub length-op : (g : Layout) (k : ℕ) (ops : List Op) → length (op_lanes g k ops) ≡ length ops
length-op g k [] = refl
length-op g k (op ∷ ops) = ap suc (length-op g (k + 1) ops)

pub length-second : (g : Layout) (k : ℕ) (ops : List Op) → length (second_lanes g k ops) ≡ length ops
length-second g k [] = refl
length-second g k (op ∷ ops) = ap suc (length-second g (k + 1) ops)

pub length-data : (g : Layout) (k : ℕ) (ws : List Word) → length (data_lanes g k ws) ≡ length ws
length-data g k [] = refl
length-data g k (w ∷ ws) = ap suc (length-data g (k + 1) ws)

pub length-flat : (bs : List (List Op)) → length (flat bs) ≡ sum_by length bs
length-flat [] = refl
length-flat (ops ∷ bs) = length-append ops (flat bs) ∙ (ap (λ n. length ops + n) (length-flat bs) ∙ sym (sum_by-cons length ops bs))

-- how many operations are before a block
pub before_next : (bs : List (List Op)) (b n : ℕ) (ops : List Op) → slice_get bs b ≡ Some ops → n ≡ b + 1 → length (flat (take n bs)) ≡ length (flat (take b bs)) + length ops
before_next [] zero n ops e h = cc
before_next [] (suc b) n ops e h = cc
before_next (x ∷ bs) b zero ops e h = absurd (omega arith)
before_next (x ∷ bs) zero (suc n) ops e h =
    let none : n ≡ 0 = omega arith in
    let same : length x ≡ length ops = ap (λ o. length (unwrap_or o x)) e in
    let all = length-append x (flat (take n bs)) in
    let rest : length (flat (take n bs)) ≡ 0 = ap (λ k. length (flat (take k bs))) none ∙ nothing bs in
    omega (arith, all, rest, same)
  where
    nothing : (bs : List (List Op)) → length (flat (take 0 bs)) ≡ 0
    nothing [] = refl
    nothing (y ∷ bs) = refl
before_next (x ∷ bs) (suc b) (suc n) ops e h =
    let more = before_next bs b n ops e (omega arith) in
    let f = length-append x (flat (take n bs)) in
    let g = length-append x (flat (take b bs)) in
    omega (arith, more, f, g)

pub before_all : (bs : List (List Op)) (b : ℕ) → length bs ≤ b → length (flat (take b bs)) ≡ length (flat bs)
before_all [] zero h = refl
before_all [] (suc b) h = refl
before_all (x ∷ bs) zero h = absurd (omega arith)
before_all (x ∷ bs) (suc b) h = let more = before_all bs b (omega arith) in let f = length-append x (flat (take b bs)) in let g = length-append x (flat bs) in omega (arith, more, f, g)

pub before_few : (bs : List (List Op)) (b : ℕ) → length (flat (take b bs)) ≤ length (flat bs)
before_few [] zero = omega arith
before_few [] (suc b) = omega arith
before_few (x ∷ bs) zero = omega arith
before_few (x ∷ bs) (suc b) = let more = before_few bs b in let f = length-append x (flat (take b bs)) in let g = length-append x (flat bs) in omega (arith, more, f, g)

-- an operation among all
pub flat_at : (bs : List (List Op)) (b i : ℕ) (ops : List Op) (op : Op) → slice_get bs b ≡ Some ops → slice_get ops i ≡ Some op → slice_get (flat bs) (length (flat (take b bs)) + i) ≡ Some op
flat_at [] zero i ops op e f = cc
flat_at [] (suc b) i ops op e f = cc
flat_at (x ∷ bs) zero i ops op e f =
    let same : x ≡ ops = ap (λ o. unwrap_or o x) e in
    ap (slice_get (x ++ flat bs)) (let z : 0 + i ≡ i = omega arith in z) ∙ get_front x (flat bs) i op (ap (λ (xs : List Op). slice_get xs i) same ∙ f)
flat_at (x ∷ bs) (suc b) i ops op e f =
    let all = length-append x (flat (take b bs)) in
    get_behind x (flat bs) (length (flat (take b bs)) + i) (length (x ++ flat (take b bs)) + i) (omega (arith, all)) ∙ flat_at bs b i ops op e f

block_at_lane : (g : Layout) (k : ℕ) (bs : List (List Op)) (b : ℕ) (ops : List Op) → slice_get bs b ≡ Some ops → slice_get (block_lanes g k bs) b ≡ Some (number_code (op_lane g (k + length (flat (take b bs)))))
block_at_lane g k [] zero ops e = cc
block_at_lane g k [] (suc b) ops e = cc
block_at_lane g k (x ∷ bs) zero ops e = ap (λ n. Some (number_code (op_lane g n))) (let z : k ≡ k + 0 = omega arith in z)
block_at_lane g k (x ∷ bs) (suc b) ops e =
    let all = length-append x (flat (take b bs)) in
    block_at_lane g (k + length x) bs b ops e ∙ ap (λ n. Some (number_code (op_lane g n))) (let z : k + length x + length (flat (take b bs)) ≡ k + length (x ++ flat (take b bs)) = omega (arith, all) in z)

op_at_lane : (g : Layout) (k : ℕ) (ops : List Op) (i : ℕ) (op : Op) → slice_get ops i ≡ Some op → slice_get (op_lanes g k ops) i ≡ Some (op_code (ways_at g (k + i)) op)
op_at_lane g k [] zero op e = cc
op_at_lane g k [] (suc i) op e = cc
op_at_lane g k (x ∷ ops) zero op e = ap (λ o. Some (op_code (ways_at g k) (unwrap_or o x))) e ∙ ap (λ n. Some (op_code (ways_at g n) op)) (let z : k ≡ k + 0 = omega arith in z)
op_at_lane g k (x ∷ ops) (suc i) op e = op_at_lane g (k + 1) ops i op e ∙ ap (λ n. Some (op_code (ways_at g n) op)) (let z : k + 1 + i ≡ k + suc i = omega arith in z)

second_at_lane : (g : Layout) (k : ℕ) (ops : List Op) (i : ℕ) (op : Op) → slice_get ops i ≡ Some op → slice_get (second_lanes g k ops) i ≡ Some (second_code (ways_at g (k + i)) op)
second_at_lane g k [] zero op e = cc
second_at_lane g k [] (suc i) op e = cc
second_at_lane g k (x ∷ ops) zero op e = ap (λ o. Some (second_code (ways_at g k) (unwrap_or o x))) e ∙ ap (λ n. Some (second_code (ways_at g n) op)) (let z : k ≡ k + 0 = omega arith in z)
second_at_lane g k (x ∷ ops) (suc i) op e = second_at_lane g (k + 1) ops i op e ∙ ap (λ n. Some (second_code (ways_at g n) op)) (let z : k + 1 + i ≡ k + suc i = omega arith in z)

data_at_lane : (g : Layout) (k : ℕ) (ws : List Word) (i : ℕ) (w : Word) → slice_get ws i ≡ Some w → slice_get (data_lanes g k ws) i ≡ Some (data_code g (k + i) w)
data_at_lane g k [] zero w e = cc
data_at_lane g k [] (suc i) w e = cc
data_at_lane g k (x ∷ ws) zero w e = ap (λ o. Some (data_code g k (unwrap_or o x))) e ∙ ap (λ n. Some (data_code g n w)) (let z : k ≡ k + 0 = omega arith in z)
data_at_lane g k (x ∷ ws) (suc i) w e = data_at_lane g (k + 1) ws i w e ∙ ap (λ n. Some (data_code g n w)) (let z : k + 1 + i ≡ k + suc i = omega arith in z)

module _ (p : Eir) where
  abbrev g : Layout
  g = layout_of p

  abbrev all_ops : List Op
  all_ops = flat p.blocks

  abbrev tail_lanes : List (List Command)
  tail_lanes = init_code g p.start ∷ (data_lanes g 0 p.words ++ pair_lanes g)

  abbrev from_second : List (List Command)
  from_second = second_lanes g 0 all_ops ++ tail_lanes

  abbrev from_op : List (List Command)
  from_op = op_lanes g 0 all_ops ++ from_second

  count_ops : length all_ops ≡ g.ops
  count_ops = length-flat p.blocks

  -- how many lanes there are
  pub length-lanes : length (lanes p) ≡ g.blocks + 2 * g.ops + g.words + 4
  length-lanes =
      let a = length-append (block_lanes g 0 p.blocks) from_op in
      let b = length-append (op_lanes g 0 all_ops) from_second in
      let c = length-append (second_lanes g 0 all_ops) tail_lanes in
      let d = length-append (data_lanes g 0 p.words) (pair_lanes g) in
      omega (arith, a, b, c, d, length-block g 0 p.blocks, length-op g 0 all_ops, length-second g 0 all_ops, length-data g 0 p.words, count_ops)

  pub block_is : (b : ℕ) (ops : List Op) → slice_get p.blocks b ≡ Some ops → slice_get (lanes p) b ≡ Some (number_code (op_lane g (op_number p b 0)))
  block_is b ops e =
      get_front (block_lanes g 0 p.blocks) from_op b _ (block_at_lane g 0 p.blocks b ops e)
      ∙ ap (λ n. Some (number_code (op_lane g n))) (let z : 0 + length (flat (take b p.blocks)) ≡ length (flat (take b p.blocks)) + 0 = omega arith in z)

  behind_blocks : (k n : ℕ) → n ≡ g.blocks + k → slice_get (lanes p) n ≡ slice_get from_op k
  behind_blocks k n e = get_behind (block_lanes g 0 p.blocks) from_op k n (omega (arith, e, length-block g 0 p.blocks))

  behind_ops : (k n : ℕ) → n ≡ g.blocks + g.ops + k → slice_get (lanes p) n ≡ slice_get from_second k
  behind_ops k n e = behind_blocks (g.ops + k) n (omega (arith, e)) ∙ get_behind (op_lanes g 0 all_ops) from_second k (g.ops + k) (omega (arith, length-op g 0 all_ops, count_ops))

  behind_second : (k n : ℕ) → n ≡ init_lane g + k → slice_get (lanes p) n ≡ slice_get tail_lanes k
  behind_second k n e = behind_ops (g.ops + k) n (omega (arith, e)) ∙ get_behind (second_lanes g 0 all_ops) tail_lanes k (g.ops + k) (omega (arith, length-second g 0 all_ops, count_ops))

  pub op_is : (k : ℕ) (op : Op) → slice_get all_ops k ≡ Some op → slice_get (lanes p) (op_lane g k) ≡ Some (op_code (ways_at g k) op)
  op_is k op e =
      behind_blocks k (op_lane g k) refl
      ∙ (get_front (op_lanes g 0 all_ops) from_second k _ (op_at_lane g 0 all_ops k op e) ∙ ap (λ n. Some (op_code (ways_at g n) op)) (let z : 0 + k ≡ k = omega arith in z))

  pub second_is : (k : ℕ) (op : Op) → slice_get all_ops k ≡ Some op → slice_get (lanes p) (second_lane g k) ≡ Some (second_code (ways_at g k) op)
  second_is k op e =
      behind_ops k (second_lane g k) refl
      ∙ (get_front (second_lanes g 0 all_ops) tail_lanes k _ (second_at_lane g 0 all_ops k op e) ∙ ap (λ n. Some (second_code (ways_at g n) op)) (let z : 0 + k ≡ k = omega arith in z))

  pub init_is : slice_get (lanes p) (init_lane g) ≡ Some (init_code g p.start)
  init_is = behind_second 0 (init_lane g) (omega arith)

  pub data_is : (k : ℕ) (w : Word) → slice_get p.words k ≡ Some w → slice_get (lanes p) (data_lane g k) ≡ Some (data_code g k w)
  data_is k w e =
      behind_second (suc k) (data_lane g k) (omega arith)
      ∙ (get_front (data_lanes g 0 p.words) (pair_lanes g) k _ (data_at_lane g 0 p.words k w e) ∙ ap (λ n. Some (data_code g n w)) (let z : 0 + k ≡ k = omega arith in z))

  behind_data : (k n : ℕ) → n ≡ ensure_lane g + k → slice_get (lanes p) n ≡ slice_get (pair_lanes g) k
  behind_data k n e = behind_second (suc (g.words + k)) n (omega (arith, e)) ∙ get_behind (data_lanes g 0 p.words) (pair_lanes g) k (g.words + k) (omega (arith, length-data g 0 p.words))

  pub ensure_is : slice_get (lanes p) (ensure_lane g) ≡ Some (ensure_code (grow_lane g))
  ensure_is = behind_data 0 (ensure_lane g) (omega arith)

  pub grow_is : slice_get (lanes p) (grow_lane g) ≡ Some (grow_code ++ number_code (ensure_lane g))
  grow_is = behind_data 1 (grow_lane g) (omega arith)

  pub go_is : (n : ℕ) → n ≡ grow_lane g + 1 → slice_get (lanes p) n ≡ Some []
  go_is n e = behind_data 2 n (omega (arith, e))
