-- The room of a tree within the limits is small.
use Rattle.std.proofs.Common.{ℕ, suc, ◌+◌, ◌*◌, ◌^◌, ◌<◌, ◌≤◌, Bool, true, false, ◌&&◌, nat_lt, List, [], ◌∷◌, length, arith, if◌then◌else◌}
use lib.Dec.{leb}
use Rattle.std.proofs.lemmas.Bool.{and_parts, leb-true}
use Rattle.c_syntax.specs.Plain.{CUnit}
use Rattle.c_types.specs.Limits.{most_words, weight_of, file_words, has_narrow_types}
use Rattle.c_types.specs.Units.{start_scope}
use Rattle.c_types.specs.Room.{Kind, kinds, uses_of, count_kinds, kinds_of}
use Rattle.c_types.specs.Laws.{RoomIsSmall}

one_more : (t : Bool) (n m : ℕ) → n ≤ m → (if t then 1 else 0) + n ≤ suc m
one_more true n m h = omega arith
one_more false n m h = omega arith

count_bound : (ks : List Kind) (u : CUnit) → count_kinds ks u ≤ length ks
count_bound [] u = omega arith
count_bound (k ∷ ks) u = one_more (nat_lt 0 (uses_of k u)) (count_kinds ks u) (length ks) (count_bound ks u)

bound : (w k : ℕ) → w ≤ 65536 → k ≤ 16 → 30 * w + 2048 * k + 256 < 2 ^ 21
bound w k p q = omega arith

pub room_is_small : RoomIsSmall
room_is_small u h =
    let p = and_parts (leb (weight_of u) 65536 && leb (file_words (start_scope u) u.items) most_words) (has_narrow_types u) h in
    let q = and_parts (leb (weight_of u) 65536) (leb (file_words (start_scope u) u.items) most_words) p.0 in
    bound (weight_of u) (kinds_of u) (leb-true (weight_of u) 65536 q.0) (count_bound kinds u)
