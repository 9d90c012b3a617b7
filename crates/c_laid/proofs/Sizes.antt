-- What a program's size says of its blocks and its memory.
use Rattle.std.proofs.Common.{◌≡◌, ℕ, ◌+◌, ◌^◌, ◌<◌, ◌≤◌, Bool, true, false, List, [], ◌∷◌, length, map, sym, ap, ◌∙◌, subst, arith, length-append}
use Rattle.std.proofs.lemmas.List.{length-map}
use Rattle.eir_core.specs.Eir.{size_of}
use Rattle.c_syntax.specs.Plain.{CUnit}
use Rattle.c_eval.specs.State.{Object}
use Rattle.c_eval.specs.Run.{most_charge}
use Rattle.c_eval.specs.Text.{text_of}
use Rattle.c_place.specs.Code.{jumps}
use Rattle.c_place.proofs.Sizes.{cut_size}
use Rattle.c_lowered.specs.Locations.{Linking}
use Rattle.c_lowered.specs.Operations.{wrapped}
use Rattle.c_lowered.specs.Whole.{firsts_given, words_given, literals_of, all_letters, cell_word, given_words, data_end, linking_of, whole_code, data_words, words_from, lowered}
use Rattle.c_lowered.proofs.Closing.{code_closes}
use Rattle.c_laid.specs.Rooms.{cells_in, SmallProgramsHaveRoom}
use Rattle.c_laid.proofs.RoomsObjects.{objects_are_few}

-- of objects with first values and of the others
each_given : (flags : List Bool) (xs : List Object) → words_given false flags xs ≤ cells_in xs
each_given [] xs = omega arith
each_given (given ∷ more) [] = omega arith
each_given (true ∷ more) (x ∷ xs) = let h = each_given more xs in omega (arith, h)
each_given (false ∷ more) (x ∷ xs) = let h = each_given more xs in omega (arith, h)

-- the data words end where the data end
given_long : (w : Linking) (flags : List Bool) (xs : List Object) → words_given true flags xs ≤ length (given_words w flags xs)
given_long w [] xs = omega arith
given_long w (true ∷ more) [] = omega arith
given_long w (false ∷ more) [] = omega arith
given_long w (true ∷ more) (x ∷ xs) = let h = given_long w more xs in let a = length-append (map (cell_word w) x.cells) (given_words w more xs) in let b = length-map x.cells (cell_word w) in omega (arith, h, a, b)
given_long w (false ∷ more) (x ∷ xs) = let h = given_long w more xs in omega (arith, h)

data_long : (v : CUnit) → data_end v ≤ length (data_words v)
data_long v =
    let a = given_long (linking_of v) (firsts_given v.items) (text_of v).objects in
    let b = length-append (given_words (linking_of v) (firsts_given v.items) (text_of v).objects) (all_letters (literals_of v)) in
    omega (arith, a, b)

by : (size j ops words end others all : ℕ) → size ≡ j + ops + words → size ≤ 2 ^ 21 → end ≤ words → others ≤ all → all ≤ 2 ^ 22 + 2 ^ 16 → (j < 2 ^ 24) × (end + others + most_charge + 1024 < 2 ^ 24)
by size j ops words end others all e s d o a = (omega (arith, e, s), omega (arith, e, s, d, o, a))

pub small_programs_have_room : SmallProgramsHaveRoom
unfolding lowered
small_programs_have_room u v typed small same size =
    let few : cells_in (text_of v).objects ≤ 2 ^ 22 + 2 ^ 16 = subst (λ xs. cells_in xs ≤ 2 ^ 22 + 2 ^ 16) (sym same) (objects_are_few u typed small) in
    let whole = cut_size (whole_code v) (words_from (data_words v)) (code_closes v) in
    let long : length (words_from (data_words v)) ≡ length (data_words v) = length-map (data_words v) wrapped in
    let k = by (size_of (lowered v)) (jumps (whole_code v)) (length (whole_code v)) (length (data_words v)) (data_end v) (words_given false (firsts_given v.items) (text_of v).objects) (cells_in (text_of v).objects) (whole ∙ ap (λ n. jumps (whole_code v) + length (whole_code v) + n) long) size (data_long v) (each_given (firsts_given v.items) (text_of v).objects) few in
    record { few = k.0; room = k.1 }
