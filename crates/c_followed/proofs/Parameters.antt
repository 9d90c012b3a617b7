-- Arguments as the first objects of a function.
use Rattle.std.proofs.Common.{◌≡◌, ℕ, zero, suc, ◌+◌, ◌≤◌, List, [], ◌∷◌, ◌++◌, length, Some, refl, sym, ap, ◌∙◌, subst, arith, slice_get, length-append, append_assoc}
use Rattle.eir_core.specs.Memory.{Memory, word_at}
use Rattle.c_eval.specs.State.{Value, Cell, Holds}
use Rattle.c_eval.specs.Meaning.{argument_objects, argument_names}
use Rattle.c_lowered.specs.Locations.{Location, Framed}
use Rattle.c_lowered.specs.Whole.{parameter_names, parameter_bases}
use Rattle.c_memory.specs.Lies.{Extent, Ground, Means, MeansCell, bases_from, words_of_all, NewMean}
use Rattle.c_landing.specs.Landing.{address, Names, NamesLie}
use Rattle.c_valued.specs.Calls.{WordsMean}
use Rattle.c_stated.specs.Flows.{AreFramed}
use Rattle.c_stated.proofs.Blocks.{at_end, extent_at}

pub words_few : (names : List (List ℕ)) (vs : List Value) → words_of_all (argument_objects names vs) ≤ length names
words_few [] vs = omega arith
words_few (x ∷ names) [] = omega arith
words_few (x ∷ names) (v ∷ vs) = let h = words_few names vs in omega (arith, h)

-- each has its argument's value
pub arguments_mean : (g : Ground) (bs : List Extent) (mem : Memory) (a : ℕ) (names : List (List ℕ)) (vs : List Value) → WordsMean g bs mem a vs → NewMean g bs mem a (argument_objects names vs)
arguments_mean g bs mem a [] vs h = tt
arguments_mean g bs mem a (x ∷ names) [] h = tt
arguments_mean g bs mem a (x ∷ names) (v ∷ vs) h =
    let next : suc a ≡ a + length (Holds v ∷ []) = omega arith in
    (omega arith, one, subst (λ z. NewMean g bs mem z (argument_objects names vs)) next (arguments_mean g bs mem (suc a) names vs h.1))
  where
    one : (k : ℕ) (c : Cell) → slice_get (Holds v ∷ []) k ≡ Some c → MeansCell g bs c (word_at mem (a + k))
    one zero c e = let f : Holds v ≡ c = cc e in let i : a ≡ a + 0 = omega arith in subst (λ z. MeansCell g bs z (word_at mem (a + 0))) f (subst (λ z. Means g bs v (word_at mem z)) i h.0)
    one (suc k) c e = absurd (cc e)

-- each lies where its parameter does
pub arguments_framed : (names : List (List ℕ)) (vs : List Value) (pre : List Location) (bs : List Extent) (bp d a : ℕ) → a ≡ bp + d → AreFramed (bs ++ bases_from a (argument_objects names vs)) bp (pre ++ parameter_bases names d) (length pre) (length bs) (argument_objects names vs)
arguments_framed [] vs pre bs bp d a is = tt
arguments_framed (x ∷ names) [] pre bs bp d a is = tt
arguments_framed (x ∷ names) (v ∷ vs) pre bs bp d a is =
    let t : Extent = record { at = a; words = length (Holds v ∷ []) } in
    let y = Framed d in
    let objects = argument_objects names vs in
    let es = bases_from (a + length (Holds v ∷ [])) objects in
    let ls = parameter_bases names (suc d) in
    let rest = arguments_framed names vs (pre ++ y ∷ []) (bs ++ t ∷ []) bp (suc d) (a + length (Holds v ∷ [])) (omega (arith, is)) in
    let r1 = subst (λ z. AreFramed z bp ((pre ++ y ∷ []) ++ ls) (length (pre ++ y ∷ [])) (length (bs ++ t ∷ [])) objects) (append_assoc bs (t ∷ []) es) rest in
    let r2 = subst (λ z. AreFramed (bs ++ (t ∷ es)) bp z (length (pre ++ y ∷ [])) (length (bs ++ t ∷ [])) objects) (append_assoc pre (y ∷ []) ls) r1 in
    let i : length (pre ++ y ∷ []) ≡ suc (length pre) = omega (arith, length-append pre (y ∷ [])) in
    let o : length (bs ++ t ∷ []) ≡ suc (length bs) = omega (arith, length-append bs (t ∷ [])) in
    let r3 = subst (λ z. AreFramed (bs ++ (t ∷ es)) bp (pre ++ (y ∷ ls)) z (length (bs ++ t ∷ [])) objects) i r2 in
    let r4 = subst (λ z. AreFramed (bs ++ (t ∷ es)) bp (pre ++ (y ∷ ls)) (suc (length pre)) z objects) o r3 in
    (record { offset = d; place = at_end pre y ls; there = omega (arith, length-append bs (t ∷ es)); lies = ap (λ (z : Extent). z.at) (extent_at bs t es) ∙ is }, r4)

-- without an argument there is no object
none_framed : (names : List (List ℕ)) (bs : List Extent) (bp : ℕ) (bases : List Location) (i o : ℕ) → AreFramed bs bp bases i o (argument_objects names [])
none_framed [] bs bp bases i o = tt
none_framed (x ∷ names) bs bp bases i o = tt

-- the names of parameters, before those of file scope
pub parameters_named : (names : List (List ℕ)) (vs : List Value) (bs : List Extent) (bp : ℕ) (bases : List Location) (i o : ℕ) (coded named : Names) → AreFramed bs bp bases i o (argument_objects names vs) → NamesLie bs bp bases coded named
    → NamesLie bs bp bases (parameter_names names i ++ coded) (argument_names names vs o ++ named)
parameters_named [] vs bs bp bases i o coded named h r = r
parameters_named (x ∷ names) [] bs bp bases i o coded named h r = (refl, tt, parameters_named names [] bs bp bases (suc i) o coded named (none_framed names bs bp bases (suc i) o) r)
parameters_named (x ∷ names) (v ∷ vs) bs bp bases i o coded named h r = (refl, (h.0.there, h.0.lies ∙ sym (ap (address bp) h.0.place)), parameters_named names vs bs bp bases (suc i) (suc o) coded named h.1 r)
