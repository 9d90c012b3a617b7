-- Steps of reading, one after the other.
use Rattle.std.proofs.Common.{◌≡◌, List, [], ◌∷◌, ◌++◌, Result, Ok, Err, refl, sym, ap, ◌∙◌, append_assoc}
use Rattle.wasm_bytes.specs.declared.fault.ModFault.{ModFault}
use Rattle.wasm_bytes.specs.declared.fault.ModFault.TheVariants.{Malformed, Unsupported, TooLarge, Memory}
use Rattle.wasm_bytes.specs.Outcome.{◌>>=◌, Fails}
use Rattle.wasm_bytes.specs.Piece.{Piece}

-- what was read before, and what is still read
abbrev pub with_front : {A : Type 0} → List A → Result (List A × Piece) ModFault → Result (List A × Piece) ModFault
with_front front reading = reading >>= λ x. Ok (front ++ x.0, x.1)

pub with_front-more : {A : Type 0} (front : List A) (a : A) (reading : Result (List A × Piece) ModFault) → with_front front (reading >>= λ x. Ok (a ∷ x.0, x.1)) ≡ with_front (front ++ a ∷ []) reading
with_front-more front a (Ok x) = ap (λ xs. Ok (xs, x.1)) (simp append_assoc)
with_front-more front a (Err f) = refl

pub with_front-nil : {A : Type 0} (reading : Result (List A × Piece) ModFault) → with_front [] reading ≡ reading
with_front-nil (Ok x) = refl
with_front-nil (Err f) = refl

-- where one step is refused, so are all
pub Fails-then : {A B : Type 0} (e : ModFault) (r : Result A ModFault) (f : A → Result B ModFault) → Fails e r → Fails e (r >>= f)
Fails-then Memory r f h = tt
Fails-then (Malformed at) r f h = ap (λ s. s >>= f) h
Fails-then (Unsupported at) r f h = ap (λ s. s >>= f) h
Fails-then (TooLarge at) r f h = ap (λ s. s >>= f) h

pub Fails-along : {A : Type 0} (e : ModFault) (r s : Result A ModFault) → r ≡ s → Fails e r → Fails e s
Fails-along Memory r s e h = tt
Fails-along (Malformed at) r s e h = sym e ∙ h
Fails-along (Unsupported at) r s e h = sym e ∙ h
Fails-along (TooLarge at) r s e h = sym e ∙ h
