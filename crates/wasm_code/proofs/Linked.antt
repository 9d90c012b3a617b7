-- The module of a program can be run here.
use Rattle.std.proofs.Common.{◌≡◌, ℕ, ◌+◌, ◌*◌, ◌^◌, ◌≤◌, true, List, [], ◌∷◌, length, map, refl, arith}
use Rattle.std.specs.Prelude.{nat_le}
use Rattle.std.specs.List.{list_all, flat_map}
use Rattle.std.proofs.lemmas.Bool.Decides.{nat_tests}
use Rattle.word24.specs.declared.word.Word.{Word}
use Rattle.word24.specs.Word.{number_of}
use Rattle.eir_core.specs.Eir.{Eir, size_of}
use Rattle.wasm_rule.specs.Memory.{bytes_of}
use Rattle.wasm_rule.specs.Start.{is_placed, IsLinkable}
use Rattle.wasm_code.specs.Emitted.{segments_for, module_for}

-- four bytes for each word
pub bytes_long : (words : List Word) → length (flat_map (bytes_of 4) (map number_of words)) ≡ 4 * length words
bytes_long [] = refl
bytes_long (word ∷ words) = let rest = bytes_long words in omega arith

fits : (n : ℕ) → n ≤ 65536 * 1024 → nat_le n (65536 * 1024) ≡ true
fits n h = grind (arith, nat_tests)

placed : (p : Eir) (words : List Word) → length words ≤ 2 ^ 24 → list_all (is_placed (module_for p)) (segments_for words) ≡ true
placed p [] few = refl
placed p (word ∷ words) few =
    let bytes = flat_map (bytes_of 4) (map number_of (word ∷ words)) in
    let long = bytes_long (word ∷ words) in
    rw (fits (0 + length bytes) (omega arith)) refl

pub linkable : (p : Eir) → size_of p ≤ 2 ^ 16 → IsLinkable (module_for p)
linkable p small = record { imports = refl; entry = refl; segments = placed p p.words (omega arith) }
