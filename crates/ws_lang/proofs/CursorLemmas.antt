-- The signs from a place of a text on.
use Rattle.std.proofs.Common.{◌≡◌, ℕ, ◌+◌, ◌<◌, ◌≤◌, Bool, List, [], ◌∷◌, ◌++◌, length, drop, get_or, Option, Some, None, refl, sym, ap, ◌∙◌, append_assoc}
use Rattle.std.specs.Option.{option_to_list}
use Rattle.std.specs.List.{cons_option}
use Rattle.std.proofs.lemmas.List.{drop_more, drop_all}
use Rattle.ws_lang.specs.declared.sign.Sign.{Sign}
use Rattle.ws_lang.specs.declared.cursor.Cursor.{Cursor}
use Rattle.ws_lang.specs.Spelling.{sign_of, signs_of}
use Rattle.ws_lang.specs.Decode.{bits_in, with_bit}
use Rattle.ws_lang.specs.Cursor.{left, Follows}

-- with some bits in front
abbrev pub with_bits : List Bool → Option (List Bool × List Sign) → Option (List Bool × List Sign)
with_bits front None = None
with_bits front (Some (bits, rest)) = Some (front ++ bits, rest)

-- these bits were read
pub record ReadsBits (old new : Cursor) (front : List Bool) : Type 0 where
  pub follows : Follows old new
  pub same : with_bits front (bits_in (left new)) ≡ bits_in (left old)

-- no bits in front
pub with_bits-nil : (o : Option (List Bool × List Sign)) → with_bits [] o ≡ o
with_bits-nil None = refl
with_bits-nil (Some (bits, rest)) = refl

-- one more in front
pub with_bits-more : (front : List Bool) (bit : Bool) (o : Option (List Bool × List Sign)) → with_bits (front ++ bit ∷ []) o ≡ with_bits front (with_bit bit o)
with_bits-more front bit None = refl
with_bits-more front bit (Some (bits, rest)) = ap (λ (s : List Bool). Some (s, rest)) (append_assoc front (bit ∷ []) bits)

pub ruleset bits_read = (with_bits-nil, with_bits-more)
