-- Values at addresses.
use Rattle.std.proofs.Common.{◌≡◌, ◌≢◌, zero, suc, false, cond, List, Some, None, ℤ, pos, negsuc, refl, sym, ap, ◌∙◌, unwrap_or, arith, to_z, of_z, w64}
use mir.Val.{SFits}
use Rattle.std.proofs.lemmas.Int.{to_z-of_z}
use Rattle.std.specs.Ordering.{int_cmp}
use Rattle.std.specs.Cmp.{int_cmp_total}
use Rattle.std.specs.Map.{lookup}
use Rattle.std.specs.BTreeMap.{is_at}
use Rattle.std.specs.FinMap as map
use Rattle.mach_core.specs.Sparse.{value_at, with_value}
use Rattle.mach_core.proofs.Entries.{get_entry, one_given, one_taken}
use Rattle.mach_core.specs.Integer.{is_zero}

-- what the entries have at an address
pub value_at-entries : (es : List (ℤ × ℤ)) (address : ℤ) → value_at (pos 0) (map.from_entries {R = int_cmp} es) address ≡ unwrap_or (lookup (is_at (int_cmp address)) es) (pos 0)
value_at-entries es address = ap (λ o. unwrap_or o (pos 0)) (get_entry int_cmp int_cmp_total es address)

not_zero : (z : ℤ) → z ≢ pos 0 → is_zero z ≡ false
not_zero (pos zero) h = absurd (h refl)
not_zero (pos (suc n)) h = refl
not_zero (negsuc n) h = refl

-- the entries after a 0 was stored
pub with_value-zero : (es fs : List (ℤ × ℤ)) (address value : ℤ) → value ≡ pos 0 → ((q : ℤ) → lookup (is_at (int_cmp q)) fs ≡ cond (is_at (int_cmp address) q) None (lookup (is_at (int_cmp q)) es)) → map.from_entries {R = int_cmp} fs ≡ with_value is_zero (map.from_entries es) address value
with_value-zero es fs address value e h =
    one_taken int_cmp int_cmp_total map.int_cmp-IsAntisymmetric es fs address h
    ∙ sym (ap (λ z. with_value is_zero (map.from_entries {R = int_cmp} es) address z) e)

-- and after another value
pub with_value-other : (es fs : List (ℤ × ℤ)) (address value : ℤ) → value ≢ pos 0 → ((q : ℤ) → lookup (is_at (int_cmp q)) fs ≡ cond (is_at (int_cmp address) q) (Some value) (lookup (is_at (int_cmp q)) es)) → map.from_entries {R = int_cmp} fs ≡ with_value is_zero (map.from_entries es) address value
with_value-other es fs address value h e =
    one_given int_cmp int_cmp_total map.int_cmp-IsAntisymmetric es fs address value e
    ∙ sym (ap (λ b. cond b (map.remove (map.from_entries {R = int_cmp} es) address) (map.insert (map.from_entries {R = int_cmp} es) address value)) (not_zero value h))

-- only 0 has the bits of 0
pub zero_bits : (z : ℤ) → SFits w64 z → of_z w64 z ≡ 0 → z ≡ pos 0
zero_bits (pos n) f e = ap pos e
zero_bits (negsuc n) f e = absurd (omega (arith, f.sfits))

-- a look-up at an address that is kept as its bits
pub at_address : (es : List (ℤ × ℤ)) (address : ℤ) → SFits w64 address → lookup (is_at (int_cmp (to_z w64 (of_z w64 address)))) es ≡ lookup (is_at (int_cmp address)) es
at_address es address f = ap (λ a. lookup (is_at (int_cmp a)) es) (to_z-of_z w64 address f)
