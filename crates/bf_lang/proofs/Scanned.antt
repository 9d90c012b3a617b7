-- What a reader knows of a text's brackets at each place, and at the end.
use Rattle.std.proofs.Common.{◌≡◌, ◌⊎◌, inl, inr, ℕ, zero, suc, ◌+◌, ◌-◌, ◌<◌, ◌≤◌, false, List, length, nat_eq, cond, refl, sym, arith, subst}
use Rattle.bf_lang.specs.Brackets.{Stands, IsUnopened, IsUnclosed, IsPaired}
use Rattle.bf_lang.specs.Text.{is_open_byte, is_close_byte, IsFirst}
use Rattle.bf_lang.specs.Reading.{opens_before, closes_before, IsOuter, IsScanned}
use Rattle.bf_lang.specs.declared.text.Brackets.{Brackets}
use Rattle.bf_lang.proofs.Counts.{AreApart, At, at, at_open, at_close, even_counts, within}
use Rattle.bf_lang.proofs.Counts.At.{Opens, Closes, Plain}
use Rattle.bf_lang.proofs.Pairs.{find_close, find_open, paired_from}

pub bytes_apart : AreApart is_open_byte is_close_byte
bytes_apart byte e = grind arith

before_or_next : (q p : ℕ) → q ≤ p + 1 → (q ≤ p) ⊎ (q ≡ p + 1)
before_or_next q p le = grind arith

low_or_high : (a b : ℕ) → (a < b) ⊎ (b ≤ a)
low_or_high a b = grind arith

-- no bracket that closes before a place is without its partner
pub none_unopened : (text : List ℕ) (k : ℕ) → ((p : ℕ) → p ≤ k → closes_before text p ≤ opens_before text p) → (j : ℕ) → j < k → ¬ (IsUnopened is_open_byte is_close_byte text j)
none_unopened text k whole j below u =
    let le : j + 1 ≤ k = omega arith in
    let opener = find_open is_open_byte is_close_byte text bytes_apart j u.closing (whole (j + 1) le) in
    u.alone opener.0 opener.1

-- a `]` where nothing is open
pub first_unopened : (text : List ℕ) (k : ℕ) (b : Brackets) → IsScanned text k b → b.depth ≡ 0 → Stands is_close_byte text k → IsFirst (IsUnopened is_open_byte is_close_byte text) k
first_unopened text k b s none close = record {
  holds = record {
    closing = close;
    alone = λ i o.
        let counts = at_close is_open_byte is_close_byte text bytes_apart k close in
        let le : i ≤ k = omega (arith, o.earlier) in
        let even = even_counts is_open_byte is_close_byte text i k le o.even in
        omega (arith, counts.0, counts.1, even, s.whole i le, s.level, none);
  };
  none_before = λ j below. none_unopened text k s.whole j below;
}

-- one byte further
module _ (text : List ℕ) (k : ℕ) (b : Brackets) (s : IsScanned text k b) (below : k < length text) where
  next_within : k + 1 ≤ length text
  next_within = omega arith

  whole_next : closes_before text (k + 1) ≤ opens_before text (k + 1) → (p : ℕ) → p ≤ k + 1 → closes_before text p ≤ opens_before text p
  whole_next next p le = by (before_or_next p k le) where
    by : (p ≤ k) ⊎ (p ≡ k + 1) → closes_before text p ≤ opens_before text p
    by (inl l) = s.whole p l
    by (inr e) = subst (λ q. closes_before text q ≤ opens_before text q) (sym e) next

  -- the outermost bracket stays open
  outer_next : (outer : ℕ) → IsOuter text k outer → closes_before text (k + 1) < opens_before text (k + 1) → IsOuter text (k + 1) outer
  outer_next outer o next = record {
    opening = o.opening;
    before = omega (arith, o.before);
    even = o.even;
    above = λ p later le. by p later (before_or_next p k le);
  } where
    by : (p : ℕ) → outer < p → (p ≤ k) ⊎ (p ≡ k + 1) → closes_before text p < opens_before text p
    by p later (inl l) = o.above p later l
    by p later (inr e) = subst (λ q. closes_before text q < opens_before text q) (sym e) next

  -- a byte that is no bracket
  pub scanned_plain : ¬ (Stands is_open_byte text k) → ¬ (Stands is_close_byte text k) → IsScanned text (k + 1) b
  scanned_plain no_open no_close = by (at is_open_byte is_close_byte text bytes_apart k below) where
    by : At is_open_byte is_close_byte text k → IsScanned text (k + 1) b
    by (Opens o e f) = absurd (no_open o)
    by (Closes o e f) = absurd (no_close o)
    by (Plain o p e f) =
        let self : k ≤ k = omega arith in
        let here : closes_before text k ≤ opens_before text k = s.whole k self in
        record {
          within = next_within;
          whole = whole_next (omega (arith, here, e, f));
          level = omega (arith, s.level, e, f);
          outer = λ some. outer_next b.outer (s.outer some) (omega (arith, s.level, e, f, some));
        }

  -- a `]` where something is open
  pub scanned_close : Stands is_close_byte text k → 0 < b.depth → IsScanned text (k + 1) (record { depth = b.depth - 1; outer = b.outer })
  scanned_close close some =
      let counts = at_close is_open_byte is_close_byte text bytes_apart k close in
      record {
        within = next_within;
        whole = whole_next (omega (arith, s.level, counts.0, counts.1, some));
        level = omega (arith, s.level, counts.0, counts.1, some);
        outer = λ left. outer_next b.outer (s.outer some) (omega (arith, s.level, counts.0, counts.1, left));
      }

  -- a `[`
  pub scanned_open : Stands is_open_byte text k → IsScanned text (k + 1) (record { depth = b.depth + 1; outer = cond (nat_eq b.depth 0) k b.outer })
  scanned_open opener = by b.depth refl where
    counts : (opens_before text (k + 1) ≡ opens_before text k + 1) × (closes_before text (k + 1) ≡ closes_before text k)
    counts = at_open is_open_byte is_close_byte text bytes_apart k opener

    self : k ≤ k
    self = omega arith

    next : closes_before text (k + 1) < opens_before text (k + 1)
    next = omega (arith, counts.0, counts.1, s.whole k self)

    by : (d : ℕ) → b.depth ≡ d → IsScanned text (k + 1) (record { depth = b.depth + 1; outer = cond (nat_eq b.depth 0) k b.outer })
    by zero e = record {
      within = next_within;
      whole = whole_next (omega (arith, next));
      level = omega (arith, s.level, counts.0, counts.1);
      outer = λ some. subst (λ d. IsOuter text (k + 1) (cond (nat_eq d 0) k b.outer)) (sym e) (record {
        opening = opener;
        before = omega arith;
        even = omega (arith, s.level, e);
        above = λ p later le. let is : k + 1 ≡ p = omega arith in subst (λ q. closes_before text q < opens_before text q) is next;
      });
    }
    by (suc n) e = record {
      within = next_within;
      whole = whole_next (omega (arith, next));
      level = omega (arith, s.level, counts.0, counts.1);
      outer = λ some.
          let old : 0 < b.depth = omega (arith, e) in
          let test : nat_eq b.depth 0 ≡ false = grind arith in
          subst (λ t. IsOuter text (k + 1) (cond t k b.outer)) (sym test) (outer_next b.outer (s.outer old) next);
    }

pub scanned_none : (text : List ℕ) → IsScanned text 0 (record { depth = 0; outer = 0 })
scanned_none text = record {
  within = omega arith;
  whole = λ p le. let is : 0 ≡ p = omega arith in subst (λ q. closes_before text q ≤ opens_before text q) is (omega arith);
  level = refl;
  outer = λ some. absurd (omega (arith, some));
}

-- at the end: each bracket has its partner, or the outermost has none
pub all_paired : (text : List ℕ) (b : Brackets) → IsScanned text (length text) b → b.depth ≡ 0 → IsPaired is_open_byte is_close_byte text
all_paired text b s none = paired_from is_open_byte is_close_byte text bytes_apart s.whole (omega (arith, s.level, none))

pub first_unclosed : (text : List ℕ) (b : Brackets) → IsScanned text (length text) b → 0 < b.depth → ((k : ℕ) → ¬ (IsUnopened is_open_byte is_close_byte text k)) × IsFirst (IsUnclosed is_open_byte is_close_byte text) b.outer
first_unclosed text b s some =
    let o = s.outer some in (
      λ k u. none_unopened text (length text) s.whole k (within is_close_byte text k u.closing) u,
      record {
        holds = record {
          opening = o.opening;
          alone = λ j c.
              let there : j + 1 ≤ length text = omega (arith, within is_close_byte text j c.closing) in
              let le : b.outer ≤ j = omega (arith, c.later) in
              let later : b.outer < j + 1 = omega (arith, c.later) in
              let even = even_counts is_open_byte is_close_byte text b.outer j le c.even in
              omega (arith, even, o.even, o.above (j + 1) later there);
        };
        none_before = λ i below u.
            let le : i ≤ length text = omega (arith, below, o.before) in
            let few : b.outer ≤ length text = omega (arith, o.before) in
            let close = find_close is_open_byte is_close_byte text bytes_apart i b.outer u.opening below few (λ high. omega (arith, high, o.even, s.whole i le)) in
            u.alone close.0 close.1;
      },
    )
