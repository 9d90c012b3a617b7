-- How deep brackets are, by their counts.
use Rattle.std.proofs.Common.{◌≡◌, ℕ, zero, suc, ◌+◌, ◌≤◌, Bool, true, false, cond, List, [], ◌∷◌, length, take, Option, Some, None, refl, sym, ap, ◌∙◌, arith, subst}
use Rattle.std.specs.List.{count_by}
use Rattle.std.proofs.lemmas.List.{take_all}
use Rattle.std.proofs.lemmas.List.Sums.{sum_by-cons}
use Rattle.bf_lang.specs.declared.command.Command.{Command}
use Rattle.bf_lang.specs.declared.command.Command.TheVariants.{Right, Left, Plus, Minus, Write, Read, Open, Close}
use Rattle.bf_lang.specs.Balance.{depth_after, IsBalanced, is_open, is_close}
use Rattle.bf_lang.specs.Brackets.{IsPaired}
use Rattle.bf_lang.specs.Text.{command_of, with_command, commands_in, is_open_byte, is_close_byte}
use Rattle.bf_lang.proofs.Counts.{AreApart, clash}
use Rattle.bf_lang.proofs.Pairs.{paired_from, whole_of, level_of}
use Rattle.bf_lang.proofs.Scanned.{bytes_apart}

pub commands_apart : AreApart is_open is_close
commands_apart Right e = refl
commands_apart Left e = refl
commands_apart Plus e = refl
commands_apart Minus e = refl
commands_apart Write e = refl
commands_apart Read e = refl
commands_apart Open e = refl
commands_apart Close e = absurd (clash (sym e))

-- with so many open before, so many are open behind a list, and never fewer than none
pub record Known {A : Type 0} (opens closes : A → Bool) (xs : List A) (d e : ℕ) : Type 0 where
  pub level : count_by opens xs + d ≡ count_by closes xs + e
  pub whole : (q : ℕ) → q ≤ length xs → count_by closes (take q xs) ≤ count_by opens (take q xs) + d

count_cons : {A : Type 0} (test : A → Bool) (x : A) (xs : List A) (b : Bool) → test x ≡ b → count_by test (x ∷ xs) ≡ cond b 1 0 + count_by test xs
count_cons test x xs b e = sum_by-cons (λ y. cond (test y) 1 0) x xs ∙ ap (λ t. cond t 1 0 + count_by test xs) e

module _ {A : Type 0} (opens closes : A → Bool) where
  pub known_none : (d e : ℕ) → d ≡ e → Known opens closes [] d e
  known_none d e same = record {
    level = omega arith;
    whole = λ q le. let is : 0 ≡ q = omega arith in subst (λ r. count_by closes (take r []) ≤ count_by opens (take r []) + d) is (omega arith);
  }

  -- a list with one more in front
  pub known_more : (x : A) (xs : List A) (a b : Bool) (d d' e : ℕ) → opens x ≡ a → closes x ≡ b → cond a 1 0 + d ≡ cond b 1 0 + d' → Known opens closes xs d' e → Known opens closes (x ∷ xs) d e
  known_more x xs a b d d' e o c step k = record {
    level = omega (arith, count_cons opens x xs a o, count_cons closes x xs b c, k.level);
    whole = whole;
  } where
    whole : (q : ℕ) → q ≤ length (x ∷ xs) → count_by closes (take q (x ∷ xs)) ≤ count_by opens (take q (x ∷ xs)) + d
    whole zero le = omega arith
    whole (suc q) le = let less : q ≤ length xs = omega arith in omega (arith, count_cons opens x (take q xs) a o, count_cons closes x (take q xs) b c, k.whole q less)

  pub known_less : (x : A) (xs : List A) (a b : Bool) (d d' e : ℕ) → opens x ≡ a → closes x ≡ b → cond a 1 0 + d ≡ cond b 1 0 + d' → Known opens closes (x ∷ xs) d e → Known opens closes xs d' e
  known_less x xs a b d d' e o c step k = record {
    level = omega (arith, count_cons opens x xs a o, count_cons closes x xs b c, k.level);
    whole = λ q le. let more : suc q ≤ length (x ∷ xs) = omega arith in omega (arith, count_cons opens x (take q xs) a o, count_cons closes x (take q xs) b c, k.whole (suc q) more);
  }

  pub known_first : (x : A) (xs : List A) (e : ℕ) → closes x ≡ true → opens x ≡ false → ¬ (Known opens closes (x ∷ xs) 0 e)
  known_first x xs e c o k = let more : 1 ≤ length (x ∷ xs) = omega arith in omega (arith, count_cons opens x (take 0 xs) false o, count_cons closes x (take 0 xs) true c, k.whole 1 more)

abbrev KnownCode : List Command → ℕ → ℕ → Type 0
KnownCode = Known is_open is_close

none_is_some : (d e : ℕ) → None ≡ Some e → ⊥
none_is_some d e h = cc

some_is : (d e : ℕ) → Some d ≡ Some e → d ≡ e
some_is d e h = cc

-- by the depth
pub known_of : (cs : List Command) (d e : ℕ) → depth_after d cs ≡ Some e → KnownCode cs d e
known_of [] d e h = known_none is_open is_close d e (some_is d e h)
known_of (Right ∷ cs) d e h = known_more is_open is_close Right cs false false d d e refl refl refl (known_of cs d e h)
known_of (Left ∷ cs) d e h = known_more is_open is_close Left cs false false d d e refl refl refl (known_of cs d e h)
known_of (Plus ∷ cs) d e h = known_more is_open is_close Plus cs false false d d e refl refl refl (known_of cs d e h)
known_of (Minus ∷ cs) d e h = known_more is_open is_close Minus cs false false d d e refl refl refl (known_of cs d e h)
known_of (Write ∷ cs) d e h = known_more is_open is_close Write cs false false d d e refl refl refl (known_of cs d e h)
known_of (Read ∷ cs) d e h = known_more is_open is_close Read cs false false d d e refl refl refl (known_of cs d e h)
known_of (Open ∷ cs) d e h = known_more is_open is_close Open cs true false d (suc d) e refl refl (omega arith) (known_of cs (suc d) e h)
known_of (Close ∷ cs) zero e h = absurd (none_is_some 0 e h)
known_of (Close ∷ cs) (suc d) e h = known_more is_open is_close Close cs false true (suc d) d e refl refl (omega arith) (known_of cs d e h)

-- and back
pub depth_of : (cs : List Command) (d e : ℕ) → KnownCode cs d e → depth_after d cs ≡ Some e
depth_of [] d e k = let same : d ≡ e = omega (arith, k.level) in ap (λ n. Some n) same
depth_of (Right ∷ cs) d e k = depth_of cs d e (known_less is_open is_close Right cs false false d d e refl refl refl k)
depth_of (Left ∷ cs) d e k = depth_of cs d e (known_less is_open is_close Left cs false false d d e refl refl refl k)
depth_of (Plus ∷ cs) d e k = depth_of cs d e (known_less is_open is_close Plus cs false false d d e refl refl refl k)
depth_of (Minus ∷ cs) d e k = depth_of cs d e (known_less is_open is_close Minus cs false false d d e refl refl refl k)
depth_of (Write ∷ cs) d e k = depth_of cs d e (known_less is_open is_close Write cs false false d d e refl refl refl k)
depth_of (Read ∷ cs) d e k = depth_of cs d e (known_less is_open is_close Read cs false false d d e refl refl refl k)
depth_of (Open ∷ cs) d e k = depth_of cs (suc d) e (known_less is_open is_close Open cs true false d (suc d) e refl refl (omega arith) k)
depth_of (Close ∷ cs) zero e k = absurd (known_first is_open is_close Close cs e refl refl k)
depth_of (Close ∷ cs) (suc d) e k = depth_of cs d e (known_less is_open is_close Close cs false true (suc d) d e refl refl (omega arith) k)

-- the brackets of a text are those of its commands
abbrev opens_by : Option Command → Bool
opens_by None = false
opens_by (Some c) = is_open c

abbrev closes_by : Option Command → Bool
closes_by None = false
closes_by (Some c) = is_close c

open_kind : (byte : ℕ) → is_open_byte byte ≡ opens_by (command_of byte)
open_kind byte = grind arith

close_kind : (byte : ℕ) → is_close_byte byte ≡ closes_by (command_of byte)
close_kind byte = grind arith

known_command : (byte : ℕ) (bytes : List ℕ) (o : Option Command) (d e : ℕ) → is_open_byte byte ≡ opens_by o → is_close_byte byte ≡ closes_by o
    → ((d : ℕ) → Known is_open_byte is_close_byte bytes d e → KnownCode (commands_in bytes) d e) → Known is_open_byte is_close_byte (byte ∷ bytes) d e → KnownCode (with_command o (commands_in bytes)) d e
known_command byte bytes None d e a b rest k = rest d (known_less is_open_byte is_close_byte byte bytes false false d d e a b refl k)
known_command byte bytes (Some Right) d e a b rest k = known_more is_open is_close Right (commands_in bytes) false false d d e refl refl refl (rest d (known_less is_open_byte is_close_byte byte bytes false false d d e a b refl k))
known_command byte bytes (Some Left) d e a b rest k = known_more is_open is_close Left (commands_in bytes) false false d d e refl refl refl (rest d (known_less is_open_byte is_close_byte byte bytes false false d d e a b refl k))
known_command byte bytes (Some Plus) d e a b rest k = known_more is_open is_close Plus (commands_in bytes) false false d d e refl refl refl (rest d (known_less is_open_byte is_close_byte byte bytes false false d d e a b refl k))
known_command byte bytes (Some Minus) d e a b rest k = known_more is_open is_close Minus (commands_in bytes) false false d d e refl refl refl (rest d (known_less is_open_byte is_close_byte byte bytes false false d d e a b refl k))
known_command byte bytes (Some Write) d e a b rest k = known_more is_open is_close Write (commands_in bytes) false false d d e refl refl refl (rest d (known_less is_open_byte is_close_byte byte bytes false false d d e a b refl k))
known_command byte bytes (Some Read) d e a b rest k = known_more is_open is_close Read (commands_in bytes) false false d d e refl refl refl (rest d (known_less is_open_byte is_close_byte byte bytes false false d d e a b refl k))
known_command byte bytes (Some Open) d e a b rest k = known_more is_open is_close Open (commands_in bytes) true false d (suc d) e refl refl (omega arith) (rest (suc d) (known_less is_open_byte is_close_byte byte bytes true false d (suc d) e a b (omega arith) k))
known_command byte bytes (Some Close) zero e a b rest k = absurd (known_first is_open_byte is_close_byte byte bytes e b a k)
known_command byte bytes (Some Close) (suc d) e a b rest k = known_more is_open is_close Close (commands_in bytes) false true (suc d) d e refl refl (omega arith) (rest d (known_less is_open_byte is_close_byte byte bytes false true (suc d) d e a b (omega arith) k))

known_text : (text : List ℕ) (d e : ℕ) → Known is_open_byte is_close_byte text d e → KnownCode (commands_in text) d e
known_text [] d e k = let same : d ≡ e = omega (arith, k.level) in known_none is_open is_close d e same
known_text (byte ∷ bytes) d e k = known_command byte bytes (command_of byte) d e (open_kind byte) (close_kind byte) (λ d' k'. known_text bytes d' e k') k

module _ {A : Type 0} (opens closes : A → Bool) (xs : List A) (apart : AreApart opens closes) where
  pub known_paired : IsPaired opens closes xs → Known opens closes xs 0 0
  known_paired paired =
      let all : take (length xs) xs ≡ xs = take_all (length xs) xs (omega arith) in
      record {
        level = omega (arith, level_of opens closes xs apart paired, ap (count_by opens) all, ap (count_by closes) all);
        whole = λ q le. omega (arith, whole_of opens closes xs apart paired q le);
      }

  pub paired_known : Known opens closes xs 0 0 → IsPaired opens closes xs
  paired_known k =
      let all : take (length xs) xs ≡ xs = take_all (length xs) xs (omega arith) in
      paired_from opens closes xs apart (λ q le. omega (arith, k.whole q le)) (omega (arith, k.level, ap (count_by opens) all, ap (count_by closes) all))

-- commands in which each bracket has its partner, and those of such a text, are balanced
pub balanced_paired : (code : List Command) → IsPaired is_open is_close code → IsBalanced code
balanced_paired code paired = depth_of code 0 0 (known_paired is_open is_close code commands_apart paired)

pub paired_balanced : (code : List Command) → IsBalanced code → IsPaired is_open is_close code
paired_balanced code balanced = paired_known is_open is_close code commands_apart (known_of code 0 0 balanced)

pub balanced_text : (text : List ℕ) → IsPaired is_open_byte is_close_byte text → IsBalanced (commands_in text)
balanced_text text paired = depth_of (commands_in text) 0 0 (known_text text 0 0 (known_paired is_open_byte is_close_byte text bytes_apart paired))
