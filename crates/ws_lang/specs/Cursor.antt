-- For proofs only: the signs that are left of a text from a place on.
use Rattle.std.specs.Prelude.{◌≡◌, ◌≤◌, List, drop, length}
use Rattle.ws_lang.specs.declared.sign.Sign.{Sign}
use Rattle.ws_lang.specs.declared.cursor.Cursor.{Cursor}
use Rattle.ws_lang.specs.Spelling.{signs_of}

abbrev pub left : Cursor → List Sign
left c = signs_of (drop c.at c.text.now)

-- a place in the same text, no earlier, and within the text if the old one is
pub record Follows (old new : Cursor) : Type 0 where
  pub text : new.text.now ≡ old.text.now
  pub onward : old.at ≤ new.at
  pub within : old.at ≤ length old.text.now → new.at ≤ length old.text.now

-- only comments lie between
pub record Passes (old new : Cursor) : Type 0 where
  pub follows : Follows old new
  pub same : left new ≡ left old
