-- Commands whose brackets are closed in order.
use Rattle.std.specs.Prelude.{◌≡◌, ℕ, zero, suc, Bool, true, false, List, [], ◌∷◌, Option, Some, None}
use Rattle.bf_lang.specs.declared.command.Command.{Command}
use Rattle.bf_lang.specs.declared.command.Command.TheVariants.{Open, Close}

-- the number of open brackets after some commands, where no `]` stands without its `[`
abbrev pub depth_after : ℕ → List Command → Option ℕ
depth_after d [] = Some d
depth_after d (Open ∷ cs) = depth_after (suc d) cs
depth_after zero (Close ∷ cs) = None
depth_after (suc d) (Close ∷ cs) = depth_after d cs
depth_after d (c ∷ cs) = depth_after d cs

-- each bracket is closed in order
abbrev pub IsBalanced : List Command → Type 0
IsBalanced cs = depth_after 0 cs ≡ Some 0

abbrev pub is_open : Command → Bool
is_open Open = true
is_open _ = false

abbrev pub is_close : Command → Bool
is_close Close = true
is_close _ = false
