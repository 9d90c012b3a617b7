-- The text that a text becomes, and what holds of it.
use Rattle.std.specs.Prelude.{ℕ, zero, suc, ◌+◌, ◌||◌, List, ◌∷◌, ◌++◌, map, length, None, if◌then◌else◌, codes}
use Rattle.std.specs.Option.{option_map_or, option_or}
use Rattle.std.specs.List.{list_any, filter}
use Rattle.c_syntax.specs.Words.{meaning}
use Rattle.c_syntax.specs.Plain as plain
use Rattle.c_syntax.specs.Plain.{CStmt, CStmts, CItem, CUnit}
use Rattle.c_types.specs.Scope.{contains}
use Rattle.c_types.specs.Units.{start_scope, defined_in}
use Rattle.c_types.specs.Room.{charges_of}
use Rattle.c_eval.specs.Helpers.{Helpers}
use Rattle.c_helpers.specs.Functions.{Helper, functions}
use Rattle.c_helpers.specs.Meanings.{is_format, stands_for, known_to_helpers}
use Rattle.c_helpers.specs.Frames.{frame_words}
use Rattle.c_helpers.specs.Fewer.{fewer_in_items, body_names, names_at_file_scope, function_of, helpers_for}

-- all helper functions, and behind them the text with calls of them
abbrev pub with_helpers : List CItem → List CItem
with_helpers items = map function_of (helpers_for items) ++ items

-- the functions that are among these, or are named in one of them
abbrev pub next_reached : List CItem → List (List ℕ) → List (List ℕ)
next_reached items names = filter (λ f. contains names f || list_any (λ g. contains (body_names items g) f) names) (defined_in items)

abbrev pub reached_in : ℕ → List CItem → List (List ℕ) → List (List ℕ)
reached_in zero items names = names
reached_in (suc n) items names = reached_in n items (next_reached items names)

-- the functions that are reached from `main` and from first values at file scope
abbrev pub reached : List CItem → List (List ℕ)
reached items = reached_in (length (defined_in items)) items (next_reached items (codes "main" ∷ names_at_file_scope items))

-- a function that isn't reached is declared alone
abbrev pub kept : List (List ℕ) → CItem → CItem
kept names (plain.Function name at result params body) = plain.Function name at result params (if contains names name then body else None)
kept names item = item

abbrev pub kept_items : List CItem → List CItem
kept_items items = map (kept (reached items)) items

-- a typed text with calls of helper functions in place of operators
abbrev pub desugared : CUnit → CUnit
desugared u = record { items = kept_items (with_helpers (fewer_in_items (start_scope u) u.items)); end = u.end }

-- ---- by which the text is evaluated

-- a local of a helper function has one word
abbrev mutual
  pub locals_in : CStmt → ℕ
  locals_in (plain.Block ss) = locals_in_all ss
  locals_in (plain.Local d) = 1
  locals_in (plain.If e t) = locals_in t
  locals_in (plain.While e t) = locals_in t
  locals_in _ = 0

  pub locals_in_all : CStmts → ℕ
  locals_in_all plain.NoStmt = 0
  locals_in_all (plain.MoreStmt t ts) = locals_in t + locals_in_all ts

-- the frame of a helper function
abbrev pub helper_frame : Helper → ℕ
helper_frame h = frame_words (length h.params) (locals_in h.body) h.body

abbrev pub helper_frames : List (List ℕ × ℕ)
helper_frames = map (λ h. (h.name, helper_frame h)) functions

-- the charges: of a helper function its frame, but none of a format's function, which has its frame in its caller's; and of each other function that in the text as it was
abbrev pub charge_in : CUnit → List ℕ → ℕ
charge_in u name = if is_format name then 0 else option_map_or (λ n. n) (option_or (meaning helper_frames name) (meaning (charges_of u) name)) 0

-- the helper functions of a text, with so much second fuel for each use
abbrev pub helpers_of : (ration : ℕ) → CUnit → Helpers
helpers_of ration u = record { charge = charge_in u; operator = stands_for; known = known_to_helpers ration; ration = ration }
