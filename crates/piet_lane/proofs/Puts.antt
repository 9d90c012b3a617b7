-- Rows that are put one after the other.
use Rattle.std.proofs.Common.{◌≡◌, ℕ, zero, suc, ◌+◌, ◌<◌, ◌≤◌, List, [], ◌∷◌, ◌++◌, length, drop, Option, None, Some, slice_get, Result, Ok, Err, refl, sym, ap, subst, ◌∙◌, arith, append-nil, append_assoc}
use Rattle.std.specs.Prelude.{OnErr}
use Rattle.std.specs.Io.KnownBytes.{Appends}
use Rattle.std.specs.List.{flat_map}
use Rattle.mach_core.specs.declared.outside.Failed.{Failed}
use Rattle.mach_core.specs.Put.{Passes, GotPrefix}
use Rattle.mach_core.specs.Puts.{Outlet, Puts}
use Rattle.mach_core.proofs.Ahead.{Ahead}
use Rattle.mach_core.proofs.Sent.{Passes-more, GotPrefix-after, GotPrefix-longer, GotPrefix-flush, Appends-flush}
use Rattle.piet_image.specs.declared.colour.Colour.{Colour}
use Rattle.piet_image.specs.Printed.{row_text}
use Rattle.piet_lane.specs.declared.board.WriteFault.{WriteFault}
use Rattle.piet_lane.specs.declared.board.WriteFault.TheVariants.{Write, Memory}
use Rattle.piet_lane.specs.Drawn.{PutsIf}

-- the next row
pub texts_next : (rows : List (List Colour)) (y : ℕ) (row : List Colour) → slice_get rows y ≡ Some row → flat_map row_text (drop y rows) ≡ row_text row ++ flat_map row_text (drop (y + 1) rows)
texts_next [] zero row e = absurd (let z : None ≡ Some row = e in cc)
texts_next [] (suc y) row e = absurd (let z : None ≡ Some row = e in cc)
texts_next (r ∷ rows) zero row e = let same : r ≡ row = cc in ap (λ z. row_text z ++ flat_map row_text rows) same
texts_next (r ∷ rows) (suc y) row e = texts_next rows y row e ∙ ap (λ n. row_text row ++ flat_map row_text (drop n (r ∷ rows))) (let z : suc (y + 1) ≡ suc y + 1 = omega arith in z)

pub texts_done : (rows : List (List Colour)) (y : ℕ) → length rows ≤ y → flat_map row_text (drop y rows) ≡ []
texts_done [] zero h = refl
texts_done [] (suc y) h = refl
texts_done (r ∷ rows) zero h = absurd (omega arith)
texts_done (r ∷ rows) (suc y) h = texts_done rows y (omega arith)

nothing_sent : (a : Option (List ℕ)) → Appends a a []
nothing_sent None = tt
nothing_sent (Some s) = sym (append-nil s)

-- out fails
pub stops_at : (a c : Outlet) (all : List ℕ) (f : Failed) → Puts a c all (Err f) → PutsIf a c all (Err Write)
stops_at a c all f p = record { ok = tt; err = p.err; write = λ e. p.cause.failed; later = p.cause.later }

-- all is put
pub stops_never : (a c : Outlet) (all : List ℕ) (u : Unit {0}) → Puts a c all (Ok u) → PutsIf a c all (Ok u)
stops_never a c all u p = record { ok = p.ok; err = tt; write = λ e. absurd (cc); later = p.cause.later }

-- the parts of a text, and a flush at the end
module _ (a b : Option (List ℕ)) (first held head rows : List ℕ) (none : first ≡ []) where
  pub front_head : GotPrefix a b (first ++ head) → GotPrefix a b (head ++ rows)
  front_head p = GotPrefix-longer a b head rows (head ++ rows) refl (subst (λ (h : List ℕ). GotPrefix a b (h ++ head)) none p)

  passed : Passes a b (first ++ head) held → Passes a b head held
  passed p = subst (λ (h : List ℕ). Passes a b (h ++ head) held) none p

  pub front_rows : (c : Option (List ℕ)) → Passes a b (first ++ head) held → GotPrefix b c (held ++ rows) → GotPrefix a c (head ++ rows)
  front_rows c p q = GotPrefix-after a b c head rows held (passed p) q

  pub front_flush : (c d : Option (List ℕ)) (last : List ℕ) → Passes a b (first ++ head) held → Passes b c (held ++ rows) last → GotPrefix c d last → GotPrefix a d (head ++ rows)
  front_flush c d last p q r = GotPrefix-flush a c d (head ++ rows) last (Passes-more a b c head rows held last (passed p) q) r

  pub all_flush : (c d : Option (List ℕ)) (last : List ℕ) → Passes a b (first ++ head) held → Passes b c (held ++ rows) last → Appends c d last → Appends a d (head ++ rows)
  all_flush c d last p q r = Appends-flush a c d (head ++ rows) last (Passes-more a b c head rows held last (passed p) q) r

pub on_err_any : {T E : Type 0} (r : Result T E) (P : Type 0) → P → OnErr r P
on_err_any (Ok x) P p = tt
on_err_any (Err e) P p = p
