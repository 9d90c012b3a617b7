-- Code that is set aside and appended.
use Rattle.std.proofs.Common.{◌≡◌, ◌+◌, ◌<◌, ℕ, suc, List, [], ◌∷◌, ◌++◌, length, take, drop, get_or, add-one, drop-cons, refl, sym, ap, subst, ◌∙◌, append_assoc}
use Rattle.std.proofs.lemmas.List.{append-nil, take_more}
use Rattle.c_code.specs.Code as code
use Rattle.c_plain.specs.declared.instruction.Instruction.{Instruction}
use Rattle.c_emitted.specs.declared.emitter.Emitter.{Emitter}
use Rattle.c_emitted.specs.Tables.{Tables, Extends, AreMeant}
use Rattle.c_emitted.specs.Emits.{tables_of, StaysIn, KeepsTables, Emits}
use Rattle.c_emitted.proofs.TableLemmas.{extends_same}
use Rattle.c_emitted.proofs.EmitLemmas.{stays_then, quiet, unchanged, meant_later}
use Rattle.c_aside.specs.Aside.{HasCode, Appends, IsAside}

-- what was emitted from nothing is code that was emitted apart
pub aside_is : (a b c d : Emitter) {is : List code.Instruction} {ls : List (List ℕ)} → HasCode a b [] → Emits b c is ls → HasCode c d a.code → IsAside a d c.code is ls
aside_is a b c d {is} {ls} away e back =
    let all : c.code ≡ e.code = e.behind ∙ ap (λ (l : List Instruction). l ++ e.code) away.code in
    record {
      code = back.code;
      count = ap length all ∙ e.count;
      meant = subst (λ (l : List Instruction). AreMeant (tables_of d) is l) (sym all) (subst (λ (t : Tables). AreMeant t is e.code) (sym back.keeps.tables) e.meant);
      tables = subst (λ (t : Tables). Extends (tables_of a) t) (sym back.keeps.tables) (subst (λ (t : Tables). Extends t (tables_of c)) away.keeps.tables e.tables);
      stays = stays_then away.keeps.stays (stays_then e.stays back.keeps.stays);
      before = back.keeps.before ∙ (e.before ∙ ap (λ (n : ℕ). n + length ls) away.keeps.before);
    }

-- the tables have grown meanwhile
pub aside_quiet : {a b : Emitter} {js : List Instruction} {is : List code.Instruction} {ls : List (List ℕ)} → IsAside a b js is ls → Emits a b [] ls
aside_quiet {a} {b} {js} {is} {ls} h = quiet a b ls h.code h.tables h.stays h.before

-- it is emitted where it is appended, whatever was emitted meanwhile
pub appended : {a b : Emitter} {js : List Instruction} {is : List code.Instruction} → length js ≡ length is → AreMeant (tables_of a) is js → Appends a b js → Emits a b is []
appended {a} {b} {js} {is} count meant h = record {
  code = js;
  behind = h.code;
  count = count;
  meant = subst (λ (t : Tables). AreMeant t is js) (sym h.keeps.tables) meant;
  tables = subst (λ (t : Tables). Extends (tables_of a) t) (sym h.keeps.tables) (extends_same (tables_of a));
  stays = h.keeps.stays;
  before = h.keeps.before ∙ unchanged a;
}

-- code that was emitted apart stands behind code that was emitted later
pub aside_appended : {a b c d : Emitter} {js : List Instruction} {is ks : List code.Instruction} {ls ms : List (List ℕ)} → IsAside a b js is ls → Emits b c ks ms → Appends c d js → Emits c d is []
aside_appended h e more = appended h.count (meant_later e.tables h.meant) more

-- ---- one after the other

pub appends_none : (a : Emitter) → Appends a a []
appends_none a = record { code = sym (append-nil a.code); keeps = record { tables = refl; stays = record { owner = refl; objects = refl; files = refl }; before = refl } }

pub appends_one : (a b c : Emitter) (js ks : List Instruction) (j : Instruction) → Appends a b js → c.code ≡ b.code ++ j ∷ [] → KeepsTables b c → ks ≡ js ++ j ∷ [] → Appends a c ks
appends_one a b c js ks j h e keeps is = record {
  code = e ∙ (ap (λ (l : List Instruction). l ++ j ∷ []) h.code ∙ (append_assoc a.code js (j ∷ []) ∙ ap (λ (l : List Instruction). a.code ++ l) (sym is)));
  keeps = record { tables = keeps.tables ∙ h.keeps.tables; stays = stays_then h.keeps.stays keeps.stays; before = keeps.before ∙ h.keeps.before };
}

-- an element more of a list
pub take_at : {X : Type 0} (xs : List X) (i : ℕ) (x : X) → i < length xs → x ≡ get_or xs i x → take (i + 1) xs ≡ take i xs ++ x ∷ []
take_at xs i x h e = take_more xs i x h ∙ ap (λ y. take i xs ++ y ∷ []) (sym e)

pub drop_at : {X : Type 0} (xs : List X) (i : ℕ) (x : X) → i < length xs → x ≡ get_or xs i x → drop i xs ≡ x ∷ drop (i + 1) xs
drop_at xs i x h e = rw (add-one, drop-cons xs i x) (ap (λ y. y ∷ drop (suc i) xs) (sym e))
