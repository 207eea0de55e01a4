-- The first entry with which a list is no run so far any more is the first that strays.
use Rattle.std.specs.Prelude.{◌≡◌, ◌↔◌, ◌<◌, ℕ, zero, suc, Bool, true, false, List, [], ◌∷◌, ◌++◌, length, take, drop, slice_index_or, Some, None}
use Rattle.std.proofs.Common.{refl, sym, ◌∙◌, ap, arith, append_assoc}
use Rattle.std.proofs.lemmas.List.{append-nil}
use Rattle.exec_tree.specs.Exec.{Exec}
use Rattle.trace_law.specs.Part.{Part}
use Rattle.trace_law.specs.Stray.{may_follow, first_stray}
use Rattle.run_log.specs.declared.entry.Entry.{Entry}

-- the law that is used, of one tree
abbrev pub NoneStray : Exec → Type 0
NoneStray e = (t : List Entry) → (first_stray e [] t ≡ None) ↔ Part e t

-- behind entries of which none strays
behind : (e : Exec) (before t rest : List Entry) → first_stray e before t ≡ None → first_stray e before (t ++ rest) ≡ first_stray e (before ++ t) rest
behind e before [] rest h = ap (λ (u : List Entry). first_stray e u rest) (sym (append-nil before))
behind e before (x ∷ t) rest h = go (may_follow e before x) refl (λ g. behind e (before ++ x ∷ []) t rest g)
  where
    go : (b : Bool) → may_follow e before x ≡ b → (first_stray e (before ++ x ∷ []) t ≡ None → first_stray e (before ++ x ∷ []) (t ++ rest) ≡ first_stray e ((before ++ x ∷ []) ++ t) rest) → first_stray e before (x ∷ (t ++ rest)) ≡ first_stray e (before ++ x ∷ t) rest
    go true q rec = rw q (rec (rw q at h) ∙ ap (λ (u : List Entry). first_stray e u rest) (append_assoc before (x ∷ []) t))
    go false q rec = absurd (let z : Some x ≡ None = rw q at h in cc)

pub stray_there : (e : Exec) → NoneStray e → (before after : List Entry) (x : Entry) → Part e before → (Part e (before ++ x ∷ []) → ⊥) → first_stray e [] (before ++ x ∷ after) ≡ Some x
stray_there e law before after x p no_part = go (may_follow e before x) refl
  where
    none : first_stray e [] before ≡ None
    none = (law before).1 p

    go : (b : Bool) → may_follow e before x ≡ b → first_stray e [] (before ++ x ∷ after) ≡ Some x
    go true q = absurd (no_part ((law (before ++ x ∷ [])).0 (behind e [] before (x ∷ []) none ∙ rw q refl)))
    go false q = behind e [] before (x ∷ after) none ∙ rw q refl

-- a list cut around an index
pub cut_at : (t : List Entry) (i : ℕ) (d : Entry) → i < length t → t ≡ take i t ++ slice_index_or t i d ∷ drop (suc i) t
cut_at [] i d h = absurd (omega (arith, h))
cut_at (x ∷ t) zero d h = refl
cut_at (x ∷ t) (suc i) d h = ap (λ (u : List Entry). x ∷ u) (cut_at t i d (omega (arith, h)))

pub not_both : (b : Bool) → b ≡ false → b ≡ true → ⊥
not_both b e f = let g : true ≡ false = sym f ∙ e in cc

pub no_entry : (x : Entry) → Some x ≡ None → ⊥
no_entry x e = cc
