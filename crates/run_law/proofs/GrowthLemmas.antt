-- Legal runs grow by what fits.
use Rattle.std.specs.Prelude.{◌≡◌, ◌⊎◌, ℕ, true, false, List, [], ◌∷◌, ◌++◌, Some, IsSomeAnd}
use Rattle.std.proofs.Common.{refl, sym, ◌∙◌, ap, subst, inl, inr, append_assoc}
use Rattle.std.proofs.lemmas.List.{append-nil}
use Rattle.std.proofs.lemmas.List.Elements.{filter-append}
use Rattle.exec_tree.specs.Exec.{Exec, nodes, AreDistinct, has}
use Rattle.trace_law.specs.Of.{is_of, number_of}
use Rattle.trace_law.specs.Part.{Part}
use Rattle.trace_law.specs.Next.{next}
use Rattle.trace_law.specs.Offer.{offer, IsOffered}
use Rattle.run_log.specs.declared.entry.Entry.{Entry}
use Rattle.run_log.specs.declared.entry.Entry.TheVariants.{Dispatch, Block, End, Pick, Test, Assign, Set, Pass, Note, Edit}
use Rattle.run_law.specs.Rules.{Rules}
use Rattle.run_law.specs.Fits.{Fits, FitsNode, FitsEdit, HasValues, is_plain, plain, is_due, is_enabled, next_of}
use Rattle.run_law.specs.Legal.{Legal}
use Rattle.run_law.specs.Sound.{IsSound}
use Rattle.nc_base.specs.declared.verdict.Verdict.{Verdict}

-- ---- the ends of lists

snoc_view : (t : List Entry) → (t ≡ []) ⊎ ((s : List Entry) × (x : Entry) × (t ≡ s ++ x ∷ []))
snoc_view [] = inl refl
snoc_view (y ∷ t) = go (snoc_view t)
  where
    go : (t ≡ []) ⊎ ((s : List Entry) × (x : Entry) × (t ≡ s ++ x ∷ [])) → (y ∷ t ≡ []) ⊎ ((s : List Entry) × (x : Entry) × (y ∷ t ≡ s ++ x ∷ []))
    go (inl e) = inr ([], y, rw e refl)
    go (inr (s, x, e)) = inr (y ∷ s, x, rw e refl)

not_empty : (s t : List Entry) (x : Entry) → s ++ x ∷ t ≡ [] → ⊥
not_empty [] t x e = cc
not_empty (y ∷ s) t x e = cc

snoc_front : (s t : List Entry) (x y : Entry) → s ++ x ∷ [] ≡ t ++ y ∷ [] → s ≡ t
snoc_front [] [] x y e = refl
snoc_front [] (z ∷ t) x y e = let g : [] ≡ t ++ y ∷ [] = cc in absurd (not_empty t [] y (sym g))
snoc_front (z ∷ s) [] x y e = let g : s ++ x ∷ [] ≡ [] = cc in absurd (not_empty s [] x g)
snoc_front (z ∷ s) (w ∷ t) x y e =
    let g : s ++ x ∷ [] ≡ t ++ y ∷ [] = cc in let h : s ≡ t = snoc_front s t x y g in cc

snoc_last : (s t : List Entry) (x y : Entry) → s ++ x ∷ [] ≡ t ++ y ∷ [] → x ≡ y
snoc_last [] [] x y e = cc
snoc_last [] (z ∷ t) x y e = let g : [] ≡ t ++ y ∷ [] = cc in absurd (not_empty t [] y (sym g))
snoc_last (z ∷ s) [] x y e = let g : s ++ x ∷ [] ≡ [] = cc in absurd (not_empty s [] x g)
snoc_last (z ∷ s) (w ∷ t) x y e = let g : s ++ x ∷ [] ≡ t ++ y ∷ [] = cc in snoc_last s t x y g

pub snoc_ind : (P : List Entry → Type 0) → P [] → ((s : List Entry) (x : Entry) → P s → P (s ++ x ∷ [])) → (t : List Entry) → P t
snoc_ind P none more t = go [] t none
  where
    go : (s t : List Entry) → P s → P (s ++ t)
    go s [] p = subst P (sym (append-nil s)) p
    go s (x ∷ t) p = subst P (append_assoc s (x ∷ []) t) (go (s ++ x ∷ []) t (more s x p))

-- ---- legal

pub legal_none : (r : Rules) → Legal r []
legal_none r before x after e = absurd (not_empty before after x (sym e))

pub legal_more : (r : Rules) (t : List Entry) (x : Entry) → Legal r t → Fits r t x → Legal r (t ++ x ∷ [])
legal_more r t x legal fits before y after e = go (snoc_view after)
  where
    go : (after ≡ []) ⊎ ((s : List Entry) × (z : Entry) × (after ≡ s ++ z ∷ [])) → Fits r before y
    go (inl f) =
        let g : t ++ x ∷ [] ≡ before ++ y ∷ [] = e ∙ ap (λ (u : List Entry). before ++ y ∷ u) f in
        subst (λ (s : List Entry). Fits r s y) (snoc_front t before x y g) (subst (λ (z : Entry). Fits r t z) (snoc_last t before x y g) fits)
    go (inr (s, z, f)) =
        let g : t ++ x ∷ [] ≡ (before ++ y ∷ s) ++ z ∷ [] = e ∙ (ap (λ (u : List Entry). before ++ y ∷ u) f ∙ sym (append_assoc before (y ∷ s) (z ∷ []))) in
        legal before y s (snoc_front t (before ++ y ∷ s) x z g)

pub legal_front : (r : Rules) (t u : List Entry) → Legal r (t ++ u) → Legal r t
legal_front r t u legal before x after e = legal before x (after ++ u) (ap (λ (s : List Entry). s ++ u) e ∙ append_assoc before (x ∷ after) u)

-- ---- what is plain

plain_node : (t : List Entry) (x : Entry) (n : ℕ) → number_of x ≡ Some n → plain (t ++ x ∷ []) ≡ plain t ++ x ∷ []
plain_node t x n e = filter-append is_plain t (x ∷ []) ∙ rw e refl

plain_edit : (t : List Entry) (i : ℕ) (w : Verdict) → plain (t ++ Edit i w ∷ []) ≡ plain t
plain_edit t i w = filter-append is_plain t (Edit i w ∷ []) ∙ append-nil (plain t)

-- an entry that fits is an edit or of a node
pub fits_cases : (r : Rules) (t : List Entry) (x : Entry) → Fits r t x → ((i : ℕ) × (w : Verdict) × (x ≡ Edit i w) × FitsEdit r t i w) ⊎ ((n : ℕ) × (number_of x ≡ Some n) × FitsNode r t x)
fits_cases r t (Dispatch n v) f = inr (n, refl, f)
fits_cases r t (Block n k b) f = inr (n, refl, f)
fits_cases r t (End n) f = inr (n, refl, f)
fits_cases r t (Pick n k) f = inr (n, refl, f)
fits_cases r t (Test n b) f = inr (n, refl, f)
fits_cases r t (Assign n v) f = inr (n, refl, f)
fits_cases r t (Set n) f = inr (n, refl, f)
fits_cases r t (Pass n) f = inr (n, refl, f)
fits_cases r t (Note n) f = inr (n, refl, f)
fits_cases r t (Edit i w) f = inl (i, w, refl, f)

pub fits_node : (r : Rules) (t : List Entry) (x : Entry) (n : ℕ) → number_of x ≡ Some n → FitsNode r t x → Fits r t x
fits_node r t (Dispatch m v) n e f = f
fits_node r t (Block m k b) n e f = f
fits_node r t (End m) n e f = f
fits_node r t (Pick m k) n e f = f
fits_node r t (Test m b) n e f = f
fits_node r t (Assign m v) n e f = f
fits_node r t (Set m) n e f = f
fits_node r t (Pass m) n e f = f
fits_node r t (Note m) n e f = f
fits_node r t (Edit i w) n e f = absurd (cc)

pub legal_part : ((e : Exec) → Part e []) → (r : Rules) (t : List Entry) → IsSound r → Legal r t → Part (r.tree t) (plain t)
legal_part nil r t sound = snoc_ind (λ t. Legal r t → Part (r.tree t) (plain t)) (λ l. nil (r.tree [])) more t
  where
    more : (s : List Entry) (x : Entry) → (Legal r s → Part (r.tree s) (plain s)) → Legal r (s ++ x ∷ []) → Part (r.tree (s ++ x ∷ [])) (plain (s ++ x ∷ []))
    more s x ih l = go (fits_cases r s x (l s x [] refl))
      where
        go : ((i : ℕ) × (w : Verdict) × (x ≡ Edit i w) × FitsEdit r s i w) ⊎ ((n : ℕ) × (number_of x ≡ Some n) × FitsNode r s x) → Part (r.tree (s ++ x ∷ [])) (plain (s ++ x ∷ []))
        go (inl (i, w, e, f)) =
            subst (λ (y : Entry). Part (r.tree (s ++ y ∷ [])) (plain (s ++ y ∷ []))) (sym e)
            (subst (Part (r.tree (s ++ Edit i w ∷ []))) (sym (plain_edit s i w)) (sound.edited s i w (legal_front r s (x ∷ []) l) f (ih (legal_front r s (x ∷ []) l))))
        go (inr (n, e, f)) =
            subst (λ (tree : Exec). Part tree (plain (s ++ x ∷ []))) (sym (sound.kept s x n e)) (subst (Part (r.tree s)) (sym (plain_node s x n e)) f.goes_on)

of_has : (ns : List ℕ) (x : Entry) (n : ℕ) → number_of x ≡ Some n → has ns n ≡ true → is_of ns x ≡ true
of_has ns x n e h = rw e h

enabled_of : (r : Rules) (t : List Entry) (x : Entry) (n : ℕ) → number_of x ≡ Some n → is_enabled r t n ≡ true → IsSomeAnd (number_of x) (λ m. is_enabled r t m ≡ true)
enabled_of r t x n e h = rw e h

pub done_fits : ((e : Exec) → Part e []) → ((e : Exec) (t : List Entry) (x : Entry) (m : ℕ) → AreDistinct (nodes e) → Part e t → number_of x ≡ Some m → is_of (next e t) x ≡ true → IsOffered (offer e t m) m x → Part e (t ++ x ∷ []))
    → (r : Rules) (t : List Entry) (n : ℕ) (x : Entry) → IsSound r → Legal r t → is_due r t ≡ false → has (next_of r t) n ≡ true → is_enabled r t n ≡ true
    → number_of x ≡ Some n → IsOffered (offer (r.tree t) (plain t) n) n x → HasValues r t x → Fits r t x
done_fits nil follows r t n x sound legal due is_next enabled e offered values =
    fits_node r t x n e record {
      not_due = due;
      goes_on = follows (r.tree t) (plain t) x n (sound.distinct t legal) (legal_part nil r t sound legal) e (of_has (next_of r t) x n e is_next) offered;
      enabled = enabled_of r t x n e enabled;
      values = values;
    }
