-- A list is a run so far of a tree where it is one under other numbers.
use Rattle.std.specs.Prelude.{◌≡◌, ◌⊎◌, ⊤, ◌↔◌, ◌<◌, ◌≤◌, ◌+◌, ℕ, zero, suc, Bool, true, false, List, [], ◌∷◌, ◌++◌, map, length, option_map, Option, Some, None, IsSomeAnd}
use Rattle.std.proofs.Common.{refl, sym, ◌∙◌, ap, subst, inl, inr, arith}
use Rattle.exec_tree.specs.Exec.{LeafKind, Assigning, Setting, Waiting, Noting, Exec, nodes, has, AreDistinct}
use Rattle.trace_law.specs.Of.{number_of, is_of}
use Rattle.trace_law.specs.Whole.{IsOfLeaf}
use Rattle.trace_law.specs.Part.{Part}
use Rattle.trace_law.specs.Next.{next}
use Rattle.trace_law.specs.Step.{Step}
use Rattle.trace_law.specs.Offer.{Offer, Starts, Cuts, Does, Picks, Tests, Nothing, offer, IsOffered}
use Rattle.run_log.specs.declared.entry.Entry.{Entry}
use Rattle.run_log.specs.declared.entry.Entry.TheVariants.{Dispatch, Block, End, Assign, Set, Pass, Note}
use Rattle.run_frames.specs.Renaming.{IsOneToOne, renamed, entry_renamed}
use Rattle.run_frames.proofs.RenamingLemmas.{next_map, offer_map, is_of_map, number_map, pick_map, test_map, nodes_map, has_map}

-- what the laws of runs so far say
pub record PartLaws : Type 0 where
  pub none : (e : Exec) → Part e []
  pub more : (e : Exec) (t : List Entry) (x : Entry) → AreDistinct (nodes e) → (Part e (t ++ x ∷ []) ↔ (Part e t × Step e t x))
  pub is_next : (e : Exec) (t : List Entry) (x : Entry) → AreDistinct (nodes e) → Part e t → Part e (t ++ x ∷ []) → is_of (next e t) x ≡ true
  pub follows : (e : Exec) (t : List Entry) (x : Entry) (m : ℕ) → AreDistinct (nodes e) → Part e t → number_of x ≡ Some m → is_of (next e t) x ≡ true → IsOffered (offer e t m) m x → Part e (t ++ x ∷ [])
  pub offered : (e : Exec) (t : List Entry) (x : Entry) (m : ℕ) → AreDistinct (nodes e) → Part e (t ++ x ∷ []) → number_of x ≡ Some m → (is_of (next e t) x ≡ true) × IsOffered (offer e t m) m x

-- a list is empty or has a last item
snoc_view : (t : List Entry) → (t ≡ []) ⊎ ((s : List Entry) × (x : Entry) × (t ≡ s ++ x ∷ []))
snoc_view [] = inl refl
snoc_view (y ∷ t) = inr (go (snoc_view t))
  where
    go : (t ≡ []) ⊎ ((s : List Entry) × (x : Entry) × (t ≡ s ++ x ∷ [])) → (s : List Entry) × (x : Entry) × (y ∷ t ≡ s ++ x ∷ [])
    go (inl e) = ([], y, ap (λ (l : List Entry). y ∷ l) e)
    go (inr (s, x, e)) = (y ∷ s, x, ap (λ (l : List Entry). y ∷ l) e)

distinct_map : (r : ℕ → ℕ) → IsOneToOne r → (ns : List ℕ) → AreDistinct ns → AreDistinct (map r ns)
distinct_map r i [] d = tt
distinct_map r i (n ∷ ns) d = (has_map r i ns n ∙ d.0, distinct_map r i ns d.1)

map_append : (r : ℕ → ℕ) (t : List Entry) (x : Entry) → map (entry_renamed r) (t ++ x ∷ []) ≡ map (entry_renamed r) t ++ entry_renamed r x ∷ []
map_append r [] x = refl
map_append r (y ∷ t) x = ap (λ (l : List Entry). entry_renamed r y ∷ l) (map_append r t x)

leaf_back : (r : ℕ → ℕ) → IsOneToOne r → (k : LeafKind) (m : ℕ) (x : Entry) → IsOfLeaf k (r m) (entry_renamed r x) → IsOfLeaf k m x
leaf_back r i Assigning m (Assign n y) h = i n m h
leaf_back r i Setting m (Set n) h = i n m h
leaf_back r i Waiting m (Pass n) h = i n m h
leaf_back r i Noting m (Note n) h = i n m h
leaf_back r i Assigning m x h = absurd h
leaf_back r i Setting m x h = absurd h
leaf_back r i Waiting m x h = absurd h
leaf_back r i Noting m x h = absurd h

offered_back : (r : ℕ → ℕ) → IsOneToOne r → (o : Offer) (m : ℕ) (x : Entry) → IsOffered o (r m) (entry_renamed r x) → IsOffered o m x
offered_back r i Starts m (Dispatch n v) h = i n m h
offered_back r i (Cuts k) m (Block n j b) h = (i n m h.0, h.1)
offered_back r i (Cuts k) m (End n) h = i n m h
offered_back r i (Does k) m x h = leaf_back r i k m x h
offered_back r i (Picks count ks) m x h = subst (λ (o : Option ℕ). IsSomeAnd o (λ k. (k < count) × (has ks k ≡ false))) (pick_map r i m x) h
offered_back r i Tests m x h = subst (λ (o : Option Bool). IsSomeAnd o (λ b. ⊤)) (test_map r i m x) h
offered_back r i Starts m x h = absurd h
offered_back r i (Cuts k) m x h = absurd h
offered_back r i Nothing m x h = absurd h

no_number : (l : List ℕ) (x : Entry) → number_of x ≡ None → is_of l x ≡ true → ⊥
no_number l x n g = let f : is_of l x ≡ false = rw n refl in let w : true ≡ false = sym g ∙ f in cc

-- one entry more
pub one_more : PartLaws → (r : ℕ → ℕ) → IsOneToOne r → (e : Exec) (t : List Entry) (x : Entry) → AreDistinct (nodes e) → AreDistinct (nodes (renamed r e)) → Part e t → (o : Option ℕ) → number_of x ≡ o
    → Part (renamed r e) (map (entry_renamed r) t) → Part (renamed r e) (map (entry_renamed r) t ++ entry_renamed r x ∷ []) → Part e (t ++ x ∷ [])
one_more laws r i e t x d d' p None n p' q =
    let h = laws.is_next (renamed r e) (map (entry_renamed r) t) (entry_renamed r x) d' p' q in
    let g : is_of (next e t) x ≡ true = sym (is_of_map r i (next e t) x) ∙ (sym (ap (λ (l : List ℕ). is_of l (entry_renamed r x)) (next_map r i e t)) ∙ h) in
    absurd (no_number (next e t) x n g)
one_more laws r i e t x d d' p (Some m) n p' q =
    let n' : number_of (entry_renamed r x) ≡ Some (r m) = number_map r x ∙ ap (option_map r) n in
    let h = laws.is_next (renamed r e) (map (entry_renamed r) t) (entry_renamed r x) d' p' q in
    let g : is_of (next e t) x ≡ true = sym (is_of_map r i (next e t) x) ∙ (sym (ap (λ (l : List ℕ). is_of l (entry_renamed r x)) (next_map r i e t)) ∙ h) in
    let f = offered_back r i (offer e t m) m x
    (subst (λ (o : Offer). IsOffered o (r m) (entry_renamed r x)) (offer_map r i e t m) (laws.offered (renamed r e) (map (entry_renamed r) t) (entry_renamed r x) (r m) d' q n').1) in
    laws.follows e t x m d p n g f

parts_back : PartLaws → (r : ℕ → ℕ) → IsOneToOne r → (e : Exec) → AreDistinct (nodes e) → AreDistinct (nodes (renamed r e)) → (n : ℕ) (t : List Entry) → length t ≤ n → Part (renamed r e) (map (entry_renamed r) t) → Part e t
parts_back laws r i e d d' zero [] l q = laws.none e
parts_back laws r i e d d' zero (y ∷ t) l q = absurd (omega (arith, l))
parts_back laws r i e d d' (suc n) t l q =
    elim (snoc_view t) [
      | inl g ↦ subst (Part e) (sym g) (laws.none e)
      | inr (s, x, g) ↦
          let q' : Part (renamed r e) (map (entry_renamed r) s ++ entry_renamed r x ∷ []) = subst (Part (renamed r e)) (ap (map (entry_renamed r)) g ∙ map_append r s x) q in
          let p' = ((laws.more (renamed r e) (map (entry_renamed r) s) (entry_renamed r x) d').0 q').0 in
          let short : length s ≤ n = (let k : length t ≡ length s + 1 = ap length g ∙ length_snoc s x in omega (arith, l, k)) in
          subst (Part e) (sym g) (one_more laws r i e s x d d' (parts_back laws r i e d d' n s short p') (number_of x) refl p' q')
    ]
  where
    length_snoc : (s : List Entry) (x : Entry) → length (s ++ x ∷ []) ≡ length s + 1
    length_snoc [] x = omega arith
    length_snoc (y ∷ s) x = omega (arith, length_snoc s x)

-- a run so far under other numbers is one under its own
pub part_back : PartLaws → (r : ℕ → ℕ) → IsOneToOne r → (e : Exec) (t : List Entry) → AreDistinct (nodes e) → Part (renamed r e) (map (entry_renamed r) t) → Part e t
part_back laws r i e t d q =
    parts_back laws r i e d (subst AreDistinct (sym (nodes_map r e)) (distinct_map r i (nodes e) d)) (length t) t (omega arith) q
