-- The entry that a turn makes fits.
use Rattle.std.specs.Prelude.{◌≡◌, ◌<◌, ◌≤◌, ◌+◌, ℕ, zero, suc, Bool, true, false, ◌==◌, option_map, List, [], ◌∷◌, ◌++◌, length, slice_get, Option, Some, None}
use Rattle.std.proofs.Common.{refl, sym, ◌∙◌, ap, subst, inl, inr, arith}
use Rattle.std.proofs.lemmas.Bool.Decides.{nat_tests}
use Rattle.std.proofs.lemmas.Option.{slice_get_within, slice_get_cases}
use Rattle.exec_tree.specs.Exec.{Assigning, Setting, Waiting, Noting, Exec, nodes, AreDistinct, has, HasChoices}
use Rattle.trace_law.specs.Of.{has_some, is_of, number_of}
use Rattle.trace_law.specs.Part.{Part}
use Rattle.trace_law.specs.Next.{next}
use Rattle.trace_law.specs.State.{stage, stage_from, stage_step, dispatched}
use Rattle.trace_law.specs.Offer.{Offer, Starts, Cuts, Does, Picks, Tests, Nothing, offer, IsOffered, IsOpen}
use Rattle.run_log.specs.declared.entry.Entry.{Entry}
use Rattle.run_log.specs.declared.entry.Entry.TheVariants.{Dispatch, Block, End, Pick, Test, Assign, Set, Pass, Note, Edit}
use Rattle.run_law.specs.Rules.{Rules}
use Rattle.run_law.specs.Fits.{Fits, HasValues, plain, is_due, is_enabled, next_of}
use Rattle.run_law.specs.Legal.{Legal}
use Rattle.run_law.specs.Sound.{IsSound}
use Rattle.run_law.specs.Replay.{least_from, least_left, cut, made_by, made}
use Rattle.run_law.proofs.GrowthLemmas.{snoc_ind, legal_front, legal_part, done_fits}
use Rattle.run_law.proofs.StuckLemmas.{stage_plain}
use Rattle.path_blocks.specs.declared.block.Block.{Block as PathBlock}

no_way : false ≡ true → ⊥
no_way e = cc

pub stage_snoc : (n : ℕ) (o : Option ℕ) (t : List Entry) (x : Entry) → stage_from n o (t ++ x ∷ []) ≡ stage_step n (stage_from n o t) x
stage_snoc n o [] x = refl
stage_snoc n o (y ∷ t) x = stage_snoc n (stage_step n o y) t x

same_number : (m n : ℕ) → (m == n) ≡ true → m ≡ n
same_number m n e = grind (arith, nat_tests)

apart_numbers : (m n : ℕ) → (m == n) ≡ false → has (n ∷ []) m ≡ false
apart_numbers m n e = let f : (n == m) ≡ false = grind (arith, nat_tests) in rw f refl

more_is : (j k : ℕ) (o : Option ℕ) → o ≡ Some j → option_map (λ i. i + 1) o ≡ Some k → j + 1 ≡ k
more_is j k o e h = let f : Some (j + 1) ≡ Some k = rw e at h in cc

-- what is so of an entry: the block that it is follows the blocks so far
abbrev pub Counts : Type 0
Counts = (e : Exec) (t : List Entry) (n k : ℕ) (b : PathBlock) → AreDistinct (nodes e) → Part e (t ++ Block n k b ∷ []) → stage n t ≡ Some k

pub within : Counts → (r : Rules) (n : ℕ) (t : List Entry) → IsSound r → Legal r t → (k : ℕ) → stage n t ≡ Some k → k ≤ length (r.path t n)
within counts r n t sound = snoc_ind (λ t. Legal r t → (k : ℕ) → stage n t ≡ Some k → k ≤ length (r.path t n)) (λ l k h. absurd (no_stage k h)) more t
  where
    no_stage : (k : ℕ) → None ≡ Some k → ⊥
    no_stage k e = cc

    more : (s : List Entry) (x : Entry) → (Legal r s → (k : ℕ) → stage n s ≡ Some k → k ≤ length (r.path s n)) → Legal r (s ++ x ∷ []) → (k : ℕ) → stage n (s ++ x ∷ []) ≡ Some k → k ≤ length (r.path (s ++ x ∷ []) n)
    more s x0 ih l k h = go x0 (l s x0 [] refl) (sym (stage_snoc n None s x0) ∙ h) (λ d. sound.frozen s x0 n d)
      where
        before : (k : ℕ) → stage n s ≡ Some k → k ≤ length (r.path s n)
        before = ih (legal_front r s (x0 ∷ []) l)

        same : (p : List PathBlock) (k : ℕ) → p ≡ r.path s n → stage n s ≡ Some k → k ≤ length p
        same p k e q = subst (λ (u : List PathBlock). k ≤ length u) (sym e) (before k q)

        go : (x : Entry) → Fits r s x → stage_step n (stage n s) x ≡ Some k → (has_some (n ∷ []) (dispatched x) ≡ false → r.path (s ++ x ∷ []) n ≡ r.path s n) → k ≤ length (r.path (s ++ x ∷ []) n)
        go (Dispatch m v) f g d = on (m == n) refl
          where
            on : (b : Bool) → (m == n) ≡ b → k ≤ length (r.path (s ++ Dispatch m v ∷ []) n)
            on true e = let z : Some 0 ≡ Some k = rw e at g in let y : 0 ≡ k = cc in omega (arith, y)
            on false e = same (r.path (s ++ Dispatch m v ∷ []) n) k (d (apart_numbers m n e)) (rw e at g)
        go (Block m j a) f g d = on (m == n) refl
          where
            on : (b : Bool) → (m == n) ≡ b → k ≤ length (r.path (s ++ Block m j a ∷ []) n)
            on true e =
                let mn : m ≡ n = same_number m n e in
                let at : stage m s ≡ Some j = sym (stage_plain m None s) ∙ counts (r.tree s) (plain s) m j a (sound.distinct s (legal_front r s (x0 ∷ []) l)) f.goes_on in
                let y : j + 1 ≡ k = more_is j k (stage n s) (subst (λ (i : ℕ). stage i s ≡ Some j) mn at) (rw e at g) in
                let w : j < length (r.path s n) = slice_get_within (r.path s n) j a (subst (λ (i : ℕ). slice_get (r.path s i) j ≡ Some a) mn f.values) in
                let p : j < length (r.path (s ++ Block m j a ∷ []) n) = subst (λ (u : List PathBlock). j < length u) (sym (d refl)) w in
                omega (arith, y, p)
            on false e = same (r.path (s ++ Block m j a ∷ []) n) k (d refl) (rw e at g)
        go (End m) f g d = on (m == n) refl
          where
            on : (b : Bool) → (m == n) ≡ b → k ≤ length (r.path (s ++ End m ∷ []) n)
            on true e = absurd (no_stage k (rw e at g))
            on false e = same (r.path (s ++ End m ∷ []) n) k (d refl) (rw e at g)
        go (Pick m j) f g d = same (r.path (s ++ Pick m j ∷ []) n) k (d refl) g
        go (Test m j) f g d = same (r.path (s ++ Test m j ∷ []) n) k (d refl) g
        go (Assign m j) f g d = same (r.path (s ++ Assign m j ∷ []) n) k (d refl) g
        go (Set m) f g d = same (r.path (s ++ Set m ∷ []) n) k (d refl) g
        go (Pass m) f g d = same (r.path (s ++ Pass m ∷ []) n) k (d refl) g
        go (Note m) f g d = same (r.path (s ++ Note m ∷ []) n) k (d refl) g
        go (Edit i w) f g d = same (r.path (s ++ Edit i w ∷ []) n) k (d refl) g

self : (n : ℕ) → (n == n) ≡ true
self n = grind (arith, nat_tests)

-- ---- the least that is left

-- there is something to do: of elements one is left to be picked
abbrev pub CanBeDone : Offer → Type 0
CanBeDone (Picks count ks) = (least_left count ks < count) × (has ks (least_left count ks) ≡ false)
CanBeDone Nothing = ⊥
CanBeDone _ = Unit {0}

clash : (b : Bool) → b ≡ true → b ≡ false → ⊥
clash b h g = no_way (sym g ∙ h)

least_is : (looks k : ℕ) (ks : List ℕ) (j : ℕ) → k ≤ j → j < k + looks → has ks j ≡ false → (least_from looks k ks < k + looks) × (has ks (least_from looks k ks) ≡ false)
least_is zero k ks j le lt e = absurd (let f : ⊥ = omega (arith, le, lt) in f)
least_is (suc looks) k ks j le lt e = go (has ks k) refl (λ l m. least_is looks (k + 1) ks j l m e)
  where
    go : (b : Bool) → has ks k ≡ b → (k + 1 ≤ j → j < (k + 1) + looks → (least_from looks (k + 1) ks < (k + 1) + looks) × (has ks (least_from looks (k + 1) ks) ≡ false)) → (least_from (suc looks) k ks < k + suc looks) × (has ks (least_from (suc looks) k ks) ≡ false)
    go true f rec =
        let n : (k ≡ j) → ⊥ = (λ q. clash (has ks j) (subst (λ (i : ℕ). has ks i ≡ true) q f) e) in
        let z = rec (omega (arith, le, n)) (omega (arith, lt)) in
        rw f ((let l : least_from looks (k + 1) ks < k + suc looks = omega (arith, z.0) in l), z.1)
    go false f rec = rw f ((let l : k < k + suc looks = omega arith in l), f)

can_be_done : (o : Offer) → IsOpen o → CanBeDone o
can_be_done Starts h = tt
can_be_done (Cuts k) h = tt
can_be_done (Does k) h = tt
can_be_done (Picks count ks) h =
    let z = least_is count 0 ks h.0 (omega arith) (omega (arith, h.1)) h.2 in ((let l : least_left count ks < count = omega (arith, z.0) in l), z.1)
can_be_done Tests h = tt
can_be_done Nothing h = absurd h

-- ---- what is made

-- the entry is of the node, is offered, and has the values of the run
abbrev pub IsGood : Rules → List Entry → ℕ → Offer → Entry → Type 0
IsGood r t n o x = (number_of x ≡ Some n) × IsOffered o n x × HasValues r t x

good_cut : (r : Rules) (t : List Entry) (n k : ℕ) (o : Option PathBlock) → slice_get (r.path t n) k ≡ o → (o ≡ None → stage n t ≡ Some (length (r.path t n))) → IsGood r t n (Cuts k) (cut n k o)
good_cut r t n k None e h = (refl, refl, h refl)
good_cut r t n k (Some b) e h = (refl, (refl, refl), e)

ends_where : (n k : ℕ) (t : List Entry) (path : List PathBlock) → stage n t ≡ Some k → k ≤ length path → slice_get path k ≡ None → stage n t ≡ Some (length path)
ends_where n k t path at short none =
    elim (slice_get_cases path k).1 [ inl z ↦ absurd (some_none z.0 (sym z.2 ∙ none)) | inr z ↦ (let e : k ≡ length path = omega (arith, short, z.0) in at ∙ ap (λ (i : ℕ). Some i) e) ]
  where
    some_none : (b : PathBlock) → Some b ≡ None → ⊥
    some_none b e = cc

good : (r : Rules) (t : List Entry) (n : ℕ) (o : Offer) → CanBeDone o → ((k : ℕ) → o ≡ Cuts k → (stage n t ≡ Some k) × (k ≤ length (r.path t n))) → IsGood r t n o (made_by r t n o)
good r t n Starts can at = (refl, refl, refl)
good r t n (Cuts k) can at =
    let z = at k refl in good_cut r t n k (slice_get (r.path t n) k) refl (λ e. ends_where n k t (r.path t n) z.0 z.1 e)
good r t n (Does Assigning) can at = (refl, refl, refl)
good r t n (Does Setting) can at = (refl, refl, tt)
good r t n (Does Waiting) can at = (refl, refl, tt)
good r t n (Does Noting) can at = (refl, refl, tt)
good r t n (Picks count ks) can at = (refl, rw (self n) (can.0, can.1), tt)
good r t n Tests can at = (refl, rw (self n) tt, refl)
good r t n Nothing can at = absurd can

pub made_fits : Counts → ((e : Exec) (t : List Entry) (m : ℕ) → AreDistinct (nodes e) → HasChoices e → Part e t → has (next e t) m ≡ true → IsOpen (offer e t m)) → ((e : Exec) (t : List Entry) (n k : ℕ) → offer e t n ≡ Cuts k → stage n t ≡ Some k) → ((e : Exec) → Part e []) → ((e : Exec) (t : List Entry) (x : Entry) (m : ℕ) → AreDistinct (nodes e) → Part e t → number_of x ≡ Some m → is_of (next e t) x ≡ true → IsOffered (offer e t m) m x → Part e (t ++ x ∷ []))
    → (r : Rules) (t : List Entry) (n : ℕ) → IsSound r → Legal r t → is_due r t ≡ false → has (next_of r t) n ≡ true → is_enabled r t n ≡ true → Fits r t (made r t n)
made_fits counts open_there counted nil follows r t n sound legal due is_next enabled =
    let g = good r t n (offer (r.tree t) (plain t) n) (can_be_done (offer (r.tree t) (plain t) n) (open_there (r.tree t) (plain t) n (sound.distinct t legal) (sound.choices t legal) (legal_part nil r t sound legal) is_next))
    (λ k e. let at : stage n t ≡ Some k = sym (stage_plain n None t) ∙ counted (r.tree t) (plain t) n k e in (at, within counts r n t sound legal k at)) in
    done_fits nil follows r t n (made r t n) sound legal due is_next enabled g.0 g.1 g.2
