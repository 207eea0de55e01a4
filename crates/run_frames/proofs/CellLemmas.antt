-- The cells that frames and picks stand for, one by one and written.
use Rattle.std.specs.Prelude.{◌≡◌, ◌<◌, ◌≤◌, ℕ, zero, suc, true, false, List, [], ◌∷◌, ◌++◌, length, slice_set}
use Rattle.std.proofs.Common.{refl, sym, ◌∙◌, ap, arith}
use Rattle.std.proofs.lemmas.List.{get_or-set_same, set-set}
use Rattle.pick_set.specs.Picks.{is_picked, made_at}
use Rattle.trace_law.specs.Cells.{Cell, Picked, picked, stage_of}
use Rattle.trace_law.specs.Frames.{left}
use Rattle.run_frames.specs.declared.frame.Frame.{Frame}
use Rattle.run_frames.specs.declared.frame.Frame.TheVariants.{Starts, Cuts, Fresh, Over, Picks, Asks, Answered, Left}
use Rattle.run_frames.specs.Frames.{cells_of}
use Rattle.run_frames.specs.Told.{told, told_all, frame_at, stage_in, left_in, is_picks}

no_true : false ≡ true → ⊥
no_true h = (let w : false ≡ true = h in cc)

-- ---- one frame

pub stage_told : (f : Frame) (ks : List ℕ) → stage_in f ≡ stage_of (told f ks)
stage_told Starts ks = refl
stage_told (Cuts k) ks = refl
stage_told Fresh ks = refl
stage_told Over ks = refl
stage_told Picks ks = refl
stage_told Asks ks = refl
stage_told (Answered b) ks = refl
stage_told (Left k) ks = refl

pub left_told : (f : Frame) (ks : List ℕ) → left_in f ≡ left (told f ks)
left_told Starts ks = refl
left_told (Cuts k) ks = refl
left_told Fresh ks = refl
left_told Over ks = refl
left_told Picks ks = refl
left_told Asks ks = refl
left_told (Answered b) ks = refl
left_told (Left k) ks = refl

pub picks_told : (f : Frame) (ks : List ℕ) → is_picks f ≡ true → told f ks ≡ Picked ks
picks_told Starts ks h = absurd (no_true h)
picks_told (Cuts k) ks h = absurd (no_true h)
picks_told Fresh ks h = absurd (no_true h)
picks_told Over ks h = absurd (no_true h)
picks_told Picks ks h = refl
picks_told Asks ks h = absurd (no_true h)
picks_told (Answered b) ks h = absurd (no_true h)
picks_told (Left k) ks h = absurd (no_true h)

-- one that isn't picked from has no picks, whatever is kept beside it
pub plain_told : (f : Frame) (ks : List ℕ) → is_picks f ≡ false → (told f ks ≡ told f []) × (picked (told f ks) ≡ [])
plain_told Starts ks h = (refl, refl)
plain_told (Cuts k) ks h = (refl, refl)
plain_told Fresh ks h = (refl, refl)
plain_told Over ks h = (refl, refl)
plain_told Picks ks h = absurd (no_true (sym h))
plain_told Asks ks h = (refl, refl)
plain_told (Answered b) ks h = (refl, refl)
plain_told (Left k) ks h = (refl, refl)

pub told_picks : (f : Frame) (ks js : List ℕ) → told f ks ≡ Picked js → is_picks f ≡ true
told_picks Starts ks js h = absurd (cc)
told_picks (Cuts k) ks js h = absurd (cc)
told_picks Fresh ks js h = absurd (cc)
told_picks Over ks js h = absurd (cc)
told_picks Picks ks js h = refl
told_picks Asks ks js h = absurd (cc)
told_picks (Answered b) ks js h = absurd (cc)
told_picks (Left k) ks js h = absurd (cc)

-- ---- those of all nodes

pub length_told : (frames : List Frame) (made : List (List ℕ)) → length (told_all frames made) ≡ length frames
length_told [] made = refl
length_told (f ∷ frames) [] = ap suc (length_told frames [])
length_told (f ∷ frames) (ks ∷ made) = ap suc (length_told frames made)

pub cell_is : (frames : List Frame) (made : List (List ℕ)) (p : ℕ) → cells_of (told_all frames made) p ≡ told (frame_at frames p) (made_at made p)
cell_is [] made p = refl
cell_is (f ∷ frames) [] zero = refl
cell_is (f ∷ frames) [] (suc p) = cell_is frames [] p
cell_is (f ∷ frames) (ks ∷ made) zero = refl
cell_is (f ∷ frames) (ks ∷ made) (suc p) = cell_is frames made p

pub frame_within : (frames : List Frame) (p : ℕ) → is_picks (frame_at frames p) ≡ true → p < length frames
frame_within [] p h = absurd (no_true h)
frame_within (f ∷ frames) zero h = omega arith
frame_within (f ∷ frames) (suc p) h = (let l = frame_within frames p h in omega arith)

-- a frame is written, and where it is picked from its picks are forgotten
pub put_plain : (frames : List Frame) (made : List (List ℕ)) (p : ℕ) (f : Frame) → is_picks f ≡ false → told_all (slice_set frames p f) made ≡ slice_set (told_all frames made) p (told f [])
put_plain [] made p f h = refl
put_plain (g ∷ frames) [] zero f h = refl
put_plain (g ∷ frames) [] (suc p) f h = ap (λ (cells : List Cell). told g [] ∷ cells) (put_plain frames [] p f h)
put_plain (g ∷ frames) (ks ∷ made) zero f h = ap (λ (cell : Cell). cell ∷ told_all frames made) (plain_told f ks h).0
put_plain (g ∷ frames) (ks ∷ made) (suc p) f h = ap (λ (cells : List Cell). told g ks ∷ cells) (put_plain frames made p f h)

pub put_both : (frames : List Frame) (made : List (List ℕ)) (p : ℕ) (f : Frame) (ks : List ℕ) → p < length made → told_all (slice_set frames p f) (slice_set made p ks) ≡ slice_set (told_all frames made) p (told f ks)
put_both [] made p f ks h = refl
put_both (g ∷ frames) [] p f ks h = absurd (omega (arith, h))
put_both (g ∷ frames) (js ∷ made) zero f ks h = refl
put_both (g ∷ frames) (js ∷ made) (suc p) f ks h = ap (λ (cells : List Cell). told g js ∷ cells) (put_both frames made p f ks (omega (arith, h)))

-- picks are written
pub pick_written : (frames : List Frame) (made : List (List ℕ)) (p : ℕ) (ks : List ℕ) → p < length made → is_picks (frame_at frames p) ≡ true → told_all frames (slice_set made p ks) ≡ slice_set (told_all frames made) p (Picked ks)
pick_written [] made p ks l h = absurd (no_true h)
pick_written (f ∷ frames) [] p ks l h = absurd (omega (arith, l))
pick_written (f ∷ frames) (js ∷ made) zero ks l h = ap (λ (cell : Cell). cell ∷ told_all frames made) (picks_told f ks h)
pick_written (f ∷ frames) (js ∷ made) (suc p) ks l h = ap (λ (cells : List Cell). told f js ∷ cells) (pick_written frames made p ks (omega (arith, l)) h)

-- the picks of a cell
pub picks_are : (frames : List Frame) (made : List (List ℕ)) (p : ℕ) → is_picks (frame_at frames p) ≡ true → picked (cells_of (told_all frames made) p) ≡ made_at made p
picks_are frames made p h = ap picked (cell_is frames made p ∙ picks_told (frame_at frames p) (made_at made p) h)

pub picks_none : (frames : List Frame) (made : List (List ℕ)) (p : ℕ) → is_picks (frame_at frames p) ≡ false → picked (cells_of (told_all frames made) p) ≡ []
picks_none frames made p h = ap picked (cell_is frames made p) ∙ (plain_told (frame_at frames p) (made_at made p) h).1

-- one more pick
pub pick_more : (frames : List Frame) (made : List (List ℕ)) (p k : ℕ) → p < length made → is_picks (frame_at frames p) ≡ true
    → told_all frames (slice_set made p (made_at made p ++ k ∷ [])) ≡ slice_set (told_all frames made) p (Picked (picked (cells_of (told_all frames made) p) ++ k ∷ []))
pick_more frames made p k l h =
    pick_written frames made p (made_at made p ++ k ∷ []) l h ∙ ap (λ (ks : List ℕ). slice_set (told_all frames made) p (Picked (ks ++ k ∷ []))) (sym (picks_are frames made p h))

-- the first one
pub pick_first : (frames : List Frame) (made : List (List ℕ)) (p k : ℕ) → p < length made → is_picks (frame_at frames p) ≡ false
    → told_all (slice_set frames p Picks) (slice_set (slice_set made p []) p (made_at (slice_set made p []) p ++ k ∷ [])) ≡ slice_set (told_all frames made) p (Picked (picked (cells_of (told_all frames made) p) ++ k ∷ []))
pick_first frames made p k l h =
    let none : made_at (slice_set made p []) p ≡ [] = get_or-set_same made p [] [] l in
    ap (λ (ks : List ℕ). told_all (slice_set frames p Picks) (slice_set (slice_set made p []) p (ks ++ k ∷ []))) none
    ∙ (ap (told_all (slice_set frames p Picks)) (set-set made p [] (k ∷ []))
    ∙ (put_both frames made p Picks (k ∷ []) l ∙ ap (λ (ks : List ℕ). slice_set (told_all frames made) p (Picked (ks ++ k ∷ []))) (sym (picks_none frames made p h))))

pub left_first : (made : List (List ℕ)) (p k : ℕ) → p < length made → is_picked (made_at (slice_set made p []) p) k ≡ false
left_first made p k l = ap (λ (ks : List ℕ). is_picked ks k) (get_or-set_same made p [] [] l)
