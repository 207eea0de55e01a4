-- Worked rows: what replay gives.
use Rattle.std.specs.Prelude.{◌≡◌, ℕ, false, ◌==◌, if◌then◌else◌, pos, List, [], ◌∷◌, Some}
use Rattle.std.proofs.Common.{refl}
use Rattle.exec_tree.specs.Exec.{Setting, Waiting, Noting, Exec, Work, Leaf, Plan, Par, NonSeq, Sel, Execs, None_left, Then}
use Rattle.run_log.specs.declared.entry.Entry.TheVariants.{Dispatch, Block, End, Pick, Set, Pass, Note, Edit}
use Rattle.exec_tree.specs.declared.role.Role.TheVariants as roles
use Rattle.exec_tree.specs.declared.role.Role.{Role}
use Rattle.run_law.specs.Rules.{Rules}
use Rattle.run_law.specs.Replay.{replay}
use Rattle.path_blocks.specs.declared.block.Block.TheVariants.{Dwell}
use Rattle.nc_base.specs.declared.verdict.Verdict.TheVariants.{Refused}

abbrev of_tree : Exec → (ℕ → Role) → (ℕ → ℕ) → List ℕ → Rules
of_tree tree role channel edits =
    record {
      tree = λ t. tree;
      role = λ t n. role n;
      channel = λ t n. channel n;
      version = λ t n. 0;
      path = λ t n. Dwell (pos 7) ∷ Dwell (pos 8) ∷ [];
      answer = λ t n. false;
      value = λ t n. pos 0;
      edits = edits;
      verdict = λ t i. Refused 4 10 0;
    }

abbrev notes : List ℕ → Execs
notes [] = None_left
notes (n ∷ ns) = Then (Leaf n Noting) (notes ns)

-- a non-sequential picks each in turn, a selective one
in_turn : replay (of_tree (Plan (Some 2) (Then (NonSeq 3 (notes (4 ∷ 5 ∷ 6 ∷ []))) None_left)) (λ n. roles.Free) (λ n. 0) []) (0 ∷ []) [] 12 ≡ Pick 3 0 ∷ Note 4 ∷ Pick 3 1 ∷ Note 5 ∷ Pick 3 2 ∷ Note 6 ∷ []
in_turn = refl

one_alone : replay (of_tree (Plan (Some 2) (Then (Sel 3 (notes (4 ∷ 5 ∷ 6 ∷ []))) None_left)) (λ n. roles.Free) (λ n. 0) []) (0 ∷ []) [] 12 ≡ Pick 3 0 ∷ Note 4 ∷ []
one_alone = refl

-- two channels: branch 4 waits for the mark 7, which branch 5 sets; the first two turns give nothing
abbrev meeting : Exec
meeting = Plan (Some 2) (Then (Par 3 (Then (Plan (Some 4) (Then (Leaf 6 Waiting) None_left)) (Then (Plan (Some 5) (Then (Leaf 7 Setting) None_left)) None_left))) None_left)

abbrev second_from : ℕ → ℕ → ℕ
second_from k n = if n == k then 1 else 0

waits_first : replay (of_tree meeting (λ n. if n == 6 then roles.Waiting 7 else roles.Free) (second_from 7) []) (0 ∷ 1 ∷ []) (0 ∷ 0 ∷ 1 ∷ 1 ∷ []) 12 ≡ Set 7 ∷ Pass 6 ∷ []
waits_first = refl

-- each waits for what the other sets behind its wait: nothing comes, but for the note of a third branch
abbrev knot : Execs → Exec
knot more =
    Plan (Some 2) (Then (Par 3 (Then (Plan (Some 4) (Then (Leaf 6 Waiting) (Then (Leaf 13 Setting) None_left))) (Then (Plan (Some 5) (Then (Leaf 7 Waiting) (Then (Leaf 11 Setting) None_left))) more))) None_left)

abbrev knotted : ℕ → Role
knotted n = if n == 6 then roles.Waiting 11 else (if n == 7 then roles.Waiting 13 else roles.Free)

never : replay (of_tree (knot None_left) knotted (second_from 7) []) (0 ∷ 1 ∷ []) [] 12 ≡ []
never = refl

third_alone : replay (of_tree (knot (Then (Plan (Some 14) (Then (Leaf 15 Noting) None_left)) None_left)) knotted (second_from 7) []) (0 ∷ 1 ∷ []) [] 12 ≡ Note 15 ∷ []
third_alone = refl

-- an edit at 1 comes after the dispatch; what is due at the end is judged where the run is stuck
edited : replay (of_tree (Plan (Some 2) (Then (Work 10) None_left)) (λ n. roles.Cutting) (λ n. 0) (1 ∷ 1000 ∷ [])) (0 ∷ []) [] 12 ≡ Dispatch 10 0 ∷ Edit 0 (Refused 4 10 0) ∷ Block 10 0 (Dwell (pos 7)) ∷ Block 10 1 (Dwell (pos 8)) ∷ End 10 ∷ Edit 1 (Refused 4 10 0) ∷ []
edited = refl

-- with the limit 2 it ends there
cut_off : replay (of_tree (Plan (Some 2) (Then (Work 10) None_left)) (λ n. roles.Cutting) (λ n. 0) []) (0 ∷ []) [] 2 ≡ Dispatch 10 0 ∷ Block 10 0 (Dwell (pos 7)) ∷ []
cut_off = refl

-- two steps of one channel in a parallel: the second waits until the first has ended
one_open : replay (of_tree (Par 3 (Then (Work 10) (Then (Work 11) None_left))) (λ n. roles.Cutting) (λ n. 0) []) (0 ∷ []) [] 12 ≡ Dispatch 10 0 ∷ Block 10 0 (Dwell (pos 7)) ∷ Block 10 1 (Dwell (pos 8)) ∷ End 10 ∷ Dispatch 11 0 ∷ Block 11 0 (Dwell (pos 7)) ∷ Block 11 1 (Dwell (pos 8)) ∷ End 11 ∷ []
one_open = refl
