-- How what is read off a log moves with one more entry.
use Rattle.std.specs.Prelude.{◌≡◌, ℕ, ◌+◌, List, [], ◌∷◌, ◌++◌, Option, Some, None}
use Rattle.std.specs.List.{filter_map}
use Rattle.std.specs.Option.{option_to_list}
use Rattle.std.proofs.Common.{refl, ◌∙◌, ap, arith}
use Rattle.std.proofs.lemmas.List.{append-nil}
use Rattle.std.proofs.lemmas.List.Elements.{filter-append, filter_map-append}
use Rattle.run_log.specs.declared.entry.Entry.{Entry}
use Rattle.run_log.specs.declared.entry.Entry.TheVariants.{Dispatch, Block, End, Pick, Test, Assign, Set, Pass, Note, Edit}
use Rattle.nc_base.specs.declared.verdict.Verdict.{Verdict}
use Rattle.trace_law.specs.Of.{number_of}
use Rattle.run_law.specs.Fits.{is_plain, plain, judged}
use Rattle.run_law.proofs.LengthLemmas.{judges, judged_more}

told_by : {A : Type 0} (h : Entry → Option A) (x : Entry) (o : Option A) → h x ≡ o → filter_map h (x ∷ []) ≡ option_to_list o
told_by h x None e = rw e refl
told_by h x (Some a) e = rw e refl

pub told_more : {A : Type 0} (h : Entry → Option A) (t : List Entry) (x : Entry) → filter_map h (t ++ x ∷ []) ≡ filter_map h t ++ option_to_list (h x)
told_more h t x = filter_map-append h t (x ∷ []) ∙ ap (λ later. filter_map h t ++ later) (told_by h x (h x) refl)

pub node_more : (t : List Entry) (x : Entry) (n : ℕ) → number_of x ≡ Some n → (plain (t ++ x ∷ []) ≡ plain t ++ x ∷ []) × (judged (t ++ x ∷ []) ≡ judged t)
node_more t x n e = (filter-append is_plain t (x ∷ []) ∙ ap (λ later. plain t ++ later) (kept x e), judged_more t x ∙ none x e)
  where
    kept : (x : Entry) → number_of x ≡ Some n → plain (x ∷ []) ≡ x ∷ []
    kept x e = rw e refl

    same : judged t + 0 ≡ judged t
    same = omega arith

    none : (x : Entry) → number_of x ≡ Some n → judged t + judges x ≡ judged t
    none (Edit i v) e = absurd (cc)
    none (Dispatch m v) e = same
    none (Block m k b) e = same
    none (End m) e = same
    none (Pick m k) e = same
    none (Test m b) e = same
    none (Assign m y) e = same
    none (Set m) e = same
    none (Pass m) e = same
    none (Note m) e = same

pub edit_more : (t : List Entry) (i : ℕ) (w : Verdict) → (plain (t ++ Edit i w ∷ []) ≡ plain t) × (judged (t ++ Edit i w ∷ []) ≡ judged t + 1)
edit_more t i w = (filter-append is_plain t (Edit i w ∷ []) ∙ append-nil (plain t), judged_more t (Edit i w))
