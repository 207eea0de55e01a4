-- Numbers put into a set that keeps the order in which they came.
use Rattle.std.specs.Prelude.{◌≡◌, ◌↔◌, ℕ, Bool, true, false, nat_eq, List, [], ◌∷◌, ◌++◌, Contains}
use Rattle.std.specs.BTreeSet.{BTreeSet}
use Rattle.std.proofs.Common.{refl, sym, subst, ◌∙◌, inl, inr, cond, arith, length-append}
use Rattle.std.proofs.lemmas.Bool.Decides.{nat_tests}
use Rattle.std.proofs.lemmas.Cmp.{nat_eq_equiv, nat_cmp_total}
use Rattle.std.proofs.lemmas.List.{get_or_append_left}
use Rattle.std.proofs.lemmas.List.Elements.{Contains-append_left, Contains-append_right, Contains-append_cases, Contains-push, Contains-push_cases}
use Rattle.std.proofs.lemmas.Map.Lookups.{exact_unsigned}
use Rattle.std.proofs.lemmas.Map.Views.{Contains-from_any, list_any-from_Contains, btree_set_contains_iff}
use Rattle.project_store.specs.Inserts.{is_among, insert_number, AreMembers}
use Rattle.project_versions.specs.Users.{Grown}

same : (x y : ℕ) → nat_eq x y ≡ true → x ≡ y
same x y h = grind (arith, nat_tests)

pub among_holds : (ns : List ℕ) (n : ℕ) → is_among ns n ≡ true → Contains ns n
among_holds ns n h = Contains-from_any same n ns h

pub holds_among : (ns : List ℕ) (n : ℕ) → Contains ns n → is_among ns n ≡ true
holds_among ns n h = list_any-from_Contains nat_eq_equiv n ns h

pub only_there : (m n : ℕ) → Contains (m ∷ []) n → m ≡ n
only_there m n h = elim (Contains-push_cases [] m n h) [ inl none ↦ absurd (omega (arith, none.1)) | inr e ↦ e ]

pub Grown-none : (ns : List ℕ) → Grown ns ns []
Grown-none ns = record {
  members = λ n. (λ h. inl h, λ h. elim h [ inl old ↦ old | inr none ↦ absurd (omega (arith, none.1)) ]);
  kept = λ k l. refl;
  grows = omega arith;
}

Grown-by : (b : Bool) (old : List ℕ) (n : ℕ) → is_among old n ≡ b → Grown old (cond b old (old ++ n ∷ [])) (n ∷ [])
Grown-by true old n there = record {
  members = λ m. (λ h. inl h, λ h. elim h [ inl is ↦ is | inr new ↦ subst (Contains old) (only_there n m new) (among_holds old n there) ]);
  kept = λ k l. refl;
  grows = omega arith;
}
Grown-by false old n there = record {
  members = λ m. (
    λ h. elim (Contains-push_cases old n m h) [ inl is ↦ inl is | inr e ↦ inr (subst (Contains (n ∷ [])) e (Contains-push [] n)) ],
    λ h. elim h [ inl is ↦ Contains-append_left old (n ∷ []) m is | inr new ↦ subst (Contains (old ++ n ∷ [])) (only_there n m new) (Contains-push old n) ],
  );
  kept = λ k l. get_or_append_left old (n ∷ []) 0 k l;
  grows = omega (arith, length-append old (n ∷ []));
}

pub Grown-one : (old new : List ℕ) (n : ℕ) → new ≡ insert_number old n → Grown old new (n ∷ [])
Grown-one old new n e = subst (λ (ns : List ℕ). Grown old ns (n ∷ [])) (sym e) (Grown-by (is_among old n) old n refl)

pub Grown-both : (a b d us vs : List ℕ) → Grown a b us → Grown b d vs → Grown a d (us ++ vs)
Grown-both a b d us vs first then = record {
  members = λ n. (
    λ h. elim ((then.members n).0 h) [
      | inl old ↦ elim ((first.members n).0 old) [ inl is ↦ inl is | inr new ↦ inr (Contains-append_left us vs n new) ]
      | inr new ↦ inr (Contains-append_right us vs n new)
    ],
    λ h. elim h [
      | inl is ↦ (then.members n).1 (inl ((first.members n).1 (inl is)))
      | inr new ↦ elim (Contains-append_cases us vs n new) [
        | inl u ↦ (then.members n).1 (inl ((first.members n).1 (inr u)))
        | inr v ↦ (then.members n).1 (inr v)
      ]
    ],
  );
  kept = λ k l. then.kept k (omega (arith, l, first.grows)) ∙ first.kept k l;
  grows = omega (arith, first.grows, then.grows);
}

-- the members of the tree are those of the list
pub tree_members : (ns : List ℕ) (set : BTreeSet ℕ) (n : ℕ) → AreMembers ns set → Contains set.keys n ↔ Contains ns n
tree_members ns set n are =
    let iff = btree_set_contains_iff nat_cmp_total exact_unsigned set n in
    (λ h. among_holds ns n (sym (are n) ∙ iff.1 h), λ h. iff.0 (are n ∙ holds_among ns n h))
