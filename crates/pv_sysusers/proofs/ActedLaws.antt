-- Laws of calls that go over files one after the other, the first and then the others.
use Rattle.std.specs.Prelude.{◌≡◌, false, ℕ, ◌+◌, ◌-◌, ◌*◌, ◌≤◌, ◌<◌, List, ◌∷◌, length, take, drop, fold, get_or, Some, Result, Ok}
use Rattle.std.proofs.Common.{zero, suc, refl, sym, ap, subst, ◌∙◌, arith, inl, inr}
use Rattle.std.proofs.lemmas.Option.{same_Some}
use Rattle.pv_path.specs.Paths.{Path, is_prefix, staging_of, has_staging}
use Rattle.pv_path.proofs.Printed.{first_and_rest}
use Rattle.pv_path.proofs.PathLaws.{has_staging-staging_of, not_prefix_not_same}
use Rattle.pv_steps.specs.declared.node.Kind.TheVariants.{File}
use Rattle.pv_steps.specs.declared.object.Object.{Object}
use Rattle.pv_steps.specs.declared.step.Step.{Step}
use Rattle.pv_steps.specs.declared.step.Step.TheVariants.{MakeDir, MakeFile, MakeFifo, MakeDevice, MakeLink, Write, SetMode, SetOwner, SetAcl, SetAttrs, SetLetters, SetStamps, Rename, Unlink, RemoveDir}
use Rattle.pv_steps.specs.declared.tree.Tree.{Ghosts}
use Rattle.pv_steps.specs.declared.tree.TreeFault.{TreeFault}
use Rattle.pv_steps.specs.Objects.{changed}
use Rattle.pv_steps.specs.Trees.{Files, Places, places, kind_of}
use Rattle.pv_steps.specs.Steps.{made, put_at}
use Rattle.pv_steps.specs.Same.{Same}
use Rattle.pv_steps.specs.Acting.{Acted}
use Rattle.pv_steps.proofs.ActingLaws.{Moves, acted_then, acted_weaken, acted_within, acted_end}
use Rattle.pv_walk.specs.Edits.{SameOutside}
use Rattle.pv_walk.specs.SettingMetadata.{CanSetMetadata, ChangedAt, SettingMetadata, GivesMetadata, IsChanged, with_metadata}
use Rattle.pv_walk.proofs.MetadataLaws.{outside_setting_metadata}
use Rattle.pv_walk.proofs.EditLaws.{made-here, put_at-made, same-trans, staging_outside}
use Rattle.pv_walk.specs.Removal.{MayHaveMoved}
use Rattle.pv_walk.specs.Making.{held_object}
use Rattle.pv_walk.specs.Staging.{GivesNew}
use Rattle.pv_sysusers.specs.declared.edit.Edit.{Edit}
use Rattle.pv_sysusers.specs.Edits.{IsEdit, IsOfSome, Published, PublishesEdit, StagesEdit, edited, most_staged, new_file, with_published, with_staged}
use Rattle.pv_sysusers.proofs.StagingLaws.{stage_some}

-- ---- lists

-- the others
abbrev pub others : {A : Type 0} → List A → List A
others xs = take (length xs - 1) (drop 1 xs)

pub parted : {A : Type 0} (xs : List A) (x : A) → x ≡ get_or xs 0 x → 1 ≤ length xs → xs ≡ x ∷ others xs
parted {A} xs x is some = first_and_rest xs x some ∙ ap (λ (y : A). y ∷ others xs) (sym is)

pub fewer : {A : Type 0} (xs : List A) (x : A) → xs ≡ x ∷ others xs → length (others xs) < length xs
fewer xs x e = let l : length xs ≡ length (x ∷ others xs) = ap length e in omega (arith, l)

-- ---- publishing

module _ {S : Type 0} (tree : Ghosts S) (now : ℕ) (edit : Edit) (rest : List Edit) {a b : S} where
  pub published_one : {A : Type 0} {r : Result A TreeFault} → Acted tree (MayHaveMoved now edit.path (tree.state a)) (PublishesEdit edit) 1 now a b r
      → Acted tree (Published now (edit ∷ rest) (tree.state a)) (IsOfSome PublishesEdit (edit ∷ rest)) 1 now a b r
  published_one one =
      acted_weaken tree (MayHaveMoved now edit.path (tree.state a)) (Published now (edit ∷ rest) (tree.state a)) (PublishesEdit edit) (IsOfSome PublishesEdit (edit ∷ rest)) 1 1
      way (λ s g. inl g) (omega arith) one
    where
      way : (u : Files) → MayHaveMoved now edit.path (tree.state a) u → Published now (edit ∷ rest) (tree.state a) u
      way u (inl e) = (zero, ap places e)
      way u (inr e) = (suc zero, e)

  pub published_more : {A B : Type 0} {c : S} {x : A} {r : Result B TreeFault} → Moves tree → places (tree.state b) ≡ with_published now (places (tree.state a)) edit
      → Acted tree (MayHaveMoved now edit.path (tree.state a)) (PublishesEdit edit) 1 now a b (Ok x)
      → Acted tree (Published now rest (tree.state b)) (IsOfSome PublishesEdit rest) (length rest) now b c r
      → Acted tree (Published now (edit ∷ rest) (tree.state a)) (IsOfSome PublishesEdit (edit ∷ rest)) (length (edit ∷ rest)) now a c r
  published_more moves is one more =
      acted_within tree (1 + length rest) (length (edit ∷ rest)) (omega arith)
      (acted_then tree moves (Published now (edit ∷ rest) (tree.state a)) (IsOfSome PublishesEdit (edit ∷ rest)) (published_one one)
      (acted_weaken tree (Published now rest (tree.state b)) (Published now (edit ∷ rest) (tree.state a)) (IsOfSome PublishesEdit rest) (IsOfSome PublishesEdit (edit ∷ rest)) (length rest) (length rest)
      (λ u p. (suc p.0, p.1 ∙ ap (λ (y : Places). fold (with_published now) y (take p.0 rest)) is)) (λ s g. inr g) (omega arith) more))

-- ---- staging

module _ {S : Type 0} (tree : Ghosts S) (now : ℕ) (edit : Edit) (rest : List Edit) {a b : S} where
  pub staged_one : {A : Type 0} {r : Result A TreeFault} → Acted tree (Same (tree.state a)) (StagesEdit edit) most_staged now a b r
      → Acted tree (Same (tree.state a)) (IsOfSome StagesEdit (edit ∷ rest)) most_staged now a b r
  staged_one one = acted_weaken tree (Same (tree.state a)) (Same (tree.state a)) (StagesEdit edit) (IsOfSome StagesEdit (edit ∷ rest)) most_staged most_staged (λ u h. h) (λ s g. inl g) (omega arith) one

  pub staged_more : {A B : Type 0} {c : S} {x : A} {r : Result B TreeFault} → Moves tree
      → Acted tree (Same (tree.state a)) (StagesEdit edit) most_staged now a b (Ok x)
      → Acted tree (Same (tree.state b)) (IsOfSome StagesEdit rest) (most_staged * length rest) now b c r
      → Acted tree (Same (tree.state a)) (IsOfSome StagesEdit (edit ∷ rest)) (most_staged * length (edit ∷ rest)) now a c r
  staged_more moves one more =
      let same = acted_end tree (Same (tree.state a)) (StagesEdit edit) one in
      acted_within tree (most_staged + most_staged * length rest) (most_staged * length (edit ∷ rest)) (omega arith)
      (acted_then tree moves (Same (tree.state a)) (IsOfSome StagesEdit (edit ∷ rest)) (staged_one one)
      (acted_weaken tree (Same (tree.state b)) (Same (tree.state a)) (IsOfSome StagesEdit rest) (IsOfSome StagesEdit (edit ∷ rest)) (most_staged * length rest) (most_staged * length rest)
      (λ u h. same-trans (tree.state a) (tree.state b) u same h) (λ s g. inr g) (omega arith) more))

-- ---- one file staged

module _ (edit : Edit) (is : IsEdit edit) where
  stage_inside : (q : Path) → has_staging q ≡ false → is_prefix (staging_of edit.path) q ≡ false
  stage_inside q plain = staging_outside (staging_of edit.path) (has_staging-staging_of edit.path is.root) q plain

  pub staged_same : (t u : Files) → SameOutside (is_prefix (staging_of edit.path)) t u → Same t u
  staged_same t u h = λ q plain. sym (h q (stage_inside q plain))

  pub gives_new : (s : Step) → GivesNew (staging_of edit.path) (new_file edit) s → StagesEdit edit s
  gives_new (MakeDir at) g = g
  gives_new (MakeFile at) g = g
  gives_new (MakeFifo at) g = g
  gives_new (MakeDevice at block major minor) g = g
  gives_new (MakeLink at target) g = g
  gives_new (Write at content) g = g
  gives_new (SetMode at mode) g = g
  gives_new (SetOwner at uid gid) g = g
  gives_new (SetAcl at acl) g = absurd g
  gives_new (SetAttrs at attrs) g = absurd g
  gives_new (SetLetters at letters) g = absurd g
  gives_new (SetStamps at access modify) g = absurd g
  gives_new (Rename from to) g = absurd g
  gives_new (Unlink at) g = absurd g
  gives_new (RemoveDir at) g = absurd g

  pub gives_metadata : (u : Files) (s : Step) → GivesMetadata (staging_of edit.path) edit.metadata u s → StagesEdit edit s
  gives_metadata u s (inl e) = subst (StagesEdit edit) (sym e) (refl, (refl, refl))
  gives_metadata u s (inr (inl e)) = subst (StagesEdit edit) (sym e) (refl, refl)
  gives_metadata u s (inr (inr (inl e))) = subst (StagesEdit edit) (sym e.0) (refl, refl)
  gives_metadata u s (inr (inr (inr (inl e)))) = subst (StagesEdit edit) (sym e.0) (refl, refl)
  gives_metadata u s (inr (inr (inr (inr e)))) = subst (StagesEdit edit) (sym e.0) (refl, refl)

  module _ (now : ℕ) (t u : Files) (made : places u ≡ made now (staging_of edit.path) (held_object (new_file edit).what now) (places t)) where
    abbrev plain : Object
    plain = held_object (new_file edit).what now

    there_staged : places u (staging_of edit.path) ≡ Some plain
    there_staged = ap (λ (x : Places). x (staging_of edit.path)) made ∙ made-here now (staging_of edit.path) (places t) (stage_some edit is) plain

    pub can_set_metadata : CanSetMetadata u (staging_of edit.path) edit.metadata
    can_set_metadata = record { kind = File; there = ap kind_of there_staged; metadata = is.metadata }

    with_metadata_is : (old o : Object) → old ≡ plain → IsChanged (with_metadata edit.metadata) now old o → o ≡ edited now edit
    with_metadata_is old o e (inl h) = h.1 ∙ sym h.0 ∙ ap (with_metadata edit.metadata) e
    with_metadata_is old o e (inr h) = h.1 ∙ ap (λ x. changed now (with_metadata edit.metadata x)) e

    pub staged_gives : (v : Files) → ChangedAt (with_metadata edit.metadata) (staging_of edit.path) now u v → places v ≡ with_staged now (places t) edit
    staged_gives v h =
        let old : h.old ≡ plain = same_Some h.old plain (sym h.there ∙ there_staged) in
        let same : h.object ≡ edited now edit = with_metadata_is h.old h.object old h.is in
        h.left ∙ (λ i. put_at (staging_of edit.path) (Some (same i)) (made i)) ∙ (λ j q. put_at-made now (staging_of edit.path) (places t) (stage_some edit is) plain (edited now edit) q j)

module _ {S : Type 0} (tree : Ghosts S) (edit : Edit) (is : IsEdit edit) {now : ℕ} {a b : S} where
  pub made_acted : {A : Type 0} {r : Result A TreeFault} → Acted tree (SameOutside (is_prefix (staging_of edit.path)) (tree.state a)) (GivesNew (staging_of edit.path) (new_file edit)) 2 now a b r
      → Acted tree (Same (tree.state a)) (StagesEdit edit) 2 now a b r
  made_acted one =
      acted_weaken tree (SameOutside (is_prefix (staging_of edit.path)) (tree.state a)) (Same (tree.state a)) (GivesNew (staging_of edit.path) (new_file edit)) (StagesEdit edit) 2 2
      (staged_same edit is (tree.state a)) (gives_new edit is) (omega arith) one

  pub with_metadata_acted : {A B : Type 0} {c : S} {x : A} {r : Result B TreeFault} → Moves tree
      → Acted tree (SameOutside (is_prefix (staging_of edit.path)) (tree.state a)) (GivesNew (staging_of edit.path) (new_file edit)) 2 now a b (Ok x)
      → Acted tree (SettingMetadata (staging_of edit.path) edit.metadata (tree.state b)) (GivesMetadata (staging_of edit.path) edit.metadata (tree.state b)) 5 now b c r
      → Acted tree (Same (tree.state a)) (StagesEdit edit) most_staged now a c r
  with_metadata_acted moves one more =
      let before = made_acted one in
      let same = acted_end tree (Same (tree.state a)) (StagesEdit edit) before in
      acted_within tree (2 + 5) most_staged (omega arith)
      (acted_then tree moves (Same (tree.state a)) (StagesEdit edit) before
      (acted_weaken tree (SettingMetadata (staging_of edit.path) edit.metadata (tree.state b)) (Same (tree.state a)) (GivesMetadata (staging_of edit.path) edit.metadata (tree.state b)) (StagesEdit edit) 5 5
      (λ u h. same-trans (tree.state a) (tree.state b) u same
      (λ q plain. sym (outside_setting_metadata (staging_of edit.path) edit.metadata (tree.state b) u h q (not_prefix_not_same (staging_of edit.path) q (stage_inside edit is q plain)))))
      (gives_metadata edit is (tree.state b)) (omega arith) more))
