-- Steps on a tree in a folder of a host. Several runs of steps, one after the other, move it as one run does.
use Rattle.std.specs.Prelude.{◌≡◌, ◌⊎◌, Bool, true, false, ℕ, List, [], ◌∷◌, ◌++◌, map, Option, Some, None, IfSome}
use Rattle.std.specs.Option.{option_to_list}
use Rattle.std.proofs.Common.{refl, subst, sym, ap, ◌∙◌, append-nil, append_assoc, arith, inl, inr}
use Rattle.std.proofs.lemmas.List.{map-append}
use Rattle.pv_path.specs.Paths.{Path}
use Rattle.pv_steps.specs.declared.step.Step.{Step}
use Rattle.pv_steps.specs.Trees.{Files, places}
use Rattle.pv_steps.specs.Steps.{Can, after}
use Rattle.pv_folder.specs.Content.{Change, Content, held}
use Rattle.pv_folder.specs.Folders.{tree_path}
use Rattle.pv_folder.specs.Keeping.{FolderState, HasAsked, IsAtMostAhead, IsAtRest, IsSameOutside, Moves, after_steps, all_made, at_rest, change_for, changes_for, one_more}
use Rattle.pv_folder.specs.Made.{HasMade, made_none, made_on}

pub same_outside : (folder : Path) (old : Option Content) → IsSameOutside folder old old
same_outside folder (Some c) = λ path out. refl
same_outside folder None = refl

pub outside_on : (folder : Path) (a b c : Option Content) → IsSameOutside folder a b → IsSameOutside folder b c → IsSameOutside folder a c
outside_on folder (Some a) (Some b) (Some c) p q = λ path out. q path out ∙ p path out
outside_on folder (Some a) (Some b) None p q = absurd q
outside_on folder (Some a) None c p q = absurd p
outside_on folder None b c p q = subst (λ (o : Option Content). IsSameOutside folder o c) p q

asked_none : (a : FolderState) → HasAsked [] a a
asked_none a = by a.pending refl
  where
    by : (b : Bool) → a.pending ≡ b → HasAsked [] a a
    by true is = at_rest is refl refl refl
    by false is = all_made is (made_none a.content a.changes)

-- Doing no steps is a move.
pub moves_none : (a : FolderState) → Moves a a
moves_none a = record {
  same = refl;
  outside = same_outside a.folder a.content;
  count = omega arith;
  lasts = λ h. h;
  near = λ h. inl (record { pending = h; files = refl; content = refl });
  steps = [];
  recorded = sym (append-nil a.steps);
  reached = refl;
  asked = asked_none a;
}

near_on : (a b c : FolderState) → Moves a b → IsAtRest b c → IsAtRest a b ⊎ IfSome b.content (λ x. IsAtMostAhead a.folder b.files (held x))
    → IsAtRest a c ⊎ IfSome c.content (λ x. IsAtMostAhead a.folder c.files (held x))
near_on a b c first rest (inl before) = inl (record { pending = before.pending; files = rest.files ∙ before.files; content = rest.content ∙ before.content })
near_on a b c first rest (inr near) =
    inr (subst (λ (t : Files). IfSome c.content (λ x. IsAtMostAhead a.folder t (held x))) (sym rest.files)
    (subst (λ (o : Option Content). IfSome o (λ x. IsAtMostAhead a.folder b.files (held x))) (sym rest.content) near))

steps_then : (t : Files) (x y : List (Step × ℕ)) → after_steps t (x ++ y) ≡ after_steps (after_steps t x) y
steps_then t [] y = refl
steps_then t ((step, now) ∷ x) y = steps_then (after t step now) x y

changes_then : (top : Path) (t : Files) (x y : List (Step × ℕ)) → changes_for top t (x ++ y) ≡ changes_for top t x ++ changes_for top (after_steps t x) y
changes_then top t [] y = refl
changes_then top t ((step, now) ∷ x) y =
    ap (λ rest. option_to_list (change_for top (places t) step) ++ rest) (changes_then top (after t step now) x y)
    ∙ sym (append_assoc (option_to_list (change_for top (places t) step)) (changes_for top (after t step now) x) (changes_for top (after_steps (after t step now) x) y))

module _ (a b c : FolderState) (x y : List (Step × ℕ)) (same : b.folder ≡ a.folder) (first : b.files ≡ after_steps a.files x) (last : c.files ≡ after_steps b.files y)
    (lasts : a.pending ≡ true → b.pending ≡ true) (still : b.pending ≡ true → c.pending ≡ true) where
  abbrev top : Path
  top = tree_path a.folder

  never : {A : Type 0} → b.pending ≡ true → b.pending ≡ false → A
  never p q = absurd (let no : true ≡ false = sym p ∙ q in cc)

  asked_then : changes_for top a.files x ++ changes_for (tree_path b.folder) b.files y ≡ changes_for top a.files (x ++ y)
  asked_then =
      ap (λ (f : Path). changes_for top a.files x ++ changes_for (tree_path f) b.files y) same
      ∙ ap (λ (t : Files). changes_for top a.files x ++ changes_for top t y) first
      ∙ sym (changes_then top a.files x y)

  resting : y ≡ [] → c.content ≡ b.content → c.changes ≡ b.changes → HasAsked x a b → HasAsked (x ++ y) a c
  resting none content changes asked = subst (λ (done : List (Step × ℕ)). HasAsked done a c) (sym (append-nil x) ∙ ap (λ rest. x ++ rest) (sym none)) (by asked)
    where
      unmoved : c.files ≡ b.files
      unmoved = last ∙ ap (after_steps b.files) none

      here : (made : List Change) → HasMade made a.content b.content a.changes b.changes → HasMade made a.content c.content a.changes c.changes
      here made has =
          subst (λ (o : Option Content). HasMade made a.content o a.changes c.changes) (sym content)
          (subst (λ (o : Option (List Change)). HasMade made a.content b.content a.changes o) (sym changes) has)

      by : HasAsked x a b → HasAsked x a c
      by (all_made began made) = all_made began (here (changes_for top a.files x) made)
      by (one_more step began pending can fits made) =
          one_more step began (still pending) (subst (λ (t : Files). Can (places t) step) (sym unmoved) can) fits
          (here (changes_for top a.files x ++ option_to_list (change_for top (places c.files) step))
          (subst (λ (t : Files). HasMade (changes_for top a.files x ++ option_to_list (change_for top (places t) step)) a.content b.content a.changes b.changes) (sym unmoved) made))
      by (at_rest pending none_before same_content same_changes) = at_rest pending none_before (content ∙ same_content) (changes ∙ same_changes)

  asked_on : HasAsked x a b → HasAsked y b c → HasAsked (x ++ y) a c
  asked_on p (at_rest pending none content changes) = resting none content changes p
  asked_on (all_made began made) (all_made again more) =
      all_made began (subst (λ (all : List Change). HasMade all a.content c.content a.changes c.changes) asked_then
      (made_on (changes_for top a.files x) (changes_for (tree_path b.folder) b.files y) a.content b.content c.content a.changes b.changes c.changes made more))
  asked_on (all_made began made) (one_more step again pending can fits more) =
      let one = option_to_list (change_for (tree_path b.folder) (places c.files) step) in
      let one_here = option_to_list (change_for top (places c.files) step) in
      let all : changes_for top a.files x ++ (changes_for (tree_path b.folder) b.files y ++ one) ≡ changes_for top a.files (x ++ y) ++ one_here =
      sym (append_assoc (changes_for top a.files x) (changes_for (tree_path b.folder) b.files y) one)
      ∙ ap (λ before. before ++ one) asked_then
      ∙ ap (λ (f : Path). changes_for top a.files (x ++ y) ++ option_to_list (change_for (tree_path f) (places c.files) step)) same in
      one_more step began pending can fits (subst (λ (changes : List Change). HasMade changes a.content c.content a.changes c.changes) all
      (made_on (changes_for top a.files x) (changes_for (tree_path b.folder) b.files y ++ one) a.content b.content c.content a.changes b.changes c.changes made more))
  asked_on (one_more step began pending can fits made) (all_made again more) = never pending again
  asked_on (one_more step began pending can fits made) (one_more other again later can_too fits_too more) = never pending again
  asked_on (at_rest pending none content changes) (all_made again more) = never (lasts pending) again
  asked_on (at_rest pending none content changes) (one_more step again later can fits more) = never (lasts pending) again

-- Two moves, one after the other, are one move.
pub moves_on : (a b c : FolderState) → Moves a b → Moves b c → Moves a c
moves_on a b c first last = record {
  same = last.same ∙ first.same;
  outside = outside_on a.folder a.content b.content c.content first.outside (subst (λ (x : Path). IsSameOutside x b.content c.content) first.same last.outside);
  count = omega (arith, first.count, last.count);
  lasts = λ h. last.lasts (first.lasts h);
  near = λ h. by (last.near h);
  steps = first.steps ++ last.steps;
  recorded =
      last.recorded ∙ ap (λ before. before ++ map (λ s. s.0) last.steps) first.recorded
      ∙ append_assoc a.steps (map (λ s. s.0) first.steps) (map (λ s. s.0) last.steps)
      ∙ ap (λ after. a.steps ++ after) (sym (map-append (λ s. s.0) first.steps last.steps));
  reached = last.reached ∙ ap (λ (t : Files). after_steps t last.steps) first.reached ∙ sym (steps_then a.files first.steps last.steps);
  asked = asked_on a b c first.steps last.steps first.same first.reached last.reached first.lasts last.lasts first.asked last.asked;
}
  where
    by : IsAtRest b c ⊎ IfSome c.content (λ x. IsAtMostAhead b.folder c.files (held x)) → IsAtRest a c ⊎ IfSome c.content (λ x. IsAtMostAhead a.folder c.files (held x))
    by (inl rest) = near_on a b c first rest (first.near rest.pending)
    by (inr near) = inr (subst (λ (f : Path). IfSome c.content (λ x. IsAtMostAhead f c.files (held x))) first.same near)

-- A value is equal to itself.
pub same : {X : Type 0} (a : X) → a ≡ a
same a = refl

-- If b is equal to a, and c to b, then c is equal to a.
pub same_on : {X : Type 0} (a b c : X) → b ≡ a → c ≡ b → c ≡ a
same_on a b c p q = q ∙ p
