-- A step that moves an object with nothing below it leaves the content of every other path, also below the places of the move.
use Rattle.std.specs.Prelude.{◌≡◌, ℕ, Bool, true, false, cond, List, [], ◌∷◌, ◌++◌, Option, Some, None, is_some, refl, ⊤}
use Rattle.std.proofs.Common.{sym, ap, subst, inl, inr, ◌⊎◌, ◌∙◌, append-nil, append_assoc}
use Rattle.pv_path.specs.Paths.{Path, same_path, same_path-decides, rest_under, is_prefix}
use Rattle.pv_path.proofs.PathLaws.{same_path-refl, rest_under-Some, prefix_parts}
use Rattle.pv_steps.specs.declared.object.Object.{Object}
use Rattle.pv_steps.specs.declared.step.Step.{Step}
use Rattle.pv_steps.specs.declared.step.Step.TheVariants.{MakeDir, MakeFile, MakeFifo, MakeDevice, MakeLink, Write, SetMode, SetOwner, SetAcl, SetAttrs, SetLetters, SetStamps, Rename, Unlink, RemoveDir}
use Rattle.pv_steps.specs.Trees.{Files, Places, places, IsEmptyIn, IsTree, IsTreeIn}
use Rattle.pv_steps.proofs.TreeLaws.{not_absent, present_above, directory_above}
use Rattle.pv_steps.specs.Steps.{Can, Movable, Yields, absent, objects, directories, after, after_at, moved, moved_at, touched}
use Rattle.pv_steps.proofs.StepLaws.{at_after}
use Rattle.pv_steps.specs.Runs.{after_all, Along}
use Rattle.pv_steps.specs.Content.{content_of, alters, IsOutside, AreOutside}
use Rattle.pv_steps.proofs.ContentLaws.{content-after_at, content-touched}

-- whether a step leaves the content of a path: it does not alter it, or it moves what has nothing below it from and to other paths
abbrev pub Leaves : Places → Step → Path → Type 0
Leaves t (Rename from to) q = (alters (Rename from to) q ≡ false) ⊎ (IsEmptyIn t from × (same_path from q ≡ false) × (same_path to q ≡ false))
Leaves t step q = alters step q ≡ false

-- each step of a run leaves the content of a path
abbrev pub LeavesAll : Files → List Step → ℕ → Path → Type 0
LeavesAll t [] now q = ⊤
LeavesAll t (step ∷ steps) now q = Leaves (places t) step q × LeavesAll (after t step now) steps now q

nothing-or : (o : Option Object) → (is_some o ≡ true → ⊥) → o ≡ None
nothing-or None h = refl
nothing-or (Some x) h = absurd (h refl)

module _ (t : Places) (tree : IsTreeIn t) where
  below_empty : (path : Path) → IsEmptyIn t path → (name : List ℕ) (rest : Path) → t (path ++ name ∷ rest) ≡ None
  below_empty path empty name rest = nothing-or (t (path ++ name ∷ rest)) (λ h.
      not_absent t (path ++ name ∷ []) (present_above t tree (path ++ name ∷ []) rest (subst (λ p. is_some (t p) ≡ true) (sym (append_assoc path (name ∷ []) rest)) h)) (empty name))

  below_yielding : (from to : Path) → Yields t from to → (name : List ℕ) (rest : Path) → t (to ++ name ∷ rest) ≡ None
  below_yielding from to (absent none) name rest = nothing-or (t (to ++ name ∷ rest)) (λ h. not_absent t to (present_above t tree to (name ∷ rest) h) none)
  below_yielding from to (objects a b) name rest = nothing-or (t (to ++ name ∷ rest)) (λ h. b.1 (directory_above t tree to name rest h))
  below_yielding from to (directories a b empty) name rest = below_empty to empty name rest

  module _ (from to : Path) (can : Movable t from to) (empty : IsEmptyIn t from) (now : ℕ) (q : Path) (off : same_path from q ≡ false) (apart : same_path to q ≡ false) where
    not_at : (path : Path) → same_path path q ≡ false → q ≡ path ++ [] → ⊥
    not_at path d e = absurd (let no : true ≡ false = sym (same_path-refl path) ∙ ap (same_path path) (sym (e ∙ append-nil path)) ∙ d in cc)

    content-moved_empty : content_of (moved now from to t q) ≡ content_of (t q)
    content-moved_empty = by (rest_under to q) refl
      where
        under : (r : Path) → q ≡ to ++ r → content_of (moved_at now from to t q (Some r)) ≡ content_of (t q)
        under [] e = absurd (not_at to apart e)
        under (name ∷ rest) e = ap content_of (below_empty from empty name rest ∙ sym (ap t e ∙ below_yielding from to can.yields name rest))

        gone : (r : Path) → q ≡ from ++ r → None ≡ content_of (t q)
        gone [] e = absurd (not_at from off e)
        gone (name ∷ rest) e = ap content_of (sym (ap t e ∙ below_empty from empty name rest))

        elsewhere : (b : Bool) → is_prefix from q ≡ b → content_of (cond b None (touched now from (touched now to t) q)) ≡ content_of (t q)
        elsewhere true e = let parts = prefix_parts from q e in gone parts.0 parts.1
        elsewhere false e = content-touched now from (touched now to t) q ∙ content-touched now to t q

        by : (r : Option Path) → rest_under to q ≡ r → content_of (moved_at now from to t q r) ≡ content_of (t q)
        by (Some r) e = under r (rest_under-Some to q r e)
        by None e = elsewhere (is_prefix from q) refl

leaves_at : (t : Places) → IsTreeIn t → (step : Step) → Can t step → (now : ℕ) (q : Path) → Leaves t step q → content_of (after_at t step now q) ≡ content_of (t q)
leaves_at t tree (Rename from to) can now q (inl d) = content-after_at t (Rename from to) now q d
leaves_at t tree (Rename from to) can now q (inr e) = content-moved_empty t tree from to can e.0 now q e.1 e.2
leaves_at t tree step can now q d = content-after_at t step now q d

-- a run whose steps leave the content of a path leaves it
pub content-run : (t : Files) (steps : List Step) (now : ℕ) (q : Path) → Along IsTree t steps now → LeavesAll t steps now q
    → content_of (places (after_all t steps now) q) ≡ content_of (places t q)
content-run t [] now q along leaves = refl
content-run t (step ∷ steps) now q along leaves =
    content-run (after t step now) steps now q along.1.1 leaves.1
    ∙ ap (λ (p : Places). content_of (p q)) (at_after t step now)
    ∙ leaves_at (places t) along.0 step along.1.0.can now q leaves.0

-- ---- steps outside of some paths

module _ (inside : Path → Bool) where
  another : (p q : Path) → inside p ≡ false → inside q ≡ true → same_path p q ≡ false
  another p q out is = by (same_path p q) refl
    where
      by : (b : Bool) → same_path p q ≡ b → b ≡ false
      by true e = absurd (let no : true ≡ false = sym is ∙ ap inside (sym ((same_path-decides p q).0 e)) ∙ out in cc)
      by false e = refl

  outside_leaves : (t : Places) (step : Step) (q : Path) → inside q ≡ true → IsOutside inside t step → Leaves t step q
  outside_leaves t (MakeDir path) q is out = another path q out is
  outside_leaves t (MakeFile path) q is out = another path q out is
  outside_leaves t (MakeFifo path) q is out = another path q out is
  outside_leaves t (MakeDevice path block major minor) q is out = another path q out is
  outside_leaves t (MakeLink path target) q is out = another path q out is
  outside_leaves t (Write path content) q is out = another path q out is
  outside_leaves t (SetMode path mode) q is out = refl
  outside_leaves t (SetOwner path uid gid) q is out = refl
  outside_leaves t (SetAcl path acl) q is out = refl
  outside_leaves t (SetAttrs path attrs) q is out = refl
  outside_leaves t (SetLetters path letters) q is out = refl
  outside_leaves t (SetStamps path access modify) q is out = refl
  outside_leaves t (Rename from to) q is out = inr (out.0, another from q out.1.0 is, another to q out.1.1 is)
  outside_leaves t (Unlink path) q is out = another path q out is
  outside_leaves t (RemoveDir path) q is out = another path q out is

  outside_leaves_all : (t : Files) (steps : List Step) (now : ℕ) (q : Path) → inside q ≡ true → AreOutside inside t steps now → LeavesAll t steps now q
  outside_leaves_all t [] now q is out = tt
  outside_leaves_all t (step ∷ steps) now q is out = (outside_leaves (places t) step q is out.0, outside_leaves_all (after t step now) steps now q is out.1)

  -- a run outside of some paths leaves the content of each of them
  pub content-outside : (t : Files) (steps : List Step) (now : ℕ) → Along IsTree t steps now → AreOutside inside t steps now
      → (q : Path) → inside q ≡ true → content_of (places (after_all t steps now) q) ≡ content_of (places t q)
  content-outside t steps now along out q is = content-run t steps now q along (outside_leaves_all t steps now q is out)
