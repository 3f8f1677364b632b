-- Laws of how many steps take some paths away: one for each path that goes.
use Rattle.std.specs.Prelude.{◌≡◌, ℕ, ◌+◌, Bool, true, false, cond, List, [], ◌∷◌, length, drop, filter, None, is_some, option_map}
use Rattle.std.proofs.Common.{refl, sym, ap, ◌∙◌, arith, inl, inr, ◌⊎◌}
use Rattle.std.specs.List.{AllByRecursion}
use Rattle.std.specs.FinMap as fin
use Rattle.std.proofs.Math.Seq.{drop-append_seam}
use Rattle.pv_path.specs.Paths.{Path, same_path}
use Rattle.pv_steps.specs.declared.node.Kind.TheVariants.{Directory}
use Rattle.pv_steps.specs.declared.object.Object.{Object}
use Rattle.pv_steps.specs.declared.step.Step.{Step}
use Rattle.pv_steps.specs.declared.step.Step.TheVariants.{MakeDir, MakeFile, MakeFifo, MakeDevice, MakeLink, Write, SetMode, SetOwner, SetAcl, SetAttrs, SetLetters, SetStamps, Rename, Unlink, RemoveDir}
use Rattle.pv_steps.specs.Content.{Removes}
use Rattle.pv_steps.specs.Runs.{after_all, Along, Ran}
use Rattle.pv_steps.specs.Steps.{after, gone, put_at, Can}
use Rattle.pv_steps.specs.Trees.{Files, places, IsPresent}
use Rattle.pv_steps.proofs.StepLaws.{at_after, is_some-touched}
use Rattle.pv_steps.proofs.TreeLaws.{present_of_kind}
use Rattle.pv_walk.specs.Listing.{times}
use Rattle.pv_walk.specs.Removal.{loses_child}
use Rattle.pv_walk.proofs.CountLaws.{length-times, same_or_not, times-filter, times-keys}
use Rattle.pv_walk.specs.Whole.{count_of}
use Rattle.pv_table.specs.Removed.{files_without}
use Rattle.pv_table.proofs.GoingLaws.{places-without}

module _ (goes : Path → Bool) where
  -- how often a path stands among those of a tree that go
  counted : (t : Files) (q : Path) (g i : Bool) → goes q ≡ g → is_some (places t q) ≡ i → times q (filter goes (fin.keys t)) ≡ cond g (cond i 1 0) 0
  counted t q g i e h =
      times-filter goes q (fin.keys t)
      ∙ ap (λ (n : ℕ). cond (goes q) n 0) (times-keys t q ∙ ap (λ b. cond {A = ℕ} b 1 0) h)
      ∙ ap (λ b. cond {A = ℕ} b (cond i 1 0) 0) e

  -- with a path that went, one path fewer goes
  one_less : (t u : Files) (p : Path) (now : ℕ) → places u ≡ gone now p (places t) → IsPresent t p → goes p ≡ true → count_of goes t ≡ 1 + count_of goes u
  one_less t u p now is there went =
      let more = length-times (p ∷ filter goes (fin.keys u)) (filter goes (fin.keys t)) (λ q. let e = one q (same_or_not p q) in omega (arith, e)) in
      let fewer = length-times (filter goes (fin.keys t)) (p ∷ filter goes (fin.keys u)) (λ q. let e = one q (same_or_not p q) in omega (arith, e)) in
      omega (arith, more, fewer)
    where
      left : (q : Path) → is_some (places u q) ≡ is_some (put_at p None (places t) q)
      left q = ap (λ o. is_some o) (λ i. is i q) ∙ is_some-touched now p (put_at p None (places t)) q

      one : (q : Path) → ((p ≡ q) × (same_path p q ≡ true)) ⊎ (same_path p q ≡ false) → times q (p ∷ filter goes (fin.keys u)) ≡ times q (filter goes (fin.keys t))
      one q (inl s) =
          let goes_there : goes q ≡ true = ap goes (sym s.0) ∙ went in
          let stood : is_some (places t q) ≡ true = ap (λ r. is_some (places t r)) (sym s.0) ∙ there in
          let no : is_some (places u q) ≡ false = left q ∙ ap (λ b. is_some (cond b None (places t q))) s.1 in
          let behind = counted u q true false goes_there no in
          let before = counted t q true true goes_there stood in
          let here : ◌≡◌ {A = ℕ} (cond (same_path p q) 1 0) 1 = ap (λ b. cond {A = ℕ} b 1 0) s.1 in
          omega (arith, behind, before, here)
      one q (inr d) =
          let same : is_some (places u q) ≡ is_some (places t q) = left q ∙ ap (λ b. is_some (cond b None (places t q))) d in
          let behind = counted u q (goes q) (is_some (places t q)) refl same in
          let before = counted t q (goes q) (is_some (places t q)) refl refl in
          let here : ◌≡◌ {A = ℕ} (cond (same_path p q) 1 0) 0 = ap (λ b. cond {A = ℕ} b 1 0) d in
          omega (arith, behind, before, here)

  -- a step that takes away a path that goes
  step_takes : (t : Files) (now : ℕ) (s : Step) → Can (places t) s → Removes goes s → count_of goes t ≡ 1 + count_of goes (after t s now)
  step_takes t now (Unlink path) can is = one_less t (after t (Unlink path) now) path now (at_after t (Unlink path) now) can.0 is
  step_takes t now (RemoveDir path) can is = one_less t (after t (RemoveDir path) now) path now (at_after t (RemoveDir path) now) (present_of_kind (places t) path Directory can.0) is
  step_takes t now (MakeDir path) can is = absurd is
  step_takes t now (MakeFile path) can is = absurd is
  step_takes t now (MakeFifo path) can is = absurd is
  step_takes t now (MakeDevice path block major minor) can is = absurd is
  step_takes t now (MakeLink path target) can is = absurd is
  step_takes t now (Write path content) can is = absurd is
  step_takes t now (SetMode path mode) can is = absurd is
  step_takes t now (SetOwner path uid gid) can is = absurd is
  step_takes t now (SetAcl path acl) can is = absurd is
  step_takes t now (SetAttrs path attrs) can is = absurd is
  step_takes t now (SetLetters path letters) can is = absurd is
  step_takes t now (SetStamps path access modify) can is = absurd is
  step_takes t now (Rename from to) can is = absurd is

  -- steps each of which does so
  steps_take : (P : Files → Type 0) (t : Files) (steps : List Step) (now : ℕ) → Along P t steps now → AllByRecursion (Removes goes) steps
      → count_of goes t ≡ length steps + count_of goes (after_all t steps now)
  steps_take P t [] now along are = omega arith
  steps_take P t (s ∷ steps) now along are =
      let first = step_takes t now s along.1.0.can are.0 in
      let rest = steps_take P (after t s now) steps now along.1.1 are.1 in
      omega (arith, first, rest)

  -- in what is left without the paths that go none goes
  none_goes : (change : Object → Object) (t u : Files) → u ≡ files_without goes change t → count_of goes u ≡ 0
  none_goes change t u is = let few = length-times (filter goes (fin.keys u)) [] (λ q. let e = by q (goes q) refl in omega (arith, e)) in omega (arith, few)
    where
      by : (q : Path) (b : Bool) → goes q ≡ b → ◌≡◌ {A = ℕ} (times q (filter goes (fin.keys u))) 0
      by q true e =
          let no : is_some (places u q) ≡ false = ap (λ (v : Files). is_some (places v q)) is ∙ ap (λ o. is_some o) (places-without goes change t q ∙ ap (λ b. cond b None (cond (loses_child goes t q) (option_map change (places t q)) (places t q))) e) in
          counted u q true false e no
      by q false e = counted u q false (is_some (places u q)) e refl

  -- a run that leaves a tree without the paths that go, and takes away such paths alone, has a step for each of them
  pub one_step_each : {P : Files → Type 0} {now : ℕ} {t u : Files} {h k : List Step} (change : Object → Object) → Ran P (Removes goes) now t h u k → u ≡ files_without goes change t
      → length (drop (length h) k) ≡ count_of goes t
  one_step_each {P = P} {now = now} {t = t} {u = u} {h = h} {k = k} change run is =
      let all = steps_take P t run.steps now run.along run.gives in
      let none = none_goes change t u is in
      let same : count_of goes u ≡ count_of goes (after_all t run.steps now) = ap (λ v. count_of goes v) run.reached in
      let stated : length (drop (length h) k) ≡ length run.steps = ap length (ap (drop (length h)) run.recorded ∙ drop-append_seam h run.steps) in
      omega (arith, all, none, same, stated)
