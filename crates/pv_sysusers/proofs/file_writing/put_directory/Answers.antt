use Rattle.std.proofs.lemmas.Result.{IfOk-from_err}
use Rattle.std.proofs.Common.{◌≡◌, ◌≤◌, ℕ, Bool, false, is_some, le_refl, sym, ap, subst, ◌∙◌, if◌then◌else◌}
use Rattle.pv_path.specs.Paths.{Path}
use Rattle.pv_path.proofs.Tests.{none_of}
use Rattle.pv_steps.specs.Trees.{IsAbsentIn, places}
use Rattle.pv_steps.proofs.ActingLaws.{acted_weaken}
use Rattle.pv_walk.specs.Preparing.{parent_file}
use Rattle.pv_walk.specs.Putting.{IsPutStep, Putting}
use Rattle.pv_layers.specs.Places.{etc}
use Rattle.pv_sysusers.specs.FileWriting.{PutsDirectory, directory_steps, most_directory}
use Rattle.pv_sysusers.specs.Turns.{NoneComes}
use Rattle.pv_sysusers.proofs.file_writing.put_directory.Goals as goal

pub returns-in_err-path-clause-ok : goal.returns-in_err-path-clause-ok
returns-in_err-path-clause-ok g c = IfOk-from_err c.from_residual.result _ c.from_residual.ensures.0

pub returns-in_err-path-clause-directory : goal.returns-in_err-path-clause-directory
returns-in_err-path-clause-directory g c = IfOk-from_err c.from_residual.result _ c.from_residual.ensures.0

pub returns-clause-acted : goal.returns-clause-acted
returns-clause-acted g c =
    let t = g.T.Tree.state c.args.tree.now in
    let none : is_some (places t etc) ≡ false = sym (c.is_present.ensures.present ∙ ap (λ (p : Path). is_some (places t p)) c.in_ok-path.ensures) ∙ c.if-is_present.false in
    let absent : IsAbsentIn (places t) etc = none_of (places t etc) none in
    let most : directory_steps (places t) ≡ most_directory = ap (λ (b : Bool). if b then 0 else most_directory) none in
    acted_weaken g.T.Tree (Putting etc parent_file t) (Putting etc parent_file t) (IsPutStep etc parent_file) (PutsDirectory t) most_directory (directory_steps (places t)) (λ u h. h) (λ s q. (absent, q))
    (subst (λ (n : ℕ). most_directory ≤ n) (sym most) (le_refl most_directory)) c.make_directory.ensures.acted

pub returns-clause-below : goal.returns-clause-below
returns-clause-below g c =
    let t = g.T.Tree.state c.args.tree.now in
    let none : is_some (places t etc) ≡ false = sym (c.is_present.ensures.present ∙ ap (λ (p : Path). is_some (places t p)) c.in_ok-path.ensures) ∙ c.if-is_present.false in
    let absent : IsAbsentIn (places t) etc = none_of (places t etc) none in
    let most : directory_steps (places t) ≡ most_directory = ap (λ (b : Bool). if b then 0 else most_directory) none in
    acted_weaken g.T.Tree (NoneComes t) (NoneComes t) (IsPutStep etc parent_file) (PutsDirectory t) most_directory (directory_steps (places t)) (λ u h. h) (λ s q. (absent, q))
    (subst (λ (n : ℕ). most_directory ≤ n) (sym most) (le_refl most_directory)) c.make_directory.ensures.below
