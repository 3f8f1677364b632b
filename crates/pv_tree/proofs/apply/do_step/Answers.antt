use Rattle.std.proofs.Common.{◌≡◌, List, ℕ, [], refl, ap, sym, subst, ◌∙◌}
use Rattle.pv_path.specs.Paths.{Path, parent_of}
use Rattle.pv_steps.specs.declared.node.Kind.{Kind}
use Rattle.pv_steps.specs.declared.node.Kind.TheVariants.{Link}
use Rattle.pv_steps.specs.declared.step.Step.{Step}
use Rattle.pv_steps.specs.Objects.{fresh}
use Rattle.pv_steps.specs.Steps.{Can, HasRoom, Movable, after_at, moved, device_kind}
use Rattle.pv_tree.specs.Near.{place_of}
use Rattle.pv_tree.specs.Slots.{places_in}
use Rattle.pv_tree.proofs.State.{removable, removed_at, made_at, changed_at, done}
use Rattle.std.proofs.lemmas.Result.{IfOk-from_err}
use Rattle.pv_path.proofs.Tests.{on_ok}
use Rattle.pv_tree.specs.Edges.{Edges, led}
use Rattle.pv_tree.proofs.apply.do_step.Goals as goal

pub make-requires-clause-room : goal.make-requires-clause-room
make-requires-clause-room c = subst (HasRoom (places_in c.args.slots.now.items)) (sym (c.requires.path ∙ ap place_of c.in-MakeDir.is)) (subst (λ (s : Step). Can (places_in c.args.slots.now.items) s) c.in-MakeDir.is c.requires.can)

pub returns-in-MakeDir-clause-ok : goal.returns-in-MakeDir-clause-ok
returns-in-MakeDir-clause-ok c =
    done c.make.result _ _ _ (made_at (places_in c.args.slots.now.items) c.args.step.now _ c.args.at.path.now _ _ c.args.now c.requires.path c.in-MakeDir.is c.plain-object.ensures refl) c.make.ensures.ok

pub make-requires-in-MakeFile-clause-room : goal.make-requires-in-MakeFile-clause-room
make-requires-in-MakeFile-clause-room c = subst (HasRoom (places_in c.args.slots.now.items)) (sym (c.requires.path ∙ ap place_of c.in-MakeFile.is)) (subst (λ (s : Step). Can (places_in c.args.slots.now.items) s) c.in-MakeFile.is c.requires.can)

pub returns-in-MakeFile-clause-ok : goal.returns-in-MakeFile-clause-ok
returns-in-MakeFile-clause-ok c =
    done c.make-in-MakeFile.result _ _ _ (made_at (places_in c.args.slots.now.items) c.args.step.now _ c.args.at.path.now _ _ c.args.now c.requires.path c.in-MakeFile.is c.plain-object-in-MakeFile.ensures refl) c.make-in-MakeFile.ensures.ok

pub make-requires-in-MakeFifo-clause-room : goal.make-requires-in-MakeFifo-clause-room
make-requires-in-MakeFifo-clause-room c = subst (HasRoom (places_in c.args.slots.now.items)) (sym (c.requires.path ∙ ap place_of c.in-MakeFifo.is)) (subst (λ (s : Step). Can (places_in c.args.slots.now.items) s) c.in-MakeFifo.is c.requires.can)

pub returns-in-MakeFifo-clause-ok : goal.returns-in-MakeFifo-clause-ok
returns-in-MakeFifo-clause-ok c =
    done c.make-in-MakeFifo.result _ _ _ (made_at (places_in c.args.slots.now.items) c.args.step.now _ c.args.at.path.now _ _ c.args.now c.requires.path c.in-MakeFifo.is c.plain-object-in-MakeFifo.ensures refl) c.make-in-MakeFifo.ensures.ok

pub make-requires-in-MakeDevice-clause-room : goal.make-requires-in-MakeDevice-clause-room
make-requires-in-MakeDevice-clause-room c = subst (HasRoom (places_in c.args.slots.now.items)) (sym (c.requires.path ∙ ap place_of c.in-MakeDevice.is)) (subst (λ (s : Step). Can (places_in c.args.slots.now.items) s) c.in-MakeDevice.is c.requires.can)

pub returns-in-MakeDevice-clause-ok : goal.returns-in-MakeDevice-clause-ok
returns-in-MakeDevice-clause-ok c =
    let object : c.fresh-object.result ≡ fresh (device_kind c.in-MakeDevice.block) 0o600 [] c.in-MakeDevice.major c.in-MakeDevice.minor c.args.now =
    c.fresh-object.ensures ∙ ap (λ (b : List ℕ). fresh c.device_kind-kind.result 0o600 b c.in-MakeDevice.major c.in-MakeDevice.minor c.args.now) c.new.ensures
    ∙ ap (λ (k : Kind). fresh k 0o600 [] c.in-MakeDevice.major c.in-MakeDevice.minor c.args.now) c.device_kind-kind.ensures in
    done c.make-in-MakeDevice.result _ _ _ (made_at (places_in c.args.slots.now.items) c.args.step.now _ c.args.at.path.now _ _ c.args.now c.requires.path c.in-MakeDevice.is object refl) c.make-in-MakeDevice.ensures.ok

pub make-requires-in-MakeLink-clause-room : goal.make-requires-in-MakeLink-clause-room
make-requires-in-MakeLink-clause-room c =
    subst (HasRoom (places_in c.args.slots.now.items)) (sym (c.requires.path ∙ ap place_of c.in-MakeLink.is)) (subst (λ (s : Step). Can (places_in c.args.slots.now.items) s) c.in-MakeLink.is c.requires.can).0

pub rename-requires-clause-movable : goal.rename-requires-clause-movable
rename-requires-clause-movable c =
    subst (Movable (places_in c.args.slots.now.items) c.in-Rename.from) (sym (c.requires.path ∙ ap place_of c.in-Rename.is)) (subst (λ (s : Step). Can (places_in c.args.slots.now.items) s) c.in-Rename.is c.requires.can)

pub unmake-requires-clause-removable : goal.unmake-requires-clause-removable
unmake-requires-clause-removable c = removable (places_in c.args.slots.now.items) c.args.step.now c.args.at.path.now c.requires.tree c.requires.path c.in-Unlink.is c.requires.can

pub returns-in-Write-clause-ok : goal.returns-in-Write-clause-ok
returns-in-Write-clause-ok c =
    done c.change_at.result _ _ _ (changed_at (places_in c.args.slots.now.items) c.args.step.now c.args.at.path.now c.args.now c.requires.path c.in-Write.is) c.change_at.ensures.ok

pub returns-in-Rename-clause-ok : goal.returns-in-Rename-clause-ok
returns-in-Rename-clause-ok c =
    done c.rename.result _ _ _
    (ap (λ (p : Path). moved c.args.now c.in-Rename.from p (places_in c.args.slots.now.items)) (c.requires.path ∙ ap place_of c.in-Rename.is)
    ∙ subst (λ (s : Step). moved c.args.now c.in-Rename.from c.in-Rename.to (places_in c.args.slots.now.items) ≡ after_at (places_in c.args.slots.now.items) s c.args.now) (sym c.in-Rename.is) refl)
    c.rename.ensures.ok

pub returns-in-Unlink-clause-ok : goal.returns-in-Unlink-clause-ok
returns-in-Unlink-clause-ok c =
    done c.unmake.result _ _ _ (removed_at (places_in c.args.slots.now.items) c.args.step.now c.args.at.path.now c.args.now c.requires.path c.in-Unlink.is) c.unmake.ensures.ok

pub returns-in_ok-copy-in-MakeLink-clause-ok : goal.returns-in_ok-copy-in-MakeLink-clause-ok
returns-in_ok-copy-in-MakeLink-clause-ok c =
    let object : c.fresh-object-in-MakeLink.result ≡ fresh Link 0o777 c.in-MakeLink.target 0 0 c.args.now =
    c.fresh-object-in-MakeLink.ensures ∙ ap (λ (b : List ℕ). fresh Link 0o777 b 0 0 c.args.now) c.in_ok-copy-in-MakeLink.ensures in
    done c.make-in-MakeLink.result _ _ _ (made_at (places_in c.args.slots.now.items) c.args.step.now _ c.args.at.path.now _ _ c.args.now c.requires.path c.in-MakeLink.is object refl) c.make-in-MakeLink.ensures.ok

pub returns-in_err-copy-in-MakeLink-clause-ok : goal.returns-in_err-copy-in-MakeLink-clause-ok
returns-in_err-copy-in-MakeLink-clause-ok c = IfOk-from_err c.from_residual.result _ c.from_residual.ensures.0

pub returns-in_err-copy-in-MakeLink-clause-directory : goal.returns-in_err-copy-in-MakeLink-clause-directory
returns-in_err-copy-in-MakeLink-clause-directory c = IfOk-from_err c.from_residual.result _ c.from_residual.ensures.0

pub returns-in-Write-clause-free : goal.returns-in-Write-clause-free
returns-in-Write-clause-free c = c.change_at.ensures.free c.args.free.now.items c.requires.free

pub returns-in-Write-clause-directory : goal.returns-in-Write-clause-directory
returns-in-Write-clause-directory c = on_ok c.change_at.result (λ _. ap (λ (g : Edges). led g 0 (parent_of c.args.at.path.now)) c.change_at.ensures.edges ∙ c.requires.directory) c.change_at.ensures.ok
