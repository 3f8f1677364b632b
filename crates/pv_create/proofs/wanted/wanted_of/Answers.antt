use Rattle.std.proofs.lemmas.Result.{IfOk-from_err}
use Rattle.std.proofs.Common.{◌≡◌, true, false, inl, inr, ◌⊎◌, sym, ◌∙◌, refl}
use Rattle.pv_steps.specs.declared.node.Kind.{Kind}
use Rattle.pv_steps.specs.declared.node.Kind.TheVariants.{Directory, File, Link, Fifo, CharDevice, BlockDevice}
use Rattle.pv_walk.specs.Nodes.{is_file}
use Rattle.pv_create.specs.Sets.{writes}
use Rattle.pv_create.proofs.AdjustLaws.{wanted_without}
use Rattle.pv_create.proofs.wanted.wanted_of.Goals as goal
use Rattle.pv_create.proofs.wanted.wanted_of.Goals.{else-eq-via-then-eq+else-writes, else-eq-via-else-eq}

no_file : (kind : Kind) → (kind ≡ File → ⊥) → is_file kind ≡ false
no_file Directory other = refl
no_file File other = absurd (other refl)
no_file Link other = refl
no_file Fifo other = refl
no_file CharDevice other = refl
no_file BlockDevice other = refl

pub returns : goal.returns
returns g c =
    let none : (writes c.args.sets.now ≡ false) ⊎ (is_file c.args.node.now.kind ≡ false) = elim c.else-eq.branch [
      | else-eq-via-then-eq+else-writes w ↦ inl (sym w.writes.ensures ∙ w.if-writes.false)
      | else-eq-via-else-eq w ↦ inr (no_file c.args.node.now.kind (λ e. let yes : c.eq.result ≡ true = rw e at c.eq.ensures in let wrong : true ≡ false = sym yes ∙ w.if-eq.false in cc))
    ] in
    λ o there. wanted_without c.args.path.now (g.T.Tree.state c.args.tree.now) c.args.sets.now c.requires.sets c.args.node.now c.requires.node none c.in_ok-new-2.new (rw c.in_ok-of-2.ensures at c.in_ok-new-2.ensures) o there

pub returns-in_err-of : goal.returns-in_err-of
returns-in_err-of g c = IfOk-from_err c.from_residual.result _ c.from_residual.ensures.0

pub returns-in_err-new : goal.returns-in_err-new
returns-in_err-new g c = IfOk-from_err c.from_residual-in_err-new.result _ c.from_residual-in_err-new.ensures.0

pub returns-in_err-of-2 : goal.returns-in_err-of-2
returns-in_err-of-2 g c = IfOk-from_err c.from_residual-in_err-of-2.result _ c.from_residual-in_err-of-2.ensures.0

pub returns-in_err-new-2 : goal.returns-in_err-new-2
returns-in_err-new-2 g c = IfOk-from_err c.from_residual-in_err-new-2.result _ c.from_residual-in_err-new-2.ensures.0
