use Rattle.std.proofs.lemmas.Result.{IfOk-from_err}
use Rattle.std.proofs.Common.{◌≡◌, List, ℕ, Option, Some, IfSome, true, false, sym, ap, subst, ◌∙◌, refl, inl, arith, length, ◌+◌, ◌-◌}
use Rattle.pv_path.specs.Names.{same_bytes}
use Rattle.pv_steps.specs.declared.node.Kind.TheVariants.{File}
use Rattle.pv_steps.specs.declared.step.Step.TheVariants.{Write}
use Rattle.pv_steps.specs.Acting.{Acted}
use Rattle.pv_steps.specs.Trees.{IsKind}
use Rattle.pv_steps.proofs.ActingLaws.{Moves, well, acted_none, acted_tried, no_memory}
use Rattle.pv_walk.specs.SettingMetadata.{IsKeptBy}
use Rattle.pv_walk.specs.Changing.{Changing}
use Rattle.pv_create.specs.Adjusting.{GivesBytes, GivesWanted, holding}
use Rattle.pv_create.proofs.WritingLaws.{held_already, asks_bytes, wrote_ok, not_kept}
use Rattle.pv_create.proofs.object.give_bytes.Goals as goal

pub returns-then-is_same-clause-ok : goal.returns-then-is_same-clause-ok
returns-then-is_same-clause-ok g c =
    let t = g.T.Tree.state c.args.tree.now in
    let path = c.args.path.now in
    let file : IsKind File t path = subst (λ (w : Option (List ℕ)). IfSome w (λ bytes. IsKind File t path)) c.in-Some.is c.requires in
    let same : same_bytes c.bytes.result.now c.in-Some.bytes ≡ true = ap (same_bytes c.bytes.result.now) (sym c.as_slice.ensures) ∙ sym c.is_same.ensures ∙ c.if-is_same.true in
    rw c.in-Some.is (held_already path t file c.bytes.result.now c.in-Some.bytes c.bytes.ensures.content c.args.now same)

pub returns-clause-ok : goal.returns-clause-ok
returns-clause-ok g c =
    let t = g.T.Tree.state c.args.tree.now in
    let path = c.args.path.now in
    let file : IsKind File t path = subst (λ (w : Option (List ℕ)). IfSome w (λ bytes. IsKind File t path)) c.in-Some.is c.requires in
    let other : same_bytes c.bytes.result.now c.in-Some.bytes ≡ false = ap (same_bytes c.bytes.result.now) (sym c.as_slice.ensures) ∙ sym c.is_same.ensures ∙ c.if-is_same.false in
    rw c.in-Some.is
    (wrote_ok path t file c.bytes.result.now c.in-Some.bytes c.bytes.ensures.content c.args.now other c.try_step.result (g.T.Tree.state c.try_step.new.tree) (rw (c.in_ok-copy.ensures, c.in_ok-copy-2.ensures) at c.try_step.ensures.state))

pub returns-clause-acted : goal.returns-clause-acted
returns-clause-acted g c =
    let t = g.T.Tree.state c.args.tree.now in
    let path = c.args.path.now in
    let bytes = c.in-Some.bytes in
    let file : IsKind File t path = subst (λ (w : Option (List ℕ)). IfSome w (λ bytes. IsKind File t path)) c.in-Some.is c.requires in
    let other : same_bytes c.bytes.result.now c.in-Some.bytes ≡ false = ap (same_bytes c.bytes.result.now) (sym c.as_slice.ensures) ∙ sym c.is_same.ensures ∙ c.if-is_same.false in
    subst (λ (w : Option (List ℕ)). Acted g.T.Tree (Changing path (holding w) t) (GivesWanted path w t) 1 c.args.now c.args.tree.now c.try_step.new.tree c.try_step.result) (sym c.in-Some.is)
    (acted_tried g.T.Tree (Changing path (holding (Some bytes)) t) (GivesBytes path bytes t) (Write path bytes) c.args.now c.args.tree.now c.try_step.new.tree c.try_step.result
    (rw (c.in_ok-copy.ensures, c.in_ok-copy-2.ensures) at c.try_step.ensures) (asks_bytes path t file c.bytes.result.now bytes c.bytes.ensures.content c.args.now other))

pub returns-clause-idle : goal.returns-clause-idle
returns-clause-idle g c =
    let t = g.T.Tree.state c.args.tree.now in
    let path = c.args.path.now in
    let file : IsKind File t path = subst (λ (w : Option (List ℕ)). IfSome w (λ bytes. IsKind File t path)) c.in-Some.is c.requires in
    let other : same_bytes c.bytes.result.now c.in-Some.bytes ≡ false = ap (same_bytes c.bytes.result.now) (sym c.as_slice.ensures) ∙ sym c.is_same.ensures ∙ c.if-is_same.false in
    λ kept. absurd (not_kept path t file c.bytes.result.now c.in-Some.bytes c.bytes.ensures.content c.args.now other (subst (λ (w : Option (List ℕ)). IsKeptBy (holding w) path t) c.in-Some.is kept))

pub returns-in_default-clause-acted : goal.returns-in_default-clause-acted
returns-in_default-clause-acted g c =
    let moves : Moves g.T.Tree = record { stays = g.met.T.Tree.reaches_self; goes_on = g.met.T.Tree.reaches_on; never_falls = g.met.T.Tree.never_falls } in
    let t = g.T.Tree.state c.args.tree.now in
    let path = c.args.path.now in
    let wanted = c.args.wanted.now in
    acted_none g.T.Tree moves (Changing path (holding wanted) t) (GivesWanted path wanted t) 1 c.args.now c.args.tree.now well refl (inl (λ q. refl))

pub returns-then-is_same-clause-acted : goal.returns-then-is_same-clause-acted
returns-then-is_same-clause-acted g c =
    let moves : Moves g.T.Tree = record { stays = g.met.T.Tree.reaches_self; goes_on = g.met.T.Tree.reaches_on; never_falls = g.met.T.Tree.never_falls } in
    let t = g.T.Tree.state c.args.tree.now in
    let path = c.args.path.now in
    let wanted = c.args.wanted.now in
    acted_none g.T.Tree moves (Changing path (holding wanted) t) (GivesWanted path wanted t) 1 c.args.now c.args.tree.now well refl (inl (λ q. refl))

pub returns-in_err-copy-clause-ok : goal.returns-in_err-copy-clause-ok
returns-in_err-copy-clause-ok g c = IfOk-from_err c.from_residual.result _ c.from_residual.ensures.0

pub returns-in_err-copy-clause-acted : goal.returns-in_err-copy-clause-acted
returns-in_err-copy-clause-acted g c =
    let moves : Moves g.T.Tree = record { stays = g.met.T.Tree.reaches_self; goes_on = g.met.T.Tree.reaches_on; never_falls = g.met.T.Tree.never_falls } in
    let t = g.T.Tree.state c.args.tree.now in
    let path = c.args.path.now in
    let wanted = c.args.wanted.now in
    acted_none g.T.Tree moves (Changing path (holding wanted) t) (GivesWanted path wanted t) 1 c.args.now c.args.tree.now c.from_residual.result (no_memory c.from_residual.result c.from_residual.ensures.1) (inl (λ q. refl))

pub returns-in_err-copy-2-clause-ok : goal.returns-in_err-copy-2-clause-ok
returns-in_err-copy-2-clause-ok g c = IfOk-from_err c.from_residual-in_err-copy-2.result _ c.from_residual-in_err-copy-2.ensures.0

pub returns-in_err-copy-2-clause-acted : goal.returns-in_err-copy-2-clause-acted
returns-in_err-copy-2-clause-acted g c =
    let moves : Moves g.T.Tree = record { stays = g.met.T.Tree.reaches_self; goes_on = g.met.T.Tree.reaches_on; never_falls = g.met.T.Tree.never_falls } in
    let t = g.T.Tree.state c.args.tree.now in
    let path = c.args.path.now in
    let wanted = c.args.wanted.now in
    acted_none g.T.Tree moves (Changing path (holding wanted) t) (GivesWanted path wanted t) 1 c.args.now c.args.tree.now c.from_residual-in_err-copy-2.result (no_memory c.from_residual-in_err-copy-2.result c.from_residual-in_err-copy-2.ensures.1) (inl (λ q. refl))

none_asked : (n refusals : ℕ) → refusals ≡ 0 → n - n + refusals ≡ 0
none_asked n refusals none = omega (arith, none)

pub returns-in_default-clause-idle : goal.returns-in_default-clause-idle
returns-in_default-clause-idle g c = λ _. none_asked (length (g.T.Tree.steps c.args.tree.now)) 0 refl

pub returns-then-is_same-clause-idle : goal.returns-then-is_same-clause-idle
returns-then-is_same-clause-idle g c = λ _. none_asked (length (g.T.Tree.steps c.args.tree.now)) 0 refl

pub returns-in_err-copy-clause-idle : goal.returns-in_err-copy-clause-idle
returns-in_err-copy-clause-idle g c = λ _. none_asked (length (g.T.Tree.steps c.args.tree.now)) _ (no_memory c.from_residual.result c.from_residual.ensures.1)

pub returns-in_err-copy-2-clause-idle : goal.returns-in_err-copy-2-clause-idle
returns-in_err-copy-2-clause-idle g c = λ _. none_asked (length (g.T.Tree.steps c.args.tree.now)) _ (no_memory c.from_residual-in_err-copy-2.result c.from_residual-in_err-copy-2.ensures.1)

pub bytes-requires : goal.bytes-requires
bytes-requires g c = subst (λ (w : Option (List ℕ)). IfSome w (λ bytes. IsKind File (g.T.Tree.state c.args.tree.now) c.args.path.now)) c.in-Some.is c.requires
